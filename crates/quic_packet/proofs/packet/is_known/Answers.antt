use Rattle.std.proofs.Common.{rules, tests, ◌∙◌}
use Rattle.std.specs.Prelude.{nat_eq}
use Rattle.std.specs.Cmp.Lexicographic.{pointwise}
use Rattle.std.proofs.lemmas.Iterator.{YieldsList-from_slice}
use Rattle.std.proofs.lemmas.Iterator.Search.{any_from_yields_List}
use Rattle.quic_packet.proofs.Destinations.{any_mapped}
use Rattle.quic_packet.proofs.packet.is_known.Goals as goal

-- src/packet.rt:263:1
pub returns : goal.returns
returns g c =
    let id = c.args.id.now in
    let known = c.args.known.now in
    any_from_yields_List (λ x. pointwise nat_eq id (g.I.HasId.id_of x)) _ _ _ c.any.ensures.ran (YieldsList-from_slice known cc) (λ x b q k. search (rules, tests)) ∙ any_mapped (pointwise nat_eq id) g.I.HasId.id_of known
