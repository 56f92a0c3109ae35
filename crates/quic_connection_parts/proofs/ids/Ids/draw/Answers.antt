use Rattle.std.proofs.Common.{◌≡◌, ℕ, List, length, subst, sym, ap, ◌∙◌, arith}
use Rattle.quic_ids.specs.CidState.{Rise}
use Rattle.quic_connection_parts.specs.Drawn.{words_of}
use Rattle.quic_connection_parts.proofs.Living.{rises, numbers_of}
use Rattle.quic_connection_parts.proofs.Issued.{places_numbers}
use Rattle.quic_connection_parts.proofs.ids.Ids.draw.Goals as goal

pub draw_all-requires : goal.draw_all-requires
draw_all-requires g c = record { rise = subst (λ (l : List ℕ). Rise l 0) (sym c.self.invariant.0) (rises c.self.inside.own.living 0 c.self.inside.own.issued c.self.invariant.1) }

pub invariant_of-self : goal.invariant_of-self
invariant_of-self g c =
    let i = c.self.inside in
    let inv = c.self.invariant in
    let len : length c.clear.new.self.items ≡ 0 = ap length c.clear.ensures.items in
    let few = inv.3 in (
      ap numbers_of c.draw_all.ensures.living ∙ places_numbers c.deref.result.now (words_of g.R.Rng.stream c.args.random.now) (record { living = i.living.items; waiting = c.args.pending.now.new_cids }) ∙ inv.0,
      inv.1,
      inv.2,
      omega (arith, len, few),
    )
