use Rattle.std.proofs.Common.{◌≡◌, List, None, subst}
use Rattle.std.specs.Option.{IfSome}
use Rattle.quic_sets.specs.Parts.{Part}
use Rattle.quic_assembler.specs.Arrived.{byte_at}
use Rattle.quic_assembler.proofs.Parts.Last.{last_dry}
use Rattle.quic_assembler.proofs.assembler.parts.Parts.last_touched.Goals as goal

pub returns-else-not-is_empty-clause-dry : goal.returns-else-not-is_empty-clause-dry
returns-else-not-is_empty-clause-dry c =
    let i = c.self.inside in
    let r = c.ends_at_last.result in
    subst (λ (ps : List Part). IfSome r (λ n. byte_at ps c.args.at ≡ None)) c.self.view_is (last_dry r c.args.at i.map c.self.invariant.apart c.ends_at_last.ensures.behind)
