use Rattle.std.proofs.Common.{◌≡◌, Some, false, sym, ap, ◌∙◌, rules}
use Rattle.quic_streams_parts.specs.Table.{at}
use Rattle.quic_streams_parts.specs.SendHalf.{was_said}
use Rattle.quic_streams_state.specs.State.{Streams}
use Rattle.quic_streams_state.proofs.OwnLimit.{own_waits}
use Rattle.quic_streams_state.proofs.state.StreamsState.block_by_own.Goals as goal

pub returns-in-Some-clause-ok : goal.returns-in-Some-clause-ok
returns-in-Some-clause-ok c =
    let found : at c.args.self.now.sending.halves.live c.args.id ≡ Some c.in-Some.half.now = search rules in
    let unsaid : was_said c.in-Some.half.now.said c.in-Some.half.now.limit ≡ false = sym c.was_limit_said.ensures ∙ c.if-was_limit_said.false in
    sym (ap (λ (t : Streams). t.state) (own_waits c.args.self.now c.args.pending.now c.args.id c.in-Some.half.now found c.requires unsaid))
