use Rattle.std.proofs.Common.{◌≡◌, true, OnOk, subst, rules}
use Rattle.quic_streams_parts.specs.Table.{at}
use Rattle.quic_retransmits.specs.Retransmits.{Retransmits}
use Rattle.quic_streams_halves.specs.Queued.{is_ended_at}
use Rattle.quic_streams_state.specs.Parts.{Sending}
use Rattle.quic_streams_state.specs.State.{StreamsState}
use Rattle.quic_streams_state.specs.Acked.{after_stream_acked}
use Rattle.quic_streams_state.proofs.Finishing.{ended_same}
use Rattle.quic_streams_state.proofs.state.StreamsState.take_ack.Goals as goal

pub returns-then-branch-clause-ok : goal.returns-then-branch-clause-ok
returns-then-branch-clause-ok c =
    let s : StreamsState = c.args.self.now in
    let m = c.args.frame.now in
    let ended : is_ended_at (at s.sending.halves.live m.id) ≡ true = search rules in
    let same = ended_same s.sending m c.ack_if_ready.new.self ended c.in_ok-ack_if_ready.ensures.ok in
    subst (λ (t : Sending). OnOk c.ack_finished.result ((p : Retransmits) → c.ack_finished.new.self ≡ (after_stream_acked (record s { sending = t }) p m).state)) same c.ack_finished.ensures.ok
