use Rattle.std.proofs.Common.{◌≡◌, ◌∙◌, sym, subst, rules}
use Rattle.quic_send_buffer.specs.Buffered.{IsBuffered, after_poll}
use Rattle.quic_send_buffer.proofs.Buffered.Calls.{first_time, poll_lawful}
use Rattle.quic_send_buffer.proofs.send_buffer.SendBuffer.poll_transmit.Goals as goal

pub returns-clause-first_time : goal.returns-clause-first_time
returns-clause-first_time c = λ none_lost.
    let made : c.mark_sent.new.self ≡ after_poll c.args.self.now c.args.max_len = search rules in
    made ∙ first_time c.args.self.now c.args.max_len none_lost

pub returns-clause-lawful : goal.returns-clause-lawful
returns-clause-lawful c =
    let made : c.mark_sent.new.self ≡ after_poll c.args.self.now c.args.max_len = search rules in
    subst IsBuffered (sym made) (poll_lawful c.args.self.now c.args.max_len c.next_transmit-has_length.ensures.lawful)
