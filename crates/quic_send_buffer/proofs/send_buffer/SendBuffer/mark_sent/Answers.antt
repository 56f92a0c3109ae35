use Rattle.quic_send_buffer.specs.contracts.send_buffer.SendBuffer.{the_view}
use Rattle.quic_send_buffer.proofs.Buffered.Calls.{least_at, start_small, sent_made}
use Rattle.quic_send_buffer.proofs.send_buffer.SendBuffer.mark_sent.Goals as goal

pub resend-requires-clause-least : goal.resend-requires-clause-least
resend-requires-clause-least c =
    let a = c.args in
    least_at (the_view c.self.inside) a.self.now c.self.view_is c.self.invariant a.range.start c.requires.start

pub resend-requires-clause-small : goal.resend-requires-clause-small
resend-requires-clause-small c =
    let a = c.args in
    start_small (the_view c.self.inside) a.self.now c.self.view_is c.self.invariant a.range.start c.requires.start

pub returns : goal.returns
returns c =
    let a = c.args in
    sent_made (the_view c.self.inside) a.self.now c.self.view_is c.self.invariant c.resend.new.lost c.max-self-inside.result a.range.start a.range.end c.max-self-inside.ensures c.resend.ensures.runs c.resend.ensures.ok
