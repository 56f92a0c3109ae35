use Rattle.std.proofs.lemmas.Result.{on_ok_weaker, on_err_weaker}
use Rattle.quic_send_buffer.specs.contracts.send_buffer.SendBuffer.{the_view}
use Rattle.quic_send_buffer.proofs.Buffered.Calls.{loss_made, flight_found}
use Rattle.quic_send_buffer.proofs.send_buffer.SendBuffer.retransmit.Goals as goal

pub returns-clause-ok : goal.returns-clause-ok
returns-clause-ok c =
    on_ok_weaker c.insert_lacking_into.result (loss_made (the_view c.self.inside) c.args.self.now c.self.view_is c.self.invariant c.insert_lacking_into.new.set c.args.range.start c.args.range.end c.min.result c.min.ensures c.insert_lacking_into.ensures.runs) c.insert_lacking_into.ensures.ok

pub returns-clause-in_flight : goal.returns-clause-in_flight
returns-clause-in_flight c =
    let a = c.args in
    on_err_weaker c.insert_lacking_into.result (flight_found (the_view c.self.inside) a.self.now c.self.view_is a.range.start a.range.end c.min.result c.min.ensures) c.insert_lacking_into.ensures.free
