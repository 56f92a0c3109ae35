use Rattle.std.proofs.Common.{◌≡◌, List, length, Some, arith}
use Rattle.std.specs.Prelude.{slice_get}
use Rattle.quic_wire_core.specs.declared.stream_id.Side.TheVariants.{Client}
use Rattle.quic_machine.specs.declared.run.RunEvent.{RunEvent}
use Rattle.quic_machine.specs.declared.run.Answer.{Answer}
use Rattle.quic_worked.specs.Worked.{opens_stream}
use Rattle.quic_connection.specs.Stopping.{for_view, at_event}
use Rattle.quic_connection_rows.specs.Coming.{came}
use Rattle.quic_connection_rows.proofs.stopping.text_is_a_cause.Goals as goal

pub returns : goal.returns
unfolding came
returns c = λ (events : List RunEvent) (answers : List Answer) (at : slice_get events (length answers) ≡ Some opens_stream). at_event opens_stream at (for_view Client (omega arith))
