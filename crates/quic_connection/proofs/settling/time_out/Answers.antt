use Rattle.quic_connection_parts.specs.Telling.{windows_of}
use Rattle.quic_connection.specs.Ends.{world_of}
use Rattle.quic_connection.specs.GoingOn.{go_then, are_on}
use Rattle.quic_connection.proofs.settling.time_out.Goals as goal

pub returns-clause-handled : goal.returns-clause-handled
returns-clause-handled g c = λ k are. record {
  client_answer = c.in_ok-step.field-0;
  middle = world_of (windows_of g.C.Controller.steps g.C.Controller.window_of) c.step.new.ends c.step.new.given;
  client = c.in_ok-step.ensures.step k are;
  server_answer = c.in_ok-step-2.field-0;
  server = c.in_ok-step-2.ensures.step k (are_on _ _ _ _ _ k _ _ are c.step.ensures.goes_on);
}

pub returns-clause-goes_on : goal.returns-clause-goes_on
returns-clause-goes_on g c = go_then _ _ _ _ c.step.ensures.goes_on c.step-2.ensures.goes_on
