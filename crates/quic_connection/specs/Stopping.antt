-- Why calls stop early: memory beside the ends' own ran out.
use Rattle.std.specs.Prelude.{ℕ, ◌≡◌, ◌<◌, List, [], length, slice_get, Some}
use Rattle.quic_wire_core.specs.declared.stream_id.Side.{Side}
use Rattle.quic_wire_core.specs.StreamId.{other_side}
use Rattle.quic_machine.specs.declared.run.Call.{Call}
use Rattle.quic_machine.specs.declared.run.RunEvent.{RunEvent}
use Rattle.quic_machine.specs.declared.run.Answer.{Answer}
use Rattle.quic_machine.specs.Lacking.{TakesOfItsOwn}
use Rattle.quic_machine.specs.Machine.{World, end_at, given_by}
use Rattle.quic_connection.specs.Rooms.{told_len}

-- an event takes memory beside the ends' own
pub data TakesMemory (w : World) (event : RunEvent) : Type 0 where
  -- its call does
  for_call : TakesOfItsOwn (given_by (other_side event.side) w) event.call → TakesMemory w event
  -- the view behind it copies the text with which an end was closed by the other one
  for_view : (side : Side) → 0 < told_len (end_at side w).closing.reason → TakesMemory w event

-- why a run over these events stops behind so many answers, where both ends were left so
pub data StopsFor (events : List RunEvent) (answers : List Answer) (w : World) : Type 0 where
  -- there was no room for the answers and the views of all events: no call was made
  at_once : answers ≡ [] → StopsFor events answers w
  -- the next event takes memory
  at_event : (event : RunEvent) → slice_get events (length answers) ≡ Some event → TakesMemory w event → StopsFor events answers w

-- why calls at one end, to which these datagrams may be handed, stop behind so many answers
pub data StopsAloneFor (theirs : List (List ℕ)) (calls : List Call) (answers : List Answer) : Type 0 where
  -- there was no room for all answers: no call was made
  none_made : answers ≡ [] → StopsAloneFor theirs calls answers
  -- the next call takes memory of its own
  at_call : (call : Call) → slice_get calls (length answers) ≡ Some call → TakesOfItsOwn theirs call → StopsAloneFor theirs calls answers
