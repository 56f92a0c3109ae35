-- A client that opens a stream and is told by its next call that it is closed, and one that is told
-- so of a stream that it stopped, finished or reset, or of which all was acknowledged.
use Rattle.std.specs.Prelude.{[], ◌∷◌, ◌++◌, replicate, Some, Ok, Err}
use Rattle.quic_wire_core.specs.declared.stream_id.Side.TheVariants.{Client}
use Rattle.quic_streams_parts.specs.declared.answers.FinishError.TheVariants as finish_errors
use Rattle.quic_streams_parts.specs.declared.answers.UpdateError.TheVariants as update_errors
use Rattle.quic_machine.specs.declared.run.RunEvent.{RunEvent}
use Rattle.quic_machine.specs.declared.run.Call.{Call}
use Rattle.quic_machine.specs.declared.run.Call.TheVariants as calls
use Rattle.quic_machine.specs.declared.run.Answer.{Answer}
use Rattle.quic_machine.specs.declared.run.Answer.TheVariants as answers
use Rattle.quic_machine.specs.Machine.{World}
use Rattle.quic_headline.specs.Runs.{Run}
use Rattle.quic_worked.specs.Worked.{after_event, worked_policies, started, opens_stream, finishes_stream}
use Rattle.quic_worked.specs.Paired.{resets_with}
use Rattle.quic_worked.specs.Rested.{rested_events, rested_answers, once_rested, still_view, rested_run}
use Rattle.quic_worked.specs.Faults.{both_open}

-- the client opens stream 0, and makes one more call
abbrev pub opened_then : Call → Answer → Run
opened_then call a = record {
  keys = worked_policies;
  start = started;
  events = opens_stream ∷ record { side = Client; call = call } ∷ [];
  answers = answers.Open (Some 0) ∷ a ∷ [];
  views = replicate 2 both_open;
  from_client = [];
  from_server = [];
}

-- the client stops the stream
abbrev pub stops_stream : RunEvent
stops_stream = record { side = Client; call = calls.Stop 0 7 }

-- twice
abbrev pub stopped_twice : Run
stopped_twice = record {
  keys = worked_policies;
  start = started;
  events = opens_stream ∷ stops_stream ∷ stops_stream ∷ [];
  answers = answers.Open (Some 0) ∷ answers.Stop (Ok tt) ∷ answers.Stop (Err update_errors.ClosedStream) ∷ [];
  views = replicate 3 both_open;
  from_client = [];
  from_server = [];
}

-- and the second time it is told that it did
abbrev pub stopped_again : Run
stopped_again = record {
  keys = worked_policies;
  start = started;
  events = opens_stream ∷ stops_stream ∷ stops_stream ∷ [];
  answers = answers.Open (Some 0) ∷ answers.Stop (Ok tt) ∷ answers.Stop (Ok tt) ∷ [];
  views = replicate 3 both_open;
  from_client = [];
  from_server = [];
}

-- or finds no memory for it
abbrev pub stop_finds_none : Run
stop_finds_none = record stopped_again { answers = answers.Open (Some 0) ∷ answers.Stop (Ok tt) ∷ answers.Stop (Err update_errors.Memory) ∷ [] }

-- the client finishes the stream twice
abbrev pub finished_twice : Run
finished_twice = record {
  keys = worked_policies;
  start = started;
  events = opens_stream ∷ finishes_stream ∷ finishes_stream ∷ [];
  answers = answers.Open (Some 0) ∷ answers.Finish (Ok tt) ∷ answers.Finish (Err finish_errors.ClosedStream) ∷ [];
  views = replicate 3 both_open;
  from_client = [];
  from_server = [];
}

-- a reset is answered that its stream is closed
abbrev pub reset_closed : Answer
reset_closed = answers.Reset (Err update_errors.ClosedStream)

-- the client resets the stream twice
abbrev pub reset_twice : Run
reset_twice = record {
  keys = worked_policies;
  start = started;
  events = opens_stream ∷ resets_with 7 ∷ resets_with 7 ∷ [];
  answers = answers.Open (Some 0) ∷ answers.Reset (Ok tt) ∷ reset_closed ∷ [];
  views = replicate 3 both_open;
  from_client = [];
  from_server = [];
}

-- the client ended the stream, all of it was acknowledged, and then the client resets it
abbrev pub reset_late : Run
reset_late = record rested_run {
  events = rested_events ++ resets_with 7 ∷ [];
  answers = rested_answers ++ reset_closed ∷ [];
  views = rested_run.views ++ still_view ∷ [];
}

-- what that leaves
abbrev pub late_end : World
late_end = after_event worked_policies (once_rested 13) (resets_with 7) reset_closed
