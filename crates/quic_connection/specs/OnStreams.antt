-- A call of the application, on the streams of an end alone.
use Rattle.std.specs.Prelude.{◌≡◌, Bool}
use Rattle.quic_streams_handles.specs.declared.end_streams.EndStreams.{EndStreams}
use Rattle.quic_streams_state.specs.State.{Streams, streams_of}
use Rattle.quic_machine.specs.declared.run.Call.{Call}
use Rattle.quic_machine.specs.declared.run.Answer.{Answer}
use Rattle.quic_machine.specs.StreamCalls.{IsStreamAnswer, after_on_streams}
use Rattle.quic_machine.specs.Lacking.{StreamCallLacks}

-- what a call leaves of streams
abbrev pub left_by : Bool → EndStreams → Call → Answer → Streams
left_by is_open old call a = after_on_streams is_open (streams_of old.state old.pending) call a

-- A call on the streams of an end, which is open or isn't, may be answered so, lacking memory only
-- where it takes some, and leaves them so.
pub record IsCallOn (is_open : Bool) (old : EndStreams) (call : Call) (a : Answer) (new : EndStreams) : Type 0 where
  pub answer : IsStreamAnswer is_open old.state call a
  pub lacking : StreamCallLacks is_open old.state old.pending call a
  pub state : new.state ≡ (left_by is_open old call a).state
  pub pending : new.pending ≡ (left_by is_open old call a).pending
