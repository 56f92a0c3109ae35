-- Datagrams that don't open, and repeated ones: a run with some and the run that it is without
-- them, and runs of machines on which they leave something.
use Rattle.std.specs.Prelude.{ℕ, ◌*◌, List, [], ◌∷◌, ◌++◌, take, replicate, Some, None}
use Rattle.quic_wire_core.specs.declared.stream_id.Side.TheVariants.{Client, Server}
use Rattle.quic_time.specs.declared.timer.Timer.TheVariants.{Idle, MaxAckDelay}
use Rattle.quic_machine.specs.declared.answers.Received.TheVariants as receives
use Rattle.quic_machine.specs.declared.answers.DropReason.TheVariants as drops
use Rattle.quic_machine.specs.declared.run.RunEvent.{RunEvent}
use Rattle.quic_machine.specs.declared.run.Call.TheVariants as calls
use Rattle.quic_machine.specs.declared.run.Answer.{Answer}
use Rattle.quic_machine.specs.declared.run.Answer.TheVariants as answers
use Rattle.quic_machine.specs.declared.run.View.{View}
use Rattle.quic_machine.specs.Machine.{World}
use Rattle.quic_headline.specs.Runs.{Run}
use Rattle.quic_worked.specs.Worked.{after_event, worked_policies, started, hello_datagram, asks_datagram, delivers, gives_bytes, sending_events, sending_answers, worked_views, open_view, sent_view, server_counting, once_taken, server_open, server_waiting}
use Rattle.quic_worked.specs.Ended.{idle_view, once_idle, idle_run}
use Rattle.quic_worked.specs.Faults.{injects_late}

-- ---- a run with and without them

-- the client's datagram with another last byte, which stands in its tag: the header is right, and
-- the key refuses it
abbrev pub forged_datagram : List ℕ
forged_datagram = take 229 hello_datagram ++ 0x00 ∷ []

-- it is injected at the server at a moment, without a mark
abbrev pub forges : ℕ → RunEvent
forges now = record { side = Server; call = calls.Inject (record { now = now; remote = 0; ecn = None; bytes = forged_datagram }) }

-- the key refuses it
abbrev pub refused : Answer
refused = answers.Inject (receives.Dropped drops.NotOpened)

-- the server is asked when its timer of acknowledgements expires
abbrev pub asks_wait : RunEvent
asks_wait = record { side = Server; call = calls.Timer MaxAckDelay }

-- what is seen of both ends in the worked run once the client gave its datagram, and once the
-- server took it
abbrev pub sent_seen : View
sent_seen = record { client = sent_view; server = server_open }

-- the same, once the server took the datagram
abbrev pub taken_seen : View
taken_seen = record { client = sent_view; server = server_waiting }

-- the client gives its datagram, the forged one comes a second later, then the datagram, which was
-- under way, once more itself, and the forged one again
abbrev pub noisy_run : Run
noisy_run = record {
  keys = worked_policies;
  start = started;
  events = sending_events ++ forges 1000000000 ∷ delivers ∷ delivers ∷ forges 1000000000 ∷ asks_wait ∷ [];
  answers =
      sending_answers
      ++ refused
      ∷ answers.Deliver receives.Taken
      ∷ answers.Deliver (receives.Dropped drops.Duplicate)
      ∷ refused
      ∷ answers.Timer (Some 25000000)
      ∷ [];
  views = take 4 worked_views ++ sent_seen ∷ replicate 4 taken_seen;
  from_client = hello_datagram ∷ [];
  from_server = [];
}

-- the datagram comes, and nothing else does
abbrev pub quiet_run : Run
quiet_run = record noisy_run {
  events = sending_events ++ delivers ∷ asks_wait ∷ [];
  answers = sending_answers ++ answers.Deliver receives.Taken ∷ answers.Timer (Some 25000000) ∷ [];
  views = take 4 worked_views ++ replicate 2 taken_seen;
}

-- the server has counted as received the bytes of so many datagrams as long as the client's, of
-- which so many didn't open
abbrev pub came_in : ℕ → ℕ → World → World
came_in count failures w = server_counting (record { received = 230 * count; sent = 0; failures = failures }) w

-- all that the noisy run leaves, and the other one
abbrev pub noisy_left : World
noisy_left = came_in 4 2 once_taken

-- all that the quiet run leaves
abbrev pub quiet_left : World
quiet_left = came_in 1 0 once_taken

-- ---- machines on which they leave something

-- the number of what the key refused counts as seen, and so the datagram is a duplicate
abbrev pub noted_early : Run
noted_early = record noisy_run {
  events = sending_events ++ forges 0 ∷ delivers ∷ [];
  answers = sending_answers ++ refused ∷ answers.Deliver (receives.Dropped drops.Duplicate) ∷ [];
  views = take 4 worked_views ++ replicate 2 sent_seen;
}

-- the end takes over the moment at which what the key refused came, and so an acknowledgement waits
-- from there on
abbrev pub ticked_early : Run
ticked_early = record noisy_run {
  events = sending_events ++ forges 1000000000 ∷ delivers ∷ asks_wait ∷ [];
  answers = sending_answers ++ refused ∷ answers.Deliver receives.Taken ∷ answers.Timer (Some 1025000000) ∷ [];
  views = take 4 worked_views ++ sent_seen ∷ replicate 2 taken_seen;
}

-- the client is asked when its idle timer expires
abbrev pub asks_idle : RunEvent
asks_idle = record { side = Client; call = calls.Timer Idle }

-- no byte at all comes to it after five seconds
abbrev pub too_short : Answer
too_short = answers.Inject (receives.Dropped drops.TooShort)

-- which changes nothing but what it has counted
abbrev pub late_dropped : World
late_dropped = after_event worked_policies (once_idle 1) injects_late too_short

-- what is seen where its idle timer begins anew then
abbrev pub anew_view : View
anew_view = record { client = record open_view { timers = Some 1024000000 ∷ Some 35000000000 ∷ replicate 7 None }; server = server_open }

-- its idle timer begins anew for it
abbrev pub idle_anew : Run
idle_anew = record idle_run {
  events = asks_datagram ∷ injects_late ∷ asks_idle ∷ [];
  answers = gives_bytes 222 ∷ too_short ∷ answers.Timer (Some 35000000000) ∷ [];
  views = idle_view ∷ replicate 2 anew_view;
}
