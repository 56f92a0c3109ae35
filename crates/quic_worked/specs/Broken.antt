-- Runs of machines with a bug: the worked run with other answers or another datagram.
use Rattle.std.specs.Prelude.{ℕ, ◌+◌, true, false, List, [], ◌∷◌, ◌++◌, length, replicate, take, Option, Some, None, Result, Ok, Err}
use Rattle.quic_wire_core.specs.declared.stream_id.Side.{Side}
use Rattle.quic_wire_core.specs.declared.stream_id.Side.TheVariants.{Client, Server}
use Rattle.quic_streams_parts.specs.declared.answers.WriteError.{WriteError}
use Rattle.quic_streams_parts.specs.declared.answers.WriteError.TheVariants as write_errors
use Rattle.quic_streams_parts.specs.declared.answers.FinishError.{FinishError}
use Rattle.quic_streams_parts.specs.declared.answers.FinishError.TheVariants as finish_errors
use Rattle.quic_streams_parts.specs.declared.answers.StreamEvent.TheVariants.{Finished}
use Rattle.quic_time.specs.Timers.{no_timers}
use Rattle.quic_machine.specs.declared.answers.Event.TheVariants as events
use Rattle.quic_machine.specs.declared.answers.Received.{Received}
use Rattle.quic_machine.specs.declared.answers.Received.TheVariants as receives
use Rattle.quic_machine.specs.declared.answers.DropReason.TheVariants as drops
use Rattle.quic_machine.specs.declared.run.RunEvent.{RunEvent}
use Rattle.quic_machine.specs.declared.run.ReadCall.{ReadCall}
use Rattle.quic_machine.specs.declared.run.Call.TheVariants as calls
use Rattle.quic_machine.specs.declared.run.Answer.{Answer}
use Rattle.quic_machine.specs.declared.run.Answer.TheVariants as answers
use Rattle.quic_machine.specs.Tracking.{nothing_tracked}
use Rattle.quic_machine.specs.End.{with_ack_timer_at, with_tracking}
use Rattle.quic_machine.specs.Calls.{end_after_event}
use Rattle.quic_machine.specs.declared.run.View.{View}
use Rattle.quic_machine.specs.Heard.{nothing_heard, heard_datagram}
use Rattle.quic_machine.specs.Machine.{World, IsStep, Follows}
use Rattle.quic_headline.specs.Runs.{Run}
use Rattle.quic_worked.specs.Worked.{NextAnswers, within, end_after_write, once_opened, failed_end, worked_policies, hello, hello_datagram, started, with_client, with_server, asks_datagram, delivery, delivers, gives_chunk, all_nexts, gives_bytes, sending_events, sending_answers, once_ended, once_sent, open_view, worked_views, worked_run, client_counting, server_open}
use Rattle.quic_worked.specs.Acknowledged.{client_acked, server_acked, from_server, ack_payload}
use Rattle.quic_worked.specs.Reordered.{blocked_nexts}

-- ---- what the machine never does

-- from here on the machine never answers these events so, whatever is seen and wherever it leads
pub record NeverAnswers (w : World) (events : List RunEvent) (told : List Answer) : Type 0 where
  pub never : (views : List View) (end : World)
      → Follows worked_policies w events told views end → ⊥

-- a run is none of the machine's
abbrev pub IsNoRun : Run → Type 0
IsNoRun r = NeverAnswers r.start r.events r.answers

-- an event is never answered so there
abbrev pub IsNever : World → RunEvent → Answer → Type 0
IsNever w event a = (next : World) → IsStep worked_policies w event a next → ⊥

-- these events, answered so, never lead there from such ends
abbrev pub NeverLeadsFrom : World → List RunEvent → List Answer → World → Type 0
NeverLeadsFrom start events told end =
    (views : List View) → Follows worked_policies start events told views end → ⊥

-- nor from those of the worked run
abbrev pub NeverLeads : List RunEvent → List Answer → World → Type 0
NeverLeads events told end = NeverLeadsFrom started events told end

-- ---- calls that take no memory, and an end that had none

-- the client writes no byte
abbrev pub writes_nothing : RunEvent
writes_nothing = record { side = Client; call = calls.Write 0 [] }

-- the other end takes no byte of the client, which has opened a stream
abbrev pub once_full : World
once_full = with_client once_opened (within 0 once_opened.client)

-- and the client was told so by a write
abbrev pub once_blocked : World
once_blocked = with_client once_opened (end_after_write (Err write_errors.Blocked) (within 0 once_opened.client) 0 hello)

-- the client failed, with a datagram to give
abbrev pub once_failed : World
once_failed = with_client once_ended (failed_end once_ended.client)

-- timers expire at the client that are set up to moment 0
abbrev pub lets_expire : RunEvent
lets_expire = record { side = Client; call = calls.Timeout 0 }

-- ---- the worked run with other answers

-- the answers of the worked run, with these to the write, the finish, the two deliveries, the
-- accept and the read
abbrev pub answers_with : Result ℕ WriteError → Result (Unit {0}) FinishError → Received → Received
    → Option ℕ → NextAnswers → List Answer
answers_with count done first second id nexts =
    answers.Open (Some 0)
    ∷ answers.Write count
    ∷ answers.Finish done
    ∷ gives_bytes 230
    ∷ answers.Deliver first
    ∷ answers.Deliver second
    ∷ answers.Accept id
    ∷ answers.Read (Ok nexts)
    ∷ []

-- the second delivery is dropped as a duplicate
abbrev pub duplicate : Received
duplicate = receives.Dropped drops.Duplicate

-- the word with another last byte
abbrev pub hellp : List ℕ
hellp = 104 ∷ 101 ∷ 108 ∷ 108 ∷ 112 ∷ []

-- a read that gives that word
abbrev pub changed_nexts : NextAnswers
changed_nexts = gives_chunk hellp ∷ Ok None ∷ []

-- a byte of the stream is changed
abbrev pub changed_byte : List Answer
changed_byte = answers_with (Ok 5) (Ok tt) receives.Taken duplicate (Some 0) changed_nexts

-- a read that gives the five bytes twice
abbrev pub repeated_nexts : NextAnswers
repeated_nexts = gives_chunk hello ∷ gives_chunk hello ∷ []

-- bytes come twice
abbrev pub repeated_bytes : List Answer
repeated_bytes = answers_with (Ok 5) (Ok tt) receives.Taken duplicate (Some 0) repeated_nexts

-- more is read than was accepted
abbrev pub unwritten_byte : List Answer
unwritten_byte = answers_with (Ok 4) (Ok tt) receives.Taken duplicate (Some 0) all_nexts

-- a read that gives the end first
abbrev pub early_nexts : NextAnswers
early_nexts = Ok None ∷ Ok None ∷ []

-- the end comes over unread bytes
abbrev pub early_end : List Answer
early_end = answers_with (Ok 5) (Ok tt) receives.Taken duplicate (Some 0) early_nexts

-- the end comes of a stream that wasn't ended
abbrev pub unwritten_end : List Answer
unwritten_end =
    answers_with (Ok 5) (Err finish_errors.ClosedStream) receives.Taken duplicate (Some 0) all_nexts

-- the datagram is taken twice
abbrev pub taken_twice : List Answer
taken_twice = answers_with (Ok 5) (Ok tt) receives.Taken receives.Taken (Some 0) all_nexts

-- bytes are read of a datagram that was dropped
abbrev pub never_taken : List Answer
never_taken =
    let lost = receives.Dropped drops.NotOpened in
    answers_with (Ok 5) (Ok tt) lost lost (Some 0) all_nexts

-- a read is blocked, although all bytes and the end came
abbrev pub blocked_read : List Answer
blocked_read = answers_with (Ok 5) (Ok tt) receives.Taken duplicate (Some 0) blocked_nexts

-- nothing is accepted, although the stream came
abbrev pub never_accepted : List Answer
never_accepted = answers_with (Ok 5) (Ok tt) receives.Taken duplicate None all_nexts

-- ---- the worked run with another datagram

-- the client gives an empty datagram
abbrev pub empty_datagram : ReadCall → Run
empty_datagram read = record (worked_run read) { from_client = [] ∷ [] }

-- the client gives its datagram twice
abbrev pub repeated_number : Run
repeated_number = record {
  keys = worked_policies;
  start = once_ended;
  events = asks_datagram ∷ asks_datagram ∷ [];
  answers = gives_bytes 230 ∷ gives_bytes 230 ∷ [];
  views = take 2 worked_views;
  from_client = hello_datagram ∷ hello_datagram ∷ [];
  from_server = [];
}

-- the application asks what is to be told
abbrev pub asks_event : RunEvent
asks_event = record { side = Client; call = calls.Event }

-- it is told that the stream is finished
abbrev pub tells_finished : Answer
tells_finished = answers.Event (Some (events.Stream (Finished 0)))

-- the client gave its datagram, which the server never got
abbrev pub sent_alone : World
sent_alone = with_client started once_sent.client

-- the application is told that the stream is finished, although its datagram never came
abbrev pub early_finish : Run
early_finish = record {
  keys = worked_policies;
  start = sent_alone;
  events = asks_event ∷ [];
  answers = tells_finished ∷ [];
  views = take 1 worked_views;
  from_client = [];
  from_server = [];
}

-- the client takes an acknowledgement of it that the server never gave
abbrev pub early_acknowledgement : Run
early_acknowledgement =
    let comes : RunEvent = record { side = Client; call = calls.Deliver delivery } in
    record {
      keys = worked_policies;
      start = sent_alone;
      events = comes ∷ [];
      answers = answers.Deliver receives.Taken ∷ [];
      views = take 1 worked_views;
      from_client = hello_datagram ∷ [];
      from_server = from_server 0 ack_payload ∷ [];
    }

-- the client gave its datagram, and waits for an acknowledgement with no timer set
abbrev pub never_timed : World
never_timed = with_client once_sent (record once_sent.client { timers = no_timers })

-- the server took the datagram and acknowledged it, and its timer of acknowledgements still runs
abbrev pub still_timed : World
still_timed = with_server once_sent (with_ack_timer_at server_acked (Some 50000000))

-- the worked run until the client gave its datagram
abbrev pub sending_run : ReadCall → Run
sending_run read = record (worked_run read) {
  events = sending_events;
  answers = sending_answers;
  views = take 4 worked_views;
}

-- the worked run until the server took that datagram; then 25 ms pass, the server gives an
-- acknowledgement, and the client takes it
abbrev pub answered_run : ReadCall → Run
answered_run read = record (worked_run read) {
  events =
      sending_events
      ++ delivers
      ∷ record { side = Server; call = calls.Timeout 25000000 }
      ∷ record { side = Server; call = calls.Poll 25000000 }
      ∷ record { side = Client; call = calls.Deliver (record delivery { now = 25000000 }) }
      ∷ [];
  answers =
      sending_answers
      ++ answers.Deliver receives.Taken
      ∷ answers.Timeout (Ok tt)
      ∷ gives_bytes 32
      ∷ answers.Deliver receives.Taken
      ∷ [];
  views = replicate 8 (record { client = open_view; server = server_open });
  from_server = from_server 0 ack_payload ∷ [];
}

-- the client gave its datagram, which never came, and forgot it: it neither waits for an
-- acknowledgement nor gives it again
abbrev pub forgotten : World
forgotten = with_client once_sent (with_tracking once_sent.client (nothing_tracked 0))

-- the client took the acknowledgement of all of its stream, which is to be told
abbrev pub all_acked : World
all_acked = with_client started client_acked

-- and has nothing left to tell
abbrev pub all_told : World
all_told = with_client started (end_after_event client_acked)

-- a run from where that is to be told, in which the application asks as often as there are answers
abbrev pub telling : List RunEvent → List Answer → Run
telling asks told = record {
  keys = worked_policies;
  start = all_acked;
  events = asks;
  answers = told;
  views = replicate (length told) (record { client = open_view; server = server_open });
  from_client = [];
  from_server = [];
}

-- the application is told twice that the stream is finished
abbrev pub told_twice : Run
told_twice = telling (asks_event ∷ asks_event ∷ []) (tells_finished ∷ tells_finished ∷ [])

-- the application is never told
abbrev pub never_told : Run
never_told = telling (asks_event ∷ []) (answers.Event None ∷ [])

-- the run in which the client's datagram is acknowledged, and then the client is asked and answers
-- so
abbrev pub asked_run : ReadCall → List Answer → Run
asked_run read told = record (answered_run read) {
  events = (answered_run read).events ++ replicate (length told) asks_event;
  answers = (answered_run read).answers ++ told;
  views = replicate (8 + length told) (record { client = open_view; server = server_open });
}

-- ---- acknowledgements and injections

-- the server gives an acknowledgement of number 0 before anything came to it
abbrev pub early_name : Run
early_name = record {
  keys = worked_policies;
  start = started;
  events = record { side = Server; call = calls.Poll 25000000 } ∷ [];
  answers = gives_bytes 32 ∷ [];
  views = record { client = open_view; server = server_open } ∷ [];
  from_client = [];
  from_server = from_server 0 ack_payload ∷ [];
}

-- these bytes are injected at an end at moment 0, without a mark
abbrev pub injects : Side → List ℕ → RunEvent
injects side bytes = record { side = side; call = calls.Inject (record { now = 0; remote = 0; ecn = None; bytes = bytes }) }

-- a run of injections that are answered so
abbrev pub injecting : List RunEvent → List Answer → Run
injecting events told = record {
  keys = worked_policies;
  start = started;
  events = events;
  answers = told;
  views = replicate (length told) (record { client = open_view; server = server_open });
  from_client = [];
  from_server = [];
}

-- the client's datagram is injected at the server, for which it is, and at the client, for which it
-- isn't
abbrev pub injected_run : Run
injected_run =
    injecting (injects Server hello_datagram ∷ injects Client hello_datagram ∷ [])
    (answers.Opens ∷ answers.Inject (receives.Dropped drops.UnknownId) ∷ [])

-- the client counts it
abbrev pub once_injected : World
once_injected = client_counting (heard_datagram true false hello_datagram (receives.Dropped drops.UnknownId) nothing_heard) started

-- no byte at all opens
abbrev pub always_opens : Run
always_opens = injecting (injects Server [] ∷ []) (answers.Opens ∷ [])

-- the client's datagram doesn't open at the server, which takes it
abbrev pub never_opens : Run
never_opens = injecting (injects Server hello_datagram ∷ []) (answers.Inject receives.Taken ∷ [])
