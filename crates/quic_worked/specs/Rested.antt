-- A run in which both ends come to rest: the client's datagram with a whole stream comes to the
-- server, which acknowledges it once 25 ms have passed, and tells its ids; the client takes that,
-- and acknowledges it 25 ms later; once that came, neither has anything left to give. And runs of
-- machines that come to rest too early, or not at all. The controllers show a window that holds two
-- datagrams of whichever size.
use Rattle.std.specs.Prelude.{ℕ, true, List, [], ◌∷◌, ◌++◌, replicate, Option, Some, None, Ok}
use Rattle.quic_wire_core.specs.declared.stream_id.Side.TheVariants.{Client, Server}
use Rattle.quic_wire.specs.Value.{stream}
use Rattle.quic_congestion.specs.Congestion.{Told}
use Rattle.quic_config.specs.Transport.{parameters_of}
use Rattle.quic_worked.specs.Settings.{plain_settings}
use Rattle.quic_machine.specs.declared.answers.Received.TheVariants as receives
use Rattle.quic_machine.specs.declared.run.RunEvent.{RunEvent}
use Rattle.quic_machine.specs.declared.run.Call.TheVariants as calls
use Rattle.quic_machine.specs.declared.run.Answer.{Answer}
use Rattle.quic_machine.specs.declared.run.Answer.TheVariants as answers
use Rattle.quic_machine.specs.declared.run.View.{View}
use Rattle.quic_machine.specs.Parts.{Windows}
use Rattle.quic_machine.specs.End.{new_end}
use Rattle.quic_machine.specs.Control.{Control}
use Rattle.quic_machine.specs.Heard.{nothing_heard}
use Rattle.quic_machine.specs.Machine.{World}
use Rattle.quic_headline.specs.Runs.{Run, Packet}
use Rattle.quic_worked.specs.Worked.{worked_policies, client_id, server_id, opens_stream, writes_hello, asks_datagram, sending_events, sending_answers, gives_bytes, hello_frame, hello_datagram, view_with, ids_payload, behind_ids, ran_so_far, gives_unmarked}
use Rattle.quic_worked.specs.Acknowledged.{ack_payload, client_acked, from_server, client_datagram}
use Rattle.quic_worked.specs.Timed.{serves, asks_at, comes_at}
use Rattle.quic_worked.specs.Held.{gives_nothing}

-- ---- the ends

-- two datagrams of 65536 bytes
abbrev pub roomy_window : ℕ
roomy_window = 131072

-- a controller that shows it whatever it is told
abbrev pub roomy_control : Control
roomy_control = λ (told : List Told). roomy_window

-- what an end reads of it, at first and later
abbrev pub roomy_windows : Windows
roomy_windows = record { initial = roomy_window; present = roomy_window }

-- both ends, before anything was given
abbrev pub rested_start : World
rested_start = record {
  client = new_end Client plain_settings roomy_windows (parameters_of plain_settings) client_id server_id 0 0 true (λ n. 63);
  server = new_end Server plain_settings roomy_windows (parameters_of plain_settings) server_id client_id 0 0 true (λ n. 63);
  from_client = [];
  from_server = [];
  client_control = roomy_control;
  server_control = roomy_control;
  client_heard = nothing_heard;
  server_heard = nothing_heard;
}

-- ---- the run

-- the client's second datagram comes to the server at a moment
abbrev pub second_comes : ℕ → RunEvent
second_comes now = record { side = Server; call = calls.Deliver (record { now = now; remote = 0; ecn = None; index = 1 }) }

-- how both come to rest behind a datagram of the client's: it comes to the server, which is asked
-- for its acknowledgement after 25 ms; that comes to the client, which is asked for its own after
-- 25 ms; that comes to the server, and both are asked once more
abbrev pub resting_events : List RunEvent
resting_events =
    comes_at Server 10000000
    ∷ serves Server 35000000
    ∷ asks_at Server 35000000
    ∷ comes_at Client 40000000
    ∷ serves Client 65000000
    ∷ asks_at Client 65000000
    ∷ second_comes 70000000
    ∷ asks_at Client 70000000
    ∷ asks_at Server 70000000
    ∷ []

-- what that is answered
abbrev pub resting_answers : List Answer
resting_answers =
    answers.Deliver receives.Taken
    ∷ answers.Timeout (Ok tt)
    ∷ gives_bytes 228
    ∷ answers.Deliver receives.Taken
    ∷ answers.Timeout (Ok tt)
    ∷ gives_unmarked 32
    ∷ answers.Deliver receives.Taken
    ∷ gives_nothing
    ∷ gives_nothing
    ∷ []

-- all of it
abbrev pub rested_events : List RunEvent
rested_events = sending_events ++ resting_events

-- and what it is answered
abbrev pub rested_answers : List Answer
rested_answers = sending_answers ++ resting_answers

-- the server's first datagram: an acknowledgement, and its ids behind it
abbrev pub ack_and_ids : List ℕ
ack_and_ids = ack_payload ++ ids_payload

-- what the first so many of these leave
unfoldable pub once_rested : ℕ → World
unfolding client_acked
once_rested n = ran_so_far worked_policies rested_start rested_events rested_answers n

-- what is seen of both, where the client's loss timer and the server's timer of acknowledgements
-- are set so
abbrev pub rest_view : Option ℕ → Option ℕ → View
rest_view loss moment = record { client = record (view_with loss None) { window = roomy_window }; server = record (view_with None moment) { window = roomy_window } }

-- what is seen of both, where the client's timer of losses or that of acknowledgements is set, and
-- the server's loss timer, which told its ids at 35 ms
abbrev pub told_view : Option ℕ → Option ℕ → View
told_view loss moment = record { client = record (view_with loss moment) { window = roomy_window }; server = record (view_with (Some 1059000000) None) { window = roomy_window } }

-- no timer is set
abbrev pub still_view : View
still_view = rest_view None None

-- the client waits for an acknowledgement
abbrev pub given_view : View
given_view = rest_view (Some 1024000000) None

-- and the server's waits too
abbrev pub taken_view : View
taken_view = rest_view (Some 1024000000) (Some 35000000)

-- the run with these events, answers and views, in which the client gave its datagram
abbrev pub sent_run : List RunEvent → List Answer → List View → Run
sent_run events told views = record {
  keys = worked_policies;
  start = rested_start;
  events = events;
  answers = told;
  views = views;
  from_client = hello_datagram ∷ [];
  from_server = [];
}

-- what is seen from the client's datagram on, where the client's loss timer is set so once the
-- acknowledgement came
abbrev pub resting_views : Option ℕ → List View
resting_views loss =
    given_view
    ∷ taken_view
    ∷ given_view
    ∷ told_view (Some 1024000000) None
    ∷ told_view loss (Some 65000000)
    ∷ replicate 2 (told_view loss None)
    ++ replicate 3 (rest_view loss None)

-- and from the first event on
abbrev pub views_left : Option ℕ → List View
views_left loss = replicate 3 still_view ++ resting_views loss

-- a run that comes to rest so: the client's second datagram is its acknowledgement, and the
-- server's is this
abbrev pub resting : Run → Run
resting r = record r { from_client = r.from_client ++ client_datagram 1 0 ack_payload ∷ []; from_server = from_server 0 ack_and_ids ∷ [] }

-- the run
abbrev pub rested_run : Run
rested_run = resting (sent_run rested_events rested_answers (views_left None))

-- the packet that the server takes
abbrev pub hello_packet : Packet
hello_packet = record { number = 0; frames = behind_ids (stream hello_frame ∷ []) }

-- ---- machines that rest too early

-- five bytes wait, no timer is set, and the client's poll gives nothing
abbrev pub kept_run : Run
kept_run = record {
  keys = worked_policies;
  start = rested_start;
  events = opens_stream ∷ writes_hello ∷ asks_datagram ∷ [];
  answers = answers.Open (Some 0) ∷ answers.Write (Ok 5) ∷ gives_nothing ∷ [];
  views = replicate 3 still_view;
  from_client = [];
  from_server = [];
}

-- the datagram of the client is lost, its loss timer expires, and it forgets what the datagram
-- carried
abbrev pub forgotten_run : Run
forgotten_run = sent_run (sending_events ++ serves Client 1024000000 ∷ asks_at Client 1024000000 ∷ []) (sending_answers ++ answers.Timeout (Ok tt) ∷ gives_nothing ∷ []) (replicate 3 still_view ++ given_view ∷ still_view ∷ still_view ∷ [])

-- the datagram comes to the server, which sets no timer, and is asked for a datagram: no
-- acknowledgement goes
abbrev pub heard_events : List RunEvent
heard_events = sending_events ++ comes_at Server 10000000 ∷ asks_at Server 10000000 ∷ []

-- what that is answered
abbrev pub heard_answers : List Answer
heard_answers = sending_answers ++ answers.Deliver receives.Taken ∷ gives_nothing ∷ []

-- so it is seen
abbrev pub unanswered_run : Run
unanswered_run = sent_run heard_events heard_answers (replicate 3 still_view ++ replicate 3 given_view)

-- ---- machines that don't rest

-- the client's loss timer stays set once all was acknowledged
abbrev pub timed_on : Run
timed_on = record rested_run { views = views_left (Some 1024000000) }

-- the client's timer of the pacer is set, and its poll gives nothing
abbrev pub paced_view : View
paced_view = record still_view { client = record still_view.client { timers = replicate 6 None ++ Some 1000000 ∷ None ∷ None ∷ [] } }

-- though the pacer would let a datagram go
abbrev pub paced_run : Run
paced_run = record kept_run { views = still_view ∷ still_view ∷ paced_view ∷ [] }
