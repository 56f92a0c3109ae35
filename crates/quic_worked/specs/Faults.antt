-- More machines with a fault, each by a run that it makes and the reference machine doesn't: with
-- limits that are its own, with datagrams that it drops or numbers wrongly, and with timers and
-- polls that go wrong. And the runs that they part from, where these stand nowhere else.
use Rattle.std.specs.Prelude.{ℕ, true, false, List, [], ◌∷◌, ◌++◌, replicate, take, Some, None, Ok, Err}
use Rattle.quic_wire_core.specs.TransportError.{plain_error}
use Rattle.quic_wire_core.specs.declared.stream_id.Side.TheVariants.{Client, Server}
use Rattle.quic_config.specs.Transport.{parameters_of}
use Rattle.quic_worked.specs.Settings.{plain_settings}
use Rattle.quic_streams_parts.specs.declared.answers.WriteError.TheVariants as write_errors
use Rattle.quic_machine.specs.declared.answers.LostReason.TheVariants as reasons
use Rattle.quic_machine.specs.declared.answers.Received.TheVariants as receives
use Rattle.quic_machine.specs.declared.answers.DropReason.TheVariants as drops
use Rattle.quic_machine.specs.declared.run.ReadCall.{ReadCall}
use Rattle.quic_machine.specs.declared.run.RunEvent.{RunEvent}
use Rattle.quic_machine.specs.declared.run.Call.TheVariants as calls
use Rattle.quic_machine.specs.declared.run.Answer.{Answer}
use Rattle.quic_machine.specs.declared.run.Answer.TheVariants as answers
use Rattle.quic_machine.specs.declared.run.EndView.{EndView}
use Rattle.quic_machine.specs.declared.run.View.{View}
use Rattle.quic_machine.specs.End.{new_end}
use Rattle.quic_machine.specs.Heard.{nothing_heard, heard_datagram}
use Rattle.quic_machine.specs.Machine.{World}
use Rattle.quic_wire.specs.Value.{stream}
use Rattle.quic_headline.specs.Runs.{Run}
use Rattle.quic_headline.specs.Observer.{Sent}
use Rattle.quic_worked.specs.Exchange.{with_uni}
use Rattle.quic_worked.specs.Worked.{steady, steady_control, worked_policies, client_id, server_id, started, once_opened, once_sent, once_taken, once_read, after_event, hello, hello_datagram, opens_stream, asks_datagram, delivers, accepts_stream, gives_bytes, sending_events, sending_answers, open_view, sent_view, waiting_view, view_with, worked_events, worked_answers, worked_views, worked_run, server_counting, behind_ids, told_ids, hello_whole, server_open, server_waiting}
use Rattle.quic_worked.specs.Acknowledged.{client_datagram}
use Rattle.quic_worked.specs.Broken.{duplicate, injects, answered_run, asks_event, tells_finished}
use Rattle.quic_worked.specs.Reordered.{writes_bytes, both_events, both_answers, delivers_at, reordered_views}
use Rattle.quic_worked.specs.Machines.{both_run}
use Rattle.quic_worked.specs.Losses.{ping_events, ping_answers, ping_payload, once_told}
use Rattle.quic_worked.specs.Paired.{writes_on}
use Rattle.quic_worked.specs.Credit.{opens_one_way, accepts_one_way}
use Rattle.quic_worked.specs.Limited.{limited_start, sixteen, few_taken}
use Rattle.quic_worked.specs.Closed.{closed_view}
use Rattle.quic_worked.specs.Messages.{ping_message, sends_message, is_sent}
use Rattle.quic_worked.specs.Held.{held_start, held_events, held_answers, gives_nothing, once_held, full_view, held_view, first_payload}
use Rattle.quic_worked.specs.Timed.{asks_at}

-- what is seen of both ends that are open, with no timer set
abbrev pub both_open : View
both_open = record { client = open_view; server = server_open }

-- and once the client gave its datagram at moment 0
abbrev pub one_sent : View
one_sent = record { client = sent_view; server = server_open }

-- the same, where the window of the server has room
abbrev pub both_roomy : View
both_roomy = record { client = open_view; server = open_view }

-- and once the client gave its datagram at moment 0, where that window has room
abbrev pub roomy_sent : View
roomy_sent = record { client = sent_view; server = open_view }

-- ---- limits

-- STREAM with a length and the seven bytes that the client's send window lets go
abbrev pub own_payload : List ℕ
own_payload = (0x0a ∷ 0x00 ∷ 0x07 ∷ []) ++ take 7 sixteen

-- a client that takes the limits in its own parameters for those of its peer: it writes seven bytes
-- on a stream of which the server takes five, and that closes by FLOW_CONTROL_ERROR (RFC 9000,
-- section 4.1)
abbrev pub own_limits : Run
own_limits = record {
  keys = worked_policies;
  start = limited_start;
  events = opens_stream ∷ writes_on 0 sixteen ∷ asks_datagram ∷ delivers ∷ [];
  answers = answers.Open (Some 0) ∷ answers.Write (Ok 7) ∷ gives_bytes 232 ∷ answers.Deliver (receives.Closed (plain_error 3)) ∷ [];
  views =
      replicate 2 both_roomy
      ++ roomy_sent
      ∷ record { client = sent_view; server = closed_view (reasons.Transport (plain_error 3)) }
      ∷ [];
  from_client = client_datagram 0 0 (told_ids own_payload) ∷ [];
  from_server = [];
}

-- a client whose writes are blocked, though nothing was written
abbrev pub ever_blocked : Run
ever_blocked = record few_taken { answers = answers.Open (Some 0) ∷ answers.Write (Err write_errors.Blocked) ∷ [] }

-- ---- a server that opens where it is to accept

-- what a client tells that takes one one-way stream
abbrev pub one_way_parameters : List ℕ
one_way_parameters =
    (0x04 ∷ 0x08 ∷ 0xff ∷ 0xff ∷ 0xff ∷ 0xff ∷ 0xff ∷ 0xff ∷ 0xff ∷ 0xff ∷ [])
    ++ (0x05 ∷ 0x04 ∷ 0x80 ∷ 0x13 ∷ 0x12 ∷ 0xd0 ∷ [])
    ++ (0x06 ∷ 0x04 ∷ 0x80 ∷ 0x13 ∷ 0x12 ∷ 0xd0 ∷ [])
    ++ (0x07 ∷ 0x04 ∷ 0x80 ∷ 0x13 ∷ 0x12 ∷ 0xd0 ∷ [])
    ++ (0x08 ∷ 0x02 ∷ 0x40 ∷ 0x64 ∷ [])
    ++ (0x09 ∷ 0x01 ∷ 0x01 ∷ [])
    ++ (0x0e ∷ 0x01 ∷ 0x08 ∷ [])
    ++ (0x20 ∷ 0x04 ∷ 0x80 ∷ 0x00 ∷ 0xff ∷ 0xff ∷ [])

-- both ends, of which the server may open one one-way stream
abbrev pub one_back : World
one_back = record {
  client = new_end Client (with_uni 1) steady (parameters_of plain_settings) client_id server_id 0 0 true (λ n. 63);
  server = new_end Server plain_settings steady (parameters_of (with_uni 1)) server_id client_id 0 0 true (λ n. 63);
  from_client = [];
  from_server = [];
  client_control = steady_control;
  server_control = steady_control;
  client_heard = nothing_heard;
  server_heard = nothing_heard;
}

-- the client opens a one-way stream and writes on it, and its datagram comes
abbrev pub one_way_front : List RunEvent
one_way_front = opens_one_way ∷ writes_on 2 hello ∷ asks_datagram ∷ delivers ∷ []

-- what that is answered
abbrev pub one_way_answers : List Answer
one_way_answers = answers.Open (Some 2) ∷ answers.Write (Ok 5) ∷ gives_bytes 230 ∷ answers.Deliver receives.Taken ∷ []

-- the stream is open
abbrev pub one_way_opened : World
one_way_opened = after_event worked_policies one_back opens_one_way (answers.Open (Some 2))

-- and the word is written on it
abbrev pub one_way_written : World
one_way_written = after_event worked_policies one_way_opened (writes_on 2 hello) (answers.Write (Ok 5))

-- it is given
unfoldable pub one_way_sent : World
unfolding once_sent
one_way_sent = after_event worked_policies one_way_written asks_datagram (gives_bytes 230)

-- and taken
unfoldable pub one_way_taken : World
unfolding one_way_sent once_taken
one_way_taken = after_event worked_policies one_way_sent delivers (answers.Deliver receives.Taken)

-- a server that opens a stream where it is to accept one: first its own, of id 3, and then none,
-- since it may open no other
abbrev pub opened_instead : Run
opened_instead = record {
  keys = worked_policies;
  start = one_back;
  events = one_way_front ++ accepts_one_way ∷ accepts_one_way ∷ [];
  answers = one_way_answers ++ answers.Accept (Some 3) ∷ answers.Accept None ∷ [];
  views = replicate 2 both_roomy ++ roomy_sent ∷ replicate 3 (record { client = sent_view; server = waiting_view });
  from_client = client_datagram 0 0 (told_ids ((0x0a ∷ 0x02 ∷ 0x05 ∷ []) ++ hello)) ∷ [];
  from_server = [];
}

-- the worked run, behind which nothing more is to be accepted
abbrev pub accepted_run : ReadCall → Run
accepted_run read = record (worked_run read) {
  events = worked_events read ++ accepts_stream ∷ [];
  answers = worked_answers ++ answers.Accept None ∷ [];
  views = worked_views ++ record { client = sent_view; server = server_waiting } ∷ [];
}

-- what that leaves
abbrev pub nothing_to_accept : World
nothing_to_accept = after_event worked_policies once_read accepts_stream (answers.Accept None)

-- ---- datagrams that are dropped

-- a server that drops each number below the greatest that came: of two datagrams the second comes
-- first
abbrev pub below_dropped : Run
below_dropped = record both_run {
  events = both_events ++ delivers_at 1 ∷ delivers_at 0 ∷ [];
  answers = both_answers ++ answers.Deliver receives.Taken ∷ answers.Deliver duplicate ∷ [];
  views = take 7 reordered_views;
}

-- the client's datagram with another last byte, so that it doesn't open
abbrev pub spoilt_datagram : List ℕ
spoilt_datagram = take 229 hello_datagram ++ 0x00 ∷ []

-- it came to the server, which counts it
abbrev pub once_spoilt : World
once_spoilt = server_counting (heard_datagram true false spoilt_datagram (receives.Dropped drops.NotOpened) once_sent.server_heard) once_sent

-- a server that notes a number before the packet has opened: it takes the client's datagram for a
-- duplicate of what was injected
abbrev pub noted_early : Run
noted_early = record {
  keys = worked_policies;
  start = started;
  events = sending_events ++ injects Server spoilt_datagram ∷ delivers ∷ [];
  answers = sending_answers ++ answers.Inject (receives.Dropped drops.NotOpened) ∷ answers.Deliver duplicate ∷ [];
  views = take 4 worked_views ++ replicate 2 one_sent;
  from_client = hello_datagram ∷ [];
  from_server = [];
}

-- ---- clocks and timers

-- no byte at all is injected at the client after five seconds
abbrev pub injects_late : RunEvent
injects_late = record { side = Client; call = calls.Inject (record { now = 5000000000; remote = 0; ecn = None; bytes = [] }) }

-- behind it the client gives its datagram at moment 0, and shows its loss timer so
abbrev pub injected_before : ℕ → Run
injected_before moment = record {
  keys = worked_policies;
  start = started;
  events = injects_late ∷ sending_events;
  answers = answers.Inject (receives.Dropped drops.TooShort) ∷ sending_answers;
  views = replicate 4 both_open ++ record { client = view_with (Some moment) None; server = server_open } ∷ [];
  from_client = hello_datagram ∷ [];
  from_server = [];
}

-- a client that takes over the moment of what it drops
abbrev pub clock_moved : Run
clock_moved = injected_before 6024000000

-- the run in which the client's datagram is acknowledged, where this is seen of the client once it
-- is
abbrev pub acknowledged_run : EndView → ReadCall → Run
acknowledged_run client read = record (answered_run read) {
  views =
      replicate 3 both_open
      ++ one_sent
      ∷ record { client = sent_view; server = server_waiting }
      ∷ replicate 2 one_sent
      ++ record { client = client; server = server_open }
      ∷ [];
}

-- nothing is waited for then
abbrev pub quiet_run : ReadCall → Run
quiet_run = acknowledged_run open_view

-- behind which the application is told that the stream is finished, and nothing more
abbrev pub told_run : ReadCall → Run
told_run read = record (quiet_run read) {
  events = (quiet_run read).events ++ asks_event ∷ asks_event ∷ [];
  answers = (quiet_run read).answers ++ tells_finished ∷ answers.Event None ∷ [];
  views = (quiet_run read).views ++ replicate 2 both_open;
}

-- what that leaves
abbrev pub nothing_to_tell : World
nothing_to_tell = after_event worked_policies once_told asks_event (answers.Event None)

-- a client whose loss timer stays set
abbrev pub never_quiet : ReadCall → Run
never_quiet = acknowledged_run sent_view

-- ---- numbers

-- a client whose first number is cut too short for its peer to tell it: of 300 one byte goes, as if
-- 250 had been acknowledged. Behind it goes PING
abbrev pub cut_short : Run
cut_short = record {
  keys = worked_policies;
  start = started;
  events = sending_events ++ ping_events;
  answers = sending_answers ++ ping_answers;
  views = replicate 3 both_open ++ replicate 3 one_sent;
  from_client = client_datagram 300 250 hello_whole ∷ client_datagram 1 0 ping_payload ∷ [];
  from_server = [];
}

-- ---- messages that wait

-- a client whose poll gives nothing though a message waits, the window has room and no timer is set
abbrev pub silent_message : Run
silent_message = record {
  keys = worked_policies;
  start = started;
  events = sends_message ping_message ∷ asks_datagram ∷ [];
  answers = is_sent ∷ gives_nothing ∷ [];
  views = replicate 2 both_open;
  from_client = [];
  from_server = [];
}

-- a message waits behind a full datagram in flight
unfoldable pub held_message : World
unfolding once_held
held_message = after_event worked_policies (once_held 3) (sends_message ping_message) is_sent

-- the window holds it back
unfoldable pub message_held : World
unfolding held_message
message_held = after_event worked_policies held_message (asks_at Client 0) gives_nothing

-- that run
abbrev pub message_waits : Run
message_waits = record {
  keys = worked_policies;
  start = held_start;
  events = take 3 held_events ++ sends_message ping_message ∷ asks_at Client 0 ∷ [];
  answers = take 3 held_answers ++ is_sent ∷ gives_nothing ∷ [];
  views = replicate 2 (held_view (view_with None None)) ++ replicate 3 full_view;
  from_client = client_datagram 0 0 first_payload ∷ [];
  from_server = [];
}

-- ---- answers that lack

-- the first so many of the answers to the client's four events, and as many views
abbrev pub answered_to : ℕ → Run
answered_to count = record {
  keys = worked_policies;
  start = started;
  events = sending_events;
  answers = take count sending_answers;
  views = take count worked_views;
  from_client = [];
  from_server = [];
}

-- ---- sizes

-- the client writes one byte more than a full datagram takes
abbrev pub writes_full : RunEvent
writes_full = writes_bytes (replicate 977 0x61)

-- they are written
abbrev pub full_written : World
full_written = after_event worked_policies once_opened writes_full (answers.Write (Ok 977))

-- a client that gives all of them in a datagram of 1201 bytes, in STREAM without a length
abbrev pub too_long : Run
too_long = record {
  keys = worked_policies;
  start = started;
  events = opens_stream ∷ writes_full ∷ asks_datagram ∷ [];
  answers = answers.Open (Some 0) ∷ answers.Write (Ok 977) ∷ gives_bytes 1201 ∷ [];
  views = replicate 2 both_open ++ one_sent ∷ [];
  from_client = client_datagram 0 0 (told_ids ((0x08 ∷ 0x00 ∷ []) ++ replicate 977 0x61)) ∷ [];
  from_server = [];
}

-- that datagram as it was sent
abbrev pub long_sent : Sent
long_sent = record { id = server_id; number = 0; reference = 0; frames = behind_ids (stream (record { id = 0; offset = 0; fin = false; bytes = replicate 977 0x61 }) ∷ []); moment = 0; size = 1201; generation = 0 }
