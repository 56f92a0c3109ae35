-- Runs in which a message goes (RFC 9221): the client sends `ping`, and its datagram comes to the
-- server twice, which reads it once. Or that datagram counts as lost before it comes. And runs of
-- machines that give an application more, or something else.
use Rattle.std.specs.Prelude.{ℕ, true, false, List, [], ◌∷◌, ◌++◌, replicate, take, Option, Some, None, Ok, Err}
use Rattle.quic_wire_core.specs.declared.stream_id.Side.TheVariants.{Client, Server}
use Rattle.quic_wire.specs.Value.{datagram}
use Rattle.quic_messages.specs.declared.errors.SendDatagramError.TheVariants as send_errors
use Rattle.quic_machine.specs.declared.answers.Event.TheVariants as events
use Rattle.quic_machine.specs.declared.answers.Received.TheVariants as receives
use Rattle.quic_machine.specs.declared.run.RunEvent.{RunEvent}
use Rattle.quic_machine.specs.declared.run.Call.TheVariants as calls
use Rattle.quic_machine.specs.declared.run.Answer.{Answer}
use Rattle.quic_machine.specs.declared.run.Answer.TheVariants as answers
use Rattle.quic_machine.specs.declared.run.View.{View}
use Rattle.quic_machine.specs.Heard.{heard_datagram}
use Rattle.quic_machine.specs.Machine.{World}
use Rattle.quic_headline.specs.Runs.{Packet, Run}
use Rattle.quic_headline.specs.Observer.{Sent}
use Rattle.quic_worked.specs.Worked.{after_event, ran, ran_so_far, server_id, server_counting, worked_policies, started, once_taken, asks_datagram, delivers, gives_bytes, open_view, view_with, ids_payload, behind_ids, told_ids, server_open, both_steady}
use Rattle.quic_worked.specs.Acknowledged.{client_acked, client_datagram, from_server}
use Rattle.quic_worked.specs.Broken.{duplicate}
use Rattle.quic_worked.specs.Losses.{asks_ping, ping_payload}
use Rattle.quic_worked.specs.Timed.{asks_at, comes_at, seen_with}

-- ---- the message

-- its four bytes
abbrev pub ping_message : List ℕ
ping_message = 112 ∷ 105 ∷ 110 ∷ 103 ∷ []

-- its frame: DATAGRAM with a length (section 4)
abbrev pub message_payload : List ℕ
message_payload = 0x31 ∷ 0x04 ∷ ping_message

-- header, number under its mask, the client's ids, payload and tag
abbrev pub message_datagram : List ℕ
message_datagram =
    (0x48 ∷ 0x50 ∷ 0x50 ∷ 0x50 ∷ 0x50 ∷ 0x50 ∷ 0x50 ∷ 0x50 ∷ 0x50 ∷ 0x00 ∷ [])
    ++ ids_payload
    ++ (0x31 ∷ 0x04 ∷ 0x70 ∷ 0x69 ∷ 0x6e ∷ 0x67 ∷ [])
    ++ (replicate 8 0x00 ++ replicate 8 0x63)

-- the packet that comes so
abbrev pub message_packet : Packet
message_packet = record { number = 0; frames = behind_ids (datagram ping_message ∷ []) }

-- ---- the events

-- the client sends a message, for which no older one may go
abbrev pub sends_message : List ℕ → RunEvent
sends_message message = record { side = Client; call = calls.Send message false }

-- the server's application asks what is to be told
abbrev pub server_asks : RunEvent
server_asks = record { side = Server; call = calls.Event }

-- it reads a message
abbrev pub server_reads : RunEvent
server_reads = record { side = Server; call = calls.Recv }

-- the client's application reads one
abbrev pub client_reads : RunEvent
client_reads = record { side = Client; call = calls.Recv }

-- the client sends the message, and its datagram comes twice; the server's application asks twice
-- what is to be told, and reads twice
abbrev pub message_events : List RunEvent
message_events = sends_message ping_message ∷ asks_datagram ∷ delivers ∷ delivers ∷ server_asks ∷ server_asks ∷ server_reads ∷ server_reads ∷ []

-- the message waits to go
abbrev pub is_sent : Answer
is_sent = answers.Send (Ok tt)

-- a message is read
abbrev pub gives_message : List ℕ → Answer
gives_message message = answers.Recv (Some message)

-- none is read
abbrev pub gives_none : Answer
gives_none = answers.Recv None

-- it is told that a message came
abbrev pub tells_message : Answer
tells_message = answers.Event (Some events.Message)

-- what is answered until the datagram came once
abbrev pub message_front : List Answer
message_front = is_sent ∷ gives_bytes 228 ∷ answers.Deliver receives.Taken ∷ []

-- the answers: the datagram is dropped when it comes again, and the message is told once and read
-- once
abbrev pub message_answers : List Answer
message_answers = message_front ++ answers.Deliver duplicate ∷ tells_message ∷ answers.Event None ∷ gives_message ping_message ∷ gives_none ∷ []

-- what the first so many leave, up to the third
unfoldable pub once_messaged : ℕ → World
unfolding once_taken
once_messaged n = ran worked_policies started (take n message_events) (take n message_answers)

-- its datagram came again, and was a duplicate: no more than that is counted
abbrev pub message_repeated : World
message_repeated = server_counting (heard_datagram true false message_datagram duplicate (once_messaged 3).server_heard) (once_messaged 3)

-- the application is told that a message came
abbrev pub message_told : World
message_told = after_event worked_policies message_repeated server_asks tells_message

-- and nothing more
abbrev pub nothing_told : World
nothing_told = after_event worked_policies message_told server_asks (answers.Event None)

-- the message is read
abbrev pub message_read : World
message_read = after_event worked_policies nothing_told server_reads (gives_message ping_message)

-- and no other
abbrev pub message_end : World
message_end = after_event worked_policies message_read server_reads gives_none

-- what is seen: the client waits for an acknowledgement once it gave the datagram, and the server
-- for 25 ms once it took it
abbrev pub message_views : List View
message_views =
    seen_with None None
    ∷ seen_with (Some 1024000000) None
    ∷ replicate 6 (seen_with (Some 1024000000) (Some 25000000))

-- the run with these answers
abbrev pub messaged : List Answer → Run
messaged told = record {
  keys = worked_policies;
  start = started;
  events = message_events;
  answers = told;
  views = message_views;
  from_client = message_datagram ∷ [];
  from_server = [];
}

-- the run
abbrev pub message_run : Run
message_run = messaged message_answers

-- ---- machines that go wrong there

-- the second copy of the datagram is taken as well, and its message is read once more
abbrev pub message_twice : Run
message_twice =
    messaged (message_front ++ answers.Deliver receives.Taken ∷ tells_message ∷ answers.Event None ∷ gives_message ping_message ∷ gives_message ping_message ∷ [])

-- the last byte of the message is left out
abbrev pub message_cut : Run
message_cut = messaged (message_front ++ answers.Deliver duplicate ∷ tells_message ∷ answers.Event None ∷ gives_message (take 3 ping_message) ∷ gives_none ∷ [])

-- a run of these events, answered so, with these datagrams of the client's, in which both ends stay
-- open
abbrev pub messaging : List RunEvent → List Answer → List (List ℕ) → Run
messaging happens told given = record {
  keys = worked_policies;
  start = started;
  events = happens;
  answers = told;
  views = replicate 13 (record { client = open_view; server = server_open });
  from_client = given;
  from_server = [];
}

-- the server reads a message that nobody sent
abbrev pub message_made_up : Run
message_made_up = messaging (server_reads ∷ []) (gives_message ping_message ∷ []) []

-- the client reads the message that it sent
abbrev pub message_back : Run
message_back = messaging (sends_message ping_message ∷ client_reads ∷ []) (is_sent ∷ gives_message ping_message ∷ []) []

-- one byte more than a message may have here: 1200 for a datagram, less 8 for the id and 30 for
-- what else stands beside it
abbrev pub long_message : List ℕ
long_message = replicate 1163 0x61

-- that message is refused, as it is too long
abbrev pub too_large : Answer
too_large = answers.Send (Err send_errors.TooLarge)

-- its frame: the length has two bytes (RFC 9000, section 16)
abbrev pub long_payload : List ℕ
long_payload = 0x31 ∷ 0x44 ∷ 0x8b ∷ long_message

-- and it goes all the same, and is read
abbrev pub message_refused : Run
message_refused =
    messaging (sends_message long_message ∷ asks_datagram ∷ delivers ∷ server_reads ∷ [])
    (too_large ∷ gives_bytes 1192 ∷ answers.Deliver receives.Taken ∷ gives_message long_message ∷ [])
    (client_datagram 0 0 long_payload ∷ [])

-- ---- a message whose datagram counts as lost

-- a datagram of the client's comes to the server at a moment
abbrev pub comes_to_server : ℕ → ℕ → RunEvent
comes_to_server now index = record { side = Server; call = calls.Deliver (record { now = now; remote = 0; ecn = None; index = index }) }

-- the server is asked for a PING
abbrev pub server_pings : RunEvent
server_pings = record { side = Server; call = calls.Ping }

-- the client sends the message at moment 0, and PING after 100 ms, which comes alone; the server
-- acknowledges that along with a PING of its own, which comes at 110 ms
abbrev pub lossy_events : List RunEvent
lossy_events =
    sends_message ping_message
    ∷ asks_datagram
    ∷ asks_ping
    ∷ asks_at Client 100000000
    ∷ comes_to_server 105000000 1
    ∷ server_pings
    ∷ asks_at Server 105000000
    ∷ comes_at Client 110000000
    ∷ []

-- their answers
abbrev pub lossy_answers : List Answer
lossy_answers =
    is_sent
    ∷ gives_bytes 228
    ∷ answers.Ping
    ∷ gives_bytes 29
    ∷ answers.Deliver receives.Taken
    ∷ answers.Ping
    ∷ gives_bytes 228
    ∷ answers.Deliver receives.Taken
    ∷ []

-- then the message comes all the same, and the server's application reads twice
abbrev pub late_events : List RunEvent
late_events = lossy_events ++ comes_to_server 115000000 0 ∷ server_reads ∷ server_reads ∷ []

-- and finds it once
abbrev pub late_answers : List Answer
late_answers = lossy_answers ++ answers.Deliver receives.Taken ∷ gives_message ping_message ∷ gives_none ∷ []

-- what the first so many of the events until then leave: a round trip takes 10 ms, and the message
-- went long before that
unfoldable pub once_late : ℕ → World
unfolding client_acked
once_late n = ran worked_policies both_steady (take n lossy_events) (take n lossy_answers)

-- the message came
unfoldable pub late_taken : World
unfolding once_late
late_taken = after_event worked_policies (once_late 8) (comes_to_server 115000000 0) (answers.Deliver receives.Taken)

-- it is read
abbrev pub late_read : World
late_read = after_event worked_policies late_taken server_reads (gives_message ping_message)

-- and no other is
abbrev pub late_end : World
late_end = after_event worked_policies late_read server_reads gives_none

-- both ends, with these timers of losses and of acknowledgements
abbrev pub both_seen : Option ℕ → Option ℕ → Option ℕ → Option ℕ → View
both_seen client_loss client_due server_loss server_due = record { client = view_with client_loss client_due; server = view_with server_loss server_due }

-- what is seen: each end waits for what it gave, and has what it took to acknowledge; the number
-- that comes late is to be acknowledged at once
abbrev pub late_views : List View
late_views =
    both_seen None None None None
    ∷ replicate 2 (both_seen (Some 1024000000) None None None)
    ++ both_seen (Some 1124000000) None None None
    ∷ replicate 2 (both_seen (Some 1124000000) None None (Some 130000000))
    ++ both_seen (Some 1124000000) None (Some 1129000000) None
    ∷ replicate 4 (both_seen None (Some 135000000) (Some 1129000000) None)

-- PING, the server's ids, and ACK of number 1 alone
abbrev pub named_payload : List ℕ
named_payload = 0x01 ∷ told_ids (0x02 ∷ 0x01 ∷ 0x00 ∷ 0x00 ∷ 0x00 ∷ [])

-- the run
abbrev pub late_run : Run
late_run = record {
  keys = worked_policies;
  start = both_steady;
  events = late_events;
  answers = late_answers;
  views = late_views;
  from_client = message_datagram ∷ client_datagram 1 0 ping_payload ∷ [];
  from_server = from_server 0 named_payload ∷ [];
}

-- the message goes again, as its datagram is lost; then both datagrams come, and the message is
-- read twice
abbrev pub again_events : List RunEvent
again_events =
    lossy_events
    ++ asks_at Client 110000000
    ∷ comes_to_server 115000000 0
    ∷ comes_to_server 115000000 2
    ∷ server_reads
    ∷ server_reads
    ∷ []

-- what that is answered
abbrev pub again_answers : List Answer
again_answers =
    lossy_answers
    ++ gives_bytes 32
    ∷ answers.Deliver receives.Taken
    ∷ answers.Deliver receives.Taken
    ∷ gives_message ping_message
    ∷ gives_message ping_message
    ∷ []

-- the client's datagrams: the message, PING and padding, and the message once more
abbrev pub again_given : List (List ℕ)
again_given = message_datagram ∷ client_datagram 1 0 ping_payload ∷ client_datagram 2 1 message_payload ∷ []

-- the run of a client that sends a message again
abbrev pub message_again : Run
message_again = record (messaging again_events again_answers again_given) { start = both_steady; from_server = from_server 0 named_payload ∷ [] }

-- ---- two messages that wait

-- another message of four bytes
abbrev pub pong_message : List ℕ
pong_message = 112 ∷ 111 ∷ 110 ∷ 103 ∷ []

-- the client sends both, and gives a datagram
abbrev pub two_events : List RunEvent
two_events = sends_message ping_message ∷ sends_message pong_message ∷ asks_datagram ∷ []

-- what that is answered
abbrev pub two_answers : List Answer
two_answers = is_sent ∷ is_sent ∷ gives_bytes 234 ∷ []

-- what the first so many of these leave
unfoldable pub once_two : ℕ → World
unfolding once_taken
once_two n = ran_so_far worked_policies started two_events two_answers n

-- the run, where the datagram has these messages of four bytes
abbrev pub two_run : List ℕ → List ℕ → Run
two_run first second = record {
  keys = worked_policies;
  start = started;
  events = two_events;
  answers = two_answers;
  views = replicate 2 (seen_with None None) ++ seen_with (Some 1024000000) None ∷ [];
  from_client = client_datagram 0 0 (told_ids ((0x31 ∷ 0x04 ∷ first) ++ 0x31 ∷ 0x04 ∷ second)) ∷ [];
  from_server = [];
}

-- the datagram as it was sent
abbrev pub two_sent : List ℕ → List ℕ → Sent
two_sent first second = record { id = server_id; number = 0; reference = 0; frames = behind_ids (datagram first ∷ datagram second ∷ []); moment = 0; size = 234; generation = 0 }
