-- A run in which a client's address changes on the way, and the server follows it there (RFC 9000,
-- section 9): what comes from there says how much may go there, the server asks its peer to answer,
-- and uses the next id. And machines that don't follow, follow only in part, or give more than may
-- go there.
use Rattle.std.specs.Prelude.{false, true, ℕ, List, [], ◌∷◌, ◌++◌, replicate, take, Some, None, Ok}
use Rattle.quic_wire_core.specs.declared.shared.EcnCodepoint.TheVariants.{Ect0}
use Rattle.quic_wire_core.specs.declared.stream_id.Side.{Side}
use Rattle.quic_wire_core.specs.declared.stream_id.Side.TheVariants.{Server}
use Rattle.quic_wire.specs.Value.{AckValue, ack, ping, padding, path_challenge, path_response, retire_connection_id}
use Rattle.quic_packet.specs.Datagram.{sent}
use Rattle.quic_time.specs.declared.timer.Timer.TheVariants.{PathValidation}
use Rattle.quic_machine.specs.declared.answers.LostReason.TheVariants as reasons
use Rattle.quic_machine.specs.declared.answers.DropReason.TheVariants as drops
use Rattle.quic_machine.specs.declared.answers.Received.TheVariants as receives
use Rattle.quic_machine.specs.declared.run.RunEvent.{RunEvent}
use Rattle.quic_machine.specs.declared.run.Call.TheVariants as calls
use Rattle.quic_machine.specs.declared.run.Answer.{Answer}
use Rattle.quic_machine.specs.declared.run.Answer.TheVariants as answers
use Rattle.quic_machine.specs.declared.run.View.{View}
use Rattle.quic_machine.specs.Machine.{World}
use Rattle.quic_headline.specs.Runs.{Run, Packet}
use Rattle.quic_headline.specs.Observer.{Sent}
use Rattle.quic_worked.specs.Worked.{after_event, ran_so_far, worked_policies, both_steady, hello, client_id, id_word, id_payload, id_frame, behind_ids, told_ids, opens_stream, writes_hello, asks_datagram, delivers, gives_bytes, gives_unmarked, open_view, sent_view, view_with, waiting_view}
use Rattle.quic_worked.specs.Acknowledged.{client_datagram, ack_at_once}
use Rattle.quic_worked.specs.Losses.{asks_ping, ping_payload}
use Rattle.quic_worked.specs.Paired.{asks_server, client_hears}
use Rattle.quic_worked.specs.Held.{gives_nothing}
use Rattle.quic_worked.specs.Closed.{closed_view}
use Rattle.quic_worked.specs.Unvalidated.{far_view, server_closes, asks_state, tells_state}

-- ---- the run

-- a datagram of the client comes to the server at moment 0 from an address, without a mark
abbrev pub comes_from : ℕ → ℕ → RunEvent
comes_from remote index = record { side = Server; call = calls.Deliver (record { now = 0; remote = remote; ecn = None; index = index }) }

-- these bytes do, at an end
abbrev pub injects_from : Side → ℕ → List ℕ → RunEvent
injects_from side remote bytes = record { side = side; call = calls.Inject (record { now = 0; remote = remote; ecn = None; bytes = bytes }) }

-- they don't begin as a packet does (RFC 9000, section 17.3.1)
abbrev pub no_fixed_bit : Answer
no_fixed_bit = answers.Inject (receives.Dropped drops.FixedBit)

-- a poll gives a datagram of so many bytes, marked ECT(0), to an address
abbrev pub gives_to : ℕ → ℕ → Answer
gives_to remote size = answers.Poll (Ok (Some (record { size = size; ecn = Some Ect0; remote = remote })))

-- the server is asked when it is to ask its peer anew
abbrev pub asks_validation : RunEvent
asks_validation = record { side = Server; call = calls.Timer PathValidation }

-- the client gives the word, which comes to the server from address 0, and then PING, which comes
-- from address 9
abbrev pub moving_events : List RunEvent
moving_events = opens_stream ∷ writes_hello ∷ asks_datagram ∷ delivers ∷ asks_ping ∷ asks_datagram ∷ comes_from 9 1 ∷ []

-- what that is answered
abbrev pub moving_answers : List Answer
moving_answers =
    answers.Open (Some 0)
    ∷ answers.Write (Ok 5)
    ∷ gives_bytes 230
    ∷ answers.Deliver receives.Taken
    ∷ answers.Ping
    ∷ gives_bytes 29
    ∷ answers.Deliver receives.Taken
    ∷ []

-- The server is asked for its state and for a datagram. Once 371 bytes more came from there it is
-- asked for two, of which one goes; the client takes that and answers, from there too, and the
-- server is asked for its state again.
abbrev pub migrated_events : List RunEvent
migrated_events =
    moving_events
    ++ asks_state
    ∷ asks_validation
    ∷ asks_server
    ∷ injects_from Server 9 (replicate 371 0x00)
    ∷ asks_server
    ∷ asks_server
    ∷ client_hears
    ∷ asks_datagram
    ∷ comes_from 9 2
    ∷ asks_state
    ∷ []

-- what that is answered
abbrev pub migrated_answers : List Answer
migrated_answers =
    moving_answers
    ++ tells_state false
    ∷ answers.Timer (Some 3072000000)
    ∷ gives_nothing
    ∷ no_fixed_bit
    ∷ gives_to 9 1200
    ∷ gives_nothing
    ∷ answers.Deliver receives.Taken
    ∷ gives_unmarked 1200
    ∷ answers.Deliver receives.Taken
    ∷ tells_state true
    ∷ []

-- what the first so many of these leave
abbrev pub once_migrated : ℕ → World
once_migrated n = ran_so_far worked_policies both_steady migrated_events migrated_answers n

-- STREAM with a length, stream 0, five bytes, behind the client's ids
abbrev pub word_payload : List ℕ
word_payload = told_ids (0x0a ∷ 0x00 ∷ 0x05 ∷ hello)

-- an acknowledgement of numbers 0 and 1
abbrev pub acks_both : AckValue
acks_both = record { largest = 1; delay = 0; ranges = (0, 1) ∷ []; ecn = None }

-- that, PATH_CHALLENGE of a word of the random source, the server's ids, RETIRE_CONNECTION_ID of
-- number 0, and PADDING up to 1200 bytes in all
abbrev pub moved_payload : List ℕ
moved_payload = (0x02 ∷ 0x01 ∷ 0x00 ∷ 0x00 ∷ 0x01 ∷ []) ++ (0x1a ∷ id_word) ++ told_ids (0x19 ∷ 0x00 ∷ replicate 962 0x00)

-- it goes to the next id of the client, on the second path of the server
abbrev pub moved_sent : Sent
moved_sent = record {
  id = id_word;
  number = 0;
  reference = 0;
  frames = ack acks_both ∷ path_challenge id_word ∷ behind_ids (retire_connection_id 0 ∷ replicate 962 padding);
  moment = 0;
  size = 1200;
  generation = 1;
}

-- the server's datagram with this payload to an id
abbrev pub server_to : List ℕ → List ℕ → List ℕ
server_to id payload = sent worked_policies.server.header worked_policies.server.packet 0 0 id payload

-- PATH_RESPONSE of that word, one id more of the client in place of the one that is retired, an
-- acknowledgement, and PADDING up to 1200 bytes in all
abbrev pub back_payload : List ℕ
back_payload = (0x1b ∷ id_word) ++ id_payload 8 ++ ack_at_once ++ replicate 1132 0x00

-- what the server takes of that
abbrev pub back_packet : Packet
back_packet = record {
  number = 2;
  frames = path_response id_word ∷ id_frame 8 ∷ ack (record { largest = 0; delay = 0; ranges = (0, 0) ∷ []; ecn = None }) ∷ replicate 1132 padding;
}

-- the packet that came from elsewhere
abbrev pub ping_packet : Packet
ping_packet = record { number = 1; frames = ping ∷ padding ∷ padding ∷ [] }

-- what is seen until PING went
abbrev pub before_moving : List View
before_moving =
    replicate 2 (record { client = open_view; server = open_view })
    ++ record { client = sent_view; server = open_view }
    ∷ replicate 3 (record { client = sent_view; server = waiting_view })

-- what is seen of both where the server asks its peer to answer, and what of one that asked
abbrev pub moved_view : View
moved_view = record { client = sent_view; server = far_view None (Some 25000000) }

abbrev pub asked_view : View
asked_view = record { client = sent_view; server = far_view (Some 1024000000) None }

-- what is seen behind each event
abbrev pub migrated_views : List View
migrated_views =
    before_moving
    ++ replicate 5 moved_view
    ++ asked_view
    ∷ asked_view
    ∷ record { client = waiting_view; server = far_view (Some 1024000000) None }
    ∷ record { client = view_with (Some 26000000) None; server = far_view (Some 1024000000) None }
    ∷ replicate 2 (record { client = view_with (Some 26000000) None; server = waiting_view })

-- what the client gives up to PING
abbrev pub two_given : List (List ℕ)
two_given = client_datagram 0 0 word_payload ∷ client_datagram 1 0 ping_payload ∷ []

-- the run
abbrev pub migrated_run : Run
migrated_run = record {
  keys = worked_policies;
  start = both_steady;
  events = migrated_events;
  answers = migrated_answers;
  views = migrated_views;
  from_client = two_given ++ client_datagram 2 1 back_payload ∷ [];
  from_server = server_to id_word moved_payload ∷ [];
}

-- ---- machines that go wrong

-- the run up to the first so many events, and then one more that is answered and seen so
abbrev pub moved_and : ℕ → RunEvent → Answer → View → Run
moved_and n event a v = record migrated_run {
  events = take n migrated_events ++ event ∷ [];
  answers = take n migrated_answers ++ a ∷ [];
  views = take n migrated_views ++ v ∷ [];
  from_client = two_given;
}

-- a server that counts what came from the old address for the new one
abbrev pub inherits_received : Run
inherits_received = moved_and 9 asks_server (gives_to 9 1200) asked_view

-- a server that counts for the new address what comes from elsewhere: from the old one
abbrev pub counts_strays : Run
counts_strays = record migrated_run {
  events = take 10 migrated_events ++ injects_from Server 0 (replicate 371 0x00) ∷ asks_server ∷ [];
  answers = take 10 migrated_answers ++ no_fixed_bit ∷ gives_to 9 1200 ∷ [];
  views = take 10 migrated_views ++ moved_view ∷ asked_view ∷ [];
  from_client = two_given;
}

-- what is left where those bytes came from there
abbrev pub once_strayed_bytes : World
once_strayed_bytes = after_event worked_policies (once_migrated 10) (injects_from Server 0 (replicate 371 0x00)) no_fixed_bit

-- a server that takes its peer to be where it was
abbrev pub never_migrates : Run
never_migrates = record migrated_run {
  events = take 8 migrated_events;
  answers = moving_answers ++ tells_state true ∷ [];
  views = before_moving ++ replicate 2 (record { client = sent_view; server = waiting_view });
  from_client = two_given;
  from_server = [];
}

-- a server that asks its peer at the new address to answer, and gives that to the old one
abbrev pub answers_old_address : Run
answers_old_address = moved_and 11 asks_server (gives_bytes 1200) asked_view

-- a server whose close goes to the old one
abbrev pub closes_to_old_address : Run
closes_to_old_address = record migrated_run {
  events = take 11 migrated_events ++ server_closes ∷ asks_server ∷ [];
  answers = take 11 migrated_answers ++ answers.Close ∷ gives_bytes 29 ∷ [];
  views = take 11 migrated_views ++ replicate 2 (record { client = sent_view; server = record (closed_view reasons.Application) { validated = false } });
  from_client = two_given;
}

-- what is left where the application of the server closes there
abbrev pub once_closed_there : World
once_closed_there = after_event worked_policies (once_migrated 11) server_closes answers.Close

-- what a server says that uses the same id at the new address, which it doesn't retire
abbrev pub kept_payload : List ℕ
kept_payload = (0x02 ∷ 0x01 ∷ 0x00 ∷ 0x00 ∷ 0x01 ∷ []) ++ (0x1a ∷ id_word) ++ told_ids (replicate 964 0x00)

-- as it went
abbrev pub kept_sent : Sent
kept_sent = record {
  id = client_id;
  number = 0;
  reference = 0;
  frames = ack acks_both ∷ path_challenge id_word ∷ behind_ids (replicate 964 padding);
  moment = 0;
  size = 1200;
  generation = 1;
}

-- such a server
abbrev pub keeps_id : Run
keeps_id = record migrated_run {
  events = take 12 migrated_events;
  answers = take 12 migrated_answers;
  views = take 12 migrated_views;
  from_client = two_given;
  from_server = server_to client_id kept_payload ∷ [];
}
