-- A run in which both ends come to rest, and what they sent beside the bytes of streams has arrived
-- (RFC 9000, section 13.3): the client resets one stream, and retires the id of its peer's with
-- which it began; the server, which takes eight bytes in all, stops another stream, and says how
-- many more bytes may come, once the eight are used up. And machines that come to rest though the
-- datagram that says it was lost.
use Rattle.std.specs.Prelude.{ℕ, false, List, [], ◌∷◌, ◌++◌, replicate, take, Some, None, Ok}
use Rattle.quic_wire_core.specs.declared.stream_id.Side.TheVariants.{Client, Server}
use Rattle.quic_wire.specs.Value.{FrameValue, ack, stream, reset_stream, stop_sending, max_data}
use Rattle.quic_wire.specs.Reading.{reset_stream_at, stop_sending_at}
use Rattle.quic_sets.specs.Offsets.{with_offsets}
use Rattle.quic_sets.specs.Pieces.{with_range, joining, pieces}
use Rattle.quic_packet.specs.Datagram.{sent}
use Rattle.quic_machine.specs.declared.answers.Received.TheVariants as receives
use Rattle.quic_machine.specs.declared.run.RunEvent.{RunEvent}
use Rattle.quic_machine.specs.declared.run.Call.TheVariants as calls
use Rattle.quic_machine.specs.declared.run.Answer.{Answer}
use Rattle.quic_machine.specs.declared.run.Answer.TheVariants as answers
use Rattle.quic_machine.specs.declared.run.View.{View}
use Rattle.quic_machine.specs.Machine.{World}
use Rattle.quic_headline.specs.Runs.{Run, Packet}
use Rattle.quic_headline.specs.Observer.{Sent}
use Rattle.quic_worked.specs.Worked.{worked_policies, client_id, hello, opens_stream, asks_datagram, gives_bytes, gives_unmarked, id_word, id_frames, id_payload, ids_payload, ran_so_far}
use Rattle.quic_worked.specs.Acknowledged.{client_acked, ack_at_once, ack_of_unsent, client_datagram, from_server}
use Rattle.quic_worked.specs.Reordered.{abc, delivers_at}
use Rattle.quic_worked.specs.Paired.{writes_on, resets_with, asks_server, client_hears}
use Rattle.quic_worked.specs.Losses.{client_polled, server_polled}
use Rattle.quic_worked.specs.Timed.{serves, asks_at}
use Rattle.quic_worked.specs.Held.{gives_nothing}
use Rattle.quic_worked.specs.Credit.{opens_one_way, accepts_one_way}
use Rattle.quic_worked.specs.Raised.{client_waits}
use Rattle.quic_worked.specs.Renamed.{uses_next, second_to, retiring_payload, client_hears_second}
use Rattle.quic_worked.specs.Blocked.{small_start}
use Rattle.quic_worked.specs.Confirmed.{all_seen, unset_view}

-- ---- the run

-- the server's application stops the stream that it accepted
abbrev pub stops_one_way : RunEvent
stops_one_way = record { side = Server; call = calls.Stop 2 9 }

-- the client's third datagram comes
abbrev pub third_comes : RunEvent
third_comes = record { side = Server; call = calls.Deliver (record { now = 25000000; remote = 0; ecn = None; index = 2 }) }

-- the client writes on two streams, resets the first, and gives a datagram; the server stops the
-- second, and gives one; the client uses the next id, and gives a second, and so does the server,
-- which tells a new id for the one that was retired; the client acknowledges that 25 ms later, and
-- both are asked once more
abbrev pub arrived_events : List RunEvent
arrived_events =
    opens_stream
    ∷ writes_on 0 abc
    ∷ resets_with 7
    ∷ opens_one_way
    ∷ writes_on 2 hello
    ∷ asks_datagram
    ∷ delivers_at 0
    ∷ accepts_one_way
    ∷ stops_one_way
    ∷ asks_server
    ∷ client_hears
    ∷ uses_next
    ∷ asks_datagram
    ∷ delivers_at 1
    ∷ asks_server
    ∷ client_hears_second
    ∷ client_waits
    ∷ client_polled
    ∷ third_comes
    ∷ client_polled
    ∷ server_polled
    ∷ []

-- what that is answered
abbrev pub arrived_answers : List Answer
arrived_answers =
    answers.Open (Some 0)
    ∷ answers.Write (Ok 3)
    ∷ answers.Reset (Ok tt)
    ∷ answers.Open (Some 2)
    ∷ answers.Write (Ok 5)
    ∷ gives_bytes 234
    ∷ answers.Deliver receives.Taken
    ∷ answers.Accept (Some 2)
    ∷ answers.Stop (Ok tt)
    ∷ gives_bytes 232
    ∷ answers.Deliver receives.Taken
    ∷ answers.UseNextId (Ok tt)
    ∷ gives_unmarked 33
    ∷ answers.Deliver receives.Taken
    ∷ gives_unmarked 59
    ∷ answers.Deliver receives.Taken
    ∷ answers.Timeout (Ok tt)
    ∷ gives_unmarked 32
    ∷ answers.Deliver receives.Taken
    ∷ gives_nothing
    ∷ gives_nothing
    ∷ []

-- what the first so many of these leave
unfoldable pub once_arrived : ℕ → World
unfolding client_acked with_offsets with_range joining pieces reset_stream_at stop_sending_at
once_arrived n = ran_so_far worked_policies (small_start 8) arrived_events arrived_answers n

-- ---- what is seen

-- the client waits for an acknowledgement
abbrev pub given_view : View
given_view = all_seen (Some 1024000000) None None None

-- and the server has one to give
abbrev pub taken_view : View
taken_view = all_seen (Some 1024000000) None None (Some 25000000)

-- both wait for one
abbrev pub both_view : View
both_view = all_seen (Some 1024000000) None (Some 1024000000) None

-- the client has one to give
abbrev pub told_view : View
told_view = all_seen None (Some 25000000) (Some 1024000000) None

-- the client gave its second datagram: it knows how long a round trip takes
abbrev pub retiring_view : View
retiring_view = all_seen (Some 26000000) None (Some 1024000000) None

-- the server took it
abbrev pub retired_view : View
retired_view = all_seen (Some 26000000) None None (Some 25000000)

-- and gave its own
abbrev pub issued_view : View
issued_view = all_seen (Some 26000000) None (Some 26000000) None

-- which the client took
abbrev pub last_view : View
last_view = all_seen None (Some 25000000) (Some 26000000) None

-- the server alone waits for an acknowledgement
abbrev pub acked_view : View
acked_view = all_seen None None (Some 26000000) None

-- all of it
abbrev pub arrived_views : List View
arrived_views =
    replicate 5 unset_view
    ++ given_view
    ∷ replicate 3 taken_view
    ++ both_view
    ∷ told_view
    ∷ told_view
    ∷ retiring_view
    ∷ retired_view
    ∷ issued_view
    ∷ last_view
    ∷ acked_view
    ∷ acked_view
    ∷ replicate 3 unset_view

-- ---- what goes

-- RESET_STREAM of stream 0 with code 7, of which three bytes were written (RFC 9000, section 19.4),
-- the ids, and STREAM with a length, stream 2, five bytes
abbrev pub reset_payload : List ℕ
reset_payload = 0x04 ∷ 0x00 ∷ 0x07 ∷ 0x03 ∷ ids_payload ++ (0x0a ∷ 0x02 ∷ 0x05 ∷ []) ++ hello

-- what the server takes of that
abbrev pub reset_packet : Packet
reset_packet = record {
  number = 0;
  frames = reset_stream (record { id = 0; code = 7; final_size = 3 }) ∷ id_frames ++ stream (record { id = 2; offset = 0; fin = false; bytes = hello }) ∷ [];
}

-- STOP_SENDING of stream 2 with code 9 (section 19.5), MAX_DATA of 16 bytes, the ids, and an
-- acknowledgement
abbrev pub stop_payload : List ℕ
stop_payload = 0x05 ∷ 0x02 ∷ 0x09 ∷ 0x10 ∷ 0x10 ∷ ids_payload ++ ack_at_once

-- the same as frames
abbrev pub stop_frames : List FrameValue
stop_frames = stop_sending (record { id = 2; code = 9 }) ∷ max_data 16 ∷ id_frames ++ ack (record { largest = 0; delay = 0; ranges = (0, 0) ∷ []; ecn = None }) ∷ []

-- what the client takes of it
abbrev pub stop_packet : Packet
stop_packet = record { number = 0; frames = stop_frames }

-- the datagram as it was sent
abbrev pub stop_sent : Sent
stop_sent = record { id = client_id; number = 0; reference = 0; frames = stop_frames; moment = 0; size = 232; generation = 0 }

-- one id more, and an acknowledgement of number 1
abbrev pub id_and_ack : List ℕ
id_and_ack = id_payload 8 ++ ack_of_unsent

-- ACK of number 1 alone, after 25000 microseconds
abbrev pub late_ack : List ℕ
late_ack = 0x02 ∷ 0x01 ∷ 0x4c ∷ 0x35 ∷ 0x00 ∷ 0x00 ∷ []

-- what the server takes of that
abbrev pub ack_packet : Packet
ack_packet = record { number = 2; frames = ack (record { largest = 1; delay = 3125; ranges = (1, 1) ∷ []; ecn = None }) ∷ [] }

-- the run
abbrev pub arrived_run : Run
arrived_run = record {
  keys = worked_policies;
  start = small_start 8;
  events = arrived_events;
  answers = arrived_answers;
  views = arrived_views;
  from_client = client_datagram 0 0 reset_payload ∷ second_to id_word retiring_payload ∷ sent worked_policies.client.header worked_policies.client.packet 2 1 id_word late_ack ∷ [];
  from_server = from_server 0 stop_payload ∷ from_server 1 id_and_ack ∷ [];
}

-- ---- machines that forget what a lost datagram carried

-- the first so many events; then the loss timer of an end expires for its last datagram, which
-- never came, and a poll gives nothing
abbrev pub forgetting : ℕ → List RunEvent → Run
forgetting n more = record arrived_run {
  events = take n arrived_events ++ more;
  answers = take n arrived_answers ++ answers.Timeout (Ok tt) ∷ gives_nothing ∷ [];
}

-- the client forgets the reset
abbrev pub reset_forgotten : Run
reset_forgotten = record (forgetting 6 (serves Client 1024000000 ∷ asks_at Client 1024000000 ∷ [])) {
  views = take 6 arrived_views ++ unset_view ∷ unset_view ∷ [];
  from_client = take 1 arrived_run.from_client;
  from_server = [];
}

-- the server forgets that a stream was stopped, and how many bytes may come
abbrev pub stop_forgotten : Run
stop_forgotten = record (forgetting 10 (serves Server 1024000000 ∷ asks_at Server 1024000000 ∷ [])) {
  views = take 10 arrived_views ++ given_view ∷ given_view ∷ [];
  from_client = take 1 arrived_run.from_client;
  from_server = take 1 arrived_run.from_server;
}

-- the client forgets the retirement
abbrev pub retirement_forgotten : Run
retirement_forgotten = record (forgetting 13 (serves Client 26000000 ∷ asks_at Client 26000000 ∷ [])) {
  views = take 13 arrived_views ++ all_seen None None (Some 1024000000) None ∷ all_seen None None (Some 1024000000) None ∷ [];
  from_client = take 2 arrived_run.from_client;
  from_server = take 1 arrived_run.from_server;
}
