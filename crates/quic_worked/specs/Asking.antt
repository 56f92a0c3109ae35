-- A run in which a client asks its peer how often to acknowledge (QUIC Acknowledgement Frequency,
-- sections 4 and 6): the first datagram has ACK_FREQUENCY, and from then on the server acknowledges
-- within 10 ms. And the same run as machines with a bug make it: the request has another number, or
-- another delay, or goes again, or never goes, or goes though the client isn't configured to ask;
-- the server keeps to 25 ms; and a client that asks for 100 ms waits no longer for an
-- acknowledgement than one that asks for less.
use Rattle.std.specs.Prelude.{ℕ, true, List, [], ◌∷◌, ◌++◌, replicate, take, Some, None, Ok}
use Rattle.quic_wire_core.specs.declared.stream_id.Side.TheVariants.{Client, Server}
use Rattle.quic_wire.specs.Value.{AckFrequencyValue, ack, ack_frequency, ping}
use Rattle.quic_wire.specs.Reading.{ack_frequency_at}
use Rattle.quic_config.specs.Configs.{FrequencySettings}
use Rattle.quic_config.specs.Transport.{Settings, parameters_of}
use Rattle.quic_machine.specs.declared.answers.Received.TheVariants as receives
use Rattle.quic_machine.specs.declared.run.RunEvent.{RunEvent}
use Rattle.quic_machine.specs.declared.run.Call.TheVariants as calls
use Rattle.quic_machine.specs.declared.run.Answer.{Answer}
use Rattle.quic_machine.specs.declared.run.Answer.TheVariants as answers
use Rattle.quic_machine.specs.declared.run.View.{View}
use Rattle.quic_machine.specs.End.{new_end}
use Rattle.quic_machine.specs.Machine.{World}
use Rattle.quic_headline.specs.Runs.{Run}
use Rattle.quic_headline.specs.Observer.{Sent}
use Rattle.quic_worked.specs.Settings.{plain_settings}
use Rattle.quic_worked.specs.Worked.{ran_so_far, steady, shut, worked_parameters, worked_policies, started, client_id, server_id, delivery, gives_bytes, gives_unmarked, id_frames, ids_payload}
use Rattle.quic_worked.specs.Acknowledged.{client_acked, ack_at_once, client_datagram, from_server}
use Rattle.quic_worked.specs.Losses.{asks_ping}
use Rattle.quic_worked.specs.Held.{gives_nothing}
use Rattle.quic_worked.specs.Timed.{serves, asks_at, comes_at, seen_with}

-- a datagram of the client, by where it stands, comes to the server at a moment
abbrev pub comes_there : ℕ → ℕ → RunEvent
comes_there index now = record { side = Server; call = calls.Deliver (record delivery { index = index; now = now }) }

-- ---- two ends of which one asks

-- three packets that ask may wait, for so many nanoseconds at most, and two come out of order
abbrev pub asks_within : ℕ → FrequencySettings
asks_within delay = record { threshold = 3; max_delay = Some delay; reordering = 2 }

-- the client asks for that
abbrev pub asking_settings : ℕ → Settings
asking_settings delay = record plain_settings { ack_frequency_config = Some (asks_within delay) }

-- the server can be asked
abbrev pub asked_settings : Settings
asked_settings = record plain_settings { ack_frequency_support = true }

-- which it tells beside the rest: 1000 microseconds are the least delay that it may be asked for
-- (section 3)
abbrev pub asked_parameters : List ℕ
asked_parameters = worked_parameters ++ (0xc0 ∷ 0x00 ∷ 0x00 ∷ 0x00 ∷ 0xff ∷ 0x04 ∷ 0xde ∷ 0x1b ∷ 0x02 ∷ 0x43 ∷ 0xe8 ∷ [])

-- both ends, before anything was given, of which the client has these settings; the window of the
-- server is shut
abbrev pub asking_start_with : Settings → World
asking_start_with settings = record started {
  client = new_end Client settings steady (parameters_of asked_settings) client_id server_id 0 0 true (λ n. 63);
  server = new_end Server asked_settings shut (parameters_of plain_settings) server_id client_id 0 0 true (λ n. 63);
}

-- where the client asks
abbrev pub asking_start : ℕ → World
asking_start delay = asking_start_with (asking_settings delay)

-- ---- what the client asks

-- ACK_FREQUENCY of this number, which asks for so many microseconds (section 4)
abbrev pub request : ℕ → ℕ → AckFrequencyValue
request number delay = record { sequence = number; threshold = 3; delay = delay; reordering = 2 }

-- how that is written, with its number in one byte, and the delay in these
abbrev pub request_payload : ℕ → List ℕ → List ℕ
request_payload number delay = 0x40 ∷ 0xaf ∷ number ∷ 0x03 ∷ delay ++ 0x02 ∷ []

-- 10000 microseconds
abbrev pub ten_millis : List ℕ
ten_millis = 0x67 ∷ 0x10 ∷ []

-- 20000 microseconds
abbrev pub twenty_millis : List ℕ
twenty_millis = 0x80 ∷ 0x00 ∷ 0x4e ∷ 0x20 ∷ []

-- the first datagram of a client: its request, and its ids
abbrev pub first_asking : ℕ → List ℕ → List ℕ
first_asking number delay = client_datagram 0 0 (request_payload number delay ++ ids_payload)

-- as it was sent, with so many bytes
abbrev pub first_sent : AckFrequencyValue → ℕ → Sent
first_sent asked size = record { id = server_id; number = 0; reference = 0; frames = ack_frequency asked ∷ id_frames; moment = 0; size = size; generation = 0 }

-- ---- the run

-- the client gives its datagram, which comes to the server 5 ms later; 10 ms after that the server
-- acknowledges it, and the client takes that; it gives PING, which comes
abbrev pub asked_events : List RunEvent
asked_events =
    asks_at Client 0
    ∷ comes_at Server 5000000
    ∷ serves Server 15000000
    ∷ asks_at Server 15000000
    ∷ comes_at Client 20000000
    ∷ asks_ping
    ∷ asks_at Client 20000000
    ∷ comes_there 1 25000000
    ∷ []

-- what that is answered
abbrev pub asked_answers : List Answer
asked_answers =
    gives_bytes 229
    ∷ answers.Deliver receives.Taken
    ∷ answers.Timeout (Ok tt)
    ∷ gives_bytes 32
    ∷ answers.Deliver receives.Taken
    ∷ answers.Ping
    ∷ gives_unmarked 32
    ∷ answers.Deliver receives.Taken
    ∷ []

-- what the first so many of these leave
unfoldable pub once_asked : ℕ → World
unfolding client_acked ack_frequency_at
once_asked n = ran_so_far worked_policies (asking_start 10000000) asked_events asked_answers n

-- the views: a round trip takes 20 ms, its variation 10 ms, and the peer holds an acknowledgement
-- back for 10 ms
abbrev pub asked_views : List View
asked_views =
    seen_with (Some 1024000000) None
    ∷ seen_with (Some 1024000000) (Some 15000000)
    ∷ seen_with (Some 1024000000) None
    ∷ seen_with (Some 1024000000) None
    ∷ seen_with None None
    ∷ seen_with None None
    ∷ seen_with (Some 90000000) None
    ∷ seen_with (Some 90000000) (Some 35000000)
    ∷ []

-- ACK of number 0 alone, after 10000 microseconds, of which the last three bits go (RFC 9000,
-- section 19.3)
abbrev pub late_ack_payload : List ℕ
late_ack_payload = 0x02 ∷ 0x00 ∷ 0x44 ∷ 0xe2 ∷ 0x00 ∷ 0x00 ∷ []

-- the server's datagram
abbrev pub ack_sent : Sent
ack_sent = record { id = client_id; number = 0; reference = 0; frames = ack (record { largest = 0; delay = 1250; ranges = (0, 0) ∷ []; ecn = None }) ∷ []; moment = 15000000; size = 32; generation = 0 }

-- the client's second: PING, and an acknowledgement goes along
abbrev pub ping_sent : Sent
ping_sent = record { id = server_id; number = 1; reference = 0; frames = ping ∷ ack (record { largest = 0; delay = 0; ranges = (0, 0) ∷ []; ecn = None }) ∷ []; moment = 20000000; size = 32; generation = 0 }

-- the run
abbrev pub asked_run : Run
asked_run = record {
  keys = worked_policies;
  start = asking_start 10000000;
  events = asked_events;
  answers = asked_answers;
  views = asked_views;
  from_client = first_asking 0 ten_millis ∷ client_datagram 1 0 (0x01 ∷ ack_at_once) ∷ [];
  from_server = from_server 0 late_ack_payload ∷ [];
}

-- ---- clients that ask otherwise

-- the client gives its first datagram so
abbrev pub asks_as : ℕ → List ℕ → Run
asks_as size datagram = record asked_run {
  events = asks_at Client 0 ∷ [];
  answers = gives_bytes size ∷ [];
  views = take 1 asked_views;
  from_client = datagram ∷ [];
  from_server = [];
}

-- the request has number 1, though it is the first
abbrev pub counts_from_one : Run
counts_from_one = asks_as 229 (first_asking 1 ten_millis)

-- the request is for 20 ms, though 10 ms are configured
abbrev pub asks_for_twenty : Run
asks_for_twenty = asks_as 231 (first_asking 0 twenty_millis)

-- the client asks, though it isn't configured to
abbrev pub asks_unasked : Run
asks_unasked = let r : Run = asks_as 229 (first_asking 0 ten_millis) in record r { start = asking_start_with plain_settings }

-- the client asks again in the next poll, and nothing has changed
abbrev pub asks_again : Run
asks_again = record asked_run {
  events = replicate 2 (asks_at Client 0);
  answers = gives_bytes 229 ∷ gives_bytes 33 ∷ [];
  views = replicate 2 (seen_with (Some 1024000000) None);
  from_client = first_asking 0 ten_millis ∷ client_datagram 1 0 (request_payload 1 ten_millis) ∷ [];
  from_server = [];
}

-- its second datagram
abbrev pub again_sent : Sent
again_sent = record { id = server_id; number = 1; reference = 0; frames = ack_frequency (request 1 10000) ∷ []; moment = 0; size = 33; generation = 0 }

-- the client gives its ids without the request
abbrev pub leaves_request : Run
leaves_request = asks_as 222 (client_datagram 0 0 ids_payload)

-- what it gives
abbrev pub ids_sent : Sent
ids_sent = record { id = server_id; number = 0; reference = 0; frames = id_frames; moment = 0; size = 222; generation = 0 }

-- the client gives nothing
abbrev pub withholds_request : Run
withholds_request = record asked_run {
  events = asks_at Client 0 ∷ [];
  answers = gives_nothing ∷ [];
  views = seen_with None None ∷ [];
  from_client = [];
  from_server = [];
}

-- ---- a server that keeps to 25 ms

-- the first datagram comes, and the server's timer shows this
abbrev pub acks_until : ℕ → Run
acks_until due = record asked_run {
  events = take 2 asked_events;
  answers = take 2 asked_answers;
  views = seen_with (Some 1024000000) None ∷ seen_with (Some 1024000000) (Some due) ∷ [];
  from_client = take 1 asked_run.from_client;
  from_server = [];
}

-- 25 ms behind it, as if nothing had been asked
abbrev pub waits_as_before : Run
waits_as_before = acks_until 30000000

-- ---- a longer delay

-- 100000 microseconds
abbrev pub hundred_millis : List ℕ
hundred_millis = 0x80 ∷ 0x01 ∷ 0x86 ∷ 0xa0 ∷ []

-- the client that asks for these gave its datagram
unfoldable pub once_patient : World
unfolding once_asked
once_patient = ran_so_far worked_policies (asking_start 100000000) (asks_at Client 0 ∷ []) (gives_bytes 231 ∷ []) 1

-- the run, where the client's loss timer shows this
abbrev pub patient_until : ℕ → Run
patient_until due = record {
  keys = worked_policies;
  start = asking_start 100000000;
  events = asks_at Client 0 ∷ [];
  answers = gives_bytes 231 ∷ [];
  views = seen_with (Some due) None ∷ [];
  from_client = first_asking 0 hundred_millis ∷ [];
  from_server = [];
}

-- three times the round trip that is assumed, and 100 ms
abbrev pub patient_run : Run
patient_run = patient_until 1099000000

-- a client that counts on an acknowledgement within 25 ms all the same
abbrev pub impatient_run : Run
impatient_run = patient_until 1024000000
