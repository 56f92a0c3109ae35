-- A run in which PTO probes have fewer bytes than the current size (RFC 8899, section 4.3; RFC
-- 9000, section 14.3): a client that fills up its datagrams finds a size of 1326 bytes, gives one of
-- as many, and isn't told that it came. Its loss timer expires, and two probes go of 1200 bytes
-- each, the least size; the first of them comes to the server, which acknowledges it. And a machine
-- that fills a probe up to the current size.
use Rattle.std.specs.Prelude.{ℕ, true, List, [], ◌∷◌, ◌++◌, replicate, take, Option, Some, None, Ok}
use Rattle.quic_wire_core.specs.declared.stream_id.Side.TheVariants.{Client, Server}
use Rattle.quic_wire.specs.Value.{ping, ack, padding}
use Rattle.quic_config.specs.Transport.{Settings, parameters_of}
use Rattle.quic_machine.specs.declared.answers.Received.TheVariants as receives
use Rattle.quic_machine.specs.declared.run.RunEvent.{RunEvent}
use Rattle.quic_machine.specs.declared.run.Call.TheVariants as calls
use Rattle.quic_machine.specs.declared.run.Answer.{Answer}
use Rattle.quic_machine.specs.declared.run.Answer.TheVariants as answers
use Rattle.quic_machine.specs.declared.run.View.{View}
use Rattle.quic_machine.specs.End.{new_end}
use Rattle.quic_machine.specs.Machine.{World}
use Rattle.quic_headline.specs.Runs.{Run}
use Rattle.quic_headline.specs.Observer.{Sent}
use Rattle.quic_worked.specs.Worked.{ran_so_far, worked_policies, steady, started, with_client, client_id, server_id, delivery, gives_bytes, gives_unmarked, ids_payload, view_with, server_open}
use Rattle.quic_worked.specs.Acknowledged.{ack_of_third, client_acked, client_datagram, from_server}
use Rattle.quic_worked.specs.Settings.{plain_settings, search_settings}
use Rattle.quic_worked.specs.Losses.{asks_ping}
use Rattle.quic_worked.specs.Timed.{serves, asks_at, comes_at, seen_with}
use Rattle.quic_worked.specs.Messages.{comes_to_server}
use Rattle.quic_worked.specs.Hasty.{ack_of_both}
use Rattle.quic_worked.specs.Searched.{size_payload}

-- ---- the ends

-- those of an end that looks for a larger size, and fills up each datagram that asks
abbrev pub filling_settings : Settings
filling_settings = record search_settings { pad_to_mtu = true }

-- both ends, of which the client does so
abbrev pub filling_start : World
filling_start = with_client started (new_end Client filling_settings steady (parameters_of plain_settings) client_id server_id 0 0 true (λ n. 63))

-- ---- events and answers

-- the client tells its ids, and gives an MTU probe of 1326 bytes; both come to the server, which
-- acknowledges them; then the client is asked for a PING, gives it, and is asked for two datagrams
-- more once its loss timer expired; the first of these comes, and is acknowledged
abbrev pub shortened_events : List RunEvent
shortened_events =
    asks_at Client 0
    ∷ asks_at Client 0
    ∷ comes_to_server 10000000 0
    ∷ comes_to_server 10000000 1
    ∷ asks_at Server 10000000
    ∷ comes_at Client 20000000
    ∷ asks_ping
    ∷ asks_at Client 20000000
    ∷ serves Client 105000000
    ∷ asks_at Client 105000000
    ∷ asks_at Client 105000000
    ∷ comes_to_server 115000000 3
    ∷ asks_at Server 115000000
    ∷ record { side = Client; call = calls.Deliver (record delivery { now = 125000000; index = 1 }) }
    ∷ []

-- what that is answered: ACK frames count no marks, so that none is kept
abbrev pub shortened_answers : List Answer
shortened_answers =
    gives_bytes 1200
    ∷ gives_bytes 1326
    ∷ answers.Deliver receives.Taken
    ∷ answers.Deliver receives.Taken
    ∷ gives_bytes 31
    ∷ answers.Deliver receives.Taken
    ∷ answers.Ping
    ∷ gives_unmarked 1326
    ∷ answers.Timeout (Ok tt)
    ∷ gives_unmarked 1200
    ∷ gives_unmarked 1200
    ∷ answers.Deliver receives.Taken
    ∷ gives_unmarked 31
    ∷ answers.Deliver receives.Taken
    ∷ []

-- what the first so many of these leave
unfoldable pub once_shortened : ℕ → World
unfolding client_acked
once_shortened n = ran_so_far worked_policies filling_start shortened_events shortened_answers n

-- ---- the run

-- what tells the ids, and PADDING up to 1200 bytes
abbrev pub filled_ids : List ℕ
filled_ids = ids_payload ++ replicate 978 0x00

-- PING, ACK of number 0, which came just then, and PADDING up to 1326 bytes
abbrev pub full_payload : List ℕ
full_payload = (0x01 ∷ 0x02 ∷ 0x00 ∷ 0x00 ∷ 0x00 ∷ 0x00 ∷ []) ++ replicate 1294 0x00

-- the same in a PTO probe, where number 0 came 85000 microseconds before, of which the last three
-- bits go (RFC 9000, section 19.3), and so many bytes of PADDING
abbrev pub probe_payload : ℕ → List ℕ
probe_payload zeros = (0x01 ∷ 0x02 ∷ 0x00 ∷ 0x69 ∷ 0x81 ∷ 0x00 ∷ 0x00 ∷ []) ++ replicate zeros 0x00

-- what is seen of both once the larger size is found, where the client's loss timer is set so
abbrev pub larger_with : Option ℕ → View
larger_with loss = record { client = record (view_with loss None) { current_mtu = 1326 }; server = server_open }

-- what is seen of both after each event. The round trip took 20 ms, of which half is its variation:
-- so the PING is waited for during 20 ms, four times 10 ms, and 25 ms, twice as long once the timer
-- expired, and so are the probes. The first of these took 20 ms again, and the variation is 7.5 ms
-- then; the PING before it counts as lost, and the second probe is waited for during 20 ms, four
-- times 7.5 ms, and 25 ms
abbrev pub shortened_views : List View
shortened_views =
    replicate 2 (seen_with (Some 1024000000) None)
    ++ replicate 2 (seen_with (Some 1024000000) (Some 35000000))
    ++ seen_with (Some 1024000000) None
    ∷ replicate 2 (larger_with None)
    ++ larger_with (Some 105000000)
    ∷ larger_with (Some 190000000)
    ∷ replicate 4 (larger_with (Some 275000000))
    ++ larger_with (Some 180000000)
    ∷ []

-- the run
abbrev pub shortened_run : Run
shortened_run = record {
  keys = worked_policies;
  start = filling_start;
  events = shortened_events;
  answers = shortened_answers;
  views = shortened_views;
  from_client =
      client_datagram 0 0 filled_ids
      ∷ client_datagram 1 0 size_payload
      ∷ client_datagram 2 1 full_payload
      ∷ client_datagram 3 1 (probe_payload 1167)
      ∷ client_datagram 4 1 (probe_payload 1167)
      ∷ [];
  from_server = from_server 0 ack_of_both ∷ from_server 1 ack_of_third ∷ [];
}

-- PING with such an ACK frame, and so many bytes of PADDING, as it was sent
abbrev pub ping_sent : ℕ → ℕ → ℕ → ℕ → ℕ → Sent
ping_sent number delay zeros moment size = record {
  id = server_id;
  number = number;
  reference = 1;
  frames = ping ∷ ack (record { largest = 0; delay = delay; ranges = (0, 0) ∷ []; ecn = None }) ∷ replicate zeros padding;
  moment = moment;
  size = size;
  generation = 0;
}

-- that of 1326 bytes before the loss timer expires
abbrev pub full_sent : Sent
full_sent = ping_sent 2 0 1294 20000000 1326

-- and the probes behind that
abbrev pub probe_sent : ℕ → Sent
probe_sent number = ping_sent number 10625 1167 105000000 1200

-- ---- a machine that goes wrong

-- a client that fills a probe up to the current size
abbrev pub long_probe_run : Run
long_probe_run = record shortened_run {
  events = take 10 shortened_events;
  answers = take 9 shortened_answers ++ gives_unmarked 1326 ∷ [];
  views = take 10 shortened_views;
  from_client = take 3 shortened_run.from_client ++ client_datagram 3 1 (probe_payload 1293) ∷ [];
  from_server = take 1 shortened_run.from_server;
}

-- it as it was sent
abbrev pub long_probe_sent : Sent
long_probe_sent = ping_sent 3 10625 1293 105000000 1326
