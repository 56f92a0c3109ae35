-- A run in which two round trips are measured (RFC 9002, sections 5.3 and 6.2): the client assumes
-- 100 ms, and not 333 ms. Its first datagram takes 50 ms, its second one 100 ms, and the server
-- holds the acknowledgement of each back for 25 ms; then a third goes. And the same run as machines
-- with a bug show it.
use Rattle.std.specs.Prelude.{ℕ, true, List, [], ◌∷◌, Some, None, Ok}
use Rattle.quic_wire_core.specs.declared.stream_id.Side.{Side}
use Rattle.quic_wire_core.specs.declared.stream_id.Side.TheVariants.{Client, Server}
use Rattle.quic_config.specs.Transport.{Settings, parameters_of}
use Rattle.quic_machine.specs.declared.answers.Received.TheVariants as receives
use Rattle.quic_machine.specs.declared.run.RunEvent.{RunEvent}
use Rattle.quic_machine.specs.declared.run.Call.TheVariants as calls
use Rattle.quic_machine.specs.declared.run.Answer.{Answer}
use Rattle.quic_machine.specs.declared.run.Answer.TheVariants as answers
use Rattle.quic_machine.specs.End.{new_end}
use Rattle.quic_machine.specs.Machine.{World}
use Rattle.quic_headline.specs.Runs.{Run}
use Rattle.quic_worked.specs.Settings.{plain_settings}
use Rattle.quic_worked.specs.Worked.{ran_so_far, steady, worked_policies, client_id, server_id, started, delivery, gives_bytes, gives_unmarked}
use Rattle.quic_worked.specs.Acknowledged.{ack_payload, client_datagram, client_acked, from_server}
use Rattle.quic_worked.specs.Losses.{asks_ping, first_ping}
use Rattle.quic_worked.specs.Measured.{ack_of_first}
use Rattle.quic_worked.specs.Timed.{serves, asks_at, seen_with}

-- a round trip of 100 ms is assumed
abbrev pub smoothed_settings : Settings
smoothed_settings = record plain_settings { initial_rtt = 100000000 }

-- both ends, before anything was given, of which the client assumes so
abbrev pub smoothed_start : World
smoothed_start = record started { client = new_end Client smoothed_settings steady (parameters_of plain_settings) client_id server_id 0 0 true (λ n. 63) }

-- the datagram of this place comes to an end at a moment
abbrev pub brings : ℕ → Side → ℕ → RunEvent
brings index side now = record { side = side; call = calls.Deliver (record delivery { now = now; index = index }) }

-- The client's first datagram goes at moment 0, and comes 10 ms later; its acknowledgement goes 25
-- ms behind that, and comes at 50 ms. The second one goes at 60 ms, comes 10 ms later, and the
-- acknowledgement, which goes 25 ms behind that, takes 65 ms. Then the third one goes.
abbrev pub smoothed_events : List RunEvent
smoothed_events =
    asks_ping
    ∷ asks_at Client 0
    ∷ brings 0 Server 10000000
    ∷ serves Server 35000000
    ∷ asks_at Server 35000000
    ∷ brings 0 Client 50000000
    ∷ asks_ping
    ∷ asks_at Client 60000000
    ∷ brings 1 Server 70000000
    ∷ serves Server 95000000
    ∷ asks_at Server 95000000
    ∷ brings 1 Client 160000000
    ∷ asks_ping
    ∷ asks_at Client 160000000
    ∷ []

-- what that is answered: neither end counts marks, so the later datagrams have none
abbrev pub smoothed_answers : List Answer
smoothed_answers =
    answers.Ping
    ∷ gives_bytes 223
    ∷ answers.Deliver receives.Taken
    ∷ answers.Timeout (Ok tt)
    ∷ gives_bytes 32
    ∷ answers.Deliver receives.Taken
    ∷ answers.Ping
    ∷ gives_unmarked 33
    ∷ answers.Deliver receives.Taken
    ∷ answers.Timeout (Ok tt)
    ∷ gives_unmarked 32
    ∷ answers.Deliver receives.Taken
    ∷ answers.Ping
    ∷ gives_unmarked 32
    ∷ []

-- what the first so many of these leave
unfoldable pub once_smoothed : ℕ → World
unfolding client_acked
once_smoothed n = ran_so_far worked_policies smoothed_start smoothed_events smoothed_answers n

-- PING, and ACK of number 0 after 10000 microseconds, of which the last three bits go; and PING
-- with ACK of number 1 at once
abbrev pub second_ping : List ℕ
second_ping = 0x01 ∷ 0x02 ∷ 0x00 ∷ 0x44 ∷ 0xe2 ∷ 0x00 ∷ 0x00 ∷ []

abbrev pub third_ping : List ℕ
third_ping = 0x01 ∷ 0x02 ∷ 0x01 ∷ 0x00 ∷ 0x00 ∷ 0x00 ∷ []

-- the run, where the client shows its loss timer so once the second and the third datagram went
abbrev pub smoothed_seen : ℕ → ℕ → Run
smoothed_seen second third = record {
  keys = worked_policies;
  start = smoothed_start;
  events = smoothed_events;
  answers = smoothed_answers;
  views =
      seen_with None None
      ∷ seen_with (Some 325000000) None
      ∷ seen_with (Some 325000000) (Some 35000000)
      ∷ seen_with (Some 325000000) None
      ∷ seen_with (Some 325000000) None
      ∷ seen_with None None
      ∷ seen_with None None
      ∷ seen_with (Some second) None
      ∷ seen_with (Some second) (Some 95000000)
      ∷ seen_with (Some second) None
      ∷ seen_with (Some second) None
      ∷ seen_with None None
      ∷ seen_with None None
      ∷ seen_with (Some third) None
      ∷ [];
  from_client = client_datagram 0 0 first_ping ∷ client_datagram 1 0 second_ping ∷ client_datagram 2 1 third_ping ∷ [];
  from_server = from_server 0 ack_payload ∷ from_server 1 ack_of_first ∷ [];
}

-- The run. The first sample is 50 ms, and its variation 25 ms: the second datagram is waited for
-- during 50 ms, four times 25 ms, and the 25 ms for which the peer may hold an acknowledgement
-- back. Of the second sample 75 ms are left without the peer's delay: the smoothed time is an
-- eighth of these and seven of 50 ms, 53.125 ms, and the variation a quarter of the 25 ms between
-- both and three of 25 ms.
abbrev pub smoothed_run : Run
smoothed_run = smoothed_seen 235000000 338125000

-- a client that never takes the peer's delay off: 56.25 ms, which vary by 31.25 ms
abbrev pub undelayed_run : Run
undelayed_run = smoothed_seen 235000000 366250000

-- one that goes a quarter of the way to a sample: 56.25 ms, which vary by 25 ms
abbrev pub hasty_rtt : Run
hasty_rtt = smoothed_seen 235000000 341250000

-- and one that takes the peer's delay off the first sample too: 25 ms, which vary by 12.5 ms
abbrev pub shortened_rtt : Run
shortened_rtt = smoothed_seen 160000000 303750000
