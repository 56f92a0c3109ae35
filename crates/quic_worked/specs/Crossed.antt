-- A run in which one acknowledgement names datagrams of both paths of a server that followed its
-- peer, and others of both are lost by it (RFC 9000, section 9; RFC 9002, section 6.1.1): what
-- counts for the window is what went on the path that the server has.
use Rattle.std.specs.Prelude.{false, ℕ, List, [], ◌∷◌, ◌++◌, replicate, Some, None}
use Rattle.quic_wire_core.specs.declared.stream_id.Side.TheVariants.{Client, Server}
use Rattle.quic_wire.specs.Value.{ping, ack}
use Rattle.quic_packet.specs.Datagram.{sent}
use Rattle.quic_congestion.specs.Congestion.{Told, AcksEnded, Congested}
use Rattle.quic_congestion.specs.Congestion as congestion
use Rattle.quic_machine.specs.declared.answers.Received.TheVariants as receives
use Rattle.quic_machine.specs.declared.run.RunEvent.{RunEvent}
use Rattle.quic_machine.specs.declared.run.Call.TheVariants as calls
use Rattle.quic_machine.specs.declared.run.Answer.{Answer}
use Rattle.quic_machine.specs.declared.run.Answer.TheVariants as answers
use Rattle.quic_machine.specs.declared.run.View.{View}
use Rattle.quic_machine.specs.Machine.{World}
use Rattle.quic_headline.specs.Runs.{Run}
use Rattle.quic_headline.specs.Observer.{Sent}
use Rattle.quic_worked.specs.Worked.{ran_so_far, worked_policies, both_steady, id_word, ids_payload, asks_datagram, gives_bytes, gives_unmarked, open_view, sent_view, view_with, waiting_view}
use Rattle.quic_worked.specs.Acknowledged.{client_datagram, ack_at_once, from_server}
use Rattle.quic_worked.specs.Losses.{asks_ping, ping_payload}
use Rattle.quic_worked.specs.Paired.{asks_server}
use Rattle.quic_worked.specs.Unvalidated.{far_view, server_pings}
use Rattle.quic_worked.specs.Migrated.{comes_from, injects_from, no_fixed_bit, gives_to}

-- a datagram of the server comes to the client at moment 0, without a mark
abbrev pub client_takes_at : ℕ → RunEvent
client_takes_at index = record { side = Client; call = calls.Deliver (record { now = 0; remote = 0; ecn = None; index = index }) }

-- The server gives two datagrams with PING to address 0. Then PING comes from address 9, and 600
-- bytes more, and the server gives four datagrams there, of which the first asks its peer to
-- answer.
abbrev pub both_paths : List RunEvent
both_paths =
    server_pings
    ∷ asks_server
    ∷ server_pings
    ∷ asks_server
    ∷ asks_ping
    ∷ asks_datagram
    ∷ comes_from 9 0
    ∷ injects_from Server 9 (replicate 600 0x00)
    ∷ asks_server
    ∷ server_pings
    ∷ asks_server
    ∷ server_pings
    ∷ asks_server
    ∷ server_pings
    ∷ asks_server
    ∷ []

-- The second and the last come to the client, and its acknowledgement to the server.
abbrev pub crossed_events : List RunEvent
crossed_events = both_paths ++ client_takes_at 1 ∷ client_takes_at 5 ∷ asks_datagram ∷ comes_from 9 1 ∷ []

-- what that is answered
abbrev pub crossed_answers : List Answer
crossed_answers =
    answers.Ping
    ∷ gives_bytes 223
    ∷ answers.Ping
    ∷ gives_bytes 29
    ∷ answers.Ping
    ∷ gives_bytes 223
    ∷ answers.Deliver receives.Taken
    ∷ no_fixed_bit
    ∷ gives_to 9 1200
    ∷ answers.Ping
    ∷ gives_to 9 32
    ∷ answers.Ping
    ∷ gives_to 9 32
    ∷ answers.Ping
    ∷ gives_to 9 32
    ∷ answers.Deliver receives.Taken
    ∷ answers.Deliver receives.Taken
    ∷ gives_unmarked 33
    ∷ answers.Deliver receives.Taken
    ∷ []

-- what the first so many of these leave
abbrev pub once_crossed : ℕ → World
once_crossed n = ran_so_far worked_policies both_steady crossed_events crossed_answers n

-- PATH_CHALLENGE, RETIRE_CONNECTION_ID of number 0, an acknowledgement of number 0, and PADDING up
-- to 1200 bytes in all
abbrev pub challenge_payload : List ℕ
challenge_payload = (0x1a ∷ id_word) ++ (0x19 ∷ 0x00 ∷ 0x02 ∷ 0x00 ∷ 0x00 ∷ 0x00 ∷ 0x00 ∷ replicate 1158 0x00)

-- an acknowledgement of numbers 5 and 1
abbrev pub acks_across : List ℕ
acks_across = 0x02 ∷ 0x05 ∷ 0x00 ∷ 0x01 ∷ 0x00 ∷ 0x02 ∷ 0x00 ∷ []

-- the server's datagram under a number, with this payload, to the next id of the client
abbrev pub to_next : ℕ → List ℕ → List ℕ
to_next number payload = sent worked_policies.server.header worked_policies.server.packet number 0 id_word payload

-- PING, and that acknowledgement again
abbrev pub acking_ping : List ℕ
acking_ping = 0x01 ∷ ack_at_once

-- a datagram with these, as it went there
abbrev pub pinged_there : ℕ → Sent
pinged_there number = record { id = id_word; number = number; reference = 0; frames = ping ∷ ack (record { largest = 0; delay = 0; ranges = (0, 0) ∷ []; ecn = None }) ∷ []; moment = 0; size = 32; generation = 1 }

-- what is seen behind each event
abbrev pub crossed_views : List View
crossed_views =
    record { client = open_view; server = open_view }
    ∷ replicate 4 (record { client = open_view; server = sent_view })
    ++ record { client = sent_view; server = sent_view }
    ∷ replicate 2 (record { client = sent_view; server = far_view (Some 1024000000) (Some 25000000) })
    ++ replicate 7 (record { client = sent_view; server = far_view (Some 1024000000) None })
    ++ record { client = view_with (Some 1024000000) (Some 25000000); server = far_view (Some 1024000000) None }
    ∷ record { client = waiting_view; server = far_view (Some 1024000000) None }
    ∷ record { client = open_view; server = far_view (Some 1024000000) None }
    ∷ record { client = open_view; server = far_view (Some 1000000) None }
    ∷ []

-- the run
abbrev pub crossed_run : Run
crossed_run = record {
  keys = worked_policies;
  start = both_steady;
  events = crossed_events;
  answers = crossed_answers;
  views = crossed_views;
  from_client = client_datagram 0 0 (0x01 ∷ ids_payload) ∷ client_datagram 1 0 acks_across ∷ [];
  from_server =
      from_server 0 (0x01 ∷ ids_payload)
      ∷ from_server 1 ping_payload
      ∷ to_next 2 challenge_payload
      ∷ to_next 3 acking_ping
      ∷ to_next 4 acking_ping
      ∷ to_next 5 acking_ping
      ∷ [];
}

-- What the server's controller is told: of six datagrams; that an acknowledgement ends, with 1264
-- bytes of the second path in flight; and that the path is congested, as 223 bytes of the first
-- path and 1200 of the second are lost. While the challenge is open, it is told of none that is
-- acknowledged.
abbrev pub crossed_told : List Told
crossed_told =
    congestion.Sent 0 223 0
    ∷ congestion.Sent 0 29 1
    ∷ congestion.Sent 0 1200 2
    ∷ congestion.Sent 0 32 3
    ∷ congestion.Sent 0 32 4
    ∷ congestion.Sent 0 32 5
    ∷ AcksEnded 0 1264 false (Some 5)
    ∷ Congested 0 0 false 1423
    ∷ []
