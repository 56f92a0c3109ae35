-- A run in which congestion persists (RFC 9002, section 7.6), with NewReno at the client: of four
-- datagrams the last alone comes, and the three before it are lost as it is acknowledged, of which
-- the second and the third went a second apart. And a machine whose window falls to one datagram
-- then.
use Rattle.std.specs.Prelude.{ℕ, true, false, List, [], ◌∷◌, ◌++◌, replicate, Some, None}
use Rattle.quic_wire_core.specs.declared.stream_id.Side.TheVariants.{Client, Server}
use Rattle.quic_congestion.specs.Congestion.{Told, Sent, Acked, AcksEnded, Congested}
use Rattle.quic_congestion.specs.NewReno.{default_reno, reno_made, window_after}
use Rattle.quic_time.specs.Rtt.{told_rtt}
use Rattle.quic_machine.specs.declared.answers.Received.TheVariants as receives
use Rattle.quic_machine.specs.declared.run.RunEvent.{RunEvent}
use Rattle.quic_machine.specs.declared.run.Answer.{Answer}
use Rattle.quic_machine.specs.declared.run.Answer.TheVariants as answers
use Rattle.quic_machine.specs.declared.run.View.{View}
use Rattle.quic_machine.specs.Control.{Control}
use Rattle.quic_machine.specs.Machine.{World}
use Rattle.quic_headline.specs.Runs.{Run}
use Rattle.quic_worked.specs.Worked.{ran_so_far, worked_policies, gives_bytes}
use Rattle.quic_worked.specs.Acknowledged.{ack_of_third, client_datagram, client_acked, from_server}
use Rattle.quic_worked.specs.Losses.{asks_ping, ping_payload, first_ping}
use Rattle.quic_worked.specs.Timed.{asks_at, seen_with, sampled_start}
use Rattle.quic_worked.specs.Smoothed.{brings}

-- NewReno, made at moment 0 for datagrams of 1200 bytes
abbrev pub reno_control : Control
reno_control = λ (told : List Told). window_after (reno_made default_reno 0 1200) told

-- both ends, of which the client has it, and was told of a round trip of 100 ms
abbrev pub collapsing : World
collapsing = record sampled_start { client_control = reno_control }

-- the client gives PING four times; the last comes, and its acknowledgement does
abbrev pub collapsed_events : List RunEvent
collapsed_events =
    asks_ping
    ∷ asks_at Client 1000000
    ∷ asks_ping
    ∷ asks_at Client 2000000
    ∷ asks_ping
    ∷ asks_at Client 1000000000
    ∷ asks_ping
    ∷ asks_at Client 1200000000
    ∷ brings 3 Server 1250000000
    ∷ asks_at Server 1250000000
    ∷ brings 0 Client 1300000000
    ∷ []

-- what that is answered
abbrev pub collapsed_answers : List Answer
collapsed_answers =
    answers.Ping
    ∷ gives_bytes 223
    ∷ answers.Ping
    ∷ gives_bytes 29
    ∷ answers.Ping
    ∷ gives_bytes 29
    ∷ answers.Ping
    ∷ gives_bytes 29
    ∷ answers.Deliver receives.Taken
    ∷ gives_bytes 31
    ∷ answers.Deliver receives.Taken
    ∷ []

-- what the first so many of these leave
unfoldable pub once_collapsed : ℕ → World
unfolding client_acked
once_collapsed n = ran_so_far worked_policies collapsing collapsed_events collapsed_answers n

-- what is seen where the client's window has so many bytes
abbrev pub view_of_window : ℕ → View
view_of_window bytes = (let v = seen_with None None in record v { client = record v.client { window = bytes } })

-- the run, where the client shows this window behind the losses
abbrev pub collapsed_seen : ℕ → Run
collapsed_seen bytes = record {
  keys = worked_policies;
  start = collapsing;
  events = collapsed_events;
  answers = collapsed_answers;
  views =
      seen_with None None
      ∷ replicate 2 (seen_with (Some 206000000) None)
      ++ replicate 2 (seen_with (Some 207000000) None)
      ++ replicate 2 (seen_with (Some 1205000000) None)
      ++ replicate 3 (seen_with (Some 1405000000) None)
      ++ view_of_window bytes
      ∷ [];
  from_client = client_datagram 0 0 first_ping ∷ client_datagram 1 0 ping_payload ∷ client_datagram 2 0 ping_payload ∷ client_datagram 3 0 ping_payload ∷ [];
  from_server = from_server 0 ack_of_third ∷ [];
}

-- the run: two datagrams are left
abbrev pub collapsed_run : Run
collapsed_run = collapsed_seen 2400

-- what its controller is told: of four datagrams; that the last is acknowledged, with the others in
-- flight; and that these are lost, and congestion persists. The first one doesn't count for that,
-- as it has the number that was next when the round trip was told
abbrev pub collapsed_told : List Told
collapsed_told =
    Sent 1000000 223 0
    ∷ Sent 2000000 29 1
    ∷ Sent 1000000000 29 2
    ∷ Sent 1200000000 29 3
    ∷ Acked 1300000000 1200000000 29 false (told_rtt 100000000 20000000)
    ∷ AcksEnded 1300000000 281 false (Some 3)
    ∷ Congested 1300000000 1000000000 true 281
    ∷ []

-- a machine that leaves one datagram
abbrev pub single_run : Run
single_run = collapsed_seen 1200

-- what a controller may be told where a datagram is lost: two acknowledgements, of which one is for
-- a datagram that went before recovery began, and one for as many bytes as the window has then
abbrev pub avoiding_told : List Told
avoiding_told = Congested 10 5 false 1200 ∷ Acked 20 5 1200 false (told_rtt 10 5) ∷ Acked 30 11 6000 false (told_rtt 10 5) ∷ []
