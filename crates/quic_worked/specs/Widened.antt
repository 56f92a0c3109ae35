-- A run in which a window grows as datagrams are acknowledged (RFC 9002, section 7.3.1), at a
-- server whose peer's address becomes validated: that in which the peer answers what the server
-- asked, with a controller at the server that shows twice its window once it was told of an
-- acknowledgement. One more datagram is acknowledged then. And a machine whose controller is told
-- of no acknowledgement, though its challenge was answered.
use Rattle.std.specs.Prelude.{ℕ, Bool, true, false, if◌then◌else◌, List, [], ◌∷◌, ◌++◌, Some, None}
use Rattle.std.specs.List.{list_any}
use Rattle.quic_time.specs.Rtt.{assumed_rtt, with_sample}
use Rattle.quic_congestion.specs.Congestion.{Told, Sent, Acked, AcksEnded}
use Rattle.quic_machine.specs.declared.answers.Received.TheVariants as receives
use Rattle.quic_machine.specs.declared.run.RunEvent.{RunEvent}
use Rattle.quic_machine.specs.declared.run.Answer.{Answer}
use Rattle.quic_machine.specs.declared.run.Answer.TheVariants as answers
use Rattle.quic_machine.specs.declared.run.EndView.{EndView}
use Rattle.quic_machine.specs.declared.run.View.{View}
use Rattle.quic_machine.specs.Control.{Control}
use Rattle.quic_machine.specs.Machine.{World}
use Rattle.quic_headline.specs.Runs.{Run}
use Rattle.quic_worked.specs.Worked.{ran_so_far, worked_policies, asks_datagram, gives_unmarked, view_within, view_with, waiting_view}
use Rattle.quic_worked.specs.Acknowledged.{client_datagram, from_server}
use Rattle.quic_worked.specs.Losses.{asks_ping}
use Rattle.quic_worked.specs.Paired.{asks_server}
use Rattle.quic_worked.specs.Reordered.{delivers_at}
use Rattle.quic_worked.specs.Renamed.{client_hears_second}
use Rattle.quic_worked.specs.Held.{first_payload}
use Rattle.quic_worked.specs.Unvalidated.{far_start, far_events, far_answers, asking_payload, far_run, server_pings, answering_events, answering_answers, response_payload, asked_views}

-- whether a controller is told of an acknowledgement
abbrev pub is_acknowledged : Told → Bool
is_acknowledged (Acked now sent size app_limited rtt) = true
is_acknowledged told = false

-- a controller that shows twice its window once it was told so
abbrev pub widening_control : Control
widening_control = λ (told : List Told). if list_any is_acknowledged told then 24000 else 12000

-- both ends, of which the server has it, and its peer isn't known to receive at its address
abbrev pub widening : World
widening = record far_start { server_control = widening_control }

-- the peer answers; then the server gives PING, the client takes it, and gives PING too
abbrev pub widening_events : List RunEvent
widening_events = far_events ++ answering_events ++ server_pings ∷ asks_server ∷ client_hears_second ∷ asks_ping ∷ asks_datagram ∷ delivers_at 2 ∷ []

-- what that is answered
abbrev pub widening_answers : List Answer
widening_answers =
    far_answers
    ++ answering_answers
    ++ answers.Ping
    ∷ gives_unmarked 32
    ∷ answers.Deliver receives.Taken
    ∷ answers.Ping
    ∷ gives_unmarked 32
    ∷ answers.Deliver receives.Taken
    ∷ []

-- what the first so many of these leave
abbrev pub once_widening : ℕ → World
once_widening n = ran_so_far worked_policies widening widening_events widening_answers n

-- the client waits for an acknowledgement, or owes one, and what is seen of the server
abbrev pub client_waits : EndView → View
client_waits server = record { client = view_with (Some 26000000) None; server = server }

abbrev pub client_owes : EndView → View
client_owes server = record { client = waiting_view; server = server }

-- what is seen once the answer came, where the server shows this window: it waits to acknowledge
-- that, then for an acknowledgement of its own, and then to acknowledge once more
abbrev pub validated_views : ℕ → List View
validated_views window =
    let owes = view_within window None (Some 25000000) in
    let waits = view_within window (Some 26000000) None in
    client_waits owes ∷ client_waits owes ∷ client_waits waits ∷ client_owes waits ∷ client_owes waits ∷ client_waits waits ∷ client_waits owes ∷ []

-- PING, and an acknowledgement of number 1: the peer knows that number 0 is acknowledged
abbrev pub acking_payload : List ℕ
acking_payload = 0x01 ∷ 0x02 ∷ 0x01 ∷ 0x00 ∷ 0x00 ∷ 0x00 ∷ []

-- the run, where the server shows this window from the answer on
abbrev pub widening_seen : ℕ → Run
widening_seen window = record {
  keys = worked_policies;
  start = widening;
  events = widening_events;
  answers = widening_answers;
  views = far_run.views ++ asked_views ++ validated_views window;
  from_client = client_datagram 0 0 first_payload ∷ client_datagram 1 0 response_payload ∷ client_datagram 2 1 acking_payload ∷ [];
  from_server = from_server 0 asking_payload ∷ from_server 1 acking_payload ∷ [];
}

-- the machine's: the answer closes the challenge before the acknowledgement counts that comes with
-- it
abbrev pub widening_run : Run
widening_run = widening_seen 24000

-- what its controller is told: of two datagrams, and that each is acknowledged, before any round
-- trip was measured and behind it
abbrev pub widening_told : List Told
widening_told =
    Sent 0 1200 0
    ∷ Acked 0 0 1200 false (assumed_rtt 333000000)
    ∷ AcksEnded 0 0 false (Some 0)
    ∷ Sent 0 32 1
    ∷ Acked 0 0 32 false (with_sample (assumed_rtt 333000000) 0 0)
    ∷ AcksEnded 0 0 false (Some 1)
    ∷ []

-- a machine whose controller is told of no acknowledgement: the window stays
abbrev pub unwidened_run : Run
unwidened_run = widening_seen 12000
