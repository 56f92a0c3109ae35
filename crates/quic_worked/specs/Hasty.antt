-- Runs in which an ACK frame is due: two datagrams that ask come to the server, which acknowledges
-- both at once. And runs of servers that let an ACK frame wait which is due: though a second packet
-- asks, though one comes above a gap, though one bears the mark of congestion, or though 25 ms have
-- passed.
use Rattle.std.specs.Prelude.{ℕ, List, [], ◌∷◌, ◌++◌, length, replicate, take, Some, None, Ok}
use Rattle.quic_wire_core.specs.declared.shared.EcnCodepoint.TheVariants.{Ce}
use Rattle.quic_wire_core.specs.declared.stream_id.Side.TheVariants.{Server}
use Rattle.quic_wire.specs.Value.{ping, padding}
use Rattle.quic_machine.specs.declared.answers.Received.TheVariants as receives
use Rattle.quic_machine.specs.declared.run.RunEvent.{RunEvent}
use Rattle.quic_machine.specs.declared.run.Call.TheVariants as calls
use Rattle.quic_machine.specs.declared.run.Answer.{Answer}
use Rattle.quic_machine.specs.declared.run.Answer.TheVariants as answers
use Rattle.quic_machine.specs.declared.run.View.{View}
use Rattle.quic_machine.specs.Machine.{World}
use Rattle.quic_headline.specs.Runs.{Run, Packet}
use Rattle.quic_worked.specs.Worked.{ran_so_far, worked_policies, started, delivery, gives_bytes, id_frames}
use Rattle.quic_worked.specs.Acknowledged.{client_datagram, client_acked, from_server}
use Rattle.quic_worked.specs.Reordered.{delivers_at}
use Rattle.quic_worked.specs.Losses.{ping_events, ping_answers, ping_payload, server_waits, server_polled, first_ping_answers, first_ping}
use Rattle.quic_worked.specs.Paired.{asks_server}
use Rattle.quic_worked.specs.Timed.{seen_with}
use Rattle.quic_worked.specs.Held.{gives_nothing}

-- ---- two that ask

-- both datagrams come to the server, which is asked for one at once
abbrev pub hasty_events : List RunEvent
hasty_events = ping_events ++ ping_events ++ delivers_at 0 ∷ delivers_at 1 ∷ asks_server ∷ []

-- what that is answered, with this to the server's poll
abbrev pub answers_hasty : Answer → List Answer
answers_hasty last = first_ping_answers ++ ping_answers ++ answers.Deliver receives.Taken ∷ answers.Deliver receives.Taken ∷ last ∷ []

-- the server gives an ACK frame
abbrev pub hasty_answers : List Answer
hasty_answers = answers_hasty (gives_bytes 31)

-- what the first so many of these leave
unfoldable pub once_hasty : ℕ → World
unfolding client_acked
once_hasty n = ran_so_far worked_policies started hasty_events hasty_answers n

-- ACK of numbers 0 and 1, at once
abbrev pub ack_of_both : List ℕ
ack_of_both = 0x02 ∷ 0x01 ∷ 0x00 ∷ 0x00 ∷ 0x01 ∷ []

-- the views: the server's timer is set for the first packet
abbrev pub hasty_views : List View
hasty_views =
    seen_with None None
    ∷ replicate 3 (seen_with (Some 1024000000) None)
    ++ replicate 2 (seen_with (Some 1024000000) (Some 25000000))
    ++ seen_with (Some 1024000000) None
    ∷ []

-- the first so many datagrams of the client
abbrev pub pings : ℕ → List (List ℕ)
pings count = take count (client_datagram 0 0 first_ping ∷ client_datagram 1 0 ping_payload ∷ client_datagram 2 0 ping_payload ∷ [])

-- the run
abbrev pub hasty_run : Run
hasty_run = record {
  keys = worked_policies;
  start = started;
  events = hasty_events;
  answers = hasty_answers;
  views = hasty_views;
  from_client = pings 2;
  from_server = from_server 0 ack_of_both ∷ [];
}

-- the first packet of the client, which tells its ids
abbrev pub first_packet : Packet
first_packet = record { number = 0; frames = ping ∷ id_frames }

-- one behind it
abbrev pub ping_packet : ℕ → Packet
ping_packet number = record { number = number; frames = ping ∷ padding ∷ padding ∷ [] }

-- ---- one that bears the mark of congestion

-- the first datagram comes marked
abbrev pub comes_marked : RunEvent
comes_marked = record { side = Server; call = calls.Deliver (record delivery { ecn = Some Ce }) }

-- and the server is asked for one at once
abbrev pub marked_events : List RunEvent
marked_events = ping_events ++ comes_marked ∷ asks_server ∷ []

-- what that is answered, with this to the server's poll
abbrev pub answers_marked : Answer → List Answer
answers_marked last = first_ping_answers ++ answers.Deliver receives.Taken ∷ last ∷ []

-- what the first so many of these leave, where the server gives an ACK frame
unfoldable pub once_marked : ℕ → World
unfolding client_acked
once_marked n = ran_so_far worked_policies started marked_events (answers_marked (gives_bytes 34)) n

-- ACK of number 0, at once, which tells of one CE
abbrev pub ack_of_marked : List ℕ
ack_of_marked = 0x03 ∷ 0x00 ∷ 0x00 ∷ 0x00 ∷ 0x00 ∷ 0x00 ∷ 0x00 ∷ 0x01 ∷ []

-- the run: no timer is set
abbrev pub marked_run : Run
marked_run = record {
  keys = worked_policies;
  start = started;
  events = marked_events;
  answers = answers_marked (gives_bytes 34);
  views = seen_with None None ∷ replicate 3 (seen_with (Some 1024000000) None);
  from_client = pings 1;
  from_server = from_server 0 ack_of_marked ∷ [];
}

-- ---- servers that let it wait

-- the client gave so many datagrams, and the server gives none
abbrev pub silent_run : ℕ → List RunEvent → List Answer → Run
silent_run count events told = record {
  keys = worked_policies;
  start = started;
  events = events;
  answers = told;
  views = replicate (length events) (seen_with (Some 1024000000) None);
  from_client = pings count;
  from_server = [];
}

-- until ten packets ask, no ACK frame goes
abbrev pub many_wait : Run
many_wait = silent_run 2 hasty_events (answers_hasty gives_nothing)

-- of three datagrams the last comes first, and a gap is nothing
abbrev pub gap_events : List RunEvent
gap_events = ping_events ++ ping_events ++ ping_events ++ delivers_at 2 ∷ asks_server ∷ []

-- the answers to these: the third datagram is taken, and the server gives nothing
abbrev pub gap_answers : List Answer
gap_answers = first_ping_answers ++ ping_answers ++ ping_answers ++ answers.Deliver receives.Taken ∷ gives_nothing ∷ []

-- the run in which the gap brings no ACK frame
abbrev pub gap_waits : Run
gap_waits = silent_run 3 gap_events gap_answers

-- the mark of congestion is nothing
abbrev pub mark_waits : Run
mark_waits = silent_run 1 marked_events (answers_marked gives_nothing)

-- 25 ms pass, and the timer is nothing
abbrev pub late_waits : Run
late_waits = silent_run 1 (ping_events ++ delivers_at 0 ∷ server_waits ∷ server_polled ∷ []) (first_ping_answers ++ answers.Deliver receives.Taken ∷ answers.Timeout (Ok tt) ∷ gives_nothing ∷ [])
