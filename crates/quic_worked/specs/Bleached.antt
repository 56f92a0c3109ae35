-- A run on a path that takes a mark away: of two datagrams with ECT(0) one comes without it, and
-- the peer counts one, so the client marks none from then on (RFC 9000, section 13.4.2.1). And a
-- client that goes on marking.
use Rattle.std.specs.Prelude.{ℕ, List, [], ◌∷◌, ◌++◌, replicate, Some, None}
use Rattle.quic_wire_core.specs.declared.shared.EcnCodepoint.TheVariants.{Ect0}
use Rattle.quic_wire_core.specs.declared.stream_id.Side.TheVariants.{Client, Server}
use Rattle.quic_wire.specs.AckReading.{ecn_at}
use Rattle.quic_machine.specs.declared.answers.Received.TheVariants as receives
use Rattle.quic_machine.specs.declared.run.RunEvent.{RunEvent}
use Rattle.quic_machine.specs.declared.run.Call.TheVariants as calls
use Rattle.quic_machine.specs.declared.run.Answer.{Answer}
use Rattle.quic_machine.specs.declared.run.Answer.TheVariants as answers
use Rattle.quic_machine.specs.Machine.{World}
use Rattle.quic_headline.specs.Runs.{Run}
use Rattle.quic_worked.specs.Worked.{ran_so_far, worked_policies, started, delivery, gives_bytes, gives_unmarked}
use Rattle.quic_worked.specs.Acknowledged.{ack_at_once, client_datagram, client_acked, from_server}
use Rattle.quic_worked.specs.Reordered.{delivers_at}
use Rattle.quic_worked.specs.Losses.{ping_events, ping_answers, first_ping_answers}
use Rattle.quic_worked.specs.Paired.{asks_server}
use Rattle.quic_worked.specs.Timed.{comes_at, seen_with}
use Rattle.quic_worked.specs.Hasty.{pings}

-- the client's first datagram comes with its mark
abbrev pub keeps_mark : RunEvent
keeps_mark = record { side = Server; call = calls.Deliver (record delivery { ecn = Some Ect0 }) }

-- the second comes without it; the server acknowledges both, and the client gives a third behind
-- that
abbrev pub bleached_events : List RunEvent
bleached_events = ping_events ++ ping_events ++ keeps_mark ∷ delivers_at 1 ∷ asks_server ∷ comes_at Client 0 ∷ ping_events

-- what that is answered, with this to the client's last poll
abbrev pub answers_bleached : Answer → List Answer
answers_bleached last =
    first_ping_answers
    ++ ping_answers
    ++ answers.Deliver receives.Taken
    ∷ answers.Deliver receives.Taken
    ∷ gives_bytes 34
    ∷ answers.Deliver receives.Taken
    ∷ answers.Ping
    ∷ last
    ∷ []

-- what the first so many of these leave, where the client marks the third no more
unfoldable pub once_bleached : ℕ → World
unfolding client_acked ecn_at
once_bleached n = ran_so_far worked_policies started bleached_events (answers_bleached (gives_unmarked 32)) n

-- ACK of numbers 0 and 1, at once, which tells of one ECT(0)
abbrev pub ack_of_one_mark : List ℕ
ack_of_one_mark = 0x03 ∷ 0x01 ∷ 0x00 ∷ 0x00 ∷ 0x01 ∷ 0x01 ∷ 0x00 ∷ 0x00 ∷ []

-- the run, where the client gives this
abbrev pub bleached_with : Answer → Run
bleached_with last = record {
  keys = worked_policies;
  start = started;
  events = bleached_events;
  answers = answers_bleached last;
  views =
      seen_with None None
      ∷ replicate 3 (seen_with (Some 1024000000) None)
      ++ replicate 2 (seen_with (Some 1024000000) (Some 25000000))
      ++ seen_with (Some 1024000000) None
      ∷ replicate 2 (seen_with None None)
      ++ seen_with (Some 26000000) None
      ∷ [];
  from_client = pings 2 ++ client_datagram 2 1 (0x01 ∷ ack_at_once) ∷ [];
  from_server = from_server 0 ack_of_one_mark ∷ [];
}

-- the run
abbrev pub bleached_run : Run
bleached_run = bleached_with (gives_unmarked 32)

-- a client that marks the third, too
abbrev pub marking_on : Run
marking_on = bleached_with (gives_bytes 32)
