-- A run in which a datagram comes with CE: the peer counts it, and the client's controller, which
-- shows half its window once it was told of congestion, is told of it where that count comes (RFC
-- 9002, section 7.1). And a client whose controller isn't told.
use Rattle.std.specs.Prelude.{ℕ, false, List, [], ◌∷◌, ◌++◌, replicate, Some, None}
use Rattle.quic_wire_core.specs.declared.stream_id.Side.TheVariants.{Client}
use Rattle.quic_wire.specs.AckReading.{ecn_at}
use Rattle.quic_congestion.specs.Congestion.{Told, Sent, Acked, AcksEnded, Congested}
use Rattle.quic_time.specs.Rtt.{assumed_rtt}
use Rattle.quic_machine.specs.declared.answers.Received.TheVariants as receives
use Rattle.quic_machine.specs.declared.run.RunEvent.{RunEvent}
use Rattle.quic_machine.specs.declared.run.Answer.{Answer}
use Rattle.quic_machine.specs.declared.run.Answer.TheVariants as answers
use Rattle.quic_machine.specs.declared.run.View.{View}
use Rattle.quic_machine.specs.Machine.{World}
use Rattle.quic_headline.specs.Runs.{Run}
use Rattle.quic_worked.specs.Worked.{ran_so_far, worked_policies, gives_bytes}
use Rattle.quic_worked.specs.Acknowledged.{client_acked, from_server}
use Rattle.quic_worked.specs.Timed.{comes_at, seen_with}
use Rattle.quic_worked.specs.Halved.{halving, halved_view}
use Rattle.quic_worked.specs.Hasty.{pings, marked_events, answers_marked, ack_of_marked}

-- the server's acknowledgement comes, which counts one CE
abbrev pub congested_events : List RunEvent
congested_events = marked_events ++ comes_at Client 0 ∷ []

abbrev pub congested_answers : List Answer
congested_answers = answers_marked (gives_bytes 34) ++ answers.Deliver receives.Taken ∷ []

-- what the first so many of these leave
unfoldable pub once_congested : ℕ → World
unfolding client_acked ecn_at
once_congested n = ran_so_far worked_policies halving congested_events congested_answers n

-- the run, where the client shows this behind it
abbrev pub congested_with : View → Run
congested_with last = record {
  keys = worked_policies;
  start = halving;
  events = congested_events;
  answers = congested_answers;
  views = seen_with None None ∷ replicate 3 (seen_with (Some 1024000000) None) ++ last ∷ [];
  from_client = pings 1;
  from_server = from_server 0 ack_of_marked ∷ [];
}

-- the run: its window is half
abbrev pub congested_run : Run
congested_run = congested_with (halved_view None)

-- what its controller is told: of the datagram; that it is acknowledged, with none in flight then;
-- and of congestion, by which nothing is lost
abbrev pub congested_told : List Told
congested_told =
    Sent 0 223 0
    ∷ Acked 0 0 223 false (assumed_rtt 333000000)
    ∷ AcksEnded 0 0 false (Some 0)
    ∷ Congested 0 0 false 0
    ∷ []

-- a client whose controller isn't told of congestion: the window stays
abbrev pub unheard_run : Run
unheard_run = congested_with (seen_with None None)
