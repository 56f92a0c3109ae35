-- Packets that are tracked, at worked values. Times are in nanoseconds.
use Rattle.std.specs.Prelude.{ℕ, ◌*◌, Bool, true, List, [], ◌∷◌, None, Result}
use Rattle.quic_time.specs.Rtt.{Rtt, assumed_rtt, with_sample}
use Rattle.quic_retransmits.specs.Retransmits.{nothing_waits}
use Rattle.quic_sent_packets.specs.Packets.{TrackedPacket}
use Rattle.quic_spaces.specs.Tracking.{Tracking, nothing_tracked, after_sent}
use Rattle.quic_spaces.specs.declared.space.EcnError.{EcnError}
use Rattle.quic_spaces.specs.Marks.{Counts, marks_refused, marks_judged}
use Rattle.quic_spaces.specs.Persistent.{Loss}
use Rattle.quic_spaces.specs.Loss.{Verdict, verdict_at, loss_delay}

-- so many microseconds
abbrev pub micros : ℕ → ℕ
micros n = n * 1000

-- a packet of 1200 bytes that went at a moment, and carried nothing that has to be sent again
abbrev pub packet : ℕ → Bool → TrackedPacket
packet moment asks = record {
  generation = 0;
  time_sent = moment;
  size = 1200;
  asks = asks;
  carried = record { largest_acked = None; stream_frames = []; retransmits = nothing_waits };
}

-- 0 went at 0, and 1 and 2 at 1 ms; all ask
abbrev pub three_sent : Tracking
three_sent =
    after_sent (after_sent (after_sent (nothing_tracked 0) 0 (packet 0 true)) 1 (packet (micros 1000) true)) 2 (packet (micros 1000) true)

-- each round trip took 100 ms
abbrev pub steady_rtt : Rtt
steady_rtt = with_sample (with_sample (assumed_rtt (micros 333000)) 0 (micros 100000)) 0 (micros 100000)

-- the peer acknowledged 3, and a packet is lost three below it, or 9/8 of a round trip after it went
abbrev pub judging : ℕ → Verdict
judging now = verdict_at 3 3 (loss_delay (9, 8) steady_rtt) now

-- one packet went at 1 ms, which asks
abbrev pub one_sent : Tracking
one_sent = after_sent (nothing_tracked 0) 0 (packet (micros 1000) true)

-- ---- losses

-- a packet that asks is lost: its number, and when it went
abbrev pub loss : ℕ → ℕ → Loss
loss number moment = record { number = number; time_sent = moment; asks = true }

-- three are lost one behind another
abbrev pub lost_in_turn : List Loss
lost_in_turn = loss 5 0 ∷ loss 6 2000 ∷ loss 7 3001 ∷ []

-- the same without the one between
abbrev pub lost_with_gap : List Loss
lost_with_gap = loss 5 0 ∷ loss 7 3001 ∷ []

-- what is said of counts of marks that came with so many newly acknowledged packets, where 2, 1 and
-- 1 came before
abbrev pub judged_marks : ℕ → Counts → Result Bool EcnError
judged_marks newly counts = marks_judged (marks_refused newly (2, 1, 1) counts) (2, 1, 1) counts
