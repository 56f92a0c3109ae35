-- What the ACK frames tell that an end gives (RFC 9000, sections 13.2.3 and 13.4.1): which packets
-- they name, and the marks that they count. The constants are the observer's own.
use Rattle.std.specs.Prelude.{ℕ, ◌+◌, ◌-◌, ◌^◌, ◌≤◌, ◌≡◌, ◌⊎◌, min, not, ◌==◌, ◌&&◌, Bool, true, false, nat_lt, if◌then◌else◌, List, [], ◌∷◌, filter, length, Option, Some, None}
use Rattle.std.specs.List.{list_any}
use Rattle.quic_wire_core.specs.declared.shared.EcnCodepoint.{EcnCodepoint}
use Rattle.quic_wire_core.specs.declared.shared.EcnCodepoint.TheVariants.{Ect0, Ect1, Ce}
use Rattle.quic_wire_core.specs.declared.stream_id.Side.{Side}
use Rattle.quic_wire.specs.Value.{AckValue, ack}
use Rattle.quic_machine.specs.declared.answers.Received.TheVariants.{Taken}
use Rattle.quic_machine.specs.declared.run.Call.{Call}
use Rattle.quic_machine.specs.declared.run.Call.TheVariants as calls
use Rattle.quic_machine.specs.declared.run.Answer.{Answer}
use Rattle.quic_machine.specs.declared.run.Answer.TheVariants as answers
use Rattle.quic_headline.specs.Runs.{Run, Told, Packet, In, names, until}
use Rattle.quic_headline.specs.Observer.{Sent, took, acked_until}
use Rattle.quic_headline.specs.Polls.{GaveOne}

-- ---- marks (section 13.4.1)

-- the mark with which a packet came that a call took
abbrev pub mark_taken : Call → Answer → Option EcnCodepoint
mark_taken (calls.Deliver delivery) (answers.Deliver Taken) = delivery.ecn
mark_taken call a = None

-- whether it is this one
abbrev pub is_mark : EcnCodepoint → Option EcnCodepoint → Bool
is_mark Ect0 (Some Ect0) = true
is_mark Ect1 (Some Ect1) = true
is_mark Ce (Some Ce) = true
is_mark mark other = false

-- how many packets were taken that came with it
abbrev pub count_marked : EcnCodepoint → List Told → ℕ
count_marked mark [] = 0
count_marked mark (t ∷ ts) = (if is_mark mark (mark_taken t.call t.answer) then 1 else 0) + count_marked mark ts

-- the greatest count that a frame holds (section 16)
abbrev pub most_counted : ℕ
most_counted = 2 ^ 62 - 1

-- so many with ECT(0), ECT(1) and CE, if one came with a mark
abbrev pub counts_of : ℕ → ℕ → ℕ → Option (ℕ × ℕ × ℕ)
counts_of ect0 ect1 ce = if (ect0 == 0) && ((ect1 == 0) && (ce == 0)) then None else Some (min ect0 most_counted, min ect1 most_counted, min ce most_counted)

-- the counts of what an end took
abbrev pub counts_told : List Told → Option (ℕ × ℕ × ℕ)
counts_told ts = counts_of (count_marked Ect0 ts) (count_marked Ect1 ts) (count_marked Ce ts)

-- each ACK frame counts the packets that its end took before, by the mark with which each came, and
-- has no counts where none came with one
abbrev pub AcksCountMarks : Run → Type 0
AcksCountMarks r = (side : Side) (i now : ℕ) (given : GaveOne r side i now) (a : AckValue) → In (ack a) given.sent.frames → a.ecn ≡ counts_told (until r side i)

-- ---- what is named (section 13.2.3)

-- The peer is known to know that a number was taken, or one above it: a datagram was acknowledged
-- whose ACK frame names one no less (section 13.2.4).
pub record IsKnown (r : Run) (side : Side) (i number : ℕ) : Type 0 where
  pub sent : Sent
  pub acked : In sent (acked_until r side i)
  pub frame : AckValue
  pub carried : In (ack frame) sent.frames
  pub within : number ≤ frame.largest

-- the packets above a number that end a run: the next number isn't that of one of them
abbrev pub ends_above : ℕ → List Packet → List Packet
ends_above number packets = filter (λ p. nat_lt number p.number && not (list_any (λ q. q.number == p.number + 1) packets)) packets

-- At some place so many runs of numbers lay above a number that it may be forgotten: 64 are kept,
-- our choice, as section 13.2.3 lets an end limit them.
pub record WasCrowded (r : Run) (side : Side) (i number : ℕ) : Type 0 where
  pub place : ℕ
  pub before : place ≤ i
  pub many : 64 ≤ length (ends_above number (took r side place))

-- each ACK frame names every packet that its end took before, but for those of which the peer is
-- known to know, and those below 64 runs
abbrev pub AcksNameAll : Run → Type 0
AcksNameAll r = (side : Side) (i now : ℕ) (given : GaveOne r side i now) (a : AckValue) → In (ack a) given.sent.frames
    → (p : Packet) → In p (took r side i) → (names a p.number ≡ true) ⊎ (IsKnown r side i p.number ⊎ WasCrowded r side i p.number)
