-- Which datagrams an end marks with ECT(0), by the ACK frames that it took (RFC 9000, section
-- 13.4.2): all of them, until the counts of the peer show that the marks don't come through.
use Rattle.std.specs.Prelude.{ℕ, suc, ◌+◌, ◌-◌, ◌≡◌, Bool, true, false, ◌==◌, ◌&&◌, nat_le, nat_lt, filter, if◌then◌else◌, List, [], ◌∷◌, length, Option, Some, None, Ok}
use Rattle.quic_wire_core.specs.declared.stream_id.Side.{Side}
use Rattle.quic_wire_core.specs.declared.shared.EcnCodepoint.TheVariants.{Ect0}
use Rattle.quic_wire.specs.Value.{FrameValue, AckValue, ack}
use Rattle.quic_machine.specs.declared.answers.State.TheVariants as states
use Rattle.quic_machine.specs.declared.answers.Transmit.{Transmit}
use Rattle.quic_machine.specs.declared.run.Call.TheVariants as calls
use Rattle.quic_machine.specs.declared.run.Answer.TheVariants as answers
use Rattle.quic_machine.specs.Machine.{end_at}
use Rattle.quic_headline.specs.Runs.{Run, Told, Packet, names, and_told, until, given_of, state_at, AreServed}
use Rattle.quic_headline.specs.Observer.{Sent, Terms, Flight, is_greatest, after_ack, after_packets, Watch, Lens, news, has_opened, moment_of, clock_behind, watch_told, has_changed, lens_of, watch_from}
use Rattle.quic_headline.specs.Headline.{IsAt}

-- how many packets came with ECT(0), with ECT(1) and with CE
abbrev pub Counts : Type 0
Counts = ℕ × ℕ × ℕ

-- the counts that the peer told last and that were right, and whether datagrams are marked
pub record Marking : Type 0 where
  pub counts : Counts
  pub marks : Bool

-- nothing was told
abbrev pub first_marking : Marking
first_marking = record { counts = (0, 0, 0); marks = true }

-- Counts are right that come where so many datagrams were newly acknowledged: none fell, that of
-- ECT(1) stays, with which nothing is marked, and those of ECT(0) and CE grew by as many at least
-- (section 13.4.2.1).
abbrev pub are_right : ℕ → Counts → Counts → Bool
are_right newly last counts = nat_le last.0 counts.0 && (counts.1 == last.1) && (nat_le last.2 counts.2 && nat_le newly ((counts.0 - last.0) + (counts.2 - last.2)))

-- Behind counts, or none, of an ACK frame that names a number above all that were named or doesn't,
-- and newly acknowledges so many: without counts, or with wrong ones, nothing is marked any more;
-- those of an older frame may be smaller, and aren't judged (section 13.4.2.1).
abbrev pub marking_with : Bool → ℕ → Option Counts → Marking → Marking
marking_with rises newly None k = record k { marks = false }
marking_with false newly (Some counts) k = k
marking_with true newly (Some counts) k = if are_right newly k.counts counts then record k { counts = counts } else record k { marks = false }

-- where nothing is marked counts aren't read, nor where an ACK frame names none in flight
abbrev pub marking_of : Option ℕ → AckValue → List Sent → Marking → Marking
marking_of named a [] k = k
marking_of named a (s ∷ ss) k = if k.marks then marking_with (is_greatest named a.largest) (length (s ∷ ss)) a.ecn k else k

-- behind an ACK frame, where this is in flight
abbrev pub marking_ack : AckValue → Flight → Marking → Marking
marking_ack a f k = marking_of f.named a (filter (λ s. names a s.number) f.flying) k

-- behind frames that come at a moment, one behind another
abbrev pub marking_frames : Terms → ℕ → List FrameValue → Flight → Marking → Marking
marking_frames t clock [] f k = k
marking_frames t clock (ack a ∷ fs) f k = marking_frames t clock fs (after_ack t clock a f) (marking_ack a f k)
marking_frames t clock (other ∷ fs) f k = marking_frames t clock fs f k

-- behind packets; the latest stands first
abbrev pub marking_packets : Terms → ℕ → List Packet → Flight → Marking → Marking
marking_packets t clock [] f k = k
marking_packets t clock (p ∷ ps) f k = marking_frames t clock p.frames (after_packets t clock ps f) (marking_packets t clock ps f k)

-- on another path all are marked again: whether marks come through has to be seen there anew
abbrev pub marking_moved : Bool → Marking → Marking
marking_moved true k = record k { marks = true }
marking_moved false k = k

-- one call more at an end, of which the observer knew this
abbrev pub marking_told : Lens → Told → Watch → Marking → Marking
marking_told l t w k =
    let after = and_told l.own l.peer_gave t w.intake in
    marking_moved (has_changed w (watch_told l t w)) (marking_packets l.terms (clock_behind w.clock (moment_of t.state (has_opened w.intake after) t.call)) (news w.intake after) w.flight k)

-- calls, one behind another
abbrev pub marking_behind : Lens → List Told → Watch → Marking → Marking
marking_behind l [] w k = k
marking_behind l (t ∷ ts) w k = marking_behind l ts (watch_told l t w) (marking_told l t w k)

-- so an end marks behind the first so many answers
abbrev pub marking : Run → Side → ℕ → Marking
marking r side i = marking_behind (lens_of r side) (until r side i) (watch_from (end_at side r.start) (given_of r side)) first_marking

-- whether right counts that come, where so many datagrams were newly acknowledged, say that that of
-- CE grew; none don't
abbrev pub grew_by : ℕ → Option Counts → Marking → Bool
grew_by newly None k = false
grew_by newly (Some counts) k = are_right newly k.counts counts && nat_lt k.counts.2 counts.2

-- the count of CE grew, by counts that are judged, and right (RFC 9002, section 7.1)
abbrev pub has_grown : Option ℕ → AckValue → ℕ → Marking → Bool
has_grown named a newly k = k.marks && is_greatest named a.largest && grew_by newly a.ecn k

-- each datagram of an open end is marked with ECT(0) while such marks come through, and isn't marked
-- otherwise
abbrev pub MarksGo : Run → Type 0
MarksGo r = (side : Side) (i now : ℕ) (t : Transmit) → AreServed r (suc i) → state_at r side i ≡ states.Open → IsAt r i side (calls.Poll now) (answers.Poll (Ok (Some t)))
    → t.ecn ≡ (if (marking r side i).marks then Some Ect0 else None)
