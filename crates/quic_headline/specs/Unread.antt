-- A write is blocked at rest only for bytes that the reader left unread, and no stream is opened
-- only for streams that aren't done (RFC 9000, sections 4.1 and 4.6).
use Rattle.std.specs.Prelude.{ℕ, ◌+◌, ◌-◌, ◌/◌, ◌^◌, ◌<◌, ◌≤◌, ◌≡◌, ◌⊎◌, max, Bool, false, eqb, ◌==◌, ◌&&◌, ◌||◌, List, [], ◌∷◌, length, Ok, Err}
use Rattle.std.specs.List.{IsDistinct}
use Rattle.quic_wire_core.specs.declared.stream_id.Side.{Side}
use Rattle.quic_wire_core.specs.StreamId.{other_side}
use Rattle.quic_streams_parts.specs.declared.answers.WriteError.TheVariants as write_errors
use Rattle.quic_machine.specs.declared.run.Call.{Call}
use Rattle.quic_machine.specs.declared.run.Call.TheVariants as calls
use Rattle.quic_machine.specs.declared.run.Answer.{Answer}
use Rattle.quic_machine.specs.declared.run.Answer.TheVariants as answers
use Rattle.quic_machine.specs.Start.{AreStarted}
use Rattle.quic_headline.specs.Runs.{Run, Told, Packet, In, until, AreServed, ResetHasArrived}
use Rattle.quic_headline.specs.Observer.{took}
use Rattle.quic_headline.specs.Headline.{IsAt}
use Rattle.quic_headline.specs.Amounts.{making_at, all_written, WritesOn, told_so}
use Rattle.quic_headline.specs.Causes.{IsUnread}
use Rattle.quic_headline.specs.Rest.{Rests, HaveRoom}

-- ---- what is left

-- whether a call stopped a stream
abbrev pub stopped_by : ℕ → Call → Answer → Bool
stopped_by id (calls.Stop s code) (answers.Stop (Ok done)) = s == id
stopped_by id call a = false

-- whether an end stopped a stream (section 3.5)
abbrev pub stopped : ℕ → List Told → Bool
stopped id [] = false
stopped id (t ∷ ts) = stopped_by id t.call t.answer || stopped id ts

-- An offset arrived in these packets and wasn't read by these calls, of a stream that they didn't
-- stop and whose reset didn't come.
pub record IsLeft (packets : List Packet) (told : List Told) (stream offset : ℕ) : Type 0 where
  pub unread : IsUnread packets told stream offset
  pub unstopped : stopped stream told ≡ false
  pub kept : ResetHasArrived packets stream → ⊥

-- whether two places, each a stream and an offset of it, are the same
abbrev pub same_place : ℕ × ℕ → ℕ × ℕ → Bool
same_place p q = (p.0 == q.0) && (p.1 == q.1)

-- So many bytes at least are left: there are as many places, no two the same.
pub record HasUnread (packets : List Packet) (told : List Told) (count : ℕ) : Type 0 where
  pub places : List (ℕ × ℕ)
  pub distinct : IsDistinct same_place places
  pub left : (place : ℕ × ℕ) → In place places → IsLeft packets told place.0 place.1
  pub many : count ≤ length places

-- The same of one stream.
pub record HasUnreadOn (packets : List Packet) (told : List Told) (stream count : ℕ) : Type 0 where
  pub offsets : List ℕ
  pub distinct : IsDistinct eqb offsets
  pub left : (offset : ℕ) → In offset offsets → IsLeft packets told stream offset
  pub many : count ≤ length offsets

-- of a window so much is left at least where the peer isn't told of more: a limit is told anew once
-- it grew by an eighth of the window, or by one, if that is more
abbrev pub least_left : ℕ → ℕ
least_left window = (window - max (window / 8) 1) + 1

-- ---- the clause

-- how many bytes an end lets come past those that were consumed, on all streams and on each
abbrev pub receive_window : (r : Run) → AreStarted r.start → Side → ℕ
receive_window r s side = (making_at side r.start s).settings.receive_window

-- how many bytes an end lets come on one stream past those that were consumed of it
abbrev pub stream_window : (r : Run) → AreStarted r.start → Side → ℕ
stream_window r s side = (making_at side r.start s).settings.stream_receive_window

-- The windows of an end aren't empty, and it wrote less than the greatest limits that there are.
pub record IsModestAt (r : Run) (s : AreStarted r.start) (side : Side) (i : ℕ) : Type 0 where
  pub sends : 0 < (making_at side r.start s).settings.send_window
  pub receives : 0 < receive_window r s side
  pub streams : 0 < stream_window r s side
  pub written : all_written (until r side i) < 2 ^ 61

-- so it is of both ends
abbrev pub IsModest : (r : Run) → AreStarted r.start → ℕ → Type 0
IsModest r s i = (side : Side) → IsModestAt r s side i

-- where both ends rest and the next write is answered `Blocked`, whatever caused that, so many
-- bytes are left unread at the other end: of all streams by its window for all, or of this stream
-- by its window for one
abbrev pub BlockedOnlyForUnread : Run → Type 0
BlockedOnlyForUnread r = (s : AreStarted r.start) (side : Side) (i id count : ℕ) (call : Call) (a : Answer) → AreServed r i → HaveRoom r.start → IsModest r s i → Rests r side i → Rests r (other_side side) i
    → IsAt r i side call a → WritesOn call id count → told_so a (Err write_errors.Blocked)
    → HasUnread (took r (other_side side) i) (until r (other_side side) i) (least_left (receive_window r s (other_side side)))
    ⊎ HasUnreadOn (took r (other_side side) i) (until r (other_side side) i) id (least_left (stream_window r s (other_side side)))
