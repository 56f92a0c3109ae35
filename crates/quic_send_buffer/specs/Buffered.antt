-- What was written to a stream and may have to be sent (RFC 9000, 2.2 and 13.3).
use Rattle.std.specs.Prelude.{◌≡◌, ℕ, ◌+◌, ◌-◌, ◌^◌, ◌<◌, ◌≤◌, ◌==◌, Bool, true, false, cond, ltb, leb, not, ◌&&◌, ◌||◌, min, max, List, [], ◌∷◌, ◌++◌, length, drop, Option}
use Rattle.quic_sets.specs.Runs.{Run, Has, AreRuns}
use Rattle.quic_wire_core.specs.Varint.{varint_size}
use Rattle.quic_sets.specs.Offsets.{has, has_any, first_or, first_lacking, with_offsets, without_offsets, with_all, lacking}
use Rattle.quic_sets.specs.Parts.{byte_from}

-- the offset of the first byte that is kept, and the bytes from there on; the lengths of the pieces
-- that they came in, one for each write; the first offset that was never sent; and the offsets that
-- are acknowledged, and those that are lost and have to go again, as maximal runs
pub record Buffered : Type 0 where
  pub base : ℕ
  pub kept : List ℕ
  pub pieces : List ℕ
  pub unsent : ℕ
  pub acked : List Run
  pub lost : List Run

-- nothing is written
abbrev pub nothing_written : Buffered
nothing_written = record { base = 0; kept = []; pieces = []; unsent = 0; acked = []; lost = [] }

-- how many bytes were written in all
abbrev pub written : Buffered → ℕ
written b = b.base + length b.kept

-- the first offset that isn't acknowledged
abbrev pub first_unacknowledged : Buffered → ℕ
first_unacknowledged b = first_lacking b.acked

-- whether each byte that was written is acknowledged
abbrev pub is_fully_acked : Buffered → Bool
is_fully_acked b = first_unacknowledged b == written b

-- the byte at an offset that is kept
abbrev pub kept_byte : Buffered → ℕ → Option ℕ
kept_byte b o = byte_from b.base b.kept o

-- ---- where an offset is

-- it was sent, and the peer acknowledged it
abbrev pub is_acknowledged : Buffered → ℕ → Bool
is_acknowledged b o = has b.acked o

-- it was sent in a packet that is lost, and not again since
abbrev pub is_lost : Buffered → ℕ → Bool
is_lost b o = has b.lost o

-- it was written and never sent
abbrev pub is_unsent : Buffered → ℕ → Bool
is_unsent b o = leb b.unsent o && ltb o (written b)

-- it was sent, and is neither acknowledged nor lost
abbrev pub is_in_flight : Buffered → ℕ → Bool
is_in_flight b o = ltb o b.unsent && not (is_acknowledged b o || is_lost b o)

-- in how many of these places it is
abbrev pub places : Buffered → ℕ → ℕ
places b o = cond (is_acknowledged b o) 1 0 + cond (is_lost b o) 1 0 + cond (is_unsent b o) 1 0 + cond (is_in_flight b o) 1 0

-- an offset is in the same place in both
pub record AreSamePlaces (b c : Buffered) (o : ℕ) : Type 0 where
  pub acknowledged : is_acknowledged b o ≡ is_acknowledged c o
  pub lost : is_lost b o ≡ is_lost c o
  pub unsent : is_unsent b o ≡ is_unsent c o
  pub in_flight : is_in_flight b o ≡ is_in_flight c o

-- some offset of a range was sent and isn't acknowledged
pub record HasUnacked (b : Buffered) (start end : ℕ) : Type 0 where
  pub offset : ℕ
  pub above : start ≤ offset
  pub below : offset < end
  pub sent : offset < b.unsent
  pub lacks : is_acknowledged b offset ≡ false

-- some offset of a range is in flight
pub record HasInFlight (b : Buffered) (start end : ℕ) : Type 0 where
  pub offset : ℕ
  pub above : start ≤ offset
  pub below : offset < end
  pub flight : is_in_flight b offset ≡ true

-- ---- what is true of them all

-- no piece is empty
abbrev pub AreFilled : List ℕ → Type 0
AreFilled [] = Unit {0}
AreFilled (n ∷ ns) = (0 < n) × AreFilled ns

-- how many bytes pieces have
abbrev pub bytes_in : List ℕ → ℕ
bytes_in [] = 0
bytes_in (n ∷ ns) = n + bytes_in ns

-- the first piece, if there is one, has more bytes
abbrev pub ReachPast : ℕ → List ℕ → Type 0
ReachPast room [] = Unit {0}
ReachPast room (n ∷ ns) = room < n

-- what is acknowledged or lost was sent, and no offset is both; the pieces are those that don't lie
-- wholly below the first offset that isn't acknowledged; and what was written ends below the
-- greatest offset (RFC 9000, 19.8)
pub record IsBuffered (b : Buffered) : Type 0 where
  pub acked : AreRuns b.acked
  pub lost : AreRuns b.lost
  pub apart : (o : ℕ) → Has b.acked o → Has b.lost o → ⊥
  pub acked_sent : (o : ℕ) → Has b.acked o → o < b.unsent
  pub lost_sent : (o : ℕ) → Has b.lost o → o < b.unsent
  pub filled : AreFilled b.pieces
  pub whole : bytes_in b.pieces ≡ length b.kept
  pub begun : b.base ≤ first_unacknowledged b
  pub needed : ReachPast (first_unacknowledged b - b.base) b.pieces
  pub sent : b.base ≤ b.unsent
  pub bounded : b.unsent ≤ written b
  pub small : written b < 2 ^ 62

-- where the piece ends that has an offset, among pieces one behind the other from `at` on; or else
-- that offset
abbrev pub piece_end : ℕ → List ℕ → ℕ → ℕ
piece_end at [] o = o
piece_end at (n ∷ ns) o = cond (ltb o (at + n)) (at + n) (piece_end (at + n) ns o)

-- ---- a write

-- the pieces of a write: one, or none where it has no byte
abbrev pub piece_of : ℕ → List ℕ
piece_of n = cond (n == 0) [] (n ∷ [])

-- after bytes were written
abbrev pub after_write : Buffered → List ℕ → Buffered
after_write b bytes = record b { kept = b.kept ++ bytes; pieces = b.pieces ++ piece_of (length bytes) }

-- after several writes, in turn
abbrev pub after_writes : Buffered → List (List ℕ) → Buffered
after_writes b [] = b
after_writes b (c ∷ cs) = after_writes (after_write b c) cs

-- ---- offsets from a up to z are acknowledged or lost (RFC 9000, 13.3)

-- how many bytes the first pieces have that end within `room` bytes
abbrev pub passed : List ℕ → ℕ → ℕ
passed [] room = 0
passed (n ∷ ns) room = cond (leb n room) (n + passed ns (room - n)) 0

-- the pieces behind those
abbrev pub pieces_behind : List ℕ → ℕ → List ℕ
pieces_behind [] room = []
pieces_behind (n ∷ ns) room = cond (leb n room) (pieces_behind ns (room - n)) (n ∷ ns)

-- how many bytes lie in pieces wholly below the first offset that isn't acknowledged
abbrev pub done : Buffered → ℕ
done b = passed b.pieces (first_unacknowledged b - b.base)

-- without those pieces
abbrev pub trimmed : Buffered → Buffered
trimmed b = record b { base = b.base + done b; kept = drop (done b) b.kept; pieces = pieces_behind b.pieces (first_unacknowledged b - b.base) }

-- with what was sent of a range acknowledged, and no longer lost
abbrev pub acknowledged : Buffered → ℕ → ℕ → Buffered
acknowledged b a z = record b { acked = with_offsets a (min z b.unsent) b.acked; lost = without_offsets a (min z b.unsent) b.lost }

-- after a range was acknowledged
abbrev pub after_ack : Buffered → ℕ → ℕ → Buffered
after_ack b a z = trimmed (acknowledged b a z)

-- what was sent of a range and isn't acknowledged is lost
abbrev pub after_loss : Buffered → ℕ → ℕ → Buffered
after_loss b a z = record b { lost = with_all (lacking a (min z b.unsent) b.acked) b.lost }

-- ---- what goes into a STREAM frame (RFC 9000, 19.8)

-- the width of a variable-length integer in bytes (RFC 9000, 16)
abbrev pub width : ℕ → ℕ
width n = varint_size n

-- the width of a frame's offset, which isn't written where it is 0
abbrev pub offset_width : ℕ → ℕ
offset_width offset = cond (offset == 0) 0 (width offset)

-- what an offset leaves of the room behind a frame's type and id
abbrev pub room_behind : ℕ → ℕ → ℕ
room_behind most offset = most - offset_width offset

-- whether a length is written: where what is left doesn't fill the room
abbrev pub needs_length : ℕ → ℕ → Bool
needs_length left room = ltb left room

-- how many bytes go: eight bytes of the room are for a length that is written
abbrev pub sent_count : ℕ → ℕ → ℕ
sent_count left room = min left (cond (needs_length left room) (room - 8) room)

-- what goes next: the least lost run, or else all that was never sent
abbrev pub next_range : Buffered → Run
next_range b = first_or b.lost (record { start = b.unsent; end = written b })

-- its first offset
abbrev pub next_start : Buffered → ℕ
next_start b = (next_range b).start

-- how many bytes it has
abbrev pub next_count : Buffered → ℕ
next_count b = (next_range b).end - (next_range b).start

-- whether there is something to send
abbrev pub has_unsent : Buffered → Bool
has_unsent b = has_any b.lost || ltb b.unsent (written b)

-- whether the next frame's length is written, with so much room behind its type and id
abbrev pub writes_length : Buffered → ℕ → Bool
writes_length b most = needs_length (next_count b) (room_behind most (next_start b))

-- the offset behind the bytes of the next frame
abbrev pub sent_end : Buffered → ℕ → ℕ
sent_end b most = next_start b + sent_count (next_count b) (room_behind most (next_start b))

-- after a frame: what goes is lost no longer, and was sent
abbrev pub after_poll : Buffered → ℕ → Buffered
after_poll b most = record b { unsent = max b.unsent (sent_end b most); lost = without_offsets (next_start b) (sent_end b most) b.lost }
