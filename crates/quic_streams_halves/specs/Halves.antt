-- The halves of streams that run one way at one end: sending parts, or receiving parts (RFC 9000,
-- sections 2.1 and 3).
use Rattle.std.specs.Prelude.{◌≡◌, ℕ, ◌+◌, ◌≤◌, Bool, true, false, if◌then◌else◌, List, [], length, Option, Some, None}
use Rattle.std.specs.List.{sum_by, All}
use Rattle.std.specs.Map.{values_of}
use Rattle.quic_wire_core.specs.declared.stream_id.Side.{Side}
use Rattle.quic_wire_core.specs.declared.stream_id.Dir.{Dir}
use Rattle.quic_wire_core.specs.StreamId.{index_of, dir_of}
use Rattle.quic_sets.specs.Runs.{Run}
use Rattle.quic_sets.specs.Offsets.{has, with_offsets}
use Rattle.quic_streams_parts.specs.declared.by_dir.ByDir.{ByDir}
use Rattle.quic_streams_halves.specs.declared.places.Places.{Places}
use Rattle.quic_streams_parts.specs.SendHalf.{SendHalf}
use Rattle.quic_streams_parts.specs.RecvHalf.{RecvHalf, credit}
use Rattle.quic_streams_parts.specs.Table.{Table, at, put, without, added}
use Rattle.quic_streams_parts.specs.Dirs.{of, with_of, is_own}

-- the halves that are in use, by id; and the places of the streams whose half was ever in use:
-- those of them that are no longer are done. A half that was never in use takes no place at all
pub record Halves (A : Type 0) : Type 0 where
  pub live : Table A
  pub places : Places

-- no stream
abbrev pub no_places : Places
no_places = record { own = record { bi = []; uni = [] }; remote = record { bi = []; uni = [] } }

-- no half was ever in use
abbrev pub no_halves : {A : Type 0} → Halves A
no_halves = record { live = []; places = no_places }

-- how far a half has come: its stream isn't opened; nothing was done on it yet; it is in use;
-- nothing is left to do on it
pub data Status (A : Type 0) : Type 0 where
  unknown : Status A
  fresh : Status A
  live : A → Status A
  done : Status A

-- the places of such streams as one
abbrev pub places_of : Side → Places → ℕ → List Run
places_of side p id = of (dir_of id) (if is_own side id then p.own else p.remote)

-- whether the place of a stream is among them
abbrev pub has_place : Side → Places → ℕ → Bool
has_place side p id = has (places_of side p id) (index_of id)

-- how far the half of a stream has come that isn't in use
abbrev pub idle_status : {A : Type 0} → Bool → Bool → Status A
idle_status false used = unknown
idle_status true false = fresh
idle_status true true = done

-- the same of any stream
abbrev pub status_from : {A : Type 0} → Option A → Bool → Bool → Status A
status_from (Some a) opened used = live a
status_from None opened used = idle_status opened used

-- how far the half of a stream has come, where it is opened or isn't
abbrev pub status : {A : Type 0} → Bool → Side → Halves A → ℕ → Status A
status opened side h id = status_from (at h.live id) opened (has_place side h.places id)

-- the half of a stream, such as a fresh one is, unless it is unknown or done
abbrev pub half_of : {A : Type 0} → A → Status A → Option A
half_of new unknown = None
half_of new fresh = Some new
half_of new (live a) = Some a
half_of new done = None

-- whether a half is done
abbrev pub is_done : {A : Type 0} → Status A → Bool
is_done done = true
is_done s = false

-- with one more index of a direction
abbrev pub with_index : Dir → ℕ → ByDir (List Run) → ByDir (List Run)
with_index dir index p = with_of dir (with_offsets index (index + 1) (of dir p)) p

-- with the place of a stream
abbrev pub with_place : Side → ℕ → Places → Places
with_place side id p = if is_own side id then record p { own = with_index (dir_of id) (index_of id) p.own } else record p { remote = with_index (dir_of id) (index_of id) p.remote }

-- a half comes into use
abbrev pub used : {A : Type 0} → Side → Halves A → ℕ → A → Halves A
used side h id a = record { live = added h.live id a; places = with_place side id h.places }

-- the halves with another value of one: one that isn't in use comes into use
abbrev pub placed : {A : Type 0} → Option A → Side → Halves A → ℕ → A → Halves A
placed (Some old) side h id a = record h { live = put h.live id a }
placed None side h id a = used side h id a

-- the same
abbrev pub with_half : {A : Type 0} → Side → Halves A → ℕ → A → Halves A
with_half side h id a = placed (at h.live id) side h id a

-- a half is no longer in use: nothing is left to do on it
abbrev pub without_half : {A : Type 0} → Halves A → ℕ → Halves A
without_half h id = record h { live = without h.live id }

-- ---- a change of a half that is in use

-- a table, in which the half of this number, if it is one of it, has another value
abbrev pub changed_at : {A : Type 0} → Option A → (A → A) → Table A → ℕ → Table A
changed_at None f halves id = halves
changed_at (Some a) f halves id = put halves id (f a)

-- the halves, of which one has another value, if it is in use
abbrev pub changed : {A : Type 0} → (A → A) → Halves A → ℕ → Halves A
changed f h id = record h { live = changed_at (at h.live id) f h.live id }

-- the bytes that are kept on all sending halves
abbrev pub buffered_in : Table SendHalf → ℕ
buffered_in halves = sum_by (λ h. length h.buffer.kept) (values_of halves)

-- the greatest offsets that arrived on all receiving halves, summed
abbrev pub seen_in : Table RecvHalf → ℕ
seen_in halves = sum_by (λ h. h.seen) (values_of halves)

-- the bytes that count as consumed on all of them
abbrev pub consumed_in : Table RecvHalf → ℕ
consumed_in halves = sum_by credit (values_of halves)

-- of each half no more bytes count as consumed than its greatest offset
abbrev pub AreWithin : Table RecvHalf → Type 0
AreWithin halves = All (λ h. credit h ≤ h.seen) (values_of halves)

-- how much arrived and was consumed is counted
pub record AreCounted (halves : Table RecvHalf) (arrived read : ℕ) : Type 0 where
  pub seen : arrived ≡ seen_in halves
  pub consumed : read ≡ consumed_in halves
  pub within : AreWithin halves
