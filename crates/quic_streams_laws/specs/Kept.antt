-- What STREAM frames that were taken brought is read or waits (RFC 9000, sections 2.2 and 3.2).
use Rattle.std.specs.Prelude.{◌≡◌, ℕ, ◌<◌, ◌≤◌, ◌⊎◌, true, false, ◌||◌, length, Some, None}
use Rattle.quic_wire.specs.Value.{StreamValue}
use Rattle.quic_assembler.specs.Arrived.{IsLawful, is_given, waits}
use Rattle.quic_assembler.specs.ArrivedHistory.{was_given}
use Rattle.quic_streams_parts.specs.RecvHalf.{RecvHalf, end_of}
use Rattle.quic_streams_halves.specs.Halves.{Status, unknown, fresh, live, done}
use Rattle.quic_streams_state.specs.declared.state.StreamsState.{StreamsState}
use Rattle.quic_streams_state.specs.Taking.{refusal}
use Rattle.quic_streams_laws.specs.Reads.{Reads, bytes_of}
use Rattle.quic_streams_laws.specs.Content.{AllReceiving}

-- what a frame brought: each of its offsets was given or waits, and its end is known
pub record IsFrameKept (f : StreamValue) (h : RecvHalf) : Type 0 where
  pub bytes : (o : ℕ) → f.offset ≤ o → o < end_of f → (is_given h.arrived o || waits h.arrived.parts o) ≡ true
  pub fin : f.fin ≡ true → h.final ≡ Some (end_of f)

-- a half keeps what each taken frame of its stream brought, unless it is stopped or was reset
pub record IsKeptHalf (taken : StreamValue → Type 0) (id : ℕ) (h : RecvHalf) : Type 0 where
  pub lawful : IsLawful h.arrived
  pub frames : h.stopped ≡ false → h.reset ≡ None → (f : StreamValue) → taken f → f.id ≡ id → IsFrameKept f h

-- the same by how far the half has come: no frame was taken of a stream whose half wasn't in use
-- yet
abbrev pub IsKeptStatus : (StreamValue → Type 0) → ℕ → Status RecvHalf → Type 0
IsKeptStatus taken id unknown = (f : StreamValue) → taken f → f.id ≡ id → ⊥
IsKeptStatus taken id fresh = (f : StreamValue) → taken f → f.id ≡ id → ⊥
IsKeptStatus taken id (live h) = IsKeptHalf taken id h
IsKeptStatus taken id done = Unit {0}

-- so of each stream
abbrev pub HoldsTaken : (StreamValue → Type 0) → StreamsState → Type 0
HoldsTaken taken s = AllReceiving (λ id x. IsKeptStatus taken id x) s

-- what is taken once a frame came: what was, and this frame, unless it is refused
abbrev pub TakesMore : StreamsState → StreamValue → (StreamValue → Type 0) → (StreamValue → Type 0) → Type 0
TakesMore s f taken more = (g : StreamValue) → more g → taken g ⊎ ((g ≡ f) × (refusal s f.id (end_of f) f.fin ≡ None))

-- a frame brought nothing that may be read next: not the first byte that wasn't read, while all
-- reads were in order; no byte that wasn't read, else; and not the end where all before it was read
pub record BringsNothing (r : Reads) (f : StreamValue) : Type 0 where
  pub ordered : r.unordered ≡ false → f.offset ≤ length (bytes_of r.chunks) → length (bytes_of r.chunks) < end_of f → ⊥
  pub unordered : r.unordered ≡ true → (o : ℕ) → f.offset ≤ o → o < end_of f → was_given r.chunks o ≡ true
  pub end : f.fin ≡ true → ((o : ℕ) → o < end_of f → was_given r.chunks o ≡ true) → ⊥
