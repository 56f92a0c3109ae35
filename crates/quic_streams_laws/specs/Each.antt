-- What is said of the halves of one way, by how far each has come.
use Rattle.std.specs.Prelude.{ℕ, Bool, true, false, Option, Some, None}
use Rattle.quic_streams_parts.specs.Table.{at}
use Rattle.quic_streams_parts.specs.SendHalf.{SendHalf, new_send_half}
use Rattle.quic_streams_halves.specs.Halves.{Status, unknown, fresh, live, done, has_place}
use Rattle.quic_streams_state.specs.declared.state.StreamsState.{StreamsState}
use Rattle.quic_streams_state.specs.State.{first_limit}
use Rattle.quic_streams_laws.specs.Keeping.{HasEnded}
use Rattle.quic_streams_laws.specs.Shape.{IsShaped}

-- one fact where a half was never in use, one of a half in use, and one where it is done
abbrev pub HalfIs : {A : Type 0} → Type 0 → (A → Type 0) → Type 0 → Option A → Bool → Type 0
HalfIs N Q D (Some a) used = Q a
HalfIs N Q D None true = D
HalfIs N Q D None false = N

-- the same by how far a half has come
abbrev pub StatusIs : {A : Type 0} → Type 0 → (A → Type 0) → Type 0 → Status A → Type 0
StatusIs N Q D unknown = N
StatusIs N Q D fresh = N
StatusIs N Q D (live a) = Q a
StatusIs N Q D done = D

-- such facts of the sending half of each stream, with the halves in order, and one of how far each
-- may come at first
pub record EachSends (F : ℕ → ℕ → Type 0) (N : ℕ → Type 0) (Q : ℕ → SendHalf → Type 0) (D : ℕ → Type 0) (s : StreamsState) : Type 0 where
  pub shape : IsShaped s
  pub first : (id : ℕ) → F id (first_limit s id)
  pub each : (id : ℕ) → HalfIs (N id) (Q id) (D id) (at s.sending.halves.live id) (has_place s.side s.sending.halves.places id)

-- they hold of a half that comes into use, and of one that is done; and it doesn't matter to them
-- whether a half is blocked, which limit the peer was told to be used up, or where it stands in the
-- queue
pub record AreOfHalves (F : ℕ → ℕ → Type 0) (N : ℕ → Type 0) (Q : ℕ → SendHalf → Type 0) (D : ℕ → Type 0) : Type 0 where
  pub fresh : (id limit : ℕ) → F id limit → N id → Q id (new_send_half limit)
  pub over : (id : ℕ) (h : SendHalf) → Q id h → HasEnded h → D id
  pub blocked : (id : ℕ) (h : SendHalf) (b : Bool) → Q id h → Q id (record h { blocked = b })
  pub noted : (id : ℕ) (h : SendHalf) (said : Option ℕ) → Q id h → Q id (record h { said = said })
  pub placed : (id : ℕ) (h : SendHalf) (p : Option (ℕ × ℕ)) → Q id h → Q id (record h { place = p })
