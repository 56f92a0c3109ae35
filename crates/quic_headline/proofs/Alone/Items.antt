-- What holds of each frame that may be read behind its type holds of each frame that is read of a
-- payload, whatever its bytes are (RFC 9000, section 12.4).
use Rattle.std.proofs.Common.{ℕ, zero, suc, List, [], ◌∷◌, length, Option, Some, Result, Ok, Err, sym, subst, inl, inr}
use Rattle.quic_wire_core.specs.Taking.{◌>>=◌}
use Rattle.quic_wire.specs.declared.frame.FrameError.{FrameError}
use Rattle.quic_wire.specs.declared.frame.InvalidFrame.{InvalidFrame}
use Rattle.quic_wire.specs.Value.{FrameValue}
use Rattle.quic_wire.specs.FrameTypes.{Kind, kind_of}
use Rattle.quic_wire.specs.Reading.{var_at, as_frame, of_kind_at, body_at}
use Rattle.quic_wire.specs.Items.{frame_at, behind_type, refused, first_and, items_within, items}
use Rattle.quic_headline.specs.Runs.{In, frames_of}

-- so it is of what was read, if anything was
abbrev pub IfRead : {T E : Type 0} → (T → Type 0) → Result (T × List ℕ) E → Type 0
IfRead P (Ok x) = P x.0
IfRead P (Err e) = Unit {0}

module _ (P : FrameValue → Type 0) where
  -- a frame that is made of what was read
  pub framed : {T : Type 0} (f : T → FrameValue) (r : Result (T × List ℕ) FrameError) → ((x : T) → P (f x)) → IfRead P (as_frame f r)
  framed f (Ok x) h = h x.0
  framed f (Err e) h = tt

  -- behind anything that is read, where it is so behind all of which this holds
  pub behind_read : {A T : Type 0} (Q : A → Type 0) (f : T → FrameValue) (r : Result (A × List ℕ) FrameError) (rest : A × List ℕ → Result (T × List ℕ) FrameError) → IfRead Q r → ((x : A × List ℕ) → Q x.0 → IfRead P (as_frame f (rest x))) → IfRead P (as_frame f (r >>= rest))
  behind_read Q f (Ok x) rest q h = h x q
  behind_read Q f (Err e) rest q h = tt

  module _ (kinds : (kind : Kind) (bytes : List ℕ) → IfRead P (of_kind_at kind bytes)) where
    behind_its_type : (type : ℕ) (bytes : List ℕ) → IfRead P (body_at type bytes)
    unfolding body_at
    behind_its_type type bytes = kinds (kind_of type) bytes

    unless_refused : (type : Option ℕ) (r : Result (FrameValue × List ℕ) FrameError) → IfRead P r → IfRead P (refused type r)
    unless_refused type (Ok x) h = h
    unless_refused type (Err e) h = tt

    behind_any_type : (r : Result (ℕ × List ℕ) FrameError) → IfRead P (behind_type r)
    behind_any_type (Ok type) = unless_refused (Some type.0) (body_at type.0 type.1) (behind_its_type type.0 type.1)
    behind_any_type (Err e) = tt

    frame_read : (bytes : List ℕ) → IfRead P (frame_at bytes)
    unfolding frame_at
    frame_read bytes = behind_any_type (var_at bytes)

    first : (others : List ℕ → List (Result FrameValue InvalidFrame)) → ((bytes : List ℕ) (f : FrameValue) → In f (frames_of (others bytes)) → P f) → (r : Result (FrameValue × List ℕ) InvalidFrame) → IfRead P r → (f : FrameValue) → In f (frames_of (first_and others r)) → P f
    first others all (Ok x) h f (inl same) = subst P (sym same) h
    first others all (Ok x) h f (inr more) = all x.1 f more
    first others all (Err e) h f among = absurd among

    within : (n : ℕ) (bytes : List ℕ) (f : FrameValue) → In f (frames_of (items_within n bytes)) → P f
    unfolding items_within
    within zero bytes f among = absurd among
    within (suc n) [] f among = absurd among
    within (suc n) (b ∷ bytes) f among = first (items_within n) (within n) (frame_at (b ∷ bytes)) (frame_read (b ∷ bytes)) f among

    pub by_kinds : (bytes : List ℕ) (f : FrameValue) → In f (frames_of (items bytes)) → P f
    unfolding items
    by_kinds bytes f among = within (length bytes) bytes f among
