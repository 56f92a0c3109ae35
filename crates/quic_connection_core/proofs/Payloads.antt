-- A payload has no item where it has no byte.
use Rattle.std.proofs.Common.{◌≡◌, ℕ, ◌<◌, suc, Bool, true, false, List, [], ◌∷◌, length, refl, Result, Ok, Err, arith, Some}
use Rattle.quic_wire.specs.Value.{FrameValue}
use Rattle.quic_wire.specs.declared.frame.InvalidFrame.{InvalidFrame}
use Rattle.quic_wire.specs.Items.{items, items_within, first_and, frame_at}
use Rattle.quic_packet.specs.Header.{reserved_bits}
use Rattle.quic_machine.specs.End.{End}
use Rattle.quic_machine.specs.Migration.{items_at}
use Rattle.quic_machine.specs.Receive.{is_empty, take_payload, take_items, told_payload, told_items, violation}

never_empty : (others : List ℕ → List (Result FrameValue InvalidFrame)) (r : Result (FrameValue × List ℕ) InvalidFrame) → is_empty (first_and others r) ≡ false
never_empty others (Ok x) = refl
never_empty others (Err e) = refl

within : (n : ℕ) (b : ℕ) (bytes : List ℕ) → is_empty (items_within (suc n) (b ∷ bytes)) ≡ false
unfolding items_within
within n b bytes = never_empty (items_within n) (frame_at (b ∷ bytes))

pub some_items : (bytes : List ℕ) → 0 < length bytes → is_empty (items bytes) ≡ false
unfolding items
some_items [] long = absurd (omega arith)
some_items (b ∷ bytes) long = within (length bytes) b bytes

pub no_items : is_empty (items []) ≡ true
unfolding items items_within
no_items = refl

-- nor is one more or less from elsewhere
pub empty_at : (here : Bool) (is : List (Result FrameValue InvalidFrame)) → is_empty (items_at here is) ≡ is_empty is
empty_at true is = refl
empty_at false [] = refl
empty_at false (i ∷ is) = refl

-- what the two tests of a payload come to
pub goes : (here : Bool) (first : ℕ) (bytes : List ℕ) (e : End) → reserved_bits first ≡ 0 → 0 < length bytes → take_payload first (items_at here (items bytes)) e ≡ take_items (items_at here (items bytes)) e
goes here first bytes e clear long = rw (clear, empty_at here (items bytes), some_items bytes long) refl

pub goes_told : (here : Bool) (first : ℕ) (bytes : List ℕ) (e : End) → reserved_bits first ≡ 0 → 0 < length bytes → told_payload first (items_at here (items bytes)) e ≡ told_items (items_at here (items bytes)) e
goes_told here first bytes e clear long = rw (clear, empty_at here (items bytes), some_items bytes long) refl

pub stops_empty : (here : Bool) (first : ℕ) (bytes : List ℕ) (e : End) → reserved_bits first ≡ 0 → length bytes ≡ 0 → take_payload first (items_at here (items bytes)) e ≡ record { end = e; fault = Some violation }
stops_empty here first [] e clear none = rw (clear, empty_at here (items []), no_items) refl
stops_empty here first (b ∷ bytes) e clear none = absurd (omega arith)
