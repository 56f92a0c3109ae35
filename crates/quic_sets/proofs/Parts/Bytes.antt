-- The byte at an offset of bytes that begin somewhere.
use Rattle.std.proofs.Common.{◌≡◌, ℕ, ◌+◌, ◌-◌, ◌<◌, ◌≤◌, ltb, length, List, take, drop, Bool, true, false, Some, None, refl, sym, ap, ◌∙◌, arith, max, length-take, length-drop, get_or}
use Rattle.std.specs.List.{slice_get}
use Rattle.std.proofs.lemmas.Bool.{ltb-true, ltb-false, lt-ltb, le-ltb}
use Rattle.std.proofs.lemmas.List.{get_or-take, get_or-drop}
use Rattle.std.proofs.lemmas.Option.{slice_get_past, slice_get-get_or}
use Rattle.quic_sets.specs.Parts.{byte_from}

pub get-take : (n i : ℕ) (bs : List ℕ) → i < n → slice_get (take n bs) i ≡ slice_get bs i
get-take n i bs l = go (ltb i (length bs)) refl
  where
    go : (b : Bool) → ltb i (length bs) ≡ b → slice_get (take n bs) i ≡ slice_get bs i
    go true q =
        let k = ltb-true i (length bs) q in
        let lt = length-take n bs in
        slice_get-get_or (take n bs) i 0 (omega arith) ∙ ap (λ x. Some x) (get_or-take n bs i 0 l) ∙ sym (slice_get-get_or bs i 0 k)
    go false q =
        let k = ltb-false i (length bs) q in
        let lt = length-take n bs in
        slice_get_past (take n bs) i (omega arith) ∙ sym (slice_get_past bs i k)

pub get-drop : (n i : ℕ) (bs : List ℕ) → slice_get (drop n bs) i ≡ slice_get bs (n + i)
get-drop n i bs = go (ltb (n + i) (length bs)) refl
  where
    go : (b : Bool) → ltb (n + i) (length bs) ≡ b → slice_get (drop n bs) i ≡ slice_get bs (n + i)
    go true q =
        let k = ltb-true (n + i) (length bs) q in
        let lt = length-drop n bs in
        slice_get-get_or (drop n bs) i 0 (omega arith) ∙ ap (λ x. Some x) (get_or-drop n bs i 0) ∙ sym (slice_get-get_or bs (n + i) 0 k)
    go false q =
        let k = ltb-false (n + i) (length bs) q in
        let lt = length-drop n bs in
        slice_get_past (drop n bs) i (omega arith) ∙ sym (slice_get_past bs (n + i) k)

pub from_below : (at : ℕ) (bs : List ℕ) (o : ℕ) → o < at → byte_from at bs o ≡ None
from_below at bs o l = rw (lt-ltb o at l) refl

pub from_above : (at : ℕ) (bs : List ℕ) (o : ℕ) → at ≤ o → byte_from at bs o ≡ slice_get bs (o - at)
from_above at bs o l = rw (le-ltb o at l) refl

pub from_behind : (at : ℕ) (bs : List ℕ) (o : ℕ) → at + length bs ≤ o → byte_from at bs o ≡ None
from_behind at bs o l = from_above at bs o (omega arith) ∙ slice_get_past bs (o - at) (omega arith)

pub from_within : (at : ℕ) (bs : List ℕ) (o : ℕ) → at ≤ o → o < at + length bs → byte_from at bs o ≡ Some (get_or bs (o - at) 0)
from_within at bs o l m = from_above at bs o l ∙ slice_get-get_or bs (o - at) 0 (omega arith)

-- what stands before n is as it was, and nothing behind
pub from_front : (at n : ℕ) (bs : List ℕ) (o : ℕ) → o < n → byte_from at (take (n - at) bs) o ≡ byte_from at bs o
from_front at n bs o l = go (ltb o at) refl
  where
    go : (b : Bool) → ltb o at ≡ b → byte_from at (take (n - at) bs) o ≡ byte_from at bs o
    go true q = let k = ltb-true o at q in from_below at (take (n - at) bs) o k ∙ sym (from_below at bs o k)
    go false q = let k = ltb-false o at q in from_above at (take (n - at) bs) o k ∙ get-take (n - at) (o - at) bs (omega arith) ∙ sym (from_above at bs o k)

pub from_front_behind : (at n : ℕ) (bs : List ℕ) (o : ℕ) → n ≤ o → byte_from at (take (n - at) bs) o ≡ None
from_front_behind at n bs o l = go (ltb o at) refl
  where
    go : (b : Bool) → ltb o at ≡ b → byte_from at (take (n - at) bs) o ≡ None
    go true q = from_below at (take (n - at) bs) o (ltb-true o at q)
    go false q =
        let k = ltb-false o at q in
        let lt = length-take (n - at) bs in
        from_behind at (take (n - at) bs) o (omega arith)

-- what stands behind n is as it was
pub from_back : (at n : ℕ) (bs : List ℕ) (o : ℕ) → n ≤ o → byte_from (max at n) (drop (n - at) bs) o ≡ byte_from at bs o
from_back at n bs o l = go (ltb o at) refl
  where
    go : (b : Bool) → ltb o at ≡ b → byte_from (max at n) (drop (n - at) bs) o ≡ byte_from at bs o
    go true q = let k = ltb-true o at q in from_below (max at n) (drop (n - at) bs) o (omega arith) ∙ sym (from_below at bs o k)
    go false q =
        let k = ltb-false o at q in
        from_above (max at n) (drop (n - at) bs) o (omega arith) ∙ get-drop (n - at) (o - max at n) bs ∙ ap (λ i. slice_get bs i) (omega arith) ∙ sym (from_above at bs o k)
