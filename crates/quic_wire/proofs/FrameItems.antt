-- The items of a payload, one step at a time.
use Rattle.std.proofs.Common.{◌≡◌, ℕ, zero, suc, ◌≤◌, ◌<◌, List, [], ◌∷◌, length, Result, Ok, Err, refl, ap, ◌∙◌, arith}
use Rattle.quic_wire.specs.declared.frame.InvalidFrame.{InvalidFrame}
use Rattle.quic_wire.specs.Value.{FrameValue}
use Rattle.quic_wire.specs.Items.{frame_at, first_and, items_within, items, EndsAtRefusal}
use Rattle.quic_wire.proofs.FrameShrinks.{FrameLeavesFewer, frame_fewer}

same_behind : (k n m : ℕ) (r : Result (FrameValue × List ℕ) InvalidFrame) → k ≤ n → k ≤ m → FrameLeavesFewer (suc k) r
    → ((rest : List ℕ) → length rest ≤ n → length rest ≤ m → items_within n rest ≡ items_within m rest) → first_and (items_within n) r ≡ first_and (items_within m) r
same_behind k n m (Ok x) le le' h same = ap (λ (xs : List (Result FrameValue InvalidFrame)). Ok x.0 ∷ xs) (same x.1 (omega arith) (omega arith))
same_behind k n m (Err e) le le' h same = refl

-- as many steps as there are bytes are enough
same_steps : (n m : ℕ) (bytes : List ℕ) → length bytes ≤ n → length bytes ≤ m → items_within n bytes ≡ items_within m bytes
unfolding items_within
same_steps zero zero bytes h k = refl
same_steps zero (suc m) [] h k = refl
same_steps zero (suc m) (b ∷ bytes) h k = absurd (omega arith)
same_steps (suc n) zero [] h k = refl
same_steps (suc n) zero (b ∷ bytes) h k = absurd (omega arith)
same_steps (suc n) (suc m) [] h k = refl
same_steps (suc n) (suc m) (b ∷ bytes) h k = same_behind (length bytes) n m (frame_at (b ∷ bytes)) (omega arith) (omega arith) (frame_fewer (b ∷ bytes)) (λ rest i j. same_steps n m rest i j)

pub items_nil : items [] ≡ []
unfolding items items_within
items_nil = refl

step : (k : ℕ) (r : Result (FrameValue × List ℕ) InvalidFrame) → FrameLeavesFewer (suc k) r → first_and (items_within k) r ≡ first_and items r
unfolding items
step k (Ok x) h = ap (λ (xs : List (Result FrameValue InvalidFrame)). Ok x.0 ∷ xs) (same_steps k (length x.1) x.1 (omega arith) (omega arith))
step k (Err e) h = refl

pub items_step : (bytes : List ℕ) → 0 < length bytes → items bytes ≡ first_and items (frame_at bytes)
unfolding items items_within
items_step [] h = absurd (omega arith)
items_step (b ∷ bytes) h = step (length bytes) (frame_at (b ∷ bytes)) (frame_fewer (b ∷ bytes))

pub items_ok : (bytes : List ℕ) (f : FrameValue) (rest : List ℕ) → 0 < length bytes → frame_at bytes ≡ Ok (f, rest) → items bytes ≡ Ok f ∷ items rest
items_ok bytes f rest h e = items_step bytes h ∙ rw e refl

pub items_err : (bytes : List ℕ) (e : InvalidFrame) → 0 < length bytes → frame_at bytes ≡ Err e → items bytes ≡ Err e ∷ []
items_err bytes e h r = items_step bytes h ∙ rw r refl

-- ---- what items there can be

few_behind : (n : ℕ) (r : Result (FrameValue × List ℕ) InvalidFrame) → ((rest : List ℕ) → length (items_within n rest) ≤ n) → length (first_and (items_within n) r) ≤ suc n
few_behind n (Ok x) h = let k = h x.1 in omega arith
few_behind n (Err e) h = omega arith

few_within : (n : ℕ) (bytes : List ℕ) → length (items_within n bytes) ≤ n
unfolding items_within
few_within zero bytes = omega arith
few_within (suc n) [] = omega arith
few_within (suc n) (b ∷ bytes) = few_behind n (frame_at (b ∷ bytes)) (few_within n)

-- no more items than bytes
pub items_few : (bytes : List ℕ) → length (items bytes) ≤ length bytes
unfolding items
items_few bytes = few_within (length bytes) bytes

ends_behind : (n : ℕ) (r : Result (FrameValue × List ℕ) InvalidFrame) → ((rest : List ℕ) → EndsAtRefusal (items_within n rest)) → EndsAtRefusal (first_and (items_within n) r)
ends_behind n (Ok x) h = h x.1
ends_behind n (Err e) h = refl

ends_within : (n : ℕ) (bytes : List ℕ) → EndsAtRefusal (items_within n bytes)
unfolding items_within
ends_within zero bytes = tt
ends_within (suc n) [] = tt
ends_within (suc n) (b ∷ bytes) = ends_behind n (frame_at (b ∷ bytes)) (ends_within n)

-- nothing comes behind a refusal
pub items_end : (bytes : List ℕ) → EndsAtRefusal (items bytes)
unfolding items
items_end bytes = ends_within (length bytes) bytes
