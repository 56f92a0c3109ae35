-- Going over ranges one after the other, as a loop does.
use Rattle.std.proofs.Common.{◌≡◌, ℕ, zero, suc, ◌-◌, ◌+◌, ◌≤◌, ◌<◌, List, [], ◌∷◌, Result, Ok, Err, refl, sym, ◌∙◌, arith}
use Rattle.quic_wire.specs.declared.frame.FrameError.{FrameError}
use Rattle.quic_wire.specs.AckReading.{range_at, ranges_at, behind}
use Rattle.quic_wire_core.specs.Taking.{◌>>=◌}
use Rattle.std.specs.Prelude.{IsOk}
use Rattle.quic_wire.specs.AckView.{ranges_of}

regroup : (x : ℕ × ℕ) (read : Result (List (ℕ × ℕ) × List ℕ) FrameError) → behind (read >>= λ others. Ok (x ∷ others.0, others.1)) ≡ behind read
regroup x (Ok y) = refl
regroup x (Err e) = refl

pub goes_on : (count i s : ℕ) (bytes : List ℕ) (x : ℕ × ℕ) (after : List ℕ) (total : Result (ℕ × List ℕ) FrameError) → i < count → range_at s bytes ≡ Ok (x, after)
    → behind (ranges_at (count - i) s bytes) ≡ total → behind (ranges_at (count - (i + 1)) x.0 after) ≡ total
unfolding ranges_at
goes_on count i s bytes x after total lt h so_far =
    let k : count - i ≡ suc (count - (i + 1)) = omega arith in
    let one : behind (ranges_at (count - i) s bytes) ≡ behind (ranges_at (count - (i + 1)) x.0 after) = rw (k, h) (regroup x (ranges_at (count - (i + 1)) x.0 after)) in
    sym one ∙ so_far

pub ends : (count i s : ℕ) (bytes : List ℕ) (e : FrameError) (total : Result (ℕ × List ℕ) FrameError) → i < count → range_at s bytes ≡ Err e
    → behind (ranges_at (count - i) s bytes) ≡ total → total ≡ Err e
unfolding ranges_at
ends count i s bytes e total lt h so_far =
    let k : count - i ≡ suc (count - (i + 1)) = omega arith in
    let one : behind (ranges_at (count - i) s bytes) ≡ Err e = rw (k, h) refl in
    sym so_far ∙ one

pub is_done : (count i s : ℕ) (bytes : List ℕ) (total : Result (ℕ × List ℕ) FrameError) → count ≤ i → behind (ranges_at (count - i) s bytes) ≡ total → total ≡ Ok (0, bytes)
unfolding ranges_at
is_done count i s bytes total le so_far =
    let k : count - i ≡ 0 = omega arith in
    let one : behind (ranges_at (count - i) s bytes) ≡ Ok (0, bytes) = rw k refl in
    sym so_far ∙ one

-- ---- one range at a time

abbrev pack : ℕ × ℕ → List (ℕ × ℕ) × List ℕ → Result (List (ℕ × ℕ) × List ℕ) FrameError
pack x others = Ok (x ∷ others.0, others.1)

with_first : (x : ℕ × ℕ) (read : Result (List (ℕ × ℕ) × List ℕ) FrameError) → IsOk (read >>= λ (others : List (ℕ × ℕ) × List ℕ). pack x others) → (ranges_of (read >>= λ (others : List (ℕ × ℕ) × List ℕ). pack x others) ≡ x ∷ ranges_of read) × IsOk read
with_first x (Ok y) h = (refl, h)
with_first x (Err e) h = absurd cc

pub ranges_none : (s : ℕ) (bytes : List ℕ) → ranges_of (ranges_at 0 s bytes) ≡ []
unfolding ranges_at
ranges_none s bytes = refl

pub ranges_first : (n s : ℕ) (bytes : List ℕ) (x : ℕ × ℕ) (rest : List ℕ) → 0 < n → IsOk (ranges_at n s bytes) → range_at s bytes ≡ Ok (x, rest)
    → (ranges_of (ranges_at n s bytes) ≡ x ∷ ranges_of (ranges_at (n - 1) x.0 rest)) × IsOk (ranges_at (n - 1) x.0 rest)
unfolding ranges_at
ranges_first zero s bytes x rest pos h e = absurd (omega arith)
ranges_first (suc n) s bytes x rest pos h e =
    let k : suc n - 1 ≡ n = omega arith in
    rw (k, e) (with_first x (ranges_at n x.0 rest) (rw e at h))

pub ranges_some : (n s : ℕ) (bytes : List ℕ) (f : FrameError) → 0 < n → IsOk (ranges_at n s bytes) → range_at s bytes ≡ Err f → ⊥
unfolding ranges_at
ranges_some zero s bytes f pos h e = absurd (omega arith)
ranges_some (suc n) s bytes f pos h e = let k = rw e at h in absurd cc
