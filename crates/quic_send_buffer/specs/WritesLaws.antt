-- What writes of several buffers come to.
use Rattle.std.proofs.Common.{◌≡◌, ℕ, ◌+◌, ◌-◌, List, [], ◌∷◌, length, take, min, refl, ap, arith, length-append, length-take}
use Rattle.std.proofs.Math.Seq.{take-length}
use Rattle.std.proofs.lemmas.List.Sums.{sum_by-cons}
use Rattle.quic_send_buffer.specs.Buffered.{Buffered, after_write, after_writes}
use Rattle.quic_send_buffer.specs.Source.{bytes_of, cut_to}

-- buffers that are cut have as many bytes as they are cut to, or all
pub cut_bytes : (n : ℕ) (cs : List (List ℕ)) → bytes_of (cut_to n cs) ≡ min n (bytes_of cs)
cut_bytes n [] = omega arith
cut_bytes n (c ∷ cs) =
    let all = sum_by-cons (λ (x : List ℕ). length x) c cs in
    let cut = sum_by-cons (λ (x : List ℕ). length x) (take n c) (cut_to (n - length c) cs) in
    let len = length-take n c in
    let rest = cut_bytes (n - length c) cs in
    omega (arith, all, cut, len, rest)

-- one buffer that is cut to its length is that buffer
pub cut_one : (c : List ℕ) → cut_to (length c) (c ∷ []) ≡ c ∷ []
cut_one c = ap (λ (x : List ℕ). x ∷ []) (take-length c)

-- writes in turn leave what was sent before them, and add their bytes
pub record AddsBytes (b c : Buffered) (n : ℕ) : Type 0 where
  pub base : c.base ≡ b.base
  pub unsent : c.unsent ≡ b.unsent
  pub kept : length c.kept ≡ length b.kept + n

pub writes_add : (b : Buffered) (cs : List (List ℕ)) → AddsBytes b (after_writes b cs) (bytes_of cs)
writes_add b [] = record { base = refl; unsent = refl; kept = omega arith }
writes_add b (c ∷ cs) =
    let rest = writes_add (after_write b c) cs in
    let all = sum_by-cons (λ (x : List ℕ). length x) c cs in
    let len = length-append b.kept c in
    let kept = rest.kept in
    record { base = rest.base; unsent = rest.unsent; kept = omega (arith, kept, all, len) }
