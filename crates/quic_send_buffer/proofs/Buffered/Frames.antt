-- A range of what a send buffer keeps, byte by byte.
use Rattle.std.proofs.Common.{◌≡◌, ℕ, zero, suc, ◌+◌, ◌-◌, ◌<◌, ◌≤◌, List, [], ◌∷◌, length, take, drop, slice_range, length-drop, length-take, sym, ap, refl, arith, ◌∙◌}
use Rattle.std.specs.List.{slice_get}
use Rattle.quic_send_buffer.specs.Buffered.{Buffered, written, kept_byte}
use Rattle.quic_sets.proofs.Parts.Bytes.{get-drop, from_above}

get_taken : (n i : ℕ) (bs : List ℕ) → i < n → slice_get (take n bs) i ≡ slice_get bs i
get_taken zero i bs l = absurd (omega (arith, l))
get_taken (suc n) i [] l = refl
get_taken (suc n) zero (b ∷ bs) l = refl
get_taken (suc n) (suc i) (b ∷ bs) l = get_taken n i bs (omega (arith, l))

pub range_byte : (b : Buffered) (start end i : ℕ) → b.base ≤ start → end ≤ written b → start + i < end → slice_get (slice_range b.kept (start - b.base) (end - b.base)) i ≡ kept_byte b (start + i)
range_byte b start end i from to lt =
    let same : start - b.base + i ≡ start + i - b.base = omega (arith, from) in
    get_taken (end - b.base - (start - b.base)) i (drop (start - b.base) b.kept) (omega (arith, from, lt))
    ∙ get-drop (start - b.base) i b.kept
    ∙ ap (slice_get b.kept) same
    ∙ sym (from_above b.base b.kept (start + i) (omega (arith, from)))

pub range_count : (b : Buffered) (start end : ℕ) → b.base ≤ start → end ≤ written b → length (slice_range b.kept (start - b.base) (end - b.base)) ≡ end - start
range_count b start end from to =
    let few = length-take (end - b.base - (start - b.base)) (drop (start - b.base) b.kept) in
    let left = length-drop (start - b.base) b.kept in
    omega (arith, few, left, from, to)
