-- Keys that leave all bytes as they are.
use Rattle.std.proofs.Common.{◌≡◌, ℕ, zero, suc, ◌+◌, ◌-◌, ◌%◌, ◌≤◌, List, [], ◌∷◌, ◌++◌, length, take, drop, ap, sym, ◌∙◌, arith, append_assoc}
use Rattle.std.specs.Prelude.{slice_index}
use Rattle.std.proofs.lemmas.List.{append-nil, drop-drop, drop_all, length-drop, length-take-le, take-append-drop}
use Rattle.std.proofs.Math.Seq.{take-add}
use borrow.Rule.Slice.PartMut.{put_mid}
use Rattle.quic_wire.specs.Keys.{width_in, with_header}

-- A packet with its own first byte and number is as it was.
pub as_it_was : (at : ℕ) (packet : List ℕ) → 1 ≤ at → at + 20 ≤ length packet → packet ≡ with_header at packet (slice_index packet 0) (take (width_in (slice_index packet 0)) (drop at packet))
as_it_was zero packet a b = absurd (omega arith)
as_it_was (suc n) [] a b = absurd (omega arith)
as_it_was (suc n) (x ∷ xs) a b =
    let w = x % 4 + 1 in
    let len : length (take w (drop n xs)) ≡ w = length-take-le w (drop n xs) (simp length-drop (omega arith)) in
    let less : suc n - 1 ≡ n = omega arith in
    let same : suc n + w ≡ suc (n + w) = omega arith in
    let parts : take w (drop n xs) ++ drop (n + w) xs ≡ drop n xs = ap (λ t. take w (drop n xs) ++ t) (sym (drop-drop w n xs)) ∙ take-append-drop w (drop n xs) in
    let whole : take n xs ++ (take w (drop n xs) ++ drop (n + w) xs) ≡ xs = ap (λ t. take n xs ++ t) parts ∙ take-append-drop n xs in
    rw (len, less, same) (ap (λ t. x ∷ t) (sym whole))

-- A tag of zeros behind a payload that stays.
pub tagged : (xs t : List ℕ) (h : ℕ) → h + 16 ≤ length xs → length t ≡ 16 → put_mid (length xs - 16) (length xs - (length xs - 16)) xs t ≡ take h xs ++ (take (length xs - h - 16) (drop h xs) ++ t)
tagged xs t h le len =
    let none : drop (length xs - (length xs - 16)) (drop (length xs - 16) xs) ≡ [] = drop_all (length xs - (length xs - 16)) (drop (length xs - 16) xs) (simp length-drop (omega arith)) in
    let same : length xs - 16 ≡ h + (length xs - h - 16) = omega arith in
    let front : take (length xs - 16) xs ≡ take h xs ++ take (length xs - h - 16) (drop h xs) = rw same (take-add h (length xs - h - 16) xs) in
    rw (none, append-nil t, front) (append_assoc (take h xs) (take (length xs - h - 16) (drop h xs)) t)
