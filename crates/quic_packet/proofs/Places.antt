-- The places of a packet: what stands behind others, its sample, number and header.
use Rattle.std.proofs.Common.{◌≡◌, ℕ, suc, ◌+◌, ◌-◌, ◌≤◌, List, [], ◌∷◌, ◌++◌, length, take, drop, refl, sym, ◌∙◌, ap, arith, append_assoc}
use Rattle.std.specs.Prelude.{slice_index}
use Rattle.std.proofs.lemmas.List.{length-drop, length-append, take-take, get_or-take, drop-take, drop-drop, take_at, drop_at, take_rest}
use borrow.Rule.Slice.PartMut.{put_mid}
use Rattle.std.proofs.Math.ListN.{drop_of_length-le}
use Rattle.quic_packet.specs.Keys.{Protection, Aead, width_in, sample, with_header, shielded}
use Rattle.quic_packet.specs.Datagram.{protected}

-- nothing appended
pub append_none : (xs : List ℕ) → xs ++ [] ≡ xs
append_none [] = refl
append_none (x ∷ xs) = ap (λ (t : List ℕ). x ∷ t) (append_none xs)

-- sealing and then hiding the header is the protected packet
pub protects : (protection : Protection) (aead : Aead) (at n h : ℕ) (packet sealed whole : List ℕ) → whole ≡ shielded protection at sealed → sealed ≡ take h packet ++ aead.seal n (take h packet) (take (length packet - h - 16) (drop h packet)) → h ≡ at + width_in (slice_index packet 0) → at + 20 ≤ length packet → whole ≡ protected protection aead at n (take (length packet - 16) packet)
protects protection aead at n h packet sealed whole e es eh room =
    let m = length packet - 16 in
    let first : slice_index (take m packet) 0 ≡ slice_index packet 0 = get_or-take m packet 0 0 (omega arith) in
    let width : width_in (slice_index packet 0) ≤ 4 = omega arith in
    let within : h ≤ m = omega arith in
    let front : take h (take m packet) ≡ take h packet = take-take h m packet within in
    let parts : m ≡ h + (length packet - h - 16) = omega arith in
    let back : drop h (take m packet) ≡ take (length packet - h - 16) (drop h packet) = rw parts (drop-take h (length packet - h - 16) packet) in
    rw (e, es, first, ← eh, front, back) refl

-- what was written behind the first bytes
behind : (start : ℕ) (xs ys zs : List ℕ) → ys ≡ zs → start ≤ length xs → put_mid start (length xs - start) xs ys ≡ take start xs ++ zs
behind start xs ys zs e le =
    let none : drop (length xs - start) (drop start xs) ≡ [] = drop_of_length-le (drop start xs) (simp length-drop (omega arith)) in
    rw (none, append_none ys, e) refl

-- what a function of the bytes without the tag's room wrote behind the first bytes
pub behind_packet : (start : ℕ) (xs ys : List ℕ) (f : List ℕ → List ℕ) → ys ≡ f (take (length (take (length xs - start) (drop start xs)) - 16) (take (length xs - start) (drop start xs))) → start + 16 ≤ length xs → put_mid start (length xs - start) xs ys ≡ take start xs ++ f (drop start (take (length xs - 16) xs))
behind_packet start xs ys f e le =
    let rest : take (length xs - start) (drop start xs) ≡ drop start xs = take_rest xs start in
    let parts : length xs - 16 ≡ start + (length xs - start - 16) = omega arith in
    let len : length (drop start xs) - 16 ≡ length xs - start - 16 = simp length-drop refl in
    let cut : drop start (take (length xs - 16) xs) ≡ take (length xs - start - 16) (drop start xs) = rw parts (drop-take start (length xs - start - 16) xs) in
    let same : ys ≡ f (drop start (take (length xs - 16) xs)) = e ∙ rw (rest, len, cut) refl in
    behind start xs ys (f (drop start (take (length xs - 16) xs))) same (omega arith)

-- the bytes without the tag's room are those before it
pub sealed_behind : (start : ℕ) (xs tag : List ℕ) → length tag ≡ 16 → take (length (xs ++ tag) - 16) (xs ++ tag) ≡ xs
sealed_behind start xs tag len = take_at xs tag (length (xs ++ tag) - 16) (omega (arith, length-append xs tag))

-- ---- a packet by its parts: the first byte, the id, the number's bytes y and the rest t

-- what stands from n places behind the id
drop_behind : (first : ℕ) (id t : List ℕ) (n at : ℕ) → at ≡ length id + 1 → drop (at + n) (first ∷ (id ++ t)) ≡ drop n t
drop_behind first id t n at e =
    let same : at + n ≡ suc (length id + n) = omega arith in
    rw (same, ← (drop-drop n (length id) (id ++ t)), drop_at id t (length id) refl) refl

-- what stands behind the id
drop_all_behind : (first : ℕ) (id t : List ℕ) (at : ℕ) → at ≡ length id + 1 → drop at (first ∷ (id ++ t)) ≡ t
drop_all_behind first id t at e =
    let same : at ≡ suc (length id) = omega arith in
    rw (same, drop_at id t (length id) refl) refl

-- what stands behind more than the first part
drop_part : (y t : List ℕ) (n : ℕ) → length y ≤ n → drop n (y ++ t) ≡ drop (n - length y) t
drop_part y t n le =
    let same : n ≡ length y + (n - length y) = omega arith in
    ap (λ (m : ℕ). drop m (y ++ t)) same ∙ (sym (drop-drop (n - length y) (length y) (y ++ t)) ∙ ap (λ (z : List ℕ). drop (n - length y) z) (drop_at y t (length y) refl))

-- the sample of the parts
pub sample_of : (first : ℕ) (id y t : List ℕ) (at : ℕ) → at ≡ length id + 1 → length y ≤ 4 → sample at (first ∷ (id ++ (y ++ t))) ≡ take 16 (drop (4 - length y) t)
sample_of first id y t at e le = rw (drop_behind first id (y ++ t) 4 at e, drop_part y t 4 le) refl

-- the number's bytes of the parts
pub number_in : (first : ℕ) (id y t : List ℕ) (at n : ℕ) → at ≡ length id + 1 → n ≡ length y → take n (drop at (first ∷ (id ++ (y ++ t)))) ≡ y
number_in first id y t at n e en = rw (drop_all_behind first id (y ++ t) at e, take_at y t n (sym en)) refl

-- the parts with another first byte and number
pub with_header_parts : (first g : ℕ) (id y z t : List ℕ) (at : ℕ) → at ≡ length id + 1 → length z ≡ length y → with_header at (first ∷ (id ++ (y ++ t))) g z ≡ g ∷ (id ++ (z ++ t))
with_header_parts first g id y z t at e same =
    let before : at - 1 ≡ length id = omega arith in
    rw (before, take_at id (y ++ t) (length id) refl, drop_behind first id (y ++ t) (length z) at e, drop_at y t (length z) (sym same)) refl

-- the parts with the header protected
pub shielded_parts : (protection : Protection) (first : ℕ) (id y t : List ℕ) (at : ℕ) → at ≡ length id + 1 → width_in first ≡ length y → ((s b : List ℕ) → length (protection.hide s b) ≡ length b) → shielded protection at (first ∷ (id ++ (y ++ t))) ≡ protection.mask (take 16 (drop (4 - length y) t)) first ∷ (id ++ (protection.hide (take 16 (drop (4 - length y) t)) y ++ t))
shielded_parts protection first id y t at e w len =
    let s = take 16 (drop (4 - length y) t) in
    let le : length y ≤ 4 = omega arith in
    rw (sample_of first id y t at e le, number_in first id y t at (width_in first) e w) (with_header_parts first (protection.mask s first) id y (protection.hide s y) t at e (len s y))

-- the header of the parts
pub header_of : (first : ℕ) (id y t : List ℕ) (n : ℕ) → n ≡ length id + 1 + length y → take n (first ∷ (id ++ (y ++ t))) ≡ first ∷ (id ++ y)
header_of first id y t n e = rw (← (append_assoc id y t)) (take_at (first ∷ (id ++ y)) t n (sym (e ∙ long)))
  where
    long : length id + 1 + length y ≡ length (first ∷ (id ++ y))
    long = omega (arith, length-append id y)

-- what stands behind the header
pub body_of : (first : ℕ) (id y t : List ℕ) (n : ℕ) → n ≡ length id + 1 + length y → drop n (first ∷ (id ++ (y ++ t))) ≡ t
body_of first id y t n e = rw (← (append_assoc id y t)) (drop_at (first ∷ (id ++ y)) t n (sym (e ∙ long)))
  where
    long : length id + 1 + length y ≡ length (first ∷ (id ++ y))
    long = omega (arith, length-append id y)
