-- The stand-in's work in place.
use Rattle.std.proofs.Common.{◌≡◌, ℕ, zero, suc, ◌+◌, ◌-◌, ◌<◌, ◌≤◌, List, [], ◌∷◌, ◌++◌, length, take, drop, get_or, set, refl, ◌∙◌, arith, append_assoc}
use Rattle.std.specs.Prelude.{slice_index, bit_xor}
use Rattle.std.proofs.lemmas.List.{append-nil, get_or-take, get_or-drop, drop-drop, drop_more, take_more_set, drop-set-lt, length-drop, take_all, drop_all}
use Rattle.std.proofs.Math.Seq.{take-add}
use borrow.Rule.Slice.PartMut.{put_mid}
use Rattle.quic_packet.specs.Keys.{with_header, sample}
use Rattle.quic_keys.specs.Plain.{xored}

-- another first byte and number written in place
pub rewritten : (at : ℕ) (packet z : List ℕ) (first width : ℕ) → 1 ≤ at → at + width ≤ length packet → length z ≡ width → put_mid at width (set packet 0 first) z ≡ with_header at packet first z
rewritten zero packet z first width a b e = absurd (omega arith)
rewritten (suc n) [] z first width a b e = absurd (omega arith)
rewritten (suc n) (x ∷ xs) z first width a b e =
    let same : suc n + length z ≡ suc (n + width) = omega arith in
    let less : suc n - 1 ≡ n = omega arith in
    rw (same, drop-drop width n xs, less) refl

-- the sample's first byte
pub sample_first : (at : ℕ) (packet : List ℕ) → slice_index (sample at packet) 0 ≡ slice_index packet (at + 4)
sample_first at packet =
    let none : at + 4 + 0 ≡ at + 4 = omega arith in
    get_or-take 16 (drop (at + 4) packet) 0 0 (omega arith) ∙ (get_or-drop (at + 4) packet 0 0 ∙ rw none refl)

-- one byte more is masked
pub xored_more : (i v : ℕ) (all bytes mask : List ℕ) → all ≡ take i bytes ++ xored (drop i bytes) (drop i mask) → i < length bytes → v ≡ bit_xor (get_or bytes i 0) (get_or mask i 0) → all ≡ take (i + 1) (set bytes i v) ++ xored (drop (i + 1) (set bytes i v)) (drop (i + 1) mask)
xored_more i v all bytes mask e lt ev =
    let zeroth : i + 0 ≡ i = omega arith in
    let first : get_or (drop i mask) 0 0 ≡ get_or mask i 0 = get_or-drop i mask 0 0 ∙ rw zeroth refl in
    rw (take_more_set bytes i v lt, drop-set-lt (i + 1) bytes i v (omega arith), append_assoc (take i bytes) (v ∷ []) (xored (drop (i + 1) bytes) (drop (i + 1) mask)), e, drop_more bytes i 0 lt, first, drop-drop 1 i mask, ev) refl

-- every byte is masked
pub xored_done : (bytes mask all : List ℕ) (n : ℕ) → all ≡ take n bytes ++ xored (drop n bytes) (drop n mask) → n ≡ length bytes → all ≡ bytes
xored_done bytes mask all n e en = e ∙ rw (take_all n bytes (omega arith), drop_all n bytes (omega arith)) (append-nil bytes)

-- the tag written in place
pub tagged : (xs t : List ℕ) (h : ℕ) → h + 16 ≤ length xs → length t ≡ 16 → put_mid (length xs - 16) (length xs - (length xs - 16)) xs t ≡ take h xs ++ (take (length xs - h - 16) (drop h xs) ++ t)
tagged xs t h le len =
    let none : drop (length xs - (length xs - 16)) (drop (length xs - 16) xs) ≡ [] = drop_all (length xs - (length xs - 16)) (drop (length xs - 16) xs) (simp length-drop (omega arith)) in
    let same : length xs - 16 ≡ h + (length xs - h - 16) = omega arith in
    let front : take (length xs - 16) xs ≡ take h xs ++ take (length xs - h - 16) (drop h xs) = rw same (take-add h (length xs - h - 16) xs) in
    rw (none, append-nil t, front) (append_assoc (take h xs) (take (length xs - h - 16) (drop h xs)) t)
