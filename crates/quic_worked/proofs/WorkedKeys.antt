-- The keys of the worked run are lawful, and mates in both directions.
use Rattle.std.proofs.Common.{◌≡◌, ◌≢◌, ℕ, suc, ◌+◌, ◌-◌, ◌/◌, ◌%◌, ◌<◌, ◌^◌, List, [], ◌∷◌, ◌++◌, length, take, drop, Some, Bool, true, false, refl, sym, ◌∙◌, ap, arith, length-append}
use Rattle.std.specs.Prelude.{slice_index, bit_xor, nat_eq, nat_le}
use Rattle.std.specs.Int.{w64, from_be_bytes}
use Rattle.std.specs.Int.Bits.{xor_zero_r, xor_self, xor_assoc}
use Rattle.std.specs.Cmp.Lexicographic.{pointwise}
use Rattle.std.proofs.lemmas.Bool.{le-leb}
use Rattle.std.proofs.lemmas.Nat.{from_be_bytes-to_be_bytes_8, xor_shr}
use Rattle.std.proofs.lemmas.List.{take_at, drop_at}
use Rattle.std.proofs.lemmas.Slice.Eq.{bytes_eq-Decides}
use Rattle.quic_packet.specs.Keys.{IsHeaderMate, IsMate}
use Rattle.quic_machine.specs.Start.{IsLawful, AreKeys}
use Rattle.quic_worked.specs.Worked.{masked, masked_first, masked_number, tag_of, marked, masking, marking, worked_policies}

-- ---- laws

-- masking keeps the top three bits
first_form : (s : List ℕ) (b : ℕ) → masked_first s b / 32 ≡ b / 32
first_form s b =
    let m = slice_index s 0 % 32 in
    let none : m / 32 ≡ 0 = omega arith in
    xor_shr b m 5 ∙ rw none (xor_zero_r (b / 32))

-- masking keeps how many bytes there are
masked_length : (y m : List ℕ) → length (masked y m) ≡ length y
masked_length [] m = refl
masked_length (b ∷ bs) m = ap (λ (n : ℕ). suc n) (masked_length bs (drop 1 m))

-- masking keeps how many bytes the number has
number_length : (s y : List ℕ) → length (masked_number s y) ≡ length y
number_length s y = masked_length y (drop 1 s)

-- sealing adds 16 bytes
pub adds_tag : (mark n : ℕ) (h p : List ℕ) → length (marked mark n h p) ≡ length p + 16
adds_tag mark n h p = length-append p (tag_of mark n)

lawful : (own theirs : ℕ) → IsLawful (marking own theirs)
lawful own theirs = record { form = first_form; width = number_length; tag = adds_tag own }

-- ---- mates

-- masking twice is masking not at all
pub xor_twice : (a m : ℕ) → bit_xor (bit_xor a m) m ≡ a
xor_twice a m = xor_assoc a m m ∙ rw (xor_self m) (xor_zero_r a)

-- so it is for bytes
masked_twice : (y m : List ℕ) → masked (masked y m) m ≡ y
masked_twice [] m = refl
masked_twice (b ∷ bs) m = rw (xor_twice b (slice_index m 0), masked_twice bs (drop 1 m)) refl

-- masking by the sample is its own mate
header_mate : IsHeaderMate masking masking
header_mate = record {
  first = λ s b lt. xor_twice b (slice_index s 0 % 32);
  number = λ s y le. masked_twice y (drop 1 s);
  length = number_length;
}

-- whether two lists are the same
abbrev same : List ℕ → List ℕ → Bool
same xs ys = pointwise nat_eq xs ys

-- the number that a tag shows
pub number_of : (mark n : ℕ) → n < 2 ^ 62 → from_be_bytes w64 (take 8 (tag_of mark n)) ≡ n
number_of mark n lt = from_be_bytes-to_be_bytes_8 n (omega arith)

-- tags of two numbers are two tags
tags_differ : (mark m n : ℕ) (b : Bool) → m < 2 ^ 62 → n < 2 ^ 62 → m ≢ n → same (tag_of mark n) (tag_of mark m) ≡ b → b ≡ false
tags_differ mark m n true small lt ne e =
    let equal : n ≡ m = sym (number_of mark n lt) ∙ (ap (λ (t : List ℕ). from_be_bytes w64 (take 8 t)) ((bytes_eq-Decides (tag_of mark n) (tag_of mark m)).0 e) ∙ number_of mark m small) in
    absurd (ne (sym equal))
tags_differ mark m n false small lt ne e = refl

-- what is marked by one byte opens where that byte is the mark
packet_mate : (mark other : ℕ) → IsMate (marking mark other).packet (marking other mark).packet
packet_mate mark other = record {
  opens_its = λ n h p lt.
      let len : length (p ++ tag_of mark n) ≡ length p + 16 = adds_tag mark n h p in
      let cut : length p + 16 - 16 ≡ length p = omega arith in
      let long : nat_le 16 (length p + 16) ≡ true = le-leb _ _ (omega arith) in
      rw (len, cut, drop_at p (tag_of mark n) (length p) refl, long, (bytes_eq-Decides (tag_of mark n) (tag_of mark n)).1 refl) (ap Some (take_at p (tag_of mark n) (length p) refl));
  no_other = λ m n h p small lt ne.
      let len : length (p ++ tag_of mark n) ≡ length p + 16 = adds_tag mark n h p in
      let cut : length p + 16 - 16 ≡ length p = omega arith in
      let long : nat_le 16 (length p + 16) ≡ true = le-leb _ _ (omega arith) in
      let differ : same (tag_of mark n) (tag_of mark m) ≡ false = tags_differ mark m n (same (tag_of mark n) (tag_of mark m)) small lt ne refl in
      rw (len, cut, drop_at p (tag_of mark n) (length p) refl, long, differ) refl;
}

pub are_keys : AreKeys worked_policies
are_keys = record {
  client = lawful 0x63 0x73;
  server = lawful 0x73 0x63;
  to_server = record { header = header_mate; packet = packet_mate 0x63 0x73 };
  to_client = record { header = header_mate; packet = packet_mate 0x73 0x63 };
}
