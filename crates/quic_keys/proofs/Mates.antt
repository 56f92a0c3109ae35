-- Keys that protect nothing are mates where they have one mark.
use Rattle.std.proofs.Common.{◌≡◌, ◌≢◌, ℕ, ◌+◌, ◌-◌, ◌%◌, ◌<◌, ◌^◌, List, [], ◌∷◌, ◌++◌, length, take, drop, Some, Bool, true, false, refl, sym, ◌∙◌, ap, arith}
use Rattle.std.specs.Prelude.{slice_index, bit_xor, nat_eq, nat_le}
use Rattle.std.specs.Int.{w64, from_be_bytes}
use Rattle.std.specs.Int.Bits.{xor_zero_r, xor_self, xor_assoc}
use Rattle.std.specs.Cmp.Lexicographic.{pointwise}
use Rattle.std.proofs.lemmas.Bool.{le-leb}
use Rattle.std.proofs.lemmas.Nat.{from_be_bytes-to_be_bytes_8}
use Rattle.std.proofs.lemmas.List.{take_at, drop_at}
use Rattle.std.proofs.lemmas.Slice.Eq.{bytes_eq-Decides}
use Rattle.quic_packet.specs.Keys.{Seal, Open, IsHeaderMate, IsMate, AreMates}
use Rattle.quic_wire_core.specs.declared.stream_id.Side.{Side}
use Rattle.quic_wire_core.specs.declared.stream_id.Side.TheVariants.{Client, Server}
use Rattle.quic_wire_core.specs.StreamId.{other_side}
use Rattle.quic_machine.specs.End.{KeyLimits}
use Rattle.quic_machine.specs.Policy.{CanOpen}
use Rattle.quic_keys.specs.KeysOf.{keys_of}
use Rattle.quic_keys.specs.Plain.{xored, tag, plain_sealed, plain_opened, plain_protection, plain_aead}
use Rattle.quic_keys.specs.PlainLaw.{number_length, adds_tag}
use Rattle.quic_keys.specs.Policies.{plain_policy}

-- masking twice is masking not at all
xor_twice : (a m : ℕ) → bit_xor (bit_xor a m) m ≡ a
xor_twice a m = xor_assoc a m m ∙ rw (xor_self m) (xor_zero_r a)

-- so it is for bytes
xored_twice : (y m : List ℕ) → xored (xored y m) m ≡ y
xored_twice [] m = refl
xored_twice (b ∷ bs) m = rw (xor_twice b (slice_index m 0), xored_twice bs (drop 1 m)) refl

-- masking by the sample is its own mate
pub header_mate : IsHeaderMate plain_protection plain_protection
header_mate = record {
  first = λ s b lt. xor_twice b (slice_index s 0 % 32);
  number = λ s y le. xored_twice y (drop 1 s);
  length = number_length;
}

-- whether two lists are the same
abbrev same : List ℕ → List ℕ → Bool
same xs ys = pointwise nat_eq xs ys

-- the number that a tag shows
number_of : (mark n : ℕ) → n < 2 ^ 62 → from_be_bytes w64 (take 8 (tag mark n)) ≡ n
number_of mark n lt = from_be_bytes-to_be_bytes_8 n (omega arith)

-- tags of two numbers are two tags
tags_differ : (mark m n : ℕ) (b : Bool) → m < 2 ^ 62 → n < 2 ^ 62 → m ≢ n → same (tag mark n) (tag mark m) ≡ b → b ≡ false
tags_differ mark m n true small lt ne e =
    let equal : n ≡ m = sym (number_of mark n lt) ∙ (ap (λ (t : List ℕ). from_be_bytes w64 (take 8 t)) ((bytes_eq-Decides (tag mark n) (tag mark m)).0 e) ∙ number_of mark m small) in
    absurd (ne (sym equal))
tags_differ mark m n false small lt ne e = refl

-- what is sealed with a mark opens by that mark
plain_mate : (mark : ℕ) (unseal : Open) (seal : Seal) → IsMate (record { seal = plain_sealed mark; unseal = unseal }) (record { seal = seal; unseal = plain_opened mark })
plain_mate mark unseal seal = record {
  opens_its = λ n h p lt.
      let len : length (p ++ tag mark n) ≡ length p + 16 = adds_tag mark n h p in
      let cut : length p + 16 - 16 ≡ length p = omega arith in
      let long : nat_le 16 (length p + 16) ≡ true = le-leb _ _ (omega arith) in
      rw (len, cut, drop_at p (tag mark n) (length p) refl, long, (bytes_eq-Decides (tag mark n) (tag mark n)).1 refl) (ap Some (take_at p (tag mark n) (length p) refl));
  no_other = λ m n h p small lt ne.
      let len : length (p ++ tag mark n) ≡ length p + 16 = adds_tag mark n h p in
      let cut : length p + 16 - 16 ≡ length p = omega arith in
      let long : nat_le 16 (length p + 16) ≡ true = le-leb _ _ (omega arith) in
      let differ : same (tag mark n) (tag mark m) ≡ false = tags_differ mark m n (same (tag mark n) (tag mark m)) small lt ne refl in
      rw (len, cut, drop_at p (tag mark n) (length p) refl, long, differ) refl;
}

-- what either end seals with is the mate of what the other opens with
pub keys_mate : (side : Side) → AreMates plain_protection (plain_aead (keys_of side).packet.local.mark) plain_protection (plain_aead (keys_of (other_side side)).packet.remote.mark)
keys_mate Client = record { header = header_mate; packet = plain_mate 0x63 _ _ }
keys_mate Server = record { header = header_mate; packet = plain_mate 0x73 _ _ }

-- what either end gives, the other one can open
pub policies_mate : (side : Side) (limits peer_limits : KeyLimits) (own peer : ℕ → ℕ) → CanOpen (plain_policy limits side own) (plain_policy peer_limits (other_side side) peer)
policies_mate Client limits peer_limits own peer = record { header = header_mate; packet = plain_mate 0x63 _ _ }
policies_mate Server limits peer_limits own peer = record { header = header_mate; packet = plain_mate 0x73 _ _ }
