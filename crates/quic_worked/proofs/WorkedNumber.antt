-- The worked run's datagram has number 0 and no other, and so has that of the word alone.
use Rattle.std.proofs.Common.{◌≡◌, ◌⊎◌, ◌-◌, ◌*◌, ◌%◌, ◌<◌, ℕ, List, [], take, drop, Bool, true, false, refl, inl, inr, ap, sym, ◌∙◌, subst, arith}
use Rattle.std.specs.Prelude.{slice_index, bit_xor, nat_lt, if◌then◌else◌}
use Rattle.std.proofs.lemmas.Bool.{ltb-true}
use Rattle.std.specs.Int.Bits.{xor_self}
use Rattle.quic_packet.specs.Number.{Truncated, width_for, window, number_bytes}
use Rattle.quic_packet.specs.Header.{first_byte}
use Rattle.quic_packet.specs.Datagram.{datagram_of}
use Rattle.quic_machine.specs.Poll.{IsDatagram}
use Rattle.quic_headline.specs.Runs.{destination}
use Rattle.quic_headline.specs.Headline.{IsNumbered}
use Rattle.quic_worked.specs.Worked.{marked, worked_policies, server_id, hello_datagram, hello_payload}
use Rattle.quic_worked.specs.Acknowledged.{client_datagram}
use Rattle.quic_worked.proofs.WorkedKeys.{xor_twice}

-- the number in this many bytes
abbrev in_width : ℕ → ℕ → Truncated
in_width w n = record { width = w; residue = n % window w }

-- the first byte, by what is sealed behind a number of so many bytes
abbrev first_of : ℕ → List ℕ → ℕ
first_of w sealed = bit_xor (first_byte w) (slice_index (take 16 (drop (4 - w) sealed)) 0 % 32)

-- what masks the one byte of a number, by what is sealed behind it
abbrev mask_of : List ℕ → ℕ
mask_of sealed = slice_index (drop 1 (take 16 (drop 3 sealed))) 0

-- a datagram to the server's first id shows a first byte which is that of a number in one byte, and
-- not in more, and behind the id the byte that masks it
record ShowsZero (d : List ℕ) (mask : ℕ) : Type 0 where
  to : destination d ≡ server_id
  first : slice_index d 0 ≡ 0x48
  two : first_of 2 (drop 11 d) ≡ 0x49
  three : first_of 3 (drop 12 d) ≡ 0x4a
  four : first_of 4 (drop 13 d) ≡ 0x4b
  hidden : slice_index d 9 ≡ mask
  masks : mask_of (drop 10 d) ≡ mask

-- a choice among four widths
widths : (a b c : Bool) (w : ℕ) → (if a then 1 else (if b then 2 else (if c then 3 else 4))) ≡ w → ((a ≡ true) × (w ≡ 1)) ⊎ ((w ≡ 2) ⊎ ((w ≡ 3) ⊎ (w ≡ 4)))
widths true b c w e = inl (refl, sym e)
widths false true c w e = inr (inl (sym e))
widths false false true w e = inr (inr (inl (sym e)))
widths false false false w e = inr (inr (inr (sym e)))

module _ (d : List ℕ) (mask : ℕ) (shows : ShowsZero d mask) where
  -- the datagram is that of a number in so many bytes, before a payload
  IsOfWidth : ℕ → ℕ → List ℕ → Type 0
  IsOfWidth w n payload = d ≡ datagram_of worked_policies.client.header worked_policies.client.packet n (first_byte w) server_id (number_bytes (in_width w n)) payload

  -- the first byte denies two bytes, three and four
  not_two : (n : ℕ) (payload : List ℕ) → IsOfWidth 2 n payload → ⊥
  unfolding IsOfWidth
  not_two n payload e =
      let tail : drop 11 d ≡ marked 0x63 n [] payload = ap (λ (x : List ℕ). drop 11 x) e in
      let first : slice_index d 0 ≡ first_of 2 (marked 0x63 n [] payload) = ap (λ (x : List ℕ). slice_index x 0) e in
      let differs : ◌≡◌ {A = ℕ} 0x48 0x49 = sym shows.first ∙ first ∙ ap (λ (b : List ℕ). first_of 2 b) (sym tail) ∙ shows.two in
      omega arith

  not_three : (n : ℕ) (payload : List ℕ) → IsOfWidth 3 n payload → ⊥
  unfolding IsOfWidth
  not_three n payload e =
      let tail : drop 12 d ≡ marked 0x63 n [] payload = ap (λ (x : List ℕ). drop 12 x) e in
      let first : slice_index d 0 ≡ first_of 3 (marked 0x63 n [] payload) = ap (λ (x : List ℕ). slice_index x 0) e in
      let differs : ◌≡◌ {A = ℕ} 0x48 0x4a = sym shows.first ∙ first ∙ ap (λ (b : List ℕ). first_of 3 b) (sym tail) ∙ shows.three in
      omega arith

  not_four : (n : ℕ) (payload : List ℕ) → IsOfWidth 4 n payload → ⊥
  unfolding IsOfWidth
  not_four n payload e =
      let tail : drop 13 d ≡ marked 0x63 n [] payload = ap (λ (x : List ℕ). drop 13 x) e in
      let first : slice_index d 0 ≡ first_of 4 (marked 0x63 n [] payload) = ap (λ (x : List ℕ). slice_index x 0) e in
      let differs : ◌≡◌ {A = ℕ} 0x48 0x4b = sym shows.first ∙ first ∙ ap (λ (b : List ℕ). first_of 4 b) (sym tail) ∙ shows.four in
      omega arith

  -- the one byte is its mask, so the number is 0
  one_byte : (n : ℕ) (payload : List ℕ) → n < 128 → IsOfWidth 1 n payload → n ≡ 0
  unfolding IsOfWidth
  one_byte n payload small e =
      let byte = slice_index (number_bytes (in_width 1 n)) 0 in
      let tail : drop 10 d ≡ marked 0x63 n [] payload = ap (λ (x : List ℕ). drop 10 x) e in
      let hidden : slice_index d 9 ≡ bit_xor byte (mask_of (marked 0x63 n [] payload)) = ap (λ (x : List ℕ). slice_index x 9) e in
      let masked : mask ≡ bit_xor byte mask = sym shows.hidden ∙ hidden ∙ ap (λ (b : List ℕ). bit_xor byte (mask_of b)) (sym tail) ∙ ap (λ (m : ℕ). bit_xor byte m) shows.masks in
      let none : byte ≡ 0 = sym (xor_twice byte mask) ∙ ap (λ (m : ℕ). bit_xor m mask) (sym masked) ∙ xor_self mask in
      omega (arith, none, small)

  -- whichever width it has, the number is 0
  by_width : (n w : ℕ) (payload : List ℕ) → ((nat_lt (2 * (n - 0)) 256 ≡ true) × (w ≡ 1)) ⊎ ((w ≡ 2) ⊎ ((w ≡ 3) ⊎ (w ≡ 4))) → IsOfWidth w n payload → n ≡ 0
  by_width n w payload (inl p) e =
      let below : 2 * (n - 0) < 256 = ltb-true _ _ p.0 in
      one_byte n payload (omega (arith, below)) (subst (λ (v : ℕ). IsOfWidth v n payload) p.1 e)
  by_width n w payload (inr (inl p)) e = absurd (not_two n payload (subst (λ (v : ℕ). IsOfWidth v n payload) p e))
  by_width n w payload (inr (inr (inl p))) e = absurd (not_three n payload (subst (λ (v : ℕ). IsOfWidth v n payload) p e))
  by_width n w payload (inr (inr (inr p))) e = absurd (not_four n payload (subst (λ (v : ℕ). IsOfWidth v n payload) p e))

  -- the datagram has no other
  only_zero : (n : ℕ) → IsNumbered worked_policies.client 0 n d → n ≡ 0
  unfolding IsOfWidth
  only_zero n is =
      let there : IsDatagram worked_policies.client 0 n server_id is.frames d = subst (λ (id : List ℕ). IsDatagram worked_policies.client 0 n id is.frames d) shows.to is.is in
      by_width n (width_for (n - 0)) there.payload (widths (nat_lt (2 * (n - 0)) 256) (nat_lt (2 * (n - 0)) 65536) (nat_lt (2 * (n - 0)) 16777216) (width_for (n - 0)) refl) there.is

pub only_number : (n : ℕ) → IsNumbered worked_policies.client 0 n hello_datagram → n ≡ 0
only_number = only_zero hello_datagram 0 (record { to = refl; first = refl; two = refl; three = refl; four = refl; hidden = refl; masks = refl })

pub only_word : (n : ℕ) → IsNumbered worked_policies.client 0 n (client_datagram 0 0 hello_payload) → n ≡ 0
only_word = only_zero (client_datagram 0 0 hello_payload) 0x65 (record { to = refl; first = refl; two = refl; three = refl; four = refl; hidden = refl; masks = refl })
