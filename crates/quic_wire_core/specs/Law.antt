-- The two directions of the spelling of variable-length integers: what was written is read again,
-- and what is read was spelled so.
use Rattle.std.proofs.Common.{◌≡◌, ℕ, suc, ◌+◌, ◌*◌, ◌/◌, ◌%◌, ◌-◌, ◌^◌, ◌<◌, ◌≤◌, List, [], ◌∷◌, ◌++◌, length, get_or, take, drop, Option, Some, None, Bool, true, false, cond, ltb, eqb, refl, sym, ap, ◌∙◌, inl, inr, ◌⊎◌, arith}
use Rattle.std.specs.Int.{Width, w8, w16, w32, w64, byte_len, from_be_bytes, to_be_bytes}
use Rattle.std.proofs.lemmas.Bool.{cases_lt, ltb-false, le-ltb, lt-ltb, eqb-true, eqb-false}
use Rattle.std.proofs.lemmas.List.{take_at, drop_at, take-append-drop, length-append, length-take, get_or-take, get_or_past}
use Rattle.std.proofs.lemmas.Nat.{from_be_bytes-to_be_bytes_2, from_be_bytes-to_be_bytes_4, from_be_bytes-to_be_bytes_8, be_bytes_2, be_bytes_4, be_bytes_8}
use Rattle.quic_wire_core.specs.Coding.{IsBytes, fixed_at, BeginsWith}
use Rattle.quic_wire_core.specs.Varint.{varint_at, wide_at, shortest, varint_size, Spells, Begins}

-- the number of a width is read again
wide_again : (w : Width) (n : ℕ) (rest : List ℕ) → length (to_be_bytes w n) ≡ byte_len w → from_be_bytes w (to_be_bytes w n) ≡ n → wide_at w (to_be_bytes w n ++ rest) ≡ Some (n % 2 ^ (8 * byte_len w - 2), rest)
wide_again w n rest len back =
    let long : ltb (length (to_be_bytes w n ++ rest)) (byte_len w) ≡ false = le-ltb _ _ (omega (arith, length-append (to_be_bytes w n) rest)) in
    rw (long, take_at (to_be_bytes w n) rest (byte_len w) len, drop_at (to_be_bytes w n) rest (byte_len w) len, back) refl

again_8 : (v : ℕ) (rest : List ℕ) → v < 2 ^ 6 → varint_at (v ∷ [] ++ rest) ≡ Some (v, rest)
again_8 v rest lt =
    let first : v / 64 ≡ 0 = omega arith in
    let long : ltb (suc (length rest)) 1 ≡ false = le-ltb _ _ (omega arith) in
    let same : v % 64 ≡ v = omega arith in
    rw (first, long, same) refl

again_16 : (v : ℕ) (rest : List ℕ) → v < 2 ^ 14 → varint_at (to_be_bytes w16 (2 ^ 14 + v) ++ rest) ≡ Some (v, rest)
again_16 v rest lt =
    let first : (16384 + v) / 256 % 256 / 64 ≡ 1 = omega arith in
    let same : (16384 + v) % 16384 ≡ v = omega arith in
    rw first (wide_again w16 (16384 + v) rest refl (from_be_bytes-to_be_bytes_2 (16384 + v) (omega arith)) ∙ rw same refl)

again_32 : (v : ℕ) (rest : List ℕ) → v < 2 ^ 30 → varint_at (to_be_bytes w32 (2 * 2 ^ 30 + v) ++ rest) ≡ Some (v, rest)
again_32 v rest lt =
    let first : (2147483648 + v) / 16777216 % 256 / 64 ≡ 2 = omega arith in
    let same : (2147483648 + v) % 1073741824 ≡ v = omega arith in
    rw first (wide_again w32 (2147483648 + v) rest refl (from_be_bytes-to_be_bytes_4 (2147483648 + v) (omega arith)) ∙ rw same refl)

again_64 : (v : ℕ) (rest : List ℕ) → v < 2 ^ 62 → varint_at (to_be_bytes w64 (3 * 2 ^ 62 + v) ++ rest) ≡ Some (v, rest)
again_64 v rest lt =
    let first : (13835058055282163712 + v) / 72057594037927936 % 256 / 64 ≡ 3 = omega arith in
    let same : (13835058055282163712 + v) % 4611686018427387904 ≡ v = omega arith in
    rw first (wide_again w64 (13835058055282163712 + v) rest refl (from_be_bytes-to_be_bytes_8 (13835058055282163712 + v) (omega arith)) ∙ rw same refl)

-- what is spelled so is read so, whatever follows it
pub spells_again : (v : ℕ) (bytes rest : List ℕ) → Spells v bytes → varint_at (bytes ++ rest) ≡ Some (v, rest)
spells_again v bytes rest (inl s) = rw s.1 (again_8 v rest s.0)
spells_again v bytes rest (inr (inl s)) = rw s.1 (again_16 v rest s.0)
spells_again v bytes rest (inr (inr (inl s))) = rw s.1 (again_32 v rest s.0)
spells_again v bytes rest (inr (inr (inr s))) = rw s.1 (again_64 v rest s.0)

-- the shortest form is a form
pub shortest_spells : (v : ℕ) → v < 2 ^ 62 → Spells v (shortest v)
shortest_spells v lt =
    elim (cases_lt v 64) [
      | inl a ↦ rw (lt-ltb v 64 a) (inl (a, refl))
      | inr a ↦ rw (le-ltb v 64 a) (elim (cases_lt v 16384) [
        | inl b ↦ rw (lt-ltb v 16384 b) (inr (inl (b, refl)))
        | inr b ↦ rw (le-ltb v 16384 b) (elim (cases_lt v 1073741824) [
          | inl c ↦ rw (lt-ltb v 1073741824 c) (inr (inr (inl (c, refl))))
          | inr c ↦ rw (le-ltb v 1073741824 c) (inr (inr (inr (lt, refl))))
        ])
      ])
    ]

-- what the writer writes is read again
pub shortest_again : (v : ℕ) (rest : List ℕ) → v < 2 ^ 62 → varint_at (shortest v ++ rest) ≡ Some (v, rest)
shortest_again v rest lt = spells_again v (shortest v) rest (shortest_spells v lt)

-- What is read is spelled so.

-- bytes taken from the front are bytes
pub IsBytes-take : (n : ℕ) (bytes : List ℕ) → IsBytes bytes → IsBytes (take n bytes)
IsBytes-take n bytes h i =
    elim (cases_lt i n) [
      | inl lt ↦ rw (get_or-take n bytes i 0 lt) (h i)
      | inr le ↦ rw (get_or_past (take n bytes) i 0 (omega (arith, length-take n bytes))) (omega arith)
    ]

-- which way the test went
chosen : {A : Type 0} (b : Bool) (x y z : A) → cond b x y ≡ z → ((b ≡ true) × (x ≡ z)) ⊎ ((b ≡ false) × (y ≡ z))
chosen true x y z e = inl (refl, e)
chosen false x y z e = inr (refl, e)

abbrev some : {A : Type 0} → A → Option A
some x = Some x

some_is : {A : Type 0} (x y : A) → some x ≡ some y → x ≡ y
some_is x y e = cc

-- what a read of this width took
wide_parts : (w : Width) (bytes : List ℕ) (v : ℕ) (rest : List ℕ) → wide_at w bytes ≡ Some (v, rest) → (byte_len w ≤ length bytes) × (from_be_bytes w (take (byte_len w) bytes) % 2 ^ (8 * byte_len w - 2) ≡ v) × (drop (byte_len w) bytes ≡ rest)
wide_parts w bytes v rest e =
    elim (chosen (ltb (length bytes) (byte_len w)) None (Some (from_be_bytes w (take (byte_len w) bytes) % 2 ^ (8 * byte_len w - 2), drop (byte_len w) bytes)) (Some (v, rest)) e) [
      | inl a ↦ absurd (let n = a.1 in cc)
      | inr a ↦ (let e = some_is (from_be_bytes w (take (byte_len w) bytes) % 2 ^ (8 * byte_len w - 2), drop (byte_len w) bytes) (v, rest) a.1 in (ltb-false _ _ a.0, ap (λ (p : ℕ × List ℕ). p.0) e, ap (λ (p : ℕ × List ℕ). p.1) e))
    ]

found_w16 : (bytes : List ℕ) (v : ℕ) (rest : List ℕ) → IsBytes bytes → get_or bytes 0 0 / 64 ≡ 1 → wide_at w16 bytes ≡ Some (v, rest) → Begins bytes v rest
found_w16 bytes v rest h first e =
    let p = wide_parts w16 bytes v rest e in
    let fits = IsBytes-take 2 bytes h in
    let head : get_or (take 2 bytes) 0 0 ≡ get_or bytes 0 0 = get_or-take 2 bytes 0 0 (omega arith) in
    let tagged : 1 * 2 ^ 14 + v ≡ from_be_bytes w16 (take 2 bytes) = omega (arith, p.1, head, first, fits 0, fits 1) in
    let small : v < 2 ^ 14 = omega (arith, p.1) in
    let len : length (take 2 bytes) ≡ 2 = omega (arith, length-take 2 bytes, p.0) in
    let back = be_bytes_2 (take 2 bytes) (1 * 2 ^ 14 + v) len fits tagged in
    record { front = take 2 bytes; spells = inr (inl (small, sym back)); parts = sym (take-append-drop 2 bytes) ∙ ap (λ (t : List ℕ). take 2 bytes ++ t) p.2 }

found_w32 : (bytes : List ℕ) (v : ℕ) (rest : List ℕ) → IsBytes bytes → get_or bytes 0 0 / 64 ≡ 2 → wide_at w32 bytes ≡ Some (v, rest) → Begins bytes v rest
found_w32 bytes v rest h first e =
    let p = wide_parts w32 bytes v rest e in
    let fits = IsBytes-take 4 bytes h in
    let head : get_or (take 4 bytes) 0 0 ≡ get_or bytes 0 0 = get_or-take 4 bytes 0 0 (omega arith) in
    let tagged : 2 * 2 ^ 30 + v ≡ from_be_bytes w32 (take 4 bytes) = omega (arith, p.1, head, first, fits 0, fits 1, fits 2, fits 3) in
    let small : v < 2 ^ 30 = omega (arith, p.1) in
    let len : length (take 4 bytes) ≡ 4 = omega (arith, length-take 4 bytes, p.0) in
    let back = be_bytes_4 (take 4 bytes) (2 * 2 ^ 30 + v) len fits tagged in
    record { front = take 4 bytes; spells = inr (inr (inl (small, sym back))); parts = sym (take-append-drop 4 bytes) ∙ ap (λ (t : List ℕ). take 4 bytes ++ t) p.2 }

found_w64 : (bytes : List ℕ) (v : ℕ) (rest : List ℕ) → IsBytes bytes → get_or bytes 0 0 / 64 ≡ 3 → wide_at w64 bytes ≡ Some (v, rest) → Begins bytes v rest
found_w64 bytes v rest h first e =
    let p = wide_parts w64 bytes v rest e in
    let fits = IsBytes-take 8 bytes h in
    let head : get_or (take 8 bytes) 0 0 ≡ get_or bytes 0 0 = get_or-take 8 bytes 0 0 (omega arith) in
    let tagged : 3 * 2 ^ 62 + v ≡ from_be_bytes w64 (take 8 bytes) = omega (arith, p.1, head, first, fits 0, fits 1, fits 2, fits 3, fits 4, fits 5, fits 6, fits 7) in
    let small : v < 2 ^ 62 = omega (arith, p.1) in
    let len : length (take 8 bytes) ≡ 8 = omega (arith, length-take 8 bytes, p.0) in
    let back = be_bytes_8 (take 8 bytes) (3 * 2 ^ 62 + v) len fits tagged in
    record { front = take 8 bytes; spells = inr (inr (inr ((small, sym back)))); parts = sym (take-append-drop 8 bytes) ∙ ap (λ (t : List ℕ). take 8 bytes ++ t) p.2 }

found_w8 : (bytes : List ℕ) (v : ℕ) (rest : List ℕ) → get_or bytes 0 0 / 64 ≡ 0 → wide_at w8 bytes ≡ Some (v, rest) → Begins bytes v rest
found_w8 [] v rest first e = absurd cc
found_w8 (b ∷ bytes) v rest first e =
    let p = wide_parts w8 (b ∷ bytes) v rest e in
    let same : b ≡ v = omega (arith, p.1, first) in
    let small : v < 64 = omega (arith, first, same) in
    record { front = v ∷ []; spells = inl (small, refl); parts = rw same (ap (λ (t : List ℕ). v ∷ t) p.2) }

-- what is read is spelled so
pub varint_found : (bytes : List ℕ) (v : ℕ) (rest : List ℕ) → IsBytes bytes → varint_at bytes ≡ Some (v, rest) → Begins bytes v rest
varint_found bytes v rest h e =
    let t = get_or bytes 0 0 / 64 in
    let other : Option (ℕ × List ℕ) = cond (eqb t 2) (wide_at w32 bytes) (wide_at w64 bytes) in
    elim (chosen (eqb t 0) (wide_at w8 bytes) (cond (eqb t 1) (wide_at w16 bytes) other) (Some (v, rest)) e) [
      | inl a ↦ found_w8 bytes v rest (eqb-true _ _ a.0) a.1
      | inr a ↦ elim (chosen (eqb t 1) (wide_at w16 bytes) other (Some (v, rest)) a.1) [
        | inl b ↦ found_w16 bytes v rest h (eqb-true _ _ b.0) b.1
        | inr b ↦ elim (chosen (eqb t 2) (wide_at w32 bytes) (wide_at w64 bytes) (Some (v, rest)) b.1) [
          | inl c ↦ found_w32 bytes v rest h (eqb-true _ _ c.0) c.1
          | inr c ↦ (let ne0 = eqb-false _ _ a.0 in let ne1 = eqb-false _ _ b.0 in let ne2 = eqb-false _ _ c.0 in
              found_w64 bytes v rest h (omega (arith, h 0, ne0, ne1, ne2)) c.1)
        ]
      ]
    ]

-- Numbers of a fixed width are read again.
fixed_again : (w : Width) (n : ℕ) (rest : List ℕ) → length (to_be_bytes w n) ≡ byte_len w → from_be_bytes w (to_be_bytes w n) ≡ n → fixed_at w (to_be_bytes w n ++ rest) ≡ Some (n, rest)
fixed_again w n rest len back =
    let long : ltb (length (to_be_bytes w n ++ rest)) (byte_len w) ≡ false = le-ltb _ _ (omega (arith, length-append (to_be_bytes w n) rest)) in
    rw (long, take_at (to_be_bytes w n) rest (byte_len w) len, drop_at (to_be_bytes w n) rest (byte_len w) len, back) refl

-- a byte is read again
pub fixed_again_8 : (n : ℕ) (rest : List ℕ) → n < 2 ^ 8 → fixed_at w8 (to_be_bytes w8 n ++ rest) ≡ Some (n, rest)
fixed_again_8 n rest lt =
    let same : n % 256 ≡ n = omega arith in
    fixed_again w8 n rest refl (rw same refl)

-- two bytes are read again
pub fixed_again_16 : (n : ℕ) (rest : List ℕ) → n < 2 ^ 16 → fixed_at w16 (to_be_bytes w16 n ++ rest) ≡ Some (n, rest)
fixed_again_16 n rest lt = fixed_again w16 n rest refl (from_be_bytes-to_be_bytes_2 n lt)

-- four bytes are read again
pub fixed_again_32 : (n : ℕ) (rest : List ℕ) → n < 2 ^ 32 → fixed_at w32 (to_be_bytes w32 n ++ rest) ≡ Some (n, rest)
fixed_again_32 n rest lt = fixed_again w32 n rest refl (from_be_bytes-to_be_bytes_4 n lt)

-- eight bytes are read again
pub fixed_again_64 : (n : ℕ) (rest : List ℕ) → n < 2 ^ 64 → fixed_at w64 (to_be_bytes w64 n ++ rest) ≡ Some (n, rest)
fixed_again_64 n rest lt = fixed_again w64 n rest refl (from_be_bytes-to_be_bytes_8 n lt)

-- How long the shortest form is.
pub length-shortest : (v : ℕ) → length (shortest v) ≡ varint_size v
length-shortest v =
    elim (cases_lt v 64) [
      | inl a ↦ rw (lt-ltb v 64 a) refl
      | inr a ↦ rw (le-ltb v 64 a) (elim (cases_lt v 16384) [
        | inl b ↦ rw (lt-ltb v 16384 b) refl
        | inr b ↦ rw (le-ltb v 16384 b) (elim (cases_lt v 1073741824) [
          | inl c ↦ rw (lt-ltb v 1073741824 c) refl
          | inr c ↦ rw (le-ltb v 1073741824 c) refl
        ])
      ])
    ]

-- numbers below 2 ^ 6 take one byte
size_1 : (v : ℕ) → v < 2 ^ 6 → varint_size v ≤ 1
size_1 v h = rw (lt-ltb v 64 h) (omega arith)

-- numbers below 2 ^ 14 take two at most
size_2 : (v : ℕ) → v < 2 ^ 14 → varint_size v ≤ 2
size_2 v h = elim (cases_lt v 64) [
  | inl a ↦ (let b = size_1 v a in omega arith)
  | inr a ↦ rw (le-ltb v 64 a, lt-ltb v 16384 h) (omega arith)
]

-- numbers below 2 ^ 30 take four at most
size_4 : (v : ℕ) → v < 2 ^ 30 → varint_size v ≤ 4
size_4 v h = elim (cases_lt v 16384) [
  | inl a ↦ (let b = size_2 v a in omega arith)
  | inr a ↦ (let n : 64 ≤ v = omega arith in rw (le-ltb v 64 n, le-ltb v 16384 a, lt-ltb v 1073741824 h) (omega arith))
]

-- No number takes more than eight bytes.
pub varint_size_le : (v : ℕ) → varint_size v ≤ 8
varint_size_le v = elim (cases_lt v 1073741824) [
  | inl a ↦ (let b = size_4 v a in omega arith)
  | inr a ↦ (let n : 64 ≤ v = omega arith in let m : 16384 ≤ v = omega arith in rw (le-ltb v 64 n, le-ltb v 16384 m, le-ltb v 1073741824 a) (omega arith))
]

-- Each number takes a byte.
pub varint_size_positive : (v : ℕ) → 0 < varint_size v
varint_size_positive v =
    elim (cases_lt v 64) [
      | inl a ↦ rw (lt-ltb v 64 a) (omega arith)
      | inr a ↦ rw (le-ltb v 64 a) (elim (cases_lt v 16384) [
        | inl b ↦ rw (lt-ltb v 16384 b) (omega arith)
        | inr b ↦ rw (le-ltb v 16384 b) (elim (cases_lt v 1073741824) [
          | inl c ↦ rw (lt-ltb v 1073741824 c) (omega arith)
          | inr c ↦ rw (le-ltb v 1073741824 c) (omega arith)
        ])
      ])
    ]

-- no form is shorter than the shortest
pub shortest_least : (v : ℕ) (bytes : List ℕ) → Spells v bytes → length (shortest v) ≤ length bytes
shortest_least v bytes (inl s) = rw (length-shortest v, s.1) (size_1 v s.0)
shortest_least v bytes (inr (inl s)) = rw (length-shortest v, s.1) (size_2 v s.0)
shortest_least v bytes (inr (inr (inl s))) = rw (length-shortest v, s.1) (size_4 v s.0)
shortest_least v bytes (inr (inr (inr s))) = rw (length-shortest v, s.1) (varint_size_le v)

-- No bytes are forms of two numbers.
pub spells_once : (v w : ℕ) (bytes : List ℕ) → Spells v bytes → Spells w bytes → v ≡ w
spells_once v w bytes a b =
    let one = spells_again v bytes [] a in
    let other = spells_again w bytes [] b in
    ap (λ (p : ℕ × List ℕ). p.0) (some_is (v, []) (w, []) (sym one ∙ other))

-- what a read of a fixed width took
fixed_parts : (w : Width) (bytes : List ℕ) (n : ℕ) (rest : List ℕ) → fixed_at w bytes ≡ Some (n, rest) → (byte_len w ≤ length bytes) × (from_be_bytes w (take (byte_len w) bytes) ≡ n) × (drop (byte_len w) bytes ≡ rest)
fixed_parts w bytes n rest e =
    elim (chosen (ltb (length bytes) (byte_len w)) None (Some (from_be_bytes w (take (byte_len w) bytes), drop (byte_len w) bytes)) (Some (n, rest)) e) [
      | inl a ↦ absurd (let n = a.1 in cc)
      | inr a ↦ (let e = some_is (from_be_bytes w (take (byte_len w) bytes), drop (byte_len w) bytes) (n, rest) a.1 in (ltb-false _ _ a.0, ap (λ (p : ℕ × List ℕ). p.0) e, ap (λ (p : ℕ × List ℕ). p.1) e))
    ]

-- the bytes in front are those of the number
fixed_begins : (w : Width) (bytes : List ℕ) (n : ℕ) (rest : List ℕ) → n < 2 ^ (8 * byte_len w) → to_be_bytes w n ≡ take (byte_len w) bytes → drop (byte_len w) bytes ≡ rest → BeginsWith w bytes n rest
fixed_begins w bytes n rest small front behind = (small, sym (take-append-drop (byte_len w) bytes) ∙ ap (λ (t : List ℕ). t ++ drop (byte_len w) bytes) (sym front) ∙ ap (λ (t : List ℕ). to_be_bytes w n ++ t) behind)

-- A byte that is read stands in front.
pub fixed_found_8 : (bytes : List ℕ) (n : ℕ) (rest : List ℕ) → IsBytes bytes → fixed_at w8 bytes ≡ Some (n, rest) → BeginsWith w8 bytes n rest
fixed_found_8 [] n rest h e = absurd cc
fixed_found_8 (b ∷ bytes) n rest h e =
    let p = fixed_parts w8 (b ∷ bytes) n rest e in
    let byte : b < 256 = h 0 in
    let same : b ≡ n = omega (arith, p.1) in
    let small : n < 256 = omega arith in
    let low : n % 256 ≡ n = omega arith in
    fixed_begins w8 (b ∷ bytes) n rest small (rw (low, same) refl) p.2

-- Two bytes that are read stand in front.
pub fixed_found_16 : (bytes : List ℕ) (n : ℕ) (rest : List ℕ) → IsBytes bytes → fixed_at w16 bytes ≡ Some (n, rest) → BeginsWith w16 bytes n rest
fixed_found_16 bytes n rest h e =
    let p = fixed_parts w16 bytes n rest e in
    let fits = IsBytes-take 2 bytes h in
    let small : n < 2 ^ 16 = omega (arith, p.1, fits 0, fits 1) in
    let len : length (take 2 bytes) ≡ 2 = omega (arith, length-take 2 bytes, p.0) in
    fixed_begins w16 bytes n rest small (be_bytes_2 (take 2 bytes) n len fits (sym p.1)) p.2

-- Four bytes that are read stand in front.
pub fixed_found_32 : (bytes : List ℕ) (n : ℕ) (rest : List ℕ) → IsBytes bytes → fixed_at w32 bytes ≡ Some (n, rest) → BeginsWith w32 bytes n rest
fixed_found_32 bytes n rest h e =
    let p = fixed_parts w32 bytes n rest e in
    let fits = IsBytes-take 4 bytes h in
    let small : n < 2 ^ 32 = omega (arith, p.1, fits 0, fits 1, fits 2, fits 3) in
    let len : length (take 4 bytes) ≡ 4 = omega (arith, length-take 4 bytes, p.0) in
    fixed_begins w32 bytes n rest small (be_bytes_4 (take 4 bytes) n len fits (sym p.1)) p.2

-- Eight bytes that are read stand in front.
pub fixed_found_64 : (bytes : List ℕ) (n : ℕ) (rest : List ℕ) → IsBytes bytes → fixed_at w64 bytes ≡ Some (n, rest) → BeginsWith w64 bytes n rest
fixed_found_64 bytes n rest h e =
    let p = fixed_parts w64 bytes n rest e in
    let fits = IsBytes-take 8 bytes h in
    let small : n < 2 ^ 64 = omega (arith, p.1, fits 0, fits 1, fits 2, fits 3, fits 4, fits 5, fits 6, fits 7) in
    let len : length (take 8 bytes) ≡ 8 = omega (arith, length-take 8 bytes, p.0) in
    fixed_begins w64 bytes n rest small (be_bytes_8 (take 8 bytes) n len fits (sym p.1)) p.2
