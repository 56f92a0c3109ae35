-- Ids of connections: at most 20 bytes, kept in twenty with zeros behind them (RFC 9000, section
-- 17.2).
use Rattle.std.specs.Prelude.{◌≡◌, ◌↔◌, ℕ, ◌-◌, ◌≤◌, ◌/◌, ◌%◌, List, [], ◌∷◌, ◌++◌, length, take, Bool, true, false, nat_eq}
use Rattle.std.specs.declared.cmp.Ordering.{Ordering}
use Rattle.std.specs.declared.cmp.Ordering.TheVariants.{Less, Equal, Greater}
use Rattle.std.specs.List.{flat_map}
use Rattle.std.specs.Fmt.{digit_glyph}
use Rattle.std.specs.Ordering.{nat_cmp, then_cmp, on, eq_by_cmp, is_eq}
use Rattle.std.specs.Cmp.{IsTotalOrder, both_tied}
use Rattle.std.specs.Cmp.Lexicographic.{pointwise, slice_cmp, texts_ties, as_long, bytes_decides}
use Rattle.std.proofs.Common.{sym, ap, arith, ◌∙◌, ◌&&◌, refl}
use Rattle.std.proofs.lemmas.Cmp.{then_total, on_total, nat_cmp_total, nat_list_cmp_total, tied_itself}
use Rattle.std.proofs.Math.ListN.{replicate}
use Rattle.std.proofs.lemmas.List.{length-take}
use Rattle.quic_wire_core.specs.declared.shared.ConnectionId.TheInside.{Inside}

-- The bytes of the id.
abbrev pub id_view : Inside → List ℕ
id_view c = take c.len c.bytes

-- Twenty bytes: those of the id, and zeros behind them.
pub record IsPadded (c : Inside) : Type 0 where
  pub short : c.len ≤ 20
  pub whole : length c.bytes ≡ 20
  pub zeros : c.bytes ≡ take c.len c.bytes ++ replicate (20 - c.len) 0

-- The fields of the id with these bytes.
abbrev pub id_fields : List ℕ → Inside
id_fields bytes = record { len = length bytes; bytes = bytes ++ replicate (20 - length bytes) 0 }

-- the fields are told by the bytes
pub id_fields_view : (c : Inside) → IsPadded c → id_fields (id_view c) ≡ c
id_fields_view c h =
    let short = h.short in
    let whole = h.whole in
    let len : length (take c.len c.bytes) ≡ c.len = omega (arith, length-take c.len c.bytes) in
    let fields : ℕ → List ℕ → Inside = λ n b. record { len = n; bytes = b } in
    rw len (ap (λ (b : List ℕ). fields c.len b) (sym h.zeros))

-- How ids compare: by length, and ids of one length by their bytes in order.
abbrev pub id_cmp : List ℕ → List ℕ → Ordering
id_cmp = then_cmp (on length nat_cmp) (slice_cmp nat_cmp)

-- that is a total order
pub id_cmp_total : IsTotalOrder id_cmp
id_cmp_total = then_total (on_total length nat_cmp_total) nat_list_cmp_total

-- a test that holds wherever another does may stand before it
absorbed : (s t : Bool) → (t ≡ true → s ≡ true) → t ≡ (s && t)
absorbed true t h = refl
absorbed false true h = absurd (let e = h refl in cc)
absorbed false false h = refl

-- lists of one length are tied by length
long_ties : (a b : List ℕ) → length a ≡ length b → is_eq (nat_cmp (length a) (length b)) ≡ true
long_ties a b e = rw e (ap is_eq (tied_itself nat_cmp_total (length b)))

-- ids are equal exactly where their order does not tell them apart
pub id_ties : (a b : List ℕ) → pointwise nat_eq a b ≡ eq_by_cmp id_cmp a b
id_ties a b =
    absorbed (is_eq (nat_cmp (length a) (length b))) (pointwise nat_eq a b) (λ e. long_ties a b (as_long nat_eq a b e))
    ∙ both_tied _ _ (nat_cmp (length a) (length b)) (slice_cmp nat_cmp a b) refl (texts_ties a b)

-- the order that says equal
equal_told : (o : Ordering) → is_eq o ≡ true → o ≡ Equal
equal_told Less e = absurd cc
equal_told Equal e = refl
equal_told Greater e = absurd cc

-- The order calls two ids equal exactly where they are.
pub id_cmp_equal : (a b : List ℕ) → (id_cmp a b ≡ Equal) ↔ (a ≡ b)
id_cmp_equal a b = (λ e. (bytes_decides a b).0 (id_ties a b ∙ ap is_eq e), λ e. equal_told (id_cmp a b) (sym (id_ties a b) ∙ (bytes_decides a b).1 e))

-- Two hexadecimal digits of a byte, in lower case.
abbrev pub hex_byte_text : ℕ → List ℕ
hex_byte_text b = digit_glyph false (b / 16) ∷ digit_glyph false (b % 16) ∷ []

-- What is printed of an id: two hexadecimal digits a byte.
abbrev pub hex_text : List ℕ → List ℕ
hex_text bytes = flat_map hex_byte_text bytes
