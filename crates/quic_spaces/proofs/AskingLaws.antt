-- Whether a packet asks for an acknowledgement that an ACK frame names.
use Rattle.std.proofs.Common.{◌≡◌, ℕ, ◌-◌, ◌≤◌, ◌<◌, Bool, true, false, ◌&&◌, ◌||◌, nat_lt, nat_le, cond, List, [], ◌∷◌, filter, Some, None, refl, sym, ap, ◌∙◌, arith}
use Rattle.std.specs.Option.{option_map}
use Rattle.std.specs.BTreeMap.{is_at}
use Rattle.std.specs.Ordering.{nat_cmp}
use Rattle.std.specs.Cmp.{unsigned_tied}
use Rattle.std.proofs.lemmas.Bool.{leb-true, ltb-true, ltb-false, le-leb, lt-leb, le-ltb, eqb-true, and_parts}
use Rattle.std.proofs.lemmas.List.Elements.{filter_agree}
use Rattle.std.proofs.lemmas.List.Folds.{list_any-append}
use Rattle.quic_streams_parts.specs.Table.{Table, without}
use Rattle.quic_sent_packets.specs.Packets.{TrackedPacket, Ascends, asks_any, newest, within}
use Rattle.quic_spaces.specs.Named.{asks_if, asks_at, is_among, among}
use Rattle.quic_spaces.proofs.NamedLaws.{is_before, last_before, has_last}

-- ---- the ranges of the frame

-- what one packet adds to whether a packet of two sorts asks
adds_both : (a p q r : Bool) → p ≡ (q || r) → (a || p) ≡ ((a || q) || (a || r))
adds_both true p q r e = refl
adds_both false p q r e = e

adds_first : (a p q r : Bool) → p ≡ (q || r) → (a || p) ≡ ((a || q) || r)
adds_first true p q r e = refl
adds_first false p q r e = e

adds_second : (a p q r : Bool) → p ≡ (q || r) → (a || p) ≡ (q || (a || r))
adds_second true p true r e = refl
adds_second true p false r e = refl
adds_second false p q r e = e

first_or_others : (low high : ℕ) (rs : List (ℕ × ℕ)) (es : Table TrackedPacket) → asks_any (among ((low, high) ∷ rs) es) ≡ (asks_any (within low high es) || asks_any (among rs es))
first_or_others low high rs [] = refl
first_or_others low high rs (x ∷ es) = go (nat_le low x.0 && nat_le x.0 high) (is_among rs x.0) (first_or_others low high rs es)
  where
    go : (b d : Bool) → asks_any (among ((low, high) ∷ rs) es) ≡ (asks_any (within low high es) || asks_any (among rs es))
        → asks_any (cond (b || d) (x ∷ among ((low, high) ∷ rs) es) (among ((low, high) ∷ rs) es)) ≡ (asks_any (cond b (x ∷ within low high es) (within low high es)) || asks_any (cond d (x ∷ among rs es) (among rs es)))
    go true true ih = adds_both x.1.asks _ (asks_any (within low high es)) (asks_any (among rs es)) ih
    go true false ih = adds_first x.1.asks _ (asks_any (within low high es)) (asks_any (among rs es)) ih
    go false true ih = adds_second x.1.asks _ (asks_any (within low high es)) (asks_any (among rs es)) ih
    go false false ih = ih

-- a packet of the first range asks, or one of the others
pub asks_first : (low high : ℕ) (rs all : List (ℕ × ℕ)) (es : Table TrackedPacket) → all ≡ (low, high) ∷ rs → asks_any (among all es) ≡ (asks_any (within low high es) || asks_any (among rs es))
asks_first low high rs all es e = ap (λ (l : List (ℕ × ℕ)). asks_any (among l es)) e ∙ first_or_others low high rs es

-- ---- the last packet of a range

-- the packets whose numbers lie from one on and below another
abbrev before : ℕ → ℕ → Table TrackedPacket → Table TrackedPacket
before low n es = filter (λ p. is_before low n p.0) es

-- it lies there, and asks, or one before it does
pub record LastAsks (low high : ℕ) (es : Table TrackedPacket) (n : ℕ) : Type 0 where
  pub above : low ≤ n
  pub below : n ≤ high
  pub asks : asks_any (within low high es) ≡ (asks_any (before low n es) || asks_at es n)

-- without a packet the others are the same
unkept : (test : ℕ → Bool) (n : ℕ) (es : Table TrackedPacket) → test n ≡ false → filter (λ e. test e.0) (without es n) ≡ filter (λ e. test e.0) es
unkept test n [] fails = refl
unkept test n (x ∷ es) fails = go (is_at (nat_cmp n) x.0) refl (unkept test n es fails)
  where
    go : (b : Bool) → is_at (nat_cmp n) x.0 ≡ b → filter (λ e. test e.0) (without es n) ≡ filter (λ e. test e.0) es
        → filter (λ e. test e.0) (cond b es (x ∷ without es n)) ≡ cond (test x.0) (x ∷ filter (λ e. test e.0) es) (filter (λ e. test e.0) es)
    go true is ih =
        let same : n ≡ x.0 = eqb-true n x.0 (sym (unsigned_tied n x.0) ∙ is) in
        let apart : test x.0 ≡ false = sym (ap test same) ∙ fails in
        rw apart refl
    go false is ih = ap (λ (l : Table TrackedPacket). cond (test x.0) (x ∷ l) l) ih

is_apart : (low n : ℕ) → is_before low n n ≡ false
is_apart low n = go (nat_le low n) (le-ltb n n (omega arith))
  where
    go : (b : Bool) → nat_lt n n ≡ false → (b && nat_lt n n) ≡ false
    go true past = past
    go false past = refl

with_last : (b c : Bool) → (b || (c || false)) ≡ (b || c)
with_last b true = refl
with_last b false = refl

pub last_asks : (low high n : ℕ) (es : Table TrackedPacket) → Ascends es → Some n ≡ option_map (λ p. p.0) (newest (within low high es)) → LastAsks low high es n
last_asks low high n es up last =
    let found = has_last (within low high es) n (sym last) in
    let t = last_before low high es found.0 n found.1 up found.2 in
    let lies = and_parts (nat_le low n) (nat_le n high) t.1 in
    let rest : before low n es ≡ found.0 = sym (unkept (is_before low n) n es (is_apart low n)) ∙ t.2 in
    record {
      above = leb-true low n lies.0;
      below = leb-true n high lies.1;
      asks = ap asks_any found.2 ∙ list_any-append (λ p. p.1.asks) found.0 ((n, found.1) ∷ []) ∙ with_last (asks_any found.0) found.1.asks ∙ ap (λ (l : Table TrackedPacket). asks_any l || found.1.asks) (sym rest) ∙ ap (λ (b : Bool). asks_any (before low n es) || b) (sym (ap asks_if t.0));
    }

-- before the first number of a range there is none
none_at_first : (n : ℕ) (es : Table TrackedPacket) → before n n es ≡ []
none_at_first n [] = refl
none_at_first n (x ∷ es) = rw (apart (nat_le n x.0) refl) (none_at_first n es)
  where
    apart : (b : Bool) → nat_le n x.0 ≡ b → (nat_le n x.0 && nat_lt x.0 n) ≡ false
    apart true is = let past : nat_lt x.0 n ≡ false = le-ltb x.0 n (leb-true n x.0 is) in rw (is, past) refl
    apart false is = rw is refl

-- what lies before a number lies up to the one below it
up_to_below : (n k : ℕ) → 0 < n → nat_lt k n ≡ nat_le k (n - 1)
up_to_below n k some = go (nat_lt k n) refl
  where
    go : (b : Bool) → nat_lt k n ≡ b → b ≡ nat_le k (n - 1)
    go true is = let l : k < n = ltb-true k n is in sym (le-leb k (n - 1) (omega (arith, l, some)))
    go false is = let l : n ≤ k = ltb-false k n is in sym (lt-leb k (n - 1) (omega (arith, l, some)))

before_is_within : (low n : ℕ) (es : Table TrackedPacket) → 0 < n → before low n es ≡ within low (n - 1) es
before_is_within low n es some =
    filter_agree (λ p. is_before low n p.0) (λ p. nat_le low p.0 && nat_le p.0 (n - 1)) (λ (p : ℕ × TrackedPacket). ap (λ (b : Bool). nat_le low p.0 && b) (up_to_below n p.0 some)) es

or_that : (b c : Bool) → c ≡ true → (b || c) ≡ true
or_that true c e = refl
or_that false c e = e

or_none : (b c : Bool) → c ≡ false → (b || c) ≡ b
or_none true c e = refl
or_none false c e = e

-- it asks
pub asks_last : (low high n : ℕ) (es : Table TrackedPacket) → LastAsks low high es n → asks_at es n ≡ true → asks_any (within low high es) ≡ true
asks_last low high n es s asks = s.asks ∙ or_that (asks_any (before low n es)) (asks_at es n) asks

-- it doesn't, and is the first too
pub asks_none : (low high n : ℕ) (es : Table TrackedPacket) → LastAsks low high es n → asks_at es n ≡ false → n ≡ low → asks_any (within low high es) ≡ false
asks_none low high n es s silent first =
    let none : before low n es ≡ [] = ap (λ (l : ℕ). before l n es) (sym first) ∙ none_at_first n es in
    s.asks ∙ or_none (asks_any (before low n es)) (asks_at es n) silent ∙ ap asks_any none

-- it doesn't, and others may lie before it
pub asks_before : (low high n : ℕ) (es : Table TrackedPacket) → LastAsks low high es n → asks_at es n ≡ false → 0 < n → asks_any (within low high es) ≡ asks_any (within low (n - 1) es)
asks_before low high n es s silent some = s.asks ∙ or_none (asks_any (before low n es)) (asks_at es n) silent ∙ ap asks_any (before_is_within low n es some)

-- there is none
pub asks_nowhere : (ps : Table TrackedPacket) → None ≡ option_map (λ p. p.0) (newest ps) → asks_any ps ≡ false
asks_nowhere [] e = refl
asks_nowhere (p ∷ ps) e = absurd cc
