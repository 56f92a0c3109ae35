-- Tables of tracked packets whose numbers rise: what filters, changed records, packets that are
-- forgotten and one more behind them leave.
use Rattle.std.proofs.Common.{◌≡◌, ℕ, ◌+◌, ◌<◌, ◌≤◌, Bool, true, false, ◌||◌, ◌&&◌, [], ◌∷◌, ◌++◌, filter, map, cond, Some, refl, sym, ap, ◌∙◌, subst, inl, inr, arith}
use Rattle.std.specs.Prelude.{nat_lt}
use Rattle.std.specs.Option.{is_some}
use Rattle.std.specs.Ordering.{nat_cmp, match_ordering}
use Rattle.std.specs.declared.cmp.Ordering.{Ordering}
use Rattle.std.specs.declared.cmp.Ordering.TheVariants.{Less, Equal, Greater}
use Rattle.std.specs.Cmp.{unsigned_tied}
use Rattle.std.specs.BTreeMap.{is_at}
use Rattle.std.specs.Map.{set_value, remove_entry}
use Rattle.std.proofs.lemmas.Bool.{eqb-true}
use Rattle.std.proofs.lemmas.Cmp.{ranked}
use Rattle.quic_streams_parts.specs.Table.{Table, added}
use Rattle.quic_machine.specs.Tracking.{TrackedPacket, asks_any, oldest, least_of, overdue}
use Rattle.quic_headline.specs.Runs.{In}

-- ---- numbers that rise

-- the numbers of packets rise from one on, and lie below another
abbrev pub Lies : ℕ → ℕ → Table TrackedPacket → Type 0
Lies low high [] = low ≤ high
Lies low high (p ∷ ps) = (low ≤ p.0) × Lies (p.0 + 1) high ps

-- from a lower one on, too
pub lies_from : (low from high : ℕ) (ps : Table TrackedPacket) → low ≤ from → Lies from high ps → Lies low high ps
lies_from low from high [] less lies = omega arith
lies_from low from high (p ∷ ps) less lies = let first = lies.0 in (omega arith, lies.1)

-- the one bound isn't above the other
pub lies_over : (low high : ℕ) (ps : Table TrackedPacket) → Lies low high ps → low ≤ high
lies_over low high [] lies = lies
lies_over low high (p ∷ ps) lies =
    let first = lies.0 in
    let others = lies_over (p.0 + 1) high ps lies.1 in
    omega arith

-- each number lies between both
pub lies_above : (low high : ℕ) (ps : Table TrackedPacket) → Lies low high ps → (p : ℕ × TrackedPacket) → In p ps → low ≤ p.0
lies_above low high [] lies q i = absurd i
lies_above low high (p ∷ ps) lies q (inl is) = subst (λ (x : ℕ × TrackedPacket). low ≤ x.0) (sym is) lies.0
lies_above low high (p ∷ ps) lies q (inr i) =
    let first = lies.0 in
    let later = lies_above (p.0 + 1) high ps lies.1 q i in
    omega arith

pub lies_below : (low high : ℕ) (ps : Table TrackedPacket) → Lies low high ps → (p : ℕ × TrackedPacket) → In p ps → p.0 < high
lies_below low high [] lies q i = absurd i
lies_below low high (p ∷ ps) lies q (inl is) = let others = lies_over (p.0 + 1) high ps lies.1 in subst (λ (x : ℕ × TrackedPacket). x.0 < high) (sym is) (omega arith)
lies_below low high (p ∷ ps) lies q (inr i) = lies_below (p.0 + 1) high ps lies.1 q i

-- two of one number are one
pub one_key : (low high : ℕ) (ps : Table TrackedPacket) → Lies low high ps → (p q : ℕ × TrackedPacket) → In p ps → In q ps → p.0 ≡ q.0 → p ≡ q
one_key low high [] lies p q i j same = absurd i
one_key low high (x ∷ ps) lies p q (inl i) (inl j) same = i ∙ sym j
one_key low high (x ∷ ps) lies p q (inl i) (inr j) same =
    let later = lies_above (x.0 + 1) high ps lies.1 q j in
    let here : p.0 ≡ x.0 = ap (λ (y : ℕ × TrackedPacket). y.0) i in
    absurd (omega arith)
one_key low high (x ∷ ps) lies p q (inr i) (inl j) same =
    let later = lies_above (x.0 + 1) high ps lies.1 p i in
    let here : q.0 ≡ x.0 = ap (λ (y : ℕ × TrackedPacket). y.0) j in
    absurd (omega arith)
one_key low high (x ∷ ps) lies p q (inr i) (inr j) same = one_key (x.0 + 1) high ps lies.1 p q i j same

-- those that are chosen rise too
pub lies_filter : (f : ℕ × TrackedPacket → Bool) (low high : ℕ) (ps : Table TrackedPacket) → Lies low high ps → Lies low high (filter f ps)
lies_filter f low high [] lies = lies
lies_filter f low high (p ∷ ps) lies = go (f p) (lies_filter f (p.0 + 1) high ps lies.1)
  where
    go : (b : Bool) → Lies (p.0 + 1) high (filter f ps) → Lies low high (cond b (p ∷ filter f ps) (filter f ps))
    go true rest = (lies.0, rest)
    go false rest = let first = lies.0 in lies_from low (p.0 + 1) high (filter f ps) (omega arith) rest

-- so do those of which one is taken out
pub lies_remove : (test : ℕ → Bool) (low high : ℕ) (ps : Table TrackedPacket) → Lies low high ps → Lies low high (remove_entry test ps)
lies_remove test low high [] lies = lies
lies_remove test low high (p ∷ ps) lies = go (test p.0) (lies_remove test (p.0 + 1) high ps lies.1)
  where
    go : (b : Bool) → Lies (p.0 + 1) high (remove_entry test ps) → Lies low high (cond b ps (p ∷ remove_entry test ps))
    go true rest = let first = lies.0 in lies_from low (p.0 + 1) high ps (omega arith) lies.1
    go false rest = (lies.0, rest)

-- and those of which one changed
pub lies_put : (test : ℕ → Bool) (v : TrackedPacket) (low high : ℕ) (ps : Table TrackedPacket) → Lies low high ps → Lies low high (set_value test ps v)
lies_put test v low high [] lies = lies
lies_put test v low high (p ∷ ps) lies = go (test p.0) (lies_put test v (p.0 + 1) high ps lies.1)
  where
    go : (b : Bool) → Lies (p.0 + 1) high (set_value test ps v) → Lies low high (cond b ((p.0, v) ∷ ps) (p ∷ set_value test ps v))
    go true rest = lies
    go false rest = (lies.0, rest)

-- one more above all goes behind them
pub added_last : (low high : ℕ) (ps : Table TrackedPacket) (n : ℕ) (v : TrackedPacket) → Lies low high ps → high ≤ n → added ps n v ≡ ps ++ (n, v) ∷ []
added_last low high [] n v lies above = refl
added_last low high (p ∷ ps) n v lies above = go (nat_cmp n p.0) refl (added_last (p.0 + 1) high ps n v lies.1 above)
  where
    lower : p.0 < n
    lower = let others = lies_over (p.0 + 1) high ps lies.1 in omega arith

    go : (r : Ordering) → nat_cmp n p.0 ≡ r → added ps n v ≡ ps ++ (n, v) ∷ [] → match_ordering r ((n, v) ∷ p ∷ ps) ((p.0, v) ∷ ps) (p ∷ added ps n v) ≡ p ∷ (ps ++ (n, v) ∷ [])
    go Less is rest = (let order = ranked n p.0 Less (sym is) in let l = lower in absurd (omega arith))
    go Equal is rest = (let order = ranked n p.0 Equal (sym is) in let l = lower in absurd (omega arith))
    go Greater is rest = ap (λ (xs : Table TrackedPacket). p ∷ xs) rest

-- and then they lie below the next
pub lies_push : (low high : ℕ) (ps : Table TrackedPacket) (n : ℕ) (v : TrackedPacket) → Lies low high ps → high ≤ n → Lies low (n + 1) (ps ++ (n, v) ∷ [])
lies_push low high [] n v lies above = (omega arith, omega arith)
lies_push low high (p ∷ ps) n v lies above = (lies.0, lies_push (p.0 + 1) high ps n v lies.1 above)

-- ---- what is among them

-- what stays where one is taken out was among them
pub in_remove : (test : ℕ → Bool) (q : ℕ × TrackedPacket) (ps : Table TrackedPacket) → In q (remove_entry test ps) → In q ps
in_remove test q [] i = i
in_remove test q (p ∷ ps) i = go (test p.0) i (in_remove test q ps)
  where
    go : (b : Bool) → In q (cond b ps (p ∷ remove_entry test ps)) → (In q (remove_entry test ps) → In q ps) → In q (p ∷ ps)
    go true j later = inr j
    go false (inl is) later = inl is
    go false (inr j) later = inr (later j)

-- the first of some is among them
pub oldest_in : (ps : Table TrackedPacket) (p : ℕ × TrackedPacket) → oldest ps ≡ Some p → In p ps
oldest_in [] p is = cc
oldest_in (q ∷ ps) p is = (let same : q ≡ p = cc in inl (sym same))

-- ---- which of them ask

-- one more behind them
pub asks_last : (ps : Table TrackedPacket) (p : ℕ × TrackedPacket) → asks_any (ps ++ p ∷ []) ≡ (asks_any ps || p.1.asks)
asks_last [] p = go p.1.asks
  where
    go : (b : Bool) → (b || false) ≡ b
    go true = refl
    go false = refl
asks_last (q ∷ ps) p = go q.1.asks (asks_last ps p)
  where
    go : (b : Bool) → asks_any (ps ++ p ∷ []) ≡ (asks_any ps || p.1.asks) → (b || asks_any (ps ++ p ∷ [])) ≡ ((b || asks_any ps) || p.1.asks)
    go true rest = refl
    go false rest = rest

-- one that doesn't ask is taken out
pub asks_remove : (test : ℕ → Bool) (ps : Table TrackedPacket) → ((p : ℕ × TrackedPacket) → In p ps → test p.0 ≡ true → p.1.asks ≡ false) → asks_any (remove_entry test ps) ≡ asks_any ps
asks_remove test [] none = refl
asks_remove test (p ∷ ps) none = go (test p.0) refl (asks_remove test ps (λ q i. none q (inr i)))
  where
    go : (b : Bool) → test p.0 ≡ b → asks_any (remove_entry test ps) ≡ asks_any ps → asks_any (cond b ps (p ∷ remove_entry test ps)) ≡ (p.1.asks || asks_any ps)
    go true is rest = ap (λ (a : Bool). a || asks_any ps) (sym (none p (inl refl) is))
    go false is rest = ap (λ (a : Bool). p.1.asks || a) rest

-- one changes that asks as before
pub asks_put : (test : ℕ → Bool) (v : TrackedPacket) (ps : Table TrackedPacket) → ((p : ℕ × TrackedPacket) → In p ps → test p.0 ≡ true → p.1.asks ≡ v.asks) → asks_any (set_value test ps v) ≡ asks_any ps
asks_put test v [] same = refl
asks_put test v (p ∷ ps) same = go (test p.0) refl (asks_put test v ps (λ q i. same q (inr i)))
  where
    go : (b : Bool) → test p.0 ≡ b → asks_any (set_value test ps v) ≡ asks_any ps → asks_any (cond b ((p.0, v) ∷ ps) (p ∷ set_value test ps v)) ≡ (p.1.asks || asks_any ps)
    go true is rest = ap (λ (a : Bool). a || asks_any ps) (sym (same p (inl refl) is))
    go false is rest = ap (λ (a : Bool). p.1.asks || a) rest

-- where one may be lost by time, one asks
pub late_asks : (greatest delay : ℕ) (f : ℕ × TrackedPacket → ℕ) (ps : Table TrackedPacket) → is_some (least_of (map f (overdue greatest ps))) ≡ true → asks_any ps ≡ true
late_asks greatest delay f [] is = is
late_asks greatest delay f (p ∷ ps) is = go (nat_lt p.0 greatest) p.1.asks is (late_asks greatest delay f ps)
  where
    go : (a b : Bool) → is_some (least_of (map f (cond (a && b) (p ∷ overdue greatest ps) (overdue greatest ps)))) ≡ true → (is_some (least_of (map f (overdue greatest ps))) ≡ true → asks_any ps ≡ true) → (b || asks_any ps) ≡ true
    go a true at later = refl
    go true false at later = later at
    go false false at later = later at

-- a number is the one that a place is sought for
pub is_at_same : (n m : ℕ) → is_at (nat_cmp n) m ≡ true → n ≡ m
is_at_same n m is = eqb-true n m (sym (unsigned_tied n m) ∙ is)
