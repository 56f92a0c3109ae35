-- What an ACK frame takes out of tracked packets.
use Rattle.std.proofs.Common.{◌≡◌, ℕ, ◌-◌, ◌≤◌, ◌<◌, Bool, true, false, not, ◌&&◌, ◌||◌, nat_lt, nat_le, cond, List, [], ◌∷◌, ◌++◌, filter, reverse, Some, None, refl, sym, ap, ◌∙◌, subst, arith}
use Rattle.std.specs.Option.{option_map}
use Rattle.std.specs.List.{AllByRecursion}
use Rattle.std.specs.Map.{keys_of}
use Rattle.std.specs.BTreeMap.{is_at}
use Rattle.std.specs.Ordering.{nat_cmp}
use Rattle.std.specs.declared.cmp.Ordering.TheVariants.{Less}
use Rattle.std.specs.Cmp.{unsigned_tied, ranked}
use Rattle.std.proofs.lemmas.Bool.{lt-ltb, le-ltb, leb-true, le-leb, lt-leb, eq-eqb, ne_eqb, and_parts, and_right}
use Rattle.std.proofs.lemmas.List.{append_assoc, reverse-append}
use Rattle.std.specs.List.Sorted.{IsStrictlySortedBy}
use Rattle.std.proofs.lemmas.List.Elements.{All-head, All-tail, All-same, All-filter}
use Rattle.std.proofs.lemmas.List.Kept.{IsStrictlySortedBy-filter}
use Rattle.std.proofs.lemmas.Map.Keys.{sorted_head, sorted_tail}
use Rattle.quic_wire.specs.AckGrammar.{Below}
use Rattle.quic_streams_parts.specs.Table.{Table, at, without}
use Rattle.quic_sent_packets.specs.Packets.{TrackedPacket, Ascends, oldest, newest, newest_behind, from, is_within, within}
use Rattle.quic_spaces.proofs.Tails.{HoldsOfAll, holds_map, oldest_holds, found_above}
use Rattle.quic_spaces.specs.Named.{outside, is_among, among, apart_from, Descends}

less : (a b : ℕ) → nat_cmp a b ≡ Less → a < b
less a b e = ranked a b Less (sym e)

-- where no packet passes a test, all fail it
all_fail : (test : ℕ → Bool) (es : Table TrackedPacket) → filter (λ e. test e.0) es ≡ [] → filter (λ e. not (test e.0)) es ≡ es
all_fail test [] none = refl
all_fail test (x ∷ es) none = go (test x.0) none (all_fail test es)
  where
    go : (b : Bool) → cond b (x ∷ filter (λ e. test e.0) es) (filter (λ e. test e.0) es) ≡ [] → (filter (λ e. test e.0) es ≡ [] → filter (λ e. not (test e.0)) es ≡ es)
        → cond (not b) (x ∷ filter (λ e. not (test e.0)) es) (filter (λ e. not (test e.0)) es) ≡ x ∷ es
    go true f ih = absurd cc
    go false f ih = ap (λ l. x ∷ l) (ih f)

-- where no number lies within, all lie outside
pub all_outside : (low high : ℕ) (es : Table TrackedPacket) → within low high es ≡ [] → outside low high es ≡ es
all_outside low high es none = all_fail (is_within low high) es none

-- behind a number no packet passes a test that none above it does
none_pass : (test : ℕ → Bool) (m : ℕ) (es : Table TrackedPacket) → ((k : ℕ) → m < k → test k ≡ false) → AllByRecursion (λ y. nat_cmp m y ≡ Less) (keys_of es) → filter (λ e. test e.0) es ≡ []
none_pass test m [] fails above = refl
none_pass test m (x ∷ es) fails above = rw (fails x.0 (less m x.0 above.0)) (none_pass test m es fails above.1)

-- ---- the greatest number of a range is taken out

-- what stays and what is found, where the last packet that passes a test is taken out: a test that
-- says the same of what lies below it, and holds of nothing above it, does as well then
record TakesLast (test less : ℕ → Bool) (es rest : Table TrackedPacket) (n : ℕ) (v : TrackedPacket) : Type 0 where
  pub found : at es n ≡ Some v
  pub holds : test n ≡ true
  pub passes : filter (λ e. less e.0) (without es n) ≡ rest
  pub others : filter (λ e. not (less e.0)) (without es n) ≡ filter (λ e. not (test e.0)) es

module _ (test less : ℕ → Bool) (n : ℕ) (v : TrackedPacket) (same : test n ≡ true → (k : ℕ) → k < n → less k ≡ test k) (fails : (k : ℕ) → n < k → less k ≡ false) where
  takes_last : (es rest : Table TrackedPacket) → Ascends es → filter (λ e. test e.0) es ≡ rest ++ (n, v) ∷ [] → TakesLast test less es rest n v
  takes_last [] [] up e = absurd cc
  takes_last [] (y ∷ rest) up e = absurd cc
  takes_last (x ∷ es) rest up e = go (test x.0) refl rest e (λ left. takes_last es left (sorted_tail nat_cmp x.0 (keys_of es) up))
    where
      -- the packet stands behind the first
      behind : (left : Table TrackedPacket) → TakesLast test less es left n v → x.0 < n
      behind left t = found_above es x.0 n v (sorted_head nat_cmp x.0 (keys_of es) up) t.found

      apart : x.0 < n → is_at (nat_cmp n) x.0 ≡ false
      apart l = unsigned_tied n x.0 ∙ ne_eqb n x.0 (λ (e : n ≡ x.0). omega (arith, l))

      go : (b : Bool) → test x.0 ≡ b → (left : Table TrackedPacket) → cond b (x ∷ filter (λ e. test e.0) es) (filter (λ e. test e.0) es) ≡ left ++ (n, v) ∷ [] → ((l : Table TrackedPacket) → filter (λ e. test e.0) es ≡ l ++ (n, v) ∷ [] → TakesLast test less es l n v) → TakesLast test less (x ∷ es) left n v
      go true is [] f ih =
          let first : x ≡ (n, v) = cc in
          let number : n ≡ x.0 = sym (ap (λ (y : ℕ × TrackedPacket). y.0) first) in
          let none : filter (λ e. test e.0) es ≡ [] = cc in
          let here : is_at (nat_cmp n) x.0 ≡ true = unsigned_tied n x.0 ∙ eq-eqb n x.0 number in
          let above = sorted_head nat_cmp x.0 (keys_of es) up in
          let left : filter (λ e. less e.0) es ≡ [] = none_pass less x.0 es (λ k l. fails k (omega (arith, number, l))) above in
          record {
            found = rw here (ap (λ (y : ℕ × TrackedPacket). Some y.1) first);
            holds = ap test number ∙ is;
            passes = rw here left;
            others = rw (here, is) (all_fail less es left ∙ sym (all_fail test es none));
          }
      go true is (y ∷ left) f ih =
          let first : x ≡ y = cc in
          let more : filter (λ e. test e.0) es ≡ left ++ (n, v) ∷ [] = cc in
          let t = ih left more in
          let l = behind left t in
          let also : less x.0 ≡ true = same t.holds x.0 l ∙ is in
          record { found = rw (apart l) t.found; holds = t.holds; passes = rw (apart l, also, t.passes) (ap (λ z. z ∷ left) first); others = rw (apart l, is, also) t.others }
      go false is left f ih =
          let t = ih left f in
          let l = behind left t in
          let also : less x.0 ≡ false = same t.holds x.0 l ∙ is in
          record { found = rw (apart l) t.found; holds = t.holds; passes = rw (apart l, also) t.passes; others = rw (apart l, is, also) (ap (λ z. x ∷ z) t.others) }

-- whether a number below another lies within, where the other does, and no greater one up to the
-- number below it
below_within : (low high n : ℕ) → is_within low high n ≡ true → (k : ℕ) → k < n → is_within low (n - 1) k ≡ is_within low high k
below_within low high n holds k l =
    let top : n ≤ high = leb-true n high (and_parts (nat_le low n) (nat_le n high) holds).1 in
    let under : nat_le k (n - 1) ≡ true = le-leb k (n - 1) (omega (arith, l)) in
    let also : nat_le k high ≡ true = le-leb k high (omega (arith, l, top)) in
    rw (under, also) refl

above_without : (low n k : ℕ) → n < k → is_within low (n - 1) k ≡ false
above_without low n k l =
    let past : nat_le k (n - 1) ≡ false = lt-leb k (n - 1) (omega (arith, l)) in
    and_right (nat_le low k) (nat_le k (n - 1)) past

-- the packet with the greatest number of a range is there, and the others of the range lie below it
pub taken_last : (low high : ℕ) (es rest : Table TrackedPacket) (n : ℕ) (v : TrackedPacket) → Ascends es → within low high es ≡ rest ++ (n, v) ∷ [] → (at es n ≡ Some v) × (within low (n - 1) (without es n) ≡ rest) × (outside low (n - 1) (without es n) ≡ outside low high es)
taken_last low high es rest n v up e =
    let t = takes_last (is_within low high) (is_within low (n - 1)) n v (below_within low high n) (above_without low n) es rest up e in
    (t.found, t.passes, t.others)

-- whether a number lies from one on and below another
abbrev pub is_before : ℕ → ℕ → ℕ → Bool
is_before low n k = nat_le low k && nat_lt k n

before_within : (low high n : ℕ) → is_within low high n ≡ true → (k : ℕ) → k < n → is_before low n k ≡ is_within low high k
before_within low high n holds k l =
    let top : n ≤ high = leb-true n high (and_parts (nat_le low n) (nat_le n high) holds).1 in
    let under : nat_lt k n ≡ true = lt-ltb k n l in
    let also : nat_le k high ≡ true = le-leb k high (omega (arith, l, top)) in
    rw (under, also) refl

none_before : (low n k : ℕ) → n < k → is_before low n k ≡ false
none_before low n k l = and_right (nat_le low k) (nat_lt k n) (le-ltb k n (omega (arith, l)))

-- the packet with the greatest number of a range is there and lies within, and the others lie before
-- it
pub last_before : (low high : ℕ) (es rest : Table TrackedPacket) (n : ℕ) (v : TrackedPacket) → Ascends es → within low high es ≡ rest ++ (n, v) ∷ [] → (at es n ≡ Some v) × (is_within low high n ≡ true) × (filter (λ e. is_before low n e.0) (without es n) ≡ rest)
last_before low high es rest n v up e =
    let t = takes_last (is_within low high) (is_before low n) n v (before_within low high n) (none_before low n) es rest up e in
    (t.found, t.holds, t.passes)

-- ---- the ranges of an ACK frame, one below the other

-- a number from the end of these ranges on is in none of them
none_has : (low n : ℕ) (rs : List (ℕ × ℕ)) → Below low rs → low ≤ n → is_among rs n ≡ false
none_has low n [] below le = refl
none_has low n (r ∷ rs) below le =
    let under = below.1 in
    let start = below.0 in
    let past : nat_le n r.1 ≡ false = lt-leb n r.1 (omega arith) in
    let here : is_within r.0 r.1 n ≡ false = and_right (nat_le r.0 n) (nat_le n r.1) past in
    rw here (none_has r.0 n rs below.2 (omega arith))

-- behind such a number no packet is in them
none_among : (low m a z : ℕ) (rs : List (ℕ × ℕ)) (es : Table TrackedPacket) → Below low rs → low ≤ m → AllByRecursion (λ y. nat_cmp m y ≡ Less) (keys_of es) → among rs (outside a z es) ≡ []
none_among low m a z rs [] below le above = refl
none_among low m a z rs (x ∷ es) below le above = go (is_within a z x.0) (none_among low m a z rs es below le above.1)
  where
    go : (b : Bool) → among rs (outside a z es) ≡ [] → among rs (cond (not b) (x ∷ outside a z es) (outside a z es)) ≡ []
    go true ih = ih
    go false ih = let l = less m x.0 above.0 in rw (none_has low x.0 rs below (omega arith)) ih

-- the packets of a range stand behind those of the ranges below it
among_first : (low high : ℕ) (rs : List (ℕ × ℕ)) (es : Table TrackedPacket) → Ascends es → Below low rs → among ((low, high) ∷ rs) es ≡ among rs (outside low high es) ++ within low high es
among_first low high rs [] up below = refl
among_first low high rs (x ∷ es) up below = go (is_within low high x.0) refl (among_first low high rs es (sorted_tail nat_cmp x.0 (keys_of es) up) below)
  where
    go : (b : Bool) → is_within low high x.0 ≡ b → among ((low, high) ∷ rs) es ≡ among rs (outside low high es) ++ within low high es
        → cond (b || is_among rs x.0) (x ∷ among ((low, high) ∷ rs) es) (among ((low, high) ∷ rs) es) ≡ among rs (cond (not b) (x ∷ outside low high es) (outside low high es)) ++ cond b (x ∷ within low high es) (within low high es)
    go true is ih =
        let from = leb-true low x.0 (and_parts (nat_le low x.0) (nat_le x.0 high) is).0 in
        let none : among rs (outside low high es) ≡ [] = none_among low x.0 low high rs es below from (sorted_head nat_cmp x.0 (keys_of es) up) in
        let rest : among ((low, high) ∷ rs) es ≡ within low high es = ih ∙ ap (λ l. l ++ within low high es) none in
        rw (none, rest) refl
    go false is ih = else (is_among rs x.0) ih
      where
        else : (d : Bool) → among ((low, high) ∷ rs) es ≡ among rs (outside low high es) ++ within low high es
            → cond d (x ∷ among ((low, high) ∷ rs) es) (among ((low, high) ∷ rs) es) ≡ cond d (x ∷ among rs (outside low high es)) (among rs (outside low high es)) ++ within low high es
        else true ih = ap (λ l. x ∷ l) ih
        else false ih = ih

-- what no range has is what lies outside the first, and what none of the others has of that
apart_first : (low high : ℕ) (rs : List (ℕ × ℕ)) (es : Table TrackedPacket) → apart_from ((low, high) ∷ rs) es ≡ apart_from rs (outside low high es)
apart_first low high rs [] = refl
apart_first low high rs (x ∷ es) = go (is_within low high x.0) (is_among rs x.0) refl (apart_first low high rs es)
  where
    go : (b d : Bool) → is_among rs x.0 ≡ d → apart_from ((low, high) ∷ rs) es ≡ apart_from rs (outside low high es)
        → cond (not (b || d)) (x ∷ apart_from ((low, high) ∷ rs) es) (apart_from ((low, high) ∷ rs) es) ≡ apart_from rs (cond (not b) (x ∷ outside low high es) (outside low high es))
    go true d is ih = ih
    go false true is ih = rw is ih
    go false false is ih = rw is (ap (λ l. x ∷ l) ih)

-- the ranges below a number go down
pub below_descends : (low : ℕ) (rs : List (ℕ × ℕ)) → Below low rs → Descends rs
below_descends low [] below = tt
below_descends low (r ∷ rs) below = (below.0, below.2)

-- no ranges take nothing
pub among_none : (es : Table TrackedPacket) → among [] es ≡ []
among_none [] = refl
among_none (x ∷ es) = among_none es

-- and leave all
pub apart_from_none : (es : Table TrackedPacket) → apart_from [] es ≡ es
apart_from_none [] = refl
apart_from_none (x ∷ es) = ap (λ l. x ∷ l) (apart_from_none es)

-- ---- the last of some packets

behind_last : (p : ℕ × TrackedPacket) (ps : Table TrackedPacket) → (rest : Table TrackedPacket) × (p ∷ ps ≡ rest ++ newest_behind p ps ∷ [])
behind_last p [] = ([], refl)
behind_last p (q ∷ qs) = let r = behind_last q qs in (p ∷ r.0, ap (λ (l : Table TrackedPacket). p ∷ l) r.1)

-- where there is a last number, its packet is the last
pub has_last : (ps : Table TrackedPacket) (n : ℕ) → option_map (λ p. p.0) (newest ps) ≡ Some n → (rest : Table TrackedPacket) × (v : TrackedPacket) × (ps ≡ rest ++ (n, v) ∷ [])
has_last [] n e = absurd cc
has_last (p ∷ ps) n e =
    let r = behind_last p ps in
    let same : (newest_behind p ps).0 ≡ n = cc in
    (r.0, (newest_behind p ps).1, r.1 ∙ ap (λ (m : ℕ). r.0 ++ (m, (newest_behind p ps).1) ∷ []) same)

-- ---- ranges below all packets

-- where no packet lies up to the end of the first range, none is in any
pub stops : (low high : ℕ) (rs : List (ℕ × ℕ)) (es : Table TrackedPacket) → Descends ((low, high) ∷ rs) → within 0 high es ≡ [] → (among ((low, high) ∷ rs) es ≡ []) × (apart_from ((low, high) ∷ rs) es ≡ es)
stops low high rs [] down none = (refl, refl)
stops low high rs (x ∷ es) down none = go (is_within 0 high x.0) refl none (λ left. stops low high rs es down left)
  where
    go : (b : Bool) → is_within 0 high x.0 ≡ b → cond b (x ∷ within 0 high es) (within 0 high es) ≡ [] → (within 0 high es ≡ [] → (among ((low, high) ∷ rs) es ≡ []) × (apart_from ((low, high) ∷ rs) es ≡ es)) → (among ((low, high) ∷ rs) (x ∷ es) ≡ []) × (apart_from ((low, high) ∷ rs) (x ∷ es) ≡ x ∷ es)
    go true is f ih = absurd cc
    go false is f ih =
        let past : high < x.0 = grind arith in
        let first : nat_le x.0 high ≡ false = lt-leb x.0 high past in
        let apart : is_within low high x.0 ≡ false = and_right (nat_le low x.0) (nat_le x.0 high) first in
        let order : low ≤ high = down.0 in
        let others : is_among rs x.0 ≡ false = none_has low x.0 rs down.1 (omega arith) in
        let r = ih f in
        (rw (apart, others) r.0, rw (apart, others) (ap (λ (l : Table TrackedPacket). x ∷ l) r.1))

-- ---- steps

-- one packet more is taken, and the others are taken as before
pub takes_on : (ps qs all taken more : Table TrackedPacket) (p : ℕ × TrackedPacket) → ps ≡ qs ++ p ∷ [] → more ≡ taken ++ p ∷ [] → ps ++ reverse taken ≡ all → qs ++ reverse more ≡ all
takes_on ps qs all taken more p e pushed so_far =
    ap (λ (xs : Table TrackedPacket). qs ++ reverse xs) pushed
    ∙ ap (λ (xs : Table TrackedPacket). qs ++ xs) (reverse-append taken (p ∷ []))
    ∙ sym (append_assoc qs (p ∷ []) (reverse taken))
    ∙ ap (λ (xs : Table TrackedPacket). xs ++ reverse taken) (sym e)
    ∙ so_far

-- the packets of one range are taken out: what is left to take, taken, gives the same
pub ranges_step : (low high : ℕ) (all rs : List (ℕ × ℕ)) (es new : Table TrackedPacket) (taken more end : Table TrackedPacket) → all ≡ (low, high) ∷ rs → Ascends es → Descends all → new ≡ outside low high es → reverse more ≡ within low high es ++ reverse taken → among all es ++ reverse taken ≡ end → among rs new ++ reverse more ≡ end
ranges_step low high all rs es new taken more end ranges up down left took so_far =
    let below : Descends ((low, high) ∷ rs) = subst Descends ranges down in
    let parts = ap (λ (l : List (ℕ × ℕ)). among l es) ranges ∙ among_first low high rs es up below.1 in
    ap (λ (ps : Table TrackedPacket). among rs ps ++ reverse more) left
    ∙ ap (λ (xs : Table TrackedPacket). among rs (outside low high es) ++ xs) took
    ∙ sym (append_assoc (among rs (outside low high es)) (within low high es) (reverse taken))
    ∙ ap (λ (xs : Table TrackedPacket). xs ++ reverse taken) (sym parts)
    ∙ so_far

-- and what is left then is the same
pub ranges_left : (low high : ℕ) (all rs : List (ℕ × ℕ)) (es new end : Table TrackedPacket) → all ≡ (low, high) ∷ rs → new ≡ outside low high es → apart_from all es ≡ end → apart_from rs new ≡ end
ranges_left low high all rs es new end ranges left so_far = ap (apart_from rs) left ∙ sym (apart_first low high rs es) ∙ ap (λ l. apart_from l es) (sym ranges) ∙ so_far

-- ---- the last packet of a range

-- it is there, and what is left without it
pub record IsLast (low high : ℕ) (es : Table TrackedPacket) (n : ℕ) : Type 0 where
  pub packet : TrackedPacket
  pub there : at es n ≡ Some packet
  pub within : within low high es ≡ within low (n - 1) (without es n) ++ (n, packet) ∷ []
  pub outside : outside low (n - 1) (without es n) ≡ outside low high es

pub is_last : (low high n : ℕ) (es : Table TrackedPacket) → Ascends es → Some n ≡ option_map (λ p. p.0) (newest (within low high es)) → IsLast low high es n
is_last low high n es up last =
    let found = has_last (within low high es) n (sym last) in
    let t = taken_last low high es found.0 n found.1 up found.2 in
    record { packet = found.1; there = t.0; within = found.2 ∙ ap (λ (l : Table TrackedPacket). l ++ (n, found.1) ∷ []) (sym t.1); outside = t.2 }

-- the packet that was taken out is the last
pub last_within : (low high n : ℕ) (es new : Table TrackedPacket) (v : TrackedPacket) → IsLast low high es n → Some v ≡ at es n → new ≡ without es n → within low high es ≡ within low (n - 1) new ++ (n, v) ∷ []
last_within low high n es new v l there left =
    let same : v ≡ l.packet = cc (there ∙ l.there) in
    l.within ∙ ap (λ (p : TrackedPacket). within low (n - 1) (without es n) ++ (n, p) ∷ []) (sym same) ∙ ap (λ (es : Table TrackedPacket). within low (n - 1) es ++ (n, v) ∷ []) (sym left)

pub none_last : (low high n : ℕ) (es : Table TrackedPacket) → IsLast low high es n → None ≡ at es n → ⊥
none_last low high n es l none = let e = none ∙ l.there in cc

pub last_outside : (low high n : ℕ) (es new : Table TrackedPacket) → IsLast low high es n → new ≡ without es n → outside low (n - 1) new ≡ outside low high es
last_outside low high n es new l left = ap (outside low (n - 1)) left ∙ l.outside

-- ---- the early end

-- the first packet has the least number
pub first_holds : (es : Table TrackedPacket) (n : ℕ) → Ascends es → Some n ≡ option_map (λ p. p.0) (oldest (from 0 es)) → HoldsOfAll (λ m. n ≤ m) es
first_holds es n up e = holds_map (λ m. nat_le 0 m ≡ true → n ≤ m) (λ m. n ≤ m) (λ m h. h (le-leb 0 m (omega arith))) es (oldest_holds (nat_le 0) es n up e)

-- where there is no first, there is none
pub has_no_first : (es : Table TrackedPacket) → None ≡ option_map (λ p. p.0) (oldest (from 0 es)) → es ≡ []
has_no_first [] e = refl
has_no_first (x ∷ es) e = let here : nat_le 0 x.0 ≡ true = le-leb 0 x.0 (omega arith) in let no = rw here at e in absurd cc

-- up to a number below all there is none
none_within : (high n : ℕ) (es : Table TrackedPacket) → high < n → HoldsOfAll (λ m. n ≤ m) es → within 0 high es ≡ []
none_within high n [] below holds = refl
none_within high n (x ∷ es) below holds =
    let l : n ≤ x.0 = All-head (λ (p : ℕ × TrackedPacket). n ≤ p.0) x es holds in
    let past : nat_le x.0 high ≡ false = lt-leb x.0 high (omega (arith, below, l)) in
    let apart : is_within 0 high x.0 ≡ false = and_right (nat_le 0 x.0) (nat_le x.0 high) past in
    rw apart (none_within high n es below (All-tail (λ (p : ℕ × TrackedPacket). n ≤ p.0) x es holds))

-- what is left lies no lower
pub outside_holds : (low high n : ℕ) (es new : Table TrackedPacket) → new ≡ outside low high es → HoldsOfAll (λ m. n ≤ m) es → HoldsOfAll (λ m. n ≤ m) new
outside_holds low high n es new left holds =
    All-same (λ (p : ℕ × TrackedPacket). n ≤ p.0) new (outside low high es) left (All-filter (λ p. not (is_within low high p.0)) (λ (p : ℕ × TrackedPacket). n ≤ p.0) es holds)

kept_keys : (test : ℕ → Bool) (es : Table TrackedPacket) → keys_of (filter (λ e. test e.0) es) ≡ filter test (keys_of es)
kept_keys test [] = refl
kept_keys test (x ∷ es) = go (test x.0) (kept_keys test es)
  where
    go : (b : Bool) → keys_of (filter (λ e. test e.0) es) ≡ filter test (keys_of es) → keys_of (cond b (x ∷ filter (λ e. test e.0) es) (filter (λ e. test e.0) es)) ≡ cond b (x.0 ∷ filter test (keys_of es)) (filter test (keys_of es))
    go true ih = ap (λ (l : List ℕ). x.0 ∷ l) ih
    go false ih = ih

-- and its numbers ascend
pub outside_ascends : (low high : ℕ) (es new : Table TrackedPacket) → new ≡ outside low high es → Ascends es → Ascends new
outside_ascends low high es new left up =
    let kept = IsStrictlySortedBy-filter nat_cmp (λ n. not (is_within low high n)) (keys_of es) up in
    subst Ascends (sym left) (subst (IsStrictlySortedBy nat_cmp) (sym (kept_keys (λ n. not (is_within low high n)) es)) kept)

-- where the first range ends below all packets, nothing is taken
pub stops_at : (low high n : ℕ) (rs all : List (ℕ × ℕ)) (es : Table TrackedPacket) → all ≡ (low, high) ∷ rs → Descends all → high < n → HoldsOfAll (λ m. n ≤ m) es → (among all es ≡ []) × (apart_from all es ≡ es)
stops_at low high n rs all es e down below holds =
    let s = stops low high rs es (subst Descends e down) (none_within high n es below holds) in
    (ap (λ (l : List (ℕ × ℕ)). among l es) e ∙ s.0, ap (λ (l : List (ℕ × ℕ)). apart_from l es) e ∙ s.1)
