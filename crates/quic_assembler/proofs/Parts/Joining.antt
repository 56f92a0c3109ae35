-- Parts that touch, joined into one: the same bytes wait, in as many runs.
use Rattle.std.proofs.Common.{◌≡◌, ℕ, ◌+◌, ◌-◌, ◌*◌, ◌/◌, ◌^◌, ◌<◌, ◌≤◌, ◌==◌, ltb, leb, length, List, [], ◌∷◌, ◌++◌, append_assoc, append-nil, length-append, Bool, true, false, ◌&&◌, cond, Some, None, Option, refl, sym, ap, ◌∙◌, subst, arith, get_or, max}
use Rattle.std.specs.Option.{option_or}
use Rattle.std.specs.Ordering.{nat_cmp}
use Rattle.std.specs.Cmp.{nat_cmp_is}
use Rattle.std.specs.declared.cmp.Ordering.TheVariants.{Greater}
use Rattle.std.specs.BTreeMap.{insert_entry}
use Rattle.std.proofs.lemmas.Bool.{ltb-true, ltb-false, leb-false, lt-ltb, le-ltb, eqb-true, eq-eqb}
use Rattle.std.proofs.Math.ListN.{get_or-append}
use Rattle.std.proofs.Math.Seq.{get_or-append_right}
use Rattle.quic_assembler.specs.declared.assembler.parts.TheConstants.{MOST_PARTS, SHORT_PART}
use Rattle.quic_sets.specs.Parts.{Part, start, byte_from, after}
use Rattle.quic_assembler.specs.Arrived.{AreApart, byte_at, runs_of, runs_behind, in_front, joined, waiting_bytes, is_crowded, settled}
use Rattle.quic_assembler.specs.PartSteps.{touching_at, from_after}
use Rattle.quic_sets.proofs.Parts.Bytes.{from_below, from_behind, from_within}
use Rattle.quic_assembler.proofs.Parts.Filled.{low_small}

-- ---- what two parts that touch are as one
pub touch : (p q : Part) (qs : List Part) → AreApart p.0 (q ∷ qs) → start q ≡ p.0 → q.0 ≡ p.0 + length q.1
touch p q qs h e = let a = h.0 in let b = h.1 in omega arith

in_front_apart : (low : ℕ) (p : Part) (ps : List Part) → AreApart low (p ∷ ps) → AreApart low (in_front p ps)
in_front_apart low p [] h = h
in_front_apart low p (q ∷ qs) h = go (start q == p.0) refl
  where
    go : (b : Bool) → (start q == p.0) ≡ b → AreApart low (cond b ((q.0, p.1 ++ q.1) ∷ qs) (p ∷ q ∷ qs))
    go true e =
        let a = h.0 in
        let b = h.1 in
        let t = touch p q qs h.2 (eqb-true (start q) p.0 e) in
        let l = length-append p.1 q.1 in
        (omega arith, omega arith, h.2.2)
    go false e = h

pub joined_apart : (low : ℕ) (ps : List Part) → AreApart low ps → AreApart low (joined ps)
joined_apart low [] h = h
joined_apart low (p ∷ ps) h = in_front_apart low p (joined ps) (h.0, h.1, joined_apart p.0 ps h.2)

-- ---- the bytes
or_assoc : (x y z : Option ℕ) → option_or (option_or x y) z ≡ option_or x (option_or y z)
or_assoc None y z = refl
or_assoc (Some a) y z = refl

from_append : (at : ℕ) (xs ys : List ℕ) (o : ℕ) → byte_from at (xs ++ ys) o ≡ option_or (byte_from at xs o) (byte_from (at + length xs) ys o)
from_append at xs ys o = go (ltb o at) refl (ltb o (at + length xs)) refl (ltb o (at + length xs + length ys)) refl
  where
    go : (b : Bool) → ltb o at ≡ b → (c : Bool) → ltb o (at + length xs) ≡ c → (d : Bool) → ltb o (at + length xs + length ys) ≡ d → byte_from at (xs ++ ys) o ≡ option_or (byte_from at xs o) (byte_from (at + length xs) ys o)
    go true e c f d g =
        let k = ltb-true o at e in
        let e1 = from_below at (xs ++ ys) o k in
        let e2 = from_below at xs o k in
        let e3 = from_below (at + length xs) ys o (omega arith) in
        rw (e1, e2, e3) refl
    go false e true f d g =
        let k = ltb-false o at e in
        let m = ltb-true o (at + length xs) f in
        let l = length-append xs ys in
        let e1 = from_within at (xs ++ ys) o k (omega arith) in
        let e2 = from_within at xs o k m in
        rw (e1, e2) (ap (λ (n : ℕ). Some n) (get_or-append xs ys 0 (o - at) (omega arith)))
    go false e false f true g =
        let k = ltb-false o at e in
        let m = ltb-false o (at + length xs) f in
        let n = ltb-true o (at + length xs + length ys) g in
        let l = length-append xs ys in
        let e1 = from_within at (xs ++ ys) o k (omega arith) in
        let e2 = from_behind at xs o m in
        let e3 = from_within (at + length xs) ys o m n in
        let d : o - at - length xs ≡ o - (at + length xs) = omega arith in
        rw (e1, e2, e3) (ap (λ (n : ℕ). Some n) (get_or-append_right xs ys (o - at) 0 (omega arith) ∙ ap (λ i. get_or ys i 0) d))
    go false e false f false g =
        let k = ltb-false o at e in
        let m = ltb-false o (at + length xs) f in
        let n = ltb-false o (at + length xs + length ys) g in
        let l = length-append xs ys in
        let e1 = from_behind at (xs ++ ys) o (omega arith) in
        let e2 = from_behind at xs o m in
        let e3 = from_behind (at + length xs) ys o n in
        rw (e1, e2, e3) refl

in_front_byte : (low : ℕ) (p : Part) (ps : List Part) (o : ℕ) → AreApart low (p ∷ ps) → byte_at (in_front p ps) o ≡ byte_at (p ∷ ps) o
in_front_byte low p [] o h = refl
in_front_byte low p (q ∷ qs) o h = go (start q == p.0) refl
  where
    go : (b : Bool) → (start q == p.0) ≡ b → byte_at (cond b ((q.0, p.1 ++ q.1) ∷ qs) (p ∷ q ∷ qs)) o ≡ byte_at (p ∷ q ∷ qs) o
    go true e =
        let a = h.0 in
        let t = touch p q qs h.2 (eqb-true (start q) p.0 e) in
        let l = length-append p.1 q.1 in
        let e1 : q.0 - length (p.1 ++ q.1) ≡ start p = omega arith in
        let e2 : start p + length p.1 ≡ start q = omega arith in
        ap (λ n. option_or (byte_from n (p.1 ++ q.1) o) (byte_at qs o)) e1
        ∙ ap (λ x. option_or x (byte_at qs o)) (from_append (start p) p.1 q.1 o ∙ ap (λ n. option_or (byte_from (start p) p.1 o) (byte_from n q.1 o)) e2)
        ∙ or_assoc (byte_from (start p) p.1 o) (byte_from (start q) q.1 o) (byte_at qs o)
    go false e = refl

pub joined_byte : (low : ℕ) (ps : List Part) (o : ℕ) → AreApart low ps → byte_at (joined ps) o ≡ byte_at ps o
joined_byte low [] o h = refl
joined_byte low (p ∷ ps) o h = in_front_byte low p (joined ps) o (h.0, h.1, joined_apart p.0 ps h.2) ∙ ap (λ x. option_or (byte_from (start p) p.1 o) x) (joined_byte p.0 ps o h.2)

-- ---- the runs
in_front_runs : (e low : ℕ) (p : Part) (ps : List Part) → AreApart low (p ∷ ps) → runs_behind e (in_front p ps) ≡ runs_behind e (p ∷ ps)
in_front_runs e low p [] h = refl
in_front_runs e low p (q ∷ qs) h = go (start q == p.0) refl
  where
    go : (b : Bool) → (start q == p.0) ≡ b → runs_behind e (cond b ((q.0, p.1 ++ q.1) ∷ qs) (p ∷ q ∷ qs)) ≡ cond (start p == e) 0 1 + (cond (start q == p.0) 0 1 + runs_behind q.0 qs)
    go true f =
        let a = h.0 in
        let t = touch p q qs h.2 (eqb-true (start q) p.0 f) in
        let l = length-append p.1 q.1 in
        let e1 : q.0 - length (p.1 ++ q.1) ≡ start p = omega arith in
        rw (e1, f) (omega arith)
    go false f = refl

joined_behind : (e low : ℕ) (ps : List Part) → AreApart low ps → runs_behind e (joined ps) ≡ runs_behind e ps
joined_behind e low [] h = refl
joined_behind e low (p ∷ ps) h = in_front_runs e low p (joined ps) (h.0, h.1, joined_apart p.0 ps h.2) ∙ ap (λ n. cond (start p == e) 0 1 + n) (joined_behind p.0 p.0 ps h.2)

first_runs : (p : Part) (ps : List Part) → runs_of (in_front p ps) ≡ 1 + runs_behind p.0 ps
first_runs p [] = refl
first_runs p (q ∷ qs) = go (start q == p.0) refl
  where
    go : (b : Bool) → (start q == p.0) ≡ b → runs_of (cond b ((q.0, p.1 ++ q.1) ∷ qs) (p ∷ q ∷ qs)) ≡ 1 + (cond (start q == p.0) 0 1 + runs_behind q.0 qs)
    go true f = rw f (omega arith)
    go false f = refl

pub joined_runs : (low : ℕ) (ps : List Part) → AreApart low ps → runs_of (joined ps) ≡ runs_of ps
joined_runs low [] h = refl
joined_runs low (p ∷ ps) h = first_runs p (joined ps) ∙ ap (λ n. 1 + n) (joined_behind p.0 p.0 ps h.2)

-- joined, each part is a run
in_front_length : (p : Part) (ps : List Part) → length ps ≡ runs_of ps → length (in_front p ps) ≡ runs_of (in_front p ps)
in_front_length p [] e = refl
in_front_length p (q ∷ qs) e = go (start q == p.0) refl
  where
    go : (b : Bool) → (start q == p.0) ≡ b → length (cond b ((q.0, p.1 ++ q.1) ∷ qs) (p ∷ q ∷ qs)) ≡ runs_of (cond b ((q.0, p.1 ++ q.1) ∷ qs) (p ∷ q ∷ qs))
    go true f = e
    go false f = rw f (omega arith)

pub joined_length : (ps : List Part) → length (joined ps) ≡ runs_of (joined ps)
joined_length [] = refl
joined_length (p ∷ ps) = in_front_length p (joined ps) (joined_length ps)

-- ---- joined only where they are too many
pub settled_apart : (low : ℕ) (ps : List Part) → AreApart low ps → AreApart low (settled ps)
settled_apart low ps h = go (is_crowded ps)
  where
    go : (b : Bool) → AreApart low (cond b (joined ps) ps)
    go true = joined_apart low ps h
    go false = h

pub settled_byte : (low : ℕ) (ps : List Part) (o : ℕ) → AreApart low ps → byte_at (settled ps) o ≡ byte_at ps o
settled_byte low ps o h = go (is_crowded ps)
  where
    go : (b : Bool) → byte_at (cond b (joined ps) ps) o ≡ byte_at ps o
    go true = joined_byte low ps o h
    go false = refl

-- then no more than MOST_PARTS are left, or two for each run, or one for each 64 bytes
pub settled_few : (low : ℕ) (ps : List Part) → AreApart low ps → length (settled ps) ≤ max (max MOST_PARTS (2 * runs_of (settled ps))) (waiting_bytes (settled ps) / SHORT_PART)
settled_few low ps h = go (ltb MOST_PARTS (length ps)) refl (ltb (runs_of ps) (length ps - runs_of ps)) refl (leb (waiting_bytes ps) (SHORT_PART * length ps)) refl
  where
    go : (b : Bool) → ltb MOST_PARTS (length ps) ≡ b → (c : Bool) → ltb (runs_of ps) (length ps - runs_of ps) ≡ c → (d : Bool) → leb (waiting_bytes ps) (SHORT_PART * length ps) ≡ d → length (cond (b && (c && d)) (joined ps) ps) ≤ max (max MOST_PARTS (2 * runs_of (cond (b && (c && d)) (joined ps) ps))) (waiting_bytes (cond (b && (c && d)) (joined ps) ps) / SHORT_PART)
    go true e true f true g = let l = joined_length ps in omega arith
    go true e true f false g = let k = leb-false (waiting_bytes ps) (SHORT_PART * length ps) g in omega arith
    go true e false f d g = let k = ltb-false (runs_of ps) (length ps - runs_of ps) f in omega arith
    go false e c f d g = let k = ltb-false MOST_PARTS (length ps) e in omega arith

-- ---- the parts behind an offset
after_past : (at : ℕ) (ps : List Part) (x : Part) → after at ps ≡ Some x → at < x.0
after_past at [] x e = cc
after_past at (p ∷ ps) x e = go (ltb at p.0) refl e (after_past at ps x)
  where
    go : (b : Bool) → ltb at p.0 ≡ b → cond b (Some p) (after at ps) ≡ Some x → (after at ps ≡ Some x → at < x.0) → at < x.0
    go true q e ih = let same : p ≡ x = cc in subst (λ (z : Part). at < z.0) same (ltb-true at p.0 q)
    go false q e ih = ih e

from_all : (low : ℕ) (ps : List Part) → AreApart low ps → from_after low ps ≡ ps
from_all low [] h = refl
from_all low (p ∷ ps) h =
    let a = h.0 in
    let b = h.1 in
    let t = lt-ltb low p.0 (omega arith) in
    rw t refl

from_next : (low at : ℕ) (ps : List Part) (x : Part) → AreApart low ps → after at ps ≡ Some x → from_after at ps ≡ x ∷ from_after x.0 ps
from_next low at [] x h e = cc
from_next low at (p ∷ ps) x h e = go (ltb at p.0) refl e (from_next p.0 at ps x h.2)
  where
    go : (b : Bool) → ltb at p.0 ≡ b → cond b (Some p) (after at ps) ≡ Some x → (after at ps ≡ Some x → from_after at ps ≡ x ∷ from_after x.0 ps) → cond b (p ∷ ps) (from_after at ps) ≡ x ∷ from_after x.0 (p ∷ ps)
    go true q e ih =
        let same : p ≡ x = cc in
        let t = le-ltb p.0 p.0 (omega arith) in
        let own : from_after p.0 (p ∷ ps) ≡ ps = rw t (from_all p.0 ps h.2) in
        subst (λ (z : Part). p ∷ ps ≡ z ∷ from_after z.0 (p ∷ ps)) same (ap (λ (qs : List Part). p ∷ qs) (sym own))
    go false q e ih =
        let k = ltb-false at p.0 q in
        let past = after_past at ps x e in
        let t = le-ltb x.0 p.0 (omega arith) in
        rw t (ih e)

from_none : (at : ℕ) (ps : List Part) → after at ps ≡ None → from_after at ps ≡ []
from_none at [] e = refl
from_none at (p ∷ ps) e = go (ltb at p.0) e (from_none at ps)
  where
    go : (b : Bool) → cond b (Some p) (after at ps) ≡ None → (after at ps ≡ None → from_after at ps ≡ []) → cond b (p ∷ ps) (from_after at ps) ≡ []
    go true e ih = cc
    go false e ih = ih e

from_apart : (low at : ℕ) (ps : List Part) → AreApart low ps → at < 2 ^ 62 → (b : ℕ) → b ≤ at → b ≤ low → AreApart b (from_after at ps)
from_apart low at [] h s b l m = omega arith
from_apart low at (p ∷ ps) h s b l m = go (ltb at p.0) (from_apart p.0 at ps h.2 s b l)
  where
    go : (c : Bool) → (b ≤ p.0 → AreApart b (from_after at ps)) → AreApart b (cond c (p ∷ ps) (from_after at ps))
    go true ih = let a = h.0 in (omega arith, h.1, h.2)
    go false ih = let a = h.0 in ih (omega arith)

pub from_start : (ps : List Part) → AreApart 0 ps → from_after 0 ps ≡ ps
from_start ps h = from_all 0 ps h

from_less : (a b : ℕ) (ps : List Part) → a ≤ b → length (from_after b ps) ≤ length (from_after a ps)
from_less a b [] l = omega arith
from_less a b (p ∷ ps) l = go (ltb a p.0) refl (ltb b p.0) refl (from_less a b ps l) (shorter b ps)
  where
    shorter : (n : ℕ) (qs : List Part) → length (from_after n qs) ≤ length qs
    shorter n [] = omega arith
    shorter n (q ∷ qs) = pick (ltb n q.0) (shorter n qs)
      where
        pick : (c : Bool) → length (from_after n qs) ≤ length qs → length (cond c (q ∷ qs) (from_after n qs)) ≤ length (q ∷ qs)
        pick true k = omega arith
        pick false k = omega arith

    go : (c : Bool) → ltb a p.0 ≡ c → (d : Bool) → ltb b p.0 ≡ d → length (from_after b ps) ≤ length (from_after a ps) → length (from_after b ps) ≤ length ps → length (cond d (p ∷ ps) (from_after b ps)) ≤ length (cond c (p ∷ ps) (from_after a ps))
    go true q true r ih k = omega arith
    go true q false r ih k = omega arith
    go false q true r ih k =
        let m = ltb-false a p.0 q in
        let n = ltb-true b p.0 r in
        absurd (omega arith)
    go false q false r ih k = ih

-- ---- a run, part by part
one_more : (p q : Part) (ps : List Part) → AreApart p.0 (q ∷ ps) → start q ≡ p.0 → in_front p (in_front q ps) ≡ in_front (q.0, p.1 ++ q.1) ps
one_more p q [] h e = let t = eq-eqb (start q) p.0 e in rw t refl
one_more p q (r ∷ rs) h e = go (start r == q.0) refl
  where
    go : (b : Bool) → (start r == q.0) ≡ b → in_front p (cond b ((r.0, q.1 ++ r.1) ∷ rs) (q ∷ r ∷ rs)) ≡ cond b ((r.0, (p.1 ++ q.1) ++ r.1) ∷ rs) ((q.0, p.1 ++ q.1) ∷ r ∷ rs)
    go true f =
        let t1 = touch p q (r ∷ rs) h e in
        let t2 = touch q r rs h.2 (eqb-true (start r) q.0 f) in
        let l = length-append q.1 r.1 in
        let b = h.1 in
        let t = eq-eqb (r.0 - length (q.1 ++ r.1)) p.0 (omega arith) in
        rw t (ap (λ (bs : List ℕ). (r.0, bs) ∷ rs) (sym (append_assoc p.1 q.1 r.1)))
    go false f = let t = eq-eqb (start q) p.0 e in rw t refl

no_more : (low : ℕ) (p q : Part) (ps : List Part) → AreApart low (q ∷ ps) → (start q == p.0) ≡ false → in_front p (in_front q ps) ≡ p ∷ in_front q ps
no_more low p q [] h e = rw e refl
no_more low p q (r ∷ rs) h e = go (start r == q.0) refl
  where
    go : (b : Bool) → (start r == q.0) ≡ b → in_front p (cond b ((r.0, q.1 ++ r.1) ∷ rs) (q ∷ r ∷ rs)) ≡ p ∷ cond b ((r.0, q.1 ++ r.1) ∷ rs) (q ∷ r ∷ rs)
    go true f =
        let a = h.0 in
        let t2 = touch q r rs h.2 (eqb-true (start r) q.0 f) in
        let l = length-append q.1 r.1 in
        let same : r.0 - length (q.1 ++ r.1) ≡ start q = omega arith in
        rw (same, e) refl
    go false f = rw e refl

after_small : (low at : ℕ) (ps : List Part) (x : Part) → AreApart low ps → after at ps ≡ Some x → x.0 < 2 ^ 62
after_small low at [] x h e = cc
after_small low at (p ∷ ps) x h e = go (ltb at p.0) e (after_small p.0 at ps x h.2)
  where
    go : (b : Bool) → cond b (Some p) (after at ps) ≡ Some x → (after at ps ≡ Some x → x.0 < 2 ^ 62) → x.0 < 2 ^ 62
    go true e ih = let same : p ≡ x = cc in subst (λ (z : Part). z.0 < 2 ^ 62) same (low_small p.0 ps h.2)
    go false e ih = ih e

-- the parts behind an offset, from the one on that is found there
rest_apart : (at : ℕ) (ps : List Part) (q : Part) → AreApart 0 ps → at < 2 ^ 62 → after at ps ≡ Some q → AreApart 0 (q ∷ from_after q.0 ps)
rest_apart at ps q h s e = subst (λ (qs : List Part). AreApart 0 qs) (from_next 0 at ps q h e) (from_apart 0 at ps h s 0 (omega arith) (omega arith))

-- ---- as the calls say it
pub touching_is : (at : ℕ) (o : Option Part) (x : Part) → Some x ≡ touching_at at o → (o ≡ Some x) × (start x ≡ at)
touching_is at None x e = cc
touching_is at (Some q) x e = go (start q == at) refl e
  where
    go : (b : Bool) → (start q == at) ≡ b → Some x ≡ cond b (Some q) None → (Some q ≡ Some x) × (start x ≡ at)
    go true f e = let same : q ≡ x = cc in (ap (λ (z : Part). Some z) same, subst (λ (z : Part). start z ≡ at) same (eqb-true (start q) at f))
    go false f e = cc

pub found_past : (at : ℕ) (ps : List Part) (x : Part) → AreApart 0 ps → Some x ≡ touching_at at (after at ps) → (at < x.0) × (x.0 < 2 ^ 62)
found_past at ps x h e =
    let found = (touching_is at (after at ps) x e).0 in
    (after_past at ps x found, after_small 0 at ps x h found)

pub run_more : (end last : ℕ) (run more : List ℕ) (ps : List Part) → AreApart 0 ps → end < 2 ^ 62 → Some (last, more) ≡ touching_at end (after end ps) → in_front (end, run) (joined (from_after end ps)) ≡ in_front (last, run ++ more) (joined (from_after last ps))
run_more end last run more ps h s e =
    let found = touching_is end (after end ps) (last, more) e in
    let q : Part = (last, more) in
    let split = from_next 0 end ps q h found.0 in
    let past = rest_apart end ps q h s found.0 in
    let a : 0 + length more ≤ last = past.0 in
    let b : last - length more ≡ end = found.1 in
    ap (λ (qs : List Part). in_front (end, run) (joined qs)) split ∙ one_more (end, run) q (joined (from_after last ps)) (omega arith, past.1, joined_apart last (from_after last ps) past.2) found.1

pub run_less : (end : ℕ) (ps : List Part) (x : Part) → AreApart 0 ps → Some x ≡ touching_at end (after end ps) → length (from_after x.0 ps) < length (from_after end ps)
run_less end ps x h e =
    let l = ap length (from_next 0 end ps x h (touching_is end (after end ps) x e).0) in
    omega arith

pub run_done : (end : ℕ) (run : List ℕ) (ps : List Part) → AreApart 0 ps → end < 2 ^ 62 → None ≡ touching_at end (after end ps) → in_front (end, run) (joined (from_after end ps)) ≡ (end, run) ∷ joined (from_after end ps)
run_done end run ps h s e = go (after end ps) refl e
  where
    at_it : (q : Part) → after end ps ≡ Some q → (b : Bool) → (start q == end) ≡ b → None ≡ cond b (Some q) None → in_front (end, run) (joined (from_after end ps)) ≡ (end, run) ∷ joined (from_after end ps)
    at_it q f true g e = cc
    at_it q f false g e =
        let split = from_next 0 end ps q h f in
        let past = rest_apart end ps q h s f in
        let apart : AreApart 0 (q ∷ joined (from_after q.0 ps)) = (past.0, past.1, joined_apart q.0 (from_after q.0 ps) past.2) in
        subst (λ (qs : List Part). in_front (end, run) (joined qs) ≡ (end, run) ∷ joined qs) (sym split) (no_more 0 (end, run) q (joined (from_after q.0 ps)) apart g)

    go : (o : Option Part) → after end ps ≡ o → None ≡ touching_at end o → in_front (end, run) (joined (from_after end ps)) ≡ (end, run) ∷ joined (from_after end ps)
    go None f e = subst (λ (qs : List Part). in_front (end, run) (joined qs) ≡ (end, run) ∷ joined qs) (sym (from_none end ps f)) refl
    go (Some q) f e = at_it q f (start q == end) refl e

-- parts that end at an offset or before it
abbrev pub AreUpTo : ℕ → List Part → Type 0
AreUpTo n [] = Unit {0}
AreUpTo n (p ∷ ps) = (p.0 ≤ n) × AreUpTo n ps

put_last : (n k : ℕ) (v : List ℕ) (ps : List Part) → AreUpTo n ps → n < k → insert_entry nat_cmp ps k v ≡ ps ++ (k, v) ∷ []
put_last n k v [] h l = refl
put_last n k v (p ∷ ps) h l =
    let a = h.0 in
    let c : nat_cmp k p.0 ≡ Greater = sym (nat_cmp_is k p.0 Greater (omega arith)) in
    rw c (ap (λ (qs : List Part). p ∷ qs) (put_last n k v ps h.1 l))

up_to_more : (n m : ℕ) (v : List ℕ) (ps : List Part) → AreUpTo n ps → n ≤ m → AreUpTo m (ps ++ (m, v) ∷ [])
up_to_more n m v [] h l = (omega arith, tt)
up_to_more n m v (p ∷ ps) h l = let a = h.0 in (omega arith, up_to_more n m v ps h.1 l)

pub part_past : (at : ℕ) (ps : List Part) (x : Part) → AreApart 0 ps → Some x ≡ after at ps → (at < x.0) × (x.0 < 2 ^ 62)
part_past at ps x h e = (after_past at ps x (sym e), after_small 0 at ps x h (sym e))

pub join_step : (at end last : ℕ) (bytes run : List ℕ) (ps olds news : List Part) → AreApart 0 ps → Some (end, bytes) ≡ after at ps → in_front (end, bytes) (joined (from_after end ps)) ≡ (last, run) ∷ joined (from_after last ps) → end ≤ last → AreUpTo at olds → joined ps ≡ olds ++ joined (from_after at ps) → news ≡ insert_entry nat_cmp olds last run → joined ps ≡ news ++ joined (from_after last ps)
join_step at end last bytes run ps olds news h e r l u so is =
    let past = after_past at ps (end, bytes) (sym e) in
    let split = from_next 0 at ps (end, bytes) h (sym e) in
    let new : news ≡ olds ++ (last, run) ∷ [] = is ∙ put_last at last run olds u (omega arith) in
    so ∙ ap (λ (qs : List Part). olds ++ joined qs) split ∙ ap (λ (qs : List Part). olds ++ qs) r ∙ sym (ap (λ (qs : List Part). qs ++ joined (from_after last ps)) new ∙ append_assoc olds ((last, run) ∷ []) (joined (from_after last ps)))

pub join_up : (at end last : ℕ) (bytes run : List ℕ) (ps olds news : List Part) → Some (end, bytes) ≡ after at ps → end ≤ last → AreUpTo at olds → news ≡ insert_entry nat_cmp olds last run → AreUpTo last news
join_up at end last bytes run ps olds news e l u is =
    let past = after_past at ps (end, bytes) (sym e) in
    let new : news ≡ olds ++ (last, run) ∷ [] = is ∙ put_last at last run olds u (omega arith) in
    subst (λ (qs : List Part). AreUpTo last qs) (sym new) (up_to_more at last run olds u (omega arith))

pub join_less : (at end last : ℕ) (bytes : List ℕ) (ps : List Part) → AreApart 0 ps → Some (end, bytes) ≡ after at ps → end ≤ last → length (from_after last ps) < length (from_after at ps)
join_less at end last bytes ps h e l =
    let k = ap length (from_next 0 at ps (end, bytes) h (sym e)) in
    let m = from_less end last ps l in
    omega arith

pub join_done : (at : ℕ) (ps news : List Part) → None ≡ after at ps → joined ps ≡ news ++ joined (from_after at ps) → news ≡ joined ps
join_done at ps news e so = sym (so ∙ ap (λ (qs : List Part). news ++ joined qs) (from_none at ps (sym e)) ∙ append-nil news)
