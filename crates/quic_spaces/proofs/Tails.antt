-- The tail of what is tracked as packets go and are taken out.
use Rattle.std.proofs.Common.{◌≡◌, ℕ, ◌+◌, ◌-◌, ◌<◌, ◌≤◌, Bool, true, false, cond, not, nat_lt, nat_le, min, max, ◌==◌, ◌&&◌, [], ◌∷◌, length, filter, ◌^◌, Option, Some, None, is_some, IfSome, All, refl, sym, ap, ◌∙◌, subst, arith, ⊎_elim}
use Rattle.std.specs.Option.{option_map, unwrap_or}
use Rattle.std.specs.List.{AllByRecursion}
use Rattle.std.specs.Map.{keys_of}
use Rattle.std.specs.BTreeMap.{is_at}
use Rattle.std.specs.Ordering.{nat_cmp, match_ordering, is_eq}
use Rattle.std.specs.declared.cmp.Ordering.{Ordering}
use Rattle.std.specs.declared.cmp.Ordering.TheVariants.{Less, Equal, Greater}
use Rattle.std.specs.Cmp.{nat_cmp_is, unsigned_tied, ranked}
use Rattle.std.proofs.lemmas.Bool.{le-leb, lt-leb, eq-eqb, eqb-true, ne_eqb, cases_lt}
use Rattle.std.proofs.lemmas.List.Elements.{All-nil, All-head, All-tail, All-cons, All-same}
use Rattle.std.proofs.lemmas.Map.Keys.{sorted_head, sorted_tail}
use Rattle.quic_streams_parts.specs.Table.{Table, at, put, without, added}
use Rattle.quic_streams_parts.specs.TableLaws.{without-unknown, at-apart, at-without, at-without-apart, sorted-without}
use Rattle.quic_sent_packets.specs.Packets.{TrackedPacket, Ascends, oldest, from, without_record}
use Rattle.quic_spaces.specs.Tracking.{Tracking, is_behind, tail_of, forgets, forgotten, without_packet, asking_sent, after_sent}
use Rattle.quic_spaces.specs.Tail.{tail_start, IsBehindFrom, at_if, without_if, one_if}

abbrev Packets : Type 0
Packets = Table TrackedPacket

abbrev Numbered : Type 0
Numbered = ℕ × TrackedPacket

-- a condition holds of all numbers
abbrev pub HoldsOfAll : (ℕ → Type 0) → Table TrackedPacket → Type 0
HoldsOfAll P es = All (λ (p : ℕ × TrackedPacket). P p.0) es

-- all numbers lie below one
abbrev pub LieBelow : ℕ → Table TrackedPacket → Type 0
LieBelow n es = HoldsOfAll (λ m. m < n) es

-- the packets behind the greatest that asks
abbrev pub tail : Option ℕ → Table TrackedPacket → Table TrackedPacket
tail greatest es = filter (λ p. is_behind greatest p.0) es

some_none : (v : TrackedPacket) → None ≡ Some v → ⊥
some_none v e = cc

-- what lies below all comes first
added_first : (es : Packets) (m n : ℕ) (v : TrackedPacket) → AllByRecursion (λ y. nat_cmp m y ≡ Less) (keys_of es) → n ≤ m → added es n v ≡ (n, v) ∷ es
added_first [] m n v above le = refl
added_first (x ∷ es) m n v above le =
    let l : m < x.0 = ranked m x.0 Less (sym above.0) in
    let less : nat_cmp n x.0 ≡ Less = sym (nat_cmp_is n x.0 Less (omega (arith, l, le))) in
    rw less refl

-- what is found behind a number has a greater one
pub found_above : (es : Packets) (m k : ℕ) (v : TrackedPacket) → AllByRecursion (λ y. nat_cmp m y ≡ Less) (keys_of es) → at es k ≡ Some v → m < k
found_above [] m k v above found = absurd (some_none v found)
found_above (e ∷ es) m k v above found = go (is_at (nat_cmp k) e.0) refl found (found_above es m k v above.1)
  where
    go : (b : Bool) → is_at (nat_cmp k) e.0 ≡ b → cond b (Some e.1) (at es k) ≡ Some v → (at es k ≡ Some v → m < k) → m < k
    go true is f ih =
        let same : k ≡ e.0 = eqb-true k e.0 (sym (unsigned_tied k e.0) ∙ is) in
        let l : m < e.0 = ranked m e.0 Less (sym above.0) in
        omega (arith, same, l)
    go false is f ih = ih f

-- what takes the place of what was there comes again
added_known : (es : Packets) (n : ℕ) (u v : TrackedPacket) → Ascends es → at es n ≡ Some u → added (without es n) n v ≡ added es n v
added_known [] n u v up e = absurd (some_none u e)
added_known (x ∷ es) n u v up e = go (nat_cmp n x.0) refl e (added_known es n u v (sorted_tail nat_cmp x.0 (keys_of es) up))
  where
    above : AllByRecursion (λ y. nat_cmp x.0 y ≡ Less) (keys_of es)
    above = sorted_head nat_cmp x.0 (keys_of es) up

    go : (r : Ordering) → nat_cmp n x.0 ≡ r → cond (is_eq r) (Some x.1) (at es n) ≡ Some u → (at es n ≡ Some u → added (without es n) n v ≡ added es n v)
        → added (cond (is_eq r) es (x ∷ without es n)) n v ≡ match_ordering r ((n, v) ∷ x ∷ es) ((x.0, v) ∷ es) (x ∷ added es n v)
    go Less is f ih =
        let l : n < x.0 = ranked n x.0 Less (sym is) in
        let g : x.0 < n = found_above es x.0 n u above f in
        absurd (omega (arith, l, g))
    go Equal is f ih =
        let same : n ≡ x.0 = ranked n x.0 Equal (sym is) in
        added_first es x.0 n v above (omega (arith, same)) ∙ ap (λ (m : ℕ). (m, v) ∷ es) same
    go Greater is f ih = rw is (ap (λ (l : Packets). x ∷ l) (ih f))

added_again : (es : Packets) (n : ℕ) (v : TrackedPacket) → Ascends es → added (without es n) n v ≡ added es n v
added_again es n v up = go (at es n) refl
  where
    go : (o : Option TrackedPacket) → at es n ≡ o → added (without es n) n v ≡ added es n v
    go None e = ap (λ (l : Packets). added l n v) (without-unknown es n e)
    go (Some u) e = added_known es n u v up e

-- one is added and another taken out, in any order
added_apart : (es : Packets) (n k : ℕ) (v : TrackedPacket) → Ascends es → (k ≡ n → ⊥) → without (added es n v) k ≡ added (without es k) n v
added_apart [] n k v up ne = rw (unsigned_tied k n ∙ ne_eqb k n ne) refl
added_apart (x ∷ es) n k v up ne = go (nat_cmp n x.0) (is_at (nat_cmp k) x.0) refl refl (added_apart es n k v (sorted_tail nat_cmp x.0 (keys_of es) up) ne)
  where
    other : is_at (nat_cmp k) n ≡ false
    other = unsigned_tied k n ∙ ne_eqb k n ne

    go : (r : Ordering) (b : Bool) → nat_cmp n x.0 ≡ r → is_at (nat_cmp k) x.0 ≡ b → without (added es n v) k ≡ added (without es k) n v
        → without (match_ordering r ((n, v) ∷ x ∷ es) ((x.0, v) ∷ es) (x ∷ added es n v)) k ≡ added (cond b es (x ∷ without es k)) n v
    go Less true is at ih =
        let l : n < x.0 = ranked n x.0 Less (sym is) in
        rw (other, at) (sym (added_first es x.0 n v (sorted_head nat_cmp x.0 (keys_of es) up) (omega (arith, l))))
    go Less false is at ih = rw (other, at, is) refl
    go Equal true is at ih =
        let same : n ≡ x.0 = ranked n x.0 Equal (sym is) in
        let here : k ≡ x.0 = eqb-true k x.0 (sym (unsigned_tied k x.0) ∙ at) in
        absurd (ne (here ∙ sym same))
    go Equal false is at ih = rw (at, is) refl
    go Greater true is at ih = rw at refl
    go Greater false is at ih = rw (at, is) (ap (λ (l : Packets). x ∷ l) ih)

-- what holds of all holds of what is left
holds_left : (P : ℕ → Type 0) (es : Packets) (k : ℕ) → HoldsOfAll P es → HoldsOfAll P (without es k)
holds_left P [] k holds = holds
holds_left P (x ∷ es) k holds = go (is_at (nat_cmp k) x.0) (holds_left P es k rest)
  where
    rest : HoldsOfAll P es
    rest = All-tail (λ (p : Numbered). P p.0) x es holds

    go : (b : Bool) → HoldsOfAll P (without es k) → HoldsOfAll P (cond b es (x ∷ without es k))
    go true ih = rest
    go false ih = All-cons (λ (p : Numbered). P p.0) x (without es k) (All-head (λ (p : Numbered). P p.0) x es holds) ih

-- what follows from it holds too
pub holds_map : (P Q : ℕ → Type 0) → ((n : ℕ) → P n → Q n) → (es : Packets) → HoldsOfAll P es → HoldsOfAll Q es
holds_map P Q f [] holds = All-nil (λ (p : Numbered). Q p.0)
holds_map P Q f (x ∷ es) holds =
    All-cons (λ (p : Numbered). Q p.0) x es (f x.0 (All-head (λ (p : Numbered). P p.0) x es holds)) (holds_map P Q f es (All-tail (λ (p : Numbered). P p.0) x es holds))

-- behind a number all lie above it
above_holds : (m : ℕ) (es : Packets) → AllByRecursion (λ y. nat_cmp m y ≡ Less) (keys_of es) → HoldsOfAll (λ n. m ≤ n) es
above_holds m [] above = All-nil (λ (p : Numbered). m ≤ p.0)
above_holds m (x ∷ es) above =
    let l : m < x.0 = ranked m x.0 Less (sym above.0) in
    All-cons (λ (p : Numbered). m ≤ p.0) x es (omega (arith, l)) (above_holds m es above.1)

-- the first that passes a test is the least that does
pub oldest_holds : (test : ℕ → Bool) (es : Packets) (k : ℕ) → Ascends es → Some k ≡ option_map (λ p. p.0) (oldest (filter (λ p. test p.0) es)) → HoldsOfAll (λ n. test n ≡ true → k ≤ n) es
oldest_holds test [] k up e = absurd cc
oldest_holds test (x ∷ es) k up e = go (test x.0) refl e (oldest_holds test es k (sorted_tail nat_cmp x.0 (keys_of es) up))
  where
    go : (b : Bool) → test x.0 ≡ b → Some k ≡ option_map (λ p. p.0) (oldest (cond b (x ∷ filter (λ p. test p.0) es) (filter (λ p. test p.0) es))) → (Some k ≡ option_map (λ p. p.0) (oldest (filter (λ p. test p.0) es)) → HoldsOfAll (λ n. test n ≡ true → k ≤ n) es) → HoldsOfAll (λ n. test n ≡ true → k ≤ n) (x ∷ es)
    go true is f ih =
        let same : k ≡ x.0 = cc in
        let rest = holds_map (λ n. x.0 ≤ n) (λ n. test n ≡ true → k ≤ n) (λ n l passes. omega (arith, same, l)) es (above_holds x.0 es (sorted_head nat_cmp x.0 (keys_of es) up)) in
        All-cons (λ (p : Numbered). test p.0 ≡ true → k ≤ p.0) x es (λ passes. omega (arith, same)) rest
    go false is f ih = All-cons (λ (p : Numbered). test p.0 ≡ true → k ≤ p.0) x es (λ passes. let no : true ≡ false = sym passes ∙ is in absurd cc) (ih f)

-- one of the tail is one fewer
pub tail_without : (greatest : Option ℕ) (es : Packets) (k : ℕ) (v : TrackedPacket) → at es k ≡ Some v → length (tail greatest es) ≡ length (tail greatest (without es k)) + one_if (is_behind greatest k)
tail_without greatest [] k v e = absurd (some_none v e)
tail_without greatest (x ∷ es) k v e = go (is_at (nat_cmp k) x.0) refl e (tail_without greatest es k v)
  where
    go : (b : Bool) → is_at (nat_cmp k) x.0 ≡ b → cond b (Some x.1) (at es k) ≡ Some v
        → (at es k ≡ Some v → length (tail greatest es) ≡ length (tail greatest (without es k)) + one_if (is_behind greatest k))
        → length (tail greatest (x ∷ es)) ≡ length (tail greatest (cond b es (x ∷ without es k))) + one_if (is_behind greatest k)
    go true is f ih =
        let same : k ≡ x.0 = eqb-true k x.0 (sym (unsigned_tied k x.0) ∙ is) in
        rw same (here (is_behind greatest x.0))
      where
        here : (b : Bool) → length (cond b (x ∷ tail greatest es) (tail greatest es)) ≡ length (tail greatest es) + one_if b
        here true = omega arith
        here false = omega arith
    go false is f ih = there (is_behind greatest x.0) (ih f)
      where
        there : (b : Bool) → length (tail greatest es) ≡ length (tail greatest (without es k)) + one_if (is_behind greatest k)
            → length (cond b (x ∷ tail greatest es) (tail greatest es)) ≡ length (cond b (x ∷ tail greatest (without es k)) (tail greatest (without es k))) + one_if (is_behind greatest k)
        there true h = omega (arith, h)
        there false h = h

-- what is added where another is taken out
pub exchanged : (es new left : Packets) (n k : ℕ) (v : TrackedPacket) → Ascends es → (k ≡ n → ⊥) → new ≡ added es n v → left ≡ without new k → left ≡ added (without es k) n v
exchanged es new left n k v up ne is out = out ∙ ap (λ (l : Packets). without l k) is ∙ added_apart es n k v up ne

pub found_apart : (es new : Packets) (n k : ℕ) (v : TrackedPacket) (r : Option TrackedPacket) → (k ≡ n → ⊥) → new ≡ added es n v → r ≡ at new k → r ≡ at es k
found_apart es new n k v r ne is found = found ∙ ap (λ (l : Packets). at l k) is ∙ at-apart es n v k ne

pub replaced : (es new : Packets) (n k : ℕ) (v : TrackedPacket) → Ascends es → k ≡ n → new ≡ added es n v → new ≡ added (without es k) n v
replaced es new n k v up same is = is ∙ sym (added_again es n v up) ∙ ap (λ (m : ℕ). added (without es m) n v) (sym same)

-- whether a number is there once another is taken out
pub left_other : (es : Packets) (n k : ℕ) (there same : Bool) → Ascends es → there ≡ is_some (at es n) → same ≡ (k == n) → (there && not same) ≡ is_some (at (without es k) n)
left_other es n k there same up is equal = go same refl
  where
    go : (b : Bool) → same ≡ b → (there && not b) ≡ is_some (at (without es k) n)
    go true e =
        let here : k ≡ n = eqb-true k n (sym equal ∙ e) in
        none there ∙ sym (ap (λ (o : Option TrackedPacket). is_some o) (ap (λ (m : ℕ). at (without es m) n) here ∙ at-without es n up))
      where
        none : (b : Bool) → (b && false) ≡ false
        none true = refl
        none false = refl
    go false e =
        let apart : n ≡ k → ⊥ = λ (h : n ≡ k). differ (sym e ∙ equal ∙ eq-eqb k n (sym h)) in
        all there ∙ is ∙ ap (λ (o : Option TrackedPacket). is_some o) (sym (at-without-apart es k n apart))
      where
        all : (b : Bool) → (b && true) ≡ b
        all true = refl
        all false = refl

        differ : false ≡ true → ⊥
        differ h = cc

-- a packet that comes where none has its number
tail_new : (greatest : Option ℕ) (es : Packets) (n : ℕ) (v : TrackedPacket) → at es n ≡ None → length (tail greatest (added es n v)) ≡ length (tail greatest es) + one_if (is_behind greatest n)
tail_new greatest [] n v none = one (is_behind greatest n)
  where
    one : (b : Bool) → length {A = Numbered} (cond b ((n, v) ∷ []) []) ≡ 0 + one_if b
    one true = omega arith
    one false = refl
tail_new greatest (x ∷ es) n v none = go (nat_cmp n x.0) none (tail_new greatest es n v)
  where
    go : (r : Ordering) → cond (is_eq r) (Some x.1) (at es n) ≡ None → (at es n ≡ None → length (tail greatest (added es n v)) ≡ length (tail greatest es) + one_if (is_behind greatest n))
        → length (tail greatest (match_ordering r ((n, v) ∷ x ∷ es) ((x.0, v) ∷ es) (x ∷ added es n v))) ≡ length (tail greatest (x ∷ es)) + one_if (is_behind greatest n)
    go Less f ih = here (is_behind greatest n)
      where
        here : (b : Bool) → length (cond b ((n, v) ∷ tail greatest (x ∷ es)) (tail greatest (x ∷ es))) ≡ length (tail greatest (x ∷ es)) + one_if b
        here true = omega arith
        here false = omega arith
    go Equal f ih = absurd (some_none x.1 (sym f))
    go Greater f ih = there (is_behind greatest x.0) (ih f)
      where
        there : (b : Bool) → length (tail greatest (added es n v)) ≡ length (tail greatest es) + one_if (is_behind greatest n)
            → length (cond b (x ∷ tail greatest (added es n v)) (tail greatest (added es n v))) ≡ length (cond b (x ∷ tail greatest es) (tail greatest es)) + one_if (is_behind greatest n)
        there true h = omega (arith, h)
        there false h = h

-- and one that comes in any case
tail_added : (greatest : Option ℕ) (es : Packets) (n : ℕ) (v : TrackedPacket) → Ascends es → length (tail greatest (added es n v)) ≡ length (tail greatest es) + one_if (is_behind greatest n && not (is_some (at es n)))
tail_added greatest es n v up = go (at es n) refl
  where
    all : (b : Bool) → one_if b ≡ one_if (b && true)
    all true = refl
    all false = refl

    none : (b : Bool) → one_if (b && false) ≡ 0
    none true = refl
    none false = refl

    go : (o : Option TrackedPacket) → at es n ≡ o → length (tail greatest (added es n v)) ≡ length (tail greatest es) + one_if (is_behind greatest n && not (is_some o))
    go None e = tail_new greatest es n v e ∙ ap (λ (m : ℕ). length (tail greatest es) + m) (all (is_behind greatest n))
    go (Some u) e =
        let again = ap (λ (l : Packets). length (tail greatest l)) (sym (added_again es n v up)) in
        let more = tail_new greatest (without es n) n v (at-without es n up) in
        let fewer = tail_without greatest es n u e in
        let zero = none (is_behind greatest n) in
        omega (arith, again, more, fewer, zero)

-- ---- the oldest

-- what stands behind a number is another
pub other_behind : (es : Packets) (m k : ℕ) (v : TrackedPacket) → AllByRecursion (λ y. nat_cmp m y ≡ Less) (keys_of es) → at es k ≡ Some v → is_at (nat_cmp k) m ≡ false
other_behind [] m k v above found = absurd (some_none v found)
other_behind (e ∷ es) m k v above found = go (is_at (nat_cmp k) e.0) refl found (other_behind es m k v above.1)
  where
    go : (b : Bool) → is_at (nat_cmp k) e.0 ≡ b → cond b (Some e.1) (at es k) ≡ Some v → (at es k ≡ Some v → is_at (nat_cmp k) m ≡ false) → is_at (nat_cmp k) m ≡ false
    go true is f ih =
        let same : k ≡ e.0 = eqb-true k e.0 (sym (unsigned_tied k e.0) ∙ is) in
        let l : m < e.0 = ranked m e.0 Less (sym above.0) in
        unsigned_tied k m ∙ ne_eqb k m (λ (e : k ≡ m). omega arith)
    go false is f ih = ih f

-- the first packet that passes a test is there, and passes
pub record Stands (test : ℕ → Bool) (es : Table TrackedPacket) (k : ℕ) (v : TrackedPacket) : Type 0 where
  pub there : at es k ≡ Some v
  pub passes : test k ≡ true

pub oldest_stands : (test : ℕ → Bool) (es : Packets) (k : ℕ) (v : TrackedPacket) → Ascends es → oldest (filter (λ p. test p.0) es) ≡ Some (k, v) → Stands test es k v
oldest_stands test [] k v up e = absurd cc
oldest_stands test (x ∷ es) k v up e = go (test x.0) refl e (oldest_stands test es k v (sorted_tail nat_cmp x.0 (keys_of es) up))
  where
    go : (b : Bool) → test x.0 ≡ b → oldest (cond b (x ∷ filter (λ p. test p.0) es) (filter (λ p. test p.0) es)) ≡ Some (k, v) → (oldest (filter (λ p. test p.0) es) ≡ Some (k, v) → Stands test es k v) → Stands test (x ∷ es) k v
    go true is f ih =
        let same : x ≡ (k, v) = cc in
        let here : is_at (nat_cmp k) x.0 ≡ true = unsigned_tied k x.0 ∙ eq-eqb k x.0 (sym (ap (λ (y : Numbered). y.0) same)) in
        record { there = rw here (ap (λ (y : Numbered). Some y.1) same); passes = ap (λ (y : Numbered). test y.0) (sym same) ∙ is }
    go false is f ih =
        let s = ih f in
        let apart = other_behind es x.0 k v (sorted_head nat_cmp x.0 (keys_of es) up) s.there in
        record { there = rw apart s.there; passes = s.passes }

-- ---- what is forgotten

-- what is forgotten is there, and is one of the tail
pub record Goes (t : Tracking) (p : TrackedPacket) (o : Option ℕ) : Type 0 where
  pub found : at_if o t.packets ≡ option_map (λ p. p.1) (forgotten t p)
  pub left : without_if o t.packets ≡ without_packet (forgotten t p) t.packets
  pub fewer : length (tail_of t) ≡ length (tail t.greatest_asking (without_if o t.packets)) + one_if (is_some (forgotten t p))

goes_none : (t : Tracking) (p : TrackedPacket) → forgotten t p ≡ None → Goes t p None
goes_none t p e = record { found = rw e refl; left = rw e refl; fewer = rw e (omega arith) }

goes_with : (t : Tracking) (p : TrackedPacket) (k : ℕ) (v : TrackedPacket) → forgotten t p ≡ Some (k, v) → Stands (is_behind t.greatest_asking) t.packets k v → Goes t p (Some k)
goes_with t p k v e s =
    let fewer = tail_without t.greatest_asking t.packets k v s.there in
    record { found = rw e s.there; left = rw e refl; fewer = rw e (rw s.passes at fewer) }

pub goes : (t : Tracking) (p : TrackedPacket) (o : Option ℕ) → Ascends t.packets → o ≡ option_map (λ p. p.0) (forgotten t p) → Goes t p o
goes t p o up is = go (forgets t p) refl
  where
    go : (b : Bool) → forgets t p ≡ b → Goes t p o
    go false few =
        let none : forgotten t p ≡ None = ap (λ (b : Bool). cond b (oldest (tail_of t)) None) few in
        subst (Goes t p) (sym (rw none at is)) (goes_none t p none)
    go true many = with (oldest (tail_of t)) refl
      where
        first : forgotten t p ≡ oldest (tail_of t)
        first = ap (λ (b : Bool). cond b (oldest (tail_of t)) None) many

        with : (f : Option Numbered) → oldest (tail_of t) ≡ f → Goes t p o
        with None e =
            let none : forgotten t p ≡ None = first ∙ e in
            subst (Goes t p) (sym (rw none at is)) (goes_none t p none)
        with (Some q) e =
            let found : forgotten t p ≡ Some (q.0, q.1) = first ∙ e in
            subst (Goes t p) (sym (rw found at is)) (goes_with t p q.0 q.1 found (oldest_stands (is_behind t.greatest_asking) t.packets q.0 q.1 up e))

-- ---- what is asked of the tail

-- the packets from its start on are the tail, where that start has 64 bits, and so are those from a
-- number on below which it has none
tail_from : (greatest : Option ℕ) (low : ℕ) (es : Packets) → ((g : ℕ) → greatest ≡ Some g → g + 1 < 2 ^ 64) → HoldsOfAll (IsBehindFrom greatest low) es → from (max (tail_start greatest) low) es ≡ tail greatest es
tail_from greatest low [] small holds = refl
tail_from greatest low (x ∷ es) small holds = rw (same greatest small (All-head (λ (p : Numbered). IsBehindFrom greatest low p.0) x es holds), tail_from greatest low es small (All-tail (λ (p : Numbered). IsBehindFrom greatest low p.0) x es holds)) refl
  where
    same : (o : Option ℕ) → ((g : ℕ) → o ≡ Some g → g + 1 < 2 ^ 64) → IsBehindFrom o low x.0 → nat_le (max (tail_start o) low) x.0 ≡ is_behind o x.0
    same None s h = let l : low ≤ x.0 = h refl in le-leb (max 0 low) x.0 (omega (arith, l))
    same (Some g) s h = behind (nat_lt g x.0) refl
      where
        fits : g + 1 < 2 ^ 64
        fits = s g refl

        behind : (b : Bool) → nat_lt g x.0 ≡ b → nat_le (max (tail_start (Some g)) low) x.0 ≡ b
        behind true is =
            let l : low ≤ x.0 = h is in
            let above : g < x.0 = grind (arith, is) in
            le-leb (max (min (g + 1) (2 ^ 64 - 1)) low) x.0 (omega (arith, l, above))
        behind false is =
            let under : x.0 ≤ g = grind (arith, is) in
            lt-leb (max (min (g + 1) (2 ^ 64 - 1)) low) x.0 (omega (arith, under, fits))

-- no tail lies above the greatest number of 64 bits
tail_past : (g : ℕ) (es : Packets) → 2 ^ 64 ≤ g + 1 → LieBelow (2 ^ 64) es → tail (Some g) es ≡ []
tail_past g [] most below = refl
tail_past g (x ∷ es) most below =
    let under : x.0 < 2 ^ 64 = All-head (λ (p : Numbered). p.0 < 2 ^ 64) x es below in
    let apart : nat_lt g x.0 ≡ false = grind (arith, most, under) in
    rw apart (tail_past g es most (All-tail (λ (p : Numbered). p.0 < 2 ^ 64) x es below))

-- so it has a start where there is one
tail_fits : (greatest : Option ℕ) (es : Packets) → 0 < length (tail greatest es) → LieBelow (2 ^ 64) es → (g : ℕ) → greatest ≡ Some g → g + 1 < 2 ^ 64
tail_fits greatest es some below g is = ⊎_elim (λ (l : g + 1 < 2 ^ 64). l) past (cases_lt (g + 1) (2 ^ 64))
  where
    past : 2 ^ 64 ≤ g + 1 → g + 1 < 2 ^ 64
    past le =
        let none : length (tail greatest es) ≡ 0 = ap (λ (o : Option ℕ). length (tail o es)) is ∙ ap (λ (l : Packets). length l) (tail_past g es le below) in
        absurd (omega (arith, some, none))

-- the oldest of a long tail is forgotten
pub forgets_oldest : (t : Tracking) (p : TrackedPacket) (low : ℕ) → p.asks ≡ false → 1000 < length (tail_of t) → LieBelow (2 ^ 64) t.packets → HoldsOfAll (IsBehindFrom t.greatest_asking low) t.packets
    → option_map (λ p. p.0) (oldest (from (max (tail_start t.greatest_asking) low) t.packets)) ≡ option_map (λ p. p.0) (forgotten t p)
forgets_oldest t p low silent long below holds =
    let many : nat_lt 1000 (length (tail_of t)) ≡ true = grind arith in
    rw (tail_from t.greatest_asking low t.packets (tail_fits t.greatest_asking t.packets (omega (arith, long)) below) holds, silent, many) refl

-- none is forgotten otherwise
pub asking_keeps : (t : Tracking) (p : TrackedPacket) → p.asks ≡ true → forgotten t p ≡ None
asking_keeps t p asks = rw asks refl

pub short_keeps : (t : Tracking) (p : TrackedPacket) → length (tail_of t) ≤ 1000 → forgotten t p ≡ None
short_keeps t p short =
    let few : nat_lt 1000 (length (tail_of t)) ≡ false = grind arith in
    rw few (elim p.asks as (λ b. cond (not b && false) (oldest (tail_of t)) None ≡ None) [ true ↦ refl | false ↦ refl ])

-- where the tail is long, one is forgotten
pub long_forgets : (t : Tracking) (p : TrackedPacket) → p.asks ≡ false → 1000 < length (tail_of t) → is_some (forgotten t p) ≡ true
long_forgets t p silent long =
    let many : nat_lt 1000 (length (tail_of t)) ≡ true = grind arith in
    rw (silent, many) (filled (tail_of t) (omega arith))
  where
    filled : (es : Packets) → 0 < length es → is_some (oldest es) ≡ true
    filled [] h = absurd (omega arith)
    filled (x ∷ es) h = refl

-- ---- a packet is taken out

pub taken_counted : (greatest : Option ℕ) (es new : Packets) (k : ℕ) (v : TrackedPacket) (count : ℕ) → Some v ≡ at es k → new ≡ without es k → count ≡ length (tail greatest es) → count ≡ length (tail greatest new) + one_if (is_behind greatest k)
taken_counted greatest es new k v count there left counted = counted ∙ tail_without greatest es k v (sym there) ∙ ap (λ (l : Packets). length (tail greatest l) + one_if (is_behind greatest k)) (sym left)

-- ---- the count once a packet went that doesn't ask

some_mapped : (f : Option Numbered) → is_some (option_map (λ p. p.1) f) ≡ is_some f
some_mapped None = refl
some_mapped (Some q) = refl

forgot_some : (t : Tracking) (p : TrackedPacket) (o : Option ℕ) (r : Option TrackedPacket) → Goes t p o → r ≡ at_if o t.packets → is_some r ≡ is_some (forgotten t p)
forgot_some t p o r g taken = ap (λ (r : Option TrackedPacket). is_some r) (taken ∙ g.found) ∙ some_mapped (forgotten t p)

-- where nothing was, the tail is short
pub none_short : (t : Tracking) (p : TrackedPacket) (o : Option ℕ) (r : Option TrackedPacket) (some : Bool) (count : ℕ) → p.asks ≡ false → Goes t p o → r ≡ at_if o t.packets → some ≡ is_some r → count ≡ length (tail_of t) → some ≡ false → count ≤ 1000
none_short t p o r some count silent g taken so counts h = within (nat_lt 1000 count) refl
  where
    within : (b : Bool) → nat_lt 1000 count ≡ b → count ≤ 1000
    within false e = grind arith
    within true e =
        let long : 1000 < length (tail_of t) = (let l : 1000 < count = grind arith in omega (arith, l, counts)) in
        let no : false ≡ true = sym h ∙ so ∙ forgot_some t p o r g taken ∙ long_forgets t p silent long in
        absurd cc

ascends_if : (o : Option ℕ) (es : Packets) → Ascends es → Ascends (without_if o es)
ascends_if None es up = up
ascends_if (Some k) es up = sorted-without es k up

pub tail_counts : (t : Tracking) (n : ℕ) (p : TrackedPacket) (o : Option ℕ) (new : Packets) (r : Option TrackedPacket) (some comes : Bool) (count result : ℕ)
    → Ascends t.packets → Goes t p o → r ≡ at_if o t.packets → new ≡ added (without_if o t.packets) n p → some ≡ is_some r
    → comes ≡ (is_behind t.greatest_asking n && not (is_some (at (without_if o t.packets) n))) → count ≡ length (tail_of t)
    → result ≡ count - one_if some + one_if comes → result ≡ length (tail t.greatest_asking new)
tail_counts t n p o new r some comes count result up g taken is so so_comes counts results =
    let some_is : one_if some ≡ one_if (is_some (forgotten t p)) = ap one_if (so ∙ forgot_some t p o r g taken) in
    let fewer = g.fewer in
    let come = ap one_if so_comes in
    let more = tail_added t.greatest_asking (without_if o t.packets) n p (ascends_if o t.packets up) in
    let after = ap (λ (l : Packets). length (tail t.greatest_asking l)) is in
    omega (arith, some_is, fewer, come, more, after, counts, results)

-- ---- the count once one went that asks

-- the packets above a number are the tail
pub above_tail : (g : ℕ) (es : Packets) → from (g + 1) es ≡ tail (Some g) es
above_tail g [] = refl
above_tail g (x ∷ es) = let same : nat_le (g + 1) x.0 ≡ nat_lt g x.0 = grind arith in rw (same, above_tail g es) refl

-- behind the greatest number there is none
pub none_from : (m : ℕ) (es : Packets) → LieBelow m es → from m es ≡ []
none_from m [] below = refl
none_from m (x ∷ es) below =
    let l : x.0 < m = All-head (λ (p : Numbered). p.0 < m) x es below in
    let past : nat_le m x.0 ≡ false = lt-leb m x.0 l in
    rw past (none_from m es (All-tail (λ (p : Numbered). p.0 < m) x es below))

-- what is tracked once it went
pub silent_sent : (t : Tracking) (n : ℕ) (p : TrackedPacket) (after : Packets) → p.asks ≡ false → after ≡ added (without_packet (forgotten t p) t.packets) n p → record t { packets = after } ≡ after_sent t n p
silent_sent t n p after silent left =
    ap (λ (es : Packets). record t { packets = es }) left
    ∙ ap (λ (b : Bool). asking_sent b n p.time_sent (record t { packets = added (without_packet (forgotten t p) t.packets) n p })) (sym silent)

-- where the oldest of the tail is forgotten, if one is, the tail has none below it, nor below a
-- lesser number
pub forgetting_holds : (t : Tracking) (p : TrackedPacket) (o : Option ℕ) (low m : ℕ) → Ascends t.packets → o ≡ option_map (λ p. p.0) (forgotten t p) → m ≤ unwrap_or o low
    → HoldsOfAll (IsBehindFrom t.greatest_asking low) t.packets → HoldsOfAll (IsBehindFrom t.greatest_asking m) t.packets
forgetting_holds t p None low m up is le holds = holds_map (IsBehindFrom t.greatest_asking low) (IsBehindFrom t.greatest_asking m) (λ n h passes. let l : low ≤ n = h passes in omega (arith, l, le)) t.packets holds
forgetting_holds t p (Some k) low m up is le holds = go (forgets t p) is
  where
    go : (b : Bool) → Some k ≡ option_map (λ p. p.0) (cond b (oldest (tail_of t)) None) → HoldsOfAll (IsBehindFrom t.greatest_asking m) t.packets
    go false e = absurd cc
    go true e =
        holds_map (IsBehindFrom t.greatest_asking k) (IsBehindFrom t.greatest_asking m) (λ n h passes. let l : k ≤ n = h passes in omega (arith, l, le)) t.packets (oldest_holds (is_behind t.greatest_asking) t.packets k up e)

-- ---- what holds of all numbers goes on to hold

pub holds_added : (P : ℕ → Type 0) (es : Packets) (n : ℕ) (v : TrackedPacket) → P n → HoldsOfAll P es → HoldsOfAll P (added es n v)
holds_added P [] n v here holds = All-cons (λ (p : Numbered). P p.0) (n, v) [] here holds
holds_added P (x ∷ es) n v here holds = go (nat_cmp n x.0) (holds_added P es n v here rest)
  where
    rest : HoldsOfAll P es
    rest = All-tail (λ (p : Numbered). P p.0) x es holds

    first : P x.0
    first = All-head (λ (p : Numbered). P p.0) x es holds

    go : (r : Ordering) → HoldsOfAll P (added es n v) → HoldsOfAll P (match_ordering r ((n, v) ∷ x ∷ es) ((x.0, v) ∷ es) (x ∷ added es n v))
    go Less ih = All-cons (λ (p : Numbered). P p.0) (n, v) (x ∷ es) here holds
    go Equal ih = All-cons (λ (p : Numbered). P p.0) (x.0, v) es first rest
    go Greater ih = All-cons (λ (p : Numbered). P p.0) x (added es n v) first ih

pub holds_without : (P : ℕ → Type 0) (es new : Packets) (k : ℕ) → new ≡ without es k → HoldsOfAll P es → HoldsOfAll P new
holds_without P es new k left holds = All-same (λ (p : Numbered). P p.0) new (without es k) left (holds_left P es k holds)

pub holds_without_if : (P : ℕ → Type 0) (es new : Packets) (o : Option ℕ) → new ≡ without_if o es → HoldsOfAll P es → HoldsOfAll P new
holds_without_if P es new None left holds = All-same (λ (p : Numbered). P p.0) new es left holds
holds_without_if P es new (Some k) left holds = holds_without P es new k left holds

-- once a packet went
pub holds_sent : (P : ℕ → Type 0) (es new : Packets) (o : Option ℕ) (n : ℕ) (v : TrackedPacket) → new ≡ added (without_if o es) n v → P n → HoldsOfAll P es → HoldsOfAll P new
holds_sent P es new o n v is here holds =
    All-same (λ (p : Numbered). P p.0) new (added (without_if o es) n v) is (holds_added P (without_if o es) n v here (holds_without_if P es (without_if o es) o refl holds))

-- ---- a record is taken from a packet

pub put_tail : (greatest : Option ℕ) (es : Packets) (k : ℕ) (v : TrackedPacket) → length (tail greatest es) ≡ length (tail greatest (put es k v))
put_tail greatest [] k v = refl
put_tail greatest (x ∷ es) k v = go (is_at (nat_cmp k) x.0) (put_tail greatest es k v)
  where
    go : (b : Bool) → length (tail greatest es) ≡ length (tail greatest (put es k v)) → length (tail greatest (x ∷ es)) ≡ length (tail greatest (cond b ((x.0, v) ∷ es) (x ∷ put es k v)))
    go true ih = same (is_behind greatest x.0)
      where
        same : (b : Bool) → length (cond b (x ∷ tail greatest es) (tail greatest es)) ≡ length (cond b ((x.0, v) ∷ tail greatest es) (tail greatest es))
        same true = omega arith
        same false = refl
    go false ih = same (is_behind greatest x.0)
      where
        same : (b : Bool) → length (cond b (x ∷ tail greatest es) (tail greatest es)) ≡ length (cond b (x ∷ tail greatest (put es k v)) (tail greatest (put es k v)))
        same true = omega (arith, ih)
        same false = ih

pub holds_put : (P : ℕ → Type 0) (es : Packets) (k : ℕ) (v : TrackedPacket) → HoldsOfAll P es → HoldsOfAll P (put es k v)
holds_put P [] k v holds = holds
holds_put P (x ∷ es) k v holds = go (is_at (nat_cmp k) x.0) (holds_put P es k v rest)
  where
    rest : HoldsOfAll P es
    rest = All-tail (λ (p : Numbered). P p.0) x es holds

    here : P x.0
    here = All-head (λ (p : Numbered). P p.0) x es holds

    go : (b : Bool) → HoldsOfAll P (put es k v) → HoldsOfAll P (cond b ((x.0, v) ∷ es) (x ∷ put es k v))
    go true ih = All-cons (λ (p : Numbered). P p.0) (x.0, v) es here rest
    go false ih = All-cons (λ (p : Numbered). P p.0) x (put es k v) here ih

-- what is left where a record was taken from a packet that is there
pub put_at : (es new : Packets) (k : ℕ) (p : TrackedPacket) → Some p ≡ at es k → IfSome (at es k) (λ p. new ≡ put es k (without_record p)) → new ≡ put es k (without_record p)
put_at es new k p there left = subst (λ (o : Option TrackedPacket). IfSome o (λ p. new ≡ put es k (without_record p))) (sym there) left

pub put_counted : (greatest : Option ℕ) (es new : Packets) (k : ℕ) (v : TrackedPacket) (count : ℕ) → new ≡ put es k v → count ≡ length (tail greatest es) → count ≡ length (tail greatest new)
put_counted greatest es new k v count is counts = counts ∙ put_tail greatest es k v ∙ ap (λ (l : Packets). length (tail greatest l)) (sym is)

pub holds_same : (P : ℕ → Type 0) (es new : Packets) (k : ℕ) (v : TrackedPacket) → new ≡ put es k v → HoldsOfAll P es → HoldsOfAll P new
holds_same P es new k v is holds = All-same (λ (p : Numbered). P p.0) new (put es k v) is (holds_put P es k v holds)
