-- A read in words of sets: the chunk that it gives, and where a part begins behind it.
use Rattle.std.proofs.Common.{◌≡◌, ℕ, ◌+◌, ◌-◌, ◌<◌, ◌≤◌, ◌==◌, ltb, length, List, [], ◌∷◌, take, drop, Bool, true, false, not, ◌&&◌, ◌||◌, cond, Some, None, Option, refl, sym, ap, ◌∙◌, subst, arith, length-take, length-drop, ◌⊎◌, inl, inr}
use Rattle.std.specs.Option.{is_some}
use Rattle.std.specs.Result.{IfOk, OnOk}
use Rattle.std.specs.declared.result.Result.{Result}
use Rattle.std.specs.declared.result.Result.TheVariants.{Ok, Err}
use Rattle.std.proofs.lemmas.Bool.{ltb-true, ltb-false, lt-ltb, le-ltb, eqb-true, eq-eqb, ne_eqb, cases_lt, cases_order, or_left, or_right}
use Rattle.std.proofs.lemmas.Option.{slice_get-get_or}
use Rattle.quic_assembler.specs.declared.assembler.Chunk.{Chunk}
use Rattle.quic_assembler.specs.Arrived.{Arrived, AreApart, IsLawful, is_given, byte_at, waits, is_next, given, first_given, left_by, left_front, shortened, given_in, after_read_in, given_by, after_read, in_chunk}
use Rattle.quic_sets.specs.Parts.{Part, start}
use Rattle.quic_assembler.specs.Waiting.{begins_part, end_of, IsChunk, IsRead, IsLeft}
use Rattle.quic_sets.proofs.Parts.Bytes.{get-take, from_within}
use Rattle.quic_assembler.proofs.Arrived.Bytes.{at_below, next_waits}
use Rattle.quic_assembler.proofs.Calls.Inserted.{begins_above}
use Rattle.quic_assembler.proofs.Arrived.Lawful.{or_false, read_lawful, read_given, read_leaves}
use Rattle.quic_assembler.proofs.Arrived.Picking.{from_start}
use Rattle.quic_assembler.proofs.Arrived.Runs.{in_part, in_past}

-- ---- a part begins at the offset where the parts do
next_begins : (at : ℕ) (ps : List Part) → is_next ps at ≡ true → begins_part ps at ≡ true
next_begins at [] e = e
next_begins at (p ∷ ps) e = or_left (start p == at) (begins_part ps at) e

pub waits_begins : (at : ℕ) (ps : List Part) → AreApart at ps → waits ps at ≡ true → begins_part ps at ≡ true
waits_begins at ps h w = next_begins at ps (next_waits at ps h ∙ w)

-- ---- the chunk of the first part
abbrev cut : ℕ → Part → Chunk
cut most p = record { offset = start p; bytes = take most p.1 }

or_not : (x y : Bool) → (y ≡ true → x ≡ true) → (x || not y) ≡ true
or_not true y f = refl
or_not false true f = f refl
or_not false false f = refl

or_same : (x y : Bool) → (y ≡ true → x ≡ true) → (x || y) ≡ x
or_same true y f = refl
or_same false true f = sym (f refl)
or_same false false f = refl

-- behind a whole part one begins, or nothing waits
whole_end : (low : ℕ) (p : Part) (ps : List Part) → AreApart low (p ∷ ps) → (begins_part (p ∷ ps) p.0 || not (waits (p ∷ ps) p.0)) ≡ true
whole_end low p ps h =
    let big = h.0 in
    let full = h.1 in
    or_not (begins_part (p ∷ ps) p.0) (waits (p ∷ ps) p.0) (λ w. or_right (start p == p.0) (begins_part ps p.0) (waits_begins p.0 ps h.2 (sym (in_past low p ps p.0 h (omega arith)) ∙ w)))

first_chunk : (a : Arrived) (low most : ℕ) (p : Part) (ps : List Part) → AreApart low (p ∷ ps) → IsChunk (record a { parts = p ∷ ps }) (start p) most (cut most p)
first_chunk a low most p ps h =
    let big = h.0 in
    let full = h.1 in
    let t = length-take most p.1 in
    record {
      offset = refl;
      bytes = λ i l.
          let w = from_within (start p) p.1 (start p + i) (omega arith) (omega arith) in
          let d : start p + i - start p ≡ i = omega arith in
          get-take most i p.1 (omega arith) ∙ slice_get-get_or p.1 i 0 (omega arith) ∙ sym (rw (w, d) refl);
      few = omega arith;
      some = λ l. omega arith;
      inside = λ i k l. rw (ne_eqb (start p) (start p + i) (λ e. omega arith)) (begins_above p.0 (start p + i) ps h.2 (omega arith));
      whole = λ l.
          let e : p.0 ≡ start p + length (take most p.1) = omega arith in
          subst (λ n. (begins_part (p ∷ ps) n || not (waits (p ∷ ps) n)) ≡ true) e (whole_end low p ps h);
    }

-- ---- what a read gives
first_read : (a : Arrived) (most : ℕ) (ps : List Part) → a.unordered ≡ true → AreApart a.read ps → IsRead (record a { parts = ps }) most (first_given ps most)
first_read a most [] u h = record { ordered = λ e. refl; unordered = λ e. refl }
first_read a most (p ∷ ps) u h =
    let big = h.0 in
    let full = h.1 in
    let other : a.unordered ≡ false → start p ≡ a.read = λ e. (let no : true ≡ false = sym u ∙ e in cc) in (
      record {
        waiting = in_part a.read p ps (start p) h (omega arith) (omega arith);
        ordered = other;
        least = λ e o l. at_below (start p) (p ∷ ps) o (from_start a.read p ps h) l;
      },
      first_chunk a a.read most p ps h,
    )

next_read : (a : Arrived) (most : ℕ) (ps : List Part) → a.unordered ≡ false → AreApart a.read ps → IsRead (record a { parts = ps }) most (given ps a.read most)
next_read a most [] u h = record { ordered = λ e. refl; unordered = λ e. refl }
next_read a most (p ∷ ps) u h = go (start p == a.read) refl
  where
    none : (x : Option ℕ) → is_some x ≡ false → x ≡ None
    none None e = refl
    none (Some x) e = cc

    differ : (T : Type 0) → a.unordered ≡ true → T
    differ T e = let no : false ≡ true = sym u ∙ e in cc

    go : (b : Bool) → (start p == a.read) ≡ b → IsRead (record a { parts = p ∷ ps }) most (cond b (Some (record { offset = a.read; bytes = take most p.1 })) None)
    go true q =
        let big = h.0 in
        let full = h.1 in
        let same = eqb-true (start p) a.read q in (
          record {
            waiting = in_part a.read p ps a.read h (omega arith) (omega arith);
            ordered = λ e. refl;
            least = λ e o l. at_below a.read (p ∷ ps) o h l;
          },
          subst (λ n. IsChunk (record a { parts = p ∷ ps }) n most (record { offset = n; bytes = take most p.1 })) same (first_chunk a a.read most p ps h),
        )
    go false q = record {
      ordered = λ e. none (byte_at (p ∷ ps) a.read) (sym (next_waits a.read (p ∷ ps) h) ∙ q);
      unordered = λ e. differ (p ∷ ps ≡ []) e;
    }

pub is_read : (a : Arrived) (most : ℕ) → IsLawful a → IsRead a most (given_by a most)
is_read a most h = go a.unordered refl
  where
    go : (b : Bool) → a.unordered ≡ b → IsRead a most (given_in b a most)
    go true q = first_read a most a.parts q h.apart
    go false q = next_read a most a.parts q h.apart

-- ---- where a part begins behind it
abbrev Begins : ℕ → Part → List Part → List Part → ℕ → Type 0
Begins most p ps qs o = begins_part qs o ≡ (not (in_chunk (Some (cut most p)) o) && (begins_part (p ∷ ps) o || (o == end_of (cut most p) && waits (p ∷ ps) o)))

-- by whether an offset is in a chunk
beyond : (at z o : ℕ) (x y r : Bool) → z ≤ o → at ≤ z → r ≡ (x || (o == z && y)) → r ≡ (not (not (ltb o at) && ltb o z) && (x || (o == z && y)))
beyond at z o x y r l m e = rw (le-ltb o at (omega arith), le-ltb o z l) e

within : (at z o : ℕ) (y r : Bool) → at ≤ o → o < z → r ≡ false → r ≡ (not (not (ltb o at) && ltb o z) && y)
within at z o y r l m e = rw (le-ltb o at l, lt-ltb o z m) e

ahead : (at z o : ℕ) (x y r : Bool) → o < at → at ≤ z → r ≡ false → x ≡ false → r ≡ (not (not (ltb o at) && ltb o z) && (x || (o == z && y)))
ahead at z o x y r l m e d = rw (lt-ltb o at l, ne_eqb o z (λ q. omega arith), d) e

cut_begins : (low most : ℕ) (p : Part) (ps : List Part) (o : ℕ) → AreApart low (p ∷ ps) → most < length p.1 → Begins most p ps ((p.0, drop most p.1) ∷ ps) o
cut_begins low most p ps o h l = go (cases_lt o (start p)) (cases_order o (start p + length (take most p.1))) h.0
  where
    begin : low + length p.1 ≤ p.0 → p.0 - length (drop most p.1) ≡ start p + length (take most p.1)
    begin big =
        let t = length-take most p.1 in
        let d = length-drop most p.1 in
        omega arith

    past : low + length p.1 ≤ p.0 → start p + length (take most p.1) < p.0
    past big = let t = length-take most p.1 in omega arith

    go : (o < start p) ⊎ (start p ≤ o) → (o ≡ start p + length (take most p.1)) ⊎ ((o < start p + length (take most p.1)) ⊎ (start p + length (take most p.1) < o)) → low + length p.1 ≤ p.0 → Begins most p ps ((p.0, drop most p.1) ∷ ps) o
    go (inl k) t big =
        let b = begin big in
        let f = past big in
        let none = begins_above p.0 o ps h.2 (omega arith) in
        ahead (start p) (start p + length (take most p.1)) o (begins_part (p ∷ ps) o) (waits (p ∷ ps) o) _ k (omega arith) (rw (ne_eqb (p.0 - length (drop most p.1)) o (λ q. omega arith)) none) (rw (ne_eqb (start p) o (λ q. omega arith)) none)
    go (inr k) (inl e) big =
        let b = begin big in
        let f = past big in
        let w = in_part low p ps o h k (omega arith) in
        beyond (start p) (start p + length (take most p.1)) o (begins_part (p ∷ ps) o) (waits (p ∷ ps) o) _ (omega arith) (omega arith)
        (ap (λ x. x || begins_part ps o) (eq-eqb (p.0 - length (drop most p.1)) o (b ∙ sym e)) ∙ sym (or_right (begins_part (p ∷ ps) o) ((o == start p + length (take most p.1)) && waits (p ∷ ps) o) (rw (eq-eqb o (start p + length (take most p.1)) e) w)))
    go (inr k) (inr (inl m)) big =
        let b = begin big in
        let f = past big in
        within (start p) (start p + length (take most p.1)) o _ _ k m (rw (ne_eqb (p.0 - length (drop most p.1)) o (λ q. omega arith)) (begins_above p.0 o ps h.2 (omega arith)))
    go (inr k) (inr (inr m)) big =
        let b = begin big in
        let f = past big in
        beyond (start p) (start p + length (take most p.1)) o (begins_part (p ∷ ps) o) (waits (p ∷ ps) o) _ (omega arith) (omega arith)
        (rw (ne_eqb (p.0 - length (drop most p.1)) o (λ q. omega arith), ne_eqb (start p) o (λ q. omega arith), ne_eqb o (start p + length (take most p.1)) (λ q. omega arith)) (sym (or_false (begins_part ps o))))

gone_begins : (low most : ℕ) (p : Part) (ps : List Part) (o : ℕ) → AreApart low (p ∷ ps) → length p.1 ≤ most → Begins most p ps ps o
gone_begins low most p ps o h l = go (cases_lt o (start p)) (cases_order o (start p + length (take most p.1))) h.0 h.1
  where
    begin : low + length p.1 ≤ p.0 → start p + length (take most p.1) ≡ p.0
    begin big = let t = length-take most p.1 in omega arith

    go : (o < start p) ⊎ (start p ≤ o) → (o ≡ start p + length (take most p.1)) ⊎ ((o < start p + length (take most p.1)) ⊎ (start p + length (take most p.1) < o)) → low + length p.1 ≤ p.0 → 0 < length p.1 → Begins most p ps ps o
    go (inl k) t big full =
        let b = begin big in
        let none = begins_above p.0 o ps h.2 (omega arith) in
        ahead (start p) (start p + length (take most p.1)) o (begins_part (p ∷ ps) o) (waits (p ∷ ps) o) _ k (omega arith) none (rw (ne_eqb (start p) o (λ q. omega arith)) none)
    go (inr k) (inl e) big full =
        let b = begin big in
        let at : o ≡ p.0 = e ∙ b in
        let w = in_past low p ps o h (omega arith) in
        let starts : waits ps o ≡ true → begins_part ps o ≡ true = subst (λ n. waits ps n ≡ true → begins_part ps n ≡ true) (sym at) (waits_begins p.0 ps h.2) in
        beyond (start p) (start p + length (take most p.1)) o (begins_part (p ∷ ps) o) (waits (p ∷ ps) o) _ (omega arith) (omega arith)
        (rw (ne_eqb (start p) o (λ q. omega arith), eq-eqb o (start p + length (take most p.1)) e) (sym (ap (λ x. begins_part ps o || x) w ∙ or_same (begins_part ps o) (waits ps o) starts)))
    go (inr k) (inr (inl m)) big full =
        let b = begin big in
        within (start p) (start p + length (take most p.1)) o _ _ k m (begins_above p.0 o ps h.2 (omega arith))
    go (inr k) (inr (inr m)) big full =
        let b = begin big in
        beyond (start p) (start p + length (take most p.1)) o (begins_part (p ∷ ps) o) (waits (p ∷ ps) o) _ (omega arith) (omega arith)
        (rw (ne_eqb (start p) o (λ q. omega arith), ne_eqb o (start p + length (take most p.1)) (λ q. omega arith)) (sym (or_false (begins_part ps o))))

shorter_begins : (low most : ℕ) (p : Part) (ps : List Part) (o : ℕ) → AreApart low (p ∷ ps) → Begins most p ps (shortened most p ps) o
shorter_begins low most p ps o h = go (ltb most (length p.1)) refl
  where
    go : (b : Bool) → ltb most (length p.1) ≡ b → Begins most p ps (cond b ((p.0, drop most p.1) ∷ ps) ps) o
    go true q = cut_begins low most p ps o h (ltb-true most (length p.1) q)
    go false q = gone_begins low most p ps o h (ltb-false most (length p.1) q)

-- ---- what is left behind it
abbrev BeginsBehind : Option Chunk → List Part → List Part → ℕ → Type 0
BeginsBehind None ps qs o = Unit {0}
BeginsBehind (Some chunk) ps qs o = begins_part qs o ≡ (not (in_chunk (Some chunk) o) && (begins_part ps o || (o == end_of chunk && waits ps o)))

first_behind : (low most o : ℕ) (ps : List Part) → AreApart low ps → BeginsBehind (first_given ps most) ps (left_front ps most) o
first_behind low most o [] h = tt
first_behind low most o (p ∷ ps) h = shorter_begins low most p ps o h

next_behind : (read most o : ℕ) (ps : List Part) → AreApart read ps → BeginsBehind (given ps read most) ps (left_by ps read most) o
next_behind read most o [] h = tt
next_behind read most o (p ∷ ps) h = go (start p == read) refl
  where
    go : (b : Bool) → (start p == read) ≡ b → BeginsBehind (cond b (Some (record { offset = read; bytes = take most p.1 })) None) (p ∷ ps) (cond b (shortened most p ps) (p ∷ ps)) o
    go true q = subst (λ n. BeginsBehind (Some (record { offset = n; bytes = take most p.1 })) (p ∷ ps) (shortened most p ps) o) (eqb-true (start p) read q) (shorter_begins read most p ps o h)
    go false q = tt

read_begins : (a : Arrived) (most o : ℕ) → IsLawful a → BeginsBehind (given_by a most) a.parts (after_read a most).parts o
read_begins a most o h = go a.unordered
  where
    go : (b : Bool) → BeginsBehind (given_in b a most) a.parts (after_read_in b a most).parts o
    go true = first_behind a.read most o a.parts h.apart
    go false = next_behind a.read most o a.parts h.apart

read_order : (a : Arrived) (most : ℕ) → (after_read a most).unordered ≡ a.unordered
read_order a most = go a.unordered
  where
    go : (b : Bool) → (after_read_in b a most).unordered ≡ a.unordered
    go true = refl
    go false = refl

read_place : (a : Arrived) (most : ℕ) → a.unordered ≡ true → (after_read a most).read ≡ a.read
read_place a most u = rw u refl

-- nothing changes where a read gives nothing
none_left : (a : Arrived) (most : ℕ) → given_by a most ≡ None → after_read a most ≡ a
none_left a most e = go a.unordered e
  where
    next : (ps : List Part) → given ps a.read most ≡ None → left_by ps a.read most ≡ ps
    next [] e = refl
    next (p ∷ ps) e = pick (start p == a.read) e
      where
        pick : (b : Bool) → cond {A = Option Chunk} b (Some (record { offset = a.read; bytes = take most p.1 })) None ≡ None → cond b (shortened most p ps) (p ∷ ps) ≡ p ∷ ps
        pick true e = cc
        pick false e = refl

    go : (b : Bool) → given_in b a most ≡ None → after_read_in b a most ≡ a
    go true e = all a.parts e
      where
        all : (ps : List Part) → first_given ps most ≡ None → after_read_in true (record a { parts = ps }) most ≡ record a { parts = ps }
        all [] e = refl
        all (p ∷ ps) e = cc
    go false e = rw (e, next a.parts e) refl

pub is_left : (a : Arrived) (most : ℕ) → IsLawful a → IsLeft a (given_by a most) (after_read a most)
is_left a most h = go (given_by a most) refl (λ o. read_leaves a most o h) (λ o. read_given a most o h) (λ o. read_begins a most o h)
  where
    go : (c : Option Chunk) → given_by a most ≡ c → ((o : ℕ) → byte_at (after_read a most).parts o ≡ cond (in_chunk c o) None (byte_at a.parts o)) → ((o : ℕ) → is_given (after_read a most) o ≡ (in_chunk c o || is_given a o)) → ((o : ℕ) → BeginsBehind c a.parts (after_read a most).parts o) → IsLeft a c (after_read a most)
    go None e w g b = none_left a most e
    go (Some chunk) e w g b = record {
      waiting = w;
      given = g;
      begins = b;
      order = read_order a most;
      read = λ u. read_place a most u;
      lawful = read_lawful a most h;
    }

-- ---- as the call says it
pub ok_read : {E : Type 0} (r : Result (Option Chunk) E) (a : Arrived) (most : ℕ) (b : Bool) → IsLawful a → b ≡ a.unordered → IfOk r (λ chunk. chunk ≡ given_in b a most) → IfOk r (λ chunk. IsRead a most chunk)
ok_read (Ok x) a most b h e ok = subst (λ o. IsRead a most o) (sym (ok ∙ ap (λ t. given_in t a most) e)) (is_read a most h)
ok_read (Err x) a most b h e ok = tt

pub ok_left : {E : Type 0} (r : Result (Option Chunk) E) (a n : Arrived) (most : ℕ) (b : Bool) → IsLawful a → b ≡ a.unordered → IfOk r (λ chunk. chunk ≡ given_in b a most) → OnOk r (n ≡ after_read_in b a most) → IfOk r (λ chunk. IsLeft a chunk n)
ok_left (Ok x) a n most b h e ok new =
    subst (λ o. IsLeft a o n) (sym (ok ∙ ap (λ t. given_in t a most) e)) (subst (λ m. IsLeft a (given_by a most) m) (sym (new ∙ ap (λ t. after_read_in t a most) e)) (is_left a most h))
ok_left (Err x) a n most b h e ok new = tt
