-- The queue follows the halves.
use Rattle.std.proofs.Common.{◌≡◌, ℕ, ◌+◌, ◌<◌, List, [], ◌∷◌, Bool, true, false, cond, Option, Some, None, refl, sym, ap, ◌∙◌, arith, ◌⊎◌, inl, inr}
use Rattle.std.specs.Prelude.{not}
use Rattle.std.specs.Ordering.{nat_cmp, match_ordering, is_eq}
use Rattle.std.specs.declared.cmp.Ordering.{Ordering}
use Rattle.std.specs.declared.cmp.Ordering.TheVariants.{Less, Equal, Greater}
use Rattle.std.specs.Cmp.{IsTotalOrder, nat_cmp_total, then_total, on_total}
use Rattle.std.specs.List.{AllByRecursion}
use Rattle.std.specs.BTreeMap.{is_at, insert_entry}
use Rattle.std.specs.Map.{lookup, remove_entry}
use Rattle.std.proofs.lemmas.Bool.{cases_eq, cases_Bool}
use Rattle.std.proofs.lemmas.Map.Lookups.{exact_pairs, exact_unsigned}
use Rattle.quic_streams_parts.specs.Queue.{Place, Queue, place_cmp, after_push, after_remove}
use Rattle.quic_streams_laws.specs.EntryLaws.{is_equal, inserted-here, inserted-apart, sorted-inserted, removed-here, removed-apart, sorted-removed}
use Rattle.quic_streams_laws.specs.Queued.{standing_at, Stand}

-- the order of places
place_total : IsTotalOrder place_cmp
place_total = then_total (on_total (λ (p : Place). p.0) nat_cmp_total) (on_total (λ (p : Place). p.1) nat_cmp_total)

place_equal : (a b : Place) → place_cmp a b ≡ Equal → a ≡ b
place_equal = exact_pairs nat_cmp nat_cmp exact_unsigned exact_unsigned

place_cases : (a b : Place) → (a ≡ b) ⊎ (is_eq (place_cmp a b) ≡ false)
place_cases a b = elim (cases_Bool (is_eq (place_cmp a b))) [
  | inl e ↦ inl (place_equal a b (is_equal (place_cmp a b) e))
  | inr e ↦ inr e
]

-- a turn at which a stream stands was given before
turn_before : (es : List (Place × ℕ)) (n : ℕ) (p : Place) (id : ℕ) → AllByRecursion (λ e. e.0.1 < n) es → lookup (is_at (place_cmp p)) es ≡ Some id → p.1 < n
turn_before [] n p id a e = cc
turn_before (x ∷ es) n p id a e = go (is_at (place_cmp p) x.0) refl e (turn_before es n p id a.1)
  where
    go : (b : Bool) → is_at (place_cmp p) x.0 ≡ b → cond b (Some x.1) (lookup (is_at (place_cmp p)) es) ≡ Some id → (lookup (is_at (place_cmp p)) es ≡ Some id → p.1 < n) → p.1 < n
    go true is f ih = let same : p.1 ≡ x.0.1 = ap (λ (q : Place). q.1) (place_equal p x.0 (is_equal (place_cmp p x.0) is)) in let l = a.0 in omega arith
    go false is f ih = ih f

earlier_more : (es : List (Place × ℕ)) (n : ℕ) → AllByRecursion (λ e. e.0.1 < n) es → AllByRecursion (λ e. e.0.1 < n + 1) es
earlier_more [] n h = h
earlier_more (e ∷ es) n h = let l = h.0 in (omega arith, earlier_more es n h.1)

earlier_inserted : (es : List (Place × ℕ)) (n rank id : ℕ) → AllByRecursion (λ e. e.0.1 < n) es → AllByRecursion (λ e. e.0.1 < n + 1) (insert_entry place_cmp es (rank, n) id)
earlier_inserted [] n rank id h = (omega arith, tt)
earlier_inserted (e ∷ es) n rank id h = go (place_cmp (rank, n) e.0) (earlier_inserted es n rank id h.1)
  where
    go : (r : Ordering) → AllByRecursion (λ e. e.0.1 < n + 1) (insert_entry place_cmp es (rank, n) id) → AllByRecursion (λ e. e.0.1 < n + 1) (match_ordering r (((rank, n), id) ∷ e ∷ es) ((e.0, id) ∷ es) (e ∷ insert_entry place_cmp es (rank, n) id))
    go Less ih = (omega arith, earlier_more (e ∷ es) n h)
    go Equal ih = let l = h.0 in (omega arith, earlier_more es n h.1)
    go Greater ih = let l = h.0 in (omega arith, ih)

earlier_removed : (test : Place → Bool) (es : List (Place × ℕ)) (n : ℕ) → AllByRecursion (λ e. e.0.1 < n) es → AllByRecursion (λ e. e.0.1 < n) (remove_entry test es)
earlier_removed test [] n h = h
earlier_removed test (e ∷ es) n h = go (test e.0) (earlier_removed test es n h.1)
  where
    go : (b : Bool) → AllByRecursion (λ e. e.0.1 < n) (remove_entry test es) → AllByRecursion (λ e. e.0.1 < n) (cond b es (e ∷ remove_entry test es))
    go true ih = h.1
    go false ih = (h.0, ih)

none_is : {A : Type 0} (o : Option A) (a : A) → o ≡ None → o ≡ Some a → ⊥
none_is o a e f = cc

-- ---- where the halves stand

-- they stand where they stood
pub stand_same : (q : Queue) (f g : ℕ → Option Place) → ((id : ℕ) → g id ≡ f id) → Stand q f → Stand q g
stand_same q f g same s = record { sorted = s.sorted; earlier = s.earlier; stands = λ id p e. same id ∙ s.stands id p e; placed = λ id p e. s.placed id p (sym (same id) ∙ e) }

-- one that stood nowhere comes behind its equals
pub stand_pushed : (q : Queue) (f g : ℕ → Option Place) (rank id : ℕ) → f id ≡ None → g id ≡ Some (rank, q.next) → ((j : ℕ) → (j ≡ id → ⊥) → g j ≡ f j) → Stand q f → Stand (after_push q rank id) g
stand_pushed q f g rank id none here apart s = record {
  sorted = sorted-inserted place_cmp place_total q.entries (rank, q.next) id s.sorted;
  earlier = record { earlier = earlier_inserted q.entries q.next rank id s.earlier.earlier };
  stands = stands;
  placed = placed;
}
  where
    there : standing_at (after_push q rank id) (rank, q.next) ≡ Some id
    there = inserted-here place_cmp place_total q.entries (rank, q.next) id

    stands : (j : ℕ) (p : Place) → standing_at (after_push q rank id) p ≡ Some j → g j ≡ Some p
    stands j p e = elim (place_cases p (rank, q.next)) [
      | inl same ↦
          let both : Some j ≡ Some id = sym e ∙ (ap (λ x. standing_at (after_push q rank id) x) same ∙ there) in
          let j_is : j ≡ id = cc in
          ap g j_is ∙ here ∙ ap (λ x. Some x) (sym same)
      | inr ne ↦
          let old : f j ≡ Some p = s.stands j p (sym (inserted-apart place_cmp place_total q.entries (rank, q.next) id p ne) ∙ e) in
          elim (cases_eq j id) [
            | inl j_is ↦ absurd (none_is (f id) p none (ap f (sym j_is) ∙ old))
            | inr not ↦ apart j not ∙ old
          ]
    ]

    placed : (j : ℕ) (p : Place) → g j ≡ Some p → standing_at (after_push q rank id) p ≡ Some j
    placed j p e = elim (cases_eq j id) [
      | inl j_is ↦
          let both : Some p ≡ Some (rank, q.next) = sym e ∙ (ap g j_is ∙ here) in
          let p_is : p ≡ (rank, q.next) = cc in
          ap (λ x. standing_at (after_push q rank id) x) p_is ∙ (there ∙ ap (λ x. Some x) (sym j_is))
      | inr not ↦
          let old : standing_at q p ≡ Some j = s.placed j p (sym (apart j not) ∙ e) in
          let before : p.1 < q.next = turn_before q.entries q.next p j s.earlier.earlier old in
          elim (place_cases p (rank, q.next)) [
            | inl same ↦ absurd (let turn : p.1 ≡ q.next = ap (λ (x : Place). x.1) same in omega arith)
            | inr ne ↦ inserted-apart place_cmp place_total q.entries (rank, q.next) id p ne ∙ old
          ]
    ]

-- one that stood somewhere leaves
pub stand_removed : (q : Queue) (f g : ℕ → Option Place) (place : Place) (id : ℕ) → f id ≡ Some place → g id ≡ None → ((j : ℕ) → (j ≡ id → ⊥) → g j ≡ f j) → Stand q f → Stand (after_remove q place) g
stand_removed q f g place id some here apart s = record {
  sorted = sorted-removed place_cmp place_total q.entries place s.sorted;
  earlier = record { earlier = earlier_removed (is_at (place_cmp place)) q.entries q.next s.earlier.earlier };
  stands = stands;
  placed = placed;
}
  where
    gone : standing_at (after_remove q place) place ≡ None
    gone = removed-here place_cmp place_total q.entries place s.sorted

    stands : (j : ℕ) (p : Place) → standing_at (after_remove q place) p ≡ Some j → g j ≡ Some p
    stands j p e = elim (place_cases p place) [
      | inl same ↦ absurd (none_is (standing_at (after_remove q place) place) j gone (ap (λ x. standing_at (after_remove q place) x) (sym same) ∙ e))
      | inr ne ↦
          let was : standing_at q p ≡ Some j = sym (removed-apart place_cmp place_total q.entries place p ne) ∙ e in
          let old : f j ≡ Some p = s.stands j p was in
          elim (cases_eq j id) [
            | inl j_is ↦ absurd (
                let both : Some p ≡ Some place = sym old ∙ (ap f j_is ∙ some) in
                let p_is : p ≡ place = cc in
                none_is (standing_at (after_remove q place) place) j gone (ap (λ x. standing_at (after_remove q place) x) (sym p_is) ∙ e))
            | inr not ↦ apart j not ∙ old
          ]
    ]

    placed : (j : ℕ) (p : Place) → g j ≡ Some p → standing_at (after_remove q place) p ≡ Some j
    placed j p e = elim (cases_eq j id) [
      | inl j_is ↦ absurd (none_is (g id) p here (ap g (sym j_is) ∙ e))
      | inr not ↦
          let old : standing_at q p ≡ Some j = s.placed j p (sym (apart j not) ∙ e) in
          elim (place_cases p place) [
            | inl same ↦ absurd (
                let both : Some j ≡ Some id = sym old ∙ (ap (λ x. standing_at q x) same ∙ s.placed id place some) in
                let j_is : j ≡ id = cc in not j_is)
            | inr ne ↦ removed-apart place_cmp place_total q.entries place p ne ∙ old
          ]
    ]
