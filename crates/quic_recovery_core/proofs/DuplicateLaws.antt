-- What is told apart after numbers came, and what is missing then.
use Rattle.std.proofs.Common.{◌≡◌, ℕ, suc, zero, ◌+◌, ◌-◌, ◌≤◌, ◌<◌, ◌⊎◌, ◌↔◌, Bool, true, false, max, Option, Some, None, List, [], ◌∷◌, refl, sym, ap, ◌∙◌, subst, inl, inr, arith}
use Rattle.std.specs.Prelude.{◌&&◌, not, nat_lt, IsTrue, MatchOption}
use Rattle.std.specs.List.{find, range_with_len}
use Rattle.std.proofs.lemmas.Bool.{cases_lt, cases_eq, cases_Bool, and_parts, and_from, or_parts, or_cases, or_left, or_right, leb-true, leb-false, ltb-true, le-leb, lt-leb, lt-ltb, not-true, not-false, not_from_false, false_from_ne_true, cond-true, cond-false}
use Rattle.quic_recovery_core.specs.Duplicates.{Seen, is_in, put, next_of, is_near, is_duplicate, with_number, is_missing, smallest_missing}
use Rattle.quic_recovery_core.specs.DuplicateRuns.{seen_after, Came, IsFarBelow, Lacks, IsLeastLacking}
use Rattle.quic_recovery_core.specs.declared.spaces.dedup.TheConstants.{DUPLICATE_SPAN}
use Rattle.quic_recovery_core.proofs.Descending.{In, Descend, is_in-tells, in-is_in, below_bound, in_put, put_in, put_descends, in_filter, filter_in, filter_descends, descend_more}

-- the greatest of numbers that descend from it is the first
top : (g : ℕ) (ns : List ℕ) → Descend (g + 1) ns → In g ns → next_of ns ≡ g + 1
top g [] d h = absurd h
top g (n ∷ ns) d (inl e) = omega (arith, e)
top g (n ∷ ns) d (inr h) = absurd (let lt = below_bound g n ns d.1 h in omega (arith, lt, d.0))

-- the numbers told apart are those that came and are near, and the greatest is one of them
record Stands (ns : List ℕ) (s : Seen) : Type 0 where
  descends : Descend (next_of s) s
  below : (k : ℕ) → Came ns k → k < next_of s
  greatest : (next_of s ≡ 0) ⊎ ((g : ℕ) × Came ns g × (next_of s ≡ g + 1))
  told : (k : ℕ) → In k s → Came ns k × (next_of s ≤ k + DUPLICATE_SPAN)
  kept : (k : ℕ) → Came ns k → next_of s ≤ k + DUPLICATE_SPAN → In k s

near_tells : (s : Seen) (n : ℕ) → is_near (next_of s) n ≡ true → next_of s ≤ n + DUPLICATE_SPAN
near_tells s n e = leb-true (next_of s) (n + DUPLICATE_SPAN) e

far_tells : (s : Seen) (n : ℕ) → is_near (next_of s) n ≡ false → n + DUPLICATE_SPAN < next_of s
far_tells s n e = leb-false (next_of s) (n + DUPLICATE_SPAN) e

duplicate_tells : (s : Seen) (n : ℕ) → is_duplicate s n ≡ true → In n s ⊎ (n + DUPLICATE_SPAN < next_of s)
duplicate_tells s n e = elim (or_cases (is_in s n) (not (is_near (next_of s) n)) e) [
  | inl h ↦ inl (is_in-tells s n h)
  | inr far ↦ inr (far_tells s n (not-true (is_near (next_of s) n) far))
]

stands_again : (n : ℕ) (ns : List ℕ) (s : Seen) → Stands ns s → is_duplicate s n ≡ true → Stands (n ∷ ns) s
stands_again n ns s h e =
    let d = duplicate_tells s n e in
    let low : n < next_of s = elim d [ inl i ↦ h.below n (h.told n i).0 | inr far ↦ omega (arith, far) ] in
    record {
      descends = h.descends;
      below = λ k c. elim c [ inl is ↦ omega (arith, is, low) | inr came ↦ h.below k came ];
      greatest = elim h.greatest [ inl none ↦ inl none | inr g ↦ inr (g.0, inr g.1, g.2) ];
      told = λ k i. let t = h.told k i in (inr t.0, t.1);
      kept = λ k c near. elim c [
        | inl is ↦ elim d [
          | inl i ↦ subst (λ (m : ℕ). In m s) (sym is) i
          | inr far ↦ absurd (omega (arith, is, far, near))
        ]
        | inr came ↦ h.kept k came near
      ];
    }

stands_new : (n : ℕ) (ns : List ℕ) (s : Seen) → Stands ns s → is_duplicate s n ≡ false → Stands (n ∷ ns) (with_number s n)
stands_new n ns s h e =
    let parts = or_parts (is_in s n) (not (is_near (next_of s) n)) e in
    let fresh : In n s → ⊥ = λ i. let t : is_in s n ≡ true = in-is_in s n i in let u = parts.0 in cc in
    let near_n = near_tells s n (not-false (is_near (next_of s) n) parts.1) in
    let up = max (next_of s) (n + 1) in
    let near = is_near up in
    let put_down : Descend up (put n s) = put_descends up n s (descend_more (next_of s) up s (omega arith) h.descends) (omega arith) fresh in
    let down : Descend up (with_number s n) = filter_descends near up (put n s) put_down in
    let into : (k : ℕ) → In k (with_number s n) → (up ≤ k + DUPLICATE_SPAN) × ((k ≡ n) ⊎ In k s) = λ k i. (let f = in_filter near k (put n s) i in (leb-true up (k + DUPLICATE_SPAN) f.0, in_put n k s f.1)) in
    let from : (k : ℕ) → up ≤ k + DUPLICATE_SPAN → (k ≡ n) ⊎ In k s → In k (with_number s n) = λ k le c. filter_in near k (put n s) (le-leb up (k + DUPLICATE_SPAN) le) (put_in n k s c) in
    let next : next_of (with_number s n) ≡ up = elim (cases_lt n (next_of s)) [
      | inr le ↦ (let is : up ≡ n + 1 = omega (arith, le) in
          top n (with_number s n) (descend_more up (n + 1) (with_number s n) (omega (arith, is)) down) (from n (omega (arith, is)) (inl refl)) ∙ sym is)
      | inl lt ↦ elim h.greatest [
        | inl none ↦ absurd (omega (arith, lt, none))
        | inr g ↦ (let last = g.2 in
            let is : up ≡ g.0 + 1 = omega (arith, lt, last) in
            let held : In g.0 s = h.kept g.0 g.1 (omega (arith, last)) in
            top g.0 (with_number s n) (descend_more up (g.0 + 1) (with_number s n) (omega (arith, is)) down) (from g.0 (omega (arith, is)) (inr held)) ∙ sym is)
      ]
    ] in
    record {
      descends = descend_more up (next_of (with_number s n)) (with_number s n) (omega (arith, next)) down;
      below = λ k c. elim c [ inl is ↦ omega (arith, is, next) | inr came ↦ (let lt = h.below k came in omega (arith, lt, next)) ];
      greatest = elim (cases_lt n (next_of s)) [
        | inr le ↦ inr (n, inl refl, omega (arith, le, next))
        | inl lt ↦ elim h.greatest [
          | inl none ↦ absurd (omega (arith, lt, none))
          | inr g ↦ (let last = g.2 in inr (g.0, inr g.1, omega (arith, lt, last, next)))
        ]
      ];
      told = λ k i. let t = into k i in
          let t0 = t.0 in
          (elim t.1 [ inl is ↦ inl is | inr old ↦ inr (h.told k old).0 ], omega (arith, t0, next));
      kept = λ k c le. from k (omega (arith, le, next)) (elim c [
        | inl is ↦ inl is
        | inr came ↦ inr (h.kept k came (omega (arith, le, next)))
      ]);
    }

stands : (ns : List ℕ) → Stands ns (seen_after ns)
stands [] = record { descends = tt; below = λ k c. absurd c; greatest = inl refl; told = λ k i. absurd i; kept = λ k c le. absurd c }
stands (n ∷ ns) =
    let s = seen_after ns in
    elim (cases_Bool (is_duplicate s n)) [
      | inl again ↦ subst (λ (t : Seen). Stands (n ∷ ns) t) (sym (cond-true (is_duplicate s n) s (with_number s n) again)) (stands_again n ns s (stands ns) again)
      | inr new ↦ subst (λ (t : Seen). Stands (n ∷ ns) t) (sym (cond-false (is_duplicate s n) s (with_number s n) new)) (stands_new n ns s (stands ns) new)
    ]

-- ---- duplicates

far_below : (ns : List ℕ) (k : ℕ) → IsFarBelow ns k → (n : ℕ) × Came ns n × (k + DUPLICATE_SPAN ≤ n)
far_below [] k h = absurd h
far_below (n ∷ ns) k (inl le) = (n, inl refl, le)
far_below (n ∷ ns) k (inr h) = let t = far_below ns k h in (t.0, inr t.1, t.2)

is_far : (ns : List ℕ) (n k : ℕ) → Came ns n → k + DUPLICATE_SPAN ≤ n → IsFarBelow ns k
is_far [] n k c le = absurd c
is_far (m ∷ ns) n k (inl e) le = inl (omega (arith, e, le))
is_far (m ∷ ns) n k (inr c) le = inr (is_far ns n k c le)

far_from : (ns : List ℕ) (s : Seen) (k : ℕ) → Stands ns s → k + DUPLICATE_SPAN < next_of s → IsFarBelow ns k
far_from ns s k h lt = elim h.greatest [
  | inl none ↦ absurd (omega (arith, lt, none))
  | inr g ↦ (let last = g.2 in is_far ns g.0 k g.1 (omega (arith, lt, last)))
]

far_to : (ns : List ℕ) (s : Seen) (k : ℕ) → Stands ns s → IsFarBelow ns k → k + DUPLICATE_SPAN < next_of s
far_to ns s k h far = let t = far_below ns k far in let lt = h.below t.0 t.1 in let le = t.2 in omega (arith, lt, le)

duplicate_from : (s : Seen) (n : ℕ) → In n s ⊎ (n + DUPLICATE_SPAN < next_of s) → is_duplicate s n ≡ true
duplicate_from s n (inl i) = or_left (is_in s n) (not (is_near (next_of s) n)) (in-is_in s n i)
duplicate_from s n (inr lt) = or_right (is_in s n) (not (is_near (next_of s) n)) (not_from_false (is_near (next_of s) n) (lt-leb (next_of s) (n + DUPLICATE_SPAN) lt))

pub duplicates : (ns : List ℕ) (n : ℕ) → IsTrue (is_duplicate (seen_after ns) n) ↔ (Came ns n ⊎ IsFarBelow ns n)
duplicates ns n =
    let s = seen_after ns in
    let h = stands ns in (
      λ t. elim (duplicate_tells s n t) [ inl i ↦ inl (h.told n i).0 | inr far ↦ inr (far_from ns s n h far) ],
      λ c. duplicate_from s n (elim c [
        | inr far ↦ inr (far_to ns s n h far)
        | inl came ↦ elim (cases_lt (n + DUPLICATE_SPAN) (next_of s)) [ inl lt ↦ inr lt | inr le ↦ inl (h.kept n came le) ]
      ]),
    )

-- ---- missing numbers

later : (p : ℕ → Bool) (n a : ℕ) → p a ≡ false → (o : Option ℕ) → MatchOption o ((k : ℕ) → a + 1 ≤ k → k < a + 1 + n → p k ≡ false) (λ m. (a + 1 ≤ m) × (m < a + 1 + n) × (p m ≡ true) × ((j : ℕ) → a + 1 ≤ j → j < m → p j ≡ false)) → MatchOption o ((k : ℕ) → a ≤ k → k < a + suc n → p k ≡ false) (λ m. (a ≤ m) × (m < a + suc n) × (p m ≡ true) × ((j : ℕ) → a ≤ j → j < m → p j ≡ false))
later p n a fails None h = λ k from to. elim (cases_eq k a) [
  | inl is ↦ ap p is ∙ fails
  | inr other ↦ h k (omega (arith, from, other)) (omega (arith, to))
]
later p n a fails (Some m) h =
    let h0 = h.0 in
    let h1 = h.1 in
    (omega (arith, h0), omega (arith, h1), h.2, λ j from to. elim (cases_eq j a) [ inl is ↦ ap p is ∙ fails | inr other ↦ h.3 j (omega (arith, from, other)) to ])

find_first : (p : ℕ → Bool) (n a : ℕ) → MatchOption (find p (range_with_len a n)) ((k : ℕ) → a ≤ k → k < a + n → p k ≡ false) (λ m. (a ≤ m) × (m < a + n) × (p m ≡ true) × ((j : ℕ) → a ≤ j → j < m → p j ≡ false))
find_first p zero a = λ k from to. absurd (omega (arith, from, to))
find_first p (suc n) a = elim (cases_Bool (p a)) [
  | inl passes ↦ subst (λ (o : Option ℕ). MatchOption o ((k : ℕ) → a ≤ k → k < a + suc n → p k ≡ false) (λ m. (a ≤ m) × (m < a + suc n) × (p m ≡ true) × ((j : ℕ) → a ≤ j → j < m → p j ≡ false)))
      (sym (cond-true (p a) (Some a) (find p (range_with_len (a + 1) n)) passes)) (omega arith, omega arith, passes, λ j from to. absurd (omega (arith, from, to)))
  | inr fails ↦ subst (λ (o : Option ℕ). MatchOption o ((k : ℕ) → a ≤ k → k < a + suc n → p k ≡ false) (λ m. (a ≤ m) × (m < a + suc n) × (p m ≡ true) × ((j : ℕ) → a ≤ j → j < m → p j ≡ false)))
      (sym (cond-false (p a) (Some a) (find p (range_with_len (a + 1) n)) fails)) (later p n a fails (find p (range_with_len (a + 1) n)) (find_first p n (a + 1)))
]

lacks_from : (ns : List ℕ) (k : ℕ) → is_missing (seen_after ns) k ≡ true → Lacks ns k
lacks_from ns k e =
    let s = seen_after ns in
    let h = stands ns in
    let parts = and_parts (is_near (next_of s) k) (nat_lt k (next_of s) && not (is_in s k)) e in
    let rest = and_parts (nat_lt k (next_of s)) (not (is_in s k)) parts.1 in
    let near = near_tells s k parts.0 in
    let low = ltb-true k (next_of s) rest.0 in
    let out : In k s → ⊥ = λ i. let t : is_in s k ≡ true = in-is_in s k i in let u : is_in s k ≡ false = not-true (is_in s k) rest.1 in cc in (
      λ came. out (h.kept k came near),
      λ far. let lt = far_to ns s k h far in omega (arith, lt, near),
      elim h.greatest [
        | inl none ↦ absurd (omega (arith, low, none))
        | inr g ↦ (let last = g.2 in
            let other : k ≡ g.0 → ⊥ = λ is. out (h.kept k (subst (λ (m : ℕ). Came ns m) (sym is) g.1) near) in
            (g.0, g.1, omega (arith, low, last, other)))
      ],
    )

lacks_to : (ns : List ℕ) (k : ℕ) → is_missing (seen_after ns) k ≡ false → Lacks ns k → ⊥
lacks_to ns k e l =
    let s = seen_after ns in
    let h = stands ns in
    let over = h.below l.2.0 l.2.1 in
    let lt = l.2.2 in
    let low : nat_lt k (next_of s) ≡ true = lt-ltb k (next_of s) (omega (arith, over, lt)) in
    let near : is_near (next_of s) k ≡ true = elim (cases_lt (k + DUPLICATE_SPAN) (next_of s)) [
      | inl far ↦ absurd (l.1 (far_from ns s k h far))
      | inr le ↦ le-leb (next_of s) (k + DUPLICATE_SPAN) le
    ] in
    let out : not (is_in s k) ≡ true = not_from_false (is_in s k) (false_from_ne_true (is_in s k) (λ t. l.0 (h.told k (is_in-tells s k t)).0)) in
    let t : is_missing s k ≡ true = and_from (is_near (next_of s) k) (nat_lt k (next_of s) && not (is_in s k)) near (and_from (nat_lt k (next_of s)) (not (is_in s k)) low out) in
    cc

found : (ns : List ℕ) (low high : ℕ) (o : Option ℕ) → MatchOption o ((k : ℕ) → low + 1 ≤ k → k < low + 1 + (high - (low + 1)) → is_missing (seen_after ns) k ≡ false) (λ m. (low + 1 ≤ m) × (m < low + 1 + (high - (low + 1))) × (is_missing (seen_after ns) m ≡ true) × ((j : ℕ) → low + 1 ≤ j → j < m → is_missing (seen_after ns) j ≡ false)) → MatchOption o ((k : ℕ) → low < k → k < high → Lacks ns k → ⊥) (IsLeastLacking ns low high)
found ns low high None h = λ k from to. lacks_to ns k (h k (omega (arith, from)) (omega (arith, from, to)))
found ns low high (Some m) h =
    let h0 = h.0 in
    let h1 = h.1 in
    (omega (arith, h0), omega (arith, h0, h1), lacks_from ns m h.2, λ j from to. lacks_to ns j (h.3 j (omega (arith, from)) to))

pub missing : (ns : List ℕ) (low high : ℕ) → MatchOption (smallest_missing (seen_after ns) low high) ((k : ℕ) → low < k → k < high → Lacks ns k → ⊥) (IsLeastLacking ns low high)
missing ns low high = found ns low high (smallest_missing (seen_after ns) low high) (find_first (λ k. is_missing (seen_after ns) k) (high - (low + 1)) (low + 1))
