-- The window as a set of numbers: which numbers its bits say came, and what each call changes.
use Rattle.std.proofs.Common.{◌≡◌, ◌≢◌, ℕ, suc, zero, ◌+◌, ◌-◌, ◌≤◌, ◌<◌, ◌⊎◌, true, false, max, refl, sym, ap, ◌∙◌, inl, inr, arith}
use Rattle.std.specs.Prelude.{◌==◌, not, nat_lt, filter}
use Rattle.std.specs.Int.{bit_at}
use Rattle.std.proofs.lemmas.Bool.{cases_lt, cases_eq, cases_Bool, eqb-true, eqb-false, eq-eqb, leb-true, le-leb, or_parts, not-false, false_from_ne_true}
use Rattle.std.proofs.lemmas.Bool.Decides.{nat_tests}
use Rattle.quic_recovery_core.specs.Duplicates.{is_in, put, next_of, is_near, is_duplicate, with_number, Seen}
use Rattle.quic_recovery_core.specs.declared.spaces.dedup.TheConstants.{DUPLICATE_SPAN, WINDOW_BITS}
use Rattle.quic_recovery_core.specs.DuplicateBits.{numbers_below, is_marked, seen}
use Rattle.quic_recovery_core.proofs.Descending.{In, Descend, is_in-tells, in-is_in, same_list, in_put, put_in, put_descends, in_filter, filter_in, filter_descends, descend_more}

-- ---- the numbers below one

pub numbers_descend : (n c : ℕ) → Descend n (numbers_below n c)
numbers_descend zero c = tt
numbers_descend (suc n) zero = tt
numbers_descend (suc n) (suc c) = (omega arith, numbers_descend n c)

pub in_numbers : (n c k : ℕ) → In k (numbers_below n c) → (k < n) × (n ≤ k + c)
in_numbers zero c k h = absurd h
in_numbers (suc n) zero k h = absurd h
in_numbers (suc n) (suc c) k (inl e) = (omega (arith, e), omega (arith, e))
in_numbers (suc n) (suc c) k (inr h) = let i = in_numbers n c k h in (omega (arith, i.0), omega (arith, i.1))

pub numbers_in : (n c k : ℕ) → k < n → n ≤ k + c → In k (numbers_below n c)
numbers_in zero c k lt le = absurd (omega (arith, lt))
numbers_in (suc n) zero k lt le = absurd (omega (arith, lt, le))
numbers_in (suc n) (suc c) k lt le = elim (cases_eq k n) [
  | inl e ↦ inl e
  | inr other ↦ inr (numbers_in n c k (omega (arith, lt, other)) (omega (arith, le)))
]

-- ---- the numbers that a window says came

-- the number lies near below the greatest and is it, or its bit is set
pub record Marks (next window k : ℕ) : Type 0 where
  pub below : k < next
  pub near : next ≤ k + DUPLICATE_SPAN
  pub marked : (k + 1 ≡ next) ⊎ (bit_at window (next - 2 - k) ≡ 1)

place_is : (g k : ℕ) → g - 1 - k ≡ suc g - 2 - k
place_is g k = omega arith

pub in_seen : (next window k : ℕ) → In k (seen next window) → Marks next window k
in_seen zero window k h = absurd h
in_seen (suc g) window k (inl e) = record { below = omega (arith, e); near = omega (arith, e); marked = inl (omega (arith, e)) }
in_seen (suc g) window k (inr h) =
    let i = in_filter (is_marked g window) k (numbers_below g WINDOW_BITS) h in
    let b = in_numbers g WINDOW_BITS k i.1 in
    record {
      below = omega (arith, b.0);
      near = omega (arith, b.1);
      marked = inr (ap (λ (p : ℕ). bit_at window p) (sym (place_is g k)) ∙ eqb-true (bit_at window (g - 1 - k)) 1 i.0);
    }

pub seen_in : (next window k : ℕ) → Marks next window k → In k (seen next window)
seen_in zero window k m = absurd (omega (arith, m.below))
seen_in (suc g) window k m = elim (cases_eq k g) [
  | inl e ↦ inl e
  | inr other ↦ (let lt : k < g = omega (arith, m.below, other) in
      let bit : bit_at window (suc g - 2 - k) ≡ 1 = elim m.marked [ inl e ↦ absurd (omega (arith, e, other)) | inr b ↦ b ] in
      inr (filter_in (is_marked g window) k (numbers_below g WINDOW_BITS) (eq-eqb (bit_at window (g - 1 - k)) 1 (ap (λ (p : ℕ). bit_at window p) (place_is g k) ∙ bit)) (numbers_in g WINDOW_BITS k lt (omega (arith, m.near)))))
]

pub seen_descends : (next window : ℕ) → Descend next (seen next window)
seen_descends zero window = tt
seen_descends (suc g) window = (omega arith, filter_descends (is_marked g window) g (numbers_below g WINDOW_BITS) (numbers_descend g WINDOW_BITS))

pub next_of-seen : (next window : ℕ) → next_of (seen next window) ≡ next
next_of-seen zero window = refl
next_of-seen (suc g) window = omega arith

-- ---- a new number

-- the window after a number has the numbers of the old one, and that number, as far as they are
-- near
pub placed : (next window next' window' n : ℕ) → next' ≡ max next (n + 1) → (In n (seen next window) → ⊥) → ((k : ℕ) → Marks next' window' k → (k ≡ n) ⊎ Marks next window k) → ((k : ℕ) → next' ≤ k + DUPLICATE_SPAN → (k ≡ n) ⊎ Marks next window k → Marks next' window' k) → seen next' window' ≡ with_number (seen next window) n
placed next window next' window' n e new f g =
    let s = seen next window in
    let near = is_near (max (next_of s) (n + 1)) in
    let up : max (next_of s) (n + 1) ≡ next' = let h = next_of-seen next window in omega (arith, h, e) in
    let put_down : Descend (max next (n + 1)) (put n s) = put_descends (max next (n + 1)) n s (descend_more next (max next (n + 1)) s (omega arith) (seen_descends next window)) (omega arith) new in
    same_list next' (max next (n + 1)) (seen next' window') (filter near (put n s)) (seen_descends next' window') (filter_descends near (max next (n + 1)) (put n s) put_down)
    (λ k h. let m = in_seen next' window' k h in
    filter_in near k (put n s) (let le = m.near in le-leb (max (next_of s) (n + 1)) (k + DUPLICATE_SPAN) (omega (arith, le, up)))
    (put_in n k s (elim (f k m) [ inl is ↦ inl is | inr old ↦ inr (seen_in next window k old) ])))
    (λ k h. let i = in_filter near k (put n s) h in
    seen_in next' window' k (g k (let le = leb-true (max (next_of s) (n + 1)) (k + DUPLICATE_SPAN) i.0 in omega (arith, le, up))
    (elim (in_put n k s i.1) [ inl is ↦ inl is | inr old ↦ inr (in_seen next window k old) ])))

-- a number above the greatest
pub above : (next window window' n : ℕ) → next ≤ n → ((i : ℕ) → i < WINDOW_BITS → i < n - next → bit_at window' i ≡ 0) → ((i : ℕ) → i < WINDOW_BITS → n - next < i → bit_at window' i ≡ bit_at window (i - (n - next + 1))) → (n - next < WINDOW_BITS → bit_at window' (n - next) ≡ 1) → seen (n + 1) window' ≡ with_number (seen next window) n
above next window window' n le low high at =
    placed next window (n + 1) window' n (omega (arith, le)) (λ h. let m = in_seen next window n h in omega (arith, m.below, le))
    (λ k m. elim m.marked [
      | inl e ↦ inl (omega (arith, e))
      | inr bit ↦ (let near = m.near in
          let below = m.below in
          elim (cases_eq k n) [
            | inl is ↦ inl is
            | inr other ↦ (let p = n + 1 - 2 - k in
                let small : p < WINDOW_BITS = omega (arith, near, below, other) in
                inr (elim (cases_lt k next) [
                  | inr over ↦ absurd (let z = low p small (omega (arith, over, below, other, le)) in let o : 0 ≡ 1 = sym z ∙ bit in omega (arith, o))
                  | inl under ↦ record {
                    below = under;
                    near = omega (arith, near, le);
                    marked = elim (cases_eq (k + 1) next) [
                      | inl e ↦ inl e
                      | inr apart ↦ inr (let is : p - (n - next + 1) ≡ next - 2 - k = omega (arith, under, apart, le) in
                          sym (ap (λ (i : ℕ). bit_at window i) is) ∙ sym (high p small (omega (arith, under, apart, le))) ∙ bit)
                    ];
                  }
                ]))
          ])
    ])
    (λ k near h. elim h [
      | inl is ↦ record { below = omega (arith, is); near = near; marked = inl (omega (arith, is)) }
      | inr m ↦ (let below = m.below in
          let p = n + 1 - 2 - k in
          let small : p < WINDOW_BITS = omega (arith, near, below, le) in
          record {
            below = omega (arith, below, le);
            near = near;
            marked = inr (elim m.marked [
              | inl e ↦ (let is : p ≡ n - next = omega (arith, e, le) in ap (λ (i : ℕ). bit_at window' i) is ∙ at (omega (arith, small, is)))
              | inr bit ↦ elim (cases_eq (k + 1) next) [
                | inl e ↦ (let is : p ≡ n - next = omega (arith, e, le) in ap (λ (i : ℕ). bit_at window' i) is ∙ at (omega (arith, small, is)))
                | inr apart ↦ (let is : p - (n - next + 1) ≡ next - 2 - k = omega (arith, below, apart, le) in
                    high p small (omega (arith, below, apart, le)) ∙ ap (λ (i : ℕ). bit_at window i) is ∙ bit)
              ]
            ]);
          })
    ])

-- a number below the greatest
pub within : (next window window' n : ℕ) → n + 1 < next → next ≤ n + DUPLICATE_SPAN → (In n (seen next window) → ⊥) → bit_at window' (next - 2 - n) ≡ 1 → ((i : ℕ) → i ≢ next - 2 - n → bit_at window' i ≡ bit_at window i) → seen next window' ≡ with_number (seen next window) n
within next window window' n lt le new at other =
    placed next window next window' n (omega (arith, lt)) new
    (λ k m. let below = m.below in
    elim (cases_eq k n) [
      | inl is ↦ inl is
      | inr apart ↦ inr (record {
        below = below;
        near = m.near;
        marked = elim (cases_eq (k + 1) next) [
          | inl e ↦ inl e
          | inr under ↦ inr (elim m.marked [
            | inl e ↦ absurd (under e)
            | inr bit ↦ sym (other (next - 2 - k) (omega (arith, below, under, apart, lt))) ∙ bit
          ])
        ];
      })
    ])
    (λ k near h. elim (cases_eq k n) [
      | inl is ↦ record { below = omega (arith, is, lt); near = near; marked = inr (ap (λ (i : ℕ). bit_at window' (next - 2 - i)) is ∙ at) }
      | inr apart ↦ elim h [
        | inl is ↦ absurd (apart is)
        | inr m ↦ (let below = m.below in
            record {
              below = below;
              near = near;
              marked = elim (cases_eq (k + 1) next) [
                | inl e ↦ inl e
                | inr under ↦ inr (elim m.marked [
                  | inl e ↦ absurd (under e)
                  | inr bit ↦ other (next - 2 - k) (omega (arith, below, under, apart, lt)) ∙ bit
                ])
              ];
            })
      ]
    ])

-- ---- what the calls answer

pub present : (next window k : ℕ) → Marks next window k → true ≡ is_in (seen next window) k
present next window k m = sym (in-is_in (seen next window) k (seen_in next window k m))

pub absent : (next window k : ℕ) → (Marks next window k → ⊥) → false ≡ is_in (seen next window) k
absent next window k none = sym (false_from_ne_true (is_in (seen next window) k) (λ e. none (in_seen next window k (is_in-tells (seen next window) k e))))

pub told : (next window k place : ℕ) → k + 1 < next → next ≤ k + DUPLICATE_SPAN → place ≡ next - 2 - k → (bit_at window place == 1) ≡ is_in (seen next window) k
told next window k place lt le at = elim (cases_Bool (bit_at window place == 1)) [
  | inl set ↦ set ∙ present next window k (record { below = omega (arith, lt); near = le; marked = inr (ap (λ (p : ℕ). bit_at window p) (sym at) ∙ eqb-true (bit_at window place) 1 set) })
  | inr unset ↦ unset ∙ absent next window k (λ m. elim m.marked [
    | inl e ↦ omega (arith, e, lt)
    | inr bit ↦ eqb-false (bit_at window place) 1 unset (ap (λ (p : ℕ). bit_at window p) at ∙ bit)
  ])
]

-- a number is too far below the greatest to tell
pub far_below : (next window n : ℕ) → nat_lt n (next - DUPLICATE_SPAN) ≡ not (is_near (next_of (seen next window)) n)
far_below next window n =
    let e : nat_lt n (next - DUPLICATE_SPAN) ≡ not (is_near next n) = grind (arith, nat_tests) in
    e ∙ ap (λ (m : ℕ). not (is_near m n)) (sym (next_of-seen next window))

pub record IsNew (next window n : ℕ) : Type 0 where
  pub out : In n (seen next window) → ⊥
  pub near : next ≤ n + DUPLICATE_SPAN

pub is_new : (next window n : ℕ) (s : Seen) → seen next window ≡ s → is_duplicate s n ≡ false → IsNew next window n
is_new next window n s e f =
    let g : is_duplicate (seen next window) n ≡ false = ap (λ (t : Seen). is_duplicate t n) e ∙ f in
    let parts = or_parts (is_in (seen next window) n) (not (is_near (next_of (seen next window)) n)) g in
    record {
      out = λ h. let t : is_in (seen next window) n ≡ true = in-is_in (seen next window) n h in let u = parts.0 in cc;
      near = let up = next_of-seen next window in
          let le = leb-true (next_of (seen next window)) (n + DUPLICATE_SPAN) (not-false (is_near (next_of (seen next window)) n) parts.1) in
          omega (arith, up, le);
    }

-- a new number below the greatest is not the greatest
pub under : (next window n : ℕ) → IsNew next window n → n < next → n + 1 < next
under next window n new lt = elim (cases_eq (n + 1) next) [
  | inl e ↦ absurd (new.out (seen_in next window n (record { below = lt; near = new.near; marked = inl e })))
  | inr other ↦ omega (arith, lt, other)
]
