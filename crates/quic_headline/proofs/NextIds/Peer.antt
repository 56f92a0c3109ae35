-- The ids of the peer that an end knows, by their numbers: those that were brought above the one in
-- use, of which the least is next.
use Rattle.std.proofs.Common.{◌≡◌, ◌⊎◌, ℕ, ◌<◌, ◌≤◌, ◌==◌, Bool, true, false, cond, ltb, nat_lt, min, List, [], ◌∷◌, Option, Some, None, refl, sym, ap, ◌∙◌, subst, inl, inr, arith}
use Rattle.std.specs.Prelude.{if◌then◌else◌, unwrap_or}
use Rattle.std.proofs.lemmas.Bool.{ltb-true, ltb-false, eqb-true, eqb-false}
use Rattle.quic_wire_core.specs.declared.shared.IssuedCid.{IssuedCid}
use Rattle.quic_ids.specs.CidQueue.{PeerIds, with_cid, known_with, next_after, after_next, first_used}
use Rattle.quic_headline.specs.Runs.{In}
use Rattle.quic_headline.specs.InUse.{lesser_of, next_of}

-- ---- the least number above another

-- this is the least of numbers above one, or there is none
abbrev pub IsLeast : ℕ → List ℕ → Option ℕ → Type 0
IsLeast n ms None = (m : ℕ) → In m ms → n < m → ⊥
IsLeast n ms (Some k) = In k ms × (n < k) × ((m : ℕ) → In m ms → n < m → k ≤ m)

module _ (n m : ℕ) (ms : List ℕ) where
  -- one that isn't above it changes nothing
  least_past : (o : Option ℕ) → m ≤ n → IsLeast n ms o → IsLeast n (m ∷ ms) o
  least_past None low none = nothing
    where
      nothing : (k : ℕ) → In k (m ∷ ms) → n < k → ⊥
      nothing k (inl is) above = omega arith
      nothing k (inr more) above = none k more above
  least_past (Some l) low least = (inr least.0, least.1, others)
    where
      others : (k : ℕ) → In k (m ∷ ms) → n < k → l ≤ k
      others k (inl is) above = omega arith
      others k (inr more) above = least.2 k more above

  -- one that is above it is the least, or the former one is
  least_more : (o : Option ℕ) → n < m → IsLeast n ms o → IsLeast n (m ∷ ms) (Some (lesser_of m o))
  least_more None high none = (inl refl, high, others)
    where
      others : (k : ℕ) → In k (m ∷ ms) → n < k → m ≤ k
      others k (inl is) above = omega arith
      others k (inr more) above = absurd (none k more above)
  least_more (Some l) high least = (among (nat_lt l m) refl, (let above = least.1 in omega arith), others)
    where
      among : (b : Bool) → nat_lt l m ≡ b → In (min m l) (m ∷ ms)
      among true is = (let less = ltb-true l m is in let same : l ≡ min m l = omega arith in inr (subst (λ (k : ℕ). In k ms) same least.0))
      among false is = (let more = ltb-false l m is in inl (omega arith))

      others : (k : ℕ) → In k (m ∷ ms) → n < k → min m l ≤ k
      others k (inl is) above = omega arith
      others k (inr more) above = (let less = least.2 k more above in omega arith)

-- the next of numbers is the least above
pub next_is_least : (n : ℕ) (ms : List ℕ) → IsLeast n ms (next_of n ms)
next_is_least n [] = λ m i above. i
next_is_least n (m ∷ ms) = go (nat_lt n m) refl (next_is_least n ms)
  where
    go : (b : Bool) → nat_lt n m ≡ b → IsLeast n ms (next_of n ms) → IsLeast n (m ∷ ms) (if b then Some (lesser_of m (next_of n ms)) else next_of n ms)
    go true is least = least_more n m ms (next_of n ms) (ltb-true n m is) least
    go false is least = least_past n m ms (next_of n ms) (ltb-false n m is) least

-- there is one least
pub one_least : (n : ℕ) (ms : List ℕ) (o p : Option ℕ) → IsLeast n ms o → IsLeast n ms p → o ≡ p
one_least n ms None None first second = refl
one_least n ms None (Some l) first second = absurd (first l second.0 second.1)
one_least n ms (Some k) None first second = absurd (second k first.0 first.1)
one_least n ms (Some k) (Some l) first second =
    let less = first.2 l second.0 second.1 in
    let more = second.2 k first.0 first.1 in
    let same : k ≡ l = omega arith in
    ap Some same

-- ---- ids by their numbers

-- their numbers ascend, above one
abbrev pub Ascend : ℕ → List IssuedCid → Type 0
Ascend n [] = Unit {0}
Ascend n (c ∷ cs) = (n < c.sequence) × Ascend c.sequence cs

-- one of them has a number
abbrev pub Has : List IssuedCid → ℕ → Type 0
Has [] n = ⊥
Has (c ∷ cs) n = (n ≡ c.sequence) ⊎ Has cs n

-- so each number of theirs is above it
ascend_above : (low : ℕ) (cs : List IssuedCid) (n : ℕ) → Ascend low cs → Has cs n → low < n
ascend_above low [] n up has = absurd has
ascend_above low (c ∷ cs) n up (inl is) = let first = up.0 in omega arith
ascend_above low (c ∷ cs) n up (inr more) = let first = up.0 in let rest = ascend_above c.sequence cs n up.1 more in omega arith

module _ (c : IssuedCid) where
  -- with one more they have its number
  has_new : (es : List IssuedCid) → Has (with_cid es c) c.sequence
  has_new [] = inl refl
  has_new (e ∷ es) = go (ltb c.sequence e.sequence) (c.sequence == e.sequence) (has_new es)
    where
      go : (less same : Bool) → Has (with_cid es c) c.sequence → Has (cond less (c ∷ e ∷ es) (cond same (c ∷ es) (e ∷ with_cid es c))) c.sequence
      go true same later = inl refl
      go false true later = inl refl
      go false false later = inr later

  -- and those that they had
  has_old : (es : List IssuedCid) (n : ℕ) → Has es n → Has (with_cid es c) n
  has_old [] n has = absurd has
  has_old (e ∷ es) n has = go (ltb c.sequence e.sequence) (c.sequence == e.sequence) refl (has_old es n) has
    where
      go : (less same : Bool) → (c.sequence == e.sequence) ≡ same → (Has es n → Has (with_cid es c) n) → Has (e ∷ es) n → Has (cond less (c ∷ e ∷ es) (cond same (c ∷ es) (e ∷ with_cid es c))) n
      go true same is later had = inr had
      go false true is later (inl first) = (let equal = eqb-true c.sequence e.sequence is in inl (omega arith))
      go false true is later (inr more) = inr more
      go false false is later (inl first) = inl first
      go false false is later (inr more) = inr (later more)

  -- and no others
  has_from : (es : List IssuedCid) (n : ℕ) → Has (with_cid es c) n → Has es n ⊎ (n ≡ c.sequence)
  has_from [] n (inl is) = inr is
  has_from [] n (inr none) = absurd none
  has_from (e ∷ es) n has = go (ltb c.sequence e.sequence) (c.sequence == e.sequence) (has_from es n) has
    where
      go : (less same : Bool) → (Has (with_cid es c) n → Has es n ⊎ (n ≡ c.sequence)) → Has (cond less (c ∷ e ∷ es) (cond same (c ∷ es) (e ∷ with_cid es c))) n → Has (e ∷ es) n ⊎ (n ≡ c.sequence)
      go true same later (inl is) = inr is
      go true same later (inr old) = inl old
      go false true later (inl is) = inr is
      go false true later (inr old) = inl (inr old)
      go false false later (inl is) = inl (inl is)
      go false false later (inr more) = elim (later more) [ inl old ↦ inl (inr old) | inr is ↦ inr is ]

  -- they ascend still
  ascend_with : (low : ℕ) (es : List IssuedCid) → Ascend low es → low < c.sequence → Ascend low (with_cid es c)
  ascend_with low [] up above = (above, tt)
  ascend_with low (e ∷ es) up above = go (ltb c.sequence e.sequence) (c.sequence == e.sequence) refl refl (ascend_with e.sequence es up.1)
    where
      go : (less same : Bool) → ltb c.sequence e.sequence ≡ less → (c.sequence == e.sequence) ≡ same → (e.sequence < c.sequence → Ascend e.sequence (with_cid es c))
          → Ascend low (cond less (c ∷ e ∷ es) (cond same (c ∷ es) (e ∷ with_cid es c)))
      go true same is equal later = (above, (ltb-true c.sequence e.sequence is, up.1))
      go false true is equal later = (above, subst (λ (n : ℕ). Ascend n es) (sym (eqb-true c.sequence e.sequence equal)) up.1)
      go false false is equal later = (let more = ltb-false c.sequence e.sequence is in let other = eqb-false c.sequence e.sequence equal in (up.0, later (omega (arith, other))))

-- ---- what is known

-- the ids that are known behind the one in use have the numbers above its own of these; each of
-- those is, or is still to come
pub record Knows (numbers : List ℕ) (coming : List ℕ) (p : PeerIds) : Type 0 where
  pub ascend : Ascend p.active p.later
  pub each : (n : ℕ) → Has p.later n → In n numbers
  pub all : (n : ℕ) → In n numbers → p.active < n → Has p.later n ⊎ In n coming

module _ (numbers : List ℕ) (p : PeerIds) (k : Knows numbers [] p) where
  -- where none is still to come, each number above that in use is known
  known_above : (n : ℕ) → In n numbers → p.active < n → Has p.later n
  known_above n i above = elim (k.all n i above) [ inl has ↦ has | inr none ↦ absurd none ]

  -- the first of them is the least
  pub next_known : IsLeast p.active numbers (next_after p)
  next_known = go p.later k.ascend k.each known_above
    where
      go : (cs : List IssuedCid) → Ascend p.active cs → ((n : ℕ) → Has cs n → In n numbers) → ((n : ℕ) → In n numbers → p.active < n → Has cs n) → IsLeast p.active numbers (next_after (record p { later = cs }))
      go [] up each all = all
      go (c ∷ cs) up each all = (each c.sequence (inl refl), up.0, others)
        where
          others : (n : ℕ) → In n numbers → p.active < n → c.sequence ≤ n
          others n i above = elim (all n i above) [ inl is ↦ omega arith | inr more ↦ (let less = ascend_above c.sequence cs n up.1 more in omega arith) ]

  -- so it is the next of these
  pub next_is : next_after p ≡ next_of p.active numbers
  next_is = one_least p.active numbers (next_after p) (next_of p.active numbers) next_known (next_is_least p.active numbers)

  -- once the first is used, those behind it are known
  pub knows_next : Knows numbers [] (after_next p)
  knows_next = go p.later k.ascend k.each known_above
    where
      go : (cs : List IssuedCid) → Ascend p.active cs → ((n : ℕ) → Has cs n → In n numbers) → ((n : ℕ) → In n numbers → p.active < n → Has cs n) → Knows numbers [] (first_used cs p)
      go [] up each all = k
      go (c ∷ cs) up each all = record {
        ascend = up.1;
        each = λ n has. each n (inr has);
        all = λ n i above. elim (all n i (let first = up.0 in omega arith)) [ inl is ↦ absurd (omega arith) | inr more ↦ inl more ];
      }

  -- and its number is in use, where there is one
  pub active_is : (after_next p).active ≡ unwrap_or (next_of p.active numbers) p.active
  active_is = go p.later ∙ ap (λ (o : Option ℕ). unwrap_or o p.active) next_is
    where
      go : (cs : List IssuedCid) → (first_used cs p).active ≡ unwrap_or (next_after (record p { later = cs })) p.active
      go [] = refl
      go (c ∷ cs) = refl

-- where one more is known, the one in use stays
pub known_active : (p : PeerIds) (c : IssuedCid) → (known_with p c).active ≡ p.active
known_active p c = go (c.sequence == p.active)
  where
    go : (b : Bool) → (cond b (record p { id = c.id }) (record p { later = with_cid p.later c })).active ≡ p.active
    go true = refl
    go false = refl

-- where none is known behind the one in use, that stays
pub none_after : (p : PeerIds) → next_after p ≡ None → after_next p ≡ p
none_after p is = go p.later is
  where
    go : (cs : List IssuedCid) → next_after (record p { later = cs }) ≡ None → first_used cs p ≡ p
    go [] is = refl
    go (c ∷ cs) is = cc

module _ (numbers coming : List ℕ) (c : IssuedCid) (p : PeerIds) (k : Knows numbers (c.sequence ∷ coming) p) where
  -- one that came is no longer to come: it isn't above that in use
  pub knows_past : c.sequence ≤ p.active → Knows numbers coming p
  knows_past low = record {
    ascend = k.ascend;
    each = k.each;
    all = λ n i above. elim (k.all n i above) [ inl has ↦ inl has | inr next ↦ elim next [ inl is ↦ absurd (omega arith) | inr more ↦ inr more ] ];
  }

  -- or it is known
  pub knows_more : In c.sequence numbers → p.active ≤ c.sequence → Knows numbers coming (known_with p c)
  knows_more among high = go (c.sequence == p.active) refl
    where
      go : (b : Bool) → (c.sequence == p.active) ≡ b → Knows numbers coming (cond b (record p { id = c.id }) (record p { later = with_cid p.later c }))
      go true is = (let past = knows_past (let same = eqb-true c.sequence p.active is in omega arith) in record { ascend = past.ascend; each = past.each; all = past.all })
      go false is = (let other = eqb-false c.sequence p.active is in record {
        ascend = ascend_with c p.active p.later k.ascend (omega (arith, other));
        each = λ n has. elim (has_from c p.later n has) [ inl old ↦ k.each n old | inr same ↦ subst (λ (m : ℕ). In m numbers) (sym same) among ];
        all = λ n i above. elim (k.all n i above) [
          | inl has ↦ inl (has_old c p.later n has)
          | inr next ↦ elim next [ inl same ↦ inl (subst (λ (m : ℕ). Has (with_cid p.later c) m) (sym same) (has_new c p.later)) | inr more ↦ inr more ]
        ];
      })

-- ---- the number in use never falls

-- that in use isn't below this number, and those known behind it ascend above it
pub record Reaches (used : ℕ) (p : PeerIds) : Type 0 where
  pub ascend : Ascend p.active p.later
  pub least : used ≤ p.active

module _ (used : ℕ) (p : PeerIds) (k : Reaches used p) where
  -- so it is where one more is known
  pub reaches_more : (c : IssuedCid) → p.active ≤ c.sequence → Reaches used (known_with p c)
  reaches_more c high = go (c.sequence == p.active) refl
    where
      go : (b : Bool) → (c.sequence == p.active) ≡ b → Reaches used (cond b (record p { id = c.id }) (record p { later = with_cid p.later c }))
      go true is = record { ascend = k.ascend; least = k.least }
      go false is = (let other = eqb-false c.sequence p.active is in record { ascend = ascend_with c p.active p.later k.ascend (omega (arith, other)); least = k.least })

  -- and where the first of them is used
  pub reaches_next : Reaches used (after_next p)
  reaches_next = go p.later k.ascend
    where
      go : (cs : List IssuedCid) → Ascend p.active cs → Reaches used (first_used cs p)
      go [] up = k
      go (c ∷ cs) up = record { ascend = up.1; least = (let low = k.least in let first = up.0 in omega arith) }
