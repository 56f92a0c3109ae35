-- Living numbers, ascending, and batches of ids.
use Rattle.std.proofs.Common.{◌≡◌, ℕ, zero, suc, ◌+◌, ◌<◌, ◌≤◌, Bool, true, false, not, ◌&&◌, ◌||◌, ◌==◌, cond, ltb, leb, List, [], ◌∷◌, ◌++◌, Result, Ok, Err, is_ok, OnErr, refl, sym, ap, ◌∙◌, arith}
use Rattle.std.specs.List.{filter, slice_get}
use Rattle.std.specs.Ordering.{nat_cmp, is_eq, is_le, match_ordering}
use Rattle.std.specs.declared.cmp.Ordering.{Ordering}
use Rattle.std.specs.declared.cmp.Ordering.TheVariants.{Less, Equal, Greater}
use Rattle.std.specs.Cmp.{unsigned_tied, ranked}
use Rattle.std.specs.BTreeMap.{is_at}
use Rattle.std.specs.BTreeSet.{insert_key}
use Rattle.std.proofs.lemmas.Bool.{eq-eqb, ne_eqb, lt-ltb, le-ltb, le-leb, lt-leb, leb-true, or_parts}
use Rattle.std.proofs.lemmas.List.{append-nil}
use Rattle.quic_ids.specs.declared.cid_state.CidTimestamp.{CidTimestamp}
use Rattle.quic_ids.specs.CidState.{OwnIds, is_in, some_within, others, others_behind, with_batch, below, without, behind, is_owed, timeout_answer}

-- ---- numbers

-- nothing lies from a number on and below it
pub none_within : (a b : ℕ) (ks : List ℕ) → b ≤ a → some_within a b ks ≡ false
none_within a b [] le = refl
none_within a b (k ∷ ks) le = go (leb a k) refl (none_within a b ks le)
  where
    go : (t : Bool) → leb a k ≡ t → some_within a b ks ≡ false → ((t && ltb k b) || some_within a b ks) ≡ false
    go true q ih = let low = leb-true a k q in rw (le-ltb k b (omega arith)) ih
    go false q ih = ih

le_is : (a q : ℕ) → is_le (nat_cmp a q) ≡ leb a q
le_is a q = go (nat_cmp a q) refl
  where
    go : (r : Ordering) → r ≡ nat_cmp a q → is_le r ≡ leb a q
    go Less e = let l : a < q = ranked a q Less e in sym (le-leb a q (omega arith))
    go Equal e = let l : a ≡ q = ranked a q Equal e in sym (le-leb a q (omega arith))
    go Greater e = let l : q < a = ranked a q Greater e in sym (lt-leb a q (omega arith))

past_is : (b q : ℕ) → not (is_le (nat_cmp b q)) ≡ ltb q b
past_is b q = go (nat_cmp b q) refl
  where
    go : (r : Ordering) → r ≡ nat_cmp b q → not (is_le r) ≡ ltb q b
    go Less e = let l : b < q = ranked b q Less e in sym (le-ltb q b (omega arith))
    go Equal e = let l : b ≡ q = ranked b q Equal e in sym (le-ltb q b (omega arith))
    go Greater e = let l : q < b = ranked b q Greater e in sym (lt-ltb q b (omega arith))

pub within_is : (a b q : ℕ) → (is_le (nat_cmp a q) && not (is_le (nat_cmp b q))) ≡ (leb a q && ltb q b)
within_is a b q = rw (le_is a q, past_is b q) refl

pub some_filtered : (p : ℕ → Bool) (a b : ℕ) → ((q : ℕ) → p q ≡ (leb a q && ltb q b)) → (ks : List ℕ) (x : ℕ) (rest : List ℕ) → filter p ks ≡ x ∷ rest → some_within a b ks ≡ true
some_filtered p a b same [] x rest e = cc
some_filtered p a b same (k ∷ ks) x rest e = go (p k) refl e (some_filtered p a b same ks x rest)
  where
    go : (t : Bool) → p k ≡ t → cond t (k ∷ filter p ks) (filter p ks) ≡ x ∷ rest → (filter p ks ≡ x ∷ rest → some_within a b ks ≡ true) → ((leb a k && ltb k b) || some_within a b ks) ≡ true
    go true q e ih = rw (sym (same k) ∙ q) refl
    go false q e ih = rw (sym (same k) ∙ q) (ih e)

pub none_filtered : (p : ℕ → Bool) (a b : ℕ) → ((q : ℕ) → p q ≡ (leb a q && ltb q b)) → (ks : List ℕ) → filter p ks ≡ [] → some_within a b ks ≡ false
none_filtered p a b same [] e = refl
none_filtered p a b same (k ∷ ks) e = go (p k) refl e (none_filtered p a b same ks)
  where
    go : (t : Bool) → p k ≡ t → cond t (k ∷ filter p ks) (filter p ks) ≡ [] → (filter p ks ≡ [] → some_within a b ks ≡ false) → ((leb a k && ltb k b) || some_within a b ks) ≡ false
    go true q e ih = cc
    go false q e ih = rw (sym (same k) ∙ q) (ih e)

-- a number above all others goes to the end
pub insert_next : (n m : ℕ) → n ≤ m → insert_key nat_cmp (below n) m ≡ below n ++ m ∷ []
insert_next n m le = inserted (below n) n m le (below_small n)
  where
    Small : List ℕ → ℕ → Type 0
    Small [] n = Unit {0}
    Small (k ∷ ks) n = (k < n) × Small ks n

    inserted : (ks : List ℕ) (n m : ℕ) → n ≤ m → Small ks n → insert_key nat_cmp ks m ≡ ks ++ m ∷ []
    inserted [] n m le h = refl
    inserted (k ∷ ks) n m le h = rw (le-ltb m k (omega (arith, h.0)), ne_eqb m k (λ e. omega (arith, h.0))) (ap (λ (l : List ℕ). k ∷ l) (inserted ks n m le h.1))

    small_append : (ks : List ℕ) (n m : ℕ) → n < m → Small ks n → Small (ks ++ n ∷ []) m
    small_append [] n m l h = (l, tt)
    small_append (k ∷ ks) n m l h = (omega (arith, h.0), small_append ks n m l h.1)

    below_small : (n : ℕ) → Small (below n) n
    below_small zero = tt
    below_small (suc n) = small_append (below n) n (suc n) (omega arith) (below_small n)

pub next_below : (n : ℕ) → insert_key nat_cmp (below n) n ≡ below (n + 1)
next_below n = let next : suc n ≡ n + 1 = omega arith in insert_next n n (omega arith) ∙ ap (λ (k : ℕ). below k) next

at_itself : (k : ℕ) → is_at (nat_cmp k) k ≡ true
at_itself k = unsigned_tied k k ∙ eq-eqb k k refl

-- a new number that is put in and taken out leaves what was
pub taken_back : (k : ℕ) (ks : List ℕ) → is_in k ks ≡ false → without k (insert_key nat_cmp ks k) ≡ ks
taken_back k [] e = rw (at_itself k) refl
taken_back k (x ∷ xs) e =
    let parts = or_parts (is_at (nat_cmp k) x) (is_in k xs) e in
    go (nat_cmp k x) refl parts.0 (taken_back k xs parts.1)
  where
    go : (r : Ordering) → nat_cmp k x ≡ r → is_at (nat_cmp k) x ≡ false → without k (insert_key nat_cmp xs k) ≡ xs → without k (match_ordering r (k ∷ x ∷ xs) (x ∷ xs) (x ∷ insert_key nat_cmp xs k)) ≡ x ∷ xs
    go Less q other ih = rw (at_itself k) refl
    go Equal q other ih = absurd (let e = ap is_eq q in cc)
    go Greater q other ih = rw other (ap (λ (l : List ℕ). x ∷ l) ih)

-- ---- what is owed

pub owed_answer : (s : OwnIds) → is_owed s ≡ true → false ≡ timeout_answer s
owed_answer s e = sym (ap (λ (b : Bool). some_within s.retire_prior_to (cond b s.retire_prior_to (behind (slice_get s.batches 0) s.retire_prior_to)) s.living) e ∙ none_within s.retire_prior_to s.retire_prior_to s.living (omega arith))

-- ---- batches

-- the last batch goes where it has the same moment
pub others_last : (front : List CidTimestamp) (last : CidTimestamp) (moment : ℕ) → others (front ++ last ∷ []) moment ≡ front ++ cond (last.timestamp == moment) [] (last ∷ [])
others_last [] last moment = refl
others_last (b ∷ bs) last moment = behind_last bs b last moment
  where
    behind_last : (cs : List CidTimestamp) (b last : CidTimestamp) (moment : ℕ) → others_behind (cs ++ last ∷ []) b moment ≡ b ∷ cs ++ cond (last.timestamp == moment) [] (last ∷ [])
    behind_last [] b last moment = refl
    behind_last (c ∷ cs) b last moment = ap (λ (l : List CidTimestamp). b ∷ l) (behind_last cs c last moment)

pub last_kept : (old front : List CidTimestamp) (last new : CidTimestamp) → old ≡ front ++ last ∷ [] → (last.timestamp ≡ new.timestamp → ⊥) → front ++ last ∷ [] ++ new ∷ [] ≡ with_batch old new
last_kept old front last new e other =
    sym (ap (λ (l : List CidTimestamp). with_batch l new) e ∙ ap (λ (l : List CidTimestamp). l ++ new ∷ []) (others_last front last new.timestamp) ∙ rw (ne_eqb last.timestamp new.timestamp other) refl)

pub last_replaced : (old front : List CidTimestamp) (last new : CidTimestamp) → old ≡ front ++ last ∷ [] → last.timestamp ≡ new.timestamp → front ++ new ∷ [] ≡ with_batch old new
last_replaced old front last new e same =
    sym (ap (λ (l : List CidTimestamp). with_batch l new) e ∙ ap (λ (l : List CidTimestamp). l ++ new ∷ []) (others_last front last new.timestamp) ∙ rw (eq-eqb last.timestamp new.timestamp same, append-nil front) refl)

-- ---- failures

pub failed : {T E : Type 0} (P : Type 0) (r : Result T E) → is_ok r ≡ false → OnErr r P → P
failed P (Ok x) e h = cc
failed P (Err x) e h = h
