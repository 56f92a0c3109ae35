-- Streams by place, of which the first have lesser ranks than one, the next that rank, and the last
-- greater ones: each call is one on the part of its rank.
use Rattle.std.proofs.Common.{◌≡◌, ℕ, suc, ◌<◌, ◌≤◌, Bool, true, false, cond, List, [], ◌∷◌, ◌++◌, length, Some, None, refl, sym, ap, ◌∙◌, ⊎_elim, arith}
use Rattle.std.specs.List.{All, AllByRecursion}
use Rattle.std.specs.Ordering.{nat_cmp, match_ordering, is_lt, is_gt, is_eq}
use Rattle.std.specs.declared.cmp.Ordering.{Ordering}
use Rattle.std.specs.declared.cmp.Ordering.TheVariants.{Less, Equal, Greater}
use Rattle.std.specs.BTreeMap.{insert_entry, is_at}
use Rattle.std.specs.Map.{remove_entry, keys_of}
use Rattle.std.proofs.lemmas.Bool.{cases_lt}
use Rattle.quic_streams_parts.specs.Table.{Table, added, without}
use Rattle.quic_streams_parts.specs.TableLaws.{nat_cmp-same}
use Rattle.quic_streams_parts.specs.Slots.{first_value}
use Rattle.quic_streams_parts.specs.Queue.{Place, place_cmp, ranked, parted, IsParted}
use Rattle.quic_streams_parts.proofs.Joined.{below_less, above_greater}

-- ---- facts of all elements

module _ {X : Type 0} where
  -- a fact follows from another
  pub all_weaker : (P Q : X → Type 0) → ((x : X) → P x → Q x) → (xs : List X) → AllByRecursion P xs → AllByRecursion Q xs
  all_weaker P Q f [] all = tt
  all_weaker P Q f (x ∷ xs) all = (f x all.0, all_weaker P Q f xs all.1)

  all_append : (P : X → Type 0) (xs ys : List X) → AllByRecursion P xs → AllByRecursion P ys → AllByRecursion P (xs ++ ys)
  all_append P [] ys all more = more
  all_append P (x ∷ xs) ys all more = (all.0, all_append P xs ys all.1 more)

module _ {K A : Type 0} where
  -- a fact of each key
  pub all_entries : (P : K → Type 0) (es : List (K × A)) → All P (keys_of es) → AllByRecursion (λ e. P e.0) es
  all_entries P [] all = tt
  all_entries P (e ∷ es) all = (all 0 e.0 (omega arith), all_entries P es (λ k d l. all (suc k) d (omega arith)))

  -- it stays one where a key is added that it holds of
  pub all_inserted : (P : K → Type 0) (cmp : K → K → Ordering) (es : List (K × A)) (k : K) (v : A) → P k → AllByRecursion (λ e. P e.0) es → AllByRecursion (λ e. P e.0) (insert_entry cmp es k v)
  all_inserted P cmp [] k v p all = (p, tt)
  all_inserted P cmp (e ∷ es) k v p all = go (cmp k e.0) (all_inserted P cmp es k v p all.1)
    where
      go : (r : Ordering) → AllByRecursion (λ x. P x.0) (insert_entry cmp es k v) → AllByRecursion (λ x. P x.0) (match_ordering r ((k, v) ∷ e ∷ es) ((e.0, v) ∷ es) (e ∷ insert_entry cmp es k v))
      go Less ih = (p, all)
      go Equal ih = all
      go Greater ih = (all.0, ih)

  -- and where one is removed
  pub all_removed : (P : K → Type 0) (test : K → Bool) (es : List (K × A)) → AllByRecursion (λ e. P e.0) es → AllByRecursion (λ e. P e.0) (remove_entry test es)
  all_removed P test [] all = tt
  all_removed P test (e ∷ es) all = go (test e.0) (all_removed P test es all.1)
    where
      go : (b : Bool) → AllByRecursion (λ x. P x.0) (remove_entry test es) → AllByRecursion (λ x. P x.0) (cond b es (e ∷ remove_entry test es))
      go true ih = all.1
      go false ih = (all.0, ih)

  -- ---- two parts: a call on the first, or on the last

  module _ (cmp : K → K → Ordering) (k : K) (v : A) where
    insert_past : (xs ys : List (K × A)) → AllByRecursion (λ e. cmp k e.0 ≡ Greater) xs → insert_entry cmp (xs ++ ys) k v ≡ xs ++ insert_entry cmp ys k v
    insert_past [] ys all = refl
    insert_past (x ∷ xs) ys all = rw all.0 (ap (λ t. x ∷ t) (insert_past xs ys all.1))

    insert_first : (ys : List (K × A)) → AllByRecursion (λ e. cmp k e.0 ≡ Less) ys → insert_entry cmp ys k v ≡ (k, v) ∷ ys
    insert_first [] all = refl
    insert_first (y ∷ ys) all = rw all.0 refl

    insert_before : (xs ys : List (K × A)) → AllByRecursion (λ e. cmp k e.0 ≡ Less) ys → insert_entry cmp (xs ++ ys) k v ≡ insert_entry cmp xs k v ++ ys
    insert_before [] ys all = insert_first ys all
    insert_before (x ∷ xs) ys all = go (cmp k x.0) (insert_before xs ys all)
      where
        go : (r : Ordering) → insert_entry cmp (xs ++ ys) k v ≡ insert_entry cmp xs k v ++ ys → match_ordering r ((k, v) ∷ x ∷ (xs ++ ys)) ((x.0, v) ∷ (xs ++ ys)) (x ∷ insert_entry cmp (xs ++ ys) k v) ≡ match_ordering r ((k, v) ∷ x ∷ xs) ((x.0, v) ∷ xs) (x ∷ insert_entry cmp xs k v) ++ ys
        go Less ih = refl
        go Equal ih = refl
        go Greater ih = ap (λ t. x ∷ t) ih

  module _ (test : K → Bool) where
    remove_none : (ys : List (K × A)) → AllByRecursion (λ e. test e.0 ≡ false) ys → remove_entry test ys ≡ ys
    remove_none [] all = refl
    remove_none (y ∷ ys) all = rw all.0 (ap (λ t. y ∷ t) (remove_none ys all.1))

    remove_past : (xs ys : List (K × A)) → AllByRecursion (λ e. test e.0 ≡ false) xs → remove_entry test (xs ++ ys) ≡ xs ++ remove_entry test ys
    remove_past [] ys all = refl
    remove_past (x ∷ xs) ys all = rw all.0 (ap (λ t. x ∷ t) (remove_past xs ys all.1))

    remove_before : (xs ys : List (K × A)) → AllByRecursion (λ e. test e.0 ≡ false) ys → remove_entry test (xs ++ ys) ≡ remove_entry test xs ++ ys
    remove_before [] ys all = remove_none ys all
    remove_before (x ∷ xs) ys all = go (test x.0) (remove_before xs ys all)
      where
        go : (b : Bool) → remove_entry test (xs ++ ys) ≡ remove_entry test xs ++ ys → cond b (xs ++ ys) (x ∷ remove_entry test (xs ++ ys)) ≡ cond b xs (x ∷ remove_entry test xs) ++ ys
        go true ih = refl
        go false ih = ap (λ t. x ∷ t) ih

-- ---- one rank

ranked_inserted : (r : ℕ) (t : Table ℕ) (n id : ℕ) → insert_entry place_cmp (ranked r t) (r, n) id ≡ ranked r (added t n id)
ranked_inserted r [] n id = refl
ranked_inserted r (e ∷ t) n id = rw (nat_cmp-same r) (go (nat_cmp n e.0) (ranked_inserted r t n id))
  where
    go : (o : Ordering) → insert_entry place_cmp (ranked r t) (r, n) id ≡ ranked r (added t n id) → match_ordering o (((r, n), id) ∷ ((r, e.0), e.1) ∷ ranked r t) (((r, e.0), id) ∷ ranked r t) (((r, e.0), e.1) ∷ insert_entry place_cmp (ranked r t) (r, n) id) ≡ ranked r (match_ordering o ((n, id) ∷ e ∷ t) ((e.0, id) ∷ t) (e ∷ added t n id))
    go Less ih = refl
    go Equal ih = refl
    go Greater ih = ap (λ x. ((r, e.0), e.1) ∷ x) ih

ranked_removed : (r : ℕ) (t : Table ℕ) (n : ℕ) → remove_entry (is_at (place_cmp (r, n))) (ranked r t) ≡ ranked r (without t n)
ranked_removed r [] n = refl
ranked_removed r (e ∷ t) n = rw (nat_cmp-same r) (go (is_at (nat_cmp n) e.0) (ranked_removed r t n))
  where
    go : (b : Bool) → remove_entry (is_at (place_cmp (r, n))) (ranked r t) ≡ ranked r (without t n) → cond b (ranked r t) (((r, e.0), e.1) ∷ remove_entry (is_at (place_cmp (r, n))) (ranked r t)) ≡ ranked r (cond b t (e ∷ without t n))
    go true ih = refl
    go false ih = ap (λ x. ((r, e.0), e.1) ∷ x) ih

all_ranked : (P : ℕ → Type 0) (r : ℕ) (t : Table ℕ) → P r → AllByRecursion (λ e. P e.0.0) (ranked r t)
all_ranked P r [] p = tt
all_ranked P r (e ∷ t) p = (p, all_ranked P r t p)

-- ---- ranks and places

less_place : (p k : Place) → p.0 < k.0 → place_cmp p k ≡ Less
less_place p k l = rw (below_less p.0 k.0 l) refl

greater_place : (p k : Place) → k.0 < p.0 → place_cmp p k ≡ Greater
greater_place p k l = rw (above_greater p.0 k.0 l) refl

-- streams of greater ranks, and of lesser ones, as a place compares to theirs
all_less : (p : Place) (es : List (Place × ℕ)) → AllByRecursion (λ e. p.0 < e.0.0) es → AllByRecursion (λ e. place_cmp p e.0 ≡ Less) es
all_less p es all = all_weaker (λ e. p.0 < e.0.0) (λ e. place_cmp p e.0 ≡ Less) (λ e l. less_place p e.0 l) es all

all_greater : (p : Place) (es : List (Place × ℕ)) → AllByRecursion (λ e. e.0.0 < p.0) es → AllByRecursion (λ e. place_cmp p e.0 ≡ Greater) es
all_greater p es all = all_weaker (λ e. e.0.0 < p.0) (λ e. place_cmp p e.0 ≡ Greater) (λ e l. greater_place p e.0 l) es all

off_above : (p : Place) (es : List (Place × ℕ)) → AllByRecursion (λ e. p.0 < e.0.0) es → AllByRecursion (λ e. is_at (place_cmp p) e.0 ≡ false) es
off_above p es all = all_weaker (λ e. p.0 < e.0.0) (λ e. is_at (place_cmp p) e.0 ≡ false) (λ e l. ap is_eq (less_place p e.0 l)) es all

off_below : (p : Place) (es : List (Place × ℕ)) → AllByRecursion (λ e. e.0.0 < p.0) es → AllByRecursion (λ e. is_at (place_cmp p) e.0 ≡ false) es
off_below p es all = all_weaker (λ e. e.0.0 < p.0) (λ e. is_at (place_cmp p) e.0 ≡ false) (λ e l. ap is_eq (greater_place p e.0 l)) es all

-- ---- three parts

module _ (low : List (Place × ℕ)) (r : ℕ) (t : Table ℕ) (high : List (Place × ℕ)) (h : IsParted low r high) where
  -- none of the last two has a rank below
  over : (k : ℕ) → k < r → AllByRecursion (λ e. k < e.0.0) (ranked r t ++ high)
  over k l = all_append (λ e. k < e.0.0) (ranked r t) high (all_ranked (λ x. k < x) r t l) (all_weaker (λ e. r < e.0.0) (λ e. k < e.0.0) (λ e m. omega arith) high h.above)

  -- none of the first has one from here on
  under : (k : ℕ) → r ≤ k → AllByRecursion (λ e. e.0.0 < k) low
  under k l = all_weaker (λ e. e.0.0 < r) (λ e. e.0.0 < k) (λ e m. omega arith) low h.below

  pub insert_usual : (p : Place) (id : ℕ) → p.0 ≡ r → insert_entry place_cmp (parted low r t high) p id ≡ parted low r (added t p.1 id) high
  insert_usual p id e =
      let n = p.1 in
      ap (λ q. insert_entry place_cmp (parted low r t high) (q, n) id) e
      ∙ insert_past place_cmp (r, n) id low (ranked r t ++ high) (all_greater (r, n) low h.below)
      ∙ ap (λ es. low ++ es) (insert_before place_cmp (r, n) id (ranked r t) high (all_less (r, n) high h.above) ∙ ap (λ es. es ++ high) (ranked_inserted r t n id))

  pub insert_low : (p : Place) (id : ℕ) → p.0 < r → insert_entry place_cmp (parted low r t high) p id ≡ parted (insert_entry place_cmp low p id) r t high
  insert_low p id l = insert_before place_cmp p id low (ranked r t ++ high) (all_less p (ranked r t ++ high) (over p.0 l))

  pub insert_high : (p : Place) (id : ℕ) → r < p.0 → insert_entry place_cmp (parted low r t high) p id ≡ parted low r t (insert_entry place_cmp high p id)
  insert_high p id l =
      insert_past place_cmp p id low (ranked r t ++ high) (all_greater p low (under p.0 (omega arith)))
      ∙ ap (λ es. low ++ es) (insert_past place_cmp p id (ranked r t) high (all_greater p (ranked r t) (all_ranked (λ x. x < p.0) r t l)))

  pub remove_usual : (p : Place) → p.0 ≡ r → remove_entry (is_at (place_cmp p)) (parted low r t high) ≡ parted low r (without t p.1) high
  remove_usual p e =
      let n = p.1 in
      ap (λ q. remove_entry (is_at (place_cmp (q, n))) (parted low r t high)) e
      ∙ remove_past (is_at (place_cmp (r, n))) low (ranked r t ++ high) (off_below (r, n) low h.below)
      ∙ ap (λ es. low ++ es) (remove_before (is_at (place_cmp (r, n))) (ranked r t) high (off_above (r, n) high h.above) ∙ ap (λ es. es ++ high) (ranked_removed r t n))

  pub remove_low : (p : Place) → p.0 < r → remove_entry (is_at (place_cmp p)) (parted low r t high) ≡ parted (remove_entry (is_at (place_cmp p)) low) r t high
  remove_low p l = remove_before (is_at (place_cmp p)) low (ranked r t ++ high) (off_above p (ranked r t ++ high) (over p.0 l))

  pub remove_high : (p : Place) → r < p.0 → remove_entry (is_at (place_cmp p)) (parted low r t high) ≡ parted low r t (remove_entry (is_at (place_cmp p)) high)
  remove_high p l =
      remove_past (is_at (place_cmp p)) low (ranked r t ++ high) (off_below p low (under p.0 (omega arith)))
      ∙ ap (λ es. low ++ es) (remove_past (is_at (place_cmp p)) (ranked r t) high (off_below p (ranked r t) (all_ranked (λ x. x < p.0) r t l)))

  -- ---- the parts stay apart

  pub parted_insert_low : (p : Place) (id : ℕ) → p.0 < r → IsParted (insert_entry place_cmp low p id) r high
  parted_insert_low p id l = record { below = all_inserted (λ k. k.0 < r) place_cmp low p id l h.below; above = h.above }

  pub parted_insert_high : (p : Place) (id : ℕ) → r < p.0 → IsParted low r (insert_entry place_cmp high p id)
  parted_insert_high p id l = record { below = h.below; above = all_inserted (λ k. r < k.0) place_cmp high p id l h.above }

  pub parted_remove_low : (test : Place → Bool) → IsParted (remove_entry test low) r high
  parted_remove_low test = record { below = all_removed (λ k. k.0 < r) test low h.below; above = h.above }

  pub parted_remove_high : (test : Place → Bool) → IsParted low r (remove_entry test high)
  parted_remove_high test = record { below = h.below; above = all_removed (λ k. r < k.0) test high h.above }

-- with no stream of the rank, another is as good
pub parted_none : (low : List (Place × ℕ)) (r q : ℕ) (t : Table ℕ) (high : List (Place × ℕ)) → first_value t ≡ None → parted low q t high ≡ parted low r t high
parted_none low r q [] high e = refl
parted_none low r q (x ∷ t) high e = absurd (never e)
  where
    never : Some x.1 ≡ None → ⊥
    never is = cc

-- ---- other ranks

at_most : (p k : Place) → is_gt (place_cmp p k) ≡ false → p.0 ≤ k.0
at_most p k e = ⊎_elim (λ (l : k.0 < p.0). absurd (never (sym (ap is_gt (greater_place p k l)) ∙ e))) (λ (le : p.0 ≤ k.0). le) (cases_lt k.0 p.0)
  where
    never : true ≡ false → ⊥
    never is = cc

-- a place that is none above comes last
at_least : (p k : Place) → is_lt (place_cmp p k) ≡ false → k.0 ≤ p.0
at_least p k e = ⊎_elim (λ (l : p.0 < k.0). absurd (never (sym (ap is_lt (less_place p k l)) ∙ e))) (λ (le : k.0 ≤ p.0). le) (cases_lt p.0 k.0)
  where
    never : true ≡ false → ⊥
    never is = cc

-- a rank below all of the last, or above all of the first
pub over_first : (q : ℕ) (p : Place) (es : List (Place × ℕ)) → q < p.0 → All (λ k. is_gt (place_cmp p k) ≡ false) (keys_of es) → AllByRecursion (λ e. q < e.0.0) es
over_first q p es l all = all_weaker (λ e. is_gt (place_cmp p e.0) ≡ false) (λ e. q < e.0.0) (λ e is. let le = at_most p e.0 is in omega arith) es (all_entries (λ k. is_gt (place_cmp p k) ≡ false) es all)

pub under_last : (q : ℕ) (p : Place) (es : List (Place × ℕ)) → p.0 < q → All (λ k. is_lt (place_cmp p k) ≡ false) (keys_of es) → AllByRecursion (λ e. e.0.0 < q) es
under_last q p es l all = all_weaker (λ e. is_lt (place_cmp p e.0) ≡ false) (λ e. e.0.0 < q) (λ e is. let le = at_least p e.0 is in omega arith) es (all_entries (λ k. is_lt (place_cmp p k) ≡ false) es all)

-- a greater rank than one that parts them, above which all of the last lie, parts them too, and so
-- does a lesser one
pub parted_above : (low : List (Place × ℕ)) (r q : ℕ) (high : List (Place × ℕ)) → r ≤ q → AllByRecursion (λ e. q < e.0.0) high → IsParted low r high → IsParted low q high
parted_above low r q high l all h = record { below = all_weaker (λ e. e.0.0 < r) (λ e. e.0.0 < q) (λ e m. omega arith) low h.below; above = all }

pub parted_below : (low : List (Place × ℕ)) (r q : ℕ) (high : List (Place × ℕ)) → q < r → AllByRecursion (λ e. e.0.0 < q) low → IsParted low r high → IsParted low q high
parted_below low r q high l all h = record { below = all; above = all_weaker (λ e. r < e.0.0) (λ e. q < e.0.0) (λ e m. omega arith) high h.above }

pub all_of_none : (P : Place × ℕ → Type 0) (es : List (Place × ℕ)) → length es ≤ 0 → AllByRecursion P es
all_of_none P [] e = tt
all_of_none P (x ∷ es) e = absurd (omega arith)
