-- Lists of ids: those that live under their numbers, and those that wait to be told, of which one
-- may be the only one with its number.
use Rattle.std.proofs.Common.{◌≡◌, ◌≢◌, ℕ, zero, suc, Bool, true, false, cond, ◌==◌, not, List, [], ◌∷◌, ◌++◌, length, Some, refl, sym, ap, ◌∙◌, subst, ◌⊎◌, inl, inr}
use Rattle.std.specs.Prelude.{map, filter, set, slice_get, if◌then◌else◌}
use Rattle.std.proofs.lemmas.Bool.{eqb-true}
use Rattle.quic_wire_core.specs.declared.shared.IssuedCid.{IssuedCid}
use Rattle.quic_machine.specs.Ids.{NumberedId, with_number, with_id}
use Rattle.quic_headline.specs.Runs.{In}
use Rattle.quic_headline.proofs.Places.Told.{in_append}

-- ---- living ids

-- an id lives under its number, or that is gone
abbrev pub Stays : List NumberedId → (ℕ → Type 0) → NumberedId → Type 0
Stays living Gone i = In i living ⊎ Gone i.number

-- what stands in a list has its image among theirs
pub in_map : {X Y : Type 0} (f : X → Y) (x : X) (xs : List X) → In x xs → In (f x) (map f xs)
in_map f x [] i = absurd i
in_map f x (y ∷ xs) (inl is) = inl (ap f is)
in_map f x (y ∷ xs) (inr i) = inr (in_map f x xs i)

-- without those of a number, each stays that has another one
pub kept_or : (n : ℕ) (living : List NumberedId) (i : NumberedId) → In i living → In i (filter (λ j. not (j.number == n)) living) ⊎ (i.number ≡ n)
kept_or n [] i lives = absurd lives
kept_or n (j ∷ js) i (inl is) = go (j.number == n) refl
  where
    go : (b : Bool) → (j.number == n) ≡ b → In i (cond (not b) (j ∷ filter (λ k. not (k.number == n)) js) (filter (λ k. not (k.number == n)) js)) ⊎ (i.number ≡ n)
    go true same = inr (ap (λ (k : NumberedId). k.number) is ∙ eqb-true j.number n same)
    go false other = inl (inl is)
kept_or n (j ∷ js) i (inr more) = go (j.number == n) (kept_or n js i more)
  where
    go : (b : Bool) → In i (filter (λ k. not (k.number == n)) js) ⊎ (i.number ≡ n) → In i (cond (not b) (j ∷ filter (λ k. not (k.number == n)) js) (filter (λ k. not (k.number == n)) js)) ⊎ (i.number ≡ n)
    go true kept = kept
    go false (inl stays) = inl (inr stays)
    go false (inr is) = inr is

-- where a number has another id, those of other numbers stay
pub with_other : (cid : IssuedCid) (living : List NumberedId) (i : NumberedId) → In i living → (i.number == cid.sequence) ≡ false → In i (with_id cid living)
with_other cid [] i lives other = absurd lives
with_other cid (j ∷ js) i (inl is) other = inl (subst (λ (k : NumberedId). i ≡ (if k.number == cid.sequence then with_number cid else k)) is (ap (λ (b : Bool). if b then with_number cid else i) (sym other)))
with_other cid (j ∷ js) i (inr more) other = inr (with_other cid js i more other)

-- and it lives where the number did
pub with_same : (cid : IssuedCid) (living : List NumberedId) (i : NumberedId) → In i living → (i.number == cid.sequence) ≡ true → In (with_number cid) (with_id cid living)
with_same cid [] i lives same = absurd lives
with_same cid (j ∷ js) i (inl is) same = inl (subst (λ (k : NumberedId). with_number cid ≡ (if k.number == cid.sequence then with_number cid else k)) is (ap (λ (b : Bool). if b then with_number cid else i) (sym same)))
with_same cid (j ∷ js) i (inr more) same = inr (with_same cid js i more same)

-- ---- the only one of a number

-- none of these has the number
abbrev pub HasNone : ℕ → List IssuedCid → Type 0
HasNone n cids = (c : IssuedCid) → In c cids → c.sequence ≢ n

-- the one behind so many others has it, and no other
abbrev pub IsSole : List IssuedCid → ℕ → ℕ → Type 0
IsSole [] place n = ⊥
IsSole (c ∷ cs) zero n = (c.sequence ≡ n) × HasNone n cs
IsSole (c ∷ cs) (suc place) n = (c.sequence ≢ n) × IsSole cs place n

pub sole_more : (cids more : List IssuedCid) (place n : ℕ) → HasNone n more → IsSole cids place n → IsSole (cids ++ more) place n
sole_more [] more place n none s = absurd s
sole_more (c ∷ cs) more zero n none s = (s.0, λ d i. elim (in_append d cs more i) [ inl here ↦ s.1 d here | inr new ↦ none d new ])
sole_more (c ∷ cs) more (suc place) n none s = (s.0, sole_more cs more place n none s.1)

pub sole_last : (cids : List IssuedCid) (c : IssuedCid) → HasNone c.sequence cids → IsSole (cids ++ c ∷ []) (length cids) c.sequence
sole_last [] c none = (refl, λ d i. absurd i)
sole_last (d ∷ ds) c none = (none d (inl refl), sole_last ds c (λ e i. none e (inr i)))

pub sole_get : (cids : List IssuedCid) (place n : ℕ) → IsSole cids place n → (c : IssuedCid) × (slice_get cids place ≡ Some c) × (c.sequence ≡ n) × In c cids
sole_get [] place n s = absurd s
sole_get (c ∷ cs) zero n s = (c, refl, s.0, inl refl)
sole_get (c ∷ cs) (suc place) n s =
    let rest = sole_get cs place n s.1 in
    (rest.0, rest.1, rest.2, inr rest.3)

-- another of the same number in its place
none_set : (cids : List IssuedCid) (at n : ℕ) (c v : IssuedCid) → slice_get cids at ≡ Some c → v.sequence ≡ c.sequence → HasNone n cids → HasNone n (set cids at v)
none_set [] at n c v there same none d i = none d i
none_set (e ∷ es) zero n c v there same none d (inl is) =
    let first : e ≡ c = cc in
    λ number. none e (inl refl) (ap (λ (x : IssuedCid). x.sequence) first ∙ sym same ∙ ap (λ (x : IssuedCid). x.sequence) (sym is) ∙ number)
none_set (e ∷ es) zero n c v there same none d (inr i) = none d (inr i)
none_set (e ∷ es) (suc at) n c v there same none d (inl is) = none d (inl is)
none_set (e ∷ es) (suc at) n c v there same none d (inr i) = none_set es at n c v there same (λ x j. none x (inr j)) d i

pub sole_set : (cids : List IssuedCid) (place at n : ℕ) (c v : IssuedCid) → slice_get cids at ≡ Some c → v.sequence ≡ c.sequence → IsSole cids place n → IsSole (set cids at v) place n
sole_set [] place at n c v there same s = absurd s
sole_set (e ∷ es) zero zero n c v there same s =
    let first : e ≡ c = cc in
    (same ∙ ap (λ (x : IssuedCid). x.sequence) (sym first) ∙ s.0, s.1)
sole_set (e ∷ es) zero (suc at) n c v there same s = (s.0, none_set es at n c v there same s.1)
sole_set (e ∷ es) (suc place) zero n c v there same s =
    let first : e ≡ c = cc in
    ((λ is. s.0 (ap (λ (x : IssuedCid). x.sequence) first ∙ sym same ∙ is)), s.1)
sole_set (e ∷ es) (suc place) (suc at) n c v there same s = (s.0, sole_set es place at n c v there same s.1)

-- what stands beside it then has another number
pub in_sole : (cids : List IssuedCid) (place n : ℕ) (v x : IssuedCid) → IsSole cids place n → In x (set cids place v) → (x ≡ v) ⊎ (In x cids × (x.sequence ≢ n))
in_sole [] place n v x s i = absurd s
in_sole (c ∷ cs) zero n v x s (inl is) = inl is
in_sole (c ∷ cs) zero n v x s (inr i) = inr (inr i, s.1 x i)
in_sole (c ∷ cs) (suc place) n v x s (inl is) = inr (inl is, λ number. s.0 (ap (λ (y : IssuedCid). y.sequence) (sym is) ∙ number))
in_sole (c ∷ cs) (suc place) n v x s (inr i) = elim (in_sole cs place n v x s.1 i) [ inl new ↦ inl new | inr old ↦ inr (inr old.0, old.1) ]
