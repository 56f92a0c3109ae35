-- What is spelled, and what is written, is read as the same values.
use Rattle.std.proofs.Common.{◌≡◌, ℕ, ◌+◌, ◌^◌, ◌≤◌, ◌<◌, Bool, true, false, cond, ltb, eqb, List, [], ◌∷◌, ◌++◌, length, get_or, set, Option, Some, None, Ok, refl, sym, ap, ◌∙◌, inl, inr, ◌⊎◌, arith, subst, append_assoc}
use Rattle.std.specs.List.{count_by}
use Rattle.std.proofs.lemmas.Bool.{cases_eq, cases_Bool, ne_eqb, eq-eqb, eqb-true, le-ltb}
use Rattle.std.proofs.lemmas.List.{take_at, drop_at, length-append, append-nil, length-set}
use Rattle.std.proofs.lemmas.List.Sums.{AllPass-from_list_all, sum_by-cons}
use Rattle.quic_wire_core.specs.Varint.{Spells, shortest}
use Rattle.quic_wire_core.specs.Law.{spells_again, shortest_spells}
use Rattle.quic_parameters.specs.declared.transport_parameters.id.TransportParameterId.{TransportParameterId}
use Rattle.quic_parameters.specs.declared.transport_parameters.id.TransportParameterId.TheVariants.{MaxIdleTimeout, MaxUdpPayloadSize, InitialMaxData, InitialMaxStreamDataBidiLocal, InitialMaxStreamDataBidiRemote, InitialMaxStreamDataUni, InitialMaxStreamsBidi, InitialMaxStreamsUni, AckDelayExponent, MaxAckDelay, ActiveConnectionIdLimit, MaxDatagramFrameSize, MinAckDelay}
use Rattle.quic_parameters.specs.Parameters.{ParameterValues, id_of, place_of, default_of, least_of, most_of, counted, value_of, IsInRange, IsNoLonger, AreInRange, EntrySpells, EntriesSpell, standing, SpellsValue, Says, ParametersSpell}
use Rattle.quic_parameters.specs.ParametersRead.{or_malformed, number_at, entry_at, whole_at, parameter_at, met_at, is_out, met_after, met_with, none_met, met_in, met_or, values_met, is_longer, judged, parameters_at}
use Rattle.quic_parameters.specs.ParametersWritten.{places, IsWriteOrder, parameter_of_place, shortest_entry, is_default, written_value, written_place, written_parameters}
use Rattle.quic_parameters.specs.ParametersSteps.{met_in_step, met_in_nil}
use Rattle.quic_parameters.specs.ParametersTable.{some, parameter_again, place_again, place_below, most_below, id_below, counted_same, none_met_at, parameter_is, place_is, same_place, same_id, standing_same, standing_other, met_at_same, met_at_other, value_met, values_same}

-- ---- an entry that is spelled is read

number_again : (v : ℕ) (bytes rest : List ℕ) → Spells v bytes → number_at (bytes ++ rest) ≡ Ok (v, rest)
number_again v bytes rest s = ap or_malformed (spells_again v bytes rest s)

entry_again : (e : ℕ × List ℕ) (bytes rest : List ℕ) → EntrySpells e bytes → entry_at (bytes ++ rest) ≡ Ok (e, rest)
unfolding entry_at
entry_again e bytes rest s =
    let parts : bytes ++ rest ≡ s.0 ++ (s.1 ++ (e.1 ++ rest)) = rw s.4 (append_assoc s.0 (s.1 ++ e.1) rest ∙ ap (λ (t : List ℕ). s.0 ++ t) (append_assoc s.1 e.1 rest)) in
    let long : ltb (length (e.1 ++ rest)) (length e.1) ≡ false = le-ltb _ _ (omega (arith, length-append e.1 rest)) in
    ap entry_at parts ∙ rw (number_again e.0 s.0 (s.1 ++ (e.1 ++ rest)) s.2, number_again (length e.1) s.1 (e.1 ++ rest) s.3, long, take_at e.1 rest (length e.1) refl, drop_at e.1 rest (length e.1) refl) refl

whole_again : (v : ℕ) (bytes : List ℕ) → Spells v bytes → whole_at bytes ≡ Ok v
unfolding whole_at
whole_again v bytes s = rw (ap number_at (sym (append-nil bytes)) ∙ number_again v bytes [] s) refl

entry_takes : (bytes : List ℕ) (x : (ℕ × List ℕ) × List ℕ) → entry_at bytes ≡ Ok x → 0 < length bytes
unfolding entry_at
entry_takes [] x e = absurd cc
entry_takes (b ∷ bytes) x e = omega arith

-- ---- what is spelled is read

-- What a parameter has met, and what stands at its id in the rest of the list, make its value.
abbrev Makes : TransportParameterId → Option ℕ → List (List ℕ) → Option ℕ → Type 0
Makes k (Some w) xs v = (xs ≡ []) × (some w ≡ v)
Makes k None xs v = ((xs ≡ []) × (v ≡ default_of k)) ⊎ ((x : List ℕ) × (xs ≡ x ∷ []) × SpellsValue k v x)

record MakesAll (f : TransportParameterId → Option ℕ) (met : List (Option ℕ)) (es : List (ℕ × List ℕ)) : Type 0 where
  pub whole : length met ≡ 13
  pub at : (k : TransportParameterId) → Makes k (met_at met k) (standing (id_of k) es) (f k)

-- nothing is left of the list
made : (k : TransportParameterId) (o v : Option ℕ) → Makes k o [] v → met_or o (default_of k) ≡ v
made k (Some w) v h = h.1
made k None v (inl h) = sym h.1
made k None v (inr h) = let e = h.1 in absurd cc

-- a value that stands first was not met before, and is the only one
record Only (k : TransportParameterId) (o : Option ℕ) (x : List ℕ) (xs : List (List ℕ)) (v : Option ℕ) : Type 0 where
  pub free : o ≡ None
  pub alone : xs ≡ []
  pub spells : SpellsValue k v x

tail : List (List ℕ) → List (List ℕ)
tail [] = []
tail (x ∷ xs) = xs

head : List (List ℕ) → List ℕ
head [] = []
head (x ∷ xs) = x

only : (k : TransportParameterId) (o : Option ℕ) (x : List ℕ) (xs : List (List ℕ)) (v : Option ℕ) → Makes k o (x ∷ xs) v → Only k o x xs v
unfolding tail head
only k (Some w) x xs v h = let e = h.0 in absurd cc
only k None x xs v (inl h) = let e = h.0 in absurd cc
only k None x xs v (inr h) = record { free = refl; alone = ap tail h.1; spells = subst (SpellsValue k v) (sym (ap head h.1)) h.2 }

-- an entry of another id leaves all as it is
skips : (f : TransportParameterId → Option ℕ) (met : List (Option ℕ)) (e : ℕ × List ℕ) (es : List (ℕ × List ℕ)) → parameter_at e.0 ≡ None → MakesAll f met (e ∷ es) → MakesAll f met es
skips f met e es unknown all = record {
  whole = all.whole;
  at = λ k.
      let other : e.0 ≡ id_of k → ⊥ = λ same. let known : parameter_at e.0 ≡ Some k = ap parameter_at same ∙ parameter_again k in cc in
      subst (λ (xs : List (List ℕ)). Makes k (met_at met k) xs (f k)) (standing_other (id_of k) e es other) (all.at k);
}

-- an entry of a parameter is met
meets_at : (f : TransportParameterId → Option ℕ) (met : List (Option ℕ)) (e : ℕ × List ℕ) (es : List (ℕ × List ℕ)) (j k : TransportParameterId) (v : ℕ) → e.0 ≡ id_of j → length met ≡ 13 → f j ≡ Some v
    → Only j (met_at met j) e.1 (standing (id_of j) es) (f j) → Makes k (met_at met k) (standing (id_of k) (e ∷ es)) (f k)
    → (place_of k ≡ place_of j) ⊎ (place_of k ≡ place_of j → ⊥) → Makes k (met_at (set met (place_of j) (Some v)) k) (standing (id_of k) es) (f k)
meets_at f met e es j k v same whole is alone before (inl here) =
    let at : k ≡ j = same_place k j here in
    subst (λ (i : TransportParameterId). Makes i (met_at (set met (place_of j) (Some v)) i) (standing (id_of i) es) (f i)) (sym at)
    (subst (λ (o : Option ℕ). Makes j o (standing (id_of j) es) (f j)) (sym (met_at_same met j v whole)) (alone.alone, sym is))
meets_at f met e es j k v same whole is alone before (inr other) =
    let apart : e.0 ≡ id_of k → ⊥ = λ here. other (ap place_of (same_id k j (sym here ∙ same))) in
    subst (λ (o : Option ℕ). Makes k o (standing (id_of k) es) (f k)) (sym (met_at_other met j k v other))
    (subst (λ (xs : List (List ℕ)). Makes k (met_at met k) xs (f k)) (standing_other (id_of k) e es apart) before)

first_only : (f : TransportParameterId → Option ℕ) (met : List (Option ℕ)) (e : ℕ × List ℕ) (es : List (ℕ × List ℕ)) (j : TransportParameterId) → e.0 ≡ id_of j → MakesAll f met (e ∷ es) → Only j (met_at met j) e.1 (standing (id_of j) es) (f j)
first_only f met e es j same all =
    only j (met_at met j) e.1 (standing (id_of j) es) (f j)
    (subst (λ (xs : List (List ℕ)). Makes j (met_at met j) xs (f j)) (standing_same (id_of j) e es same) (all.at j))

meets : (f : TransportParameterId → Option ℕ) (met : List (Option ℕ)) (e : ℕ × List ℕ) (es : List (ℕ × List ℕ)) (j : TransportParameterId) (v : ℕ) → e.0 ≡ id_of j → f j ≡ Some v → MakesAll f met (e ∷ es) → MakesAll f (set met (place_of j) (Some v)) es
meets f met e es j v same is all = record {
  whole = length-set met (place_of j) (Some v) ∙ all.whole;
  at = λ k. meets_at f met e es j k v same all.whole is (first_only f met e es j same all) (all.at k) (cases_eq (place_of k) (place_of j));
}

-- a value in range isn't out of it
not_out : (k : TransportParameterId) (o : Option ℕ) (v : ℕ) → o ≡ Some v → IsInRange k o → is_out k v ≡ false
not_out k o v is range =
    let r : IsInRange k (Some v) = subst (IsInRange k) is range in
    rw (le-ltb v (least_of k) r.0, le-ltb (most_of k) v r.1) refl

met_after_again : (met : List (Option ℕ)) (k : TransportParameterId) (x : List ℕ) (o : Option ℕ) → met_at met k ≡ None → (s : SpellsValue k o x) → IsInRange k o → met_after met k x ≡ Ok (set met (place_of k) (Some (counted k s.0)))
unfolding met_after
met_after_again met k x o free s range = rw (free, whole_again s.0 x s.1, not_out k o (counted k s.0) s.2 range) refl

-- the list is read to its end, and gives each parameter its value
record ReadsAll (f : TransportParameterId → Option ℕ) (met : List (Option ℕ)) (bytes : List ℕ) : Type 0 where
  pub after : List (Option ℕ)
  pub reads : met_in met bytes ≡ Ok after
  pub gives : (k : TransportParameterId) → met_or (met_at after k) (default_of k) ≡ f k

on_entry : (f : TransportParameterId → Option ℕ) (met more : List (Option ℕ)) (e : ℕ × List ℕ) (bytes rest : List ℕ) → entry_at bytes ≡ Ok (e, rest) → met_with met (parameter_at e.0) e.1 ≡ Ok more → ReadsAll f more rest → ReadsAll f met bytes
on_entry f met more e bytes rest first second others = record {
  after = others.after;
  reads = met_in_step met bytes (entry_takes bytes (e, rest) first) ∙ rw (first, second) others.reads;
  gives = others.gives;
}

spelled_entries : (f : TransportParameterId → Option ℕ) → ((k : TransportParameterId) → IsInRange k (f k)) → (es : List (ℕ × List ℕ)) (met : List (Option ℕ)) (bytes : List ℕ) → EntriesSpell es bytes → MakesAll f met es → ReadsAll f met bytes
spelled_entries f range [] met bytes h all = record {
  after = met;
  reads = ap (met_in met) h ∙ met_in_nil met;
  gives = λ k. made k (met_at met k) (f k) (all.at k);
}
spelled_entries f range (e ∷ es) met bytes h all =
    let first : entry_at bytes ≡ Ok (e, h.1) = ap entry_at h.4 ∙ entry_again e h.0 h.1 h.2 in
    let known : (o : Option TransportParameterId) → parameter_at e.0 ≡ o → ReadsAll f met bytes =
    λ o. elim o as (λ p. parameter_at e.0 ≡ p → ReadsAll f met bytes) [
      | None ↦ λ is. on_entry f met met e bytes h.1 first (ap (λ (p : Option TransportParameterId). met_with met p e.1) is) (spelled_entries f range es met h.1 h.3 (skips f met e es is all))
      | Some j ↦ λ is. (let same = parameter_is e.0 j is in
          let alone = first_only f met e es j same all in
          let v = counted j alone.spells.0 in
          on_entry f met (set met (place_of j) (Some v)) e bytes h.1 first
          (ap (λ (p : Option TransportParameterId). met_with met p e.1) is ∙ met_after_again met j e.1 (f j) alone.free alone.spells (range j))
          (spelled_entries f range es (set met (place_of j) (Some v)) h.1 h.3 (meets f met e es j v same alone.spells.2 all)))
    ] in
    known (parameter_at e.0) refl

not_longer : (o : Option ℕ) (ms : ℕ) → IsNoLonger o ms → is_longer o ms ≡ false
not_longer None ms h = refl
not_longer (Some us) ms h = le-ltb _ _ h

judged_again : (p : ParameterValues) → AreInRange p → judged p ≡ Ok p
unfolding judged
judged_again p range = rw (not_longer p.min_ack_delay p.max_ack_delay range.delays) refl

-- What spells values in range is read as these values.
pub spelled_again : (p : ParameterValues) (bytes : List ℕ) → ParametersSpell p bytes → AreInRange p → parameters_at bytes ≡ Ok p
unfolding parameters_at
spelled_again p bytes h range =
    let all : MakesAll (value_of p) none_met h.entries = record {
      whole = refl;
      at = λ k. subst (λ (o : Option ℕ). Makes k o (standing (id_of k) h.entries) (value_of p k)) (sym (none_met_at k)) (h.says k);
    } in
    let r = spelled_entries (value_of p) range.each h.entries none_met bytes h.spelled all in
    let values : values_met r.after ≡ p = values_same (values_met r.after) p (λ k. value_met r.after k ∙ r.gives k) in
    rw (r.reads, values) (judged_again p range)

-- ---- what is written is spelled

-- the entry of a parameter, where its value isn't the default
entries_if : TransportParameterId → ℕ → Bool → List (ℕ × List ℕ)
entries_if k v true = []
entries_if k v false = (id_of k, shortest v) ∷ []

entries_with : TransportParameterId → Option ℕ → List (ℕ × List ℕ)
entries_with k None = []
entries_with k (Some v) = entries_if k v (is_default v (default_of k))

entries_at : (TransportParameterId → Option ℕ) → Option TransportParameterId → List (ℕ × List ℕ)
entries_at f None = []
entries_at f (Some k) = entries_with k (f k)

entries_of : (TransportParameterId → Option ℕ) → List ℕ → List (ℕ × List ℕ)
entries_of f [] = []
entries_of f (place ∷ order) = entries_at f (parameter_of_place place) ++ entries_of f order

short : (v : ℕ) → v < 2 ^ 62 → length (shortest v) ≤ 8
short v lt =
    elim (cases_Bool (ltb v 64)) [
      | inl a ↦ rw a (omega arith)
      | inr a ↦ rw a (elim (cases_Bool (ltb v 16384)) [
        | inl b ↦ rw b (omega arith)
        | inr b ↦ rw b (elim (cases_Bool (ltb v 1073741824)) [
          | inl c ↦ rw c (omega arith)
          | inr c ↦ rw c (omega arith)
        ])
      ])
    ]

entry_spelled : (k : TransportParameterId) (v : ℕ) → v ≤ most_of k → EntrySpells (id_of k, shortest v) (shortest_entry (id_of k) (shortest v))
entry_spelled k v most =
    let small : v < 2 ^ 62 = let b = most_below k in omega arith in
    let len = short v small in
    (shortest (id_of k), shortest (length (shortest v)), shortest_spells (id_of k) (id_below k), shortest_spells (length (shortest v)) (omega arith), append_assoc (shortest (id_of k)) (shortest (length (shortest v))) (shortest v))

first_spelled : (k : TransportParameterId) (v : ℕ) → v ≤ most_of k → (es : List (ℕ × List ℕ)) (bytes : List ℕ) → EntriesSpell es bytes → (b : Bool)
    → EntriesSpell (entries_if k v b ++ es) (cond b [] (shortest_entry (id_of k) (shortest v)) ++ bytes)
unfolding entries_if
first_spelled k v most es bytes h true = h
first_spelled k v most es bytes h false = (shortest_entry (id_of k) (shortest v), bytes, entry_spelled k v most, h, refl)

value_spelled : (k : TransportParameterId) (o : Option ℕ) → IsInRange k o → (es : List (ℕ × List ℕ)) (bytes : List ℕ) → EntriesSpell es bytes → EntriesSpell (entries_with k o ++ es) (written_value k o ++ bytes)
unfolding entries_with
value_spelled k None range es bytes h = h
value_spelled k (Some v) range es bytes h = first_spelled k v range.1 es bytes h (is_default v (default_of k))

place_spelled : (p : ParameterValues) → AreInRange p → (o : Option TransportParameterId) (es : List (ℕ × List ℕ)) (bytes : List ℕ) → EntriesSpell es bytes → EntriesSpell (entries_at (value_of p) o ++ es) (written_place p o ++ bytes)
unfolding entries_at
place_spelled p range None es bytes h = h
place_spelled p range (Some k) es bytes h = value_spelled k (value_of p k) (range.each k) es bytes h

order_spelled : (p : ParameterValues) → AreInRange p → (order : List ℕ) → EntriesSpell (entries_of (value_of p) order) (written_parameters p order)
unfolding entries_of
order_spelled p range [] = refl
order_spelled p range (place ∷ order) = place_spelled p range (parameter_of_place place) (entries_of (value_of p) order) (written_parameters p order) (order_spelled p range order)

-- ---- each parameter is written once

standing_append : (id : ℕ) (es fs : List (ℕ × List ℕ)) → standing id (es ++ fs) ≡ standing id es ++ standing id fs
standing_append id [] fs = refl
standing_append id (e ∷ es) fs =
    elim (cases_Bool (eqb e.0 id)) [
      | inl a ↦ rw a (ap (λ (xs : List (List ℕ)). e.1 ∷ xs) (standing_append id es fs))
      | inr a ↦ rw a (standing_append id es fs)
    ]

-- the value that a parameter's place writes
own_if : ℕ → Bool → List (List ℕ)
own_if v true = []
own_if v false = shortest v ∷ []

own : Option ℕ → Option ℕ → List (List ℕ)
own default None = []
own default (Some v) = own_if v (is_default v default)

own_if_same : (k : TransportParameterId) (v : ℕ) (b : Bool) → standing (id_of k) (entries_if k v b) ≡ own_if v b
unfolding entries_if own_if
own_if_same k v true = refl
own_if_same k v false = standing_same (id_of k) (id_of k, shortest v) [] refl

own_same : (k : TransportParameterId) (o : Option ℕ) → standing (id_of k) (entries_with k o) ≡ own (default_of k) o
unfolding entries_with own
own_same k None = refl
own_same k (Some v) = own_if_same k v (is_default v (default_of k))

own_if_other : (j k : TransportParameterId) (v : ℕ) → (id_of j ≡ id_of k → ⊥) → (b : Bool) → standing (id_of k) (entries_if j v b) ≡ []
unfolding entries_if
own_if_other j k v other true = refl
own_if_other j k v other false = standing_other (id_of k) (id_of j, shortest v) [] other

own_other : (j k : TransportParameterId) (o : Option ℕ) → (id_of j ≡ id_of k → ⊥) → standing (id_of k) (entries_with j o) ≡ []
unfolding entries_with
own_other j k None other = refl
own_other j k (Some v) other = own_if_other j k v other (is_default v (default_of j))

at_own_place : (f : TransportParameterId → Option ℕ) (k : TransportParameterId) (place : ℕ) → place ≡ place_of k → standing (id_of k) (entries_at f (parameter_of_place place)) ≡ own (default_of k) (f k)
unfolding entries_at
at_own_place f k place same = ap (λ (o : Option TransportParameterId). standing (id_of k) (entries_at f o)) (ap parameter_of_place same ∙ place_again k) ∙ own_same k (f k)

at_other_place : (f : TransportParameterId → Option ℕ) (k : TransportParameterId) (place : ℕ) → (place ≡ place_of k → ⊥) → (o : Option TransportParameterId) → parameter_of_place place ≡ o → standing (id_of k) (entries_at f o) ≡ []
unfolding entries_at
at_other_place f k place other None is = refl
at_other_place f k place other (Some j) is = own_other j k (f j) (λ same. other (place_is place j is ∙ ap place_of (same_id j k same)))

-- how often a place stands in an order
abbrev times : ℕ → List ℕ → ℕ
times place order = count_by (λ x. eqb x place) order

times_cons : (place x : ℕ) (order : List ℕ) → times place (x ∷ order) ≡ cond (eqb x place) 1 0 + times place order
times_cons place x order = sum_by-cons (λ y. cond (eqb y place) 1 0) x order

written_never : (f : TransportParameterId → Option ℕ) (k : TransportParameterId) (order : List ℕ) → times (place_of k) order ≡ 0 → standing (id_of k) (entries_of f order) ≡ []
unfolding entries_of
written_never f k [] none = refl
written_never f k (place ∷ order) none =
    let more = times_cons (place_of k) place order in
    standing_append (id_of k) (entries_at f (parameter_of_place place)) (entries_of f order) ∙ elim (cases_eq place (place_of k)) [
      | inl same ↦ absurd (let test = eq-eqb place (place_of k) same in let one : times (place_of k) (place ∷ order) ≡ 1 + times (place_of k) order = more ∙ rw test refl in omega arith)
      | inr other ↦ (let test = ne_eqb place (place_of k) other in
          let left : times (place_of k) order ≡ 0 = let as_before : times (place_of k) (place ∷ order) ≡ 0 + times (place_of k) order = more ∙ rw test refl in omega arith in
          rw (at_other_place f k place other (parameter_of_place place) refl, written_never f k order left) refl)
    ]

written_once : (f : TransportParameterId → Option ℕ) (k : TransportParameterId) (order : List ℕ) → times (place_of k) order ≡ 1 → standing (id_of k) (entries_of f order) ≡ own (default_of k) (f k)
unfolding entries_of
written_once f k [] once = absurd (let none : times (place_of k) [] ≡ 0 = refl in omega arith)
written_once f k (place ∷ order) once =
    let more = times_cons (place_of k) place order in
    standing_append (id_of k) (entries_at f (parameter_of_place place)) (entries_of f order) ∙ elim (cases_eq place (place_of k)) [
      | inl same ↦ (let test = eq-eqb place (place_of k) same in
          let left : times (place_of k) order ≡ 0 = let one : times (place_of k) (place ∷ order) ≡ 1 + times (place_of k) order = more ∙ rw test refl in omega arith in
          rw (at_own_place f k place same, written_never f k order left) (append-nil (own (default_of k) (f k))))
      | inr other ↦ (let test = ne_eqb place (place_of k) other in
          let left : times (place_of k) order ≡ 1 = let as_before : times (place_of k) (place ∷ order) ≡ 0 + times (place_of k) order = more ∙ rw test refl in omega arith in
          rw (at_other_place f k place other (parameter_of_place place) refl) (written_once f k order left))
    ]

place_listed : (k : TransportParameterId) → get_or places (place_of k) 0 ≡ place_of k
place_listed MaxIdleTimeout = refl
place_listed MaxUdpPayloadSize = refl
place_listed InitialMaxData = refl
place_listed InitialMaxStreamDataBidiLocal = refl
place_listed InitialMaxStreamDataBidiRemote = refl
place_listed InitialMaxStreamDataUni = refl
place_listed InitialMaxStreamsBidi = refl
place_listed InitialMaxStreamsUni = refl
place_listed AckDelayExponent = refl
place_listed MaxAckDelay = refl
place_listed ActiveConnectionIdLimit = refl
place_listed MaxDatagramFrameSize = refl
place_listed MinAckDelay = refl

once : (k : TransportParameterId) (order : List ℕ) → IsWriteOrder order → times (place_of k) order ≡ 1
once k order h =
    let each = AllPass-from_list_all (λ place. eqb (times place order) 1) places h in
    let here = each (place_of k) 0 (place_below k) in
    let listed = ap (λ (place : ℕ). times place order) (place_listed k) in
    sym listed ∙ eqb-true _ _ here

default_is : (v : ℕ) (d : Option ℕ) → is_default v d ≡ true → some v ≡ d
default_is v None e = absurd cc
default_is v (Some d) e = ap some (eqb-true _ _ e)

says_if : (es : List (ℕ × List ℕ)) (k : TransportParameterId) (v : ℕ) → IsInRange k (Some v) → (b : Bool) → is_default v (default_of k) ≡ b → standing (id_of k) es ≡ own_if v b → Says es k (Some v)
unfolding own_if
says_if es k v range true e h = inl (h, default_is v (default_of k) e)
says_if es k v range false e h =
    let small : v < 2 ^ 62 = let b = most_below k in let a = range.1 in omega arith in
    inr (shortest v, h, (v, shortest_spells v small, ap some (sym (counted_same k v range.1))))

says_own : (es : List (ℕ × List ℕ)) (k : TransportParameterId) (o : Option ℕ) → (o ≡ None → default_of k ≡ None) → IsInRange k o → standing (id_of k) es ≡ own (default_of k) o → Says es k o
unfolding own
says_own es k None left range h = inl (h, sym (left refl))
says_own es k (Some v) left range h = says_if es k v range (is_default v (default_of k)) refl h

-- only a parameter without a default has no value
none_left : (p : ParameterValues) (k : TransportParameterId) → value_of p k ≡ None → default_of k ≡ None
none_left p MaxIdleTimeout e = absurd cc
none_left p MaxUdpPayloadSize e = absurd cc
none_left p InitialMaxData e = absurd cc
none_left p InitialMaxStreamDataBidiLocal e = absurd cc
none_left p InitialMaxStreamDataBidiRemote e = absurd cc
none_left p InitialMaxStreamDataUni e = absurd cc
none_left p InitialMaxStreamsBidi e = absurd cc
none_left p InitialMaxStreamsUni e = absurd cc
none_left p AckDelayExponent e = absurd cc
none_left p MaxAckDelay e = absurd cc
none_left p ActiveConnectionIdLimit e = absurd cc
none_left p MaxDatagramFrameSize e = absurd cc
none_left p MinAckDelay e = refl

-- What is written spells the values.
pub written_spells : (p : ParameterValues) (order : List ℕ) → IsWriteOrder order → AreInRange p → ParametersSpell p (written_parameters p order)
written_spells p order h range = record {
  entries = entries_of (value_of p) order;
  spelled = order_spelled p range order;
  says = λ k. says_own (entries_of (value_of p) order) k (value_of p k) (none_left p k) (range.each k) (written_once (value_of p) k order (once k order h));
}

-- What is written, in any order, is read again.
pub written_again : (p : ParameterValues) (order : List ℕ) → IsWriteOrder order → AreInRange p → parameters_at (written_parameters p order) ≡ Ok p
written_again p order h range = spelled_again p (written_parameters p order) (written_spells p order h range) range
