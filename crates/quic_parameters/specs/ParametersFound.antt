-- What is read is spelled.
use Rattle.std.proofs.Common.{◌≡◌, ℕ, zero, suc, ◌+◌, ◌≤◌, Bool, true, false, cond, ltb, eqb, List, [], ◌∷◌, ◌++◌, length, take, drop, set, Option, Some, None, Result, Ok, Err, refl, sym, ap, ◌∙◌, inl, inr, ◌⊎◌, arith, subst, append_assoc}
use Rattle.std.specs.Prelude.{is_some, ◌||◌, IfOk}
use Rattle.std.proofs.lemmas.Bool.{cases_eq, eqb-true, ltb-false}
use Rattle.std.proofs.lemmas.List.{drop_at, take-append-drop, length-take, append-nil, get_or-drop, length-set}
use Rattle.quic_wire_core.specs.Coding.{IsBytes}
use Rattle.quic_wire_core.specs.Varint.{Spells, Begins, varint_at}
use Rattle.quic_wire_core.specs.Law.{IsBytes-take, varint_found}
use Rattle.quic_parameters.specs.declared.transport_parameters.id.TransportParameterId.{TransportParameterId}
use Rattle.quic_parameters.specs.declared.transport_parameters.error.TransportParametersError.{TransportParametersError}
use Rattle.quic_parameters.specs.declared.transport_parameters.error.TransportParametersError.TheVariants.{Malformed, IllegalValue}
use Rattle.quic_parameters.specs.Parameters.{ParameterValues, id_of, place_of, default_of, least_of, most_of, counted, value_of, IsInRange, IsNoLonger, AreInRange, EntrySpells, EntriesSpell, standing, SpellsValue, Says, ParametersSpell}
use Rattle.quic_wire_core.specs.Taking.{◌>>=◌}
use Rattle.quic_parameters.specs.ParametersRead.{or_malformed, number_at, entry_at, whole_at, parameter_at, met_at, is_out, met_after, met_with, met_within, none_met, met_in, met_or, values_met, is_longer, judged, parameters_at}
use Rattle.quic_parameters.specs.ParametersSteps.{entry_shorter}
use Rattle.quic_parameters.specs.ParametersTable.{some, parameter_again, none_met_at, parameter_is, same_place, same_id, standing_same, standing_other, met_at_same, met_at_other, default_in_range, value_met}

-- ---- what is read is spelled

abbrev fine : {A : Type 0} → A → Result A TransportParametersError
fine x = Ok x

fine_is : {A : Type 0} (x y : A) → fine x ≡ fine y → x ≡ y
fine_is x y e = cc

-- a reading that went through went through its first part
record Through {A B : Type 0} (r : Result A TransportParametersError) (f : A → Result B TransportParametersError) (y : B) : Type 0 where
  pub first : A
  pub reads : r ≡ Ok first
  pub then : f first ≡ Ok y

through : {A B : Type 0} (r : Result A TransportParametersError) (f : A → Result B TransportParametersError) (y : B) → r >>= f ≡ Ok y → Through r f y
through (Ok x) f y e = record { first = x; reads = refl; then = e }
through (Err x) f y e = absurd cc

unguarded : {A : Type 0} (b : Bool) (x : TransportParametersError) (r : Result A TransportParametersError) (y : A) → cond b (Err x) r ≡ Ok y → (b ≡ false) × (r ≡ Ok y)
unguarded true x r y e = absurd cc
unguarded false x r y e = (refl, e)

guarded : {A : Type 0} (b : Bool) (x : TransportParametersError) (z y : A) → cond b (Ok z) (Err x) ≡ Ok y → (b ≡ true) × (z ≡ y)
guarded true x z y e = (refl, fine_is z y e)
guarded false x z y e = absurd cc

well_formed : {T : Type 0} (o : Option T) (x : T) → or_malformed o ≡ Ok x → o ≡ Some x
well_formed (Some y) x e = ap some (fine_is y x e)
well_formed None x e = absurd cc

IsBytes-drop : (n : ℕ) (bytes : List ℕ) → IsBytes bytes → IsBytes (drop n bytes)
IsBytes-drop n bytes h i = rw get_or-drop (h (n + i))

IsBytes_behind : (front rest bytes : List ℕ) → bytes ≡ front ++ rest → IsBytes bytes → IsBytes rest
IsBytes_behind front rest bytes e h = rw (ap (drop (length front)) e ∙ drop_at front rest (length front) refl) at (IsBytes-drop (length front) bytes h)

number_found : (bytes : List ℕ) (x : ℕ × List ℕ) → IsBytes bytes → number_at bytes ≡ Ok x → Begins bytes x.0 x.1
number_found bytes x h e = varint_found bytes x.0 x.1 h (well_formed (varint_at bytes) x e)

-- the front that an entry takes, and what follows it
record EntryBegins (bytes : List ℕ) (e : ℕ × List ℕ) (rest : List ℕ) : Type 0 where
  pub front : List ℕ
  pub spells : EntrySpells e front
  pub parts : bytes ≡ front ++ rest
  pub value_fits : IsBytes e.1
  pub rest_fits : IsBytes rest

entry_parts : (bytes behind_id behind : List ℕ) (id len : ℕ) → IsBytes bytes → Begins bytes id behind_id → IsBytes behind_id → Begins behind_id len behind → len ≤ length behind → EntryBegins bytes (id, take len behind) (drop len behind)
entry_parts bytes behind_id behind id len h a fits b long =
    let last = IsBytes_behind b.front behind behind_id b.parts fits in
    let size : length (take len behind) ≡ len = omega (arith, length-take len behind) in
    record {
      front = a.front ++ (b.front ++ take len behind);
      spells = (a.front, b.front, a.spells, subst (λ (n : ℕ). Spells n b.front) (sym size) b.spells, refl);
      parts = a.parts ∙ ap (λ (t : List ℕ). a.front ++ t) (b.parts ∙ ap (λ (t : List ℕ). b.front ++ t) (sym (take-append-drop len behind)) ∙ sym (append_assoc b.front (take len behind) (drop len behind)))
          ∙ sym (append_assoc a.front (b.front ++ take len behind) (drop len behind));
      value_fits = IsBytes-take len behind last;
      rest_fits = IsBytes-drop len behind last;
    }

entry_found : (bytes : List ℕ) (x : (ℕ × List ℕ) × List ℕ) → IsBytes bytes → entry_at bytes ≡ Ok x → EntryBegins bytes x.0 x.1
unfolding entry_at
entry_found bytes x h e =
    let a = through (number_at bytes) _ x e in
    let b = through (number_at a.first.1) _ x a.then in
    let c = unguarded (ltb (length b.first.1) b.first.0) Malformed _ x b.then in
    let is = fine_is ((a.first.0, take b.first.0 b.first.1), drop b.first.0 b.first.1) x c.1 in
    let one = number_found bytes a.first h a.reads in
    let fits = IsBytes_behind one.front a.first.1 bytes one.parts h in
    let two = number_found a.first.1 b.first fits b.reads in
    let parts = entry_parts bytes a.first.1 b.first.1 a.first.0 b.first.0 h one fits two (ltb-false _ _ c.0) in
    subst (λ (y : (ℕ × List ℕ) × List ℕ). EntryBegins bytes y.0 y.1) is parts

nothing_behind : (front rest : List ℕ) (bytes : List ℕ) (v : ℕ) → length rest ≡ 0 → bytes ≡ front ++ rest → Spells v front → Spells v bytes
nothing_behind front [] bytes v none e s = subst (Spells v) (sym (e ∙ append-nil front)) s
nothing_behind front (b ∷ rest) bytes v none e s = absurd (omega arith)

whole_found : (bytes : List ℕ) (v : ℕ) → IsBytes bytes → whole_at bytes ≡ Ok v → Spells v bytes
unfolding whole_at
whole_found bytes v h e =
    let a = through (number_at bytes) _ v e in
    let c = guarded (eqb (length a.first.1) 0) Malformed a.first.0 v a.then in
    let b = number_found bytes a.first h a.reads in
    subst (λ (n : ℕ). Spells n bytes) c.1 (nothing_behind b.front a.first.1 bytes a.first.0 (eqb-true _ _ c.0) b.parts b.spells)

-- what an entry of a parameter adds to what was met
record Added (met more : List (Option ℕ)) (k : TransportParameterId) (x : List ℕ) : Type 0 where
  pub value : ℕ
  pub free : met_at met k ≡ None
  pub spells : SpellsValue k (Some value) x
  pub range : IsInRange k (Some value)
  pub is : more ≡ set met (place_of k) (Some value)

not_some : {T : Type 0} (o : Option T) → is_some o ≡ false → o ≡ None
not_some (Some x) e = absurd cc
not_some None e = refl

neither : (a b : Bool) → a || b ≡ false → (a ≡ false) × (b ≡ false)
neither true b e = absurd cc
neither false b e = (refl, e)

not_out : (k : TransportParameterId) (v : ℕ) → is_out k v ≡ false → IsInRange k (Some v)
not_out k v e =
    let both = neither (ltb v (least_of k)) (ltb (most_of k) v) e in
    (ltb-false _ _ both.0, ltb-false _ _ both.1)

added : (met more : List (Option ℕ)) (k : TransportParameterId) (x : List ℕ) → IsBytes x → met_after met k x ≡ Ok more → Added met more k x
unfolding met_after
added met more k x h e =
    let a = unguarded (is_some (met_at met k)) Malformed _ more e in
    let b = through (whole_at x) _ more a.1 in
    let v = counted k b.first in
    let c = unguarded (is_out k v) IllegalValue _ more b.then in
    record {
      value = v;
      free = not_some (met_at met k) a.0;
      spells = (b.first, whole_found x b.first h b.reads, refl);
      range = not_out k v c.0;
      is = sym (fine_is (set met (place_of k) (Some v)) more c.1);
    }

-- What a parameter has met, what stands at its id in the rest of the list, and what it has met at
-- the end.
abbrev Gives : TransportParameterId → Option ℕ → List (List ℕ) → Option ℕ → Type 0
Gives k (Some w) xs o = (xs ≡ []) × (o ≡ Some w)
Gives k None xs o = ((xs ≡ []) × (o ≡ None)) ⊎ ((x : List ℕ) × (v : ℕ) × (xs ≡ x ∷ []) × SpellsValue k (Some v) x × IsInRange k (Some v) × (o ≡ Some v))

record Found (met after : List (Option ℕ)) (bytes : List ℕ) : Type 0 where
  pub entries : List (ℕ × List ℕ)
  pub spelled : EntriesSpell entries bytes
  pub at : (k : TransportParameterId) → Gives k (met_at met k) (standing (id_of k) entries) (met_at after k)

gives_nothing : (k : TransportParameterId) (o : Option ℕ) → Gives k o [] o
gives_nothing k (Some w) = (refl, refl)
gives_nothing k None = inl (refl, refl)

found_end : (met after : List (Option ℕ)) → met ≡ after → Found met after []
found_end met after e = record {
  entries = [];
  spelled = refl;
  at = λ k. subst (λ (m : List (Option ℕ)). Gives k (met_at met k) [] (met_at m k)) e (gives_nothing k (met_at met k));
}

with_first : (met after : List (Option ℕ)) (bytes rest : List ℕ) (e : ℕ × List ℕ) (es : List (ℕ × List ℕ)) → EntryBegins bytes e rest → EntriesSpell es rest
    → ((k : TransportParameterId) → Gives k (met_at met k) (standing (id_of k) (e ∷ es)) (met_at after k)) → Found met after bytes
with_first met after bytes rest e es b others at = record { entries = e ∷ es; spelled = (b.front, rest, b.spells, others, b.parts); at = at }

-- an entry of another id
gives_skip : (met after : List (Option ℕ)) (e : ℕ × List ℕ) (es : List (ℕ × List ℕ)) → parameter_at e.0 ≡ None → (k : TransportParameterId)
    → Gives k (met_at met k) (standing (id_of k) es) (met_at after k) → Gives k (met_at met k) (standing (id_of k) (e ∷ es)) (met_at after k)
gives_skip met after e es unknown k g =
    let other : e.0 ≡ id_of k → ⊥ = λ same. let known : parameter_at e.0 ≡ Some k = ap parameter_at same ∙ parameter_again k in cc in
    subst (λ (xs : List (List ℕ)). Gives k (met_at met k) xs (met_at after k)) (sym (standing_other (id_of k) e es other)) g

gives_first : (k : TransportParameterId) (o : Option ℕ) (x : List ℕ) (v : ℕ) (xs : List (List ℕ)) (last : Option ℕ) → o ≡ None → SpellsValue k (Some v) x → IsInRange k (Some v) → Gives k (Some v) xs last → Gives k o (x ∷ xs) last
gives_first k o x v xs last free s range g =
    subst (λ (p : Option ℕ). Gives k p (x ∷ xs) last) (sym free) (inr (x, v, ap (λ (ys : List (List ℕ)). x ∷ ys) g.0, s, range, g.1))

-- an entry of a parameter
gives_meet : (met more after : List (Option ℕ)) (e : ℕ × List ℕ) (es : List (ℕ × List ℕ)) (j k : TransportParameterId) → e.0 ≡ id_of j → length met ≡ 13 → Added met more j e.1
    → ((i : TransportParameterId) → Gives i (met_at more i) (standing (id_of i) es) (met_at after i)) → (place_of k ≡ place_of j) ⊎ (place_of k ≡ place_of j → ⊥)
    → Gives k (met_at met k) (standing (id_of k) (e ∷ es)) (met_at after k)
gives_meet met more after e es j k same whole a others (inl here) =
    let P : TransportParameterId → Type 0 = λ i. Gives i (met_at met i) (standing (id_of i) (e ∷ es)) (met_at after i) in
    let now : met_at more j ≡ Some a.value = ap (λ (m : List (Option ℕ)). met_at m j) a.is ∙ met_at_same met j a.value whole in
    let rest = subst (λ (o : Option ℕ). Gives j o (standing (id_of j) es) (met_at after j)) now (others j) in
    let here_now = gives_first j (met_at met j) e.1 a.value (standing (id_of j) es) (met_at after j) a.free a.spells a.range rest in
    subst P (sym (same_place k j here)) (subst (λ (xs : List (List ℕ)). Gives j (met_at met j) xs (met_at after j)) (sym (standing_same (id_of j) e es same)) here_now)
gives_meet met more after e es j k same whole a others (inr other) =
    let apart : e.0 ≡ id_of k → ⊥ = λ is. other (ap place_of (same_id k j (sym is ∙ same))) in
    let as_before : met_at more k ≡ met_at met k = ap (λ (m : List (Option ℕ)). met_at m k) a.is ∙ met_at_other met j k a.value other in
    subst (λ (xs : List (List ℕ)). Gives k (met_at met k) xs (met_at after k)) (sym (standing_other (id_of k) e es apart))
    (subst (λ (o : Option ℕ). Gives k o (standing (id_of k) es) (met_at after k)) as_before (others k))

-- the list behind an entry, and then the whole
found_entry : (met more after : List (Option ℕ)) (bytes rest : List ℕ) (e : ℕ × List ℕ) (o : Option TransportParameterId) → parameter_at e.0 ≡ o → length met ≡ 13 → EntryBegins bytes e rest
    → met_with met o e.1 ≡ Ok more → (length more ≡ 13 → Found more after rest) → Found met after bytes
found_entry met more after bytes rest e None is whole b step others =
    let same : met ≡ more = fine_is met more step in
    let f = others (ap length (sym same) ∙ whole) in
    with_first met after bytes rest e f.entries b f.spelled (λ k. gives_skip met after e f.entries is k (subst (λ (m : List (Option ℕ)). Gives k (met_at m k) (standing (id_of k) f.entries) (met_at after k)) (sym same) (f.at k)))
found_entry met more after bytes rest e (Some j) is whole b step others =
    let a = added met more j e.1 b.value_fits step in
    let f = others (ap length a.is ∙ length-set met (place_of j) (Some a.value) ∙ whole) in
    with_first met after bytes rest e f.entries b f.spelled (λ k. gives_meet met more after e f.entries j k (parameter_is e.0 j is) whole a f.at (cases_eq (place_of k) (place_of j)))

found_within : (n : ℕ) (met after : List (Option ℕ)) (bytes : List ℕ) → length bytes ≤ n → length met ≡ 13 → IsBytes bytes → met_within n met bytes ≡ Ok after → Found met after bytes
unfolding met_within
found_within zero met after [] fits whole h e = found_end met after (fine_is met after e)
found_within zero met after (b ∷ bytes) fits whole h e = absurd (omega arith)
found_within (suc n) met after [] fits whole h e = found_end met after (fine_is met after e)
found_within (suc n) met after (b ∷ bytes) fits whole h e =
    let a = through (entry_at (b ∷ bytes)) _ after e in
    let c = through (met_with met (parameter_at a.first.0.0) a.first.0.1) _ after a.then in
    let begins = entry_found (b ∷ bytes) a.first h a.reads in
    let shorter = entry_shorter (b ∷ bytes) a.first a.reads in
    found_entry met c.first after (b ∷ bytes) a.first.1 a.first.0 (parameter_at a.first.0.0) refl whole begins c.reads (λ w. found_within n c.first after a.first.1 (omega arith) w begins.rest_fits c.then)

gives_says : (es : List (ℕ × List ℕ)) (k : TransportParameterId) (o : Option ℕ) → Gives k None (standing (id_of k) es) o → Says es k (met_or o (default_of k)) × IsInRange k (met_or o (default_of k))
gives_says es k o (inl g) = rw g.1 (inl (g.0, refl), default_in_range k)
gives_says es k o (inr g) = rw g.5 (inr (g.0, g.2, g.3), g.4)

no_longer : (o : Option ℕ) (ms : ℕ) → is_longer o ms ≡ false → IsNoLonger o ms
no_longer None ms e = tt
no_longer (Some us) ms e = ltb-false _ _ e

-- values that were judged fit, and are the same
record Judged (p q : ParameterValues) : Type 0 where
  pub same : p ≡ q
  pub delays : IsNoLonger p.min_ack_delay p.max_ack_delay

judged_found : (p q : ParameterValues) → judged p ≡ Ok q → Judged p q
unfolding judged
judged_found p q e =
    let a = unguarded (is_longer p.min_ack_delay p.max_ack_delay) IllegalValue _ q e in
    record { same = fine_is p q a.1; delays = no_longer p.min_ack_delay p.max_ack_delay a.0 }

-- What was met gives values that the list spells, and that are in range.
met_found : (bytes : List ℕ) (after : List (Option ℕ)) (p : ParameterValues) → Found none_met after bytes → Judged (values_met after) p → ParametersSpell p bytes × AreInRange p
met_found bytes after p f j =
    let each : (k : TransportParameterId) → met_or (met_at after k) (default_of k) ≡ value_of p k = λ k. sym (value_met after k) ∙ ap (λ (q : ParameterValues). value_of q k) j.same in
    let said : (k : TransportParameterId) → Says f.entries k (met_or (met_at after k) (default_of k)) × IsInRange k (met_or (met_at after k) (default_of k)) =
    λ k. gives_says f.entries k (met_at after k) (subst (λ (o : Option ℕ). Gives k o (standing (id_of k) f.entries) (met_at after k)) (none_met_at k) (f.at k)) in (
      record { entries = f.entries; spelled = f.spelled; says = λ k. subst (Says f.entries k) (each k) (said k).0 },
      record {
        each = λ k. subst (IsInRange k) (each k) (said k).1;
        delays = subst (λ (q : ParameterValues). IsNoLonger q.min_ack_delay q.max_ack_delay) j.same j.delays;
      },
    )

-- What is read is spelled so, by values in range.
pub read_found : (bytes : List ℕ) (p : ParameterValues) → IsBytes bytes → parameters_at bytes ≡ Ok p → ParametersSpell p bytes × AreInRange p
unfolding parameters_at met_in
read_found bytes p h e =
    let a = through (met_in none_met bytes) _ p e in
    let f = found_within (length bytes) none_met a.first bytes (omega arith) refl h a.reads in
    met_found bytes a.first p f (judged_found (values_met a.first) p a.then)

-- An answer of values is of such values.
pub found_if : (bytes : List ℕ) (r : Result ParameterValues TransportParametersError) → IsBytes bytes → parameters_at bytes ≡ r → IfOk r (λ p. ParametersSpell p bytes × AreInRange p)
found_if bytes (Ok p) h e = read_found bytes p h e
found_if bytes (Err x) h e = tt
