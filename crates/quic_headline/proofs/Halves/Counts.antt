-- The parameters of a peer are in range, as they are read: it lets no more than 2^60 streams of a
-- kind be opened (RFC 9000, sections 4.6 and 18.2).
use Rattle.std.proofs.Common.{◌≡◌, ℕ, zero, suc, ◌≤◌, ◌^◌, Bool, true, false, cond, ltb, List, [], ◌∷◌, length, set, Option, Some, None, Result, Ok, Err, refl, sym, ◌∙◌, subst, ◌⊎◌, inl, inr}
use Rattle.std.specs.Prelude.{is_some, ◌||◌}
use Rattle.std.proofs.lemmas.Bool.{cases_eq, ltb-false}
use Rattle.std.proofs.lemmas.List.{length-set}
use Rattle.quic_wire_core.specs.Taking.{◌>>=◌}
use Rattle.quic_parameters.specs.declared.transport_parameters.id.TransportParameterId.{TransportParameterId}
use Rattle.quic_parameters.specs.declared.transport_parameters.id.TransportParameterId.TheVariants.{InitialMaxStreamsBidi, InitialMaxStreamsUni}
use Rattle.quic_parameters.specs.declared.transport_parameters.error.TransportParametersError.{TransportParametersError}
use Rattle.quic_parameters.specs.declared.transport_parameters.error.TransportParametersError.TheVariants.{Malformed, IllegalValue}
use Rattle.quic_parameters.specs.Parameters.{ParameterValues, place_of, default_of, least_of, most_of, counted, value_of, IsInRange}
use Rattle.quic_parameters.specs.ParametersRead.{entry_at, whole_at, parameter_at, met_at, is_out, met_after, met_with, met_within, none_met, met_in, met_or, values_met, is_longer, judged, parameters_at}
use Rattle.quic_parameters.specs.ParametersTable.{none_met_at, same_place, met_at_same, met_at_other, default_in_range, value_met}

abbrev fine : {A : Type 0} → A → Result A TransportParametersError
fine x = Ok x

fine_is : {A : Type 0} (x y : A) → fine x ≡ fine y → x ≡ y
fine_is x y e = cc

-- a reading that went through went through its first part
record Through {A B : Type 0} (r : Result A TransportParametersError) (f : A → Result B TransportParametersError) (y : B) : Type 0 where
  first : A
  reads : r ≡ Ok first
  then : f first ≡ Ok y

through : {A B : Type 0} (r : Result A TransportParametersError) (f : A → Result B TransportParametersError) (y : B) → r >>= f ≡ Ok y → Through r f y
through (Ok x) f y e = record { first = x; reads = refl; then = e }
through (Err x) f y e = absurd cc

unguarded : {A : Type 0} (b : Bool) (x : TransportParametersError) (r : Result A TransportParametersError) (y : A) → cond b (Err x) r ≡ Ok y → (b ≡ false) × (r ≡ Ok y)
unguarded true x r y e = absurd cc
unguarded false x r y e = (refl, e)

neither : (a b : Bool) → a || b ≡ false → (a ≡ false) × (b ≡ false)
neither true b e = absurd cc
neither false b e = (refl, e)

-- ---- what is met

-- what was met is in range
record MetInRange (met : List (Option ℕ)) : Type 0 where
  whole : length met ≡ 13
  each : (k : TransportParameterId) → IsInRange k (met_at met k)

-- one more is met, and is in range
after_in_range : (met more : List (Option ℕ)) (j : TransportParameterId) (value : List ℕ) → MetInRange met → met_after met j value ≡ Ok more → MetInRange more
unfolding met_after
after_in_range met more j value m e =
    let a = unguarded (is_some (met_at met j)) Malformed _ more e in
    let b = through (whole_at value) _ more a.1 in
    let v : ℕ = counted j b.first in
    let c = unguarded (is_out j v) IllegalValue _ more b.then in
    let is : more ≡ set met (place_of j) (Some v) = sym (fine_is (set met (place_of j) (Some v)) more c.1) in
    let both = neither (ltb v (least_of j)) (ltb (most_of j) v) c.0 in
    let range : IsInRange j (Some v) = (ltb-false v (least_of j) both.0, ltb-false (most_of j) v both.1) in
    let at : (k : TransportParameterId) → (place_of k ≡ place_of j) ⊎ (place_of k ≡ place_of j → ⊥) → IsInRange k (met_at (set met (place_of j) (Some v)) k) =
    λ k o. elim o [
      | inl here ↦ subst (λ (i : TransportParameterId). IsInRange i (met_at (set met (place_of j) (Some v)) i)) (sym (same_place k j here)) (subst (IsInRange j) (sym (met_at_same met j v m.whole)) range)
      | inr other ↦ subst (IsInRange k) (sym (met_at_other met j k v other)) (m.each k)
    ] in
    subst MetInRange (sym is) (record { whole = length-set met (place_of j) (Some v) ∙ m.whole; each = λ k. at k (cases_eq (place_of k) (place_of j)) })

-- an entry, of a parameter or not
with_in_range : (met more : List (Option ℕ)) (o : Option TransportParameterId) (value : List ℕ) → MetInRange met → met_with met o value ≡ Ok more → MetInRange more
with_in_range met more None value m e = subst MetInRange (fine_is met more e) m
with_in_range met more (Some j) value m e = after_in_range met more j value m e

-- all entries
within_in_range : (n : ℕ) (met after : List (Option ℕ)) (bytes : List ℕ) → MetInRange met → met_within n met bytes ≡ Ok after → MetInRange after
unfolding met_within
within_in_range zero met after bytes m e = subst MetInRange (fine_is met after e) m
within_in_range (suc n) met after [] m e = subst MetInRange (fine_is met after e) m
within_in_range (suc n) met after (b ∷ bytes) m e =
    let a = through (entry_at (b ∷ bytes)) _ after e in
    let c = through (met_with met (parameter_at a.first.0.0) a.first.0.1) _ after a.then in
    within_in_range n c.first after a.first.1 (with_in_range met c.first (parameter_at a.first.0.0) a.first.0.1 m c.reads) c.then

-- ---- the values

-- what was met, or the default
or_in_range : (k : TransportParameterId) (o : Option ℕ) → IsInRange k o → IsInRange k (met_or o (default_of k))
or_in_range k None range = default_in_range k
or_in_range k (Some v) range = range

judged_is : (p q : ParameterValues) → judged p ≡ Ok q → p ≡ q
unfolding judged
judged_is p q e = fine_is p q (unguarded (is_longer p.min_ack_delay p.max_ack_delay) IllegalValue _ q e).1

-- each value that was read is in range
pub read_in_range : (bytes : List ℕ) (p : ParameterValues) → parameters_at bytes ≡ Ok p → (k : TransportParameterId) → IsInRange k (value_of p k)
unfolding parameters_at met_in
read_in_range bytes p e k =
    let a = through (met_in none_met bytes) _ p e in
    let m : MetInRange a.first = within_in_range (length bytes) none_met a.first bytes (record { whole = refl; each = λ j. subst (IsInRange j) (sym (none_met_at j)) tt }) a.reads in
    let is : values_met a.first ≡ p = judged_is (values_met a.first) p a.then in
    subst (λ (q : ParameterValues). IsInRange k (value_of q k)) is (subst (IsInRange k) (sym (value_met a.first k)) (or_in_range k (met_at a.first k) (m.each k)))

-- so no more than 2^60 streams of a kind may be opened
pub counts_in_range : (bytes : List ℕ) (p : ParameterValues) → parameters_at bytes ≡ Ok p → (p.initial_max_streams_bidi ≤ 2 ^ 60) × (p.initial_max_streams_uni ≤ 2 ^ 60)
counts_in_range bytes p e = ((read_in_range bytes p e InitialMaxStreamsBidi).1, (read_in_range bytes p e InitialMaxStreamsUni).1)
