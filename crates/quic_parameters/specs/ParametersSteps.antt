-- A list of parameters is read entry by entry.
use Rattle.std.proofs.Common.{◌≡◌, ℕ, zero, suc, ◌-◌, ◌≤◌, ◌<◌, Bool, true, false, cond, ltb, eqb, List, [], ◌∷◌, length, take, drop, Option, Some, None, Result, Ok, Err, refl, sym, ◌∙◌, arith, subst}
use Rattle.std.specs.Prelude.{slice_index, ◌/◌, ◌^◌}
use Rattle.std.specs.Int.{Width, w8, w16, w32, w64, byte_len}
use Rattle.std.proofs.lemmas.List.{length-drop}
use Rattle.quic_wire_core.specs.Varint.{wide_at}
use Rattle.quic_parameters.specs.declared.transport_parameters.error.TransportParametersError.{TransportParametersError}
use Rattle.quic_parameters.specs.declared.transport_parameters.error.TransportParametersError.TheVariants.{Malformed}
use Rattle.quic_wire_core.specs.Taking.{◌>>=◌}
use Rattle.quic_parameters.specs.ParametersRead.{or_malformed, number_at, entry_at, parameter_at, met_with, met_within, met_in}

-- ---- each reading takes a byte or more

abbrev Leaves : {T : Type 0} → ℕ → Result (T × List ℕ) TransportParametersError → Type 0
Leaves n (Ok x) = length x.1 ≤ n
Leaves n (Err e) = Unit {0}

-- what is read leaves at most n bytes
record LeavesAtMost {T : Type 0} (n : ℕ) (r : Result (T × List ℕ) TransportParametersError) : Type 0 where
  pub is : Leaves n r

wide_leaves_if : (w : Width) (bytes : List ℕ) (v : ℕ) (b : Bool) → ltb (length bytes) (byte_len w) ≡ b → 1 ≤ byte_len w
    → LeavesAtMost (length bytes - 1) (or_malformed (cond b None (Some (v, drop (byte_len w) bytes))))
wide_leaves_if w bytes v true e h = record { is = tt }
wide_leaves_if w bytes v false e h = record { is = omega (arith, length-drop (byte_len w) bytes) }

wide_leaves : (w : Width) (bytes : List ℕ) → 1 ≤ byte_len w → LeavesAtMost (length bytes - 1) (or_malformed (wide_at w bytes))
wide_leaves w bytes h = wide_leaves_if w bytes _ (ltb (length bytes) (byte_len w)) refl h

either : {T : Type 0} (n : ℕ) (b : Bool) (x y : Option (T × List ℕ)) → LeavesAtMost n (or_malformed x) → LeavesAtMost n (or_malformed y) → LeavesAtMost n (or_malformed (cond b x y))
either n true x y h k = h
either n false x y h k = k

number_leaves : (bytes : List ℕ) → LeavesAtMost (length bytes - 1) (number_at bytes)
number_leaves bytes =
    let n = length bytes - 1 in
    let tag = slice_index bytes 0 / 2 ^ 6 in
    let wide : Option (ℕ × List ℕ) = cond (eqb tag 2) (wide_at w32 bytes) (wide_at w64 bytes) in
    either n (eqb tag 0) (wide_at w8 bytes) (cond (eqb tag 1) (wide_at w16 bytes) wide) (wide_leaves w8 bytes (omega arith))
    (either n (eqb tag 1) (wide_at w16 bytes) wide (wide_leaves w16 bytes (omega arith))
    (either n (eqb tag 2) (wide_at w32 bytes) (wide_at w64 bytes) (wide_leaves w32 bytes (omega arith)) (wide_leaves w64 bytes (omega arith))))

bind : {A B : Type 0} (n m : ℕ) (r : Result (A × List ℕ) TransportParametersError) (f : A × List ℕ → Result (B × List ℕ) TransportParametersError)
    → LeavesAtMost n r → ((x : A × List ℕ) → length x.1 ≤ n → LeavesAtMost m (f x)) → LeavesAtMost m (r >>= f)
bind n m (Ok x) f h g = g x h.is
bind n m (Err e) f h g = record { is = tt }

guard : {A : Type 0} (n : ℕ) (b : Bool) (e : TransportParametersError) (x : A × List ℕ) → length x.1 ≤ n → LeavesAtMost n (cond b (Err e) (Ok x))
guard n true e x h = record { is = tt }
guard n false e x h = record { is = h }

entry_leaves : (bytes : List ℕ) → LeavesAtMost (length bytes - 1) (entry_at bytes)
unfolding entry_at
entry_leaves bytes =
    bind (length bytes - 1) _ (number_at bytes) _ (number_leaves bytes) (λ id a.
    bind (length id.1 - 1) _ (number_at id.1) _ (number_leaves id.1) (λ len b.
    guard _ (ltb (length len.1) len.0) Malformed ((id.0, take len.0 len.1), drop len.0 len.1) (omega (arith, length-drop len.0 len.1))))

leaves_of : {T : Type 0} (n : ℕ) (r : Result (T × List ℕ) TransportParametersError) (x : T × List ℕ) → LeavesAtMost n r → r ≡ Ok x → length x.1 ≤ n
leaves_of n r x h e = subst (Leaves n) e h.is

-- An entry takes a byte or more.
pub entry_shorter : (bytes : List ℕ) (x : (ℕ × List ℕ) × List ℕ) → entry_at bytes ≡ Ok x → length x.1 ≤ length bytes - 1
entry_shorter bytes x e = leaves_of (length bytes - 1) (entry_at bytes) x (entry_leaves bytes) e

-- ---- the steps are enough

bind_same : {A B : Type 0} (r : Result A TransportParametersError) (f g : A → Result B TransportParametersError) → ((x : A) → r ≡ Ok x → f x ≡ g x) → r >>= f ≡ r >>= g
bind_same (Ok x) f g h = h x refl
bind_same (Err e) f g h = refl

enough : (n m : ℕ) (met : List (Option ℕ)) (bytes : List ℕ) → length bytes ≤ n → length bytes ≤ m → met_within n met bytes ≡ met_within m met bytes
unfolding met_within
enough zero zero met bytes h k = refl
enough zero (suc m) met [] h k = refl
enough zero (suc m) met (b ∷ bytes) h k = absurd (omega arith)
enough (suc n) zero met [] h k = refl
enough (suc n) zero met (b ∷ bytes) h k = absurd (omega arith)
enough (suc n) (suc m) met [] h k = refl
enough (suc n) (suc m) met (b ∷ bytes) h k =
    bind_same (entry_at (b ∷ bytes)) _ _ (λ e is.
    let shorter : length e.1 ≤ length (b ∷ bytes) - 1 = entry_shorter (b ∷ bytes) e is in
    bind_same (met_with met (parameter_at e.0.0) e.0.1) _ _ (λ more _. enough n m more e.1 (omega arith) (omega arith)))

-- The end of a list changes nothing.
pub met_in_nil : (met : List (Option ℕ)) → met_in met [] ≡ Ok met
unfolding met_in met_within
met_in_nil met = refl

met_in_cons : (met : List (Option ℕ)) (b : ℕ) (bytes : List ℕ)
    → met_in met (b ∷ bytes) ≡ entry_at (b ∷ bytes) >>= λ e. met_with met (parameter_at e.0.0) e.0.1 >>= λ more. met_in more e.1
unfolding met_in met_within
met_in_cons met b bytes =
    bind_same (entry_at (b ∷ bytes)) _ _ (λ e is.
    let shorter : length e.1 ≤ length (b ∷ bytes) - 1 = entry_shorter (b ∷ bytes) e is in
    bind_same (met_with met (parameter_at e.0.0) e.0.1) _ _ (λ more _. enough (length bytes) (length e.1) more e.1 (omega arith) (omega arith)))

-- an entry, and the list behind it
pub met_in_step : (met : List (Option ℕ)) (bytes : List ℕ) → 0 < length bytes
    → met_in met bytes ≡ entry_at bytes >>= λ e. met_with met (parameter_at e.0.0) e.0.1 >>= λ more. met_in more e.1
met_in_step met [] h = absurd (omega arith)
met_in_step met (b ∷ bytes) h = met_in_cons met b bytes

-- ---- the steps of the loop

-- An entry that is taken leaves what the rest of the list makes of it.
pub met_next : (met more : List (Option ℕ)) (bytes rest value : List ℕ) (id : ℕ) (total : Result (List (Option ℕ)) TransportParametersError) → 0 < length bytes → entry_at bytes ≡ Ok ((id, value), rest)
    → met_with met (parameter_at id) value ≡ Ok more → met_in met bytes ≡ total → met_in more rest ≡ total
met_next met more bytes rest value id total some e m so_far = rw (met_in_step met bytes some, e, m) at so_far

-- An entry that is refused refuses the list.
pub met_refused : (met : List (Option ℕ)) (bytes rest value : List ℕ) (id : ℕ) (x : TransportParametersError) (total : Result (List (Option ℕ)) TransportParametersError) → 0 < length bytes → entry_at bytes ≡ Ok ((id, value), rest)
    → met_with met (parameter_at id) value ≡ Err x → met_in met bytes ≡ total → total ≡ Err x
met_refused met bytes rest value id x total some e m so_far = sym so_far ∙ met_in_step met bytes some ∙ rw (e, m) refl

-- An entry that can't be read refuses the list.
pub entry_refused : (met : List (Option ℕ)) (bytes : List ℕ) (x : TransportParametersError) (total : Result (List (Option ℕ)) TransportParametersError) → 0 < length bytes → entry_at bytes ≡ Err x → met_in met bytes ≡ total → total ≡ Err x
entry_refused met bytes x total some e so_far = sym so_far ∙ met_in_step met bytes some ∙ rw e refl

-- At the end of a list all of it is met.
pub met_whole : (met : List (Option ℕ)) (bytes : List ℕ) (total : Result (List (Option ℕ)) TransportParametersError) → length bytes ≡ 0 → met_in met bytes ≡ total → total ≡ Ok met
met_whole met [] total none so_far = sym so_far ∙ met_in_nil met
met_whole met (b ∷ bytes) total none so_far = absurd (omega arith)
