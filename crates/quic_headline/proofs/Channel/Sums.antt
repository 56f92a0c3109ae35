-- Sums over all streams: what an application wrote on each is no more than all that its calls
-- wrote.
use Rattle.std.proofs.Common.{◌≡◌, ℕ, zero, suc, ◌+◌, ◌<◌, ◌≤◌, Bool, List, [], ◌∷◌, ◌++◌, length, take, Ok, refl, sym, ap, inl, inr, arith}
use Rattle.std.specs.Prelude.{◌==◌, if◌then◌else◌}
use Rattle.std.proofs.lemmas.Bool.{cases_eq, cases_lt, ne_eqb, eq-eqb}
use Rattle.std.proofs.lemmas.List.{length-append}
use Rattle.quic_streams_laws.specs.Summed.{sum_below}
use Rattle.quic_machine.specs.declared.run.Call.{Call}
use Rattle.quic_machine.specs.declared.run.Call.TheVariants as calls
use Rattle.quic_machine.specs.declared.run.Answer.{Answer}
use Rattle.quic_machine.specs.declared.run.Answer.TheVariants as answers
use Rattle.quic_headline.specs.Runs.{Told, joined, written_by, written}
use Rattle.quic_headline.specs.Amounts.{amount_by, all_written}

-- ---- sums below a bound

-- what is no greater at each id
pub sum_within : (n : ℕ) (f g : ℕ → ℕ) → ((j : ℕ) → f j ≤ g j) → sum_below n f ≤ sum_below n g
unfolding sum_below
sum_within zero f g less = omega arith
sum_within (suc n) f g less =
    let here = less n in
    let rest = sum_within n f g less in
    omega arith

-- each is among them
pub sum_has : (n id : ℕ) (f : ℕ → ℕ) → id < n → f id ≤ sum_below n f
unfolding sum_below
sum_has zero id f below = omega arith
sum_has (suc n) id f below = elim (cases_eq id n) [
  | inl same ↦ (let here : f id ≡ f n = ap f same in omega arith)
  | inr ne ↦ (let less : id < n = strictly id n below ne in let rest = sum_has n id f less in omega arith)
]
  where
    strictly : (id n : ℕ) → id < suc n → (id ≡ n → ⊥) → id < n
    strictly id n below ne = elim (cases_lt id n) [ inl less ↦ less | inr more ↦ absurd (ne (omega arith)) ]

-- what is nothing at each
pub sum_none : (n : ℕ) (f : ℕ → ℕ) → ((j : ℕ) → j < n → f j ≡ 0) → sum_below n f ≡ 0
unfolding sum_below
sum_none zero f none = refl
sum_none (suc n) f none =
    let here = none n (omega arith) in
    let rest = sum_none n f (λ j below. none j (omega arith)) in
    omega arith

-- what is nothing but at one
sum_single : (n s : ℕ) (f : ℕ → ℕ) → ((j : ℕ) → (j ≡ s → ⊥) → f j ≡ 0) → sum_below n f ≤ f s
unfolding sum_below
sum_single zero s f none = omega arith
sum_single (suc n) s f none = elim (cases_eq n s) [
  | inl same ↦
      let here : f n ≡ f s = ap f same in
      let rest = sum_none n f (λ j below. none j (λ e. (let at : j ≡ s = e in omega arith))) in
      omega arith
  | inr ne ↦
      let here = none n ne in
      let rest = sum_single n s f none in
      omega arith
]

-- two, one beside the other
sum_plus : (n : ℕ) (f g h : ℕ → ℕ) → ((j : ℕ) → h j ≡ f j + g j) → sum_below n h ≡ sum_below n f + sum_below n g
unfolding sum_below
sum_plus zero f g h both = refl
sum_plus (suc n) f g h both =
    let here = both n in
    let rest = sum_plus n f g h both in
    omega arith

-- ---- what calls wrote

pub all_more : (ts : List Told) (t : Told) → all_written (ts ++ t ∷ []) ≡ all_written ts + amount_by t.call t.answer
all_more [] t = omega arith
all_more (u ∷ ts) t = let rest = all_more ts t in omega arith

-- what one call wrote on each stream, it wrote in all
module _ (n s : ℕ) (bytes : List ℕ) where
  abbrev there : ℕ → ℕ
  there j = length {A = ℕ} (if s == j then bytes else [])

  nothing_else : (j : ℕ) → (j ≡ s → ⊥) → there j ≡ 0
  nothing_else j ne = ap (λ (b : Bool). length {A = ℕ} (if b then bytes else [])) (ne_eqb s j (λ e. ne (sym e)))

  on_one : sum_below n there ≤ length bytes
  on_one =
      let most = sum_single n s there nothing_else in
      let here : there s ≡ length bytes = ap (λ (b : Bool). length {A = ℕ} (if b then bytes else [])) (eq-eqb s s refl) in
      omega arith

one_call : (n : ℕ) (call : Call) (a : Answer) → sum_below n (λ j. length (written_by j call a)) ≤ amount_by call a
one_call n (calls.Write s bytes) (answers.Write (Ok count)) = on_one n s (take count bytes)
one_call n (calls.WriteChunks s buffers) (answers.WriteChunks (Ok w)) = on_one n s (take w.bytes (joined buffers.items))
one_call n call a = let none = sum_none n (λ j. 0) (λ j below. refl) in omega arith

-- what was written on each stream was written in all
pub each_written : (n : ℕ) (told : List Told) → sum_below n (λ j. length (written j told)) ≤ all_written told
each_written n [] = let none = sum_none n (λ j. 0) (λ j below. refl) in omega arith
each_written n (t ∷ ts) =
    let one = one_call n t.call t.answer in
    let rest = each_written n ts in
    let both = sum_plus n (λ j. length (written_by j t.call t.answer)) (λ j. length (written j ts)) (λ j. length (written j (t ∷ ts))) (λ j. length-append (written_by j t.call t.answer) (written j ts)) in
    omega arith
