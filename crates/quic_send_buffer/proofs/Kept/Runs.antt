-- The pieces of a run, of one length, whose bytes lie one behind the other.
use Rattle.std.proofs.Common.{◌≡◌, ℕ, zero, suc, ◌+◌, ◌-◌, ◌*◌, ◌/◌, ◌<◌, ◌≤◌, ◌++◌, length, take, drop, List, [], ◌∷◌, Option, Some, refl, sym, ap, ◌∙◌, subst, inl, inr, arith, length-take, length-drop, length-append, take-append-drop}
use Rattle.std.proofs.lemmas.Bool.{cases_lt, le-leb, lt-leb, le-ltb, lt-ltb}
use Rattle.std.proofs.lemmas.List.{take_all, take-append-le, drop-append-le, drop-drop}
use Rattle.std.proofs.lemmas.Nat.{div-mul-add, div-add-mod', div_below, mod_below}
use Rattle.std.proofs.Math.Nat.{suc-mul, add-mul}
use Rattle.quic_sets.specs.Parts.{Part, after, bytes_of}
use Rattle.quic_send_buffer.specs.KeptBytes.{RunOf, run_of, behind, end_from, end_of, start_of, pushed, passed_of}
use Rattle.quic_send_buffer.specs.Row.{first_of}
use Rattle.quic_send_buffer.specs.Stretch.{run_to, parts_in, IsRun, IsStretch, IsGrown}
use Rattle.quic_send_buffer.specs.declared.send_buffer.stretch.Store.{Store}
use Rattle.quic_send_buffer.specs.declared.send_buffer.stretch.Store.TheVariants.{One, Many}

no_bytes : (bs : List ℕ) → length bs ≡ 0 → [] ≡ bs
no_bytes [] h = refl
no_bytes (b ∷ bs) h = absurd (omega (arith, h))

-- how many pieces there are
count_is : (n each : ℕ) (bs : List ℕ) → 0 < each → length bs ≡ n * each → length bs / each ≡ n
count_is n each bs some e = let same : length bs ≡ n * each + 0 = omega (arith, e) in ap (λ (k : ℕ). k / each) same ∙ div-mul-add n each 0 some

-- the bytes behind the first piece
less_bytes : (n each : ℕ) (bs : List ℕ) → length bs ≡ suc n * each → length (drop each bs) ≡ n * each
less_bytes n each bs e = let step = suc-mul n each in let left = length-drop each bs in omega (arith, e, step, left)

at_least_one : (n each : ℕ) → 0 < n → each ≤ n * each
at_least_one zero each some = absurd (omega (arith, some))
at_least_one (suc n) each some = let step = suc-mul n each in omega (arith, step)

-- ---- what they are

run_bytes : (n at each : ℕ) (bs : List ℕ) → length bs ≡ n * each → bytes_of (run_of n at each bs) ≡ bs
run_bytes zero at each bs e = no_bytes bs (omega (arith, e))
run_bytes (suc n) at each bs e = ap (λ (xs : List ℕ). take each bs ++ xs) (run_bytes n (at + each) each (drop each bs) (less_bytes n each bs e)) ∙ take-append-drop each bs

run_end : (n at each : ℕ) (bs : List ℕ) → end_from at (run_of n at each bs) ≡ at + n * each
run_end zero at each bs = omega arith
run_end (suc n) at each bs = let rest = run_end n (at + each) each (drop each bs) in let step = suc-mul n each in omega (arith, rest, step)

run_ends : (n at each : ℕ) (bs : List ℕ) → 0 < n → end_of (run_of n at each bs) ≡ at + n * each
run_ends zero at each bs some = absurd (omega (arith, some))
run_ends (suc n) at each bs some = run_end (suc n) at each bs

run_start : (n at each : ℕ) (bs : List ℕ) → 0 < n → length bs ≡ n * each → start_of (run_of n at each bs) ≡ at
run_start zero at each bs some e = absurd (omega (arith, some))
run_start (suc n) at each bs some e =
    let step = suc-mul n each in
    let first = length-take each bs in
    omega (arith, e, step, first)

-- ---- one more piece

run_more : (n at each : ℕ) (bs more : List ℕ) → length bs ≡ n * each → length more ≡ each
    → run_of (suc n) at each (bs ++ more) ≡ run_of n at each bs ++ ((at + n * each + each, more) ∷ [])
run_more zero at each bs more e len =
    let none : [] ≡ bs = no_bytes bs (omega (arith, e)) in
    let place : at + each ≡ at + zero * each + each = omega arith in
    subst (λ (xs : List ℕ). run_of 1 at each (xs ++ more) ≡ (at + zero * each + each, more) ∷ []) none
    (ap (λ (xs : List ℕ). let x : List Part = (at + each, xs) ∷ [] in x) (take_all each more (omega (arith, len))) ∙ ap (λ (k : ℕ). let x : List Part = (k, more) ∷ [] in x) place)
run_more (suc n) at each bs more e len =
    let step = suc-mul n each in
    let long : each ≤ length bs = omega (arith, e, step) in
    let place : at + each + n * each + each ≡ at + suc n * each + each = omega (arith, step) in
    ap (λ (xs : List ℕ). (at + each, xs) ∷ run_of (suc n) (at + each) each (drop each (bs ++ more))) (take-append-le each bs more long)
    ∙ ap (λ (xs : List ℕ). (at + each, take each bs) ∷ run_of (suc n) (at + each) each xs) (drop-append-le each bs more long)
    ∙ ap (λ (ps : List Part). (at + each, take each bs) ∷ ps) (run_more n (at + each) each (drop each bs) more (less_bytes n each bs e) len
    ∙ ap (λ (k : ℕ). run_of n (at + each) each (drop each bs) ++ ((k, more) ∷ [])) place)

-- ---- the first pieces go

run_behind : (q n at o each : ℕ) (bs : List ℕ) → 0 < each → q * each ≤ o - at → o < at + q * each + each → q < n
    → behind o (run_of n at each bs) ≡ run_of (n - q) (at + q * each) each (drop (q * each) bs)
run_behind q zero at o each bs some low high lt = absurd (omega (arith, lt))
run_behind zero (suc n) at o each bs some low high lt =
    let place : at ≡ at + zero * each = omega arith in
    let none : 0 ≡ zero * each = omega arith in
    let all : suc n ≡ suc n - zero = omega arith in
    rw (lt-leb (at + each) o (omega (arith, high))) (ap (λ (k : ℕ). run_of (suc n) k each bs) place
    ∙ ap (λ (k : ℕ). run_of k (at + zero * each) each bs) all
    ∙ ap (λ (k : ℕ). run_of (suc n - zero) (at + zero * each) each (drop k bs)) none)
run_behind (suc q) (suc n) at o each bs some low high lt =
    let step = suc-mul q each in
    let count : n - q ≡ suc n - suc q = omega arith in
    let place : at + each + q * each ≡ at + suc q * each = omega (arith, step) in
    let all : each + q * each ≡ suc q * each = omega (arith, step) in
    let rest = run_behind q n (at + each) o each (drop each bs) some (omega (arith, low, step)) (omega (arith, high, step)) (omega (arith, lt)) in
    rw (le-leb (at + each) o (omega (arith, low, high, step, some))) (rest
    ∙ ap (λ (k : ℕ). run_of k (at + each + q * each) each (drop (q * each) (drop each bs))) count
    ∙ ap (λ (k : ℕ). run_of (suc n - suc q) k each (drop (q * each) (drop each bs))) place
    ∙ ap (λ (xs : List ℕ). run_of (suc n - suc q) (at + suc q * each) each xs) (drop-drop (q * each) each bs ∙ ap (λ (k : ℕ). drop k bs) all))

-- ---- a run that ends at an offset

bytes_are : (end each : ℕ) (bs : List ℕ) → IsRun end each bs → bytes_of (run_to end each bs) ≡ bs
bytes_are end each bs r = run_bytes (length bs / each) (end - length bs) each bs (sym r.whole)

end_is_last : (end each : ℕ) (bs : List ℕ) → IsRun end each bs → end_of (run_to end each bs) ≡ end
end_is_last end each bs r =
    let whole = r.whole in
    let placed = r.placed in
    let last = run_ends (length bs / each) (end - length bs) each bs r.some in
    omega (arith, whole, placed, last)

start_is_first : (end each : ℕ) (bs : List ℕ) → IsRun end each bs → start_of (run_to end each bs) ≡ end - length bs
start_is_first end each bs r = run_start (length bs / each) (end - length bs) each bs r.some (sym r.whole)

-- a run of so many pieces
made : (n end each : ℕ) (bs : List ℕ) → 0 < each → 0 < n → length bs ≡ n * each → length bs ≤ end → IsRun end each bs
made n end each bs some few whole placed =
    let count = count_is n each bs some whole in
    record {
      filled = some;
      some = omega (arith, count, few);
      whole = ap (λ (k : ℕ). k * each) count ∙ sym whole;
      placed = placed;
    }

-- one piece alone
one_run : (end : ℕ) (bs : List ℕ) → 0 < length bs → length bs ≤ end → IsRun end (length bs) bs × (run_to end (length bs) bs ≡ (end, bs) ∷ [])
one_run end bs some placed =
    let whole : length bs ≡ 1 * length bs = omega arith in
    let count = count_is 1 (length bs) bs some whole in
    let place : end - length bs + length bs ≡ end = omega (arith, placed) in (
      made 1 end (length bs) bs some (omega arith) whole placed,
      ap (λ (k : ℕ). run_of k (end - length bs) (length bs) bs) count
          ∙ ap (λ (k : ℕ). let x : List Part = (k, take (length bs) bs) ∷ [] in x) place
          ∙ ap (λ (xs : List ℕ). let x : List Part = (end, xs) ∷ [] in x) (take_all (length bs) bs (omega arith)),
    )

-- with one more piece
more_run : (end each : ℕ) (bs more : List ℕ) → IsRun end each bs → length more ≡ each
    → IsRun (end + length more) each (bs ++ more) × (run_to (end + length more) each (bs ++ more) ≡ pushed more (run_to end each bs))
more_run end each bs more r len =
    let n = length bs / each in
    let both = length-append bs more in
    let step = suc-mul n each in
    let whole = r.whole in
    let placed = r.placed in
    let filled = r.filled in
    let sum : length (bs ++ more) ≡ suc n * each = omega (arith, both, step, whole, len) in
    let count = count_is (suc n) each (bs ++ more) filled sum in
    let first : end + length more - length (bs ++ more) ≡ end - length bs = omega (arith, both, placed) in
    let last = end_is_last end each bs r in
    let ends : end - length bs + n * each + each ≡ end_of (run_to end each bs) + length more = omega (arith, whole, placed, last, len) in (
      made (suc n) (end + length more) each (bs ++ more) filled (omega arith) sum (omega (arith, both, placed)),
      ap (λ (k : ℕ). run_of k (end + length more - length (bs ++ more)) each (bs ++ more)) count
          ∙ ap (λ (k : ℕ). run_of (suc n) k each (bs ++ more)) first
          ∙ run_more n (end - length bs) each bs more (sym whole) len
          ∙ ap (λ (k : ℕ). run_to end each bs ++ ((k, more) ∷ [])) ends,
    )

-- how many bytes those pieces have that end up to an offset, by their count
record Passed (end each o : ℕ) (bs : List ℕ) : Type 0 where
  whole : passed_of (end - length bs) each o ≡ (o - (end - length bs)) / each * each
  low : (o - (end - length bs)) / each * each ≤ o - (end - length bs)
  high : o < end - length bs + (o - (end - length bs)) / each * each + each
  few : (o - (end - length bs)) / each < length bs / each

passed_is : (end each o : ℕ) (bs : List ℕ) → IsRun end each bs → o < end → Passed end each o bs
passed_is end each o bs r lt =
    let below = o - (end - length bs) in
    let split = div-add-mod' below each in
    let rest = mod_below below each r.filled in
    let whole = r.whole in
    let placed = r.placed in
    let low : below / each * each ≤ below = omega (arith, split) in
    let more = at_least_one (length bs / each) each r.some in
    let filled = r.filled in
    let short : below < length bs / each * each = omega (arith, whole, placed, lt, more, filled) in
    record {
      whole = omega (arith, split);
      low = low;
      high = omega (arith, split, rest);
      few = div_below below each (length bs / each) r.filled short;
    }

-- without the first pieces
less_run : (end each o gone : ℕ) (bs : List ℕ) → IsRun end each bs → o < end → gone ≡ passed_of (end - length bs) each o
    → IsRun end each (drop gone bs) × (run_to end each (drop gone bs) ≡ behind o (run_to end each bs))
less_run end each o gone bs r lt e =
    let n = length bs / each in
    let q = (o - (end - length bs)) / each in
    let p = passed_is end each o bs r lt in
    let is : gone ≡ q * each = e ∙ p.whole in
    let few = p.few in
    let left = length-drop gone bs in
    let split : n * each ≡ q * each + (n - q) * each = ap (λ (k : ℕ). k * each) (let k : n ≡ q + (n - q) = omega (arith, few) in k) ∙ add-mul q (n - q) each in
    let whole = r.whole in
    let placed = r.placed in
    let filled = r.filled in
    let sum : length (drop gone bs) ≡ (n - q) * each = omega (arith, left, is, split, whole) in
    let count = count_is (n - q) each (drop gone bs) filled sum in
    let first : end - length (drop gone bs) ≡ end - length bs + q * each = omega (arith, left, is, split, whole, placed) in (
      made (n - q) end each (drop gone bs) filled (omega (arith, few)) sum (omega (arith, left, placed)),
      ap (λ (k : ℕ). run_of k (end - length (drop gone bs)) each (drop gone bs)) count
          ∙ ap (λ (k : ℕ). run_of (n - q) k each (drop gone bs)) first
          ∙ ap (λ (k : ℕ). run_of (n - q) (end - length bs + q * each) each (drop k bs)) is
          ∙ sym (run_behind q n (end - length bs) o each bs filled p.low p.high few),
    )

-- ---- the first piece that ends behind an offset

first_behind_is : (o : ℕ) (ps : List Part) → after o ps ≡ first_of (behind o ps)
first_behind_is o [] = refl
first_behind_is o (p ∷ ps) = elim (cases_lt o p.0) [
  | inl lt ↦ rw (lt-ltb o p.0 lt, lt-leb p.0 o lt) refl
  | inr le ↦ rw (le-ltb o p.0 le, le-leb p.0 o le) (first_behind_is o ps)
]

first_in : (n at each : ℕ) (bs : List ℕ) → 0 < n → first_of (run_of n at each bs) ≡ Some (at + each, take each bs)
first_in zero at each bs some = absurd (omega (arith, some))
first_in (suc n) at each bs some = refl

piece_at : (end each o from : ℕ) (bs : List ℕ) → IsRun end each bs → o < end → from ≡ passed_of (end - length bs) each o
    → (from + each ≤ length bs) × (after o (run_to end each bs) ≡ Some (end - length bs + (from + each), take each (drop from bs)))
piece_at end each o from bs r lt e =
    let n = length bs / each in
    let less = less_run end each o from bs r lt e in
    let left = length-drop from bs in
    let few = less.0.some in
    let whole = less.0.whole in
    let placed = r.placed in
    let more : each ≤ length (drop from bs) / each * each = at_least_one (length (drop from bs) / each) each few in
    let filled = r.filled in
    let ends : end - length (drop from bs) + each ≡ end - length bs + (from + each) = omega (arith, left, whole, more, placed, filled) in (
      omega (arith, left, whole, more, filled),
      first_behind_is o (run_to end each bs) ∙ ap (λ (ps : List Part). first_of ps) (sym less.1)
          ∙ first_in (length (drop from bs) / each) (end - length (drop from bs)) each (drop from bs) few
          ∙ ap (λ (k : ℕ). let x : Option Part = Some (k, take each (drop from bs)) in x) ends,
    )

-- ---- as a stretch has it

run_grown : (end next each width : ℕ) (bytes piece all : List ℕ) → IsRun end width bytes → each ≡ length piece → width ≡ length piece → all ≡ bytes ++ piece → next ≡ end + length piece
    → IsRun next each all × (run_to next each all ≡ pushed piece (run_to end width bytes))
run_grown end next each width bytes piece all r e w a n =
    let more = more_run end width bytes piece r (sym w) in
    rw (n, a, e ∙ sym w) more

grown_is : (end next : ℕ) (piece : List ℕ) (old new : Store) → IsStretch end old → IsGrown piece old new → next ≡ end + length piece
    → IsStretch next new × (parts_in next new ≡ pushed piece (parts_in end old))
grown_is end next piece old (One bytes) h g e = absurd g
grown_is end next piece (One first) (Many run) h g e =
    let one = one_run end first h.0 h.1 in
    let more = run_grown end next run.each (length first) first piece run.bytes one.0 g.0 g.1 g.2 e in
    (more.0, more.1 ∙ ap (λ (ps : List Part). pushed piece ps) one.1)
grown_is end next piece (Many before) (Many run) h g e = run_grown end next run.each before.each before.bytes piece run.bytes h g.0 g.1 g.2 e

-- all bytes of a stretch, where it starts and ends
pub store_end : (end : ℕ) (s : Store) → IsStretch end s → end_of (parts_in end s) ≡ end
store_end end (One bytes) h = refl
store_end end (Many run) h = end_is_last end run.each run.bytes h

pub store_bytes : (end : ℕ) (s : Store) (r : RunOf) → IsStretch end s → s ≡ Many r → bytes_of (parts_in end s) ≡ r.bytes
store_bytes end s r h e =
    let run : IsRun end r.each r.bytes = subst (λ (x : Store). IsStretch end x) e h in
    ap (λ (x : Store). bytes_of (parts_in end x)) e ∙ bytes_are end r.each r.bytes run

pub store_start : (end : ℕ) (s : Store) → IsStretch end s → start_of (parts_in end s) + length (bytes_of (parts_in end s)) ≡ end
store_start end (One bytes) h = let placed = h.1 in let len = length-append bytes [] in omega (arith, placed, len)
store_start end (Many run) h =
    let first = start_is_first end run.each run.bytes h in
    let all = ap (λ (xs : List ℕ). length xs) (bytes_are end run.each run.bytes h) in
    let placed = h.placed in
    omega (arith, first, all, placed)

-- a run that is a stretch, as it is seen
record Seen (end start each : ℕ) (r : RunOf) (ps : List Part) : Type 0 where
  run : IsRun end r.each r.bytes
  same : run_to end r.each r.bytes ≡ ps
  last : end_of ps ≡ end
  first : start ≡ end - length r.bytes
  width : each ≡ r.each

seen : (end start each : ℕ) (s : Store) (r : RunOf) (ps : List Part) → IsStretch end s → parts_in end s ≡ ps → s ≡ Many r → start ≡ start_of ps → each ≡ r.each → Seen end start each r ps
seen end start each s r ps h v e st ea =
    let run : IsRun end r.each r.bytes = subst (λ (x : Store). IsStretch end x) e h in
    let same : run_to end r.each r.bytes ≡ ps = ap (λ (x : Store). parts_in end x) (sym e) ∙ v in
    record {
      run = run;
      same = same;
      last = ap (λ (xs : List Part). end_of xs) (sym same) ∙ end_is_last end r.each r.bytes run;
      first = st ∙ ap (λ (xs : List Part). start_of xs) (sym same) ∙ start_is_first end r.each r.bytes run;
      width = ea;
    }

seen_passed : (end start each o count : ℕ) (r : RunOf) (ps : List Part) → Seen end start each r ps → count ≡ passed_of start each o → count ≡ passed_of (end - length r.bytes) r.each o
seen_passed end start each o count r ps h e = e ∙ ap (λ (k : ℕ). passed_of k each o) h.first ∙ ap (λ (k : ℕ). passed_of (end - length r.bytes) k o) h.width

-- the piece that is found in it
pub piece_in : (end start each o from : ℕ) (s : Store) (r : RunOf) (ps : List Part) (bytes : List ℕ) → IsStretch end s → parts_in end s ≡ ps → s ≡ Many r → start ≡ start_of ps → each ≡ r.each
    → o < end_of ps → bytes ≡ bytes_of ps → from ≡ passed_of start each o
    → (from + each ≤ length bytes) × (length bytes - (from + each) ≤ end) × (after o ps ≡ Some (end - (length bytes - (from + each)), take (from + each - from) (drop from bytes)))
piece_in end start each o from s r ps bytes h v e st ea lt by fr =
    let sees = seen end start each s r ps h v e st ea in
    let first = sees.first in
    let last = sees.last in
    let placed = sees.run.placed in
    let all : bytes ≡ r.bytes = by ∙ ap (λ (xs : List Part). bytes_of xs) (sym sees.same) ∙ bytes_are end r.each r.bytes sees.run in
    let len = ap (λ (xs : List ℕ). length xs) all in
    let p = piece_at end r.each o from r.bytes sees.run (omega (arith, lt, last)) (seen_passed end start each o from r ps sees fr) in
    let fits = p.0 in
    let count : r.each ≡ from + each - from = omega (arith, ea) in
    let ends : end - length r.bytes + (from + r.each) ≡ end - (length bytes - (from + each)) = omega (arith, fits, ea, len, placed) in (
      omega (arith, fits, ea, len),
      omega (arith, placed, len),
      ap (λ (xs : List Part). after o xs) (sym sees.same) ∙ p.1
          ∙ ap (λ (k : ℕ). let x : Option Part = Some (k, take r.each (drop from r.bytes)) in x) ends
          ∙ ap (λ (k : ℕ). let x : Option Part = Some (end - (length bytes - (from + each)), take k (drop from r.bytes)) in x) count
          ∙ ap (λ (xs : List ℕ). let x : Option Part = Some (end - (length bytes - (from + each)), take (from + each - from) (drop from xs)) in x) (sym all),
    )

-- its first pieces go
pub passed_in : (end start each o count : ℕ) (s : Store) (r : RunOf) (ps : List Part) → IsStretch end s → parts_in end s ≡ ps → s ≡ Many r → start ≡ start_of ps → each ≡ r.each
    → o < end_of ps → count ≡ passed_of start each o → count ≤ length r.bytes
passed_in end start each o count s r ps h v e st ea lt co =
    let sees = seen end start each s r ps h v e st ea in
    let last = sees.last in
    let fits = (piece_at end r.each o count r.bytes sees.run (omega (arith, lt, last)) (seen_passed end start each o count r ps sees co)).0 in
    omega (arith, fits)

pub released_in : (end start each o count : ℕ) (s : Store) (r new : RunOf) (ps : List Part) → IsStretch end s → parts_in end s ≡ ps → s ≡ Many r → start ≡ start_of ps → each ≡ r.each
    → o < end_of ps → count ≡ passed_of start each o → new ≡ record r { bytes = drop count r.bytes } → IsRun end new.each new.bytes × (run_to end new.each new.bytes ≡ behind o ps)
released_in end start each o count s r new ps h v e st ea lt co is =
    let sees = seen end start each s r ps h v e st ea in
    let last = sees.last in
    let less = less_run end r.each o count r.bytes sees.run (omega (arith, lt, last)) (seen_passed end start each o count r ps sees co) in
    subst (λ (x : RunOf). IsRun end x.each x.bytes × (run_to end x.each x.bytes ≡ behind o ps)) (sym is) (less.0, less.1 ∙ ap (λ (xs : List Part). behind o xs) sees.same)

-- one more piece comes
pub pushed_in : (end next : ℕ) (piece : List ℕ) (old new : Store) (ps : List Part) → IsStretch end old → parts_in end old ≡ ps → IsGrown piece old new → next ≡ end + length piece
    → IsStretch next new × (parts_in next new ≡ pushed piece ps)
pushed_in end next piece old new ps h v g e =
    let all = grown_is end next piece old new h g e in
    (all.0, all.1 ∙ ap (λ (xs : List Part). pushed piece xs) v)

-- a run of one piece
pub many_is : (end : ℕ) (r : RunOf) → 0 < length r.bytes → r.each ≡ length r.bytes → length r.bytes ≤ end → IsRun end r.each r.bytes × (run_to end r.each r.bytes ≡ (end, r.bytes) ∷ [])
many_is end r some each placed = rw each (one_run end r.bytes some placed)
