-- An open end counts the packets that it took by their marks, as its observer does: each call keeps
-- that.
use Rattle.std.proofs.Common.{◌≡◌, ℕ, zero, suc, ◌+◌, ◌<◌, Bool, true, false, min, List, [], ◌∷◌, ◌++◌, Option, Some, None, refl, sym, ap, ◌∙◌, arith}
use Rattle.std.specs.Prelude.{if◌then◌else◌, ◌==◌, ◌&&◌}
use Rattle.std.proofs.lemmas.Bool.{eq-eqb, ne_eqb}
use Rattle.quic_wire_core.specs.declared.shared.EcnCodepoint.{EcnCodepoint}
use Rattle.quic_wire_core.specs.declared.shared.EcnCodepoint.TheVariants.{Ect0, Ect1, Ce}
use Rattle.quic_spaces.specs.Marks.{Counts, after_mark, told_counts}
use Rattle.quic_machine.specs.declared.answers.State.TheVariants as states
use Rattle.quic_machine.specs.declared.run.Call.{Call}
use Rattle.quic_machine.specs.declared.run.Answer.{Answer}
use Rattle.quic_headline.specs.Runs.{Told}
use Rattle.quic_headline.specs.AckFrames.{mark_taken, is_mark, count_marked, most_counted, counts_told}
use Rattle.quic_headline.proofs.Places.Parties.{told_of, Party, called}
use Rattle.quic_headline.proofs.Places.Groups.{Calls, Group}
use Rattle.quic_headline.proofs.Timers.Still.{was_open}
use Rattle.quic_headline.proofs.Timers.Watched.{Observed}
use Rattle.quic_headline.proofs.AckFrames.Counted.{call_counts}

-- ---- what an observer counts

-- so many, up to the most that a frame holds
abbrev most_of : ℕ → ℕ
most_of n = min n most_counted

-- how many packets were taken, by their marks
abbrev pub counted : List Told → Counts
counted ts = (most_of (count_marked Ect0 ts), most_of (count_marked Ect1 ts), most_of (count_marked Ce ts))

-- whether one call more took one with this mark
abbrev one_if : EcnCodepoint → Told → ℕ
one_if mark t = if is_mark mark (mark_taken t.call t.answer) then 1 else 0

count_more : (mark : EcnCodepoint) (ts : List Told) (t : Told) → count_marked mark (ts ++ t ∷ []) ≡ count_marked mark ts + one_if mark t
count_more mark [] t = omega arith
count_more mark (u ∷ ts) t =
    let rest = count_more mark ts t in
    let sum : one_if mark u + count_marked mark (ts ++ t ∷ []) ≡ one_if mark u + count_marked mark ts + one_if mark t = omega arith in
    sum

-- one more, or none, up to that
same_most : (n most : ℕ) → min n most ≡ min (n + 0) most
same_most n most = omega arith

more_most : (n most : ℕ) → min (min n most + 1) most ≡ min (n + 1) most
more_most n most = omega arith

three : (a b c d e f : ℕ) → a ≡ d → b ≡ e → c ≡ f → ◌≡◌ {A = Counts} (a, b, c) (d, e, f)
three a b c d e f first second third = rw (first, second, third) refl

counted_more : (ts : List Told) (t : Told) → after_mark (mark_taken t.call t.answer) (counted ts) ≡ counted (ts ++ t ∷ [])
counted_more ts t = go (mark_taken t.call t.answer) refl
  where
    a : ℕ
    a = count_marked Ect0 ts

    b : ℕ
    b = count_marked Ect1 ts

    c : ℕ
    c = count_marked Ce ts

    -- the count of a mark, where this one was taken
    next : (mark : EcnCodepoint) (o : Option EcnCodepoint) → mark_taken t.call t.answer ≡ o → most_of (count_marked mark ts + (if is_mark mark o then 1 else 0)) ≡ most_of (count_marked mark (ts ++ t ∷ []))
    next mark o is = ap (λ (p : Option EcnCodepoint). most_of (count_marked mark ts + (if is_mark mark p then 1 else 0))) (sym is) ∙ ap most_of (sym (count_more mark ts t))

    go : (o : Option EcnCodepoint) → mark_taken t.call t.answer ≡ o → after_mark o (counted ts) ≡ counted (ts ++ t ∷ [])
    go None is = three (most_of a) (most_of b) (most_of c) _ _ _ (same_most a most_counted ∙ next Ect0 None is) (same_most b most_counted ∙ next Ect1 None is) (same_most c most_counted ∙ next Ce None is)
    go (Some Ect0) is = three _ (most_of b) (most_of c) _ _ _ (more_most a most_counted ∙ next Ect0 (Some Ect0) is) (same_most b most_counted ∙ next Ect1 (Some Ect0) is) (same_most c most_counted ∙ next Ce (Some Ect0) is)
    go (Some Ect1) is = three (most_of a) _ (most_of c) _ _ _ (same_most a most_counted ∙ next Ect0 (Some Ect1) is) (more_most b most_counted ∙ next Ect1 (Some Ect1) is) (same_most c most_counted ∙ next Ce (Some Ect1) is)
    go (Some Ce) is = three (most_of a) (most_of b) _ _ _ _ (same_most a most_counted ∙ next Ect0 (Some Ce) is) (same_most b most_counted ∙ next Ect1 (Some Ce) is) (more_most c most_counted ∙ next Ce (Some Ce) is)

-- ---- what is told of them

-- there are some where there are some up to the most
zero_most : (n most : ℕ) → 0 < most → (min n most == 0) ≡ (n == 0)
zero_most zero most some = eq-eqb (min 0 most) 0 (omega arith)
zero_most (suc n) most some = ne_eqb (min (suc n) most) 0 (λ is. absurd (omega arith)) ∙ sym (ne_eqb (suc n) 0 (λ is. absurd (omega arith)))

and_alike : (d e f : Bool) → ((d && e) && f) ≡ (d && (e && f))
and_alike true e f = refl
and_alike false e f = refl

-- an ACK frame tells the counts
pub told_alike : (ts : List Told) → told_counts (counted ts) ≡ counts_told ts
told_alike ts =
    let a : ℕ = count_marked Ect0 ts in
    let b : ℕ = count_marked Ect1 ts in
    let c : ℕ = count_marked Ce ts in
    let Says : Bool → Option Counts = (λ none. if none then None else Some (counted ts)) in
    ap Says (and_alike (most_of a == 0) (most_of b == 0) (most_of c == 0))
    ∙ ap (λ (d : Bool). Says (d && ((most_of b == 0) && (most_of c == 0)))) (zero_most a most_counted (omega arith))
    ∙ ap (λ (e : Bool). Says ((a == 0) && (e && (most_of c == 0)))) (zero_most b most_counted (omega arith))
    ∙ ap (λ (f : Bool). Says ((a == 0) && ((b == 0) && f))) (zero_most c most_counted (omega arith))

-- ---- the group

-- While x is open, it counts what its observer does.
pub record CountsMarks (x y : Party) : Type 0 where
  pub counts : x.end.closing.state ≡ states.Open → x.end.marks.came ≡ counted x.told

marks_step : (x y : Party) (call : Call) (a : Answer) → Calls Observed x y call a → CountsMarks x y → CountsMarks (called x y.given call a) y
marks_step x y call a c i = record {
  counts = λ still.
      call_counts x.policy x.end y.given call a c.answer c.served still
      ∙ ap (λ (counts : Counts). after_mark (mark_taken call a) counts) (i.counts (was_open x.policy x.end y.given call a still))
      ∙ counted_more x.told (told_of call a x.end.closing.state);
}

-- over the packets and what observers know of them
pub marks_group : Group Observed CountsMarks
marks_group = record {
  first = λ x y m there here. record { counts = λ opened. refl };
  writer = λ x y call a c i back. marks_step x y call a c i;
  reader = λ x y call a c i back. record { counts = back.counts };
  shows = λ x y here there b back i j. record { counts = i.counts };
}
