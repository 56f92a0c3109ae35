use Rattle.std.proofs.Common.{◌≡◌, length, arith, None, ap, ◌∙◌, sym, subst, true, false, Result, Ok, Err, OnErr}
use Rattle.std.specs.Result.{is_err}
use Rattle.quic_streams_parts.specs.Table.{at, added, without}
use Rattle.quic_streams_parts.specs.TableLaws.{without-added}
use Rattle.quic_streams_parts.specs.SendHalf.{SendHalf}
use Rattle.quic_streams_halves.specs.Halves.{Halves}
use Rattle.quic_streams_halves.proofs.Sums.{added_sum}
use Rattle.quic_streams_halves.proofs.send_halves.SendHalves.add.Goals as goal

failed : {T E P : Type 0} (r : Result T E) → is_err r ≡ true → OnErr r P → P
failed (Ok x) e p = absurd (cc_of e)
  where
    cc_of : false ≡ true → ⊥
    cc_of h = cc
failed (Err x) e p = p

pub returns-then-is_err-clause-err : goal.returns-then-is_err-clause-err
returns-then-is_err-clause-err c =
    let es = c.self.inside.live in
    let P : Halves SendHalf → Type 0 = λ h. at h.live c.args.id ≡ None in
    let none = subst P (sym c.self.view_is) c.requires.none in
    let ins = c.in_ok-insert.ensures.ok ∙ ap (λ k. added es k c.args.half) c.from.ensures in
    let told = c.remove.ensures.left ∙ ap (λ k. without c.insert.new.self k) c.from-then-is_err.ensures ∙ ap (λ xs. without xs c.args.id) ins ∙ without-added es c.args.id c.args.half none in
    let places = failed c.add.result (sym c.is_err.ensures.value ∙ c.if-is_err.true) c.add.ensures.err in
    rw (told, places) c.self.view_is

pub invariant_of-self-then-is_err : goal.invariant_of-self-then-is_err
invariant_of-self-then-is_err c =
    let es = c.self.inside.live in
    let P : Halves SendHalf → Type 0 = λ h. at h.live c.args.id ≡ None in
    let none = subst P (sym c.self.view_is) c.requires.none in
    let ins = c.in_ok-insert.ensures.ok ∙ ap (λ k. added es k c.args.half) c.from.ensures in
    let told = c.remove.ensures.left ∙ ap (λ k. without c.insert.new.self k) c.from-then-is_err.ensures ∙ ap (λ xs. without xs c.args.id) ins ∙ without-added es c.args.id c.args.half none in
    rw told c.self.invariant

pub invariant_of-self-2 : goal.invariant_of-self-2
invariant_of-self-2 c =
    let es = c.self.inside.live in
    let P : Halves SendHalf → Type 0 = λ h. at h.live c.args.id ≡ None in
    let none = subst P (sym c.self.view_is) c.requires.none in
    let ins = c.in_ok-insert.ensures.ok ∙ ap (λ k. added es k c.args.half) c.from.ensures in
    let kept = c.buffered-kept.ensures.value in
    added_sum (λ (h : SendHalf). length h.buffer.kept) es _ c.args.id c.args.half c.self.inside.buffered _ c.in_ok-insert.ensures.was_ordered c.self.invariant none ins (omega arith)
