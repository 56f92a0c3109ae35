use Rattle.std.proofs.Common.{◌≡◌, ◌+◌, ◌≤◌, arith, None, ap, ◌∙◌, sym, subst, true, false, Result, Ok, Err, OnErr}
use Rattle.std.specs.Result.{is_err}
use Rattle.quic_streams_parts.specs.Table.{at, added, without}
use Rattle.quic_streams_parts.specs.TableLaws.{without-added}
use Rattle.quic_streams_parts.specs.RecvHalf.{RecvHalf, credit}
use Rattle.quic_streams_halves.specs.Halves.{Halves, seen_in}
use Rattle.quic_streams_halves.proofs.Totals.{added_counted, consumed_within}
use Rattle.quic_streams_halves.proofs.recv_halves.RecvHalves.add.Goals as goal

failed : {T E P : Type 0} (r : Result T E) → is_err r ≡ true → OnErr r P → P
failed (Ok x) e p = absurd (cc_of e)
  where
    cc_of : false ≡ true → ⊥
    cc_of h = cc
failed (Err x) e p = p

pub returns-then-is_err-clause-err : goal.returns-then-is_err-clause-err
returns-then-is_err-clause-err c =
    let es = c.self.inside.live in
    let P : Halves RecvHalf → Type 0 = λ h. at h.live c.args.id ≡ None in
    let none = subst P (sym c.self.view_is) c.requires.none in
    let ins = c.in_ok-insert.ensures.ok ∙ ap (λ k. added es k c.args.half) c.from.ensures in
    let told = c.remove.ensures.left ∙ ap (λ k. without c.insert.new.self k) c.from-then-is_err.ensures ∙ ap (λ xs. without xs c.args.id) ins ∙ without-added es c.args.id c.args.half none in
    let places = failed c.add.result (sym c.is_err.ensures.value ∙ c.if-is_err.true) c.add.ensures.err in
    rw (told, places) c.self.view_is

pub invariant_of-self-then-is_err : goal.invariant_of-self-then-is_err
invariant_of-self-then-is_err c =
    let es = c.self.inside.live in
    let P : Halves RecvHalf → Type 0 = λ h. at h.live c.args.id ≡ None in
    let none = subst P (sym c.self.view_is) c.requires.none in
    let ins = c.in_ok-insert.ensures.ok ∙ ap (λ k. added es k c.args.half) c.from.ensures in
    let told = c.remove.ensures.left ∙ ap (λ k. without c.insert.new.self k) c.from-then-is_err.ensures ∙ ap (λ xs. without xs c.args.id) ins ∙ without-added es c.args.id c.args.half none in
    rw told c.self.invariant

pub overflow_add-self-2 : goal.overflow_add-self-2
overflow_add-self-2 c =
    let all = ap (λ (h : Halves RecvHalf). seen_in h.live) c.self.view_is in
    let sum = c.self.invariant.seen in
    let room = c.requires.room in
    let within = consumed_within c.self.inside.live c.self.inside.seen c.self.inside.consumed c.self.invariant in
    omega (arith, c.credit-consumed.ensures.within)

pub invariant_of-self-2 : goal.invariant_of-self-2
invariant_of-self-2 c =
    let es = c.self.inside.live in
    let P : Halves RecvHalf → Type 0 = λ h. at h.live c.args.id ≡ None in
    let none = subst P (sym c.self.view_is) c.requires.none in
    let ins = c.in_ok-insert.ensures.ok ∙ ap (λ k. added es k c.args.half) c.from.ensures in
    let seen = c.end-seen.ensures.value in
    let consumed = c.credit-consumed.ensures.value in
    let within : credit c.args.half ≤ c.args.half.seen = omega (arith, c.credit-consumed.ensures.within) in
    added_counted es _ c.args.id c.self.inside.seen c.self.inside.consumed _ _ c.args.half c.in_ok-insert.ensures.was_ordered c.self.invariant none ins within (omega arith) (omega arith)

pub returns-clause-sum : goal.returns-clause-sum
returns-clause-sum c =
    let es = c.self.inside.live in
    let P : Halves RecvHalf → Type 0 = λ h. at h.live c.args.id ≡ None in
    let none = subst P (sym c.self.view_is) c.requires.none in
    let ins = c.in_ok-insert.ensures.ok ∙ ap (λ k. added es k c.args.half) c.from.ensures in
    let seen = c.end-seen.ensures.value in
    let consumed = c.credit-consumed.ensures.value in
    let within : credit c.args.half ≤ c.args.half.seen = omega (arith, c.credit-consumed.ensures.within) in
    let new = added_counted es _ c.args.id c.self.inside.seen c.self.inside.consumed (c.self.inside.seen + c.end-seen.result) (c.self.inside.consumed + c.credit-consumed.result) c.args.half c.in_ok-insert.ensures.was_ordered c.self.invariant none ins within (omega arith) (omega arith) in
    let all = ap (λ (h : Halves RecvHalf). seen_in h.live) c.self.view_is in
    let was = c.self.invariant.seen in
    let is : c.self.inside.seen + c.end-seen.result ≡ seen_in c.insert.new.self = new.seen in
    omega arith
