use Rattle.std.proofs.Common.{◌≡◌, ◌≤◌, Some, rules, ap, ◌∙◌, arith, Result, Ok, Err, OnErr}
use Rattle.std.specs.Ordering.{nat_cmp}
use Rattle.std.specs.BTreeMap.{is_at}
use Rattle.std.proofs.lemmas.Map.Steps.{set_value_same}
use Rattle.quic_streams_parts.specs.Table.{at, put}
use Rattle.quic_streams_parts.specs.RecvHalf.{RecvHalf, credit}
use Rattle.quic_streams_halves.specs.Halves.{Halves, seen_in}
use Rattle.quic_streams_halves.proofs.Totals.{put_counted, put_fits, kept_counted, seen_term, consumed_term}
use Rattle.quic_streams_halves.proofs.recv_halves.RecvHalves.take.Goals as goal

on_err : {T E P : Type 0} (r : Result T E) → P → OnErr r P
on_err (Ok x) p = tt
on_err (Err e) p = p

pub invariant_of-self-in_err-take_on : goal.invariant_of-self-in_err-take_on
invariant_of-self-in_err-take_on c =
    let es = c.self.inside.live in
    let h = c.in-Some.half.now in
    let w = c.take_on.new.half in
    let found : at es c.args.frame.now.id ≡ Some h = search rules in
    let told = ap (λ k. put c.self.inside.live k c.take_on.new.half) c.from.ensures in
    let same = c.in_err-take_on.ensures.err in
    kept_counted es _ c.args.frame.now.id c.self.inside.seen c.self.inside.consumed h w c.self.invariant found told (ap (λ (k : RecvHalf). k.seen) same) (ap credit same)

pub returns-in_err-take_on-clause-err : goal.returns-in_err-take_on-clause-err
returns-in_err-take_on-clause-err c =
    let told = ap (λ k. put c.self.inside.live k c.take_on.new.half) c.from.ensures in
    let same = told ∙ ap (λ w. put c.self.inside.live c.args.frame.now.id w) c.in_err-take_on.ensures.err ∙ set_value_same (is_at (nat_cmp c.args.frame.now.id)) c.self.inside.live c.in-Some.half.now (search rules) in
    on_err c.from_residual.result (rw same c.self.view_is)

pub with_term-self-inside-requires-2-clause-fits : goal.with_term-self-inside-requires-2-clause-fits
with_term-self-inside-requires-2-clause-fits c =
    let es = c.self.inside.live in
    let h = c.in-Some.half.now in
    let w = c.take_on.new.half in
    let found : at es c.args.frame.now.id ≡ Some h = search rules in
    let seen = c.end-seen.ensures.value in
    let to = c.end.ensures.value in
    let consumed = c.credit-consumed.ensures.value in
    let now = c.credit.ensures.value in
    let within : credit w ≤ w.seen = omega (arith, c.credit.ensures.within) in
    let all = ap (λ (h : Halves RecvHalf). seen_in h.live) c.self.view_is in
    let sum = c.self.invariant.seen in
    let small = c.end.ensures.small in
    let room = c.requires.room in
    let fits = put_fits es c.args.frame.now.id c.self.inside.seen c.self.inside.consumed h w c.self.invariant found within in
    omega arith

pub invariant_of-self-2 : goal.invariant_of-self-2
invariant_of-self-2 c =
    let es = c.self.inside.live in
    let h = c.in-Some.half.now in
    let w = c.take_on.new.half in
    let found : at es c.args.frame.now.id ≡ Some h = search rules in
    let seen = c.end-seen.ensures.value in
    let to = c.end.ensures.value in
    let consumed = c.credit-consumed.ensures.value in
    let now = c.credit.ensures.value in
    let within : credit w ≤ w.seen = omega (arith, c.credit.ensures.within) in
    let told = ap (λ k. put c.self.inside.live k c.take_on.new.half) c.from.ensures in
    let s2 = c.with_term-self-inside.ensures in
    let c2 = c.with_term-self-inside-2.ensures in
    put_counted es _ c.args.frame.now.id c.self.inside.seen c.self.inside.consumed _ _ h w c.self.invariant found told within (omega arith) (omega arith)

pub with_term-self-inside-requires-clause-within : goal.with_term-self-inside-requires-clause-within
with_term-self-inside-requires-clause-within c =
    let found : at c.self.inside.live c.args.frame.now.id ≡ Some c.in-Some.half.now = search rules in
    let term = seen_term c.self.inside.live c.args.frame.now.id c.self.inside.seen c.self.inside.consumed c.in-Some.half.now c.self.invariant found in
    omega (arith, c.end-seen.ensures.value)

pub with_term-self-inside-requires-2-clause-within : goal.with_term-self-inside-requires-2-clause-within
with_term-self-inside-requires-2-clause-within c =
    let found : at c.self.inside.live c.args.frame.now.id ≡ Some c.in-Some.half.now = search rules in
    let term = consumed_term c.self.inside.live c.args.frame.now.id c.self.inside.seen c.self.inside.consumed c.in-Some.half.now c.self.invariant found in
    omega (arith, c.credit-consumed.ensures.value)
