use Rattle.std.proofs.Common.{◌≤◌, length, length-take-le, take, rules, ap, ◌∙◌, arith, Result, Ok, Err, OnErr}
use Rattle.std.specs.Ordering.{nat_cmp}
use Rattle.std.specs.BTreeMap.{is_at}
use Rattle.std.proofs.lemmas.Map.Steps.{set_value_same}
use Rattle.quic_streams_parts.specs.Table.{put}
use Rattle.quic_streams_parts.specs.SendHalf.{SendHalf}
use Rattle.quic_streams_halves.proofs.Sums.{put_sum, accepted_kept}
use Rattle.quic_streams_halves.proofs.send_halves.SendHalves.write.Goals as goal

on_err : {T E P : Type 0} (r : Result T E) → P → OnErr r P
on_err (Ok x) p = tt
on_err (Err e) p = p

pub invariant_of-self-in_err-taken : goal.invariant_of-self-in_err-taken
invariant_of-self-in_err-taken c =
    let told = ap (λ k. put c.self.inside.live k c.write.new.half) c.from.ensures in
    let kept = ap (λ (h : SendHalf). length h.buffer.kept) c.in_err-taken.ensures.err in
    put_sum (λ (h : SendHalf). length h.buffer.kept) c.self.inside.live _ c.args.id c.in-Some.half.now c.write.new.half c.self.inside.buffered _ c.self.invariant (search rules) told (omega arith)

pub returns-in_err-taken-clause-err : goal.returns-in_err-taken-clause-err
returns-in_err-taken-clause-err c =
    let told = ap (λ k. put c.self.inside.live k c.write.new.half) c.from.ensures in
    let same = told ∙ ap (λ w. put c.self.inside.live c.args.id w) c.in_err-taken.ensures.err ∙ set_value_same (is_at (nat_cmp c.args.id)) c.self.inside.live c.in-Some.half.now (search rules) in
    on_err c.from_residual.result (rw same c.self.view_is)

pub invariant_of-self-2 : goal.invariant_of-self-2
invariant_of-self-2 c =
    let told = ap (λ k. put c.self.inside.live k c.write.new.half) c.from.ensures in
    let n = c.in_ok-taken.taken in
    let most : n ≤ length c.args.bytes.now = c.in_ok-taken.ensures.within.0 in
    let some = length-take-le n c.args.bytes.now most in
    let grows = accepted_kept c.args.id (take n c.args.bytes.now) c.args.queue.now c.in-Some.half.now c.write.new.half c.in_ok-taken.ensures.half in
    put_sum (λ (h : SendHalf). length h.buffer.kept) c.self.inside.live _ c.args.id c.in-Some.half.now c.write.new.half c.self.inside.buffered _ c.self.invariant (search rules) told (omega arith)
