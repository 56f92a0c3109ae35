use Rattle.std.proofs.Common.{rules, ap, ◌∙◌, length, arith, Result, Ok, Err, OnErr}
use Rattle.std.specs.Ordering.{nat_cmp}
use Rattle.std.specs.BTreeMap.{is_at}
use Rattle.std.proofs.lemmas.Map.Steps.{set_value_same}
use Rattle.quic_streams_parts.specs.Table.{put}
use Rattle.quic_streams_parts.specs.SendHalf.{SendHalf}
use Rattle.quic_streams_halves.proofs.Sums.{put_sum, finished_kept}
use Rattle.quic_streams_halves.proofs.send_halves.SendHalves.finish.Goals as goal

on_err : {T E P Q : Type 0} (r : Result T E) → OnErr r P → (P → Q) → OnErr r Q
on_err (Ok x) p f = tt
on_err (Err e) p f = f p

pub invariant_of-self-2 : goal.invariant_of-self-2
invariant_of-self-2 c =
    let told = ap (λ k. put c.self.inside.live k c.finish.new.half) c.from.ensures in
    let kept = finished_kept c.finish.result c.args.id c.args.queue.now c.in-Some.half.now c.finish.new.half c.finish.ensures.half c.finish.ensures.err in
    put_sum (λ (h : SendHalf). length h.buffer.kept) c.self.inside.live _ c.args.id c.in-Some.half.now c.finish.new.half c.self.inside.buffered _ c.self.invariant (search rules) told (omega arith)

pub returns-clause-err : goal.returns-clause-err
returns-clause-err c =
    let told = ap (λ k. put c.self.inside.live k c.finish.new.half) c.from.ensures in
    on_err c.finish.result c.finish.ensures.err (λ e.
    let same = told ∙ ap (λ w. put c.self.inside.live c.args.id w) e ∙ set_value_same (is_at (nat_cmp c.args.id)) c.self.inside.live c.in-Some.half.now (search rules) in
    rw same c.self.view_is)
