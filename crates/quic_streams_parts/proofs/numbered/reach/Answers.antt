use Rattle.std.proofs.Common.{[], ◌∷◌, ◌++◌, ◌∙◌, ap, length, length-append, arith}
use Rattle.quic_streams_parts.proofs.Woven.{kind_more}
use Rattle.quic_streams_parts.proofs.numbered.reach.Goals as goal

pub loop-alloc-preserved : goal.loop-alloc-preserved
loop-alloc-preserved g c =
    let more = c.in_ok-push.ensures.items in
    let long = simp length-append at (ap length more) in
    let len = c.loop-alloc.kinds.ok.0 in
    record {
      same = kind_more c.loop-alloc.kinds.items c.push.new.self.items (more ∙ ap (λ t. c.loop-alloc.kinds.items ++ t ∷ []) c.new.ensures) ∙ c.loop-alloc.invariant.same;
      few = omega arith;
    }
