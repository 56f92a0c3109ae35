use Rattle.std.proofs.Common.{ap, ◌∙◌}
use Rattle.quic_send_buffer.specs.KeptBytes.{KeptBytes, released_to}
use Rattle.quic_send_buffer.proofs.Kept.Queue.{released_queue}
use Rattle.quic_send_buffer.proofs.send_buffer.pieces.Pieces.release.Goals as goal

pub invariant_of-self : goal.invariant_of-self
invariant_of-self c =
    let v = c.self.inside in
    let h = c.self.invariant in
    let all = (released_queue v.base v.end c.args.up_to c.start-self-inside.result v.queue c.drop_up_to.new.stretches (h.0, h.1) c.drop_up_to.ensures c.start-self-inside.ensures).0 in
    (all.0, all.1, h.2)

pub returns : goal.returns
returns c =
    let v = c.self.inside in
    let h = c.self.invariant in
    (released_queue v.base v.end c.args.up_to c.start-self-inside.result v.queue c.drop_up_to.new.stretches (h.0, h.1) c.drop_up_to.ensures c.start-self-inside.ensures).1
    ∙ ap (λ (k : KeptBytes). released_to c.args.up_to k) c.self.view_is
