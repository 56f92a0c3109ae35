use Rattle.std.proofs.Common.{◌+◌, ◌<◌, ◌^◌, ap, sym, subst, ◌∙◌, arith, length}
use Rattle.quic_send_buffer.specs.Source.{cut_to}
use Rattle.quic_send_buffer.specs.WritesLaws.{cut_bytes}
use Rattle.quic_send_buffer.specs.KeptBytes.{KeptBytes, pieces_of, with_each}
use Rattle.quic_send_buffer.proofs.Kept.Pieces.{end_is}
use Rattle.quic_send_buffer.proofs.Kept.Queue.{all_queue, last_up_to}
use Rattle.quic_send_buffer.proofs.send_buffer.pieces.Pieces.push_all.Goals as goal

pub put_all-requires-clause-small : goal.put_all-requires-clause-small
put_all-requires-clause-small c =
    let v = c.self.inside in
    let ends = end_is v.base v.end (pieces_of v.queue) c.self.invariant.0 in
    let small = subst (λ (k : KeptBytes). k.base + length k.bytes + c.args.len < 2 ^ 62) (sym c.self.view_is) c.requires in
    omega (arith, ends, small)

pub put_all-requires-clause-last : goal.put_all-requires-clause-last
put_all-requires-clause-last c = let v = c.self.inside in last_up_to v.base v.end v.queue (c.self.invariant.0, c.self.invariant.1)

pub invariant_of-self-2 : goal.invariant_of-self-2
invariant_of-self-2 c =
    let v = c.self.inside in
    let ends = end_is v.base v.end (pieces_of v.queue) c.self.invariant.0 in
    let small = subst (λ (k : KeptBytes). k.base + length k.bytes + c.args.len < 2 ^ 62) (sym c.self.view_is) c.requires in
    let within = cut_bytes c.args.len c.args.chunks.now in
    let last = c.in_ok-self-inside.ensures.end in
    let all = all_queue v.base v.end c.in_ok-self-inside.field-0 v.queue c.put_all.new.stretches (cut_to c.args.len c.args.chunks.now) (c.self.invariant.0, c.self.invariant.1) last c.in_ok-self-inside.ensures.ok in
    (all.0.0, all.0.1, omega (arith, ends, small, within, last))

pub returns-clause-ok : goal.returns-clause-ok
returns-clause-ok c =
    let v = c.self.inside in
    let all = all_queue v.base v.end c.in_ok-self-inside.field-0 v.queue c.put_all.new.stretches (cut_to c.args.len c.args.chunks.now) (c.self.invariant.0, c.self.invariant.1) c.in_ok-self-inside.ensures.end c.in_ok-self-inside.ensures.ok in
    all.1 ∙ ap (λ (k : KeptBytes). with_each (cut_to c.args.len c.args.chunks.now) k) c.self.view_is
