use Rattle.std.proofs.Common.{◌≡◌, ◌+◌, ◌<◌, ◌^◌, ap, sym, subst, ◌∙◌, arith, length}
use Rattle.quic_send_buffer.specs.KeptBytes.{KeptBytes, pieces_of, with_piece}
use Rattle.quic_send_buffer.proofs.Kept.Pieces.{end_is}
use Rattle.quic_send_buffer.proofs.Kept.Queue.{one_queue, last_up_to}
use Rattle.quic_send_buffer.proofs.send_buffer.pieces.Pieces.push.Goals as goal

pub put_copy-requires-clause-small : goal.put_copy-requires-clause-small
put_copy-requires-clause-small c =
    let v = c.self.inside in
    let ends = end_is v.base v.end (pieces_of v.queue) c.self.invariant.0 in
    let small = subst (λ (k : KeptBytes). k.base + length k.bytes + length c.args.bytes.now < 2 ^ 62) (sym c.self.view_is) c.requires in
    omega (arith, ends, small)

pub put_copy-requires-clause-last : goal.put_copy-requires-clause-last
put_copy-requires-clause-last c = let v = c.self.inside in last_up_to v.base v.end v.queue (c.self.invariant.0, c.self.invariant.1)

pub invariant_of-self-2 : goal.invariant_of-self-2
invariant_of-self-2 c =
    let v = c.self.inside in
    let ends = end_is v.base v.end (pieces_of v.queue) c.self.invariant.0 in
    let last = subst (λ (k : KeptBytes). c.end.result ≡ k.base + length k.bytes) (sym c.self.view_is) c.end.ensures.value in
    let small = subst (λ (k : KeptBytes). k.base + length k.bytes + length c.args.bytes.now < 2 ^ 62) (sym c.self.view_is) c.requires in
    let all = one_queue v.base v.end (c.end.result + length c.args.bytes.now) v.queue c.put_copy.new.stretches c.args.bytes.now (c.self.invariant.0, c.self.invariant.1) (omega (arith, ends, last)) c.in_ok-put_copy.ensures.ok in
    (all.0.0, all.0.1, omega (arith, small, last))

pub returns-clause-ok : goal.returns-clause-ok
returns-clause-ok c =
    let v = c.self.inside in
    let ends = end_is v.base v.end (pieces_of v.queue) c.self.invariant.0 in
    let last = subst (λ (k : KeptBytes). c.end.result ≡ k.base + length k.bytes) (sym c.self.view_is) c.end.ensures.value in
    let all = one_queue v.base v.end (c.end.result + length c.args.bytes.now) v.queue c.put_copy.new.stretches c.args.bytes.now (c.self.invariant.0, c.self.invariant.1) (omega (arith, ends, last)) c.in_ok-put_copy.ensures.ok in
    all.1 ∙ ap (λ (k : KeptBytes). with_piece c.args.bytes.now k) c.self.view_is
