use Rattle.std.proofs.Common.{refl, ap, arith}
use Rattle.std.proofs.lemmas.Result.{IfOk-weaker}
use Rattle.quic_send_buffer.specs.KeptBytes.{end_of}
use Rattle.quic_send_buffer.proofs.Kept.Stretches.{last_found, last_grown}
use Rattle.quic_send_buffer.proofs.send_buffer.row.Row.push_small.Goals as goal

pub try_push-requires : goal.try_push-requires
try_push-requires c =
    let v = c.self.inside in
    let last = ap end_of (last_found v.first v.others.items c.args.self.now v.others.len c.in-Some.last.now v.others.ok.0 (c.in-Some.ensures.variant.0 refl) c.in-Some.ensures.value c.self.view_is) in
    let below = c.requires.last in
    let small = c.requires.small in
    omega (arith, last, below, small)

pub returns-in-Some-clause-ok : goal.returns-in-Some-clause-ok
returns-in-Some-clause-ok c =
    let v = c.self.inside in
    IfOk-weaker c.try_push.result _ _ (λ taken is. last_grown v.first v.others.items c.args.self.now v.others.len c.args.end c.in-Some.last.now c.try_push.new.self c.args.piece.now taken v.others.ok.0 (c.in-Some.ensures.variant.0 refl) c.requires.some c.in-Some.ensures.value c.self.view_is is) c.try_push.ensures.ok
