use Rattle.std.proofs.Common.{◌≡◌, ◌-◌, ap, ◌∙◌, arith, take}
use Rattle.std.proofs.lemmas.Result.{on_ok_weaker}
use Rattle.quic_send_buffer.proofs.Kept.Several.{front_put}
use Rattle.quic_send_buffer.proofs.send_buffer.pieces.put_front.Goals as goal

pub returns-clause-ok : goal.returns-clause-ok
returns-clause-ok c =
    let whole : c.args.len - 0 ≡ c.args.len = omega arith in
    on_ok_weaker c.push_back.result (λ put. front_put c.args.stretches.now c.push_back.new.self c.args.end c.args.len c.args.chunk.now c.in_ok-piece.piece c.requires.within (omega arith)
    (c.in_ok-piece.ensures.ok ∙ ap (λ n. take n c.args.chunk.now) whole) put) c.push_back.ensures.ok
