use Rattle.std.proofs.Common.{length, refl, arith}
use Rattle.std.proofs.lemmas.Option.{slice_get_read}
use borrow.Author.Count.{below_more}
use Rattle.quic_connection.proofs.Codes.{CallAt, are_small, call_at}
use Rattle.quic_connection.proofs.alone.show_codes.Goals as goal

pub loop-one-preserved : goal.loop-one-preserved
loop-one-preserved c =
    let i = c.loop-one.one-index in
    let made = c.args.calls.now in
    below_more (CallAt made) i c.loop-one.invariant
    (call_at made i c.one-item.result (slice_get_read made (length made) i c.one-item.result refl c.loop-one-test.true c.one-item.is) c.show_code.ensures)

pub returns : goal.returns
returns c = are_small c.args.calls.now (λ k below. c.loop-one.invariant k (omega arith))
