use Rattle.std.proofs.Common.{length, refl, arith}
use Rattle.std.proofs.lemmas.Option.{slice_get_read}
use borrow.Author.Count.{below_more}
use Rattle.quic_connection.proofs.Codes.{CodeAt, are_codes, code_at}
use Rattle.quic_connection.proofs.running.show_codes.Goals as goal

pub loop-one-preserved : goal.loop-one-preserved
loop-one-preserved c =
    let i = c.loop-one.one-index in
    let events = c.args.events.now in
    below_more (CodeAt events) i c.loop-one.invariant
    (code_at events i c.one-item.result (slice_get_read events (length events) i c.one-item.result refl c.loop-one-test.true c.one-item.is) c.show_code.ensures)

pub returns : goal.returns
returns c = are_codes c.args.events.now (λ k below. c.loop-one.invariant k (omega arith))
