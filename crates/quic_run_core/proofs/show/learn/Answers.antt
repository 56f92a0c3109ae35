use Rattle.std.proofs.Common.{◌≡◌, ◌<◌, length, arith}
use Rattle.quic_run_core.proofs.Showing.{known_push}
use Rattle.quic_run_core.proofs.show.learn.Goals as goal

pub loop-alloc-preserved : goal.loop-alloc-preserved
loop-alloc-preserved c =
    let numbers = c.loop-alloc.numbers in
    let size : c.len-in-loop-alloc.result ≡ length numbers.items = omega (arith, numbers.ok.0) in
    let fits : c.len-in-loop-alloc.result < length c.args.given.now = omega arith in
    let known = known_push c.args.side c.args.given.now numbers.items c.len-in-loop-alloc.result c.index-given-len.result c.expected_behind-expected.result c.loop-alloc.invariant size fits c.index-given-len.is (rw c.as_slice.ensures.value at c.expected_behind-expected.ensures.value) in
    rw (c.in_ok-push.ensures.items, c.number_of.ensures, c.in_ok-shown.ensures) known
