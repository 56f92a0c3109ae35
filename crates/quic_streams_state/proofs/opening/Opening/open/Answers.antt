use Rattle.std.proofs.Common.{◌≡◌, ◌+◌, ◌<◌, ap, ◌∙◌, arith}
use Rattle.quic_streams_parts.specs.Dirs.{of, with_of}
use Rattle.quic_streams_state.specs.Views.{opening_of}
use Rattle.quic_streams_state.proofs.Counts.{opened_keeps}
use Rattle.quic_streams_state.proofs.opening.Opening.open.Goals as goal

pub invariant_of-self : goal.invariant_of-self
invariant_of-self c =
    let is = c.set.ensures ∙ ap (λ n. with_of c.args.dir (n + 1) c.self.inside.next) c.of-next.ensures in
    let below : of c.args.dir c.self.inside.next < of c.args.dir c.self.inside.max = omega (arith, c.of-next.ensures, c.of.ensures, c.if-next-of.false) in
    rw is (opened_keeps c.args.dir (opening_of c.self.inside) c.self.invariant below)
