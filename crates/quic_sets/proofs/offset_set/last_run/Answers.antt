use Rattle.std.proofs.Common.{sym, ap}
use Rattle.quic_sets.specs.Spans.{Span, ends_of}
use Rattle.quic_sets.proofs.Offsets.Last.{last_is}
use Rattle.quic_sets.proofs.offset_set.last_run.Goals as goal

pub returns-in-Some : goal.returns-in-Some
returns-in-Some c =
    sym (ap (λ (g : Span). ends_of g) (last_is (0, 0) (c.in-Some.end.now, c.in-Some.start.now) c.args.spans.now.entries c.in-Some.ensures.last))
