use Rattle.std.proofs.Common.{List, map, subst}
use Rattle.quic_sets.specs.Runs.{Run, Has, Drops}
use Rattle.quic_sets.specs.Loose.{as_run}
use Rattle.quic_sets.proofs.Offsets.Loose.{runs_are}
use Rattle.quic_sets.proofs.Offsets.OffsetSet.{apart_all}
use Rattle.quic_sets.proofs.Offsets.OffsetCalls.{cut_least, drops_made}
use Rattle.quic_sets.proofs.offset_set.OffsetSet.remove_first.Goals as goal

pub take_out-requires-clause-cut : goal.take_out-requires-clause-cut
take_out-requires-clause-cut c =
    cut_least c.args.x.start c.self.inside.spans.entries c.self.invariant.loose (λ k h. c.requires.least k (subst (λ (rs : List Run). Has rs k) c.self.view_is h))

pub returns-clause-ok : goal.returns-clause-ok
returns-clause-ok c =
    let a = c.args in
    subst (λ (rs : List Run). Drops rs (map as_run c.take_out.new.spans.entries) a.x.start a.x.end) c.self.view_is (drops_made a.x.start a.x.end c.self.inside.spans.entries c.take_out.new.spans.entries c.take_out.ensures.offsets)

pub returns-clause-runs : goal.returns-clause-runs
returns-clause-runs c =
    runs_are c.take_out.new.spans.entries (apart_all c.self.inside.spans.entries c.take_out.new.spans.entries c.self.invariant c.take_out.ensures.loose c.take_out.ensures.touch)
