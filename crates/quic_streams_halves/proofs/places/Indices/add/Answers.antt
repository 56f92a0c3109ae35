use Rattle.std.proofs.Common.{◌≡◌, ℕ, ◌+◌, List, Result, Ok, Err, OnOk, subst}
use Rattle.quic_sets.specs.Runs.{Run, AreRuns, Adds}
use Rattle.quic_sets.specs.Offsets.{with_offsets}
use Rattle.quic_sets.proofs.Offsets.Edits.{with_only}
use Rattle.quic_streams_halves.proofs.places.Indices.add.Goals as goal

added : {T E : Type 0} (r : Result T E) (a z : ℕ) (old new : List Run) → AreRuns old → AreRuns new → OnOk r (Adds old new a z) → OnOk r (new ≡ with_offsets a z old)
added (Ok x) a z old new o n p = with_only a z old new o n p
added (Err e) a z old new o n p = tt

pub returns-clause-ok : goal.returns-clause-ok
returns-clause-ok c =
    let inserted = added c.insert.result c.args.index (c.args.index + 1) c.self.inside.0 c.insert.new.self c.self.invariant c.insert.ensures.runs c.insert.ensures.ok in
    subst (λ (rs : List Run). OnOk c.insert.result (c.insert.new.self ≡ with_offsets c.args.index (c.args.index + 1) rs)) c.self.view_is inserted
