use Rattle.std.proofs.Common.{ap, sym, ◌∙◌, ◌+◌, length}
use Rattle.std.proofs.lemmas.List.{drop_all}
use Rattle.quic_assembler.specs.Arrived.{with_gaps}
use Rattle.quic_assembler.proofs.Parts.Steps.{none_left}
use Rattle.quic_assembler.proofs.Parts.Gaps.{gap_found}
use Rattle.quic_sets.proofs.Outcomes.{of_error}
use Rattle.quic_assembler.proofs.assembler.parts.Parts.fill.Goals as goal

pub returns-clause-ok : goal.returns-clause-ok
returns-clause-ok c =
    let s = c.loop-taken in
    let none = drop_all s.taken c.args.bytes.now c.loop-taken-test.false in
    sym (s.invariant.same ∙ ap (λ bs. with_gaps s.self (c.args.at + s.taken) bs) none ∙ none_left s.self (c.args.at + s.taken))

pub returns-in_err-taken-clause-lacking : goal.returns-in_err-taken-clause-lacking
returns-in_err-taken-clause-lacking c =
    let s = c.loop-taken in
    of_error c.from_residual.result (gap_found c.args.at (length c.args.bytes.now) s.taken c.args.self.now s.self c.loop-taken-test.true s.invariant.gap c.in_err-taken.ensures.lacking)
