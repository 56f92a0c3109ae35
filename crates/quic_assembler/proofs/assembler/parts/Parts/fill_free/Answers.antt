use Rattle.std.proofs.Common.{ap, sym, ◌∙◌, ◌+◌, arith}
use Rattle.std.proofs.lemmas.List.{drop_all}
use Rattle.quic_assembler.specs.Arrived.{with_free}
use Rattle.quic_assembler.proofs.Parts.Free.{free_none}
use Rattle.quic_assembler.proofs.Parts.Gaps.{free_found}
use Rattle.quic_sets.proofs.Outcomes.{of_error}
use Rattle.quic_assembler.proofs.assembler.parts.Parts.fill_free.Goals as goal

pub returns-clause-ok : goal.returns-clause-ok
returns-clause-ok c =
    let s = c.loop-taken in
    let g = c.args.given.now.entries in
    let none = drop_all s.taken c.args.bytes.now c.loop-taken-test.false in
    sym (s.invariant.same ∙ ap (λ bs. with_free g s.self (c.args.at + s.taken) bs) none ∙ free_none g s.self (c.args.at + s.taken))

pub returns-in_err-taken-clause-lacking : goal.returns-in_err-taken-clause-lacking
returns-in_err-taken-clause-lacking c =
    let s = c.loop-taken in
    of_error c.from_residual.result (free_found c.args.at s.taken _ c.args.given.now.entries c.args.self.now s.self c.args.bytes.now (omega arith) s.invariant.free c.in_err-taken.ensures.lacking)
