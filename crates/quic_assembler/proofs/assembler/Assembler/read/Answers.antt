use Rattle.std.proofs.Common.{true, false, sym, ◌∙◌, subst}
use Rattle.quic_assembler.specs.Arrived.{IsLawful}
use Rattle.quic_assembler.proofs.Calls.Inserting.{on_both}
use Rattle.quic_assembler.proofs.Arrived.Lawful.{next_lawful}
use Rattle.quic_assembler.proofs.Arrived.Picking.{pick_lawful}
use Rattle.quic_assembler.proofs.Calls.Taken.{ok_read, ok_left}
use Rattle.quic_assembler.proofs.assembler.Assembler.read.Goals as goal

pub returns-then-is_unordered-clause-chunk : goal.returns-then-is_unordered-clause-chunk
returns-then-is_unordered-clause-chunk c = ok_read c.read_any.result c.args.self.now c.args.max true c.read_any.ensures.lawful (sym c.if-is_unordered.true ∙ c.is_unordered.ensures.value) c.read_any.ensures.ok

pub returns-then-is_unordered-clause-taken : goal.returns-then-is_unordered-clause-taken
returns-then-is_unordered-clause-taken c = ok_left c.read_any.result c.args.self.now _ c.args.max true c.read_any.ensures.lawful (sym c.if-is_unordered.true ∙ c.is_unordered.ensures.value) c.read_any.ensures.ok c.read_any.ensures.new

pub returns-else-is_unordered-clause-chunk : goal.returns-else-is_unordered-clause-chunk
returns-else-is_unordered-clause-chunk c = ok_read c.read_next.result c.args.self.now c.args.max false c.read_next.ensures.lawful (sym c.if-is_unordered.false ∙ c.is_unordered.ensures.value) c.read_next.ensures.ok

pub returns-else-is_unordered-clause-taken : goal.returns-else-is_unordered-clause-taken
returns-else-is_unordered-clause-taken c = ok_left c.read_next.result c.args.self.now _ c.args.max false c.read_next.ensures.lawful (sym c.if-is_unordered.false ∙ c.is_unordered.ensures.value) c.read_next.ensures.ok c.read_next.ensures.new

pub returns-then-is_unordered-clause-lawful : goal.returns-then-is_unordered-clause-lawful
returns-then-is_unordered-clause-lawful c =
    let a = c.args.self.now in
    let got = c.read_any.ensures in
    let lawful = pick_lawful a c.args.max (sym c.is_unordered.ensures.value ∙ c.if-is_unordered.true) got.lawful in
    on_both c.read_any.result got.new got.err (λ e. subst IsLawful (sym e) lawful) (λ e. subst IsLawful (sym e) got.lawful)

pub returns-else-is_unordered-clause-lawful : goal.returns-else-is_unordered-clause-lawful
returns-else-is_unordered-clause-lawful c =
    let a = c.args.self.now in
    let got = c.read_next.ensures in
    let lawful = next_lawful a c.args.max (sym c.is_unordered.ensures.value ∙ c.if-is_unordered.false) got.lawful in
    on_both c.read_next.result got.new got.err (λ e. subst IsLawful (sym e) lawful) (λ e. subst IsLawful (sym e) got.lawful)
