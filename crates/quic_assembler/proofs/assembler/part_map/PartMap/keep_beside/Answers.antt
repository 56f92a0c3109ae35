use Rattle.std.proofs.Common.{arith}
use Rattle.quic_assembler.proofs.Parts.Rows.{row_first, above_either, row_before, above_before}
use Rattle.quic_assembler.proofs.assembler.part_map.PartMap.keep_beside.Goals as goal

pub invariant_of-self-then-first-end : goal.invariant_of-self-then-first-end
invariant_of-self-then-first-end c =
    let i = c.self.inside in
    let up = row_first i.first c.in-Some.first i.others.entries c.in-Some.is c.self.invariant in
    above_either c.keep.result c.in-Some.first.0 c.args.end i.others.entries c.keep.new.parts.entries c.args.part c.if-first-end.true up c.keep.ensures.ok c.keep.ensures.err

pub invariant_of-self-2 : goal.invariant_of-self-2
invariant_of-self-2 c =
    let i = c.self.inside in
    let le = c.if-first-end.false in
    let other = c.if-first-end-2.false in
    let r = c.replace-behind in
    above_before i.first c.in-Some.first r.result r.new.dest i.others.entries c.insert.new.self.entries c.args.end c.args.part c.in-Some.is c.self.invariant (omega arith) r.ensures.value r.ensures.after c.in_default-insert.ensures.entries

pub returns-clause-ok : goal.returns-clause-ok
returns-clause-ok c =
    let i = c.self.inside in
    let le = c.if-first-end.false in
    let other = c.if-first-end-2.false in
    let r = c.replace-behind in
    rw (← c.self.view_is)
    (row_before i.first c.in-Some.first r.result r.new.dest i.others.entries c.insert.new.self.entries c.args.end c.args.part c.in-Some.is c.self.invariant (omega arith) r.ensures.value r.ensures.after c.in_default-insert.ensures.entries)
