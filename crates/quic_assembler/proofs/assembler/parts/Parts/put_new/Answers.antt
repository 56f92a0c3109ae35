use Rattle.std.proofs.Common.{ap, not, subst, arith, List, length-take}
use Rattle.quic_assembler.specs.Arrived.{AreApart}
use Rattle.quic_sets.specs.Parts.{Part}
use Rattle.quic_assembler.proofs.Parts.Skipped.{free_skips, free_keeps, new_fills}
use Rattle.quic_assembler.proofs.assembler.parts.Parts.put_new.Goals as goal

pub returns-in_ok-fill_free-clause-free : goal.returns-in_ok-fill_free-clause-free
returns-in_ok-fill_free-clause-free c =
    let a = c.args in
    let h = c.look-held.ensures in
    let some = h.some in
    let apart = subst (λ (ps : List Part). AreApart 0 ps) c.self.view_is c.self.invariant.apart in
    new_fills a.at _ a.given.now.entries a.self.now _ a.bytes.now c.requires.spans apart c.requires.small h.within
    (λ l. c.requires.here _ (omega arith) (omega arith) ((h.most l).1 (ap not c.if-not-held.true)))
    c.in_ok-fill_free.ensures.ok

pub returns-in_ok-fill_free-clause-kept : goal.returns-in_ok-fill_free-clause-kept
returns-in_ok-fill_free-clause-kept c = λ o w.
    let a = c.args in
    let small = c.requires.small in
    let t = length-take c.look-held.result.1 a.bytes.now in
    let apart = subst (λ (ps : List Part). AreApart 0 ps) c.self.view_is c.self.invariant.apart in
    rw (c.in_ok-fill_free.ensures.ok) (free_keeps a.at o a.given.now.entries a.self.now _ c.requires.spans apart (omega arith) w)

pub returns-else-not-held-clause-free : goal.returns-else-not-held-clause-free
returns-else-not-held-clause-free c =
    let a = c.args in
    let h = c.look-held.ensures in
    let within = h.within in
    let apart = subst (λ (ps : List Part). AreApart 0 ps) c.self.view_is c.self.invariant.apart in
    free_skips _ a.at a.given.now.entries a.self.now a.bytes.now c.requires.spans apart within (λ o l m. c.requires.here o l (omega arith) ((h.alike o l m).1 c.if-not-held.false))
