use Rattle.std.proofs.Common.{refl}
use Rattle.quic_sets.proofs.Offsets.Spans.{look_some}
use Rattle.quic_assembler.proofs.Parts.Free.{given_skips, free_fills}
use Rattle.quic_assembler.proofs.Parts.Gaps.{free_here, on_second}
use Rattle.quic_sets.proofs.Outcomes.{of_error}
use Rattle.quic_assembler.proofs.assembler.parts.Parts.put_free.Goals as goal

pub returns-in_ok-fill-clause-some : goal.returns-in_ok-fill-clause-some
returns-in_ok-fill-clause-some c =
    let h = c.look-held.ensures in
    (look_some c.args.at _ _ c.args.given.now.entries _ c.requires.some h.held h.count).0

pub returns-else-not-held-clause-some : goal.returns-else-not-held-clause-some
returns-else-not-held-clause-some c =
    let h = c.look-held.ensures in
    (look_some c.args.at _ _ c.args.given.now.entries _ c.requires.some h.held h.count).0

pub returns-else-not-held-clause-free : goal.returns-else-not-held-clause-free
returns-else-not-held-clause-free c =
    let h = c.look-held.ensures in
    given_skips c.args.at _ _ c.args.given.now.entries _ c.args.bytes.now _ c.requires.spans h.held c.if-not-held.false h.count

pub returns-in_ok-fill-clause-free : goal.returns-in_ok-fill-clause-free
returns-in_ok-fill-clause-free c =
    let h = c.look-held.ensures in
    free_fills c.args.at _ _ c.args.given.now.entries _ _ c.args.bytes.now _ c.requires.spans c.if-not-held.true h.count refl c.in_ok-fill.ensures.ok

pub returns-in_err-fill-clause-lacking : goal.returns-in_err-fill-clause-lacking
returns-in_err-fill-clause-lacking c =
    let h = c.look-held.ensures in
    let some = look_some c.args.at _ _ c.args.given.now.entries _ c.requires.some h.held h.count in
    of_error c.from_residual.result (free_here c.args.at _ _ c.args.given.now.entries _ c.args.bytes.now _ c.requires.spans c.if-not-held.true h.count some.1 c.in_err-fill.ensures.lacking)

pub returns-in_ok-fill-clause-same : goal.returns-in_ok-fill-clause-same
returns-in_ok-fill-clause-same c =
    let h = c.look-held.ensures in
    let some = look_some c.args.at _ _ c.args.given.now.entries _ c.requires.some h.held h.count in
    on_second c.in_ok-fill.ensures.same (free_here c.args.at _ _ c.args.given.now.entries _ c.args.bytes.now _ c.requires.spans c.if-not-held.true h.count some.1)
