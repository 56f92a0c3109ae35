use Rattle.std.proofs.Common.{refl, inr, ◌≡◌, ℕ, ◌+◌, List, length, nat_cmp, subst}
use Rattle.std.specs.BTreeMap.{insert_entry}
use Rattle.quic_assembler.proofs.Parts.Steps.{some_taken, held_gaps, put_gaps}
use Rattle.quic_assembler.proofs.Parts.Undone.{put_back, put_none}
use Rattle.quic_assembler.proofs.Parts.Gaps.{dry_here}
use Rattle.quic_sets.proofs.Outcomes.{of_error}
use Rattle.quic_assembler.proofs.assembler.parts.Parts.put_next.Goals as goal

pub returns-else-not-held-clause-some : goal.returns-else-not-held-clause-some
returns-else-not-held-clause-some c =
    let h = c.span-held.ensures in
    (some_taken c.args.at _ _ c.self.inside.map c.args.bytes.now _ c.requires.some h.held h.count refl).0

pub returns-else-not-held-clause-gaps : goal.returns-else-not-held-clause-gaps
returns-else-not-held-clause-gaps c =
    let h = c.span-held.ensures in
    rw (← c.self.view_is) (held_gaps c.args.at _ _ c.self.inside.map c.args.bytes.now _ h.held c.if-not-held.false h.count refl)

pub returns-in_err-fill_gap-clause-back : goal.returns-in_err-fill_gap-clause-back
returns-in_err-fill_gap-clause-back c =
    let h = c.span-held.ensures in
    put_none c.args.at _ _ _ _ _ c.self.inside.map _ c.args.bytes.now _ c.self.view_is c.self.invariant.apart c.requires.some h.held c.if-not-held.true h.count refl c.in_ok-push.ensures.items c.in_err-fill_gap.ensures.err

pub returns-in_ok-fill_gap-clause-gaps : goal.returns-in_ok-fill_gap-clause-gaps
returns-in_ok-fill_gap-clause-gaps c =
    let h = c.span-held.ensures in
    rw (← c.self.view_is) (put_gaps 0 c.args.at _ _ _ c.self.inside.map _ c.args.bytes.now _ c.self.view_is c.self.invariant.apart c.requires.some h.held c.if-not-held.true h.count refl (subst (λ (p : List ℕ). c.fill_gap.new.self ≡ insert_entry nat_cmp c.args.self.now (c.args.at + length p) p) c.in_ok-part.ensures c.in_ok-fill_gap.ensures.ok))

pub returns-in_ok-fill_gap-clause-back : goal.returns-in_ok-fill_gap-clause-back
returns-in_ok-fill_gap-clause-back c =
    let h = c.span-held.ensures in
    put_back c.args.at _ _ _ _ _ c.self.inside.map _ c.args.bytes.now _ c.self.view_is c.self.invariant.apart c.requires.some h.held c.if-not-held.true h.count refl c.in_ok-push.ensures.items (subst (λ (p : List ℕ). c.fill_gap.new.self ≡ insert_entry nat_cmp c.args.self.now (c.args.at + length p) p) c.in_ok-part.ensures c.in_ok-fill_gap.ensures.ok)

pub returns-in_err-push-clause-lacking : goal.returns-in_err-push-clause-lacking
returns-in_err-push-clause-lacking c =
    of_error c.from_residual.result (dry_here c.args.at _ c.self.inside.map _ c.self.view_is c.self.invariant.apart c.span-held.ensures.held c.if-not-held.true)

pub returns-in_err-fill_gap-clause-lacking : goal.returns-in_err-fill_gap-clause-lacking
returns-in_err-fill_gap-clause-lacking c =
    of_error c.from_residual-in_err-fill_gap.result (dry_here c.args.at _ c.self.inside.map _ c.self.view_is c.self.invariant.apart c.span-held.ensures.held c.if-not-held.true)

pub returns-in_ok-fill_gap-clause-same : goal.returns-in_ok-fill_gap-clause-same
returns-in_ok-fill_gap-clause-same c = inr (dry_here c.args.at _ c.self.inside.map _ c.self.view_is c.self.invariant.apart c.span-held.ensures.held c.if-not-held.true)

pub returns-in_err-part-clause-back : goal.returns-in_err-part-clause-back
returns-in_err-part-clause-back c =
    let h = c.span-held.ensures in
    put_none c.args.at _ _ _ _ _ c.self.inside.map _ c.args.bytes.now _ c.self.view_is c.self.invariant.apart c.requires.some h.held c.if-not-held.true h.count refl c.in_ok-push.ensures.items refl

pub returns-in_err-part-clause-lacking : goal.returns-in_err-part-clause-lacking
returns-in_err-part-clause-lacking c =
    of_error c.from_residual-in_err-part.result (dry_here c.args.at _ c.self.inside.map _ c.self.view_is c.self.invariant.apart c.span-held.ensures.held c.if-not-held.true)
