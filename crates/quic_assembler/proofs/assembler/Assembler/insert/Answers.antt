use Rattle.std.proofs.Common.{◌∙◌, ℕ, List, length, min, ap, sym, subst, arith}
use Rattle.quic_assembler.specs.Arrived.{Arrived, settled}
use Rattle.quic_sets.specs.Parts.{Part}
use Rattle.quic_assembler.specs.Waiting.{IsInserted}
use Rattle.quic_assembler.proofs.Parts.Gaps.{brings_new}
use Rattle.quic_sets.proofs.Outcomes.{of_error}
use Rattle.quic_assembler.proofs.Calls.Inserted.{is_inserted}
use Rattle.quic_assembler.proofs.Calls.Inserting.{known_free}
use Rattle.quic_assembler.proofs.Calls.Kept.{seen, here_of, insert_kept, insert_known}
use Rattle.quic_sets.proofs.Offsets.Spans.{lower}
use Rattle.quic_assembler.proofs.assembler.Assembler.insert.Goals as goal

pub insert-requires-clause-spans : goal.insert-requires-clause-spans
insert-requires-clause-spans c = lower c.self.inside.read 0 c.self.inside.picked.entries c.self.invariant.lawful.spans (omega arith)

pub insert-requires-clause-here : goal.insert-requires-clause-here
insert-requires-clause-here c =
    let i = c.self.inside in
    let a = c.args in
    let known = c.min-known.ensures ∙ ap (λ (n : ℕ). min n (length a.bytes.now)) c.saturating_sub.ensures in
    here_of i.read a.offset c.min-known.result i.unordered i.picked.entries i.parts a.bytes.now i.arrived known c.self.invariant.known

pub returns-in_err-insert-clause-lacking : goal.returns-in_err-insert-clause-lacking
returns-in_err-insert-clause-lacking c =
    let i = c.self.inside in
    let a = c.args in
    let known = c.min-known.ensures ∙ ap (λ (n : ℕ). min n (length a.bytes.now)) c.saturating_sub.ensures in
    rw (← c.self.view_is) (of_error c.from_residual.result (brings_new i.read a.offset c.min-known.result i.unordered i.picked.entries i.parts a.bytes.now known c.in_err-insert.ensures.lacking))

pub invariant_of-self-2 : goal.invariant_of-self-2
invariant_of-self-2 c =
    let i = c.self.inside in
    let a = c.args in
    let known = c.min-known.ensures ∙ ap (λ (n : ℕ). min n (length a.bytes.now)) c.saturating_sub.ensures in
    let put = c.in_ok-insert.ensures.ok in
    record {
      lawful = insert_kept i.read a.offset c.min-known.result i.unordered i.picked.entries i.parts _ a.bytes.now known c.self.invariant.lawful c.requires put;
      known = insert_known i.read a.offset c.min-known.result i.unordered i.picked.entries i.parts _ a.bytes.now i.arrived _ known c.self.invariant.lawful c.requires c.self.invariant.known put c.note.ensures;
      total = c.self.invariant.total;
    }

pub returns-clause-ok : goal.returns-clause-ok
returns-clause-ok c =
    let i = c.self.inside in
    let a = c.args in
    let known = c.min-known.ensures ∙ ap (λ (n : ℕ). min n (length a.bytes.now)) c.saturating_sub.ensures in
    let same = known_free i.read a.offset c.min-known.result i.picked.entries i.parts a.bytes.now known in
    let all : List Part → Arrived = λ ps. seen i.read i.unordered i.picked.entries ps in
    rw (← c.self.view_is) (ap all (c.in_ok-insert.ensures.ok ∙ ap settled same))

pub returns-clause-inserted : goal.returns-clause-inserted
returns-clause-inserted c =
    let i = c.self.inside in
    let a = c.args in
    let known = c.min-known.ensures ∙ ap (λ (n : ℕ). min n (length a.bytes.now)) c.saturating_sub.ensures in
    let same = known_free i.read a.offset c.min-known.result i.picked.entries i.parts a.bytes.now known in
    let all : List Part → Arrived = λ ps. seen i.read i.unordered i.picked.entries ps in
    rw (← c.self.view_is) (subst (λ (b : Arrived). IsInserted (all i.parts) a.offset a.bytes.now b) (sym (ap all (c.in_ok-insert.ensures.ok ∙ ap settled same))) (is_inserted (all i.parts) a.offset a.bytes.now c.self.invariant.lawful c.requires))

pub returns-clause-lawful : goal.returns-clause-lawful
returns-clause-lawful c =
    let i = c.self.inside in
    let a = c.args in
    let known = c.min-known.ensures ∙ ap (λ (n : ℕ). min n (length a.bytes.now)) c.saturating_sub.ensures in
    insert_kept i.read a.offset c.min-known.result i.unordered i.picked.entries i.parts _ a.bytes.now known c.self.invariant.lawful c.requires c.in_ok-insert.ensures.ok
