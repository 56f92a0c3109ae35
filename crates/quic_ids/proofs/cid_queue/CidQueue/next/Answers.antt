use Rattle.std.proofs.Common.{◌≡◌, ℕ, ◌+◌, List, Some, sym, ap, ◌∙◌, arith}
use Rattle.quic_wire_core.specs.declared.shared.IssuedCid.{IssuedCid}
use Rattle.quic_ids.specs.CidQueue.{least_from, kept_ids, first_used}
use Rattle.quic_ids.proofs.PeerIdSteps.{found_above, next_first}
use Rattle.quic_ids.proofs.cid_queue.CidQueue.next.Goals as goal

pub switch_to-requires : goal.switch_to-requires
switch_to-requires c =
    let ids = c.args.self.now in
    let next = c.in_ok-next.next in
    let found : least_from ids.active ids.later ≡ Some next = ap (λ (n : ℕ). least_from n ids.later) (sym c.active_seq-start.ensures.value) ∙ sym c.in_ok-next.ensures.found in
    let b = found_above ids.later ids.active (ids.active + 1) (ids.active + kept_ids) next c.active_seq-start.ensures.window found in
    omega (arith, b.0)

pub returns-clause-new : goal.returns-clause-new
returns-clause-new c =
    let ids = c.args.self.now in
    let next = c.in_ok-next.next in
    let found : least_from ids.active ids.later ≡ Some next = ap (λ (n : ℕ). least_from n ids.later) (sym c.active_seq-start.ensures.value) ∙ sym c.in_ok-next.ensures.found in
    c.switch_to.ensures ∙ sym (ap (λ (l : List IssuedCid). first_used l ids) (next_first ids next c.active_seq-start.ensures.window found))
