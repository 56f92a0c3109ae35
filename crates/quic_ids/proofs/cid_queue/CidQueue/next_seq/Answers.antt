use Rattle.std.proofs.Common.{◌≡◌, ℕ, ◌+◌, List, [], Option, Some, None, sym, ap, ◌∙◌, arith}
use Rattle.std.specs.Prelude.{option_map, slice_get}
use Rattle.quic_wire_core.specs.declared.shared.IssuedCid.{IssuedCid}
use Rattle.quic_ids.specs.CidQueue.{from, least_from, kept_ids}
use Rattle.quic_ids.proofs.PeerIdSteps.{next_first, from_all, nothing_from}
use Rattle.quic_ids.proofs.cid_queue.CidQueue.next_seq.Goals as goal

abbrev first_number : List IssuedCid → Option ℕ
first_number cs = option_map (λ cid. cid.sequence) (slice_get cs 0)

pub returns-in_err-next : goal.returns-in_err-next
returns-in_err-next c =
    let ids = c.args.self.now in
    let none : least_from ids.active ids.later ≡ None = ap (λ (n : ℕ). least_from n ids.later) (sym c.active_seq-start.ensures.value) ∙ sym c.in_err-next.ensures.found in
    let all : from ids.active ids.later ≡ ids.later = from_all ids.later ids.active (ids.active + 1) (ids.active + kept_ids) (omega arith) c.active_seq-start.ensures.window in
    let empty : ids.later ≡ [] = sym all ∙ nothing_from ids.later ids.active ids.active (omega arith) none in
    c.from_residual.ensures ∙ sym (ap first_number empty)

pub returns : goal.returns
returns c =
    let ids = c.args.self.now in
    let next = c.in_ok-next.next in
    let found : least_from ids.active ids.later ≡ Some next = ap (λ (n : ℕ). least_from n ids.later) (sym c.active_seq-start.ensures.value) ∙ sym c.in_ok-next.ensures.found in
    sym (ap first_number (next_first ids next c.active_seq-start.ensures.window found))
