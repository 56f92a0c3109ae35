use Rattle.std.proofs.Common.{◌≡◌, ◌+◌, ◌-◌, Option, List, min, length, sym, ap, ◌∙◌, subst, arith}
use Rattle.quic_wire_core.specs.declared.shared.IssuedCid.{IssuedCid}
use Rattle.quic_ids.specs.CidQueue.{PeerIds, kept_ids, AreAtNumbers, known_in, from}
use Rattle.quic_ids.proofs.PeerIdSteps.{at_moved, known_moved, long_moved}
use Rattle.quic_ids.proofs.cid_queue.CidQueue.switch_to.Goals as goal

pub invariant_of-self : goal.invariant_of-self
invariant_of-self c =
    let i = c.self.inside in
    let m = c.args.cid.sequence in
    let d = c.min-passed.result in
    let at = ap (λ (ids : PeerIds). ids.active) c.self.view_is in
    let above = c.requires in
    let long = c.self.invariant.0 in
    let few = c.min-passed.ensures in
    let is = c.shift.ensures in
    let count : d ≡ min (m + 1 - (i.offset + 1)) (length i.later) = omega arith in
    let P : List (Option IssuedCid) → Type 0 = λ l. (length l + 1 ≡ kept_ids) × AreAtNumbers l (m + 1) in
    let kept = long_moved i.later d (omega arith) in
    subst P (sym is) (omega arith, at_moved i.later d (i.offset + 1) m c.self.invariant.1 count (omega arith))

pub returns : goal.returns
returns c =
    let i = c.self.inside in
    let m = c.args.cid.sequence in
    let d = c.min-passed.result in
    let at = ap (λ (ids : PeerIds). ids.active) c.self.view_is in
    let above = c.requires in
    let long = c.self.invariant.0 in
    let few = c.min-passed.ensures in
    let count : d ≡ min (m + 1 - (i.offset + 1)) (length i.later) = omega arith in
    let R : List IssuedCid → PeerIds = λ l. record { active = m; id = c.args.cid.id; later = l } in
    ap (λ (l : List (Option IssuedCid)). R (known_in l)) c.shift.ensures
    ∙ ap R (known_moved i.later d (i.offset + 1) m c.self.invariant.1 count (omega arith))
    ∙ ap (λ (ids : PeerIds). R (from (m + 1) ids.later)) c.self.view_is
