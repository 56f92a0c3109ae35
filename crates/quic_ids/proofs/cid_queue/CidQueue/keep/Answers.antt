use Rattle.std.proofs.Common.{◌≡◌, ◌+◌, ◌-◌, ◌<◌, Some, length, ap, arith}
use Rattle.std.proofs.lemmas.List.{length-set}
use Rattle.quic_ids.specs.CidQueue.{PeerIds, known_in}
use Rattle.quic_ids.proofs.PeerIdSteps.{at_set, known_set, known_above}
use Rattle.quic_ids.proofs.cid_queue.CidQueue.keep.Goals as goal

pub invariant_of-self-else-cid-self : goal.invariant_of-self-else-cid-self
invariant_of-self-else-cid-self c =
    let i = c.self.inside in
    let cid = c.args.cid in
    let at = ap (λ (ids : PeerIds). ids.active) c.self.view_is in
    let low = c.requires.low in
    let other = c.if-cid-self.false in
    let place : cid.sequence ≡ i.offset + 1 + (cid.sequence - i.offset - 1) = omega arith in
    let long = c.self.invariant.0 in
    let kept = length-set i.later (cid.sequence - i.offset - 1) (Some cid) in
    (omega arith, at_set i.later (i.offset + 1) (cid.sequence - i.offset - 1) cid c.self.invariant.1 place)

pub returns-else-cid-self : goal.returns-else-cid-self
returns-else-cid-self c =
    let i = c.self.inside in
    let cid = c.args.cid in
    let at = ap (λ (ids : PeerIds). ids.active) c.self.view_is in
    let low = c.requires.low in
    let high = c.requires.high in
    let other = c.if-cid-self.false in
    let long = c.self.invariant.0 in
    let place : cid.sequence ≡ i.offset + 1 + (cid.sequence - i.offset - 1) = omega arith in
    let within : cid.sequence - i.offset - 1 < length i.later = omega arith in
    known_above i.offset i.active (known_in i.later) _ c.args.self.now cid c.self.view_is (omega arith) (known_set i.later (i.offset + 1) (cid.sequence - i.offset - 1) cid c.self.invariant.1 place within)
