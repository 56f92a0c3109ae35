use Rattle.std.proofs.Common.{◌+◌, arith, subst}
use Rattle.quic_ids.specs.CidQueue.{PeerIds, IsWindow, kept_ids}
use Rattle.quic_ids.proofs.PeerIdSteps.{window_kept}
use Rattle.quic_ids.proofs.cid_queue.CidQueue.active_seq.Goals as goal

pub returns-clause-window : goal.returns-clause-window
returns-clause-window c =
    let i = c.self.inside in
    let long = c.self.invariant.0 in
    let P : PeerIds → Type 0 = λ ids. IsWindow ids in
    subst P c.self.view_is (window_kept i.later (i.offset + 1) (i.offset + kept_ids) c.self.invariant.1 (omega arith))
