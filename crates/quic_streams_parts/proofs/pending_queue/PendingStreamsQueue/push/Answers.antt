use Rattle.std.proofs.Common.{rules, ◌≡◌, ◌+◌, refl}
use Rattle.quic_streams_parts.proofs.Places.{order_inserted, earlier_inserted, removed_inserted}
use Rattle.quic_streams_parts.proofs.pending_queue.PendingStreamsQueue.push.Goals as goal

pub invariant_of-self-2 : goal.invariant_of-self-2
invariant_of-self-2 c =
    let n : c.in-Some.next ≡ c.self.inside.next + 1 = search rules in
    let is = c.in_ok-insert.ensures.ok in
    record { earlier = rw (n, is) (earlier_inserted _ _ c.args.rank c.args.id c.self.invariant.earlier) }

pub returns-clause-order : goal.returns-clause-order
returns-clause-order c = rw (c.in_ok-insert.ensures.ok, ← c.self.view_is) (order_inserted _ _ c.args.rank c.args.id c.self.invariant.earlier)

pub returns-clause-back : goal.returns-clause-back
returns-clause-back c = rw (c.in_ok-insert.ensures.ok, ← c.self.view_is, removed_inserted _ _ c.args.rank c.args.id c.self.invariant.earlier) refl

pub returns-clause-last : goal.returns-clause-last
returns-clause-last c = record { earlier = rw (c.in_ok-insert.ensures.ok, removed_inserted _ _ c.args.rank c.args.id c.self.invariant.earlier) c.self.invariant.earlier }
