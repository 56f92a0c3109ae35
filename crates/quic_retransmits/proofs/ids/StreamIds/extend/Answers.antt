use Rattle.std.proofs.Common.{[]}
use Rattle.quic_retransmits.proofs.IdSteps.{all_are, are_inserted, are_with, lone_joined, lone_small, others_are}
use Rattle.quic_retransmits.proofs.ids.StreamIds.extend.Goals as goal

pub invariant_of-self-in-Continue-branch-2 : goal.invariant_of-self-in-Continue-branch-2
invariant_of-self-in-Continue-branch-2 c =
    let m = c.more.inside in
    let small = lone_small m.lone m.ids.keys c.in-Some.id c.in-Some.is c.more.invariant in
    lone_joined c.spread.new.lone [] c.insert_noted.new.ids.keys c.in_ok-spread.ensures.none
    (rw c.in_ok-insert_noted-in-Some.ensures.ok (are_inserted c.in-Some.id c.spread.new.ids.keys small (rw c.in_ok-spread.ensures.ok (all_are c.self.inside.lone c.self.inside.ids.keys c.self.invariant))))

pub invariant_of-self-in-Continue-branch-3 : goal.invariant_of-self-in-Continue-branch-3
invariant_of-self-in-Continue-branch-3 c =
    let m = c.more.inside in
    let more = others_are m.lone m.ids.keys c.in-None.is c.more.invariant in
    lone_joined c.spread.new.lone [] c.insert_all.new.ids.keys c.in_ok-spread.ensures.none
    (rw c.in_ok-insert_all-in-None.ensures.ok (are_with m.ids.keys c.spread.new.ids.keys more (rw c.in_ok-spread.ensures.ok (all_are c.self.inside.lone c.self.inside.ids.keys c.self.invariant))))
