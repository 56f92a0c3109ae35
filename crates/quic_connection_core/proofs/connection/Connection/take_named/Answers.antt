use Rattle.std.proofs.Common.{◌≡◌, reverse, ◌∙◌, append-nil}
use Rattle.quic_machine.specs.Tracking.{acked_by}
use Rattle.quic_connection_parts.proofs.Flights.{named_fly, named_leave}
use Rattle.quic_connection_core.proofs.connection.Connection.take_named.Goals as goal

pub leave_all-requires : goal.leave_all-requires
leave_all-requires g c =
    let a = c.args.frame.now in
    let path = c.self.inside.path in
    let named : reverse c.take_named.new.acked.items ≡ acked_by a c.self.inside.space.tracking.packets = rw c.take_spare-acked.ensures at c.in_default.ensures.acked ∙ append-nil _ in
    rw c.deref.ensures.value (named_fly path.generation c.self.inside.space.numbers.next a c.self.inside.space.tracking.packets c.take_named.new.acked.items path.in_flight c.self.invariant.3 named)

pub invariant_of-self-2 : goal.invariant_of-self-2
invariant_of-self-2 g c =
    let a = c.args.frame.now in
    let path = c.self.inside.path in
    let named : reverse c.take_named.new.acked.items ≡ acked_by a c.self.inside.space.tracking.packets = rw c.take_spare-acked.ensures at c.in_default.ensures.acked ∙ append-nil _ in
    let i = c.self.invariant in
    rw (c.leave_all.ensures, c.in_default.ensures.left, c.deref.ensures.value) (i.0, i.1, i.2, named_leave path.generation c.self.inside.space.numbers.next a c.self.inside.space.tracking.packets c.take_named.new.acked.items path.in_flight i.3 named, i.4, i.5, i.6)
