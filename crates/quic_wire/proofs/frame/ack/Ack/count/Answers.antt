use Rattle.std.proofs.Common.{ap, sym, ◌∙◌, length, arith}
use Rattle.quic_wire.specs.Value.{AckValue}
use Rattle.quic_wire.proofs.AckRead.{read_count, read_room}
use Rattle.quic_wire.proofs.frame.ack.Ack.count.Goals as goal

pub returns-clause-value : goal.returns-clause-value
returns-clause-value c = sym (ap (λ (a : AckValue). length a.ranges) c.self.view_is) ∙ read_count c.self.inside c.self.invariant

pub returns-clause-room : goal.returns-clause-room
returns-clause-room c = λ r rs e.
    let le = read_room c.self.inside c.self.invariant r rs (ap (λ (a : AckValue). a.ranges) c.self.view_is ∙ e) in
    let told = c.self.told in
    omega (arith, le, told)
