use Rattle.std.proofs.Common.{rules, ◌≡◌, ◌≢◌, ap}
use Rattle.quic_machine.specs.declared.answers.Received.TheVariants as received_as
use Rattle.quic_c_core.specs.Conn.{received_end}
use Rattle.quic_c_core.proofs.endpoint.EndpointCalls.receive.Goals as goal

pub returns-clause-end : goal.returns-clause-end
returns-clause-end c =
    let left : c.receive.result ≢ received_as.Failed → c.receive.new.self.end ≡ received_end c.args.self.now.conn c.from_nanos-now.result c.args.address c.in_ok-ecn.ecn c.args.datagram.now =
    λ stands. ap (λ w. w.end) (c.receive.ensures.end stands) in
    search (rules, left)
