use Rattle.std.proofs.Common.{refl}
use Rattle.quic_machine.specs.Machine.{Policies}
use Rattle.quic_lines.specs.Printed.{rest_text}
use Rattle.quic_run_core.proofs.Making.{on_ok_then, if_some_at}
use Rattle.quic_wire_core.specs.declared.stream_id.Side.TheVariants.{Client, Server}
use Rattle.quic_connection.proofs.Talking.{settled_more}
use Rattle.quic_run_core.specs.Scripts.{policies_for}
use Rattle.quic_run_core.proofs.Showing.{known_more}
use Rattle.quic_connection.specs.GoingOn.{are_on}
use Rattle.quic_run_core.proofs.session.Session.settle.Goals as goal

pub invariant_of-self-clause-plain : goal.invariant_of-self-clause-plain
invariant_of-self-clause-plain c = are_on _ _ _ _ _ _ _ _ c.args.self.now.plain c.settle.ensures.goes_on

pub invariant_of-self-clause-client_known : goal.invariant_of-self-clause-client_known
invariant_of-self-clause-client_known c =
    let more = settled_more _ _ _ _ _ Client (c.settle.ensures.settles (policies_for c.args.self.now.client c.args.self.now.server) c.args.self.now.plain) in
    rw more.1 (known_more Client _ more.0 _ c.args.self.now.client_known)

pub invariant_of-self-clause-server_known : goal.invariant_of-self-clause-server_known
invariant_of-self-clause-server_known c =
    let more = settled_more _ _ _ _ _ Server (c.settle.ensures.settles (policies_for c.args.self.now.client c.args.self.now.server) c.args.self.now.plain) in
    rw more.1 (known_more Server _ more.0 _ c.args.self.now.server_known)

pub returns-clause-tells : goal.returns-clause-tells
returns-clause-tells c =
    let k : Policies = policies_for c.args.self.now.client c.args.self.now.server in
    let moment = c.in_ok-moment.moment in
    let settled = c.in_ok-moment.ensures in
    on_ok_then c.put_rest.result (λ said. (
      rest_text moment,
      record { answer = moment; talk = settled.settles k c.args.self.now.plain; rest = if_some_at _ _ moment k c.args.self.now.plain settled.rest; later = settled.later; is = refl },
      said,
    )) c.put_rest.ensures
