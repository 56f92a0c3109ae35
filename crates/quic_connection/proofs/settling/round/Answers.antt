use Rattle.std.proofs.Common.{true, false}
use Rattle.quic_connection.proofs.Talking.{talks_on, leads_on, on_err, cut_off_behind}
use Rattle.quic_connection.specs.GoingOn.{go_then, are_on}
use Rattle.quic_connection.proofs.settling.round.Goals as goal

pub returns-in_err-server-clause-cut : goal.returns-in_err-server-clause-cut
returns-in_err-server-clause-cut g c =
    let client = rw c.in-Some.is at c.in_ok-client.ensures.talks in
    on_err c.from_residual-in_err-server.result (λ k are. cut_off_behind _ _ _ _ _ _ _ _ _ _ (client false k are) (c.in_err-server.ensures.cut _ k (are_on _ _ _ _ _ k _ _ are c.poll_all.ensures.goes_on)))

pub returns-in_err-server-clause-goes_on : goal.returns-in_err-server-clause-goes_on
returns-in_err-server-clause-goes_on g c = go_then _ _ _ _ c.poll_all.ensures.goes_on c.poll_all-2.ensures.goes_on

pub returns-in_default-2-clause-stops : goal.returns-in_default-2-clause-stops
returns-in_default-2-clause-stops g c = λ k are.
    let client = rw c.in-Some.is at c.in_ok-client.ensures.talks in
    let server = rw c.in_default-2.is at c.in_ok-server.ensures.stops in
    leads_on _ _ _ _ _ _ _ _ _ _ _ _ (client false k are) (server _ k (are_on _ _ _ _ _ k _ _ are c.poll_all.ensures.goes_on))

pub returns-in_default-2-clause-goes_on : goal.returns-in_default-2-clause-goes_on
returns-in_default-2-clause-goes_on g c = go_then _ _ _ _ c.poll_all.ensures.goes_on c.poll_all-2.ensures.goes_on

pub returns-then-client-clause-talks : goal.returns-then-client-clause-talks
returns-then-client-clause-talks g c = λ k are.
    let client = rw c.if-client.true at (rw c.in-Some.is at c.in_ok-client.ensures.talks) in
    let server = rw c.in-Some-2.is at c.in_ok-server.ensures.talks in
    rw c.if-client.true (talks_on _ _ _ _ _ _ _ _ _ _ _ _ _ (client false k are) (server true k (are_on _ _ _ _ _ k _ _ are c.poll_all.ensures.goes_on)))

pub returns-then-client-clause-goes_on : goal.returns-then-client-clause-goes_on
returns-then-client-clause-goes_on g c = go_then _ _ _ _ c.poll_all.ensures.goes_on c.poll_all-2.ensures.goes_on

pub returns-else-client-clause-talks : goal.returns-else-client-clause-talks
returns-else-client-clause-talks g c = λ k are.
    let client = rw c.if-client.false at (rw c.in-Some.is at c.in_ok-client.ensures.talks) in
    let server = rw c.in-Some-2.is at c.in_ok-server.ensures.talks in
    talks_on _ _ _ _ _ _ _ _ _ _ _ _ _ (client false k are) (server false k (are_on _ _ _ _ _ k _ _ are c.poll_all.ensures.goes_on))

pub returns-else-client-clause-goes_on : goal.returns-else-client-clause-goes_on
returns-else-client-clause-goes_on g c = go_then _ _ _ _ c.poll_all.ensures.goes_on c.poll_all-2.ensures.goes_on
