use Rattle.std.proofs.Common.{ap, ◌∙◌}
use Rattle.quic_machine.specs.Control.{flying, bytes_in_flight}
use Rattle.quic_connection_parts.proofs.Flights.{bytes_by_size}
use Rattle.quic_connection_core.proofs.connection.Connection.bytes_in_flight.Goals as goal

pub returns : goal.returns
returns g c =
    let i = c.self.inside in
    let seen = ap (λ f. f.bytes) c.self.invariant.3.sums ∙ bytes_by_size (flying i.path.generation i.space.tracking.packets) ∙ ap (λ w. bytes_in_flight w.end) c.self.view_is in
    c.bytes.ensures ∙ ap (λ x. x.path.in_flight.bytes) c.self-inside.view_is ∙ seen
