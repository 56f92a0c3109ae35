use Rattle.std.proofs.Common.{◌≡◌, ◌+◌, ◌≤◌, true, ap, ◌∙◌, arith}
use Rattle.quic_spaces.specs.Numbers.{expected}
use Rattle.quic_machine.specs.Control.{with_pacing}
use Rattle.quic_machine.specs.End.{with_end, hearing}
use Rattle.quic_machine.specs.Heard.{heard_moved}
use Rattle.quic_machine.specs.Migration.{with_path, path_to, pacing_moved}
use Rattle.quic_connection_parts.proofs.Flights.{path_made}
use Rattle.quic_connection_core.proofs.Migrated.{next_rests}
use Rattle.quic_connection_core.proofs.connection.Connection.change_path.Goals as goal

pub invariant_of-self : goal.invariant_of-self
invariant_of-self g c =
    let i = c.self.invariant in
    let x = c.self.inside in
    let w = c.args.self.now in
    let same = c.self.view_is ∙ c.in_ok-change_id.ensures.ok in
    let rests = next_rests w.end in
    let generation : x.path.generation ≡ w.end.path.generation = ap (λ y. y.end.path.generation) same ∙ ap (λ p. p.generation) rests.path in
    let numbers : expected x.space.numbers ≡ expected w.end.numbers = ap (λ y. expected y.end.numbers) same ∙ ap expected rests.numbers in
    let below : x.path.generation + 1 ≤ expected x.space.numbers = omega (arith, generation, numbers, c.requires) in
    rw (c.on_datagram_received.ensures, c.in_ok-path.ensures, c.generation-generation.ensures)
    (i.0, i.1, i.2, path_made x.path.generation x.space.numbers.next x.space.tracking.packets x.path.in_flight i.3, below, i.5, i.6)

pub returns-clause-ok : goal.returns-clause-ok
returns-clause-ok g c =
    rw (c.on_datagram_received.ensures, c.in_ok-path.ensures, c.generation-generation.ensures, c.clock-now.ensures, c.new-self-inside.ensures)
    (ap (λ y. with_end (hearing y (heard_moved true c.args.len y.heard)) (with_pacing (with_path y.end (path_to c.args.remote y.end)) (pacing_moved true (g.C.Controller.window_of y.control) y.end))) (c.self.view_is ∙ c.in_ok-change_id.ensures.ok))
