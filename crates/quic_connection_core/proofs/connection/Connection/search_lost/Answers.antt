use Rattle.std.proofs.Common.{ℕ, Bool, sym, ap, ◌∙◌}
use Rattle.quic_congestion.specs.Search.{after_packet_lost}
use Rattle.quic_machine.specs.End.{with_end, with_discovery}
use Rattle.quic_machine.specs.Sizes.{with_one_lost}
use Rattle.quic_connection_core.proofs.connection.Connection.search_lost.Goals as goal

pub returns-then-is_probe : goal.returns-then-is_probe
returns-then-is_probe g c p sized =
    let w = c.args.self.now in
    c.probe_lost.ensures ∙ ap (λ (b : Bool). with_end w (with_discovery w.end (with_one_lost b (c.args.number, p) w.end.path.discovery))) (sym c.if-is_probe.true)

pub returns : goal.returns
returns g c p sized =
    let w = c.args.self.now in
    c.other_lost.ensures
    ∙ ap (λ (n : ℕ). with_end w (with_discovery w.end (after_packet_lost c.args.number n w.end.path.discovery))) (sym sized)
    ∙ ap (λ (b : Bool). with_end w (with_discovery w.end (with_one_lost b (c.args.number, p) w.end.path.discovery))) (sym c.if-is_probe.false)
