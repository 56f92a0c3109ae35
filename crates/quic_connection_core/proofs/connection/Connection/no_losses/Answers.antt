use Rattle.std.proofs.Common.{rules, ◌≡◌, ℕ, ◌*◌, ap, ◌∙◌, arith}
use Rattle.quic_time.specs.Clocks.{saturated}
use Rattle.quic_machine.specs.Control.{persistent_period}
use Rattle.quic_connection_parts.specs.Losses.{none_lost}
use Rattle.quic_connection_core.proofs.connection.Connection.no_losses.Goals as goal

turned : (a b : ℕ) → a * b ≡ b * a
turned a b = grind arith

pub returns : goal.returns
returns g c =
    let e = c.args.self.now.end in
    let threshold : c.from.result ≡ e.transport.persistent_congestion_threshold = search rules in
    let period : c.saturating_mul-period.result ≡ persistent_period e =
    c.saturating_mul-period.ensures ∙ ap saturated (turned c.probe_timeout.result c.from.result)
    ∙ ap (λ (n : ℕ). saturated (n * c.probe_timeout.result)) threshold ∙ ap (λ (n : ℕ). saturated (e.transport.persistent_congestion_threshold * n)) c.probe_timeout.ensures in
    c.new.ensures ∙ ap (λ x. none_lost c.saturating_mul-period.result x.path.first_after_rtt) c.self-inside.view_is
    ∙ ap (λ w. none_lost c.saturating_mul-period.result w.end.path.first_after_rtt) c.self.view_is
    ∙ ap (λ (n : ℕ). none_lost n e.path.first_after_rtt) period
