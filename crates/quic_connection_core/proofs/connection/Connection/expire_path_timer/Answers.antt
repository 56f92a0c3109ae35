use Rattle.std.proofs.Common.{◌≡◌, ℕ, true, false, sym, ap, ◌∙◌}
use Rattle.quic_time.specs.Timers.{has_come}
use Rattle.quic_connection_parts.proofs.Drawing.{path_waits_on, path_expires}
use Rattle.quic_connection_core.proofs.connection.Connection.expire_path_timer.Goals as goal

pub returns-then-not-is_expired-clause-end : goal.returns-then-not-is_expired-clause-end
returns-then-not-is_expired-clause-end g c =
    let w = c.args.self.now in
    let not_yet : has_come w.end.timers.path_validation w.end.closing.clock ≡ false = sym (ap (λ x. has_come x.end.timers.path_validation x.end.closing.clock) c.self.view_is) ∙ ap (λ (k : ℕ). has_come c.self.inside.timers.path_validation k) (sym c.clock.ensures) ∙ sym c.is_expired.ensures ∙ c.if-not-is_expired.true in
    path_waits_on g.R.Rng.stream w (has_come w.end.timers.path_validation w.end.closing.clock) not_yet

pub returns-clause-end : goal.returns-clause-end
returns-clause-end g c =
    let w = c.args.self.now in
    let come : has_come w.end.timers.path_validation w.end.closing.clock ≡ true = sym (ap (λ x. has_come x.end.timers.path_validation x.end.closing.clock) c.self.view_is) ∙ ap (λ (k : ℕ). has_come c.self.inside.timers.path_validation k) (sym c.clock.ensures) ∙ sym c.is_expired.ensures ∙ c.if-not-is_expired.false in
    path_expires g.R.Rng.stream w (has_come w.end.timers.path_validation w.end.closing.clock) come c.challenge_anew.new.self c.challenge_anew.ensures.end
