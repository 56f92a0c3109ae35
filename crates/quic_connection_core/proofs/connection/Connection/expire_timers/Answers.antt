use Rattle.std.proofs.Common.{◌≡◌, true, false, refl, sym, ap, ◌∙◌}
use Rattle.std.specs.Prelude.{if◌then◌else◌}
use Rattle.quic_time.specs.Timers.{has_come}
use Rattle.quic_machine.specs.declared.answers.LostReason.TheVariants as reasons
use Rattle.quic_machine.specs.End.{with_end, with_loss_timer, drained_by}
use Rattle.quic_machine.specs.Timeouts.{told_expired}
use Rattle.quic_connection_core.proofs.Expiries.{pacing_step, acks_step, idle_is, idles, idles_draw, busy, draws}
use Rattle.quic_connection_core.proofs.connection.Connection.expire_timers.Goals as goal

-- ---- the idle timeout is over

pub returns-then-expire_idle_timer-clause-ok : goal.returns-then-expire_idle_timer-clause-ok
returns-then-expire_idle_timer-clause-ok g c =
    let w = c.args.self.now in
    let first = c.expire_loss_timer.new.self in
    let came = has_come w.end.timers.loss_detection w.end.closing.clock in
    let left = c.in_ok-expire_loss_timer.ensures.ok in
    let over : has_come first.end.timers.idle first.end.closing.clock ≡ true = sym c.expire_idle_timer.ensures.expired ∙ c.if-expire_idle_timer.true in
    let drains = c.expire_idle_timer.ensures.end ∙ ap (λ b. with_end first (if b then drained_by reasons.Idle first.end else first.end)) over in
    idles g.C.Controller.steps g.R.Rng.stream w first (told_expired came w.end) came left refl (sym (idle_is g.C.Controller.steps g.R.Rng.stream w first (told_expired came w.end) came left) ∙ over) c.expire_idle_timer.new.self drains

pub returns-then-expire_idle_timer-clause-random : goal.returns-then-expire_idle_timer-clause-random
returns-then-expire_idle_timer-clause-random g c =
    let w = c.args.self.now in
    let first = c.expire_loss_timer.new.self in
    let came = has_come w.end.timers.loss_detection w.end.closing.clock in
    let left = c.in_ok-expire_loss_timer.ensures.ok in
    let over : has_come first.end.timers.idle first.end.closing.clock ≡ true = sym c.expire_idle_timer.ensures.expired ∙ c.if-expire_idle_timer.true in
    let drains = c.expire_idle_timer.ensures.end ∙ ap (λ b. with_end first (if b then drained_by reasons.Idle first.end else first.end)) over in
    idles_draw g.C.Controller.steps g.R.Rng.stream w first (told_expired came w.end) came left c.expire_idle_timer.new.self drains

-- ---- the others may expire

pub returns-clause-ok : goal.returns-clause-ok
returns-clause-ok g c =
    let w = c.args.self.now in
    let lost = c.expire_loss_timer.new.self in
    let first = c.expire_idle_timer.new.self in
    let came = has_come w.end.timers.loss_detection w.end.closing.clock in
    let left = c.in_ok-expire_loss_timer.ensures.ok in
    let not_over : has_come lost.end.timers.idle lost.end.closing.clock ≡ false = sym c.expire_idle_timer.ensures.expired ∙ c.if-expire_idle_timer.false in
    let stays = c.expire_idle_timer.ensures.end ∙ ap (λ b. with_end lost (if b then drained_by reasons.Idle lost.end else lost.end)) not_over in
    let steps = c.set_loss_timer.ensures
    ∙ ap (λ x. with_end x (with_loss_timer x.end)) c.expire_ack_timer.ensures
    ∙ ap (λ x. with_end x (with_loss_timer (acks_step x.end))) c.expire_pacing_timer.ensures
    ∙ ap (λ x. with_end x (with_loss_timer (acks_step (pacing_step x.end)))) c.expire_keep_alive_timer.ensures in
    busy g.C.Controller.steps g.R.Rng.stream w first (told_expired came w.end) came (stays ∙ left) c.expire_path_timer.new.self c.set_loss_timer.new.self c.expire_path_timer.ensures.end steps refl
    (sym (idle_is g.C.Controller.steps g.R.Rng.stream w lost (told_expired came w.end) came left) ∙ not_over)

pub returns-clause-random : goal.returns-clause-random
returns-clause-random g c =
    let w = c.args.self.now in
    let lost = c.expire_loss_timer.new.self in
    let first = c.expire_idle_timer.new.self in
    let came = has_come w.end.timers.loss_detection w.end.closing.clock in
    let left = c.in_ok-expire_loss_timer.ensures.ok in
    let not_over : has_come lost.end.timers.idle lost.end.closing.clock ≡ false = sym c.expire_idle_timer.ensures.expired ∙ c.if-expire_idle_timer.false in
    let stays = c.expire_idle_timer.ensures.end ∙ ap (λ b. with_end lost (if b then drained_by reasons.Idle lost.end else lost.end)) not_over in
    let steps = c.set_loss_timer.ensures
    ∙ ap (λ x. with_end x (with_loss_timer x.end)) c.expire_ack_timer.ensures
    ∙ ap (λ x. with_end x (with_loss_timer (acks_step x.end))) c.expire_pacing_timer.ensures
    ∙ ap (λ x. with_end x (with_loss_timer (acks_step (pacing_step x.end)))) c.expire_keep_alive_timer.ensures in
    draws g.C.Controller.steps g.R.Rng.stream w first (told_expired came w.end) came (stays ∙ left) c.expire_path_timer.new.self c.set_loss_timer.new.self c.expire_path_timer.ensures.end steps c.expire_path_timer.ensures.random
