-- New ends have no timer set, and track nothing; and so the loss timer follows what is tracked
-- wherever a run from them leads.
use Rattle.std.proofs.Common.{List, refl, sym, subst, arith}
use Rattle.quic_wire_core.specs.declared.stream_id.Side.TheVariants.{Client, Server}
use Rattle.quic_machine.specs.declared.run.RunEvent.{RunEvent}
use Rattle.quic_machine.specs.declared.run.Answer.{Answer}
use Rattle.quic_machine.specs.declared.run.View.{View}
use Rattle.quic_machine.specs.Start.{AreStarted}
use Rattle.quic_machine.specs.End.{End}
use Rattle.quic_machine.specs.Machine.{World, Policies, Follows}
use Rattle.quic_headline.specs.Headline.{LossTimersFollow, AckTimerFollows, AckTimersFollow}
use Rattle.quic_headline.proofs.Places.Placed.{start_is}
use Rattle.quic_headline.proofs.Timers.BothEnds.{AtBoth}
use Rattle.quic_headline.proofs.Timers.LossTimers.{LossStands, stands_follow, losses_follow}

-- the loss timer stands, with what is tracked
losses_start : (w : World) → AreStarted w → AtBoth LossStands w
losses_start w s = (
  subst (λ (e : End). LossStands e) (sym (start_is w s Client)) (λ opened. record { stands = record { lies = omega arith; asked = λ p i asks. absurd i; late = λ there. cc }; set = refl }),
  subst (λ (e : End). LossStands e) (sym (start_is w s Server)) (λ opened. record { stands = record { lies = omega arith; asked = λ p i asks. absurd i; late = λ there. cc }; set = refl }),
)

-- so it follows
pub loss_timers_start : (w : World) → AreStarted w → LossTimersFollow w
loss_timers_start w s = let both = losses_start w s in (stands_follow w.client both.0, stands_follow w.server both.1)

-- wherever a run leads
pub loss_timers_run : (k : Policies) (w end : World) (events : List RunEvent) (told : List Answer) (views : List View) → AreStarted w → Follows k w events told views end → LossTimersFollow end
loss_timers_run k w end events told views s f = losses_follow k w end events told views f (losses_start w s)

-- the timer of acknowledgements follows what came
pub ack_timers_start : (w : World) → AreStarted w → AckTimersFollow w
ack_timers_start w s = (
  subst (λ (e : End). AckTimerFollows e) (sym (start_is w s Client)) (λ opened set. cc),
  subst (λ (e : End). AckTimerFollows e) (sym (start_is w s Server)) (λ opened set. cc),
)
