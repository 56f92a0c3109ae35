-- What an end makes of a moment at which timers expire (RFC 9000, sections 8.2.4, 10.1, 10.2 and
-- 13.2.1; RFC 9002, section 6.2).
use Rattle.std.specs.Prelude.{ℕ, Bool, true, false, List, [], Option, Some, None, Result, Ok, Err}
use Rattle.quic_congestion.specs.Congestion.{Told}
use Rattle.quic_recovery_core.specs.PendingAcks.{after_timeout}
use Rattle.quic_time.specs.Timers.{Timers, no_timers, has_come}
use Rattle.quic_machine.specs.declared.answers.State.{State}
use Rattle.quic_machine.specs.declared.answers.State.TheVariants as states
use Rattle.quic_machine.specs.declared.answers.Failed.{Failed}
use Rattle.quic_machine.specs.declared.answers.LostReason.TheVariants as reasons
use Rattle.quic_machine.specs.Closing.{ticked, drained}
use Rattle.quic_machine.specs.Tracking.{after_loss_timeout}
use Rattle.quic_machine.specs.End.{End, with_closing, drained_by, with_acknowledging, with_ack_timer_at, with_tracking, with_loss_timer}
use Rattle.quic_machine.specs.Idle.{keep_alive_expired}
use Rattle.quic_machine.specs.Control.{with_pacing_timer}
use Rattle.quic_machine.specs.Policy.{Policy}
use Rattle.quic_machine.specs.Validation.{path_expired}
use Rattle.quic_machine.specs.Acked.{losses_detected, told_detected}

-- the answer, and the end that is left
pub record TimedOut : Type 0 where
  pub answer : Result (Unit {0}) Failed
  pub end : End

-- the timer of acknowledgements expired or not: it is stopped then, and an acknowledgement is due
-- where packets ask for one
abbrev pub acks_expired : Bool → End → End
acks_expired true e = with_acknowledging (with_ack_timer_at e None) (after_timeout e.acknowledging)
acks_expired false e = e

-- the loss timer expired: where it was set for a packet that may be lost by time, loss is detected;
-- else probes wait (RFC 9002, section 6.2.1)
abbrev pub loss_judged : Option ℕ → End → End
loss_judged None e = with_tracking e (after_loss_timeout e.tracking)
loss_judged (Some moment) e = losses_detected e

-- the loss timer expired or not
abbrev pub loss_expired : Bool → End → End
loss_expired true e = loss_judged e.tracking.loss_time e
loss_expired false e = e

-- the timer of the pacer expired or not: it is stopped then
abbrev pub pacing_expired : Bool → End → End
pacing_expired true e = with_pacing_timer e None
pacing_expired false e = e

-- which timers expired
pub record Expiry : Type 0 where
  pub acks : Bool
  pub loss : Bool
  pub idle : Bool
  pub path : Bool
  pub keep_alive : Bool
  pub pacing : Bool

-- those that expire up to a moment
abbrev pub expiry_at : ℕ → Timers → Expiry
expiry_at now t = record {
  acks = has_come t.max_ack_delay now;
  loss = has_come t.loss_detection now;
  idle = has_come t.idle now;
  path = has_come t.path_validation now;
  keep_alive = has_come t.keep_alive now;
  pacing = has_come t.pacing now;
}

-- what those beside the loss timer and the idle one leave, where the random source answers these
-- words; the loss timer is set anew
abbrev pub after_busy : (ℕ → ℕ) → Expiry → End → End
after_busy words x e = with_loss_timer (acks_expired x.acks (pacing_expired x.pacing (keep_alive_expired x.keep_alive (path_expired words x.path e))))

-- where nothing came for the idle timeout the end is drained, and the others don't count any more
-- (RFC 9000, section 10.1)
abbrev pub unless_idle : Bool → (ℕ → ℕ) → Expiry → End → End
unless_idle true words x e = drained_by reasons.Idle e
unless_idle false words x e = after_busy words x e

-- what those beside the loss timer leave
abbrev pub after_others : (ℕ → ℕ) → Expiry → End → End
after_others words x e = unless_idle x.idle words x e

-- what all of them leave
abbrev pub after_expiry : (ℕ → ℕ) → Expiry → End → End
after_expiry words x e = after_others words x (loss_expired x.loss e)

-- the timers of an open end that expired up to its moment
abbrev pub expired : (ℕ → ℕ) → End → End
expired words e = after_expiry words (expiry_at e.closing.clock e.timers) e

-- an end that was closing for long enough is drained (section 10.2)
abbrev pub close_expired : Bool → End → End
close_expired true e = record e { closing = drained e.closing; timers = no_timers }
close_expired false e = e

-- a closing end has that timer alone, and others that aren't open have none
abbrev pub timed_out_in : State → Policy → End → ℕ → TimedOut
timed_out_in states.Open p e now = record { answer = Ok tt; end = expired p.words (with_closing e (ticked e.closing now)) }
timed_out_in states.Closing p e now = record { answer = Ok tt; end = close_expired (has_come e.timers.close (ticked e.closing now).clock) (with_closing e (ticked e.closing now)) }
timed_out_in states.Drained p e now = record { answer = Ok tt; end = e }
timed_out_in states.Failed p e now = record { answer = Err (record {}); end = e }

-- what an end makes of a moment
abbrev pub timed_out : Policy → End → ℕ → TimedOut
timed_out p e now = timed_out_in e.closing.state p e now

-- ---- what the controller is told (RFC 9002, section 7)

-- where the loss timer was set for a packet that may be lost by time, what is lost
abbrev pub told_judged : Option ℕ → End → List Told
told_judged None e = []
told_judged (Some moment) e = told_detected false e

-- the loss timer expired or not
abbrev pub told_expired : Bool → End → List Told
told_expired true e = told_judged e.tracking.loss_time e
told_expired false e = []

-- an end that isn't open has no timer
abbrev pub told_timed_out_in : State → End → ℕ → List Told
told_timed_out_in states.Open e now = told_expired (has_come e.timers.loss_detection (ticked e.closing now).clock) (with_closing e (ticked e.closing now))
told_timed_out_in state e now = []

-- of a moment
abbrev pub told_timed_out : End → ℕ → List Told
told_timed_out e now = told_timed_out_in e.closing.state e now
