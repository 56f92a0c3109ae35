-- No run of the machine leads to ends whose timers don't follow what they wait for.
use Rattle.std.proofs.Common.{List}
use Rattle.quic_machine.specs.declared.run.RunEvent.{RunEvent}
use Rattle.quic_machine.specs.declared.run.Answer.{Answer}
use Rattle.quic_headline.specs.Headline.{AckTimersFollow}
use Rattle.quic_headline.proofs.Timers.Starts.{loss_timers_run}
use Rattle.quic_headline.proofs.Timers.AckTimers.{ack_timers_follow}
use Rattle.quic_worked.specs.Worked.{started, worked_policies}
use Rattle.quic_worked.specs.Broken.{NeverLeads, never_timed, still_timed}
use Rattle.quic_worked.specs.Machines.{late_timed}
use Rattle.quic_worked.specs.Measured.{cleared}
use Rattle.quic_worked.proofs.BrokenClauses.{never_sets, never_stops}
use Rattle.quic_worked.proofs.WrongRuns.{late_follows}
use Rattle.quic_worked.proofs.MeasuredRun.{cleared_follows}
use Rattle.quic_worked.proofs.WorkedHonest.{are_started}

-- the ends were made for one another, so the timer follows wherever a run leads
pub never_untimed : (events : List RunEvent) (told : List Answer) → NeverLeads events told never_timed
never_untimed events told views f = never_sets (loss_timers_run worked_policies started never_timed events told views are_started f)

-- no timer is set at the first ends, so the timer of acknowledgements follows wherever a run leads
pub never_needless : (events : List RunEvent) (told : List Answer) → NeverLeads events told still_timed
never_needless events told views f =
    let none : AckTimersFollow started = (λ opened set. cc, λ opened set. cc) in
    never_stops (ack_timers_follow worked_policies started still_timed events told views f none)

-- so it is where all was acknowledged, and where two are waited for
pub never_late : (events : List RunEvent) (told : List Answer) → NeverLeads events told late_timed
never_late events told views f = late_follows (loss_timers_run worked_policies started late_timed events told views are_started f)

pub cleared_leads : (events : List RunEvent) (told : List Answer) → NeverLeads events told cleared
cleared_leads events told views f = cleared_follows (loss_timers_run worked_policies started cleared events told views are_started f)
