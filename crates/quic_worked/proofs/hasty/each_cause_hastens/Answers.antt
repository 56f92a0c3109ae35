use Rattle.quic_worked.proofs.HastyRun.{marked_is_run, marked_due, marked_goes, before_gap, gap_hastens, gap_answered, before_late, late_hastens, late_answered}
use Rattle.quic_worked.proofs.hasty.each_cause_hastens.Goals as goal

pub returns : goal.returns
returns c = record { gap_before = before_gap; gap = gap_hastens; gap_answered = gap_answered; marked = marked_is_run; mark = marked_due; mark_answered = marked_goes; late_before = before_late; late = late_hastens; late_answered = late_answered }
