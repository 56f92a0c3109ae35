use Rattle.std.proofs.Common.{◌≡◌, true, rules}
use Rattle.std.specs.String.{string_bytes}
use Rattle.std.proofs.lemmas.Result.{err_from_is_err_and}
use Rattle.quic_run_core.specs.LongLines.{refuses_long}
use Rattle.quic_lines.specs.Reading.{left_of}
use Rattle.quic_run_core.specs.Scripts.{script_rules, first_stage}
use Rattle.quic_run_core.specs.Stages.{stage_of}
use Rattle.quic_lines.proofs.Running.{running-some, running-refused, stopped_fault}
use Rattle.quic_run_core.proofs.Kept.{erasing_more, erasing_runs}
use Rattle.quic_run_core.proofs.erasing.erase_lines.Goals as goal

pub returns-in_err-next-clause-err : goal.returns-in_err-next-clause-err
returns-in_err-next-clause-err g c =
    let p = err_from_is_err_and c.from_residual.result c.from_residual.ensures.1 in
    rw (p.1, p.2) (stopped_fault script_rules _ first_stage _ _ _ c.in_err-next.ensures.fault (running-some script_rules first_stage _ _ _ _ _ _ (erasing_runs _ _ _ _ _ c.loop-number.invariant.1)))

pub returns-in_err-keep-in-Ok-clause-err : goal.returns-in_err-keep-in-Ok-clause-err
returns-in_err-keep-in-Ok-clause-err g c =
    let p = err_from_is_err_and c.from_residual-in_err-keep-in-Ok.result c.from_residual-in_err-keep-in-Ok.ensures.1 in
    rw (p.1, p.2) (running-some script_rules first_stage _ _ _ _ _ _ (erasing_runs _ _ _ _ _ c.loop-number.invariant.1))

pub returns-in-Err-clause-err : goal.returns-in-Err-clause-err
returns-in-Err-clause-err g c =
    let more : c.in_ok-next.field-0 ≡ true = first_of (cc, search rules) in
    let taken = rw more at c.in_ok-next.ensures.line in
    let refused = rw c.deref.ensures.value at c.in-Err.ensures in
    rw c.at.ensures (running-refused script_rules refuses_long first_stage _ _ _ _ _ _ c.next.new.line.items (left_of g.R.Read.remaining c.next.new.self) c.in-Err.error (erasing_runs _ _ _ _ _ c.loop-number.invariant.1) taken refused)

pub loop-number-preserved : goal.loop-number-preserved
loop-number-preserved g c =
    let more : c.in_ok-next.field-0 ≡ true = first_of (cc, search rules) in
    let taken = rw more at c.in_ok-next.ensures.line in
    let does = rw c.deref.ensures.value at c.in-Ok.ensures in
    let kept = rw (c.as_str.ensures.value, c.deref-in-Ok.ensures.value) at c.in_ok-keep-in-Ok.ensures in
    (c.next.ensures.known, rw kept (erasing_more _ _ _ _ _ c.next.new.line.items (string_bytes c.in-Ok.answer) (stage_of c.run_line.new.self) (left_of g.R.Read.remaining c.next.new.self) c.loop-number.invariant.1 taken does))

pub returns-clause-err : goal.returns-clause-err
returns-clause-err g c = running-some script_rules first_stage _ _ _ _ _ _ (erasing_runs _ _ _ _ _ c.loop-number.invariant.1)
