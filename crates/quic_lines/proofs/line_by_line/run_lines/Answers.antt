use Rattle.std.proofs.Common.{◌≡◌, true, rules}
use Rattle.std.specs.String.{string_bytes}
use Rattle.std.proofs.lemmas.Result.{err_from_is_err_and}
use Rattle.quic_lines.specs.Reading.{left_of}
use Rattle.quic_lines.proofs.Running.{running-more, running-some, running-refused, stopped_fault}
use Rattle.quic_lines.proofs.line_by_line.run_lines.Goals as goal

pub returns-in_err-next-clause-err : goal.returns-in_err-next-clause-err
returns-in_err-next-clause-err g c =
    let p = err_from_is_err_and c.from_residual.result c.from_residual.ensures.1 in
    rw (p.1, p.2) (stopped_fault _ _ _ _ _ _ c.in_err-next.ensures.fault (running-some _ _ _ _ _ _ _ _ c.loop-number.invariant.1))

pub returns-in-Err-clause-err : goal.returns-in-Err-clause-err
returns-in-Err-clause-err g c =
    let more : c.in_ok-next.field-0 ≡ true = first_of (cc, search rules) in
    let taken = rw more at c.in_ok-next.ensures.line in
    let refused = rw c.deref.ensures.value at c.in-Err.ensures in
    rw c.at.ensures (running-refused _ g.met.T.RunsLines.refuses_long _ _ _ _ _ _ _ c.next.new.line.items (left_of g.R.Read.remaining c.next.new.self) c.in-Err.error c.loop-number.invariant.1 taken refused)

pub loop-number-preserved : goal.loop-number-preserved
loop-number-preserved g c =
    let more : c.in_ok-next.field-0 ≡ true = first_of (cc, search rules) in
    let taken = rw more at c.in_ok-next.ensures.line in
    let does = rw c.deref.ensures.value at c.in-Ok.ensures in
    let printed = rw c.as_str.ensures.value at c.in_ok-print-in-Ok.ensures.printed in
    (c.next.ensures.known, running-more _ g.met.T.RunsLines.refuses_long _ _ _ _ _ _ _ c.next.new.line.items (string_bytes c.in-Ok.answer) (g.T.RunsLines.stage_of c.run_line.new.self) (left_of g.R.Read.remaining c.next.new.self) (g.W.Write.contents c.print.new.writer) c.loop-number.invariant.1 taken does printed)

pub returns-clause-err : goal.returns-clause-err
returns-clause-err g c = running-some _ _ _ _ _ _ _ _ c.loop-number.invariant.1
