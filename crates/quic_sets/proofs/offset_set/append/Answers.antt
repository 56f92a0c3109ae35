use Rattle.std.proofs.Common.{ℕ, ap, arith}
use Rattle.quic_sets.proofs.Outcomes.{of_error}
use Rattle.quic_sets.proofs.Offsets.Last.{last_out, follows, grows}
use Rattle.quic_sets.proofs.offset_set.append.Goals as goal

pub returns-in_err-keep-clause-free : goal.returns-in_err-keep-clause-free
returns-in_err-keep-clause-free c =
    let a = c.args in
    let last = ap (λ (p : ℕ × ℕ). p.1) c.last_run-first.ensures in
    let lt = c.if-last-start.true in
    of_error c.from_residual.result (last_out a.start a.spans.now.entries c.requires.maximal.loose (omega (arith, last, lt)))

pub returns-in_err-keep-2-clause-free : goal.returns-in_err-keep-2-clause-free
returns-in_err-keep-2-clause-free c =
    let a = c.args in
    let last = ap (λ (p : ℕ × ℕ). p.1) c.last_run-first.ensures in
    let le = c.if-start-last.false in
    of_error c.from_residual-in_err-keep-2.result (last_out a.start a.spans.now.entries c.requires.maximal.loose (omega (arith, last, le)))

pub returns-in_ok-keep-clause-maximal : goal.returns-in_ok-keep-clause-maximal
returns-in_ok-keep-clause-maximal c =
    let a = c.args in
    let r = c.requires in
    let last = ap (λ (p : ℕ × ℕ). p.1) c.last_run-first.ensures in
    let lt = c.if-last-start.true in
    (follows a.start a.end a.spans.now.entries c.keep.new.spans.entries r.maximal (omega (arith, last, lt)) r.some r.small c.in_ok-keep.ensures.ok).maximal

pub returns-in_ok-keep-clause-done : goal.returns-in_ok-keep-clause-done
returns-in_ok-keep-clause-done c = λ e o.
    let a = c.args in
    let r = c.requires in
    let last = ap (λ (p : ℕ × ℕ). p.1) c.last_run-first.ensures in
    let lt = c.if-last-start.true in
    (follows a.start a.end a.spans.now.entries c.keep.new.spans.entries r.maximal (omega (arith, last, lt)) r.some r.small c.in_ok-keep.ensures.ok).has o

pub returns-in_ok-keep-2-clause-maximal : goal.returns-in_ok-keep-2-clause-maximal
returns-in_ok-keep-2-clause-maximal c =
    let a = c.args in
    let r = c.requires in
    (grows a.start a.end c.last_run-first.result.0 c.last_run-first.result.1 a.spans.now.entries c.keep-else-last-start.new.spans.entries c.remove.new.spans.entries r.maximal c.last_run-first.ensures c.if-start-last.false c.if-last-start.false r.some r.small c.in_ok-keep-2.ensures.ok c.remove.ensures).maximal

pub returns-in_ok-keep-2-clause-done : goal.returns-in_ok-keep-2-clause-done
returns-in_ok-keep-2-clause-done c = λ e o.
    let a = c.args in
    let r = c.requires in
    (grows a.start a.end c.last_run-first.result.0 c.last_run-first.result.1 a.spans.now.entries c.keep-else-last-start.new.spans.entries c.remove.new.spans.entries r.maximal c.last_run-first.ensures c.if-start-last.false c.if-last-start.false r.some r.small c.in_ok-keep-2.ensures.ok c.remove.ensures).has o
