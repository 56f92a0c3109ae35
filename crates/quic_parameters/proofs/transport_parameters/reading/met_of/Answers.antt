use Rattle.std.proofs.Common.{rules, ◌≡◌, ◌<◌, length, sym, arith}
use Rattle.std.proofs.lemmas.Result.{err_from_is_err_and}
use Rattle.quic_parameters.specs.ParametersRead.{met_in, none_met}
use Rattle.quic_parameters.specs.ParametersSteps.{entry_shorter, met_next, met_refused, entry_refused, met_whole}
use Rattle.quic_parameters.proofs.transport_parameters.reading.met_of.Goals as goal

pub returns-in_err-entry : goal.returns-in_err-entry
returns-in_err-entry c =
    let some : 0 < length c.loop-rest.rest.now = search rules in
    let p = err_from_is_err_and c.from_residual.result c.from_residual.ensures.1 in
    rw (p.1, p.2) (sym (entry_refused c.loop-rest.met c.loop-rest.rest.now c.in_err-entry.field-0.0 (met_in none_met c.args.bytes.now) some c.in_err-entry.ensures c.loop-rest.invariant))

pub loop-rest-smaller : goal.loop-rest-smaller
loop-rest-smaller c =
    let some : 0 < length c.loop-rest.rest.now = search rules in
    let shorter = entry_shorter c.loop-rest.rest.now _ c.in_ok-entry.ensures in
    omega (arith, shorter)

pub loop-rest-preserved : goal.loop-rest-preserved
loop-rest-preserved c =
    let some : 0 < length c.loop-rest.rest.now = search rules in
    met_next c.loop-rest.met c.meet_entry.new.met c.loop-rest.rest.now c.entry_of.new.bytes.now c.in_ok-entry.entry.value.now c.in_ok-entry.entry.id (met_in none_met c.args.bytes.now) some c.in_ok-entry.ensures c.in_ok-meet_entry.ensures c.loop-rest.invariant

pub returns-in_err-meet_entry : goal.returns-in_err-meet_entry
returns-in_err-meet_entry c =
    let some : 0 < length c.loop-rest.rest.now = search rules in
    let p = err_from_is_err_and c.from_residual-in_err-meet_entry.result c.from_residual-in_err-meet_entry.ensures.1 in
    rw (p.1, p.2) (sym (met_refused c.loop-rest.met c.loop-rest.rest.now c.entry_of.new.bytes.now c.in_ok-entry.entry.value.now c.in_ok-entry.entry.id c.in_err-meet_entry.field-0.0 (met_in none_met c.args.bytes.now) some c.in_ok-entry.ensures c.in_err-meet_entry.ensures c.loop-rest.invariant))

pub returns : goal.returns
returns c =
    let none : length c.loop-rest.rest.now ≡ 0 = search rules in
    sym (met_whole c.loop-rest.met c.loop-rest.rest.now (met_in none_met c.args.bytes.now) none c.loop-rest.invariant)
