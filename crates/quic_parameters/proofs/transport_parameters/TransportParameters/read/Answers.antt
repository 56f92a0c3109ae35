use Rattle.std.proofs.Common.{◌≡◌, Err, sym, ap, ◌∙◌, refl, arith}
use Rattle.std.proofs.lemmas.Result.{err_from_is_err_and}
use Rattle.quic_parameters.specs.ParametersRead.{judged, parameters_at}
use Rattle.quic_parameters.specs.ParametersLaw.{spelled_again}
use Rattle.quic_parameters.specs.ParametersFound.{found_if}
use Rattle.quic_parameters.proofs.transport_parameters.TransportParameters.read.Goals as goal

pub returns-in_err-met-clause-complete : goal.returns-in_err-met-clause-complete
unfolding parameters_at
returns-in_err-met-clause-complete c =
    let p = err_from_is_err_and c.from_residual.result c.from_residual.ensures.1 in
    let refused : parameters_at c.args.bytes.now ≡ Err c.in_err-met.field-0.0 = rw (← c.in_err-met.ensures) refl in
    λ q spelled range. absurd (let read = spelled_again q c.args.bytes.now spelled range in cc)

pub returns-clause-spelled : goal.returns-clause-spelled
unfolding parameters_at
returns-clause-spelled c =
    let is : parameters_at c.args.bytes.now ≡ c.judged.result = rw (← c.in_ok-met.ensures) (ap judged (sym c.of_met.ensures) ∙ sym c.judged.ensures) in
    found_if c.args.bytes.now c.judged.result (λ i. omega (arith, c.type_inv.bytes i)) is

pub returns-clause-complete : goal.returns-clause-complete
unfolding parameters_at
returns-clause-complete c =
    let is : parameters_at c.args.bytes.now ≡ c.judged.result = rw (← c.in_ok-met.ensures) (ap judged (sym c.of_met.ensures) ∙ sym c.judged.ensures) in
    λ p spelled range. sym is ∙ spelled_again p c.args.bytes.now spelled range
