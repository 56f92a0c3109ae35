use Rattle.std.proofs.Common.{◌≤◌, ◌^◌, sym, subst, arith}
use Rattle.quic_parameters.specs.Parameters.{ParameterValues}
use Rattle.quic_parameters.specs.declared.transport_parameters.id.TransportParameterId.TheVariants.{InitialMaxStreamsBidi, InitialMaxStreamsUni}
use Rattle.quic_streams_state.proofs.state.StreamsState.set_params.Goals as goal

pub set_max-requires-clause-bi : goal.set_max-requires-clause-bi
set_max-requires-clause-bi c =
    let P : ParameterValues → Type 0 = λ p. p.initial_max_streams_bidi ≤ 2 ^ 60 in
    let bi = subst P (sym c.params.view_is) (c.requires.each InitialMaxStreamsBidi).1 in
    omega arith

pub set_max-requires-clause-uni : goal.set_max-requires-clause-uni
set_max-requires-clause-uni c =
    let P : ParameterValues → Type 0 = λ p. p.initial_max_streams_uni ≤ 2 ^ 60 in
    let uni = subst P (sym c.params.view_is) (c.requires.each InitialMaxStreamsUni).1 in
    omega arith
