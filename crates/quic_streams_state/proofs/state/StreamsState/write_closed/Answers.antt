use Rattle.std.proofs.Common.{◌≡◌, true, Err, length, sym, rules}
use Rattle.std.specs.Option.{is_some}
use Rattle.quic_streams_parts.specs.declared.answers.WriteError.TheVariants as write_errors
use Rattle.quic_streams_parts.specs.Table.{at}
use Rattle.quic_streams_state.proofs.Buffers.{live_answer}
use Rattle.quic_streams_state.proofs.state.StreamsState.write_closed.Goals as goal

pub returns-then-is_some-clause-answer : goal.returns-then-is_some-clause-answer
returns-then-is_some-clause-answer c = λ _.
    let there : is_some (at c.args.self.now.sending.halves.live c.args.id) ≡ true = search rules in
    live_answer c.args.self.now c.args.id (length c.args.bytes.now) (Err write_errors.ClosedStream) there (sym c.requires)
