use Rattle.std.proofs.Common.{◌≡◌, true, rules, arith}
use Rattle.std.specs.Option.{is_some}
use Rattle.quic_streams_parts.specs.Table.{at}
use Rattle.quic_streams_state.proofs.Buffers.{live_accepted}
use Rattle.quic_streams_state.proofs.state.StreamsState.take_all.Goals as goal

pub returns-then-is_some-clause-ok : goal.returns-then-is_some-clause-ok
returns-then-is_some-clause-ok c =
    let there : is_some (at c.args.self.now.sending.halves.live c.args.id) ≡ true = search rules in
    live_accepted c.write_all.result c.args.self.now c.write_all.new.self c.args.id c.args.len c.args.chunks.now there (omega arith) c.write_all.ensures.ok
