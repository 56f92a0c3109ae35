use Rattle.std.proofs.Common.{true}
use Rattle.quic_machine.specs.Heard.{heard_moved}
use Rattle.quic_connection_core.proofs.Migrating.{moves_end, moves_random, fails_so}
use Rattle.quic_connection_core.proofs.connection.Connection.migrate.Goals as goal

pub returns-in-Ok-clause-end : goal.returns-in-Ok-clause-end
returns-in-Ok-clause-end g c served first number =
    let w = c.args.self.now in
    moves_end g.H.HeaderKey.protection g.K.PacketKey.aead g.K.PacketKey.seal_limit g.K.PacketKey.refusal_limit g.R.Rng.stream g.C.Controller.window_of (record { first = first; number = number; payload = c.args.payload.now }) c.args.remote (heard_moved true c.args.len w.heard) w c.change_path.new.self c.in-Ok.ensures.ok
    c.draw_ids.new.self c.draw_ids.ensures.end c.draw_ids.ensures.random c.challenge_anew.new.self c.take_path_frames.new.self c.challenge_anew.ensures.end c.challenge_anew.ensures.random c.take_path_frames.ensures

pub returns-in-Ok-clause-random : goal.returns-in-Ok-clause-random
returns-in-Ok-clause-random g c served =
    let w = c.args.self.now in
    moves_random g.H.HeaderKey.protection g.K.PacketKey.aead g.K.PacketKey.seal_limit g.K.PacketKey.refusal_limit g.R.Rng.stream g.C.Controller.window_of (record { first = 0; number = 0; payload = c.args.payload.now }) c.args.remote (heard_moved true c.args.len w.heard) w c.change_path.new.self c.in-Ok.ensures.ok
    c.draw_ids.new.self c.draw_ids.ensures.end c.draw_ids.ensures.random c.challenge_anew.new.self c.take_path_frames.new.self c.challenge_anew.ensures.end c.challenge_anew.ensures.random c.take_path_frames.ensures

pub returns-in-Err-clause-failed : goal.returns-in-Err-clause-failed
returns-in-Err-clause-failed g c failed = fails_so c.args.self.now c.change_path.new.self c.fail.new.self c.in-Err.ensures.err c.fail.ensures.failed
