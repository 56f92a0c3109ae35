use Rattle.std.proofs.Common.{refl}
use Rattle.quic_connection_parts.specs.Telling.{windows_of}
use Rattle.quic_connection.specs.Ends.{world_of}
use Rattle.quic_connection.proofs.Pairs.{if_ok_then}
use Rattle.quic_connection.proofs.Words.{step_of}
use Rattle.quic_connection.proofs.stepping.step.Goals as goal

pub returns-clause-step : goal.returns-clause-step
returns-clause-step g c =
    let from = world_of (windows_of g.C.Controller.steps g.C.Controller.window_of) c.args.ends.now c.args.given.now in
    let to = world_of (windows_of g.C.Controller.steps g.C.Controller.window_of) c.make.new.ends c.make.new.given in
    if_ok_then c.make.result
    (λ a s. λ k are. step_of g.H.HeaderKey.protection g.K.PacketKey.aead g.K.PacketKey.seal_limit g.K.PacketKey.refusal_limit g.R.Rng.stream k c.args.ends.now from c.args.event.now a to refl refl s are)
    c.make.ensures.step
