use Rattle.std.proofs.Common.{length, refl, ap, ◌∙◌}
use Rattle.quic_machine.specs.End.{hearing}
use Rattle.quic_machine.specs.Heard.{received_if}
use Rattle.quic_machine.specs.Migration.{is_there}
use Rattle.quic_connection_core.proofs.Taken.{counted_answer, counted_end, counted_random, counted_failed, counted_before, counted_lacks}
use Rattle.quic_connection_core.proofs.connection.Connection.receive.Goals as goal

-- the bytes of a datagram count first, and what was dropped last: nothing else of the end reads either

pub returns-clause-answer : goal.returns-clause-answer
returns-clause-answer g c served =
    let counts = c.count_received.ensures ∙ ap (λ v. hearing v (received_if (is_there c.args.remote v.end) (length c.args.datagram.now) v.heard)) c.self.view_is in
    c.take_datagram-received.ensures.answer served ∙ counted_answer g.H.HeaderKey.protection g.K.PacketKey.aead g.K.PacketKey.seal_limit g.K.PacketKey.refusal_limit g.R.Rng.stream g.C.Controller.steps g.C.Controller.window_of c.args.now c.args.remote c.args.ecn c.args.datagram.now c.args.self.now c.count_received.new.self _ refl counts

pub returns-clause-end : goal.returns-clause-end
returns-clause-end g c served =
    let counts = c.count_received.ensures ∙ ap (λ v. hearing v (received_if (is_there c.args.remote v.end) (length c.args.datagram.now) v.heard)) c.self.view_is in
    rw (c.count_drop.ensures) (counted_end g.H.HeaderKey.protection g.K.PacketKey.aead g.K.PacketKey.seal_limit g.K.PacketKey.refusal_limit g.R.Rng.stream g.C.Controller.steps g.C.Controller.window_of c.args.now c.args.remote c.args.ecn c.args.datagram.now c.args.self.now c.count_received.new.self _ refl counts c.take_datagram-received.result c.take_datagram-received.new.self (c.take_datagram-received.ensures.end served))

pub returns-clause-random : goal.returns-clause-random
returns-clause-random g c served =
    let counts = c.count_received.ensures ∙ ap (λ v. hearing v (received_if (is_there c.args.remote v.end) (length c.args.datagram.now) v.heard)) c.self.view_is in
    rw (c.count_drop.ensures) (counted_random g.H.HeaderKey.protection g.K.PacketKey.aead g.K.PacketKey.seal_limit g.K.PacketKey.refusal_limit g.R.Rng.stream g.C.Controller.steps g.C.Controller.window_of c.args.now c.args.remote c.args.ecn c.args.datagram.now c.args.self.now c.count_received.new.self _ refl counts c.take_datagram-received.new.self (c.take_datagram-received.ensures.random served))

pub returns-clause-failed : goal.returns-clause-failed
returns-clause-failed g c failed =
    let counts = c.count_received.ensures ∙ ap (λ v. hearing v (received_if (is_there c.args.remote v.end) (length c.args.datagram.now) v.heard)) c.self.view_is in
    rw (c.count_drop.ensures) (counted_failed g.H.HeaderKey.protection g.K.PacketKey.aead g.K.PacketKey.seal_limit g.K.PacketKey.refusal_limit g.R.Rng.stream g.C.Controller.steps g.C.Controller.window_of c.args.now c.args.remote c.args.ecn c.args.datagram.now c.args.self.now c.count_received.new.self _ refl counts c.take_datagram-received.new.self (c.take_datagram-received.ensures.failed failed))

pub returns-clause-before : goal.returns-clause-before
returns-clause-before g c failed =
    let counts = c.count_received.ensures ∙ ap (λ v. hearing v (received_if (is_there c.args.remote v.end) (length c.args.datagram.now) v.heard)) c.self.view_is in
    counted_before g.H.HeaderKey.protection g.K.PacketKey.aead g.K.PacketKey.seal_limit g.K.PacketKey.refusal_limit g.R.Rng.stream g.C.Controller.steps g.C.Controller.window_of c.args.now c.args.remote c.args.ecn c.args.datagram.now c.args.self.now c.count_received.new.self _ refl counts (c.take_datagram-received.ensures.before failed)

pub returns-clause-stopped : goal.returns-clause-stopped
returns-clause-stopped g c failed = rw (c.count_drop.ensures) (c.take_datagram-received.ensures.stopped failed)

pub returns-clause-lacking : goal.returns-clause-lacking
returns-clause-lacking g c failed =
    let counts = c.count_received.ensures ∙ ap (λ v. hearing v (received_if (is_there c.args.remote v.end) (length c.args.datagram.now) v.heard)) c.self.view_is in
    counted_lacks g.H.HeaderKey.protection g.K.PacketKey.aead g.K.PacketKey.seal_limit g.K.PacketKey.refusal_limit g.R.Rng.stream g.C.Controller.steps g.C.Controller.window_of c.args.now c.args.remote c.args.ecn c.args.datagram.now c.args.self.now c.count_received.new.self _ refl counts (c.take_datagram-received.ensures.lacking failed)
