use Rattle.quic_machine.specs.End.{policy_of}
use Rattle.quic_connection_parts.specs.Drawn.{words_of}
use Rattle.quic_connection.proofs.Windows.{timeout_answers, timeout_told, timeout_left, timeout_heard}
use Rattle.quic_connection.proofs.Words.{timed_goes}
use Rattle.quic_connection.proofs.stepping.timeout_at.Goals as goal

pub returns-clause-answer : goal.returns-clause-answer
returns-clause-answer g c =
    let timeout = c.handle_timeout in
    timeout_answers g.C.Controller.steps g.C.Controller.window_of (policy_of g.H.HeaderKey.protection g.K.PacketKey.aead g.K.PacketKey.seal_limit g.K.PacketKey.refusal_limit (words_of g.R.Rng.stream) c.args.end.now) c.args.end.now timeout.new.self c.args.now timeout.result timeout.ensures.answer

pub returns-clause-end : goal.returns-clause-end
returns-clause-end g c =
    let timeout = c.handle_timeout in
    timeout_left g.C.Controller.steps g.C.Controller.window_of (policy_of g.H.HeaderKey.protection g.K.PacketKey.aead g.K.PacketKey.seal_limit g.K.PacketKey.refusal_limit (words_of g.R.Rng.stream) c.args.end.now) c.args.end.now timeout.new.self c.args.now timeout.result timeout.ensures.end timeout.ensures.failed timeout.ensures.still timeout.ensures.stopped

pub returns-clause-control : goal.returns-clause-control
returns-clause-control g c =
    let timeout = c.handle_timeout in
    timeout_told g.C.Controller.steps g.C.Controller.window_of (policy_of g.H.HeaderKey.protection g.K.PacketKey.aead g.K.PacketKey.seal_limit g.K.PacketKey.refusal_limit (words_of g.R.Rng.stream) c.args.end.now) c.args.end.now timeout.new.self c.args.now timeout.result timeout.ensures.end

pub returns-clause-heard : goal.returns-clause-heard
returns-clause-heard g c =
    let timeout = c.handle_timeout in
    timeout_heard g.C.Controller.steps g.C.Controller.window_of (policy_of g.H.HeaderKey.protection g.K.PacketKey.aead g.K.PacketKey.seal_limit g.K.PacketKey.refusal_limit (words_of g.R.Rng.stream) c.args.end.now) c.args.end.now timeout.new.self c.args.now timeout.result timeout.ensures.end

pub returns-clause-draws : goal.returns-clause-draws
returns-clause-draws g c =
    let timeout = c.handle_timeout in
    timed_goes g.R.Rng.stream (policy_of g.H.HeaderKey.protection g.K.PacketKey.aead g.K.PacketKey.seal_limit g.K.PacketKey.refusal_limit (words_of g.R.Rng.stream) c.args.end.now) g.C.Controller.steps c.args.end.now timeout.new.self c.args.now timeout.result timeout.ensures.end timeout.ensures.random timeout.ensures.failed
