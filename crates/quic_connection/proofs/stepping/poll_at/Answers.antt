use Rattle.std.proofs.Common.{ℕ, List, ◌++◌, ap, ◌∙◌}
use Rattle.quic_machine.specs.End.{policy_of}
use Rattle.quic_machine.specs.Validation.{is_blocked}
use Rattle.quic_connection_parts.specs.Drawn.{words_of}
use Rattle.quic_connection_parts.specs.Telling.{reading}
use Rattle.quic_connection.specs.Ends.{kept}
use Rattle.quic_connection.proofs.Windows.{poll_told, poll_heard, poll_answers}
use Rattle.quic_connection.proofs.Words.{polled_goes, kept_gives}
use Rattle.quic_connection.proofs.stepping.poll_at.Goals as goal

pub returns-clause-goes_on : goal.returns-clause-goes_on
returns-clause-goes_on g c =
    let polled = c.poll_transmit-polled in
    polled_goes g.R.Rng.stream (policy_of g.H.HeaderKey.protection g.K.PacketKey.aead g.K.PacketKey.seal_limit g.K.PacketKey.refusal_limit (words_of g.R.Rng.stream) c.args.end.now) (g.C.Controller.window_of c.args.end.now.control) (is_blocked c.args.end.now.end c.args.end.now.heard) c.args.end.now polled.new.self c.args.now polled.result polled.ensures.keys polled.ensures.end polled.ensures.random polled.ensures.failed

pub returns-clause-answer : goal.returns-clause-answer
returns-clause-answer g c =
    let polled = c.poll_transmit-polled in
    poll_answers g.C.Controller.steps g.C.Controller.window_of (policy_of g.H.HeaderKey.protection g.K.PacketKey.aead g.K.PacketKey.seal_limit g.K.PacketKey.refusal_limit (words_of g.R.Rng.stream) c.args.end.now) c.args.end.now polled.new.self c.args.now polled.result polled.ensures.answer

pub returns-clause-control : goal.returns-clause-control
returns-clause-control g c =
    let polled = c.poll_transmit-polled in
    poll_told g.C.Controller.steps g.C.Controller.window_of (policy_of g.H.HeaderKey.protection g.K.PacketKey.aead g.K.PacketKey.seal_limit g.K.PacketKey.refusal_limit (words_of g.R.Rng.stream) c.args.end.now) c.args.end.now polled.new.self c.args.now polled.result polled.ensures.control

pub returns-clause-heard : goal.returns-clause-heard
returns-clause-heard g c =
    let polled = c.poll_transmit-polled in
    poll_heard g.C.Controller.steps g.C.Controller.window_of (policy_of g.H.HeaderKey.protection g.K.PacketKey.aead g.K.PacketKey.seal_limit g.K.PacketKey.refusal_limit (words_of g.R.Rng.stream) c.args.end.now) c.args.end.now polled.new.self c.args.now polled.result polled.ensures.heard

pub returns-clause-given : goal.returns-clause-given
returns-clause-given g c =
    let polled = c.poll_transmit-polled in
    let given = kept_gives (policy_of g.H.HeaderKey.protection g.K.PacketKey.aead g.K.PacketKey.seal_limit g.K.PacketKey.refusal_limit (words_of g.R.Rng.stream) c.args.end.now) (reading g.C.Controller.window_of c.args.end.now) c.args.now polled.result c.new-out.result.items polled.new.out.items c.new-out.ensures.items polled.ensures.answer polled.ensures.datagram in
    c.keep.ensures ∙ ap (λ (items : List (List ℕ)). items ++ kept polled.result polled.new.out.items) c.reserve.ensures.items ∙ ap (λ (ds : List (List ℕ)). c.args.mine.now.items ++ ds) given
