use Rattle.std.proofs.Common.{◌≡◌, subst}
use Rattle.std.specs.Prelude.{OnOk}
use Rattle.quic_machine.specs.End.{policy_of}
use Rattle.quic_machine.specs.Poll.{draft_left, after_given}
use Rattle.quic_connection_parts.specs.Drawn.{words_of}
use Rattle.quic_connection_parts.specs.Leaving.{leaving_of}
use Rattle.quic_connection_core.proofs.connection.Connection.give.Goals as goal

pub returns-clause-end : goal.returns-clause-end
returns-clause-end g c =
    subst (λ x. OnOk c.put_datagram.result (c.put_datagram.new.self.end ≡ after_given (policy_of g.H.HeaderKey.protection g.K.PacketKey.aead g.K.PacketKey.seal_limit g.K.PacketKey.refusal_limit (words_of g.R.Rng.stream) x) (draft_left (leaving_of c.args.leaving) x.end))) c.lazy.ensures c.put_datagram.ensures.end
