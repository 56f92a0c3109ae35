use Rattle.std.proofs.Common.{subst}
use Rattle.quic_wire.specs.Value.{AckValue}
use Rattle.quic_wire.specs.AckGrammar.{AckFits}
use Rattle.quic_wire.proofs.AckRead.{read_fits}
use Rattle.quic_wire.proofs.frame.ack.Ack.largest.Goals as goal

pub returns-clause-fits : goal.returns-clause-fits
returns-clause-fits c = subst (λ (a : AckValue). AckFits a) c.self.view_is (read_fits c.self.inside c.self.invariant)
