use Rattle.std.proofs.Common.{arith}
use Rattle.quic_wire.proofs.FrameWhole.{items_payload, payload_items}
use Rattle.quic_wire.proofs.frame.iter.Iter.new.Goals as goal

pub returns-clause-found : goal.returns-clause-found
returns-clause-found c = λ fs e. items_payload fs c.args.payload.now (λ i. omega (arith, c.type_inv.payload i)) e

pub returns-clause-only : goal.returns-clause-only
returns-clause-only c = λ fs h. payload_items fs c.args.payload.now h
