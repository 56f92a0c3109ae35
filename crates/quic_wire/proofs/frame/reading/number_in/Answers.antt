use Rattle.std.proofs.Common.{arith, rules}
use Rattle.std.proofs.lemmas.Nat.{be_bytes_8}
use Rattle.quic_wire.proofs.frame.reading.number_in.Goals as goal

pub returns : goal.returns
returns c = be_bytes_8 c.args.text.now c.from_be_bytes.result c.requires (λ i. omega (arith, c.type_inv.text i)) (search rules)
