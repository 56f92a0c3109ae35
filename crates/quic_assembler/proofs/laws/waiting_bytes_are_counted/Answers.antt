use Rattle.quic_assembler.proofs.Arrived.WaitingBytes.{bytes_counted}
use Rattle.quic_assembler.proofs.laws.waiting_bytes_are_counted.Goals as goal

pub returns : goal.returns
returns c = λ a n h m. bytes_counted a.read a.parts n h.apart m
