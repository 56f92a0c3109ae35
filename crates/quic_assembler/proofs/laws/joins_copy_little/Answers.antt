use Rattle.quic_assembler.proofs.Parts.Copying.{copies_little}
use Rattle.quic_assembler.proofs.laws.joins_copy_little.Goals as goal

pub returns : goal.returns
returns c = λ a h crowded. copies_little a.read a.parts h.apart crowded
