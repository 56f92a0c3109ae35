use Rattle.std.proofs.Common.{refl}
use Rattle.rand_core.proofs.StepsLemmas.{meets_next_u32}
use Rattle.quic_keys.specs.Words.{word_steps}
use Rattle.quic_keys.proofs.words.WordsRng.next_u32.Goals as goal

pub returns-in-Constant : goal.returns-in-Constant
returns-in-Constant c = rw c.in-Constant.is (meets_next_u32 word_steps c.in-Constant.word _ _ refl)
