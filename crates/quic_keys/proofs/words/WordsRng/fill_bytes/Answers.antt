use Rattle.quic_keys.proofs.Constant.{bytes_stay}
use Rattle.quic_keys.proofs.words.WordsRng.fill_bytes.Goals as goal

pub returns-in-Constant : goal.returns-in-Constant
returns-in-Constant c = rw c.in-Constant.is (bytes_stay c.in-Constant.word _ _ _ c.fill_bytes_via_u64.ensures)
