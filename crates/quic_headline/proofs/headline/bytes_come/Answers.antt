use Rattle.quic_headline.proofs.Alone.Bytes.{bytes_come}
use Rattle.quic_headline.proofs.headline.bytes_come.Goals as goal

pub returns : goal.returns
returns c = bytes_come
