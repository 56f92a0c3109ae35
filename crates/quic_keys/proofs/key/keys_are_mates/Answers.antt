use Rattle.quic_keys.proofs.Mates.{keys_mate}
use Rattle.quic_keys.proofs.key.keys_are_mates.Goals as goal

pub returns : goal.returns
returns c = keys_mate
