use Rattle.quic_keys.proofs.Constant.{gives_for_ever}
use Rattle.quic_keys.proofs.words.Words.word.Goals as goal

pub returns-clause-for_ever : goal.returns-clause-for_ever
returns-clause-for_ever c = gives_for_ever c.args.word
