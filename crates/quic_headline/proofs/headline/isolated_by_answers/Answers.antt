use Rattle.quic_headline.proofs.Isolated.Erasing.{isolated_by_answers}
use Rattle.quic_headline.proofs.headline.isolated_by_answers.Goals as goal

pub returns : goal.returns
returns c = isolated_by_answers
