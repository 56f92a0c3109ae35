use Rattle.quic_wire.proofs.FrameItems as lemmas
use Rattle.quic_wire.proofs.frame_laws.items_end.Goals as goal

pub returns-clause-few : goal.returns-clause-few
returns-clause-few c = lemmas.items_few

pub returns-clause-last : goal.returns-clause-last
returns-clause-last c = lemmas.items_end
