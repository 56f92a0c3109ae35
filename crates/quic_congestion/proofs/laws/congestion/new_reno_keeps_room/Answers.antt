use Rattle.quic_congestion.proofs.Histories.{reno_room}
use Rattle.quic_congestion.proofs.laws.congestion.new_reno_keeps_room.Goals as goal

pub returns : goal.returns
returns c = λ s now size calls. reno_room s now size calls
