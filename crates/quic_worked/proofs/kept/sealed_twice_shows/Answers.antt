use Rattle.quic_worked.proofs.KeptEnds.{in_turn_seals, under_one_not, falling_not, third_not}
use Rattle.quic_worked.proofs.kept.sealed_twice_shows.Goals as goal

pub returns : goal.returns
returns c = record { in_turn = in_turn_seals; under_one = under_one_not; falling = falling_not; third = third_not }
