use Rattle.quic_time.proofs.RttLaws.{all_taken}
use Rattle.quic_time.proofs.laws.clocks.estimates_are_over_all_samples.Goals as goal

pub returns : goal.returns
returns c = all_taken
