use Rattle.quic_time.proofs.TimerLaws.{same_table}
use Rattle.quic_time.proofs.laws.clocks.tables_are_their_moments.Goals as goal

pub returns : goal.returns
returns c = same_table
