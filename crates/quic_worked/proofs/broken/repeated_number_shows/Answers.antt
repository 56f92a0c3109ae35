use Rattle.quic_worked.proofs.BrokenClauses.{repeated_numbers}
use Rattle.quic_worked.proofs.broken.repeated_number_shows.Goals as goal

pub returns : goal.returns
returns c = record { numbers = repeated_numbers }
