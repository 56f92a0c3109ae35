use Rattle.quic_worked.proofs.CodedRuns.{stops_not, halts_is_honest, never_stops}
use Rattle.quic_worked.proofs.coded.stop_without_code_shows.Goals as goal

pub returns : goal.returns
returns c = record { stops = stops_not; premises = halts_is_honest; machine = never_stops }
