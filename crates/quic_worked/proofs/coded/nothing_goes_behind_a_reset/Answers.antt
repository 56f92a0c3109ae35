use Rattle.quic_worked.proofs.CodedRuns.{behind_so}
use Rattle.quic_worked.proofs.coded.nothing_goes_behind_a_reset.Goals as goal

pub returns : goal.returns
returns c = behind_so
