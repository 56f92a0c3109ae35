use Rattle.quic_worked.proofs.CodedRuns.{resets_so}
use Rattle.quic_worked.proofs.coded.reset_says_its_code.Goals as goal

pub returns : goal.returns
returns c = resets_so
