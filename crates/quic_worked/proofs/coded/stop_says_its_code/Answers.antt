use Rattle.quic_worked.proofs.CodedRuns.{halting_is_honest, halting_is_run, halt_went, stops_so}
use Rattle.quic_worked.proofs.coded.stop_says_its_code.Goals as goal

pub returns : goal.returns
returns c = record { honest = halting_is_honest; run = halting_is_run; sent = halt_went; stops = stops_so }
