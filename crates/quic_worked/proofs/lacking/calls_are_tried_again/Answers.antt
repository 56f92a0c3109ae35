use Rattle.std.proofs.Common.{refl}
use Rattle.quic_worked.proofs.LackingRuns.{lacking_is_run, write_takes, finish_takes}
use Rattle.quic_worked.proofs.lacking.calls_are_tried_again.Goals as goal

pub returns : goal.returns
returns c = record { run = lacking_is_run; lacks = refl; write = write_takes; finish = finish_takes }
