use Rattle.quic_worked.proofs.AskingRuns.{asked_is_honest, asked_is_run, wanted_first, wanted_no_more, wanted_never, said_first, asked_says, asked_goes, asked_waited}
use Rattle.quic_worked.proofs.asking.request_goes_once.Goals as goal

pub returns : goal.returns
returns c = record { honest = asked_is_honest; run = asked_is_run; first = wanted_first; then = wanted_no_more; later = wanted_never; said = said_first; say = asked_says; goes = asked_goes; waited = asked_waited }
