use Rattle.std.proofs.Common.{rules}
use Rattle.quic_c_core.proofs.events.EventRecord.of_loss.Goals as goal

pub returns : goal.returns
returns c = (c.text_of.result.now, c.text_of.ensures, search rules)
