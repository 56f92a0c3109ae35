use Rattle.std.proofs.Common.{false, Some, None}
use Rattle.quic_worked.specs.Unvalidated.{far_view}
use Rattle.quic_worked.proofs.AnsweredRun.{ignored_wrong, with_is_honest, ignored_is_none}
use Rattle.quic_worked.proofs.unvalidated.answer_is_ignored.Goals as goal

pub returns : goal.returns
returns c = record { validates = ignored_wrong; premises = with_is_honest false (far_view None (Some 25000000)); machine = ignored_is_none }
