use Rattle.std.proofs.Common.{refl}
use Rattle.quic_worked.proofs.PairedMachines.{tells_rightly, tells_code, tells_stream, no_code, no_stream}
use Rattle.quic_worked.proofs.paired.resets_are_told_rightly.Goals as goal

pub returns : goal.returns
returns c = record { told = λ read. record { event = refl; answer = refl }; right = tells_rightly; code = tells_code; stream = tells_stream; code_machine = no_code; stream_machine = no_stream }
