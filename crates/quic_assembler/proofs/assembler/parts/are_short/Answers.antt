use Rattle.std.proofs.Common.{◌*◌}
use Rattle.quic_assembler.specs.declared.assembler.parts.TheConstants.{SHORT_PART}
use Rattle.quic_assembler.proofs.Arrived.WaitingBytes.{short_cut}
use Rattle.quic_assembler.proofs.assembler.parts.are_short.Goals as goal

pub returns : goal.returns
returns c = rw c.saturating_mul.ensures (short_cut c.args.bytes (SHORT_PART * c.args.parts) c.ranges.bytes.fits)
