use Rattle.quic_streams_laws.specs.WrittenLaws.{holds_new, holds_set_params}
use Rattle.quic_streams_laws.proofs.laws.sends.nothing_is_written.Goals as goal

pub returns-clause-new : goal.returns-clause-new
returns-clause-new c = holds_new

pub returns-clause-limits : goal.returns-clause-limits
returns-clause-limits c = holds_set_params
