use Rattle.quic_streams_laws.specs.ContentLaws.{read_new, read_set_params, read_grows}
use Rattle.quic_streams_laws.proofs.laws.reads.nothing_is_read.Goals as goal

pub returns-clause-new : goal.returns-clause-new
returns-clause-new c = λ wrote side uni bi send_window window stream_window. read_new wrote side uni bi send_window window stream_window

pub returns-clause-limits : goal.returns-clause-limits
returns-clause-limits c = λ wrote read s p i. read_set_params wrote read s p i

pub returns-clause-more : goal.returns-clause-more
returns-clause-more c = λ wrote more read s g i. read_grows wrote more read s g i
