use Rattle.quic_streams_laws.specs.ContentLaws.{read_stream, read_reset, stream_of_grows, reset_of_grows}
use Rattle.quic_streams_laws.proofs.laws.reads.frames_bring_what_was_written.Goals as goal

pub returns-clause-stream : goal.returns-clause-stream
returns-clause-stream c = λ wrote read s p f says i. read_stream wrote read s p f says i

pub returns-clause-reset_stream : goal.returns-clause-reset_stream
returns-clause-reset_stream c = λ wrote read s p f says i. read_reset wrote read s p f says i

pub returns-clause-stream_stays : goal.returns-clause-stream_stays
returns-clause-stream_stays c = stream_of_grows

pub returns-clause-reset_stays : goal.returns-clause-reset_stays
returns-clause-reset_stays c = reset_of_grows
