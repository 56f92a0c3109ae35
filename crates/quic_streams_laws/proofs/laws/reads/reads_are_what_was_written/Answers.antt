use Rattle.quic_streams_laws.specs.ContentLaws.{reads_are, reads_prefix}
use Rattle.quic_streams_laws.proofs.laws.reads.reads_are_what_was_written.Goals as goal

pub returns-clause-slices : goal.returns-clause-slices
returns-clause-slices c = λ wrote read s id i. (reads_are wrote read s id i).slices

pub returns-clause-once : goal.returns-clause-once
returns-clause-once c = λ wrote read s id i. (reads_are wrote read s id i).once

pub returns-clause-prefix : goal.returns-clause-prefix
returns-clause-prefix c = λ wrote read s id i o. reads_prefix wrote read s id i o

pub returns-clause-follows : goal.returns-clause-follows
returns-clause-follows c = λ wrote read s id i o. (reads_are wrote read s id i).in_order o
