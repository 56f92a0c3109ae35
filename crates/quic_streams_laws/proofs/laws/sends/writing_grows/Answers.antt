use Rattle.quic_streams_laws.specs.GrowsLaws.{grows_more, grows_write, grows_write_chunks, grows_finish, grows_reset}
use Rattle.quic_streams_laws.proofs.laws.sends.writing_grows.Goals as goal

pub returns-clause-write : goal.returns-clause-write
returns-clause-write c = λ wrote s is_open id bytes q i. grows_write wrote s i is_open id bytes q

pub returns-clause-write_chunks : goal.returns-clause-write_chunks
returns-clause-write_chunks c = λ wrote s is_open id chunks q i. grows_write_chunks wrote s i is_open id chunks q

pub returns-clause-finish : goal.returns-clause-finish
returns-clause-finish c = λ wrote s id q i. grows_finish wrote s i id q

pub returns-clause-reset : goal.returns-clause-reset
returns-clause-reset c = λ wrote s id code q i. grows_reset wrote s i id code q

pub returns-clause-more : goal.returns-clause-more
returns-clause-more c = grows_more
