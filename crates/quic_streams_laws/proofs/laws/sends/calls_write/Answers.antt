use Rattle.quic_streams_laws.specs.WrittenLaws.{holds_write, holds_write_chunks, holds_finish, holds_reset}
use Rattle.quic_streams_laws.proofs.laws.sends.calls_write.Goals as goal

pub returns-clause-write : goal.returns-clause-write
returns-clause-write c = λ wrote s p is_open id bytes i. holds_write wrote s i is_open p id bytes

pub returns-clause-write_chunks : goal.returns-clause-write_chunks
returns-clause-write_chunks c = λ wrote s p is_open id chunks i. holds_write_chunks wrote s i is_open p id chunks

pub returns-clause-finish : goal.returns-clause-finish
returns-clause-finish c = λ wrote s id i. holds_finish wrote s i id

pub returns-clause-reset : goal.returns-clause-reset
returns-clause-reset c = λ wrote s p id code i. holds_reset wrote s i p id code
