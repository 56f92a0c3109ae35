use Rattle.std.specs.Prelude.{◌≡◌, true}
use Rattle.quic_streams_laws.specs.Acknowledged.{FinishedHave}
use Rattle.quic_streams_laws.specs.KeepingLaws.{by_polled}
use Rattle.quic_streams_laws.specs.FinishedLaws.{finished_kept, finished_write, finished_finish, finished_reset}
use Rattle.quic_streams_laws.proofs.laws.sends.finished_streams_arrived.Goals as goal

pub returns-clause-write : goal.returns-clause-write
returns-clause-write c = λ arrived end_arrived wrote s p is_open id bytes i. finished_write (λ id o. arrived id o ≡ true) (λ id. end_arrived id ≡ true) wrote s i is_open p id bytes

pub returns-clause-finish : goal.returns-clause-finish
returns-clause-finish c = λ arrived end_arrived wrote s id i. finished_finish (λ id o. arrived id o ≡ true) (λ id. end_arrived id ≡ true) wrote s i id

pub returns-clause-reset : goal.returns-clause-reset
returns-clause-reset c = λ arrived end_arrived wrote s p id code i. finished_reset (λ id o. arrived id o ≡ true) (λ id. end_arrived id ≡ true) wrote s i p id code

pub returns-clause-poll : goal.returns-clause-poll
returns-clause-poll c = λ arrived end_arrived wrote s i. by_polled (FinishedHave (λ id o. arrived id o ≡ true) (λ id. end_arrived id ≡ true) wrote) (finished_kept (λ id o. arrived id o ≡ true) (λ id. end_arrived id ≡ true) wrote) s i
