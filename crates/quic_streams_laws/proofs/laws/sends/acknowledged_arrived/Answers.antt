use Rattle.std.specs.Prelude.{◌≡◌, true}
use Rattle.quic_streams_laws.specs.AcknowledgedLaws.{acked_new, acked_stream_acked, acked_holds_written, finishes_arrived, acked_events}
use Rattle.quic_streams_laws.specs.FinishedLaws.{finished_stream_acked}
use Rattle.quic_streams_laws.proofs.laws.sends.acknowledged_arrived.Goals as goal

pub returns-clause-new : goal.returns-clause-new
returns-clause-new c = λ arrived end_arrived. acked_new (λ id o. arrived id o ≡ true) (λ id. end_arrived id ≡ true)

pub returns-clause-acked : goal.returns-clause-acked
returns-clause-acked c = λ arrived end_arrived wrote s p m came i. acked_stream_acked (λ id o. arrived id o ≡ true) (λ id. end_arrived id ≡ true) wrote s i p m came

pub returns-clause-written : goal.returns-clause-written
returns-clause-written c = λ arrived end_arrived. acked_holds_written (λ id o. arrived id o ≡ true) (λ id. end_arrived id ≡ true)

pub returns-clause-finished : goal.returns-clause-finished
returns-clause-finished c = λ arrived end_arrived wrote s m came i e. finishes_arrived (λ id o. arrived id o ≡ true) (λ id. end_arrived id ≡ true) wrote s i m came e

pub returns-clause-told : goal.returns-clause-told
returns-clause-told c = λ arrived end_arrived wrote s p m came i. finished_stream_acked (λ id o. arrived id o ≡ true) (λ id. end_arrived id ≡ true) wrote s i p m came

pub returns-clause-events : goal.returns-clause-events
returns-clause-events c = acked_events
