use Rattle.std.specs.Prelude.{Contains}
use Rattle.quic_streams_laws.specs.ContentLaws.{read_kept}
use Rattle.quic_streams_laws.specs.TakenLaws.{taken_kept}
use Rattle.quic_streams_laws.specs.AcceptedLaws.{accepted_kept}
use Rattle.quic_streams_laws.specs.QuietLaws.{is_quiet}
use Rattle.quic_streams_laws.specs.KeepingLaws.{by_accept}
use Rattle.quic_streams_laws.specs.Content.{HoldsRead}
use Rattle.quic_streams_laws.specs.Kept.{HoldsTaken}
use Rattle.quic_streams_laws.specs.Accepted.{HoldsAccepted}
use Rattle.quic_streams_laws.proofs.laws.reads.sending_leaves_what_was_read.Goals as goal

pub returns-clause-read : goal.returns-clause-read
returns-clause-read c = λ wrote read. is_quiet (HoldsRead wrote read) (read_kept wrote read)

pub returns-clause-taken : goal.returns-clause-taken
returns-clause-taken c = λ taken. is_quiet (HoldsTaken (λ f. Contains taken f)) (taken_kept (λ f. Contains taken f))

pub returns-clause-accepted : goal.returns-clause-accepted
returns-clause-accepted c = λ accepted. is_quiet (HoldsAccepted (λ id. Contains accepted id)) (accepted_kept (λ id. Contains accepted id))

pub returns-clause-accept_read : goal.returns-clause-accept_read
returns-clause-accept_read c = λ wrote read dir s i. by_accept (HoldsRead wrote read) (read_kept wrote read) dir s (λ lt. lt) i

pub returns-clause-accept_taken : goal.returns-clause-accept_taken
returns-clause-accept_taken c = λ taken dir s i. by_accept (HoldsTaken (λ f. Contains taken f)) (taken_kept (λ f. Contains taken f)) dir s (λ lt. lt) i
