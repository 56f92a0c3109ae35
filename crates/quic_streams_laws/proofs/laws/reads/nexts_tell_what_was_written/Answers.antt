use Rattle.quic_streams_laws.specs.ContentLaws.{next_is, tells_next, tells_grows, may_begun, may_next}
use Rattle.quic_streams_laws.proofs.laws.reads.nexts_tell_what_was_written.Goals as goal

pub returns-clause-answer : goal.returns-clause-answer
returns-clause-answer c = λ wrote read told s id most goes right i. next_is wrote read told s id most goes right i

pub returns-clause-told : goal.returns-clause-told
returns-clause-told c = λ wrote read told s id most answer e goes right i. tells_next wrote read told s id most answer e goes right i

pub returns-clause-begun : goal.returns-clause-begun
returns-clause-begun c = λ s id ordered x e. may_begun s id ordered x e

pub returns-clause-goes_on : goal.returns-clause-goes_on
returns-clause-goes_on c = λ told s id most answer goes. may_next told s id most answer goes

pub returns-clause-grown : goal.returns-clause-grown
returns-clause-grown c = tells_grows
