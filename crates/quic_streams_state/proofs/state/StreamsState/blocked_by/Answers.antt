use Rattle.std.proofs.Common.{◌≡◌, Option, None, IsSome, subst}
use Rattle.quic_streams_state.specs.declared.blocked.BlockedBy.{BlockedBy}
use Rattle.quic_streams_state.proofs.Limiting.{blocked, not_blocked}
use Rattle.quic_streams_state.proofs.state.StreamsState.blocked_by.Goals as goal

pub returns-clause-some : goal.returns-clause-some
returns-clause-some c = λ len i. blocked c.args.is_open c.args.self.now c.args.id len (subst (λ (o : Option BlockedBy). IsSome o) c.limit_on.ensures i)

pub returns-clause-none : goal.returns-clause-none
returns-clause-none c = λ len n. not_blocked c.args.is_open c.args.self.now c.args.id len (subst (λ (o : Option BlockedBy). o ≡ None) c.limit_on.ensures n)
