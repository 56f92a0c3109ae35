use Rattle.std.proofs.Common.{◌≡◌, ◌+◌, ◌-◌, ◌^◌, ◌≤◌, max, min, sym, ap, ◌∙◌, arith}
use Rattle.quic_recovery_core.specs.Duplicates.{next_of}
use Rattle.quic_recovery_core.specs.declared.spaces.dedup.TheConstants.{DUPLICATE_SPAN}
use Rattle.quic_recovery_core.proofs.DuplicateSteps.{next_of-seen}
use Rattle.quic_recovery_core.proofs.DuplicateSearch.{searched}
use Rattle.quic_recovery_core.proofs.spaces.dedup.Dedup.smallest_missing_in_interval.Goals as goal

pub returns : goal.returns
returns c =
    let next : next_of c.args.self.now ≡ c.self.inside.next = ap next_of (sym c.self.view_is) ∙ next_of-seen c.self.inside.next c.self.inside.window in
    let small : c.args.high ≤ 2 ^ 64 - 1 = omega arith in
    let first : c.max-first.result ≡ max (min (c.args.low + 1) (2 ^ 64 - 1)) (next_of c.args.self.now - DUPLICATE_SPAN) = omega arith in
    let end : c.min-end.result ≡ min c.args.high (next_of c.args.self.now) = omega arith in
    c.first_lacking.ensures ∙ searched c.args.self.now c.args.low c.args.high c.max-first.result c.min-end.result (2 ^ 64 - 1) small first end
