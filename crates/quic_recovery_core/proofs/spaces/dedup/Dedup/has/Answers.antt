use Rattle.std.proofs.Common.{ℕ, ◌-◌, ap, ◌∙◌, arith}
use Rattle.std.specs.Prelude.{List}
use Rattle.std.proofs.lemmas.Bool.{le-ltb}
use Rattle.quic_recovery_core.specs.Duplicates.{is_in}
use Rattle.quic_recovery_core.specs.declared.spaces.dedup.TheConstants.{DUPLICATE_SPAN}
use Rattle.quic_recovery_core.proofs.DuplicateSteps.{absent, told}
use Rattle.quic_recovery_core.proofs.spaces.dedup.Dedup.has.Goals as goal

pub returns-then-number-self : goal.returns-then-number-self
returns-then-number-self c =
    let le = c.if-number-self.true in
    absent c.self.inside.next c.self.inside.window c.args.number (λ m. let lt = m.below in omega (arith, lt, le))
    ∙ ap (λ (s : List ℕ). is_in s c.args.number) c.self.view_is

pub returns-then-below-lt-DUPLICATE_SPAN : goal.returns-then-below-lt-DUPLICATE_SPAN
returns-then-below-lt-DUPLICATE_SPAN c = c.is_set.ensures
    ∙ told c.self.inside.next c.self.inside.window c.args.number (c.self.inside.next - 1 - c.args.number - 1) (omega arith) (omega arith) (omega arith)
    ∙ ap (λ (s : List ℕ). is_in s c.args.number) c.self.view_is

pub returns-else-below-lt-DUPLICATE_SPAN : goal.returns-else-below-lt-DUPLICATE_SPAN
returns-else-below-lt-DUPLICATE_SPAN c =
    let far = c.if-below-lt-DUPLICATE_SPAN.false in
    le-ltb (c.self.inside.next - 1 - c.args.number) DUPLICATE_SPAN far
    ∙ absent c.self.inside.next c.self.inside.window c.args.number (λ m. let near = m.near in omega (arith, near, far))
    ∙ ap (λ (s : List ℕ). is_in s c.args.number) c.self.view_is
