use Rattle.std.proofs.Common.{ℕ, List, ap, ◌∙◌, arith}
use Rattle.quic_recovery_core.specs.Duplicates.{with_number}
use Rattle.quic_recovery_core.proofs.DuplicateSteps.{above, within, is_new, under}
use Rattle.quic_recovery_core.proofs.spaces.dedup.Dedup.keep.Goals as goal

pub returns-then-number-self : goal.returns-then-number-self
returns-then-number-self c =
    above c.self.inside.next c.self.inside.window c.moved-self-inside.result c.args.number c.if-number-self.true c.moved-self-inside.ensures.near c.moved-self-inside.ensures.far c.moved-self-inside.ensures.greatest
    ∙ ap (λ (s : List ℕ). with_number s c.args.number) c.self.view_is

pub returns-else-number-self : goal.returns-else-number-self
returns-else-number-self c =
    let new = is_new c.self.inside.next c.self.inside.window c.args.number c.args.self.now c.self.view_is c.requires.new in
    within c.self.inside.next c.self.inside.window c.with_bit-self-inside.result c.args.number (under c.self.inside.next c.self.inside.window c.args.number new (omega arith)) new.near new.out
    c.with_bit-self-inside.ensures.same c.with_bit-self-inside.ensures.other
    ∙ ap (λ (s : List ℕ). with_number s c.args.number) c.self.view_is
