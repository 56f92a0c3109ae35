-- The moments in the array are those of the nine timers.
use Rattle.std.proofs.Common.{rules, ◌≡◌, ℕ, ◌≤◌, Option, Some, None, fold, sym, ap, ◌∙◌, subst}
use Rattle.std.specs.Option.{IfSome, IsSomeAnd}
use Rattle.quic_time.specs.Timers.{earlier, next_timer, timer_at}
use Rattle.quic_time.specs.TimerSlots.{back_again}
use Rattle.quic_time.specs.declared.timer.Timer.{Timer}
use Rattle.quic_time.proofs.TimerLaws.{next_is_set, next_is_least}
use Rattle.quic_time.proofs.timer.TimerTable.next_timeout.Goals as goal

pub returns-clause-value : goal.returns-clause-value
returns-clause-value c =
    let moments = c.self.inside.moments in
    let folded : c.fold.result ≡ fold earlier None moments = search rules in
    folded ∙ ap (fold earlier None) (sym (back_again moments c.self.invariant)) ∙ ap next_timer c.self.view_is

pub returns-clause-set : goal.returns-clause-set
returns-clause-set c =
    let t = c.args.self.now in
    subst (λ (o : Option ℕ). IfSome o (λ next. (timer : Timer) × (timer_at timer t ≡ Some next))) (sym (returns-clause-value c)) (next_is_set t)

pub returns-clause-least : goal.returns-clause-least
returns-clause-least c =
    let t = c.args.self.now in
    λ timer moment e. subst (λ (o : Option ℕ). IsSomeAnd o (λ next. next ≤ moment)) (sym (returns-clause-value c)) (next_is_least t timer moment e)
