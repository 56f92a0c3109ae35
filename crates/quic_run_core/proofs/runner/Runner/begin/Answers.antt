use Rattle.std.proofs.Common.{◌≡◌, not, false, ap, ◌∙◌}
use Rattle.std.specs.Prelude.{Option, Some, None}
use Rattle.std.specs.Option.{is_some}
use Rattle.std.specs.Option.{option_map}
use Rattle.std.proofs.lemmas.Result.{err_from_is_err_and}
use Rattle.quic_run_core.proofs.Making.{begun, without_ends, short_too}
use Rattle.quic_run_core.proofs.runner.Runner.begin.Goals as goal

-- none is none where it is read
none_mapped : {A B : Type 0} (f : A → B) (o : Option A) → is_some o ≡ false → is_some (option_map f o) ≡ false
none_mapped f (Some x) none = none
none_mapped f None none = none

pub returns-in_ok-boxed-clause-stage : goal.returns-in_ok-boxed-clause-stage
returns-in_ok-boxed-clause-stage c =
    let s = c.in_ok-session.ensures in
    let before = c.args.self.now in
    rw c.in_ok-boxed.ensures (begun (option_map (λ b. b.value) before.session) before.client before.server before.client_hears before.server_hears c.in_ok-session.session (none_mapped (λ b. b.value) before.session (c.is_none.ensures ∙ ap not c.if-is_none.true)) s.world s.client_options s.server_options)

pub returns-in_ok-boxed-clause-lasts : goal.returns-in_ok-boxed-clause-lasts
returns-in_ok-boxed-clause-lasts c =
    let before = c.args.self.now in
    without_ends (option_map (λ b. b.value) before.session) before.client before.server (none_mapped (λ b. b.value) before.session (c.is_none.ensures ∙ ap not c.if-is_none.true)) ∙ c.in_ok-session.ensures.lasts

pub returns-in_err-session-clause-refusal : goal.returns-in_err-session-clause-refusal
returns-in_err-session-clause-refusal c =
    let before = c.args.self.now in
    let p = err_from_is_err_and c.from_residual.result c.from_residual.ensures.1 in
    let none = without_ends (option_map (λ b. b.value) before.session) before.client before.server (none_mapped (λ b. b.value) before.session (c.is_none.ensures ∙ ap not c.if-is_none.true)) in
    rw (p.1, p.2) (short_too _ _ _ (λ short. none ∙ short) c.in_err-session.ensures.refusal)
