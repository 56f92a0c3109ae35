use Rattle.std.proofs.Common.{◌≡◌, ◌≢◌, Ok, Err, Some, None, sym, subst}
use Rattle.std.proofs.lemmas.Result.{IfOk-weaker, IfErr-weaker, err_from_is_err_and}
use Rattle.quic_machine.specs.declared.answers.ConfigError.TheVariants.{Memory}
use Rattle.quic_peer_core.specs.Peer.{Held, IsNew, refusal}
use Rattle.quic_peer_core.proofs.Making.{is_new, is_lawful, is_refused}
use Rattle.quic_peer_core.proofs.end.make_end.Goals as goal

pub returns-clause-made : goal.returns-clause-made
returns-clause-made c =
    let n = c.in_ok-end.ensures in
    let is : IsNew c.args.options.now c.args.new.now c.in_ok-end.end = is_new c.args.options.now c.args.new.now c.config.result _ _ _ (Ok c.in_ok-end.end) c.config.ensures c.deref.ensures c.keys.ensures c.of.ensures n.made n.control n.keys n.random n.heard in
    IfOk-weaker c.boxed.result (λ b. b.value ≡ c.in_ok-end.end) (λ b. IsNew c.args.options.now c.args.new.now b.value)
    (λ b same. subst (λ (held : Held). IsNew c.args.options.now c.args.new.now held) (sym same) is) c.boxed.ensures.boxed

pub returns-clause-lawful : goal.returns-clause-lawful
returns-clause-lawful c =
    let none : refusal c.args.options.now c.args.new.now ≡ None = is_lawful c.args.options.now c.args.new.now c.config.result _ _ (Ok c.in_ok-end.end) c.config.ensures c.deref.ensures c.keys.ensures c.in_ok-end.ensures.lawful in
    IfOk-weaker c.boxed.result (λ b. b.value ≡ c.in_ok-end.end) (λ _. refusal c.args.options.now c.args.new.now ≡ None) (λ _ _. none) c.boxed.ensures.boxed

pub returns-clause-refusal : goal.returns-clause-refusal
returns-clause-refusal c =
    IfErr-weaker c.boxed.result (λ e. e ≡ Memory) (λ e. e ≢ Memory → refusal c.args.options.now c.args.new.now ≡ Some e)
    (λ e is stands. absurd (stands is)) c.boxed.ensures.memory

pub returns-in_err-end-clause-refusal : goal.returns-in_err-end-clause-refusal
returns-in_err-end-clause-refusal c =
    let p = err_from_is_err_and c.from_residual.result c.from_residual.ensures.1 in
    rw (p.1, p.2) (is_refused c.args.options.now c.args.new.now c.config.result _ _ (Err _) c.config.ensures c.deref.ensures c.keys.ensures c.in_err-end.ensures.refusal)
