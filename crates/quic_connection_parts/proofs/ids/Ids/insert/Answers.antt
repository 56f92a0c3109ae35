use Rattle.std.proofs.Common.{◌≡◌, ◌≤◌, ◌^◌, ap, subst, sym, ◌∙◌}
use Rattle.std.specs.Prelude.{IfOk, IfSome, Ok}
use Rattle.quic_ids.specs.CidQueue.{PeerIds, insert_answer}
use Rattle.quic_machine.specs.Ids.{retires_for}
use Rattle.quic_connection_parts.specs.Living.{HaveNumbers}
use Rattle.quic_connection_parts.proofs.Living.{insert_fits, retires_fit}
use Rattle.quic_connection_parts.proofs.ids.Ids.insert.Goals as goal
use Rattle.quic_connection_parts.proofs.ids.Ids.insert.Goals.{in-Some, in-None}

pub invariant_of-self-2 : goal.invariant_of-self-2
invariant_of-self-2 c =
    let i = c.self.invariant in
    (i.0, i.1, subst (λ (ids : PeerIds). HaveNumbers ids) (sym c.insert.ensures.new) (insert_fits c.self.inside.peer c.args.frame c.requires.number i.2), i.3)

pub returns-clause-form : goal.returns-clause-form
returns-clause-form c =
    let same : c.match-branch-2.result ≡ retires_for (insert_answer c.self.inside.peer c.args.frame) = elim c.match-branch-2.branch [
      | in-Some w ↦ w.result-is ∙ ap (λ o. retires_for (Ok o)) (sym w.in-Some.is) ∙ ap retires_for c.in_ok-retired.ensures.answer
      | in-None w ↦ w.result-is ∙ ap (λ o. retires_for (Ok o)) (sym w.in-None.is) ∙ ap retires_for c.in_ok-retired.ensures.answer
    ] in
    subst (λ r. IfOk r (λ retired. IfSome retired (λ range. range.end ≤ 2 ^ 62))) (sym same) (retires_fit c.self.inside.peer c.args.frame c.requires.number c.self.invariant.2)
