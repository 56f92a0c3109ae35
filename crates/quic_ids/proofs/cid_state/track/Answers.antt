use Rattle.std.proofs.Common.{◌≡◌, List, [], ◌∷◌, ◌++◌, Global, sym, ap, ◌∙◌}
use Rattle.std.specs.declared.collections.VecDeque.{VecDeque}
use Rattle.std.proofs.lemmas.Bool.{not-true, not-false, eqb-true, eqb-false}
use Rattle.quic_ids.specs.declared.cid_state.CidTimestamp.{CidTimestamp}
use Rattle.quic_ids.proofs.OwnIdSteps.{last_kept, last_replaced}
use Rattle.quic_ids.proofs.cid_state.track.Goals as goal
use Rattle.quic_ids.proofs.cid_state.track.Goals.{then-ne, else-ne}

pub returns : goal.returns
returns c =
    let old = c.args.batches.now.items in
    let front = c.pop_back.new.self.items in
    let last = c.in-Some.last in
    let split : old ≡ front ++ last ∷ [] = c.in-Some.ensures.items in
    let new = c.args.batch in
    let V : Type 0 = VecDeque CidTimestamp Global in
    let push = c.push_back_reserved-2.ensures.items in
    elim c.if-ne.branch [
      | then-ne w ↦
          (let other = eqb-false last.timestamp new.timestamp (not-true _ (sym c.ne.ensures ∙ w.if-ne.true)) in
          push ∙ ap (λ (v : V). v.items ++ new ∷ []) w.batches-is ∙ ap (λ (l : List CidTimestamp). l ++ new ∷ []) w.push_back_reserved-then-ne.ensures.items ∙ last_kept old front last new split other)
      | else-ne w ↦
          (let same = eqb-true last.timestamp new.timestamp (not-false _ (sym c.ne.ensures ∙ w.if-ne.false)) in
          push ∙ ap (λ (v : V). v.items ++ new ∷ []) w.batches-is ∙ last_replaced old front last new split same)
    ]
