use Rattle.std.proofs.Common.{◌≡◌, ℕ, List, sym, ap, ◌∙◌}
use Rattle.std.specs.Ordering.{nat_cmp}
use Rattle.std.specs.BTreeSet.{insert_key}
use Rattle.std.proofs.lemmas.Bool.{not-true}
use Rattle.quic_ids.specs.CidState.{without}
use Rattle.quic_ids.proofs.OwnIdSteps.{taken_back, failed}
use Rattle.quic_ids.proofs.cid_state.+insert_all.Goals as goal

pub returns-then-is_new-clause-err : goal.returns-then-is_new-clause-err
returns-then-is_new-clause-err t c =
    let n = c.first-item.result.sequence in
    let old = c.args.living.now.keys in
    let put : c.insert.new.self.keys ≡ insert_key nat_cmp old n = c.in_ok-is_new.ensures.keys in
    let kept : c.insert_all.new.living.keys ≡ c.insert.new.self.keys = failed _ c.insert_all.result (sym c.is_ok.ensures.value ∙ c.if-is_ok.false) c.insert_all.ensures.err in
    c.remove.ensures.keys ∙ ap (λ (ks : List ℕ). without n ks) (kept ∙ put) ∙ taken_back n old (not-true _ (sym c.in_ok-is_new.ensures.added ∙ c.if-is_new.true))
