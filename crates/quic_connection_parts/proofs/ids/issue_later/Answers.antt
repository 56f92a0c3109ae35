use Rattle.std.proofs.Common.{◌≡◌, ◌-◌, ◌*◌, ◌++◌, [], ◌∷◌, ℕ, List, map, refl, sym, ap, ◌∙◌, arith}
use Rattle.std.proofs.lemmas.List.{append-nil}
use Rattle.quic_wire_core.specs.declared.shared.IssuedCid.{IssuedCid}
use Rattle.quic_retransmits.specs.Retransmits.{Retransmits}
use Rattle.quic_machine.specs.Ids.{NumberedId, later_numbers, drawn_ids, drawn_id, with_number}
use Rattle.quic_connection_parts.specs.Drawn.{words_of, after_words}
use Rattle.quic_connection_parts.proofs.Issued.{next_living, next_waits, next_random}
use Rattle.quic_connection_parts.proofs.ids.issue_later.Goals as goal

-- the same, where these ids wait to be told
abbrev with_waiting : Retransmits → List IssuedCid → Retransmits
with_waiting r cids = record r { new_cids = cids }

pub loop-sequence-init : goal.loop-sequence-init
loop-sequence-init g c = record {
  some = omega arith;
  living = sym (append-nil c.args.living.now.items);
  waits = ap (λ (l : List IssuedCid). with_waiting c.args.pending.now l) (sym (append-nil c.args.pending.now.new_cids));
  random = refl;
}

pub loop-sequence-preserved : goal.loop-sequence-preserved
loop-sequence-preserved g c =
    let stream = g.R.Rng.stream in
    let l = c.loop-sequence in
    let i = l.invariant in
    let n : ℕ = l.sequence in
    let some = i.some in
    let cid = c.random_id-cid.ensures.id in
    record {
      some = omega (arith, some);
      living = next_living stream c.args.random.now l.random c.random_id-cid.new.random n i.some i.random c.args.living.now.items l.living.items c.push.new.self.items i.living
          (c.in_ok-push.ensures.items ∙ ap (λ (x : NumberedId). l.living.items ++ x ∷ []) c.issued.ensures ∙ ap (λ (x : IssuedCid). l.living.items ++ with_number x ∷ []) cid);
      waits =
          c.in_ok-push_new_cid.ensures.ok
          ∙ ap (λ (x : IssuedCid). with_waiting l.pending (l.pending.new_cids ++ x ∷ [])) cid
          ∙ ap (λ (r : Retransmits). with_waiting r (r.new_cids ++ drawn_id (words_of stream l.random) n ∷ [])) i.waits
          ∙ ap (λ (x : List IssuedCid). with_waiting c.args.pending.now x) (next_waits stream c.args.random.now l.random c.random_id-cid.new.random n i.some i.random c.args.pending.now.new_cids);
      random = next_random stream c.args.random.now l.random c.random_id-cid.new.random n i.some i.random c.random_id-cid.ensures.random;
    }

pub returns-clause-living : goal.returns-clause-living
returns-clause-living g c =
    let some = c.requires.some in
    let end : c.loop-sequence.sequence ≡ c.args.limit = omega arith in
    c.loop-sequence.invariant.living ∙ ap (λ (n : ℕ). c.args.living.now.items ++ map with_number (drawn_ids (words_of g.R.Rng.stream c.args.random.now) (later_numbers n))) end

pub returns-clause-waits : goal.returns-clause-waits
returns-clause-waits g c =
    let some = c.requires.some in
    let end : c.loop-sequence.sequence ≡ c.args.limit = omega arith in
    c.loop-sequence.invariant.waits ∙ ap (λ (n : ℕ). with_waiting c.args.pending.now (c.args.pending.now.new_cids ++ drawn_ids (words_of g.R.Rng.stream c.args.random.now) (later_numbers n))) end

pub returns-clause-random : goal.returns-clause-random
returns-clause-random g c =
    let some = c.requires.some in
    let end : c.loop-sequence.sequence ≡ c.args.limit = omega arith in
    c.loop-sequence.invariant.random ∙ ap (λ (n : ℕ). after_words (3 * (n - 1)) (g.R.Rng.stream c.args.random.now)) end
