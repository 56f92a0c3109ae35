-- At a place of a run one of the ends is called, or what is to be seen of it stays, and nothing is
-- told it.
use Rattle.std.proofs.Common.{◌≡◌, ◌⊎◌, ℕ, suc, List, [], ◌∷◌, ◌++◌, length, Bool, true, false, refl, sym, ap, ◌∙◌, subst, inl, inr, arith}
use Rattle.std.specs.Prelude.{if◌then◌else◌}
use Rattle.std.proofs.lemmas.List.{append-nil, take_all}
use Rattle.std.proofs.lemmas.Option.{slice_get_cases}
use Rattle.quic_wire_core.specs.declared.stream_id.Side.{Side}
use Rattle.quic_machine.specs.declared.run.Call.{Call}
use Rattle.quic_machine.specs.declared.run.Answer.{Answer}
use Rattle.quic_machine.specs.End.{End}
use Rattle.quic_machine.specs.Control.{Control}
use Rattle.quic_machine.specs.Machine.{World, end_at, control_at, end_view}
use Rattle.quic_machine.specs.RunLaws.{as_many_views}
use Rattle.quic_headline.specs.Runs.{Run, Told, same_side, told_at, until, state_at, AreServed, LeadsTo}
use Rattle.quic_headline.specs.Headline.{IsRun}
use Rattle.quic_headline.specs.Polls.{seen_of, seen_at, IsMade}
use Rattle.quic_headline.proofs.Places.Moments.{last_seen}
use Rattle.quic_headline.proofs.Steps.Made.{told_next}
use Rattle.quic_headline.proofs.Rest.Between.{AreSame, step_leaves, side_is}
use Rattle.quic_headline.proofs.Sizes.Moves.{Did, did_there}
use Rattle.quic_headline.proofs.Held.Behind.{Last, last_step}
use Rattle.quic_headline.proofs.Held.Threefold.{seen_last}

-- The end is called there, and so left.
pub record IsCalled (r : Run) (side : Side) (i : ℕ) (next : World) : Type 0 where
  pub call : Call
  pub answer : Answer
  pub before : World
  pub made : IsMade r i side call answer before next

-- Or what is to be seen of it stays, and nothing is told it.
pub record StaysSo (r : Run) (side : Side) (i : ℕ) : Type 0 where
  pub seen : seen_at r side (suc i) ≡ seen_at r side i
  pub told : until r side (suc i) ≡ until r side i

module _ (r : Run) (end : World) (run : IsRun r end) (side : Side) (i : ℕ) (next : World) (served : AreServed r (suc i)) (leads : LeadsTo r (suc i) next) where
  many : length r.views ≡ length r.answers
  many = as_many_views r.keys r.start end r.events r.answers r.views run.follows

  -- where something happened
  happened : (did : Did r.events r.answers i) → IsCalled r side i next ⊎ StaysSo r side i
  happened did = go (same_side did.event.side side) refl
    where
      last : Last r.keys i r.start next r.events r.answers r.views did.event did.answer
      last = last_step r.keys i r.start next r.events r.answers r.views did.event did.answer did.at_event did.at_answer leads

      go : (b : Bool) → same_side did.event.side side ≡ b → IsCalled r side i next ⊎ StaysSo r side i
      go true is = inl (record {
        call = did.event.call;
        answer = did.answer;
        before = last.before;
        made = subst (λ (by : Side). IsMade r i by did.event.call did.answer last.before next) (side_is did.event.side side is) (record { at = record { event = did.at_event; answer = did.at_answer }; leads = last.leads; step = last.step; served = served });
      })
      go false other =
          let same : AreSame side last.before next = step_leaves side r.keys last.before next did.event did.answer other last.step in
          let none : (if same_side did.event.side side then record { call = did.event.call; answer = did.answer; state = state_at r side i } ∷ [] else []) ≡ [] = ap (λ (b : Bool). if b then record { call = did.event.call; answer = did.answer; state = state_at r side i } ∷ [] else []) other in
          inr (record {
            seen =
                last_seen side r.keys (suc i) r.start next r.events r.answers r.views leads
                ∙ ap (λ (e : End). end_view (control_at side next) e) same.end
                ∙ ap (λ (control : Control). end_view control (end_at side last.before)) same.control
                ∙ sym (last_seen side r.keys i r.start last.before r.events r.answers r.views last.leads);
            told =
                told_next side (end_at side r.start).closing.state i r.events r.answers r.views did.event did.answer did.at_event did.at_answer many
                ∙ ap (λ (ts : List Told). until r side i ++ ts) none
                ∙ append-nil (until r side i);
          })

  pub called_or_stays : IsCalled r side i next ⊎ StaysSo r side i
  called_or_stays = elim (slice_get_cases r.views i).1 [
    | inl there ↦ happened (did_there i r.keys r.start end r.events r.answers r.views there.0 run.follows there.2)
    | inr past ↦ (
        let far = past.0 in
        inr (record {
          seen = seen_last side (seen_of side r.start) (suc i) r.views (omega (arith, far)) ∙ sym (seen_last side (seen_of side r.start) i r.views far);
          told = ap (λ (said : List Answer). told_at side (end_at side r.start).closing.state r.events said r.views) (take_all (suc i) r.answers (omega (arith, many, far)) ∙ sym (take_all i r.answers (omega (arith, many, far))));
        }))
  ]
