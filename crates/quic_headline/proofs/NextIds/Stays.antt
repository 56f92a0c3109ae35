-- Where the path of an end changes, the id that it uses stays only where it knows no other, or too many
-- retirements would wait (RFC 9000, sections 5.1.2 and 9.5): at each place of an honest run.
use Rattle.std.proofs.Common.{◌≡◌, ◌⊎◌, ℕ, zero, suc, ◌+◌, ◌-◌, ◌≤◌, Bool, true, false, nat_le, List, length, Option, Some, None, Result, Ok, Err, refl, sym, ap, ◌∙◌, subst, inl, inr, arith, []}
use Rattle.std.specs.Prelude.{not, slice_get}
use Rattle.std.proofs.lemmas.Bool.{eq-eqb, cases_lt}
use Rattle.std.proofs.lemmas.List.{take_all}
use Rattle.quic_wire_core.specs.declared.stream_id.Side.{Side}
use Rattle.quic_wire_core.specs.StreamId.{other_side}
use Rattle.quic_ids.specs.CidQueue.{next_after}
use Rattle.quic_retransmits.specs.Retransmits.{most_retirements}
use Rattle.quic_machine.specs.declared.answers.State.TheVariants as states
use Rattle.quic_machine.specs.declared.answers.NextIdError.{NextIdError}
use Rattle.quic_machine.specs.declared.answers.NextIdError.TheVariants as next_errors
use Rattle.quic_machine.specs.declared.run.RunEvent.{RunEvent}
use Rattle.quic_machine.specs.declared.run.Call.{Call}
use Rattle.quic_machine.specs.declared.run.Call.TheVariants as calls
use Rattle.quic_machine.specs.declared.run.Answer.{Answer}
use Rattle.quic_machine.specs.IdFrames.{next_id_allowed, next_id_answer}
use Rattle.quic_machine.specs.End.{End}
use Rattle.quic_machine.specs.Machine.{World, IsStep, end_at}
use Rattle.quic_machine.specs.RunLaws.{as_many_views}
use Rattle.quic_headline.specs.Runs.{Run, Told, Intake, same_side, given_of, until, told_at, LeadsTo, AreServed, folded}
use Rattle.quic_headline.specs.Observer.{Watch, watch_from, watch_told, watch, lens_of, has_changed, generation_at, path_changes}
use Rattle.quic_headline.specs.Headline.{IsHonest, IsRun}
use Rattle.quic_headline.specs.ConnectionIds.{IsPastLimit, StaysForAReason}
use Rattle.quic_headline.specs.InUse.{brought, next_of, in_use, next_id, TellsStays}
use Rattle.quic_headline.specs.Polls.{IsMade}
use Rattle.quic_headline.proofs.Places.Parties.{Party, came_to}
use Rattle.quic_headline.proofs.Places.Openings.{took_is}
use Rattle.quic_headline.proofs.Places.Placed.{party_at, placed}
use Rattle.quic_headline.proofs.Steps.Made.{one_behind, served_before}
use Rattle.quic_headline.proofs.Steps.Along.{along}
use Rattle.quic_headline.proofs.NextIds.Peer.{Knows, next_is}
use Rattle.quic_headline.proofs.NextIds.Used.{All, all, in_use_is, uses_at, still, stays_refused}
use Rattle.quic_headline.proofs.NextIds.Clause.{ranged, answered_if, none_allowed, many_allowed}

-- ---- where the id stays

-- an end that may not use the next id has none, or too many would wait
why_refused : (e : End) → (next_id_answer e ≡ Ok tt → ⊥) → (next_after e.ids.peer ≡ None) ⊎ ((next : ℕ) × (next_after e.ids.peer ≡ Some next) × IsPastLimit e e.ids.peer.active next)
why_refused e never = go (next_id_answer e) refl
  where
    go : (r : Result (Unit {0}) NextIdError) → next_id_answer e ≡ r → (next_after e.ids.peer ≡ None) ⊎ ((next : ℕ) × (next_after e.ids.peer ≡ Some next) × IsPastLimit e e.ids.peer.active next)
    go (Ok done) is = absurd (never is)
    go (Err next_errors.NoId) is = inl ((none_allowed e (next_after e.ids.peer)).0 is)
    go (Err next_errors.TooManyPending) is = inr ((many_allowed e (next_after e.ids.peer)).0 is)
    go (Err next_errors.Memory) is = absurd (no_memory (next_after e.ids.peer) is)
      where
        no_memory : (o : Option ℕ) → next_id_allowed (ranged e o) e ≡ Err next_errors.Memory → ⊥
        no_memory None is = cc
        no_memory (Some n) is = few (nat_le (length e.waiting.frames.retire_cids + (n - e.ids.peer.active)) most_retirements) is
          where
            few : (b : Bool) → answered_if b ≡ Err next_errors.Memory → ⊥
            few true is = cc
            few false is = cc

-- at a place behind which the path has changed
module _ (r : Run) (end : World) (honest : IsHonest r) (run : IsRun r end) (side : Side) (stays : ℕ → Bool) (kept : TellsStays r side stays) (i : ℕ) (v : World) (served : AreServed r (suc i)) (leads : LeadsTo r (suc i) v) (changes : path_changes r side i ≡ true) (same : stays (generation_at r side (suc i)) ≡ true) where
  abbrev e : End
  e = end_at side v

  abbrev Stayed : Type 0
  Stayed = (next_id r stays side (suc i) ≡ None) ⊎ ((next : ℕ) × (next_id r stays side (suc i) ≡ Some next) × IsPastLimit e (in_use r stays side (suc i)) next)

  -- by what the end knows, and what it would answer
  by_end : e.closing.state ≡ states.Open → (next_id_answer e ≡ Ok tt → ⊥) → Stayed
  by_end opened never =
      let p = placed All all r end honest run side (suc i) served in
      let x : Party = party_at r (suc i) p.world side p.sents in
      let y : Party = party_at r (suc i) p.world (other_side side) p.theirs in
      let here : p.world ≡ v = one_behind r (suc i) p.world v served p.leads leads in
      let used : in_use r stays side (suc i) ≡ e.ids.peer.active = in_use_is r end honest run side stays kept (suc i) v served leads opened in
      let known : Knows (brought (came_to x y).took) [] e.ids.peer = subst (λ (w : World). Knows (brought (came_to x y).took) [] (end_at side w).ids.peer) here (p.gives.1.knows (ap (λ (w : World). (end_at side w).closing.state) here ∙ opened)) in
      let next : next_after e.ids.peer ≡ next_id r stays side (suc i) =
      next_is (brought (came_to x y).took) e.ids.peer known
      ∙ ap (λ (n : ℕ). next_of n (brought (came_to x y).took)) (sym used)
      ∙ ap (λ (j : Intake). next_of (in_use r stays side (suc i)) (brought j.took)) (sym (took_is r honest p.world (suc i) side p.sents p.theirs)) in
      elim (why_refused e never) [
        | inl none ↦ inl (sym next ∙ none)
        | inr past ↦ inr (past.0, sym next ∙ past.1, subst (λ (n : ℕ). IsPastLimit e n past.0) (sym used) past.2)
      ]

-- ---- along the places of a run

module _ (r : Run) (end : World) (honest : IsHonest r) (run : IsRun r end) (side : Side) (stays : ℕ → Bool) (kept : TellsStays r side stays) where
  -- where the path changed by the last event, and the id stayed, the end gives a reason
  StaysSo : ℕ → World → Type 0
  StaysSo zero w = Unit {0}
  StaysSo (suc i) v = AreServed r (suc i) → LeadsTo r (suc i) v → path_changes r side i ≡ true → stays (generation_at r side (suc i)) ≡ true
      → (next_id r stays side (suc i) ≡ None) ⊎ ((next : ℕ) × (next_id r stays side (suc i) ≡ Some next) × IsPastLimit (end_at side v) (in_use r stays side (suc i)) next)

  -- where nothing is told, it didn't
  unchanged : (i : ℕ) → until r side (suc i) ≡ until r side i → path_changes r side i ≡ false
  unchanged i told =
      ap (λ (v : Watch). has_changed (watch r side i) v) (ap (λ (us : List Told). folded (watch_told (lens_of r side)) us (watch_from (end_at side r.start) (given_of r side))) told)
      ∙ ap (λ (b : Bool). not b) (eq-eqb (generation_at r side i) (generation_at r side i) refl)

  stays_own : (i : ℕ) (call : Call) (a : Answer) (w next : World) → IsMade r i side call a w next → LeadsTo r (suc i) next → StaysSo i w → StaysSo (suc i) next
  unfolding StaysSo
  stays_own i (calls.Deliver delivery) a w next m leads before served also changes same =
      let why = stays_refused r end honest run side stays kept i delivery a w next m leads (uses_at r end honest run side stays kept i w (served_before r.answers i m.served) m.leads) changes same in
      by_end r end honest run side stays kept i next served also changes same why.0 why.1
  stays_own i call a w next m leads before served also changes same =
      let none : path_changes r side i ≡ false = still r end honest run side stays kept i call a w next m leads (uses_at r end honest run side stays kept i w (served_before r.answers i m.served) m.leads) refl in
      let clash : true ≡ false = sym changes ∙ none in
      cc

  stays_other : (i : ℕ) (event : RunEvent) (a : Answer) (w next : World) → slice_get r.events i ≡ Some event → same_side event.side side ≡ false → IsStep r.keys w event a next → until r side (suc i) ≡ until r side i → StaysSo i w → StaysSo (suc i) next
  unfolding StaysSo
  stays_other i event a w next at other step told before served also changes same = (let clash : true ≡ false = sym changes ∙ unchanged i told in cc)

  stays_first : StaysSo zero r.start
  unfolding StaysSo
  stays_first = tt

  stays_within : (i : ℕ) (w : World) → i ≤ length r.views → AreServed r i → LeadsTo r i w → StaysSo i w
  stays_within = along r end run side StaysSo (record { first = stays_first; own = stays_own; other = stays_other })

pub stays_for_a_reason : (r : Run) (end : World) → IsHonest r → IsRun r end → StaysForAReason r
unfolding StaysSo
stays_for_a_reason r end honest run side stays i v kept served leads changes same = elim (cases_lt i (length r.views)) [
  | inl within ↦ there (stays_within r end honest run side stays kept (suc i) v (omega (arith, within)) served leads)
  | inr past ↦ (let clash : true ≡ false = sym changes ∙ unchanged r end honest run side stays kept i (told_same past) in cc)
]
  where
    there : StaysSo r end honest run side stays kept (suc i) v → (next_id r stays side (suc i) ≡ None) ⊎ ((next : ℕ) × (next_id r stays side (suc i) ≡ Some next) × IsPastLimit (end_at side v) (in_use r stays side (suc i)) next)
    there so = so served leads changes same

    told_same : length r.views ≤ i → until r side (suc i) ≡ until r side i
    told_same past =
        let many : length r.views ≡ length r.answers = as_many_views r.keys r.start end r.events r.answers r.views run.follows in
        ap (λ (said : List Answer). told_at side (end_at side r.start).closing.state r.events said r.views) (take_all (suc i) r.answers (omega (arith, many, past)) ∙ sym (take_all i r.answers (omega (arith, many, past))))
