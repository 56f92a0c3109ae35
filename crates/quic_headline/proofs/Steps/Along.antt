-- What holds of one end before the first event of a run, and stays by each of its calls and of those of
-- the other end, holds at each place.
use Rattle.std.proofs.Common.{◌≡◌, ℕ, zero, suc, ◌≤◌, Bool, true, false, List, [], ◌∷◌, ◌++◌, length, Some, refl, sym, ap, ◌∙◌, subst, inl, inr, arith}
use Rattle.std.specs.Prelude.{slice_get, if◌then◌else◌}
use Rattle.std.proofs.lemmas.List.{append-nil}
use Rattle.std.proofs.lemmas.Option.{slice_get_cases, slice_get_within}
use Rattle.quic_wire_core.specs.declared.stream_id.Side.{Side}
use Rattle.quic_machine.specs.declared.run.RunEvent.{RunEvent}
use Rattle.quic_machine.specs.declared.run.Call.{Call}
use Rattle.quic_machine.specs.declared.run.Answer.{Answer}
use Rattle.quic_machine.specs.declared.run.View.{View}
use Rattle.quic_machine.specs.Machine.{World, IsStep, end_at}
use Rattle.quic_machine.specs.RunLaws.{as_many_views}
use Rattle.quic_headline.specs.Runs.{Run, Told, same_side, until, state_at, LeadsTo, AreServed}
use Rattle.quic_headline.specs.Headline.{IsRun}
use Rattle.quic_headline.specs.Polls.{IsMade}
use Rattle.quic_headline.proofs.Places.Parties.{told_of}
use Rattle.quic_headline.proofs.Held.Behind.{last_step}
use Rattle.quic_headline.proofs.Rest.Between.{side_is}
use Rattle.quic_headline.proofs.Sizes.Moves.{did_there}
use Rattle.quic_headline.proofs.Steps.Made.{served_before, told_next, told_here}

module _ (r : Run) (end : World) (run : IsRun r end) (side : Side) where
  many : length r.views ≡ length r.answers
  many = as_many_views r.keys r.start end r.events r.answers r.views run.follows

  -- an event of the other end tells nothing
  pub other_told : (i : ℕ) (event : RunEvent) (a : Answer) → slice_get r.events i ≡ Some event → slice_get r.answers i ≡ Some a → same_side event.side side ≡ false → until r side (suc i) ≡ until r side i
  other_told i event a at_event at_answer other =
      told_next side (end_at side r.start).closing.state i r.events r.answers r.views event a at_event at_answer many
      ∙ ap (λ (b : Bool). until r side i ++ (if b then record { call = event.call; answer = a; state = state_at r side i } ∷ [] else [])) other
      ∙ append-nil (until r side i)

  -- a call of its own tells this
  pub own_told : (i : ℕ) (call : Call) (a : Answer) (w next : World) → IsMade r i side call a w next → until r side (suc i) ≡ until r side i ++ told_of call a (state_at r side i) ∷ []
  own_told i call a w next m =
      told_next side (end_at side r.start).closing.state i r.events r.answers r.views (record { side = side; call = call }) a m.at.event m.at.answer many
      ∙ ap (λ (ts : List Told). until r side i ++ ts) (told_here side (state_at r side i) call a)

  -- there is a view behind each place up to that of a call
  pub stands_within : (i : ℕ) (by : Side) (call : Call) (a : Answer) (w next : World) → IsMade r i by call a w next → i ≤ length r.views
  stands_within i by call a w next m =
      let place = slice_get_within r.answers i a m.at.answer in
      let all = many in
      omega (arith, place, all)

  -- and one behind it
  pub view_there : (i : ℕ) (by : Side) (call : Call) (a : Answer) (w next : World) → IsMade r i by call a w next → (v : View) × (slice_get r.views i ≡ Some v)
  view_there i by call a w next m = elim (slice_get_cases r.views i).1 [
    | inl found ↦ (found.0, found.2)
    | inr past ↦ (
        let far = past.0 in
        let place = slice_get_within r.answers i a m.at.answer in
        let all = many in
        absurd (omega (arith, far, place, all)))
  ]

  -- What holds at first, and what events keep it.
  pub record Walks (P : ℕ → World → Type 0) : Type 0 where
    pub first : P zero r.start
    pub own : (i : ℕ) (call : Call) (a : Answer) (w next : World) → IsMade r i side call a w next → LeadsTo r (suc i) next → P i w → P (suc i) next
    pub other : (i : ℕ) (event : RunEvent) (a : Answer) (w next : World) → slice_get r.events i ≡ Some event → same_side event.side side ≡ false → IsStep r.keys w event a next → until r side (suc i) ≡ until r side i → P i w → P (suc i) next

  module _ (P : ℕ → World → Type 0) (walks : Walks P) where
    one_more : (i : ℕ) (v : View) (next : World) → slice_get r.views i ≡ Some v → AreServed r (suc i) → LeadsTo r (suc i) next → ((w : World) → LeadsTo r i w → P i w) → P (suc i) next
    one_more i v next at_view served leads before =
        let did = did_there i r.keys r.start end r.events r.answers r.views v run.follows at_view in
        let last = last_step r.keys i r.start next r.events r.answers r.views did.event did.answer did.at_event did.at_answer leads in
        go did.event did.answer did.at_event did.at_answer last.before last.leads last.step (same_side did.event.side side) refl
      where
        go : (event : RunEvent) (a : Answer) → slice_get r.events i ≡ Some event → slice_get r.answers i ≡ Some a → (w : World) → LeadsTo r i w → IsStep r.keys w event a next → (b : Bool) → same_side event.side side ≡ b → P (suc i) next
        go event a at_event at_answer w leads_there step false apart = walks.other i event a w next at_event apart step (other_told i event a at_event at_answer apart) (before w leads_there)
        go event a at_event at_answer w leads_there step true is =
            walks.own i event.call a w next (subst (λ (by : Side). IsMade r i by event.call a w next) (side_is event.side side is) (record { at = record { event = at_event; answer = at_answer }; leads = leads_there; step = step; served = served })) leads (before w leads_there)

    -- at each place behind which there is a view, or the last one
    pub along : (i : ℕ) (w : World) → i ≤ length r.views → AreServed r i → LeadsTo r i w → P i w
    along zero w within served leads = subst (λ (u : World). P zero u) (sym leads) walks.first
    along (suc i) next within served leads = elim (slice_get_cases r.views i).1 [
      | inl there ↦ one_more i there.0 next there.2 served leads (λ w before. along i w (omega (arith, within)) (served_before r.answers i served) before)
      | inr past ↦ (let far = past.0 in absurd (omega (arith, within, far)))
    ]
