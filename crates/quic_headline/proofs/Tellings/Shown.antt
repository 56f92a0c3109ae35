-- Whether views show the address of an end's peer as validated before a call of the end: as it is
-- there.
use Rattle.std.proofs.Common.{◌≡◌, ℕ, zero, suc, List, [], ◌∷◌, ◌++◌, length, take, Bool, true, false, Option, Some, refl, sym, ap, ◌∙◌, subst, arith}
use Rattle.std.specs.Prelude.{if◌then◌else◌, slice_get, unwrap_or}
use Rattle.quic_wire_core.specs.declared.stream_id.Side.{Side}
use Rattle.quic_wire_core.specs.declared.stream_id.Side.TheVariants.{Client, Server}
use Rattle.quic_machine.specs.declared.answers.State.{State}
use Rattle.quic_machine.specs.declared.run.Call.{Call}
use Rattle.quic_machine.specs.declared.run.Answer.{Answer}
use Rattle.quic_machine.specs.declared.run.RunEvent.{RunEvent}
use Rattle.quic_machine.specs.declared.run.EndView.{EndView}
use Rattle.quic_machine.specs.declared.run.View.{View}
use Rattle.quic_machine.specs.Machine.{World, end_at}
use Rattle.quic_machine.specs.RunLaws.{as_many_views}
use Rattle.quic_headline.specs.Runs.{Run, Told, same_side, state_in, told_at, until}
use Rattle.quic_headline.specs.Headline.{IsRun}
use Rattle.quic_headline.specs.Polls.{end_in, seen_of, seen_behind, IsMade}
use Rattle.quic_headline.specs.Telling.{validated_before, shows_validated}
use Rattle.quic_headline.proofs.Places.Moments.{last_seen}
use Rattle.quic_headline.proofs.Places.Parties.{told_of}

-- what the view before a call of an end shows stands behind what those before its other calls do
shown_before : (side : Side) (seen : EndView) (state : State) (i : ℕ) (events : List RunEvent) (answers : List Answer) (views : List View) (call : Call) (a : Answer) → slice_get events i ≡ Some (record { side = side; call = call }) → slice_get answers i ≡ Some a → length views ≡ length answers
    → slice_get (validated_before side seen.validated events views) (length (told_at side state events (take i answers) views)) ≡ Some (seen_behind side seen i views).validated
shown_before side seen state i [] answers views call a at_event at_answer many = cc
shown_before side seen state i (e ∷ events) [] views call a at_event at_answer many = cc
shown_before side seen state i (e ∷ events) (b ∷ answers) [] call a at_event at_answer many = absurd (omega arith)
shown_before side seen state zero (e ∷ events) (b ∷ answers) (v ∷ views) call a at_event at_answer many =
    let one : e ≡ record { side = side; call = call } = cc in
    subst (λ (f : RunEvent). slice_get (validated_before side seen.validated (f ∷ events) (v ∷ views)) 0 ≡ Some seen.validated) (sym one) (own side)
  where
    own : (s : Side) → slice_get ((if same_side s s then seen.validated ∷ [] else []) ++ validated_before side (end_in v side).validated events views) 0 ≡ Some seen.validated
    own Client = refl
    own Server = refl
shown_before side seen state (suc i) (e ∷ events) (b ∷ answers) (v ∷ views) call a at_event at_answer many =
    go (same_side e.side side) ∙ shown_before side (end_in v side) (state_in v side) i events answers views call a at_event at_answer (omega arith)
  where
    shown : List Bool
    shown = validated_before side (end_in v side).validated events views

    told : List Told
    told = told_at side (state_in v side) events (take i answers) views

    go : (c : Bool) → slice_get ((if c then seen.validated ∷ [] else []) ++ shown) (length ((if c then told_of e.call b state ∷ [] else []) ++ told)) ≡ slice_get shown (length told)
    go true = refl
    go false = refl

-- so it is seen whether the address is validated
pub validated_there : (r : Run) (end : World) → IsRun r end → (side : Side) (i : ℕ) (call : Call) (a : Answer) (w next : World) → IsMade r i side call a w next → (n : ℕ) → n ≡ length (until r side i) → (end_at side w).path.validated ≡ shows_validated r side n
validated_there r end run side i call a w next m n is =
    sym (ap (λ (u : EndView). u.validated) (last_seen side r.keys i r.start w r.events r.answers r.views m.leads))
    ∙ ap (λ (o : Option Bool). unwrap_or o true) (sym (shown_before side (seen_of side r.start) (end_at side r.start).closing.state i r.events r.answers r.views call a m.at.event m.at.answer (as_many_views r.keys r.start end r.events r.answers r.views run.follows)))
    ∙ ap (λ (k : ℕ). shows_validated r side k) (sym is)
