-- An end that isn't open has a reason, or failed: each call keeps that, and so views show it.
use Rattle.std.proofs.Common.{◌≡◌, ℕ, zero, suc, List, [], ◌∷◌, slice_get, Option, Some, None, sym, subst}
use Rattle.quic_wire_core.specs.declared.stream_id.Side.{Side}
use Rattle.quic_wire_core.specs.declared.stream_id.Side.TheVariants.{Client, Server}
use Rattle.quic_machine.specs.declared.answers.State.{State}
use Rattle.quic_machine.specs.declared.answers.State.TheVariants as states
use Rattle.quic_machine.specs.declared.answers.LostReason.{LostReason}
use Rattle.quic_machine.specs.declared.run.RunEvent.{RunEvent}
use Rattle.quic_machine.specs.declared.run.Call.{Call}
use Rattle.quic_machine.specs.declared.run.Answer.{Answer}
use Rattle.quic_machine.specs.declared.run.View.{View}
use Rattle.quic_machine.specs.Policy.{Policy}
use Rattle.quic_machine.specs.End.{End}
use Rattle.quic_machine.specs.Start.{AreStarted}
use Rattle.quic_machine.specs.Machine.{World, Policies, HasStopped, after_call, view_of, Follows}
use Rattle.quic_headline.specs.Runs.{Run, state_in}
use Rattle.quic_headline.specs.Causes.{reason_in}
use Rattle.quic_headline.specs.Headline.{IsHonest, IsRun}
use Rattle.quic_headline.specs.Reasons.{Explains, ClosedHasAReason}
use Rattle.quic_headline.proofs.Places.Placed.{start_is}
use Rattle.quic_headline.proofs.Timers.BothEnds.{AtBoth, IsKept, step_keeps}
use Rattle.quic_headline.proofs.Packets.EndMoves.{Cause, cause_of, Keeps}
use Rattle.quic_headline.proofs.Packets.EndMoves as moves
use Rattle.quic_headline.proofs.Packets.ByMoves.{behind_call}

-- ---- an end

-- an end explains why it isn't open
abbrev pub IsExplained : End → Type 0
IsExplained e = Explains e.closing.state e.closing.reason

-- an end that was closing for a reason is drained for it
drains_for : (o : Option LostReason) → Explains states.Closing o → Explains states.Drained o
drains_for (Some reason) i = tt
drains_for None i = absurd i

explained : (by : Cause) → Keeps by IsExplained
explained by (moves.closes reason close) e may i = tt
explained by (moves.drains reason) e may i = tt
explained by moves.over e may i = drains_for e.closing.reason (subst (λ (s : State). Explains s e.closing.reason) may.1 i)
explained by m e may i = i

-- what any call leaves
pub call_keeps : (p : Policy) (e : End) (theirs : List (List ℕ)) (call : Call) (a : Answer) → IsExplained e → IsExplained (after_call p e theirs call a)
call_keeps p e theirs call a i = behind_call IsExplained p e theirs call a (explained (cause_of call)) i

-- an end that stops has none
stopped : (e next : End) → HasStopped e next → IsExplained next
stopped e next is = subst (λ (s : State). Explains s next.closing.reason) (sym is.0) (subst (λ (o : Option LostReason). Explains states.Failed o) (sym is.1) tt)

kept : IsKept IsExplained
kept = record { call = call_keeps; shows = λ window blocked e i. i; paces = λ pacing e i. i; stops = stopped }

-- ---- views

-- what views show of ends that explain themselves
seen : (side : Side) (w : World) → AtBoth IsExplained w → Explains (state_in (view_of w) side) (reason_in (view_of w) side)
seen Client w i = i.0
seen Server w i = i.1

-- each view of a run
pub views_explain : (k : Policies) (w end : World) (events : List RunEvent) (told : List Answer) (views : List View) → Follows k w events told views end → AtBoth IsExplained w
    → (side : Side) (place : ℕ) (view : View) → slice_get views place ≡ Some view → Explains (state_in view side) (reason_in view side)
views_explain k w end events told [] f i side place view is = cc
views_explain k w end [] [] (v ∷ views) f i side place view is = absurd f
views_explain k w end (e ∷ events) [] (v ∷ views) f i side place view is = absurd f
views_explain k w end [] (a ∷ told) (v ∷ views) f i side place view is = absurd f
views_explain k w end (e ∷ events) (a ∷ told) (v ∷ views) f i side zero view is =
    let same : v ≡ view = cc in
    subst (λ (x : View). Explains (state_in x side) (reason_in x side)) same (subst (λ (x : View). Explains (state_in x side) (reason_in x side)) (sym f.2) (seen side f.0 (step_keeps IsExplained kept k w f.0 e a f.1 i)))
views_explain k w end (e ∷ events) (a ∷ told) (v ∷ views) f i side (suc place) view is =
    views_explain k f.0 end events told views f.3 (step_keeps IsExplained kept k w f.0 e a f.1 i) side place view is

-- new ends are open
explained_start : (w : World) → AreStarted w → AtBoth IsExplained w
explained_start w s = (subst (λ (e : End). IsExplained e) (sym (start_is w s Client)) tt, subst (λ (e : End). IsExplained e) (sym (start_is w s Server)) tt)

-- the clause
pub closed_has_a_reason : (r : Run) (end : World) → IsHonest r → IsRun r end → ClosedHasAReason r
closed_has_a_reason r end honest run = views_explain r.keys r.start end r.events r.answers r.views run.follows (explained_start r.start honest.start)
