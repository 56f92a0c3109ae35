-- The address of a peer that is validated stays so while a path does; and by views each end has
-- failed, or the address of its peer is validated.
use Rattle.std.proofs.Common.{◌≡◌, ℕ, ◌+◌, ◌≤◌, Bool, true, false, not, List, ◌⊎◌, inl, inr, refl, arith}
use Rattle.std.proofs.lemmas.Bool.{eqb-true}
use Rattle.quic_wire_core.specs.declared.stream_id.Side.{Side}
use Rattle.quic_wire_core.specs.declared.stream_id.Side.TheVariants.{Client, Server}
use Rattle.quic_machine.specs.declared.answers.State.{State}
use Rattle.quic_machine.specs.declared.answers.State.TheVariants as states
use Rattle.quic_machine.specs.declared.run.Call.{Call}
use Rattle.quic_machine.specs.declared.run.Answer.{Answer}
use Rattle.quic_machine.specs.Policy.{Policy}
use Rattle.quic_machine.specs.End.{End}
use Rattle.quic_machine.specs.Migration.{has_moved}
use Rattle.quic_machine.specs.Machine.{World, end_at, view_of, after_call}
use Rattle.quic_headline.specs.Runs.{state_in}
use Rattle.quic_headline.specs.Polls.{end_in}
use Rattle.quic_headline.proofs.Packets.EndMoves.{Cause, cause_of, Keeps}
use Rattle.quic_headline.proofs.Packets.EndMoves as moves
use Rattle.quic_headline.proofs.Packets.ByMoves.{behind_call}

abbrev pub IsValidated : End → Type 0
IsValidated e = e.path.validated ≡ true

module _ (e : End) where
  -- since then no path came again, and the address is validated while the path is the same
  abbrev Since : End → Type 0
  Since x = (e.path.generation ≤ x.path.generation) × (x.path.generation ≡ e.path.generation → IsValidated x)

  -- another path is none that was before
  moved_since : (n m : ℕ) (validated : Bool) → n ≤ m → (n ≤ m + 1) × (m + 1 ≡ n → validated ≡ true)
  moved_since n m validated le = (omega arith, λ same. absurd (omega arith))

  since : (by : Cause) → Keeps by Since
  since by moves.validated x may i = (i.0, λ on. refl)
  since by (moves.leads remote) x may i = moved_since e.path.generation x.path.generation false i.0
  since by m x may i = i

-- a call leaves it so, by which the path doesn't change
pub call_validated : (p : Policy) (e : End) (theirs : List (List ℕ)) (call : Call) (a : Answer) → IsValidated e → has_moved e (after_call p e theirs call a) ≡ false → IsValidated (after_call p e theirs call a)
call_validated p e theirs call a is still = (behind_call (Since e) p e theirs call a (since e (cause_of call)) (omega arith, λ same. is)).1 (eqb-true (after_call p e theirs call a).path.generation e.path.generation (unmoved _ still))
  where
    unmoved : (b : Bool) → not b ≡ false → b ≡ true
    unmoved true same = refl
    unmoved false same = cc

-- ---- an end that failed, or that knows that its peer is reached

abbrev pub HasFailed : End → Type 0
HasFailed e = e.closing.state ≡ states.Failed

-- an end failed, or the address of its peer is validated
abbrev pub IsReached : End → Type 0
IsReached e = HasFailed e ⊎ IsValidated e

is_failed : (s : State) → (s ≡ states.Failed) ⊎ (s ≡ states.Failed → ⊥)
is_failed states.Failed = inl refl
is_failed states.Open = inr (λ is. cc)
is_failed states.Closing = inr (λ is. cc)
is_failed states.Drained = inr (λ is. cc)

-- so views show it
pub seen_reached : (side : Side) (w : World) → ((state_in (view_of w) side ≡ states.Failed → ⊥) → (end_in (view_of w) side).validated ≡ true) → IsReached (end_at side w)
seen_reached Client w shown = elim (is_failed w.client.closing.state) [ inl failed ↦ inl failed | inr lasts ↦ inr (shown lasts) ]
seen_reached Server w shown = elim (is_failed w.server.closing.state) [ inl failed ↦ inl failed | inr lasts ↦ inr (shown lasts) ]
