-- Why an end isn't open any more, as views show it (RFC 9000, section 10).
use Rattle.std.specs.Prelude.{ℕ, ◌≡◌, ◌≢◌, slice_get, Option, Some, None}
use Rattle.quic_wire_core.specs.declared.stream_id.Side.{Side}
use Rattle.quic_machine.specs.declared.answers.State.{State}
use Rattle.quic_machine.specs.declared.answers.State.TheVariants as states
use Rattle.quic_machine.specs.declared.answers.LostReason.{LostReason}
use Rattle.quic_machine.specs.declared.run.View.{View}
use Rattle.quic_headline.specs.Runs.{Run, state_in, state_at, AreServed}
use Rattle.quic_headline.specs.Causes.{reason_in}

-- an end that closes or is drained has a reason; one that is open, or failed, has none
abbrev pub Explains : State → Option LostReason → Type 0
Explains states.Open None = Unit {0}
Explains states.Closing (Some reason) = Unit {0}
Explains states.Drained (Some reason) = Unit {0}
Explains states.Failed None = Unit {0}
Explains state reason = ⊥

-- so it is in each view, at both ends
abbrev pub ClosedHasAReason : Run → Type 0
ClosedHasAReason r = (side : Side) (place : ℕ) (view : View) → slice_get r.views place ≡ Some view → Explains (state_in view side) (reason_in view side)

-- no end has failed at a place up to which each delivery, poll and timeout found the memory that it
-- took
abbrev pub NeverFails : Run → Type 0
NeverFails r = (side : Side) (i : ℕ) → AreServed r i → state_at r side i ≢ states.Failed
