-- The clock of an end, whether it is open, and the close that it owes its peer.
use Rattle.std.specs.Prelude.{ℕ, max, Bool, true, false, if◌then◌else◌, Option, Some, None}
use Rattle.quic_machine.specs.declared.answers.State.{State}
use Rattle.quic_machine.specs.declared.answers.State.TheVariants as states
use Rattle.quic_machine.specs.declared.answers.LostReason.{LostReason}
use Rattle.quic_wire.specs.Value.{FrameValue}

-- the greatest moment that was taken over, in nanoseconds, whether the end is open (RFC 9000,
-- section 10), why it isn't, and whether the application was told; its close, where it has one, and
-- whether that is to go (section 10.2.1)
pub record Closing : Type 0 where
  pub clock : ℕ
  pub state : State
  pub reason : Option LostReason
  pub told : Bool
  pub close : Option FrameValue
  pub owed : Bool

-- a moment is taken over; one that steps back counts as the greatest so far
abbrev pub ticked : Closing → ℕ → Closing
ticked c now = record c { clock = max c.clock now }

-- an end that closes for a reason owes its peer this close (section 10.2.1)
abbrev pub closing_for : LostReason → FrameValue → Closing → Closing
closing_for reason f c = record c { state = states.Closing; reason = Some reason; told = false; close = Some f; owed = true }

-- an end that is drained for a reason at once tells its peer nothing (sections 10.1 and 10.2.2)
abbrev pub drained_for : LostReason → Closing → Closing
drained_for reason c = record c { state = states.Drained; reason = Some reason; told = false }

-- an end that was closing for long enough is drained, and keeps no close (section 10.2)
abbrev pub drained : Closing → Closing
drained c = record c { state = states.Drained; close = None; owed = false }

-- the close that an end owes, if it owes one
abbrev pub close_owed : Closing → Option FrameValue
close_owed c = if c.owed then c.close else None

-- a packet comes to an end that is closing: its close is to go (again)
abbrev pub close_asked : Closing → Closing
close_asked c = record c { owed = true }

-- the close went
abbrev pub close_given : Closing → Closing
close_given c = record c { owed = false }

-- an end that lacked memory where it can't say so: no reason is left
abbrev pub failed : Closing → Closing
failed c = record c { state = states.Failed; reason = None; told = false }

-- ---- what the application is told

-- why the end is lost, where that wasn't told yet
abbrev pub loss_to_tell : Closing → Option LostReason
loss_to_tell c = if c.told then None else c.reason

-- after a loss was told, if there was one to tell
abbrev pub after_told : Option LostReason → Closing → Closing
after_told None c = c
after_told (Some reason) c = record c { told = true }
