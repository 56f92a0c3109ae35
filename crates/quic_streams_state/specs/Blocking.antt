-- Which limit lets a write take nothing (RFC 9000, section 4.1).
use Rattle.std.specs.Prelude.{ℕ, ◌-◌, Bool, true, false, ◌==◌, ◌&&◌, if◌then◌else◌, Option, Some, None}
use Rattle.std.specs.Option.{is_none}
use Rattle.quic_streams_parts.specs.SendHalf.{SendHalf, is_ready, room_on}
use Rattle.quic_streams_state.specs.declared.blocked.BlockedBy.{BlockedBy}
use Rattle.quic_streams_state.specs.declared.blocked.BlockedBy.TheVariants as by
use Rattle.quic_streams_state.specs.Parts.{Sending, buffered}
use Rattle.quic_streams_state.specs.State.{StreamsState, sending_half}

-- what blocks a write on any stream, in this order: the peer's limit on all of them, then the send
-- window
abbrev pub all_blocked_by : Sending → Option BlockedBy
all_blocked_by s = if s.limit - s.accepted == 0 then Some by.Connection else (if s.window - buffered s == 0 then Some by.SendWindow else None)

-- what blocks a write on a part that nothing else blocks: its own limit, where it was not finished,
-- reset or stopped
abbrev pub own_blocked_by : SendHalf → Option BlockedBy
own_blocked_by h = if is_ready h && (is_none h.stopped && (room_on h == 0)) then Some by.Stream else None

-- what blocks a write on a part
abbrev pub half_blocked_by : Option BlockedBy → SendHalf → Option BlockedBy
half_blocked_by (Some limit) h = Some limit
half_blocked_by None h = own_blocked_by h

-- the same, if there is such a part: without one no limit is asked
abbrev pub blocked_at_half : Sending → Option SendHalf → Option BlockedBy
blocked_at_half s None = None
blocked_at_half s (Some h) = half_blocked_by (all_blocked_by s) h

-- what blocks a write on a stream, where the end is open or isn't
abbrev pub blocked_by : Bool → StreamsState → ℕ → Option BlockedBy
blocked_by true s id = blocked_at_half s.sending (sending_half s id)
blocked_by false s id = Some by.Closed
