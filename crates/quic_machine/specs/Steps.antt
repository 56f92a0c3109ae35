-- The steps of an ACK frame and of losses, each a value: what a fact of an end is kept by.
use Rattle.std.proofs.Common.{ℕ, Bool, Option, Some}
use Rattle.quic_send_buffer.specs.declared.stream_meta.StreamMeta.{StreamMeta}
use Rattle.quic_spaces.specs.Marks.{Counts}
use Rattle.quic_time.specs.Rtt.{Rtt}
use Rattle.quic_congestion.specs.Search.{Discovery}
use Rattle.quic_messages.specs.Messages.{without_longer}
use Rattle.quic_machine.specs.Tracking.{Tracking, Carried}
use Rattle.quic_machine.specs.End.{End, with_tracking, with_rtt, with_told, with_marking, with_discovery, with_queued}
use Rattle.quic_machine.specs.Acked.{request_acked, without_known, reset_acked, stream_acked, stream_lost}
use Rattle.quic_machine.specs.Acked as acks

-- one change of an end that an ACK frame or a loss makes
pub data Step : Type 0 where
  -- numbers that the peer knows of need no more acknowledgement
  known : ℕ → Step
  -- the packet of a number is, which may have the request of how often to acknowledge
  answered : ℕ → Step
  -- RESET_STREAM of a stream is acknowledged; a STREAM frame is acknowledged, or lost; and what
  -- else a packet carried is
  reset : ℕ → Step
  acked : StreamMeta → Step
  lost : StreamMeta → Step
  again : Carried → Step
  -- the search for a size learns of it, and messages that are too long are dropped
  searched : Discovery → Step
  shortens : ℕ → Step
  -- fewer packets are tracked
  tracked : Tracking → Step
  -- the round trip is measured
  measured : Rtt → Option ℕ → Step
  -- the peer's counts of marks are kept, and marking may end
  marked : Counts → Bool → Step

-- the end that a step leaves
abbrev pub after : Step → End → End
after (known n) e = without_known (Some n) e
after (answered n) e = request_acked n e
after (reset id) e = reset_acked id e
after (acked m) e = stream_acked m e
after (lost m) e = stream_lost m e
after (again carried) e = acks.again carried e
after (searched d) e = with_discovery e d
after (shortens most) e = with_queued e (without_longer most e.messages.queues)
after (tracked t) e = with_tracking e t
after (measured r first) e = with_rtt e r first
after (marked counts marking) e = with_marking (with_told e counts) marking
