-- What a datagram carries that matters once it is acknowledged or lost (RFC 9000, section 13.3; RFC
-- 9002, section 2).
use Rattle.std.specs.Prelude.{ℕ, true, List, [], ◌∷◌, Option, Some, None}
use Rattle.std.specs.List.{fold}
use Rattle.quic_send_buffer.specs.declared.stream_meta.StreamMeta.{StreamMeta}
use Rattle.quic_wire.specs.Value.{FrameValue, ack, stream, ack_frequency}
use Rattle.quic_retransmits.specs.Retransmits.{Retransmits, nothing_waits}
use Rattle.quic_streams_parts.specs.SendHalf.{meta_of}
use Rattle.quic_streams_state.specs.Control as control
pub use Rattle.quic_streams_state.specs.Control.{dir_named}
pub use Rattle.quic_spaces.specs.Tracking.{Carried, TrackedPacket, Tracking, nothing_tracked, asks_any, without_record, is_behind, tail_of, forgets, forgotten, oldest, without_packet, asking_sent, after_sent, counted, after_loss_timeout, after_answered, names, acked_by, not_acked_by}
pub use Rattle.quic_spaces.specs.Loss.{loss_delay, Verdict, verdict_at, lost_before, is_by, is_lost, lost_by, kept_by, lesser, least_of, overdue, loss_time_of, after_detection, backed_off, probe_moment, moment_or, loss_moment}

-- the greatest number that the first ACK frame names
abbrev pub acked_in : List FrameValue → Option ℕ
acked_in [] = None
acked_in (ack a ∷ fs) = Some a.largest
acked_in (f ∷ fs) = acked_in fs

-- those of the STREAM frames
abbrev pub streams_in : List FrameValue → List StreamMeta
streams_in [] = []
streams_in (stream f ∷ fs) = meta_of f ∷ streams_in fs
streams_in (f ∷ fs) = streams_in fs

-- what has to be sent again if one more frame is lost: in the place of ACK_FREQUENCY another goes
-- (QUIC Acknowledgement Frequency, section 4)
abbrev pub and_again : Retransmits → FrameValue → Retransmits
and_again r (ack_frequency f) = record r { ack_frequency = true }
and_again r f = control.and_again r f

-- what has to be sent again if several frames are lost, beside the bytes of streams
abbrev pub retransmits_in : List FrameValue → Retransmits
retransmits_in frames = fold and_again nothing_waits frames

-- what frames carry together
abbrev pub carried_in : List FrameValue → Carried
carried_in frames = record { largest_acked = acked_in frames; stream_frames = streams_in frames; retransmits = retransmits_in frames }
