-- Which tracked packets are acknowledged and which are found lost, and what that makes of an end
-- and of its streams alone.
use Rattle.std.specs.Prelude.{◌≡◌, ◌≢◌, ℕ, ◌-◌, Bool, true, List, [], ◌∷◌, length, Option, Some, None, IsSome}
use Rattle.quic_wire.specs.Value.{AckValue}
use Rattle.quic_send_buffer.specs.declared.stream_meta.StreamMeta.{StreamMeta}
use Rattle.quic_retransmits.specs.Retransmits.{merged}
use Rattle.quic_streams_state.specs.declared.state.StreamsState.{StreamsState}
use Rattle.quic_streams_state.specs.State.{Streams, streams_of}
use Rattle.quic_streams_state.specs.Acked.{after_stream_acked, after_stream_lost, after_reset_acked}
use Rattle.quic_sent_packets.specs.Packets.{from}
use Rattle.quic_time.specs.Rtt.{with_sample}
use Rattle.quic_time.specs.Timers.{has_come}
use Rattle.quic_machine.specs.Tracking.{TrackedPacket, Carried, Tracking, Verdict, lost_by, kept_by}
use Rattle.quic_machine.specs.Sizes.{with_all_lost}
use Rattle.quic_machine.specs.End.{End, with_tracking, with_discovery, with_rtt}
use Rattle.quic_congestion.specs.Congestion.{Told}
use Rattle.quic_streams_parts.specs.Table.{Table}
use Rattle.quic_machine.specs.Control.{last_sent}
use Rattle.quic_machine.specs.Acked.{verdict, packets_lost, told_delay, first_measured, losses_taken, told_of_losses}

-- ---- packets that are lost

-- the first packet that a verdict finds lost is taken out, and below its number none is lost then
pub record TakesLost (v : Verdict) (p : ℕ × TrackedPacket) (old new : Tracking) : Type 0 where
  pub first : lost_by v old.packets ≡ p ∷ lost_by v new.packets
  pub kept : kept_by v new.packets ≡ kept_by v old.packets
  pub behind : lost_by v (from p.0 new.packets) ≡ lost_by v new.packets
  pub others : new ≡ record old { packets = new.packets }

-- the end once the packets are lost that a verdict finds so: the others stay tracked, and the
-- search for a size has learned of each, where this was the number of its open probe
abbrev pub after_losses : Option ℕ → Verdict → End → End
after_losses probe v e =
    let lost = lost_by v e.tracking.packets in
    with_discovery (with_tracking (packets_lost lost e) (record e.tracking { packets = kept_by v e.tracking.packets })) (with_all_lost probe lost e.path.discovery)

-- the loss timer has come at the moment of an end, was set for a packet that may be lost by time,
-- and a packet is lost
pub record LosesByTime (e : End) : Type 0 where
  pub come : has_come e.timers.loss_detection e.closing.clock ≡ true
  pub set : IsSome e.tracking.loss_time
  pub some : lost_by (verdict e) e.tracking.packets ≢ []

-- ---- the round trip

-- the end with the round trip of a packet that went at a moment as one more sample, if there is one
abbrev pub sampled_at : Option ℕ → AckValue → End → End
sampled_at None a e = e
sampled_at (Some sent) a e = with_rtt e (with_sample e.path.rtt (told_delay e a) (e.closing.clock - sent)) (first_measured e.path.first_after_rtt e.numbers.next)

-- ---- what an ACK frame makes of streams alone

-- RESET_STREAM frames, of these streams with these codes, are acknowledged
abbrev pub with_resets_acked : List (ℕ × ℕ) → Streams → Streams
with_resets_acked [] t = t
with_resets_acked (r ∷ rs) t = with_resets_acked rs (after_reset_acked t.state t.pending r.0)

-- STREAM frames are acknowledged
abbrev pub with_frames_acked : List StreamMeta → Streams → Streams
with_frames_acked [] t = t
with_frames_acked (m ∷ ms) t = with_frames_acked ms (after_stream_acked t.state t.pending m)

-- what a packet carried is acknowledged
abbrev pub with_carried_acked : Carried → Streams → Streams
with_carried_acked c t = with_frames_acked c.stream_frames (with_resets_acked c.retransmits.reset_stream t)

-- STREAM frames are lost
abbrev pub with_frames_lost : List StreamMeta → StreamsState → StreamsState
with_frames_lost [] s = s
with_frames_lost (m ∷ ms) s = with_frames_lost ms (after_stream_lost s m)

-- what a packet carried is lost
abbrev pub with_carried_lost : Carried → Streams → Streams
with_carried_lost c t = streams_of (with_frames_lost c.stream_frames t.state) (merged t.pending c.retransmits)

-- ---- an ACK frame

-- the end once the packets that an ACK frame names, which are these, are acknowledged and others
-- are lost; counts of marks aren't judged yet
abbrev pub acked_taken : Table TrackedPacket → Bool → AckValue → End → End
acked_taken [] rises a e = e
acked_taken (p ∷ ps) rises a e = losses_taken (p ∷ ps) rises a e

-- what the controller is told of them
abbrev pub acked_told : Table TrackedPacket → Bool → AckValue → End → List Told
acked_told [] rises a e = []
acked_told (p ∷ ps) rises a e = told_of_losses (p ∷ ps) rises a e

-- how many they are, and when the last of them went, if there are some
abbrev pub acked_count : Table TrackedPacket → Option (ℕ × ℕ)
acked_count [] = None
acked_count (p ∷ ps) = Some (length (p ∷ ps), last_sent (p ∷ ps))
