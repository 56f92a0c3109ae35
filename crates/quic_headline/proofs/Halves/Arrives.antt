-- All streams of an end hold what was written on them, after each frame that comes, and after what
-- an ACK frame acknowledges or lets count as lost.
use Rattle.std.proofs.Common.{◌≡◌, ℕ, true, List, refl}
use Rattle.quic_wire.specs.Value.{FrameValue, stream, reset_stream, stop_sending, max_data, max_stream_data, max_streams}
use Rattle.quic_send_buffer.specs.declared.stream_meta.StreamMeta.{StreamMeta}
use Rattle.quic_streams_state.specs.State.{Streams, streams_of}
use Rattle.quic_streams_state.specs.Taking.{after_stream, after_reset_frame, after_stop_sending, after_max_data, after_max_stream_data}
use Rattle.quic_streams_state.specs.Opening.{after_max_streams}
use Rattle.quic_streams_state.specs.Acked.{after_stream_acked, after_stream_lost, after_reset_acked}
use Rattle.quic_retransmits.specs.Retransmits.{merged}
use Rattle.quic_streams_laws.specs.KeepingLaws.{by_stream, by_reset_frame, by_stop_sending, by_max_data, by_max_stream_data, by_max_streams, by_stream_acked, by_stream_lost, by_reset_acked, stop_on, limit_on, lost_on, acked_on}
use Rattle.quic_streams_laws.specs.Written.{Wrote, IsSendHalf}
use Rattle.quic_streams_laws.specs.WrittenHalves.{stopped_holds, limited_holds, acked_holds, lost_holds}
use Rattle.quic_streams_laws.specs.WrittenLaws.{live_holds}
use Rattle.quic_streams_laws.specs.WrittenResets.{resets_merged}
use Rattle.quic_machine.specs.Tracking.{Carried, dir_named}
use Rattle.quic_machine.specs.End.{End, streams_at}
use Rattle.quic_machine.specs.Receive.{take_frame}
use Rattle.quic_machine.specs.FrameCases.{OnStreams}
use Rattle.quic_machine.specs.Steps as steps
use Rattle.quic_headline.specs.Runs.{Packet}
use Rattle.quic_headline.specs.Observer.{Sent}
use Rattle.quic_headline.proofs.Packets.Named.{SettlesIf, SettlesOn, WasCarried, IsCarriedBy}
use Rattle.quic_headline.proofs.Halves.Kept.{Keeping, keeping_kept}
use Rattle.quic_headline.proofs.Halves.Waiting.{SameResets, stream_same, reset_same, stream_acked_same, reset_acked_same}
use Rattle.quic_headline.proofs.Halves.Writes.{Writes, waits_same}
use Rattle.quic_headline.proofs.Halves.Says.{CarriedSays}
use Rattle.quic_headline.proofs.Halves.Small.{IsSmallLimit}

module _ (done : ℕ → Wrote) (e : End) (w : Writes done (streams_at e)) where
  -- what leaves the resets that wait
  abbrev leaves : (t : Streams) → Keeping done t.state → SameResets e.waiting.frames t → Writes done t
  leaves t keeps same = record { keeps = keeps; waits = waits_same done e.waiting.frames t same w.waits }

  -- ---- frames

  -- a frame on streams, whose limit is small
  pub frame_leaves : (f : FrameValue) → OnStreams f → IsSmallLimit f → Writes done (streams_at (take_frame f e).end)
  frame_leaves (stream f) on small = leaves (after_stream e.streams e.waiting.frames f) (by_stream (Keeping done) (keeping_kept done) e.streams e.waiting.frames f (λ h part u. tt) w.keeps) (stream_same e.streams e.waiting.frames f)
  frame_leaves (reset_stream f) on small = leaves (after_reset_frame e.streams e.waiting.frames f) (by_reset_frame (Keeping done) (keeping_kept done) e.streams e.waiting.frames f (λ h part u. tt) w.keeps) (reset_same e.streams e.waiting.frames f)
  frame_leaves (stop_sending f) on small = leaves (streams_of (after_stop_sending e.streams f) e.waiting.frames) (by_stop_sending (Keeping done) (keeping_kept done) e.streams f (λ h is. (stop_on h f.code, λ x. stopped_holds (done f.id) h x f.code)) w.keeps) refl
  frame_leaves (max_data limit) on small = leaves (streams_of (after_max_data e.streams limit) e.waiting.frames) (by_max_data (Keeping done) (keeping_kept done) e.streams limit w.keeps) refl
  frame_leaves (max_stream_data f) on small = leaves (streams_of (after_max_stream_data e.streams f.id f.limit) e.waiting.frames)
      (by_max_stream_data (Keeping done) (keeping_kept done) e.streams f.id f.limit (λ h is above. (limit_on h f.limit above, λ x. limited_holds (done f.id) h x f.limit above small)) w.keeps) refl
  frame_leaves (max_streams f) on small = leaves (streams_of (after_max_streams (dir_named f.one_way) f.count e.streams) e.waiting.frames) (by_max_streams (Keeping done) (keeping_kept done) (dir_named f.one_way) f.count e.streams w.keeps) refl
  frame_leaves f on small = absurd on

  -- ---- what is acknowledged, and what is lost

  -- a STREAM frame that is acknowledged had the end only where there is one
  acked_leaves : (m : StreamMeta) → (m.fin ≡ true → (done m.id).ended ≡ true) → Writes done (after_stream_acked e.streams e.waiting.frames m)
  acked_leaves m ends =
      leaves (after_stream_acked e.streams e.waiting.frames m)
      (by_stream_acked (Keeping done) (keeping_kept done) e.streams e.waiting.frames m
      (λ h is free. (let held : IsSendHalf (done m.id) h = live_holds done e.streams w.keeps.holds m.id h is in (acked_on h m held.lawful.whole, λ x. acked_holds (done m.id) h x m ends)))
      (λ h is free all. tt) w.keeps)
      (stream_acked_same e.streams e.waiting.frames m)

  -- and one that is lost
  pub lost_leaves : (m : StreamMeta) → (m.fin ≡ true → (done m.id).ended ≡ true) → Writes done (streams_of (after_stream_lost e.streams m) e.waiting.frames)
  lost_leaves m ends =
      leaves (streams_of (after_stream_lost e.streams m) e.waiting.frames)
      (by_stream_lost (Keeping done) (keeping_kept done) e.streams m (λ h is free. (lost_on h m, λ x. lost_holds (done m.id) h x m free ends)) w.keeps) refl

  -- RESET_STREAM is acknowledged
  reset_leaves : (id : ℕ) → Writes done (after_reset_acked e.streams e.waiting.frames id)
  reset_leaves id = leaves (after_reset_acked e.streams e.waiting.frames id) (by_reset_acked (Keeping done) (keeping_kept done) e.streams e.waiting.frames id w.keeps) (reset_acked_same e.streams e.waiting.frames id)

  -- what else a packet carried waits again
  pub again_leaves : (c : Carried) → CarriedSays done c → Writes done (streams_of e.streams (merged e.waiting.frames c.retransmits))
  again_leaves c says = record { keeps = w.keeps; waits = resets_merged done e.waiting.frames c.retransmits w.waits says.resets }

-- what an ACK frame makes of an end, where what it acknowledges, and what is lost, says what was
-- written
pub settles_by : (done : ℕ → Wrote) (Acked Lost : Carried → Type 0) → ((c : Carried) → Acked c → CarriedSays done c) → ((c : Carried) → Lost c → CarriedSays done c) → SettlesIf Acked Lost (λ (e : End). Writes done (streams_at e))
settles_by done Acked Lost taken sent (steps.reset id) e may w = reset_leaves done e w id
settles_by done Acked Lost taken sent (steps.acked m) e (c, was, i) w = acked_leaves done e w m ((taken c was).ends m i)
settles_by done Acked Lost taken sent (steps.lost m) e (c, was, i) w = lost_leaves done e w m ((sent c was).ends m i)
settles_by done Acked Lost taken sent (steps.again c) e was w = again_leaves done e w c (sent c was)
settles_by done Acked Lost taken sent s e may w = w

-- so it is where what was sent says what was written
pub settles_leave : (done : ℕ → Wrote) (took : List Packet) (sents : List Sent) → ((c : Carried) → WasCarried took c → CarriedSays done c) → ((c : Carried) → IsCarriedBy sents c → CarriedSays done c) → SettlesOn took sents (λ (e : End). Writes done (streams_at e))
settles_leave done took sents taken sent = settles_by done (WasCarried took) (IsCarriedBy sents) taken sent
