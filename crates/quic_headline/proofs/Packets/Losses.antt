-- What holds of an end stays where packets are lost, if it stays with each that was tracked.
use Rattle.std.proofs.Common.{ℕ, List, [], ◌∷◌, refl, inl, inr, Bool}
use Rattle.quic_send_buffer.specs.declared.stream_meta.StreamMeta.{StreamMeta}
use Rattle.quic_streams_parts.specs.Table.{Table}
use Rattle.quic_recovery_core.specs.PendingAcks.{Pending}
use Rattle.quic_time.specs.Timers.{Timers}
use Rattle.quic_streams_state.specs.State.{Streams, streams_of}
use Rattle.quic_machine.specs.Closing.{ticked}
use Rattle.quic_machine.specs.Tracking.{TrackedPacket, Carried, is_lost, lost_by}
use Rattle.quic_machine.specs.End.{End, with_closing, streams_at}
use Rattle.quic_machine.specs.Acked.{stream_lost, streams_lost, again, carried_lost, packets_lost, verdict, losses_detected}
use Rattle.quic_machine.specs.LeaveCases.{at_losses}
use Rattle.quic_machine.specs.PollCases.{ready_at}
use Rattle.quic_headline.specs.Runs.{In}
use Rattle.quic_machine.specs.Validation.{Asked}
use Rattle.quic_headline.proofs.Packets.Searches.{by_losses}
use Rattle.quic_headline.proofs.Packets.Named.{in_filter}
use Rattle.quic_headline.proofs.Packets.Probes.{ready_streams}

-- What stays of streams and of what waits beside their bytes where a STREAM frame of one of these
-- packets is lost, and where what else it carried waits again.
pub record Losing (packets : Table TrackedPacket) (P : Streams → Type 0) : Type 0 where
  pub lost : (n : ℕ) (t : TrackedPacket) (m : StreamMeta) (e : End) → In (n, t) packets → In m t.carried.stream_frames → P (streams_at e) → P (streams_at (stream_lost m e))
  pub again : (n : ℕ) (t : TrackedPacket) (e : End) → In (n, t) packets → P (streams_at e) → P (streams_at (again t.carried e))

module _ (packets : Table TrackedPacket) (P : Streams → Type 0) (l : Losing packets P) where
  -- the STREAM frames of one
  frames_lost : (n : ℕ) (t : TrackedPacket) → In (n, t) packets → (ms : List StreamMeta) (e : End) → ((m : StreamMeta) → In m ms → In m t.carried.stream_frames) → P (streams_at e) → P (streams_at (streams_lost ms e))
  frames_lost n t among [] e inside i = i
  frames_lost n t among (m ∷ ms) e inside i = frames_lost n t among ms (stream_lost m e) (λ q j. inside q (inr j)) (l.lost n t m e among (inside m (inl refl)) i)

  -- some of these packets
  some_lost : (ps : Table TrackedPacket) (e : End) → ((n : ℕ) (t : TrackedPacket) → In (n, t) ps → In (n, t) packets) → P (streams_at e) → P (streams_at (packets_lost ps e))
  some_lost [] e inside i = i
  some_lost (p ∷ ps) e inside i =
      let c : Carried = p.1.carried in
      let here : In (p.0, p.1) packets = inside p.0 p.1 (inl refl) in
      some_lost ps (carried_lost c e) (λ n t j. inside n t (inr j)) (l.again p.0 p.1 (streams_lost c.stream_frames e) here (frames_lost p.0 p.1 here c.stream_frames e (λ m j. j) i))

module _ (P : Streams → Type 0) (e : End) (l : Losing e.tracking.packets P) (i : P (streams_at e)) where
  -- losses are detected
  pub losses_stay : P (streams_at (losses_detected e))
  losses_stay = by_losses (λ (x : End). P (streams_at x)) e (λ discovery queues. some_lost e.tracking.packets P l (lost_by (verdict e) e.tracking.packets) e (λ n t j. in_filter (is_lost (verdict e)) (n, t) e.tracking.packets j) i)

module _ (P : Streams → Type 0) (e : End) (now : ℕ) (l : Losing e.tracking.packets P) (i : P (streams_at e)) where
  -- by a timeout
  pub expiry_stays : (acks : Pending) (timers : Timers) (waits : Bool) (asked : Asked) → P (streams_at (at_losses e now acks timers waits asked))
  expiry_stays acks timers waits asked = losses_stay P (with_closing e (ticked e.closing now)) l i

  -- where something waits for each probe, and whether or not ACK_FREQUENCY does
  pub ready_stays : ((waits : Bool) (t : Streams) → P t → P (streams_of t.state (record t.pending { ack_frequency = waits }))) → P (streams_at (ready_at e now).end)
  ready_stays asks = ready_streams P e now i asks (λ n t among. l.again n t e among i)
