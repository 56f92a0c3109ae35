-- A half with nothing to send has nothing to send after a frame of it was acknowledged.
use Rattle.std.proofs.Common.{◌≡◌, ℕ, Bool, true, false, cond, ltb, List, [], ◌∷◌, ◌||◌, min, refl}
use Rattle.quic_sets.specs.Runs.{Run}
use Rattle.quic_sets.specs.Pieces.{pieces}
use Rattle.quic_sets.specs.Offsets.{has_any, without_offsets, parts_from}
use Rattle.quic_send_buffer.specs.declared.stream_meta.StreamMeta.{StreamMeta}
use Rattle.quic_send_buffer.specs.Buffered.{Buffered, IsBuffered, written, has_unsent, after_ack}
use Rattle.quic_send_buffer.proofs.Buffered.Calls.{ack_written}
use Rattle.quic_streams_parts.specs.SendHalf.{SendHalf, has_pending, half_acked}

wrong : true ≡ false → ⊥
wrong e = cc

nothing_lost : (a z : ℕ) → without_offsets a z [] ≡ []
unfolding without_offsets pieces parts_from
nothing_lost a z = go (ltb a z)
  where
    go : (b : Bool) → cond {A = List Run} b [] [] ≡ []
    go true = refl
    go false = refl

idle_buffer : (b : Buffered) (a z : ℕ) → IsBuffered b → has_unsent b ≡ false → has_unsent (after_ack b a z) ≡ false
idle_buffer b a z lawful quiet = go b.lost quiet
  where
    go : (l : List Run) → (has_any l || ltb b.unsent (written b)) ≡ false → (has_any (without_offsets a (min z b.unsent) l) || ltb b.unsent (written (after_ack b a z))) ≡ false
    go [] e = rw (nothing_lost a (min z b.unsent), ack_written b a z lawful) e
    go (x ∷ xs) e = absurd (wrong e)

pub idle_half : (h : SendHalf) (m : StreamMeta) → IsBuffered h.buffer → has_pending h ≡ false → has_pending (half_acked h m) ≡ false
idle_half h m lawful quiet = go (has_unsent h.buffer) refl quiet
  where
    go : (u : Bool) → has_unsent h.buffer ≡ u → (u || h.end_waits) ≡ false → (has_unsent (after_ack h.buffer m.offsets.start m.offsets.end) || h.end_waits) ≡ false
    go true is e = absurd (wrong e)
    go false is e = rw (idle_buffer h.buffer m.offsets.start m.offsets.end lawful is) e
