-- What holds of the frames that go into a datagram about streams, whichever of them go: what each
-- step keeps holds of all.
use Rattle.std.proofs.Common.{◌≡◌, ℕ, zero, suc, ◌+◌, ◌≤◌, Bool, true, false, nat_le, List, [], ◌∷◌, length, Option, Some, None, refl, ap, ◌∙◌}
use Rattle.std.specs.Prelude.{if◌then◌else◌}
use Rattle.std.specs.List.{fold}
use Rattle.std.proofs.lemmas.Bool.{leb-true}
use Rattle.quic_wire.specs.Value.{FrameValue}
use Rattle.quic_wire.specs.Writing.{frame_size}
use Rattle.quic_streams_parts.specs.Table.{at}
use Rattle.quic_streams_parts.specs.SendHalf.{SendHalf, frame_counts}
use Rattle.quic_streams_parts.specs.Queue.{first_queued}
use Rattle.quic_retransmits.specs.Retransmits.{Retransmits, others_of, control_kinds}
use Rattle.quic_retransmits.specs.declared.retransmits.ControlKind.{ControlKind}
use Rattle.quic_streams_state.specs.Control.{Entry, Draft, waiting, without_first, first_dropped, first_sent, first_and_more, with_listed, with_kind, with_control_frames}
use Rattle.quic_streams_laws.specs.KindLaws.{GoesFirst, first_goes}
use Rattle.quic_streams_state.specs.ControlLaws as control_laws
use Rattle.quic_streams_state.specs.Frames.{Sent, least_stream_room, stream_room, frame_sent, frame_if, frame_and_more, stream_frames, with_stream_frames}

-- ---- frames of control

-- the others of a kind wait once the first is gone
pub others_wait : (kind : ControlKind) (p : Retransmits) (e : Entry) (es : List Entry) → waiting kind p ≡ e ∷ es → waiting kind (without_first kind p) ≡ es
others_wait kind p e es is = control_laws.others_wait kind p ∙ ap others_of is

-- what holds of a draft stays where the first that waits of a kind is dropped, since it is no
-- longer due, or its frame goes, of which is known what it says
pub record GoesOn (most : ℕ) (P : Draft → Type 0) : Type 0 where
  pub drops : (d : Draft) (kind : ControlKind) (e : Entry) (es : List Entry) → waiting kind d.pending ≡ e ∷ es → e.frame d.state ≡ None → P d → P (first_dropped kind d)
  pub sends : (d : Draft) (kind : ControlKind) (f : FrameValue) → GoesFirst kind d.pending d.state f → d.used + frame_size f ≤ most → P d → P (first_sent kind f d)

module _ (most : ℕ) (P : Draft → Type 0) (c : GoesOn most P) where
  -- what waits of a kind
  listed_keeps : (kind : ControlKind) (es : List Entry) (d : Draft) → waiting kind d.pending ≡ es → P d → P (with_listed kind most es d)
  listed_keeps kind [] d is p = p
  listed_keeps kind (e ∷ es) d is p = go (e.frame d.state) refl (λ x rest q. listed_keeps kind es x rest q)
    where
      goes : (f : FrameValue) → e.frame d.state ≡ Some f → (b : Bool) → nat_le (d.used + frame_size f) most ≡ b → ((x : Draft) → waiting kind x.pending ≡ es → P x → P (with_listed kind most es x)) → P (if b then with_listed kind most es (first_sent kind f d) else d)
      goes f due true fits more = more (first_sent kind f d) (others_wait kind d.pending e es is) (c.sends d kind f (first_goes kind d.pending e es d.state f is due) (leb-true (d.used + frame_size f) most fits) p)
      goes f due false fits more = p

      go : (o : Option FrameValue) → e.frame d.state ≡ o → ((x : Draft) → waiting kind x.pending ≡ es → P x → P (with_listed kind most es x)) → P (first_and_more o (with_listed kind most es) kind most d)
      go None due more = more (first_dropped kind d) (others_wait kind d.pending e es is) (c.drops d kind e es is due p)
      go (Some f) due more = goes f due (nat_le (d.used + frame_size f) most) refl more

  -- what waits of several kinds
  kinds_keep : (kinds : List ControlKind) (d : Draft) → P d → P (fold (with_kind most) d kinds)
  kinds_keep [] d p = p
  kinds_keep (kind ∷ kinds) d p = kinds_keep kinds (with_kind most d kind) (listed_keeps kind (waiting kind d.pending) d refl p)

  -- what each step keeps holds once all went
  pub by_control : (d : Draft) → P d → P (with_control_frames most d)
  by_control d p = kinds_keep control_kinds d p

-- ---- STREAM frames

-- what holds stays where the frame of the stream goes that stands first in the queue, which brings
-- something, where enough bytes are left
abbrev pub SendsOne : Bool → ℕ → (Sent → Type 0) → Type 0
SendsOne fair most P = (d : Sent) (id : ℕ) (h : SendHalf) → at d.state.sending.halves.live id ≡ Some h → first_queued d.state.sending.queue ≡ Some id → length d.bytes + least_stream_room ≤ most → frame_counts h (stream_room most d id) ≡ true → P d → P (frame_sent fair most d id h)

module _ (fair : Bool) (most : ℕ) (P : Sent → Type 0) (one : SendsOne fair most P) where
  -- so many frames at most
  frames_keep : (n : ℕ) (d : Sent) → P d → P (stream_frames n fair most d)
  frames_keep zero d p = p
  frames_keep (suc n) d p = go (nat_le (length d.bytes + least_stream_room) most) refl (λ x q. frames_keep n x q)
    where
      More : Type 0
      More = (x : Sent) → P x → P (stream_frames n fair most x)

      brings : (id : ℕ) (h : SendHalf) → at d.state.sending.halves.live id ≡ Some h → first_queued d.state.sending.queue ≡ Some id → length d.bytes + least_stream_room ≤ most → (b : Bool) → frame_counts h (stream_room most d id) ≡ b → More → P (if b then stream_frames n fair most (frame_sent fair most d id h) else d)
      brings id h found first room true counts more = more (frame_sent fair most d id h) (one d id h found first room counts p)
      brings id h found first room false counts more = p

      half : (id : ℕ) (o : Option SendHalf) → at d.state.sending.halves.live id ≡ o → first_queued d.state.sending.queue ≡ Some id → length d.bytes + least_stream_room ≤ most → More → P (frame_if o (stream_frames n fair most) fair most d id)
      half id None found first room more = p
      half id (Some h) found first room more = brings id h found first room (frame_counts h (stream_room most d id)) refl more

      next : (o : Option ℕ) → first_queued d.state.sending.queue ≡ o → length d.bytes + least_stream_room ≤ most → More → P (frame_and_more o (stream_frames n fair most) fair most d)
      next None first room more = p
      next (Some id) first room more = half id (at d.state.sending.halves.live id) refl first room more

      go : (b : Bool) → nat_le (length d.bytes + least_stream_room) most ≡ b → More → P (frame_and_more (if b then first_queued d.state.sending.queue else None) (stream_frames n fair most) fair most d)
      go true fits more = next (first_queued d.state.sending.queue) refl (leb-true (length d.bytes + least_stream_room) most fits) more
      go false fits more = p

  -- what one frame keeps holds once all went
  pub by_stream_frames : (d : Sent) → P d → P (with_stream_frames fair most d)
  by_stream_frames d p = frames_keep most d p
