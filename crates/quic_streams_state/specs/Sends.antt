-- What calls on one sending half leave of what is sent on all streams.
use Rattle.std.specs.Prelude.{ℕ, ◌+◌, ◌==◌, Bool, true, false, if◌then◌else◌, List, ◌∷◌, length, Option, Some, None}
use Rattle.quic_wire_core.specs.declared.stream_id.Side.{Side}
use Rattle.quic_send_buffer.specs.Source.{cut_to}
use Rattle.quic_streams_parts.specs.Table.{put}
use Rattle.quic_send_buffer.specs.declared.stream_meta.StreamMeta.{StreamMeta}
use Rattle.quic_streams_parts.specs.SendHalf.{SendHalf, Queued, is_ready, requeued, requeued_at, grown, grown_all, ended, reset_now, frame_counts, half_after, half_acked, half_lost, turned}
use Rattle.quic_streams_parts.specs.Queue.{Queue, Place, after_remove}
use Rattle.quic_streams_halves.specs.Halves.{with_half, without_half}
use Rattle.quic_streams_state.specs.Parts.{Sending}

-- a half has another value, and stands there in the queue
abbrev pub with_queued : Sending → Side → ℕ → Queued → Sending
with_queued s side id q = record s { halves = with_half side s.halves id q.half; queue = q.queue }

-- bytes that were accepted wait to go behind those before them
abbrev pub grown_half : SendHalf → Sending → Side → ℕ → List ℕ → Sending
grown_half h s side id bytes = record (with_queued s side id (requeued_at h.place true s.queue id (grown h bytes))) { accepted = s.accepted + length bytes }

-- so many bytes of buffers that were accepted wait to go behind those before them
abbrev pub chunks_grown_half : SendHalf → Sending → Side → ℕ → ℕ → List (List ℕ) → Sending
chunks_grown_half h s side id n cs = record (with_queued s side id (requeued_at h.place true s.queue id (grown_all h (cut_to n cs)))) { accepted = s.accepted + n }

-- the end waits to go
abbrev pub finished_half : SendHalf → Sending → Side → ℕ → Sending
finished_half h s side id = with_queued s side id (requeued_at h.place true s.queue id (ended h))

-- nothing waits to go
abbrev pub reset_half : SendHalf → Sending → Side → ℕ → Sending
reset_half h s side id = with_queued s side id (requeued_at h.place false s.queue id (reset_now h))

-- ---- the same of a half that is in use, if it is

-- a half in use has another value, and the queue is another
abbrev pub with_live_queued : Sending → ℕ → Queued → Sending
with_live_queued s id q = record s { halves = record s.halves { live = put s.halves.live id q.half }; queue = q.queue }

-- so many bytes of buffers that were accepted on a half in use wait to go
abbrev pub chunks_grown_in : Option SendHalf → Sending → ℕ → ℕ → List (List ℕ) → Sending
chunks_grown_in None s id n cs = s
chunks_grown_in (Some h) s id n cs = record (with_live_queued s id (requeued_at h.place true s.queue id (grown_all h (cut_to n cs)))) { accepted = s.accepted + n }

-- bytes that were accepted on a half in use wait to go; none leave all as it was
abbrev pub accepted_in : Option SendHalf → Sending → ℕ → List ℕ → Sending
accepted_in None s id bytes = s
accepted_in (Some h) s id bytes = if length bytes == 0 then s else record (with_live_queued s id (requeued_at h.place true s.queue id (grown h bytes))) { accepted = s.accepted + length bytes }

-- the end of a half in use waits to go
abbrev pub finished_in : Option SendHalf → Sending → ℕ → Sending
finished_in None s id = s
finished_in (Some h) s id = with_live_queued s id (requeued_at h.place true s.queue id (ended h))

-- a half in use is reset: nothing of it waits to go
abbrev pub reset_in : Option SendHalf → Sending → ℕ → Sending
reset_in None s id = s
reset_in (Some h) s id = with_live_queued s id (requeued_at h.place false s.queue id (reset_now h))

-- a half is among those whose write the connection blocked, the latest first, each once
abbrev pub blocked_in : Option SendHalf → Sending → ℕ → Sending
blocked_in None s id = s
blocked_in (Some h) s id = if h.blocked then s else record s { halves = record s.halves { live = put s.halves.live id (record h { blocked = true }) }; blocked = id ∷ s.blocked }

-- the same of one that isn't in use
abbrev pub blocked_fresh : SendHalf → Sending → Side → ℕ → Sending
blocked_fresh h s side id = record s { halves = with_half side s.halves id (record h { blocked = true }); blocked = id ∷ s.blocked }

-- a half in use has another value, and is in the queue while it has something to send
abbrev pub replaced_in : Sending → ℕ → SendHalf → Sending
replaced_in s id h = with_live_queued s id (requeued s.queue id h)

-- a frame of a half in use is acknowledged
abbrev pub acked_in : Option SendHalf → Sending → StreamMeta → Sending
acked_in None s m = s
acked_in (Some h) s m = replaced_in s m.id (half_acked h m)

-- a frame of a half in use is lost
abbrev pub lost_in : Option SendHalf → Sending → StreamMeta → Sending
lost_in None s m = s
lost_in (Some h) s m = replaced_in s m.id (half_lost h m)

-- the same, unless its end or a reset was told
abbrev pub acked_if_ready_in : Option SendHalf → Sending → StreamMeta → Sending
acked_if_ready_in None s m = s
acked_if_ready_in (Some h) s m = if is_ready h then acked_in (Some h) s m else s

-- a frame of a half in use goes, where streams take turns or don't, and so many bytes are left
-- behind its type and id
abbrev pub sent_in : Bool → Option SendHalf → Sending → ℕ → ℕ → Sending
sent_in fair None s id room = s
sent_in fair (Some h) s id room = with_live_queued s id (turned fair s.queue id (half_after h room))

-- the same, if that frame brings a byte or the end
abbrev pub sent_if_counts_in : Bool → Option SendHalf → Sending → ℕ → ℕ → Sending
sent_if_counts_in fair None s id room = s
sent_if_counts_in fair (Some h) s id room = if frame_counts h room then sent_in fair (Some h) s id room else s

-- ---- a half is done

-- the queue without a place, if there is one
abbrev pub given_up : Option Place → Queue → Queue
given_up None q = q
given_up (Some place) q = after_remove q place

-- the queue without the place of a half in use, if it has one
abbrev pub unqueued : Option SendHalf → Queue → Queue
unqueued None q = q
unqueued (Some h) q = given_up h.place q

-- a half is no longer in use, and stands nowhere in the queue
abbrev pub removed_in : Option SendHalf → Sending → ℕ → Sending
removed_in o s id = record s { halves = without_half s.halves id; queue = unqueued o s.queue }
