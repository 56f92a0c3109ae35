-- What becomes of a sending half and of the queue of those with something to send, which follows
-- it.
use Rattle.std.specs.Prelude.{ℕ, ◌^◌, ◌<◌, Bool, true, false, not, ◌&&◌, ◌==◌, if◌then◌else◌, List, length, Option, Some, None}
use Rattle.std.specs.List.{AllByRecursion}
use Rattle.std.specs.Option.{is_some}
use Rattle.quic_send_buffer.specs.Source.{cut_to}
use Rattle.quic_send_buffer.specs.declared.stream_meta.StreamMeta.{StreamMeta}
use Rattle.quic_streams_parts.specs.Queue.{Queue, Place}
use Rattle.quic_streams_parts.specs.SendHalf.{SendHalf, Queued, is_ready, grown, grown_all, ended, reset_now, frame_counts, half_after, half_acked, half_lost, requeued, requeued_at, turned}

-- the ids of streams are queued (RFC 9000, section 2.1)
abbrev pub AreQueuedIds : List (Place × ℕ) → Type 0
AreQueuedIds es = AllByRecursion (λ e. e.1 < 2 ^ 62) es

-- the queue after a half took another value with it, if there is one
abbrev pub queue_with : (SendHalf → Queued) → Option SendHalf → Queue → Queue
queue_with f None q = q
queue_with f (Some h) q = (f h).queue

-- a half as it is
abbrev pub unmoved : Queue → SendHalf → Queued
unmoved q h = record { half = h; queue = q }

-- a frame of a half was acknowledged
abbrev pub acked_with : StreamMeta → Queue → SendHalf → Queued
acked_with m q h = requeued q m.id (half_acked h m)

-- the same, unless its end or a reset was told
abbrev pub acked_if_ready : StreamMeta → Queue → SendHalf → Queued
acked_if_ready m q h = if is_ready h then acked_with m q h else unmoved q h

-- whether its end was told, and no reset
abbrev pub is_ended : SendHalf → Bool
is_ended h = not (is_some h.reset) && not (is_ready h)

-- the same of a half that may be in use
abbrev pub is_ended_at : Option SendHalf → Bool
is_ended_at None = false
is_ended_at (Some h) = is_ended h

-- a frame of a half was lost
abbrev pub lost_with : StreamMeta → Queue → SendHalf → Queued
lost_with m q h = requeued q m.id (half_lost h m)

-- the next frame of a half goes if it brings a byte or the end, where streams take turns or don't,
-- and so many bytes are left behind its type and id
abbrev pub sent_if_counts : Bool → ℕ → ℕ → Queue → SendHalf → Queued
sent_if_counts fair id room q h = if frame_counts h room then turned fair q id (half_after h room) else unmoved q h

-- the half in use whose next frame brings a byte or the end, with so much room
abbrev pub counting_at : Option SendHalf → ℕ → Option SendHalf
counting_at None room = None
counting_at (Some h) room = if frame_counts h room then Some h else None

-- so many bytes of buffers were accepted on a half
abbrev pub chunks_grown_with : ℕ → ℕ → List (List ℕ) → Queue → SendHalf → Queued
chunks_grown_with id n cs q h = requeued_at h.place true q id (grown_all h (cut_to n cs))

-- bytes were accepted on a half; none leave it as it was
abbrev pub accepted_with : ℕ → List ℕ → Queue → SendHalf → Queued
accepted_with id bytes q h = if length bytes == 0 then unmoved q h else requeued_at h.place true q id (grown h bytes)

-- the end of a half waits to go
abbrev pub finished_with : ℕ → Queue → SendHalf → Queued
finished_with id q h = requeued_at h.place true q id (ended h)

-- a half is reset: nothing of it waits to go
abbrev pub reset_with : ℕ → Queue → SendHalf → Queued
reset_with id q h = requeued_at h.place false q id (reset_now h)
