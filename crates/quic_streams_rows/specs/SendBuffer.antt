-- Calls on a send buffer one behind another, and what they give and leave.
use Rattle.std.specs.Prelude.{ℕ, zero, suc, ◌+◌, ◌-◌, min, Bool, List, [], ◌∷◌, ◌++◌, length, replicate, codes, slice_range}
use Rattle.quic_send_buffer.specs.Buffered.{Buffered, nothing_written, is_fully_acked, has_unsent, piece_end, after_write, after_writes, after_ack, after_loss, after_poll, next_start, sent_end, writes_length}
use Rattle.quic_send_buffer.specs.BufferedHistory.{Call, wrote, acked, lost, polled}
use Rattle.quic_send_buffer.specs.Source.{cut_to}

-- what a call leaves
abbrev pub after_call : Buffered → Call → Buffered
after_call b (wrote bytes) = after_write b bytes
after_call b (acked a z) = after_ack b a z
after_call b (lost a z) = after_loss b a z
after_call b (polled most) = after_poll b most

-- what calls leave, the first call first
abbrev pub after_calls : Buffered → List Call → Buffered
after_calls b [] = b
after_calls b (call ∷ calls) = after_calls (after_call b call) calls

-- a frame: its first offset, the one behind its last, and whether its length is written
abbrev pub Sent : Type 0
Sent = ℕ × ℕ × Bool

-- the frame that a call gives, before others
abbrev pub with_frame : Buffered → Call → List Sent → List Sent
with_frame b (polled most) frames = (next_start b, sent_end b most, writes_length b most) ∷ frames
with_frame b call frames = frames

-- the frames that calls give
abbrev pub frames_of : Buffered → List Call → List Sent
frames_of b [] = []
frames_of b (call ∷ calls) = with_frame b call (frames_of (after_call b call) calls)

-- how many bytes are kept behind each call
abbrev pub kept_over : Buffered → List Call → List ℕ
kept_over b [] = []
kept_over b (call ∷ calls) = let c = after_call b call in length c.kept ∷ kept_over c calls

-- whether each byte is acknowledged behind each call, and whether there is one to send
abbrev pub told_over : Buffered → List Call → List (Bool × Bool)
told_over b [] = []
told_over b (call ∷ calls) = let c = after_call b call in (is_fully_acked c, has_unsent c) ∷ told_over c calls

-- what is fetched of a range: its bytes up to the end of the piece that has the first
abbrev pub fetched : Buffered → ℕ → ℕ → List ℕ
fetched b start end = slice_range b.kept (start - b.base) (min end (piece_end b.base b.pieces start) - b.base)

-- what is appended of a range: all of its bytes
abbrev pub put_out : Buffered → ℕ → ℕ → List ℕ
put_out b start end = slice_range b.kept (start - b.base) (end - b.base)

-- ---- rows

-- 29 bytes were written
abbrev pub hello_written : Buffered
hello_written = after_write nothing_written (codes "Hello, world with extra data!")

-- the same bytes go, and the first 16 and the next 7 are lost
abbrev pub lost_calls : List Call
lost_calls = wrote (codes "Hello, world with extra data!") ∷ polled 16 ∷ polled 16 ∷ lost 0 16 ∷ polled 16 ∷ polled 16 ∷ lost 16 23 ∷ polled 16 ∷ []

-- two pieces are written, go, and are acknowledged but for their last byte, which is lost first
abbrev pub whole_calls : List Call
whole_calls = wrote (codes "Hello, ") ∷ wrote (codes "world...") ∷ polled 16 ∷ polled 16 ∷ acked 8 12 ∷ acked 0 7 ∷ acked 7 14 ∷ lost 0 64 ∷ polled 16 ∷ acked 14 64 ∷ []

-- 60 bytes go, two runs of them are acknowledged, all others are lost, and one more is acknowledged
abbrev pub cut_calls : List Call
cut_calls = wrote (codes "012345678901234567890123456789012345678901234567890123456789") ∷ polled 16 ∷ polled 16 ∷ polled 16 ∷ polled 16 ∷ polled 16 ∷ acked 20 25 ∷ acked 40 50 ∷ lost 0 60 ∷ acked 30 35 ∷ polled 16 ∷ polled 16 ∷ polled 16 ∷ polled 16 ∷ polled 16 ∷ []

-- and then some are lost once more, and all are acknowledged
abbrev pub joined_calls : List Call
joined_calls = lost 18 27 ∷ lost 16 18 ∷ polled 16 ∷ polled 16 ∷ polled 16 ∷ acked 0 40 ∷ acked 50 64 ∷ []

-- of every two bytes from an even offset on the second is acknowledged, so many times
abbrev pub acks_apart : ℕ → ℕ → List Call
acks_apart at zero = []
acks_apart at (suc n) = acked (at + 1) (at + 2) ∷ acks_apart (at + 2) n

-- 90 bytes go, 44 of them are acknowledged apart, the others are lost, and two go again
abbrev pub many_calls : List Call
many_calls = wrote (replicate 90 0x78) ∷ polled 200 ∷ (acks_apart 0 44 ++ lost 0 90 ∷ polled 16 ∷ polled 16 ∷ [])

-- and then all are acknowledged
abbrev pub all_acked : List Call
all_acked = acked 0 90 ∷ []

-- of these chunks 12 bytes were written
abbrev pub chunks_written : Buffered
chunks_written = after_writes nothing_written (cut_to 12 (codes "Hello, " ∷ [] ∷ codes "world and more" ∷ codes "!" ∷ []))

-- of 24 chunks of two bytes 47 bytes were written
abbrev pub many_chunks_written : Buffered
many_chunks_written = after_writes nothing_written (cut_to 47 (replicate 24 (codes "ab")))

-- two pieces were written
abbrev pub two_pieces : Buffered
two_pieces = after_write (after_write nothing_written (codes "Hello, ")) (codes "world")
