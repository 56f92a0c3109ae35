-- What the calls of a send buffer make, one after another.
use Rattle.std.specs.Prelude.{ℕ, Bool, false, not, ◌&&◌, ◌||◌, List, [], ◌∷◌, ◌++◌, length}
use Rattle.quic_sets.specs.Runs.{Run}
use Rattle.quic_sets.specs.Offsets.{is_within, has}
use Rattle.quic_send_buffer.specs.Buffered.{Buffered, nothing_written, piece_of, after_write, after_ack, after_loss, after_poll, next_start, sent_end}

-- bytes were written; the offsets from one up to another were acknowledged, or lost; a frame was
-- asked for, with so much room
pub data Call : Type 0 where
  wrote : List ℕ → Call
  acked : ℕ → ℕ → Call
  lost : ℕ → ℕ → Call
  polled : ℕ → Call

-- what is buffered after calls, the latest first
abbrev pub buffered_after : List Call → Buffered
buffered_after [] = nothing_written
buffered_after (wrote bytes ∷ calls) = after_write (buffered_after calls) bytes
buffered_after (acked a z ∷ calls) = after_ack (buffered_after calls) a z
buffered_after (lost a z ∷ calls) = after_loss (buffered_after calls) a z
buffered_after (polled most ∷ calls) = after_poll (buffered_after calls) most

-- all bytes that were written, in their order
abbrev pub written_over : List Call → List ℕ
written_over [] = []
written_over (wrote bytes ∷ calls) = written_over calls ++ bytes
written_over (acked a z ∷ calls) = written_over calls
written_over (lost a z ∷ calls) = written_over calls
written_over (polled most ∷ calls) = written_over calls

-- the lengths of the writes that had bytes, in their order
abbrev pub writes_of : List Call → List ℕ
writes_of [] = []
writes_of (wrote bytes ∷ calls) = writes_of calls ++ piece_of (length bytes)
writes_of (acked a z ∷ calls) = writes_of calls
writes_of (lost a z ∷ calls) = writes_of calls
writes_of (polled most ∷ calls) = writes_of calls

-- the offsets that a poll gives after calls
abbrev pub goes_after : List Call → ℕ → Run
goes_after calls most = record { start = next_start (buffered_after calls); end = sent_end (buffered_after calls) most }

-- whether it gives an offset
abbrev pub goes : List Call → ℕ → ℕ → Bool
goes calls most o = is_within (goes_after calls most).start (goes_after calls most).end o

-- the offsets that the polls gave, the latest first
abbrev pub sent_over : List Call → List Run
sent_over [] = []
sent_over (wrote bytes ∷ calls) = sent_over calls
sent_over (acked a z ∷ calls) = sent_over calls
sent_over (lost a z ∷ calls) = sent_over calls
sent_over (polled most ∷ calls) = goes_after calls most ∷ sent_over calls

-- whether a poll gave an offset
abbrev pub was_sent : List Call → ℕ → Bool
was_sent calls o = has (sent_over calls) o

-- whether an offset was acknowledged when it had been sent
abbrev pub was_acked : List Call → ℕ → Bool
was_acked [] o = false
was_acked (wrote bytes ∷ calls) o = was_acked calls o
was_acked (acked a z ∷ calls) o = was_acked calls o || (is_within a z o && was_sent calls o)
was_acked (lost a z ∷ calls) o = was_acked calls o
was_acked (polled most ∷ calls) o = was_acked calls o

-- whether an offset was lost when it had been sent and wasn't acknowledged, and neither
-- acknowledged nor sent since
abbrev pub was_lost : List Call → ℕ → Bool
was_lost [] o = false
was_lost (wrote bytes ∷ calls) o = was_lost calls o
was_lost (acked a z ∷ calls) o = was_lost calls o && not (is_within a z o)
was_lost (lost a z ∷ calls) o = was_lost calls o || ((is_within a z o && was_sent calls o) && not (was_acked calls o))
was_lost (polled most ∷ calls) o = was_lost calls o && not (goes calls most o)
