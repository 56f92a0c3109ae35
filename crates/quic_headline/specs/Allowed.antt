-- A call on a stream is answered that the stream is closed only where nothing more of it is left to
-- do (RFC 9000, sections 2.4, 3.1, 3.2 and 3.5).
use Rattle.std.specs.Prelude.{ℕ, ◌≡◌, ◌⊎◌, Bool, true, false, ◌==◌, ◌&&◌, ◌||◌, not, List, Err}
use Rattle.std.specs.Option.{IsSome}
use Rattle.quic_wire_core.specs.declared.stream_id.Side.{Side}
use Rattle.quic_wire_core.specs.StreamId.{other_side, dir_of}
use Rattle.quic_streams_parts.specs.declared.answers.WriteError.TheVariants as write_errors
use Rattle.quic_streams_parts.specs.declared.answers.FinishError.TheVariants as finish_errors
use Rattle.quic_streams_parts.specs.declared.answers.ReadableError.TheVariants as readable_errors
use Rattle.quic_streams_parts.specs.declared.answers.UpdateError.TheVariants as update_errors
use Rattle.quic_streams_parts.specs.Dirs.{is_own, is_two_way}
use Rattle.quic_machine.specs.declared.run.Call.{Call}
use Rattle.quic_machine.specs.declared.run.Call.TheVariants as calls
use Rattle.quic_machine.specs.declared.run.Answer.{Answer}
use Rattle.quic_machine.specs.declared.run.Answer.TheVariants as answers
use Rattle.quic_headline.specs.Runs.{Run, Told, until, AreServed, nexts, finished, reset}
use Rattle.quic_headline.specs.Observer.{took}
use Rattle.quic_headline.specs.Headline.{IsAt, AllArrived}
use Rattle.quic_headline.specs.Undone.{tells_reset, asked, IsSentOff}
use Rattle.quic_headline.specs.Unread.{stopped}

-- ---- what is received

-- Nothing more is to be read of a stream: the application read its end, or was told of its reset,
-- by a read or where it asked for it, or stopped it.
abbrev pub IsReadOff : List Told → ℕ → Type 0
IsReadOff told id = (finished id told ≡ true) ⊎ (tells_reset (nexts id told) ≡ true) ⊎ (asked id told ≡ true) ⊎ (stopped id told ≡ true)

-- whether an end only sends on a stream: it is its own, and runs one way (section 2.1)
abbrev pub only_sends : Side → ℕ → Bool
only_sends side id = is_own side id && not (is_two_way (dir_of id))

-- whether a call that reads a stream, stops it or asks for its reset was answered that it is closed
abbrev pub is_kept_from_reading : ℕ → Call → Answer → Bool
is_kept_from_reading id (calls.Read read) (answers.Read (Err readable_errors.ClosedStream)) = read.id == id
is_kept_from_reading id (calls.Stop s code) (answers.Stop (Err update_errors.ClosedStream)) = s == id
is_kept_from_reading id (calls.ReceivedReset s) (answers.ReceivedReset (Err closed)) = s == id
is_kept_from_reading id call a = false

-- so such a call is answered only where nothing more is to be read of its stream, or the end only
-- sends on it
abbrev pub ReadsAreAllowed : Run → Type 0
ReadsAreAllowed r = (side : Side) (i id : ℕ) (call : Call) (a : Answer) → AreServed r i → IsAt r i side call a → is_kept_from_reading id call a ≡ true → IsReadOff (until r side i) id ⊎ (only_sends side id ≡ true)

-- whether a call reads a stream, stops it or asks for its reset
abbrev pub would_read : ℕ → Call → Bool
would_read id (calls.Read read) = read.id == id
would_read id (calls.Stop s code) = s == id
would_read id (calls.ReceivedReset s) = s == id
would_read id call = false

-- and where nothing more is to be read of its stream, or the end only sends on it, such a call is
-- answered so
abbrev pub ReadsAreOver : Run → Type 0
ReadsAreOver r = (side : Side) (i id : ℕ) (call : Call) (a : Answer) → AreServed r i → IsAt r i side call a → would_read id call ≡ true → IsReadOff (until r side i) id ⊎ (only_sends side id ≡ true) → is_kept_from_reading id call a ≡ true

-- ---- what is sent

-- whether an end only receives on a stream: it is its peer's, and runs one way
abbrev pub only_receives : Side → ℕ → Bool
only_receives side id = not (is_own side id || is_two_way (dir_of id))

-- whether a call that writes on a stream or finishes it was answered that it is closed
abbrev pub is_kept_from_writing : ℕ → Call → Answer → Bool
is_kept_from_writing id (calls.Write s bytes) (answers.Write (Err write_errors.ClosedStream)) = s == id
is_kept_from_writing id (calls.WriteChunks s buffers) (answers.WriteChunks (Err write_errors.ClosedStream)) = s == id
is_kept_from_writing id (calls.Finish s) (answers.Finish (Err finish_errors.ClosedStream)) = s == id
is_kept_from_writing id call a = false

-- so such a call is answered only where the application finished or reset its stream before, or the
-- end only receives on it
abbrev pub WritesAreAllowed : Run → Type 0
WritesAreAllowed r = (side : Side) (i id : ℕ) (call : Call) (a : Answer) → AreServed r i → IsAt r i side call a → is_kept_from_writing id call a ≡ true → IsSentOff (until r side i) id ⊎ (only_receives side id ≡ true)

-- whether a call that resets a stream or sets its priority was answered that it is closed
abbrev pub is_kept_from_changing : ℕ → Call → Answer → Bool
is_kept_from_changing id (calls.Reset s code) (answers.Reset (Err update_errors.ClosedStream)) = s == id
is_kept_from_changing id (calls.SetPriority s priority) (answers.SetPriority (Err update_errors.ClosedStream)) = s == id
is_kept_from_changing id call a = false

-- so such a call is answered only where the application reset its stream before; or finished it,
-- and all that was written on it, and its end, are in what the other end took; or the end only
-- receives on it
abbrev pub ResetsAreAllowed : Run → Type 0
ResetsAreAllowed r = (side : Side) (i id : ℕ) (call : Call) (a : Answer) → AreServed r i → IsAt r i side call a → is_kept_from_changing id call a ≡ true
    → IsSome (reset id (until r side i)) ⊎ AllArrived (took r (other_side side) i) id (until r side i) ⊎ (only_receives side id ≡ true)
