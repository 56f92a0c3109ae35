-- A message that is read to the front of a room (RFC 9221): one that didn't fit stays to be read,
-- before those that wait at the connection.
use Rattle.std.specs.Prelude.{ℕ, nat_le, if◌then◌else◌, List, length, Option, Some, None, Result, Err}
use Rattle.quic_messages.specs.Messages.{Messages, oldest, after_recv}
use Rattle.quic_c_core.specs.declared.call_error.CallError.{CallError}
use Rattle.quic_c_core.specs.declared.call_error.CallError.TheVariants as errors
use Rattle.quic_c_core.specs.Answers.{put_answer, put_into}

-- the message that is read next: the one that was taken off the connection and stayed, or the
-- oldest there
abbrev pub next_message : Option (List ℕ) → Messages → Option (List ℕ)
next_message (Some m) s = Some m
next_message None s = oldest s.incoming

-- what waits at the connection then
abbrev pub left_there : Option (List ℕ) → Messages → Messages
left_there (Some m) s = s
left_there None s = after_recv s

-- what is answered: there is none, or how many bytes it has, or that they don't fit the room
abbrev pub read_answer : Option (List ℕ) → ℕ → Result ℕ CallError
read_answer None room = Err errors.Absent
read_answer (Some m) room = put_answer m room

-- what the room has then
abbrev pub filled_with : Option (List ℕ) → List ℕ → List ℕ
filled_with None room = room
filled_with (Some m) room = put_into m room

-- what stays to be read
abbrev pub kept_of : Option (List ℕ) → ℕ → Option (List ℕ)
kept_of None room = None
kept_of (Some m) room = if nat_le (length m) room then None else Some m
