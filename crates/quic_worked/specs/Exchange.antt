-- Exchanges of two ends, computed by the machine frame by frame: what one gives goes to the other
-- without its bytes, or is lost. Each act is a call, and is answered as the machine answers where
-- memory serves.
use Rattle.std.specs.Prelude.{ℕ, ℤ, Bool, true, false, List, [], ◌∷◌, length, Option, Some, None, Result, Ok, Err}
use Rattle.quic_wire_core.specs.declared.stream_id.Side.{Side}
use Rattle.quic_wire_core.specs.declared.stream_id.Side.TheVariants.{Client, Server}
use Rattle.quic_wire_core.specs.declared.stream_id.Dir.{Dir}
use Rattle.quic_wire_core.specs.StreamId.{other_side}
use Rattle.quic_wire.specs.Value.{FrameValue, ack, stream, asks}
use Rattle.std.specs.List.{list_any}
use Rattle.quic_assembler.specs.declared.assembler.Chunk.{Chunk}
use Rattle.quic_config.specs.Transport.{Settings, parameters_of}
use Rattle.quic_worked.specs.Settings.{plain_settings}
use Rattle.quic_streams_parts.specs.declared.answers.WriteError.{WriteError}
use Rattle.quic_streams_parts.specs.declared.answers.FinishError.{FinishError}
use Rattle.quic_streams_parts.specs.declared.answers.UpdateError.{UpdateError}
use Rattle.quic_streams_parts.specs.declared.answers.ReadableError.{ReadableError}
use Rattle.quic_streams_parts.specs.declared.answers.ReadError.{ReadError}
use Rattle.quic_streams_state.specs.State.{Streams, streams_of}
use Rattle.quic_streams_state.specs.Opening.{open_answer, after_open, accept_answer, after_accept}
use Rattle.quic_streams_state.specs.Writing.{write_answer, after_write, finish_answer, after_finish, reset_answer, after_reset, set_priority_answer, after_set_priority}
use Rattle.quic_streams_state.specs.Reading.{told_bytes, read_answer, after_read_begun, next_answer, stop_answer, after_stop}
use Rattle.quic_machine.specs.declared.answers.Event.{Event}
use Rattle.quic_machine.specs.declared.answers.Received.{Received}
use Rattle.quic_machine.specs.declared.answers.Received.TheVariants.{Closed}
use Rattle.quic_machine.specs.Machine.{policy_at}
use Rattle.quic_machine.specs.End.{End, new_end, side_of, number_of, streams_at, with_streams, with_waiting}
use Rattle.quic_machine.specs.Parts.{nothing_waits}
use Rattle.quic_machine.specs.Calls.{after_reads, end_tells, end_after_event}
use Rattle.quic_machine.specs.Receive.{Outcome, judged}
use Rattle.quic_machine.specs.FrameCases.{passed, begun}
use Rattle.quic_machine.specs.Poll.{goes, after_given}
use Rattle.quic_machine.specs.PollCases.{ready_at, draft_at}
use Rattle.quic_worked.specs.Worked.{steady, worked_policies}

-- what an application asks of an end, or what comes to it; the number is that of a stream
pub data Act : Type 0 where
  opens : Side → Dir → Act
  accepts : Side → Dir → Act
  writes : Side → ℕ → List ℕ → Act
  finishes : Side → ℕ → Act
  resets : Side → ℕ → ℕ → Act
  ranks : Side → ℕ → ℤ → Act
  -- one `next` of at most so many bytes, in order or not
  reads : Side → Bool → ℕ → ℕ → Act
  stops : Side → ℕ → ℕ → Act
  tells : Side → Act
  -- one datagram at a moment, which the other end takes at once; or which is lost
  gives : Side → ℕ → Act
  loses : Side → ℕ → Act
  -- frames come in a packet of a number that the other end never gave
  hears : Side → ℕ → List FrameValue → Act

-- what it is answered
pub data Said : Type 0 where
  id : Option ℕ → Said
  count : Result ℕ WriteError → Said
  ended : Result (Unit {0}) FinishError → Said
  updated : Result (Unit {0}) UpdateError → Said
  unreadable : ReadableError → Said
  next : Result (Option Chunk) ReadError → Said
  event : Option Event → Said
  -- the frames of the datagram, and what became of it
  given : List FrameValue → Received → Said
  lost : List FrameValue → Said
  heard : Received → Said
  nothing : Said

-- both ends
pub record Ends : Type 0 where
  pub client : End
  pub server : End

-- one of them
abbrev pub end_of : Side → Ends → End
end_of Client w = w.client
end_of Server w = w.server

-- with another value of one
abbrev pub with_end_of : Side → End → Ends → Ends
with_end_of Client e w = record w { client = e }
with_end_of Server e w = record w { server = e }

-- what is answered, and what both ends are then
pub record Done : Type 0 where
  pub said : Said
  pub ends : Ends

-- an end takes the frames of a packet of a number, at a moment: it bears no mark
abbrev pub taken : ℕ → ℕ → List FrameValue → End → Outcome
taken now n frames e = judged (passed frames (begun e now n)) (list_any asks frames) false n None

-- what is given at an end
abbrev pub frames_given : End → ℕ → List FrameValue
frames_given e now = (draft_at e now).frames

-- the end that gave it
abbrev pub end_given : End → ℕ → End
end_given e now = after_given (policy_at (side_of e) worked_policies) (draft_at e now)

-- the same, if something waits to go
abbrev pub gives_if : Bool → Side → ℕ → Ends → Done
gives_if false side now w = record { said = nothing; ends = w }
gives_if true side now w =
    let e = end_of side w in
    let out = taken now (number_of e) (frames_given e now) (end_of (other_side side) w) in
    record { said = given (frames_given e now) out.answer; ends = with_end_of (other_side side) out.end (with_end_of side (end_given e now) w) }

-- an end reads, unless it may not
abbrev pub reads_if : Result (Unit {0}) ReadableError → Side → Bool → ℕ → ℕ → Ends → Done
reads_if (Err error) side ordered s most w = record { said = unreadable error; ends = w }
reads_if (Ok x) side ordered s most w =
    let e = end_of side w in
    let answer = next_answer told_bytes (after_read_begun e.streams s ordered) s most in
    record { said = next answer; ends = with_end_of side (with_streams e (after_reads (streams_at e) s ordered (most ∷ []) (answer ∷ []))) w }

-- an end whose streams are these then
abbrev pub on_streams : Side → Said → Streams → Ends → Done
on_streams side said t w = record { said = said; ends = with_end_of side (with_streams (end_of side w) t) w }

-- one act between open ends
abbrev pub acted : Ends → Act → Done
acted w (opens side dir) = let e = end_of side w in on_streams side (id (open_answer true dir e.streams)) (streams_of (after_open true dir e.streams) e.waiting.frames) w
acted w (accepts side dir) = let e = end_of side w in on_streams side (id (accept_answer dir e.streams)) (streams_of (after_accept dir e.streams) e.waiting.frames) w
acted w (writes side s bytes) = let e = end_of side w in let answer = write_answer true e.streams s (length bytes) in on_streams side (count answer) (after_write true answer e.streams e.waiting.frames s bytes) w
acted w (finishes side s) = let e = end_of side w in on_streams side (ended (finish_answer e.streams s)) (streams_of (after_finish e.streams s) e.waiting.frames) w
acted w (resets side s code) = let e = end_of side w in on_streams side (updated (reset_answer e.streams s)) (after_reset e.streams e.waiting.frames s code) w
acted w (ranks side s priority) = let e = end_of side w in on_streams side (updated (set_priority_answer e.streams s)) (streams_of (after_set_priority e.streams s priority) e.waiting.frames) w
acted w (reads side ordered s most) = reads_if (read_answer (end_of side w).streams s ordered) side ordered s most w
acted w (stops side s code) = let e = end_of side w in on_streams side (updated (stop_answer e.streams s)) (after_stop e.streams e.waiting.frames s code) w
acted w (tells side) = let e = end_of side w in record { said = event (end_tells e); ends = with_end_of side (end_after_event e) w }
acted w (gives side now) = gives_if (goes (ready_at (end_of side w) now)) side now w
acted w (loses side now) = let e = end_of side w in record { said = lost (frames_given e now); ends = with_end_of side (end_given e now) w }
acted w (hears side n frames) = let out = taken 0 n frames (end_of side w) in record { said = heard out.answer; ends = with_end_of side out.end w }

-- what acts are answered, one behind another
abbrev pub played : Ends → List Act → List Said
played w [] = []
played w (act ∷ acts) = let done = acted w act in done.said ∷ played done.ends acts

-- an end that has told its ids already: nothing waits
abbrev pub having_told : End → End
having_told e = with_waiting e nothing_waits

-- two ends with these settings, made at moment 0 on a validated path, which have told their ids; of
-- the numbers of each 63 is the first that is left out
abbrev pub ends_with : Settings → Settings → Ends
ends_with client server = record {
  client = having_told (new_end Client client steady (parameters_of server) [] [] 0 0 true (λ n. 63));
  server = having_told (new_end Server server steady (parameters_of client) [] [] 0 0 true (λ n. 63));
}

-- what one says of itself that lets come so many bytes on all streams
abbrev pub with_window : ℕ → Settings
with_window window = record plain_settings { receive_window = window }

-- and one that lets the peer open so many one-way streams
abbrev pub with_uni : ℕ → Settings
with_uni most = record plain_settings { max_uni = most }

-- an ACK frame of the numbers from one up to another, without a delay
abbrev pub acks_from : ℕ → ℕ → FrameValue
acks_from least greatest = ack (record { largest = greatest; delay = 0; ranges = (least, greatest) ∷ []; ecn = None })

-- of all numbers up to one
abbrev pub acks : ℕ → FrameValue
acks n = acks_from 0 n

-- the frame with bytes of a stream from an offset on, and its end or not
abbrev pub stream_frame : ℕ → ℕ → Bool → List ℕ → FrameValue
stream_frame s offset fin bytes = stream (record { id = s; offset = offset; fin = fin; bytes = bytes })

-- a chunk of these bytes at an offset
abbrev pub chunk : ℕ → List ℕ → Said
chunk offset bytes = next (Ok (Some (record { offset = offset; bytes = bytes })))

-- what closes an end by an error that names no frame
abbrev pub closes_by : ℕ → Said
closes_by code = heard (Closed (record { code = code; frame = None }))

-- five bytes
abbrev pub hello : List ℕ
hello = 104 ∷ 101 ∷ 108 ∷ 108 ∷ 111 ∷ []

-- both as they are without settings of their own
abbrev pub default_ends : Ends
default_ends = ends_with plain_settings plain_settings
