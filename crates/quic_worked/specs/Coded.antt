-- A client that stops a stream says the code of its application, and so does one that resets a
-- stream, with how many bytes were written; and machines that say another code, or another number,
-- or give bytes behind a reset (RFC 9000, sections 3.3, 3.5, 19.4 and 19.5).
use Rattle.std.specs.Prelude.{ℕ, false, List, [], ◌∷◌, ◌++◌, replicate, take, Some, Ok}
use Rattle.quic_wire.specs.Reading.{stop_sending_at}
use Rattle.quic_wire.specs.Value.{StreamValue, stream, reset_stream, stop_sending}
use Rattle.quic_machine.specs.declared.run.RunEvent.{RunEvent}
use Rattle.quic_machine.specs.declared.run.Answer.{Answer}
use Rattle.quic_machine.specs.declared.run.Answer.TheVariants as answers
use Rattle.quic_machine.specs.Machine.{World}
use Rattle.quic_headline.specs.Runs.{Run}
use Rattle.quic_headline.specs.Observer.{Sent}
use Rattle.quic_worked.specs.Worked.{ran_so_far, worked_policies, server_id, started, once_taken, opens_stream, asks_datagram, gives_bytes, ids_payload, id_frames, from_client, open_view, sent_view, server_open}
use Rattle.quic_worked.specs.Reordered.{abc_datagram}
use Rattle.quic_worked.specs.Allowed.{stops_stream}
use Rattle.quic_worked.specs.Reset.{reset_run}

-- ---- a stream is stopped

-- the client opens stream 0, stops it with code 7, and is asked for a datagram
abbrev pub halting_events : List RunEvent
halting_events = opens_stream ∷ stops_stream ∷ asks_datagram ∷ []

-- what that is answered
abbrev pub halting_answers : List Answer
halting_answers = answers.Open (Some 0) ∷ answers.Stop (Ok tt) ∷ gives_bytes 225 ∷ []

-- what the first so many of these leave
unfoldable pub once_halting : ℕ → World
unfolding once_taken stop_sending_at
once_halting n = ran_so_far worked_policies started halting_events halting_answers n

-- STOP_SENDING of stream 0 with a code, and the client's ids
abbrev pub halt_payload : ℕ → List ℕ
halt_payload code = (0x05 ∷ 0x00 ∷ code ∷ []) ++ ids_payload

-- the run, where STOP_SENDING has this code
abbrev pub halts_with : ℕ → Run
halts_with code = record {
  keys = worked_policies;
  start = started;
  events = halting_events;
  answers = halting_answers;
  views = replicate 2 (record { client = open_view; server = server_open }) ++ record { client = sent_view; server = server_open } ∷ [];
  from_client = from_client 0 (halt_payload code) ∷ [];
  from_server = [];
}

-- the client's datagram as it was sent
abbrev pub halt_sent : ℕ → Sent
halt_sent code = record { id = server_id; number = 0; reference = 0; frames = stop_sending (record { id = 0; code = code }) ∷ id_frames; moment = 0; size = 225; generation = 0 }

-- a client that says that code
abbrev pub halting_run : Run
halting_run = halts_with 7

-- one that says 0, whatever its application does
abbrev pub halts_for_none : Run
halts_for_none = halts_with 0

-- ---- a stream is reset

-- the client writes three bytes, gives them, and resets their stream with code 7, of which its
-- second datagram says this code and this final size
abbrev pub resets_as : ℕ → ℕ → Run
resets_as code size = record reset_run {
  events = take 5 reset_run.events;
  answers = take 5 reset_run.answers;
  views = take 5 reset_run.views;
  from_client = abc_datagram ∷ from_client 1 (0x04 ∷ 0x00 ∷ code ∷ size ∷ []) ∷ [];
}

-- that datagram as it was sent
abbrev pub reset_given : ℕ → ℕ → Sent
reset_given code size = record { id = server_id; number = 1; reference = 0; frames = reset_stream (record { id = 0; code = code; final_size = size }) ∷ []; moment = 0; size = 30; generation = 0 }

-- a client that says the code 0
abbrev pub resets_for_none : Run
resets_for_none = resets_as 0 3

-- one that says one byte fewer than were written
abbrev pub resets_short : Run
resets_short = resets_as 7 2

-- one that gives the first two bytes again, in a STREAM frame to the end of its packet
abbrev pub streams_behind : Run
streams_behind = record (resets_as 7 3) { from_client = abc_datagram ∷ from_client 1 (0x08 ∷ 0x00 ∷ 0x61 ∷ 0x62 ∷ []) ∷ [] }

abbrev pub two_bytes : StreamValue
two_bytes = record { id = 0; offset = 0; fin = false; bytes = 0x61 ∷ 0x62 ∷ [] }

-- what it gives as it was sent
abbrev pub behind_sent : Sent
behind_sent = record (reset_given 7 3) { frames = stream two_bytes ∷ [] }
