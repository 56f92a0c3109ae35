-- The streams of an end that keeps eight bytes and lets its peer open one stream of each kind,
-- behind calls and frames one behind another.
use Rattle.std.specs.Prelude.{ℕ, pos, Bool, true, false, List, [], ◌∷◌, codes, Option, Some, Result, Ok}
use Rattle.quic_wire_core.specs.declared.stream_id.Side.{Side}
use Rattle.quic_wire_core.specs.declared.stream_id.Side.TheVariants.{Client, Server}
use Rattle.quic_wire_core.specs.declared.stream_id.Dir.TheVariants.{Bi}
use Rattle.quic_assembler.specs.declared.assembler.Chunk.{Chunk}
use Rattle.quic_streams_parts.specs.declared.answers.ReadError.{ReadError}
use Rattle.quic_retransmits.specs.Retransmits.{nothing_waits}
use Rattle.quic_streams_state.specs.declared.state.StreamsState.{StreamsState}
use Rattle.quic_streams_state.specs.State.{Streams, new_streams}
use Rattle.quic_streams_state.specs.Opening.{after_open, after_accept, after_max_streams}
use Rattle.quic_streams_state.specs.Taking.{after_stream, after_reset_frame, after_max_data, after_max_stream_data}
use Rattle.quic_streams_state.specs.Reading.{Told, told_bytes, next_answer, told_by, after_next, after_read_begun, after_finalize, after_stop}
use Rattle.quic_streams_state.specs.Writing.{after_write, after_finish, after_reset, after_set_priority}

-- a chunk that a read gives
abbrev pub chunk : ℕ → List ℕ → Option Chunk
chunk offset bytes = Some (record { offset = offset; bytes = bytes })

-- no stream is opened
abbrev pub end_of : Side → StreamsState
end_of side = new_streams side 1 1 100 8 8

-- ---- a read of stream 0

-- what a read has told, and the streams
pub record Read : Type 0 where
  pub told : Told
  pub state : StreamsState

-- a read begins, in order or not
abbrev pub begun : StreamsState → Bool → Read
begun s ordered = record { told = told_bytes; state = after_read_begun s 0 ordered }

-- what a `next` of at most so many bytes answers
abbrev pub next_of : Read → ℕ → Result (Option Chunk) ReadError
next_of r most = next_answer r.told r.state 0 most

-- what it leaves
abbrev pub after : Read → ℕ → Read
after r most = let answer = next_of r most in record { told = told_by answer r.told; state = after_next r.told answer r.state 0 most }

-- what several answer, one behind another
abbrev pub nexts : Read → List ℕ → List (Result (Option Chunk) ReadError)
nexts r [] = []
nexts r (most ∷ mosts) = next_of r most ∷ nexts (after r most) mosts

-- what they leave
abbrev pub after_nexts : Read → List ℕ → Read
after_nexts r [] = r
after_nexts r (most ∷ mosts) = after_nexts (after r most) mosts

-- the read is over: what it leaves, where so much waited before it
abbrev pub over : Read → Streams → Streams
over r before = after_finalize r.state before.pending 0

-- ---- frames that come to a server

-- bytes of stream 0 come, with the FIN or without
abbrev pub come : ℕ → Bool → List ℕ → Streams
come offset fin bytes = after_stream (end_of Server) nothing_waits (record { id = 0; offset = offset; fin = fin; bytes = bytes })

-- `hello` and the FIN came
abbrev pub ended_come : Streams
ended_come = come 0 true (codes "hello")

-- the stream was accepted
abbrev pub accepted : StreamsState
accepted = after_accept Bi ended_come.state

-- a read in order began
abbrev pub read_begun : Read
read_begun = begun accepted true

-- all was read, and the end was told
abbrev pub read_up : StreamsState
read_up = (after_nexts read_begun (3 ∷ 32 ∷ 32 ∷ [])).state

-- the read is over
abbrev pub read_over : Streams
read_over = over (after_nexts read_begun (3 ∷ 32 ∷ 32 ∷ [])) ended_come

-- `llo` came at offset 2
abbrev pub later_come : Streams
later_come = come 2 false (codes "llo")

-- a read in no order began
abbrev pub later_begun : Read
later_begun = begun later_come.state false

-- the three bytes were read, and the read is over
abbrev pub later_over : Streams
later_over = over (after_nexts later_begun (32 ∷ [])) later_come

-- `hello` came
abbrev pub plain_come : Streams
plain_come = come 0 false (codes "hello")

-- and then a reset behind six bytes, with code 7
abbrev pub reset_come : Streams
reset_come = after_reset_frame plain_come.state plain_come.pending (record { id = 0; code = 7; final_size = 6 })

-- a read in order began
abbrev pub reset_begun : Read
reset_begun = begun reset_come.state true

-- the reset was told, and the read is over
abbrev pub reset_over : Streams
reset_over = over (after_nexts reset_begun (32 ∷ [])) reset_come

-- this end stopped the stream of which `hello` came, with code 7
abbrev pub plain_stopped : Streams
plain_stopped = after_stop plain_come.state plain_come.pending 0 7

-- ---- what a client writes on stream 0

-- no stream may be opened
abbrev pub client : StreamsState
client = end_of Client

-- the peer lets one be opened, and seven bytes come on all streams
abbrev pub let_open : StreamsState
let_open = after_max_data (after_max_streams Bi 1 client) 7

-- it is open, and the peer lets seven bytes come on it
abbrev pub opened : StreamsState
opened = after_max_stream_data (after_open true Bi let_open) 0 7

-- its priority is 3
abbrev pub given_priority : StreamsState
given_priority = after_set_priority opened 0 (pos 3)

-- five bytes were taken
abbrev pub once_written : StreamsState
once_written = (after_write true (Ok 5) given_priority nothing_waits 0 (codes "hello")).state

-- and two more
abbrev pub twice_written : StreamsState
twice_written = (after_write true (Ok 2) once_written nothing_waits 0 (codes "hello")).state

-- it was finished
abbrev pub finished : StreamsState
finished = after_finish twice_written 0

-- and then reset, with code 7
abbrev pub reset_last : Streams
reset_last = after_reset finished nothing_waits 0 7
