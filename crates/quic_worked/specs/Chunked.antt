-- The worked run's first calls, where the word is written in two buffers.
use Rattle.std.specs.Prelude.{ℕ, true, List, [], ◌∷◌, ◌++◌, replicate, Some, Ok}
use Rattle.std.specs.declared.vec.Vec.{Vec}
use Rattle.std.specs.declared.alloc.Global.{Global}
use Rattle.quic_wire_core.specs.declared.stream_id.Side.TheVariants.{Client}
use Rattle.quic_streams_parts.specs.declared.answers.Written.{Written}
use Rattle.quic_streams_state.specs.Writing.{after_write_chunks}
use Rattle.quic_machine.specs.declared.run.RunEvent.{RunEvent}
use Rattle.quic_machine.specs.declared.run.Call.TheVariants as calls
use Rattle.quic_machine.specs.declared.run.Answer.{Answer}
use Rattle.quic_machine.specs.declared.run.Answer.TheVariants as answers
use Rattle.quic_machine.specs.End.{End, with_streams}
use Rattle.quic_machine.specs.Machine.{World}
use Rattle.quic_headline.specs.Runs.{Run}
use Rattle.quic_worked.specs.Worked.{worked_policies, started, with_client, after_event, once_opened, once_sent, opens_stream, finishes_stream, asks_datagram, gives_bytes, hello_datagram, open_view, sent_view, server_open}

-- the client writes these buffers on its stream
abbrev pub writes_buffers : Vec (List ℕ) Global → RunEvent
writes_buffers buffers = record { side = Client; call = calls.WriteChunks 0 buffers }

-- `hel` and `lo`
abbrev pub two_buffers : List (List ℕ)
two_buffers = (104 ∷ 101 ∷ 108 ∷ []) ∷ (108 ∷ 111 ∷ []) ∷ []

-- all of both are accepted
abbrev pub both_written : Written
both_written = record { bytes = 5; chunks = 2 }

-- it opens its stream, writes them, ends the stream, and is asked for a datagram
abbrev pub chunked_events : Vec (List ℕ) Global → List RunEvent
chunked_events buffers = opens_stream ∷ writes_buffers buffers ∷ finishes_stream ∷ asks_datagram ∷ []

-- what is answered, where so many bytes and buffers were
abbrev pub chunked_with : Written → List Answer
chunked_with written =
    answers.Open (Some 0) ∷ answers.WriteChunks (Ok written) ∷ answers.Finish (Ok tt) ∷ gives_bytes 230 ∷ []

-- what a write of these buffers leaves
abbrev pub after_buffers : End → List (List ℕ) → End
after_buffers e buffers = with_streams e (after_write_chunks true (Ok both_written) e.streams e.waiting.frames 0 buffers)

-- both buffers are written
abbrev pub chunks_written : World
chunks_written = with_client once_opened (after_buffers once_opened.client two_buffers)

-- and the end behind them
abbrev pub chunks_ended : World
chunks_ended = after_event worked_policies chunks_written finishes_stream (answers.Finish (Ok tt))

-- and the datagram given
unfoldable pub chunks_sent : World
unfolding once_sent
chunks_sent = after_event worked_policies chunks_ended asks_datagram (gives_bytes 230)

-- the run, where so many bytes and buffers were accepted: it gives the datagram of the worked run
abbrev pub chunked_as : Written → Vec (List ℕ) Global → Run
chunked_as written buffers = record {
  keys = worked_policies;
  start = started;
  events = chunked_events buffers;
  answers = chunked_with written;
  views = replicate 3 (record { client = open_view; server = server_open }) ++ record { client = sent_view; server = server_open } ∷ [];
  from_client = hello_datagram ∷ [];
  from_server = [];
}

-- the run
abbrev pub chunked_run : Vec (List ℕ) Global → Run
chunked_run = chunked_as both_written

-- one buffer counts as accepted, of the two whose bytes all are
abbrev pub buffer_lost : Vec (List ℕ) Global → Run
buffer_lost = chunked_as (record { bytes = 5; chunks = 1 })
