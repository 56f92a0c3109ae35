-- Runs in which the peer is let go further (RFC 9000, sections 4.1 and 4.6): a server that takes 8
-- bytes at a time, or one one-way stream. Once the bytes are read it tells the client how many more
-- may come, and once the stream is done, that it may open another. And machines that tell it
-- wrongly.
use Rattle.std.specs.Prelude.{ℕ, true, List, [], ◌∷◌, ◌++◌, replicate, take, Some, None, Ok}
use Rattle.quic_wire_core.specs.declared.stream_id.Side.TheVariants.{Client, Server}
use Rattle.quic_wire_core.specs.declared.stream_id.Dir.TheVariants.{Uni}
use Rattle.quic_sets.specs.Offsets.{with_offsets}
use Rattle.quic_sets.specs.Pieces.{with_range, joining}
use Rattle.quic_config.specs.Transport.{Settings, parameters_of}
use Rattle.quic_worked.specs.Settings.{plain_settings}
use Rattle.quic_machine.specs.declared.answers.Received.TheVariants as receives
use Rattle.quic_machine.specs.declared.run.RunEvent.{RunEvent}
use Rattle.quic_machine.specs.declared.run.ReadCall.{ReadCall}
use Rattle.quic_machine.specs.declared.run.Call.TheVariants as calls
use Rattle.quic_machine.specs.declared.run.Answer.{Answer}
use Rattle.quic_machine.specs.declared.run.Answer.TheVariants as answers
use Rattle.quic_machine.specs.declared.run.View.{View}
use Rattle.quic_machine.specs.End.{new_end}
use Rattle.quic_machine.specs.Heard.{nothing_heard}
use Rattle.quic_machine.specs.Machine.{World}
use Rattle.quic_headline.specs.Runs.{Run}
use Rattle.quic_worked.specs.Exchange.{with_window, with_uni}
use Rattle.quic_worked.specs.Worked.{steady, steady_control, ReadsAs, NextAnswers, worked_policies, client_id, server_id, with_server, after_event, end_after_reads, once_sent, once_taken, hello, opens_stream, asks_datagram, delivers, accepts_stream, reads_stream, gives_chunk, all_nexts, two_chunks, gives_bytes, open_view, sent_view, waiting_view, told_ids}
use Rattle.quic_worked.specs.Acknowledged.{client_acked, client_datagram, from_server, ack_at_once}
use Rattle.quic_worked.specs.Reordered.{abc}
use Rattle.quic_worked.specs.Paired.{writes_on, asks_server, client_hears}

-- ---- the ends

-- both ends, where the server has these settings, before anything was given
abbrev pub ends_of : Settings → World
ends_of narrow = record {
  client = new_end Client plain_settings steady (parameters_of narrow) client_id server_id 0 0 true (λ n. 63);
  server = new_end Server narrow steady (parameters_of plain_settings) server_id client_id 0 0 true (λ n. 63);
  from_client = [];
  from_server = [];
  client_control = steady_control;
  server_control = steady_control;
  client_heard = nothing_heard;
  server_heard = nothing_heard;
}

-- the server takes eight bytes at a time
abbrev pub narrow_bytes : World
narrow_bytes = ends_of (with_window 8)

-- the server takes one one-way stream
abbrev pub narrow_count : World
narrow_count = ends_of (with_uni 1)

-- ---- bytes

-- as many bytes as may come
abbrev pub eight : List ℕ
eight = hello ++ abc

-- the client writes more than may come, and gives what may; it comes, and is read; then the server
-- is asked for a datagram, which comes too, and the client writes on
abbrev pub credit_front : List RunEvent
credit_front = opens_stream ∷ writes_on 0 (eight ++ eight) ∷ asks_datagram ∷ delivers ∷ accepts_stream ∷ []

-- all of it, where the server reads by this call
abbrev pub credit_events : ReadCall → List RunEvent
credit_events read = credit_front ++ reads_stream read ∷ asks_server ∷ client_hears ∷ writes_on 0 eight ∷ []

-- a read of at most eight bytes
abbrev pub eight_bounds : List ℕ
eight_bounds = 8 ∷ []

-- it gives them all
abbrev pub eight_nexts : NextAnswers
eight_nexts = gives_chunk eight ∷ []

-- what that is answered until the server is asked
abbrev pub credit_until : List Answer
credit_until =
    answers.Open (Some 0)
    ∷ answers.Write (Ok 8)
    ∷ gives_bytes 233
    ∷ answers.Deliver receives.Taken
    ∷ answers.Accept (Some 0)
    ∷ answers.Read (Ok eight_nexts)
    ∷ []

-- and from there on
abbrev pub credit_answers : List Answer
credit_answers = credit_until ++ gives_bytes 229 ∷ answers.Deliver receives.Taken ∷ answers.Write (Ok 8) ∷ []

-- the client's ids, and STREAM with a length and the eight bytes
abbrev pub eight_payload : List ℕ
eight_payload = told_ids ((0x0a ∷ 0x00 ∷ 0x08 ∷ []) ++ eight)

-- MAX_DATA of this many bytes (section 19.9), the server's ids, and an acknowledgement
abbrev pub limit_payload : ℕ → List ℕ
limit_payload limit = 0x10 ∷ limit ∷ told_ids ack_at_once

-- what the events leave
abbrev pub credit_opened : World
credit_opened = after_event worked_policies narrow_bytes opens_stream (answers.Open (Some 0))

-- as many bytes are written as may go
abbrev pub credit_written : World
credit_written = after_event worked_policies credit_opened (writes_on 0 (eight ++ eight)) (answers.Write (Ok 8))

-- they are given
unfoldable pub credit_sent : World
unfolding once_sent
credit_sent = after_event worked_policies credit_written asks_datagram (gives_bytes 233)

-- and taken
unfoldable pub credit_taken : World
unfolding credit_sent once_taken
credit_taken = after_event worked_policies credit_sent delivers (answers.Deliver receives.Taken)

-- their stream is accepted
abbrev pub credit_accepted : World
credit_accepted = after_event worked_policies credit_taken accepts_stream (answers.Accept (Some 0))

-- and they are read
abbrev pub credit_read : World
credit_read = with_server credit_accepted (end_after_reads credit_accepted.server 0 eight_bounds eight_nexts)

-- the server gives its datagram
unfoldable pub credit_given : World
unfolding credit_taken
credit_given = after_event worked_policies credit_read asks_server (gives_bytes 229)

-- which is taken
unfoldable pub credit_heard : World
unfolding credit_given client_acked
credit_heard = after_event worked_policies credit_given client_hears (answers.Deliver receives.Taken)

-- so that the client writes on
abbrev pub credit_used : World
credit_used = after_event worked_policies credit_heard (writes_on 0 eight) (answers.Write (Ok 8))

-- ---- a count

-- the client opens a one-way stream
abbrev pub opens_one_way : RunEvent
opens_one_way = record { side = Client; call = calls.Open Uni }

-- it finishes it
abbrev pub ends_one_way : RunEvent
ends_one_way = record { side = Client; call = calls.Finish 2 }

-- the server accepts it
abbrev pub accepts_one_way : RunEvent
accepts_one_way = record { side = Server; call = calls.Accept Uni }

-- the client may open one alone, writes on it and ends it; it comes, and all is read; then the
-- server is asked for a datagram, which comes too, and the client opens another
abbrev pub count_front : List RunEvent
count_front = opens_one_way ∷ opens_one_way ∷ writes_on 2 hello ∷ ends_one_way ∷ asks_datagram ∷ delivers ∷ accepts_one_way ∷ []

-- all of it, where the server reads by this call
abbrev pub count_events : ReadCall → List RunEvent
count_events read = count_front ++ reads_stream read ∷ asks_server ∷ client_hears ∷ opens_one_way ∷ []

-- what that is answered until the server is asked
abbrev pub count_until : List Answer
count_until =
    answers.Open (Some 2)
    ∷ answers.Open None
    ∷ answers.Write (Ok 5)
    ∷ answers.Finish (Ok tt)
    ∷ gives_bytes 230
    ∷ answers.Deliver receives.Taken
    ∷ answers.Accept (Some 2)
    ∷ answers.Read (Ok all_nexts)
    ∷ []

-- and from there on
abbrev pub count_answers : List Answer
count_answers = count_until ++ gives_bytes 229 ∷ answers.Deliver receives.Taken ∷ answers.Open (Some 6) ∷ []

-- the client's ids, and STREAM with a length and the end, stream 2, five bytes
abbrev pub one_way_payload : List ℕ
one_way_payload = told_ids ((0x0b ∷ 0x02 ∷ 0x05 ∷ []) ++ hello)

-- MAX_STREAMS of this many one-way streams (section 19.11), the server's ids, and an
-- acknowledgement
abbrev pub count_payload : ℕ → List ℕ
count_payload count = 0x13 ∷ count ∷ told_ids ack_at_once

-- what the events leave
abbrev pub count_opened : World
count_opened = after_event worked_policies narrow_count opens_one_way (answers.Open (Some 2))

-- a second stream is refused
abbrev pub count_refused : World
count_refused = after_event worked_policies count_opened opens_one_way (answers.Open None)

-- the word is written on the first
abbrev pub count_written : World
count_written = after_event worked_policies count_refused (writes_on 2 hello) (answers.Write (Ok 5))

-- which ends
abbrev pub count_ended : World
count_ended = after_event worked_policies count_written ends_one_way (answers.Finish (Ok tt))

-- it is given
unfoldable pub count_sent : World
unfolding once_sent
count_sent = after_event worked_policies count_ended asks_datagram (gives_bytes 230)

-- and taken
unfoldable pub count_taken : World
unfolding count_sent once_taken with_offsets with_range joining
count_taken = after_event worked_policies count_sent delivers (answers.Deliver receives.Taken)

-- the stream is accepted
abbrev pub count_accepted : World
count_accepted = after_event worked_policies count_taken accepts_one_way (answers.Accept (Some 2))

-- and read up to its end
abbrev pub count_read : World
count_read = with_server count_accepted (end_after_reads count_accepted.server 2 two_chunks all_nexts)

-- the server gives its datagram
unfoldable pub count_given : World
unfolding count_taken
count_given = after_event worked_policies count_read asks_server (gives_bytes 229)

-- which is taken
unfoldable pub count_heard : World
unfolding count_given client_acked
count_heard = after_event worked_policies count_given client_hears (answers.Deliver receives.Taken)

-- so that the client opens another
abbrev pub count_used : World
count_used = after_event worked_policies count_heard opens_one_way (answers.Open (Some 6))

-- ---- the runs

-- what is seen of both: so often before the client's datagram, behind it, once it came, behind the
-- server's, and once that came
abbrev pub views_of_credit : ℕ → List View
views_of_credit before =
    replicate before (record { client = open_view; server = open_view })
    ++ record { client = sent_view; server = open_view }
    ∷ replicate 3 (record { client = sent_view; server = waiting_view })
    ++ record { client = sent_view; server = sent_view }
    ∷ replicate 2 (record { client = waiting_view; server = sent_view })

-- the run of bytes with these answers, where the server's datagram has this payload
abbrev pub credit_with : List Answer → List ℕ → ReadCall → Run
credit_with told payload read = record {
  keys = worked_policies;
  start = narrow_bytes;
  events = credit_events read;
  answers = told;
  views = views_of_credit 2;
  from_client = client_datagram 0 0 eight_payload ∷ [];
  from_server = from_server 0 payload ∷ [];
}

-- the run of a count likewise
abbrev pub count_with : List Answer → List ℕ → ReadCall → Run
count_with told payload read = record {
  keys = worked_policies;
  start = narrow_count;
  events = count_events read;
  answers = told;
  views = views_of_credit 4;
  from_client = client_datagram 0 0 one_way_payload ∷ [];
  from_server = from_server 0 payload ∷ [];
}

-- the run of bytes: twice eight may come
abbrev pub credit_run : ReadCall → Run
credit_run = credit_with credit_answers (limit_payload 16)

-- the run of a count: two streams in all
abbrev pub count_run : ReadCall → Run
count_run = count_with count_answers (count_payload 2)

-- a read of stream 0 by the bound
abbrev pub ReadsEight : ReadCall → Type 0
ReadsEight read = ReadsAs 0 true eight_bounds read

-- a read of the one-way stream
abbrev pub ReadsOneWay : ReadCall → Type 0
ReadsOneWay read = ReadsAs 2 true two_chunks read

-- ---- machines that go wrong there

-- the client isn't told that more may come
abbrev pub never_raised : ReadCall → Run
never_raised read = record (credit_with (credit_until ++ answers.Poll (Ok None) ∷ []) [] read) { from_server = [] }

-- it is told of one byte less
abbrev pub one_below : ReadCall → Run
one_below read = record (credit_with (take 7 credit_answers) (limit_payload 15) read) { events = take 7 (credit_events read) }

-- it isn't told that it may open one stream more
abbrev pub never_given_back : ReadCall → Run
never_given_back read = record (count_with (count_until ++ answers.Poll (Ok None) ∷ []) [] read) { from_server = [] }

-- it is told, and opens none
abbrev pub never_opened : ReadCall → Run
never_opened = count_with (take 10 count_answers ++ answers.Open None ∷ []) (count_payload 2)
