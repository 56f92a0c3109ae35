-- A run of two streams at once: the client opens both, writes on each, and resets the first; one
-- datagram tells that, and has the bytes of the second. The server takes it, accepts both, is told
-- of the reset, reads the second, and stops it; the client is told so.
use Rattle.std.specs.Prelude.{map, take, ℕ, true, false, List, [], ◌∷◌, ◌++◌, replicate, Some, None, Ok, Err}
use Rattle.quic_wire_core.specs.declared.stream_id.Side.TheVariants.{Client, Server}
use Rattle.quic_wire.specs.Value.{FrameValue, reset_stream, stream}
use Rattle.quic_wire.specs.Reading.{reset_stream_at, stop_sending_at}
use Rattle.quic_sets.specs.Offsets.{with_offsets}
use Rattle.quic_sets.specs.Pieces.{with_range, joining, pieces}
use Rattle.quic_streams_parts.specs.declared.answers.WriteError.TheVariants as write_errors
use Rattle.quic_streams_parts.specs.declared.answers.ReadError.TheVariants as read_errors
use Rattle.quic_streams_parts.specs.declared.answers.UpdateError.TheVariants as update_errors
use Rattle.quic_streams_parts.specs.declared.answers.StreamEvent.TheVariants.{Stopped}
use Rattle.quic_machine.specs.declared.answers.Event.TheVariants as events
use Rattle.quic_machine.specs.declared.answers.Received.TheVariants as receives
use Rattle.quic_machine.specs.declared.run.RunEvent.{RunEvent}
use Rattle.quic_machine.specs.declared.run.ReadCall.{ReadCall}
use Rattle.quic_machine.specs.declared.run.Call.TheVariants as calls
use Rattle.quic_machine.specs.declared.run.Answer.{Answer}
use Rattle.quic_machine.specs.declared.run.Answer.TheVariants as answers
use Rattle.quic_machine.specs.declared.run.View.{View}
use Rattle.quic_machine.specs.Calls.{after_reads}
use Rattle.quic_machine.specs.End.{streams_at, with_streams}
use Rattle.quic_retransmits.specs.Retransmits.{nothing_waits}
use Rattle.quic_streams_parts.specs.Table.{Table}
use Rattle.quic_machine.specs.Tracking.{TrackedPacket}
use Rattle.quic_machine.specs.Machine.{World}
use Rattle.quic_headline.specs.Runs.{Run}
use Rattle.quic_worked.specs.Worked.{ReadsAs, NextAnswers, worked_policies, with_client, with_server, after_event, once_sent, once_taken, opens_stream, asks_datagram, delivery, delivers, accepts_stream, reads_stream, gives_bytes, open_view, sent_view, waiting_view, behind_ids, told_ids, both_steady}
use Rattle.quic_worked.specs.Acknowledged.{client_acked, client_datagram, from_server, ack_at_once}
use Rattle.quic_worked.specs.Reordered.{abc, def}
use Rattle.quic_worked.specs.Broken.{tells_finished}

-- ---- the events

-- the client writes on its streams
abbrev pub writes_on : ℕ → List ℕ → RunEvent
writes_on id bytes = record { side = Client; call = calls.Write id bytes }

-- it resets its first stream
abbrev pub resets_with : ℕ → RunEvent
resets_with code = record { side = Client; call = calls.Reset 0 code }

-- the server asks whether the first stream was reset
abbrev pub asks_reset : RunEvent
asks_reset = record { side = Server; call = calls.ReceivedReset 0 }

-- it stops the second
abbrev pub stops_second : RunEvent
stops_second = record { side = Server; call = calls.Stop 4 9 }

-- it is asked for a datagram
abbrev pub asks_server : RunEvent
asks_server = record { side = Server; call = calls.Poll 0 }

-- which comes to the client
abbrev pub client_hears : RunEvent
client_hears = record { side = Client; call = calls.Deliver delivery }

-- the client's application asks what is to be told
abbrev pub client_asks : RunEvent
client_asks = record { side = Client; call = calls.Event }

-- a read is of the second stream, in order, by these bounds
abbrev pub ReadsSecond : List ℕ → ReadCall → Type 0
ReadsSecond mosts read = ReadsAs 4 true mosts read

-- until the datagram is given
abbrev pub giving_events : List RunEvent
giving_events = opens_stream ∷ opens_stream ∷ writes_on 0 abc ∷ writes_on 4 def ∷ resets_with 7 ∷ asks_datagram ∷ []

-- what that is answered
abbrev pub giving_answers : List Answer
giving_answers =
    answers.Open (Some 0)
    ∷ answers.Open (Some 4)
    ∷ answers.Write (Ok 3)
    ∷ answers.Write (Ok 3)
    ∷ answers.Reset (Ok tt)
    ∷ gives_bytes 232
    ∷ []

-- all events
abbrev pub paired_events : ReadCall → List RunEvent
paired_events read =
    giving_events
    ++ delivers
    ∷ accepts_stream
    ∷ accepts_stream
    ∷ asks_reset
    ∷ reads_stream read
    ∷ stops_second
    ∷ asks_server
    ∷ client_hears
    ∷ client_asks
    ∷ client_asks
    ∷ writes_on 4 abc
    ∷ resets_with 8
    ∷ []

-- a read that gives what was written on the second stream, and then nothing yet
abbrev pub second_nexts : NextAnswers
second_nexts = Ok (Some (record { offset = 0; bytes = def })) ∷ Err read_errors.Blocked ∷ []

-- two chunks of at most 32 bytes each
abbrev pub second_bounds : List ℕ
second_bounds = 32 ∷ 32 ∷ []

-- the application is told that the second stream was stopped
abbrev pub tells_stopped : Answer
tells_stopped = answers.Event (Some (events.Stream (Stopped 4 9)))

-- the answers
abbrev pub paired_answers : List Answer
paired_answers =
    giving_answers
    ++ answers.Deliver receives.Taken
    ∷ answers.Accept (Some 0)
    ∷ answers.Accept (Some 4)
    ∷ answers.ReceivedReset (Ok (Some 7))
    ∷ answers.Read (Ok second_nexts)
    ∷ answers.Stop (Ok tt)
    ∷ gives_bytes 230
    ∷ answers.Deliver receives.Taken
    ∷ tells_stopped
    ∷ answers.Event None
    ∷ answers.Write (Err (write_errors.Stopped 9))
    ∷ answers.Reset (Err update_errors.ClosedStream)
    ∷ []

-- ---- the datagrams

-- RESET_STREAM of stream 0 with code 7 and final size 3, the client's ids, and STREAM with a length
-- (RFC 9000, sections 19.4 and 19.8)
abbrev pub paired_payload : List ℕ
paired_payload = (0x04 ∷ 0x00 ∷ 0x07 ∷ 0x03 ∷ []) ++ told_ids (0x0a ∷ 0x04 ∷ 0x03 ∷ 0x64 ∷ 0x65 ∷ 0x66 ∷ [])

-- STOP_SENDING of stream 4 with code 9 (section 19.5), the server's ids, and an acknowledgement
abbrev pub stop_payload : List ℕ
stop_payload = (0x05 ∷ 0x04 ∷ 0x09 ∷ []) ++ told_ids ack_at_once

-- what the frames of the client's datagram say
abbrev pub paired_frames : List FrameValue
paired_frames =
    reset_stream (record { id = 0; code = 7; final_size = 3 })
    ∷ behind_ids (stream (record { id = 4; offset = 0; fin = false; bytes = def }) ∷ [])

-- ---- what the events leave

-- the first stream is open
abbrev pub first_open : World
first_open = after_event worked_policies both_steady opens_stream (answers.Open (Some 0))

-- and the second
abbrev pub both_open : World
both_open = after_event worked_policies first_open opens_stream (answers.Open (Some 4))

-- the first is written on
abbrev pub first_written : World
first_written = after_event worked_policies both_open (writes_on 0 abc) (answers.Write (Ok 3))

-- and the second is written on
abbrev pub both_written : World
both_written = after_event worked_policies first_written (writes_on 4 def) (answers.Write (Ok 3))

-- the first is reset
unfoldable pub first_reset : World
unfolding with_offsets with_range joining pieces
first_reset = after_event worked_policies both_written (resets_with 7) (answers.Reset (Ok tt))

-- the datagram is given
unfoldable pub pair_sent : World
unfolding first_reset once_sent
pair_sent = after_event worked_policies first_reset asks_datagram (gives_bytes 232)

-- and taken
unfoldable pub pair_taken : World
unfolding pair_sent once_taken reset_stream_at
pair_taken = after_event worked_policies pair_sent delivers (answers.Deliver receives.Taken)

-- the first stream is accepted
abbrev pub first_accepted : World
first_accepted = after_event worked_policies pair_taken accepts_stream (answers.Accept (Some 0))

-- and the second
abbrev pub both_accepted : World
both_accepted = after_event worked_policies first_accepted accepts_stream (answers.Accept (Some 4))

-- the reset is told
unfoldable pub reset_told : World
unfolding pair_taken
reset_told = after_event worked_policies both_accepted asks_reset (answers.ReceivedReset (Ok (Some 7)))

-- the second stream is read
abbrev pub second_read : World
second_read = with_server reset_told (with_streams reset_told.server (after_reads (streams_at reset_told.server) 4 true second_bounds second_nexts))

-- and stopped
unfoldable pub second_stopped : World
unfolding reset_told
second_stopped = after_event worked_policies second_read stops_second (answers.Stop (Ok tt))

-- the server gives its datagram
unfoldable pub stop_sent : World
unfolding second_stopped
stop_sent = after_event worked_policies second_stopped asks_server (gives_bytes 230)

-- which is taken
unfoldable pub stop_taken : World
unfolding stop_sent client_acked stop_sending_at
stop_taken = after_event worked_policies stop_sent client_hears (answers.Deliver receives.Taken)

-- it is told
abbrev pub stop_told : World
stop_told = after_event worked_policies stop_taken client_asks tells_stopped

-- and nothing more
abbrev pub nothing_told : World
nothing_told = after_event worked_policies stop_told client_asks (answers.Event None)

-- a write on the second stream is refused
abbrev pub write_refused : World
write_refused = after_event worked_policies nothing_told (writes_on 4 abc) (answers.Write (Err (write_errors.Stopped 9)))

-- and a reset of the first
abbrev pub reset_refused : World
reset_refused = after_event worked_policies write_refused (resets_with 8) (answers.Reset (Err update_errors.ClosedStream))

-- ---- the run

-- what is seen of both after each event
abbrev pub paired_views : List View
paired_views =
    replicate 5 (record { client = open_view; server = open_view })
    ++ record { client = sent_view; server = open_view }
    ∷ replicate 6 (record { client = sent_view; server = waiting_view })
    ++ record { client = sent_view; server = sent_view }
    ∷ replicate 5 (record { client = waiting_view; server = sent_view })

-- the run with these answers to the first so many of its events
abbrev pub paired_with : ReadCall → List Answer → Run
paired_with read told = record {
  keys = worked_policies;
  start = both_steady;
  events = paired_events read;
  answers = told;
  views = paired_views;
  from_client = client_datagram 0 0 paired_payload ∷ [];
  from_server = from_server 0 stop_payload ∷ [];
}

-- the run
abbrev pub paired_run : ReadCall → Run
paired_run read = paired_with read paired_answers

-- ---- machines that go wrong there

-- the client's application is told that its first stream is finished, which it reset
abbrev pub told_of_reset : ReadCall → Run
told_of_reset read = paired_with read (take 14 paired_answers ++ tells_finished ∷ [])

-- the server's application is told of the reset with another code
abbrev pub other_code : ReadCall → Run
other_code read = paired_with read (take 9 paired_answers ++ answers.ReceivedReset (Ok (Some 9)) ∷ [])

-- the client's second stream has the id of the first
abbrev pub opened_twice : ReadCall → Run
opened_twice read = paired_with read (take 1 paired_answers ++ answers.Open (Some 0) ∷ [])

-- the server accepts a stream before anything came
abbrev pub accepted_early : Run
accepted_early = record {
  keys = worked_policies;
  start = both_steady;
  events = accepts_stream ∷ [];
  answers = answers.Accept (Some 0) ∷ [];
  views = record { client = open_view; server = open_view } ∷ [];
  from_client = [];
  from_server = [];
}

-- the server accepts the first stream twice
abbrev pub accepted_twice : ReadCall → Run
accepted_twice read = paired_with read (take 8 paired_answers ++ answers.Accept (Some 0) ∷ [])

-- a read of the second stream tells that it was reset, which it wasn't
abbrev pub reset_of_second : ReadCall → Run
reset_of_second read = paired_with read (take 10 paired_answers ++ answers.Read (Ok (Err (read_errors.Reset 7) ∷ Err (read_errors.Reset 7) ∷ [])) ∷ [])

-- until the datagram is given
abbrev pub pair_giving : ReadCall → Run
pair_giving read = paired_with read giving_answers

-- what is kept of datagrams, without what has to be sent again beside the bytes of streams
abbrev pub without_again : Table TrackedPacket → Table TrackedPacket
without_again packets = map (λ p. (p.0, record p.1 { carried = record p.1.carried { retransmits = nothing_waits } })) packets

-- the client gave its datagram, which came to nobody, and forgot that it tells of the reset
abbrev pub reset_forgotten : World
reset_forgotten = with_client pair_sent (record pair_sent.client { tracking = record pair_sent.client.tracking { packets = without_again pair_sent.client.tracking.packets } })

-- what is kept of datagrams, where the reset of another stream, with another code, has to be sent
-- again
abbrev pub with_other_reset : Table TrackedPacket → Table TrackedPacket
with_other_reset packets = map (λ p. (p.0, record p.1 { carried = record p.1.carried { retransmits = record nothing_waits { reset_stream = (4, 9) ∷ [] } } })) packets

-- the client gave its datagram, which came to nobody, and keeps that it tells of another reset
abbrev pub reset_changed : World
reset_changed = with_client pair_sent (record pair_sent.client { tracking = record pair_sent.client.tracking { packets = with_other_reset pair_sent.client.tracking.packets } })

-- nothing is accepted, although the reset of a stream came
abbrev pub reset_unaccepted : ReadCall → Run
reset_unaccepted read = paired_with read (take 7 paired_answers ++ answers.Accept None ∷ [])

-- the first stream alone is accepted
abbrev pub second_unaccepted : ReadCall → Run
second_unaccepted read = paired_with read (take 8 paired_answers ++ answers.Accept None ∷ [])

-- a read of the second stream gives what was written on the first
abbrev pub other_bytes : ReadCall → Run
other_bytes read = paired_with read (take 10 paired_answers ++ answers.Read (Ok (Ok (Some (record { offset = 0; bytes = abc })) ∷ Err read_errors.Blocked ∷ [])) ∷ [])
