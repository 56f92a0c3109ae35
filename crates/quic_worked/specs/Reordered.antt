-- A run in which the second of two datagrams comes first: the client writes `abc` and `def`, each
-- in a datagram of its own.
use Rattle.std.specs.Prelude.{ℕ, zero, suc, false, List, [], ◌∷◌, ◌++◌, take, replicate, Some, None, Ok, Err}
use Rattle.quic_wire_core.specs.declared.stream_id.Side.TheVariants.{Client, Server}
use Rattle.quic_assembler.specs.Arrived.{Arrived, after_insert}
use Rattle.quic_assembler.specs.ArrivedHistory.{nothing_arrived}
use Rattle.quic_send_buffer.specs.Buffered.{Buffered, nothing_written, after_write, after_poll}
use Rattle.quic_wire.specs.Value.{stream, FrameValue}
use Rattle.quic_streams_parts.specs.declared.answers.ReadError.TheVariants as read_errors
use Rattle.quic_machine.specs.declared.answers.Received.TheVariants as receives
use Rattle.quic_machine.specs.declared.run.RunEvent.{RunEvent}
use Rattle.quic_machine.specs.declared.run.ReadCall.{ReadCall}
use Rattle.quic_machine.specs.declared.run.Call.TheVariants as calls
use Rattle.quic_machine.specs.declared.run.Answer.{Answer}
use Rattle.quic_machine.specs.declared.run.Answer.TheVariants as answers
use Rattle.quic_machine.specs.declared.run.View.{View}
use Rattle.quic_machine.specs.Machine.{World}
use Rattle.quic_headline.specs.Runs.{Packet, Run}
use Rattle.quic_worked.specs.Worked.{NextAnswers, end_after_reads, worked_policies, started, once_sent, once_taken, with_server, ran, opens_stream, asks_datagram, accepts_stream, reads_stream, gives_bytes, open_view, sent_view, ids_payload, behind_ids, server_open, server_waiting}

-- the first three bytes of the stream
abbrev pub abc : List ℕ
abc = 0x61 ∷ 0x62 ∷ 0x63 ∷ []

-- and the three behind them
abbrev pub def : List ℕ
def = 0x64 ∷ 0x65 ∷ 0x66 ∷ []

-- the client's ids, and STREAM with a length, under number 0 (RFC 9000, section 19.8)
abbrev pub abc_datagram : List ℕ
abc_datagram =
    (0x48 ∷ 0x50 ∷ 0x50 ∷ 0x50 ∷ 0x50 ∷ 0x50 ∷ 0x50 ∷ 0x50 ∷ 0x50 ∷ 0x00 ∷ [])
    ++ ids_payload
    ++ (0x0a ∷ 0x00 ∷ 0x03 ∷ 0x61 ∷ 0x62 ∷ 0x63 ∷ [])
    ++ (replicate 8 0x00 ++ replicate 8 0x63)

-- STREAM with an offset and a length, under number 1
abbrev pub def_datagram : List ℕ
def_datagram =
    (0x43 ∷ 0x50 ∷ 0x50 ∷ 0x50 ∷ 0x50 ∷ 0x50 ∷ 0x50 ∷ 0x50 ∷ 0x50 ∷ 0x65 ∷ [])
    ++ (0x0e ∷ 0x00 ∷ 0x03 ∷ 0x03 ∷ 0x64 ∷ 0x65 ∷ 0x66 ∷ [])
    ++ (replicate 7 0x00 ++ 0x01 ∷ replicate 8 0x63)

-- ---- the run

-- the client writes these bytes
abbrev pub writes_bytes : List ℕ → RunEvent
writes_bytes bytes = record { side = Client; call = calls.Write 0 bytes }

-- a delivery to the server at moment 0, without a mark
abbrev pub delivers_at : ℕ → RunEvent
delivers_at index =
    record { side = Server; call = calls.Deliver (record { now = 0; remote = 0; ecn = None; index = index }) }

-- the client gives two datagrams
abbrev pub both_events : List RunEvent
both_events =
    opens_stream ∷ writes_bytes abc ∷ asks_datagram ∷ writes_bytes def ∷ asks_datagram ∷ []

-- what they are answered
abbrev pub both_answers : List Answer
both_answers =
    answers.Open (Some 0)
    ∷ answers.Write (Ok 3)
    ∷ gives_bytes 228
    ∷ answers.Write (Ok 3)
    ∷ gives_bytes 33
    ∷ []

-- its events; the first read asks for one chunk, the second for three
abbrev pub reordered_events : ReadCall → ReadCall → List RunEvent
reordered_events first second =
    both_events
    ++ delivers_at 1
    ∷ accepts_stream
    ∷ reads_stream first
    ∷ delivers_at 0
    ∷ reads_stream second
    ∷ []

-- a read that gives nothing
abbrev pub blocked_nexts : NextAnswers
blocked_nexts = Err read_errors.Blocked ∷ []

-- a read that gives all six bytes, in two chunks, and then nothing
abbrev pub both_nexts : NextAnswers
both_nexts =
    Ok (Some (record { offset = 0; bytes = abc }))
    ∷ Ok (Some (record { offset = 3; bytes = def }))
    ∷ blocked_nexts

-- the answers
abbrev pub reordered_answers : List Answer
reordered_answers =
    both_answers
    ++ answers.Deliver receives.Taken
    ∷ answers.Accept (Some 0)
    ∷ answers.Read (Ok blocked_nexts)
    ∷ answers.Deliver receives.Taken
    ∷ answers.Read (Ok both_nexts)
    ∷ []

-- ---- what its events leave

-- the first datagram is given
unfoldable pub first_sent : World
unfolding once_sent
first_sent = ran worked_policies started (take 3 both_events) (take 3 both_answers)

-- and the bytes behind it are written
abbrev pub second_written : World
second_written = ran worked_policies first_sent (writes_bytes def ∷ []) (answers.Write (Ok 3) ∷ [])

-- both datagrams are given
unfoldable pub both_sent : World
unfolding first_sent
both_sent = ran worked_policies second_written (asks_datagram ∷ []) (gives_bytes 33 ∷ [])

-- the second came
unfoldable pub second_taken : World
unfolding once_taken both_sent
second_taken =
    ran worked_policies both_sent (delivers_at 1 ∷ []) (answers.Deliver receives.Taken ∷ [])

-- its stream is accepted, and a read gave nothing
abbrev pub second_accepted : World
second_accepted =
    ran worked_policies second_taken (accepts_stream ∷ []) (answers.Accept (Some 0) ∷ [])

-- the first came
unfoldable pub both_taken : World
unfolding second_taken
both_taken =
    ran worked_policies second_accepted (delivers_at 0 ∷ []) (answers.Deliver receives.Taken ∷ [])

-- all is read
abbrev pub both_read : World
both_read = with_server both_taken (end_after_reads both_taken.server 0 (32 ∷ 32 ∷ 32 ∷ []) both_nexts)

-- ---- what is seen of it

-- what is seen of both ends after each event: the server waits for 25 ms once number 1 came, since
-- before any packet came none counts as missing below it. Number 0 comes below it, so that an
-- acknowledgement is due at once; the timer stays as it was set
abbrev pub reordered_views : List View
reordered_views =
    replicate 2 (record { client = open_view; server = server_open })
    ++ replicate 3 (record { client = sent_view; server = server_open })
    ++ replicate 5 (record { client = sent_view; server = server_waiting })

-- the run
abbrev pub reordered_run : ReadCall → ReadCall → Run
reordered_run first second = record {
  keys = worked_policies;
  start = started;
  events = reordered_events first second;
  answers = reordered_answers;
  views = reordered_views;
  from_client = abc_datagram ∷ def_datagram ∷ [];
  from_server = [];
}

-- the frame with these bytes of the stream from an offset on
abbrev pub part_frame : ℕ → List ℕ → FrameValue
part_frame offset bytes = stream (record { id = 0; offset = offset; fin = false; bytes = bytes })

-- the packet of number 0, with the ids and the first bytes
abbrev pub abc_packet : Packet
abc_packet = record { number = 0; frames = behind_ids (part_frame 0 abc ∷ []) }

-- that of number 1, with the bytes behind them
abbrev pub def_packet : Packet
def_packet = record { number = 1; frames = part_frame 3 def ∷ [] }

-- its packets, the latest first
abbrev pub reordered_packets : List Packet
reordered_packets = abc_packet ∷ def_packet ∷ []

-- ---- the buffers alone

-- `123` came at offset 0
abbrev pub first_arrived : Arrived
first_arrived = after_insert nothing_arrived 0 (0x31 ∷ 0x32 ∷ 0x33 ∷ [])

-- and `234` at offset 1
abbrev pub both_arrived : Arrived
both_arrived = after_insert first_arrived 1 (0x32 ∷ 0x33 ∷ 0x34 ∷ [])

-- 29 bytes, after so many frames went in 16 bytes of room each
abbrev pub sent_often : ℕ → Buffered
sent_often zero = after_write nothing_written (replicate 29 0x61)
sent_often (suc n) = after_poll (sent_often n) 16
