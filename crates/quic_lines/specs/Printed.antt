-- What is printed of an answer.
use Rattle.std.specs.Prelude.{ℕ, Bool, true, false, ◌-◌, ◌==◌, if◌then◌else◌, List, [], ◌∷◌, ◌++◌, codes, Option, Some, None, Result, Ok, Err}
use Rattle.std.specs.Fmt.{decimal}
use Rattle.hex.specs.Hex.{encode_lower}
use Rattle.quic_wire_core.specs.declared.shared.EcnCodepoint.{EcnCodepoint}
use Rattle.quic_wire_core.specs.declared.shared.EcnCodepoint.TheVariants.{Ect0, Ect1, Ce}
use Rattle.quic_assembler.specs.declared.assembler.Chunk.{Chunk}
use Rattle.quic_streams_parts.specs.declared.answers.WriteError.{WriteError}
use Rattle.quic_streams_parts.specs.declared.answers.WriteError.TheVariants as writes
use Rattle.quic_streams_parts.specs.declared.answers.FinishError.{FinishError}
use Rattle.quic_streams_parts.specs.declared.answers.FinishError.TheVariants as finishes
use Rattle.quic_streams_parts.specs.declared.answers.ReadError.{ReadError}
use Rattle.quic_streams_parts.specs.declared.answers.ReadError.TheVariants as reads
use Rattle.quic_streams_parts.specs.declared.answers.UpdateError.{UpdateError}
use Rattle.quic_streams_parts.specs.declared.answers.UpdateError.TheVariants as updates
use Rattle.quic_streams_parts.specs.declared.answers.ClosedStream.{ClosedStream}
use Rattle.quic_streams_parts.specs.declared.answers.Written.{Written}
use Rattle.quic_streams_parts.specs.declared.answers.StreamEvent.{StreamEvent}
use Rattle.quic_wire_core.specs.declared.stream_id.Dir.{Dir}
use Rattle.quic_wire_core.specs.declared.stream_id.Dir.TheVariants.{Bi, Uni}
use Rattle.quic_streams_parts.specs.declared.answers.ReadableError.{ReadableError}
use Rattle.quic_streams_parts.specs.declared.answers.ReadableError.TheVariants as readables
use Rattle.quic_messages.specs.declared.errors.SendDatagramError.{SendDatagramError}
use Rattle.quic_messages.specs.declared.errors.SendDatagramError.TheVariants as sends
use Rattle.quic_machine.specs.declared.answers.DropReason.{DropReason}
use Rattle.quic_machine.specs.declared.answers.DropReason.TheVariants as drops
use Rattle.quic_machine.specs.declared.answers.Received.{Received}
use Rattle.quic_machine.specs.declared.answers.Received.TheVariants as receives
use Rattle.quic_machine.specs.declared.answers.Transmit.{Transmit}
use Rattle.quic_machine.specs.declared.answers.Failed.{Failed}
use Rattle.quic_machine.specs.declared.answers.State.{State}
use Rattle.quic_machine.specs.declared.answers.State.TheVariants as states
use Rattle.quic_machine.specs.declared.answers.HandshakeDoneError.{HandshakeDoneError}
use Rattle.quic_machine.specs.declared.answers.HandshakeDoneError.TheVariants as done_errors
use Rattle.quic_machine.specs.declared.answers.NextIdError.{NextIdError}
use Rattle.quic_machine.specs.declared.answers.NextIdError.TheVariants as next_ids
use Rattle.quic_machine.specs.declared.answers.LostReason.{LostReason}
use Rattle.quic_machine.specs.declared.answers.LostReason.TheVariants as losses
use Rattle.quic_streams_parts.specs.declared.answers.StreamEvent.TheVariants as happenings
use Rattle.quic_machine.specs.declared.answers.Event.{Event}
use Rattle.quic_machine.specs.declared.answers.Event.TheVariants as events
use Rattle.quic_machine.specs.declared.run.Call.{Call}
use Rattle.quic_machine.specs.declared.run.Call.TheVariants as calls
use Rattle.quic_machine.specs.declared.run.Answer.{Answer}
use Rattle.quic_machine.specs.declared.run.Answer.TheVariants as answers

-- ---- parts

-- bytes in lower-case hexadecimal, where `-` stands for none
abbrev pub bytes_text : List ℕ → List ℕ
bytes_text [] = codes "-"
bytes_text (b ∷ bs) = encode_lower (b ∷ bs)

-- a word, a blank, and a number in decimal
abbrev pub coded_text : List ℕ → ℕ → List ℕ
coded_text word code = word ++ (codes " " ++ decimal code)

-- a stream's id, if there is one
abbrev pub id_text : Option ℕ → List ℕ
id_text (Some id) = decimal id
id_text None = codes "none"

-- a moment in nanoseconds, if there is one
abbrev pub moment_text : Option ℕ → List ℕ
moment_text (Some moment) = decimal moment
moment_text None = codes "none"

-- a mark, where `-` stands for none
abbrev pub mark_text : Option EcnCodepoint → List ℕ
mark_text None = codes "-"
mark_text (Some Ect0) = codes "ect0"
mark_text (Some Ect1) = codes "ect1"
mark_text (Some Ce) = codes "ce"

-- what ends a line
abbrev pub line_feed : List ℕ
line_feed = 10 ∷ []

-- ---- answers of one call

-- how many bytes a write took, or why none
abbrev pub write_text : Result ℕ WriteError → List ℕ
write_text (Ok count) = decimal count
write_text (Err writes.Blocked) = codes "blocked"
write_text (Err (writes.Stopped code)) = coded_text (codes "stopped") code
write_text (Err writes.ClosedStream) = codes "closed"
write_text (Err writes.Memory) = codes "memory"

-- whether a stream was finished, or why not
abbrev pub finish_text : Result (Unit {0}) FinishError → List ℕ
finish_text (Ok done) = codes "ok"
finish_text (Err (finishes.Stopped code)) = coded_text (codes "stopped") code
finish_text (Err finishes.ClosedStream) = codes "closed"
finish_text (Err finishes.Memory) = codes "memory"

-- how many bytes and whole buffers a write took, or why none
abbrev pub chunks_text : Result Written WriteError → List ℕ
chunks_text (Ok written) = decimal written.bytes ++ (codes " " ++ decimal written.chunks)
chunks_text (Err error) = write_text (Err error)

-- whether a stream was reset, stopped or given a priority, or why not
abbrev pub update_text : Result (Unit {0}) UpdateError → List ℕ
update_text (Ok done) = codes "ok"
update_text (Err updates.ClosedStream) = codes "closed"
update_text (Err updates.Memory) = codes "memory"

-- the code with which the peer reset a stream, if it did
abbrev pub reset_text : Result (Option ℕ) ClosedStream → List ℕ
reset_text (Ok (Some code)) = coded_text (codes "reset") code
reset_text (Ok None) = codes "none"
reset_text (Err closed) = codes "closed"

-- a chunk's offset and bytes, the end of the stream, or why there is neither
abbrev pub next_text : Result (Option Chunk) ReadError → List ℕ
next_text (Ok (Some chunk)) = decimal chunk.offset ++ (codes " " ++ bytes_text chunk.bytes)
next_text (Ok None) = codes "end"
next_text (Err reads.Blocked) = codes "blocked"
next_text (Err (reads.Reset code)) = coded_text (codes "reset") code
next_text (Err reads.Memory) = codes "memory"

-- why a stream can't be read
abbrev pub unreadable_text : ReadableError → List ℕ
unreadable_text readables.ClosedStream = codes "closed"
unreadable_text readables.IllegalOrderedRead = codes "illegal"
unreadable_text readables.Memory = codes "memory"

-- the answer of the first `next` of a read
abbrev pub first_next_text : List (Result (Option Chunk) ReadError) → List ℕ
first_next_text [] = []
first_next_text (next ∷ nexts) = next_text next

-- whether a message waits to go, or why not
abbrev pub send_text : Result (Unit {0}) SendDatagramError → List ℕ
send_text (Ok done) = codes "ok"
send_text (Err sends.UnsupportedByPeer) = codes "unsupported"
send_text (Err sends.Disabled) = codes "disabled"
send_text (Err sends.TooLarge) = codes "toolarge"
send_text (Err sends.Blocked) = codes "blocked"
send_text (Err sends.Memory) = codes "memory"

-- a message that was read, if there is one
abbrev pub message_text : Option (List ℕ) → List ℕ
message_text (Some message) = bytes_text message
message_text None = codes "none"

-- an address behind a blank, where it isn't 0
abbrev pub address_text : ℕ → List ℕ
address_text remote = if remote == 0 then [] else codes " " ++ decimal remote

-- which datagram of its end was given, its size, its mark and its address
abbrev pub transmit_text : ℕ → Transmit → List ℕ
transmit_text index transmit = decimal index ++ (codes " " ++ (decimal transmit.size ++ (codes " " ++ (mark_text transmit.ecn ++ address_text transmit.remote))))

-- the name of the reason why a datagram was dropped
abbrev pub reason_text : DropReason → List ℕ
reason_text drops.TooShort = codes "tooshort"
reason_text drops.NotShort = codes "notshort"
reason_text drops.FixedBit = codes "fixedbit"
reason_text drops.UnknownId = codes "unknownid"
reason_text drops.NotOpened = codes "notopened"
reason_text drops.KeyPhase = codes "keyphase"
reason_text drops.Duplicate = codes "duplicate"
reason_text drops.Closing = codes "closing"
reason_text drops.Drained = codes "drained"
reason_text drops.Failed = codes "failed"
reason_text drops.Address = codes "address"

-- what came of a datagram
abbrev pub received_text : Received → List ℕ
received_text receives.Taken = codes "taken"
received_text (receives.Dropped reason) = codes "dropped " ++ reason_text reason
received_text (receives.Closed error) = coded_text (codes "closed") error.code
received_text receives.Failed = codes "failed"

-- whether the next id is used, or why it isn't
abbrev pub next_id_text : Result (Unit {0}) NextIdError → List ℕ
next_id_text (Ok done) = codes "ok"
next_id_text (Err next_ids.NoId) = codes "noid"
next_id_text (Err next_ids.TooManyPending) = codes "toomany"
next_id_text (Err next_ids.Memory) = codes "memory"

-- whether HANDSHAKE_DONE waits to go, or why it doesn't
abbrev pub handshake_done_text : Result (Unit {0}) HandshakeDoneError → List ℕ
handshake_done_text (Ok done) = codes "ok"
handshake_done_text (Err done_errors.Client) = codes "client"
handshake_done_text (Err done_errors.Again) = codes "again"
handshake_done_text (Err done_errors.NotOpen) = codes "notopen"

-- whether timers were let expire, or the end has failed
abbrev pub timeout_text : Result (Unit {0}) Failed → List ℕ
timeout_text (Ok done) = codes "ok"
timeout_text (Err failed) = codes "failed"

-- the name of the reason why an end is lost
abbrev pub loss_text : LostReason → List ℕ
loss_text losses.Application = codes "application"
loss_text (losses.Peer close) = codes "peer"
loss_text losses.Pieces = codes "pieces"
loss_text losses.Idle = codes "idle"
loss_text losses.KeyLimit = codes "keylimit"
loss_text losses.NumberLimit = codes "numberlimit"
loss_text (losses.Transport error) = codes "transport"

-- whether an end is open, and else in which way it isn't
abbrev pub state_text : State → List ℕ
state_text states.Open = codes "open"
state_text states.Closing = codes "closing"
state_text states.Drained = codes "drained"
state_text states.Failed = codes "failed"

-- a blank, and whether the address of an end's peer is validated
abbrev pub validated_text : Bool → List ℕ
validated_text true = codes " validated"
validated_text false = codes " unvalidated"

-- how a kind of stream is named
abbrev pub dir_text : Dir → List ℕ
dir_text Bi = codes "bi"
dir_text Uni = codes "uni"

-- what happened to streams
abbrev pub stream_event_text : StreamEvent → List ℕ
stream_event_text (happenings.Opened dir) = codes "opened " ++ dir_text dir
stream_event_text (happenings.Readable id) = coded_text (codes "readable") id
stream_event_text (happenings.Writable id) = coded_text (codes "writable") id
stream_event_text (happenings.Finished id) = coded_text (codes "finished") id
stream_event_text (happenings.Stopped id code) = coded_text (coded_text (codes "stopped") id) code
stream_event_text (happenings.Available dir) = codes "available " ++ dir_text dir

-- what the application is told, if anything
abbrev pub event_text : Option Event → List ℕ
event_text (Some (events.Stream event)) = stream_event_text event
event_text (Some events.Message) = codes "message"
event_text (Some events.HandshakeConfirmed) = codes "confirmed"
event_text (Some (events.Lost reason)) = codes "lost " ++ loss_text reason
event_text None = codes "none"

-- the moment at which both ends rest, if they do
abbrev pub rest_text : Option ℕ → List ℕ
rest_text (Some moment) = decimal moment
rest_text None = codes "gave up"

-- ---- any answer

-- An answer, where the end gave so many datagrams by then: a datagram is the last of these, counted
-- from 0.
abbrev pub answer_text : ℕ → Answer → List ℕ
answer_text given (answers.Open id) = id_text id
answer_text given (answers.Accept id) = id_text id
answer_text given (answers.Write written) = write_text written
answer_text given (answers.Finish finished) = finish_text finished
answer_text given (answers.WriteChunks written) = chunks_text written
answer_text given (answers.Reset done) = update_text done
answer_text given (answers.SetPriority done) = update_text done
answer_text given (answers.Stop done) = update_text done
answer_text given (answers.ReceivedReset code) = reset_text code
answer_text given (answers.Read (Ok nexts)) = first_next_text nexts
answer_text given (answers.Read (Err error)) = unreadable_text error
answer_text given (answers.Send sent) = send_text sent
answer_text given (answers.Recv message) = message_text message
answer_text given answers.Ping = codes "ok"
answer_text given answers.Close = codes "ok"
answer_text given (answers.UseNextId changed) = next_id_text changed
answer_text given (answers.HandshakeDone said) = handshake_done_text said
answer_text given (answers.Poll (Ok (Some transmit))) = transmit_text (given - 1) transmit
answer_text given (answers.Poll (Ok None)) = codes "none"
answer_text given (answers.Poll (Err failed)) = codes "failed"
answer_text given (answers.Timeout done) = timeout_text done
answer_text given (answers.Deliver received) = received_text received
answer_text given answers.NoDatagram = codes "nodatagram"
answer_text given (answers.Inject received) = received_text received
answer_text given answers.Opens = codes "opens"
answer_text given (answers.Event told) = event_text told
answer_text given (answers.Timer moment) = moment_text moment
answer_text given (answers.NextTimeout moment) = moment_text moment
answer_text given (answers.State state validated) = state_text state ++ validated_text validated

-- ---- calls

-- how a read is named, in order or not
abbrev pub read_name : Bool → List ℕ
read_name true = codes "read"
read_name false = codes "pick"

-- how a call is named
abbrev pub call_text : Call → List ℕ
call_text (calls.Open dir) = codes "open"
call_text (calls.Accept dir) = codes "accept"
call_text (calls.Write id bytes) = codes "write"
call_text (calls.Finish id) = codes "finish"
call_text (calls.WriteChunks id chunks) = codes "write_chunks"
call_text (calls.Reset id code) = codes "reset"
call_text (calls.SetPriority id priority) = codes "priority"
call_text (calls.Read read) = read_name read.ordered
call_text (calls.Stop id code) = codes "stop"
call_text (calls.ReceivedReset id) = codes "received_reset"
call_text (calls.Send message makes_room) = codes "send"
call_text calls.Recv = codes "recv"
call_text calls.Ping = codes "ping"
call_text (calls.Close close) = codes "close"
call_text calls.UseNextId = codes "use_next_id"
call_text calls.HandshakeDone = codes "handshake_done"
call_text (calls.Poll now) = codes "poll"
call_text (calls.Timeout now) = codes "timeout"
call_text (calls.Deliver delivery) = codes "deliver"
call_text (calls.Inject injection) = codes "inject"
call_text calls.Event = codes "event"
call_text (calls.Timer timer) = codes "timer"
call_text calls.NextTimeout = codes "next"
call_text calls.State = codes "state"
