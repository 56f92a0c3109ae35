-- A worked run: the client opens stream 0, writes `hello`, ends it, and gives one datagram; it
-- comes to the server twice, which takes it once and reads the stream. Events, answers, datagrams
-- and views are written out; the ends are what the machine makes and leaves.
use Rattle.std.specs.Prelude.{ℕ, zero, suc, ◌≡◌, ◌-◌, ◌%◌, Bool, true, false, nat_le, nat_eq, ◌&&◌, if◌then◌else◌, List, [], ◌∷◌, ◌++◌, length, take, drop, replicate, slice_index, bit_xor, Option, Some, None, Result, Ok, Err}
use Rattle.std.specs.Int.{w64, to_be_bytes}
use Rattle.std.specs.Cmp.Lexicographic.{pointwise}
use Rattle.quic_wire_core.specs.StreamId.{other_side}
use Rattle.quic_wire_core.specs.declared.stream_id.Side.{Side}
use Rattle.quic_wire_core.specs.declared.stream_id.Side.TheVariants.{Client, Server}
use Rattle.quic_wire_core.specs.declared.stream_id.Dir.{Dir}
use Rattle.quic_wire_core.specs.declared.stream_id.Dir.TheVariants.{Bi}
use Rattle.quic_wire_core.specs.declared.shared.EcnCodepoint.TheVariants.{Ect0}
use Rattle.quic_wire_core.specs.declared.shared.IssuedCid.{IssuedCid}
use Rattle.quic_parameters.specs.Parameters.{ParameterValues}
use Rattle.quic_config.specs.Transport.{Settings, parameters_of}
use Rattle.quic_worked.specs.Settings.{plain_settings, search_settings}
use Rattle.quic_sets.specs.Offsets.{without_offsets, parts_from}
use Rattle.quic_sets.specs.Pieces.{pieces}
use Rattle.quic_wire.specs.Value.{StreamValue, FrameValue, new_connection_id}
use Rattle.quic_wire.specs.Writing.{stream_spelling}
use Rattle.quic_wire.specs.FrameTypes.{kind_of}
use Rattle.quic_wire.specs.Reading.{block_at, sized_at, offset_at, data_at, stream_at, byte_at, id_at, connection_id_at, id_and_token_at, issued_at, new_connection_id_at, body_at}
use Rattle.quic_wire.specs.Items.{frame_at, items_within, items}
use Rattle.quic_packet.specs.Number.{truncated, number_bytes}
use Rattle.quic_packet.specs.Keys.{Protection}
use Rattle.quic_packet.specs.Datagram.{Opening, datagram_of, sent}
use Rattle.quic_machine.specs.Arrival.{arriving}
use Rattle.quic_machine.specs.declared.answers.State.TheVariants as states
use Rattle.quic_machine.specs.declared.answers.Received.{Received}
use Rattle.quic_machine.specs.declared.answers.Received.TheVariants as receives
use Rattle.quic_machine.specs.declared.answers.DropReason.TheVariants as drops
use Rattle.quic_machine.specs.declared.run.RunEvent.{RunEvent}
use Rattle.quic_machine.specs.declared.run.ReadCall.{ReadCall}
use Rattle.quic_machine.specs.declared.run.Delivery.{Delivery}
use Rattle.quic_machine.specs.declared.run.Call.TheVariants as calls
use Rattle.quic_machine.specs.declared.run.Answer.{Answer}
use Rattle.quic_machine.specs.declared.run.Answer.TheVariants as answers
use Rattle.quic_machine.specs.declared.run.EndView.{EndView}
use Rattle.quic_machine.specs.declared.run.View.{View}
use Rattle.quic_congestion.specs.Congestion.{Told}
use Rattle.quic_machine.specs.Policy.{Policy}
use Rattle.quic_machine.specs.Control.{Control, after_told}
use Rattle.quic_machine.specs.Closing.{failed}
use Rattle.quic_machine.specs.Tracking.{TrackedPacket}
use Rattle.quic_machine.specs.End.{End, new_end, KeyLimits, with_closing, streams_at, with_streams, with_waiting}
use Rattle.quic_machine.specs.Calls.{is_open, after_reads}
use Rattle.quic_machine.specs.Poll.{Polled, polled}
use Rattle.quic_machine.specs.Receive.{received}
use Rattle.quic_machine.specs.Parts.{Windows}
use Rattle.quic_machine.specs.Parts as parts
use Rattle.quic_machine.specs.Heard.{nothing_heard, Heard, heard_datagram}
use Rattle.quic_machine.specs.Machine.{World, Policies, policy_at, end_at, given_by, control_at, changed, end_met, end_left, gives, tells, heard_at, heard_by}
use Rattle.quic_headline.specs.Runs.{Run, same_side}
use Rattle.quic_assembler.specs.declared.assembler.Chunk.{Chunk}
use Rattle.quic_streams_parts.specs.declared.answers.WriteError.{WriteError}
use Rattle.quic_streams_parts.specs.declared.answers.WriteError.TheVariants as write_errors
use Rattle.quic_streams_parts.specs.declared.answers.FinishError.TheVariants as finish_errors
use Rattle.quic_streams_parts.specs.declared.answers.ReadableError.TheVariants as readable_errors
use Rattle.quic_streams_parts.specs.declared.answers.ReadError.{ReadError}
use Rattle.quic_streams_parts.specs.declared.answers.ReadError.TheVariants as read_errors
use Rattle.quic_retransmits.specs.Retransmits.{Retransmits, nothing_waits}
use Rattle.quic_streams_state.specs.Opening.{open_answer, accept_answer}
use Rattle.quic_streams_state.specs.Writing.{write_answer, after_write}
use Rattle.quic_streams_state.specs.Reading.{told_bytes, next_answer}

-- ---- what events leave

-- what one event leaves, by its answer, where memory served: a poll reads the window of its
-- controller first, the controller is told of the event, and what comes and goes is counted
abbrev pub after_event : Policies → World → RunEvent → Answer → World
after_event k w event a =
    let p = policy_at event.side k in
    let met = end_met w event in
    let theirs = given_by (other_side event.side) w in
    let told = tells p met theirs event.call in
    let control = after_told (control_at event.side w) told in
    let left = end_left p (control_at event.side w) (heard_at event.side w) (end_at event.side w) theirs event.call a in
    changed event.side w left (gives p met event.call a) control (heard_by (end_at event.side w) left theirs event.call a (heard_at event.side w))

-- what events leave, one behind another
abbrev pub ran : Policies → World → List RunEvent → List Answer → World
ran k w (event ∷ events) (a ∷ told) = ran k (after_event k w event a) events told
ran k w events told = w

-- what the first of these events leaves
abbrev pub stepped : Policies → World → List RunEvent → List Answer → World
stepped k w (event ∷ events) (a ∷ told) = after_event k w event a
stepped k w events told = w

-- what the first so many leave, each behind the world that those before it left
abbrev pub ran_so_far : Policies → World → List RunEvent → List Answer → ℕ → World
ran_so_far k w events told zero = w
ran_so_far k w events told (suc n) = stepped k (ran_so_far k w events told n) (drop n events) (drop n told)

-- what the controller of one of the ends is told of events, one behind another
abbrev pub told_in : Side → Policies → World → List RunEvent → List Answer → List Told
told_in side k w (event ∷ events) (a ∷ answers) =
    let theirs = given_by (other_side event.side) w in
    let told = tells (policy_at event.side k) (end_met w event) theirs event.call in
    (if same_side event.side side then told else []) ++ told_in side k (after_event k w event a) events answers
told_in side k w events answers = []

-- ---- keys that protect nothing

-- bytes, each with its mask byte added bit by bit
abbrev pub masked : List ℕ → List ℕ → List ℕ
masked [] mask = []
masked (b ∷ bs) mask = bit_xor b (slice_index mask 0) ∷ masked bs (drop 1 mask)

-- the first byte, its low five bits masked by the sample's first byte
abbrev pub masked_first : List ℕ → ℕ → ℕ
masked_first s b = bit_xor b (slice_index s 0 % 32)

-- the number's bytes, masked by the sample's bytes from the second on
abbrev pub masked_number : List ℕ → List ℕ → List ℕ
masked_number s y = masked y (drop 1 s)

-- the tag: the number in eight bytes, and a mark eight times
abbrev pub tag_of : ℕ → ℕ → List ℕ
tag_of mark n = to_be_bytes w64 n ++ replicate 8 mark

-- the payload, and the tag behind it
abbrev pub marked : ℕ → ℕ → List ℕ → List ℕ → List ℕ
marked mark n h p = p ++ tag_of mark n

-- what stands before the tag, where the last 16 bytes are the tag
abbrev pub unmarked : ℕ → ℕ → List ℕ → List ℕ → Option (List ℕ)
unmarked mark n h b =
    if nat_le 16 (length b) && pointwise nat_eq (drop (length b - 16) b) (tag_of mark n)
    then Some (take (length b - 16) b)
    else None

-- the header masked by the sample, and by the same sample once more
abbrev pub masking : Protection
masking =
    record {
      mask = masked_first;
      hide = masked_number;
      unmask = masked_first;
      reveal = masked_number;
    }

-- the window of each controller: ten datagrams (RFC 9002, section 7.2)
abbrev pub steady_window : ℕ
steady_window = 12000

-- a controller that shows it whatever it is told
abbrev pub steady_control : Control
steady_control = λ (told : List Told). steady_window

-- it shows that when it is made, and begins with it
abbrev pub steady : Windows
steady = record { initial = steady_window; present = steady_window }

-- a window in which no datagram fits: an end that reads it acknowledges what comes, and gives
-- nothing that asks, so that the ids which it has issued wait to be told
abbrev pub shut_window : ℕ
shut_window = 1199

-- a controller that shows it whatever it is told
abbrev pub shut_control : Control
shut_control = λ (told : List Told). shut_window

-- it shows that when it is made
abbrev pub shut : Windows
shut = record { initial = steady_window; present = shut_window }

-- an end that marks what it gives by one byte, and opens what is marked by another, 8388608 packets
-- of each at most; its random source answers 63 for ever
abbrev pub marking : ℕ → ℕ → Policy
marking own theirs =
    record {
      header = masking;
      packet = record { seal = marked own; unseal = unmarked theirs };
      words = λ n. 63;
      seals = 8388608;
      openings = 8388608;
    }

-- the marks are the letters `c` and `s`
abbrev pub worked_policies : Policies
worked_policies = record { client = marking 0x63 0x73; server = marking 0x73 0x63 }

-- so long their keys last
abbrev pub long_keys : KeyLimits
long_keys = record { seals = 8388608; openings = 8388608 }

-- ---- the ends as they are made

-- the client's first id
abbrev pub client_id : List ℕ
client_id = replicate 8 0xc0

-- the server's first id
abbrev pub server_id : List ℕ
server_id = replicate 8 0x50

-- what an end tells that keeps so many ids: 2^62 - 1 bytes in all, 1250000 on each stream, 100
-- streams of each kind, the ids, DATAGRAM frames of 65535 bytes (RFC 9000, section 18.2)
abbrev pub parameters_with : ℕ → List ℕ
parameters_with ids =
    (0x04 ∷ 0x08 ∷ 0xff ∷ 0xff ∷ 0xff ∷ 0xff ∷ 0xff ∷ 0xff ∷ 0xff ∷ 0xff ∷ [])
    ++ (0x05 ∷ 0x04 ∷ 0x80 ∷ 0x13 ∷ 0x12 ∷ 0xd0 ∷ [])
    ++ (0x06 ∷ 0x04 ∷ 0x80 ∷ 0x13 ∷ 0x12 ∷ 0xd0 ∷ [])
    ++ (0x07 ∷ 0x04 ∷ 0x80 ∷ 0x13 ∷ 0x12 ∷ 0xd0 ∷ [])
    ++ (0x08 ∷ 0x02 ∷ 0x40 ∷ 0x64 ∷ [])
    ++ (0x09 ∷ 0x02 ∷ 0x40 ∷ 0x64 ∷ [])
    ++ (0x0e ∷ 0x01 ∷ ids ∷ [])
    ++ (0x20 ∷ 0x04 ∷ 0x80 ∷ 0x00 ∷ 0xff ∷ 0xff ∷ [])

-- each end here keeps eight
abbrev pub worked_parameters : List ℕ
worked_parameters = parameters_with 8

-- the client before the first event: open at moment 0, on a validated path; of its numbers 63 is
-- the first that is left out
abbrev pub client_made : End
client_made =
    new_end Client plain_settings steady (parameters_of plain_settings) client_id server_id 0 0 true (λ n. 63)

-- the server before the first event: its window is shut
abbrev pub server_made : End
server_made =
    new_end Server plain_settings shut (parameters_of plain_settings) server_id client_id 0 0 true (λ n. 63)

-- both ends, before anything was given
abbrev pub started : World
started = record {
  client = client_made;
  server = server_made;
  from_client = [];
  from_server = [];
  client_control = steady_control;
  server_control = shut_control;
  client_heard = nothing_heard;
  server_heard = nothing_heard;
}

-- what a peer tells that keeps five ids
abbrev pub few_kept : ParameterValues
few_kept = record (parameters_of plain_settings) { active_connection_id_limit = 5 }

-- both ends, of which the client has such a peer
abbrev pub few_started : World
few_started = record started { client = new_end Client plain_settings steady few_kept client_id server_id 0 0 true (λ n. 63) }

-- ---- the ids that each end issues at once

-- eight bytes of a word of the random source
abbrev pub id_word : List ℕ
id_word = replicate 7 0x00 ++ 0x3f ∷ []

-- the id of a number: one word, and a token of two
abbrev pub issued : ℕ → IssuedCid
issued number = record { sequence = number; id = id_word; reset_token = id_word ++ id_word }

-- those under numbers 1 to 7, as the peer takes eight in all
abbrev pub issued_ids : List IssuedCid
issued_ids = issued 1 ∷ issued 2 ∷ issued 3 ∷ issued 4 ∷ issued 5 ∷ issued 6 ∷ issued 7 ∷ []

-- NEW_CONNECTION_ID of a number, which asks for none to be retired (RFC 9000, section 19.15)
abbrev pub id_frame : ℕ → FrameValue
id_frame number = new_connection_id (record { sequence = number; retire_prior_to = 0; id = id_word; token = id_word ++ id_word })

-- its spelling: type, both numbers, the length of the id, the id and its token
abbrev pub id_payload : ℕ → List ℕ
id_payload number = 0x18 ∷ number ∷ 0x00 ∷ 0x08 ∷ id_word ++ id_word ++ id_word

-- the frames with which an end tells all seven, before the bytes of its streams
abbrev pub id_frames : List FrameValue
id_frames = id_frame 1 ∷ id_frame 2 ∷ id_frame 3 ∷ id_frame 4 ∷ id_frame 5 ∷ id_frame 6 ∷ id_frame 7 ∷ []

-- how they are written: 196 bytes
abbrev pub ids_payload : List ℕ
ids_payload = id_payload 1 ++ id_payload 2 ++ id_payload 3 ++ id_payload 4 ++ id_payload 5 ++ id_payload 6 ++ id_payload 7

-- the frames of the first packet of an end, which tells its ids before these
abbrev pub behind_ids : List FrameValue → List FrameValue
behind_ids frames = id_frames ++ frames

-- and how they are written
abbrev pub told_ids : List ℕ → List ℕ
told_ids payload = ids_payload ++ payload

-- what has to be sent again of a packet that told them, beside the bytes of streams
abbrev pub ids_again : Retransmits
ids_again = record nothing_waits { new_cids = issued_ids }

-- both ends, where the window of the server has room too, so that it tells its ids with the first
-- datagram that it gives
abbrev pub both_steady : World
both_steady = record {
  client = client_made;
  server = new_end Server plain_settings steady (parameters_of plain_settings) server_id client_id 0 0 true (λ n. 63);
  from_client = [];
  from_server = [];
  client_control = steady_control;
  server_control = steady_control;
  client_heard = nothing_heard;
  server_heard = nothing_heard;
}

-- two ends, of which the client is this one
abbrev pub with_client : World → End → World
with_client w e = record w { client = e }

-- two ends, of which the server is this one
abbrev pub with_server : World → End → World
with_server w e = record w { server = e }

-- two ends, of which the client has counted this
abbrev pub client_counting : Heard → World → World
client_counting heard w = record w { client_heard = heard }

-- two ends, of which the server has counted this
abbrev pub server_counting : Heard → World → World
server_counting heard w = record w { server_heard = heard }

-- what the client gives at a moment
abbrev pub client_gives : End → ℕ → Polled
client_gives client now = polled worked_policies.client client now

-- what the server gives at a moment
abbrev pub server_gives : End → ℕ → Polled
server_gives server now = polled worked_policies.server server now

-- an end that lacked memory where it can't say so
abbrev pub failed_end : End → End
failed_end e = with_closing e (failed e.closing)

-- an end whose next number is this one
abbrev pub numbered_from : ℕ → End → End
numbered_from next e = record e { numbers = record e.numbers { next = next } }

-- an end whose peer takes so many bytes on all streams
abbrev pub within : ℕ → End → End
within limit e = record e { streams = record e.streams { sending = record e.streams.sending { limit = limit } } }

-- the client, which looks for a greater size of datagrams, on a path that is validated or isn't;
-- what it asks then and which ids it tells were sent
abbrev pub searching : Bool → End
searching validated = with_waiting (new_end Client search_settings steady (parameters_of plain_settings) client_id server_id 0 0 validated (λ n. 63)) parts.nothing_waits

-- settings by which the peer may open no two-way stream
abbrev pub no_two_way : Settings
no_two_way = record plain_settings { max_bidi = 0 }

-- the stream that an end opens, if it may
abbrev pub end_opens : Dir → End → Option ℕ
end_opens dir e = open_answer (is_open e.closing.state) dir e.streams

-- the stream that an end accepts, if one waits
abbrev pub end_accepts : Dir → End → Option ℕ
end_accepts dir e = accept_answer dir e.streams

-- what a write of so many bytes on a stream is answered
abbrev pub end_writes : End → ℕ → ℕ → Result ℕ WriteError
end_writes e id count = write_answer (is_open e.closing.state) e.streams id count

-- what a write leaves that is answered so
abbrev pub end_after_write : Result ℕ WriteError → End → ℕ → List ℕ → End
end_after_write answer e id bytes =
    with_streams e (after_write (is_open e.closing.state) answer e.streams e.waiting.frames id bytes)

-- what the first `next` of a read of a stream gives, at most so many bytes
abbrev pub end_next : End → ℕ → ℕ → Result (Option Chunk) ReadError
end_next e id most = next_answer told_bytes e.streams id most

-- what a read of a stream in order leaves, by these bounds, that is answered so
abbrev pub end_after_reads : End → ℕ → List ℕ → List (Result (Option Chunk) ReadError) → End
end_after_reads e id mosts nexts = with_streams e (after_reads (streams_at e) id true mosts nexts)

-- ---- the datagram

-- the five bytes of the word
abbrev pub hello : List ℕ
hello = 104 ∷ 101 ∷ 108 ∷ 108 ∷ 111 ∷ []

-- the frame: all bytes of stream 0, and its end
abbrev pub hello_frame : StreamValue
hello_frame = record { id = 0; offset = 0; fin = true; bytes = hello }

-- its spelling: STREAM with a length and the end, stream 0, five bytes (RFC 9000, section 19.8)
abbrev pub hello_payload : List ℕ
hello_payload = 0x0b ∷ 0x00 ∷ 0x05 ∷ hello

-- it goes in the client's first datagram, which tells its ids before it
abbrev pub hello_whole : List ℕ
hello_whole = told_ids hello_payload

-- header, number under its mask, payload and tag
abbrev pub hello_datagram : List ℕ
hello_datagram =
    (0x48 ∷ 0x50 ∷ 0x50 ∷ 0x50 ∷ 0x50 ∷ 0x50 ∷ 0x50 ∷ 0x50 ∷ 0x50 ∷ 0x00 ∷ [])
    ++ ids_payload
    ++ (0x0b ∷ 0x00 ∷ 0x05 ∷ 0x68 ∷ 0x65 ∷ 0x6c ∷ 0x6c ∷ 0x6f ∷ [])
    ++ (replicate 8 0x00 ++ replicate 8 0x63)

-- the datagram that the client gives under a number, where none is acknowledged, with this payload
abbrev pub from_client : ℕ → List ℕ → List ℕ
from_client number payload =
    sent worked_policies.client.header worked_policies.client.packet number 0 server_id payload

-- the datagram of the client with this first byte
abbrev pub client_packet : ℕ → ℕ → List ℕ → List ℕ
client_packet first number payload =
    let p = worked_policies.client in
    datagram_of p.header p.packet number first server_id (number_bytes (truncated number 0)) payload

-- the datagram with its number and first byte as they are, the payload sealed behind them
abbrev pub unprotected_hello : List ℕ
unprotected_hello =
    (0x40 ∷ server_id) ++ (0x00 ∷ worked_policies.client.packet.seal 0 [] hello_whole)

-- what it opens to
abbrev pub hello_opening : Opening
hello_opening = record { first = 0x40; number = 0; payload = hello_whole }

-- what the server makes of a datagram at moment 0
abbrev pub at_server : End → List ℕ → Received
at_server server datagram = (received worked_policies.server server (arriving 0 0 None false) datagram).answer

-- a datagram of so many bytes that went at moment 0 with the bytes of stream 0 from one offset up
-- to another, and with its end or not, and of which this has to be sent again besides if it is lost
abbrev pub carrying : Retransmits → ℕ → ℕ → ℕ → Bool → TrackedPacket
carrying again size start end fin = record {
  generation = 0;
  time_sent = 0;
  size = size;
  asks = true;
  carried = record {
    largest_acked = None;
    stream_frames = record { id = 0; offsets = record { start = start; end = end }; fin = fin } ∷ [];
    retransmits = again;
  };
}

-- a datagram that went at a moment with an acknowledgement of numbers up to one, and nothing else:
-- it doesn't ask for one, and counts against no window (RFC 9002, section 2)
abbrev pub acknowledging : ℕ → ℕ → TrackedPacket
acknowledging moment largest = record {
  generation = 0;
  time_sent = moment;
  size = 0;
  asks = false;
  carried = record {
    largest_acked = Some largest;
    stream_frames = [];
    retransmits = nothing_waits;
  };
}

-- ---- the events

-- the client opens a two-way stream: the first has id 0 (RFC 9000, section 2.1)
abbrev pub opens_stream : RunEvent
opens_stream = record { side = Client; call = calls.Open Bi }

-- it writes the word
abbrev pub writes_hello : RunEvent
writes_hello = record { side = Client; call = calls.Write 0 hello }

-- it finishes the stream
abbrev pub finishes_stream : RunEvent
finishes_stream = record { side = Client; call = calls.Finish 0 }

-- it is asked for a datagram at moment 0
abbrev pub asks_datagram : RunEvent
asks_datagram = record { side = Client; call = calls.Poll 0 }

-- the first datagram, at moment 0 and without a mark
abbrev pub delivery : Delivery
delivery = record { now = 0; remote = 0; ecn = None; index = 0 }

-- it is delivered to the server
abbrev pub delivers : RunEvent
delivers = record { side = Server; call = calls.Deliver delivery }

-- the server accepts a two-way stream
abbrev pub accepts_stream : RunEvent
accepts_stream = record { side = Server; call = calls.Accept Bi }

-- the server reads
abbrev pub reads_stream : ReadCall → RunEvent
reads_stream read = record { side = Server; call = calls.Read read }

-- a read is of this stream, in order or not, by these bounds
pub record ReadsAs (stream : ℕ) (order : Bool) (mosts : List ℕ) (read : ReadCall) : Type 0 where
  pub id : read.id ≡ stream
  pub ordered : read.ordered ≡ order
  pub bounds : read.nexts.items ≡ mosts

-- of stream 0, in order
abbrev pub ReadsBy : List ℕ → ReadCall → Type 0
ReadsBy mosts read = ReadsAs 0 true mosts read

-- two chunks of at most 32 bytes each
abbrev pub two_chunks : List ℕ
two_chunks = 32 ∷ 32 ∷ []

-- what the nexts of a read answer
abbrev pub NextAnswers : Type 0
NextAnswers = List (Result (Option Chunk) ReadError)

-- a chunk of these bytes at the front of the stream
abbrev pub gives_chunk : List ℕ → Result (Option Chunk) ReadError
gives_chunk bytes = Ok (Some (record { offset = 0; bytes = bytes }))

-- a read that gives what was written, and then the end
abbrev pub all_nexts : NextAnswers
all_nexts = gives_chunk hello ∷ Ok None ∷ []

-- the client's poll gives a datagram of so many bytes, marked ECT(0)
abbrev pub gives_bytes : ℕ → Answer
gives_bytes size = answers.Poll (Ok (Some (record { size = size; ecn = Some Ect0; remote = 0 })))

-- the same, once the peer or the path keeps no marks
abbrev pub gives_unmarked : ℕ → Answer
gives_unmarked size = answers.Poll (Ok (Some (record { size = size; ecn = None; remote = 0 })))

-- a write lacks memory
abbrev pub write_lacks : Answer
write_lacks = answers.Write (Err write_errors.Memory)

-- so does a finish
abbrev pub finish_lacks : Answer
finish_lacks = answers.Finish (Err finish_errors.Memory)

-- so does a read that begins
abbrev pub read_lacks : Answer
read_lacks = answers.Read (Err readable_errors.Memory)

-- so does the one `next` of a read
abbrev pub next_lacks : Answer
next_lacks = answers.Read (Ok (Err read_errors.Memory ∷ []))

-- so does a poll
abbrev pub poll_lacks : Answer
poll_lacks = answers.Poll (Err (record {}))

-- the first four events, with which the client gives its datagram
abbrev pub sending_events : List RunEvent
sending_events = opens_stream ∷ writes_hello ∷ finishes_stream ∷ asks_datagram ∷ []

-- their answers
abbrev pub sending_answers : List Answer
sending_answers =
    answers.Open (Some 0) ∷ answers.Write (Ok 5) ∷ answers.Finish (Ok tt) ∷ gives_bytes 230 ∷ []

-- all events; `read` asks for two chunks
abbrev pub worked_events : ReadCall → List RunEvent
worked_events read = sending_events ++ delivers ∷ delivers ∷ accepts_stream ∷ reads_stream read ∷ []

-- their answers
abbrev pub worked_answers : List Answer
worked_answers =
    sending_answers
    ++ answers.Deliver receives.Taken
    ∷ answers.Deliver (receives.Dropped drops.Duplicate)
    ∷ answers.Accept (Some 0)
    ∷ answers.Read (Ok all_nexts)
    ∷ []

-- ---- what they leave

-- the stream is open
abbrev pub once_opened : World
once_opened = ran worked_policies started (take 1 sending_events) (take 1 sending_answers)

-- five bytes wait to be sent
abbrev pub once_written : World
once_written = ran worked_policies started (take 2 sending_events) (take 2 sending_answers)

-- and the end behind them
abbrev pub once_ended : World
once_ended = ran worked_policies started (take 3 sending_events) (take 3 sending_answers)

-- the same of a client whose peer keeps five ids
abbrev pub few_ended : World
few_ended = ran worked_policies few_started (take 3 sending_events) (take 3 sending_answers)

-- all is sent, in one datagram
unfoldable pub once_sent : World
unfolding stream_spelling without_offsets parts_from pieces
once_sent = ran worked_policies started sending_events sending_answers

-- the server took the datagram
unfoldable pub once_taken : World
unfolding once_sent items items_within frame_at body_at kind_of stream_at offset_at data_at sized_at block_at new_connection_id_at issued_at id_and_token_at connection_id_at byte_at id_at
once_taken = after_event worked_policies once_sent delivers (answers.Deliver receives.Taken)

-- the datagram came again, and was a duplicate: no more than that is counted
abbrev pub once_again : World
once_again = server_counting (heard_datagram true false hello_datagram (receives.Dropped drops.Duplicate) once_taken.server_heard) once_taken

-- it accepted the stream
abbrev pub once_accepted : World
once_accepted = after_event worked_policies once_again accepts_stream (answers.Accept (Some 0))

-- it read two chunks of at most 32 bytes: all bytes, and the end
abbrev pub once_read : World
once_read = with_server once_accepted (end_after_reads once_accepted.server 0 two_chunks all_nexts)

-- ---- the run

-- what is seen of an end that is open and shows this window, with the timers of losses and of
-- acknowledgements set or not
abbrev pub view_within : ℕ → Option ℕ → Option ℕ → EndView
view_within window loss moment = record {
  state = states.Open;
  reason = None;
  validated = true;
  timers = loss ∷ replicate 7 None ++ moment ∷ [];
  window = window;
  current_mtu = 1200;
}

-- of one whose window has room
abbrev pub view_with : Option ℕ → Option ℕ → EndView
view_with loss moment = view_within steady_window loss moment

-- of a server whose window is shut, which gives nothing that asks
abbrev pub server_with : Option ℕ → EndView
server_with moment = view_within shut_window None moment

-- with no timer set
abbrev pub server_open : EndView
server_open = server_with None

-- and once it took an asking datagram at moment 0
abbrev pub server_waiting : EndView
server_waiting = server_with (Some 25000000)

-- what is seen of an open end that has no timer set
abbrev pub open_view : EndView
open_view = view_with None None

-- of one that gave an asking datagram at moment 0
abbrev pub sent_view : EndView
sent_view = view_with (Some 1024000000) None

-- and of one that took it at moment 0
abbrev pub waiting_view : EndView
waiting_view = view_with None (Some 25000000)

-- what is seen of both after each event: the client waits for an acknowledgement once it gave the
-- datagram, and the server's waits for 25 ms once it took it
abbrev pub worked_views : List View
worked_views =
    replicate 3 (record { client = open_view; server = server_open })
    ++ record { client = sent_view; server = server_open }
    ∷ replicate 4 (record { client = sent_view; server = server_waiting })

-- the run with these answers
abbrev pub run_with : ReadCall → List Answer → Run
run_with read told = record {
  keys = worked_policies;
  start = started;
  events = worked_events read;
  answers = told;
  views = worked_views;
  from_client = hello_datagram ∷ [];
  from_server = [];
}

-- the run
abbrev pub worked_run : ReadCall → Run
worked_run read = run_with read worked_answers
