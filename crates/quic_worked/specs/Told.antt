-- What an application is told of: streams that the peer opened, in a run in which the client's word
-- comes to the server, whose application asks twice what is told next; that a stream may be read,
-- in a run in which more comes on it; and machines that tell it neither of these nor of a message.
use Rattle.std.specs.Prelude.{List, [], ◌∷◌, ◌++◌, replicate, Some, None, Ok}
use Rattle.quic_wire_core.specs.declared.stream_id.Dir.TheVariants.{Bi}
use Rattle.quic_wire.specs.Value.{stream}
use Rattle.quic_streams_parts.specs.declared.answers.StreamEvent.TheVariants.{Opened, Readable}
use Rattle.quic_machine.specs.declared.answers.Event.TheVariants as events
use Rattle.quic_machine.specs.declared.answers.Received.TheVariants as receives
use Rattle.quic_machine.specs.declared.run.RunEvent.{RunEvent}
use Rattle.quic_machine.specs.declared.run.ReadCall.{ReadCall}
use Rattle.quic_machine.specs.declared.run.Answer.{Answer}
use Rattle.quic_machine.specs.declared.run.Answer.TheVariants as answers
use Rattle.quic_machine.specs.Machine.{World}
use Rattle.quic_headline.specs.Runs.{Packet, Run}
use Rattle.quic_worked.specs.Worked.{NextAnswers, after_event, end_after_reads, with_server, worked_policies, started, once_taken, hello_frame, hello_datagram, asks_datagram, delivers, accepts_stream, reads_stream, gives_chunk, two_chunks, sending_events, sending_answers, open_view, sent_view, behind_ids, server_open, server_waiting}
use Rattle.quic_worked.specs.Reordered.{abc, abc_datagram, def_datagram, delivers_at, both_events, both_answers, blocked_nexts, both_sent}
use Rattle.quic_worked.specs.Messages.{ping_message, message_datagram, sends_message, server_asks, message_front, messaging}

-- ---- streams

-- it is told that the peer opened a two-way stream
abbrev pub tells_opened : Answer
tells_opened = answers.Event (Some (events.Stream (Opened Bi)))

-- the word came, and the application asks, and is answered so
abbrev pub asking : List RunEvent → List Answer → Run
asking asks told = record {
  keys = worked_policies;
  start = started;
  events = sending_events ++ delivers ∷ asks;
  answers = sending_answers ++ answers.Deliver receives.Taken ∷ told;
  views = replicate 3 (record { client = open_view; server = server_open }) ++ record { client = sent_view; server = server_open } ∷ replicate 3 (record { client = sent_view; server = server_waiting });
  from_client = hello_datagram ∷ [];
  from_server = [];
}

-- it is told of the stream, and then of nothing
abbrev pub opening_run : Run
opening_run = asking (server_asks ∷ server_asks ∷ []) (tells_opened ∷ answers.Event None ∷ [])

-- the packet with the word
abbrev pub hello_packet : Packet
hello_packet = record { number = 0; frames = behind_ids (stream hello_frame ∷ []) }

-- it was told of the stream
abbrev pub opening_told : World
opening_told = after_event worked_policies once_taken server_asks tells_opened

-- and nothing is left to tell
abbrev pub opening_end : World
opening_end = after_event worked_policies opening_told server_asks (answers.Event None)

-- it is told of nothing, though a stream was opened
abbrev pub opening_untold : Run
opening_untold = asking (server_asks ∷ []) (answers.Event None ∷ [])

-- ---- streams that may be read

-- it is told that stream 0 may be read
abbrev pub tells_readable : Answer
tells_readable = answers.Event (Some (events.Stream (Readable 0)))

-- the first three bytes are read, and then a read is blocked
abbrev pub abc_nexts : NextAnswers
abc_nexts = gives_chunk abc ∷ blocked_nexts

-- the client gave two datagrams; the first comes, the application is told of the stream, accepts it
-- and reads until it is blocked; then the second comes, and the application asks
abbrev pub waiting : ReadCall → List RunEvent → List Answer → Run
waiting read asks told = record {
  keys = worked_policies;
  start = started;
  events = both_events ++ delivers_at 0 ∷ server_asks ∷ accepts_stream ∷ reads_stream read ∷ delivers_at 1 ∷ asks;
  answers =
      both_answers
      ++ answers.Deliver receives.Taken
      ∷ tells_opened
      ∷ answers.Accept (Some 0)
      ∷ answers.Read (Ok abc_nexts)
      ∷ answers.Deliver receives.Taken
      ∷ told;
  views =
      replicate 2 (record { client = open_view; server = server_open })
      ++ replicate 3 (record { client = sent_view; server = server_open })
      ++ replicate 7 (record { client = sent_view; server = server_waiting });
  from_client = abc_datagram ∷ def_datagram ∷ [];
  from_server = [];
}

-- it is told that the stream may be read, and then of nothing
abbrev pub readable_run : ReadCall → Run
readable_run read = waiting read (server_asks ∷ server_asks ∷ []) (tells_readable ∷ answers.Event None ∷ [])

-- it is told of nothing, though more came
abbrev pub readable_untold : ReadCall → Run
readable_untold read = waiting read (server_asks ∷ []) (answers.Event None ∷ [])

-- the first datagram came
unfoldable pub front_taken : World
unfolding once_taken both_sent
front_taken = after_event worked_policies both_sent (delivers_at 0) (answers.Deliver receives.Taken)

-- the application was told of its stream
abbrev pub front_told : World
front_told = after_event worked_policies front_taken server_asks tells_opened

-- it accepted it
abbrev pub front_accepted : World
front_accepted = after_event worked_policies front_told accepts_stream (answers.Accept (Some 0))

-- and read what there was
abbrev pub front_read : World
front_read = with_server front_accepted (end_after_reads front_accepted.server 0 two_chunks abc_nexts)

-- the second datagram came
unfoldable pub rest_taken : World
unfolding front_taken
rest_taken = after_event worked_policies front_read (delivers_at 1) (answers.Deliver receives.Taken)

-- the application was told that the stream may be read
abbrev pub rest_told : World
rest_told = after_event worked_policies rest_taken server_asks tells_readable

-- and nothing is left to tell
abbrev pub readable_end : World
readable_end = after_event worked_policies rest_told server_asks (answers.Event None)

-- ---- messages

-- it is told of nothing, though a message came
abbrev pub message_untold : Run
message_untold = messaging (sends_message ping_message ∷ asks_datagram ∷ delivers ∷ server_asks ∷ []) (message_front ++ answers.Event None ∷ []) (message_datagram ∷ [])
