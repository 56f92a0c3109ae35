-- More machines with a bug, each by a run that it makes: other answers, other datagrams, or other
-- ends.
use Rattle.std.specs.Prelude.{List, [], ◌∷◌, ◌++◌, drop, replicate, take, Some, None, Ok, Err}
use Rattle.quic_wire_core.specs.TransportError.{plain_error}
use Rattle.quic_wire_core.specs.declared.stream_id.Side.TheVariants.{Client, Server}
use Rattle.quic_streams_parts.specs.declared.answers.ReadError.TheVariants as read_errors
use Rattle.quic_machine.specs.declared.answers.Received.TheVariants as receives
use Rattle.quic_machine.specs.declared.answers.DropReason.TheVariants as drops
use Rattle.quic_machine.specs.declared.run.RunEvent.{RunEvent}
use Rattle.quic_machine.specs.declared.run.ReadCall.{ReadCall}
use Rattle.quic_machine.specs.declared.run.Call.TheVariants as calls
use Rattle.quic_machine.specs.declared.run.Answer.{Answer}
use Rattle.quic_machine.specs.declared.run.Answer.TheVariants as answers
use Rattle.quic_streams_parts.specs.Table.{Table}
use Rattle.quic_machine.specs.Tracking.{TrackedPacket}
use Rattle.quic_machine.specs.Machine.{World}
use Rattle.quic_machine.specs.declared.run.View.{View}
use Rattle.quic_headline.specs.Runs.{Run}
use Rattle.quic_headline.specs.Headline.{IsRun}
use Rattle.quic_worked.specs.Acknowledged.{client_acked, client_datagram, from_server, ack_payload}
use Rattle.quic_worked.specs.Worked.{NextAnswers, after_event, once_opened, once_taken, worked_policies, hello, hello_datagram, started, with_client, client_gives, once_ended, once_sent, ran, asks_datagram, opens_stream, delivery, delivers, accepts_stream, reads_stream, gives_chunk, gives_bytes, sending_events, sending_answers, open_view, worked_views, worked_run, told_ids, server_open}
use Rattle.quic_worked.specs.Reordered.{abc_datagram, def_datagram, both_events, both_answers, both_sent, reordered_views}
use Rattle.quic_worked.specs.Broken.{never_accepted, answers_with, repeated_nexts, answered_run, sending_run, injects, injecting, asks_event, tells_finished}

-- ---- the worked run with other answers

-- the second copy of the datagram is taken as well, and its bytes come again
abbrev pub taken_again : List Answer
taken_again = answers_with (Ok 5) (Ok tt) receives.Taken receives.Taken (Some 0) repeated_nexts

-- a read that gives the first four bytes, and the end
abbrev pub cut_nexts : NextAnswers
cut_nexts = gives_chunk (take 4 hello) ∷ Ok None ∷ []

-- no more than four bytes of a frame are kept
abbrev pub cut_frame : List Answer
cut_frame = answers_with (Ok 5) (Ok tt) receives.Taken (receives.Dropped drops.Duplicate) (Some 0) cut_nexts

-- a read that gives all bytes, and not the end
abbrev pub endless_nexts : NextAnswers
endless_nexts = gives_chunk hello ∷ Err read_errors.Blocked ∷ []

-- the end of a stream is never told
abbrev pub hidden_end : List Answer
hidden_end = answers_with (Ok 5) (Ok tt) receives.Taken (receives.Dropped drops.Duplicate) (Some 0) endless_nexts

-- a read that gives the bytes from the second on
abbrev pub skipping_nexts : NextAnswers
skipping_nexts = Ok (Some (record { offset = 1; bytes = drop 1 hello })) ∷ Ok None ∷ []

-- a read leaves out the first byte
abbrev pub skipped_byte : List Answer
skipped_byte = answers_with (Ok 5) (Ok tt) receives.Taken (receives.Dropped drops.Duplicate) (Some 0) skipping_nexts

-- both copies of the datagram are dropped, and nothing is accepted
abbrev pub all_dropped : List Answer
all_dropped =
    let lost = receives.Dropped drops.NotOpened in
    take 7 (answers_with (Ok 5) (Ok tt) lost lost None [])

-- both copies come to an end that takes the first, and nothing is accepted
abbrev pub unaccepted : List Answer
unaccepted = take 7 never_accepted

-- ---- acknowledgements and injections

-- the server says that it closed at the datagram, and acknowledges it all the same
abbrev pub refused_named : ReadCall → Run
refused_named read = record (answered_run read) {
  answers =
      sending_answers
      ++ answers.Deliver (receives.Closed (plain_error 10))
      ∷ answers.Timeout (Ok tt)
      ∷ gives_bytes 32
      ∷ [];
}

-- any bytes of more than 1200 open
abbrev pub long_opens : Run
long_opens = injecting (injects Server (replicate 1201 0) ∷ []) (answers.Opens ∷ [])

-- ---- numbers

-- the client gives its datagram twice
abbrev pub used_twice : ReadCall → Run
used_twice read = record (worked_run read) {
  events = sending_events ++ asks_datagram ∷ [];
  answers = sending_answers ++ gives_bytes 230 ∷ [];
  from_client = hello_datagram ∷ hello_datagram ∷ [];
}

-- ---- ends

-- the stream accepted five bytes, and keeps four
abbrev pub kept_four : World
kept_four = ran worked_policies started (take 2 sending_events) (answers.Open (Some 0) ∷ answers.Write (Ok 4) ∷ [])

-- the worked run until the five bytes are written
abbrev pub writing_run : ReadCall → Run
writing_run read = record (worked_run read) {
  events = take 2 sending_events;
  answers = take 2 sending_answers;
  views = take 2 worked_views;
}

-- the client's datagram was acknowledged, and its loss timer still runs
abbrev pub late_timed : World
late_timed = with_client once_sent (record client_acked { timers = once_sent.client.timers })

-- the records of two datagrams, each under the other's number
abbrev pub swapped : Table TrackedPacket → Table TrackedPacket
swapped (a ∷ b ∷ more) = (a.0, b.1) ∷ (b.0, a.1) ∷ more
swapped packets = packets

-- the client gave two datagrams, and kept of each what the other carried
abbrev pub misrecorded : World
misrecorded = with_client both_sent (record both_sent.client { tracking = record both_sent.client.tracking { packets = swapped both_sent.client.tracking.packets } })

-- the run of two datagrams until both are given
abbrev pub both_run : Run
both_run = record {
  keys = worked_policies;
  start = started;
  events = both_events;
  answers = both_answers;
  views = take 5 reordered_views;
  from_client = abc_datagram ∷ def_datagram ∷ [];
  from_server = [];
}

-- the client gave its datagram at moment 0, and kept that it went 5 ns later
abbrev pub mistimed : World
mistimed = with_client once_sent (client_gives once_ended.client 5).end

-- ---- applications that are told too early

-- the client tells that its stream is finished once its datagram went
abbrev pub told_early : ReadCall → Run
told_early read = record (worked_run read) {
  events = sending_events ++ asks_event ∷ [];
  answers = sending_answers ++ tells_finished ∷ [];
}

-- the server acknowledges the datagram before it came, and the client takes that
abbrev pub taken_early : ReadCall → Run
taken_early read = record (worked_run read) {
  events = sending_events ++ record { side = Server; call = calls.Poll 0 } ∷ record { side = Client; call = calls.Deliver delivery } ∷ [];
  answers = sending_answers ++ gives_bytes 32 ∷ answers.Deliver receives.Taken ∷ [];
  from_server = from_server 0 ack_payload ∷ [];
}

-- ---- datagrams that are none

-- a run is none of the machine's, whatever is seen: it gives other datagrams
abbrev pub NeverGives : Run → Type 0
NeverGives r = (views : List View) (end : World) → IsRun (record r { views = views }) end → ⊥

-- the client gives an empty datagram
abbrev pub nothing_given : ReadCall → Run
nothing_given read = record (sending_run read) { from_client = [] ∷ [] }

-- ---- two streams

-- the client writes the word on its second stream
abbrev pub writes_second : RunEvent
writes_second = record { side = Client; call = calls.Write 4 hello }

-- the client opens two streams, writes on the second alone, and gives its datagram, which comes
abbrev pub second_events : List RunEvent
second_events = opens_stream ∷ opens_stream ∷ writes_second ∷ asks_datagram ∷ delivers ∷ []

-- what that is answered
abbrev pub second_answers : List Answer
second_answers =
    answers.Open (Some 0)
    ∷ answers.Open (Some 4)
    ∷ answers.Write (Ok 5)
    ∷ gives_bytes 230
    ∷ answers.Deliver receives.Taken
    ∷ []

-- both streams are open
abbrev pub two_opened : World
two_opened = after_event worked_policies once_opened opens_stream (answers.Open (Some 4))

-- the word is written on the second
abbrev pub two_written : World
two_written = after_event worked_policies two_opened writes_second (answers.Write (Ok 5))

-- the datagram is given
unfoldable pub two_sent : World
unfolding once_sent
two_sent = after_event worked_policies two_written asks_datagram (gives_bytes 230)

-- and taken
unfoldable pub two_taken : World
unfolding once_taken two_sent
two_taken = after_event worked_policies two_sent delivers (answers.Deliver receives.Taken)

-- the first stream is accepted
abbrev pub first_accepted : World
first_accepted = after_event worked_policies two_taken accepts_stream (answers.Accept (Some 0))

-- and the second
abbrev pub both_accepted : World
both_accepted = after_event worked_policies first_accepted accepts_stream (answers.Accept (Some 4))

-- that run, with more events, answered so
abbrev pub second_run : List RunEvent → List Answer → Run
second_run more told = record {
  keys = worked_policies;
  start = started;
  events = second_events ++ more;
  answers = second_answers ++ told;
  views = replicate 8 (record { client = open_view; server = server_open });
  from_client = client_datagram 0 0 (told_ids (0x0a ∷ 0x04 ∷ 0x05 ∷ hello)) ∷ [];
  from_server = [];
}

-- the first stream is accepted twice, and then none
abbrev pub accepted_twice : Run
accepted_twice =
    second_run (accepts_stream ∷ accepts_stream ∷ accepts_stream ∷ [])
    (answers.Accept (Some 0) ∷ answers.Accept (Some 0) ∷ answers.Accept None ∷ [])

-- the second is accepted, and then none
abbrev pub accepted_last : Run
accepted_last = second_run (accepts_stream ∷ accepts_stream ∷ []) (answers.Accept (Some 4) ∷ answers.Accept None ∷ [])

-- a read of the first gives the bytes of the second
abbrev pub other_stream : ReadCall → Run
other_stream read =
    second_run (accepts_stream ∷ accepts_stream ∷ reads_stream read ∷ [])
    (answers.Accept (Some 0) ∷ answers.Accept (Some 4) ∷ answers.Read (Ok (gives_chunk hello ∷ [])) ∷ [])
