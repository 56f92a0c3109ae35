-- A run in which both ends come to rest, and the limits that the server said once it read have
-- arrived (RFC 9000, sections 4.1 and 13.3): the server takes 8 bytes in all and 5 on each stream;
-- the client gives the five bytes of a word, and once these are read the server lets 13 bytes come
-- in all, and 10 on the stream. And a machine that comes to rest though the datagram that says so
-- was lost.
use Rattle.std.specs.Prelude.{ℕ, true, false, List, [], ◌∷◌, ◌++◌, replicate, take, Some, None, Ok}
use Rattle.quic_wire_core.specs.declared.stream_id.Side.TheVariants.{Client, Server}
use Rattle.quic_wire.specs.Value.{FrameValue, ack, stream, max_data, max_stream_data}
use Rattle.quic_wire.specs.Reading.{stream_limit_at}
use Rattle.quic_config.specs.Transport.{parameters_of}
use Rattle.quic_sets.specs.Offsets.{with_offsets}
use Rattle.quic_sets.specs.Pieces.{with_range, joining, pieces}
use Rattle.quic_machine.specs.declared.answers.Received.TheVariants as receives
use Rattle.quic_machine.specs.declared.run.RunEvent.{RunEvent}
use Rattle.quic_machine.specs.declared.run.ReadCall.{ReadCall}
use Rattle.quic_machine.specs.declared.run.Answer.{Answer}
use Rattle.quic_machine.specs.declared.run.Answer.TheVariants as answers
use Rattle.quic_machine.specs.declared.run.View.{View}
use Rattle.quic_machine.specs.End.{new_end}
use Rattle.quic_machine.specs.Heard.{nothing_heard}
use Rattle.quic_machine.specs.Machine.{World}
use Rattle.quic_headline.specs.Runs.{Run, Packet}
use Rattle.quic_headline.specs.Observer.{Sent}
use Rattle.quic_worked.specs.Worked.{worked_policies, client_id, server_id, with_server, after_event, end_after_reads, once_sent, once_taken, opens_stream, writes_hello, asks_datagram, delivers, accepts_stream, reads_stream, gives_bytes, gives_unmarked, hello, id_frames, behind_ids, told_ids}
use Rattle.quic_worked.specs.Acknowledged.{client_acked, ack_payload, client_datagram, from_server}
use Rattle.quic_worked.specs.Settings.{plain_settings}
use Rattle.quic_worked.specs.Paired.{asks_server, client_hears}
use Rattle.quic_worked.specs.Losses.{client_polled, server_polled}
use Rattle.quic_worked.specs.Timed.{serves, asks_at}
use Rattle.quic_worked.specs.Held.{gives_nothing}
use Rattle.quic_worked.specs.Credit.{eight_bounds}
use Rattle.quic_worked.specs.Raised.{client_waits, ack_comes}
use Rattle.quic_worked.specs.Limited.{takes_eight, hello_nexts, raised_payload}
use Rattle.quic_worked.specs.Rested.{roomy_control, roomy_windows}
use Rattle.quic_worked.specs.Confirmed.{all_seen, unset_view}
use Rattle.quic_worked.specs.Arrived.{given_view, taken_view, both_view, told_view}

-- ---- the run

-- both ends, before anything was given
abbrev pub word_start : World
word_start = record {
  client = new_end Client plain_settings roomy_windows (parameters_of takes_eight) client_id server_id 0 0 true (λ n. 63);
  server = new_end Server takes_eight roomy_windows (parameters_of plain_settings) server_id client_id 0 0 true (λ n. 63);
  from_client = [];
  from_server = [];
  client_control = roomy_control;
  server_control = roomy_control;
  client_heard = nothing_heard;
  server_heard = nothing_heard;
}

-- the client's word comes to the server, which reads it
abbrev pub word_front : ReadCall → List RunEvent
word_front read = opens_stream ∷ writes_hello ∷ asks_datagram ∷ delivers ∷ accepts_stream ∷ reads_stream read ∷ asks_server ∷ []

-- what the server gives then comes to the client, which acknowledges it 25 ms later, and both are
-- asked once more
abbrev pub word_events : ReadCall → List RunEvent
word_events read = word_front read ++ client_hears ∷ client_waits ∷ client_polled ∷ ack_comes ∷ client_polled ∷ server_polled ∷ []

-- what that is answered
abbrev pub word_answers : List Answer
word_answers =
    answers.Open (Some 0)
    ∷ answers.Write (Ok 5)
    ∷ gives_bytes 230
    ∷ answers.Deliver receives.Taken
    ∷ answers.Accept (Some 0)
    ∷ answers.Read (Ok hello_nexts)
    ∷ gives_bytes 232
    ∷ answers.Deliver receives.Taken
    ∷ answers.Timeout (Ok tt)
    ∷ gives_unmarked 32
    ∷ answers.Deliver receives.Taken
    ∷ gives_nothing
    ∷ gives_nothing
    ∷ []

-- ---- what they leave

-- the stream is open
abbrev pub word_opened : World
word_opened = after_event worked_policies word_start opens_stream (answers.Open (Some 0))

-- the word is written
unfoldable pub word_written : World
unfolding with_offsets with_range joining pieces
word_written = after_event worked_policies word_opened writes_hello (answers.Write (Ok 5))

-- it is given
unfoldable pub word_sent : World
unfolding word_written once_sent
word_sent = after_event worked_policies word_written asks_datagram (gives_bytes 230)

-- and taken
unfoldable pub word_taken : World
unfolding word_sent once_taken
word_taken = after_event worked_policies word_sent delivers (answers.Deliver receives.Taken)

-- its stream is accepted
abbrev pub word_accepted : World
word_accepted = after_event worked_policies word_taken accepts_stream (answers.Accept (Some 0))

-- and read
abbrev pub word_read : World
word_read = with_server word_accepted (end_after_reads word_accepted.server 0 eight_bounds hello_nexts)

-- the server gives its datagram
unfoldable pub word_given : World
unfolding word_taken
word_given = after_event worked_policies word_read asks_server (gives_bytes 232)

-- which is taken
unfoldable pub word_heard : World
unfolding word_given client_acked stream_limit_at
word_heard = after_event worked_policies word_given client_hears (answers.Deliver receives.Taken)

-- 25 ms pass
unfoldable pub word_due : World
unfolding word_heard
word_due = after_event worked_policies word_heard client_waits (answers.Timeout (Ok tt))

-- the client acknowledges it
unfoldable pub word_named : World
unfolding word_due
word_named = after_event worked_policies word_due client_polled (gives_unmarked 32)

-- which comes to the server
unfoldable pub word_known : World
unfolding word_named
word_known = after_event worked_policies word_named ack_comes (answers.Deliver receives.Taken)

-- the client has nothing left to give
unfoldable pub word_rests : World
unfolding word_known
word_rests = after_event worked_policies word_known client_polled gives_nothing

-- nor has the server
unfoldable pub word_end : World
unfolding word_rests
word_end = after_event worked_policies word_rests server_polled gives_nothing

-- ---- what goes

-- the client's ids, and STREAM with a length and the word
abbrev pub word_payload : List ℕ
word_payload = told_ids ((0x0a ∷ 0x00 ∷ 0x05 ∷ []) ++ hello)

-- what the server takes of that
abbrev pub word_packet : Packet
word_packet = record { number = 0; frames = behind_ids (stream (record { id = 0; offset = 0; fin = false; bytes = hello }) ∷ []) }

-- MAX_DATA of 13 bytes, MAX_STREAM_DATA of 10 on the stream, the ids, and an acknowledgement
abbrev pub limits_frames : List FrameValue
limits_frames = max_data 13 ∷ max_stream_data (record { id = 0; limit = 10 }) ∷ id_frames ++ ack (record { largest = 0; delay = 0; ranges = (0, 0) ∷ []; ecn = None }) ∷ []

-- what the client takes
abbrev pub limits_packet : Packet
limits_packet = record { number = 0; frames = limits_frames }

-- the datagram as it was sent
abbrev pub limits_sent : Sent
limits_sent = record { id = client_id; number = 0; reference = 0; frames = limits_frames; moment = 0; size = 232; generation = 0 }

-- the server alone waits for an acknowledgement
abbrev pub known_view : View
known_view = all_seen None None (Some 1024000000) None

-- what is seen of both
abbrev pub word_views : List View
word_views = unset_view ∷ unset_view ∷ given_view ∷ replicate 3 taken_view ++ both_view ∷ told_view ∷ known_view ∷ known_view ∷ replicate 3 unset_view

-- the run, where the server reads by this call
abbrev pub word_run : ReadCall → Run
word_run read = record {
  keys = worked_policies;
  start = word_start;
  events = word_events read;
  answers = word_answers;
  views = word_views;
  from_client = client_datagram 0 0 word_payload ∷ client_datagram 1 0 ack_payload ∷ [];
  from_server = from_server 0 raised_payload ∷ [];
}

-- ---- a machine that forgets it

-- the server's datagram never comes; its loss timer expires, and a poll gives nothing
abbrev pub limit_dropped : ReadCall → Run
limit_dropped read = record {
  keys = worked_policies;
  start = word_start;
  events = word_front read ++ serves Server 1024000000 ∷ asks_at Server 1024000000 ∷ [];
  answers = take 7 word_answers ++ answers.Timeout (Ok tt) ∷ gives_nothing ∷ [];
  views = take 7 word_views ++ given_view ∷ given_view ∷ [];
  from_client = client_datagram 0 0 word_payload ∷ [];
  from_server = from_server 0 raised_payload ∷ [];
}

-- the server once its timer expired
unfoldable pub word_expired : World
unfolding word_given
word_expired = after_event worked_policies word_given (serves Server 1024000000) (answers.Timeout (Ok tt))
