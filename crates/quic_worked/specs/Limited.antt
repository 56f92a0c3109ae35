-- A run in which each of three limits binds a write in turn (RFC 9000, section 4.1): a client that
-- keeps 7 bytes at most, and a server that takes 8 bytes in all and 5 on each stream at first. Its
-- answer raises limits and acknowledges what was kept. And machines that take less, or more.
use Rattle.std.specs.Prelude.{ℕ, ◌≡◌, true, List, [], ◌∷◌, ◌++◌, take, replicate, Some, Ok, Err}
use Rattle.quic_wire_core.specs.declared.stream_id.Side.TheVariants.{Client, Server}
use Rattle.quic_sets.specs.Offsets.{with_offsets}
use Rattle.quic_sets.specs.Pieces.{with_range, joining, pieces}
use Rattle.quic_wire.specs.Reading.{stream_limit_at}
use Rattle.quic_config.specs.Transport.{Settings, parameters_of}
use Rattle.quic_worked.specs.Settings.{plain_settings}
use Rattle.quic_streams_parts.specs.declared.answers.WriteError.TheVariants as write_errors
use Rattle.quic_machine.specs.declared.answers.Received.TheVariants as receives
use Rattle.quic_machine.specs.declared.run.RunEvent.{RunEvent}
use Rattle.quic_machine.specs.declared.run.ReadCall.{ReadCall}
use Rattle.quic_machine.specs.declared.run.Answer.{Answer}
use Rattle.quic_machine.specs.declared.run.Answer.TheVariants as answers
use Rattle.quic_machine.specs.declared.run.View.{View}
use Rattle.quic_machine.specs.End.{End, new_end}
use Rattle.quic_machine.specs.Heard.{nothing_heard}
use Rattle.quic_machine.specs.Machine.{World}
use Rattle.quic_machine.specs.Start.{AreStarted}
use Rattle.quic_headline.specs.Runs.{Run}
use Rattle.quic_headline.specs.Amounts.{data_left, stream_left, window_left}
use Rattle.quic_worked.specs.Worked.{steady, steady_control, NextAnswers, worked_policies, client_id, server_id, started, with_server, after_event, end_after_reads, once_sent, once_taken, hello, opens_stream, writes_hello, asks_datagram, delivers, accepts_stream, reads_stream, gives_chunk, gives_bytes, sent_view, waiting_view, worked_views, told_ids}
use Rattle.quic_worked.specs.Acknowledged.{client_acked, client_datagram, from_server, ack_at_once}
use Rattle.quic_worked.specs.Paired.{writes_on, asks_server, client_hears}
use Rattle.quic_worked.specs.Credit.{eight, eight_bounds, views_of_credit}

-- ---- the ends

-- the client keeps seven bytes at most
abbrev pub keeps_seven : Settings
keeps_seven = record plain_settings { send_window = 7 }

-- the server takes eight in all, and five on each stream
abbrev pub takes_eight : Settings
takes_eight = record plain_settings { receive_window = 8; stream_receive_window = 5 }

-- what the server tells so
abbrev pub narrow_parameters : List ℕ
narrow_parameters =
    (0x04 ∷ 0x01 ∷ 0x08 ∷ [])
    ++ (0x05 ∷ 0x01 ∷ 0x05 ∷ [])
    ++ (0x06 ∷ 0x01 ∷ 0x05 ∷ [])
    ++ (0x07 ∷ 0x01 ∷ 0x05 ∷ [])
    ++ (0x08 ∷ 0x02 ∷ 0x40 ∷ 0x64 ∷ [])
    ++ (0x09 ∷ 0x02 ∷ 0x40 ∷ 0x64 ∷ [])
    ++ (0x0e ∷ 0x01 ∷ 0x08 ∷ [])
    ++ (0x20 ∷ 0x04 ∷ 0x80 ∷ 0x00 ∷ 0xff ∷ 0xff ∷ [])

-- both, before anything was given
abbrev pub limited_start : World
limited_start = record {
  client = new_end Client keeps_seven steady (parameters_of takes_eight) client_id server_id 0 0 true (λ n. 63);
  server = new_end Server takes_eight steady (parameters_of keeps_seven) server_id client_id 0 0 true (λ n. 63);
  from_client = [];
  from_server = [];
  client_control = steady_control;
  server_control = steady_control;
  client_heard = nothing_heard;
  server_heard = nothing_heard;
}

-- ---- events and answers

-- more than may be taken
abbrev pub sixteen : List ℕ
sixteen = eight ++ eight

-- the client opens two streams and writes on the first, and on the second until it is blocked; it
-- gives what it took, which comes; the server reads the first, and what it gives comes to the
-- client, which writes on until it is blocked
abbrev pub limited_front : List RunEvent
limited_front = opens_stream ∷ opens_stream ∷ writes_on 0 sixteen ∷ writes_on 4 sixteen ∷ writes_on 4 sixteen ∷ asks_datagram ∷ delivers ∷ accepts_stream ∷ []

-- all of it, where the server reads by this call
abbrev pub limited_events : ReadCall → List RunEvent
limited_events read = limited_front ++ reads_stream read ∷ asks_server ∷ client_hears ∷ writes_on 0 sixteen ∷ writes_on 4 sixteen ∷ writes_on 4 sixteen ∷ []

-- the word is read
abbrev pub hello_nexts : NextAnswers
hello_nexts = gives_chunk hello ∷ []

-- what that is answered
abbrev pub limited_answers : List Answer
limited_answers =
    answers.Open (Some 0)
    ∷ answers.Open (Some 4)
    ∷ answers.Write (Ok 5)
    ∷ answers.Write (Ok 2)
    ∷ answers.Write (Err write_errors.Blocked)
    ∷ gives_bytes 235
    ∷ answers.Deliver receives.Taken
    ∷ answers.Accept (Some 0)
    ∷ answers.Read (Ok hello_nexts)
    ∷ gives_bytes 232
    ∷ answers.Deliver receives.Taken
    ∷ answers.Write (Ok 5)
    ∷ answers.Write (Ok 1)
    ∷ answers.Write (Err write_errors.Blocked)
    ∷ []

-- the client's ids, STREAM with a length and the word, and STREAM with a length and two bytes of
-- the second stream
abbrev pub limited_payload : List ℕ
limited_payload = told_ids ((0x0a ∷ 0x00 ∷ 0x05 ∷ []) ++ hello ++ (0x0a ∷ 0x04 ∷ 0x02 ∷ 104 ∷ 101 ∷ []))

-- MAX_DATA of 13 bytes, and MAX_STREAM_DATA of 10 on the first stream (sections 19.9 and 19.10)
abbrev pub raised_limits : List ℕ
raised_limits = 0x10 ∷ 0x0d ∷ 0x11 ∷ 0x00 ∷ 0x0a ∷ []

-- these, the server's ids, and an acknowledgement
abbrev pub raised_payload : List ℕ
raised_payload = raised_limits ++ told_ids ack_at_once

-- ---- what they leave

-- the first stream is open
abbrev pub limited_opened : World
limited_opened = after_event worked_policies limited_start opens_stream (answers.Open (Some 0))

-- and the second
abbrev pub limited_both : World
limited_both = after_event worked_policies limited_opened opens_stream (answers.Open (Some 4))

-- five bytes are written on the first: its limit
abbrev pub limited_first : World
limited_first = after_event worked_policies limited_both (writes_on 0 sixteen) (answers.Write (Ok 5))

-- and two on the second: the send window
abbrev pub limited_second : World
limited_second = after_event worked_policies limited_first (writes_on 4 sixteen) (answers.Write (Ok 2))

-- a write more is blocked
abbrev pub limited_blocked : World
limited_blocked = after_event worked_policies limited_second (writes_on 4 sixteen) (answers.Write (Err write_errors.Blocked))

-- the datagram is given
unfoldable pub limited_sent : World
unfolding once_sent with_offsets with_range joining pieces
limited_sent = after_event worked_policies limited_blocked asks_datagram (gives_bytes 235)

-- and taken
unfoldable pub limited_taken : World
unfolding limited_sent once_taken
limited_taken = after_event worked_policies limited_sent delivers (answers.Deliver receives.Taken)

-- the first stream is accepted
abbrev pub limited_accepted : World
limited_accepted = after_event worked_policies limited_taken accepts_stream (answers.Accept (Some 0))

-- and read
abbrev pub limited_read : World
limited_read = with_server limited_accepted (end_after_reads limited_accepted.server 0 eight_bounds hello_nexts)

-- the server gives its datagram
unfoldable pub limited_given : World
unfolding limited_taken
limited_given = after_event worked_policies limited_read asks_server (gives_bytes 232)

-- which is taken
unfoldable pub limited_heard : World
unfolding limited_given client_acked stream_limit_at
limited_heard = after_event worked_policies limited_given client_hears (answers.Deliver receives.Taken)

-- the client writes on
abbrev pub limited_third : World
limited_third = after_event worked_policies limited_heard (writes_on 0 sixteen) (answers.Write (Ok 5))

-- on both streams
abbrev pub limited_fourth : World
limited_fourth = after_event worked_policies limited_third (writes_on 4 sixteen) (answers.Write (Ok 1))

-- until it is blocked again
abbrev pub limited_end : World
limited_end = after_event worked_policies limited_fourth (writes_on 4 sixteen) (answers.Write (Err write_errors.Blocked))

-- ---- the run

-- what is seen of both after each event
abbrev pub limited_views : List View
limited_views = views_of_credit 5 ++ replicate 2 (record { client = waiting_view; server = sent_view })

-- the run, where the server reads by this call
abbrev pub limited_run : ReadCall → Run
limited_run read = record {
  keys = worked_policies;
  start = limited_start;
  events = limited_events read;
  answers = limited_answers;
  views = limited_views;
  from_client = client_datagram 0 0 limited_payload ∷ [];
  from_server = from_server 0 raised_payload ∷ [];
}

-- ---- machines that go wrong

-- a write of five bytes takes three
abbrev pub few_taken : Run
few_taken = record {
  keys = worked_policies;
  start = started;
  events = opens_stream ∷ writes_hello ∷ [];
  answers = answers.Open (Some 0) ∷ answers.Write (Ok 3) ∷ [];
  views = take 2 worked_views;
  from_client = [];
  from_server = [];
}

-- the send window doesn't count: the second write takes three bytes, as all data allows
abbrev pub past_window : Run
past_window = record {
  keys = worked_policies;
  start = limited_start;
  events = opens_stream ∷ opens_stream ∷ writes_on 0 sixteen ∷ writes_on 4 sixteen ∷ [];
  answers = take 3 limited_answers ++ answers.Write (Ok 3) ∷ [];
  views = take 4 limited_views;
  from_client = [];
  from_server = [];
}

-- an acknowledgement frees nothing of the send window, and a write behind it is blocked
abbrev pub never_freed : ReadCall → Run
never_freed read = record (limited_run read) {
  events = take 12 (limited_events read);
  answers = take 11 limited_answers ++ answers.Write (Err write_errors.Blocked) ∷ [];
}

-- ---- what is left

-- so many bytes are left to the client before an event: of all data, of a stream, and of its send
-- window
pub record LeavesAt (read : ReadCall) (s : AreStarted limited_start) (i id of_all of_stream of_window : ℕ) : Type 0 where
  pub all : data_left (limited_run read) s Client i ≡ of_all
  pub own : stream_left (limited_run read) s Client i id ≡ of_stream
  pub window : window_left (limited_run read) s Client i ≡ of_window

-- ---- whose parameters count

-- the client, where what its own parameters tell counts for what its peer's tell
abbrev pub own_client : End
own_client = new_end Client keeps_seven steady (parameters_of keeps_seven) client_id server_id 0 0 true (λ n. 63)
