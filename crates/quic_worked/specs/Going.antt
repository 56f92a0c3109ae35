-- A run in which a full window holds back frames of their own: the client writes more than its
-- window lets go, takes the server's ids and uses the next one, and stops and resets its stream, so
-- that RETIRE_CONNECTION_ID, STOP_SENDING and RESET_STREAM wait. A run in which a shut window holds
-- back limits that are to be raised. And machines that keep such frames back though nothing holds
-- them.
use Rattle.std.specs.Prelude.{ℕ, true, List, [], ◌∷◌, ◌++◌, replicate, take, Some, None, Ok}
use Rattle.quic_wire_core.specs.declared.stream_id.Side.TheVariants.{Client, Server}
use Rattle.quic_machine.specs.declared.answers.Received.TheVariants as receives
use Rattle.quic_machine.specs.declared.run.RunEvent.{RunEvent}
use Rattle.quic_machine.specs.declared.run.Answer.{Answer}
use Rattle.quic_machine.specs.declared.run.Answer.TheVariants as answers
use Rattle.quic_machine.specs.declared.run.View.{View}
use Rattle.quic_machine.specs.Machine.{World}
use Rattle.quic_headline.specs.Runs.{Run}
use Rattle.quic_config.specs.Transport.{parameters_of}
use Rattle.quic_machine.specs.declared.run.ReadCall.{ReadCall}
use Rattle.quic_machine.specs.End.{new_end}
use Rattle.quic_machine.specs.Heard.{nothing_heard}
use Rattle.quic_worked.specs.Settings.{plain_settings}
use Rattle.quic_worked.specs.Worked.{after_event, ran_so_far, worked_policies, started, both_steady, steady, steady_control, shut, shut_control, client_id, server_id, with_server, end_after_reads, once_opened, once_sent, once_taken, hello, opens_stream, asks_datagram, delivers, accepts_stream, reads_stream, gives_bytes, open_view, sent_view, server_open, server_waiting, waiting_view, view_with, ids_payload, told_ids}
use Rattle.quic_worked.specs.Credit.{eight_bounds}
use Rattle.quic_worked.specs.Limited.{takes_eight, hello_nexts, limited_events, limited_answers, limited_views, limited_run}
use Rattle.quic_worked.specs.Acknowledged.{client_acked, client_datagram, from_server}
use Rattle.quic_worked.specs.Allowed.{stops_stream}
use Rattle.quic_worked.specs.Confirmed.{says_it, is_said}
use Rattle.quic_worked.specs.Held.{narrow_window, held_start, gives_nothing, held_view, first_payload, full_view}
use Rattle.quic_worked.specs.Paired.{writes_on, resets_with, asks_server, client_hears}
use Rattle.quic_worked.specs.Renamed.{uses_next, renaming_events, renaming_answers, renaming_run}
use Rattle.quic_worked.specs.Reordered.{writes_bytes}
use Rattle.quic_worked.specs.Timed.{asks_at}

-- ---- the run

-- the client writes 4000 bytes and gives a datagram, which fills its window; the server's ids come,
-- and it uses the next; it stops its stream and resets it, and is asked for a datagram
abbrev pub going_events : List RunEvent
going_events =
    opens_stream
    ∷ writes_bytes (replicate 4000 0x61)
    ∷ asks_at Client 0
    ∷ asks_server
    ∷ client_hears
    ∷ uses_next
    ∷ stops_stream
    ∷ resets_with 7
    ∷ asks_at Client 0
    ∷ []

-- what that is answered: nothing goes at last
abbrev pub going_answers : List Answer
going_answers =
    answers.Open (Some 0)
    ∷ answers.Write (Ok 4000)
    ∷ gives_bytes 1200
    ∷ gives_bytes 222
    ∷ answers.Deliver receives.Taken
    ∷ answers.UseNextId (Ok tt)
    ∷ answers.Stop (Ok tt)
    ∷ answers.Reset (Ok tt)
    ∷ gives_nothing
    ∷ []

-- what the first so many of these leave
unfoldable pub once_going : ℕ → World
unfolding client_acked
once_going n = ran_so_far worked_policies held_start going_events going_answers n

-- the server gave its ids
abbrev pub told_view : View
told_view = record full_view { server = record (view_with (Some 1024000000) None) { window = narrow_window } }

-- they came, and the client has an acknowledgement to give
abbrev pub heard_view : View
heard_view = record told_view { client = record (view_with (Some 1024000000) (Some 25000000)) { window = narrow_window } }

-- what is seen of both after each event
abbrev pub going_views : List View
going_views = replicate 2 (held_view (view_with None None)) ++ full_view ∷ told_view ∷ replicate 5 heard_view

-- the run
abbrev pub going_run : Run
going_run = record {
  keys = worked_policies;
  start = held_start;
  events = going_events;
  answers = going_answers;
  views = going_views;
  from_client = client_datagram 0 0 first_payload ∷ [];
  from_server = from_server 0 ids_payload ∷ [];
}

-- ---- machines that keep frames back

-- no timer is set, and the client's window is empty
abbrev pub idle_view : View
idle_view = record { client = open_view; server = server_open }

-- a client does so much with a stream that it opened, and its next poll gives nothing
abbrev pub kept_back : RunEvent → Answer → Run
kept_back event a = record {
  keys = worked_policies;
  start = started;
  events = opens_stream ∷ event ∷ asks_datagram ∷ [];
  answers = answers.Open (Some 0) ∷ a ∷ gives_nothing ∷ [];
  views = replicate 3 idle_view;
  from_client = [];
  from_server = [];
}

-- it reset it
abbrev pub reset_kept : Run
reset_kept = kept_back (resets_with 7) (answers.Reset (Ok tt))

-- it stopped it
abbrev pub stop_kept : Run
stop_kept = kept_back stops_stream (answers.Stop (Ok tt))

-- a server whose application said that the handshake is done, and whose next poll gives nothing
abbrev pub done_kept : Run
done_kept = record {
  keys = worked_policies;
  start = both_steady;
  events = says_it Server ∷ asks_server ∷ [];
  answers = is_said ∷ gives_nothing ∷ [];
  views = replicate 2 (record { client = open_view; server = open_view });
  from_client = [];
  from_server = [];
}

-- a client that uses the next id of its peer, and whose next poll gives nothing
abbrev pub retirement_kept : Run
retirement_kept = record renaming_run {
  events = take 5 renaming_events;
  answers = take 4 renaming_answers ++ gives_nothing ∷ [];
  views = take 4 renaming_run.views ++ record { client = view_with (Some 1024000000) (Some 25000000); server = view_with (Some 1024000000) None } ∷ [];
  from_client = take 1 renaming_run.from_client;
}

-- ---- what the machine makes of them

-- the stream is reset
unfoldable pub reset_waits : World
unfolding client_acked
reset_waits = after_event worked_policies once_opened (resets_with 7) (answers.Reset (Ok tt))

-- it is stopped
unfoldable pub stop_waits : World
unfolding client_acked
stop_waits = after_event worked_policies once_opened stops_stream (answers.Stop (Ok tt))

-- it is said that the handshake is done
unfoldable pub done_waits : World
unfolding client_acked
done_waits = after_event worked_policies both_steady (says_it Server) is_said

-- ---- limits that are held back

-- the server takes eight bytes in all, and five on each stream, and its window is shut
abbrev pub shut_start : World
shut_start = record {
  client = new_end Client plain_settings steady (parameters_of takes_eight) client_id server_id 0 0 true (λ n. 63);
  server = new_end Server takes_eight shut (parameters_of plain_settings) server_id client_id 0 0 true (λ n. 63);
  from_client = [];
  from_server = [];
  client_control = steady_control;
  server_control = shut_control;
  client_heard = nothing_heard;
  server_heard = nothing_heard;
}

-- the client writes five bytes, which come, and which the server reads by this call; then it is
-- asked for a datagram
abbrev pub shut_events : ReadCall → List RunEvent
shut_events read = opens_stream ∷ writes_on 0 hello ∷ asks_datagram ∷ delivers ∷ accepts_stream ∷ reads_stream read ∷ asks_server ∷ []

-- what that is answered: nothing goes
abbrev pub shut_answers : List Answer
shut_answers = answers.Open (Some 0) ∷ answers.Write (Ok 5) ∷ gives_bytes 230 ∷ answers.Deliver receives.Taken ∷ answers.Accept (Some 0) ∷ answers.Read (Ok hello_nexts) ∷ gives_nothing ∷ []

-- the client's stream is open
abbrev pub shut_opened : World
shut_opened = after_event worked_policies shut_start opens_stream (answers.Open (Some 0))

-- the bytes are written
abbrev pub shut_written : World
shut_written = after_event worked_policies shut_opened (writes_on 0 hello) (answers.Write (Ok 5))

-- given
unfoldable pub shut_sent : World
unfolding once_sent
shut_sent = after_event worked_policies shut_written asks_datagram (gives_bytes 230)

-- and taken
unfoldable pub shut_taken : World
unfolding shut_sent once_taken
shut_taken = after_event worked_policies shut_sent delivers (answers.Deliver receives.Taken)

-- their stream is accepted
abbrev pub shut_accepted : World
shut_accepted = after_event worked_policies shut_taken accepts_stream (answers.Accept (Some 0))

-- and read
abbrev pub shut_read : World
shut_read = with_server shut_accepted (end_after_reads shut_accepted.server 0 eight_bounds hello_nexts)

-- nothing goes
unfoldable pub shut_end : World
unfolding shut_taken
shut_end = after_event worked_policies shut_read asks_server gives_nothing

-- what is seen of both once the bytes came
abbrev pub shut_view : View
shut_view = record { client = sent_view; server = server_waiting }

-- the run
abbrev pub shut_run : ReadCall → Run
shut_run read = record {
  keys = worked_policies;
  start = shut_start;
  events = shut_events read;
  answers = shut_answers;
  views = replicate 2 idle_view ++ record { client = sent_view; server = server_open } ∷ replicate 4 shut_view;
  from_client = client_datagram 0 0 (told_ids ((0x0a ∷ 0x00 ∷ 0x05 ∷ []) ++ hello)) ∷ [];
  from_server = [];
}

-- a server that took seven bytes of two streams, and read five of the first: its next poll gives
-- nothing
abbrev pub limits_kept : ReadCall → Run
limits_kept read = record (limited_run read) {
  events = take 10 (limited_events read);
  answers = take 9 limited_answers ++ gives_nothing ∷ [];
  views = take 9 limited_views ++ record { client = sent_view; server = waiting_view } ∷ [];
  from_server = [];
}
