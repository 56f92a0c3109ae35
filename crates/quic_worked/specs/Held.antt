-- A run in which a congestion window holds back what asks (RFC 9002, section 7): the window is 2400
-- bytes, twice the size of a datagram, and the client writes 4000 bytes. Once a full datagram is in
-- flight, there is no room for one more. The loss timer expires, and two probes pass (section 7.5);
-- then it holds again. And machines that hold back what the window lets go, that don't ask it, that
-- hold a probe back, and that let a third one pass.
use Rattle.std.specs.Prelude.{ℕ, true, List, [], ◌∷◌, ◌++◌, replicate, take, Some, None, Ok}
use Rattle.quic_wire_core.specs.declared.stream_id.Side.TheVariants.{Client, Server}
use Rattle.quic_congestion.specs.Congestion.{Told}
use Rattle.quic_config.specs.Transport.{parameters_of}
use Rattle.quic_worked.specs.Settings.{plain_settings}
use Rattle.quic_machine.specs.declared.run.RunEvent.{RunEvent}
use Rattle.quic_machine.specs.declared.run.Answer.{Answer}
use Rattle.quic_machine.specs.declared.run.Answer.TheVariants as answers
use Rattle.quic_machine.specs.declared.run.EndView.{EndView}
use Rattle.quic_machine.specs.declared.run.View.{View}
use Rattle.quic_machine.specs.Parts.{Windows}
use Rattle.quic_machine.specs.End.{new_end}
use Rattle.quic_machine.specs.Control.{Control}
use Rattle.quic_machine.specs.Heard.{nothing_heard}
use Rattle.quic_machine.specs.Machine.{World}
use Rattle.quic_headline.specs.Runs.{Run}
use Rattle.quic_worked.specs.Worked.{ran, worked_policies, client_id, server_id, started, opens_stream, writes_hello, asks_datagram, gives_bytes, view_with, open_view, worked_views, told_ids, server_open}
use Rattle.quic_worked.specs.Acknowledged.{client_acked, client_datagram}
use Rattle.quic_worked.specs.Reordered.{writes_bytes}
use Rattle.quic_worked.specs.Timed.{serves, asks_at}

-- ---- the ends

-- two datagrams
abbrev pub narrow_window : ℕ
narrow_window = 2400

-- a controller that shows it whatever it is told
abbrev pub narrow_control : Control
narrow_control = λ (told : List Told). narrow_window

-- what an end reads of it, at first and later
abbrev pub narrow_windows : Windows
narrow_windows = record { initial = narrow_window; present = narrow_window }

-- both ends, before anything was given
abbrev pub held_start : World
held_start = record {
  client = new_end Client plain_settings narrow_windows (parameters_of plain_settings) client_id server_id 0 0 true (λ n. 63);
  server = new_end Server plain_settings narrow_windows (parameters_of plain_settings) server_id client_id 0 0 true (λ n. 63);
  from_client = [];
  from_server = [];
  client_control = narrow_control;
  server_control = narrow_control;
  client_heard = nothing_heard;
  server_heard = nothing_heard;
}

-- ---- events and answers

-- the client writes 4000 bytes, and is asked twice for a datagram at once; then its timer expires,
-- and it is asked three times
abbrev pub held_events : List RunEvent
held_events =
    opens_stream
    ∷ writes_bytes (replicate 4000 0x61)
    ∷ asks_at Client 0
    ∷ asks_at Client 0
    ∷ serves Client 1024000000
    ∷ asks_at Client 1024000000
    ∷ asks_at Client 1024000000
    ∷ asks_at Client 1024000000
    ∷ []

-- nothing goes
abbrev pub gives_nothing : Answer
gives_nothing = answers.Poll (Ok None)

-- what that is answered
abbrev pub held_answers : List Answer
held_answers =
    answers.Open (Some 0)
    ∷ answers.Write (Ok 4000)
    ∷ gives_bytes 1200
    ∷ gives_nothing
    ∷ answers.Timeout (Ok tt)
    ∷ gives_bytes 1200
    ∷ gives_bytes 1200
    ∷ gives_nothing
    ∷ []

-- what the first so many of these leave
unfoldable pub once_held : ℕ → World
unfolding client_acked
once_held n = ran worked_policies held_start (take n held_events) (take n held_answers)

-- ---- the run

-- the client's ids, and STREAM without a length, so that it goes up to the end of the datagram: on
-- stream 0, from offset 0 on (RFC 9000, section 19.8)
abbrev pub first_payload : List ℕ
first_payload = told_ids ((0x08 ∷ 0x00 ∷ []) ++ replicate 976 0x61)

-- the probes: the ids once more, and STREAM from offset 976 on, and from 1950 on
abbrev pub second_payload : List ℕ
second_payload = told_ids ((0x0c ∷ 0x00 ∷ 0x43 ∷ 0xd0 ∷ []) ++ replicate 974 0x61)

-- the second of them
abbrev pub third_payload : List ℕ
third_payload = told_ids ((0x0c ∷ 0x00 ∷ 0x47 ∷ 0x9e ∷ []) ++ replicate 974 0x61)

-- what is seen of both, where the client's loss timer is set so
abbrev pub held_view : EndView → View
held_view client = record { client = record client { window = narrow_window }; server = record (view_with None None) { window = narrow_window } }

-- so it is once a full datagram is in flight
abbrev pub full_view : View
full_view = held_view (view_with (Some 1024000000) None)

-- what is seen of both after each event
abbrev pub held_views : List View
held_views =
    replicate 2 (held_view (view_with None None))
    ++ replicate 2 full_view
    ++ held_view (view_with (Some 2048000000) None)
    ∷ replicate 3 (held_view (view_with (Some 3072000000) None))

-- the run
abbrev pub held_run : Run
held_run = record {
  keys = worked_policies;
  start = held_start;
  events = held_events;
  answers = held_answers;
  views = held_views;
  from_client = client_datagram 0 0 first_payload ∷ client_datagram 1 0 second_payload ∷ client_datagram 2 0 third_payload ∷ [];
  from_server = [];
}

-- ---- machines that go wrong

-- five bytes wait, a window of ten datagrams is empty, no timer is set, and the poll gives nothing
abbrev pub silent_run : Run
silent_run = record {
  keys = worked_policies;
  start = started;
  events = opens_stream ∷ writes_hello ∷ asks_datagram ∷ [];
  answers = answers.Open (Some 0) ∷ answers.Write (Ok 5) ∷ gives_nothing ∷ [];
  views = take 3 worked_views;
  from_client = [];
  from_server = [];
}

-- the client shows a window of one byte, whatever its controller shows
abbrev pub shrunk_view : View
shrunk_view = record { client = record open_view { window = 1 }; server = server_open }

-- so nothing seems to fit, and the same poll gives nothing
abbrev pub shrunk_run : Run
shrunk_run = record silent_run { views = replicate 3 shrunk_view }

-- STREAM from offset 976 on
abbrev pub next_payload : List ℕ
next_payload = (0x0c ∷ 0x00 ∷ 0x43 ∷ 0xd0 ∷ []) ++ replicate 1170 0x61

-- the client gives a second datagram, though its window is full
abbrev pub overfull_run : Run
overfull_run = record held_run {
  events = take 4 held_events;
  answers = take 3 held_answers ++ gives_bytes 1200 ∷ [];
  views = take 4 held_views;
  from_client = client_datagram 0 0 first_payload ∷ client_datagram 1 0 next_payload ∷ [];
}

-- the client's timer expires while its window is full, and its poll gives no probe
abbrev pub unprobed_run : Run
unprobed_run = record held_run {
  events = take 6 held_events;
  answers = take 5 held_answers ++ gives_nothing ∷ [];
  views = take 5 held_views ++ held_view (view_with (Some 2048000000) None) ∷ [];
  from_client = client_datagram 0 0 first_payload ∷ [];
}

-- a third probe has what is left: PING, and STREAM from offset 2924 on
abbrev pub fourth_payload : List ℕ
fourth_payload = (0x01 ∷ 0x0c ∷ 0x00 ∷ 0x4b ∷ 0x6c ∷ []) ++ replicate 1076 0x61

-- the client's timer expires once, and three probes go past a full window
abbrev pub third_probe_run : Run
third_probe_run = record held_run {
  answers = take 7 held_answers ++ gives_bytes 1107 ∷ [];
  from_client = held_run.from_client ++ client_datagram 3 0 fourth_payload ∷ [];
}

-- the client shows a larger size of datagrams, of which its controller was never told
abbrev pub resized_view : View
resized_view = record { client = record open_view { current_mtu = 1452 }; server = server_open }

-- from its first answer on
abbrev pub resized_run : Run
resized_run = record silent_run { views = replicate 3 resized_view }

-- or from its second on, though no datagram was acknowledged, nor sent
abbrev pub grown_run : Run
grown_run = record silent_run { views = record { client = open_view; server = server_open } ∷ replicate 2 resized_view }
