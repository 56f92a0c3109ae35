-- A run in which the pacer holds back what asks (RFC 9002, section 7.7): the client has no token
-- left, and its datagram goes once it has as many as its pacer holds.
use Rattle.std.specs.Prelude.{ℕ, true, List, [], ◌∷◌, ◌++◌, replicate, take, Some, None, Ok}
use Rattle.quic_wire_core.specs.declared.stream_id.Side.TheVariants.{Client}
use Rattle.quic_machine.specs.declared.answers.State.TheVariants as states
use Rattle.quic_machine.specs.declared.run.RunEvent.{RunEvent}
use Rattle.quic_machine.specs.declared.run.Answer.{Answer}
use Rattle.quic_machine.specs.declared.run.Answer.TheVariants as answers
use Rattle.quic_machine.specs.declared.run.EndView.{EndView}
use Rattle.quic_machine.specs.declared.run.View.{View}
use Rattle.quic_machine.specs.End.{End}
use Rattle.quic_machine.specs.Control.{with_pacing_timer}
use Rattle.quic_machine.specs.Machine.{World}
use Rattle.quic_headline.specs.Runs.{Run}
use Rattle.quic_worked.specs.Worked.{ran_so_far, steady_window, worked_policies, ran, started, with_client, once_written, once_sent, hello, opens_stream, writes_hello, gives_bytes, open_view, sent_view, view_with, ids_payload, told_ids, server_open}
use Rattle.quic_worked.specs.Acknowledged.{client_acked, client_datagram}
use Rattle.quic_worked.specs.Timed.{serves, asks_at, seen_with}
use Rattle.quic_worked.specs.Held.{gives_nothing}

-- an end whose pacer has so many tokens, of which the last came at a moment
abbrev pub with_tokens : ℕ → ℕ → End → End
with_tokens tokens moment e = record e { path = record e.path { pacing = record e.path.pacing { tokens = tokens; refilled = moment } } }

-- both ends, of which the client is so: no new end is, whose pacer is full
abbrev pub paced_start : World
paced_start = with_client started (with_tokens 0 0 started.client)

-- when the pacer is full: 12000 tokens take four fifths of 333 ms, since the window of 12000 bytes
-- lets five quarters of itself go in a round trip
abbrev pub full_again : ℕ
full_again = 266400000

-- the client writes the word, and is asked for a datagram at once, and then
abbrev pub paced_events : List RunEvent
paced_events = opens_stream ∷ writes_hello ∷ asks_at Client 0 ∷ asks_at Client full_again ∷ []

-- what that is answered
abbrev pub paced_answers : List Answer
paced_answers = answers.Open (Some 0) ∷ answers.Write (Ok 5) ∷ gives_nothing ∷ gives_bytes 230 ∷ []

-- what the first so many of these leave
unfoldable pub once_paced : ℕ → World
unfolding once_sent
once_paced n = ran worked_policies paced_start (take n paced_events) (take n paced_answers)

-- what is seen of a client whose timer of the pacer is set
abbrev pub pacing_view : EndView
pacing_view = record {
  state = states.Open;
  reason = None;
  validated = true;
  timers = replicate 6 None ++ Some full_again ∷ None ∷ None ∷ [];
  window = steady_window;
  current_mtu = 1200;
}

-- and of both ends then
abbrev pub paced_view : View
paced_view = record { client = pacing_view; server = server_open }

-- the run
abbrev pub paced_run : Run
paced_run = record {
  keys = worked_policies;
  start = paced_start;
  events = paced_events;
  answers = paced_answers;
  views =
      replicate 2 (record { client = open_view; server = server_open })
      ++ paced_view
      ∷ record { client = view_with (Some 1290400000) None; server = server_open }
      ∷ [];
  from_client = client_datagram 0 0 (told_ids ((0x0a ∷ 0x00 ∷ 0x05 ∷ []) ++ hello)) ∷ [];
  from_server = [];
}

-- ---- a machine that goes wrong

-- what its poll leaves where five bytes wait: the timer of the pacer is set, though the pacer has
-- tokens
abbrev pub needlessly_paced : World
needlessly_paced = with_client once_written (with_pacing_timer once_written.client (Some full_again))

-- the same client gives its datagram at once
abbrev pub unheld_run : Run
unheld_run = record paced_run {
  events = opens_stream ∷ writes_hello ∷ asks_at Client 0 ∷ [];
  answers = answers.Open (Some 0) ∷ answers.Write (Ok 5) ∷ gives_bytes 230 ∷ [];
  views = replicate 2 (record { client = open_view; server = server_open }) ++ record { client = sent_view; server = server_open } ∷ [];
}

-- ---- tokens that come too fast, or never

-- what is seen of a client whose timer of the pacer is set to this moment
abbrev pub paced_until : ℕ → View
paced_until moment = record paced_view { client = record pacing_view { timers = replicate 6 None ++ Some moment ∷ None ∷ None ∷ [] } }

-- to a client with no token twice as many come: it waits for half as long
abbrev pub hurried_run : Run
hurried_run = record paced_run {
  events = take 3 paced_events;
  answers = take 3 paced_answers;
  views = replicate 2 (record { client = open_view; server = server_open }) ++ paced_until 133200000 ∷ [];
  from_client = [];
}

-- to one none come: it is asked for a datagram when its pacer should be full, and waits for as long
-- again
abbrev pub unfilled_run : Run
unfilled_run = record paced_run {
  answers = take 3 paced_answers ++ gives_nothing ∷ [];
  views = replicate 2 (record { client = open_view; server = server_open }) ++ paced_view ∷ paced_until 532800000 ∷ [];
  from_client = [];
}

-- ---- probes

-- when the loss timer expires
abbrev pub first_expiry : ℕ
first_expiry = 1024000000

-- both ends, of which the client has tokens for one datagram of 1200 bytes and 230 bytes more, and
-- gets no others before then
abbrev pub scarce_start : World
scarce_start = with_client started (with_tokens 1430 first_expiry started.client)

-- The client writes the word, and gives it. Its loss timer expires, and two probes go, each with
-- its ids. It writes the word again, and is asked for a datagram at once.
abbrev pub scarce_events : List RunEvent
scarce_events =
    opens_stream
    ∷ writes_hello
    ∷ asks_at Client 0
    ∷ serves Client first_expiry
    ∷ asks_at Client first_expiry
    ∷ asks_at Client first_expiry
    ∷ writes_hello
    ∷ asks_at Client first_expiry
    ∷ []

-- what that is answered up to there
abbrev pub scarce_answers : List Answer
scarce_answers =
    answers.Open (Some 0)
    ∷ answers.Write (Ok 5)
    ∷ gives_bytes 230
    ∷ answers.Timeout (Ok tt)
    ∷ gives_bytes 222
    ∷ gives_bytes 222
    ∷ answers.Write (Ok 5)
    ∷ []

-- what the first so many of these leave
unfoldable pub once_scarce : ℕ → World
unfolding client_acked
once_scarce n = ran_so_far worked_policies scarce_start scarce_events scarce_answers n

-- a client that gives the word again, though it hasn't tokens for 1200 bytes once the probes took
-- theirs
abbrev pub uncharged_run : Run
uncharged_run = record {
  keys = worked_policies;
  start = scarce_start;
  events = scarce_events;
  answers = scarce_answers ++ gives_bytes 35 ∷ [];
  views = replicate 2 (seen_with None None) ++ seen_with (Some first_expiry) None ∷ seen_with (Some 2048000000) None ∷ replicate 4 (seen_with (Some 3072000000) None);
  from_client =
      client_datagram 0 0 (told_ids ((0x0a ∷ 0x00 ∷ 0x05 ∷ []) ++ hello))
      ∷ client_datagram 1 0 ids_payload
      ∷ client_datagram 2 0 ids_payload
      ∷ client_datagram 3 0 ((0x0e ∷ 0x00 ∷ 0x05 ∷ 0x05 ∷ []) ++ hello)
      ∷ [];
  from_server = [];
}
