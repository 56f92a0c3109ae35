-- Runs in which an end closes that has no reason to: the worked run up to the first delivery, with
-- another answer and another view.
use Rattle.std.specs.Prelude.{◌-◌, ◌^◌, true, List, [], ◌∷◌, ◌++◌, take, replicate, Some, None, Ok, ℕ}
use Rattle.quic_wire_core.specs.TransportError.{ErrorValue}
use Rattle.quic_machine.specs.declared.answers.State.TheVariants as states
use Rattle.quic_machine.specs.declared.answers.LostReason.{LostReason}
use Rattle.quic_machine.specs.declared.answers.LostReason.TheVariants as reasons
use Rattle.quic_machine.specs.declared.answers.Received.TheVariants as receives
use Rattle.quic_machine.specs.declared.run.RunEvent.{RunEvent}
use Rattle.quic_machine.specs.declared.run.Answer.{Answer}
use Rattle.quic_machine.specs.declared.run.Answer.TheVariants as answers
use Rattle.quic_machine.specs.declared.run.EndView.{EndView}
use Rattle.quic_machine.specs.Receive.{plain_error}
use Rattle.quic_machine.specs.Machine.{World}
use Rattle.quic_headline.specs.Runs.{Run}
use Rattle.quic_worked.specs.Worked.{steady_window, worked_policies, started, hello_datagram, sending_events, delivers, gives_bytes, open_view, sent_view, with_client, numbered_from, once_sent, from_client, asks_datagram, after_event, ran, shut_window, hello_whole, ids_payload, server_open}
use Rattle.quic_worked.specs.Losses.{asks_ping}

-- what is seen of an end that closed for a reason at moment 0, before a round trip was measured: it
-- is closing for three probe timeouts of 1024 ms, and no other timer is set any more (RFC 9000,
-- section 10.2)
abbrev pub closed_view : LostReason → EndView
closed_view reason = record {
  state = states.Closing;
  reason = Some reason;
  validated = true;
  timers = replicate 2 None ++ Some 3072000000 ∷ replicate 6 None;
  window = steady_window;
  current_mtu = 1200;
}

-- so of a server whose window is shut
abbrev pub closed_server : LostReason → EndView
closed_server reason = record (closed_view reason) { window = shut_window }

-- the server is handed the client's datagram, answers with an error, and closes for a reason
abbrev pub refusing : ErrorValue → LostReason → Run
refusing error reason = record {
  keys = worked_policies;
  start = started;
  events = sending_events ++ delivers ∷ [];
  answers =
      answers.Open (Some 0)
      ∷ answers.Write (Ok 5)
      ∷ answers.Finish (Ok tt)
      ∷ gives_bytes 230
      ∷ answers.Deliver (receives.Closed error)
      ∷ [];
  views =
      replicate 3 (record { client = open_view; server = server_open })
      ++ record { client = sent_view; server = server_open }
      ∷ record { client = sent_view; server = closed_server reason }
      ∷ [];
  from_client = hello_datagram ∷ [];
  from_server = [];
}

-- a server that refuses bytes below the limits that it told, as if they went past them:
-- FLOW_CONTROL_ERROR (RFC 9000, section 4.1)
abbrev pub below_limits : Run
below_limits = refusing (plain_error 3) (reasons.Transport (plain_error 3))

-- a server that refuses the first bytes of a stream as too many pieces, by INTERNAL_ERROR
abbrev pub early_pieces : Run
early_pieces = refusing (plain_error 1) reasons.Pieces

-- the close of an end whose numbers are used up: INTERNAL_ERROR, of no frame, with no text (RFC
-- 9000, section 19.19)
abbrev pub limit_payload : List ℕ
limit_payload = 0x1c ∷ 0x01 ∷ 0x00 ∷ 0x00 ∷ []

-- a client that closes at its first poll for used-up numbers, and gives its close
abbrev pub early_limit : Run
early_limit = record {
  keys = worked_policies;
  start = started;
  events = sending_events;
  answers =
      answers.Open (Some 0)
      ∷ answers.Write (Ok 5)
      ∷ answers.Finish (Ok tt)
      ∷ gives_bytes 30
      ∷ [];
  views =
      replicate 3 (record { client = open_view; server = server_open })
      ++ record { client = closed_view reasons.NumberLimit; server = server_open }
      ∷ [];
  from_client = from_client 0 limit_payload ∷ [];
  from_server = [];
}

-- ---- an end that closes silently

-- what is seen of an end that is drained, and shows no reason
abbrev pub silent_view : EndView
silent_view = record { state = states.Drained; reason = None; validated = true; timers = replicate 9 None; window = steady_window; current_mtu = 1200 }

-- a client that is drained at its first poll, for no reason
abbrev pub drains_silently : Run
drains_silently = record {
  keys = worked_policies;
  start = started;
  events = asks_datagram ∷ [];
  answers = answers.Poll (Ok None) ∷ [];
  views = record { client = silent_view; server = server_open } ∷ [];
  from_client = [];
  from_server = [];
}

-- a client that fails at its first poll, though no memory lacked
abbrev pub fails_silently : Run
fails_silently = record drains_silently { views = record { client = record silent_view { state = states.Failed }; server = server_open } ∷ [] }

-- ---- numbers that are used up

-- both ends, of which the client gives two numbers more at most: no new end is so, which has given
-- none
abbrev pub two_left : World
two_left = with_client started (numbered_from (2 ^ 31 - 17) started.client)

-- the client writes the word, ends its stream, and is asked for a datagram; then a PING is asked
-- for, and another datagram
abbrev pub last_events : List RunEvent
last_events = sending_events ++ asks_ping ∷ asks_datagram ∷ []

-- for which no number is left: it closes, and gives its close
abbrev pub last_answers : List Answer
last_answers = answers.Open (Some 0) ∷ answers.Write (Ok 5) ∷ answers.Finish (Ok tt) ∷ gives_bytes 233 ∷ answers.Ping ∷ gives_bytes 33 ∷ []

-- what the events leave
abbrev pub last_ended : World
last_ended = ran worked_policies two_left (take 3 last_events) (take 3 last_answers)

-- the datagram is given
unfoldable pub last_given : World
unfolding once_sent
last_given = after_event worked_policies last_ended asks_datagram (gives_bytes 233)

-- a PING is asked for
abbrev pub last_pinged : World
last_pinged = after_event worked_policies last_given asks_ping answers.Ping

-- for which no number is left
unfoldable pub last_closed : World
unfolding last_given
last_closed = after_event worked_policies last_pinged asks_datagram (gives_bytes 33)

-- the run
abbrev pub last_run : Run
last_run = record {
  keys = worked_policies;
  start = two_left;
  events = last_events;
  answers = last_answers;
  views =
      replicate 3 (record { client = open_view; server = server_open })
      ++ replicate 2 (record { client = sent_view; server = server_open })
      ++ record { client = closed_view reasons.NumberLimit; server = server_open }
      ∷ [];
  from_client = from_client (2 ^ 31 - 17) hello_whole ∷ from_client (2 ^ 31 - 16) limit_payload ∷ [];
  from_server = [];
}

-- ---- numbers of which one is left

-- both ends, of which the client gives three numbers more at most
abbrev pub three_left : World
three_left = with_client started (numbered_from (2 ^ 31 - 18) started.client)

-- the client is asked for a datagram; then a PING is asked for, and another datagram
abbrev pub early_events : List RunEvent
early_events = asks_datagram ∷ asks_ping ∷ asks_datagram ∷ []

-- for which a number is left: it closes all the same, and gives its close
abbrev pub early_answers : List Answer
early_answers = gives_bytes 225 ∷ answers.Ping ∷ gives_bytes 33 ∷ []

-- its ids are given first
unfoldable pub ids_given : World
unfolding once_sent
ids_given = after_event worked_policies three_left asks_datagram (gives_bytes 225)

-- a PING is asked for
abbrev pub ids_pinged : World
ids_pinged = after_event worked_policies ids_given asks_ping answers.Ping

-- the run
abbrev pub early_last : Run
early_last = record {
  keys = worked_policies;
  start = three_left;
  events = early_events;
  answers = early_answers;
  views =
      replicate 2 (record { client = sent_view; server = server_open })
      ++ record { client = closed_view reasons.NumberLimit; server = server_open }
      ∷ [];
  from_client = from_client (2 ^ 31 - 18) ids_payload ∷ from_client (2 ^ 31 - 17) limit_payload ∷ [];
  from_server = [];
}
