-- Runs in which a server gives a datagram to an address that isn't validated (RFC 9000, section
-- 8.1): it may give three times the bytes that came, and asks its peer to answer. The peer does,
-- and its address is validated (section 8.2.3). And machines that give more: one though nothing
-- came, and those that count no headers or no closes; and machines that take another answer, or
-- none, for the right one, or the right one for none.
use Rattle.std.specs.Prelude.{ℕ, Bool, true, false, List, [], ◌∷◌, ◌++◌, replicate, take, Option, Some, None, Ok}
use Rattle.quic_wire_core.specs.declared.stream_id.Side.TheVariants.{Server}
use Rattle.quic_config.specs.Transport.{parameters_of}
use Rattle.quic_wire.specs.Value.{ack, path_response, padding}
use Rattle.quic_machine.specs.declared.answers.State.TheVariants as states
use Rattle.quic_machine.specs.declared.answers.LostReason.TheVariants as reasons
use Rattle.quic_machine.specs.declared.answers.Received.TheVariants as receives
use Rattle.quic_machine.specs.declared.run.RunEvent.{RunEvent}
use Rattle.quic_machine.specs.declared.run.Call.TheVariants as calls
use Rattle.quic_machine.specs.declared.run.Answer.{Answer}
use Rattle.quic_machine.specs.declared.run.Answer.TheVariants as answers
use Rattle.quic_machine.specs.declared.run.EndView.{EndView}
use Rattle.quic_machine.specs.declared.run.View.{View}
use Rattle.quic_machine.specs.End.{new_end}
use Rattle.quic_machine.specs.Machine.{World}
use Rattle.quic_headline.specs.Runs.{Run, Packet}
use Rattle.quic_worked.specs.Settings.{plain_settings}
use Rattle.quic_worked.specs.Worked.{after_event, ran_so_far, steady, worked_policies, client_id, server_id, both_steady, with_server, opens_stream, asks_datagram, delivers, gives_bytes, gives_unmarked, open_view, sent_view, view_with, waiting_view, id_word, told_ids}
use Rattle.quic_worked.specs.Acknowledged.{client_acked, ack_at_once, client_datagram, from_server}
use Rattle.quic_worked.specs.Paired.{asks_server, client_hears}
use Rattle.quic_worked.specs.Reordered.{writes_bytes, delivers_at}
use Rattle.quic_worked.specs.Held.{gives_nothing, first_payload}
use Rattle.quic_worked.specs.Closed.{closed_view}
use Rattle.quic_worked.specs.Ended.{close_payload}
use Rattle.quic_worked.specs.Losses.{ping_payload}

-- ---- the run

-- both ends, where the server's peer isn't known to receive at its address
abbrev pub far_start : World
far_start = with_server both_steady (new_end Server plain_settings steady (parameters_of plain_settings) server_id client_id 0 0 false (λ n. 63))

-- the client gives a full datagram, which comes to the server; then that is asked for one
abbrev pub far_events : List RunEvent
far_events = opens_stream ∷ writes_bytes (replicate 976 0x61) ∷ asks_datagram ∷ delivers ∷ asks_server ∷ []

-- what that is answered
abbrev pub far_answers : List Answer
far_answers = answers.Open (Some 0) ∷ answers.Write (Ok 976) ∷ gives_bytes 1200 ∷ answers.Deliver receives.Taken ∷ gives_bytes 1200 ∷ []

-- what the first so many of these leave
unfoldable pub once_far : ℕ → World
unfolding client_acked
once_far n = ran_so_far worked_policies far_start far_events far_answers n

-- PATH_CHALLENGE of a word of the random source (section 19.17), the server's ids, an
-- acknowledgement, and PADDING up to 1200 bytes in all
abbrev pub asking_payload : List ℕ
asking_payload = (0x1a ∷ id_word) ++ told_ids (ack_at_once ++ replicate 964 0x00)

-- what is seen of a server that asks its peer to answer within 3072 ms, with the timers of losses
-- and of acknowledgements set so
abbrev pub far_view : Option ℕ → Option ℕ → EndView
far_view loss moment = record open_view { validated = false; timers = loss ∷ replicate 3 None ++ Some 3072000000 ∷ replicate 3 None ++ moment ∷ [] }

-- the run
abbrev pub far_run : Run
far_run = record {
  keys = worked_policies;
  start = far_start;
  events = far_events;
  answers = far_answers;
  views =
      replicate 2 (record { client = open_view; server = far_view None None })
      ++ record { client = sent_view; server = far_view None None }
      ∷ record { client = sent_view; server = far_view None (Some 25000000) }
      ∷ record { client = sent_view; server = far_view (Some 1024000000) None }
      ∷ [];
  from_client = client_datagram 0 0 first_payload ∷ [];
  from_server = from_server 0 asking_payload ∷ [];
}

-- ---- a machine that goes wrong

-- a server that gives its datagram before anything came
abbrev pub unasked_run : Run
unasked_run = record far_run {
  events = asks_server ∷ [];
  answers = gives_bytes 1200 ∷ [];
  views = record { client = open_view; server = far_view (Some 1024000000) None } ∷ [];
  from_client = [];
}

-- ---- as much goes as may

-- the server is asked for PING
abbrev pub server_pings : RunEvent
server_pings = record { side = Server; call = calls.Ping }

-- its application closes at moment 0 with code 7, and says no more
abbrev pub server_closes : RunEvent
server_closes = record { side = Server; call = calls.Close (record { now = 0; error_code = 7; reason = [] }) }

-- the client gives 400 bytes, which come to the server; that is asked for a datagram, and for PING
-- and one more
abbrev pub near_events : List RunEvent
near_events = opens_stream ∷ writes_bytes (replicate 174 0x61) ∷ asks_datagram ∷ delivers ∷ asks_server ∷ server_pings ∷ asks_server ∷ []

-- what that is answered: nothing more may go
abbrev pub near_answers : List Answer
near_answers = answers.Open (Some 0) ∷ answers.Write (Ok 174) ∷ gives_bytes 400 ∷ answers.Deliver receives.Taken ∷ gives_bytes 1200 ∷ answers.Ping ∷ gives_nothing ∷ []

-- what the first so many of these leave
unfoldable pub once_near : ℕ → World
unfolding client_acked
once_near n = ran_so_far worked_policies far_start near_events near_answers n

-- the client's ids, and STREAM with a length: on stream 0, from offset 0 on (section 19.8)
abbrev pub near_payload : List ℕ
near_payload = told_ids ((0x0a ∷ 0x00 ∷ 0x40 ∷ 0xae ∷ []) ++ replicate 174 0x61)

-- what is seen until the server gave its datagram
abbrev pub near_views : List View
near_views =
    replicate 2 (record { client = open_view; server = far_view None None })
    ++ record { client = sent_view; server = far_view None None }
    ∷ record { client = sent_view; server = far_view None (Some 25000000) }
    ∷ record { client = sent_view; server = far_view (Some 1024000000) None }
    ∷ []

-- the run
abbrev pub near_run : Run
near_run = record {
  keys = worked_policies;
  start = far_start;
  events = near_events;
  answers = near_answers;
  views = near_views ++ replicate 2 (record { client = sent_view; server = far_view (Some 1024000000) None });
  from_client = client_datagram 0 0 near_payload ∷ [];
  from_server = from_server 0 asking_payload ∷ [];
}

-- ---- machines that count wrongly

-- a server that counts the payloads of what it gives alone: 1174 bytes are fewer than 1200, and
-- three more may go
abbrev pub payload_counted : Run
payload_counted = record near_run {
  answers = take 6 near_answers ++ gives_bytes 29 ∷ [];
  from_server = from_server 0 asking_payload ∷ from_server 1 ping_payload ∷ [];
}

-- a server that gives its close whatever came
abbrev pub close_skipped : Run
close_skipped = record near_run {
  events = take 5 near_events ++ server_closes ∷ asks_server ∷ [];
  answers = take 5 near_answers ++ answers.Close ∷ gives_bytes 29 ∷ [];
  views = near_views ++ replicate 2 (record { client = sent_view; server = record (closed_view reasons.Application) { validated = false } });
  from_server = from_server 0 asking_payload ∷ from_server 1 close_payload ∷ [];
}

-- ---- the peer answers

-- the server's datagram comes to the client, which gives what it answers; that comes to the server
abbrev pub answering_events : List RunEvent
answering_events = client_hears ∷ asks_datagram ∷ delivers_at 1 ∷ []

-- what that is answered
abbrev pub answering_answers : List Answer
answering_answers = answers.Deliver receives.Taken ∷ gives_unmarked 1200 ∷ answers.Deliver receives.Taken ∷ []

-- what the first so many of these leave
unfoldable pub once_answered : ℕ → World
unfolding client_acked once_far
once_answered n = ran_so_far worked_policies (once_far 5) answering_events answering_answers n

-- the server is asked for its state
abbrev pub asks_state : RunEvent
asks_state = record { side = Server; call = calls.State }

-- it is open, and the address of its peer is validated or isn't
abbrev pub tells_state : Bool → Answer
tells_state validated = answers.State states.Open validated

-- the server said that it is
abbrev pub state_told : World
state_told = after_event worked_policies (once_answered 3) asks_state (tells_state true)

-- PATH_RESPONSE of the word that the server drew (section 19.18), an acknowledgement, and PADDING
-- up to 1200 bytes in all
abbrev pub response_payload : List ℕ
response_payload = (0x1b ∷ id_word) ++ (ack_at_once ++ replicate 1160 0x00)

-- what the server takes of that
abbrev pub response_packet : Packet
response_packet = record { number = 1; frames = path_response id_word ∷ ack (record { largest = 0; delay = 0; ranges = (0, 0) ∷ []; ecn = None }) ∷ replicate 1160 padding }

-- the client once it took the server's datagram, and once it answered; the server waits for that
abbrev pub asked_views : List View
asked_views =
    record { client = waiting_view; server = far_view (Some 1024000000) None }
    ∷ record { client = view_with (Some 26000000) None; server = far_view (Some 1024000000) None }
    ∷ []

-- the run, where the server is seen so once the answer came, and says this
abbrev pub answered_with : Bool → EndView → Run
answered_with validated seen = record far_run {
  events = far_events ++ answering_events ++ asks_state ∷ [];
  answers = far_answers ++ answering_answers ++ tells_state validated ∷ [];
  views = far_run.views ++ asked_views ++ replicate 2 (record { client = view_with (Some 26000000) None; server = seen });
  from_client = client_datagram 0 0 first_payload ∷ client_datagram 1 0 response_payload ∷ [];
}

-- the address of its peer is validated
abbrev pub answered_run : Run
answered_run = answered_with true waiting_view

-- a server that does nothing at the answer
abbrev pub ignored_run : Run
ignored_run = answered_with false (far_view None (Some 25000000))

-- a server to which any datagram validates the address of its peer, and that asks nothing
abbrev pub unanswered_run : Run
unanswered_run = record far_run {
  events = take 4 far_events ++ asks_state ∷ [];
  answers = take 4 far_answers ++ tells_state true ∷ [];
  views = take 3 far_run.views ++ replicate 2 (record { client = sent_view; server = waiting_view });
  from_server = [];
}

-- another word than the first
abbrev pub other_word : List ℕ
other_word = replicate 8 0x00

-- a server that asks for another word in a second datagram, and then takes the answer to the first
abbrev pub old_answer_run : Run
old_answer_run = record far_run {
  events = far_events ++ asks_server ∷ answering_events;
  answers = far_answers ++ gives_bytes 1200 ∷ answering_answers;
  views =
      far_run.views
      ++ record { client = sent_view; server = far_view (Some 1024000000) None }
      ∷ asked_views
      ++ record { client = view_with (Some 26000000) None; server = view_with (Some 26000000) (Some 25000000) }
      ∷ [];
  from_client = answered_run.from_client;
  from_server = from_server 0 asking_payload ∷ from_server 1 ((0x1a ∷ other_word) ++ replicate 1165 0x00) ∷ [];
}

-- the server handles moment 0, at which none of its timers expires
abbrev pub server_ticks : RunEvent
server_ticks = record { side = Server; call = calls.Timeout 0 }

-- a server that takes that answer where this came before
abbrev pub late_answer_run : Run
late_answer_run = record old_answer_run {
  events = far_events ++ asks_server ∷ server_ticks ∷ answering_events;
  answers = far_answers ++ gives_bytes 1200 ∷ answers.Timeout (Ok tt) ∷ answering_answers;
  views =
      far_run.views
      ++ replicate 2 (record { client = sent_view; server = far_view (Some 1024000000) None })
      ++ asked_views
      ++ record { client = view_with (Some 26000000) None; server = view_with (Some 26000000) (Some 25000000) }
      ∷ [];
}

-- PATH_RESPONSE of another word than the server draws, which it asked for nothing yet
abbrev pub early_packet : Packet
early_packet = record { number = 0; frames = path_response other_word ∷ replicate 1165 padding }

-- a server to which such data validate the address of its peer
abbrev pub early_answer_run : Run
early_answer_run = record far_run {
  events = asks_datagram ∷ delivers ∷ [];
  answers = gives_bytes 1200 ∷ answers.Deliver receives.Taken ∷ [];
  views = record { client = sent_view; server = far_view None None } ∷ record { client = sent_view; server = waiting_view } ∷ [];
  from_client = client_datagram 0 0 ((0x1b ∷ other_word) ++ replicate 1165 0x00) ∷ [];
  from_server = [];
}
