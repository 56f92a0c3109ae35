-- The run in which a client answers what the server asks it, and machines that answer with other
-- data, that don't answer, or that answer in a short datagram; and a machine whose challenge has
-- other data than it drew (RFC 9000, sections 8.2.1 and 8.2.2).
use Rattle.std.specs.Prelude.{ℕ, List, [], ◌∷◌, ◌++◌, replicate, take, Some, None}
use Rattle.quic_wire.specs.Value.{FrameValue, ping, ack, path_challenge, path_response, padding}
use Rattle.quic_machine.specs.declared.answers.Received.TheVariants as receives
use Rattle.quic_machine.specs.declared.run.RunEvent.{RunEvent}
use Rattle.quic_machine.specs.declared.run.Answer.{Answer}
use Rattle.quic_machine.specs.declared.run.Answer.TheVariants as answers
use Rattle.quic_machine.specs.declared.run.View.{View}
use Rattle.quic_headline.specs.Runs.{Run}
use Rattle.quic_headline.specs.Observer.{Sent}
use Rattle.quic_headline.specs.Responses.{Challenge}
use Rattle.quic_worked.specs.Worked.{client_id, server_id, gives_unmarked, view_with, waiting_view, id_word, told_ids, behind_ids}
use Rattle.quic_worked.specs.Acknowledged.{ack_at_once, client_datagram, from_server}
use Rattle.quic_worked.specs.Held.{gives_nothing, first_payload}
use Rattle.quic_worked.specs.Unvalidated.{far_events, far_answers, far_view, far_run, answering_events, asked_views, other_word}

-- what the server's first packet asks of the client
abbrev pub server_asks : Challenge
server_asks = record { number = 0; token = id_word }

-- ACK of the server's first packet
abbrev pub acks_first : FrameValue
acks_first = ack (record { largest = 0; delay = 0; ranges = (0, 0) ∷ []; ecn = None })

-- the client's answer, as it was sent
abbrev pub response_sent : Sent
response_sent = record { id = server_id; number = 1; reference = 0; frames = path_response id_word ∷ acks_first ∷ replicate 1160 padding; moment = 0; size = 1200; generation = 0 }

-- the run up to the client's second poll, that is answered so, which gives this, if anything
abbrev pub once_asked : Answer → View → List (List ℕ) → Run
once_asked a v given = record far_run {
  events = far_events ++ take 2 answering_events;
  answers = far_answers ++ answers.Deliver receives.Taken ∷ a ∷ [];
  views = far_run.views ++ take 1 asked_views ++ v ∷ [];
  from_client = client_datagram 0 0 first_payload ∷ given;
}

-- the view behind a datagram that asks
abbrev pub response_seen : View
response_seen = record { client = view_with (Some 26000000) None; server = far_view (Some 1024000000) None }

-- a client that answers with other data, in a byte more
abbrev pub other_given : List (List ℕ)
other_given = client_datagram 1 0 ((0x1b ∷ other_word) ++ (ack_at_once ++ replicate 1161 0x00)) ∷ []

abbrev pub answers_other : Run
answers_other = once_asked (gives_unmarked 1201) response_seen other_given

abbrev pub other_sent : Sent
other_sent = record response_sent { frames = path_response other_word ∷ acks_first ∷ replicate 1161 padding; size = 1201 }

-- a client that gives PING in place of its answer
abbrev pub ping_given : List (List ℕ)
ping_given = client_datagram 1 0 (0x01 ∷ ack_at_once) ∷ []

abbrev pub pings_instead : Run
pings_instead = once_asked (gives_unmarked 32) response_seen ping_given

abbrev pub ping_sent : Sent
ping_sent = record response_sent { frames = ping ∷ acks_first ∷ []; size = 32 }

-- a client that gives nothing
abbrev pub silent_seen : View
silent_seen = record { client = waiting_view; server = far_view (Some 1024000000) None }

abbrev pub answers_never : Run
answers_never = once_asked gives_nothing silent_seen []

-- a client that answers with no PADDING
abbrev pub short_given : List (List ℕ)
short_given = client_datagram 1 0 ((0x1b ∷ id_word) ++ ack_at_once) ∷ []

abbrev pub answers_short : Run
answers_short = once_asked (gives_unmarked 40) response_seen short_given

abbrev pub short_sent : Sent
short_sent = record response_sent { frames = path_response id_word ∷ acks_first ∷ []; size = 40 }

-- a server that asks for zeros, though its random source says 63
abbrev pub zeros_payload : List ℕ
zeros_payload = (0x1a ∷ other_word) ++ told_ids (ack_at_once ++ replicate 964 0x00)

abbrev pub asks_zeros : Run
asks_zeros = record far_run { from_server = from_server 0 zeros_payload ∷ [] }

abbrev pub zeros_sent : Sent
zeros_sent = record { id = client_id; number = 0; reference = 0; frames = path_challenge other_word ∷ behind_ids (acks_first ∷ replicate 964 padding); moment = 0; size = 1200; generation = 0 }
