-- Runs of machines that give a datagram in which nothing waited: PING again, an ACK frame again,
-- MAX_DATA again, and PATH_CHALLENGE or PATH_RESPONSE again.
use Rattle.std.specs.Prelude.{ℕ, List, [], ◌∷◌, ◌++◌, replicate, take, Some, None}
use Rattle.quic_wire.specs.Value.{FrameValue, ping, padding, ack, max_data, max_stream_data, path_challenge, path_response}
use Rattle.quic_machine.specs.declared.run.ReadCall.{ReadCall}
use Rattle.quic_machine.specs.declared.run.Answer.TheVariants as answers
use Rattle.quic_headline.specs.Runs.{Run}
use Rattle.quic_headline.specs.Observer.{Sent}
use Rattle.quic_worked.specs.Worked.{worked_policies, started, asks_datagram, gives_bytes, gives_unmarked, client_id, server_id, sent_view, view_with, id_word}
use Rattle.quic_worked.specs.Acknowledged.{client_datagram, from_server, ack_at_once}
use Rattle.quic_worked.specs.Losses.{asks_ping}
use Rattle.quic_worked.specs.Paired.{asks_server}
use Rattle.quic_worked.specs.Timed.{seen_with}
use Rattle.quic_worked.specs.Hasty.{hasty_events, answers_hasty, hasty_views, ack_of_both, pings}
use Rattle.quic_worked.specs.Limited.{limited_events, limited_answers, limited_views, limited_run, raised_payload, raised_limits}
use Rattle.quic_worked.specs.Unvalidated.{far_events, far_answers, far_view, far_run, asking_payload, response_payload, answered_run}
use Rattle.quic_worked.specs.Held.{first_payload}

-- a datagram that was given second of an end's, to this id, at moment 0
abbrev pub second_sent : List ℕ → List FrameValue → ℕ → Sent
second_sent to frames size = record { id = to; number = 1; reference = 0; frames = frames; moment = 0; size = size; generation = 0 }

-- ---- PING

-- the client is asked for PING once, and gives two
abbrev pub ping_again : Run
ping_again = record {
  keys = worked_policies;
  start = started;
  events = asks_ping ∷ asks_datagram ∷ asks_datagram ∷ [];
  answers = answers.Ping ∷ gives_bytes 223 ∷ gives_bytes 29 ∷ [];
  views = seen_with None None ∷ replicate 2 (seen_with (Some 1024000000) None);
  from_client = pings 2;
  from_server = [];
}

-- the second
abbrev pub second_ping : Sent
second_ping = second_sent server_id (ping ∷ padding ∷ padding ∷ []) 29

-- ---- ACK

-- the server acknowledges both datagrams that came, and gives the same once more
abbrev pub ack_again : Run
ack_again = record {
  keys = worked_policies;
  start = started;
  events = hasty_events ++ asks_server ∷ [];
  answers = answers_hasty (gives_bytes 31) ++ gives_bytes 31 ∷ [];
  views = hasty_views ++ seen_with (Some 1024000000) None ∷ [];
  from_client = pings 2;
  from_server = from_server 0 ack_of_both ∷ from_server 1 ack_of_both ∷ [];
}

-- the second
abbrev pub second_ack : Sent
second_ack = second_sent client_id (ack (record { largest = 1; delay = 0; ranges = (0, 1) ∷ []; ecn = None }) ∷ []) 31

-- ---- MAX_DATA

-- the server says how far the client may come once the word is read, and says it once more, without
-- its ids
abbrev pub limit_again : ReadCall → Run
limit_again read = record (limited_run read) {
  events = take 10 (limited_events read) ++ asks_server ∷ [];
  answers = take 10 limited_answers ++ gives_bytes 36 ∷ [];
  views = take 11 limited_views;
  from_server = from_server 0 raised_payload ∷ from_server 1 (raised_limits ++ ack_at_once) ∷ [];
}

-- the second
abbrev pub second_limit : Sent
second_limit = second_sent client_id (max_data 13 ∷ max_stream_data (record { id = 0; limit = 10 }) ∷ ack (record { largest = 0; delay = 0; ranges = (0, 0) ∷ []; ecn = None }) ∷ []) 36

-- ---- PATH_CHALLENGE

-- the server asks its peer to answer, and asks the same once more
abbrev pub challenge_again : Run
challenge_again = record far_run {
  events = far_events ++ asks_server ∷ [];
  answers = far_answers ++ gives_bytes 1200 ∷ [];
  views = far_run.views ++ record { client = sent_view; server = far_view (Some 1024000000) None } ∷ [];
  from_server = from_server 0 asking_payload ∷ from_server 1 ((0x1a ∷ id_word) ++ replicate 1165 0x00) ∷ [];
}

-- the second
abbrev pub second_challenge : Sent
second_challenge = second_sent client_id (path_challenge id_word ∷ replicate 1165 padding) 1200

-- ---- PATH_RESPONSE

-- the client answers, and answers the same once more
abbrev pub response_again : Run
response_again = record far_run {
  events = take 7 answered_run.events ++ asks_datagram ∷ [];
  answers = take 7 answered_run.answers ++ gives_unmarked 1200 ∷ [];
  views = take 7 answered_run.views ++ record { client = view_with (Some 26000000) None; server = far_view (Some 1024000000) None } ∷ [];
  from_client = client_datagram 0 0 first_payload ∷ client_datagram 1 0 response_payload ∷ client_datagram 2 0 ((0x1b ∷ id_word) ++ replicate 1165 0x00) ∷ [];
}

-- the last
abbrev pub last_response : Sent
last_response = record (second_sent server_id (path_response id_word ∷ replicate 1165 padding) 1200) { number = 2 }
