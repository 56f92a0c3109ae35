-- More runs in which a server follows its peer (RFC 9000, section 9): to another address and back,
-- and where it knows no other id. And machines that keep at the new address what was of the old
-- one: the id, the bytes in flight, the pacer, or what was asked there.
use Rattle.std.specs.Prelude.{take, ℕ, false, List, [], ◌∷◌, ◌++◌, replicate, Option, Some, None, Ok}
use Rattle.quic_wire_core.specs.declared.stream_id.Side.TheVariants.{Server}
use Rattle.quic_wire_core.specs.declared.stream_id.Dir.TheVariants.{Bi}
use Rattle.quic_packet.specs.Datagram.{sent}
use Rattle.quic_wire.specs.Value.{StreamValue, ack, padding, path_challenge, retire_connection_id, stream}
use Rattle.quic_machine.specs.declared.answers.Received.TheVariants as receives
use Rattle.quic_machine.specs.declared.run.RunEvent.{RunEvent}
use Rattle.quic_machine.specs.declared.run.Call.TheVariants as calls
use Rattle.quic_machine.specs.declared.run.Answer.{Answer}
use Rattle.quic_machine.specs.declared.run.Answer.TheVariants as answers
use Rattle.quic_machine.specs.declared.run.EndView.{EndView}
use Rattle.quic_machine.specs.Control.{Control}
use Rattle.quic_machine.specs.End.{with_ids}
use Rattle.quic_machine.specs.Machine.{World}
use Rattle.quic_headline.specs.Runs.{Run}
use Rattle.quic_headline.specs.Observer.{Sent}
use Rattle.quic_worked.specs.Worked.{with_server, ran_so_far, worked_policies, both_steady, client_id, id_word, behind_ids, told_ids, ids_payload, asks_datagram, delivers, gives_bytes, gives_unmarked, open_view, sent_view, view_with, view_within, waiting_view}
use Rattle.quic_worked.specs.Acknowledged.{client_datagram, ack_at_once, from_server}
use Rattle.quic_worked.specs.Losses.{asks_ping, ping_payload}
use Rattle.quic_worked.specs.Paired.{asks_server, client_hears}
use Rattle.quic_worked.specs.Reordered.{delivers_at}
use Rattle.quic_worked.specs.Held.{gives_nothing, first_payload}
use Rattle.quic_worked.specs.Unvalidated.{far_start, far_events, far_answers, far_run, far_view, asking_payload, response_payload, asked_views, other_word, asks_state, tells_state}
use Rattle.quic_worked.specs.Migrated.{comes_from, injects_from, no_fixed_bit, gives_to, server_to, moved_view, asked_view}

-- ---- to another address and back

-- PING comes from address 0, then from address 9, and then from address 0 again, behind which the
-- server is asked for a datagram, and once more when 371 bytes more came
abbrev pub twice_events : List RunEvent
twice_events =
    asks_ping
    ∷ asks_datagram
    ∷ delivers
    ∷ asks_ping
    ∷ asks_datagram
    ∷ comes_from 9 1
    ∷ asks_ping
    ∷ asks_datagram
    ∷ delivers_at 2
    ∷ asks_state
    ∷ asks_server
    ∷ injects_from Server 0 (replicate 371 0x00)
    ∷ asks_server
    ∷ []

-- what that is answered
abbrev pub twice_answers : List Answer
twice_answers =
    answers.Ping
    ∷ gives_bytes 223
    ∷ answers.Deliver receives.Taken
    ∷ answers.Ping
    ∷ gives_bytes 29
    ∷ answers.Deliver receives.Taken
    ∷ answers.Ping
    ∷ gives_bytes 29
    ∷ answers.Deliver receives.Taken
    ∷ tells_state false
    ∷ gives_nothing
    ∷ no_fixed_bit
    ∷ gives_bytes 1200
    ∷ []

-- what the first so many of these leave
abbrev pub once_twice : ℕ → World
once_twice n = ran_so_far worked_policies both_steady twice_events twice_answers n

-- an acknowledgement of numbers 0 to 2, PATH_CHALLENGE, the server's ids, RETIRE_CONNECTION_ID of
-- the first two of its peer, and PADDING up to 1200 bytes in all
abbrev pub twice_payload : List ℕ
twice_payload = (0x02 ∷ 0x02 ∷ 0x00 ∷ 0x00 ∷ 0x02 ∷ []) ++ (0x1a ∷ id_word) ++ told_ids (0x19 ∷ 0x00 ∷ 0x19 ∷ 0x01 ∷ replicate 960 0x00)

-- as it went, on the third path
abbrev pub twice_sent : Sent
twice_sent = record {
  id = id_word;
  number = 0;
  reference = 0;
  frames = ack (record { largest = 2; delay = 0; ranges = (0, 2) ∷ []; ecn = None }) ∷ path_challenge id_word ∷ behind_ids (retire_connection_id 0 ∷ retire_connection_id 1 ∷ replicate 960 padding);
  moment = 0;
  size = 1200;
  generation = 2;
}

-- the run
abbrev pub twice_run : Run
twice_run = record {
  keys = worked_policies;
  start = both_steady;
  events = twice_events;
  answers = twice_answers;
  views =
      record { client = open_view; server = open_view }
      ∷ record { client = sent_view; server = open_view }
      ∷ replicate 3 (record { client = sent_view; server = waiting_view })
      ++ replicate 7 moved_view
      ++ asked_view
      ∷ [];
  from_client = client_datagram 0 0 (0x01 ∷ ids_payload) ∷ client_datagram 1 0 ping_payload ∷ client_datagram 2 0 ping_payload ∷ [];
  from_server = server_to id_word twice_payload ∷ [];
}

-- ---- no other id is known

-- the datagram in which the client tells its ids doesn't come, and PING behind it comes from
-- address 9, and 371 bytes more; then the server is asked for a datagram
abbrev pub kept_events : List RunEvent
kept_events = asks_ping ∷ asks_datagram ∷ asks_ping ∷ asks_datagram ∷ comes_from 9 1 ∷ injects_from Server 9 (replicate 371 0x00) ∷ asks_server ∷ []

-- what that is answered
abbrev pub kept_answers : List Answer
kept_answers =
    answers.Ping
    ∷ gives_bytes 223
    ∷ answers.Ping
    ∷ gives_bytes 29
    ∷ answers.Deliver receives.Taken
    ∷ no_fixed_bit
    ∷ gives_to 9 1200
    ∷ []

-- what the first so many of these leave
abbrev pub once_kept : ℕ → World
once_kept n = ran_so_far worked_policies both_steady kept_events kept_answers n

-- PATH_CHALLENGE, the server's ids, an acknowledgement of number 1, and PADDING up to 1200 bytes in
-- all
abbrev pub kept_payload : List ℕ
kept_payload = (0x1a ∷ id_word) ++ told_ids ((0x02 ∷ 0x01 ∷ 0x00 ∷ 0x00 ∷ 0x00 ∷ []) ++ replicate 964 0x00)

-- as it went, to the first id
abbrev pub kept_sent : Sent
kept_sent = record {
  id = client_id;
  number = 0;
  reference = 0;
  frames = path_challenge id_word ∷ behind_ids (ack (record { largest = 1; delay = 0; ranges = (1, 1) ∷ []; ecn = None }) ∷ replicate 964 padding);
  moment = 0;
  size = 1200;
  generation = 1;
}

-- the run
abbrev pub kept_run : Run
kept_run = record {
  keys = worked_policies;
  start = both_steady;
  events = kept_events;
  answers = kept_answers;
  views =
      record { client = open_view; server = open_view }
      ∷ replicate 3 (record { client = sent_view; server = open_view })
      ++ moved_view
      ∷ moved_view
      ∷ asked_view
      ∷ [];
  from_client = client_datagram 0 0 (0x01 ∷ ids_payload) ∷ client_datagram 1 0 ping_payload ∷ [];
  from_server = from_server 0 kept_payload ∷ [];
}

-- ---- the window is full at the old address

-- a controller that shows room for one datagram of 1200 bytes, and not for two
abbrev pub narrow_control : Control
narrow_control = λ told. 2400

-- both ends, where the server has it
abbrev pub narrow_ends : World
narrow_ends = record both_steady { server_control = narrow_control }

-- the server opens a stream, writes 1000 bytes, and gives 976 of them; then PING comes from
-- address 9, and 400 bytes more, and it is asked for a datagram
abbrev pub full_events : List RunEvent
full_events =
    record { side = Server; call = calls.Open Bi }
    ∷ record { side = Server; call = calls.Write 1 (replicate 1000 0x61) }
    ∷ asks_server
    ∷ asks_ping
    ∷ asks_datagram
    ∷ comes_from 9 0
    ∷ injects_from Server 9 (replicate 400 0x00)
    ∷ asks_server
    ∷ []

-- what that is answered, where the last is answered so
abbrev pub full_answers : Answer → List Answer
full_answers a =
    answers.Open (Some 1)
    ∷ answers.Write (Ok 1000)
    ∷ gives_bytes 1200
    ∷ answers.Ping
    ∷ gives_bytes 223
    ∷ answers.Deliver receives.Taken
    ∷ no_fixed_bit
    ∷ a
    ∷ []

-- what the first so many of these leave
abbrev pub once_full : ℕ → World
once_full n = ran_so_far worked_policies narrow_ends full_events (full_answers gives_nothing) n

-- the 976 bytes
abbrev pub full_frame : StreamValue
full_frame = record { id = 1; offset = 0; fin = false; bytes = replicate 976 0x61 }

-- STREAM with these, without a length, behind the server's ids
abbrev pub full_payload : List ℕ
full_payload = told_ids (0x08 ∷ 0x01 ∷ replicate 976 0x61)

-- as it went, on the first path
abbrev pub full_sent : Sent
full_sent = record { id = client_id; number = 0; reference = 0; frames = behind_ids (stream full_frame ∷ []); moment = 0; size = 1200; generation = 0 }

-- what is seen of such a server that follows its peer, where the timer of its pacer is set so
abbrev pub full_view : Option ℕ → EndView
full_view paced = record (far_view (Some 1024000000) (Some 25000000)) {
  window = 2400;
  timers = Some 1024000000 ∷ replicate 3 None ++ Some 3072000000 ∷ None ∷ paced ∷ None ∷ Some 25000000 ∷ [];
}

-- a run of a server that gives nothing then, and is seen so
abbrev pub full_run : Option ℕ → Run
full_run paced = record {
  keys = worked_policies;
  start = narrow_ends;
  events = full_events;
  answers = full_answers gives_nothing;
  views =
      replicate 2 (record { client = open_view; server = view_within 2400 None None })
      ++ replicate 2 (record { client = open_view; server = view_within 2400 (Some 1024000000) None })
      ++ record { client = sent_view; server = view_within 2400 (Some 1024000000) None }
      ∷ replicate 2 (record { client = sent_view; server = full_view None })
      ++ record { client = sent_view; server = full_view paced }
      ∷ [];
  from_client = client_datagram 0 0 (0x01 ∷ ids_payload) ∷ [];
  from_server = from_server 0 full_payload ∷ [];
}

-- a server to which the datagram at the old address counts against the window of the new one
abbrev pub keeps_old_flight : Run
keeps_old_flight = full_run None

-- a server whose pacer holds back what goes to the new address for what went to the old one
abbrev pub keeps_old_pacer : Run
keeps_old_pacer = full_run (Some 1000000)

-- ---- the answer to what was asked at the old address

-- The server asks its peer at address 0, which answers; but PING comes before that, from address
-- 9. The server asks for another word there, and then the answer comes from there.
abbrev pub late_events : List RunEvent
late_events =
    far_events
    ++ client_hears
    ∷ asks_datagram
    ∷ asks_ping
    ∷ asks_datagram
    ∷ comes_from 9 2
    ∷ injects_from Server 9 (replicate 371 0x00)
    ∷ asks_server
    ∷ comes_from 9 1
    ∷ []

-- what that is answered
abbrev pub late_answers : List Answer
late_answers =
    far_answers
    ++ answers.Deliver receives.Taken
    ∷ gives_unmarked 1200
    ∷ answers.Ping
    ∷ gives_unmarked 32
    ∷ answers.Deliver receives.Taken
    ∷ no_fixed_bit
    ∷ gives_to 9 1200
    ∷ answers.Deliver receives.Taken
    ∷ []

-- PING with that acknowledgement again
abbrev pub late_ping : List ℕ
late_ping = 0x01 ∷ ack_at_once

-- what is seen of a server that measured a round trip and asks its peer to answer within 78 ms,
-- with the timer of losses set so
abbrev pub late_view : Option ℕ → EndView
late_view loss = record (far_view loss None) { timers = loss ∷ replicate 3 None ++ Some 78000000 ∷ replicate 4 None }

-- the server's second datagram with this payload to an id
abbrev pub second_to : List ℕ → List ℕ → List ℕ
second_to id payload = sent worked_policies.server.header worked_policies.server.packet 1 0 id payload

-- an acknowledgement of number 2, PATH_CHALLENGE of a word, RETIRE_CONNECTION_ID of number
-- 0, and PADDING up to 1200 bytes in all
abbrev pub late_payload : List ℕ → List ℕ
late_payload word = (0x02 ∷ 0x02 ∷ 0x00 ∷ 0x00 ∷ 0x00 ∷ []) ++ (0x1a ∷ word) ++ (0x19 ∷ 0x00 ∷ replicate 1158 0x00)

-- what the first so many of these leave of the reference machine, which asks for the same word
-- again
abbrev pub once_late : ℕ → World
once_late n = ran_so_far worked_policies far_start late_events late_answers n

-- a server to which the address is validated then
abbrev pub old_answer_validates : Run
old_answer_validates = record far_run {
  events = late_events;
  answers = late_answers;
  views =
      far_run.views
      ++ asked_views
      ++ replicate 2 (record { client = view_with (Some 26000000) None; server = far_view (Some 1024000000) None })
      ++ replicate 2 (record { client = view_with (Some 26000000) None; server = late_view None })
      ++ record { client = view_with (Some 26000000) None; server = late_view (Some 26000000) }
      ∷ record { client = view_with (Some 26000000) None; server = view_with (Some 26000000) None }
      ∷ [];
  from_client = client_datagram 0 0 first_payload ∷ client_datagram 1 0 response_payload ∷ client_datagram 2 0 late_ping ∷ [];
  from_server = from_server 0 asking_payload ∷ second_to id_word (late_payload other_word) ∷ [];
}

-- ---- the same, before the server asks anew

-- the answer comes from address 9 before the server asks its peer there
abbrev pub early_events : List RunEvent
early_events = take 10 late_events ++ comes_from 9 1 ∷ []

-- what that is answered
abbrev pub early_answers : List Answer
early_answers = take 10 late_answers ++ answers.Deliver receives.Taken ∷ []

-- what the first so many of these leave
abbrev pub once_early : ℕ → World
once_early n = ran_so_far worked_policies far_start early_events early_answers n

-- The run: the random source answers the word again that was asked for at the old address, and so
-- the address is validated by that answer.
abbrev pub early_run : Run
early_run = record far_run {
  events = early_events;
  answers = early_answers;
  views =
      far_run.views
      ++ asked_views
      ++ replicate 2 (record { client = view_with (Some 26000000) None; server = far_view (Some 1024000000) None })
      ++ record { client = view_with (Some 26000000) None; server = late_view None }
      ∷ record { client = view_with (Some 26000000) None; server = open_view }
      ∷ [];
  from_client = client_datagram 0 0 first_payload ∷ client_datagram 1 0 response_payload ∷ client_datagram 2 0 late_ping ∷ [];
}

-- ---- the next id is passed over

-- a server that takes the peer's id that it uses for that of number 7, the last
abbrev pub uses_last : World
uses_last = with_server both_steady (with_ids both_steady.server (record both_steady.server.ids { peer = record both_steady.server.ids.peer { active = 7 } }))

-- the client's ids come to the server, with PING, from address 9
abbrev pub passing_events : List RunEvent
passing_events = asks_ping ∷ asks_datagram ∷ comes_from 9 0 ∷ []

-- what that is answered
abbrev pub passing_answers : List Answer
passing_answers = answers.Ping ∷ gives_bytes 223 ∷ answers.Deliver receives.Taken ∷ []

-- what the first so many of these leave of two ends
abbrev pub once_passed : World → ℕ → World
once_passed w n = ran_so_far worked_policies w passing_events passing_answers n

-- a run of such a server: it knows of no next id, and goes on with the one that it has
abbrev pub passes_over : Run
passes_over = record {
  keys = worked_policies;
  start = uses_last;
  events = passing_events;
  answers = passing_answers;
  views = record { client = open_view; server = open_view } ∷ record { client = sent_view; server = open_view } ∷ moved_view ∷ [];
  from_client = client_datagram 0 0 (0x01 ∷ ids_payload) ∷ [];
  from_server = [];
}
