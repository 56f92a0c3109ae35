-- Runs in which an end keeps to what its peer asks of how often to acknowledge (QUIC
-- Acknowledgement Frequency, sections 4 to 6): a request that comes behind a newer one changes
-- nothing; a probe of losses has IMMEDIATE_ACK, and is acknowledged at once; and a packet that
-- comes out of order waits, where the request lets it. And the same runs as machines with a bug
-- make them; and one of a server that lets no packet wait, where none was asked for.
use Rattle.std.specs.Prelude.{ℕ, List, [], ◌∷◌, ◌++◌, take, Some, None, Ok}
use Rattle.quic_wire_core.specs.declared.stream_id.Side.TheVariants.{Client, Server}
use Rattle.quic_wire.specs.Value.{ack, ack_frequency, immediate_ack}
use Rattle.quic_machine.specs.declared.answers.Received.TheVariants as receives
use Rattle.quic_machine.specs.declared.run.RunEvent.{RunEvent}
use Rattle.quic_machine.specs.declared.run.Answer.{Answer}
use Rattle.quic_machine.specs.declared.run.Answer.TheVariants as answers
use Rattle.quic_machine.specs.declared.run.View.{View}
use Rattle.quic_machine.specs.Machine.{World}
use Rattle.quic_headline.specs.Runs.{Run, Packet}
use Rattle.quic_headline.specs.Observer.{Sent}
use Rattle.quic_worked.specs.Worked.{ran_so_far, worked_policies, started, gives_bytes, gives_unmarked, client_id, id_frames, ids_payload}
use Rattle.quic_worked.specs.Acknowledged.{ack_at_once, ack_of_unsent, client_datagram, from_server}
use Rattle.quic_worked.specs.Losses.{asks_ping, narrow_payload, ping_payload}
use Rattle.quic_worked.specs.Paired.{asks_server}
use Rattle.quic_worked.specs.Held.{gives_nothing}
use Rattle.quic_worked.specs.Hasty.{hasty_events, hasty_answers, hasty_views, pings}
use Rattle.quic_worked.specs.Timed.{serves, asks_at, comes_at, seen_with}
use Rattle.quic_worked.specs.Asking.{comes_there, asking_start, request, request_payload, ten_millis, hundred_millis, first_asking, asked_events, asked_answers, once_asked, asked_views, asked_run}

-- ---- a request that comes behind a newer one

-- the client asks for 100 ms, and that comes late: behind PING, which the server acknowledges, so
-- that the client has measured a round trip of 45 ms, and asks for no more than that
abbrev pub stale_events : List RunEvent
stale_events =
    asks_at Client 0
    ∷ asks_ping
    ∷ asks_at Client 0
    ∷ comes_there 1 10000000
    ∷ serves Server 35000000
    ∷ asks_at Server 35000000
    ∷ comes_at Client 45000000
    ∷ asks_at Client 45000000
    ∷ comes_there 2 50000000
    ∷ serves Server 95000000
    ∷ asks_at Server 95000000
    ∷ comes_there 0 100000000
    ∷ []

-- what that is answered
abbrev pub stale_answers : List Answer
stale_answers =
    gives_bytes 231
    ∷ answers.Ping
    ∷ gives_bytes 29
    ∷ answers.Deliver receives.Taken
    ∷ answers.Timeout (Ok tt)
    ∷ gives_bytes 32
    ∷ answers.Deliver receives.Taken
    ∷ gives_unmarked 40
    ∷ answers.Deliver receives.Taken
    ∷ answers.Timeout (Ok tt)
    ∷ gives_unmarked 32
    ∷ answers.Deliver receives.Taken
    ∷ []

-- what the first so many of these leave
unfoldable pub once_stale : ℕ → World
unfolding once_asked
once_stale n = ran_so_far worked_policies (asking_start 100000000) stale_events stale_answers n

-- 45000 microseconds
abbrev pub forty_five_millis : List ℕ
forty_five_millis = 0x80 ∷ 0x00 ∷ 0xaf ∷ 0xc8 ∷ []

-- ACK of number 2 alone, after 45000 microseconds, of which the last three bits go: the client
-- acknowledged that of number 1
abbrev pub second_payload : List ℕ
second_payload = 0x02 ∷ 0x02 ∷ 0x55 ∷ 0xf9 ∷ 0x00 ∷ 0x00 ∷ []

-- the views, where the server's timer shows this once the late one came: the client's loss timer is
-- set for its first datagram, which is lost by time
abbrev pub stale_views : ℕ → List View
stale_views due =
    seen_with (Some 1099000000) None
    ∷ seen_with (Some 1099000000) None
    ∷ seen_with (Some 1099000000) None
    ∷ seen_with (Some 1099000000) (Some 35000000)
    ∷ seen_with (Some 1099000000) None
    ∷ seen_with (Some 1099000000) None
    ∷ seen_with (Some 50625000) None
    ∷ seen_with (Some 50625000) None
    ∷ seen_with (Some 50625000) (Some 95000000)
    ∷ seen_with (Some 50625000) None
    ∷ seen_with (Some 50625000) None
    ∷ seen_with (Some 50625000) (Some due)
    ∷ []

-- the run with these views
abbrev pub stale_until : ℕ → Run
stale_until due = record {
  keys = worked_policies;
  start = asking_start 100000000;
  events = stale_events;
  answers = stale_answers;
  views = stale_views due;
  from_client =
      first_asking 0 hundred_millis
      ∷ client_datagram 1 0 ping_payload
      ∷ client_datagram 2 1 (request_payload 1 forty_five_millis ++ ack_at_once)
      ∷ [];
  from_server = from_server 0 narrow_payload ∷ from_server 1 second_payload ∷ [];
}

-- the server waits for 45 ms still
abbrev pub stale_run : Run
stale_run = stale_until 145000000

-- a server that waits for 100 ms from then on
abbrev pub obeys_stale : Run
obeys_stale = stale_until 200000000

-- ---- IMMEDIATE_ACK

-- the client's datagram comes to nobody, and a probe goes 1024 ms later, which comes to the server;
-- that is asked for a datagram at once
abbrev pub probing_events : List RunEvent
probing_events = asks_at Client 0 ∷ serves Client 1024000000 ∷ asks_at Client 1024000000 ∷ comes_there 1 1030000000 ∷ asks_at Server 1030000000 ∷ []

-- what that is answered, with this to the server's poll
abbrev pub answers_probing : Answer → List Answer
answers_probing last = gives_bytes 229 ∷ answers.Timeout (Ok tt) ∷ gives_bytes 230 ∷ answers.Deliver receives.Taken ∷ last ∷ []

-- what the first so many of these leave, where it gives an ACK frame
unfoldable pub once_probing : ℕ → World
unfolding once_asked
once_probing n = ran_so_far worked_policies (asking_start 10000000) probing_events (answers_probing (gives_bytes 31)) n

-- the probe: IMMEDIATE_ACK, the request once more under the next number, and the ids
abbrev pub probe_payload : List ℕ
probe_payload = 0x1f ∷ request_payload 1 ten_millis ++ ids_payload

-- the packet of the probe
abbrev pub probe_packet : Packet
probe_packet = record { number = 1; frames = immediate_ack ∷ ack_frequency (request 1 10000) ∷ id_frames }

-- the run: no timer of acknowledgements is set
abbrev pub probing_with : Answer → List (List ℕ) → Run
probing_with last given = record {
  keys = worked_policies;
  start = asking_start 10000000;
  events = probing_events;
  answers = answers_probing last;
  views =
      seen_with (Some 1024000000) None
      ∷ seen_with (Some 2048000000) None
      ∷ seen_with (Some 3072000000) None
      ∷ seen_with (Some 3072000000) None
      ∷ seen_with (Some 3072000000) None
      ∷ [];
  from_client = first_asking 0 ten_millis ∷ client_datagram 1 0 probe_payload ∷ [];
  from_server = given;
}

-- the server acknowledges the probe
abbrev pub probing_run : Run
probing_run = probing_with (gives_bytes 31) (from_server 0 ack_of_unsent ∷ [])

-- a server to which IMMEDIATE_ACK is nothing
abbrev pub probe_waits : Run
probe_waits = probing_with gives_nothing []

-- ---- a packet that comes out of order

-- behind its second datagram the client gives a third, which comes before it; the server is asked
-- for one at once
abbrev pub early_events : List RunEvent
early_events = asks_ping ∷ asks_at Client 20000000 ∷ comes_there 2 25000000 ∷ asks_at Server 25000000 ∷ []

-- what that is answered, with this to the server's poll
abbrev pub answers_early : Answer → List Answer
answers_early last = answers.Ping ∷ gives_unmarked 32 ∷ answers.Deliver receives.Taken ∷ last ∷ []

-- what the first so many of these leave
unfoldable pub once_early : ℕ → World
unfolding once_asked
once_early n = ran_so_far worked_policies (once_asked 7) early_events (answers_early gives_nothing) n

-- the run with this answer and these datagrams, where the server's timer shows so behind its poll
abbrev pub early_with : Answer → List (List ℕ) → View → Run
early_with last given seen = record {
  keys = worked_policies;
  start = asking_start 10000000;
  events = take 7 asked_events ++ early_events;
  answers = take 7 asked_answers ++ answers_early last;
  views =
      take 7 asked_views
      ++ seen_with (Some 90000000) None
      ∷ seen_with (Some 90000000) None
      ∷ seen_with (Some 90000000) (Some 35000000)
      ∷ seen
      ∷ [];
  from_client = asked_run.from_client ++ client_datagram 2 0 (0x01 ∷ ack_at_once) ∷ [];
  from_server = asked_run.from_server ++ given;
}

-- one number is missing, and the server lets the acknowledgement wait
abbrev pub early_run : Run
early_run = early_with gives_nothing [] (seen_with (Some 90000000) (Some 35000000))

-- ACK of number 2 alone, at once
abbrev pub ack_of_second : List ℕ
ack_of_second = 0x02 ∷ 0x02 ∷ 0x00 ∷ 0x00 ∷ 0x00 ∷ []

-- a server that acknowledges it at once
abbrev pub acks_early : Run
acks_early = early_with (gives_unmarked 31) (from_server 1 ack_of_second ∷ []) (seen_with (Some 90000000) None)

-- that datagram as it was sent
abbrev pub early_ack : Sent
early_ack = record { id = client_id; number = 1; reference = 0; frames = ack (record { largest = 2; delay = 0; ranges = (2, 2) ∷ []; ecn = None }) ∷ []; moment = 25000000; size = 31; generation = 0 }

-- ---- the first packet that asks

-- the client gave two datagrams, of which the first has come; the server is asked for one at once,
-- and acknowledges that
abbrev pub acks_first : Run
acks_first = record {
  keys = worked_policies;
  start = started;
  events = take 5 hasty_events ++ asks_server ∷ [];
  answers = take 5 hasty_answers ++ gives_bytes 31 ∷ [];
  views = take 5 hasty_views ++ seen_with (Some 1024000000) None ∷ [];
  from_client = pings 2;
  from_server = from_server 0 ack_at_once ∷ [];
}

-- its datagram as it was sent
abbrev pub first_ack : Sent
first_ack = record { id = client_id; number = 0; reference = 0; frames = ack (record { largest = 0; delay = 0; ranges = (0, 0) ∷ []; ecn = None }) ∷ []; moment = 0; size = 31; generation = 0 }
