-- Runs in which datagrams come from elsewhere, though no peer moved (RFC 9000, section 9): a client
-- takes nothing from there; to a server an old packet tells nothing of where its peer is, nor does
-- one that only probes a path. And machines that go wrong there.
use Rattle.std.specs.Prelude.{ℕ, false, List, [], ◌∷◌, ◌++◌, replicate, take, Some, None}
use Rattle.quic_wire_core.specs.declared.stream_id.Side.TheVariants.{Client}
use Rattle.quic_config.specs.Transport.{parameters_of}
use Rattle.quic_wire.specs.Value.{padding, path_challenge}
use Rattle.quic_machine.specs.declared.answers.DropReason.TheVariants as drops
use Rattle.quic_machine.specs.declared.answers.Received.TheVariants as receives
use Rattle.quic_machine.specs.declared.run.RunEvent.{RunEvent}
use Rattle.quic_machine.specs.declared.run.Call.TheVariants as calls
use Rattle.quic_machine.specs.declared.run.Answer.{Answer}
use Rattle.quic_machine.specs.declared.run.Answer.TheVariants as answers
use Rattle.quic_machine.specs.declared.run.View.{View}
use Rattle.quic_machine.specs.End.{new_end}
use Rattle.quic_machine.specs.Machine.{World}
use Rattle.quic_headline.specs.Runs.{Run, Packet}
use Rattle.quic_worked.specs.Settings.{plain_settings}
use Rattle.quic_worked.specs.Worked.{ran_so_far, steady, worked_policies, both_steady, with_client, client_id, server_id, id_word, behind_ids, told_ids, ids_payload, asks_datagram, gives_bytes, open_view, sent_view, waiting_view}
use Rattle.quic_worked.specs.Acknowledged.{client_datagram, ack_at_once, from_server}
use Rattle.quic_worked.specs.Losses.{asks_ping, ping_payload}
use Rattle.quic_worked.specs.Paired.{asks_server, client_hears}
use Rattle.quic_worked.specs.Reordered.{delivers_at}
use Rattle.quic_worked.specs.Unvalidated.{far_view}
use Rattle.quic_worked.specs.Migrated.{comes_from, injects_from, no_fixed_bit}

-- ---- at a client

-- the server's first datagram comes to the client at moment 0 from an address, without a mark
abbrev pub client_hears_from : ℕ → RunEvent
client_hears_from remote = record { side = Client; call = calls.Deliver (record { now = 0; remote = remote; ecn = None; index = 0 }) }

-- the server gives its ids, which come to the client from address 5, and then from address 0
abbrev pub foreign_events : List RunEvent
foreign_events = asks_server ∷ client_hears_from 5 ∷ client_hears ∷ []

-- what that is answered, where the first comes to this
abbrev pub foreign_answers : Answer → List Answer
foreign_answers a = gives_bytes 222 ∷ a ∷ answers.Deliver receives.Taken ∷ []

-- it is dropped for its address
abbrev pub other_address : Answer
other_address = answers.Deliver (receives.Dropped drops.Address)

-- what the first so many of these leave
abbrev pub once_foreign : ℕ → World
once_foreign n = ran_so_far worked_policies both_steady foreign_events (foreign_answers other_address) n

-- the run
abbrev pub foreign_run : Run
foreign_run = record {
  keys = worked_policies;
  start = both_steady;
  events = foreign_events;
  answers = foreign_answers other_address;
  views =
      replicate 2 (record { client = open_view; server = sent_view })
      ++ record { client = waiting_view; server = sent_view }
      ∷ [];
  from_client = [];
  from_server = from_server 0 ids_payload ∷ [];
}

-- a client that takes what comes from there
abbrev pub client_follows : Run
client_follows = record foreign_run {
  events = take 2 foreign_events;
  answers = take 2 (foreign_answers (answers.Deliver receives.Taken));
  views = record { client = open_view; server = sent_view } ∷ record { client = waiting_view; server = sent_view } ∷ [];
}

-- ---- an old packet

-- the client gives PING three times; the last comes to the server from address 0, and then the one
-- before it from address 9
abbrev pub strayed_events : List RunEvent
strayed_events =
    asks_ping
    ∷ asks_datagram
    ∷ asks_ping
    ∷ asks_datagram
    ∷ asks_ping
    ∷ asks_datagram
    ∷ delivers_at 2
    ∷ comes_from 9 1
    ∷ []

-- what that is answered
abbrev pub strayed_answers : List Answer
strayed_answers =
    answers.Ping
    ∷ gives_bytes 223
    ∷ answers.Ping
    ∷ gives_bytes 29
    ∷ answers.Ping
    ∷ gives_bytes 29
    ∷ answers.Deliver receives.Taken
    ∷ answers.Deliver receives.Taken
    ∷ []

-- what the first so many of these leave
abbrev pub once_strayed : ℕ → World
once_strayed n = ran_so_far worked_policies both_steady strayed_events strayed_answers n

-- what is seen until the old one came: since a number is missing, an acknowledgement is due at once
abbrev pub before_straying : List View
before_straying = record { client = open_view; server = open_view } ∷ replicate 6 (record { client = sent_view; server = open_view })

-- the run
abbrev pub strayed_run : Run
strayed_run = record {
  keys = worked_policies;
  start = both_steady;
  events = strayed_events;
  answers = strayed_answers;
  views = before_straying ++ record { client = sent_view; server = open_view } ∷ [];
  from_client = client_datagram 0 0 (0x01 ∷ ids_payload) ∷ client_datagram 1 0 ping_payload ∷ client_datagram 2 0 ping_payload ∷ [];
  from_server = [];
}

-- a server that takes its peer to be where the old one came from
abbrev pub migrates_back : Run
migrates_back = record strayed_run {
  views = before_straying ++ record { client = sent_view; server = far_view None None } ∷ [];
}

-- ---- a packet that only probes

-- both ends, where the client's peer isn't known to receive at its address
abbrev pub far_client : World
far_client = with_client both_steady (new_end Client plain_settings steady (parameters_of plain_settings) client_id server_id 0 0 false (λ n. 63))

-- 400 bytes come to the client, so that it asks its peer to answer; that comes to the server from
-- address 9, which is asked for a datagram
abbrev pub probing_events : List RunEvent
probing_events = injects_from Client 0 (replicate 400 0x00) ∷ asks_datagram ∷ comes_from 9 0 ∷ asks_server ∷ []

-- what that is answered
abbrev pub probing_answers : List Answer
probing_answers = no_fixed_bit ∷ gives_bytes 1200 ∷ answers.Deliver receives.Taken ∷ gives_bytes 227 ∷ []

-- what the first so many of these leave
abbrev pub once_probing : ℕ → World
once_probing n = ran_so_far worked_policies far_client probing_events probing_answers n

-- PATH_CHALLENGE, the client's ids, and PADDING up to 1200 bytes in all
abbrev pub probing_payload : List ℕ
probing_payload = (0x1a ∷ id_word) ++ told_ids (replicate 969 0x00)

-- what the server takes of that
abbrev pub probing_packet : Packet
probing_packet = record { number = 0; frames = path_challenge id_word ∷ behind_ids (replicate 969 padding) }

-- what is seen until it went
abbrev pub before_probing : List View
before_probing =
    record { client = far_view None None; server = open_view }
    ∷ record { client = far_view (Some 1024000000) None; server = open_view }
    ∷ []

-- the run: the server's datagram goes to address 0, and has no PATH_RESPONSE
abbrev pub probing_run : Run
probing_run = record {
  keys = worked_policies;
  start = far_client;
  events = probing_events;
  answers = probing_answers;
  views =
      before_probing
      ++ record { client = far_view (Some 1024000000) None; server = waiting_view }
      ∷ record { client = far_view (Some 1024000000) None; server = sent_view }
      ∷ [];
  from_client = client_datagram 0 0 probing_payload ∷ [];
  from_server = from_server 0 (told_ids ack_at_once) ∷ [];
}

-- a server that takes its peer to be there
abbrev pub migrates_for_a_probe : Run
migrates_for_a_probe = record probing_run {
  events = take 3 probing_events;
  answers = take 3 probing_answers;
  views = before_probing ++ record { client = far_view (Some 1024000000) None; server = far_view None (Some 25000000) } ∷ [];
  from_server = [];
}
