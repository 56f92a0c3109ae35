-- A run in which an end uses the next id of its peer (RFC 9000, section 5.1.2): the server tells
-- its ids, of which the client takes the first in the place of that with which it began. What it
-- had sent to that one comes late, and is dropped (section 5.2). And machines that take one id for
-- another.
use Rattle.std.specs.Prelude.{ℕ, List, [], ◌∷◌, ◌++◌, take, Some, None, Ok}
use Rattle.quic_wire_core.specs.TransportError.{plain_error}
use Rattle.quic_wire_core.specs.declared.stream_id.Side.TheVariants.{Client}
use Rattle.quic_wire.specs.Value.{ack, retire_connection_id}
use Rattle.quic_packet.specs.Datagram.{sent}
use Rattle.quic_machine.specs.declared.answers.LostReason.TheVariants as reasons
use Rattle.quic_machine.specs.declared.answers.Received.TheVariants as receives
use Rattle.quic_machine.specs.declared.answers.DropReason.TheVariants as drops
use Rattle.quic_machine.specs.declared.run.RunEvent.{RunEvent}
use Rattle.quic_machine.specs.declared.run.Call.TheVariants as calls
use Rattle.quic_machine.specs.declared.run.Answer.{Answer}
use Rattle.quic_machine.specs.declared.run.Answer.TheVariants as answers
use Rattle.quic_machine.specs.Machine.{World}
use Rattle.quic_headline.specs.Runs.{Run, Packet}
use Rattle.quic_headline.specs.Observer.{Sent}
use Rattle.quic_worked.specs.Worked.{ran_so_far, worked_policies, both_steady, server_id, asks_datagram, gives_bytes, open_view, sent_view, view_with, id_word, id_frames, id_payload, ids_payload}
use Rattle.quic_worked.specs.Acknowledged.{client_acked, ack_at_once, ack_of_unsent, client_datagram, from_server}
use Rattle.quic_worked.specs.Paired.{asks_server, client_hears}
use Rattle.quic_worked.specs.Reordered.{delivers_at}
use Rattle.quic_worked.specs.Closed.{closed_view}

-- ---- the run

-- the client uses the next id of its peer
abbrev pub uses_next : RunEvent
uses_next = record { side = Client; call = calls.UseNextId }

-- both ends tell their ids; those of the server come to the client, which uses the next one, and
-- gives a datagram. That comes, and then the client's first one
abbrev pub renaming_events : List RunEvent
renaming_events = asks_datagram ∷ asks_server ∷ client_hears ∷ uses_next ∷ asks_datagram ∷ delivers_at 1 ∷ delivers_at 0 ∷ []

-- what that is answered: the last was sent to an id that the server knows no more
abbrev pub renaming_answers : List Answer
renaming_answers =
    gives_bytes 222
    ∷ gives_bytes 222
    ∷ answers.Deliver receives.Taken
    ∷ answers.UseNextId (Ok tt)
    ∷ gives_bytes 33
    ∷ answers.Deliver receives.Taken
    ∷ answers.Deliver (receives.Dropped drops.UnknownId)
    ∷ []

-- what the first so many of these leave
unfoldable pub once_renamed : ℕ → World
unfolding client_acked
once_renamed n = ran_so_far worked_policies both_steady renaming_events renaming_answers n

-- RETIRE_CONNECTION_ID of number 0 (section 19.16), and an acknowledgement
abbrev pub retiring_payload : List ℕ
retiring_payload = 0x19 ∷ 0x00 ∷ ack_at_once

-- the client's second datagram, with this payload, to an id
abbrev pub second_to : List ℕ → List ℕ → List ℕ
second_to id payload = sent worked_policies.client.header worked_policies.client.packet 1 0 id payload

-- the run, where the second datagram went to an id
abbrev pub renaming_to : List ℕ → Run
renaming_to id = record {
  keys = worked_policies;
  start = both_steady;
  events = renaming_events;
  answers = renaming_answers;
  views =
      record { client = sent_view; server = open_view }
      ∷ record { client = sent_view; server = sent_view }
      ∷ record { client = view_with (Some 1024000000) (Some 25000000); server = sent_view }
      ∷ record { client = view_with (Some 1024000000) (Some 25000000); server = sent_view }
      ∷ record { client = sent_view; server = sent_view }
      ∷ record { client = sent_view; server = view_with None (Some 25000000) }
      ∷ record { client = sent_view; server = view_with None (Some 25000000) }
      ∷ [];
  from_client = client_datagram 0 0 ids_payload ∷ second_to id retiring_payload ∷ [];
  from_server = from_server 0 ids_payload ∷ [];
}

-- it went to the first of the ids that the server told
abbrev pub renaming_run : Run
renaming_run = renaming_to id_word

-- the first datagram as it was sent
abbrev pub ids_sent : Sent
ids_sent = record { id = server_id; number = 0; reference = 0; frames = id_frames; moment = 0; size = 222; generation = 0 }

-- the second, to an id
abbrev pub second_sent : List ℕ → Sent
second_sent id = record {
  id = id;
  number = 1;
  reference = 0;
  frames = retire_connection_id 0 ∷ ack (record { largest = 0; delay = 0; ranges = (0, 0) ∷ []; ecn = None }) ∷ [];
  moment = 0;
  size = 33;
  generation = 0;
}

-- what the client took
abbrev pub ids_packet : Packet
ids_packet = record { number = 0; frames = id_frames }

-- what the server took
abbrev pub retiring_packet : Packet
retiring_packet = record { number = 1; frames = (second_sent id_word).frames }

-- ---- machines that go wrong there

-- a client that goes on using the id that it retires
abbrev pub retired_used : Run
retired_used = renaming_to server_id

-- the second where it says nothing of the first id, and goes there
abbrev pub acking_sent : Sent
acking_sent = record { id = server_id; number = 1; reference = 0; frames = ack (record { largest = 0; delay = 0; ranges = (0, 0) ∷ []; ecn = None }) ∷ []; moment = 0; size = 31; generation = 0 }

-- a client that is told to use the next id, and goes on using the one before it, which it doesn't
-- retire
abbrev pub old_used : Run
old_used = record renaming_run {
  events = take 5 renaming_events;
  answers = take 4 renaming_answers ++ gives_bytes 31 ∷ [];
  views = take 5 renaming_run.views;
  from_client = client_datagram 0 0 ids_payload ∷ second_to server_id ack_at_once ∷ [];
}

-- a server that forgets its first id before it is retired
abbrev pub forgets_early : Run
forgets_early = record renaming_run {
  events = asks_datagram ∷ delivers_at 0 ∷ [];
  answers = gives_bytes 222 ∷ answers.Deliver (receives.Dropped drops.UnknownId) ∷ [];
  views = record { client = sent_view; server = open_view } ∷ record { client = sent_view; server = open_view } ∷ [];
  from_client = client_datagram 0 0 ids_payload ∷ [];
  from_server = [];
}

-- the server's second datagram comes to the client
abbrev pub client_hears_second : RunEvent
client_hears_second = record { side = Client; call = calls.Deliver (record { now = 0; remote = 0; ecn = None; index = 1 }) }

-- two ids more, and an acknowledgement of number 1
abbrev pub two_payload : List ℕ
two_payload = id_payload 8 ++ id_payload 9 ++ ack_of_unsent

-- a server that issues two ids for the one that is retired, so that its peer is told of one more
-- than it takes, and closes by CONNECTION_ID_LIMIT_ERROR (section 5.1.1)
abbrev pub two_issued : Run
two_issued = record renaming_run {
  events = take 6 renaming_events ++ asks_server ∷ client_hears_second ∷ [];
  answers = take 6 renaming_answers ++ gives_bytes 87 ∷ answers.Deliver (receives.Closed (plain_error 9)) ∷ [];
  views =
      take 6 renaming_run.views
      ++ record { client = sent_view; server = view_with (Some 26000000) None }
      ∷ record { client = closed_view (reasons.Transport (plain_error 9)); server = view_with (Some 26000000) None }
      ∷ [];
  from_server = from_server 0 ids_payload ∷ from_server 1 two_payload ∷ [];
}
