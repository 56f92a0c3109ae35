-- A run on a path that marks each datagram with CE, both ways: a PING is acknowledged at once, and
-- so is the ACK frame, as it newly acknowledges what asks; what acknowledges that is answered by
-- nothing, and both ends come to rest. And the run of a server that answers it too, and one at which
-- an ACK frame is due for it.
use Rattle.std.specs.Prelude.{false, ℕ, true, List, [], ◌∷◌, ◌++◌, replicate, take, Some, None}
use Rattle.quic_wire_core.specs.declared.shared.EcnCodepoint.TheVariants.{Ce}
use Rattle.quic_wire_core.specs.declared.stream_id.Side.TheVariants.{Client, Server}
use Rattle.quic_wire.specs.AckReading.{ecn_at}
use Rattle.quic_wire.specs.Value.{ack}
use Rattle.quic_machine.specs.declared.answers.Received.TheVariants as receives
use Rattle.quic_machine.specs.declared.run.RunEvent.{RunEvent}
use Rattle.quic_machine.specs.declared.run.Call.TheVariants as calls
use Rattle.quic_machine.specs.declared.run.Answer.{Answer}
use Rattle.quic_machine.specs.declared.run.Answer.TheVariants as answers
use Rattle.quic_machine.specs.declared.run.View.{View}
use Rattle.quic_machine.specs.End.{End}
use Rattle.quic_machine.specs.Machine.{World}
use Rattle.quic_headline.specs.Runs.{Run}
use Rattle.quic_headline.specs.Observer.{Sent}
use Rattle.quic_headline.specs.Begins.{Seen, seen_at}
use Rattle.quic_worked.specs.Worked.{ran_so_far, worked_policies, started, with_server, delivery, asks_datagram, gives_bytes, client_id}
use Rattle.quic_worked.specs.Acknowledged.{client_datagram, from_server}
use Rattle.quic_worked.specs.Paired.{asks_server}
use Rattle.quic_worked.specs.Timed.{seen_with}
use Rattle.quic_worked.specs.Held.{gives_nothing}
use Rattle.quic_worked.specs.Hasty.{pings, marked_events, answers_marked, once_marked, ack_of_marked}

-- the server's ACK frame comes marked
abbrev pub ack_comes : RunEvent
ack_comes = record { side = Client; call = calls.Deliver (record delivery { ecn = Some Ce }) }

-- and so does the client's
abbrev pub answer_comes : RunEvent
answer_comes = record { side = Server; call = calls.Deliver (record delivery { ecn = Some Ce; index = 1 }) }

-- how both come to rest behind the server's ACK frame: it comes to the client, which is asked for a
-- datagram; that comes to the server, and both are asked once more
abbrev pub calm_events : List RunEvent
calm_events = ack_comes ∷ asks_datagram ∷ answer_comes ∷ asks_server ∷ asks_datagram ∷ []

-- what that is answered
abbrev pub calm_answers : List Answer
calm_answers = answers.Deliver receives.Taken ∷ gives_bytes 34 ∷ answers.Deliver receives.Taken ∷ gives_nothing ∷ gives_nothing ∷ []

-- what the first so many of these leave
unfoldable pub once_calm : ℕ → World
unfolding once_marked ecn_at
once_calm n = ran_so_far worked_policies (once_marked 4) calm_events calm_answers n

-- the views of so many of these: the client waits for its PING until the ACK frame comes, and no
-- other timer is set
abbrev pub calm_views : ℕ → List View
calm_views count = seen_with None None ∷ replicate 3 (seen_with (Some 1024000000) None) ++ replicate count (seen_with None None)

-- the datagrams of the client: the PING, and an ACK frame that tells of one CE
abbrev pub calm_client : List (List ℕ)
calm_client = pings 1 ++ client_datagram 1 0 ack_of_marked ∷ []

-- the run
abbrev pub calm_run : Run
calm_run = record {
  keys = worked_policies;
  start = started;
  events = marked_events ++ calm_events;
  answers = answers_marked (gives_bytes 34) ++ calm_answers;
  views = calm_views 5;
  from_client = calm_client;
  from_server = from_server 0 ack_of_marked ∷ [];
}

-- ---- a server that answers each ACK frame with CE

-- ACK of number 1, at once, which tells of two CE
abbrev pub ack_of_ack : List ℕ
ack_of_ack = 0x03 ∷ 0x01 ∷ 0x00 ∷ 0x00 ∷ 0x00 ∷ 0x00 ∷ 0x00 ∷ 0x02 ∷ []

-- the client's acknowledgement is acknowledged
abbrev pub echo_run : Run
echo_run = record {
  keys = worked_policies;
  start = started;
  events = marked_events ++ take 4 calm_events;
  answers = answers_marked (gives_bytes 34) ++ answers.Deliver receives.Taken ∷ gives_bytes 34 ∷ answers.Deliver receives.Taken ∷ gives_bytes 34 ∷ [];
  views = calm_views 4;
  from_client = calm_client;
  from_server = from_server 0 ack_of_marked ∷ from_server 1 ack_of_ack ∷ [];
}

-- what it gives there
abbrev pub echo_sent : Sent
echo_sent = record { id = client_id; number = 1; reference = 0; frames = ack (record { largest = 1; delay = 0; ranges = (1, 1) ∷ []; ecn = Some (0, 0, 2) }) ∷ []; moment = 0; size = 34; generation = 0 }

-- the client's ACK frame comes to the server
abbrev pub answering_seen : Seen
answering_seen = seen_at calm_run (λ n. false) Server 6 answer_comes.call (answers.Deliver receives.Taken)

-- and another one is due behind it
abbrev pub due_for_ack : World
due_for_ack = with_server (once_calm 3) (let e : End = (once_calm 3).server in record e { acknowledging = record e.acknowledging { due = true } })
