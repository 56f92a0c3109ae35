-- A run in which a client looks for a larger size of datagrams (RFC 8899, section 5.3; RFC 9000,
-- section 14.3): once it has told its ids it gives a probe of 1326 bytes, which alone comes to the
-- server; that acknowledges it after 25 ms, the client takes the acknowledgement, and its datagrams
-- may have as many bytes from then on.
use Rattle.std.specs.Prelude.{ℕ, true, false, List, [], ◌∷◌, replicate, Some, None, Ok}
use Rattle.quic_wire_core.specs.declared.stream_id.Side.TheVariants.{Client, Server}
use Rattle.quic_time.specs.Rtt.{assumed_rtt}
use Rattle.quic_wire.specs.Value.{ping, padding}
use Rattle.quic_congestion.specs.Congestion as congestion
use Rattle.quic_machine.specs.declared.answers.Received.TheVariants as receives
use Rattle.quic_machine.specs.declared.run.RunEvent.{RunEvent}
use Rattle.quic_machine.specs.declared.run.Answer.{Answer}
use Rattle.quic_machine.specs.declared.run.Answer.TheVariants as answers
use Rattle.quic_machine.specs.declared.run.EndView.{EndView}
use Rattle.quic_machine.specs.declared.run.View.{View}
use Rattle.quic_machine.specs.Machine.{World}
use Rattle.quic_headline.specs.Runs.{Run}
use Rattle.quic_headline.specs.Observer.{Sent}
use Rattle.quic_worked.specs.Worked.{ran_so_far, worked_policies, started, with_client, gives_bytes, server_id, ids_payload, view_with, server_open, client_id, steady}
use Rattle.quic_worked.specs.Acknowledged.{client_acked, client_datagram, from_server}
use Rattle.quic_worked.specs.Timed.{serves, asks_at, comes_at, seen_with}
use Rattle.quic_worked.specs.Measured.{ack_of_first}
use Rattle.quic_worked.specs.Messages.{comes_to_server}
use Rattle.quic_worked.specs.Settings.{search_settings, plain_settings}
use Rattle.quic_machine.specs.End.{new_end}
use Rattle.quic_config.specs.Transport.{parameters_of}

-- ---- the run

-- both ends, of which the client looks for a larger size
abbrev pub searched_start : World
searched_start = with_client started (new_end Client search_settings steady (parameters_of plain_settings) client_id server_id 0 0 true (λ n. 63))

-- the client is asked for a datagram, and tells its ids; it is asked once more, and nothing waits;
-- its probe comes to the server, which is asked for its acknowledgement after 25 ms; that comes to
-- the client
abbrev pub searched_events : List RunEvent
searched_events =
    asks_at Client 0
    ∷ asks_at Client 0
    ∷ comes_to_server 10000000 1
    ∷ serves Server 35000000
    ∷ asks_at Server 35000000
    ∷ comes_at Client 40000000
    ∷ []

-- what that is answered
abbrev pub searched_answers : List Answer
searched_answers =
    gives_bytes 222
    ∷ gives_bytes 1326
    ∷ answers.Deliver receives.Taken
    ∷ answers.Timeout (Ok tt)
    ∷ gives_bytes 32
    ∷ answers.Deliver receives.Taken
    ∷ []

-- what the first so many of these leave
unfoldable pub once_searched : ℕ → World
unfolding client_acked
once_searched n = ran_so_far worked_policies searched_start searched_events searched_answers n

-- PING, and PADDING up to the size
abbrev pub size_payload : List ℕ
size_payload = 0x01 ∷ replicate 1299 0x00

-- the probe as it was sent
abbrev pub size_sent : Sent
size_sent = record { id = server_id; number = 1; reference = 0; frames = ping ∷ replicate 1299 padding; moment = 0; size = 1326; generation = 0 }

-- what the client's controller is told: its ids went, and the probe; that was acknowledged after 40
-- ms, before which a round trip was taken to last 333 ms; the size is that of the probe from then
-- on; and the ids are in flight
abbrev pub told_of_size : List congestion.Told
told_of_size =
    congestion.Sent 0 222 0
    ∷ congestion.Sent 0 1326 1
    ∷ congestion.Acked 40000000 0 1326 false (assumed_rtt 333000000)
    ∷ congestion.Resized 1326
    ∷ congestion.AcksEnded 40000000 222 false (Some 1)
    ∷ []

-- what is seen of a client with the larger size: what it gave before the probe counts as lost once
-- nine eighths of the round trip have passed
abbrev pub larger_view : EndView
larger_view = record (view_with (Some 45000000) None) { current_mtu = 1326 }

-- and of both ends then
abbrev pub found_view : View
found_view = record { client = larger_view; server = server_open }

-- the run: once the acknowledgement came, the client shows the larger size
abbrev pub searched_run : Run
searched_run = record {
  keys = worked_policies;
  start = searched_start;
  events = searched_events;
  answers = searched_answers;
  views =
      seen_with (Some 1024000000) None
      ∷ seen_with (Some 1024000000) None
      ∷ seen_with (Some 1024000000) (Some 35000000)
      ∷ seen_with (Some 1024000000) None
      ∷ seen_with (Some 1024000000) None
      ∷ found_view
      ∷ [];
  from_client = client_datagram 0 0 ids_payload ∷ client_datagram 1 0 size_payload ∷ [];
  from_server = from_server 0 ack_of_first ∷ [];
}
