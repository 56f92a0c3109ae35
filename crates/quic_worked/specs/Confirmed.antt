-- A run in which the handshake is said to be done (RFC 9001, section 4.1.2): the client's
-- application says so in vain, and so does the server's where it says so again; HANDSHAKE_DONE goes
-- before the server's ids, and the client, which takes it, is told once that the handshake is
-- confirmed; it acknowledges that 25 ms later, and so does the server what the client gave, which
-- has nothing left to give then. And machines that go wrong there.
use Rattle.std.specs.Prelude.{ℕ, false, List, [], ◌∷◌, ◌++◌, replicate, take, Option, Some, None, Ok, Err}
use Rattle.quic_wire_core.specs.declared.stream_id.Side.{Side}
use Rattle.quic_wire_core.specs.declared.stream_id.Side.TheVariants.{Client, Server}
use Rattle.quic_wire.specs.Value.{handshake_done, padding}
use Rattle.quic_machine.specs.declared.answers.Event.TheVariants as events
use Rattle.quic_machine.specs.declared.answers.HandshakeDoneError.{HandshakeDoneError}
use Rattle.quic_machine.specs.declared.answers.HandshakeDoneError.TheVariants as done_errors
use Rattle.quic_machine.specs.declared.answers.Received.TheVariants as receives
use Rattle.quic_machine.specs.declared.run.RunEvent.{RunEvent}
use Rattle.quic_machine.specs.declared.run.Call.TheVariants as calls
use Rattle.quic_machine.specs.declared.run.Answer.{Answer}
use Rattle.quic_machine.specs.declared.run.Answer.TheVariants as answers
use Rattle.quic_machine.specs.declared.run.View.{View}
use Rattle.quic_machine.specs.End.{with_done}
use Rattle.quic_machine.specs.Machine.{World}
use Rattle.quic_headline.specs.Runs.{Run, Packet}
use Rattle.quic_headline.specs.Observer.{Sent}
use Rattle.quic_headline.specs.Begins.{Seen, seen_at}
use Rattle.quic_worked.specs.Worked.{worked_policies, client_id, gives_bytes, gives_unmarked, view_with, with_server, ids_payload, id_frames, ran_so_far}
use Rattle.quic_worked.specs.Acknowledged.{ack_payload, client_acked, from_server, client_datagram}
use Rattle.quic_worked.specs.Paired.{asks_server, client_asks}
use Rattle.quic_worked.specs.Timed.{serves, asks_at, comes_at}
use Rattle.quic_worked.specs.Held.{gives_nothing}
use Rattle.quic_worked.specs.Rested.{roomy_window, rested_start, ack_and_ids}

-- ---- the run

-- an application says that the handshake is done
abbrev pub says_it : Side → RunEvent
says_it side = record { side = side; call = calls.HandshakeDone }

-- it is let
abbrev pub is_said : Answer
is_said = answers.HandshakeDone (Ok tt)

-- it isn't
abbrev pub isnt_said : HandshakeDoneError → Answer
isnt_said error = answers.HandshakeDone (Err error)

-- an application is told that the handshake is confirmed
abbrev pub tells_confirmed : Answer
tells_confirmed = answers.Event (Some events.HandshakeConfirmed)

-- it is told nothing
abbrev pub tells_nothing : Answer
tells_nothing = answers.Event None

-- the events
abbrev pub confirmed_events : List RunEvent
confirmed_events =
    says_it Client
    ∷ says_it Server
    ∷ says_it Server
    ∷ asks_server
    ∷ comes_at Client 10000000
    ∷ client_asks
    ∷ client_asks
    ∷ serves Client 35000000
    ∷ asks_at Client 35000000
    ∷ comes_at Server 40000000
    ∷ serves Server 65000000
    ∷ asks_at Server 65000000
    ∷ asks_at Server 65000000
    ∷ []

-- their answers
abbrev pub confirmed_answers : List Answer
confirmed_answers =
    isnt_said done_errors.Client
    ∷ is_said
    ∷ isnt_said done_errors.Again
    ∷ gives_bytes 223
    ∷ answers.Deliver receives.Taken
    ∷ tells_confirmed
    ∷ tells_nothing
    ∷ answers.Timeout (Ok tt)
    ∷ gives_bytes 228
    ∷ answers.Deliver receives.Taken
    ∷ answers.Timeout (Ok tt)
    ∷ gives_unmarked 32
    ∷ gives_nothing
    ∷ []

-- what the first so many of these leave
unfoldable pub once_confirmed : ℕ → World
unfolding client_acked
once_confirmed n = ran_so_far worked_policies rested_start confirmed_events confirmed_answers n

-- what is seen of both, where the client's timers of losses and of acknowledgements are set so, and
-- then the server's
abbrev pub all_seen : Option ℕ → Option ℕ → Option ℕ → Option ℕ → View
all_seen client_loss client_due server_loss server_due = record { client = record (view_with client_loss client_due) { window = roomy_window }; server = record (view_with server_loss server_due) { window = roomy_window } }

-- no timer is set
abbrev pub unset_view : View
unset_view = all_seen None None None None

-- the server waits for an acknowledgement
abbrev pub sent_view : View
sent_view = all_seen None None (Some 1024000000) None

-- and the client has one to give
abbrev pub heard_view : View
heard_view = all_seen None (Some 35000000) (Some 1024000000) None

-- the server rests, and the client waits for an acknowledgement
abbrev pub resting_view : View
resting_view = all_seen (Some 1059000000) None None None

-- the views
abbrev pub confirmed_views : List View
confirmed_views =
    replicate 3 unset_view
    ++ sent_view
    ∷ replicate 3 heard_view
    ++ sent_view
    ∷ all_seen (Some 1059000000) None (Some 1024000000) None
    ∷ all_seen (Some 1059000000) None None (Some 65000000)
    ∷ replicate 3 resting_view

-- HANDSHAKE_DONE (RFC 9000, section 19.20), and the ids behind it
abbrev pub done_payload : List ℕ
done_payload = 0x1e ∷ ids_payload

-- the datagram that has it
abbrev pub done_datagram : List ℕ
done_datagram = from_server 0 done_payload

-- its packet
abbrev pub done_packet : Packet
done_packet = record { number = 0; frames = handshake_done ∷ id_frames }

-- as it was sent
abbrev pub done_sent : Sent
done_sent = record { id = client_id; number = 0; reference = 0; frames = handshake_done ∷ id_frames; moment = 0; size = 223; generation = 0 }

-- the run
abbrev pub confirmed_run : Run
confirmed_run = record {
  keys = worked_policies;
  start = rested_start;
  events = confirmed_events;
  answers = confirmed_answers;
  views = confirmed_views;
  from_client = client_datagram 0 0 ack_and_ids ∷ [];
  from_server = done_datagram ∷ from_server 1 ack_payload ∷ [];
}

-- the server's application says that the handshake is done
abbrev pub saying_seen : Seen
saying_seen = seen_at confirmed_run (λ n. false) Server 1 calls.HandshakeDone is_said

-- ---- what is answered to the application

-- a run from the same ends, with these events, answers and views, in which the server gives these
-- datagrams, and the client none
abbrev pub doing : List RunEvent → List Answer → List View → List (List ℕ) → Run
doing events told views given = record { keys = worked_policies; start = rested_start; events = events; answers = told; views = views; from_client = []; from_server = given }

-- the server's application says that the handshake is done, and is answered that it was said before
abbrev pub again_at_once : Run
again_at_once = doing (says_it Server ∷ []) (isnt_said done_errors.Again ∷ []) (unset_view ∷ []) []

-- the client's application is told that the handshake is confirmed, though nothing came
abbrev pub told_of_nothing : Run
told_of_nothing = doing (client_asks ∷ []) (tells_confirmed ∷ []) (unset_view ∷ []) []

-- it is told so twice
abbrev pub told_twice : Run
told_twice = doing (take 7 confirmed_events) (take 6 confirmed_answers ++ tells_confirmed ∷ []) (take 7 confirmed_views) (done_datagram ∷ [])

-- it is told nothing, though HANDSHAKE_DONE came
abbrev pub never_told : Run
never_told = doing (take 6 confirmed_events) (take 5 confirmed_answers ++ tells_nothing ∷ []) (take 6 confirmed_views) (done_datagram ∷ [])

-- ---- HANDSHAKE_DONE

-- the server's application says that the handshake is done, and the server gives nothing
abbrev pub forgotten_done : Run
forgotten_done = doing (says_it Server ∷ asks_server ∷ []) (is_said ∷ gives_nothing ∷ []) (unset_view ∷ unset_view ∷ []) []

-- the server forgets behind the call what its application said
abbrev pub forgetting : World
forgetting = with_server (once_confirmed 2) (with_done (once_confirmed 2).server false)

-- the server gives HANDSHAKE_DONE, of which nobody said so
abbrev pub given_unsaid : Run
given_unsaid = doing (asks_server ∷ []) (gives_bytes 223 ∷ []) (sent_view ∷ []) (done_datagram ∷ [])

-- it gives it again in the next poll
abbrev pub given_again : Run
given_again = doing (says_it Server ∷ asks_server ∷ asks_server ∷ []) (is_said ∷ gives_bytes 223 ∷ gives_bytes 29 ∷ []) (unset_view ∷ sent_view ∷ sent_view ∷ []) (done_datagram ∷ from_server 1 (0x1e ∷ 0x00 ∷ 0x00 ∷ []) ∷ [])

-- the second
abbrev pub again_sent : Sent
again_sent = record { id = client_id; number = 1; reference = 0; frames = handshake_done ∷ padding ∷ padding ∷ []; moment = 0; size = 29; generation = 0 }
