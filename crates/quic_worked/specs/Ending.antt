-- A run in which the client's application closes it: its close goes, and once more behind a
-- datagram that came; the server takes it, and the client is drained when the timer of its close
-- expires (RFC 9000, section 10.2). And the same run as machines with a bug answer it, show it, or
-- give their datagrams.
use Rattle.std.specs.Prelude.{ℕ, List, [], ◌∷◌, ◌++◌, replicate, take, Option, Some, None, Ok}
use Rattle.quic_wire_core.specs.declared.stream_id.Side.TheVariants.{Client, Server}
use Rattle.quic_wire.specs.Close.{CloseValue, by_transport, by_application, transport_close}
use Rattle.quic_wire.specs.Value.{FrameValue, ApplicationCloseValue, connection_close, application_close}
use Rattle.quic_machine.specs.declared.answers.LostReason.TheVariants as reasons
use Rattle.quic_machine.specs.declared.answers.Received.TheVariants as receives
use Rattle.quic_machine.specs.declared.answers.DropReason.TheVariants as drops
use Rattle.quic_machine.specs.declared.run.RunEvent.{RunEvent}
use Rattle.quic_machine.specs.declared.run.CloseCall.{CloseCall}
use Rattle.quic_machine.specs.declared.run.Call.TheVariants as calls
use Rattle.quic_machine.specs.declared.run.Answer.{Answer}
use Rattle.quic_machine.specs.declared.run.Answer.TheVariants as answers
use Rattle.quic_machine.specs.declared.run.EndView.{EndView}
use Rattle.quic_machine.specs.declared.run.View.{View}
use Rattle.quic_machine.specs.Machine.{World}
use Rattle.quic_headline.specs.Runs.{Run}
use Rattle.quic_headline.specs.Observer.{Sent}
use Rattle.quic_worked.specs.Worked.{after_event, ran_so_far, steady_window, worked_policies, server_id, both_steady, once_taken, from_client, hello, delivery, asks_datagram, gives_bytes, open_view, sent_view, ids_payload}
use Rattle.quic_worked.specs.Acknowledged.{from_server}
use Rattle.quic_worked.specs.Broken.{hellp}
use Rattle.quic_worked.specs.Paired.{asks_server}
use Rattle.quic_worked.specs.Timed.{serves, asks_at, comes_at}
use Rattle.quic_worked.specs.Held.{gives_nothing}
use Rattle.quic_worked.specs.Ended.{drained_view, close_read, closing_view, closing_run}

-- ---- the machine's run

-- how the client's application closes: after a second, with a code and a text
abbrev pub close_call : CloseCall
close_call = record { now = 1000000000; error_code = 7; reason = hello }

-- it does
abbrev pub closes_late : RunEvent
closes_late = record { side = Client; call = calls.Close close_call }

-- the client's second datagram comes to the server, which is its first close
abbrev pub close_comes : RunEvent
close_comes = record { side = Server; call = calls.Deliver (record delivery { now = 2000000000; index = 1 }) }

-- both ends tell their ids, the client closes, and gives its close; the server's datagram comes,
-- and the close goes again; the server takes the first, and three probe timeouts of 1024 ms behind
-- the moment at which it closed the client is drained
abbrev pub ending_events : List RunEvent
ending_events =
    asks_server
    ∷ asks_datagram
    ∷ closes_late
    ∷ asks_at Client 1000000000
    ∷ comes_at Client 2000000000
    ∷ asks_at Client 2000000000
    ∷ close_comes
    ∷ serves Client 4072000000
    ∷ asks_at Client 4072000000
    ∷ []

-- what that is answered
abbrev pub ending_answers : List Answer
ending_answers =
    gives_bytes 222
    ∷ gives_bytes 222
    ∷ answers.Close
    ∷ gives_bytes 34
    ∷ answers.Deliver (receives.Dropped drops.Closing)
    ∷ gives_bytes 34
    ∷ answers.Deliver receives.Taken
    ∷ answers.Timeout (Ok tt)
    ∷ gives_nothing
    ∷ []

-- what the first so many of these leave
unfoldable pub once_ending : ℕ → World
unfolding once_taken
once_ending n = ran_so_far worked_policies both_steady ending_events ending_answers n

-- the timer of the client's close expires
unfoldable pub once_drained : World
unfolding once_ending
once_drained = after_event worked_policies (once_ending 7) (serves Client 4072000000) (answers.Timeout (Ok tt))

-- and nothing goes
unfoldable pub once_silent : World
unfolding once_drained
once_silent = after_event worked_policies once_drained (asks_at Client 4072000000) gives_nothing

-- CONNECTION_CLOSE of an application with this code and a text of five bytes (RFC 9000, section
-- 19.19)
abbrev pub text_payload : ℕ → List ℕ → List ℕ
text_payload code text = 0x1d ∷ code ∷ 0x05 ∷ text

-- what the client says
abbrev pub close_said : ApplicationCloseValue
close_said = record { code = 7; reason = hello }

-- and how it is written
abbrev pub said_payload : List ℕ
said_payload = text_payload 7 hello

-- what is seen of the client that its application closed, where its timers are set so
abbrev pub closing_with : List (Option ℕ) → EndView
closing_with timers = record closing_view { timers = timers }

-- where that of its close alone is set to a moment
abbrev pub closing_until : ℕ → EndView
closing_until moment = closing_with (replicate 2 None ++ Some moment ∷ replicate 6 None)

-- once that expired
abbrev pub client_drained : EndView
client_drained = drained_view steady_window reasons.Application

-- what is seen of the server once it took the close
abbrev pub server_drained : EndView
server_drained = drained_view steady_window (reasons.Peer (by_application close_said))

-- both ends, where the client is seen so, and the server waits for an acknowledgement
abbrev pub server_waits : EndView → View
server_waits client = record { client = client; server = sent_view }

-- and where the server is drained
abbrev pub server_ended : EndView → View
server_ended client = record { client = client; server = server_drained }

-- what is seen of both
abbrev pub ending_views : List View
ending_views =
    server_waits open_view
    ∷ server_waits sent_view
    ∷ replicate 4 (server_waits (closing_until 4072000000))
    ++ server_ended (closing_until 4072000000)
    ∷ replicate 2 (server_ended client_drained)

-- the client's first datagram
abbrev pub ids_datagram : List ℕ
ids_datagram = from_client 0 ids_payload

-- and its close under a number
abbrev pub said_given : ℕ → List ℕ
said_given number = from_client number said_payload

-- the run
abbrev pub ending_run : Run
ending_run = record {
  keys = worked_policies;
  start = both_steady;
  events = ending_events;
  answers = ending_answers;
  views = ending_views;
  from_client = ids_datagram ∷ said_given 1 ∷ said_given 2 ∷ [];
  from_server = from_server 0 ids_payload ∷ [];
}

-- the client's close as it was sent under a number
abbrev pub close_sent : ℕ → Sent
close_sent number = record { id = server_id; number = number; reference = 0; frames = application_close close_said ∷ []; moment = 0; size = 34; generation = 0 }

-- ---- machines with a bug in a timer

-- the client is seen so once its application closed it
abbrev pub closed_as : EndView → Run
closed_as seen = record ending_run {
  events = take 3 ending_events;
  answers = take 3 ending_answers;
  views = take 2 ending_views ++ server_waits seen ∷ [];
  from_client = ids_datagram ∷ [];
}

-- a client that goes on waiting for an acknowledgement, though it closed
abbrev pub keeps_loss_timer : Run
keeps_loss_timer = closed_as (closing_with (Some 1024000000 ∷ None ∷ Some 4072000000 ∷ replicate 6 None))

-- one that is to be closing for two probe timeouts
abbrev pub closes_briefly : Run
closes_briefly = closed_as (closing_until 3048000000)

-- one that reckons from the moment that it had taken over before its application closed it
abbrev pub closes_from_before : Run
closes_from_before = closed_as (closing_until 3072000000)

-- a client whose time of closing begins anew where its close goes again
abbrev pub closes_anew : Run
closes_anew = record ending_run {
  events = take 6 ending_events;
  answers = take 6 ending_answers;
  views = take 5 ending_views ++ server_waits (closing_until 5072000000) ∷ [];
}

-- a client that is drained once its close went
abbrev pub drains_at_once : Run
drains_at_once = record ending_run {
  events = take 4 ending_events;
  answers = take 4 ending_answers;
  views = take 3 ending_views ++ server_waits client_drained ∷ [];
  from_client = ids_datagram ∷ said_given 1 ∷ [];
}

-- a client that is closing for ever
abbrev pub never_drains : Run
never_drains = record ending_run {
  events = take 8 ending_events;
  answers = take 8 ending_answers;
  views = take 7 ending_views ++ server_ended (closing_until 4072000000) ∷ [];
}

-- ---- machines that say something else

-- the client's close has this payload
abbrev pub said_as : List ℕ → Run
said_as payload = record ending_run {
  events = take 4 ending_events;
  answers = take 4 ending_answers;
  views = take 4 ending_views;
  from_client = ids_datagram ∷ from_client 1 payload ∷ [];
}

-- a client that says another code than its application
abbrev pub other_code : Run
other_code = said_as (text_payload 8 hello)

-- one that changes the last byte of the text
abbrev pub other_text : Run
other_text = said_as (text_payload 7 hellp)

-- a server that shows another code than came
abbrev pub other_peer : Run
other_peer = record closing_run { views = take 2 closing_run.views ++ record { client = closing_view; server = drained_view 1199 (reasons.Peer (close_read 8)) } ∷ [] }

-- a close of QUIC that names the frame at fault by its type, or none where that is 0
abbrev pub names_frame : ℕ → FrameValue
names_frame ty = connection_close (record { code = 7; frame_type = ty; reason = [] })

-- what is told of one, with the type of that frame where there is one
abbrev pub told_frame : Option ℕ → CloseValue
told_frame ty = by_transport (transport_close 7 ty [])

-- ---- machines that say it too often, or too seldom

-- a client that gives its close at each poll
abbrev pub closes_twice : Run
closes_twice = record ending_run {
  events = take 4 ending_events ++ asks_at Client 1000000000 ∷ [];
  answers = take 4 ending_answers ++ gives_bytes 34 ∷ [];
  views = take 4 ending_views ++ server_waits (closing_until 4072000000) ∷ [];
}

-- a client that gives it once
abbrev pub closes_once : Run
closes_once = record ending_run {
  events = take 6 ending_events;
  answers = take 5 ending_answers ++ gives_nothing ∷ [];
  views = take 6 ending_views;
  from_client = ids_datagram ∷ said_given 1 ∷ [];
}

-- a drained client that gives it once more
abbrev pub closes_drained : Run
closes_drained = record ending_run {
  answers = take 8 ending_answers ++ gives_bytes 34 ∷ [];
  from_client = ending_run.from_client ++ said_given 3 ∷ [];
}
