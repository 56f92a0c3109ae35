-- Runs of machines that count no mark, that give a datagram without PING where it is asked for, or
-- none; and of servers whose timer of acknowledgements is set anew by each packet that asks, or by
-- none.
use Rattle.std.specs.Prelude.{ℕ, List, [], ◌∷◌, ◌++◌, replicate, Option, Some, None}
use Rattle.quic_wire_core.specs.declared.stream_id.Side.TheVariants.{Server}
use Rattle.quic_wire.specs.Value.{ping, ack}
use Rattle.quic_machine.specs.declared.answers.Received.TheVariants as receives
use Rattle.quic_machine.specs.declared.run.RunEvent.{RunEvent}
use Rattle.quic_machine.specs.declared.run.Call.TheVariants as calls
use Rattle.quic_machine.specs.declared.run.Answer.{Answer}
use Rattle.quic_machine.specs.declared.run.Answer.TheVariants as answers
use Rattle.quic_machine.specs.declared.run.View.{View}
use Rattle.quic_machine.specs.Machine.{World}
use Rattle.quic_headline.specs.Runs.{Run}
use Rattle.quic_headline.specs.Observer.{Sent}
use Rattle.quic_worked.specs.Worked.{ran, worked_policies, started, delivery, gives_bytes, client_id, server_id, id_frames, ids_payload}
use Rattle.quic_worked.specs.Acknowledged.{ack_at_once, client_datagram, from_server}
use Rattle.quic_worked.specs.Reordered.{delivers_at}
use Rattle.quic_worked.specs.Losses.{ping_events, ping_answers, first_ping_answers}
use Rattle.quic_worked.specs.Timed.{seen_with}
use Rattle.quic_worked.specs.Held.{gives_nothing}
use Rattle.quic_worked.specs.Hasty.{once_hasty, pings, marked_run, answers_marked}

-- ---- marks

-- the first datagram of the client, which has PING and tells its ids
abbrev pub first_sent : Sent
first_sent = record { id = server_id; number = 0; reference = 0; frames = ping ∷ id_frames; moment = 0; size = 223; generation = 0 }

-- the server's, which acknowledges it, and counts one CE
abbrev pub marked_sent : Sent
marked_sent = record { id = client_id; number = 0; reference = 0; frames = ack (record { largest = 0; delay = 0; ranges = (0, 0) ∷ []; ecn = Some (0, 0, 1) }) ∷ []; moment = 0; size = 34; generation = 0 }

-- the server counts none
abbrev pub mark_uncounted : Run
mark_uncounted = record marked_run {
  answers = answers_marked (gives_bytes 31);
  from_server = from_server 0 ack_at_once ∷ [];
}

-- what it gives
abbrev pub uncounted_sent : Sent
uncounted_sent = record { id = client_id; number = 0; reference = 0; frames = ack (record { largest = 0; delay = 0; ranges = (0, 0) ∷ []; ecn = None }) ∷ []; moment = 0; size = 31; generation = 0 }

-- ---- PING

-- the client is asked for PING, and gives its ids without it
abbrev pub ping_left : Run
ping_left = record {
  keys = worked_policies;
  start = started;
  events = ping_events;
  answers = answers.Ping ∷ gives_bytes 222 ∷ [];
  views = seen_with None None ∷ seen_with (Some 1024000000) None ∷ [];
  from_client = client_datagram 0 0 ids_payload ∷ [];
  from_server = [];
}

-- what it gives
abbrev pub left_sent : Sent
left_sent = record { id = server_id; number = 0; reference = 0; frames = id_frames; moment = 0; size = 222; generation = 0 }

-- the client gives nothing
abbrev pub ping_withheld : Run
ping_withheld = record {
  keys = worked_policies;
  start = started;
  events = ping_events;
  answers = answers.Ping ∷ gives_nothing ∷ [];
  views = replicate 2 (seen_with None None);
  from_client = [];
  from_server = [];
}

-- ---- the timer of acknowledgements

-- the second datagram of the client comes 1 ms behind the first
abbrev pub comes_second : RunEvent
comes_second = record { side = Server; call = calls.Deliver (record delivery { index = 1; now = 1000000 }) }

-- two PINGs of the client go, and both come
abbrev pub twice_events : List RunEvent
twice_events = ping_events ++ ping_events ++ delivers_at 0 ∷ comes_second ∷ []

-- the answers: both are taken
abbrev pub twice_answers : List Answer
twice_answers = first_ping_answers ++ ping_answers ++ answers.Deliver receives.Taken ∷ answers.Deliver receives.Taken ∷ []

-- what it leaves
unfoldable pub once_second : World
unfolding once_hasty
once_second = ran worked_policies (once_hasty 5) (comes_second ∷ []) (answers.Deliver receives.Taken ∷ [])

-- the views, where the server's timer is set so behind it
abbrev pub twice_views : ℕ → List View
twice_views moment =
    seen_with None None
    ∷ replicate 3 (seen_with (Some 1024000000) None)
    ++ seen_with (Some 1024000000) (Some 25000000)
    ∷ seen_with (Some 1024000000) (Some moment)
    ∷ []

-- the run with these views
abbrev pub twice_run : ℕ → Run
twice_run moment = record {
  keys = worked_policies;
  start = started;
  events = twice_events;
  answers = twice_answers;
  views = twice_views moment;
  from_client = pings 2;
  from_server = [];
}

-- the timer is set 25 ms behind the second
abbrev pub timer_moved : Run
timer_moved = twice_run 26000000

-- ---- one packet that asks

-- a PING of the client goes, and comes
abbrev pub single_events : List RunEvent
single_events = ping_events ++ delivers_at 0 ∷ []

-- the answers: it is taken
abbrev pub single_answers : List Answer
single_answers = first_ping_answers ++ answers.Deliver receives.Taken ∷ []

-- what it leaves
unfoldable pub once_single : World
unfolding once_hasty
once_single = ran worked_policies (once_hasty 2) (delivers_at 0 ∷ []) (answers.Deliver receives.Taken ∷ [])

-- the run, where the view shows the server's timer so behind it
abbrev pub single_run : Option ℕ → Run
single_run moment = record {
  keys = worked_policies;
  start = started;
  events = single_events;
  answers = single_answers;
  views = seen_with None None ∷ seen_with (Some 1024000000) None ∷ seen_with (Some 1024000000) moment ∷ [];
  from_client = pings 1;
  from_server = [];
}

-- the timer is set 25 ms behind the packet
abbrev pub timer_set : Run
timer_set = single_run (Some 25000000)

-- it isn't set
abbrev pub timer_unset : Run
timer_unset = single_run None
