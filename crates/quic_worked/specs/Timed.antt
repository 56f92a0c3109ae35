-- A run in which timers expire: the client's datagram isn't acknowledged for 1024 ms, and a probe
-- goes; then the server takes the datagram, and acknowledges it 25 ms later. And the same run as
-- machines with a bug show it. And a client that is told of a round trip that was measured before.
use Rattle.std.specs.Prelude.{ℕ, true, List, [], ◌∷◌, ◌++◌, replicate, take, Option, Some, None, Ok}
use Rattle.quic_wire_core.specs.declared.stream_id.Side.{Side}
use Rattle.quic_wire_core.specs.declared.stream_id.Side.TheVariants.{Client, Server}
use Rattle.quic_time.specs.declared.timer.Timer.TheVariants.{LossDetection}
use Rattle.quic_machine.specs.declared.answers.Received.TheVariants as receives
use Rattle.quic_machine.specs.declared.run.RunEvent.{RunEvent}
use Rattle.quic_machine.specs.declared.run.Call.TheVariants as calls
use Rattle.quic_machine.specs.declared.run.Answer.{Answer}
use Rattle.quic_machine.specs.declared.run.Answer.TheVariants as answers
use Rattle.quic_machine.specs.declared.run.View.{View}
use Rattle.quic_config.specs.Transport.{Settings, parameters_of}
use Rattle.quic_machine.specs.End.{new_end}
use Rattle.quic_machine.specs.Machine.{World, Follows}
use Rattle.quic_headline.specs.Runs.{Run}
use Rattle.quic_headline.specs.Observer.{loss_due, watch}
use Rattle.quic_worked.specs.Settings.{plain_settings}
use Rattle.quic_worked.specs.Worked.{after_event, ran, steady, client_id, server_id, worked_policies, started, delivery, once_sent, sending_events, sending_answers, gives_bytes, hello_datagram, open_view, sent_view, view_with, ids_payload, server_with, server_open}
use Rattle.quic_worked.specs.Acknowledged.{ack_payload, client_datagram, client_acked, from_server}

-- an end's timers are served at a moment
abbrev pub serves : Side → ℕ → RunEvent
serves side now = record { side = side; call = calls.Timeout now }

-- an end is asked for a datagram at a moment
abbrev pub asks_at : Side → ℕ → RunEvent
asks_at side now = record { side = side; call = calls.Poll now }

-- the first datagram of its peer comes to an end at a moment
abbrev pub comes_at : Side → ℕ → RunEvent
comes_at side now = record { side = side; call = calls.Deliver (record delivery { now = now }) }

-- the probe: the ids, which the datagram in flight told
abbrev pub probe : List ℕ
probe = client_datagram 1 0 ids_payload

-- what comes behind the datagram that is given at moment 0
abbrev pub later_events : List RunEvent
later_events =
    serves Client 1024000000
    ∷ asks_at Client 1024000000
    ∷ comes_at Server 1030000000
    ∷ serves Server 1055000000
    ∷ asks_at Server 1055000000
    ∷ comes_at Client 1060000000
    ∷ []

-- what it is answered
abbrev pub later_answers : List Answer
later_answers =
    answers.Timeout (Ok tt)
    ∷ gives_bytes 222
    ∷ answers.Deliver receives.Taken
    ∷ answers.Timeout (Ok tt)
    ∷ gives_bytes 32
    ∷ answers.Deliver receives.Taken
    ∷ []

-- what the first so many of these leave
unfoldable pub once_later : ℕ → World
unfolding client_acked
once_later n = ran worked_policies once_sent (take n later_events) (take n later_answers)

-- what is seen where the client's loss timer and the server's timer of acknowledgements are set so
abbrev pub seen_with : Option ℕ → Option ℕ → View
seen_with loss moment = record { client = view_with loss None; server = server_with moment }

-- the views, where the client shows its loss timer set to these moments once it expired, once the
-- probe went, and once one datagram was acknowledged; and the server shows its timer so
abbrev pub views_with : ℕ → ℕ → ℕ → ℕ → List View
views_with expired probed answered due =
    replicate 3 (record { client = open_view; server = server_open })
    ++ seen_with (Some 1024000000) None
    ∷ seen_with (Some expired) None
    ∷ seen_with (Some probed) None
    ∷ seen_with (Some probed) (Some due)
    ∷ seen_with (Some probed) None
    ∷ seen_with (Some probed) None
    ∷ seen_with (Some answered) None
    ∷ []

-- the run with these views
abbrev pub run_seen : List View → Run
run_seen views = record {
  keys = worked_policies;
  start = started;
  events = sending_events ++ later_events;
  answers = sending_answers ++ later_answers;
  views = views;
  from_client = hello_datagram ∷ probe ∷ [];
  from_server = from_server 0 ack_payload ∷ [];
}

-- the run: the wait doubles once the timer expired, and no longer once a datagram was acknowledged.
-- That took 1060 ms, the first round trip that is measured: half of it is its variation, so the
-- probe, which went at 1024 ms, is waited for during 1060 ms, four times 530 ms, and 25 ms
abbrev pub timed_run : Run
timed_run = run_seen (views_with 2048000000 3072000000 4229000000 1055000000)

-- a client that never waits longer
abbrev pub never_backs_off : Run
never_backs_off = run_seen (views_with 1024000000 2048000000 4229000000 1055000000)

-- a client that waits twice as long also behind the acknowledgement
abbrev pub never_resets : Run
never_resets = run_seen (views_with 2048000000 3072000000 7434000000 1055000000)

-- a client that never measures a round trip, and waits for 1024 ms again
abbrev pub never_measures : Run
never_measures = run_seen (views_with 2048000000 3072000000 2048000000 1055000000)

-- a server that waits 25 ms twice
abbrev pub waits_twice : Run
waits_twice = run_seen (views_with 2048000000 3072000000 4229000000 1080000000)

-- when the loss timer of an end is to expire behind so many answers, as an observer reckons it
abbrev pub due_at : Run → Side → ℕ → Option ℕ
due_at r side i = loss_due (watch r side i).flight

-- the machine never shows these views
abbrev pub NeverShows : Run → Type 0
NeverShows r = (end : World) → Follows r.keys r.start r.events r.answers r.views end → ⊥

-- ---- timers that are asked for

-- the client is asked when its timer of losses expires
abbrev pub asks_loss : RunEvent
asks_loss = record { side = Client; call = calls.Timer LossDetection }

-- and when the next one does
abbrev pub asks_next : RunEvent
asks_next = record { side = Client; call = calls.NextTimeout }

-- the client gives its datagram, and answers so
abbrev pub asking_run : Option ℕ → Option ℕ → Run
asking_run loss next = record {
  keys = worked_policies;
  start = started;
  events = sending_events ++ asks_loss ∷ asks_next ∷ [];
  answers = sending_answers ++ answers.Timer loss ∷ answers.NextTimeout next ∷ [];
  views = replicate 3 (record { client = open_view; server = server_open }) ++ replicate 3 (record { client = sent_view; server = server_open });
  from_client = hello_datagram ∷ [];
  from_server = [];
}

-- ---- a first sample

-- a round trip of 100 ms was measured before the connection begins, which varies by 20 ms
abbrev pub sampled_settings : Settings
sampled_settings = record plain_settings { first_sample = Some (record { rtt = 100000000; variation = 20000000 }) }

-- both ends, before anything was given, of which the client was told so
abbrev pub sampled_start : World
sampled_start = record started { client = new_end Client sampled_settings steady (parameters_of plain_settings) client_id server_id 0 0 true (λ n. 63) }

-- the client gave its datagram
unfoldable pub once_sampled : World
unfolding client_acked
once_sampled = after_event worked_policies sampled_start (asks_at Client 0) (gives_bytes 222)

-- the run, where the client's loss timer shows this
abbrev pub sampled_until : ℕ → Run
sampled_until due = record {
  keys = worked_policies;
  start = sampled_start;
  events = asks_at Client 0 ∷ [];
  answers = gives_bytes 222 ∷ [];
  views = seen_with (Some due) None ∷ [];
  from_client = client_datagram 0 0 ids_payload ∷ [];
  from_server = [];
}

-- the round trip that was measured, four times its variation, and 25 ms
abbrev pub sampled_run : Run
sampled_run = sampled_until 205000000

-- a client that assumes a round trip all the same
abbrev pub unsampled_run : Run
unsampled_run = sampled_until 1024000000
