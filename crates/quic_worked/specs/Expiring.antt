-- Runs in which timers expire that wait for no acknowledgement: a server asks its peer anew whether
-- it receives, since no answer comes (RFC 9000, section 8.2.4), and a client that keeps its
-- connection alive is without a packet for ten seconds (section 10.1.2). And the same runs as
-- machines with a bug show them.
use Rattle.std.specs.Prelude.{ℕ, true, false, List, [], ◌∷◌, ◌++◌, replicate, Option, Some, None, Ok}
use Rattle.quic_wire_core.specs.declared.stream_id.Side.TheVariants.{Client, Server}
use Rattle.quic_config.specs.Transport.{Settings, parameters_of}
use Rattle.quic_machine.specs.declared.run.RunEvent.{RunEvent}
use Rattle.quic_machine.specs.declared.run.Answer.{Answer}
use Rattle.quic_machine.specs.declared.run.Answer.TheVariants as answers
use Rattle.quic_machine.specs.declared.run.View.{View}
use Rattle.quic_machine.specs.End.{new_end}
use Rattle.quic_machine.specs.Machine.{World}
use Rattle.quic_headline.specs.Runs.{Run}
use Rattle.quic_worked.specs.Settings.{plain_settings}
use Rattle.quic_worked.specs.Worked.{ran_so_far, steady, worked_policies, client_id, server_id, both_steady, with_client, once_taken, from_client, asks_datagram, gives_bytes, open_view, ids_payload}
use Rattle.quic_worked.specs.Timed.{serves}
use Rattle.quic_worked.specs.Unvalidated.{far_start, answered_with}

-- ---- a challenge that isn't answered

-- the server's timers are served before its timer of path validation expires, and when it does:
-- three probe timeouts of 1024 ms behind the beginning
abbrev pub renewing_events : List RunEvent
renewing_events = serves Server 3000000000 ∷ serves Server 3072000000 ∷ []

-- what that is answered
abbrev pub renewing_answers : List Answer
renewing_answers = answers.Timeout (Ok tt) ∷ answers.Timeout (Ok tt) ∷ []

-- what the first so many of these leave
unfoldable pub once_renewed : ℕ → World
once_renewed n = ran_so_far worked_policies far_start renewing_events renewing_answers n

-- what is seen where the server, to which its peer's address isn't validated, asks anew at this
-- moment
abbrev pub renewing_view : Option ℕ → View
renewing_view due = record { client = open_view; server = record open_view { validated = false; timers = replicate 4 None ++ due ∷ replicate 4 None } }

-- the run, where the timer shows this once it expired
abbrev pub renewed_with : Option ℕ → Run
renewed_with due = record {
  keys = worked_policies;
  start = far_start;
  events = renewing_events;
  answers = renewing_answers;
  views = renewing_view (Some 3072000000) ∷ renewing_view due ∷ [];
  from_client = [];
  from_server = [];
}

-- the server waits for an answer as long as before
abbrev pub renewed_run : Run
renewed_run = renewed_with (Some 6144000000)

-- a server that asks once
abbrev pub never_renews : Run
never_renews = renewed_with None

-- a server that waits for one probe timeout once it asked anew
abbrev pub renews_early : Run
renews_early = renewed_with (Some 4096000000)

-- a server that would ask anew though its peer answered, and the address is validated
abbrev pub renews_answered : Run
renews_answered = answered_with true (record open_view { timers = replicate 4 None ++ Some 3072000000 ∷ replicate 3 None ++ Some 25000000 ∷ [] })

-- ---- a time without a packet

-- a client that is to be without a packet for ten seconds at most
abbrev pub alive_settings : Settings
alive_settings = record plain_settings { keep_alive_interval = Some 10000000000 }

-- both ends, before anything was given
abbrev pub alive_start : World
alive_start = with_client both_steady (new_end Client alive_settings steady (parameters_of plain_settings) client_id server_id 0 0 true (λ n. 63))

-- the client tells its ids, and its timers are served ten seconds later
abbrev pub alive_events : List RunEvent
alive_events = asks_datagram ∷ serves Client 10000000000 ∷ []

-- what that is answered
abbrev pub alive_answers : List Answer
alive_answers = gives_bytes 222 ∷ answers.Timeout (Ok tt) ∷ []

-- what the first so many of these leave
unfoldable pub once_alive : ℕ → World
unfolding once_taken
once_alive n = ran_so_far worked_policies alive_start alive_events alive_answers n

-- what is seen where the client's timers of losses and of keep-alive are set so
abbrev pub alive_view : ℕ → Option ℕ → View
alive_view loss alive = record { client = record open_view { timers = Some loss ∷ replicate 4 None ++ alive ∷ replicate 3 None }; server = open_view }

-- the run, where the timer of keep-alive shows this once it expired; that of losses expired then
-- too, once
abbrev pub alive_with : Option ℕ → Run
alive_with alive = record {
  keys = worked_policies;
  start = alive_start;
  events = alive_events;
  answers = alive_answers;
  views = alive_view 1024000000 (Some 10000000000) ∷ alive_view 2048000000 alive ∷ [];
  from_client = from_client 0 ids_payload ∷ [];
  from_server = [];
}

-- it isn't set before a datagram goes
abbrev pub alive_run : Run
alive_run = alive_with None

-- a client to which that time begins anew once it is over
abbrev pub alive_anew : Run
alive_anew = alive_with (Some 20000000000)
