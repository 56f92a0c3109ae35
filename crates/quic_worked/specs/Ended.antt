-- Runs in which an end closes for a reason: its application closes it, and its peer takes the
-- close; nothing comes for the idle timeout; its key seals no more. And machines that close for
-- none of these.
use Rattle.std.specs.Prelude.{ℕ, true, false, List, [], ◌∷◌, ◌++◌, replicate, Some, None, Ok}
use Rattle.quic_wire_core.specs.declared.stream_id.Side.TheVariants.{Client, Server}
use Rattle.quic_wire.specs.Close.{CloseValue, by_application}
use Rattle.quic_config.specs.Transport.{Settings, default_settings, parameters_of}
use Rattle.quic_machine.specs.declared.answers.State.TheVariants as states
use Rattle.quic_machine.specs.declared.answers.LostReason.{LostReason}
use Rattle.quic_machine.specs.declared.answers.LostReason.TheVariants as reasons
use Rattle.quic_machine.specs.declared.answers.Received.TheVariants as receives
use Rattle.quic_machine.specs.declared.run.RunEvent.{RunEvent}
use Rattle.quic_machine.specs.declared.run.Call.TheVariants as calls
use Rattle.quic_machine.specs.declared.run.Answer.{Answer}
use Rattle.quic_machine.specs.declared.run.Answer.TheVariants as answers
use Rattle.quic_machine.specs.declared.run.EndView.{EndView}
use Rattle.quic_machine.specs.declared.run.View.{View}
use Rattle.quic_machine.specs.Heard.{nothing_heard}
use Rattle.quic_machine.specs.End.{new_end}
use Rattle.quic_machine.specs.Machine.{World, Policies}
use Rattle.quic_headline.specs.Runs.{Run}
use Rattle.quic_worked.specs.Settings.{plain_settings}
use Rattle.quic_worked.specs.Worked.{ran_so_far, steady_window, shut_window, steady, shut, steady_control, shut_control, worked_parameters, worked_policies, client_id, server_id, started, once_taken, from_client, asks_datagram, delivers, gives_bytes, open_view, sent_view, server_open, ids_payload}
use Rattle.quic_worked.specs.Acknowledged.{from_server, ack_at_once}
use Rattle.quic_worked.specs.Paired.{asks_server}
use Rattle.quic_worked.specs.Timed.{serves}
use Rattle.quic_worked.specs.Held.{gives_nothing}
use Rattle.quic_worked.specs.Closed.{closed_view}

-- what is seen of an end with this window that is drained for a reason
abbrev pub drained_view : ℕ → LostReason → EndView
drained_view window reason = record { state = states.Drained; reason = Some reason; validated = true; timers = replicate 9 None; window = window; current_mtu = 1200 }

-- ---- its application closes it

-- the client's application closes at moment 0 with a code, and says no more
abbrev pub closes_by : ℕ → RunEvent
closes_by code = record { side = Client; call = calls.Close (record { now = 0; error_code = code; reason = [] }) }

-- what the peer reads of it
abbrev pub close_read : ℕ → CloseValue
close_read code = by_application (record { code = code; reason = [] })

-- the client closes, and gives its close, which comes
abbrev pub closing_events : List RunEvent
closing_events = closes_by 7 ∷ asks_datagram ∷ delivers ∷ []

-- what that is answered
abbrev pub closing_answers : List Answer
closing_answers = answers.Close ∷ gives_bytes 29 ∷ answers.Deliver receives.Taken ∷ []

-- what the first so many of these leave
unfoldable pub once_closed : ℕ → World
unfolding once_taken
once_closed n = ran_so_far worked_policies started closing_events closing_answers n

-- CONNECTION_CLOSE of an application with code 7 and no text (RFC 9000, section 19.19)
abbrev pub close_payload : List ℕ
close_payload = 0x1d ∷ 0x07 ∷ 0x00 ∷ []

-- what is seen of the client that its application closed
abbrev pub closing_view : EndView
closing_view = closed_view reasons.Application

-- the run: the client is closing, and the server is drained once it took the close
abbrev pub closing_run : Run
closing_run = record {
  keys = worked_policies;
  start = started;
  events = closing_events;
  answers = closing_answers;
  views =
      replicate 2 (record { client = closing_view; server = server_open })
      ++ record { client = closing_view; server = drained_view shut_window (reasons.Peer (close_read 7)) }
      ∷ [];
  from_client = from_client 0 close_payload ∷ [];
  from_server = [];
}

-- ---- nothing comes for the idle timeout

-- a client without settings of its own but that it looks for no greater size of datagrams, and
-- can't be asked how often to acknowledge: its idle timeout is 30 seconds
abbrev pub idle_settings : Settings
idle_settings = record default_settings { mtu_discovery_config = None; ack_frequency_support = false }

-- what it tells of itself
abbrev pub idle_parameters : List ℕ
idle_parameters = (0x01 ∷ 0x04 ∷ 0x80 ∷ 0x00 ∷ 0x75 ∷ 0x30 ∷ []) ++ worked_parameters

-- both ends, before anything was given
abbrev pub idle_start : World
idle_start = record {
  client = new_end Client idle_settings steady (parameters_of plain_settings) client_id server_id 0 0 true (λ n. 63);
  server = new_end Server plain_settings shut (parameters_of idle_settings) server_id client_id 0 0 true (λ n. 63);
  from_client = [];
  from_server = [];
  client_control = steady_control;
  server_control = shut_control;
  client_heard = nothing_heard;
  server_heard = nothing_heard;
}

-- 30 seconds
abbrev pub idle_moment : ℕ
idle_moment = 30000000000

-- the client tells its ids, and its timers are served 30 seconds later
abbrev pub idle_events : List RunEvent
idle_events = asks_datagram ∷ serves Client idle_moment ∷ []

-- what that is answered
abbrev pub idle_answers : List Answer
idle_answers = gives_bytes 222 ∷ answers.Timeout (Ok tt) ∷ []

-- what the first so many of these leave
unfoldable pub once_idle : ℕ → World
unfolding once_taken
once_idle n = ran_so_far worked_policies idle_start idle_events idle_answers n

-- what is seen of the client once it gave a datagram that asks
abbrev pub waiting_client : EndView
waiting_client = record open_view { timers = Some 1024000000 ∷ Some idle_moment ∷ replicate 7 None }

-- and of both ends then
abbrev pub idle_view : View
idle_view = record { client = waiting_client; server = server_open }

-- the run
abbrev pub idle_run : Run
idle_run = record {
  keys = worked_policies;
  start = idle_start;
  events = idle_events;
  answers = idle_answers;
  views = idle_view ∷ record { client = drained_view steady_window reasons.Idle; server = server_open } ∷ [];
  from_client = from_client 0 ids_payload ∷ [];
  from_server = [];
}

-- ---- a key seals no more

-- the client's key seals so many packets
abbrev pub sealing : ℕ → Policies
sealing seals = record worked_policies { client = record worked_policies.client { seals = seals } }

-- it seals eight, all of which are kept for closes: no new end has such a key
abbrev pub short_policies : Policies
short_policies = sealing 8

-- it closes at its first poll, and gives its close
abbrev pub short_answers : List Answer
short_answers = gives_bytes 30 ∷ []

-- what that leaves
unfoldable pub once_short : ℕ → World
unfolding once_taken
once_short n = ran_so_far short_policies started (asks_datagram ∷ []) short_answers n

-- CONNECTION_CLOSE with AEAD_LIMIT_REACHED, of no frame, with no text (RFC 9000, section 20.1)
abbrev pub short_payload : List ℕ
short_payload = 0x1c ∷ 0x0f ∷ 0x00 ∷ 0x00 ∷ []

-- the run
abbrev pub short_run : Run
short_run = record {
  keys = short_policies;
  start = started;
  events = asks_datagram ∷ [];
  answers = short_answers;
  views = record { client = closed_view reasons.KeyLimit; server = server_open } ∷ [];
  from_client = from_client 0 short_payload ∷ [];
  from_server = [];
}

-- a client with that key gives its ids, and closes no sooner
abbrev pub sealed_past : Run
sealed_past = record short_run {
  answers = gives_bytes 222 ∷ [];
  views = record { client = sent_view; server = server_open } ∷ [];
  from_client = from_client 0 ids_payload ∷ [];
}

-- a client whose key seals none gives its close
abbrev pub closed_past : Run
closed_past = record short_run { keys = sealing 0 }

-- a client whose key seals nine packets gives its close, though one may go before it that doesn't
-- close
abbrev pub closed_early : Run
closed_early = record short_run { keys = sealing 9 }

-- ---- a close that is acknowledged

-- the server that took the client's close, and is drained, acknowledges it
abbrev pub close_named : Run
close_named = record closing_run {
  events = closing_events ++ asks_server ∷ [];
  answers = closing_answers ++ gives_bytes 31 ∷ [];
  views = closing_run.views ++ record { client = closing_view; server = drained_view shut_window (reasons.Peer (close_read 7)) } ∷ [];
  from_server = from_server 0 ack_at_once ∷ [];
}

-- ---- machines that close for nothing

-- a client that is drained at its first poll, and shows this reason
abbrev pub drains_for : LostReason → Run
drains_for reason = record {
  keys = worked_policies;
  start = started;
  events = asks_datagram ∷ [];
  answers = gives_nothing ∷ [];
  views = record { client = drained_view steady_window reason; server = server_open } ∷ [];
  from_client = [];
  from_server = [];
}
