-- Ends that something closes: a server whose peer's key may refuse two packets gets two that it
-- refuses (RFC 9001, section 6.6). And machines that go on though something closed them.
use Rattle.std.specs.Prelude.{ℕ, suc, List, [], ◌∷◌, length, replicate, Some, None}
use Rattle.quic_machine.specs.declared.answers.LostReason.{LostReason}
use Rattle.quic_machine.specs.declared.answers.LostReason.TheVariants as reasons
use Rattle.quic_machine.specs.declared.answers.Event.TheVariants as events
use Rattle.quic_machine.specs.declared.answers.Received.TheVariants as receives
use Rattle.quic_machine.specs.declared.run.RunEvent.{RunEvent}
use Rattle.quic_machine.specs.declared.run.Answer.{Answer}
use Rattle.quic_machine.specs.declared.run.Answer.TheVariants as answers
use Rattle.quic_machine.specs.declared.run.View.{View}
use Rattle.quic_machine.specs.Receive.{key_limit}
use Rattle.quic_machine.specs.Machine.{World, Policies}
use Rattle.quic_headline.specs.Runs.{Run}
use Rattle.quic_worked.specs.Worked.{ran_so_far, worked_policies, started, once_taken, open_view, server_open}
use Rattle.quic_worked.specs.Closed.{closed_server}
use Rattle.quic_worked.specs.Ended.{idle_view, idle_run, closes_by, closing_view, closing_run}
use Rattle.quic_worked.specs.Isolated.{forges, refused}
use Rattle.quic_worked.specs.Paired.{client_asks}

-- ---- a key that may refuse two packets

-- the client's key may refuse two packets at the server: no new end has such a key
abbrev pub refusing_policies : Policies
refusing_policies = record worked_policies { server = record worked_policies.server { openings = 2 } }

-- a forged datagram comes to the server, and another
abbrev pub refusing_events : List RunEvent
refusing_events = forges 0 ∷ forges 0 ∷ []

-- it drops the first, and closes at the second
abbrev pub refusing_answers : List Answer
refusing_answers = refused ∷ answers.Inject (receives.Closed key_limit) ∷ []

-- what the first so many of these leave
unfoldable pub once_refused : ℕ → World
once_refused n = ran_so_far refusing_policies started refusing_events refusing_answers n

-- what is seen of both ends while they are open
abbrev pub both_open : View
both_open = record { client = open_view; server = server_open }

-- the run
abbrev pub refusing_run : Run
refusing_run = record {
  keys = refusing_policies;
  start = started;
  events = refusing_events;
  answers = refusing_answers;
  views = both_open ∷ record { client = open_view; server = closed_server reasons.KeyLimit } ∷ [];
  from_client = [];
  from_server = [];
}

-- a server that drops the second too
abbrev pub refuses_on : Run
refuses_on = record refusing_run { answers = replicate 2 refused; views = replicate 2 both_open }

-- ---- machines that go on

-- a client that stays open though its idle timer expired
abbrev pub idles_on : Run
idles_on = record idle_run { views = replicate 2 idle_view }

-- a client that stays open though its application closed it
abbrev pub stays_open : Run
stays_open = record closing_run { events = closes_by 7 ∷ []; answers = answers.Close ∷ []; views = both_open ∷ []; from_client = [] }

-- a server that takes the client's close, and stays open
abbrev pub ignores_close : Run
ignores_close = record closing_run { views = replicate 3 (record { client = closing_view; server = server_open }) }

-- ---- the loss of a connection

-- the client's application closes it, and asks what is to be told, twice
abbrev pub losing_events : List RunEvent
losing_events = closes_by 7 ∷ client_asks ∷ client_asks ∷ []

-- the loss is told so
abbrev pub tells_lost : LostReason → Answer
tells_lost reason = answers.Event (Some (events.Lost reason))

-- once
abbrev pub losing_answers : List Answer
losing_answers = answers.Close ∷ tells_lost reasons.Application ∷ answers.Event None ∷ []

-- what the first so many of these leave
unfoldable pub once_lost : ℕ → World
unfolding once_taken
once_lost n = ran_so_far worked_policies started losing_events losing_answers n

-- the run, where it asks so often and is told this
abbrev pub told_then : List RunEvent → List Answer → Run
told_then asks told = record {
  keys = worked_policies;
  start = started;
  events = closes_by 7 ∷ asks;
  answers = answers.Close ∷ told;
  views = replicate (suc (length asks)) (record { client = closing_view; server = server_open });
  from_client = [];
  from_server = [];
}

-- it is told why, once
abbrev pub losing_run : Run
losing_run = told_then (client_asks ∷ client_asks ∷ []) (tells_lost reasons.Application ∷ answers.Event None ∷ [])

-- a client that tells nothing of it
abbrev pub lost_untold : Run
lost_untold = told_then (client_asks ∷ []) (answers.Event None ∷ [])

-- one that tells it twice
abbrev pub lost_twice : Run
lost_twice = told_then (client_asks ∷ client_asks ∷ []) (tells_lost reasons.Application ∷ tells_lost reasons.Application ∷ [])

-- one that tells another reason
abbrev pub lost_otherwise : Run
lost_otherwise = told_then (client_asks ∷ []) (tells_lost reasons.Idle ∷ [])
