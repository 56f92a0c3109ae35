-- The run in which an end closes for used-up numbers, event by event: the clause about them holds
-- of it, and speaks of it. And one in which it closes one datagram too early.
use Rattle.std.proofs.Common.{◌≡◌, ◌^◌, ◌-◌, ℕ, zero, suc, [], take, Option, Some, None, Ok, refl, inl, inr, sym, ap, ◌∙◌, subst, arith}
use Rattle.std.specs.Prelude.{slice_get}
use Rattle.quic_wire_core.specs.declared.stream_id.Side.{Side}
use Rattle.quic_wire_core.specs.declared.stream_id.Side.TheVariants.{Client, Server}
use Rattle.quic_wire.specs.Reading.{connection_close_at}
use Rattle.quic_machine.specs.declared.answers.LostReason.{LostReason}
use Rattle.quic_machine.specs.declared.answers.LostReason.TheVariants as reasons
use Rattle.quic_machine.specs.declared.run.Answer.TheVariants as answers
use Rattle.quic_machine.specs.declared.run.View.{View}
use Rattle.quic_machine.specs.Machine.{IsStep, Follows, view_of}
use Rattle.quic_headline.specs.Runs.{acknowledged}
use Rattle.quic_headline.specs.Observer.{took, next_number}
use Rattle.quic_headline.specs.Causes.{Shows, ordinary, NumberLimit, AreUsedUp, reason_in}
use Rattle.quic_headline.specs.Headline.{IsRun}
use Rattle.quic_worked.specs.Worked.{worked_policies, opens_stream, writes_hello, finishes_stream, asks_datagram, gives_bytes, open_view, sent_view, once_taken, ran, server_open}
use Rattle.quic_worked.specs.Losses.{asks_ping}
use Rattle.quic_worked.specs.Closed.{closed_view, two_left, last_events, last_answers, last_ended, last_given, last_pinged, last_closed, last_run, three_left, ids_given, ids_pinged, early_last}
use Rattle.quic_worked.specs.Broken.{IsNoRun}
use Rattle.quic_worked.proofs.BrokenRuns.{IsRefused, behind, stops}
use Rattle.quic_worked.proofs.Codes.{no_codes}
use Rattle.quic_worked.proofs.MessageRuns.{given_bytes}
use Rattle.quic_worked.proofs.Steps.{StepsSo, steps_so}

opens : IsStep worked_policies two_left opens_stream (answers.Open (Some 0)) (ran worked_policies two_left (take 1 last_events) (take 1 last_answers))
opens =
    let s : StepsSo worked_policies two_left opens_stream (answers.Open (Some 0)) (ran worked_policies two_left (take 1 last_events) (take 1 last_answers)) = steps_so worked_policies two_left opens_stream (answers.Open (Some 0)) refl in
    record { answer = refl; end = s.end; control = s.control; heard = s.heard; openings = tt; others = s.others; lacking = tt }

writes : IsStep worked_policies (ran worked_policies two_left (take 1 last_events) (take 1 last_answers)) writes_hello (answers.Write (Ok 5)) (ran worked_policies two_left (take 2 last_events) (take 2 last_answers))
writes =
    let s : StepsSo worked_policies (ran worked_policies two_left (take 1 last_events) (take 1 last_answers)) writes_hello (answers.Write (Ok 5)) (ran worked_policies two_left (take 2 last_events) (take 2 last_answers)) = steps_so worked_policies (ran worked_policies two_left (take 1 last_events) (take 1 last_answers)) writes_hello (answers.Write (Ok 5)) refl in
    record { answer = inl refl; end = s.end; control = s.control; heard = s.heard; openings = tt; others = s.others; lacking = λ lacks. cc }

finishes : IsStep worked_policies (ran worked_policies two_left (take 2 last_events) (take 2 last_answers)) finishes_stream (answers.Finish (Ok tt)) last_ended
finishes =
    let s : StepsSo worked_policies (ran worked_policies two_left (take 2 last_events) (take 2 last_answers)) finishes_stream (answers.Finish (Ok tt)) last_ended = steps_so worked_policies (ran worked_policies two_left (take 2 last_events) (take 2 last_answers)) finishes_stream (answers.Finish (Ok tt)) refl in
    record { answer = inl refl; end = s.end; control = s.control; heard = s.heard; openings = tt; others = s.others; lacking = λ lacks. cc }

gives : IsStep worked_policies last_ended asks_datagram (gives_bytes 233) last_given
unfolding last_given
gives =
    let s : StepsSo worked_policies last_ended asks_datagram (gives_bytes 233) last_given = steps_so worked_policies last_ended asks_datagram (gives_bytes 233) refl in
    record { answer = inl refl; end = s.end; control = s.control; heard = s.heard; openings = tt; others = s.others; lacking = tt }

pings : IsStep worked_policies last_given asks_ping answers.Ping last_pinged
unfolding last_given
pings =
    let s : StepsSo worked_policies last_given asks_ping answers.Ping last_pinged = steps_so worked_policies last_given asks_ping answers.Ping refl in
    record { answer = refl; end = s.end; control = s.control; heard = s.heard; openings = tt; others = s.others; lacking = tt }

closes : IsStep worked_policies last_pinged asks_datagram (gives_bytes 33) last_closed
unfolding last_closed
closes =
    let s : StepsSo worked_policies last_pinged asks_datagram (gives_bytes 33) last_closed = steps_so worked_policies last_pinged asks_datagram (gives_bytes 33) refl in
    record { answer = inl refl; end = s.end; control = s.control; heard = s.heard; openings = tt; others = s.others; lacking = tt }

abbrev one_sent : View
one_sent = record { client = sent_view; server = server_open }

abbrev one_closed : View
one_closed = record { client = closed_view reasons.NumberLimit; server = server_open }

given_seen : one_sent ≡ view_of last_given
unfolding last_given
given_seen = refl

pinged_seen : one_sent ≡ view_of last_pinged
unfolding last_given
pinged_seen = refl

closed_seen : one_closed ≡ view_of last_closed
unfolding last_closed
closed_seen = refl

follows : Follows worked_policies two_left last_events last_answers last_run.views last_closed
follows = (
  ran worked_policies two_left (take 1 last_events) (take 1 last_answers),
  opens,
  refl,
  (
    ran worked_policies two_left (take 2 last_events) (take 2 last_answers),
    writes,
    refl,
    (last_ended, finishes, refl, (last_given, gives, given_seen, (last_pinged, pings, pinged_seen, (last_closed, closes, closed_seen, refl)))),
  ),
)

gave_last : last_run.from_client ≡ last_closed.from_client
unfolding last_closed
gave_last = refl

gave_none : [] ≡ last_closed.from_server
unfolding last_closed
gave_none = refl

pub last_is_run : IsRun last_run last_closed
last_is_run = record { codes = no_codes last_run.events refl; follows = follows; from_client = gave_last; from_server = gave_none }

-- ---- the clause

pub last_shows : Shows last_run Client 5 (Some reasons.NumberLimit)
last_shows = record { served = refl; view = one_closed; there = refl; is = refl }

pub last_next : next_number (ordinary last_run Client 6) ≡ 2 ^ 31 - 16
unfolding last_closed once_taken connection_close_at
last_next = refl

none_named : acknowledged (took last_run Client 6) ≡ 0
unfolding last_closed
none_named = refl

used_up : AreUsedUp (next_number (ordinary last_run Client 6)) (acknowledged (took last_run Client 6))
used_up = subst (λ (n : ℕ). AreUsedUp n (acknowledged (took last_run Client 6))) (sym last_next) (subst (λ (n : ℕ). AreUsedUp (2 ^ 31 - 16) n) (sym none_named) (inr (omega arith)))

-- no other view shows it
reason_of : (v : View) (side : Side) (place : ℕ) → slice_get last_run.views place ≡ Some v → (w : View) → slice_get last_run.views place ≡ Some w → reason_in v side ≡ reason_in w side
reason_of v side place is w so = let same : Some v ≡ Some w = sym is ∙ so in let alike : v ≡ w = cc in ap (λ (u : View). reason_in u side) alike

never : (side : Side) (place : ℕ) (w : View) → slice_get last_run.views place ≡ Some w → reason_in w side ≡ None → Shows last_run side place (Some reasons.NumberLimit) → ⊥
never side place w so none shows = let clash : ◌≡◌ {A = Option LostReason} (Some reasons.NumberLimit) None = sym shows.is ∙ reason_of shows.view side place shows.there w so ∙ none in cc

pub last_meets : NumberLimit last_run
last_meets Client zero shows = absurd (never Client 0 (record { client = open_view; server = server_open }) refl refl shows)
last_meets Client (suc zero) shows = absurd (never Client 1 (record { client = open_view; server = server_open }) refl refl shows)
last_meets Client (suc (suc zero)) shows = absurd (never Client 2 (record { client = open_view; server = server_open }) refl refl shows)
last_meets Client (suc (suc (suc zero))) shows = absurd (never Client 3 one_sent refl refl shows)
last_meets Client (suc (suc (suc (suc zero)))) shows = absurd (never Client 4 one_sent refl refl shows)
last_meets Client (suc (suc (suc (suc (suc zero))))) shows = used_up
last_meets Client (suc (suc (suc (suc (suc (suc place)))))) shows = absurd (past shows.there)
  where
    past : None ≡ Some shows.view → ⊥
    past e = cc
last_meets Server zero shows = absurd (never Server 0 (record { client = open_view; server = server_open }) refl refl shows)
last_meets Server (suc zero) shows = absurd (never Server 1 (record { client = open_view; server = server_open }) refl refl shows)
last_meets Server (suc (suc zero)) shows = absurd (never Server 2 (record { client = open_view; server = server_open }) refl refl shows)
last_meets Server (suc (suc (suc zero))) shows = absurd (never Server 3 one_sent refl refl shows)
last_meets Server (suc (suc (suc (suc zero)))) shows = absurd (never Server 4 one_sent refl refl shows)
last_meets Server (suc (suc (suc (suc (suc zero))))) shows = absurd (never Server 5 one_closed refl refl shows)
last_meets Server (suc (suc (suc (suc (suc (suc place)))))) shows = absurd (past shows.there)
  where
    past : None ≡ Some shows.view → ⊥
    past e = cc

-- ---- one datagram too early

early_shows : Shows early_last Client 2 (Some reasons.NumberLimit)
early_shows = record { served = refl; view = one_closed; there = refl; is = refl }

early_next : next_number (ordinary early_last Client 3) ≡ 2 ^ 31 - 17
unfolding ids_given once_taken connection_close_at
early_next = refl

early_named : acknowledged (took early_last Client 3) ≡ 0
unfolding ids_given
early_named = refl

pub early_wrong : NumberLimit early_last → ⊥
early_wrong h = go (subst (λ (n : ℕ). AreUsedUp (2 ^ 31 - 17) n) early_named (subst (λ (n : ℕ). AreUsedUp n (acknowledged (took early_last Client 3))) early_next (h Client 2 early_shows)))
  where
    go : AreUsedUp (2 ^ 31 - 17) 0 → ⊥
    go (inl many) = omega arith
    go (inr many) = omega arith

gives_ids : IsStep worked_policies three_left asks_datagram (gives_bytes 225) ids_given
unfolding ids_given
gives_ids =
    let s : StepsSo worked_policies three_left asks_datagram (gives_bytes 225) ids_given = steps_so worked_policies three_left asks_datagram (gives_bytes 225) refl in
    record { answer = inl refl; end = s.end; control = s.control; heard = s.heard; openings = tt; others = s.others; lacking = tt }

pings_behind : IsStep worked_policies ids_given asks_ping answers.Ping ids_pinged
unfolding ids_given
pings_behind =
    let s : StepsSo worked_policies ids_given asks_ping answers.Ping ids_pinged = steps_so worked_policies ids_given asks_ping answers.Ping refl in
    record { answer = refl; end = s.end; control = s.control; heard = s.heard; openings = tt; others = s.others; lacking = tt }

-- the machine gives the PING
early_no : IsRefused ids_pinged asks_datagram (gives_bytes 33)
unfolding ids_given
early_no (inl e) = let clash : ◌≡◌ {A = ℕ} 33 30 = ap given_bytes e in omega (arith, clash)
early_no (inr e) = cc

pub early_is_none : IsNoRun early_last
early_is_none = behind refl gives_ids (behind refl pings_behind (stops _ _ _ _ _ early_no))
