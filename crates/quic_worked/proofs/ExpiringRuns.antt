-- The runs in which the timers of path validation, of keep-alive and of being idle are set and
-- expire, event by event, and machines that set them wrongly.
use Rattle.std.proofs.Common.{◌≡◌, ℕ, zero, suc, true, List, [], Option, Some, None, Ok, refl, inl, sym, ap, ◌∙◌, subst, lit<, lit≤, arith}
use Rattle.std.specs.Prelude.{slice_get, if◌then◌else◌}
use Rattle.quic_wire_core.specs.declared.stream_id.Side.{Side}
use Rattle.quic_wire_core.specs.declared.stream_id.Side.TheVariants.{Client, Server}
use Rattle.quic_time.specs.declared.timer.Timer.{Timer}
use Rattle.quic_time.specs.declared.timer.Timer.TheVariants.{Idle, PathValidation, KeepAlive}
use Rattle.quic_config.specs.Transport.{IsInRange}
use Rattle.quic_machine.specs.declared.answers.State.TheVariants as states
use Rattle.quic_machine.specs.declared.run.Answer.TheVariants as answers
use Rattle.quic_machine.specs.declared.run.View.{View}
use Rattle.quic_machine.specs.Start.{AreStarted}
use Rattle.quic_machine.specs.End.{IsMade}
use Rattle.quic_machine.specs.Machine.{World, IsStep, Follows, view_of}
use Rattle.quic_machine.specs.RunLaws.{one_run}
use Rattle.quic_headline.specs.Runs.{state_in}
use Rattle.quic_headline.specs.Headline.{IsHonest, IsRun}
use Rattle.quic_headline.specs.Polls.{end_in}
use Rattle.quic_headline.specs.Waited.{wants}
use Rattle.quic_headline.specs.Expiring.{timer_in, silence, IdleMoments, AliveMoments, questions, PathMoments}
use Rattle.quic_worked.specs.Worked.{worked_policies, steady, client_id, server_id, asks_datagram, gives_bytes}
use Rattle.quic_worked.specs.Acknowledged.{client_acked}
use Rattle.quic_worked.specs.Timed.{serves, NeverShows}
use Rattle.quic_worked.specs.Unvalidated.{far_start, answered_run, state_told}
use Rattle.quic_worked.specs.Ended.{idle_moment, idle_run}
use Rattle.quic_worked.specs.Isolated.{anew_view, idle_anew}
use Rattle.quic_worked.specs.Expiring.{once_renewed, renewing_view, renewed_with, renewed_run, never_renews, renews_early, renews_answered, alive_settings, alive_start, once_alive, alive_view, alive_with, alive_run, alive_anew}
use Rattle.quic_worked.proofs.Codes.{no_codes}
use Rattle.quic_worked.proofs.OwnIds.{AreOwn, own_ids}
use Rattle.quic_worked.proofs.WorkedKeys.{are_keys}
use Rattle.quic_worked.proofs.WorkedHonest.{making, in_range}
use Rattle.quic_worked.proofs.WorkedRun.{parameters_say, steady_is_made}
use Rattle.quic_worked.proofs.TimedRun.{moment_in}
use Rattle.quic_worked.proofs.UnvalidatedRun.{far_started}
use Rattle.quic_worked.proofs.AnsweredRun.{answered_is_run}
use Rattle.quic_worked.proofs.Steps.{counts_so}

-- ---- what a view shows

-- a view that is at a place shows what is reckoned there
shows : (timer : Timer) (side : Side) (u v : View) (moment due : Option ℕ) → Some u ≡ Some v → timer_in timer u side ≡ Some moment → due ≡ moment → timer_in timer v side ≡ Some due
shows timer side u v moment due is shown reckoned = let same : u ≡ v = cc in ap (λ (x : View). timer_in timer x side) (sym same) ∙ shown ∙ ap (λ (o : Option ℕ). Some o) (sym reckoned)

-- so it does of a timer that isn't set where the address is validated
shows_unless : (side : Side) (u v : View) (moment due : Option ℕ) → Some u ≡ Some v → timer_in PathValidation u side ≡ Some (if (end_in u side).validated then None else moment) → due ≡ moment
    → timer_in PathValidation v side ≡ Some (if (end_in v side).validated then None else due)
shows_unless side u v moment due is shown reckoned =
    let same : u ≡ v = cc in
    subst (λ (o : Option ℕ). timer_in PathValidation v side ≡ Some (if (end_in v side).validated then None else o)) (sym reckoned)
    (subst (λ (x : View). timer_in PathValidation x side ≡ Some (if (end_in x side).validated then None else moment)) same shown)

-- the moment of a timer in a view that is there
abbrev timer_of : Timer → Side → Option View → ℕ
timer_of timer side None = 0
timer_of timer side (Some v) = moment_in (timer_in timer v side)

-- ---- a challenge that isn't answered

stays_asked : IsStep worked_policies far_start (serves Server 3000000000) (answers.Timeout (Ok tt)) (once_renewed 1)
unfolding once_renewed
stays_asked = record { answer = inl refl; end = refl; control = refl; heard = counts_so worked_policies far_start (serves Server 3000000000) (answers.Timeout (Ok tt)); openings = tt; others = refl; lacking = tt }

asks_anew : IsStep worked_policies (once_renewed 1) (serves Server 3072000000) (answers.Timeout (Ok tt)) (once_renewed 2)
unfolding once_renewed
asks_anew = record { answer = inl refl; end = refl; control = refl; heard = counts_so worked_policies (once_renewed 1) (serves Server 3072000000) (answers.Timeout (Ok tt)); openings = tt; others = refl; lacking = tt }

asked_seen : renewing_view (Some 3072000000) ≡ view_of (once_renewed 1)
unfolding once_renewed
asked_seen = refl

renewed_seen : renewing_view (Some 6144000000) ≡ view_of (once_renewed 2)
unfolding once_renewed
renewed_seen = refl

renewed_follows : Follows renewed_run.keys renewed_run.start renewed_run.events renewed_run.answers renewed_run.views (once_renewed 2)
renewed_follows = (once_renewed 1, stays_asked, asked_seen, (once_renewed 2, asks_anew, renewed_seen, refl))

gave_client : renewed_run.from_client ≡ (once_renewed 2).from_client
unfolding once_renewed
gave_client = refl

gave_server : renewed_run.from_server ≡ (once_renewed 2).from_server
unfolding once_renewed
gave_server = refl

pub renewed_is_run : IsRun renewed_run (once_renewed 2)
renewed_is_run = record { codes = no_codes renewed_run.events refl; follows = renewed_follows; from_client = gave_client; from_server = gave_server }

renewed_own : (side : Side) → AreOwn side [] renewed_run.events renewed_run.answers renewed_run.views
renewed_own Client = (tt, (tt, tt))
renewed_own Server = (tt, (tt, tt))

pub renewed_is_honest : IsHonest renewed_run
renewed_is_honest = record { start = far_started; keys = are_keys; ids = own_ids renewed_run renewed_own }

pub asks_until : (questions renewed_run Server 1).due ≡ Some 3072000000
asks_until = refl

-- whatever is shown then
renews_until : (due : Option ℕ) → (questions (renewed_with due) Server 2).due ≡ Some 6144000000
renews_until due = refl

pub renewed_until : (questions renewed_run Server 2).due ≡ Some 6144000000
renewed_until = renews_until (Some 6144000000)

pub renewed_moments : PathMoments renewed_run
renewed_moments Client zero v served is opened = shows_unless Client _ v _ _ is refl refl
renewed_moments Client (suc zero) v served is opened = shows_unless Client _ v _ _ is refl refl
renewed_moments Client (suc (suc i)) v served is opened = cc
renewed_moments Server zero v served is opened = shows_unless Server _ v _ _ is refl asks_until
renewed_moments Server (suc zero) v served is opened = shows_unless Server _ v _ _ is refl renewed_until
renewed_moments Server (suc (suc i)) v served is opened = cc

pub never_renews_not : PathMoments never_renews → ⊥
never_renews_not h = let same : ◌≡◌ {A = ℕ} 0 6144000000 = ap moment_in (h Server 1 (renewing_view None) refl refl refl ∙ ap (λ (o : Option ℕ). Some o) (renews_until None)) in absurd (omega arith)

pub renews_early_not : PathMoments renews_early → ⊥
renews_early_not h = let same : ◌≡◌ {A = ℕ} 4096000000 6144000000 = ap moment_in (h Server 1 (renewing_view (Some 4096000000)) refl refl refl ∙ ap (λ (o : Option ℕ). Some o) (renews_until (Some 4096000000))) in absurd (omega arith)

-- the machine shows one moment
renewed_shows : (due : Option ℕ) (end : World) → Follows worked_policies far_start (renewed_with due).events (renewed_with due).answers (renewed_with due).views end → moment_in (Some due) ≡ 6144000000
renewed_shows due end f =
    let same = one_run renewed_run.keys renewed_run.answers renewed_run.start renewed_run.events (renewed_with due).views renewed_run.views end (once_renewed 2) refl f renewed_follows in
    ap (λ (vs : List View). timer_of PathValidation Server (slice_get vs 1)) same.0

pub never_shows_none : NeverShows never_renews
never_shows_none end f = let same : ◌≡◌ {A = ℕ} 0 6144000000 = renewed_shows None end f in absurd (omega arith)

pub never_shows_short : NeverShows renews_early
never_shows_short end f = let same : ◌≡◌ {A = ℕ} 4096000000 6144000000 = renewed_shows (Some 4096000000) end f in absurd (omega arith)

-- where the address is validated no moment is reckoned
pub renews_answered_not : PathMoments renews_answered → ⊥
renews_answered_not h = let same : ◌≡◌ {A = ℕ} 3072000000 0 = ap moment_in (h Server 7 _ refl refl refl) in absurd (omega arith)

pub never_shows_answered : NeverShows renews_answered
never_shows_answered end f =
    let same = one_run answered_run.keys answered_run.answers answered_run.start answered_run.events renews_answered.views answered_run.views end state_told refl f answered_is_run.follows in
    let moments : ◌≡◌ {A = ℕ} 3072000000 0 = ap (λ (vs : List View). timer_of PathValidation Server (slice_get vs 7)) same.0 in
    absurd (omega arith)

-- ---- a time without a packet

alive_range : IsInRange alive_settings
alive_range = record { receive_window = lit< tt; stream_receive_window = lit< tt; bounds = record { bidi = lit≤ tt; uni = lit≤ tt; divides = lit< tt; initial = lit≤ tt; least = lit≤ tt }; search = tt }

alive_started : AreStarted alive_start
alive_started = record {
  client_making = record (making client_id) { settings = alive_settings };
  server_making = making server_id;
  client_is = record { range = alive_range; sizes = lit≤ tt; says = parameters_say; id = refl };
  server_is = record { range = in_range; sizes = lit≤ tt; says = parameters_say; id = refl };
  client = subst (λ read. IsMade Client alive_settings steady read client_id server_id 0 0 true (λ n. 63) alive_start.client) (sym parameters_say) refl;
  server = steady_is_made;
  client_gave = refl;
  server_gave = refl;
  client_heard = refl;
  server_heard = refl;
}

tells_ids : IsStep worked_policies alive_start asks_datagram (gives_bytes 222) (once_alive 1)
unfolding once_alive
tells_ids = record { answer = inl refl; end = refl; control = refl; heard = counts_so worked_policies alive_start asks_datagram (gives_bytes 222); openings = tt; others = refl; lacking = tt }

is_over : IsStep worked_policies (once_alive 1) (serves Client 10000000000) (answers.Timeout (Ok tt)) (once_alive 2)
unfolding once_alive
is_over = record { answer = inl refl; end = refl; control = refl; heard = counts_so worked_policies (once_alive 1) (serves Client 10000000000) (answers.Timeout (Ok tt)); openings = tt; others = refl; lacking = tt }

told_seen : alive_view 1024000000 (Some 10000000000) ≡ view_of (once_alive 1)
unfolding once_alive
told_seen = refl

over_seen : alive_view 2048000000 None ≡ view_of (once_alive 2)
unfolding once_alive
over_seen = refl

alive_follows : Follows alive_run.keys alive_run.start alive_run.events alive_run.answers alive_run.views (once_alive 2)
alive_follows = (once_alive 1, tells_ids, told_seen, (once_alive 2, is_over, over_seen, refl))

gave_ids : alive_run.from_client ≡ (once_alive 2).from_client
unfolding once_alive
gave_ids = refl

gave_none : alive_run.from_server ≡ (once_alive 2).from_server
unfolding once_alive
gave_none = refl

pub alive_is_run : IsRun alive_run (once_alive 2)
alive_is_run = record { codes = no_codes alive_run.events refl; follows = alive_follows; from_client = gave_ids; from_server = gave_none }

alive_own : (side : Side) → AreOwn side [] alive_run.events alive_run.answers alive_run.views
alive_own Client = (tt, (tt, tt))
alive_own Server = (tt, (tt, tt))

pub alive_is_honest : IsHonest alive_run
alive_is_honest = record { start = alive_started; keys = are_keys; ids = own_ids alive_run alive_own }

pub alive_until : (wants alive_run Client 1).alive ≡ Some 10000000000
unfolding client_acked
alive_until = refl

-- whatever is shown then
over_by : (alive : Option ℕ) → (wants (alive_with alive) Client 2).alive ≡ None
unfolding client_acked
over_by alive = refl

pub alive_over : (wants alive_run Client 2).alive ≡ None
alive_over = over_by None

pub alive_moments_so : AliveMoments alive_run
alive_moments_so Client zero v served is opened = shows KeepAlive Client _ v _ _ is refl alive_until
alive_moments_so Client (suc zero) v served is opened = shows KeepAlive Client _ v _ _ is refl alive_over
alive_moments_so Client (suc (suc i)) v served is opened = cc
alive_moments_so Server zero v served is opened = shows KeepAlive Server _ v _ _ is refl refl
alive_moments_so Server (suc zero) v served is opened = shows KeepAlive Server _ v _ _ is refl refl
alive_moments_so Server (suc (suc i)) v served is opened = cc

pub alive_anew_not : AliveMoments alive_anew → ⊥
alive_anew_not h = let same : ◌≡◌ {A = ℕ} 20000000000 0 = ap moment_in (h Client 1 (alive_view 2048000000 (Some 20000000000)) refl refl refl ∙ ap (λ (o : Option ℕ). Some o) (over_by (Some 20000000000))) in absurd (omega arith)

pub never_shows_anew : NeverShows alive_anew
never_shows_anew end f =
    let same = one_run alive_run.keys alive_run.answers alive_run.start alive_run.events alive_anew.views alive_run.views end (once_alive 2) refl f alive_follows in
    let moments : ◌≡◌ {A = ℕ} 20000000000 0 = ap (λ (vs : List View). timer_of KeepAlive Client (slice_get vs 1)) same.0 in
    absurd (omega arith)

-- ---- being idle

pub idle_until : (silence idle_run Client 1).over ≡ Some idle_moment
unfolding client_acked
idle_until = refl

-- the client is drained in the second view
is_drained : (u v : View) → state_in u Client ≡ states.Drained → Some u ≡ Some v → state_in v Client ≡ states.Open → ⊥
is_drained u v drained is opened =
    let same : u ≡ v = cc in
    let clash : states.Drained ≡ states.Open = sym drained ∙ ap (λ (x : View). state_in x Client) same ∙ opened in
    cc

pub idle_moments_so : IdleMoments idle_run
idle_moments_so Client zero v served is opened = shows Idle Client _ v _ _ is refl idle_until
idle_moments_so Client (suc zero) v served is opened = absurd (is_drained _ v refl is opened)
idle_moments_so Client (suc (suc i)) v served is opened = cc
idle_moments_so Server zero v served is opened = shows Idle Server _ v _ _ is refl refl
idle_moments_so Server (suc zero) v served is opened = shows Idle Server _ v _ _ is refl refl
idle_moments_so Server (suc (suc i)) v served is opened = cc

-- bytes that are dropped change nothing of it
idle_still : (silence idle_anew Client 2).over ≡ Some idle_moment
unfolding client_acked
idle_still = refl

pub idle_anew_not : IdleMoments idle_anew → ⊥
idle_anew_not h = let same : ◌≡◌ {A = ℕ} 35000000000 30000000000 = ap moment_in (h Client 1 anew_view refl refl refl ∙ ap (λ (o : Option ℕ). Some o) idle_still) in absurd (omega arith)
