-- The run in which a client closes and is drained, event by event, and the clauses that it meets.
use Rattle.std.proofs.Common.{◌≡◌, ℕ, zero, suc, ◌≤◌, true, false, Bool, List, [], ◌∷◌, ◌++◌, take, Option, Some, None, Ok, refl, inl, inr, sym, ap, ◌∙◌, subst, lit<, lit≤}
use Rattle.std.specs.Prelude.{max, slice_get, replicate}
use Rattle.quic_wire_core.specs.declared.stream_id.Side.{Side}
use Rattle.quic_wire_core.specs.declared.stream_id.Side.TheVariants.{Client, Server}
use Rattle.quic_wire_core.specs.declared.shared.EcnCodepoint.TheVariants.{Ect0}
use Rattle.quic_wire.specs.Close.{by_application}
use Rattle.quic_wire.specs.Value.{application_close}
use Rattle.quic_wire.specs.Reading.{application_close_at}
use Rattle.quic_time.specs.declared.timer.Timer.{Timer}
use Rattle.quic_time.specs.declared.timer.Timer.TheVariants.{Close}
use Rattle.quic_machine.specs.declared.answers.State.{State}
use Rattle.quic_machine.specs.declared.answers.State.TheVariants as states
use Rattle.quic_machine.specs.declared.answers.LostReason.TheVariants as reasons
use Rattle.quic_machine.specs.declared.answers.Received.TheVariants as receives
use Rattle.quic_machine.specs.declared.answers.DropReason.TheVariants as drops
use Rattle.quic_machine.specs.declared.run.RunEvent.{RunEvent}
use Rattle.quic_machine.specs.declared.run.Call.{Call}
use Rattle.quic_machine.specs.declared.run.Call.TheVariants as calls
use Rattle.quic_machine.specs.declared.run.Answer.{Answer}
use Rattle.quic_machine.specs.declared.run.Answer.TheVariants as answers
use Rattle.quic_machine.specs.declared.run.EndView.{EndView}
use Rattle.quic_machine.specs.declared.run.View.{View}
use Rattle.quic_machine.specs.Machine.{World, IsStep, Follows, end_at, view_of}
use Rattle.quic_headline.specs.Runs.{Run, Told, In, state_in, state_behind, until}
use Rattle.quic_headline.specs.Observer.{Sent, clock_behind, watch, sents_until}
use Rattle.quic_headline.specs.Headline.{IsHonest, IsRun}
use Rattle.quic_headline.specs.Moments.{timers_in}
use Rattle.quic_headline.specs.Polls.{GaveOne, seen_at}
use Rattle.quic_headline.specs.Causes.{Shows}
use Rattle.quic_headline.specs.Reasons.{NeverFails}
use Rattle.quic_headline.specs.Expiring.{timer_in, moment_behind, three_waits, moment_told, greatest_told, IsCloseSet, HasOnlyClose, ClosedTimers, CloseMoments, CloseMomentsStay, DrainsInTime}
use Rattle.quic_headline.specs.Closes.{SaysWhy, GaveClose, owed, ClosesAreOwed, MayClose, OwedClosesGo, DrainedAreSilent}
use Rattle.quic_worked.specs.Worked.{worked_policies, both_steady, delivery, asks_datagram, gives_bytes, open_view, sent_view}
use Rattle.quic_worked.specs.Acknowledged.{client_acked}
use Rattle.quic_worked.specs.Paired.{asks_server}
use Rattle.quic_worked.specs.Renamed.{ids_sent}
use Rattle.quic_worked.specs.Timed.{serves, asks_at, comes_at}
use Rattle.quic_worked.specs.Held.{gives_nothing}
use Rattle.quic_worked.specs.Ending.{close_call, closes_late, close_comes, ending_events, ending_answers, once_ending, once_drained, once_silent, close_said, closing_until, client_drained, server_waits, server_ended, ending_views, ending_run, close_sent, closed_as}
use Rattle.quic_worked.proofs.Codes.{AllSmall, small_codes}
use Rattle.quic_worked.proofs.OwnIds.{honest_steady}
use Rattle.quic_worked.proofs.TimedRun.{moment_in}
use Rattle.quic_worked.proofs.Steps.{StepsSo, steps_at, steps_so}

-- ---- the machine's run

pub server_tells : IsStep worked_policies both_steady asks_server (gives_bytes 222) (once_ending 1)
unfolding once_ending
server_tells =
    let s : StepsSo worked_policies both_steady asks_server (gives_bytes 222) (once_ending 1) = steps_at worked_policies both_steady ending_events ending_answers 0 asks_server (gives_bytes 222) _ _ refl refl refl in
    record { answer = inl refl; end = s.end; control = s.control; heard = s.heard; openings = tt; others = s.others; lacking = tt }

seen_0 : server_waits open_view ≡ view_of (once_ending 1)
unfolding once_ending
seen_0 = refl

pub client_tells : IsStep worked_policies (once_ending 1) asks_datagram (gives_bytes 222) (once_ending 2)
unfolding once_ending
client_tells =
    let s : StepsSo worked_policies (once_ending 1) asks_datagram (gives_bytes 222) (once_ending 2) = steps_at worked_policies both_steady ending_events ending_answers 1 asks_datagram (gives_bytes 222) _ _ refl refl refl in
    record { answer = inl refl; end = s.end; control = s.control; heard = s.heard; openings = tt; others = s.others; lacking = tt }

seen_1 : server_waits sent_view ≡ view_of (once_ending 2)
unfolding once_ending
seen_1 = refl

pub closes : IsStep worked_policies (once_ending 2) closes_late answers.Close (once_ending 3)
unfolding once_ending
closes =
    let s : StepsSo worked_policies (once_ending 2) closes_late answers.Close (once_ending 3) = steps_at worked_policies both_steady ending_events ending_answers 2 closes_late answers.Close _ _ refl refl refl in
    record { answer = refl; end = s.end; control = s.control; heard = s.heard; openings = tt; others = s.others; lacking = tt }

seen_2 : server_waits (closing_until 4072000000) ≡ view_of (once_ending 3)
unfolding once_ending
seen_2 = refl

pub gives_close : IsStep worked_policies (once_ending 3) (asks_at Client 1000000000) (gives_bytes 34) (once_ending 4)
unfolding once_ending
gives_close =
    let s : StepsSo worked_policies (once_ending 3) (asks_at Client 1000000000) (gives_bytes 34) (once_ending 4) = steps_at worked_policies both_steady ending_events ending_answers 3 (asks_at Client 1000000000) (gives_bytes 34) _ _ refl refl refl in
    record { answer = inl refl; end = s.end; control = s.control; heard = s.heard; openings = tt; others = s.others; lacking = tt }

seen_3 : server_waits (closing_until 4072000000) ≡ view_of (once_ending 4)
unfolding once_ending
seen_3 = refl

pub is_closing : IsStep worked_policies (once_ending 4) (comes_at Client 2000000000) (answers.Deliver (receives.Dropped drops.Closing)) (once_ending 5)
unfolding once_ending
is_closing =
    let s : StepsSo worked_policies (once_ending 4) (comes_at Client 2000000000) (answers.Deliver (receives.Dropped drops.Closing)) (once_ending 5) = steps_at worked_policies both_steady ending_events ending_answers 4 (comes_at Client 2000000000) (answers.Deliver (receives.Dropped drops.Closing)) _ _ refl refl refl in
    record { answer = inl refl; end = s.end; control = s.control; heard = s.heard; openings = tt; others = s.others; lacking = tt }

seen_4 : server_waits (closing_until 4072000000) ≡ view_of (once_ending 5)
unfolding once_ending
seen_4 = refl

pub gives_again : IsStep worked_policies (once_ending 5) (asks_at Client 2000000000) (gives_bytes 34) (once_ending 6)
unfolding once_ending
gives_again =
    let s : StepsSo worked_policies (once_ending 5) (asks_at Client 2000000000) (gives_bytes 34) (once_ending 6) = steps_at worked_policies both_steady ending_events ending_answers 5 (asks_at Client 2000000000) (gives_bytes 34) _ _ refl refl refl in
    record { answer = inl refl; end = s.end; control = s.control; heard = s.heard; openings = tt; others = s.others; lacking = tt }

seen_5 : server_waits (closing_until 4072000000) ≡ view_of (once_ending 6)
unfolding once_ending
seen_5 = refl

pub server_takes : IsStep worked_policies (once_ending 6) close_comes (answers.Deliver receives.Taken) (once_ending 7)
unfolding once_ending application_close_at
server_takes =
    let s : StepsSo worked_policies (once_ending 6) close_comes (answers.Deliver receives.Taken) (once_ending 7) = steps_at worked_policies both_steady ending_events ending_answers 6 close_comes (answers.Deliver receives.Taken) _ _ refl refl refl in
    record { answer = inl refl; end = s.end; control = s.control; heard = s.heard; openings = tt; others = s.others; lacking = tt }

seen_6 : server_ended (closing_until 4072000000) ≡ view_of (once_ending 7)
unfolding once_ending application_close_at
seen_6 = refl

pub is_drained : IsStep worked_policies (once_ending 7) (serves Client 4072000000) (answers.Timeout (Ok tt)) once_drained
unfolding once_drained application_close_at
is_drained =
    let s : StepsSo worked_policies (once_ending 7) (serves Client 4072000000) (answers.Timeout (Ok tt)) once_drained = steps_so worked_policies (once_ending 7) (serves Client 4072000000) (answers.Timeout (Ok tt)) refl in
    record { answer = inl refl; end = s.end; control = s.control; heard = s.heard; openings = tt; others = s.others; lacking = tt }

seen_7 : server_ended client_drained ≡ view_of once_drained
unfolding once_drained application_close_at
seen_7 = refl

is_silent : IsStep worked_policies once_drained (asks_at Client 4072000000) gives_nothing once_silent
unfolding once_silent application_close_at
is_silent =
    let s : StepsSo worked_policies once_drained (asks_at Client 4072000000) gives_nothing once_silent = steps_so worked_policies once_drained (asks_at Client 4072000000) gives_nothing refl in
    record { answer = inl refl; end = s.end; control = s.control; heard = s.heard; openings = tt; others = s.others; lacking = tt }

seen_8 : server_ended client_drained ≡ view_of once_silent
unfolding once_silent application_close_at
seen_8 = refl

-- how a run goes on behind the first so many events
ahead_1 : (events : List RunEvent) (told : List Answer) (views : List View) (end : World) → Follows worked_policies (once_ending 1) events told views end
    → Follows worked_policies both_steady (take 1 ending_events ++ events) (take 1 ending_answers ++ told) (take 1 ending_views ++ views) end
ahead_1 events told views end f = (once_ending 1, server_tells, seen_0, f)

ahead_2 : (events : List RunEvent) (told : List Answer) (views : List View) (end : World) → Follows worked_policies (once_ending 2) events told views end
    → Follows worked_policies both_steady (take 2 ending_events ++ events) (take 2 ending_answers ++ told) (take 2 ending_views ++ views) end
ahead_2 events told views end f = ahead_1 (asks_datagram ∷ events) (gives_bytes 222 ∷ told) (server_waits sent_view ∷ views) end (once_ending 2, client_tells, seen_1, f)

pub ahead_3 : (events : List RunEvent) (told : List Answer) (views : List View) (end : World) → Follows worked_policies (once_ending 3) events told views end
    → Follows worked_policies both_steady (take 3 ending_events ++ events) (take 3 ending_answers ++ told) (take 3 ending_views ++ views) end
ahead_3 events told views end f = ahead_2 (closes_late ∷ events) (answers.Close ∷ told) (server_waits (closing_until 4072000000) ∷ views) end (once_ending 3, closes, seen_2, f)

pub ahead_4 : (events : List RunEvent) (told : List Answer) (views : List View) (end : World) → Follows worked_policies (once_ending 4) events told views end
    → Follows worked_policies both_steady (take 4 ending_events ++ events) (take 4 ending_answers ++ told) (take 4 ending_views ++ views) end
ahead_4 events told views end f = ahead_3 (asks_at Client 1000000000 ∷ events) (gives_bytes 34 ∷ told) (server_waits (closing_until 4072000000) ∷ views) end (once_ending 4, gives_close, seen_3, f)

ahead_5 : (events : List RunEvent) (told : List Answer) (views : List View) (end : World) → Follows worked_policies (once_ending 5) events told views end
    → Follows worked_policies both_steady (take 5 ending_events ++ events) (take 5 ending_answers ++ told) (take 5 ending_views ++ views) end
ahead_5 events told views end f = ahead_4 (comes_at Client 2000000000 ∷ events) (answers.Deliver (receives.Dropped drops.Closing) ∷ told) (server_waits (closing_until 4072000000) ∷ views) end (once_ending 5, is_closing, seen_4, f)

pub ahead_6 : (events : List RunEvent) (told : List Answer) (views : List View) (end : World) → Follows worked_policies (once_ending 6) events told views end
    → Follows worked_policies both_steady (take 6 ending_events ++ events) (take 6 ending_answers ++ told) (take 6 ending_views ++ views) end
ahead_6 events told views end f = ahead_5 (asks_at Client 2000000000 ∷ events) (gives_bytes 34 ∷ told) (server_waits (closing_until 4072000000) ∷ views) end (once_ending 6, gives_again, seen_5, f)

ahead_7 : (events : List RunEvent) (told : List Answer) (views : List View) (end : World) → Follows worked_policies (once_ending 7) events told views end
    → Follows worked_policies both_steady (take 7 ending_events ++ events) (take 7 ending_answers ++ told) (take 7 ending_views ++ views) end
ahead_7 events told views end f = ahead_6 (close_comes ∷ events) (answers.Deliver receives.Taken ∷ told) (server_ended (closing_until 4072000000) ∷ views) end (once_ending 7, server_takes, seen_6, f)

pub ahead_8 : (events : List RunEvent) (told : List Answer) (views : List View) (end : World) → Follows worked_policies once_drained events told views end
    → Follows worked_policies both_steady (take 8 ending_events ++ events) (take 8 ending_answers ++ told) (take 8 ending_views ++ views) end
ahead_8 events told views end f = ahead_7 (serves Client 4072000000 ∷ events) (answers.Timeout (Ok tt) ∷ told) (server_ended client_drained ∷ views) end (once_drained, is_drained, seen_7, f)

ahead_9 : (events : List RunEvent) (told : List Answer) (views : List View) (end : World) → Follows worked_policies once_silent events told views end
    → Follows worked_policies both_steady (take 9 ending_events ++ events) (take 9 ending_answers ++ told) (take 9 ending_views ++ views) end
ahead_9 events told views end f = ahead_8 (asks_at Client 4072000000 ∷ events) (gives_nothing ∷ told) (server_ended client_drained ∷ views) end (once_silent, is_silent, seen_8, f)

ending_follows : Follows worked_policies both_steady ending_events ending_answers ending_views once_silent
ending_follows = ahead_9 [] [] [] once_silent refl

gave_client : ending_run.from_client ≡ once_silent.from_client
unfolding once_silent
gave_client = refl

gave_server : ending_run.from_server ≡ once_silent.from_server
unfolding once_silent
gave_server = refl

-- the code is the only one
ending_codes : AllSmall ending_events
ending_codes = (tt, (tt, (lit< tt, (tt, (tt, (tt, (tt, (tt, (tt, tt)))))))))

pub ending_is_run : IsRun ending_run once_silent
ending_is_run = record { codes = small_codes ending_events ending_codes; follows = ending_follows; from_client = gave_client; from_server = gave_server }

pub ending_is_honest : IsHonest ending_run
ending_is_honest = honest_steady ending_run (record { start = refl; keys = refl; client = (tt, (tt, (tt, (tt, (tt, (tt, (tt, (tt, (tt, tt))))))))); server = (tt, (tt, (tt, (tt, (tt, (tt, (tt, (tt, (tt, tt))))))))) })

-- ---- what each view shows

-- each of these views shows it
abbrev AllShow : (View → Type 0) → List View → Type 0
AllShow P [] = Unit {0}
AllShow P (v ∷ vs) = P v × AllShow P vs

shown_at : (P : View → Type 0) (vs : List View) (i : ℕ) (v : View) → AllShow P vs → slice_get vs i ≡ Some v → P v
shown_at P [] i v all is = cc
shown_at P (u ∷ us) zero v all is = let same : u ≡ v = cc in subst P same all.0
shown_at P (u ∷ us) (suc i) v all is = shown_at P us i v all.1 is

-- an end that no view shows in a state is so at no place
abbrev IsNever : State → Side → View → Type 0
IsNever other side v = state_in v side ≡ other → ⊥

never_so : (other : State) (side : Side) (state : State) (i : ℕ) (vs : List View) → (state ≡ other → ⊥) → AllShow (IsNever other side) vs → state_behind side state i vs ≡ other → ⊥
never_so other side state zero vs first all is = first is
never_so other side state (suc i) [] first all is = first is
never_so other side state (suc i) (v ∷ vs) first all is = never_so other side (state_in v side) i vs all.0 all.1 is

is_open : states.Open ≡ states.Closing → ⊥
is_open e = cc

pub is_drained_there : states.Drained ≡ states.Closing → ⊥
is_drained_there e = cc

-- so it is of the server
server_never : AllShow (IsNever states.Closing Server) ending_views
server_never = (is_open, (is_open, (is_open, (is_open, (is_open, (is_open, (is_drained_there, (is_drained_there, (is_drained_there, tt)))))))))

server_not_closing : (i : ℕ) → state_behind Server states.Open i ending_views ≡ states.Closing → ⊥
server_not_closing i closing = never_so states.Closing Server states.Open i ending_views is_open server_never closing

-- neither end has failed
open_works : states.Open ≡ states.Failed → ⊥
open_works e = cc

closing_works : states.Closing ≡ states.Failed → ⊥
closing_works e = cc

drained_works : states.Drained ≡ states.Failed → ⊥
drained_works e = cc

client_works : AllShow (IsNever states.Failed Client) ending_views
client_works = (open_works, (open_works, (closing_works, (closing_works, (closing_works, (closing_works, (closing_works, (drained_works, (drained_works, tt)))))))))

server_works : AllShow (IsNever states.Failed Server) ending_views
server_works = (open_works, (open_works, (open_works, (open_works, (open_works, (open_works, (drained_works, (drained_works, (drained_works, tt)))))))))

pub unfailed_so : NeverFails ending_run
unfailed_so Client i served = never_so states.Failed Client states.Open i ending_views open_works client_works
unfailed_so Server i served = never_so states.Failed Server states.Open i ending_views open_works server_works

alone_set : IsCloseSet (replicate 2 None ++ Some 4072000000 ∷ replicate 6 None)
alone_set = record { moment = 4072000000; alone = refl }

all_closed : (side : Side) → AllShow (λ v. HasOnlyClose (state_in v side) (timers_in v side)) ending_views
all_closed Client = (tt, (tt, (alone_set, (alone_set, (alone_set, (alone_set, (alone_set, (refl, (refl, tt)))))))))
all_closed Server = (tt, (tt, (tt, (tt, (tt, (tt, (refl, (refl, (refl, tt)))))))))

pub timers_so : ClosedTimers ending_run
timers_so side i v is = shown_at (λ u. HasOnlyClose (state_in u side) (timers_in u side)) ending_views i v (all_closed side) is

-- ---- when the close is over

-- when it is reckoned to be, where this call closes the client
abbrev pub over_behind : Run → Call → ℕ
over_behind r call = moment_behind (clock_behind (watch r Client 2).clock (moment_told call)) (three_waits (watch r Client 2).flight)

-- whatever is seen of the client then
pub over_by : (seen : EndView) → over_behind (closed_as seen) (calls.Close close_call) ≡ 4072000000
unfolding client_acked
over_by seen = refl

over_at : over_behind ending_run (calls.Close close_call) ≡ 4072000000
unfolding client_acked
over_at = refl

-- what a view shows where it is this one
shown_of : (timer : Timer) (u v : View) → Some u ≡ Some v → timer_in timer v Client ≡ timer_in timer u Client
shown_of timer u v is = let same : u ≡ v = cc in ap (λ (x : View). timer_in timer x Client) (sym same)

-- the state in it
state_of_view : (side : Side) (u v : View) (state : State) → Some u ≡ Some v → state_in v side ≡ state → state_in u side ≡ state
state_of_view side u v state is shown = let same : u ≡ v = cc in ap (λ (x : View). state_in x side) same ∙ shown

-- the call that closes it
closes_so : (call : Call) → Some closes_late ≡ Some (record { side = Client; call = call }) → calls.Close close_call ≡ call
closes_so call is = let event : closes_late ≡ record { side = Client; call = call } = cc in ap (λ (e : RunEvent). e.call) event

pub moments_so : CloseMoments ending_run
moments_so Server i call a v served at is opened closing itself = absurd (shown_at (IsNever states.Closing Server) ending_views i v server_never is closing)
moments_so Client zero call a v served at is opened closing itself = absurd (is_open (state_of_view Client _ v _ is closing))
moments_so Client (suc zero) call a v served at is opened closing itself = absurd (is_open (state_of_view Client _ v _ is closing))
moments_so Client (suc (suc zero)) call a v served at is opened closing itself =
    let reckoned : over_behind ending_run call ≡ 4072000000 = ap (λ (c : Call). over_behind ending_run c) (sym (closes_so call at.event)) ∙ over_at in
    shown_of Close _ v is ∙ ap (λ (n : ℕ). Some (Some n)) (sym reckoned)
moments_so Client (suc (suc (suc zero))) call a v served at is opened closing itself = absurd (is_open (sym opened))
moments_so Client (suc (suc (suc (suc zero)))) call a v served at is opened closing itself = absurd (is_open (sym opened))
moments_so Client (suc (suc (suc (suc (suc zero))))) call a v served at is opened closing itself = absurd (is_open (sym opened))
moments_so Client (suc (suc (suc (suc (suc (suc zero)))))) call a v served at is opened closing itself = absurd (is_open (sym opened))
moments_so Client (suc (suc (suc (suc (suc (suc (suc zero))))))) call a v served at is opened closing itself = absurd (is_open (sym opened))
moments_so Client (suc (suc (suc (suc (suc (suc (suc (suc zero)))))))) call a v served at is opened closing itself = absurd (is_drained_there (state_of_view Client _ v _ is closing))
moments_so Client (suc (suc (suc (suc (suc (suc (suc (suc (suc i))))))))) call a v served at is opened closing itself = cc

pub stay_so : CloseMomentsStay ending_run
stay_so Server i v is before closing = absurd (server_not_closing i before)
stay_so Client zero v is before closing = absurd (is_open before)
stay_so Client (suc zero) v is before closing = absurd (is_open before)
stay_so Client (suc (suc zero)) v is before closing = absurd (is_open before)
stay_so Client (suc (suc (suc zero))) v is before closing = shown_of Close _ v is
stay_so Client (suc (suc (suc (suc zero)))) v is before closing = shown_of Close _ v is
stay_so Client (suc (suc (suc (suc (suc zero))))) v is before closing = shown_of Close _ v is
stay_so Client (suc (suc (suc (suc (suc (suc zero)))))) v is before closing = shown_of Close _ v is
stay_so Client (suc (suc (suc (suc (suc (suc (suc zero))))))) v is before closing = absurd (is_drained_there (state_of_view Client _ v _ is closing))
stay_so Client (suc (suc (suc (suc (suc (suc (suc (suc zero)))))))) v is before closing = absurd (is_drained_there before)
stay_so Client (suc (suc (suc (suc (suc (suc (suc (suc (suc i))))))))) v is before closing = cc

-- where an event is
abbrev side_of : Option RunEvent → Side
side_of None = Client
side_of (Some event) = event.side

-- one at the client is none at the server
not_server : (call other : Call) → ◌≡◌ {A = Option RunEvent} (Some (record { side = Client; call = call })) (Some (record { side = Server; call = other })) → ⊥
not_server call other e = let clash : Client ≡ Server = ap side_of e in cc

-- no poll is a timeout, and no delivery is
abbrev is_timeout : Call → Bool
is_timeout (calls.Timeout now) = true
is_timeout call = false

-- behind another call the client is closing still
goes_on : (e : RunEvent) (call : Call) (u v : View) (moment bound : ℕ) → Some e ≡ Some (record { side = Client; call = call }) → is_timeout e.call ≡ false → Some u ≡ Some v → state_in u Client ≡ states.Closing
    → ((now : ℕ) → call ≡ calls.Timeout now → moment ≤ now → state_in v Client ≡ states.Drained) × (state_in v Client ≡ states.Drained → moment ≤ bound)
goes_on e call u v moment bound event other is closing = (early, late)
  where
    early : (now : ℕ) → call ≡ calls.Timeout now → moment ≤ now → state_in v Client ≡ states.Drained
    early now timed due =
        let same : e ≡ record { side = Client; call = call } = cc in
        let clash : true ≡ false = sym (ap is_timeout (ap (λ (x : RunEvent). x.call) same ∙ timed)) ∙ other in
        cc

    late : state_in v Client ≡ states.Drained → moment ≤ bound
    late drained = let clash : states.Drained ≡ states.Closing = sym (state_of_view Client u v states.Drained is drained) ∙ closing in absurd (is_drained_there clash)

-- the greatest moment that was told by then
told_in_time : 4072000000 ≤ max (end_at Client ending_run.start).closing.clock (greatest_told (until ending_run Client 8))
told_in_time = lit≤ tt

pub drains_so : DrainsInTime ending_run
drains_so Server i moment call a v served at is closing set = absurd (server_not_closing i closing)
drains_so Client zero moment call a v served at is closing set = absurd (is_open closing)
drains_so Client (suc zero) moment call a v served at is closing set = absurd (is_open closing)
drains_so Client (suc (suc zero)) moment call a v served at is closing set = absurd (is_open closing)
drains_so Client (suc (suc (suc zero))) moment call a v served at is closing set = goes_on _ call _ v moment _ at.event refl is refl
drains_so Client (suc (suc (suc (suc zero)))) moment call a v served at is closing set = goes_on _ call _ v moment _ at.event refl is refl
drains_so Client (suc (suc (suc (suc (suc zero))))) moment call a v served at is closing set = goes_on _ call _ v moment _ at.event refl is refl
drains_so Client (suc (suc (suc (suc (suc (suc zero)))))) moment call a v served at is closing set = absurd (not_server call (calls.Deliver (record delivery { now = 2000000000; index = 1 })) (sym at.event))
drains_so Client (suc (suc (suc (suc (suc (suc (suc zero))))))) moment call a v served at is closing set =
    let drained : states.Drained ≡ state_in v Client = let same : server_ended client_drained ≡ v = cc in ap (λ (x : View). state_in x Client) same in
    let reckoned : ◌≡◌ {A = ℕ} 4072000000 moment = ap moment_in set in
    (λ now called due. sym drained, λ shown. subst (λ (n : ℕ). n ≤ max (end_at Client ending_run.start).closing.clock (greatest_told (until ending_run Client 8))) reckoned told_in_time)
drains_so Client (suc (suc (suc (suc (suc (suc (suc (suc zero)))))))) moment call a v served at is closing set = absurd (is_drained_there closing)
drains_so Client (suc (suc (suc (suc (suc (suc (suc (suc (suc i))))))))) moment call a v served at is closing set = cc

-- ---- what the close says

pub closes_sent : sents_until ending_run Client 6 ≡ ids_sent ∷ close_sent 1 ∷ close_sent 2 ∷ []
unfolding client_acked application_close_at
closes_sent = refl

-- the application closed the client
abbrev said_call : Told
said_call = record { call = calls.Close close_call; answer = answers.Close; state = states.Open }

pub says_so : SaysWhy (seen_at ending_run Client 6).reason (until ending_run Client 6) (application_close close_said)
says_so = record { call = said_call; among = inr (inl refl); was_open = refl; close = close_call; called = refl; same = refl; begins = ([], refl) }

pub peer_shows : Shows ending_run Server 6 (Some (reasons.Peer (by_application close_said)))
peer_shows = record { served = refl; view = server_ended (closing_until 4072000000); there = refl; is = refl }

pub close_came : GaveClose ending_run Client 6 (by_application close_said)
close_came = record { sent = close_sent 1; among = subst (λ (ss : List Sent). In (close_sent 1) ss) (sym closes_sent) (inr (inl refl)); frame = application_close close_said; carried = inl refl; told_as = (refl, refl) }

-- ---- when it goes

pub owed_first : owed ending_run Client 3 ≡ true
owed_first = refl

pub owed_gone : owed ending_run Client 4 ≡ false
owed_gone = refl

pub owed_again : owed ending_run Client 5 ≡ true
owed_again = refl

pub owed_over : owed ending_run Client 6 ≡ false
owed_over = refl

pub may_close : MayClose ending_run Client 5
unfolding client_acked application_close_at
may_close = record { seals = lit< tt; small = lit< tt; near = lit< tt; validated = refl }

one_more_sent : sents_until ending_run Client 6 ≡ sents_until ending_run Client 5 ++ close_sent 2 ∷ []
unfolding client_acked application_close_at
one_more_sent = refl

pub gave_again : GaveOne ending_run Client 5 2000000000
gave_again = record { transmit = record { size = 34; ecn = Some Ect0; remote = 0 }; poll = record { event = refl; answer = refl }; served = refl; sent = close_sent 2; went = one_more_sent }

pub owed_so : ClosesAreOwed ending_run
owed_so Server i now gave closing = absurd (server_not_closing i closing)
owed_so Client zero now gave closing = absurd (is_open closing)
owed_so Client (suc zero) now gave closing = absurd (is_open closing)
owed_so Client (suc (suc zero)) now gave closing = absurd (is_open closing)
owed_so Client (suc (suc (suc zero))) now gave closing = refl
owed_so Client (suc (suc (suc (suc zero)))) now gave closing = let answer = gave.poll.answer in absurd cc
owed_so Client (suc (suc (suc (suc (suc zero))))) now gave closing = refl
owed_so Client (suc (suc (suc (suc (suc (suc zero)))))) now gave closing = let answer = gave.poll.answer in absurd cc
owed_so Client (suc (suc (suc (suc (suc (suc (suc zero))))))) now gave closing = let answer = gave.poll.answer in absurd cc
owed_so Client (suc (suc (suc (suc (suc (suc (suc (suc zero)))))))) now gave closing = absurd (is_drained_there closing)
owed_so Client (suc (suc (suc (suc (suc (suc (suc (suc (suc i))))))))) now gave closing = let answer = gave.poll.answer in absurd cc

-- one poll alone gives nothing, that of the drained client
pub go_so : OwedClosesGo ending_run
go_so side zero now served closing owes may at = let answer = at.answer in cc
go_so side (suc zero) now served closing owes may at = let answer = at.answer in cc
go_so side (suc (suc zero)) now served closing owes may at = let answer = at.answer in cc
go_so side (suc (suc (suc zero))) now served closing owes may at = let answer = at.answer in cc
go_so side (suc (suc (suc (suc zero)))) now served closing owes may at = let answer = at.answer in cc
go_so side (suc (suc (suc (suc (suc zero))))) now served closing owes may at = let answer = at.answer in cc
go_so side (suc (suc (suc (suc (suc (suc zero)))))) now served closing owes may at = let answer = at.answer in cc
go_so side (suc (suc (suc (suc (suc (suc (suc zero))))))) now served closing owes may at = let answer = at.answer in cc
go_so Client (suc (suc (suc (suc (suc (suc (suc (suc zero)))))))) now served closing owes may at = is_drained_there closing
go_so Server (suc (suc (suc (suc (suc (suc (suc (suc zero)))))))) now served closing owes may at = server_not_closing 8 closing
go_so side (suc (suc (suc (suc (suc (suc (suc (suc (suc i))))))))) now served closing owes may at = let answer = at.answer in cc

-- an end is open at a place, or closing, and not drained
not_drained : states.Open ≡ states.Drained → ⊥
not_drained e = cc

pub silent_so : DrainedAreSilent ending_run
silent_so Client zero now a at drained = absurd (not_drained drained)
silent_so Client (suc zero) now a at drained = absurd (not_drained drained)
silent_so Client (suc (suc zero)) now a at drained = absurd (not_drained drained)
silent_so Client (suc (suc (suc zero))) now a at drained = absurd (is_drained_there (sym drained))
silent_so Client (suc (suc (suc (suc zero)))) now a at drained = absurd (is_drained_there (sym drained))
silent_so Client (suc (suc (suc (suc (suc zero))))) now a at drained = absurd (is_drained_there (sym drained))
silent_so Client (suc (suc (suc (suc (suc (suc zero)))))) now a at drained = absurd (is_drained_there (sym drained))
silent_so Client (suc (suc (suc (suc (suc (suc (suc zero))))))) now a at drained = absurd (is_drained_there (sym drained))
silent_so Server zero now a at drained = absurd (not_drained drained)
silent_so Server (suc zero) now a at drained = absurd (not_drained drained)
silent_so Server (suc (suc zero)) now a at drained = absurd (not_drained drained)
silent_so Server (suc (suc (suc zero))) now a at drained = absurd (not_drained drained)
silent_so Server (suc (suc (suc (suc zero)))) now a at drained = absurd (not_drained drained)
silent_so Server (suc (suc (suc (suc (suc zero))))) now a at drained = absurd (not_drained drained)
silent_so Server (suc (suc (suc (suc (suc (suc zero)))))) now a at drained = absurd (not_drained drained)
silent_so Server (suc (suc (suc (suc (suc (suc (suc zero))))))) now a at drained = absurd (not_server (calls.Timeout 4072000000) (calls.Poll now) at.event)
silent_so side (suc (suc (suc (suc (suc (suc (suc (suc zero)))))))) now a at drained = let answer = at.answer in cc
silent_so side (suc (suc (suc (suc (suc (suc (suc (suc (suc i))))))))) now a at drained = let answer = at.answer in absurd cc
