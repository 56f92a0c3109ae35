-- The run in which datagrams are lost by number and by time, event by event, what an observer
-- reckons of it, and machines that go wrong there.
use Rattle.std.proofs.Common.{◌≡◌, ℕ, zero, suc, Bool, true, false, List, [], ◌∷◌, Option, Some, None, Ok, refl, inl, sym, ap, ◌∙◌, arith, length, map}
use Rattle.std.specs.Prelude.{slice_get}
use Rattle.quic_wire_core.specs.declared.stream_id.Side.TheVariants.{Client, Server}
use Rattle.quic_time.specs.Timers.{timer_at}
use Rattle.quic_time.specs.declared.timer.Timer.TheVariants.{LossDetection}
use Rattle.quic_machine.specs.declared.answers.Received.TheVariants as receives
use Rattle.quic_machine.specs.declared.answers.State.TheVariants as states
use Rattle.quic_machine.specs.declared.run.Answer.TheVariants as answers
use Rattle.quic_machine.specs.declared.run.View.{View}
use Rattle.quic_machine.specs.Machine.{World, IsStep, Follows, view_of}
use Rattle.quic_machine.specs.RunLaws.{one_run}
use Rattle.quic_headline.specs.InFlight.{in_flight, TracksAt}
use Rattle.quic_headline.specs.Headline.{IsRun, LossTimerFollows, LossTimersFollow}
use Rattle.quic_headline.specs.Moments.{LossMoments}
use Rattle.quic_worked.specs.Worked.{worked_policies, started, asks_datagram, gives_bytes}
use Rattle.quic_worked.specs.Acknowledged.{client_acked}
use Rattle.quic_worked.specs.Reordered.{delivers_at}
use Rattle.quic_worked.specs.Broken.{NeverLeads}
use Rattle.quic_worked.specs.Losses.{asks_ping}
use Rattle.quic_worked.specs.Paired.{asks_server}
use Rattle.quic_worked.specs.Timed.{serves, comes_at, seen_with, due_at, NeverShows}
use Rattle.quic_worked.specs.Measured.{measured_events, measured_answers, once_measured, measured_run, never_late, late_kept, timer_cleared, cleared}
use Rattle.quic_worked.proofs.Codes.{no_codes}
use Rattle.quic_worked.proofs.Waited.{as_many}
use Rattle.quic_worked.proofs.WrongRuns.{ends_here, step_on, NotTo}
use Rattle.quic_worked.proofs.TimedRun.{shows, moment_in, moment_of}
use Rattle.quic_worked.proofs.Steps.{counts_so}

-- ---- the machine's run

step_0 : IsStep worked_policies started asks_ping answers.Ping (once_measured 1)
unfolding once_measured
step_0 = record { answer = refl; end = refl; control = refl; heard = counts_so worked_policies started asks_ping answers.Ping; openings = tt; others = refl; lacking = tt }

seen_0 : (seen_with None None) ≡ view_of (once_measured 1)
unfolding once_measured
seen_0 = refl

step_1 : IsStep worked_policies (once_measured 1) asks_datagram (gives_bytes 223) (once_measured 2)
unfolding once_measured
step_1 = record { answer = inl refl; end = refl; control = refl; heard = counts_so worked_policies (once_measured 1) asks_datagram (gives_bytes 223); openings = tt; others = refl; lacking = tt }

seen_1 : (seen_with (Some 1024000000) None) ≡ view_of (once_measured 2)
unfolding once_measured
seen_1 = refl

step_2 : IsStep worked_policies (once_measured 2) asks_ping answers.Ping (once_measured 3)
unfolding once_measured
step_2 = record { answer = refl; end = refl; control = refl; heard = counts_so worked_policies (once_measured 2) asks_ping answers.Ping; openings = tt; others = refl; lacking = tt }

seen_2 : (seen_with (Some 1024000000) None) ≡ view_of (once_measured 3)
unfolding once_measured
seen_2 = refl

step_3 : IsStep worked_policies (once_measured 3) asks_datagram (gives_bytes 29) (once_measured 4)
unfolding once_measured
step_3 = record { answer = inl refl; end = refl; control = refl; heard = counts_so worked_policies (once_measured 3) asks_datagram (gives_bytes 29); openings = tt; others = refl; lacking = tt }

seen_3 : (seen_with (Some 1024000000) None) ≡ view_of (once_measured 4)
unfolding once_measured
seen_3 = refl

step_4 : IsStep worked_policies (once_measured 4) asks_ping answers.Ping (once_measured 5)
unfolding once_measured
step_4 = record { answer = refl; end = refl; control = refl; heard = counts_so worked_policies (once_measured 4) asks_ping answers.Ping; openings = tt; others = refl; lacking = tt }

seen_4 : (seen_with (Some 1024000000) None) ≡ view_of (once_measured 5)
unfolding once_measured
seen_4 = refl

step_5 : IsStep worked_policies (once_measured 5) asks_datagram (gives_bytes 29) (once_measured 6)
unfolding once_measured
step_5 = record { answer = inl refl; end = refl; control = refl; heard = counts_so worked_policies (once_measured 5) asks_datagram (gives_bytes 29); openings = tt; others = refl; lacking = tt }

seen_5 : (seen_with (Some 1024000000) None) ≡ view_of (once_measured 6)
unfolding once_measured
seen_5 = refl

step_6 : IsStep worked_policies (once_measured 6) asks_ping answers.Ping (once_measured 7)
unfolding once_measured
step_6 = record { answer = refl; end = refl; control = refl; heard = counts_so worked_policies (once_measured 6) asks_ping answers.Ping; openings = tt; others = refl; lacking = tt }

seen_6 : (seen_with (Some 1024000000) None) ≡ view_of (once_measured 7)
unfolding once_measured
seen_6 = refl

step_7 : IsStep worked_policies (once_measured 7) asks_datagram (gives_bytes 29) (once_measured 8)
unfolding once_measured
step_7 = record { answer = inl refl; end = refl; control = refl; heard = counts_so worked_policies (once_measured 7) asks_datagram (gives_bytes 29); openings = tt; others = refl; lacking = tt }

seen_7 : (seen_with (Some 1024000000) None) ≡ view_of (once_measured 8)
unfolding once_measured
seen_7 = refl

step_8 : IsStep worked_policies (once_measured 8) (delivers_at 3) (answers.Deliver receives.Taken) (once_measured 9)
unfolding once_measured
step_8 = record { answer = inl refl; end = refl; control = refl; heard = counts_so worked_policies (once_measured 8) (delivers_at 3) (answers.Deliver receives.Taken); openings = tt; others = refl; lacking = tt }

seen_8 : (seen_with (Some 1024000000) None) ≡ view_of (once_measured 9)
unfolding once_measured
seen_8 = refl

step_9 : IsStep worked_policies (once_measured 9) asks_server (gives_bytes 31) (once_measured 10)
unfolding once_measured
step_9 = record { answer = inl refl; end = refl; control = refl; heard = counts_so worked_policies (once_measured 9) asks_server (gives_bytes 31); openings = tt; others = refl; lacking = tt }

seen_9 : (seen_with (Some 1024000000) None) ≡ view_of (once_measured 10)
unfolding once_measured
seen_9 = refl

step_10 : IsStep worked_policies (once_measured 10) (comes_at Client 100000000) (answers.Deliver receives.Taken) (once_measured 11)
unfolding once_measured
step_10 = record { answer = inl refl; end = refl; control = refl; heard = counts_so worked_policies (once_measured 10) (comes_at Client 100000000) (answers.Deliver receives.Taken); openings = tt; others = refl; lacking = tt }

seen_10 : (seen_with (Some 112500000) None) ≡ view_of (once_measured 11)
unfolding once_measured
seen_10 = refl

step_11 : IsStep worked_policies (once_measured 11) (serves Client 112500000) (answers.Timeout (Ok tt)) (once_measured 12)
unfolding once_measured
step_11 = record { answer = inl refl; end = refl; control = refl; heard = counts_so worked_policies (once_measured 11) (serves Client 112500000) (answers.Timeout (Ok tt)); openings = tt; others = refl; lacking = tt }

seen_11 : (seen_with None None) ≡ view_of (once_measured 12)
unfolding once_measured
seen_11 = refl

follows : Follows measured_run.keys measured_run.start measured_run.events measured_run.answers measured_run.views (once_measured 12)
follows = (once_measured 1, step_0, seen_0, (once_measured 2, step_1, seen_1, (once_measured 3, step_2, seen_2, (once_measured 4, step_3, seen_3, (once_measured 5, step_4, seen_4, (once_measured 6, step_5, seen_5, (once_measured 7, step_6, seen_6, (once_measured 8, step_7, seen_7, (once_measured 9, step_8, seen_8, (once_measured 10, step_9, seen_9, (once_measured 11, step_10, seen_10, (once_measured 12, step_11, seen_11, refl))))))))))))

gave_four : measured_run.from_client ≡ (once_measured 12).from_client
unfolding once_measured
gave_four = refl

gave_one : measured_run.from_server ≡ (once_measured 12).from_server
unfolding once_measured
gave_one = refl

pub measured_is_run : IsRun measured_run (once_measured 12)
measured_is_run = record { codes = no_codes measured_run.events refl; follows = follows; from_client = gave_four; from_server = gave_one }

-- ---- what is waited for

pub rtt_is : (once_measured 11).client.path.rtt ≡ record { latest = 100000000; smoothed = Some 100000000; var = 50000000; least = 100000000 }
unfolding once_measured
rtt_is = refl

pub four_wait : map (λ p. p.0) (once_measured 10).client.tracking.packets ≡ 0 ∷ 1 ∷ 2 ∷ 3 ∷ []
unfolding once_measured
four_wait = refl

pub two_wait : map (λ p. p.0) (once_measured 11).client.tracking.packets ≡ 1 ∷ 2 ∷ []
unfolding once_measured
two_wait = refl

pub timer_is : timer_at LossDetection (once_measured 11).client.timers ≡ Some 112500000
unfolding once_measured
timer_is = refl

pub none_waits : (once_measured 12).client.tracking.packets ≡ []
unfolding once_measured
none_waits = refl

-- the observer waits for the same
pub two_fly : (once_measured 11).client.tracking.packets ≡ in_flight measured_run Client 11
unfolding once_measured
two_fly = refl

pub none_flies : in_flight measured_run Client 12 ≡ []
unfolding client_acked
none_flies = refl

-- ---- what is reckoned

due_0 : due_at measured_run Client 1 ≡ None
unfolding client_acked
due_0 = refl

due_1 : due_at measured_run Client 2 ≡ Some 1024000000
unfolding client_acked
due_1 = refl

due_2 : due_at measured_run Client 3 ≡ Some 1024000000
unfolding client_acked
due_2 = refl

due_3 : due_at measured_run Client 4 ≡ Some 1024000000
unfolding client_acked
due_3 = refl

due_4 : due_at measured_run Client 5 ≡ Some 1024000000
unfolding client_acked
due_4 = refl

due_5 : due_at measured_run Client 6 ≡ Some 1024000000
unfolding client_acked
due_5 = refl

due_6 : due_at measured_run Client 7 ≡ Some 1024000000
unfolding client_acked
due_6 = refl

due_7 : due_at measured_run Client 8 ≡ Some 1024000000
unfolding client_acked
due_7 = refl

due_8 : due_at measured_run Client 9 ≡ Some 1024000000
unfolding client_acked
due_8 = refl

pub due_9 : due_at measured_run Client 10 ≡ Some 1024000000
unfolding client_acked
due_9 = refl

pub due_10 : due_at measured_run Client 11 ≡ Some 112500000
unfolding client_acked
due_10 = refl

pub due_11 : due_at measured_run Client 12 ≡ None
unfolding client_acked
due_11 = refl

server_due_0 : due_at measured_run Server 1 ≡ None
unfolding client_acked
server_due_0 = refl

server_due_1 : due_at measured_run Server 2 ≡ None
unfolding client_acked
server_due_1 = refl

server_due_2 : due_at measured_run Server 3 ≡ None
unfolding client_acked
server_due_2 = refl

server_due_3 : due_at measured_run Server 4 ≡ None
unfolding client_acked
server_due_3 = refl

server_due_4 : due_at measured_run Server 5 ≡ None
unfolding client_acked
server_due_4 = refl

server_due_5 : due_at measured_run Server 6 ≡ None
unfolding client_acked
server_due_5 = refl

server_due_6 : due_at measured_run Server 7 ≡ None
unfolding client_acked
server_due_6 = refl

server_due_7 : due_at measured_run Server 8 ≡ None
unfolding client_acked
server_due_7 = refl

server_due_8 : due_at measured_run Server 9 ≡ None
unfolding client_acked
server_due_8 = refl

server_due_9 : due_at measured_run Server 10 ≡ None
unfolding client_acked
server_due_9 = refl

server_due_10 : due_at measured_run Server 11 ≡ None
unfolding client_acked
server_due_10 = refl

server_due_11 : due_at measured_run Server 12 ≡ None
unfolding client_acked
server_due_11 = refl

pub measured_moments : LossMoments measured_run
measured_moments Client zero v served is opened = shows Client _ v _ _ is refl due_0
measured_moments Client (suc zero) v served is opened = shows Client _ v _ _ is refl due_1
measured_moments Client (suc (suc zero)) v served is opened = shows Client _ v _ _ is refl due_2
measured_moments Client (suc (suc (suc zero))) v served is opened = shows Client _ v _ _ is refl due_3
measured_moments Client (suc (suc (suc (suc zero)))) v served is opened = shows Client _ v _ _ is refl due_4
measured_moments Client (suc (suc (suc (suc (suc zero))))) v served is opened = shows Client _ v _ _ is refl due_5
measured_moments Client (suc (suc (suc (suc (suc (suc zero)))))) v served is opened = shows Client _ v _ _ is refl due_6
measured_moments Client (suc (suc (suc (suc (suc (suc (suc zero))))))) v served is opened = shows Client _ v _ _ is refl due_7
measured_moments Client (suc (suc (suc (suc (suc (suc (suc (suc zero)))))))) v served is opened = shows Client _ v _ _ is refl due_8
measured_moments Client (suc (suc (suc (suc (suc (suc (suc (suc (suc zero))))))))) v served is opened = shows Client _ v _ _ is refl due_9
measured_moments Client (suc (suc (suc (suc (suc (suc (suc (suc (suc (suc zero)))))))))) v served is opened = shows Client _ v _ _ is refl due_10
measured_moments Client (suc (suc (suc (suc (suc (suc (suc (suc (suc (suc (suc zero))))))))))) v served is opened = shows Client _ v _ _ is refl due_11
measured_moments Client (suc (suc (suc (suc (suc (suc (suc (suc (suc (suc (suc (suc i)))))))))))) v served is opened = cc
measured_moments Server zero v served is opened = shows Server _ v _ _ is refl server_due_0
measured_moments Server (suc zero) v served is opened = shows Server _ v _ _ is refl server_due_1
measured_moments Server (suc (suc zero)) v served is opened = shows Server _ v _ _ is refl server_due_2
measured_moments Server (suc (suc (suc zero))) v served is opened = shows Server _ v _ _ is refl server_due_3
measured_moments Server (suc (suc (suc (suc zero)))) v served is opened = shows Server _ v _ _ is refl server_due_4
measured_moments Server (suc (suc (suc (suc (suc zero))))) v served is opened = shows Server _ v _ _ is refl server_due_5
measured_moments Server (suc (suc (suc (suc (suc (suc zero)))))) v served is opened = shows Server _ v _ _ is refl server_due_6
measured_moments Server (suc (suc (suc (suc (suc (suc (suc zero))))))) v served is opened = shows Server _ v _ _ is refl server_due_7
measured_moments Server (suc (suc (suc (suc (suc (suc (suc (suc zero)))))))) v served is opened = shows Server _ v _ _ is refl server_due_8
measured_moments Server (suc (suc (suc (suc (suc (suc (suc (suc (suc zero))))))))) v served is opened = shows Server _ v _ _ is refl server_due_9
measured_moments Server (suc (suc (suc (suc (suc (suc (suc (suc (suc (suc zero)))))))))) v served is opened = shows Server _ v _ _ is refl server_due_10
measured_moments Server (suc (suc (suc (suc (suc (suc (suc (suc (suc (suc (suc zero))))))))))) v served is opened = shows Server _ v _ _ is refl server_due_11
measured_moments Server (suc (suc (suc (suc (suc (suc (suc (suc (suc (suc (suc (suc i)))))))))))) v served is opened = cc

-- ---- no datagram is late

late_due : due_at never_late Client 11 ≡ Some 112500000
unfolding client_acked
late_due = refl

pub late_not : LossMoments never_late → ⊥
late_not h = let same : ◌≡◌ {A = ℕ} 325000000 112500000 = ap moment_in (h Client 10 (seen_with (Some 325000000) None) refl refl refl ∙ ap (λ (o : Option ℕ). Some o) late_due) in absurd (omega arith)

pub never_shows_late : NeverShows never_late
never_shows_late end f =
    let same = one_run measured_run.keys measured_run.answers measured_run.start measured_run.events never_late.views measured_run.views end (once_measured 12) refl f follows in
    let moments : ◌≡◌ {A = ℕ} 325000000 112500000 = ap (λ (vs : List View). moment_of (slice_get vs 10)) same.0 in
    absurd (omega arith)

late_open : late_kept.client.closing.state ≡ states.Open
unfolding once_measured
late_open = refl

late_waits : length late_kept.client.tracking.packets ≡ 2
unfolding once_measured
late_waits = refl

two_none : ◌≡◌ {A = ℕ} 2 0 → ⊥
two_none e = omega (arith, e)

pub late_tracks : TracksAt measured_run 12 late_kept → ⊥
late_tracks h = two_none (sym late_waits ∙ as_many (h Client late_open) ∙ ap (λ ps. length ps) none_flies)

late_here : late_kept ≡ once_measured 12 → ⊥
late_here e = two_none (sym late_waits ∙ ap (λ (w : World). length w.client.tracking.packets) e ∙ ap (λ ps. length ps) none_waits)

not_late : NotTo late_kept measured_events measured_answers
not_late = step_on refl step_0 (step_on refl step_1 (step_on refl step_2 (step_on refl step_3 (step_on refl step_4 (step_on refl step_5 (step_on refl step_6 (step_on refl step_7 (step_on refl step_8 (step_on refl step_9 (step_on refl step_10 (step_on refl step_11 (ends_here late_here))))))))))))

pub late_leads : NeverLeads measured_events measured_answers late_kept
late_leads views f = not_late.never views late_kept f refl

-- ---- an acknowledgement stops the timer

cleared_due : due_at timer_cleared Client 11 ≡ Some 112500000
unfolding client_acked
cleared_due = refl

pub cleared_not : LossMoments timer_cleared → ⊥
cleared_not h = let same : ◌≡◌ {A = ℕ} 0 112500000 = ap moment_in (h Client 10 (seen_with None None) refl refl refl ∙ ap (λ (o : Option ℕ). Some o) cleared_due) in absurd (omega arith)

pub never_shows_cleared : NeverShows timer_cleared
never_shows_cleared end f =
    let same = one_run measured_run.keys measured_run.answers measured_run.start measured_run.events timer_cleared.views measured_run.views end (once_measured 12) refl f follows in
    let moments : ◌≡◌ {A = ℕ} 0 112500000 = ap (λ (vs : List View). moment_of (slice_get vs 10)) same.0 in
    absurd (omega arith)

waits : LossTimerFollows cleared.client → ⊥
unfolding once_measured
waits i = let clash : ◌≡◌ {A = Bool} false true = i refl in cc

pub cleared_follows : LossTimersFollow cleared → ⊥
cleared_follows i = waits i.0
