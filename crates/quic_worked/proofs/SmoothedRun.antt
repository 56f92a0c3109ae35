-- The run in which two round trips are measured, event by event, what an observer reckons of it,
-- and machines that go wrong there.
use Rattle.std.proofs.Common.{◌≡◌, ℕ, zero, suc, true, List, Option, Some, None, Ok, refl, inl, sym, ap, ◌∙◌, subst, lit<, lit≤, arith}
use Rattle.std.specs.Prelude.{slice_get}
use Rattle.quic_wire_core.specs.declared.stream_id.Side.TheVariants.{Client, Server}
use Rattle.quic_config.specs.Transport.{IsInRange}
use Rattle.quic_machine.specs.declared.answers.Received.TheVariants as receives
use Rattle.quic_machine.specs.declared.run.Answer.TheVariants as answers
use Rattle.quic_machine.specs.declared.run.View.{View}
use Rattle.quic_machine.specs.End.{IsMade}
use Rattle.quic_machine.specs.Start.{AreStarted}
use Rattle.quic_machine.specs.Machine.{IsStep, Follows, view_of}
use Rattle.quic_machine.specs.RunLaws.{one_run}
use Rattle.quic_headline.specs.Observer.{watch}
use Rattle.quic_headline.specs.Headline.{IsHonest, IsRun}
use Rattle.quic_headline.specs.Moments.{LossMoments}
use Rattle.quic_worked.specs.Worked.{worked_policies, steady, shut, client_id, server_id, gives_bytes, gives_unmarked}
use Rattle.quic_worked.specs.Acknowledged.{client_acked}
use Rattle.quic_worked.specs.Losses.{asks_ping}
use Rattle.quic_worked.specs.Timed.{serves, asks_at, seen_with, due_at, NeverShows}
use Rattle.quic_worked.specs.Smoothed.{smoothed_settings, smoothed_start, brings, smoothed_events, smoothed_answers, once_smoothed, smoothed_seen, smoothed_run, undelayed_run, hasty_rtt, shortened_rtt}
use Rattle.quic_worked.proofs.Codes.{no_codes}
use Rattle.quic_worked.proofs.OwnIds.{honest_from}
use Rattle.quic_worked.proofs.Steps.{StepsSo, steps_at}
use Rattle.quic_worked.proofs.TimedRun.{shows, moment_in, moment_of}
use Rattle.quic_worked.proofs.WorkedHonest.{in_range, making}
use Rattle.quic_worked.proofs.WorkedRun.{parameters_say, server_is_made}

-- ---- the premises

smoothed_range : IsInRange smoothed_settings
smoothed_range = record { receive_window = lit< tt; stream_receive_window = lit< tt; bounds = record { bidi = lit≤ tt; uni = lit≤ tt; divides = lit< tt; initial = lit≤ tt; least = lit≤ tt }; search = tt }

-- the client's parameters say nothing of what it assumes
pub smoothed_started : AreStarted smoothed_start
smoothed_started = record {
  client_making = record (making client_id) { settings = smoothed_settings };
  server_making = record (making server_id) { windows = shut };
  client_is = record { range = smoothed_range; sizes = lit≤ tt; says = parameters_say; id = refl };
  server_is = record { range = in_range; sizes = lit≤ tt; says = parameters_say; id = refl };
  client = subst (λ read. IsMade Client smoothed_settings steady read client_id server_id 0 0 true (λ n. 63) smoothed_start.client) (sym parameters_say) refl;
  server = server_is_made;
  client_gave = refl;
  server_gave = refl;
  client_heard = refl;
  server_heard = refl;
}

pub smoothed_is_honest : (second third : ℕ) → IsHonest (smoothed_seen second third)
smoothed_is_honest second third = honest_from smoothed_start smoothed_started (smoothed_seen second third) (record { start = refl; keys = refl; client = (tt, (tt, (tt, (tt, (tt, (tt, (tt, (tt, (tt, (tt, (tt, (tt, (tt, (tt, tt)))))))))))))); server = (tt, (tt, (tt, (tt, (tt, (tt, (tt, (tt, (tt, (tt, (tt, (tt, (tt, (tt, tt)))))))))))))) })

-- ---- the machine's run

pub step_0 : IsStep worked_policies smoothed_start asks_ping answers.Ping (once_smoothed 1)
unfolding once_smoothed
step_0 =
    let s : StepsSo worked_policies smoothed_start asks_ping answers.Ping (once_smoothed 1) = steps_at worked_policies smoothed_start smoothed_events smoothed_answers 0 asks_ping answers.Ping _ _ refl refl refl in
    record { answer = refl; end = s.end; control = s.control; heard = s.heard; openings = tt; others = s.others; lacking = tt }

pub seen_0 : seen_with None None ≡ view_of (once_smoothed 1)
unfolding once_smoothed
seen_0 = refl

pub step_1 : IsStep worked_policies (once_smoothed 1) (asks_at Client 0) (gives_bytes 223) (once_smoothed 2)
unfolding once_smoothed
step_1 =
    let s : StepsSo worked_policies (once_smoothed 1) (asks_at Client 0) (gives_bytes 223) (once_smoothed 2) = steps_at worked_policies smoothed_start smoothed_events smoothed_answers 1 (asks_at Client 0) (gives_bytes 223) _ _ refl refl refl in
    record { answer = inl refl; end = s.end; control = s.control; heard = s.heard; openings = tt; others = s.others; lacking = tt }

pub seen_1 : seen_with (Some 325000000) None ≡ view_of (once_smoothed 2)
unfolding once_smoothed
seen_1 = refl

pub step_2 : IsStep worked_policies (once_smoothed 2) (brings 0 Server 10000000) (answers.Deliver receives.Taken) (once_smoothed 3)
unfolding once_smoothed
step_2 =
    let s : StepsSo worked_policies (once_smoothed 2) (brings 0 Server 10000000) (answers.Deliver receives.Taken) (once_smoothed 3) = steps_at worked_policies smoothed_start smoothed_events smoothed_answers 2 (brings 0 Server 10000000) (answers.Deliver receives.Taken) _ _ refl refl refl in
    record { answer = inl refl; end = s.end; control = s.control; heard = s.heard; openings = tt; others = s.others; lacking = tt }

pub seen_2 : seen_with (Some 325000000) (Some 35000000) ≡ view_of (once_smoothed 3)
unfolding once_smoothed
seen_2 = refl

pub step_3 : IsStep worked_policies (once_smoothed 3) (serves Server 35000000) (answers.Timeout (Ok tt)) (once_smoothed 4)
unfolding once_smoothed
step_3 =
    let s : StepsSo worked_policies (once_smoothed 3) (serves Server 35000000) (answers.Timeout (Ok tt)) (once_smoothed 4) = steps_at worked_policies smoothed_start smoothed_events smoothed_answers 3 (serves Server 35000000) (answers.Timeout (Ok tt)) _ _ refl refl refl in
    record { answer = inl refl; end = s.end; control = s.control; heard = s.heard; openings = tt; others = s.others; lacking = tt }

pub seen_3 : seen_with (Some 325000000) None ≡ view_of (once_smoothed 4)
unfolding once_smoothed
seen_3 = refl

pub step_4 : IsStep worked_policies (once_smoothed 4) (asks_at Server 35000000) (gives_bytes 32) (once_smoothed 5)
unfolding once_smoothed
step_4 =
    let s : StepsSo worked_policies (once_smoothed 4) (asks_at Server 35000000) (gives_bytes 32) (once_smoothed 5) = steps_at worked_policies smoothed_start smoothed_events smoothed_answers 4 (asks_at Server 35000000) (gives_bytes 32) _ _ refl refl refl in
    record { answer = inl refl; end = s.end; control = s.control; heard = s.heard; openings = tt; others = s.others; lacking = tt }

pub seen_4 : seen_with (Some 325000000) None ≡ view_of (once_smoothed 5)
unfolding once_smoothed
seen_4 = refl

step_5 : IsStep worked_policies (once_smoothed 5) (brings 0 Client 50000000) (answers.Deliver receives.Taken) (once_smoothed 6)
unfolding once_smoothed
step_5 =
    let s : StepsSo worked_policies (once_smoothed 5) (brings 0 Client 50000000) (answers.Deliver receives.Taken) (once_smoothed 6) = steps_at worked_policies smoothed_start smoothed_events smoothed_answers 5 (brings 0 Client 50000000) (answers.Deliver receives.Taken) _ _ refl refl refl in
    record { answer = inl refl; end = s.end; control = s.control; heard = s.heard; openings = tt; others = s.others; lacking = tt }

seen_5 : seen_with None None ≡ view_of (once_smoothed 6)
unfolding once_smoothed
seen_5 = refl

step_6 : IsStep worked_policies (once_smoothed 6) asks_ping answers.Ping (once_smoothed 7)
unfolding once_smoothed
step_6 =
    let s : StepsSo worked_policies (once_smoothed 6) asks_ping answers.Ping (once_smoothed 7) = steps_at worked_policies smoothed_start smoothed_events smoothed_answers 6 asks_ping answers.Ping _ _ refl refl refl in
    record { answer = refl; end = s.end; control = s.control; heard = s.heard; openings = tt; others = s.others; lacking = tt }

seen_6 : seen_with None None ≡ view_of (once_smoothed 7)
unfolding once_smoothed
seen_6 = refl

step_7 : IsStep worked_policies (once_smoothed 7) (asks_at Client 60000000) (gives_unmarked 33) (once_smoothed 8)
unfolding once_smoothed
step_7 =
    let s : StepsSo worked_policies (once_smoothed 7) (asks_at Client 60000000) (gives_unmarked 33) (once_smoothed 8) = steps_at worked_policies smoothed_start smoothed_events smoothed_answers 7 (asks_at Client 60000000) (gives_unmarked 33) _ _ refl refl refl in
    record { answer = inl refl; end = s.end; control = s.control; heard = s.heard; openings = tt; others = s.others; lacking = tt }

seen_7 : seen_with (Some 235000000) None ≡ view_of (once_smoothed 8)
unfolding once_smoothed
seen_7 = refl

step_8 : IsStep worked_policies (once_smoothed 8) (brings 1 Server 70000000) (answers.Deliver receives.Taken) (once_smoothed 9)
unfolding once_smoothed
step_8 =
    let s : StepsSo worked_policies (once_smoothed 8) (brings 1 Server 70000000) (answers.Deliver receives.Taken) (once_smoothed 9) = steps_at worked_policies smoothed_start smoothed_events smoothed_answers 8 (brings 1 Server 70000000) (answers.Deliver receives.Taken) _ _ refl refl refl in
    record { answer = inl refl; end = s.end; control = s.control; heard = s.heard; openings = tt; others = s.others; lacking = tt }

seen_8 : seen_with (Some 235000000) (Some 95000000) ≡ view_of (once_smoothed 9)
unfolding once_smoothed
seen_8 = refl

step_9 : IsStep worked_policies (once_smoothed 9) (serves Server 95000000) (answers.Timeout (Ok tt)) (once_smoothed 10)
unfolding once_smoothed
step_9 =
    let s : StepsSo worked_policies (once_smoothed 9) (serves Server 95000000) (answers.Timeout (Ok tt)) (once_smoothed 10) = steps_at worked_policies smoothed_start smoothed_events smoothed_answers 9 (serves Server 95000000) (answers.Timeout (Ok tt)) _ _ refl refl refl in
    record { answer = inl refl; end = s.end; control = s.control; heard = s.heard; openings = tt; others = s.others; lacking = tt }

seen_9 : seen_with (Some 235000000) None ≡ view_of (once_smoothed 10)
unfolding once_smoothed
seen_9 = refl

step_10 : IsStep worked_policies (once_smoothed 10) (asks_at Server 95000000) (gives_unmarked 32) (once_smoothed 11)
unfolding once_smoothed
step_10 =
    let s : StepsSo worked_policies (once_smoothed 10) (asks_at Server 95000000) (gives_unmarked 32) (once_smoothed 11) = steps_at worked_policies smoothed_start smoothed_events smoothed_answers 10 (asks_at Server 95000000) (gives_unmarked 32) _ _ refl refl refl in
    record { answer = inl refl; end = s.end; control = s.control; heard = s.heard; openings = tt; others = s.others; lacking = tt }

seen_10 : seen_with (Some 235000000) None ≡ view_of (once_smoothed 11)
unfolding once_smoothed
seen_10 = refl

step_11 : IsStep worked_policies (once_smoothed 11) (brings 1 Client 160000000) (answers.Deliver receives.Taken) (once_smoothed 12)
unfolding once_smoothed
step_11 =
    let s : StepsSo worked_policies (once_smoothed 11) (brings 1 Client 160000000) (answers.Deliver receives.Taken) (once_smoothed 12) = steps_at worked_policies smoothed_start smoothed_events smoothed_answers 11 (brings 1 Client 160000000) (answers.Deliver receives.Taken) _ _ refl refl refl in
    record { answer = inl refl; end = s.end; control = s.control; heard = s.heard; openings = tt; others = s.others; lacking = tt }

seen_11 : seen_with None None ≡ view_of (once_smoothed 12)
unfolding once_smoothed
seen_11 = refl

step_12 : IsStep worked_policies (once_smoothed 12) asks_ping answers.Ping (once_smoothed 13)
unfolding once_smoothed
step_12 =
    let s : StepsSo worked_policies (once_smoothed 12) asks_ping answers.Ping (once_smoothed 13) = steps_at worked_policies smoothed_start smoothed_events smoothed_answers 12 asks_ping answers.Ping _ _ refl refl refl in
    record { answer = refl; end = s.end; control = s.control; heard = s.heard; openings = tt; others = s.others; lacking = tt }

seen_12 : seen_with None None ≡ view_of (once_smoothed 13)
unfolding once_smoothed
seen_12 = refl

step_13 : IsStep worked_policies (once_smoothed 13) (asks_at Client 160000000) (gives_unmarked 32) (once_smoothed 14)
unfolding once_smoothed
step_13 =
    let s : StepsSo worked_policies (once_smoothed 13) (asks_at Client 160000000) (gives_unmarked 32) (once_smoothed 14) = steps_at worked_policies smoothed_start smoothed_events smoothed_answers 13 (asks_at Client 160000000) (gives_unmarked 32) _ _ refl refl refl in
    record { answer = inl refl; end = s.end; control = s.control; heard = s.heard; openings = tt; others = s.others; lacking = tt }

seen_13 : seen_with (Some 338125000) None ≡ view_of (once_smoothed 14)
unfolding once_smoothed
seen_13 = refl

follows : Follows smoothed_run.keys smoothed_run.start smoothed_run.events smoothed_run.answers smoothed_run.views (once_smoothed 14)
follows = (once_smoothed 1, step_0, seen_0, (once_smoothed 2, step_1, seen_1, (once_smoothed 3, step_2, seen_2, (once_smoothed 4, step_3, seen_3, (once_smoothed 5, step_4, seen_4, (once_smoothed 6, step_5, seen_5, (once_smoothed 7, step_6, seen_6, (once_smoothed 8, step_7, seen_7, (once_smoothed 9, step_8, seen_8, (once_smoothed 10, step_9, seen_9, (once_smoothed 11, step_10, seen_10, (once_smoothed 12, step_11, seen_11, (once_smoothed 13, step_12, seen_12, (once_smoothed 14, step_13, seen_13, refl))))))))))))))

gave_three : smoothed_run.from_client ≡ (once_smoothed 14).from_client
unfolding once_smoothed
gave_three = refl

gave_two : smoothed_run.from_server ≡ (once_smoothed 14).from_server
unfolding once_smoothed
gave_two = refl

pub smoothed_is_run : IsRun smoothed_run (once_smoothed 14)
smoothed_is_run = record { codes = no_codes smoothed_run.events refl; follows = follows; from_client = gave_three; from_server = gave_two }

-- ---- what is reckoned

pub none_measured : (watch smoothed_run Client 5).flight.rtt ≡ record { latest = 100000000; smoothed = None; var = 50000000; least = 100000000 }
unfolding client_acked
none_measured = refl

pub one_measured : (watch smoothed_run Client 6).flight.rtt ≡ record { latest = 50000000; smoothed = Some 50000000; var = 25000000; least = 50000000 }
unfolding client_acked
one_measured = refl

pub two_measured : (watch smoothed_run Client 12).flight.rtt ≡ record { latest = 100000000; smoothed = Some 53125000; var = 25000000; least = 50000000 }
unfolding client_acked
two_measured = refl

pub due_0 : due_at smoothed_run Client 1 ≡ None
unfolding client_acked
due_0 = refl

pub due_1 : due_at smoothed_run Client 2 ≡ Some 325000000
unfolding client_acked
due_1 = refl

pub due_2 : due_at smoothed_run Client 3 ≡ Some 325000000
unfolding client_acked
due_2 = refl

pub due_3 : due_at smoothed_run Client 4 ≡ Some 325000000
unfolding client_acked
due_3 = refl

pub due_4 : due_at smoothed_run Client 5 ≡ Some 325000000
unfolding client_acked
due_4 = refl

pub due_5 : due_at smoothed_run Client 6 ≡ None
unfolding client_acked
due_5 = refl

pub due_6 : due_at smoothed_run Client 7 ≡ None
unfolding client_acked
due_6 = refl

pub due_7 : due_at smoothed_run Client 8 ≡ Some 235000000
unfolding client_acked
due_7 = refl

pub due_8 : due_at smoothed_run Client 9 ≡ Some 235000000
unfolding client_acked
due_8 = refl

pub due_9 : due_at smoothed_run Client 10 ≡ Some 235000000
unfolding client_acked
due_9 = refl

pub due_10 : due_at smoothed_run Client 11 ≡ Some 235000000
unfolding client_acked
due_10 = refl

pub due_11 : due_at smoothed_run Client 12 ≡ None
unfolding client_acked
due_11 = refl

pub due_12 : due_at smoothed_run Client 13 ≡ None
unfolding client_acked
due_12 = refl

pub due_13 : due_at smoothed_run Client 14 ≡ Some 338125000
unfolding client_acked
due_13 = refl

server_due_0 : due_at smoothed_run Server 1 ≡ None
unfolding client_acked
server_due_0 = refl

server_due_1 : due_at smoothed_run Server 2 ≡ None
unfolding client_acked
server_due_1 = refl

server_due_2 : due_at smoothed_run Server 3 ≡ None
unfolding client_acked
server_due_2 = refl

server_due_3 : due_at smoothed_run Server 4 ≡ None
unfolding client_acked
server_due_3 = refl

server_due_4 : due_at smoothed_run Server 5 ≡ None
unfolding client_acked
server_due_4 = refl

server_due_5 : due_at smoothed_run Server 6 ≡ None
unfolding client_acked
server_due_5 = refl

server_due_6 : due_at smoothed_run Server 7 ≡ None
unfolding client_acked
server_due_6 = refl

server_due_7 : due_at smoothed_run Server 8 ≡ None
unfolding client_acked
server_due_7 = refl

server_due_8 : due_at smoothed_run Server 9 ≡ None
unfolding client_acked
server_due_8 = refl

server_due_9 : due_at smoothed_run Server 10 ≡ None
unfolding client_acked
server_due_9 = refl

server_due_10 : due_at smoothed_run Server 11 ≡ None
unfolding client_acked
server_due_10 = refl

server_due_11 : due_at smoothed_run Server 12 ≡ None
unfolding client_acked
server_due_11 = refl

server_due_12 : due_at smoothed_run Server 13 ≡ None
unfolding client_acked
server_due_12 = refl

server_due_13 : due_at smoothed_run Server 14 ≡ None
unfolding client_acked
server_due_13 = refl

pub smoothed_moments : LossMoments smoothed_run
smoothed_moments Client zero v served is opened = shows Client _ v _ _ is refl due_0
smoothed_moments Client (suc zero) v served is opened = shows Client _ v _ _ is refl due_1
smoothed_moments Client (suc (suc zero)) v served is opened = shows Client _ v _ _ is refl due_2
smoothed_moments Client (suc (suc (suc zero))) v served is opened = shows Client _ v _ _ is refl due_3
smoothed_moments Client (suc (suc (suc (suc zero)))) v served is opened = shows Client _ v _ _ is refl due_4
smoothed_moments Client (suc (suc (suc (suc (suc zero))))) v served is opened = shows Client _ v _ _ is refl due_5
smoothed_moments Client (suc (suc (suc (suc (suc (suc zero)))))) v served is opened = shows Client _ v _ _ is refl due_6
smoothed_moments Client (suc (suc (suc (suc (suc (suc (suc zero))))))) v served is opened = shows Client _ v _ _ is refl due_7
smoothed_moments Client (suc (suc (suc (suc (suc (suc (suc (suc zero)))))))) v served is opened = shows Client _ v _ _ is refl due_8
smoothed_moments Client (suc (suc (suc (suc (suc (suc (suc (suc (suc zero))))))))) v served is opened = shows Client _ v _ _ is refl due_9
smoothed_moments Client (suc (suc (suc (suc (suc (suc (suc (suc (suc (suc zero)))))))))) v served is opened = shows Client _ v _ _ is refl due_10
smoothed_moments Client (suc (suc (suc (suc (suc (suc (suc (suc (suc (suc (suc zero))))))))))) v served is opened = shows Client _ v _ _ is refl due_11
smoothed_moments Client (suc (suc (suc (suc (suc (suc (suc (suc (suc (suc (suc (suc zero)))))))))))) v served is opened = shows Client _ v _ _ is refl due_12
smoothed_moments Client (suc (suc (suc (suc (suc (suc (suc (suc (suc (suc (suc (suc (suc zero))))))))))))) v served is opened = shows Client _ v _ _ is refl due_13
smoothed_moments Client (suc (suc (suc (suc (suc (suc (suc (suc (suc (suc (suc (suc (suc (suc i)))))))))))))) v served is opened = cc
smoothed_moments Server zero v served is opened = shows Server _ v _ _ is refl server_due_0
smoothed_moments Server (suc zero) v served is opened = shows Server _ v _ _ is refl server_due_1
smoothed_moments Server (suc (suc zero)) v served is opened = shows Server _ v _ _ is refl server_due_2
smoothed_moments Server (suc (suc (suc zero))) v served is opened = shows Server _ v _ _ is refl server_due_3
smoothed_moments Server (suc (suc (suc (suc zero)))) v served is opened = shows Server _ v _ _ is refl server_due_4
smoothed_moments Server (suc (suc (suc (suc (suc zero))))) v served is opened = shows Server _ v _ _ is refl server_due_5
smoothed_moments Server (suc (suc (suc (suc (suc (suc zero)))))) v served is opened = shows Server _ v _ _ is refl server_due_6
smoothed_moments Server (suc (suc (suc (suc (suc (suc (suc zero))))))) v served is opened = shows Server _ v _ _ is refl server_due_7
smoothed_moments Server (suc (suc (suc (suc (suc (suc (suc (suc zero)))))))) v served is opened = shows Server _ v _ _ is refl server_due_8
smoothed_moments Server (suc (suc (suc (suc (suc (suc (suc (suc (suc zero))))))))) v served is opened = shows Server _ v _ _ is refl server_due_9
smoothed_moments Server (suc (suc (suc (suc (suc (suc (suc (suc (suc (suc zero)))))))))) v served is opened = shows Server _ v _ _ is refl server_due_10
smoothed_moments Server (suc (suc (suc (suc (suc (suc (suc (suc (suc (suc (suc zero))))))))))) v served is opened = shows Server _ v _ _ is refl server_due_11
smoothed_moments Server (suc (suc (suc (suc (suc (suc (suc (suc (suc (suc (suc (suc zero)))))))))))) v served is opened = shows Server _ v _ _ is refl server_due_12
smoothed_moments Server (suc (suc (suc (suc (suc (suc (suc (suc (suc (suc (suc (suc (suc zero))))))))))))) v served is opened = shows Server _ v _ _ is refl server_due_13
smoothed_moments Server (suc (suc (suc (suc (suc (suc (suc (suc (suc (suc (suc (suc (suc (suc i)))))))))))))) v served is opened = cc

-- ---- other moments

undelayed_due : due_at undelayed_run Client 14 ≡ Some 338125000
unfolding client_acked
undelayed_due = refl

pub undelayed_not : LossMoments undelayed_run → ⊥
undelayed_not h = let same : ◌≡◌ {A = ℕ} 366250000 338125000 = ap moment_in (h Client 13 (seen_with (Some 366250000) None) refl refl refl ∙ ap (λ (o : Option ℕ). Some o) undelayed_due) in absurd (omega arith)

pub never_undelayed : NeverShows undelayed_run
never_undelayed end f =
    let same = one_run worked_policies smoothed_answers smoothed_start smoothed_events undelayed_run.views smoothed_run.views end (once_smoothed 14) refl f follows in
    let moments : ◌≡◌ {A = ℕ} 366250000 338125000 = ap (λ (vs : List View). moment_of (slice_get vs 13)) same.0 in
    absurd (omega arith)

hasty_due : due_at hasty_rtt Client 14 ≡ Some 338125000
unfolding client_acked
hasty_due = refl

pub hasty_not : LossMoments hasty_rtt → ⊥
hasty_not h = let same : ◌≡◌ {A = ℕ} 341250000 338125000 = ap moment_in (h Client 13 (seen_with (Some 341250000) None) refl refl refl ∙ ap (λ (o : Option ℕ). Some o) hasty_due) in absurd (omega arith)

pub never_hasty : NeverShows hasty_rtt
never_hasty end f =
    let same = one_run worked_policies smoothed_answers smoothed_start smoothed_events hasty_rtt.views smoothed_run.views end (once_smoothed 14) refl f follows in
    let moments : ◌≡◌ {A = ℕ} 341250000 338125000 = ap (λ (vs : List View). moment_of (slice_get vs 13)) same.0 in
    absurd (omega arith)

shortened_due : due_at shortened_rtt Client 8 ≡ Some 235000000
unfolding client_acked
shortened_due = refl

pub shortened_not : LossMoments shortened_rtt → ⊥
shortened_not h = let same : ◌≡◌ {A = ℕ} 160000000 235000000 = ap moment_in (h Client 7 (seen_with (Some 160000000) None) refl refl refl ∙ ap (λ (o : Option ℕ). Some o) shortened_due) in absurd (omega arith)

pub never_shortened : NeverShows shortened_rtt
never_shortened end f =
    let same = one_run worked_policies smoothed_answers smoothed_start smoothed_events shortened_rtt.views smoothed_run.views end (once_smoothed 14) refl f follows in
    let moments : ◌≡◌ {A = ℕ} 160000000 235000000 = ap (λ (vs : List View). moment_of (slice_get vs 7)) same.0 in
    absurd (omega arith)
