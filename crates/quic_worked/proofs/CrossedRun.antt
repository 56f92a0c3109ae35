-- The run in which one acknowledgement names datagrams of both paths of a server, event by event.
use Rattle.std.proofs.Common.{◌≡◌, [], ◌∷◌, replicate, Some, None, refl, inl}
use Rattle.quic_wire_core.specs.declared.stream_id.Side.TheVariants.{Server}
use Rattle.quic_machine.specs.declared.answers.Received.TheVariants as receives
use Rattle.quic_machine.specs.declared.run.Answer.TheVariants as answers
use Rattle.quic_machine.specs.Machine.{IsStep, Follows, view_of}
use Rattle.quic_headline.specs.Observer.{loss_due, watch}
use Rattle.quic_headline.specs.Polls.{flying, bytes_flying}
use Rattle.quic_headline.specs.Headline.{IsHonest, IsRun}
use Rattle.quic_worked.specs.Worked.{worked_policies, both_steady, asks_datagram, gives_bytes, gives_unmarked, told_in, open_view, sent_view, view_with, waiting_view}
use Rattle.quic_worked.specs.Acknowledged.{client_acked}
use Rattle.quic_worked.specs.Losses.{asks_ping}
use Rattle.quic_worked.specs.Paired.{asks_server}
use Rattle.quic_worked.specs.Unvalidated.{far_view, server_pings}
use Rattle.quic_worked.specs.Migrated.{comes_from, injects_from, no_fixed_bit, gives_to}
use Rattle.quic_worked.specs.Crossed.{client_takes_at, crossed_events, crossed_answers, once_crossed, pinged_there, crossed_run, crossed_told}
use Rattle.quic_worked.proofs.Codes.{no_codes}
use Rattle.quic_worked.proofs.OwnIds.{honest_steady}
use Rattle.quic_worked.proofs.Steps.{StepsSo, steps_at}

step_0 : IsStep worked_policies (once_crossed 0) server_pings answers.Ping (once_crossed 1)
unfolding client_acked
step_0 =
    let s : StepsSo worked_policies (once_crossed 0) server_pings answers.Ping (once_crossed 1) = steps_at worked_policies both_steady crossed_events crossed_answers 0 server_pings answers.Ping _ _ refl refl refl in
    record { answer = refl; end = s.end; control = s.control; heard = s.heard; openings = tt; others = s.others; lacking = tt }

step_seen_0 : record { client = open_view; server = open_view } ≡ view_of (once_crossed 1)
unfolding client_acked
step_seen_0 = refl

step_1 : IsStep worked_policies (once_crossed 1) asks_server (gives_bytes 223) (once_crossed 2)
unfolding client_acked
step_1 =
    let s : StepsSo worked_policies (once_crossed 1) asks_server (gives_bytes 223) (once_crossed 2) = steps_at worked_policies both_steady crossed_events crossed_answers 1 asks_server (gives_bytes 223) _ _ refl refl refl in
    record { answer = inl refl; end = s.end; control = s.control; heard = s.heard; openings = tt; others = s.others; lacking = tt }

step_seen_1 : record { client = open_view; server = sent_view } ≡ view_of (once_crossed 2)
unfolding client_acked
step_seen_1 = refl

step_2 : IsStep worked_policies (once_crossed 2) server_pings answers.Ping (once_crossed 3)
unfolding client_acked
step_2 =
    let s : StepsSo worked_policies (once_crossed 2) server_pings answers.Ping (once_crossed 3) = steps_at worked_policies both_steady crossed_events crossed_answers 2 server_pings answers.Ping _ _ refl refl refl in
    record { answer = refl; end = s.end; control = s.control; heard = s.heard; openings = tt; others = s.others; lacking = tt }

step_seen_2 : record { client = open_view; server = sent_view } ≡ view_of (once_crossed 3)
unfolding client_acked
step_seen_2 = refl

step_3 : IsStep worked_policies (once_crossed 3) asks_server (gives_bytes 29) (once_crossed 4)
unfolding client_acked
step_3 =
    let s : StepsSo worked_policies (once_crossed 3) asks_server (gives_bytes 29) (once_crossed 4) = steps_at worked_policies both_steady crossed_events crossed_answers 3 asks_server (gives_bytes 29) _ _ refl refl refl in
    record { answer = inl refl; end = s.end; control = s.control; heard = s.heard; openings = tt; others = s.others; lacking = tt }

step_seen_3 : record { client = open_view; server = sent_view } ≡ view_of (once_crossed 4)
unfolding client_acked
step_seen_3 = refl

step_4 : IsStep worked_policies (once_crossed 4) asks_ping answers.Ping (once_crossed 5)
unfolding client_acked
step_4 =
    let s : StepsSo worked_policies (once_crossed 4) asks_ping answers.Ping (once_crossed 5) = steps_at worked_policies both_steady crossed_events crossed_answers 4 asks_ping answers.Ping _ _ refl refl refl in
    record { answer = refl; end = s.end; control = s.control; heard = s.heard; openings = tt; others = s.others; lacking = tt }

step_seen_4 : record { client = open_view; server = sent_view } ≡ view_of (once_crossed 5)
unfolding client_acked
step_seen_4 = refl

step_5 : IsStep worked_policies (once_crossed 5) asks_datagram (gives_bytes 223) (once_crossed 6)
unfolding client_acked
step_5 =
    let s : StepsSo worked_policies (once_crossed 5) asks_datagram (gives_bytes 223) (once_crossed 6) = steps_at worked_policies both_steady crossed_events crossed_answers 5 asks_datagram (gives_bytes 223) _ _ refl refl refl in
    record { answer = inl refl; end = s.end; control = s.control; heard = s.heard; openings = tt; others = s.others; lacking = tt }

step_seen_5 : record { client = sent_view; server = sent_view } ≡ view_of (once_crossed 6)
unfolding client_acked
step_seen_5 = refl

step_6 : IsStep worked_policies (once_crossed 6) (comes_from 9 0) (answers.Deliver receives.Taken) (once_crossed 7)
unfolding client_acked
step_6 =
    let s : StepsSo worked_policies (once_crossed 6) (comes_from 9 0) (answers.Deliver receives.Taken) (once_crossed 7) = steps_at worked_policies both_steady crossed_events crossed_answers 6 (comes_from 9 0) (answers.Deliver receives.Taken) _ _ refl refl refl in
    record { answer = inl refl; end = s.end; control = s.control; heard = s.heard; openings = tt; others = s.others; lacking = tt }

step_seen_6 : record { client = sent_view; server = far_view (Some 1024000000) (Some 25000000) } ≡ view_of (once_crossed 7)
unfolding client_acked
step_seen_6 = refl

step_7 : IsStep worked_policies (once_crossed 7) (injects_from Server 9 (replicate 600 0x00)) no_fixed_bit (once_crossed 8)
unfolding client_acked
step_7 =
    let s : StepsSo worked_policies (once_crossed 7) (injects_from Server 9 (replicate 600 0x00)) no_fixed_bit (once_crossed 8) = steps_at worked_policies both_steady crossed_events crossed_answers 7 (injects_from Server 9 (replicate 600 0x00)) no_fixed_bit _ _ refl refl refl in
    record { answer = refl; end = s.end; control = s.control; heard = s.heard; openings = tt; others = s.others; lacking = tt }

step_seen_7 : record { client = sent_view; server = far_view (Some 1024000000) (Some 25000000) } ≡ view_of (once_crossed 8)
unfolding client_acked
step_seen_7 = refl

step_8 : IsStep worked_policies (once_crossed 8) asks_server (gives_to 9 1200) (once_crossed 9)
unfolding client_acked
step_8 =
    let s : StepsSo worked_policies (once_crossed 8) asks_server (gives_to 9 1200) (once_crossed 9) = steps_at worked_policies both_steady crossed_events crossed_answers 8 asks_server (gives_to 9 1200) _ _ refl refl refl in
    record { answer = inl refl; end = s.end; control = s.control; heard = s.heard; openings = tt; others = s.others; lacking = tt }

step_seen_8 : record { client = sent_view; server = far_view (Some 1024000000) None } ≡ view_of (once_crossed 9)
unfolding client_acked
step_seen_8 = refl

step_9 : IsStep worked_policies (once_crossed 9) server_pings answers.Ping (once_crossed 10)
unfolding client_acked
step_9 =
    let s : StepsSo worked_policies (once_crossed 9) server_pings answers.Ping (once_crossed 10) = steps_at worked_policies both_steady crossed_events crossed_answers 9 server_pings answers.Ping _ _ refl refl refl in
    record { answer = refl; end = s.end; control = s.control; heard = s.heard; openings = tt; others = s.others; lacking = tt }

step_seen_9 : record { client = sent_view; server = far_view (Some 1024000000) None } ≡ view_of (once_crossed 10)
unfolding client_acked
step_seen_9 = refl

step_10 : IsStep worked_policies (once_crossed 10) asks_server (gives_to 9 32) (once_crossed 11)
unfolding client_acked
step_10 =
    let s : StepsSo worked_policies (once_crossed 10) asks_server (gives_to 9 32) (once_crossed 11) = steps_at worked_policies both_steady crossed_events crossed_answers 10 asks_server (gives_to 9 32) _ _ refl refl refl in
    record { answer = inl refl; end = s.end; control = s.control; heard = s.heard; openings = tt; others = s.others; lacking = tt }

step_seen_10 : record { client = sent_view; server = far_view (Some 1024000000) None } ≡ view_of (once_crossed 11)
unfolding client_acked
step_seen_10 = refl

step_11 : IsStep worked_policies (once_crossed 11) server_pings answers.Ping (once_crossed 12)
unfolding client_acked
step_11 =
    let s : StepsSo worked_policies (once_crossed 11) server_pings answers.Ping (once_crossed 12) = steps_at worked_policies both_steady crossed_events crossed_answers 11 server_pings answers.Ping _ _ refl refl refl in
    record { answer = refl; end = s.end; control = s.control; heard = s.heard; openings = tt; others = s.others; lacking = tt }

step_seen_11 : record { client = sent_view; server = far_view (Some 1024000000) None } ≡ view_of (once_crossed 12)
unfolding client_acked
step_seen_11 = refl

step_12 : IsStep worked_policies (once_crossed 12) asks_server (gives_to 9 32) (once_crossed 13)
unfolding client_acked
step_12 =
    let s : StepsSo worked_policies (once_crossed 12) asks_server (gives_to 9 32) (once_crossed 13) = steps_at worked_policies both_steady crossed_events crossed_answers 12 asks_server (gives_to 9 32) _ _ refl refl refl in
    record { answer = inl refl; end = s.end; control = s.control; heard = s.heard; openings = tt; others = s.others; lacking = tt }

step_seen_12 : record { client = sent_view; server = far_view (Some 1024000000) None } ≡ view_of (once_crossed 13)
unfolding client_acked
step_seen_12 = refl

step_13 : IsStep worked_policies (once_crossed 13) server_pings answers.Ping (once_crossed 14)
unfolding client_acked
step_13 =
    let s : StepsSo worked_policies (once_crossed 13) server_pings answers.Ping (once_crossed 14) = steps_at worked_policies both_steady crossed_events crossed_answers 13 server_pings answers.Ping _ _ refl refl refl in
    record { answer = refl; end = s.end; control = s.control; heard = s.heard; openings = tt; others = s.others; lacking = tt }

step_seen_13 : record { client = sent_view; server = far_view (Some 1024000000) None } ≡ view_of (once_crossed 14)
unfolding client_acked
step_seen_13 = refl

step_14 : IsStep worked_policies (once_crossed 14) asks_server (gives_to 9 32) (once_crossed 15)
unfolding client_acked
step_14 =
    let s : StepsSo worked_policies (once_crossed 14) asks_server (gives_to 9 32) (once_crossed 15) = steps_at worked_policies both_steady crossed_events crossed_answers 14 asks_server (gives_to 9 32) _ _ refl refl refl in
    record { answer = inl refl; end = s.end; control = s.control; heard = s.heard; openings = tt; others = s.others; lacking = tt }

step_seen_14 : record { client = sent_view; server = far_view (Some 1024000000) None } ≡ view_of (once_crossed 15)
unfolding client_acked
step_seen_14 = refl

step_15 : IsStep worked_policies (once_crossed 15) (client_takes_at 1) (answers.Deliver receives.Taken) (once_crossed 16)
unfolding client_acked
step_15 =
    let s : StepsSo worked_policies (once_crossed 15) (client_takes_at 1) (answers.Deliver receives.Taken) (once_crossed 16) = steps_at worked_policies both_steady crossed_events crossed_answers 15 (client_takes_at 1) (answers.Deliver receives.Taken) _ _ refl refl refl in
    record { answer = inl refl; end = s.end; control = s.control; heard = s.heard; openings = tt; others = s.others; lacking = tt }

step_seen_15 : record { client = view_with (Some 1024000000) (Some 25000000); server = far_view (Some 1024000000) None } ≡ view_of (once_crossed 16)
unfolding client_acked
step_seen_15 = refl

step_16 : IsStep worked_policies (once_crossed 16) (client_takes_at 5) (answers.Deliver receives.Taken) (once_crossed 17)
unfolding client_acked
step_16 =
    let s : StepsSo worked_policies (once_crossed 16) (client_takes_at 5) (answers.Deliver receives.Taken) (once_crossed 17) = steps_at worked_policies both_steady crossed_events crossed_answers 16 (client_takes_at 5) (answers.Deliver receives.Taken) _ _ refl refl refl in
    record { answer = inl refl; end = s.end; control = s.control; heard = s.heard; openings = tt; others = s.others; lacking = tt }

step_seen_16 : record { client = waiting_view; server = far_view (Some 1024000000) None } ≡ view_of (once_crossed 17)
unfolding client_acked
step_seen_16 = refl

step_17 : IsStep worked_policies (once_crossed 17) asks_datagram (gives_unmarked 33) (once_crossed 18)
unfolding client_acked
step_17 =
    let s : StepsSo worked_policies (once_crossed 17) asks_datagram (gives_unmarked 33) (once_crossed 18) = steps_at worked_policies both_steady crossed_events crossed_answers 17 asks_datagram (gives_unmarked 33) _ _ refl refl refl in
    record { answer = inl refl; end = s.end; control = s.control; heard = s.heard; openings = tt; others = s.others; lacking = tt }

step_seen_17 : record { client = open_view; server = far_view (Some 1024000000) None } ≡ view_of (once_crossed 18)
unfolding client_acked
step_seen_17 = refl

step_18 : IsStep worked_policies (once_crossed 18) (comes_from 9 1) (answers.Deliver receives.Taken) (once_crossed 19)
unfolding client_acked
step_18 =
    let s : StepsSo worked_policies (once_crossed 18) (comes_from 9 1) (answers.Deliver receives.Taken) (once_crossed 19) = steps_at worked_policies both_steady crossed_events crossed_answers 18 (comes_from 9 1) (answers.Deliver receives.Taken) _ _ refl refl refl in
    record { answer = inl refl; end = s.end; control = s.control; heard = s.heard; openings = tt; others = s.others; lacking = tt }

step_seen_18 : record { client = open_view; server = far_view (Some 1000000) None } ≡ view_of (once_crossed 19)
unfolding client_acked
step_seen_18 = refl

follows : Follows crossed_run.keys crossed_run.start crossed_run.events crossed_run.answers crossed_run.views (once_crossed 19)
follows = (once_crossed 1, step_0, step_seen_0, (once_crossed 2, step_1, step_seen_1, (once_crossed 3, step_2, step_seen_2, (once_crossed 4, step_3, step_seen_3, (once_crossed 5, step_4, step_seen_4, (once_crossed 6, step_5, step_seen_5, (once_crossed 7, step_6, step_seen_6, (once_crossed 8, step_7, step_seen_7, (once_crossed 9, step_8, step_seen_8, (once_crossed 10, step_9, step_seen_9, (once_crossed 11, step_10, step_seen_10, (once_crossed 12, step_11, step_seen_11, (once_crossed 13, step_12, step_seen_12, (once_crossed 14, step_13, step_seen_13, (once_crossed 15, step_14, step_seen_14, (once_crossed 16, step_15, step_seen_15, (once_crossed 17, step_16, step_seen_16, (once_crossed 18, step_17, step_seen_17, (once_crossed 19, step_18, step_seen_18, refl)))))))))))))))))))

gave_two : crossed_run.from_client ≡ (once_crossed 19).from_client
unfolding client_acked
gave_two = refl

gave_six : crossed_run.from_server ≡ (once_crossed 19).from_server
unfolding client_acked
gave_six = refl

pub crossed_is_run : IsRun crossed_run (once_crossed 19)
crossed_is_run = record { codes = no_codes crossed_run.events refl; follows = follows; from_client = gave_two; from_server = gave_six }

pub crossed_is_honest : IsHonest crossed_run
crossed_is_honest = honest_steady crossed_run (record { start = refl; keys = refl; client = (tt, (tt, (tt, (tt, (tt, (tt, (tt, (tt, (tt, (tt, (tt, (tt, (tt, (tt, (tt, (tt, (tt, (tt, (tt, tt))))))))))))))))))); server = (tt, (tt, (tt, (tt, (tt, (tt, (tt, (tt, (tt, (tt, (tt, (tt, (tt, (tt, (tt, (tt, (tt, (tt, (tt, tt))))))))))))))))))) })

pub flies_before : bytes_flying crossed_run Server 18 ≡ 1296
unfolding client_acked
flies_before = refl

pub flies_behind : flying crossed_run Server 19 ≡ pinged_there 3 ∷ pinged_there 4 ∷ []
unfolding client_acked
flies_behind = refl

pub lost_then : loss_due (watch crossed_run Server 19).flight ≡ Some 1000000
unfolding client_acked
lost_then = refl

pub told_so : told_in Server worked_policies both_steady crossed_events crossed_answers ≡ crossed_told
unfolding client_acked
told_so = refl
