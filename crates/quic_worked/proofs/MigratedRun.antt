-- The run in which a server follows its peer to another address, event by event, and what the lists
-- say of it.
use Rattle.std.proofs.Common.{◌≡◌, ℕ, true, false, List, [], ◌∷◌, replicate, Option, Some, None, Ok, refl, inl, sym, subst}
use Rattle.quic_wire_core.specs.declared.stream_id.Side.TheVariants.{Server}
use Rattle.quic_machine.specs.declared.answers.Received.TheVariants as receives
use Rattle.quic_machine.specs.declared.run.Answer.TheVariants as answers
use Rattle.quic_machine.specs.Machine.{IsStep, Follows, view_of}
use Rattle.quic_headline.specs.Runs.{Packet, In}
use Rattle.quic_headline.specs.Observer.{watch, news, sents_until, peer_address, generation_at, path_changes}
use Rattle.quic_headline.specs.Allowance.{bytes_handed, bytes_given}
use Rattle.quic_headline.specs.InUse.{in_use}
use Rattle.quic_headline.specs.Spread.{pacer_at, pacer_anew}
use Rattle.quic_headline.specs.Polls.{seen_at, bytes_flying}
use Rattle.quic_headline.specs.Headline.{IsHonest, IsRun}
use Rattle.quic_headline.specs.Validated.{asking, IsLatest, AnswerCame, CameFromPeer, WasAnswered}
use Rattle.quic_worked.specs.Worked.{worked_policies, both_steady, id_word, opens_stream, writes_hello, asks_datagram, delivers, gives_bytes, gives_unmarked, open_view, sent_view, view_with, waiting_view}
use Rattle.quic_worked.specs.Acknowledged.{client_acked}
use Rattle.quic_worked.specs.Losses.{asks_ping}
use Rattle.quic_worked.specs.Paired.{asks_server, client_hears}
use Rattle.quic_worked.specs.Held.{gives_nothing}
use Rattle.quic_worked.specs.Unvalidated.{far_view, asks_state, tells_state}
use Rattle.quic_worked.specs.Migrated.{comes_from, injects_from, no_fixed_bit, gives_to, asks_validation, migrated_events, migrated_answers, once_migrated, moved_sent, back_packet, moved_view, asked_view, migrated_run}
use Rattle.quic_worked.proofs.Codes.{no_codes}
use Rattle.quic_worked.proofs.OwnIds.{honest_steady}
use Rattle.quic_worked.proofs.Steps.{StepsSo, steps_at}

-- ---- the machine's run

pub step_0 : IsStep worked_policies (once_migrated 0) opens_stream (answers.Open (Some 0)) (once_migrated 1)
unfolding client_acked
step_0 =
    let s : StepsSo worked_policies (once_migrated 0) opens_stream (answers.Open (Some 0)) (once_migrated 1) = steps_at worked_policies both_steady migrated_events migrated_answers 0 opens_stream (answers.Open (Some 0)) _ _ refl refl refl in
    record { answer = refl; end = s.end; control = s.control; heard = s.heard; openings = tt; others = s.others; lacking = tt }

pub step_seen_0 : record { client = open_view; server = open_view } ≡ view_of (once_migrated 1)
unfolding client_acked
step_seen_0 = refl

pub step_1 : IsStep worked_policies (once_migrated 1) writes_hello (answers.Write (Ok 5)) (once_migrated 2)
unfolding client_acked
step_1 =
    let s : StepsSo worked_policies (once_migrated 1) writes_hello (answers.Write (Ok 5)) (once_migrated 2) = steps_at worked_policies both_steady migrated_events migrated_answers 1 writes_hello (answers.Write (Ok 5)) _ _ refl refl refl in
    record { answer = inl refl; end = s.end; control = s.control; heard = s.heard; openings = tt; others = s.others; lacking = λ lacks. cc }

pub step_seen_1 : record { client = open_view; server = open_view } ≡ view_of (once_migrated 2)
unfolding client_acked
step_seen_1 = refl

pub step_2 : IsStep worked_policies (once_migrated 2) asks_datagram (gives_bytes 230) (once_migrated 3)
unfolding client_acked
step_2 =
    let s : StepsSo worked_policies (once_migrated 2) asks_datagram (gives_bytes 230) (once_migrated 3) = steps_at worked_policies both_steady migrated_events migrated_answers 2 asks_datagram (gives_bytes 230) _ _ refl refl refl in
    record { answer = inl refl; end = s.end; control = s.control; heard = s.heard; openings = tt; others = s.others; lacking = tt }

pub step_seen_2 : record { client = sent_view; server = open_view } ≡ view_of (once_migrated 3)
unfolding client_acked
step_seen_2 = refl

pub step_3 : IsStep worked_policies (once_migrated 3) delivers (answers.Deliver receives.Taken) (once_migrated 4)
unfolding client_acked
step_3 =
    let s : StepsSo worked_policies (once_migrated 3) delivers (answers.Deliver receives.Taken) (once_migrated 4) = steps_at worked_policies both_steady migrated_events migrated_answers 3 delivers (answers.Deliver receives.Taken) _ _ refl refl refl in
    record { answer = inl refl; end = s.end; control = s.control; heard = s.heard; openings = tt; others = s.others; lacking = tt }

pub step_seen_3 : record { client = sent_view; server = waiting_view } ≡ view_of (once_migrated 4)
unfolding client_acked
step_seen_3 = refl

pub step_4 : IsStep worked_policies (once_migrated 4) asks_ping answers.Ping (once_migrated 5)
unfolding client_acked
step_4 =
    let s : StepsSo worked_policies (once_migrated 4) asks_ping answers.Ping (once_migrated 5) = steps_at worked_policies both_steady migrated_events migrated_answers 4 asks_ping answers.Ping _ _ refl refl refl in
    record { answer = refl; end = s.end; control = s.control; heard = s.heard; openings = tt; others = s.others; lacking = tt }

pub step_seen_4 : record { client = sent_view; server = waiting_view } ≡ view_of (once_migrated 5)
unfolding client_acked
step_seen_4 = refl

pub step_5 : IsStep worked_policies (once_migrated 5) asks_datagram (gives_bytes 29) (once_migrated 6)
unfolding client_acked
step_5 =
    let s : StepsSo worked_policies (once_migrated 5) asks_datagram (gives_bytes 29) (once_migrated 6) = steps_at worked_policies both_steady migrated_events migrated_answers 5 asks_datagram (gives_bytes 29) _ _ refl refl refl in
    record { answer = inl refl; end = s.end; control = s.control; heard = s.heard; openings = tt; others = s.others; lacking = tt }

pub step_seen_5 : record { client = sent_view; server = waiting_view } ≡ view_of (once_migrated 6)
unfolding client_acked
step_seen_5 = refl

pub step_6 : IsStep worked_policies (once_migrated 6) (comes_from 9 1) (answers.Deliver receives.Taken) (once_migrated 7)
unfolding client_acked
step_6 =
    let s : StepsSo worked_policies (once_migrated 6) (comes_from 9 1) (answers.Deliver receives.Taken) (once_migrated 7) = steps_at worked_policies both_steady migrated_events migrated_answers 6 (comes_from 9 1) (answers.Deliver receives.Taken) _ _ refl refl refl in
    record { answer = inl refl; end = s.end; control = s.control; heard = s.heard; openings = tt; others = s.others; lacking = tt }

pub step_seen_6 : moved_view ≡ view_of (once_migrated 7)
unfolding client_acked
step_seen_6 = refl

pub step_7 : IsStep worked_policies (once_migrated 7) asks_state (tells_state false) (once_migrated 8)
unfolding client_acked
step_7 =
    let s : StepsSo worked_policies (once_migrated 7) asks_state (tells_state false) (once_migrated 8) = steps_at worked_policies both_steady migrated_events migrated_answers 7 asks_state (tells_state false) _ _ refl refl refl in
    record { answer = refl; end = s.end; control = s.control; heard = s.heard; openings = tt; others = s.others; lacking = tt }

pub step_seen_7 : moved_view ≡ view_of (once_migrated 8)
unfolding client_acked
step_seen_7 = refl

pub step_8 : IsStep worked_policies (once_migrated 8) asks_validation (answers.Timer (Some 3072000000)) (once_migrated 9)
unfolding client_acked
step_8 =
    let s : StepsSo worked_policies (once_migrated 8) asks_validation (answers.Timer (Some 3072000000)) (once_migrated 9) = steps_at worked_policies both_steady migrated_events migrated_answers 8 asks_validation (answers.Timer (Some 3072000000)) _ _ refl refl refl in
    record { answer = refl; end = s.end; control = s.control; heard = s.heard; openings = tt; others = s.others; lacking = tt }

pub step_seen_8 : moved_view ≡ view_of (once_migrated 9)
unfolding client_acked
step_seen_8 = refl

pub step_9 : IsStep worked_policies (once_migrated 9) asks_server gives_nothing (once_migrated 10)
unfolding client_acked
step_9 =
    let s : StepsSo worked_policies (once_migrated 9) asks_server gives_nothing (once_migrated 10) = steps_at worked_policies both_steady migrated_events migrated_answers 9 asks_server gives_nothing _ _ refl refl refl in
    record { answer = inl refl; end = s.end; control = s.control; heard = s.heard; openings = tt; others = s.others; lacking = tt }

pub step_seen_9 : moved_view ≡ view_of (once_migrated 10)
unfolding client_acked
step_seen_9 = refl

pub step_10 : IsStep worked_policies (once_migrated 10) (injects_from Server 9 (replicate 371 0x00)) no_fixed_bit (once_migrated 11)
unfolding client_acked
step_10 =
    let s : StepsSo worked_policies (once_migrated 10) (injects_from Server 9 (replicate 371 0x00)) no_fixed_bit (once_migrated 11) = steps_at worked_policies both_steady migrated_events migrated_answers 10 (injects_from Server 9 (replicate 371 0x00)) no_fixed_bit _ _ refl refl refl in
    record { answer = refl; end = s.end; control = s.control; heard = s.heard; openings = tt; others = s.others; lacking = tt }

pub step_seen_10 : moved_view ≡ view_of (once_migrated 11)
unfolding client_acked
step_seen_10 = refl

pub step_11 : IsStep worked_policies (once_migrated 11) asks_server (gives_to 9 1200) (once_migrated 12)
unfolding client_acked
step_11 =
    let s : StepsSo worked_policies (once_migrated 11) asks_server (gives_to 9 1200) (once_migrated 12) = steps_at worked_policies both_steady migrated_events migrated_answers 11 asks_server (gives_to 9 1200) _ _ refl refl refl in
    record { answer = inl refl; end = s.end; control = s.control; heard = s.heard; openings = tt; others = s.others; lacking = tt }

pub step_seen_11 : asked_view ≡ view_of (once_migrated 12)
unfolding client_acked
step_seen_11 = refl

pub step_12 : IsStep worked_policies (once_migrated 12) asks_server gives_nothing (once_migrated 13)
unfolding client_acked
step_12 =
    let s : StepsSo worked_policies (once_migrated 12) asks_server gives_nothing (once_migrated 13) = steps_at worked_policies both_steady migrated_events migrated_answers 12 asks_server gives_nothing _ _ refl refl refl in
    record { answer = inl refl; end = s.end; control = s.control; heard = s.heard; openings = tt; others = s.others; lacking = tt }

pub step_seen_12 : asked_view ≡ view_of (once_migrated 13)
unfolding client_acked
step_seen_12 = refl

pub step_13 : IsStep worked_policies (once_migrated 13) client_hears (answers.Deliver receives.Taken) (once_migrated 14)
unfolding client_acked
step_13 =
    let s : StepsSo worked_policies (once_migrated 13) client_hears (answers.Deliver receives.Taken) (once_migrated 14) = steps_at worked_policies both_steady migrated_events migrated_answers 13 client_hears (answers.Deliver receives.Taken) _ _ refl refl refl in
    record { answer = inl refl; end = s.end; control = s.control; heard = s.heard; openings = tt; others = s.others; lacking = tt }

pub step_seen_13 : record { client = waiting_view; server = far_view (Some 1024000000) None } ≡ view_of (once_migrated 14)
unfolding client_acked
step_seen_13 = refl

pub step_14 : IsStep worked_policies (once_migrated 14) asks_datagram (gives_unmarked 1200) (once_migrated 15)
unfolding client_acked
step_14 =
    let s : StepsSo worked_policies (once_migrated 14) asks_datagram (gives_unmarked 1200) (once_migrated 15) = steps_at worked_policies both_steady migrated_events migrated_answers 14 asks_datagram (gives_unmarked 1200) _ _ refl refl refl in
    record { answer = inl refl; end = s.end; control = s.control; heard = s.heard; openings = tt; others = s.others; lacking = tt }

pub step_seen_14 : record { client = view_with (Some 26000000) None; server = far_view (Some 1024000000) None } ≡ view_of (once_migrated 15)
unfolding client_acked
step_seen_14 = refl

pub step_15 : IsStep worked_policies (once_migrated 15) (comes_from 9 2) (answers.Deliver receives.Taken) (once_migrated 16)
unfolding client_acked
step_15 =
    let s : StepsSo worked_policies (once_migrated 15) (comes_from 9 2) (answers.Deliver receives.Taken) (once_migrated 16) = steps_at worked_policies both_steady migrated_events migrated_answers 15 (comes_from 9 2) (answers.Deliver receives.Taken) _ _ refl refl refl in
    record { answer = inl refl; end = s.end; control = s.control; heard = s.heard; openings = tt; others = s.others; lacking = tt }

pub step_seen_15 : record { client = view_with (Some 26000000) None; server = waiting_view } ≡ view_of (once_migrated 16)
unfolding client_acked
step_seen_15 = refl

pub step_16 : IsStep worked_policies (once_migrated 16) asks_state (tells_state true) (once_migrated 17)
unfolding client_acked
step_16 =
    let s : StepsSo worked_policies (once_migrated 16) asks_state (tells_state true) (once_migrated 17) = steps_at worked_policies both_steady migrated_events migrated_answers 16 asks_state (tells_state true) _ _ refl refl refl in
    record { answer = refl; end = s.end; control = s.control; heard = s.heard; openings = tt; others = s.others; lacking = tt }

pub step_seen_16 : record { client = view_with (Some 26000000) None; server = waiting_view } ≡ view_of (once_migrated 17)
unfolding client_acked
step_seen_16 = refl

pub follows : Follows migrated_run.keys migrated_run.start migrated_run.events migrated_run.answers migrated_run.views (once_migrated 17)
follows = (once_migrated 1, step_0, step_seen_0, (once_migrated 2, step_1, step_seen_1, (once_migrated 3, step_2, step_seen_2, (once_migrated 4, step_3, step_seen_3, (once_migrated 5, step_4, step_seen_4, (once_migrated 6, step_5, step_seen_5, (once_migrated 7, step_6, step_seen_6, (once_migrated 8, step_7, step_seen_7, (once_migrated 9, step_8, step_seen_8, (once_migrated 10, step_9, step_seen_9, (once_migrated 11, step_10, step_seen_10, (once_migrated 12, step_11, step_seen_11, (once_migrated 13, step_12, step_seen_12, (once_migrated 14, step_13, step_seen_13, (once_migrated 15, step_14, step_seen_14, (once_migrated 16, step_15, step_seen_15, (once_migrated 17, step_16, step_seen_16, refl)))))))))))))))))

gave_three : migrated_run.from_client ≡ (once_migrated 17).from_client
unfolding client_acked
gave_three = refl

pub gave_one : migrated_run.from_server ≡ (once_migrated 17).from_server
unfolding client_acked
gave_one = refl

pub migrated_is_run : IsRun migrated_run (once_migrated 17)
migrated_is_run = record { codes = no_codes migrated_run.events refl; follows = follows; from_client = gave_three; from_server = gave_one }

pub migrated_is_honest : IsHonest migrated_run
migrated_is_honest = honest_steady migrated_run (record { start = refl; keys = refl; client = (tt, (inl refl, (tt, (tt, (tt, (tt, (tt, (tt, (tt, (tt, (tt, (tt, (tt, (tt, (tt, (tt, (tt, tt))))))))))))))))); server = (tt, (tt, (tt, (tt, (tt, (tt, (tt, (tt, (tt, (tt, (tt, (tt, (tt, (tt, (tt, (tt, (tt, tt))))))))))))))))) })

-- ---- where the peer is

pub there_before : peer_address migrated_run Server 6 ≡ 0
unfolding client_acked
there_before = refl

pub there_behind : peer_address migrated_run Server 7 ≡ 9
unfolding client_acked
there_behind = refl

pub first_path : generation_at migrated_run Server 6 ≡ 0
unfolding client_acked
first_path = refl

pub second_path : generation_at migrated_run Server 17 ≡ 1
unfolding client_acked
second_path = refl

pub changes : path_changes migrated_run Server 6 ≡ true
unfolding client_acked
changes = refl

pub stays_then : path_changes migrated_run Server 15 ≡ false
unfolding client_acked
stays_then = refl

pub valid_before : (seen_at migrated_run Server 6).validated ≡ true
valid_before = refl

pub not_behind : (seen_at migrated_run Server 7).validated ≡ false
not_behind = refl

pub valid_then : (seen_at migrated_run Server 16).validated ≡ true
valid_then = refl

-- ---- what came and went there

pub came_first : bytes_handed migrated_run Server 7 ≡ 29
unfolding client_acked
came_first = refl

pub none_went : bytes_given migrated_run Server 7 ≡ 0
unfolding client_acked
none_went = refl

pub came_more : bytes_handed migrated_run Server 11 ≡ 400
unfolding client_acked
came_more = refl

pub one_went : bytes_given migrated_run Server 12 ≡ 1200
unfolding client_acked
one_went = refl

pub came_all : bytes_handed migrated_run Server 17 ≡ 1600
unfolding client_acked
came_all = refl

pub sent_there : sents_until migrated_run Server 17 ≡ moved_sent ∷ []
unfolding client_acked
sent_there = refl

pub flying_there : bytes_flying migrated_run Server 12 ≡ 1200
unfolding client_acked
flying_there = refl

pub paced_anew : pacer_at migrated_run Server 7 ≡ pacer_anew migrated_run Server 7
unfolding client_acked
paced_anew = refl

-- ---- the id in use

pub first_used : in_use migrated_run (λ n. false) Server 6 ≡ 0
unfolding client_acked
first_used = refl

pub next_used : in_use migrated_run (λ n. false) Server 7 ≡ 1
unfolding client_acked
next_used = refl

-- ---- what was asked, and answered

came_alone : news (watch migrated_run Server 15).intake (watch migrated_run Server 16).intake ≡ back_packet ∷ []
unfolding client_acked
came_alone = refl

asked_last : (asking migrated_run Server 15).latest ≡ Some id_word
unfolding client_acked
asked_last = refl

pub may_ask : (asking migrated_run Server 7).renewed ≡ true
unfolding client_acked
may_ask = refl

pub not_renewed : (asking migrated_run Server 15).renewed ≡ false
unfolding client_acked
not_renewed = refl

answer_came : AnswerCame migrated_run Server 15 id_word
answer_came = record { packet = back_packet; came = subst (λ (ps : List Packet). In back_packet ps) (sym came_alone) (inl refl); answers = inl refl }

-- it came from where the server takes its peer to be
peer_there : peer_address migrated_run Server 15 ≡ 9
unfolding client_acked
peer_there = refl

came_from_peer : CameFromPeer migrated_run Server 15
came_from_peer = record { delivery = record { now = 0; remote = 9; ecn = None; index = 2 }; answer = answers.Deliver receives.Taken; at = record { event = refl; answer = refl }; from = sym peer_there }

pub was_answered : WasAnswered migrated_run Server 15
was_answered = record { token = id_word; came = answer_came; right = inl (subst (λ (o : Option (List ℕ)). IsLatest o id_word) (sym asked_last) refl); from = inl came_from_peer }
