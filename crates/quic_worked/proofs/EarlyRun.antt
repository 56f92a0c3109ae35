-- The run in which the answer to what was asked at the old address comes from the new one, before
-- the server asks there: its random source answers the same word again.
use Rattle.std.proofs.Common.{◌≡◌, true, false, List, [], ◌∷◌, replicate, Some, None, Ok, refl, inl, inr, sym, subst}
use Rattle.quic_wire_core.specs.declared.stream_id.Side.{Side}
use Rattle.quic_wire_core.specs.declared.stream_id.Side.TheVariants.{Client, Server}
use Rattle.quic_machine.specs.declared.answers.Received.TheVariants as receives
use Rattle.quic_machine.specs.declared.run.Answer.TheVariants as answers
use Rattle.quic_machine.specs.Machine.{IsStep, Follows, view_of}
use Rattle.quic_headline.specs.Runs.{Packet, In}
use Rattle.quic_headline.specs.Observer.{watch, news, peer_address, path_changes}
use Rattle.quic_headline.specs.Polls.{seen_at}
use Rattle.quic_headline.specs.Headline.{IsHonest, IsRun}
use Rattle.quic_headline.specs.Validated.{asking, AnswerCame, CameFromPeer, WasAnswered}
use Rattle.quic_worked.specs.Worked.{worked_policies, id_word, opens_stream, asks_datagram, delivers, gives_bytes, gives_unmarked, open_view, sent_view, view_with, waiting_view}
use Rattle.quic_worked.specs.Acknowledged.{client_acked}
use Rattle.quic_worked.specs.Losses.{asks_ping}
use Rattle.quic_worked.specs.Paired.{asks_server, client_hears}
use Rattle.quic_worked.specs.Reordered.{writes_bytes}
use Rattle.quic_worked.specs.Unvalidated.{far_start, far_view, response_packet}
use Rattle.quic_worked.specs.Migrated.{comes_from}
use Rattle.quic_worked.specs.Moved.{early_events, early_answers, once_early, late_view, early_run}
use Rattle.quic_worked.proofs.Codes.{no_codes}
use Rattle.quic_worked.proofs.OwnIds.{AreOwn, own_ids}
use Rattle.quic_worked.proofs.WorkedKeys.{are_keys}
use Rattle.quic_worked.proofs.UnvalidatedRun.{far_started}
use Rattle.quic_worked.proofs.Steps.{StepsSo, steps_at}

pub early_0 : IsStep worked_policies (once_early 0) opens_stream (answers.Open (Some 0)) (once_early 1)
unfolding client_acked
early_0 =
    let s : StepsSo worked_policies (once_early 0) opens_stream (answers.Open (Some 0)) (once_early 1) = steps_at worked_policies far_start early_events early_answers 0 opens_stream (answers.Open (Some 0)) _ _ refl refl refl in
    record { answer = refl; end = s.end; control = s.control; heard = s.heard; openings = tt; others = s.others; lacking = tt }

pub early_seen_0 : record { client = open_view; server = far_view None None } ≡ view_of (once_early 1)
unfolding client_acked
early_seen_0 = refl

pub early_1 : IsStep worked_policies (once_early 1) (writes_bytes (replicate 976 0x61)) (answers.Write (Ok 976)) (once_early 2)
unfolding client_acked
early_1 =
    let s : StepsSo worked_policies (once_early 1) (writes_bytes (replicate 976 0x61)) (answers.Write (Ok 976)) (once_early 2) = steps_at worked_policies far_start early_events early_answers 1 (writes_bytes (replicate 976 0x61)) (answers.Write (Ok 976)) _ _ refl refl refl in
    record { answer = inl refl; end = s.end; control = s.control; heard = s.heard; openings = tt; others = s.others; lacking = λ lacks. cc }

pub early_seen_1 : record { client = open_view; server = far_view None None } ≡ view_of (once_early 2)
unfolding client_acked
early_seen_1 = refl

pub early_2 : IsStep worked_policies (once_early 2) asks_datagram (gives_bytes 1200) (once_early 3)
unfolding client_acked
early_2 =
    let s : StepsSo worked_policies (once_early 2) asks_datagram (gives_bytes 1200) (once_early 3) = steps_at worked_policies far_start early_events early_answers 2 asks_datagram (gives_bytes 1200) _ _ refl refl refl in
    record { answer = inl refl; end = s.end; control = s.control; heard = s.heard; openings = tt; others = s.others; lacking = tt }

pub early_seen_2 : record { client = sent_view; server = far_view None None } ≡ view_of (once_early 3)
unfolding client_acked
early_seen_2 = refl

pub early_3 : IsStep worked_policies (once_early 3) delivers (answers.Deliver receives.Taken) (once_early 4)
unfolding client_acked
early_3 =
    let s : StepsSo worked_policies (once_early 3) delivers (answers.Deliver receives.Taken) (once_early 4) = steps_at worked_policies far_start early_events early_answers 3 delivers (answers.Deliver receives.Taken) _ _ refl refl refl in
    record { answer = inl refl; end = s.end; control = s.control; heard = s.heard; openings = tt; others = s.others; lacking = tt }

pub early_seen_3 : record { client = sent_view; server = far_view None (Some 25000000) } ≡ view_of (once_early 4)
unfolding client_acked
early_seen_3 = refl

pub early_4 : IsStep worked_policies (once_early 4) asks_server (gives_bytes 1200) (once_early 5)
unfolding client_acked
early_4 =
    let s : StepsSo worked_policies (once_early 4) asks_server (gives_bytes 1200) (once_early 5) = steps_at worked_policies far_start early_events early_answers 4 asks_server (gives_bytes 1200) _ _ refl refl refl in
    record { answer = inl refl; end = s.end; control = s.control; heard = s.heard; openings = tt; others = s.others; lacking = tt }

pub early_seen_4 : record { client = sent_view; server = far_view (Some 1024000000) None } ≡ view_of (once_early 5)
unfolding client_acked
early_seen_4 = refl

pub early_5 : IsStep worked_policies (once_early 5) client_hears (answers.Deliver receives.Taken) (once_early 6)
unfolding client_acked
early_5 =
    let s : StepsSo worked_policies (once_early 5) client_hears (answers.Deliver receives.Taken) (once_early 6) = steps_at worked_policies far_start early_events early_answers 5 client_hears (answers.Deliver receives.Taken) _ _ refl refl refl in
    record { answer = inl refl; end = s.end; control = s.control; heard = s.heard; openings = tt; others = s.others; lacking = tt }

pub early_seen_5 : record { client = waiting_view; server = far_view (Some 1024000000) None } ≡ view_of (once_early 6)
unfolding client_acked
early_seen_5 = refl

pub early_6 : IsStep worked_policies (once_early 6) asks_datagram (gives_unmarked 1200) (once_early 7)
unfolding client_acked
early_6 =
    let s : StepsSo worked_policies (once_early 6) asks_datagram (gives_unmarked 1200) (once_early 7) = steps_at worked_policies far_start early_events early_answers 6 asks_datagram (gives_unmarked 1200) _ _ refl refl refl in
    record { answer = inl refl; end = s.end; control = s.control; heard = s.heard; openings = tt; others = s.others; lacking = tt }

pub early_seen_6 : record { client = view_with (Some 26000000) None; server = far_view (Some 1024000000) None } ≡ view_of (once_early 7)
unfolding client_acked
early_seen_6 = refl

pub early_7 : IsStep worked_policies (once_early 7) asks_ping answers.Ping (once_early 8)
unfolding client_acked
early_7 =
    let s : StepsSo worked_policies (once_early 7) asks_ping answers.Ping (once_early 8) = steps_at worked_policies far_start early_events early_answers 7 asks_ping answers.Ping _ _ refl refl refl in
    record { answer = refl; end = s.end; control = s.control; heard = s.heard; openings = tt; others = s.others; lacking = tt }

pub early_seen_7 : record { client = view_with (Some 26000000) None; server = far_view (Some 1024000000) None } ≡ view_of (once_early 8)
unfolding client_acked
early_seen_7 = refl

pub early_8 : IsStep worked_policies (once_early 8) asks_datagram (gives_unmarked 32) (once_early 9)
unfolding client_acked
early_8 =
    let s : StepsSo worked_policies (once_early 8) asks_datagram (gives_unmarked 32) (once_early 9) = steps_at worked_policies far_start early_events early_answers 8 asks_datagram (gives_unmarked 32) _ _ refl refl refl in
    record { answer = inl refl; end = s.end; control = s.control; heard = s.heard; openings = tt; others = s.others; lacking = tt }

pub early_seen_8 : record { client = view_with (Some 26000000) None; server = far_view (Some 1024000000) None } ≡ view_of (once_early 9)
unfolding client_acked
early_seen_8 = refl

pub early_9 : IsStep worked_policies (once_early 9) (comes_from 9 2) (answers.Deliver receives.Taken) (once_early 10)
unfolding client_acked
early_9 =
    let s : StepsSo worked_policies (once_early 9) (comes_from 9 2) (answers.Deliver receives.Taken) (once_early 10) = steps_at worked_policies far_start early_events early_answers 9 (comes_from 9 2) (answers.Deliver receives.Taken) _ _ refl refl refl in
    record { answer = inl refl; end = s.end; control = s.control; heard = s.heard; openings = tt; others = s.others; lacking = tt }

pub early_seen_9 : record { client = view_with (Some 26000000) None; server = late_view None } ≡ view_of (once_early 10)
unfolding client_acked
early_seen_9 = refl

early_10 : IsStep worked_policies (once_early 10) (comes_from 9 1) (answers.Deliver receives.Taken) (once_early 11)
unfolding client_acked
early_10 =
    let s : StepsSo worked_policies (once_early 10) (comes_from 9 1) (answers.Deliver receives.Taken) (once_early 11) = steps_at worked_policies far_start early_events early_answers 10 (comes_from 9 1) (answers.Deliver receives.Taken) _ _ refl refl refl in
    record { answer = inl refl; end = s.end; control = s.control; heard = s.heard; openings = tt; others = s.others; lacking = tt }

early_seen_10 : record { client = view_with (Some 26000000) None; server = open_view } ≡ view_of (once_early 11)
unfolding client_acked
early_seen_10 = refl

follows : Follows early_run.keys early_run.start early_run.events early_run.answers early_run.views (once_early 11)
follows = (once_early 1, early_0, early_seen_0, (once_early 2, early_1, early_seen_1, (once_early 3, early_2, early_seen_2, (once_early 4, early_3, early_seen_3, (once_early 5, early_4, early_seen_4, (once_early 6, early_5, early_seen_5, (once_early 7, early_6, early_seen_6, (once_early 8, early_7, early_seen_7, (once_early 9, early_8, early_seen_8, (once_early 10, early_9, early_seen_9, (once_early 11, early_10, early_seen_10, refl)))))))))))

gave_three : early_run.from_client ≡ (once_early 11).from_client
unfolding client_acked
gave_three = refl

gave_one : early_run.from_server ≡ (once_early 11).from_server
unfolding client_acked
gave_one = refl

pub early_is_run : IsRun early_run (once_early 11)
early_is_run = record { codes = no_codes early_run.events refl; follows = follows; from_client = gave_three; from_server = gave_one }

pub early_own : (side : Side) → AreOwn side [] early_run.events early_run.answers early_run.views
early_own Client = (tt, (inl refl, (tt, (tt, (tt, (tt, (tt, (tt, (tt, (tt, (tt, tt)))))))))))
early_own Server = (tt, (tt, (tt, (tt, (tt, (tt, (tt, (tt, (tt, (tt, (tt, tt)))))))))))

pub early_is_honest : IsHonest early_run
early_is_honest = record { start = far_started; keys = are_keys; ids = own_ids early_run early_own }

pub changes_before : path_changes early_run Server 9 ≡ true
unfolding client_acked
changes_before = refl

came_alone : news (watch early_run Server 10).intake (watch early_run Server 11).intake ≡ response_packet ∷ []
unfolding client_acked
came_alone = refl

pub may_ask : (asking early_run Server 10).renewed ≡ true
unfolding client_acked
may_ask = refl

pub asked_before : (asking early_run Server 10).latest ≡ Some id_word
unfolding client_acked
asked_before = refl

answer_came : AnswerCame early_run Server 10 id_word
answer_came = record { packet = response_packet; came = subst (λ (ps : List Packet). In response_packet ps) (sym came_alone) (inl refl); answers = inl refl }

-- it came from where the server takes its peer to be
peer_there : peer_address early_run Server 10 ≡ 9
unfolding client_acked
peer_there = refl

came_from_peer : CameFromPeer early_run Server 10
came_from_peer = record { delivery = record { now = 0; remote = 9; ecn = None; index = 1 }; answer = answers.Deliver receives.Taken; at = record { event = refl; answer = refl }; from = sym peer_there }

pub was_answered : WasAnswered early_run Server 10
was_answered = record { token = id_word; came = answer_came; right = inr (inl may_ask, inl (0, refl)); from = inl came_from_peer }

pub not_before : (seen_at early_run Server 10).validated ≡ false
not_before = refl

pub is_behind : (seen_at early_run Server 11).validated ≡ true
is_behind = refl
