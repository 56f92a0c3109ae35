-- What the reference machine gives where a server asks its peer at another address, and then an
-- answer comes that was asked for at the old one: another datagram than a server that asks for
-- another word.
use Rattle.std.proofs.Common.{◌≡◌, ℕ, List, [], ◌∷◌, replicate, Some, None, Ok, refl, inl, sym, ap, ◌∙◌, arith}
use Rattle.std.specs.Prelude.{slice_index}
use Rattle.quic_wire_core.specs.declared.stream_id.Side.TheVariants.{Server}
use Rattle.quic_machine.specs.declared.answers.Received.TheVariants as receives
use Rattle.quic_machine.specs.declared.run.Answer.TheVariants as answers
use Rattle.quic_machine.specs.Machine.{World, IsStep, Follows, view_of}
use Rattle.quic_machine.specs.RunLaws.{one_run}
use Rattle.quic_headline.specs.Headline.{IsRun}
use Rattle.quic_worked.specs.Worked.{worked_policies, opens_stream, asks_datagram, delivers, gives_bytes, gives_unmarked, open_view, sent_view, view_with, waiting_view}
use Rattle.quic_worked.specs.Acknowledged.{client_acked}
use Rattle.quic_worked.specs.Losses.{asks_ping}
use Rattle.quic_worked.specs.Paired.{asks_server, client_hears}
use Rattle.quic_worked.specs.Reordered.{writes_bytes}
use Rattle.quic_worked.specs.Unvalidated.{far_start, far_view}
use Rattle.quic_worked.specs.Migrated.{comes_from, injects_from, no_fixed_bit, gives_to}
use Rattle.quic_worked.specs.Moved.{late_events, late_answers, once_late, late_view, old_answer_validates}
use Rattle.quic_worked.proofs.Steps.{StepsSo, steps_at}

late_0 : IsStep worked_policies (once_late 0) opens_stream (answers.Open (Some 0)) (once_late 1)
unfolding client_acked
late_0 =
    let s : StepsSo worked_policies (once_late 0) opens_stream (answers.Open (Some 0)) (once_late 1) = steps_at worked_policies far_start late_events late_answers 0 opens_stream (answers.Open (Some 0)) _ _ refl refl refl in
    record { answer = refl; end = s.end; control = s.control; heard = s.heard; openings = tt; others = s.others; lacking = tt }

late_seen_0 : record { client = open_view; server = far_view None None } ≡ view_of (once_late 1)
unfolding client_acked
late_seen_0 = refl

late_1 : IsStep worked_policies (once_late 1) (writes_bytes (replicate 976 0x61)) (answers.Write (Ok 976)) (once_late 2)
unfolding client_acked
late_1 =
    let s : StepsSo worked_policies (once_late 1) (writes_bytes (replicate 976 0x61)) (answers.Write (Ok 976)) (once_late 2) = steps_at worked_policies far_start late_events late_answers 1 (writes_bytes (replicate 976 0x61)) (answers.Write (Ok 976)) _ _ refl refl refl in
    record { answer = inl refl; end = s.end; control = s.control; heard = s.heard; openings = tt; others = s.others; lacking = λ lacks. cc }

late_seen_1 : record { client = open_view; server = far_view None None } ≡ view_of (once_late 2)
unfolding client_acked
late_seen_1 = refl

late_2 : IsStep worked_policies (once_late 2) asks_datagram (gives_bytes 1200) (once_late 3)
unfolding client_acked
late_2 =
    let s : StepsSo worked_policies (once_late 2) asks_datagram (gives_bytes 1200) (once_late 3) = steps_at worked_policies far_start late_events late_answers 2 asks_datagram (gives_bytes 1200) _ _ refl refl refl in
    record { answer = inl refl; end = s.end; control = s.control; heard = s.heard; openings = tt; others = s.others; lacking = tt }

late_seen_2 : record { client = sent_view; server = far_view None None } ≡ view_of (once_late 3)
unfolding client_acked
late_seen_2 = refl

late_3 : IsStep worked_policies (once_late 3) delivers (answers.Deliver receives.Taken) (once_late 4)
unfolding client_acked
late_3 =
    let s : StepsSo worked_policies (once_late 3) delivers (answers.Deliver receives.Taken) (once_late 4) = steps_at worked_policies far_start late_events late_answers 3 delivers (answers.Deliver receives.Taken) _ _ refl refl refl in
    record { answer = inl refl; end = s.end; control = s.control; heard = s.heard; openings = tt; others = s.others; lacking = tt }

late_seen_3 : record { client = sent_view; server = far_view None (Some 25000000) } ≡ view_of (once_late 4)
unfolding client_acked
late_seen_3 = refl

late_4 : IsStep worked_policies (once_late 4) asks_server (gives_bytes 1200) (once_late 5)
unfolding client_acked
late_4 =
    let s : StepsSo worked_policies (once_late 4) asks_server (gives_bytes 1200) (once_late 5) = steps_at worked_policies far_start late_events late_answers 4 asks_server (gives_bytes 1200) _ _ refl refl refl in
    record { answer = inl refl; end = s.end; control = s.control; heard = s.heard; openings = tt; others = s.others; lacking = tt }

late_seen_4 : record { client = sent_view; server = far_view (Some 1024000000) None } ≡ view_of (once_late 5)
unfolding client_acked
late_seen_4 = refl

late_5 : IsStep worked_policies (once_late 5) client_hears (answers.Deliver receives.Taken) (once_late 6)
unfolding client_acked
late_5 =
    let s : StepsSo worked_policies (once_late 5) client_hears (answers.Deliver receives.Taken) (once_late 6) = steps_at worked_policies far_start late_events late_answers 5 client_hears (answers.Deliver receives.Taken) _ _ refl refl refl in
    record { answer = inl refl; end = s.end; control = s.control; heard = s.heard; openings = tt; others = s.others; lacking = tt }

late_seen_5 : record { client = waiting_view; server = far_view (Some 1024000000) None } ≡ view_of (once_late 6)
unfolding client_acked
late_seen_5 = refl

late_6 : IsStep worked_policies (once_late 6) asks_datagram (gives_unmarked 1200) (once_late 7)
unfolding client_acked
late_6 =
    let s : StepsSo worked_policies (once_late 6) asks_datagram (gives_unmarked 1200) (once_late 7) = steps_at worked_policies far_start late_events late_answers 6 asks_datagram (gives_unmarked 1200) _ _ refl refl refl in
    record { answer = inl refl; end = s.end; control = s.control; heard = s.heard; openings = tt; others = s.others; lacking = tt }

late_seen_6 : record { client = view_with (Some 26000000) None; server = far_view (Some 1024000000) None } ≡ view_of (once_late 7)
unfolding client_acked
late_seen_6 = refl

late_7 : IsStep worked_policies (once_late 7) asks_ping answers.Ping (once_late 8)
unfolding client_acked
late_7 =
    let s : StepsSo worked_policies (once_late 7) asks_ping answers.Ping (once_late 8) = steps_at worked_policies far_start late_events late_answers 7 asks_ping answers.Ping _ _ refl refl refl in
    record { answer = refl; end = s.end; control = s.control; heard = s.heard; openings = tt; others = s.others; lacking = tt }

late_seen_7 : record { client = view_with (Some 26000000) None; server = far_view (Some 1024000000) None } ≡ view_of (once_late 8)
unfolding client_acked
late_seen_7 = refl

late_8 : IsStep worked_policies (once_late 8) asks_datagram (gives_unmarked 32) (once_late 9)
unfolding client_acked
late_8 =
    let s : StepsSo worked_policies (once_late 8) asks_datagram (gives_unmarked 32) (once_late 9) = steps_at worked_policies far_start late_events late_answers 8 asks_datagram (gives_unmarked 32) _ _ refl refl refl in
    record { answer = inl refl; end = s.end; control = s.control; heard = s.heard; openings = tt; others = s.others; lacking = tt }

late_seen_8 : record { client = view_with (Some 26000000) None; server = far_view (Some 1024000000) None } ≡ view_of (once_late 9)
unfolding client_acked
late_seen_8 = refl

late_9 : IsStep worked_policies (once_late 9) (comes_from 9 2) (answers.Deliver receives.Taken) (once_late 10)
unfolding client_acked
late_9 =
    let s : StepsSo worked_policies (once_late 9) (comes_from 9 2) (answers.Deliver receives.Taken) (once_late 10) = steps_at worked_policies far_start late_events late_answers 9 (comes_from 9 2) (answers.Deliver receives.Taken) _ _ refl refl refl in
    record { answer = inl refl; end = s.end; control = s.control; heard = s.heard; openings = tt; others = s.others; lacking = tt }

late_seen_9 : record { client = view_with (Some 26000000) None; server = late_view None } ≡ view_of (once_late 10)
unfolding client_acked
late_seen_9 = refl

late_10 : IsStep worked_policies (once_late 10) (injects_from Server 9 (replicate 371 0x00)) no_fixed_bit (once_late 11)
unfolding client_acked
late_10 =
    let s : StepsSo worked_policies (once_late 10) (injects_from Server 9 (replicate 371 0x00)) no_fixed_bit (once_late 11) = steps_at worked_policies far_start late_events late_answers 10 (injects_from Server 9 (replicate 371 0x00)) no_fixed_bit _ _ refl refl refl in
    record { answer = refl; end = s.end; control = s.control; heard = s.heard; openings = tt; others = s.others; lacking = tt }

late_seen_10 : record { client = view_with (Some 26000000) None; server = late_view None } ≡ view_of (once_late 11)
unfolding client_acked
late_seen_10 = refl

late_11 : IsStep worked_policies (once_late 11) asks_server (gives_to 9 1200) (once_late 12)
unfolding client_acked
late_11 =
    let s : StepsSo worked_policies (once_late 11) asks_server (gives_to 9 1200) (once_late 12) = steps_at worked_policies far_start late_events late_answers 11 asks_server (gives_to 9 1200) _ _ refl refl refl in
    record { answer = inl refl; end = s.end; control = s.control; heard = s.heard; openings = tt; others = s.others; lacking = tt }

late_seen_11 : record { client = view_with (Some 26000000) None; server = late_view (Some 26000000) } ≡ view_of (once_late 12)
unfolding client_acked
late_seen_11 = refl

late_12 : IsStep worked_policies (once_late 12) (comes_from 9 1) (answers.Deliver receives.Taken) (once_late 13)
unfolding client_acked
late_12 =
    let s : StepsSo worked_policies (once_late 12) (comes_from 9 1) (answers.Deliver receives.Taken) (once_late 13) = steps_at worked_policies far_start late_events late_answers 12 (comes_from 9 1) (answers.Deliver receives.Taken) _ _ refl refl refl in
    record { answer = inl refl; end = s.end; control = s.control; heard = s.heard; openings = tt; others = s.others; lacking = tt }

late_seen_12 : record { client = view_with (Some 26000000) None; server = view_with (Some 26000000) None } ≡ view_of (once_late 13)
unfolding client_acked
late_seen_12 = refl

follows : Follows old_answer_validates.keys old_answer_validates.start old_answer_validates.events old_answer_validates.answers old_answer_validates.views (once_late 13)
follows = (once_late 1, late_0, late_seen_0, (once_late 2, late_1, late_seen_1, (once_late 3, late_2, late_seen_2, (once_late 4, late_3, late_seen_3, (once_late 5, late_4, late_seen_4, (once_late 6, late_5, late_seen_5, (once_late 7, late_6, late_seen_6, (once_late 8, late_7, late_seen_7, (once_late 9, late_8, late_seen_8, (once_late 10, late_9, late_seen_9, (once_late 11, late_10, late_seen_10, (once_late 12, late_11, late_seen_11, (once_late 13, late_12, late_seen_12, refl)))))))))))))

-- the last byte of the word for which the second datagram asks
abbrev word_byte : List (List ℕ) → ℕ
word_byte [] = 1
word_byte (d ∷ []) = 1
word_byte (d ∷ e ∷ ds) = slice_index e 23

right_byte : word_byte (once_late 13).from_server ≡ 63
unfolding client_acked
right_byte = refl

wrong_byte : word_byte old_answer_validates.from_server ≡ 0
unfolding client_acked
wrong_byte = refl

pub late_never : (end : World) → IsRun old_answer_validates end → ⊥
late_never end run =
    let there = one_run old_answer_validates.keys old_answer_validates.answers old_answer_validates.start old_answer_validates.events old_answer_validates.views old_answer_validates.views end (once_late 13) refl run.follows follows in
    let clash : ◌≡◌ {A = ℕ} 0 63 = sym wrong_byte ∙ ap word_byte run.from_server ∙ ap (λ (x : World). word_byte x.from_server) there.1 ∙ right_byte in
    omega (arith, clash)
