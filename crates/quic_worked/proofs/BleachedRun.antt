-- The run on a path that takes a mark away, event by event, and a client that goes on marking.
use Rattle.std.proofs.Common.{sym, ◌≡◌, Bool, true, false, [], Some, None, refl, ap, ◌∙◌, inl, inr}
use Rattle.std.specs.Prelude.{if◌then◌else◌, Option, Ok}
use Rattle.quic_wire_core.specs.declared.shared.EcnCodepoint.{EcnCodepoint}
use Rattle.quic_wire_core.specs.declared.shared.EcnCodepoint.TheVariants.{Ect0}
use Rattle.quic_wire_core.specs.declared.stream_id.Side.{Side}
use Rattle.quic_wire_core.specs.declared.stream_id.Side.TheVariants.{Client, Server}
use Rattle.quic_wire.specs.AckReading.{ecn_at}
use Rattle.quic_machine.specs.declared.answers.Received.TheVariants as receives
use Rattle.quic_machine.specs.declared.run.Answer.{Answer}
use Rattle.quic_machine.specs.declared.run.Answer.TheVariants as answers
use Rattle.quic_machine.specs.Machine.{IsStep, Follows, view_of}
use Rattle.quic_headline.specs.Headline.{IsHonest, IsRun}
use Rattle.quic_headline.specs.Marking.{marking, MarksGo}
use Rattle.quic_headline.proofs.Marking.Clause.{marks_go}
use Rattle.quic_worked.specs.Worked.{worked_policies, started, asks_datagram, gives_bytes, gives_unmarked}
use Rattle.quic_worked.specs.Acknowledged.{client_acked}
use Rattle.quic_worked.specs.Broken.{IsNoRun}
use Rattle.quic_worked.specs.Reordered.{delivers_at}
use Rattle.quic_worked.specs.Losses.{asks_ping}
use Rattle.quic_worked.specs.Paired.{asks_server}
use Rattle.quic_worked.specs.Timed.{comes_at, seen_with}
use Rattle.quic_worked.specs.Bleached.{keeps_mark, bleached_events, answers_bleached, once_bleached, bleached_run, marking_on}
use Rattle.quic_worked.proofs.BrokenRuns.{IsRefused, stops, behind}
use Rattle.quic_worked.proofs.Codes.{no_codes}
use Rattle.quic_worked.proofs.OwnIds.{AreOwn, own_ids}
use Rattle.quic_worked.proofs.Steps.{steps_at, StepsSo}
use Rattle.quic_worked.proofs.WorkedHonest.{are_started}
use Rattle.quic_worked.proofs.WorkedKeys.{are_keys}

-- ---- the machine's run

step_0 : IsStep worked_policies started asks_ping answers.Ping (once_bleached 1)
unfolding once_bleached
step_0 =
    let s : StepsSo worked_policies started asks_ping answers.Ping (once_bleached 1) = steps_at worked_policies started bleached_events (answers_bleached (gives_unmarked 32)) 0 asks_ping answers.Ping _ _ refl refl refl in
    record { answer = refl; end = s.end; control = s.control; heard = s.heard; openings = tt; others = s.others; lacking = tt }

seen_0 : seen_with None None ≡ view_of (once_bleached 1)
unfolding once_bleached
seen_0 = refl

step_1 : IsStep worked_policies (once_bleached 1) asks_datagram (gives_bytes 223) (once_bleached 2)
unfolding once_bleached
step_1 =
    let s : StepsSo worked_policies (once_bleached 1) asks_datagram (gives_bytes 223) (once_bleached 2) = steps_at worked_policies started bleached_events (answers_bleached (gives_unmarked 32)) 1 asks_datagram (gives_bytes 223) _ _ refl refl refl in
    record { answer = inl refl; end = s.end; control = s.control; heard = s.heard; openings = tt; others = s.others; lacking = tt }

seen_1 : seen_with (Some 1024000000) None ≡ view_of (once_bleached 2)
unfolding once_bleached
seen_1 = refl

step_2 : IsStep worked_policies (once_bleached 2) asks_ping answers.Ping (once_bleached 3)
unfolding once_bleached
step_2 =
    let s : StepsSo worked_policies (once_bleached 2) asks_ping answers.Ping (once_bleached 3) = steps_at worked_policies started bleached_events (answers_bleached (gives_unmarked 32)) 2 asks_ping answers.Ping _ _ refl refl refl in
    record { answer = refl; end = s.end; control = s.control; heard = s.heard; openings = tt; others = s.others; lacking = tt }

seen_2 : seen_with (Some 1024000000) None ≡ view_of (once_bleached 3)
unfolding once_bleached
seen_2 = refl

step_3 : IsStep worked_policies (once_bleached 3) asks_datagram (gives_bytes 29) (once_bleached 4)
unfolding once_bleached
step_3 =
    let s : StepsSo worked_policies (once_bleached 3) asks_datagram (gives_bytes 29) (once_bleached 4) = steps_at worked_policies started bleached_events (answers_bleached (gives_unmarked 32)) 3 asks_datagram (gives_bytes 29) _ _ refl refl refl in
    record { answer = inl refl; end = s.end; control = s.control; heard = s.heard; openings = tt; others = s.others; lacking = tt }

seen_3 : seen_with (Some 1024000000) None ≡ view_of (once_bleached 4)
unfolding once_bleached
seen_3 = refl

step_4 : IsStep worked_policies (once_bleached 4) keeps_mark (answers.Deliver receives.Taken) (once_bleached 5)
unfolding once_bleached
step_4 =
    let s : StepsSo worked_policies (once_bleached 4) keeps_mark (answers.Deliver receives.Taken) (once_bleached 5) = steps_at worked_policies started bleached_events (answers_bleached (gives_unmarked 32)) 4 keeps_mark (answers.Deliver receives.Taken) _ _ refl refl refl in
    record { answer = inl refl; end = s.end; control = s.control; heard = s.heard; openings = tt; others = s.others; lacking = tt }

seen_4 : seen_with (Some 1024000000) (Some 25000000) ≡ view_of (once_bleached 5)
unfolding once_bleached
seen_4 = refl

step_5 : IsStep worked_policies (once_bleached 5) (delivers_at 1) (answers.Deliver receives.Taken) (once_bleached 6)
unfolding once_bleached
step_5 =
    let s : StepsSo worked_policies (once_bleached 5) (delivers_at 1) (answers.Deliver receives.Taken) (once_bleached 6) = steps_at worked_policies started bleached_events (answers_bleached (gives_unmarked 32)) 5 (delivers_at 1) (answers.Deliver receives.Taken) _ _ refl refl refl in
    record { answer = inl refl; end = s.end; control = s.control; heard = s.heard; openings = tt; others = s.others; lacking = tt }

seen_5 : seen_with (Some 1024000000) (Some 25000000) ≡ view_of (once_bleached 6)
unfolding once_bleached
seen_5 = refl

step_6 : IsStep worked_policies (once_bleached 6) asks_server (gives_bytes 34) (once_bleached 7)
unfolding once_bleached
step_6 =
    let s : StepsSo worked_policies (once_bleached 6) asks_server (gives_bytes 34) (once_bleached 7) = steps_at worked_policies started bleached_events (answers_bleached (gives_unmarked 32)) 6 asks_server (gives_bytes 34) _ _ refl refl refl in
    record { answer = inl refl; end = s.end; control = s.control; heard = s.heard; openings = tt; others = s.others; lacking = tt }

seen_6 : seen_with (Some 1024000000) None ≡ view_of (once_bleached 7)
unfolding once_bleached
seen_6 = refl

step_7 : IsStep worked_policies (once_bleached 7) (comes_at Client 0) (answers.Deliver receives.Taken) (once_bleached 8)
unfolding once_bleached
step_7 =
    let s : StepsSo worked_policies (once_bleached 7) (comes_at Client 0) (answers.Deliver receives.Taken) (once_bleached 8) = steps_at worked_policies started bleached_events (answers_bleached (gives_unmarked 32)) 7 (comes_at Client 0) (answers.Deliver receives.Taken) _ _ refl refl refl in
    record { answer = inl refl; end = s.end; control = s.control; heard = s.heard; openings = tt; others = s.others; lacking = tt }

seen_7 : seen_with None None ≡ view_of (once_bleached 8)
unfolding once_bleached
seen_7 = refl

step_8 : IsStep worked_policies (once_bleached 8) asks_ping answers.Ping (once_bleached 9)
unfolding once_bleached
step_8 =
    let s : StepsSo worked_policies (once_bleached 8) asks_ping answers.Ping (once_bleached 9) = steps_at worked_policies started bleached_events (answers_bleached (gives_unmarked 32)) 8 asks_ping answers.Ping _ _ refl refl refl in
    record { answer = refl; end = s.end; control = s.control; heard = s.heard; openings = tt; others = s.others; lacking = tt }

seen_8 : seen_with None None ≡ view_of (once_bleached 9)
unfolding once_bleached
seen_8 = refl

step_9 : IsStep worked_policies (once_bleached 9) asks_datagram (gives_unmarked 32) (once_bleached 10)
unfolding once_bleached
step_9 =
    let s : StepsSo worked_policies (once_bleached 9) asks_datagram (gives_unmarked 32) (once_bleached 10) = steps_at worked_policies started bleached_events (answers_bleached (gives_unmarked 32)) 9 asks_datagram (gives_unmarked 32) _ _ refl refl refl in
    record { answer = inl refl; end = s.end; control = s.control; heard = s.heard; openings = tt; others = s.others; lacking = tt }

seen_9 : seen_with (Some 26000000) None ≡ view_of (once_bleached 10)
unfolding once_bleached
seen_9 = refl

follows : Follows bleached_run.keys bleached_run.start bleached_run.events bleached_run.answers bleached_run.views (once_bleached 10)
follows = (once_bleached 1, step_0, seen_0, (once_bleached 2, step_1, seen_1, (once_bleached 3, step_2, seen_2, (once_bleached 4, step_3, seen_3, (once_bleached 5, step_4, seen_4, (once_bleached 6, step_5, seen_5, (once_bleached 7, step_6, seen_6, (once_bleached 8, step_7, seen_7, (once_bleached 9, step_8, seen_8, (once_bleached 10, step_9, seen_9, refl))))))))))

gave_three : bleached_run.from_client ≡ (once_bleached 10).from_client
unfolding once_bleached
gave_three = refl

gave_one : bleached_run.from_server ≡ (once_bleached 10).from_server
unfolding once_bleached
gave_one = refl

pub bleached_is_run : IsRun bleached_run (once_bleached 10)
bleached_is_run = record { codes = no_codes bleached_run.events refl; follows = follows; from_client = gave_three; from_server = gave_one }

bleached_own : (side : Side) → AreOwn side [] bleached_run.events bleached_run.answers bleached_run.views
bleached_own Client = (tt, (tt, (tt, (tt, (tt, (tt, (tt, (tt, (tt, (tt, tt))))))))))
bleached_own Server = (tt, (tt, (tt, (tt, (tt, (tt, (tt, (tt, (tt, (tt, tt))))))))))

pub bleached_is_honest : IsHonest bleached_run
bleached_is_honest = record { start = are_started; keys = are_keys; ids = own_ids bleached_run bleached_own }

-- ---- what is marked in it

pub all_marked : (marking bleached_run Client 7).marks ≡ true
unfolding client_acked ecn_at
all_marked = refl

pub none_marked : (marking bleached_run Client 8).marks ≡ false
unfolding client_acked ecn_at
none_marked = refl

pub bleached_marks_go : MarksGo bleached_run
bleached_marks_go = marks_go bleached_run (once_bleached 10) bleached_is_honest bleached_is_run

-- ---- a client that goes on marking

unmarked_then : (marking marking_on Client 9).marks ≡ false
unfolding client_acked ecn_at
unmarked_then = refl

pub marking_on_not : MarksGo marking_on → ⊥
marking_on_not h =
    let marked : Some Ect0 ≡ (if (marking marking_on Client 9).marks then Some Ect0 else None) = h Client 9 0 (record { size = 32; ecn = Some Ect0; remote = 0 }) refl refl (record { event = refl; answer = refl }) in
    let clash : Some Ect0 ≡ None = marked ∙ ap (λ (b : Bool). if b then Some Ect0 else None) unmarked_then in
    cc

marking_own : (side : Side) → AreOwn side [] marking_on.events marking_on.answers marking_on.views
marking_own Client = (tt, (tt, (tt, (tt, (tt, (tt, (tt, (tt, (tt, (tt, tt))))))))))
marking_own Server = (tt, (tt, (tt, (tt, (tt, (tt, (tt, (tt, (tt, (tt, tt))))))))))

pub marking_on_is_honest : IsHonest marking_on
marking_on_is_honest = record { start = are_started; keys = are_keys; ids = own_ids marking_on marking_own }

-- the codepoint with which an answer gives a datagram
abbrev mark_in : Answer → Option EcnCodepoint
mark_in (answers.Poll (Ok (Some t))) = t.ecn
mark_in a = None

-- both marks differ
marked_not : gives_bytes 32 ≡ gives_unmarked 32 → ⊥
marked_not e = (let clash : Some Ect0 ≡ None = ap mark_in e in cc)

marks_no_more : IsRefused (once_bleached 9) asks_datagram (gives_bytes 32)
marks_no_more (inl e) = elim step_9.answer [ inl said ↦ marked_not (e ∙ sym said) | inr lacks ↦ absurd cc ]
marks_no_more (inr e) = cc

pub marking_on_is_none : IsNoRun marking_on
marking_on_is_none = behind refl step_0 (behind refl step_1 (behind refl step_2 (behind refl step_3 (behind refl step_4 (behind refl step_5 (behind refl step_6 (behind refl step_7 (behind refl step_8 (stops _ _ _ _ _ marks_no_more)))))))))
