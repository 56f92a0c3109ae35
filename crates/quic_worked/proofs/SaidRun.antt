-- Runs in which a limit is said once, event by event, and machines that say it again.
use Rattle.std.proofs.Common.{◌≡◌, true, false, [], take, Some, Ok, refl, inl, ap, ◌∙◌}
use Rattle.std.proofs.lemmas.Bool.{both_ways}
use Rattle.quic_wire_core.specs.declared.stream_id.Side.{Side}
use Rattle.quic_wire_core.specs.declared.stream_id.Side.TheVariants.{Client, Server}
use Rattle.quic_machine.specs.declared.run.Answer.TheVariants as answers
use Rattle.quic_machine.specs.Machine.{World, IsStep, Follows, view_of}
use Rattle.quic_headline.specs.Headline.{IsHonest, IsRun}
use Rattle.quic_headline.specs.Begins.{Blocked, BlockedOn, control_waits, asks_for, BeginsAt}
use Rattle.quic_worked.specs.Worked.{worked_policies, opens_stream, asks_datagram, gives_bytes}
use Rattle.quic_worked.specs.Paired.{writes_on}
use Rattle.quic_worked.specs.Credit.{eight}
use Rattle.quic_worked.specs.Limited.{limited_start, sixteen}
use Rattle.quic_worked.specs.Held.{gives_nothing}
use Rattle.quic_worked.specs.Rested.{still_view, given_view}
use Rattle.quic_worked.specs.Blocked.{small_start}
use Rattle.quic_worked.specs.Said.{in_vain, said_events, said_answers, once_said, said_run, once_said_on, said_on_run, first_in_vain, second_in_vain, says_again, says_again_on, NeverSays}
use Rattle.quic_worked.proofs.Codes.{no_codes}
use Rattle.quic_worked.proofs.OwnIds.{AreOwn, own_ids}
use Rattle.quic_worked.proofs.WorkedKeys.{are_keys}
use Rattle.quic_worked.proofs.BlockedRun.{left_started}
use Rattle.quic_worked.proofs.LimitedRun.{limited_started, both_open, one_sent}
use Rattle.quic_worked.proofs.BegunRuns.{control_unasked}
use Rattle.quic_worked.proofs.WrongRuns.{NeverEnds, ends_here, step_on}
use Rattle.quic_worked.proofs.Steps.{steps_at, StepsSo}

-- ---- all data

all_0 : IsStep worked_policies (small_start 8) opens_stream (answers.Open (Some 0)) (once_said 1)
unfolding once_said
all_0 =
    let s : StepsSo worked_policies (small_start 8) opens_stream (answers.Open (Some 0)) (once_said 1) = steps_at worked_policies (small_start 8) said_events (said_answers 8 233) 0 opens_stream (answers.Open (Some 0)) _ _ refl refl refl in
    record { answer = refl; end = s.end; control = s.control; heard = s.heard; openings = tt; others = s.others; lacking = tt }

all_0_seen : still_view ≡ view_of (once_said 1)
unfolding once_said
all_0_seen = refl

all_1 : IsStep worked_policies (once_said 1) (writes_on 0 sixteen) (answers.Write (Ok 8)) (once_said 2)
unfolding once_said
all_1 =
    let s : StepsSo worked_policies (once_said 1) (writes_on 0 sixteen) (answers.Write (Ok 8)) (once_said 2) = steps_at worked_policies (small_start 8) said_events (said_answers 8 233) 1 (writes_on 0 sixteen) (answers.Write (Ok 8)) _ _ refl refl refl in
    record { answer = inl refl; end = s.end; control = s.control; heard = s.heard; openings = tt; others = s.others; lacking = λ lacks. cc }

all_1_seen : still_view ≡ view_of (once_said 2)
unfolding once_said
all_1_seen = refl

all_2 : IsStep worked_policies (once_said 2) asks_datagram (gives_bytes 233) (once_said 3)
unfolding once_said
all_2 =
    let s : StepsSo worked_policies (once_said 2) asks_datagram (gives_bytes 233) (once_said 3) = steps_at worked_policies (small_start 8) said_events (said_answers 8 233) 2 asks_datagram (gives_bytes 233) _ _ refl refl refl in
    record { answer = inl refl; end = s.end; control = s.control; heard = s.heard; openings = tt; others = s.others; lacking = tt }

all_2_seen : given_view ≡ view_of (once_said 3)
unfolding once_said
all_2_seen = refl

all_3 : IsStep worked_policies (once_said 3) (writes_on 0 eight) in_vain (once_said 4)
unfolding once_said
all_3 =
    let s : StepsSo worked_policies (once_said 3) (writes_on 0 eight) in_vain (once_said 4) = steps_at worked_policies (small_start 8) said_events (said_answers 8 233) 3 (writes_on 0 eight) in_vain _ _ refl refl refl in
    record { answer = inl refl; end = s.end; control = s.control; heard = s.heard; openings = tt; others = s.others; lacking = λ lacks. cc }

all_3_seen : given_view ≡ view_of (once_said 4)
unfolding once_said
all_3_seen = refl

all_4 : IsStep worked_policies (once_said 4) asks_datagram (gives_bytes 29) (once_said 5)
unfolding once_said
all_4 =
    let s : StepsSo worked_policies (once_said 4) asks_datagram (gives_bytes 29) (once_said 5) = steps_at worked_policies (small_start 8) said_events (said_answers 8 233) 4 asks_datagram (gives_bytes 29) _ _ refl refl refl in
    record { answer = inl refl; end = s.end; control = s.control; heard = s.heard; openings = tt; others = s.others; lacking = tt }

all_4_seen : given_view ≡ view_of (once_said 5)
unfolding once_said
all_4_seen = refl

all_5 : IsStep worked_policies (once_said 5) (writes_on 0 eight) in_vain (once_said 6)
unfolding once_said
all_5 =
    let s : StepsSo worked_policies (once_said 5) (writes_on 0 eight) in_vain (once_said 6) = steps_at worked_policies (small_start 8) said_events (said_answers 8 233) 5 (writes_on 0 eight) in_vain _ _ refl refl refl in
    record { answer = inl refl; end = s.end; control = s.control; heard = s.heard; openings = tt; others = s.others; lacking = λ lacks. cc }

all_5_seen : given_view ≡ view_of (once_said 6)
unfolding once_said
all_5_seen = refl

all_6 : IsStep worked_policies (once_said 6) (writes_on 0 eight) in_vain (once_said 7)
unfolding once_said
all_6 =
    let s : StepsSo worked_policies (once_said 6) (writes_on 0 eight) in_vain (once_said 7) = steps_at worked_policies (small_start 8) said_events (said_answers 8 233) 6 (writes_on 0 eight) in_vain _ _ refl refl refl in
    record { answer = inl refl; end = s.end; control = s.control; heard = s.heard; openings = tt; others = s.others; lacking = λ lacks. cc }

all_6_seen : given_view ≡ view_of (once_said 7)
unfolding once_said
all_6_seen = refl

all_7 : IsStep worked_policies (once_said 7) (writes_on 0 eight) in_vain (once_said 8)
unfolding once_said
all_7 =
    let s : StepsSo worked_policies (once_said 7) (writes_on 0 eight) in_vain (once_said 8) = steps_at worked_policies (small_start 8) said_events (said_answers 8 233) 7 (writes_on 0 eight) in_vain _ _ refl refl refl in
    record { answer = inl refl; end = s.end; control = s.control; heard = s.heard; openings = tt; others = s.others; lacking = λ lacks. cc }

all_7_seen : given_view ≡ view_of (once_said 8)
unfolding once_said
all_7_seen = refl

all_8 : IsStep worked_policies (once_said 8) (writes_on 0 eight) in_vain (once_said 9)
unfolding once_said
all_8 =
    let s : StepsSo worked_policies (once_said 8) (writes_on 0 eight) in_vain (once_said 9) = steps_at worked_policies (small_start 8) said_events (said_answers 8 233) 8 (writes_on 0 eight) in_vain _ _ refl refl refl in
    record { answer = inl refl; end = s.end; control = s.control; heard = s.heard; openings = tt; others = s.others; lacking = λ lacks. cc }

all_8_seen : given_view ≡ view_of (once_said 9)
unfolding once_said
all_8_seen = refl

all_9 : IsStep worked_policies (once_said 9) asks_datagram gives_nothing (once_said 10)
unfolding once_said
all_9 =
    let s : StepsSo worked_policies (once_said 9) asks_datagram gives_nothing (once_said 10) = steps_at worked_policies (small_start 8) said_events (said_answers 8 233) 9 asks_datagram gives_nothing _ _ refl refl refl in
    record { answer = inl refl; end = s.end; control = s.control; heard = s.heard; openings = tt; others = s.others; lacking = tt }

all_9_seen : given_view ≡ view_of (once_said 10)
unfolding once_said
all_9_seen = refl

all_follows : Follows worked_policies (small_start 8) said_events (said_answers 8 233) said_run.views (once_said 10)
all_follows = (once_said 1, all_0, all_0_seen, (once_said 2, all_1, all_1_seen, (once_said 3, all_2, all_2_seen, (once_said 4, all_3, all_3_seen, (once_said 5, all_4, all_4_seen, (once_said 6, all_5, all_5_seen, (once_said 7, all_6, all_6_seen, (once_said 8, all_7, all_7_seen, (once_said 9, all_8, all_8_seen, (once_said 10, all_9, all_9_seen, refl))))))))))

all_gave : said_run.from_client ≡ (once_said 10).from_client
unfolding once_said
all_gave = refl

all_took : said_run.from_server ≡ (once_said 10).from_server
unfolding once_said
all_took = refl

pub all_is_run : IsRun said_run (once_said 10)
all_is_run = record { codes = no_codes said_run.events refl; follows = all_follows; from_client = all_gave; from_server = all_took }

pub all_own : (side : Side) → AreOwn side [] said_run.events said_run.answers said_run.views
all_own Client = (tt, (inl refl, (tt, (inl refl, (tt, (inl refl, (inl refl, (inl refl, (inl refl, (tt, tt))))))))))
all_own Server = (tt, (tt, (tt, (tt, (tt, (tt, (tt, (tt, (tt, (tt, tt))))))))))

pub all_is_honest : IsHonest said_run
all_is_honest = record { start = left_started; keys = are_keys; ids = own_ids said_run all_own }

pub all_asked : asks_for (first_in_vain said_run) Blocked ≡ true
unfolding once_said
all_asked = refl

pub all_unasked : asks_for (second_in_vain said_run) Blocked ≡ false
unfolding once_said
all_unasked = refl

all_flight : (second_in_vain said_run).before.flight.flying ≡ (second_in_vain said_run).behind.flight.flying
unfolding once_said
all_flight = refl

all_before : control_waits (once_said 5).client.waiting.frames Blocked ≡ false
unfolding once_said
all_before = refl

all_behind : control_waits (once_said 6).client.waiting.frames Blocked ≡ false
unfolding once_said
all_behind = refl

pub all_again_shows : BeginsAt (second_in_vain said_run) (once_said 5).client says_again.client → ⊥
all_again_shows = control_unasked (second_in_vain said_run) Blocked (once_said 5).client says_again.client refl all_flight all_unasked all_before refl

all_other : says_again ≡ once_said 6 → ⊥
all_other e = both_ways (control_waits says_again.client.waiting.frames Blocked) (ap (λ (w : World). control_waits w.client.waiting.frames Blocked) e ∙ all_behind) refl

all_not : NeverEnds (λ w. says_again ≡ w) (small_start 8) (take 6 said_events) (take 6 (said_answers 8 233))
all_not = step_on refl all_0 (step_on refl all_1 (step_on refl all_2 (step_on refl all_3 (step_on refl all_4 (step_on refl all_5 (ends_here all_other))))))

pub all_never : NeverSays (small_start 8) (said_answers 8 233) says_again
all_never views f = all_not.never views says_again f refl

-- ---- a stream

one_0 : IsStep worked_policies limited_start opens_stream (answers.Open (Some 0)) (once_said_on 1)
unfolding once_said_on
one_0 =
    let s : StepsSo worked_policies limited_start opens_stream (answers.Open (Some 0)) (once_said_on 1) = steps_at worked_policies limited_start said_events (said_answers 5 230) 0 opens_stream (answers.Open (Some 0)) _ _ refl refl refl in
    record { answer = refl; end = s.end; control = s.control; heard = s.heard; openings = tt; others = s.others; lacking = tt }

one_0_seen : both_open ≡ view_of (once_said_on 1)
unfolding once_said_on
one_0_seen = refl

one_1 : IsStep worked_policies (once_said_on 1) (writes_on 0 sixteen) (answers.Write (Ok 5)) (once_said_on 2)
unfolding once_said_on
one_1 =
    let s : StepsSo worked_policies (once_said_on 1) (writes_on 0 sixteen) (answers.Write (Ok 5)) (once_said_on 2) = steps_at worked_policies limited_start said_events (said_answers 5 230) 1 (writes_on 0 sixteen) (answers.Write (Ok 5)) _ _ refl refl refl in
    record { answer = inl refl; end = s.end; control = s.control; heard = s.heard; openings = tt; others = s.others; lacking = λ lacks. cc }

one_1_seen : both_open ≡ view_of (once_said_on 2)
unfolding once_said_on
one_1_seen = refl

one_2 : IsStep worked_policies (once_said_on 2) asks_datagram (gives_bytes 230) (once_said_on 3)
unfolding once_said_on
one_2 =
    let s : StepsSo worked_policies (once_said_on 2) asks_datagram (gives_bytes 230) (once_said_on 3) = steps_at worked_policies limited_start said_events (said_answers 5 230) 2 asks_datagram (gives_bytes 230) _ _ refl refl refl in
    record { answer = inl refl; end = s.end; control = s.control; heard = s.heard; openings = tt; others = s.others; lacking = tt }

one_2_seen : one_sent ≡ view_of (once_said_on 3)
unfolding once_said_on
one_2_seen = refl

one_3 : IsStep worked_policies (once_said_on 3) (writes_on 0 eight) in_vain (once_said_on 4)
unfolding once_said_on
one_3 =
    let s : StepsSo worked_policies (once_said_on 3) (writes_on 0 eight) in_vain (once_said_on 4) = steps_at worked_policies limited_start said_events (said_answers 5 230) 3 (writes_on 0 eight) in_vain _ _ refl refl refl in
    record { answer = inl refl; end = s.end; control = s.control; heard = s.heard; openings = tt; others = s.others; lacking = λ lacks. cc }

one_3_seen : one_sent ≡ view_of (once_said_on 4)
unfolding once_said_on
one_3_seen = refl

one_4 : IsStep worked_policies (once_said_on 4) asks_datagram (gives_bytes 29) (once_said_on 5)
unfolding once_said_on
one_4 =
    let s : StepsSo worked_policies (once_said_on 4) asks_datagram (gives_bytes 29) (once_said_on 5) = steps_at worked_policies limited_start said_events (said_answers 5 230) 4 asks_datagram (gives_bytes 29) _ _ refl refl refl in
    record { answer = inl refl; end = s.end; control = s.control; heard = s.heard; openings = tt; others = s.others; lacking = tt }

one_4_seen : one_sent ≡ view_of (once_said_on 5)
unfolding once_said_on
one_4_seen = refl

one_5 : IsStep worked_policies (once_said_on 5) (writes_on 0 eight) in_vain (once_said_on 6)
unfolding once_said_on
one_5 =
    let s : StepsSo worked_policies (once_said_on 5) (writes_on 0 eight) in_vain (once_said_on 6) = steps_at worked_policies limited_start said_events (said_answers 5 230) 5 (writes_on 0 eight) in_vain _ _ refl refl refl in
    record { answer = inl refl; end = s.end; control = s.control; heard = s.heard; openings = tt; others = s.others; lacking = λ lacks. cc }

one_5_seen : one_sent ≡ view_of (once_said_on 6)
unfolding once_said_on
one_5_seen = refl

one_6 : IsStep worked_policies (once_said_on 6) (writes_on 0 eight) in_vain (once_said_on 7)
unfolding once_said_on
one_6 =
    let s : StepsSo worked_policies (once_said_on 6) (writes_on 0 eight) in_vain (once_said_on 7) = steps_at worked_policies limited_start said_events (said_answers 5 230) 6 (writes_on 0 eight) in_vain _ _ refl refl refl in
    record { answer = inl refl; end = s.end; control = s.control; heard = s.heard; openings = tt; others = s.others; lacking = λ lacks. cc }

one_6_seen : one_sent ≡ view_of (once_said_on 7)
unfolding once_said_on
one_6_seen = refl

one_7 : IsStep worked_policies (once_said_on 7) (writes_on 0 eight) in_vain (once_said_on 8)
unfolding once_said_on
one_7 =
    let s : StepsSo worked_policies (once_said_on 7) (writes_on 0 eight) in_vain (once_said_on 8) = steps_at worked_policies limited_start said_events (said_answers 5 230) 7 (writes_on 0 eight) in_vain _ _ refl refl refl in
    record { answer = inl refl; end = s.end; control = s.control; heard = s.heard; openings = tt; others = s.others; lacking = λ lacks. cc }

one_7_seen : one_sent ≡ view_of (once_said_on 8)
unfolding once_said_on
one_7_seen = refl

one_8 : IsStep worked_policies (once_said_on 8) (writes_on 0 eight) in_vain (once_said_on 9)
unfolding once_said_on
one_8 =
    let s : StepsSo worked_policies (once_said_on 8) (writes_on 0 eight) in_vain (once_said_on 9) = steps_at worked_policies limited_start said_events (said_answers 5 230) 8 (writes_on 0 eight) in_vain _ _ refl refl refl in
    record { answer = inl refl; end = s.end; control = s.control; heard = s.heard; openings = tt; others = s.others; lacking = λ lacks. cc }

one_8_seen : one_sent ≡ view_of (once_said_on 9)
unfolding once_said_on
one_8_seen = refl

one_9 : IsStep worked_policies (once_said_on 9) asks_datagram gives_nothing (once_said_on 10)
unfolding once_said_on
one_9 =
    let s : StepsSo worked_policies (once_said_on 9) asks_datagram gives_nothing (once_said_on 10) = steps_at worked_policies limited_start said_events (said_answers 5 230) 9 asks_datagram gives_nothing _ _ refl refl refl in
    record { answer = inl refl; end = s.end; control = s.control; heard = s.heard; openings = tt; others = s.others; lacking = tt }

one_9_seen : one_sent ≡ view_of (once_said_on 10)
unfolding once_said_on
one_9_seen = refl

one_follows : Follows worked_policies limited_start said_events (said_answers 5 230) said_on_run.views (once_said_on 10)
one_follows = (once_said_on 1, one_0, one_0_seen, (once_said_on 2, one_1, one_1_seen, (once_said_on 3, one_2, one_2_seen, (once_said_on 4, one_3, one_3_seen, (once_said_on 5, one_4, one_4_seen, (once_said_on 6, one_5, one_5_seen, (once_said_on 7, one_6, one_6_seen, (once_said_on 8, one_7, one_7_seen, (once_said_on 9, one_8, one_8_seen, (once_said_on 10, one_9, one_9_seen, refl))))))))))

one_gave : said_on_run.from_client ≡ (once_said_on 10).from_client
unfolding once_said_on
one_gave = refl

one_took : said_on_run.from_server ≡ (once_said_on 10).from_server
unfolding once_said_on
one_took = refl

pub one_is_run : IsRun said_on_run (once_said_on 10)
one_is_run = record { codes = no_codes said_on_run.events refl; follows = one_follows; from_client = one_gave; from_server = one_took }

pub one_own : (side : Side) → AreOwn side [] said_on_run.events said_on_run.answers said_on_run.views
one_own Client = (tt, (inl refl, (tt, (inl refl, (tt, (inl refl, (inl refl, (inl refl, (inl refl, (tt, tt))))))))))
one_own Server = (tt, (tt, (tt, (tt, (tt, (tt, (tt, (tt, (tt, (tt, tt))))))))))

pub one_is_honest : IsHonest said_on_run
one_is_honest = record { start = limited_started; keys = are_keys; ids = own_ids said_on_run one_own }

pub one_asked : asks_for (first_in_vain said_on_run) (BlockedOn 0) ≡ true
unfolding once_said_on
one_asked = refl

pub one_unasked : asks_for (second_in_vain said_on_run) (BlockedOn 0) ≡ false
unfolding once_said_on
one_unasked = refl

one_flight : (second_in_vain said_on_run).before.flight.flying ≡ (second_in_vain said_on_run).behind.flight.flying
unfolding once_said_on
one_flight = refl

one_before : control_waits (once_said_on 5).client.waiting.frames (BlockedOn 0) ≡ false
unfolding once_said_on
one_before = refl

one_behind : control_waits (once_said_on 6).client.waiting.frames (BlockedOn 0) ≡ false
unfolding once_said_on
one_behind = refl

pub one_again_shows : BeginsAt (second_in_vain said_on_run) (once_said_on 5).client says_again_on.client → ⊥
one_again_shows = control_unasked (second_in_vain said_on_run) (BlockedOn 0) (once_said_on 5).client says_again_on.client refl one_flight one_unasked one_before refl

one_other : says_again_on ≡ once_said_on 6 → ⊥
one_other e = both_ways (control_waits says_again_on.client.waiting.frames (BlockedOn 0)) (ap (λ (w : World). control_waits w.client.waiting.frames (BlockedOn 0)) e ∙ one_behind) refl

one_not : NeverEnds (λ w. says_again_on ≡ w) limited_start (take 6 said_events) (take 6 (said_answers 5 230))
one_not = step_on refl one_0 (step_on refl one_1 (step_on refl one_2 (step_on refl one_3 (step_on refl one_4 (step_on refl one_5 (ends_here one_other))))))

pub one_never : NeverSays limited_start (said_answers 5 230) says_again_on
one_never views f = one_not.never views says_again_on f refl
