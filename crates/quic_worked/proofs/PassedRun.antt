-- A server that passes over the next id, as its path changes: it takes the id that it uses for the
-- last one, though the lists know a next one.
use Rattle.std.proofs.Common.{◌≡◌, ◌≤◌, ◌⊎◌, ℕ, zero, suc, true, false, List, length, take, Option, Some, None, refl, inl, inr, sym, ap, ◌∙◌, subst, arith, lit≤}
use Rattle.std.specs.Prelude.{◌↔◌, ◌==◌, not}
use Rattle.std.proofs.lemmas.List.{take_all}
use Rattle.quic_wire_core.specs.declared.stream_id.Side.TheVariants.{Server}
use Rattle.quic_machine.specs.declared.answers.Received.TheVariants as receives
use Rattle.quic_machine.specs.declared.run.Answer.{Answer}
use Rattle.quic_machine.specs.declared.run.Answer.TheVariants as answers
use Rattle.quic_machine.specs.Machine.{World, IsStep, Follows, end_at, view_of}
use Rattle.quic_machine.specs.RunLaws.{one_run}
use Rattle.quic_headline.specs.Runs.{LeadsTo, told_at, folded, given_of}
use Rattle.quic_headline.specs.Observer.{generation_at, path_changes, watch_told, watch_from, lens_of}
use Rattle.quic_headline.specs.InUse.{in_use, next_id, TellsStays}
use Rattle.quic_headline.specs.ConnectionIds.{IsPastLimit, StaysForAReason}
use Rattle.quic_headline.specs.Headline.{IsRun}
use Rattle.quic_worked.specs.Worked.{worked_policies, both_steady, asks_datagram, gives_bytes, open_view, sent_view}
use Rattle.quic_worked.specs.Acknowledged.{client_acked}
use Rattle.quic_worked.specs.Broken.{NeverLeadsFrom}
use Rattle.quic_worked.specs.Losses.{asks_ping}
use Rattle.quic_worked.specs.Migrated.{comes_from, moved_view}
use Rattle.quic_worked.specs.Moved.{uses_last, passing_events, passing_answers, once_passed, passes_over}
use Rattle.quic_worked.proofs.Codes.{no_codes}
use Rattle.quic_worked.proofs.WrongRuns.{NeverEnds, ends_here, step_on}
use Rattle.quic_worked.proofs.Steps.{StepsSo, steps_at}

-- ---- where that end leads

step_0 : IsStep worked_policies (once_passed uses_last 0) asks_ping answers.Ping (once_passed uses_last 1)
unfolding client_acked
step_0 =
    let s : StepsSo worked_policies (once_passed uses_last 0) asks_ping answers.Ping (once_passed uses_last 1) = steps_at worked_policies uses_last passing_events passing_answers 0 asks_ping answers.Ping _ _ refl refl refl in
    record { answer = refl; end = s.end; control = s.control; heard = s.heard; openings = tt; others = s.others; lacking = tt }

step_seen_0 : record { client = open_view; server = open_view } ≡ view_of (once_passed uses_last 1)
unfolding client_acked
step_seen_0 = refl

step_1 : IsStep worked_policies (once_passed uses_last 1) asks_datagram (gives_bytes 223) (once_passed uses_last 2)
unfolding client_acked
step_1 =
    let s : StepsSo worked_policies (once_passed uses_last 1) asks_datagram (gives_bytes 223) (once_passed uses_last 2) = steps_at worked_policies uses_last passing_events passing_answers 1 asks_datagram (gives_bytes 223) _ _ refl refl refl in
    record { answer = inl refl; end = s.end; control = s.control; heard = s.heard; openings = tt; others = s.others; lacking = tt }

step_seen_1 : record { client = sent_view; server = open_view } ≡ view_of (once_passed uses_last 2)
unfolding client_acked
step_seen_1 = refl

step_2 : IsStep worked_policies (once_passed uses_last 2) (comes_from 9 0) (answers.Deliver receives.Taken) (once_passed uses_last 3)
unfolding client_acked
step_2 =
    let s : StepsSo worked_policies (once_passed uses_last 2) (comes_from 9 0) (answers.Deliver receives.Taken) (once_passed uses_last 3) = steps_at worked_policies uses_last passing_events passing_answers 2 (comes_from 9 0) (answers.Deliver receives.Taken) _ _ refl refl refl in
    record { answer = inl refl; end = s.end; control = s.control; heard = s.heard; openings = tt; others = s.others; lacking = tt }

step_seen_2 : moved_view ≡ view_of (once_passed uses_last 3)
unfolding client_acked
step_seen_2 = refl

follows : Follows passes_over.keys passes_over.start passes_over.events passes_over.answers passes_over.views (once_passed uses_last 3)
follows = (once_passed uses_last 1, step_0, step_seen_0, (once_passed uses_last 2, step_1, step_seen_1, (once_passed uses_last 3, step_2, step_seen_2, refl)))

gave_one : passes_over.from_client ≡ (once_passed uses_last 3).from_client
unfolding client_acked
gave_one = refl

gave_none : passes_over.from_server ≡ (once_passed uses_last 3).from_server
unfolding client_acked
gave_none = refl

pub passes_is_run : IsRun passes_over (once_passed uses_last 3)
passes_is_run = record { codes = no_codes passes_over.events refl; follows = follows; from_client = gave_one; from_server = gave_none }

-- ---- its path changes there alone

second_then : generation_at passes_over Server 3 ≡ 1
unfolding client_acked
second_then = refl

second_behind : (i : ℕ) → 3 ≤ i → generation_at passes_over Server i ≡ 1
second_behind i far =
    ap (λ (said : List Answer). (folded (watch_told (lens_of passes_over Server)) (told_at Server (end_at Server passes_over.start).closing.state passes_over.events said passes_over.views) (watch_from (end_at Server passes_over.start) (given_of passes_over Server))).route.generation) (take_all i passes_over.answers far ∙ sym (take_all 3 passes_over.answers (omega arith)))
    ∙ second_then

none_behind : (i : ℕ) → 3 ≤ i → path_changes passes_over Server i ≡ false
none_behind i far =
    ap (λ (g : ℕ). not (g == generation_at passes_over Server i)) (second_behind (suc i) (omega (arith, far)))
    ∙ ap (λ (g : ℕ). not (1 == g)) (second_behind i far)

pub changes : path_changes passes_over Server 2 ≡ true
unfolding client_acked
changes = refl

only_there : (i : ℕ) → path_changes passes_over Server i ≡ true → i ≡ 2
unfolding client_acked
only_there zero is = (let clash : false ≡ true = is in cc)
only_there (suc zero) is = (let clash : false ≡ true = is in cc)
only_there (suc (suc zero)) is = refl
only_there (suc (suc (suc i))) is = absurd (let clash : false ≡ true = sym (none_behind (suc (suc (suc i))) (omega arith)) ∙ is in cc)

-- ---- the id stays

two_follow : Follows passes_over.keys passes_over.start (take 2 passes_over.events) (take 2 passes_over.answers) (take 2 passes_over.views) (once_passed uses_last 2)
two_follow = (once_passed uses_last 1, step_0, step_seen_0, (once_passed uses_last 2, step_1, step_seen_1, refl))

three_follow : Follows passes_over.keys passes_over.start (take 3 passes_over.events) (take 3 passes_over.answers) (take 3 passes_over.views) (once_passed uses_last 3)
three_follow = (once_passed uses_last 1, step_0, step_seen_0, (once_passed uses_last 2, step_1, step_seen_1, (once_passed uses_last 3, step_2, step_seen_2, refl)))

last_before : (once_passed uses_last 2).server.ids.peer.active ≡ 7
unfolding client_acked
last_before = refl

last_behind : (once_passed uses_last 3).server.ids.peer.active ≡ 7
unfolding client_acked
last_behind = refl

same_id : (w v : World) → LeadsTo passes_over 2 w → LeadsTo passes_over 3 v → v.server.ids.peer.active ≡ w.server.ids.peer.active
same_id w v leads behind =
    let there = one_run passes_over.keys (take 2 passes_over.answers) passes_over.start (take 2 passes_over.events) (take 2 passes_over.views) (take 2 passes_over.views) w (once_passed uses_last 2) refl leads two_follow in
    let then = one_run passes_over.keys (take 3 passes_over.answers) passes_over.start (take 3 passes_over.events) (take 3 passes_over.views) (take 3 passes_over.views) v (once_passed uses_last 3) refl behind three_follow in
    ap (λ (x : World). x.server.ids.peer.active) then.1 ∙ last_behind ∙ sym last_before ∙ ap (λ (x : World). x.server.ids.peer.active) (sym there.1)

pub stays_there : TellsStays passes_over Server (λ n. true)
stays_there i w v served leads behind changed = go (only_there i changed)
  where
    go : i ≡ 2 → (true ≡ true) ↔ (v.server.ids.peer.active ≡ w.server.ids.peer.active)
    go is = (λ always. same_id w v (subst (λ (j : ℕ). LeadsTo passes_over j w) is leads) (subst (λ (j : ℕ). LeadsTo passes_over (suc j) v) is behind), λ same. refl)

-- ---- by the lists there is a next one, and room for its retirements

pub lists_next : next_id passes_over (λ n. true) Server 3 ≡ Some 1
unfolding client_acked
lists_next = refl

used_then : in_use passes_over (λ n. true) Server 3 ≡ 0
unfolding client_acked
used_then = refl

few_wait : length (once_passed uses_last 3).server.waiting.frames.retire_cids ≤ 8
unfolding client_acked
few_wait = lit≤ tt

pub passes_wrong : StaysForAReason passes_over → ⊥
passes_wrong h = go (h Server (λ n. true) 2 (once_passed uses_last 3) stays_there refl three_follow changes refl)
  where
    go : (next_id passes_over (λ n. true) Server 3 ≡ None) ⊎ ((next : ℕ) × (next_id passes_over (λ n. true) Server 3 ≡ Some next) × IsPastLimit (end_at Server (once_passed uses_last 3)) (in_use passes_over (λ n. true) Server 3) next) → ⊥
    go (inl none) = let clash : ◌≡◌ {A = Option ℕ} (Some 1) None = sym lists_next ∙ none in cc
    go (inr past) =
        let is : Some 1 ≡ Some past.0 = sym lists_next ∙ past.1 in
        let first : ◌≡◌ {A = ℕ} 1 past.0 = cc in
        let over = past.2 in
        let few = few_wait in
        let used = used_then in
        omega (arith, first, over, few, used)

-- ---- two new ends come to another one

right_0 : IsStep worked_policies (once_passed both_steady 0) asks_ping answers.Ping (once_passed both_steady 1)
unfolding client_acked
right_0 =
    let s : StepsSo worked_policies (once_passed both_steady 0) asks_ping answers.Ping (once_passed both_steady 1) = steps_at worked_policies both_steady passing_events passing_answers 0 asks_ping answers.Ping _ _ refl refl refl in
    record { answer = refl; end = s.end; control = s.control; heard = s.heard; openings = tt; others = s.others; lacking = tt }

right_1 : IsStep worked_policies (once_passed both_steady 1) asks_datagram (gives_bytes 223) (once_passed both_steady 2)
unfolding client_acked
right_1 =
    let s : StepsSo worked_policies (once_passed both_steady 1) asks_datagram (gives_bytes 223) (once_passed both_steady 2) = steps_at worked_policies both_steady passing_events passing_answers 1 asks_datagram (gives_bytes 223) _ _ refl refl refl in
    record { answer = inl refl; end = s.end; control = s.control; heard = s.heard; openings = tt; others = s.others; lacking = tt }

right_2 : IsStep worked_policies (once_passed both_steady 2) (comes_from 9 0) (answers.Deliver receives.Taken) (once_passed both_steady 3)
unfolding client_acked
right_2 =
    let s : StepsSo worked_policies (once_passed both_steady 2) (comes_from 9 0) (answers.Deliver receives.Taken) (once_passed both_steady 3) = steps_at worked_policies both_steady passing_events passing_answers 2 (comes_from 9 0) (answers.Deliver receives.Taken) _ _ refl refl refl in
    record { answer = inl refl; end = s.end; control = s.control; heard = s.heard; openings = tt; others = s.others; lacking = tt }

first_behind : (once_passed both_steady 3).server.ids.peer.active ≡ 1
unfolding client_acked
first_behind = refl

other_end : once_passed uses_last 3 ≡ once_passed both_steady 3 → ⊥
other_end e = let clash : ◌≡◌ {A = ℕ} 7 1 = sym last_behind ∙ ap (λ (w : World). w.server.ids.peer.active) e ∙ first_behind in omega (arith, clash)

not_there : NeverEnds (λ w. once_passed uses_last 3 ≡ w) both_steady passing_events passing_answers
not_there = step_on refl right_0 (step_on refl right_1 (step_on refl right_2 (ends_here other_end)))

pub never_there : NeverLeadsFrom both_steady passing_events passing_answers (once_passed uses_last 3)
never_there views f = not_there.never views (once_passed uses_last 3) f refl
