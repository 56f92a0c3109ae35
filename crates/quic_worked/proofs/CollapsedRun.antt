-- The run in which congestion persists, event by event, and a machine whose window falls to one
-- datagram.
use Rattle.std.proofs.Common.{◌≡◌, ◌≤◌, ℕ, ◌+◌, ◌-◌, ◌*◌, ◌/◌, max, min, Bool, true, false, not, ◌&&◌, List, [], ◌∷◌, Option, Some, None, refl, inl, sym, ap, subst, arith}
use Rattle.std.specs.Prelude.{if◌then◌else◌, slice_get, nat_le, nat_lt}
use Rattle.quic_wire_core.specs.declared.stream_id.Side.TheVariants.{Client, Server}
use Rattle.quic_congestion.specs.Congestion.{size_told, last_size}
use Rattle.quic_congestion.specs.Congestion as congestion
use Rattle.quic_congestion.specs.NewReno.{default_reno}
use Rattle.quic_machine.specs.declared.answers.Received.TheVariants as receives
use Rattle.quic_machine.specs.declared.run.Answer.TheVariants as answers
use Rattle.quic_machine.specs.declared.run.View.{View}
use Rattle.quic_machine.specs.Start.{AreStarted}
use Rattle.quic_machine.specs.Machine.{IsStep, Follows, view_of}
use Rattle.quic_machine.specs.RunLaws.{one_run}
use Rattle.quic_headline.specs.Observer.{latest}
use Rattle.quic_headline.specs.Headline.{IsHonest, IsRun}
use Rattle.quic_headline.specs.Telling.{Tellings}
use Rattle.quic_headline.specs.Reno.{Window, first_window, grown_by, grown_slowly, left_of, window_told, window_behind, RenoWindows}
use Rattle.quic_headline.proofs.AppLimited.Clause.{controllers_are_told}
use Rattle.quic_headline.proofs.Tellings.Reno.{reno_windows}
use Rattle.quic_worked.specs.Worked.{worked_policies, gives_bytes, told_in}
use Rattle.quic_worked.specs.Losses.{asks_ping}
use Rattle.quic_worked.specs.Timed.{asks_at, seen_with, NeverShows}
use Rattle.quic_worked.specs.Smoothed.{brings}
use Rattle.quic_worked.specs.Collapsed.{collapsing, collapsed_events, collapsed_answers, once_collapsed, view_of_window, collapsed_seen, collapsed_run, collapsed_told, single_run}
use Rattle.quic_worked.proofs.Codes.{no_codes}
use Rattle.quic_worked.proofs.OwnIds.{honest_from}
use Rattle.quic_worked.proofs.Steps.{StepsSo, steps_at}
use Rattle.quic_worked.proofs.SampledRun.{sampled_started}

-- ---- the premises

collapsing_started : AreStarted collapsing
collapsing_started = record {
  client_making = sampled_started.client_making;
  server_making = sampled_started.server_making;
  client_is = sampled_started.client_is;
  server_is = sampled_started.server_is;
  client = sampled_started.client;
  server = sampled_started.server;
  client_gave = refl;
  server_gave = refl;
  client_heard = refl;
  server_heard = refl;
}

pub collapsed_is_honest : (bytes : ℕ) → IsHonest (collapsed_seen bytes)
collapsed_is_honest bytes = honest_from collapsing collapsing_started (collapsed_seen bytes) (record { start = refl; keys = refl; client = (tt, (tt, (tt, (tt, (tt, (tt, (tt, (tt, (tt, (tt, (tt, tt))))))))))); server = (tt, (tt, (tt, (tt, (tt, (tt, (tt, (tt, (tt, (tt, (tt, tt))))))))))) })

-- ---- the machine's run

step_0 : IsStep worked_policies collapsing asks_ping answers.Ping (once_collapsed 1)
unfolding once_collapsed
step_0 =
    let s : StepsSo worked_policies collapsing asks_ping answers.Ping (once_collapsed 1) = steps_at worked_policies collapsing collapsed_events collapsed_answers 0 asks_ping answers.Ping _ _ refl refl refl in
    record { answer = refl; end = s.end; control = s.control; heard = s.heard; openings = tt; others = s.others; lacking = tt }

seen_0 : seen_with None None ≡ view_of (once_collapsed 1)
unfolding once_collapsed
seen_0 = refl

step_1 : IsStep worked_policies (once_collapsed 1) (asks_at Client 1000000) (gives_bytes 223) (once_collapsed 2)
unfolding once_collapsed
step_1 =
    let s : StepsSo worked_policies (once_collapsed 1) (asks_at Client 1000000) (gives_bytes 223) (once_collapsed 2) = steps_at worked_policies collapsing collapsed_events collapsed_answers 1 (asks_at Client 1000000) (gives_bytes 223) _ _ refl refl refl in
    record { answer = inl refl; end = s.end; control = s.control; heard = s.heard; openings = tt; others = s.others; lacking = tt }

seen_1 : seen_with (Some 206000000) None ≡ view_of (once_collapsed 2)
unfolding once_collapsed
seen_1 = refl

step_2 : IsStep worked_policies (once_collapsed 2) asks_ping answers.Ping (once_collapsed 3)
unfolding once_collapsed
step_2 =
    let s : StepsSo worked_policies (once_collapsed 2) asks_ping answers.Ping (once_collapsed 3) = steps_at worked_policies collapsing collapsed_events collapsed_answers 2 asks_ping answers.Ping _ _ refl refl refl in
    record { answer = refl; end = s.end; control = s.control; heard = s.heard; openings = tt; others = s.others; lacking = tt }

seen_2 : seen_with (Some 206000000) None ≡ view_of (once_collapsed 3)
unfolding once_collapsed
seen_2 = refl

step_3 : IsStep worked_policies (once_collapsed 3) (asks_at Client 2000000) (gives_bytes 29) (once_collapsed 4)
unfolding once_collapsed
step_3 =
    let s : StepsSo worked_policies (once_collapsed 3) (asks_at Client 2000000) (gives_bytes 29) (once_collapsed 4) = steps_at worked_policies collapsing collapsed_events collapsed_answers 3 (asks_at Client 2000000) (gives_bytes 29) _ _ refl refl refl in
    record { answer = inl refl; end = s.end; control = s.control; heard = s.heard; openings = tt; others = s.others; lacking = tt }

seen_3 : seen_with (Some 207000000) None ≡ view_of (once_collapsed 4)
unfolding once_collapsed
seen_3 = refl

step_4 : IsStep worked_policies (once_collapsed 4) asks_ping answers.Ping (once_collapsed 5)
unfolding once_collapsed
step_4 =
    let s : StepsSo worked_policies (once_collapsed 4) asks_ping answers.Ping (once_collapsed 5) = steps_at worked_policies collapsing collapsed_events collapsed_answers 4 asks_ping answers.Ping _ _ refl refl refl in
    record { answer = refl; end = s.end; control = s.control; heard = s.heard; openings = tt; others = s.others; lacking = tt }

seen_4 : seen_with (Some 207000000) None ≡ view_of (once_collapsed 5)
unfolding once_collapsed
seen_4 = refl

step_5 : IsStep worked_policies (once_collapsed 5) (asks_at Client 1000000000) (gives_bytes 29) (once_collapsed 6)
unfolding once_collapsed
step_5 =
    let s : StepsSo worked_policies (once_collapsed 5) (asks_at Client 1000000000) (gives_bytes 29) (once_collapsed 6) = steps_at worked_policies collapsing collapsed_events collapsed_answers 5 (asks_at Client 1000000000) (gives_bytes 29) _ _ refl refl refl in
    record { answer = inl refl; end = s.end; control = s.control; heard = s.heard; openings = tt; others = s.others; lacking = tt }

seen_5 : seen_with (Some 1205000000) None ≡ view_of (once_collapsed 6)
unfolding once_collapsed
seen_5 = refl

step_6 : IsStep worked_policies (once_collapsed 6) asks_ping answers.Ping (once_collapsed 7)
unfolding once_collapsed
step_6 =
    let s : StepsSo worked_policies (once_collapsed 6) asks_ping answers.Ping (once_collapsed 7) = steps_at worked_policies collapsing collapsed_events collapsed_answers 6 asks_ping answers.Ping _ _ refl refl refl in
    record { answer = refl; end = s.end; control = s.control; heard = s.heard; openings = tt; others = s.others; lacking = tt }

seen_6 : seen_with (Some 1205000000) None ≡ view_of (once_collapsed 7)
unfolding once_collapsed
seen_6 = refl

step_7 : IsStep worked_policies (once_collapsed 7) (asks_at Client 1200000000) (gives_bytes 29) (once_collapsed 8)
unfolding once_collapsed
step_7 =
    let s : StepsSo worked_policies (once_collapsed 7) (asks_at Client 1200000000) (gives_bytes 29) (once_collapsed 8) = steps_at worked_policies collapsing collapsed_events collapsed_answers 7 (asks_at Client 1200000000) (gives_bytes 29) _ _ refl refl refl in
    record { answer = inl refl; end = s.end; control = s.control; heard = s.heard; openings = tt; others = s.others; lacking = tt }

seen_7 : seen_with (Some 1405000000) None ≡ view_of (once_collapsed 8)
unfolding once_collapsed
seen_7 = refl

step_8 : IsStep worked_policies (once_collapsed 8) (brings 3 Server 1250000000) (answers.Deliver receives.Taken) (once_collapsed 9)
unfolding once_collapsed
step_8 =
    let s : StepsSo worked_policies (once_collapsed 8) (brings 3 Server 1250000000) (answers.Deliver receives.Taken) (once_collapsed 9) = steps_at worked_policies collapsing collapsed_events collapsed_answers 8 (brings 3 Server 1250000000) (answers.Deliver receives.Taken) _ _ refl refl refl in
    record { answer = inl refl; end = s.end; control = s.control; heard = s.heard; openings = tt; others = s.others; lacking = tt }

seen_8 : seen_with (Some 1405000000) None ≡ view_of (once_collapsed 9)
unfolding once_collapsed
seen_8 = refl

step_9 : IsStep worked_policies (once_collapsed 9) (asks_at Server 1250000000) (gives_bytes 31) (once_collapsed 10)
unfolding once_collapsed
step_9 =
    let s : StepsSo worked_policies (once_collapsed 9) (asks_at Server 1250000000) (gives_bytes 31) (once_collapsed 10) = steps_at worked_policies collapsing collapsed_events collapsed_answers 9 (asks_at Server 1250000000) (gives_bytes 31) _ _ refl refl refl in
    record { answer = inl refl; end = s.end; control = s.control; heard = s.heard; openings = tt; others = s.others; lacking = tt }

seen_9 : seen_with (Some 1405000000) None ≡ view_of (once_collapsed 10)
unfolding once_collapsed
seen_9 = refl

step_10 : IsStep worked_policies (once_collapsed 10) (brings 0 Client 1300000000) (answers.Deliver receives.Taken) (once_collapsed 11)
unfolding once_collapsed
step_10 =
    let s : StepsSo worked_policies (once_collapsed 10) (brings 0 Client 1300000000) (answers.Deliver receives.Taken) (once_collapsed 11) = steps_at worked_policies collapsing collapsed_events collapsed_answers 10 (brings 0 Client 1300000000) (answers.Deliver receives.Taken) _ _ refl refl refl in
    record { answer = inl refl; end = s.end; control = s.control; heard = s.heard; openings = tt; others = s.others; lacking = tt }

seen_10 : view_of_window 2400 ≡ view_of (once_collapsed 11)
unfolding once_collapsed
seen_10 = refl

follows : Follows collapsed_run.keys collapsed_run.start collapsed_run.events collapsed_run.answers collapsed_run.views (once_collapsed 11)
follows = (once_collapsed 1, step_0, seen_0, (once_collapsed 2, step_1, seen_1, (once_collapsed 3, step_2, seen_2, (once_collapsed 4, step_3, seen_3, (once_collapsed 5, step_4, seen_4, (once_collapsed 6, step_5, seen_5, (once_collapsed 7, step_6, seen_6, (once_collapsed 8, step_7, seen_7, (once_collapsed 9, step_8, seen_8, (once_collapsed 10, step_9, seen_9, (once_collapsed 11, step_10, seen_10, refl)))))))))))

gave_four : collapsed_run.from_client ≡ (once_collapsed 11).from_client
unfolding once_collapsed
gave_four = refl

gave_one : collapsed_run.from_server ≡ (once_collapsed 11).from_server
unfolding once_collapsed
gave_one = refl

pub collapsed_is_run : IsRun collapsed_run (once_collapsed 11)
collapsed_is_run = record { codes = no_codes collapsed_run.events refl; follows = follows; from_client = gave_four; from_server = gave_one }

pub told_so : told_in Client worked_policies collapsing collapsed_events collapsed_answers ≡ collapsed_told
unfolding once_collapsed
told_so = refl

pub collapsed_windows : RenoWindows collapsed_run
collapsed_windows = reno_windows collapsed_run (controllers_are_told collapsed_run (once_collapsed 11) (collapsed_is_honest 2400) collapsed_is_run (refl, refl))

-- ---- a window of one datagram

-- a window has room for two datagrams, as far as 64 bits hold them
abbrev HasRoom : Window → Type 0
HasRoom w = min (2 * w.size) latest ≤ w.bytes

-- so it has whichever of two it is
either : (b : Bool) (x y : Window) → HasRoom x → HasRoom y → HasRoom (if b then x else y)
either true x y h k = h
either false x y h k = k

grown_has : (w : Window) (bytes : ℕ) → HasRoom w → HasRoom (grown_by w bytes)
grown_has w bytes h = omega (arith, h)

slowly_has : (w : Window) (bytes : ℕ) → HasRoom w → HasRoom (grown_slowly w bytes)
slowly_has w bytes h =
    let counted = min (w.counted + bytes) latest in
    either (nat_le w.bytes counted) (record w { bytes = min (w.bytes + w.size) latest; counted = counted - w.bytes }) (record w { counted = counted }) (omega (arith, h)) h

left_has : (persists : Bool) (size left : ℕ) → min (2 * size) latest ≤ (if persists then 2 * size else max left (2 * size))
left_has true size left = omega arith
left_has false size left = omega arith

resized_has : (bytes size : ℕ) → min (2 * size) latest ≤ max bytes (2 * size)
resized_has bytes size = omega arith

-- what is behind an acknowledgement that counts, and behind a loss that does
abbrev counted_by : Window → ℕ → Window
counted_by w bytes = if nat_lt w.bytes w.threshold then grown_by w bytes else grown_slowly w bytes

abbrev lost_by : ℕ × ℕ → ℕ → Bool → Window → Window
lost_by part now persists w = record w { bytes = if persists then 2 * w.size else left_of part w; threshold = left_of part w; recovery = now }

told_has : (part : ℕ × ℕ) (t : congestion.Told) (w : Window) → HasRoom w → HasRoom (window_told part t w)
told_has part (congestion.Sent now bytes last) w h = h
told_has part (congestion.Acked now sent bytes limited rtt) w h =
    either (nat_lt w.recovery sent && not limited) (counted_by w bytes) w (either (nat_lt w.bytes w.threshold) (grown_by w bytes) (grown_slowly w bytes) (grown_has w bytes h) (slowly_has w bytes h)) h
told_has part (congestion.AcksEnded now in_flight limited largest) w h = h
told_has part (congestion.Congested now sent persists lost) w h = either (nat_lt w.recovery sent) (lost_by part now persists w) w (left_has persists w.size (w.bytes * part.0 / part.1)) h
told_has part (congestion.Resized size) w h = resized_has w.bytes size

-- and datagrams have the size that it was told last
either_size : (b : Bool) (x y : Window) (size : ℕ) → x.size ≡ size → y.size ≡ size → (if b then x else y).size ≡ size
either_size true x y size h k = h
either_size false x y size h k = k

slowly_size : (w : Window) (bytes : ℕ) → (grown_slowly w bytes).size ≡ w.size
slowly_size w bytes =
    let counted = min (w.counted + bytes) latest in
    either_size (nat_le w.bytes counted) (record w { bytes = min (w.bytes + w.size) latest; counted = counted - w.bytes }) (record w { counted = counted }) w.size refl refl

told_size : (part : ℕ × ℕ) (t : congestion.Told) (w : Window) → (window_told part t w).size ≡ size_told t w.size
told_size part (congestion.Sent now bytes last) w = refl
told_size part (congestion.Acked now sent bytes limited rtt) w =
    either_size (nat_lt w.recovery sent && not limited) (counted_by w bytes) w w.size (either_size (nat_lt w.bytes w.threshold) (grown_by w bytes) (grown_slowly w bytes) w.size refl (slowly_size w bytes)) refl
told_size part (congestion.AcksEnded now in_flight limited largest) w = refl
told_size part (congestion.Congested now sent persists lost) w = either_size (nat_lt w.recovery sent) (lost_by part now persists w) w w.size refl refl
told_size part (congestion.Resized size) w = refl

behind_has : (part : ℕ × ℕ) (told : Tellings) (w : Window) → HasRoom w → min (2 * last_size w.size told) latest ≤ (window_behind part told w).bytes
behind_has part [] w h = h
behind_has part (t ∷ ts) w h = subst (λ (size : ℕ). min (2 * last_size size ts) latest ≤ (window_behind part ts (window_told part t w)).bytes) (told_size part t w) (behind_has part ts (window_told part t w) (told_has part t w h))

pub single_not : RenoWindows single_run → ⊥
single_not h =
    let all = h Client default_reno 0 1200 (λ told. refl) 10 (view_of_window 1200) refl refl in
    let room : min (2 * last_size 1200 all.0) latest ≤ (window_behind (1, 2) all.0 (first_window 12000 0 1200)).bytes = behind_has (1, 2) all.0 (first_window 12000 0 1200) (omega arith) in
    let fits : min (2 * 1200) latest ≤ 1200 = subst (λ (bytes : ℕ). min (2 * 1200) latest ≤ bytes) (sym all.2) (subst (λ (size : ℕ). min (2 * size) latest ≤ (window_behind (1, 2) all.0 (first_window 12000 0 1200)).bytes) (sym all.3) room) in
    absurd (omega (arith, fits))

-- the window that a view shows
abbrev window_of : Option View → ℕ
window_of None = 0
window_of (Some v) = v.client.window

pub single_never : NeverShows single_run
single_never end f =
    let same = one_run worked_policies collapsed_answers collapsing collapsed_events single_run.views collapsed_run.views end (once_collapsed 11) refl f follows in
    let windows : ◌≡◌ {A = ℕ} 1200 2400 = ap (λ (vs : List View). window_of (slice_get vs 10)) same.0 in
    absurd (omega (arith, windows))
