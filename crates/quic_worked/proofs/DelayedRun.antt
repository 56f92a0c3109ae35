-- The server that says how long it held its acknowledgement back, and one that says 0.
use Rattle.std.proofs.Common.{◌≡◌, ℕ, zero, suc, ◌-◌, ◌<◌, List, [], ◌∷◌, length, max, Some, refl, inl, sym, ap, ◌∙◌, subst, arith}
use Rattle.std.specs.Prelude.{slice_index}
use Rattle.quic_wire_core.specs.declared.shared.EcnCodepoint.TheVariants.{Ect0}
use Rattle.quic_wire_core.specs.declared.stream_id.Side.TheVariants.{Server}
use Rattle.quic_machine.specs.Machine.{World, Follows}
use Rattle.quic_machine.specs.RunLaws.{one_run}
use Rattle.quic_headline.specs.Runs.{Packet}
use Rattle.quic_headline.specs.Observer.{watch, took, sents_until}
use Rattle.quic_headline.specs.Headline.{IsHonest}
use Rattle.quic_headline.specs.Polls.{GaveOne}
use Rattle.quic_headline.specs.AckDelays.{CameAt, delay_said, IsSince, AcksSayDelay}
use Rattle.quic_headline.proofs.AckFrames.Delays.{acks_say_delay}
use Rattle.quic_worked.specs.Acknowledged.{client_acked}
use Rattle.quic_worked.specs.Machines.{NeverGives}
use Rattle.quic_worked.specs.Smoothed.{smoothed_start, smoothed_run, once_smoothed}
use Rattle.quic_worked.specs.Delayed.{late_ack, late_sent, prompt_run, prompt_ack, prompt_sent}
use Rattle.quic_worked.proofs.OwnIds.{honest_from}
use Rattle.quic_worked.proofs.SmoothedRun.{smoothed_started, smoothed_is_honest, smoothed_is_run, step_0, seen_0, step_1, seen_1, step_2, seen_2, step_3, seen_3, step_4, seen_4}

-- ---- the machine's run

pub late_went : sents_until smoothed_run Server 5 ≡ late_sent ∷ []
unfolding client_acked
late_went = refl

gave_late : GaveOne smoothed_run Server 4 35000000
unfolding client_acked
gave_late = record { transmit = record { size = 32; ecn = Some Ect0; remote = 0 }; poll = record { event = refl; answer = refl }; served = refl; sent = late_sent; went = refl }

pub delays_said : AcksSayDelay smoothed_run
delays_said = acks_say_delay smoothed_run (once_smoothed 14) (smoothed_is_honest 235000000 338125000) smoothed_is_run

clock_late : (watch smoothed_run Server 4).clock ≡ 35000000
unfolding client_acked
clock_late = refl

pub late_since : IsSince smoothed_run Server 4 35000000 3125
unfolding gave_late
late_since =
    let since : IsSince smoothed_run Server 4 (max (watch smoothed_run Server 4).clock 35000000) 3125 = delays_said Server 4 35000000 gave_late late_ack (inl refl) in
    subst (λ (clock : ℕ). IsSince smoothed_run Server 4 (max clock 35000000) 3125) clock_late since

-- ---- a server that says 0

pub prompt_is_honest : IsHonest prompt_run
prompt_is_honest = honest_from smoothed_start smoothed_started prompt_run (record { start = refl; keys = refl; client = (tt, (tt, (tt, (tt, (tt, tt))))); server = (tt, (tt, (tt, (tt, (tt, tt))))) })

gave_prompt : GaveOne prompt_run Server 4 35000000
unfolding client_acked
gave_prompt = record { transmit = record { size = 32; ecn = Some Ect0; remote = 0 }; poll = record { event = refl; answer = refl }; served = refl; sent = prompt_sent; went = refl }

-- how many packets the server took by then
many_0 : length (took prompt_run Server 0) ≡ 0
unfolding client_acked
many_0 = refl

many_1 : length (took prompt_run Server 1) ≡ 0
unfolding client_acked
many_1 = refl

many_2 : length (took prompt_run Server 2) ≡ 0
unfolding client_acked
many_2 = refl

many_3 : length (took prompt_run Server 3) ≡ 1
unfolding client_acked
many_3 = refl

many_4 : length (took prompt_run Server 4) ≡ 1
unfolding client_acked
many_4 = refl

clock_3 : (watch prompt_run Server 3).clock ≡ 10000000
unfolding client_acked
clock_3 = refl

clock_4 : (watch prompt_run Server 4).clock ≡ 35000000
unfolding client_acked
clock_4 = refl

-- none came by a call after which there are as many
none_more : (a b : List Packet) (p : Packet) (n : ℕ) → length a ≡ n → length b ≡ n → b ≡ p ∷ a → ⊥
none_more a b p n before behind is = (let more : length b ≡ suc (length a) = ap (λ (ps : List Packet). length ps) is in absurd (omega (arith, more, before, behind)))

-- it took one, at 10 ms
came_at_ten : (p : Packet) (moment : ℕ) → CameAt prompt_run Server 4 p moment → moment ≡ 10000000
came_at_ten p moment c = go c.place c.before c.came c.clock
  where
    go : (place : ℕ) → place < 4 → took prompt_run Server (suc place) ≡ p ∷ took prompt_run Server place → (watch prompt_run Server (suc place)).clock ≡ moment → moment ≡ 10000000
    go zero below came at = absurd (none_more (took prompt_run Server 0) (took prompt_run Server 1) p 0 many_0 many_1 came)
    go (suc zero) below came at = absurd (none_more (took prompt_run Server 1) (took prompt_run Server 2) p 0 many_1 many_2 came)
    go (suc (suc zero)) below came at = sym at ∙ clock_3
    go (suc (suc (suc zero))) below came at = absurd (none_more (took prompt_run Server 3) (took prompt_run Server 4) p 1 many_3 many_4 came)
    go (suc (suc (suc (suc place)))) below came at = absurd (omega arith)

not_since : IsSince prompt_run Server 4 (max (watch prompt_run Server 4).clock 35000000) 0 → ⊥
not_since s =
    let moment = came_at_ten s.packet s.came_at s.came in
    let says : ◌≡◌ {A = ℕ} 0 3125 = s.says ∙ ap (λ (at : ℕ). delay_said 3 (max at 35000000 - s.came_at)) clock_4 ∙ ap (λ (at : ℕ). delay_said 3 (35000000 - at)) moment in
    absurd (omega arith)

pub prompt_not : AcksSayDelay prompt_run → ⊥
unfolding gave_prompt
prompt_not h = not_since (h Server 4 35000000 gave_prompt prompt_ack (inl refl))

-- the fourth byte of what the first datagram says, behind its header
abbrev said_byte : List (List ℕ) → ℕ
said_byte [] = 0
said_byte (d ∷ ds) = slice_index d 12

right_byte : said_byte (once_smoothed 5).from_server ≡ 0x4c
unfolding once_smoothed
right_byte = refl

-- the machine's run up to there
follows_five : Follows prompt_run.keys prompt_run.start prompt_run.events prompt_run.answers prompt_run.views (once_smoothed 5)
follows_five = (once_smoothed 1, step_0, seen_0, (once_smoothed 2, step_1, seen_1, (once_smoothed 3, step_2, seen_2, (once_smoothed 4, step_3, seen_3, (once_smoothed 5, step_4, seen_4, refl)))))

pub never_prompt : NeverGives prompt_run
never_prompt views end is =
    let same = one_run prompt_run.keys prompt_run.answers prompt_run.start prompt_run.events views prompt_run.views end (once_smoothed 5) refl is.follows follows_five in
    let clash : ◌≡◌ {A = ℕ} 0x40 0x4c = ap said_byte (is.from_server ∙ ap (λ (w : World). w.from_server) same.1) ∙ right_byte in
    omega (arith, clash)
