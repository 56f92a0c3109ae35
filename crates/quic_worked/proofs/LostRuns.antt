-- What is in flight where a datagram is lost, and what machines that go wrong there leave.
use Rattle.std.proofs.Common.{◌≡◌, ℕ, List, [], ◌∷◌, ◌++◌, Ok, true, false, refl, inl, inr, ap, sym, ◌∙◌, subst, arith, length, drop, ◌⊎◌}
use Rattle.quic_wire_core.specs.declared.stream_id.Side.TheVariants.{Client, Server}
use Rattle.quic_wire.specs.Value.{StreamValue, stream, ping, padding}
use Rattle.quic_machine.specs.declared.answers.Received.TheVariants as receives
use Rattle.quic_machine.specs.declared.answers.State.TheVariants as states
use Rattle.quic_machine.specs.declared.run.RunEvent.{RunEvent}
use Rattle.quic_machine.specs.declared.run.Answer.{Answer}
use Rattle.quic_machine.specs.declared.run.Answer.TheVariants as answers
use Rattle.quic_machine.specs.Machine.{World, IsStep}
use Rattle.quic_headline.specs.Runs.{Packet, In, WasTaken, HasArrived, EndHasArrived}
use Rattle.quic_headline.specs.Observer.{took}
use Rattle.quic_headline.specs.Duties.{Offset, Waits, IsCarried, DutiesAt, is_due}
use Rattle.quic_headline.specs.InFlight.{in_flight, TracksAt}
use Rattle.quic_headline.specs.Headline.{FinishedMeansArrived}
use Rattle.quic_worked.specs.Acknowledged.{client_acked}
use Rattle.quic_worked.specs.Worked.{once_sent, worked_policies, asks_datagram, gives_bytes}
use Rattle.quic_worked.specs.Reordered.{delivers_at}
use Rattle.quic_worked.specs.Broken.{NeverAnswers, IsNoRun, NeverLeads, asks_event, tells_finished}
use Rattle.quic_worked.specs.Losses.{asks_ping, server_waits, server_polled, client_delivered, losing_events, losing_answers, after_ping, pinged_once, pinged_twice, pinged_thrice, all_given, last_taken, last_due, last_named, once_lost, losing_run, never_lost, seldom_lost, early_lost, still_waiting, lost_for_good, all_named}
use Rattle.quic_worked.proofs.Waited.{as_many}
use Rattle.quic_worked.proofs.WorkedRun.{opens, writes, finishes, gives}
use Rattle.quic_worked.proofs.BrokenRuns.{IsRefused, stops, behind}
use Rattle.quic_worked.proofs.WrongRuns.{NeverEnds, ends_here, step_on, NotTo}
use Rattle.quic_worked.proofs.Steps.{counts_so}
use Rattle.quic_worked.proofs.Unmoved.{client_tells_stays}

-- ---- the events

pub pings : (w : World) → IsStep worked_policies w asks_ping answers.Ping (after_ping w)
pings w = record { answer = refl; end = refl; control = refl; heard = counts_so worked_policies w asks_ping answers.Ping; openings = tt; others = refl; lacking = tt }

pub gives_first : IsStep worked_policies (after_ping once_sent) asks_datagram (gives_bytes 29) pinged_once
unfolding pinged_once
gives_first = record { answer = inl refl; end = refl; control = refl; heard = counts_so worked_policies (after_ping once_sent) asks_datagram (gives_bytes 29); openings = tt; others = refl; lacking = tt }

gives_second : IsStep worked_policies (after_ping pinged_once) asks_datagram (gives_bytes 29) pinged_twice
unfolding pinged_twice
gives_second = record { answer = inl refl; end = refl; control = refl; heard = counts_so worked_policies (after_ping pinged_once) asks_datagram (gives_bytes 29); openings = tt; others = refl; lacking = tt }

gives_third : IsStep worked_policies (after_ping pinged_twice) asks_datagram (gives_bytes 29) pinged_thrice
unfolding pinged_thrice
gives_third = record { answer = inl refl; end = refl; control = refl; heard = counts_so worked_policies (after_ping pinged_twice) asks_datagram (gives_bytes 29); openings = tt; others = refl; lacking = tt }

gives_fourth : IsStep worked_policies (after_ping pinged_thrice) asks_datagram (gives_bytes 29) all_given
unfolding all_given
gives_fourth = record { answer = inl refl; end = refl; control = refl; heard = counts_so worked_policies (after_ping pinged_thrice) asks_datagram (gives_bytes 29); openings = tt; others = refl; lacking = tt }

takes_last : IsStep worked_policies all_given (delivers_at 4) (answers.Deliver receives.Taken) last_taken
unfolding last_taken
takes_last = record { answer = inl refl; end = refl; control = refl; heard = counts_so worked_policies all_given (delivers_at 4) (answers.Deliver receives.Taken); openings = tt; others = refl; lacking = tt }

waits_last : IsStep worked_policies last_taken server_waits (answers.Timeout (Ok tt)) last_due
unfolding last_taken
waits_last = record { answer = inl refl; end = refl; control = refl; heard = counts_so worked_policies last_taken server_waits (answers.Timeout (Ok tt)); openings = tt; others = refl; lacking = tt }

names_last : IsStep worked_policies last_due server_polled (gives_bytes 32) last_named
unfolding last_named
names_last = record { answer = inl refl; end = refl; control = refl; heard = counts_so worked_policies last_due server_polled (gives_bytes 32); openings = tt; others = refl; lacking = tt }

takes_name : IsStep worked_policies last_named client_delivered (answers.Deliver receives.Taken) once_lost
unfolding once_lost
takes_name = record { answer = inl refl; end = refl; control = refl; heard = counts_so worked_policies last_named client_delivered (answers.Deliver receives.Taken); openings = tt; others = refl; lacking = tt }

-- those behind the client's datagram
abbrev pub losing_behind : List RunEvent
losing_behind = drop 4 losing_events

abbrev pub told_behind : List Answer
told_behind = drop 4 losing_answers

-- what holds behind them
pub leads_lost : {Q : World → Type 0} {events : List RunEvent} {told : List Answer}
    → NeverEnds Q once_lost events told → NeverEnds Q once_sent (losing_behind ++ events) (told_behind ++ told)
leads_lost h = step_on refl (pings once_sent) (step_on refl gives_first (step_on refl (pings pinged_once) (step_on refl gives_second (step_on refl (pings pinged_twice) (step_on refl gives_third (step_on refl (pings pinged_thrice) (step_on refl gives_fourth (step_on refl takes_last (step_on refl waits_last (step_on refl names_last (step_on refl takes_name h)))))))))))

not_to : {bad : World} → (bad ≡ once_lost → ⊥) → NotTo bad losing_events losing_answers
not_to other = step_on refl opens (step_on refl writes (step_on refl finishes (step_on refl gives (leads_lost (ends_here other)))))

-- ---- what is in flight

two_fly : length (in_flight (losing_run [] []) Client 16) ≡ 2
unfolding client_acked
two_fly = refl

-- so many are waited for
all_wait : length never_lost.client.tracking.packets ≡ 4
unfolding once_lost
all_wait = refl

seldom_wait : length seldom_lost.client.tracking.packets ≡ 3
unfolding once_lost
seldom_wait = refl

early_wait : length early_lost.client.tracking.packets ≡ 1
unfolding once_lost
early_wait = refl

still_wait : length still_waiting.client.tracking.packets ≡ 3
unfolding once_lost
still_wait = refl

two_wait : length once_lost.client.tracking.packets ≡ 2
unfolding once_lost
two_wait = refl

is_open : once_lost.client.closing.state ≡ states.Open
unfolding once_lost
is_open = refl

-- a client that waits for another count of datagrams doesn't wait for those in flight
other_count : (w : World) (n : ℕ) → w.client.closing.state ≡ states.Open → length w.client.tracking.packets ≡ n → (n ≡ 2 → ⊥) → TracksAt (losing_run [] []) 16 w → ⊥
other_count w n opened counted other h =
    other (sym counted ∙ as_many (h Client opened) ∙ two_fly)

-- nor is it the machine's
other_end : (w : World) (n : ℕ) → length w.client.tracking.packets ≡ n → (n ≡ 2 → ⊥) → w ≡ once_lost → ⊥
other_end w n counted other e = other (sym counted ∙ ap (λ (v : World). length v.client.tracking.packets) e ∙ two_wait)

not_four : ◌≡◌ {A = ℕ} 4 2 → ⊥
not_four e = omega (arith, e)

not_three : ◌≡◌ {A = ℕ} 3 2 → ⊥
not_three e = omega (arith, e)

not_one : ◌≡◌ {A = ℕ} 1 2 → ⊥
not_one e = omega (arith, e)

pub never_tracks : TracksAt (losing_run [] []) 16 never_lost → ⊥
never_tracks = other_count never_lost 4 is_open all_wait not_four

pub seldom_tracks : TracksAt (losing_run [] []) 16 seldom_lost → ⊥
seldom_tracks = other_count seldom_lost 3 is_open seldom_wait not_three

pub early_tracks : TracksAt (losing_run [] []) 16 early_lost → ⊥
early_tracks = other_count early_lost 1 is_open early_wait not_one

pub still_tracks : TracksAt (losing_run [] []) 16 still_waiting → ⊥
still_tracks = other_count still_waiting 3 is_open still_wait not_three

never_to : NotTo never_lost losing_events losing_answers
never_to = not_to (other_end never_lost 4 all_wait not_four)

pub never_leads : NeverLeads losing_events losing_answers never_lost
never_leads views f = never_to.never views never_lost f refl

seldom_to : NotTo seldom_lost losing_events losing_answers
seldom_to = not_to (other_end seldom_lost 3 seldom_wait not_three)

pub seldom_leads : NeverLeads losing_events losing_answers seldom_lost
seldom_leads views f = seldom_to.never views seldom_lost f refl

early_to : NotTo early_lost losing_events losing_answers
early_to = not_to (other_end early_lost 1 early_wait not_one)

pub early_leads : NeverLeads losing_events losing_answers early_lost
early_leads views f = early_to.never views early_lost f refl

still_to : NotTo still_waiting losing_events losing_answers
still_to = not_to (other_end still_waiting 3 still_wait not_three)

pub still_leads : NeverLeads losing_events losing_answers still_waiting
still_leads views f = still_to.never views still_waiting f refl

-- ---- what was lost goes nowhere

good_due : is_due lost_for_good.client (Offset 0 0) ≡ false
unfolding once_lost
good_due = refl

again_due : is_due once_lost.client (Offset 0 0) ≡ true
unfolding once_lost
again_due = refl

-- the one packet that came
abbrev ping_packet : Packet
ping_packet = record { number = 4; frames = ping ∷ padding ∷ padding ∷ [] }

took_last : took (losing_run [] []) Server 16 ≡ ping_packet ∷ []
unfolding client_acked
took_last = refl

-- no frame of a stream stands in it
no_frame : (frame : StreamValue) → In (stream frame) (ping ∷ padding ∷ padding ∷ []) → ⊥
no_frame frame (inl e) = cc
no_frame frame (inr (inl e)) = cc
no_frame frame (inr (inr (inl e))) = cc
no_frame frame (inr (inr (inr i))) = i

in_packet : (frame : StreamValue) (packet : Packet) → In packet (ping_packet ∷ []) → In (stream frame) packet.frames → ⊥
in_packet frame packet (inl is) carried = no_frame frame (subst (λ (p : Packet). In (stream frame) p.frames) is carried)
in_packet frame packet (inr i) carried = i

no_stream : (frame : StreamValue) → WasTaken (ping_packet ∷ []) frame → ⊥
no_stream frame w = in_packet frame w.packet w.was_taken w.carried

-- the two that are in flight carry none
nothing_carried : IsCarried lost_for_good.client.tracking.packets (Offset 0 0) → ⊥
unfolding once_lost
nothing_carried (inl g) = g
nothing_carried (inr (inl g)) = g
nothing_carried (inr (inr g)) = g

gone : Waits lost_for_good.client (Offset 0 0) ⊎ IsCarried lost_for_good.client.tracking.packets (Offset 0 0) ⊎ HasArrived (took (losing_run [] []) Server 16) 0 0 → ⊥
gone (inl w) = let clash : true ≡ false = sym w.due ∙ good_due in cc
gone (inr (inl g)) = nothing_carried g
gone (inr (inr a)) = (let b : HasArrived (ping_packet ∷ []) 0 0 = subst (λ (ps : List Packet). HasArrived ps 0 0) took_last a in no_stream b.frame b.taken)

pub good_duties : DutiesAt (losing_run [] []) 16 lost_for_good → ⊥
good_duties stands = gone (stands Client (λ n. false) (Offset 0 0) (client_tells_stays (losing_run [] []) (λ n. false)) (refl, omega arith))

good_end : lost_for_good ≡ once_lost → ⊥
good_end e = let clash : false ≡ true = sym good_due ∙ ap (λ (w : World). is_due w.client (Offset 0 0)) e ∙ again_due in cc

good_to : NotTo lost_for_good losing_events losing_answers
good_to = not_to good_end

pub good_leads : NeverLeads losing_events losing_answers lost_for_good
good_leads views f = good_to.never views lost_for_good f refl

-- ---- an acknowledgement that counts for all before it

took_named : took all_named Server 16 ≡ ping_packet ∷ []
unfolding client_acked
took_named = refl

pub named_finishes : FinishedMeansArrived all_named → ⊥
named_finishes h =
    let all = h Client 0 16 refl (record { event = refl; answer = refl }) in
    let end : EndHasArrived (ping_packet ∷ []) 0 5 = subst (λ (ps : List Packet). EndHasArrived ps 0 5) took_named all.end in
    no_stream end.frame end.taken

nothing_told : IsRefused once_lost asks_event tells_finished
unfolding once_lost
nothing_told is = cc

-- what the machine never answers behind the loss
pub never_behind_lost : {events : List RunEvent} {told : List Answer} → NeverAnswers once_lost events told
    → NeverAnswers once_sent (losing_behind ++ events) (told_behind ++ told)
never_behind_lost h = behind refl (pings once_sent) (behind refl gives_first (behind refl (pings pinged_once) (behind refl gives_second (behind refl (pings pinged_twice) (behind refl gives_third (behind refl (pings pinged_thrice) (behind refl gives_fourth (behind refl takes_last (behind refl waits_last (behind refl names_last (behind refl takes_name h)))))))))))

pub never_named : IsNoRun all_named
never_named = behind refl opens (behind refl writes (behind refl finishes (behind refl gives (never_behind_lost (stops _ _ _ _ _ nothing_told)))))
