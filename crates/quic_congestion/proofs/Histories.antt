-- What calls in a row make of a controller.
use Rattle.std.proofs.Common.{◌≡◌, ℕ, ◌*◌, ◌<◌, ◌≤◌, ◌^◌, Bool, Option, List, [], ◌∷◌, ◌++◌, refl, ◌∙◌, subst}
use Rattle.std.proofs.lemmas.List.Sums.{fold-append, fold_push}
use Rattle.std.proofs.lemmas.List.Elements.{All-head, All-tail}
use Rattle.quic_time.specs.Rtt.{Rtt}
use Rattle.quic_congestion.specs.Congestion.{HasRoom, KeepsRoom, TakesSize, Told, Sent, Acked, AcksEnded, Congested, Resized, IsSized, AreSized, size_told, last_size, Steps, after_call, after_calls}
use Rattle.quic_congestion.specs.NewReno.{RenoSettings, Reno, reno_made, reno_steps, window_after}
use Rattle.quic_congestion.specs.NewRenoLaw.{stays, acked_keeps_room, congested_keeps_room, resized_takes_size}

pub next_call : {C : Type 0} (steps : Steps C) (c : C) (calls : List Told) (call : Told) → after_calls steps c (calls ++ call ∷ []) ≡ after_call steps call (after_calls steps c calls)
next_call steps c calls call = fold_push (λ d call. after_call steps call d) c calls call

pub calls_in_parts : {C : Type 0} (steps : Steps C) (c : C) (before later : List Told) → after_calls steps c (before ++ later) ≡ after_calls steps (after_calls steps c before) later
calls_in_parts steps c before later = fold-append (λ d call. after_call steps call d) c before later

-- what is said of every controller
pub record Lawful {C : Type 0} (size window : C → ℕ) (steps : Steps C) : Type 0 where
  pub sent : (c : C) (now bytes last : ℕ) → KeepsRoom size window c (steps.sent c now bytes last)
  pub ack : (c : C) (now sent bytes : ℕ) (app_limited : Bool) (rtt : Rtt) → KeepsRoom size window c (steps.ack c now sent bytes app_limited rtt)
  pub end_acks : (c : C) (now in_flight : ℕ) (app_limited : Bool) (largest : Option ℕ) → KeepsRoom size window c (steps.end_acks c now in_flight app_limited largest)
  pub event : (c : C) (now sent : ℕ) (persistent : Bool) (lost : ℕ) → KeepsRoom size window c (steps.congestion_event c now sent persistent lost)
  pub update : (c : C) (given : ℕ) → TakesSize size window c given (steps.mtu_update c given)

-- one call
size_after : {C : Type 0} (size window : C → ℕ) (steps : Steps C) → Lawful size window steps → (call : Told) (c : C) → size (after_call steps call c) ≡ size_told call (size c)
size_after size window steps h (Sent now bytes last) c = (h.sent c now bytes last).size_stays
size_after size window steps h (Acked now sent bytes app_limited rtt) c = (h.ack c now sent bytes app_limited rtt).size_stays
size_after size window steps h (AcksEnded now in_flight app_limited largest) c = (h.end_acks c now in_flight app_limited largest).size_stays
size_after size window steps h (Congested now sent persistent lost) c = (h.event c now sent persistent lost).size_stays
size_after size window steps h (Resized given) c = (h.update c given).size_taken

room_after : {C : Type 0} (size window : C → ℕ) (steps : Steps C) → Lawful size window steps → (call : Told) (c : C) → IsSized call → HasRoom (size c) (window c) → HasRoom (size (after_call steps call c)) (window (after_call steps call c))
room_after size window steps h (Sent now bytes last) c fits room = (h.sent c now bytes last).room_stays room
room_after size window steps h (Acked now sent bytes app_limited rtt) c fits room = (h.ack c now sent bytes app_limited rtt).room_stays room
room_after size window steps h (AcksEnded now in_flight app_limited largest) c fits room = (h.end_acks c now in_flight app_limited largest).room_stays room
room_after size window steps h (Congested now sent persistent lost) c fits room = (h.event c now sent persistent lost).room_stays room
room_after size window steps h (Resized given) c fits room = (h.update c given).room_stays fits room

-- calls in a row
pub size_after_calls : {C : Type 0} (size window : C → ℕ) (steps : Steps C) → Lawful size window steps → (c : C) (calls : List Told) → size (after_calls steps c calls) ≡ last_size (size c) calls
size_after_calls size window steps h c [] = refl
size_after_calls size window steps h c (call ∷ calls) =
    let same : size (after_call steps call c) ≡ size_told call (size c) = size_after size window steps h call c in
    size_after_calls size window steps h (after_call steps call c) calls ∙ rw same refl

in_row : {C : Type 0} (size window : C → ℕ) (steps : Steps C) → Lawful size window steps → (c : C) (calls : List Told) → AreSized calls → HasRoom (size c) (window c) → HasRoom (size (after_calls steps c calls)) (window (after_calls steps c calls))
in_row size window steps h c [] fits room = room
in_row size window steps h c (call ∷ calls) fits room =
    in_row size window steps h (after_call steps call c) calls (All-tail IsSized call calls fits)
    (room_after size window steps h call c (All-head IsSized call calls fits) room)

pub room_after_calls : {C : Type 0} (size window : C → ℕ) (steps : Steps C) → Lawful size window steps → (c : C) (calls : List Told) → AreSized calls → HasRoom (size c) (window c) → HasRoom (last_size (size c) calls) (window (after_calls steps c calls))
room_after_calls size window steps h c calls fits room =
    let P : ℕ → Type 0 = λ z. HasRoom z (window (after_calls steps c calls)) in
    subst P (size_after_calls size window steps h c calls) (in_row size window steps h c calls fits room)

-- NewReno's calls
reno_lawful : Lawful (λ (r : Reno). r.size) (λ (r : Reno). r.window) reno_steps
reno_lawful = record {
  sent = λ r now bytes last. stays r;
  ack = λ r now sent bytes app_limited rtt. acked_keeps_room r sent bytes app_limited;
  end_acks = λ r now in_flight app_limited largest. stays r;
  event = λ r now sent persistent lost. congested_keeps_room r now sent persistent;
  update = resized_takes_size;
}

pub reno_room : (s : RenoSettings) (now size : ℕ) (calls : List Told) → size < 2 ^ 16 → 2 * size ≤ s.initial → AreSized calls → 2 * last_size size calls ≤ window_after (reno_made s now size) calls
reno_room s now size calls sized room fits =
    (room_after_calls (λ (r : Reno). r.size) (λ (r : Reno). r.window) reno_steps reno_lawful (reno_made s now size) calls fits (record { sized = sized; room = room })).room
