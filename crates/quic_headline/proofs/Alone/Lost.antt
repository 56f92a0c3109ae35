-- An end tells once at most that it is lost: it has told so then and isn't open, and no call makes
-- it forget that.
use Rattle.std.proofs.Common.{◌≡◌, ◌⊎◌, ℕ, zero, suc, ◌≤◌, Bool, true, false, List, [], ◌∷◌, take, Option, Some, None, Result, Ok, Err, refl, sym, ap, ◌∙◌, subst, inl, inr, arith}
use Rattle.std.specs.Prelude.{slice_get, option_map, if◌then◌else◌}
use Rattle.std.specs.List.{list_any}
use Rattle.std.proofs.lemmas.Bool.{or_parts}
use Rattle.quic_packet.specs.Header.{key_phase}
use Rattle.quic_packet.specs.Datagram.{Opening}
use Rattle.quic_recovery_core.specs.Duplicates.{is_duplicate}
use Rattle.quic_spaces.specs.Numbers.{number_opened}
use Rattle.quic_streams_parts.specs.declared.answers.StreamEvent.{StreamEvent}
use Rattle.quic_time.specs.Timers.{has_come}
use Rattle.quic_machine.specs.declared.answers.State.{State}
use Rattle.quic_machine.specs.declared.answers.State.TheVariants as states
use Rattle.quic_machine.specs.declared.answers.DropReason.{DropReason}
use Rattle.quic_machine.specs.declared.answers.DropReason.TheVariants as drops
use Rattle.quic_machine.specs.declared.answers.LostReason.{LostReason}
use Rattle.quic_machine.specs.declared.answers.Event.TheVariants as events
use Rattle.quic_machine.specs.declared.run.Call.{Call}
use Rattle.quic_machine.specs.declared.run.Call.TheVariants as calls
use Rattle.quic_machine.specs.declared.run.Answer.{Answer}
use Rattle.quic_machine.specs.declared.run.Answer.TheVariants as answers
use Rattle.quic_machine.specs.Arrival.{Arrival, delivered_by, injected_by}
use Rattle.quic_machine.specs.Policy.{Policy}
use Rattle.quic_machine.specs.Control.{Control}
use Rattle.quic_machine.specs.Heard.{Heard}
use Rattle.quic_machine.specs.Closing.{Closing, ticked, loss_to_tell, after_told}
use Rattle.quic_machine.specs.End.{End, with_closing, with_numbers}
use Rattle.quic_machine.specs.Opens.{head, would_open}
use Rattle.quic_machine.specs.Receive.{dropped, by_state, opened_to, opened_as, opening, unopened_in, headed, received_in, is_read, drawn_if, with_ids_drawn, has_migrated}
use Rattle.quic_machine.specs.Poll.{Polled, polled_in}
use Rattle.quic_machine.specs.Timeouts.{timed_out_in}
use Rattle.quic_machine.specs.Calls.{closed_in, tells_of, streams_told, tells_message, tells_done, end_tells, closing_told, message_told, confirmation_told, others_told, end_after_event}
use Rattle.quic_machine.specs.CallCases.{by_done}
use Rattle.quic_machine.specs.Machine.{IsAnswer, IsLeft, says_last, after_delivered, after_injected_if, after_call, reads_window, end_left, fails}
use Rattle.quic_headline.specs.Alone.{Lone, IsLoneStep, IsNew, FollowsAlone}
use Rattle.quic_headline.specs.FewEvents.{lost_in, counted}
use Rattle.quic_headline.specs.Reasons.{Explains}
use Rattle.quic_headline.proofs.Packets.Apart.{by_waits, by_next_id}
use Rattle.quic_headline.proofs.Packets.Moved.{by_migrated_if}
use Rattle.quic_headline.proofs.Packets.Closes.{by_closes}
use Rattle.quic_headline.proofs.Causes.Reasons.{IsExplained, call_keeps}
use Rattle.quic_headline.proofs.Alone.Places.{made_holds}

-- it was told that the end is lost, and it isn't open
abbrev pub IsOver : Closing → Type 0
IsOver c = (c.told ≡ true) × (c.state ≡ states.Open → ⊥)

-- ---- what an end keeps for which that is over

module _ (e : End) (i : IsOver e.closing) where
  -- a packet that opens to nothing
  unopened_over : (s : State) → e.closing.state ≡ s → (last : Bool) (arrival : Arrival) → IsOver (unopened_in s last arrival e).end.closing
  unopened_over states.Open here last arrival = absurd (i.1 here)
  unopened_over states.Closing here last arrival = i
  unopened_over states.Drained here last arrival = i
  unopened_over states.Failed here last arrival = i

  -- one whose number is new
  state_over : (s : State) → e.closing.state ≡ s → (o : Opening) (arrival : Arrival) → IsOver (by_state s o arrival (with_numbers e (number_opened e.numbers o.number))).end.closing
  state_over states.Open here o arrival = absurd (i.1 here)
  state_over states.Closing here o arrival = i
  state_over states.Drained here o arrival = i
  state_over states.Failed here o arrival = i

  opened_over : (o : Opening) (arrival : Arrival) → IsOver (opened_to o arrival e).end.closing
  opened_over o arrival = go (key_phase o.first) (is_duplicate e.numbers.opened o.number)
    where
      go : (phase again : Bool) → IsOver (if phase then dropped drops.KeyPhase e else (if again then dropped drops.Duplicate e else by_state e.closing.state o arrival (with_numbers e (number_opened e.numbers o.number)))).end.closing
      go true again = i
      go false true = i
      go false false = state_over e.closing.state refl o arrival

  -- ids that are drawn
  drawn_over : (b : Bool) (p : Policy) (x : End) → IsOver x.closing → IsOver (drawn_if b p x).closing
  drawn_over true p x j = j
  drawn_over false p x j = j

  packet_over : (o : Option Opening) (p : Policy) (arrival : Arrival) → IsOver (opened_as o p arrival e).end.closing
  packet_over None p arrival = unopened_over e.closing.state refl arrival.last arrival
  packet_over (Some o) p arrival =
      let out = with_ids_drawn p (opened_to o arrival e) in
      let over = drawn_over (is_read (opened_to o arrival e).answer) p (opened_to o arrival e).end (opened_over o arrival) in
      by_migrated_if (λ (x : End). IsOver x.closing) p o arrival.remote out.end (λ c. over) (λ c most. over) (has_migrated o arrival.remote e out) over

  headed_over : (r : Result (List ℕ) DropReason) (p : Policy) (arrival : Arrival) (d : List ℕ) → IsOver (headed r p e arrival d).end.closing
  headed_over (Err error) p arrival d = i
  headed_over (Ok id) p arrival d = packet_over (opening p e d) p arrival

  -- any datagram
  received_over : (s : State) (p : Policy) (arrival : Arrival) (d : List ℕ) → IsOver (received_in s p e arrival d).end.closing
  received_over states.Failed p arrival d = i
  received_over states.Drained p arrival d = i
  received_over states.Open p arrival d = headed_over (head e arrival.remote d) p arrival d
  received_over states.Closing p arrival d = headed_over (head e arrival.remote d) p arrival d

  delivered_over : (o : Option (List ℕ)) (p : Policy) (arrival : Arrival) → IsOver (after_delivered p e arrival o).closing
  delivered_over None p arrival = i
  delivered_over (Some d) p arrival = received_over e.closing.state p arrival d

  -- a poll gives its close at most
  polled_over : (s : State) → e.closing.state ≡ s → (p : Policy) (now : ℕ) → IsOver (polled_in s p e now).end.closing
  polled_over states.Open here p now = absurd (i.1 here)
  polled_over states.Closing here p now = by_closes p (with_closing e (ticked e.closing now)) (λ (q : Polled). IsOver q.end.closing) i (λ f goes. i)
  polled_over states.Drained here p now = i
  polled_over states.Failed here p now = i

  -- a moment drains it at most
  timed_over : (s : State) → e.closing.state ≡ s → (p : Policy) (now : ℕ) → IsOver (timed_out_in s p e now).end.closing
  timed_over states.Open here p now = absurd (i.1 here)
  timed_over states.Closing here p now = by_waits (λ (x : End). IsOver x.closing) (has_come e.timers.close (ticked e.closing now).clock) (with_closing e (ticked e.closing now)) (i.0, λ opened. cc) i
  timed_over states.Drained here p now = i
  timed_over states.Failed here p now = i

  -- its application closes it no more
  closed_over : (s : State) → e.closing.state ≡ s → (now code : ℕ) (text : List ℕ) → IsOver (closed_in s now code text e).closing
  closed_over states.Open here now code text = absurd (i.1 here)
  closed_over states.Closing here now code text = i
  closed_over states.Drained here now code text = i
  closed_over states.Failed here now code text = i

  -- an event
  event_over : IsOver (end_after_event e).closing
  event_over = go (tells_message e) (tells_done e)
    where
      loss : (o : Option LostReason) → IsOver (after_told o e.closing)
      loss None = i
      loss (Some reason) = (refl, i.1)

      others : (o : Option StreamEvent) → IsOver (closing_told o e.closing)
      others None = loss (loss_to_tell e.closing)
      others (Some event) = i

      go : (b c : Bool) → IsOver (if b then message_told e else (if c then confirmation_told e else others_told e)).closing
      go true c = i
      go false true = i
      go false false = others (streams_told e).answer

  -- and it tells nothing of it
  event_none : lost_in calls.Event (answers.Event (end_tells e)) ≡ 0
  event_none = go (tells_message e) (tells_done e)
    where
      others : (o : Option StreamEvent) → lost_in calls.Event (answers.Event (tells_of o e.closing)) ≡ 0
      others None = ap (λ (b : Bool). lost_in calls.Event (answers.Event (option_map events.Lost (if b then None else e.closing.reason)))) i.0
      others (Some event) = refl

      go : (b c : Bool) → lost_in calls.Event (answers.Event (if b then Some events.Message else (if c then Some events.HandshakeConfirmed else tells_of (streams_told e).answer e.closing))) ≡ 0
      go true c = refl
      go false true = refl
      go false false = others (streams_told e).answer

-- any call
pub call_over : (p : Policy) (e : End) (theirs : List (List ℕ)) (call : Call) (a : Answer) → IsOver e.closing → IsOver (after_call p e theirs call a).closing
call_over p e theirs (calls.Close close) a i = closed_over e i e.closing.state refl close.now close.error_code close.reason
call_over p e theirs calls.UseNextId a i = by_next_id (λ (x : End). IsOver x.closing) e a i (λ c. i) (λ c most. i)
call_over p e theirs calls.HandshakeDone a i = by_done (λ (x : End). IsOver x.closing) e a i i
call_over p e theirs (calls.Poll now) a i = polled_over e i e.closing.state refl p now
call_over p e theirs (calls.Timeout now) a i = timed_over e i e.closing.state refl p now
call_over p e theirs (calls.Deliver delivery) a i = delivered_over e i (slice_get theirs delivery.index) p (delivered_by (says_last a) delivery)
call_over p e theirs (calls.Inject injection) a i = go (would_open p e injection.remote injection.bytes)
  where
    go : (b : Bool) → IsOver (after_injected_if b (says_last a) p e injection).closing
    go true = i
    go false = received_over e i e.closing.state p (injected_by (says_last a) injection) injection.bytes
call_over p e theirs calls.Event a i = event_over e i
call_over p e theirs call a i = i

pub call_none : (p : Policy) (e : End) (theirs : List (List ℕ)) (call : Call) (a : Answer) → IsAnswer p e theirs call a → IsOver e.closing → lost_in call a ≡ 0
call_none p e theirs calls.Event a is i = ap (λ (x : Answer). lost_in calls.Event x) is ∙ event_none e i
call_none p e theirs call a is i = refl

-- ---- what an end tells for which it isn't

-- an end that has a reason isn't open
pub reason_shuts : (s : State) (reason : LostReason) → Explains s (Some reason) → s ≡ states.Open → ⊥
reason_shuts states.Open reason explained opened = absurd explained
reason_shuts states.Closing reason explained opened = cc
reason_shuts states.Drained reason explained opened = cc
reason_shuts states.Failed reason explained opened = cc

-- a loss that is to be told is the end's reason
pub reason_told : (b : Bool) (o : Option LostReason) (reason : LostReason) → (if b then None else o) ≡ Some reason → o ≡ Some reason
reason_told true o reason is = cc
reason_told false o reason is = is

-- an event doesn't tell that the end is lost, or that is over
pub event_lost : (e : End) → IsExplained e → (lost_in calls.Event (answers.Event (end_tells e)) ≡ 0) ⊎ IsOver (end_after_event e).closing
event_lost e explained = go (tells_message e) (tells_done e)
  where
    Told : Option LostReason → Type 0
    Told o = (lost_in calls.Event (answers.Event (option_map events.Lost o)) ≡ 0) ⊎ IsOver (after_told o e.closing)

    loss : (o : Option LostReason) → loss_to_tell e.closing ≡ o → Told o
    loss None is = inl refl
    loss (Some reason) is = inr (refl, reason_shuts e.closing.state reason (subst (λ (o : Option LostReason). Explains e.closing.state o) (reason_told e.closing.told e.closing.reason reason is) explained))

    others : (o : Option StreamEvent) → (lost_in calls.Event (answers.Event (tells_of o e.closing)) ≡ 0) ⊎ IsOver (closing_told o e.closing)
    others None = loss (loss_to_tell e.closing) refl
    others (Some event) = inl refl

    go : (b c : Bool) → (lost_in calls.Event (answers.Event (if b then Some events.Message else (if c then Some events.HandshakeConfirmed else tells_of (streams_told e).answer e.closing))) ≡ 0) ⊎ IsOver (if b then message_told e else (if c then confirmation_told e else others_told e)).closing
    go true c = inl refl
    go false true = inl refl
    go false false = others (streams_told e).answer

call_lost : (p : Policy) (e : End) (theirs : List (List ℕ)) (call : Call) (a : Answer) → IsAnswer p e theirs call a → IsExplained e → (lost_in call a ≡ 0) ⊎ IsOver (after_call p e theirs call a).closing
call_lost p e theirs calls.Event a is explained = elim (event_lost e explained) [
  | inl none ↦ inl (ap (λ (x : Answer). lost_in calls.Event x) is ∙ none)
  | inr over ↦ inr over
]
call_lost p e theirs call a is explained = inl refl

-- a call tells it once at most
lost_one : (call : Call) (a : Answer) → lost_in call a ≤ 1
lost_one calls.Event (answers.Event (Some (events.Lost reason))) = omega arith
lost_one call a = omega arith

-- ---- one call behind another

module _ (p : Policy) (theirs : List (List ℕ)) where
  -- whatever a call reads
  reads_closing : (control : Control) (heard : Heard) (call : Call) (e : End) → (reads_window control heard call e).closing ≡ e.closing
  reads_closing control heard (calls.Poll now) e = refl
  reads_closing control heard call e = refl

  module _ (x next : Lone) (call : Call) (a : Answer) (s : IsLoneStep p theirs x call a next) where
    -- the end as the call finds it
    abbrev met : End
    met = reads_window x.control x.heard call x.end

    met_has : (P : Closing → Type 0) → P x.end.closing → P met.closing
    met_has P i = subst P (sym (reads_closing x.control x.heard call x.end)) i

    -- what it leaves where it doesn't fail
    left_has : (P : Closing → Type 0) → fails a ≡ false → P (after_call p met theirs call a).closing → P next.end.closing
    left_has P served i = (
        let left : next.end ≡ end_left p x.control x.heard x.end theirs call a = subst (λ (b : Bool). IsLeft b p x.control x.heard x.end theirs call a next.end) served s.end in
        subst (λ (e : End). P e.closing) (sym left) i)

  -- once it was told, it is told no more
  none_lost : (i : ℕ) (x left : Lone) (cs : List Call) (told : List Answer) → FollowsAlone p theirs x cs told left → list_any fails (take i told) ≡ false → IsOver x.end.closing → counted lost_in (take i cs) (take i told) ≡ 0
  none_lost zero x left cs told f served over = refl
  none_lost (suc i) x left [] [] f served over = refl
  none_lost (suc i) x left [] (b ∷ told) f served over = absurd f
  none_lost (suc i) x left (c ∷ cs) [] f served over = absurd f
  none_lost (suc i) x left (c ∷ cs) (b ∷ told) f served over =
      let both = or_parts (fails b) (list_any fails (take i told)) served in
      let here : IsOver (met x f.0 c b f.1).closing = met_has x f.0 c b f.1 IsOver over in
      let first = call_none p (met x f.0 c b f.1) theirs c b f.1.answer here in
      let others = none_lost i f.0 left cs told f.2 both.1 (left_has x f.0 c b f.1 IsOver both.0 (call_over p (met x f.0 c b f.1) theirs c b here)) in
      omega arith

  -- and before that it may be told once
  once_lost : (i : ℕ) (x left : Lone) (cs : List Call) (told : List Answer) → FollowsAlone p theirs x cs told left → list_any fails (take i told) ≡ false → IsExplained x.end → counted lost_in (take i cs) (take i told) ≤ 1
  once_lost zero x left cs told f served explained = omega arith
  once_lost (suc i) x left [] [] f served explained = omega arith
  once_lost (suc i) x left [] (b ∷ told) f served explained = absurd f
  once_lost (suc i) x left (c ∷ cs) [] f served explained = absurd f
  once_lost (suc i) x left (c ∷ cs) (b ∷ told) f served explained =
      let both = or_parts (fails b) (list_any fails (take i told)) served in
      let here : IsExplained (met x f.0 c b f.1) = met_has x f.0 c b f.1 (λ (y : Closing). Explains y.state y.reason) explained in
      let later = once_lost i f.0 left cs told f.2 both.1 (left_has x f.0 c b f.1 (λ (y : Closing). Explains y.state y.reason) both.0 (call_keeps p (met x f.0 c b f.1) theirs c b here)) in
      elim (call_lost p (met x f.0 c b f.1) theirs c b f.1.answer here) [
        | inl none ↦ omega arith
        | inr over ↦ (
            let first = lost_one c b in
            let others = none_lost i f.0 left cs told f.2 both.1 (left_has x f.0 c b f.1 IsOver both.0 over) in
            omega arith)
      ]

pub lost_once : (p : Policy) (theirs : List (List ℕ)) (x left : Lone) (cs : List Call) (told : List Answer) → IsNew x.end → FollowsAlone p theirs x cs told left → (i : ℕ) → list_any fails (take i told) ≡ false → counted lost_in (take i cs) (take i told) ≤ 1
lost_once p theirs x left cs told new f i served = once_lost p theirs i x left cs told f served (made_holds IsExplained x.end new (λ peer. tt))
