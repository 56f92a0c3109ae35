-- An application is told once that its connection is lost, with the reason, and where nothing is
-- told next it was told of each loss.
use Rattle.std.proofs.Common.{◌≡◌, ◌⊎◌, ℕ, ◌+◌, Bool, true, false, List, [], ◌∷◌, ◌++◌, Option, Some, None, refl, sym, ap, ◌∙◌, subst, inl, inr, arith}
use Rattle.std.specs.Prelude.{option_map, if◌then◌else◌}
use Rattle.quic_wire_core.specs.declared.stream_id.Side.{Side}
use Rattle.quic_streams_parts.specs.declared.answers.StreamEvent.{StreamEvent}
use Rattle.quic_machine.specs.declared.answers.LostReason.{LostReason}
use Rattle.quic_machine.specs.declared.answers.Event.{Event}
use Rattle.quic_machine.specs.declared.answers.Event.TheVariants as events
use Rattle.quic_machine.specs.declared.run.Call.{Call}
use Rattle.quic_machine.specs.declared.run.Call.TheVariants as calls
use Rattle.quic_machine.specs.declared.run.Answer.{Answer}
use Rattle.quic_machine.specs.declared.run.Answer.TheVariants as answers
use Rattle.quic_machine.specs.declared.run.EndView.{EndView}
use Rattle.quic_machine.specs.Policy.{Policy}
use Rattle.quic_machine.specs.Closing.{Closing, loss_to_tell, after_told}
use Rattle.quic_machine.specs.End.{End}
use Rattle.quic_machine.specs.Calls.{tells_of, streams_told, tells_message, tells_done, end_tells, closing_told, message_told, confirmation_told, others_told, end_after_event}
use Rattle.quic_machine.specs.CallCases.{asks_event}
use Rattle.quic_machine.specs.Machine.{World, IsAnswer, end_at, after_call}
use Rattle.quic_headline.specs.Runs.{Run, Told, AreServed, until}
use Rattle.quic_headline.specs.Headline.{IsHonest, IsRun, IsAt}
use Rattle.quic_headline.specs.Polls.{seen_at}
use Rattle.quic_headline.specs.Reasons.{Explains}
use Rattle.quic_headline.specs.FewEvents.{lost_in}
use Rattle.quic_headline.specs.Events.{losses_told, LossIsToldAt, LossIsTold}
use Rattle.quic_headline.proofs.Places.Groups.{Nothing, Calls, Group}
use Rattle.quic_headline.proofs.Places.Moments.{last_seen}
use Rattle.quic_headline.proofs.Places.Parties.{told_of, Party, called}
use Rattle.quic_headline.proofs.Places.Placed.{Placed, placed, answered}
use Rattle.quic_headline.proofs.Causes.Reasons.{IsExplained, call_keeps}
use Rattle.quic_headline.proofs.Alone.Lost.{IsOver, call_over, call_none, reason_told, reason_shuts}
use Rattle.quic_headline.proofs.Packets.EndMoves.{Cause, cause_of, IsEvent, Keeps}
use Rattle.quic_headline.proofs.Packets.EndMoves as moves
use Rattle.quic_headline.proofs.Packets.ByMoves.{no_event, behind_call}

-- ---- what wasn't told

-- nothing was told of a loss
abbrev Untold : End → Type 0
Untold e = e.closing.told ≡ false

-- only what is told changes that
untold : (by : Cause) → (IsEvent by → ⊥) → Keeps by Untold
untold by quiet (moves.tells told) e may i = absurd (quiet may)
untold by quiet (moves.closes reason close) e may i = refl
untold by quiet (moves.drains reason) e may i = refl
untold by quiet m e may i = i

untold_call : (p : Policy) (e : End) (theirs : List (List ℕ)) (call : Call) (a : Answer) → asks_event call ≡ false → Untold e → Untold (after_call p e theirs call a)
untold_call p e theirs call a quiet i = behind_call Untold p e theirs call a (untold (cause_of call) (no_event call quiet)) i

quiet_lost : (call : Call) (a : Answer) → asks_event call ≡ false → lost_in call a ≡ 0
quiet_lost calls.Event a quiet = cc
quiet_lost call a quiet = refl

-- ---- an event

-- it tells no loss, and none was told then; or one, which is over
abbrev TellsOne : End → Answer → End → Type 0
TellsOne e a f = ((lost_in calls.Event a ≡ 0) × Untold f) ⊎ ((lost_in calls.Event a ≡ 1) × IsOver f.closing)

event_tells : (e : End) → IsExplained e → Untold e → TellsOne e (answers.Event (end_tells e)) (end_after_event e)
event_tells e explained i = go (tells_message e) (tells_done e)
  where
    loss : (o : Option LostReason) → loss_to_tell e.closing ≡ o → ((lost_in calls.Event (answers.Event (option_map events.Lost o)) ≡ 0) × ((after_told o e.closing).told ≡ false)) ⊎ ((lost_in calls.Event (answers.Event (option_map events.Lost o)) ≡ 1) × IsOver (after_told o e.closing))
    loss None is = inl (refl, i)
    loss (Some reason) is = inr (refl, (refl, reason_shuts e.closing.state reason (subst (λ (o : Option LostReason). Explains e.closing.state o) (reason_told e.closing.told e.closing.reason reason is) explained)))

    others : (o : Option StreamEvent) → ((lost_in calls.Event (answers.Event (tells_of o e.closing)) ≡ 0) × ((closing_told o e.closing).told ≡ false)) ⊎ ((lost_in calls.Event (answers.Event (tells_of o e.closing)) ≡ 1) × IsOver (closing_told o e.closing))
    others None = loss (loss_to_tell e.closing) refl
    others (Some event) = inl (refl, i)

    go : (b c : Bool) → TellsOne e (answers.Event (if b then Some events.Message else (if c then Some events.HandshakeConfirmed else tells_of (streams_told e).answer e.closing))) (if b then message_told e else (if c then confirmation_told e else others_told e))
    go true c = inl (refl, i)
    go false true = inl (refl, i)
    go false false = others (streams_told e).answer

-- what it tells of a loss is why the end isn't open
same_event : (a b : Option Event) → answers.Event a ≡ answers.Event b → a ≡ b
same_event a b is = cc

event_why : (e : End) (reason : LostReason) → end_tells e ≡ Some (events.Lost reason) → e.closing.reason ≡ Some reason
event_why e reason = go (tells_message e) (tells_done e)
  where
    loss : (o : Option LostReason) → loss_to_tell e.closing ≡ o → option_map events.Lost o ≡ Some (events.Lost reason) → e.closing.reason ≡ Some reason
    loss None there is = cc
    loss (Some why) there is = (let same : why ≡ reason = cc in reason_told e.closing.told e.closing.reason reason (there ∙ ap (λ (x : LostReason). Some x) same))

    others : (o : Option StreamEvent) → tells_of o e.closing ≡ Some (events.Lost reason) → e.closing.reason ≡ Some reason
    others None is = loss (loss_to_tell e.closing) refl is
    others (Some event) is = cc

    go : (b c : Bool) → (if b then Some events.Message else (if c then Some events.HandshakeConfirmed else tells_of (streams_told e).answer e.closing)) ≡ Some (events.Lost reason) → e.closing.reason ≡ Some reason
    go true c is = cc
    go false true is = cc
    go false false is = others (streams_told e).answer is

-- where it tells nothing, no loss is left to tell
event_nothing : (e : End) (reason : LostReason) → end_tells e ≡ None → e.closing.reason ≡ Some reason → Untold e → ⊥
event_nothing e reason is why i = go (tells_message e) (tells_done e) is
  where
    left : loss_to_tell e.closing ≡ Some reason
    left = ap (λ (b : Bool). if b then None else e.closing.reason) i ∙ why

    others : (o : Option StreamEvent) → tells_of o e.closing ≡ None → ⊥
    others None none = let clash : ◌≡◌ {A = Option Event} (Some (events.Lost reason)) None = sym (ap (λ (o : Option LostReason). option_map events.Lost o) left) ∙ none in cc
    others (Some event) none = cc

    go : (b c : Bool) → (if b then Some events.Message else (if c then Some events.HandshakeConfirmed else tells_of (streams_told e).answer e.closing)) ≡ None → ⊥
    go true c none = cc
    go false true none = cc
    go false false none = others (streams_told e).answer none

-- ---- the group

losses_more : (ts : List Told) (t : Told) → losses_told (ts ++ t ∷ []) ≡ losses_told ts + lost_in t.call t.answer
losses_more [] t = let n : ℕ = lost_in t.call t.answer in omega arith
losses_more (u ∷ ts) t = let more = losses_more ts t in let n : ℕ = lost_in u.call u.answer in omega arith

-- no loss was told, or one, which is over
abbrev ToldOne : Closing → ℕ → Type 0
ToldOne c count = ((count ≡ 0) × (c.told ≡ false)) ⊎ ((count ≡ 1) × IsOver c)

-- x explains why it isn't open, and told so once at most
record Losses (x y : Party) : Type 0 where
  explained : IsExplained x.end
  either : ToldOne x.end.closing (losses_told x.told)

-- one call more
one_behind : (e f : End) (n m k : ℕ) → k ≡ n + m → ToldOne e.closing n → (Untold e → ((m ≡ 0) × Untold f) ⊎ ((m ≡ 1) × IsOver f.closing)) → (IsOver e.closing → (m ≡ 0) × IsOver f.closing) → ToldOne f.closing k
one_behind e f n m k is (inl before) first again = elim (first before.1) [
  | inl none ↦ inl ((let a = before.0 in let b = none.0 in omega arith), none.1)
  | inr one ↦ inr ((let a = before.0 in let b = one.0 in omega arith), one.1)
]
one_behind e f n m k is (inr before) first again = (let over = again before.1 in inr ((let a = before.0 in let b = over.0 in omega arith), over.1))

module _ (x y : Party) (call : Call) (a : Answer) (c : Calls Nothing x y call a) (l : Losses x y) where
  abbrev after : End
  after = after_call x.policy x.end y.given call a

  told_first : (d : Call) → d ≡ call → Untold x.end → ((lost_in call a ≡ 0) × Untold after) ⊎ ((lost_in call a ≡ 1) × IsOver after.closing)
  told_first calls.Event is i =
      let answer : a ≡ answers.Event (end_tells x.end) = subst (λ (d : Call). Said d) (sym is) c.answer in
      subst (λ (d : Call). ((lost_in d a ≡ 0) × Untold (after_call x.policy x.end y.given d a)) ⊎ ((lost_in d a ≡ 1) × IsOver (after_call x.policy x.end y.given d a).closing)) is
      (subst (λ (b : Answer). ((lost_in calls.Event b ≡ 0) × Untold (end_after_event x.end)) ⊎ ((lost_in calls.Event b ≡ 1) × IsOver (end_after_event x.end).closing)) (sym answer) (event_tells x.end l.explained i))
    where
      Said : Call → Type 0
      Said d = IsAnswer x.policy x.end y.given d a
  told_first d is i =
      let quiet : asks_event call ≡ false = subst (λ (b : Call). asks_event b ≡ false) is refl in
      inl (quiet_lost call a quiet, untold_call x.policy x.end y.given call a quiet i)

  losses_behind : Losses (called x y.given call a) y
  losses_behind = record {
    explained = call_keeps x.policy x.end y.given call a l.explained;
    either = one_behind x.end after (losses_told x.told) (lost_in call a) (losses_told (x.told ++ told_of call a x.end.closing.state ∷ [])) (losses_more x.told (told_of call a x.end.closing.state)) l.either (told_first call refl)
        (λ over. (call_none x.policy x.end y.given call a c.answer over, call_over x.policy x.end y.given call a over));
  }

losses_group : Group Nothing Losses
losses_group = record {
  first = λ x y m there back. record { explained = tt; either = inl (refl, refl) };
  writer = λ x y call a c l back. losses_behind x y call a c l;
  reader = λ x y call a c there l. record { explained = l.explained; either = l.either };
  shows = λ x y here there b back l m. record { explained = l.explained; either = l.either };
}

-- ---- the clause

module _ (r : Run) (end : World) (honest : IsHonest r) (run : IsRun r end) (side : Side) (i : ℕ) (served : AreServed r i) where
  at : Placed Losses r end side i
  at = placed Losses losses_group r end honest run side i served

  abbrev e : End
  e = end_at side at.world

  reason_is : (seen_at r side i).reason ≡ e.closing.reason
  reason_is = ap (λ (v : EndView). v.reason) (last_seen side r.keys i r.start at.world r.events r.answers r.views at.leads)

  -- what the end tells where it is asked
  said : (o : Option Event) → IsAt r i side calls.Event (answers.Event o) → end_tells e ≡ o
  said o is = sym (same_event o (end_tells e) (answered r at.world end i side calls.Event (answers.Event o) at.goes_on is))

  count : ToldOne e.closing (losses_told (until r side i))
  count = at.gives.either

  told_there : LossIsToldAt r side i
  told_there = record {
    once = elim count [ inl none ↦ (let is = none.0 in omega arith) | inr one ↦ (let is = one.0 in omega arith) ];
    why = λ reason is. reason_is ∙ event_why e reason (said (Some (events.Lost reason)) is);
    told = λ reason is shown. elim count [
      | inl none ↦ absurd (event_nothing e reason (said None is) (sym reason_is ∙ shown) none.1)
      | inr one ↦ one.0
    ];
  }

pub loss_is_told : (r : Run) (end : World) → IsHonest r → IsRun r end → LossIsTold r
loss_is_told r end honest run side i served = told_there r end honest run side i served
