-- What comes to an end by a call that it makes: nothing, or a datagram that the other sent.
use Rattle.std.proofs.Common.{◌≡◌, ℕ, Bool, false, List, Option, Some, None, refl, sym, ap, ◌∙◌, subst, inl, inr}
use Rattle.std.specs.Prelude.{slice_get}
use Rattle.quic_machine.specs.Arrival.{delivered_by}
use Rattle.quic_machine.specs.declared.run.Call.{Call}
use Rattle.quic_machine.specs.declared.run.Call.TheVariants as calls
use Rattle.quic_machine.specs.declared.run.Delivery.{Delivery}
use Rattle.quic_machine.specs.declared.run.Answer.{Answer}
use Rattle.quic_machine.specs.declared.run.Answer.TheVariants as answers
use Rattle.quic_machine.specs.End.{End}
use Rattle.quic_machine.specs.Migration.{is_there}
use Rattle.quic_machine.specs.Receive.{Outcome, received}
use Rattle.quic_machine.specs.Machine.{IsAnswer, IsDelivered, after_delivered, after_call, fails, says_last}
use Rattle.quic_machine.specs.CallCases.{is_delivery}
use Rattle.quic_headline.specs.Runs.{Intake, In, handed, and_handed, and_told, nothing_came}
use Rattle.quic_headline.specs.Observer.{Sent}
use Rattle.quic_headline.proofs.Packets.Invariant.{InStep, IsSent, KnowsIn}
use Rattle.quic_headline.proofs.Packets.Growth.{get_front, step_at}
use Rattle.quic_headline.proofs.Packets.Intakes.{folded_more, nothing_handed, none_handed}
use Rattle.quic_headline.proofs.Packets.Delivered.{frames_at, Arrivals, ArrivalsWith, ArrivalsFrom, ArrivalsBy, of_any, of_anywhere, of_every, by_arrival_by}
use Rattle.quic_headline.proofs.Places.Parties.{told_of, Party, called, came_to, AreJoined}

-- ---- calls at which nothing comes

-- what came by one call more
pub came_more : (x y : Party) (call : Call) (a : Answer) → came_to (called x y.given call a) y ≡ and_told x.policy y.final (told_of call a x.end.closing.state) (came_to x y)
came_more x y call a = folded_more (and_told x.policy y.final) x.told (told_of call a x.end.closing.state) nothing_came

-- what came, where a call hands nothing in
pub came_same : (x y : Party) (call : Call) (a : Answer) → handed y.final call a ≡ None → came_to (called x y.given call a) y ≡ came_to x y
came_same x y call a none =
    came_more x y call a
    ∙ ap (λ (o : Option (List ℕ)). and_handed x.end.closing.state o x.policy a (came_to x y)) none
    ∙ nothing_handed x.end.closing.state x.policy a (came_to x y)

-- ---- any call

-- What a delivery rests on: the one gave each datagram as it was sent, and the other knows what
-- came.
pub record Meets (x y : Party) : Type 0 where
  pub each : InStep (IsSent x.policy) x.sents x.given
  pub knows : KnowsIn y.end.closing.state y.end.numbers (came_to y x)

-- what may come to x by a call of its own: P of the end and of what came
pub record Comes (x y : Party) (call : Call) (a : Answer) (P : End → Intake → Type 0) : Type 0 where
  -- nothing is handed in
  pub apart : is_delivery call ≡ false → P (after_call x.policy x.end y.given call a) (came_to x y)
  -- there is no such datagram
  pub none : (delivery : Delivery) → call ≡ calls.Deliver delivery → P x.end (came_to x y)
  -- a datagram that y sent, from where x takes y to be, or from elsewhere
  pub comes : (delivery : Delivery) → call ≡ calls.Deliver delivery → (s : Sent) → In s y.sents → (here : Bool) → Arrivals x.end delivery.now s.number s.frames (frames_at here s.frames) (came_to x y) (λ (o : Outcome) (i : Intake). P o.end i)

-- the same, with its mark and how it is answered: P of the answer, of the end and of what came
pub record ComesWith (x y : Party) (call : Call) (a : Answer) (P : Answer → End → Intake → Type 0) : Type 0 where
  pub apart : is_delivery call ≡ false → P a (after_call x.policy x.end y.given call a) (came_to x y)
  pub none : (delivery : Delivery) → call ≡ calls.Deliver delivery → P a x.end (came_to x y)
  pub comes : (delivery : Delivery) → call ≡ calls.Deliver delivery → (s : Sent) → In s y.sents → (here : Bool)
      → ArrivalsWith delivery.ecn x.end delivery.now s.number s.frames (frames_at here s.frames) (came_to x y) (λ (o : Outcome) (i : Intake). P (answers.Deliver o.answer) o.end i)

-- the same, with exactly what becomes of the path
pub record ComesFrom (x y : Party) (call : Call) (a : Answer) (P : Answer → End → Intake → Type 0) : Type 0 where
  pub apart : is_delivery call ≡ false → P a (after_call x.policy x.end y.given call a) (came_to x y)
  pub none : (delivery : Delivery) → call ≡ calls.Deliver delivery → P a x.end (came_to x y)
  pub comes : (delivery : Delivery) → call ≡ calls.Deliver delivery → (s : Sent) → In s y.sents
      → ArrivalsFrom delivery.remote delivery.ecn x.end delivery.now s.number s.frames (came_to x y) (λ (o : Outcome) (i : Intake). P (answers.Deliver o.answer) o.end i)

-- the same, with the policy of x
pub record ComesBy (x y : Party) (call : Call) (a : Answer) (P : Answer → End → Intake → Type 0) : Type 0 where
  pub apart : is_delivery call ≡ false → P a (after_call x.policy x.end y.given call a) (came_to x y)
  pub none : (delivery : Delivery) → call ≡ calls.Deliver delivery → P a x.end (came_to x y)
  pub comes : (delivery : Delivery) → call ≡ calls.Deliver delivery → (s : Sent) → In s y.sents
      → ArrivalsBy x.policy delivery.remote delivery.ecn x.end delivery.now s.number s.frames (came_to x y) (λ (o : Outcome) (i : Intake). P (answers.Deliver o.answer) o.end i)

module _ (x y : Party) (a : Answer) (joined : AreJoined x y) (served : fails a ≡ false) (meets : Meets y x) (P : Answer → End → Intake → Type 0) where
  -- a delivery, by whether there is such a datagram
  delivered : (delivery : Delivery) (o : Option (List ℕ)) → slice_get y.given delivery.index ≡ o → IsDelivered x.policy x.end delivery o a → ComesBy x y (calls.Deliver delivery) a P
      → P a (after_delivered x.policy x.end (delivered_by (says_last a) delivery) o) (came_to (called x y.given (calls.Deliver delivery) a) y)
  delivered delivery None at is c = subst (λ (i : Intake). P a x.end i) (sym (came_same x y (calls.Deliver delivery) a (ap (λ (b : Answer). handed y.final (calls.Deliver delivery) b) is))) (c.none delivery refl)
  delivered delivery (Some d) at (inr is) c = cc
  delivered delivery (Some d) at (inl is) c =
      let o : Outcome = received x.policy x.end (delivered_by (says_last a) delivery) d in
      let found = step_at (IsSent y.policy) y.sents y.given delivery.index d meets.each at in
      let s : Sent = found.0 in
      let more = joined.y_more in
      let there : slice_get y.final delivery.index ≡ Some d = subst (λ (ds : List (List ℕ)). slice_get ds delivery.index ≡ Some d) more.1 (get_front y.given more.0 delivery.index d at) in
      let came : came_to (called x y.given (calls.Deliver delivery) a) y ≡ and_handed x.end.closing.state (Some d) x.policy (answers.Deliver o.answer) (came_to x y) =
      came_more x y (calls.Deliver delivery) a
      ∙ ap (λ (b : Answer). and_handed x.end.closing.state (handed y.final (calls.Deliver delivery) b) x.policy b (came_to x y)) is
      ∙ ap (λ (h : Option (List ℕ)). and_handed x.end.closing.state h x.policy (answers.Deliver o.answer) (came_to x y)) there in
      subst (λ (b : Answer). P b o.end (came_to (called x y.given (calls.Deliver delivery) a) y)) (sym is)
      (subst (λ (i : Intake). P (answers.Deliver o.answer) o.end i) (sym came)
      (by_arrival_by y.policy x.policy s.id s.number s.reference s.frames d found.2 x.end (delivered_by (says_last a) delivery) (came_to x y) (λ (r : Outcome) (i : Intake). P (answers.Deliver r.answer) r.end i) joined.to_x joined.y_lawful meets.knows (c.comes delivery refl s found.1)))

  -- what holds in each case holds of the answer, of the end behind its call, and of what came
  pub by_coming_by : (call : Call) → IsAnswer x.policy x.end y.given call a → ComesBy x y call a P → P a (called x y.given call a).end (came_to (called x y.given call a) y)
  by_coming_by (calls.Deliver delivery) is c = delivered delivery (slice_get y.given delivery.index) refl is c
  by_coming_by call is c = subst (λ (i : Intake). P a (after_call x.policy x.end y.given call a) i) (sym (came_same x y call a (none_handed y.final call a refl))) (c.apart refl)

  -- so it is whatever its policy
  pub by_coming_from : (call : Call) → IsAnswer x.policy x.end y.given call a → ComesFrom x y call a P → P a (called x y.given call a).end (came_to (called x y.given call a) y)
  by_coming_from call is c = by_coming_by call is (record {
    apart = c.apart;
    none = c.none;
    comes = λ delivery same s among.
        of_every x.policy delivery.remote delivery.ecn x.end delivery.now s.number s.frames (came_to x y) (λ (o : Outcome) (i : Intake). P (answers.Deliver o.answer) o.end i)
        (c.comes delivery same s among);
  })

  -- and wherever it came from
  pub by_coming_with : (call : Call) → IsAnswer x.policy x.end y.given call a → ComesWith x y call a P → P a (called x y.given call a).end (came_to (called x y.given call a) y)
  by_coming_with call is c = by_coming_from call is (record {
    apart = c.apart;
    none = c.none;
    comes = λ delivery same s among.
        of_anywhere delivery.remote delivery.ecn x.end delivery.now s.number s.frames (came_to x y) (λ (o : Outcome) (i : Intake). P (answers.Deliver o.answer) o.end i)
        (c.comes delivery same s among (is_there delivery.remote x.end));
  })

-- whatever the mark, and however it is answered
pub by_coming : (x y : Party) (a : Answer) → AreJoined x y → fails a ≡ false → Meets y x → (P : End → Intake → Type 0) (call : Call) → IsAnswer x.policy x.end y.given call a → Comes x y call a P → P (called x y.given call a).end (came_to (called x y.given call a) y)
by_coming x y a joined served meets P call is c = by_coming_with x y a joined served meets (λ (b : Answer) (e : End) (i : Intake). P e i) call is (record {
  apart = c.apart;
  none = c.none;
  comes = λ delivery same s among here. of_any delivery.ecn x.end delivery.now s.number s.frames (frames_at here s.frames) (came_to x y) (λ (o : Outcome) (i : Intake). P o.end i) (c.comes delivery same s among here);
})
