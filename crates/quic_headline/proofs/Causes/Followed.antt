-- An end is closed by its peer only where that had closed: a close goes only of an end that isn't
-- open any more, and that has a reason then, which stays.
use Rattle.std.proofs.Common.{◌≡◌, ℕ, suc, ◌+◌, true, false, List, [], ◌∷◌, Option, Some, None, inl, inr, refl, sym, ap, ◌∙◌, subst, arith}
use Rattle.std.specs.Option.{is_some}
use Rattle.quic_wire_core.specs.StreamId.{other_side}
use Rattle.quic_wire.specs.Value.{FrameValue}
use Rattle.quic_wire.specs.Close.{CloseValue}
use Rattle.quic_machine.specs.declared.answers.State.{State}
use Rattle.quic_machine.specs.declared.answers.State.TheVariants as states
use Rattle.quic_machine.specs.declared.answers.LostReason.{LostReason}
use Rattle.quic_machine.specs.declared.answers.LostReason.TheVariants as reasons
use Rattle.quic_machine.specs.declared.run.Call.{Call}
use Rattle.quic_machine.specs.declared.run.Call.TheVariants as calls
use Rattle.quic_machine.specs.declared.run.Delivery.{Delivery}
use Rattle.quic_machine.specs.declared.run.Answer.{Answer}
use Rattle.quic_machine.specs.declared.run.Answer.TheVariants as answers
use Rattle.quic_machine.specs.declared.run.View.{View}
use Rattle.quic_machine.specs.Policy.{Policy}
use Rattle.quic_machine.specs.End.{End}
use Rattle.quic_machine.specs.Migration.{is_there}
use Rattle.quic_machine.specs.Receive.{Fault, broke, too_many_pieces, closed_by_peer, reason_of}
use Rattle.quic_machine.specs.Poll.{Polled, polled}
use Rattle.quic_machine.specs.PollCases.{draft_at, frames_at}
use Rattle.quic_machine.specs.DraftLaws.{IsClose}
use Rattle.quic_machine.specs.FrameCases.{begun}
use Rattle.quic_machine.specs.Machine.{World, IsAnswer, after_call, fails, gave}
use Rattle.quic_headline.specs.Runs.{Run, In, AreServed}
use Rattle.quic_headline.specs.Observer.{Sent}
use Rattle.quic_headline.specs.Headline.{IsHonest, IsRun}
use Rattle.quic_headline.specs.Causes.{reason_in, Shows, PeerClosed}
use Rattle.quic_headline.specs.Reasons.{Explains}
use Rattle.quic_headline.proofs.Packets.Delivered.{arrived}
use Rattle.quic_headline.proofs.Packets.Strays.{of_at}
use Rattle.quic_headline.proofs.Packets.Closeless.{sent_closeless}
use Rattle.quic_headline.proofs.Packets.Owing.{no_close_among, closing_among}
use Rattle.quic_headline.proofs.Packets.Sends.{by_sends}
use Rattle.quic_headline.proofs.Packets.Group.{PacketsHold, meets}
use Rattle.quic_headline.proofs.Places.Told.{in_append}
use Rattle.quic_headline.proofs.Places.Parties.{sent_as, sent_by, sent_if, sents_by, Party, called, AreJoined}
use Rattle.quic_headline.proofs.Places.Groups.{Way, Nothing, And, Calls, Group, both}
use Rattle.quic_headline.proofs.Places.Coming.{Meets}
use Rattle.quic_headline.proofs.Places.Steps.{poll_answer}
use Rattle.quic_headline.proofs.Places.Placed.{party_at, Placed, placed, shown}
use Rattle.quic_headline.proofs.Places.Everything as everything
use Rattle.quic_headline.proofs.Places.Theorems.{ready}
use Rattle.quic_headline.proofs.Halves.Ready.{Ready}
use Rattle.quic_headline.proofs.Causes.Reasons.{call_keeps}
use Rattle.quic_headline.proofs.Causes.Judged.{taken_of, Judged, nothing, exhausted, drained, taken, refused, judged}
use Rattle.quic_headline.proofs.Causes.Shown.{reason_there, reason_shown, IsUnread, call_closes}

-- an end isn't open any more, for some reason
abbrev pub HasReason : End → Type 0
HasReason e = is_some e.closing.reason ≡ true

-- x says why it isn't open; it has a reason where a close of it went, and where the other end was
-- closed by it
pub record Followed (x y : Party) : Type 0 where
  pub explained : Explains x.end.closing.state x.end.closing.reason
  pub went : (s : Sent) → In s x.sents → (f : FrameValue) → In f s.frames → IsClose f → HasReason x.end
  pub followed : (close : CloseValue) → y.end.closing.reason ≡ Some (reasons.Peer close) → HasReason x.end

-- ---- a reason stays

-- an end that is closing has one
closing_has : (state : State) (o : Option LostReason) → Explains state o → state ≡ states.Closing → is_some o ≡ true
closing_has states.Closing (Some reason) explained is = refl
closing_has states.Closing None explained is = absurd explained
closing_has states.Open o explained is = cc
closing_has states.Drained o explained is = cc
closing_has states.Failed o explained is = cc

-- a delivery leaves it, or another
judged_has : (x y : Party) (delivery : Delivery) (a : Answer) (after : End) → HasReason x.end → Judged x y delivery a after → HasReason after
judged_has x y delivery a after has (nothing k none) = ap is_some k.reason ∙ has
judged_has x y delivery a after has (taken s among new still_open none answer k) = ap is_some k.reason ∙ has
judged_has x y delivery a after has (exhausted none reason state) = ap is_some reason
judged_has x y delivery a after has (drained s among new still_open close fault answer reason state) = ap is_some reason
judged_has x y delivery a after has (refused s among new still_open f fault answer reason state) = ap is_some reason

-- and so does any call
call_has : (x y : Party) (call : Call) (a : Answer) → AreJoined x y → Meets y x → fails a ≡ false → IsAnswer x.policy x.end y.given call a → HasReason x.end → HasReason (after_call x.policy x.end y.given call a)
call_has x y (calls.Deliver delivery) a joined meets served is has = judged_has x y delivery a (after_call x.policy x.end y.given (calls.Deliver delivery) a) has (judged x y delivery a joined meets served is)
call_has x y call a joined meets served is has = elim (call_closes x.policy x.end y.given call a refl) [
  | inl k ↦ ap is_some k.reason ∙ has
  | inr shut ↦ elim shut.reason [ inl same ↦ ap is_some same ∙ has | inr other ↦ ap is_some other.1 ]
]

-- ---- what goes

-- where a close goes of an end, that has a reason
polled_went : (p : Policy) (e : End) (now : ℕ) → Explains e.closing.state e.closing.reason
    → (s : Sent) → In s (sent_if (gave (answers.Poll (polled p e now).answer)) (sent_by p e now)) → (f : FrameValue) → In f s.frames → IsClose f → HasReason (polled p e now).end
polled_went p e now explained = by_sends p e now Of (record {
  silent = λ s i. absurd i;
  failed = λ s i. absurd i;
  nothing = λ is none s i. absurd i;
  repeats = λ is. ((λ s i. absurd i), (λ g goes s i f j close. closing_has e.closing.state e.closing.reason explained is));
  closes = λ reason is bound. ((λ s i. absurd i), (λ g goes s i f j close. refl));
  gives = λ is bound some s i f j close. absurd (none_goes s i f j close);
})
  where
    Of : Polled → List Sent → Type 0
    Of q sents = (s : Sent) → In s sents → (f : FrameValue) → In f s.frames → IsClose f → HasReason q.end

    -- what an open end composes has no close
    none_goes : (s : Sent) → In s (sent_as e now (draft_at e now) ∷ []) → (f : FrameValue) → In f s.frames → IsClose f → ⊥
    none_goes s (inl same) f j close = no_close_among (frames_at e now) (sent_closeless e now) f (subst (λ (u : Sent). In f u.frames) same j) close
    none_goes s (inr none) f j close = none

call_went : (p : Policy) (e : End) (theirs : List (List ℕ)) (call : Call) (a : Answer) → IsAnswer p e theirs call a → fails a ≡ false → Explains e.closing.state e.closing.reason
    → (s : Sent) → In s (sents_by p e call a) → (f : FrameValue) → In f s.frames → IsClose f → HasReason (after_call p e theirs call a)
call_went p e theirs (calls.Poll now) a is served explained =
    subst (λ (b : Answer). (s : Sent) → In s (sent_if (gave b) (sent_by p e now)) → (f : FrameValue) → In f s.frames → IsClose f → HasReason (polled p e now).end) (sym (poll_answer p e now a is served)) (polled_went p e now explained)
call_went p e theirs call a is served explained = λ s i. absurd i

-- ---- what closes an end for its peer

-- a packet of its peer's in which that closes, or what had closed the end before
module _ (x y : Party) (delivery : Delivery) (a : Answer) (after : End) (f : Followed y x) (close : CloseValue) (is : after.closing.reason ≡ Some (reasons.Peer close)) where
  came : (s : Sent) → In s y.sents → (c : CloseValue) → (arrived x.end delivery.now s.number (taken_of x y delivery a s)).fault ≡ Some (closed_by_peer c) → HasReason y.end
  came s among c fault =
      let found = closing_among (taken_of x y delivery a s) (begun x.end delivery.now s.number) c fault in
      elim (of_at (is_there delivery.remote x.end) s.frames found.0 found.1) [ inl stands ↦ f.went s among found.0 stands found.2 | inr pads ↦ absurd (subst IsClose pads found.2) ]

  faulty : (s : Sent) → In s y.sents → (g : Fault) → (arrived x.end delivery.now s.number (taken_of x y delivery a s)).fault ≡ Some g → ◌≡◌ {A = Option LostReason} (Some (reason_of g)) (Some (reasons.Peer close)) → HasReason y.end
  faulty s among (broke error) fault same = cc
  faulty s among too_many_pieces fault same = cc
  faulty s among (closed_by_peer c) fault same = came s among c fault

  judged_follows : Judged x y delivery a after → HasReason y.end
  judged_follows (nothing k none) = f.followed close (sym k.reason ∙ is)
  judged_follows (taken s among new still_open none answer k) = f.followed close (sym k.reason ∙ is)
  judged_follows (exhausted none reason state) = (let clash : ◌≡◌ {A = Option LostReason} (Some reasons.KeyLimit) (Some (reasons.Peer close)) = sym reason ∙ is in cc)
  judged_follows (drained s among new still_open c fault answer reason state) = came s among c fault
  judged_follows (refused s among new still_open g fault answer reason state) = faulty s among g fault (sym reason ∙ is)

-- so behind any call
call_follows : (x y : Party) (call : Call) (a : Answer) → AreJoined x y → Meets y x → fails a ≡ false → IsAnswer x.policy x.end y.given call a → Followed y x → (close : CloseValue) → (after_call x.policy x.end y.given call a).closing.reason ≡ Some (reasons.Peer close) → HasReason y.end
call_follows x y (calls.Deliver delivery) a joined meets served answer f close is = judged_follows x y delivery a (after_call x.policy x.end y.given (calls.Deliver delivery) a) f close is (judged x y delivery a joined meets served answer)
call_follows x y call a joined meets served answer f close is = elim (call_closes x.policy x.end y.given call a refl) [
  | inl k ↦ f.followed close (sym k.reason ∙ is)
  | inr shut ↦ elim shut.reason [
    | inl same ↦ f.followed close (sym same ∙ is)
    | inr other ↦ absurd (read other.0 other.2 (sym other.1 ∙ is))
  ]
]
  where
    read : (reason : LostReason) → IsUnread reason → ◌≡◌ {A = Option LostReason} (Some reason) (Some (reasons.Peer close)) → ⊥
    read reasons.NumberLimit unread same = cc
    read reasons.KeyLimit unread same = cc
    read reasons.Application unread same = cc
    read reasons.Idle unread same = cc
    read reason unread same = unread

-- ---- the group

module _ (B : Way) (packets : (x y : Party) → B x y → PacketsHold x y) where
  -- x makes a call
  gives_on : (x y : Party) (call : Call) (a : Answer) → Calls B x y call a → Followed x y → Followed (called x y.given call a) y
  gives_on x y call a c f = record {
    explained = call_keeps x.policy x.end y.given call a f.explained;
    went = λ s i g j close. elim (in_append s x.sents (sents_by x.policy x.end call a) i) [ inl old ↦ stays (f.went s old g j close) | inr new ↦ call_went x.policy x.end y.given call a c.answer c.served f.explained s new g j close ];
    followed = λ close is. stays (f.followed close is);
  }
    where
      stays : HasReason x.end → HasReason (after_call x.policy x.end y.given call a)
      stays = call_has x y call a c.joined (meets y x (packets y x c.takes)) c.served c.answer

  -- and takes from y
  takes_on : (x y : Party) (call : Call) (a : Answer) → Calls B x y call a → Followed y x → Followed y (called x y.given call a)
  takes_on x y call a c f = record {
    explained = f.explained;
    went = f.went;
    followed = call_follows x y call a c.joined (meets y x (packets y x c.takes)) c.served c.answer f;
  }

  pub followed_group : Group B Followed
  followed_group = record {
    first = λ x y m there here. record { explained = tt; went = λ s i. absurd i; followed = λ close is. cc };
    writer = λ x y call a c f back. gives_on x y call a c f;
    reader = λ x y call a c there f. takes_on x y call a c f;
    shows = λ x y here there b back f g. record { explained = f.explained; went = f.went; followed = f.followed };
  }

-- ---- the clause

-- all that holds between the ends, and this
abbrev Known : Way
Known = And (everything.All Ready ready) Followed

known : Group Nothing Known
known = both Nothing (everything.All Ready ready) Followed (everything.all Ready ready) (followed_group (And Nothing (everything.All Ready ready)) (λ x y h. h.1.0.0))

-- the view that shows an end closed by its peer shows why that had closed
pub peer_closed : (r : Run) (end : World) → IsHonest r → IsRun r end → PeerClosed r
peer_closed r end honest run side place close shows = record { earlier = place; up_to = omega arith; reason = why.0; shown = there }
  where
    next : place + 1 ≡ suc place
    next = omega arith

    p : Placed Known r end side (suc place)
    p = placed Known known r end honest run side (suc place) (subst (AreServed r) next shows.served)

    y : Party
    y = party_at r (suc place) p.world (other_side side) p.theirs

    has : HasReason y.end
    has = p.takes.1.followed close (reason_shown Known r end side place (Some (reasons.Peer close)) shows p)

    some : (o : Option LostReason) → is_some o ≡ true → (reason : LostReason) × (o ≡ Some reason)
    some (Some reason) is = (reason, refl)
    some None is = cc

    why : (reason : LostReason) × (y.end.closing.reason ≡ Some reason)
    why = some y.end.closing.reason has

    there : Shows r (other_side side) place (Some why.0)
    there = record {
      served = shows.served;
      view = shows.view;
      there = shows.there;
      is = ap (λ (v : View). reason_in v (other_side side)) (shown r p.world place shows.view p.leads shows.there) ∙ reason_there (other_side side) p.world ∙ why.1;
    }
