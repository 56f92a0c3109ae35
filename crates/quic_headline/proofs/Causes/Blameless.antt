-- Where each packet passes at the other end, no end closes for a rule that the other broke, and
-- each packet is taken, or comes to too many pieces.
use Rattle.std.proofs.Common.{◌≡◌, ℕ, suc, ◌+◌, false, List, [], ◌∷◌, ◌++◌, Some, None, refl, sym, ap, ◌∙◌, subst, ◌⊎◌, inl, inr, arith}
use Rattle.std.specs.Prelude.{slice_get}
use Rattle.quic_wire_core.specs.declared.stream_id.Side.{Side}
use Rattle.quic_wire_core.specs.StreamId.{other_side}
use Rattle.quic_machine.specs.declared.answers.State.TheVariants as states
use Rattle.quic_machine.specs.declared.answers.Received.TheVariants.{Closed}
use Rattle.quic_machine.specs.declared.run.Call.{Call}
use Rattle.quic_machine.specs.declared.run.Call.TheVariants as calls
use Rattle.quic_machine.specs.declared.run.Delivery.{Delivery}
use Rattle.quic_machine.specs.declared.run.Answer.{Answer}
use Rattle.quic_machine.specs.declared.run.Answer.TheVariants as answers
use Rattle.quic_machine.specs.Policy.{Policy}
use Rattle.quic_machine.specs.End.{End}
use Rattle.quic_machine.specs.Migration.{is_there}
use Rattle.quic_machine.specs.Receive.{Fault, broke, too_many_pieces, closed_by_peer, error_of, reason_of}
use Rattle.quic_machine.specs.FrameCases.{begun}
use Rattle.quic_machine.specs.Machine.{World, after_call}
use Rattle.quic_machine.specs.CallCases.{is_delivery}
use Rattle.quic_machine.specs.Poll.{rests}
use Rattle.quic_machine.specs.declared.answers.LostReason.{LostReason}
use Rattle.quic_machine.specs.declared.answers.LostReason.TheVariants as reasons
use Rattle.quic_headline.specs.Runs.{Run, Told, In, handed, AreServed}
use Rattle.quic_headline.specs.Observer.{Sent}
use Rattle.quic_headline.specs.Headline.{IsHonest, IsRun}
use Rattle.quic_headline.specs.Causes.{IsBlameless, NoBlame, PacketCame, IsTakenOrCrowded, TakenOrTooMany}
use Rattle.quic_headline.proofs.Packets.Delivered.{among_at, arrived}
use Rattle.quic_headline.proofs.Packets.Intakes.{none_handed}
use Rattle.quic_headline.proofs.Packets.Group.{PacketsHold, meets}
use Rattle.quic_headline.proofs.Places.Parties.{told_of, Party, called, came_to}
use Rattle.quic_headline.proofs.Places.Groups.{Way, Nothing, And, Calls, Group, both}
use Rattle.quic_headline.proofs.Places.Placed.{party_at, Placed, placed}
use Rattle.quic_headline.proofs.Halves.Wrote.{wrote}
use Rattle.quic_headline.proofs.Halves.Ghosts.{SaysOf, Saying}
use Rattle.quic_headline.proofs.Halves.ReadGroup.{ReadsHold}
use Rattle.quic_headline.proofs.Causes.Crowded.{IsCrowdedBy, crowded, crowded_at, up_to}
use Rattle.quic_headline.proofs.Causes.Judged.{taken_of, IsNew, Judged, nothing, exhausted, drained, taken, refused, judged, crowd_is}
use Rattle.quic_headline.proofs.Causes.Shown.{reason_shown, call_closes, IsUnread}
use Rattle.quic_headline.proofs.Causes.Pieces.{window_of, WhyPieces, Held, held}
use Rattle.quic_headline.proofs.Causes.Refused.{refused_not}
use Rattle.quic_headline.proofs.Channel.Passing.{BreaksNone, PassesAt}

-- y takes from x: it is open, or closed for what nobody is to blame for, and each packet that came
-- was taken, or came to too many pieces
pub record Blameless (x y : Party) : Type 0 where
  pub reason : IsBlameless y.end.closing.reason
  pub judged : (c : PacketCame y.policy x.final y.told) → IsTakenOrCrowded y.policy (window_of y) x.final y.told c

-- What that rests on.
pub record RestsOn (B : Way) : Type 1 where
  pub packets : (x y : Party) → B x y → PacketsHold x y
  pub says : (x y : Party) → B x y → Saying x y
  pub reads : (x y : Party) → B x y → ReadsHold x y
  pub pieces : (x y : Party) → B x y → WhyPieces x y
  pub passes : (x y : Party) → B x y → PassesAt x y

-- ---- one call more

-- no list ends before others
none_behind : (before behind : List Told) (call : Told) → [] ≡ before ++ call ∷ behind → ⊥
none_behind [] behind call is = cc
none_behind (b ∷ before) behind call is = cc

-- a call of a list with one more is the last, or one of the others
last_or_before : (told before behind : List Told) (t call : Told) → told ++ t ∷ [] ≡ before ++ call ∷ behind → ((before ≡ told) × (call ≡ t)) ⊎ ((rest : List Told) × (told ≡ before ++ call ∷ rest))
last_or_before [] [] behind t call is = let same : call ≡ t = cc in inl (refl, same)
last_or_before [] (b ∷ before) behind t call is = let tail : [] ≡ before ++ call ∷ behind = cc in absurd (none_behind before behind call tail)
last_or_before (u ∷ told) [] behind t call is = let same : u ≡ call = cc in inr (told, ap (λ (x : Told). x ∷ told) same)
last_or_before (u ∷ told) (b ∷ before) behind t call is =
    let first : b ≡ u = cc in
    let tail : told ++ t ∷ [] ≡ before ++ call ∷ behind = cc in
    go first (last_or_before told before behind t call tail)
  where
    go : b ≡ u → ((before ≡ told) × (call ≡ t)) ⊎ ((rest : List Told) × (told ≡ before ++ call ∷ rest)) → ((b ∷ before ≡ u ∷ told) × (call ≡ t)) ⊎ ((rest : List Told) × (u ∷ told ≡ b ∷ (before ++ call ∷ rest)))
    go first (inl same) = inl (ap (λ (x : Told). x ∷ before) first ∙ ap (λ (xs : List Told). u ∷ xs) same.0, same.1)
    go first (inr old) = inr (old.0, ap (λ (xs : List Told). u ∷ xs) old.1 ∙ ap (λ (x : Told). x ∷ (before ++ call ∷ old.0)) (sym first))

module _ (p : Policy) (window : ℕ) (given : List (List ℕ)) (told : List Told) (t : Told) (were : (c : PacketCame p given told) → IsTakenOrCrowded p window given told c) where
  -- what came before one call more was judged, and so is what came by it
  judged_more : ((c : PacketCame p given (told ++ t ∷ [])) → c.before ≡ told → c.call ≡ t → IsTakenOrCrowded p window given (told ++ t ∷ []) c) → (c : PacketCame p given (told ++ t ∷ [])) → IsTakenOrCrowded p window given (told ++ t ∷ []) c
  judged_more now c = go (last_or_before told c.before c.behind t c.call c.split)
    where
      go : ((c.before ≡ told) × (c.call ≡ t)) ⊎ ((rest : List Told) × (told ≡ c.before ++ c.call ∷ rest)) → IsTakenOrCrowded p window given (told ++ t ∷ []) c
      go (inl same) = now c same.0 same.1
      go (inr old) = still (were then)
        where
          then : PacketCame p given told
          then = record { before = c.before; call = c.call; behind = old.0; split = old.1; was_open = c.was_open; datagram = c.datagram; handed_in = c.handed_in; opening = c.opening; opened = c.opened; new = c.new }

          still : IsTakenOrCrowded p window given told then → IsTakenOrCrowded p window given (told ++ t ∷ []) c
          still (inl whole) = inl whole
          still (inr many) = inr (many.0, record { front = many.1.front; frame = many.1.frame; rest = many.1.rest; frames = many.1.frames; many = many.1.many })

  -- nothing comes by a call that hands nothing in
  judged_quiet : handed given t.call t.answer ≡ None → (c : PacketCame p given (told ++ t ∷ [])) → IsTakenOrCrowded p window given (told ++ t ∷ []) c
  judged_quiet none = judged_more (λ c same is. absurd (clash c is))
    where
      clash : (c : PacketCame p given (told ++ t ∷ [])) → c.call ≡ t → ⊥
      clash c is = let both : None ≡ Some c.datagram = sym none ∙ ap (λ (u : Told). handed given u.call u.answer) (sym is) ∙ c.handed_in in cc

-- ---- a call

-- an end that reads no packet closes for nothing that a peer did
unread_blameless : (reason : LostReason) → IsUnread reason → IsBlameless (Some reason)
unread_blameless reasons.NumberLimit is = tt
unread_blameless reasons.KeyLimit is = tt
unread_blameless reasons.Application is = tt
unread_blameless reasons.Idle is = tt
unread_blameless reason is = absurd is

-- what an end says of itself behind a call that hands it nothing
apart_blameless : (p : Policy) (e : End) (theirs : List (List ℕ)) (call : Call) (a : Answer) → is_delivery call ≡ false → IsBlameless e.closing.reason → IsBlameless (after_call p e theirs call a).closing.reason
apart_blameless p e theirs call a apart i = elim (call_closes p e theirs call a apart) [
  | inl k ↦ subst IsBlameless (sym k.reason) i
  | inr shut ↦ elim shut.reason [
    | inl same ↦ subst IsBlameless (sym same) i
    | inr other ↦ subst IsBlameless (sym other.1) (unread_blameless other.0 other.2)
  ]
]

module _ (B : Way) (rests : RestsOn B) (x y : Party) (delivery : Delivery) (a : Answer) (c : Calls B x y (calls.Deliver delivery) a) (b : Blameless y x) where
  abbrev t : Told
  t = told_of (calls.Deliver delivery) a x.end.closing.state

  abbrev after : End
  after = after_call x.policy x.end y.given (calls.Deliver delivery) a

  -- a packet that was refused came to too many pieces
  many_came : (s : Sent) → In s y.sents → (n : IsNew x y delivery a s) → x.end.closing.state ≡ states.Open → (arrived x.end delivery.now s.number (taken_of x y delivery a s)).fault ≡ Some too_many_pieces
      → (h : PacketCame x.policy y.final (x.told ++ t ∷ [])) → h.before ≡ x.told → h.call ≡ t → a ≡ answers.Deliver (Closed (error_of too_many_pieces)) → IsTakenOrCrowded x.policy (window_of x) y.final (x.told ++ t ∷ []) h
  many_came s among new still_open many h same call answer =
      let e : End = begun x.end delivery.now s.number in
      let reads = rests.reads y x c.takes in
      let why = rests.pieces y x c.takes in
      let crowd : IsCrowdedBy (window_of x) x.told (came_to x y).took s.number s.frames =
      crowded_at (is_there delivery.remote x.end) (window_of x) x.told (came_to x y).took s.number s.frames
      (crowded (window_of x) x.side (wrote y.told) x.told (came_to x y).took s.number (taken_of x y delivery a s) e (among_at (SaysOf (wrote y.told)) tt (is_there delivery.remote x.end) s.frames (rests.says y x c.takes s among)) reads.reads reads.brought (why.come still_open) why.window (up_to (taken_of x y delivery a s) e many)) in
      inr (ap (λ (u : Told). u.answer) call ∙ answer, crowd_is x y delivery a (window_of x) s crowd new h same call)

  -- no rule is broken by it, nor did the peer close in it
  many_only : (f : Fault) → BreaksNone f → a ≡ answers.Deliver (Closed (error_of f)) → after.closing.reason ≡ Some (reason_of f) → f ≡ too_many_pieces
  many_only too_many_pieces none answer reason = refl
  many_only (broke error) none answer reason = absurd none
  many_only (closed_by_peer close) none answer reason = absurd (refused_not close (error_of (closed_by_peer close)) x.policy x.end delivery (slice_get y.given delivery.index) a c.answer answer reason)

  -- what a delivery leaves
  delivered : Judged x y delivery a after → Blameless y (called x y.given (calls.Deliver delivery) a)
  delivered (nothing k none) = record {
    reason = subst IsBlameless (sym k.reason) b.reason;
    judged = judged_more x.policy (window_of x) y.final x.told t b.judged (λ h same call. absurd (none h same call));
  }
  delivered (exhausted none reason state) = record {
    reason = subst IsBlameless (sym reason) tt;
    judged = judged_more x.policy (window_of x) y.final x.told t b.judged (λ h same call. absurd (none h same call));
  }
  delivered (drained s among new still_open close fault answer reason state) = record {
    reason = subst IsBlameless (sym reason) tt;
    judged = judged_more x.policy (window_of x) y.final x.told t b.judged (λ h same call. inl (ap (λ (u : Told). u.answer) call ∙ answer));
  }
  delivered (taken s among new still_open none answer k) = record {
    reason = subst IsBlameless (sym k.reason) b.reason;
    judged = judged_more x.policy (window_of x) y.final x.told t b.judged (λ h same call. inl (ap (λ (u : Told). u.answer) call ∙ answer));
  }
  delivered (refused s among new still_open f fault answer reason state) =
      let only : f ≡ too_many_pieces = many_only f ((rests.passes y x c.takes).passes s among still_open delivery.now (is_there delivery.remote x.end) f fault) answer reason in
      record {
        reason = subst IsBlameless (sym (reason ∙ ap (λ (g : Fault). Some (reason_of g)) only)) tt;
        judged = judged_more x.policy (window_of x) y.final x.told t b.judged (λ h same call.
            many_came s among new still_open (fault ∙ ap (λ (g : Fault). Some g) only) h same call (answer ∙ ap (λ (g : Fault). answers.Deliver (Closed (error_of g))) only));
      }

-- any call
blameless_behind : (B : Way) (rests : RestsOn B) (x y : Party) (call : Call) (a : Answer) → Calls B x y call a → Blameless y x → Blameless y (called x y.given call a)
blameless_behind B rests x y (calls.Deliver delivery) a c b = delivered B rests x y delivery a c b (judged x y delivery a c.joined (meets y x (rests.packets y x c.takes)) c.served c.answer)
blameless_behind B rests x y call a c b = record {
  reason = apart_blameless x.policy x.end y.given call a refl b.reason;
  judged = judged_quiet x.policy (window_of x) y.final x.told (told_of call a x.end.closing.state) b.judged (none_handed y.final call a refl);
}

pub blameless_group : (B : Way) → RestsOn B → Group B Blameless
blameless_group B rests = record {
  first = λ x y m there here. record { reason = tt; judged = λ c. absurd (none_behind c.before c.behind c.call c.split) };
  writer = λ x y call a c b back. record { reason = b.reason; judged = b.judged };
  reader = λ x y call a c there b. blameless_behind B rests x y call a c b;
  shows = λ x y here there above below b back. record { reason = b.reason; judged = b.judged };
}

-- ---- the clauses

module _ (G : Way) (why : (x y : Party) → G x y → Blameless x y) (r : Run) (end : World) (honest : IsHonest r) (all : (side : Side) (i : ℕ) → AreServed r i → Placed G r end side i) where
  -- no view shows another reason
  pub no_blame_at : NoBlame r
  no_blame_at side place reason shows = subst IsBlameless (reason_shown G r end side place reason shows p) (why y x p.takes).reason
    where
      next : place + 1 ≡ suc place
      next = omega arith

      p : Placed G r end side (suc place)
      p = all side (suc place) (subst (AreServed r) next shows.served)

      x : Party
      x = party_at r (suc place) p.world side p.sents

      y : Party
      y = party_at r (suc place) p.world (other_side side) p.theirs

  -- each packet that came is judged so
  pub taken_at : TakenOrTooMany r
  taken_at side i served = (why y x p.takes).judged
    where
      p : Placed G r end side i
      p = all side i served

      x : Party
      x = party_at r i p.world side p.sents

      y : Party
      y = party_at r i p.world (other_side side) p.theirs

-- What lets each packet pass, as a group over all that is known of the ends.
pub record IsPassing (P : Way) : Type 1 where
  pub group : Group (And Nothing Held) P
  pub passes : (x y : Party) → And Held P x y → PassesAt x y

module _ (P : Way) (passing : IsPassing P) where
  -- all that holds between the ends, and this
  all_blameless : Group Nothing (And (And Held P) Blameless)
  all_blameless = both Nothing (And Held P) Blameless (both Nothing Held P held passing.group) (blameless_group (And Nothing (And Held P)) (record {
    packets = λ x y h. h.1.0.0.0.0.0;
    says = λ x y h. h.1.0.0.0.0.1.0.says;
    reads = λ x y h. h.1.0.0.1;
    pieces = λ x y h. h.1.0.1;
    passes = λ x y h. passing.passes x y h.1;
  }))

  pub no_blame : (r : Run) (end : World) → IsHonest r → IsRun r end → NoBlame r
  no_blame r end honest run = no_blame_at (And (And Held P) Blameless) (λ x y h. h.1) r end honest (placed (And (And Held P) Blameless) all_blameless r end honest run)

  pub taken_or_too_many : (r : Run) (end : World) → IsHonest r → IsRun r end → TakenOrTooMany r
  taken_or_too_many r end honest run = taken_at (And (And Held P) Blameless) (λ x y h. h.1) r end honest (placed (And (And Held P) Blameless) all_blameless r end honest run)
