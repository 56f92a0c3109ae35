-- An end isn't open any more for a cause, whatever its peer sends: the call that closed it, or
-- drained it, stands in the list.
use Rattle.std.proofs.Common.{◌≡◌, ◌⊎◌, ◌≤◌, ◌+◌, ℕ, suc, Bool, true, false, List, [], ◌∷◌, Option, Some, None, refl, sym, ap, ◌∙◌, subst, inl, inr, arith}
use Rattle.std.specs.Prelude.{max}
use Rattle.std.proofs.lemmas.Bool.{leb-true}
use Rattle.quic_spaces.specs.Numbers.{Numbers, cut_against}
use Rattle.quic_time.specs.Timers.{Timers}
use Rattle.quic_machine.specs.declared.answers.State.{State}
use Rattle.quic_machine.specs.declared.answers.State.TheVariants as states
use Rattle.quic_machine.specs.declared.answers.LostReason.{LostReason}
use Rattle.quic_machine.specs.declared.answers.LostReason.TheVariants as reasons
use Rattle.quic_machine.specs.declared.run.Call.{Call}
use Rattle.quic_machine.specs.declared.run.Call.TheVariants as calls
use Rattle.quic_machine.specs.declared.run.Answer.{Answer}
use Rattle.quic_machine.specs.Policy.{Policy}
use Rattle.quic_machine.specs.Control.{Control}
use Rattle.quic_machine.specs.Heard.{Heard, is_last}
use Rattle.quic_machine.specs.Closing.{Closing}
use Rattle.quic_machine.specs.End.{End}
use Rattle.quic_machine.specs.Machine.{CountsOpenings, HasStopped, IsLeft, reads_window, fails}
use Rattle.quic_headline.specs.Causes.{AreUsedUp, seals_kept}
use Rattle.quic_headline.specs.Reasons.{Explains}
use Rattle.quic_headline.specs.Alone.{Lone, IsLoneStep, IsNew, FollowsAlone}
use Rattle.quic_headline.specs.LoneCloses.{Expires, IsRefused, aead_limit_reached, ClosesFor, Drains, by_peer, by_idling, by_time, WasDone, Shuts, ClosedForCause, DrainedForCause}
use Rattle.quic_headline.proofs.Causes.Reasons.{IsExplained, call_keeps}
use Rattle.quic_headline.proofs.Alone.Places.{made_holds}
use Rattle.quic_headline.proofs.Alone.Shut.{ClosesAt, DrainsAtOnce, Shut, stays, closes, drains, ends, call_shuts}

-- ---- one call behind another

-- What holds of the end that is left held at the start, or some call did what it says.
module _ (p : Policy) (theirs : List (List ℕ)) (Does : Lone → Call → Answer → Type 0) (Q : End → Type 0)
    (step : (x next : Lone) (call : Call) (a : Answer) → IsLoneStep p theirs x call a next → Q next.end → Q x.end ⊎ Does x call a) where
  was_done : (x left : Lone) (cs : List Call) (told : List Answer) → FollowsAlone p theirs x cs told left → Q left.end → Q x.end ⊎ WasDone p theirs Does x cs told
  was_done x left [] [] f q = inl (subst (λ (y : Lone). Q y.end) f q)
  was_done x left [] (b ∷ told) f q = absurd f
  was_done x left (c ∷ cs) [] f q = absurd f
  was_done x left (c ∷ cs) (b ∷ told) f q = elim (was_done f.0 left cs told f.2 q) [
    | inr later ↦ inr (record { place = suc later.place; before = later.before; led = (f.0, f.1, later.led); call = later.call; called = later.called; answer = later.answer; answered = later.answered; does = later.does })
    | inl here ↦ elim (step x f.0 c b f.1 here) [
      | inl held ↦ inl held
      | inr does ↦ inr (record { place = 0; before = x; led = refl; call = c; called = refl; answer = b; answered = refl; does = does })
    ]
  ]

-- ---- one call

-- whatever a call reads
reads_closing : (control : Control) (heard : Heard) (call : Call) (e : End) → (reads_window control heard call e).closing ≡ e.closing
reads_closing control heard (calls.Poll now) e = refl
reads_closing control heard call e = refl

reads_timers : (control : Control) (heard : Heard) (call : Call) (e : End) → (reads_window control heard call e).timers ≡ e.timers
reads_timers control heard (calls.Poll now) e = refl
reads_timers control heard call e = refl

reads_numbers : (control : Control) (heard : Heard) (call : Call) (e : End) → (reads_window control heard call e).numbers ≡ e.numbers
reads_numbers control heard (calls.Poll now) e = refl
reads_numbers control heard call e = refl

-- an end that is open closes for packets that didn't open only at the last that may not
refusals : (limit : ℕ) (heard : Heard) (state : State) (a : Answer) → state ≡ states.Open → CountsOpenings limit state heard a → IsRefused aead_limit_reached a → limit ≤ heard.failures + 1
refusals limit heard state a here counts refused = elim refused [ inl is ↦ last (subst Counts is open_counts refl) | inr is ↦ last (subst Counts is open_counts refl) ]
  where
    Counts : Answer → Type 0
    Counts b = CountsOpenings limit states.Open heard b

    open_counts : Counts a
    open_counts = subst (λ (s : State). CountsOpenings limit s heard a) here counts

    last : is_last limit heard ≡ true → limit ≤ heard.failures + 1
    last is = (let below = leb-true limit _ is in omega (arith, below))

module _ (p : Policy) (theirs : List (List ℕ)) (x next : Lone) (call : Call) (a : Answer) (s : IsLoneStep p theirs x call a next) where
  -- the end as the call finds it
  abbrev met : End
  met = reads_window x.control x.heard call x.end

  met_closing : met.closing ≡ x.end.closing
  met_closing = reads_closing x.control x.heard call x.end

  met_state : (state : State) → met.closing.state ≡ state → x.end.closing.state ≡ state
  met_state state is = sym (ap (λ (c : Closing). c.state) met_closing) ∙ is

  expires_there : (timer there : Option ℕ) → timer ≡ there → Expires timer met.closing.clock call a → Expires there x.end.closing.clock call a
  expires_there timer there same c = record {
    now = c.now;
    called = c.called;
    answered = c.answered;
    moment = c.moment;
    set = sym same ∙ c.set;
    due = subst (λ (b : Closing). c.moment ≤ max b.clock c.now) met_closing c.due;
  }

  closes_there : (why : LostReason) → x.end.closing.state ≡ states.Open → ClosesAt p theirs why met call a → ClosesFor p theirs why x call a
  closes_there reasons.Application here c = c
  closes_there (reasons.Peer close) here c = c
  closes_there reasons.Pieces here c = c
  closes_there reasons.Idle here c = expires_there met.timers.idle x.end.timers.idle (ap (λ (t : Timers). t.idle) (reads_timers x.control x.heard call x.end)) c
  closes_there reasons.KeyLimit here (inl c) = inl (c.0, subst (λ (n : Numbers). p.seals ≤ n.sealed + seals_kept) (reads_numbers x.control x.heard call x.end) c.1)
  closes_there reasons.KeyLimit here (inr c) = inr (c, refusals p.openings x.heard x.end.closing.state a here s.openings c)
  closes_there reasons.NumberLimit here c = (c.0, subst (λ (n : Numbers). AreUsedUp n.next (cut_against n)) (reads_numbers x.control x.heard call x.end) c.1)
  closes_there (reasons.Transport error) here c = c

  -- what the call makes of it, or it fails
  call_left : (Shut p theirs met call a next.end.closing) ⊎ HasStopped x.end next.end
  call_left = go (fails a) refl s.end
    where
      go : (b : Bool) → fails a ≡ b → IsLeft b p x.control x.heard x.end theirs call a next.end → (Shut p theirs met call a next.end.closing) ⊎ HasStopped x.end next.end
      go true failed left = inr left
      go false served left = inl (subst (λ (e : End). Shut p theirs met call a e.closing) (sym left) (call_shuts p theirs met call a s.answer served))

  -- it explains itself still
  explains_there : IsExplained x.end → IsExplained next.end
  explains_there explained = go (fails a) s.end
    where
      go : (b : Bool) → IsLeft b p x.control x.heard x.end theirs call a next.end → IsExplained next.end
      go true left = subst (λ (state : State). Explains state next.end.closing.reason) (sym left.0) (subst (λ (o : Option LostReason). Explains states.Failed o) (sym left.1) tt)
      go false left = subst IsExplained (sym left) (call_keeps p met theirs call a (subst (λ (c : Closing). Explains c.state c.reason) (sym met_closing) explained))

  -- where it has a reason, it had it before, or the call says what for
  reason_there : (why : LostReason) → next.end.closing.reason ≡ Some why → (x.end.closing.reason ≡ Some why) ⊎ Shuts p theirs why x call a
  reason_there why is = elim call_left [ inl shut ↦ go shut | inr stopped ↦ (let clash : ◌≡◌ {A = Option LostReason} None (Some why) = sym stopped.1 ∙ is in cc) ]
    where
      before : next.end.closing.reason ≡ met.closing.reason → x.end.closing.reason ≡ Some why
      before same = sym (ap (λ (c : Closing). c.reason) met_closing) ∙ sym same ∙ is

      for : met.closing.state ≡ states.Open → (other : LostReason) → next.end.closing.reason ≡ Some other → ClosesAt p theirs other met call a → Shuts p theirs why x call a
      for here other reason c =
          let shown : Some other ≡ Some why = sym reason ∙ is in
          let same : other ≡ why = cc in
          let opened = met_state states.Open here in
          (opened, closes_there why opened (subst (λ (w : LostReason). ClosesAt p theirs w met call a) same c))

      go : Shut p theirs met call a next.end.closing → (x.end.closing.reason ≡ Some why) ⊎ Shuts p theirs why x call a
      go (stays state reason) = inl (before reason)
      go (closes here state other reason c) = inr (for here other reason c)
      go (drains here state other reason once c) = inr (for here other reason c)
      go (ends here state reason c) = inl (before reason)

  -- where it is drained, it was so before, or the call drained it
  drained_there : next.end.closing.state ≡ states.Drained → (x.end.closing.state ≡ states.Drained) ⊎ Drains p theirs x call a
  drained_there is = elim call_left [ inl shut ↦ go shut | inr stopped ↦ (let clash : states.Failed ≡ states.Drained = sym stopped.0 ∙ is in cc) ]
    where
      at_once : (why : LostReason) → DrainsAtOnce why → x.end.closing.state ≡ states.Open → ClosesFor p theirs why x call a → Drains p theirs x call a
      at_once (reasons.Peer close) once here c = by_peer here close c
      at_once reasons.Idle once here c = by_idling here c
      at_once why once here c = absurd once

      go : Shut p theirs met call a next.end.closing → (x.end.closing.state ≡ states.Drained) ⊎ Drains p theirs x call a
      go (stays state reason) = inl (met_state states.Drained (sym state ∙ is))
      go (closes here state why reason c) = (let clash : states.Closing ≡ states.Drained = sym state ∙ is in cc)
      go (drains here state why reason once c) = (let opened = met_state states.Open here in inr (at_once why once opened (closes_there why opened c)))
      go (ends here state reason c) = inr (by_time (met_state states.Closing here) (expires_there met.timers.close x.end.timers.close (ap (λ (t : Timers). t.close) (reads_timers x.control x.heard call x.end)) c))

-- ---- any calls

-- an end that explains itself does so behind any calls
explains_behind : (p : Policy) (theirs : List (List ℕ)) (x left : Lone) (cs : List Call) (told : List Answer) → FollowsAlone p theirs x cs told left → IsExplained x.end → IsExplained left.end
explains_behind p theirs x left [] [] f explained = subst (λ (y : Lone). IsExplained y.end) (sym f) explained
explains_behind p theirs x left [] (b ∷ told) f explained = absurd f
explains_behind p theirs x left (c ∷ cs) [] f explained = absurd f
explains_behind p theirs x left (c ∷ cs) (b ∷ told) f explained = explains_behind p theirs f.0 left cs told f.2 (explains_there p theirs x f.0 c b f.1 explained)

pub drained_for_cause : (p : Policy) (theirs : List (List ℕ)) (x left : Lone) (cs : List Call) (told : List Answer) → IsNew x.end → FollowsAlone p theirs x cs told left → DrainedForCause p theirs x cs told left
drained_for_cause p theirs x left cs told new f is =
    elim (was_done p theirs (Drains p theirs) (λ (e : End). e.closing.state ≡ states.Drained) (λ y next call a s. drained_there p theirs y next call a s) x left cs told f is) [
      | inl at_start ↦ (let clash : states.Open ≡ states.Drained = sym (made_holds (λ (e : End). e.closing.state ≡ states.Open) x.end new (λ peer. refl)) ∙ at_start in cc)
      | inr done ↦ done
    ]

pub closed_for_cause : (p : Policy) (theirs : List (List ℕ)) (x left : Lone) (cs : List Call) (told : List Answer) → IsNew x.end → FollowsAlone p theirs x cs told left → ClosedForCause p theirs x cs told left
closed_for_cause p theirs x left cs told new f = record {
  explained = explains_behind p theirs x left cs told f (made_holds IsExplained x.end new (λ peer. tt));
  cause = λ why is. elim (was_done p theirs (Shuts p theirs why) (λ (e : End). e.closing.reason ≡ Some why) (λ y next call a s. reason_there p theirs y next call a s why) x left cs told f is) [
    | inl at_start ↦ (let clash : ◌≡◌ {A = Option LostReason} None (Some why) = sym (made_holds (λ (e : End). e.closing.reason ≡ None) x.end new (λ peer. refl)) ∙ at_start in cc)
    | inr done ↦ done
  ];
}
