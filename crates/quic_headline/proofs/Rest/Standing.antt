-- What stays of what is to be acknowledged: frames that come leave what is counted; and behind a
-- call that is no delivery, and gives no ACK frame, as many packets that ask are counted, and an
-- acknowledgement that was due for them is due still.
use Rattle.std.proofs.Common.{◌≡◌, ℕ, ◌<◌, Bool, true, false, ◌||◌, List, [], ◌∷◌, ◌++◌, replicate, Option, Some, None, refl, sym, ap, ◌∙◌, subst}
use Rattle.std.specs.Prelude.{if◌then◌else◌, nat_lt, not, ◌&&◌}
use Rattle.std.specs.List.{list_any}
use Rattle.std.proofs.lemmas.Bool.{or_parts, or_left, lt-ltb}
use Rattle.std.proofs.lemmas.List.Folds.{list_any-append}
use Rattle.quic_wire.specs.Value.{FrameValue, padding}
use Rattle.quic_recovery_core.specs.PendingAcks.{lazy_threshold, Pending, after_timeout, after_lazy}
use Rattle.quic_machine.specs.declared.run.Call.{Call}
use Rattle.quic_machine.specs.declared.run.Call.TheVariants as calls
use Rattle.quic_machine.specs.declared.run.Answer.{Answer}
use Rattle.quic_machine.specs.declared.run.Answer.TheVariants as answers
use Rattle.quic_machine.specs.Policy.{Policy}
use Rattle.quic_machine.specs.Closing.{ticked}
use Rattle.quic_machine.specs.Tracking.{lost_by}
use Rattle.quic_machine.specs.Acked.{verdict}
use Rattle.quic_machine.specs.End.{End, with_closing}
use Rattle.quic_machine.specs.Poll.{Polled, Draft, polled, draft_as, lazied_as, Leaving, whole, alone, Ready}
use Rattle.quic_machine.specs.Receive.{take_frame}
use Rattle.quic_machine.specs.Timeouts.{Expiry, loss_judged, loss_expired, unless_idle}
use Rattle.quic_machine.specs.Machine.{IsAnswer, after_call, fails, gave}
use Rattle.quic_machine.specs.CallCases.{Plain, is_delivery, is_poll, by_plain_call}
use Rattle.quic_machine.specs.CallCases as cases
use Rattle.quic_machine.specs.LeaveCases.{at_expiry, busy_acknowledge}
use Rattle.quic_machine.specs.FrameCases.{Settling, named, passed, acked_keeps, frame_keeps, frame_leaves, frames_keep, packets_lost_keep}
use Rattle.quic_headline.proofs.Packets.Apart.{AsksAnew, apart_acks, by_waits, next_acks}
use Rattle.quic_machine.specs.Steps as steps
use Rattle.quic_machine.specs.PollCases.{ready_at, draft_at, frames_at, may_leave_at}
use Rattle.quic_machine.specs.DraftLaws.{Writing, by_leave, MayLeave}
use Rattle.quic_machine.specs.Puts as puts
use Rattle.quic_headline.specs.Moments.{is_ack, acknowledges}
use Rattle.quic_headline.proofs.Packets.Searches.{losses_searched}
use Rattle.quic_headline.proofs.Packets.Probes.{by_going, ready_acks}
use Rattle.quic_headline.proofs.Places.Steps.{poll_answer}
use Rattle.quic_headline.proofs.Places.Parties.{sent_by, sent_if, sents_by}
use Rattle.quic_headline.proofs.Packets.Sends.{by_sends}
use Rattle.quic_headline.specs.Observer.{Sent}

-- ---- frames that come

-- Packets are counted as before, the timer is set for the same one, and the greatest numbers of
-- those that ask are the same; and what was due is so still.
pub record SameCounts (p q : Pending) : Type 0 where
  pub asking : q.asking ≡ p.asking
  pub silent : q.silent ≡ p.silent
  pub since : q.since ≡ p.since
  pub greatest : q.greatest ≡ p.greatest
  pub acked : q.acked ≡ p.acked
  pub due : p.due ≡ true → q.due ≡ true

-- so it is of what two ends have to acknowledge
abbrev pub CountsOn : End → End → Type 0
CountsOn e f = SameCounts e.acknowledging f.acknowledging

-- nothing changed
pub counts_same : (e : End) → CountsOn e e
counts_same e = record { asking = refl; silent = refl; since = refl; greatest = refl; acked = refl; due = λ due. due }

-- an end may be asked anew how often to acknowledge, and that at once
anew_counts : (p q r : Pending) → SameCounts p q → AsksAnew q r → SameCounts p r
anew_counts p q r c anew = record {
  asking = ap (λ (a : Pending). a.asking) anew.others ∙ c.asking;
  silent = ap (λ (a : Pending). a.silent) anew.others ∙ c.silent;
  since = ap (λ (a : Pending). a.since) anew.others ∙ c.since;
  greatest = ap (λ (a : Pending). a.greatest) anew.others ∙ c.greatest;
  acked = ap (λ (a : Pending). a.acked) anew.others ∙ c.acked;
  due = λ due. anew.due (c.due due);
}

-- so it is where packets are acknowledged or lost
settling : (e : End) → Settling (CountsOn e)
settling e (steps.known n) x c = record { asking = c.asking; silent = c.silent; since = c.since; greatest = c.greatest; acked = c.acked; due = c.due }
settling e s x c = c

-- so it is behind a frame
pub frame_acks : (e : End) (f : FrameValue) (x : End) → CountsOn e x → CountsOn e (take_frame f x).end
frame_acks e = frame_keeps (CountsOn e) (record {
  ack = λ rises a x c. acked_keeps (CountsOn e) (settling e) rises a (named a x) c;
  on_streams = λ f x on c. frame_leaves (CountsOn e) f x on (λ t. c);
  apart = λ f x is c. anew_counts e.acknowledging x.acknowledging (take_frame f x).end.acknowledging c (apart_acks f x is);
  message = λ m x c. c;
})

-- and so it is behind all frames of a packet
pub frames_acks : (fs : List FrameValue) (e : End) → CountsOn e (passed fs e).end
frames_acks fs e = frames_keep (CountsOn e) (frame_acks e) fs e (counts_same e)

-- ---- a timeout

-- losses leave it
judged_acks : (o : Option ℕ) (e : End) → (loss_judged o e).acknowledging ≡ e.acknowledging
judged_acks None e = refl
judged_acks (Some moment) e = losses_searched (λ (x : End). x.acknowledging ≡ e.acknowledging) (λ d x i. i) (λ most x i. i) e
    (packets_lost_keep (λ (x : End). x.acknowledging ≡ e.acknowledging) (λ m x i. i) (λ c x i. i) (lost_by (verdict e) e.tracking.packets) e refl)

-- so timers change it only where that of acknowledgements expires
pub expired_acks : (words : ℕ → ℕ) (e : End) (now : ℕ) (expiry : Expiry) → (at_expiry words e now expiry).acknowledging ≡ (if not expiry.idle && expiry.acks then after_timeout e.acknowledging else e.acknowledging)
expired_acks words e now expiry = go expiry.idle
  where
    begins : End
    begins = with_closing e (ticked e.closing now)

    lost : (loss : Bool) → (loss_expired loss begins).acknowledging ≡ e.acknowledging
    lost true = judged_acks e.tracking.loss_time begins
    lost false = refl

    -- an end that is drained has none to send
    go : (idle : Bool) → (unless_idle idle words expiry (loss_expired expiry.loss begins)).acknowledging ≡ (if not idle && expiry.acks then after_timeout e.acknowledging else e.acknowledging)
    go true = lost expiry.loss
    go false = busy_acknowledge words expiry (loss_expired expiry.loss begins) ∙ ap (λ (p : Pending). if expiry.acks then after_timeout p else p) (lost expiry.loss)

-- ---- a call that gives no ACK frame

-- PADDING is no ACK
pub none_padded : (fs : List FrameValue) (count : ℕ) → list_any is_ack (fs ++ replicate count padding) ≡ false → list_any is_ack fs ≡ false
none_padded fs count none = (or_parts (list_any is_ack fs) (list_any is_ack (replicate count padding)) (sym (list_any-append is_ack fs (replicate count padding)) ∙ none)).0

-- one more frame: those before it have none either
pub parts : (fs : List FrameValue) (f : FrameValue) → list_any is_ack (fs ++ f ∷ []) ≡ false → (list_any is_ack fs ≡ false) × (is_ack f ≡ false)
parts fs f none =
    let both = or_parts (list_any is_ack fs) (is_ack f || false) (sym (list_any-append is_ack fs (f ∷ [])) ∙ none) in
    (both.0, (or_parts (is_ack f) false both.1).0)

-- What holds of what is to be acknowledged holds behind such a call that is no delivery, if it
-- holds too once many came that don't ask, and once the timer expired.
module _ (P : Pending → Type 0) (e : End) (same : P e.acknowledging) (lazy : P (after_lazy e.acknowledging)) (expires : P (after_timeout e.acknowledging)) where
  -- where no frame of a draft is an ACK
  abbrev Leaves : Draft → Type 0
  Leaves d = list_any is_ack d.frames ≡ false → P d.end.acknowledging

  draft_leaves : (leaving : Leaving) (x : End) → MayLeave leaving x → x.acknowledging ≡ e.acknowledging → Leaves (draft_as leaving x)
  draft_leaves leaving x due is = by_leave Leaves keep leaving x due (λ none. begins leaving)
    where
      keep : Writing Leaves
      keep puts.ack d may i = λ none. absurd (let some = (parts d.frames _ none).1 in cc)
      keep (puts.drops kind) d may i = i
      keep p d may i = λ none. i (parts d.frames _ none).0

      begins : (l : Leaving) → P (lazied_as l x).acknowledging
      begins whole = subst (λ (p : Pending). P (after_lazy p)) (sym is) lazy
      begins alone = subst (λ (p : Pending). P (after_lazy p)) (sym is) lazy
      begins other = subst P (sym is) same

  ready_same : (now : ℕ) → P (ready_at e now).end.acknowledging
  ready_same now = subst P (sym (ready_acks e now)) same

  polled_leaves : (p : Policy) (now : ℕ) → acknowledges (sent_if (gave (answers.Poll (polled p e now).answer)) (sent_by p e now)) ≡ false → P (polled p e now).end.acknowledging
  polled_leaves p now = by_sends p e now (λ (q : Polled) (ss : List Sent). acknowledges ss ≡ false → P q.end.acknowledging) (record {
    silent = λ none. same;
    failed = λ none. same;
    nothing = λ is quiet none. ready_same now;
    repeats = λ is. ((λ none. same), λ f goes none. same);
    closes = λ reason is bound. ((λ none. ready_same now), λ f goes none. ready_same now);
    gives = λ is may some none.
        let g : Ready = ready_at e now in
        by_going (λ (x : End). P x.acknowledging) p (draft_at e now) (λ pacing. draft_leaves g.leaving g.end (may_leave_at e now) (ready_acks e now) (none_padded (draft_at e now).frames _ (or_parts (list_any is_ack (frames_at e now)) false none).0));
  })

  -- one that is no poll either
  quiet_leaves : (p : Policy) (theirs : List (List ℕ)) (call : Call) (a : Answer) → is_delivery call ≡ false → is_poll call ≡ false → P (after_call p e theirs call a).acknowledging
  quiet_leaves p theirs call a apart silent = by_plain_call p e theirs (λ (x : End). P x.acknowledging) call a keep
    where
      expired : (b : Bool) → P (if b then after_timeout e.acknowledging else e.acknowledging)
      expired true = expires
      expired false = same

      keep : Plain p e call (λ (x : End). P x.acknowledging)
      keep (cases.times now expiry) may = subst P (sym (expired_acks p.words e now expiry)) (expired (not expiry.idle && expiry.acks))
      keep (cases.polls now) is = (let clash : true ≡ false = sym is ∙ silent in cc)
      keep (cases.hears arrival d) is = (let clash : true ≡ false = sym is ∙ apart in cc)
      keep (cases.closes reason f now) may = same
      keep (cases.waits now b) may = by_waits (λ (x : End). P x.acknowledging) b (with_closing e (ticked e.closing now)) same same
      keep (cases.changes_id b) may = subst P (sym (next_acks e b)) same
      keep c may = same

  pub call_leaves : (p : Policy) (theirs : List (List ℕ)) (call : Call) (a : Answer) → is_delivery call ≡ false → IsAnswer p e theirs call a → fails a ≡ false → acknowledges (sents_by p e call a) ≡ false → P (after_call p e theirs call a).acknowledging
  call_leaves p theirs (calls.Poll now) a apart is served none = polled_leaves p now (ap (λ (b : Answer). acknowledges (sent_if (gave b) (sent_by p e now))) (sym (poll_answer p e now a is served)) ∙ none)
  call_leaves p theirs (calls.Deliver delivery) a apart is served none = cc
  call_leaves p theirs call a apart is served none = quiet_leaves p theirs call a refl refl

-- as many packets that ask are counted, and what was due for them is due
abbrev pub Stands : Pending → Pending → Type 0
Stands p q = (q.asking ≡ p.asking) × (0 < p.asking → p.due ≡ true → q.due ≡ true)

-- so it is behind such a call
pub call_stands : (p : Policy) (e : End) (theirs : List (List ℕ)) (call : Call) (a : Answer) → is_delivery call ≡ false → IsAnswer p e theirs call a → fails a ≡ false → acknowledges (sents_by p e call a) ≡ false
    → Stands e.acknowledging (after_call p e theirs call a).acknowledging
call_stands p e theirs call a = call_leaves (Stands e.acknowledging) e (refl, λ some due. due) (refl, λ some due. or_left e.acknowledging.due (nat_lt lazy_threshold e.acknowledging.silent) due) (refl, λ some due. lt-ltb 0 e.acknowledging.asking some) p theirs call a
