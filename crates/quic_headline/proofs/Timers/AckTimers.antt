-- At an open end the timer of acknowledgements is set only where a packet that asks came since the
-- last acknowledgement went: each call keeps that.
use Rattle.std.proofs.Common.{◌≡◌, ℕ, ◌+◌, ◌-◌, ◌^◌, ◌<◌, Bool, true, false, cond, min, List, Option, Some, None, refl, sym, ap, ◌∙◌, subst, arith}
use Rattle.quic_wire.specs.Value.{FrameValue}
use Rattle.std.specs.Option.{is_some}
use Rattle.quic_recovery_core.specs.Duplicates.{Seen}
use Rattle.quic_recovery_core.specs.PendingAcks.{Pending, after_insert, asking_counted, starts_wait, after_packet}
use Rattle.quic_time.specs.Timers.{Timers}
use Rattle.quic_machine.specs.declared.answers.State.TheVariants as states
use Rattle.quic_machine.specs.declared.answers.LostReason.{LostReason}
use Rattle.quic_machine.specs.declared.answers.LostReason.TheVariants as reasons
use Rattle.quic_machine.specs.declared.run.RunEvent.{RunEvent}
use Rattle.quic_machine.specs.declared.run.Call.{Call}
use Rattle.quic_machine.specs.declared.run.Answer.{Answer}
use Rattle.quic_machine.specs.declared.run.View.{View}
use Rattle.quic_machine.specs.Policy.{Policy}
use Rattle.quic_machine.specs.Closing.{ticked}
use Rattle.quic_machine.specs.End.{End, with_closing, closed_by}
use Rattle.quic_machine.specs.Receive.{timers_after, take_frame}
use Rattle.quic_spaces.specs.Acknowledging.{with_due}
use Rattle.quic_machine.specs.Poll.{Polled, Draft, with_ack, polled, lazied_as, draft_as, Leaving, whole}
use Rattle.quic_machine.specs.Timeouts.{Expiry, loss_judged, acks_expired}
use Rattle.quic_machine.specs.Machine.{World, Policies, after_call, Follows}
use Rattle.quic_headline.specs.Headline.{AckTimerFollows, AckTimersFollow}
use Rattle.quic_machine.specs.DraftLaws.{Writing, by_leave, MayLeave}
use Rattle.quic_machine.specs.Puts as puts
use Rattle.quic_machine.specs.LeaveCases.{at_expiry, Expired, by_timers}
use Rattle.quic_machine.specs.CallCases.{Plain, by_plain_call}
use Rattle.quic_machine.specs.CallCases as cases
use Rattle.quic_machine.specs.FrameCases.{Settling, Receives, named, acked_keeps, losses_keep, frame_keeps, frame_leaves, by_received, IsApart, apart_leaves}
use Rattle.quic_headline.proofs.Packets.Apart.{AsksAnew, apart_acks, by_waits, by_next_id, next_acks}
use Rattle.quic_machine.specs.Steps as steps
use Rattle.quic_machine.specs.PollCases.{ready_at, ready_leaves, by_poll_to, draft_at, may_leave_at}
use Rattle.quic_headline.proofs.Timers.BothEnds.{run_keeps}
use Rattle.quic_headline.proofs.Packets.Probes.{by_going}
use Rattle.quic_machine.specs.LeaveCases as expiring
use Rattle.quic_headline.proofs.Packets.Closes.{by_closes}
use Rattle.quic_headline.proofs.Packets.Heard.{by_taken}
use Rattle.quic_headline.proofs.Packets.Moved.{by_migrated}
use Rattle.quic_headline.proofs.Packets.Moving.{moved_acks}

-- no timer is set
unset_follows : (e : End) → e.timers.max_ack_delay ≡ None → AckTimerFollows e
unset_follows e none opened set = let clash : ◌≡◌ {A = Bool} false true = sym (ap (λ (o : Option ℕ). is_some o) none) ∙ set in cc

-- an end that closes has no timer
closed_follows : (reason : LostReason) (e : End) → AckTimerFollows (closed_by reason e)
closed_follows reason e = unset_follows (closed_by reason e) refl

-- ---- a datagram

-- acknowledged and lost packets leave the timer, and the packets that ask count on
settling : Settling AckTimerFollows
settling (steps.known n) e i = i
settling s e i = i

-- the timer waits or is left: the count stays
wait_counts : (b : Bool) (p : Pending) (now : ℕ) → (cond b (record p { since = Some now }) p).asking ≡ p.asking
wait_counts true p now = refl
wait_counts false p now = refl

-- a packet that asks counts, and where none asks the timer stays
packet_counts : (delay : ℕ) (asks : Bool) (t : Timers) (p : Pending) (now n : ℕ) (s : Seen) → (is_some t.max_ack_delay ≡ true → 0 < p.asking) → is_some (timers_after delay t p now n asks s).max_ack_delay ≡ true → 0 < (after_packet p now n asks s).asking
packet_counts delay true t p now n s i set =
    let counted = asking_counted p n s in
    let is : (after_packet p now n true s).asking ≡ min (p.asking + 1) (2 ^ 64 - 1) = wait_counts (starts_wait counted) counted now in
    omega (arith, is)
packet_counts delay false t p now n s i set = i set

-- a frame apart from streams leaves what is counted, and the timer
apart_follows : (f : FrameValue) (e : End) → IsApart f → AckTimerFollows e → AckTimerFollows (take_frame f e).end
apart_follows f e is i = apart_leaves (λ (x : End). AsksAnew e.acknowledging x.acknowledging → AckTimerFollows x) f e is (λ c anew. still anew) (λ c most anew. still anew) (apart_acks f e is)
  where
    still : {p : Pending} → AsksAnew e.acknowledging p → e.closing.state ≡ states.Open → is_some e.timers.max_ack_delay ≡ true → 0 < p.asking
    still anew opened set = subst (λ (k : ℕ). 0 < k) (sym (ap (λ (a : Pending). a.asking) anew.others)) (i opened set)

-- what is counted is as it was
still_counts : (e : End) → AckTimerFollows e → {p : Pending} → p ≡ e.acknowledging → e.closing.state ≡ states.Open → is_some e.timers.max_ack_delay ≡ true → 0 < p.asking
still_counts e i same opened set = subst (λ (a : Pending). 0 < a.asking) (sym same) (i opened set)

receives : Receives AckTimerFollows
receives = record {
  notes = λ n e i. i;
  begins = λ now n e i. i;
  frame = frame_keeps AckTimerFollows (record { ack = λ rises a e i. acked_keeps AckTimerFollows settling rises a (named a e) i; on_streams = λ f e on i. frame_leaves AckTimerFollows f e on (λ t. i); apart = apart_follows; message = λ m e i. i });
  takes = λ n asks urged mark e i. by_taken AckTimerFollows n asks urged mark e (λ idle alive opened. packet_counts e.frequency.own_delay asks e.timers (with_due urged (after_insert e.acknowledging n e.closing.clock)) e.closing.clock n e.numbers.opened (i opened));
  closes = λ reason e i. closed_follows reason e;
  drains = λ close e i opened. cc;
  asks_close = λ e i. i;
  exhausts = λ now e i. closed_follows reasons.KeyLimit (with_closing e (ticked e.closing now));
  draws = λ words e i. i;
  moves = λ p o remote e i. by_migrated (λ (x : End). x.acknowledging ≡ e.acknowledging → AckTimerFollows x) p o remote e (λ c. still_counts e i) (λ c most. still_counts e i) (moved_acks p o remote e);
}

-- ---- a poll

-- an acknowledgement that became due leaves it
lazied_follows : (leaving : Leaving) (e : End) → AckTimerFollows e → AckTimerFollows (lazied_as leaving e)
lazied_follows whole e i = i
lazied_follows other e i = i

-- an ACK that goes stops the timer, and no other frame changes it
draft_follows : (leaving : Leaving) (e : End) → MayLeave leaving e → AckTimerFollows e → AckTimerFollows (draft_as leaving e).end
draft_follows leaving e due i = by_leave (λ (d : Draft). AckTimerFollows d.end) keep leaving e due (lazied_follows leaving e i)
  where
    keep : Writing (λ (d : Draft). AckTimerFollows d.end)
    keep puts.ack d may i = unset_follows (with_ack d).end refl
    keep p d may i = i

-- what changes where an end is made ready leaves the timer
ready_follows : (e : End) (now : ℕ) → AckTimerFollows e → AckTimerFollows (ready_at e now).end
ready_follows e now i = subst (λ (x : End). AckTimerFollows x) (sym (ready_leaves e now)) i

polled_follows : (p : Policy) (e : End) (now : ℕ) → AckTimerFollows e → AckTimerFollows (polled p e now).end
polled_follows p e now i = by_poll_to p e now (λ (q : Polled). AckTimerFollows q.end) (record {
  silent = i;
  failed = i;
  nothing = λ is none. ready_follows e now i;
  repeats = λ is. by_closes p (with_closing e (ticked e.closing now)) (λ (q : Polled). AckTimerFollows q.end) (λ opened. let clash : states.Closing ≡ states.Open = sym is ∙ opened in cc) (λ f goes opened. let clash : states.Closing ≡ states.Open = sym is ∙ opened in cc);
  closes = λ reason bound. by_closes p (closed_by reason (ready_at e now).end) (λ (q : Polled). AckTimerFollows q.end) (closed_follows reason (ready_at e now).end) (λ f goes opened. cc);
  gives = λ is may some. by_going AckTimerFollows p (draft_at e now) (λ pacing. draft_follows (ready_at e now).leaving (ready_at e now).end (may_leave_at e now) (ready_follows e now i));
})

-- ---- any call

-- expired timers: that of acknowledgements stops, and losses leave it, and so does the pacer's
judged_follows : (o : Option ℕ) (e : End) → AckTimerFollows e → AckTimerFollows (loss_judged o e)
judged_follows None e i = i
judged_follows (Some moment) e i = losses_keep AckTimerFollows settling e i

expires_follows : (s : Expired) (e : End) → AckTimerFollows e → AckTimerFollows (expiring.after s e)
expires_follows expiring.of_acks e i = unset_follows (acks_expired true e) refl
expires_follows s e i = i

expired_follows : (words : ℕ → ℕ) (e : End) (now : ℕ) (expiry : Expiry) → AckTimerFollows e → AckTimerFollows (at_expiry words e now expiry)
expired_follows words e now expiry i = by_timers words AckTimerFollows AckTimerFollows judged_follows expires_follows (λ f j. j) (λ f j opened. cc) expiry (with_closing e (ticked e.closing now)) i

-- what any call leaves
call_follows : (p : Policy) (e : End) (theirs : List (List ℕ)) (call : Call) (a : Answer) → AckTimerFollows e → AckTimerFollows (after_call p e theirs call a)
call_follows p e theirs call a i = by_plain_call p e theirs AckTimerFollows call a cases_keep
  where
    cases_keep : Plain p e call AckTimerFollows
    cases_keep (cases.times now expiry) may = expired_follows p.words e now expiry i
    cases_keep (cases.polls now) may = polled_follows p e now i
    cases_keep (cases.hears arrival d) may = by_received AckTimerFollows receives p e arrival d i
    cases_keep (cases.closes reason f now) may = λ opened. cc
    cases_keep (cases.waits now b) may = by_waits AckTimerFollows b (with_closing e (ticked e.closing now)) (λ opened. cc) i
    cases_keep (cases.changes_id b) may = by_next_id (λ (x : End). x.acknowledging ≡ e.acknowledging → AckTimerFollows x) e b (λ same. i) (λ c. still_counts e i) (λ c most. still_counts e i) (next_acks e b)
    cases_keep c may = i

-- a run
pub ack_timers_follow : (k : Policies) (w end : World) (events : List RunEvent) (told : List Answer) (views : List View) → Follows k w events told views end → AckTimersFollow w → AckTimersFollow end
ack_timers_follow k w end events told views f i = run_keeps AckTimerFollows (record {
  call = call_follows;
  shows = λ window blocked e i. i;
  paces = λ pacing e i. i;
  stops = λ e next is opened. let clash : states.Failed ≡ states.Open = sym is.0 ∙ opened in cc;
}) k w end events told views f i
