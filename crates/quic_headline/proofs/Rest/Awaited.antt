-- At an open end where a packet that asks came since the last acknowledgement went, one is due, or
-- the timer of acknowledgements is set: each call keeps that.
use Rattle.std.proofs.Common.{◌≡◌, ℕ, ◌<◌, ◌⊎◌, Bool, true, false, not, ◌||◌, ◌&&◌, cond, List, Option, Some, None, refl, sym, ap, ◌∙◌, subst, inl, inr, arith}
use Rattle.quic_wire.specs.Value.{FrameValue}
use Rattle.std.specs.Prelude.{if◌then◌else◌, nat_lt, is_none}
use Rattle.std.specs.Option.{is_some}
use Rattle.std.proofs.lemmas.Bool.{and_parts, or_left, lt-ltb}
use Rattle.quic_recovery_core.specs.Duplicates.{Seen}
use Rattle.quic_recovery_core.specs.PendingAcks.{lazy_threshold, Pending, none_pending, is_filled, after_insert, asking_counted, starts_wait, after_packet}
use Rattle.quic_time.specs.Timers.{Timers}
use Rattle.quic_wire_core.specs.declared.stream_id.Side.TheVariants.{Client, Server}
use Rattle.quic_machine.specs.declared.answers.State.TheVariants as states
use Rattle.quic_machine.specs.declared.answers.LostReason.{LostReason}
use Rattle.quic_machine.specs.declared.answers.LostReason.TheVariants as reasons
use Rattle.quic_machine.specs.declared.run.RunEvent.{RunEvent}
use Rattle.quic_machine.specs.declared.run.Call.{Call}
use Rattle.quic_machine.specs.declared.run.Answer.{Answer}
use Rattle.quic_machine.specs.declared.run.View.{View}
use Rattle.quic_machine.specs.Policy.{Policy}
use Rattle.quic_machine.specs.Closing.{ticked}
use Rattle.quic_machine.specs.Start.{AreStarted}
use Rattle.quic_machine.specs.End.{End, with_closing, closed_by, with_ack_timer}
use Rattle.quic_machine.specs.Receive.{timers_after, take_frame}
use Rattle.quic_spaces.specs.Acknowledging.{ack_due, with_due}
use Rattle.quic_machine.specs.Poll.{Polled, Draft, polled, draft_as, lazied_as, Leaving, whole, alone}
use Rattle.quic_machine.specs.Timeouts.{Expiry, loss_judged}
use Rattle.quic_machine.specs.Machine.{World, Policies, after_call, Follows}
use Rattle.quic_machine.specs.DraftLaws.{Writing, by_leave, MayLeave}
use Rattle.quic_machine.specs.Puts as puts
use Rattle.quic_machine.specs.LeaveCases.{at_expiry, Expired, by_timers}
use Rattle.quic_machine.specs.CallCases.{Plain, by_plain_call}
use Rattle.quic_machine.specs.CallCases as cases
use Rattle.quic_machine.specs.FrameCases.{Settling, Receives, named, acked_keeps, losses_keep, frame_keeps, frame_leaves, by_received, IsApart, apart_leaves}
use Rattle.quic_headline.proofs.Packets.Apart.{AsksAnew, apart_acks, by_waits, by_next_id, next_acks}
use Rattle.quic_machine.specs.Steps as steps
use Rattle.quic_machine.specs.PollCases.{ready_at, ready_leaves, by_poll_to, draft_at, may_leave_at}
use Rattle.quic_headline.proofs.Places.Placed.{start_is}
use Rattle.quic_headline.proofs.Timers.BothEnds.{AtBoth, run_keeps}
use Rattle.quic_headline.proofs.Packets.Probes.{by_going}
use Rattle.quic_machine.specs.LeaveCases as expiring
use Rattle.quic_headline.proofs.Packets.Closes.{by_closes}
use Rattle.quic_headline.proofs.Packets.Heard.{by_taken}
use Rattle.quic_headline.proofs.Packets.Moved.{by_migrated}
use Rattle.quic_headline.proofs.Packets.Moving.{moved_acks}

-- Where packets that ask were counted, an acknowledgement is due or the timer is set; it was set
-- only for such a packet.
pub record Comes (due : Bool) (asking : ℕ) (since timer : Option ℕ) : Type 0 where
  pub waits : 0 < asking → (due ≡ true) ⊎ (is_some timer ≡ true)
  pub counted : is_some since ≡ true → 0 < asking
  pub known : is_some timer ≡ true → is_some since ≡ true

-- so it is of what is to be acknowledged, and a timer
abbrev pub AckComes : Pending → Option ℕ → Type 0
AckComes p timer = Comes p.due p.asking p.since timer

-- and at an open end
abbrev pub IsAwaited : End → Type 0
IsAwaited e = e.closing.state ≡ states.Open → AckComes e.acknowledging e.timers.max_ack_delay

-- an end that closed isn't open
closed_awaited : (reason : LostReason) (e : End) → IsAwaited (closed_by reason e)
closed_awaited reason e opened = cc

-- ---- a datagram

-- an acknowledgement may become due
more_due : (b : Bool) (p : Pending) (timer : Option ℕ) → AckComes p timer → AckComes (record p { due = p.due || b }) timer
more_due b p timer c = record { waits = λ some. elim (c.waits some) [ inl due ↦ inl (or_left p.due b due) | inr set ↦ inr set ]; counted = c.counted; known = c.known }

-- a packet that asks: the timer is set, or an acknowledgement was due or is now, or the timer was
-- set before
asking_comes : (delay : ℕ) (t : Timers) (p : Pending) (now n : ℕ) (s : Seen) (b : Bool) → starts_wait (asking_counted p n s) ≡ b → AckComes p t.max_ack_delay
    → AckComes (cond b (record (asking_counted p n s) { since = Some now }) (asking_counted p n s)) (if b then with_ack_timer t (Some (ack_due delay now)) else t).max_ack_delay
asking_comes delay t p now n s true is c = record { waits = λ some. inr refl; counted = λ some. omega arith; known = λ set. refl }
asking_comes delay t p now n s false is c = record { waits = λ some. go p.since refl is; counted = λ some. omega arith; known = c.known }
  where
    counted : Pending
    counted = asking_counted p n s

    send_case : (b : Bool) → (counted.due && is_filled counted.runs) ≡ b → not b ≡ false → counted.due ≡ true
    send_case true can none = (and_parts counted.due (is_filled counted.runs) can).0
    send_case false can none = cc

    go : (o : Option ℕ) → p.since ≡ o → (is_none o && not (counted.due && is_filled counted.runs)) ≡ false → (counted.due ≡ true) ⊎ (is_some t.max_ack_delay ≡ true)
    go None none quiet = inl (send_case (counted.due && is_filled counted.runs) refl quiet)
    go (Some moment) set quiet = elim (c.waits (c.counted (ap (λ (o : Option ℕ). is_some o) set))) [ inl due ↦ inl (or_left p.due _ due) | inr timer ↦ inr timer ]

packet_comes : (delay : ℕ) (asks : Bool) (t : Timers) (p : Pending) (now n : ℕ) (s : Seen) → AckComes p t.max_ack_delay → AckComes (after_packet p now n asks s) (timers_after delay t p now n asks s).max_ack_delay
packet_comes delay true t p now n s c = asking_comes delay t p now n s (starts_wait (asking_counted p n s)) refl c
packet_comes delay false t p now n s c = c

-- acknowledged and lost packets change neither
settling : Settling IsAwaited
settling (steps.known n) e i = i
settling s e i = i

-- an end that is asked anew how often to acknowledge, or to do so at once, counts on
anew_comes : (p q : Pending) (timer : Option ℕ) → AsksAnew p q → AckComes p timer → AckComes q timer
anew_comes p q timer anew c = record {
  waits = λ some. elim (c.waits (subst (λ (k : ℕ). 0 < k) (ap (λ (a : Pending). a.asking) anew.others) some)) [ inl due ↦ inl (anew.due due) | inr set ↦ inr set ];
  counted = λ set. subst (λ (k : ℕ). 0 < k) (sym (ap (λ (a : Pending). a.asking) anew.others)) (c.counted (ap (λ (a : Pending). is_some a.since) (sym anew.others) ∙ set));
  known = λ set. ap (λ (a : Pending). is_some a.since) anew.others ∙ c.known set;
}

-- a frame apart from streams leaves what is counted, and the timer
apart_awaited : (f : FrameValue) (e : End) → IsApart f → IsAwaited e → IsAwaited (take_frame f e).end
apart_awaited f e is i = apart_leaves (λ (x : End). AsksAnew e.acknowledging x.acknowledging → IsAwaited x) f e is (λ c anew. still anew) (λ c most anew. still anew) (apart_acks f e is)
  where
    still : {p : Pending} → AsksAnew e.acknowledging p → e.closing.state ≡ states.Open → AckComes p e.timers.max_ack_delay
    still {p = p} anew opened = anew_comes e.acknowledging p e.timers.max_ack_delay anew (i opened)

-- what waits is as it was
still_comes : (e : End) → IsAwaited e → {p : Pending} → p ≡ e.acknowledging → e.closing.state ≡ states.Open → AckComes p e.timers.max_ack_delay
still_comes e i same opened = subst (λ (q : Pending). AckComes q e.timers.max_ack_delay) (sym same) (i opened)

receives : Receives IsAwaited
receives = record {
  notes = λ n e i. i;
  begins = λ now n e i. i;
  frame = frame_keeps IsAwaited (record { ack = λ rises a e i. acked_keeps IsAwaited settling rises a (named a e) i; on_streams = λ f e on i. frame_leaves IsAwaited f e on (λ t. i); apart = apart_awaited; message = λ m e i. i });
  takes = λ n asks urged mark e i. by_taken IsAwaited n asks urged mark e (λ idle alive opened.
      packet_comes e.frequency.own_delay asks e.timers (with_due urged (after_insert e.acknowledging n e.closing.clock)) e.closing.clock n e.numbers.opened (more_due urged e.acknowledging e.timers.max_ack_delay (i opened)));
  closes = λ reason e i. closed_awaited reason e;
  drains = λ close e i opened. cc;
  asks_close = λ e i. i;
  exhausts = λ now e i. closed_awaited reasons.KeyLimit (with_closing e (ticked e.closing now));
  draws = λ words e i. i;
  moves = λ p o remote e i. by_migrated (λ (x : End). x.acknowledging ≡ e.acknowledging → IsAwaited x) p o remote e (λ c. still_comes e i) (λ c most. still_comes e i) (moved_acks p o remote e);
}

-- ---- a poll

-- an acknowledgement may become due where something goes
lazied_awaited : (leaving : Leaving) (e : End) → IsAwaited e → IsAwaited (lazied_as leaving e)
lazied_awaited whole e i opened = more_due (nat_lt lazy_threshold e.acknowledging.silent) e.acknowledging e.timers.max_ack_delay (i opened)
lazied_awaited alone e i opened = more_due (nat_lt lazy_threshold e.acknowledging.silent) e.acknowledging e.timers.max_ack_delay (i opened)
lazied_awaited other e i opened = i opened

-- an ACK that goes answers all, and no other frame changes what is awaited
draft_awaited : (leaving : Leaving) (e : End) → MayLeave leaving e → IsAwaited e → IsAwaited (draft_as leaving e).end
draft_awaited leaving e due i = by_leave (λ (d : Draft). IsAwaited d.end) keep leaving e due (lazied_awaited leaving e i)
  where
    keep : Writing (λ (d : Draft). IsAwaited d.end)
    keep puts.ack d may i = λ opened. record { waits = λ some. absurd (omega arith); counted = λ some. cc; known = λ set. cc }
    keep p d may i = i

ready_awaited : (e : End) (now : ℕ) → IsAwaited e → IsAwaited (ready_at e now).end
ready_awaited e now i = subst (λ (x : End). IsAwaited x) (sym (ready_leaves e now)) i

polled_awaited : (p : Policy) (e : End) (now : ℕ) → IsAwaited e → IsAwaited (polled p e now).end
polled_awaited p e now i = by_poll_to p e now (λ (q : Polled). IsAwaited q.end) (record {
  silent = i;
  failed = i;
  nothing = λ is none. ready_awaited e now i;
  repeats = λ is. by_closes p (with_closing e (ticked e.closing now)) (λ (q : Polled). IsAwaited q.end) (λ opened. let clash : states.Closing ≡ states.Open = sym is ∙ opened in cc) (λ f goes opened. let clash : states.Closing ≡ states.Open = sym is ∙ opened in cc);
  closes = λ reason bound. by_closes p (closed_by reason (ready_at e now).end) (λ (q : Polled). IsAwaited q.end) (closed_awaited reason (ready_at e now).end) (λ f goes opened. cc);
  gives = λ is may some. by_going IsAwaited p (draft_at e now) (λ pacing. draft_awaited (ready_at e now).leaving (ready_at e now).end (may_leave_at e now) (ready_awaited e now i));
})

-- ---- any call

-- losses change neither
judged_awaited : (o : Option ℕ) (e : End) → IsAwaited e → IsAwaited (loss_judged o e)
judged_awaited None e i = i
judged_awaited (Some moment) e i = losses_keep IsAwaited settling e i

-- where the timer of acknowledgements expires, one is due
expires_awaited : (s : Expired) (e : End) → IsAwaited e → IsAwaited (expiring.after s e)
expires_awaited expiring.of_acks e i opened = record { waits = λ some. inl (lt-ltb 0 e.acknowledging.asking some); counted = (i opened).counted; known = λ set. cc }
expires_awaited s e i opened = i opened

expired_awaited : (words : ℕ → ℕ) (e : End) (now : ℕ) (expiry : Expiry) → IsAwaited e → IsAwaited (at_expiry words e now expiry)
expired_awaited words e now expiry i =
    by_timers words IsAwaited IsAwaited judged_awaited expires_awaited (λ f j. j) (λ f j opened. cc) expiry (with_closing e (ticked e.closing now)) i

pub call_awaited : (p : Policy) (e : End) (theirs : List (List ℕ)) (call : Call) (a : Answer) → IsAwaited e → IsAwaited (after_call p e theirs call a)
call_awaited p e theirs call a i = by_plain_call p e theirs IsAwaited call a cases_keep
  where
    cases_keep : Plain p e call IsAwaited
    cases_keep (cases.times now expiry) may = expired_awaited p.words e now expiry i
    cases_keep (cases.polls now) may = polled_awaited p e now i
    cases_keep (cases.hears arrival d) may = by_received IsAwaited receives p e arrival d i
    cases_keep (cases.closes reason f now) may = λ opened. cc
    cases_keep (cases.waits now b) may = by_waits IsAwaited b (with_closing e (ticked e.closing now)) (λ opened. cc) i
    cases_keep (cases.changes_id b) may = by_next_id (λ (x : End). x.acknowledging ≡ e.acknowledging → IsAwaited x) e b (λ same. i) (λ c. still_comes e i) (λ c most. still_comes e i) (next_acks e b)
    cases_keep c may = i

-- ---- a run

-- nothing came yet
pub first_comes : AckComes none_pending None
first_comes = record { waits = λ some. absurd (omega arith); counted = λ some. cc; known = λ set. cc }

starts_awaited : (w : World) → AreStarted w → AtBoth IsAwaited w
starts_awaited w s = (
  subst (λ (e : End). IsAwaited e) (sym (start_is w s Client)) (λ opened. first_comes),
  subst (λ (e : End). IsAwaited e) (sym (start_is w s Server)) (λ opened. first_comes),
)

-- so it is at both ends, wherever a run leads
pub acks_awaited_run : (k : Policies) (w end : World) (events : List RunEvent) (told : List Answer) (views : List View) → AreStarted w → Follows k w events told views end → AtBoth IsAwaited end
acks_awaited_run k w end events told views s f = run_keeps IsAwaited (record {
  call = call_awaited;
  shows = λ window blocked e i. i;
  paces = λ pacing e i. i;
  stops = λ e next is opened. let clash : states.Failed ≡ states.Open = sym is.0 ∙ opened in cc;
}) k w end events told views f (starts_awaited w s)
