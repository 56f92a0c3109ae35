-- What calls make of the state of an end and of its timers: one that isn't open has none set, but
-- for that of its close while it is closing, which stays.
use Rattle.std.proofs.Common.{◌≡◌, ℕ, zero, suc, ◌+◌, ◌≤◌, max, Bool, true, false, not, ◌&&◌, ◌||◌, ◌==◌, List, [], ◌∷◌, take, slice_get, Option, Some, None, Result, Ok, Err, refl, sym, ap, ◌∙◌, subst, arith}
use Rattle.std.specs.Prelude.{if◌then◌else◌}
use Rattle.std.specs.declared.ops.Range.{Range}
use Rattle.quic_wire_core.specs.declared.shared.EcnCodepoint.{EcnCodepoint}
use Rattle.quic_wire_core.specs.declared.stream_id.Side.{Side}
use Rattle.quic_wire_core.specs.declared.stream_id.Side.TheVariants.{Client, Server}
use Rattle.quic_wire.specs.Items.{items}
use Rattle.quic_wire.specs.Value.{FrameValue}
use Rattle.quic_wire.specs.declared.frame.InvalidFrame.{InvalidFrame}
use Rattle.quic_packet.specs.Header.{key_phase, reserved_bits}
use Rattle.quic_packet.specs.Datagram.{Opening}
use Rattle.quic_recovery_core.specs.Duplicates.{is_duplicate}
use Rattle.quic_time.specs.Clocks.{saturated}
use Rattle.quic_time.specs.Timers.{Timers, no_timers, each_timer, has_come}
use Rattle.quic_time.specs.declared.timer.Timer.TheVariants.{Close}
use Rattle.quic_spaces.specs.Numbers.{number_opened}
use Rattle.quic_machine.specs.Arrival.{Arrival, delivered_by, injected_by}
use Rattle.quic_machine.specs.declared.answers.State.{State}
use Rattle.quic_machine.specs.declared.answers.State.TheVariants as states
use Rattle.quic_machine.specs.declared.answers.DropReason.{DropReason}
use Rattle.quic_machine.specs.declared.answers.DropReason.TheVariants as drops
use Rattle.quic_machine.specs.declared.answers.LostReason.{LostReason}
use Rattle.quic_machine.specs.declared.answers.LostReason.TheVariants as reasons
use Rattle.quic_machine.specs.declared.run.RunEvent.{RunEvent}
use Rattle.quic_machine.specs.declared.run.CloseCall.{CloseCall}
use Rattle.quic_machine.specs.declared.run.Injection.{Injection}
use Rattle.quic_machine.specs.declared.run.Call.{Call}
use Rattle.quic_machine.specs.declared.run.Call.TheVariants as calls
use Rattle.quic_machine.specs.declared.run.Answer.{Answer}
use Rattle.quic_machine.specs.declared.run.Answer.TheVariants as answers
use Rattle.quic_machine.specs.declared.run.EndView.{EndView}
use Rattle.quic_machine.specs.declared.run.View.{View}
use Rattle.quic_machine.specs.Policy.{Policy}
use Rattle.quic_machine.specs.Ids.{next_used, retires_for_next}
use Rattle.quic_machine.specs.Closing.{Closing, ticked}
use Rattle.quic_machine.specs.Heard.{Heard}
use Rattle.quic_machine.specs.Validation.{is_blocked, with_blocked}
use Rattle.quic_machine.specs.Control.{Control}
use Rattle.quic_machine.specs.Sizes.{without_longer_if, shortened}
use Rattle.quic_machine.specs.MessageCalls.{most_message}
use Rattle.quic_machine.specs.IdFrames.{retiring, next_id_taken, end_on_next_id}
use Rattle.quic_machine.specs.End.{End, with_closing, with_numbers, with_ids, with_window, with_loss_timer, three_timeouts, closed_by}
use Rattle.quic_machine.specs.Opens.{head, would_open}
use Rattle.quic_machine.specs.Calls.{is_open, closed_in}
use Rattle.quic_machine.specs.Migration.{migrates, migrated}
use Rattle.quic_machine.specs.Receive.{Fault, broke, too_many_pieces, closed_by_peer, reason_of, violation, is_empty, asks_in, is_urged, take_frame, take_items, take_payload, dropped, ends_as, by_state, opened_to, opened_as, opening, headed, received_in, is_read, drawn_if, with_ids_drawn, is_taken, migrated_if, items_taken, unopened_in}
use Rattle.quic_machine.specs.Poll.{Polled, polled_in, polled, draft_as}
use Rattle.quic_machine.specs.Timeouts.{expiry_at, loss_judged, close_expired, timed_out_in, timed_out}
use Rattle.quic_machine.specs.Machine.{World, Policies, HasStopped, IsLeft, IsStep, end_at, view_of, after_call, after_delivered, after_injected_if, end_left, says_last, fails, Follows}
use Rattle.quic_machine.specs.FrameCases.{Settling, named, acked_keeps, losses_keep, frame_keeps, frame_leaves, items_keep, apart_leaves}
use Rattle.quic_machine.specs.Steps as steps
use Rattle.quic_machine.specs.CallCases.{by_done}
use Rattle.quic_machine.specs.LeaveCases.{Expired, by_timers, by_event}
use Rattle.quic_machine.specs.LeaveCases as expiring
use Rattle.quic_machine.specs.PollCases.{PollChange, at_poll, after_draft, by_poll, composes}
use Rattle.quic_headline.specs.Runs.{Run, LeadsTo, state_in, state_behind}
use Rattle.quic_headline.specs.Observer.{clock_behind}
use Rattle.quic_headline.specs.Headline.{IsHonest, IsRun}
use Rattle.quic_headline.specs.Moments.{timers_in}
use Rattle.quic_headline.specs.Polls.{end_in, seen_of, seen_behind}
use Rattle.quic_headline.specs.Views.{place}
use Rattle.quic_headline.specs.Expiring.{timer_in, HasOnlyClose, ClosedTimers, moment_told, IsOfItself, CloseMomentsStay}
use Rattle.quic_headline.proofs.Packets.Closes.{by_closes, closes_left}
use Rattle.quic_headline.proofs.Packets.Heard.{by_taken}
use Rattle.quic_headline.proofs.Packets.Moved.{by_migrated}
use Rattle.quic_headline.proofs.Packets.Probes.{may_leave}
use Rattle.quic_headline.proofs.Places.Moments.{last_view, last_seen, state_shown}
use Rattle.quic_headline.proofs.Places.Placed.{start_is}
use Rattle.quic_headline.proofs.Held.Behind.{last_step}
use Rattle.quic_headline.proofs.Sizes.Moves.{did_there}
use Rattle.quic_headline.proofs.Steps.Windows.{first_lead}
use Rattle.quic_headline.proofs.Timers.BothEnds.{follows_keep}
use Rattle.quic_headline.proofs.Timers.Watched.{timers_shown}

-- ---- what a call makes of an end

-- of some timers that of a close alone is set
abbrev pub close_alone : ℕ → Timers
close_alone moment = record no_timers { close = Some moment }

-- What becomes of the state and the timers of an end, for which three probe timeouts are so long,
-- by a call that tells this moment or none.
pub data Turns (told : Option ℕ) (before : Closing) (set : Timers) (long : ℕ) (after : Closing) (left : Timers) : Type 0 where
  -- it stays open
  stays_open : before.state ≡ states.Open → after.state ≡ states.Open → Turns told before set long after left
  -- it stays as it was, and so do its timers
  stays_so : after.state ≡ before.state → left ≡ set → Turns told before set long after left
  -- it closes; where it does of itself, it is closing from the moment that the call tells
  closes_now : (reason : LostReason) (moment : ℕ) → before.state ≡ states.Open → after.state ≡ states.Closing → after.reason ≡ Some reason → left ≡ close_alone moment
      → (IsOfItself (Some reason) → moment ≡ saturated (clock_behind before.clock told + long)) → Turns told before set long after left
  -- it is drained at once
  drained_now : before.state ≡ states.Open → after.state ≡ states.Drained → left ≡ no_timers → Turns told before set long after left
  -- it was closing for long enough
  closed_long : before.state ≡ states.Closing → after.state ≡ states.Drained → left ≡ no_timers → has_come set.close after.clock ≡ true → Turns told before set long after left

-- so it is of an end, which takes over no later moment
abbrev pub Goes : Option ℕ → End → End → Type 0
Goes told e f = (f.closing.clock ≤ clock_behind e.closing.clock told) × Turns told e.closing e.timers (three_timeouts e) f.closing f.timers

le_self : (n : ℕ) → n ≤ n
le_self n = omega arith

-- a clock doesn't step back
clock_kept : (n : ℕ) (told : Option ℕ) → n ≤ clock_behind n told
clock_kept n None = omega arith
clock_kept n (Some now) = omega arith

-- nothing changed
goes_same : (told : Option ℕ) (e : End) → Goes told e e
goes_same told e = (clock_kept e.closing.clock told, stays_so refl refl)

-- an end took this moment over, and is as open as it was
abbrev HasTicked : End → ℕ → End → Type 0
HasTicked e now x = x.closing ≡ ticked e.closing now

-- what an ACK frame does leaves that
settling : (e : End) (now : ℕ) → Settling (HasTicked e now)
settling e now (steps.known n) x i = i
settling e now s x i = i

module _ (e : End) (now : ℕ) where
  ticked_clock : (x : End) → HasTicked e now x → x.closing.clock ≤ clock_behind e.closing.clock (Some now)
  ticked_clock x i = subst (λ (c : Closing). c.clock ≤ max e.closing.clock now) (sym i) (le_self (max e.closing.clock now))

  module _ (here : e.closing.state ≡ states.Open) where
    goes_open : (x : End) → HasTicked e now x → Goes (Some now) e x
    goes_open x i = (ticked_clock x i, stays_open here (ap (λ (c : Closing). c.state) i ∙ here))

    -- it closes, for something else than of itself
    closes_for : (reason : LostReason) → (IsOfItself (Some reason) → ⊥) → (x : End) → HasTicked e now x → Goes (Some now) e (closed_by reason x)
    closes_for reason other x i = (ticked_clock x i, closes_now reason (saturated (x.closing.clock + three_timeouts x)) here refl refl refl (λ own. absurd (other own)))

-- ---- a datagram

module _ (e : End) (arrival : Arrival) where
  -- what becomes of the end by it
  abbrev Comes : End → Type 0
  Comes x = Goes (Some arrival.now) e x

  abbrev Reads : End → Type 0
  Reads x = HasTicked e arrival.now x

  frame_reads : (f : FrameValue) (x : End) → Reads x → Reads (take_frame f x).end
  frame_reads = frame_keeps (HasTicked e arrival.now) (record {
    ack = λ rises a x i. acked_keeps (HasTicked e arrival.now) (settling e arrival.now) rises a (named a x) i;
    on_streams = λ f x on i. frame_leaves (HasTicked e arrival.now) f x on (λ t. i);
    apart = λ f x is i. apart_leaves (HasTicked e arrival.now) f x is (λ c. i) (λ c most. i);
    message = λ m x i. i;
  })

  payload_reads : (first : ℕ) (is : List (Result FrameValue InvalidFrame)) (x : End) → Reads x → Reads (take_payload first is x).end
  payload_reads first is x i = go (not (reserved_bits first == 0) || is_empty is)
    where
      go : (b : Bool) → Reads (if b then record { end = x; fault = Some violation } else take_items is x).end
      go true = i
      go false = items_keep (HasTicked e arrival.now) frame_reads is x i

  -- all frames were taken, the peer closed, or one was at fault
  ends_goes : e.closing.state ≡ states.Open → (fault : Option Fault) (asking urged : Bool) (n : ℕ) (mark : Option EcnCodepoint) (x : End) → Reads x → Comes (ends_as fault asking urged n mark x).end
  ends_goes here None asking urged n mark x i = by_taken (λ (y : End). Goes (Some arrival.now) e y) n asking urged mark x (λ idle alive. (ticked_clock e arrival.now x i, stays_open here (ap (λ (c : Closing). c.state) i ∙ here)))
  ends_goes here (Some (closed_by_peer close)) asking urged n mark x i = (ticked_clock e arrival.now x i, drained_now here refl refl)
  ends_goes here (Some (broke error)) asking urged n mark x i = closes_for e arrival.now here (reason_of (broke error)) (λ own. own) x i
  ends_goes here (Some too_many_pieces) asking urged n mark x i = closes_for e arrival.now here (reason_of too_many_pieces) (λ own. own) x i

  -- a packet whose number is new
  abbrev noted : Opening → End
  noted o = with_numbers e (number_opened e.numbers o.number)

  state_goes : (s : State) (o : Opening) → e.closing.state ≡ s → Comes (by_state s o arrival (noted o)).end
  state_goes states.Open o here =
      let begins : End = with_closing (noted o) (ticked (noted o).closing arrival.now) in
      let is = items_taken o arrival e in
      let asking = asks_in (items o.payload) in
      let taken = take_payload o.first is begins in
      ends_goes here taken.fault asking (is_urged arrival.mark asking is begins) o.number arrival.mark taken.end (payload_reads o.first is begins refl)
  state_goes states.Closing o here = (clock_kept e.closing.clock (Some arrival.now), stays_so refl refl)
  state_goes states.Drained o here = (clock_kept e.closing.clock (Some arrival.now), stays_so refl refl)
  state_goes states.Failed o here = (clock_kept e.closing.clock (Some arrival.now), stays_so refl refl)

  opened_goes : (o : Opening) → Comes (opened_to o arrival e).end
  opened_goes o = go (key_phase o.first) (is_duplicate e.numbers.opened o.number)
    where
      go : (phase again : Bool) → Comes (if phase then dropped drops.KeyPhase e else (if again then dropped drops.Duplicate e else by_state e.closing.state o arrival (noted o))).end
      go true again = goes_same (Some arrival.now) e
      go false true = goes_same (Some arrival.now) e
      go false false = state_goes e.closing.state o refl

  -- ids that are drawn change neither
  drawn_goes : (b : Bool) (p : Policy) (x : End) → Comes x → Comes (drawn_if b p x)
  drawn_goes true p x i = i
  drawn_goes false p x i = i

  -- an end whose path changes stays open, and so does that clock
  moved_open : (p : Policy) (o : Opening) (x : End) → Comes x → x.closing.state ≡ states.Open → Comes (migrated p o arrival.remote x)
  moved_open p o x i opened = by_migrated (λ (y : End). Goes (Some arrival.now) e y) p o arrival.remote x (λ c. (i.0, stays_open (still_open i.1) opened)) (λ c most. (i.0, stays_open (still_open i.1) opened))
    where
      -- one that is open was so before
      still_open : Turns (Some arrival.now) e.closing e.timers (three_timeouts e) x.closing x.timers → e.closing.state ≡ states.Open
      still_open (stays_open was is) = was
      still_open (stays_so same timers) = sym same ∙ opened
      still_open (closes_now reason moment was is why timers own) = was
      still_open (drained_now was is timers) = was
      still_open (closed_long was is timers come) = (let clash : states.Drained ≡ states.Open = sym is ∙ opened in cc)

  -- only that of an open end does
  migrated_goes : (o : Opening) (p : Policy) (x : End) (taken : Bool) → Comes x → Comes (migrated_if (migrates o arrival.remote e && (taken && is_open x.closing.state)) p o arrival.remote x)
  migrated_goes o p x taken i = go (migrates o arrival.remote e) taken x.closing.state refl
    where
      go : (a b : Bool) (s : State) → x.closing.state ≡ s → Comes (migrated_if (a && (b && is_open s)) p o arrival.remote x)
      go true true states.Open opened = moved_open p o x i opened
      go true true states.Closing is = i
      go true true states.Drained is = i
      go true true states.Failed is = i
      go true false s is = i
      go false b s is = i

  -- one that doesn't open may be the last that may not
  unopened_goes : (s : State) (b : Bool) → e.closing.state ≡ s → Comes (unopened_in s b arrival e).end
  unopened_goes states.Open true here = (le_self (max e.closing.clock arrival.now), closes_now reasons.KeyLimit (saturated (max e.closing.clock arrival.now + three_timeouts e)) here refl refl refl (λ own. refl))
  unopened_goes states.Open false here = goes_same (Some arrival.now) e
  unopened_goes states.Closing b here = goes_same (Some arrival.now) e
  unopened_goes states.Drained b here = goes_same (Some arrival.now) e
  unopened_goes states.Failed b here = goes_same (Some arrival.now) e

  packet_goes : (o : Option Opening) (p : Policy) → Comes (opened_as o p arrival e).end
  packet_goes None p = unopened_goes e.closing.state arrival.last refl
  packet_goes (Some o) p =
      let out = with_ids_drawn p (opened_to o arrival e) in
      migrated_goes o p out.end (is_taken out.answer) (drawn_goes (is_read (opened_to o arrival e).answer) p (opened_to o arrival e).end (opened_goes o))

  headed_goes : (r : Result (List ℕ) DropReason) (p : Policy) (d : List ℕ) → Comes (headed r p e arrival d).end
  headed_goes (Err error) p d = goes_same (Some arrival.now) e
  headed_goes (Ok id) p d = packet_goes (opening p e d) p

  received_goes : (s : State) (p : Policy) (d : List ℕ) → Comes (received_in s p e arrival d).end
  received_goes states.Failed p d = goes_same (Some arrival.now) e
  received_goes states.Drained p d = goes_same (Some arrival.now) e
  received_goes states.Open p d = headed_goes (head e arrival.remote d) p d
  received_goes states.Closing p d = headed_goes (head e arrival.remote d) p d

  -- there is such a datagram or not
  delivered_goes : (o : Option (List ℕ)) (p : Policy) → Comes (after_delivered p e arrival o)
  delivered_goes None p = goes_same (Some arrival.now) e
  delivered_goes (Some d) p = received_goes e.closing.state p d

-- bytes that are handed in open, and no call is made, or they don't
injected_goes : (b is_last : Bool) (p : Policy) (e : End) (injection : Injection) → Goes (Some injection.now) e (after_injected_if b is_last p e injection)
injected_goes true is_last p e injection = goes_same (Some injection.now) e
injected_goes false is_last p e injection = received_goes e (injected_by is_last injection) e.closing.state p injection.bytes

-- ---- a poll

module _ (p : Policy) (e : End) (now : ℕ) where
  abbrev Gives : End → Type 0
  Gives x = Goes (Some now) e x

  -- an open end closes where numbers or the key are used up
  open_polled : e.closing.state ≡ states.Open → Gives (polled p e now).end
  open_polled here = by_poll p e now (λ (q : Polled). Goes (Some now) e q.end) (record {
    silent = goes_same (Some now) e;
    failed = goes_same (Some now) e;
    nothing = λ c. goes_open e now here (at_poll e now c) refl;
    repeats = λ is. (let clash : states.Open ≡ states.Closing = sym here ∙ is in cc);
    closes = λ reason c bound. by_closes p (closed_by reason (at_poll e now c)) (λ (q : Polled). Goes (Some now) e q.end) (shuts reason c true) (λ f goes. shuts reason c false);
    gives = λ leaving c left still may ready some. goes_open e now here (after_draft p (draft_as leaving (at_poll e now c)) left) (composes leaving (at_poll e now c) (may_leave e now leaving (at_poll e now c) ready)).closing;
  })
    where
      -- its close went then, or is still owed
      shuts : (reason : LostReason) (c : PollChange) (owed : Bool) → let x = closed_by reason (at_poll e now c) in Gives (with_closing x (record x.closing { owed = owed }))
      shuts reason c owed = (le_self (max e.closing.clock now), closes_now reason (saturated (max e.closing.clock now + three_timeouts e)) here refl refl refl (λ own. refl))

  polled_goes : Gives (polled p e now).end
  polled_goes = go e.closing.state refl
    where
      repeats : (owed : Bool) → Gives (with_closing e (record (ticked e.closing now) { owed = owed }))
      repeats owed = (le_self (max e.closing.clock now), stays_so refl refl)

      go : (s : State) → e.closing.state ≡ s → Gives (polled_in s p e now).end
      go states.Open here = subst (λ (s : State). Gives (polled_in s p e now).end) here (open_polled here)
      go states.Closing here = closes_left p (with_closing e (ticked e.closing now)) (λ (x : End). Goes (Some now) e x) (repeats e.closing.owed) (λ f goes. repeats false)
      go states.Drained here = goes_same (Some now) e
      go states.Failed here = goes_same (Some now) e

  -- ---- a timeout

  judged_ticks : (o : Option ℕ) (x : End) → HasTicked e now x → HasTicked e now (loss_judged o x)
  judged_ticks None x i = i
  judged_ticks (Some moment) x i = losses_keep (HasTicked e now) (settling e now) x i

  expires_ticks : (s : Expired) (x : End) → HasTicked e now x → HasTicked e now (expiring.after s x)
  expires_ticks expiring.of_acks x i = i
  expires_ticks s x i = i

  timed_goes : Gives (timed_out p e now).end
  timed_goes = go e.closing.state refl
    where
      waits : e.closing.state ≡ states.Closing → (b : Bool) → has_come e.timers.close (max e.closing.clock now) ≡ b → Gives (close_expired b (with_closing e (ticked e.closing now)))
      waits here true come = (le_self (max e.closing.clock now), closed_long here refl refl come)
      waits here false come = (le_self (max e.closing.clock now), stays_so refl refl)

      go : (s : State) → e.closing.state ≡ s → Gives (timed_out_in s p e now).end
      go states.Open here = by_timers p.words (HasTicked e now) (λ (x : End). Goes (Some now) e x) judged_ticks expires_ticks (λ x i. goes_open e now here (with_loss_timer x) i) (λ x i. (ticked_clock e now x i, drained_now here refl refl))
          (expiry_at (ticked e.closing now).clock e.timers) (with_closing e (ticked e.closing now)) refl
      go states.Closing here = waits here (has_come e.timers.close (max e.closing.clock now)) refl
      go states.Drained here = goes_same (Some now) e
      go states.Failed here = goes_same (Some now) e

-- ---- any call

-- the application closes an end that is open
closed_goes : (s : State) (e : End) (close : CloseCall) → e.closing.state ≡ s → Goes (Some close.now) e (closed_in s close.now close.error_code close.reason e)
closed_goes states.Open e close here = (le_self (max e.closing.clock close.now), closes_now reasons.Application (saturated (max e.closing.clock close.now + three_timeouts e)) here refl refl refl (λ own. refl))
closed_goes states.Closing e close here = goes_same (Some close.now) e
closed_goes states.Drained e close here = goes_same (Some close.now) e
closed_goes states.Failed e close here = goes_same (Some close.now) e

-- Nothing changed of the state and the timers.
record AreLeft (e f : End) : Type 0 where
  closing : f.closing ≡ e.closing
  timers : f.timers ≡ e.timers

left_goes : (e f : End) → AreLeft e f → Goes None e f
left_goes e f left = (subst (λ (c : Closing). c.clock ≤ e.closing.clock) (sym left.closing) (le_self e.closing.clock), stays_so (ap (λ (c : Closing). c.state) left.closing) left.timers)

-- the next id of the peer is used, or it isn't
next_left : (e : End) (a : Answer) → AreLeft e (end_on_next_id e a)
next_left e (answers.UseNextId (Ok done)) = taken (retires_for_next e.ids)
  where
    lasts : (o : Option ℕ) (x : End) → AreLeft e x → AreLeft e (without_longer_if o x)
    lasts None x i = i
    lasts (Some most) x i = record { closing = i.closing; timers = i.timers }

    fits : (b : Bool) (x : End) → AreLeft e x → AreLeft e (shortened b x)
    fits true x i = lasts (most_message x) x i
    fits false x i = i

    taken : (o : Option (Range ℕ)) → AreLeft e (next_id_taken o e)
    taken None = record { closing = refl; timers = refl }
    taken (Some r) = fits _ (retiring r (with_ids e (next_used e.ids))) (record { closing = refl; timers = refl })
next_left e a = record { closing = refl; timers = refl }

pub call_goes : (p : Policy) (e : End) (theirs : List (List ℕ)) (call : Call) (a : Answer) → Goes (moment_told call) e (after_call p e theirs call a)
call_goes p e theirs (calls.Close close) a = closed_goes e.closing.state e close refl
call_goes p e theirs calls.UseNextId a = left_goes e (end_on_next_id e a) (next_left e a)
call_goes p e theirs calls.HandshakeDone a = by_done (λ (x : End). Goes None e x) e a (goes_same None e) (goes_same None e)
call_goes p e theirs (calls.Poll now) a = polled_goes p e now
call_goes p e theirs (calls.Timeout now) a = timed_goes p e now
call_goes p e theirs (calls.Deliver delivery) a = delivered_goes e (delivered_by (says_last a) delivery) (slice_get theirs delivery.index) p
call_goes p e theirs (calls.Inject injection) a = injected_goes (would_open p e injection.remote injection.bytes) (says_last a) p e injection
call_goes p e theirs calls.Event a = by_event e (λ (x : End). Goes None e x) (goes_same None e) (goes_same None e) (λ told. (le_self e.closing.clock, stays_so refl refl))
call_goes p e theirs call a = goes_same None e

-- ---- a step of a run

-- What a step does at one of the ends, by what its call tells and whether it fails.
pub data Does (told : Option ℕ) (failed : Bool) (e f : End) : Type 0 where
  -- the other end is called
  is_apart : f ≡ e → Does told failed e f
  -- the end is called, and fails
  has_stopped : HasStopped e f → Does told failed e f
  -- it is called
  is_called : Goes told e f → Does told failed e f

-- whatever a poll reads
end_goes : (p : Policy) (control : Control) (heard : Heard) (e : End) (theirs : List (List ℕ)) (call : Call) (a : Answer) → Goes (moment_told call) e (end_left p control heard e theirs call a)
end_goes p control heard e theirs (calls.Poll now) a = polled_goes p (with_blocked (with_window e (control [])) (is_blocked e heard)) now
end_goes p control heard e theirs call a = call_goes p e theirs call a

pub step_does : (side : Side) (k : Policies) (w next : World) (event : RunEvent) (a : Answer) → IsStep k w event a next → Does (moment_told event.call) (fails a) (end_at side w) (end_at side next)
step_does side k w next event a step = go event.side event.call side step
  where
    left : (b : Bool) (p : Policy) (control : Control) (heard : Heard) (e f : End) (theirs : List (List ℕ)) (call : Call) → IsLeft b p control heard e theirs call a f → Does (moment_told call) b e f
    left true p control heard e f theirs call is = has_stopped is
    left false p control heard e f theirs call is = is_called (subst (λ (x : End). Goes (moment_told call) e x) (sym is) (end_goes p control heard e theirs call a))

    go : (at : Side) (call : Call) (side : Side) → IsStep k w (record { side = at; call = call }) a next → Does (moment_told call) (fails a) (end_at side w) (end_at side next)
    go Client call Client s = left (fails a) k.client w.client_control w.client_heard w.client next.client w.from_server call s.end
    go Server call Server s = left (fails a) k.server w.server_control w.server_heard w.server next.server w.from_client call s.end
    go Client call Server s = is_apart (ap (λ (v : World). v.server) s.others)
    go Server call Client s = is_apart (ap (λ (v : World). v.client) s.others)

-- ---- a view of a run

-- What a run does at a place: the ends before and behind the event there, and that the view shows
-- them.
pub record Happens (r : Run) (i : ℕ) (v : View) : Type 0 where
  pub event : RunEvent
  pub answer : Answer
  pub before : World
  pub behind : World
  pub leads : LeadsTo r i before
  pub step : IsStep r.keys before event answer behind
  pub shown : v ≡ view_of behind

-- whether or not memory served up to there
pub happens : (r : Run) (end : World) → IsRun r end → (i : ℕ) (v : View) → slice_get r.views i ≡ Some v → Happens r i v
happens r end run i v there =
    let lead = first_lead (suc i) r.keys r.start r.events r.answers r.views end run.follows in
    let did = did_there i r.keys r.start end r.events r.answers r.views v run.follows there in
    let last = last_step r.keys i r.start lead.0 r.events r.answers r.views did.event did.answer did.at_event did.at_answer lead.1 in
    record { event = did.event; answer = did.answer; before = last.before; behind = lead.0; leads = last.leads; step = last.step; shown = last_view r.keys i r.start lead.0 r.events r.answers r.views v lead.1 there }

-- the state that views show is that of what is seen
state_same : (side : Side) (v : View) → state_in v side ≡ (end_in v side).state
state_same Client v = refl
state_same Server v = refl

states_seen : (side : Side) (seen : EndView) (i : ℕ) (views : List View) → state_behind side seen.state i views ≡ (seen_behind side seen i views).state
states_seen side seen zero views = refl
states_seen side seen (suc i) [] = refl
states_seen side seen (suc i) (v ∷ views) = ap (λ (s : State). state_behind side s i views) (state_same side v) ∙ states_seen side (end_in v side) i views

-- it is that of the end there
pub state_there : (side : Side) (k : Policies) (i : ℕ) (w end : World) (events : List RunEvent) (told : List Answer) (views : List View) → Follows k w (take i events) (take i told) (take i views) end
    → state_behind side (end_at side w).closing.state i views ≡ (end_at side end).closing.state
state_there side k i w end events told views f = states_seen side (seen_of side w) i views ∙ ap (λ (s : EndView). s.state) (last_seen side k i w end events told views f)

-- ---- of the timers of an end that isn't open that of its close alone is set

-- so it is of an end
abbrev IsShut : End → Type 0
IsShut e = HasOnlyClose e.closing.state (each_timer e.timers)

turns_shut : (told : Option ℕ) (e f : End) → Turns told e.closing e.timers (three_timeouts e) f.closing f.timers → IsShut e → IsShut f
turns_shut told e f (stays_open was is) i = subst (λ (s : State). HasOnlyClose s (each_timer f.timers)) (sym is) tt
turns_shut told e f (stays_so state timers) i = subst (λ (s : State). HasOnlyClose s (each_timer f.timers)) (sym state) (subst (λ (t : Timers). HasOnlyClose e.closing.state (each_timer t)) (sym timers) i)
turns_shut told e f (closes_now reason moment was is why timers own) i = subst (λ (s : State). HasOnlyClose s (each_timer f.timers)) (sym is) (record { moment = moment; alone = ap (λ (t : Timers). each_timer t) timers })
turns_shut told e f (drained_now was is timers) i = subst (λ (s : State). HasOnlyClose s (each_timer f.timers)) (sym is) (ap (λ (t : Timers). each_timer t) timers)
turns_shut told e f (closed_long was is timers come) i = subst (λ (s : State). HasOnlyClose s (each_timer f.timers)) (sym is) (ap (λ (t : Timers). each_timer t) timers)

-- an end that fails has none, and one that had failed is as it was
stopped_shut : (e f : End) → HasStopped e f → IsShut e → IsShut f
stopped_shut e f stops i = go e.closing.state refl
  where
    none : (e.closing.state ≡ states.Failed → ⊥) → IsShut f
    none before = subst (λ (s : State). HasOnlyClose s (each_timer f.timers)) (sym stops.0) (ap (λ (t : Timers). each_timer t) (stops.3 before))

    go : (s : State) → e.closing.state ≡ s → IsShut f
    go states.Failed here = subst (λ (x : End). IsShut x) (sym (stops.2 here)) i
    go states.Open here = none (λ failed. (let clash : states.Open ≡ states.Failed = sym here ∙ failed in cc))
    go states.Closing here = none (λ failed. (let clash : states.Closing ≡ states.Failed = sym here ∙ failed in cc))
    go states.Drained here = none (λ failed. (let clash : states.Drained ≡ states.Failed = sym here ∙ failed in cc))

does_shut : (told : Option ℕ) (failed : Bool) (e f : End) → Does told failed e f → IsShut e → IsShut f
does_shut told failed e f (is_apart same) i = subst (λ (x : End). IsShut x) (sym same) i
does_shut told failed e f (has_stopped stops) i = stopped_shut e f stops i
does_shut told failed e f (is_called goes) i = turns_shut told e f goes.1 i

-- and of both ends
abbrev AreShut : Policies → World → Type 0
AreShut k w = (side : Side) → IsShut (end_at side w)

step_shut : (k : Policies) (w next : World) (event : RunEvent) (a : Answer) → IsStep k w event a next → AreShut k w → AreShut k next
step_shut k w next event a step i side = does_shut (moment_told event.call) (fails a) (end_at side w) (end_at side next) (step_does side k w next event a step) (i side)

-- what a view shows of both
seen_shut : (side : Side) (w : World) → IsShut (end_at side w) → HasOnlyClose (state_in (view_of w) side) (timers_in (view_of w) side)
seen_shut Client w i = i
seen_shut Server w i = i

-- new ends are open
pub closed_timers : (r : Run) (end : World) → IsHonest r → IsRun r end → ClosedTimers r
closed_timers r end honest run side i v there =
    let h = happens r end run i v there in
    let before : AreShut r.keys h.before = follows_keep AreShut step_shut r.keys r.start h.before (take i r.events) (take i r.answers) (take i r.views) h.leads first in
    subst (λ (u : View). HasOnlyClose (state_in u side) (timers_in u side)) (sym h.shown) (seen_shut side h.behind (step_shut r.keys h.before h.behind h.event h.answer h.step before side))
  where
    first : AreShut r.keys r.start
    first other = subst (λ (e : End). IsShut e) (sym (start_is r.start honest.start other)) tt

-- ---- the timer of a close stays

turns_still : (told : Option ℕ) (e f : End) → Turns told e.closing e.timers (three_timeouts e) f.closing f.timers → e.closing.state ≡ states.Closing → f.closing.state ≡ states.Closing → f.timers ≡ e.timers
turns_still told e f (stays_open was is) closing still = let clash : states.Open ≡ states.Closing = sym was ∙ closing in cc
turns_still told e f (stays_so state timers) closing still = timers
turns_still told e f (closes_now reason moment was is why timers own) closing still = let clash : states.Open ≡ states.Closing = sym was ∙ closing in cc
turns_still told e f (drained_now was is timers) closing still = let clash : states.Open ≡ states.Closing = sym was ∙ closing in cc
turns_still told e f (closed_long was is timers come) closing still = let clash : states.Drained ≡ states.Closing = sym is ∙ still in cc

does_still : (told : Option ℕ) (failed : Bool) (e f : End) → Does told failed e f → e.closing.state ≡ states.Closing → f.closing.state ≡ states.Closing → f.timers ≡ e.timers
does_still told failed e f (is_apart same) closing still = ap (λ (x : End). x.timers) same
does_still told failed e f (has_stopped stops) closing still = let clash : states.Failed ≡ states.Closing = sym stops.0 ∙ still in cc
does_still told failed e f (is_called goes) closing still = turns_still told e f goes.1 closing still

pub close_moments_stay : (r : Run) (end : World) → IsHonest r → IsRun r end → CloseMomentsStay r
close_moments_stay r end honest run side i v there closing still =
    let h = happens r end run i v there in
    let was : (end_at side h.before).closing.state ≡ states.Closing = sym (state_there side r.keys i r.start h.before r.events r.answers r.views h.leads) ∙ closing in
    let is : (end_at side h.behind).closing.state ≡ states.Closing = sym (state_shown side h.behind) ∙ ap (λ (u : View). state_in u side) (sym h.shown) ∙ still in
    let same : (end_at side h.behind).timers ≡ (end_at side h.before).timers = does_still (moment_told h.event.call) (fails h.answer) (end_at side h.before) (end_at side h.behind) (step_does side r.keys h.before h.behind h.event h.answer h.step) was is in
    ap (λ (u : View). timer_in Close u side) h.shown
    ∙ ap (λ (ts : List (Option ℕ)). slice_get ts (place Close)) (timers_shown side h.behind ∙ ap (λ (t : Timers). each_timer t) same)
    ∙ sym (ap (λ (s : EndView). slice_get s.timers (place Close)) (last_seen side r.keys i r.start h.before r.events r.answers r.views h.leads))
