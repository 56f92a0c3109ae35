-- At an open end the loss timer is set to the moment of what is tracked, and is set exactly while a
-- packet that asks is: each call keeps that.
use Rattle.std.proofs.Common.{◌≡◌, ℕ, ◌+◌, ◌≤◌, ◌⊎◌, Bool, true, false, not, ◌||◌, ◌==◌, List, [], ◌∷◌, ◌++◌, Option, Some, None, Result, refl, sym, ap, ◌∙◌, subst, inl, inr, arith, length}
use Rattle.std.specs.Prelude.{if◌then◌else◌, nat_lt}
use Rattle.std.specs.Option.{is_some}
use Rattle.std.specs.Ordering.{nat_cmp}
use Rattle.std.specs.BTreeMap.{is_at}
use Rattle.std.proofs.lemmas.Bool.{le-ltb}
use Rattle.quic_wire_core.specs.declared.shared.EcnCodepoint.{EcnCodepoint}
use Rattle.quic_recovery_core.specs.Duplicates.{is_duplicate}
use Rattle.quic_time.specs.Clocks.{saturated}
use Rattle.quic_time.specs.Rtt as rtt
use Rattle.quic_recovery_core.specs.AckFrequency.{Frequency, longest_delay}
use Rattle.quic_packet.specs.Header.{key_phase, reserved_bits}
use Rattle.quic_packet.specs.Datagram.{Opening}
use Rattle.quic_wire.specs.Value.{FrameValue, AckValue}
use Rattle.quic_wire.specs.Items.{items}
use Rattle.quic_wire.specs.declared.frame.InvalidFrame.{InvalidFrame}
use Rattle.quic_machine.specs.Arrival.{Arrival}
use Rattle.quic_machine.specs.declared.answers.State.{State}
use Rattle.quic_machine.specs.declared.answers.State.TheVariants as states
use Rattle.quic_machine.specs.declared.answers.DropReason.{DropReason}
use Rattle.quic_machine.specs.declared.answers.DropReason.TheVariants as drops
use Rattle.quic_machine.specs.declared.answers.LostReason.{LostReason}
use Rattle.quic_machine.specs.declared.answers.LostReason.TheVariants as reasons
use Rattle.quic_machine.specs.declared.run.RunEvent.{RunEvent}
use Rattle.quic_machine.specs.declared.run.Call.{Call}
use Rattle.quic_machine.specs.declared.run.Answer.{Answer}
use Rattle.quic_machine.specs.declared.run.View.{View}
use Rattle.quic_streams_parts.specs.Table.{Table, added, put}
use Rattle.quic_machine.specs.Policy.{Policy}
use Rattle.quic_machine.specs.Opens.{head}
use Rattle.quic_machine.specs.Migration.{migrated}
use Rattle.quic_machine.specs.Closing.{Closing, ticked, close_asked}
use Rattle.quic_spaces.specs.Numbers.{Numbers, number_opened}
use Rattle.quic_machine.specs.Tracking.{after_answered, Tracking, TrackedPacket, asks_any, without_record, is_behind, tail_of, forgets, forgotten, oldest, without_packet, asking_sent, after_sent, Verdict, is_lost, kept_by, loss_moment, moment_or, probe_moment, after_detection, acked_by, not_acked_by, names}
use Rattle.quic_machine.specs.End.{End, with_closing, closed_by, with_numbers, number_of, with_ping, with_immediate, probe_timeout, with_window}
use Rattle.quic_machine.specs.Acked.{verdict, losses_detected, measured, sampled, without_acked, after_named, after_acked, losses_taken}
use Rattle.quic_machine.specs.Receive.{Fault, broke, too_many_pieces, closed_by_peer, drained_at, exhausted, unopened_in, is_read, drawn_if, violation, reason_of, take_frame, take_items, take_payload, is_empty, asks_in, is_urged, after_taken, dropped, ends_as, by_state, opened_to, opened_as, opening, headed, received_in, with_ids_drawn, has_migrated, migrated_if, items_taken, received}
use Rattle.quic_machine.specs.Poll.{Polled, Draft, packet_of, after_given, record_moved, draft_as, polled, Leaving, Ready}
use Rattle.quic_machine.specs.Timeouts.{Expiry, loss_judged}
use Rattle.quic_machine.specs.Machine.{World, Policies, after_call, Follows}
use Rattle.quic_machine.specs.LeaveCases.{at_expiry, Expired, by_timers}
use Rattle.quic_machine.specs.CallCases.{Plain, by_plain_call}
use Rattle.quic_machine.specs.CallCases as cases
use Rattle.quic_machine.specs.FrameCases.{Settling, named, begun, acked_keeps, losses_keep, frame_keeps, frame_leaves, items_keep, by_marks, apart_leaves}
use Rattle.quic_machine.specs.Steps as steps
use Rattle.quic_machine.specs.PollCases.{ready_at, by_poll_to, Composes, composes, may_leave_at}
use Rattle.quic_headline.specs.Runs.{In}
use Rattle.quic_headline.specs.Headline.{LossTimerFollows, LossTimersFollow}
use Rattle.quic_headline.proofs.Packets.Searches.{by_losses}
use Rattle.quic_headline.proofs.Packets.Named.{in_filter, filter_chose}
use Rattle.quic_headline.proofs.Packets.Probes.{in_put, by_ready, by_going, with_asked}
use Rattle.quic_headline.proofs.Packets.Given.{allocated_near}
use Rattle.quic_headline.proofs.Packets.Growth.{in_more}
use Rattle.quic_headline.proofs.Packets.Numbered.{Lies, lies_below, lies_filter, lies_remove, lies_put, lies_push, one_key, added_last, in_remove, oldest_in, asks_last, asks_remove, asks_put, late_asks, is_at_same}
use Rattle.quic_headline.proofs.Timers.BothEnds.{AtBoth, run_keeps}
use Rattle.quic_machine.specs.DraftLaws.{MayLeave}
use Rattle.quic_machine.specs.LeaveCases as expiring
use Rattle.quic_machine.specs.Validation.{with_blocked}
use Rattle.quic_congestion.specs.Pacer.{Pacing}
use Rattle.quic_machine.specs.Control.{with_pacing}
use Rattle.quic_machine.specs.IdFrames.{drawn}
use Rattle.quic_wire.specs.Close.{CloseValue}
use Rattle.quic_headline.proofs.Packets.Closes.{by_closes}
use Rattle.quic_headline.proofs.Packets.Apart.{AsksOn, longest_on, by_waits, by_next_id, next_frequency}
use Rattle.quic_headline.proofs.Packets.Heard.{by_taken}
use Rattle.quic_headline.proofs.Packets.Moved.{by_migrated}
use Rattle.quic_headline.proofs.Packets.Moving.{moved_frequency}

-- ---- a datagram, where frames keep less

-- what a datagram may make of an end: P holds of it before and behind, and Q while its frames are
-- taken
pub record Hears (P Q : End → Type 0) : Type 0 where
  pub notes : (n : ℕ) (e : End) → P e → P (with_numbers e (number_opened e.numbers n))
  pub begins : (now n : ℕ) (e : End) → P e → Q (begun e now n)
  pub frame : (f : FrameValue) (e : End) → Q e → Q (take_frame f e).end
  pub takes : (n : ℕ) (asks urged : Bool) (mark : Option EcnCodepoint) (e : End) → Q e → P (after_taken n asks urged mark e)
  pub closes : (reason : LostReason) (e : End) → Q e → P (closed_by reason e)
  pub drains : (close : ℕ × CloseValue) (e : End) → Q e → P (drained_at close.0 close.1 e)
  pub asks_close : (e : End) → P e → P (with_closing e (close_asked e.closing))
  pub exhausts : (now : ℕ) (e : End) → P e → P (exhausted now e)
  pub draws : (words : ℕ → ℕ) (e : End) → P e → P (drawn words e)
  pub moves : (p : Policy) (o : Opening) (remote : ℕ) (e : End) → P e → P (migrated p o remote e)

module _ (P Q : End → Type 0) (c : Hears P Q) where
  -- a payload
  payload_hears : (first : ℕ) (is : List (Result FrameValue InvalidFrame)) (e : End) → Q e → Q (take_payload first is e).end
  payload_hears first is e i = go (not (reserved_bits first == 0) || is_empty is)
    where
      go : (b : Bool) → Q (if b then record { end = e; fault = Some violation } else take_items is e).end
      go true = i
      go false = items_keep Q c.frame is e i

  -- all frames were taken, or one was at fault
  ends_hear : (fault : Option Fault) (asks urged : Bool) (n : ℕ) (mark : Option EcnCodepoint) (e : End) → Q e → P (ends_as fault asks urged n mark e).end
  ends_hear None asks urged n mark e i = c.takes n asks urged mark e i
  ends_hear (Some (closed_by_peer close)) asks urged n mark e i = c.drains (n, close) e i
  ends_hear (Some (broke error)) asks urged n mark e i = c.closes (reason_of (broke error)) e i
  ends_hear (Some too_many_pieces) asks urged n mark e i = c.closes (reason_of too_many_pieces) e i

  -- a packet whose number is new
  state_hears : (state : State) (o : Opening) (arrival : Arrival) (e : End) → P e → P (by_state state o arrival (with_numbers e (number_opened e.numbers o.number))).end
  state_hears states.Open o arrival e i =
      let begins = begun e arrival.now o.number in
      let is = items_taken o arrival e in
      let asks = asks_in (items o.payload) in
      let taken = take_payload o.first is begins in
      ends_hear taken.fault asks (is_urged arrival.mark asks is begins) o.number arrival.mark taken.end (payload_hears o.first is begins (c.begins arrival.now o.number e i))
  state_hears states.Closing o arrival e i = c.asks_close (with_numbers e (number_opened e.numbers o.number)) (c.notes o.number e i)
  state_hears states.Drained o arrival e i = c.notes o.number e i
  state_hears states.Failed o arrival e i = c.notes o.number e i

  -- a packet that opened
  opened_hears : (o : Opening) (arrival : Arrival) (e : End) → P e → P (opened_to o arrival e).end
  opened_hears o arrival e i = go (key_phase o.first) (is_duplicate e.numbers.opened o.number)
    where
      go : (a b : Bool) → P (if a then dropped drops.KeyPhase e else (if b then dropped drops.Duplicate e else by_state e.closing.state o arrival (with_numbers e (number_opened e.numbers o.number)))).end
      go true b = i
      go false true = i
      go false false = state_hears e.closing.state o arrival e i

  -- ids are drawn behind a packet whose frames were taken
  drawn_hears : (b : Bool) (p : Policy) (e : End) → P e → P (drawn_if b p e)
  drawn_hears true p e i = c.draws p.words e i
  drawn_hears false p e i = i

  -- and the peer has moved by it or hasn't
  moved_hears : (b : Bool) (p : Policy) (o : Opening) (remote : ℕ) (e : End) → P e → P (migrated_if b p o remote e)
  moved_hears true p o remote e i = c.moves p o remote e i
  moved_hears false p o remote e i = i

  packet_hears : (o : Option Opening) (p : Policy) (arrival : Arrival) (e : End) → P e → P (opened_as o p arrival e).end
  packet_hears None p arrival e i = go e.closing.state arrival.last
    where
      go : (state : State) (b : Bool) → P (unopened_in state b arrival e).end
      go states.Open true = c.exhausts arrival.now e i
      go states.Open false = i
      go states.Closing b = i
      go states.Drained b = i
      go states.Failed b = i
  packet_hears (Some o) p arrival e i =
      let out = with_ids_drawn p (opened_to o arrival e) in
      moved_hears (has_migrated o arrival.remote e out) p o arrival.remote out.end (drawn_hears (is_read (opened_to o arrival e).answer) p (opened_to o arrival e).end (opened_hears o arrival e i))

  headed_hears : (r : Result (List ℕ) DropReason) (p : Policy) (e : End) (arrival : Arrival) (d : List ℕ) → P e → P (headed r p e arrival d).end
  headed_hears (Result.Err error) p e arrival d i = i
  headed_hears (Result.Ok id) p e arrival d i = packet_hears (opening p e d) p arrival e i

  received_hears : (state : State) (p : Policy) (e : End) (arrival : Arrival) (d : List ℕ) → P e → P (received_in state p e arrival d).end
  received_hears states.Failed p e arrival d i = i
  received_hears states.Drained p e arrival d i = i
  received_hears states.Open p e arrival d i = headed_hears (head e arrival.remote d) p e arrival d i
  received_hears states.Closing p e arrival d i = headed_hears (head e arrival.remote d) p e arrival d i

  -- what holds after a datagram
  pub by_hearing : (p : Policy) (e : End) (arrival : Arrival) (d : List ℕ) → P e → P (received p e arrival d).end
  by_hearing p e arrival d i = received_hears e.closing.state p e arrival d i

-- ---- what is tracked

-- those that ask aren't above the greatest that asks
abbrev pub AreAsked : Option ℕ → Table TrackedPacket → Type 0
AreAsked greatest packets = (p : ℕ × TrackedPacket) → In p packets → p.1.asks ≡ true → is_behind greatest p.0 ≡ false

-- The numbers of what is tracked rise, below the next one; what was sent since the last that asks
-- doesn't ask; and one may be lost by time only where one asks.
pub record Stands (next : ℕ) (t : Tracking) : Type 0 where
  pub lies : Lies 0 next t.packets
  pub asked : AreAsked t.greatest_asking t.packets
  pub late : is_some t.loss_time ≡ true → asks_any t.packets ≡ true

-- losses are detected
stands_detected : (next : ℕ) (v : Verdict) (t : Tracking) → Lies 0 next t.packets → AreAsked t.greatest_asking t.packets → Stands next (after_detection v t)
stands_detected next v t lies asked = record {
  lies = lies_filter (λ p. not (is_lost v p)) 0 next t.packets lies;
  asked = λ p i asks. asked p (in_filter (λ q. not (is_lost v q)) p t.packets i) asks;
  late = late_asks v.greatest v.delay (λ p. saturated (p.1.time_sent + v.delay)) (kept_by v t.packets);
}

-- a packet that is forgotten doesn't ask
stands_forgotten : (next : ℕ) (t : Tracking) (o : Option (ℕ × TrackedPacket)) → ((p : ℕ × TrackedPacket) → o ≡ Some p → is_behind t.greatest_asking p.0 ≡ true) → Stands next t → Stands next (record t { packets = without_packet o t.packets })
stands_forgotten next t None behind s = record { lies = s.lies; asked = s.asked; late = s.late }
stands_forgotten next t (Some p) behind s = record {
  lies = lies_remove (is_at (nat_cmp p.0)) 0 next t.packets s.lies;
  asked = λ q i asks. s.asked q (in_remove (is_at (nat_cmp p.0)) q t.packets i) asks;
  late = λ there. asks_remove (is_at (nat_cmp p.0)) t.packets silent ∙ s.late there;
}
  where
    silent : (q : ℕ × TrackedPacket) → In q t.packets → is_at (nat_cmp p.0) q.0 ≡ true → q.1.asks ≡ false
    silent q i at = go q.1.asks refl
      where
        go : (b : Bool) → q.1.asks ≡ b → q.1.asks ≡ false
        go false is = is
        go true is =
            let above : is_behind t.greatest_asking q.0 ≡ true = ap (λ (n : ℕ). is_behind t.greatest_asking n) (sym (is_at_same p.0 q.0 at)) ∙ behind p refl in
            let clash : true ≡ false = sym above ∙ s.asked q i is in
            cc

-- the one that is forgotten lies above the last that asks
pub forgotten_behind : (t : Tracking) (p : TrackedPacket) (q : ℕ × TrackedPacket) → forgotten t p ≡ Some q → is_behind t.greatest_asking q.0 ≡ true
forgotten_behind t p q = go (forgets t p)
  where
    go : (b : Bool) → (if b then oldest (tail_of t) else None) ≡ Some q → is_behind t.greatest_asking q.0 ≡ true
    go true is = filter_chose (λ (x : ℕ × TrackedPacket). is_behind t.greatest_asking x.0) q t.packets (oldest_in (tail_of t) q is)
    go false is = cc

-- what is tracked once a packet of a number above all goes
pub stands_sent : (next n : ℕ) (t : Tracking) (p : TrackedPacket) → next ≤ n → Stands next t → Stands (n + 1) (after_sent t n p)
stands_sent next n t p above s = go p.asks refl
  where
    kept : Table TrackedPacket
    kept = without_packet (forgotten t p) t.packets

    before : Stands next (record t { packets = kept })
    before = stands_forgotten next t (forgotten t p) (forgotten_behind t p) s

    behind : added kept n p ≡ kept ++ (n, p) ∷ []
    behind = added_last 0 next kept n p before.lies above

    lies : Lies 0 (n + 1) (added kept n p)
    lies = subst (λ (ps : Table TrackedPacket). Lies 0 (n + 1) ps) (sym behind) (lies_push 0 next kept n p before.lies above)

    go : (b : Bool) → p.asks ≡ b → Stands (n + 1) (asking_sent b n p.time_sent (record t { packets = added kept n p }))
    go true is = record {
      lies = lies;
      asked = λ q i asks. below q (in_more q (n, p) kept (subst (λ (ps : Table TrackedPacket). In q ps) behind i));
      late = λ there. ap asks_any behind ∙ asks_last kept (n, p) ∙ ap (λ (b : Bool). asks_any kept || b) is ∙ or_true (asks_any kept);
    }
      where
        or_true : (b : Bool) → (b || true) ≡ true
        or_true true = refl
        or_true false = refl

        below : (q : ℕ × TrackedPacket) → In q kept ⊎ (q ≡ (n, p)) → nat_lt n q.0 ≡ false
        below q (inl i) = let less = lies_below 0 next kept before.lies q i in le-ltb n q.0 (omega arith)
        below q (inr same) = ap (λ (x : ℕ × TrackedPacket). nat_lt n x.0) same ∙ le-ltb n n (omega arith)
    go false is = record {
      lies = lies;
      asked = λ q i asks. old q asks (in_more q (n, p) kept (subst (λ (ps : Table TrackedPacket). In q ps) behind i));
      late = λ there. ap asks_any behind ∙ asks_last kept (n, p) ∙ ap (λ (b : Bool). b || p.asks) (before.late there);
    }
      where
        old : (q : ℕ × TrackedPacket) → q.1.asks ≡ true → In q kept ⊎ (q ≡ (n, p)) → is_behind t.greatest_asking q.0 ≡ false
        old q asks (inl i) = before.asked q i asks
        old q asks (inr same) = (let clash : true ≡ false = sym asks ∙ ap (λ (x : ℕ × TrackedPacket). x.1.asks) same ∙ is in cc)

-- ---- an end that is open

-- the timer of an open end is set to the moment of what is tracked
abbrev pub IsLossMoment : End → Type 0
IsLossMoment e = e.timers.loss_detection ≡ loss_moment (probe_timeout e) e.tracking

-- what is tracked at an end
abbrev pub StandsAt : End → Type 0
StandsAt e = Stands e.numbers.next e.tracking

-- both, while it is open
pub record OpenStands (e : End) : Type 0 where
  pub stands : StandsAt e
  pub set : IsLossMoment e

abbrev pub LossStands : End → Type 0
LossStands e = e.closing.state ≡ states.Open → OpenStands e

-- while it takes frames, only the first
abbrev FrameStands : End → Type 0
FrameStands e = e.closing.state ≡ states.Open → StandsAt e

-- ---- a datagram

-- numbers, clock and state are as they were
record IsQuiet (e f : End) : Type 0 where
  numbers : f.numbers ≡ e.numbers
  closing : f.closing ≡ e.closing

-- packets that are acknowledged or lost leave them
quiet_settles : (e : End) → Settling (IsQuiet e)
quiet_settles e (steps.known n) x q = record { numbers = q.numbers; closing = q.closing }
quiet_settles e s x q = record { numbers = q.numbers; closing = q.closing }

-- a round trip that is measured leaves what is tracked
sampled_tracking : (o : Option TrackedPacket) (a : AckValue) (e : End) → (sampled o a e).tracking ≡ e.tracking
sampled_tracking None a e = refl
sampled_tracking (Some p) a e = refl

-- an ACK frame that names these packets
stands_named : (next : ℕ) (ps : Table TrackedPacket) (rises : Bool) (a : AckValue) (e : End) → Stands next e.tracking → Stands next (after_named ps rises a e).tracking
stands_named next [] rises a e s = s
stands_named next (p ∷ ps) rises a e s = by_marks rises (length (p ∷ ps)) a (losses_taken (p ∷ ps) rises a e) (λ (x : End). Stands next x.tracking)
    (λ m marking. by_losses (λ (x : End). Stands next (after_answered x.tracking)) timed (λ discovery queues. record { lies = found.lies; asked = found.asked; late = found.late }))
  where
    timed : End
    timed = sampled (measured rises a (p ∷ ps)) a (without_acked (p ∷ ps) a e)

    same : timed.tracking ≡ record e.tracking { packets = not_acked_by a e.tracking.packets }
    same = sampled_tracking (measured rises a (p ∷ ps)) a (without_acked (p ∷ ps) a e)

    found : Stands next (after_detection (verdict timed) timed.tracking)
    found = stands_detected next (verdict timed) timed.tracking (subst (λ (t : Tracking). Lies 0 next t.packets) (sym same) (lies_filter (λ q. not (names a q.0)) 0 next e.tracking.packets s.lies))
        (subst (λ (t : Tracking). AreAsked t.greatest_asking t.packets) (sym same) (λ q i asks. s.asked q (in_filter (λ x. not (names a x.0)) q e.tracking.packets i) asks))

-- so it is at an open end
ack_stands : (rises : Bool) (a : AckValue) (e : End) → FrameStands e → FrameStands (after_acked rises a (named a e))
ack_stands rises a e i opened =
    let quiet : IsQuiet (named a e) (after_acked rises a (named a e)) = acked_keeps (IsQuiet (named a e)) (quiet_settles (named a e)) rises a (named a e) (record { numbers = refl; closing = refl }) in
    subst (λ (n : Numbers). Stands n.next (after_acked rises a (named a e)).tracking) (sym quiet.numbers)
    (stands_named e.numbers.next (acked_by a e.tracking.packets) rises a (named a e) (i (ap (λ (c : Closing). c.state) (sym quiet.closing) ∙ opened)))

-- the moment is the same where an acknowledgement is waited for as long
as_long : (e : End) (f : Frequency) → LossStands e → AsksOn e.frequency f → e.closing.state ≡ states.Open → StandsAt e × (e.timers.loss_detection ≡ loss_moment (saturated (rtt.probe_timeout e.path.rtt + longest_delay f)) e.tracking)
as_long e f i on opened = (let s = i opened in (s.stands, s.set ∙ ap (λ (d : ℕ). loss_moment (saturated (rtt.probe_timeout e.path.rtt + d)) e.tracking) (sym (longest_on e.frequency f on))))

-- an end that closes isn't open
closed_stands : (reason : LostReason) (e : End) → LossStands (closed_by reason e)
closed_stands reason e opened = cc

hears : Hears LossStands FrameStands
hears = record {
  notes = λ n e i opened. (let s = i opened in record { stands = record { lies = s.stands.lies; asked = s.stands.asked; late = s.stands.late }; set = s.set });
  begins = λ now n e i opened. (i opened).stands;
  frame = frame_keeps FrameStands (record { ack = ack_stands; on_streams = λ f e on i. frame_leaves FrameStands f e on (λ t. i); apart = λ f e is i. apart_leaves FrameStands f e is (λ c. i) (λ c most. i); message = λ m e i. i });
  takes = λ n asks urged mark e i. by_taken LossStands n asks urged mark e (λ idle alive opened. record { stands = i opened; set = refl });
  closes = λ reason e i. closed_stands reason e;
  drains = λ close e i opened. cc;
  asks_close = λ e i opened. (let s = i opened in record { stands = record { lies = s.stands.lies; asked = s.stands.asked; late = s.stands.late }; set = s.set });
  exhausts = λ now e i. closed_stands reasons.KeyLimit (with_closing e (ticked e.closing now));
  draws = λ words e i opened. (let s = i opened in record { stands = record { lies = s.stands.lies; asked = s.stands.asked; late = s.stands.late }; set = s.set });
  moves = λ p o remote e i. by_migrated (λ (x : End). AsksOn e.frequency x.frequency → LossStands x) p o remote e (λ c on opened. (let s = as_long e c.frequency i on opened in record { stands = s.0; set = s.1 }))
      (λ c most on opened. (let s = as_long e c.frequency i on opened in record { stands = s.0; set = s.1 })) (moved_frequency p o remote e);
}

-- ---- a poll

-- whether one asks says when a probe goes, whatever else is tracked
probe_same : (b : Bool) (timeout : ℕ) (t : Tracking) (packets : Table TrackedPacket) → probe_moment b timeout (record t { packets = packets }) ≡ probe_moment b timeout t
probe_same true timeout t packets = refl
probe_same false timeout t packets = refl

-- the record of a packet moves: the packet stays, and asks as before
moved_stands : (next : ℕ) (p : ℕ × TrackedPacket) (t : Tracking) → In p t.packets → Stands next t
    → Stands next (record t { packets = put t.packets p.0 (without_record p.1) }) × ((timeout : ℕ) → loss_moment timeout (record t { packets = put t.packets p.0 (without_record p.1) }) ≡ loss_moment timeout t)
moved_stands next p t i s = (
  record {
    lies = lies_put (is_at (nat_cmp p.0)) (without_record p.1) 0 next t.packets s.lies;
    asked = λ q j asks. old q asks (in_put t.packets p.0 (without_record p.1) q j);
    late = λ there. same ∙ s.late there;
  },
  λ timeout. ap (λ (b : Bool). moment_or t.loss_time (probe_moment b timeout (record t { packets = put t.packets p.0 (without_record p.1) }))) same
      ∙ ap (λ (o : Option ℕ). moment_or t.loss_time o) (probe_same (asks_any t.packets) timeout t (put t.packets p.0 (without_record p.1))),
)
  where
    same : asks_any (put t.packets p.0 (without_record p.1)) ≡ asks_any t.packets
    same = asks_put (is_at (nat_cmp p.0)) (without_record p.1) t.packets (λ q j at. ap (λ (x : ℕ × TrackedPacket). x.1.asks) (one_key 0 next t.packets s.lies q p j i (sym (is_at_same p.0 q.0 at))))

    old : (q : ℕ × TrackedPacket) → q.1.asks ≡ true → In q t.packets ⊎ (q ≡ (p.0, without_record p.1)) → is_behind t.greatest_asking q.0 ≡ false
    old q asks (inl j) = s.asked q j asks
    old q asks (inr is) = ap (λ (x : ℕ × TrackedPacket). is_behind t.greatest_asking x.0) is ∙ s.asked p i (ap (λ (x : ℕ × TrackedPacket). x.1.asks) (sym is) ∙ asks)

-- an end is ready
pub ready_stands : (e : End) (now : ℕ) → LossStands e → LossStands (ready_at e now).end
ready_stands e now i = by_ready LossStands e now same signals asks moves (λ moment pacing discovery x j opened. (let s = j opened in record { stands = s.stands; set = s.set }))
  where
    same : LossStands (with_closing e (ticked e.closing now))
    same opened = let s = i opened in record { stands = s.stands; set = s.set }

    signals : (ping immediate : Bool) (x : End) → LossStands x → LossStands (with_ping (with_immediate x immediate) ping)
    signals ping immediate x j opened = let s = j opened in record { stands = s.stands; set = s.set }

    asks : (waits : Bool) (x : End) → LossStands x → LossStands (with_asked x waits)
    asks waits x j opened = let s = j opened in record { stands = s.stands; set = s.set }

    moves : (p : ℕ × TrackedPacket) → In p e.tracking.packets → LossStands (record_moved (Some p) (with_closing e (ticked e.closing now)))
    moves p among opened =
        let s = i opened in
        let moved = moved_stands e.numbers.next p e.tracking among s.stands in
        record { stands = moved.0; set = s.set ∙ sym (moved.1 (probe_timeout e)) }

-- a datagram goes
given_stands : (p : Policy) (leaving : Leaving) (e : End) → MayLeave leaving e → LossStands e → LossStands (after_given p (draft_as leaving e))
given_stands p leaving e due i = by_going LossStands p d (λ pacing opened.
    let before = (i (ap (λ (x : Closing). x.state) (sym c.closing) ∙ opened)).stands in
    let ready : Stands d.end.numbers.next d.end.tracking = subst (λ (n : Numbers). Stands n.next d.end.tracking) (sym c.numbers) (subst (λ (t : Tracking). Stands e.numbers.next t) (sym c.tracking) before) in
    record { stands = stands_sent d.end.numbers.next (number_of d.end) d.end.tracking (packet_of d) (allocated_near d.end.filter d.end.numbers.next).0 ready; set = refl })
  where
    d : Draft
    d = draft_as leaving e

    c : Composes e d.end
    c = composes leaving e due

polled_stands : (p : Policy) (e : End) (now : ℕ) → LossStands e → LossStands (polled p e now).end
polled_stands p e now i = by_poll_to p e now (λ (q : Polled). LossStands q.end) (record {
  silent = i;
  failed = i;
  nothing = λ is none opened. (let s = ready_stands e now i opened in record { stands = s.stands; set = s.set });
  repeats = λ is. by_closes p (with_closing e (ticked e.closing now)) (λ (q : Polled). LossStands q.end) (λ opened. let clash : states.Closing ≡ states.Open = sym is ∙ opened in cc) (λ f goes opened. let clash : states.Closing ≡ states.Open = sym is ∙ opened in cc);
  closes = λ reason bound. by_closes p (closed_by reason (ready_at e now).end) (λ (q : Polled). LossStands q.end) (closed_stands reason (ready_at e now).end) (λ f goes opened. cc);
  gives = λ is may some.
      let g : Ready = ready_at e now in
      given_stands p g.leaving g.end (may_leave_at e now) (λ opened. (let s = ready_stands e now i opened in record { stands = s.stands; set = s.set }));
})

-- ---- any call

-- expired timers: losses are detected, or probes wait, and the loss timer is set anew
judged_stands : (e : End) (o : Option ℕ) → FrameStands e → FrameStands (loss_judged o e)
judged_stands e None i opened = let s = i opened in record { lies = s.lies; asked = s.asked; late = s.late }
judged_stands e (Some moment) i opened =
    let quiet : IsQuiet e (losses_detected e) = losses_keep (IsQuiet e) (quiet_settles e) e (record { numbers = refl; closing = refl }) in
    let s = i (ap (λ (c : Closing). c.state) (sym quiet.closing) ∙ opened) in
    subst (λ (n : Numbers). Stands n.next (losses_detected e).tracking) (sym quiet.numbers) (by_losses (λ (x : End). Stands e.numbers.next x.tracking) e (λ discovery queues. stands_detected e.numbers.next (verdict e) e.tracking s.lies s.asked))

expired_stands : (words : ℕ → ℕ) (e : End) (now : ℕ) (expiry : Expiry) → LossStands e → LossStands (at_expiry words e now expiry)
expired_stands words e now expiry i = by_timers words FrameStands LossStands (λ o f. judged_stands f o) each (λ f j opened. record { stands = j opened; set = refl }) (λ f j opened. cc) expiry (with_closing e (ticked e.closing now)) (λ opened. (i opened).stands)
  where
    each : (s : Expired) (f : End) → FrameStands f → FrameStands (expiring.after s f)
    each expiring.of_acks f j = j
    each s f j = j

-- what any call leaves
pub call_stands : (p : Policy) (e : End) (theirs : List (List ℕ)) (call : Call) (a : Answer) → LossStands e → LossStands (after_call p e theirs call a)
call_stands p e theirs call a i = by_plain_call p e theirs LossStands call a cases_keep
  where
    cases_keep : Plain p e call LossStands
    cases_keep cases.same may = i
    cases_keep (cases.times now expiry) may = expired_stands p.words e now expiry i
    cases_keep (cases.polls now) may = polled_stands p e now i
    cases_keep (cases.hears arrival d) may = by_hearing LossStands FrameStands hears p e arrival d i
    cases_keep (cases.closes reason f now) may = λ opened. cc
    cases_keep (cases.waits now b) may = by_waits LossStands b (with_closing e (ticked e.closing now)) (λ opened. cc) (λ opened. (let s = i opened in record { stands = s.stands; set = s.set }))
    cases_keep (cases.changes_id a) may = by_next_id (λ (x : End). AsksOn e.frequency x.frequency → LossStands x) e a (λ on. i) (λ c on opened. (let s = as_long e c.frequency i on opened in record { stands = s.0; set = s.1 }))
        (λ c most on opened. (let s = as_long e c.frequency i on opened in record { stands = s.0; set = s.1 })) (next_frequency e a)
    cases_keep c may = λ opened. (let s = i opened in record { stands = s.stands; set = s.set })

-- whichever window is shown
pub stands_shown : (window : ℕ) (blocked : Bool) (e : End) → LossStands e → LossStands (with_blocked (with_window e window) blocked)
stands_shown window blocked e i opened = let s = i opened in record { stands = s.stands; set = s.set }

-- and whichever pacer it has
pub stands_paced : (pacing : Pacing) (e : End) → LossStands e → LossStands (with_pacing e pacing)
stands_paced pacing e i opened = let s = i opened in record { stands = s.stands; set = s.set }

-- ---- a run

-- the timer is there exactly where one asks that is tracked
moment_there : (o : Option ℕ) (b : Bool) (timeout : ℕ) (t : Tracking) → (is_some o ≡ true → b ≡ true) → is_some (moment_or o (probe_moment b timeout t)) ≡ b
moment_there None true timeout t late = refl
moment_there None false timeout t late = refl
moment_there (Some moment) b timeout t late = sym (late refl)

-- so it follows what is tracked
pub stands_follow : (e : End) → LossStands e → LossTimerFollows e
stands_follow e i opened =
    let s = i opened in
    ap (λ (o : Option ℕ). is_some o) s.set ∙ moment_there e.tracking.loss_time (asks_any e.tracking.packets) (probe_timeout e) e.tracking s.stands.late

-- both ends keep it over a run
pub losses_stand : (k : Policies) (w end : World) (events : List RunEvent) (told : List Answer) (views : List View) → Follows k w events told views end → AtBoth LossStands w → AtBoth LossStands end
losses_stand k w end events told views f i = run_keeps LossStands (record {
  call = call_stands;
  shows = stands_shown;
  paces = stands_paced;
  stops = λ e next is opened. let clash : states.Failed ≡ states.Open = sym is.0 ∙ opened in cc;
}) k w end events told views f i

-- where it stands at first, the timers follow
pub losses_follow : (k : Policies) (w end : World) (events : List RunEvent) (told : List Answer) (views : List View) → Follows k w events told views end → AtBoth LossStands w → LossTimersFollow end
losses_follow k w end events told views f i = let both = losses_stand k w end events told views f i in (stands_follow end.client both.0, stands_follow end.server both.1)
