-- What a call makes of an end's random source, and that a policy that does at an end what its keys
-- and its random source do sees the same steps.
use Rattle.std.proofs.Common.{◌≡◌, ◌≤◌, ℕ, ◌+◌, ◌-◌, ◌||◌, Bool, true, false, List, [], ◌∷◌, length, Option, Some, None, refl, sym, ap, ◌∙◌, subst, arith}
use Rattle.std.specs.Option.{option_to_list}
use Rattle.std.specs.declared.alloc.AllocError.{AllocError}
use Rattle.std.specs.declared.ops.Range.{Range}
use Rattle.std.specs.Prelude.{◌≢◌, ◌⊎◌, ◌++◌, IfOk, OnOk, OnErr, Result, Ok, Err, if◌then◌else◌, slice_get, is_some, nat_lt}
use Rattle.std.proofs.lemmas.Bool.{or_parts}
use Rattle.rand_core.specs.Stream.{Stream}
use Rattle.quic_wire_core.specs.declared.stream_id.Side.{Side}
use Rattle.quic_wire_core.specs.declared.stream_id.Side.TheVariants.{Client, Server}
use Rattle.quic_wire_core.specs.StreamId.{other_side}
use Rattle.quic_wire.specs.Value.{FrameValue}
use Rattle.quic_wire.specs.Items.{items}
use Rattle.quic_packet.specs.Datagram.{Opening}
use Rattle.quic_packet.specs.Keys.{Protection, Aead}
use Rattle.quic_spaces.specs.Filter.{Filter, is_skipped, after_skipped}
use Rattle.quic_spaces.specs.Numbers.{expected}
use Rattle.quic_machine.specs.Arrival.{Arrival, early, delivered_by, injected_by}
use Rattle.quic_machine.specs.declared.run.Delivery.{Delivery}
use Rattle.quic_machine.specs.declared.run.Injection.{Injection}
use Rattle.quic_machine.specs.declared.answers.State.{State}
use Rattle.quic_machine.specs.declared.answers.State.TheVariants as states
use Rattle.quic_machine.specs.declared.answers.LostReason.{LostReason}
use Rattle.quic_machine.specs.declared.answers.Received.{Received}
use Rattle.quic_machine.specs.declared.answers.Received.TheVariants as receives
use Rattle.quic_congestion.specs.Congestion.{Steps, Told}
use Rattle.quic_congestion.specs.Pacer.{Pacing}
use Rattle.quic_machine.specs.declared.answers.Failed.{Failed}
use Rattle.quic_machine.specs.declared.answers.Transmit.{Transmit}
use Rattle.quic_machine.specs.declared.run.Call.{Call}
use Rattle.quic_machine.specs.declared.run.Call.TheVariants as calls
use Rattle.quic_machine.specs.declared.run.Answer.{Answer}
use Rattle.quic_machine.specs.declared.run.Answer.TheVariants as answers
use Rattle.quic_machine.specs.declared.run.RunEvent.{RunEvent}
use Rattle.quic_machine.specs.Closing.{ticked, close_given}
use Rattle.quic_machine.specs.Heard.{Heard, heard_datagram}
use Rattle.quic_machine.specs.Migration.{is_there, path_to, with_path, next_id_if_allowed, path_frames_taken, migrated, has_moved}
use Rattle.quic_machine.specs.declared.answers.DropReason.{DropReason}
use Rattle.quic_machine.specs.Idle.{keep_alive_expired, packet_given, packet_given_leaves}
use Rattle.quic_machine.specs.Policy.{Policy}
use Rattle.quic_machine.specs.Parts.{Validation}
use Rattle.quic_machine.specs.Ids.{Ids, Drawing, destination, drawn_places, ids_drawn, next_used, retires_for_next}
use Rattle.quic_machine.specs.IdFrames.{drawn, retiring, next_id_taken, end_on_next_id}
use Rattle.quic_machine.specs.Handshake.{end_on_done}
use Rattle.quic_machine.specs.MessageCalls.{most_message}
use Rattle.quic_machine.specs.Sizes.{without_longer_if, shortened}
use Rattle.quic_machine.specs.Calls.{closed_in}
use Rattle.quic_machine.specs.Validation.{with_blocked, challenged_anew, path_expired, most_challenges}
use Rattle.quic_machine.specs.End.{End, ConnectionValue, HasFailed, drawing, words_drawn, challenged, closed_by, with_window, with_closing, with_frames, with_ids, with_number_given, with_loss_timer}
use Rattle.quic_machine.specs.Receive.{Outcome, opened_to, opened_as, is_read, drawn_if, with_ids_drawn, has_migrated, migrated_if, with_migration, opening, headed, received_in, received, told_headed, told_received_in, told_received}
use Rattle.quic_machine.specs.Opens.{opens_behind, head, would_open}
use Rattle.quic_machine.specs.Control.{Control, after_told, with_pacing, with_app_limited}
use Rattle.quic_time.specs.Timers.{has_come}
use Rattle.quic_machine.specs.Timeouts.{TimedOut, expiry_at, loss_expired, acks_expired, pacing_expired, unless_idle, close_expired, timed_out_in, timed_out, told_timed_out}
use Rattle.quic_machine.specs.Poll.{Polled, told_polled_in, gives_datagram, datagram_of, datagram_size, asking, paid_if, tracked, goes, bounds, draft_as, closing, close_to_go, closes_if, closes, sends, polled_if, polled_in, polled}
use Rattle.quic_machine.specs.LeaveCases.{by_event}
use Rattle.quic_machine.specs.PollCases.{ready_at, draft_at, may_leave_at, Composes, composes, by_poll_to}
use Rattle.quic_machine.specs.CallCases.{Plain, is_poll, is_delivery, is_timeout, may_draw, by_plain_call}
use Rattle.quic_machine.specs.CallCases as cases
use Rattle.quic_machine.specs.Machine.{World, Policies, IsAnswer, IsDelivered, says_last, injected_if, IsLeft, IsTold, CountsOpenings, IsStep, after_call, after_delivered, after_injected_if, tells, told_delivered, pacing_left, gives, fails, changed, policy_at, end_at, end_met, reads_window, control_at, heard_at, given_by}
use Rattle.quic_machine.specs.Lacking.{GivesOrHasFailed, TakesFrames, MovesRecord, DeliveryTakes, LacksWhere}
use Rattle.quic_headline.specs.Alone.{Lone, IsLoneStep}
use Rattle.quic_connection_parts.specs.Drawn.{after_words}
use Rattle.quic_connection_parts.specs.Given.{given_bytes}
use Rattle.quic_connection_parts.specs.Telling.{KeepsKeys, telling, taking}
use Rattle.quic_connection_core.proofs.Polls.{ready_words}
use Rattle.quic_connection_parts.proofs.Lost.{loss_expired_keeps}
use Rattle.quic_connection_core.proofs.Drawn.{opened_words, drawn_more, received_words}
use Rattle.quic_connection.specs.declared.running.Ends.{Ends}
use Rattle.quic_connection.specs.Ends.{kept, may_move, GoesOn, Serves, AreOf, policies_of}
use Rattle.quic_connection.specs.GoingOn.{goes_same}

-- ---- a call but a poll, a delivery and a moment draws nothing

-- as many words are drawn
abbrev Quiet : End → End → Type 0
Quiet e f = words_drawn f ≡ words_drawn e

-- the next id of the peer draws none
shortened_words : (b : Bool) (e : End) → words_drawn (shortened b e) ≡ words_drawn e
shortened_words true e = go (most_message e)
  where
    go : (o : Option ℕ) → words_drawn (without_longer_if o e) ≡ words_drawn e
    go None = refl
    go (Some most) = refl
shortened_words false e = refl

next_id_words : (e : End) (a : Answer) → words_drawn (end_on_next_id e a) ≡ words_drawn e
next_id_words e (answers.UseNextId (Ok done)) = taken (retires_for_next e.ids)
  where
    taken : (o : Option (Range ℕ)) → words_drawn (next_id_taken o e) ≡ words_drawn e
    taken None = refl
    taken (Some r) = shortened_words (nat_lt (length (destination e.ids)) (length (destination (next_used e.ids)))) (retiring r (with_ids e (next_used e.ids)))
next_id_words e a = refl

quiet_call : (p : Policy) (e : End) (theirs : List (List ℕ)) (call : Call) (a : Answer) → may_draw call ≡ false → Quiet e (after_call p e theirs call a)
quiet_call p e theirs call a other = by_plain_call p e theirs (Quiet e) call a keep
  where
    none : (is_poll call ≡ false) × (is_delivery call ≡ false) × (is_timeout call ≡ false)
    none = let first = or_parts (is_poll call) (is_delivery call || is_timeout call) other in let others = or_parts (is_delivery call) (is_timeout call) first.1 in (first.0, others.0, others.1)

    keep : Plain p e call (Quiet e)
    keep (cases.times now expiry) is = absurd (let no = none.2 in cc)
    keep (cases.waits now b) is = absurd (let no = none.2 in cc)
    keep (cases.polls now) is = absurd (let no = none.0 in cc)
    keep (cases.hears arrival d) is = absurd (let no = none.1 in cc)
    keep (cases.changes_id a) is = next_id_words e a
    keep c may = refl

-- an end that failed stays so
failed_delivered : (p : Policy) (e : End) (arrival : Arrival) (o : Option (List ℕ)) → e.closing.state ≡ states.Failed → (after_delivered p e arrival o).closing.state ≡ states.Failed
failed_delivered p e arrival None is = is
failed_delivered p e arrival (Some d) is = ap (λ (s : State). (received_in s p e arrival d).end.closing.state) is ∙ is

failed_injected : (b is_last : Bool) (p : Policy) (e : End) (i : Injection) → e.closing.state ≡ states.Failed → (after_injected_if b is_last p e i).closing.state ≡ states.Failed
failed_injected true is_last p e i is = is
failed_injected false is_last p e i is = ap (λ (s : State). (received_in s p e (injected_by is_last i) i.bytes).end.closing.state) is ∙ is

failed_next : (e : End) (a : Answer) → e.closing.state ≡ states.Failed → (end_on_next_id e a).closing.state ≡ states.Failed
failed_next e (answers.UseNextId (Ok done)) is = taken (retires_for_next e.ids)
  where
    short : (b : Bool) (x : End) → x.closing.state ≡ states.Failed → (shortened b x).closing.state ≡ states.Failed
    short true x f = go (most_message x)
      where
        go : (o : Option ℕ) → (without_longer_if o x).closing.state ≡ states.Failed
        go None = f
        go (Some most) = f
    short false x f = f

    taken : (o : Option (Range ℕ)) → (next_id_taken o e).closing.state ≡ states.Failed
    taken None = is
    taken (Some r) = short (nat_lt (length (destination e.ids)) (length (destination (next_used e.ids)))) (retiring r (with_ids e (next_used e.ids))) is
failed_next e a is = is

failed_done : (e : End) (a : Answer) → e.closing.state ≡ states.Failed → (end_on_done e a).closing.state ≡ states.Failed
failed_done e (answers.HandshakeDone (Ok done)) is = is
failed_done e a is = is

failed_stays : (p : Policy) (e : End) (theirs : List (List ℕ)) (call : Call) (a : Answer) → e.closing.state ≡ states.Failed → (after_call p e theirs call a).closing.state ≡ states.Failed
failed_stays p e theirs (calls.Close close) a is = ap (λ (s : State). (closed_in s close.now close.error_code close.reason e).closing.state) is ∙ is
failed_stays p e theirs calls.UseNextId a is = failed_next e a is
failed_stays p e theirs calls.HandshakeDone a is = failed_done e a is
failed_stays p e theirs (calls.Poll now) a is = ap (λ (s : State). (polled_in s p e now).end.closing.state) is ∙ is
failed_stays p e theirs (calls.Timeout now) a is = ap (λ (s : State). (timed_out_in s p e now).end.closing.state) is ∙ is
failed_stays p e theirs (calls.Deliver delivery) a is = failed_delivered p e (delivered_by (says_last a) delivery) (slice_get theirs delivery.index) is
failed_stays p e theirs (calls.Inject injection) a is = failed_injected (would_open p e injection.remote injection.bytes) (says_last a) p e injection is
failed_stays p e theirs calls.Event a is = by_event e (λ x. x.closing.state ≡ states.Failed) is is (λ told. is)
failed_stays p e theirs call a is = is

-- a call but a poll reads nothing
reads_no_window : (control : Control) (heard : Heard) (call : Call) (e : End) → may_draw call ≡ false → reads_window control heard call e ≡ e
reads_no_window control heard (calls.Poll now) e other = absurd cc
reads_no_window control heard call e other = refl

-- ---- an end goes on

-- a call that leaves the state of the random source draws nothing
draws_none : (call : Call) → may_move call ≡ false → may_draw call ≡ false
draws_none (calls.Inject injection) rests = cc
draws_none call rests = rests

-- at a call that draws nothing
pub quiet_goes : {H K R C : Type 0} (stream : R → Stream) (p : Policy) (control : Control) (heard : Heard) (old new : ConnectionValue H K R C) (theirs : List (List ℕ)) (call : Call) (a : Answer) → may_move call ≡ false → KeepsKeys old new → IsLeft (fails a) p control heard old.end theirs call a new.end → GoesOn stream old new
quiet_goes stream p control heard old new theirs call a rests is left = go (fails a) left
  where
    -- it draws nothing
    other : may_draw call ≡ false
    other = draws_none call rests

    go : (b : Bool) → IsLeft b p control heard old.end theirs call a new.end → GoesOn stream old new
    go true stops = record { keys = ap (λ w. w.keys) is; served = λ o. absurd (o stops.0); drawn = λ o. absurd (o stops.0); random = λ o. absurd (o stops.0) }
    go false same =
        let met = ap (λ (e : End). after_call p e theirs call a) (reads_no_window control heard call old.end other) in
        let state : new.end.closing.state ≡ (after_call p old.end theirs call a).closing.state = ap (λ (e : End). e.closing.state) same ∙ ap (λ (e : End). e.closing.state) met in
        let words : words_drawn new.end ≡ words_drawn old.end = ap (λ (e : End). words_drawn e) same ∙ ap (λ (e : End). words_drawn e) met ∙ quiet_call p old.end theirs call a other in
        record {
          keys = ap (λ w. w.keys) is;
          served = λ o failed. o (state ∙ failed_stays p old.end theirs call a failed);
          drawn = λ o. omega (arith, words);
          random = λ o. (let none : 0 ≡ words_drawn new.end - words_drawn old.end = omega (arith, words) in ap (λ w. stream w.random) is ∙ ap (λ (k : ℕ). after_words k (stream old.random)) none);
        }

-- at a poll: no word fewer is drawn behind it
given_drawn : (b : Bool) (f : Filter) (word : ℕ) → f.drawn ≤ (if b then after_skipped f word else f).drawn
given_drawn true f word = omega arith
given_drawn false f word = omega arith

number_words : (word : ℕ) (e : End) → words_drawn e ≤ words_drawn (with_number_given word e)
number_words word e = let more = given_drawn (is_skipped e.filter e.numbers.next) e.filter word in omega (arith, more)

draft_words : (e : End) (now : ℕ) → words_drawn (draft_at e now).end ≡ words_drawn e
draft_words e now = same_words_of (composes (ready_at e now).leaving (ready_at e now).end (may_leave_at e now)) ∙ ready_words e now
  where
    same_words_of : {x y : End} → Composes x y → words_drawn y ≡ words_drawn x
    same_words_of {x} {y} c =
        ap (λ (f : Filter). words_drawn (record y { filter = f })) c.filter
        ∙ ap (λ (i : Ids). words_drawn (record y { filter = x.filter; ids = i })) c.ids
        ∙ ap (λ (v : Validation). words_drawn (record x { validation = v })) c.validation

paid_words : (b : Bool) (x : End) (size : ℕ) → words_drawn (paid_if b x size) ≡ words_drawn x
paid_words true x size = refl
paid_words false x size = refl

given_words : (asks : Bool) (x : End) → words_drawn (packet_given asks x) ≡ words_drawn x
given_words asks x = ap (λ (y : End). words_drawn y) (packet_given_leaves asks x)

closes_words : (p : Policy) (e : End) → words_drawn e ≤ words_drawn (closes p e).end
closes_words p e = go (close_to_go p e)
  where
    go : (o : Option FrameValue) → words_drawn e ≤ words_drawn (closes_if o p e).end
    go None = omega arith
    go (Some f) = number_words (p.words (words_drawn e)) e

pub poll_draws : (p : Policy) (e : End) (now : ℕ) → words_drawn e ≤ words_drawn (polled p e now).end
poll_draws p e now = by_poll_to p e now (λ x. words_drawn e ≤ words_drawn x.end) (record {
  silent = omega arith;
  failed = omega arith;
  repeats = λ is. closes_words p (with_closing e (ticked e.closing now));
  nothing = λ is_open none. (let same = ready_words e now in omega (arith, same));
  closes = λ reason bound. (let same = ready_words e now in let more = closes_words p (closed_by reason (ready_at e now).end) in omega (arith, same, more));
  gives = λ is_open can some. (let d = draft_at e now in
      let same = draft_words e now in
      let given = given_words (asking d.frames) (paid_if (asking d.frames) (with_number_given (p.words (words_drawn d.end)) (tracked d)) (datagram_size d)) in
      let paid = paid_words (asking d.frames) (with_number_given (p.words (words_drawn d.end)) (tracked d)) (datagram_size d) in
      let more = number_words (p.words (words_drawn d.end)) (tracked d) in omega (arith, same, given, paid, more));
})

-- an end that failed stays so
pub poll_serves : (p : Policy) (e : End) (now : ℕ) → (polled p e now).end.closing.state ≢ states.Failed → e.closing.state ≢ states.Failed
poll_serves p e now kept failed = kept (ap (λ (s : State). (polled_in s p e now).end.closing.state) failed ∙ failed)

-- what a poll leaves goes on, where memory served
pub poll_goes : {H K R C : Type 0} (stream : R → Stream) (p : Policy) (window : ℕ) (blocked : Bool) (old new : ConnectionValue H K R C) (now : ℕ) → new.keys ≡ old.keys → new.end ≡ (polled p (with_blocked (with_window old.end window) blocked) now).end
    → stream new.random ≡ after_words (words_drawn new.end - words_drawn old.end) (stream old.random) → GoesOn stream old new
poll_goes stream p window blocked old new now keys end random = record {
  keys = keys;
  served = λ kept. poll_serves p (with_blocked (with_window old.end window) blocked) now (λ failed. kept (ap (λ (e : End). e.closing.state) end ∙ failed));
  drawn = λ kept. subst (λ (e : End). words_drawn old.end ≤ words_drawn e) (sym end) (poll_draws p (with_blocked (with_window old.end window) blocked) now);
  random = λ kept. random;
}

-- nor where it lacked
pub failed_goes : {H K R C : Type 0} (stream : R → Stream) (old new : ConnectionValue H K R C) → HasFailed old new → GoesOn stream old new
failed_goes stream old new f = record {
  keys = ap (λ w. w.keys) f.keys;
  served = λ kept. absurd (kept f.state);
  drawn = λ kept. absurd (kept f.state);
  random = λ kept. absurd (kept f.state);
}

-- either way
pub polled_goes : {H K R C : Type 0} (stream : R → Stream) (p : Policy) (window : ℕ) (blocked : Bool) (old new : ConnectionValue H K R C) (now : ℕ) (r : Result (Option Transmit) Failed) → new.keys ≡ old.keys → OnOk r (new.end ≡ (polled p (with_blocked (with_window old.end window) blocked) now).end)
    → OnOk r (stream new.random ≡ after_words (words_drawn new.end - words_drawn old.end) (stream old.random)) → OnErr r (HasFailed old new) → GoesOn stream old new
polled_goes stream p window blocked old new now (Ok x) keys end random failed = poll_goes stream p window blocked old new now keys end random
polled_goes stream p window blocked old new now (Err x) keys end random failed = failed_goes stream old new failed

-- at a datagram that comes
pub received_goes : {H K R C : Type 0} (stream : R → Stream) (p : Policy) (old new : ConnectionValue H K R C) (arrival : Arrival) (d : List ℕ) (q : Pacing) → new.keys ≡ old.keys → new.end ≡ with_pacing (received p old.end arrival d).end q
    → stream new.random ≡ after_words (words_drawn new.end - words_drawn old.end) (stream old.random) → GoesOn stream old new
received_goes stream p old new arrival d q keys end random = record {
  keys = keys;
  served = λ kept failed. kept (ap (λ (e : End). e.closing.state) end ∙ failed_delivered p old.end arrival (Some d) failed);
  drawn = λ kept. subst (λ (e : End). words_drawn old.end ≤ words_drawn e) (sym end) (received_words p old.end arrival d);
  random = λ kept. random;
}

-- whatever it is answered
pub delivered_goes : {H K R C : Type 0} (stream : R → Stream) (p : Policy) (steps : Steps C) (window : C → ℕ) (old new : ConnectionValue H K R C) (arrival : Arrival) (d : List ℕ) (r : Received)
    → (r ≢ receives.Failed → let after = (received p old.end arrival d).end in
    new ≡ drawing new.random (taking steps window old (heard_datagram (is_there arrival.remote old.end) (has_moved old.end after) d r old.heard) (told_received p old.end (early arrival) d) after))
    → (r ≢ receives.Failed → stream new.random ≡ after_words (words_drawn new.end - words_drawn old.end) (stream old.random)) → (r ≡ receives.Failed → HasFailed old new) → GoesOn stream old new
delivered_goes stream p steps window old new arrival d r left random failed = go r left random failed
  where
    Left : Received → Type 0
    Left r = r ≢ receives.Failed → let after = (received p old.end arrival d).end in
        new ≡ drawing new.random (taking steps window old (heard_datagram (is_there arrival.remote old.end) (has_moved old.end after) d r old.heard) (told_received p old.end (early arrival) d) after)

    kept : (r : Received) → r ≢ receives.Failed → Left r → (r ≢ receives.Failed → stream new.random ≡ after_words (words_drawn new.end - words_drawn old.end) (stream old.random)) → GoesOn stream old new
    kept r other left random = received_goes stream p old new arrival d _ (ap (λ w. w.keys) (left other)) (ap (λ w. w.end) (left other)) (random other)

    go : (r : Received) → Left r → (r ≢ receives.Failed → stream new.random ≡ after_words (words_drawn new.end - words_drawn old.end) (stream old.random)) → (r ≡ receives.Failed → HasFailed old new) → GoesOn stream old new
    go receives.Failed left random failed = failed_goes stream old new (failed refl)
    go receives.Taken left random failed = kept receives.Taken (λ failed. cc) left random
    go (receives.Dropped reason) left random failed = kept (receives.Dropped reason) (λ failed. cc) left random
    go (receives.Closed error) left random failed = kept (receives.Closed error) (λ failed. cc) left random

-- at a moment: no word fewer is drawn behind it
timed_draws : (p : Policy) (e : End) (now : ℕ) → words_drawn e ≤ words_drawn (timed_out p e now).end
timed_draws p e now = state e.closing.state
  where
    x : End
    x = with_closing e (ticked e.closing now)

    lost : End
    lost = loss_expired (expiry_at x.closing.clock x.timers).loss x

    same : words_drawn lost ≡ words_drawn e
    same = (loss_expired_keeps (expiry_at x.closing.clock x.timers).loss x).words

    asked : (b : Bool) → words_drawn e ≤ words_drawn (path_expired p.words b lost)
    asked true = anew (nat_lt lost.validation.drawn most_challenges)
      where
        anew : (b : Bool) → words_drawn e ≤ words_drawn (challenged_anew p.words b lost)
        anew true = omega (arith, same)
        anew false = omega (arith, same)
    asked false = omega (arith, same)

    alive_words : (b : Bool) (y : End) → words_drawn (keep_alive_expired b y) ≡ words_drawn y
    alive_words true y = refl
    alive_words false y = refl

    pacing_words : (b : Bool) (y : End) → words_drawn (pacing_expired b y) ≡ words_drawn y
    pacing_words true y = refl
    pacing_words false y = refl

    acks_words : (b : Bool) (y : End) → words_drawn (acks_expired b y) ≡ words_drawn y
    acks_words true y = refl
    acks_words false y = refl

    others : (b : Bool) → words_drawn e ≤ words_drawn (unless_idle b p.words (expiry_at x.closing.clock x.timers) lost)
    others true = omega (arith, same)
    others false =
        let y : End = path_expired p.words (expiry_at x.closing.clock x.timers).path lost in
        let z : End = keep_alive_expired (expiry_at x.closing.clock x.timers).keep_alive y in
        let more = asked (expiry_at x.closing.clock x.timers).path in
        let alive = alive_words (expiry_at x.closing.clock x.timers).keep_alive y in
        let paced = pacing_words (expiry_at x.closing.clock x.timers).pacing z in
        let acks = acks_words (expiry_at x.closing.clock x.timers).acks (pacing_expired (expiry_at x.closing.clock x.timers).pacing z) in
        omega (arith, more, alive, paced, acks)

    state : (s : State) → words_drawn e ≤ words_drawn (timed_out_in s p e now).end
    state states.Open = others (expiry_at x.closing.clock x.timers).idle
    state states.Closing = close_words (has_come e.timers.close (ticked e.closing now).clock)
      where
        close_words : (b : Bool) → words_drawn e ≤ words_drawn (close_expired b x)
        close_words true = omega arith
        close_words false = omega arith
    state states.Drained = omega arith
    state states.Failed = omega arith

pub timed_goes : {H K R C : Type 0} (stream : R → Stream) (p : Policy) (steps : Steps C) (old new : ConnectionValue H K R C) (now : ℕ) (r : Result (Unit {0}) Failed) → OnOk r (new ≡ drawing new.random (telling steps old (told_timed_out old.end now) (timed_out p old.end now).end))
    → OnOk r (stream new.random ≡ after_words (words_drawn new.end - words_drawn old.end) (stream old.random)) → OnErr r (HasFailed old new) → GoesOn stream old new
timed_goes stream p steps old new now (Ok x) left random failed = record {
  keys = ap (λ w. w.keys) left;
  served = λ kept was. kept (ap (λ (w : ConnectionValue _ _ _ _). w.end.closing.state) left ∙ ap (λ (s : State). (timed_out_in s p old.end now).end.closing.state) was ∙ was);
  drawn = λ kept. subst (λ (e : End). words_drawn old.end ≤ words_drawn e) (sym (ap (λ w. w.end) left)) (timed_draws p old.end now);
  random = λ kept. random;
}
timed_goes stream p steps old new now (Err x) left random failed = failed_goes stream old new failed

-- a close that goes is what the answer gives
one_close : (p : Policy) (e : End) (t : Transmit) → (closes p e).answer ≡ Ok (Some t) → given_bytes (closes p e).datagram ∷ [] ≡ option_to_list (closes p e).datagram
one_close p e t = go (close_to_go p e)
  where
    go : (o : Option FrameValue) → (closes_if o p e).answer ≡ Ok (Some t) → given_bytes (closes_if o p e).datagram ∷ [] ≡ option_to_list (closes_if o p e).datagram
    go None is = cc
    go (Some f) is = refl

-- what a poll gave is what its answer gives
one_given : (p : Policy) (e : End) (now : ℕ) (t : Transmit) → (polled p e now).answer ≡ Ok (Some t) → given_bytes (polled p e now).datagram ∷ [] ≡ option_to_list (polled p e now).datagram
one_given p e now t is = by_poll_to p e now (λ (x : Polled). x.answer ≡ Ok (Some t) → given_bytes x.datagram ∷ [] ≡ option_to_list x.datagram) (record {
  silent = λ i. cc;
  failed = λ i. cc;
  repeats = λ is. one_close p (with_closing e (ticked e.closing now)) t;
  nothing = λ is_open none i. cc;
  closes = λ reason bound. one_close p (closed_by reason (ready_at e now).end) t;
  gives = λ is_open can some i. refl;
}) is

pub kept_gives : (p : Policy) (e : End) (now : ℕ) (r : Result (Option Transmit) Failed) (old new : List ℕ) → old ≡ [] → OnOk r (r ≡ (polled p e now).answer) → OnOk r (new ≡ old ++ given_bytes (polled p e now).datagram)
    → kept r new ≡ gives p e (calls.Poll now) (answers.Poll r)
kept_gives p e now (Ok (Some t)) old new none answer bytes = ap (λ (d : List ℕ). d ∷ []) (bytes ∙ ap (λ (o : List ℕ). o ++ given_bytes (polled p e now).datagram) none) ∙ one_given p e now t (sym answer)
kept_gives p e now (Ok None) old new none answer bytes = refl
kept_gives p e now (Err x) old new none answer bytes = refl

-- ---- any call

-- at a call, whether it may draw words or not
pub call_goes : {H K R C : Type 0} (stream : R → Stream) (p : Policy) (control : Control) (heard : Heard) (old new : ConnectionValue H K R C) (theirs : List (List ℕ)) (call : Call) (r : Result Answer AllocError) → (may_move call ≡ false → KeepsKeys old new) → (may_move call ≡ true → GoesOn stream old new)
    → IfOk r (λ a. IsLeft (fails a) p control heard old.end theirs call a new.end) → OnErr r (new ≡ old) → GoesOn stream old new
call_goes stream p control heard old new theirs call r keys draws left same = go (may_move call) refl r left same
  where
    go : (b : Bool) → may_move call ≡ b → (r : Result Answer AllocError) → IfOk r (λ a. IsLeft (fails a) p control heard old.end theirs call a new.end) → OnErr r (new ≡ old) → GoesOn stream old new
    go true is r left same = draws is
    go false is (Ok a) left same = quiet_goes stream p control heard old new theirs call a is (keys is) left
    go false is (Err x) left same = subst (λ w. GoesOn stream old w) (sym same) (goes_same stream old)

-- ---- a policy that does the same at an end

-- it answers the same of all words that aren't drawn yet, unless the end has failed
abbrev Answers : (ℕ → ℕ) → (ℕ → ℕ) → End → Type 0
Answers words others e = e.closing.state ≢ states.Failed → (n : ℕ) → words_drawn e ≤ n → words n ≡ others n

-- so the same ids are drawn
drawn_with : (words others : ℕ → ℕ) (x : End) → ((n : ℕ) → words_drawn x ≤ n → words n ≡ others n) → drawn words x ≡ drawn others x
drawn_with words others x same = ap of_words (λ i n. same (words_drawn x + n) (omega arith) i)
  where
    of_words : (ℕ → ℕ) → End
    of_words f =
        let d : Drawing = drawn_places x.ids.undrawn f (record { living = x.ids.living; waiting = x.waiting.frames.new_cids }) in
        with_frames (with_ids x (ids_drawn d x.ids)) (record x.waiting.frames { new_cids = d.waiting })

module _ (p : Policy) (words : ℕ → ℕ) (e : End) where
  abbrev other_words : Policy
  other_words = record p { words = words }

  -- what comes opens to the same
  opened_with : Answers words p.words e → e.closing.state ≢ states.Failed → (o : Opening) (arrival : Arrival) → with_ids_drawn other_words (opened_to o arrival e) ≡ with_ids_drawn p (opened_to o arrival e)
  opened_with same serves o arrival = go (is_read (opened_to o arrival e).answer)
    where
      x : End
      x = (opened_to o arrival e).end

      go : (b : Bool) → ◌≡◌ {A = Outcome} (record { answer = (opened_to o arrival e).answer; end = drawn_if b other_words x }) (record { answer = (opened_to o arrival e).answer; end = drawn_if b p x })
      go true =
          let drawn_before = opened_words o arrival e in
          ap (λ (y : End). left y) (drawn_with words p.words x (λ n high. same serves n (omega (arith, drawn_before, high))))
        where
          left : End → Outcome
          left y = record { answer = (opened_to o arrival e).answer; end = y }
      go false = refl

  -- a peer that moves is asked the same
  migrated_with : (o : Opening) (remote : ℕ) (x : End) → words (words_drawn x) ≡ p.words (words_drawn x) → migrated other_words o remote x ≡ migrated p o remote x
  migrated_with o remote x word = ap (λ (y : End). path_frames_taken (items o.payload) (next_id_if_allowed y)) (asked (nat_lt there.validation.drawn most_challenges))
    where
      there : End
      there = with_path x (path_to remote x)

      asked : (b : Bool) → challenged_anew words b there ≡ challenged_anew p.words b there
      asked true = ap (λ (w : ℕ). challenged w there) word
      asked false = refl

  moved_with : (b : Bool) (o : Opening) (remote : ℕ) (x : End) → words (words_drawn x) ≡ p.words (words_drawn x) → migrated_if b other_words o remote x ≡ migrated_if b p o remote x
  moved_with true o remote x word = migrated_with o remote x word
  moved_with false o remote x word = refl

  received_with : Answers words p.words e → (arrival : Arrival) (d : List ℕ) → received other_words e arrival d ≡ received p e arrival d
  received_with same arrival d = go e.closing.state refl
    where
      opens : e.closing.state ≢ states.Failed → (o : Option Opening) → opened_as o other_words arrival e ≡ opened_as o p arrival e
      opens serves None = refl
      opens serves (Some o) =
          ap (λ (y : Outcome). with_migration other_words o arrival.remote e y) (opened_with same serves o arrival)
          ∙ ap (λ (y : End). left y) (moved_with (has_migrated o arrival.remote e out) o arrival.remote out.end (same serves (words_drawn out.end) (more (is_read (opened_to o arrival e).answer))))
        where
          out : Outcome
          out = with_ids_drawn p (opened_to o arrival e)

          left : End → Outcome
          left y = record { answer = out.answer; end = y }

          more : (b : Bool) → words_drawn e ≤ words_drawn (drawn_if b p (opened_to o arrival e).end)
          more true = let before = opened_words o arrival e in let all = drawn_more p.words (opened_to o arrival e).end in omega (arith, before, all)
          more false = let before = opened_words o arrival e in omega (arith, before)

      heads : e.closing.state ≢ states.Failed → (r : Result (List ℕ) DropReason) → headed r other_words e arrival d ≡ headed r p e arrival d
      heads serves (Err x) = refl
      heads serves (Ok id) = opens serves (opening p e d)

      go : (s : State) → e.closing.state ≡ s → received_in s other_words e arrival d ≡ received_in s p e arrival d
      go states.Open is = heads (λ failed. (let no : states.Open ≡ states.Failed = sym is ∙ failed in cc)) (head e arrival.remote d)
      go states.Closing is = heads (λ failed. (let no : states.Closing ≡ states.Failed = sym is ∙ failed in cc)) (head e arrival.remote d)
      go states.Drained is = refl
      go states.Failed is = refl

  told_received_with : (arrival : Arrival) (d : List ℕ) → told_received other_words e arrival d ≡ told_received p e arrival d
  told_received_with arrival d = go e.closing.state
    where
      heads : (r : Result (List ℕ) DropReason) → told_headed r other_words e arrival d ≡ told_headed r p e arrival d
      heads (Err x) = refl
      heads (Ok id) = refl

      go : (s : State) → told_received_in s other_words e arrival d ≡ told_received_in s p e arrival d
      go states.Open = heads (head e arrival.remote d)
      go states.Closing = heads (head e arrival.remote d)
      go states.Drained = refl
      go states.Failed = refl

  opens_with : (remote : ℕ) (d : List ℕ) → would_open other_words e remote d ≡ would_open p e remote d
  opens_with remote d = go (head e remote d)
    where
      go : (r : Result (List ℕ) DropReason) → is_some (opens_behind r other_words (expected e.numbers) d) ≡ is_some (opens_behind r p (expected e.numbers) d)
      go (Err x) = refl
      go (Ok id) = refl

  -- a close goes the same
  closes_with : (x : End) → words (words_drawn x) ≡ p.words (words_drawn x) → closes other_words x ≡ closes p x
  closes_with x word = go (close_to_go p x)
    where
      go : (o : Option FrameValue) → closes_if o other_words x ≡ closes_if o p x
      go None = refl
      go (Some f) = ap (λ (w : ℕ). gives_datagram (datagram_of p (draft_as (closing f) x)) (with_closing (with_number_given w x) (close_given x.closing))) word

  -- and so does a poll
  polled_with : Answers words p.words e → (now : ℕ) → polled other_words e now ≡ polled p e now
  polled_with same now = state e.closing.state refl
    where
      serves : e.closing.state ≡ states.Open → e.closing.state ≢ states.Failed
      serves o failed = (let no : states.Open ≡ states.Failed = sym o ∙ failed in cc)

      given : e.closing.state ≡ states.Open → (b : Option LostReason) → sends b other_words (ready_at e now) ≡ sends b p (ready_at e now)
      given o None =
          let d = draft_at e now in
          let drawn_before = draft_words e now in
          ap (λ (w : ℕ). gives_datagram (datagram_of p d) (with_loss_timer (with_app_limited (packet_given (asking d.frames) (paid_if (asking d.frames) (with_number_given w (tracked d)) (datagram_size d))) false)))
          (same (serves o) (words_drawn d.end) (omega (arith, drawn_before)))
      given o (Some reason) =
          let drawn_before = ready_words e now in
          closes_with (closed_by reason (ready_at e now).end) (same (serves o) (words_drawn (ready_at e now).end) (omega (arith, drawn_before)))

      waiting : e.closing.state ≡ states.Open → (b : Bool) → polled_if b other_words (ready_at e now) ≡ polled_if b p (ready_at e now)
      waiting o true = given o (bounds p (ready_at e now).end)
      waiting o false = refl

      state : (s : State) → e.closing.state ≡ s → polled_in s other_words e now ≡ polled_in s p e now
      state states.Open o = waiting o (goes (ready_at e now))
      state states.Closing o = closes_with (with_closing e (ticked e.closing now)) (same (λ failed. (let no : states.Closing ≡ states.Failed = sym o ∙ failed in cc)) (words_drawn e) (omega arith))
      state states.Drained o = refl
      state states.Failed o = refl

  -- a moment asks for the same words
  timed_with : Answers words p.words e → (now : ℕ) → timed_out other_words e now ≡ timed_out p e now
  timed_with same now = state e.closing.state refl
    where
      x : End
      x = with_closing e (ticked e.closing now)

      lost : End
      lost = loss_expired (expiry_at x.closing.clock x.timers).loss x

      asked : e.closing.state ≢ states.Failed → (b : Bool) → path_expired words b lost ≡ path_expired p.words b lost
      asked serves true = anew (nat_lt lost.validation.drawn most_challenges)
        where
          anew : (b : Bool) → challenged_anew words b lost ≡ challenged_anew p.words b lost
          anew true = let drawn_before = (loss_expired_keeps (expiry_at x.closing.clock x.timers).loss x).words in ap (λ (w : ℕ). challenged w lost) (same serves (words_drawn lost) (omega (arith, drawn_before)))
          anew false = refl
      asked serves false = refl

      others : e.closing.state ≢ states.Failed → (b : Bool) → unless_idle b words (expiry_at x.closing.clock x.timers) lost ≡ unless_idle b p.words (expiry_at x.closing.clock x.timers) lost
      others serves true = refl
      others serves false = ap (λ (y : End). with_loss_timer (acks_expired (expiry_at x.closing.clock x.timers).acks (pacing_expired (expiry_at x.closing.clock x.timers).pacing (keep_alive_expired (expiry_at x.closing.clock x.timers).keep_alive y)))) (asked serves (expiry_at x.closing.clock x.timers).path)

      state : (s : State) → e.closing.state ≡ s → timed_out_in s other_words e now ≡ timed_out_in s p e now
      state states.Open o = ap (λ (y : End). left y) (others (λ failed. (let no : states.Open ≡ states.Failed = sym o ∙ failed in cc)) (expiry_at x.closing.clock x.timers).idle)
        where
          left : End → TimedOut
          left y = record { answer = Ok tt; end = y }
      state states.Closing o = refl
      state states.Drained o = refl
      state states.Failed o = refl

-- ---- calls by such a policy

module _ (p : Policy) (words : ℕ → ℕ) (e : End) (same : Answers words p.words e) where
  -- it has the same keys, and answers these words
  abbrev other : Policy
  other = record p { words = words }

  -- a delivery is answered the same, and leaves the same
  delivered_with : (delivery : Delivery) (o : Option (List ℕ)) (a : Answer) → IsDelivered p e delivery o a → IsDelivered other e delivery o a
  delivered_with delivery None a h = h
  delivered_with delivery (Some d) a h = subst (λ (x : Outcome). (a ≡ answers.Deliver x.answer) ⊎ (a ≡ answers.Deliver receives.Failed)) (sym (received_with p words e same (delivered_by (says_last a) delivery) d)) h

  after_delivered_with : (arrival : Arrival) (o : Option (List ℕ)) → after_delivered other e arrival o ≡ after_delivered p e arrival o
  after_delivered_with arrival None = refl
  after_delivered_with arrival (Some d) = ap (λ (x : Outcome). x.end) (received_with p words e same arrival d)

  takes_with : (delivery : Delivery) (o : Option (List ℕ)) → DeliveryTakes p e delivery o → DeliveryTakes other e delivery o
  takes_with delivery None h = h
  takes_with delivery (Some d) h = subst (λ (x : Outcome). TakesFrames x.answer) (sym (received_with p words e same (delivered_by false delivery) d)) h

  -- so is an injection
  injected_with : (b is_last : Bool) (i : Injection) → injected_if b is_last other e i ≡ injected_if b is_last p e i
  injected_with true is_last i = refl
  injected_with false is_last i = ap (λ (x : Outcome). answers.Inject x.answer) (received_with p words e same (injected_by is_last i) i.bytes)

  after_injected_with : (b is_last : Bool) (i : Injection) → after_injected_if b is_last other e i ≡ after_injected_if b is_last p e i
  after_injected_with true is_last i = refl
  after_injected_with false is_last i = ap (λ (x : Outcome). x.end) (received_with p words e same (injected_by is_last i) i.bytes)

  -- any call
  answer_with : (theirs : List (List ℕ)) (call : Call) (a : Answer) → IsAnswer p e theirs call a → IsAnswer other e theirs call a
  answer_with theirs (calls.Poll now) a h = subst (λ (x : Polled). (a ≡ answers.Poll x.answer) ⊎ (a ≡ answers.Poll (Err (record {})))) (sym (polled_with p words e same now)) h
  answer_with theirs (calls.Timeout now) a h = subst (λ (x : TimedOut). (a ≡ answers.Timeout x.answer) ⊎ (a ≡ answers.Timeout (Err (record {})))) (sym (timed_with p words e same now)) h
  answer_with theirs (calls.Deliver delivery) a h = delivered_with delivery (slice_get theirs delivery.index) a h
  answer_with theirs (calls.Inject injection) a h =
      h
      ∙ sym (injected_with (would_open p e injection.remote injection.bytes) (says_last a) injection)
      ∙ ap (λ (b : Bool). injected_if b (says_last a) other e injection) (sym (opens_with p words e injection.remote injection.bytes))
  answer_with theirs call a h = h

  after_with : (theirs : List (List ℕ)) (call : Call) (a : Answer) → after_call other e theirs call a ≡ after_call p e theirs call a
  after_with theirs (calls.Poll now) a = ap (λ (x : Polled). x.end) (polled_with p words e same now)
  after_with theirs (calls.Timeout now) a = ap (λ (x : TimedOut). x.end) (timed_with p words e same now)
  after_with theirs (calls.Deliver delivery) a = after_delivered_with (delivered_by (says_last a) delivery) (slice_get theirs delivery.index)
  after_with theirs (calls.Inject injection) a =
      ap (λ (b : Bool). after_injected_if b (says_last a) other e injection) (opens_with p words e injection.remote injection.bytes)
      ∙ after_injected_with (would_open p e injection.remote injection.bytes) (says_last a) injection
  after_with theirs call a = refl

  -- what the controller is told
  told_with : (arrival : Arrival) (o : Option (List ℕ)) → told_delivered other e arrival o ≡ told_delivered p e arrival o
  told_with arrival None = refl
  told_with arrival (Some d) = told_received_with p words e arrival d

  tells_with : (theirs : List (List ℕ)) (call : Call) → tells other e theirs call ≡ tells p e theirs call
  tells_with theirs (calls.Deliver delivery) = told_with (delivered_by false delivery) (slice_get theirs delivery.index)
  tells_with theirs (calls.Poll now) = go e.closing.state
    where
      go : (s : State) → told_polled_in s other e now ≡ told_polled_in s p e now
      go states.Open = refl
      go states.Closing = refl
      go states.Drained = refl
      go states.Failed = refl
  tells_with theirs call = refl

  gives_with : (call : Call) (a : Answer) → gives other e call a ≡ gives p e call a
  gives_with (calls.Poll now) (answers.Poll (Ok (Some transmit))) = ap (λ (x : Polled). option_to_list x.datagram) (polled_with p words e same now)
  gives_with call a = refl

  lacks_with : (theirs : List (List ℕ)) (call : Call) (a : Answer) → LacksWhere p e theirs call a → LacksWhere other e theirs call a
  lacks_with theirs (calls.Poll now) (answers.Poll (Err x)) h = subst (λ (y : Polled). GivesOrHasFailed y.answer ⊎ ((e.closing.state ≡ states.Open) × MovesRecord e)) (sym (polled_with p words e same now)) h
  lacks_with theirs (calls.Deliver delivery) (answers.Deliver receives.Failed) h = takes_with delivery (slice_get theirs delivery.index) h
  lacks_with theirs call a h = h

-- which words are drawn isn't changed by what a poll reads
reads_closing : (control : Control) (heard : Heard) (call : Call) (e : End) → (reads_window control heard call e).closing ≡ e.closing
reads_closing control heard (calls.Poll now) e = refl
reads_closing control heard call e = refl

reads_words : (control : Control) (heard : Heard) (call : Call) (e : End) → words_drawn (reads_window control heard call e) ≡ words_drawn e
reads_words control heard (calls.Poll now) e = refl
reads_words control heard call e = refl

-- the end that a call leaves, and its controller
module _ (p : Policy) (words : ℕ → ℕ) (control : Control) (heard : Heard) (e : End) (theirs : List (List ℕ)) (call : Call) (same : Answers words p.words (reads_window control heard call e)) where
  left_with : (b : Bool) (a : Answer) (next : End) → IsLeft b p control heard e theirs call a next → IsLeft b (record p { words = words }) control heard e theirs call a next
  left_with true a next h = h
  left_with false a next h =
      h
      ∙ sym (ap (λ (told : List Told). with_pacing left (pacing_left (control told) call met left)) (tells_with p words met same theirs call))
      ∙ sym (ap (λ (x : End). with_pacing x (pacing_left (control (tells (record p { words = words }) met theirs call)) call met x)) (after_with p words met same theirs call a))
    where
      met : End
      met = reads_window control heard call e

      left : End
      left = after_call p met theirs call a

  control_with : (b : Bool) (next : Control) → IsTold b p control heard e theirs call next → IsTold b (record p { words = words }) control heard e theirs call next
  control_with true next h = h
  control_with false next h = h ∙ ap (after_told control) (sym (tells_with p words (reads_window control heard call e) same theirs call))

-- a step is one by such a policy
pub step_as : (k p : Policies) (w : World) (event : RunEvent) (a : Answer) (next : World) → Serves (policy_at event.side k) (policy_at event.side p) (end_at event.side w) → IsStep p w event a next → IsStep k w event a next
step_as k p w event a next s step = record {
  answer = subst (λ (q : Policy). IsAnswer q met theirs event.call a) (sym s.keys) (answer_with one words met same theirs event.call a step.answer);
  end = subst (λ (q : Policy). IsLeft (fails a) q control heard e theirs event.call a (end_at event.side next)) (sym s.keys) (left_with one words control heard e theirs event.call same (fails a) a (end_at event.side next) step.end);
  control = subst (λ (q : Policy). IsTold (fails a) q control heard e theirs event.call (control_at event.side next)) (sym s.keys) (control_with one words control heard e theirs event.call same (fails a) (control_at event.side next) step.control);
  heard = step.heard;
  openings = subst (λ (q : Policy). CountsOpenings q.openings e.closing.state heard a) (sym s.keys) step.openings;
  others = step.others ∙ ap (λ (ds : List (List ℕ)). changed event.side w (end_at event.side next) ds (control_at event.side next) (heard_at event.side next)) (sym (ap (λ (q : Policy). gives q met event.call a) s.keys ∙ gives_with one words met same event.call a));
  lacking = subst (λ (q : Policy). LacksWhere q met theirs event.call a) (sym s.keys) (lacks_with one words met same theirs event.call a step.lacking);
}
  where
    one : Policy
    one = policy_at event.side p

    words : ℕ → ℕ
    words = (policy_at event.side k).words

    e : End
    e = end_at event.side w

    control : Control
    control = control_at event.side w

    heard : Heard
    heard = heard_at event.side w

    met : End
    met = end_met w event

    theirs : List (List ℕ)
    theirs = given_by (other_side event.side) w

    same : Answers words one.words met
    same o n high =
        let as_many = reads_words control heard event.call e in
        let kept : e.closing.state ≢ states.Failed = λ failed. o (ap (λ c. c.state) (reads_closing control heard event.call e) ∙ failed) in
        s.words kept n (omega (arith, as_many, high))

-- so is one at one end alone
module _ (k p : Policy) (theirs : List (List ℕ)) (x : Lone) (call : Call) (s : Serves k p x.end) where
  lone_same : Answers k.words p.words (reads_window x.control x.heard call x.end)
  lone_same o n high =
      let as_many = reads_words x.control x.heard call x.end in
      let kept : x.end.closing.state ≢ states.Failed = λ failed. o (ap (λ c. c.state) (reads_closing x.control x.heard call x.end) ∙ failed) in
      s.words kept n (omega (arith, as_many, high))

  pub lone_as : (a : Answer) (next : Lone) → IsLoneStep p theirs x call a next → IsLoneStep k theirs x call a next
  lone_as a next step =
      let met : End = reads_window x.control x.heard call x.end in
      record {
        answer = subst (λ (q : Policy). IsAnswer q met theirs call a) (sym s.keys) (answer_with p k.words met lone_same theirs call a step.answer);
        end = subst (λ (q : Policy). IsLeft (fails a) q x.control x.heard x.end theirs call a next.end) (sym s.keys) (left_with p k.words x.control x.heard x.end theirs call lone_same (fails a) a next.end step.end);
        control = subst (λ (q : Policy). IsTold (fails a) q x.control x.heard x.end theirs call next.control) (sym s.keys) (control_with p k.words x.control x.heard x.end theirs call lone_same (fails a) next.control step.control);
        heard = step.heard;
        openings = subst (λ (q : Policy). CountsOpenings q.openings x.end.closing.state x.heard a) (sym s.keys) step.openings;
        lacking = subst (λ (q : Policy). LacksWhere q met theirs call a) (sym s.keys) (lacks_with p k.words met lone_same theirs call a step.lacking);
      }

  -- which gives the same
  pub lone_gives : (a : Answer) → gives k (reads_window x.control x.heard call x.end) call a ≡ gives p (reads_window x.control x.heard call x.end) call a
  lone_gives a = let met : End = reads_window x.control x.heard call x.end in ap (λ (q : Policy). gives q met call a) s.keys ∙ gives_with p k.words met lone_same call a

-- a step by the ends' own policies is one by policies that do the same
pub step_of : {H K R C : Type 0} (protection : H → Protection) (aead : K → Aead) (seals openings : K → ℕ) (stream : R → Stream) (k : Policies) (ends : Ends H K R C) (w : World) (event : RunEvent) (a : Answer) (next : World)
    → w.client ≡ ends.client.end → w.server ≡ ends.server.end → IsStep (policies_of protection aead seals openings stream ends) w event a next → AreOf k protection aead seals openings stream ends → IsStep k w event a next
step_of protection aead seals openings stream k ends w event a next client server step are = step_as k (policies_of protection aead seals openings stream ends) w event a next (at event.side) step
  where
    at : (side : Side) → Serves (policy_at side k) (policy_at side (policies_of protection aead seals openings stream ends)) (end_at side w)
    at Client = subst (λ (e : End). Serves k.client (policies_of protection aead seals openings stream ends).client e) (sym client) are.client
    at Server = subst (λ (e : End). Serves k.server (policies_of protection aead seals openings stream ends).server e) (sym server) are.server
