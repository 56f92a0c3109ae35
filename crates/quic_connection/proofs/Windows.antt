-- The windows that a controller shows behind a call, what it is told in one, and what is counted in
-- one.
use Rattle.std.proofs.Common.{◌≡◌, ℕ, Bool, true, false, List, [], ◌∷◌, ◌++◌, Option, Some, None, Result, Ok, Err, IfOk, OnOk, inl, inr, refl, sym, ap, ◌∙◌, subst}
use Rattle.std.specs.Prelude.{OnErr, ◌≢◌, ◌||◌, not, if◌then◌else◌, slice_get}
use Rattle.std.specs.Option.{is_some}
use Rattle.std.proofs.lemmas.Bool.{eq-eqb}
use Rattle.quic_congestion.specs.Congestion.{Told, Steps, after_call, after_calls}
use Rattle.quic_packet.specs.Header.{key_phase}
use Rattle.quic_packet.specs.Datagram.{Opening}
use Rattle.quic_spaces.specs.Numbers.{expected, number_opened}
use Rattle.quic_recovery_core.specs.Duplicates.{is_duplicate}
use Rattle.quic_wire_core.specs.declared.shared.EcnCodepoint.{EcnCodepoint}
use Rattle.quic_time.specs.Timers.{no_timers}
use Rattle.quic_machine.specs.Arrival.{Arrival, arriving, early, delivered_by}
use Rattle.quic_machine.specs.declared.answers.State.{State}
use Rattle.quic_machine.specs.declared.answers.State.TheVariants as states
use Rattle.quic_machine.specs.declared.answers.Failed.{Failed}
use Rattle.quic_machine.specs.declared.answers.Received.{Received}
use Rattle.quic_machine.specs.declared.answers.Received.TheVariants as receives
use Rattle.quic_machine.specs.declared.answers.DropReason.{DropReason}
use Rattle.quic_machine.specs.declared.answers.DropReason.TheVariants as drops
use Rattle.quic_machine.specs.declared.run.Call.TheVariants as calls
use Rattle.quic_machine.specs.declared.run.Delivery.{Delivery}
use Rattle.quic_machine.specs.declared.run.Injection.{Injection}
use Rattle.quic_machine.specs.declared.run.Answer.TheVariants as answers
use Rattle.quic_machine.specs.Policy.{Policy}
use Rattle.quic_machine.specs.End.{End, ConnectionValue, HasFailed, drawing, with_numbers}
use Rattle.quic_machine.specs.Heard.{is_last, heard_datagram, heard_given}
use Rattle.quic_machine.specs.Control.{after_told, with_pacing}
use Rattle.quic_machine.specs.Opens.{in_phase, opens_behind, head, would_open}
use Rattle.quic_machine.specs.Migration.{is_there, has_moved, pacing_moved, repaced}
use Rattle.quic_machine.specs.Receive.{Outcome, received, received_in, headed, opened_as, dropped, unopened_in, by_state, opening, told_by_state, told_opened_as, told_headed, told_received_in, told_received}
use Rattle.quic_machine.specs.Lacking.{TakesFrames}
use Rattle.quic_machine.specs.Timeouts.{timed_out, told_timed_out}
use Rattle.quic_machine.specs.Machine.{IsAnswer, IsDelivered, IsLeft, IsTold, IsHeard, HasStopped, CountsIn, says_last, heard_delivery, reads_window, fails, told_delivered, injected_if, after_delivered, after_injected_if}
use Rattle.quic_machine.specs.InjectionCases.{by_injection}
use Rattle.quic_machine.specs.Poll.{polled, told_polled}
use Rattle.quic_machine.specs.declared.answers.Transmit.{Transmit}
use Rattle.quic_connection_parts.specs.Telling.{windows_of, reading, telling, taking}
use Rattle.quic_connection.proofs.Openings.{says, received_says, received_counts}

-- a controller behind calls, and behind more
after_more : {C : Type 0} (steps : Steps C) (c : C) (told more : List Told) → after_calls steps c (told ++ more) ≡ after_calls steps (after_calls steps c told) more
after_more steps c [] more = refl
after_more steps c (call ∷ told) more = after_more steps (after_call steps call c) told more

-- the windows that it shows then
pub windows_told : {C : Type 0} (steps : Steps C) (window : C → ℕ) (c : C) (told : List Told) → windows_of steps window (after_calls steps c told) ≡ after_told (windows_of steps window c) told
windows_told steps window c told = λ i more. sym (ap window (after_more steps c told more)) i

-- the same, of a controller that was told so
pub windows_are : {C : Type 0} (steps : Steps C) (window : C → ℕ) (old new : C) (told : List Told) → new ≡ after_calls steps old told → windows_of steps window new ≡ after_told (windows_of steps window old) told
windows_are steps window old new told is = ap (windows_of steps window) is ∙ windows_told steps window old told

-- ---- what doesn't open tells nothing

packet_tells : (o : Option Opening) (arrival : Arrival) (e : End) → is_some (in_phase o) ≡ false → told_opened_as o arrival e ≡ []
packet_tells None arrival e none = refl
packet_tells (Some o) arrival e none = go (key_phase o.first) none
  where
    go : (b : Bool) → is_some (if b then None else Some o) ≡ false → (if b || is_duplicate e.numbers.opened o.number then [] else told_by_state e.closing.state o arrival (with_numbers e (number_opened e.numbers o.number))) ≡ []
    go true none = refl
    go false none = cc

headed_tells : (r : Result (List ℕ) DropReason) (p : Policy) (e : End) (arrival : Arrival) (d : List ℕ) → is_some (opens_behind r p (expected e.numbers) d) ≡ false → told_headed r p e arrival d ≡ []
headed_tells (Err error) p e arrival d none = refl
headed_tells (Ok id) p e arrival d none = packet_tells (opening p e d) arrival e none

received_tells : (state : State) (p : Policy) (e : End) (arrival : Arrival) (d : List ℕ) → would_open p e arrival.remote d ≡ false → told_received_in state p e arrival d ≡ []
received_tells states.Failed p e arrival d none = refl
received_tells states.Drained p e arrival d none = refl
received_tells states.Open p e arrival d none = headed_tells (head e arrival.remote d) p e arrival d none
received_tells states.Closing p e arrival d none = headed_tells (head e arrival.remote d) p e arrival d none

-- and is dropped, where it isn't the last that may not open
packet_drops : (o : Option Opening) (p : Policy) (arrival : Arrival) (e : End) → arrival.last ≡ false → is_some (in_phase o) ≡ false → TakesFrames (opened_as o p arrival e).answer → ⊥
packet_drops None p arrival e more none takes = go e.closing.state arrival.last more takes
  where
    go : (s : State) (last : Bool) → last ≡ false → TakesFrames (unopened_in s last arrival e).answer → ⊥
    go states.Open true more takes = cc
    go states.Open false more takes = takes
    go states.Closing last more takes = takes
    go states.Drained last more takes = takes
    go states.Failed last more takes = takes
packet_drops (Some o) p arrival e more none takes = go (key_phase o.first) none takes
  where
    go : (b : Bool) → is_some (if b then None else Some o) ≡ false
        → TakesFrames (if b then dropped drops.KeyPhase e else (if is_duplicate e.numbers.opened o.number then dropped drops.Duplicate e else by_state e.closing.state o arrival (with_numbers e (number_opened e.numbers o.number)))).answer → ⊥
    go true none takes = takes
    go false none takes = cc

headed_drops : (r : Result (List ℕ) DropReason) (p : Policy) (e : End) (arrival : Arrival) (d : List ℕ) → arrival.last ≡ false → is_some (opens_behind r p (expected e.numbers) d) ≡ false → TakesFrames (headed r p e arrival d).answer → ⊥
headed_drops (Err error) p e arrival d more none takes = takes
headed_drops (Ok id) p e arrival d more none takes = packet_drops (opening p e d) p arrival e more none takes

received_drops : (state : State) (p : Policy) (e : End) (arrival : Arrival) (d : List ℕ) → arrival.last ≡ false → would_open p e arrival.remote d ≡ false → TakesFrames (received_in state p e arrival d).answer → ⊥
received_drops states.Failed p e arrival d more none takes = takes
received_drops states.Drained p e arrival d more none takes = takes
received_drops states.Open p e arrival d more none takes = headed_drops (head e arrival.remote d) p e arrival d more none takes
received_drops states.Closing p e arrival d more none takes = headed_drops (head e arrival.remote d) p e arrival d more none takes

-- ---- what a call tells

module _ {H K R C : Type 0} (steps : Steps C) (window : C → ℕ) (p : Policy) (old new : ConnectionValue H K R C) where
  -- a poll
  pub poll_told : (now : ℕ) (r : Result (Option Transmit) Failed) → OnOk r (new.control ≡ after_calls steps old.control (told_polled p (reading window old) now))
      → IsTold (fails (answers.Poll r)) p (windows_of steps window old.control) old.heard old.end [] (calls.Poll now) (windows_of steps window new.control)
  poll_told now (Ok x) is = windows_are steps window old.control new.control (told_polled p (reading window old) now) is
  poll_told now (Err x) is = tt

  pub poll_answers : (now : ℕ) (r : Result (Option Transmit) Failed) → OnOk r (r ≡ (polled p (reading window old) now).answer)
      → IsAnswer p (reads_window (windows_of steps window old.control) old.heard (calls.Poll now) old.end) [] (calls.Poll now) (answers.Poll r)
  poll_answers now (Ok x) is = inl (ap answers.Poll is)
  poll_answers now (Err x) is = inr refl

  -- a moment
  abbrev Passed : ℕ → Result (Unit {0}) Failed → Type 0
  Passed now r = OnOk r (new ≡ drawing new.random (telling steps old (told_timed_out old.end now) (timed_out p old.end now).end))

  pub timeout_answers : (now : ℕ) (r : Result (Unit {0}) Failed) → OnOk r (r ≡ (timed_out p old.end now).answer)
      → IsAnswer p (reads_window (windows_of steps window old.control) old.heard (calls.Timeout now) old.end) [] (calls.Timeout now) (answers.Timeout r)
  timeout_answers now (Ok x) is = inl (ap answers.Timeout is)
  timeout_answers now (Err x) is = inr refl

  pub timeout_told : (now : ℕ) (r : Result (Unit {0}) Failed) → Passed now r
      → IsTold (fails (answers.Timeout r)) p (windows_of steps window old.control) old.heard old.end [] (calls.Timeout now) (windows_of steps window new.control)
  timeout_told now (Ok x) left = windows_are steps window old.control new.control (told_timed_out old.end now) (ap (λ w. w.control) left)
  timeout_told now (Err x) left = tt

  -- what stopped has stopped
  stopped : HasFailed old new → (old.end.closing.state ≡ states.Failed → new ≡ old) → (old.end.closing.state ≢ states.Failed → new.end.timers ≡ no_timers) → HasStopped old.end new.end
  stopped failed still timers = (failed.state, failed.reason, λ before. ap (λ w. w.end) (still before), timers)

  pub timeout_left : (now : ℕ) (r : Result (Unit {0}) Failed) → Passed now r → OnErr r (HasFailed old new) → (old.end.closing.state ≡ states.Failed → new ≡ old) → (old.end.closing.state ≢ states.Failed → OnErr r (new.end.timers ≡ no_timers))
      → IsLeft (fails (answers.Timeout r)) p (windows_of steps window old.control) old.heard old.end [] (calls.Timeout now) (answers.Timeout r) new.end
  timeout_left now (Ok x) left failed still timers = ap (λ w. w.end) left
  timeout_left now (Err x) left failed still timers = stopped failed still timers

  -- such a datagram came
  abbrev Came : Arrival → List ℕ → Received → Type 0
  Came arrival d r = r ≢ receives.Failed → let after = (received p old.end arrival d).end in
      new ≡ drawing new.random (taking steps window old (heard_datagram (is_there arrival.remote old.end) (has_moved old.end after) d r old.heard) (told_received p old.end (early arrival) d) after)

  -- a datagram of the other end
  received_left : (arrival : Arrival) (d : List ℕ) (r : Received) → r ≢ receives.Failed → Came arrival d r
      → windows_of steps window new.control ≡ after_told (windows_of steps window old.control) (told_received p old.end (early arrival) d)
  received_left arrival d r kept left = windows_are steps window old.control new.control (told_received p old.end (early arrival) d) (ap (λ w. w.control) (left kept))

  -- the window behind it
  abbrev behind : ℕ → ℕ → Option EcnCodepoint → List ℕ → ℕ
  behind now remote mark d = windows_of steps window old.control (told_received p old.end (arriving now remote mark false) d)

  -- the end that a datagram leaves, by what is answered: its pacer is another where its path is
  left_by : (now remote : ℕ) (mark : Option EcnCodepoint) (last : Bool) (d : List ℕ) (r : Received) → r ≢ receives.Failed → r ≡ (received p old.end (arriving now remote mark last) d).answer → Came (arriving now remote mark last) d r
      → new.end ≡ repaced (behind now remote mark d) old.end (received p old.end (arriving now remote mark (says r)) d).end
  left_by now remote mark last d r kept is left =
      ap (λ w. w.end) (left kept)
      ∙ ap (λ (o : Outcome). repaced (behind now remote mark d) old.end o.end) (received_says p old.end now remote mark d last)
      ∙ ap (λ (a : Received). repaced (behind now remote mark d) old.end (received p old.end (arriving now remote mark (says a)) d).end) (sym is)

  answered_by : (now remote : ℕ) (mark : Option EcnCodepoint) (last : Bool) (d : List ℕ) (r : Received) → r ≡ (received p old.end (arriving now remote mark last) d).answer
      → r ≡ (received p old.end (arriving now remote mark (says r)) d).answer
  answered_by now remote mark last d r is =
      is
      ∙ ap (λ (o : Outcome). o.answer) (received_says p old.end now remote mark d last)
      ∙ ap (λ (a : Received). (received p old.end (arriving now remote mark (says a)) d).answer) (sym is)

  -- whatever it is answered
  module _ (theirs : List (List ℕ)) (delivery : Delivery) (d : List ℕ) (last : Bool) (found : slice_get theirs delivery.index ≡ Some d) where
    abbrev arrival : Arrival
    arrival = arriving delivery.now delivery.remote delivery.ecn last

    -- the end that a delivery leaves, where there is such a datagram
    abbrev delivered : Received → Option (List ℕ) → End
    delivered r o = repaced (windows_of steps window old.control (told_delivered p old.end (delivered_by false delivery) o)) old.end (after_delivered p old.end (delivered_by (says r) delivery) o)

    pub delivery_answers : (r : Received) → (r ≢ receives.Failed → r ≡ (received p old.end arrival d).answer)
        → IsAnswer p (reads_window (windows_of steps window old.control) old.heard (calls.Deliver delivery) old.end) theirs (calls.Deliver delivery) (answers.Deliver r)
    delivery_answers r answer = subst (λ (o : Option (List ℕ)). IsDelivered p old.end delivery o (answers.Deliver r)) (sym found) (go r answer)
      where
        kept : (r : Received) → r ≢ receives.Failed → (r ≢ receives.Failed → r ≡ (received p old.end arrival d).answer) → IsDelivered p old.end delivery (Some d) (answers.Deliver r)
        kept r other answer = inl (ap answers.Deliver (answered_by delivery.now delivery.remote delivery.ecn last d r (answer other)))

        go : (r : Received) → (r ≢ receives.Failed → r ≡ (received p old.end arrival d).answer) → IsDelivered p old.end delivery (Some d) (answers.Deliver r)
        go receives.Failed answer = inr refl
        go receives.Taken answer = kept receives.Taken (λ failed. cc) answer
        go (receives.Dropped reason) answer = kept (receives.Dropped reason) (λ failed. cc) answer
        go (receives.Closed error) answer = kept (receives.Closed error) (λ failed. cc) answer

    pub delivery_left : (r : Received) → (r ≢ receives.Failed → r ≡ (received p old.end arrival d).answer) → Came arrival d r
        → (r ≡ receives.Failed → HasFailed old new) → (r ≡ receives.Failed → old.end.closing.state ≢ states.Failed) → (r ≡ receives.Failed → new.end.timers ≡ no_timers)
        → IsLeft (fails (answers.Deliver r)) p (windows_of steps window old.control) old.heard old.end theirs (calls.Deliver delivery) (answers.Deliver r) new.end
    delivery_left r answer left failed before timers = go r answer left failed before timers
      where
        kept : (r : Received) → r ≢ receives.Failed → (r ≢ receives.Failed → r ≡ (received p old.end arrival d).answer) → Came arrival d r → new.end ≡ delivered r (slice_get theirs delivery.index)
        kept r other answer left = left_by delivery.now delivery.remote delivery.ecn last d r other (answer other) left ∙ ap (delivered r) (sym found)

        go : (r : Received) → (r ≢ receives.Failed → r ≡ (received p old.end arrival d).answer) → Came arrival d r
            → (r ≡ receives.Failed → HasFailed old new) → (r ≡ receives.Failed → old.end.closing.state ≢ states.Failed) → (r ≡ receives.Failed → new.end.timers ≡ no_timers)
            → IsLeft (fails (answers.Deliver r)) p (windows_of steps window old.control) old.heard old.end theirs (calls.Deliver delivery) (answers.Deliver r) new.end
        go receives.Failed answer left failed before timers = stopped (failed refl) (λ was. absurd (before refl was)) (λ other. timers refl)
        go receives.Taken answer left failed before timers = kept receives.Taken (λ failed. cc) answer left
        go (receives.Dropped reason) answer left failed before timers = kept (receives.Dropped reason) (λ failed. cc) answer left
        go (receives.Closed error) answer left failed before timers = kept (receives.Closed error) (λ failed. cc) answer left

    pub delivery_told : (r : Received) → Came arrival d r
        → IsTold (fails (answers.Deliver r)) p (windows_of steps window old.control) old.heard old.end theirs (calls.Deliver delivery) (windows_of steps window new.control)
    delivery_told r left = go r left
      where
        told : (r : Received) → r ≢ receives.Failed → Came arrival d r
            → windows_of steps window new.control ≡ after_told (windows_of steps window old.control) (told_delivered p old.end (delivered_by false delivery) (slice_get theirs delivery.index))
        told r kept left = received_left arrival d r kept left ∙ ap (λ (o : Option (List ℕ)). after_told (windows_of steps window old.control) (told_delivered p old.end (delivered_by false delivery) o)) (sym found)

        go : (r : Received) → Came arrival d r → IsTold (fails (answers.Deliver r)) p (windows_of steps window old.control) old.heard old.end theirs (calls.Deliver delivery) (windows_of steps window new.control)
        go receives.Failed left = tt
        go receives.Taken left = told receives.Taken (λ failed. cc) left
        go (receives.Dropped reason) left = told (receives.Dropped reason) (λ failed. cc) left
        go (receives.Closed error) left = told (receives.Closed error) (λ failed. cc) left

    pub delivery_heard : (r : Received) → Came arrival d r
        → IsHeard (fails (answers.Deliver r)) old.end new.end theirs (calls.Deliver delivery) (answers.Deliver r) old.heard new.heard
    delivery_heard r left = go r left
      where
        heard : (r : Received) → r ≢ receives.Failed → Came arrival d r → new.heard ≡ heard_delivery old.end new.end delivery.remote (slice_get theirs delivery.index) r old.heard
        heard r kept left =
            ap (λ w. w.heard) (left kept)
            ∙ ap (λ (b : Bool). heard_datagram (is_there delivery.remote old.end) b d r old.heard) (sym (ap (λ (w : ConnectionValue H K R C). has_moved old.end w.end) (left kept)))
            ∙ ap (λ (o : Option (List ℕ)). heard_delivery old.end new.end delivery.remote o r old.heard) (sym found)

        go : (r : Received) → Came arrival d r → IsHeard (fails (answers.Deliver r)) old.end new.end theirs (calls.Deliver delivery) (answers.Deliver r) old.heard new.heard
        go receives.Failed left = tt
        go receives.Taken left = heard receives.Taken (λ failed. cc) left
        go (receives.Dropped reason) left = heard (receives.Dropped reason) (λ failed. cc) left
        go (receives.Closed error) left = heard (receives.Closed error) (λ failed. cc) left

  -- by what is counted, the answer is the one for the last packet that may not open
  pub counted : (now remote : ℕ) (mark : Option EcnCodepoint) (d : List ℕ) (limit : ℕ) (r : Received) → (r ≢ receives.Failed → r ≡ (received p old.end (arriving now remote mark (is_last limit old.heard)) d).answer) → CountsIn old.end.closing.state limit old.heard r
  counted now remote mark d limit r answer = go r answer
    where
      kept : (r : Received) → r ≢ receives.Failed → (r ≢ receives.Failed → r ≡ (received p old.end (arriving now remote mark (is_last limit old.heard)) d).answer) → CountsIn old.end.closing.state limit old.heard r
      kept r other answer = subst (λ (a : Received). CountsIn old.end.closing.state limit old.heard a) (sym (answer other)) (received_counts p old.end now remote mark d limit old.heard)

      failed_counts : (s : State) → CountsIn s limit old.heard receives.Failed
      failed_counts states.Open = tt
      failed_counts states.Closing = tt
      failed_counts states.Drained = tt
      failed_counts states.Failed = tt

      go : (r : Received) → (r ≢ receives.Failed → r ≡ (received p old.end (arriving now remote mark (is_last limit old.heard)) d).answer) → CountsIn old.end.closing.state limit old.heard r
      go receives.Failed answer = failed_counts old.end.closing.state
      go receives.Taken answer = kept receives.Taken (λ failed. cc) answer
      go (receives.Dropped reason) answer = kept (receives.Dropped reason) (λ failed. cc) answer
      go (receives.Closed error) answer = kept (receives.Closed error) (λ failed. cc) answer

  -- bytes that don't open
  module _ (injection : Injection) (d : List ℕ) (last : Bool) (r : Received) (bytes : injection.bytes ≡ d) (none : would_open p old.end injection.remote d ≡ false)
      (takes : r ≡ receives.Failed → TakesFrames (received p old.end (arriving injection.now injection.remote injection.ecn false) d).answer) (left : Came (arriving injection.now injection.remote injection.ecn last) d r) where
    -- memory doesn't lack for them
    pub injection_kept : r ≢ receives.Failed
    injection_kept failed = received_drops old.end.closing.state p old.end (arriving injection.now injection.remote injection.ecn false) d refl none (takes failed)

    pub injection_told : IsTold false p (windows_of steps window old.control) old.heard old.end [] (calls.Inject injection) (windows_of steps window new.control)
    injection_told =
        received_left (arriving injection.now injection.remote injection.ecn last) d r injection_kept left
        ∙ ap (after_told (windows_of steps window old.control)) (received_tells old.end.closing.state p old.end (arriving injection.now injection.remote injection.ecn false) d none)

    -- they don't say that the peer has moved
    stays : (b : Bool) → has_moved old.end (received p old.end (arriving injection.now injection.remote injection.ecn b) d).end ≡ false
    stays b =
        let i : Injection = record injection { bytes = d } in
        let same : has_moved old.end old.end ≡ false = ap not (eq-eqb old.end.path.generation old.end.path.generation refl) in
        subst (λ (opens : Bool). has_moved old.end (after_injected_if opens b p old.end i) ≡ false) none (by_injection p old.end b i (λ (x : End). has_moved old.end x ≡ false) same (λ now. same))

    pub injection_heard : IsHeard false old.end new.end [] (calls.Inject injection) (answers.Inject r) old.heard new.heard
    injection_heard =
        ap (λ w. w.heard) (left injection_kept)
        ∙ ap (λ (b : Bool). heard_datagram (is_there injection.remote old.end) b d r old.heard) (stays last)
        ∙ ap (λ (ds : List ℕ). heard_datagram (is_there injection.remote old.end) false ds r old.heard) (sym bytes)

    -- an answer to an injection says as much as one to a delivery
    same_says : (r : Received) → says_last (answers.Inject r) ≡ says r
    same_says receives.Failed = refl
    same_says receives.Taken = refl
    same_says (receives.Dropped reason) = refl
    same_says (receives.Closed error) = refl

    pub injection_answers : (r ≢ receives.Failed → r ≡ (received p old.end (arriving injection.now injection.remote injection.ecn last) d).answer) → answers.Inject r ≡ injected_if false (says_last (answers.Inject r)) p old.end injection
    injection_answers answer =
        ap answers.Inject
        (answered_by injection.now injection.remote injection.ecn last d r (answer injection_kept)
        ∙ ap (λ (b : Bool). (received p old.end (arriving injection.now injection.remote injection.ecn b) d).answer) (sym (same_says r))
        ∙ ap (λ (ds : List ℕ). (received p old.end (arriving injection.now injection.remote injection.ecn (says_last (answers.Inject r))) ds).answer) (sym bytes))

    pub injection_left : (r ≢ receives.Failed → r ≡ (received p old.end (arriving injection.now injection.remote injection.ecn last) d).answer) → new.end ≡ after_injected_if false (says_last (answers.Inject r)) p old.end injection
    injection_left answer =
        let x : End = (received p old.end (arriving injection.now injection.remote injection.ecn (says r)) d).end in
        left_by injection.now injection.remote injection.ecn last d r injection_kept (answer injection_kept) left
        ∙ ap (λ (b : Bool). with_pacing x (pacing_moved b (behind injection.now injection.remote injection.ecn d) x)) (stays (says r))
        ∙ ap (λ (b : Bool). (received p old.end (arriving injection.now injection.remote injection.ecn b) d).end) (sym (same_says r))
        ∙ ap (λ (ds : List ℕ). (received p old.end (arriving injection.now injection.remote injection.ecn (says_last (answers.Inject r))) ds).end) (sym bytes)

  -- ---- what is counted in a call

  -- a poll
  pub poll_heard : (now : ℕ) (r : Result (Option Transmit) Failed) → IfOk r (λ given. new.heard ≡ heard_given given old.heard) → IsHeard (fails (answers.Poll r)) old.end new.end [] (calls.Poll now) (answers.Poll r) old.heard new.heard
  poll_heard now (Ok given) is = is
  poll_heard now (Err x) is = tt

  -- a moment
  pub timeout_heard : (now : ℕ) (r : Result (Unit {0}) Failed) → Passed now r → IsHeard (fails (answers.Timeout r)) old.end new.end [] (calls.Timeout now) (answers.Timeout r) old.heard new.heard
  timeout_heard now (Ok x) left = ap (λ w. w.heard) left
  timeout_heard now (Err x) left = tt
