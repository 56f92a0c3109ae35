-- A half that receives is stopped, or done, only where this is so of its stream: what each word
-- about an end's streams leaves of that.
use Rattle.std.proofs.Common.{◌≡◌, ℕ, ◌+◌, Bool, true, false, not, ◌&&◌, ◌||◌, List, [], ◌∷◌, Option, Some, None, Ok, Err, refl, sym, ap, ◌∙◌, subst, ◌⊎◌, inl, inr}
use Rattle.std.specs.Option.{is_some}
use Rattle.std.proofs.lemmas.Bool.{cond_both}
use Rattle.quic_wire_core.specs.declared.stream_id.Side.{Side}
use Rattle.quic_wire_core.specs.StreamId.{dir_of}
use Rattle.quic_wire.specs.Value.{FrameValue, StreamValue}
use Rattle.quic_streams_parts.specs.declared.answers.ReadError.TheVariants as read_errors
use Rattle.quic_streams_parts.specs.Dirs.{Counts, is_own, is_two_way}
use Rattle.quic_streams_parts.specs.Table.{at}
use Rattle.quic_streams_parts.specs.RecvHalf.{RecvHalf, new_recv_half, begun, read_on, stopped_now, after_frame, after_reset_stream, next_unless, raised_on}
use Rattle.quic_streams_halves.specs.Halves.{has_place, placed, changed_at, without_half, is_done, status_from, half_of}
use Rattle.quic_retransmits.specs.Retransmits.{Retransmits}
use Rattle.quic_streams_state.specs.declared.state.StreamsState.{StreamsState}
use Rattle.quic_streams_state.specs.State.{Receiving, receives_on, is_opened, first_window, receiving_half, sending_status, with_recv, recv_done, done_if, seen_at}
use Rattle.quic_streams_state.specs.Opening.{opened_by, beyond}
use Rattle.quic_streams_state.specs.Control.{limit_told}
use Rattle.quic_streams_state.specs.Reading.{Told, told_bytes, told_end, told_reset, told_by, next_at, next_answer, after_next, after_read_begun, is_closed_at, is_closed, after_stop, after_received_reset}
use Rattle.quic_streams_state.specs.Taking.{part_for, renewed}
use Rattle.quic_streams_laws.specs.Content.{IsNextAnswer}
use Rattle.quic_streams_laws.specs.ContentLaws.{next_lacking}
use Rattle.quic_streams_laws.specs.Each.{HalfIs}
use Rattle.quic_streams_laws.specs.EachLaws.{each_with, each_without, half_follows}
use Rattle.quic_streams_laws.specs.KeepingLaws.{at-half, live_receives, by_opened, by_frame, stream_cases, reset_cases}
use Rattle.quic_streams_laws.specs.LimitedLaws.{WasReceiving, in_use, unused, was_receiving}
use Rattle.quic_streams_laws.specs.QuietLaws.{by_told, by_tells}
use Rattle.quic_streams_laws.specs.Shape.{IsShaped}
use Rattle.quic_streams_laws.specs.ShapeLaws.{shape_any}
use Rattle.quic_machine.specs.Policy.{Policy}
use Rattle.quic_machine.specs.Calls.{AreNexts, after_nexts}
use Rattle.quic_machine.specs.End.{End}
use Rattle.quic_machine.specs.Receive.{take_frame}
use Rattle.quic_machine.specs.Poll.{polled}
use Rattle.quic_headline.specs.Runs.{Next, tells_end}
use Rattle.quic_headline.specs.Undone.{tells_reset}
use Rattle.quic_headline.proofs.Unread.Walk.{Of, frame_left, opened_left}
use Rattle.quic_headline.proofs.Credit.Cases.{begun_to, next_to, stop_to, reset_told_to, renewed_to}
use Rattle.quic_headline.proofs.Credit.Counted.{live_of}
use Rattle.quic_headline.proofs.Credit.Drafts.{AreFine, poll_known}
use Rattle.quic_streams_laws.specs.Keeping as changes

-- ---- what is said of halves

-- of one half: it is stopped, or done, only where that is so
abbrev pub Fits : (ℕ → Type 0) → (ℕ → Type 0) → ℕ → Option RecvHalf → Bool → Type 0
Fits stop over id o used = HalfIs (Unit {0}) (λ (h : RecvHalf). h.stopped ≡ true → stop id) (over id) o used

-- of each
pub record Shuts (stop over : ℕ → Type 0) (side : Side) (r : Receiving) (announced configured : Counts) : Type 0 where
  pub each : (id : ℕ) → Fits stop over id (at r.halves.live id) (has_place side r.halves.places id)

-- where more is so
pub shuts_more : (stop over more_stop more_over : ℕ → Type 0) → ((id : ℕ) → stop id → more_stop id) → ((id : ℕ) → over id → more_over id) → (s : StreamsState) → Of (Shuts stop over) s → Of (Shuts more_stop more_over) s
shuts_more stop over more_stop more_over stops ends s i = record {
  each = λ id. half_follows {A = RecvHalf} {N = Unit {0}} {N' = Unit {0}} {Q = λ (h : RecvHalf). h.stopped ≡ true → stop id} {Q' = λ (h : RecvHalf). h.stopped ≡ true → more_stop id} {D = over id} {D' = more_over id} (λ n. n) (λ h q halted. stops id (q halted)) (ends id)
      (at s.receiving.halves.live id) (has_place s.side s.receiving.halves.places id) (i.each id);
}

-- these tell the end of a stream, or its reset
abbrev pub Tells : List Next → Type 0
Tells said = (tells_end said ≡ true) ⊎ (tells_reset said ≡ true)

-- a frame stops no half
pub frame_stopped : (h : RecvHalf) (f : StreamValue) → (after_frame h f).stopped ≡ h.stopped
frame_stopped h f = cond_both h.stopped _ _ (λ (g : RecvHalf). g.stopped ≡ h.stopped) (λ e. refl) (λ e. cond_both (is_some h.reset) _ _ (λ (g : RecvHalf). g.stopped ≡ h.stopped) (λ c. refl) (λ c. refl))

pub reset_stopped : (h : RecvHalf) (code size : ℕ) → (after_reset_stream h code size).stopped ≡ h.stopped
reset_stopped h code size = cond_both h.stopped _ _ (λ (g : RecvHalf). g.stopped ≡ h.stopped) (λ e. refl) (λ e. cond_both (is_some h.reset) _ _ (λ (g : RecvHalf). g.stopped ≡ h.stopped) (λ c. refl) (λ c. refl))

-- what a `next` answers of a half that was reset, or at its end, tells the reset or the end
tells_there : (told : Told) (s : StreamsState) (id most : ℕ) (h : RecvHalf) (said : List Next) → receiving_half s id ≡ Some h → (is_some h.reset ≡ true) ⊎ (next_answer told s id most ≡ Ok None) → Tells (next_answer told s id most ∷ said)
tells_there told s id most h said there (inr same) = subst (λ (x : Next). Tells (x ∷ said)) (sym same) (inl refl)
tells_there told_end s id most h said there (inl cut) = inl refl
tells_there (told_reset code) s id most h said there (inl cut) = inr refl
tells_there told_bytes s id most h said there (inl cut) = subst (λ (o : Option RecvHalf). Tells (next_at told_bytes o most ∷ said)) (sym there) (go h.reset cut)
  where
    go : (o : Option ℕ) → is_some o ≡ true → Tells (next_unless o h most ∷ said)
    go None some = cc
    go (Some code) some = inr refl

-- what is told behind a `next` is told with it
tells_later : (x : Next) (said : List Next) → Tells said → Tells (x ∷ said)
tells_later (Ok (Some chunk)) said t = t
tells_later (Ok None) said t = inl refl
tells_later (Err (read_errors.Reset code)) said t = inr refl
tells_later (Err read_errors.Blocked) said t = t
tells_later (Err read_errors.Memory) said t = t

module _ (stop over : ℕ → Type 0) where
  abbrev K : Side → Receiving → Counts → Counts → Type 0
  K = Shuts stop over

  -- with the halves in order
  abbrev pub Shut : StreamsState → Type 0
  Shut s = IsShaped s × Of K s

  -- ---- one half

  pub half_fits : (s : StreamsState) (id : ℕ) (h : RecvHalf) → receiving_half s id ≡ Some h → Of K s → h.stopped ≡ true → stop id
  half_fits s id h is i = go (was_receiving s id h is)
    where
      F : Option RecvHalf → Type 0
      F o = Fits stop over id o (has_place s.side s.receiving.halves.places id)

      go : WasReceiving s id h → h.stopped ≡ true → stop id
      go (in_use found) = subst F found (i.each id)
      go (unused found free same) = λ halted. (let never : false ≡ true = sym (ap (λ (g : RecvHalf). g.stopped) same) ∙ halted in cc)

  -- it has another value
  with_fits : (s : StreamsState) (id : ℕ) (new : RecvHalf) → IsShaped s → (new.stopped ≡ true → stop id) → Of K s → Of K (with_recv s id new)
  with_fits s id new shape now i = record {
    each = each_with s.side s.receiving.halves id new (λ j. Unit {0}) (λ j. Unit {0}) (λ j h. h.stopped ≡ true → stop j) (λ j h. h.stopped ≡ true → stop j) over over shape.receiving.runs now (λ j o used ne x. x) i.each;
  }

  -- it is done
  done_fits : (s : StreamsState) (id : ℕ) (h : RecvHalf) → at s.receiving.halves.live id ≡ Some h → IsShaped s → over id → Of K s → Of K (recv_done s id)
  done_fits s id h is shape now i = done_on (not (is_own s.side id) && (not (is_two_way (dir_of id)) || is_done (sending_status s id))) (record {
    each = each_without s.side s.receiving.halves id (λ j. Unit {0}) (λ j g. g.stopped ≡ true → stop j) over shape.receiving.sorted (shape.receiving.placed id h is) now i.each;
  })
    where
      gone : StreamsState
      gone = record s { receiving = record s.receiving { halves = without_half s.receiving.halves id; gone = s.receiving.gone + seen_at (at s.receiving.halves.live id) } }

      done_on : (b : Bool) → Of K gone → Of K (done_if b id gone)
      done_on true j = j
      done_on false j = j

  with_shut : (s : StreamsState) (id : ℕ) (old new : RecvHalf) → receiving_half s id ≡ Some old → (new.stopped ≡ true → stop id) → Shut s → Shut (with_recv s id new)
  with_shut s id old new is now i = (shape_any (changes.changes_receiving s.receiving id old new) s (is, tt, refl) i.0, with_fits s id new i.0 now i.1)

  done_shut : (s : StreamsState) (id : ℕ) (h : RecvHalf) → at s.receiving.halves.live id ≡ Some h → over id → Shut s → Shut (recv_done s id)
  done_shut s id h is now i = (shape_any (changes.ends_receiving id h) s is i.0, done_fits s id h is i.0 now i.1)

  -- ---- calls

  -- a read
  pub begun_shut : (s : StreamsState) (id : ℕ) (ordered : Bool) → Shut s → Shut (after_read_begun s id ordered)
  begun_shut s id ordered i = begun_to Shut s id ordered i (λ h is. with_shut s id h (begun h false) is (half_fits s id h is i.1) i)

  pub nexts_shut : (told : Told) (s : StreamsState) (id : ℕ) (mosts : List ℕ) (said : List Next) → AreNexts told s id mosts said → (Tells said → over id) → Shut s → Shut (after_nexts told s id mosts said)
  nexts_shut told s id [] [] are ends i = i
  nexts_shut told s id [] (x ∷ said) are ends i = absurd are
  nexts_shut told s id (most ∷ mosts) [] are ends i = absurd are
  nexts_shut told s id (most ∷ mosts) (x ∷ said) are ends i = nexts_shut (told_by x told) (after_next told x s id most) id mosts said are.1 (λ t. ends (tells_later x said t)) (one are.0)
    where
      one : IsNextAnswer told s id most x → Shut (after_next told x s id most)
      one (inr lacks) = subst (λ (a : Next). Shut (after_next told a s id most)) (sym lacks) (subst Shut (sym (next_lacking told s id most)) i)
      one (inl same) = subst (λ (a : Next). Shut (after_next told a s id most)) (sym same) (next_to Shut told s id most i
          (λ h is. with_shut s id h (read_on h most) is (half_fits s id h is i.1) i)
          (λ h is out up. done_shut s id h (live_of s id h is out) (ends (subst (λ (a : Next). Tells (a ∷ said)) (sym same) (tells_there told s id most h said is up))) i))

  -- a stop
  pub stop_shut : (s : StreamsState) (p : Retransmits) (id code : ℕ) → stop id → over id → Shut s → Shut (after_stop s p id code).state
  stop_shut s p id code halted ended i = stop_to Shut s p id code i (λ h is free. (
    with_shut s id h (stopped_now h) is (λ e. halted) i,
    λ sized. done_shut (with_recv s id (stopped_now h)) id (stopped_now h) (at-half s.side s.receiving.halves id (stopped_now h)) ended (with_shut s id h (stopped_now h) is (λ e. halted) i),
  ))

  -- a reset is asked for
  pub asked_shut : (s : StreamsState) (p : Retransmits) (id : ℕ) → ((h : RecvHalf) → receiving_half s id ≡ Some h → is_some h.reset ≡ true → over id) → Shut s → Shut (after_received_reset s p id).state
  asked_shut s p id ended i = reset_told_to Shut s p id i (λ h is cut. done_shut s id h (live_of s id h is (inl cut)) (ended h is cut) i)

  -- ---- a frame

  module _ (ends : (id : ℕ) → stop id → over id) where
    value_fits : (s : StreamsState) (id : ℕ) (old new : RecvHalf) (tells : Bool) → beyond s id ≡ None → part_for s id ≡ Some old → new.stopped ≡ old.stopped → Shut s → Of K (renewed s id old new tells)
    value_fits s id old new tells within part same i =
        let t : StreamsState = opened_by s id in
        let was : Shut t = (by_opened IsShaped shape_any s id within i.0, opened_left K s id i.1) in
        let halted : new.stopped ≡ true → stop id = λ e. half_fits t id old part was.1 (sym same ∙ e) in
        let now : Shut (with_recv t id new) = with_shut t id old new part halted was in
        renewed_to K s id old new tells now.1 (λ e f. (done_shut (with_recv t id new) id new (at-half t.side t.receiving.halves id new) (ends id (halted e)) now).1)

    pub frame_fits : (f : FrameValue) (e : End) → Shut e.streams → Of K (take_frame f e).end.streams
    frame_fits f e i = frame_left K f e
        (λ g is. stream_cases e.streams e.waiting.frames g (Of K) (λ b broken. i.1) (λ within none. i.1) (λ h within part kept. value_fits e.streams g.id h (after_frame h g) true within part (frame_stopped h g) i))
        (λ g is. reset_cases e.streams e.waiting.frames g (Of K) (λ b broken. i.1) (λ within none. i.1) (λ h within part kept. value_fits e.streams g.id h (after_reset_stream h g.code g.final_size) (not (is_some h.reset)) within part (reset_stopped h g.code g.final_size) i))
        i.1

  -- ---- a poll

  limit_fits : (s : StreamsState) (id : ℕ) → Shut s → Of K (record s { receiving = limit_told s.receiving id })
  limit_fits s id i = go (at s.receiving.halves.live id) refl
    where
      raised : RecvHalf → RecvHalf
      raised h = record h { announced = raised_on s.receiving.stream_window h }

      after : Option RecvHalf → StreamsState
      after o = record s { receiving = record s.receiving { halves = record s.receiving.halves { live = changed_at o raised s.receiving.halves.live id } } }

      go : (o : Option RecvHalf) → at s.receiving.halves.live id ≡ o → Of K (after o)
      go None is = i.1
      go (Some h) is =
          let now : Of K (with_recv s id (raised h)) = with_fits s id (raised h) i.0 (half_fits s id h (live_receives s id h is) i.1) i.1 in
          subst (λ (o : Option RecvHalf). Of K (record s { receiving = record s.receiving { halves = placed o s.side s.receiving.halves id (raised h) } })) is now

  fine : AreFine Shut (λ f. Unit {0})
  fine = record {
    told = λ f s i. (by_told IsShaped shape_any f s i.0, by_tells (Of K) s i.1 (record { each = i.1.each }) (λ id. limit_fits s id i) (λ dir. record { each = i.1.each }) (λ limit. i.1) (λ id limit. i.1) f);
    sent = λ fair s id room h found i. (by_frame IsShaped shape_any fair s id room h found tt i.0, record { each = i.1.each });
    limits = λ p s f i goes. tt;
    pads = tt;
    challenges = λ word. tt;
    responses = λ r. tt;
    pings = tt;
    immediate = tt;
    requests = λ r. tt;
    connection_closes = λ c. tt;
    application_closes = λ c. tt;
    acks = λ a. tt;
    messages = λ m. tt;
    streams = λ f. tt;
  }

  pub poll_shut : (p : Policy) (e : End) (now : ℕ) → Shut e.streams → Shut (polled p e now).end.streams
  poll_shut p e now i = poll_known Shut (λ f. Unit {0}) fine p e now i

  -- ---- what is closed

  -- where nothing may be read on a stream that is opened, it is so, or this end only sends on it
  pub closed_fits : (s : StreamsState) (id : ℕ) → ((id : ℕ) → stop id → over id) → is_closed s id ≡ true → is_opened s id ≡ true → Of K s → over id ⊎ (receives_on s.side id ≡ false)
  closed_fits s id ends shut opened i = go (at s.receiving.halves.live id) (receives_on s.side id) (is_opened s id) (has_place s.side s.receiving.halves.places id) opened shut (i.each id)
    where
      go : (o : Option RecvHalf) (m k u : Bool) → k ≡ true → is_closed_at (half_of (new_recv_half (first_window s.receiving)) (status_from o (m && k) u)) ≡ true → Fits stop over id o u → over id ⊎ (m ≡ false)
      go (Some h) m k u there shut x = inl (ends id (x shut))
      go None true true true there shut x = inl x
      go None true true false there shut x = cc
      go None true false u there shut x = cc
      go None false k u there shut x = inr refl
