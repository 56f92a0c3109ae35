-- A stream that an end stopped has a half that is stopped, or is done: each call keeps that.
use Rattle.std.proofs.Common.{◌≡◌, ℕ, Bool, true, false, ◌||◌, List, [], ◌∷◌, ◌++◌, Option, Some, None, Result, Ok, Err, refl, sym, ap, ◌∙◌, subst, inl, inr}
use Rattle.std.specs.Prelude.{◌&&◌, if◌then◌else◌}
use Rattle.std.specs.Option.{is_some}
use Rattle.std.proofs.lemmas.Bool.{cond_both, ne_eqb}
use Rattle.quic_wire.specs.Value.{FrameValue}
use Rattle.quic_config.specs.Transport.{Settings, parameters_of}
use Rattle.quic_streams_parts.specs.declared.answers.UpdateError.{UpdateError}
use Rattle.quic_streams_parts.specs.declared.answers.UpdateError.TheVariants as update_errors
use Rattle.quic_streams_parts.specs.RecvHalf.{RecvHalf, stopped_now, after_frame, after_reset_stream}
use Rattle.quic_streams_halves.specs.Halves.{Status, unknown, fresh, live, done, has_place, no_places, idle_status}
use Rattle.quic_retransmits.specs.Retransmits.{Retransmits}
use Rattle.quic_streams_state.specs.declared.state.StreamsState.{StreamsState}
use Rattle.quic_streams_state.specs.State.{Streams, streams_of, new_streams, receiving_half, with_recv, receives_on, is_opened}
use Rattle.quic_streams_state.specs.Reading.{stop_answer, is_closed_at, stopped_if, stopped_at, after_stop}
use Rattle.quic_streams_laws.specs.Content.{AllReceiving}
use Rattle.quic_streams_laws.specs.ContentLaws.{by_next_answer}
use Rattle.quic_streams_laws.specs.Keeping.{KeepsBy}
use Rattle.quic_streams_laws.specs.Keeping as changes
use Rattle.quic_streams_laws.specs.KeepingLaws.{at-half, by_accept, by_read_begun, by_next, by_stop, by_received_reset, by_stream, by_reset_frame}
use Rattle.quic_streams_laws.specs.QuietLaws.{is_quiet}
use Rattle.quic_streams_laws.specs.StartLaws.{shape_new, shape_set_params}
use Rattle.quic_streams_laws.specs.StatusLaws.{GoesOn, said_of_each, change_one, each_kept}
use Rattle.quic_machine.specs.declared.run.Call.{Call}
use Rattle.quic_machine.specs.declared.run.Call.TheVariants as calls
use Rattle.quic_machine.specs.declared.run.Answer.{Answer}
use Rattle.quic_machine.specs.declared.run.Answer.TheVariants as answers
use Rattle.quic_machine.specs.declared.answers.State.{State}
use Rattle.quic_machine.specs.End.{End}
use Rattle.quic_machine.specs.Receive.{take_frame}
use Rattle.quic_machine.specs.StreamCalls.{if_ok}
use Rattle.quic_machine.specs.FrameCases.{begun as started, passed, frames_keep}
use Rattle.quic_machine.specs.CallCases.{is_delivery}
use Rattle.quic_machine.specs.Machine.{IsAnswer, after_call}
use Rattle.quic_headline.specs.Runs.{Told, Intake}
use Rattle.quic_headline.specs.Unread.{stopped_by, stopped}
use Rattle.quic_headline.proofs.Packets.Group.{meets}
use Rattle.quic_headline.proofs.Places.Parties.{told_of, Party, called, came_to, Beginning, begun_as}
use Rattle.quic_headline.proofs.Places.Groups.{Way, Calls}
use Rattle.quic_headline.proofs.Places.Coming.{by_coming}
use Rattle.quic_headline.proofs.Halves.Ghosts.{wrote, IsWriting}
use Rattle.quic_headline.proofs.Halves.QuietSteps.{frame_quiet, sent_within}
use Rattle.quic_headline.proofs.Halves.ReadCalls.{IsKept, call_kept}
use Rattle.quic_headline.proofs.Packets.Delivered.{frames_at}
use Rattle.quic_headline.proofs.Halves.Moved.{in_arrivals}

-- ---- what is known

-- by whether the stream was stopped, and how far its half has come
abbrev pub IsHalted : Bool → Status RecvHalf → Type 0
IsHalted halted unknown = halted ≡ false
IsHalted halted fresh = halted ≡ false
IsHalted halted (live h) = halted ≡ true → h.stopped ≡ true
IsHalted halted done = Unit {0}

-- so it is of each stream
abbrev pub AreHalted : (ℕ → Bool) → StreamsState → Type 0
AreHalted halted s = AllReceiving (λ id x. IsHalted (halted id) x) s

-- where the same streams were stopped
same_halted : (b c : ℕ → Bool) (s : StreamsState) → ((id : ℕ) → c id ≡ b id) → AreHalted b s → AreHalted c s
same_halted b c s same i = said_of_each (λ id x. IsHalted (b id) x) (λ id x. IsHalted (c id) x) (λ id x j. subst (λ (t : Bool). IsHalted t x) (sym (same id)) j) s i

module _ (b : ℕ → Bool) where
  halted_goes : GoesOn (λ id x. IsHalted (b id) x)
  halted_goes = record { opens = λ id i. i; comes = λ id window i halted. cc; told = λ id h n i. i; ends = λ id h i. tt }

  abbrev P : StreamsState → Type 0
  P = AreHalted b

  halted_kept : KeepsBy (λ r id old new. IsHalted (b id) (live old) → IsHalted (b id) (live new)) (λ s id old new. Unit {0}) (λ s id n old new. Unit {0}) P
  halted_kept = each_kept (λ id x. IsHalted (b id) x) halted_goes

  frame_halted : (id : ℕ) (h : RecvHalf) (f : _) → IsHalted (b id) (live h) → IsHalted (b id) (live (after_frame h f))
  frame_halted id h f i = λ halted. cond_both h.stopped _ _ (λ (g : RecvHalf). g.stopped ≡ true) (λ e. e) (λ e. (let was = i halted in cc))

  reset_halted : (id : ℕ) (h : RecvHalf) (code size : ℕ) → IsHalted (b id) (live h) → IsHalted (b id) (live (after_reset_stream h code size))
  reset_halted id h code size i = λ halted. cond_both h.stopped _ _ (λ (g : RecvHalf). g.stopped ≡ true) (λ e. e) (λ e. (let was = i halted in cc))

  halted_calls : IsKept P
  halted_calls = record {
    quiet = is_quiet P halted_kept;
    begun = λ s id ordered i. by_read_begun P halted_kept s id ordered (λ h e j. j) i;
    next = λ told s id most answer is i. by_next_answer P told s id most answer is (by_next P halted_kept told s id most (λ h c e f j. j) i) i;
    stop = λ s p id code i. by_stop P halted_kept s p id code (λ h e j halted. refl) i;
    received_reset = λ s p id i. by_received_reset P halted_kept s p id i;
  }

  halted_frame : (f : FrameValue) (e : End) → P e.streams → P (take_frame f e).end.streams
  halted_frame f e i = frame_quiet P (is_quiet P halted_kept) f e
      (λ g is. by_stream P halted_kept e.streams e.waiting.frames g (λ h a u j. frame_halted g.id h g j) i)
      (λ g is. by_reset_frame P halted_kept e.streams e.waiting.frames g (λ h a u j. reset_halted g.id h g.code g.final_size j) i)
      i

-- ---- a stop

-- what a stop is answered, where nothing may be read or something may
abbrev answer_if : Bool → Result (Unit {0}) UpdateError
answer_if closed = if closed then Err update_errors.ClosedStream else Ok tt

-- one call more
stopped_more : (id : ℕ) (ts : List Told) (t : Told) → stopped id (ts ++ t ∷ []) ≡ (stopped id ts || stopped_by id t.call t.answer)
stopped_more id [] t = or_none (stopped_by id t.call t.answer)
  where
    or_none : (c : Bool) → (c || false) ≡ c
    or_none true = refl
    or_none false = refl
stopped_more id (u ∷ ts) t = ap (λ (c : Bool). stopped_by id u.call u.answer || c) (stopped_more id ts t) ∙ or_assoc (stopped_by id u.call u.answer) (stopped id ts) (stopped_by id t.call t.answer)
  where
    or_assoc : (a c d : Bool) → (a || (c || d)) ≡ ((a || c) || d)
    or_assoc true c d = refl
    or_assoc false c d = refl

-- that stopped none
none_stopped : (ts : List Told) (t : Told) (s : StreamsState) → ((id : ℕ) → stopped_by id t.call t.answer ≡ false) → AreHalted (λ id. stopped id ts) s → AreHalted (λ id. stopped id (ts ++ t ∷ [])) s
none_stopped ts t s none i = same_halted (λ id. stopped id ts) (λ id. stopped id (ts ++ t ∷ [])) s (λ id. stopped_more id ts t ∙ ap (λ (c : Bool). stopped id ts || c) (none id) ∙ or_none (stopped id ts)) i
  where
    or_none : (c : Bool) → (c || false) ≡ c
    or_none true = refl
    or_none false = refl

module _ (ts : List Told) (state : State) (s : StreamsState) (p : Retransmits) (id code : ℕ) (i : AreHalted (λ q. stopped q ts) s) where
  abbrev t : Result (Unit {0}) UpdateError → Told
  t r = told_of (calls.Stop id code) (answers.Stop r) state

  abbrev Then : Result (Unit {0}) UpdateError → StreamsState → Type 0
  Then r u = AreHalted (λ q. stopped q (ts ++ t r ∷ [])) u

  -- of the other streams no more was stopped
  other_stopped : (q : ℕ) → (q ≡ id → ⊥) → (x : Status RecvHalf) → IsHalted (stopped q ts) x → IsHalted (stopped q (ts ++ t (Ok tt) ∷ [])) x
  other_stopped q ne x j = subst (λ (c : Bool). IsHalted c x) (sym (stopped_more q ts (t (Ok tt)) ∙ ap (λ (c : Bool). stopped q ts || c) (ne_eqb id q (λ e. ne (sym e))) ∙ or_none (stopped q ts))) j
    where
      or_none : (c : Bool) → (c || false) ≡ c
      or_none true = refl
      or_none false = refl

  stop_halts : Then (stop_answer s id) (if_ok (stop_answer s id) (after_stop s p id code) (streams_of s p)).state
  stop_halts = go (receiving_half s id) refl
    where
      refused : Then (Err update_errors.ClosedStream) s
      refused = none_stopped ts (t (Err update_errors.ClosedStream)) s (λ q. refl) i

      halted : (h : RecvHalf) → receiving_half s id ≡ Some h → Then (Ok tt) (with_recv s id (stopped_now h))
      halted h is = change_one (λ q x. IsHalted (stopped q ts) x) (λ q x. IsHalted (stopped q (ts ++ t (Ok tt) ∷ [])) x) (halted_goes (λ q. stopped q ts)) s id h (stopped_now h) is (λ q x ne j. other_stopped q ne x j) (λ j was. refl) i

      ends : (h : RecvHalf) (known : Bool) → Then (Ok tt) (with_recv s id (stopped_now h)) → Then (Ok tt) (stopped_if known s id h)
      ends h true j = halted_kept (λ q. stopped q (ts ++ t (Ok tt) ∷ [])) (changes.ends_receiving id (stopped_now h)) (with_recv s id (stopped_now h)) (at-half s.side s.receiving.halves id (stopped_now h)) j
      ends h false j = j

      by_half : (h : RecvHalf) (stopped : Bool) → h.stopped ≡ stopped → receiving_half s id ≡ Some h
          → Then (answer_if stopped) (if_ok (answer_if stopped) (stopped_at (Some h) s p id code) (streams_of s p)).state
      by_half h true e is = refused
      by_half h false e is = cond_both {A = Streams} h.stopped _ _ (λ (u : Streams). Then (Ok tt) u.state) (λ f. cc) (λ f. ends h (is_some h.final) (halted h is))

      go : (o : Option RecvHalf) → receiving_half s id ≡ o → Then (answer_if (is_closed_at o)) (if_ok (answer_if (is_closed_at o)) (stopped_at o s p id code) (streams_of s p)).state
      go None is = refused
      go (Some h) is = by_half h h.stopped refl is

-- ---- an end

-- each stream that y stopped is
pub record Halts (y x : Party) : Type 0 where
  pub halted : AreHalted (λ id. stopped id y.told) y.end.streams

module _ (B : Way) (w : IsWriting B) (x y : Party) (call : Call) (a : Answer) (c : Calls B x y call a) (i : Halts x y) where
  abbrev state : State
  state = x.end.closing.state

  abbrev Now : Call → StreamsState → Type 0
  Now k s = AreHalted (λ id. stopped id (x.told ++ told_of k a state ∷ [])) s

  quiet : (k : Call) → ((id : ℕ) → stopped_by id k a ≡ false) → is_delivery k ≡ false → IsAnswer x.policy x.end y.given k a → Now k (after_call x.policy x.end y.given k a).streams
  quiet k none apart is = none_stopped x.told (told_of k a state) (after_call x.policy x.end y.given k a).streams none
      (call_kept (AreHalted (λ id. stopped id x.told)) (halted_calls (λ id. stopped id x.told)) x.policy x.end y.given (sent_within (wrote x.told) x.end.streams (w.written x y c.gives)) i.halted k a is apart
      (λ dir same. by_accept (AreHalted (λ id. stopped id x.told)) (halted_kept (λ id. stopped id x.told)) dir x.end.streams (λ may. may) i.halted))

  apart_halts : (k : Call) → is_delivery k ≡ false → IsAnswer x.policy x.end y.given k a → Now k (after_call x.policy x.end y.given k a).streams
  apart_halts (calls.Stop id code) apart (inl is) = subst (λ (b : Answer). AreHalted (λ q. stopped q (x.told ++ told_of (calls.Stop id code) b state ∷ [])) (after_call x.policy x.end y.given (calls.Stop id code) b).streams) (sym is)
      (stop_halts x.told state x.end.streams x.end.waiting.frames id code i.halted)
  apart_halts (calls.Stop id code) apart (inr is) = quiet (calls.Stop id code) (λ q. ap (λ (b : Answer). stopped_by q (calls.Stop id code) b) is) apart (inr is)
  apart_halts k apart is = quiet k (λ q. refl) apart is

  comes_halts : (k : Call) → ((id : ℕ) → stopped_by id k a ≡ false) → (e : End) → AreHalted (λ id. stopped id x.told) e.streams → Now k e.streams
  comes_halts k none e j = none_stopped x.told (told_of k a state) e.streams none j

  pub halts_call : Halts (called x y.given call a) y
  halts_call = record {
    halted = by_coming x y a c.joined c.served (meets y x (w.packets y x c.takes)) (λ (e : End) (j : Intake). Now call e.streams) call c.answer (record {
      apart = λ apart. apart_halts call apart c.answer;
      none = λ delivery is. comes_halts call (λ id. ap (λ (k : Call). stopped_by id k a) is) x.end i.halted;
      comes = λ delivery is s among here. (
          let taken : List FrameValue = frames_at here s.frames in
          let none : (id : ℕ) → stopped_by id call a ≡ false = λ id. ap (λ (k : Call). stopped_by id k a) is in
          let before : End = started x.end delivery.now s.number in
          let after : AreHalted (λ id. stopped id x.told) (passed taken before).end.streams = frames_keep (λ (e : End). AreHalted (λ id. stopped id x.told) e.streams) (λ f e j. halted_frame (λ id. stopped id x.told) f e j) taken before i.halted in
          in_arrivals (Now call) x.end delivery.now s.number s.frames taken (came_to x y) (comes_halts call none x.end i.halted) (comes_halts call none (passed taken before).end after));
    });
  }

-- nothing was stopped
pub halts_first : (x y : Beginning) → Halts (begun_as x y) (begun_as y x)
halts_first x y =
    let s : Settings = x.making.settings in
    record {
      halted = record {
        shape = shape_set_params (new_streams x.side s.max_uni s.max_bidi s.send_window s.receive_window s.stream_receive_window) (parameters_of y.making.settings) (shape_new x.side s.max_uni s.max_bidi s.send_window s.receive_window s.stream_receive_window);
        each = λ id. first id (receives_on x.side id && is_opened (begun_as x y).end.streams id) (has_place x.side no_places id);
      };
    }
  where
    first : (id : ℕ) (opened used : Bool) → IsHalted false (idle_status opened used)
    first id false used = refl
    first id true false = refl
    first id true true = tt
