-- What waits of streams, and beside their bytes, behind a poll and behind a call of an application.
use Rattle.std.proofs.Common.{◌≡◌, ℕ, zero, suc, ◌<◌, ◌≤◌, Bool, true, false, List, [], ◌∷◌, Some, None, Ok, refl, sym, ap, ◌∙◌, subst, inl, inr, arith}
use Rattle.std.proofs.lemmas.Bool.{or_cases}
use Rattle.quic_send_buffer.specs.Buffered.{IsBuffered, written}
use Rattle.quic_streams_parts.specs.SendHalf.{SendHalf}
use Rattle.quic_streams_parts.specs.Table.{Table}
use Rattle.quic_streams_state.specs.declared.state.StreamsState.{StreamsState}
use Rattle.quic_streams_state.specs.State.{sending_half}
use Rattle.quic_streams_laws.specs.KeepingLaws.{by_polled}
use Rattle.quic_machine.specs.declared.answers.State.TheVariants as states
use Rattle.quic_machine.specs.declared.run.Call.{Call}
use Rattle.quic_machine.specs.declared.run.Call.TheVariants as calls
use Rattle.quic_machine.specs.declared.run.Answer.{Answer}
use Rattle.quic_machine.specs.declared.run.Answer.TheVariants as answers
use Rattle.quic_machine.specs.Policy.{Policy}
use Rattle.quic_machine.specs.Parts.{Waiting}
use Rattle.quic_machine.specs.Closing.{ticked}
use Rattle.quic_machine.specs.End.{End, with_closing, streams_at, closed_by}
use Rattle.quic_machine.specs.Tracking.{TrackedPacket}
use Rattle.quic_machine.specs.Calls.{is_open, closed_in}
use Rattle.quic_machine.specs.StreamCalls.{IsStreamAnswer, is_on_streams, after_on_streams}
use Rattle.quic_machine.specs.Poll.{Polled, Ready, polled, record_moved, probed as probed_end, request_queued, asks_anew}
use Rattle.quic_machine.specs.PollCases.{ready_at, draft_at, by_poll_to, may_leave_at, probe_leaves}
use Rattle.quic_machine.specs.InjectionCases.{by_injection}
use Rattle.quic_machine.specs.LeaveCases.{by_event}
use Rattle.quic_machine.specs.CallCases.{is_delivery, is_poll, is_timeout}
use Rattle.quic_machine.specs.IdFrames.{end_on_next_id}
use Rattle.quic_machine.specs.Machine.{IsAnswer, after_call, says_last}
use Rattle.quic_machine.specs.Receive.{exhausted}
use Rattle.quic_machine.specs.declared.answers.State.{State}
use Rattle.quic_headline.proofs.Packets.Apart.{by_next_id}
use Rattle.quic_headline.specs.Runs.{In, ended_by, says_done}
use Rattle.quic_headline.specs.Observer.{Sent}
use Rattle.quic_headline.specs.Begins.{Control, Retirement, control_waits, Thing, Byte, Fin, Frame, Bears, Request, Done}
use Rattle.quic_headline.proofs.Packets.Closes.{by_closes}
use Rattle.quic_headline.proofs.Packets.Probes.{by_readied, ready_state, by_going}
use Rattle.quic_headline.proofs.Packets.Waited.{IsWaited, AreWaited}
use Rattle.quic_headline.proofs.Halves.WordsCalls.{call_on_is}
use Rattle.quic_headline.proofs.Waited.Pings.{ready_still}
use Rattle.quic_headline.proofs.Begins.Controls.{done_one}
use Rattle.quic_headline.proofs.Begins.Called.{call_asks, IsUnsaid, call_one}
use Rattle.quic_headline.proofs.Begins.Halves.{Any, AllPend, pend_kept, pends_more}
use Rattle.quic_headline.proofs.Begins.OnStreams.{calls_pend}
use Rattle.quic_headline.proofs.Begins.Walk.{PendsAt, Pends, Sends, moved_pend, draft_pends, asked_pend}
use Rattle.quic_headline.proofs.Begins.Apart.{is_skipped, none, next_waits, leaves_pend}
use Rattle.quic_headline.proofs.Begins.Flights.{control_borne}
use Rattle.quic_headline.proofs.Steps.Probes.{begun}
use Rattle.quic_headline.proofs.Requests.Asks.{by_of, is_anew, anew_is}

-- what waits at an end is F
pub record Left (F : Thing → Type 0) (e : End) : Type 0 where
  pub controls : (c : Control) → control_waits e.waiting.frames c ≡ true → F (Frame c)
  pub halves : AllPend Any F e.streams

-- the same without what a buffer holds
bare : (F : Thing → Type 0) (s : StreamsState) → AllPend IsBuffered F s → AllPend Any F s
bare F s i = pends_more IsBuffered Any F F s (λ b x. tt) (λ q x. x) i

pub left_of : (F : Thing → Type 0) (e : End) → Pends F e → Left F e
left_of F e i = record { controls = i.controls; halves = bare F e.streams i.halves }

-- ---- a poll

-- a tracked packet is that of a datagram in flight
waited_back : (ss : List Sent) (ps : Table TrackedPacket) (p : ℕ × TrackedPacket) → AreWaited ss ps → In p ps → (s : Sent) × In s ss × IsWaited s p
waited_back [] [] p w i = absurd i
waited_back (s ∷ ss) (q ∷ ps) p w (inl is) = (s, inl refl, subst (λ (x : ℕ × TrackedPacket). IsWaited s x) (sym is) w.0)
waited_back (s ∷ ss) (q ∷ ps) p w (inr i) = let rest = waited_back ss ps p w.1 i in (rest.0, inr rest.1, rest.2)
waited_back [] (q ∷ ps) p w i = absurd w
waited_back (s ∷ ss) [] p w i = absurd w

module _ (F : Thing → Type 0) (p : Policy) (e : End) (now : ℕ) (flying : List Sent) (waited : AreWaited flying e.tracking.packets)
    (probed : 0 < e.tracking.probes → (s : Sent) → In s flying → (c : Control) → Bears s (Frame c) → F (Frame c)) (asked : is_anew (by_of e) ≡ true → F (Frame Request)) (i : Pends F e) where
  abbrev g : Ready
  g = ready_at e now

  -- what a probe says again
  moved : 0 < e.tracking.probes → (q : ℕ × TrackedPacket) → In q e.tracking.packets → Pends F (record_moved (Some q) (with_closing e (ticked e.closing now)))
  moved some q among =
      let found = waited_back flying e.tracking.packets q waited among in
      moved_pend F e.streams e.waiting.frames q.1.carried (λ c waits. probed some found.0 found.1 c (control_borne found.0 q.1.carried found.2.carried c waits)) i

  -- where ACK_FREQUENCY is queued, it waited, or the peer is to be asked
  queued_pend : (x : End) → by_of x ≡ by_of e → Pends F x → Pends F (request_queued x)
  queued_pend x same j = asked_pend F x.streams x.waiting.frames (request_queued x).waiting.frames.ack_frequency (λ waits. elim (or_cases (asks_anew x.transport.ack_frequency_config x) x.waiting.frames.ack_frequency waits) [
    | inl anew ↦ asked (ap is_anew (sym same) ∙ sym (anew_is x) ∙ anew)
    | inr was ↦ j.controls Request was
  ]) j

  pub ready_pends : Pends F g.end
  ready_pends = go e.tracking.probes refl
    where
      go : (n : ℕ) → e.tracking.probes ≡ n → Pends F g.end
      go zero none = subst (λ (w : Waiting). PendsAt F g.end.streams w.frames) (sym (ready_still e now none)) (subst (λ (s : StreamsState). PendsAt F s (request_queued (begun e now)).waiting.frames) (sym (ready_state e now)) (queued_pend (begun e now) refl i))
      go (suc n) some = by_readied (Pends F) e now i (λ ping immediate x j. j) (λ j. queued_pend (probed_end (begun e now)) (ap by_of (probe_leaves (begun e now))) j) (λ q among. moved (omega (arith, some)) q among) (λ moment pacing discovery x j. j)

  pub polled_left : (polled p e now).end.closing.state ≡ states.Open → Left F (polled p e now).end
  polled_left = by_poll_to p e now (λ (q : Polled). q.end.closing.state ≡ states.Open → Left F q.end) (record {
    silent = λ opened. here e i;
    failed = λ opened. here e i;
    nothing = λ is none opened. record { controls = ready_pends.controls; halves = bare F g.end.streams ready_pends.halves };
    repeats = λ is. by_closes p (with_closing e (ticked e.closing now)) (λ (q : Polled). q.end.closing.state ≡ states.Open → Left F q.end) (λ opened. let clash : states.Closing ≡ states.Open = sym is ∙ opened in cc) (λ f goes opened. let clash : states.Closing ≡ states.Open = sym is ∙ opened in cc);
    closes = λ reason bound. by_closes p (closed_by reason (ready_at e now).end) (λ (q : Polled). q.end.closing.state ≡ states.Open → Left F q.end) (λ opened. cc) (λ f goes opened. cc);
    gives = λ is may some. by_going (λ (x : End). x.closing.state ≡ states.Open → Left F x) p (draft_at e now) (λ pacing opened. (
        let d : Sends F (draft_at e now) = draft_pends F g.leaving g.end (may_leave_at e now) ready_pends in
        record { controls = d.controls; halves = bare F (draft_at e now).end.streams d.halves }));
  })
    where
      here : (x : End) → Pends F x → Left F x
      here x j = left_of F x j

-- ---- a call of an application

module _ (F : Thing → Type 0) (p : Policy) (e : End) (theirs : List (List ℕ)) (i : Pends F e) where
  -- on streams
  module _ (call : Call) (a : Answer) (asked : (c : Control) → call_asks call a c ≡ true → IsUnsaid e.streams (after_on_streams (is_open e.closing.state) (streams_at e) call a).state c → F (Frame c)) (ends : (id : ℕ) → ended_by id call a ≡ true → F (Fin id))
      (bounded : (id : ℕ) (h : SendHalf) → sending_half e.streams id ≡ Some h → h.buffer.unsent ≤ written h.buffer)
      (new : (id : ℕ) (h : SendHalf) → sending_half e.streams id ≡ Some h → h.reset ≡ None → (o : ℕ) → written h.buffer ≤ o → F (Byte id o)) where
    pub streams_left : IsAnswer p e theirs call a → is_on_streams call ≡ true → Left F (after_call p e theirs call a)
    streams_left is on =
        let c = call_on_is p e theirs call a on in
        let b : Bool = is_open e.closing.state in
        subst (Left F) (sym c.same) (record {
          controls = λ d waits. elim (call_one b d (streams_at e) call a (λ id same. subst (λ (k : Call). IsStreamAnswer b e.streams k a) same (c.answer is)) waits) [ inl was ↦ i.controls d was | inr asks ↦ asked d asks.0 asks.1 ];
          halves = calls_pend F b (streams_at e) call a bounded new ends (bare F e.streams i.halves) (c.answer is);
        })

  -- any other, but a poll, a timeout and a delivery
  pub quiet_left : (call : Call) (a : Answer) → ((n : ℕ) → is_skipped call a e.ids.peer n ≡ true → F (Frame (Retirement n))) → (says_done call a ≡ true → F (Frame Done)) → is_on_streams call ≡ false → is_delivery call ≡ false → is_poll call ≡ false → is_timeout call ≡ false → Left F (after_call p e theirs call a)
  quiet_left (calls.Inject injection) a skips says off apart silent other = by_injection p e (says_last a) injection (Left F) (left_of F e i) (λ now. left_of F (exhausted now e) i)
  quiet_left (calls.Close close) a skips says off apart silent other = go e.closing.state
    where
      go : (s : State) → Left F (closed_in s close.now close.error_code close.reason e)
      go states.Open = left_of F (closed_in states.Open close.now close.error_code close.reason e) i
      go states.Closing = left_of F e i
      go states.Drained = left_of F e i
      go states.Failed = left_of F e i
  quiet_left calls.UseNextId a skips says off apart silent other = left_of F (end_on_next_id e a)
      (leaves_pend F e (end_on_next_id e a) false none (λ n. is_skipped calls.UseNextId a e.ids.peer n) (next_waits e a) (by_next_id (λ (x : End). x.streams ≡ e.streams) e a refl (λ c. refl) (λ c most. refl)) (λ n is. cc) skips i)
  quiet_left calls.HandshakeDone (answers.HandshakeDone (Ok done)) skips says off apart silent other = record {
    controls = λ c is. elim (done_one c e.waiting.frames is) [ inl was ↦ i.controls c was | inr same ↦ subst (λ (d : Control). F (Frame d)) (sym same) (says refl) ];
    halves = bare F e.streams i.halves;
  }
  quiet_left calls.Event a skips says off apart silent other = by_event e (Left F) (record { controls = i.controls; halves = bare F e.streams i.halves }) (record { controls = i.controls; halves = bare F e.streams i.halves })
      (λ told. record { controls = i.controls; halves = by_polled (AllPend Any F) (pend_kept Any F tt) e.streams (bare F e.streams i.halves) })
  quiet_left (calls.Poll now) a skips says off apart silent other = cc
  quiet_left (calls.Timeout now) a skips says off apart silent other = cc
  quiet_left (calls.Deliver delivery) a skips says off apart silent other = cc
  quiet_left (calls.Open dir) a skips says off apart silent other = cc
  quiet_left (calls.Accept dir) a skips says off apart silent other = cc
  quiet_left (calls.Write id bytes) a skips says off apart silent other = cc
  quiet_left (calls.WriteChunks id chunks) a skips says off apart silent other = cc
  quiet_left (calls.Finish id) a skips says off apart silent other = cc
  quiet_left (calls.Reset id code) a skips says off apart silent other = cc
  quiet_left (calls.SetPriority id priority) a skips says off apart silent other = cc
  quiet_left (calls.Read read) a skips says off apart silent other = cc
  quiet_left (calls.Stop id code) a skips says off apart silent other = cc
  quiet_left (calls.ReceivedReset id) a skips says off apart silent other = cc
  quiet_left call a skips says off apart silent other = record { controls = i.controls; halves = bare F e.streams i.halves }
