-- Each call at an end keeps a fact of its streams, whatever datagrams are handed to it, where each
-- word about streams keeps it.
use Rattle.std.proofs.Common.{◌≡◌, ℕ, zero, suc, Bool, true, false, List, [], ◌∷◌, length, take, Option, Some, None, Result, Ok, Err, refl, sym, ap, subst, inl, inr}
use Rattle.std.specs.Prelude.{ℤ, ◌==◌, slice_get}
use Rattle.std.proofs.lemmas.Bool.{cond_both}
use Rattle.quic_wire_core.specs.declared.stream_id.Dir.{Dir}
use Rattle.quic_wire.specs.Value.{StreamValue, ResetStreamValue, stream}
use Rattle.quic_retransmits.specs.Retransmits.{Retransmits}
use Rattle.quic_streams_parts.specs.SendHalf.{SendHalf, Queued}
use Rattle.quic_streams_parts.specs.declared.answers.WriteError.{WriteError}
use Rattle.quic_streams_parts.specs.declared.answers.WriteError.TheVariants as write_errors
use Rattle.quic_streams_parts.specs.declared.answers.Written.{Written}
use Rattle.quic_streams_state.specs.declared.state.StreamsState.{StreamsState}
use Rattle.quic_streams_state.specs.State.{sending_half}
use Rattle.quic_streams_state.specs.Sends.{with_queued}
use Rattle.quic_streams_state.specs.Opening.{after_open, after_accept}
use Rattle.quic_streams_state.specs.Taking.{after_stream, after_reset_frame}
use Rattle.quic_streams_state.specs.Writing.{write_answer, write_chunks_answer, grown_by, accepted_at, blocked_at, after_write, chunks_accepted_at, after_write_chunks, after_finish, reset_answer, after_reset, set_priority_answer, after_set_priority}
use Rattle.quic_streams_state.specs.Reading.{Told, told_bytes, told_by, after_next, after_read_begun, stop_answer, after_stop, after_received_reset}
use Rattle.quic_streams_laws.specs.Content.{IsNextAnswer}
use Rattle.quic_streams_laws.specs.KeepingLaws.{by_option}
use Rattle.quic_machine.specs.declared.run.Call.{Call}
use Rattle.quic_machine.specs.declared.run.Call.TheVariants as calls
use Rattle.quic_machine.specs.declared.run.Answer.{Answer}
use Rattle.quic_machine.specs.declared.run.Answer.TheVariants as answers
use Rattle.quic_machine.specs.Arrival.{Arrival, delivered_by}
use Rattle.quic_machine.specs.Policy.{Policy}
use Rattle.quic_machine.specs.Closing.{ticked}
use Rattle.quic_machine.specs.End.{End, with_closing, streams_at}
use Rattle.quic_machine.specs.Calls.{is_open, AreNexts, after_nexts}
use Rattle.quic_machine.specs.StreamCalls.{IsStreamAnswer, after_on_streams}
use Rattle.quic_machine.specs.Receive.{received}
use Rattle.quic_machine.specs.Machine.{IsAnswer, says_last, after_delivered, after_call}
use Rattle.quic_machine.specs.FrameCases.{Settling, losses_keep}
use Rattle.quic_machine.specs.Steps as steps
use Rattle.quic_machine.specs.LeaveCases.{by_expired, by_event}
use Rattle.quic_machine.specs.CallCases.{is_delivery, by_call, by_done}
use Rattle.quic_headline.specs.Runs.{Next}
use Rattle.quic_headline.specs.FewEvents.{blocked_in}
use Rattle.quic_headline.proofs.Packets.Apart.{by_waits, by_next_id}
use Rattle.quic_headline.proofs.Packets.Moved.{by_migrated}
use Rattle.quic_headline.proofs.Packets.Probes.{poll_state}
use Rattle.quic_headline.proofs.Halves.QuietSteps.{composed_quiet, frame_quiet}
use Rattle.quic_headline.proofs.Halves.ReadCalls.{IsKept, if_done}
use Rattle.quic_headline.proofs.Alone.Taking.{Stands, by_taking}
use Rattle.quic_headline.proofs.Alone.Places.{Hands}

-- ---- writes

-- a write leaves a fact that bytes on a sending half leave, however many count as accepted, and
-- that holds behind one that is blocked
module _ (P : StreamsState → Type 0) (puts : (s : StreamsState) (id : ℕ) (h : SendHalf) (q : Queued) (n : ℕ) → sending_half s id ≡ Some h → P s → P (record s { sending = record (with_queued s.sending s.side id q) { accepted = n } })) where
  pub write_leaves : (b : Bool) (answer : Result ℕ WriteError) (s : StreamsState) (p : Retransmits) (id : ℕ) (bytes : List ℕ) → (answer ≡ Err write_errors.Blocked → P (blocked_at (sending_half s id) s p id).state) → P s → P (after_write b answer s p id bytes).state
  write_leaves false answer s p id bytes blocked i = i
  write_leaves true (Err write_errors.Blocked) s p id bytes blocked i = blocked refl
  write_leaves true (Err error) s p id bytes blocked i = i
  write_leaves true (Ok n) s p id bytes blocked i = by_option (sending_half s id) (λ o. P (accepted_at o s id (take n bytes))) (λ e. i) (λ h e. cond_both (length (take n bytes) == 0) s (grown_by h s id (take n bytes)) P (λ z. i) (λ z. puts s id h _ _ e i))

  -- and so does one of several buffers
  pub chunks_leave : (b : Bool) (answer : Result Written WriteError) (s : StreamsState) (p : Retransmits) (id : ℕ) (chunks : List (List ℕ)) → (answer ≡ Err write_errors.Blocked → P (blocked_at (sending_half s id) s p id).state) → P s → P (after_write_chunks b answer s p id chunks).state
  chunks_leave false answer s p id chunks blocked i = i
  chunks_leave true (Err write_errors.Blocked) s p id chunks blocked i = blocked refl
  chunks_leave true (Err error) s p id chunks blocked i = i
  chunks_leave true (Ok w) s p id chunks blocked i = by_option (sending_half s id) (λ o. P (chunks_accepted_at o s id w.bytes chunks)) (λ e. i) (λ h e. accepts h e w.bytes)
    where
      accepts : (h : SendHalf) → sending_half s id ≡ Some h → (n : ℕ) → P (chunks_accepted_at (Some h) s id n chunks)
      accepts h e zero = i
      accepts h e (suc n) = puts s id h _ _ e i

-- ---- calls on streams

-- a write that finds no memory isn't blocked
lacks_room : {A : Type 0} → ◌≡◌ {A = Result A WriteError} (Err write_errors.Memory) (Err write_errors.Blocked) → ⊥
lacks_room is = cc

-- A fact that each call on streams keeps: a write that is blocked where another holds.
pub record CallsKeep (P Q : StreamsState → Type 0) : Type 0 where
  pub opens : (is_open : Bool) (dir : Dir) (s : StreamsState) → P s → P (after_open is_open dir s)
  pub accept : (dir : Dir) (s : StreamsState) → P s → P (after_accept dir s)
  pub write : (b : Bool) (answer : Result ℕ WriteError) (s : StreamsState) (p : Retransmits) (id : ℕ) (bytes : List ℕ) → (answer ≡ Err write_errors.Blocked → Q s) → P s → P (after_write b answer s p id bytes).state
  pub chunks : (b : Bool) (answer : Result Written WriteError) (s : StreamsState) (p : Retransmits) (id : ℕ) (chunks : List (List ℕ)) → (answer ≡ Err write_errors.Blocked → Q s) → P s → P (after_write_chunks b answer s p id chunks).state
  pub finishes : (s : StreamsState) (id : ℕ) → P s → P (after_finish s id)
  pub resets : (s : StreamsState) (p : Retransmits) (id code : ℕ) → P s → P (after_reset s p id code).state
  pub sets_priority : (s : StreamsState) (id : ℕ) (priority : ℤ) → P s → P (after_set_priority s id priority)
  pub begun : (s : StreamsState) (id : ℕ) (ordered : Bool) → P s → P (after_read_begun s id ordered)
  pub next : (told : Told) (s : StreamsState) (id most : ℕ) (answer : Next) → IsNextAnswer told s id most answer → P s → P (after_next told answer s id most)
  pub stop : (s : StreamsState) (p : Retransmits) (id code : ℕ) → P s → P (after_stop s p id code).state
  pub received_reset : (s : StreamsState) (p : Retransmits) (id : ℕ) → P s → P (after_received_reset s p id).state

module _ (P Q : StreamsState → Type 0) (c : CallsKeep P Q) where
  -- reads, one behind another
  nexts_leave : (told : Told) (s : StreamsState) (id : ℕ) (mosts : List ℕ) (said : List Next) → AreNexts told s id mosts said → P s → P (after_nexts told s id mosts said)
  nexts_leave told s id [] [] a i = i
  nexts_leave told s id [] (x ∷ said) a i = absurd a
  nexts_leave told s id (most ∷ mosts) [] a i = absurd a
  nexts_leave told s id (most ∷ mosts) (x ∷ said) a i = nexts_leave (told_by x told) (after_next told x s id most) id mosts said a.1 (c.next told s id most x a.0 i)

  module _ (e : End) (i : P e.streams) where
    -- any of them
    pub streams_call : (b : Bool) (call : Call) (a : Answer) → IsStreamAnswer b e.streams call a → (blocked_in call a ≡ 1 → Q e.streams) → P (after_on_streams b (streams_at e) call a).state
    streams_call b (calls.Open dir) a is full = c.opens b dir e.streams i
    streams_call b (calls.Accept dir) a is full = c.accept dir e.streams i
    streams_call b (calls.Write id bytes) a (inl is) full = subst (λ x. (blocked_in (calls.Write id bytes) x ≡ 1 → Q e.streams) → P (after_on_streams b (streams_at e) (calls.Write id bytes) x).state) (sym is)
        (λ now. c.write b (write_answer b e.streams id (length bytes)) e.streams e.waiting.frames id bytes (λ same. now (ap (λ r. blocked_in (calls.Write id bytes) (answers.Write r)) same)) i) full
    streams_call b (calls.Write id bytes) a (inr is) full = subst (λ x. P (after_on_streams b (streams_at e) (calls.Write id bytes) x).state) (sym is) (c.write b (Err write_errors.Memory) e.streams e.waiting.frames id bytes (λ same. absurd (lacks_room same)) i)
    streams_call b (calls.WriteChunks id chunks) a (inl is) full = subst (λ x. (blocked_in (calls.WriteChunks id chunks) x ≡ 1 → Q e.streams) → P (after_on_streams b (streams_at e) (calls.WriteChunks id chunks) x).state) (sym is)
        (λ now. c.chunks b (write_chunks_answer b e.streams id chunks.items) e.streams e.waiting.frames id chunks.items (λ same. now (ap (λ r. blocked_in (calls.WriteChunks id chunks) (answers.WriteChunks r)) same)) i) full
    streams_call b (calls.WriteChunks id chunks) a (inr is) full = subst (λ x. P (after_on_streams b (streams_at e) (calls.WriteChunks id chunks) x).state) (sym is) (c.chunks b (Err write_errors.Memory) e.streams e.waiting.frames id chunks.items (λ same. absurd (lacks_room same)) i)
    streams_call b (calls.Finish id) a (inl is) full = subst (λ x. P (after_on_streams b (streams_at e) (calls.Finish id) x).state) (sym is) (c.finishes e.streams id i)
    streams_call b (calls.Finish id) a (inr is) full = subst (λ x. P (after_on_streams b (streams_at e) (calls.Finish id) x).state) (sym is) i
    streams_call b (calls.Reset id code) a (inl is) full = subst (λ x. P (after_on_streams b (streams_at e) (calls.Reset id code) x).state) (sym is)
        (if_done P (reset_answer e.streams id) (after_reset e.streams e.waiting.frames id code) (streams_at e) (c.resets e.streams e.waiting.frames id code i) i)
    streams_call b (calls.Reset id code) a (inr is) full = subst (λ x. P (after_on_streams b (streams_at e) (calls.Reset id code) x).state) (sym is) i
    streams_call b (calls.SetPriority id priority) a (inl is) full = subst (λ x. P (after_on_streams b (streams_at e) (calls.SetPriority id priority) x).state) (sym is)
        (if_done P (set_priority_answer e.streams id) (record (streams_at e) { state = after_set_priority e.streams id priority }) (streams_at e) (c.sets_priority e.streams id priority i) i)
    streams_call b (calls.SetPriority id priority) a (inr is) full = subst (λ x. P (after_on_streams b (streams_at e) (calls.SetPriority id priority) x).state) (sym is) i
    streams_call b (calls.Read rd) (answers.Read (Ok said)) is full = nexts_leave told_bytes (after_read_begun e.streams rd.id rd.ordered) rd.id rd.nexts.items said is.1 (c.begun e.streams rd.id rd.ordered i)
    streams_call b (calls.Read rd) a is full = i
    streams_call b (calls.Stop id code) a (inl is) full = subst (λ x. P (after_on_streams b (streams_at e) (calls.Stop id code) x).state) (sym is)
        (if_done P (stop_answer e.streams id) (after_stop e.streams e.waiting.frames id code) (streams_at e) (c.stop e.streams e.waiting.frames id code i) i)
    streams_call b (calls.Stop id code) a (inr is) full = subst (λ x. P (after_on_streams b (streams_at e) (calls.Stop id code) x).state) (sym is) i
    streams_call b (calls.ReceivedReset id) a is full = c.received_reset e.streams e.waiting.frames id i
    streams_call b call a is full = absurd is

-- ---- any call

-- a fact that each word about streams keeps, STREAM frames where they fit
pub record IsKeptAlone (Fits : StreamValue → Type 0) (P : StreamsState → Type 0) : Type 0 where
  pub kept : IsKept P
  pub accept : (dir : Dir) (s : StreamsState) → P s → P (after_accept dir s)
  pub write : (b : Bool) (answer : Result ℕ WriteError) (s : StreamsState) (p : Retransmits) (id : ℕ) (bytes : List ℕ) → P s → P (after_write b answer s p id bytes).state
  pub chunks : (b : Bool) (answer : Result Written WriteError) (s : StreamsState) (p : Retransmits) (id : ℕ) (chunks : List (List ℕ)) → P s → P (after_write_chunks b answer s p id chunks).state
  pub stream : (s : StreamsState) (p : Retransmits) (f : StreamValue) → Fits f → P s → P (after_stream s p f).state
  pub reset : (s : StreamsState) (p : Retransmits) (f : ResetStreamValue) → P s → P (after_reset_frame s p f).state

module _ (Fits : StreamValue → Type 0) (P : StreamsState → Type 0) (c : IsKeptAlone Fits P) where
  -- a call on streams
  calls_keep : CallsKeep P P
  calls_keep = record {
    opens = c.kept.quiet.opens;
    accept = c.accept;
    write = λ b answer s p id bytes full i. c.write b answer s p id bytes i;
    chunks = λ b answer s p id chunks full i. c.chunks b answer s p id chunks i;
    finishes = c.kept.quiet.finishes;
    resets = c.kept.quiet.resets;
    sets_priority = c.kept.quiet.sets_priority;
    begun = c.kept.begun;
    next = c.kept.next;
    stop = c.kept.stop;
    received_reset = c.kept.received_reset;
  }

  settles : Settling (λ (e : End). P e.streams)
  settles (steps.reset id) e i = c.kept.quiet.reset_acked e.streams e.waiting.frames id i
  settles (steps.acked m) e i = c.kept.quiet.acked e.streams e.waiting.frames m i
  settles (steps.lost m) e i = c.kept.quiet.lost e.streams m i
  settles s e i = i

  module _ (p : Policy) (e : End) (theirs : List (List ℕ)) (i : P e.streams) where
    -- a call but a delivery
    pub apart_call : (call : Call) (a : Answer) → IsAnswer p e theirs call a → is_delivery call ≡ false → P (after_call p e theirs call a).streams
    apart_call call a is apart = by_call p e theirs (λ (f : End). P f.streams) call a (record {
      same = i;
      on_streams = λ on answer. streams_call P P calls_keep e i (is_open e.closing.state) call a (answer is) (λ full. i);
      on_messages = λ on answer. i;
      pings = i;
      closes = λ reason f now own. i;
      waits = λ now b set. by_waits (λ (f : End). P f.streams) b (with_closing e (ticked e.closing now)) i i;
      changes_id = λ uses answer. by_next_id (λ (f : End). P f.streams) e a i (λ c. i) (λ c most. i);
      says_handshake = λ says answer. by_done (λ (f : End). P f.streams) e a i i;
      times = λ now expiry set. by_expired p.words e now (λ (f : End). P f.streams) (λ pending tracking timers waits asked runs packets. i) (λ pending timers waits asked runs. losses_keep (λ (x : End). P x.streams) settles (with_closing e (ticked e.closing now)) i) (λ x j. j) expiry;
      polls = λ now set. poll_state P p e now (composed_quiet P c.kept.quiet) i;
      hears = λ arrival d set. cc;
      tells = λ asks. by_event e (λ (f : End). P f.streams) i i (λ told. c.kept.quiet.polls e.streams i);
    })

    -- a datagram whose STREAM frames fit
    delivery_keeps : (arrival : Arrival) (d : List ℕ) → ((f : StreamValue) → Stands p e d (stream f) → Fits f) → P (received p e arrival d).end.streams
    delivery_keeps arrival d fits = by_taking p e arrival d (λ (x : End). P x.streams) (record {
      frame = λ f stands x j. frame_quiet P c.kept.quiet f x (λ g same. c.stream x.streams x.waiting.frames g (fits g (subst (Stands p e d) same stands)) j) (λ g same. c.reset x.streams x.waiting.frames g j) j;
      notes = λ n x j. j;
      begins = λ now n x j. j;
      takes = λ n asks urged mark x j. j;
      closes = λ reason x j. j;
      drains = λ close x j. j;
      asks_close = λ x j. j;
      exhausts = λ now x j. j;
      draws = λ words x j. j;
      moves = λ q o remote x j. by_migrated (λ (y : End). P y.streams) q o remote x (λ c. j) (λ c most. j);
    }) i

    -- any call, where the STREAM frames of what is handed in fit
    pub call_keeps : (H : List ℕ → Type 0) → ((d : List ℕ) → H d → (f : StreamValue) → Stands p e d (stream f) → Fits f) → (call : Call) (a : Answer) → IsAnswer p e theirs call a → Hands theirs H call → P (after_call p e theirs call a).streams
    call_keeps H fits (calls.Deliver delivery) a is hands = go (slice_get theirs delivery.index) refl
      where
        go : (o : Option (List ℕ)) → slice_get theirs delivery.index ≡ o → P (after_delivered p e (delivered_by (says_last a) delivery) o).streams
        go None at = i
        go (Some d) at = delivery_keeps (delivered_by (says_last a) delivery) d (fits d (hands d at))
    call_keeps H fits call a is hands = apart_call call a is refl
