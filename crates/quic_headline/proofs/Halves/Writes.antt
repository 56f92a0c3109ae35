-- All streams of an end hold what was written on them, and what waits says how they were reset:
-- after each call on streams.
use Rattle.std.proofs.Common.{◌≡◌, ℕ, ◌≤◌, Bool, true, false, List, [], ◌∷◌, length, Option, Some, None, Result, Ok, Err, refl, sym, ◌∙◌, subst, ◌⊎◌, inl, inr}
use Rattle.std.specs.Option.{is_some, option_map}
use Rattle.std.specs.Prelude.{if◌then◌else◌}
use Rattle.std.specs.List.{AllByRecursion}
use Rattle.quic_assembler.specs.declared.assembler.Chunk.{Chunk}
use Rattle.quic_send_buffer.specs.Buffered.{written}
use Rattle.quic_streams_parts.specs.declared.answers.ReadError.{ReadError}
use Rattle.quic_streams_parts.specs.declared.answers.ReadError.TheVariants as read_errors
use Rattle.quic_streams_parts.specs.declared.answers.WriteError.TheVariants as write_errors
use Rattle.quic_streams_parts.specs.declared.answers.UpdateError.{UpdateError}
use Rattle.quic_streams_parts.specs.declared.answers.UpdateError.TheVariants as update_errors
use Rattle.quic_streams_parts.specs.SendHalf.{SendHalf}
use Rattle.quic_streams_parts.specs.RecvHalf.{RecvHalf}
use Rattle.quic_retransmits.specs.Retransmits.{Retransmits}
use Rattle.quic_streams_state.specs.declared.state.StreamsState.{StreamsState}
use Rattle.quic_streams_state.specs.State.{Streams, streams_of, sending_half, receiving_half}
use Rattle.quic_streams_state.specs.Opening.{after_open, after_accept}
use Rattle.quic_streams_state.specs.Writing.{write_answer, after_write, write_chunks_answer, after_write_chunks, finish_answer, after_finish, is_reset_at, reset_answer, after_reset, set_priority_answer, after_set_priority}
use Rattle.quic_streams_state.specs.Reading.{Told, told_bytes, told_end, told_reset, told_by, read_by, next_answer, after_next, after_read_begun, after_finalize, stop_answer, after_stop, after_received_reset}
use Rattle.quic_streams_laws.specs.GrowsLaws.{grows_same, grows_write, grows_write_chunks, grows_finish, grows_reset}
use Rattle.quic_streams_laws.specs.Few.{AreFew}
use Rattle.quic_streams_laws.specs.FewLaws.{few_any}
use Rattle.quic_streams_laws.specs.Queued.{IsOrderly, IsBlockedRight}
use Rattle.quic_streams_laws.specs.KeepingLaws.{by_open, by_accept, by_write, by_write_chunks, by_finish, by_reset, by_set_priority, by_read_begun, by_next, by_finalize, by_stop, by_received_reset, ended_on, reset_now_on, priority_on}
use Rattle.quic_streams_laws.specs.Written.{Wrote, Grows, IsSendHalf, SaysResets, wrote_by, wrote_chunks_by, wrote_end_by, wrote_reset_by}
use Rattle.quic_streams_laws.specs.WrittenHalves.{prioritized_holds}
use Rattle.quic_streams_laws.specs.WrittenLaws.{half_holds, holds_write, holds_write_chunks, holds_finish, holds_reset}
use Rattle.quic_streams_laws.specs.WrittenResets.{resets_grow, resets_reset}
use Rattle.quic_machine.specs.declared.run.Call.{Call}
use Rattle.quic_machine.specs.declared.run.ReadCall.{ReadCall}
use Rattle.quic_machine.specs.declared.run.Call.TheVariants as calls
use Rattle.quic_machine.specs.declared.run.Answer.{Answer}
use Rattle.quic_machine.specs.declared.run.Answer.TheVariants as answers
use Rattle.quic_machine.specs.Calls.{AreNexts, after_nexts}
use Rattle.quic_machine.specs.StreamCalls.{if_ok, IsRead, IsStreamAnswer, after_on_streams}
use Rattle.quic_headline.proofs.Halves.Wrote.{done_by, ResetsFirst}
use Rattle.quic_headline.proofs.Halves.Kept.{orderly_any, blocked_any, Keeping, keeping_kept}
use Rattle.quic_headline.proofs.Halves.Waiting.{SameResets, write_same, write_chunks_same, stop_same, finalize_same, received_reset_same}

-- all streams hold what was written on them, and what waits beside says how they were reset
pub record Writes (done : ℕ → Wrote) (t : Streams) : Type 0 where
  pub keeps : Keeping done t.state
  pub waits : SaysResets done t.pending

-- ACK_FREQUENCY waits, or doesn't
pub asked_writes : (done : ℕ → Wrote) (waits : Bool) (t : Streams) → Writes done t → Writes done (streams_of t.state (record t.pending { ack_frequency = waits }))
asked_writes done waits t w = record { keeps = w.keeps; waits = w.waits }

-- the same resets wait
pub waits_same : (done : ℕ → Wrote) (p : Retransmits) (t : Streams) → SameResets p t → SaysResets done p → SaysResets done t.pending
waits_same done p t same says = subst (λ (rs : List (ℕ × ℕ)). AllByRecursion (λ (r : ℕ × ℕ). (done r.0).reset ≡ Some r.1) rs) (sym same) says

module _ (done : ℕ → Wrote) (s : StreamsState) (p : Retransmits) (w : Writes done (streams_of s p)) where
  -- a half counts no byte as sent that wasn't written
  within : (id : ℕ) (h : SendHalf) → sending_half s id ≡ Some h → h.buffer.unsent ≤ written h.buffer
  within id h is = let i : IsSendHalf (done id) h = half_holds done s w.keeps.holds id h is in i.lawful.bounded

  -- ---- what writes

  -- a write of bytes
  write_leaves : (b : Bool) (id : ℕ) (bytes : List ℕ) → Writes (wrote_by (write_answer b s id (length bytes)) id bytes done) (after_write b (write_answer b s id (length bytes)) s p id bytes)
  write_leaves b id bytes =
      let more : ℕ → Wrote = wrote_by (write_answer b s id (length bytes)) id bytes done in
      let after : Streams = after_write b (write_answer b s id (length bytes)) s p id bytes in
      record {
        keeps = record {
          holds = holds_write done s w.keeps.holds b p id bytes;
          few = by_write AreFew few_any b s p id bytes (within id) (λ n old new is on. tt) w.keeps.few;
          orderly = by_write IsOrderly orderly_any b s p id bytes (within id) (λ n old new is on. on) w.keeps.orderly;
          blocked = by_write IsBlockedRight blocked_any b s p id bytes (within id) (λ n old new is on. on) w.keeps.blocked;
        };
        waits = waits_same more p after (write_same s p b (write_answer b s id (length bytes)) id bytes) (resets_grow done more p (grows_write done s w.keeps.holds b id bytes) w.waits);
      }

  -- of several buffers
  chunks_leave : (b : Bool) (id : ℕ) (cs : List (List ℕ)) → Writes (wrote_chunks_by (write_chunks_answer b s id cs) id cs done) (after_write_chunks b (write_chunks_answer b s id cs) s p id cs)
  chunks_leave b id cs =
      let more : ℕ → Wrote = wrote_chunks_by (write_chunks_answer b s id cs) id cs done in
      let after : Streams = after_write_chunks b (write_chunks_answer b s id cs) s p id cs in
      record {
        keeps = record {
          holds = holds_write_chunks done s w.keeps.holds b p id cs;
          few = by_write_chunks AreFew few_any b s p id cs (within id) (λ n old new is on. tt) w.keeps.few;
          orderly = by_write_chunks IsOrderly orderly_any b s p id cs (within id) (λ n old new is on. on) w.keeps.orderly;
          blocked = by_write_chunks IsBlockedRight blocked_any b s p id cs (within id) (λ n old new is on. on) w.keeps.blocked;
        };
        waits = waits_same more p after (write_chunks_same s p b (write_chunks_answer b s id cs) id cs) (resets_grow done more p (grows_write_chunks done s w.keeps.holds b id cs) w.waits);
      }

  -- a finish
  finish_leaves : (id : ℕ) → Writes (wrote_end_by (finish_answer s id) id done) (streams_of (after_finish s id) p)
  finish_leaves id = record {
    keeps = record {
      holds = holds_finish done s w.keeps.holds id;
      few = by_finish AreFew few_any s id (λ h is ready. tt) w.keeps.few;
      orderly = by_finish IsOrderly orderly_any s id (λ h is ready. ended_on h) w.keeps.orderly;
      blocked = by_finish IsBlockedRight blocked_any s id (λ h is ready. ended_on h) w.keeps.blocked;
    };
    waits = resets_grow done (wrote_end_by (finish_answer s id) id done) p (grows_finish done s w.keeps.holds id) w.waits;
  }

  -- a reset
  reset_leaves : (id code : ℕ) → Writes (wrote_reset_by (reset_answer s id) id code done) (after_reset s p id code)
  reset_leaves id code = record {
    keeps = record {
      holds = holds_reset done s w.keeps.holds p id code;
      few = by_reset AreFew few_any s p id code (λ h is free. tt) w.keeps.few;
      orderly = by_reset IsOrderly orderly_any s p id code (λ h is free. reset_now_on h) w.keeps.orderly;
      blocked = by_reset IsBlockedRight blocked_any s p id code (λ h is free. reset_now_on h) w.keeps.blocked;
    };
    waits = resets_reset done s p id code w.keeps.holds w.waits;
  }

  -- a refused one changes nothing
  reset_if : (id code : ℕ) (r : Result (Unit {0}) UpdateError) → reset_answer s id ≡ r → Writes (wrote_reset_by r id code done) (if_ok r (after_reset s p id code) (streams_of s p))
  reset_if id code (Ok x) is = subst (λ (r : Result (Unit {0}) UpdateError). Writes (wrote_reset_by r id code done) (after_reset s p id code)) is (reset_leaves id code)
  reset_if id code (Err e) is = w

  -- ---- what doesn't

  same_done : (t : Streams) → Keeping done t.state → SameResets p t → Writes done t
  same_done t keeps same = record { keeps = keeps; waits = waits_same done p t same w.waits }

  if_leaves : {A E : Type 0} (r : Result A E) (t : Streams) → Writes done t → Writes done (if_ok r t (streams_of s p))
  if_leaves (Ok x) t now = now
  if_leaves (Err e) t now = w

  -- the `next`s of a read
  nexts_keep : (told : Told) (t : StreamsState) (id : ℕ) (mosts : List ℕ) (said : List (Result (Option Chunk) ReadError)) → AreNexts told t id mosts said → Keeping done t → Keeping done (after_nexts told t id mosts said)
  nexts_keep told t id [] [] are k = k
  nexts_keep told t id (most ∷ mosts) (x ∷ said) are k = nexts_keep (told_by x told) (after_next told x t id most) id mosts said are.1 (one are.0)
    where
      lacks_on : (o : Option RecvHalf) → Keeping done (read_by (Err read_errors.Memory) o t id most)
      lacks_on None = k
      lacks_on (Some h) = k

      lacks : (u : Told) → Keeping done (after_next u (Err read_errors.Memory) t id most)
      lacks told_bytes = lacks_on (receiving_half t id)
      lacks told_end = k
      lacks (told_reset code) = k

      one : (x ≡ next_answer told t id most) ⊎ (x ≡ Err read_errors.Memory) → Keeping done (after_next told x t id most)
      one (inl is) = subst (λ (r : Result (Option Chunk) ReadError). Keeping done (after_next told r t id most)) (sym is) (by_next (Keeping done) (keeping_kept done) told t id most (λ h c e f. tt) k)
      one (inr is) = subst (λ (r : Result (Option Chunk) ReadError). Keeping done (after_next told r t id most)) (sym is) (lacks told)
  nexts_keep told t id [] (x ∷ said) are k = absurd are
  nexts_keep told t id (most ∷ mosts) [] are k = absurd are

  read_leaves : (b : Bool) (read : ReadCall) (a : Answer) → IsRead s read.id read.ordered read.nexts.items a → Writes done (after_on_streams b (streams_of s p) (calls.Read read) a)
  read_leaves b read (answers.Read (Ok said)) is =
      let begun : Keeping done (after_read_begun s read.id read.ordered) = by_read_begun (Keeping done) (keeping_kept done) s read.id read.ordered (λ h e. tt) w.keeps in
      let after : StreamsState = after_nexts told_bytes (after_read_begun s read.id read.ordered) read.id read.nexts.items said in
      let read_on : Keeping done after = nexts_keep told_bytes (after_read_begun s read.id read.ordered) read.id read.nexts.items said is.1 begun in
      same_done (after_finalize after p read.id) (by_finalize (Keeping done) (keeping_kept done) after p read.id read_on) (finalize_same after p read.id)
  read_leaves b read (answers.Read (Err e)) is = w
  read_leaves b read a is = absurd is

  -- ---- any of them

  -- each call on streams
  pub calls_leave : (b : Bool) (call : Call) (a : Answer) → IsStreamAnswer b s call a → Writes (done_by call a done) (after_on_streams b (streams_of s p) call a)
  calls_leave b (calls.Open dir) a is = same_done (streams_of (after_open b dir s) p) (by_open (Keeping done) (keeping_kept done) b dir s w.keeps) refl
  calls_leave b (calls.Accept dir) a is = same_done (streams_of (after_accept dir s) p) (by_accept (Keeping done) (keeping_kept done) dir s (λ may. may) w.keeps) refl
  calls_leave b (calls.Write id bytes) a (inl is) = subst (λ (x : Answer). Writes (done_by (calls.Write id bytes) x done) (after_on_streams b (streams_of s p) (calls.Write id bytes) x)) (sym is) (write_leaves b id bytes)
  calls_leave b (calls.Write id bytes) a (inr is) = subst (λ (x : Answer). Writes (done_by (calls.Write id bytes) x done) (after_on_streams b (streams_of s p) (calls.Write id bytes) x)) (sym is) (lacks b)
    where
      lacks : (b : Bool) → Writes done (after_write b (Err write_errors.Memory) s p id bytes)
      lacks true = w
      lacks false = w
  calls_leave b (calls.WriteChunks id chunks) a (inl is) = subst (λ (x : Answer). Writes (done_by (calls.WriteChunks id chunks) x done) (after_on_streams b (streams_of s p) (calls.WriteChunks id chunks) x)) (sym is) (chunks_leave b id chunks.items)
  calls_leave b (calls.WriteChunks id chunks) a (inr is) = subst (λ (x : Answer). Writes (done_by (calls.WriteChunks id chunks) x done) (after_on_streams b (streams_of s p) (calls.WriteChunks id chunks) x)) (sym is) (lacks b)
    where
      lacks : (b : Bool) → Writes done (after_write_chunks b (Err write_errors.Memory) s p id chunks.items)
      lacks true = w
      lacks false = w
  calls_leave b (calls.Finish id) a (inl is) = subst (λ (x : Answer). Writes (done_by (calls.Finish id) x done) (after_on_streams b (streams_of s p) (calls.Finish id) x)) (sym is) (finish_leaves id)
  calls_leave b (calls.Finish id) a (inr is) = subst (λ (x : Answer). Writes (done_by (calls.Finish id) x done) (after_on_streams b (streams_of s p) (calls.Finish id) x)) (sym is) w
  calls_leave b (calls.Reset id code) a (inl is) = subst (λ (x : Answer). Writes (done_by (calls.Reset id code) x done) (after_on_streams b (streams_of s p) (calls.Reset id code) x)) (sym is) (reset_if id code (reset_answer s id) refl)
  calls_leave b (calls.Reset id code) a (inr is) = subst (λ (x : Answer). Writes (done_by (calls.Reset id code) x done) (after_on_streams b (streams_of s p) (calls.Reset id code) x)) (sym is) w
  calls_leave b (calls.SetPriority id priority) a (inl is) = subst (λ (x : Answer). Writes done (after_on_streams b (streams_of s p) (calls.SetPriority id priority) x)) (sym is)
      (if_leaves (set_priority_answer s id) (streams_of (after_set_priority s id priority) p)
      (same_done (streams_of (after_set_priority s id priority) p) (by_set_priority (Keeping done) (keeping_kept done) s id priority (λ h e. (priority_on h priority, λ x. prioritized_holds (done id) h x priority)) w.keeps) refl))
  calls_leave b (calls.SetPriority id priority) a (inr is) = subst (λ (x : Answer). Writes done (after_on_streams b (streams_of s p) (calls.SetPriority id priority) x)) (sym is) w
  calls_leave b (calls.Read read) a is = read_leaves b read a is
  calls_leave b (calls.Stop id code) a (inl is) = subst (λ (x : Answer). Writes done (after_on_streams b (streams_of s p) (calls.Stop id code) x)) (sym is)
      (if_leaves (stop_answer s id) (after_stop s p id code) (same_done (after_stop s p id code) (by_stop (Keeping done) (keeping_kept done) s p id code (λ h e. tt) w.keeps) (stop_same s p id code)))
  calls_leave b (calls.Stop id code) a (inr is) = subst (λ (x : Answer). Writes done (after_on_streams b (streams_of s p) (calls.Stop id code) x)) (sym is) w
  calls_leave b (calls.ReceivedReset id) a is = same_done (after_received_reset s p id) (by_received_reset (Keeping done) (keeping_kept done) s p id w.keeps) (received_reset_same s p id)
  calls_leave b call a is = absurd is

  -- ---- what was done only grows

  -- on each stream
  pub calls_grow : (b : Bool) (call : Call) (a : Answer) → IsStreamAnswer b s call a → (q : ℕ) → Grows (done q) (done_by call a done q)
  calls_grow b (calls.Write id bytes) a (inl is) q = subst (λ (x : Answer). Grows (done q) (done_by (calls.Write id bytes) x done q)) (sym is) (grows_write done s w.keeps.holds b id bytes q)
  calls_grow b (calls.Write id bytes) a (inr is) q = subst (λ (x : Answer). Grows (done q) (done_by (calls.Write id bytes) x done q)) (sym is) (grows_same (done q))
  calls_grow b (calls.WriteChunks id chunks) a (inl is) q = subst (λ (x : Answer). Grows (done q) (done_by (calls.WriteChunks id chunks) x done q)) (sym is) (grows_write_chunks done s w.keeps.holds b id chunks.items q)
  calls_grow b (calls.WriteChunks id chunks) a (inr is) q = subst (λ (x : Answer). Grows (done q) (done_by (calls.WriteChunks id chunks) x done q)) (sym is) (grows_same (done q))
  calls_grow b (calls.Finish id) a (inl is) q = subst (λ (x : Answer). Grows (done q) (done_by (calls.Finish id) x done q)) (sym is) (grows_finish done s w.keeps.holds id q)
  calls_grow b (calls.Finish id) a (inr is) q = subst (λ (x : Answer). Grows (done q) (done_by (calls.Finish id) x done q)) (sym is) (grows_same (done q))
  calls_grow b (calls.Reset id code) a (inl is) q = subst (λ (x : Answer). Grows (done q) (done_by (calls.Reset id code) x done q)) (sym is) (grows_reset done s w.keeps.holds id code q)
  calls_grow b (calls.Reset id code) a (inr is) q = subst (λ (x : Answer). Grows (done q) (done_by (calls.Reset id code) x done q)) (sym is) (grows_same (done q))
  calls_grow b call a is q = grows_same (done q)

  -- a reset that is answered Ok is the first of its stream
  first_at : (id : ℕ) (o : Option SendHalf) (x : Unit {0}) → sending_half s id ≡ o → (if is_reset_at o then Err update_errors.ClosedStream else Ok tt) ≡ Ok x → (done id).reset ≡ None
  first_at id None x is ok = cc
  first_at id (Some h) x is ok = go h.reset refl ok
    where
      held : IsSendHalf (done id) h
      held = half_holds done s w.keeps.holds id h is

      none : (o : Option ℕ) (n : ℕ) → None ≡ option_map (λ (code : ℕ). n) o → o ≡ None
      none None n e = refl
      none (Some code) n e = cc

      go : (o : Option ℕ) → h.reset ≡ o → (if is_some o then Err update_errors.ClosedStream else Ok tt) ≡ Ok x → (done id).reset ≡ None
      go None e ok = none (done id).reset (length (done id).bytes) (sym e ∙ held.reset)
      go (Some size) e ok = cc

  first_on : (id code : ℕ) (r : Result (Unit {0}) UpdateError) → reset_answer s id ≡ r → ResetsFirst done (calls.Reset id code) (answers.Reset r)
  first_on id code (Ok x) is = first_at id (sending_half s id) x refl is
  first_on id code (Err e) is = tt

  pub resets_first : (b : Bool) (call : Call) (a : Answer) → IsStreamAnswer b s call a → ResetsFirst done call a
  resets_first b (calls.Reset id code) a (inl is) = subst (ResetsFirst done (calls.Reset id code)) (sym is) (first_on id code (reset_answer s id) refl)
  resets_first b (calls.Reset id code) a (inr is) = subst (ResetsFirst done (calls.Reset id code)) (sym is) tt
  resets_first b call a is = tt
