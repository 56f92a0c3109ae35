-- Which bytes and ends of streams wait behind a call on streams: those that waited, that were
-- written, or that end.
use Rattle.std.proofs.Common.{◌≡◌, ℕ, ◌≤◌, Bool, true, false, List, [], ◌∷◌, Option, Some, None, Result, Ok, Err, refl, sym, ap, ◌∙◌, subst, inl, inr}
use Rattle.std.proofs.lemmas.Bool.{eq-eqb}
use Rattle.quic_assembler.specs.declared.assembler.Chunk.{Chunk}
use Rattle.quic_send_buffer.specs.Buffered.{written}
use Rattle.quic_streams_parts.specs.declared.answers.ReadError.{ReadError}
use Rattle.quic_streams_parts.specs.declared.answers.ReadError.TheVariants as read_errors
use Rattle.quic_streams_parts.specs.declared.answers.WriteError.TheVariants as write_errors
use Rattle.quic_streams_parts.specs.declared.answers.FinishError.{FinishError}
use Rattle.quic_streams_parts.specs.SendHalf.{SendHalf}
use Rattle.quic_streams_parts.specs.RecvHalf.{RecvHalf}
use Rattle.quic_streams_state.specs.declared.state.StreamsState.{StreamsState}
use Rattle.quic_streams_state.specs.State.{Streams, sending_half, receiving_half}
use Rattle.quic_streams_state.specs.Writing.{after_write, after_write_chunks, finish_answer, finished_by, after_finish, after_reset, after_set_priority}
use Rattle.quic_streams_state.specs.Reading.{Told, told_bytes, told_end, told_reset, after_next, read_by, told_by, after_read_begun, after_stop}
use Rattle.quic_streams_laws.specs.Keeping.{KeepsBy}
use Rattle.quic_streams_laws.specs.KeepingLaws.{by_open, by_accept, by_finish, by_reset, by_set_priority, by_read_begun, by_next, by_stop, by_received_reset}
use Rattle.quic_machine.specs.declared.run.Call.{Call}
use Rattle.quic_machine.specs.declared.run.Call.TheVariants as calls
use Rattle.quic_machine.specs.declared.run.Answer.{Answer}
use Rattle.quic_machine.specs.declared.run.Answer.TheVariants as answers
use Rattle.quic_machine.specs.Calls.{AreNexts, after_nexts}
use Rattle.quic_machine.specs.StreamCalls.{IsStreamAnswer, if_ok, after_on_streams}
use Rattle.quic_headline.specs.Runs.{ended_by}
use Rattle.quic_headline.specs.Begins.{Thing, Byte, Fin}
use Rattle.quic_headline.proofs.Begins.Halves.{Any, PendsIn, AllPend, pend_kept, pends_reset, pends_ended, write_pends, write_chunks_pends}

module _ (F : Thing → Type 0) (b : Bool) (t : Streams) (call : Call) (a : Answer)
    (bounded : (id : ℕ) (h : SendHalf) → sending_half t.state id ≡ Some h → h.buffer.unsent ≤ written h.buffer)
    (new : (id : ℕ) (h : SendHalf) → sending_half t.state id ≡ Some h → h.reset ≡ None → (o : ℕ) → written h.buffer ≤ o → F (Byte id o))
    (ends : (id : ℕ) → ended_by id call a ≡ true → F (Fin id)) (i : AllPend Any F t.state) where
  abbrev k : KeepsBy (λ r id old new. Unit {0}) (λ s id old new. PendsIn Any F id old → PendsIn Any F id new) (λ s id n old new. PendsIn Any F id old → PendsIn Any F id new) (AllPend Any F)
  k = pend_kept Any F tt

  -- ---- reads

  -- a `next` that finds no memory
  next_lacks : (told : Told) (s : StreamsState) (id most : ℕ) → AllPend Any F s → AllPend Any F (after_next told (Err read_errors.Memory) s id most)
  next_lacks told_bytes s id most j = go (receiving_half s id)
    where
      go : (o : Option RecvHalf) → AllPend Any F (read_by (Err read_errors.Memory) o s id most)
      go None = j
      go (Some h) = j
  next_lacks told_end s id most j = j
  next_lacks (told_reset code) s id most j = j

  nexts_pend : (told : Told) (s : StreamsState) (id : ℕ) (mosts : List ℕ) (said : List (Result (Option Chunk) ReadError)) → AreNexts told s id mosts said → AllPend Any F s → AllPend Any F (after_nexts told s id mosts said)
  nexts_pend told s id [] [] are j = j
  nexts_pend told s id [] (answer ∷ said) are j = absurd are
  nexts_pend told s id (most ∷ mosts) [] are j = absurd are
  nexts_pend told s id (most ∷ mosts) (answer ∷ said) are j = nexts_pend (told_by answer told) (after_next told answer s id most) id mosts said are.1 (elim are.0 [
    | inl is ↦ subst (λ (x : Result (Option Chunk) ReadError). AllPend Any F (after_next told x s id most)) (sym is) (by_next (AllPend Any F) k told s id most (λ h c e is. tt) j)
    | inr is ↦ subst (λ (x : Result (Option Chunk) ReadError). AllPend Any F (after_next told x s id most)) (sym is) (next_lacks told s id most j)
  ])

  -- ---- any call

  -- an update that is answered or refused
  if_done : {A E : Type 0} (r : Result A E) (after : Streams) → AllPend Any F after.state → AllPend Any F (if_ok r after t).state
  if_done (Ok x) after now = now
  if_done (Err error) after now = i

  abbrev On : Call → Answer → Type 0
  On c x = AllPend Any F (after_on_streams b t c x).state

  write_lacks : (c : Bool) (id : ℕ) (bytes : List ℕ) → AllPend Any F (after_write c (Err write_errors.Memory) t.state t.pending id bytes).state
  write_lacks true id bytes = i
  write_lacks false id bytes = i

  chunks_lack : (c : Bool) (id : ℕ) (chunks : List (List ℕ)) → AllPend Any F (after_write_chunks c (Err write_errors.Memory) t.state t.pending id chunks).state
  chunks_lack true id chunks = i
  chunks_lack false id chunks = i

  -- the end of a stream
  finish_pends : (id : ℕ) → ((x : Unit {0}) → finish_answer t.state id ≡ Ok x → F (Fin id)) → AllPend Any F (after_finish t.state id)
  finish_pends id here = go (finish_answer t.state id) refl
    where
      go : (r : Result (Unit {0}) FinishError) → finish_answer t.state id ≡ r → AllPend Any F (finished_by r t.state id)
      go (Ok x) is = subst (λ (y : Result (Unit {0}) FinishError). AllPend Any F (finished_by y t.state id)) is (by_finish (AllPend Any F) k t.state id (λ h e ready p. pends_ended Any F tt id h p (here x is)) i)
      go (Err e) is = i

  pub calls_pend : IsStreamAnswer b t.state call a → On call a
  calls_pend is = go call a refl refl is
    where
      go : (c : Call) (x : Answer) → c ≡ call → x ≡ a → IsStreamAnswer b t.state c x → On c x
      go (calls.Open dir) x same answer is = by_open (AllPend Any F) k b dir t.state i
      go (calls.Accept dir) x same answer is = by_accept (AllPend Any F) k dir t.state (λ may. may) i
      go (calls.Write id bytes) x same answer (inl is) = subst (On (calls.Write id bytes)) (sym is) (write_pends F t.state i id (bounded id) (new id) b t.pending bytes)
      go (calls.Write id bytes) x same answer (inr is) = subst (On (calls.Write id bytes)) (sym is) (write_lacks b id bytes)
      go (calls.WriteChunks id chunks) x same answer (inl is) = subst (On (calls.WriteChunks id chunks)) (sym is) (write_chunks_pends F t.state i id (bounded id) (new id) b t.pending chunks.items)
      go (calls.WriteChunks id chunks) x same answer (inr is) = subst (On (calls.WriteChunks id chunks)) (sym is) (chunks_lack b id chunks.items)
      go (calls.Finish id) x same answer (inl is) = subst (On (calls.Finish id)) (sym is) (finish_pends id (λ u ok. ends id (
          ap (λ (c : Call). ended_by id c a) (sym same)
          ∙ ap (λ (y : Answer). ended_by id (calls.Finish id) y) (sym answer)
          ∙ ap (λ (y : Answer). ended_by id (calls.Finish id) y) is
          ∙ ap (λ (r : Result (Unit {0}) FinishError). ended_by id (calls.Finish id) (answers.Finish r)) ok
          ∙ eq-eqb id id refl)))
      go (calls.Finish id) x same answer (inr is) = subst (On (calls.Finish id)) (sym is) i
      go (calls.Reset id code) x same answer (inl is) = subst (On (calls.Reset id code)) (sym is) (if_done _ (after_reset t.state t.pending id code) (by_reset (AllPend Any F) k t.state t.pending id code (λ h e none p. pends_reset Any F tt id h p) i))
      go (calls.Reset id code) x same answer (inr is) = subst (On (calls.Reset id code)) (sym is) i
      go (calls.SetPriority id priority) x same answer (inl is) = subst (On (calls.SetPriority id priority)) (sym is)
          (if_done _ (record t { state = after_set_priority t.state id priority }) (by_set_priority (AllPend Any F) k t.state id priority (λ h e p. record { lawful = tt; bytes = p.bytes; fin = p.fin }) i))
      go (calls.SetPriority id priority) x same answer (inr is) = subst (On (calls.SetPriority id priority)) (sym is) i
      go (calls.Read read) (answers.Read (Ok said)) same answer is = nexts_pend told_bytes (after_read_begun t.state read.id read.ordered) read.id read.nexts.items said is.1 (by_read_begun (AllPend Any F) k t.state read.id read.ordered (λ h e. tt) i)
      go (calls.Read read) (answers.Read (Err error)) same answer is = i
      go (calls.Read read) x same answer is = absurd is
      go (calls.Stop id code) x same answer (inl is) = subst (On (calls.Stop id code)) (sym is) (if_done _ (after_stop t.state t.pending id code) (by_stop (AllPend Any F) k t.state t.pending id code (λ h e. tt) i))
      go (calls.Stop id code) x same answer (inr is) = subst (On (calls.Stop id code)) (sym is) i
      go (calls.ReceivedReset id) x same answer is = by_received_reset (AllPend Any F) k t.state t.pending id i
      go c x same answer is = absurd is
