-- What a write leaves of what is tallied: the bytes that were accepted are one piece more of their
-- stream, or as many as there were buffers.
use Rattle.std.proofs.Common.{◌≡◌, ℕ, zero, suc, ◌+◌, Bool, true, false, List, [], ◌∷◌, ◌++◌, length, take, Option, Some, None, Result, Ok, Err, refl, sym, ap, ◌∙◌, subst, inl, inr, arith, append_assoc, append-nil, length-append, length-take}
use Rattle.std.specs.Prelude.{◌==◌, if◌then◌else◌}
use Rattle.std.specs.Option.{is_some}
use Rattle.std.proofs.lemmas.List.Sums.{sum_by-cons}
use Rattle.std.proofs.lemmas.Bool.{cond_both, eqb-true, eq-eqb, ne_eqb}
use Rattle.quic_send_buffer.specs.Buffered.{piece_of}
use Rattle.quic_send_buffer.specs.Source.{bytes_of, cut_to}
use Rattle.quic_streams_parts.specs.declared.answers.WriteError.{WriteError}
use Rattle.quic_streams_parts.specs.declared.answers.WriteError.TheVariants as write_errors
use Rattle.quic_streams_parts.specs.Queue.{Place, Queue}
use Rattle.quic_streams_parts.specs.SendHalf.{SendHalf, grown, grown_all, requeued_at, written_to}
use Rattle.quic_retransmits.specs.Retransmits.{Retransmits}
use Rattle.quic_streams_state.specs.declared.state.StreamsState.{StreamsState}
use Rattle.quic_streams_state.specs.State.{sending_half, room}
use Rattle.quic_streams_state.specs.Writing.{write_answer, after_write, written_by, accepted_at, grown_by, chunks_of, write_chunks_answer, after_write_chunks, chunks_written_by, chunks_accepted_at, chunks_grown_by, put_queued}
use Rattle.quic_streams_laws.specs.KeepingLaws.{by_option, by_blocked, not_taken, taken}
use Rattle.quic_machine.specs.declared.run.Call.{Call}
use Rattle.quic_machine.specs.declared.run.Call.TheVariants as calls
use Rattle.quic_machine.specs.declared.run.Answer.{Answer}
use Rattle.quic_machine.specs.declared.run.Answer.TheVariants as answers
use Rattle.quic_machine.specs.Policy.{Policy}
use Rattle.quic_machine.specs.End.{End}
use Rattle.quic_machine.specs.Calls.{is_open}
use Rattle.quic_machine.specs.Machine.{IsAnswer, after_call}
use Rattle.quic_headline.specs.Runs.{joined}
use Rattle.quic_headline.specs.Amounts.{shares, amount_by}
use Rattle.quic_headline.proofs.Halves.Words.{is_write}
use Rattle.quic_headline.proofs.Amounts.Pieces.{sizes_by, filled, filled_both, no_shares, written_pieces, written_base, cut_lengths}
use Rattle.quic_headline.proofs.Amounts.Tally.{Tally, IsTallied, AreTallied, Tallies, AlikeAt, half_tallied, tallies_kept, put_tallied, tallies_alike}

-- with what a call wrote
abbrev pub and_call : Call → Answer → Tally → Tally
and_call call a t = record t { sizes = λ id. t.sizes id ++ sizes_by id call a; accepted = t.accepted + amount_by call a }

-- with so many bytes more, in pieces of these sizes, on a stream
abbrev and_sizes : ℕ → List ℕ → ℕ → Tally → Tally
and_sizes id ns count t = record t { sizes = λ q. t.sizes q ++ (if id == q then ns else []); accepted = t.accepted + count }

module _ (t : Tally) (id : ℕ) (ns : List ℕ) (count : ℕ) where
  abbrev u : Tally
  u = and_sizes id ns count t

  -- nothing of other streams
  apart : (q : ℕ) → (q ≡ id → ⊥) → AlikeAt t u q
  apart q ne = record { first = refl; limit = refl; stopped = refl; sizes = ap (λ (b : Bool). filled (t.sizes q ++ (if b then ns else []))) (ne_eqb id q (λ e. ne (sym e))) ∙ ap filled (append-nil (t.sizes q)) }

  -- its own
  here : filled (u.sizes id) ≡ filled (t.sizes id) ++ filled ns
  here = ap (λ (b : Bool). filled (t.sizes id ++ (if b then ns else []))) (eq-eqb id id refl) ∙ filled_both (t.sizes id) ns

  -- no byte more
  none_more : (s : StreamsState) → filled ns ≡ [] → count ≡ 0 → Tallies t s → Tallies u s
  none_more s none no_count i = tallies_alike t u s (λ q. record { first = refl; limit = refl; stopped = refl; sizes = filled_both (t.sizes q) (if id == q then ns else []) ∙ ap (λ (ms : List ℕ). filled (t.sizes q) ++ ms) (either (id == q)) ∙ append-nil (filled (t.sizes q)) }) refl (omega arith) refl i
    where
      either : (b : Bool) → filled (if b then ns else []) ≡ []
      either true = none
      either false = refl

  -- a half has these more
  grown_tallied : (h new : SendHalf) → new.limit ≡ h.limit → new.stopped ≡ h.stopped → new.reset ≡ h.reset → new.buffer.pieces ≡ h.buffer.pieces ++ filled ns → new.buffer.base ≡ h.buffer.base → IsTallied t id h → IsTallied u id new
  grown_tallied h new limit stopped reset pieces base i = record {
    limit = limit ∙ i.limit;
    stopped = ap is_some stopped ∙ i.stopped;
    pieces = λ none. (let was = i.pieces (sym reset ∙ none) in record {
      front = was.front;
      parts = here ∙ ap (λ (ms : List ℕ). ms ++ filled ns) was.parts ∙ append_assoc was.front h.buffer.pieces (filled ns) ∙ ap (λ (ms : List ℕ). was.front ++ ms) (sym pieces);
      base = was.base ∙ sym base;
    });
  }

  requeued_tallied : (o : Option Place) (b : Bool) (q : Queue) (h : SendHalf) → IsTallied u id h → IsTallied u id (requeued_at o b q id h).half
  requeued_tallied None true q h i = record { limit = i.limit; stopped = i.stopped; pieces = i.pieces }
  requeued_tallied None false q h i = record { limit = i.limit; stopped = i.stopped; pieces = i.pieces }
  requeued_tallied (Some place) true q h i = record { limit = i.limit; stopped = i.stopped; pieces = i.pieces }
  requeued_tallied (Some place) false q h i = record { limit = i.limit; stopped = i.stopped; pieces = i.pieces }

  -- it stands in the queue, and the bytes count
  put_grown : (s : StreamsState) (h new : SendHalf) → sending_half s id ≡ Some h → IsTallied u id new → Tallies t s
      → Tallies u (let v = put_queued s id (requeued_at h.place true s.sending.queue id new) in record v { sending = record v.sending { accepted = s.sending.accepted + count } })
  put_grown s h new is now i =
      let put : AreTallied u (put_queued s id (requeued_at h.place true s.sending.queue id new)) = put_tallied t u s id h (requeued_at h.place true s.sending.queue id new) is (λ q. refl) apart (requeued_tallied h.place true s.sending.queue new now) i.halves in
      record {
        halves = record { shape = record { sending = put.shape.sending; receiving = put.shape.receiving }; first = put.first; each = put.each };
        sums = record { limit = i.sums.limit; accepted = ap (λ (n : ℕ). n + count) i.sums.accepted; window = i.sums.window };
      }

-- a call that wrote nothing
pub no_bytes : (t : Tally) (s : StreamsState) (call : Call) (a : Answer) → ((id : ℕ) → sizes_by id call a ≡ []) → amount_by call a ≡ 0 → Tallies t s → Tallies (and_call call a t) s
no_bytes t s call a none no_count i = tallies_alike t (and_call call a t) s (λ q. record { first = refl; limit = refl; stopped = refl; sizes = ap (λ (ns : List ℕ). filled (t.sizes q ++ ns)) (none q) ∙ ap filled (append-nil (t.sizes q)) }) refl (omega arith) refl i

-- buffers have as many bytes as they have one behind another
pub joined_length : (cs : List (List ℕ)) → length (joined cs) ≡ bytes_of cs
joined_length [] = refl
joined_length (c ∷ cs) =
    let sum : bytes_of (c ∷ cs) ≡ length c + bytes_of cs = sum_by-cons (λ (x : List ℕ). length x) c cs in
    let both = length-append c (joined cs) in
    let rest = joined_length cs in
    omega arith

module _ (t : Tally) (s : StreamsState) (i : Tallies t s) where
  -- ---- one buffer

  accepted_tallies : (id : ℕ) (h : SendHalf) (bytes : List ℕ) → sending_half s id ≡ Some h → Tallies (and_sizes id (length bytes ∷ []) (length bytes) t) (accepted_at (Some h) s id bytes)
  accepted_tallies id h bytes is = cond_both (length bytes == 0) s (grown_by h s id bytes) (Tallies (and_sizes id (length bytes ∷ []) (length bytes) t))
      (λ e. (let empty = eqb-true (length bytes) 0 e in none_more t id (length bytes ∷ []) (length bytes) s (ap (λ (n : ℕ). filled (n ∷ [])) empty) empty i))
      (λ e. put_grown t id (length bytes ∷ []) (length bytes) s h (grown h bytes) is
      (grown_tallied t id (length bytes ∷ []) (length bytes) h (grown h bytes) refl refl refl (ap (λ (ns : List ℕ). h.buffer.pieces ++ ns) (sym (append-nil (piece_of (length bytes))))) refl (half_tallied t s id h is i.halves)) i)

  pub write_tallies : (b : Bool) (p : Retransmits) (id : ℕ) (bytes : List ℕ) → Tallies (and_call (calls.Write id bytes) (answers.Write (write_answer b s id (length bytes))) t) (after_write b (write_answer b s id (length bytes)) s p id bytes).state
  write_tallies false p id bytes = no_bytes t s (calls.Write id bytes) (answers.Write (Err write_errors.Blocked)) (λ q. refl) refl i
  write_tallies true p id bytes = go (written_to (sending_half s id) (room s.sending) (length bytes)) refl
    where
      go : (r : Result ℕ WriteError) → written_to (sending_half s id) (room s.sending) (length bytes) ≡ r → Tallies (and_call (calls.Write id bytes) (answers.Write r) t) (written_by r s p id bytes).state
      go (Ok n) is = by_option (sending_half s id) (λ o. written_to o (room s.sending) (length bytes) ≡ Ok n → Tallies (and_sizes id (length (take n bytes) ∷ []) (length (take n bytes)) t) (accepted_at o s id (take n bytes)))
          (λ e f. absurd (not_taken write_errors.ClosedStream n f)) (λ h e f. accepted_tallies id h (take n bytes) e) is
      go (Err write_errors.Blocked) is = no_bytes t _ (calls.Write id bytes) (answers.Write (Err write_errors.Blocked)) (λ q. refl) refl (by_blocked (Tallies t) (tallies_kept t) s p id (sending_half s id) refl i)
      go (Err (write_errors.Stopped code)) is = no_bytes t s (calls.Write id bytes) (answers.Write (Err (write_errors.Stopped code))) (λ q. refl) refl i
      go (Err write_errors.ClosedStream) is = no_bytes t s (calls.Write id bytes) (answers.Write (Err write_errors.ClosedStream)) (λ q. refl) refl i
      go (Err write_errors.Memory) is = no_bytes t s (calls.Write id bytes) (answers.Write (Err write_errors.Memory)) (λ q. refl) refl i

  -- ---- several

  chunks_tallies : (id : ℕ) (h : SendHalf) (cs : List (List ℕ)) (n count : ℕ) → sending_half s id ≡ Some h → count ≡ n → Tallies (and_sizes id (shares n cs) count t) (chunks_accepted_at (Some h) s id n cs)
  chunks_tallies id h cs zero count is same = none_more t id (shares 0 cs) count s (no_shares cs) same i
  chunks_tallies id h cs (suc n) count is same = subst (λ (m : ℕ). Tallies (and_sizes id (shares (suc n) cs) m t) (chunks_grown_by h s id (suc n) cs)) (sym same)
      (put_grown t id (shares (suc n) cs) (suc n) s h (grown_all h (cut_to (suc n) cs)) is
      (grown_tallied t id (shares (suc n) cs) (suc n) h (grown_all h (cut_to (suc n) cs)) refl refl refl (written_pieces h.buffer (cut_to (suc n) cs) ∙ ap (λ (ns : List ℕ). h.buffer.pieces ++ filled ns) (cut_lengths (suc n) cs)) (written_base h.buffer (cut_to (suc n) cs)) (half_tallied t s id h is i.halves)) i)

  pub write_chunks_tallies : (b : Bool) (p : Retransmits) (id : ℕ) (cs : _) → Tallies (and_call (calls.WriteChunks id cs) (answers.WriteChunks (write_chunks_answer b s id cs.items)) t) (after_write_chunks b (write_chunks_answer b s id cs.items) s p id cs.items).state
  write_chunks_tallies false p id cs = no_bytes t s (calls.WriteChunks id cs) (answers.WriteChunks (Err write_errors.Blocked)) (λ q. refl) refl i
  write_chunks_tallies true p id cs = go (written_to (sending_half s id) (room s.sending) (bytes_of cs.items)) refl
    where
      failed : (e : WriteError) (v : StreamsState) → Tallies t v → Tallies (and_call (calls.WriteChunks id cs) (answers.WriteChunks (Err e)) t) v
      failed e v j = no_bytes t v (calls.WriteChunks id cs) (answers.WriteChunks (Err e)) (λ q. refl) refl j

      go : (r : Result ℕ WriteError) → written_to (sending_half s id) (room s.sending) (bytes_of cs.items) ≡ r → Tallies (and_call (calls.WriteChunks id cs) (answers.WriteChunks (chunks_of r cs.items)) t) (chunks_written_by (chunks_of r cs.items) s p id cs.items).state
      go (Ok n) is = by_option (sending_half s id) (λ o. written_to o (room s.sending) (bytes_of cs.items) ≡ Ok n → Tallies (and_sizes id (shares n cs.items) (length (take n (joined cs.items))) t) (chunks_accepted_at o s id n cs.items))
          (λ e f. absurd (not_taken write_errors.ClosedStream n f)) (λ h e f.
          let fits = (taken h (room s.sending) (bytes_of cs.items) n f).3 in
          let few = length-take n (joined cs.items) in
          let all = joined_length cs.items in
          chunks_tallies id h cs.items n (length (take n (joined cs.items))) e (omega arith)) is
      go (Err write_errors.Blocked) is = failed write_errors.Blocked _ (by_blocked (Tallies t) (tallies_kept t) s p id (sending_half s id) refl i)
      go (Err (write_errors.Stopped code)) is = failed (write_errors.Stopped code) s i
      go (Err write_errors.ClosedStream) is = failed write_errors.ClosedStream s i
      go (Err write_errors.Memory) is = failed write_errors.Memory s i

-- ---- the call

module _ (t : Tally) (p : Policy) (e : End) (theirs : List (List ℕ)) (i : Tallies t e.streams) where
  abbrev Goes : Call → Answer → Type 0
  Goes call a = Tallies (and_call call a t) (after_call p e theirs call a).streams

  lacks : (b : Bool) (id : ℕ) (bytes : List ℕ) → Tallies t (after_write b (Err write_errors.Memory) e.streams e.waiting.frames id bytes).state
  lacks true id bytes = i
  lacks false id bytes = i

  chunks_lack : (b : Bool) (id : ℕ) (cs : List (List ℕ)) → Tallies t (after_write_chunks b (Err write_errors.Memory) e.streams e.waiting.frames id cs).state
  chunks_lack true id cs = i
  chunks_lack false id cs = i

  pub writing_tallies : (call : Call) (a : Answer) → is_write call ≡ true → IsAnswer p e theirs call a → Goes call a
  writing_tallies (calls.Write id bytes) a writes (inl is) = subst (Goes (calls.Write id bytes)) (sym is) (write_tallies t e.streams i (is_open e.closing.state) e.waiting.frames id bytes)
  writing_tallies (calls.Write id bytes) a writes (inr is) = subst (Goes (calls.Write id bytes)) (sym is) (no_bytes t _ (calls.Write id bytes) (answers.Write (Err write_errors.Memory)) (λ q. refl) refl (lacks (is_open e.closing.state) id bytes))
  writing_tallies (calls.WriteChunks id cs) a writes (inl is) = subst (Goes (calls.WriteChunks id cs)) (sym is) (write_chunks_tallies t e.streams i (is_open e.closing.state) e.waiting.frames id cs)
  writing_tallies (calls.WriteChunks id cs) a writes (inr is) = subst (Goes (calls.WriteChunks id cs)) (sym is) (no_bytes t _ (calls.WriteChunks id cs) (answers.WriteChunks (Err write_errors.Memory)) (λ q. refl) refl (chunks_lack (is_open e.closing.state) id cs.items))
  writing_tallies call a writes is = cc

-- a call that is no write wrote nothing
pub quiet_sizes : (call : Call) (a : Answer) → is_write call ≡ false → (id : ℕ) → sizes_by id call a ≡ []
quiet_sizes (calls.Write id bytes) a quiet q = cc
quiet_sizes (calls.WriteChunks id cs) a quiet q = cc
quiet_sizes call a quiet q = refl

pub quiet_amount : (call : Call) (a : Answer) → is_write call ≡ false → amount_by call a ≡ 0
quiet_amount (calls.Write id bytes) a quiet = cc
quiet_amount (calls.WriteChunks id cs) a quiet = cc
quiet_amount call a quiet = refl
