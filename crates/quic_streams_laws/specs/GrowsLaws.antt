-- What was done on a stream only grows, and is over once the stream is finished or reset (RFC 9000,
-- section 3.1).
use Rattle.std.proofs.Common.{◌≡◌, ℕ, [], ◌++◌, take, length, Bool, true, false, List, Option, Some, None, Result, Ok, Err, refl, sym, ap, ◌∙◌, subst, inl, inr}
use Rattle.std.specs.Prelude.{◌||◌, not, if◌then◌else◌}
use Rattle.std.specs.Option.{is_some, IsSome}
use Rattle.std.specs.List.{concat}
use Rattle.std.proofs.lemmas.Bool.{cases_eq}
use Rattle.std.proofs.lemmas.List.{append-nil, append_assoc}
use Rattle.quic_streams_parts.specs.declared.answers.WriteError.{WriteError}
use Rattle.quic_streams_parts.specs.declared.answers.WriteError.TheVariants as write_errors
use Rattle.quic_streams_parts.specs.declared.answers.FinishError.{FinishError}
use Rattle.quic_streams_parts.specs.declared.answers.UpdateError.TheVariants as update_errors
use Rattle.quic_streams_parts.specs.SendHalf.{SendHalf, is_ready, written_to}
use Rattle.quic_streams_state.specs.declared.state.StreamsState.{StreamsState}
use Rattle.quic_streams_state.specs.State.{sending_half, room}
use Rattle.quic_streams_state.specs.Writing.{write_answer, chunks_of, write_chunks_answer, finish_answer, is_reset_at, reset_answer}
use Rattle.quic_send_buffer.specs.Source.{bytes_of}
use Rattle.quic_streams_laws.specs.KeepingLaws.{by_option, free, not_taken, taken_ready}
use Rattle.quic_streams_laws.specs.Written.{Wrote, IsOver, Grows, IsSendHalf, HoldsWritten, with_bytes, with_end, with_reset, done_on, wrote_by, wrote_chunks_by, wrote_end_by, wrote_reset_by}
use Rattle.quic_streams_laws.specs.WrittenHalves.{not_reset}
use Rattle.quic_streams_laws.specs.WrittenLaws.{half_holds}
use Rattle.quic_streams_laws.specs.WroteLaws.{done_here, done_apart}

-- ---- of one stream

-- nothing more is done
pub grows_same : (w : Wrote) → Grows w w
grows_same w = record { rest = []; bytes = append-nil w.bytes; over = λ o. refl; ended = λ e. e; reset = λ code e. e }

-- more is done, and more again
pub grows_more : (w x y : Wrote) → Grows w x → Grows x y → Grows w y
grows_more w x y g h = record {
  rest = g.rest ++ h.rest;
  bytes = sym (append_assoc w.bytes g.rest h.rest) ∙ (ap (λ (bs : List ℕ). bs ++ h.rest) g.bytes ∙ h.bytes);
  over = λ o. h.over (stays o) ∙ g.over o;
  ended = λ e. h.ended (g.ended e);
  reset = λ code e. h.reset code (g.reset code e);
}
  where
    code_of : (o : Option ℕ) → IsSome o → (code : ℕ) × (o ≡ Some code)
    code_of None e = cc
    code_of (Some code) e = (code, refl)

    stays : IsOver w → IsOver x
    stays (inl e) = inl (g.ended e)
    stays (inr e) = let c = code_of w.reset e in inr (ap is_some (g.reset c.0 c.1))

-- a stream that is neither finished nor reset isn't over
pub not_over : (w : Wrote) (h : SendHalf) → IsSendHalf w h → is_ready h ≡ true → IsOver w → ⊥
not_over w h i ready over = go h.finished h.reset refl refl ready
  where
    none : h.reset ≡ None → IsOver w → h.finished ≡ false → ⊥
    none free (inl e) fresh = (let clash : false ≡ true = sym fresh ∙ (i.finished ∙ e) in cc)
    none free (inr e) fresh = (let clash : false ≡ true = ap is_some (sym (not_reset w h i free)) ∙ e in cc)

    go : (f : Bool) (o : Option ℕ) → h.finished ≡ f → h.reset ≡ o → not (f || is_some o) ≡ true → ⊥
    go true o is e r = cc
    go false (Some code) is e r = cc
    go false None is e r = none e over is

-- bytes go behind the others of a stream that isn't over
grows_bytes : (w : Wrote) (bytes : List ℕ) → (IsOver w → ⊥) → Grows w (with_bytes bytes w)
grows_bytes w bytes fresh = record { rest = bytes; bytes = refl; over = λ o. absurd (fresh o); ended = λ e. e; reset = λ code e. e }

grows_end : (w : Wrote) → Grows w (with_end w)
grows_end w = record { rest = []; bytes = append-nil w.bytes; over = λ o. refl; ended = λ e. refl; reset = λ code e. e }

grows_reset_now : (w : Wrote) (code : ℕ) → w.reset ≡ None → Grows w (with_reset code w)
grows_reset_now w code none = record { rest = []; bytes = append-nil w.bytes; over = λ o. refl; ended = λ e. e; reset = λ c e. absurd (not_some c (sym none ∙ e)) }
  where
    not_some : (c : ℕ) → None ≡ Some c → ⊥
    not_some c e = cc

-- ---- of all streams

-- more is done on one
grows_on : (wrote : ℕ → Wrote) (id : ℕ) (more : Wrote → Wrote) → Grows (wrote id) (more (wrote id)) → (q : ℕ) → Grows (wrote q) (done_on id more wrote q)
grows_on wrote id more g q = elim (cases_eq q id) [
  | inl same ↦ subst (λ x. Grows (wrote x) (done_on id more wrote x)) (sym same) (subst (Grows (wrote id)) (sym (done_here id more wrote)) g)
  | inr ne ↦ subst (Grows (wrote q)) (sym (done_apart id more wrote q ne)) (grows_same (wrote q))
]

module _ (wrote : ℕ → Wrote) (s : StreamsState) (i : HoldsWritten wrote s) where
  -- a write
  pub grows_write : (is_open : Bool) (id : ℕ) (bytes : List ℕ) (q : ℕ) → Grows (wrote q) (wrote_by (write_answer is_open s id (length bytes)) id bytes wrote q)
  grows_write false id bytes q = grows_same (wrote q)
  grows_write true id bytes q = go (written_to (sending_half s id) (room s.sending) (length bytes)) refl
    where
      go : (answer : Result ℕ WriteError) → written_to (sending_half s id) (room s.sending) (length bytes) ≡ answer → Grows (wrote q) (wrote_by answer id bytes wrote q)
      go (Ok n) is = by_option (sending_half s id) (λ o. written_to o (room s.sending) (length bytes) ≡ Ok n → Grows (wrote q) (done_on id (with_bytes (take n bytes)) wrote q)) (λ e f. absurd (not_taken write_errors.ClosedStream n f)) (λ h e f.
          grows_on wrote id (with_bytes (take n bytes)) (grows_bytes (wrote id) (take n bytes) (not_over (wrote id) h (half_holds wrote s i id h e) (taken_ready h (room s.sending) (length bytes) n f))) q) is
      go (Err e) is = grows_same (wrote q)

  -- a write of several buffers
  pub grows_write_chunks : (is_open : Bool) (id : ℕ) (cs : List (List ℕ)) (q : ℕ) → Grows (wrote q) (wrote_chunks_by (write_chunks_answer is_open s id cs) id cs wrote q)
  grows_write_chunks false id cs q = grows_same (wrote q)
  grows_write_chunks true id cs q = go (written_to (sending_half s id) (room s.sending) (bytes_of cs)) refl
    where
      go : (answer : Result ℕ WriteError) → written_to (sending_half s id) (room s.sending) (bytes_of cs) ≡ answer → Grows (wrote q) (wrote_chunks_by (chunks_of answer cs) id cs wrote q)
      go (Ok n) is = by_option (sending_half s id) (λ o. written_to o (room s.sending) (bytes_of cs) ≡ Ok n → Grows (wrote q) (done_on id (with_bytes (take n (concat cs))) wrote q)) (λ e f. absurd (not_taken write_errors.ClosedStream n f)) (λ h e f.
          grows_on wrote id (with_bytes (take n (concat cs))) (grows_bytes (wrote id) (take n (concat cs)) (not_over (wrote id) h (half_holds wrote s i id h e) (taken_ready h (room s.sending) (bytes_of cs) n f))) q) is
      go (Err e) is = grows_same (wrote q)

  -- a finish
  pub grows_finish : (id q : ℕ) → Grows (wrote q) (wrote_end_by (finish_answer s id) id wrote q)
  grows_finish id q = go (finish_answer s id)
    where
      go : (answer : Result (Unit {0}) FinishError) → Grows (wrote q) (wrote_end_by answer id wrote q)
      go (Ok x) = grows_on wrote id with_end (grows_end (wrote id)) q
      go (Err e) = grows_same (wrote q)

  -- a reset
  pub grows_reset : (id code q : ℕ) → Grows (wrote q) (wrote_reset_by (reset_answer s id) id code wrote q)
  grows_reset id code q = go (sending_half s id) refl
    where
      on : (h : SendHalf) → sending_half s id ≡ Some h → (b : Bool) → is_some h.reset ≡ b → Grows (wrote q) (wrote_reset_by (if b then Err update_errors.ClosedStream else Ok tt) id code wrote q)
      on h e true is = grows_same (wrote q)
      on h e false is = grows_on wrote id (with_reset code) (grows_reset_now (wrote id) code (not_reset (wrote id) h (half_holds wrote s i id h e) (free h.reset is))) q

      go : (o : Option SendHalf) → sending_half s id ≡ o → Grows (wrote q) (wrote_reset_by (if is_reset_at o then Err update_errors.ClosedStream else Ok tt) id code wrote q)
      go None e = grows_same (wrote q)
      go (Some h) e = on h e (is_some h.reset) refl
