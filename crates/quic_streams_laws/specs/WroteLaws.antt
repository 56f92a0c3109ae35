-- What is done on streams, with a further fact of each half: writes, finishes and resets keep it
-- where what they make of a half does.
use Rattle.std.proofs.Common.{◌≡◌, ℕ, zero, suc, ◌+◌, ◌^◌, ◌<◌, ◌≤◌, length, take, [], ◌∷◌, Bool, true, false, List, Option, Some, None, Result, Ok, Err, refl, sym, ap, ◌∙◌, subst, arith, inl, inr, length-take}
use Rattle.std.specs.Prelude.{◌==◌, if◌then◌else◌}
use Rattle.std.specs.Option.{is_some, is_none, option_map}
use Rattle.std.specs.List.{concat}
use Rattle.std.proofs.lemmas.Bool.{cond_both, cond-true, cond-false, eq-eqb, eqb-true, ne_eqb, and_parts, cases_eq}
use Rattle.std.proofs.lemmas.List.{append-nil}
use Rattle.quic_wire_core.specs.declared.stream_id.Side.{Side}
use Rattle.quic_wire_core.specs.declared.stream_id.Dir.{Dir}
use Rattle.quic_wire_core.specs.declared.stream_id.Dir.TheVariants.{Bi, Uni}
use Rattle.quic_wire_core.specs.StreamId.{dir_of}
use Rattle.quic_parameters.specs.Parameters.{ParameterValues}
use Rattle.quic_streams_parts.specs.declared.answers.WriteError.{WriteError}
use Rattle.quic_streams_parts.specs.declared.answers.WriteError.TheVariants as write_errors
use Rattle.quic_streams_parts.specs.declared.answers.FinishError.{FinishError}
use Rattle.quic_streams_parts.specs.declared.answers.UpdateError.TheVariants as update_errors
use Rattle.quic_streams_parts.specs.Dirs.{of, is_own}
use Rattle.quic_streams_parts.specs.Table.{at}
use Rattle.quic_streams_parts.specs.SendHalf.{SendHalf, Queued, new_send_half, room_on, written_to, grown, ended, reset_now, finish_of, requeued_at}
use Rattle.quic_streams_halves.specs.Halves.{has_place, no_places}
use Rattle.quic_retransmits.specs.Retransmits.{Retransmits}
use Rattle.quic_streams_state.specs.declared.state.StreamsState.{StreamsState}
use Rattle.quic_streams_state.specs.State.{Streams, new_streams, after_set_params, sending_half, room}
use Rattle.quic_streams_state.specs.Writing.{put_queued, write_answer, after_write, written_by, accepted_at, grown_by, chunks_of, write_chunks_answer, after_write_chunks, chunks_written_by, chunks_accepted_at, finish_answer, after_finish, finished_by, ended_at, is_reset_at, reset_answer, after_reset, reset_at}
use Rattle.quic_send_buffer.specs.Source.{bytes_of, cut_to}
use Rattle.quic_streams_parts.specs.SendHalf.{grown_all}
use Rattle.quic_streams_laws.specs.Keeping.{KeepsBy, HasEnded}
use Rattle.quic_streams_laws.specs.KeepingLaws.{by_option, taken, not_taken, cut_bytes, no_reset, finish_ready, by_blocked}
use Rattle.quic_streams_laws.specs.ShapeLaws.{sends_with}
use Rattle.quic_streams_laws.specs.StartLaws.{shape_new, shape_set_params, nowhere}
use Rattle.quic_streams_laws.specs.Each.{HalfIs, EachSends, AreOfHalves}
use Rattle.quic_streams_laws.specs.EachLaws.{each_with, each_kept, said_of}
use Rattle.quic_streams_laws.specs.Written.{Wrote, HasSmallLimits, IsOver, IsSendHalf, nothing_done, with_bytes, with_end, with_reset, done_on, wrote_by, wrote_chunks_by, wrote_end_by, wrote_reset_by}
use Rattle.quic_streams_laws.specs.WrittenHalves.{new_holds, grown_holds, grown_all_holds, cut_concat, ended_holds, reset_holds, blocked_holds, noted_holds, placed_holds}

-- ---- one stream

-- a half that is reset is that of a stream that is
some_same : (o : Option ℕ) (n : ℕ) → is_some (option_map (λ code. n) o) ≡ is_some o
some_same None n = refl
some_same (Some code) n = refl

-- where nothing is left to do on a half, its stream was finished or reset
pub ended_over : (w : Wrote) (h : SendHalf) → IsSendHalf w h → HasEnded h → IsOver w
ended_over w h i (inl reset) = inr (sym (some_same w.reset (length w.bytes)) ∙ (ap is_some (sym i.reset) ∙ reset))
ended_over w h i (inr acked) = inl (sym i.finished ∙ (and_parts _ _ (and_parts (is_none h.reset) _ acked).1).0)

pub done_here : (id : ℕ) (more : Wrote → Wrote) (wrote : ℕ → Wrote) → done_on id more wrote id ≡ more (wrote id)
done_here id more wrote = cond-true (id == id) (more (wrote id)) (wrote id) (eq-eqb id id refl)

pub done_apart : (id : ℕ) (more : Wrote → Wrote) (wrote : ℕ → Wrote) (q : ℕ) → (q ≡ id → ⊥) → done_on id more wrote q ≡ wrote q
done_apart id more wrote q ne = cond-false (q == id) (more (wrote q)) (wrote q) (ne_eqb q id ne)

-- where nothing more is done
same_done : (id : ℕ) (more : Wrote → Wrote) (wrote : ℕ → Wrote) → more (wrote id) ≡ wrote id → (q : ℕ) → done_on id more wrote q ≡ wrote q
same_done id more wrote same q = elim (cases_eq q id) [
  | inl is ↦ subst (λ x. done_on id more wrote x ≡ wrote x) (sym is) (done_here id more wrote ∙ same)
  | inr ne ↦ done_apart id more wrote q ne
]

-- ---- a further fact

-- X is kept by what is done on a half, and gives D where nothing is left to do
pub record GoesAlong (X : ℕ → SendHalf → Type 0) (D : ℕ → Wrote → Type 0) : Type 0 where
  pub fresh : (id limit : ℕ) → X id (new_send_half limit)
  pub blocked : (id : ℕ) (h : SendHalf) (b : Bool) → X id h → X id (record h { blocked = b })
  pub noted : (id : ℕ) (h : SendHalf) (said : Option ℕ) → X id h → X id (record h { said = said })
  pub placed : (id : ℕ) (h : SendHalf) (p : Option (ℕ × ℕ)) → X id h → X id (record h { place = p })
  pub grown : (id : ℕ) (h : SendHalf) (bytes : List ℕ) → X id h → X id (grown h bytes)
  pub ended : (id : ℕ) (h : SendHalf) → X id h → X id (ended h)
  pub reset : (id : ℕ) (h : SendHalf) → X id h → X id (reset_now h)
  pub over : (w : Wrote) (id : ℕ) (h : SendHalf) → IsSendHalf w h → X id h → HasEnded h → D id w

-- each half holds what was written, and X; each that is done is D
abbrev pub HoldsWith : (ℕ → SendHalf → Type 0) → (ℕ → Wrote → Type 0) → (ℕ → Wrote) → StreamsState → Type 0
HoldsWith X D wrote s = EachSends (λ id limit. limit < 2 ^ 62) (λ id. wrote id ≡ nothing_done) (λ id h. IsSendHalf (wrote id) h × X id h) (λ id. D id (wrote id)) s

module _ (X : ℕ → SendHalf → Type 0) (D : ℕ → Wrote → Type 0) (k : GoesAlong X D) where
  -- it is said of halves by their place
  of_halves : (wrote : ℕ → Wrote) → AreOfHalves (λ id limit. limit < 2 ^ 62) (λ id. wrote id ≡ nothing_done) (λ id h. IsSendHalf (wrote id) h × X id h) (λ id. D id (wrote id))
  of_halves wrote = record {
    fresh = λ id limit small none. (subst (λ w. IsSendHalf w (new_send_half limit)) (sym none) (new_holds limit small), k.fresh id limit);
    over = λ id h i ended. k.over (wrote id) id h i.0 i.1 ended;
    blocked = λ id h b i. (blocked_holds (wrote id) h i.0 b, k.blocked id h b i.1);
    noted = λ id h said i. (noted_holds (wrote id) h i.0 said, k.noted id h said i.1);
    placed = λ id h p i. (placed_holds (wrote id) h i.0 p, k.placed id h p i.1);
  }

  -- each word keeps it that changes halves only so that they hold what they held, and X
  pub with_kept : (wrote : ℕ → Wrote) → KeepsBy (λ r id old new. Unit {0}) (λ s id old new. IsSendHalf (wrote id) old × X id old → IsSendHalf (wrote id) new × X id new) (λ s id n old new. IsSendHalf (wrote id) old × X id old → IsSendHalf (wrote id) new × X id new) (HoldsWith X D wrote)
  with_kept wrote = each_kept (λ id limit. limit < 2 ^ 62) (λ id. wrote id ≡ nothing_done) (λ id h. IsSendHalf (wrote id) h × X id h) (λ id. D id (wrote id)) (of_halves wrote)

  -- what is said of a half on which something may be done
  pub with_half : (wrote : ℕ → Wrote) (s : StreamsState) (id : ℕ) (h : SendHalf) → sending_half s id ≡ Some h → HoldsWith X D wrote s → IsSendHalf (wrote id) h × X id h
  with_half wrote s id h e i = said_of (λ id limit. limit < 2 ^ 62) (λ id. wrote id ≡ nothing_done) (λ id h. IsSendHalf (wrote id) h × X id h) (λ id. D id (wrote id)) (of_halves wrote) s id h e i

  -- where the same was done
  pub with_same : (wrote more : ℕ → Wrote) (s : StreamsState) → ((q : ℕ) → more q ≡ wrote q) → HoldsWith X D wrote s → HoldsWith X D more s
  with_same wrote more s same i = record {
    shape = i.shape;
    first = i.first;
    each = λ id. subst (λ w. HalfIs (w ≡ nothing_done) (λ h. IsSendHalf w h × X id h) (D id w) (at s.sending.halves.live id) (has_place s.side s.sending.halves.places id)) (sym (same id)) (i.each id);
  }

  -- a half holds what was done on its stream, and the others what they held
  with_queued : (wrote : ℕ → Wrote) (s : StreamsState) (id : ℕ) (old : SendHalf) (q : Queued) (more : Wrote → Wrote) → sending_half s id ≡ Some old → IsSendHalf (more (wrote id)) q.half × X id q.half → HoldsWith X D wrote s → HoldsWith X D (done_on id more wrote) (put_queued s id q)
  with_queued wrote s id old q more is now i =
      let new : ℕ → Wrote = done_on id more wrote in
      let here : IsSendHalf (new id) q.half × X id q.half = subst (λ w. IsSendHalf w q.half × X id q.half) (sym (done_here id more wrote)) now in
      let other : (j : ℕ) (o : Option SendHalf) (used : Bool) → (j ≡ id → ⊥) → HalfIs (wrote j ≡ nothing_done) (λ h. IsSendHalf (wrote j) h × X j h) (D j (wrote j)) o used → HalfIs (new j ≡ nothing_done) (λ h. IsSendHalf (new j) h × X j h) (D j (new j)) o used =
      λ j o used ne x. subst (λ w. HalfIs (w ≡ nothing_done) (λ h. IsSendHalf w h × X j h) (D j w) o used) (sym (done_apart id more wrote j ne)) x in
      record {
        shape = sends_with s id old q is i.shape;
        first = i.first;
        each = each_with s.side s.sending.halves id q.half (λ j. wrote j ≡ nothing_done) (λ j. new j ≡ nothing_done) (λ j h. IsSendHalf (wrote j) h × X j h) (λ j h. IsSendHalf (new j) h × X j h) (λ j. D j (wrote j)) (λ j. D j (new j)) i.shape.sending.runs here other i.each;
      }

  requeued_with : (w : Wrote) (o : Option (ℕ × ℕ)) (b : Bool) (q : _) (id : ℕ) (h : SendHalf) → IsSendHalf w h × X id h → IsSendHalf w (requeued_at o b q id h).half × X id (requeued_at o b q id h).half
  requeued_with w None true q id h i = (placed_holds w h i.0 _, k.placed id h _ i.1)
  requeued_with w None false q id h i = (placed_holds w h i.0 _, k.placed id h _ i.1)
  requeued_with w (Some place) true q id h i = (placed_holds w h i.0 _, k.placed id h _ i.1)
  requeued_with w (Some place) false q id h i = (placed_holds w h i.0 _, k.placed id h _ i.1)

  -- the same, where the queue follows it
  with_done : (wrote : ℕ → Wrote) (s : StreamsState) (id : ℕ) (old new : SendHalf) (b : Bool) (more : Wrote → Wrote) → sending_half s id ≡ Some old → IsSendHalf (more (wrote id)) new × X id new → HoldsWith X D wrote s
      → HoldsWith X D (done_on id more wrote) (put_queued s id (requeued_at old.place b s.sending.queue id new))
  with_done wrote s id old new b more is now i = with_queued wrote s id old (requeued_at old.place b s.sending.queue id new) more is (requeued_with (more (wrote id)) old.place b s.sending.queue id new now) i

  -- how many bytes of all streams were accepted tells nothing of one
  with_accepted : (wrote : ℕ → Wrote) (s : StreamsState) (n : ℕ) → HoldsWith X D wrote s → HoldsWith X D wrote (record s { sending = record s.sending { accepted = n } })
  with_accepted wrote s n i = record { shape = record { sending = i.shape.sending; receiving = i.shape.receiving }; first = i.first; each = i.each }

  -- several buffers
  grown_all_along : (id : ℕ) (h : SendHalf) (cs : List (List ℕ)) → X id h → X id (grown_all h cs)
  grown_all_along id h [] x = x
  grown_all_along id h (c ∷ cs) x = grown_all_along id (grown h c) cs (k.grown id h c x)

module _ (X : ℕ → SendHalf → Type 0) (D : ℕ → Wrote → Type 0) (k : GoesAlong X D) (wrote : ℕ → Wrote) (s : StreamsState) (i : HoldsWith X D wrote s) where
  -- bytes that are accepted
  accepted_with : (id : ℕ) (h : SendHalf) (bytes : List ℕ) → sending_half s id ≡ Some h → h.reset ≡ None → length bytes ≤ room_on h → HoldsWith X D (done_on id (with_bytes bytes) wrote) (accepted_at (Some h) s id bytes)
  accepted_with id h bytes is none fits = cond_both (length bytes == 0) s (grown_by h s id bytes) (HoldsWith X D (done_on id (with_bytes bytes) wrote)) (λ e.
      with_same X D k wrote (done_on id (with_bytes bytes) wrote) s (same_done id (with_bytes bytes) wrote (nothing_more (wrote id) bytes (eqb-true (length bytes) 0 e))) i)
      (λ e.
      with_accepted X D k (done_on id (with_bytes bytes) wrote) (put_queued s id (requeued_at h.place true s.sending.queue id (grown h bytes))) (s.sending.accepted + length bytes)
      (with_done X D k wrote s id h (grown h bytes) true (with_bytes bytes) is (let x = with_half X D k wrote s id h is i in (grown_holds (wrote id) h x.0 bytes none fits, k.grown id h bytes x.1)) i))
    where
      nothing_more : (w : Wrote) (bytes : List ℕ) → length bytes ≡ 0 → with_bytes bytes w ≡ w
      nothing_more w [] e = ap (λ (bs : List ℕ). record w { bytes = bs }) (append-nil w.bytes)
      nothing_more w (b ∷ bytes) e = absurd (omega (arith, e))

  -- a write: the bytes that were accepted go behind those before
  pub with_write : (is_open : Bool) (p : Retransmits) (id : ℕ) (bytes : List ℕ) → HoldsWith X D (wrote_by (write_answer is_open s id (length bytes)) id bytes wrote) (after_write is_open (write_answer is_open s id (length bytes)) s p id bytes).state
  with_write false p id bytes = i
  with_write true p id bytes = go (written_to (sending_half s id) (room s.sending) (length bytes)) refl
    where
      go : (answer : Result ℕ WriteError) → written_to (sending_half s id) (room s.sending) (length bytes) ≡ answer → HoldsWith X D (wrote_by answer id bytes wrote) (written_by answer s p id bytes).state
      go (Ok n) is = by_option (sending_half s id) (λ o. written_to o (room s.sending) (length bytes) ≡ Ok n → HoldsWith X D (wrote_by (Ok n) id bytes wrote) (accepted_at o s id (take n bytes))) (λ e f. absurd (not_taken write_errors.ClosedStream n f)) (λ h e f.
          let t = taken h (room s.sending) (length bytes) n f in
          let l : length (take n bytes) ≤ n = omega (arith, length-take n bytes) in
          accepted_with id h (take n bytes) e t.2 (omega arith)) is
      go (Err write_errors.Blocked) is = by_blocked (HoldsWith X D wrote) (with_kept X D k wrote) s p id (sending_half s id) refl i
      go (Err (write_errors.Stopped code)) is = i
      go (Err write_errors.ClosedStream) is = i
      go (Err write_errors.Memory) is = i

  chunks_with : (id : ℕ) (h : SendHalf) (cs : List (List ℕ)) (n : ℕ) → sending_half s id ≡ Some h → h.reset ≡ None → n ≤ room_on h → n ≤ bytes_of cs → HoldsWith X D (done_on id (with_bytes (take n (concat cs))) wrote) (chunks_accepted_at (Some h) s id n cs)
  chunks_with id h cs zero is none fits all = with_same X D k wrote (done_on id (with_bytes (take zero (concat cs))) wrote) s (same_done id (with_bytes []) wrote (ap (λ (bs : List ℕ). record (wrote id) { bytes = bs }) (append-nil (wrote id).bytes))) i
  chunks_with id h cs (suc n) is none fits all =
      let few : bytes_of (cut_to (suc n) cs) ≡ suc n = cut_bytes (suc n) cs all in
      let whole : IsSendHalf (with_bytes (concat (cut_to (suc n) cs)) (wrote id)) (grown_all h (cut_to (suc n) cs)) = grown_all_holds (wrote id) h (cut_to (suc n) cs) (with_half X D k wrote s id h is i).0 none (omega arith) in
      let now : IsSendHalf (with_bytes (take (suc n) (concat cs)) (wrote id)) (grown_all h (cut_to (suc n) cs)) = subst (λ bs. IsSendHalf (with_bytes bs (wrote id)) (grown_all h (cut_to (suc n) cs))) (cut_concat (suc n) cs) whole in
      with_accepted X D k (done_on id (with_bytes (take (suc n) (concat cs))) wrote) (put_queued s id (requeued_at h.place true s.sending.queue id (grown_all h (cut_to (suc n) cs)))) (s.sending.accepted + suc n)
      (with_done X D k wrote s id h (grown_all h (cut_to (suc n) cs)) true (with_bytes (take (suc n) (concat cs))) is (now, grown_all_along X D k id h (cut_to (suc n) cs) (with_half X D k wrote s id h is i).1) i)

  -- a write of several buffers
  pub with_write_chunks : (is_open : Bool) (p : Retransmits) (id : ℕ) (cs : List (List ℕ)) → HoldsWith X D (wrote_chunks_by (write_chunks_answer is_open s id cs) id cs wrote) (after_write_chunks is_open (write_chunks_answer is_open s id cs) s p id cs).state
  with_write_chunks false p id cs = i
  with_write_chunks true p id cs = go (written_to (sending_half s id) (room s.sending) (bytes_of cs)) refl
    where
      go : (answer : Result ℕ WriteError) → written_to (sending_half s id) (room s.sending) (bytes_of cs) ≡ answer → HoldsWith X D (wrote_chunks_by (chunks_of answer cs) id cs wrote) (chunks_written_by (chunks_of answer cs) s p id cs).state
      go (Ok n) is = by_option (sending_half s id) (λ o. written_to o (room s.sending) (bytes_of cs) ≡ Ok n → HoldsWith X D (done_on id (with_bytes (take n (concat cs))) wrote) (chunks_accepted_at o s id n cs)) (λ e f. absurd (not_taken write_errors.ClosedStream n f)) (λ h e f.
          let t = taken h (room s.sending) (bytes_of cs) n f in
          chunks_with id h cs n e t.2 t.0 t.3) is
      go (Err write_errors.Blocked) is = by_blocked (HoldsWith X D wrote) (with_kept X D k wrote) s p id (sending_half s id) refl i
      go (Err (write_errors.Stopped code)) is = i
      go (Err write_errors.ClosedStream) is = i
      go (Err write_errors.Memory) is = i

  -- a finish
  pub with_finish : (id : ℕ) → HoldsWith X D (wrote_end_by (finish_answer s id) id wrote) (after_finish s id)
  with_finish id = go (finish_answer s id) refl
    where
      not_there : (x : Unit {0}) → finish_of None ≡ Ok x → ⊥
      not_there x e = cc

      go : (answer : Result (Unit {0}) FinishError) → finish_answer s id ≡ answer → HoldsWith X D (wrote_end_by answer id wrote) (finished_by answer s id)
      go (Err e) is = i
      go (Ok x) is = by_option (sending_half s id) (λ o. finish_of o ≡ Ok x → HoldsWith X D (done_on id with_end wrote) (ended_at o s id)) (λ e f. absurd (not_there x f)) (λ h e f.
          with_done X D k wrote s id h (ended h) true with_end e (let z = with_half X D k wrote s id h e i in (ended_holds (wrote id) h z.0 (no_reset h.reset h.finished (finish_ready h x f)), k.ended id h z.1)) i) is

  -- a reset
  pub with_reset_call : (p : Retransmits) (id code : ℕ) → HoldsWith X D (wrote_reset_by (reset_answer s id) id code wrote) (after_reset s p id code).state
  with_reset_call p id code = go (sending_half s id) refl
    where
      on : (h : SendHalf) → sending_half s id ≡ Some h → (b : Bool) → is_some h.reset ≡ b
          → HoldsWith X D (wrote_reset_by (if b then Err update_errors.ClosedStream else Ok tt) id code wrote) (if b then s else put_queued s id (requeued_at h.place false s.sending.queue id (reset_now h)))
      on h e true is = i
      on h e false is = with_done X D k wrote s id h (reset_now h) false (with_reset code) e (let z = with_half X D k wrote s id h e i in (reset_holds (wrote id) h z.0 code, k.reset id h z.1)) i

      both : (b : Bool) (x y : Streams) → (if b then x else y).state ≡ (if b then x.state else y.state)
      both true x y = refl
      both false x y = refl

      go : (o : Option SendHalf) → sending_half s id ≡ o → HoldsWith X D (wrote_reset_by (if is_reset_at o then Err update_errors.ClosedStream else Ok tt) id code wrote) (reset_at o s p id code).state
      go None e = i
      go (Some h) e = subst (HoldsWith X D (wrote_reset_by (if is_some h.reset then Err update_errors.ClosedStream else Ok tt) id code wrote)) (sym (both (is_some h.reset) _ _)) (on h e (is_some h.reset) refl)

-- ---- the start

module _ (X : ℕ → SendHalf → Type 0) (D : ℕ → Wrote → Type 0) where
  -- nothing is done
  pub with_new : (side : Side) (uni bi send_window window stream_window : ℕ) → HoldsWith X D (λ id. nothing_done) (new_streams side uni bi send_window window stream_window)
  with_new side uni bi send_window window stream_window = record { shape = shape_new side uni bi send_window window stream_window; first = λ id. none (is_own side id) (dir_of id); each = λ id. unused id (has_place side no_places id) refl }
    where
      none : (b : Bool) (d : Dir) → (if b then of d (new_streams side uni bi send_window window stream_window).sending.first_own else (new_streams side uni bi send_window window stream_window).sending.first_remote) < 2 ^ 62
      none true Bi = omega arith
      none true Uni = omega arith
      none false Bi = omega arith
      none false Uni = omega arith

      unused : (id : ℕ) (b : Bool) → has_place side no_places id ≡ b → HalfIs (nothing_done ≡ nothing_done) (λ h. IsSendHalf nothing_done h × X id h) (D id nothing_done) None b
      unused id true is = absurd (nowhere side id is)
      unused id false is = refl

  -- the peer's first limits are known
  pub with_set_params : (wrote : ℕ → Wrote) (s : StreamsState) (p : ParameterValues) → HasSmallLimits p → HoldsWith X D wrote s → HoldsWith X D wrote (after_set_params s p)
  with_set_params wrote s p limits i = record { shape = shape_set_params s p i.shape; first = λ id. small (is_own s.side id) (dir_of id); each = i.each }
    where
      small : (b : Bool) (d : Dir) → (if b then of d (after_set_params s p).sending.first_own else (after_set_params s p).sending.first_remote) < 2 ^ 62
      small true Bi = limits.own_bi
      small true Uni = limits.own_uni
      small false d = limits.remote
