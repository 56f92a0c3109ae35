-- What is read of streams stays what was written on them, whatever word comes.
use Rattle.std.proofs.Common.{◌≡◌, ℕ, inl, inr, length, Bool, true, false, Option, Some, None, refl, sym, ap, ◌∙◌, subst, arith}
use Rattle.std.specs.Prelude.{◌==◌, ◌&&◌, if◌then◌else◌}
use Rattle.std.specs.Option.{is_some}
use Rattle.std.specs.declared.result.Result.{Result}
use Rattle.std.specs.declared.result.Result.TheVariants.{Ok, Err}
use Rattle.std.proofs.lemmas.Bool.{cond-true, cond-false, eq-eqb, ne_eqb}
use Rattle.quic_wire_core.specs.declared.stream_id.Side.{Side}
use Rattle.quic_wire.specs.Value.{StreamValue, ResetStreamValue}
use Rattle.quic_parameters.specs.Parameters.{ParameterValues}
use Rattle.quic_assembler.specs.declared.assembler.Chunk.{Chunk}
use Rattle.quic_streams_parts.specs.declared.answers.ReadError.{ReadError}
use Rattle.quic_streams_parts.specs.declared.answers.ReadError.TheVariants as read_errors
use Rattle.quic_streams_parts.specs.declared.answers.ReadableError.{ReadableError}
use Rattle.quic_streams_parts.specs.declared.answers.ReadableError.TheVariants as readable_errors
use Rattle.quic_streams_parts.specs.RecvHalf.{RecvHalf, new_recv_half, readable, begun, read_on, is_illegal}
use Rattle.quic_streams_halves.specs.Halves.{Status, unknown, fresh, live, done, no_places, has_place, idle_status}
use Rattle.quic_retransmits.specs.Retransmits.{Retransmits}
use Rattle.quic_streams_state.specs.declared.state.StreamsState.{StreamsState}
use Rattle.quic_streams_state.specs.State.{new_streams, after_set_params, receiving_half, receiving_status, with_recv, is_opened, receives_on}
use Rattle.quic_streams_state.specs.Taking.{after_stream, after_reset_frame}
use Rattle.quic_streams_state.specs.Reading.{read_answer, begun_at, begun_unless, after_read_begun, Told, told_bytes, told_end, told_reset, next_at, next_answer, told_by, read_by, after_next, after_stop, after_received_reset}
use Rattle.quic_streams_laws.specs.Keeping.{KeepsBy}
use Rattle.quic_streams_laws.specs.KeepingLaws.{at-half, live_receives, by_stream, by_reset_frame, by_stop, by_received_reset, by_next}
use Rattle.quic_streams_laws.specs.StartLaws.{nowhere, shape_new, shape_set_params}
use Rattle.quic_streams_laws.specs.Written.{Wrote, Grows, IsStreamOf, IsResetOf}
use Rattle.quic_streams_laws.specs.Reads.{Reads, nothing_read, IsPrefix, with_unordered, with_chunk_read, read_of, read_begun_by, read_next_by, bytes_of, IsReadOf, IsRecvHalf, IsNextOf}
use Rattle.quic_streams_laws.specs.ReadsLaws.{stands_more, follow_prefix}
use Rattle.quic_streams_laws.specs.HalfLaws.{reads_nothing, half_new, reads_grow, half_grows, half_frame, half_reset, half_stopped, half_begun, half_told, half_read, half_next, next_gave}
use Rattle.quic_streams_laws.specs.Content.{IsRecvStatus, HoldsRead, TellsRight, IsOpenHalf, MayRead, IsNextAnswer}
use Rattle.quic_streams_laws.specs.StatusLaws.{GoesOn, each_kept, said_of_each, at_half_of, change_one}

-- what was read of a half goes on as its stream does
pub goes_on_read : (wrote : ℕ → Wrote) (read : ℕ → Reads) → GoesOn (λ id x. IsRecvStatus (wrote id) (read id) x)
goes_on_read wrote read = record {
  opens = λ id e. e;
  comes = λ id window e. subst (λ r. IsRecvHalf (wrote id) r (new_recv_half window)) (sym e) (half_new (wrote id) window);
  told = λ id h n i. half_told (wrote id) (read id) h n i;
  ends = λ id h i. i.reads;
}

-- every small change keeps it that keeps it at the half that changes
pub read_kept : (wrote : ℕ → Wrote) (read : ℕ → Reads) → KeepsBy (λ r id old new. IsRecvHalf (wrote id) (read id) old → IsRecvHalf (wrote id) (read id) new) (λ s id old new. Unit {0}) (λ s id n old new. Unit {0}) (HoldsRead wrote read)
read_kept wrote read = each_kept (λ id x. IsRecvStatus (wrote id) (read id) x) (goes_on_read wrote read)

-- what holds of a half that there is
pub read_at : (wrote : ℕ → Wrote) (read : ℕ → Reads) (s : StreamsState) (id : ℕ) (h : RecvHalf) → receiving_half s id ≡ Some h → HoldsRead wrote read s → IsRecvHalf (wrote id) (read id) h
read_at wrote read s id h e i = at_half_of (λ id x. IsRecvStatus (wrote id) (read id) x) (goes_on_read wrote read) s id h e i

-- what was read of a stream, however far its half has come
pub reads_are : (wrote : ℕ → Wrote) (read : ℕ → Reads) (s : StreamsState) (id : ℕ) → HoldsRead wrote read s → IsReadOf (wrote id) (read id)
reads_are wrote read s id i = go (receiving_status s id) (i.each id)
  where
    go : (x : Status RecvHalf) → IsRecvStatus (wrote id) (read id) x → IsReadOf (wrote id) (read id)
    go unknown e = subst (IsReadOf (wrote id)) (sym e) (reads_nothing (wrote id))
    go fresh e = subst (IsReadOf (wrote id)) (sym e) (reads_nothing (wrote id))
    go (live h) e = e.reads
    go done e = e

-- the bytes that were read are a prefix of those that were written, while all reads were in order
pub reads_prefix : (wrote : ℕ → Wrote) (read : ℕ → Reads) (s : StreamsState) (id : ℕ) → HoldsRead wrote read s → (read id).unordered ≡ false → IsPrefix (bytes_of (read id).chunks) (wrote id).bytes
reads_prefix wrote read s id i o = let r = reads_are wrote read s id i in follow_prefix (wrote id).bytes (read id).chunks (r.in_order o) r.slices

-- ---- at the start, and as more is written

-- of no stream anything was read
pub read_new : (wrote : ℕ → Wrote) (side : Side) (uni bi send_window window stream_window : ℕ) → HoldsRead wrote (λ id. nothing_read) (new_streams side uni bi send_window window stream_window)
read_new wrote side uni bi send_window window stream_window = record {
  shape = shape_new side uni bi send_window window stream_window;
  each = λ id. go id (receives_on side id && is_opened (new_streams side uni bi send_window window stream_window) id) (has_place side no_places id) refl;
}
  where
    go : (id : ℕ) (opened used : Bool) → has_place side no_places id ≡ used → IsRecvStatus (wrote id) nothing_read (idle_status opened used)
    go id false used e = refl
    go id true false e = refl
    go id true true e = absurd (nowhere side id e)

-- the peer's first limits
pub read_set_params : (wrote : ℕ → Wrote) (read : ℕ → Reads) (s : StreamsState) (p : ParameterValues) → HoldsRead wrote read s → HoldsRead wrote read (after_set_params s p)
read_set_params wrote read s p i = record { shape = shape_set_params s p i.shape; each = i.each }

-- more is written
pub read_grows : (wrote more : ℕ → Wrote) (read : ℕ → Reads) (s : StreamsState) → ((id : ℕ) → Grows (wrote id) (more id)) → HoldsRead wrote read s → HoldsRead more read s
read_grows wrote more read s g i = said_of_each (λ id x. IsRecvStatus (wrote id) (read id) x) (λ id x. IsRecvStatus (more id) (read id) x) go s i
  where
    go : (id : ℕ) (x : Status RecvHalf) → IsRecvStatus (wrote id) (read id) x → IsRecvStatus (more id) (read id) x
    go id unknown e = e
    go id fresh e = e
    go id (live h) e = half_grows (wrote id) (more id) (read id) h (g id) e
    go id done e = reads_grow (wrote id) (more id) (read id) (g id) e

-- what frames said stays so
pub stream_of_grows : (w more : Wrote) (f : StreamValue) → Grows w more → IsStreamOf w f → IsStreamOf more f
stream_of_grows w more f g says = record {
  stands = stands_more w.bytes g.rest more.bytes f.offset f.bytes g.bytes says.stands;
  ended = λ e. g.ended (says.ended e);
  last = λ e. says.last e ∙ sym (ap length (g.over (inl (says.ended e))));
}

pub reset_of_grows : (w more : Wrote) (f : ResetStreamValue) → Grows w more → IsResetOf w f → IsResetOf more f
reset_of_grows w more f g says = record { code = g.reset f.code says.code; size = says.size ∙ sym (ap length (g.over (inr (ap is_some says.code)))) }

-- ---- a `next` without memory

-- leaves all as it was
pub next_lacking : (told : Told) (s : StreamsState) (id most : ℕ) → after_next told (Err read_errors.Memory) s id most ≡ s
next_lacking told_bytes s id most = go (receiving_half s id)
  where
    go : (o : Option RecvHalf) → read_by (Err read_errors.Memory) o s id most ≡ s
    go None = refl
    go (Some h) = refl
next_lacking told_end s id most = refl
next_lacking (told_reset code) s id most = refl

-- so what holds of the streams, and of what the answer leaves, holds of what either leaves
pub by_next_answer : (P : StreamsState → Type 0) (told : Told) (s : StreamsState) (id most : ℕ) (answer : Result (Option Chunk) ReadError) → IsNextAnswer told s id most answer → P (after_next told (next_answer told s id most) s id most) → P s → P (after_next told answer s id most)
by_next_answer P told s id most answer (inl e) now was = subst (λ a. P (after_next told a s id most)) (sym e) now
by_next_answer P told s id most answer (inr e) now was = subst (λ a. P (after_next told a s id most)) (sym e) (subst P (sym (next_lacking told s id most)) was)

-- ---- what comes, and stops

module _ (wrote : ℕ → Wrote) (read : ℕ → Reads) where
  -- a STREAM frame that says what was written, refused or not
  pub read_stream : (s : StreamsState) (p : Retransmits) (f : StreamValue) → IsStreamOf (wrote f.id) f → HoldsRead wrote read s → HoldsRead wrote read (after_stream s p f).state
  read_stream s p f says i = by_stream (HoldsRead wrote read) (read_kept wrote read) s p f (λ h e u was. half_frame (wrote f.id) (read f.id) h f says u.small was) i

  -- a RESET_STREAM frame that says how the stream was reset
  pub read_reset : (s : StreamsState) (p : Retransmits) (f : ResetStreamValue) → IsResetOf (wrote f.id) f → HoldsRead wrote read s → HoldsRead wrote read (after_reset_frame s p f).state
  read_reset s p f says i = by_reset_frame (HoldsRead wrote read) (read_kept wrote read) s p f (λ h e u was. half_reset (wrote f.id) (read f.id) h f.code f.final_size says.code says.size was) i

  -- a stop at this end, and asking for a reset
  pub read_stop : (s : StreamsState) (p : Retransmits) (id code : ℕ) → HoldsRead wrote read s → HoldsRead wrote read (after_stop s p id code).state
  read_stop s p id code i = by_stop (HoldsRead wrote read) (read_kept wrote read) s p id code (λ h e was. half_stopped (wrote id) (read id) h was) i

  pub read_received_reset : (s : StreamsState) (p : Retransmits) (id : ℕ) → HoldsRead wrote read s → HoldsRead wrote read (after_received_reset s p id).state
  read_received_reset s p id i = by_received_reset (HoldsRead wrote read) (read_kept wrote read) s p id i

  -- ---- reading

  -- one stream is read on, and what was read of the others stays
  read_here : (id : ℕ) (more : Reads → Reads) → read_of id more read id ≡ more (read id)
  read_here id more = cond-true (id == id) (more (read id)) (read id) (eq-eqb id id refl)

  read_apart : (id : ℕ) (more : Reads → Reads) (q : ℕ) → (q ≡ id → ⊥) → read_of id more read q ≡ read q
  read_apart id more q ne = cond-false (q == id) (more (read q)) (read q) (ne_eqb q id ne)

  -- a half on which more was read
  read_one : (s : StreamsState) (id : ℕ) (more : Reads → Reads) (old new : RecvHalf) → receiving_half s id ≡ Some old → (IsRecvHalf (wrote id) (read id) old → IsRecvHalf (wrote id) (more (read id)) new) → HoldsRead wrote read s → HoldsRead wrote (read_of id more read) (with_recv s id new)
  read_one s id more old new e on i = change_one (λ q x. IsRecvStatus (wrote q) (read q) x) (λ q x. IsRecvStatus (wrote q) (read_of id more read q) x) (goes_on_read wrote read) s id old new e
      (λ q x ne was. subst (λ r. IsRecvStatus (wrote q) r x) (sym (read_apart id more q ne)) was)
      (λ was. subst (λ r. IsRecvHalf (wrote id) r new) (sym (read_here id more)) (on was)) i

  -- a read begins
  pub read_begun : (s : StreamsState) (id : ℕ) (ordered : Bool) → HoldsRead wrote read s → HoldsRead wrote (read_begun_by (read_answer s id ordered) ordered id read) (after_read_begun s id ordered)
  read_begun s id ordered i = go (receiving_half s id) refl ordered (read_answer s id ordered) refl
    where
      closed : (ordered : Bool) (x : Unit {0}) → readable None ordered ≡ Ok x → ⊥
      closed ordered x e = cc

      go : (o : Option RecvHalf) → receiving_half s id ≡ o → (ordered : Bool) (answer : Result (Unit {0}) ReadableError) → readable o ordered ≡ answer
          → HoldsRead wrote (read_begun_by answer ordered id read) (begun_unless answer s id ordered)
      go o is ordered (Err x) e = i
      go None is ordered (Ok x) e = absurd (closed ordered x e)
      go (Some h) is true (Ok x) e = subst (λ o. HoldsRead wrote read (begun_at o s id true)) (sym is) i
      go (Some h) is false (Ok x) e = subst (λ o. HoldsRead wrote (read_of id with_unordered read) (begun_at o s id false)) (sym is)
          (read_one s id with_unordered h (begun h false) is (λ was. half_begun (wrote id) (read id) h was) i)

  -- a `next` that is answered, or that finds no memory
  pub read_next : (told : Told) (s : StreamsState) (id most : ℕ) (answer : Result (Option Chunk) ReadError) → IsNextAnswer told s id most answer → HoldsRead wrote read s → HoldsRead wrote (read_next_by answer id read) (after_next told answer s id most)
  read_next told s id most answer (inr e) i = subst (λ a. HoldsRead wrote (read_next_by a id read) (after_next told a s id most)) (sym e) (subst (HoldsRead wrote read) (sym (next_lacking told s id most)) i)
  read_next told s id most answer (inl e) i = subst (λ a. HoldsRead wrote (read_next_by a id read) (after_next told a s id most)) (sym e) (go (next_answer told s id most) refl)
    where
      chunk : (told : Told) (c : Chunk) → next_answer told s id most ≡ Ok (Some c) → HoldsRead wrote (read_of id (with_chunk_read c) read) (after_next told (Ok (Some c)) s id most)
      chunk told_end c is = cc
      chunk (told_reset code) c is = cc
      chunk told_bytes c is = by_half (receiving_half s id) refl is
        where
          by_half : (o : Option RecvHalf) → receiving_half s id ≡ o → next_at told_bytes o most ≡ Ok (Some c) → HoldsRead wrote (read_of id (with_chunk_read c) read) (read_by (Ok (Some c)) o s id most)
          by_half None e f = cc
          by_half (Some h) e f = read_one s id (with_chunk_read c) h (read_on h most) e (λ was. half_read (wrote id) (read id) h most c was (next_gave h most c f)) i

      quiet : (told : Told) → ((c : Chunk) → next_answer told s id most ≡ Ok (Some c) → ⊥) → HoldsRead wrote read (after_next told (next_answer told s id most) s id most)
      quiet told_end no_chunk = i
      quiet (told_reset code) no_chunk = i
      quiet told_bytes no_chunk = by_next (HoldsRead wrote read) (read_kept wrote read) told_bytes s id most (λ h c is f. absurd (no_chunk c (ap (λ o. next_at told_bytes o most) is ∙ f))) i

      go : (a : Result (Option Chunk) ReadError) → next_answer told s id most ≡ a → HoldsRead wrote (read_next_by a id read) (after_next told a s id most)
      go (Ok (Some c)) is = chunk told c is
      go (Ok None) is = subst (λ a. HoldsRead wrote read (after_next told a s id most)) is (quiet told (λ c f. let x : Ok None ≡ Ok (Some c) = sym is ∙ f in cc))
      go (Err x) is = subst (λ a. HoldsRead wrote read (after_next told a s id most)) is (quiet told (λ c f. let y : Err x ≡ Ok (Some c) = sym is ∙ f in cc))

  -- what a `next` answers on a stream that isn't stopped: what was written
  pub next_is : (told : Told) (s : StreamsState) (id most : ℕ) → MayRead told s id → TellsRight (wrote id) (read id) told → HoldsRead wrote read s → IsNextOf (wrote id) (read id) (next_answer told s id most)
  next_is told_end s id most goes right i = right
  next_is (told_reset code) s id most goes right i = right
  next_is told_bytes s id most goes right i = subst (λ o. IsNextOf (wrote id) (read id) (next_at told_bytes o most)) (sym goes.there) (half_next (wrote id) (read id) goes.half most goes.goes (read_at wrote read s id goes.half goes.there i))

  -- what was told then is so
  pub tells_next : (told : Told) (s : StreamsState) (id most : ℕ) (answer : Result (Option Chunk) ReadError) → IsNextAnswer told s id most answer → MayRead told s id → TellsRight (wrote id) (read id) told → HoldsRead wrote read s → TellsRight (wrote id) (read_next_by answer id read id) (told_by answer told)
  tells_next told s id most answer (inr e) goes right i = subst (λ a. TellsRight (wrote id) (read_next_by a id read id) (told_by a told)) (sym e) right
  tells_next told s id most answer (inl e) goes right i = subst (λ a. TellsRight (wrote id) (read_next_by a id read id) (told_by a told)) (sym e) (go (next_answer told s id most) refl (next_is told s id most goes right i))
    where
      chunk : (told : Told) (c : Chunk) (r : Reads) → next_answer told s id most ≡ Ok (Some c) → TellsRight (wrote id) r told
      chunk told_bytes c r is = tt
      chunk told_end c r is = cc
      chunk (told_reset code) c r is = cc

      go : (a : Result (Option Chunk) ReadError) → next_answer told s id most ≡ a → IsNextOf (wrote id) (read id) a → TellsRight (wrote id) (read_next_by a id read id) (told_by a told)
      go (Ok (Some c)) is x = chunk told c (read_of id (with_chunk_read c) read id) is
      go (Ok None) is x = x
      go (Err (read_errors.Reset code)) is x = x
      go (Err read_errors.Blocked) is x = right
      go (Err read_errors.Memory) is x = right

-- what was told stays so as more is written
pub tells_grows : (w more : Wrote) (r : Reads) (told : Told) → Grows w more → TellsRight w r told → TellsRight more r told
tells_grows w more r told_bytes g right = tt
tells_grows w more r told_end g right = (g.ended right.0, λ o lt. right.1 o (let same : length more.bytes ≡ length w.bytes = ap length (g.over (inl right.0)) in omega arith))
tells_grows w more r (told_reset code) g right = g.reset code right

-- ---- a stream that is read has a half that isn't stopped

-- where its half is another one
may_with : (s : StreamsState) (id : ℕ) (new : RecvHalf) → new.stopped ≡ false → IsOpenHalf (with_recv s id new) id
may_with s id new goes = record { half = new; there = live_receives (with_recv s id new) id new (at-half s.side s.receiving.halves id new); goes = goes }

-- once a read began
pub may_begun : (s : StreamsState) (id : ℕ) (ordered : Bool) (x : Unit {0}) → read_answer s id ordered ≡ Ok x → IsOpenHalf (after_read_begun s id ordered) id
may_begun s id ordered x e = subst (λ a. IsOpenHalf (begun_unless a s id ordered) id) (sym e) (go (receiving_half s id) refl ordered (sym e))
  where
    closed : (ordered : Bool) → Ok x ≡ readable None ordered → ⊥
    closed ordered f = cc

    not_stopped : (h : RecvHalf) (ordered b : Bool) → Ok x ≡ (if b then Err readable_errors.ClosedStream else (if is_illegal h ordered then Err readable_errors.IllegalOrderedRead else Ok tt)) → b ≡ false
    not_stopped h ordered true f = cc
    not_stopped h ordered false f = refl

    go : (o : Option RecvHalf) → receiving_half s id ≡ o → (ordered : Bool) → Ok x ≡ readable o ordered → IsOpenHalf (begun_at (receiving_half s id) s id ordered) id
    go None is ordered f = absurd (closed ordered f)
    go (Some h) is true f = subst (λ o. IsOpenHalf (begun_at o s id true) id) (sym is) (record { half = h; there = is; goes = not_stopped h true h.stopped f })
    go (Some h) is false f = subst (λ o. IsOpenHalf (begun_at o s id false) id) (sym is) (may_with s id (begun h false) (not_stopped h false h.stopped f))

-- and after each `next`, until the end or a reset is told
pub may_next : (told : Told) (s : StreamsState) (id most : ℕ) (answer : Result (Option Chunk) ReadError) → MayRead told s id → MayRead (told_by answer told) (after_next told answer s id most) id
may_next told_bytes s id most (Ok (Some c)) goes = subst (λ o. IsOpenHalf (read_by (Ok (Some c)) o s id most) id) (sym goes.there) (may_with s id (read_on goes.half most) goes.goes)
may_next told_bytes s id most (Ok None) goes = tt
may_next told_bytes s id most (Err (read_errors.Reset code)) goes = tt
may_next told_bytes s id most (Err read_errors.Blocked) goes = subst (λ o. IsOpenHalf (read_by (Err read_errors.Blocked) o s id most) id) (sym goes.there) goes
may_next told_bytes s id most (Err read_errors.Memory) goes = subst (λ o. IsOpenHalf (read_by (Err read_errors.Memory) o s id most) id) (sym goes.there) goes
may_next told_end s id most (Ok (Some c)) goes = tt
may_next told_end s id most (Ok None) goes = tt
may_next told_end s id most (Err (read_errors.Reset code)) goes = tt
may_next told_end s id most (Err read_errors.Blocked) goes = tt
may_next told_end s id most (Err read_errors.Memory) goes = tt
may_next (told_reset c) s id most (Ok (Some d)) goes = tt
may_next (told_reset c) s id most (Ok None) goes = tt
may_next (told_reset c) s id most (Err (read_errors.Reset code)) goes = tt
may_next (told_reset c) s id most (Err read_errors.Blocked) goes = tt
may_next (told_reset c) s id most (Err read_errors.Memory) goes = tt
