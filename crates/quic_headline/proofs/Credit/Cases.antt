-- What each word about a half that receives may leave: all as it was, the half with another value,
-- or the half done, once all of it was read, it was reset, or it was stopped.
use Rattle.std.proofs.Common.{◌≡◌, ℕ, Bool, true, false, not, Option, Some, None, Result, Ok, Err, refl, ap, ◌∙◌, inl, inr, ◌⊎◌}
use Rattle.std.specs.Prelude.{◌&&◌, ◌||◌}
use Rattle.std.specs.Option.{is_some}
use Rattle.std.proofs.lemmas.Bool.{cond_both, and_parts, eqb-true}
use Rattle.quic_wire_core.specs.declared.stream_id.Side.{Side}
use Rattle.quic_assembler.specs.declared.assembler.Chunk.{Chunk}
use Rattle.quic_assembler.specs.Arrived.{bytes_read_of, given_by}
use Rattle.quic_streams_parts.specs.declared.answers.ReadError.{ReadError}
use Rattle.quic_streams_parts.specs.declared.answers.ReadError.TheVariants as read_errors
use Rattle.quic_streams_parts.specs.declared.answers.ReadableError.{ReadableError}
use Rattle.quic_streams_parts.specs.declared.answers.ClosedStream.{ClosedStream}
use Rattle.quic_streams_parts.specs.Dirs.{Counts}
use Rattle.quic_streams_parts.specs.RecvHalf.{RecvHalf, next_of, begun, read_on, stopped_now, is_read_up, at_end, chunk_or_end, next_unless}
use Rattle.quic_retransmits.specs.Retransmits.{Retransmits}
use Rattle.quic_streams_state.specs.declared.state.StreamsState.{StreamsState}
use Rattle.quic_streams_state.specs.State.{Streams, Receiving, receiving_half, with_recv, recv_done}
use Rattle.quic_streams_state.specs.Opening.{opens, opened_by}
use Rattle.quic_streams_state.specs.Reading.{Told, told_bytes, told_end, told_reset, read_answer, begun_at, begun_unless, after_read_begun, next_at, next_answer, read_by, after_next, stopped_if, stopped_at, after_stop, reset_of, reset_told, after_received_reset}
use Rattle.quic_streams_state.specs.Taking.{readable_if, ended_if, renewed}
use Rattle.quic_streams_laws.specs.KeepingLaws.{by_option}
use Rattle.quic_headline.proofs.Unread.Walk.{Of}

-- nothing more is given of a half: it was reset, or all up to its final size was read
abbrev pub IsReadOut : RecvHalf → Type 0
IsReadOut h = (is_some h.reset ≡ true) ⊎ (h.final ≡ Some (bytes_read_of h.arrived))

-- a half that gives its end was read up to its final size
out_at_end : (h : RecvHalf) (most : ℕ) → next_of h most ≡ Ok None → IsReadOut h
out_at_end h most e = go h.reset refl e
  where
    by_size : (o : Option ℕ) (n : ℕ) → is_read_up o n ≡ true → o ≡ Some n
    by_size None n is = cc
    by_size (Some size) n is = ap (λ (k : ℕ). Some k) (eqb-true size n is)

    ended : (b : Bool) → is_read_up h.final (bytes_read_of h.arrived) ≡ b → at_end b ≡ Ok None → IsReadOut h
    ended true is f = inr (by_size h.final (bytes_read_of h.arrived) is)
    ended false is f = cc

    given : (o : Option Chunk) → chunk_or_end o h ≡ Ok None → IsReadOut h
    given (Some chunk) f = cc
    given None f = ended (is_read_up h.final (bytes_read_of h.arrived)) refl f

    go : (o : Option ℕ) → h.reset ≡ o → next_unless o h most ≡ Ok None → IsReadOut h
    go (Some code) is f = inl (ap is_some is)
    go None is f = given (given_by h.arrived most) f

-- and one that gives its reset was reset
out_at_reset : (h : RecvHalf) (most code : ℕ) → next_of h most ≡ Err (read_errors.Reset code) → is_some h.reset ≡ true
out_at_reset h most code e = go h.reset refl e
  where
    ended : (b : Bool) → at_end b ≡ Err (read_errors.Reset code) → is_some h.reset ≡ true
    ended true f = cc
    ended false f = cc

    given : (o : Option Chunk) → chunk_or_end o h ≡ Err (read_errors.Reset code) → is_some h.reset ≡ true
    given (Some chunk) f = cc
    given None f = ended (is_read_up h.final (bytes_read_of h.arrived)) f

    go : (o : Option ℕ) → h.reset ≡ o → next_unless o h most ≡ Err (read_errors.Reset code) → is_some h.reset ≡ true
    go (Some c) is f = ap is_some is
    go None is f = given (given_by h.arrived most) f

module _ (P : StreamsState → Type 0) where
  -- a read begins
  pub begun_to : (s : StreamsState) (id : ℕ) (ordered : Bool) → P s → ((h : RecvHalf) → receiving_half s id ≡ Some h → P (with_recv s id (begun h false))) → P (after_read_begun s id ordered)
  begun_to s id ordered same on = go (read_answer s id ordered)
    where
      at_half : (b : Bool) → P (begun_at (receiving_half s id) s id b)
      at_half true = by_option (receiving_half s id) (λ o. P (begun_at o s id true)) (λ e. same) (λ h e. same)
      at_half false = by_option (receiving_half s id) (λ o. P (begun_at o s id false)) (λ e. same) (λ h e. on h e)

      go : (answer : Result (Unit {0}) ReadableError) → P (begun_unless answer s id ordered)
      go (Ok x) = at_half ordered
      go (Err e) = same

  -- it goes on
  pub next_to : (told : Told) (s : StreamsState) (id most : ℕ) → P s → ((h : RecvHalf) → receiving_half s id ≡ Some h → P (with_recv s id (read_on h most))) → ((h : RecvHalf) → receiving_half s id ≡ Some h → IsReadOut h → (is_some h.reset ≡ true) ⊎ (next_answer told s id most ≡ Ok None) → P (recv_done s id))
      → P (after_next told (next_answer told s id most) s id most)
  next_to told_end s id most same on done = same
  next_to (told_reset code) s id most same on done = same
  next_to told_bytes s id most same on done = by_option (receiving_half s id) (λ o. P (read_by (next_at told_bytes o most) o s id most)) (λ e. same) (λ h e. go h e (next_of h most) refl)
    where
      go : (h : RecvHalf) → receiving_half s id ≡ Some h → (answer : Result (Option Chunk) ReadError) → next_of h most ≡ answer → P (read_by answer (Some h) s id most)
      go h is (Ok (Some chunk)) e = on h is
      go h is (Ok None) e = done h is (out_at_end h most e) (inr (ap (λ (o : Option RecvHalf). next_at told_bytes o most) is ∙ e))
      go h is (Err (read_errors.Reset code)) e = done h is (inl (out_at_reset h most code e)) (inl (out_at_reset h most code e))
      go h is (Err read_errors.Blocked) e = same
      go h is (Err read_errors.Memory) e = same

  -- this end stops a half that it hasn't stopped
  pub stop_to : (s : StreamsState) (p : Retransmits) (id code : ℕ) → P s → ((h : RecvHalf) → receiving_half s id ≡ Some h → h.stopped ≡ false → P (with_recv s id (stopped_now h)) × (is_some h.final ≡ true → P (recv_done (with_recv s id (stopped_now h)) id))) → P (after_stop s p id code).state
  stop_to s p id code same on = by_option (receiving_half s id) (λ o. P (stopped_at o s p id code).state) (λ e. same) (λ h e. cond_both {A = Streams} h.stopped _ _ (λ (t : Streams). P t.state) (λ f. same) (λ f. go h (is_some h.final) refl (on h e f)))
    where
      go : (h : RecvHalf) (b : Bool) → is_some h.final ≡ b → P (with_recv s id (stopped_now h)) × (is_some h.final ≡ true → P (recv_done (with_recv s id (stopped_now h)) id)) → P (stopped_if b s id h)
      go h true is both = both.1 is
      go h false is both = both.0

  -- its reset is asked for
  pub reset_told_to : (s : StreamsState) (p : Retransmits) (id : ℕ) → P s → ((h : RecvHalf) → receiving_half s id ≡ Some h → is_some h.reset ≡ true → P (recv_done s id)) → P (after_received_reset s p id).state
  reset_told_to s p id same done = by_option (receiving_half s id) (λ o. P (reset_told (reset_of o) s p id).state) (λ e. same) (λ h e. cond_both {A = Result (Option ℕ) ClosedStream} h.stopped _ _ (λ t. P (reset_told t s p id).state) (λ f. same) (λ f. go h e h.reset refl))
    where
      go : (h : RecvHalf) → receiving_half s id ≡ Some h → (o : Option ℕ) → h.reset ≡ o → P (reset_told (Ok o) s p id).state
      go h is None e = same
      go h is (Some code) e = done h is (ap is_some e)

-- a half that has another value by a frame is done where it was stopped and its final size is known
pub renewed_to : (K : Side → Receiving → Counts → Counts → Type 0) (s : StreamsState) (id : ℕ) (old new : RecvHalf) (tells : Bool) → Of K (with_recv (opened_by s id) id new) → (new.stopped ≡ true → is_some new.final ≡ true → Of K (recv_done (with_recv (opened_by s id) id new) id)) → Of K (renewed s id old new tells)
renewed_to K s id old new tells now done = tell (ended_if (new.stopped && is_some new.final) id t) (tells && not (old.stopped || opens s id)) (go (new.stopped && is_some new.final) refl)
  where
    t : StreamsState
    t = with_recv (opened_by s id) id new

    go : (b : Bool) → (new.stopped && is_some new.final) ≡ b → Of K (ended_if b id (with_recv (opened_by s id) id new))
    go true is = (let parts = and_parts new.stopped (is_some new.final) is in done parts.0 parts.1)
    go false is = now

    tell : (u : StreamsState) (b : Bool) → Of K u → Of K (readable_if b id u)
    tell u true j = j
    tell u false j = j
