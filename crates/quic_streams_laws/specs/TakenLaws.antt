-- What STREAM frames that were taken brought is read or waits on each stream, whatever word comes
-- (RFC 9000, sections 2.1, 2.2 and 3.2).
use Rattle.std.proofs.Common.{◌≡◌, ℕ, ◌+◌, ◌⊎◌, inl, inr, Bool, true, false, Option, Some, None, refl, sym, ap, ◌∙◌, subst, arith}
use Rattle.std.specs.Prelude.{◌&&◌, ◌||◌, not, nat_lt, nat_le, if◌then◌else◌}
use Rattle.std.specs.declared.result.Result.{Result}
use Rattle.std.specs.declared.result.Result.TheVariants.{Err}
use Rattle.std.proofs.lemmas.Bool.{cases_eq, lt-ltb, and_from, both_ways}
use Rattle.quic_wire_core.specs.declared.stream_id.Side.{Side}
use Rattle.quic_wire_core.specs.declared.stream_id.Dir.{Dir}
use Rattle.quic_wire_core.specs.declared.stream_id.Dir.TheVariants.{Bi, Uni}
use Rattle.quic_wire_core.specs.StreamId.{dir_of, index_of}
use Rattle.quic_wire.specs.Value.{StreamValue, ResetStreamValue}
use Rattle.quic_parameters.specs.Parameters.{ParameterValues}
use Rattle.quic_assembler.specs.declared.assembler.Chunk.{Chunk}
use Rattle.quic_streams_parts.specs.declared.answers.Breach.{Breach}
use Rattle.quic_streams_parts.specs.declared.answers.ReadError.{ReadError}
use Rattle.quic_streams_parts.specs.declared.answers.Breach.TheVariants as breaches
use Rattle.quic_streams_parts.specs.declared.answers.ReadError.TheVariants as read_errors
use Rattle.quic_streams_parts.specs.Table.{at}
use Rattle.quic_streams_parts.specs.Dirs.{of, is_own, is_two_way}
use Rattle.quic_streams_parts.specs.RecvHalf.{RecvHalf, new_recv_half, end_of, after_frame}
use Rattle.quic_streams_halves.specs.Halves.{Status, unknown, fresh, live, done, status_from, idle_status, half_of, has_place, no_places}
use Rattle.quic_retransmits.specs.Retransmits.{Retransmits}
use Rattle.quic_streams_state.specs.declared.state.StreamsState.{StreamsState}
use Rattle.quic_streams_state.specs.State.{Opening, new_streams, after_set_params, is_opened, receives_on, first_window, receiving_half, receiving_status}
use Rattle.quic_streams_state.specs.Limits.{raised_count}
use Rattle.quic_streams_state.specs.Opening.{opens, opened_if, opened_by, with_remote, beyond, receiving_refusal}
use Rattle.quic_streams_state.specs.Taking.{refusal, part_for, renewed, after_stream, after_reset_frame}
use Rattle.quic_streams_state.specs.Reading.{after_read_begun, Told, told_bytes, next_answer, next_at, after_next, after_stop, after_received_reset}
use Rattle.quic_streams_laws.specs.Keeping.{KeepsBy}
use Rattle.quic_streams_laws.specs.KeepingLaws.{Unbroken, stream_cases, by_value, by_opened, by_reset_frame, by_read_begun, by_next, by_stop, by_received_reset}
use Rattle.quic_streams_laws.specs.Shape.{IsShaped}
use Rattle.quic_streams_laws.specs.ShapeLaws.{past_remote}
use Rattle.quic_streams_laws.specs.StartLaws.{shape_new, shape_set_params}
use Rattle.quic_streams_laws.specs.Written.{Wrote}
use Rattle.quic_streams_laws.specs.Reads.{Reads, IsRecvHalf}
use Rattle.quic_streams_laws.specs.Content.{HoldsRead, IsOpenHalf, IsNextAnswer}
use Rattle.quic_streams_laws.specs.StatusLaws.{GoesOn, each_kept, said_of_each, at_half_of, change_one}
use Rattle.quic_streams_laws.specs.ContentLaws.{read_at, by_next_answer}
use Rattle.quic_streams_laws.specs.Kept.{IsKeptHalf, IsKeptStatus, HoldsTaken, BringsNothing, TakesMore}
use Rattle.quic_streams_laws.specs.KeptLaws.{kept_new, kept_told, kept_begun, kept_stopped, kept_reset, kept_read, kept_frame, IsBlocked, next_blocked, blocked_lacks}

-- what is kept goes on as its stream does
pub goes_on_kept : (taken : StreamValue → Type 0) → GoesOn (λ id x. IsKeptStatus taken id x)
goes_on_kept taken = record {
  opens = λ id none. none;
  comes = λ id window none. kept_new taken id window none;
  told = λ id h n k. kept_told taken id h n k;
  ends = λ id h k. tt;
}

-- every small change keeps it that keeps it at the half that changes
pub taken_kept : (taken : StreamValue → Type 0) → KeepsBy (λ r id old new. IsKeptHalf taken id old → IsKeptHalf taken id new) (λ s id old new. Unit {0}) (λ s id n old new. Unit {0}) (HoldsTaken taken)
taken_kept taken = each_kept (λ id x. IsKeptStatus taken id x) (goes_on_kept taken)

-- ---- at the start, and of fewer frames

-- no frame was taken
pub taken_new : (taken : StreamValue → Type 0) (side : Side) (uni bi send_window window stream_window : ℕ) → ((f : StreamValue) → taken f → ⊥) → HoldsTaken taken (new_streams side uni bi send_window window stream_window)
taken_new taken side uni bi send_window window stream_window none = record {
  shape = shape_new side uni bi send_window window stream_window;
  each = λ id. go id (receives_on side id && is_opened (new_streams side uni bi send_window window stream_window) id) (has_place side no_places id) refl;
}
  where
    go : (id : ℕ) (opened used : Bool) → has_place side no_places id ≡ used → IsKeptStatus taken id (idle_status opened used)
    go id false used e = λ f t same. none f t
    go id true false e = λ f t same. none f t
    go id true true e = tt

-- the peer's first limits
pub taken_set_params : (taken : StreamValue → Type 0) (s : StreamsState) (p : ParameterValues) → HoldsTaken taken s → HoldsTaken taken (after_set_params s p)
taken_set_params taken s p i = record { shape = shape_set_params s p i.shape; each = i.each }

-- what holds of frames holds, on a stream, where those of the stream are among them
of_fewer : (taken fewer : StreamValue → Type 0) (id : ℕ) → ((f : StreamValue) → f.id ≡ id → fewer f → taken f) → (x : Status RecvHalf) → IsKeptStatus taken id x → IsKeptStatus fewer id x
of_fewer taken fewer id less unknown none = λ f t e. none f (less f e t) e
of_fewer taken fewer id less fresh none = λ f t e. none f (less f e t) e
of_fewer taken fewer id less (live h) k = record { lawful = k.lawful; frames = λ goes free f t e. k.frames goes free f (less f e t) e }
of_fewer taken fewer id less done k = tt

-- so of each stream
pub taken_fewer : (taken fewer : StreamValue → Type 0) (s : StreamsState) → ((f : StreamValue) → fewer f → taken f) → HoldsTaken taken s → HoldsTaken fewer s
taken_fewer taken fewer s less i = said_of_each (λ id x. IsKeptStatus taken id x) (λ id x. IsKeptStatus fewer id x) (λ id x k. of_fewer taken fewer id (λ f e t. less f t) x k) s i

-- ---- a stream that a frame may be for

-- is opened once the frame comes, and the peer may send on it
record MayCome (s : StreamsState) (id : ℕ) : Type 0 where
  receives : receives_on s.side id ≡ true
  opened : is_opened (opened_by s id) id ≡ true

may_come : (s : StreamsState) (id : ℕ) → receiving_refusal s id ≡ None → MayCome s id
may_come s id e = record { receives = by_way (is_own s.side id) (is_two_way (dir_of id)) e; opened = by_opening (opens s id) refl }
  where
    by_way : (own two : Bool) → (if own && not two then Some breaches.StreamState else beyond s id) ≡ None → (not own || two) ≡ true
    by_way true true f = refl
    by_way true false f = cc
    by_way false two f = refl

    within : (own two : Bool) → (if own && not two then Some breaches.StreamState else beyond s id) ≡ None → beyond s id ≡ None
    within true true f = f
    within true false f = cc
    within false two f = f

    behind : (dir : Dir) (n : ℕ) (o : Opening) → of dir (with_remote dir n o).remote ≡ n
    behind Bi n o = refl
    behind Uni n o = refl

    was : (own o : Bool) (z : Option Breach) → (not own && not o) ≡ false → (if own then (if o then None else Some breaches.StreamState) else z) ≡ None → o ≡ true
    was own true z f g = refl
    was true false z f g = cc
    was false false z f g = cc

    by_opening : (b : Bool) → opens s id ≡ b → is_opened (opened_if b id s) id ≡ true
    by_opening true f =
        let not_own : is_own s.side id ≡ false = (past_remote s id f).0 in
        subst (λ own. nat_lt (index_of id) (of (dir_of id) (if own then (with_remote (dir_of id) (index_of id + 1) s.opening).own else (with_remote (dir_of id) (index_of id + 1) s.opening).remote)) ≡ true) (sym not_own)
        (subst (λ n. nat_lt (index_of id) n ≡ true) (sym (behind (dir_of id) (index_of id + 1) s.opening)) (lt-ltb (index_of id) (index_of id + 1) (omega arith)))
    by_opening false f = was (is_own s.side id) (is_opened s id) (if nat_le (raised_count (dir_of id) s.opening) (index_of id) then Some breaches.StreamLimit else None) f (within (is_own s.side id) (is_two_way (dir_of id)) e)

-- and whose part is done then was done before
done_there : (s : StreamsState) (id : ℕ) → IsShaped s → MayCome s id → part_for s id ≡ None → receiving_status s id ≡ done
done_there s id shape may none = by_opening (opens s id) may.opened none
  where
    new : RecvHalf
    new = new_recv_half (first_window s.receiving)

    by_status : (o : Option RecvHalf) (m u : Bool) → at s.receiving.halves.live id ≡ o → has_place s.side s.receiving.halves.places id ≡ u → m ≡ true → half_of new (status_from o m u) ≡ None → receiving_status s id ≡ done
    by_status (Some h) m u is p e f = cc
    by_status None true false is p e f = cc
    by_status None true true is p e f =
        ap (λ o. status_from o (receives_on s.side id && is_opened s id) (has_place s.side s.receiving.halves.places id)) is
        ∙ (ap (λ m. idle_status m (has_place s.side s.receiving.halves.places id)) (shape.receiving.allowed id p) ∙ ap (λ u. idle_status true u) p)
    by_status None false u is p e f = absurd (both_ways false refl e)

    both : (a b : Bool) → a ≡ true → b ≡ true → (a && b) ≡ true
    both a b e f = and_from a b e f

    by_opening : (b : Bool) → is_opened (opened_if b id s) id ≡ true → receiving_half (opened_if b id s) id ≡ None → receiving_status s id ≡ done
    by_opening true opened f = by_status (at s.receiving.halves.live id) (receives_on s.side id && is_opened (opened_if true id s) id) (has_place s.side s.receiving.halves.places id) refl refl (both (receives_on s.side id) (is_opened (opened_if true id s) id) may.receives opened) f
    by_opening false opened f = by_status (at s.receiving.halves.live id) (receives_on s.side id && is_opened s id) (has_place s.side s.receiving.halves.places id) refl refl (both (receives_on s.side id) (is_opened s id) may.receives opened) f

-- ---- a frame comes

-- a frame leaves what was taken, and is taken itself
pub taken_stream : (taken more : StreamValue → Type 0) (s : StreamsState) (p : Retransmits) (f : StreamValue) → TakesMore s f taken more → HoldsTaken taken s → HoldsTaken more (after_stream s p f).state
taken_stream taken more s p f one i = stream_cases s p f (HoldsTaken more) refused ended takes
  where
    this_or : (g : StreamValue) → more g → taken g ⊎ (g ≡ f)
    this_or g t = elim (one g t) [ inl was ↦ inl was | inr now ↦ inr now.0 ]

    elsewhere : (q : ℕ) → (q ≡ f.id → ⊥) → (g : StreamValue) → g.id ≡ q → more g → taken g
    elsewhere q ne g e t = elim (one g t) [ inl was ↦ was | inr now ↦ absurd (ne (sym e ∙ ap (λ x. x.id) now.0)) ]

    refused : (b : Breach) → refusal s f.id (end_of f) f.fin ≡ Some b → HoldsTaken more s
    refused b e = taken_fewer taken more s (λ g t. elim (one g t) [ inl was ↦ was | inr now ↦ absurd (passes b (sym now.1 ∙ e)) ]) i
      where
        passes : (b : Breach) → None ≡ Some b → ⊥
        passes b e = cc

    ended : receiving_refusal s f.id ≡ None → part_for s f.id ≡ None → HoldsTaken more s
    ended within none = record {
      shape = i.shape;
      each = λ q. elim (cases_eq q f.id) [
        | inl same ↦ subst (λ x. IsKeptStatus more x (receiving_status s x)) (sym same) (subst (IsKeptStatus more f.id) (sym (done_there s f.id i.shape (may_come s f.id within) none)) tt)
        | inr ne ↦ of_fewer taken more q (elsewhere q ne) (receiving_status s q) (i.each q)
      ];
    }

    takes : (h : RecvHalf) → beyond s f.id ≡ None → part_for s f.id ≡ Some h → Unbroken s.receiving h (end_of f) f.fin → HoldsTaken more (renewed s f.id h (after_frame h f) true)
    takes h within part u = by_value (HoldsTaken more) (taken_kept more) s f.id h (after_frame h f) true
        (change_one (λ id x. IsKeptStatus taken id x) (λ id x. IsKeptStatus more id x) (goes_on_kept taken) (opened_by s f.id) f.id h (after_frame h f) part
        (λ q x ne k. of_fewer taken more q (elsewhere q ne) x k)
        (λ k. kept_frame taken more s.receiving h f this_or u k)
        (by_opened (HoldsTaken taken) (taken_kept taken) s f.id within i))

-- ---- other words at a receiving half

module _ (taken : StreamValue → Type 0) where
  pub taken_reset : (s : StreamsState) (p : Retransmits) (f : ResetStreamValue) → HoldsTaken taken s → HoldsTaken taken (after_reset_frame s p f).state
  taken_reset s p f i = by_reset_frame (HoldsTaken taken) (taken_kept taken) s p f (λ h e u k. kept_reset taken f.id h f.code f.final_size k) i

  pub taken_begun : (s : StreamsState) (id : ℕ) (ordered : Bool) → HoldsTaken taken s → HoldsTaken taken (after_read_begun s id ordered)
  taken_begun s id ordered i = by_read_begun (HoldsTaken taken) (taken_kept taken) s id ordered (λ h e k. kept_begun taken id h k) i

  -- a `next` that is answered, or that finds no memory
  pub taken_next : (told : Told) (s : StreamsState) (id most : ℕ) (answer : Result (Option Chunk) ReadError) → IsNextAnswer told s id most answer → HoldsTaken taken s → HoldsTaken taken (after_next told answer s id most)
  taken_next told s id most answer is i = by_next_answer (HoldsTaken taken) told s id most answer is (by_next (HoldsTaken taken) (taken_kept taken) told s id most (λ h c e f k. kept_read taken id h most k) i) i

  pub taken_stop : (s : StreamsState) (p : Retransmits) (id code : ℕ) → HoldsTaken taken s → HoldsTaken taken (after_stop s p id code).state
  taken_stop s p id code i = by_stop (HoldsTaken taken) (taken_kept taken) s p id code (λ h e k. kept_stopped taken id h k) i

  pub taken_received_reset : (s : StreamsState) (p : Retransmits) (id : ℕ) → HoldsTaken taken s → HoldsTaken taken (after_received_reset s p id).state
  taken_received_reset s p id i = by_received_reset (HoldsTaken taken) (taken_kept taken) s p id i

  -- where a `next` is blocked, no taken frame of the stream brought what may be read next
  pub taken_blocked : (wrote : ℕ → Wrote) (read : ℕ → Reads) (s : StreamsState) (id most : ℕ) (f : StreamValue) → IsOpenHalf s id → next_answer told_bytes s id most ≡ Err read_errors.Blocked → taken f → f.id ≡ id → HoldsRead wrote read s → HoldsTaken taken s → BringsNothing (read id) f
  taken_blocked wrote read s id most f goes blocked t same i k =
      let r : IsRecvHalf (wrote id) (read id) goes.half = read_at wrote read s id goes.half goes.there i in
      let h : IsKeptHalf taken id goes.half = at_half_of (λ q x. IsKeptStatus taken q x) (goes_on_kept taken) s id goes.half goes.there k in
      let b : IsBlocked goes.half = next_blocked goes.half most r.lawful (ap (λ o. next_at told_bytes o most) (sym goes.there) ∙ blocked) in
      blocked_lacks (wrote id) (read id) goes.half f r b (h.frames goes.goes b.free f t same)
