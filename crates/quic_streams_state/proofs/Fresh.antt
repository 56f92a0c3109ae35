-- What a frame leaves of all streams that comes first on its receiving part.
use Rattle.std.proofs.Common.{◌≡◌, ℕ, ◌-◌, max, Bool, true, false, List, [], ◌∷◌, drop, Option, Some, None, IfSome, refl, sym, ap, subst, ◌∙◌, arith}
use Rattle.std.specs.Prelude.{nat_lt, ◌&&◌, ◌||◌, not}
use Rattle.std.specs.Option.{is_some}
use Rattle.std.proofs.lemmas.Bool.{le-ltb}
use Rattle.quic_wire.specs.Value.{StreamValue, ResetStreamValue}
use Rattle.quic_assembler.specs.Arrived.{runs_of, with_part, settled}
use Rattle.quic_retransmits.specs.Retransmits.{Retransmits}
use Rattle.quic_streams_parts.specs.declared.answers.Breach.{Breach}
use Rattle.quic_streams_parts.specs.RecvHalf.{RecvHalf, new_recv_half, end_of, after_frame, after_reset_stream, most_pieces, has_too_many}
use Rattle.quic_streams_parts.specs.Table.{at}
use Rattle.quic_streams_state.specs.State.{StreamsState}
use Rattle.quic_streams_state.specs.Limits.{decided}
use Rattle.quic_streams_state.specs.Opening.{opens, opened_by, receiving_refusal}
use Rattle.quic_streams_state.specs.Taking.{part_for, refusal, breach_at, breach_behind, readable_if, ended_if}
use Rattle.quic_streams_state.specs.Received.{is_over, noted_on}
use Rattle.quic_streams_state.proofs.Tables.{at-with_half}
use Rattle.quic_streams_state.proofs.Coming.{IsTaken, is_taken, IsReset, is_reset}

-- what breaks no rule by its id is refused as its part says
pub refused_on : (s : StreamsState) (id end : ℕ) (fin : Bool) (o : Option RecvHalf) → receiving_refusal s id ≡ None → o ≡ part_for s id → refusal s id end fin ≡ breach_at o s.receiving end fin
refused_on s id end fin o lawful part =
    ap (λ (r : Option Breach). breach_behind r s id end fin) lawful
    ∙ sym (ap (λ (p : Option RecvHalf). breach_at p s.receiving end fin) part)

-- bytes where none wait are one piece at most
one_piece : (window offset : ℕ) (bytes : List ℕ) → nat_lt (most_pieces window) (runs_of (settled (with_part offset bytes []))) ≡ false
one_piece window offset [] = le-ltb (most_pieces window) 0 (omega arith)
one_piece window offset (b ∷ bytes) = le-ltb (most_pieces window) 1 (omega arith)

pub first_few : (window limit : ℕ) (f : StreamValue) → has_too_many window (after_frame (new_recv_half limit) f) ≡ false
first_few window limit f = one_piece window (max 0 f.offset) (drop (0 - f.offset) f.bytes)

-- the part that took its value
at_noted : (s t : StreamsState) (id : ℕ) (old new : RecvHalf) (tells : Bool) → t ≡ noted_on s id old new tells → at t.receiving.halves.live id ≡ Some new
at_noted s t id old new tells kept =
    let told : StreamsState = readable_if (tells && not (old.stopped || opens s id)) id s in
    ap (λ (x : StreamsState). at x.receiving.halves.live id) kept ∙ at-with_half told.side told.receiving.halves id new

-- a part that this end didn't stop isn't over
not_over : (t : StreamsState) (id : ℕ) (new : RecvHalf) → at t.receiving.halves.live id ≡ Some new → new.stopped ≡ false → opened_by t id ≡ ended_if (is_over (at t.receiving.halves.live id)) id (opened_by t id)
not_over t id new here going =
    sym (ap (λ (o : Option RecvHalf). ended_if (is_over o) id (opened_by t id)) here ∙ ap (λ (b : Bool). ended_if (b && is_some new.final) id (opened_by t id)) going)

-- the first frame on a part is taken once its stream opened
pub is_taken_first : (s : StreamsState) (p : Retransmits) (f : StreamValue) (t u : StreamsState) (q : Retransmits) (h : RecvHalf) (window : ℕ) → h ≡ new_recv_half window → refusal s f.id (end_of f) f.fin ≡ None → part_for s f.id ≡ Some h
    → t ≡ noted_on s f.id h (after_frame h f) true → u ≡ opened_by t f.id → q ≡ decided u p
    → IsTaken s p f u q false
is_taken_first s p f t u q h window fresh allowed part kept new pending =
    let here = at_noted s t f.id h (after_frame h f) true kept in
    let few : has_too_many t.receiving.stream_window (after_frame h f) ≡ false = ap (λ (x : RecvHalf). has_too_many t.receiving.stream_window (after_frame x f)) fresh ∙ first_few t.receiving.stream_window window f in
    let going : (after_frame h f).stopped ≡ false = ap (λ (x : RecvHalf). (after_frame x f).stopped) fresh in
    is_taken s p f t u q false h allowed part kept
    (subst (λ (o : Option RecvHalf). IfSome o (λ x. false ≡ has_too_many t.receiving.stream_window x)) (sym here) (sym few))
    (new ∙ not_over t f.id (after_frame h f) here going) pending

-- the first reset on a part likewise
pub is_reset_first : (s : StreamsState) (p : Retransmits) (f : ResetStreamValue) (t u : StreamsState) (q : Retransmits) (h : RecvHalf) (window : ℕ) → h ≡ new_recv_half window → refusal s f.id f.final_size true ≡ None → part_for s f.id ≡ Some h
    → t ≡ noted_on s f.id h (after_reset_stream h f.code f.final_size) (not (is_some h.reset)) → u ≡ opened_by t f.id → q ≡ decided u p
    → IsReset s p f u q
is_reset_first s p f t u q h window fresh allowed part kept new pending =
    let here = at_noted s t f.id h (after_reset_stream h f.code f.final_size) (not (is_some h.reset)) kept in
    let going : (after_reset_stream h f.code f.final_size).stopped ≡ false = ap (λ (x : RecvHalf). (after_reset_stream x f.code f.final_size).stopped) fresh in
    is_reset s p f t u q h allowed part kept (new ∙ not_over t f.id (after_reset_stream h f.code f.final_size) here going) pending
