-- What a read of a half that is in use leaves of all streams, by its answer.
use Rattle.std.proofs.Common.{◌≡◌, ◌≢◌, ℕ, Bool, true, false, Option, Some, None, Result, Ok, Err, IfSome, refl, sym, ap, subst, ◌∙◌}
use Rattle.quic_assembler.specs.declared.assembler.Chunk.{Chunk}
use Rattle.quic_assembler.specs.Arrived.{given_by, bytes_read_of}
use Rattle.quic_streams_parts.specs.declared.answers.ReadError.{ReadError}
use Rattle.quic_streams_parts.specs.declared.answers.ReadError.TheVariants as read_errors
use Rattle.quic_streams_parts.specs.Table.{at}
use Rattle.quic_streams_parts.specs.RecvHalf.{RecvHalf, next_of, next_unless, chunk_or_end, at_end, is_read_up, half_after_next, read_on}
use Rattle.quic_streams_halves.specs.Halves.{Halves, changed, with_half}
use Rattle.quic_streams_state.specs.State.{StreamsState, Receiving, receiving_half, recv_done}
use Rattle.quic_streams_state.specs.Reading.{read_by}
use Rattle.quic_streams_state.proofs.Arriving.{unchanged}

-- a half that the peer didn't reset tells of no reset
not_reset : (h : RecvHalf) (most code : ℕ) → h.reset ≡ None → Err (read_errors.Reset code) ≡ next_of h most → ⊥
not_reset h most code none e = given (given_by h.arrived most) (e ∙ ap (λ (o : Option ℕ). next_unless o h most) none)
  where
    ended : (b : Bool) → Err (read_errors.Reset code) ≡ at_end b → ⊥
    ended true e = cc
    ended false e = cc

    given : (o : Option Chunk) → Err (read_errors.Reset code) ≡ chunk_or_end o h → ⊥
    given (Some chunk) e = cc
    given None e = ended (is_read_up h.final (bytes_read_of h.arrived)) e

-- the halves that a read leaves
abbrev pub left_by : Result (Option Chunk) ReadError → Receiving → ℕ → ℕ → Receiving
left_by answer r id most = record r { halves = changed (λ h. half_after_next answer h most) r.halves id }

module _ (s : StreamsState) (id most : ℕ) (h : RecvHalf) (found : at s.receiving.halves.live id ≡ Some h) where
  half_is : receiving_half s id ≡ Some h
  half_is = rw found refl

  -- with a half that is in use
  read_by_is : (answer : Result (Option Chunk) ReadError) (t : StreamsState) → t ≡ read_by answer (Some h) s id most → t ≡ read_by answer (receiving_half s id) s id most
  read_by_is answer t e = e ∙ sym (ap (λ (o : Option RecvHalf). read_by answer o s id most) half_is)

  -- an answer without bytes leaves the halves as they were
  left_same : (answer : Result (Option Chunk) ReadError) → half_after_next answer h most ≡ h → left_by answer s.receiving id most ≡ s.receiving
  left_same answer same = ap (λ (hs : Halves RecvHalf). record s.receiving { halves = hs }) (unchanged (λ k. half_after_next answer k most) s.receiving.halves id h found same)

  -- one that takes another value is put
  changed_is : (f : RecvHalf → RecvHalf) → changed f s.receiving.halves id ≡ with_half s.side s.receiving.halves id (f h)
  changed_is f = rw found refl

  -- a chunk is given
  pub read_chunk : (chunk : Chunk) (n : Receiving) → n ≡ left_by (Ok (Some chunk)) s.receiving id most → record s { receiving = n } ≡ read_by (Ok (Some chunk)) (receiving_half s id) s id most
  read_chunk chunk n is =
      read_by_is (Ok (Some chunk)) (record s { receiving = n })
      (ap (λ (r : Receiving). record s { receiving = r }) is
      ∙ ap (λ (hs : Halves RecvHalf). record s { receiving = record s.receiving { halves = hs } }) (changed_is (λ k. read_on k most)))

  -- the end is told
  pub read_end : (n : Receiving) → n ≡ left_by (Ok None) s.receiving id most → recv_done (record s { receiving = n }) id ≡ read_by (Ok None) (receiving_half s id) s id most
  read_end n is =
      read_by_is (Ok None) (recv_done (record s { receiving = n }) id)
      (ap (λ (r : Receiving). recv_done (record s { receiving = r }) id) (is ∙ left_same (Ok None) refl))

  -- an error changes nothing
  read_failed : (e : ReadError) (n : Receiving) → read_by (Err e) (Some h) s id most ≡ s → n ≡ left_by (Err e) s.receiving id most → record s { receiving = n } ≡ read_by (Err e) (receiving_half s id) s id most
  read_failed e n same is =
      read_by_is (Err e) (record s { receiving = n })
      (ap (λ (r : Receiving). record s { receiving = r }) (is ∙ left_same (Err e) refl) ∙ sym same)

  -- what it is, where the peer didn't reset the half
  pub read_error : (e : ReadError) (n : Receiving) → h.reset ≡ None → (◌≢◌ {A = Result (Option Chunk) ReadError} (Err e) (Err read_errors.Memory) → IfSome (at s.receiving.halves.live id) (λ k. Err e ≡ next_of k most)) → n ≡ left_by (Err e) s.receiving id most → record s { receiving = n } ≡ read_by (Err e) (receiving_half s id) s id most
  read_error read_errors.Blocked n none said is = read_failed read_errors.Blocked n refl is
  read_error read_errors.Memory n none said is = read_failed read_errors.Memory n refl is
  read_error (read_errors.Reset code) n none said is = absurd (not_reset h most code none (subst (λ (o : Option RecvHalf). IfSome o (λ k. Err (read_errors.Reset code) ≡ next_of k most)) found (said other)))
    where
      other : ◌≢◌ {A = Result (Option Chunk) ReadError} (Err (read_errors.Reset code)) (Err read_errors.Memory)
      other e = cc
