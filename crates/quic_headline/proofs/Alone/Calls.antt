-- Each call at an end keeps that what waits of its streams came, where the frames of what is handed
-- in did.
use Rattle.std.proofs.Common.{◌≡◌, ℕ, ◌+◌, List, [], ◌∷◌, Some, None, Ok, Err, refl, sym, subst, inl, inr}
use Rattle.std.specs.Prelude.{slice_get}
use Rattle.quic_wire.specs.Value.{StreamValue, stream}
use Rattle.quic_sets.specs.Parts.{byte_from}
use Rattle.quic_assembler.specs.declared.assembler.Chunk.{Chunk}
use Rattle.quic_streams_state.specs.declared.state.StreamsState.{StreamsState}
use Rattle.quic_streams_state.specs.State.{sending_half}
use Rattle.quic_streams_state.specs.Reading.{Told, told_by, after_next}
use Rattle.quic_streams_laws.specs.Quiet.{IsQuiet}
use Rattle.quic_streams_laws.specs.QuietLaws.{is_quiet}
use Rattle.quic_streams_laws.specs.KeepingLaws.{by_accept, by_blocked, by_received_reset}
use Rattle.quic_machine.specs.declared.run.Call.{Call}
use Rattle.quic_machine.specs.declared.run.Answer.{Answer}
use Rattle.quic_machine.specs.Policy.{Policy}
use Rattle.quic_machine.specs.End.{End}
use Rattle.quic_machine.specs.Calls.{AreNexts}
use Rattle.quic_machine.specs.Machine.{IsAnswer, after_call}
use Rattle.quic_headline.specs.Runs.{Next, In, chunks_of}
use Rattle.quic_headline.proofs.Alone.Halves.{HoldsCame, came_kept, came_stream, came_reset, came_begun, came_next, came_stop, gives_came, put_leaves}
use Rattle.quic_headline.proofs.Alone.Taking.{Stands}
use Rattle.quic_headline.proofs.Alone.Places.{Hands}
use Rattle.quic_headline.proofs.Alone.Streams.{write_leaves, chunks_leave, IsKeptAlone, call_keeps}

-- each byte of a STREAM frame came
abbrev pub Brings : (ℕ → ℕ → ℕ → Type 0) → StreamValue → Type 0
Brings came f = (o b : ℕ) → byte_from f.offset f.bytes o ≡ Some b → came f.id o b

module _ (came : ℕ → ℕ → ℕ → Type 0) where
  -- what waits of all streams came
  abbrev pub P : StreamsState → Type 0
  P = HoldsCame came

  quiet : IsQuiet P
  quiet = is_quiet P (came_kept came)

  -- ---- reads

  -- each byte came that these give, one behind another
  pub nexts_came : (told : Told) (s : StreamsState) (id : ℕ) (mosts : List ℕ) (said : List Next) → AreNexts told s id mosts said → P s → (chunk : Chunk) → In chunk (chunks_of said) → (k b : ℕ) → slice_get chunk.bytes k ≡ Some b → came id (chunk.offset + k) b
  nexts_came told s id [] [] a i chunk among k b at = absurd among
  nexts_came told s id [] (x ∷ said) a i chunk among k b at = absurd a
  nexts_came told s id (most ∷ mosts) [] a i chunk among k b at = absurd a
  nexts_came told s id (most ∷ mosts) (Ok None ∷ said) a i chunk among k b at = nexts_came (told_by (Ok None) told) (after_next told (Ok None) s id most) id mosts said a.1 (came_next came told s id most (Ok None) a.0 i) chunk among k b at
  nexts_came told s id (most ∷ mosts) (Err error ∷ said) a i chunk among k b at = nexts_came (told_by (Err error) told) (after_next told (Err error) s id most) id mosts said a.1 (came_next came told s id most (Err error) a.0 i) chunk among k b at
  nexts_came told s id (most ∷ mosts) (Ok (Some c) ∷ said) a i chunk (inr among) k b at =
      nexts_came (told_by (Ok (Some c)) told) (after_next told (Ok (Some c)) s id most) id mosts said a.1 (came_next came told s id most (Ok (Some c)) a.0 i) chunk among k b at
  nexts_came told s id (most ∷ mosts) (Ok (Some c) ∷ said) a i chunk (inl same) k b at = elim a.0 [
    | inl is ↦ subst (λ (x : Chunk). came id (x.offset + k) b) (sym same) (gives_came came told s id most c (sym is) i k b (subst (λ (x : Chunk). slice_get x.bytes k ≡ Some b) same at))
    | inr is ↦ cc
  ]

  -- ---- any call

  came_keeps : IsKeptAlone (Brings came) P
  came_keeps = record {
    kept = record { quiet = quiet; begun = λ s id ordered i. came_begun came s id ordered i; next = λ told s id most answer is i. came_next came told s id most answer is i; stop = λ s p id code i. came_stop came s p id code i; received_reset = λ s p id i. by_received_reset P (came_kept came) s p id i };
    accept = λ dir s i. by_accept P (came_kept came) dir s (λ may. may) i;
    write = λ b answer s p id bytes i. write_leaves P (put_leaves came) b answer s p id bytes (λ full. by_blocked P (came_kept came) s p id (sending_half s id) refl i) i;
    chunks = λ b answer s p id chunks i. chunks_leave P (put_leaves came) b answer s p id chunks (λ full. by_blocked P (came_kept came) s p id (sending_half s id) refl i) i;
    stream = λ s p f brings i. came_stream came s p f brings i;
    reset = λ s p f i. came_reset came s p f i;
  }

  module _ (p : Policy) (e : End) (theirs : List (List ℕ)) (i : P e.streams) where
    -- any call, where those of what is handed in do
    pub call_came : (H : List ℕ → Type 0) → ((d : List ℕ) → H d → (f : StreamValue) → Stands p e d (stream f) → Brings came f) → (call : Call) (a : Answer) → IsAnswer p e theirs call a → Hands theirs H call → P (after_call p e theirs call a).streams
    call_came H brings call a is hands = call_keeps (Brings came) P came_keeps p e theirs i H brings call a is hands
