-- What is said of writing, worked on rows.
use Rattle.std.proofs.Common.{◌≡◌, ℕ, ◌-◌, ◌^◌, length, [], ◌∷◌, ◌++◌, true, false, List, Option, Some, None, Ok, Err, refl, arith}
use Rattle.quic_wire_core.specs.declared.stream_id.Side.TheVariants.{Client}
use Rattle.quic_wire_core.specs.declared.stream_id.Dir.TheVariants.{Bi}
use Rattle.quic_retransmits.specs.Retransmits.{nothing_waits}
use Rattle.quic_streams_parts.specs.declared.answers.WriteError.TheVariants as write_errors
use Rattle.quic_streams_parts.specs.declared.answers.FinishError.TheVariants as finish_errors
use Rattle.quic_streams_parts.specs.SendHalf.{new_send_half, grown, ended, reset_now}
use Rattle.quic_streams_state.specs.declared.state.StreamsState.{StreamsState}
use Rattle.quic_streams_state.specs.State.{new_streams}
use Rattle.quic_streams_state.specs.Opening.{after_open}
use Rattle.quic_streams_state.specs.Writing.{write_answer}
use Rattle.quic_streams_state.specs.Worked.{told_parameters, client, wrote, twenty}
use Rattle.quic_streams_laws.specs.KeepingLaws.{by_open}
use Rattle.quic_streams_laws.specs.Written.{Wrote, IsSendHalf, HoldsWritten, StandsAt, nothing_done, wrote_by, wrote_chunks_by, wrote_end_by, wrote_reset_by, reset_size}
use Rattle.quic_streams_laws.specs.WrittenLaws.{holds_kept, holds_new, holds_set_params, holds_write}

-- ---- one stream

-- two of three bytes were accepted on the first stream
abbrev two_written : ℕ → Wrote
two_written = wrote_by (Ok 2) 0 (7 ∷ 8 ∷ 9 ∷ []) (λ id. nothing_done)

pub two_of_three : two_written 0 ≡ record { bytes = 7 ∷ 8 ∷ []; ended = false; reset = None }
two_of_three = refl

-- nothing on another
pub none_apart : two_written 4 ≡ nothing_done
none_apart = refl

-- the third comes behind them
pub third_behind : (wrote_by (Ok 1) 0 (9 ∷ []) two_written 0).bytes ≡ 7 ∷ 8 ∷ 9 ∷ []
third_behind = refl

-- a write that is blocked accepts nothing
pub none_blocked : wrote_by (Err write_errors.Blocked) 0 (9 ∷ []) two_written 0 ≡ two_written 0
none_blocked = refl

-- three bytes of two buffers
pub three_of_buffers : (wrote_chunks_by (Ok (record { bytes = 3; chunks = 1 })) 0 ((7 ∷ 8 ∷ []) ∷ (9 ∷ 10 ∷ []) ∷ []) (λ id. nothing_done) 0).bytes ≡ 7 ∷ 8 ∷ 9 ∷ []
three_of_buffers = refl

-- the end, and a second finish
pub two_ended : (wrote_end_by (Ok tt) 0 two_written 0).ended ≡ true
two_ended = refl

pub not_twice : (wrote_end_by (Err finish_errors.ClosedStream) 0 two_written 0).ended ≡ false
not_twice = refl

-- a reset tells as many bytes as were accepted
pub two_reset : reset_size (wrote_reset_by (Ok tt) 0 5 two_written 0) ≡ Some 2
two_reset = refl

-- ---- what isn't so

-- a half with a byte that wasn't written
pub none_added : IsSendHalf nothing_done (grown (new_send_half 10) (7 ∷ [])) → ⊥
none_added i = other (i.rest refl).kept
  where
    other : ◌≡◌ {A = List ℕ} (7 ∷ []) [] → ⊥
    other e = cc

-- a half that is finished where its stream isn't
pub none_ended : IsSendHalf nothing_done (ended (new_send_half 10)) → ⊥
none_ended i = other i.finished
  where
    other : true ≡ false → ⊥
    other e = cc

-- a half that was reset where its stream wasn't
pub none_reset : IsSendHalf nothing_done (reset_now (new_send_half 10)) → ⊥
none_reset i = other i.reset
  where
    other : ◌≡◌ {A = Option ℕ} (Some 0) None → ⊥
    other e = cc

-- a byte that stands elsewhere
pub not_there : StandsAt (7 ∷ 8 ∷ []) 0 (8 ∷ []) → ⊥
not_there s = go s.before s.place s.is
  where
    first : (rest : List ℕ) → 8 ∷ rest ≡ 7 ∷ 8 ∷ [] → ⊥
    first rest e = cc

    some : (b : ℕ) (bs : List ℕ) → length (b ∷ bs) ≡ 0 → ⊥
    some b bs e = omega (arith, e)

    go : (before : List ℕ) → length before ≡ 0 → (before ++ 8 ∷ []) ++ s.behind ≡ 7 ∷ 8 ∷ [] → ⊥
    go [] place is = first s.behind is
    go (b ∷ bs) place is = some b bs place

-- ---- all streams

-- a client that may write eight bytes in all opens a stream
abbrev opened : StreamsState
opened = after_open true Bi (client 8 100)

pub opened_holds : HoldsWritten (λ id. nothing_done) opened
opened_holds = by_open (HoldsWritten (λ id. nothing_done)) (holds_kept (λ id. nothing_done)) true Bi (client 8 100)
    (holds_set_params (λ id. nothing_done) (new_streams Client 100 100 10000000 (2 ^ 62 - 1) 1250000) (told_parameters 8 100) (record { own_bi = omega arith; own_uni = omega arith; remote = omega arith }) (holds_new Client 100 100 10000000 (2 ^ 62 - 1) 1250000))

-- it writes twenty, of which eight are accepted, and holds these
abbrev eight : ℕ → Wrote
eight = wrote_by (write_answer true opened 0 (length twenty)) 0 twenty (λ id. nothing_done)

pub eight_accepted : length (eight 0).bytes ≡ 8
eight_accepted = refl

pub eight_held : HoldsWritten eight (wrote opened 0 twenty)
eight_held = holds_write (λ id. nothing_done) opened opened_holds true nothing_waits 0 twenty
