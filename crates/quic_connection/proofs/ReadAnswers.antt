-- The answers of a read so far, and one more.
use Rattle.std.proofs.Common.{refl, ◌≡◌, ◌≢◌, ◌⊎◌, ℕ, List, [], ◌∷◌, ◌++◌, Option, Result, Ok, Err, inl, inr}
use Rattle.quic_assembler.specs.declared.assembler.Chunk.{Chunk}
use Rattle.quic_streams_parts.specs.declared.answers.ReadError.{ReadError}
use Rattle.quic_streams_parts.specs.declared.answers.ReadError.TheVariants as read_errors
use Rattle.quic_streams_state.specs.declared.state.StreamsState.{StreamsState}
use Rattle.quic_streams_state.specs.Reading.{Told, told_by, next_answer, after_next}
use Rattle.quic_machine.specs.Calls.{AreNexts, after_nexts}
use Rattle.quic_machine.specs.Lacking.{NextLacks, NextsLack}

-- what such answers told
abbrev pub told_after : Told → List (Result (Option Chunk) ReadError) → Told
told_after told [] = told
told_after told (answer ∷ answers) = told_after (told_by answer told) answers

-- what one more `next` told
pub told_one_more : (told : Told) (answers : List (Result (Option Chunk) ReadError)) (answer : Result (Option Chunk) ReadError) → told_after told (answers ++ answer ∷ []) ≡ told_by answer (told_after told answers)
told_one_more told [] answer = refl
told_one_more told (a ∷ answers) answer = told_one_more (told_by a told) answers answer

-- and left
pub after_one_more : (told : Told) (s : StreamsState) (id : ℕ) (mosts : List ℕ) (answers : List (Result (Option Chunk) ReadError)) (most : ℕ) (answer : Result (Option Chunk) ReadError) → AreNexts told s id mosts answers
    → after_nexts told s id (mosts ++ most ∷ []) (answers ++ answer ∷ []) ≡ after_next (told_after told answers) answer (after_nexts told s id mosts answers) id most
after_one_more told s id [] [] most answer so_far = refl
after_one_more told s id [] (a ∷ answers) most answer so_far = absurd so_far
after_one_more told s id (m ∷ mosts) [] most answer so_far = absurd so_far
after_one_more told s id (m ∷ mosts) (a ∷ answers) most answer so_far = after_one_more (told_by a told) (after_next told a s id m) id mosts answers most answer so_far.1

-- they are still answers of so many `next`s
pub nexts_one_more : (told : Told) (s : StreamsState) (id : ℕ) (mosts : List ℕ) (answers : List (Result (Option Chunk) ReadError)) (most : ℕ) (answer : Result (Option Chunk) ReadError) → AreNexts told s id mosts answers
    → (answer ≡ next_answer (told_after told answers) (after_nexts told s id mosts answers) id most) ⊎ (answer ≡ Err read_errors.Memory) → AreNexts told s id (mosts ++ most ∷ []) (answers ++ answer ∷ [])
nexts_one_more told s id [] [] most answer so_far next = (next, tt)
nexts_one_more told s id [] (a ∷ answers) most answer so_far next = absurd so_far
nexts_one_more told s id (m ∷ mosts) [] most answer so_far next = absurd so_far
nexts_one_more told s id (m ∷ mosts) (a ∷ answers) most answer so_far next = (so_far.0, nexts_one_more (told_by a told) (after_next told a s id m) id mosts answers most answer so_far.1 next)

-- and they still lack memory only where some is taken
pub lacks_one_more : (told : Told) (s : StreamsState) (id : ℕ) (mosts : List ℕ) (answers : List (Result (Option Chunk) ReadError)) (most : ℕ) (answer : Result (Option Chunk) ReadError) → AreNexts told s id mosts answers → NextsLack told s id mosts answers
    → (answer ≡ Err read_errors.Memory → NextLacks (told_after told answers) (after_nexts told s id mosts answers) id most) → NextsLack told s id (mosts ++ most ∷ []) (answers ++ answer ∷ [])
lacks_one_more told s id [] [] most answer so_far lacking lacks = (lacks, tt)
lacks_one_more told s id [] (a ∷ answers) most answer so_far lacking lacks = absurd so_far
lacks_one_more told s id (m ∷ mosts) [] most answer so_far lacking lacks = absurd so_far
lacks_one_more told s id (m ∷ mosts) (a ∷ answers) most answer so_far lacking lacks = (lacking.0, lacks_one_more (told_by a told) (after_next told a s id m) id mosts answers most answer so_far.1 lacking.1 lacks)

-- an answer is what was to come unless memory lacked
pub or_memory : (P : Type 0) (answer : Result (Option Chunk) ReadError) → (answer ≢ Err read_errors.Memory → P) → P ⊎ (answer ≡ Err read_errors.Memory)
or_memory P (Ok chunk) f = inl (f (λ e. cc))
or_memory P (Err read_errors.Blocked) f = inl (f (λ e. cc))
or_memory P (Err (read_errors.Reset code)) f = inl (f (λ e. cc))
or_memory P (Err read_errors.Memory) f = inr refl
