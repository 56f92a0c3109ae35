-- A source of one word, and the words of any source.
use Rattle.std.proofs.Common.{◌≡◌, ℕ, zero, suc, List, [], ◌∷◌, refl, sym, ap, ◌∙◌}
use Rattle.std.specs.Prelude.{replicate}
use Rattle.rand_core.specs.Stream.{Call, u32_call, u64_call, bytes_call, fill_bytes}
use Rattle.rand_core.specs.Steps.{state_after, word_bytes, fill_via_u64, stream_of}
use Rattle.rand_core.proofs.StepsLemmas.{meets_fill_bytes}
use Rattle.quic_keys.specs.declared.words.Source.{Source}
use Rattle.quic_keys.specs.declared.words.Source.TheVariants.{Word, Pcg}
use Rattle.quic_keys.specs.Words.{word_steps, source_stream, words_from, GivesForEver}

-- bytes are made of the word alone
keeps_word : (bytes : ℕ → List ℕ) (k w : ℕ) → (word_bytes bytes (λ (x : ℕ). (x, x)) k w).1 ≡ w
unfolding word_bytes
keeps_word bytes zero w = refl
keeps_word bytes (suc k) w = keeps_word bytes k w

-- each call leaves the word
word_stays : (asked : List Call) (w : ℕ) → state_after word_steps asked w ≡ w
word_stays [] w = refl
word_stays (u32_call ∷ asked) w = word_stays asked w
word_stays (u64_call ∷ asked) w = word_stays asked w
word_stays (bytes_call n ∷ asked) w = rw keeps_word (word_stays asked w)

-- so the word is given for ever
pub gives_for_ever : (w : ℕ) → GivesForEver w (stream_of word_steps w)
unfolding stream_of
gives_for_ever w = λ asked. word_stays asked w

-- bytes leave the word
pub bytes_stay : (w v n : ℕ) (bytes : List ℕ) → (bytes, v) ≡ fill_via_u64 (λ (x : ℕ). (x, x)) n w → (bytes, stream_of word_steps w) ≡ fill_bytes n (stream_of word_steps w)
bytes_stay w v n bytes filled =
    let same : v ≡ w = ap (λ (p : List ℕ × ℕ). p.1) filled ∙ keeps_word _ _ w in
    rw same at (meets_fill_bytes word_steps n w v bytes filled)

-- the words of a source are those that its stream gives
pub words_are : (source : Source) (n : ℕ) → words_from source n ≡ (source_stream source).u64_after (replicate n u64_call)
words_are (Word word) n = sym (gives_for_ever word (replicate n u64_call))
words_are (Pcg seed) n = refl
