-- A stand-in random source, and the words that it answers.
use Rattle.std.specs.Prelude.{◌≡◌, ℕ, List, replicate}
use Rattle.rand_core.specs.Stream.{Call, Stream, u64_call}
use Rattle.rand_core.specs.Steps.{Steps, stream_of, steps_u64_low}
use Rattle.rand_core.specs.Pcg32Seed.{pcg32_seed}
use Rattle.rand_pcg.specs.Pcg.{pcg64, pcg64_of_seed}
use Rattle.quic_keys.specs.declared.words.Source.{Source}
use Rattle.quic_keys.specs.declared.words.Source.TheVariants.{Word, Pcg}
use Rattle.quic_keys.specs.declared.words.Words.{Words}
use Rattle.quic_keys.specs.declared.words.Words.TheVariants.{Constant, Generator}

-- each step gives the word, and keeps it
abbrev pub word_steps : Steps ℕ
word_steps = steps_u64_low (λ w. (w, w))

-- what a random source answers from here on
abbrev pub stream_from : Words → Stream
stream_from (Constant word) = stream_of word_steps word
stream_from (Generator g) = stream_of (steps_u64_low pcg64) g

-- what the generator answers that is seeded by a number
abbrev pub pcg_stream : ℕ → Stream
pcg_stream seed = stream_of (steps_u64_low pcg64) (pcg64_of_seed (pcg32_seed 32 seed))

-- what is answered from the first word on
abbrev pub source_stream : Source → Stream
source_stream (Word word) = stream_of word_steps word
source_stream (Pcg seed) = pcg_stream seed

-- the words, one after another: one word for ever, or those of a generator
abbrev pub words_from : Source → ℕ → ℕ
words_from (Word word) n = word
words_from (Pcg seed) n = (pcg_stream seed).u64_after (replicate n u64_call)

-- whatever was asked for before, the next word is this one
abbrev pub GivesForEver : ℕ → Stream → Type 0
GivesForEver word s = (asked : List Call) → s.u64_after asked ≡ word
