-- The words of a random source, one after another.
use Rattle.std.specs.Prelude.{◌≡◌, ℕ, ◌-◌, zero, suc, replicate}
use Rattle.rand_core.specs.Stream.{Stream, u64_call, after}
use Rattle.quic_machine.specs.End.{ConnectionValue, words_drawn}

-- the word that it answers after so many others
abbrev pub words_of : {R : Type 0} → (R → Stream) → R → ℕ → ℕ
words_of stream r n = (stream r).u64_after (replicate n u64_call)

-- what it answers after so many words
abbrev pub after_words : ℕ → Stream → Stream
after_words zero s = s
after_words (suc n) s = after_words n (after u64_call s)

-- what the random source of an end answers, by how many words were drawn before
abbrev pub words_at : {H K R C : Type 0} → (R → Stream) → ConnectionValue H K R C → ℕ → ℕ
words_at stream w n = words_of stream w.random (n - words_drawn w.end)

-- a call drew as many words as the end that it left has drawn more
abbrev pub Draws : {H K R C : Type 0} → (R → Stream) → ConnectionValue H K R C → ConnectionValue H K R C → Type 0
Draws stream old new = stream new.random ≡ after_words (words_drawn new.end - words_drawn old.end) (stream old.random)
