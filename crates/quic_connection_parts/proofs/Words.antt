-- How many words of a random source a number takes.
use Rattle.std.proofs.Common.{◌≡◌, ℕ, ◌+◌, ◌-◌, Bool, true, false, zero, suc, refl, sym, ap, ◌∙◌, arith}
use Rattle.std.specs.Prelude.{if◌then◌else◌}
use Rattle.rand_core.specs.Stream.{Stream, next_u64, u64_call, after}
use Rattle.quic_spaces.specs.Filter.{Filter, is_skipped, after_skipped, after_allocated}
use Rattle.quic_connection_parts.specs.Drawn.{after_words}

-- what is left after one
one_left : (s : Stream) → (next_u64 s).1 ≡ after_words 1 s
unfolding next_u64
one_left s = refl

-- one where a number is left out, and else none
pub words_left : (f g : Filter) (next word : ℕ) (s t : Stream) → g ≡ after_allocated f next word → (is_skipped f next ≡ true → t ≡ (next_u64 s).1) → (is_skipped f next ≡ false → t ≡ s) → t ≡ after_words (g.drawn - f.drawn) s
words_left f g next word s t is drawn kept = go (is_skipped f next) refl ∙ ap (λ (x : Filter). after_words (x.drawn - f.drawn) s) (sym is)
  where
    go : (b : Bool) → is_skipped f next ≡ b → t ≡ after_words ((if b then after_skipped f word else f).drawn - f.drawn) s
    go true skips = drawn skips ∙ one_left s ∙ ap (λ (k : ℕ). after_words k s) (let one : 1 ≡ f.drawn + 1 - f.drawn = omega arith in one)
    go false stays = kept stays ∙ ap (λ (k : ℕ). after_words k s) (let none : 0 ≡ f.drawn - f.drawn = omega arith in none)

-- others that were drawn before count on both sides
pub less_same : (a b c d : ℕ) → (a + c + d) - (b + c + d) ≡ a - b
less_same a b c d = omega arith

-- so many words behind others
pub after_both : (a b : ℕ) (s : Stream) → after_words b (after_words a s) ≡ after_words (a + b) s
after_both zero b s = ap (λ (k : ℕ). after_words k s) (let same : b ≡ zero + b = omega arith in same)
after_both (suc a) b s = after_both a b (after u64_call s) ∙ ap (λ (k : ℕ). after_words k s) (let same : suc (a + b) ≡ suc a + b = omega arith in same)
