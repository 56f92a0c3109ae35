-- Which packet numbers are left out (RFC 9000, section 21.4), as words of the end's random source
-- say.
use Rattle.std.specs.Prelude.{ℕ, ◌+◌, ◌%◌, ◌^◌, ◌≡◌, ◌==◌, min, if◌then◌else◌, List, [], ◌∷◌, ◌++◌}
use Rattle.quic_wire_core.specs.declared.stream_id.Side.{Side}
use Rattle.quic_machine.specs.Machine.{policy_at, end_at}
use Rattle.quic_headline.specs.Runs.{Run, AreServed}
use Rattle.quic_headline.specs.Observer.{Sent, sents_until}

-- the numbers that were left out before these datagrams and between them, where this one may come
-- first: numbers rise by one, or by two where one is left out
abbrev pub left_out : ℕ → List Sent → List ℕ
left_out low [] = []
left_out low (s ∷ ss) = (if s.number == low then [] else low ∷ []) ++ left_out (s.number + 1) ss

-- A number is drawn for a power of two: it lies that far above the power as the remainder of a word
-- of the random source by it.
pub record IsDrawn (words : ℕ → ℕ) (exponent number : ℕ) : Type 0 where
  pub drawn : ℕ
  pub is : number ≡ 2 ^ exponent + words drawn % 2 ^ exponent

-- so is each of these, for one power of two after another, up to 2^62
abbrev pub AreDrawn : (ℕ → ℕ) → ℕ → List ℕ → Type 0
AreDrawn words exponent [] = Unit {0}
AreDrawn words exponent (n ∷ ns) = IsDrawn words exponent n × AreDrawn words (min (exponent + 1) 62) ns

-- the first of numbers that are left out is this one, with which its end was made
-- (`Connection::new` draws it below 64), and the others are drawn for 64 and on
abbrev pub AreLeftOut : (ℕ → ℕ) → ℕ → List ℕ → Type 0
AreLeftOut words first [] = Unit {0}
AreLeftOut words first (n ∷ ns) = (n ≡ first) × AreDrawn words 6 ns

-- so are those that an end left out
abbrev pub NumbersAreDrawn : Run → Type 0
NumbersAreDrawn r = (side : Side) (i : ℕ) → AreServed r i → AreLeftOut (policy_at side r.keys).words (end_at side r.start).filter.next (left_out 0 (sents_until r side i))
