-- Persistent congestion: two packets that ask are lost, far apart in time, and so is each between
-- them (RFC 9002, section 7.6).
use Rattle.std.specs.Prelude.{ℕ, ◌+◌, ◌≡◌, ◌<◌, Bool, true, List, [], ◌∷◌, ◌++◌, Option, Some, None}

-- a lost packet: its number, when it went, and whether it asks for an acknowledgement
pub record Loss : Type 0 where
  pub number : ℕ
  pub time_sent : ℕ
  pub asks : Bool

-- each number is one above the one before
abbrev pub AreConsecutive : List Loss → Type 0
AreConsecutive [] = Unit {0}
AreConsecutive (l ∷ []) = Unit {0}
AreConsecutive (l ∷ m ∷ ls) = (m.number ≡ l.number + 1) × AreConsecutive (m ∷ ls)

-- a number lies above the first that was sent after a round trip was measured, if one was
abbrev pub IsSampled : Option ℕ → ℕ → Type 0
IsSampled None number = ⊥
IsSampled (Some first) number = first < number

-- Among what is lost at once, ascending by number, two packets that ask went more than the period
-- apart, none between them is missing, and a round trip was measured before the first of them went.
pub record IsPersistent (period : ℕ) (sampled : Option ℕ) (lost : List Loss) : Type 0 where
  pub front : List Loss
  pub first : Loss
  pub between : List Loss
  pub last : Loss
  pub behind : List Loss
  pub split : lost ≡ front ++ first ∷ between ++ last ∷ behind
  pub gapless : AreConsecutive (first ∷ between ++ last ∷ [])
  pub first_asks : first.asks ≡ true
  pub last_asks : last.asks ≡ true
  pub apart : first.time_sent + period < last.time_sent
  pub measured : IsSampled sampled first.number
