-- Between which sizes a search stays.
use Rattle.std.specs.Prelude.{◌≡◌, ◌⊎◌, ℕ, ◌+◌, ◌≤◌, ⊤, false, Option, Some, None}
use Rattle.quic_congestion.specs.Search.{Search, Plan, within, Discovery, SearchCall, Reset, Polled, Limited, Acknowledged, ProbeLost, PacketLost, Asked, search_of, is_searching}

-- a limit, where there is one, is at least so much
abbrev pub IsAbove : ℕ → Option ℕ → Type 0
IsAbove least None = ⊤
IsAbove least (Some limit) = least ≤ limit

-- a size is at most the limit, where there is one
abbrev pub IsBelow : Option ℕ → ℕ → Type 0
IsBelow None size = ⊤
IsBelow (Some limit) size = size ≤ limit

-- the bounds and the size probed last, between a least size and the peer's limit
pub record IsSearch (least : ℕ) (limit : Option ℕ) (s : Search) : Type 0 where
  pub low : least ≤ s.low
  pub last : s.low ≤ s.last
  pub high : s.last ≤ s.high + 1
  pub last_within : IsBelow limit s.last
  pub high_within : IsBelow limit s.high

-- the same, of a search if there is one
abbrev pub IsSearchIf : ℕ → Option ℕ → Option Search → Type 0
IsSearchIf least limit None = ⊤
IsSearchIf least limit (Some s) = IsSearch least limit s

-- steps are of two bytes at least
abbrev pub IsPlanIf : ℕ → Option ℕ → Option Plan → Type 0
IsPlanIf least limit None = ⊤
IsPlanIf least limit (Some plan) = (2 ≤ plan.settings.least_change) × IsSearchIf least limit plan.current

-- no size is below the least one, and the search stays within the peer's limit
pub record StaysBetween (least : ℕ) (d : Discovery) : Type 0 where
  pub size : least ≤ d.size
  pub floor : least ≤ d.bursts.least
  pub limit : IsAbove least d.limit
  pub plan : IsPlanIf least d.limit d.plan

-- the open probe, and the next one, is no smaller than the size: the low bound isn't, or the last
-- probe isn't, which came through or is the size itself
abbrev pub Reaches : ℕ → Option Search → Type 0
Reaches size None = ⊤
Reaches size (Some s) = ((s.lost ≡ 0) × (s.probe ≡ None) × (size ≤ s.last)) ⊎ (size ≤ s.low)

-- no size above a bound is probed: the last one and the high bound aren't, or the search began
-- there and ends at once
abbrev pub Ends : ℕ → Option Search → Type 0
Ends bound None = ⊤
Ends bound (Some s) = ((s.last ≤ bound) × (s.high ≤ bound)) ⊎ ((s.low ≡ s.last) × (s.high ≡ s.last) × (s.lost ≡ 0) × (s.probe ≡ None))

-- the bound is the configured one, or the peer's limit where that is less
abbrev pub EndsIf : Option ℕ → Option Plan → Type 0
EndsIf limit None = ⊤
EndsIf limit (Some plan) = Ends (within limit plan.settings.upper_bound) plan.current

-- The size lies between the least and what the peer takes, and so does the size that it falls to;
-- no probe is smaller, and none is above the search's bound.
pub record IsSized (least most : ℕ) (d : Discovery) : Type 0 where
  pub between : StaysBetween least d
  pub limit : d.limit ≡ Some most
  pub size : d.size ≤ most
  pub floor : d.bursts.least ≤ most
  pub reaches : Reaches d.size (search_of d)
  pub ends : EndsIf d.limit d.plan

-- no call hands in less, and the peer's limit comes while no search is under way
abbrev pub HandsInNoLess : ℕ → SearchCall → Discovery → Type 0
HandsInNoLess least (Reset size floor) d = (least ≤ size) × (least ≤ floor)
HandsInNoLess least (Limited limit) d = (least ≤ limit) × (is_searching d ≡ false)
HandsInNoLess least (Polled now number) d = ⊤
HandsInNoLess least (Acknowledged number length) d = ⊤
HandsInNoLess least ProbeLost d = ⊤
HandsInNoLess least (PacketLost number length) d = ⊤
HandsInNoLess least (Asked now) d = ⊤

-- no call hands in less than a least size or more than the peer's limit, which stays
abbrev pub HandsInWithin : ℕ → ℕ → SearchCall → Discovery → Type 0
HandsInWithin least most (Reset size floor) d = (least ≤ size) × (least ≤ floor) × (floor ≤ most)
HandsInWithin least most (Limited limit) d = (limit ≡ most) × (is_searching d ≡ false)
HandsInWithin least most (Polled now number) d = ⊤
HandsInWithin least most (Acknowledged number length) d = ⊤
HandsInWithin least most ProbeLost d = ⊤
HandsInWithin least most (PacketLost number length) d = ⊤
HandsInWithin least most (Asked now) d = ⊤
