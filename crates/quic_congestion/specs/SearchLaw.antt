-- What the size search promises over whole histories.
use Rattle.std.specs.Prelude.{◌≡◌, ◌⊎◌, ℕ, List, [], ◌∷◌, Option, Some}
use Rattle.quic_congestion.specs.Search.{Discovery, SearchCall, Reset, Polled, Limited, Acknowledged, ProbeLost, PacketLost, Asked, search_over, poll_names, acknowledged_probe}

-- a size with which a path begins: its size, the least one, or the peer's limit
abbrev pub BeginsWith : ℕ → ℕ → Option ℕ → ℕ → Type 0
BeginsWith size least limit n = (n ≡ size) ⊎ ((n ≡ least) ⊎ (limit ≡ Some n))

-- a size that comes with a call: it is handed in, is the peer's limit, or is that of the open
-- probe, which is acknowledged
abbrev pub Brings : SearchCall → Discovery → ℕ → Type 0
Brings (Reset size least) d n = (n ≡ size) ⊎ (n ≡ least)
Brings (Limited limit) d n = n ≡ limit
Brings (Acknowledged number length) d n = acknowledged_probe number d ≡ Some n
Brings (Polled now number) d n = ⊥
Brings ProbeLost d n = ⊥
Brings (PacketLost number length) d n = ⊥
Brings (Asked now) d n = ⊥

-- a size of the beginning, or one that came with a call of the history
abbrev pub IsKnown : (ℕ → Type 0) → Discovery → List SearchCall → ℕ → Type 0
IsKnown Begins d [] n = Begins n
IsKnown Begins d (call ∷ earlier) n = IsKnown Begins d earlier n ⊎ Brings call (search_over d earlier) n

-- a call is a poll that names a size under a number
abbrev pub Names : SearchCall → Discovery → ℕ → ℕ → Type 0
Names (Polled now next) d number n = (next ≡ number) × (poll_names now d ≡ Some n)
Names (Reset size least) d number n = ⊥
Names (Limited limit) d number n = ⊥
Names (Acknowledged next length) d number n = ⊥
Names ProbeLost d number n = ⊥
Names (PacketLost next length) d number n = ⊥
Names (Asked now) d number n = ⊥

-- a poll of the history named a size under a number
abbrev pub WasNamed : Discovery → List SearchCall → ℕ → ℕ → Type 0
WasNamed d [] number n = ⊥
WasNamed d (call ∷ earlier) number n = WasNamed d earlier number n ⊎ Names call (search_over d earlier) number n
