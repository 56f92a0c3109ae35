-- Numbers of connection ids that live.
use Rattle.std.specs.Prelude.{ℕ, ◌+◌, ◌≤◌, ◌<◌, ◌^◌, List, [], ◌∷◌}
use Rattle.std.specs.List.{AllByRecursion}
use Rattle.quic_ids.specs.CidQueue.{PeerIds}

-- numbers ascend, from the first on and below the end
abbrev pub RiseBelow : List ℕ → ℕ → ℕ → Type 0
RiseBelow [] first end = Unit {0}
RiseBelow (k ∷ ks) first end = (first ≤ k) × (k < end) × RiseBelow ks (k + 1) end

-- the numbers of the peer's ids have a form as variable-length integers (RFC 9000, section 16)
abbrev pub HaveNumbers : PeerIds → Type 0
HaveNumbers ids = (ids.active < 2 ^ 62) × AllByRecursion (λ c. c.sequence < 2 ^ 62) ids.later
