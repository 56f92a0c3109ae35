-- Which tracked packets an ACK frame names or takes out, range by range.
use Rattle.std.specs.Prelude.{ℕ, ◌≤◌, Bool, false, not, List, [], ◌∷◌, filter, Option, None, Some}
use Rattle.std.specs.List.{list_any}
use Rattle.quic_wire.specs.AckGrammar.{Below}
use Rattle.quic_streams_parts.specs.Table.{Table, at}
use Rattle.quic_sent_packets.specs.Packets.{TrackedPacket, is_within}

-- whether there is a packet that asks
abbrev pub asks_if : Option TrackedPacket → Bool
asks_if None = false
asks_if (Some p) = p.asks

-- whether there is one of this number
abbrev pub asks_at : Table TrackedPacket → ℕ → Bool
asks_at packets n = asks_if (at packets n)

-- the packets whose numbers don't lie between two others
abbrev pub outside : ℕ → ℕ → Table TrackedPacket → Table TrackedPacket
outside low high packets = filter (λ p. not (is_within low high p.0)) packets

-- whether one of these ranges has a number
abbrev pub is_among : List (ℕ × ℕ) → ℕ → Bool
is_among ranges n = list_any (λ r. is_within r.0 r.1 n) ranges

-- the packets whose numbers the ranges have
abbrev pub among : List (ℕ × ℕ) → Table TrackedPacket → Table TrackedPacket
among ranges packets = filter (λ p. is_among ranges p.0) packets

-- the others
abbrev pub apart_from : List (ℕ × ℕ) → Table TrackedPacket → Table TrackedPacket
apart_from ranges packets = filter (λ p. not (is_among ranges p.0)) packets

-- each range lies below the one before it
abbrev pub Descends : List (ℕ × ℕ) → Type 0
Descends [] = Unit {0}
Descends (r ∷ rs) = (r.0 ≤ r.1) × Below r.0 rs
