-- Packets in places, one for each number from a first one on.
use Rattle.std.specs.Prelude.{ℕ, ◌+◌, ◌^◌, ◌<◌, ◌≤◌, List, [], ◌∷◌, length, Option, Some, None}
use Rattle.std.specs.List.{AllByRecursion}
use Rattle.std.specs.Map.{keys_of}
use Rattle.quic_streams_parts.specs.Table.{Table}
use Rattle.quic_sent_packets.specs.Packets.{TrackedPacket}

-- places, of which each holds a packet or is empty, and the number of the first
pub record Places : Type 0 where
  pub base : ℕ
  pub places : List (Option TrackedPacket)

-- what the place of a number holds, before other packets
abbrev pub in_place : ℕ → Option TrackedPacket → Table TrackedPacket → Table TrackedPacket
in_place n None others = others
in_place n (Some p) others = (n, p) ∷ others

-- the packets in places, of which the first has this number
abbrev pub numbered : ℕ → List (Option TrackedPacket) → Table TrackedPacket
numbered base [] = []
numbered base (p ∷ places) = in_place base p (numbered (base + 1) places)

-- the packets that they hold
abbrev pub held : Places → Table TrackedPacket
held p = numbered p.base p.places

-- no more than 4096 places, whose numbers fit 64 bits
pub record IsShort (p : Places) : Type 0 where
  pub numbers : p.base + length p.places ≤ 2 ^ 64
  pub span : length p.places ≤ 4096

-- all numbers of some packets lie below one
abbrev pub AllBelow : ℕ → Table TrackedPacket → Type 0
AllBelow n packets = AllByRecursion (λ k. k < n) (keys_of packets)

-- or none does
abbrev pub AllFrom : ℕ → Table TrackedPacket → Type 0
AllFrom n packets = AllByRecursion (λ k. n ≤ k) (keys_of packets)
