-- What is in flight of the packets that were sent and are neither acknowledged nor lost (RFC 9002,
-- section 2). Sizes are in bytes.
use Rattle.std.specs.Prelude.{◌≡◌, ℕ, ◌+◌, ◌-◌, ◌<◌, ◌≤◌, ◌^◌, Bool, cond, List, [], ◌∷◌, IsPermutation, sum_by}
use Rattle.std.specs.List.{count_by}

-- the bytes in flight, and how many of the packets ask for an acknowledgement
pub record Flight : Type 0 where
  pub bytes : ℕ
  pub asking : ℕ

-- nothing is in flight
abbrev pub no_flight : Flight
no_flight = record { bytes = 0; asking = 0 }

-- one packet where it asks, else none
abbrev pub one_if : Bool → ℕ
one_if asks = cond asks 1 0

-- with one packet more, by its size and whether it asks
abbrev pub flight_with : Flight → ℕ → Bool → Flight
flight_with f size asks = record { bytes = f.bytes + size; asking = f.asking + one_if asks }

-- with one packet less
abbrev pub flight_without : Flight → ℕ → Bool → Flight
flight_without f size asks = record { bytes = f.bytes - size; asking = f.asking - one_if asks }

-- with one packet more 128 bits hold the bytes, and 64 bits the count
pub record CanJoin (f : Flight) (size : ℕ) (asks : Bool) : Type 0 where
  pub bytes : f.bytes + size < 2 ^ 128
  pub asking : f.asking + one_if asks < 2 ^ 64

-- the sums are no less than what one packet adds to them
pub record CanLeave (f : Flight) (size : ℕ) (asks : Bool) : Type 0 where
  pub bytes : size ≤ f.bytes
  pub asking : one_if asks ≤ f.asking

-- a packet: its size, and whether it asks for an acknowledgement
pub record Packet : Type 0 where
  pub size : ℕ
  pub asks : Bool

-- what these packets have in flight together
abbrev pub flight_of : List Packet → Flight
flight_of packets = record {
  bytes = sum_by (λ p. p.size) packets;
  asking = count_by (λ p. p.asks) packets;
}

-- a packet goes into flight, or leaves it
pub data Call : Type 0 where
  inserted : Packet → Call
  removed : Packet → Call

-- what is in flight after calls, the latest first
abbrev pub flight_after : List Call → Flight
flight_after [] = no_flight
flight_after (inserted p ∷ before) = flight_with (flight_after before) p.size p.asks
flight_after (removed p ∷ before) = flight_without (flight_after before) p.size p.asks

-- these packets, in any order, are left after calls, the latest first; each one that was removed
-- was among those that were left before
abbrev pub AreLeft : List Packet → List Call → Type 0
AreLeft packets [] = packets ≡ []
AreLeft packets (inserted p ∷ before) =
    (others : List Packet) × (IsPermutation (p ∷ others) packets × AreLeft others before)
AreLeft packets (removed p ∷ before) =
    (all : List Packet) × (IsPermutation (p ∷ packets) all × AreLeft all before)
