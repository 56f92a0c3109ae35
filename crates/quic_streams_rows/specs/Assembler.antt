-- Small values of what has come of a stream, and what reads give of it one behind another.
use Rattle.std.specs.Prelude.{ℕ, zero, suc, ◌+◌, ◌*◌, ◌&&◌, Bool, false, List, [], ◌∷◌, codes, Option, Some}
use Rattle.quic_sets.specs.Parts.{Part}
use Rattle.quic_assembler.specs.declared.assembler.Chunk.{Chunk}
use Rattle.quic_assembler.specs.Arrived.{Arrived, is_next_in, given_by, after_insert, after_read, after_ordering}
use Rattle.quic_assembler.specs.ArrivedHistory.{nothing_arrived}

-- a chunk that a read gives
abbrev pub chunk : ℕ → List ℕ → Option Chunk
chunk offset bytes = Some (record { offset = offset; bytes = bytes })

-- whether a byte waits that the next read may give
abbrev pub is_waiting : Arrived → Bool
is_waiting a = is_next_in a.unordered a

-- whether a read that is in order or isn't may not begin
abbrev pub is_refused : Bool → Arrived → Bool
is_refused ordered a = ordered && a.unordered

-- what reads of at most so many bytes each give, one behind another
abbrev pub gives : Arrived → List ℕ → List (Option Chunk)
gives a [] = []
gives a (most ∷ mosts) = given_by a most ∷ gives (after_read a most) mosts

-- what they leave
abbrev pub left_after : Arrived → List ℕ → Arrived
left_after a [] = a
left_after a (most ∷ mosts) = left_after (after_read a most) mosts

-- ---- bytes that come twice

-- `123` came at offset 0, and `234` at offset 1
abbrev pub twice_come : Arrived
twice_come = after_insert (after_insert nothing_arrived 0 (codes "123")) 1 (codes "234")

-- ---- gaps

-- `34` came at offset 2
abbrev pub gap_come : Arrived
gap_come = after_insert nothing_arrived 2 (codes "34")

-- five bytes came from offset 0 on
abbrev pub gap_filled : Arrived
gap_filled = after_insert gap_come 0 (codes "xxxxx")

-- ---- reads in no order

-- `56` came at offset 4, and reads are in no order from now on
abbrev pub begun_unordered : Arrived
begun_unordered = after_ordering (after_insert nothing_arrived 4 (codes "56")) false

-- the first of the two bytes was read
abbrev pub picked_first : Arrived
picked_first = after_read begun_unordered 1

-- seven bytes came from offset 0 on
abbrev pub picked_filled : Arrived
picked_filled = after_insert picked_first 0 (codes "1234xxz")

-- ---- bytes that are dropped

-- `abcd` came at offset 0 and `gh` at 6, two bytes were read, and what waited was dropped
abbrev pub half_cleared : Arrived
half_cleared = record (after_read (after_insert (after_insert nothing_arrived 0 (codes "abcd")) 6 (codes "gh")) 2) { parts = [] }

-- four bytes came from offset 0 on
abbrev pub come_again : Arrived
come_again = after_insert half_cleared 0 (codes "wxyz")

-- ---- many runs

-- one byte at each of so many odd offsets, from the one behind an even one on
abbrev pub bytes_apart : ℕ → ℕ → List Part
bytes_apart at zero = []
bytes_apart at (suc n) = (at + 2, 0x61 ∷ []) ∷ bytes_apart (at + 2) n

-- these came
abbrev pub runs_apart : ℕ → Arrived
runs_apart n = record nothing_arrived { parts = bytes_apart 0 n }

-- and then one more behind them
abbrev pub one_more_apart : ℕ → Arrived
one_more_apart n = after_insert (runs_apart n) (2 * n + 1) (0x61 ∷ [])

-- so many came one behind another
abbrev pub come_apart : ℕ → Arrived
come_apart zero = nothing_arrived
come_apart (suc n) = after_insert (come_apart n) (2 * n + 1) (0x61 ∷ [])

-- the chunks of such bytes
abbrev pub chunks_apart : ℕ → ℕ → List (Option Chunk)
chunks_apart at zero = []
chunks_apart at (suc n) = chunk (at + 1) (0x61 ∷ []) ∷ chunks_apart (at + 2) n

-- forty of them, which are read in no order
abbrev pub forty_apart : Arrived
forty_apart = after_ordering (come_apart 40) false
