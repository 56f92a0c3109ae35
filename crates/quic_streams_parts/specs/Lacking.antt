-- Where memory may lack on a receiving part.
use Rattle.std.specs.Prelude.{◌≡◌, ℕ, ◌⊎◌, Bool, true, nat_lt, ◌&&◌, if◌then◌else◌}
use Rattle.quic_wire.specs.Value.{StreamValue}
use Rattle.quic_assembler.specs.Arrived.{Arrived, is_crowded, is_next_in, cuts}
use Rattle.quic_assembler.specs.Waiting.{BringsNew}

-- a frame's bytes may lack it: one of them is new, or the parts that wait have to be joined
abbrev pub FrameMayLack : Arrived → StreamValue → Type 0
FrameMayLack a f = BringsNew a f.offset f.bytes ⊎ (is_crowded a.parts ≡ true)

-- a read may lack it: one in order where it cuts a part, any other where a byte waits that is asked
-- for
abbrev pub read_may_lack : Arrived → ℕ → Bool
read_may_lack a most = if a.unordered then nat_lt 0 most && is_next_in true a else cuts a.parts a.read most
