-- One value for each direction: of two-way streams, and of one-way streams (RFC 9000, section 2.1).
use Rattle.std.specs.Prelude.{ℕ, ◌+◌, Bool, true, false, ◌==◌}
use Rattle.quic_wire_core.specs.declared.stream_id.Side.{Side}
use Rattle.quic_wire_core.specs.declared.stream_id.Dir.{Dir}
use Rattle.quic_wire_core.specs.declared.stream_id.Dir.TheVariants.{Bi, Uni}
use Rattle.quic_wire_core.specs.StreamId.{initiator_of, side_bit}
use Rattle.quic_streams_parts.specs.declared.by_dir.ByDir.{ByDir}

-- how many streams of each direction
abbrev pub Counts : Type 0
Counts = ByDir ℕ

-- whether something is so of the streams of each direction
abbrev pub Flags : Type 0
Flags = ByDir Bool

-- the value of a direction
abbrev pub of : {A : Type 0} → Dir → ByDir A → A
of Bi c = c.bi
of Uni c = c.uni

-- with another value of a direction
abbrev pub with_of : {A : Type 0} → Dir → A → ByDir A → ByDir A
with_of Bi a c = record c { bi = a }
with_of Uni a c = record c { uni = a }

-- one more of a direction
abbrev pub more : Dir → Counts → Counts
more dir c = with_of dir (of dir c + 1) c

-- none of either
abbrev pub no_count : Counts
no_count = record { bi = 0; uni = 0 }

-- so of neither
abbrev pub no_flag : Flags
no_flag = record { bi = false; uni = false }

-- ---- what an id says at one end

-- whether the stream runs two ways
abbrev pub is_two_way : Dir → Bool
is_two_way Bi = true
is_two_way Uni = false

-- whether this end opens the stream
abbrev pub is_own : Side → ℕ → Bool
is_own side id = side_bit (initiator_of id) == side_bit side
