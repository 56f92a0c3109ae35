-- What is true of the fields of an assembler, and of its parts.
use Rattle.std.specs.Prelude.{◌≡◌, ◌+◌}
use Rattle.quic_assembler.specs.Arrived.{Arrived, AreApart, IsLawful, HaveArrived, runs_of, waiting_bytes}
use Rattle.quic_sets.specs.Spans.{width_of}
use Rattle.quic_assembler.specs.declared.assembler.Assembler.TheInside as assembler
use Rattle.quic_assembler.specs.declared.assembler.parts.Parts.TheInside as parts

-- the parts lie apart, and their runs and their bytes are counted
pub record Counted (a : parts.Inside) : Type 0 where
  pub apart : AreApart 0 a.map
  pub counted : a.runs ≡ runs_of a.map
  pub bytes : a.bytes ≡ waiting_bytes a.map

-- what is seen of an assembler
abbrev pub seen_of : assembler.Inside → Arrived
seen_of a = record { read = a.read; unordered = a.unordered; picked = a.picked.entries; parts = a.parts }

-- what waits and what was given are lawful, the offsets that are known to have arrived were given
-- or wait, and the bytes that were read are counted
pub record Arranged (a : assembler.Inside) : Type 0 where
  pub lawful : IsLawful (seen_of a)
  pub known : HaveArrived a.arrived (seen_of a)
  pub total : a.total ≡ a.read + width_of a.picked.entries
