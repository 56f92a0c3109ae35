-- What the reads of a stream have told.
use Rattle.std.specs.Prelude.{Bool, true, false}
use Rattle.quic_streams_state.specs.Reading as reading
use Rattle.quic_streams_handles.specs.declared.told.Told.{Told}
use Rattle.quic_streams_handles.specs.declared.told.Told.TheVariants.{Bytes, End, Reset}

-- the same in the words of reads
abbrev pub told_of : Told → reading.Told
told_of Bytes = reading.told_bytes
told_of End = reading.told_end
told_of (Reset code) = reading.told_reset code

-- whether more than bytes was told
abbrev pub is_over : reading.Told → Bool
is_over reading.told_bytes = false
is_over reading.told_end = true
is_over (reading.told_reset code) = true
