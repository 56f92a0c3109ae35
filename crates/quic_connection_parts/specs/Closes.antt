-- The close of an end, as its code keeps it (RFC 9000, section 19.19).
use Rattle.std.specs.Prelude.{[]}
use Rattle.quic_wire.specs.Value.{FrameValue, connection_close, application_close}
use Rattle.quic_connection_parts.specs.declared.closing.OwnClose.{OwnClose}
use Rattle.quic_connection_parts.specs.declared.closing.OwnClose.TheVariants.{Transport, Application}

-- its frame, with the whole text
abbrev pub close_frame : OwnClose → FrameValue
close_frame (Transport code) = connection_close (record { code = code; frame_type = 0; reason = [] })
close_frame (Application code text) = application_close (record { code = code; reason = text })
