-- What the peer is told of settings is in range.
use Rattle.std.proofs.Common.{ℕ, ◌-◌, ◌≤◌, ◌<◌, ◌^◌, Bool, true, false, Option, Some, None, arith}
use Rattle.quic_parameters.specs.declared.transport_parameters.id.TransportParameterId.{TransportParameterId}
use Rattle.quic_parameters.specs.declared.transport_parameters.id.TransportParameterId.TheVariants.{MaxIdleTimeout, MaxUdpPayloadSize, InitialMaxData, InitialMaxStreamDataBidiLocal, InitialMaxStreamDataBidiRemote, InitialMaxStreamDataUni, InitialMaxStreamsBidi, InitialMaxStreamsUni, AckDelayExponent, MaxAckDelay, ActiveConnectionIdLimit, MaxDatagramFrameSize, MinAckDelay}
use Rattle.std.specs.Prelude.{if◌then◌else◌}
use Rattle.quic_parameters.specs.Parameters.{value_of, IsInRange, IsNoLonger, AreInRange}
use Rattle.quic_config.specs.Transport.{TransportSettings, settings_with, told_timeout, told_frame_size, parameters_of}

-- a size that is told has a form
told_fits : (size : Option ℕ) → told_frame_size size ≤ 2 ^ 62 - 1
told_fits None = omega arith
told_fits (Some n) = omega arith

each : (t : TransportSettings) → told_timeout t.max_idle_timeout < 2 ^ 62 → t.receive_window < 2 ^ 62 → t.stream_receive_window < 2 ^ 62 → t.max_bidi ≤ 2 ^ 60 → t.max_uni ≤ 2 ^ 60
    → (k : TransportParameterId) → IsInRange k (value_of (parameters_of (settings_with t true)) k)
each t idle all stream bidi uni MaxIdleTimeout = (omega arith, omega arith)
each t idle all stream bidi uni MaxUdpPayloadSize = (omega arith, omega arith)
each t idle all stream bidi uni InitialMaxData = (omega arith, omega arith)
each t idle all stream bidi uni InitialMaxStreamDataBidiLocal = (omega arith, omega arith)
each t idle all stream bidi uni InitialMaxStreamDataBidiRemote = (omega arith, omega arith)
each t idle all stream bidi uni InitialMaxStreamDataUni = (omega arith, omega arith)
each t idle all stream bidi uni InitialMaxStreamsBidi = (omega arith, bidi)
each t idle all stream bidi uni InitialMaxStreamsUni = (omega arith, uni)
each t idle all stream bidi uni AckDelayExponent = (omega arith, omega arith)
each t idle all stream bidi uni MaxAckDelay = (omega arith, omega arith)
each t idle all stream bidi uni ActiveConnectionIdLimit = (omega arith, omega arith)
each t idle all stream bidi uni MaxDatagramFrameSize = (omega arith, told_fits t.datagram_receive_buffer_size)
each t idle all stream bidi uni MinAckDelay = (omega arith, omega arith)

-- What a transport tells is in range.
pub in_range : (t : TransportSettings) → told_timeout t.max_idle_timeout < 2 ^ 62 → t.receive_window < 2 ^ 62 → t.stream_receive_window < 2 ^ 62 → t.max_bidi ≤ 2 ^ 60 → t.max_uni ≤ 2 ^ 60
    → AreInRange (parameters_of (settings_with t true))
in_range t idle all stream bidi uni = record { each = each t idle all stream bidi uni; delays = omega arith }

each_with : (t : TransportSettings) (support : Bool) → AreInRange (parameters_of (settings_with t true)) → (k : TransportParameterId) → IsInRange k (value_of (parameters_of (settings_with t support)) k)
each_with t support range MaxIdleTimeout = range.each MaxIdleTimeout
each_with t support range MaxUdpPayloadSize = range.each MaxUdpPayloadSize
each_with t support range InitialMaxData = range.each InitialMaxData
each_with t support range InitialMaxStreamDataBidiLocal = range.each InitialMaxStreamDataBidiLocal
each_with t support range InitialMaxStreamDataBidiRemote = range.each InitialMaxStreamDataBidiRemote
each_with t support range InitialMaxStreamDataUni = range.each InitialMaxStreamDataUni
each_with t support range InitialMaxStreamsBidi = range.each InitialMaxStreamsBidi
each_with t support range InitialMaxStreamsUni = range.each InitialMaxStreamsUni
each_with t support range AckDelayExponent = range.each AckDelayExponent
each_with t support range MaxAckDelay = range.each MaxAckDelay
each_with t support range ActiveConnectionIdLimit = range.each ActiveConnectionIdLimit
each_with t support range MaxDatagramFrameSize = range.each MaxDatagramFrameSize
each_with t true range MinAckDelay = range.each MinAckDelay
each_with t false range MinAckDelay = tt

delays_with : (support : Bool) → IsNoLonger (if support then Some 1000 else None) 25
delays_with true = omega arith
delays_with false = tt

-- So is what a transport tells of an end that can be asked when to acknowledge, or can't.
pub in_range_with : (t : TransportSettings) (support : Bool) → AreInRange (parameters_of (settings_with t true)) → AreInRange (parameters_of (settings_with t support))
in_range_with t support range = record { each = each_with t support range; delays = delays_with support }
