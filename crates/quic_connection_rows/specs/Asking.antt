-- A client that asks its peer to acknowledge after more than four packets, after a delay, and where
-- one is three numbers below the greatest (QUIC Acknowledgement Frequency, section 4), computed
-- step by step.
use Rattle.std.specs.Prelude.{ℕ, true, false, List, [], ◌∷◌, ◌++◌, Some, None}
use Rattle.quic_wire_core.specs.declared.stream_id.Side.TheVariants.{Client}
use Rattle.quic_config.specs.Configs.{FrequencySettings}
use Rattle.quic_config.specs.Transport.{Settings, parameters_of}
use Rattle.quic_machine.specs.Arrival.{arriving}
use Rattle.quic_machine.specs.Calls.{end_after_ping}
use Rattle.quic_machine.specs.End.{End, new_end}
use Rattle.quic_machine.specs.Receive.{received}
use Rattle.quic_machine.specs.Timeouts.{timed_out}
use Rattle.quic_worked.specs.Settings.{plain_settings}
use Rattle.quic_worked.specs.Worked.{worked_policies, steady, client_id, server_id, client_gives}
use Rattle.quic_worked.specs.Acknowledged.{from_server, client_acked, third_acked, pinged}
use Rattle.quic_worked.specs.Asking.{asked_settings}

-- the client's settings, with so many nanoseconds of delay
abbrev pub asking_settings : ℕ → Settings
asking_settings delay = record plain_settings { ack_frequency_config = Some (record { threshold = 4; max_delay = Some delay; reordering = 3 }) }

-- the client, whose peer has these settings
abbrev pub asking_of : Settings → ℕ → End
asking_of peer delay = new_end Client (asking_settings delay) steady (parameters_of peer) client_id server_id 0 0 true (λ n. 63)

-- the client, whose peer told that it can be asked, for a millisecond at least
abbrev pub asking_client : ℕ → End
asking_client delay = asking_of asked_settings delay

-- ACK_FREQUENCY of a number, with a delay that is written so
abbrev pub request : ℕ → List ℕ → List ℕ
request number delay = 0x40 ∷ 0xaf ∷ number ∷ 0x04 ∷ delay ++ 0x03 ∷ []

-- 10000 microseconds, as a variable-length integer (RFC 9000, section 16)
abbrev pub ten_millis : List ℕ
ten_millis = 0x67 ∷ 0x10 ∷ []

-- 100000 microseconds
abbrev pub hundred_millis : List ℕ
hundred_millis = 0x80 ∷ 0x01 ∷ 0x86 ∷ 0xa0 ∷ []

-- 50000 microseconds
abbrev pub fifty_millis : List ℕ
fifty_millis = 0x80 ∷ 0x00 ∷ 0xc3 ∷ 0x50 ∷ []

-- what the client makes at a moment of the server's datagram of a number, which acknowledges
-- another number alone, held back for so many times eight microseconds, as that is written
abbrev pub hears : ℕ → ℕ → ℕ → List ℕ → End → End
hears now number acked held e = (received worked_policies.client e (arriving now 0 None false) (from_server number (0x02 ∷ acked ∷ held ++ 0x00 ∷ 0x00 ∷ []))).end

-- the same at once
abbrev pub acknowledged : ℕ → ℕ → ℕ → End → End
acknowledged now number acked e = hears now number acked (0x00 ∷ []) e

-- ---- its request is lost

-- its first datagram went
unfoldable pub first_asked : ℕ → End
unfolding client_acked
first_asked delay = (client_gives (asking_client delay) 0).end

-- so did three with PING
unfoldable pub thrice_pinged : End
unfolding first_asked
thrice_pinged = pinged (pinged (pinged (first_asked 10000000)))

-- and the last of these is acknowledged
unfoldable pub request_lost : End
unfolding thrice_pinged
request_lost = acknowledged 0 0 3 thrice_pinged

-- ---- the delay follows the round trip

-- the request for 100 ms is acknowledged behind a round trip
unfoldable pub once_measured : ℕ → End
unfolding first_asked
once_measured round_trip = acknowledged round_trip 0 0 (first_asked 100000000)

-- PING waits
abbrev pub ping_waits : ℕ → End
ping_waits round_trip = end_after_ping (once_measured round_trip)

-- it went, and the request for another delay with it
unfoldable pub asked_anew : End
unfolding once_measured
asked_anew = (client_gives (ping_waits 50000000) 50000000).end

-- that is acknowledged 50 ms later
unfoldable pub anew_acknowledged : End
unfolding asked_anew
anew_acknowledged = acknowledged 100000000 1 1 asked_anew

-- or 150 ms later, of which the peer says that it held the acknowledgement back for 80 ms
unfoldable pub anew_held : End
unfolding asked_anew
anew_held = hears 200000000 1 1 (0x67 ∷ 0x10 ∷ []) asked_anew

-- ---- probes

-- nothing was acknowledged for a probe timeout
abbrev pub asking_late : End
asking_late = (timed_out worked_policies.client (first_asked 10000000) 1024000000).end

-- the first probe went
unfoldable pub once_probed : End
unfolding first_asked
once_probed = (client_gives asking_late 1024000000).end

-- and the second
unfoldable pub twice_probed : End
unfolding once_probed
twice_probed = (client_gives once_probed 1024000000).end
