-- Transport parameters, and the bytes that spell them (RFC 9000, sections 7.4 and 18; RFC 9221,
-- section 3; QUIC Acknowledgement Frequency).
use Rattle.std.specs.Prelude.{◌≡◌, ℕ, ◌-◌, ◌*◌, ◌^◌, ◌≤◌, List, [], ◌∷◌, ◌++◌, length, ◌==◌, ◌⊎◌, if◌then◌else◌, min, Option, Some, None, unwrap_or}
use Rattle.quic_wire_core.specs.Varint.{Spells}
use Rattle.quic_parameters.specs.declared.transport_parameters.id.TransportParameterId.{TransportParameterId}
use Rattle.quic_parameters.specs.declared.transport_parameters.id.TransportParameterId.TheVariants.{MaxIdleTimeout, MaxUdpPayloadSize, InitialMaxData, InitialMaxStreamDataBidiLocal, InitialMaxStreamDataBidiRemote, InitialMaxStreamDataUni, InitialMaxStreamsBidi, InitialMaxStreamsUni, AckDelayExponent, MaxAckDelay, ActiveConnectionIdLimit, MaxDatagramFrameSize, MinAckDelay}

-- The values of the parameters (RFC 9000, section 18.2). The least delay of an ACK has no default:
-- it is none where the list has none.
pub record ParameterValues : Type 0 where
  pub max_idle_timeout : ℕ
  pub max_udp_payload_size : ℕ
  pub initial_max_data : ℕ
  pub initial_max_stream_data_bidi_local : ℕ
  pub initial_max_stream_data_bidi_remote : ℕ
  pub initial_max_stream_data_uni : ℕ
  pub initial_max_streams_bidi : ℕ
  pub initial_max_streams_uni : ℕ
  pub ack_delay_exponent : ℕ
  pub max_ack_delay : ℕ
  pub active_connection_id_limit : ℕ
  pub max_datagram_frame_size : ℕ
  pub min_ack_delay : Option ℕ

-- ---- the parameters, a line for each

-- The id that stands before a parameter's value (RFC 9000, section 18.2).
abbrev pub id_of : TransportParameterId → ℕ
id_of MaxIdleTimeout = 0x01
id_of MaxUdpPayloadSize = 0x03
id_of InitialMaxData = 0x04
id_of InitialMaxStreamDataBidiLocal = 0x05
id_of InitialMaxStreamDataBidiRemote = 0x06
id_of InitialMaxStreamDataUni = 0x07
id_of InitialMaxStreamsBidi = 0x08
id_of InitialMaxStreamsUni = 0x09
id_of AckDelayExponent = 0x0a
id_of MaxAckDelay = 0x0b
id_of ActiveConnectionIdLimit = 0x0e
id_of MaxDatagramFrameSize = 0x20
id_of MinAckDelay = 0xff04de1b

-- A parameter's place among the ids, counted from 0.
abbrev pub place_of : TransportParameterId → ℕ
place_of MaxIdleTimeout = 0
place_of MaxUdpPayloadSize = 1
place_of InitialMaxData = 2
place_of InitialMaxStreamDataBidiLocal = 3
place_of InitialMaxStreamDataBidiRemote = 4
place_of InitialMaxStreamDataUni = 5
place_of InitialMaxStreamsBidi = 6
place_of InitialMaxStreamsUni = 7
place_of AckDelayExponent = 8
place_of MaxAckDelay = 9
place_of ActiveConnectionIdLimit = 10
place_of MaxDatagramFrameSize = 11
place_of MinAckDelay = 12

-- The value of a parameter that stands nowhere in the list (RFC 9000, section 18.2).
abbrev pub default_of : TransportParameterId → Option ℕ
default_of MaxIdleTimeout = Some 0
default_of MaxUdpPayloadSize = Some 65527
default_of InitialMaxData = Some 0
default_of InitialMaxStreamDataBidiLocal = Some 0
default_of InitialMaxStreamDataBidiRemote = Some 0
default_of InitialMaxStreamDataUni = Some 0
default_of InitialMaxStreamsBidi = Some 0
default_of InitialMaxStreamsUni = Some 0
default_of AckDelayExponent = Some 3
default_of MaxAckDelay = Some 25
default_of ActiveConnectionIdLimit = Some 2
default_of MaxDatagramFrameSize = Some 0
default_of MinAckDelay = None

-- The least value of a parameter: UDP payloads of 1200 bytes have to be taken, and two connection
-- ids kept (RFC 9000, section 18.2).
abbrev pub least_of : TransportParameterId → ℕ
least_of MaxIdleTimeout = 0
least_of MaxUdpPayloadSize = 1200
least_of InitialMaxData = 0
least_of InitialMaxStreamDataBidiLocal = 0
least_of InitialMaxStreamDataBidiRemote = 0
least_of InitialMaxStreamDataUni = 0
least_of InitialMaxStreamsBidi = 0
least_of InitialMaxStreamsUni = 0
least_of AckDelayExponent = 0
least_of MaxAckDelay = 0
least_of ActiveConnectionIdLimit = 2
least_of MaxDatagramFrameSize = 0
least_of MinAckDelay = 0

-- The greatest value of a parameter: 65527 bytes are the most in a UDP payload, a count of streams
-- is at most 2 ^ 60, an exponent 20, a delay below 2 ^ 14 ms (RFC 9000, sections 4.6 and 18.2), and
-- another what an integer spells.
abbrev pub most_of : TransportParameterId → ℕ
most_of MaxIdleTimeout = 2 ^ 62 - 1
most_of MaxUdpPayloadSize = 65527
most_of InitialMaxData = 2 ^ 62 - 1
most_of InitialMaxStreamDataBidiLocal = 2 ^ 62 - 1
most_of InitialMaxStreamDataBidiRemote = 2 ^ 62 - 1
most_of InitialMaxStreamDataUni = 2 ^ 62 - 1
most_of InitialMaxStreamsBidi = 2 ^ 60
most_of InitialMaxStreamsUni = 2 ^ 60
most_of AckDelayExponent = 20
most_of MaxAckDelay = 2 ^ 14 - 1
most_of ActiveConnectionIdLimit = 2 ^ 62 - 1
most_of MaxDatagramFrameSize = 2 ^ 62 - 1
most_of MinAckDelay = 2 ^ 62 - 1

-- The value that a number in the list stands for: no UDP payload is longer than 65527 bytes (RFC
-- 9000, section 18.2).
abbrev pub counted : TransportParameterId → ℕ → ℕ
counted MaxIdleTimeout n = n
counted MaxUdpPayloadSize n = min n 65527
counted InitialMaxData n = n
counted InitialMaxStreamDataBidiLocal n = n
counted InitialMaxStreamDataBidiRemote n = n
counted InitialMaxStreamDataUni n = n
counted InitialMaxStreamsBidi n = n
counted InitialMaxStreamsUni n = n
counted AckDelayExponent n = n
counted MaxAckDelay n = n
counted ActiveConnectionIdLimit n = n
counted MaxDatagramFrameSize n = n
counted MinAckDelay n = n

-- The value of one parameter.
abbrev pub value_of : ParameterValues → TransportParameterId → Option ℕ
value_of p MaxIdleTimeout = Some p.max_idle_timeout
value_of p MaxUdpPayloadSize = Some p.max_udp_payload_size
value_of p InitialMaxData = Some p.initial_max_data
value_of p InitialMaxStreamDataBidiLocal = Some p.initial_max_stream_data_bidi_local
value_of p InitialMaxStreamDataBidiRemote = Some p.initial_max_stream_data_bidi_remote
value_of p InitialMaxStreamDataUni = Some p.initial_max_stream_data_uni
value_of p InitialMaxStreamsBidi = Some p.initial_max_streams_bidi
value_of p InitialMaxStreamsUni = Some p.initial_max_streams_uni
value_of p AckDelayExponent = Some p.ack_delay_exponent
value_of p MaxAckDelay = Some p.max_ack_delay
value_of p ActiveConnectionIdLimit = Some p.active_connection_id_limit
value_of p MaxDatagramFrameSize = Some p.max_datagram_frame_size
value_of p MinAckDelay = p.min_ack_delay

-- The number of a parameter that has a default, and so is never none.
abbrev pub number : Option ℕ → ℕ
number o = unwrap_or o 0

-- The values that a function gives to the parameters.
abbrev pub values_by : (TransportParameterId → Option ℕ) → ParameterValues
values_by f = record {
  max_idle_timeout = number (f MaxIdleTimeout);
  max_udp_payload_size = number (f MaxUdpPayloadSize);
  initial_max_data = number (f InitialMaxData);
  initial_max_stream_data_bidi_local = number (f InitialMaxStreamDataBidiLocal);
  initial_max_stream_data_bidi_remote = number (f InitialMaxStreamDataBidiRemote);
  initial_max_stream_data_uni = number (f InitialMaxStreamDataUni);
  initial_max_streams_bidi = number (f InitialMaxStreamsBidi);
  initial_max_streams_uni = number (f InitialMaxStreamsUni);
  ack_delay_exponent = number (f AckDelayExponent);
  max_ack_delay = number (f MaxAckDelay);
  active_connection_id_limit = number (f ActiveConnectionIdLimit);
  max_datagram_frame_size = number (f MaxDatagramFrameSize);
  min_ack_delay = f MinAckDelay;
}

-- ---- the list

-- A value that may stand in a list, alone (RFC 9000, section 18.2).
abbrev pub IsInRange : TransportParameterId → Option ℕ → Type 0
IsInRange k None = Unit {0}
IsInRange k (Some v) = (least_of k ≤ v) × (v ≤ most_of k)

-- The least delay of an ACK, in microseconds, is no longer than the greatest, in milliseconds (QUIC
-- Acknowledgement Frequency, section 3).
abbrev pub IsNoLonger : Option ℕ → ℕ → Type 0
IsNoLonger None ms = Unit {0}
IsNoLonger (Some us) ms = us ≤ 1000 * ms

-- The values may stand in a list together (RFC 9000, section 18.2).
pub record AreInRange (p : ParameterValues) : Type 0 where
  pub each : (k : TransportParameterId) → IsInRange k (value_of p k)
  pub delays : IsNoLonger p.min_ack_delay p.max_ack_delay

-- The bytes are one entry: an id and the length of its value, each in any of its forms, and the
-- value's bytes (RFC 9000, section 18, figure 21).
abbrev pub EntrySpells : ℕ × List ℕ → List ℕ → Type 0
EntrySpells e bytes = (x : List ℕ) × (y : List ℕ) × Spells e.0 x × Spells (length e.1) y × (bytes ≡ x ++ (y ++ e.1))

-- The bytes are these entries, one after another (RFC 9000, section 18, figure 20).
abbrev pub EntriesSpell : List (ℕ × List ℕ) → List ℕ → Type 0
EntriesSpell [] bytes = bytes ≡ []
EntriesSpell (e ∷ es) bytes = (x : List ℕ) × (y : List ℕ) × EntrySpells e x × EntriesSpell es y × (bytes ≡ x ++ y)

-- The values that stand at an id, in the order of the list.
abbrev pub standing : ℕ → List (ℕ × List ℕ) → List (List ℕ)
standing id [] = []
standing id (e ∷ es) = if e.0 == id then e.1 ∷ standing id es else standing id es

-- The bytes spell a number that stands for this value of the parameter.
abbrev pub SpellsValue : TransportParameterId → Option ℕ → List ℕ → Type 0
SpellsValue k v bytes = (n : ℕ) × Spells n bytes × (v ≡ Some (counted k n))

-- The list gives a parameter this value: its id stands nowhere and it is the default, or stands
-- once, and its bytes are a form of a number that stands for it.
abbrev pub Says : List (ℕ × List ℕ) → TransportParameterId → Option ℕ → Type 0
Says es k v = ((standing (id_of k) es ≡ []) × (v ≡ default_of k)) ⊎ ((x : List ℕ) × (standing (id_of k) es ≡ x ∷ []) × SpellsValue k v x)

-- The bytes spell these values: a list of entries that gives each parameter its value. What stands
-- at another id is free (RFC 9000, section 7.4.2).
pub record ParametersSpell (p : ParameterValues) (bytes : List ℕ) : Type 0 where
  pub entries : List (ℕ × List ℕ)
  pub spelled : EntriesSpell entries bytes
  pub says : (k : TransportParameterId) → Says entries k (value_of p k)
