-- The settings of an end's transport, and what its peer is told of them.
use Rattle.std.specs.Prelude.{ℕ, ◌/◌, ◌^◌, ◌<◌, ◌≤◌, Bool, true, false, min, max, Option, Some, None, IfSome, option_map, if◌then◌else◌}
use Rattle.quic_parameters.specs.Parameters.{ParameterValues}
use Rattle.quic_time.specs.Rtt.{Rtt, assumed_rtt, told_rtt}
use Rattle.quic_config.specs.declared.first_sample.FirstSample.{FirstSample}
use Rattle.quic_config.specs.Configs.{SearchSettings, FrequencySettings, default_search, max_udp_payload, ids_kept}

-- the whole milliseconds of a time in nanoseconds
abbrev pub millis_of : ℕ → ℕ
millis_of nanos = nanos / 1000000

-- what an end offers its peer (RFC 9000, section 4), how much it buffers, and how it sends. Times
-- are in nanoseconds, but for the idle timeout
pub record TransportSettings : Type 0 where
  -- bytes in all streams that the peer may send before any is read
  pub receive_window : ℕ
  -- bytes on one stream that the peer may send before any is read
  pub stream_receive_window : ℕ
  -- bytes that may wait for acknowledgement
  pub send_window : ℕ
  -- streams of each kind that the peer may open
  pub max_bidi : ℕ
  pub max_uni : ℕ
  -- milliseconds without a packet after which the end drops the connection, where it does
  pub max_idle_timeout : Option ℕ
  -- bytes of messages that may wait unread, where messages are taken
  pub datagram_receive_buffer_size : Option ℕ
  -- bytes of messages that may wait to be sent
  pub datagram_send_buffer_size : ℕ
  -- whether streams of one priority take turns
  pub send_fairness : Bool
  -- how far below an acknowledged number a packet is lost
  pub packet_threshold : ℕ
  -- after what part of a round trip a packet is lost: numerator and denominator
  pub time_threshold : ℕ × ℕ
  -- the round trip before one is measured, and one that was measured before the connection begins,
  -- where one was
  pub initial_rtt : ℕ
  pub first_sample : Option FirstSample
  -- bytes of a datagram at first, and those that each path carries
  pub initial_mtu : ℕ
  pub min_mtu : ℕ
  -- how a greater size is looked for, where it is
  pub mtu_discovery_config : Option SearchSettings
  -- whether datagrams are filled up to their size
  pub pad_to_mtu : Bool
  -- how the peer is asked to acknowledge, where it is
  pub ack_frequency_config : Option FrequencySettings
  -- how many probe timeouts of losses are persistent congestion
  pub persistent_congestion_threshold : ℕ
  -- after what time without a packet one is sent, where it is
  pub keep_alive_interval : Option ℕ

-- the counts of streams that the peer may open, the denominator of the time threshold, and both
-- sizes keep their bounds (RFC 9000, sections 4.6 and 14)
pub record AreInBounds (max_bidi max_uni denominator initial_mtu min_mtu : ℕ) : Type 0 where
  pub bidi : max_bidi ≤ 2 ^ 60
  pub uni : max_uni ≤ 2 ^ 60
  pub divides : 0 < denominator
  pub initial : 1200 ≤ initial_mtu
  pub least : 1200 ≤ min_mtu

-- what holds of an end: the settings of its transport, and whether it can be asked when to
-- acknowledge
pub record Settings : Type 0 where
  pub receive_window : ℕ
  pub stream_receive_window : ℕ
  pub send_window : ℕ
  pub max_bidi : ℕ
  pub max_uni : ℕ
  pub max_idle_timeout : Option ℕ
  pub datagram_receive_buffer_size : Option ℕ
  pub datagram_send_buffer_size : ℕ
  pub send_fairness : Bool
  pub packet_threshold : ℕ
  pub time_threshold : ℕ × ℕ
  pub initial_rtt : ℕ
  pub first_sample : Option FirstSample
  pub initial_mtu : ℕ
  pub min_mtu : ℕ
  pub mtu_discovery_config : Option SearchSettings
  pub pad_to_mtu : Bool
  pub ack_frequency_config : Option FrequencySettings
  pub persistent_congestion_threshold : ℕ
  pub keep_alive_interval : Option ℕ
  pub ack_frequency_support : Bool

-- the settings of an end with this transport
abbrev pub settings_with : TransportSettings → Bool → Settings
settings_with t support = record {
  receive_window = t.receive_window;
  stream_receive_window = t.stream_receive_window;
  send_window = t.send_window;
  max_bidi = t.max_bidi;
  max_uni = t.max_uni;
  max_idle_timeout = t.max_idle_timeout;
  datagram_receive_buffer_size = t.datagram_receive_buffer_size;
  datagram_send_buffer_size = t.datagram_send_buffer_size;
  send_fairness = t.send_fairness;
  packet_threshold = t.packet_threshold;
  time_threshold = t.time_threshold;
  initial_rtt = t.initial_rtt;
  first_sample = t.first_sample;
  initial_mtu = t.initial_mtu;
  min_mtu = t.min_mtu;
  mtu_discovery_config = t.mtu_discovery_config;
  pad_to_mtu = t.pad_to_mtu;
  ack_frequency_config = t.ack_frequency_config;
  persistent_congestion_threshold = t.persistent_congestion_threshold;
  keep_alive_interval = t.keep_alive_interval;
  ack_frequency_support = support;
}

-- the settings of an end's transport
abbrev pub transport_of : Settings → TransportSettings
transport_of s = record {
  receive_window = s.receive_window;
  stream_receive_window = s.stream_receive_window;
  send_window = s.send_window;
  max_bidi = s.max_bidi;
  max_uni = s.max_uni;
  max_idle_timeout = s.max_idle_timeout;
  datagram_receive_buffer_size = s.datagram_receive_buffer_size;
  datagram_send_buffer_size = s.datagram_send_buffer_size;
  send_fairness = s.send_fairness;
  packet_threshold = s.packet_threshold;
  time_threshold = s.time_threshold;
  initial_rtt = s.initial_rtt;
  first_sample = s.first_sample;
  initial_mtu = s.initial_mtu;
  min_mtu = s.min_mtu;
  mtu_discovery_config = s.mtu_discovery_config;
  pad_to_mtu = s.pad_to_mtu;
  ack_frequency_config = s.ack_frequency_config;
  persistent_congestion_threshold = s.persistent_congestion_threshold;
  keep_alive_interval = s.keep_alive_interval;
}

-- what holds of a transport where nothing is set
abbrev pub default_transport : TransportSettings
default_transport = record {
  receive_window = 4611686018427387903;
  stream_receive_window = 1250000;
  send_window = 10000000;
  max_bidi = 100;
  max_uni = 100;
  max_idle_timeout = Some 30000;
  datagram_receive_buffer_size = Some 1250000;
  datagram_send_buffer_size = 1048576;
  send_fairness = true;
  packet_threshold = 3;
  time_threshold = (9, 8);
  initial_rtt = 333000000;
  first_sample = None;
  initial_mtu = 1200;
  min_mtu = 1200;
  mtu_discovery_config = Some default_search;
  pad_to_mtu = false;
  ack_frequency_config = None;
  persistent_congestion_threshold = 3;
  keep_alive_interval = None;
}

-- what holds where nothing is set
abbrev pub default_settings : Settings
default_settings = settings_with default_transport true

-- the size of a path's first datagrams: what is set for it, but no less than each path carries
abbrev pub first_mtu : TransportSettings → ℕ
first_mtu t = max t.initial_mtu t.min_mtu

-- what is known of the round trip of the path with which the connection begins (RFC 9002, section
-- 5): a sample that was taken before, or else it is assumed
abbrev pub estimate_with : Option FirstSample → ℕ → Rtt
estimate_with None initial = assumed_rtt initial
estimate_with (Some s) initial = told_rtt s.rtt s.variation

-- so it is by these settings
abbrev pub first_estimate : TransportSettings → Rtt
first_estimate t = estimate_with t.first_sample t.initial_rtt

-- which number was next as a round trip was first measured, where one was before the first packet
-- went (RFC 9002, section 7.6.2)
abbrev pub first_behind_sample : TransportSettings → Option ℕ
first_behind_sample t = option_map (λ s. 0) t.first_sample

-- what the peer is told of an idle timeout: 0 where there is none (RFC 9000, section 18.2)
abbrev pub told_timeout : Option ℕ → ℕ
told_timeout None = 0
told_timeout (Some ms) = ms

-- what the peer is told of the greatest DATAGRAM frame: 0 where none is taken, and at most 65535
-- bytes (RFC 9221, section 3)
abbrev pub told_frame_size : Option ℕ → ℕ
told_frame_size None = 0
told_frame_size (Some size) = min size 65535

-- what the peer is told of the settings (RFC 9000, section 18.2): every stream has the same window.
-- The rest is the same for every end: it takes UDP payloads of any size, shifts delays by 3 bits,
-- holds acknowledgements back for at most 25 ms and, where it can be asked when to acknowledge, for
-- 1000 microseconds at least, and keeps 8 ids
abbrev pub parameters_of : Settings → ParameterValues
parameters_of s = record {
  max_idle_timeout = told_timeout s.max_idle_timeout;
  max_udp_payload_size = max_udp_payload;
  initial_max_data = s.receive_window;
  initial_max_stream_data_bidi_local = s.stream_receive_window;
  initial_max_stream_data_bidi_remote = s.stream_receive_window;
  initial_max_stream_data_uni = s.stream_receive_window;
  initial_max_streams_bidi = s.max_bidi;
  initial_max_streams_uni = s.max_uni;
  ack_delay_exponent = 3;
  max_ack_delay = 25;
  active_connection_id_limit = ids_kept;
  max_datagram_frame_size = told_frame_size s.datagram_receive_buffer_size;
  min_ack_delay = if s.ack_frequency_support then Some 1000 else None;
}

-- the settings of an end as it can be configured: windows are variable-length integers, and the
-- others keep their bounds
pub record IsInRange (s : Settings) : Type 0 where
  pub receive_window : s.receive_window < 2 ^ 62
  pub stream_receive_window : s.stream_receive_window < 2 ^ 62
  pub bounds : AreInBounds s.max_bidi s.max_uni s.time_threshold.1 s.initial_mtu s.min_mtu
  -- a search goes in steps of two bytes at least
  pub search : IfSome s.mtu_discovery_config (λ search. 2 ≤ search.least_change)
