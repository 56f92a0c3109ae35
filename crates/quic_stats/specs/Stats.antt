-- What statistics count.
use Rattle.std.specs.Prelude.{ℕ, ◌+◌, ◌-◌, ◌^◌, min, if◌then◌else◌}
use Rattle.quic_wire.specs.Value.{FrameValue}
use Rattle.quic_wire.specs.Value as frames
use Rattle.quic_stats.specs.declared.connection.ConnectionStats.{ConnectionStats}
use Rattle.quic_stats.specs.declared.drops.DropStats.{DropStats}
use Rattle.quic_stats.specs.declared.frames.FrameStats.{FrameStats}
use Rattle.quic_stats.specs.declared.path.PathStats.{PathStats}
use Rattle.quic_stats.specs.declared.udp.UdpStats.{UdpStats}

-- more, up to the greatest number of 64 bits
abbrev pub raised : ℕ → ℕ → ℕ
raised n more = min (n + more) (2 ^ 64 - 1)

-- one more
abbrev pub counted : ℕ → ℕ
counted n = raised n 1

-- ---- at first

-- no datagram was counted
abbrev pub no_datagrams : UdpStats
no_datagrams = record { datagrams = 0; bytes = 0; ios = 0 }

-- no frame was counted
abbrev pub no_frames : FrameStats
no_frames = record { acks = 0; ack_frequency = 0; crypto = 0; connection_close = 0; data_blocked = 0; datagram = 0; handshake_done = 0; immediate_ack = 0; max_data = 0; max_stream_data = 0; max_streams_bidi = 0; max_streams_uni = 0; new_connection_id = 0; new_token = 0; path_challenge = 0; path_response = 0; ping = 0; reset_stream = 0; retire_connection_id = 0; stream_data_blocked = 0; streams_blocked_bidi = 0; streams_blocked_uni = 0; stop_sending = 0; stream = 0 }

-- nothing is known of the path
abbrev pub no_path : PathStats
no_path = record { rtt = 0; min_rtt = 0; cwnd = 0; congestion_events = 0; lost_packets = 0; lost_bytes = 0; sent_packets = 0; sent_plpmtud_probes = 0; lost_plpmtud_probes = 0; black_holes_detected = 0; current_mtu = 0 }

-- no datagram that was dropped was counted
abbrev pub no_drops : DropStats
no_drops = record { too_short = 0; not_short = 0; fixed_bit = 0; unknown_id = 0; not_opened = 0; key_phase = 0; duplicate = 0; closing = 0; drained = 0; failed = 0 }

-- nothing was counted at all
abbrev pub no_stats : ConnectionStats
no_stats = record { udp_tx = no_datagrams; udp_rx = no_datagrams; frame_tx = no_frames; frame_rx = no_frames; path = no_path; dropped = no_drops }

-- ---- what counts

-- a datagram of so many bytes
abbrev pub after_datagram : ℕ → UdpStats → UdpStats
after_datagram bytes s = record { datagrams = counted s.datagrams; bytes = raised s.bytes bytes; ios = counted s.ios }

-- a frame
abbrev pub after_frame : FrameValue → FrameStats → FrameStats
after_frame frames.padding s = s
after_frame frames.ping s = record s { ping = counted s.ping }
after_frame (frames.ack a) s = record s { acks = counted s.acks }
after_frame (frames.reset_stream r) s = record s { reset_stream = counted s.reset_stream }
after_frame (frames.stop_sending t) s = record s { stop_sending = counted s.stop_sending }
after_frame (frames.crypto c) s = record s { crypto = counted s.crypto }
after_frame (frames.new_token t) s = record s { new_token = counted s.new_token }
after_frame (frames.stream t) s = record s { stream = counted s.stream }
after_frame (frames.max_data n) s = record s { max_data = counted s.max_data }
after_frame (frames.max_stream_data m) s = record s { max_stream_data = counted s.max_stream_data }
after_frame (frames.max_streams m) s = if m.one_way then record s { max_streams_uni = counted s.max_streams_uni } else record s { max_streams_bidi = counted s.max_streams_bidi }
after_frame (frames.data_blocked n) s = record s { data_blocked = counted s.data_blocked }
after_frame (frames.stream_data_blocked b) s = record s { stream_data_blocked = counted s.stream_data_blocked }
after_frame (frames.streams_blocked b) s = if b.one_way then record s { streams_blocked_uni = counted s.streams_blocked_uni } else record s { streams_blocked_bidi = counted s.streams_blocked_bidi }
after_frame (frames.new_connection_id n) s = record s { new_connection_id = counted s.new_connection_id }
after_frame (frames.retire_connection_id n) s = record s { retire_connection_id = counted s.retire_connection_id }
after_frame (frames.path_challenge d) s = record s { path_challenge = counted s.path_challenge }
after_frame (frames.path_response d) s = record s { path_response = counted s.path_response }
after_frame (frames.connection_close c) s = record s { connection_close = counted s.connection_close }
after_frame (frames.application_close c) s = record s { connection_close = counted s.connection_close }
after_frame frames.handshake_done s = record s { handshake_done = min (s.handshake_done + 1) 255 }
after_frame frames.immediate_ack s = record s { immediate_ack = counted s.immediate_ack }
after_frame (frames.datagram d) s = record s { datagram = counted s.datagram }
after_frame (frames.ack_frequency a) s = record s { ack_frequency = counted s.ack_frequency }
