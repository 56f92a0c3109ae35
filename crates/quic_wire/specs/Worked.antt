-- Values whose bytes are worked out by hand: a STREAM frame, a short header, and the limits that an
-- end tells (RFC 9000, sections 17.3.1, 18.2 and 19.8).
use Rattle.std.specs.Prelude.{ℕ, true, List, [], ◌∷◌, ◌++◌, Some, None}
use Rattle.quic_sets.specs.Runs.{Run}
use Rattle.quic_wire.specs.Value.{AckValue, StreamValue}
use Rattle.quic_parameters.specs.Parameters.{ParameterValues}

-- stream 0 from its front: the five bytes of `hello`, and the end
abbrev pub hello_stream : StreamValue
hello_stream = record { id = 0; offset = 0; fin = true; bytes = 0x68 ∷ 0x65 ∷ 0x6c ∷ 0x6c ∷ 0x6f ∷ [] }

-- its form with a length
abbrev pub hello_sized : List ℕ
hello_sized = 0x0b ∷ 0x00 ∷ 0x05 ∷ 0x68 ∷ 0x65 ∷ 0x6c ∷ 0x6c ∷ 0x6f ∷ []

-- its form to the end of the payload
abbrev pub hello_unsized : List ℕ
hello_unsized = 0x09 ∷ 0x00 ∷ 0x68 ∷ 0x65 ∷ 0x6c ∷ 0x6c ∷ 0x6f ∷ []

-- an id of eight bytes
abbrev pub eight_bytes : List ℕ
eight_bytes = 1 ∷ 2 ∷ 3 ∷ 4 ∷ 5 ∷ 6 ∷ 7 ∷ 8 ∷ []

-- a short header to that id with the number 100 (hexadecimal), where none is acknowledged
abbrev pub short_header : List ℕ
short_header = (0x41 ∷ eight_bytes) ++ (0x01 ∷ 0x00 ∷ [])

-- what an end tells that is left as it is made
abbrev pub limits : ParameterValues
limits = record {
  max_idle_timeout = 30000;
  max_udp_payload_size = 65527;
  initial_max_data = 4611686018427387903;
  initial_max_stream_data_bidi_local = 1250000;
  initial_max_stream_data_bidi_remote = 1250000;
  initial_max_stream_data_uni = 1250000;
  initial_max_streams_bidi = 100;
  initial_max_streams_uni = 100;
  ack_delay_exponent = 3;
  max_ack_delay = 25;
  active_connection_id_limit = 8;
  max_datagram_frame_size = 65535;
  min_ack_delay = Some 1000;
}

-- its list, ascending by id
abbrev pub limits_spelled : List ℕ
limits_spelled =
    (0x01 ∷ 0x04 ∷ 0x80 ∷ 0x00 ∷ 0x75 ∷ 0x30 ∷ [])
    ++ (0x04 ∷ 0x08 ∷ 0xff ∷ 0xff ∷ 0xff ∷ 0xff ∷ 0xff ∷ 0xff ∷ 0xff ∷ 0xff ∷ [])
    ++ (0x05 ∷ 0x04 ∷ 0x80 ∷ 0x13 ∷ 0x12 ∷ 0xd0 ∷ [])
    ++ (0x06 ∷ 0x04 ∷ 0x80 ∷ 0x13 ∷ 0x12 ∷ 0xd0 ∷ [])
    ++ (0x07 ∷ 0x04 ∷ 0x80 ∷ 0x13 ∷ 0x12 ∷ 0xd0 ∷ [])
    ++ (0x08 ∷ 0x02 ∷ 0x40 ∷ 0x64 ∷ [])
    ++ (0x09 ∷ 0x02 ∷ 0x40 ∷ 0x64 ∷ [])
    ++ (0x0e ∷ 0x01 ∷ 0x08 ∷ [])
    ++ (0x20 ∷ 0x04 ∷ 0x80 ∷ 0x00 ∷ 0xff ∷ 0xff ∷ [])
    ++ (0xc0 ∷ 0x00 ∷ 0x00 ∷ 0x00 ∷ 0xff ∷ 0x04 ∷ 0xde ∷ 0x1b ∷ 0x02 ∷ 0x43 ∷ 0xe8 ∷ [])

-- what holds where nothing is told
abbrev pub no_limits : ParameterValues
no_limits = record {
  max_idle_timeout = 0;
  max_udp_payload_size = 65527;
  initial_max_data = 0;
  initial_max_stream_data_bidi_local = 0;
  initial_max_stream_data_bidi_remote = 0;
  initial_max_stream_data_uni = 0;
  initial_max_streams_bidi = 0;
  initial_max_streams_uni = 0;
  ack_delay_exponent = 3;
  max_ack_delay = 25;
  active_connection_id_limit = 2;
  max_datagram_frame_size = 0;
  min_ack_delay = None;
}

-- the runs of 1, 2, 3, 5, 10, 11 and 14
abbrev pub seven_numbers : List Run
seven_numbers = record { start = 1; end = 4 } ∷ record { start = 5; end = 6 } ∷ record { start = 10; end = 12 } ∷ record { start = 14; end = 15 } ∷ []

-- their ACK frame, with delay 42 and counts of 42, 24 and 12
abbrev pub seven_acked : AckValue
seven_acked = record { largest = 14; delay = 42; ranges = (14, 14) ∷ (10, 11) ∷ (5, 5) ∷ (1, 3) ∷ []; ecn = Some (42, 24, 12) }

-- its form
abbrev pub seven_spelled : List ℕ
seven_spelled = 0x03 ∷ 0x0e ∷ 0x2a ∷ 0x03 ∷ 0x00 ∷ 0x01 ∷ 0x01 ∷ 0x03 ∷ 0x00 ∷ 0x00 ∷ 0x02 ∷ 0x2a ∷ 0x18 ∷ 0x0c ∷ []
