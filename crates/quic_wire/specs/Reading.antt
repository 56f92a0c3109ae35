-- Reading frames from left to right: the first field that can't be read names the refusal.
use Rattle.std.specs.Prelude.{ℕ, Bool, true, false, List, [], ◌∷◌, length, take, drop, Result, Ok, Err, nat_lt, ◌||◌, ◌==◌, if◌then◌else◌}
use Rattle.quic_wire.specs.declared.frame.FrameError.{FrameError}
use Rattle.quic_wire.specs.declared.frame.FrameError.TheVariants.{UnexpectedEnd, Malformed, InvalidId}
use Rattle.quic_wire_core.specs.Taking.{◌>>=◌}
pub use Rattle.quic_wire.specs.Fields.{field, var_at}
use Rattle.quic_wire.specs.AckReading.{ack_at}
use Rattle.quic_wire.specs.Value.{ResetStreamValue, StopSendingValue, CryptoValue, StreamValue, StreamLimitValue, StreamCountValue, NewConnectionIdValue, ConnectionCloseValue, ApplicationCloseValue, AckFrequencyValue, FrameValue, padding, ping, ack, reset_stream, stop_sending, crypto, new_token, stream, max_data, max_stream_data, max_streams, data_blocked, stream_data_blocked, streams_blocked, new_connection_id, retire_connection_id, path_challenge, path_response, connection_close, application_close, handshake_done, immediate_ack, datagram, ack_frequency}
use Rattle.quic_wire.specs.FrameTypes.{Kind, is_padding, is_ping, is_ack, is_reset_stream, is_stop_sending, is_crypto, is_new_token, is_stream, is_max_data, is_max_stream_data, is_max_streams, is_data_blocked, is_stream_data_blocked, is_streams_blocked, is_new_connection_id, is_retire_connection_id, is_path_challenge, is_path_response, is_connection_close, is_application_close, is_handshake_done, is_immediate_ack, is_datagram, is_ack_frequency, kind_of}

-- So many bytes.
unfoldable pub block_at : ℕ → List ℕ → Result (List ℕ × List ℕ) FrameError
block_at n bytes = if nat_lt (length bytes) n then Err UnexpectedEnd else Ok (take n bytes, drop n bytes)

-- A length, and so many bytes.
unfoldable pub sized_at : List ℕ → Result (List ℕ × List ℕ) FrameError
sized_at bytes = do
  n ← var_at bytes
  block_at n.0 n.1

-- A RESET_STREAM frame behind its type (section 19.4).
unfoldable pub reset_stream_at : List ℕ → Result (ResetStreamValue × List ℕ) FrameError
reset_stream_at bytes = do
  id ← var_at bytes
  code ← var_at id.1
  size ← var_at code.1
  Ok (record { id = id.0; code = code.0; final_size = size.0 }, size.1)

-- A STOP_SENDING frame behind its type (section 19.5).
unfoldable pub stop_sending_at : List ℕ → Result (StopSendingValue × List ℕ) FrameError
stop_sending_at bytes = do
  id ← var_at bytes
  code ← var_at id.1
  Ok (record { id = id.0; code = code.0 }, code.1)

-- A CRYPTO frame behind its type (section 19.6).
unfoldable pub crypto_at : List ℕ → Result (CryptoValue × List ℕ) FrameError
crypto_at bytes = do
  offset ← var_at bytes
  text ← sized_at offset.1
  Ok (record { offset = offset.0; bytes = text.0 }, text.1)

-- The offset of a STREAM frame, 0 where none is written (section 19.8).
unfoldable pub offset_at : Bool → List ℕ → Result (ℕ × List ℕ) FrameError
offset_at false bytes = Ok (0, bytes)
offset_at true bytes = var_at bytes

-- The bytes behind their length, or, where no length is written, all that are left (section 19.8).
unfoldable pub data_at : Bool → List ℕ → Result (List ℕ × List ℕ) FrameError
data_at false bytes = Ok (bytes, [])
data_at true bytes = sized_at bytes

-- A STREAM frame behind its type (section 19.8).
unfoldable pub stream_at : Bool → Bool → Bool → List ℕ → Result (StreamValue × List ℕ) FrameError
stream_at written sized fin bytes = do
  id ← var_at bytes
  offset ← offset_at written id.1
  text ← data_at sized offset.1
  Ok (record { id = id.0; offset = offset.0; fin = fin; bytes = text.0 }, text.1)

-- A MAX_STREAM_DATA or STREAM_DATA_BLOCKED frame behind its type (sections 19.10 and 19.13).
unfoldable pub stream_limit_at : List ℕ → Result (StreamLimitValue × List ℕ) FrameError
stream_limit_at bytes = do
  id ← var_at bytes
  limit ← var_at id.1
  Ok (record { id = id.0; limit = limit.0 }, limit.1)

-- One byte.
unfoldable pub byte_at : List ℕ → Result (ℕ × List ℕ) FrameError
byte_at [] = Err UnexpectedEnd
byte_at (b ∷ bytes) = Ok (b, bytes)

-- So many bytes of an id, which has 1 to 20 of them (section 19.15).
unfoldable pub id_at : ℕ → List ℕ → Result (List ℕ × List ℕ) FrameError
id_at n bytes = if n == 0 || nat_lt 20 n then Err Malformed else block_at n bytes

-- A length in one byte, and an id of so many (section 19.15).
unfoldable pub connection_id_at : List ℕ → Result (List ℕ × List ℕ) FrameError
connection_id_at bytes = do
  n ← byte_at bytes
  id_at n.0 n.1

-- The id and the token behind the two numbers of a NEW_CONNECTION_ID frame (section 19.15).
unfoldable pub id_and_token_at : ℕ → ℕ → List ℕ → Result (NewConnectionIdValue × List ℕ) FrameError
id_and_token_at sequence retire bytes = do
  id ← connection_id_at bytes
  token ← block_at 16 id.1
  Ok (record { sequence = sequence; retire_prior_to = retire; id = id.0; token = token.0 }, token.1)

-- What stands behind the two numbers, of which the second is at most the first (section 19.15).
unfoldable pub issued_at : ℕ → ℕ → List ℕ → Result (NewConnectionIdValue × List ℕ) FrameError
issued_at sequence retire bytes = if nat_lt sequence retire then Err Malformed else id_and_token_at sequence retire bytes

-- A NEW_CONNECTION_ID frame behind its type (section 19.15).
unfoldable pub new_connection_id_at : List ℕ → Result (NewConnectionIdValue × List ℕ) FrameError
new_connection_id_at bytes = do
  sequence ← var_at bytes
  retire ← var_at sequence.1
  issued_at sequence.0 retire.0 retire.1

-- A CONNECTION_CLOSE frame of type 1c behind its type (section 19.19).
unfoldable pub connection_close_at : List ℕ → Result (ConnectionCloseValue × List ℕ) FrameError
connection_close_at bytes = do
  code ← var_at bytes
  type ← var_at code.1
  reason ← sized_at type.1
  Ok (record { code = code.0; frame_type = type.0; reason = reason.0 }, reason.1)

-- A CONNECTION_CLOSE frame of type 1d behind its type (section 19.19).
unfoldable pub application_close_at : List ℕ → Result (ApplicationCloseValue × List ℕ) FrameError
application_close_at bytes = do
  code ← var_at bytes
  reason ← sized_at code.1
  Ok (record { code = code.0; reason = reason.0 }, reason.1)

-- An ACK_FREQUENCY frame behind its type (QUIC Acknowledgement Frequency, section 4).
unfoldable pub ack_frequency_at : List ℕ → Result (AckFrequencyValue × List ℕ) FrameError
ack_frequency_at bytes = do
  sequence ← var_at bytes
  threshold ← var_at sequence.1
  delay ← var_at threshold.1
  reordering ← var_at delay.1
  Ok (record { sequence = sequence.0; threshold = threshold.0; delay = delay.0; reordering = reordering.0 }, reordering.1)

-- A frame made of what was read.
abbrev pub as_frame : {T : Type 0} → (T → FrameValue) → Result (T × List ℕ) FrameError → Result (FrameValue × List ℕ) FrameError
as_frame f read = read >>= λ x. Ok (f x.0, x.1)

-- A count of streams of one direction (sections 19.11 and 19.14).
abbrev pub counted : Bool → ℕ → StreamCountValue
counted one_way count = record { one_way = one_way; count = count }

-- The frame of a kind, behind its type.
abbrev pub of_kind_at : Kind → List ℕ → Result (FrameValue × List ℕ) FrameError
of_kind_at is_padding bytes = Ok (padding, bytes)
of_kind_at is_ping bytes = Ok (ping, bytes)
of_kind_at (is_ack ecn) bytes = as_frame ack (ack_at ecn bytes)
of_kind_at is_reset_stream bytes = as_frame reset_stream (reset_stream_at bytes)
of_kind_at is_stop_sending bytes = as_frame stop_sending (stop_sending_at bytes)
of_kind_at is_crypto bytes = as_frame crypto (crypto_at bytes)
of_kind_at is_new_token bytes = as_frame new_token (sized_at bytes)
of_kind_at (is_stream written sized fin) bytes = as_frame stream (stream_at written sized fin bytes)
of_kind_at is_max_data bytes = as_frame max_data (var_at bytes)
of_kind_at is_max_stream_data bytes = as_frame max_stream_data (stream_limit_at bytes)
of_kind_at (is_max_streams one_way) bytes = as_frame (λ n. max_streams (counted one_way n)) (var_at bytes)
of_kind_at is_data_blocked bytes = as_frame data_blocked (var_at bytes)
of_kind_at is_stream_data_blocked bytes = as_frame stream_data_blocked (stream_limit_at bytes)
of_kind_at (is_streams_blocked one_way) bytes = as_frame (λ n. streams_blocked (counted one_way n)) (var_at bytes)
of_kind_at is_new_connection_id bytes = as_frame new_connection_id (new_connection_id_at bytes)
of_kind_at is_retire_connection_id bytes = as_frame retire_connection_id (var_at bytes)
of_kind_at is_path_challenge bytes = as_frame path_challenge (block_at 8 bytes)
of_kind_at is_path_response bytes = as_frame path_response (block_at 8 bytes)
of_kind_at is_connection_close bytes = as_frame connection_close (connection_close_at bytes)
of_kind_at is_application_close bytes = as_frame application_close (application_close_at bytes)
of_kind_at is_handshake_done bytes = Ok (handshake_done, bytes)
of_kind_at is_immediate_ack bytes = Ok (immediate_ack, bytes)
of_kind_at (is_datagram sized) bytes = as_frame datagram (data_at sized bytes)
of_kind_at is_ack_frequency bytes = as_frame ack_frequency (ack_frequency_at bytes)
of_kind_at kind bytes = Err InvalidId

-- The frame behind its type.
unfoldable pub body_at : ℕ → List ℕ → Result (FrameValue × List ℕ) FrameError
body_at type bytes = of_kind_at (kind_of type) bytes
