-- What frames say, without where their bytes lie in memory (RFC 9000, section 19; RFC 9221; QUIC
-- Acknowledgement Frequency).
use Rattle.std.specs.Prelude.{ℕ, Bool, true, false, List, Option}

-- ACK: the ranges are pairs of least and greatest number, the highest range first; the counts are
-- ECT(0), ECT(1), ECN-CE (section 19.3).
pub record AckValue : Type 0 where
  pub largest : ℕ
  pub delay : ℕ
  pub ranges : List (ℕ × ℕ)
  pub ecn : Option (ℕ × ℕ × ℕ)

-- RESET_STREAM (section 19.4).
pub record ResetStreamValue : Type 0 where
  pub id : ℕ
  pub code : ℕ
  pub final_size : ℕ

-- STOP_SENDING (section 19.5).
pub record StopSendingValue : Type 0 where
  pub id : ℕ
  pub code : ℕ

-- CRYPTO (section 19.6).
pub record CryptoValue : Type 0 where
  pub offset : ℕ
  pub bytes : List ℕ

-- STREAM: these bytes from this offset on, and whether the stream ends behind them (section 19.8).
pub record StreamValue : Type 0 where
  pub id : ℕ
  pub offset : ℕ
  pub fin : Bool
  pub bytes : List ℕ

-- MAX_STREAM_DATA and STREAM_DATA_BLOCKED: a stream and its limit (sections 19.10 and 19.13).
pub record StreamLimitValue : Type 0 where
  pub id : ℕ
  pub limit : ℕ

-- MAX_STREAMS and STREAMS_BLOCKED: how many streams of one direction (sections 19.11 and 19.14).
pub record StreamCountValue : Type 0 where
  pub one_way : Bool
  pub count : ℕ

-- NEW_CONNECTION_ID (section 19.15).
pub record NewConnectionIdValue : Type 0 where
  pub sequence : ℕ
  pub retire_prior_to : ℕ
  pub id : List ℕ
  pub token : List ℕ

-- CONNECTION_CLOSE of type 1c: the type is that of the frame that was at fault, 0 where it is
-- unknown (section 19.19).
pub record ConnectionCloseValue : Type 0 where
  pub code : ℕ
  pub frame_type : ℕ
  pub reason : List ℕ

-- CONNECTION_CLOSE of type 1d (section 19.19).
pub record ApplicationCloseValue : Type 0 where
  pub code : ℕ
  pub reason : List ℕ

-- ACK_FREQUENCY: the delay is in microseconds (QUIC Acknowledgement Frequency, section 4).
pub record AckFrequencyValue : Type 0 where
  pub sequence : ℕ
  pub threshold : ℕ
  pub delay : ℕ
  pub reordering : ℕ

-- A frame of any kind.
pub data FrameValue : Type 0 where
  padding : FrameValue
  ping : FrameValue
  ack : AckValue → FrameValue
  reset_stream : ResetStreamValue → FrameValue
  stop_sending : StopSendingValue → FrameValue
  crypto : CryptoValue → FrameValue
  new_token : List ℕ → FrameValue
  stream : StreamValue → FrameValue
  max_data : ℕ → FrameValue
  max_stream_data : StreamLimitValue → FrameValue
  max_streams : StreamCountValue → FrameValue
  data_blocked : ℕ → FrameValue
  stream_data_blocked : StreamLimitValue → FrameValue
  streams_blocked : StreamCountValue → FrameValue
  new_connection_id : NewConnectionIdValue → FrameValue
  retire_connection_id : ℕ → FrameValue
  path_challenge : List ℕ → FrameValue
  path_response : List ℕ → FrameValue
  connection_close : ConnectionCloseValue → FrameValue
  application_close : ApplicationCloseValue → FrameValue
  handshake_done : FrameValue
  immediate_ack : FrameValue
  datagram : List ℕ → FrameValue
  ack_frequency : AckFrequencyValue → FrameValue

-- Whether a packet with this frame asks for an acknowledgement: all frames but PADDING, ACK and the
-- closes do (section 13.2).
abbrev pub asks : FrameValue → Bool
asks padding = false
asks (ack a) = false
asks (connection_close c) = false
asks (application_close c) = false
asks f = true
