-- The bytes of frames: a frame is a list of numbers, the first of them its type, and behind them
-- bytes (RFC 9000, section 19).
use Rattle.std.specs.Prelude.{◌≡◌, ◌≤◌, ℕ, Bool, true, false, List, [], ◌∷◌, ◌++◌, length}
use Rattle.quic_wire_core.specs.Varint.{Spells}
use Rattle.quic_wire.specs.Value.{StreamValue, NewConnectionIdValue, FrameValue, padding, ping, ack, reset_stream, stop_sending, crypto, new_token, stream, max_data, max_stream_data, max_streams, data_blocked, stream_data_blocked, streams_blocked, new_connection_id, retire_connection_id, path_challenge, path_response, connection_close, application_close, handshake_done, immediate_ack, datagram, ack_frequency}
use Rattle.quic_wire.specs.FrameTypes.{is_padding, is_ping, is_reset_stream, is_stop_sending, is_crypto, is_new_token, is_stream, is_max_data, is_max_stream_data, is_max_streams, is_data_blocked, is_stream_data_blocked, is_streams_blocked, is_new_connection_id, is_retire_connection_id, is_path_challenge, is_path_response, is_connection_close, is_application_close, is_handshake_done, is_immediate_ack, is_datagram, is_ack_frequency, type_of}
use Rattle.quic_wire.specs.AckGrammar.{GoDown, ack_numbers}

-- The bytes are these numbers, one after another, each in any of its widths (section 16).
abbrev pub Numbers : List ℕ → List ℕ → Type 0
Numbers [] bytes = bytes ≡ []
Numbers (n ∷ ns) bytes = (x : List ℕ) × (y : List ℕ) × Spells n x × Numbers ns y × (bytes ≡ x ++ y)

-- The bytes are these numbers, and behind them this text.
abbrev pub Then : List ℕ → List ℕ → List ℕ → Type 0
Then ns text bytes = (front : List ℕ) × Numbers ns front × (bytes ≡ front ++ text)

-- The offset, where it is written.
abbrev pub offset_numbers : Bool → ℕ → List ℕ
offset_numbers true offset = offset ∷ []
offset_numbers false offset = []

-- An offset that isn't written is 0.
abbrev pub OffsetFits : Bool → ℕ → Type 0
OffsetFits true offset = Unit {0}
OffsetFits false offset = offset ≡ 0

-- A number, where it is written.
abbrev pub number_if : Bool → ℕ → List ℕ
number_if true n = n ∷ []
number_if false n = []

-- The length of the text, where it is written.
abbrev pub length_numbers : Bool → List ℕ → List ℕ
length_numbers sized text = number_if sized (length text)

-- Behind a text whose length isn't written the payload ends.
abbrev pub Ends : Bool → List ℕ → Type 0
Ends true rest = Unit {0}
Ends false rest = rest ≡ []

-- The numbers of a STREAM frame: type, id, offset and length (section 19.8).
abbrev pub stream_numbers : Bool → Bool → StreamValue → List ℕ
stream_numbers written sized s = type_of (is_stream written sized s.fin) ∷ s.id ∷ (offset_numbers written s.offset ++ length_numbers sized s.bytes)

-- The bytes are a form of the STREAM frame, before this rest of the payload (section 19.8).
pub record IsStreamForm (s : StreamValue) (bytes rest : List ℕ) : Type 0 where
  -- whether the offset and the length are written
  pub written : Bool
  pub sized : Bool
  pub offset : OffsetFits written s.offset
  pub ends : Ends sized rest
  pub text : Then (stream_numbers written sized s) s.bytes bytes

-- The bytes of an id and of its token: the length of the id in one byte, the id and the token
-- (section 19.15).
abbrev pub id_and_token : NewConnectionIdValue → List ℕ
id_and_token n = length n.id ∷ (n.id ++ n.token)

-- What a NEW_CONNECTION_ID frame may say: an id of 1 to 20 bytes, a token of 16, and no id to be
-- retired above its own (section 19.15).
pub record IsIssued (n : NewConnectionIdValue) : Type 0 where
  pub retires : n.retire_prior_to ≤ n.sequence
  pub some : 1 ≤ length n.id
  pub short : length n.id ≤ 20
  pub token : length n.token ≡ 16

-- The bytes are a form of the DATAGRAM frame, before this rest of the payload (RFC 9221, section
-- 4).
pub record IsDatagramForm (d bytes rest : List ℕ) : Type 0 where
  -- whether the length is written
  pub sized : Bool
  pub ends : Ends sized rest
  pub text : Then (type_of (is_datagram sized) ∷ length_numbers sized d) d bytes

-- The bytes are a form of the frame, before this rest of the payload.
abbrev pub IsForm : FrameValue → List ℕ → List ℕ → Type 0
IsForm padding bytes rest = Numbers (type_of is_padding ∷ []) bytes
IsForm ping bytes rest = Numbers (type_of is_ping ∷ []) bytes
IsForm (ack a) bytes rest = GoDown a.largest a.ranges × Numbers (ack_numbers a a.ranges) bytes
IsForm (reset_stream r) bytes rest = Numbers (type_of is_reset_stream ∷ r.id ∷ r.code ∷ r.final_size ∷ []) bytes
IsForm (stop_sending s) bytes rest = Numbers (type_of is_stop_sending ∷ s.id ∷ s.code ∷ []) bytes
IsForm (crypto c) bytes rest = Then (type_of is_crypto ∷ c.offset ∷ length c.bytes ∷ []) c.bytes bytes
IsForm (new_token t) bytes rest = Then (type_of is_new_token ∷ length t ∷ []) t bytes
IsForm (stream s) bytes rest = IsStreamForm s bytes rest
IsForm (max_data n) bytes rest = Numbers (type_of is_max_data ∷ n ∷ []) bytes
IsForm (max_stream_data m) bytes rest = Numbers (type_of is_max_stream_data ∷ m.id ∷ m.limit ∷ []) bytes
IsForm (max_streams m) bytes rest = Numbers (type_of (is_max_streams m.one_way) ∷ m.count ∷ []) bytes
IsForm (data_blocked n) bytes rest = Numbers (type_of is_data_blocked ∷ n ∷ []) bytes
IsForm (stream_data_blocked b) bytes rest = Numbers (type_of is_stream_data_blocked ∷ b.id ∷ b.limit ∷ []) bytes
IsForm (streams_blocked b) bytes rest = Numbers (type_of (is_streams_blocked b.one_way) ∷ b.count ∷ []) bytes
IsForm (new_connection_id n) bytes rest = IsIssued n × Then (type_of is_new_connection_id ∷ n.sequence ∷ n.retire_prior_to ∷ []) (id_and_token n) bytes
IsForm (retire_connection_id n) bytes rest = Numbers (type_of is_retire_connection_id ∷ n ∷ []) bytes
IsForm (path_challenge d) bytes rest = (length d ≡ 8) × Then (type_of is_path_challenge ∷ []) d bytes
IsForm (path_response d) bytes rest = (length d ≡ 8) × Then (type_of is_path_response ∷ []) d bytes
IsForm (connection_close c) bytes rest = Then (type_of is_connection_close ∷ c.code ∷ c.frame_type ∷ length c.reason ∷ []) c.reason bytes
IsForm (application_close c) bytes rest = Then (type_of is_application_close ∷ c.code ∷ length c.reason ∷ []) c.reason bytes
IsForm handshake_done bytes rest = Numbers (type_of is_handshake_done ∷ []) bytes
IsForm immediate_ack bytes rest = Numbers (type_of is_immediate_ack ∷ []) bytes
IsForm (datagram d) bytes rest = IsDatagramForm d bytes rest
IsForm (ack_frequency a) bytes rest = Numbers (type_of is_ack_frequency ∷ a.sequence ∷ a.threshold ∷ a.delay ∷ a.reordering ∷ []) bytes

-- The bytes are these frames, one after another.
abbrev pub Payload : List FrameValue → List ℕ → Type 0
Payload [] bytes = bytes ≡ []
Payload (f ∷ fs) bytes = (x : List ℕ) × (y : List ℕ) × IsForm f x y × Payload fs y × (bytes ≡ x ++ y)
