-- What is left behind a field is no longer than what was there, and behind a frame it is shorter.
use Rattle.std.proofs.Common.{ℕ, ◌≤◌, ◌<◌, Bool, true, false, ltb, eqb, List, [], ◌∷◌, length, take, drop, Option, Some, None, Result, Ok, Err, arith}
use Rattle.std.specs.Prelude.{◌||◌}
use Rattle.std.proofs.lemmas.List.{length-drop}
use Rattle.quic_wire_core.specs.Varint.{varint_at}
use Rattle.quic_wire.specs.declared.frame.FrameError.{FrameError}
use Rattle.quic_wire.specs.declared.frame.FrameError.TheVariants.{UnexpectedEnd, Malformed}
use Rattle.quic_wire.specs.declared.frame.InvalidFrame.{InvalidFrame}
use Rattle.quic_wire.specs.Value.{FrameValue, ack, reset_stream, stop_sending, crypto, new_token, stream, max_data, max_stream_data, max_streams, data_blocked, stream_data_blocked, streams_blocked, new_connection_id, retire_connection_id, path_challenge, path_response, connection_close, application_close, datagram, ack_frequency}
use Rattle.quic_wire.specs.FrameTypes.{Kind, is_padding, is_ping, is_ack, is_reset_stream, is_stop_sending, is_crypto, is_new_token, is_stream, is_max_data, is_max_stream_data, is_max_streams, is_data_blocked, is_stream_data_blocked, is_streams_blocked, is_new_connection_id, is_retire_connection_id, is_path_challenge, is_path_response, is_connection_close, is_application_close, is_handshake_done, is_immediate_ack, is_datagram, is_ack_frequency, kind_of}
use Rattle.quic_wire.specs.Reading.{field, var_at, block_at, sized_at, reset_stream_at, stop_sending_at, crypto_at, offset_at, data_at, stream_at, stream_limit_at, byte_at, id_at, connection_id_at, id_and_token_at, issued_at, new_connection_id_at, connection_close_at, application_close_at, ack_frequency_at, counted, as_frame, of_kind_at, body_at}
use Rattle.quic_wire.specs.AckReading.{ack_at}
use Rattle.quic_wire.proofs.AckShrinks.{ack_leaves}
use Rattle.quic_wire.specs.Items.{frame_at, behind_type, refused}
use Rattle.quic_wire.proofs.FieldShrinks.{Leaves, bind, guard, LeavesFewer, varint_fewer, var}

block : (n k : ℕ) (bytes : List ℕ) → length bytes ≤ n → Leaves n (block_at k bytes)
unfolding block_at
block n k bytes le = guard n (ltb (length bytes) k) UnexpectedEnd (Ok (take k bytes, drop k bytes)) (record { most = omega (arith, length-drop k bytes) })

sized : (n : ℕ) (bytes : List ℕ) → length bytes ≤ n → Leaves n (sized_at bytes)
unfolding sized_at
sized n bytes le = bind n (var_at bytes) _ (var n bytes le) (λ x h. block n x.0 x.1 h)

offset_leaves : (b : Bool) (n : ℕ) (bytes : List ℕ) → length bytes ≤ n → Leaves n (offset_at b bytes)
unfolding offset_at
offset_leaves false n bytes le = record { most = le }
offset_leaves true n bytes le = var n bytes le

data_leaves : (b : Bool) (n : ℕ) (bytes : List ℕ) → length bytes ≤ n → Leaves n (data_at b bytes)
unfolding data_at
data_leaves false n bytes le = record { most = omega arith }
data_leaves true n bytes le = sized n bytes le

byte : (n : ℕ) (bytes : List ℕ) → length bytes ≤ n → Leaves n (byte_at bytes)
unfolding byte_at
byte n [] le = record { most = tt }
byte n (b ∷ bytes) le = record { most = omega arith }

id_leaves : (k n : ℕ) (bytes : List ℕ) → length bytes ≤ n → Leaves n (id_at k bytes)
unfolding id_at
id_leaves k n bytes le = guard n (eqb k 0 || ltb 20 k) Malformed (block_at k bytes) (block n k bytes le)

connection_id : (n : ℕ) (bytes : List ℕ) → length bytes ≤ n → Leaves n (connection_id_at bytes)
unfolding connection_id_at
connection_id n bytes le = bind n (byte_at bytes) _ (byte n bytes le) (λ a h. id_leaves a.0 n a.1 h)

-- ---- frames behind their types, one line for each kind

reset_stream_leaves : (n : ℕ) (bytes : List ℕ) → length bytes ≤ n → Leaves n (reset_stream_at bytes)
unfolding reset_stream_at
reset_stream_leaves n bytes le = bind n (var_at bytes) _ (var n bytes le) (λ a h. bind n (var_at a.1) _ (var n a.1 h) (λ b k. bind n (var_at b.1) _ (var n b.1 k) (λ c l. record { most = l })))

stop_sending_leaves : (n : ℕ) (bytes : List ℕ) → length bytes ≤ n → Leaves n (stop_sending_at bytes)
unfolding stop_sending_at
stop_sending_leaves n bytes le = bind n (var_at bytes) _ (var n bytes le) (λ a h. bind n (var_at a.1) _ (var n a.1 h) (λ b k. record { most = k }))

crypto_leaves : (n : ℕ) (bytes : List ℕ) → length bytes ≤ n → Leaves n (crypto_at bytes)
unfolding crypto_at
crypto_leaves n bytes le = bind n (var_at bytes) _ (var n bytes le) (λ a h. bind n (sized_at a.1) _ (sized n a.1 h) (λ b k. record { most = k }))

stream_limit_leaves : (n : ℕ) (bytes : List ℕ) → length bytes ≤ n → Leaves n (stream_limit_at bytes)
unfolding stream_limit_at
stream_limit_leaves n bytes le = bind n (var_at bytes) _ (var n bytes le) (λ a h. bind n (var_at a.1) _ (var n a.1 h) (λ b k. record { most = k }))

id_and_token_leaves : (sequence retire n : ℕ) (bytes : List ℕ) → length bytes ≤ n → Leaves n (id_and_token_at sequence retire bytes)
unfolding id_and_token_at
id_and_token_leaves sequence retire n bytes le = bind n (connection_id_at bytes) _ (connection_id n bytes le) (λ a h. bind n (block_at 16 a.1) _ (block n 16 a.1 h) (λ b k. record { most = k }))

issued_leaves : (sequence retire n : ℕ) (bytes : List ℕ) → length bytes ≤ n → Leaves n (issued_at sequence retire bytes)
unfolding issued_at
issued_leaves sequence retire n bytes le = guard n (ltb sequence retire) Malformed (id_and_token_at sequence retire bytes) (id_and_token_leaves sequence retire n bytes le)

new_connection_id_leaves : (n : ℕ) (bytes : List ℕ) → length bytes ≤ n → Leaves n (new_connection_id_at bytes)
unfolding new_connection_id_at
new_connection_id_leaves n bytes le = bind n (var_at bytes) _ (var n bytes le) (λ a h. bind n (var_at a.1) _ (var n a.1 h) (λ b k. issued_leaves a.0 b.0 n b.1 k))

connection_close_leaves : (n : ℕ) (bytes : List ℕ) → length bytes ≤ n → Leaves n (connection_close_at bytes)
unfolding connection_close_at
connection_close_leaves n bytes le = bind n (var_at bytes) _ (var n bytes le) (λ a h. bind n (var_at a.1) _ (var n a.1 h) (λ b k. bind n (sized_at b.1) _ (sized n b.1 k) (λ c l. record { most = l })))

application_close_leaves : (n : ℕ) (bytes : List ℕ) → length bytes ≤ n → Leaves n (application_close_at bytes)
unfolding application_close_at
application_close_leaves n bytes le = bind n (var_at bytes) _ (var n bytes le) (λ a h. bind n (sized_at a.1) _ (sized n a.1 h) (λ b k. record { most = k }))

ack_frequency_leaves : (n : ℕ) (bytes : List ℕ) → length bytes ≤ n → Leaves n (ack_frequency_at bytes)
unfolding ack_frequency_at
ack_frequency_leaves n bytes le = bind n (var_at bytes) _ (var n bytes le) (λ a h. bind n (var_at a.1) _ (var n a.1 h) (λ b k. bind n (var_at b.1) _ (var n b.1 k) (λ c l. bind n (var_at c.1) _ (var n c.1 l) (λ d m. record { most = m }))))

stream_leaves : (written len fin : Bool) (n : ℕ) (bytes : List ℕ) → length bytes ≤ n → Leaves n (stream_at written len fin bytes)
unfolding stream_at
stream_leaves written len fin n bytes le = bind n (var_at bytes) _ (var n bytes le) (λ a h. bind n (offset_at written a.1) _ (offset_leaves written n a.1 h) (λ b k. bind n (data_at len b.1) _ (data_leaves len n b.1 k) (λ c l. record { most = l })))

framed : {T : Type 0} (f : T → FrameValue) (n : ℕ) (r : Result (T × List ℕ) FrameError) → Leaves n r → Leaves n (as_frame f r)
framed f n r h = bind n r _ h (λ x k. record { most = k })

of_kind : (kind : Kind) (n : ℕ) (bytes : List ℕ) → length bytes ≤ n → Leaves n (of_kind_at kind bytes)
of_kind is_padding n bytes le = record { most = le }
of_kind is_ping n bytes le = record { most = le }
of_kind (is_ack ecn) n bytes le = framed ack n (ack_at ecn bytes) (ack_leaves ecn n bytes le)
of_kind is_reset_stream n bytes le = framed reset_stream n (reset_stream_at bytes) (reset_stream_leaves n bytes le)
of_kind is_stop_sending n bytes le = framed stop_sending n (stop_sending_at bytes) (stop_sending_leaves n bytes le)
of_kind is_crypto n bytes le = framed crypto n (crypto_at bytes) (crypto_leaves n bytes le)
of_kind is_new_token n bytes le = framed new_token n (sized_at bytes) (sized n bytes le)
of_kind (is_stream written len fin) n bytes le = framed stream n (stream_at written len fin bytes) (stream_leaves written len fin n bytes le)
of_kind is_max_data n bytes le = framed max_data n (var_at bytes) (var n bytes le)
of_kind is_max_stream_data n bytes le = framed max_stream_data n (stream_limit_at bytes) (stream_limit_leaves n bytes le)
of_kind (is_max_streams one_way) n bytes le = framed (λ k. max_streams (counted one_way k)) n (var_at bytes) (var n bytes le)
of_kind is_data_blocked n bytes le = framed data_blocked n (var_at bytes) (var n bytes le)
of_kind is_stream_data_blocked n bytes le = framed stream_data_blocked n (stream_limit_at bytes) (stream_limit_leaves n bytes le)
of_kind (is_streams_blocked one_way) n bytes le = framed (λ k. streams_blocked (counted one_way k)) n (var_at bytes) (var n bytes le)
of_kind is_new_connection_id n bytes le = framed new_connection_id n (new_connection_id_at bytes) (new_connection_id_leaves n bytes le)
of_kind is_retire_connection_id n bytes le = framed retire_connection_id n (var_at bytes) (var n bytes le)
of_kind is_path_challenge n bytes le = framed path_challenge n (block_at 8 bytes) (block n 8 bytes le)
of_kind is_path_response n bytes le = framed path_response n (block_at 8 bytes) (block n 8 bytes le)
of_kind is_connection_close n bytes le = framed connection_close n (connection_close_at bytes) (connection_close_leaves n bytes le)
of_kind is_application_close n bytes le = framed application_close n (application_close_at bytes) (application_close_leaves n bytes le)
of_kind is_handshake_done n bytes le = record { most = le }
of_kind is_immediate_ack n bytes le = record { most = le }
of_kind (is_datagram len) n bytes le = framed datagram n (data_at len bytes) (data_leaves len n bytes le)
of_kind is_ack_frequency n bytes le = framed ack_frequency n (ack_frequency_at bytes) (ack_frequency_leaves n bytes le)
of_kind kind n bytes le = record { most = tt }

body : (type n : ℕ) (bytes : List ℕ) → length bytes ≤ n → Leaves n (body_at type bytes)
unfolding body_at
body type n bytes le = of_kind (kind_of type) n bytes le

-- ---- whole frames

-- fewer than n bytes are left behind a frame
abbrev pub FrameLeavesFewer : ℕ → Result (FrameValue × List ℕ) InvalidFrame → Type 0
FrameLeavesFewer n (Ok x) = length x.1 < n
FrameLeavesFewer n (Err e) = Unit {0}

refused_fewer : (n m : ℕ) (type : Option ℕ) (r : Result (FrameValue × List ℕ) FrameError) → m < n → Leaves m r → FrameLeavesFewer n (refused type r)
refused_fewer n m type (Ok x) lt h = omega (arith, h.most)
refused_fewer n m type (Err e) lt h = tt

behind_fewer : (n : ℕ) (o : Option (ℕ × List ℕ)) → LeavesFewer n o → FrameLeavesFewer n (behind_type (field o))
behind_fewer n (Some x) h = refused_fewer n (length x.1) (Some x.0) (body_at x.0 x.1) h (body x.0 (length x.1) x.1 (omega arith))
behind_fewer n None h = tt

pub frame_fewer : (bytes : List ℕ) → FrameLeavesFewer (length bytes) (frame_at bytes)
unfolding frame_at
frame_fewer bytes = behind_fewer (length bytes) (varint_at bytes) (varint_fewer bytes)
