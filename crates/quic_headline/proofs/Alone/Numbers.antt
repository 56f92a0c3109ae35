-- The numbers in frames that are read of a payload are below 2^62, whatever its bytes are (RFC
-- 9000, section 16): the limits that MAX_DATA and MAX_STREAM_DATA tell, and the numbers of ids.
use Rattle.std.proofs.Common.{ℕ, ◌-◌, ◌*◌, ◌≤◌, ◌<◌, ◌^◌, Bool, true, false, List, take, drop, length, Option, Some, None, Result, Ok, Err, arith}
use Rattle.std.specs.Prelude.{nat_lt, ◌==◌, ◌/◌, ◌%◌, slice_index, if◌then◌else◌}
use Rattle.std.specs.Int.{Width, w8, w16, w32, w64, byte_len, from_be_bytes}
use Rattle.std.proofs.lemmas.Nat.{mod_below, pow_pos}
use Rattle.quic_wire_core.specs.Taking.{◌>>=◌}
use Rattle.quic_wire_core.specs.Varint.{varint_at, wide_at}
use Rattle.quic_wire.specs.declared.frame.FrameError.{FrameError}
use Rattle.quic_wire.specs.declared.frame.FrameError.TheVariants.{Malformed}
use Rattle.quic_wire.specs.Value.{FrameValue, NewConnectionIdValue, ack, reset_stream, stop_sending, crypto, new_token, stream, max_data, max_stream_data, max_streams, data_blocked, stream_data_blocked, streams_blocked, new_connection_id, retire_connection_id, path_challenge, path_response, connection_close, application_close, datagram, ack_frequency}
use Rattle.quic_wire.specs.FrameTypes.{Kind, is_padding, is_ping, is_ack, is_reset_stream, is_stop_sending, is_crypto, is_new_token, is_stream, is_max_data, is_max_stream_data, is_max_streams, is_data_blocked, is_stream_data_blocked, is_streams_blocked, is_new_connection_id, is_retire_connection_id, is_path_challenge, is_path_response, is_connection_close, is_application_close, is_handshake_done, is_immediate_ack, is_datagram, is_ack_frequency}
use Rattle.quic_wire.specs.AckReading.{ack_at}
use Rattle.quic_wire.specs.Reading.{field, var_at, block_at, sized_at, reset_stream_at, stop_sending_at, crypto_at, data_at, stream_at, stream_limit_at, connection_id_at, id_and_token_at, issued_at, new_connection_id_at, connection_close_at, application_close_at, ack_frequency_at, counted, as_frame, of_kind_at}
use Rattle.quic_wire.specs.Items.{items}
use Rattle.quic_headline.specs.Runs.{In, frames_of}
use Rattle.quic_headline.proofs.Halves.Small.{IsSmallLimit, IsSmallNumber}
use Rattle.quic_headline.proofs.Alone.Items.{IfRead, framed, behind_read, by_kinds}

-- its limit, if it tells one, is small, and so is the number of the id that it tells
abbrev pub AreSmall : FrameValue → Type 0
AreSmall f = IsSmallLimit f × IsSmallNumber f

-- ---- a number

abbrev IsSmall : ℕ → Type 0
IsSmall n = n < 2 ^ 62

-- the number that was read is small, if one was
abbrev IfSome : Option (ℕ × List ℕ) → Type 0
IfSome None = Unit {0}
IfSome (Some x) = IsSmall x.0

-- a number of so many bits is
bits_small : (n bits : ℕ) → 2 ^ bits ≤ 2 ^ 62 → n % 2 ^ bits < 2 ^ 62
bits_small n bits few = let below = mod_below n (2 ^ bits) (pow_pos bits) in omega arith

wide_small : (w : Width) (bytes : List ℕ) → 2 ^ (8 * byte_len w - 2) ≤ 2 ^ 62 → IfSome (wide_at w bytes)
wide_small w bytes few = go (nat_lt (length bytes) (byte_len w))
  where
    go : (b : Bool) → IfSome (if b then None else Some (from_be_bytes w (take (byte_len w) bytes) % 2 ^ (8 * byte_len w - 2), drop (byte_len w) bytes))
    go true = tt
    go false = bits_small (from_be_bytes w (take (byte_len w) bytes)) (8 * byte_len w - 2) few

varint_small : (bytes : List ℕ) → IfSome (varint_at bytes)
varint_small bytes = go (tag == 0) (tag == 1) (tag == 2)
  where
    tag : ℕ
    tag = slice_index bytes 0 / 2 ^ 6

    go : (a b c : Bool) → IfSome (if a then wide_at w8 bytes else (if b then wide_at w16 bytes else (if c then wide_at w32 bytes else wide_at w64 bytes)))
    go true b c = wide_small w8 bytes (omega arith)
    go false true c = wide_small w16 bytes (omega arith)
    go false false true = wide_small w32 bytes (omega arith)
    go false false false = wide_small w64 bytes (omega arith)

var_small : (bytes : List ℕ) → IfRead IsSmall (var_at bytes)
var_small bytes = go (varint_at bytes) (varint_small bytes)
  where
    go : (o : Option (ℕ × List ℕ)) → IfSome o → IfRead IsSmall (field o)
    go None small = tt
    go (Some x) small = small

-- ---- frames

-- one that has a number that was read
with_number : (f : ℕ → FrameValue) (r : Result (ℕ × List ℕ) FrameError) → ((n : ℕ) → IsSmall n → AreSmall (f n)) → IfRead IsSmall r → IfRead AreSmall (as_frame f r)
with_number f (Ok x) all small = all x.0 small
with_number f (Err e) all small = tt

-- MAX_STREAM_DATA
stream_limit : (bytes : List ℕ) → IfRead AreSmall (as_frame max_stream_data (stream_limit_at bytes))
unfolding stream_limit_at
stream_limit bytes = behind_read AreSmall IsSmall max_stream_data (var_at bytes) _ (var_small bytes) (λ id first. behind_read AreSmall IsSmall max_stream_data (var_at id.1) _ (var_small id.1) (λ limit small. (small, tt)))

-- behind what is read of an id and its token, whatever that is
behind_any : {A : Type 0} (r : Result (A × List ℕ) FrameError) (rest : A × List ℕ → Result (NewConnectionIdValue × List ℕ) FrameError) → ((x : A × List ℕ) → IfRead AreSmall (as_frame new_connection_id (rest x))) → IfRead AreSmall (as_frame new_connection_id (r >>= rest))
behind_any (Ok x) rest h = h x
behind_any (Err e) rest h = tt

-- NEW_CONNECTION_ID
issued : (sequence retire : ℕ) (bytes : List ℕ) → IsSmall sequence → IfRead AreSmall (as_frame new_connection_id (issued_at sequence retire bytes))
unfolding issued_at id_and_token_at
issued sequence retire bytes small = go (nat_lt sequence retire)
  where
    go : (b : Bool) → IfRead AreSmall (as_frame new_connection_id (if b then Err Malformed else id_and_token_at sequence retire bytes))
    go true = tt
    go false = behind_any (connection_id_at bytes) _ (λ id. behind_any (block_at 16 id.1) _ (λ token. (tt, small)))

new_id : (bytes : List ℕ) → IfRead AreSmall (as_frame new_connection_id (new_connection_id_at bytes))
unfolding new_connection_id_at
new_id bytes = behind_read AreSmall IsSmall new_connection_id (var_at bytes) _ (var_small bytes) (λ sequence small. behind_any (var_at sequence.1) _ (λ retire. issued sequence.0 retire.0 retire.1 small))

-- of each kind
of_kind : (kind : Kind) (bytes : List ℕ) → IfRead AreSmall (of_kind_at kind bytes)
of_kind is_padding bytes = (tt, tt)
of_kind is_ping bytes = (tt, tt)
of_kind (is_ack ecn) bytes = framed AreSmall ack (ack_at ecn bytes) (λ x. (tt, tt))
of_kind is_reset_stream bytes = framed AreSmall reset_stream (reset_stream_at bytes) (λ x. (tt, tt))
of_kind is_stop_sending bytes = framed AreSmall stop_sending (stop_sending_at bytes) (λ x. (tt, tt))
of_kind is_crypto bytes = framed AreSmall crypto (crypto_at bytes) (λ x. (tt, tt))
of_kind is_new_token bytes = framed AreSmall new_token (sized_at bytes) (λ x. (tt, tt))
of_kind (is_stream written len fin) bytes = framed AreSmall stream (stream_at written len fin bytes) (λ x. (tt, tt))
of_kind is_max_data bytes = with_number max_data (var_at bytes) (λ n small. (small, tt)) (var_small bytes)
of_kind is_max_stream_data bytes = stream_limit bytes
of_kind (is_max_streams one_way) bytes = framed AreSmall (λ k. max_streams (counted one_way k)) (var_at bytes) (λ x. (tt, tt))
of_kind is_data_blocked bytes = framed AreSmall data_blocked (var_at bytes) (λ x. (tt, tt))
of_kind is_stream_data_blocked bytes = framed AreSmall stream_data_blocked (stream_limit_at bytes) (λ x. (tt, tt))
of_kind (is_streams_blocked one_way) bytes = framed AreSmall (λ k. streams_blocked (counted one_way k)) (var_at bytes) (λ x. (tt, tt))
of_kind is_new_connection_id bytes = new_id bytes
of_kind is_retire_connection_id bytes = framed AreSmall retire_connection_id (var_at bytes) (λ x. (tt, tt))
of_kind is_path_challenge bytes = framed AreSmall path_challenge (block_at 8 bytes) (λ x. (tt, tt))
of_kind is_path_response bytes = framed AreSmall path_response (block_at 8 bytes) (λ x. (tt, tt))
of_kind is_connection_close bytes = framed AreSmall connection_close (connection_close_at bytes) (λ x. (tt, tt))
of_kind is_application_close bytes = framed AreSmall application_close (application_close_at bytes) (λ x. (tt, tt))
of_kind is_handshake_done bytes = (tt, tt)
of_kind is_immediate_ack bytes = (tt, tt)
of_kind (is_datagram len) bytes = framed AreSmall datagram (data_at len bytes) (λ x. (tt, tt))
of_kind is_ack_frequency bytes = framed AreSmall ack_frequency (ack_frequency_at bytes) (λ x. (tt, tt))
of_kind kind bytes = tt

-- so it is of each frame that is read of a payload
pub brings_small : (bytes : List ℕ) (f : FrameValue) → In f (frames_of (items bytes)) → AreSmall f
brings_small = by_kinds AreSmall of_kind
