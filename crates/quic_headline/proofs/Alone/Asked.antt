-- An id that a frame of a payload brings asks for none above it to be retired, and has 20 bytes at
-- most: another frame isn't read (RFC 9000, section 19.15).
use Rattle.std.proofs.Common.{◌≡◌, ℕ, ◌≤◌, ◌==◌, ◌||◌, Bool, true, false, List, take, drop, length, Result, Ok, Err, refl, arith}
use Rattle.std.specs.Prelude.{nat_lt, if◌then◌else◌}
use Rattle.std.proofs.lemmas.Bool.{ltb-false, or_parts}
use Rattle.std.proofs.lemmas.List.{length-take}
use Rattle.quic_wire_core.specs.Taking.{◌>>=◌}
use Rattle.quic_wire.specs.declared.frame.FrameError.{FrameError}
use Rattle.quic_wire.specs.declared.frame.FrameError.TheVariants.{Malformed, UnexpectedEnd}
use Rattle.quic_wire.specs.Value.{FrameValue, NewConnectionIdValue, ack, reset_stream, stop_sending, crypto, new_token, stream, max_data, max_stream_data, max_streams, data_blocked, stream_data_blocked, streams_blocked, new_connection_id, retire_connection_id, path_challenge, path_response, connection_close, application_close, datagram, ack_frequency}
use Rattle.quic_wire.specs.FrameTypes.{Kind, is_padding, is_ping, is_ack, is_reset_stream, is_stop_sending, is_crypto, is_new_token, is_stream, is_max_data, is_max_stream_data, is_max_streams, is_data_blocked, is_stream_data_blocked, is_streams_blocked, is_new_connection_id, is_retire_connection_id, is_path_challenge, is_path_response, is_connection_close, is_application_close, is_handshake_done, is_immediate_ack, is_datagram, is_ack_frequency}
use Rattle.quic_wire.specs.AckReading.{ack_at}
use Rattle.quic_wire.specs.Reading.{var_at, byte_at, block_at, id_at, sized_at, reset_stream_at, stop_sending_at, crypto_at, data_at, stream_at, stream_limit_at, connection_id_at, id_and_token_at, issued_at, new_connection_id_at, connection_close_at, application_close_at, ack_frequency_at, counted, as_frame, of_kind_at}
use Rattle.quic_wire.specs.Items.{items}
use Rattle.quic_headline.specs.Runs.{In, frames_of}
use Rattle.quic_headline.proofs.Alone.Items.{IfRead, framed, behind_read, by_kinds}

-- an id asks for none above it to be retired, and is short
abbrev pub BringsId : FrameValue → Type 0
BringsId (new_connection_id f) = (f.retire_prior_to ≤ f.sequence) × (length f.id ≤ 20)
BringsId f = Unit {0}

-- ---- a frame behind its type

-- an id is short
abbrev IsShort : List ℕ → Type 0
IsShort id = length id ≤ 20

sized : (n : ℕ) (bytes : List ℕ) → IfRead IsShort (id_at n bytes)
unfolding id_at block_at
sized n bytes = go (n == 0 || nat_lt 20 n) refl (nat_lt (length bytes) n)
  where
    go : (wrong : Bool) → (n == 0 || nat_lt 20 n) ≡ wrong → (ends : Bool) → IfRead IsShort (if wrong then Err Malformed else (if ends then Err UnexpectedEnd else Ok (take n bytes, drop n bytes)))
    go true is ends = tt
    go false is true = tt
    go false is false = (
        let below = ltb-false 20 n (or_parts (n == 0) (nat_lt 20 n) is).1 in
        let taken = length-take n bytes in
        omega arith)

of_length : (r : Result (ℕ × List ℕ) FrameError) → IfRead IsShort (r >>= (λ n. id_at n.0 n.1))
of_length (Ok n) = sized n.0 n.1
of_length (Err e) = tt

short_id : (bytes : List ℕ) → IfRead IsShort (connection_id_at bytes)
unfolding connection_id_at
short_id bytes = of_length (byte_at bytes)

-- behind what is read of a frame, whatever that is
behind_any : {A : Type 0} (r : Result (A × List ℕ) FrameError) (rest : A × List ℕ → Result (NewConnectionIdValue × List ℕ) FrameError) → ((x : A × List ℕ) → IfRead BringsId (as_frame new_connection_id (rest x))) → IfRead BringsId (as_frame new_connection_id (r >>= rest))
behind_any (Ok x) rest h = h x
behind_any (Err e) rest h = tt

-- NEW_CONNECTION_ID
issued : (sequence retire : ℕ) (bytes : List ℕ) → IfRead BringsId (as_frame new_connection_id (issued_at sequence retire bytes))
unfolding issued_at id_and_token_at
issued sequence retire bytes = go (nat_lt sequence retire) refl
  where
    go : (b : Bool) → nat_lt sequence retire ≡ b → IfRead BringsId (as_frame new_connection_id (if b then Err Malformed else id_and_token_at sequence retire bytes))
    go true is = tt
    go false is = behind_read BringsId IsShort new_connection_id (connection_id_at bytes) _ (short_id bytes) (λ id short. behind_any (block_at 16 id.1) _ (λ token. (ltb-false sequence retire is, short)))

new_id : (bytes : List ℕ) → IfRead BringsId (as_frame new_connection_id (new_connection_id_at bytes))
unfolding new_connection_id_at
new_id bytes = behind_any (var_at bytes) _ (λ sequence. behind_any (var_at sequence.1) _ (λ retire. issued sequence.0 retire.0 retire.1))

-- of each kind
of_kind : (kind : Kind) (bytes : List ℕ) → IfRead BringsId (of_kind_at kind bytes)
of_kind is_padding bytes = tt
of_kind is_ping bytes = tt
of_kind (is_ack ecn) bytes = framed BringsId ack (ack_at ecn bytes) (λ x. tt)
of_kind is_reset_stream bytes = framed BringsId reset_stream (reset_stream_at bytes) (λ x. tt)
of_kind is_stop_sending bytes = framed BringsId stop_sending (stop_sending_at bytes) (λ x. tt)
of_kind is_crypto bytes = framed BringsId crypto (crypto_at bytes) (λ x. tt)
of_kind is_new_token bytes = framed BringsId new_token (sized_at bytes) (λ x. tt)
of_kind (is_stream written len fin) bytes = framed BringsId stream (stream_at written len fin bytes) (λ x. tt)
of_kind is_max_data bytes = framed BringsId max_data (var_at bytes) (λ x. tt)
of_kind is_max_stream_data bytes = framed BringsId max_stream_data (stream_limit_at bytes) (λ x. tt)
of_kind (is_max_streams one_way) bytes = framed BringsId (λ k. max_streams (counted one_way k)) (var_at bytes) (λ x. tt)
of_kind is_data_blocked bytes = framed BringsId data_blocked (var_at bytes) (λ x. tt)
of_kind is_stream_data_blocked bytes = framed BringsId stream_data_blocked (stream_limit_at bytes) (λ x. tt)
of_kind (is_streams_blocked one_way) bytes = framed BringsId (λ k. streams_blocked (counted one_way k)) (var_at bytes) (λ x. tt)
of_kind is_new_connection_id bytes = new_id bytes
of_kind is_retire_connection_id bytes = framed BringsId retire_connection_id (var_at bytes) (λ x. tt)
of_kind is_path_challenge bytes = framed BringsId path_challenge (block_at 8 bytes) (λ x. tt)
of_kind is_path_response bytes = framed BringsId path_response (block_at 8 bytes) (λ x. tt)
of_kind is_connection_close bytes = framed BringsId connection_close (connection_close_at bytes) (λ x. tt)
of_kind is_application_close bytes = framed BringsId application_close (application_close_at bytes) (λ x. tt)
of_kind is_handshake_done bytes = tt
of_kind is_immediate_ack bytes = tt
of_kind (is_datagram len) bytes = framed BringsId datagram (data_at len bytes) (λ x. tt)
of_kind is_ack_frequency bytes = framed BringsId ack_frequency (ack_frequency_at bytes) (λ x. tt)
of_kind kind bytes = tt

-- so it is of each frame that is read of a payload
pub brings_id : (bytes : List ℕ) (f : FrameValue) → In f (frames_of (items bytes)) → BringsId f
brings_id = by_kinds BringsId of_kind
