-- What the frames of a datagram may bring that is to be told is no more than the datagram has
-- bytes: a frame that may bring two things has two bytes or more.
use Rattle.std.proofs.Common.{◌≡◌, ℕ, zero, suc, ◌+◌, ◌-◌, ◌≤◌, ◌<◌, Bool, true, false, List, [], ◌∷◌, ◌++◌, length, take, drop, length-append, length-take, length-drop, Option, Some, None, Result, Ok, Err, refl, ap, arith}
use Rattle.std.specs.Prelude.{slice_index, nat_lt, ◌^◌, if◌then◌else◌}
use Rattle.quic_wire_core.specs.Taking.{◌>>=◌}
use Rattle.quic_wire_core.specs.Varint.{varint_at}
use Rattle.quic_wire.specs.declared.frame.FrameError.{FrameError}
use Rattle.quic_wire.specs.declared.frame.InvalidFrame.{InvalidFrame}
use Rattle.quic_wire.specs.Value.{FrameValue, ack, reset_stream, stop_sending, crypto, new_token, stream, max_data, max_stream_data, max_streams, data_blocked, stream_data_blocked, streams_blocked, new_connection_id, retire_connection_id, path_challenge, path_response, connection_close, application_close, datagram, ack_frequency}
use Rattle.quic_wire.specs.FrameTypes.{Kind, is_padding, is_ping, is_ack, is_reset_stream, is_stop_sending, is_crypto, is_new_token, is_stream, is_max_data, is_max_stream_data, is_max_streams, is_data_blocked, is_stream_data_blocked, is_streams_blocked, is_new_connection_id, is_retire_connection_id, is_path_challenge, is_path_response, is_connection_close, is_application_close, is_handshake_done, is_immediate_ack, is_datagram, is_ack_frequency, kind_of}
use Rattle.quic_wire.specs.Reading.{field, var_at, block_at, sized_at, reset_stream_at, stop_sending_at, crypto_at, data_at, stream_at, stream_limit_at, new_connection_id_at, connection_close_at, application_close_at, ack_frequency_at, counted, as_frame, of_kind_at, body_at}
use Rattle.quic_wire.specs.AckReading.{ack_at}
use Rattle.quic_wire.specs.Items.{frame_at, behind_type, refused, first_and, items_within, items}
use Rattle.quic_wire.proofs.FieldShrinks.{Leaves, bind, LeavesFewer, varint_fewer, var}
use Rattle.quic_wire.proofs.FrameShrinks.{FrameLeavesFewer, frame_fewer}
use Rattle.quic_packet.specs.Keys.{Protection, Aead, KeepsLength, OpensNoMore, width_in, sample, with_header, unshielded}
use Rattle.quic_packet.specs.Number.{expanded}
use Rattle.quic_packet.specs.Datagram.{Opening, opening_of, truncated_in, opened_packet}
use Rattle.quic_headline.proofs.Alone.Taking.{Items}

-- how much a frame may bring that is to be told: of STOP_SENDING and MAX_STREAM_DATA that it opens
-- a stream, too
abbrev pub brings : FrameValue → ℕ
brings (stop_sending f) = 2
brings (max_stream_data f) = 2
brings f = 1

-- and all items of a payload
abbrev pub brings_in : Items → ℕ
brings_in [] = 0
brings_in (Ok f ∷ is) = brings f + brings_in is
brings_in (Err x ∷ is) = brings_in is

-- ---- a frame behind its type

-- fewer than n bytes are left
abbrev LeavesLess : {A E : Type 0} → ℕ → Result (A × List ℕ) E → Type 0
LeavesLess n (Ok x) = length x.1 < n
LeavesLess n (Err e) = Unit {0}

less : {A E : Type 0} (m n : ℕ) (r : Result (A × List ℕ) E) → m < n → Leaves m r → LeavesLess n r
less m n (Ok x) lt h = let most = h.most in omega arith
less m n (Err e) lt h = tt

-- fewer are left behind a number, and what else is read behind it
behind_number : {A : Type 0} (bytes : List ℕ) (f : ℕ × List ℕ → Result (A × List ℕ) FrameError) → ((x : ℕ × List ℕ) → Leaves (length x.1) (f x)) → LeavesLess (length bytes) (var_at bytes >>= f)
behind_number {A} bytes f leaves = go (varint_at bytes) (varint_fewer bytes)
  where
    go : (o : Option (ℕ × List ℕ)) → LeavesFewer (length bytes) o → LeavesLess (length bytes) (field o >>= f)
    go (Some x) fewer = less (length x.1) (length bytes) (f x) fewer (leaves x)
    go None fewer = tt

stop_less : (bytes : List ℕ) → LeavesLess (length bytes) (stop_sending_at bytes)
unfolding stop_sending_at
stop_less bytes = behind_number bytes _ (λ id. bind (length id.1) (var_at id.1) _ (var (length id.1) id.1 (omega arith)) (λ code h. record { most = h }))

limit_less : (bytes : List ℕ) → LeavesLess (length bytes) (stream_limit_at bytes)
unfolding stream_limit_at
limit_less bytes = behind_number bytes _ (λ id. bind (length id.1) (var_at id.1) _ (var (length id.1) id.1 (omega arith)) (λ limit h. record { most = h }))

-- of n bytes a frame that may bring two things takes two or more
abbrev TakesTwo : ℕ → FrameValue → List ℕ → Type 0
TakesTwo n (stop_sending f) rest = length rest + 2 ≤ n
TakesTwo n (max_stream_data f) rest = length rest + 2 ≤ n
TakesTwo n f rest = Unit {0}

abbrev ReadsTwo : {E : Type 0} → ℕ → Result (FrameValue × List ℕ) E → Type 0
ReadsTwo n (Ok x) = TakesTwo n x.0 x.1
ReadsTwo n (Err e) = Unit {0}

framed : {T : Type 0} (n : ℕ) (f : T → FrameValue) (r : Result (T × List ℕ) FrameError) → ((x : T) (rest : List ℕ) → TakesTwo n (f x) rest) → ReadsTwo n (as_frame f r)
framed n f (Ok x) h = h x.0 x.1
framed n f (Err e) h = tt

framed_less : {T : Type 0} (n m : ℕ) (f : T → FrameValue) (r : Result (T × List ℕ) FrameError) → LeavesLess m r → ((x : T) (rest : List ℕ) → length rest < m → TakesTwo n (f x) rest) → ReadsTwo n (as_frame f r)
framed_less n m f (Ok x) lt h = h x.0 x.1 lt
framed_less n m f (Err e) lt h = tt

-- of each kind
of_kind : (kind : Kind) (n : ℕ) (bytes : List ℕ) → length bytes < n → ReadsTwo n (of_kind_at kind bytes)
of_kind is_padding n bytes lt = tt
of_kind is_ping n bytes lt = tt
of_kind (is_ack ecn) n bytes lt = framed n ack (ack_at ecn bytes) (λ x rest. tt)
of_kind is_reset_stream n bytes lt = framed n reset_stream (reset_stream_at bytes) (λ x rest. tt)
of_kind is_stop_sending n bytes lt = framed_less n (length bytes) stop_sending (stop_sending_at bytes) (stop_less bytes) (λ x rest fewer. omega arith)
of_kind is_crypto n bytes lt = framed n crypto (crypto_at bytes) (λ x rest. tt)
of_kind is_new_token n bytes lt = framed n new_token (sized_at bytes) (λ x rest. tt)
of_kind (is_stream written len fin) n bytes lt = framed n stream (stream_at written len fin bytes) (λ x rest. tt)
of_kind is_max_data n bytes lt = framed n max_data (var_at bytes) (λ x rest. tt)
of_kind is_max_stream_data n bytes lt = framed_less n (length bytes) max_stream_data (stream_limit_at bytes) (limit_less bytes) (λ x rest fewer. omega arith)
of_kind (is_max_streams one_way) n bytes lt = framed n (λ k. max_streams (counted one_way k)) (var_at bytes) (λ x rest. tt)
of_kind is_data_blocked n bytes lt = framed n data_blocked (var_at bytes) (λ x rest. tt)
of_kind is_stream_data_blocked n bytes lt = framed n stream_data_blocked (stream_limit_at bytes) (λ x rest. tt)
of_kind (is_streams_blocked one_way) n bytes lt = framed n (λ k. streams_blocked (counted one_way k)) (var_at bytes) (λ x rest. tt)
of_kind is_new_connection_id n bytes lt = framed n new_connection_id (new_connection_id_at bytes) (λ x rest. tt)
of_kind is_retire_connection_id n bytes lt = framed n retire_connection_id (var_at bytes) (λ x rest. tt)
of_kind is_path_challenge n bytes lt = framed n path_challenge (block_at 8 bytes) (λ x rest. tt)
of_kind is_path_response n bytes lt = framed n path_response (block_at 8 bytes) (λ x rest. tt)
of_kind is_connection_close n bytes lt = framed n connection_close (connection_close_at bytes) (λ x rest. tt)
of_kind is_application_close n bytes lt = framed n application_close (application_close_at bytes) (λ x rest. tt)
of_kind is_handshake_done n bytes lt = tt
of_kind is_immediate_ack n bytes lt = tt
of_kind (is_datagram len) n bytes lt = framed n datagram (data_at len bytes) (λ x rest. tt)
of_kind is_ack_frequency n bytes lt = framed n ack_frequency (ack_frequency_at bytes) (λ x rest. tt)
of_kind kind n bytes lt = tt

behind_its_type : (type n : ℕ) (bytes : List ℕ) → length bytes < n → ReadsTwo n (body_at type bytes)
unfolding body_at
behind_its_type type n bytes lt = of_kind (kind_of type) n bytes lt

-- ---- a whole payload

unless_refused : (n : ℕ) (type : Option ℕ) (r : Result (FrameValue × List ℕ) FrameError) → ReadsTwo n r → ReadsTwo n (refused type r)
unless_refused n type (Ok x) h = h
unless_refused n type (Err e) h = tt

behind_any_type : (n : ℕ) (o : Option (ℕ × List ℕ)) → LeavesFewer n o → ReadsTwo n (behind_type (field o))
behind_any_type n (Some x) fewer = unless_refused n (Some x.0) (body_at x.0 x.1) (behind_its_type x.0 n x.1 fewer)
behind_any_type n None fewer = tt

frame_two : (bytes : List ℕ) → ReadsTwo (length bytes) (frame_at bytes)
unfolding frame_at
frame_two bytes = behind_any_type (length bytes) (varint_at bytes) (varint_fewer bytes)

-- a frame takes as many bytes as it may bring
takes : (f : FrameValue) (n : ℕ) (rest : List ℕ) → TakesTwo n f rest → length rest < n → brings f + length rest ≤ n
takes (stop_sending f) n rest two fewer = omega arith
takes (max_stream_data f) n rest two fewer = omega arith
takes f n rest two fewer = omega arith

first : (n : ℕ) (others : List ℕ → Items) → ((bytes : List ℕ) → brings_in (others bytes) ≤ length bytes) → (r : Result (FrameValue × List ℕ) InvalidFrame) → ReadsTwo n r → FrameLeavesFewer n r → brings_in (first_and others r) ≤ n
first n others all (Ok x) two fewer = let one = takes x.0 n x.1 two fewer in let more = all x.1 in omega arith
first n others all (Err e) two fewer = omega arith

within : (n : ℕ) (bytes : List ℕ) → brings_in (items_within n bytes) ≤ length bytes
unfolding items_within
within zero bytes = omega arith
within (suc n) [] = omega arith
within (suc n) (b ∷ bytes) = first (length (b ∷ bytes)) (items_within n) (within n) (frame_at (b ∷ bytes)) (frame_two (b ∷ bytes)) (frame_fewer (b ∷ bytes))

-- the frames of a payload bring no more than it has bytes
pub payload_brings : (bytes : List ℕ) → brings_in (items bytes) ≤ length bytes
unfolding items
payload_brings bytes = within (length bytes) bytes

-- ---- a datagram

-- behind its header a packet has at most as many bytes as before
header_fits : (at first : ℕ) (shown d : List ℕ) → length shown ≡ length (take (width_in first) (drop at d)) → length (drop (at + width_in first) (with_header at d first shown)) ≤ length d
header_fits at first shown d same =
    let left = drop (at + length shown) d in
    let parts = length-append (take (at - 1) (drop 1 d)) (shown ++ left) in
    omega (arith, same, length-drop (at + width_in first) (with_header at d first shown), parts, length-append shown left, length-take (at - 1) (drop 1 d), length-drop 1 d, length-drop (at + length shown) d, length-take (width_in first) (drop at d), length-drop at d)

-- a datagram opens to a payload of at most as many bytes
pub payload_fits : (protection : Protection) (aead : Aead) (at expected : ℕ) (d : List ℕ) (o : Opening) → KeepsLength protection.reveal → OpensNoMore aead.unseal → opened_packet protection aead at expected d ≡ Some o → length o.payload ≤ length d
payload_fits protection aead at expected d o keeps opens = go (nat_lt n (2 ^ 62)) (aead.unseal n (take header packet) (drop header packet)) refl
  where
    packet : List ℕ
    packet = unshielded protection at d

    header : ℕ
    header = at + width_in (slice_index packet 0)

    n : ℕ
    n = expanded (truncated_in at packet) expected

    shorter : length (drop header packet) ≤ length d
    shorter =
        let first = protection.unmask (sample at d) (slice_index d 0) in
        header_fits at first (protection.reveal (sample at d) (take (width_in first) (drop at d))) d (keeps (sample at d) (take (width_in first) (drop at d)))

    go : (b : Bool) (u : Option (List ℕ)) → aead.unseal n (take header packet) (drop header packet) ≡ u → (if b then opening_of (slice_index packet 0) n u else None) ≡ Some o → length o.payload ≤ length d
    go false u is opened = cc
    go true None is opened = cc
    go true (Some p) is opened =
        let same : ◌≡◌ {A = Opening} (record { first = slice_index packet 0; number = n; payload = p }) o = cc in
        let few = opens n (take header packet) (drop header packet) p is in
        let long = ap (λ (x : Opening). length x.payload) same in
        omega (arith, few, long, shorter)
