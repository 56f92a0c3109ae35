-- What is read of a payload has the form of its fields: a limit on a stream, the code of a close
-- and the number of an id are below 2 ^ 62, and an id asks for none above it to be retired.
use Rattle.std.proofs.Common.{◌≡◌, ℕ, zero, suc, ◌<◌, ◌^◌, ◌/◌, ◌%◌, Bool, true, false, cond, ltb, eqb, List, [], ◌∷◌, length, take, drop, Option, Some, None, Result, Ok, Err, refl, arith}
use Rattle.std.specs.Prelude.{slice_index, nat_lt, if◌then◌else◌}
use Rattle.std.proofs.lemmas.Bool.{ltb-false}
use Rattle.std.specs.Int.{w8, w16, w32, w64, from_be_bytes}
use Rattle.quic_wire_core.specs.Varint.{varint_at, wide_at}
use Rattle.quic_wire_core.specs.Taking.{◌>>=◌}
use Rattle.quic_wire.specs.declared.frame.FrameError.{FrameError}
use Rattle.quic_wire.specs.declared.frame.FrameError.TheVariants.{Malformed}
use Rattle.quic_wire.specs.declared.frame.InvalidFrame.{InvalidFrame}
use Rattle.quic_wire.specs.Value.{FrameValue, ack, reset_stream, stop_sending, crypto, new_token, stream, max_data, max_stream_data, max_streams, data_blocked, stream_data_blocked, streams_blocked, new_connection_id, retire_connection_id, path_challenge, path_response, connection_close, application_close, datagram, ack_frequency}
use Rattle.quic_wire.specs.FrameTypes.{Kind, is_padding, is_ping, is_ack, is_reset_stream, is_stop_sending, is_crypto, is_new_token, is_stream, is_max_data, is_max_stream_data, is_max_streams, is_data_blocked, is_stream_data_blocked, is_streams_blocked, is_new_connection_id, is_retire_connection_id, is_path_challenge, is_path_response, is_connection_close, is_application_close, is_handshake_done, is_immediate_ack, is_datagram, is_ack_frequency, kind_of}
use Rattle.quic_wire.specs.AckReading.{ack_at}
use Rattle.quic_wire.specs.Reading.{field, var_at, block_at, sized_at, reset_stream_at, stop_sending_at, crypto_at, data_at, stream_at, stream_limit_at, connection_id_at, id_and_token_at, issued_at, new_connection_id_at, connection_close_at, application_close_at, ack_frequency_at, counted, as_frame, of_kind_at, body_at}
use Rattle.quic_wire.specs.Items.{frame_at, behind_type, refused, first_and, items_within, items}
use Rattle.quic_connection_parts.specs.Faults.{HasForm, AllHaveForm}

-- ---- numbers

-- the number that was read, if one was, is below 2 ^ 62
abbrev IsSmallAt : Option (ℕ × List ℕ) → Type 0
IsSmallAt (Some x) = x.0 < 2 ^ 62
IsSmallAt None = Unit {0}

chosen : (b : Bool) (r s : Option (ℕ × List ℕ)) → IsSmallAt r → IsSmallAt s → IsSmallAt (cond b r s)
chosen true r s h k = h
chosen false r s h k = k

unless : (b : Bool) (n : ℕ) (rest : List ℕ) → n < 2 ^ 62 → IsSmallAt (cond b None (Some (n, rest)))
unless true n rest h = tt
unless false n rest h = h

of_8 : (bytes : List ℕ) → IsSmallAt (wide_at w8 bytes)
of_8 bytes = unless (ltb (length bytes) 1) (from_be_bytes w8 (take 1 bytes) % 64) (drop 1 bytes) (omega arith)

of_16 : (bytes : List ℕ) → IsSmallAt (wide_at w16 bytes)
of_16 bytes = unless (ltb (length bytes) 2) (from_be_bytes w16 (take 2 bytes) % 16384) (drop 2 bytes) (omega arith)

of_32 : (bytes : List ℕ) → IsSmallAt (wide_at w32 bytes)
of_32 bytes = unless (ltb (length bytes) 4) (from_be_bytes w32 (take 4 bytes) % 1073741824) (drop 4 bytes) (omega arith)

of_64 : (bytes : List ℕ) → IsSmallAt (wide_at w64 bytes)
of_64 bytes = unless (ltb (length bytes) 8) (from_be_bytes w64 (take 8 bytes) % 4611686018427387904) (drop 8 bytes) (omega arith)

varint_small : (bytes : List ℕ) → IsSmallAt (varint_at bytes)
varint_small bytes =
    let t = slice_index bytes 0 / 2 ^ 6 in
    chosen (eqb t 0) (wide_at w8 bytes) _ (of_8 bytes)
    (chosen (eqb t 1) (wide_at w16 bytes) _ (of_16 bytes)
    (chosen (eqb t 2) (wide_at w32 bytes) (wide_at w64 bytes) (of_32 bytes) (of_64 bytes)))

-- ---- frames behind their types

-- the frame that was read, if one was, has the form of its fields
abbrev HasFormAt : {E : Type 0} → Result (FrameValue × List ℕ) E → Type 0
HasFormAt (Ok x) = HasForm x.0
HasFormAt (Err e) = Unit {0}

framed : {T : Type 0} (f : T → FrameValue) (r : Result (T × List ℕ) FrameError) → ((x : T) → HasForm (f x)) → HasFormAt (as_frame f r)
framed f (Ok x) h = h x.0
framed f (Err e) h = tt

-- what stands behind a number has the form of its fields where it has it behind every number below
-- 2 ^ 62
behind_number : {T : Type 0} (f : T → FrameValue) (o : Option (ℕ × List ℕ)) (rest : ℕ × List ℕ → Result (T × List ℕ) FrameError) → IsSmallAt o → ((x : ℕ × List ℕ) → x.0 < 2 ^ 62 → HasFormAt (as_frame f (rest x))) → HasFormAt (as_frame f (field o >>= rest))
behind_number f (Some x) rest small h = h x small
behind_number f None rest small h = tt

-- and behind anything else that is read where it has it behind all of that
behind_read : {A T : Type 0} (f : T → FrameValue) (r : Result A FrameError) (rest : A → Result (T × List ℕ) FrameError) → ((x : A) → HasFormAt (as_frame f (rest x))) → HasFormAt (as_frame f (r >>= rest))
behind_read f (Ok x) rest h = h x
behind_read f (Err e) rest h = tt

stream_limit : (bytes : List ℕ) → HasFormAt (as_frame max_stream_data (stream_limit_at bytes))
unfolding stream_limit_at
stream_limit bytes = behind_number max_stream_data (varint_at bytes) _ (varint_small bytes) (λ id small. behind_number max_stream_data (varint_at id.1) _ (varint_small id.1) (λ limit h. h))

-- an id whose number is read asks for none above it to be retired
issued : (sequence retire : ℕ) (bytes : List ℕ) → sequence < 2 ^ 62 → HasFormAt (as_frame new_connection_id (issued_at sequence retire bytes))
unfolding issued_at id_and_token_at
issued sequence retire bytes small = go (nat_lt sequence retire) refl
  where
    go : (b : Bool) → nat_lt sequence retire ≡ b → HasFormAt (as_frame new_connection_id (if b then Err Malformed else id_and_token_at sequence retire bytes))
    go true is = tt
    go false is = behind_read new_connection_id (connection_id_at bytes) _ (λ id. behind_read new_connection_id (block_at 16 id.1) _ (λ token. (small, ltb-false sequence retire is)))

new_id : (bytes : List ℕ) → HasFormAt (as_frame new_connection_id (new_connection_id_at bytes))
unfolding new_connection_id_at
new_id bytes = behind_number new_connection_id (varint_at bytes) _ (varint_small bytes) (λ sequence small. behind_number new_connection_id (varint_at sequence.1) _ (varint_small sequence.1) (λ retire h. issued sequence.0 retire.0 retire.1 small))

close : (bytes : List ℕ) → HasFormAt (as_frame connection_close (connection_close_at bytes))
unfolding connection_close_at
close bytes = behind_number connection_close (varint_at bytes) _ (varint_small bytes) (λ code small. behind_number connection_close (varint_at code.1) _ (varint_small code.1) (λ type h. behind_read connection_close (sized_at type.1) _ (λ reason. (small, h))))

application : (bytes : List ℕ) → HasFormAt (as_frame application_close (application_close_at bytes))
unfolding application_close_at
application bytes = behind_number application_close (varint_at bytes) _ (varint_small bytes) (λ code small. behind_read application_close (sized_at code.1) _ (λ reason. small))

of_kind : (kind : Kind) (bytes : List ℕ) → HasFormAt (of_kind_at kind bytes)
of_kind is_padding bytes = tt
of_kind is_ping bytes = tt
of_kind (is_ack ecn) bytes = framed ack (ack_at ecn bytes) (λ x. tt)
of_kind is_reset_stream bytes = framed reset_stream (reset_stream_at bytes) (λ x. tt)
of_kind is_stop_sending bytes = framed stop_sending (stop_sending_at bytes) (λ x. tt)
of_kind is_crypto bytes = framed crypto (crypto_at bytes) (λ x. tt)
of_kind is_new_token bytes = framed new_token (sized_at bytes) (λ x. tt)
of_kind (is_stream written len fin) bytes = framed stream (stream_at written len fin bytes) (λ x. tt)
of_kind is_max_data bytes = framed max_data (var_at bytes) (λ x. tt)
of_kind is_max_stream_data bytes = stream_limit bytes
of_kind (is_max_streams one_way) bytes = framed (λ k. max_streams (counted one_way k)) (var_at bytes) (λ x. tt)
of_kind is_data_blocked bytes = framed data_blocked (var_at bytes) (λ x. tt)
of_kind is_stream_data_blocked bytes = framed stream_data_blocked (stream_limit_at bytes) (λ x. tt)
of_kind (is_streams_blocked one_way) bytes = framed (λ k. streams_blocked (counted one_way k)) (var_at bytes) (λ x. tt)
of_kind is_new_connection_id bytes = new_id bytes
of_kind is_retire_connection_id bytes = framed retire_connection_id (var_at bytes) (λ x. tt)
of_kind is_path_challenge bytes = framed path_challenge (block_at 8 bytes) (λ x. tt)
of_kind is_path_response bytes = framed path_response (block_at 8 bytes) (λ x. tt)
of_kind is_connection_close bytes = close bytes
of_kind is_application_close bytes = application bytes
of_kind is_handshake_done bytes = tt
of_kind is_immediate_ack bytes = tt
of_kind (is_datagram len) bytes = framed datagram (data_at len bytes) (λ x. tt)
of_kind is_ack_frequency bytes = framed ack_frequency (ack_frequency_at bytes) (λ x. tt)
of_kind kind bytes = tt

behind_its_type : (type : ℕ) (bytes : List ℕ) → HasFormAt (body_at type bytes)
unfolding body_at
behind_its_type type bytes = of_kind (kind_of type) bytes

-- ---- a whole payload

unless_refused : (type : Option ℕ) (r : Result (FrameValue × List ℕ) FrameError) → HasFormAt r → HasFormAt (refused type r)
unless_refused type (Ok x) h = h
unless_refused type (Err e) h = tt

behind_field : (o : Option (ℕ × List ℕ)) → HasFormAt (behind_type (field o))
behind_field (Some x) = unless_refused (Some x.0) (body_at x.0 x.1) (behind_its_type x.0 x.1)
behind_field None = tt

frame_has_form : (bytes : List ℕ) → HasFormAt (frame_at bytes)
unfolding frame_at
frame_has_form bytes = behind_field (varint_at bytes)

first : (others : List ℕ → List (Result FrameValue InvalidFrame)) → ((bytes : List ℕ) → AllHaveForm (others bytes)) → (r : Result (FrameValue × List ℕ) InvalidFrame) → HasFormAt r → AllHaveForm (first_and others r)
first others all (Ok x) h = (h, all x.1)
first others all (Err e) h = (tt, tt)

within : (n : ℕ) (bytes : List ℕ) → AllHaveForm (items_within n bytes)
unfolding items_within
within zero bytes = tt
within (suc n) [] = tt
within (suc n) (b ∷ bytes) = first (items_within n) (within n) (frame_at (b ∷ bytes)) (frame_has_form (b ∷ bytes))

-- all that is read of a payload
pub all_have_form : (bytes : List ℕ) → AllHaveForm (items bytes)
unfolding items
all_have_form bytes = within (length bytes) bytes
