-- The items but for PADDING: what stands behind a type that isn't 0 is none, and the type 0 is passed.
use Rattle.std.proofs.Common.{◌≡◌, ℕ, ◌<◌, ◌≤◌, ◌%◌, ◌==◌, inl, inr, true, false, List, [], ◌∷◌, ◌++◌, length, get_or, Option, Some, None, Result, Ok, Err, refl, sym, ap, ◌∙◌, subst, arith}
use Rattle.std.proofs.lemmas.Bool.{cases_eq}
use Rattle.std.proofs.lemmas.List.{nil_from_length}
use Rattle.quic_wire_core.specs.Coding.{IsBytes}
use Rattle.quic_wire_core.specs.Varint.{Spells, varint_at}
use Rattle.quic_wire_core.specs.Law.{varint_found, spells_again}
use Rattle.quic_wire.specs.declared.frame.FrameError.{FrameError}
use Rattle.quic_wire.specs.declared.frame.InvalidFrame.{InvalidFrame}
use Rattle.quic_wire.specs.Value.{FrameValue, StreamValue, padding, ack, reset_stream, stop_sending, crypto, new_token, stream, max_data, max_stream_data, max_streams, data_blocked, stream_data_blocked, streams_blocked, new_connection_id, retire_connection_id, path_challenge, path_response, connection_close, application_close, datagram, ack_frequency}
use Rattle.quic_wire.specs.FrameTypes.{Kind, is_padding, is_ping, is_ack, is_reset_stream, is_stop_sending, is_crypto, is_new_token, is_stream, is_max_data, is_max_stream_data, is_max_streams, is_data_blocked, is_stream_data_blocked, is_streams_blocked, is_new_connection_id, is_retire_connection_id, is_path_challenge, is_path_response, is_connection_close, is_application_close, is_handshake_done, is_immediate_ack, is_datagram, is_ack_frequency, is_unknown, kind_of, type_of, has_bit}
use Rattle.quic_wire.specs.Reading.{field, var_at, block_at, sized_at, reset_stream_at, stop_sending_at, crypto_at, data_at, stream_at, stream_limit_at, new_connection_id_at, connection_close_at, application_close_at, ack_frequency_at, counted, as_frame, of_kind_at, body_at}
use Rattle.quic_wire.specs.AckReading.{ack_at}
use Rattle.quic_wire.specs.Items.{frame_at, behind_type, refused, first_and, items, pads, without_padding, BeginsUnpadded}
use Rattle.quic_wire.proofs.FrameKinds.{type_of_kind, of_type, of_stream_type}
use Rattle.quic_wire.proofs.FrameShrinks.{frame_fewer}
use Rattle.quic_wire.proofs.FrameItems.{items_nil, items_step, items_ok, items_err}
use Rattle.quic_wire.proofs.FrameWhole.{form_items}
use Rattle.quic_wire.proofs.FrameWritten.{spelling_form}

-- ---- a type that isn't 0

-- a frame that was read is no PADDING
abbrev PadsNot : {E : Type 0} → Result (FrameValue × List ℕ) E → Type 0
PadsNot (Ok x) = pads (Ok x.0) ≡ false
PadsNot (Err e) = Unit {0}

made : {T : Type 0} (f : T → FrameValue) (r : Result (T × List ℕ) FrameError) → ((x : T) → pads (Ok (f x)) ≡ false) → PadsNot (as_frame f r)
made f (Ok x) none = none x.0
made f (Err e) none = tt

of_kind : (kind : Kind) (bytes : List ℕ) → ¬ (kind ≡ is_padding) → PadsNot (of_kind_at kind bytes)
of_kind is_padding bytes other = absurd (other refl)
of_kind is_ping bytes other = refl
of_kind (is_ack ecn) bytes other = made ack (ack_at ecn bytes) (λ x. refl)
of_kind is_reset_stream bytes other = made reset_stream (reset_stream_at bytes) (λ x. refl)
of_kind is_stop_sending bytes other = made stop_sending (stop_sending_at bytes) (λ x. refl)
of_kind is_crypto bytes other = made crypto (crypto_at bytes) (λ x. refl)
of_kind is_new_token bytes other = made new_token (sized_at bytes) (λ x. refl)
of_kind (is_stream written sized fin) bytes other = made stream (stream_at written sized fin bytes) (λ x. refl)
of_kind is_max_data bytes other = made max_data (var_at bytes) (λ x. refl)
of_kind is_max_stream_data bytes other = made max_stream_data (stream_limit_at bytes) (λ x. refl)
of_kind (is_max_streams one_way) bytes other = made (λ n. max_streams (counted one_way n)) (var_at bytes) (λ x. refl)
of_kind is_data_blocked bytes other = made data_blocked (var_at bytes) (λ x. refl)
of_kind is_stream_data_blocked bytes other = made stream_data_blocked (stream_limit_at bytes) (λ x. refl)
of_kind (is_streams_blocked one_way) bytes other = made (λ n. streams_blocked (counted one_way n)) (var_at bytes) (λ x. refl)
of_kind is_new_connection_id bytes other = made new_connection_id (new_connection_id_at bytes) (λ x. refl)
of_kind is_retire_connection_id bytes other = made retire_connection_id (var_at bytes) (λ x. refl)
of_kind is_path_challenge bytes other = made path_challenge (block_at 8 bytes) (λ x. refl)
of_kind is_path_response bytes other = made path_response (block_at 8 bytes) (λ x. refl)
of_kind is_connection_close bytes other = made connection_close (connection_close_at bytes) (λ x. refl)
of_kind is_application_close bytes other = made application_close (application_close_at bytes) (λ x. refl)
of_kind is_handshake_done bytes other = refl
of_kind is_immediate_ack bytes other = refl
of_kind (is_datagram sized) bytes other = made datagram (data_at sized bytes) (λ x. refl)
of_kind is_ack_frequency bytes other = made ack_frequency (ack_frequency_at bytes) (λ x. refl)
of_kind (is_unknown type) bytes other = tt

body_pads_not : (type : ℕ) (bytes : List ℕ) → ¬ (type ≡ 0) → PadsNot (body_at type bytes)
unfolding body_at
body_pads_not type bytes other = of_kind (kind_of type) bytes (λ is. other (sym (type_of_kind type) ∙ ap type_of is))

refused_pads_not : (type : Option ℕ) (r : Result (FrameValue × List ℕ) FrameError) → PadsNot r → PadsNot (refused type r)
refused_pads_not type (Ok x) none = none
refused_pads_not type (Err e) none = tt

behind_pads_not : (r : Result (ℕ × List ℕ) FrameError) → ((rest : List ℕ) → ¬ (r ≡ Ok (0, rest))) → PadsNot (behind_type r)
behind_pads_not (Ok x) other = refused_pads_not (Some x.0) (body_at x.0 x.1) (body_pads_not x.0 x.1 (λ is. other x.1 (ap (λ (n : ℕ). Ok (n, x.1)) is)))
behind_pads_not (Err e) other = tt

begins_with : (r : Result (FrameValue × List ℕ) InvalidFrame) → PadsNot r → BeginsUnpadded (first_and items r)
begins_with (Ok x) none = none
begins_with (Err e) none = refl

-- where the type isn't 0, no PADDING stands in front
begins : (bytes : List ℕ) → ((rest : List ℕ) → ¬ (var_at bytes ≡ Ok (0, rest))) → BeginsUnpadded (items bytes)
unfolding frame_at
begins [] other = subst (λ (is : List (Result FrameValue InvalidFrame)). BeginsUnpadded is) (sym items_nil) tt
begins (b ∷ bytes) other = subst (λ (is : List (Result FrameValue InvalidFrame)). BeginsUnpadded is) (sym (items_step (b ∷ bytes) (omega arith))) (begins_with (frame_at (b ∷ bytes)) (behind_pads_not (var_at (b ∷ bytes)) other))

pub none_begins : (bytes : List ℕ) → length bytes ≡ 0 → BeginsUnpadded (items bytes)
none_begins bytes none = subst (λ (is : List (Result FrameValue InvalidFrame)). BeginsUnpadded is) (sym (ap items (nil_from_length bytes none) ∙ items_nil)) tt

-- ---- the type 0

zero_frame : (bytes rest : List ℕ) → var_at bytes ≡ Ok (0, rest) → frame_at bytes ≡ Ok (padding, rest)
unfolding frame_at body_at kind_of
zero_frame bytes rest read = ap behind_type read

-- it is passed, and fewer bytes are left behind it
pub zero_passes : (bytes rest : List ℕ) → 0 < length bytes → var_at bytes ≡ Ok (0, rest) → without_padding (items bytes) ≡ without_padding (items rest)
unfolding without_padding
zero_passes bytes rest some read = ap without_padding (items_ok bytes padding rest some (zero_frame bytes rest read))

pub zero_fewer : (bytes rest : List ℕ) → var_at bytes ≡ Ok (0, rest) → length rest < length bytes
zero_fewer bytes rest read = rw (zero_frame bytes rest read) at (frame_fewer bytes)

-- a byte 0 is that type
pub zero_byte : (rest : List ℕ) → without_padding (items (0 ∷ rest)) ≡ without_padding (items rest)
unfolding without_padding
zero_byte rest = ap without_padding (form_items padding (0 ∷ []) rest (spelling_form padding rest tt))

-- in each width it begins with a byte whose lower six bits are 0
low_bits : (front rest : List ℕ) → Spells 0 front → get_or (front ++ rest) 0 0 % 64 ≡ 0
low_bits front rest (inl h) = ap (λ (f : List ℕ). get_or (f ++ rest) 0 0 % 64) h.1
low_bits front rest (inr (inl h)) = ap (λ (f : List ℕ). get_or (f ++ rest) 0 0 % 64) h.1
low_bits front rest (inr (inr (inl h))) = ap (λ (f : List ℕ). get_or (f ++ rest) 0 0 % 64) h.1
low_bits front rest (inr (inr (inr h))) = ap (λ (f : List ℕ). get_or (f ++ rest) 0 0 % 64) h.1

some_of : (o : Option (ℕ × List ℕ)) (x : ℕ × List ℕ) → field o ≡ Ok x → o ≡ Some x
some_of (Some y) x is = ap Some cc
some_of None x is = absurd cc

zero_begins : (bytes rest : List ℕ) → IsBytes bytes → var_at bytes ≡ Ok (0, rest) → get_or bytes 0 0 % 64 ≡ 0
zero_begins bytes rest fits read =
    let b = varint_found bytes 0 rest fits (some_of (varint_at bytes) (0, rest) read) in
    ap (λ (x : List ℕ). get_or x 0 0 % 64) b.parts ∙ low_bits b.front rest b.spells

-- a type that is read once isn't another
one_type : (r : Result (ℕ × List ℕ) FrameError) (x y : ℕ × List ℕ) → r ≡ Ok x → r ≡ Ok y → x ≡ y
one_type r x y a b = let both = sym a ∙ b in cc

no_type : (r : Result (ℕ × List ℕ) FrameError) (e : FrameError) (x : ℕ × List ℕ) → r ≡ Err e → r ≡ Ok x → ⊥
no_type r e x a b = let both = sym a ∙ b in cc

pub typed_begins : (bytes behind : List ℕ) (type : ℕ) → var_at bytes ≡ Ok (type, behind) → ¬ (type ≡ 0) → BeginsUnpadded (items bytes)
typed_begins bytes behind type read other = begins bytes (λ rest zero. other (ap (λ (x : ℕ × List ℕ). x.0) (one_type (var_at bytes) (type, behind) (0, rest) read zero)))

pub untyped_begins : (bytes : List ℕ) (e : FrameError) → var_at bytes ≡ Err e → BeginsUnpadded (items bytes)
untyped_begins bytes e read = begins bytes (λ rest zero. no_type (var_at bytes) e (0, rest) read zero)

pub high_begins : (bytes : List ℕ) → IsBytes bytes → ¬ (get_or bytes 0 0 % 64 ≡ 0) → BeginsUnpadded (items bytes)
high_begins bytes fits other = begins bytes (λ rest zero. other (zero_begins bytes rest fits zero))

-- ---- what is left

kept : (i : Result FrameValue InvalidFrame) (is all : List (Result FrameValue InvalidFrame)) → BeginsUnpadded all → all ≡ i ∷ is → without_padding all ≡ i ∷ without_padding is
unfolding without_padding
kept i is all begins first =
    let none : pads i ≡ false = subst (λ (xs : List (Result FrameValue InvalidFrame)). BeginsUnpadded xs) first begins in
    ap without_padding first ∙ rw none refl

pub nothing_left : without_padding (items []) ≡ []
unfolding without_padding
nothing_left = ap without_padding items_nil

-- what is read of bytes, where these are left behind PADDING
module _ (bytes rest : List ℕ) (same : without_padding (items bytes) ≡ without_padding (items rest)) where
  pub next_none : length rest ≡ 0 → without_padding (items bytes) ≡ []
  next_none none = same ∙ ap (λ (b : List ℕ). without_padding (items b)) (nil_from_length rest none) ∙ nothing_left

  module _ (some : 0 < length rest) where
    pub next_ok : BeginsUnpadded (items rest) → (f : FrameValue) (behind : List ℕ) → frame_at rest ≡ Ok (f, behind) → without_padding (items bytes) ≡ Ok f ∷ without_padding (items behind)
    next_ok begins f behind read = same ∙ kept (Ok f) (items behind) (items rest) begins (items_ok rest f behind some read)

    pub next_err : (e : InvalidFrame) → frame_at rest ≡ Err e → without_padding (items bytes) ≡ Err e ∷ []
    unfolding without_padding
    next_err e read = same ∙ ap without_padding (items_err rest e some read)

-- ---- a frame in front whose type is one byte

byte_type : (b : ℕ) (behind : List ℕ) → b < 64 → var_at (b ∷ behind) ≡ Ok (b, behind)
byte_type b behind small = ap field (spells_again b (b ∷ []) behind (inl (small, refl)))

byte_frame : (b : ℕ) (behind rest : List ℕ) (f : FrameValue) → b < 64 → body_at b behind ≡ Ok (f, rest) → frame_at (b ∷ behind) ≡ Ok (f, rest)
unfolding frame_at
byte_frame b behind rest f small read = ap behind_type (byte_type b behind small) ∙ ap (refused (Some b)) read

byte_next : (b : ℕ) (bytes behind rest : List ℕ) (f : FrameValue) → b < 64 → ¬ (b ≡ 0) → bytes ≡ b ∷ behind → body_at b behind ≡ Ok (f, rest) → without_padding (items bytes) ≡ Ok f ∷ without_padding (items rest)
byte_next b bytes behind rest f small other parts read =
    ap (λ (x : List ℕ). without_padding (items x)) parts
    ∙ next_ok (b ∷ behind) (b ∷ behind) refl (omega arith) (typed_begins (b ∷ behind) behind b (byte_type b behind small) other) f rest (byte_frame b behind rest f small read)

-- of a STREAM frame
pub stream_next : (b : ℕ) (bytes behind rest : List ℕ) (s : StreamValue) → 8 ≤ b → b < 16 → bytes ≡ b ∷ behind → stream_at (has_bit b 4) (has_bit b 2) (has_bit b 1) behind ≡ Ok (s, rest)
    → without_padding (items bytes) ≡ Ok (stream s) ∷ without_padding (items rest)
stream_next b bytes behind rest s least most parts read =
    byte_next b bytes behind rest (stream s) (omega arith) (λ e. omega arith) parts
    (of_stream_type (λ (f : FrameValue). f) b behind rest (Ok (stream s)) least most (ap (as_frame stream) read))

-- of a DATAGRAM frame
message_body : (b : ℕ) (behind rest m : List ℕ) → 48 ≤ b → b < 50 → data_at (b == 49) behind ≡ Ok (m, rest) → body_at b behind ≡ Ok (datagram m, rest)
message_body b behind rest m least most read = elim (cases_eq b 49) [
  | inl e ↦ of_type (λ (f : FrameValue). f) (is_datagram true) b behind rest (Ok (datagram m)) tt e (ap (as_frame datagram) (rw e at read))
  | inr n ↦ let e : b ≡ 48 = omega (arith, n, least, most) in of_type (λ (f : FrameValue). f) (is_datagram false) b behind rest (Ok (datagram m)) tt e (ap (as_frame datagram) (rw e at read))
]

pub message_next : (b : ℕ) (bytes behind rest m : List ℕ) → 48 ≤ b → b < 50 → bytes ≡ b ∷ behind → data_at (b == 49) behind ≡ Ok (m, rest) → without_padding (items bytes) ≡ Ok (datagram m) ∷ without_padding (items rest)
message_next b bytes behind rest m least most parts read = byte_next b bytes behind rest (datagram m) (omega arith) (λ e. omega arith) parts (message_body b behind rest m least most read)
