-- No frame of a datagram has a text of more bytes than the datagram (RFC 9000, section 19.19).
use Rattle.std.proofs.Common.{◌≡◌, ℕ, zero, suc, ◌≤◌, Bool, true, false, ltb, List, [], ◌∷◌, length, take, drop, length-take, Option, Some, Result, Ok, Err, refl, arith}
use Rattle.std.specs.Prelude.{if◌then◌else◌}
use Rattle.quic_wire_core.specs.Taking.{◌>>=◌}
use Rattle.quic_wire.specs.declared.frame.FrameError.{FrameError}
use Rattle.quic_wire.specs.declared.frame.FrameError.TheVariants.{UnexpectedEnd}
use Rattle.quic_wire.specs.declared.frame.InvalidFrame.{InvalidFrame}
use Rattle.quic_wire.specs.Value.{FrameValue, ConnectionCloseValue, ApplicationCloseValue, ack, reset_stream, stop_sending, crypto, new_token, stream, max_data, max_stream_data, max_streams, data_blocked, stream_data_blocked, streams_blocked, new_connection_id, retire_connection_id, path_challenge, path_response, connection_close, application_close, datagram, ack_frequency}
use Rattle.quic_wire.specs.FrameTypes.{Kind, is_padding, is_ping, is_ack, is_reset_stream, is_stop_sending, is_crypto, is_new_token, is_stream, is_max_data, is_max_stream_data, is_max_streams, is_data_blocked, is_stream_data_blocked, is_streams_blocked, is_new_connection_id, is_retire_connection_id, is_path_challenge, is_path_response, is_connection_close, is_application_close, is_handshake_done, is_immediate_ack, is_datagram, is_ack_frequency, kind_of}
use Rattle.quic_wire.specs.Reading.{var_at, block_at, sized_at, reset_stream_at, stop_sending_at, crypto_at, data_at, stream_at, stream_limit_at, new_connection_id_at, connection_close_at, application_close_at, ack_frequency_at, counted, as_frame, of_kind_at, body_at}
use Rattle.quic_wire.specs.AckReading.{ack_at}
use Rattle.quic_wire.specs.Items.{frame_at, behind_type, refused, first_and, items_within, items}
use Rattle.quic_wire.proofs.FieldShrinks.{Leaves, var}
use Rattle.quic_wire.proofs.FrameShrinks.{FrameLeavesFewer, frame_fewer}

-- how many bytes the text of a frame has; 0 where it is no close
abbrev pub text_in : FrameValue → ℕ
text_in (connection_close c) = length c.reason
text_in (application_close c) = length c.reason
text_in f = 0

-- the same of an item of a payload
abbrev pub item_text : Result FrameValue InvalidFrame → ℕ
item_text (Ok f) = text_in f
item_text (Err x) = 0

-- no text of these items has more bytes than so many
abbrev pub AllFit : ℕ → List (Result FrameValue InvalidFrame) → Type 0
AllFit n [] = Unit {0}
AllFit n (i ∷ is) = (item_text i ≤ n) × AllFit n is

-- ---- reading

-- a fact of what is read, where it can be
abbrev IsSo : {A E : Type 0} → (A → Type 0) → Result A E → Type 0
IsSo P (Ok x) = P x
IsSo P (Err e) = Unit {0}

record Reads {A E : Type 0} (P : A → Type 0) (r : Result A E) : Type 0 where
  so : IsSo P r

-- of what is read behind something else
bind : {A B E : Type 0} (P : A → Type 0) (Q : B → Type 0) (r : Result A E) (f : A → Result B E) → Reads P r → ((x : A) → P x → Reads Q (f x)) → Reads Q (r >>= f)
bind P Q (Ok x) f h g = g x h.so
bind P Q (Err e) f h g = record { so = tt }

-- at most so many bytes are left
abbrev Rest : {A : Type 0} → ℕ → A × List ℕ → Type 0
Rest n x = length x.1 ≤ n

-- a text of at most so many bytes is read
abbrev Text : ℕ → List ℕ × List ℕ → Type 0
Text n x = length x.0 ≤ n

-- so is a frame with such a text
abbrev FrameText : ℕ → FrameValue × List ℕ → Type 0
FrameText n x = text_in x.0 ≤ n

number : (n : ℕ) (bytes : List ℕ) → length bytes ≤ n → Reads (Rest n) (var_at bytes)
number n bytes le = go (var_at bytes) (var n bytes le)
  where
    go : (r : Result (ℕ × List ℕ) FrameError) → Leaves n r → Reads (Rest n) r
    go (Ok x) h = record { so = h.most }
    go (Err e) h = record { so = tt }

block : (n k : ℕ) (bytes : List ℕ) → length bytes ≤ n → Reads (Text n) (block_at k bytes)
unfolding block_at
block n k bytes le = go (ltb (length bytes) k)
  where
    go : (b : Bool) → Reads {E = FrameError} (Text n) (if b then Err UnexpectedEnd else Ok (take k bytes, drop k bytes))
    go true = record { so = tt }
    go false = record { so = omega (arith, length-take k bytes) }

sized : (n : ℕ) (bytes : List ℕ) → length bytes ≤ n → Reads (Text n) (sized_at bytes)
unfolding sized_at
sized n bytes le = bind (Rest n) (Text n) (var_at bytes) _ (number n bytes le) (λ x h. block n x.0 x.1 h)

connection_close_text : (n : ℕ) (bytes : List ℕ) → length bytes ≤ n → Reads (λ (c : ConnectionCloseValue × List ℕ). length c.0.reason ≤ n) (connection_close_at bytes)
unfolding connection_close_at
connection_close_text n bytes le =
    bind (Rest n) _ (var_at bytes) _ (number n bytes le) (λ code h. bind (Rest n) _ (var_at code.1) _ (number n code.1 h) (λ type k. bind (Text n) _ (sized_at type.1) _ (sized n type.1 k) (λ reason l. record { so = l })))

application_close_text : (n : ℕ) (bytes : List ℕ) → length bytes ≤ n → Reads (λ (c : ApplicationCloseValue × List ℕ). length c.0.reason ≤ n) (application_close_at bytes)
unfolding application_close_at
application_close_text n bytes le = bind (Rest n) _ (var_at bytes) _ (number n bytes le) (λ code h. bind (Text n) _ (sized_at code.1) _ (sized n code.1 h) (λ reason k. record { so = k }))

-- a frame that has no text is made of what was read
plain : {T : Type 0} (n : ℕ) (f : T → FrameValue) (r : Result (T × List ℕ) FrameError) → ((x : T) → text_in (f x) ≡ 0) → Reads (FrameText n) (as_frame f r)
plain n f (Ok x) none = record { so = omega (arith, none x.0) }
plain n f (Err e) none = record { so = tt }

-- a frame behind its type, one line for each kind
kind_text : (kind : Kind) (n : ℕ) (bytes : List ℕ) → length bytes ≤ n → Reads (FrameText n) (of_kind_at kind bytes)
kind_text is_padding n bytes le = record { so = omega arith }
kind_text is_ping n bytes le = record { so = omega arith }
kind_text (is_ack ecn) n bytes le = plain n ack (ack_at ecn bytes) (λ x. refl)
kind_text is_reset_stream n bytes le = plain n reset_stream (reset_stream_at bytes) (λ x. refl)
kind_text is_stop_sending n bytes le = plain n stop_sending (stop_sending_at bytes) (λ x. refl)
kind_text is_crypto n bytes le = plain n crypto (crypto_at bytes) (λ x. refl)
kind_text is_new_token n bytes le = plain n new_token (sized_at bytes) (λ x. refl)
kind_text (is_stream written len fin) n bytes le = plain n stream (stream_at written len fin bytes) (λ x. refl)
kind_text is_max_data n bytes le = plain n max_data (var_at bytes) (λ x. refl)
kind_text is_max_stream_data n bytes le = plain n max_stream_data (stream_limit_at bytes) (λ x. refl)
kind_text (is_max_streams one_way) n bytes le = plain n (λ k. max_streams (counted one_way k)) (var_at bytes) (λ x. refl)
kind_text is_data_blocked n bytes le = plain n data_blocked (var_at bytes) (λ x. refl)
kind_text is_stream_data_blocked n bytes le = plain n stream_data_blocked (stream_limit_at bytes) (λ x. refl)
kind_text (is_streams_blocked one_way) n bytes le = plain n (λ k. streams_blocked (counted one_way k)) (var_at bytes) (λ x. refl)
kind_text is_new_connection_id n bytes le = plain n new_connection_id (new_connection_id_at bytes) (λ x. refl)
kind_text is_retire_connection_id n bytes le = plain n retire_connection_id (var_at bytes) (λ x. refl)
kind_text is_path_challenge n bytes le = plain n path_challenge (block_at 8 bytes) (λ x. refl)
kind_text is_path_response n bytes le = plain n path_response (block_at 8 bytes) (λ x. refl)
kind_text is_connection_close n bytes le = bind (λ (c : ConnectionCloseValue × List ℕ). length c.0.reason ≤ n) (FrameText n) (connection_close_at bytes) _ (connection_close_text n bytes le) (λ c h. record { so = h })
kind_text is_application_close n bytes le = bind (λ (c : ApplicationCloseValue × List ℕ). length c.0.reason ≤ n) (FrameText n) (application_close_at bytes) _ (application_close_text n bytes le) (λ c h. record { so = h })
kind_text is_handshake_done n bytes le = record { so = omega arith }
kind_text is_immediate_ack n bytes le = record { so = omega arith }
kind_text (is_datagram len) n bytes le = plain n datagram (data_at len bytes) (λ x. refl)
kind_text is_ack_frequency n bytes le = plain n ack_frequency (ack_frequency_at bytes) (λ x. refl)
kind_text kind n bytes le = record { so = tt }

body : (type n : ℕ) (bytes : List ℕ) → length bytes ≤ n → Reads (FrameText n) (body_at type bytes)
unfolding body_at
body type n bytes le = kind_text (kind_of type) n bytes le

-- ---- a payload

refused_text : (n : ℕ) (type : Option ℕ) (r : Result (FrameValue × List ℕ) FrameError) → Reads (FrameText n) r → Reads (FrameText n) (refused type r)
refused_text n type (Ok x) h = record { so = h.so }
refused_text n type (Err e) h = record { so = tt }

behind_text : (n : ℕ) (r : Result (ℕ × List ℕ) FrameError) → Reads (Rest n) r → Reads (FrameText n) (behind_type r)
behind_text n (Ok x) h = refused_text n (Some x.0) (body_at x.0 x.1) (body x.0 n x.1 h.so)
behind_text n (Err e) h = record { so = tt }

frame_text : (n : ℕ) (bytes : List ℕ) → length bytes ≤ n → Reads (FrameText n) (frame_at bytes)
unfolding frame_at
frame_text n bytes le = behind_text n (var_at bytes) (number n bytes le)

within_fit : (n k : ℕ) (bytes : List ℕ) → length bytes ≤ n → AllFit n (items_within k bytes)
unfolding items_within
within_fit n zero bytes le = tt
within_fit n (suc k) [] le = tt
within_fit n (suc k) (b ∷ bytes) le = go (frame_at (b ∷ bytes)) (frame_text n (b ∷ bytes) le) (frame_fewer (b ∷ bytes)) (within_fit n k)
  where
    go : (r : Result (FrameValue × List ℕ) InvalidFrame) → Reads (FrameText n) r → FrameLeavesFewer (length (b ∷ bytes)) r → ((rest : List ℕ) → length rest ≤ n → AllFit n (items_within k rest)) → AllFit n (first_and (items_within k) r)
    go (Ok x) h fewer others = (h.so, others x.1 (omega (arith, fewer, le)))
    go (Err e) h fewer others = (omega arith, tt)

-- the texts of a payload's frames have at most as many bytes as the payload
pub items_fit : (n : ℕ) (payload : List ℕ) → length payload ≤ n → AllFit n (items payload)
unfolding items
items_fit n payload le = within_fit n (length payload) payload le
