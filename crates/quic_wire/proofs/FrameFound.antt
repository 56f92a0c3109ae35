-- What is read as a frame is a form of that frame.
use Rattle.std.proofs.Common.{◌≡◌, ℕ, ◌≤◌, Bool, true, false, ltb, eqb, ◌||◌, List, [], ◌∷◌, ◌++◌, length, take, drop, Option, Some, Result, Ok, Err, refl, sym, ap, subst, ◌∙◌, append_assoc, arith}
use Rattle.std.proofs.lemmas.Bool.{ltb-false, eqb-false}
use Rattle.std.proofs.lemmas.List.{take-append-drop, length-take, append-nil}
use Rattle.quic_wire_core.specs.Coding.{IsBytes}
use Rattle.quic_wire.specs.declared.frame.FrameError.{FrameError}
use Rattle.quic_wire.specs.declared.frame.FrameError.TheVariants.{UnexpectedEnd, Malformed}
use Rattle.quic_wire.specs.Value.{FrameValue, ack, StreamLimitValue, NewConnectionIdValue, reset_stream, stop_sending, crypto, new_token, stream, max_data, max_stream_data, max_streams, data_blocked, stream_data_blocked, streams_blocked, new_connection_id, retire_connection_id, path_challenge, path_response, connection_close, application_close, datagram, ack_frequency}
use Rattle.quic_wire.specs.FrameTypes.{Kind, is_padding, is_ping, is_ack, is_reset_stream, is_stop_sending, is_crypto, is_new_token, is_stream, is_max_data, is_max_stream_data, is_max_streams, is_data_blocked, is_stream_data_blocked, is_streams_blocked, is_new_connection_id, is_retire_connection_id, is_path_challenge, is_path_response, is_connection_close, is_application_close, is_handshake_done, is_immediate_ack, is_datagram, is_ack_frequency, kind_of, type_of}
use Rattle.quic_wire.specs.Reading.{var_at, block_at, sized_at, reset_stream_at, stop_sending_at, crypto_at, offset_at, data_at, stream_at, stream_limit_at, byte_at, id_at, connection_id_at, id_and_token_at, issued_at, new_connection_id_at, connection_close_at, application_close_at, ack_frequency_at, counted, as_frame, of_kind_at, body_at}
use Rattle.quic_wire.specs.AckReading.{ack_at}
use Rattle.quic_wire.proofs.AckFound.{ack_found}
use Rattle.quic_wire.specs.Items.{frame_at, behind_type, refused}
use Rattle.quic_wire.specs.Grammar.{Numbers, Then, offset_numbers, length_numbers, Ends, OffsetFits, id_and_token, IsForm}
use Rattle.quic_wire.proofs.FrameKinds.{type_of_kind}
use Rattle.quic_wire.proofs.FieldFound.{Holds, bind, after, guard, weaken, of_ok, Sofar, IsBytes-drop, IsBytes-behind, more}

-- the numbers and then a text
record SofarThen (all ns text rest : List ℕ) : Type 0 where
  pub form : List ℕ
  pub is : Then ns text form
  pub parts : all ≡ form ++ rest
  pub fits : IsBytes rest

with_text : (all ns text rest : List ℕ) (n : ℕ) (bytes : List ℕ) → Sofar all ns bytes → text ≡ take n bytes → rest ≡ drop n bytes → SofarThen all ns text rest
with_text all ns text rest n bytes s e f = record {
  form = s.front ++ text;
  is = (s.front, s.numbers, refl);
  parts = s.parts ∙ ap (λ (t : List ℕ). s.front ++ t) (rw (e, f) (sym (take-append-drop n bytes))) ∙ sym (append_assoc s.front text rest);
  fits = rw f (IsBytes-drop n bytes s.fits);
}

-- ---- fields

block_found : (k : ℕ) (all ns bytes : List ℕ) → Sofar all ns bytes → Holds (λ x. SofarThen all ns x.0 x.1 × (length x.0 ≡ k)) (block_at k bytes)
unfolding block_at
block_found k all ns bytes s =
    guard _ (ltb (length bytes) k) UnexpectedEnd (Ok (take k bytes, drop k bytes)) (λ long.
    let len : length (take k bytes) ≡ k = omega (arith, length-take k bytes, ltb-false _ _ long) in
    record { is = (with_text all ns (take k bytes) (drop k bytes) k bytes s refl refl, len) })

sized_found : (all ns bytes : List ℕ) → Sofar all ns bytes → Holds (λ x. SofarThen all (ns ++ length x.0 ∷ []) x.0 x.1) (sized_at bytes)
unfolding sized_at
sized_found all ns bytes s =
    bind _ (var_at bytes) _ (λ n e. weaken _ _ (block_at n.0 n.1) (block_found n.0 all (ns ++ n.0 ∷ []) n.1 (more all ns bytes n s e)) (λ x h. rw h.1 h.0))

data_found : (sized : Bool) (all ns bytes : List ℕ) → Sofar all ns bytes → Holds (λ x. SofarThen all (ns ++ length_numbers sized x.0) x.0 x.1 × Ends sized x.1) (data_at sized bytes)
unfolding data_at
data_found true all ns bytes s = weaken _ _ (sized_at bytes) (sized_found all ns bytes s) (λ x h. (h, tt))
data_found false all ns bytes s = record { is = (record { form = s.front ++ bytes; is = (s.front, rw (append-nil ns) s.numbers, refl); parts = s.parts ∙ sym (append-nil (s.front ++ bytes)); fits = λ i. omega arith }, refl) }

offset_found : (written : Bool) (all ns bytes : List ℕ) → Sofar all ns bytes → Holds (λ x. Sofar all (ns ++ offset_numbers written x.0) x.1 × OffsetFits written x.0) (offset_at written bytes)
unfolding offset_at
offset_found false all ns bytes s = record { is = (rw (append-nil ns) s, refl) }
offset_found true all ns bytes s = of_ok _ (var_at bytes) (λ x e. (more all ns bytes x s e, tt))

-- ---- frames behind their types, one line for each kind

-- a frame before this rest
pub record Found (f : FrameValue) (all rest : List ℕ) : Type 0 where
  pub form : List ℕ
  pub is : IsForm f form rest
  pub parts : all ≡ form ++ rest
  pub fits : IsBytes rest

stream_found : (written sized fin : Bool) (all bytes : List ℕ) → Sofar all (type_of (is_stream written sized fin) ∷ []) bytes → Holds (λ x. Found (stream x.0) all x.1) (stream_at written sized fin bytes)
unfolding stream_at
stream_found written sized fin all bytes s =
    let type = type_of (is_stream written sized fin) in
    bind _ (var_at bytes) _ (λ id e. after _ _ (offset_at written id.1) _ (offset_found written all (type ∷ id.0 ∷ []) id.1 (more all (type ∷ []) bytes id s e))
    (λ offset o. after _ _ (data_at sized offset.1) _ (data_found sized all (type ∷ id.0 ∷ offset_numbers written offset.0) offset.1 o.0)
    (λ text t. record { is = record { form = t.0.form; is = record { written = written; sized = sized; offset = o.1; ends = t.1; text = t.0.is }; parts = t.0.parts; fits = t.0.fits } })))

-- a form that is numbers alone
numbers_found : (f : FrameValue) (all ns rest : List ℕ) → ((front : List ℕ) → Numbers ns front → IsForm f front rest) → Sofar all ns rest → Found f all rest
numbers_found f all ns rest is s = record { form = s.front; is = is s.front s.numbers; parts = s.parts; fits = s.fits }

-- a form that is numbers and a text
text_found : (f : FrameValue) (all ns text rest : List ℕ) → ((form : List ℕ) → Then ns text form → IsForm f form rest) → SofarThen all ns text rest → Found f all rest
text_found f all ns text rest is s = record { form = s.form; is = is s.form s.is; parts = s.parts; fits = s.fits }

-- one number behind what was read
last_found : (f : ℕ → FrameValue) (all ns bytes : List ℕ) → ((n : ℕ) (front rest : List ℕ) → Numbers (ns ++ n ∷ []) front → IsForm (f n) front rest) → Sofar all ns bytes → Holds (λ x. Found (f x.0) all x.1) (var_at bytes)
last_found f all ns bytes is s = of_ok _ (var_at bytes) (λ x e. numbers_found (f x.0) all (ns ++ x.0 ∷ []) x.1 (λ front. is x.0 front x.1) (more all ns bytes x s e))

reset_stream_found : (all bytes : List ℕ) → Sofar all (type_of is_reset_stream ∷ []) bytes → Holds (λ x. Found (reset_stream x.0) all x.1) (reset_stream_at bytes)
unfolding reset_stream_at
reset_stream_found all bytes s =
    let type = type_of is_reset_stream in
    bind _ (var_at bytes) _ (λ a e. bind _ (var_at a.1) _ (λ b f. bind _ (var_at b.1) _ (λ c g.
    record {
      is = numbers_found (reset_stream (record { id = a.0; code = b.0; final_size = c.0 })) all (type ∷ a.0 ∷ b.0 ∷ c.0 ∷ []) c.1 (λ front h. h)
          (more all (type ∷ a.0 ∷ b.0 ∷ []) b.1 c (more all (type ∷ a.0 ∷ []) a.1 b (more all (type ∷ []) bytes a s e) f) g);
    })))

stop_sending_found : (all bytes : List ℕ) → Sofar all (type_of is_stop_sending ∷ []) bytes → Holds (λ x. Found (stop_sending x.0) all x.1) (stop_sending_at bytes)
unfolding stop_sending_at
stop_sending_found all bytes s =
    let type = type_of is_stop_sending in
    bind _ (var_at bytes) _ (λ a e. bind _ (var_at a.1) _ (λ b f.
    record {
      is = numbers_found (stop_sending (record { id = a.0; code = b.0 })) all (type ∷ a.0 ∷ b.0 ∷ []) b.1 (λ front h. h)
          (more all (type ∷ a.0 ∷ []) a.1 b (more all (type ∷ []) bytes a s e) f);
    }))

crypto_found : (all bytes : List ℕ) → Sofar all (type_of is_crypto ∷ []) bytes → Holds (λ x. Found (crypto x.0) all x.1) (crypto_at bytes)
unfolding crypto_at
crypto_found all bytes s =
    let type = type_of is_crypto in
    bind _ (var_at bytes) _ (λ a e. after _ _ (sized_at a.1) _ (sized_found all (type ∷ a.0 ∷ []) a.1 (more all (type ∷ []) bytes a s e))
    (λ t h. record { is = text_found (crypto (record { offset = a.0; bytes = t.0 })) all (type ∷ a.0 ∷ length t.0 ∷ []) t.0 t.1 (λ form k. k) h }))

new_token_found : (all bytes : List ℕ) → Sofar all (type_of is_new_token ∷ []) bytes → Holds (λ x. Found (new_token x.0) all x.1) (sized_at bytes)
new_token_found all bytes s =
    let type = type_of is_new_token in
    weaken _ _ (sized_at bytes) (sized_found all (type ∷ []) bytes s) (λ t h. text_found (new_token t.0) all (type ∷ length t.0 ∷ []) t.0 t.1 (λ form k. k) h)

-- MAX_STREAM_DATA or STREAM_DATA_BLOCKED
stream_limit_found : (type : ℕ) (f : StreamLimitValue → FrameValue) (all bytes : List ℕ) → ((m : StreamLimitValue) (front rest : List ℕ) → Numbers (type ∷ m.id ∷ m.limit ∷ []) front → IsForm (f m) front rest)
    → Sofar all (type ∷ []) bytes → Holds (λ x. Found (f x.0) all x.1) (stream_limit_at bytes)
unfolding stream_limit_at
stream_limit_found type f all bytes is s =
    bind _ (var_at bytes) _ (λ a e. bind _ (var_at a.1) _ (λ b g.
    record {
      is = numbers_found (f (record { id = a.0; limit = b.0 })) all (type ∷ a.0 ∷ b.0 ∷ []) b.1 (λ front. is (record { id = a.0; limit = b.0 }) front b.1)
          (more all (type ∷ a.0 ∷ []) a.1 b (more all (type ∷ []) bytes a s e) g);
    }))

-- PATH_CHALLENGE or PATH_RESPONSE
path_found : (type : ℕ) (f : List ℕ → FrameValue) (all bytes : List ℕ) → ((d form rest : List ℕ) → length d ≡ 8 → Then (type ∷ []) d form → IsForm (f d) form rest)
    → Sofar all (type ∷ []) bytes → Holds (λ x. Found (f x.0) all x.1) (block_at 8 bytes)
path_found type f all bytes is s =
    weaken _ _ (block_at 8 bytes) (block_found 8 all (type ∷ []) bytes s) (λ d h. text_found (f d.0) all (type ∷ []) d.0 d.1 (λ form. is d.0 form d.1 h.1) h.0)

connection_close_found : (all bytes : List ℕ) → Sofar all (type_of is_connection_close ∷ []) bytes → Holds (λ x. Found (connection_close x.0) all x.1) (connection_close_at bytes)
unfolding connection_close_at
connection_close_found all bytes s =
    let type = type_of is_connection_close in
    bind _ (var_at bytes) _ (λ a e. bind _ (var_at a.1) _ (λ b f. after _ _ (sized_at b.1) _ (sized_found all (type ∷ a.0 ∷ b.0 ∷ []) b.1 (more all (type ∷ a.0 ∷ []) a.1 b (more all (type ∷ []) bytes a s e) f))
    (λ t h. record { is = text_found (connection_close (record { code = a.0; frame_type = b.0; reason = t.0 })) all (type ∷ a.0 ∷ b.0 ∷ length t.0 ∷ []) t.0 t.1 (λ form k. k) h })))

application_close_found : (all bytes : List ℕ) → Sofar all (type_of is_application_close ∷ []) bytes → Holds (λ x. Found (application_close x.0) all x.1) (application_close_at bytes)
unfolding application_close_at
application_close_found all bytes s =
    let type = type_of is_application_close in
    bind _ (var_at bytes) _ (λ a e. after _ _ (sized_at a.1) _ (sized_found all (type ∷ a.0 ∷ []) a.1 (more all (type ∷ []) bytes a s e))
    (λ t h. record { is = text_found (application_close (record { code = a.0; reason = t.0 })) all (type ∷ a.0 ∷ length t.0 ∷ []) t.0 t.1 (λ form k. k) h }))

datagram_found : (sized : Bool) (all bytes : List ℕ) → Sofar all (type_of (is_datagram sized) ∷ []) bytes → Holds (λ x. Found (datagram x.0) all x.1) (data_at sized bytes)
datagram_found sized all bytes s =
    let type = type_of (is_datagram sized) in
    weaken _ _ (data_at sized bytes) (data_found sized all (type ∷ []) bytes s)
    (λ d h. text_found (datagram d.0) all (type ∷ length_numbers sized d.0) d.0 d.1 (λ form k. record { sized = sized; ends = h.1; text = k }) h.0)

ack_frequency_found : (all bytes : List ℕ) → Sofar all (type_of is_ack_frequency ∷ []) bytes → Holds (λ x. Found (ack_frequency x.0) all x.1) (ack_frequency_at bytes)
unfolding ack_frequency_at
ack_frequency_found all bytes s =
    let type = type_of is_ack_frequency in
    bind _ (var_at bytes) _ (λ a e. bind _ (var_at a.1) _ (λ b f. bind _ (var_at b.1) _ (λ c g. bind _ (var_at c.1) _ (λ d h.
    record {
      is = numbers_found (ack_frequency (record { sequence = a.0; threshold = b.0; delay = c.0; reordering = d.0 })) all (type ∷ a.0 ∷ b.0 ∷ c.0 ∷ d.0 ∷ []) d.1 (λ front k. k)
          (more all (type ∷ a.0 ∷ b.0 ∷ c.0 ∷ []) c.1 d (more all (type ∷ a.0 ∷ b.0 ∷ []) b.1 c (more all (type ∷ a.0 ∷ []) a.1 b (more all (type ∷ []) bytes a s e) f) g) h);
    }))))

-- ---- NEW_CONNECTION_ID

-- the byte at the front, and the bytes after it
record FoundByte (bytes : List ℕ) (n : ℕ) (rest : List ℕ) : Type 0 where
  pub parts : bytes ≡ n ∷ rest

byte_found : (bytes : List ℕ) → Holds (λ x. FoundByte bytes x.0 x.1) (byte_at bytes)
unfolding byte_at
byte_found [] = record { is = tt }
byte_found (b ∷ bytes) = record { is = record { parts = refl } }

-- a block of so many bytes, and the bytes after it
record FoundBlock (bytes : List ℕ) (n : ℕ) (text rest : List ℕ) : Type 0 where
  pub parts : bytes ≡ text ++ rest
  pub len : length text ≡ n

plain_found : (n : ℕ) (bytes : List ℕ) → Holds (λ x. FoundBlock bytes n x.0 x.1) (block_at n bytes)
unfolding block_at
plain_found n bytes =
    guard _ (ltb (length bytes) n) UnexpectedEnd (Ok (take n bytes, drop n bytes)) (λ long.
    record { is = record { parts = sym (take-append-drop n bytes); len = omega (arith, length-take n bytes, ltb-false _ _ long) } })

-- an id of 1 to 20 bytes, and the bytes after it
record FoundId (bytes id rest : List ℕ) : Type 0 where
  pub parts : bytes ≡ length id ∷ (id ++ rest)
  pub some : 1 ≤ length id
  pub short : length id ≤ 20

or_first : (a b : Bool) → (a || b) ≡ false → a ≡ false
or_first true b e = absurd cc
or_first false b e = refl

or_second : (a b : Bool) → (a || b) ≡ false → b ≡ false
or_second true b e = absurd cc
or_second false b e = e

id_found : (bytes : List ℕ) → Holds (λ x. FoundId bytes x.0 x.1) (connection_id_at bytes)
unfolding connection_id_at id_at
id_found bytes =
    after _ _ (byte_at bytes) _ (byte_found bytes)
    (λ n h. guard _ (eqb n.0 0 || ltb 20 n.0) Malformed (block_at n.0 n.1) (λ range.
    weaken _ _ (block_at n.0 n.1) (plain_found n.0 n.1) (λ x k.
    let nonzero = eqb-false n.0 0 (or_first (eqb n.0 0) (ltb 20 n.0) range) in
    let below : n.0 ≤ 20 = omega (arith, ltb-false 20 n.0 (or_second (eqb n.0 0) (ltb 20 n.0) range)) in
    let pos : 1 ≤ n.0 = omega (arith, nonzero) in
    record { parts = h.parts ∙ ap (λ (t : List ℕ). n.0 ∷ t) k.parts ∙ ap (λ (m : ℕ). m ∷ (x.0 ++ x.1)) (sym k.len); some = rw k.len pos; short = rw k.len below })))

issued_parts : (n : NewConnectionIdValue) (all ns bytes middle rest : List ℕ) → Sofar all ns bytes → bytes ≡ length n.id ∷ (n.id ++ middle) → middle ≡ n.token ++ rest → SofarThen all ns (id_and_token n) rest
issued_parts n all ns bytes middle rest s e f =
    let same : bytes ≡ id_and_token n ++ rest = e ∙ ap (λ (t : List ℕ). length n.id ∷ (n.id ++ t)) f ∙ ap (λ (t : List ℕ). length n.id ∷ t) (sym (append_assoc n.id n.token rest)) in
    record {
      form = s.front ++ id_and_token n;
      is = (s.front, s.numbers, refl);
      parts = s.parts ∙ ap (λ (t : List ℕ). s.front ++ t) same ∙ sym (append_assoc s.front (id_and_token n) rest);
      fits = IsBytes-behind (id_and_token n) rest bytes same s.fits;
    }

issued_found : (sequence retire : ℕ) (all bytes : List ℕ) → Sofar all (type_of is_new_connection_id ∷ sequence ∷ retire ∷ []) bytes → Holds (λ x. Found (new_connection_id x.0) all x.1) (issued_at sequence retire bytes)
unfolding issued_at id_and_token_at
issued_found sequence retire all bytes s =
    let ns = type_of is_new_connection_id ∷ sequence ∷ retire ∷ [] in
    guard _ (ltb sequence retire) Malformed (id_and_token_at sequence retire bytes) (λ least.
    after _ _ (connection_id_at bytes) _ (id_found bytes) (λ id h.
    after _ _ (block_at 16 id.1) _ (plain_found 16 id.1) (λ token k.
    let n : NewConnectionIdValue = record { sequence = sequence; retire_prior_to = retire; id = id.0; token = token.0 } in
    let most : retire ≤ sequence = omega (arith, ltb-false sequence retire least) in
    record {
      is = text_found (new_connection_id n) all ns (id_and_token n) token.1 (λ form t. (record { retires = most; some = h.some; short = h.short; token = k.len }, t))
          (issued_parts n all ns bytes id.1 token.1 s h.parts k.parts);
    })))

new_connection_id_found : (all bytes : List ℕ) → Sofar all (type_of is_new_connection_id ∷ []) bytes → Holds (λ x. Found (new_connection_id x.0) all x.1) (new_connection_id_at bytes)
unfolding new_connection_id_at
new_connection_id_found all bytes s =
    let type = type_of is_new_connection_id in
    bind _ (var_at bytes) _ (λ a e. bind _ (var_at a.1) _ (λ b f. issued_found a.0 b.0 all b.1 (more all (type ∷ a.0 ∷ []) a.1 b (more all (type ∷ []) bytes a s e) f)))

-- ---- frames of all kinds

framed : {T : Type 0} (f : T → FrameValue) (all : List ℕ) (r : Result (T × List ℕ) FrameError) → Holds (λ x. Found (f x.0) all x.1) r → Holds (λ x. Found x.0 all x.1) (as_frame f r)
framed f all r h = after _ _ r _ h (λ x k. record { is = k })

kind_found : (kind : Kind) (all bytes : List ℕ) → Sofar all (type_of kind ∷ []) bytes → Holds (λ x. Found x.0 all x.1) (of_kind_at kind bytes)
kind_found is_padding all bytes s = record { is = record { form = s.front; is = s.numbers; parts = s.parts; fits = s.fits } }
kind_found is_ping all bytes s = record { is = record { form = s.front; is = s.numbers; parts = s.parts; fits = s.fits } }
kind_found (is_ack ecn) all bytes s =
    framed ack all (ack_at ecn bytes) (weaken _ _ (ack_at ecn bytes) (ack_found ecn all bytes s) (λ x h. record { form = h.form; is = (h.down, h.numbers); parts = h.parts; fits = h.fits }))
kind_found is_reset_stream all bytes s = framed reset_stream all (reset_stream_at bytes) (reset_stream_found all bytes s)
kind_found is_stop_sending all bytes s = framed stop_sending all (stop_sending_at bytes) (stop_sending_found all bytes s)
kind_found is_crypto all bytes s = framed crypto all (crypto_at bytes) (crypto_found all bytes s)
kind_found is_new_token all bytes s = framed new_token all (sized_at bytes) (new_token_found all bytes s)
kind_found (is_stream written sized fin) all bytes s = framed stream all (stream_at written sized fin bytes) (stream_found written sized fin all bytes s)
kind_found is_max_data all bytes s = framed max_data all (var_at bytes) (last_found max_data all (type_of is_max_data ∷ []) bytes (λ n front rest h. h) s)
kind_found is_max_stream_data all bytes s = framed max_stream_data all (stream_limit_at bytes) (stream_limit_found (type_of is_max_stream_data) max_stream_data all bytes (λ m front rest h. h) s)
kind_found (is_max_streams one_way) all bytes s =
    framed (λ n. max_streams (counted one_way n)) all (var_at bytes) (last_found (λ n. max_streams (counted one_way n)) all (type_of (is_max_streams one_way) ∷ []) bytes (λ n front rest h. h) s)
kind_found is_data_blocked all bytes s = framed data_blocked all (var_at bytes) (last_found data_blocked all (type_of is_data_blocked ∷ []) bytes (λ n front rest h. h) s)
kind_found is_stream_data_blocked all bytes s =
    framed stream_data_blocked all (stream_limit_at bytes) (stream_limit_found (type_of is_stream_data_blocked) stream_data_blocked all bytes (λ m front rest h. h) s)
kind_found (is_streams_blocked one_way) all bytes s =
    framed (λ n. streams_blocked (counted one_way n)) all (var_at bytes) (last_found (λ n. streams_blocked (counted one_way n)) all (type_of (is_streams_blocked one_way) ∷ []) bytes (λ n front rest h. h) s)
kind_found is_new_connection_id all bytes s = framed new_connection_id all (new_connection_id_at bytes) (new_connection_id_found all bytes s)
kind_found is_retire_connection_id all bytes s =
    framed retire_connection_id all (var_at bytes) (last_found retire_connection_id all (type_of is_retire_connection_id ∷ []) bytes (λ n front rest h. h) s)
kind_found is_path_challenge all bytes s = framed path_challenge all (block_at 8 bytes) (path_found (type_of is_path_challenge) path_challenge all bytes (λ d form rest len h. (len, h)) s)
kind_found is_path_response all bytes s = framed path_response all (block_at 8 bytes) (path_found (type_of is_path_response) path_response all bytes (λ d form rest len h. (len, h)) s)
kind_found is_connection_close all bytes s = framed connection_close all (connection_close_at bytes) (connection_close_found all bytes s)
kind_found is_application_close all bytes s = framed application_close all (application_close_at bytes) (application_close_found all bytes s)
kind_found is_handshake_done all bytes s = record { is = record { form = s.front; is = s.numbers; parts = s.parts; fits = s.fits } }
kind_found is_immediate_ack all bytes s = record { is = record { form = s.front; is = s.numbers; parts = s.parts; fits = s.fits } }
kind_found (is_datagram sized) all bytes s = framed datagram all (data_at sized bytes) (datagram_found sized all bytes s)
kind_found is_ack_frequency all bytes s = framed ack_frequency all (ack_frequency_at bytes) (ack_frequency_found all bytes s)
kind_found kind all bytes s = record { is = tt }

-- ---- whole frames

body_found : (type : ℕ) (all bytes : List ℕ) → Sofar all (type ∷ []) bytes → Holds (λ x. Found x.0 all x.1) (body_at type bytes)
unfolding body_at
body_found type all bytes s = kind_found (kind_of type) all bytes (subst (λ (n : ℕ). Sofar all (n ∷ []) bytes) (sym (type_of_kind type)) s)

from_refused : (t : Option ℕ) (r : Result (FrameValue × List ℕ) FrameError) (x : FrameValue × List ℕ) → refused t r ≡ Ok x → r ≡ Ok x
from_refused t (Ok y) x e = cc
from_refused t (Err f) x e = absurd cc

from_holds : (P : FrameValue × List ℕ → Type 0) (r : Result (FrameValue × List ℕ) FrameError) (x : FrameValue × List ℕ) → Holds P r → r ≡ Ok x → P x
from_holds P r x h e = (rw e at h).is

behind_found : (bytes : List ℕ) (r : Result (ℕ × List ℕ) FrameError) (x : FrameValue × List ℕ) → IsBytes bytes → var_at bytes ≡ r → behind_type r ≡ Ok x → Found x.0 bytes x.1
behind_found bytes (Ok t) x fits e read =
    let start : Sofar bytes [] bytes = record { front = []; numbers = refl; parts = refl; fits = fits } in
    from_holds (λ y. Found y.0 bytes y.1) (body_at t.0 t.1) x (body_found t.0 bytes t.1 (more bytes [] bytes t start e)) (from_refused (Some t.0) (body_at t.0 t.1) x read)
behind_found bytes (Err f) x fits e read = absurd cc

pub form_found : (bytes : List ℕ) (f : FrameValue) (rest : List ℕ) → IsBytes bytes → frame_at bytes ≡ Ok (f, rest) → Found f bytes rest
unfolding frame_at
form_found bytes f rest fits e = behind_found bytes (var_at bytes) (f, rest) fits refl e
