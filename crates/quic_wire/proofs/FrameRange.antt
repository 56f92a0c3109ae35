-- Which frames have a form, and how long it is at most.
use Rattle.std.proofs.Common.{◌≡◌, ℕ, ◌+◌, ◌<◌, ◌≤◌, ◌*◌, ◌^◌, Bool, true, false, eqb, List, [], ◌∷◌, ◌++◌, length, refl, ap, arith, inl, inr}
use Rattle.std.specs.Prelude.{if◌then◌else◌, nat_lt}
use Rattle.std.specs.Int.{w16, w32, w64, to_be_bytes}
use Rattle.std.proofs.lemmas.List.{length-append}
use Rattle.quic_wire_core.specs.Varint.{Spells}
use Rattle.quic_wire.specs.Value.{FrameValue, StreamValue, ack, padding, ping, reset_stream, stop_sending, crypto, new_token, stream, max_data, max_stream_data, max_streams, data_blocked, stream_data_blocked, streams_blocked, new_connection_id, retire_connection_id, path_challenge, path_response, connection_close, application_close, handshake_done, immediate_ack, datagram, ack_frequency}
use Rattle.quic_wire.specs.FrameTypes.{is_datagram, is_max_streams, is_streams_blocked, type_of}
use Rattle.quic_wire.specs.Grammar.{Numbers, Then, stream_numbers, offset_numbers, length_numbers, OffsetFits, IsStreamForm, IsDatagramForm, IsForm}
use Rattle.quic_wire.specs.Writing.{AreNumbers, fields_of, StreamFits, Fits, width_of, offset_width, frame_size, most_of}
use Rattle.quic_wire.specs.AckGrammar.{ack_numbers}
use Rattle.quic_wire.proofs.AckNumbers.{numbers_fit, ack_size_most}

-- ---- what has a form

small : (n : ℕ) (bytes : List ℕ) → Spells n bytes → n < 2 ^ 62
small n bytes h = elim h [
  | inl a ↦ (let b = a.0 in omega arith)
  | inr h' ↦ elim h' [
    | inl a ↦ (let b = a.0 in omega arith)
    | inr h'' ↦ elim h'' [
      | inl a ↦ (let b = a.0 in omega arith)
      | inr a ↦ a.0
    ]
  ]
]

are_numbers : (ns bytes : List ℕ) → Numbers ns bytes → AreNumbers ns
are_numbers [] bytes h = tt
are_numbers (n ∷ ns) bytes h = (small n h.0 h.2, are_numbers ns h.1 h.3)

-- those behind the type
fields : (n : ℕ) (ns bytes : List ℕ) → Numbers (n ∷ ns) bytes → AreNumbers ns
fields n ns bytes h = (are_numbers (n ∷ ns) bytes h).1

fields_then : (n : ℕ) (ns text bytes : List ℕ) → Then (n ∷ ns) text bytes → AreNumbers ns
fields_then n ns text bytes h = fields n ns h.0 h.1

no_longer : (ns text bytes : List ℕ) → Then ns text bytes → length text ≤ length bytes
no_longer ns text bytes h = omega (arith, ap length h.2, length-append h.0 text)

offset_fits : (written : Bool) (offset : ℕ) (ns : List ℕ) → OffsetFits written offset → AreNumbers (offset_numbers written offset ++ ns) → offset < 2 ^ 62
offset_fits true offset ns h k = k.0
offset_fits false offset ns h k = omega arith

stream_fits : (s : StreamValue) (bytes rest : List ℕ) → IsStreamForm s bytes rest → length bytes < 2 ^ 62 → StreamFits s
stream_fits s bytes rest h lt =
    let ns = s.id ∷ (offset_numbers h.written s.offset ++ length_numbers h.sized s.bytes) in
    let k : AreNumbers ns = fields_then _ ns s.bytes bytes h.text in
    let le : length s.bytes ≤ length bytes = no_longer (stream_numbers h.written h.sized s) s.bytes bytes h.text in
    (k.0, offset_fits h.written s.offset (length_numbers h.sized s.bytes) h.offset k.1, omega arith)

datagram_fits : (d bytes rest : List ℕ) → IsDatagramForm d bytes rest → length bytes < 2 ^ 62 → AreNumbers (length d ∷ [])
datagram_fits d bytes rest h lt = let le : length d ≤ length bytes = no_longer (type_of (is_datagram h.sized) ∷ length_numbers h.sized d) d bytes h.text in (omega arith, tt)

pub form_fits : (f : FrameValue) (bytes rest : List ℕ) → IsForm f bytes rest → length bytes < 2 ^ 62 → Fits f
form_fits padding bytes rest h lt = tt
form_fits ping bytes rest h lt = tt
form_fits (ack a) bytes rest h lt = numbers_fit a h.0 (are_numbers (ack_numbers a a.ranges) bytes h.1)
form_fits (reset_stream r) bytes rest h lt = fields _ (fields_of (reset_stream r)) bytes h
form_fits (stop_sending s) bytes rest h lt = fields _ (fields_of (stop_sending s)) bytes h
form_fits (crypto c) bytes rest h lt = fields_then _ (fields_of (crypto c)) c.bytes bytes h
form_fits (new_token t) bytes rest h lt = fields_then _ (fields_of (new_token t)) t bytes h
form_fits (stream s) bytes rest h lt = stream_fits s bytes rest h lt
form_fits (max_data n) bytes rest h lt = fields _ (n ∷ []) bytes h
form_fits (max_stream_data m) bytes rest h lt = fields _ (m.id ∷ m.limit ∷ []) bytes h
form_fits (max_streams m) bytes rest h lt = fields _ (m.count ∷ []) bytes h
form_fits (data_blocked n) bytes rest h lt = fields _ (n ∷ []) bytes h
form_fits (stream_data_blocked b) bytes rest h lt = fields _ (b.id ∷ b.limit ∷ []) bytes h
form_fits (streams_blocked b) bytes rest h lt = fields _ (b.count ∷ []) bytes h
form_fits (new_connection_id n) bytes rest h lt = (fields_then _ (n.sequence ∷ n.retire_prior_to ∷ []) _ bytes h.1, h.0)
form_fits (retire_connection_id n) bytes rest h lt = fields _ (n ∷ []) bytes h
form_fits (path_challenge d) bytes rest h lt = h.0
form_fits (path_response d) bytes rest h lt = h.0
form_fits (connection_close c) bytes rest h lt = fields_then _ (fields_of (connection_close c)) c.reason bytes h
form_fits (application_close c) bytes rest h lt = fields_then _ (fields_of (application_close c)) c.reason bytes h
form_fits handshake_done bytes rest h lt = tt
form_fits immediate_ack bytes rest h lt = tt
form_fits (datagram d) bytes rest h lt = datagram_fits d bytes rest h lt
form_fits (ack_frequency a) bytes rest h lt = fields _ (fields_of (ack_frequency a)) bytes h

-- ---- how long it is at most

most_if : (b : Bool) (x y : List ℕ) → length x ≤ 8 → length y ≤ 8 → length (if b then x else y) ≤ 8
most_if true x y h k = h
most_if false x y h k = k

width_most : (n : ℕ) → width_of n ≤ 8
width_most n =
    let two = to_be_bytes w16 (2 ^ 14 + n) in
    let four = to_be_bytes w32 (2 * 2 ^ 30 + n) in
    let eight = to_be_bytes w64 (3 * 2 ^ 62 + n) in
    most_if (nat_lt n (2 ^ 6)) (n ∷ []) (if nat_lt n (2 ^ 14) then two else (if nat_lt n (2 ^ 30) then four else eight)) (omega arith)
    (most_if (nat_lt n (2 ^ 14)) two (if nat_lt n (2 ^ 30) then four else eight) (omega arith)
    (most_if (nat_lt n (2 ^ 30)) four eight (omega arith) (omega arith)))

offset_most_if : (b : Bool) (n : ℕ) → n ≤ 8 → (if b then 0 else n) ≤ 8
offset_most_if true n h = omega arith
offset_most_if false n h = h

type_width : (one_way : Bool) → (width_of (type_of (is_max_streams one_way)) ≡ 1) × (width_of (type_of (is_streams_blocked one_way)) ≡ 1)
type_width true = (refl, refl)
type_width false = (refl, refl)

pub size_most : (f : FrameValue) → Fits f → frame_size f ≤ most_of f
size_most padding h = omega arith
size_most ping h = omega arith
size_most (ack a) h = ack_size_most a h
size_most (reset_stream r) h = let a = width_most r.id in let b = width_most r.code in let c = width_most r.final_size in omega arith
size_most (stop_sending s) h = let a = width_most s.id in let b = width_most s.code in omega arith
size_most (crypto c) h = let a = width_most c.offset in let b = width_most (length c.bytes) in omega arith
size_most (new_token t) h = let a = width_most (length t) in omega arith
size_most (stream s) h =
    let a = width_most s.id in
    let b : offset_width s.offset ≤ 8 = offset_most_if (eqb s.offset 0) (width_of s.offset) (width_most s.offset) in
    let c = width_most (length s.bytes) in
    omega arith
size_most (max_data n) h = let a = width_most n in omega arith
size_most (max_stream_data m) h = let a = width_most m.id in let b = width_most m.limit in omega arith
size_most (max_streams m) h = let a = width_most m.count in let t = (type_width m.one_way).0 in omega arith
size_most (data_blocked n) h = let a = width_most n in omega arith
size_most (stream_data_blocked m) h = let a = width_most m.id in let b = width_most m.limit in omega arith
size_most (streams_blocked m) h = let a = width_most m.count in let t = (type_width m.one_way).1 in omega arith
size_most (new_connection_id n) h =
    let a = width_most n.sequence in
    let b = width_most n.retire_prior_to in
    let short = h.1.short in
    let token = h.1.token in
    omega (arith, length-append n.id n.token)
size_most (retire_connection_id n) h = let a = width_most n in omega arith
size_most (path_challenge d) h = omega arith
size_most (path_response d) h = omega arith
size_most (connection_close c) h = let a = width_most c.code in let b = width_most c.frame_type in let d = width_most (length c.reason) in omega arith
size_most (application_close c) h = let a = width_most c.code in let d = width_most (length c.reason) in omega arith
size_most handshake_done h = omega arith
size_most immediate_ack h = omega arith
size_most (datagram d) h = let a = width_most (length d) in omega arith
size_most (ack_frequency a) h =
    let w = width_most a.sequence in
    let x = width_most a.threshold in
    let y = width_most a.delay in
    let z = width_most a.reordering in
    omega arith
