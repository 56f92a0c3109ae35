-- What is written: how it is put together, how long it is, and that it is a form.
use Rattle.std.proofs.Common.{◌≡◌, ℕ, ◌+◌, ◌<◌, ◌^◌, Bool, true, false, not, eqb, List, [], ◌∷◌, ◌++◌, length, take, refl, sym, ap, ◌∙◌, append_assoc, arith}
use Rattle.std.specs.Prelude.{if◌then◌else◌}
use Rattle.std.proofs.lemmas.Bool.{eqb-true}
use Rattle.std.proofs.lemmas.List.{length-append, append-nil, take_at, take_all}
use Rattle.quic_wire_core.specs.Varint.{shortest}
use Rattle.quic_wire_core.specs.Law.{shortest_spells}
use Rattle.quic_wire.specs.Value.{FrameValue, StreamValue, ack, padding, ping, handshake_done, immediate_ack, reset_stream, stop_sending, crypto, new_token, stream, max_data, max_stream_data, max_streams, data_blocked, stream_data_blocked, streams_blocked, new_connection_id, retire_connection_id, path_challenge, path_response, connection_close, application_close, datagram, ack_frequency}
use Rattle.quic_wire.specs.FrameTypes.{is_stream, is_max_streams, is_streams_blocked, is_datagram, type_of}
use Rattle.quic_wire.specs.Grammar.{Numbers, Then, offset_numbers, OffsetFits, length_numbers, number_if, Ends, stream_numbers, IsForm}
use Rattle.quic_wire.specs.Writing.{written, has_offset, header_of, stream_header, stream_spelling, text_of, numbers_of, spelling, datagram_to_end, AreNumbers, StreamFits, Fits, widths, width_of, length_width, some_if, stream_header_size, stream_size, frame_size}
use Rattle.quic_wire.specs.AckGrammar.{ack_numbers}
use Rattle.quic_wire.proofs.AckNumbers.{AreNumbers-append, ack_are_numbers}

pub written_append : (ns ms : List ℕ) → written (ns ++ ms) ≡ written ns ++ written ms
written_append [] ms = refl
written_append (n ∷ ns) ms = ap (λ (b : List ℕ). shortest n ++ b) (written_append ns ms) ∙ sym (append_assoc (shortest n) (written ns) (written ms))

-- what was there stands before what is written
pub stands_0 : (w : List ℕ) → take (length w) w ≡ w
stands_0 w = take_all (length w) w (omega arith)

pub stands_1 : (w a : List ℕ) → take (length w) (w ++ a) ≡ w
stands_1 w a = take_at w a (length w) refl

pub stands_2 : (w a b : List ℕ) → take (length w) ((w ++ a) ++ b) ≡ w
stands_2 w a b = rw (append_assoc w a b) (stands_1 w (a ++ b))

pub stands_3 : (w a b x : List ℕ) → take (length w) (((w ++ a) ++ b) ++ x) ≡ w
stands_3 w a b x = rw (append_assoc (w ++ a) b x) (stands_2 w a (b ++ x))

-- a type of a STREAM frame takes one byte
pub stream_type_short : (offset sized fin : Bool) → shortest (type_of (is_stream offset sized fin)) ≡ type_of (is_stream offset sized fin) ∷ []
stream_type_short false false false = refl
stream_type_short false false true = refl
stream_type_short false true false = refl
stream_type_short false true true = refl
stream_type_short true false false = refl
stream_type_short true false true = refl
stream_type_short true true false = refl
stream_type_short true true true = refl

-- ---- the parts of a STREAM frame in turn

pub stream_written : (s : StreamValue) (sized : Bool) (w w1 w2 : List ℕ) → w1 ≡ w ++ header_of sized s (length s.bytes) → w2 ≡ w1 ++ s.bytes → w2 ≡ w ++ stream_spelling sized s
unfolding stream_spelling
stream_written s sized w w1 w2 e1 e2 = rw (e2, e1) (append_assoc w (header_of sized s (length s.bytes)) s.bytes)

-- the parts of a NEW_CONNECTION_ID frame in turn
pub id_written : (w a id token : List ℕ) (n : ℕ) → (((w ++ a) ++ (n ∷ [])) ++ id) ++ token ≡ w ++ (a ++ (n ∷ (id ++ token)))
id_written w a id token n = simp append_assoc

pub id_length : (id token : List ℕ) → length (id ++ token) ≡ length id + length token
id_length id token = length-append id token

-- ---- how long it is

offset_size_if : (offset : ℕ) (b : Bool) → length (written (offset_numbers (not b) offset)) ≡ (if b then 0 else width_of offset)
offset_size_if offset true = refl
offset_size_if offset false = ap length (append-nil (shortest offset))

length_size : (sized : Bool) (n : ℕ) → length (written (number_if sized n)) ≡ length_width (some_if sized n)
length_size true n = ap length (append-nil (shortest n))
length_size false n = refl

sum_of : (a b x y : List ℕ) → length (a ++ (b ++ (x ++ y))) ≡ length a + length b + length x + length y
sum_of a b x y = simp length-append (omega arith)

-- the header of a STREAM frame takes so many bytes
pub header_length : (s : StreamValue) (sized : Bool) (n : ℕ) → length (header_of sized s n) ≡ stream_header_size s.id s.offset (some_if sized n)
header_length s sized n =
    let one = ap length (stream_type_short (has_offset s.offset) sized s.fin) in
    rw (written_append (offset_numbers (has_offset s.offset) s.offset) (number_if sized n))
    (sum_of (shortest (type_of (is_stream (has_offset s.offset) sized s.fin))) (shortest s.id) (written (offset_numbers (has_offset s.offset) s.offset)) (written (number_if sized n))
    ∙ rw (one, offset_size_if s.offset (eqb s.offset 0), length_size sized n) refl)

-- a STREAM frame takes so many bytes
pub stream_length : (sized : Bool) (s : StreamValue) → length (stream_spelling sized s) ≡ stream_size sized s
unfolding stream_spelling
stream_length sized s = length-append (header_of sized s (length s.bytes)) s.bytes ∙ ap (λ n. n + length s.bytes) (header_length s sized (length s.bytes))

-- numbers take so many bytes
written_length : (ns : List ℕ) → length (written ns) ≡ widths ns
written_length [] = refl
written_length (n ∷ ns) = length-append (shortest n) (written ns) ∙ ap (λ m. width_of n + m) (written_length ns)

parts_length : (ns text : List ℕ) → length (written ns ++ text) ≡ widths ns + length text
parts_length ns text = length-append (written ns) text ∙ ap (λ m. m + length text) (written_length ns)

-- a frame takes so many bytes
pub spelling_length : (f : FrameValue) → Fits f → length (spelling f) ≡ frame_size f
spelling_length padding h = refl
spelling_length ping h = refl
spelling_length (stream s) h = stream_length true s
spelling_length (ack a) h = written_length (ack_numbers a a.ranges)
spelling_length (reset_stream r) h = parts_length (numbers_of (reset_stream r)) (text_of (reset_stream r))
spelling_length (stop_sending r) h = parts_length (numbers_of (stop_sending r)) (text_of (stop_sending r))
spelling_length (crypto r) h = parts_length (numbers_of (crypto r)) (text_of (crypto r))
spelling_length (new_token r) h = parts_length (numbers_of (new_token r)) (text_of (new_token r))
spelling_length (max_data r) h = parts_length (numbers_of (max_data r)) (text_of (max_data r))
spelling_length (max_stream_data r) h = parts_length (numbers_of (max_stream_data r)) (text_of (max_stream_data r))
spelling_length (max_streams r) h = parts_length (numbers_of (max_streams r)) (text_of (max_streams r))
spelling_length (data_blocked r) h = parts_length (numbers_of (data_blocked r)) (text_of (data_blocked r))
spelling_length (stream_data_blocked r) h = parts_length (numbers_of (stream_data_blocked r)) (text_of (stream_data_blocked r))
spelling_length (streams_blocked r) h = parts_length (numbers_of (streams_blocked r)) (text_of (streams_blocked r))
spelling_length (new_connection_id r) h = parts_length (numbers_of (new_connection_id r)) (text_of (new_connection_id r))
spelling_length (retire_connection_id r) h = parts_length (numbers_of (retire_connection_id r)) (text_of (retire_connection_id r))
spelling_length (path_challenge r) h = parts_length (numbers_of (path_challenge r)) (text_of (path_challenge r))
spelling_length (path_response r) h = parts_length (numbers_of (path_response r)) (text_of (path_response r))
spelling_length (connection_close r) h = parts_length (numbers_of (connection_close r)) (text_of (connection_close r))
spelling_length (application_close r) h = parts_length (numbers_of (application_close r)) (text_of (application_close r))
spelling_length handshake_done h = parts_length (numbers_of handshake_done) (text_of handshake_done)
spelling_length immediate_ack h = parts_length (numbers_of immediate_ack) (text_of immediate_ack)
spelling_length (datagram r) h = parts_length (numbers_of (datagram r)) (text_of (datagram r))
spelling_length (ack_frequency r) h = parts_length (numbers_of (ack_frequency r)) (text_of (ack_frequency r))

-- ---- what is written is a form

written_numbers : (ns : List ℕ) → AreNumbers ns → Numbers ns (written ns)
written_numbers [] h = refl
written_numbers (n ∷ ns) h = (shortest n, written ns, shortest_spells n h.0, written_numbers ns h.1, refl)

offset_fits_if : (offset : ℕ) (b : Bool) → eqb offset 0 ≡ b → OffsetFits (not b) offset
offset_fits_if offset true e = eqb-true offset 0 e
offset_fits_if offset false e = tt

offset_small : (there : Bool) (offset : ℕ) → offset < 2 ^ 62 → AreNumbers (offset_numbers there offset)
offset_small true offset lt = (lt, tt)
offset_small false offset lt = tt

length_small : (sized : Bool) (text : List ℕ) → length text < 2 ^ 62 → AreNumbers (length_numbers sized text)
length_small true text lt = (lt, tt)
length_small false text lt = tt

type_small : (offset sized fin : Bool) → type_of (is_stream offset sized fin) < 2 ^ 62
type_small false false false = omega arith
type_small false false true = omega arith
type_small false true false = omega arith
type_small false true true = omega arith
type_small true false false = omega arith
type_small true false true = omega arith
type_small true true false = omega arith
type_small true true true = omega arith

-- a STREAM frame that is written is a form, without its length where nothing follows it
pub stream_form : (sized : Bool) (s : StreamValue) (rest : List ℕ) → StreamFits s → Ends sized rest → IsForm (stream s) (stream_spelling sized s) rest
unfolding stream_spelling
stream_form sized s rest h ends = record {
  written = has_offset s.offset;
  sized = sized;
  offset = offset_fits_if s.offset (eqb s.offset 0) refl;
  ends = ends;
  text = (
    stream_header sized s,
    written_numbers (stream_numbers (has_offset s.offset) sized s)
        (type_small (has_offset s.offset) sized s.fin, (h.0, AreNumbers-append (offset_numbers (has_offset s.offset) s.offset) (length_numbers sized s.bytes) (offset_small (has_offset s.offset) s.offset h.1) (length_small sized s.bytes h.2))),
    refl,
  );
}

alone : (ns : List ℕ) → AreNumbers ns → Numbers ns (written ns ++ [])
alone ns h = rw (append-nil (written ns)) (written_numbers ns h)

numbers_then : (ns text : List ℕ) → AreNumbers ns → Then ns text (written ns ++ text)
numbers_then ns text h = (written ns, written_numbers ns h, refl)

direction_small : (one_way : Bool) → (type_of (is_max_streams one_way) < 2 ^ 62) × (type_of (is_streams_blocked one_way) < 2 ^ 62)
direction_small true = (omega arith, omega arith)
direction_small false = (omega arith, omega arith)

-- a frame that is written is a form, whatever follows it
pub spelling_form : (f : FrameValue) (rest : List ℕ) → Fits f → IsForm f (spelling f) rest
spelling_form padding rest h = written_numbers (0 ∷ []) (omega arith, tt)
spelling_form ping rest h = written_numbers (1 ∷ []) (omega arith, tt)
spelling_form (stream s) rest h = stream_form true s rest h tt
spelling_form (ack a) rest h = (h.3, written_numbers (ack_numbers a a.ranges) (ack_are_numbers a h))
spelling_form (reset_stream r) rest h = alone (numbers_of (reset_stream r)) (omega arith, h)
spelling_form (stop_sending r) rest h = alone (numbers_of (stop_sending r)) (omega arith, h)
spelling_form (max_data r) rest h = alone (numbers_of (max_data r)) (omega arith, h)
spelling_form (max_stream_data r) rest h = alone (numbers_of (max_stream_data r)) (omega arith, h)
spelling_form (data_blocked r) rest h = alone (numbers_of (data_blocked r)) (omega arith, h)
spelling_form (stream_data_blocked r) rest h = alone (numbers_of (stream_data_blocked r)) (omega arith, h)
spelling_form (retire_connection_id r) rest h = alone (numbers_of (retire_connection_id r)) (omega arith, h)
spelling_form handshake_done rest h = alone (numbers_of handshake_done) (omega arith, tt)
spelling_form immediate_ack rest h = alone (numbers_of immediate_ack) (omega arith, tt)
spelling_form (ack_frequency r) rest h = alone (numbers_of (ack_frequency r)) (omega arith, h)
spelling_form (crypto r) rest h = numbers_then (numbers_of (crypto r)) (text_of (crypto r)) (omega arith, h)
spelling_form (new_token r) rest h = numbers_then (numbers_of (new_token r)) (text_of (new_token r)) (omega arith, h)
spelling_form (connection_close r) rest h = numbers_then (numbers_of (connection_close r)) (text_of (connection_close r)) (omega arith, h)
spelling_form (application_close r) rest h = numbers_then (numbers_of (application_close r)) (text_of (application_close r)) (omega arith, h)
spelling_form (max_streams m) rest h = alone (numbers_of (max_streams m)) ((direction_small m.one_way).0, h)
spelling_form (streams_blocked m) rest h = alone (numbers_of (streams_blocked m)) ((direction_small m.one_way).1, h)
spelling_form (new_connection_id n) rest h = (h.1, numbers_then (numbers_of (new_connection_id n)) (text_of (new_connection_id n)) (omega arith, h.0))
spelling_form (path_challenge d) rest h = (h, numbers_then (numbers_of (path_challenge d)) d (omega arith, tt))
spelling_form (path_response d) rest h = (h, numbers_then (numbers_of (path_response d)) d (omega arith, tt))
spelling_form (datagram d) rest h = record { sized = true; ends = tt; text = numbers_then (numbers_of (datagram d)) d (omega arith, h) }

-- a DATAGRAM frame without its length is a form where nothing follows it
pub datagram_end_form : (d : List ℕ) → IsForm (datagram d) (datagram_to_end d) []
datagram_end_form d = record { sized = false; ends = refl; text = numbers_then (type_of (is_datagram false) ∷ []) d (omega arith, tt) }

pub datagram_end_length : (d : List ℕ) → length (datagram_to_end d) ≡ 1 + length d
datagram_end_length d = omega arith
