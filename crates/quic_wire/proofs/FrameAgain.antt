-- What is a form of a frame is read as that frame.
use Rattle.std.proofs.Common.{◌≡◌, ℕ, ◌≤◌, Bool, true, false, ltb, eqb, ◌||◌, List, [], ◌∷◌, ◌++◌, length, Ok, refl, ap, ◌∙◌, append_assoc, arith}
use Rattle.std.proofs.lemmas.Bool.{le-ltb, ne_eqb}
use Rattle.std.proofs.lemmas.List.{take_at, drop_at, length-append, append-nil}
use Rattle.quic_wire.specs.Value.{FrameValue, AckValue, ack, ResetStreamValue, StopSendingValue, CryptoValue, StreamValue, StreamLimitValue, NewConnectionIdValue, ConnectionCloseValue, ApplicationCloseValue, AckFrequencyValue, padding, ping, handshake_done, immediate_ack, reset_stream, stop_sending, crypto, new_token, stream, max_data, max_stream_data, max_streams, data_blocked, stream_data_blocked, streams_blocked, new_connection_id, retire_connection_id, path_challenge, path_response, connection_close, application_close, datagram, ack_frequency}
use Rattle.quic_wire.specs.FrameTypes.{Kind, is_padding, is_ping, is_ack, is_reset_stream, is_stop_sending, is_crypto, is_new_token, is_stream, is_max_data, is_max_stream_data, is_max_streams, is_data_blocked, is_stream_data_blocked, is_streams_blocked, is_new_connection_id, is_retire_connection_id, is_path_challenge, is_path_response, is_connection_close, is_application_close, is_handshake_done, is_immediate_ack, is_datagram, is_ack_frequency, IsKnown, kind_of, type_of}
use Rattle.quic_wire.specs.Reading.{var_at, block_at, sized_at, reset_stream_at, stop_sending_at, crypto_at, offset_at, data_at, stream_at, stream_limit_at, byte_at, id_at, connection_id_at, id_and_token_at, issued_at, new_connection_id_at, connection_close_at, application_close_at, ack_frequency_at, counted, as_frame, of_kind_at, body_at}
use Rattle.quic_wire.specs.AckGrammar.{GoDown, has_ecn, ack_numbers}
use Rattle.quic_wire.proofs.AckAgain.{numbers_behind, ack_again}
use Rattle.quic_wire.specs.Items.{frame_at}
use Rattle.quic_wire.specs.Grammar.{Numbers, Then, offset_numbers, length_numbers, Ends, OffsetFits, id_and_token, IsIssued, IsForm}
use Rattle.quic_wire.proofs.FrameKinds.{kind_of_type}
use Rattle.quic_wire.proofs.FieldAgain.{next, none_left, number_again}

-- ---- fields

block_again : (text rest : List ℕ) → block_at (length text) (text ++ rest) ≡ Ok (text, rest)
unfolding block_at
block_again text rest =
    let long : ltb (length (text ++ rest)) (length text) ≡ false = le-ltb _ _ (omega (arith, length-append text rest)) in
    rw (long, take_at text rest (length text) refl, drop_at text rest (length text) refl) refl

sized_again : (text front rest : List ℕ) → Numbers (length text ∷ []) front → sized_at (front ++ (text ++ rest)) ≡ Ok (text, rest)
unfolding sized_at
sized_again text front rest h = rw (number_again (length text) front (text ++ rest) h) (block_again text rest)

data_again : (sized : Bool) (text front rest : List ℕ) → Numbers (length_numbers sized text) front → Ends sized rest → data_at sized (front ++ (text ++ rest)) ≡ Ok (text, rest)
unfolding data_at
data_again true text front rest h e = sized_again text front rest h
data_again false text front rest h e = rw (h, e, append-nil text) refl

offset_again : (written : Bool) (offset : ℕ) (ns front : List ℕ) → Numbers (offset_numbers written offset ++ ns) front → OffsetFits written offset
    → (after : List ℕ) × Numbers ns after × ((rest : List ℕ) → offset_at written (front ++ rest) ≡ Ok (offset, after ++ rest))
unfolding offset_at
offset_again true offset ns front h fits = let a = next offset ns front h in (a.after, a.others, a.reads)
offset_again false offset ns front h fits = (front, h, λ rest. rw fits refl)

-- a block of a length that is known
long_again : (n : ℕ) (text rest : List ℕ) → length text ≡ n → block_at n (text ++ rest) ≡ Ok (text, rest)
long_again n text rest len = rw (← len) (block_again text rest)

byte_again : (n : ℕ) (rest : List ℕ) → byte_at (n ∷ rest) ≡ Ok (n, rest)
unfolding byte_at
byte_again n rest = refl

out_of_range : (n : ℕ) → 1 ≤ n → n ≤ 20 → (eqb n 0 || ltb 20 n) ≡ false
out_of_range n some short = let e : eqb n 0 ≡ false = ne_eqb n 0 (λ z. omega arith) in let f : ltb 20 n ≡ false = le-ltb 20 n short in rw (e, f) refl

id_again : (id rest : List ℕ) → 1 ≤ length id → length id ≤ 20 → id_at (length id) (id ++ rest) ≡ Ok (id, rest)
unfolding id_at
id_again id rest some short = rw (out_of_range (length id) some short) (block_again id rest)

connection_id_again : (id rest : List ℕ) → 1 ≤ length id → length id ≤ 20 → connection_id_at (length id ∷ (id ++ rest)) ≡ Ok (id, rest)
unfolding connection_id_at
connection_id_again id rest some short = rw (byte_again (length id) (id ++ rest)) (id_again id rest some short)

-- ---- frames behind their types

reset_stream_again : (r : ResetStreamValue) (front rest : List ℕ) → Numbers (r.id ∷ r.code ∷ r.final_size ∷ []) front → reset_stream_at (front ++ rest) ≡ Ok (r, rest)
unfolding reset_stream_at
reset_stream_again r front rest h =
    let a = next r.id (r.code ∷ r.final_size ∷ []) front h in
    let b = next r.code (r.final_size ∷ []) a.after a.others in
    rw (a.reads rest, b.reads rest, number_again r.final_size b.after rest b.others) refl

stop_sending_again : (s : StopSendingValue) (front rest : List ℕ) → Numbers (s.id ∷ s.code ∷ []) front → stop_sending_at (front ++ rest) ≡ Ok (s, rest)
unfolding stop_sending_at
stop_sending_again s front rest h =
    let a = next s.id (s.code ∷ []) front h in
    rw (a.reads rest, number_again s.code a.after rest a.others) refl

crypto_again : (c : CryptoValue) (front rest : List ℕ) → Numbers (c.offset ∷ length c.bytes ∷ []) front → crypto_at (front ++ (c.bytes ++ rest)) ≡ Ok (c, rest)
unfolding crypto_at
crypto_again c front rest h =
    let a = next c.offset (length c.bytes ∷ []) front h in
    rw (a.reads (c.bytes ++ rest), sized_again c.bytes a.after rest a.others) refl

stream_limit_again : (m : StreamLimitValue) (front rest : List ℕ) → Numbers (m.id ∷ m.limit ∷ []) front → stream_limit_at (front ++ rest) ≡ Ok (m, rest)
unfolding stream_limit_at
stream_limit_again m front rest h =
    let a = next m.id (m.limit ∷ []) front h in
    rw (a.reads rest, number_again m.limit a.after rest a.others) refl

id_and_token_again : (n : NewConnectionIdValue) (rest : List ℕ) → IsIssued n → id_and_token_at n.sequence n.retire_prior_to (id_and_token n ++ rest) ≡ Ok (n, rest)
unfolding id_and_token_at
id_and_token_again n rest h =
    rw (append_assoc n.id n.token rest, connection_id_again n.id (n.token ++ rest) h.some h.short, long_again 16 n.token rest h.token) refl

issued_again : (n : NewConnectionIdValue) (rest : List ℕ) → IsIssued n → issued_at n.sequence n.retire_prior_to (id_and_token n ++ rest) ≡ Ok (n, rest)
unfolding issued_at
issued_again n rest h = rw (le-ltb n.sequence n.retire_prior_to h.retires) (id_and_token_again n rest h)

new_connection_id_again : (n : NewConnectionIdValue) (front rest : List ℕ) → IsIssued n → Numbers (n.sequence ∷ n.retire_prior_to ∷ []) front → new_connection_id_at (front ++ (id_and_token n ++ rest)) ≡ Ok (n, rest)
unfolding new_connection_id_at
new_connection_id_again n front rest issued h =
    let a = next n.sequence (n.retire_prior_to ∷ []) front h in
    rw (a.reads (id_and_token n ++ rest), number_again n.retire_prior_to a.after (id_and_token n ++ rest) a.others) (issued_again n rest issued)

connection_close_again : (c : ConnectionCloseValue) (front rest : List ℕ) → Numbers (c.code ∷ c.frame_type ∷ length c.reason ∷ []) front → connection_close_at (front ++ (c.reason ++ rest)) ≡ Ok (c, rest)
unfolding connection_close_at
connection_close_again c front rest h =
    let a = next c.code (c.frame_type ∷ length c.reason ∷ []) front h in
    let b = next c.frame_type (length c.reason ∷ []) a.after a.others in
    rw (a.reads (c.reason ++ rest), b.reads (c.reason ++ rest), sized_again c.reason b.after rest b.others) refl

application_close_again : (c : ApplicationCloseValue) (front rest : List ℕ) → Numbers (c.code ∷ length c.reason ∷ []) front → application_close_at (front ++ (c.reason ++ rest)) ≡ Ok (c, rest)
unfolding application_close_at
application_close_again c front rest h =
    let a = next c.code (length c.reason ∷ []) front h in
    rw (a.reads (c.reason ++ rest), sized_again c.reason a.after rest a.others) refl

ack_frequency_again : (f : AckFrequencyValue) (front rest : List ℕ) → Numbers (f.sequence ∷ f.threshold ∷ f.delay ∷ f.reordering ∷ []) front → ack_frequency_at (front ++ rest) ≡ Ok (f, rest)
unfolding ack_frequency_at
ack_frequency_again f front rest h =
    let a = next f.sequence (f.threshold ∷ f.delay ∷ f.reordering ∷ []) front h in
    let b = next f.threshold (f.delay ∷ f.reordering ∷ []) a.after a.others in
    let c = next f.delay (f.reordering ∷ []) b.after b.others in
    rw (a.reads rest, b.reads rest, c.reads rest, number_again f.reordering c.after rest c.others) refl

stream_again : (s : StreamValue) (written sized : Bool) (front rest : List ℕ) → OffsetFits written s.offset → Ends sized rest
    → Numbers (s.id ∷ (offset_numbers written s.offset ++ length_numbers sized s.bytes)) front → stream_at written sized s.fin (front ++ (s.bytes ++ rest)) ≡ Ok (s, rest)
unfolding stream_at
stream_again s written sized front rest offset ends h =
    let a = next s.id (offset_numbers written s.offset ++ length_numbers sized s.bytes) front h in
    let b = offset_again written s.offset (length_numbers sized s.bytes) a.after a.others offset in
    rw (a.reads (s.bytes ++ rest), b.2 (s.bytes ++ rest), data_again sized s.bytes b.0 rest b.1 ends) refl

-- ---- whole frames

-- a frame is read where its kind is
body_again : (type : ℕ) (kind : Kind) (bytes : List ℕ) (f : FrameValue) (rest : List ℕ) → kind_of type ≡ kind → of_kind_at kind bytes ≡ Ok (f, rest) → body_at type bytes ≡ Ok (f, rest)
unfolding body_at
body_again type kind bytes f rest e h = ap (λ (k : Kind). of_kind_at k bytes) e ∙ h

-- a frame of a type and numbers, whose kind is read
by_kind : (kind : Kind) (ns bytes rest : List ℕ) (f : FrameValue) → IsKnown kind → Numbers (type_of kind ∷ ns) bytes
    → ((after : List ℕ) → Numbers ns after → of_kind_at kind (after ++ rest) ≡ Ok (f, rest)) → frame_at (bytes ++ rest) ≡ Ok (f, rest)
unfolding frame_at
by_kind kind ns bytes rest f known h body =
    let a = next (type_of kind) ns bytes h in
    rw (a.reads rest, body_again (type_of kind) kind (a.after ++ rest) f rest (kind_of_type kind known) (body a.after a.others)) refl

-- a frame of a type, numbers and a text, whose kind is read
by_kind_then : (kind : Kind) (ns text bytes rest : List ℕ) (f : FrameValue) → IsKnown kind → Then (type_of kind ∷ ns) text bytes
    → ((after : List ℕ) → Numbers ns after → of_kind_at kind (after ++ (text ++ rest)) ≡ Ok (f, rest)) → frame_at (bytes ++ rest) ≡ Ok (f, rest)
unfolding frame_at
by_kind_then kind ns text bytes rest f known h body =
    let a = next (type_of kind) ns h.0 h.1 in
    let regrouped : bytes ++ rest ≡ h.0 ++ (text ++ rest) = rw h.2 (append_assoc h.0 text rest) in
    ap frame_at regrouped ∙ rw (a.reads (text ++ rest), body_again (type_of kind) kind (a.after ++ (text ++ rest)) f rest (kind_of_type kind known) (body a.after a.others)) refl

-- a frame of a type and one number
one_number : (kind : Kind) (n : ℕ) (bytes rest : List ℕ) (f : ℕ → FrameValue) → IsKnown kind → Numbers (type_of kind ∷ n ∷ []) bytes
    → ((b : List ℕ) → of_kind_at kind b ≡ as_frame f (var_at b)) → frame_at (bytes ++ rest) ≡ Ok (f n, rest)
one_number kind n bytes rest f known h is = by_kind kind (n ∷ []) bytes rest (f n) known h (λ after ns. is (after ++ rest) ∙ ap (as_frame f) (number_again n after rest ns))

-- a frame of a type and eight bytes
eight_bytes : (kind : Kind) (d bytes rest : List ℕ) (f : List ℕ → FrameValue) → IsKnown kind → length d ≡ 8 → Then (type_of kind ∷ []) d bytes
    → ((b : List ℕ) → of_kind_at kind b ≡ as_frame f (block_at 8 b)) → frame_at (bytes ++ rest) ≡ Ok (f d, rest)
eight_bytes kind d bytes rest f known len h is =
    by_kind_then kind [] d bytes rest (f d) known h (λ after ns. ap (of_kind_at kind) (none_left after (d ++ rest) ns) ∙ is (d ++ rest) ∙ ap (as_frame f) (long_again 8 d rest len))

ack_form : (a : AckValue) (ranges : List (ℕ × ℕ)) (bytes rest : List ℕ) → a.ranges ≡ ranges → GoDown a.largest ranges → Numbers (ack_numbers a ranges) bytes → frame_at (bytes ++ rest) ≡ Ok (ack a, rest)
ack_form a [] bytes rest is down h = absurd down
ack_form a (r ∷ rs) bytes rest is down h =
    by_kind (is_ack (has_ecn a.ecn)) (numbers_behind a r rs) bytes rest (ack a) tt h (λ after ns. ap (as_frame ack) (ack_again a r rs after rest is down.0 down.1 down.2 ns))

pub form_again : (f : FrameValue) (bytes rest : List ℕ) → IsForm f bytes rest → frame_at (bytes ++ rest) ≡ Ok (f, rest)
form_again padding bytes rest h = by_kind is_padding [] bytes rest padding tt h (λ after ns. rw (none_left after rest ns) refl)
form_again ping bytes rest h = by_kind is_ping [] bytes rest ping tt h (λ after ns. rw (none_left after rest ns) refl)
form_again (ack a) bytes rest h = ack_form a a.ranges bytes rest refl h.0 h.1
form_again (reset_stream r) bytes rest h =
    by_kind is_reset_stream (r.id ∷ r.code ∷ r.final_size ∷ []) bytes rest (reset_stream r) tt h (λ after ns. ap (as_frame reset_stream) (reset_stream_again r after rest ns))
form_again (stop_sending s) bytes rest h =
    by_kind is_stop_sending (s.id ∷ s.code ∷ []) bytes rest (stop_sending s) tt h (λ after ns. ap (as_frame stop_sending) (stop_sending_again s after rest ns))
form_again (crypto c) bytes rest h =
    by_kind_then is_crypto (c.offset ∷ length c.bytes ∷ []) c.bytes bytes rest (crypto c) tt h (λ after ns. ap (as_frame crypto) (crypto_again c after rest ns))
form_again (new_token t) bytes rest h =
    by_kind_then is_new_token (length t ∷ []) t bytes rest (new_token t) tt h (λ after ns. ap (as_frame new_token) (sized_again t after rest ns))
form_again (stream s) bytes rest h =
    by_kind_then (is_stream h.written h.sized s.fin) (s.id ∷ (offset_numbers h.written s.offset ++ length_numbers h.sized s.bytes)) s.bytes bytes rest (stream s) tt h.text
    (λ after ns. ap (as_frame stream) (stream_again s h.written h.sized after rest h.offset h.ends ns))
form_again (max_data n) bytes rest h = one_number is_max_data n bytes rest max_data tt h (λ b. refl)
form_again (max_stream_data m) bytes rest h =
    by_kind is_max_stream_data (m.id ∷ m.limit ∷ []) bytes rest (max_stream_data m) tt h (λ after ns. ap (as_frame max_stream_data) (stream_limit_again m after rest ns))
form_again (max_streams m) bytes rest h = one_number (is_max_streams m.one_way) m.count bytes rest (λ n. max_streams (counted m.one_way n)) tt h (λ b. refl)
form_again (data_blocked n) bytes rest h = one_number is_data_blocked n bytes rest data_blocked tt h (λ b. refl)
form_again (stream_data_blocked m) bytes rest h =
    by_kind is_stream_data_blocked (m.id ∷ m.limit ∷ []) bytes rest (stream_data_blocked m) tt h (λ after ns. ap (as_frame stream_data_blocked) (stream_limit_again m after rest ns))
form_again (streams_blocked m) bytes rest h = one_number (is_streams_blocked m.one_way) m.count bytes rest (λ n. streams_blocked (counted m.one_way n)) tt h (λ b. refl)
form_again (new_connection_id n) bytes rest h =
    by_kind_then is_new_connection_id (n.sequence ∷ n.retire_prior_to ∷ []) (id_and_token n) bytes rest (new_connection_id n) tt h.1
    (λ after ns. ap (as_frame new_connection_id) (new_connection_id_again n after rest h.0 ns))
form_again (retire_connection_id n) bytes rest h = one_number is_retire_connection_id n bytes rest retire_connection_id tt h (λ b. refl)
form_again (path_challenge d) bytes rest h = eight_bytes is_path_challenge d bytes rest path_challenge tt h.0 h.1 (λ b. refl)
form_again (path_response d) bytes rest h = eight_bytes is_path_response d bytes rest path_response tt h.0 h.1 (λ b. refl)
form_again (connection_close c) bytes rest h =
    by_kind_then is_connection_close (c.code ∷ c.frame_type ∷ length c.reason ∷ []) c.reason bytes rest (connection_close c) tt h (λ after ns. ap (as_frame connection_close) (connection_close_again c after rest ns))
form_again (application_close c) bytes rest h =
    by_kind_then is_application_close (c.code ∷ length c.reason ∷ []) c.reason bytes rest (application_close c) tt h (λ after ns. ap (as_frame application_close) (application_close_again c after rest ns))
form_again handshake_done bytes rest h = by_kind is_handshake_done [] bytes rest handshake_done tt h (λ after ns. rw (none_left after rest ns) refl)
form_again immediate_ack bytes rest h = by_kind is_immediate_ack [] bytes rest immediate_ack tt h (λ after ns. rw (none_left after rest ns) refl)
form_again (datagram d) bytes rest h =
    by_kind_then (is_datagram h.sized) (length_numbers h.sized d) d bytes rest (datagram d) tt h.text (λ after ns. ap (as_frame datagram) (data_again h.sized d after rest ns h.ends))
form_again (ack_frequency a) bytes rest h =
    by_kind is_ack_frequency (a.sequence ∷ a.threshold ∷ a.delay ∷ a.reordering ∷ []) bytes rest (ack_frequency a) tt h (λ after ns. ap (as_frame ack_frequency) (ack_frequency_again a after rest ns))
