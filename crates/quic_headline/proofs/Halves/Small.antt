-- A limit that a frame tells is below 2^62, as each number of a payload is (RFC 9000, section 16).
use Rattle.std.proofs.Common.{ℕ, ◌<◌, ◌^◌, List, [], ◌∷◌, sym, subst, inl, inr, arith}
use Rattle.quic_wire_core.specs.Varint.{Spells}
use Rattle.quic_wire.specs.Grammar.{IsForm, Payload}
use Rattle.quic_wire.specs.Value.{FrameValue, max_data, max_stream_data, new_connection_id}
use Rattle.quic_headline.specs.Runs.{In}

-- a number that has a form
spells_small : (v : ℕ) (bytes : List ℕ) → Spells v bytes → v < 2 ^ 62
spells_small v bytes (inl a) = let small = a.0 in omega arith
spells_small v bytes (inr (inl a)) = let small = a.0 in omega arith
spells_small v bytes (inr (inr (inl a))) = let small = a.0 in omega arith
spells_small v bytes (inr (inr (inr a))) = let small = a.0 in omega arith

-- the limit of a frame, if it is MAX_DATA or MAX_STREAM_DATA, is small
abbrev pub IsSmallLimit : FrameValue → Type 0
IsSmallLimit (max_data limit) = limit < 2 ^ 62
IsSmallLimit (max_stream_data f) = f.limit < 2 ^ 62
IsSmallLimit f = Unit {0}

form_small : (f : FrameValue) (bytes rest : List ℕ) → IsForm f bytes rest → IsSmallLimit f
form_small (max_data limit) bytes rest form = spells_small limit form.3.0 form.3.2
form_small (max_stream_data f) bytes rest form = spells_small f.limit form.3.3.0 form.3.3.2
form_small f bytes rest form = tt

-- so it is of each frame of a payload
pub payload_small : (fs : List FrameValue) (bytes : List ℕ) → Payload fs bytes → (f : FrameValue) → In f fs → IsSmallLimit f
payload_small [] bytes p f i = absurd i
payload_small (g ∷ fs) bytes p f (inl is) = subst IsSmallLimit (sym is) (form_small g p.0 p.1 p.2)
payload_small (g ∷ fs) bytes p f (inr i) = payload_small fs p.1 p.3 f i

-- the number of the id that a frame tells, if it is NEW_CONNECTION_ID, is small
abbrev pub IsSmallNumber : FrameValue → Type 0
IsSmallNumber (new_connection_id f) = f.sequence < 2 ^ 62
IsSmallNumber f = Unit {0}

form_number : (f : FrameValue) (bytes rest : List ℕ) → IsForm f bytes rest → IsSmallNumber f
form_number (new_connection_id f) bytes rest form = let sequence = form.1.1.3 in spells_small f.sequence sequence.0 sequence.2
form_number f bytes rest form = tt

-- so it is of each frame of a payload
pub payload_numbers : (fs : List FrameValue) (bytes : List ℕ) → Payload fs bytes → (f : FrameValue) → In f fs → IsSmallNumber f
payload_numbers [] bytes p f i = absurd i
payload_numbers (g ∷ fs) bytes p f (inl is) = subst IsSmallNumber (sym is) (form_number g p.0 p.1 p.2)
payload_numbers (g ∷ fs) bytes p f (inr i) = payload_numbers fs p.1 p.3 f i
