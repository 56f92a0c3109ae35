-- Type numbers and the kinds that they name.
use Rattle.std.proofs.Common.{◌≡◌, ℕ, ◌≤◌, ◌<◌, Bool, true, false, not, ◌&&◌, ◌||◌, List, [], ◌∷◌, Result, Err, refl, sym, subst, arith, inl, inr}
use Rattle.std.specs.Prelude.{if◌then◌else◌, ◌==◌, nat_lt}
use Rattle.std.specs.List.{list_all}
use Rattle.std.proofs.lemmas.Bool.{cases_eq, cases_lt, eqb-true, eq-eqb, ne_eqb, le-ltb, lt-ltb}
use Rattle.quic_wire.specs.declared.frame.FrameError.{FrameError}
use Rattle.quic_wire.specs.declared.frame.FrameError.TheVariants.{InvalidId}
use Rattle.quic_wire.specs.Value.{FrameValue}
use Rattle.quic_wire_core.specs.Taking.{Reads}
use Rattle.quic_wire.specs.FrameTypes.{Kind, is_padding, is_ping, is_ack, is_reset_stream, is_stop_sending, is_crypto, is_new_token, is_stream, is_max_data, is_max_stream_data, is_max_streams, is_data_blocked, is_stream_data_blocked, is_streams_blocked, is_new_connection_id, is_retire_connection_id, is_path_challenge, is_path_response, is_connection_close, is_application_close, is_handshake_done, is_immediate_ack, is_datagram, is_ack_frequency, is_unknown, IsKnown, frame_types, named, kind_of, type_of, has_bit}
use Rattle.quic_wire.specs.Reading.{of_kind_at, body_at}

and_first : (a b : Bool) → (a && b) ≡ true → a ≡ true
and_first true b e = refl
and_first false b e = e

and_second : (a b : Bool) → (a && b) ≡ true → b ≡ true
and_second true b e = e
and_second false b e = absurd cc

-- what a test says of each entry of a list of types, and of an unknown number, it says of the kind
-- that is found
all_named_if : (test : ℕ → Kind → Bool) (type : ℕ) (x : ℕ × Kind) (xs : List (ℕ × Kind)) (b : Bool) → (type == x.0) ≡ b → (test x.0 x.1 && list_all (λ y. test y.0 y.1) xs) ≡ true
    → (list_all (λ y. test y.0 y.1) xs ≡ true → test type (named type xs) ≡ true) → test type (if b then x.1 else named type xs) ≡ true
all_named_if test type x xs true e all rest = rw (eqb-true type x.0 e) (and_first (test x.0 x.1) _ all)
all_named_if test type x xs false e all rest = rest (and_second (test x.0 x.1) _ all)

all_named : (test : ℕ → Kind → Bool) (type : ℕ) (xs : List (ℕ × Kind)) → test type (is_unknown type) ≡ true → list_all (λ y. test y.0 y.1) xs ≡ true → test type (named type xs) ≡ true
all_named test type [] none all = none
all_named test type (x ∷ xs) none all = all_named_if test type x xs (type == x.0) refl all (all_named test type xs none)

-- ---- a kind tells its type

numbers : ℕ → Kind → Bool
numbers type kind = type_of kind == type

-- the kind that a number names has that number
pub type_of_kind : (type : ℕ) → type_of (kind_of type) ≡ type
unfolding kind_of numbers
type_of_kind type = eqb-true _ _ (all_named numbers type frame_types (eq-eqb type type refl) refl)

-- the eight types of STREAM frames
kind_of_stream : (written sized fin : Bool) → kind_of (type_of (is_stream written sized fin)) ≡ is_stream written sized fin
unfolding kind_of
kind_of_stream false false false = refl
kind_of_stream false false true = refl
kind_of_stream false true false = refl
kind_of_stream false true true = refl
kind_of_stream true false false = refl
kind_of_stream true false true = refl
kind_of_stream true true false = refl
kind_of_stream true true true = refl

-- the number of a kind names it
pub kind_of_type : (kind : Kind) → IsKnown kind → kind_of (type_of kind) ≡ kind
unfolding kind_of
kind_of_type is_padding h = refl
kind_of_type is_ping h = refl
kind_of_type (is_ack true) h = refl
kind_of_type (is_ack false) h = refl
kind_of_type is_reset_stream h = refl
kind_of_type is_stop_sending h = refl
kind_of_type is_crypto h = refl
kind_of_type is_new_token h = refl
kind_of_type (is_stream written sized fin) h = kind_of_stream written sized fin
kind_of_type is_max_data h = refl
kind_of_type is_max_stream_data h = refl
kind_of_type (is_max_streams true) h = refl
kind_of_type (is_max_streams false) h = refl
kind_of_type is_data_blocked h = refl
kind_of_type is_stream_data_blocked h = refl
kind_of_type (is_streams_blocked true) h = refl
kind_of_type (is_streams_blocked false) h = refl
kind_of_type is_new_connection_id h = refl
kind_of_type is_retire_connection_id h = refl
kind_of_type is_path_challenge h = refl
kind_of_type is_path_response h = refl
kind_of_type is_connection_close h = refl
kind_of_type is_application_close h = refl
kind_of_type is_handshake_done h = refl
kind_of_type is_immediate_ack h = refl
kind_of_type (is_datagram true) h = refl
kind_of_type (is_datagram false) h = refl
kind_of_type is_ack_frequency h = refl
kind_of_type (is_unknown type) h = absurd h

at : (P : ℕ → Type 0) (type n : ℕ) → P n → (¬ (type ≡ n) → P type) → P type
at P type n here there = elim (cases_eq type n) [ inl e ↦ subst P (sym e) here | inr ne ↦ there ne ]

StreamKind : ℕ → Type 0
StreamKind type = kind_of type ≡ is_stream (has_bit type 4) (has_bit type 2) (has_bit type 1)

-- the bits of a type from 8 to 15 tell the kind
pub stream_kind : (type : ℕ) → 8 ≤ type → type < 16 → kind_of type ≡ is_stream (has_bit type 4) (has_bit type 2) (has_bit type 1)
unfolding kind_of StreamKind
stream_kind type least most =
    at StreamKind type 8 refl (λ n8. at StreamKind type 9 refl (λ n9. at StreamKind type 10 refl (λ n10. at StreamKind type 11 refl (λ n11.
    at StreamKind type 12 refl (λ n12. at StreamKind type 13 refl (λ n13. at StreamKind type 14 refl (λ n14. at StreamKind type 15 refl (λ n15.
    absurd (omega arith)))))))))

-- ---- which kinds are read

-- the types of frames that are read
reads_type : ℕ → Bool
reads_type type = (type == 0) || ((type == 1) || ((not (nat_lt type 2) && nat_lt type 32) || ((type == 48) || ((type == 49) || (type == 175)))))

is_read : Kind → Bool
is_read (is_unknown type) = false
is_read kind = true

only_read : ℕ → Kind → Bool
only_read type kind = not (is_read kind) || reads_type type

or_false : (a b : Bool) → (not a || b) ≡ true → b ≡ false → a ≡ false
or_false true b e f = absurd cc
or_false false b e f = refl

not_read : (kind : Kind) (bytes : List ℕ) → is_read kind ≡ false → of_kind_at kind bytes ≡ Err InvalidId
unfolding is_read
not_read (is_unknown type) bytes e = refl
not_read kind bytes e = absurd cc

-- a type of no kind that is read
unread : (type : ℕ) (bytes : List ℕ) → reads_type type ≡ false → body_at type bytes ≡ Err InvalidId
unfolding kind_of body_at only_read is_read reads_type
unread type bytes e = not_read (kind_of type) bytes (or_false (is_read (kind_of type)) (reads_type type) (all_named only_read type frame_types refl refl) e)

between : (type a b : ℕ) → (a ≤ type → type < b → ⊥) → (not (nat_lt type a) && nat_lt type b) ≡ false
between type a b out = elim (cases_lt type a) [
  | inl lt ↦ rw (lt-ltb type a lt) refl
  | inr ge ↦ elim (cases_lt type b) [
    | inl lt ↦ absurd (out (omega arith) lt)
    | inr ge' ↦ rw (le-ltb type a (omega arith), le-ltb type b (omega arith)) refl
  ]
]

pub body_other : (type : ℕ) (bytes : List ℕ) → ¬ (type ≡ 0) → ¬ (type ≡ 1) → (2 ≤ type → type < 32 → ⊥) → ¬ (type ≡ 48) → ¬ (type ≡ 49) → ¬ (type ≡ 175) → body_at type bytes ≡ Err InvalidId
unfolding reads_type
body_other type bytes n0 n1 out n48 n49 n175 =
    unread type bytes (rw (ne_eqb type 0 n0, ne_eqb type 1 n1, between type 2 32 out, ne_eqb type 48 n48, ne_eqb type 49 n49, ne_eqb type 175 n175) refl)

-- ---- the frame behind a type

-- the frame of a type is that of the kind that it names
pub of_type : {X : Type 0} (view : X → FrameValue) (kind : Kind) (type : ℕ) (bytes rest : List ℕ) (r : Result X FrameError) → IsKnown kind → type ≡ type_of kind → Reads view r rest (of_kind_at kind bytes) → Reads view r rest (body_at type bytes)
unfolding body_at
of_type view kind type bytes rest r known e h = rw (e, kind_of_type kind known) h

-- a type whose frame has no fields
pub body_is : (kind : Kind) (type : ℕ) (bytes : List ℕ) → IsKnown kind → type ≡ type_of kind → body_at type bytes ≡ of_kind_at kind bytes
unfolding body_at
body_is kind type bytes known e = rw (e, kind_of_type kind known) refl

-- the bits of a type of STREAM tell which fields are read
pub of_stream_type : {X : Type 0} (view : X → FrameValue) (type : ℕ) (bytes rest : List ℕ) (r : Result X FrameError) → 8 ≤ type → type < 16
    → Reads view r rest (of_kind_at (is_stream (has_bit type 4) (has_bit type 2) (has_bit type 1)) bytes) → Reads view r rest (body_at type bytes)
unfolding body_at
of_stream_type view type bytes rest r least most h = rw (stream_kind type least most) h
