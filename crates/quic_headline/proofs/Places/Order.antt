-- What was read of a stream, in the headline's words: a prefix, slices, offsets that differ, and
-- all offsets.
use Rattle.std.proofs.Common.{◌≡◌, ℕ, ◌+◌, ◌<◌, ◌≤◌, eqb, ltb, List, [], ◌∷◌, ◌++◌, length, take, drop, Bool, true, false, not, ◌||◌, Some, refl, sym, ap, ◌∙◌, inl, inr, arith}
use Rattle.std.specs.List.{IsDistinct, AllByRecursion}
use Rattle.std.proofs.lemmas.List.{append_assoc}
use Rattle.std.proofs.lemmas.Bool.{ne_eqb, and_parts, ltb-true, ltb-false, lt-ltb, le-ltb, cases_lt}
use Rattle.quic_wire_core.specs.StreamId.{other_side}
use Rattle.quic_wire_core.specs.declared.stream_id.Side.{Side}
use Rattle.quic_assembler.specs.declared.assembler.Chunk.{Chunk}
use Rattle.quic_assembler.specs.Arrived.{in_chunk}
use Rattle.quic_assembler.specs.ArrivedHistory.{was_given}
use Rattle.quic_streams_laws.specs.Written.{StandsAt}
use Rattle.quic_streams_laws.specs.Reads.{AreSlices, AreDistinct, FollowOn, IsReadOf}
use Rattle.quic_streams_laws.specs.Reads as laws
use Rattle.quic_streams_laws.specs.ReadsLaws.{follow_prefix}
use Rattle.quic_headline.specs.Runs.{Run, In, AreServed, until, written, ended, reset, reads, only_in_order, bytes_of, offsets_from, offsets_of}
use Rattle.quic_headline.proofs.Places.Told.{in_left, in_right, in_append}
use Rattle.quic_headline.specs.Headline.{IsPrefixOf, HasOffsets, OrderedPrefix, Slices, Once}

-- ---- chunks that follow on are a prefix

pub bytes_same : (cs : List Chunk) → bytes_of cs ≡ laws.bytes_of cs
bytes_same [] = refl
bytes_same (c ∷ cs) = ap (λ (bs : List ℕ). c.bytes ++ bs) (bytes_same cs)

-- chunks that stand one behind another from the first byte on are a prefix
pub read_prefix : (all : List ℕ) (cs : List Chunk) → FollowOn 0 cs → AreSlices all cs → IsPrefixOf (bytes_of cs) all
read_prefix all cs follow slices = let p = follow_prefix all cs follow slices in (p.rest, rw (bytes_same cs) p.is)

-- ---- slices

take_of : (xs ys : List ℕ) → take (length xs) (xs ++ ys) ≡ xs
take_of [] ys = refl
take_of (x ∷ xs) ys = ap (λ t. x ∷ t) (take_of xs ys)

drop_of : (xs ys : List ℕ) → drop (length xs) (xs ++ ys) ≡ ys
drop_of [] ys = refl
drop_of (x ∷ xs) ys = drop_of xs ys

-- bytes that stand at an offset are the slice there
pub stands_slice : (all : List ℕ) (offset : ℕ) (bytes : List ℕ) → StandsAt all offset bytes → take (length bytes) (drop offset all) ≡ bytes
stands_slice all offset bytes s = rw (← s.is, ← s.place, append_assoc s.before bytes s.behind, drop_of s.before (bytes ++ s.behind)) (take_of bytes s.behind)

-- each chunk is a slice at its offset
pub chunk_slice : (all : List ℕ) (cs : List Chunk) (c : Chunk) → AreSlices all cs → In c cs → take (length c.bytes) (drop c.offset all) ≡ c.bytes
chunk_slice all [] c slices i = absurd i
chunk_slice all (d ∷ cs) c slices (inl is) = rw is (stands_slice all d.offset d.bytes slices.0)
chunk_slice all (d ∷ cs) c slices (inr i) = chunk_slice all cs c slices.1 i

-- ---- the offsets of chunks

-- those of bytes from an offset on
from_within : (offset : ℕ) (bytes : List ℕ) (o : ℕ) → In o (offsets_from offset bytes) → (offset ≤ o) × (o < offset + length bytes)
from_within offset [] o i = absurd i
from_within offset (b ∷ bytes) o (inl is) = (omega arith, omega arith)
from_within offset (b ∷ bytes) o (inr i) =
    let more = from_within (offset + 1) bytes o i in
    let from = more.0 in
    let below = more.1 in
    (omega arith, omega arith)

within_from : (offset : ℕ) (bytes : List ℕ) (o : ℕ) → offset ≤ o → o < offset + length bytes → In o (offsets_from offset bytes)
within_from offset [] o from below = absurd (omega arith)
within_from offset (b ∷ bytes) o from below = elim (cases_lt offset o) [
  | inl above ↦ inr (within_from (offset + 1) bytes o (omega arith) (omega arith))
  | inr here ↦ inl (omega arith)
]

-- an offset that a chunk has is one of its
chunk_in : (c : Chunk) (o : ℕ) → in_chunk (Some c) o ≡ true → In o (offsets_from c.offset c.bytes)
chunk_in c o is =
    let parts = and_parts (not (ltb o c.offset)) (ltb o (c.offset + length c.bytes)) is in
    let from = ltb-false o c.offset (not_true (ltb o c.offset) parts.0) in
    let below = ltb-true o (c.offset + length c.bytes) parts.1 in
    within_from c.offset c.bytes o from below
  where
    not_true : (b : Bool) → not b ≡ true → b ≡ false
    not_true true is = sym is
    not_true false is = refl

in_one : (c : Chunk) (o : ℕ) → In o (offsets_from c.offset c.bytes) → in_chunk (Some c) o ≡ true
in_one c o i =
    let within = from_within c.offset c.bytes o i in
    rw (le-ltb o c.offset within.0, lt-ltb o (c.offset + length c.bytes) within.1) refl

-- an offset that was read is one of theirs
pub given_in : (cs : List Chunk) (o : ℕ) → was_given cs o ≡ true → In o (offsets_of cs)
given_in [] o is = cc
given_in (c ∷ cs) o is = go (in_chunk (Some c) o) refl is (given_in cs o)
  where
    go : (b : Bool) → in_chunk (Some c) o ≡ b → (b || was_given cs o) ≡ true → (was_given cs o ≡ true → In o (offsets_of cs)) → In o (offsets_of (c ∷ cs))
    go true here some more = in_left o (offsets_from c.offset c.bytes) (offsets_of cs) (chunk_in c o here)
    go false apart some more = in_right o (offsets_from c.offset c.bytes) (offsets_of cs) (more some)

-- and each of theirs was read
pub in_given : (cs : List Chunk) (o : ℕ) → In o (offsets_of cs) → was_given cs o ≡ true
in_given [] o i = absurd i
in_given (c ∷ cs) o i = elim (in_append o (offsets_from c.offset c.bytes) (offsets_of cs) i) [
  | inl here ↦ ap (λ (b : Bool). b || was_given cs o) (in_one c o here)
  | inr more ↦ ap (λ (b : Bool). in_chunk (Some c) o || b) (in_given cs o more) ∙ or_true (in_chunk (Some c) o)
]
  where
    or_true : (b : Bool) → (b || true) ≡ true
    or_true true = refl
    or_true false = refl

-- all of so many offsets were read
pub all_given : (cs : List Chunk) (count : ℕ) → ((o : ℕ) → o < count → was_given cs o ≡ true) → HasOffsets cs count
all_given cs count all o below = given_in cs o (all o below)

-- ---- no offset twice

above : (offset low : ℕ) (xs : List ℕ) → low < offset → AllByRecursion (λ y. eqb low y ≡ false) (offsets_from offset xs)
above offset low [] l = tt
above offset low (x ∷ xs) l = (ne_eqb low offset (λ e. omega arith), above (offset + 1) low xs (omega arith))

offsets_differ : (offset : ℕ) (xs : List ℕ) → IsDistinct eqb (offsets_from offset xs)
unfolding IsDistinct
offsets_differ offset [] = tt
offsets_differ offset (x ∷ xs) = (above (offset + 1) offset xs (omega arith), offsets_differ (offset + 1) xs)

-- a number that is none of either
all_both : (x : ℕ) (xs ys : List ℕ) → AllByRecursion (λ y. eqb x y ≡ false) xs → ((o : ℕ) → In o ys → x ≡ o → ⊥) → AllByRecursion (λ y. eqb x y ≡ false) (xs ++ ys)
all_both x [] [] all none = tt
all_both x [] (y ∷ ys) all none = (ne_eqb x y (none y (inl refl)), all_both x [] ys tt (λ o i. none o (inr i)))
all_both x (z ∷ xs) ys all none = (all.0, all_both x xs ys all.1 none)

-- distinct numbers behind others
distinct_both : (xs ys : List ℕ) → IsDistinct eqb xs → IsDistinct eqb ys → ((o : ℕ) → In o xs → In o ys → ⊥) → IsDistinct eqb (xs ++ ys)
unfolding IsDistinct
distinct_both [] ys d e apart = e
distinct_both (x ∷ xs) ys d e apart = (all_both x xs ys d.0 (λ o i is. apart x (inl refl) (rw is i)), distinct_both xs ys d.1 e (λ o i j. apart o (inr i) j))

-- chunks that have no offset in common
pub once_read : (cs : List Chunk) → AreDistinct cs → IsDistinct eqb (offsets_of cs)
unfolding IsDistinct
once_read [] d = tt
once_read (c ∷ cs) d = distinct_both (offsets_from c.offset c.bytes) (offsets_of cs) (offsets_differ c.offset c.bytes) (once_read cs d.1)
    (λ o i j. (let none = d.0 o (in_one c o i) in let some = in_given cs o j in cc))

-- ---- the clauses

-- what was done on a stream, and read of it, by what was told
abbrev pub ReadsRight : Run → Type 0
ReadsRight r = (side : Side) (id i : ℕ) → AreServed r i
    → IsReadOf (record { bytes = written id (until r (other_side side) i); ended = ended id (until r (other_side side) i); reset = reset id (until r (other_side side) i) }) (record { chunks = reads id (until r side i); unordered = not (only_in_order id (until r side i)) })

pub ordered_prefix : (r : Run) → ReadsRight r → OrderedPrefix r
ordered_prefix r right side id i served only = let x = right side id i served in read_prefix (written id (until r (other_side side) i)) (reads id (until r side i)) (x.in_order (ap not only)) x.slices

pub slices : (r : Run) → ReadsRight r → Slices r
slices r right side id i chunk served among = chunk_slice (written id (until r (other_side side) i)) (reads id (until r side i)) chunk (right side id i served).slices among

pub once : (r : Run) → ReadsRight r → Once r
once r right side id i served = once_read (reads id (until r side i)) (right side id i served).once
