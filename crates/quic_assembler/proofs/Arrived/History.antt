-- What the calls of an assembler give and leave, one after another.
use Rattle.std.proofs.Common.{◌≡◌, ℕ, ◌+◌, ◌-◌, ◌<◌, ◌≤◌, ◌⊎◌, inl, inr, ltb, length, List, [], ◌∷◌, Bool, true, false, not, ◌||◌, cond, Some, None, Option, refl, sym, ap, ◌∙◌, arith, get_or, count_by, lit≤}
use Rattle.std.specs.Prelude.{All, sum_by}
use Rattle.std.specs.Option.{option_or, IfSome}
use Rattle.std.specs.List.{slice_get}
use Rattle.std.proofs.lemmas.Bool.{ltb-true, ltb-false, le-ltb, and_parts, not-true}
use Rattle.std.proofs.lemmas.List.Elements.{All-cons, All-nil}
use Rattle.std.proofs.lemmas.List.Sums.{sum_by-cons}
use Rattle.quic_assembler.specs.declared.assembler.Chunk.{Chunk}
use Rattle.quic_assembler.specs.Arrived.{Arrived, IsLawful, is_given, byte_at, given_by, in_chunk, length_of, bytes_read_of}
use Rattle.quic_sets.specs.Parts.{Part, byte_from}
use Rattle.quic_assembler.specs.ArrivedHistory.{Call, inserted, begun, asked, cleared, arrived_after, AreInRange, with_given, given_over, was_given, byte_in, first_came, Came}
use Rattle.quic_sets.proofs.Parts.Bytes.{from_below, from_above, from_behind, from_within}
use Rattle.quic_assembler.proofs.Parts.Filled.{low_small}
use Rattle.quic_assembler.proofs.Calls.Kept.{order_kept}
use Rattle.quic_assembler.proofs.Arrived.Lawful.{insert_bytes, insert_lawful, read_given, read_leaves, read_counted, read_lawful, given_bytes, given_waits_not}

-- ---- lawful
pub lawful : (calls : List Call) → AreInRange calls → IsLawful (arrived_after calls)
lawful [] r = record {
  apart = omega arith;
  spans = omega arith;
  others = λ o e. refl;
  order = λ e. refl;
}
lawful (inserted offset bytes ∷ calls) r = insert_lawful (arrived_after calls) offset bytes (lawful calls r.1) r.0
lawful (begun ordered ∷ calls) r = order_kept (arrived_after calls) ordered (lawful calls r)
lawful (asked most ∷ calls) r = read_lawful (arrived_after calls) most (lawful calls r)
lawful (cleared ∷ calls) r =
    let h = lawful calls r in
    record {
      apart = low_small (arrived_after calls).read (arrived_after calls).parts h.apart;
      spans = h.spans;
      others = λ o e. refl;
      order = h.order;
    }

-- ---- what was given
more_given : (c : Option Chunk) (chunks : List Chunk) (o : ℕ) → was_given (with_given c chunks) o ≡ (in_chunk c o || was_given chunks o)
more_given None chunks o = refl
more_given (Some chunk) chunks o = refl

pub given : (calls : List Call) (o : ℕ) → AreInRange calls → is_given (arrived_after calls) o ≡ was_given (given_over calls) o
given [] o r = let none = le-ltb o 0 (omega arith) in rw none refl
given (inserted offset bytes ∷ calls) o r = given calls o r.1
given (begun ordered ∷ calls) o r = given calls o r
given (asked most ∷ calls) o r =
    let a = arrived_after calls in
    read_given a most o (lawful calls r) ∙ ap (λ b. in_chunk (given_by a most) o || b) (given calls o r) ∙ sym (more_given (given_by a most) (given_over calls) o)
given (cleared ∷ calls) o r = given calls o r

-- ---- what waits
came_more : (g : Bool) (x w c : Option ℕ) → w ≡ cond g None c → cond g None (option_or w x) ≡ cond g None (option_or c x)
came_more true x w c e = refl
came_more false x w c e = ap (λ y. option_or y x) e

given_more : (i g : Bool) (w c : Option ℕ) → w ≡ cond g None c → cond i None w ≡ cond (i || g) None c
given_more true g w c e = refl
given_more false g w c e = e

none_both : (g : Bool) → None ≡ cond {A = Option ℕ} g None None
none_both true = refl
none_both false = refl

pub waits : (calls : List Call) (o : ℕ) → AreInRange calls → byte_at (arrived_after calls).parts o ≡ cond (was_given (given_over calls) o) None (first_came calls o)
waits [] o r = refl
waits (inserted offset bytes ∷ calls) o r =
    let a = arrived_after calls in
    insert_bytes a offset bytes o (lawful calls r.1) r.0
    ∙ ap (λ g. cond g None (option_or (byte_at a.parts o) (byte_from offset bytes o))) (given calls o r.1)
    ∙ came_more (was_given (given_over calls) o) (byte_from offset bytes o) (byte_at a.parts o) (first_came calls o) (waits calls o r.1)
waits (begun ordered ∷ calls) o r = waits calls o r
waits (asked most ∷ calls) o r =
    let a = arrived_after calls in
    read_leaves a most o (lawful calls r)
    ∙ given_more (in_chunk (given_by a most) o) (was_given (given_over calls) o) (byte_at a.parts o) (first_came calls o) (waits calls o r)
    ∙ sym (ap (λ g. cond g None (first_came calls o)) (more_given (given_by a most) (given_over calls) o))
waits (cleared ∷ calls) o r = none_both (was_given (given_over calls) o)

-- ---- what a read gives
chunk_waits : (c : Option Chunk) (ps : List Part) (o byte : ℕ) → ((i : ℕ) → IfSome c (λ chunk. i < length chunk.bytes → slice_get chunk.bytes i ≡ byte_at ps (chunk.offset + i))) → byte_in c o ≡ Some byte → byte_at ps o ≡ Some byte
chunk_waits None ps o byte h e = cc
chunk_waits (Some chunk) ps o byte h e = go (ltb o chunk.offset) refl (ltb o (chunk.offset + length chunk.bytes)) refl
  where
    go : (b : Bool) → ltb o chunk.offset ≡ b → (c : Bool) → ltb o (chunk.offset + length chunk.bytes) ≡ c → byte_at ps o ≡ Some byte
    go true q c f = let none = from_below chunk.offset chunk.bytes o (ltb-true o chunk.offset q) in cc
    go false q false f = let none = from_behind chunk.offset chunk.bytes o (ltb-false o (chunk.offset + length chunk.bytes) f) in cc
    go false q true f =
        let k = ltb-false o chunk.offset q in
        let l = ltb-true o (chunk.offset + length chunk.bytes) f in
        let at : chunk.offset + (o - chunk.offset) ≡ o = omega arith in
        ap (byte_at ps) (sym at) ∙ sym (h (o - chunk.offset) (omega arith)) ∙ sym (from_above chunk.offset chunk.bytes o k) ∙ e

first_of_both : (g : Bool) (c : Option ℕ) (byte : ℕ) → cond g None c ≡ Some byte → c ≡ Some byte
first_of_both true c byte e = cc
first_of_both false c byte e = e

pub given_first : (calls : List Call) (most o byte : ℕ) → AreInRange calls → byte_in (given_by (arrived_after calls) most) o ≡ Some byte → first_came calls o ≡ Some byte
given_first calls most o byte r e =
    let a = arrived_after calls in
    let there = chunk_waits (given_by a most) a.parts o byte (λ i. given_bytes a most i (lawful calls r)) e in
    first_of_both (was_given (given_over calls) o) (first_came calls o) byte (sym (waits calls o r) ∙ there)

came_either : (c x : Option ℕ) (byte : ℕ) → option_or c x ≡ Some byte → (x ≡ Some byte) ⊎ (c ≡ Some byte)
came_either None x byte e = inl e
came_either (Some b) x byte e = inr e

first_is_come : (calls : List Call) (o byte : ℕ) → first_came calls o ≡ Some byte → Came calls o byte
first_is_come [] o byte e = cc
first_is_come (inserted offset bytes ∷ calls) o byte e = elim (came_either (first_came calls o) (byte_from offset bytes o) byte e) [ inl x ↦ inl x | inr x ↦ inr (first_is_come calls o byte x) ]
first_is_come (begun ordered ∷ calls) o byte e = first_is_come calls o byte e
first_is_come (asked most ∷ calls) o byte e = first_is_come calls o byte e
first_is_come (cleared ∷ calls) o byte e = cc

pub given_came : (calls : List Call) (most o byte : ℕ) → AreInRange calls → byte_in (given_by (arrived_after calls) most) o ≡ Some byte → Came calls o byte
given_came calls most o byte r e = first_is_come calls o byte (given_first calls most o byte r e)

abbrev CameFor : List Call → Chunk → Type 0
CameFor calls chunk = (o byte : ℕ) → byte_in (Some chunk) o ≡ Some byte → Came calls o byte

all_more : (calls : List Call) (c : Option Chunk) (chunks : List Chunk) → ((o byte : ℕ) → byte_in c o ≡ Some byte → Came calls o byte) → All (CameFor calls) chunks → All (CameFor calls) (with_given c chunks)
all_more calls None chunks f h = h
all_more calls (Some chunk) chunks f h = All-cons (CameFor calls) chunk chunks f h

pub all_came : (calls : List Call) → AreInRange calls → All (CameFor calls) (given_over calls)
all_came [] r = All-nil (CameFor [])
all_came (inserted offset bytes ∷ calls) r = λ k d l o byte e. inr (all_came calls r.1 k d l o byte e)
all_came (begun ordered ∷ calls) r = all_came calls r
all_came (asked most ∷ calls) r = all_more calls (given_by (arrived_after calls) most) (given_over calls) (λ o byte e. given_came calls most o byte r e) (all_came calls r)
all_came (cleared ∷ calls) r = all_came calls r

-- ---- once
abbrev times : ℕ → List Chunk → ℕ
times o chunks = count_by (λ chunk. in_chunk (Some chunk) o) chunks

one_more : (o : ℕ) (chunk : Chunk) (chunks : List Chunk) → times o (chunk ∷ chunks) ≡ cond (in_chunk (Some chunk) o) 1 0 + times o chunks
one_more o chunk chunks = sum_by-cons (λ c. cond (in_chunk (Some c) o) 1 0) chunk chunks

no_times : (o : ℕ) (chunks : List Chunk) → was_given chunks o ≡ false → times o chunks ≡ 0
no_times o [] e = refl
no_times o (chunk ∷ chunks) e = go (in_chunk (Some chunk) o) refl e (no_times o chunks)
  where
    go : (b : Bool) → in_chunk (Some chunk) o ≡ b → (b || was_given chunks o) ≡ false → (was_given chunks o ≡ false → times o chunks ≡ 0) → times o (chunk ∷ chunks) ≡ 0
    go true q e ih = cc
    go false q e ih = one_more o chunk chunks ∙ rw (q, ih e) refl

chunk_has : (c : Option Chunk) (o : ℕ) → in_chunk c o ≡ true → (byte : ℕ) × (byte_in c o ≡ Some byte)
chunk_has None o e = cc
chunk_has (Some chunk) o e =
    let p = and_parts (not (ltb o chunk.offset)) (ltb o (chunk.offset + length chunk.bytes)) e in
    let k = ltb-false o chunk.offset (not-true (ltb o chunk.offset) p.0) in
    let l = ltb-true o (chunk.offset + length chunk.bytes) p.1 in
    (get_or chunk.bytes (o - chunk.offset) 0, from_within chunk.offset chunk.bytes o k l)

-- what a read gives was not given before
fresh : (a : Arrived) (most o : ℕ) → IsLawful a → in_chunk (given_by a most) o ≡ true → is_given a o ≡ false
fresh a most o h e = go (is_given a o) refl
  where
    go : (b : Bool) → is_given a o ≡ b → b ≡ false
    go true q =
        let has = chunk_has (given_by a most) o e in
        let there = chunk_waits (given_by a most) a.parts o has.0 (λ i. given_bytes a most i h) has.1 in
        let none = given_waits_not a o h q in
        cc
    go false q = refl

once_more : (c : Option Chunk) (chunks : List Chunk) (o : ℕ) → (in_chunk c o ≡ true → was_given chunks o ≡ false) → times o chunks ≤ 1 → times o (with_given c chunks) ≤ 1
once_more None chunks o f l = l
once_more (Some chunk) chunks o f l = go (in_chunk (Some chunk) o) refl f
  where
    go : (b : Bool) → in_chunk (Some chunk) o ≡ b → (b ≡ true → was_given chunks o ≡ false) → times o (chunk ∷ chunks) ≤ 1
    go true q g =
        let none = no_times o chunks (g refl) in
        let all : times o (chunk ∷ chunks) ≡ 1 = one_more o chunk chunks ∙ rw (q, none) refl in
        omega arith
    go false q g =
        let all : times o (chunk ∷ chunks) ≡ times o chunks = one_more o chunk chunks ∙ rw q (omega arith) in
        omega arith

pub once : (calls : List Call) (o : ℕ) → AreInRange calls → times o (given_over calls) ≤ 1
once [] o r = lit≤ tt
once (inserted offset bytes ∷ calls) o r = once calls o r.1
once (begun ordered ∷ calls) o r = once calls o r
once (asked most ∷ calls) o r = once_more (given_by (arrived_after calls) most) (given_over calls) o (λ e. sym (given calls o r) ∙ fresh (arrived_after calls) most o (lawful calls r) e) (once calls o r)
once (cleared ∷ calls) o r = once calls o r

-- ---- how many bytes
abbrev size : Chunk → ℕ
size chunk = length chunk.bytes

more_bytes : (c : Option Chunk) (chunks : List Chunk) → sum_by size (with_given c chunks) ≡ sum_by size chunks + length_of c
more_bytes None chunks = omega arith
more_bytes (Some chunk) chunks = let e = sum_by-cons size chunk chunks in omega arith

pub counted : (calls : List Call) → AreInRange calls → bytes_read_of (arrived_after calls) ≡ sum_by size (given_over calls)
counted [] r = refl
counted (inserted offset bytes ∷ calls) r = counted calls r.1
counted (begun ordered ∷ calls) r = counted calls r
counted (asked most ∷ calls) r =
    let a = arrived_after calls in
    read_counted a most (lawful calls r) ∙ ap (λ n. n + length_of (given_by a most)) (counted calls r) ∙ sym (more_bytes (given_by a most) (given_over calls))
counted (cleared ∷ calls) r = counted calls r
