-- What is true of the fields, after each call that changes them.
use Rattle.std.proofs.Common.{◌≡◌, ℕ, ◌+◌, ◌-◌, ◌^◌, ◌<◌, ◌≤◌, length, List, [], ◌∷◌, take, drop, Bool, true, false, not, ◌||◌, cond, Some, None, Option, refl, sym, ap, ◌∙◌, subst, arith, min, length-take, length-drop, ◌⊎◌, inl, inr}
use Rattle.std.specs.Option.{option_or, is_some}
use Rattle.std.proofs.lemmas.Bool.{le-ltb}
use Rattle.quic_sets.specs.Runs.{Run, Has, Drops}
use Rattle.quic_assembler.specs.declared.assembler.Chunk.{Chunk}
use Rattle.quic_sets.specs.Spans.{Span, AreSpans, in_spans, width_of, with_run}
use Rattle.quic_assembler.specs.PartSteps.{front_of, AreHere}
use Rattle.quic_assembler.specs.Arrived.{Arrived, AreApart, IsLawful, byte_at, is_next, left_front, first_given, with_free, settled, with_chunk, length_of, after_ordering, after_insert, after_read_in, after_read, given_by, in_chunk, is_given, waits, HaveArrived}
use Rattle.quic_sets.specs.Parts.{Part, start, byte_from}
use Rattle.quic_assembler.proofs.Parts.Filled.{low_small}
use Rattle.quic_assembler.proofs.Calls.Inserting.{known_free}
use Rattle.quic_sets.proofs.Parts.Bytes.{from_within}
use Rattle.quic_assembler.proofs.Arrived.Lawful.{insert_lawful, insert_bytes, read_given, read_leaves}
use Rattle.quic_assembler.proofs.Arrived.Picking.{part_clear, pick_lawful, pick_width}
use Rattle.quic_assembler.proofs.Calls.Reading.{read_apart}
use Rattle.quic_sets.proofs.Offsets.Spans.{width_small}

abbrev pub seen : ℕ → Bool → List Span → List Part → Arrived
seen read u gs ps = record { read = read; unordered = u; picked = gs; parts = ps }

pub insert_kept : (read offset known : ℕ) (u : Bool) (gs : List Span) (ps ns : List Part) (bs : List ℕ) → known ≡ min (read - offset) (length bs) → IsLawful (seen read u gs ps) → offset + length bs < 2 ^ 62 → ns ≡ settled (with_free gs ps (offset + known) (take (length bs - known) (drop known bs))) → IsLawful (seen read u gs ns)
insert_kept read offset known u gs ps ns bs k h s e =
    subst (λ (qs : List Part). IsLawful (seen read u gs qs)) (sym (e ∙ ap settled (known_free read offset known gs ps bs k))) (insert_lawful (seen read u gs ps) offset bs h s)

pub next_kept : (read most : ℕ) (u : Bool) (gs : List Span) (ps ns : List Part) (bytes : List ℕ) → IsLawful (seen read u gs ps) → u ≡ false → is_next ps read ≡ true → Some bytes ≡ front_of ps most → ns ≡ left_front ps most → IsLawful (seen (read + length bytes) u gs ns)
next_kept read most u gs ps ns bytes h is next e left =
    let apart = read_apart read most ps ns bytes h.apart next e left in
    let none : gs ≡ [] = h.order is in
    let small = low_small (read + length bytes) ns apart in
    record {
      apart = apart;
      spans = subst (λ (es : List Span). AreSpans (read + length bytes) es) (sym none) (omega arith);
      others = λ o t. out (byte_at ns o ≡ None) (sym (ap (λ (es : List Span). in_spans es o) none) ∙ t);
      order = h.order;
    }
  where
    out : (T : Type 0) → false ≡ true → T
    out T e = cc

pub total_small : (read : ℕ) (u : Bool) (gs : List Span) (ps : List Part) → IsLawful (seen read u gs ps) → read + width_of gs ≤ 2 ^ 62
total_small read u gs ps h = width_small read gs h.spans

pub chunk_small : (low most : ℕ) (ps : List Part) (chunk : Chunk) → AreApart low ps → Some chunk ≡ first_given ps most → chunk.offset + length chunk.bytes < 2 ^ 62
chunk_small low most [] chunk h e = cc
chunk_small low most (p ∷ ps) chunk h e =
    let same : chunk ≡ record { offset = start p; bytes = take most p.1 } = cc in
    let big = h.0 in
    let t = length-take most p.1 in
    let s = low_small p.0 ps h.2 in
    subst (λ (c : Chunk). c.offset + length c.bytes < 2 ^ 62) (sym same) (omega arith)

-- no read gave the offsets of the chunk
pub chunk_clear : (read most : ℕ) (u : Bool) (gs : List Span) (ps : List Part) (chunk : Chunk) → IsLawful (seen read u gs ps) → Some chunk ≡ first_given ps most → (o : ℕ) → chunk.offset ≤ o → o < chunk.offset + length chunk.bytes → in_spans gs o ≡ false
chunk_clear read most u gs ps chunk h e = go ps h.apart h.others e
  where
    go : (ps : List Part) → AreApart read ps → ((o : ℕ) → in_spans gs o ≡ true → byte_at ps o ≡ None) → Some chunk ≡ first_given ps most → (o : ℕ) → chunk.offset ≤ o → o < chunk.offset + length chunk.bytes → in_spans gs o ≡ false
    go [] l f e = cc
    go (p ∷ ps) l f e =
        let same : chunk ≡ record { offset = start p; bytes = take most p.1 } = cc in
        let t = length-take most p.1 in
        subst (λ (c : Chunk). (o : ℕ) → c.offset ≤ o → o < c.offset + length c.bytes → in_spans gs o ≡ false) (sym same)
        (part_clear read (start p) (length (take most p.1)) p ps gs l f refl (omega arith))

pub pick_kept : (read most : ℕ) (u : Bool) (gs fs : List Span) (ps ns : List Part) (chunk : Chunk) → IsLawful (seen read u gs ps) → u ≡ true → Some chunk ≡ first_given ps most → fs ≡ with_run chunk.offset (length chunk.bytes) gs → ns ≡ left_front ps most → IsLawful (seen read u fs ns)
pick_kept read most u gs fs ps ns chunk h is e f left =
    let P : Option Chunk → Type 0 = λ o. IsLawful (seen read u (with_chunk o gs) (left_front ps most)) in
    let lawful : IsLawful (seen read u (with_run chunk.offset (length chunk.bytes) gs) (left_front ps most)) = subst P (sym e) (pick_lawful (seen read u gs ps) most is h) in
    subst (λ (es : List Span). IsLawful (seen read u es ns)) (sym f) (subst (λ (qs : List Part). IsLawful (seen read u (with_run chunk.offset (length chunk.bytes) gs) qs)) (sym left) lawful)

pub pick_counted : (read most total : ℕ) (u : Bool) (gs fs : List Span) (ps : List Part) (chunk : Chunk) → IsLawful (seen read u gs ps) → Some chunk ≡ first_given ps most → fs ≡ with_run chunk.offset (length chunk.bytes) gs → total ≡ read + width_of gs → total + length chunk.bytes ≡ read + width_of fs
pick_counted read most total u gs fs ps chunk h e f t =
    let P : Option Chunk → Type 0 = λ o. width_of (with_chunk o gs) ≡ width_of gs + length_of o in
    let k : width_of (with_run chunk.offset (length chunk.bytes) gs) ≡ width_of gs + length chunk.bytes = subst P (sym e) (pick_width (seen read u gs ps) most h) in
    rw f (omega arith)

pub order_kept : (a : Arrived) (ordered : Bool) → IsLawful a → IsLawful (after_ordering a ordered)
order_kept a ordered h = record {
  apart = h.apart;
  spans = h.spans;
  others = h.others;
  order = go ordered;
}
  where
    go : (b : Bool) → (not b || a.unordered) ≡ false → a.picked ≡ []
    go true e = h.order e
    go false e = cc

-- ---- what is known to have arrived
-- what was given, or waits, after a read of a chunk
still : (c g : Bool) (x : Option ℕ) → (g || is_some x) ≡ true → ((c || g) || is_some (cond c None x)) ≡ true
still true g x e = refl
still false g x e = e

known_read : (s : List Run) (a : Arrived) (most : ℕ) → IsLawful a → HaveArrived s a → HaveArrived s (after_read a most)
known_read s a most h known o i = rw (read_given a most o h, read_leaves a most o h) (still (in_chunk (given_by a most) o) (is_given a o) (byte_at a.parts o) (known o i))

-- after an insert: what was known goes on to be, and so are the offsets of the bytes that came
come : (g : Bool) (x y : Option ℕ) → ((g || is_some x) ≡ true) ⊎ (is_some y ≡ true) → (g || is_some (cond g None (option_or x y))) ≡ true
come true x y e = refl
come false None y (inl e) = cc
come false None y (inr e) = e
come false (Some z) y e = refl

known_insert : (s : List Run) (a : Arrived) (offset : ℕ) (bs : List ℕ) → IsLawful a → offset + length bs < 2 ^ 62 → HaveArrived s a → HaveArrived s (after_insert a offset bs)
known_insert s a offset bs h l known o i = ap (λ x. is_given a o || is_some x) (insert_bytes a offset bs o h l) ∙ come (is_given a o) (byte_at a.parts o) (byte_from offset bs o) (inl (known o i))

new_known : (a : Arrived) (offset : ℕ) (bs : List ℕ) (o : ℕ) → IsLawful a → offset + length bs < 2 ^ 62 → offset ≤ o → o < offset + length bs → (is_given a o || waits (after_insert a offset bs).parts o) ≡ true
new_known a offset bs o h l m n = ap (λ x. is_given a o || is_some x) (insert_bytes a offset bs o h l) ∙ come (is_given a o) (byte_at a.parts o) (byte_from offset bs o) (inr (ap is_some (from_within offset bs o m n)))

-- ---- as the calls leave it
-- what is known of the offsets of a frame behind what was read
pub here_of : (read offset known : ℕ) (u : Bool) (gs : List Span) (ps : List Part) (bs : List ℕ) (s : List Run) → known ≡ min (read - offset) (length bs) → HaveArrived s (seen read u gs ps) → AreHere gs ps s (offset + known) (length (take (length bs - known) (drop known bs)))
here_of read offset known u gs ps bs s k h o l m i =
    let t = length-take (length bs - known) (drop known bs) in
    let d = length-drop known bs in
    let e = le-ltb o read (omega arith) in
    sym (ap (λ b. (b || in_spans gs o) || waits ps o) e) ∙ h o i

pub insert_known : (read offset known : ℕ) (u : Bool) (gs : List Span) (ps ns : List Part) (bs : List ℕ) (s t : List Run) → known ≡ min (read - offset) (length bs) → IsLawful (seen read u gs ps) → offset + length bs < 2 ^ 62 → HaveArrived s (seen read u gs ps) → ns ≡ settled (with_free gs ps (offset + known) (take (length bs - known) (drop known bs))) → ((o : ℕ) → Has t o → (Has s o ⊎ ((offset + known ≤ o) × (o < offset + length bs)))) → HaveArrived t (seen read u gs ns)
insert_known read offset known u gs ps ns bs s t k h l known_then e noted =
    let same : ns ≡ (after_insert (seen read u gs ps) offset bs).parts = e ∙ ap settled (known_free read offset known gs ps bs k) in
    let now = known_insert s (seen read u gs ps) offset bs h l known_then in
    subst (λ (qs : List Part). HaveArrived t (seen read u gs qs)) (sym same) (λ o i. elim (noted o i) [
      | inl j ↦ now o j
      | inr j ↦ new_known (seen read u gs ps) offset bs o h l (let a = j.0 in omega arith) j.1
    ])

next_as : (read most : ℕ) (u : Bool) (gs : List Span) (ps ns : List Part) (bytes : List ℕ) → is_next ps read ≡ true → Some bytes ≡ front_of ps most → ns ≡ left_front ps most → seen (read + length bytes) u gs ns ≡ after_read_in false (seen read u gs ps) most
next_as read most u gs [] ns bytes next e left = cc
next_as read most u gs (p ∷ ps) ns bytes next e left =
    let same : bytes ≡ take most p.1 = cc in
    rw (next, same, left) refl

pub next_known : (read most : ℕ) (u : Bool) (gs : List Span) (ps ns : List Part) (bytes : List ℕ) (s t : List Run) → IsLawful (seen read u gs ps) → u ≡ false → is_next ps read ≡ true → Some bytes ≡ front_of ps most → ns ≡ left_front ps most → HaveArrived s (seen read u gs ps) → Drops s t 0 (read + length bytes) → HaveArrived t (seen (read + length bytes) u gs ns)
next_known read most u gs ps ns bytes s t h is next e left known drops =
    let a = seen read u gs ps in
    let now = subst (λ b. HaveArrived s (after_read_in b a most)) is (known_read s a most h known) in
    subst (λ (b : Arrived). HaveArrived t b) (sym (next_as read most u gs ps ns bytes next e left)) (λ o i. now o ((drops o).0 i).0)

pub pick_known : (read most : ℕ) (u : Bool) (gs fs : List Span) (ps ns : List Part) (chunk : Chunk) (s : List Run) → IsLawful (seen read u gs ps) → u ≡ true → Some chunk ≡ first_given ps most → fs ≡ with_run chunk.offset (length chunk.bytes) gs → ns ≡ left_front ps most → HaveArrived s (seen read u gs ps) → HaveArrived s (seen read u fs ns)
pick_known read most u gs fs ps ns chunk s h is e added left known =
    let a = seen read u gs ps in
    let now = subst (λ b. HaveArrived s (after_read_in b a most)) is (known_read s a most h known) in
    let picked : with_chunk (first_given ps most) gs ≡ fs = ap (λ (c : Option Chunk). with_chunk c gs) (sym e) ∙ sym added in
    subst (λ (b : Arrived). HaveArrived s b) (ap (λ (xs : List Span). seen read u xs (left_front ps most)) picked ∙ ap (λ (qs : List Part). seen read u fs qs) (sym left)) now
