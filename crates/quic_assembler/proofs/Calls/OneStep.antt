-- The words of sets determine what is after an insert, what a read gives, and what is after it.
use Rattle.std.proofs.Common.{◌≡◌, ℕ, ◌+◌, ◌-◌, ◌^◌, ◌<◌, ◌≤◌, ◌==◌, ltb, length, List, [], ◌∷◌, get_or, Bool, true, false, not, ◌||◌, cond, Some, None, Option, refl, sym, ap, ◌∙◌, subst, arith, inl, inr}
use Rattle.std.specs.Option.{is_some}
use Rattle.std.proofs.lemmas.Bool.{both_ways, lt-ltb, le-ltb, eq-eqb, ne_eqb, cases_lt, cases_order, cases_Bool, or_left}
use Rattle.std.proofs.lemmas.List.{same_lists}
use Rattle.std.proofs.lemmas.Option.{slice_get-get_or}
use Rattle.quic_assembler.specs.declared.assembler.Chunk.{Chunk}
use Rattle.quic_sets.specs.Spans.{Span, AreSpans, in_spans}
use Rattle.quic_assembler.specs.Arrived.{Arrived, AreApart, IsLawful, byte_at, waits, is_given, runs_of, begins_run, count_to}
use Rattle.quic_sets.specs.Parts.{Part, start}
use Rattle.quic_assembler.specs.Waiting.{begins_part, begins_then, are_too_many, end_of, IsInserted, IsChunk, IsPlace, IsDry, IsRead, IsTaken, IsLeft}
use Rattle.quic_sets.proofs.Parts.Bytes.{from_behind, from_within}
use Rattle.quic_assembler.proofs.Arrived.Bytes.{at_below}
use Rattle.quic_sets.proofs.Offsets.Spans.{in_below}
use Rattle.quic_assembler.proofs.Calls.Inserted.{begins_above}
use Rattle.quic_assembler.proofs.Calls.Taken.{waits_begins}
use Rattle.quic_assembler.proofs.Arrived.Runs.{count_same, runs_counted, in_part, in_past}

-- ---- parts with the same bytes that begin at the same offsets
abbrev SameBytes : List Part → List Part → Type 0
SameBytes ps qs = (o : ℕ) → byte_at ps o ≡ byte_at qs o

abbrev SameBegins : List Part → List Part → Type 0
SameBegins ps qs = (o : ℕ) → begins_part ps o ≡ begins_part qs o

begins_first : (p : Part) (ps : List Part) → begins_part (p ∷ ps) (start p) ≡ true
begins_first p ps = or_left (start p == start p) (begins_part ps (start p)) (eq-eqb (start p) (start p) refl)

before_first : (low : ℕ) (p : Part) (ps : List Part) (o : ℕ) → AreApart low (p ∷ ps) → o < start p → begins_part (p ∷ ps) o ≡ false
before_first low p ps o h l =
    let big = h.0 in
    let full = h.1 in
    rw (ne_eqb (start p) o (λ e. omega arith)) (begins_above p.0 o ps h.2 (omega arith))

inside_first : (low : ℕ) (p : Part) (ps : List Part) (o : ℕ) → AreApart low (p ∷ ps) → start p < o → o < p.0 → begins_part (p ∷ ps) o ≡ false
inside_first low p ps o h l m = rw (ne_eqb (start p) o (λ e. omega arith)) (begins_above p.0 o ps h.2 m)

behind_first : (low : ℕ) (p : Part) (ps : List Part) (o : ℕ) → AreApart low (p ∷ ps) → p.0 ≤ o → begins_part (p ∷ ps) o ≡ begins_part ps o
behind_first low p ps o h l =
    let big = h.0 in
    let full = h.1 in
    rw (ne_eqb (start p) o (λ e. omega arith)) refl

-- the first parts begin at one offset
start_below : (low below : ℕ) (p q : Part) (ps qs : List Part) → AreApart low (p ∷ ps) → AreApart below (q ∷ qs) → SameBegins (p ∷ ps) (q ∷ qs) → start p < start q → ⊥
start_below low below p q ps qs h k s l = both_ways (begins_part (q ∷ qs) (start p)) (before_first below q qs (start p) k l) (sym (s (start p)) ∙ begins_first p ps)

same_start : (low below : ℕ) (p q : Part) (ps qs : List Part) → AreApart low (p ∷ ps) → AreApart below (q ∷ qs) → SameBegins (p ∷ ps) (q ∷ qs) → start p ≡ start q
same_start low below p q ps qs h k s = elim (cases_order (start p) (start q)) [
  | inl e ↦ e
  | inr (inl l) ↦ absurd (start_below low below p q ps qs h k s l)
  | inr (inr l) ↦ absurd (start_below below low q p qs ps k h (λ o. sym (s o)) l)
]

-- and end at one
end_below : (low below : ℕ) (p q : Part) (ps qs : List Part) → AreApart low (p ∷ ps) → AreApart below (q ∷ qs) → SameBytes (p ∷ ps) (q ∷ qs) → SameBegins (p ∷ ps) (q ∷ qs) → start p ≡ start q → p.0 < q.0 → ⊥
end_below low below p q ps qs h k w s e l =
    let big = h.0 in
    let full = h.1 in
    let held : waits ps p.0 ≡ true = sym (in_past low p ps p.0 h (omega arith)) ∙ ap is_some (w p.0) ∙ in_part below q qs p.0 k (omega arith) l in
    let begun : begins_part (p ∷ ps) p.0 ≡ true = behind_first low p ps p.0 h (omega arith) ∙ waits_begins p.0 ps h.2 held in
    both_ways (begins_part (q ∷ qs) p.0) (inside_first below q qs p.0 k (omega arith) l) (sym (s p.0) ∙ begun)

same_end : (low below : ℕ) (p q : Part) (ps qs : List Part) → AreApart low (p ∷ ps) → AreApart below (q ∷ qs) → SameBytes (p ∷ ps) (q ∷ qs) → SameBegins (p ∷ ps) (q ∷ qs) → start p ≡ start q → p.0 ≡ q.0
same_end low below p q ps qs h k w s e = elim (cases_order p.0 q.0) [
  | inl r ↦ r
  | inr (inl l) ↦ absurd (end_below low below p q ps qs h k w s e l)
  | inr (inr l) ↦ absurd (end_below below low q p qs ps k h (λ o. sym (w o)) (λ o. sym (s o)) (sym e) l)
]

some_same : (x y : ℕ) → Some x ≡ Some y → x ≡ y
some_same x y e = cc

-- the byte of a first part at its place
first_byte : (low i : ℕ) (p : Part) (ps : List Part) → AreApart low (p ∷ ps) → i < length p.1 → byte_at (p ∷ ps) (start p + i) ≡ Some (get_or p.1 i 0)
first_byte low i p ps h l =
    let big = h.0 in
    let w = from_within (start p) p.1 (start p + i) (omega arith) (omega arith) in
    let d : start p + i - start p ≡ i = omega arith in
    rw (w, d) refl

get_or_any : (xs : List ℕ) (i a b : ℕ) → i < length xs → get_or xs i a ≡ get_or xs i b
get_or_any xs i a b l = some_same (get_or xs i a) (get_or xs i b) (sym (slice_get-get_or xs i a l) ∙ slice_get-get_or xs i b l)

same_bytes : (low below : ℕ) (p q : Part) (ps qs : List Part) → AreApart low (p ∷ ps) → AreApart below (q ∷ qs) → SameBytes (p ∷ ps) (q ∷ qs) → start p ≡ start q → p.0 ≡ q.0 → p.1 ≡ q.1
same_bytes low below p q ps qs h k w e r =
    let big = h.0 in
    let far = k.0 in
    let n : length p.1 ≡ length q.1 = omega arith in
    same_lists p.1 q.1 n (λ i d l.
    let there : byte_at (q ∷ qs) (start p + i) ≡ Some (get_or q.1 i 0) = ap (λ o. byte_at (q ∷ qs) (o + i)) e ∙ first_byte below i q qs k (omega arith) in
    get_or_any p.1 i d 0 l ∙ some_same (get_or p.1 i 0) (get_or q.1 i 0) (sym (first_byte low i p ps h l) ∙ w (start p + i) ∙ there) ∙ get_or_any q.1 i 0 d (omega arith))

past_bytes : (low : ℕ) (p : Part) (ps : List Part) (o : ℕ) → AreApart low (p ∷ ps) → p.0 ≤ o → byte_at (p ∷ ps) o ≡ byte_at ps o
past_bytes low p ps o h l =
    let big = h.0 in
    rw (from_behind (start p) p.1 o (omega arith)) refl

rest_bytes : (low below : ℕ) (p q : Part) (ps qs : List Part) → AreApart low (p ∷ ps) → AreApart below (q ∷ qs) → SameBytes (p ∷ ps) (q ∷ qs) → p.0 ≡ q.0 → SameBytes ps qs
rest_bytes low below p q ps qs h k w r o = elim (cases_lt o p.0) [
  | inl l ↦ at_below p.0 ps o h.2 l ∙ sym (at_below q.0 qs o k.2 (omega arith))
  | inr l ↦ sym (past_bytes low p ps o h l) ∙ w o ∙ past_bytes below q qs o k (omega arith)
]

rest_begins : (low below : ℕ) (p q : Part) (ps qs : List Part) → AreApart low (p ∷ ps) → AreApart below (q ∷ qs) → SameBegins (p ∷ ps) (q ∷ qs) → p.0 ≡ q.0 → SameBegins ps qs
rest_begins low below p q ps qs h k s r o = elim (cases_lt o p.0) [
  | inl l ↦ begins_above p.0 o ps h.2 l ∙ sym (begins_above q.0 o qs k.2 (omega arith))
  | inr l ↦ sym (behind_first low p ps o h l) ∙ s o ∙ behind_first below q qs o k (omega arith)
]

same_part : (p q : Part) → p.0 ≡ q.0 → p.1 ≡ q.1 → p ≡ q
same_part p q e f = ap (λ (n : ℕ). (n, p.1)) e ∙ ap (λ (bs : List ℕ). (q.0, bs)) f

pub parts_are_their_bytes : (low below : ℕ) (ps qs : List Part) → AreApart low ps → AreApart below qs → SameBytes ps qs → SameBegins ps qs → ps ≡ qs
parts_are_their_bytes low below [] [] h k w s = refl
parts_are_their_bytes low below [] (q ∷ qs) h k w s = absurd (both_ways (begins_part (q ∷ qs) (start q)) (sym (s (start q))) (begins_first q qs))
parts_are_their_bytes low below (p ∷ ps) [] h k w s = absurd (both_ways (begins_part (p ∷ ps) (start p)) (s (start p)) (begins_first p ps))
parts_are_their_bytes low below (p ∷ ps) (q ∷ qs) h k w s =
    let e = same_start low below p q ps qs h k s in
    let r = same_end low below p q ps qs h k w s e in
    let one = same_part p q r (same_bytes low below p q ps qs h k w e r) in
    let rest = parts_are_their_bytes p.0 q.0 ps qs h.2 k.2 (rest_bytes low below p q ps qs h k w r) (rest_begins low below p q ps qs h k s r) in
    cc

-- ---- the runs are those of the offsets that wait
same_runs : (low below n : ℕ) (ps qs : List Part) → AreApart low ps → AreApart below qs → SameBytes ps qs → 2 ^ 62 ≤ n → runs_of ps ≡ runs_of qs
same_runs low below n ps qs h k w m =
    runs_counted low ps n h m
    ∙ count_same (begins_run ps) (begins_run qs) n (λ i l. rw (w i, w (i - 1)) refl)
    ∙ sym (runs_counted below qs n k m)

-- ---- an insert
one_begins : (a b c : Arrived) (at n o : ℕ) (bytes : List ℕ) → IsInserted a at bytes b → IsInserted a at bytes c → SameBytes b.parts c.parts → 2 ^ 62 ≤ n → begins_part b.parts o ≡ begins_part c.parts o
one_begins a b c at n o bytes h k w m =
    let count = count_to (begins_then a at bytes) n in
    h.begins n o m
    ∙ ap (λ r. cond (are_too_many count r (count_to (waits b.parts) n)) (begins_run b.parts o) (begins_then a at bytes o)) (same_runs b.read c.read n b.parts c.parts h.lawful.apart k.lawful.apart w m)
    ∙ ap (λ r. cond (are_too_many count (runs_of c.parts) r) (begins_run b.parts o) (begins_then a at bytes o)) (count_same (waits b.parts) (waits c.parts) n (λ i l. ap is_some (w i)))
    ∙ ap (λ r. cond (are_too_many count (runs_of c.parts) (count_to (waits c.parts) n)) r (begins_then a at bytes o)) same
    ∙ sym (k.begins n o m)
  where
    same : begins_run b.parts o ≡ begins_run c.parts o
    same = rw (w o, w (o - 1)) refl

pub one_insertion : (a b c : Arrived) (at : ℕ) (bytes : List ℕ) → IsInserted a at bytes b → IsInserted a at bytes c → b ≡ c
one_insertion a b c at bytes h k =
    let w : SameBytes b.parts c.parts = λ o. h.waiting o ∙ sym (k.waiting o) in
    let s : SameBegins b.parts c.parts = λ o. one_begins a b c at (at + 2 ^ 62) o bytes h k w (omega arith) in
    let same = parts_are_their_bytes b.read c.read b.parts c.parts h.lawful.apart k.lawful.apart w s in
    h.others ∙ ap (λ (ps : List Part). record a { parts = ps }) same ∙ sym k.others

-- ---- what a read gives
shorter : (a : Arrived) (at most : ℕ) (c d : Chunk) → IsChunk a at most c → IsChunk a at most d → length c.bytes < length d.bytes → ⊥
shorter a at most c d h k l =
    let few = k.few in
    let some = h.some (omega arith) in
    let n = length c.bytes in
    let place : end_of c ≡ at + n = ap (λ o. o + n) h.offset in
    let held : waits a.parts (at + n) ≡ true = ap is_some (sym (k.bytes n l) ∙ slice_get-get_or d.bytes n 0 l) in
    let inside : begins_part a.parts (at + n) ≡ false = k.inside n some l in
    let end : (begins_part a.parts (at + n) || not (waits a.parts (at + n))) ≡ true = subst (λ o. (begins_part a.parts o || not (waits a.parts o)) ≡ true) place (h.whole (omega arith)) in
    let both : (false || not true) ≡ true = sym (ap (λ b. b || not (waits a.parts (at + n))) inside ∙ ap (λ b. false || not b) held) ∙ end in
    both_ways false refl both

same_chunk : (c d : Chunk) → c.offset ≡ d.offset → c.bytes ≡ d.bytes → c ≡ d
same_chunk c d e f = ap (λ n. record { offset = n; bytes = c.bytes }) e ∙ ap (λ bs. record { offset = d.offset; bytes = bs }) f

pub one_chunk : (a : Arrived) (at most : ℕ) (c d : Chunk) → IsChunk a at most c → IsChunk a at most d → c ≡ d
one_chunk a at most c d h k =
    let n : length c.bytes ≡ length d.bytes = elim (cases_order (length c.bytes) (length d.bytes)) [
      | inl e ↦ e
      | inr (inl l) ↦ absurd (shorter a at most c d h k l)
      | inr (inr l) ↦ absurd (shorter a at most d c k h l)
    ] in
    let bytes = same_lists c.bytes d.bytes n (λ i x l.
    some_same (get_or c.bytes i x) (get_or d.bytes i x) (sym (slice_get-get_or c.bytes i x l) ∙ h.bytes i l ∙ sym (k.bytes i (omega arith)) ∙ slice_get-get_or d.bytes i x (omega arith))) in
    same_chunk c d (h.offset ∙ sym k.offset) bytes

-- ---- sets of runs with the same offsets
abbrev SameOffsets : List Span → List Span → Type 0
SameOffsets gs hs = (o : ℕ) → in_spans gs o ≡ in_spans hs o

in_first : (low o : ℕ) (g : Span) (gs : List Span) → g.1 ≤ o → o < g.0 → in_spans (g ∷ gs) o ≡ true
in_first low o g gs l m = rw (le-ltb o g.1 l, lt-ltb o g.0 m) refl

ahead_first : (low o : ℕ) (g : Span) (gs : List Span) → AreSpans low (g ∷ gs) → o < g.1 → in_spans (g ∷ gs) o ≡ false
ahead_first low o g gs h l =
    let full = h.1 in
    rw (lt-ltb o g.1 l) (in_below (g.0 + 1) o gs h.2 (omega arith))

-- none at the offset where the first ends
out_first : (low : ℕ) (g : Span) (gs : List Span) → AreSpans low (g ∷ gs) → in_spans (g ∷ gs) g.0 ≡ false
out_first low g gs h =
    let full = h.1 in
    rw (le-ltb g.0 g.1 (omega arith), le-ltb g.0 g.0 (omega arith)) (in_below (g.0 + 1) g.0 gs h.2 (omega arith))

past_first : (low o : ℕ) (g : Span) (gs : List Span) → AreSpans low (g ∷ gs) → g.0 ≤ o → in_spans (g ∷ gs) o ≡ in_spans gs o
past_first low o g gs h l =
    let full = h.1 in
    rw (le-ltb o g.1 (omega arith), le-ltb o g.0 l) refl

span_start_below : (low below : ℕ) (g e : Span) (gs es : List Span) → AreSpans low (g ∷ gs) → AreSpans below (e ∷ es) → SameOffsets (g ∷ gs) (e ∷ es) → g.1 < e.1 → ⊥
span_start_below low below g e gs es h k s l = both_ways (in_spans (e ∷ es) g.1) (ahead_first below g.1 e es k l) (sym (s g.1) ∙ in_first low g.1 g gs (omega arith) h.1)

span_end_below : (low below : ℕ) (g e : Span) (gs es : List Span) → AreSpans low (g ∷ gs) → AreSpans below (e ∷ es) → SameOffsets (g ∷ gs) (e ∷ es) → g.1 ≡ e.1 → g.0 < e.0 → ⊥
span_end_below low below g e gs es h k s q l =
    let full = h.1 in
    both_ways (in_spans (g ∷ gs) g.0) (out_first low g gs h) (s g.0 ∙ in_first below g.0 e es (omega arith) l)

rest_offsets : (low below : ℕ) (g e : Span) (gs es : List Span) → AreSpans low (g ∷ gs) → AreSpans below (e ∷ es) → SameOffsets (g ∷ gs) (e ∷ es) → g.0 ≡ e.0 → SameOffsets gs es
rest_offsets low below g e gs es h k s r o = elim (cases_lt o g.0) [
  | inl l ↦ in_below (g.0 + 1) o gs h.2 (omega arith) ∙ sym (in_below (e.0 + 1) o es k.2 (omega arith))
  | inr l ↦ sym (past_first low o g gs h l) ∙ s o ∙ past_first below o e es k (omega arith)
]

same_span : (g e : Span) → g.0 ≡ e.0 → g.1 ≡ e.1 → g ≡ e
same_span g e p q = ap (λ (n : ℕ). (n, g.1)) p ∙ ap (λ (n : ℕ). (e.0, n)) q

spans_are_their_offsets : (low below : ℕ) (gs es : List Span) → AreSpans low gs → AreSpans below es → SameOffsets gs es → gs ≡ es
spans_are_their_offsets low below [] [] h k s = refl
spans_are_their_offsets low below [] (e ∷ es) h k s = absurd (both_ways (in_spans (e ∷ es) e.1) (sym (s e.1)) (in_first below e.1 e es (omega arith) k.1))
spans_are_their_offsets low below (g ∷ gs) [] h k s = absurd (both_ways (in_spans (g ∷ gs) g.1) (s g.1) (in_first low g.1 g gs (omega arith) h.1))
spans_are_their_offsets low below (g ∷ gs) (e ∷ es) h k s =
    let first : g.1 ≡ e.1 = elim (cases_order g.1 e.1) [
      | inl q ↦ q
      | inr (inl l) ↦ absurd (span_start_below low below g e gs es h k s l)
      | inr (inr l) ↦ absurd (span_start_below below low e g es gs k h (λ o. sym (s o)) l)
    ] in
    let last : g.0 ≡ e.0 = elim (cases_order g.0 e.0) [
      | inl q ↦ q
      | inr (inl l) ↦ absurd (span_end_below low below g e gs es h k s first l)
      | inr (inr l) ↦ absurd (span_end_below below low e g es gs k h (λ o. sym (s o)) (sym first) l)
    ] in
    let one = same_span g e last first in
    let rest = spans_are_their_offsets (g.0 + 1) (e.0 + 1) gs es h.2 k.2 (rest_offsets low below g e gs es h k s last) in
    cc

-- ---- what is after a read
abbrev SameGiven : Arrived → Arrived → Type 0
SameGiven b c = (o : ℕ) → is_given b o ≡ is_given c o

-- while no read was unordered, ordered ones have come as far
read_below : (b c : Arrived) → SameGiven b c → c.picked ≡ [] → c.read < b.read → ⊥
read_below b c s e l =
    let none : in_spans c.picked c.read ≡ false = ap (λ gs. in_spans gs c.read) e in
    let out : is_given c c.read ≡ false = rw (le-ltb c.read c.read (omega arith)) none in
    let in_b : is_given b c.read ≡ true = or_left (ltb c.read b.read) (in_spans b.picked c.read) (lt-ltb c.read b.read l) in
    both_ways (is_given c c.read) out (sym (s c.read) ∙ in_b)

same_read : (b c : Arrived) → SameGiven b c → b.picked ≡ [] → c.picked ≡ [] → b.read ≡ c.read
same_read b c s e f = elim (cases_order b.read c.read) [
  | inl q ↦ q
  | inr (inl l) ↦ absurd (read_below c b (λ o. sym (s o)) e l)
  | inr (inr l) ↦ absurd (read_below b c s f l)
]

same_picked : (b c : Arrived) → IsLawful b → IsLawful c → SameGiven b c → b.read ≡ c.read → SameOffsets b.picked c.picked
same_picked b c h k s e o = elim (cases_lt o b.read) [
  | inl l ↦ in_below b.read o b.picked h.spans l ∙ sym (in_below c.read o c.picked k.spans (omega arith))
  | inr l ↦ beside b o l ∙ s o ∙ sym (beside c o (omega arith))
]
  where
    beside : (x : Arrived) (o : ℕ) → x.read ≤ o → in_spans x.picked o ≡ is_given x o
    beside x o l = sym (ap (λ t. t || in_spans x.picked o) (le-ltb o x.read l))

same_arrived : (b c : Arrived) → b.read ≡ c.read → b.unordered ≡ c.unordered → b.picked ≡ c.picked → b.parts ≡ c.parts → b ≡ c
same_arrived b c r u g p =
    ap (λ (n : ℕ). record b { read = n }) r
    ∙ ap (λ (x : Bool). record b { read = c.read; unordered = x }) u
    ∙ ap (λ (gs : List Span). record b { read = c.read; unordered = c.unordered; picked = gs }) g
    ∙ ap (λ (ps : List Part). record c { parts = ps }) p

pub one_taken : (a b c : Arrived) (chunk : Chunk) → IsTaken a chunk b → IsTaken a chunk c → b ≡ c
one_taken a b c chunk h k =
    let w : SameBytes b.parts c.parts = λ o. h.waiting o ∙ sym (k.waiting o) in
    let s : SameBegins b.parts c.parts = λ o. h.begins o ∙ sym (k.begins o) in
    let g : SameGiven b c = λ o. h.given o ∙ sym (k.given o) in
    let parts = parts_are_their_bytes b.read c.read b.parts c.parts h.lawful.apart k.lawful.apart w s in
    let r : b.read ≡ c.read = elim (cases_Bool a.unordered) [
      | inl u ↦ h.read u ∙ sym (k.read u)
      | inr u ↦ same_read b c g (h.lawful.order (h.order ∙ u)) (k.lawful.order (k.order ∙ u))
    ] in
    let picked = spans_are_their_offsets b.read c.read b.picked c.picked h.lawful.spans k.lawful.spans (same_picked b c h.lawful k.lawful g r) in
    same_arrived b c r (h.order ∙ sym k.order) picked parts

-- ---- whether it gives any, and from where
no_place : (a : Arrived) (at : ℕ) → IsDry a → IsPlace a at → ⊥
no_place a at d h = elim (cases_Bool a.unordered) [
  | inl u ↦ both_ways (waits a.parts at) (ap (λ ps. waits ps at) (d.unordered u)) h.waiting
  | inr u ↦ both_ways (waits a.parts at) (ap (λ o. waits a.parts o) (h.ordered u) ∙ ap is_some (d.ordered u)) h.waiting
]

lesser_place : (a : Arrived) (at other : ℕ) → a.unordered ≡ true → IsPlace a at → IsPlace a other → at < other → ⊥
lesser_place a at other u h k l = both_ways (waits a.parts at) (ap is_some (k.least u at l)) h.waiting

one_place : (a : Arrived) (at other : ℕ) → IsPlace a at → IsPlace a other → at ≡ other
one_place a at other h k = elim (cases_Bool a.unordered) [
  | inl u ↦ elim (cases_order at other) [
    | inl e ↦ e
    | inr (inl l) ↦ absurd (lesser_place a at other u h k l)
    | inr (inr l) ↦ absurd (lesser_place a other at u k h l)
  ]
  | inr u ↦ h.ordered u ∙ sym (k.ordered u)
]

pub one_read : (a : Arrived) (most : ℕ) (c d : Option Chunk) → IsRead a most c → IsRead a most d → c ≡ d
one_read a most None None h k = refl
one_read a most None (Some d) h k = absurd (no_place a d.offset h k.0)
one_read a most (Some c) None h k = absurd (no_place a c.offset k h.0)
one_read a most (Some c) (Some d) h k =
    let same = one_place a c.offset d.offset h.0 k.0 in
    ap (λ x. Some x) (one_chunk a d.offset most c d (subst (λ at. IsChunk a at most c) same h.1) k.1)

pub one_left : (a b c : Arrived) (chunk : Option Chunk) → IsLeft a chunk b → IsLeft a chunk c → b ≡ c
one_left a b c None h k = h ∙ sym k
one_left a b c (Some chunk) h k = one_taken a b c chunk h k
