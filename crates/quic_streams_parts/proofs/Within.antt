-- What is true of a receiving part, after each of its calls.
use Rattle.std.proofs.Common.{◌≡◌, ℕ, ◌+◌, ◌-◌, ◌^◌, ◌<◌, ◌≤◌, max, Bool, true, false, not, ◌&&◌, ◌||◌, ◌==◌, cond, ltb, zero, suc, List, [], ◌∷◌, length, Option, Some, None, IfSome, refl, sym, ap, ◌∙◌, subst, arith}
use Rattle.std.specs.Option.{ForSome, is_some, option_or}
use Rattle.std.proofs.lemmas.Bool.{ltb-true, ltb-false, lt-ltb, le-ltb, eqb-true}
use Rattle.quic_sets.specs.Spans.{Span, AreSpans, in_span, in_spans, width_of}
use Rattle.quic_sets.specs.Parts.{byte_from}
use Rattle.quic_sets.proofs.Parts.Bytes.{from_behind}
use Rattle.quic_assembler.specs.Arrived.{Arrived, IsLawful, is_given, waits, byte_at, bytes_read_of, in_chunk, given_by, after_insert, after_read}
use Rattle.quic_assembler.proofs.Arrived.Lawful.{insert_bytes, insert_lawful, read_lawful, read_given, read_leaves, given_bytes}
use Rattle.quic_assembler.specs.declared.assembler.Chunk.{Chunk}
use Rattle.std.specs.List.{slice_get}
use Rattle.std.proofs.lemmas.Option.{slice_get-get_or}
use Rattle.quic_streams_parts.specs.RecvHalf.{greatest_offset, breaks_final, nothing_arrived}
use Rattle.quic_streams_parts.specs.RecvBounds.{AreBelow, IsWithin}

clash : {T : Type 0} → false ≡ true → T
clash {T} e = absurd (cc_of e)
  where
    cc_of : false ≡ true → ⊥
    cc_of h = cc

none_some : (n : ℕ) → None ≡ Some n → ⊥
none_some n h = cc

-- ---- how many bytes were read

-- runs that lie below an offset are no wider than what is left of it
spans_within : (low m : ℕ) (gs : List Span) → AreSpans low gs → ((o : ℕ) → in_spans gs o ≡ true → o < m) → width_of gs ≤ m - low
spans_within low m [] s below = omega arith
spans_within low m (g ∷ gs) s below =
    let a = s.0 in
    let b = s.1 in
    let last : in_span (g.0 - 1) g ≡ true = rw (le-ltb (g.0 - 1) g.1 (omega arith), lt-ltb (g.0 - 1) g.0 (omega arith)) refl in
    let top : g.0 - 1 < m = below (g.0 - 1) (ap (λ x. x || in_spans gs (g.0 - 1)) last) in
    let rest = spans_within (g.0 + 1) m gs s.2 (λ o e. below o (behind (in_span o g) (in_spans gs o) e)) in
    omega arith
  where
    behind : (x y : Bool) → y ≡ true → (x || y) ≡ true
    behind true y e = refl
    behind false y e = e

-- no more bytes were read than the greatest offset that arrived
pub read_within : (a : Arrived) (seen : ℕ) → IsLawful a → AreBelow seen a → bytes_read_of a ≤ seen
read_within a seen lawful below =
    let ordered = front a.read refl in
    let picked = spans_within a.read seen a.picked lawful.spans (λ o e. below o (given o (ltb o a.read) (in_spans a.picked o) (waits a.parts o) e)) in
    omega arith
  where
    given : (o : ℕ) (x y z : Bool) → y ≡ true → ((x || y) || z) ≡ true
    given o true y z e = refl
    given o false true z e = refl
    given o false false z e = clash e

    front : (n : ℕ) → a.read ≡ n → a.read ≤ seen
    front zero is = omega arith
    front (suc n) is =
        let at : ltb n a.read ≡ true = lt-ltb n a.read (omega arith) in
        let top : n < seen = below n (ap (λ x. (x || in_spans a.picked n) || waits a.parts n) at) in
        omega arith

-- ---- final sizes

or_left : (x y : Bool) → (x || y) ≡ false → x ≡ false
or_left true y e = clash (sym e)
or_left false y e = refl

or_right : (x y : Bool) → (x || y) ≡ false → y ≡ false
or_right true y e = clash (sym e)
or_right false y e = e

not_not : (x : Bool) → not x ≡ false → x ≡ true
not_not true e = refl
not_not false e = clash (sym e)

-- a final size that a frame names lies behind what arrived
pub named_behind : (known : Option ℕ) (seen end : ℕ) → ForSome known (λ size. seen ≤ size) → breaks_final known seen end true ≡ false → seen ≤ end
named_behind (Some s) seen end within e =
    let k : seen ≤ s = within s refl in
    let is : end ≡ s = eqb-true end s (not_not (end == s) (or_right (ltb s end) (not (end == s)) e)) in
    omega arith
named_behind None seen end within e = ltb-false end seen e

-- what comes without an end ends before one that is known
unnamed_before : (known : Option ℕ) (seen end size : ℕ) → breaks_final known seen end false ≡ false → known ≡ Some size → end ≤ size
unnamed_before (Some s) seen end size e is =
    let same : s ≡ size = cc in
    let k : end ≤ s = ltb-false s end (or_left (ltb s end) false e) in
    omega arith
unnamed_before None seen end size e is = absurd (none_some size is)

-- a final size that is known then lies behind what arrived
pub final_within : (known : Option ℕ) (seen end : ℕ) (fin : Bool) → ForSome known (λ size. seen ≤ size) → breaks_final known seen end fin ≡ false → ForSome (cond fin (Some end) known) (λ size. max seen end ≤ size)
final_within known seen end true within e = λ size is.
    let k = named_behind known seen end within e in
    let same : end ≡ size = cc in
    omega arith
final_within known seen end false within e = λ size is.
    let k = within size is in
    let l = unnamed_before known seen end size e is in
    omega arith

-- ---- calls

-- offsets come
pub see_within : (a : Arrived) (seen announced end : ℕ) (known : Option ℕ) (fin : Bool) → IsWithin a seen known announced → end ≤ greatest_offset → breaks_final known seen end fin ≡ false → IsWithin a (max seen end) (cond fin (Some end) known) announced
see_within a seen announced end known fin h small allowed = record {
  lawful = h.lawful;
  below = λ o e. let k = h.below o e in omega arith;
  final = final_within known seen end fin h.final allowed;
  small = let k = h.small in omega arith;
  small_announced = h.small_announced;
}

insert_below : (a : Arrived) (seen offset : ℕ) (bytes : List ℕ) → IsLawful a → AreBelow seen a → offset + length bytes < 2 ^ 62 → AreBelow (max seen (offset + length bytes)) (after_insert a offset bytes)
insert_below a seen offset bytes lawful below fits o e = go (is_given a o) (byte_at a.parts o) (byte_from offset bytes o) refl refl refl (ap (λ x. is_given a o || is_some x) (sym (insert_bytes a offset bytes o lawful fits)) ∙ e)
  where
    go : (g : Bool) (w b : Option ℕ) → is_given a o ≡ g → byte_at a.parts o ≡ w → byte_from offset bytes o ≡ b → (is_given a o || is_some (cond (is_given a o) None (option_or (byte_at a.parts o) (byte_from offset bytes o)))) ≡ true → o < max seen (offset + length bytes)
    go true w b ig iw ib t = let k = below o (ap (λ x. x || waits a.parts o) ig) in omega arith
    go false (Some v) b ig iw ib t =
        let was : (is_given a o || waits a.parts o) ≡ true = rw (ig, iw) refl in
        let k = below o was in
        omega arith
    go false None (Some v) ig iw ib t = came (ltb o (offset + length bytes)) refl
      where
        came : (l : Bool) → ltb o (offset + length bytes) ≡ l → o < max seen (offset + length bytes)
        came true is = let k = ltb-true o (offset + length bytes) is in omega arith
        came false is = absurd (none_some v (sym (from_behind offset bytes o (ltb-false o (offset + length bytes) is)) ∙ ib))
    go false None None ig iw ib t = clash (sym (rw (ig, iw, ib) refl) ∙ t)

-- a frame's bytes come
pub insert_within : (a n : Arrived) (seen announced offset : ℕ) (bytes : List ℕ) (known : Option ℕ) (fin : Bool) → IsWithin a seen known announced → offset + length bytes < 2 ^ 62 → breaks_final known seen (offset + length bytes) fin ≡ false → n ≡ after_insert a offset bytes → IsWithin n (max seen (offset + length bytes)) (cond fin (Some (offset + length bytes)) known) announced
insert_within a n seen announced offset bytes known fin h fits allowed is =
    subst (λ (x : Arrived). IsWithin x (max seen (offset + length bytes)) (cond fin (Some (offset + length bytes)) known) announced) (sym is) (record {
      lawful = insert_lawful a offset bytes h.lawful fits;
      below = insert_below a seen offset bytes h.lawful h.below fits;
      final = final_within known seen (offset + length bytes) fin h.final allowed;
      small = let k = h.small in omega arith;
      small_announced = h.small_announced;
    })

-- what a read gives waited
chunk_waits : (a : Arrived) (most o : ℕ) → IsLawful a → in_chunk (given_by a most) o ≡ true → waits a.parts o ≡ true
chunk_waits a most o lawful e = go (given_by a most) refl e (λ i. given_bytes a most i lawful)
  where
    go : (c : Option Chunk) → given_by a most ≡ c → in_chunk c o ≡ true → ((i : ℕ) → IfSome c (λ chunk. i < length chunk.bytes → slice_get chunk.bytes i ≡ byte_at a.parts (chunk.offset + i))) → waits a.parts o ≡ true
    go None is e f = clash e
    go (Some chunk) is e f =
        let low = ltb-false o chunk.offset (and_left (ltb o chunk.offset) (ltb o (chunk.offset + length chunk.bytes)) e) in
        let high = ltb-true o (chunk.offset + length chunk.bytes) (and_right (ltb o chunk.offset) (ltb o (chunk.offset + length chunk.bytes)) e) in
        let at : chunk.offset + (o - chunk.offset) ≡ o = omega arith in
        let byte = sym (slice_get-get_or chunk.bytes (o - chunk.offset) 0 (omega arith)) ∙ f (o - chunk.offset) (omega arith) ∙ ap (λ x. byte_at a.parts x) at in
        ap is_some (sym byte)
      where
        and_left : (x y : Bool) → (not x && y) ≡ true → x ≡ false
        and_left true y e = clash e
        and_left false y e = refl

        and_right : (x y : Bool) → (not x && y) ≡ true → y ≡ true
        and_right true y e = clash e
        and_right false y e = e

-- bytes are read
pub next_within : (a n : Arrived) (seen announced most : ℕ) (known : Option ℕ) → IsWithin a seen known announced → n ≡ after_read a most → IsWithin n seen known announced
next_within a n seen announced most known h is =
    subst (λ (x : Arrived). IsWithin x seen known announced) (sym is) (record {
      lawful = read_lawful a most h.lawful;
      below = λ o e. h.below o (went o (in_chunk (given_by a most) o) refl (sym (rw (read_given a most o h.lawful, read_leaves a most o h.lawful) refl) ∙ e));
      final = h.final;
      small = h.small;
      small_announced = h.small_announced;
    })
  where
    went : (o : ℕ) (x : Bool) → in_chunk (given_by a most) o ≡ x → ((in_chunk (given_by a most) o || is_given a o) || is_some (cond (in_chunk (given_by a most) o) None (byte_at a.parts o))) ≡ true → (is_given a o || waits a.parts o) ≡ true
    went o true is t = rw (chunk_waits a most o h.lawful is) (any (is_given a o))
      where
        any : (x : Bool) → (x || true) ≡ true
        any true = refl
        any false = refl
    went o false is t = sym (rw is refl) ∙ t

-- nothing waits any more, and a final size may be known
pub cleared_within : (a n : Arrived) (seen announced to : ℕ) (known : Option ℕ) → IsWithin a seen known announced → n ≡ record a { parts = [] } → IsLawful n → seen ≤ to → to ≤ greatest_offset → ForSome known (λ size. to ≤ size) → IsWithin n to known announced
cleared_within a n seen announced to known h is lawful behind small final = record {
  lawful = lawful;
  below = λ o e. let k = h.below o (given o (is_given a o) (waits a.parts o) (sym (ap (λ (x : Arrived). is_given x o || waits x.parts o) is) ∙ e)) in omega arith;
  final = final;
  small = small;
  small_announced = h.small_announced;
}
  where
    given : (o : ℕ) (x y : Bool) → (x || false) ≡ true → (x || y) ≡ true
    given o true y e = refl
    given o false y e = clash e

-- nothing has arrived
pub new_within : (announced : ℕ) → announced ≤ greatest_offset → IsLawful nothing_arrived → IsWithin nothing_arrived 0 None announced
new_within announced small lawful = record {
  lawful = lawful;
  below = λ o e. clash (sym (rw (le-ltb o 0 (omega arith)) refl) ∙ e);
  final = λ size is. absurd (none_some size is);
  small = omega arith;
  small_announced = small;
}
