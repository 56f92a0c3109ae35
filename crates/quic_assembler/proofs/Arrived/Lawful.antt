-- Inserts and reads keep what is true of what arrived, and say what waits then.
use Rattle.std.proofs.Common.{◌≡◌, ℕ, ◌+◌, ◌-◌, ◌*◌, ◌/◌, ◌^◌, ◌<◌, ◌≤◌, ◌==◌, ltb, length, List, [], ◌∷◌, take, drop, Bool, true, false, not, ◌&&◌, ◌||◌, cond, Some, None, Option, refl, sym, ap, ◌∙◌, subst, arith, max, length-take, length-drop}
use Rattle.std.specs.Option.{option_or, IfSome}
use Rattle.std.specs.List.{slice_get}
use Rattle.std.proofs.lemmas.Bool.{ltb-true, ltb-false, lt-ltb, le-ltb, eqb-true}
use Rattle.std.proofs.lemmas.Option.{slice_get-get_or}
use Rattle.quic_assembler.specs.declared.assembler.Chunk.{Chunk}
use Rattle.quic_assembler.specs.declared.assembler.parts.TheConstants.{MOST_PARTS, SHORT_PART}
use Rattle.quic_sets.specs.Spans.{in_spans, width_of}
use Rattle.quic_assembler.specs.Arrived.{Arrived, AreApart, IsLawful, is_crowded, is_given, byte_at, given, behind, left_by, left_front, shortened, first_given, with_free, after_insert, given_in, after_read_in, given_by, after_read, in_chunk, bytes_read_of, length_of, runs_of, waiting_bytes}
use Rattle.quic_sets.specs.Parts.{Part, start, byte_from}
use Rattle.quic_sets.proofs.Parts.Bytes.{from_below, from_back, from_within, get-take}
use Rattle.quic_assembler.proofs.Arrived.Bytes.{at_below}
use Rattle.quic_assembler.proofs.Arrived.Claims.{read_bytes, leaves, leaves_first}
use Rattle.quic_assembler.proofs.Parts.Filled.{low_small}
use Rattle.quic_assembler.proofs.Parts.Free.{free_apart, at_free}
use Rattle.quic_assembler.proofs.Parts.Joining.{settled_byte, settled_apart, settled_few}
use Rattle.quic_assembler.proofs.Arrived.Picking.{pick_lawful, pick_width, pick_in, from_start}

-- ---- an insert
pub insert_bytes : (a : Arrived) (offset : ℕ) (bytes : List ℕ) (o : ℕ) → IsLawful a → offset + length bytes < 2 ^ 62 → byte_at (after_insert a offset bytes).parts o ≡ cond (is_given a o) None (option_or (byte_at a.parts o) (byte_from offset bytes o))
insert_bytes a offset bytes o h s =
    let d = length-drop (a.read - offset) bytes in
    settled_byte a.read (with_free a.picked a.parts (max a.read offset) (drop (a.read - offset) bytes)) o (free_apart a.read (max a.read offset) a.read a.picked a.parts (drop (a.read - offset) bytes) h.spans h.apart (omega arith) (λ l. omega arith))
    ∙ at_free a.read (max a.read offset) a.read o a.picked a.parts (drop (a.read - offset) bytes) h.spans h.apart (omega arith) (λ l. omega arith) ∙ go (ltb o a.read) refl (in_spans a.picked o) (h.others o)
  where
    none_or : (b : Bool) (x : Option ℕ) → x ≡ None → option_or None (cond b None x) ≡ None
    none_or true x e = refl
    none_or false x e = e

    go : (b : Bool) → ltb o a.read ≡ b → (c : Bool) → (c ≡ true → byte_at a.parts o ≡ None) → option_or (byte_at a.parts o) (cond c None (byte_from (max a.read offset) (drop (a.read - offset) bytes) o)) ≡ cond (b || c) None (option_or (byte_at a.parts o) (byte_from offset bytes o))
    go true q c f =
        let k = ltb-true o a.read q in
        rw (at_below a.read a.parts o h.apart k) (none_or c _ (from_below (max a.read offset) (drop (a.read - offset) bytes) o (omega arith)))
    go false q true f = rw (f refl) refl
    go false q false f =
        let k = ltb-false o a.read q in
        let m : max a.read offset ≡ max offset a.read = omega arith in
        rw (m, from_back offset a.read bytes o k) refl

pub insert_lawful : (a : Arrived) (offset : ℕ) (bytes : List ℕ) → IsLawful a → offset + length bytes < 2 ^ 62 → IsLawful (after_insert a offset bytes)
insert_lawful a offset bytes h s =
    let d = length-drop (a.read - offset) bytes in
    record {
      apart = settled_apart a.read (with_free a.picked a.parts (max a.read offset) (drop (a.read - offset) bytes)) (free_apart a.read (max a.read offset) a.read a.picked a.parts (drop (a.read - offset) bytes) h.spans h.apart (omega arith) (λ l. omega arith));
      spans = h.spans;
      others = λ o e. insert_bytes a offset bytes o h s ∙ none o e;
      order = h.order;
    }
  where
    none : (o : ℕ) → in_spans a.picked o ≡ true → cond (ltb o a.read || in_spans a.picked o) None (option_or (byte_at a.parts o) (byte_from offset bytes o)) ≡ None
    none o e = rw e (both (ltb o a.read))
      where
        both : (b : Bool) → cond (b || true) None (option_or (byte_at a.parts o) (byte_from offset bytes o)) ≡ None
        both true = refl
        both false = refl

pub few_stay : (ps : List Part) → length ps ≤ MOST_PARTS → is_crowded ps ≡ false
few_stay ps l = rw (le-ltb MOST_PARTS (length ps) l) refl

pub few_parts : (a : Arrived) (offset : ℕ) (bytes : List ℕ) (ps : List Part) → IsLawful a → offset + length bytes < 2 ^ 62 → ps ≡ (after_insert a offset bytes).parts → length ps ≤ max (max MOST_PARTS (2 * runs_of ps)) (waiting_bytes ps / SHORT_PART)
few_parts a offset bytes ps h s e =
    let d = length-drop (a.read - offset) bytes in
    subst (λ (qs : List Part). length qs ≤ max (max MOST_PARTS (2 * runs_of qs)) (waiting_bytes qs / SHORT_PART)) (sym e) (settled_few a.read (with_free a.picked a.parts (max a.read offset) (drop (a.read - offset) bytes)) (free_apart a.read (max a.read offset) a.read a.picked a.parts (drop (a.read - offset) bytes) h.spans h.apart (omega arith) (λ l. omega arith)))

-- ---- a read
next_apart : (read most : ℕ) (ps : List Part) → AreApart read ps → AreApart (behind (given ps read most) read) (left_by ps read most)
next_apart read most [] h = h
next_apart read most (p ∷ ps) h = go (start p == read) refl
  where
    cut : (b : Bool) → ltb most (length p.1) ≡ b → start p ≡ read → AreApart (read + length (take most p.1)) (cond b ((p.0, drop most p.1) ∷ ps) ps)
    cut true q same =
        let big = h.0 in
        let l = ltb-true most (length p.1) q in
        let t = length-take most p.1 in
        let d = length-drop most p.1 in
        (omega arith, omega arith, h.2)
    cut false q same =
        let big = h.0 in
        let l = ltb-false most (length p.1) q in
        let t = length-take most p.1 in
        let e : read + length (take most p.1) ≡ p.0 = omega arith in
        subst (λ n. AreApart n ps) (sym e) h.2

    go : (b : Bool) → (start p == read) ≡ b → AreApart (behind (cond b (Some (record { offset = read; bytes = take most p.1 })) None) read) (cond b (shortened most p ps) (p ∷ ps))
    go true q = cut (ltb most (length p.1)) refl (eqb-true (start p) read q)
    go false q = h

pub next_lawful : (a : Arrived) (most : ℕ) → a.unordered ≡ false → IsLawful a → IsLawful (after_read_in false a most)
next_lawful a most u h =
    let apart = next_apart a.read most a.parts h.apart in
    let none = h.order u in
    let small = low_small _ _ apart in
    record {
      apart = apart;
      spans = rw none (omega arith);
      others = λ o e. out (sym (ap (λ gs. in_spans gs o) none) ∙ e);
      order = h.order;
    }
  where
    out : {T : Type 0} → false ≡ true → T
    out e = cc

pub read_lawful : (a : Arrived) (most : ℕ) → IsLawful a → IsLawful (after_read a most)
read_lawful a most h = go a.unordered refl
  where
    go : (b : Bool) → a.unordered ≡ b → IsLawful (after_read_in b a most)
    go true q = pick_lawful a most q h
    go false q = next_lawful a most q h

-- ---- what was given, and what is left
or_swap : (u v x : Bool) → (u || (v || x)) ≡ (v || (u || x))
or_swap true true x = refl
or_swap true false x = refl
or_swap false true x = refl
or_swap false false x = refl

pub or_assoc : (u v x : Bool) → ((u || v) || x) ≡ (u || (v || x))
or_assoc true v x = refl
or_assoc false v x = refl

pub or_false : (b : Bool) → (b || false) ≡ b
or_false true = refl
or_false false = refl

given_place : (ps : List Part) (read most : ℕ) → IfSome (given ps read most) (λ chunk. chunk.offset ≡ read)
given_place [] read most = tt
given_place (p ∷ ps) read most = go (start p == read)
  where
    go : (b : Bool) → IfSome {T = Chunk} (cond b (Some (record { offset = read; bytes = take most p.1 })) None) (λ chunk. chunk.offset ≡ read)
    go true = refl
    go false = tt

-- an ordered read moves on by its chunk
behind_in : (read o : ℕ) (c : Option Chunk) → IfSome c (λ chunk. chunk.offset ≡ read) → ltb o (behind c read) ≡ (in_chunk c o || ltb o read)
behind_in read o None e = refl
behind_in read o (Some chunk) e = go (ltb o read) refl
  where
    go : (b : Bool) → ltb o read ≡ b → ltb o (chunk.offset + length chunk.bytes) ≡ ((not (ltb o chunk.offset) && ltb o (chunk.offset + length chunk.bytes)) || ltb o read)
    go true q =
        let k = ltb-true o read q in
        let m = lt-ltb o (chunk.offset + length chunk.bytes) (omega arith) in
        let n = lt-ltb o chunk.offset (omega arith) in
        rw (q, m, n) refl
    go false q =
        let n : ltb o chunk.offset ≡ false = ap (λ i. ltb o i) e ∙ q in
        rw (q, n) (sym (or_false (ltb o (chunk.offset + length chunk.bytes))))

behind_width : (read : ℕ) (c : Option Chunk) → IfSome c (λ chunk. chunk.offset ≡ read) → behind c read ≡ read + length_of c
behind_width read None e = omega arith
behind_width read (Some chunk) e = ap (λ n. n + length chunk.bytes) e

pub read_given : (a : Arrived) (most o : ℕ) → IsLawful a → is_given (after_read a most) o ≡ (in_chunk (given_by a most) o || is_given a o)
read_given a most o h = go a.unordered
  where
    go : (b : Bool) → is_given (after_read_in b a most) o ≡ (in_chunk (given_in b a most) o || is_given a o)
    go true = ap (λ b. ltb o a.read || b) (pick_in a most o h) ∙ or_swap (ltb o a.read) (in_chunk (first_given a.parts most) o) (in_spans a.picked o)
    go false = ap (λ b. b || in_spans a.picked o) (behind_in a.read o (given a.parts a.read most) (given_place a.parts a.read most)) ∙ or_assoc (in_chunk (given a.parts a.read most) o) (ltb o a.read) (in_spans a.picked o)

none_both : (b : Bool) → cond {A = Option ℕ} b None None ≡ None
none_both true = refl
none_both false = refl

pub read_leaves : (a : Arrived) (most o : ℕ) → IsLawful a → byte_at (after_read a most).parts o ≡ cond (in_chunk (given_by a most) o) None (byte_at a.parts o)
read_leaves a most o h = go a.unordered
  where
    first : (ps : List Part) → AreApart a.read ps → byte_at (left_front ps most) o ≡ cond (in_chunk (first_given ps most) o) None (byte_at ps o)
    first [] l = refl
    first (p ∷ ps) l = leaves_first (start p) most o p ps (from_start a.read p ps l) refl ∙ below (ltb o (start p)) refl
      where
        below : (b : Bool) → ltb o (start p) ≡ b → cond (ltb o (start p + length (take most p.1))) None (byte_at (p ∷ ps) o) ≡ cond (not (ltb o (start p)) && ltb o (start p + length (take most p.1))) None (byte_at (p ∷ ps) o)
        below true q =
            let k = ltb-true o (start p) q in
            let none = at_below (start p) (p ∷ ps) o (from_start a.read p ps l) k in
            ap (λ x. cond (ltb o (start p + length (take most p.1))) None x) none ∙ none_both (ltb o (start p + length (take most p.1))) ∙ sym (ap (λ x. cond (not (ltb o (start p)) && ltb o (start p + length (take most p.1))) None x) none ∙ none_both (not (ltb o (start p)) && ltb o (start p + length (take most p.1))))
        below false q = rw q refl

    next : (b : Bool) → ltb o a.read ≡ b → cond (in_chunk (given a.parts a.read most) o || ltb o a.read) None (byte_at a.parts o) ≡ cond (in_chunk (given a.parts a.read most) o) None (byte_at a.parts o)
    next true q =
        let none = at_below a.read a.parts o h.apart (ltb-true o a.read q) in
        ap (λ x. cond (in_chunk (given a.parts a.read most) o || ltb o a.read) None x) none ∙ none_both (in_chunk (given a.parts a.read most) o || ltb o a.read) ∙ sym (ap (λ x. cond (in_chunk (given a.parts a.read most) o) None x) none ∙ none_both (in_chunk (given a.parts a.read most) o))
    next false q = ap (λ b. cond (in_chunk (given a.parts a.read most) o || b) None (byte_at a.parts o)) q ∙ ap (λ b. cond b None (byte_at a.parts o)) (or_false (in_chunk (given a.parts a.read most) o))

    go : (b : Bool) → byte_at (after_read_in b a most).parts o ≡ cond (in_chunk (given_in b a most) o) None (byte_at a.parts o)
    go true = first a.parts h.apart
    go false = leaves a.read most o a.parts h.apart ∙ ap (λ b. cond b None (byte_at a.parts o)) (behind_in a.read o (given a.parts a.read most) (given_place a.parts a.read most)) ∙ next (ltb o a.read) refl

pub read_counted : (a : Arrived) (most : ℕ) → IsLawful a → bytes_read_of (after_read a most) ≡ bytes_read_of a + length_of (given_by a most)
read_counted a most h = go a.unordered
  where
    go : (b : Bool) → bytes_read_of (after_read_in b a most) ≡ bytes_read_of a + length_of (given_in b a most)
    go true = let w = pick_width a most h in omega arith
    go false = let w = behind_width a.read (given a.parts a.read most) (given_place a.parts a.read most) in omega arith

-- ---- what a read gives
pub given_waits_not : (a : Arrived) (o : ℕ) → IsLawful a → is_given a o ≡ true → byte_at a.parts o ≡ None
given_waits_not a o h e = go (ltb o a.read) refl e
  where
    go : (b : Bool) → ltb o a.read ≡ b → (b || in_spans a.picked o) ≡ true → byte_at a.parts o ≡ None
    go true q e = at_below a.read a.parts o h.apart (ltb-true o a.read q)
    go false q e = h.others o e

pub first_least : (low most o : ℕ) (ps : List Part) → AreApart low ps → IfSome (first_given ps most) (λ chunk. o < chunk.offset → byte_at ps o ≡ None)
first_least low most o [] h = tt
first_least low most o (p ∷ ps) h = λ l. at_below (start p) (p ∷ ps) o (from_start low p ps h) l

first_bytes : (low most i : ℕ) (ps : List Part) → AreApart low ps → IfSome (first_given ps most) (λ chunk. i < length chunk.bytes → slice_get chunk.bytes i ≡ byte_at ps (chunk.offset + i))
first_bytes low most i [] h = tt
first_bytes low most i (p ∷ ps) h = λ l.
    let big = h.0 in
    let t = length-take most p.1 in
    let w = from_within (start p) p.1 (start p + i) (omega arith) (omega arith) in
    let d : start p + i - start p ≡ i = omega arith in
    get-take most i p.1 (omega arith) ∙ slice_get-get_or p.1 i 0 (omega arith) ∙ sym (rw (w, d) refl)

pub given_bytes : (a : Arrived) (most i : ℕ) → IsLawful a → IfSome (given_by a most) (λ chunk. i < length chunk.bytes → slice_get chunk.bytes i ≡ byte_at a.parts (chunk.offset + i))
given_bytes a most i h = go a.unordered
  where
    go : (b : Bool) → IfSome (given_in b a most) (λ chunk. i < length chunk.bytes → slice_get chunk.bytes i ≡ byte_at a.parts (chunk.offset + i))
    go true = first_bytes a.read most i a.parts h.apart
    go false = read_bytes a.read most i a.parts h.apart

-- ---- while no read was unordered
pub ordered_given : (a : Arrived) (o : ℕ) → IsLawful a → a.unordered ≡ false → is_given a o ≡ ltb o a.read
ordered_given a o h u = ap (λ gs. ltb o a.read || in_spans gs o) (h.order u) ∙ or_false (ltb o a.read)

pub ordered_counted : (a : Arrived) → IsLawful a → a.unordered ≡ false → bytes_read_of a ≡ a.read
ordered_counted a h u = ap (λ gs. a.read + width_of gs) (h.order u) ∙ omega arith
