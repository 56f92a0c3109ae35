-- The pieces of stretches: what is done with a stretch is done with them.
use Rattle.std.proofs.Common.{◌≡◌, ℕ, zero, suc, ◌+◌, ◌-◌, ◌<◌, ◌≤◌, ◌++◌, length, List, [], ◌∷◌, Bool, true, false, Option, Some, None, cond, ltb, refl, sym, ap, ◌∙◌, subst, inl, inr, arith, length-append, append_assoc}
use Rattle.std.proofs.lemmas.Bool.{cases_lt, cases_Bool, eqb-true, le-leb, lt-leb, le-ltb, lt-ltb}
use Rattle.std.proofs.lemmas.List.{append-nil}
use Rattle.std.specs.Prelude.{◌==◌, slice_index_or, slice_set}
use Rattle.std.specs.Option.{option_map}
use Rattle.quic_sets.specs.Parts.{Part, after, bytes_of}
use Rattle.quic_send_buffer.specs.KeptBytes.{AreInTurn, HavePieces, pieces_of, end_from, end_of, start_of, pushed, pushed_last, last_of, alone, stretch_with, behind, first_behind, ending_behind, first_start, parts_from, part_of, piece_with, IsPut}
use Rattle.quic_send_buffer.specs.Row.{row}
use Rattle.quic_send_buffer.proofs.Kept.Pieces.{end_is}

-- ---- pieces in two parts

-- where the first part ends the second begins
first_turn : (at end : ℕ) (ps qs : List Part) → AreInTurn at (ps ++ qs) end → AreInTurn at ps (end_from at ps)
first_turn at end [] qs h = refl
first_turn at end (p ∷ ps) qs h = (h.0, h.1, first_turn p.0 end ps qs h.2)

second_turn : (at end : ℕ) (ps qs : List Part) → AreInTurn at (ps ++ qs) end → AreInTurn (end_from at ps) qs end
second_turn at end [] qs h = h
second_turn at end (p ∷ ps) qs h = second_turn p.0 end ps qs h.2

both_bytes : (ps qs : List Part) → bytes_of (ps ++ qs) ≡ bytes_of ps ++ bytes_of qs
both_bytes [] qs = refl
both_bytes (p ∷ ps) qs = ap (λ (z : List ℕ). p.1 ++ z) (both_bytes ps qs) ∙ sym (append_assoc p.1 (bytes_of ps) (bytes_of qs))

-- where they end doesn't hang on where they begin, if there are any
same_end : (at : ℕ) (ps : List Part) → 0 < length ps → end_from at ps ≡ end_of ps
same_end at [] some = absurd (omega (arith, some))
same_end at (p ∷ ps) some = refl

turn_ends : (at end : ℕ) (ps : List Part) → AreInTurn at ps end → end_from at ps ≡ end
turn_ends at end [] h = h
turn_ends at end (p ∷ ps) h = turn_ends p.0 end ps h.2

turn_rises : (at end : ℕ) (ps : List Part) → AreInTurn at ps end → at ≤ end
turn_rises at end [] h = omega (arith, h)
turn_rises at end (p ∷ ps) h = let rest = turn_rises p.0 end ps h.2 in let here = h.0 in omega (arith, rest, here)

filled_bytes : (at end : ℕ) (ps : List Part) → AreInTurn at ps end → 0 < length ps → 0 < length (bytes_of ps)
filled_bytes at end [] h some = absurd (omega (arith, some))
filled_bytes at end (p ∷ ps) h some = let len = length-append p.1 (bytes_of ps) in let here = h.1 in omega (arith, len, here)

-- ---- an offset, and pieces in two parts

-- those of the first part end up to it
after_first : (at mid o : ℕ) (ps qs : List Part) → AreInTurn at ps mid → mid ≤ o → after o (ps ++ qs) ≡ after o qs
after_first at mid o [] qs h le = refl
after_first at mid o (p ∷ ps) qs h le =
    let rise = turn_rises p.0 mid ps h.2 in
    rw (le-ltb o p.0 (omega (arith, rise, le))) (after_first p.0 mid o ps qs h.2 le)

behind_first : (at mid o : ℕ) (ps qs : List Part) → AreInTurn at ps mid → mid ≤ o → behind o (ps ++ qs) ≡ behind o qs
behind_first at mid o [] qs h le = refl
behind_first at mid o (p ∷ ps) qs h le =
    let rise = turn_rises p.0 mid ps h.2 in
    rw (le-leb p.0 o (omega (arith, rise, le))) (behind_first p.0 mid o ps qs h.2 le)

-- the last one of it ends behind the offset
after_within : (o : ℕ) (p : Part) (ps qs : List Part) → o < end_of (p ∷ ps) → after o ((p ∷ ps) ++ qs) ≡ after o (p ∷ ps)
after_within o p [] qs lt = rw (lt-ltb o p.0 lt) refl
after_within o p (r ∷ ps) qs lt = ap (λ (x : Option Part). cond (ltb o p.0) (Some p) x) (after_within o r ps qs lt)

behind_within : (o : ℕ) (p : Part) (ps qs : List Part) → o < end_of (p ∷ ps) → behind o ((p ∷ ps) ++ qs) ≡ behind o (p ∷ ps) ++ qs
behind_within o p [] qs lt = rw (lt-leb p.0 o lt) refl
behind_within o p (r ∷ ps) qs lt = elim (cases_lt o p.0) [
  | inl below ↦ rw (lt-leb p.0 o below) refl
  | inr above ↦ rw (le-leb p.0 o above) (behind_within o r ps qs lt)
]

some_behind : (o : ℕ) (p : Part) (ps : List Part) → o < end_of (p ∷ ps) → 0 < length (behind o (p ∷ ps))
some_behind o p [] lt = rw (lt-leb p.0 o lt) (omega arith)
some_behind o p (r ∷ ps) lt = elim (cases_lt o p.0) [
  | inl below ↦ rw (lt-leb p.0 o below) (omega arith)
  | inr above ↦ rw (le-leb p.0 o above) (some_behind o r ps lt)
]

-- ---- each stretch as one part

abbrev pub parts_of : List (List Part) → List Part
parts_of [] = []
parts_of (s ∷ ss) = part_of s ∷ parts_of ss

pub parts_turn : (at end : ℕ) (ss : List (List Part)) → AreInTurn at (pieces_of ss) end → HavePieces ss → AreInTurn at (parts_of ss) end
parts_turn at end [] h have = h
parts_turn at end (s ∷ ss) h have =
    let mine = first_turn at end s (pieces_of ss) h in
    let same = same_end at s have.0 in
    let bytes = end_is at (end_from at s) s mine in
    let rest = subst (λ (n : ℕ). AreInTurn n (pieces_of ss) end) same (second_turn at end s (pieces_of ss) h) in
    (bytes ∙ same, filled_bytes at (end_from at s) s mine have.0, parts_turn (end_of s) end ss rest have.1)

pub parts_bytes : (ss : List (List Part)) → bytes_of (parts_of ss) ≡ bytes_of (pieces_of ss)
parts_bytes [] = refl
parts_bytes (s ∷ ss) = ap (λ (z : List ℕ). bytes_of s ++ z) (parts_bytes ss) ∙ sym (both_bytes s (pieces_of ss))

-- ---- the stretch that has an offset

-- as a part
pub found_part : (o : ℕ) (ss : List (List Part)) → after o (parts_of ss) ≡ option_map part_of (stretch_with o ss)
found_part o [] = refl
found_part o (s ∷ ss) = elim (cases_lt o (end_of s)) [
  | inl lt ↦ rw (lt-ltb o (end_of s) lt) refl
  | inr le ↦ rw (le-ltb o (end_of s) le) (found_part o ss)
]

-- by the piece
pub found_piece : (at end o : ℕ) (ss : List (List Part)) → AreInTurn at (pieces_of ss) end → HavePieces ss → after o (pieces_of ss) ≡ piece_with o ss
found_piece at end o [] h have = refl
found_piece at end o ([] ∷ ss) h have = let none = have.0 in absurd (omega (arith, none))
found_piece at end o ((p ∷ ps) ∷ ss) h have = elim (cases_lt o (end_of (p ∷ ps))) [
  | inl lt ↦ rw (lt-ltb o (end_of (p ∷ ps)) lt) (after_within o p ps (pieces_of ss) lt)
  | inr le ↦
      (let mine = first_turn at end (p ∷ ps) (pieces_of ss) h in
      let rest = found_piece (end_of (p ∷ ps)) end o ss (second_turn at end (p ∷ ps) (pieces_of ss) h) have.1 in
      rw (le-ltb o (end_of (p ∷ ps)) le) (after_first at (end_of (p ∷ ps)) o (p ∷ ps) (pieces_of ss) mine le ∙ rest))
]

-- the first that is found
pub stretch_ends : (o : ℕ) (ss : List (List Part)) (s : List Part) → Some s ≡ stretch_with o ss → (o < end_of s) × (piece_with o ss ≡ after o s)
stretch_ends o [] s e = cc
stretch_ends o (t ∷ ss) s e = elim (cases_lt o (end_of t)) [
  | inl lt ↦ (let both : Some s ≡ Some t = e ∙ ap (λ (b : Bool). cond b (Some t) (stretch_with o ss)) (lt-ltb o (end_of t) lt) in let same : t ≡ s = cc in
      subst (λ (x : List Part). (o < end_of x) × (piece_with o (t ∷ ss) ≡ after o x)) same (lt, ap (λ (b : Bool). cond b (after o t) (piece_with o ss)) (lt-ltb o (end_of t) lt)))
  | inr le ↦ (let rest = stretch_ends o ss s (e ∙ ap (λ (b : Bool). cond b (Some t) (stretch_with o ss)) (le-ltb o (end_of t) le)) in
      (rest.0, ap (λ (b : Bool). cond b (after o t) (piece_with o ss)) (le-ltb o (end_of t) le) ∙ rest.1))
]

pub stretch_none : (o : ℕ) (ss : List (List Part)) → None ≡ stretch_with o ss → None ≡ piece_with o ss
stretch_none o [] e = refl
stretch_none o (t ∷ ss) e = elim (cases_lt o (end_of t)) [
  | inl lt ↦ (let both : None ≡ Some t = e ∙ ap (λ (b : Bool). cond b (Some t) (stretch_with o ss)) (lt-ltb o (end_of t) lt) in cc)
  | inr le ↦ stretch_none o ss (e ∙ ap (λ (b : Bool). cond b (Some t) (stretch_with o ss)) (le-ltb o (end_of t) le)) ∙ sym (ap (λ (b : Bool). cond b (after o t) (piece_with o ss)) (le-ltb o (end_of t) le))
]

-- ---- pieces go

pub released_pieces : (at end o : ℕ) (ss : List (List Part)) → AreInTurn at (pieces_of ss) end → HavePieces ss
    → (pieces_of (first_behind o (ending_behind o ss)) ≡ behind o (pieces_of ss)) × HavePieces (first_behind o (ending_behind o ss))
released_pieces at end o [] h have = (refl, tt)
released_pieces at end o ([] ∷ ss) h have = let none = have.0 in absurd (omega (arith, none))
released_pieces at end o ((p ∷ ps) ∷ ss) h have = elim (cases_lt o (end_of (p ∷ ps))) [
  | inl lt ↦ rw (lt-leb (end_of (p ∷ ps)) o lt) (sym (behind_within o p ps (pieces_of ss) lt), (some_behind o p ps lt, have.1))
  | inr le ↦
      (let mine = first_turn at end (p ∷ ps) (pieces_of ss) h in
      let rest = released_pieces (end_of (p ∷ ps)) end o ss (second_turn at end (p ∷ ps) (pieces_of ss) h) have.1 in
      rw (le-leb (end_of (p ∷ ps)) o le) (rest.0 ∙ sym (behind_first at (end_of (p ∷ ps)) o (p ∷ ps) (pieces_of ss) mine le), rest.1))
]

-- where pieces in turn begin
turn_starts : (at end : ℕ) (p : Part) (ps qs : List Part) → AreInTurn at ((p ∷ ps) ++ qs) end → start_of (p ∷ ps) ≡ at
turn_starts at end p ps qs h = let here = h.0 in omega (arith, here)

pub first_starts : (at end : ℕ) (ss : List (List Part)) → AreInTurn at (pieces_of ss) end → HavePieces ss → first_start end ss ≡ at
first_starts at end [] h have = sym h
first_starts at end ([] ∷ ss) h have = let none = have.0 in absurd (omega (arith, none))
first_starts at end ((p ∷ ps) ∷ ss) h have = turn_starts at end p ps (pieces_of ss) h

-- ---- a piece comes

pub part_is : (at : ℕ) (c : List ℕ) → 0 < length c → parts_from at (c ∷ []) ≡ (at + length c, c) ∷ []
part_is at [] some = absurd (omega (arith, some))
part_is at (b ∷ c) some = elim (cases_Bool (length (b ∷ c) == 0)) [
  | inl is ↦ (let none = eqb-true (length (b ∷ c)) 0 is in absurd (omega (arith, none)))
  | inr isnt ↦ rw isnt refl
]

pub both_pieces : (ss ts : List (List Part)) → pieces_of (ss ++ ts) ≡ pieces_of ss ++ pieces_of ts
both_pieces [] ts = refl
both_pieces (s ∷ ss) ts = ap (λ (z : List Part). s ++ z) (both_pieces ss ts) ∙ sym (append_assoc s (pieces_of ss) (pieces_of ts))

pub both_have : (ss ts : List (List Part)) → HavePieces ss → HavePieces ts → HavePieces (ss ++ ts)
both_have [] ts h g = g
both_have (s ∷ ss) ts h g = (h.0, both_have ss ts h.1 g)

pub alone_pieces : (ps : List Part) → pieces_of (alone ps) ≡ ps
alone_pieces [] = refl
alone_pieces (p ∷ ps) = ap (λ (z : List Part). p ∷ z) (alone_pieces ps)

pub alone_have : (ps : List Part) → HavePieces (alone ps)
alone_have [] = tt
alone_have (p ∷ ps) = (omega arith, alone_have ps)

pub both_alone : (ps qs : List Part) → alone (ps ++ qs) ≡ alone ps ++ alone qs
both_alone [] qs = refl
both_alone (p ∷ ps) qs = ap (λ (z : List (List Part)). (p ∷ []) ∷ z) (both_alone ps qs)

-- where the last stretch ends
last_ends : (at end : ℕ) (ss : List (List Part)) → AreInTurn at (pieces_of ss) end → HavePieces ss → 0 < length ss → end_of (last_of ss) ≡ end
last_ends at end [] h have some = absurd (omega (arith, some))
last_ends at end (s ∷ []) h have some = sym (same_end at s have.0) ∙ turn_ends (end_from at s) end [] (second_turn at end s [] h)
last_ends at end (s ∷ t ∷ ss) h have some = last_ends (end_from at s) end (t ∷ ss) (second_turn at end s (pieces_of (t ∷ ss)) h) have.1 (omega arith)

pub last_within : (at end : ℕ) (ss : List (List Part)) → AreInTurn at (pieces_of ss) end → HavePieces ss → end_of (last_of ss) ≤ end
last_within at end [] h have = omega arith
last_within at end (s ∷ ss) h have = let same = last_ends at end (s ∷ ss) h have (omega arith) in omega (arith, same)

pushed_pieces : (at end : ℕ) (ss : List (List Part)) (bytes : List ℕ) → AreInTurn at (pieces_of ss) end → HavePieces ss → 0 < length ss
    → (pieces_of (pushed_last bytes ss) ≡ pieces_of ss ++ ((end + length bytes, bytes) ∷ [])) × HavePieces (pushed_last bytes ss)
pushed_pieces at end [] bytes h have some = absurd (omega (arith, some))
pushed_pieces at end (s ∷ []) bytes h have some =
    let last = last_ends at end (s ∷ []) h have some in
    let more = length-append s ((end_of s + length bytes, bytes) ∷ []) in (
      append-nil (s ++ ((end_of s + length bytes, bytes) ∷ []))
          ∙ ap (λ (n : ℕ). s ++ ((n + length bytes, bytes) ∷ [])) last
          ∙ ap (λ (z : List Part). z ++ ((end + length bytes, bytes) ∷ [])) (sym (append-nil s)),
      (omega (arith, more), tt),
    )
pushed_pieces at end (s ∷ t ∷ ss) bytes h have some =
    let rest = pushed_pieces (end_from at s) end (t ∷ ss) bytes (second_turn at end s (pieces_of (t ∷ ss)) h) have.1 (omega arith) in
    (ap (λ (z : List Part). s ++ z) rest.0 ∙ sym (append_assoc s (pieces_of (t ∷ ss)) ((end + length bytes, bytes) ∷ [])), (have.0, rest.1))

part_have : (at : ℕ) (bytes : List ℕ) (ss : List (List Part)) → HavePieces ss → HavePieces (ss ++ alone (parts_from at (bytes ∷ [])))
part_have at bytes ss have = both_have ss (alone (parts_from at (bytes ∷ []))) have (alone_have (parts_from at (bytes ∷ [])))

pub put_pieces : (at end : ℕ) (ss ns : List (List Part)) (bytes : List ℕ) → AreInTurn at (pieces_of ss) end → HavePieces ss → IsPut bytes end ss ns
    → (pieces_of ns ≡ pieces_of ss ++ parts_from end (bytes ∷ [])) × HavePieces ns
put_pieces at end ss ns bytes h have (inl put) =
    let all = pushed_pieces at end ss bytes h have put.1 in
    rw put.2 (all.0 ∙ ap (λ (z : List Part). pieces_of ss ++ z) (sym (part_is end bytes put.0)), all.1)
put_pieces at end ss ns bytes h have (inr put) =
    rw put (both_pieces ss (alone (parts_from end (bytes ∷ []))) ∙ ap (λ (z : List Part). pieces_of ss ++ z) (alone_pieces (parts_from end (bytes ∷ []))), part_have end bytes ss have)

-- ---- the last of a row

last_at : (ss : List (List Part)) (k : ℕ) (d : List Part) → suc k ≡ length ss → slice_index_or ss k d ≡ last_of ss
last_at [] k d e = absurd (omega (arith, e))
last_at (s ∷ []) zero d e = refl
last_at (s ∷ []) (suc k) d e = absurd (omega (arith, e))
last_at (s ∷ t ∷ ss) zero d e = absurd (omega (arith, e))
last_at (s ∷ t ∷ ss) (suc k) d e = last_at (t ∷ ss) k d (omega (arith, e))

last_pushed : (ss : List (List Part)) (k : ℕ) (piece : List ℕ) → suc k ≡ length ss → slice_set ss k (pushed piece (last_of ss)) ≡ pushed_last piece ss
last_pushed [] k piece e = absurd (omega (arith, e))
last_pushed (s ∷ []) zero piece e = refl
last_pushed (s ∷ []) (suc k) piece e = absurd (omega (arith, e))
last_pushed (s ∷ t ∷ ss) zero piece e = absurd (omega (arith, e))
last_pushed (s ∷ t ∷ ss) (suc k) piece e = ap (λ (z : List (List Part)). s ∷ z) (last_pushed (t ∷ ss) k piece (omega (arith, e)))

last_same : (ss : List (List Part)) (k : ℕ) → suc k ≡ length ss → slice_set ss k (last_of ss) ≡ ss
last_same [] k e = refl
last_same (s ∷ []) zero e = refl
last_same (s ∷ []) (suc k) e = absurd (omega (arith, e))
last_same (s ∷ t ∷ ss) zero e = absurd (omega (arith, e))
last_same (s ∷ t ∷ ss) (suc k) e = ap (λ (z : List (List Part)). s ∷ z) (last_same (t ∷ ss) k (omega (arith, e)))

row_last : (first : Option Part) (ss : List (List Part)) → 0 < length ss → last_of ss ≡ last_of (row first ss)
row_last None ss some = refl
row_last (Some p) [] some = absurd (omega (arith, some))
row_last (Some p) (t ∷ ss) some = refl

row_more : (first : Option Part) (ss : List (List Part)) (piece : List ℕ) → 0 < length ss → row first (pushed_last piece ss) ≡ pushed_last piece (row first ss)
row_more None ss piece some = refl
row_more (Some p) [] piece some = absurd (omega (arith, some))
row_more (Some p) (t ∷ ss) piece some = refl

row_some : (first : Option Part) (ss : List (List Part)) → 0 < length ss → 0 < length (row first ss)
row_some None ss some = some
row_some (Some p) ss some = omega arith

-- the last of the others, as it is found
pub last_found : (first : Option Part) (ss whole : List (List Part)) (n : ℕ) (last : List Part) → n ≡ length ss → 0 < n → last ≡ slice_index_or ss (n - 1) last → row first ss ≡ whole → last ≡ last_of whole
last_found first ss whole n last e some f v =
    f ∙ last_at ss (n - 1) last (omega (arith, e, some)) ∙ row_last first ss (omega (arith, e, some)) ∙ ap (λ (z : List (List Part)). last_of z) v

-- and what the row is then
pub last_grown : (first : Option Part) (ss whole : List (List Part)) (n at : ℕ) (last new : List Part) (piece : List ℕ) (taken : Bool) → n ≡ length ss → 0 < n → 0 < length piece
    → last ≡ slice_index_or ss (n - 1) last → row first ss ≡ whole → new ≡ cond taken (pushed piece last) last
    → cond taken (IsPut piece at whole (row first (slice_set ss (n - 1) new))) (row first (slice_set ss (n - 1) new) ≡ whole)
last_grown first ss whole n at last new piece true e some filled f v is =
    let count : suc (n - 1) ≡ length ss = omega (arith, e, some) in
    let found : last ≡ last_of ss = f ∙ last_at ss (n - 1) last count in
    inl (
      filled,
      subst (λ (z : List (List Part)). 0 < length z) v (row_some first ss (omega (arith, count))),
      ap (λ (z : List Part). row first (slice_set ss (n - 1) z)) (is ∙ ap (λ (z : List Part). pushed piece z) found) ∙ ap (λ (z : List (List Part)). row first z) (last_pushed ss (n - 1) piece count)
          ∙ row_more first ss piece (omega (arith, count)) ∙ ap (λ (z : List (List Part)). pushed_last piece z) v,
    )
last_grown first ss whole n at last new piece false e some filled f v is =
    let count : suc (n - 1) ≡ length ss = omega (arith, e, some) in
    let found : last ≡ last_of ss = f ∙ last_at ss (n - 1) last count in
    ap (λ (z : List Part). row first (slice_set ss (n - 1) z)) (is ∙ found) ∙ ap (λ (z : List (List Part)). row first z) (last_same ss (n - 1) count) ∙ v
