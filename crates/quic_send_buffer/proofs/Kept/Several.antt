-- Several pieces that are put behind those that are kept, and taken off again.
use Rattle.std.proofs.Common.{◌≡◌, ℕ, zero, suc, ◌+◌, ◌-◌, ◌<◌, ◌≤◌, ◌++◌, ◌==◌, length, take, List, [], ◌∷◌, false, min, refl, sym, ap, ◌∙◌, subst, arith, length-take, append_assoc, inl, inr, ◌⊎◌}
use Rattle.std.proofs.lemmas.Bool.{cases_Bool, eqb-true}
use Rattle.std.proofs.lemmas.List.{append-nil, take_min, take-append-le}
use Rattle.std.proofs.lemmas.List.Sums.{sum_by-cons}
use Rattle.quic_sets.specs.Parts.{Part}
use Rattle.quic_send_buffer.specs.Source.{bytes_of, cut_to}
use Rattle.quic_send_buffer.specs.KeptBytes.{KeptBytes, AreInTurn, HavePieces, pieces_of, alone, with_piece, with_each, parts_from, IsPut}
use Rattle.quic_send_buffer.proofs.Kept.Pieces.{seen_from, more_in_turn, push_seen}
use Rattle.quic_send_buffer.proofs.Kept.Stretches.{part_is, both_pieces, both_have, alone_pieces, alone_have, both_alone, put_pieces}

-- ---- what chunks make

eqb_false_pos : (n : ℕ) → (n == 0) ≡ false → 0 < n
eqb_false_pos zero h = cc
eqb_false_pos (suc n) h = omega arith

-- a chunk alone: nothing, or a piece
one_part : (at : ℕ) (c : List ℕ) → ((length c ≡ 0) × (parts_from at (c ∷ []) ≡ [])) ⊎ ((0 < length c) × (parts_from at (c ∷ []) ≡ (at + length c, c) ∷ []))
one_part at c = elim (cases_Bool (length c == 0)) [
  | inl is ↦ inl (eqb-true (length c) 0 is, rw is refl)
  | inr isnt ↦ inr (eqb_false_pos (length c) isnt, rw isnt refl)
]

-- the first chunk, and the others behind it
first_part : (at : ℕ) (c : List ℕ) (cs : List (List ℕ)) → parts_from at (c ∷ cs) ≡ parts_from at (c ∷ []) ++ parts_from (at + length c) cs
first_part at c cs = elim (cases_Bool (length c == 0)) [
  | inl is ↦ (let none = eqb-true (length c) 0 is in let same : at ≡ at + length c = omega (arith, none) in rw is (ap (λ (n : ℕ). parts_from n cs) same))
  | inr isnt ↦ rw isnt refl
]

-- ---- the pieces behind those in turn

-- one chunk's piece comes last
one_turn : (at end : ℕ) (ps : List Part) (c : List ℕ) → AreInTurn at ps end → AreInTurn at (ps ++ parts_from end (c ∷ [])) (end + length c)
one_turn at end ps c h = elim (one_part end c) [
  | inl g ↦ rw g.1 (rw (append-nil ps) (let none = g.0 in let same : end ≡ end + length c = omega (arith, none) in subst (λ (n : ℕ). AreInTurn at ps n) same h))
  | inr g ↦ rw g.1 (more_in_turn at end ps c h g.0)
]

no_piece : (c : List ℕ) (k : KeptBytes) → length c ≡ 0 → k ≡ with_piece c k
no_piece [] k h = ap (λ (bs : List ℕ). let x : KeptBytes = record { base = k.base; bytes = bs; lengths = k.lengths } in x) (sym (append-nil k.bytes)) ∙ ap (λ (ls : List ℕ). let x : KeptBytes = record { base = k.base; bytes = k.bytes ++ []; lengths = ls } in x) (sym (append-nil k.lengths))
no_piece (b ∷ bs) k h = cc

one_seen : (at end : ℕ) (ps : List Part) (c : List ℕ) → AreInTurn at ps end → seen_from at (ps ++ parts_from end (c ∷ [])) ≡ with_piece c (seen_from at ps)
one_seen at end ps c h = elim (one_part end c) [
  | inl g ↦ rw g.1 (ap (λ (qs : List Part). seen_from at qs) (append-nil ps) ∙ no_piece c (seen_from at ps) g.0)
  | inr g ↦ rw g.1 (push_seen at (end + length c) ps (ps ++ ((end + length c, c) ∷ [])) c g.0 refl)
]

each_turn : (at end : ℕ) (ps : List Part) (cs : List (List ℕ)) → AreInTurn at ps end → AreInTurn at (ps ++ parts_from end cs) (end + bytes_of cs)
each_turn at end ps [] h = rw (append-nil ps) (subst (λ (n : ℕ). AreInTurn at ps n) (let same : end ≡ end + bytes_of [] = omega arith in same) h)
each_turn at end ps (c ∷ cs) h =
    let rest = each_turn at (end + length c) (ps ++ parts_from end (c ∷ [])) cs (one_turn at end ps c h) in
    let all = sum_by-cons (λ (x : List ℕ). length x) c cs in
    let sum : end + length c + bytes_of cs ≡ end + bytes_of (c ∷ cs) = omega (arith, all) in
    subst (λ (n : ℕ). AreInTurn at (ps ++ parts_from end (c ∷ cs)) n) sum
    (subst (λ (qs : List Part). AreInTurn at qs (end + length c + bytes_of cs)) (append_assoc ps (parts_from end (c ∷ [])) (parts_from (end + length c) cs) ∙ ap (λ (qs : List Part). ps ++ qs) (sym (first_part end c cs))) rest)

each_seen : (at end : ℕ) (ps : List Part) (cs : List (List ℕ)) → AreInTurn at ps end → seen_from at (ps ++ parts_from end cs) ≡ with_each cs (seen_from at ps)
each_seen at end ps [] h = ap (λ (qs : List Part). seen_from at qs) (append-nil ps)
each_seen at end ps (c ∷ cs) h =
    ap (λ (qs : List Part). seen_from at (ps ++ qs)) (first_part end c cs)
    ∙ ap (λ (qs : List Part). seen_from at qs) (sym (append_assoc ps (parts_from end (c ∷ [])) (parts_from (end + length c) cs)))
    ∙ each_seen at (end + length c) (ps ++ parts_from end (c ∷ [])) cs (one_turn at end ps c h)
    ∙ ap (λ (k : KeptBytes). with_each cs k) (one_seen at end ps c h)

-- ---- a step: one chunk more

-- what is put, and what is left to put
pub one_more : (at left taken : ℕ) (ps qs : List (List Part)) (c : List ℕ) (cs : List (List ℕ)) → taken ≡ min left (length c) → qs ≡ ps ++ alone (parts_from at (take taken c ∷ []))
    → qs ++ alone (parts_from (at + taken) (cut_to (left - taken) cs)) ≡ ps ++ alone (parts_from at (cut_to left (c ∷ cs)))
one_more at left taken ps qs c cs e put =
    let same : take taken c ≡ take left c = ap (λ (n : ℕ). take n c) e ∙ take_min left c in
    let len = length-take left c in
    let count : at + taken ≡ at + length (take left c) = omega (arith, len, e) in
    let others : left - taken ≡ left - length c = omega (arith, e) in
    ap (λ (xs : List (List Part)). xs ++ alone (parts_from (at + taken) (cut_to (left - taken) cs))) (put ∙ ap (λ (x : List ℕ). ps ++ alone (parts_from at (x ∷ []))) same)
    ∙ ap (λ (n : ℕ). (ps ++ alone (parts_from at (take left c ∷ []))) ++ alone (parts_from n (cut_to (left - taken) cs))) count
    ∙ ap (λ (n : ℕ). (ps ++ alone (parts_from at (take left c ∷ []))) ++ alone (parts_from (at + length (take left c)) (cut_to n cs))) others
    ∙ append_assoc ps (alone (parts_from at (take left c ∷ []))) (alone (parts_from (at + length (take left c)) (cut_to (left - length c) cs)))
    ∙ ap (λ (xs : List (List Part)). ps ++ xs) (sym (both_alone (parts_from at (take left c ∷ [])) (parts_from (at + length (take left c)) (cut_to (left - length c) cs)))
    ∙ ap (λ (xs : List Part). alone xs) (sym (first_part at (take left c) (cut_to (left - length c) cs))))

pub one_count : (at left taken : ℕ) (c : List ℕ) (cs : List (List ℕ)) → taken ≡ min left (length c) → at + taken + bytes_of (cut_to (left - taken) cs) ≡ at + bytes_of (cut_to left (c ∷ cs))
one_count at left taken c cs e =
    let len = length-take left c in
    let others : left - taken ≡ left - length c = omega (arith, e) in
    let rest : bytes_of (cut_to (left - taken) cs) ≡ bytes_of (cut_to (left - length c) cs) = ap (λ (n : ℕ). bytes_of (cut_to n cs)) others in
    let all = sum_by-cons (λ (x : List ℕ). length x) (take left c) (cut_to (left - length c) cs) in
    omega (arith, len, rest, all, e)

-- the first pieces stay, however many there are
pub one_back : (n : ℕ) (ps qs ns : List (List Part)) → n ≤ length ps → ns ≡ ps ++ qs → take n ns ≡ take n ps
one_back n ps qs ns le put = ap (λ (xs : List (List Part)). take n xs) put ∙ take-append-le n ps qs le

-- the piece of one chunk, put behind the others
pub front_put : (ps ns : List (List Part)) (end len : ℕ) (chunk piece : List ℕ) → len ≤ length chunk → 0 < len → piece ≡ take len chunk → ns ≡ ps ++ (((end + len, piece) ∷ []) ∷ []) → ns ≡ ps ++ alone (parts_from end (take len chunk ∷ []))
front_put ps ns end len chunk piece le some e put =
    let count = length-take len chunk in
    let same : end + len ≡ end + length (take len chunk) = omega (arith, count, le) in
    let filled : 0 < length (take len chunk) = omega (arith, count, le, some) in
    put ∙ ap (λ (n : ℕ). ps ++ (((n, piece) ∷ []) ∷ [])) same ∙ ap (λ (bs : List ℕ). ps ++ (((end + length (take len chunk), bs) ∷ []) ∷ [])) e
    ∙ ap (λ (qs : List Part). ps ++ alone qs) (sym (part_is end (take len chunk) filled))

-- ---- as the pieces are seen

-- the pieces of stretches, behind which each of some chunks comes alone
all_put : (ss ns : List (List Part)) (at : ℕ) (cs : List (List ℕ)) → ns ≡ ss ++ alone (parts_from at cs) → pieces_of ns ≡ pieces_of ss ++ parts_from at cs
all_put ss ns at cs put = ap pieces_of put ∙ both_pieces ss (alone (parts_from at cs)) ∙ ap (λ (xs : List Part). pieces_of ss ++ xs) (alone_pieces (parts_from at cs))

pub each_turn_at : (at end last : ℕ) (ss ns : List (List Part)) (cs : List (List ℕ)) → AreInTurn at (pieces_of ss) end → last ≡ end + bytes_of cs → ns ≡ ss ++ alone (parts_from end cs) → AreInTurn at (pieces_of ns) last
each_turn_at at end last ss ns cs h e f = rw (all_put ss ns end cs f, e) (each_turn at end (pieces_of ss) cs h)

pub each_have : (at : ℕ) (ss ns : List (List Part)) (cs : List (List ℕ)) → HavePieces ss → ns ≡ ss ++ alone (parts_from at cs) → HavePieces ns
each_have at ss ns cs have f = rw f (both_have ss (alone (parts_from at cs)) have (alone_have (parts_from at cs)))

pub each_seen_at : (at end : ℕ) (ss ns : List (List Part)) (cs : List (List ℕ)) → AreInTurn at (pieces_of ss) end → ns ≡ ss ++ alone (parts_from end cs) → seen_from at (pieces_of ns) ≡ with_each cs (seen_from at (pieces_of ss))
each_seen_at at end ss ns cs h f = rw (all_put ss ns end cs f) (each_seen at end (pieces_of ss) cs h)

-- and behind which one comes, wherever it is put
pub one_turn_at : (at end last : ℕ) (ss ns : List (List Part)) (c : List ℕ) → AreInTurn at (pieces_of ss) end → HavePieces ss → last ≡ end + length c → IsPut c end ss ns → AreInTurn at (pieces_of ns) last × HavePieces ns
one_turn_at at end last ss ns c h have e put =
    let all = put_pieces at end ss ns c h have put in
    (rw (all.0, e) (one_turn at end (pieces_of ss) c h), all.1)

pub one_seen_at : (at end : ℕ) (ss ns : List (List Part)) (c : List ℕ) → AreInTurn at (pieces_of ss) end → HavePieces ss → IsPut c end ss ns → seen_from at (pieces_of ns) ≡ with_piece c (seen_from at (pieces_of ss))
one_seen_at at end ss ns c h have put = rw (put_pieces at end ss ns c h have put).0 (one_seen at end (pieces_of ss) c h)
