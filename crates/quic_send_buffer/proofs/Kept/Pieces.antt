-- The bytes that are kept of a stream, by the pieces that they stand in.
use Rattle.std.proofs.Common.{◌≡◌, ℕ, ◌+◌, ◌-◌, ◌<◌, ◌≤◌, ◌++◌, ltb, leb, cond, length, drop, List, [], ◌∷◌, Bool, true, false, Some, None, refl, sym, ap, ◌∙◌, subst, arith, length-append, inl, inr, ◌==◌}
use Rattle.std.specs.Prelude.{slice_range}
use Rattle.std.proofs.lemmas.Bool.{cases_lt, cases_Bool, le-leb, lt-leb, lt-ltb, le-ltb, ltb-true, ltb-false, eqb-true}
use Rattle.std.proofs.lemmas.List.{append_assoc, append-nil}
use Rattle.std.proofs.Math.Seq.{drop-append-add}
use Rattle.quic_sets.specs.Parts.{Part, start, after, bytes_of}
use Rattle.quic_send_buffer.specs.Buffered.{passed, pieces_behind, piece_of, piece_end}
use Rattle.quic_send_buffer.specs.KeptBytes.{KeptBytes, AreInTurn, lengths_of, with_piece, released_to, behind}
use Rattle.quic_send_buffer.proofs.Kept.Ranges.{within_first, within_second}

-- pieces as they are seen
abbrev pub seen_from : ℕ → List Part → KeptBytes
seen_from at ps = record { base = at; bytes = bytes_of ps; lengths = lengths_of ps }

-- ---- where they end

pub end_is : (at end : ℕ) (ps : List Part) → AreInTurn at ps end → at + length (bytes_of ps) ≡ end
end_is at end [] h = omega (arith, h)
end_is at end (p ∷ ps) h =
    let rest = end_is p.0 end ps h.2 in
    let len = length-append p.1 (bytes_of ps) in
    let here = h.0 in
    omega (arith, rest, len, here)

-- ---- one more piece

pub more_in_turn : (at end : ℕ) (ps : List Part) (bytes : List ℕ) → AreInTurn at ps end → 0 < length bytes → AreInTurn at (ps ++ ((end + length bytes, bytes) ∷ [])) (end + length bytes)
more_in_turn at end [] bytes h some = (omega (arith, h), some, refl)
more_in_turn at end (p ∷ ps) bytes h some = (h.0, h.1, more_in_turn p.0 end ps bytes h.2 some)

more_bytes : (ps : List Part) (q : Part) → bytes_of (ps ++ (q ∷ [])) ≡ bytes_of ps ++ q.1
more_bytes [] q = append-nil q.1
more_bytes (p ∷ ps) q = ap (λ (z : List ℕ). p.1 ++ z) (more_bytes ps q) ∙ sym (append_assoc p.1 (bytes_of ps) q.1)

more_lengths : (ps : List Part) (q : Part) → lengths_of (ps ++ (q ∷ [])) ≡ lengths_of ps ++ (length q.1 ∷ [])
more_lengths [] q = refl
more_lengths (p ∷ ps) q = ap (λ (z : List ℕ). length p.1 ∷ z) (more_lengths ps q)

one_piece : (n : ℕ) → 0 < n → n ∷ [] ≡ piece_of n
one_piece n some = elim (cases_Bool (n == 0)) [
  | inl is ↦ (let none = eqb-true n 0 is in absurd (omega (arith, none, some)))
  | inr isnt ↦ rw isnt refl
]

pub push_seen : (at next : ℕ) (ps ns : List Part) (bytes : List ℕ) → 0 < length bytes → ns ≡ ps ++ ((next, bytes) ∷ []) → seen_from at ns ≡ with_piece bytes (seen_from at ps)
push_seen at next ps ns bytes some f =
    let q : Part = (next, bytes) in
    ap (λ (qs : List Part). seen_from at qs) f
    ∙ ap (λ (bs : List ℕ). let x : KeptBytes = record { base = at; bytes = bs; lengths = lengths_of (ps ++ (q ∷ [])) } in x) (more_bytes ps q)
    ∙ ap (λ (ls : List ℕ). let x : KeptBytes = record { base = at; bytes = bytes_of ps ++ bytes; lengths = ls } in x) (more_lengths ps q ∙ ap (λ (ls : List ℕ). lengths_of ps ++ ls) (one_piece (length bytes) some))

-- ---- pieces go

-- how the release of pieces shows
abbrev IsReleased : ℕ → ℕ → ℕ → List Part → Type 0
IsReleased at end o ps =
    AreInTurn (at + passed (lengths_of ps) (o - at)) (behind o ps) end
    × (bytes_of (behind o ps) ≡ drop (passed (lengths_of ps) (o - at)) (bytes_of ps))
    × (lengths_of (behind o ps) ≡ pieces_behind (lengths_of ps) (o - at))

released : (at end o : ℕ) (ps : List Part) → AreInTurn at ps end → IsReleased at end o ps
released at end o [] h = (omega (arith, h), refl, refl)
released at end o (p ∷ ps) h =
    let here = h.0 in
    let some = h.1 in
    elim (cases_lt o p.0) [
      | inl lt ↦
          let stays : leb p.0 o ≡ false = lt-leb p.0 o lt in
          let long : leb (length p.1) (o - at) ≡ false = lt-leb (length p.1) (o - at) (omega (arith, here, lt, some)) in
          rw (stays, long) ((omega (arith, here), some, h.2), refl, refl)
      | inr le ↦
          let goes : leb p.0 o ≡ true = le-leb p.0 o le in
          let short : leb (length p.1) (o - at) ≡ true = le-leb (length p.1) (o - at) (omega (arith, here, le)) in
          let left : o - at - length p.1 ≡ o - p.0 = omega (arith, here) in
          let rest = released p.0 end o ps h.2 in
          let base : p.0 + passed (lengths_of ps) (o - p.0) ≡ at + (length p.1 + passed (lengths_of ps) (o - p.0)) = omega (arith, here) in
          rw (goes, short, left) (subst (λ (n : ℕ). AreInTurn n (behind o ps) end) base rest.0, rest.1 ∙ sym (drop-append-add p.1 (bytes_of ps) (passed (lengths_of ps) (o - p.0))), rest.2)
    ]

-- as the pieces are seen, by where those begin that are left
pub release_turn : (at end o : ℕ) (ps ns : List Part) → AreInTurn at ps end → ns ≡ behind o ps → AreInTurn (at + passed (lengths_of ps) (o - at)) ns end
release_turn at end o ps ns h f = rw f (released at end o ps h).0

pub release_seen : (at end o from : ℕ) (ps ns : List Part) → AreInTurn at ps end → from ≡ at + passed (lengths_of ps) (o - at) → ns ≡ behind o ps → seen_from from ns ≡ released_to o (seen_from at ps)
release_seen at end o from ps ns h e f =
    let all = released at end o ps h in
    let gone = passed (lengths_of ps) (o - at) in
    ap (λ (n : ℕ). seen_from n ns) e
    ∙ ap (λ (qs : List Part). seen_from (at + gone) qs) f
    ∙ ap (λ (bs : List ℕ). let x : KeptBytes = record { base = at + gone; bytes = bs; lengths = lengths_of (behind o ps) } in x) all.1
    ∙ ap (λ (ls : List ℕ). let x : KeptBytes = record { base = at + gone; bytes = drop gone (bytes_of ps); lengths = ls } in x) all.2

-- ---- the piece that has an offset

pub record Holds (at end o : ℕ) (ps : List Part) (p : Part) : Type 0 where
  pub whole : start p + length p.1 ≡ p.0
  pub from : start p ≤ o
  pub above : o < p.0
  pub within : p.0 ≤ end
  pub ends : p.0 ≡ piece_end at (lengths_of ps) o
  pub same : (e : ℕ) → o ≤ e → e ≤ p.0 → slice_range p.1 (o - start p) (e - start p) ≡ slice_range (bytes_of ps) (o - at) (e - at)

pub held : (at end o : ℕ) (ps : List Part) (p : Part) → AreInTurn at ps end → at ≤ o → after o ps ≡ Some p → Holds at end o ps p
held at end o [] p h le e = cc
held at end o (q ∷ ps) p h le e = go (ltb o q.0) refl e (λ k. held q.0 end o ps p h.2 k)
  where
    go : (b : Bool) → ltb o q.0 ≡ b → cond b (Some q) (after o ps) ≡ Some p → (q.0 ≤ o → after o ps ≡ Some p → Holds q.0 end o ps p) → Holds at end o (q ∷ ps) p
    go true t e ih =
        let same : q ≡ p = cc in
        let here = h.0 in
        let last = end_is q.0 end ps h.2 in
        let above = ltb-true o q.0 t in
        let first : start q ≡ at = omega (arith, here) in
        let in_piece : ltb o (at + length q.1) ≡ true = lt-ltb o (at + length q.1) (omega (arith, above, here)) in
        subst (λ (x : Part). Holds at end o (q ∷ ps) x) same (record {
          whole = omega (arith, here);
          from = omega (arith, here, le);
          above = above;
          within = omega (arith, last);
          ends = sym here ∙ sym (ap (λ (b : Bool). cond b (at + length q.1) (piece_end (at + length q.1) (lengths_of ps) o)) in_piece);
          same = λ e oe el. ap (λ (n : ℕ). slice_range q.1 (o - n) (e - n)) first ∙ within_first q.1 (bytes_of ps) (o - at) (e - at) (omega (arith, oe)) (omega (arith, el, here));
        })
    go false t e ih =
        let above = ltb-false o q.0 t in
        let here = h.0 in
        let rest = ih above e in
        let lower : o - q.0 ≡ o - at - length q.1 = omega (arith, here) in
        record {
          whole = rest.whole;
          from = rest.from;
          above = rest.above;
          within = rest.within;
          ends = rest.ends ∙ ap (λ (n : ℕ). piece_end n (lengths_of ps) o) (sym here) ∙ sym (ap (λ (b : Bool). cond b (at + length q.1) (piece_end (at + length q.1) (lengths_of ps) o)) (le-ltb o (at + length q.1) (omega (arith, above, here))));
          same = λ e oe el. (let upper : e - q.0 ≡ e - at - length q.1 = omega (arith, here) in
              rest.same e oe el ∙ ap (λ (n : ℕ). slice_range (bytes_of ps) n (e - q.0)) lower ∙ ap (λ (n : ℕ). slice_range (bytes_of ps) (o - at - length q.1) n) upper
              ∙ within_second q.1 (bytes_of ps) (o - at) (e - at) (omega (arith, here, above)) (omega (arith, oe)));
        }

pub held_none : (at end o : ℕ) (ps : List Part) → AreInTurn at ps end → at ≤ o → after o ps ≡ None → end ≤ o
held_none at end o [] h le e = omega (arith, h, le)
held_none at end o (q ∷ ps) h le e = go (ltb o q.0) refl e (λ k. held_none q.0 end o ps h.2 k)
  where
    go : (b : Bool) → ltb o q.0 ≡ b → cond b (Some q) (after o ps) ≡ None → (q.0 ≤ o → after o ps ≡ None → end ≤ o) → end ≤ o
    go true t e ih = cc
    go false t e ih = ih (ltb-false o q.0 t) e

-- none has an offset behind them
pub past_end : (at end o : ℕ) (ps : List Part) → AreInTurn at ps end → end ≤ o → piece_end at (lengths_of ps) o ≡ o
past_end at end o [] h le = refl
past_end at end o (p ∷ ps) h le =
    let here = h.0 in
    let last = end_is p.0 end ps h.2 in
    let past : ltb o (at + length p.1) ≡ false = le-ltb o (at + length p.1) (omega (arith, here, last, le)) in
    ap (λ (b : Bool). cond b (at + length p.1) (piece_end (at + length p.1) (lengths_of ps) o)) past ∙ ap (λ (n : ℕ). piece_end n (lengths_of ps) o) here ∙ past_end p.0 end o ps h.2 le
