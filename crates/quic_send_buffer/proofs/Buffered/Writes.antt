-- Which writes a send buffer keeps after calls, and with which bytes.
use Rattle.std.proofs.Common.{◌≡◌, ℕ, ◌+◌, ◌-◌, ◌<◌, ◌≤◌, true, false, List, [], ◌∷◌, ◌++◌, length, drop, append_assoc, refl, sym, ap, subst, inl, inr, arith, ◌∙◌}
use Rattle.std.proofs.lemmas.Bool.{cases_lt, le-leb, lt-leb}
use Rattle.std.proofs.lemmas.List.{drop-drop, drop-append-le}
use Rattle.quic_send_buffer.specs.Buffered.{ReachPast, bytes_in, first_unacknowledged, piece_of, passed, pieces_behind, done, acknowledged}
use Rattle.quic_send_buffer.specs.BufferedHistory.{Call, wrote, acked, lost, polled, buffered_after, written_over, writes_of, was_acked}
use Rattle.quic_sets.proofs.Offsets.Edits.{has_from, has_not, below_first, first_lacks}
use Rattle.quic_send_buffer.proofs.Buffered.History.{Fits, fewer, lawful, all_written, acked_is}

-- ---- pieces

both_bytes_in : (ns ms : List ℕ) → bytes_in (ns ++ ms) ≡ bytes_in ns + bytes_in ms
both_bytes_in [] ms = omega arith
both_bytes_in (n ∷ ns) ms = let rest = both_bytes_in ns ms in omega (arith, rest)

-- the pieces that are dropped come before those that stay
passed_first : (ns : List ℕ) (room : ℕ) → (gone : List ℕ) × (ns ≡ gone ++ pieces_behind ns room) × (passed ns room ≡ bytes_in gone)
passed_first [] room = ([], refl, refl)
passed_first (n ∷ ns) room = elim (cases_lt room n) [
  | inl lt ↦ rw (lt-leb n room lt) ([], refl, refl)
  | inr le ↦ rw (le-leb n room le) (let rest = passed_first ns (room - n) in (n ∷ rest.0, ap (λ (ms : List ℕ). n ∷ ms) rest.1, ap (λ k. n + k) rest.2))
]

-- ---- after calls

pub last_writes : (calls : List Call) → (before : List ℕ) × (writes_of calls ≡ before ++ (buffered_after calls).pieces) × ((buffered_after calls).base ≡ bytes_in before)
last_writes [] = ([], refl, refl)
last_writes (wrote bytes ∷ calls) =
    let b = buffered_after calls in
    let ih = last_writes calls in
    let more = piece_of (length bytes) in
    (ih.0, ap (λ (ns : List ℕ). ns ++ piece_of (length bytes)) ih.1 ∙ append_assoc ih.0 b.pieces (piece_of (length bytes)), ih.2)
last_writes (acked a z ∷ calls) =
    let b = acknowledged (buffered_after calls) a z in
    let ih = last_writes calls in
    let cut = passed_first b.pieces (first_unacknowledged b - b.base) in
    let all = both_bytes_in ih.0 cut.0 in
    let base = ih.2 in
    let count = cut.2 in (
      ih.0 ++ cut.0,
      ih.1 ∙ ap (λ (ns : List ℕ). ih.0 ++ ns) cut.1 ∙ sym (append_assoc ih.0 cut.0 (pieces_behind b.pieces (first_unacknowledged b - b.base))),
      omega (arith, all, base, count),
    )
last_writes (lost a z ∷ calls) = last_writes calls
last_writes (polled most ∷ calls) = last_writes calls

pub last_bytes : (calls : List Call) → Fits calls → (buffered_after calls).kept ≡ drop (buffered_after calls).base (written_over calls)
last_bytes [] s = refl
last_bytes (wrote bytes ∷ calls) s =
    let b = buffered_after calls in
    let all = all_written calls (fewer calls bytes s) in
    ap (λ (bs : List ℕ). bs ++ bytes) (last_bytes calls (fewer calls bytes s)) ∙ sym (drop-append-le b.base (written_over calls) bytes (omega (arith, all)))
last_bytes (acked a z ∷ calls) s =
    let b = acknowledged (buffered_after calls) a z in
    ap (λ (bs : List ℕ). drop (done b) bs) (last_bytes calls s) ∙ drop-drop (done b) b.base (written_over calls)
last_bytes (lost a z ∷ calls) s = last_bytes calls s
last_bytes (polled most ∷ calls) s = last_bytes calls s

pub whole_pieces : (calls : List Call) → Fits calls → length (buffered_after calls).kept ≡ bytes_in (buffered_after calls).pieces
whole_pieces calls s = sym (lawful calls s).whole

pub dropped_acked : (calls : List Call) (o : ℕ) → Fits calls → o < (buffered_after calls).base → was_acked calls o ≡ true
dropped_acked calls o s lt =
    let b = buffered_after calls in
    let h = lawful calls s in
    let begun = h.begun in
    sym (acked_is calls o s) ∙ has_from b.acked o (below_first b.acked o h.acked (omega (arith, lt, begun)))

pub first_needed : (calls : List Call) (n : ℕ) (ns : List ℕ) → Fits calls → (buffered_after calls).pieces ≡ n ∷ ns
    → (o : ℕ) × ((buffered_after calls).base ≤ o) × (o < (buffered_after calls).base + n) × (was_acked calls o ≡ false)
first_needed calls n ns s e =
    let b = buffered_after calls in
    let h = lawful calls s in
    let first = first_unacknowledged b in
    let begun = h.begun in
    let past : first_unacknowledged b - b.base < n = subst (λ (ps : List ℕ). ReachPast (first_unacknowledged b - b.base) ps) e h.needed in
    (first, begun, omega (arith, past, begun), sym (acked_is calls first s) ∙ has_not b.acked first (first_lacks b.acked h.acked))
