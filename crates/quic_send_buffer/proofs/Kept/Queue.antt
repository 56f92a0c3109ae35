-- Stretches one behind the other, as what is kept of a stream.
use Rattle.std.proofs.Common.{◌≡◌, ℕ, ◌+◌, ◌-◌, ◌<◌, ◌≤◌, ◌++◌, length, List, [], ◌∷◌, Some, None, min, leb, sym, ap, ◌∙◌, subst, arith}
use Rattle.std.proofs.lemmas.List.Sums.{sum_by-cons}
use Rattle.std.specs.Prelude.{slice_range}
use Rattle.std.specs.Option.{option_map}
use Rattle.std.specs.List.Sorted.{IsPartitionedBy}
use Rattle.quic_sets.specs.Parts.{Part, start, bytes_of as part_bytes}
use Rattle.quic_send_buffer.specs.Buffered.{passed}
use Rattle.quic_send_buffer.specs.Source.{bytes_of}
use Rattle.quic_send_buffer.specs.KeptBytes.{KeptBytes, AreInTurn, HavePieces, pieces_of, lengths_of, first_start, end_of, last_of, first_behind, ending_behind, stretch_with, piece_with, part_of, alone, parts_from, with_piece, with_each, released_to, IsPut, ArePut}
use Rattle.quic_send_buffer.proofs.Kept.Pieces.{seen_from, release_turn, release_seen, Holds, held, held_none}
use Rattle.quic_send_buffer.proofs.Kept.Stretches.{last_within, first_starts, released_pieces, parts_of, parts_turn, found_piece, found_part}
use Rattle.quic_send_buffer.proofs.Kept.Order.{turn_ordered}
use Rattle.quic_send_buffer.proofs.Kept.Several.{one_turn_at, one_seen_at, each_turn_at, each_seen_at, each_have}

-- from an offset up to another
abbrev pub IsQueue : ℕ → ℕ → List (List Part) → Type 0
IsQueue at end ss = AreInTurn at (pieces_of ss) end × HavePieces ss

-- as they are seen
abbrev pub seen_queue : ℕ → List (List Part) → KeptBytes
seen_queue at ss = seen_from at (pieces_of ss)

-- ---- more comes

pub one_queue : (at end next : ℕ) (ss ns : List (List Part)) (c : List ℕ) → IsQueue at end ss → next ≡ end + length c → IsPut c end ss ns → IsQueue at next ns × (seen_queue at ns ≡ with_piece c (seen_queue at ss))
one_queue at end next ss ns c h e put = (one_turn_at at end next ss ns c h.0 h.1 e put, one_seen_at at end ss ns c h.0 h.1 put)

each_queue : (at end next : ℕ) (ss ns : List (List Part)) (cs : List (List ℕ)) → IsQueue at end ss → next ≡ end + bytes_of cs → ns ≡ ss ++ alone (parts_from end cs) → IsQueue at next ns × (seen_queue at ns ≡ with_each cs (seen_queue at ss))
each_queue at end next ss ns cs h e put = ((each_turn_at at end next ss ns cs h.0 e put, each_have end ss ns cs h.1 put), each_seen_at at end ss ns cs h.0 put)

pub all_queue : (at end next : ℕ) (ss ns : List (List Part)) (cs : List (List ℕ)) → IsQueue at end ss → next ≡ end + bytes_of cs → ArePut cs end ss ns → IsQueue at next ns × (seen_queue at ns ≡ with_each cs (seen_queue at ss))
all_queue at end next ss ns [] h e put = each_queue at end next ss ns [] h e put
all_queue at end next ss ns (c ∷ []) h e put = (let one = sum_by-cons (λ (x : List ℕ). length x) c [] in one_queue at end next ss ns c h (omega (arith, e, one)) put)
all_queue at end next ss ns (c ∷ d ∷ cs) h e put = each_queue at end next ss ns (c ∷ d ∷ cs) h e put

-- the last stretch ends there
pub last_up_to : (at end : ℕ) (ss : List (List Part)) → IsQueue at end ss → end_of (last_of ss) ≤ end
last_up_to at end ss h = last_within at end ss h.0 h.1

-- ---- pieces go

pub released_queue : (at end o from : ℕ) (ss ns : List (List Part)) → IsQueue at end ss → ns ≡ first_behind o (ending_behind o ss) → from ≡ first_start end ns → IsQueue from end ns × (seen_queue from ns ≡ released_to o (seen_queue at ss))
released_queue at end o from ss ns h e f =
    let all = released_pieces at end o ss h.0 h.1 in
    let pieces = ap (λ (xs : List (List Part)). pieces_of xs) e ∙ all.0 in
    let have = subst HavePieces (sym e) all.1 in
    let turn = release_turn at end o (pieces_of ss) (pieces_of ns) h.0 pieces in
    let first = f ∙ first_starts (at + passed (lengths_of (pieces_of ss)) (o - at)) end ns turn have in (
      (subst (λ (n : ℕ). AreInTurn n (pieces_of ns) end) (sym first) turn, have),
      release_seen at end o from (pieces_of ss) (pieces_of ns) h.0 first pieces,
    )

-- ---- the stretch that has an offset

-- where it is found
pub ordered : (at end o : ℕ) (ss : List (List Part)) → IsQueue at end ss → IsPartitionedBy (λ s. leb (end_of s) o) ss
ordered at end o ss h = turn_ordered at end o ss (parts_turn at end ss h.0 h.1)

-- its piece
pub held_piece : (at end o : ℕ) (ss : List (List Part)) (p : Part) → IsQueue at end ss → at ≤ o → Some p ≡ piece_with o ss → Holds at end o (pieces_of ss) p
held_piece at end o ss p h le e = held at end o (pieces_of ss) p h.0 le (found_piece at end o ss h.0 h.1 ∙ sym e)

-- all of it
pub held_stretch : (at end o : ℕ) (ss : List (List Part)) (p : Part) → IsQueue at end ss → at ≤ o → Some p ≡ option_map part_of (stretch_with o ss) → Holds at end o (parts_of ss) p
held_stretch at end o ss p h le e = held at end o (parts_of ss) p (parts_turn at end ss h.0 h.1) le (found_part o ss ∙ sym e)

-- none has it
pub piece_nowhere : (at end o : ℕ) (ss : List (List Part)) → IsQueue at end ss → at ≤ o → None ≡ piece_with o ss → end ≤ o
piece_nowhere at end o ss h le e = held_none at end o (pieces_of ss) h.0 le (found_piece at end o ss h.0 h.1 ∙ sym e)

pub stretch_nowhere : (at end o : ℕ) (ss : List (List Part)) → IsQueue at end ss → at ≤ o → None ≡ option_map part_of (stretch_with o ss) → end ≤ o
stretch_nowhere at end o ss h le e = held_none at end o (parts_of ss) (parts_turn at end ss h.0 h.1) le (found_part o ss ∙ sym e)

-- ---- what is given of it

pub cut_bytes : (at end o e : ℕ) (ps : List Part) (p : Part) (bytes all : List ℕ) → Holds at end o ps p → o ≤ e → bytes ≡ slice_range p.1 (o - start p) (min e p.0 - start p) → o + length bytes ≡ min e p.0 → part_bytes ps ≡ all
    → bytes ≡ slice_range all (o - at) (o + length bytes - at)
cut_bytes at end o e ps p bytes all h le is len same =
    let above = h.above in
    is ∙ h.same (min e p.0) (omega (arith, le, above)) (omega arith)
    ∙ ap (λ (n : ℕ). slice_range (part_bytes ps) (o - at) (n - at)) (sym len)
    ∙ ap (λ (xs : List ℕ). slice_range xs (o - at) (o + length bytes - at)) same

pub cut_some : (at end o e : ℕ) (ps : List Part) (p : Part) (bytes : List ℕ) → Holds at end o ps p → o + length bytes ≡ min e p.0 → o < e → 0 < length bytes
cut_some at end o e ps p bytes h len lt = let above = h.above in omega (arith, above, len, lt)
