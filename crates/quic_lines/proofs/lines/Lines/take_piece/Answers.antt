use Rattle.std.proofs.Common.{ℕ, ◌+◌, ◌-◌, ◌≤◌, List, ◌∷◌, ◌++◌, take, drop, sym, ap, ◌∙◌, arith, length-take}
use Rattle.std.specs.Prelude.{slice_range}
use Rattle.quic_lines.proofs.Taking.{first_feed, no_feed, moves_whole, moves_all, drop-range, range_none}
use Rattle.quic_lines.proofs.lines.Lines.take_piece.Goals as goal

pub returns-in_ok-extend_from_slice-in-Some-clause-moved : goal.returns-in_ok-extend_from_slice-in-Some-clause-moved
returns-in_ok-extend_from_slice-in-Some-clause-moved g c =
    let lines = c.args.self.now in
    let unread = slice_range lines.chunk.items lines.start lines.end in
    let found = first_feed unread c.in-Some.length (sym (rw c.deref.ensures.value at c.in-Some.ensures)) in
    let size = length-take (lines.end - lines.start) (drop lines.start lines.chunk.items) in
    let fits : lines.start + (c.in-Some.length + 1) ≤ lines.end = omega (arith, found.0, size) in
    let rest = drop-range (c.in-Some.length + 1) lines.start lines.end lines.chunk.items fits in
    let parts = found.2 ∙ ap (λ (r : List ℕ). take c.in-Some.length unread ++ (10 ∷ r)) rest in
    moves_whole (g.R.Read.remaining lines.reader) unread _ c.args.line.now.items _ (take c.in-Some.length unread) found.1 parts (rw c.deref.ensures.value at c.in_ok-extend_from_slice-in-Some.ensures.items)

pub returns-in_ok-extend_from_slice-in-None-clause-moved : goal.returns-in_ok-extend_from_slice-in-None-clause-moved
returns-in_ok-extend_from_slice-in-None-clause-moved g c =
    let lines = c.args.self.now in
    let unread = slice_range lines.chunk.items lines.start lines.end in
    let whole = no_feed unread (sym (rw c.deref.ensures.value at c.in-None.ensures)) in
    moves_all (g.R.Read.remaining lines.reader) unread _ c.args.line.now.items _ whole (range_none lines.end lines.chunk.items) (rw c.deref.ensures.value at c.in_ok-extend_from_slice-in-None.ensures.items)
