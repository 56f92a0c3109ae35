use Rattle.std.proofs.Common.{◌≡◌, ℕ, ◌+◌, ◌-◌, ◌≤◌, refl, ap, sym, subst, ◌∙◌, arith, length, min}
use Rattle.std.specs.Prelude.{slice_range}
use Rattle.quic_sets.specs.Parts.{bytes_of}
use Rattle.quic_send_buffer.specs.KeptBytes.{KeptBytes, lengths_of, pieces_of}
use Rattle.quic_send_buffer.specs.Buffered.{piece_end}
use Rattle.quic_send_buffer.proofs.Kept.Pieces.{end_is, past_end}
use Rattle.quic_send_buffer.proofs.Kept.Queue.{ordered, held_piece, piece_nowhere, cut_bytes, cut_some}
use Rattle.quic_send_buffer.proofs.send_buffer.pieces.Pieces.get.Goals as goal

pub piece-requires : goal.piece-requires
piece-requires c = let v = c.self.inside in ordered v.base v.end c.args.offsets.start v.queue (c.self.invariant.0, c.self.invariant.1)

pub cut-requires-clause-placed : goal.cut-requires-clause-placed
cut-requires-clause-placed c =
    let v = c.self.inside in
    let le = subst (λ (k : KeptBytes). k.base ≤ c.args.offsets.start) (sym c.self.view_is) c.requires.kept in
    let h = held_piece v.base v.end c.args.offsets.start v.queue (c.in-Some.end, c.in-Some.piece.now) (c.self.invariant.0, c.self.invariant.1) le c.in-Some.ensures in
    let whole = h.whole in
    omega (arith, whole)

pub cut-requires-clause-begun : goal.cut-requires-clause-begun
cut-requires-clause-begun c =
    let v = c.self.inside in
    let le = subst (λ (k : KeptBytes). k.base ≤ c.args.offsets.start) (sym c.self.view_is) c.requires.kept in
    let h = held_piece v.base v.end c.args.offsets.start v.queue (c.in-Some.end, c.in-Some.piece.now) (c.self.invariant.0, c.self.invariant.1) le c.in-Some.ensures in
    h.from

pub cut-requires-clause-above : goal.cut-requires-clause-above
cut-requires-clause-above c =
    let v = c.self.inside in
    let le = subst (λ (k : KeptBytes). k.base ≤ c.args.offsets.start) (sym c.self.view_is) c.requires.kept in
    let h = held_piece v.base v.end c.args.offsets.start v.queue (c.in-Some.end, c.in-Some.piece.now) (c.self.invariant.0, c.self.invariant.1) le c.in-Some.ensures in
    h.above

pub returns-in-Some-clause-bytes : goal.returns-in-Some-clause-bytes
returns-in-Some-clause-bytes c =
    let v = c.self.inside in
    let le = subst (λ (k : KeptBytes). k.base ≤ c.args.offsets.start) (sym c.self.view_is) c.requires.kept in
    let h = held_piece v.base v.end c.args.offsets.start v.queue (c.in-Some.end, c.in-Some.piece.now) (c.self.invariant.0, c.self.invariant.1) le c.in-Some.ensures in
    let same = cut_bytes v.base v.end c.args.offsets.start c.args.offsets.end (pieces_of v.queue) (c.in-Some.end, c.in-Some.piece.now) c.cut.result.now (bytes_of (pieces_of v.queue)) h c.requires.ordered c.cut.ensures.bytes c.cut.ensures.len refl in
    subst (λ (k : KeptBytes). c.cut.result.now ≡ slice_range k.bytes (c.args.offsets.start - k.base) (c.args.offsets.start + length c.cut.result.now - k.base)) c.self.view_is same

pub returns-in-Some-clause-some : goal.returns-in-Some-clause-some
returns-in-Some-clause-some c = λ lt.
    let v = c.self.inside in
    let le = subst (λ (k : KeptBytes). k.base ≤ c.args.offsets.start) (sym c.self.view_is) c.requires.kept in
    let h = held_piece v.base v.end c.args.offsets.start v.queue (c.in-Some.end, c.in-Some.piece.now) (c.self.invariant.0, c.self.invariant.1) le c.in-Some.ensures in
    cut_some v.base v.end c.args.offsets.start c.args.offsets.end (pieces_of v.queue) (c.in-Some.end, c.in-Some.piece.now) c.cut.result.now h c.cut.ensures.len lt

pub returns-in-None-clause-some : goal.returns-in-None-clause-some
returns-in-None-clause-some c = λ lt.
    let v = c.self.inside in
    let le = subst (λ (k : KeptBytes). k.base ≤ c.args.offsets.start) (sym c.self.view_is) c.requires.kept in
    let none = piece_nowhere v.base v.end c.args.offsets.start v.queue (c.self.invariant.0, c.self.invariant.1) le c.in-None.ensures in
    let ends = end_is v.base v.end (pieces_of v.queue) c.self.invariant.0 in
    let bounded = subst (λ (k : KeptBytes). c.args.offsets.end ≤ k.base + length k.bytes) (sym c.self.view_is) c.requires.bounded in
    absurd (omega (arith, none, ends, bounded, lt))

pub returns-in-Some-clause-end : goal.returns-in-Some-clause-end
returns-in-Some-clause-end c =
    let v = c.self.inside in
    let le = subst (λ (k : KeptBytes). k.base ≤ c.args.offsets.start) (sym c.self.view_is) c.requires.kept in
    let h = held_piece v.base v.end c.args.offsets.start v.queue (c.in-Some.end, c.in-Some.piece.now) (c.self.invariant.0, c.self.invariant.1) le c.in-Some.ensures in
    let same = c.cut.ensures.len ∙ ap (λ (n : ℕ). min c.args.offsets.end n) h.ends in
    subst (λ (k : KeptBytes). c.args.offsets.start + length c.cut.result.now ≡ min c.args.offsets.end (piece_end k.base k.lengths c.args.offsets.start)) c.self.view_is same

pub returns-in-None-clause-end : goal.returns-in-None-clause-end
returns-in-None-clause-end c =
    let v = c.self.inside in
    let le = subst (λ (k : KeptBytes). k.base ≤ c.args.offsets.start) (sym c.self.view_is) c.requires.kept in
    let none = piece_nowhere v.base v.end c.args.offsets.start v.queue (c.self.invariant.0, c.self.invariant.1) le c.in-None.ensures in
    let ends = end_is v.base v.end (pieces_of v.queue) c.self.invariant.0 in
    let bounded = subst (λ (k : KeptBytes). c.args.offsets.end ≤ k.base + length k.bytes) (sym c.self.view_is) c.requires.bounded in
    let past = past_end v.base v.end c.args.offsets.start (pieces_of v.queue) c.self.invariant.0 none in
    let rising = c.requires.ordered in
    let same : c.args.offsets.start + 0 ≡ min c.args.offsets.end (piece_end v.base (lengths_of (pieces_of v.queue)) c.args.offsets.start) = omega (arith, past, rising, none, ends, bounded) in
    subst (λ (k : KeptBytes). c.args.offsets.start + 0 ≡ min c.args.offsets.end (piece_end k.base k.lengths c.args.offsets.start)) c.self.view_is same
