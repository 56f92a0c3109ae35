use Rattle.std.proofs.Common.{drop, map, refl, ap, ◌∙◌, inr}
use Rattle.quic_sets.specs.Pieces.{cut}
use Rattle.quic_sets.proofs.PieceSteps.{starting, cut_is, pieces_numbers, pieces_runs}
use Rattle.quic_sets.proofs.range_set.RangeSet.replace.Goals as goal

pub returns-in-Ok : goal.returns-in-Ok
returns-in-Ok c =
    let rest = c.in-Ok.range in
    let set = c.begin.new.self in (
      refl,
      record {
        unchanged_at_error = tt;
        same_reference = refl;
        pieces = ap (λ at. map (cut rest.start rest.end) (starting rest.end (drop at set))) c.place_behind-at.ensures.place ∙ cut_is rest.start rest.end set c.place_behind-at.ensures.runs c.in-Ok.ensures.rest ∙ c.in-Ok.ensures.pieces;
        numbers = pieces_numbers c.args.range.start c.args.range.end c.args.self.now;
        ascending = pieces_runs 0 c.args.range.start c.args.range.end c.args.self.now c.begin.ensures.known;
        left = c.in-Ok.ensures.left;
        runs = c.in-Ok.ensures.runs;
        empty = λ le. refl;
      },
    )

pub returns-in-Err : goal.returns-in-Err
returns-in-Err c = (
  ap inr c.in-Err.ensures.err,
  record {
    unchanged_at_error = tt;
    same_reference = tt;
    pieces = tt;
    numbers = pieces_numbers c.args.range.start c.args.range.end c.args.self.now;
    ascending = pieces_runs 0 c.args.range.start c.args.range.end c.args.self.now c.begin.ensures.known;
    left = tt;
    runs = tt;
    empty = c.in-Err.ensures.empty;
  },
)
