use Rattle.std.proofs.Common.{◌≡◌, ℕ, length, true, false}
use Rattle.quic_sets.specs.Spans.{in_span, in_spans, next_span}
use Rattle.quic_sets.specs.Loose.{AreLoose, IsCut, touches}
use Rattle.quic_sets.proofs.offset_set.drop_inside.Given as goal

abbrev pub invariant-loop-last : goal.invariant-loop-last
invariant-loop-last l = record {
  loose : AreLoose l.spans.entries;
  cut : IsCut l.start (next_span l.start l.spans.entries);
  touch : (o : ℕ) → touches o l.spans.entries ≡ true → touches o l.fn.spans.entries ≡ true;
  out : (o : ℕ) → in_span o (l.end, l.start) ≡ false → in_spans l.spans.entries o ≡ in_spans l.fn.spans.entries o;
}

abbrev pub decreases-loop-last : goal.decreases-loop-last
decreases-loop-last l = length l.spans.entries
