use Rattle.std.proofs.Common.{◌≡◌, ◌≤◌, ◌-◌, ◌&&◌, ◌||◌, not, ℕ}
use Rattle.quic_sets.specs.Parts.{undone}
use Rattle.quic_sets.specs.Spans.{in_span, in_spans}
use Rattle.quic_sets.specs.Loose.{AreLoose, TouchWithin}
use Rattle.quic_sets.proofs.offset_set.fill_lacking.Given as goal

abbrev pub invariant-loop-at : goal.invariant-loop-at
invariant-loop-at l = record {
  above : l.start ≤ l.at;
  within : l.at ≤ l.end;
  loose : AreLoose l.spans.entries;
  offsets : (o : ℕ) → in_spans l.spans.entries o ≡ (in_spans l.fn.spans.entries o || (in_span o (l.at, l.start) && not (in_spans l.others.entries o)));
  touch : TouchWithin l.fn.spans.entries l.spans.entries l.start l.at;
  back : undone l.ends.items l.spans.entries ≡ undone l.fn.ends.items l.fn.spans.entries;
}

abbrev pub decreases-loop-at : goal.decreases-loop-at
decreases-loop-at l = l.end - l.at
