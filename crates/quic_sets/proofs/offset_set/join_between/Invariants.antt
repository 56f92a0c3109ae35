use Rattle.std.proofs.Common.{◌≡◌, ◌<◌, ◌≤◌, ◌-◌, ℕ, true}
use Rattle.quic_sets.specs.Spans.{in_spans}
use Rattle.quic_sets.specs.Loose.{AreLoose, touches}
use Rattle.quic_sets.proofs.offset_set.join_between.Given as goal

abbrev pub invariant-loop-next : goal.invariant-loop-next
invariant-loop-next l = record {
  within : l.at ≤ l.end;
  loose : AreLoose l.spans.entries;
  same : (o : ℕ) → in_spans l.spans.entries o ≡ in_spans l.fn.spans.entries o;
  touch : (o : ℕ) → touches o l.spans.entries ≡ true → (l.at < o) × (o ≤ l.end);
}

abbrev pub decreases-loop-next : goal.decreases-loop-next
decreases-loop-next l = l.end - l.at
