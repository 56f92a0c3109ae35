use Rattle.std.proofs.Common.{◌≡◌, ◌*◌, ◌-◌, ◌≤◌, ◌++◌, map}
use Rattle.quic_machine.specs.Ids.{later_numbers, drawn_ids, with_number}
use Rattle.quic_connection_parts.specs.Drawn.{words_of, after_words}
use Rattle.quic_connection_parts.proofs.ids.issue_later.Given as goal

abbrev pub invariant-loop-sequence : goal.invariant-loop-sequence
invariant-loop-sequence g l = record {
  some : 1 ≤ l.sequence;
  living : l.living.items ≡ l.initial.living.items ++ map with_number (drawn_ids (words_of g.R.Rng.stream l.initial.random) (later_numbers l.sequence));
  waits : l.pending ≡ record l.initial.pending { new_cids = l.initial.pending.new_cids ++ drawn_ids (words_of g.R.Rng.stream l.initial.random) (later_numbers l.sequence) };
  random : g.R.Rng.stream l.random ≡ after_words (3 * (l.sequence - 1)) (g.R.Rng.stream l.initial.random);
}
