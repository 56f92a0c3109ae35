use Rattle.std.proofs.Common.{◌≡◌, ◌*◌, drop}
use Rattle.quic_ids.specs.CidState.{Rise}
use Rattle.quic_machine.specs.Ids.{drawn_places}
use Rattle.quic_connection_parts.specs.Drawn.{words_of, after_words}
use Rattle.quic_connection_parts.proofs.Living.{numbers_of}
use Rattle.quic_connection_parts.proofs.ids.draw_all.Given as goal

abbrev pub invariant-loop-place : goal.invariant-loop-place
invariant-loop-place g l = record {
  places : drawn_places (drop l.place-index l.places) (words_of g.R.Rng.stream l.random) (record { living = l.living.items; waiting = l.pending.new_cids })
      ≡ drawn_places l.places (words_of g.R.Rng.stream l.initial.random) (record { living = l.initial.living.items; waiting = l.initial.pending.new_cids });
  waits : l.pending ≡ record l.initial.pending { new_cids = l.pending.new_cids };
  rise : Rise (numbers_of l.living.items) 0;
  random : g.R.Rng.stream l.random ≡ after_words (3 * l.place-index) (g.R.Rng.stream l.initial.random);
}
