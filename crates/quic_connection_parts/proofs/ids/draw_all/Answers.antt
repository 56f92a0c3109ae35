use Rattle.std.specs.Prelude.{slice_get, slice_index_or}
use Rattle.std.proofs.Common.{◌≡◌, ◌*◌, ℕ, List, length, sym, ap, ◌∙◌, arith}
use Rattle.quic_wire_core.specs.declared.shared.IssuedCid.{IssuedCid}
use Rattle.quic_retransmits.specs.Retransmits.{Retransmits}
use Rattle.quic_machine.specs.Ids.{Drawing, drawn_one}
use Rattle.quic_connection_parts.specs.Drawn.{words_of, after_words}
use Rattle.quic_connection_parts.proofs.Issued.{places_next, places_random, places_end}
use Rattle.quic_connection_parts.proofs.ids.draw_all.Goals as goal

-- the same, where these ids wait to be told
abbrev with_waiting : Retransmits → List IssuedCid → Retransmits
with_waiting r cids = record r { new_cids = cids }

pub loop-place-preserved : goal.loop-place-preserved
loop-place-preserved g c =
    let stream = g.R.Rng.stream in
    let l = c.loop-place in
    let i = l.invariant in
    let e = c.draw_one.ensures in
    let place : ℕ = slice_index_or c.args.places.now l.place-index 0 in
    let d : Drawing = record { living = l.living.items; waiting = l.pending.new_cids } in
    let x : Drawing = record { living = c.draw_one.new.living.items; waiting = c.draw_one.new.pending.new_cids } in
    let is : x ≡ drawn_one (slice_get d.waiting place) place (words_of stream l.random) d = λ k. record { living = e.living k; waiting = (e.waits k).new_cids } in
    record {
      places = places_next stream l.random c.draw_one.new.random c.args.places.now l.place-index d x c.loop-place-test.true e.random is ∙ i.places;
      waits = ap (λ (r : Retransmits). with_waiting r c.draw_one.new.pending.new_cids) e.waits ∙ (ap (λ (r : Retransmits). with_waiting r c.draw_one.new.pending.new_cids) i.waits);
      rise = e.rise;
      random = places_random stream c.args.random.now l.random c.draw_one.new.random l.place-index i.random e.random;
    }

pub returns-clause-living : goal.returns-clause-living
returns-clause-living g c =
    let l = c.loop-place in
    ap (λ (d : Drawing). d.living) (sym (places_end c.args.places.now l.place-index (words_of g.R.Rng.stream l.random) (record { living = l.living.items; waiting = l.pending.new_cids }) (omega arith)) ∙ l.invariant.places)

pub returns-clause-waits : goal.returns-clause-waits
returns-clause-waits g c =
    let l = c.loop-place in
    l.invariant.waits
    ∙ ap (λ (d : Drawing). with_waiting c.args.pending.now d.waiting) (sym (places_end c.args.places.now l.place-index (words_of g.R.Rng.stream l.random) (record { living = l.living.items; waiting = l.pending.new_cids }) (omega arith)) ∙ l.invariant.places)

pub returns-clause-random : goal.returns-clause-random
returns-clause-random g c =
    let end : c.loop-place.place-index ≡ length c.args.places.now = omega arith in
    c.loop-place.invariant.random ∙ ap (λ (n : ℕ). after_words (3 * n) (g.R.Rng.stream c.args.random.now)) end
