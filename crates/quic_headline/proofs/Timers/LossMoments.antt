-- The loss timer of an open end is set to the moment that an observer of the run's lists reckons.
use Rattle.std.proofs.Common.{◌≡◌, ℕ, suc, List, Option, Some, sym, ap, ◌∙◌}
use Rattle.std.specs.Prelude.{slice_get}
use Rattle.quic_wire_core.specs.declared.stream_id.Side.{Side}
use Rattle.quic_wire_core.specs.StreamId.{other_side}
use Rattle.quic_machine.specs.declared.answers.State.TheVariants as states
use Rattle.quic_machine.specs.Machine.{World}
use Rattle.quic_headline.specs.Runs.{Run, AreServed}
use Rattle.quic_headline.specs.Observer.{Watch, loss_due}
use Rattle.quic_headline.specs.Headline.{IsHonest}
use Rattle.quic_headline.specs.Moments.{LossMoments}
use Rattle.quic_headline.proofs.Packets.Flying.{timer_is}
use Rattle.quic_headline.proofs.Packets.Sight.{Sight}
use Rattle.quic_headline.proofs.Places.Parties.{Party, watch_of}
use Rattle.quic_headline.proofs.Places.Placed.{Placed, party_at, watch_is}
use Rattle.quic_headline.proofs.Timers.Watched.{timers_behind, open_behind}

-- the clause, where observers know what they do at each place
pub loss_moments : (r : Run) (end : World) → IsHonest r → ((side : Side) (i : ℕ) → AreServed r i → Placed Sight r end side i) → LossMoments r
loss_moments r end honest all side i v served there opened =
    let at = all side (suc i) served in
    let x : Party = party_at r (suc i) at.world side at.sents in
    let y : Party = party_at r (suc i) at.world (other_side side) at.theirs in
    let now_open : x.end.closing.state ≡ states.Open = open_behind r at.world i v side at.leads there opened in
    ap (λ (ts : List (Option ℕ)). slice_get ts 0) (timers_behind r at.world i v side at.leads there)
    ∙ ap (λ (o : Option ℕ). Some o) (timer_is x.terms (watch_of x y).clock (watch_of x y).flight x.end (at.gives.stands now_open) (at.gives.watched.flight now_open) ∙ ap (λ (w : Watch). loss_due w.flight) (sym (watch_is r honest at.world (suc i) side at.sents at.theirs)))
