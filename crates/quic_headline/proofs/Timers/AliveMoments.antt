-- The timer of keep-alive of an open end is set to the moment that an observer of the run's lists
-- reckons.
use Rattle.std.proofs.Common.{◌≡◌, ℕ, suc, List, Option, Some, sym, ap, ◌∙◌}
use Rattle.std.specs.Prelude.{slice_get}
use Rattle.quic_machine.specs.declared.answers.State.TheVariants as states
use Rattle.quic_machine.specs.Machine.{World}
use Rattle.quic_headline.specs.Runs.{Run}
use Rattle.quic_headline.specs.Headline.{IsHonest, IsRun}
use Rattle.quic_headline.specs.Expiring.{AliveMoments}
use Rattle.quic_headline.proofs.Places.Parties.{Party}
use Rattle.quic_headline.proofs.Places.Placed.{party_at}
use Rattle.quic_headline.proofs.Timers.Watched.{timers_behind, open_behind}
use Rattle.quic_headline.proofs.Timers.Placing.{seen_at}
use Rattle.quic_headline.proofs.Waited.Group.{Wanting, wanting_group}

-- the clause: what is wanted of an open end says when it is to be kept alive
pub alive_moments : (r : Run) (end : World) → IsHonest r → IsRun r end → AliveMoments r
alive_moments r end honest run side i v served there opened =
    let at = seen_at Wanting wanting_group r end honest run side (suc i) served in
    let x : Party = party_at r (suc i) at.world side at.sents in
    let now_open : x.end.closing.state ≡ states.Open = open_behind r at.world i v side at.leads there opened in
    ap (λ (ts : List (Option ℕ)). slice_get ts 5) (timers_behind r at.world i v side at.leads there) ∙ ap (λ (o : Option ℕ). Some o) (sym (at.gives.1.wanted now_open).alive)
