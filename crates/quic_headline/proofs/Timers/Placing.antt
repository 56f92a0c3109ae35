-- A group over the packets and what observers know of them, at each place of an honest run.
use Rattle.std.proofs.Common.{ℕ}
use Rattle.quic_wire_core.specs.declared.stream_id.Side.{Side}
use Rattle.quic_machine.specs.Machine.{World}
use Rattle.quic_headline.specs.Runs.{Run, AreServed}
use Rattle.quic_headline.specs.Headline.{IsHonest, IsRun}
use Rattle.quic_headline.proofs.Places.Groups.{Way, Nothing, And, Group, both, over}
use Rattle.quic_headline.proofs.Places.Placed.{Placed, placed, placed_less}
use Rattle.quic_headline.proofs.Places.Everything as everything
use Rattle.quic_headline.proofs.Places.Theorems.{ready}
use Rattle.quic_headline.proofs.Halves.Ready.{Ready}
use Rattle.quic_headline.proofs.Timers.Watched.{Observed}

-- the packets, the streams, and what observers know
abbrev All : Way
All = everything.All Ready ready

pub seen_at : (G : Way) → Group Observed G → (r : Run) (end : World) → IsHonest r → IsRun r end → (side : Side) (i : ℕ) → AreServed r i → Placed (And Observed G) r end side i
seen_at G g r end honest run side i served =
    let all : Group Nothing (And All G) = both Nothing All G (everything.all Ready ready) (over Observed (And Nothing All) G (λ x y h. (h.1.0.0, h.1.1)) g) in
    placed_less (And All G) (And Observed G) r end side i (λ x y h. ((h.0.0.0, h.0.1), h.1)) (placed (And All G) all r end honest run side i served)
