-- Each STREAM frame that an end gave says what was written on its stream: at each place of an
-- honest run.
use Rattle.std.proofs.Common.{◌≡◌, ℕ, List, subst}
use Rattle.quic_wire_core.specs.declared.stream_id.Side.{Side}
use Rattle.quic_wire.specs.Value.{StreamValue, stream}
use Rattle.quic_streams_laws.specs.Written.{IsStreamOf}
use Rattle.quic_streams_laws.specs.ReadsLaws.{stands_within}
use Rattle.quic_machine.specs.Machine.{World}
use Rattle.quic_headline.specs.Runs.{Run, In, until, written, AreServed}
use Rattle.quic_headline.specs.Observer.{Sent, sents_until}
use Rattle.quic_headline.specs.Headline.{IsHonest, IsRun}
use Rattle.quic_headline.specs.Spelled.{StreamsSay}
use Rattle.quic_headline.proofs.Packets.Sight.{Sight}
use Rattle.quic_headline.proofs.Places.Order.{stands_slice}
use Rattle.quic_headline.proofs.Places.Placed.{Placed, placed, placed_less}
use Rattle.quic_headline.proofs.Places.Everything as everything
use Rattle.quic_headline.proofs.Places.Theorems.{ready}
use Rattle.quic_headline.proofs.Halves.Ghosts.{wrote}
use Rattle.quic_headline.proofs.Halves.Ready.{Ready}
use Rattle.quic_headline.proofs.Places.Flights.{own_at}

says : (r : Run) (end : World) → IsHonest r → IsRun r end → (side : Side) (i : ℕ) (sent : Sent) (f : StreamValue) → AreServed r i → In sent (sents_until r side i) → In (stream f) sent.frames → IsStreamOf (wrote (until r side i) f.id) f
says r end honest run side i sent f served among carried = at.gives.0.1.0.says sent (subst (λ (ss : List Sent). In sent ss) own among) (stream f) carried
  where
    at : Placed (everything.All Ready ready) r end side i
    at = placed (everything.All Ready ready) (everything.all Ready ready) r end honest run side i served

    own : sents_until r side i ≡ at.sents
    own = own_at r end honest side i (placed_less (everything.All Ready ready) Sight r end side i (λ x y h. h.1) at)

pub streams_say : (r : Run) (end : World) → IsHonest r → IsRun r end → StreamsSay r
streams_say r end honest run = record {
  bytes = λ side i sent f served among carried. stands_slice (written f.id (until r side i)) f.offset f.bytes (says r end honest run side i sent f served among carried).stands;
  within = λ side i sent f served among carried. stands_within (written f.id (until r side i)) f.offset f.bytes (says r end honest run side i sent f served among carried).stands;
  fin = λ side i sent f served among carried fin. (let said = says r end honest run side i sent f served among carried in (said.ended fin, said.last fin));
}
