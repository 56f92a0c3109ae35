-- What a delivery makes of streams: they stay as they are where the path changes, and in all other
-- cases they are as they were or as the frames leave them that are taken.
use Rattle.std.proofs.Common.{ℕ, List}
use Rattle.quic_wire.specs.Value.{FrameValue}
use Rattle.quic_packet.specs.Datagram.{Opening}
use Rattle.quic_streams_state.specs.declared.state.StreamsState.{StreamsState}
use Rattle.quic_machine.specs.Policy.{Policy}
use Rattle.quic_machine.specs.End.{End}
use Rattle.quic_machine.specs.Migration.{migrated}
use Rattle.quic_machine.specs.Receive.{Outcome}
use Rattle.quic_machine.specs.FrameCases.{passed, begun}
use Rattle.quic_headline.specs.Runs.{Intake}
use Rattle.quic_headline.proofs.Packets.Delivered.{Arrivals}
use Rattle.quic_headline.proofs.Packets.Moved.{by_migrated}

pub streams_stay : (P : StreamsState → Type 0) (p : Policy) (o : Opening) (remote : ℕ) (e : End) → P e.streams → P (migrated p o remote e).streams
streams_stay P p o remote e i = by_migrated (λ (x : End). P x.streams) p o remote e (λ c. i) (λ c most. i)

-- a fact of streams that held before, and holds behind the frames that are taken, holds in each case
-- of a delivery
pub in_arrivals : (P : StreamsState → Type 0) (e : End) (now n : ℕ) (frames taken : List FrameValue) (came : Intake) → P e.streams → P (passed taken (begun e now n)).end.streams → Arrivals e now n frames taken came (λ (o : Outcome) (j : Intake). P o.end.streams)
in_arrivals P e now n frames taken came i after = record {
  ignored = λ reason. i;
  noted = λ state reason. i;
  takes = λ words state new none urged mark. after;
  moves = λ p o same remote x opened j. streams_stay P p o remote x j;
  drains = λ words state new close is. after;
  refuses = λ words state new f is. after;
  exhausts = λ state. i;
}
