-- What packets that are lost at once come to for a congestion controller (RFC 9002, sections 7.3.2
-- and 7.6).
use Rattle.std.specs.Prelude.{ℕ, ◌+◌, Bool, true, false, not, ◌||◌, ◌&&◌, if◌then◌else◌, List, [], ◌∷◌, Option, fold}
use Rattle.quic_time.specs.Clocks.{saturated}
use Rattle.quic_congestion.specs.Congestion.{Told, Congested}
use Rattle.quic_streams_parts.specs.Table.{Table}
use Rattle.quic_spaces.specs.PersistentSteps as steps
use Rattle.quic_machine.specs.Tracking.{TrackedPacket}
use Rattle.quic_spaces.specs.Persistent.{Loss}
use Rattle.quic_congestion.specs.Search.{Discovery, is_number, after_question}
use Rattle.quic_machine.specs.Control.{flies}

-- whether one is no probe of a size; whether one of these others was in flight, when the last of
-- them went, and how many bytes they had; and what tells persistent congestion
pub record Lost : Type 0 where
  pub others : Bool
  pub flew : Bool
  pub last : ℕ
  pub bytes : ℕ
  pub watch : steps.Watch

-- none is lost yet
abbrev pub none_lost : ℕ → Option ℕ → Lost
none_lost period sampled = record { others = false; flew = false; last = 0; bytes = 0; watch = steps.no_losses period sampled }

-- a packet as one that is lost, which is a probe of a size or isn't
abbrev pub loss_as : Bool → ℕ × TrackedPacket → Loss
loss_as is_probe p = record { number = p.0; time_sent = p.1.time_sent; asks = p.1.asks && not is_probe }

-- one more is lost, where packets fly on the path of a generation
abbrev pub one_lost : ℕ → Bool → Lost → ℕ × TrackedPacket → Lost
one_lost generation true l p = record l { watch = steps.after_loss l.watch (loss_as true p) }
one_lost generation false l p = record {
  others = true;
  flew = l.flew || flies generation p;
  last = p.1.time_sent;
  bytes = saturated (l.bytes + p.1.size);
  watch = steps.after_loss l.watch (loss_as false p);
}

-- packets are lost, one after another, where this was the number of the open probe
abbrev pub all_lost : ℕ → Option ℕ → Lost → Table TrackedPacket → Lost
all_lost generation probe l packets = fold (λ l p. one_lost generation (is_number p.0 probe) l p) l packets

-- the search for a size is asked at a moment whether the path carries less than before, or isn't
abbrev pub asked_if : Bool → ℕ → Discovery → Discovery
asked_if true now d = after_question now d
asked_if false now d = d

-- what the controller is told of them at a moment, by an ACK or by time
abbrev pub told_lost : Bool → ℕ → Lost → List Told
told_lost by_ack now l = if l.flew then Congested now l.last (by_ack && l.watch.found) l.bytes ∷ [] else []
