-- Where an end rests, what was written there has arrived, and HANDSHAKE_DONE where it was said that
-- the handshake is done: each duty waits, is under way or has come, and nothing waits nor is under
-- way.
use Rattle.std.proofs.Common.{◌≡◌, ℕ, List, [], true, false, sym, ◌∙◌, inl, inr, arith}
use Rattle.quic_wire_core.specs.declared.stream_id.Side.{Side}
use Rattle.quic_wire_core.specs.StreamId.{other_side}
use Rattle.quic_streams_parts.specs.Table.{Table}
use Rattle.quic_machine.specs.Tracking.{TrackedPacket}
use Rattle.quic_machine.specs.Machine.{World, end_at}
use Rattle.quic_headline.specs.Runs.{Run, In, AreServed, until}
use Rattle.quic_headline.specs.Observer.{Sent, took, sents_until, watch}
use Rattle.quic_headline.specs.Headline.{IsHonest, IsRun}
use Rattle.quic_headline.specs.Duties.{Duty, Offset, Fin, Done, IsOwed, StandsIn, IsCarried, HasCome, IsSomewhere}
use Rattle.quic_headline.specs.Rest.{Rests, HaveRoom, HasNothingLeft, DeliveredAtRest, DoneAtRest}
use Rattle.quic_headline.proofs.Places.Theorems.{tracks_in_flight, duties_hold}
use Rattle.quic_headline.proofs.Places.Placed.{Placed, placed}
use Rattle.quic_headline.proofs.Places.Everything as everything
use Rattle.quic_headline.proofs.Places.Theorems.{ready}
use Rattle.quic_headline.proofs.Halves.Ready.{Ready}
use Rattle.quic_headline.proofs.Duties.Carrier.{any_member}
use Rattle.quic_headline.proofs.Duties.Listed.{DoneOf}
use Rattle.quic_headline.proofs.Rest.Quiet.{rest_is_quiet}
use Rattle.quic_headline.proofs.Unread.Resting.{AtRest, silent_packet, no_listed}

-- ---- where it is

-- an offset of a stream, an end of one, or that the handshake is done
abbrev Comes : Duty → Type 0
Comes (Offset id offset) = Unit {0}
Comes (Fin id) = Unit {0}
Comes Done = Unit {0}
Comes duty = ⊥

module _ (r : Run) (end : World) (honest : IsHonest r) (run : IsRun r end) (side : Side) (i : ℕ) (served : AreServed r i) (room : HaveRoom r.start) (at : Rests r side i) where
  abbrev place : Placed (everything.All Ready ready) r end side i
  place = placed (everything.All Ready ready) (everything.all Ready ready) r end honest run side i served

  abbrev w : World
  w = place.world

  left : HasNothingLeft (end_at side w)
  left = rest_is_quiet r end honest run side i w served room at place.leads

  abbrev packets : Table TrackedPacket
  packets = (end_at side w).tracking.packets

  abbrev flying : List Sent
  flying = (watch r side i).flight.flying

  rests : AtRest (end_at side w) flying
  rests = record { nothing_waits = left.nothing_waits; nothing_asks = left.nothing_asks; waited = tracks_in_flight r end honest run i w served place.leads side left.is_open }

  -- none is under way
  not_carried : (duty : Duty) → Comes duty → IsCarried packets duty → ⊥
  not_carried duty own any = (let found = any_member (λ (p : ℕ × TrackedPacket). StandsIn p.1.carried duty) packets any in none_in duty own found.0 found.1 found.2)
    where
      streams : (p : ℕ × TrackedPacket) → In p packets → p.1.carried.stream_frames ≡ []
      streams p among = (silent_packet (end_at side w) flying rests p among).streams

      none_in : (duty : Duty) → Comes duty → (p : ℕ × TrackedPacket) → In p packets → StandsIn p.1.carried duty → ⊥
      none_in (Offset id offset) own p among stands = rw (streams p among) at stands
      none_in (Fin id) own p among stands = rw (streams p among) at stands
      none_in Done own p among stands = no_listed (end_at side w) flying rests p DoneOf among stands
      none_in duty own p among stands = absurd own

  -- so it has come
  has_come : (duty : Duty) → Comes duty → IsOwed 0 (end_at side w) (sents_until r side i) (until r side i) duty → HasCome (took r (other_side side) i) (until r side i) duty
  has_come duty own owed = go duty own (duties_hold r end honest run i w served place.leads side 0 (omega arith) duty owed)
    where
      go : (duty : Duty) → Comes duty → IsSomewhere (end_at side w) (sents_until r side i) (took r (other_side side) i) (until r side i) duty → HasCome (took r (other_side side) i) (until r side i) duty
      go duty own (inl there) = (let clash : true ≡ false = sym there.queued ∙ left.nothing_waits in cc)
      go (Offset id offset) own (inr (inl under_way)) = absurd (not_carried (Offset id offset) tt under_way)
      go (Fin id) own (inr (inl under_way)) = absurd (not_carried (Fin id) tt under_way)
      go Done own (inr (inl under_way)) = absurd (not_carried Done tt under_way)
      go duty own (inr (inl under_way)) = absurd own
      go duty own (inr (inr come)) = come

pub delivered_at_rest : (r : Run) (end : World) → IsHonest r → IsRun r end → DeliveredAtRest r
delivered_at_rest r end honest run side i id served room at kept = (
  λ offset below. has_come r end honest run side i served room at (Offset id offset) tt (kept, below),
  λ finished. has_come r end honest run side i served room at (Fin id) tt (kept, finished),
)

pub done_at_rest : (r : Run) (end : World) → IsHonest r → IsRun r end → DoneAtRest r
done_at_rest r end honest run side i served room at said = has_come r end honest run side i served room at Done tt said
