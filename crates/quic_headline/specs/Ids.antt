-- The streams that an application opens and accepts (RFC 9000, section 2.1).
use Rattle.std.specs.Prelude.{ℕ, ◌≡◌, ◌≤◌, List, ◌∷◌, Option, Some, None}
use Rattle.quic_wire_core.specs.declared.stream_id.Side.{Side}
use Rattle.quic_wire_core.specs.declared.stream_id.Dir.{Dir}
use Rattle.quic_wire_core.specs.StreamId.{stream_id, other_side}
use Rattle.quic_machine.specs.declared.run.Call.{Call}
use Rattle.quic_machine.specs.declared.run.Call.TheVariants as calls
use Rattle.quic_machine.specs.declared.run.Answer.{Answer}
use Rattle.quic_machine.specs.declared.run.Answer.TheVariants as answers
use Rattle.quic_headline.specs.Runs.{Run, Packet, Intake, WasNamed, In, id_by, ids_of, until, AreServed}
use Rattle.quic_headline.specs.Observer.{watch}
use Rattle.quic_headline.specs.Headline.{IsAt}

-- a stream that a call opens or accepts at an end, no call before opened or accepted there
abbrev pub IdsAreNew : Run → Type 0
IdsAreNew r = (side : Side) (i id : ℕ) (call : Call) (a : Answer) → AreServed r i → IsAt r i side call a → id_by call a ≡ Some id → In id (ids_of (until r side i)) → ⊥

-- a packet before others, where there is one
abbrev pub and_packet : Option Packet → List Packet → List Packet
and_packet None packets = packets
and_packet (Some packet) packets = packet ∷ packets

-- the packets of which an end took frames: those that it took, and the one at which it closed, if
-- it did
abbrev pub came_in : Intake → List Packet
came_in i = and_packet i.part i.took

-- A stream is one of the other side's, of this kind, and a frame in these packets opened it, or one
-- of its kind above it.
pub record WasOpened (packets : List Packet) (side : Side) (dir : Dir) (id : ℕ) : Type 0 where
  pub index : ℕ
  pub is : id ≡ stream_id (other_side side) dir index
  pub above : ℕ
  pub from : index ≤ above
  pub named : WasNamed packets (stream_id (other_side side) dir above)

-- a stream is accepted only where a frame that came opened it
abbrev pub AcceptedWereOpened : Run → Type 0
AcceptedWereOpened r = (side : Side) (i id : ℕ) (dir : Dir) → AreServed r i → IsAt r i side (calls.Accept dir) (answers.Accept (Some id)) → WasOpened (came_in (watch r side i).intake) side dir id
