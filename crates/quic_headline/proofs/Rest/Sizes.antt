-- The window of an end holds two of its datagrams: of each size that datagrams take, the controller
-- was told, or the path began with a greater one.
use Rattle.std.proofs.Common.{◌≡◌, ℕ, ◌*◌, ◌≤◌, List, take, false, sym, subst, arith}
use Rattle.std.specs.List.{list_any}
use Rattle.quic_wire_core.specs.declared.stream_id.Side.{Side}
use Rattle.quic_wire_core.specs.declared.stream_id.Side.TheVariants.{Client, Server}
use Rattle.quic_wire_core.specs.StreamId.{other_side}
use Rattle.quic_config.specs.declared.mtu_discovery.TheConstants.{MAX_UDP_PAYLOAD}
use Rattle.quic_config.specs.Transport.{transport_of, first_mtu, parameters_of}
use Rattle.quic_congestion.specs.Congestion.{Told, AreSized, last_size, HasRoom}
use Rattle.quic_machine.specs.declared.run.RunEvent.{RunEvent}
use Rattle.quic_machine.specs.declared.run.Answer.{Answer}
use Rattle.quic_machine.specs.Parts.{current_mtu}
use Rattle.quic_machine.specs.PathLaws.{first_size}
use Rattle.quic_machine.specs.End.{End}
use Rattle.quic_machine.specs.Start.{AreStarted, IsController, IsMaking}
use Rattle.quic_machine.specs.Machine.{World, Policies, end_at, control_at, fails}
use Rattle.quic_headline.specs.Runs.{Run, AreServed}
use Rattle.quic_headline.specs.Headline.{IsHonest}
use Rattle.quic_headline.specs.Amounts.{making_at}
use Rattle.quic_headline.specs.Polls.{WasTold, IsHistory}
use Rattle.quic_headline.specs.Rest.{HaveRoom}
use Rattle.quic_headline.proofs.Packets.Group.{made_sized}
use Rattle.quic_headline.proofs.Packets.Sizes.{HasSize}
use Rattle.quic_headline.proofs.Places.Placed.{start_is}
use Rattle.quic_headline.proofs.Steps.Resized.{last_more, history_tells}

-- ---- sizes that are told

-- A controller was told only sizes that fit two bytes, and the last of them, or the first where
-- none was told, is no less than the size of the datagrams of its end.
pub record IsSizedBy (side : Side) (size : ℕ) (w : World) (told : List Told) : Type 0 where
  pub sized : AreSized told
  pub within : current_mtu (end_at side w).path ≤ last_size size told

-- so it is of what a controller was told by a run
pub size_of_history : (side : Side) (k : Policies) (w end : World) (events : List RunEvent) (answers : List Answer) (told : List Told) (size : ℕ) → list_any fails answers ≡ false → WasTold side k w events answers end told
    → current_mtu (end_at side w).path ≤ size → HasSize 1200 MAX_UDP_PAYLOAD (end_at side w) → IsSizedBy side size end told
size_of_history side k w end events answers told size served was within search =
    let t = history_tells side k w end events answers told served was in
    record { sized = t.sized search; within = (let last = t.size in let more = last_more told (current_mtu (end_at side w).path) size within in omega arith) }

-- ---- the window

-- the controller of one end, as the run began
controller_at : (side : Side) (w : World) → HaveRoom w → IsController (control_at side w) (first_mtu (end_at side w).transport) (end_at side w).path.window
controller_at Client w h = h.controlled.client
controller_at Server w h = h.controlled.server

-- and its window
room_at : (side : Side) (w : World) → HaveRoom w → HasRoom (first_mtu (end_at side w).transport) (end_at side w).path.window
room_at Client w h = h.client
room_at Server w h = h.server

-- the path begins with no greater size than the settings say
starts_within : (w : World) → AreStarted w → (side : Side) → current_mtu (end_at side w).path ≤ first_mtu (end_at side w).transport
starts_within w s side = subst (λ (e : End). current_mtu e.path ≤ first_mtu e.transport) (sym (start_is w s side))
    (let m = making_at side w s in
    let size = first_size m.remote m.validated (transport_of m.settings) (parameters_of (making_at (other_side side) w s).settings).max_udp_payload_size m.windows m.moment in
    omega arith)

-- its search begins within its bounds
starts_sized : (w : World) → AreStarted w → (side : Side) → HasSize 1200 MAX_UDP_PAYLOAD (end_at side w)
starts_sized w s side = subst (HasSize 1200 MAX_UDP_PAYLOAD) (sym (start_is w s side)) (made_sized side (making_at side w s) (making_at (other_side side) w s) (is_making side))
  where
    is_making : (side : Side) → IsMaking (making_at side w s)
    is_making Client = s.client_is
    is_making Server = s.server_is

-- what the controller shows that was told all that the calls up to a place tell holds two datagrams
-- of the size that they have there
pub window_holds_two : (r : Run) → IsHonest r → HaveRoom r.start → (side : Side) (i : ℕ) (w : World) (told : List Told) → AreServed r i → IsHistory r side i w told → 2 * current_mtu (end_at side w).path ≤ control_at side r.start told
window_holds_two r honest room side i w told served was =
    let sized = size_of_history side r.keys r.start w (take i r.events) (take i r.answers) told (first_mtu (end_at side r.start).transport) served was (starts_within r.start honest.start side) (starts_sized r.start honest.start side) in
    let holds = (controller_at side r.start room).room told sized.sized (room_at side r.start room) in
    let within = sized.within in
    let two = holds.room in
    omega arith
