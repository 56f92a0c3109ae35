use Rattle.std.proofs.Common.{◌≡◌, ◌≤◌, ◌<◌, ◌⊎◌, ℕ, List, subst}
use Rattle.std.specs.Prelude.{vec_capacity}
use Rattle.quic_wire_core.specs.declared.stream_id.Side.TheVariants.{Client, Server}
use Rattle.quic_connection_parts.specs.Telling.{windows_of}
use Rattle.quic_connection.specs.Ends.{world_of}
use Rattle.quic_connection.specs.Rooms.{told_len, handed_len}
use Rattle.quic_connection.proofs.Rooms.{step_fits}
use Rattle.quic_connection.proofs.Stopping.{on_err, takes_memory}
use Rattle.quic_connection.proofs.views.rooms_behind.Goals as goal

pub returns-clause-client_room : goal.returns-clause-client_room
returns-clause-client_room g c = λ k keeps opens a next step.
    let room = c.in_ok-client in
    let event = c.args.event.now in
    step_fits (vec_capacity room.client) Client k keeps opens (world_of (windows_of g.C.Controller.steps g.C.Controller.window_of) c.args.ends.now c.args.given.now) event a next step
    room.ensures.standing
    (subst (λ (theirs : List (List ℕ)). event.side ≡ Client → handed_len theirs event.call ≤ vec_capacity room.client) c.as_slice.ensures.value room.ensures.coming)

pub returns-clause-server_room : goal.returns-clause-server_room
returns-clause-server_room g c = λ k keeps opens a next step.
    let room = c.in_ok-server in
    let event = c.args.event.now in
    step_fits (vec_capacity room.server) Server k keeps opens (world_of (windows_of g.C.Controller.steps g.C.Controller.window_of) c.args.ends.now c.args.given.now) event a next step
    room.ensures.standing
    (subst (λ (theirs : List (List ℕ)). event.side ≡ Server → handed_len theirs event.call ≤ vec_capacity room.server) c.as_slice-2.ensures.value room.ensures.coming)

pub returns-in_err-client-clause-lacking : goal.returns-in_err-client-clause-lacking
returns-in_err-client-clause-lacking g c =
    let ends = c.args.ends.now in
    let event = c.args.event.now in
    on_err c.from_residual.result
    (takes_memory Client (world_of (windows_of g.C.Controller.steps g.C.Controller.window_of) ends c.args.given.now) event
    (subst (λ (theirs : List (List ℕ)). (0 < told_len ends.client.end.closing.reason) ⊎ ((event.side ≡ Client) × (0 < handed_len theirs event.call))) c.as_slice.ensures.value c.in_err-client.ensures.lacking))

pub returns-in_err-server-clause-lacking : goal.returns-in_err-server-clause-lacking
returns-in_err-server-clause-lacking g c =
    let ends = c.args.ends.now in
    let event = c.args.event.now in
    on_err c.from_residual-in_err-server.result
    (takes_memory Server (world_of (windows_of g.C.Controller.steps g.C.Controller.window_of) ends c.args.given.now) event
    (subst (λ (theirs : List (List ℕ)). (0 < told_len ends.server.end.closing.reason) ⊎ ((event.side ≡ Server) × (0 < handed_len theirs event.call))) c.as_slice-2.ensures.value c.in_err-server.ensures.lacking))
