use Rattle.std.proofs.Common.{◌≡◌, sym, ap, ◌∙◌, rules, refl}
use Rattle.std.specs.Prelude.{string_bytes}
use Rattle.quic_wire_core.specs.declared.stream_id.Side.{Side}
use Rattle.quic_congestion.specs.NewReno.{window_after}
use Rattle.quic_connection.specs.Ends.{world_of}
use Rattle.quic_run_core.specs.Scripts.{policies_for, address_at}
use Rattle.quic_run_core.specs.Stages.{stage_of}
use Rattle.quic_run_core.proofs.Making.{is_call}
use Rattle.quic_run_core.proofs.runner.Runner.call.Goals as goal
use Rattle.quic_run_core.proofs.runner.Runner.call.Goals.{in-Client, in-Server}

pub returns : goal.returns
returns c =
    let session = c.in-Some.session.value in
    let behind = c.call.new.self in
    let told = c.in_ok-call-in-Some.ensures in
    let there : c.match-event-3.remote ≡ address_at c.args.event.side (stage_of c.begin.new.self) =
    elim c.match-event-3.branch [
      | in-Client w ↦ w.remote-is ∙ ap (λ (side : Side). address_at side (stage_of c.begin.new.self)) (sym w.in-Client.is)
      | in-Server w ↦ w.remote-is ∙ ap (λ (side : Side). address_at side (stage_of c.begin.new.self)) (sym w.in-Server.is)
    ] in (
      c.in_ok-begin.ensures.lasts,
      is_call c.args.event.side c.args.event.call c.from_address.new.call c.match-event-3.remote (stage_of c.args.self.now) c.begin.new.self.client c.begin.new.self.server c.begin.new.self.client_hears c.begin.new.self.server_hears
          (record { world = world_of window_after session.ends session.given; policies = policies_for session.client session.server })
          (world_of window_after behind.ends behind.given) (policies_for behind.client behind.server) _ _ (string_bytes c.push_str.new.self)
          (rw c.in-Some.is at c.in_ok-begin.ensures.stage) (rw c.in-Some.is at there) c.from_address.ensures (rw c.as_mut.ensures.value at told.tells) (rw (told.same_options.0, told.same_options.1, c.as_mut.ensures.value) refl)
          (search rules) (search rules),
    )
