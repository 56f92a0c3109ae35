use Rattle.std.proofs.Common.{rules, refl}
use Rattle.std.specs.Prelude.{string_bytes}
use Rattle.quic_congestion.specs.NewReno.{window_after}
use Rattle.quic_connection.specs.Ends.{world_of}
use Rattle.quic_run_core.specs.Scripts.{policies_for}
use Rattle.quic_run_core.specs.Stages.{stage_of}
use Rattle.quic_run_core.proofs.Making.{is_settling}
use Rattle.quic_run_core.proofs.runner.Runner.settle.Goals as goal

pub returns : goal.returns
returns c =
    let session = c.in-Some.session.value in
    let behind = c.settle.new.self in
    let told = c.in_ok-settle-in-Some.ensures in (
      c.in_ok-begin.ensures.lasts,
      is_settling c.args.now (stage_of c.args.self.now) c.begin.new.self.client c.begin.new.self.server c.begin.new.self.client_hears c.begin.new.self.server_hears
          (record { world = world_of window_after session.ends session.given; policies = policies_for session.client session.server })
          (world_of window_after behind.ends behind.given) (policies_for behind.client behind.server) _ _ (string_bytes c.push_str-2.new.self)
          (rw c.in-Some.is at c.in_ok-begin.ensures.stage) (rw c.as_mut.ensures.value at told.tells) (rw (told.same_options.0, told.same_options.1, c.as_mut.ensures.value) refl)
          (search rules) (search rules),
    )
