-- The stage that a runner is at.
use Rattle.std.specs.Prelude.{Option, Some, None}
use Rattle.std.specs.Option.{option_map}
use Rattle.quic_congestion.specs.NewReno.{window_after}
use Rattle.quic_connection.specs.Ends.{world_of}
use Rattle.quic_run_core.specs.declared.session.Session.{Session}
use Rattle.quic_run_core.specs.declared.runner.Runner.{Runner}
use Rattle.quic_run_core.specs.Scripts.{Made, Stage, policies_for}

-- the ends of a session, if there is one
abbrev pub made_in : Option Session → Option Made
made_in None = None
made_in (Some session) = Some (record { world = world_of window_after session.ends session.given; policies = policies_for session.client session.server })

-- how far a runner is
abbrev pub stage_of : Runner → Stage
stage_of runner = record { client = runner.client; server = runner.server; client_hears = runner.client_hears; server_hears = runner.server_hears; made = made_in (option_map (λ b. b.value) runner.session) }
