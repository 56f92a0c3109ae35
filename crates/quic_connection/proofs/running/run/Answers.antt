-- The headline, of the answers, views and datagrams of a run.
use Rattle.std.proofs.Common.{refl, take}
use Rattle.quic_machine.specs.Machine.{World, Policies}
use Rattle.quic_headline.specs.Runs.{Run}
use Rattle.quic_headline.specs.Headline.{IsRun}
use Rattle.quic_connection_parts.specs.Telling.{windows_of}
use Rattle.quic_connection.specs.Ends.{world_of, first_world, policies_of, run_of}
use Rattle.quic_connection.proofs.running.run.Goals as goal

pub returns-clause-promises : goal.returns-clause-promises
returns-clause-promises g c =
    let o = c.run_events.result in
    let keys : Policies = policies_of g.H.HeaderKey.protection g.K.PacketKey.aead g.K.PacketKey.seal_limit g.K.PacketKey.refusal_limit g.R.Rng.stream c.args.ends in
    let r : Run = run_of keys (windows_of g.C.Controller.steps g.C.Controller.window_of) c.args.ends c.args.events.now o.answers.items o.views.items o.given in
    let end : World = world_of (windows_of g.C.Controller.steps g.C.Controller.window_of) o.ends o.given in
    λ honest. c.honest_runs_keep_promises.ensures r end honest (record { codes = c.show_codes.ensures; follows = c.run_events.ensures.follows; from_client = refl; from_server = refl })

pub returns-clause-loss_timers_follow : goal.returns-clause-loss_timers_follow
returns-clause-loss_timers_follow g c =
    let o = c.run_events.result in
    let keys : Policies = policies_of g.H.HeaderKey.protection g.K.PacketKey.aead g.K.PacketKey.seal_limit g.K.PacketKey.refusal_limit g.R.Rng.stream c.args.ends in
    λ started i w leads. c.loss_timers_follow.ensures keys (first_world (windows_of g.C.Controller.steps g.C.Controller.window_of) c.args.ends) w (take i c.args.events.now) (take i o.answers.items) (take i o.views.items) started leads

pub returns-clause-ack_timers_follow : goal.returns-clause-ack_timers_follow
returns-clause-ack_timers_follow g c =
    let o = c.run_events.result in
    let keys : Policies = policies_of g.H.HeaderKey.protection g.K.PacketKey.aead g.K.PacketKey.seal_limit g.K.PacketKey.refusal_limit g.R.Rng.stream c.args.ends in
    λ first i w leads. c.ack_timers_follow.ensures.runs keys (first_world (windows_of g.C.Controller.steps g.C.Controller.window_of) c.args.ends) w (take i c.args.events.now) (take i o.answers.items) (take i o.views.items) leads first

pub returns-clause-isolates : goal.returns-clause-isolates
returns-clause-isolates g c =
    let o = c.run_events.result in
    let keys : Policies = policies_of g.H.HeaderKey.protection g.K.PacketKey.aead g.K.PacketKey.seal_limit g.K.PacketKey.refusal_limit g.R.Rng.stream c.args.ends in
    let r : Run = run_of keys (windows_of g.C.Controller.steps g.C.Controller.window_of) c.args.ends c.args.events.now o.answers.items o.views.items o.given in
    let end : World = world_of (windows_of g.C.Controller.steps g.C.Controller.window_of) o.ends o.given in
    let is : IsRun r end = record { codes = c.show_codes.ensures; follows = c.run_events.ensures.follows; from_client = refl; from_server = refl } in
    record {
      isolated = c.isolated.ensures r end is;
      isolated_by_answers = c.isolated_by_answers.ensures r end is;
      isolated_by_lists = λ started. c.isolated_by_lists.ensures r end started is;
      runs_agree = c.runs_agree.ensures r end is;
      idle_runs_agree = c.idle_runs_agree.ensures r end is;
    }
