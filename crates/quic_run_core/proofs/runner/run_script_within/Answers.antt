use Rattle.std.proofs.Common.{[]}
use Rattle.quic_run_core.specs.Scripts.{script_rules, first_stage}
use Rattle.quic_lines.proofs.Behind.{ran_behind, stopped_behind}
use Rattle.quic_lines.proofs.Running.{appends-nil}
use Rattle.quic_run_core.proofs.runner.run_script_within.Goals as goal

pub returns-clause-ok : goal.returns-clause-ok
returns-clause-ok g c = ran_behind script_rules _ first_stage [] _ _ _ _ _ c.run_lines.result c.new-runner.ensures c.in_ok-lines.ensures.left (appends-nil _) c.run_lines.ensures.ok

pub returns-clause-err : goal.returns-clause-err
returns-clause-err g c = stopped_behind script_rules _ first_stage [] _ _ _ _ _ c.run_lines.result c.new-runner.ensures c.in_ok-lines.ensures.left (appends-nil _) c.run_lines.ensures.err
