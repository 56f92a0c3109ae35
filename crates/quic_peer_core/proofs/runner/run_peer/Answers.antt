use Rattle.quic_lines.proofs.Behind.{ran_behind, stopped_behind}
use Rattle.quic_peer_core.specs.Peer.{first_stage, peer_rules}
use Rattle.quic_peer_core.proofs.runner.run_peer.Goals as goal

pub returns-clause-ok : goal.returns-clause-ok
returns-clause-ok g c = ran_behind peer_rules _ first_stage _ _ _ _ _ _ c.run_lines.result c.new-peer.ensures c.in_ok-lines.ensures.left c.in_ok-print.ensures.printed c.run_lines.ensures.ok

pub returns-clause-err : goal.returns-clause-err
returns-clause-err g c = stopped_behind peer_rules _ first_stage _ _ _ _ _ _ c.run_lines.result c.new-peer.ensures c.in_ok-lines.ensures.left c.in_ok-print.ensures.printed c.run_lines.ensures.err
