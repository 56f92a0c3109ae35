use Rattle.quic_worked.proofs.PacedRun.{two_probes, tokens_before, tokens_behind, uncharged_paces, uncharged_is_none}
use Rattle.quic_worked.proofs.paced.uncharged_probes_show.Goals as goal

pub returns : goal.returns
returns c = record { probes = two_probes; before = tokens_before; behind = tokens_behind; clause = uncharged_paces; machine = uncharged_is_none }
