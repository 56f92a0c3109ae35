use Rattle.quic_worked.proofs.KeptEnds.{apart_not, wider_not, apart_meets, wide_meets}
use Rattle.quic_worked.proofs.kept.kept_runs_show.Goals as goal

pub returns : goal.returns
returns c = record { kept = apart_meets; more = apart_not; wide = wide_meets; wider = wider_not }
