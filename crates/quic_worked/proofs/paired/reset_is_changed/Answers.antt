use Rattle.quic_worked.proofs.PairedMachines.{changed_tracks, never_changed}
use Rattle.quic_worked.proofs.paired.reset_is_changed.Goals as goal

pub returns : goal.returns
returns c = record { tracks = changed_tracks; machine = never_changed }
