use Rattle.std.proofs.Common.{refl}
use Rattle.quic_worked.proofs.IsolatedRuns.{noisy_is_run, quiet_is_run, noise_erased, noise_same, noise_sent}
use Rattle.quic_worked.proofs.isolated.noise_changes_nothing.Goals as goal

pub returns : goal.returns
returns c = record { noisy = noisy_is_run; quiet = quiet_is_run; erased = noise_erased; same = noise_same; sent = noise_sent; counted = refl; fewer = refl }
