use Rattle.quic_worked.proofs.BurstingRuns.{found_follows, found_rests, size_before, it_is_probe, size_behind, next_sought}
use Rattle.quic_worked.proofs.bursting.sizes_are_reckoned.Goals as goal

pub returns : goal.returns
returns c = record { follows = found_follows; rests = found_rests; before = size_before; probe = it_is_probe; behind = size_behind; next = next_sought }
