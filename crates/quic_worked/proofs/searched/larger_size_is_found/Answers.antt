use Rattle.std.proofs.Common.{refl}
use Rattle.quic_worked.proofs.SearchedRun.{searched_is_honest, searched_is_run, none_queued, probe_goes, ack_is_small, was_probed, history, last_told}
use Rattle.quic_worked.proofs.searched.larger_size_is_found.Goals as goal

pub returns : goal.returns
returns c = record { honest = searched_is_honest; run = searched_is_run; probe = probe_goes; queued = none_queued; size = refl; ordinary = ack_is_small; before = refl; behind = refl; probed = was_probed; history = history; last = last_told }
