use Rattle.std.proofs.Common.{◌+◌, ◌-◌, arith}
use Rattle.std.proofs.lemmas.Bool.{leb-true, le-leb}
use Rattle.quic_ids.specs.CidQueue.{kept_ids}
use Rattle.quic_ids.proofs.laws.cid_queue.eighth_number_is_too_many.Goals as goal

pub returns : goal.returns
returns c = λ ids f le. (λ t. let k = leb-true (kept_ids + (f.retire_prior_to - ids.active)) (f.sequence - ids.active) t in omega arith, λ k. le-leb (kept_ids + (f.retire_prior_to - ids.active)) (f.sequence - ids.active) (omega arith))
