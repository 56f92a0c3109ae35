-- A set of indices of which the latest run is kept beside the others.
use Rattle.std.specs.Prelude.{ℕ, ◌≤◌, ◌<◌, ◌^◌, List}
use Rattle.quic_sets.specs.Runs.{Run, AreRuns}

-- the others are a set, and the run beside them may be empty, but not reversed
pub record IsLatest (start end : ℕ) (others : List Run) : Type 0 where
  pub runs : AreRuns others
  pub ordered : start ≤ end
  pub small : end < 2 ^ 62
