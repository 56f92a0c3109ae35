-- The numbers of a set, one by one.
use Rattle.std.specs.Prelude.{◌≡◌, ℕ, ◌+◌, ◌-◌, ◌≤◌, ◌<◌, ◌⊎◌, List, [], ◌∷◌}
use Rattle.std.specs.List.{range_with_len, flat_map}
use Rattle.quic_sets.specs.Runs.{Run}

-- the numbers of a run, ascending
abbrev pub run_elements : Run → List ℕ
run_elements r = range_with_len r.start (r.end - r.start)

-- the numbers of the runs, run after run
abbrev pub elements : List Run → List ℕ
elements rs = flat_map run_elements rs

-- the list has the number
abbrev pub Lists : List ℕ → ℕ → Type 0
Lists [] k = ⊥
Lists (n ∷ ns) k = (k ≡ n) ⊎ Lists ns k

-- each number is at least n and below the next one
abbrev pub AscendFrom : ℕ → List ℕ → Type 0
AscendFrom n [] = Unit {0}
AscendFrom n (k ∷ ks) = (n ≤ k) × AscendFrom (k + 1) ks

-- the numbers ascend, and so each stands once
abbrev pub Ascend : List ℕ → Type 0
Ascend ns = AscendFrom 0 ns

-- no run is empty
abbrev pub AreFilled : List Run → Type 0
AreFilled [] = Unit {0}
AreFilled (r ∷ rs) = (r.start < r.end) × AreFilled rs
