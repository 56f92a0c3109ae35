-- What of a set stands in a range, and the set with the range added.
use Rattle.std.specs.Prelude.{ℕ, Bool, nat_lt, nat_le, min, max, List, [], ◌∷◌, map, drop, if◌then◌else◌, ◌&&◌}
use Rattle.std.specs.List.{filter, prefix_len}
use Rattle.quic_sets.specs.Runs.{Run}

-- the part of a run from a up to b
abbrev pub cut : ℕ → ℕ → Run → Run
cut a b r = record { start = max a r.start; end = min b r.end }

-- there is a number in the run
abbrev pub is_filled : Run → Bool
is_filled r = nat_lt r.start r.end

-- the parts of the runs from a up to b, empty ones left out
unfoldable pub pieces : ℕ → ℕ → List Run → List Run
pieces a b rs = filter is_filled (map (cut a b) rs)

-- the run from a up to b, with each run that it meets or touches joined to it, and the runs behind
unfoldable pub joining : ℕ → ℕ → List Run → List Run
joining a b [] = record { start = a; end = b } ∷ []
joining a b (r ∷ rs) = if nat_lt b r.start then record { start = a; end = b } ∷ (r ∷ rs) else joining (min a r.start) (max b r.end) rs

-- the runs with the numbers from a up to b added
unfoldable pub with_range : ℕ → ℕ → List Run → List Run
with_range a b [] = joining a b []
with_range a b (r ∷ rs) = if nat_lt r.end a then r ∷ with_range a b rs else joining a b (r ∷ rs)

-- how many runs, from the front on, end below a
abbrev pub count_below : ℕ → List Run → ℕ
count_below a rs = prefix_len (λ r. nat_lt r.end a) rs

-- how many runs, from the front on, end at a or below
abbrev pub count_up_to : ℕ → List Run → ℕ
count_up_to a rs = prefix_len (λ r. nat_le r.end a) rs

-- how many of the runs, from the front on, start at b or below
abbrev pub count_started : ℕ → List Run → ℕ
count_started b rs = prefix_len (λ r. nat_le r.start b) rs

-- how many runs meet or touch the range from a up to b
abbrev pub count_met : ℕ → ℕ → List Run → ℕ
count_met a b rs = count_started b (drop (count_below a rs) rs)

-- the runs with the range joined to those that it meets or touches; where it is empty or there is
-- none, as they were
unfoldable pub joined : ℕ → ℕ → List Run → List Run
joined a b rs = if nat_lt a b && nat_lt 0 (count_met a b rs) then with_range a b rs else rs
