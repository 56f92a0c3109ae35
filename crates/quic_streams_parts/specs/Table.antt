-- Streams by id: a finite map, as the list of its pairs ascending by id.
use Rattle.std.specs.Prelude.{ℕ, Option, List}
use Rattle.std.specs.Ordering.{nat_cmp}
use Rattle.std.specs.BTreeMap.{is_at, insert_entry}
use Rattle.std.specs.Map.{lookup, set_value, remove_entry}

-- a finite map from stream ids
abbrev pub Table : Type 0 → Type 0
Table A = List (ℕ × A)

-- what stands at an id
abbrev pub at : {A : Type 0} → Table A → ℕ → Option A
at table id = lookup (is_at (nat_cmp id)) table

-- the map with another value at an id that it has
abbrev pub put : {A : Type 0} → Table A → ℕ → A → Table A
put table id value = set_value (is_at (nat_cmp id)) table value

-- the map without an id
abbrev pub without : {A : Type 0} → Table A → ℕ → Table A
without table id = remove_entry (is_at (nat_cmp id)) table

-- the map with a value at an id that it may lack
abbrev pub added : {A : Type 0} → Table A → ℕ → A → Table A
added table id value = insert_entry nat_cmp table id value
