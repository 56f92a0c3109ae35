-- Parts of which the first stands apart from the others.
use Rattle.std.specs.Prelude.{◌≡◌, ℕ, List, [], ◌∷◌, Option, Some, None}
use Rattle.std.specs.Ordering.{nat_cmp}
use Rattle.std.specs.declared.cmp.Ordering.TheVariants.{Less}
use Rattle.std.specs.List.{AllByRecursion}
use Rattle.quic_sets.specs.Parts.{Part}

-- all of them
abbrev pub part_row : Option Part → List Part → List Part
part_row None others = others
part_row (Some p) others = p ∷ others

-- all end behind an offset
abbrev pub AreAbove : ℕ → List Part → Type 0
AreAbove k ps = AllByRecursion (λ p. nat_cmp k p.0 ≡ Less) ps

-- where none stands apart there is none, and the others end behind the first
abbrev pub IsPartRow : Option Part → List Part → Type 0
IsPartRow None others = others ≡ []
IsPartRow (Some p) others = AreAbove p.0 others
