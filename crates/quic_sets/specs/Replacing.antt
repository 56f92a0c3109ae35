-- What a `Replace` yields and leaves.
use Rattle.std.specs.Prelude.{◌≡◌, nat_lt, List, [], ◌∷◌, map, drop, Option, MatchOption}
use Rattle.std.specs.List.{take_while}
use Rattle.std.specs.Borrow.{GName}
use Rattle.quic_sets.specs.Runs.{Run}
use Rattle.quic_sets.specs.Pieces.{cut, joined}
use Rattle.quic_sets.specs.declared.range_set.replace.Replace.{Replace}

-- the ghost name of the reference to the set
abbrev pub lender : Replace → GName
lender r = r.set.ghost_name

-- the pieces that are still to come
abbrev pub to_come : Replace → List Run
to_come r = map (cut r.range.start r.range.end) (take_while (λ run. nat_lt run.start r.range.end) (drop r.at r.set.now))

-- the runs that the set has once the `Replace` is dropped
abbrev pub left : Replace → List Run
left r = joined r.range.start r.range.end r.set.now

-- both borrow the same set, and leave it the same runs once dropped
abbrev pub Keeps : Replace → Replace → Type 0
Keeps old new = (lender new ≡ lender old) × (left new ≡ left old)

-- `next` gave the first of the pieces to come, or none where none was left
abbrev pub Steps : Replace → Option Run → Replace → Type 0
Steps old item new = MatchOption item ((to_come old ≡ []) × (to_come new ≡ [])) (λ x. to_come old ≡ x ∷ to_come new) × Keeps old new
