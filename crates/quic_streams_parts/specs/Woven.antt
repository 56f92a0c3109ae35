-- Values by number, of numbers of four kinds, which are told apart by what is left of them by four.
use Rattle.std.specs.Prelude.{ℕ, ◌+◌, ◌*◌, List, [], ◌∷◌, map}
use Rattle.quic_streams_parts.specs.Table.{Table, added}

-- values by how many numbers of their kind are less, under those numbers
abbrev pub of_kind : {A : Type 0} → ℕ → Table A → Table A
of_kind kind values = map (λ e. (4 * e.0 + kind, e.1)) values

-- the values of both
abbrev pub with_values : {A : Type 0} → Table A → Table A → Table A
with_values [] others = others
with_values (e ∷ es) others = added (with_values es others) e.0 e.1

-- all values, where those of each kind are given, from one kind on
abbrev pub woven : {A : Type 0} → ℕ → List (Table A) → Table A
woven kind [] = []
woven kind (t ∷ ts) = with_values (of_kind kind t) (woven (kind + 1) ts)
