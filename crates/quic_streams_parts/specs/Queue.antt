-- The streams with something to send: the highest priority first, equal ones in the order in which
-- they were queued.
use Rattle.std.specs.Prelude.{ℕ, ℤ, pos, negsuc, ◌+◌, ◌-◌, ◌^◌, ◌<◌, Bool, true, false, nat_lt, if◌then◌else◌, List, [], ◌∷◌, ◌++◌, map, Option, Some, None}
use Rattle.std.specs.List.{AllByRecursion}
use Rattle.std.specs.Ordering.{nat_cmp, ordering_then}
use Rattle.std.specs.declared.cmp.Ordering.{Ordering}
use Rattle.std.specs.BTreeMap.{is_at, insert_entry}
use Rattle.std.specs.Map.{remove_entry}
use Rattle.quic_streams_parts.specs.Table.{Table}

-- the place of a stream: its rank, the lowest first, and the turn at which it was queued
abbrev pub Place : Type 0
Place = ℕ × ℕ

-- places in their order
abbrev pub place_cmp : Place → Place → Ordering
place_cmp a b = ordering_then (nat_cmp a.0 b.0) (nat_cmp a.1 b.1)

-- the streams by their places, and the turn of the next that is queued
pub record Queue : Type 0 where
  pub entries : List (Place × ℕ)
  pub next : ℕ

-- each turn was given before
pub record IsQueue (entries : List (Place × ℕ)) (next : ℕ) : Type 0 where
  pub earlier : AllByRecursion (λ e. e.0.1 < next) entries

-- streams by turn, at their places under one rank
abbrev pub ranked : ℕ → Table ℕ → List (Place × ℕ)
ranked rank streams = map (λ e. ((rank, e.0), e.1)) streams

-- streams of which the first have lesser ranks than this one, and the last greater ones
abbrev pub parted : List (Place × ℕ) → ℕ → Table ℕ → List (Place × ℕ) → List (Place × ℕ)
parted low rank streams high = low ++ (ranked rank streams ++ high)

-- and that they have
pub record IsParted (low : List (Place × ℕ)) (rank : ℕ) (high : List (Place × ℕ)) : Type 0 where
  pub below : AllByRecursion (λ e. e.0.0 < rank) low
  pub above : AllByRecursion (λ e. rank < e.0.0) high

-- no stream
abbrev pub no_queue : Queue
no_queue = record { entries = []; next = 0 }

-- the rank of a priority
abbrev pub rank_of : ℤ → ℕ
rank_of (pos n) = 2 ^ 31 - 1 - n
rank_of (negsuc n) = 2 ^ 31 + n

-- a stream is queued under a rank
abbrev pub after_push : Queue → ℕ → ℕ → Queue
after_push q rank id = record { entries = insert_entry place_cmp q.entries (rank, q.next) id; next = q.next + 1 }

-- the place is given up
abbrev pub after_remove : Queue → Place → Queue
after_remove q place = record q { entries = remove_entry (is_at (place_cmp place)) q.entries }

-- the stream that was queued last is taken back
abbrev pub taken_back : Queue → Place → Queue
taken_back q place = record { entries = remove_entry (is_at (place_cmp place)) q.entries; next = place.1 }

-- a place is that of the stream that was queued last
abbrev pub IsLast : Queue → Place → Type 0
IsLast q place = IsQueue (taken_back q place).entries (taken_back q place).next

-- the stream at the first of such places, if there is one
abbrev pub first_of : List (Place × ℕ) → Option ℕ
first_of [] = None
first_of (e ∷ es) = Some e.1

-- the stream that goes next
abbrev pub first_queued : Queue → Option ℕ
first_queued q = first_of q.entries

-- whether there is such a place
abbrev pub is_any : List (Place × ℕ) → Bool
is_any [] = false
is_any (e ∷ es) = true

-- whether a stream is queued
abbrev pub is_waiting : Queue → Bool
is_waiting q = is_any q.entries

-- ---- the same with no turns: a stable list

-- each stream with its rank
abbrev pub order : List (Place × ℕ) → List (ℕ × ℕ)
order es = map (λ e. (e.0.0, e.1)) es

-- a stream goes behind those of its rank and of lower ranks
abbrev pub pushed : List (ℕ × ℕ) → ℕ → ℕ → List (ℕ × ℕ)
pushed [] rank id = (rank, id) ∷ []
pushed (x ∷ xs) rank id = if nat_lt rank x.0 then (rank, id) ∷ x ∷ xs else x ∷ pushed xs rank id
