-- The queue has the halves that have something to send, each at its place; and the list of those
-- whose write the connection blocked has those that say so.
use Rattle.std.specs.Prelude.{◌≡◌, ℕ, Bool, true, false, ◌==◌, ◌||◌, List, [], ◌∷◌, Option, Some, None}
use Rattle.std.specs.Option.{is_some}
use Rattle.std.specs.List.Sorted.{IsStrictlySortedBy}
use Rattle.std.specs.BTreeMap.{is_at}
use Rattle.std.specs.Map.{keys_of, lookup}
use Rattle.quic_streams_parts.specs.Table.{Table, at}
use Rattle.quic_streams_parts.specs.SendHalf.{SendHalf, has_pending}
use Rattle.quic_streams_parts.specs.Queue.{Place, Queue, IsQueue, place_cmp}
use Rattle.quic_streams_halves.specs.Halves.{has_place}
use Rattle.quic_streams_state.specs.declared.state.StreamsState.{StreamsState}
use Rattle.quic_streams_laws.specs.Shape.{IsShaped}

-- the stream that stands at a place of the queue
abbrev pub standing_at : Queue → Place → Option ℕ
standing_at q place = lookup (is_at (place_cmp place)) q.entries

-- where a half stands
abbrev pub place_of : Option SendHalf → Option Place
place_of None = None
place_of (Some h) = h.place

-- where the half of a stream stands
abbrev pub place_at : Table SendHalf → ℕ → Option Place
place_at live id = place_of (at live id)

-- the queue in the order of ranks and turns; each turn was given before; and a stream stands at a
-- place where its half says so, and nowhere else
pub record Stand (q : Queue) (place : ℕ → Option Place) : Type 0 where
  pub sorted : IsStrictlySortedBy place_cmp (keys_of q.entries)
  pub earlier : IsQueue q.entries q.next
  pub stands : (id : ℕ) (p : Place) → standing_at q p ≡ Some id → place id ≡ Some p
  pub placed : (id : ℕ) (p : Place) → place id ≡ Some p → standing_at q p ≡ Some id

-- the halves that stand in the queue are those that have something to send
pub record IsQueueOf (s : StreamsState) : Type 0 where
  pub stand : Stand s.sending.queue (place_at s.sending.halves.live)
  pub pending : (id : ℕ) (h : SendHalf) → at s.sending.halves.live id ≡ Some h → is_some h.place ≡ has_pending h

-- whether a list has an id
abbrev pub has_in : List ℕ → ℕ → Bool
has_in [] id = false
has_in (x ∷ xs) id = (id == x) || has_in xs id

-- each once
abbrev pub AreOnce : List ℕ → Type 0
AreOnce [] = Unit {0}
AreOnce (x ∷ xs) = (has_in xs x ≡ false) × AreOnce xs

-- the halves in use that are in the list of those that are blocked are those that say so; the
-- others in it are done
pub record AreBlocked (s : StreamsState) : Type 0 where
  pub once : AreOnce s.sending.blocked
  pub told : (id : ℕ) (h : SendHalf) → at s.sending.halves.live id ≡ Some h → h.blocked ≡ has_in s.sending.blocked id
  pub used : (id : ℕ) → has_in s.sending.blocked id ≡ true → has_place s.side s.sending.halves.places id ≡ true

-- the queue, with the halves in their order
pub record IsOrderly (s : StreamsState) : Type 0 where
  pub shape : IsShaped s
  pub queue : IsQueueOf s

-- the list of those that are blocked, with the halves in their order
pub record IsBlockedRight (s : StreamsState) : Type 0 where
  pub shape : IsShaped s
  pub blocked : AreBlocked s
