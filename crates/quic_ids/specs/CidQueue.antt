-- The ids of the peer that an end knows, and the one that it uses (RFC 9000, sections 5.1.1 and
-- 5.1.2).
use Rattle.std.specs.Prelude.{◌≡◌, ℕ, ◌+◌, ◌-◌, ◌<◌, ◌≤◌, ◌==◌, ◌||◌, Bool, cond, ltb, leb, min, List, [], ◌∷◌, Option, Some, None, option_map, Result, Ok, Err, filter, find, filter_map, slice_get}
use Rattle.std.specs.List.{list_any}
use Rattle.std.specs.declared.ops.Range.{Range}
use Rattle.quic_wire_core.specs.declared.shared.IssuedCid.{IssuedCid}
use Rattle.quic_wire.specs.declared.frame.NewConnectionId.{NewConnectionId}
use Rattle.quic_config.specs.Configs.{ids_kept}
use Rattle.quic_ids.specs.declared.cid_queue.InsertError.{InsertError}
use Rattle.quic_ids.specs.declared.cid_queue.InsertError.TheVariants.{Retired, ExceedsLimit}

-- the number of the id in use, that id, and the known ids with greater numbers, by which they
-- ascend
pub record PeerIds : Type 0 where
  pub active : ℕ
  pub id : List ℕ
  pub later : List IssuedCid

-- how many consecutive numbers are kept from the one in use on: as many ids as this end allows its
-- peer (RFC 9000, section 18.2, 0x0e)
abbrev pub kept_ids : ℕ
kept_ids = ids_kept

-- ids ascend by their numbers, which lie from the first on and below the end
abbrev pub AscendWithin : List IssuedCid → ℕ → ℕ → Type 0
AscendWithin [] first end = Unit {0}
AscendWithin (c ∷ cs) first end = (first ≤ c.sequence) × (c.sequence < end) × AscendWithin cs (c.sequence + 1) end

-- the other known numbers are above the one in use, and all together they are at most eight
-- consecutive ones
abbrev pub IsWindow : PeerIds → Type 0
IsWindow ids = AscendWithin ids.later (ids.active + 1) (ids.active + kept_ids)

-- whether an id is known under the number
abbrev pub knows : PeerIds → ℕ → Bool
knows ids n = (n == ids.active) || list_any (λ c. n == c.sequence) ids.later

-- those with numbers from n on
abbrev pub from : ℕ → List IssuedCid → List IssuedCid
from n = filter (λ c. leb n c.sequence)

-- the least of those with numbers from n on
abbrev pub least_from : ℕ → List IssuedCid → Option IssuedCid
least_from n = find (λ c. leb n c.sequence)

-- the ids with one more, at its place by number; it takes the place of one with the same number
abbrev pub with_cid : List IssuedCid → IssuedCid → List IssuedCid
with_cid [] c = c ∷ []
with_cid (e ∷ es) c = cond (ltb c.sequence e.sequence) (c ∷ e ∷ es) (cond (c.sequence == e.sequence) (c ∷ es) (e ∷ with_cid es c))

-- an id that isn't below the one in use becomes known
abbrev pub known_with : PeerIds → IssuedCid → PeerIds
known_with ids c = cond (c.sequence == ids.active) (record ids { id = c.id }) (record ids { later = with_cid ids.later c })

-- an id above the one in use is used in its place, and those below are known no more
abbrev pub switched_to : IssuedCid → PeerIds → PeerIds
switched_to c ids = record { active = c.sequence; id = c.id; later = from (c.sequence + 1) ids.later }

-- the first of the ids comes into use, and the others are those known above it
abbrev pub first_used : List IssuedCid → PeerIds → PeerIds
first_used [] ids = ids
first_used (c ∷ cs) ids = record { active = c.sequence; id = c.id; later = cs }

-- ---- a NEW_CONNECTION_ID frame comes (RFC 9000, section 19.15)

-- the id that a frame brings
abbrev pub brought : NewConnectionId → IssuedCid
brought f = record { sequence = f.sequence; id = f.id; reset_token = f.reset_token }

-- whether its number lies too far above those that stay
abbrev pub exceeds : PeerIds → NewConnectionId → Bool
exceeds ids f = leb (kept_ids + (f.retire_prior_to - ids.active)) (f.sequence - ids.active)

-- whether it asks for the id in use to be retired
abbrev pub retires_active : PeerIds → NewConnectionId → Bool
retires_active ids f = ltb ids.active f.retire_prior_to

-- the known ids from n on, with one more
abbrev pub known_from : ℕ → IssuedCid → PeerIds → List IssuedCid
known_from n c ids = with_cid (from n ids.later) c

-- the least of these comes into use, and the others are those known above it
abbrev pub used_from : ℕ → IssuedCid → PeerIds → PeerIds
used_from n c ids = first_used (known_from n c ids) ids

-- the known ids that it leaves, with its own
abbrev pub left_by : PeerIds → NewConnectionId → List IssuedCid
left_by ids f = known_from f.retire_prior_to (brought f) ids

-- an accepted frame's id becomes known, and the least that it leaves is used where the one in use
-- is retired
abbrev pub after_accepted : PeerIds → NewConnectionId → PeerIds
after_accepted ids f = cond (retires_active ids f) (first_used (left_by ids f) ids) (known_with ids (brought f))

-- a refused frame changes nothing
abbrev pub after_insert : PeerIds → NewConnectionId → PeerIds
after_insert ids f = cond (ltb f.sequence ids.active || exceeds ids f) ids (after_accepted ids f)

-- the numbers to retire, those from the one that was in use up to the one that is, and no more than
-- were kept; with the token of the id in use now
abbrev pub retired_up_to : ℕ → ℕ → Range ℕ
retired_up_to new old = record { start = old; end = min new (old + kept_ids) }

-- what is retired where the first of these ids comes into use, and its token
abbrev pub retired_for : List IssuedCid → ℕ → Option (Range ℕ × List ℕ)
retired_for [] old = None
retired_for (c ∷ cs) old = Some (retired_up_to c.sequence old, c.reset_token)

-- what a frame that is accepted answers: something where it retires the id in use
abbrev pub accepted_answer : PeerIds → NewConnectionId → Option (Range ℕ × List ℕ)
accepted_answer ids f = cond (retires_active ids f) (retired_for (left_by ids f) ids.active) None

-- what is answered
abbrev pub insert_answer : PeerIds → NewConnectionId → Result (Option (Range ℕ × List ℕ)) InsertError
insert_answer ids f = cond (ltb f.sequence ids.active) (Err Retired) (cond (exceeds ids f) (Err ExceedsLimit) (Ok (accepted_answer ids f)))

-- ---- the next id is used

-- the number of the least known above the one in use
abbrev pub next_after : PeerIds → Option ℕ
next_after ids = option_map (λ cid. cid.sequence) (slice_get ids.later 0)

-- its token, and the numbers to retire, from the one that was in use up to its own
abbrev pub next_answer : List IssuedCid → ℕ → Option (List ℕ × Range ℕ)
next_answer [] old = None
next_answer (c ∷ cs) old = Some (c.reset_token, record { start = old; end = c.sequence })

-- the least known above the one in use is used; nothing changes where there is none
abbrev pub after_next : PeerIds → PeerIds
after_next ids = first_used ids.later ids

-- ---- how the ids above the one in use are kept: a place for each of their numbers

-- the known ones
abbrev pub known_in : List (Option IssuedCid) → List IssuedCid
known_in = filter_map (λ slot. slot)

-- what stands at the place of number n has that number
abbrev pub HasNumber : Option IssuedCid → ℕ → Type 0
HasNumber None n = Unit {0}
HasNumber (Some c) n = c.sequence ≡ n

-- the places are those of the numbers from n on
abbrev pub AreAtNumbers : List (Option IssuedCid) → ℕ → Type 0
AreAtNumbers [] n = Unit {0}
AreAtNumbers (slot ∷ slots) n = HasNumber slot n × AreAtNumbers slots (n + 1)
