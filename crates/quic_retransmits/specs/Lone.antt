-- A set of stream ids of which the only one may stand apart from the others.
use Rattle.std.specs.Prelude.{◌≡◌, ℕ, ◌^◌, ◌<◌, List, [], ◌∷◌, Option, Some, None}
use Rattle.quic_retransmits.specs.Retransmits.{AreIds}

-- the ids: the only one, if it stands apart
abbrev pub all_ids : Option ℕ → List ℕ → List ℕ
all_ids None ids = ids
all_ids (Some id) ids = id ∷ []

-- they are ids of streams, and where the only one stands apart there are no others
abbrev pub AreAllIds : Option ℕ → List ℕ → Type 0
AreAllIds None ids = AreIds ids
AreAllIds (Some id) ids = (id < 2 ^ 62) × (ids ≡ [])
