-- The halves that are in use, and the places of those that ever were.
use Rattle.std.specs.Prelude.{◌≡◌, ℕ, Bool, true, ◌&&◌, Some}
use Rattle.std.specs.Ordering.{nat_cmp}
use Rattle.std.specs.List.Sorted.{IsStrictlySortedBy}
use Rattle.std.specs.Map.{keys_of}
use Rattle.quic_wire_core.specs.declared.stream_id.Side.{Side}
use Rattle.quic_sets.specs.Runs.{AreRuns}
use Rattle.quic_streams_halves.specs.declared.places.Places.{Places}
use Rattle.quic_streams_parts.specs.Table.{at}
use Rattle.quic_streams_halves.specs.Halves.{Halves, has_place}
use Rattle.quic_streams_state.specs.declared.state.StreamsState.{StreamsState}
use Rattle.quic_streams_state.specs.State.{is_opened, sends_on, receives_on}

-- each set of places is that of its runs
pub record ArePlaces (p : Places) : Type 0 where
  pub own_bi : AreRuns p.own.bi
  pub own_uni : AreRuns p.own.uni
  pub remote_bi : AreRuns p.remote.bi
  pub remote_uni : AreRuns p.remote.uni

-- the halves of one way stand in the order of their ids; each that is in use has its place; and a
-- place is that of a stream on which there may be such a half
pub record AreHalves {A : Type 0} (side : Side) (may : ℕ → Bool) (h : Halves A) : Type 0 where
  pub sorted : IsStrictlySortedBy nat_cmp (keys_of h.live)
  pub runs : ArePlaces h.places
  pub placed : (id : ℕ) (a : A) → at h.live id ≡ Some a → has_place side h.places id ≡ true
  pub allowed : (id : ℕ) → has_place side h.places id ≡ true → may id ≡ true

-- sending halves stand on opened streams on which this end may send, receiving ones where the peer
-- may
pub record IsShaped (s : StreamsState) : Type 0 where
  pub sending : AreHalves s.side (λ id. sends_on s.side id && is_opened s id) s.sending.halves
  pub receiving : AreHalves s.side (λ id. receives_on s.side id && is_opened s id) s.receiving.halves
