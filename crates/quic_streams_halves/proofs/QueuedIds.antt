-- What is queued stays the ids of streams.
use Rattle.std.proofs.Common.{ℕ, ◌^◌, ◌<◌, List, [], ◌∷◌, Bool, true, false, cond}
use Rattle.std.specs.Ordering.{match_ordering}
use Rattle.std.specs.declared.cmp.Ordering.{Ordering}
use Rattle.std.specs.declared.cmp.Ordering.TheVariants.{Less, Equal, Greater}
use Rattle.std.specs.BTreeMap.{insert_entry}
use Rattle.std.specs.Map.{remove_entry}
use Rattle.quic_streams_parts.specs.Queue.{Place, place_cmp}
use Rattle.quic_streams_halves.specs.Queued.{AreQueuedIds}

-- one more
pub ids_inserted : (es : List (Place × ℕ)) (place : Place) (id : ℕ) → id < 2 ^ 62 → AreQueuedIds es → AreQueuedIds (insert_entry place_cmp es place id)
ids_inserted [] place id small h = (small, tt)
ids_inserted (e ∷ es) place id small h = go (place_cmp place e.0) (ids_inserted es place id small h.1)
  where
    go : (r : Ordering) → AreQueuedIds (insert_entry place_cmp es place id) → AreQueuedIds (match_ordering r ((place, id) ∷ e ∷ es) ((e.0, id) ∷ es) (e ∷ insert_entry place_cmp es place id))
    go Less ih = (small, h)
    go Equal ih = (small, h.1)
    go Greater ih = (h.0, ih)

-- one less
pub ids_removed : (test : Place → Bool) (es : List (Place × ℕ)) → AreQueuedIds es → AreQueuedIds (remove_entry test es)
ids_removed test [] h = h
ids_removed test (e ∷ es) h = go (test e.0) (ids_removed test es h.1)
  where
    go : (b : Bool) → AreQueuedIds (remove_entry test es) → AreQueuedIds (cond b es (e ∷ remove_entry test es))
    go true ih = h.1
    go false ih = (h.0, ih)
