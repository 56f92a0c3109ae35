-- Every small change keeps the queue: it has the halves that have something to send.
use Rattle.std.proofs.Common.{◌≡◌, ℕ, ◌+◌, List, Bool, true, false, Option, Some, None, refl, sym, ap, ◌∙◌, subst, inl, inr}
use Rattle.std.specs.Prelude.{◌&&◌, ◌||◌, not}
use Rattle.std.specs.Option.{is_some}
use Rattle.std.proofs.lemmas.Bool.{cond_both, cases_eq}
use Rattle.quic_wire_core.specs.declared.stream_id.Side.{Side}
use Rattle.quic_wire_core.specs.StreamId.{dir_of}
use Rattle.quic_streams_parts.specs.Dirs.{is_own, is_two_way}
use Rattle.quic_streams_parts.specs.Table.{at, put, without}
use Rattle.quic_streams_parts.specs.TableLaws.{at-put, at-put-apart, at-apart, at-without, at-without-apart}
use Rattle.quic_streams_parts.specs.Queue.{Place, after_remove, rank_of}
use Rattle.quic_streams_parts.specs.SendHalf.{SendHalf, new_send_half, has_pending, requeued_at, turned_at}
use Rattle.quic_streams_halves.specs.Halves.{Halves, half_of, status_from, has_place, with_half, placed, without_half, is_done}
use Rattle.quic_streams_state.specs.declared.state.StreamsState.{StreamsState}
use Rattle.quic_streams_state.specs.State.{is_opened, sends_on, first_limit, sending_half, with_send, send_done, without_send, done_if, receiving_status, sending_status, seen_at}
use Rattle.quic_streams_state.specs.Sends.{given_up, unqueued}
use Rattle.quic_streams_state.specs.Writing.{put_queued}
use Rattle.quic_streams_state.specs.Telling.{unblocked_at}
use Rattle.quic_streams_laws.specs.Keeping.{Keeps, unblocked}
use Rattle.quic_streams_laws.specs.Keeping as changes
use Rattle.quic_streams_laws.specs.KeepingLaws.{at-half}
use Rattle.quic_streams_laws.specs.Shape.{IsShaped}
use Rattle.quic_streams_laws.specs.ShapeLaws.{shape_kept}
use Rattle.quic_streams_laws.specs.Queued.{place_of, place_at, Stand, IsQueueOf, IsOrderly}
use Rattle.quic_streams_laws.specs.QueueLaws.{stand_same, stand_pushed, stand_removed}

-- elsewhere a half that has another value changes nothing
pub half-apart : {A : Type 0} (side : Side) (h : Halves A) (id : ℕ) (a : A) (q : ℕ) → (q ≡ id → ⊥) → at (with_half side h id a).live q ≡ at h.live q
half-apart {A} side h id a q ne = go (at h.live id) refl
  where
    go : (o : Option A) → at h.live id ≡ o → at (placed o side h id a).live q ≡ at h.live q
    go None is = at-apart h.live id a q ne
    go (Some old) is = at-put-apart h.live id a q ne

-- a half of a stream is in use, or nothing was done on it
pub data WasHalf (s : StreamsState) (id : ℕ) (h : SendHalf) : Type 0 where
  was_live : at s.sending.halves.live id ≡ Some h → WasHalf s id h
  was_fresh : at s.sending.halves.live id ≡ None → has_place s.side s.sending.halves.places id ≡ false → h ≡ new_send_half (first_limit s id) → WasHalf s id h

pub was_half : (s : StreamsState) (id : ℕ) (h : SendHalf) → sending_half s id ≡ Some h → WasHalf s id h
was_half s id h e = go (at s.sending.halves.live id) (sends_on s.side id && is_opened s id) (has_place s.side s.sending.halves.places id) refl refl e
  where
    go : (o : Option SendHalf) (m u : Bool) → at s.sending.halves.live id ≡ o → has_place s.side s.sending.halves.places id ≡ u → half_of (new_send_half (first_limit s id)) (status_from o m u) ≡ Some h → WasHalf s id h
    go (Some b) m u is p f = was_live (is ∙ f)
    go None true false is p f = was_fresh is p (cc)
    go None true true is p f = cc
    go None false u is p f = cc

-- where it stood
place_was : (s : StreamsState) (id : ℕ) (h : SendHalf) → sending_half s id ≡ Some h → place_at s.sending.halves.live id ≡ h.place
place_was s id h e = go (was_half s id h e)
  where
    go : WasHalf s id h → place_at s.sending.halves.live id ≡ h.place
    go (was_live is) = ap place_of is
    go (was_fresh is p same) = ap place_of is ∙ sym (ap (λ x. x.place) same)

-- whether it had something to send
pending_was : (s : StreamsState) (id : ℕ) (h : SendHalf) → sending_half s id ≡ Some h → IsQueueOf s → is_some h.place ≡ has_pending h
pending_was s id h e i = go (was_half s id h e)
  where
    go : WasHalf s id h → is_some h.place ≡ has_pending h
    go (was_live is) = i.pending id h is
    go (was_fresh is p same) = subst (λ x. is_some x.place ≡ has_pending x) (sym same) refl

pub same_half : (a b : SendHalf) (o : Option SendHalf) → o ≡ Some a → o ≡ Some b → a ≡ b
same_half a b o e f = cc

-- the halves that stand there are those that have something to send, once one has another value
pending_with : (s : StreamsState) (id : ℕ) (new : SendHalf) → is_some new.place ≡ has_pending new → ((j : ℕ) (h : SendHalf) → at s.sending.halves.live j ≡ Some h → is_some h.place ≡ has_pending h)
    → (j : ℕ) (h : SendHalf) → at (with_half s.side s.sending.halves id new).live j ≡ Some h → is_some h.place ≡ has_pending h
pending_with s id new same each j h e = elim (cases_eq j id) [
  | inl j_is ↦
      let is : new ≡ h = same_half new h (at (with_half s.side s.sending.halves id new).live id) (at-half s.side s.sending.halves id new) (ap (λ x. at (with_half s.side s.sending.halves id new).live x) (sym j_is) ∙ e) in
      subst (λ x. is_some x.place ≡ has_pending x) is same
  | inr ne ↦ each j h (sym (half-apart s.side s.sending.halves id new j ne) ∙ e)
]

place_here : (s : StreamsState) (id : ℕ) (new : SendHalf) → place_at (with_half s.side s.sending.halves id new).live id ≡ new.place
place_here s id new = ap place_of (at-half s.side s.sending.halves id new)

place_apart : (s : StreamsState) (id : ℕ) (new : SendHalf) (j : ℕ) → (j ≡ id → ⊥) → place_at (with_half s.side s.sending.halves id new).live j ≡ place_at s.sending.halves.live j
place_apart s id new j ne = ap place_of (half-apart s.side s.sending.halves id new j ne)

-- a half that stands where it stood
places_same : (s : StreamsState) (id : ℕ) (old new : SendHalf) → sending_half s id ≡ Some old → new.place ≡ old.place → (j : ℕ) → place_at (with_half s.side s.sending.halves id new).live j ≡ place_at s.sending.halves.live j
places_same s id old new is same j = elim (cases_eq j id) [
  | inl j_is ↦ ap (λ x. place_at (with_half s.side s.sending.halves id new).live x) j_is ∙ (place_here s id new ∙ (same ∙ (sym (place_was s id old is) ∙ ap (λ x. place_at s.sending.halves.live x) (sym j_is))))
  | inr ne ↦ place_apart s id new j ne
]

queue_same : (s : StreamsState) (id : ℕ) (old new : SendHalf) → sending_half s id ≡ Some old → new.place ≡ old.place → has_pending new ≡ has_pending old → IsQueueOf s → IsQueueOf (with_send s id new)
queue_same s id old new is same has i = record {
  stand = stand_same s.sending.queue (place_at s.sending.halves.live) (place_at (with_half s.side s.sending.halves id new).live) (places_same s id old new is same) i.stand;
  pending = pending_with s id new (ap is_some same ∙ (pending_was s id old is i ∙ sym has)) i.pending;
}

queue_put : (s : StreamsState) (id : ℕ) (old new : SendHalf) (b : Bool) → sending_half s id ≡ Some old → has_pending new ≡ b → IsQueueOf s → IsQueueOf (put_queued s id (requeued_at old.place b s.sending.queue id new))
queue_put s id old new b is has i = go old.place b refl has
  where
    f : ℕ → Option Place
    f = place_at s.sending.halves.live

    go : (o : Option Place) (b : Bool) → old.place ≡ o → has_pending new ≡ b → IsQueueOf (put_queued s id (requeued_at o b s.sending.queue id new))
    go None true stood has =
        let half : SendHalf = record new { place = Some (rank_of new.priority, s.sending.queue.next) } in
        record {
          stand = stand_pushed s.sending.queue (place_at s.sending.halves.live) (place_at (with_half s.side s.sending.halves id half).live) (rank_of new.priority) id (place_was s id old is ∙ stood) (place_here s id half) (place_apart s id half) i.stand;
          pending = pending_with s id half (sym has) i.pending;
        }
    go None false stood has =
        let half : SendHalf = record new { place = None } in
        record {
          stand = stand_same s.sending.queue (place_at s.sending.halves.live) (place_at (with_half s.side s.sending.halves id half).live) (places_same s id old half is (sym stood)) i.stand;
          pending = pending_with s id half (sym has) i.pending;
        }
    go (Some place) true stood has =
        let half : SendHalf = record new { place = Some place } in
        record {
          stand = stand_same s.sending.queue (place_at s.sending.halves.live) (place_at (with_half s.side s.sending.halves id half).live) (places_same s id old half is (sym stood)) i.stand;
          pending = pending_with s id half (sym has) i.pending;
        }
    go (Some place) false stood has =
        let half : SendHalf = record new { place = None } in
        record {
          stand = stand_removed s.sending.queue (place_at s.sending.halves.live) (place_at (with_half s.side s.sending.halves id half).live) place id (place_was s id old is ∙ stood) (place_here s id half) (place_apart s id half) i.stand;
          pending = pending_with s id half (sym has) i.pending;
        }

queue_turn : (s : StreamsState) (id : ℕ) (old new : SendHalf) → sending_half s id ≡ Some old → has_pending new ≡ true → IsShaped s → IsQueueOf s → IsQueueOf (put_queued s id (turned_at old.place s.sending.queue id new))
queue_turn s id old new is has shape i = go old.place refl
  where
    go : (o : Option Place) → old.place ≡ o → IsQueueOf (put_queued s id (turned_at o s.sending.queue id new))
    go None stood =
        let half : SendHalf = record new { place = Some (rank_of new.priority, s.sending.queue.next) } in
        record {
          stand = stand_pushed s.sending.queue (place_at s.sending.halves.live) (place_at (with_half s.side s.sending.halves id half).live) (rank_of new.priority) id (place_was s id old is ∙ stood) (place_here s id half) (place_apart s id half) i.stand;
          pending = pending_with s id half (sym has) i.pending;
        }
    go (Some place) stood =
        let half : SendHalf = record new { place = Some (rank_of new.priority, s.sending.queue.next) } in
        let mid : ℕ → Option Place = place_at (without s.sending.halves.live id) in
        let left : Stand (after_remove s.sending.queue place) mid = stand_removed s.sending.queue (place_at s.sending.halves.live) mid place id (place_was s id old is ∙ stood) (ap place_of (at-without s.sending.halves.live id shape.sending.sorted)) (λ j ne. ap place_of (at-without-apart s.sending.halves.live id j ne)) i.stand in
        record {
          stand = stand_pushed (after_remove s.sending.queue place) mid (place_at (with_half s.side s.sending.halves id half).live) (rank_of new.priority) id (ap place_of (at-without s.sending.halves.live id shape.sending.sorted)) (place_here s id half)
              (λ j ne. place_apart s id half j ne ∙ sym (ap place_of (at-without-apart s.sending.halves.live id j ne))) left;
          pending = pending_with s id half (sym has) i.pending;
        }

pub gone_half : (o : Option SendHalf) (h : SendHalf) → o ≡ None → o ≡ Some h → ⊥
gone_half o h e f = cc

queue_done : (b : Bool) (id : ℕ) (s : StreamsState) → IsQueueOf s → IsQueueOf (done_if b id s)
queue_done true id s i = record { stand = i.stand; pending = i.pending }
queue_done false id s i = i

-- the half that is done stands there no more
stand_without : (s : StreamsState) (id : ℕ) (h : SendHalf) → at s.sending.halves.live id ≡ Some h → IsShaped s → IsQueueOf s → Stand (given_up h.place s.sending.queue) (place_at (without s.sending.halves.live id))
stand_without s id h is shape i = go h.place refl
  where
    here : place_at (without s.sending.halves.live id) id ≡ None
    here = ap place_of (at-without s.sending.halves.live id shape.sending.sorted)

    apart : (j : ℕ) → (j ≡ id → ⊥) → place_at (without s.sending.halves.live id) j ≡ place_at s.sending.halves.live j
    apart j ne = ap place_of (at-without-apart s.sending.halves.live id j ne)

    go : (o : Option Place) → h.place ≡ o → Stand (given_up o s.sending.queue) (place_at (without s.sending.halves.live id))
    go None stood = stand_same s.sending.queue (place_at s.sending.halves.live) (place_at (without s.sending.halves.live id)) same i.stand
      where
        same : (j : ℕ) → place_at (without s.sending.halves.live id) j ≡ place_at s.sending.halves.live j
        same j = elim (cases_eq j id) [
          | inl j_is ↦ ap (λ x. place_at (without s.sending.halves.live id) x) j_is ∙ (here ∙ (sym stood ∙ (sym (ap place_of is) ∙ ap (λ x. place_at s.sending.halves.live x) (sym j_is))))
          | inr ne ↦ apart j ne
        ]
    go (Some place) stood = stand_removed s.sending.queue (place_at s.sending.halves.live) (place_at (without s.sending.halves.live id)) place id (ap place_of is ∙ stood) here apart i.stand

queue_sent : (s : StreamsState) (id : ℕ) (h : SendHalf) → at s.sending.halves.live id ≡ Some h → IsShaped s → IsQueueOf s → IsQueueOf (send_done s id)
queue_sent s id h is shape i = queue_done (not (is_own s.side id) && is_done (receiving_status s id)) id (without_send s id) (record { stand = stand; pending = pending })
  where
    stand : Stand (unqueued (at s.sending.halves.live id) s.sending.queue) (place_at (without s.sending.halves.live id))
    stand = subst (λ o. Stand (unqueued o s.sending.queue) (place_at (without s.sending.halves.live id))) (sym is) (stand_without s id h is shape i)

    pending : (j : ℕ) (g : SendHalf) → at (without s.sending.halves.live id) j ≡ Some g → is_some g.place ≡ has_pending g
    pending j g e = elim (cases_eq j id) [
      | inl j_is ↦ absurd (gone_half (at (without s.sending.halves.live id) id) g (at-without s.sending.halves.live id shape.sending.sorted) (ap (λ x. at (without s.sending.halves.live id) x) (sym j_is) ∙ e))
      | inr ne ↦ i.pending j g (sym (at-without-apart s.sending.halves.live id j ne) ∙ e)
    ]

queue_passes : (s : StreamsState) (id : ℕ) (ids : List ℕ) → IsQueueOf s → IsQueueOf (unblocked s id ids)
queue_passes s id ids i = go (at s.sending.halves.live id) refl
  where
    go : (o : Option SendHalf) → at s.sending.halves.live id ≡ o → IsQueueOf (record s { sending = record s.sending { blocked = ids; halves = record s.sending.halves { live = unblocked_at o s.sending.halves.live id } } })
    go None is = record { stand = i.stand; pending = i.pending }
    go (Some h) is = record { stand = stand_same s.sending.queue (place_at s.sending.halves.live) (place_at (put s.sending.halves.live id (record h { blocked = false }))) same i.stand; pending = pending }
      where
        here : at (put s.sending.halves.live id (record h { blocked = false })) id ≡ Some (record h { blocked = false })
        here = at-put s.sending.halves.live id h (record h { blocked = false }) is

        same : (j : ℕ) → place_at (put s.sending.halves.live id (record h { blocked = false })) j ≡ place_at s.sending.halves.live j
        same j = elim (cases_eq j id) [
          | inl j_is ↦ ap (λ x. place_at (put s.sending.halves.live id (record h { blocked = false })) x) j_is ∙ (ap place_of here ∙ (sym (ap place_of is) ∙ ap (λ x. place_at s.sending.halves.live x) (sym j_is)))
          | inr ne ↦ ap place_of (at-put-apart s.sending.halves.live id (record h { blocked = false }) j ne)
        ]

        pending : (j : ℕ) (g : SendHalf) → at (put s.sending.halves.live id (record h { blocked = false })) j ≡ Some g → is_some g.place ≡ has_pending g
        pending j g e = elim (cases_eq j id) [
          | inl j_is ↦
              let g_is : record h { blocked = false } ≡ g = same_half (record h { blocked = false }) g (at (put s.sending.halves.live id (record h { blocked = false })) id) here (ap (λ x. at (put s.sending.halves.live id (record h { blocked = false })) x) (sym j_is) ∙ e) in
              subst (λ x. is_some x.place ≡ has_pending x) g_is (i.pending id h is)
          | inr ne ↦ i.pending j g (sym (at-put-apart s.sending.halves.live id (record h { blocked = false }) j ne) ∙ e)
        ]

-- the receiving parts, the counts and what the application is told have no part in it
pub queue_kept : Keeps IsOrderly
queue_kept (changes.changes_sending id old new) s (is, on, same) i = record { shape = shape_kept (changes.changes_sending id old new) s (is, on, same) i.shape; queue = queue_same s id old new is on.stands.place same i.queue }
queue_kept (changes.queues id old new b) s (is, on, has) i = record { shape = shape_kept (changes.queues id old new b) s (is, on, has) i.shape; queue = queue_put s id old new b is has i.queue }
queue_kept (changes.turns id old new) s (is, on, has) i = record { shape = shape_kept (changes.turns id old new) s (is, on, has) i.shape; queue = queue_turn s id old new is has i.shape i.queue }
queue_kept (changes.writes id n old new) s (is, on, has) i = let w = queue_put s id old new true is has i.queue in record { shape = shape_kept (changes.writes id n old new) s (is, on, has) i.shape; queue = record { stand = w.stand; pending = w.pending } }
queue_kept (changes.joins id h) s is i = record { shape = shape_kept (changes.joins id h) s is i.shape; queue = cond_both h.blocked s _ IsQueueOf (λ e. i.queue) (λ e. let w = queue_same s id h (record h { blocked = true }) is refl refl i.queue in record { stand = w.stand; pending = w.pending }) }
queue_kept (changes.passes id ids) s is i = record { shape = shape_kept (changes.passes id ids) s is i.shape; queue = queue_passes s id ids i.queue }
queue_kept (changes.ends_sending id h) s (is, over) i = record { shape = shape_kept (changes.ends_sending id h) s (is, over) i.shape; queue = queue_sent s id h is i.shape i.queue }
queue_kept (changes.ends_receiving id h) s is i = record { shape = shape_kept (changes.ends_receiving id h) s is i.shape; queue = queue_done (not (is_own s.side id) && (not (is_two_way (dir_of id)) || is_done (sending_status s id))) id (record s { receiving = record s.receiving { halves = without_half s.receiving.halves id; gone = s.receiving.gone + seen_at (at s.receiving.halves.live id) } }) (record { stand = i.queue.stand; pending = i.queue.pending }) }
queue_kept (changes.notes_on id h said) s is i = record { shape = shape_kept (changes.notes_on id h said) s is i.shape; queue = queue_same s id h (record h { said = said }) is refl refl i.queue }
queue_kept c s may i = record { shape = shape_kept c s may i.shape; queue = record { stand = i.queue.stand; pending = i.queue.pending } }
