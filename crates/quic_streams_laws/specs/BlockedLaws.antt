-- Every small change keeps the list of the halves whose write the connection blocked.
use Rattle.std.proofs.Common.{◌≡◌, ℕ, ◌+◌, List, ◌∷◌, Bool, true, false, Option, Some, None, refl, sym, ap, ◌∙◌, subst, inl, inr}
use Rattle.std.specs.Prelude.{◌==◌, ◌&&◌, ◌||◌, not}
use Rattle.std.proofs.lemmas.Bool.{cond_both, cases_eq, both_ways, or_cases, or_left, or_right, eqb-true, eq-eqb, ne_eqb, false_from_ne_true}
use Rattle.quic_wire_core.specs.StreamId.{dir_of}
use Rattle.quic_streams_parts.specs.Dirs.{is_own, is_two_way}
use Rattle.quic_streams_parts.specs.Table.{at, put, without}
use Rattle.quic_streams_parts.specs.TableLaws.{at-put, at-put-apart, at-without, at-without-apart}
use Rattle.quic_streams_parts.specs.SendHalf.{SendHalf, Queued, requeued_at, turned_at}
use Rattle.quic_streams_halves.specs.Halves.{Halves, has_place, with_half, placed, without_half, is_done}
use Rattle.quic_streams_state.specs.declared.state.StreamsState.{StreamsState}
use Rattle.quic_streams_state.specs.State.{is_opened, sends_on, sending_half, with_send, send_done, without_send, done_if, receiving_status, sending_status, seen_at}
use Rattle.quic_streams_state.specs.Writing.{put_queued}
use Rattle.quic_streams_state.specs.Telling.{unblocked_at}
use Rattle.quic_streams_laws.specs.Keeping.{Keeps, unblocked}
use Rattle.quic_streams_laws.specs.Keeping as changes
use Rattle.quic_streams_laws.specs.KeepingLaws.{at-half}
use Rattle.quic_streams_laws.specs.Shape.{IsShaped, AreHalves, ArePlaces}
use Rattle.quic_streams_laws.specs.ShapeLaws.{shape_kept, place_kept, halves_with, sends_may}
use Rattle.quic_streams_laws.specs.Queued.{has_in, AreOnce, AreBlocked, IsBlockedRight}
use Rattle.quic_streams_laws.specs.QueuedLaws.{WasHalf, was_live, was_fresh, was_half, half-apart, same_half, gone_half}

-- places stay
half_places : {A : Type 0} (h : Halves A) (s : StreamsState) (id : ℕ) (a : A) (q : ℕ) → ArePlaces h.places → has_place s.side h.places q ≡ true → has_place s.side (with_half s.side h id a).places q ≡ true
half_places {A} h s id a q runs e = go (at h.live id)
  where
    go : (o : Option A) → has_place s.side (placed o s.side h id a).places q ≡ true
    go None = place_kept s.side id q h.places runs e
    go (Some old) = e

-- whether a half is among them
blocked_was : (s : StreamsState) (id : ℕ) (h : SendHalf) → sending_half s id ≡ Some h → AreBlocked s → h.blocked ≡ has_in s.sending.blocked id
blocked_was s id h e i = go (was_half s id h e)
  where
    go : WasHalf s id h → h.blocked ≡ has_in s.sending.blocked id
    go (was_live is) = i.told id h is
    go (was_fresh is p same) = ap (λ x. x.blocked) same ∙ sym (false_from_ne_true (has_in s.sending.blocked id) (λ f. both_ways (has_place s.side s.sending.halves.places id) p (i.used id f)))

-- once one has another value, each says so as before
told_with : (s : StreamsState) (id : ℕ) (new : SendHalf) (ids : List ℕ) → new.blocked ≡ has_in ids id → ((j : ℕ) (h : SendHalf) → (j ≡ id → ⊥) → at s.sending.halves.live j ≡ Some h → h.blocked ≡ has_in ids j)
    → (j : ℕ) (h : SendHalf) → at (with_half s.side s.sending.halves id new).live j ≡ Some h → h.blocked ≡ has_in ids j
told_with s id new ids here each j h e = elim (cases_eq j id) [
  | inl j_is ↦
      let is : new ≡ h = same_half new h (at (with_half s.side s.sending.halves id new).live id) (at-half s.side s.sending.halves id new) (ap (λ x. at (with_half s.side s.sending.halves id new).live x) (sym j_is) ∙ e) in
      ap (λ x. x.blocked) (sym is) ∙ (here ∙ ap (λ x. has_in ids x) (sym j_is))
  | inr ne ↦ each j h ne (sym (half-apart s.side s.sending.halves id new j ne) ∙ e)
]

blocked_same : (s : StreamsState) (id : ℕ) (old new : SendHalf) → sending_half s id ≡ Some old → new.blocked ≡ old.blocked → IsShaped s → AreBlocked s → AreBlocked (with_send s id new)
blocked_same s id old new is same shape i = record {
  once = i.once;
  told = told_with s id new s.sending.blocked (same ∙ blocked_was s id old is i) (λ j h ne e. i.told j h e);
  used = λ j e. half_places s.sending.halves s id new j shape.sending.runs (i.used j e);
}

blocked_put : (s : StreamsState) (id : ℕ) (old : SendHalf) (q : Queued) → sending_half s id ≡ Some old → q.half.blocked ≡ old.blocked → IsShaped s → AreBlocked s → AreBlocked (put_queued s id q)
blocked_put s id old q is same shape i = let w = blocked_same s id old q.half is same shape i in record { once = w.once; told = w.told; used = w.used }

requeued_blocked : (o : Option (ℕ × ℕ)) (b : Bool) (q : _) (id : ℕ) (h : SendHalf) → (requeued_at o b q id h).half.blocked ≡ h.blocked
requeued_blocked None true q id h = refl
requeued_blocked None false q id h = refl
requeued_blocked (Some place) true q id h = refl
requeued_blocked (Some place) false q id h = refl

turned_blocked : (o : Option (ℕ × ℕ)) (q : _) (id : ℕ) (h : SendHalf) → (turned_at o q id h).half.blocked ≡ h.blocked
turned_blocked None q id h = refl
turned_blocked (Some place) q id h = refl

-- what is not the first is among the others
has_behind : (x : ℕ) (xs : List ℕ) (j : ℕ) → (j ≡ x → ⊥) → has_in (x ∷ xs) j ≡ has_in xs j
has_behind x xs j ne = rw (ne_eqb j x ne) refl

blocked_joins : (s : StreamsState) (id : ℕ) (h : SendHalf) → sending_half s id ≡ Some h → h.blocked ≡ false → IsShaped s → AreBlocked s
    → AreBlocked (let t = with_send s id (record h { blocked = true }) in record t { sending = record t.sending { blocked = id ∷ t.sending.blocked } })
blocked_joins s id h is free shape i =
    let new : SendHalf = record h { blocked = true } in
    let now : AreHalves s.side (λ id. sends_on s.side id && is_opened s id) (with_half s.side s.sending.halves id new) = halves_with s.side (λ id. sends_on s.side id && is_opened s id) s.sending.halves id new (sends_may s id h shape is) shape.sending in
    record {
      once = (sym (blocked_was s id h is i) ∙ free, i.once);
      told = told_with s id new (id ∷ s.sending.blocked) (sym (or_left (id == id) (has_in s.sending.blocked id) (eq-eqb id id refl))) (λ j g ne e. i.told j g e ∙ sym (has_behind id s.sending.blocked j ne));
      used = λ j e. elim (or_cases (j == id) (has_in s.sending.blocked j) e) [
        | inl same ↦ subst (λ x. has_place s.side (with_half s.side s.sending.halves id new).places x ≡ true) (sym (eqb-true j id same)) (now.placed id new (at-half s.side s.sending.halves id new))
        | inr there ↦ half_places s.sending.halves s id new j shape.sending.runs (i.used j there)
      ];
    }

blocked_passes : (s : StreamsState) (id : ℕ) (ids : List ℕ) → s.sending.blocked ≡ id ∷ ids → AreBlocked s → AreBlocked (unblocked s id ids)
blocked_passes s id ids is i = go (at s.sending.halves.live id) refl
  where
    once : AreOnce (id ∷ ids)
    once = subst AreOnce is i.once

    told : (j : ℕ) (h : SendHalf) → (j ≡ id → ⊥) → at s.sending.halves.live j ≡ Some h → h.blocked ≡ has_in ids j
    told j h ne e = i.told j h e ∙ (ap (λ x. has_in x j) is ∙ has_behind id ids j ne)

    used : (j : ℕ) → has_in ids j ≡ true → has_place s.side s.sending.halves.places j ≡ true
    used j e = i.used j (ap (λ x. has_in x j) is ∙ or_right (j == id) (has_in ids j) e)

    go : (o : Option SendHalf) → at s.sending.halves.live id ≡ o → AreBlocked (record s { sending = record s.sending { blocked = ids; halves = record s.sending.halves { live = unblocked_at o s.sending.halves.live id } } })
    go None none = record { once = once.1; told = λ j h e. elim (cases_eq j id) [ inl j_is ↦ absurd (gone_half (at s.sending.halves.live id) h none (ap (λ x. at s.sending.halves.live x) (sym j_is) ∙ e)) | inr ne ↦ told j h ne e ]; used = used }
    go (Some h) there = record { once = once.1; told = now; used = used }
      where
        new : SendHalf
        new = record h { blocked = false }

        now : (j : ℕ) (g : SendHalf) → at (put s.sending.halves.live id (record h { blocked = false })) j ≡ Some g → g.blocked ≡ has_in ids j
        now j g e = elim (cases_eq j id) [
          | inl j_is ↦
              let g_is : record h { blocked = false } ≡ g = same_half (record h { blocked = false }) g (at (put s.sending.halves.live id (record h { blocked = false })) id) (at-put s.sending.halves.live id h (record h { blocked = false }) there) (ap (λ x. at (put s.sending.halves.live id (record h { blocked = false })) x) (sym j_is) ∙ e) in
              ap (λ x. x.blocked) (sym g_is) ∙ (sym once.0 ∙ ap (λ x. has_in ids x) (sym j_is))
          | inr ne ↦ told j g ne (sym (at-put-apart s.sending.halves.live id (record h { blocked = false }) j ne) ∙ e)
        ]

blocked_done : (b : Bool) (id : ℕ) (s : StreamsState) → AreBlocked s → AreBlocked (done_if b id s)
blocked_done true id s i = record { once = i.once; told = i.told; used = i.used }
blocked_done false id s i = i

blocked_sent : (s : StreamsState) (id : ℕ) → IsShaped s → AreBlocked s → AreBlocked (send_done s id)
blocked_sent s id shape i = blocked_done (not (is_own s.side id) && is_done (receiving_status s id)) id (without_send s id) (record {
  once = i.once;
  told = λ j h e. elim (cases_eq j id) [
    | inl j_is ↦ absurd (gone_half (at (without s.sending.halves.live id) id) h (at-without s.sending.halves.live id shape.sending.sorted) (ap (λ x. at (without s.sending.halves.live id) x) (sym j_is) ∙ e))
    | inr ne ↦ i.told j h (sym (at-without-apart s.sending.halves.live id j ne) ∙ e)
  ];
  used = i.used;
})

pub blocked_kept : Keeps IsBlockedRight
blocked_kept (changes.changes_sending id old new) s (is, on, same) i = record { shape = shape_kept (changes.changes_sending id old new) s (is, on, same) i.shape; blocked = blocked_same s id old new is on.stands.blocked i.shape i.blocked }
blocked_kept (changes.queues id old new b) s (is, on, has) i = record { shape = shape_kept (changes.queues id old new b) s (is, on, has) i.shape; blocked = blocked_put s id old (requeued_at old.place b s.sending.queue id new) is (requeued_blocked old.place b s.sending.queue id new ∙ on.stands.blocked) i.shape i.blocked }
blocked_kept (changes.turns id old new) s (is, on, has) i = record { shape = shape_kept (changes.turns id old new) s (is, on, has) i.shape; blocked = blocked_put s id old (turned_at old.place s.sending.queue id new) is (turned_blocked old.place s.sending.queue id new ∙ on.stands.blocked) i.shape i.blocked }
blocked_kept (changes.writes id n old new) s (is, on, has) i = let w = blocked_put s id old (requeued_at old.place true s.sending.queue id new) is (requeued_blocked old.place true s.sending.queue id new ∙ on.stands.blocked) i.shape i.blocked in record { shape = shape_kept (changes.writes id n old new) s (is, on, has) i.shape; blocked = record { once = w.once; told = w.told; used = w.used } }
blocked_kept (changes.joins id h) s is i = record { shape = shape_kept (changes.joins id h) s is i.shape; blocked = cond_both h.blocked s _ AreBlocked (λ e. i.blocked) (λ e. blocked_joins s id h is e i.shape i.blocked) }
blocked_kept (changes.passes id ids) s is i = record { shape = shape_kept (changes.passes id ids) s is i.shape; blocked = blocked_passes s id ids is i.blocked }
blocked_kept (changes.ends_sending id h) s (is, over) i = record { shape = shape_kept (changes.ends_sending id h) s (is, over) i.shape; blocked = blocked_sent s id i.shape i.blocked }
blocked_kept (changes.ends_receiving id h) s is i = record { shape = shape_kept (changes.ends_receiving id h) s is i.shape; blocked = blocked_done (not (is_own s.side id) && (not (is_two_way (dir_of id)) || is_done (sending_status s id))) id (record s { receiving = record s.receiving { halves = without_half s.receiving.halves id; gone = s.receiving.gone + seen_at (at s.receiving.halves.live id) } }) (record { once = i.blocked.once; told = i.blocked.told; used = i.blocked.used }) }
blocked_kept (changes.notes_on id h said) s is i = record { shape = shape_kept (changes.notes_on id h said) s is i.shape; blocked = blocked_same s id h (record h { said = said }) is refl i.shape i.blocked }
blocked_kept c s may i = record { shape = shape_kept c s may i.shape; blocked = record { once = i.blocked.once; told = i.blocked.told; used = i.blocked.used } }
