-- Every small change keeps the limits.
use Rattle.std.proofs.Common.{◌≡◌, ℕ, ◌+◌, ◌≤◌, List, Bool, true, false, Option, Some, None, refl, sym, ap, ◌∙◌, subst, arith, ◌⊎◌, inl, inr}
use Rattle.std.specs.Prelude.{◌&&◌, ◌||◌, not}
use Rattle.std.specs.Option.{unwrap_or, option_map}
use Rattle.std.specs.List.{sum_by}
use Rattle.std.specs.Ordering.{nat_cmp}
use Rattle.std.specs.Cmp.{nat_cmp_total}
use Rattle.std.specs.BTreeMap.{is_at}
use Rattle.std.specs.List.Sorted.{IsStrictlySortedBy}
use Rattle.std.specs.Map.{keys_of, values_of}
use Rattle.std.proofs.lemmas.Map.Entries.{sum_by-set_value, sum_by-remove_entry, sum_by-insert_entry}
use Rattle.std.proofs.lemmas.Bool.{cond_both, cases_eq}
use Rattle.quic_wire_core.specs.declared.stream_id.Side.{Side}
use Rattle.quic_wire_core.specs.declared.stream_id.Dir.{Dir}
use Rattle.quic_wire_core.specs.declared.stream_id.Dir.TheVariants.{Bi, Uni}
use Rattle.quic_wire_core.specs.StreamId.{dir_of, index_of}
use Rattle.quic_streams_parts.specs.Dirs.{of, is_own, is_two_way}
use Rattle.quic_streams_parts.specs.Table.{at, put, added, without}
use Rattle.quic_streams_parts.specs.TableLaws.{at-put, at-put-apart, at-without, at-without-apart}
use Rattle.quic_streams_parts.specs.SendHalf.{SendHalf, Queued, written_on, requeued_at, turned_at}
use Rattle.quic_streams_parts.specs.RecvHalf.{RecvHalf, new_recv_half, credit, raised_on, greatest_offset}
use Rattle.quic_streams_halves.specs.Halves.{Halves, half_of, status_from, has_place, with_half, placed, without_half, is_done}
use Rattle.quic_streams_state.specs.declared.state.StreamsState.{StreamsState}
use Rattle.quic_streams_state.specs.State.{Receiving, Opening, seen, is_opened, receives_on, first_window, sending_half, receiving_half, with_send, with_recv, send_done, without_send, recv_done, done_if, one_done, receiving_status, sending_status, seen_at, room}
use Rattle.quic_streams_state.specs.Limits.{raised_data, raised_count}
use Rattle.quic_streams_state.specs.Opening.{with_remote, announced_count}
use Rattle.quic_streams_state.specs.Writing.{put_queued}
use Rattle.quic_streams_state.specs.Telling.{unblocked_at}
use Rattle.quic_streams_laws.specs.Keeping.{Keeps, SeesMore, CreditIs, all_of_it, as_before, some_more, ReceivesOn, SendsOn, WritesOn, unblocked}
use Rattle.quic_streams_laws.specs.Keeping as changes
use Rattle.quic_streams_laws.specs.KeepingLaws.{at-half}
use Rattle.quic_streams_laws.specs.Shape.{IsShaped}
use Rattle.quic_streams_laws.specs.ShapeLaws.{shape_kept}
use Rattle.quic_streams_laws.specs.QueuedLaws.{WasHalf, was_live, was_fresh, was_half, half-apart, same_half, gone_half}
use Rattle.quic_streams_laws.specs.Limited.{IsWithin, AreWithin, IsLimited}

-- ---- sums over the halves

module _ {A : Type 0} (f : A → ℕ) where
  same_value : (a b : A) (o : Option A) → o ≡ Some a → o ≡ Some b → a ≡ b
  same_value a b o e g = cc

  -- one has another value, or comes into use
  pub sum_with : (side : Side) (h : Halves A) (id : ℕ) (old new : A) → IsStrictlySortedBy nat_cmp (keys_of h.live) → (at h.live id ≡ Some old) ⊎ ((at h.live id ≡ None) × (f old ≡ 0))
      → sum_by f (values_of (with_half side h id new).live) + f old ≡ sum_by f (values_of h.live) + f new
  sum_with side h id old new sorted (inl is) =
      let total : sum_by f (values_of (put h.live id new)) + f old ≡ sum_by f (values_of h.live) + f new = sum_by-set_value f (is_at (nat_cmp id)) h.live old new is in
      subst (λ o. sum_by f (values_of (placed o side h id new).live) + f old ≡ sum_by f (values_of h.live) + f new) (sym is) total
  sum_with side h id old new sorted (inr is) =
      let P : Option A → Type 0 = λ r. sum_by f (values_of (added h.live id new)) + unwrap_or (option_map f r) 0 ≡ sum_by f (values_of h.live) + f new in
      let total : P None = subst P is.0 (sum_by-insert_entry f nat_cmp_total h.live id new sorted) in
      let nothing : f old ≡ 0 = is.1 in
      let now : sum_by f (values_of (added h.live id new)) + f old ≡ sum_by f (values_of h.live) + f new = omega arith in
      subst (λ o. sum_by f (values_of (placed o side h id new).live) + f old ≡ sum_by f (values_of h.live) + f new) (sym is.0) now

  -- one is done
  pub sum_without : (h : Halves A) (id : ℕ) (old : A) → at h.live id ≡ Some old → sum_by f (values_of (without_half h id).live) + f old ≡ sum_by f (values_of h.live)
  sum_without h id old is =
      let P : Option A → Type 0 = λ r. sum_by f (values_of (without h.live id)) + unwrap_or (option_map f r) 0 ≡ sum_by f (values_of h.live) in
      subst P is (sum_by-remove_entry f (is_at (nat_cmp id)) h.live)

-- ---- receiving halves

-- a half of a stream is in use, or nothing was done on it
pub data WasReceiving (s : StreamsState) (id : ℕ) (h : RecvHalf) : Type 0 where
  in_use : at s.receiving.halves.live id ≡ Some h → WasReceiving s id h
  unused : at s.receiving.halves.live id ≡ None → has_place s.side s.receiving.halves.places id ≡ false → h ≡ new_recv_half (first_window s.receiving) → WasReceiving s id h

pub was_receiving : (s : StreamsState) (id : ℕ) (h : RecvHalf) → receiving_half s id ≡ Some h → WasReceiving s id h
was_receiving s id h e = go (at s.receiving.halves.live id) (receives_on s.side id && is_opened s id) (has_place s.side s.receiving.halves.places id) refl refl e
  where
    go : (o : Option RecvHalf) (m u : Bool) → at s.receiving.halves.live id ≡ o → has_place s.side s.receiving.halves.places id ≡ u → half_of (new_recv_half (first_window s.receiving)) (status_from o m u) ≡ Some h → WasReceiving s id h
    go (Some b) m u is p f = in_use (is ∙ f)
    go None true false is p f = unused is p (cc)
    go None true true is p f = cc
    go None false u is p f = cc

fresh_within : (window : ℕ) → window ≤ greatest_offset → IsWithin window (new_recv_half window)
fresh_within window small = record { consumed = omega arith; seen = omega arith; announced = omega arith; ended = λ size e. cc }

pub within_was : (s : StreamsState) (id : ℕ) (h : RecvHalf) → receiving_half s id ≡ Some h → AreWithin s → IsWithin s.receiving.stream_window h
within_was s id h e i = go (was_receiving s id h e)
  where
    go : WasReceiving s id h → IsWithin s.receiving.stream_window h
    go (in_use is) = i.halves id h is
    go (unused is free same) = subst (IsWithin s.receiving.stream_window) (sym same) (fresh_within s.receiving.stream_window i.window)

-- where a sum counts nothing of a fresh half, it counts what a half had
pub counted : (f : RecvHalf → ℕ) (s : StreamsState) (id : ℕ) (h : RecvHalf) → receiving_half s id ≡ Some h → f (new_recv_half (first_window s.receiving)) ≡ 0 → (at s.receiving.halves.live id ≡ Some h) ⊎ ((at s.receiving.halves.live id ≡ None) × (f h ≡ 0))
counted f s id h e zero = go (was_receiving s id h e)
  where
    go : WasReceiving s id h → (at s.receiving.halves.live id ≡ Some h) ⊎ ((at s.receiving.halves.live id ≡ None) × (f h ≡ 0))
    go (in_use is) = inl is
    go (unused is free same) = inr (is, ap f same ∙ zero)

-- a half on which something came stays within its limits
pub within_on : (r : Receiving) (old new : RecvHalf) → ReceivesOn r old new → IsWithin r.stream_window old → IsWithin r.stream_window new × (credit old ≤ credit new)
within_on r old new on w = go on.sees on.credit
  where
    go : (new.seen ≡ old.seen) ⊎ SeesMore r old new → CreditIs old new → IsWithin r.stream_window new × (credit old ≤ credit new)
    go sees credits = (record { consumed = holds sees credits; seen = near sees; announced = far; ended = on.ended w.ended }, gains sees credits)
      where
        near : (new.seen ≡ old.seen) ⊎ SeesMore r old new → new.seen ≤ new.announced
        near (inl same) = let a = on.announced in let b = w.seen in omega arith
        near (inr more) = let a = on.announced in let b = more.announced in omega arith

        rises : (new.seen ≡ old.seen) ⊎ SeesMore r old new → old.seen ≤ new.seen
        rises (inl same) = omega arith
        rises (inr more) = more.more

        far : new.announced ≤ raised_on r.stream_window new
        far = let a = on.announced in let b = w.announced in let c = on.read in omega arith

        holds : (new.seen ≡ old.seen) ⊎ SeesMore r old new → CreditIs old new → credit new ≤ new.seen
        holds sees (all_of_it e) = omega arith
        holds sees (as_before e) = let a = rises sees in let b = w.consumed in omega arith
        holds sees (some_more le lt) = lt

        gains : (new.seen ≡ old.seen) ⊎ SeesMore r old new → CreditIs old new → credit old ≤ credit new
        gains sees (all_of_it e) = let a = rises sees in let b = w.consumed in omega arith
        gains sees (as_before e) = omega arith
        gains sees (some_more le lt) = le

same_recv : (a b : RecvHalf) (o : Option RecvHalf) → o ≡ Some a → o ≡ Some b → a ≡ b
same_recv a b o e g = cc

gone_recv : (o : Option RecvHalf) (h : RecvHalf) → o ≡ None → o ≡ Some h → ⊥
gone_recv o h e g = cc

-- the halves stay within their limits where one has another value
halves_with : (s : StreamsState) (id : ℕ) (new : RecvHalf) → IsWithin s.receiving.stream_window new → AreWithin s → (j : ℕ) (h : RecvHalf) → at (with_half s.side s.receiving.halves id new).live j ≡ Some h → IsWithin s.receiving.stream_window h
halves_with s id new here i j h e = elim (cases_eq j id) [
  | inl j_is ↦
      let is : new ≡ h = same_recv new h (at (with_half s.side s.receiving.halves id new).live id) (at-half s.side s.receiving.halves id new) (ap (λ x. at (with_half s.side s.receiving.halves id new).live x) (sym j_is) ∙ e) in
      subst (IsWithin s.receiving.stream_window) is here
  | inr ne ↦ i.halves j h (sym (half-apart s.side s.receiving.halves id new j ne) ∙ e)
]

-- the bytes that were seen of a half are some of those that were seen
seen_in : (s : StreamsState) (id : ℕ) (h : RecvHalf) → receiving_half s id ≡ Some h → h.seen ≤ seen s.receiving
seen_in s id h e = go (was_receiving s id h e)
  where
    go : WasReceiving s id h → h.seen ≤ seen s.receiving
    go (in_use is) = let total = sum_without (λ x. x.seen) s.receiving.halves id h is in omega arith
    go (unused is free same) = let none : h.seen ≡ 0 = ap (λ x. x.seen) same in omega arith

limits_receive : (s : StreamsState) (id : ℕ) (old new : RecvHalf) → receiving_half s id ≡ Some old → ReceivesOn s.receiving old new → IsShaped s → AreWithin s → AreWithin (with_recv s id new)
limits_receive s id old new is on shape i =
    let both = within_on s.receiving old new on (within_was s id old is i) in
    let more : credit old ≤ credit new = both.1 in
    let credits : sum_by credit (values_of (with_half s.side s.receiving.halves id new).live) + credit old ≡ sum_by credit (values_of s.receiving.halves.live) + credit new = sum_with credit s.side s.receiving.halves id old new shape.receiving.sorted (counted credit s id old is refl) in
    let sees : sum_by (λ x. x.seen) (values_of (with_half s.side s.receiving.halves id new).live) + old.seen ≡ sum_by (λ x. x.seen) (values_of s.receiving.halves.live) + new.seen = sum_with (λ x. x.seen) s.side s.receiving.halves id old new shape.receiving.sorted (counted (λ x. x.seen) s id old is refl) in
    let rises : raised_data s.receiving ≤ raised_data (with_recv s id new).receiving = omega arith in
    let was : s.receiving.announced ≤ raised_data s.receiving = i.announced in
    record {
      accepted = i.accepted;
      written = i.written;
      announced = omega arith;
      seen = go rises sees on.sees;
      halves = halves_with s id new both.0 i;
      window = i.window;
      counts = i.counts;
    }
  where
    go : raised_data s.receiving ≤ raised_data (with_recv s id new).receiving → sum_by (λ x. x.seen) (values_of (with_half s.side s.receiving.halves id new).live) + old.seen ≡ sum_by (λ x. x.seen) (values_of s.receiving.halves.live) + new.seen
        → (new.seen ≡ old.seen) ⊎ SeesMore s.receiving old new → seen (with_recv s id new).receiving ≤ raised_data (with_recv s id new).receiving
    go rises sees (inl same) = let was = i.seen in omega arith
    go rises sees (inr more) = let a = more.all in let b = seen_in s id old is in omega arith

-- more streams are done
done_counts : (dir d : Dir) (o : Opening) → of d o.announced ≤ raised_count d o → of d o.announced ≤ raised_count d (one_done dir o)
done_counts Bi Bi o le = omega arith
done_counts Bi Uni o le = le
done_counts Uni Bi o le = le
done_counts Uni Uni o le = omega arith

limits_done : (b : Bool) (id : ℕ) (s : StreamsState) → AreWithin s → AreWithin (done_if b id s)
limits_done true id s i = record { accepted = i.accepted; written = i.written; announced = i.announced; seen = i.seen; halves = i.halves; window = i.window; counts = λ d. done_counts (dir_of id) d s.opening (i.counts d) }
limits_done false id s i = i

limits_received : (s : StreamsState) (id : ℕ) (h : RecvHalf) → at s.receiving.halves.live id ≡ Some h → IsShaped s → AreWithin s → AreWithin (recv_done s id)
limits_received s id h is shape i =
    let w : IsWithin s.receiving.stream_window h = i.halves id h is in
    let less : credit h ≤ h.seen = w.consumed in
    let credits : sum_by credit (values_of (without_half s.receiving.halves id).live) + credit h ≡ sum_by credit (values_of s.receiving.halves.live) = sum_without credit s.receiving.halves id h is in
    let sees : sum_by (λ x. x.seen) (values_of (without_half s.receiving.halves id).live) + h.seen ≡ sum_by (λ x. x.seen) (values_of s.receiving.halves.live) = sum_without (λ x. x.seen) s.receiving.halves id h is in
    let more : seen_at (at s.receiving.halves.live id) ≡ h.seen = ap seen_at is in
    let was_announced = i.announced in
    let was_seen = i.seen in
    limits_done (not (is_own s.side id) && (not (is_two_way (dir_of id)) || is_done (sending_status s id))) id (record s { receiving = record s.receiving { halves = without_half s.receiving.halves id; gone = s.receiving.gone + seen_at (at s.receiving.halves.live id) } }) (record {
      accepted = i.accepted;
      written = i.written;
      announced = omega arith;
      seen = omega arith;
      halves = λ j g e. elim (cases_eq j id) [
        | inl j_is ↦ absurd (gone_recv (at (without s.receiving.halves.live id) id) g (at-without s.receiving.halves.live id shape.receiving.sorted) (ap (λ x. at (without s.receiving.halves.live id) x) (sym j_is) ∙ e))
        | inr ne ↦ i.halves j g (sym (at-without-apart s.receiving.halves.live id j ne) ∙ e)
      ];
      window = i.window;
      counts = i.counts;
    })

-- ---- sending halves

written_was : (s : StreamsState) (id : ℕ) (h : SendHalf) → sending_half s id ≡ Some h → AreWithin s → written_on h ≤ h.limit
written_was s id h e i = go (was_half s id h e)
  where
    go : WasHalf s id h → written_on h ≤ h.limit
    go (was_live is) = i.written id h is
    go (was_fresh is p same) = subst (λ x. written_on x ≤ x.limit) (sym same) (omega arith)

written_with : (s : StreamsState) (id : ℕ) (new : SendHalf) → written_on new ≤ new.limit → AreWithin s → (j : ℕ) (h : SendHalf) → at (with_half s.side s.sending.halves id new).live j ≡ Some h → written_on h ≤ h.limit
written_with s id new here i j h e = elim (cases_eq j id) [
  | inl j_is ↦
      let is : new ≡ h = same_half new h (at (with_half s.side s.sending.halves id new).live id) (at-half s.side s.sending.halves id new) (ap (λ x. at (with_half s.side s.sending.halves id new).live x) (sym j_is) ∙ e) in
      subst (λ x. written_on x ≤ x.limit) is here
  | inr ne ↦ i.written j h (sym (half-apart s.side s.sending.halves id new j ne) ∙ e)
]

limits_put : (s : StreamsState) (id : ℕ) (q : Queued) → written_on q.half ≤ q.half.limit → AreWithin s → AreWithin (put_queued s id q)
limits_put s id q here i = record { accepted = i.accepted; written = written_with s id q.half here i; announced = i.announced; seen = i.seen; halves = i.halves; window = i.window; counts = i.counts }

limits_send : (s : StreamsState) (id : ℕ) (new : SendHalf) → written_on new ≤ new.limit → AreWithin s → AreWithin (with_send s id new)
limits_send s id new here i = record { accepted = i.accepted; written = written_with s id new here i; announced = i.announced; seen = i.seen; halves = i.halves; window = i.window; counts = i.counts }

requeued_within : (o : Option (ℕ × ℕ)) (b : Bool) (q : _) (id : ℕ) (h : SendHalf) → written_on h ≤ h.limit → written_on (requeued_at o b q id h).half ≤ (requeued_at o b q id h).half.limit
requeued_within None true q id h le = le
requeued_within None false q id h le = le
requeued_within (Some place) true q id h le = le
requeued_within (Some place) false q id h le = le

limits_written : (s : StreamsState) (id n : ℕ) (old new : SendHalf) → sending_half s id ≡ Some old → WritesOn (room s.sending) n old new → AreWithin s
    → AreWithin (let t = put_queued s id (requeued_at old.place true s.sending.queue id new) in record t { sending = record t.sending { accepted = s.sending.accepted + n } })
limits_written s id n old new is on i =
    let was = written_was s id old is i in
    let a = on.more in
    let b = on.limit in
    let c = on.fits in
    let d = on.within in
    let accepted = i.accepted in
    let here : written_on new ≤ new.limit = omega arith in
    let w = limits_put s id (requeued_at old.place true s.sending.queue id new) (requeued_within old.place true s.sending.queue id new here) i in
    record { accepted = omega arith; written = w.written; announced = w.announced; seen = w.seen; halves = w.halves; window = w.window; counts = w.counts }

turned_within : (o : Option (ℕ × ℕ)) (q : _) (id : ℕ) (h : SendHalf) → written_on h ≤ h.limit → written_on (turned_at o q id h).half ≤ (turned_at o q id h).half.limit
turned_within None q id h le = le
turned_within (Some place) q id h le = le

sends_on_within : (s : StreamsState) (id : ℕ) (old new : SendHalf) → sending_half s id ≡ Some old → SendsOn old new → AreWithin s → written_on new ≤ new.limit
sends_on_within s id old new is on i = let a = written_was s id old is i in let b = on.as_many in let c = on.limit in omega arith

limits_sent : (s : StreamsState) (id : ℕ) → IsShaped s → AreWithin s → AreWithin (send_done s id)
limits_sent s id shape i = limits_done (not (is_own s.side id) && is_done (receiving_status s id)) id (without_send s id) (record {
  accepted = i.accepted;
  written = λ j h e. elim (cases_eq j id) [
    | inl j_is ↦ absurd (gone_half (at (without s.sending.halves.live id) id) h (at-without s.sending.halves.live id shape.sending.sorted) (ap (λ x. at (without s.sending.halves.live id) x) (sym j_is) ∙ e))
    | inr ne ↦ i.written j h (sym (at-without-apart s.sending.halves.live id j ne) ∙ e)
  ];
  announced = i.announced;
  seen = i.seen;
  halves = i.halves;
  window = i.window;
  counts = i.counts;
})

limits_passes : (s : StreamsState) (id : ℕ) (ids : List ℕ) → AreWithin s → AreWithin (unblocked s id ids)
limits_passes s id ids i = record { accepted = i.accepted; written = go (at s.sending.halves.live id) refl; announced = i.announced; seen = i.seen; halves = i.halves; window = i.window; counts = i.counts }
  where
    go : (o : Option SendHalf) → at s.sending.halves.live id ≡ o → (j : ℕ) (g : SendHalf) → at (unblocked_at o s.sending.halves.live id) j ≡ Some g → written_on g ≤ g.limit
    go None is j g e = i.written j g e
    go (Some h) is j g e = elim (cases_eq j id) [
      | inl j_is ↦
          let g_is : record h { blocked = false } ≡ g = same_half (record h { blocked = false }) g (at (put s.sending.halves.live id (record h { blocked = false })) id) (at-put s.sending.halves.live id h (record h { blocked = false }) is) (ap (λ x. at (put s.sending.halves.live id (record h { blocked = false })) x) (sym j_is) ∙ e) in
          subst (λ x. written_on x ≤ x.limit) g_is (i.written id h is)
      | inr ne ↦ i.written j g (sym (at-put-apart s.sending.halves.live id (record h { blocked = false }) j ne) ∙ e)
    ]

-- ---- what the peer is told

told_counts : (dir d : Dir) (o : Opening) → of d o.announced ≤ raised_count d o → of d (announced_count dir o).announced ≤ raised_count d (announced_count dir o)
told_counts Bi Bi o le = omega arith
told_counts Bi Uni o le = le
told_counts Uni Bi o le = le
told_counts Uni Uni o le = omega arith

-- streams that the peer opens leave what it was told
opened_counts : (dir d : Dir) (n : ℕ) (o : Opening) → of d o.announced ≤ raised_count d o → of d (with_remote dir n o).announced ≤ raised_count d (with_remote dir n o)
opened_counts Bi d n o le = le
opened_counts Uni d n o le = le

limits_told : (s : StreamsState) (id : ℕ) (h : RecvHalf) → at s.receiving.halves.live id ≡ Some h → IsShaped s → AreWithin s → AreWithin (with_recv s id (record h { announced = raised_on s.receiving.stream_window h }))
limits_told s id h is shape i =
    let new : RecvHalf = record h { announced = raised_on s.receiving.stream_window h } in
    let w : IsWithin s.receiving.stream_window h = i.halves id h is in
    let far : h.announced ≤ raised_on s.receiving.stream_window h = w.announced in
    let near : h.seen ≤ h.announced = w.seen in
    let credits : sum_by credit (values_of (with_half s.side s.receiving.halves id new).live) + credit h ≡ sum_by credit (values_of s.receiving.halves.live) + credit new = sum_with credit s.side s.receiving.halves id h new shape.receiving.sorted (inl is) in
    let sees : sum_by (λ x. x.seen) (values_of (with_half s.side s.receiving.halves id new).live) + h.seen ≡ sum_by (λ x. x.seen) (values_of s.receiving.halves.live) + new.seen = sum_with (λ x. x.seen) s.side s.receiving.halves id h new shape.receiving.sorted (inl is) in
    let was_announced = i.announced in
    let was_seen = i.seen in
    let same : credit new ≡ credit h = refl in
    record {
      accepted = i.accepted;
      written = i.written;
      announced = omega arith;
      seen = omega arith;
      halves = halves_with s id new (record { consumed = w.consumed; seen = omega arith; announced = omega arith; ended = w.ended }) i;
      window = i.window;
      counts = i.counts;
    }

pub limits_kept : Keeps IsLimited
limits_kept (changes.opens_theirs id) s (e, within) i = record { shape = shape_kept (changes.opens_theirs id) s (e, within) i.shape; limits = record { accepted = i.limits.accepted; written = i.limits.written; announced = i.limits.announced; seen = i.limits.seen; halves = i.limits.halves; window = i.limits.window; counts = λ d. opened_counts (dir_of id) d (index_of id + 1) s.opening (i.limits.counts d) } }
limits_kept (changes.raises limit) s le i = record { shape = shape_kept (changes.raises limit) s le i.shape; limits = record { accepted = (let was = i.limits.accepted in omega arith); written = i.limits.written; announced = i.limits.announced; seen = i.limits.seen; halves = i.limits.halves; window = i.limits.window; counts = i.limits.counts } }
limits_kept (changes.changes_sending id old new) s (is, on, same) i = record { shape = shape_kept (changes.changes_sending id old new) s (is, on, same) i.shape; limits = limits_send s id new (sends_on_within s id old new is on i.limits) i.limits }
limits_kept (changes.queues id old new b) s (is, on, has) i = record { shape = shape_kept (changes.queues id old new b) s (is, on, has) i.shape; limits = limits_put s id (requeued_at old.place b s.sending.queue id new) (requeued_within old.place b s.sending.queue id new (sends_on_within s id old new is on i.limits)) i.limits }
limits_kept (changes.turns id old new) s (is, on, has) i = record { shape = shape_kept (changes.turns id old new) s (is, on, has) i.shape; limits = limits_put s id (turned_at old.place s.sending.queue id new) (turned_within old.place s.sending.queue id new (sends_on_within s id old new is on i.limits)) i.limits }
limits_kept (changes.writes id n old new) s (is, on, has) i = record { shape = shape_kept (changes.writes id n old new) s (is, on, has) i.shape; limits = limits_written s id n old new is on i.limits }
limits_kept (changes.joins id h) s is i = record { shape = shape_kept (changes.joins id h) s is i.shape; limits = cond_both h.blocked s _ AreWithin (λ e. i.limits) (λ e. let w = limits_send s id (record h { blocked = true }) (written_was s id h is i.limits) i.limits in record { accepted = w.accepted; written = w.written; announced = w.announced; seen = w.seen; halves = w.halves; window = w.window; counts = w.counts }) }
limits_kept (changes.passes id ids) s is i = record { shape = shape_kept (changes.passes id ids) s is i.shape; limits = limits_passes s id ids i.limits }
limits_kept (changes.ends_sending id h) s (is, over) i = record { shape = shape_kept (changes.ends_sending id h) s (is, over) i.shape; limits = limits_sent s id i.shape i.limits }
limits_kept (changes.changes_receiving r id old new) s (is, on, same) i = record { shape = shape_kept (changes.changes_receiving r id old new) s (is, on, same) i.shape; limits = limits_receive s id old new is (subst (λ q. ReceivesOn q old new) (sym same) on) i.shape i.limits }
limits_kept (changes.ends_receiving id h) s is i = record { shape = shape_kept (changes.ends_receiving id h) s is i.shape; limits = limits_received s id h is i.shape i.limits }
limits_kept changes.tells s may i = record { shape = shape_kept changes.tells s tt i.shape; limits = record { accepted = i.limits.accepted; written = i.limits.written; announced = omega arith; seen = i.limits.seen; halves = i.limits.halves; window = i.limits.window; counts = i.limits.counts } }
limits_kept (changes.tells_on id h) s is i = record { shape = shape_kept (changes.tells_on id h) s is i.shape; limits = limits_told s id h is i.shape i.limits }
limits_kept (changes.tells_count dir) s may i = record { shape = shape_kept (changes.tells_count dir) s tt i.shape; limits = record { accepted = i.limits.accepted; written = i.limits.written; announced = i.limits.announced; seen = i.limits.seen; halves = i.limits.halves; window = i.limits.window; counts = λ d. told_counts dir d s.opening (i.limits.counts d) } }
limits_kept (changes.notes_on id h said) s is i = record { shape = shape_kept (changes.notes_on id h said) s is i.shape; limits = limits_send s id (record h { said = said }) (written_was s id h is i.limits) i.limits }
limits_kept c s may i = record { shape = shape_kept c s may i.shape; limits = record { accepted = i.limits.accepted; written = i.limits.written; announced = i.limits.announced; seen = i.limits.seen; halves = i.limits.halves; window = i.limits.window; counts = i.limits.counts } }
