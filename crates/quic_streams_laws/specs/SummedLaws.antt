-- Every small change keeps the sums.
use Rattle.std.proofs.Common.{◌≡◌, ℕ, zero, suc, ◌+◌, ◌^◌, ◌<◌, ◌≤◌, List, ◌∷◌, Bool, true, false, Option, Some, None, refl, sym, ap, ◌∙◌, subst, arith, inl, inr}
use Rattle.std.specs.Prelude.{nat_lt, ◌==◌, ◌&&◌, ◌||◌, not, if◌then◌else◌}
use Rattle.std.proofs.lemmas.Bool.{cases_eq, cases_lt, cases_Bool, both_ways, and_parts, ltb-true, eq-eqb, ne_eqb, false_from_ne_true, cond-true, cond-false}
use Rattle.std.specs.Ordering.{nat_cmp}
use Rattle.std.specs.List.Sorted.{IsStrictlySortedBy}
use Rattle.std.specs.Map.{keys_of}
use Rattle.quic_wire_core.specs.declared.stream_id.Side.{Side}
use Rattle.quic_wire_core.specs.StreamId.{dir_of, index_of}
use Rattle.quic_streams_halves.specs.declared.places.Places.{Places}
use Rattle.quic_streams_parts.specs.Dirs.{of, is_own, is_two_way}
use Rattle.quic_streams_parts.specs.Table.{at, put}
use Rattle.quic_streams_parts.specs.TableLaws.{at-put, at-put-apart, at-without, at-without-apart}
use Rattle.quic_streams_parts.specs.SendHalf.{SendHalf, written_on, requeued_at, turned_at}
use Rattle.quic_streams_halves.specs.Halves.{Halves, has_place, with_place, with_half, placed, without_half, is_done}
use Rattle.quic_streams_state.specs.declared.state.StreamsState.{StreamsState}
use Rattle.quic_streams_state.specs.State.{is_opened, sends_on, sending_half, with_send, send_done, without_send, recv_done, done_if, receiving_status, sending_status, seen_at, room}
use Rattle.quic_streams_state.specs.Writing.{put_queued}
use Rattle.quic_streams_state.specs.Taking.{joined}
use Rattle.quic_streams_state.specs.Telling.{unblocked_at}
use Rattle.quic_streams_laws.specs.Keeping.{Keeps, WritesOn, unblocked}
use Rattle.quic_streams_laws.specs.Keeping as changes
use Rattle.quic_streams_laws.specs.KeepingLaws.{at-half}
use Rattle.quic_streams_laws.specs.Shape.{IsShaped, ArePlaces}
use Rattle.quic_streams_laws.specs.ShapeLaws.{shape_kept, place_one, place_kept, sends_may}
use Rattle.quic_streams_laws.specs.QueuedLaws.{WasHalf, was_live, was_fresh, was_half, half-apart}
use Rattle.quic_streams_laws.specs.Few.{AreFew}
use Rattle.quic_streams_laws.specs.FewLaws.{few_kept}
use Rattle.quic_streams_laws.specs.Summed.{sum_below, amount_of, on_stream, written_in, IsWritten}

-- ---- sums below a bound

pub sum_same : (n : ℕ) (f g : ℕ → ℕ) → ((j : ℕ) → j < n → g j ≡ f j) → sum_below n g ≡ sum_below n f
unfolding sum_below
sum_same zero f g same = refl
sum_same (suc n) f g same =
    let a : g n ≡ f n = same n (omega arith) in
    let b : sum_below n g ≡ sum_below n f = sum_same n f g (λ j lt. same j (omega arith)) in
    omega arith

-- what differs at one id
pub sum_one : (n id : ℕ) (f g : ℕ → ℕ) → id < n → ((j : ℕ) → (j ≡ id → ⊥) → g j ≡ f j) → sum_below n g + f id ≡ sum_below n f + g id
unfolding sum_below
sum_one zero id f g lt apart = omega arith
sum_one (suc n) id f g lt apart = elim (cases_eq id n) [
  | inl same ↦
      let b : sum_below n g ≡ sum_below n f = sum_same n f g (λ j below. apart j (λ e. let x : j ≡ id = e in omega arith)) in
      let x : g id ≡ g n = ap g same in
      let y : f id ≡ f n = ap f same in
      omega arith
  | inr ne ↦
      let b : sum_below n g + f id ≡ sum_below n f + g id = sum_one n id f g (let other : (id ≡ n) → ⊥ = ne in below id n lt other) apart in
      let a : g n ≡ f n = apart n (λ e. ne (sym e)) in
      omega arith
]
  where
    below : (id n : ℕ) → id < suc n → (id ≡ n → ⊥) → id < n
    below id n lt ne = elim (cases_lt id n) [ inl l ↦ l | inr l ↦ absurd (ne (omega arith)) ]

-- an id of an opened stream is below 2^62
pub opened_below : (s : StreamsState) (id : ℕ) → AreFew s → is_opened s id ≡ true → id < 2 ^ 62
opened_below s id few = go (is_own s.side id)
  where
    go : (b : Bool) → nat_lt (index_of id) (of (dir_of id) (if b then s.opening.own else s.opening.remote)) ≡ true → id < 2 ^ 62
    go true e = let a = ltb-true (index_of id) (of (dir_of id) s.opening.own) e in let b = few.own (dir_of id) in let c = few.own_limit (dir_of id) in omega arith
    go false e = let a = ltb-true (index_of id) (of (dir_of id) s.opening.remote) e in let b = few.remote (dir_of id) in omega arith

-- ---- one half

-- a place that comes leaves the others
pub place_apart : (side : Side) (id q : ℕ) (p : Places) → ArePlaces p → (q ≡ id → ⊥) → has_place side (with_place side id p) q ≡ has_place side p q
place_apart side id q p runs ne = elim (cases_Bool (has_place side (with_place side id p) q)) [
  | inl e ↦ e ∙ sym (elim (place_one side id q p runs e) [ inl there ↦ there | inr same ↦ absurd (ne same) ])
  | inr e ↦ e ∙ sym (false_from_ne_true (has_place side p q) (λ there. both_ways (has_place side (with_place side id p) q) e (place_kept side id q p runs there)))
]

module _ {A : Type 0} (f : A → ℕ) where
  -- one that has another value
  pub amount_here : (final : ℕ → ℕ) (side : Side) (h : Halves A) (id : ℕ) (new : A) → on_stream f final side (with_half side h id new) id ≡ f new
  amount_here final side h id new = ap (λ o. amount_of f (final id) o (has_place side (with_half side h id new).places id)) (at-half side h id new)

  -- changes no other
  pub amount_apart : (final : ℕ → ℕ) (side : Side) (h : Halves A) (id : ℕ) (new : A) (j : ℕ) → ArePlaces h.places → (j ≡ id → ⊥) → on_stream f final side (with_half side h id new) j ≡ on_stream f final side h j
  amount_apart final side h id new j runs ne = ap (λ o. amount_of f (final j) o (has_place side (with_half side h id new).places j)) (half-apart side h id new j ne) ∙ ap (λ b. amount_of f (final j) (at h.live j) b) (go (at h.live id))
    where
      go : (o : Option A) → has_place side (placed o side h id new).places j ≡ has_place side h.places j
      go None = place_apart side id j h.places runs ne
      go (Some old) = refl

  -- what halves come to at last, once one is done
  abbrev pub ended_with : (ℕ → ℕ) → ℕ → A → ℕ → ℕ
  ended_with final id h j = if j == id then f h else final j

  -- each comes to as much as before where one is done
  pub amount_done : (final : ℕ → ℕ) (side : Side) (h : Halves A) (id : ℕ) (a : A) (j : ℕ) → IsStrictlySortedBy nat_cmp (keys_of h.live) → has_place side h.places id ≡ true → at h.live id ≡ Some a
      → on_stream f (ended_with final id a) side (without_half h id) j ≡ on_stream f final side h j
  amount_done final side h id a j sorted used is = elim (cases_eq j id) [
    | inl j_is ↦ subst (λ x. on_stream f (ended_with final id a) side (without_half h id) x ≡ on_stream f final side h x) (sym j_is) here
    | inr ne ↦ ap (λ o. amount_of f (ended_with final id a j) o (has_place side h.places j)) (at-without-apart h.live id j ne) ∙ ap (λ m. amount_of f m (at h.live j) (has_place side h.places j)) (cond-false (j == id) (f a) (final j) (ne_eqb j id ne))
  ]
    where
      here : on_stream f (ended_with final id a) side (without_half h id) id ≡ on_stream f final side h id
      here =
          ap (λ o. amount_of f (ended_with final id a id) o (has_place side h.places id)) (at-without h.live id sorted)
          ∙ (ap (λ b. amount_of f (ended_with final id a id) None b) used
          ∙ (cond-true (id == id) (f a) (final id) (eq-eqb id id refl)
          ∙ sym (ap (λ o. amount_of f (final id) o (has_place side h.places id)) is)))

-- ---- what was written

-- what was written on a stream before
written_before : (final : ℕ → ℕ) (s : StreamsState) (id : ℕ) (h : SendHalf) → sending_half s id ≡ Some h → written_in final s id ≡ written_on h
written_before final s id h e = go (was_half s id h e)
  where
    go : WasHalf s id h → written_in final s id ≡ written_on h
    go (was_live is) = ap (λ o. amount_of written_on (final id) o (has_place s.side s.sending.halves.places id)) is
    go (was_fresh is p same) = ap (λ o. amount_of written_on (final id) o (has_place s.side s.sending.halves.places id)) is ∙ (ap (λ b. amount_of written_on (final id) None b) p ∙ sym (ap written_on same))

-- as much is written on each where a half has as much as it had
written_same : (final : ℕ → ℕ) (s : StreamsState) (id : ℕ) (old new : SendHalf) → sending_half s id ≡ Some old → written_on new ≡ written_on old → IsShaped s → (j : ℕ) → on_stream written_on final s.side (with_half s.side s.sending.halves id new) j ≡ written_in final s j
written_same final s id old new is same shape j = elim (cases_eq j id) [
  | inl j_is ↦ subst (λ x. on_stream written_on final s.side (with_half s.side s.sending.halves id new) x ≡ written_in final s x) (sym j_is) (amount_here written_on final s.side s.sending.halves id new ∙ (same ∙ sym (written_before final s id old is)))
  | inr ne ↦ amount_apart written_on final s.side s.sending.halves id new j shape.sending.runs ne
]

requeued_written : (o : Option (ℕ × ℕ)) (b : Bool) (q : _) (id : ℕ) (h : SendHalf) → written_on (requeued_at o b q id h).half ≡ written_on h
requeued_written None true q id h = refl
requeued_written None false q id h = refl
requeued_written (Some place) true q id h = refl
requeued_written (Some place) false q id h = refl

turned_written : (o : Option (ℕ × ℕ)) (q : _) (id : ℕ) (h : SendHalf) → written_on (turned_at o q id h).half ≡ written_on h
turned_written None q id h = refl
turned_written (Some place) q id h = refl

passed_written : (final : ℕ → ℕ) (s : StreamsState) (id : ℕ) (ids : List ℕ) (j : ℕ) → written_in final (unblocked s id ids) j ≡ written_in final s j
passed_written final s id ids j = go (at s.sending.halves.live id) refl
  where
    go : (o : Option SendHalf) → at s.sending.halves.live id ≡ o → amount_of written_on (final j) (at (unblocked_at o s.sending.halves.live id) j) (has_place s.side s.sending.halves.places j) ≡ written_in final s j
    go None is = refl
    go (Some h) is = elim (cases_eq j id) [
      | inl j_is ↦ subst (λ x. amount_of written_on (final x) (at (put s.sending.halves.live id (record h { blocked = false })) x) (has_place s.side s.sending.halves.places x) ≡ written_in final s x) (sym j_is)
          (ap (λ o. amount_of written_on (final id) o (has_place s.side s.sending.halves.places id)) (at-put s.sending.halves.live id h (record h { blocked = false }) is) ∙ sym (ap (λ o. amount_of written_on (final id) o (has_place s.side s.sending.halves.places id)) is))
      | inr ne ↦ ap (λ o. amount_of written_on (final j) o (has_place s.side s.sending.halves.places j)) (at-put-apart s.sending.halves.live id (record h { blocked = false }) j ne)
    ]

done_written : (final : ℕ → ℕ) (b : Bool) (id : ℕ) (s : StreamsState) (j : ℕ) → written_in final (done_if b id s) j ≡ written_in final s j
done_written final true id s j = refl
done_written final false id s j = refl

done_accepted : (b : Bool) (id : ℕ) (s : StreamsState) → (done_if b id s).sending.accepted ≡ s.sending.accepted
done_accepted true id s = refl
done_accepted false id s = refl

-- a bound above all ids, and what was written on each stream at first
module _ (n : ℕ) (big : 2 ^ 62 ≤ n) (first : ℕ → ℕ) where
  -- nothing more is written
  written_on_each : (s t : StreamsState) (final : ℕ → ℕ) (i : IsWritten n first s) → IsShaped t → AreFew t → t.sending.accepted ≡ s.sending.accepted → ((j : ℕ) → written_in final t j ≡ written_in i.final s j) → IsWritten n first t
  written_on_each s t final i shape few as_many same = record {
    shape = shape;
    few = few;
    final = final;
    accepted = as_many ∙ (i.accepted ∙ sym (sum_same n (written_in i.final s) (written_in final t) (λ j lt. same j)));
    more = λ j. let a = same j in let b = i.more j in omega arith;
  }

  -- bytes are written on one
  written_more : (s : StreamsState) (id count : ℕ) (old new : SendHalf) (i : IsWritten n first s) → sending_half s id ≡ Some old → WritesOn (room s.sending) count old new
      → (shape : IsShaped (let t = put_queued s id (requeued_at old.place true s.sending.queue id new) in record t { sending = record t.sending { accepted = s.sending.accepted + count } }))
      → AreFew (let t = put_queued s id (requeued_at old.place true s.sending.queue id new) in record t { sending = record t.sending { accepted = s.sending.accepted + count } })
      → IsWritten n first (let t = put_queued s id (requeued_at old.place true s.sending.queue id new) in record t { sending = record t.sending { accepted = s.sending.accepted + count } })
  written_more s id count old new i is on shape few =
      let half : SendHalf = (requeued_at old.place true s.sending.queue id new).half in
      let f : ℕ → ℕ = written_in i.final s in
      let g : ℕ → ℕ = λ j. on_stream written_on i.final s.side (with_half s.side s.sending.halves id half) j in
      let here : g id ≡ written_on new = amount_here written_on i.final s.side s.sending.halves id half ∙ requeued_written old.place true s.sending.queue id new in
      let was : f id ≡ written_on old = written_before i.final s id old is in
      let opened : is_opened s id ≡ true = (and_parts (sends_on s.side id) (is_opened s id) (sends_may s id old i.shape is)).1 in
      let small : id < 2 ^ 62 = opened_below s id i.few opened in
      let below : id < n = omega arith in
      let apart : (j : ℕ) → (j ≡ id → ⊥) → g j ≡ f j = λ j ne. amount_apart written_on i.final s.side s.sending.halves id half j i.shape.sending.runs ne in
      let sums : sum_below n g + f id ≡ sum_below n f + g id = sum_one n id f g below apart in
      let accepted : s.sending.accepted ≡ sum_below n f = i.accepted in
      let more : written_on new ≡ written_on old + count = on.more in
      record {
        shape = shape;
        few = few;
        final = i.final;
        accepted = omega arith;
        more = λ j. elim (cases_eq j id) [
          | inl j_is ↦ subst (λ x. first x ≤ g x) (sym j_is) (let a : first id ≤ f id = i.more id in let r : first id ≤ g id = omega arith in r)
          | inr ne ↦ let a : first j ≤ f j = i.more j in let b : g j ≡ f j = apart j ne in let r : first j ≤ g j = omega arith in r
        ];
      }

  -- a half that is blocked has as much
  joined_written : (s : StreamsState) (id : ℕ) (h : SendHalf) → sending_half s id ≡ Some h → (i : IsWritten n first s) → IsShaped (joined s id h) → AreFew (joined s id h) → IsWritten n first (joined s id h)
  joined_written s id h is i = go h.blocked
    where
      go : (b : Bool) → IsShaped (if b then s else (let u = with_send s id (record h { blocked = true }) in record u { sending = record u.sending { blocked = id ∷ u.sending.blocked } }))
          → AreFew (if b then s else (let u = with_send s id (record h { blocked = true }) in record u { sending = record u.sending { blocked = id ∷ u.sending.blocked } }))
          → IsWritten n first (if b then s else (let u = with_send s id (record h { blocked = true }) in record u { sending = record u.sending { blocked = id ∷ u.sending.blocked } }))
      go true shape few = i
      go false shape few = written_on_each s _ i.final i shape few refl (written_same i.final s id h (record h { blocked = true }) is refl i.shape)

  pub written_kept : Keeps (IsWritten n first)
  written_kept (changes.changes_sending id old new) s (is, on, same) i = written_on_each s (with_send s id new) i.final i (shape_kept (changes.changes_sending id old new) s (is, on, same) i.shape) (few_kept (changes.changes_sending id old new) s (is, on, same) i.few) refl (written_same i.final s id old new is on.as_many i.shape)
  written_kept (changes.queues id old new b) s (is, on, has) i = written_on_each s (put_queued s id (requeued_at old.place b s.sending.queue id new)) i.final i (shape_kept (changes.queues id old new b) s (is, on, has) i.shape) (few_kept (changes.queues id old new b) s (is, on, has) i.few) refl (written_same i.final s id old (requeued_at old.place b s.sending.queue id new).half is (requeued_written old.place b s.sending.queue id new ∙ on.as_many) i.shape)
  written_kept (changes.turns id old new) s (is, on, has) i = written_on_each s (put_queued s id (turned_at old.place s.sending.queue id new)) i.final i (shape_kept (changes.turns id old new) s (is, on, has) i.shape) (few_kept (changes.turns id old new) s (is, on, has) i.few) refl (written_same i.final s id old (turned_at old.place s.sending.queue id new).half is (turned_written old.place s.sending.queue id new ∙ on.as_many) i.shape)
  written_kept (changes.writes id count old new) s (is, on, has) i = written_more s id count old new i is on (shape_kept (changes.writes id count old new) s (is, on, has) i.shape) (few_kept (changes.writes id count old new) s (is, on, has) i.few)
  written_kept (changes.joins id h) s is i = joined_written s id h is i (shape_kept (changes.joins id h) s is i.shape) (few_kept (changes.joins id h) s is i.few)
  written_kept (changes.passes id ids) s is i = written_on_each s (unblocked s id ids) i.final i (shape_kept (changes.passes id ids) s is i.shape) (few_kept (changes.passes id ids) s is i.few) refl (passed_written i.final s id ids)
  written_kept (changes.ends_sending id h) s (is, over) i =
      let b : Bool = not (is_own s.side id) && is_done (receiving_status s id) in
      let t : StreamsState = without_send s id in
      let final : ℕ → ℕ = ended_with written_on i.final id h in
      written_on_each s (send_done s id) final i (shape_kept (changes.ends_sending id h) s (is, over) i.shape) (few_kept (changes.ends_sending id h) s (is, over) i.few) (done_accepted b id t)
      (λ j. done_written final b id t j ∙ amount_done written_on i.final s.side s.sending.halves id h j i.shape.sending.sorted (i.shape.sending.placed id h is) is)
  written_kept (changes.ends_receiving id h) s is i =
      let b : Bool = not (is_own s.side id) && (not (is_two_way (dir_of id)) || is_done (sending_status s id)) in
      let t : StreamsState = record s { receiving = record s.receiving { halves = without_half s.receiving.halves id; gone = s.receiving.gone + seen_at (at s.receiving.halves.live id) } } in
      written_on_each s (recv_done s id) i.final i (shape_kept (changes.ends_receiving id h) s is i.shape) (few_kept (changes.ends_receiving id h) s is i.few) (done_accepted b id t) (λ j. done_written i.final b id t j)
  written_kept (changes.notes_on id h said) s is i = written_on_each s (with_send s id (record h { said = said })) i.final i (shape_kept (changes.notes_on id h said) s is i.shape) (few_kept (changes.notes_on id h said) s is i.few) refl (written_same i.final s id h (record h { said = said }) is refl i.shape)
  written_kept c s may i = written_on_each s _ i.final i (shape_kept c s may i.shape) (few_kept c s may i.few) refl (λ j. refl)
