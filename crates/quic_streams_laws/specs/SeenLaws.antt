-- Every small change keeps the sums of what was seen and consumed.
use Rattle.std.proofs.Common.{◌≡◌, ℕ, ◌+◌, ◌^◌, ◌<◌, ◌≤◌, ◌∷◌, Bool, true, false, Some, None, refl, sym, ap, ◌∙◌, subst, arith, ◌⊎◌, inl, inr}
use Rattle.std.specs.Prelude.{◌==◌, ◌&&◌, ◌||◌, not, if◌then◌else◌}
use Rattle.std.specs.Ordering.{nat_cmp}
use Rattle.std.specs.List.{sum_by}
use Rattle.std.specs.List.Sorted.{IsStrictlySortedBy}
use Rattle.std.specs.Map.{keys_of, values_of}
use Rattle.std.proofs.lemmas.Bool.{cases_eq, and_parts, eq-eqb, ne_eqb, cond-true, cond-false}
use Rattle.quic_wire_core.specs.declared.stream_id.Side.{Side}
use Rattle.quic_wire_core.specs.StreamId.{dir_of}
use Rattle.quic_streams_parts.specs.Dirs.{is_own, is_two_way}
use Rattle.quic_streams_parts.specs.Table.{at}
use Rattle.quic_streams_parts.specs.TableLaws.{at-without, at-without-apart}
use Rattle.quic_streams_parts.specs.SendHalf.{SendHalf}
use Rattle.quic_streams_parts.specs.RecvHalf.{RecvHalf, new_recv_half, credit, raised_on}
use Rattle.quic_streams_halves.specs.Halves.{Halves, has_place, with_half, without_half, is_done}
use Rattle.quic_streams_state.specs.declared.state.StreamsState.{StreamsState}
use Rattle.quic_streams_state.specs.State.{Receiving, seen, consumed, is_opened, receives_on, first_window, receiving_half, with_send, with_recv, send_done, without_send, recv_done, done_if, receiving_status, sending_status, seen_at}
use Rattle.quic_streams_state.specs.Taking.{joined}
use Rattle.quic_streams_laws.specs.Keeping.{Keeps, SeesMore, ReceivesOn}
use Rattle.quic_streams_laws.specs.Keeping as changes
use Rattle.quic_streams_laws.specs.KeepingLaws.{live_receives}
use Rattle.quic_streams_laws.specs.Shape.{IsShaped}
use Rattle.quic_streams_laws.specs.ShapeLaws.{receives_may}
use Rattle.quic_streams_laws.specs.Few.{AreFew}
use Rattle.quic_streams_laws.specs.FewLaws.{few_kept}
use Rattle.quic_streams_laws.specs.Limited.{IsWithin, IsLimited}
use Rattle.quic_streams_laws.specs.LimitedLaws.{limits_kept, sum_with, sum_without, WasReceiving, in_use, unused, was_receiving, counted, within_on, within_was}
use Rattle.quic_streams_laws.specs.Summed.{sum_below, amount_of, on_stream, seen_in, consumed_in, IsSeen}
use Rattle.quic_streams_laws.specs.SummedLaws.{sum_one, opened_below, amount_here, amount_apart}

-- what a half came to before
amount_before : (f : RecvHalf → ℕ) (final : ℕ → ℕ) (s : StreamsState) (id : ℕ) (h : RecvHalf) → receiving_half s id ≡ Some h → f (new_recv_half (first_window s.receiving)) ≡ 0 → on_stream f final s.side s.receiving.halves id ≡ f h
amount_before f final s id h e zero = go (was_receiving s id h e)
  where
    go : WasReceiving s id h → on_stream f final s.side s.receiving.halves id ≡ f h
    go (in_use is) = ap (λ o. amount_of f (final id) o (has_place s.side s.receiving.halves.places id)) is
    go (unused is free same) = ap (λ o. amount_of f (final id) o (has_place s.side s.receiving.halves.places id)) is ∙ (ap (λ b. amount_of f (final id) None b) free ∙ sym (ap f same ∙ zero))

-- what a half comes to once it is done
module _ {A : Type 0} (f : A → ℕ) where
  amount_gone : (final : ℕ → ℕ) (side : Side) (h : Halves A) (id : ℕ) → IsStrictlySortedBy nat_cmp (keys_of h.live) → has_place side h.places id ≡ true → on_stream f final side (without_half h id) id ≡ final id
  amount_gone final side h id sorted used = ap (λ o. amount_of f (final id) o (has_place side h.places id)) (at-without h.live id sorted) ∙ ap (λ b. amount_of f (final id) None b) used

  amount_left : (final last : ℕ → ℕ) (side : Side) (h : Halves A) (id j : ℕ) → (j ≡ id → ⊥) → last j ≡ final j → on_stream f last side (without_half h id) j ≡ on_stream f final side h j
  amount_left final last side h id j ne same = ap (λ o. amount_of f (last j) o (has_place side h.places j)) (at-without-apart h.live id j ne) ∙ ap (λ m. amount_of f m (at h.live j) (has_place side h.places j)) same

-- what halves come to at last, once one is done
abbrev pub last_seen : (ℕ → ℕ) → ℕ → ℕ → ℕ → ℕ
last_seen final id n j = if j == id then n else final j

done_receiving : (b : Bool) (id : ℕ) (s : StreamsState) → (done_if b id s).receiving ≡ s.receiving
done_receiving true id s = refl
done_receiving false id s = refl

done_side : (b : Bool) (id : ℕ) (s : StreamsState) → (done_if b id s).side ≡ s.side
done_side true id s = refl
done_side false id s = refl

-- a bound above all ids, and what was seen and consumed of each stream at first
module _ (n : ℕ) (big : 2 ^ 62 ≤ n) (first_seen first_consumed : ℕ → ℕ) where
  -- nothing more has come
  rest : (s t : StreamsState) → IsLimited t → AreFew t → t.receiving ≡ s.receiving → t.side ≡ s.side → IsSeen n first_seen first_consumed s → IsSeen n first_seen first_consumed t
  rest s t limits few same side i = record {
    limits = limits;
    few = few;
    final = i.final;
    seen = subst (λ r. seen r ≡ sum_below n (λ j. on_stream (λ h. h.seen) i.final t.side r.halves j)) (sym same) (subst (λ d. seen s.receiving ≡ sum_below n (λ j. on_stream (λ h. h.seen) i.final d s.receiving.halves j)) (sym side) i.seen);
    consumed = subst (λ r. consumed r ≡ sum_below n (λ j. on_stream credit i.final t.side r.halves j)) (sym same) (subst (λ d. consumed s.receiving ≡ sum_below n (λ j. on_stream credit i.final d s.receiving.halves j)) (sym side) i.consumed);
    more_seen = λ j. subst (λ r. first_seen j ≤ on_stream (λ h. h.seen) i.final t.side r.halves j) (sym same) (subst (λ d. first_seen j ≤ on_stream (λ h. h.seen) i.final d s.receiving.halves j) (sym side) (i.more_seen j));
    more_consumed = λ j. subst (λ r. first_consumed j ≤ on_stream credit i.final t.side r.halves j) (sym same) (subst (λ d. first_consumed j ≤ on_stream credit i.final d s.receiving.halves j) (sym side) (i.more_consumed j));
  }

  -- more came, or was consumed
  more : (s : StreamsState) (id : ℕ) (old new : RecvHalf) → receiving_half s id ≡ Some old → old.seen ≤ new.seen → credit old ≤ credit new → IsLimited (with_recv s id new) → AreFew (with_recv s id new)
      → IsSeen n first_seen first_consumed s → IsSeen n first_seen first_consumed (with_recv s id new)
  more s id old new is sees credits limits few i =
      let shape : IsShaped s = i.limits.shape in
      let opened : is_opened s id ≡ true = (and_parts (receives_on s.side id) (is_opened s id) (receives_may s id old shape is)).1 in
      let small : id < 2 ^ 62 = opened_below s id i.few opened in
      let below : id < n = omega arith in
      let f : ℕ → ℕ = seen_in i.final s in
      let g : ℕ → ℕ = seen_in i.final (with_recv s id new) in
      let f' : ℕ → ℕ = consumed_in i.final s in
      let g' : ℕ → ℕ = consumed_in i.final (with_recv s id new) in
      let apart : (j : ℕ) → (j ≡ id → ⊥) → g j ≡ f j = λ j ne. amount_apart (λ h. h.seen) i.final s.side s.receiving.halves id new j shape.receiving.runs ne in
      let apart' : (j : ℕ) → (j ≡ id → ⊥) → g' j ≡ f' j = λ j ne. amount_apart credit i.final s.side s.receiving.halves id new j shape.receiving.runs ne in
      let here : g id ≡ new.seen = amount_here (λ h. h.seen) i.final s.side s.receiving.halves id new in
      let here' : g' id ≡ credit new = amount_here credit i.final s.side s.receiving.halves id new in
      let was : f id ≡ old.seen = amount_before (λ h. h.seen) i.final s id old is refl in
      let was' : f' id ≡ credit old = amount_before credit i.final s id old is refl in
      let sums : sum_below n g + f id ≡ sum_below n f + g id = sum_one n id f g below apart in
      let sums' : sum_below n g' + f' id ≡ sum_below n f' + g' id = sum_one n id f' g' below apart' in
      let table : sum_by (λ x. x.seen) (values_of (with_half s.side s.receiving.halves id new).live) + old.seen ≡ sum_by (λ x. x.seen) (values_of s.receiving.halves.live) + new.seen = sum_with (λ x. x.seen) s.side s.receiving.halves id old new shape.receiving.sorted (counted (λ x. x.seen) s id old is refl) in
      let table' : sum_by credit (values_of (with_half s.side s.receiving.halves id new).live) + credit old ≡ sum_by credit (values_of s.receiving.halves.live) + credit new = sum_with credit s.side s.receiving.halves id old new shape.receiving.sorted (counted credit s id old is refl) in
      let had : seen s.receiving ≡ sum_below n f = i.seen in
      let had' : consumed s.receiving ≡ sum_below n f' = i.consumed in
      record {
        limits = limits;
        few = few;
        final = i.final;
        seen = let r : seen (with_recv s id new).receiving ≡ sum_below n g = omega (arith, table, sums, had, here, was) in r;
        consumed = let r : consumed (with_recv s id new).receiving ≡ sum_below n g' = omega (arith, table', sums', had', here', was') in r;
        more_seen = λ j. elim (cases_eq j id) [
          | inl j_is ↦ subst (λ x. first_seen x ≤ g x) (sym j_is) (let a : first_seen id ≤ f id = i.more_seen id in let r : first_seen id ≤ g id = omega arith in r)
          | inr ne ↦ let a : first_seen j ≤ f j = i.more_seen j in let b : g j ≡ f j = apart j ne in let r : first_seen j ≤ g j = omega arith in r
        ];
        more_consumed = λ j. elim (cases_eq j id) [
          | inl j_is ↦ subst (λ x. first_consumed x ≤ g' x) (sym j_is) (let a : first_consumed id ≤ f' id = i.more_consumed id in let r : first_consumed id ≤ g' id = omega arith in r)
          | inr ne ↦ let a : first_consumed j ≤ f' j = i.more_consumed j in let b : g' j ≡ f' j = apart' j ne in let r : first_consumed j ≤ g' j = omega arith in r
        ];
      }

  -- one is done: all that was seen of it counts as consumed
  ends : (s : StreamsState) (id : ℕ) (h : RecvHalf) → at s.receiving.halves.live id ≡ Some h
      → (t : StreamsState) → t.side ≡ s.side → t.receiving ≡ record s.receiving { halves = without_half s.receiving.halves id; gone = s.receiving.gone + seen_at (at s.receiving.halves.live id) }
      → IsLimited t → AreFew t → IsSeen n first_seen first_consumed s → IsSeen n first_seen first_consumed t
  ends s id h is t side same limits few i =
      let shape : IsShaped s = i.limits.shape in
      let w : IsWithin s.receiving.stream_window h = i.limits.limits.halves id h is in
      let less : credit h ≤ h.seen = w.consumed in
      let used : has_place s.side s.receiving.halves.places id ≡ true = shape.receiving.placed id h is in
      let opened : is_opened s id ≡ true = (and_parts (receives_on s.side id) (is_opened s id) (shape.receiving.allowed id used)).1 in
      let small : id < 2 ^ 62 = opened_below s id i.few opened in
      let below : id < n = omega arith in
      let last : ℕ → ℕ = last_seen i.final id h.seen in
      let last_here : last id ≡ h.seen = cond-true (id == id) h.seen (i.final id) (eq-eqb id id refl) in
      let last_apart : (j : ℕ) → (j ≡ id → ⊥) → last j ≡ i.final j = λ j ne. cond-false (j == id) h.seen (i.final j) (ne_eqb j id ne) in
      let f : ℕ → ℕ = seen_in i.final s in
      let g : ℕ → ℕ = λ j. on_stream (λ x. x.seen) last s.side (without_half s.receiving.halves id) j in
      let f' : ℕ → ℕ = consumed_in i.final s in
      let g' : ℕ → ℕ = λ j. on_stream credit last s.side (without_half s.receiving.halves id) j in
      let apart : (j : ℕ) → (j ≡ id → ⊥) → g j ≡ f j = λ j ne. amount_left (λ x. x.seen) i.final last s.side s.receiving.halves id j ne (last_apart j ne) in
      let apart' : (j : ℕ) → (j ≡ id → ⊥) → g' j ≡ f' j = λ j ne. amount_left credit i.final last s.side s.receiving.halves id j ne (last_apart j ne) in
      let here : g id ≡ h.seen = amount_gone (λ x. x.seen) last s.side s.receiving.halves id shape.receiving.sorted used ∙ last_here in
      let here' : g' id ≡ h.seen = amount_gone credit last s.side s.receiving.halves id shape.receiving.sorted used ∙ last_here in
      let was : f id ≡ h.seen = amount_before (λ x. x.seen) i.final s id h (live_receives s id h is) refl in
      let was' : f' id ≡ credit h = amount_before credit i.final s id h (live_receives s id h is) refl in
      let sums : sum_below n g + f id ≡ sum_below n f + g id = sum_one n id f g below apart in
      let sums' : sum_below n g' + f' id ≡ sum_below n f' + g' id = sum_one n id f' g' below apart' in
      let table : sum_by (λ x. x.seen) (values_of (without_half s.receiving.halves id).live) + h.seen ≡ sum_by (λ x. x.seen) (values_of s.receiving.halves.live) = sum_without (λ x. x.seen) s.receiving.halves id h is in
      let table' : sum_by credit (values_of (without_half s.receiving.halves id).live) + credit h ≡ sum_by credit (values_of s.receiving.halves.live) = sum_without credit s.receiving.halves id h is in
      let gained : seen_at (at s.receiving.halves.live id) ≡ h.seen = ap seen_at is in
      let had : seen s.receiving ≡ sum_below n f = i.seen in
      let had' : consumed s.receiving ≡ sum_below n f' = i.consumed in
      let now : Receiving = record s.receiving { halves = without_half s.receiving.halves id; gone = s.receiving.gone + seen_at (at s.receiving.halves.live id) } in
      let seen_now : seen now ≡ sum_below n g = omega (arith, table, sums, had, here, was, gained) in
      let consumed_now : consumed now ≡ sum_below n g' = omega (arith, table', sums', had', here', was', gained) in
      let more_now : (j : ℕ) → first_seen j ≤ g j = λ j. elim (cases_eq j id) [
        | inl j_is ↦ subst (λ x. first_seen x ≤ g x) (sym j_is) (let a : first_seen id ≤ f id = i.more_seen id in let r : first_seen id ≤ g id = omega arith in r)
        | inr ne ↦ let a : first_seen j ≤ f j = i.more_seen j in let b : g j ≡ f j = apart j ne in let r : first_seen j ≤ g j = omega arith in r
      ] in
      let credit_now : (j : ℕ) → first_consumed j ≤ g' j = λ j. elim (cases_eq j id) [
        | inl j_is ↦ subst (λ x. first_consumed x ≤ g' x) (sym j_is) (let a : first_consumed id ≤ f' id = i.more_consumed id in let r : first_consumed id ≤ g' id = omega arith in r)
        | inr ne ↦ let a : first_consumed j ≤ f' j = i.more_consumed j in let b : g' j ≡ f' j = apart' j ne in let r : first_consumed j ≤ g' j = omega arith in r
      ] in
      record {
        limits = limits;
        few = few;
        final = last;
        seen = subst (λ r. seen r ≡ sum_below n (λ j. on_stream (λ x. x.seen) last t.side r.halves j)) (sym same) (subst (λ d. seen now ≡ sum_below n (λ j. on_stream (λ x. x.seen) last d now.halves j)) (sym side) seen_now);
        consumed = subst (λ r. consumed r ≡ sum_below n (λ j. on_stream credit last t.side r.halves j)) (sym same) (subst (λ d. consumed now ≡ sum_below n (λ j. on_stream credit last d now.halves j)) (sym side) consumed_now);
        more_seen = λ j. subst (λ r. first_seen j ≤ on_stream (λ x. x.seen) last t.side r.halves j) (sym same) (subst (λ d. first_seen j ≤ on_stream (λ x. x.seen) last d now.halves j) (sym side) (more_now j));
        more_consumed = λ j. subst (λ r. first_consumed j ≤ on_stream credit last t.side r.halves j) (sym same) (subst (λ d. first_consumed j ≤ on_stream credit last d now.halves j) (sym side) (credit_now j));
      }

  rises : (r : Receiving) (old new : RecvHalf) → (new.seen ≡ old.seen) ⊎ SeesMore r old new → old.seen ≤ new.seen
  rises r old new (inl same) = omega arith
  rises r old new (inr x) = x.more

  joined_receiving : (s : StreamsState) (id : ℕ) (h : SendHalf) → ((joined s id h).receiving ≡ s.receiving) × ((joined s id h).side ≡ s.side)
  joined_receiving s id h = go h.blocked
    where
      go : (b : Bool) → ((if b then s else (let u = with_send s id (record h { blocked = true }) in record u { sending = record u.sending { blocked = id ∷ u.sending.blocked } })).receiving ≡ s.receiving)
          × ((if b then s else (let u = with_send s id (record h { blocked = true }) in record u { sending = record u.sending { blocked = id ∷ u.sending.blocked } })).side ≡ s.side)
      go true = (refl, refl)
      go false = (refl, refl)

  pub seen_kept : Keeps (IsSeen n first_seen first_consumed)
  seen_kept (changes.joins id h) s is i = rest s (joined s id h) (limits_kept (changes.joins id h) s is i.limits) (few_kept (changes.joins id h) s is i.few) (joined_receiving s id h).0 (joined_receiving s id h).1 i
  seen_kept (changes.ends_sending id h) s (is, over) i =
      let b : Bool = not (is_own s.side id) && is_done (receiving_status s id) in
      let t : StreamsState = without_send s id in
      rest s (send_done s id) (limits_kept (changes.ends_sending id h) s (is, over) i.limits) (few_kept (changes.ends_sending id h) s (is, over) i.few) (done_receiving b id t) (done_side b id t) i
  seen_kept (changes.changes_receiving r id old new) s (is, on, same) i =
      let here : ReceivesOn s.receiving old new = subst (λ q. ReceivesOn q old new) (sym same) on in
      more s id old new is (rises s.receiving old new here.sees) (within_on s.receiving old new here (within_was s id old is i.limits.limits)).1 (limits_kept (changes.changes_receiving r id old new) s (is, on, same) i.limits) (few_kept (changes.changes_receiving r id old new) s (is, on, same) i.few) i
  seen_kept (changes.ends_receiving id h) s is i =
      let b : Bool = not (is_own s.side id) && (not (is_two_way (dir_of id)) || is_done (sending_status s id)) in
      let t : StreamsState = record s { receiving = record s.receiving { halves = without_half s.receiving.halves id; gone = s.receiving.gone + seen_at (at s.receiving.halves.live id) } } in
      ends s id h is (recv_done s id) (done_side b id t) (done_receiving b id t) (limits_kept (changes.ends_receiving id h) s is i.limits) (few_kept (changes.ends_receiving id h) s is i.few) i
  seen_kept changes.tells s may i = record { limits = limits_kept changes.tells s tt i.limits; few = few_kept changes.tells s tt i.few; final = i.final; seen = i.seen; consumed = i.consumed; more_seen = i.more_seen; more_consumed = i.more_consumed }
  seen_kept (changes.tells_on id h) s is i = more s id h (record h { announced = raised_on s.receiving.stream_window h }) (live_receives s id h is) (omega arith) (omega arith) (limits_kept (changes.tells_on id h) s is i.limits) (few_kept (changes.tells_on id h) s is i.few) i
  seen_kept c s may i = rest s _ (limits_kept c s may i.limits) (few_kept c s may i.few) refl refl i
