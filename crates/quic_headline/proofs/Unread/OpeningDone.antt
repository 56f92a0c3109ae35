-- The streams of the peer's that are done both ways at an end are counted there: each of its
-- receiving half and, if it runs two ways, of its sending half was in use and is no longer (RFC
-- 9000, section 4.6).
use Rattle.std.proofs.Common.{◌≡◌, ℕ, ◌+◌, ◌≤◌, min, Bool, true, false, not, ◌&&◌, ◌||◌, ◌∷◌, Option, Some, None, refl, sym, ap, ◌∙◌, subst, ◌⊎◌, inl, inr, arith}
use Rattle.std.specs.Prelude.{◌==◌, if◌then◌else◌}
use Rattle.std.proofs.lemmas.Bool.{cases_eq, both_ways}
use Rattle.quic_wire_core.specs.declared.stream_id.Side.{Side}
use Rattle.quic_wire_core.specs.declared.stream_id.Side.TheVariants.{Client, Server}
use Rattle.quic_wire_core.specs.declared.stream_id.Dir.{Dir}
use Rattle.quic_wire_core.specs.declared.stream_id.Dir.TheVariants.{Bi, Uni}
use Rattle.quic_wire_core.specs.StreamId.{stream_id, other_side, side_bit, dir_of, index_of}
use Rattle.quic_wire_core.specs.StreamIdLaw.{initiator_of_stream_id, dir_of_stream_id, index_of_stream_id}
use Rattle.quic_streams_parts.specs.Table.{at, put}
use Rattle.quic_streams_parts.specs.TableLaws.{at-put, at-put-apart, at-without-apart}
use Rattle.quic_streams_parts.specs.Dirs.{Counts, of, with_of, is_own, is_two_way}
use Rattle.quic_streams_parts.specs.SendHalf.{SendHalf, requeued_at, turned_at}
use Rattle.quic_streams_parts.specs.RecvHalf.{RecvHalf, raised_on}
use Rattle.quic_streams_halves.specs.Halves.{Halves, has_place, with_half, without_half, status_from, is_done}
use Rattle.quic_streams_state.specs.declared.state.StreamsState.{StreamsState}
use Rattle.quic_streams_state.specs.State.{Opening, is_opened, sends_on, receives_on, sending_half, receiving_half, sending_status, receiving_status, with_send, done_if, without_send, send_done, recv_done, seen_at}
use Rattle.quic_streams_state.specs.Limits.{most_streams}
use Rattle.quic_streams_state.specs.Opening.{with_remote}
use Rattle.quic_streams_state.specs.Taking.{joined}
use Rattle.quic_streams_state.specs.Telling.{unblocked_at}
use Rattle.quic_streams_laws.specs.Keeping.{KeepsAll, HasEnded}
use Rattle.quic_streams_laws.specs.Keeping as changes
use Rattle.quic_streams_laws.specs.KeepingLaws.{at-half, live_receives}
use Rattle.quic_streams_laws.specs.LimitedLaws.{WasReceiving, in_use, unused, was_receiving}
use Rattle.quic_streams_laws.specs.QueuedLaws.{WasHalf, was_live, was_fresh, was_half, half-apart}
use Rattle.quic_streams_laws.specs.EachLaws.{half_place-apart}
use Rattle.quic_streams_laws.specs.Shape.{IsShaped, ArePlaces}
use Rattle.quic_streams_laws.specs.ShapeLaws.{shape_any}
use Rattle.quic_streams_laws.specs.Summed.{sum_below}
use Rattle.quic_streams_laws.specs.SummedLaws.{sum_same}
use Rattle.quic_headline.proofs.Unread.OpeningPlaces.{as_one, sum_at_most, sum_near}

-- ---- a half

-- whether a half was in use and isn't any more
abbrev pub is_over : {A : Type 0} → Option A → Bool → Bool
is_over (Some a) used = false
is_over None used = used

-- that of a stream
abbrev pub over_at : {A : Type 0} → Side → Halves A → ℕ → Bool
over_at side h id = is_over (at h.live id) (has_place side h.places id)

-- it is done, where only opened streams have places
over_is : {A : Type 0} (o : Option A) (opened used : Bool) → (used ≡ true → opened ≡ true) → is_done (status_from o opened used) ≡ is_over o used
over_is (Some a) opened used may = refl
over_is None true true may = refl
over_is None true false may = refl
over_is None false false may = refl
over_is None false true may = (let clash : false ≡ true = may refl in cc)

-- where one has another value that wasn't over, each is as it was
over_with : {A : Type 0} (side : Side) (h : Halves A) (id : ℕ) (new : A) → ArePlaces h.places → over_at side h id ≡ false → (j : ℕ) → over_at side (with_half side h id new) j ≡ over_at side h j
over_with side h id new runs was j = elim (cases_eq j id) [
  | inl same ↦
      let now : over_at side (with_half side h id new) id ≡ false = ap (λ o. is_over o (has_place side (with_half side h id new).places id)) (at-half side h id new) in
      subst (λ x. over_at side (with_half side h id new) x ≡ over_at side h x) (sym same) (now ∙ sym was)
  | inr ne ↦ ap (λ o. is_over o (has_place side (with_half side h id new).places j)) (half-apart side h id new j ne) ∙ ap (λ b. is_over (at h.live j) b) (half_place-apart side h id new j runs ne)
]

-- where one is no longer in use, each other is as it was
over_left : {A : Type 0} (side : Side) (h : Halves A) (id j : ℕ) → (j ≡ id → ⊥) → over_at side (without_half h id) j ≡ over_at side h j
over_left side h id j ne = ap (λ o. is_over o (has_place side h.places j)) (at-without-apart h.live id j ne)

-- one that there is isn't over
sends_not_over : (s : StreamsState) (id : ℕ) (h : SendHalf) → sending_half s id ≡ Some h → over_at s.side s.sending.halves id ≡ false
sends_not_over s id h e = go (was_half s id h e)
  where
    go : WasHalf s id h → over_at s.side s.sending.halves id ≡ false
    go (was_live is) = ap (λ o. is_over o (has_place s.side s.sending.halves.places id)) is
    go (was_fresh is free same) = ap (λ o. is_over o (has_place s.side s.sending.halves.places id)) is ∙ free

receives_not_over : (s : StreamsState) (id : ℕ) (h : RecvHalf) → receiving_half s id ≡ Some h → over_at s.side s.receiving.halves id ≡ false
receives_not_over s id h e = go (was_receiving s id h e)
  where
    go : WasReceiving s id h → over_at s.side s.receiving.halves id ≡ false
    go (in_use is) = ap (λ o. is_over o (has_place s.side s.receiving.halves.places id)) is
    go (unused is free same) = ap (λ o. is_over o (has_place s.side s.receiving.halves.places id)) is ∙ free

-- ---- both ways

-- whether nothing is left to do on a stream: on its receiving half, and on its sending half if it
-- runs two ways
abbrev pub done_from : Side → Halves RecvHalf → Halves SendHalf → ℕ → Bool
done_from side r h id = over_at side r id && (not (is_two_way (dir_of id)) || over_at side h id)

abbrev pub done_at : StreamsState → ℕ → Bool
done_at s id = done_from s.side s.receiving.halves s.sending.halves id

-- of the peer's streams of a direction those that are done are counted, however many there are
abbrev pub AreCountedBy : Side → Halves RecvHalf → Halves SendHalf → Counts → Type 0
AreCountedBy side r h done = (dir : Dir) (n : ℕ) → n ≤ most_streams → sum_below n (λ j. as_one (done_from side r h (stream_id (other_side side) dir j))) ≤ of dir done

pub record AreDoneCounted (s : StreamsState) : Type 0 where
  pub shape : IsShaped s
  pub counted : AreCountedBy s.side s.receiving.halves s.sending.halves s.opening.done

-- where each is as it was
counted_same : (side : Side) (r r' : Halves RecvHalf) (h h' : Halves SendHalf) (done : Counts) → ((id : ℕ) → over_at side r' id ≡ over_at side r id) → ((id : ℕ) → over_at side h' id ≡ over_at side h id) → AreCountedBy side r h done → AreCountedBy side r' h' done
counted_same side r r' h h' done receives sends i dir n le =
    let f : ℕ → ℕ = λ j. as_one (done_from side r h (stream_id (other_side side) dir j)) in
    let g : ℕ → ℕ = λ j. as_one (done_from side r' h' (stream_id (other_side side) dir j)) in
    let same : sum_below n g ≡ sum_below n f = sum_same n f g (λ j below. alike (stream_id (other_side side) dir j)) in
    let was : sum_below n f ≤ of dir done = i dir n le in
    omega arith
  where
    alike : (id : ℕ) → as_one (done_from side r' h' id) ≡ as_one (done_from side r h id)
    alike id = ap (λ b. as_one (b && (not (is_two_way (dir_of id)) || over_at side h' id))) (receives id) ∙ ap (λ b. as_one (over_at side r id && (not (is_two_way (dir_of id)) || b))) (sends id)

-- the other side isn't this one
not_own : (side : Side) (dir : Dir) (j : ℕ) → is_own side (stream_id (other_side side) dir j) ≡ false
not_own side dir j = ap (λ i. side_bit i == side_bit side) (initiator_of_stream_id (other_side side) dir j) ∙ apart side
  where
    apart : (side : Side) → (side_bit (other_side side) == side_bit side) ≡ false
    apart Client = refl
    apart Server = refl

module _ (side : Side) (r r' : Halves RecvHalf) (h h' : Halves SendHalf) (done : Counts) (id : ℕ) (others : (q : ℕ) → (q ≡ id → ⊥) → done_from side r' h' q ≡ done_from side r h q) where
  -- where all but one are, and that one is or isn't the peer's
  counted_but : (is_own side id ≡ true) ⊎ (done_from side r' h' id ≡ done_from side r h id) → AreCountedBy side r h done → AreCountedBy side r' h' done
  counted_but either i dir n le =
      let f : ℕ → ℕ = λ j. as_one (done_from side r h (stream_id (other_side side) dir j)) in
      let g : ℕ → ℕ = λ j. as_one (done_from side r' h' (stream_id (other_side side) dir j)) in
      let same : sum_below n g ≡ sum_below n f = sum_same n f g (λ j below. ap as_one (alike (stream_id (other_side side) dir j) (not_own side dir j))) in
      let was : sum_below n f ≤ of dir done = i dir n le in
      omega arith
    where
      alike : (q : ℕ) → is_own side q ≡ false → done_from side r' h' q ≡ done_from side r h q
      alike q theirs = elim (cases_eq q id) [
        | inl same ↦ elim either [
          | inl own ↦ absurd (both_ways (is_own side id) (ap (is_own side) (sym same) ∙ theirs) own)
          | inr is ↦ subst (λ x. done_from side r' h' x ≡ done_from side r h x) (sym same) is
        ]
        | inr ne ↦ others q ne
      ]

  -- one more is done
  counted_more : AreCountedBy side r h done → AreCountedBy side r' h' (with_of (dir_of id) (min (of (dir_of id) done + 1) most_streams) done)
  counted_more i dir n le =
      let f : ℕ → ℕ = λ j. as_one (done_from side r h (stream_id (other_side side) dir j)) in
      let g : ℕ → ℕ = λ j. as_one (done_from side r' h' (stream_id (other_side side) dir j)) in
      let most : sum_below n g ≤ n = sum_at_most n (λ j. done_from side r' h' (stream_id (other_side side) dir j)) in
      let was : sum_below n f ≤ of dir done = i dir n le in
      by_dir dir (dir_of id) f g refl most was
    where
      one : (b c : Bool) → as_one b ≤ as_one c + 1
      one true true = omega arith
      one true false = omega arith
      one false c = omega arith

      near : (d : Dir) → sum_below n (λ j. as_one (done_from side r' h' (stream_id (other_side side) d j))) ≤ sum_below n (λ j. as_one (done_from side r h (stream_id (other_side side) d j))) + 1
      near d = sum_near n (index_of id) (λ j. as_one (done_from side r h (stream_id (other_side side) d j))) (λ j. as_one (done_from side r' h' (stream_id (other_side side) d j)))
          (λ j ne. ap as_one (others (stream_id (other_side side) d j) (λ e. ne (sym (index_of_stream_id (other_side side) d j) ∙ ap index_of e))))
          (one (done_from side r' h' (stream_id (other_side side) d (index_of id))) (done_from side r h (stream_id (other_side side) d (index_of id))))

      same : (d : Dir) → (d ≡ dir_of id → ⊥) → sum_below n (λ j. as_one (done_from side r' h' (stream_id (other_side side) d j))) ≡ sum_below n (λ j. as_one (done_from side r h (stream_id (other_side side) d j)))
      same d ne = sum_same n (λ j. as_one (done_from side r h (stream_id (other_side side) d j))) (λ j. as_one (done_from side r' h' (stream_id (other_side side) d j)))
          (λ j below. ap as_one (others (stream_id (other_side side) d j) (λ e. ne (sym (dir_of_stream_id (other_side side) d j) ∙ ap dir_of e))))

      bi_uni : Bi ≡ Uni → ⊥
      bi_uni e = cc

      by_dir : (d k : Dir) (f g : ℕ → ℕ) → k ≡ dir_of id → sum_below n g ≤ n → sum_below n f ≤ of d done → sum_below n (λ j. as_one (done_from side r' h' (stream_id (other_side side) d j))) ≤ of d (with_of k (min (of k done + 1) most_streams) done)
      by_dir Bi Bi f g is most was = (let a = near Bi in let b = i Bi n le in let c = sum_at_most n (λ j. done_from side r' h' (stream_id (other_side side) Bi j)) in omega arith)
      by_dir Uni Uni f g is most was = (let a = near Uni in let b = i Uni n le in let c = sum_at_most n (λ j. done_from side r' h' (stream_id (other_side side) Uni j)) in omega arith)
      by_dir Bi Uni f g is most was = (let a = same Bi (λ e. bi_uni (e ∙ sym is)) in let b = i Bi n le in omega arith)
      by_dir Uni Bi f g is most was = (let a = same Uni (λ e. bi_uni (is ∙ sym e)) in let b = i Uni n le in omega arith)

-- ---- whatever changes

-- a half that sends has another value
sends_counted : (s t : StreamsState) (id : ℕ) (old new : SendHalf) → sending_half s id ≡ Some old → IsShaped s → AreCountedBy s.side s.receiving.halves s.sending.halves s.opening.done → AreCountedBy s.side s.receiving.halves (with_half s.side s.sending.halves id new) s.opening.done
sends_counted s t id old new is shape i = counted_same s.side s.receiving.halves s.receiving.halves s.sending.halves (with_half s.side s.sending.halves id new) s.opening.done (λ q. refl) (over_with s.side s.sending.halves id new shape.sending.runs (sends_not_over s id old is)) i

-- one that receives
receives_counted : (s : StreamsState) (id : ℕ) (old new : RecvHalf) → receiving_half s id ≡ Some old → IsShaped s → AreCountedBy s.side s.receiving.halves s.sending.halves s.opening.done → AreCountedBy s.side (with_half s.side s.receiving.halves id new) s.sending.halves s.opening.done
receives_counted s id old new is shape i = counted_same s.side s.receiving.halves (with_half s.side s.receiving.halves id new) s.sending.halves s.sending.halves s.opening.done (over_with s.side s.receiving.halves id new shape.receiving.runs (receives_not_over s id old is)) (λ q. refl) i

-- one isn't blocked any more
passed_counted : (s : StreamsState) (id : ℕ) (q : ℕ) → is_over (at (unblocked_at (at s.sending.halves.live id) s.sending.halves.live id) q) (has_place s.side s.sending.halves.places q) ≡ over_at s.side s.sending.halves q
passed_counted s id q = go (at s.sending.halves.live id) refl
  where
    go : (o : Option SendHalf) → at s.sending.halves.live id ≡ o → is_over (at (unblocked_at o s.sending.halves.live id) q) (has_place s.side s.sending.halves.places q) ≡ over_at s.side s.sending.halves q
    go None is = refl
    go (Some h) is = elim (cases_eq q id) [
      | inl same ↦
          let now : is_over (at (put s.sending.halves.live id (record h { blocked = false })) id) (has_place s.side s.sending.halves.places id) ≡ false = ap (λ o. is_over o (has_place s.side s.sending.halves.places id)) (at-put s.sending.halves.live id h (record h { blocked = false }) is) in
          let was : over_at s.side s.sending.halves id ≡ false = ap (λ o. is_over o (has_place s.side s.sending.halves.places id)) is in
          subst (λ x. is_over (at (put s.sending.halves.live id (record h { blocked = false })) x) (has_place s.side s.sending.halves.places x) ≡ over_at s.side s.sending.halves x) (sym same) (now ∙ sym was)
      | inr ne ↦ ap (λ o. is_over o (has_place s.side s.sending.halves.places q)) (at-put-apart s.sending.halves.live id (record h { blocked = false }) q ne)
    ]

-- a half that sends is done
sent_off : (s : StreamsState) (id : ℕ) (h : SendHalf) → at s.sending.halves.live id ≡ Some h → HasEnded h → AreDoneCounted s → AreDoneCounted (send_done s id)
sent_off s id h is over i = go (is_own s.side id) (is_done (receiving_status s id)) refl refl (shape_any (changes.ends_sending id h) s (is, over) i.shape)
  where
    left : Halves SendHalf
    left = without_half s.sending.halves id

    others : (q : ℕ) → (q ≡ id → ⊥) → done_from s.side s.receiving.halves left q ≡ done_from s.side s.receiving.halves s.sending.halves q
    others q ne = ap (λ b. over_at s.side s.receiving.halves q && (not (is_two_way (dir_of q)) || b)) (over_left s.side s.sending.halves id q ne)

    receives : is_done (receiving_status s id) ≡ over_at s.side s.receiving.halves id
    receives = over_is (at s.receiving.halves.live id) (receives_on s.side id && is_opened s id) (has_place s.side s.receiving.halves.places id) (i.shape.receiving.allowed id)

    -- where its receiving half isn't done, it is not done before or after
    neither : (halves : Halves SendHalf) → is_done (receiving_status s id) ≡ false → done_from s.side s.receiving.halves halves id ≡ false
    neither halves e = ap (λ b. b && (not (is_two_way (dir_of id)) || over_at s.side halves id)) (sym receives ∙ e)

    go : (own over : Bool) → is_own s.side id ≡ own → is_done (receiving_status s id) ≡ over → IsShaped (done_if (not own && over) id (without_send s id)) → AreDoneCounted (done_if (not own && over) id (without_send s id))
    go true over mine e shape = record { shape = shape; counted = counted_but s.side s.receiving.halves s.receiving.halves s.sending.halves left s.opening.done id others (inl mine) i.counted }
    go false false mine e shape = record { shape = shape; counted = counted_but s.side s.receiving.halves s.receiving.halves s.sending.halves left s.opening.done id others (inr (neither left e ∙ sym (neither s.sending.halves e))) i.counted }
    go false true mine e shape = record { shape = shape; counted = counted_more s.side s.receiving.halves s.receiving.halves s.sending.halves left s.opening.done id others i.counted }

-- one that receives is
received_off : (s : StreamsState) (id : ℕ) (h : RecvHalf) → at s.receiving.halves.live id ≡ Some h → AreDoneCounted s → AreDoneCounted (recv_done s id)
received_off s id h is i = go (is_own s.side id) (is_two_way (dir_of id)) (is_done (sending_status s id)) refl refl refl (shape_any (changes.ends_receiving id h) s is i.shape)
  where
    left : Halves RecvHalf
    left = without_half s.receiving.halves id

    gone : StreamsState
    gone = record s { receiving = record s.receiving { halves = without_half s.receiving.halves id; gone = s.receiving.gone + seen_at (at s.receiving.halves.live id) } }

    others : (q : ℕ) → (q ≡ id → ⊥) → done_from s.side left s.sending.halves q ≡ done_from s.side s.receiving.halves s.sending.halves q
    others q ne = ap (λ b. b && (not (is_two_way (dir_of q)) || over_at s.side s.sending.halves q)) (over_left s.side s.receiving.halves id q ne)

    sends : is_done (sending_status s id) ≡ over_at s.side s.sending.halves id
    sends = over_is (at s.sending.halves.live id) (sends_on s.side id && is_opened s id) (has_place s.side s.sending.halves.places id) (i.shape.sending.allowed id)

    and_false : (a : Bool) → (a && false) ≡ false
    and_false true = refl
    and_false false = refl

    -- where its sending half isn't done, it is not done before or after
    neither : (halves : Halves RecvHalf) → is_two_way (dir_of id) ≡ true → is_done (sending_status s id) ≡ false → done_from s.side halves s.sending.halves id ≡ false
    neither halves two e = ap (λ b. over_at s.side halves id && (not b || over_at s.side s.sending.halves id)) two ∙ ap (λ b. over_at s.side halves id && b) (sym sends ∙ e) ∙ and_false (over_at s.side halves id)

    go : (own two over : Bool) → is_own s.side id ≡ own → is_two_way (dir_of id) ≡ two → is_done (sending_status s id) ≡ over → IsShaped (done_if (not own && (not two || over)) id gone) → AreDoneCounted (done_if (not own && (not two || over)) id gone)
    go true two over mine t e shape = record { shape = shape; counted = counted_but s.side s.receiving.halves left s.sending.halves s.sending.halves s.opening.done id others (inl mine) i.counted }
    go false true false mine t e shape = record { shape = shape; counted = counted_but s.side s.receiving.halves left s.sending.halves s.sending.halves s.opening.done id others (inr (neither left t e ∙ sym (neither s.receiving.halves t e))) i.counted }
    go false true true mine t e shape = record { shape = shape; counted = counted_more s.side s.receiving.halves left s.sending.halves s.sending.halves s.opening.done id others i.counted }
    go false false over mine t e shape = record { shape = shape; counted = counted_more s.side s.receiving.halves left s.sending.halves s.sending.halves s.opening.done id others i.counted }

-- a stream is among those that are blocked
joined_off : (s : StreamsState) (id : ℕ) (h : SendHalf) → sending_half s id ≡ Some h → AreDoneCounted s → AreDoneCounted (joined s id h)
joined_off s id h is i = go h.blocked (shape_any (changes.joins id h) s is i.shape)
  where
    blocked : StreamsState
    blocked = let t = with_send s id (record h { blocked = true }) in record t { sending = record t.sending { blocked = id ∷ t.sending.blocked } }

    go : (b : Bool) → IsShaped (if b then s else blocked) → AreDoneCounted (if b then s else blocked)
    go true shape = i
    go false shape = record { shape = shape; counted = sends_counted s s id h (record h { blocked = true }) is i.shape i.counted }

-- the peer opens streams
remote_counts : (dir : Dir) (n : ℕ) (o : Opening) → (with_remote dir n o).done ≡ o.done
remote_counts Bi n o = refl
remote_counts Uni n o = refl

pub done_counted : KeepsAll (λ r id old new. Unit {0}) (λ s id old new. Unit {0}) (λ s id n old new. Unit {0}) (λ s dir. Unit {0}) (λ id. Unit {0}) AreDoneCounted
done_counted (changes.accepts dir) s may i = record { shape = record { sending = i.shape.sending; receiving = i.shape.receiving }; counted = i.counted }
done_counted (changes.opens_theirs id) s (e, within) i = record {
  shape = shape_any (changes.opens_theirs id) s (e, within) i.shape;
  counted = subst (λ (c : Counts). AreCountedBy s.side s.receiving.halves s.sending.halves c) (sym (remote_counts (dir_of id) (index_of id + 1) s.opening)) i.counted;
}
done_counted (changes.changes_sending id old new) s (is, on, same) i = record { shape = shape_any (changes.changes_sending id old new) s (is, tt, same) i.shape; counted = sends_counted s s id old new is i.shape i.counted }
done_counted (changes.queues id old new b) s (is, on, same) i = record { shape = shape_any (changes.queues id old new b) s (is, tt, same) i.shape; counted = sends_counted s s id old (requeued_at old.place b s.sending.queue id new).half is i.shape i.counted }
done_counted (changes.turns id old new) s (is, on, same) i = record { shape = shape_any (changes.turns id old new) s (is, tt, same) i.shape; counted = sends_counted s s id old (turned_at old.place s.sending.queue id new).half is i.shape i.counted }
done_counted (changes.writes id n old new) s (is, on, same) i = record { shape = shape_any (changes.writes id n old new) s (is, tt, same) i.shape; counted = sends_counted s s id old (requeued_at old.place true s.sending.queue id new).half is i.shape i.counted }
done_counted (changes.joins id h) s is i = joined_off s id h is i
done_counted (changes.notes_on id h said) s is i = record { shape = shape_any (changes.notes_on id h said) s is i.shape; counted = sends_counted s s id h (record h { said = said }) is i.shape i.counted }
done_counted (changes.passes id ids) s is i = record {
  shape = shape_any (changes.passes id ids) s is i.shape;
  counted = counted_same s.side s.receiving.halves s.receiving.halves s.sending.halves (record s.sending.halves { live = unblocked_at (at s.sending.halves.live id) s.sending.halves.live id }) s.opening.done (λ q. refl) (passed_counted s id) i.counted;
}
done_counted (changes.ends_sending id h) s (is, over) i = sent_off s id h is over i
done_counted (changes.changes_receiving r id old new) s (is, on, same) i = record { shape = shape_any (changes.changes_receiving r id old new) s (is, tt, same) i.shape; counted = receives_counted s id old new is i.shape i.counted }
done_counted (changes.ends_receiving id h) s is i = received_off s id h is i
done_counted (changes.tells_on id h) s is i = record {
  shape = shape_any (changes.tells_on id h) s is i.shape;
  counted = receives_counted s id h (record h { announced = raised_on s.receiving.stream_window h }) (live_receives s id h is) i.shape i.counted;
}
done_counted change s may i = record { shape = shape_any change s may i.shape; counted = i.counted }
