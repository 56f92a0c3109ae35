-- How far the halves of streams have come, stream by stream, after each small change: what holds of
-- each stays so where the change of one keeps it.
use Rattle.std.proofs.Common.{◌≡◌, ℕ, ◌+◌, ◌⊎◌, inl, inr, Bool, true, false, Option, Some, None, refl, sym, ap, ◌∙◌, subst, arith}
use Rattle.std.specs.Prelude.{◌&&◌, ◌||◌, not}
use Rattle.std.specs.Ordering.{nat_cmp}
use Rattle.std.specs.List.Sorted.{IsStrictlySortedBy}
use Rattle.std.specs.Map.{keys_of}
use Rattle.std.proofs.lemmas.Bool.{cases_eq, cond_both, and_parts, and_from, both_ways}
use Rattle.quic_wire_core.specs.declared.stream_id.Side.{Side}
use Rattle.quic_wire_core.specs.StreamId.{dir_of, index_of}
use Rattle.quic_streams_parts.specs.Table.{at}
use Rattle.quic_streams_parts.specs.TableLaws.{at-without, at-without-apart}
use Rattle.quic_streams_parts.specs.Dirs.{more, is_own, is_two_way}
use Rattle.quic_streams_parts.specs.SendHalf.{SendHalf}
use Rattle.quic_streams_parts.specs.RecvHalf.{RecvHalf, new_recv_half, raised_on}
use Rattle.quic_streams_halves.specs.Halves.{Halves, Status, unknown, fresh, live, done, status, status_from, idle_status, half_of, has_place, with_half, placed, without_half, is_done}
use Rattle.quic_streams_state.specs.declared.state.StreamsState.{StreamsState}
use Rattle.quic_streams_state.specs.State.{Opening, is_opened, is_opened_in, receives_on, first_window, receiving_half, receiving_status, sending_status, with_recv, without_send, done_if}
use Rattle.quic_streams_state.specs.Opening.{with_remote}
use Rattle.quic_streams_state.specs.Taking.{joined}
use Rattle.quic_streams_laws.specs.Keeping.{KeepsBy}
use Rattle.quic_streams_laws.specs.Keeping as changes
use Rattle.quic_streams_laws.specs.KeepingLaws.{at-half, live_receives}
use Rattle.quic_streams_laws.specs.Shape.{ArePlaces, AreHalves}
use Rattle.quic_streams_laws.specs.ShapeLaws.{OpensMore, opened_more, more_own, more_remote, past_remote, shape_any}
use Rattle.quic_streams_laws.specs.SummedLaws.{place_apart}
use Rattle.quic_streams_laws.specs.QueuedLaws.{half-apart}
use Rattle.quic_streams_laws.specs.Content.{AllReceiving}

-- ---- halves of one way

module _ {A : Type 0} (side : Side) where
  -- one that has another value is in use
  pub status_here : (opened : Bool) (h : Halves A) (id : ℕ) (a : A) → status opened side (with_half side h id a) id ≡ live a
  status_here opened h id a = ap (λ o. status_from o opened (has_place side (with_half side h id a).places id)) (at-half side h id a)

  -- and changes no other
  pub status_apart : (opened : Bool) (h : Halves A) (id : ℕ) (a : A) (q : ℕ) → ArePlaces h.places → (q ≡ id → ⊥) → status opened side (with_half side h id a) q ≡ status opened side h q
  status_apart opened h id a q runs ne = ap (λ o. status_from o opened (has_place side (with_half side h id a).places q)) (half-apart side h id a q ne) ∙ ap (λ b. status_from (at h.live q) opened b) (go (at h.live id))
    where
      go : (o : Option A) → has_place side (placed o side h id a).places q ≡ has_place side h.places q
      go None = place_apart side id q h.places runs ne
      go (Some old) = refl

  -- one that is no longer in use is done
  pub status_done : (opened : Bool) (h : Halves A) (id : ℕ) → IsStrictlySortedBy nat_cmp (keys_of h.live) → opened ≡ true → has_place side h.places id ≡ true → status opened side (without_half h id) id ≡ done
  status_done opened h id sorted may used = ap (λ o. status_from o opened (has_place side h.places id)) (at-without h.live id sorted) ∙ (ap (λ b. idle_status b (has_place side h.places id)) may ∙ ap (λ b. idle_status true b) used)

  -- and changes no other
  pub status_left : (opened : Bool) (h : Halves A) (id q : ℕ) → (q ≡ id → ⊥) → status opened side (without_half h id) q ≡ status opened side h q
  status_left opened h id q ne = ap (λ o. status_from o opened (has_place side h.places q)) (at-without-apart h.live id q ne)

-- a half is as it was, or its stream was opened
abbrev pub Opens : {A : Type 0} → Status A → Status A → Type 0
Opens old new = (new ≡ old) ⊎ ((old ≡ unknown) × (new ≡ fresh))

-- where more streams are opened: only opened ones have a half
pub status_opens : {A : Type 0} (side : Side) (may : ℕ → Bool) (more : Bool) (h : Halves A) (id : ℕ) → AreHalves side may h → (may id ≡ true → more ≡ true) → Opens (status (may id) side h id) (status more side h id)
status_opens {A} side may more h id i wider = go (at h.live id) (may id) more (has_place side h.places id) refl (λ e. i.allowed id e) wider
  where
    go : (o : Option A) (m n u : Bool) → at h.live id ≡ o → (u ≡ true → m ≡ true) → (m ≡ true → n ≡ true) → Opens (status_from o m u) (status_from o n u)
    go (Some a) m n u is allowed wide = inl refl
    go None true true u is allowed wide = inl refl
    go None true false u is allowed wide = absurd (both_ways false refl (wide refl))
    go None false false u is allowed wide = inl refl
    go None false true false is allowed wide = inr (refl, refl)
    go None false true true is allowed wide = absurd (both_ways false refl (allowed refl))

-- ---- receiving halves of all streams

-- a fact of a half at each stream that stays as the stream goes on: it is opened, comes into use,
-- the peer is told of its limit, and it is done
pub record GoesOn (Q : ℕ → Status RecvHalf → Type 0) : Type 0 where
  pub opens : (id : ℕ) → Q id unknown → Q id fresh
  pub comes : (id window : ℕ) → Q id fresh → Q id (live (new_recv_half window))
  pub told : (id : ℕ) (h : RecvHalf) (n : ℕ) → Q id (live h) → Q id (live (record h { announced = n }))
  pub ends : (id : ℕ) (h : RecvHalf) → Q id (live h) → Q id done

-- what holds of each half says another thing of it
pub said_of_each : (Q Q' : ℕ → Status RecvHalf → Type 0) → ((id : ℕ) (x : Status RecvHalf) → Q id x → Q' id x) → (s : StreamsState) → AllReceiving Q s → AllReceiving Q' s
said_of_each Q Q' f s i = record { shape = i.shape; each = λ id. f id (receiving_status s id) (i.each id) }

-- how a half stood: in use, or fresh
pub data StoodAs (s : StreamsState) (id : ℕ) (h : RecvHalf) : Type 0 where
  stood_live : receiving_status s id ≡ live h → StoodAs s id h
  stood_fresh : receiving_status s id ≡ fresh → h ≡ new_recv_half (first_window s.receiving) → StoodAs s id h

-- each half that there is stood so
pub stood_as : (s : StreamsState) (id : ℕ) (h : RecvHalf) → receiving_half s id ≡ Some h → StoodAs s id h
stood_as s id h e = go (receiving_status s id) refl e
  where
    go : (x : Status RecvHalf) → receiving_status s id ≡ x → half_of (new_recv_half (first_window s.receiving)) x ≡ Some h → StoodAs s id h
    go unknown is f = cc
    go fresh is f = stood_fresh is (cc)
    go (live a) is f = let same : a ≡ h = cc in stood_live (is ∙ ap (λ x. live x) same)
    go done is f = cc

-- what holds of a half that there is
pub at_half_of : (Q : ℕ → Status RecvHalf → Type 0) → GoesOn Q → (s : StreamsState) (id : ℕ) (h : RecvHalf) → receiving_half s id ≡ Some h → AllReceiving Q s → Q id (live h)
at_half_of Q g s id h e i = go (stood_as s id h e)
  where
    go : StoodAs s id h → Q id (live h)
    go (stood_live is) = subst (Q id) is (i.each id)
    go (stood_fresh is new) = subst (λ x. Q id (live x)) (sym new) (g.comes id (first_window s.receiving) (subst (Q id) is (i.each id)))

-- one half has another value: what holds of it and of the others then
pub change_one : (Q Q' : ℕ → Status RecvHalf → Type 0) → GoesOn Q → (s : StreamsState) (id : ℕ) (old new : RecvHalf) → receiving_half s id ≡ Some old → ((q : ℕ) (x : Status RecvHalf) → (q ≡ id → ⊥) → Q q x → Q' q x) → (Q id (live old) → Q' id (live new)) → AllReceiving Q s → AllReceiving Q' (with_recv s id new)
change_one Q Q' g s id old new e others here i = record {
  shape = shape_any (changes.changes_receiving s.receiving id old new) s (e, tt, refl) i.shape;
  each = λ q. elim (cases_eq q id) [
    | inl same ↦ subst (λ x. Q' x (receiving_status (with_recv s id new) x)) (sym same) (subst (Q' id) (sym (status_here s.side (receives_on s.side id && is_opened s id) s.receiving.halves id new)) (here (at_half_of Q g s id old e i)))
    | inr ne ↦ subst (Q' q) (sym (status_apart s.side (receives_on s.side q && is_opened s q) s.receiving.halves id new q i.shape.receiving.runs ne)) (others q (receiving_status s q) ne (i.each q))
  ];
}

-- more streams are opened
open_more : (Q : ℕ → Status RecvHalf → Type 0) → GoesOn Q → (s : StreamsState) (o : Opening) → OpensMore s.opening o → AllReceiving Q s → (id : ℕ) → Q id (status (receives_on s.side id && is_opened_in o s.side id) s.side s.receiving.halves id)
open_more Q g s o m i id = go (status_opens s.side (λ q. receives_on s.side q && is_opened s q) (receives_on s.side id && is_opened_in o s.side id) s.receiving.halves id i.shape.receiving (λ e. let p = and_parts _ _ e in and_from _ _ p.0 (opened_more s.opening o s.side id m p.1)))
  where
    go : Opens (receiving_status s id) (status (receives_on s.side id && is_opened_in o s.side id) s.side s.receiving.halves id) → Q id (status (receives_on s.side id && is_opened_in o s.side id) s.side s.receiving.halves id)
    go (inl same) = subst (Q id) (sym same) (i.each id)
    go (inr now) = subst (Q id) (sym now.1) (g.opens id (subst (Q id) now.0 (i.each id)))

-- whether a stream is done both ways changes no half
done_each : (Q : ℕ → Status RecvHalf → Type 0) (b : Bool) (id : ℕ) (s : StreamsState) → ((q : ℕ) → Q q (receiving_status s q)) → (q : ℕ) → Q q (receiving_status (done_if b id s) q)
done_each Q true id s i q = i q
done_each Q false id s i q = i q

joined_each : (Q : ℕ → Status RecvHalf → Type 0) (s : StreamsState) (id : ℕ) (h : SendHalf) → ((q : ℕ) → Q q (receiving_status s q)) → (q : ℕ) → Q q (receiving_status (joined s id h) q)
joined_each Q s id h i q = cond_both h.blocked s _ (λ t. Q q (receiving_status t q)) (λ e. i q) (λ e. i q)

-- one half is done
done_one : (Q : ℕ → Status RecvHalf → Type 0) → GoesOn Q → (s : StreamsState) (id : ℕ) (h : RecvHalf) → at s.receiving.halves.live id ≡ Some h → AllReceiving Q s → (q : ℕ) → Q q (status (receives_on s.side q && is_opened s q) s.side (without_half s.receiving.halves id) q)
done_one Q g s id h is i q = elim (cases_eq q id) [
  | inl same ↦ subst (λ x. Q x (status (receives_on s.side x && is_opened s x) s.side (without_half s.receiving.halves id) x)) (sym same)
      (let used : has_place s.side s.receiving.halves.places id ≡ true = i.shape.receiving.placed id h is in
      subst (Q id) (sym (status_done s.side (receives_on s.side id && is_opened s id) s.receiving.halves id i.shape.receiving.sorted (i.shape.receiving.allowed id used) used)) (g.ends id h (at_half_of Q g s id h (live_receives s id h is) i)))
  | inr ne ↦ subst (Q q) (sym (status_left s.side (receives_on s.side q && is_opened s q) s.receiving.halves id q ne)) (i.each q)
]

-- a fact that goes on as streams do is kept by every small change that keeps it at the half that
-- changes
pub each_kept : (Q : ℕ → Status RecvHalf → Type 0) → GoesOn Q → KeepsBy (λ r id old new. Q id (live old) → Q id (live new)) (λ s id old new. Unit {0}) (λ s id n old new. Unit {0}) (AllReceiving Q)
each_kept Q g (changes.opens_own dir) s lt i = record { shape = shape_any (changes.opens_own dir) s lt i.shape; each = open_more Q g s (record s.opening { own = more dir s.opening.own; sending = s.opening.sending + 1 }) (record { own = λ d. more_own dir d s.opening.own; remote = λ d. omega arith }) i }
each_kept Q g (changes.opens_theirs id) s (e, within) i = let past = past_remote s id e in record { shape = shape_any (changes.opens_theirs id) s (e, within) i.shape; each = open_more Q g s (with_remote (dir_of id) (index_of id + 1) s.opening) (more_remote (dir_of id) (index_of id + 1) s.opening (omega (arith, past.1))) i }
each_kept Q g (changes.joins id h) s is i = record { shape = shape_any (changes.joins id h) s is i.shape; each = joined_each Q s id h i.each }
each_kept Q g (changes.ends_sending id h) s (is, over) i = record { shape = shape_any (changes.ends_sending id h) s (is, over) i.shape; each = done_each Q (not (is_own s.side id) && is_done (receiving_status s id)) id (without_send s id) i.each }
each_kept Q g (changes.changes_receiving r id old new) s (is, on, same) i = change_one Q Q g s id old new is (λ q x ne was. was) on i
each_kept Q g (changes.ends_receiving id h) s is i = record { shape = shape_any (changes.ends_receiving id h) s is i.shape; each = done_each Q (not (is_own s.side id) && (not (is_two_way (dir_of id)) || is_done (sending_status s id))) id _ (done_one Q g s id h is i) }
each_kept Q g (changes.tells_on id h) s is i = change_one Q Q g s id h (record h { announced = raised_on s.receiving.stream_window h }) (live_receives s id h is) (λ q x ne was. was) (g.told id h (raised_on s.receiving.stream_window h)) i
each_kept Q g c s may i = record { shape = shape_any c s may i.shape; each = i.each }
