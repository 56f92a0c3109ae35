-- What is said of the half of each stream is kept where each change of one keeps it.
use Rattle.std.proofs.Common.{◌≡◌, ℕ, ◌+◌, Bool, true, false, Option, Some, None, refl, sym, subst, inl, inr}
use Rattle.std.specs.Prelude.{◌&&◌, ◌||◌, not, ◌∷◌, if◌then◌else◌}
use Rattle.std.specs.Ordering.{nat_cmp}
use Rattle.std.specs.List.Sorted.{IsStrictlySortedBy}
use Rattle.std.specs.Map.{keys_of}
use Rattle.std.proofs.lemmas.Bool.{cases_eq}
use Rattle.quic_wire_core.specs.declared.stream_id.Side.{Side}
use Rattle.quic_wire_core.specs.StreamId.{dir_of}
use Rattle.quic_streams_parts.specs.Dirs.{is_own, is_two_way}
use Rattle.quic_streams_parts.specs.Queue.{Place, Queue}
use Rattle.quic_streams_parts.specs.Table.{at, put, without}
use Rattle.quic_streams_parts.specs.TableLaws.{at-put, at-put-apart, at-without, at-without-apart}
use Rattle.quic_streams_parts.specs.SendHalf.{SendHalf, requeued_at, turned_at}
use Rattle.quic_streams_halves.specs.Halves.{Halves, status_from, has_place, with_half, placed, without_half, is_done}
use Rattle.quic_streams_state.specs.declared.state.StreamsState.{StreamsState}
use Rattle.quic_streams_state.specs.State.{sending_half, with_send, send_done, without_send, done_if, receiving_status, sending_status, seen_at, first_limit}
use Rattle.quic_streams_state.specs.Taking.{joined}
use Rattle.quic_streams_state.specs.Telling.{unblocked_at}
use Rattle.quic_streams_laws.specs.Keeping.{KeepsBy, HasEnded}
use Rattle.quic_streams_laws.specs.Keeping as changes
use Rattle.quic_streams_laws.specs.KeepingLaws.{at-half}
use Rattle.quic_streams_laws.specs.Shape.{IsShaped, ArePlaces}
use Rattle.quic_streams_laws.specs.ShapeLaws.{shape_kept, shape_any, shape_done, shape_without, shape_received}
use Rattle.quic_streams_laws.specs.QueuedLaws.{WasHalf, was_live, was_fresh, was_half, half-apart}
use Rattle.quic_streams_laws.specs.SummedLaws.{place_apart}
use Rattle.quic_streams_laws.specs.Each.{HalfIs, StatusIs, EachSends, AreOfHalves}

-- ---- one half

module _ {A : Type 0} (N : Type 0) (Q : A → Type 0) (D : Type 0) where
  -- how far a half has come says where it stands: one that was ever in use is that of an opened
  -- stream
  pub status_half : (o : Option A) (m u : Bool) → (u ≡ true → m ≡ true) → StatusIs N Q D (status_from o m u) → HalfIs N Q D o u
  status_half (Some a) m u may i = i
  status_half None true true may i = i
  status_half None true false may i = i
  status_half None false false may i = i
  status_half None false true may i = (let clash : false ≡ true = may refl in cc)

  pub half_status : (o : Option A) (m u : Bool) → (u ≡ true → m ≡ true) → HalfIs N Q D o u → StatusIs N Q D (status_from o m u)
  half_status (Some a) m u may i = i
  half_status None true true may i = i
  half_status None true false may i = i
  half_status None false false may i = i
  half_status None false true may i = (let clash : false ≡ true = may refl in cc)

-- what follows of each half
pub half_follows : {A : Type 0} {N N' : Type 0} {Q Q' : A → Type 0} {D D' : Type 0} → (N → N') → ((a : A) → Q a → Q' a) → (D → D') → (o : Option A) (u : Bool) → HalfIs N Q D o u → HalfIs N' Q' D' o u
half_follows n q d (Some a) u i = q a i
half_follows n q d None true i = d i
half_follows n q d None false i = n i

-- ---- the halves of one way

module _ {A : Type 0} (side : Side) (h : Halves A) where
  -- places stay where another half has another value
  pub half_place-apart : (id : ℕ) (new : A) (j : ℕ) → ArePlaces h.places → (j ≡ id → ⊥) → has_place side (with_half side h id new).places j ≡ has_place side h.places j
  half_place-apart id new j runs ne = go (at h.live id)
    where
      go : (o : Option A) → has_place side (placed o side h id new).places j ≡ has_place side h.places j
      go None = place_apart side id j h.places runs ne
      go (Some old) = refl

  -- one has another value: what is said of it now, and of each other as before or more
  pub each_with : (id : ℕ) (new : A) (N N' : ℕ → Type 0) (Q Q' : ℕ → A → Type 0) (D D' : ℕ → Type 0) → ArePlaces h.places → Q' id new
      → ((j : ℕ) (o : Option A) (used : Bool) → (j ≡ id → ⊥) → HalfIs (N j) (Q j) (D j) o used → HalfIs (N' j) (Q' j) (D' j) o used)
      → ((j : ℕ) → HalfIs (N j) (Q j) (D j) (at h.live j) (has_place side h.places j))
      → (j : ℕ) → HalfIs (N' j) (Q' j) (D' j) (at (with_half side h id new).live j) (has_place side (with_half side h id new).places j)
  each_with id new N N' Q Q' D D' runs now rest each j = elim (cases_eq j id) [
    | inl same ↦
        let here : HalfIs (N' id) (Q' id) (D' id) (at (with_half side h id new).live id) (has_place side (with_half side h id new).places id) =
        subst (λ o. HalfIs (N' id) (Q' id) (D' id) o (has_place side (with_half side h id new).places id)) (sym (at-half side h id new)) now in
        subst (λ x. HalfIs (N' x) (Q' x) (D' x) (at (with_half side h id new).live x) (has_place side (with_half side h id new).places x)) (sym same) here
    | inr ne ↦
        let was : HalfIs (N' j) (Q' j) (D' j) (at h.live j) (has_place side h.places j) = rest j (at h.live j) (has_place side h.places j) ne (each j) in
        subst (λ b. HalfIs (N' j) (Q' j) (D' j) (at (with_half side h id new).live j) b) (sym (half_place-apart id new j runs ne))
        (subst (λ o. HalfIs (N' j) (Q' j) (D' j) o (has_place side h.places j)) (sym (half-apart side h id new j ne)) was)
  ]

  -- one is done
  pub each_without : (id : ℕ) (N : ℕ → Type 0) (Q : ℕ → A → Type 0) (D : ℕ → Type 0) → IsStrictlySortedBy nat_cmp (keys_of h.live) → has_place side h.places id ≡ true → D id
      → ((j : ℕ) → HalfIs (N j) (Q j) (D j) (at h.live j) (has_place side h.places j))
      → (j : ℕ) → HalfIs (N j) (Q j) (D j) (at (without h.live id) j) (has_place side h.places j)
  each_without id N Q D sorted used over each j = elim (cases_eq j id) [
    | inl same ↦
        let here : HalfIs (N id) (Q id) (D id) (at (without h.live id) id) (has_place side h.places id) =
        subst (λ o. HalfIs (N id) (Q id) (D id) o (has_place side h.places id)) (sym (at-without h.live id sorted))
        (subst (λ b. HalfIs (N id) (Q id) (D id) None b) (sym used) over) in
        subst (λ x. HalfIs (N x) (Q x) (D x) (at (without h.live id) x) (has_place side h.places x)) (sym same) here
    | inr ne ↦ subst (λ o. HalfIs (N j) (Q j) (D j) o (has_place side h.places j)) (sym (at-without-apart h.live id j ne)) (each j)
  ]

-- ---- sending halves

module _ (F : ℕ → ℕ → Type 0) (N : ℕ → Type 0) (Q : ℕ → SendHalf → Type 0) (D : ℕ → Type 0) (k : AreOfHalves F N Q D) where
  -- what is said of a half that is in use, or on which nothing was done
  pub said_of : (s : StreamsState) (id : ℕ) (h : SendHalf) → sending_half s id ≡ Some h → EachSends F N Q D s → Q id h
  said_of s id h e i = go (was_half s id h e)
    where
      go : WasHalf s id h → Q id h
      go (was_live is) = subst (λ o. HalfIs (N id) (Q id) (D id) o (has_place s.side s.sending.halves.places id)) is (i.each id)
      go (was_fresh is free same) =
          let none : N id = subst (λ b. HalfIs (N id) (Q id) (D id) None b) free (subst (λ o. HalfIs (N id) (Q id) (D id) o (has_place s.side s.sending.halves.places id)) is (i.each id)) in
          subst (Q id) (sym same) (k.fresh id (first_limit s id) (i.first id) none)

  -- wherever it stands
  requeued_said : (o : Option Place) (b : Bool) (q : Queue) (id : ℕ) (h : SendHalf) → Q id h → Q id (requeued_at o b q id h).half
  requeued_said None true q id h x = k.placed id h _ x
  requeued_said None false q id h x = k.placed id h _ x
  requeued_said (Some place) true q id h x = k.placed id h _ x
  requeued_said (Some place) false q id h x = k.placed id h _ x

  turned_said : (o : Option Place) (q : Queue) (id : ℕ) (h : SendHalf) → Q id h → Q id (turned_at o q id h).half
  turned_said None q id h x = k.placed id h _ x
  turned_said (Some place) q id h x = k.placed id h _ x

  -- one has another value
  each_put : (s : StreamsState) (id : ℕ) (old new : SendHalf) → Q id new → EachSends F N Q D s
      → (j : ℕ) → HalfIs (N j) (Q j) (D j) (at (with_half s.side s.sending.halves id new).live j) (has_place s.side (with_half s.side s.sending.halves id new).places j)
  each_put s id old new now i = each_with s.side s.sending.halves id new N N Q Q D D i.shape.sending.runs now (λ j o used ne x. x) i.each

  each_done : (b : Bool) (id : ℕ) (s : StreamsState) → EachSends F N Q D s → EachSends F N Q D (done_if b id s)
  each_done true id s i = record { shape = shape_done true id s i.shape; first = i.first; each = i.each }
  each_done false id s i = i

  each_joined : (s : StreamsState) (id : ℕ) (h : SendHalf) → sending_half s id ≡ Some h → IsShaped (joined s id h) → EachSends F N Q D s → EachSends F N Q D (joined s id h)
  each_joined s id h is shape i = go h.blocked shape
    where
      go : (b : Bool) → IsShaped (if b then s else (let t = with_send s id (record h { blocked = true }) in record t { sending = record t.sending { blocked = id ∷ t.sending.blocked } }))
          → EachSends F N Q D (if b then s else (let t = with_send s id (record h { blocked = true }) in record t { sending = record t.sending { blocked = id ∷ t.sending.blocked } }))
      go true shape = i
      go false shape = record { shape = shape; first = i.first; each = each_put s id h (record h { blocked = true }) (k.blocked id h true (said_of s id h is i)) i }

  each_passed : (s : StreamsState) (id : ℕ) → EachSends F N Q D s → (j : ℕ) → HalfIs (N j) (Q j) (D j) (at (unblocked_at (at s.sending.halves.live id) s.sending.halves.live id) j) (has_place s.side s.sending.halves.places j)
  each_passed s id i j = go (at s.sending.halves.live id) refl
    where
      go : (o : Option SendHalf) → at s.sending.halves.live id ≡ o → HalfIs (N j) (Q j) (D j) (at (unblocked_at o s.sending.halves.live id) j) (has_place s.side s.sending.halves.places j)
      go None is = i.each j
      go (Some h) is = elim (cases_eq j id) [
        | inl same ↦
            let was : Q id h = subst (λ o. HalfIs (N id) (Q id) (D id) o (has_place s.side s.sending.halves.places id)) is (i.each id) in
            let here : HalfIs (N id) (Q id) (D id) (at (put s.sending.halves.live id (record h { blocked = false })) id) (has_place s.side s.sending.halves.places id) =
            subst (λ o. HalfIs (N id) (Q id) (D id) o (has_place s.side s.sending.halves.places id)) (sym (at-put s.sending.halves.live id h (record h { blocked = false }) is)) (k.blocked id h false was) in
            subst (λ x. HalfIs (N x) (Q x) (D x) (at (put s.sending.halves.live id (record h { blocked = false })) x) (has_place s.side s.sending.halves.places x)) (sym same) here
        | inr ne ↦ subst (λ o. HalfIs (N j) (Q j) (D j) o (has_place s.side s.sending.halves.places j)) (sym (at-put-apart s.sending.halves.live id (record h { blocked = false }) j ne)) (i.each j)
      ]

  each_ended : (s : StreamsState) (id : ℕ) (h : SendHalf) → at s.sending.halves.live id ≡ Some h → HasEnded h → IsShaped (send_done s id) → EachSends F N Q D s → EachSends F N Q D (send_done s id)
  each_ended s id h is over shape i =
      let was : Q id h = subst (λ o. HalfIs (N id) (Q id) (D id) o (has_place s.side s.sending.halves.places id)) is (i.each id) in
      each_done (not (is_own s.side id) && is_done (receiving_status s id)) id (without_send s id)
      (record { shape = shape_without s id i.shape; first = i.first; each = each_without s.side s.sending.halves id N Q D i.shape.sending.sorted (i.shape.sending.placed id h is) (k.over id h was over) i.each })

  -- such facts are kept
  pub each_kept : KeepsBy (λ r id old new. Unit {0}) (λ s id old new. Q id old → Q id new) (λ s id n old new. Q id old → Q id new) (EachSends F N Q D)
  each_kept (changes.changes_sending id old new) s (is, on, same) i = record { shape = shape_any (changes.changes_sending id old new) s (is, tt, same) i.shape; first = i.first; each = each_put s id old new (on (said_of s id old is i)) i }
  each_kept (changes.queues id old new b) s (is, on, has) i = record { shape = shape_any (changes.queues id old new b) s (is, tt, has) i.shape; first = i.first; each = each_put s id old (requeued_at old.place b s.sending.queue id new).half (requeued_said old.place b s.sending.queue id new (on (said_of s id old is i))) i }
  each_kept (changes.turns id old new) s (is, on, has) i = record { shape = shape_any (changes.turns id old new) s (is, tt, has) i.shape; first = i.first; each = each_put s id old (turned_at old.place s.sending.queue id new).half (turned_said old.place s.sending.queue id new (on (said_of s id old is i))) i }
  each_kept (changes.writes id n old new) s (is, on, has) i = record { shape = shape_any (changes.writes id n old new) s (is, tt, has) i.shape; first = i.first; each = each_put s id old (requeued_at old.place true s.sending.queue id new).half (requeued_said old.place true s.sending.queue id new (on (said_of s id old is i))) i }
  each_kept (changes.joins id h) s is i = each_joined s id h is (shape_kept (changes.joins id h) s is i.shape) i
  each_kept (changes.passes id ids) s is i = record { shape = shape_kept (changes.passes id ids) s is i.shape; first = i.first; each = each_passed s id i }
  each_kept (changes.ends_sending id h) s (is, over) i = each_ended s id h is over (shape_kept (changes.ends_sending id h) s (is, over) i.shape) i
  each_kept (changes.changes_receiving r id old new) s (is, on, same) i = record { shape = shape_any (changes.changes_receiving r id old new) s (is, tt, same) i.shape; first = i.first; each = i.each }
  each_kept (changes.ends_receiving id h) s may i = each_done (not (is_own s.side id) && (not (is_two_way (dir_of id)) || is_done (sending_status s id))) id (record s { receiving = record s.receiving { halves = without_half s.receiving.halves id; gone = s.receiving.gone + seen_at (at s.receiving.halves.live id) } })
      (record { shape = shape_received s id i.shape; first = i.first; each = i.each })
  each_kept (changes.notes_on id h said) s is i = record { shape = shape_kept (changes.notes_on id h said) s is i.shape; first = i.first; each = each_put s id h (record h { said = said }) (k.noted id h said (said_of s id h is i)) i }
  each_kept c s may i = record { shape = shape_kept c s may i.shape; first = i.first; each = i.each }
