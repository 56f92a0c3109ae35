-- Where the limit of a stream grew, something is so of the stream: each small change keeps that
-- which lets no other limit grow.
use Rattle.std.proofs.Common.{◌≡◌, ℕ, ◌+◌, Bool, true, false, not, Option, Some, None, refl, sym, ap, ◌∙◌, subst, ◌⊎◌, inl, inr, arith}
use Rattle.std.specs.Prelude.{max, min, nat_le, ◌&&◌, ◌||◌, if◌then◌else◌}
use Rattle.std.specs.Option.{is_some}
use Rattle.std.proofs.lemmas.Bool.{cases_eq, and_parts, leb-true, cond_both}
use Rattle.quic_wire_core.specs.StreamId.{dir_of}
use Rattle.quic_streams_parts.specs.Dirs.{is_own, is_two_way}
use Rattle.quic_wire.specs.Value.{StreamValue}
use Rattle.quic_assembler.specs.Arrived.{Arrived, after_insert, bytes_read_of}
use Rattle.quic_streams_parts.specs.Table.{at, put, without}
use Rattle.quic_streams_parts.specs.TableLaws.{at-put, at-put-apart, at-without, at-without-apart}
use Rattle.quic_streams_parts.specs.SendHalf.{SendHalf}
use Rattle.quic_streams_parts.specs.RecvHalf.{RecvHalf, new_recv_half, greatest_offset, raised_on, least_growth, limit_grew, takes_limits, end_of, after_frame, with_offsets_of, with_frame, after_reset_stream, reset_by}
use Rattle.quic_streams_halves.specs.Halves.{with_half, without_half, changed_at, is_done}
use Rattle.quic_streams_state.specs.declared.state.StreamsState.{StreamsState}
use Rattle.quic_streams_state.specs.State.{Receiving, receiving_status, sending_status, without_send, done_if, seen_at}
use Rattle.quic_streams_state.specs.Taking.{joined}
use Rattle.quic_streams_state.specs.Control.{limit_told}
use Rattle.quic_streams_laws.specs.Keeping.{KeepsBy}
use Rattle.quic_streams_laws.specs.Keeping as changes
use Rattle.quic_streams_laws.specs.KeepingLaws.{at-half, by_limit_told}
use Rattle.quic_streams_laws.specs.LimitedLaws.{WasReceiving, in_use, unused, was_receiving}
use Rattle.quic_streams_laws.specs.QueuedLaws.{half-apart}
use Rattle.quic_streams_laws.specs.Shape.{IsShaped}
use Rattle.quic_streams_laws.specs.ShapeLaws.{shape_any}

-- of each half in use whose limit grew this is so
abbrev EachGrown : (ℕ → Type 0) → Receiving → Type 0
EachGrown G r = (id : ℕ) (h : RecvHalf) → at r.halves.live id ≡ Some h → limit_grew r.stream_window h ≡ true → G id

-- the same, of halves in their order
pub record Grown (G : ℕ → Type 0) (s : StreamsState) : Type 0 where
  pub shape : IsShaped s
  pub each : EachGrown G s.receiving

-- a half lets no other limit grow where it has another value
abbrev pub GrowsNot : (ℕ → Type 0) → Receiving → ℕ → RecvHalf → RecvHalf → Type 0
GrowsNot G r id old new = limit_grew r.stream_window new ≡ true → G id ⊎ (limit_grew r.stream_window old ≡ true)

-- the limit of a new half didn't grow, nor did one that was told just now
new_grew_not : (window : ℕ) → limit_grew window (new_recv_half window) ≡ true → ⊥
new_grew_not window grew =
    let past = leb-true (window + least_growth window) (raised_on window (new_recv_half window)) (and_parts (takes_limits (new_recv_half window)) _ grew).1 in
    omega arith

told_grew_not : (window : ℕ) (h : RecvHalf) → limit_grew window (record h { announced = raised_on window h }) ≡ true → ⊥
told_grew_not window h grew =
    let past = leb-true (raised_on window h + least_growth window) (raised_on window h) (and_parts (takes_limits h) _ grew).1 in
    omega arith

same_half : (a b : RecvHalf) (o : Option RecvHalf) → o ≡ Some a → o ≡ Some b → a ≡ b
same_half a b o e g = cc

gone_half : (o : Option RecvHalf) (h : RecvHalf) → o ≡ None → o ≡ Some h → ⊥
gone_half o h e g = cc

module _ (G : ℕ → Type 0) where
  -- whatever is known of another G
  pub grown_more : (H : ℕ → Type 0) (s : StreamsState) → ((id : ℕ) → G id → H id) → Grown G s → Grown H s
  grown_more H s more i = record { shape = i.shape; each = λ id h is grew. more id (i.each id h is grew) }

  done_each : (b : Bool) (id : ℕ) (s : StreamsState) → EachGrown G s.receiving → EachGrown G (done_if b id s).receiving
  done_each true id s i = i
  done_each false id s i = i

  joined_each : (s : StreamsState) (id : ℕ) (h : SendHalf) → EachGrown G s.receiving → EachGrown G (joined s id h).receiving
  joined_each s id h i = cond_both h.blocked s _ (λ (t : StreamsState). EachGrown G t.receiving) (λ e. i) (λ e. i)

  -- a half that is in use, or fresh
  was_grown : (s : StreamsState) (id : ℕ) (old : RecvHalf) → WasReceiving s id old → EachGrown G s.receiving → limit_grew s.receiving.stream_window old ≡ true → G id
  was_grown s id old (in_use is) i grew = i id old is grew
  was_grown s id old (unused is free same) i grew = absurd (new_grew_not s.receiving.stream_window (subst (λ (h : RecvHalf). limit_grew s.receiving.stream_window h ≡ true) same grew))

  -- one half has another value
  one : (s : StreamsState) (id : ℕ) (new : RecvHalf) → (limit_grew s.receiving.stream_window new ≡ true → G id) → EachGrown G s.receiving → EachGrown G (record s.receiving { halves = with_half s.side s.receiving.halves id new })
  one s id new here i j h is grew = elim (cases_eq j id) [
    | inl j_is ↦
        let new_is : new ≡ h = same_half new h (at (with_half s.side s.receiving.halves id new).live id) (at-half s.side s.receiving.halves id new) (ap (λ x. at (with_half s.side s.receiving.halves id new).live x) (sym j_is) ∙ is) in
        subst G (sym j_is) (here (subst (λ (x : RecvHalf). limit_grew s.receiving.stream_window x ≡ true) (sym new_is) grew))
    | inr ne ↦ i j h (sym (half-apart s.side s.receiving.halves id new j ne) ∙ is) grew
  ]

  -- one is done
  ends : (s : StreamsState) (id : ℕ) → IsShaped s → EachGrown G s.receiving → EachGrown G (record s.receiving { halves = without_half s.receiving.halves id; gone = s.receiving.gone + seen_at (at s.receiving.halves.live id) })
  ends s id shape i j h is grew = elim (cases_eq j id) [
    | inl j_is ↦ absurd (gone_half (at (without s.receiving.halves.live id) id) h (at-without s.receiving.halves.live id shape.receiving.sorted) (ap (λ x. at (without s.receiving.halves.live id) x) (sym j_is) ∙ is))
    | inr ne ↦ i j h (sym (at-without-apart s.receiving.halves.live id j ne) ∙ is) grew
  ]

  -- each small change keeps it that lets no other limit grow
  pub grown_kept : KeepsBy (GrowsNot G) (λ s id old new. Unit {0}) (λ s id n old new. Unit {0}) (Grown G)
  grown_kept (changes.joins id h) s is i = record { shape = shape_any (changes.joins id h) s is i.shape; each = joined_each s id h i.each }
  grown_kept (changes.ends_sending id h) s (is, over) i = record { shape = shape_any (changes.ends_sending id h) s (is, over) i.shape; each = done_each (not (is_own s.side id) && is_done (receiving_status s id)) id (without_send s id) i.each }
  grown_kept (changes.changes_receiving r id old new) s (is, on, same) i = record {
    shape = shape_any (changes.changes_receiving r id old new) s (is, tt, same) i.shape;
    each = one s id new (λ grew. elim (subst (λ q. GrowsNot G q id old new) (sym same) on grew) [ inl here ↦ here | inr was ↦ was_grown s id old (was_receiving s id old is) i.each was ]) i.each;
  }
  grown_kept (changes.ends_receiving id h) s is i = record {
    shape = shape_any (changes.ends_receiving id h) s is i.shape;
    each = done_each (not (is_own s.side id) && (not (is_two_way (dir_of id)) || is_done (sending_status s id))) id _ (ends s id i.shape i.each);
  }
  grown_kept (changes.tells_on id h) s is i = record {
    shape = shape_any (changes.tells_on id h) s is i.shape;
    each = one s id (record h { announced = raised_on s.receiving.stream_window h }) (λ grew. absurd (told_grew_not s.receiving.stream_window h grew)) i.each;
  }
  grown_kept c s may i = record { shape = shape_any c s may i.shape; each = i.each }

-- ---- frames

-- a frame that comes lets no limit grow: nothing is read by it, nor told
pub frame_grows_not : (window : ℕ) (h : RecvHalf) (f : StreamValue) → limit_grew window (after_frame h f) ≡ true → limit_grew window h ≡ true
frame_grows_not window h f = go h.stopped (is_some h.reset)
  where
    -- with its final size known or not
    sized : (a : Arrived) → bytes_read_of a ≡ bytes_read_of h.arrived → (fin : Bool) → limit_grew window (record h { arrived = a; seen = max h.seen (end_of f); final = (if fin then Some (end_of f) else h.final) }) ≡ true → limit_grew window h ≡ true
    sized a same true grew = absurd (none_known h.stopped _ grew)
      where
        none_known : (stopped more : Bool) → (not (stopped || true) && more) ≡ true → ⊥
        none_known true more is = cc
        none_known false more is = cc
    sized a same false grew = subst (λ n. (takes_limits h && nat_le (h.announced + least_growth window) (min (n + window) greatest_offset)) ≡ true) same grew

    go : (stopped reset : Bool) → limit_grew window (if stopped then with_offsets_of h f else (if reset then h else with_frame h f)) ≡ true → limit_grew window h ≡ true
    go true reset grew = sized h.arrived refl f.fin grew
    go false true grew = grew
    go false false grew = sized (after_insert h.arrived f.offset f.bytes) refl f.fin grew

-- a reset that comes lets none grow
pub reset_grows_not : (window : ℕ) (h : RecvHalf) (code size : ℕ) → limit_grew window (after_reset_stream h code size) ≡ true → limit_grew window h ≡ true
reset_grows_not window h code size = go h.stopped (is_some h.reset)
  where
    none_known : (stopped more : Bool) → (not (stopped || true) && more) ≡ true → ⊥
    none_known true more is = cc
    none_known false more is = cc

    go : (stopped reset : Bool) → limit_grew window (if stopped then record h { seen = size; final = Some size } else (if reset then h else reset_by h code size)) ≡ true → limit_grew window h ≡ true
    go true reset grew = absurd (none_known h.stopped _ grew)
    go false true grew = grew
    go false false grew = absurd (none_known h.stopped _ grew)

-- ---- a limit that is told

-- the peer is told of the limit of a stream: it grew no more, and of the others something is so
-- still
pub told_once : (G H : ℕ → Type 0) (s : StreamsState) (id : ℕ) → ((j : ℕ) → (j ≡ id → ⊥) → G j → H j) → Grown G s → Grown H (record s { receiving = limit_told s.receiving id })
told_once G H s id others i = record { shape = by_limit_told IsShaped shape_any s id i.shape; each = go (at s.receiving.halves.live id) refl }
  where
    told : RecvHalf → RecvHalf
    told h = record h { announced = raised_on s.receiving.stream_window h }

    go : (o : Option RecvHalf) → at s.receiving.halves.live id ≡ o → EachGrown H (record s.receiving { halves = record s.receiving.halves { live = changed_at o told s.receiving.halves.live id } })
    go None is j h found grew = elim (cases_eq j id) [
      | inl j_is ↦ absurd (gone_half (at s.receiving.halves.live id) h is (ap (λ x. at s.receiving.halves.live x) (sym j_is) ∙ found))
      | inr ne ↦ others j ne (i.each j h found grew)
    ]
    go (Some old) is j h found grew = elim (cases_eq j id) [
      | inl j_is ↦ (
          let new : RecvHalf = told old in
          let new_is : new ≡ h = same_half new h (at (put s.receiving.halves.live id new) id) (at-put s.receiving.halves.live id old new is) (ap (λ x. at (put s.receiving.halves.live id new) x) (sym j_is) ∙ found) in
          absurd (told_grew_not s.receiving.stream_window old (subst (λ (x : RecvHalf). limit_grew s.receiving.stream_window x ≡ true) (sym new_is) grew)))
      | inr ne ↦ others j ne (i.each j h (sym (at-put-apart s.receiving.halves.live id (told old) j ne) ∙ found) grew)
    ]
