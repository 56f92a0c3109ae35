-- A half that was reset stays in use, and reset, until its RESET_STREAM is acknowledged.
use Rattle.std.proofs.Common.{◌≡◌, ℕ, Bool, true, false, ◌∷◌, Option, Some, None, refl, sym, ap, ◌∙◌, inl, inr}
use Rattle.std.specs.Prelude.{if◌then◌else◌, not, ◌&&◌, ◌||◌}
use Rattle.std.specs.Option.{is_some, is_none}
use Rattle.std.proofs.lemmas.Bool.{cases_eq, and_parts}
use Rattle.quic_wire_core.specs.StreamId.{dir_of}
use Rattle.quic_streams_parts.specs.Dirs.{is_two_way, is_own}
use Rattle.quic_streams_parts.specs.Table.{Table, at, put}
use Rattle.quic_streams_parts.specs.TableLaws.{at-put, at-put-apart, at-without-apart}
use Rattle.quic_streams_parts.specs.Queue.{Place, Queue}
use Rattle.quic_streams_parts.specs.SendHalf.{SendHalf, is_acked, requeued_at, turned_at}
use Rattle.quic_streams_halves.specs.Halves.{with_half, is_done}
use Rattle.quic_streams_state.specs.declared.state.StreamsState.{StreamsState}
use Rattle.quic_streams_state.specs.State.{sending_half, receiving_status, sending_status, done_if, without_send}
use Rattle.quic_streams_state.specs.Taking.{joined}
use Rattle.quic_streams_state.specs.Telling.{unblocked_at}
use Rattle.quic_streams_laws.specs.Keeping.{KeepsWhere}
use Rattle.quic_streams_laws.specs.Keeping as changes
use Rattle.quic_streams_laws.specs.KeepingLaws.{at-half, live_sends}
use Rattle.quic_streams_laws.specs.QueuedLaws.{half-apart, same_half}
use Rattle.quic_headline.proofs.Packets.MayGo.{WasReset}

-- ---- halves

-- a half that comes into the queue, or leaves it, is reset as it was
pub requeued_reset : (o : Option Place) (b : Bool) (q : Queue) (id : ℕ) (h : SendHalf) → (requeued_at o b q id h).half.reset ≡ h.reset
requeued_reset None true q id h = refl
requeued_reset None false q id h = refl
requeued_reset (Some place) true q id h = refl
requeued_reset (Some place) false q id h = refl

-- so is one that goes behind its equals
turned_reset : (o : Option Place) (q : Queue) (id : ℕ) (h : SendHalf) → (turned_at o q id h).half.reset ≡ h.reset
turned_reset None q id h = refl
turned_reset (Some place) q id h = refl

-- a half that was reset is reset as before
abbrev pub StaysReset : SendHalf → SendHalf → Type 0
StaysReset old new = is_some old.reset ≡ true → new.reset ≡ old.reset

-- there is a size
size_there : (o : Option ℕ) (size : ℕ) → o ≡ Some size → is_some o ≡ true
size_there o size is = ap is_some is

-- what is acknowledged wasn't reset
pub acked_free : (h : SendHalf) → is_acked h ≡ true → is_some h.reset ≡ true → ⊥
acked_free h acked = go h.reset (and_parts (is_none h.reset) _ acked).0
  where
    go : (o : Option ℕ) → is_none o ≡ true → is_some o ≡ true → ⊥
    go None none some = clash some
      where
        clash : false ≡ true → ⊥
        clash e = cc
    go (Some size) none some = clash none
      where
        clash : false ≡ true → ⊥
        clash e = cc

-- ---- a stream

module _ (r : ℕ × ℕ) where
  -- its half is in use, and was reset
  abbrev pub InUse : StreamsState → Type 0
  InUse s = WasReset s.sending.halves.live r

  -- a half of its own goes on, or another does
  with_kept : (s : StreamsState) (id : ℕ) (old new : SendHalf) → sending_half s id ≡ Some old → StaysReset old new → InUse s → WasReset (with_half s.side s.sending.halves id new).live r
  with_kept s id old new is on u = elim (cases_eq r.0 id) [
    | inl same ↦
        let there : at s.sending.halves.live id ≡ Some u.half = ap (λ (x : ℕ). at s.sending.halves.live x) (sym same) ∙ u.found in
        let was : u.half ≡ old = same_half u.half old (sending_half s id) (live_sends s id u.half there) is in
        let reset : old.reset ≡ Some u.size = ap (λ (h : SendHalf). h.reset) (sym was) ∙ u.reset in
        record {
          half = new;
          found = ap (λ (x : ℕ). at (with_half s.side s.sending.halves id new).live x) same ∙ at-half s.side s.sending.halves id new;
          size = u.size;
          reset = on (size_there old.reset u.size reset) ∙ reset;
          code = u.code;
        }
    | inr apart ↦ record { half = u.half; found = half-apart s.side s.sending.halves id new r.0 apart ∙ u.found; size = u.size; reset = u.reset; code = u.code }
  ]

  -- the same of a table
  put_kept : (live : Table SendHalf) (id : ℕ) (old new : SendHalf) → at live id ≡ Some old → new.reset ≡ old.reset → WasReset live r → WasReset (put live id new) r
  put_kept live id old new is on u = elim (cases_eq r.0 id) [
    | inl same ↦
        let was : u.half ≡ old = same_half u.half old (at live id) (ap (λ (x : ℕ). at live x) (sym same) ∙ u.found) is in
        record {
          half = new;
          found = ap (λ (x : ℕ). at (put live id new) x) same ∙ at-put live id old new is;
          size = u.size;
          reset = on ∙ ap (λ (h : SendHalf). h.reset) (sym was) ∙ u.reset;
          code = u.code;
        }
    | inr apart ↦ record { half = u.half; found = at-put-apart live id new r.0 apart ∙ u.found; size = u.size; reset = u.reset; code = u.code }
  ]

  -- a stream is done both ways or isn't
  done_same : (b : Bool) (id : ℕ) (s : StreamsState) → InUse s → InUse (done_if b id s)
  done_same true id s u = u
  done_same false id s u = u

  -- it is among those that are blocked
  joined_kept : (s : StreamsState) (id : ℕ) (h : SendHalf) → sending_half s id ≡ Some h → InUse s → InUse (joined s id h)
  joined_kept s id h is u = go h.blocked
    where
      go : (b : Bool) → InUse (if b then s else record s { sending = record s.sending { halves = with_half s.side s.sending.halves id (record h { blocked = true }); blocked = id ∷ s.sending.blocked } })
      go true = u
      go false = with_kept s id h (record h { blocked = true }) is (λ some. refl) u

  -- or isn't any more
  unblocked_kept : (live : Table SendHalf) (id : ℕ) → WasReset live r → WasReset (unblocked_at (at live id) live id) r
  unblocked_kept live id u = go (at live id) refl
    where
      go : (o : Option SendHalf) → at live id ≡ o → WasReset (unblocked_at o live id) r
      go None is = u
      go (Some h) is = put_kept live id h (record h { blocked = false }) is refl u

  -- another half is done
  done_kept : (s : StreamsState) (id : ℕ) (h : SendHalf) → at s.sending.halves.live id ≡ Some h → (is_some h.reset ≡ true → id ≡ r.0 → ⊥) → InUse s → InUse (without_send s id)
  done_kept s id h is over u = elim (cases_eq r.0 id) [
    | inl same ↦ absurd (
        let was : u.half ≡ h = same_half u.half h (at s.sending.halves.live id) (ap (λ (x : ℕ). at s.sending.halves.live x) (sym same) ∙ u.found) is in
        over (size_there h.reset u.size (ap (λ (x : SendHalf). x.reset) (sym was) ∙ u.reset)) (sym same))
    | inr apart ↦ record { half = u.half; found = at-without-apart s.sending.halves.live id r.0 apart ∙ u.found; size = u.size; reset = u.reset; code = u.code }
  ]

  -- each small change keeps it, where nothing is written on it, and no half of it that was reset is
  -- done
  pub in_use_kept : KeepsWhere (λ q id old new. Unit {0}) (λ s id old new. StaysReset old new) (λ s id n old new. (id ≡ r.0 → ⊥)) (λ s dir. Unit {0}) (λ id. Unit {0}) (λ id h. (is_some h.reset ≡ true → id ≡ r.0 → ⊥)) (λ s limit. Unit {0}) InUse
  in_use_kept (changes.changes_sending id old new) s (is, on, same) u = with_kept s id old new is on u
  in_use_kept (changes.queues id old new b) s (is, on, has) u = with_kept s id old (requeued_at old.place b s.sending.queue id new).half is (λ some. requeued_reset old.place b s.sending.queue id new ∙ on some) u
  in_use_kept (changes.turns id old new) s (is, on, has) u = with_kept s id old (turned_at old.place s.sending.queue id new).half is (λ some. turned_reset old.place s.sending.queue id new ∙ on some) u
  in_use_kept (changes.writes id n old new) s (is, apart, has) u = record {
    half = u.half;
    found = half-apart s.side s.sending.halves id (requeued_at old.place true s.sending.queue id new).half r.0 (λ same. apart (sym same)) ∙ u.found;
    size = u.size;
    reset = u.reset;
    code = u.code;
  }
  in_use_kept (changes.joins id h) s is u = joined_kept s id h is u
  in_use_kept (changes.notes_on id h said) s is u = with_kept s id h (record h { said = said }) is (λ some. refl) u
  in_use_kept (changes.passes id ids) s may u = unblocked_kept s.sending.halves.live id u
  in_use_kept (changes.ends_sending id h) s (is, over) u = done_same (not (is_own s.side id) && is_done (receiving_status s id)) id (without_send s id) (done_kept s id h is over u)
  in_use_kept (changes.ends_receiving id h) s may u = done_same (not (is_own s.side id) && (not (is_two_way (dir_of id)) || is_done (sending_status s id))) id _ u
  in_use_kept c s may u = u
