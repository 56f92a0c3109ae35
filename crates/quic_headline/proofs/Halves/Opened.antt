-- Streams of the peer's stay opened, and a frame that is for one opens it (RFC 9000, sections 2.1
-- and 3.2).
use Rattle.std.proofs.Common.{◌≡◌, ℕ, ◌+◌, Bool, true, false, not, ◌&&◌, ◌||◌, Option, Some, None, refl, sym, ap, ◌∙◌, subst, arith}
use Rattle.std.specs.Prelude.{nat_lt, if◌then◌else◌, ◌==◌}
use Rattle.std.specs.Option.{is_some}
use Rattle.std.proofs.lemmas.Bool.{cond_both, lt-ltb, and_from, and_parts, both_ways}
use Rattle.quic_wire_core.specs.declared.stream_id.Side.{Side}
use Rattle.quic_wire_core.specs.declared.stream_id.Dir.{Dir}
use Rattle.quic_wire_core.specs.declared.stream_id.Dir.TheVariants.{Bi, Uni}
use Rattle.quic_wire_core.specs.StreamId.{dir_of, index_of}
use Rattle.quic_wire.specs.Value.{StopSendingValue, StreamValue, ResetStreamValue}
use Rattle.quic_streams_parts.specs.declared.answers.Breach.{Breach}
use Rattle.quic_streams_parts.specs.Table.{at}
use Rattle.quic_streams_parts.specs.Dirs.{of, is_own, is_two_way}
use Rattle.quic_streams_parts.specs.SendHalf.{SendHalf}
use Rattle.quic_streams_parts.specs.RecvHalf.{RecvHalf, new_recv_half, end_of, after_frame, after_reset_stream}
use Rattle.quic_streams_halves.specs.Halves.{half_of, status_from, has_place, is_done}
use Rattle.quic_retransmits.specs.Retransmits.{Retransmits}
use Rattle.quic_streams_state.specs.declared.state.StreamsState.{StreamsState}
use Rattle.quic_streams_state.specs.State.{Opening, is_opened, receives_on, first_window, receiving_status, sending_status, with_send, done_if, room}
use Rattle.quic_streams_state.specs.Opening.{opens, opened_if, opened_by, with_remote, sending_refusal}
use Rattle.quic_streams_state.specs.Taking.{part_for, writable_again, is_used_up, limited_half, limit_raised, limit_at, limit_unless, after_max_stream_data, stop_at, stop_unless, sending_for, after_stop_sending, renewed, after_reset_frame, reset_unless, reset_at, reset_breach, refusal, stream_unless, stream_at, after_stream}
use Rattle.quic_streams_laws.specs.Keeping.{KeepsAll}
use Rattle.quic_streams_laws.specs.Keeping as changes
use Rattle.quic_streams_laws.specs.KeepingLaws.{by_value}
use Rattle.quic_streams_laws.specs.Shape.{IsShaped}
use Rattle.quic_streams_laws.specs.ShapeLaws.{opened_more, more_own, more_remote, past_remote}

-- a stream is opened, at the end of this side
pub record IsOpened (side : Side) (id : ℕ) (s : StreamsState) : Type 0 where
  pub of_side : s.side ≡ side
  pub opened : is_opened s id ≡ true

-- an end stays that of its side
abbrev pub IsOf : Side → StreamsState → Type 0
IsOf side s = s.side ≡ side

-- ---- whatever changes

done_of : (b : Bool) (id : ℕ) (s : StreamsState) → (done_if b id s).side ≡ s.side
done_of false id s = refl
done_of true id s = refl

through : (side : Side) (q : ℕ) (b : Bool) (id : ℕ) (s : StreamsState) → IsOpened side q s → IsOpened side q (done_if b id s)
through side q false id s i = i
through side q true id s i = record { of_side = i.of_side; opened = i.opened }

-- a fact of the side and of which streams are opened stays so
pub opened_stays : (side : Side) (id : ℕ) → KeepsAll (λ r id old new. Unit {0}) (λ s id old new. Unit {0}) (λ s id n old new. Unit {0}) (λ s dir. Unit {0}) (λ id. Unit {0}) (IsOpened side id)
opened_stays side q (changes.opens_own dir) s may i = record { of_side = i.of_side; opened = opened_more s.opening (record s.opening { own = _; sending = s.opening.sending + 1 }) s.side q (record { own = λ d. more_own dir d s.opening.own; remote = λ d. omega arith }) i.opened }
opened_stays side q (changes.opens_theirs id) s (e, within) i = let past = past_remote s id e in record { of_side = i.of_side; opened = opened_more s.opening (with_remote (dir_of id) (index_of id + 1) s.opening) s.side q (more_remote (dir_of id) (index_of id + 1) s.opening (omega (arith, past.1))) i.opened }
opened_stays side q (changes.joins id h) s may i = cond_both h.blocked s _ (IsOpened side q) (λ e. i) (λ e. record { of_side = i.of_side; opened = i.opened })
opened_stays side q (changes.ends_sending id h) s may i = through side q (not (is_own s.side id) && is_done (receiving_status s id)) id _ (record { of_side = i.of_side; opened = i.opened })
opened_stays side q (changes.ends_receiving id h) s may i = through side q (not (is_own s.side id) && (not (is_two_way (dir_of id)) || is_done (sending_status s id))) id _ (record { of_side = i.of_side; opened = i.opened })
opened_stays side q c s may i = record { of_side = i.of_side; opened = i.opened }

-- so does the side
pub side_stays : (side : Side) → KeepsAll (λ r id old new. Unit {0}) (λ s id old new. Unit {0}) (λ s id n old new. Unit {0}) (λ s dir. Unit {0}) (λ id. Unit {0}) (IsOf side)
side_stays side (changes.joins id h) s may i = cond_both h.blocked s _ (IsOf side) (λ e. i) (λ e. i)
side_stays side (changes.ends_sending id h) s may i = done_of (not (is_own s.side id) && is_done (receiving_status s id)) id _ ∙ i
side_stays side (changes.ends_receiving id h) s may i = done_of (not (is_own s.side id) && (not (is_two_way (dir_of id)) || is_done (sending_status s id))) id _ ∙ i
side_stays side c s may i = i

-- ---- a frame opens its stream

-- one of the peer's is open once a frame opens it
pub opened_now : (s : StreamsState) (id : ℕ) → is_own s.side id ≡ false → is_opened (opened_by s id) id ≡ true
opened_now s id theirs = by_opening (opens s id) refl
  where
    behind : (dir : Dir) (n : ℕ) (o : Opening) → of dir (with_remote dir n o).remote ≡ n
    behind Bi n o = refl
    behind Uni n o = refl

    was : (own o : Bool) → own ≡ false → (not own && not o) ≡ false → o ≡ true
    was own true e f = refl
    was true false e f = cc
    was false false e f = cc

    by_opening : (b : Bool) → opens s id ≡ b → is_opened (opened_if b id s) id ≡ true
    by_opening true f =
        subst (λ own. nat_lt (index_of id) (of (dir_of id) (if own then (with_remote (dir_of id) (index_of id + 1) s.opening).own else (with_remote (dir_of id) (index_of id + 1) s.opening).remote)) ≡ true) (sym theirs)
        (subst (λ n. nat_lt (index_of id) n ≡ true) (sym (behind (dir_of id) (index_of id + 1) s.opening)) (lt-ltb (index_of id) (index_of id + 1) (omega arith)))
    by_opening false f = was (is_own s.side id) (is_opened s id) theirs f

pub side_now : (s : StreamsState) (id : ℕ) → (opened_by s id).side ≡ s.side
side_now s id = go (opens s id)
  where
    go : (b : Bool) → (opened_if b id s).side ≡ s.side
    go true = refl
    go false = refl

-- STOP_SENDING
pub stop_opens : (s : StreamsState) (f : StopSendingValue) → is_own s.side f.id ≡ false → sending_refusal s f.id ≡ None → is_opened (after_stop_sending s f) f.id ≡ true
stop_opens s f theirs none = subst (λ (o : Option Breach). is_opened (stop_unless o s f) f.id ≡ true) (sym none) (go (sending_for s f.id) (opened_by s f.id) (opened_now s f.id theirs))
  where
    go : (o : Option SendHalf) (t : StreamsState) → is_opened t f.id ≡ true → is_opened (stop_at o t f.id f.code) f.id ≡ true
    go None t e = e
    go (Some h) t e = cond_both (is_some h.stopped) t _ (λ u. is_opened u f.id ≡ true) (λ is. e) (λ is. e)

-- MAX_STREAM_DATA
pub limit_opens : (s : StreamsState) (id limit : ℕ) → is_own s.side id ≡ false → sending_refusal s id ≡ None → is_opened (after_max_stream_data s id limit) id ≡ true
limit_opens s id limit theirs none = subst (λ (o : Option Breach). is_opened (limit_unless o s id limit) id ≡ true) (sym none) (go (sending_for s id) (opened_by s id) (opened_now s id theirs))
  where
    again : (t : StreamsState) (h : SendHalf) → is_opened t id ≡ true → is_opened (writable_again t id h) id ≡ true
    again t h e = cond_both (room t.sending == 0) _ _ (λ u. is_opened u id ≡ true) (λ is. cond_both h.blocked t _ (λ u. is_opened u id ≡ true) (λ f. e) (λ f. e)) (λ is. e)

    raised : (t : StreamsState) (h : SendHalf) → is_opened t id ≡ true → is_opened (limit_raised t id h limit) id ≡ true
    raised t h e = cond_both (is_used_up h) _ _ (λ u. is_opened u id ≡ true) (λ is. again (with_send t id (limited_half h limit)) (limited_half h limit) e) (λ is. e)

    go : (o : Option SendHalf) (t : StreamsState) → is_opened t id ≡ true → is_opened (limit_at o t id limit) id ≡ true
    go None t e = e
    go (Some h) t e = cond_both (nat_lt h.limit limit) _ _ (λ u. is_opened u id ≡ true) (λ is. raised t h e) (λ is. e)

-- a stream whose receiving half is done is open
done_opened : (s : StreamsState) (id : ℕ) → IsShaped s → is_own s.side id ≡ false → part_for s id ≡ None → is_opened s id ≡ true
done_opened s id shape theirs none = go (opens s id) (opened_now s id theirs) none
  where
    new : RecvHalf
    new = new_recv_half (first_window s.receiving)

    receives : receives_on s.side id ≡ true
    receives = ap (λ (b : Bool). not b || is_two_way (dir_of id)) theirs

    may : has_place s.side s.receiving.halves.places id ≡ true → is_opened s id ≡ true
    may used = (and_parts (receives_on s.side id) (is_opened s id) (shape.receiving.allowed id used)).1

    by_status : (o : Option RecvHalf) (m u : Bool) → at s.receiving.halves.live id ≡ o → has_place s.side s.receiving.halves.places id ≡ u → m ≡ true → half_of new (status_from o m u) ≡ None → is_opened s id ≡ true
    by_status (Some h) m u is p e f = cc
    by_status None true false is p e f = cc
    by_status None true true is p e f = may p
    by_status None false u is p e f = absurd (both_ways false refl e)

    go : (b : Bool) → is_opened (opened_if b id s) id ≡ true → half_of (new_recv_half (first_window (opened_if b id s).receiving)) (receiving_status (opened_if b id s) id) ≡ None → is_opened s id ≡ true
    go true now f = by_status (at s.receiving.halves.live id) (receives_on s.side id && is_opened (opened_if true id s) id) (has_place s.side s.receiving.halves.places id) refl refl (and_from _ _ receives now) f
    go false now f = now

-- RESET_STREAM
pub reset_opens : (s : StreamsState) (p : Retransmits) (f : ResetStreamValue) → IsShaped s → is_own s.side f.id ≡ false → reset_breach s f ≡ None → is_opened (after_reset_frame s p f).state f.id ≡ true
reset_opens s p f shape theirs none = subst (λ (o : Option Breach). is_opened (reset_unless o s p f).state f.id ≡ true) (sym none) (go (part_for s f.id) refl)
  where
    go : (o : Option RecvHalf) → part_for s f.id ≡ o → is_opened (reset_at o s p f).state f.id ≡ true
    go None is = done_opened s f.id shape theirs is
    go (Some h) is =
        let now : IsOpened s.side f.id (renewed s f.id h (after_reset_stream h f.code f.final_size) (not (is_some h.reset))) =
        by_value (IsOpened s.side f.id) (opened_stays s.side f.id) s f.id h (after_reset_stream h f.code f.final_size) (not (is_some h.reset)) (record { of_side = side_now s f.id; opened = opened_now s f.id theirs }) in
        now.opened

-- STREAM
pub stream_opens : (s : StreamsState) (p : Retransmits) (f : StreamValue) → IsShaped s → is_own s.side f.id ≡ false → refusal s f.id (end_of f) f.fin ≡ None → is_opened (after_stream s p f).state f.id ≡ true
stream_opens s p f shape theirs none = subst (λ (o : Option Breach). is_opened (stream_unless o s p f).state f.id ≡ true) (sym none) (go (part_for s f.id) refl)
  where
    go : (o : Option RecvHalf) → part_for s f.id ≡ o → is_opened (stream_at o s p f).state f.id ≡ true
    go None is = done_opened s f.id shape theirs is
    go (Some h) is =
        let now : IsOpened s.side f.id (renewed s f.id h (after_frame h f) true) =
        by_value (IsOpened s.side f.id) (opened_stays s.side f.id) s f.id h (after_frame h f) true (record { of_side = side_now s f.id; opened = opened_now s f.id theirs }) in
        now.opened
