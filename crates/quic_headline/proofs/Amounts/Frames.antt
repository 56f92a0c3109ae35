-- What a frame that was taken leaves of what is tallied: MAX_DATA and MAX_STREAM_DATA raise a
-- limit, and STOP_SENDING stops a stream (RFC 9000, sections 19.5, 19.9 and 19.10).
use Rattle.std.proofs.Common.{◌≡◌, ℕ, ◌<◌, ◌≤◌, Bool, true, false, not, nat_le, List, [], ◌∷◌, Option, Some, None, refl, sym, ap, ◌∙◌, subst, arith, inl, inr, map, max}
use Rattle.std.specs.Prelude.{max, nat_lt, ◌==◌, ◌&&◌, ◌||◌, if◌then◌else◌}
use Rattle.std.specs.Option.{is_some}
use Rattle.std.specs.List.{list_any}
use Rattle.std.proofs.lemmas.Bool.{cond_both, cases_eq, cases_Bool, eq-eqb, ne_eqb, ltb-true, ltb-false, and_from}
use Rattle.quic_wire_core.specs.declared.stream_id.Side.{Side}
use Rattle.quic_wire_core.specs.StreamId.{dir_of, index_of}
use Rattle.quic_wire.specs.Value.{FrameValue, StopSendingValue, StreamLimitValue, ack, stream, reset_stream, stop_sending, max_data, max_stream_data, max_streams, datagram, new_connection_id, retire_connection_id, path_response, handshake_done, ack_frequency, path_challenge}
use Rattle.quic_streams_parts.specs.declared.answers.Breach.{Breach}
use Rattle.quic_streams_parts.specs.declared.answers.Breach.TheVariants as breaches
use Rattle.quic_streams_parts.specs.Dirs.{is_own, is_two_way}
use Rattle.quic_streams_parts.specs.Table.{at}
use Rattle.quic_streams_parts.specs.SendHalf.{SendHalf, new_send_half}
use Rattle.quic_streams_halves.specs.Halves.{has_place, half_of, status_from}
use Rattle.quic_streams_state.specs.declared.state.StreamsState.{StreamsState}
use Rattle.quic_streams_state.specs.State.{sending_half, room, first_limit, is_opened, sends_on, with_send}
use Rattle.quic_streams_state.specs.Limits.{raised_count}
use Rattle.quic_streams_state.specs.Opening.{opened_by, opened_if, opens, sending_refusal}
use Rattle.quic_streams_state.specs.Taking.{after_max_data, after_max_stream_data, after_stop_sending, stop_at, stop_unless, stopped_half, limit_at, limit_unless, limit_raised, limited_half, is_used_up}
use Rattle.quic_streams_laws.specs.Each.{HalfIs}
use Rattle.quic_streams_laws.specs.KeepingLaws.{by_option, by_opened, sends_within, live_sends, at-half, by_stream, by_reset_frame, by_max_streams}
use Rattle.quic_machine.specs.Tracking.{dir_named}
use Rattle.quic_machine.specs.End.{End}
use Rattle.quic_machine.specs.Receive.{fault_of, is_above, names_ungiven, take_frame}
use Rattle.quic_machine.specs.FrameCases.{acked_keeps, named, ack_taken, passed, frames_taken, message_leaves, apart_leaves}
use Rattle.quic_machine.specs.Migration.{as_elsewhere}
use Rattle.quic_headline.specs.Amounts.{data_limit_in, stream_limit_in, stops_stream, greatest_in}
use Rattle.quic_headline.proofs.Halves.Opened.{opened_now, side_now}
use Rattle.quic_headline.proofs.Amounts.Tally.{Tally, IsTallied, IsFresh, HasSums, AreTallied, Tallies, AlikeAt, alike_at, half_tallied, tallied_kept, tallies_kept, tallies_settle, put_tallied, halves_alike, tallies_alike}
use Rattle.quic_headline.proofs.Packets.Delivered.{frames_at}
use Rattle.quic_streams_laws.specs.Keeping as changes

-- with what a frame told
abbrev pub and_frame : FrameValue → Tally → Tally
and_frame f t = record t { limit = λ id. max (stream_limit_in id f) (t.limit id); stopped = λ id. stops_stream id f || t.stopped id; all = max (data_limit_in f) t.all }

-- one that tells nothing of this
plain : (t : Tally) (f : FrameValue) (s : StreamsState) → ((id : ℕ) → stream_limit_in id f ≡ 0) → ((id : ℕ) → stops_stream id f ≡ false) → data_limit_in f ≡ 0 → Tallies t s → Tallies (and_frame f t) s
plain t f s none goes zero i = tallies_alike t (and_frame f t) s (λ id. (let no = none id in record { first = refl; limit = omega arith; stopped = ap (λ (b : Bool). b || t.stopped id) (goes id); sizes = refl })) (omega arith) refl refl i

module _ (t : Tally) where
  -- ---- MAX_DATA

  data_tallies : (limit : ℕ) (s : StreamsState) → Tallies t s → Tallies (and_frame (max_data limit) t) (after_max_data s limit)
  data_tallies limit s i = record {
    halves = halves_alike t (and_frame (max_data limit) t) (after_max_data s limit) (λ id. record { first = refl; limit = omega arith; stopped = refl; sizes = refl }) (tallied_kept t (changes.raises (max s.sending.limit limit)) s (omega arith) i.halves);
    sums = (let was = i.sums.limit in record { limit = omega arith; accepted = i.sums.accepted; window = i.sums.window });
  }

  -- ---- a half

  -- a stream that may be named so is opened, and this end may send on it
  may : (own two opened far : Bool) → (if not own && not two then Some breaches.StreamState else (if own then (if opened then None else Some breaches.StreamState) else (if far then Some breaches.StreamLimit else None))) ≡ None → ((own || two) ≡ true) × (own ≡ true → opened ≡ true)
  may true two true far none = (refl, λ e. refl)
  may true two false far none = cc
  may false true opened far none = (refl, λ e. cc)
  may false false opened far none = cc

  pub may_send : (s : StreamsState) (id : ℕ) → sending_refusal s id ≡ None → (sends_on (opened_by s id).side id && is_opened (opened_by s id) id) ≡ true
  may_send s id none = and_from _ _ (ap (λ (side : Side). is_own side id || is_two_way (dir_of id)) (side_now s id) ∙ m.0) (elim (cases_Bool (is_own s.side id)) [
    | inl own ↦ own_same (opens s id) refl own (m.1 own)
    | inr theirs ↦ opened_now s id theirs
  ])
    where
      m : ((is_own s.side id || is_two_way (dir_of id)) ≡ true) × (is_own s.side id ≡ true → is_opened s id ≡ true)
      m = may (is_own s.side id) (is_two_way (dir_of id)) (is_opened s id) (nat_le (raised_count (dir_of id) s.opening) (index_of id)) none

      own_same : (b : Bool) → opens s id ≡ b → is_own s.side id ≡ true → is_opened s id ≡ true → is_opened (opened_if b id s) id ≡ true
      own_same false e own is = is
      own_same true e own is = (let clash : false ≡ true = sym (ap (λ (b : Bool). not b && not (is_opened s id)) own) ∙ e in cc)

  -- where there is no half, it was in use
  none_used : (s : StreamsState) (id : ℕ) → (sends_on s.side id && is_opened s id) ≡ true → sending_half s id ≡ None → (u : Tally) → HalfIs (IsFresh t id) (IsTallied t id) (Unit {0}) (at s.sending.halves.live id) (has_place s.side s.sending.halves.places id)
      → HalfIs (IsFresh u id) (IsTallied u id) (Unit {0}) (at s.sending.halves.live id) (has_place s.side s.sending.halves.places id)
  none_used s id may none u i = go (at s.sending.halves.live id) (sends_on s.side id && is_opened s id) (has_place s.side s.sending.halves.places id) may none
    where
      go : (o : Option SendHalf) (m b : Bool) → m ≡ true → half_of (new_send_half (first_limit s id)) (status_from o m b) ≡ None → HalfIs (IsFresh u id) (IsTallied u id) (Unit {0}) o b
      go (Some h) m b is e = cc
      go None true true is e = tt
      go None true false is e = cc
      go None false b is e = cc

  module _ (u : Tally) (id : ℕ) (first : (j : ℕ) → u.first j ≡ t.first j) (apart : (j : ℕ) → (j ≡ id → ⊥) → AlikeAt t u j) (all : u.all ≡ t.all) (accepted : u.accepted ≡ t.accepted) (window : u.window ≡ t.window) where
    sums_same : (s : StreamsState) → HasSums t s.sending → HasSums u s.sending
    sums_same s i = record { limit = i.limit ∙ sym all; accepted = i.accepted ∙ sym accepted; window = i.window ∙ sym window }

    -- no half changes
    none_changes : (s : StreamsState) → Tallies t s → HalfIs (IsFresh u id) (IsTallied u id) (Unit {0}) (at s.sending.halves.live id) (has_place s.side s.sending.halves.places id) → Tallies u s
    none_changes s i here = record {
      halves = record {
        shape = i.halves.shape;
        first = λ j. i.halves.first j ∙ sym (first j);
        each = λ j. elim (cases_eq j id) [
          | inl same ↦ subst (λ (x : ℕ). HalfIs (IsFresh u x) (IsTallied u x) (Unit {0}) (at s.sending.halves.live x) (has_place s.side s.sending.halves.places x)) (sym same) here
          | inr ne ↦ alike_at t u j (apart j ne) (at s.sending.halves.live j) (has_place s.side s.sending.halves.places j) (i.halves.each j)
        ];
      };
      sums = sums_same s i.sums;
    }

    -- one does
    one_changes : (s : StreamsState) (old new : SendHalf) → sending_half s id ≡ Some old → IsTallied u id new → Tallies t s → Tallies u (with_send s id new)
    one_changes s old new is now i =
        let put : AreTallied u (with_send s id new) = put_tallied t u s id old (record { half = new; queue = s.sending.queue }) is first apart now i.halves in
        record { halves = put; sums = (let same = sums_same s i.sums in record { limit = same.limit; accepted = same.accepted; window = same.window }) }

  -- ---- MAX_STREAM_DATA

  module _ (f : StreamLimitValue) where
    abbrev raised : Tally
    raised = and_frame (max_stream_data f) t

    others_raised : (j : ℕ) → (j ≡ f.id → ⊥) → AlikeAt t raised j
    others_raised j ne = (let none : stream_limit_in j (max_stream_data f) ≡ 0 = ap (λ (b : Bool). if b then f.limit else 0) (ne_eqb f.id j (λ e. ne (sym e))) in record { first = refl; limit = omega arith; stopped = refl; sizes = refl })

    limit_here : raised.limit f.id ≡ max f.limit (t.limit f.id)
    limit_here = ap (λ (b : Bool). max (if b then f.limit else 0) (t.limit f.id)) (eq-eqb f.id f.id refl)

    limit_on : (s : StreamsState) → Tallies t s → (sends_on s.side f.id && is_opened s f.id) ≡ true → Tallies raised (limit_at (sending_half s f.id) s f.id f.limit)
    limit_on s i may = by_option (sending_half s f.id) (λ o. Tallies raised (limit_at o s f.id f.limit))
        (λ e. none_changes raised f.id (λ j. refl) others_raised (omega arith) refl refl s i (none_used s f.id may e raised (i.halves.each f.id)))
        (λ h e. cond_both (nat_lt h.limit f.limit) _ _ (Tallies raised) (λ above. raises h e (ltb-true h.limit f.limit above)) (λ below. stays h e (ltb-false h.limit f.limit below)))
      where
        stays : (h : SendHalf) → sending_half s f.id ≡ Some h → f.limit ≤ h.limit → Tallies raised s
        stays h e below = tallies_alike t raised s (λ j. elim (cases_eq j f.id) [
          | inl same ↦ subst (AlikeAt t raised) (sym same) (let was = (half_tallied t s f.id h e i.halves).limit in let now = limit_here in record { first = refl; limit = omega arith; stopped = refl; sizes = refl })
          | inr ne ↦ others_raised j ne
        ]) (omega arith) refl refl i

        raises : (h : SendHalf) → sending_half s f.id ≡ Some h → h.limit < f.limit → Tallies raised (limit_raised s f.id h f.limit)
        raises h e above =
            let was = half_tallied t s f.id h e i.halves in
            let before = was.limit in
            let now = limit_here in
            let half : SendHalf = limited_half h f.limit in
            let v : StreamsState = with_send s f.id half in
            let put : Tallies raised v = one_changes raised f.id (λ j. refl) others_raised (omega arith) refl refl s h half e (record { limit = omega arith; stopped = was.stopped; pieces = was.pieces }) i in
            let there : sending_half v f.id ≡ Some half = live_sends v f.id half (at-half s.side s.sending.halves f.id half) in
            cond_both (is_used_up h) _ _ (Tallies raised) (λ x. cond_both (room v.sending == 0) _ _ (Tallies raised) (λ y. tallies_kept raised (changes.joins f.id half) v there put) (λ y. told v put _)) (λ x. put)
          where
            told : (v : StreamsState) → Tallies raised v → (es : _) → Tallies raised (record v { events = es })
            told v put es = record { halves = record { shape = record { sending = put.halves.shape.sending; receiving = put.halves.shape.receiving }; first = put.halves.first; each = put.halves.each }; sums = put.sums }

    stream_data_tallies : (s : StreamsState) → sending_refusal s f.id ≡ None → Tallies t s → Tallies raised (after_max_stream_data s f.id f.limit)
    stream_data_tallies s none i = subst (λ (o : Option Breach). Tallies raised (limit_unless o s f.id f.limit)) (sym none) (limit_on (opened_by s f.id) (by_opened (Tallies t) (tallies_kept t) s f.id (sends_within (Tallies t) (tallies_kept t) s f.id none) i) (may_send s f.id none))

  -- ---- STOP_SENDING

  module _ (f : StopSendingValue) where
    abbrev halted : Tally
    halted = and_frame (stop_sending f) t

    others_halted : (j : ℕ) → (j ≡ f.id → ⊥) → AlikeAt t halted j
    others_halted j ne = record { first = refl; limit = omega arith; stopped = ap (λ (b : Bool). b || t.stopped j) (ne_eqb f.id j (λ e. ne (sym e))); sizes = refl }

    stopped_here : halted.stopped f.id ≡ true
    stopped_here = ap (λ (b : Bool). b || t.stopped f.id) (eq-eqb f.id f.id refl)

    stop_on : (s : StreamsState) → Tallies t s → (sends_on s.side f.id && is_opened s f.id) ≡ true → Tallies halted (stop_at (sending_half s f.id) s f.id f.code)
    stop_on s i may = by_option (sending_half s f.id) (λ o. Tallies halted (stop_at o s f.id f.code))
        (λ e. none_changes halted f.id (λ j. refl) others_halted (omega arith) refl refl s i (none_used s f.id may e halted (i.halves.each f.id)))
        (λ h e. cond_both (is_some h.stopped) _ _ (Tallies halted) (λ so. stays h e so) (λ goes. stops h e _))
      where
        stays : (h : SendHalf) → sending_half s f.id ≡ Some h → is_some h.stopped ≡ true → Tallies halted s
        stays h e so = tallies_alike t halted s (λ j. elim (cases_eq j f.id) [
          | inl same ↦ subst (AlikeAt t halted) (sym same) (record { first = refl; limit = omega arith; stopped = stopped_here ∙ sym so ∙ (half_tallied t s f.id h e i.halves).stopped; sizes = refl })
          | inr ne ↦ others_halted j ne
        ]) (omega arith) refl refl i

        stops : (h : SendHalf) → sending_half s f.id ≡ Some h → (es : _) → Tallies halted (record (with_send s f.id (stopped_half h f.code)) { events = es })
        stops h e es =
            let was = half_tallied t s f.id h e i.halves in
            let limit = was.limit in
            let put : Tallies halted (with_send s f.id (stopped_half h f.code)) = one_changes halted f.id (λ j. refl) others_halted (omega arith) refl refl s h (stopped_half h f.code) e (record { limit = omega arith; stopped = sym stopped_here; pieces = was.pieces }) i in
            record { halves = record { shape = record { sending = put.halves.shape.sending; receiving = put.halves.shape.receiving }; first = put.halves.first; each = put.halves.each }; sums = put.sums }

    stop_tallies : (s : StreamsState) → sending_refusal s f.id ≡ None → Tallies t s → Tallies halted (after_stop_sending s f)
    stop_tallies s none i = subst (λ (o : Option Breach). Tallies halted (stop_unless o s f)) (sym none) (stop_on (opened_by s f.id) (by_opened (Tallies t) (tallies_kept t) s f.id (sends_within (Tallies t) (tallies_kept t) s f.id none) i) (may_send s f.id none))

  -- ---- any frame that breaks no rule

  unbroken : (o : Option Breach) → fault_of o ≡ None → o ≡ None
  unbroken None e = refl
  unbroken (Some b) e = cc

  pub frame_tallies : (f : FrameValue) (e : End) → (take_frame f e).fault ≡ None → Tallies t e.streams → Tallies (and_frame f t) (take_frame f e).end.streams
  frame_tallies (stream g) e none i = plain t (stream g) _ (λ id. refl) (λ id. refl) refl (by_stream (Tallies t) (tallies_kept t) e.streams e.waiting.frames g (λ h a u. tt) i)
  frame_tallies (reset_stream g) e none i = plain t (reset_stream g) _ (λ id. refl) (λ id. refl) refl (by_reset_frame (Tallies t) (tallies_kept t) e.streams e.waiting.frames g (λ h a u. tt) i)
  frame_tallies (stop_sending g) e none i = stop_tallies g e.streams (unbroken (sending_refusal e.streams g.id) none) i
  frame_tallies (max_data limit) e none i = data_tallies limit e.streams i
  frame_tallies (max_stream_data g) e none i = stream_data_tallies g e.streams (unbroken (sending_refusal e.streams g.id) none) i
  frame_tallies (max_streams g) e none i = plain t (max_streams g) _ (λ id. refl) (λ id. refl) refl (by_max_streams (Tallies t) (tallies_kept t) (dir_named g.one_way) g.count e.streams i)
  frame_tallies (ack a) e none i = plain t (ack a) _ (λ id. refl) (λ id. refl) refl (acked (names_ungiven a e))
    where
      acked : (b : Bool) → Tallies t (ack_taken b a e).end.streams
      acked true = i
      acked false = acked_keeps (λ (x : End). Tallies t x.streams) (tallies_settle t) (is_above e.numbers.largest_acked a.largest) a (named a e) i
  frame_tallies (datagram m) e none i =
      let same = plain t (datagram m) e.streams (λ id. refl) (λ id. refl) refl i in
      message_leaves (λ (x : End). Tallies (and_frame (datagram m) t) x.streams) m e same (λ left. same)
  frame_tallies (new_connection_id g) e none i =
      let same = plain t (new_connection_id g) e.streams (λ id. refl) (λ id. refl) refl i in
      apart_leaves (λ (x : End). Tallies (and_frame (new_connection_id g) t) x.streams) (new_connection_id g) e tt (λ c. same) (λ c most. same)
  frame_tallies (retire_connection_id n) e none i =
      let same = plain t (retire_connection_id n) e.streams (λ id. refl) (λ id. refl) refl i in
      apart_leaves (λ (x : End). Tallies (and_frame (retire_connection_id n) t) x.streams) (retire_connection_id n) e tt (λ c. same) (λ c most. same)
  frame_tallies (path_response token) e none i =
      let same = plain t (path_response token) e.streams (λ id. refl) (λ id. refl) refl i in
      apart_leaves (λ (x : End). Tallies (and_frame (path_response token) t) x.streams) (path_response token) e tt (λ c. same) (λ c most. same)
  frame_tallies handshake_done e none i =
      let same = plain t handshake_done e.streams (λ id. refl) (λ id. refl) refl i in
      apart_leaves (λ (x : End). Tallies (and_frame handshake_done t) x.streams) handshake_done e tt (λ c. same) (λ c most. same)
  frame_tallies (ack_frequency r) e none i =
      let same = plain t (ack_frequency r) e.streams (λ id. refl) (λ id. refl) refl i in
      apart_leaves (λ (x : End). Tallies (and_frame (ack_frequency r) t) x.streams) (ack_frequency r) e tt (λ c. same) (λ c most. same)
  frame_tallies other e none i = plain t other e.streams (λ id. refl) (λ id. refl) refl i

-- ---- all frames of a packet

abbrev pub and_frames : List FrameValue → Tally → Tally
and_frames [] t = t
and_frames (f ∷ fs) t = and_frames fs (and_frame f t)

-- what is left to be told comes to the same
record Goes (whole : Tally) (left : List FrameValue) (e : End) : Type 0 where
  so_far : Tally
  tallies : Tallies so_far e.streams
  same : and_frames left so_far ≡ whole

pub frames_tally : (t : Tally) (fs : List FrameValue) (e : End) → (passed fs e).fault ≡ None → Tallies t e.streams → Tallies (and_frames fs t) (passed fs e).end.streams
frames_tally t fs e none i =
    let all : Goes (and_frames fs t) [] (passed fs e).end = frames_taken (Goes (and_frames fs t)) (λ f left x fine g. record { so_far = and_frame f g.so_far; tallies = frame_tallies g.so_far f x fine g.tallies; same = g.same }) fs e none (record { so_far = t; tallies = i; same = refl }) in
    subst (λ (u : Tally). Tallies u (passed fs e).end.streams) all.same all.tallies

-- those of path validation tell nothing, so what is taken of a packet from elsewhere tells the same
and_frames_at : (here : Bool) (fs : List FrameValue) (t : Tally) → and_frames (frames_at here fs) t ≡ and_frames fs t
and_frames_at true fs t = refl
and_frames_at false fs t = go fs t
  where
    one : (f : FrameValue) (t : Tally) → and_frame (as_elsewhere f) t ≡ and_frame f t
    one (path_challenge token) t = refl
    one (path_response token) t = refl
    one f t = refl

    go : (gs : List FrameValue) (t : Tally) → and_frames (map as_elsewhere gs) t ≡ and_frames gs t
    go [] t = refl
    go (g ∷ gs) t = go gs (and_frame (as_elsewhere g) t) ∙ ap (λ (u : Tally). and_frames gs u) (one g t)

pub frames_at_tally : (t : Tally) (here : Bool) (fs : List FrameValue) (e : End) → (passed (frames_at here fs) e).fault ≡ None → Tallies t e.streams → Tallies (and_frames fs t) (passed (frames_at here fs) e).end.streams
frames_at_tally t here fs e none i = subst (λ (u : Tally). Tallies u (passed (frames_at here fs) e).end.streams) (and_frames_at here fs t) (frames_tally t (frames_at here fs) e none i)

-- and its greatest is the same
pub greatest_at : (tells : FrameValue → ℕ) → ((f : FrameValue) → tells (as_elsewhere f) ≡ tells f) → (here : Bool) (fs : List FrameValue) → greatest_in tells (frames_at here fs) ≡ greatest_in tells fs
greatest_at tells same true fs = refl
greatest_at tells same false [] = refl
greatest_at tells same false (f ∷ fs) = ap (λ (n : ℕ). max n (greatest_in tells (frames_at false fs))) (same f) ∙ ap (λ (n : ℕ). max (tells f) n) (greatest_at tells same false fs)

-- of the limit on a stream
pub limit_same : (id : ℕ) (f : FrameValue) → stream_limit_in id (as_elsewhere f) ≡ stream_limit_in id f
limit_same id (path_challenge token) = refl
limit_same id (path_response token) = refl
limit_same id f = refl

-- what frames tell in all
pub frames_limit : (id : ℕ) (fs : List FrameValue) (t : Tally) → (and_frames fs t).limit id ≡ max (greatest_in (stream_limit_in id) fs) (t.limit id)
frames_limit id [] t = omega arith
frames_limit id (f ∷ fs) t = let rest = frames_limit id fs (and_frame f t) in omega arith

pub frames_all : (fs : List FrameValue) (t : Tally) → (and_frames fs t).all ≡ max (greatest_in data_limit_in fs) t.all
frames_all [] t = omega arith
frames_all (f ∷ fs) t = let rest = frames_all fs (and_frame f t) in omega arith

pub frames_stopped : (id : ℕ) (fs : List FrameValue) (t : Tally) → (and_frames fs t).stopped id ≡ (list_any (stops_stream id) fs || t.stopped id)
frames_stopped id [] t = refl
frames_stopped id (f ∷ fs) t = frames_stopped id fs (and_frame f t) ∙ swap (list_any (stops_stream id) fs) (stops_stream id f) (t.stopped id)
  where
    swap : (a b c : Bool) → (a || (b || c)) ≡ ((b || a) || c)
    swap true true c = refl
    swap true false c = refl
    swap false true c = refl
    swap false false c = refl

pub frames_rest : (fs : List FrameValue) (t : Tally) → ((and_frames fs t).first ≡ t.first) × ((and_frames fs t).sizes ≡ t.sizes) × ((and_frames fs t).accepted ≡ t.accepted) × ((and_frames fs t).window ≡ t.window)
frames_rest [] t = (refl, refl, refl, refl)
frames_rest (f ∷ fs) t = frames_rest fs (and_frame f t)
