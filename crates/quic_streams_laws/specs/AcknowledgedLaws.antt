-- What was acknowledged arrived, after each call and frame; and a stream is told finished only
-- where all of it arrived.
use Rattle.std.proofs.Common.{◌≡◌, ℕ, ◌^◌, ◌<◌, ◌≤◌, length, Bool, true, false, List, Option, Some, None, refl, sym, ap, ◌∙◌, subst, arith, inl, inr}
use Rattle.std.specs.Prelude.{◌&&◌, not, if◌then◌else◌, ℤ}
use Rattle.std.specs.Option.{is_some, is_none, IsSome, option_map}
use Rattle.std.proofs.lemmas.Bool.{and_parts, or_cases, eqb-true}
use Rattle.quic_wire_core.specs.declared.stream_id.Side.{Side}
use Rattle.quic_parameters.specs.Parameters.{ParameterValues}
use Rattle.quic_wire.specs.Value.{StopSendingValue}
use Rattle.quic_sets.specs.Runs.{Has}
use Rattle.quic_sets.proofs.Offsets.Edits.{below_first}
use Rattle.quic_send_buffer.specs.Buffered.{written, first_unacknowledged}
use Rattle.quic_send_buffer.specs.declared.stream_meta.StreamMeta.{StreamMeta}
use Rattle.quic_send_buffer.proofs.Buffered.Calls.{acked_is}
use Rattle.quic_streams_parts.specs.declared.answers.StreamEvent.TheVariants as stream_events
use Rattle.quic_streams_parts.specs.Dirs.{is_own}
use Rattle.quic_streams_parts.specs.Events.{with_event}
use Rattle.quic_streams_parts.specs.Table.{at}
use Rattle.quic_streams_parts.specs.SendHalf.{SendHalf, grown, ended, half_after, half_acked, half_lost, is_acked}
use Rattle.quic_streams_halves.specs.Halves.{has_place, is_done}
use Rattle.quic_retransmits.specs.Retransmits.{Retransmits}
use Rattle.quic_streams_state.specs.declared.state.StreamsState.{StreamsState}
use Rattle.quic_streams_state.specs.State.{Streams, new_streams, after_set_params, is_opened, sends_on, sending_half, done_if, receiving_status, without_send}
use Rattle.quic_streams_state.specs.Taking.{stopped_half, limited_half, after_stop_sending, after_max_stream_data}
use Rattle.quic_streams_state.specs.Writing.{write_answer, after_write, write_chunks_answer, after_write_chunks, finish_answer, after_finish, reset_answer, after_reset, after_set_priority, replaced}
use Rattle.quic_streams_state.specs.Acked.{sent_half, finishes, finished, acked_at, after_stream_lost, after_stream_acked}
use Rattle.quic_streams_state.specs.Frames.{Sent, with_stream_frames}
use Rattle.quic_streams_laws.specs.Keeping.{KeepsBy, HasEnded}
use Rattle.quic_streams_laws.specs.KeepingLaws.{keeps_same, live_sends, by_set_priority, by_stop_sending, by_max_stream_data, by_stream_lost, by_stream_acked, by_stream_frames}
use Rattle.quic_streams_laws.specs.EachLaws.{status_half, half_status, half_follows}
use Rattle.quic_streams_laws.specs.Written.{Wrote, HasSmallLimits, IsOver, IsSendHalf, HoldsWritten, nothing_done, wrote_by, wrote_chunks_by, wrote_end_by, wrote_reset_by}
use Rattle.quic_streams_laws.specs.WrittenHalves.{bytes_written, not_reset, prioritized_holds, stopped_holds, limited_holds, polled_holds, acked_holds, lost_holds}
use Rattle.quic_streams_laws.specs.WroteLaws.{GoesAlong, HoldsWith, with_kept, with_half, with_new, with_set_params, with_write, with_write_chunks, with_finish, with_reset_call}
use Rattle.quic_streams_laws.specs.WrittenLaws.{holds_each}
use Rattle.quic_streams_laws.specs.Acknowledged.{HalfArrived, AllArrived, IsSettled, AckedHave, MetaArrived}

-- ---- one half

module _ (arrived : ℕ → Type 0) (end_arrived : Type 0) where
  -- a half of which as much is acknowledged as of another
  same_arrived : (old new : SendHalf) → new.buffer.acked ≡ old.buffer.acked → new.end_acked ≡ old.end_acked → HalfArrived arrived end_arrived old → HalfArrived arrived end_arrived new
  same_arrived old new bytes end x = record { bytes = λ o has. x.bytes o (subst (λ rs. Has rs o) bytes has); end = λ e. x.end (sym end ∙ e) }

  -- one of which a frame was acknowledged
  acked_arrived : (w : Wrote) (h : SendHalf) (m : StreamMeta) → IsSendHalf w h → ((o : ℕ) → m.offsets.start ≤ o → o < m.offsets.end → arrived o) → (m.fin ≡ true → end_arrived) → HalfArrived arrived end_arrived h → HalfArrived arrived end_arrived (half_acked h m)
  acked_arrived w h m i bytes end x = record {
    bytes = λ o has. elim ((acked_is h.buffer m.offsets.start m.offsets.end o i.lawful).0 has) [ inl was ↦ x.bytes o was | inr new ↦ (let below = new.1 in bytes o new.0 (omega arith)) ];
    end = λ e. elim (or_cases h.end_acked m.fin e) [ inl was ↦ x.end was | inr new ↦ end new ];
  }

  -- one of which all is acknowledged
  pub all_arrived : (w : Wrote) (h : SendHalf) → IsSendHalf w h → HalfArrived arrived end_arrived h → is_acked h ≡ true → AllArrived arrived end_arrived w × (w.reset ≡ None)
  all_arrived w h i x acked =
      let a = and_parts (is_none h.reset) _ acked in
      let b = and_parts h.finished _ a.1 in
      let c = and_parts h.end_acked _ b.1 in
      let none : w.reset ≡ None = not_reset w h i (is_none_of h.reset a.0) in
      let full : first_unacknowledged h.buffer ≡ written h.buffer = eqb-true (first_unacknowledged h.buffer) (written h.buffer) c.1 in
      let all : written h.buffer ≡ length w.bytes = bytes_written w h i none in
      (record { ended = sym i.finished ∙ b.0; bytes = λ o below. x.bytes o (below_first h.buffer.acked o i.lawful.acked (omega arith)); end = x.end c.0 }, none)
    where
      is_none_of : (o : Option ℕ) → is_none o ≡ true → o ≡ None
      is_none_of None e = refl
      is_none_of (Some code) e = cc

  -- where nothing is left to do
  settled_of : (w : Wrote) (h : SendHalf) → IsSendHalf w h → HalfArrived arrived end_arrived h → HasEnded h → IsSettled arrived end_arrived w
  settled_of w h i x (inr acked) = inl (all_arrived w h i x acked).0
  settled_of w h i x (inl reset) = inr (was_reset w.reset (ap is_some (sym i.reset) ∙ reset))
    where
      was_reset : (o : Option ℕ) → is_some (option_map (λ code. length w.bytes) o) ≡ true → IsSome o
      was_reset None e = e
      was_reset (Some code) e = refl

-- ---- all streams

module _ (arrived : ℕ → ℕ → Type 0) (end_arrived : ℕ → Type 0) where
  along : GoesAlong (λ id h. HalfArrived (arrived id) (end_arrived id) h) (λ id w. IsSettled (arrived id) (end_arrived id) w)
  along = record {
    fresh = λ id limit. record { bytes = λ o has. absurd has; end = λ e. absurd (not_so e) };
    blocked = λ id h b x. same_arrived (arrived id) (end_arrived id) h (record h { blocked = b }) refl refl x;
    noted = λ id h said x. same_arrived (arrived id) (end_arrived id) h (record h { said = said }) refl refl x;
    placed = λ id h p x. same_arrived (arrived id) (end_arrived id) h (record h { place = p }) refl refl x;
    grown = λ id h bytes x. same_arrived (arrived id) (end_arrived id) h (grown h bytes) refl refl x;
    ended = λ id h x. same_arrived (arrived id) (end_arrived id) h (ended h) refl refl x;
    reset = λ id h x. record { bytes = λ o has. absurd has; end = x.end };
    over = λ w id h i x over. settled_of (arrived id) (end_arrived id) w h i x over;
  }
    where
      not_so : false ≡ true → ⊥
      not_so e = cc

  abbrev Each : (ℕ → Wrote) → StreamsState → Type 0
  Each wrote s = HoldsWith (λ id h. HalfArrived (arrived id) (end_arrived id) h) (λ id w. IsSettled (arrived id) (end_arrived id) w) wrote s

  to_each : (wrote : ℕ → Wrote) (s : StreamsState) → AckedHave arrived end_arrived wrote s → Each wrote s
  to_each wrote s i = record {
    shape = i.shape;
    first = i.first;
    each = λ id. status_half (wrote id ≡ nothing_done) (λ h. IsSendHalf (wrote id) h × HalfArrived (arrived id) (end_arrived id) h) (IsSettled (arrived id) (end_arrived id) (wrote id)) (at s.sending.halves.live id) (sends_on s.side id && is_opened s id) (has_place s.side s.sending.halves.places id) (i.shape.sending.allowed id) (i.each id);
  }

  from_each : (wrote : ℕ → Wrote) (s : StreamsState) → Each wrote s → AckedHave arrived end_arrived wrote s
  from_each wrote s i = record {
    shape = i.shape;
    first = i.first;
    each = λ id. half_status (wrote id ≡ nothing_done) (λ h. IsSendHalf (wrote id) h × HalfArrived (arrived id) (end_arrived id) h) (IsSettled (arrived id) (end_arrived id) (wrote id)) (at s.sending.halves.live id) (sends_on s.side id && is_opened s id) (has_place s.side s.sending.halves.places id) (i.shape.sending.allowed id) (i.each id);
  }

  -- each word keeps it that changes halves only so that they hold what they held, and what was
  -- acknowledged of them arrived
  pub acked_kept : (wrote : ℕ → Wrote) → KeepsBy (λ r id old new. Unit {0})
      (λ s id old new. IsSendHalf (wrote id) old × HalfArrived (arrived id) (end_arrived id) old → IsSendHalf (wrote id) new × HalfArrived (arrived id) (end_arrived id) new)
      (λ s id n old new. IsSendHalf (wrote id) old × HalfArrived (arrived id) (end_arrived id) old → IsSendHalf (wrote id) new × HalfArrived (arrived id) (end_arrived id) new) (AckedHave arrived end_arrived wrote)
  acked_kept wrote = keeps_same (from_each wrote) (to_each wrote) (with_kept (λ id h. HalfArrived (arrived id) (end_arrived id) h) (λ id w. IsSettled (arrived id) (end_arrived id) w) along wrote)

  -- what was acknowledged of a half arrived
  pub half_arrived : (wrote : ℕ → Wrote) (s : StreamsState) (id : ℕ) (h : SendHalf) → sending_half s id ≡ Some h → AckedHave arrived end_arrived wrote s → IsSendHalf (wrote id) h × HalfArrived (arrived id) (end_arrived id) h
  half_arrived wrote s id h e i = with_half (λ id h. HalfArrived (arrived id) (end_arrived id) h) (λ id w. IsSettled (arrived id) (end_arrived id) w) along wrote s id h e (to_each wrote s i)

  -- it says that the streams hold what was written
  pub acked_holds_written : (wrote : ℕ → Wrote) (s : StreamsState) → AckedHave arrived end_arrived wrote s → HoldsWritten wrote s
  acked_holds_written wrote s i = holds_each wrote s (record {
    shape = i.shape;
    first = i.first;
    each = λ id. half_follows {N = wrote id ≡ nothing_done} {N' = wrote id ≡ nothing_done} {Q = λ h. IsSendHalf (wrote id) h × HalfArrived (arrived id) (end_arrived id) h} {Q' = λ h. IsSendHalf (wrote id) h × Unit {0}} {D = IsSettled (arrived id) (end_arrived id) (wrote id)} {D' = IsOver (wrote id)}
        (λ x. x) (λ h x. (x.0, tt)) (λ x. over (wrote id) x) (at s.sending.halves.live id) (has_place s.side s.sending.halves.places id) ((to_each wrote s i).each id);
  })
    where
      over : {arrived : ℕ → Type 0} {end_arrived : Type 0} (w : Wrote) → IsSettled arrived end_arrived w → IsOver w
      over w (inl all) = inl all.ended
      over w (inr reset) = inr reset

  -- nothing was acknowledged at the start
  pub acked_new : (side : Side) (uni bi send_window window stream_window : ℕ) → AckedHave arrived end_arrived (λ id. nothing_done) (new_streams side uni bi send_window window stream_window)
  acked_new side uni bi send_window window stream_window = from_each _ _ (with_new (λ id h. HalfArrived (arrived id) (end_arrived id) h) (λ id w. IsSettled (arrived id) (end_arrived id) w) side uni bi send_window window stream_window)

  pub acked_set_params : (wrote : ℕ → Wrote) (s : StreamsState) (p : ParameterValues) → HasSmallLimits p → AckedHave arrived end_arrived wrote s → AckedHave arrived end_arrived wrote (after_set_params s p)
  acked_set_params wrote s p small i = from_each _ _ (with_set_params (λ id h. HalfArrived (arrived id) (end_arrived id) h) (λ id w. IsSettled (arrived id) (end_arrived id) w) wrote s p small (to_each wrote s i))

  -- ---- STREAM frames that go

  pub acked_stream_frames : (wrote : ℕ → Wrote) (fair : Bool) (most : ℕ) (d : Sent) → AckedHave arrived end_arrived wrote d.state → AckedHave arrived end_arrived wrote (with_stream_frames fair most d).state
  acked_stream_frames wrote fair most d i = by_stream_frames (AckedHave arrived end_arrived wrote) (acked_kept wrote) fair most d (λ s id room h e j x. (polled_holds (wrote id) h x.0 room, same_arrived (arrived id) (end_arrived id) h (half_after h room) refl refl x.1)) i

  module _ (wrote : ℕ → Wrote) (s : StreamsState) (i : AckedHave arrived end_arrived wrote s) where
    -- ---- what is done

    pub acked_write : (is_open : Bool) (p : Retransmits) (id : ℕ) (bytes : List ℕ) → AckedHave arrived end_arrived (wrote_by (write_answer is_open s id (length bytes)) id bytes wrote) (after_write is_open (write_answer is_open s id (length bytes)) s p id bytes).state
    acked_write is_open p id bytes = from_each _ _ (with_write (λ id h. HalfArrived (arrived id) (end_arrived id) h) (λ id w. IsSettled (arrived id) (end_arrived id) w) along wrote s (to_each wrote s i) is_open p id bytes)

    pub acked_write_chunks : (is_open : Bool) (p : Retransmits) (id : ℕ) (cs : List (List ℕ)) → AckedHave arrived end_arrived (wrote_chunks_by (write_chunks_answer is_open s id cs) id cs wrote) (after_write_chunks is_open (write_chunks_answer is_open s id cs) s p id cs).state
    acked_write_chunks is_open p id cs = from_each _ _ (with_write_chunks (λ id h. HalfArrived (arrived id) (end_arrived id) h) (λ id w. IsSettled (arrived id) (end_arrived id) w) along wrote s (to_each wrote s i) is_open p id cs)

    pub acked_finish : (id : ℕ) → AckedHave arrived end_arrived (wrote_end_by (finish_answer s id) id wrote) (after_finish s id)
    acked_finish id = from_each _ _ (with_finish (λ id h. HalfArrived (arrived id) (end_arrived id) h) (λ id w. IsSettled (arrived id) (end_arrived id) w) along wrote s (to_each wrote s i) id)

    pub acked_reset : (p : Retransmits) (id code : ℕ) → AckedHave arrived end_arrived (wrote_reset_by (reset_answer s id) id code wrote) (after_reset s p id code).state
    acked_reset p id code = from_each _ _ (with_reset_call (λ id h. HalfArrived (arrived id) (end_arrived id) h) (λ id w. IsSettled (arrived id) (end_arrived id) w) along wrote s (to_each wrote s i) p id code)

    -- ---- what changes halves else

    pub acked_set_priority : (id : ℕ) (priority : ℤ) → AckedHave arrived end_arrived wrote (after_set_priority s id priority)
    acked_set_priority id priority = by_set_priority (AckedHave arrived end_arrived wrote) (acked_kept wrote) s id priority (λ h e x. (prioritized_holds (wrote id) h x.0 priority, same_arrived (arrived id) (end_arrived id) h (record h { priority = priority }) refl refl x.1)) i

    pub acked_stop_sending : (f : StopSendingValue) → AckedHave arrived end_arrived wrote (after_stop_sending s f)
    acked_stop_sending f = by_stop_sending (AckedHave arrived end_arrived wrote) (acked_kept wrote) s f (λ h e x. (stopped_holds (wrote f.id) h x.0 f.code, same_arrived (arrived f.id) (end_arrived f.id) h (stopped_half h f.code) refl refl x.1)) i

    pub acked_max_stream_data : (id limit : ℕ) → limit < 2 ^ 62 → AckedHave arrived end_arrived wrote (after_max_stream_data s id limit)
    acked_max_stream_data id limit small = by_max_stream_data (AckedHave arrived end_arrived wrote) (acked_kept wrote) s id limit (λ h e above x. (limited_holds (wrote id) h x.0 limit above small, same_arrived (arrived id) (end_arrived id) h (limited_half h limit) refl refl x.1)) i

    pub acked_stream_lost : (m : StreamMeta) → (m.fin ≡ true → (wrote m.id).ended ≡ true) → AckedHave arrived end_arrived wrote (after_stream_lost s m)
    acked_stream_lost m last = by_stream_lost (AckedHave arrived end_arrived wrote) (acked_kept wrote) s m (λ h e none x. (lost_holds (wrote m.id) h x.0 m none last, same_arrived (arrived m.id) (end_arrived m.id) h (half_lost h m) refl refl x.1)) i

    -- ---- a frame that arrived is acknowledged

    pub half_acked_arrived : (m : StreamMeta) → MetaArrived arrived end_arrived wrote m → (h : SendHalf) → IsSendHalf (wrote m.id) h × HalfArrived (arrived m.id) (end_arrived m.id) h → IsSendHalf (wrote m.id) (half_acked h m) × HalfArrived (arrived m.id) (end_arrived m.id) (half_acked h m)
    half_acked_arrived m came h x = (acked_holds (wrote m.id) h x.0 m came.ended, acked_arrived (arrived m.id) (end_arrived m.id) (wrote m.id) h m x.0 came.bytes came.end x.1)

    pub acked_stream_acked : (p : Retransmits) (m : StreamMeta) → MetaArrived arrived end_arrived wrote m → AckedHave arrived end_arrived wrote (after_stream_acked s p m).state
    acked_stream_acked p m came = by_stream_acked (AckedHave arrived end_arrived wrote) (acked_kept wrote) s p m (λ h e none x. half_acked_arrived m came h x) (λ h e none all. tt) i

    -- a stream is told finished by it only where all of it arrived, and it wasn't reset
    pub finishes_arrived : (m : StreamMeta) → MetaArrived arrived end_arrived wrote m → finishes (sent_half s m.id) m ≡ true → AllArrived (arrived m.id) (end_arrived m.id) (wrote m.id) × ((wrote m.id).reset ≡ None)
    finishes_arrived m came e = go (at s.sending.halves.live m.id) refl e
      where
        nothing : false ≡ true → ⊥
        nothing e = cc

        go : (o : Option SendHalf) → at s.sending.halves.live m.id ≡ o → finishes o m ≡ true → AllArrived (arrived m.id) (end_arrived m.id) (wrote m.id) × ((wrote m.id).reset ≡ None)
        go None is f = absurd (nothing f)
        go (Some h) is f =
            let x = half_acked_arrived m came h (half_arrived wrote s m.id h (live_sends s m.id h is) i) in
            all_arrived (arrived m.id) (end_arrived m.id) (wrote m.id) (half_acked h m) x.0 x.1 (and_parts (not (is_some h.reset)) (is_acked (half_acked h m)) f).1

-- ---- what the application is told

done_events : (b : Bool) (id : ℕ) (s : StreamsState) → (done_if b id s).events ≡ s.events
done_events true id s = refl
done_events false id s = refl

-- it is told that a stream is finished where that frame was the last to be acknowledged, and
-- nothing else
pub acked_events : (s : StreamsState) (p : Retransmits) (m : StreamMeta) → (after_stream_acked s p m).state.events ≡ (if finishes (sent_half s m.id) m then with_event (stream_events.Finished m.id) s.events else s.events)
acked_events s p m = go (at s.sending.halves.live m.id)
  where
    on : (h : SendHalf) (a b : Bool) → (if a then s else (if b then finished (replaced s m.id (half_acked h m)) m.id else replaced s m.id (half_acked h m))).events ≡ (if not a && b then with_event (stream_events.Finished m.id) s.events else s.events)
    on h true b = refl
    on h false true = ap (with_event (stream_events.Finished m.id)) (done_events (not (is_own s.side m.id) && is_done (receiving_status (replaced s m.id (half_acked h m)) m.id)) m.id (without_send (replaced s m.id (half_acked h m)) m.id))
    on h false false = refl

    both : (a b : Bool) (x y z : Streams) → (if a then x else (if b then y else z)).state ≡ (if a then x.state else (if b then y.state else z.state))
    both true b x y z = refl
    both false true x y z = refl
    both false false x y z = refl

    go : (o : Option SendHalf) → (acked_at o s p m).state.events ≡ (if finishes o m then with_event (stream_events.Finished m.id) s.events else s.events)
    go None = refl
    go (Some h) = ap (λ t. t.events) (both (is_some h.reset) (is_acked (half_acked h m)) _ _ _) ∙ on h (is_some h.reset) (is_acked (half_acked h m))
