-- Streams that hold what was written on them: each frame of theirs has a form, and something goes
-- where it waits.
use Rattle.std.proofs.Common.{◌≡◌, ℕ, ◌+◌, ◌-◌, ◌<◌, ◌≤◌, ◌^◌, min, Bool, true, false, cond, ltb, ◌==◌, ◌||◌, List, [], ◌∷◌, length, Option, Some, None, refl, sym, ap, ◌∙◌, subst, inl, inr, arith}
use Rattle.quic_wire.specs.Writing.{Fits}
use Rattle.std.specs.Prelude.{nat_lt}
use Rattle.std.specs.Option.{is_some, is_none, option_map}
use Rattle.std.specs.Cmp.{nat_cmp_total, then_total, on_total}
use Rattle.std.proofs.lemmas.Bool.{ltb-true, ltb-false, lt-ltb, eq-eqb}
use Rattle.std.proofs.lemmas.Cmp.{tied_itself}
use Rattle.quic_wire_core.specs.Law.{varint_size_le}
use Rattle.quic_wire_core.specs.declared.shared.IssuedCid.{IssuedCid}
use Rattle.quic_wire.specs.Value.{FrameValue, StopSendingValue, new_connection_id}
use Rattle.quic_sets.specs.Runs.{Run, AreRuns}
use Rattle.quic_sets.specs.Offsets.{has_any, first_or}
use Rattle.quic_send_buffer.specs.Buffered.{Buffered, written, next_start, next_count, sent_end, has_unsent, writes_length, room_behind, offset_width, width}
use Rattle.quic_send_buffer.proofs.Buffered.Calls.{next_kept, next_bounded, sent_from, sent_within}
use Rattle.quic_streams_parts.specs.Table.{Table, at}
use Rattle.quic_streams_parts.specs.Queue.{Place, is_any}
use Rattle.quic_streams_parts.specs.SendHalf.{SendHalf, HasFrame, has_pending, frame_counts, reaches_end, half_after, turned}
use Rattle.quic_retransmits.specs.Retransmits.{Retransmits, first_of, others_of}
use Rattle.quic_streams_state.specs.declared.state.StreamsState.{StreamsState}
use Rattle.quic_retransmits.specs.declared.retransmits.ControlKind.{ControlKind}
use Rattle.quic_retransmits.specs.declared.retransmits.ControlKind.TheVariants.{ResetStream, StopSending, NewConnectionId, RetireConnectionId}
use Rattle.quic_streams_state.specs.State.{Streams}
use Rattle.quic_streams_state.specs.Waiting.{can_send_stream_data}
use Rattle.quic_streams_state.specs.Frames.{after_frame_sent}
use Rattle.quic_streams_state.specs.Control.{reset_frame, without_first, told_id, frame_told}
use Rattle.quic_streams_laws.specs.Few.{AreFew}
use Rattle.quic_streams_laws.specs.FewLaws.{few_kept}
use Rattle.quic_streams_laws.specs.GoesLaws.{Holding, sending_small, goes_fits}
use Rattle.quic_streams_laws.specs.KeepingLaws.{by_frame, polled_on}
use Rattle.quic_streams_laws.specs.QuietLaws.{by_tells, by_told}
use Rattle.quic_streams_laws.specs.Queued.{IsOrderly, place_of, standing_at}
use Rattle.quic_streams_laws.specs.QueuedLaws.{queue_kept, half-apart}
use Rattle.quic_streams_laws.specs.Written.{Wrote, IsSendHalf, HoldsWritten}
use Rattle.quic_streams_laws.specs.WrittenFrames.{frame_kept}
use Rattle.quic_streams_laws.specs.WrittenHalves.{polled_holds}
use Rattle.quic_streams_laws.specs.WrittenLaws.{holds_kept, live_holds}
use Rattle.quic_headline.specs.Runs.{In}
use Rattle.quic_headline.proofs.Packets.Composed.{Spelling}
use Rattle.quic_headline.proofs.Packets.Going.{BringsFirst, Bringing}
use Rattle.quic_headline.proofs.Packets.Told.{told_half}

-- ---- what is known of streams

-- RESET_STREAM waits of a half in use that was reset, with a code that has a form
pub record WasReset (live : Table SendHalf) (r : ℕ × ℕ) : Type 0 where
  pub half : SendHalf
  pub found : at live r.0 ≡ Some half
  pub size : ℕ
  pub reset : half.reset ≡ Some size
  pub code : r.1 < 2 ^ 62

-- what waits beside the bytes of streams may go: RESET_STREAM, STOP_SENDING, NEW_CONNECTION_ID and
-- RETIRE_CONNECTION_ID have a form
pub record AreReady (live : Table SendHalf) (p : Retransmits) : Type 0 where
  pub resets : (r : ℕ × ℕ) → In r p.reset_stream → WasReset live r
  pub stops : (r : StopSendingValue) → In r p.stop_sending → (r.id < 2 ^ 62) × (r.code < 2 ^ 62)
  pub ids : (cid : IssuedCid) → In cid p.new_cids → Fits (new_connection_id (told_id cid))
  pub retired : (n : ℕ) → In n p.retire_cids → n < 2 ^ 62

-- a half that was reset is so once a frame went
abbrev HasSize : ℕ → Option SendHalf → Type 0
HasSize size None = ⊥
HasSize size (Some h) = h.reset ≡ Some size

pub told_reset : (f : FrameValue) (s : StreamsState) (r : ℕ × ℕ) → WasReset s.sending.halves.live r → WasReset (frame_told f s).sending.halves.live r
told_reset f s r was = go (at (frame_told f s).sending.halves.live r.0) refl (told_half (HasSize was.size) (λ h limit is. is) f s r.0 (subst (HasSize was.size) (sym was.found) was.reset))
  where
    go : (o : Option SendHalf) → at (frame_told f s).sending.halves.live r.0 ≡ o → HasSize was.size o → WasReset (frame_told f s).sending.halves.live r
    go None is none = absurd none
    go (Some h) is same = record { half = h; found = is; size = was.size; reset = same; code = was.code }

-- so what may go may go still
told_ready : (f : FrameValue) (s : StreamsState) (p : Retransmits) → AreReady s.sending.halves.live p → AreReady (frame_told f s).sending.halves.live p
told_ready f s p a = record { resets = λ r i. told_reset f s r (a.resets r i); stops = a.stops; ids = a.ids; retired = a.retired }

-- what streams have to send may go: they hold what was written on them, and what waits beside their
-- bytes may go
pub record MayGo (t : Streams) : Type 0 where
  pub wrote : ℕ → Wrote
  pub streams : Holding wrote t.state
  pub waits : AreReady t.state.sending.halves.live t.pending

-- ---- what waits

-- what stands behind the first stands in a list
in_others : {X : Type 0} (x : X) (xs : List X) → In x (others_of xs) → In x xs
in_others x [] i = i
in_others x (y ∷ xs) i = inr i

-- so does the first
first_in : {X : Type 0} (x : X) (xs : List X) → first_of xs ≡ Some x → In x xs
first_in x [] is = cc
first_in x (y ∷ xs) is = let same : x ≡ y = cc in inl same

-- it may go still once the first of a kind is gone
ready_without : (kind : ControlKind) (live : Table SendHalf) (p : Retransmits) → AreReady live p → AreReady live (without_first kind p)
ready_without ResetStream live p a = record { resets = λ r i. a.resets r (in_others r p.reset_stream i); stops = a.stops; ids = a.ids; retired = a.retired }
ready_without StopSending live p a = record { resets = a.resets; stops = λ r i. a.stops r (in_others r p.stop_sending i); ids = a.ids; retired = a.retired }
ready_without NewConnectionId live p a = record { resets = a.resets; stops = a.stops; ids = λ cid i. a.ids cid (in_others cid p.new_cids i); retired = a.retired }
ready_without RetireConnectionId live p a = record { resets = a.resets; stops = a.stops; ids = a.ids; retired = λ n i. a.retired n (in_others n p.retire_cids i) }
ready_without kind live p a = record { resets = a.resets; stops = a.stops; ids = a.ids; retired = a.retired }

-- ---- one half

-- the next run that is sent has a byte, where something is to be sent
first_some : (rs : List Run) (other : Run) → AreRuns rs → (has_any rs || ltb other.start other.end) ≡ true → 1 ≤ (first_or rs other).end - (first_or rs other).start
first_some [] other runs some = let lt = ltb-true other.start other.end some in omega arith
first_some (r ∷ rs) other runs some = let lt = runs.1 in omega arith

-- an offset takes 8 bytes at most
offset_few : (offset : ℕ) → offset_width offset ≤ 8
offset_few offset = go (offset == 0)
  where
    go : (b : Bool) → cond b 0 (width offset) ≤ 8
    go true = omega arith
    go false = varint_size_le offset

-- so a byte goes, where 17 bytes are left
sent_some : (b : Buffered) (room : ℕ) → 1 ≤ next_count b → 17 ≤ room → next_start b < sent_end b room
sent_some b room some enough = go (writes_length b room)
  where
    go : (t : Bool) → next_start b < next_start b + min (next_count b) (cond t (room_behind room (next_start b) - 8) (room_behind room (next_start b)))
    go true = let few = offset_few (next_start b) in omega arith
    go false = let few = offset_few (next_start b) in omega arith

module _ (w : Wrote) (h : SendHalf) (i : IsSendHalf w h) where
  -- the next frame has bytes that are kept
  half_frame : (room : ℕ) → HasFrame h room
  half_frame room =
      let within = sent_within h.buffer room i.lawful in
      let bounded = next_bounded h.buffer i.lawful in
      record { kept = next_kept h.buffer i.lawful; ordered = sent_from h.buffer room; bounded = omega arith; small = i.lawful.small }

  -- where its end waits, it wasn't reset
  end_kept : h.end_waits ≡ true → is_none h.reset ≡ true
  end_kept waits = go w.reset refl
    where
      go : (o : Option ℕ) → w.reset ≡ o → is_none h.reset ≡ true
      go None is = ap is_none (i.reset ∙ ap (option_map (λ code. length w.bytes)) is)
      go (Some code) is = let off = (i.gone (ap is_some is)).end in cc

  -- where nothing but its end is to be sent, the next frame reaches the end
  end_reached : (room : ℕ) → has_unsent h.buffer ≡ false → sent_end h.buffer room ≡ written h.buffer
  end_reached room none = go h.buffer.lost none
    where
      go : (rs : List Run) → (has_any rs || ltb h.buffer.unsent (written h.buffer)) ≡ false
          → (let r = first_or rs (record { start = h.buffer.unsent; end = written h.buffer }) in r.start + min (r.end - r.start) (cond (ltb (r.end - r.start) (room_behind room r.start)) (room_behind room r.start - 8) (room_behind room r.start)) ≡ written h.buffer)
      go [] all = let le = ltb-false h.buffer.unsent (written h.buffer) all in let bounded = i.lawful.bounded in omega arith
      go (r ∷ rs) all = cc

  -- what has something to send brings something
  half_counts : has_pending h ≡ true → (room : ℕ) → 17 ≤ room → frame_counts h room ≡ true
  half_counts pending room enough = go (has_unsent h.buffer) refl pending
    where
      reached : reaches_end h (sent_end h.buffer room) ≡ true → frame_counts h room ≡ true
      reached is = rw is (or_last (nat_lt (next_start h.buffer) (sent_end h.buffer room)))
        where
          or_last : (b : Bool) → (b || true) ≡ true
          or_last true = refl
          or_last false = refl

      go : (b : Bool) → has_unsent h.buffer ≡ b → (b || h.end_waits) ≡ true → frame_counts h room ≡ true
      go true some on =
          let count = first_some h.buffer.lost (record { start = h.buffer.unsent; end = written h.buffer }) i.lawful.lost some in
          let goes : nat_lt (next_start h.buffer) (sent_end h.buffer room) ≡ true = lt-ltb (next_start h.buffer) (sent_end h.buffer room) (sent_some h.buffer room count enough) in
          rw goes refl
      go false none on =
          let free = end_kept on in
          let finished : h.finished ≡ true = i.finished ∙ i.waits on in
          let all = eq-eqb (sent_end h.buffer room) (written h.buffer) (end_reached room none) in
          reached (rw (free, finished, all) refl)

-- there is no size, or one
none_some : (o : Option ℕ) (size : ℕ) → o ≡ None → o ≡ Some size → ⊥
none_some o size none some = cc

-- ---- the queue

-- a half has a place only where it is one
half_placed : (o : Option SendHalf) (place : Place) → place_of o ≡ Some place → (h : SendHalf) × (o ≡ Some h) × (is_some h.place ≡ true)
half_placed None place is = cc
half_placed (Some h) place is = (h, refl, ap is_some is)

-- ---- all streams

module _ (wrote : ℕ → Wrote) (s : StreamsState) (g : Holding wrote s) where
  -- a frame of control goes
  told_holds : (f : FrameValue) → Holding wrote (frame_told f s)
  told_holds f = record {
    holds = by_told (HoldsWritten wrote) (holds_kept wrote) f s g.holds;
    orderly = by_told IsOrderly queue_kept f s g.orderly;
    few = by_told AreFew few_kept f s g.few;
    limit = by_tells (λ t. t.sending.limit < 2 ^ 62) s g.limit g.limit (λ id. g.limit) (λ dir. g.limit) (λ limit. g.limit) (λ id limit. g.limit) f;
  }

  -- the frame of a half goes
  frame_went : (fair : Bool) (id room : ℕ) (h : SendHalf) → at s.sending.halves.live id ≡ Some h → Holding wrote (after_frame_sent fair s id h room)
  frame_went fair id room h is = record {
    holds = by_frame (HoldsWritten wrote) (holds_kept wrote) fair s id room h is (λ x. polled_holds (wrote id) h x room) g.holds;
    orderly = by_frame IsOrderly queue_kept fair s id room h is (polled_on h room) g.orderly;
    few = by_frame AreFew few_kept fair s id room h is (polled_on h room) g.few;
    limit = g.limit;
  }

  -- a half that brings something wasn't reset, so what waits may go still once its frame went
  ready_behind : (p : Retransmits) → AreReady s.sending.halves.live p → (fair : Bool) (id room : ℕ) (h : SendHalf) → at s.sending.halves.live id ≡ Some h → frame_counts h room ≡ true → AreReady (after_frame_sent fair s id h room).sending.halves.live p
  ready_behind p a fair id room h is counts = record { resets = resets; stops = a.stops; ids = a.ids; retired = a.retired }
    where
      i : IsSendHalf (wrote id) h
      i = live_holds wrote s g.holds id h is

      free : h.reset ≡ None
      free = i.reset ∙ ap (option_map (λ code. length (wrote id).bytes)) (frame_kept (wrote id) id h room i counts)

      apart : (r : ℕ × ℕ) → WasReset s.sending.halves.live r → r.0 ≡ id → ⊥
      apart r was same =
          let both : Some was.half ≡ Some h = sym was.found ∙ (ap (λ (x : ℕ). at s.sending.halves.live x) same ∙ is) in
          let one : was.half ≡ h = cc in
          none_some h.reset was.size free (ap (λ (x : SendHalf). x.reset) (sym one) ∙ was.reset)

      resets : (r : ℕ × ℕ) → In r p.reset_stream → WasReset (after_frame_sent fair s id h room).sending.halves.live r
      resets r j =
          let was = a.resets r j in
          let other = half-apart s.side s.sending.halves id (turned fair s.sending.queue id (half_after h room)).half r.0 (apart r was) in
          record { half = was.half; found = other ∙ was.found; size = was.size; reset = was.reset; code = was.code }

  -- the stream that stands first in the queue has something to send
  first_pending : can_send_stream_data s ≡ true → BringsFirst s
  first_pending waits = go s.sending.queue.entries refl waits
    where
      go : (es : List (Place × ℕ)) → s.sending.queue.entries ≡ es → is_any es ≡ true → BringsFirst s
      go [] is some = cc
      go (e ∷ es) is some =
          let place_total = then_total (on_total (λ (p : Place). p.0) nat_cmp_total) (on_total (λ (p : Place). p.1) nat_cmp_total) in
          let tied = tied_itself place_total e.0 in
          let there : standing_at s.sending.queue e.0 ≡ Some e.1 = rw (is, tied) refl in
          let half = half_placed (at s.sending.halves.live e.1) e.0 (g.orderly.queue.stand.stands e.1 e.0 there) in
          let pending : has_pending half.0 ≡ true = sym (g.orderly.queue.pending e.1 half.0 half.1) ∙ half.2 in
          record {
            id = e.1;
            half = half.0;
            first = rw is refl;
            found = half.1;
            counts = half_counts (wrote e.1) half.0 (live_holds wrote s g.holds e.1 half.0 half.1) pending;
          }

-- ---- what goes

-- each frame that goes of such streams has a form, and leaves such streams
pub may_go_spells : Spelling MayGo
may_go_spells = record {
  drops = λ t kind m. record { wrote = m.wrote; streams = m.streams; waits = ready_without kind t.state.sending.halves.live t.pending m.waits };
  control = λ t kind f is m. (
    goes_fits m.wrote t.state m.streams t.pending (λ r first. (m.waits.resets r (first_in r t.pending.reset_stream first)).code) (λ r first. m.waits.stops r (first_in r t.pending.stop_sending first))
        (λ cid first. m.waits.ids cid (first_in cid t.pending.new_cids first)) (λ n first. m.waits.retired n (first_in n t.pending.retire_cids first)) f is.says,
    record {
      wrote = m.wrote;
      streams = told_holds m.wrote t.state m.streams f;
      waits = told_ready f t.state (without_first kind t.pending) (ready_without kind t.state.sending.halves.live t.pending m.waits);
    },
  );
  asked = λ t waits m. record { wrote = m.wrote; streams = m.streams; waits = (let w = m.waits in record { resets = w.resets; stops = w.stops; ids = w.ids; retired = w.retired }) };
  stream = λ fair t id h room found counts m. (
    sending_small m.wrote t.state m.streams id h found,
    half_frame (m.wrote id) h (live_holds m.wrote t.state m.streams.holds id h found) room,
    record {
      wrote = m.wrote;
      streams = frame_went m.wrote t.state m.streams fair id room h found;
      waits = ready_behind m.wrote t.state m.streams t.pending m.waits fair id room h found counts;
    },
  );
}

-- and something goes of them where it waits
pub may_go_brings : Bringing MayGo
may_go_brings = record {
  resets = λ t m r i. (let was = m.waits.resets r i in ap is_some (ap (reset_frame r) was.found) ∙ reset_there r was.half was.size was.reset);
  queued = λ t m waits. first_pending m.wrote t.state m.streams waits;
}
  where
    reset_there : (r : ℕ × ℕ) (h : SendHalf) (size : ℕ) → h.reset ≡ Some size → is_some (reset_frame r (Some h)) ≡ true
    reset_there r h size is = rw is refl
