-- What a poll makes of limits that were said: one that waits goes, no less than it was said before;
-- and each that goes is under way.
use Rattle.std.proofs.Common.{◌≡◌, ℕ, zero, suc, ◌≤◌, Bool, true, false, List, [], ◌∷◌, ◌++◌, length, replicate, Option, Some, None, refl, sym, ap, ◌∙◌, subst, ◌⊎◌, inl, inr, arith}
use Rattle.std.specs.Prelude.{map, if◌then◌else◌, ◌&&◌}
use Rattle.std.specs.Ordering.{nat_cmp}
use Rattle.std.specs.BTreeMap.{is_at}
use Rattle.std.proofs.lemmas.Bool.{or_parts, or_cases, cases_eq}
use Rattle.quic_wire_core.specs.declared.stream_id.Dir.{Dir}
use Rattle.quic_wire_core.specs.declared.stream_id.Dir.TheVariants.{Bi, Uni}
use Rattle.quic_wire.specs.Value.{FrameValue, padding, ack, stream, max_data, max_stream_data, max_streams, asks, datagram}
use Rattle.quic_wire.specs.FrameView.{is_one_way}
use Rattle.quic_streams_parts.specs.Table.{Table, at, put}
use Rattle.quic_streams_parts.specs.Dirs.{Flags, of, with_of}
use Rattle.quic_streams_parts.specs.SendHalf.{SendHalf, frame_of}
use Rattle.quic_streams_parts.specs.RecvHalf.{RecvHalf, takes_limits, raised_on}
use Rattle.quic_streams_halves.specs.Halves.{status_from, has_place}
use Rattle.quic_retransmits.specs.Retransmits.{Retransmits, nothing_waits, has_id, others_of}
use Rattle.quic_streams_state.specs.declared.state.StreamsState.{StreamsState}
use Rattle.quic_retransmits.specs.declared.retransmits.ControlKind.{ControlKind}
use Rattle.quic_retransmits.specs.declared.retransmits.ControlKind.TheVariants.{MaxData, MaxStreamData, MaxStreams}
use Rattle.quic_streams_state.specs.State.{Opening, is_opened, receives_on, Streams}
use Rattle.quic_streams_state.specs.Limits.{raised_data, raised_count}
use Rattle.quic_streams_state.specs.Control.{Entry, limit_entry, data_entry, count_entry, waiting, without_first}
use Rattle.quic_streams_state.specs.Control as control
use Rattle.quic_streams_laws.specs.KindLaws.{first_others, flag_first, without_of}
use Rattle.quic_streams_laws.specs.ControlWalk.{by_control}
use Rattle.quic_streams_laws.specs.Content.{AllReceiving}
use Rattle.quic_streams_laws.specs.KeepingLaws.{by_frame}
use Rattle.quic_streams_laws.specs.QuietLaws.{by_told, is_quiet}
use Rattle.quic_streams_laws.specs.Quiet.{IsSentWithin}
use Rattle.quic_streams_laws.specs.Shape.{IsShaped}
use Rattle.quic_streams_laws.specs.ShapeLaws.{shape_any}
use Rattle.quic_streams_laws.specs.Each.{HalfIs}
use Rattle.quic_streams_laws.specs.Limited.{IsWithin}
use Rattle.quic_streams_laws.specs.ToldLaws.{first_is}
use Rattle.quic_recovery_core.specs.PendingAcks.{can_send}
use Rattle.quic_machine.specs.declared.run.Call.{Call}
use Rattle.quic_machine.specs.declared.run.Answer.{Answer}
use Rattle.quic_machine.specs.declared.run.Answer.TheVariants as answers
use Rattle.quic_machine.specs.Policy.{Policy}
use Rattle.quic_machine.specs.Closing.{ticked}
use Rattle.quic_machine.specs.Tracking.{Tracking, TrackedPacket, is_behind, after_sent, without_record}
use Rattle.quic_machine.specs.End.{End, with_closing, streams_at, number_of, closed_by}
use Rattle.quic_machine.specs.Calls.{is_open}
use Rattle.quic_machine.specs.Poll.{zeros_behind, Polled, Draft, no_frames, ack_of, with_signal_frames, with_control_frames, with_asking, with_ack, ack_fits, ack_if, composed_if, composed, asking, frame_room, lazied, packet_of, tracked, record_moved, polled, with_message_frames, goes, draft_as, whole, Leaving, nothing, with_frequency_frame}
use Rattle.quic_machine.specs.Poll as poll
use Rattle.quic_machine.specs.DraftLaws.{Writing, by_streams, by_messages, by_leave, MayLeave, by_signals}
use Rattle.quic_machine.specs.Puts.{with_half_frame}
use Rattle.quic_machine.specs.Puts as puts
use Rattle.quic_machine.specs.PollCases.{ready_at, ready_leaves, draft_at, frames_padded, composes, may_leave_at}
use Rattle.quic_machine.specs.CallCases.{is_delivery, is_poll, by_call, by_done}
use Rattle.quic_machine.specs.LeaveCases.{by_expired, by_event}
use Rattle.quic_machine.specs.Machine.{IsAnswer, after_call, gave}
use Rattle.quic_headline.specs.Runs.{Packet, In}
use Rattle.quic_headline.specs.Observer.{Sent}
use Rattle.quic_headline.specs.Duties.{Limited, AllData, StreamData, StreamCount, limit_frame, limit_waits, AnyIn, LimitHasArrived}
use Rattle.quic_headline.proofs.Packets.Apart.{by_waits, by_next_id}
use Rattle.quic_headline.proofs.Packets.Growth.{in_more}
use Rattle.quic_headline.proofs.Packets.Ascending.{Ascends}
use Rattle.quic_headline.proofs.Packets.Probes.{by_ready, ready_state, draft_streams, by_going, with_asked}
use Rattle.quic_headline.proofs.Packets.Given.{draft_number}
use Rattle.quic_headline.proofs.Places.Told.{in_left, in_right, in_append}
use Rattle.quic_headline.proofs.Places.Parties.{sent_by, sent_if, sent_as}
use Rattle.quic_headline.proofs.Halves.QuietSteps.{composed_quiet}
use Rattle.quic_headline.proofs.Channel.Received.{Stays, stays_kept}
use Rattle.quic_headline.proofs.Channel.Told.{IsTold}
use Rattle.quic_headline.proofs.Channel.Given.{Grown, Given, grown_same}
use Rattle.quic_headline.proofs.Channel.Given as given
use Rattle.quic_headline.proofs.Duties.Carrier.{any_member, any_there, any_put, any_sent, IsNew, ready_new}
use Rattle.quic_headline.proofs.Duties.Tail.{AskBefore, sent_quiet, ready_before}
use Rattle.quic_headline.proofs.Duties.Lasting.{WasUsed, Knows, Ends, knows_lasts, ends_lasts, lasting, told_lasts, call_lasts}
use Rattle.quic_headline.proofs.Duties.Limits.{limit_more, merged_left, merged_right, carried_waits, call_waits, FliesFrom, LimitStands, still, detected_more}
use Rattle.quic_headline.proofs.Packets.Sends.{by_sends}
use Rattle.quic_headline.proofs.Packets.Owing.{Owes, close_is, error_owes}
use Rattle.quic_machine.specs.DraftLaws.{IsClose}
use Rattle.quic_headline.proofs.Packets.Entries.{by_request}

-- ---- frames of control

-- a limit that frames say, no less than a value
pub record SaysFrom (frames : List FrameValue) (what : Limited) (value : ℕ) : Type 0 where
  pub limit : ℕ
  pub said : In (limit_frame what limit) frames
  pub enough : value ≤ limit

says_left : (what : Limited) (value : ℕ) (fs gs : List FrameValue) → SaysFrom fs what value → SaysFrom (fs ++ gs) what value
says_left what value fs gs i = record { limit = i.limit; said = in_left (limit_frame what i.limit) fs gs i.said; enough = i.enough }

says_right : (what : Limited) (value : ℕ) (fs gs : List FrameValue) → SaysFrom gs what value → SaysFrom (fs ++ gs) what value
says_right what value fs gs i = record { limit = i.limit; said = in_right (limit_frame what i.limit) fs gs i.said; enough = i.enough }

-- a stream of which a limit was said takes none any more, where its half that is in use doesn't
ends_at : (id : ℕ) (s : StreamsState) → AllReceiving (Knows (StreamData id)) s → ((h : RecvHalf) → at s.receiving.halves.live id ≡ Some h → takes_limits h ≡ false) → AllReceiving (Ends (StreamData id)) s
ends_at id s knows none = record { shape = knows.shape; each = λ j same. go j same (at s.receiving.halves.live j) (receives_on s.side j && is_opened s j) (has_place s.side s.receiving.halves.places j) refl (knows.each j same) }
  where
    go : (j : ℕ) → j ≡ id → (o : Option RecvHalf) (m used : Bool) → at s.receiving.halves.live j ≡ o → WasUsed (λ h. Unit {0}) (status_from o m used) → WasUsed (λ h. takes_limits h ≡ false) (status_from o m used)
    go j same (Some h) m used is k = none h (ap (at s.receiving.halves.live) (sym same) ∙ is)
    go j same None true true is k = tt
    go j same None true false is k = k
    go j same None false used is k = k

-- one that has a half in use was in use
knows_at : (id : ℕ) (s : StreamsState) (h : RecvHalf) → IsShaped s → at s.receiving.halves.live id ≡ Some h → AllReceiving (Knows (StreamData id)) s
knows_at id s h shape is = record { shape = shape; each = λ j same. subst (λ o. WasUsed (λ x. Unit {0}) (status_from o (receives_on s.side j && is_opened s j) (has_place s.side s.receiving.halves.places j))) (sym (ap (at s.receiving.halves.live) same ∙ is)) tt }

-- ---- the first that waits of a kind

-- the ids behind the first are the others
others_have : (id x : ℕ) (xs : List ℕ) → (id ≡ x → ⊥) → has_id id (x ∷ xs) ≡ true → has_id id xs ≡ true
others_have id x xs ne is = elim (or_cases (is_at (nat_cmp id) x) (has_id id xs) is) [ inl here ↦ absurd (ne (first_is id x here)) | inr there ↦ there ]

-- a half has no frame where it takes no limits
none_takes : (window id : ℕ) (o : Option RecvHalf) (h : RecvHalf) → control.limit_frame window id o ≡ None → o ≡ Some h → takes_limits h ≡ false
none_takes window id o h none is = go (takes_limits h) refl (sym (ap (control.limit_frame window id) is) ∙ none)
  where
    go : (b : Bool) → takes_limits h ≡ b → (if b then Some (max_stream_data (record { id = id; limit = raised_on window h })) else None) ≡ None → takes_limits h ≡ false
    go true takes due = cc
    go false takes due = takes

-- a limit that is no longer due is one of a stream that takes none any more
dropped : (what : Limited) (kind : ControlKind) (c : control.Draft) (e : Entry) (es : List Entry) → waiting kind c.pending ≡ e ∷ es → e.frame c.state ≡ None → AllReceiving (Knows what) c.state → limit_waits c.pending what ≡ true
    → (limit_waits (without_first kind c.pending) what ≡ true) ⊎ AllReceiving (Ends what) c.state
dropped AllData MaxData c e es is none knows waits = let no : Some (max_data (raised_data c.state.receiving)) ≡ None = ap (λ (x : Entry). x.frame c.state) (flag_first c.pending.max_data data_entry e es is) ∙ none in cc
dropped (StreamCount d) (MaxStreams dir) c e es is none knows waits = let no : Some (max_streams (record { one_way = is_one_way dir; count = raised_count dir c.state.opening })) ≡ None = ap (λ (x : Entry). x.frame c.state) (flag_first (of dir c.pending.max_stream_id) (count_entry dir) e es is) ∙ none in cc
dropped (StreamData id) MaxStreamData c e es is none knows waits = go c.pending.max_stream_data refl is
  where
    go : (ids : List ℕ) → c.pending.max_stream_data ≡ ids → map limit_entry ids ≡ e ∷ es → (has_id id (others_of c.pending.max_stream_data) ≡ true) ⊎ AllReceiving (Ends (StreamData id)) c.state
    go [] here is = cc
    go (x ∷ xs) here is =
        let entry : limit_entry x ≡ e = cc in
        let no : control.limit_frame c.state.receiving.stream_window x (at c.state.receiving.halves.live x) ≡ None = ap (λ (y : Entry). y.frame c.state) entry ∙ none in
        elim (cases_eq id x) [
          | inl same ↦ inr (ends_at id c.state knows (λ h found. none_takes c.state.receiving.stream_window x (at c.state.receiving.halves.live x) h no (ap (at c.state.receiving.halves.live) (sym same) ∙ found)))
          | inr ne ↦ inl (subst (λ l. has_id id (others_of l) ≡ true) (sym here) (others_have id x xs ne (subst (λ l. has_id id l ≡ true) here waits)))
        ]
dropped what kind c e es is none knows waits = inl waits

-- what an end would say now is no less than a value
abbrev Reaches : Limited → ℕ → StreamsState → Type 0
Reaches AllData value s = value ≤ raised_data s.receiving
Reaches (StreamData id) value s = (h : RecvHalf) → at s.receiving.halves.live id ≡ Some h → value ≤ raised_on s.receiving.stream_window h
Reaches (StreamCount dir) value s = value ≤ raised_count dir s.opening

-- what was said before
reaches : (what : Limited) (value : ℕ) (s t : StreamsState) → IsTold s (limit_frame what value) → Given s (limit_frame what value) → Stays s t → Grown s t → Reaches what value t
reaches AllData value s t told may stays grows = let more = stays.receives.more in let most = stays.receives.announced in omega arith
reaches (StreamData id) value s t told may stays grows = λ h is.
    let far : value ≤ h.announced = subst (λ o. HalfIs (value ≤ t.receiving.stream_window) (λ (x : RecvHalf). value ≤ x.announced) (Unit {0}) o (has_place t.side t.receiving.halves.places id)) is (stays.receives.allows id value told) in
    let within : IsWithin t.receiving.stream_window h = stays.receives.halves id h is in
    let most = within.announced in
    omega arith
reaches (StreamCount Bi) value s t told may stays grows = let more = grows.3 Bi in omega arith
reaches (StreamCount Uni) value s t told may stays grows = let more = grows.3 Uni in omega arith

-- a count goes, or one of the other streams
count_sent : (dir : Dir) (one_way : Bool) (count value : ℕ) (o : Opening) (flags : Flags) → count ≡ raised_count (control.dir_named one_way) o → value ≤ raised_count dir o → of dir flags ≡ true
    → (of dir (with_of (control.dir_named one_way) false flags) ≡ true) ⊎ SaysFrom (max_streams (record { one_way = one_way; count = count }) ∷ []) (StreamCount dir) value
count_sent Bi false count value o flags is reach waits = inr (record { limit = count; said = inl refl; enough = subst (λ n. value ≤ n) (sym is) reach })
count_sent Uni true count value o flags is reach waits = inr (record { limit = count; said = inl refl; enough = subst (λ n. value ≤ n) (sym is) reach })
count_sent Bi true count value o flags is reach waits = inl waits
count_sent Uni false count value o flags is reach waits = inl waits

-- a limit that is due goes, no less than before
sent : (what : Limited) (c : control.Draft) (f : FrameValue) (value : ℕ) → control.Goes c.pending c.state f → Reaches what value c.state → limit_waits c.pending what ≡ true → (limit_waits (without_of (control.kind_of f) c.pending) what ≡ true) ⊎ SaysFrom (f ∷ []) what value
sent AllData c (max_data limit) value goes reach waits = inr (record { limit = limit; said = inl refl; enough = subst (λ n. value ≤ n) (sym goes) reach })
sent (StreamData id) c (max_stream_data f) value goes reach waits = elim (cases_eq id f.id) [
  | inl same ↦ inr (record {
    limit = f.limit;
    said = inl (ap (λ n. max_stream_data (record { id = n; limit = f.limit })) same);
    enough = subst (λ n. value ≤ n) (sym goes.3) (reach goes.0 (ap (at c.state.receiving.halves.live) same ∙ goes.2));
  })
  | inr ne ↦ inl (others_have id f.id (others_of c.pending.max_stream_data) ne (subst (λ l. has_id id l ≡ true) (first_others c.pending.max_stream_data f.id goes.1) waits))
]
sent (StreamCount dir) c (max_streams f) value goes reach waits = count_sent dir f.one_way f.count value c.state.opening c.pending.max_stream_id goes reach waits
sent what c f value goes reach waits = inl waits

module _ (s : StreamsState) (p : Retransmits) (what : Limited) (value : ℕ) (told : IsTold s (limit_frame what value)) (may : Given s (limit_frame what value)) where
  -- frames of control went: a limit that waited waits still, matters no more, or went
  record Moved (c : control.Draft) : Type 0 where
    stays : Stays s c.state
    grows : Grown s c.state
    knows : AllReceiving (Knows what) c.state
    moves : limit_waits p what ≡ true → (limit_waits c.pending what ≡ true) ⊎ AllReceiving (Ends what) c.state ⊎ SaysFrom c.frames what value

  control_moved : (most used : ℕ) → Stays s s → AllReceiving (Knows what) s → Moved (control.control_frames most used s p nothing_waits)
  control_moved most used here known = by_control most Moved (record {
    drops = λ c kind e es is none m. record {
      stays = m.stays;
      grows = m.grows;
      knows = m.knows;
      moves = λ was. elim (m.moves was) [
        | inl waits ↦ elim (dropped what kind c e es is none m.knows waits) [ inl still ↦ inl still | inr ends ↦ inr (inl ends) ]
        | inr more ↦ inr more
      ];
    };
    sends = λ c kind f is room m. record {
      stays = by_told (Stays s) (stays_kept s) f c.state m.stays;
      grows = by_told (Grown s) (given.grown_kept s) f c.state m.grows;
      knows = told_lasts (Knows what) (knows_lasts what) f c.state m.knows;
      moves = λ was. elim (m.moves was) [
        | inl waits ↦ elim (subst (λ (o : Option ControlKind). (limit_waits (without_of o c.pending) what ≡ true) ⊎ SaysFrom (f ∷ []) what value) is.of_kind (sent what c f value is.says (reaches what value s c.state told may m.stays m.grows) waits)) [
          | inl still ↦ inl still
          | inr goes ↦ inr (inr (says_right what value c.frames (f ∷ []) goes))
        ]
        | inr more ↦ elim more [ inl ends ↦ inr (inl (told_lasts (Ends what) (ends_lasts what) f c.state ends)) | inr said ↦ inr (inr (says_left what value c.frames (f ∷ []) said)) ]
      ];
    };
  }) (control.no_frames used s p nothing_waits) (record { stays = here; grows = grown_same s; knows = known; moves = λ was. inl was })

-- ---- a draft

-- ACK_FREQUENCY is none of them
asked_limit : (what : Limited) (r : Retransmits) (waits : Bool) → limit_waits (record r { ack_frequency = waits }) what ≡ limit_waits r what
asked_limit AllData r waits = refl
asked_limit (StreamData id) r waits = refl
asked_limit (StreamCount dir) r waits = refl

-- nor is HANDSHAKE_DONE
done_limit : (what : Limited) (r : Retransmits) (waits : Bool) → limit_waits (record r { handshake_done = waits }) what ≡ limit_waits r what
done_limit AllData r waits = refl
done_limit (StreamData id) r waits = refl
done_limit (StreamCount dir) r waits = refl

-- it waits still, matters no more, or stands in a frame
abbrev IsMoved : Limited → ℕ → Draft → Type 0
IsMoved what value d = (limit_waits d.end.waiting.frames what ≡ true) ⊎ AllReceiving (Ends what) d.end.streams ⊎ SaysFrom d.frames what value

-- one frame more, that leaves streams and what waits
moved_more : (what : Limited) (value : ℕ) (d : Draft) (f : FrameValue) → IsMoved what value d → (limit_waits d.end.waiting.frames what ≡ true) ⊎ AllReceiving (Ends what) d.end.streams ⊎ SaysFrom (d.frames ++ f ∷ []) what value
moved_more what value d f (inl waits) = inl waits
moved_more what value d f (inr (inl ends)) = inr (inl ends)
moved_more what value d f (inr (inr said)) = inr (inr (says_left what value d.frames (f ∷ []) said))

module _ (e : End) (what : Limited) (value : ℕ) (told : IsTold e.streams (limit_frame what value)) (may : Given e.streams (limit_frame what value)) (stays : Stays e.streams e.streams) (knows : AllReceiving (Knows what) e.streams)
    (was : limit_waits e.waiting.frames what ≡ true) where
  -- no frame went but ACK, signals and ACK_FREQUENCY
  record Untouched (d : Draft) : Type 0 where
    streams : e.streams ≡ d.end.streams
    waits : limit_waits d.end.waiting.frames what ≡ true

  -- what asks goes
  asking_moved : (d : Draft) → Untouched d → IsMoved what value (with_asking d)
  asking_moved d u = by_streams (IsMoved what value) (λ x i h room found first left is counts m. stream_goes x i h room found m) (with_message_frames (with_control_frames (with_frequency_frame (with_signal_frames d))))
      (by_messages (IsMoved what value) (λ x m ms is fit moved. moved_more what value x (datagram m) moved) (with_control_frames (with_frequency_frame (with_signal_frames d))) (controls (with_frequency_frame (with_signal_frames d))
      (by_request Untouched (with_signal_frames d) (λ waits v. record { streams = v.streams; waits = asked_limit what (with_signal_frames d).end.waiting.frames false ∙ v.waits }) (by_signals Untouched (λ x f left is v. record { streams = v.streams; waits = v.waits }) d u))))
    where
      stream_goes : (x : Draft) (i : ℕ) (h : SendHalf) (room : ℕ) → at x.end.streams.sending.halves.live i ≡ Some h → IsMoved what value x → IsMoved what value (with_half_frame x i h room)
      stream_goes x i h room found (inl waits) = inl waits
      stream_goes x i h room found (inr (inl ends)) = inr (inl (by_frame (AllReceiving (Ends what)) (lasting (Ends what) (ends_lasts what)) x.end.transport.send_fairness x.end.streams i room h found tt ends))
      stream_goes x i h room found (inr (inr said)) = inr (inr (says_left what value x.frames (stream (frame_of i h room) ∷ []) said))

      controls : (x : Draft) → Untouched x → IsMoved what value (with_control_frames x)
      controls x v =
          let s : StreamsState = x.end.streams in
          let c = control.control_frames (frame_room x.end) (length x.bytes) s x.end.waiting.frames nothing_waits in
          let moved = control_moved s x.end.waiting.frames what value (subst (λ t. IsTold t (limit_frame what value)) v.streams told) (subst (λ t. Given t (limit_frame what value)) v.streams may) (frame_room x.end) (length x.bytes)
          (subst (λ t. Stays t t) v.streams stays) (subst (AllReceiving (Knows what)) v.streams knows) in
          elim (moved.moves v.waits) [
            | inl waits ↦ inl waits
            | inr more ↦ elim more [ inl ends ↦ inr (inl ends) | inr said ↦ inr (inr (says_right what value x.frames c.frames said)) ]
          ]

  -- whichever frames go
  composed_moved : IsMoved what value (composed e)
  composed_moved = go (can_send e.acknowledging)
    where
      late : (b : Bool) (d : Draft) → IsMoved what value d → IsMoved what value (ack_if b d)
      late true d m = moved_more what value d (ack (ack_of d.end)) m
      late false d m = m

      go : (b : Bool) → IsMoved what value (composed_if b e)
      go true = asking_moved (with_ack (no_frames e)) (record { streams = refl; waits = was })
      go false = late (ack_fits (with_asking (no_frames e))) (with_asking (no_frames e)) (asking_moved (no_frames e) (record { streams = refl; waits = was }))

-- so it is of what goes, where that is composed, or is a due ACK, a probe of a size or a close
-- alone, and where nothing goes
draft_moved : (e : End) (what : Limited) (value : ℕ) → IsTold e.streams (limit_frame what value) → Given e.streams (limit_frame what value) → Stays e.streams e.streams → AllReceiving (Knows what) e.streams
    → limit_waits e.waiting.frames what ≡ true → (leaving : Leaving) → IsMoved what value (draft_as leaving e)
draft_moved e what value told may stays knows was whole = composed_moved (lazied e) what value told may stays knows was
draft_moved e what value told may stays knows was other = inl was

-- ---- what goes is said of a half in use

-- a limit of a stream is said in a draft only where the stream's half was in use
record Sees (d : Draft) : Type 0 where
  shape : IsShaped d.end.streams
  frames : (id limit : ℕ) → In (limit_frame (StreamData id) limit) d.frames → AllReceiving (Knows (StreamData id)) d.end.streams

draft_sees : (leaving : Leaving) (e : End) → MayLeave leaving e → IsShaped e.streams → Sees (draft_as leaving e)
draft_sees leaving e may shape = by_leave Sees keep leaving e may (record { shape = shape; frames = λ id limit i. absurd i })
  where
    keep : Writing Sees
    keep (puts.drops kind) d may b = record { shape = b.shape; frames = b.frames }
    keep (puts.control kind f) d is b = record {
      shape = by_told IsShaped shape_any f d.end.streams b.shape;
      frames = λ id limit i. told_lasts (Knows (StreamData id)) (knows_lasts (StreamData id)) f d.end.streams (elim (in_more (limit_frame (StreamData id) limit) f d.frames i) [
        | inl old ↦ b.frames id limit old
        | inr new ↦ (let goes = subst (λ (g : FrameValue). control.Goes d.end.waiting.frames d.end.streams g) (sym new) is.says in knows_at id d.end.streams goes.0 b.shape goes.2)
      ]);
    }
    keep (puts.stream i h room) d (found, first, some, is, counts) b = record {
      shape = by_frame IsShaped shape_any d.end.transport.send_fairness d.end.streams i room h found tt b.shape;
      frames = λ id limit among. elim (in_more (limit_frame (StreamData id) limit) (stream (frame_of i h room)) d.frames among) [
        | inl old ↦ by_frame (AllReceiving (Knows (StreamData id))) (lasting (Knows (StreamData id)) (knows_lasts (StreamData id))) d.end.transport.send_fairness d.end.streams i room h found tt (b.frames id limit old)
        | inr new ↦ cc
      ];
    }
    keep p d may b = record { shape = b.shape; frames = λ id limit i. elim (in_more (limit_frame (StreamData id) limit) _ d.frames i) [ inl old ↦ b.frames id limit old | inr new ↦ cc ] }

-- what is said of a limit in a draft is known
said_known : (what : Limited) (value : ℕ) (d : Draft) → Sees d → In (limit_frame what value) d.frames → AllReceiving (Knows what) d.end.streams
said_known AllData value d sees i = record { shape = sees.shape; each = λ j. tt }
said_known (StreamData id) value d sees i = sees.frames id value i
said_known (StreamCount dir) value d sees i = record { shape = sees.shape; each = λ j. tt }

-- ---- a datagram goes

-- one that is equal to one of a list is among it
pub same_in : {X : Type 0} (x : X) (xs : List X) → AnyIn (λ y. y ≡ x) xs → In x xs
same_in x xs i = let m = any_member (λ y. y ≡ x) xs i in subst (λ y. In y xs) m.2 m.1

-- a packet that goes is tracked, and so is one that was, unless it is of the tail
pub sent_has : (t : Tracking) (n : ℕ) (p : TrackedPacket) (q : ℕ × TrackedPacket) → IsNew t.packets n → ((r : ℕ × TrackedPacket) → In r t.packets → is_behind t.greatest_asking r.0 ≡ true → r ≡ q → ⊥) → (q ≡ (n, p)) ⊎ In q t.packets → In q (after_sent t n p).packets
sent_has t n p q new none i = same_in q (after_sent t n p).packets (any_sent (λ y. y ≡ q) t n p new none (elim i [ inl same ↦ inl (sym same) | inr old ↦ inr (any_there (λ y. y ≡ q) q t.packets old refl) ]))

-- frames that don't ask say no limit
none_says : (what : Limited) (value : ℕ) (fs : List FrameValue) → asking fs ≡ false → In (limit_frame what value) fs → ⊥
none_says what value [] silent i = i
none_says what value (f ∷ fs) silent (inr more) = none_says what value fs (or_parts (asks f) (asking fs) silent).1 more
none_says what value (f ∷ fs) silent (inl same) = go what same
  where
    asked : asks f ≡ true → ⊥
    asked on = let clash : true ≡ false = sym on ∙ (or_parts (asks f) (asking fs) silent).0 in cc

    go : (what : Limited) → limit_frame what value ≡ f → ⊥
    go AllData is = asked (ap asks (sym is))
    go (StreamData id) is = asked (ap asks (sym is))
    go (StreamCount dir) is = asked (ap asks (sym is))

-- PADDING says none
not_padding : (what : Limited) (value count : ℕ) → In (limit_frame what value) (replicate count padding) → ⊥
not_padding what value zero i = i
not_padding what value (suc count) (inr more) = not_padding what value count more
not_padding AllData value (suc count) (inl is) = cc
not_padding (StreamData id) value (suc count) (inl is) = cc
not_padding (StreamCount dir) value (suc count) (inl is) = cc

-- more was sent
pub stands_more : (took : List Packet) (own more : List Sent) (what : Limited) (value : ℕ) (e : End) → LimitStands took own what value e → LimitStands took (own ++ more) what value e
stands_more took own more what value e (inl ends) = inl ends
stands_more took own more what value e (inr (inl waits)) = inr (inl waits)
stands_more took own more what value e (inr (inr (inl i))) = inr (inr (inl (record {
  limit = i.limit;
  flies = record { sent = i.flies.sent; among = in_left i.flies.sent own more i.flies.among; carried = i.flies.carried; packet = i.flies.packet; tracked = i.flies.tracked };
  again = i.again;
  enough = i.enough;
})))
stands_more took own more what value e (inr (inr (inr came))) = inr (inr (inr came))

module _ (took : List Packet) (own : List Sent) (what : Limited) (value : ℕ) where
  -- a datagram that goes is tracked
  given_stands : (d : Draft) (x : Sent) → x.number ≡ number_of d.end → x.frames ≡ frames_padded d → AskBefore own d.end.tracking.greatest_asking → IsNew d.end.tracking.packets (number_of d.end)
      → IsMoved what value d ⊎ FliesFrom own d.end.tracking.packets what value ⊎ LimitHasArrived took what value → LimitStands took (own ++ x ∷ []) what value (tracked d)
  given_stands d x number frames before new (inl (inl waits)) = inr (inl waits)
  given_stands d x number frames before new (inl (inr (inl ends))) = inl ends
  given_stands d x number frames before new (inl (inr (inr said))) =
      let packet : TrackedPacket = packet_of d in
      inr (inr (inl (record {
        limit = said.limit;
        flies = record {
          sent = x;
          among = in_right x own (x ∷ []) (inl refl);
          carried = subst (In (limit_frame what said.limit)) (sym frames) (in_left (limit_frame what said.limit) d.frames _ said.said);
          packet = packet;
          tracked = sent_has d.end.tracking (number_of d.end) packet (x.number, packet) new (λ r j behind same. new r.0 r.1 j (ap (λ (y : ℕ × TrackedPacket). y.0) same ∙ number)) (inl (ap (λ n. (n, packet)) number));
        };
        again = carried_waits what said.limit d.frames said.said;
        enough = said.enough;
      })))
  given_stands d x number frames before new (inr (inl i)) =
      inr (inr (inl (record {
        limit = i.limit;
        flies = record {
          sent = i.flies.sent;
          among = in_left i.flies.sent own (x ∷ []) i.flies.among;
          carried = i.flies.carried;
          packet = i.flies.packet;
          tracked = sent_has d.end.tracking (number_of d.end) (packet_of d) (i.flies.sent.number, i.flies.packet) new (λ r j behind same. (
              let there : is_behind d.end.tracking.greatest_asking i.flies.sent.number ≡ true = ap (λ (y : ℕ × TrackedPacket). is_behind d.end.tracking.greatest_asking y.0) (sym same) ∙ behind in
              none_says what i.limit i.flies.sent.frames (sent_quiet own d.end.tracking.greatest_asking i.flies.sent before i.flies.among there) i.flies.carried)) (inr i.flies.tracked);
        };
        again = i.again;
        enough = i.enough;
      })))
  given_stands d x number frames before new (inr (inr came)) = inr (inr (inr came))

  module _ (p : Policy) (e : End) (now : ℕ) (ascends : Ascends e) (before : AskBefore own e.tracking.greatest_asking) (new : IsNew e.tracking.packets (number_of e)) where
    asked_stands : (waits : Bool) (x : End) → LimitStands took own what value x → LimitStands took own what value (with_asked x waits)
    asked_stands waits x (inl ends) = inl ends
    asked_stands waits x (inr (inl set)) = inr (inl (asked_limit what x.waiting.frames waits ∙ set))
    asked_stands waits x (inr (inr rest)) = inr (inr rest)

    -- where something waits for each probe: what a probe carries waits
    ready_stands : LimitStands took own what value e → LimitStands took own what value (ready_at e now).end
    ready_stands i = by_ready (LimitStands took own what value) e now i (λ ping immediate x j. j) (λ waits x j. asked_stands waits x j) (λ q among. moved q among i) (λ moment pacing discovery x j. j)
      where
        moved : (q : ℕ × TrackedPacket) → In q e.tracking.packets → LimitStands took own what value e → LimitStands took own what value (record_moved (Some q) (with_closing e (ticked e.closing now)))
        moved q among (inl ends) = inl ends
        moved q among (inr (inl waits)) = inr (inl (merged_left what e.waiting.frames q.1.carried.retransmits waits))
        moved q among (inr (inr (inl i))) =
            let here : ℕ × TrackedPacket = (i.flies.sent.number, i.flies.packet) in
            let changed : Table TrackedPacket = put e.tracking.packets q.0 (without_record q.1) in
            elim (any_put (λ y. y ≡ here) (q ≡ here) e.tracking.packets q (without_record q.1) ascends among (λ same. inr same) (any_there (λ y. y ≡ here) here e.tracking.packets i.flies.tracked refl)) [
              | inl there ↦ inr (inr (inl (still took own what value e.tracking.packets changed i (same_in here changed there))))
              | inr same ↦ inr (inl (merged_right what e.waiting.frames q.1.carried.retransmits (ap (λ (y : ℕ × TrackedPacket). limit_waits y.1.carried.retransmits what) same ∙ i.again)))
            ]
        moved q among (inr (inr (inr came))) = inr (inr (inr came))

    -- the end that is ready, and its draft
    abbrev r : End
    r = (ready_at e now).end

    abbrev d : Draft
    d = draft_at e now

    state : e.streams ≡ r.streams
    state = sym (ready_state e now)

    -- something goes
    abbrev Goes : Type 0
    Goes = goes (ready_at e now) ≡ true

    may_go : Goes → MayLeave (ready_at e now).leaving r
    may_go some = may_leave_at e now

    tracks : Goes → (ready_at e now).end.tracking ≡ d.end.tracking
    tracks some = sym (composes (ready_at e now).leaving r (may_go some)).tracking

    number : Goes → (sent_as e now d).number ≡ number_of d.end
    number some = sym (draft_number (ready_at e now).leaving r (may_go some) ∙ ap (λ (x : End). number_of x) (ready_leaves e now))

    fresh_number : Goes → IsNew d.end.tracking.packets (number_of d.end)
    fresh_number some = subst (λ (n : ℕ). IsNew d.end.tracking.packets n) (number some) (subst (λ (t : Tracking). IsNew t.packets (number_of e)) (tracks some) (ready_new e now (number_of e) new))

    asked : Goes → AskBefore own d.end.tracking.greatest_asking
    asked some = subst (λ (t : Tracking). AskBefore own t.greatest_asking) (tracks some) (ready_before own e now before)

    -- a limit that was said before
    pub polled_stands : IsTold e.streams (limit_frame what value) → Given e.streams (limit_frame what value) → Stays e.streams e.streams → AllReceiving (Knows what) e.streams → LimitStands took own what value e
        → LimitStands took (own ++ sent_if (gave (answers.Poll (polled p e now).answer)) (sent_by p e now)) what value (polled p e now).end
    polled_stands told may stays knows i = by_sends p e now (λ (q : Polled) (ss : List Sent). LimitStands took (own ++ ss) what value q.end) (record {
      silent = stands_more took own [] what value e i;
      failed = stands_more took own [] what value e i;
      nothing = λ is none. stands_more took own [] what value (ready_at e now).end (ready_stands i);
      repeats = λ is. (stands_more took own [] what value e i, λ f goes. stands_more took own (_ ∷ []) what value e i);
      closes = λ reason is bound. (stands_more took own [] what value (ready_at e now).end (ready_stands i), λ f goes. stands_more took own (_ ∷ []) what value (ready_at e now).end (ready_stands i));
      gives = λ is_open numbered some. by_going (LimitStands took (own ++ sent_as e now d ∷ []) what value) p d (λ pacing. given_stands d (sent_as e now d) (number some) refl (asked some) (fresh_number some) (draft some (ready_stands i)));
    })
      where
        draft : Goes → LimitStands took own what value (ready_at e now).end → IsMoved what value d ⊎ FliesFrom own d.end.tracking.packets what value ⊎ LimitHasArrived took what value
        draft some (inl ends) =
            inl (inr (inl (draft_streams (λ (t : Streams). AllReceiving (Ends what) t.state) (ready_at e now).leaving r (composed_quiet (AllReceiving (Ends what)) (is_quiet (AllReceiving (Ends what)) (lasting (Ends what) (ends_lasts what))) (lazied r)) ends)))
        draft some (inr (inl waits)) =
            inl (draft_moved r what value (subst (λ t. IsTold t (limit_frame what value)) state told) (subst (λ t. Given t (limit_frame what value)) state may) (subst (λ t. Stays t t) state stays) (subst (AllReceiving (Knows what)) state knows) waits (ready_at e now).leaving)
        draft some (inr (inr more)) = inr (subst (λ (x : Tracking). FliesFrom own x.packets what value ⊎ LimitHasArrived took what value) (tracks some) more)

    -- one that goes
    pub polled_says : Owes e → IsShaped e.streams → (t : Sent) → In t (sent_if (gave (answers.Poll (polled p e now).answer)) (sent_by p e now)) → In (limit_frame what value) t.frames
        → AllReceiving (Knows what) (polled p e now).end.streams × LimitStands took (own ++ sent_if (gave (answers.Poll (polled p e now).answer)) (sent_by p e now)) what value (polled p e now).end
    polled_says owes shape t = by_sends p e now (λ (q : Polled) (ss : List Sent). In t ss → In (limit_frame what value) t.frames → AllReceiving (Knows what) q.end.streams × LimitStands took (own ++ ss) what value q.end) (record {
      silent = λ i said. absurd i;
      failed = λ i said. absurd i;
      nothing = λ is none i said. absurd i;
      repeats = λ is. (let x : End = with_closing e (ticked e.closing now) in ((λ i said. absurd i), λ f goes i said. absurd (beside f (close_is p x owes f goes) (sent_as e now (draft_as (poll.closing f) x)) (zeros_behind (draft_as (poll.closing f) x)) refl i said)));
      closes = λ reason is bound. (let x : End = closed_by reason (ready_at e now).end in ((λ i said. absurd i), λ f goes i said. absurd (beside f (close_is p x (error_owes reason (ready_at e now).end) f goes) (sent_as e now (draft_as (poll.closing f) x)) (zeros_behind (draft_as (poll.closing f) x)) refl i said)));
      gives = λ is_open numbered some i said. by_going (λ (x : End). AllReceiving (Knows what) x.streams × LimitStands took (own ++ sent_as e now d ∷ []) what value x) p d (λ pacing. sends some (among i said));
    })
      where
        -- no limit goes beside a close
        no_limit : (l : Limited) (f : FrameValue) → IsClose f → limit_frame l value ≡ f → ⊥
        no_limit AllData f is same = subst IsClose (sym same) is
        no_limit (StreamData id) f is same = subst IsClose (sym same) is
        no_limit (StreamCount dir) f is same = subst IsClose (sym same) is

        beside : (f : FrameValue) → IsClose f → (s : Sent) (count : ℕ) → s.frames ≡ f ∷ replicate count padding → In t (s ∷ []) → In (limit_frame what value) t.frames → ⊥
        beside f is s count frames (inr none) said = none
        beside f is s count frames (inl same) said = elim (subst (λ (fs : List FrameValue). In (limit_frame what value) fs) (ap (λ (u : Sent). u.frames) same ∙ frames) said) [
          | inl here ↦ no_limit what f is here
          | inr behind ↦ not_padding what value _ behind
        ]

        among : In t (sent_as e now d ∷ []) → In (limit_frame what value) t.frames → In (limit_frame what value) (sent_as e now d).frames
        among (inl is) said = subst (λ (u : Sent). In (limit_frame what value) u.frames) is said
        among (inr none) said = absurd none

        sends : Goes → In (limit_frame what value) (sent_as e now d).frames → AllReceiving (Knows what) d.end.streams × LimitStands took (own ++ sent_as e now d ∷ []) what value (tracked d)
        sends some said =
            let here : In (limit_frame what value) d.frames =
            elim (in_append (limit_frame what value) d.frames (replicate (zeros_behind d) padding) said) [
              | inl front ↦ front
              | inr behind ↦ absurd (not_padding what value _ behind)
            ] in
            let known : AllReceiving (Knows what) d.end.streams = said_known what value d (draft_sees (ready_at e now).leaving r (may_go some) (subst (λ t. IsShaped t) state shape)) here in (
              known,
              given_stands d (sent_as e now d) (number some) refl (asked some) (fresh_number some) (inl (inr (inr (record { limit = value; said = here; enough = omega arith })))),
            )

-- ---- any call

-- but a poll and a delivery
pub call_stated : (took : List Packet) (own : List Sent) (what : Limited) (value : ℕ) (p : Policy) (e : End) (theirs : List (List ℕ)) (call : Call) (a : Answer) → ((id : ℕ) → IsSentWithin e.streams id) → is_delivery call ≡ false → is_poll call ≡ false → IsAnswer p e theirs call a → LimitStands took own what value e → LimitStands took own what value (after_call p e theirs call a)
call_stated took own what value p e theirs call a within apart other is i = go i
  where
    go : LimitStands took own what value e → LimitStands took own what value (after_call p e theirs call a)
    go (inl ends) = inl (call_lasts (Ends what) (ends_lasts what) p e theirs call a within apart is ends)
    go (inr more) = by_call p e theirs (λ (f : End). LimitStands took own what value f) call a (record {
      same = inr more;
      on_streams = λ on answer. elim more [ inl waits ↦ inr (inl (call_waits what (is_open e.closing.state) (streams_at e) call a waits)) | inr far ↦ inr (inr far) ];
      on_messages = λ on answer. inr more;
      pings = inr more;
      closes = λ reason f now own. inr more;
      waits = λ now b set. by_waits (λ (f : End). LimitStands took own what value f) b (with_closing e (ticked e.closing now)) (inr more) (inr more);
      changes_id = λ uses answer. by_next_id (λ (f : End). LimitStands took own what value f) e a (inr more) (λ c. inr (limit_more what e c more)) (λ c most. inr (limit_more what e c more));
      says_handshake = λ says answer. by_done (λ (f : End). LimitStands took own what value f) e a (inr more) (inr (elim more [ inl waits ↦ inl (done_limit what e.waiting.frames true ∙ waits) | inr far ↦ inr far ]));
      times = λ now expiry set. by_expired p.words e now (λ (f : End). LimitStands took own what value f) (λ pending tracking timers waits asked runs packets.
          inr (subst (λ (t : Table TrackedPacket). (limit_waits e.waiting.frames what ≡ true) ⊎ FliesFrom own t what value ⊎ LimitHasArrived took what value) (sym packets) more)) (λ pending timers waits asked runs. detected_more took own what value (with_closing e (ticked e.closing now)) more) (λ x j. j) expiry;
      polls = λ now set. cc;
      hears = λ arrival d set. cc;
      tells = λ asks. by_event e (λ (f : End). LimitStands took own what value f) (inr more) (inr more) (λ told. inr more);
    })
