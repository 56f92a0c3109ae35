-- Each limit that grew waits to be told: each call of an end keeps that, each frame, and each poll,
-- by which limits are told.
use Rattle.std.proofs.Common.{◌≡◌, ℕ, ◌+◌, ◌-◌, ◌^◌, Bool, true, false, nat_le, List, [], ◌∷◌, length, Option, Some, None, Result, Ok, Err, refl, sym, ap, ◌∙◌, subst, ◌⊎◌, inl, inr, arith}
use Rattle.std.specs.Prelude.{min, map, if◌then◌else◌}
use Rattle.std.specs.List.{sum_by}
use Rattle.std.specs.Map.{values_of}
use Rattle.std.specs.BTreeMap.{is_at}
use Rattle.std.specs.Ordering.{nat_cmp}
use Rattle.std.proofs.lemmas.Bool.{leb-true, or_cases, cases_eq}
use Rattle.quic_wire_core.specs.declared.stream_id.Dir.{Dir}
use Rattle.quic_wire_core.specs.declared.stream_id.Dir.TheVariants.{Bi, Uni}
use Rattle.quic_wire.specs.Value.{FrameValue, max_data, max_stream_data, max_streams, data_blocked, stream_data_blocked}
use Rattle.quic_wire.specs.FrameView.{is_one_way}
use Rattle.quic_assembler.specs.declared.assembler.Chunk.{Chunk}
use Rattle.quic_streams_parts.specs.declared.answers.ReadError.{ReadError}
use Rattle.quic_streams_parts.specs.Table.{at, put}
use Rattle.quic_streams_parts.specs.Dirs.{Counts, Flags, of, with_of}
use Rattle.quic_streams_parts.specs.RecvHalf.{RecvHalf, least_growth, credit, raised_on, limit_grew, takes_limits}
use Rattle.quic_streams_halves.specs.Halves.{changed_at, placed}
use Rattle.quic_retransmits.specs.Retransmits.{Retransmits, nothing_waits, has_id, others_of}
use Rattle.quic_streams_state.specs.declared.state.StreamsState.{StreamsState}
use Rattle.quic_retransmits.specs.declared.retransmits.ControlKind.{ControlKind}
use Rattle.quic_retransmits.specs.declared.retransmits.ControlKind.TheVariants.{MaxData, MaxStreamData, MaxStreams}
use Rattle.quic_streams_state.specs.State.{Streams, Receiving, Opening, streams_of, consumed}
use Rattle.quic_streams_state.specs.Limits.{most_streams, raised_data, raised_count, data_grew, count_grew, grew_on}
use Rattle.quic_streams_state.specs.Opening.{announced_count}
use Rattle.quic_streams_state.specs.Reading.{Told, told_bytes, told_by, after_read_begun, after_next, stop_answer, after_stop}
use Rattle.quic_streams_state.specs.Control.{Entry, data_told, limit_told, limit_frame, data_entry, limit_entry, count_entry, waiting, without_first}
use Rattle.quic_streams_state.specs.Control as control
use Rattle.quic_streams_laws.specs.KindLaws.{GoesFirst, first_others, flag_first, without_of}
use Rattle.quic_streams_laws.specs.ControlWalk.{by_control}
use Rattle.quic_streams_laws.specs.Quiet.{IsQuiet, IsSentWithin}
use Rattle.quic_streams_laws.specs.QuietLaws.{is_quiet, by_told}
use Rattle.quic_streams_laws.specs.KeepingLaws.{by_accept, by_read_begun, by_next, by_stop, by_received_reset, by_stream, by_reset_frame, by_frame}
use Rattle.quic_streams_laws.specs.ContentLaws.{by_next_answer}
use Rattle.quic_streams_laws.specs.LimitedLaws.{sum_with}
use Rattle.quic_streams_laws.specs.Told.{CountsAreTold, AreTold}
use Rattle.quic_streams_laws.specs.ToldLaws.{counts_decided, first_is, told_read, told_merged}
use Rattle.quic_recovery_core.specs.PendingAcks.{can_send}
use Rattle.quic_machine.specs.declared.run.Call.{Call}
use Rattle.quic_machine.specs.declared.run.Call.TheVariants as calls
use Rattle.quic_machine.specs.declared.run.Answer.{Answer}
use Rattle.quic_machine.specs.declared.run.Answer.TheVariants as answers
use Rattle.quic_machine.specs.Policy.{Policy}
use Rattle.quic_machine.specs.Closing.{ticked}
use Rattle.quic_machine.specs.End.{End, with_closing, streams_at}
use Rattle.quic_machine.specs.Calls.{AreNexts, after_nexts, is_open}
use Rattle.quic_machine.specs.StreamCalls.{if_ok, IsStreamAnswer, after_on_streams}
use Rattle.quic_machine.specs.Receive.{take_frame}
use Rattle.quic_machine.specs.Poll.{Draft, no_frames, with_signal_frames, with_control_frames, with_message_frames, with_asking, with_ack, ack_fits, ack_if, composed_if, composed, frame_room, with_frequency_frame}
use Rattle.quic_machine.specs.DraftLaws.{by_streams, by_messages, by_signals}
use Rattle.quic_machine.specs.FrameCases.{OnStreams, Settling, named, acked_keeps, losses_keep, passed, frames_keep}
use Rattle.quic_machine.specs.FrameCases as cases
use Rattle.quic_machine.specs.Steps as steps
use Rattle.quic_machine.specs.CallCases.{is_delivery, by_call, by_done}
use Rattle.quic_machine.specs.LeaveCases.{by_expired, by_event}
use Rattle.quic_machine.specs.Machine.{IsAnswer, after_call}
use Rattle.quic_headline.proofs.Packets.Apart.{by_waits, by_next_id}
use Rattle.quic_headline.proofs.Packets.Probes.{ready_streams, poll_streams}
use Rattle.quic_headline.proofs.Halves.QuietSteps.{on_streams_quiet, frame_quiet}
use Rattle.quic_headline.proofs.Grown.Streams.{Grown, grown_more, grown_kept, frame_grows_not, reset_grows_not, told_once}
use Rattle.quic_headline.proofs.Grown.Flags.{is_read, KeptIn, Decides, calls_keep, polled_keeps, reset_acked_keeps, lost_keeps, frame_keeps}
use Rattle.quic_headline.proofs.Grown.Flags as flags
use Rattle.quic_streams_laws.specs.Keeping as changes
use Rattle.quic_headline.proofs.Packets.Entries.{by_request}

-- ---- what waits

-- MAX_STREAM_DATA of a stream
abbrev pub IsListed : List ℕ → ℕ → Type 0
IsListed ids id = has_id id ids ≡ true

-- each limit that grew waits, and halves stand in their order
pub record Waits (t : Streams) : Type 0 where
  pub all : CountsAreTold t.state t.pending
  pub each : Grown (IsListed t.pending.max_stream_data) t.state

-- the same of the parts that words about streams leave, where these limits of streams wait
abbrev Flagged : List ℕ → Receiving → Counts → Counts → Counts → Bool → Flags → List ℕ → Type 0
Flagged ids r announced configured done all counts waiting =
    (data_grew r ≡ true → all ≡ true) × ((dir : Dir) → nat_le (of dir announced + least_growth (of dir configured)) (min (of dir configured + of dir done) most_streams) ≡ true → of dir counts ≡ true) × (waiting ≡ ids)

decides : (ids : List ℕ) → Decides (Flagged ids)
decides ids s t p q same i = let d = counts_decided t q in (d.bytes, d.counts, same.streams ∙ i.2)

flags_of : (t : Streams) → Waits t → KeptIn (Flagged t.pending.max_stream_data) t
flags_of t w = (w.all.bytes, w.all.counts, refl)

waits_of : (ids : List ℕ) (t : Streams) → KeptIn (Flagged ids) t → Grown (IsListed ids) t.state → Waits t
waits_of ids t k g = record {
  all = record { bytes = k.0; counts = k.1 };
  each = grown_more (IsListed ids) (IsListed t.pending.max_stream_data) t.state (λ id is. ap (has_id id) k.2 ∙ is) g;
}

-- a limit that grew is that of a half in use
grown_at : (window : ℕ) (o : Option RecvHalf) → grew_on window o ≡ true → (h : RecvHalf) × (o ≡ Some h) × (limit_grew window h ≡ true)
grown_at window None grew = cc
grown_at window (Some h) grew = (h, refl, grew)

pub told_of_waits : (t : Streams) → Waits t → AreTold t.state t.pending
told_of_waits t w = record {
  all = w.all;
  each = λ id grew. (let found = grown_at t.state.receiving.stream_window (at t.state.receiving.halves.live id) grew in (w.each).each id found.0 found.1 found.2);
}

waits_told : (G : ℕ → Type 0) (t : Streams) → Grown G t.state → AreTold t.state t.pending → Waits t
waits_told G t g told = record { all = told.all; each = record { shape = g.shape; each = λ id h is grew. told.each id (ap (grew_on t.state.receiving.stream_window) is ∙ grew) } }

-- ---- calls on streams

module _ (G : ℕ → Type 0) where
  quiet : IsQuiet (Grown G)
  quiet = is_quiet (Grown G) (grown_kept G)

  -- one that isn't a read lets no limit of a stream grow
  grown_call : (e : End) → ((id : ℕ) → IsSentWithin e.streams id) → (b : Bool) (call : Call) (a : Answer) → IsStreamAnswer b e.streams call a → is_read call ≡ false → Grown G e.streams → Grown G (after_on_streams b (streams_at e) call a).state
  grown_call e within b (calls.Accept dir) a is apart i = by_accept (Grown G) (grown_kept G) dir e.streams (λ may. may) i
  grown_call e within b (calls.Read read) a is apart i = cc
  grown_call e within b (calls.Stop id code) a (inl is) apart i = subst (λ (x : Answer). Grown G (after_on_streams b (streams_at e) (calls.Stop id code) x).state) (sym is) (done (stop_answer e.streams id))
    where
      stopped : Grown G (after_stop e.streams e.waiting.frames id code).state
      stopped = by_stop (Grown G) (grown_kept G) e.streams e.waiting.frames id code (λ h e grew. cc) i

      done : {A E : Type 0} (r : Result A E) → Grown G (if_ok r (after_stop e.streams e.waiting.frames id code) (streams_at e)).state
      done (Ok x) = stopped
      done (Err x) = i
  grown_call e within b (calls.Stop id code) a (inr is) apart i = subst (λ (x : Answer). Grown G (after_on_streams b (streams_at e) (calls.Stop id code) x).state) (sym is) i
  grown_call e within b (calls.ReceivedReset id) a is apart i = by_received_reset (Grown G) (grown_kept G) e.streams e.waiting.frames id i
  grown_call e within b call a is apart i = on_streams_quiet (Grown G) quiet e within i b call a is refl

-- reads of a stream let its own limit grow, and no other
module _ (ids : List ℕ) (id : ℕ) where
  abbrev Reads : ℕ → Type 0
  Reads j = (j ≡ id) ⊎ IsListed ids j

  nexts_grown : (told : Told) (s : StreamsState) (mosts : List ℕ) (said : List (Result (Option Chunk) ReadError)) → AreNexts told s id mosts said → Grown Reads s → Grown Reads (after_nexts told s id mosts said)
  nexts_grown told s [] [] is i = i
  nexts_grown told s (most ∷ mosts) (answer ∷ said) is i = nexts_grown (told_by answer told) (after_next told answer s id most) mosts said is.1
      (by_next_answer (Grown Reads) told s id most answer is.0 (by_next (Grown Reads) (grown_kept Reads) told s id most (λ h c e f grew. inl (inl refl)) i) i)
  nexts_grown told s [] (answer ∷ said) is i = absurd is
  nexts_grown told s (most ∷ mosts) [] is i = absurd is

  read_grown : (s : StreamsState) (ordered : Bool) (mosts : List ℕ) (said : List (Result (Option Chunk) ReadError)) → AreNexts told_bytes (after_read_begun s id ordered) id mosts said → Grown (IsListed ids) s
      → Grown Reads (after_nexts told_bytes (after_read_begun s id ordered) id mosts said)
  read_grown s ordered mosts said is i = nexts_grown told_bytes (after_read_begun s id ordered) mosts said is
      (by_read_begun (Grown Reads) (grown_kept Reads) s id ordered (λ h e grew. inl (inl refl)) (grown_more (IsListed ids) Reads s (λ j is. inr is) i))

-- any call on streams
call_waits : (e : End) → ((id : ℕ) → IsSentWithin e.streams id) → (b : Bool) (call : Call) (a : Answer) → IsStreamAnswer b e.streams call a → Waits (streams_at e) → Waits (after_on_streams b (streams_at e) call a)
call_waits e within b (calls.Read read) (answers.Read (Ok said)) is w =
    let ids : List ℕ = e.waiting.frames.max_stream_data in
    let s : StreamsState = after_nexts told_bytes (after_read_begun e.streams read.id read.ordered) read.id read.nexts.items said in
    let g : Grown (Reads ids read.id) s = read_grown ids read.id e.streams read.ordered read.nexts.items said is.1 w.each in
    waits_told (Reads ids read.id) (after_on_streams b (streams_at e) (calls.Read read) (answers.Read (Ok said))) g
    (told_read s e.waiting.frames read.id (λ j ne grew.
    let found = grown_at s.receiving.stream_window (at s.receiving.halves.live j) grew in
    elim (g.each j found.0 found.1 found.2) [ inl same ↦ absurd (ne same) | inr listed ↦ listed ]))
call_waits e within b (calls.Read read) a is w = w
call_waits e within b call a is w =
    let ids : List ℕ = e.waiting.frames.max_stream_data in
    waits_of ids (after_on_streams b (streams_at e) call a) (calls_keep (Flagged ids) (decides ids) b (streams_at e) call a refl (flags_of (streams_at e) w)) (grown_call (IsListed ids) e within b call a is refl w.each)

-- ---- frames that come

settles : Settling (λ (e : End). Waits (streams_at e))
settles (steps.reset id) e w =
    let ids : List ℕ = e.waiting.frames.max_stream_data in
    waits_of ids _ (reset_acked_keeps (Flagged ids) (decides ids) e.streams e.waiting.frames id (flags_of (streams_at e) w)) ((quiet (IsListed ids)).reset_acked e.streams e.waiting.frames id w.each)
settles (steps.acked m) e w =
    let ids : List ℕ = e.waiting.frames.max_stream_data in
    waits_of ids _ (flags.acked_keeps (Flagged ids) (decides ids) e.streams e.waiting.frames m (flags_of (streams_at e) w)) ((quiet (IsListed ids)).acked e.streams e.waiting.frames m w.each)
settles (steps.lost m) e w =
    let ids : List ℕ = e.waiting.frames.max_stream_data in
    waits_of ids _ (lost_keeps (Flagged ids) (decides ids) e.streams e.waiting.frames m (flags_of (streams_at e) w)) ((quiet (IsListed ids)).lost e.streams m w.each)
settles (steps.again c) e w = waits_told (IsListed e.waiting.frames.max_stream_data) _ w.each (told_merged e.streams e.waiting.frames c.retransmits (told_of_waits (streams_at e) w))
settles s e w = w

-- one on streams
on_streams_waits : (f : FrameValue) (e : End) → OnStreams f → Waits (streams_at e) → Waits (streams_at (take_frame f e).end)
on_streams_waits f e on w =
    let ids : List ℕ = e.waiting.frames.max_stream_data in
    let G : ℕ → Type 0 = IsListed ids in
    waits_of ids (streams_at (take_frame f e).end) (frame_keeps (Flagged ids) (decides ids) f e on (flags_of (streams_at e) w))
    (frame_quiet (Grown G) (quiet G) f e (λ g is. by_stream (Grown G) (grown_kept G) e.streams e.waiting.frames g (λ h a u grew. inr (frame_grows_not e.streams.receiving.stream_window h g grew)) w.each)
    (λ g is. by_reset_frame (Grown G) (grown_kept G) e.streams e.waiting.frames g (λ h a u grew. inr (reset_grows_not e.streams.receiving.stream_window h g.code g.final_size grew)) w.each) w.each)

-- all frames of a packet
pub frames_wait : (fs : List FrameValue) (e : End) → Waits (streams_at e) → Waits (streams_at (passed fs e).end)
frames_wait fs e w = frames_keep (λ (x : End). Waits (streams_at x)) (cases.frame_keeps (λ (x : End). Waits (streams_at x)) (record {
  ack = λ rises a x v. acked_keeps (λ (y : End). Waits (streams_at y)) settles rises a (named a x) v;
  on_streams = on_streams_waits;
  message = λ m x v. v;
  apart = λ f x is v. cases.apart_leaves (λ (y : End). Waits (streams_at y)) f x is (λ c. record { all = record { bytes = v.all.bytes; counts = v.all.counts }; each = v.each }) (λ c most. record { all = record { bytes = v.all.bytes; counts = v.all.counts }; each = v.each });
})) fs e w

-- ---- frames that go

-- the ids behind the first are the others
others_listed : (x : ℕ) (xs : List ℕ) (j : ℕ) → (j ≡ x → ⊥) → IsListed (x ∷ xs) j → IsListed xs j
others_listed x xs j ne is = elim (or_cases (is_at (nat_cmp j) x) (has_id j xs) is) [ inl here ↦ absurd (ne (first_is j x here)) | inr there ↦ there ]

-- what a half whose limit is told counts as consumed is as before
told_consumed : (s : StreamsState) (id : ℕ) (g : ℕ → Type 0) → Grown g s → consumed (limit_told s.receiving id) ≡ consumed s.receiving
told_consumed s id g i = ap (λ n. s.receiving.gone + n) (go (at s.receiving.halves.live id) refl)
  where
    told : RecvHalf → RecvHalf
    told h = record h { announced = raised_on s.receiving.stream_window h }

    go : (o : Option RecvHalf) → at s.receiving.halves.live id ≡ o → sum_by credit (values_of (changed_at o told s.receiving.halves.live id)) ≡ sum_by credit (values_of s.receiving.halves.live)
    go None is = refl
    go (Some h) is =
        let total = sum_with credit s.side s.receiving.halves id h (told h) i.shape.receiving.sorted (inl is) in
        let here : sum_by credit (values_of (put s.receiving.halves.live id (told h))) + credit h ≡ sum_by credit (values_of s.receiving.halves.live) + credit h =
        subst (λ o. sum_by credit (values_of (placed o s.side s.receiving.halves id (told h)).live) + credit h ≡ sum_by credit (values_of s.receiving.halves.live) + credit h) is total in
        omega arith

-- the limit of a stream that has no frame didn't grow
none_due : (window id : ℕ) (o : Option RecvHalf) (h : RecvHalf) → limit_frame window id o ≡ None → o ≡ Some h → limit_grew window h ≡ true → ⊥
none_due window id o h none is grew = go (takes_limits h) refl (sym (ap (limit_frame window id) is) ∙ none)
  where
    go : (b : Bool) → takes_limits h ≡ b → (if b then Some (max_stream_data (record { id = id; limit = raised_on window h })) else None) ≡ None → ⊥
    go true takes none = cc
    go false takes none = let off : false ≡ true = sym (rw takes refl) ∙ grew in cc

-- streams where the first that waits of a kind is gone
abbrev Left : ControlKind → Retransmits → StreamsState → Type 0
Left kind p s = Waits (streams_of s (without_first kind p))

-- what is no longer due is dropped
drop_waits : (c : control.Draft) (kind : ControlKind) (e : Entry) (es : List Entry) → waiting kind c.pending ≡ e ∷ es → e.frame c.state ≡ None → Waits (streams_of c.state c.pending) → Left kind c.pending c.state
drop_waits c MaxData e es is none w = let no : Some (max_data (raised_data c.state.receiving)) ≡ None = ap (λ (x : Entry). x.frame c.state) (flag_first c.pending.max_data data_entry e es is) ∙ none in cc
drop_waits c (MaxStreams dir) e es is none w = let no : Some (max_streams (record { one_way = is_one_way dir; count = raised_count dir c.state.opening })) ≡ None = ap (λ (x : Entry). x.frame c.state) (flag_first (of dir c.pending.max_stream_id) (count_entry dir) e es is) ∙ none in cc
drop_waits c MaxStreamData e es is none w = go c.pending.max_stream_data refl is
  where
    go : (ids : List ℕ) → c.pending.max_stream_data ≡ ids → map limit_entry ids ≡ e ∷ es → Left MaxStreamData c.pending c.state
    go [] here is = cc
    go (x ∷ xs) here is =
        let entry : limit_entry x ≡ e = cc in
        let no : limit_frame c.state.receiving.stream_window x (at c.state.receiving.halves.live x) ≡ None = ap (λ (y : Entry). y.frame c.state) entry ∙ none in
        let left : Grown (IsListed xs) c.state = record {
          shape = w.each.shape;
          each = λ j h found grew. elim (cases_eq j x) [
            | inl j_is ↦ absurd (none_due c.state.receiving.stream_window x (at c.state.receiving.halves.live x) h no (ap (λ i. at c.state.receiving.halves.live i) (sym j_is) ∙ found) grew)
            | inr ne ↦ others_listed x xs j ne (subst (λ l. IsListed l j) here ((w.each).each j h found grew))
          ];
        } in
        record { all = record { bytes = w.all.bytes; counts = w.all.counts }; each = subst (λ l. Grown (IsListed (others_of l)) c.state) (sym here) left }
drop_waits c kind e es is none w = record { all = record { bytes = w.all.bytes; counts = w.all.counts }; each = w.each }

-- a count that was told grew no more
count_told : (dir d : Dir) (o : Opening) (flags : Flags) → ((d : Dir) → count_grew d o ≡ true → of d flags ≡ true) → count_grew d (announced_count dir o) ≡ true → of d (with_of dir false flags) ≡ true
count_told Bi Bi o flags was grew = let past = leb-true (raised_count Bi o + least_growth o.configured.bi) (raised_count Bi o) grew in absurd (omega arith)
count_told Bi Uni o flags was grew = was Uni grew
count_told Uni Bi o flags was grew = was Bi grew
count_told Uni Uni o flags was grew = let past = leb-true (raised_count Uni o + least_growth o.configured.uni) (raised_count Uni o) grew in absurd (omega arith)

-- that a limit is used up was told
told_each : (c : control.Draft) (f : FrameValue) → Grown (IsListed c.pending.max_stream_data) c.state → Grown (IsListed c.pending.max_stream_data) (control.frame_told f c.state)
told_each c f i = by_told (Grown (IsListed c.pending.max_stream_data)) (grown_kept (IsListed c.pending.max_stream_data)) f c.state i

-- once a frame went: only those that tell a limit change what has to wait
sends_wait : (c : control.Draft) (f : FrameValue) → control.Goes c.pending c.state f → Waits (streams_of c.state c.pending) → Waits (streams_of (control.frame_told f c.state) (without_of (control.kind_of f) c.pending))
sends_wait c (max_data limit) goes w = record { all = record { bytes = none; counts = w.all.counts }; each = grown_kept (IsListed c.pending.max_stream_data) changes.tells c.state tt w.each }
  where
    r : Receiving
    r = c.state.receiving

    none : data_grew (data_told r) ≡ true → false ≡ true
    none grew = let past = leb-true (raised_data r + least_growth r.window) (raised_data r) grew in absurd (omega arith)
sends_wait c (max_streams f) goes w = record {
  all = record { bytes = w.all.bytes; counts = λ d. count_told (control.dir_named f.one_way) d c.state.opening c.pending.max_stream_id w.all.counts };
  each = grown_kept (IsListed c.pending.max_stream_data) (changes.tells_count (control.dir_named f.one_way)) c.state tt w.each;
}
sends_wait c (max_stream_data f) goes w =
    let r : Receiving = c.state.receiving in
    let ids : List ℕ = c.pending.max_stream_data in
    let same : consumed (limit_told r f.id) ≡ consumed r = told_consumed c.state f.id (IsListed ids) w.each in
    record {
      all = record {
        bytes = λ grew. w.all.bytes (sym (ap (λ n. nat_le (r.announced + least_growth r.window) (min (r.window + n) (2 ^ 62 - 1))) same) ∙ grew);
        counts = w.all.counts;
      };
      each = told_once (IsListed ids) (IsListed (others_of ids)) c.state f.id (λ j ne listed. others_listed f.id (others_of ids) j ne (subst (λ l. IsListed l j) (first_others ids f.id goes.1) listed)) w.each;
    }
sends_wait c (data_blocked limit) goes w = record { all = record { bytes = w.all.bytes; counts = w.all.counts }; each = told_each c (data_blocked limit) w.each }
sends_wait c (stream_data_blocked f) goes w = record { all = record { bytes = w.all.bytes; counts = w.all.counts }; each = told_each c (stream_data_blocked f) w.each }
sends_wait c f goes w = record { all = record { bytes = w.all.bytes; counts = w.all.counts }; each = w.each }

-- what is due goes
send_waits : (c : control.Draft) (kind : ControlKind) (f : FrameValue) → GoesFirst kind c.pending c.state f → Waits (streams_of c.state c.pending) → Left kind c.pending (control.frame_told f c.state)
send_waits c kind f is w = subst (λ (o : Option ControlKind). Waits (streams_of (control.frame_told f c.state) (without_of o c.pending))) is.of_kind (sends_wait c f is.says w)

-- whichever frames of control go
control_waits : (most used : ℕ) (t : Streams) → Waits t → (let c = control.control_frames most used t.state t.pending nothing_waits in Waits (streams_of c.state c.pending))
control_waits most used t w = by_control most (λ (c : control.Draft). Waits (streams_of c.state c.pending)) (record {
  drops = λ c kind e es is none i. drop_waits c kind e es is none i;
  sends = λ c kind f is room i. send_waits c kind f is i;
}) (control.no_frames used t.state t.pending nothing_waits) w

-- what holds of a draft
abbrev Drafted : Draft → Type 0
Drafted d = Waits (streams_at d.end)

-- ACK_FREQUENCY waits, or doesn't
asked_waits : (waits : Bool) (t : Streams) → Waits t → Waits (streams_of t.state (record t.pending { ack_frequency = waits }))
asked_waits waits t i = record { all = record { bytes = i.all.bytes; counts = i.all.counts }; each = i.each }

-- what asks goes
asking_waits : (d : Draft) → Drafted d → Drafted (with_asking d)
asking_waits d w = by_streams Drafted (λ x id h room found first left is counts i. record {
  all = record { bytes = i.all.bytes; counts = i.all.counts };
  each = by_frame (Grown (IsListed x.end.waiting.frames.max_stream_data)) (grown_kept (IsListed x.end.waiting.frames.max_stream_data)) x.end.transport.send_fairness x.end.streams id room h found tt i.each;
}) (with_message_frames (with_control_frames begun)) (by_messages Drafted (λ x m ms is fit i. i) (with_control_frames begun)
    (control_waits (frame_room begun.end) (length begun.bytes) (streams_at begun.end) (by_request Drafted (with_signal_frames d) (λ asked i. asked_waits false (streams_at (with_signal_frames d).end) i) (by_signals Drafted (λ x f left is i. i) d w))))
  where
    begun : Draft
    begun = with_frequency_frame (with_signal_frames d)

-- whichever frames go
composed_waits : (e : End) → Waits (streams_at e) → Drafted (composed e)
composed_waits e w = go (can_send e.acknowledging)
  where
    late : (b : Bool) (d : Draft) → Drafted d → Drafted (ack_if b d)
    late true d i = i
    late false d i = i

    go : (b : Bool) → Drafted (composed_if b e)
    go true = asking_waits (with_ack (no_frames e)) w
    go false = late (ack_fits (with_asking (no_frames e))) (with_asking (no_frames e)) (asking_waits (no_frames e) w)

-- ---- any call

-- but a delivery
pub call_grown : (p : Policy) (e : End) (theirs : List (List ℕ)) (call : Call) (a : Answer) → ((id : ℕ) → IsSentWithin e.streams id) → is_delivery call ≡ false → IsAnswer p e theirs call a → Waits (streams_at e) → Waits (streams_at (after_call p e theirs call a))
call_grown p e theirs call a within apart is w = by_call p e theirs (λ (f : End). Waits (streams_at f)) call a (record {
  same = w;
  on_streams = λ on answer. call_waits e within (is_open e.closing.state) call a (answer is) w;
  on_messages = λ on answer. w;
  pings = w;
  closes = λ reason f now own. w;
  waits = λ now b set. by_waits (λ (f : End). Waits (streams_at f)) b (with_closing e (ticked e.closing now)) w w;
  changes_id = λ uses answer. by_next_id (λ (f : End). Waits (streams_at f)) e a w (λ c. record { all = record { bytes = w.all.bytes; counts = w.all.counts }; each = w.each }) (λ c most. record { all = record { bytes = w.all.bytes; counts = w.all.counts }; each = w.each });
  says_handshake = λ says answer. by_done (λ (f : End). Waits (streams_at f)) e a w (record { all = record { bytes = w.all.bytes; counts = w.all.counts }; each = w.each });
  times = λ now expiry set. by_expired p.words e now (λ (f : End). Waits (streams_at f)) (λ pending tracking timers waits asked runs packets. w) (λ pending timers waits asked runs. losses_keep (λ (f : End). Waits (streams_at f)) settles (with_closing e (ticked e.closing now)) w) (λ x j. j) expiry;
  polls = λ now set. poll_streams Waits p e now composed_waits w (ready_streams Waits e now w asked_waits (λ n t among. settles (steps.again t.carried) e w));
  hears = λ arrival d set. cc;
  tells = λ asks. by_event e (λ (f : End). Waits (streams_at f)) w w (λ told.
      (let ids : List ℕ = e.waiting.frames.max_stream_data in
      waits_of ids _ (polled_keeps (Flagged ids) (decides ids) e.streams e.waiting.frames (flags_of (streams_at e) w)) ((quiet (IsListed ids)).polls e.streams w.each)));
})
