-- What an end gives moves RESET_STREAM and STOP_SENDING from what waits to what a tracked packet
-- carried.
use Rattle.std.proofs.Common.{◌≡◌, ℕ, ◌+◌, ◌<◌, ◌≤◌, ◌^◌, Bool, true, false, cond, Option, Some, None, List, [], ◌∷◌, ◌++◌, refl, sym, ap, ◌∙◌, subst, inl, inr, arith}
use Rattle.std.specs.Ordering.{nat_cmp, match_ordering}
use Rattle.std.specs.BTreeMap.{is_at}
use Rattle.std.specs.declared.cmp.Ordering.{Ordering}
use Rattle.std.specs.declared.cmp.Ordering.TheVariants.{Less, Equal, Greater}
use Rattle.std.proofs.lemmas.List.{append-nil}
use Rattle.quic_wire_core.specs.declared.shared.IssuedCid.{IssuedCid}
use Rattle.quic_wire.specs.Value.{FrameValue, StopSendingValue, stream, reset_stream, stop_sending, new_connection_id, retire_connection_id, ack_frequency}
use Rattle.quic_wire.specs.Writing.{Fits}
use Rattle.quic_streams_parts.specs.Table.{Table, put, added, without}
use Rattle.quic_streams_parts.specs.SendHalf.{SendHalf, frame_of}
use Rattle.quic_retransmits.specs.Retransmits.{Retransmits, first_of}
use Rattle.quic_streams_state.specs.declared.state.StreamsState.{StreamsState}
use Rattle.quic_streams_state.specs.Control.{without_first, told_id, issued_in, Goes}
use Rattle.quic_streams_laws.specs.KeepingLaws.{by_frame}
use Rattle.quic_machine.specs.Policy.{Policy}
use Rattle.quic_machine.specs.Tracking.{Tracking, TrackedPacket, Carried, without_packet, forgotten, without_record, carried_in}
use Rattle.quic_machine.specs.Closing.{ticked}
use Rattle.quic_machine.specs.End.{End, with_closing, with_ping, with_immediate, number_of, closed_by}
use Rattle.quic_machine.specs.Acked.{again}
use Rattle.quic_machine.specs.Poll.{Polled, Draft, packet_of, tracked, record_moved, polled, goes, draft_as, Leaving, request_of, after_request}
use Rattle.quic_machine.specs.PollCases.{ready_at, draft_at, by_poll_to, composes, may_leave_at}
use Rattle.quic_machine.specs.DraftLaws.{Writing, by_leave, MayLeave}
use Rattle.quic_machine.specs.Puts as puts
use Rattle.quic_headline.specs.Runs.{In}
use Rattle.quic_headline.specs.InFlight.{resets_in, stops_in, new_ids_in, retirements_in}
use Rattle.quic_headline.proofs.Packets.Closes.{by_closes}
use Rattle.quic_headline.proofs.Packets.Carried.{carried_same}
use Rattle.quic_headline.proofs.Packets.TrackedSteps.{in_sent, asking_packets}
use Rattle.quic_headline.proofs.Packets.Probes.{in_put, by_ready, by_going, after_going, with_pacer}
use Rattle.quic_headline.proofs.Packets.MayGo.{told_reset}
use Rattle.quic_headline.proofs.Packets.Ascending.{Splits, put_splits, Ascends}
use Rattle.quic_headline.proofs.Places.Told.{in_left, in_right, in_append}
use Rattle.quic_headline.proofs.Halves.InUse.{InUse, in_use_kept}
use Rattle.quic_headline.proofs.Halves.Pile.{times, times_append, IsPile, part_of, NothingElse, nothing_else, resets_of, stops_of, Moves, goes_moves, moved_else, without_fewer, fewer_else}
use Rattle.quic_headline.proofs.Halves.PileSteps.{CarryNothingElse, Holds, HoldsAll, holds_part, again_step, again_all, asked_holds}

-- ---- frames

-- what resets in frames, one behind another
pub resets_more : (fs gs : List FrameValue) → resets_in (fs ++ gs) ≡ resets_in fs ++ resets_in gs
resets_more [] gs = refl
resets_more (reset_stream f ∷ fs) gs = ap (λ (rs : List (ℕ × ℕ)). (f.id, f.code) ∷ rs) (resets_more fs gs)
resets_more (f ∷ fs) gs = resets_more fs gs

-- and what stops
stops_more : (fs gs : List FrameValue) → stops_in (fs ++ gs) ≡ stops_in fs ++ stops_in gs
stops_more [] gs = refl
stops_more (stop_sending f ∷ fs) gs = ap (λ (ss : List StopSendingValue). f ∷ ss) (stops_more fs gs)
stops_more (f ∷ fs) gs = stops_more fs gs

-- what goes from the front of a list behind another
shuffled : {X : Type 0} (x : X) (front w gone rest : List X) → In x (w ++ ((gone ++ front) ++ rest)) → In x ((front ++ w) ++ (gone ++ rest))
shuffled x front w gone rest i = elim (in_append x w ((gone ++ front) ++ rest) i) [
  | inl here ↦ in_left x (front ++ w) (gone ++ rest) (in_right x front w here)
  | inr more ↦ elim (in_append x (gone ++ front) rest more) [
    | inl both ↦ elim (in_append x gone front both) [ inl y ↦ in_right x (front ++ w) (gone ++ rest) (in_left x gone rest y) | inr y ↦ in_left x (front ++ w) (gone ++ rest) (in_left x front w y) ]
    | inr y ↦ in_right x (front ++ w) (gone ++ rest) (in_right x gone rest y)
  ]
]

-- ---- a draft

-- what waits, what went in a draft, and these besides, are a pile
abbrev Drafts : List (ℕ × ℕ) → List StopSendingValue → Draft → Type 0
Drafts resets stops d = Holds d.end (resets_in d.frames ++ resets) (stops_in d.frames ++ stops)

module _ (resets : List (ℕ × ℕ)) (stops : List StopSendingValue) where
  -- one more frame that neither resets nor stops
  other_frame : (d : Draft) (f : FrameValue) (e : End) → resets_in (f ∷ []) ≡ [] → stops_in (f ∷ []) ≡ [] → Holds e (resets_in d.frames ++ resets) (stops_in d.frames ++ stops) → Holds e (resets_in (d.frames ++ f ∷ []) ++ resets) (stops_in (d.frames ++ f ∷ []) ++ stops)
  other_frame d f e none nor h =
      let same : resets_in (d.frames ++ f ∷ []) ≡ resets_in d.frames = resets_more d.frames (f ∷ []) ∙ ap (λ (rs : List (ℕ × ℕ)). resets_in d.frames ++ rs) none ∙ append-nil (resets_in d.frames) in
      let likewise : stops_in (d.frames ++ f ∷ []) ≡ stops_in d.frames = stops_more d.frames (f ∷ []) ∙ ap (λ (ss : List StopSendingValue). stops_in d.frames ++ ss) nor ∙ append-nil (stops_in d.frames) in
      rw (same, likewise) h

  -- what waits goes, where this waits behind it
  moved : (d : Draft) (q : Retransmits) (f : FrameValue) → Moves d.end.waiting.frames q f → Drafts resets stops d
      → IsPile d.end.streams.sending.halves.live (q.reset_stream ++ (resets_in (d.frames ++ f ∷ []) ++ resets)) (q.stop_sending ++ (stops_in (d.frames ++ f ∷ []) ++ stops))
  moved d q f m h =
      let w : Retransmits = d.end.waiting.frames in
      rw (resets_more d.frames (f ∷ []), stops_more d.frames (f ∷ [])) (part_of d.end.streams.sending.halves.live
      (w.reset_stream ++ (resets_in d.frames ++ resets)) (q.reset_stream ++ ((resets_in d.frames ++ resets_in (f ∷ [])) ++ resets)) (w.stop_sending ++ (stops_in d.frames ++ stops)) (q.stop_sending ++ ((stops_in d.frames ++ stops_in (f ∷ [])) ++ stops))
      (λ id. (
      let before : times id w.reset_stream ≡ times id (resets_in (f ∷ [])) + times id q.reset_stream = ap (times id) m.resets ∙ times_append id (resets_in (f ∷ [])) q.reset_stream in
      let old = times_append id w.reset_stream (resets_in d.frames ++ resets) in
      let old_rest = times_append id (resets_in d.frames) resets in
      let new = times_append id q.reset_stream ((resets_in d.frames ++ resets_in (f ∷ [])) ++ resets) in
      let new_rest = times_append id (resets_in d.frames ++ resets_in (f ∷ [])) resets in
      let new_front = times_append id (resets_in d.frames) (resets_in (f ∷ [])) in
      omega arith))
      (λ r i. rw m.resets (shuffled r (resets_in (f ∷ [])) q.reset_stream (resets_in d.frames) resets i))
      (λ s i. rw m.stops (shuffled s (stops_in (f ∷ [])) q.stop_sending (stops_in d.frames) stops i))
      h.pile)

  -- whichever frames go
  draft_holds : (leaving : Leaving) (e : End) → MayLeave leaving e → Holds e resets stops → Drafts resets stops (draft_as leaving e)
  draft_holds leaving e alone h = by_leave (Drafts resets stops) keep leaving e alone (record { pile = h.pile; others = h.others })
    where
      keep : Writing (Drafts resets stops)
      keep (puts.drops kind) d may g =
          let w : Retransmits = d.end.waiting.frames in
          let less = without_fewer kind w in
          record {
            pile = part_of d.end.streams.sending.halves.live (w.reset_stream ++ (resets_in d.frames ++ resets)) ((without_first kind w).reset_stream ++ (resets_in d.frames ++ resets)) (w.stop_sending ++ (stops_in d.frames ++ stops)) ((without_first kind w).stop_sending ++ (stops_in d.frames ++ stops))
                (λ id. (let old = times_append id w.reset_stream (resets_in d.frames ++ resets) in let new = times_append id (without_first kind w).reset_stream (resets_in d.frames ++ resets) in let fewer = less.times_less id in omega arith))
                (λ r i. elim (in_append r (without_first kind w).reset_stream (resets_in d.frames ++ resets) i) [ inl x ↦ in_left r w.reset_stream (resets_in d.frames ++ resets) (less.resets r x) | inr x ↦ in_right r w.reset_stream (resets_in d.frames ++ resets) x ])
                (λ s i. elim (in_append s (without_first kind w).stop_sending (stops_in d.frames ++ stops) i) [ inl x ↦ in_left s w.stop_sending (stops_in d.frames ++ stops) (less.stops s x) | inr x ↦ in_right s w.stop_sending (stops_in d.frames ++ stops) x ])
                g.pile;
            others = fewer_else w (without_first kind w) less g.others;
          }
      keep (puts.control kind f) d is g =
          let w : Retransmits = d.end.waiting.frames in
          let m = goes_moves kind w d.end.streams f is in
          record {
            pile = (let now = moved d (without_first kind w) f m g in record { once = now.once; reset = λ r i. told_reset f d.end.streams r (now.reset r i); small = now.small });
            others = moved_else w (without_first kind w) f m g.others;
          }
      keep (puts.stream id h room) d (found, first, some, is, counts) g = other_frame d (stream (frame_of id h room)) _ refl refl (record {
        pile = record { once = g.pile.once; reset = λ r i. by_frame (InUse r) (in_use_kept r) d.end.transport.send_fairness d.end.streams id room h found (λ was. refl) (g.pile.reset r i); small = g.pile.small };
        others = g.others;
      })
      keep puts.request d may g = other_frame d (ack_frequency (request_of d.end)) (after_request d.end) refl refl (record { pile = g.pile; others = (let o = g.others in record { ids = o.ids; retired = o.retired }) })
      keep p d may g = other_frame d _ _ refl refl (record { pile = g.pile; others = g.others })

-- ---- ids that went

-- the ids of NEW_CONNECTION_ID frames, one behind another, and the numbers of RETIRE_CONNECTION_ID
-- frames
new_ids_more : (fs gs : List FrameValue) → new_ids_in (fs ++ gs) ≡ new_ids_in fs ++ new_ids_in gs
new_ids_more [] gs = refl
new_ids_more (new_connection_id f ∷ fs) gs = ap (λ (cs : List IssuedCid). issued_in f ∷ cs) (new_ids_more fs gs)
new_ids_more (f ∷ fs) gs = new_ids_more fs gs

retirements_more : (fs gs : List FrameValue) → retirements_in (fs ++ gs) ≡ retirements_in fs ++ retirements_in gs
retirements_more [] gs = refl
retirements_more (retire_connection_id n ∷ fs) gs = ap (λ (ns : List ℕ). n ∷ ns) (retirements_more fs gs)
retirements_more (f ∷ fs) gs = retirements_more fs gs

-- what waits has a form, and so has what went
record TellsIds (d : Draft) : Type 0 where
  waits : NothingElse d.end.waiting.frames
  ids : (cid : IssuedCid) → In cid (new_ids_in d.frames) → Fits (new_connection_id (told_id cid))
  retired : (n : ℕ) → In n (retirements_in d.frames) → n < 2 ^ 62

-- the first stands in a list
first_in : {X : Type 0} (x : X) (xs : List X) → first_of xs ≡ Some x → In x xs
first_in x [] is = cc
first_in x (y ∷ xs) is = let same : x ≡ y = cc in inl same

-- a frame that goes of what waits
id_told : (p : Retransmits) (s : StreamsState) (f : FrameValue) → Goes p s f → NothingElse p → (cid : IssuedCid) → In cid (new_ids_in (f ∷ [])) → Fits (new_connection_id (told_id cid))
id_told p s (new_connection_id f) goes n cid i = elim i [
  | inl same ↦ n.ids cid (first_in cid p.new_cids (goes.1 ∙ ap (λ (x : IssuedCid). Some x) (ap issued_in (sym goes.2) ∙ sym same)))
  | inr none ↦ absurd none
]
id_told p s f goes n cid i = absurd i

retirement_told : (p : Retransmits) (s : StreamsState) (f : FrameValue) → Goes p s f → NothingElse p → (n : ℕ) → In n (retirements_in (f ∷ [])) → n < 2 ^ 62
retirement_told p s (retire_connection_id m) goes e n i = elim i [
  | inl same ↦ e.retired n (first_in n p.retire_cids (goes ∙ ap (λ (x : ℕ). Some x) (sym same)))
  | inr none ↦ absurd none
]
retirement_told p s f goes e n i = absurd i

-- one more frame, which tells no id and retires none, and leaves what waits
other_tells : (d : Draft) (f : FrameValue) → new_ids_in (f ∷ []) ≡ [] → retirements_in (f ∷ []) ≡ [] → TellsIds d
    → ((cid : IssuedCid) → In cid (new_ids_in (d.frames ++ f ∷ [])) → Fits (new_connection_id (told_id cid))) × ((n : ℕ) → In n (retirements_in (d.frames ++ f ∷ [])) → n < 2 ^ 62)
other_tells d f none nor t = (
  (λ cid i. t.ids cid (subst (In cid) (new_ids_more d.frames (f ∷ []) ∙ ap (λ (cs : List IssuedCid). new_ids_in d.frames ++ cs) none ∙ append-nil (new_ids_in d.frames)) i)),
  (λ n i. t.retired n (subst (In n) (retirements_more d.frames (f ∷ []) ∙ ap (λ (ns : List ℕ). retirements_in d.frames ++ ns) nor ∙ append-nil (retirements_in d.frames)) i)),
)

-- whichever frames go
draft_tells : (leaving : Leaving) (e : End) → MayLeave leaving e → NothingElse e.waiting.frames → TellsIds (draft_as leaving e)
draft_tells leaving e alone n = by_leave TellsIds keep leaving e alone (record { waits = n; ids = λ cid i. absurd i; retired = λ k i. absurd i })
  where
    keep : Writing TellsIds
    keep (puts.drops kind) d may t = let w : Retransmits = d.end.waiting.frames in record { waits = fewer_else w (without_first kind w) (without_fewer kind w) t.waits; ids = t.ids; retired = t.retired }
    keep (puts.control kind f) d is t =
        let w : Retransmits = d.end.waiting.frames in
        record {
          waits = moved_else w (without_first kind w) f (goes_moves kind w d.end.streams f is) t.waits;
          ids = λ cid i. elim (in_append cid (new_ids_in d.frames) (new_ids_in (f ∷ [])) (subst (In cid) (new_ids_more d.frames (f ∷ [])) i)) [ inl old ↦ t.ids cid old | inr new ↦ id_told w d.end.streams f is.says t.waits cid new ];
          retired = λ m i. elim (in_append m (retirements_in d.frames) (retirements_in (f ∷ [])) (subst (In m) (retirements_more d.frames (f ∷ [])) i)) [ inl old ↦ t.retired m old | inr new ↦ retirement_told w d.end.streams f is.says t.waits m new ];
        }
    keep puts.request d may t = let more = other_tells d (ack_frequency (request_of d.end)) refl refl t in record { waits = (let w = t.waits in record { ids = w.ids; retired = w.retired }); ids = more.0; retired = more.1 }
    keep p d may t = let more = other_tells d _ refl refl t in record { waits = t.waits; ids = more.0; retired = more.1 }

-- ---- what is tracked

-- a packet more carries what it does
added_times : (es : Table TrackedPacket) (n : ℕ) (v : TrackedPacket) (id : ℕ) → times id (resets_of (added es n v)) ≤ times id v.carried.retransmits.reset_stream + times id (resets_of es)
added_times [] n v id = let all = times_append id v.carried.retransmits.reset_stream [] in omega arith
added_times (e ∷ es) n v id = go (nat_cmp n e.0) (added_times es n v id)
  where
    go : (r : Ordering) → times id (resets_of (added es n v)) ≤ times id v.carried.retransmits.reset_stream + times id (resets_of es)
        → times id (resets_of (match_ordering r ((n, v) ∷ e ∷ es) ((e.0, v) ∷ es) (e ∷ added es n v))) ≤ times id v.carried.retransmits.reset_stream + times id (resets_of (e ∷ es))
    go Less later = let all = times_append id v.carried.retransmits.reset_stream (resets_of (e ∷ es)) in omega arith
    go Equal later =
        let all = times_append id v.carried.retransmits.reset_stream (resets_of es) in
        let old = times_append id e.1.carried.retransmits.reset_stream (resets_of es) in
        omega arith
    go Greater later =
        let all = times_append id e.1.carried.retransmits.reset_stream (resets_of (added es n v)) in
        let old = times_append id e.1.carried.retransmits.reset_stream (resets_of es) in
        omega arith

added_resets : (es : Table TrackedPacket) (n : ℕ) (v : TrackedPacket) (r : ℕ × ℕ) → In r (resets_of (added es n v)) → In r (v.carried.retransmits.reset_stream ++ resets_of es)
added_resets [] n v r i = i
added_resets (e ∷ es) n v r i = go (nat_cmp n e.0) i (added_resets es n v r)
  where
    go : (o : Ordering) → In r (resets_of (match_ordering o ((n, v) ∷ e ∷ es) ((e.0, v) ∷ es) (e ∷ added es n v))) → (In r (resets_of (added es n v)) → In r (v.carried.retransmits.reset_stream ++ resets_of es)) → In r (v.carried.retransmits.reset_stream ++ resets_of (e ∷ es))
    go Less i later = i
    go Equal i later = elim (in_append r v.carried.retransmits.reset_stream (resets_of es) i) [ inl x ↦ in_left r v.carried.retransmits.reset_stream (resets_of (e ∷ es)) x | inr x ↦ in_right r v.carried.retransmits.reset_stream (resets_of (e ∷ es)) (in_right r e.1.carried.retransmits.reset_stream (resets_of es) x) ]
    go Greater i later = elim (in_append r e.1.carried.retransmits.reset_stream (resets_of (added es n v)) i) [
      | inl x ↦ in_right r v.carried.retransmits.reset_stream (resets_of (e ∷ es)) (in_left r e.1.carried.retransmits.reset_stream (resets_of es) x)
      | inr x ↦ elim (in_append r v.carried.retransmits.reset_stream (resets_of es) (later x)) [ inl y ↦ in_left r v.carried.retransmits.reset_stream (resets_of (e ∷ es)) y | inr y ↦ in_right r v.carried.retransmits.reset_stream (resets_of (e ∷ es)) (in_right r e.1.carried.retransmits.reset_stream (resets_of es) y) ]
    ]

added_stops : (es : Table TrackedPacket) (n : ℕ) (v : TrackedPacket) (s : StopSendingValue) → In s (stops_of (added es n v)) → In s (v.carried.retransmits.stop_sending ++ stops_of es)
added_stops [] n v s i = i
added_stops (e ∷ es) n v s i = go (nat_cmp n e.0) i (added_stops es n v s)
  where
    go : (o : Ordering) → In s (stops_of (match_ordering o ((n, v) ∷ e ∷ es) ((e.0, v) ∷ es) (e ∷ added es n v))) → (In s (stops_of (added es n v)) → In s (v.carried.retransmits.stop_sending ++ stops_of es)) → In s (v.carried.retransmits.stop_sending ++ stops_of (e ∷ es))
    go Less i later = i
    go Equal i later = elim (in_append s v.carried.retransmits.stop_sending (stops_of es) i) [ inl x ↦ in_left s v.carried.retransmits.stop_sending (stops_of (e ∷ es)) x | inr x ↦ in_right s v.carried.retransmits.stop_sending (stops_of (e ∷ es)) (in_right s e.1.carried.retransmits.stop_sending (stops_of es) x) ]
    go Greater i later = elim (in_append s e.1.carried.retransmits.stop_sending (stops_of (added es n v)) i) [
      | inl x ↦ in_right s v.carried.retransmits.stop_sending (stops_of (e ∷ es)) (in_left s e.1.carried.retransmits.stop_sending (stops_of es) x)
      | inr x ↦ elim (in_append s v.carried.retransmits.stop_sending (stops_of es) (later x)) [ inl y ↦ in_left s v.carried.retransmits.stop_sending (stops_of (e ∷ es)) y | inr y ↦ in_right s v.carried.retransmits.stop_sending (stops_of (e ∷ es)) (in_right s e.1.carried.retransmits.stop_sending (stops_of es) y) ]
    ]

-- fewer packets carry less
without_times : (es : Table TrackedPacket) (n id : ℕ) → times id (resets_of (without es n)) ≤ times id (resets_of es)
without_times [] n id = omega arith
without_times (e ∷ es) n id = go (is_at (nat_cmp n) e.0) (without_times es n id)
  where
    go : (b : Bool) → times id (resets_of (without es n)) ≤ times id (resets_of es) → times id (resets_of (cond b es (e ∷ without es n))) ≤ times id (resets_of (e ∷ es))
    go true later = let all = times_append id e.1.carried.retransmits.reset_stream (resets_of es) in omega arith
    go false later =
        let all = times_append id e.1.carried.retransmits.reset_stream (resets_of es) in
        let fewer = times_append id e.1.carried.retransmits.reset_stream (resets_of (without es n)) in
        omega arith

without_resets : (es : Table TrackedPacket) (n : ℕ) (r : ℕ × ℕ) → In r (resets_of (without es n)) → In r (resets_of es)
without_resets [] n r i = i
without_resets (e ∷ es) n r i = go (is_at (nat_cmp n) e.0) i (without_resets es n r)
  where
    go : (b : Bool) → In r (resets_of (cond b es (e ∷ without es n))) → (In r (resets_of (without es n)) → In r (resets_of es)) → In r (resets_of (e ∷ es))
    go true i later = in_right r e.1.carried.retransmits.reset_stream (resets_of es) i
    go false i later = elim (in_append r e.1.carried.retransmits.reset_stream (resets_of (without es n)) i) [
      | inl x ↦ in_left r e.1.carried.retransmits.reset_stream (resets_of es) x
      | inr x ↦ in_right r e.1.carried.retransmits.reset_stream (resets_of es) (later x)
    ]

without_stops : (es : Table TrackedPacket) (n : ℕ) (s : StopSendingValue) → In s (stops_of (without es n)) → In s (stops_of es)
without_stops [] n s i = i
without_stops (e ∷ es) n s i = go (is_at (nat_cmp n) e.0) i (without_stops es n s)
  where
    go : (b : Bool) → In s (stops_of (cond b es (e ∷ without es n))) → (In s (stops_of (without es n)) → In s (stops_of es)) → In s (stops_of (e ∷ es))
    go true i later = in_right s e.1.carried.retransmits.stop_sending (stops_of es) i
    go false i later = elim (in_append s e.1.carried.retransmits.stop_sending (stops_of (without es n)) i) [
      | inl x ↦ in_left s e.1.carried.retransmits.stop_sending (stops_of es) x
      | inr x ↦ in_right s e.1.carried.retransmits.stop_sending (stops_of es) (later x)
    ]

-- where one may be forgotten
kept_times : (o : Option (ℕ × TrackedPacket)) (es : Table TrackedPacket) (id : ℕ) → times id (resets_of (without_packet o es)) ≤ times id (resets_of es)
kept_times None es id = omega arith
kept_times (Some p) es id = without_times es p.0 id

kept_resets : (o : Option (ℕ × TrackedPacket)) (es : Table TrackedPacket) (r : ℕ × ℕ) → In r (resets_of (without_packet o es)) → In r (resets_of es)
kept_resets None es r i = i
kept_resets (Some p) es r i = without_resets es p.0 r i

kept_stops : (o : Option (ℕ × TrackedPacket)) (es : Table TrackedPacket) (s : StopSendingValue) → In s (stops_of (without_packet o es)) → In s (stops_of es)
kept_stops None es s i = i
kept_stops (Some p) es s i = without_stops es p.0 s i

-- a datagram that goes is tracked
given_holds : (d : Draft) → Drafts (resets_of d.end.tracking.packets) (stops_of d.end.tracking.packets) d → TellsIds d → CarryNothingElse d.end.tracking.packets → HoldsAll (tracked d)
given_holds d h tells none = record {
  holds = record { pile = subst (λ (ps : Table TrackedPacket). IsPile live (w.reset_stream ++ resets_of ps) (w.stop_sending ++ stops_of ps)) (sym there) part.pile; others = part.others };
  carried = λ n t i. elim (in_sent d.end.tracking (number_of d.end) packet (n, t) i) [
    | inl old ↦ none n t old
    | inr new ↦ (
        let same : carried_in d.frames ≡ t.carried = ap (λ (x : ℕ × TrackedPacket). x.1.carried) (sym new) in
        subst (λ (c : Carried). NothingElse c.retransmits) (carried_same d.frames ∙ same) (record { ids = tells.ids; retired = tells.retired }))
  ];
}
  where
    live : Table SendHalf
    live = d.end.streams.sending.halves.live

    w : Retransmits
    w = d.end.waiting.frames

    packets : Table TrackedPacket
    packets = d.end.tracking.packets

    packet : TrackedPacket
    packet = packet_of d

    kept : Table TrackedPacket
    kept = without_packet (forgotten d.end.tracking packet) packets

    all : Table TrackedPacket
    all = added kept (number_of d.end) packet

    there : (tracked d).tracking.packets ≡ all
    there = asking_packets packet.asks (number_of d.end) packet.time_sent (record d.end.tracking { packets = all })

    resets_are : packet.carried.retransmits.reset_stream ≡ resets_in d.frames
    resets_are = ap (λ (c : Carried). c.retransmits.reset_stream) (sym (carried_same d.frames))

    stops_are : packet.carried.retransmits.stop_sending ≡ stops_in d.frames
    stops_are = ap (λ (c : Carried). c.retransmits.stop_sending) (sym (carried_same d.frames))

    resets_went : (r : ℕ × ℕ) → In r (packet.carried.retransmits.reset_stream ++ resets_of kept) → In r (resets_in d.frames ++ resets_of packets)
    resets_went r i = elim (in_append r packet.carried.retransmits.reset_stream (resets_of kept) i) [
      | inl x ↦ in_left r (resets_in d.frames) (resets_of packets) (subst (λ (rs : List (ℕ × ℕ)). In r rs) resets_are x)
      | inr x ↦ in_right r (resets_in d.frames) (resets_of packets) (kept_resets (forgotten d.end.tracking packet) packets r x)
    ]

    stops_went : (s : StopSendingValue) → In s (packet.carried.retransmits.stop_sending ++ stops_of kept) → In s (stops_in d.frames ++ stops_of packets)
    stops_went s i = elim (in_append s packet.carried.retransmits.stop_sending (stops_of kept) i) [
      | inl x ↦ in_left s (stops_in d.frames) (stops_of packets) (subst (λ (ss : List StopSendingValue). In s ss) stops_are x)
      | inr x ↦ in_right s (stops_in d.frames) (stops_of packets) (kept_stops (forgotten d.end.tracking packet) packets s x)
    ]

    part : Holds d.end (resets_of all) (stops_of all)
    part = holds_part d.end (resets_in d.frames ++ resets_of packets) (resets_of all) (stops_in d.frames ++ stops_of packets) (stops_of all)
        (λ id. (
        let more = added_times kept (number_of d.end) packet id in
        let same : times id packet.carried.retransmits.reset_stream ≡ times id (resets_in d.frames) = ap (times id) resets_are in
        let fewer = kept_times (forgotten d.end.tracking packet) packets id in
        let sum = times_append id (resets_in d.frames) (resets_of packets) in
        omega arith))
        (λ r i. resets_went r (added_resets kept (number_of d.end) packet r i))
        (λ s i. stops_went s (added_stops kept (number_of d.end) packet s i))
        h

-- ---- a probe

-- packets one behind another
resets_behind : (id : ℕ) (xs ys : Table TrackedPacket) → times id (resets_of (xs ++ ys)) ≡ times id (resets_of xs) + times id (resets_of ys)
resets_behind id [] ys = omega arith
resets_behind id (x ∷ xs) ys =
    let rest = resets_behind id xs ys in
    let all = times_append id x.1.carried.retransmits.reset_stream (resets_of (xs ++ ys)) in
    let some = times_append id x.1.carried.retransmits.reset_stream (resets_of xs) in
    omega arith

-- what one of them carried stands there
resets_there : (ps : Table TrackedPacket) (p : ℕ × TrackedPacket) (r : ℕ × ℕ) → In p ps → In r p.1.carried.retransmits.reset_stream → In r (resets_of ps)
resets_there [] p r i among = absurd i
resets_there (q ∷ ps) p r (inl is) among = in_left r q.1.carried.retransmits.reset_stream (resets_of ps) (subst (λ (x : ℕ × TrackedPacket). In r x.1.carried.retransmits.reset_stream) is among)
resets_there (q ∷ ps) p r (inr i) among = in_right r q.1.carried.retransmits.reset_stream (resets_of ps) (resets_there ps p r i among)

stops_there : (ps : Table TrackedPacket) (p : ℕ × TrackedPacket) (s : StopSendingValue) → In p ps → In s p.1.carried.retransmits.stop_sending → In s (stops_of ps)
stops_there [] p s i among = absurd i
stops_there (q ∷ ps) p s (inl is) among = in_left s q.1.carried.retransmits.stop_sending (stops_of ps) (subst (λ (x : ℕ × TrackedPacket). In s x.1.carried.retransmits.stop_sending) is among)
stops_there (q ∷ ps) p s (inr i) among = in_right s q.1.carried.retransmits.stop_sending (stops_of ps) (stops_there ps p s i among)

-- and what stands there, one of them carried
pub resets_from : (ps : Table TrackedPacket) (r : ℕ × ℕ) → In r (resets_of ps) → (q : ℕ × TrackedPacket) × In q ps × In r q.1.carried.retransmits.reset_stream
resets_from [] r i = absurd i
resets_from (q ∷ ps) r i = elim (in_append r q.1.carried.retransmits.reset_stream (resets_of ps) i) [
  | inl here ↦ (q, inl refl, here)
  | inr more ↦ (let rest = resets_from ps r more in (rest.0, inr rest.1, rest.2))
]

pub stops_from : (ps : Table TrackedPacket) (s : StopSendingValue) → In s (stops_of ps) → (q : ℕ × TrackedPacket) × In q ps × In s q.1.carried.retransmits.stop_sending
stops_from [] s i = absurd i
stops_from (q ∷ ps) s i = elim (in_append s q.1.carried.retransmits.stop_sending (stops_of ps) i) [
  | inl here ↦ (q, inl refl, here)
  | inr more ↦ (let rest = stops_from ps s more in (rest.0, inr rest.1, rest.2))
]

-- the record of a packet waits again, and the packet stays without it
moved_holds : (p : ℕ × TrackedPacket) (e : End) → In p e.tracking.packets → Ascends e → HoldsAll e → HoldsAll (record_moved (Some p) e)
moved_holds p e among ascends h = record {
  holds = record { pile = waits.pile; others = waits.others };
  carried = λ n t i. elim (in_put packets p.0 (without_record p.1) (n, t) i) [
    | inl old ↦ h.carried n t old
    | inr new ↦ subst (λ (x : ℕ × TrackedPacket). NothingElse x.1.carried.retransmits) (sym new) (nothing_else _ refl refl)
  ];
}
  where
    packets : Table TrackedPacket
    packets = e.tracking.packets

    c : Carried
    c = p.1.carried

    left : Table TrackedPacket
    left = put packets p.0 (without_record p.1)

    splits : Splits packets left p (without_record p.1)
    splits = put_splits 0 packets p (without_record p.1) ascends among

    few : (id : ℕ) → times id (c.retransmits.reset_stream ++ resets_of left) ≤ times id (resets_of packets)
    few id =
        let there : times id (resets_of packets) ≡ times id (resets_of (splits.before ++ p ∷ splits.behind)) = ap (λ (x : Table TrackedPacket). times id (resets_of x)) splits.is in
        let after : times id (resets_of left) ≡ times id (resets_of (splits.before ++ (p.0, without_record p.1) ∷ splits.behind)) = ap (λ (x : Table TrackedPacket). times id (resets_of x)) splits.put in
        let old = resets_behind id splits.before (p ∷ splits.behind) in
        let new = resets_behind id splits.before ((p.0, without_record p.1) ∷ splits.behind) in
        let one = times_append id c.retransmits.reset_stream (resets_of splits.behind) in
        let all = times_append id c.retransmits.reset_stream (resets_of left) in
        omega arith

    resets_were : (r : ℕ × ℕ) → In r (resets_of left) → In r (resets_of packets)
    resets_were r i =
        let q = resets_from left r i in
        elim (in_put packets p.0 (without_record p.1) q.0 q.1) [
          | inl old ↦ resets_there packets q.0 r old q.2
          | inr new ↦ absurd (subst (λ (x : ℕ × TrackedPacket). In r x.1.carried.retransmits.reset_stream) new q.2)
        ]

    stops_were : (s : StopSendingValue) → In s (stops_of left) → In s (stops_of packets)
    stops_were s i =
        let q = stops_from left s i in
        elim (in_put packets p.0 (without_record p.1) q.0 q.1) [
          | inl old ↦ stops_there packets q.0 s old q.2
          | inr new ↦ absurd (subst (λ (x : ℕ × TrackedPacket). In s x.1.carried.retransmits.stop_sending) new q.2)
        ]

    part : Holds e (c.retransmits.reset_stream ++ resets_of left) (c.retransmits.stop_sending ++ stops_of left)
    part = holds_part e (resets_of packets) (c.retransmits.reset_stream ++ resets_of left) (stops_of packets) (c.retransmits.stop_sending ++ stops_of left) few
        (λ r i. elim (in_append r c.retransmits.reset_stream (resets_of left) i) [ inl x ↦ resets_there packets p r among x | inr x ↦ resets_were r x ])
        (λ s i. elim (in_append s c.retransmits.stop_sending (stops_of left) i) [ inl x ↦ stops_there packets p s among x | inr x ↦ stops_were s x ])
        h.holds

    waits : Holds (again c e) (resets_of left) (stops_of left)
    waits = again_step c e (resets_of left) (stops_of left) (h.carried p.0 p.1 among) part

-- an end that is ready to give
pub ready_holds : (e : End) (now : ℕ) → Ascends e → HoldsAll e → HoldsAll (ready_at e now).end
ready_holds e now ascends h =
    let begins : End = with_closing e (ticked e.closing now) in
    let here : HoldsAll begins = again_all e begins refl refl refl h in
    by_ready HoldsAll e now here (λ ping immediate x i. again_all x (with_ping (with_immediate x immediate) ping) refl refl refl i) asked_holds (λ p among. moved_holds p begins among ascends here) (λ moment pacing discovery x i. again_all x (with_pacer x moment pacing discovery) refl refl refl i)

-- what a poll leaves
pub polled_holds : (p : Policy) (e : End) (now : ℕ) → Ascends e → HoldsAll e → HoldsAll (polled p e now).end
polled_holds p e now ascends h = by_poll_to p e now (λ (q : Polled). HoldsAll q.end) (record {
  silent = h;
  failed = h;
  nothing = λ is none. again_all (ready_at e now).end _ refl refl refl ready;
  repeats = λ is. by_closes p (with_closing e (ticked e.closing now)) (λ (q : Polled). HoldsAll q.end) (again_all e _ refl refl refl h) (λ f goes. again_all e _ refl refl refl h);
  closes = λ reason bound. by_closes p (closed_by reason (ready_at e now).end) (λ (q : Polled). HoldsAll q.end) (again_all (ready_at e now).end _ refl refl refl ready) (λ f goes. again_all (ready_at e now).end _ refl refl refl ready);
  gives = λ is may some. by_going HoldsAll p (draft_at e now) (λ pacing. again_all (tracked (draft_at e now)) (after_going p (draft_at e now) pacing) refl refl refl (gives some));
})
  where
    ready : HoldsAll (ready_at e now).end
    ready = ready_holds e now ascends h

    gives : goes (ready_at e now) ≡ true → HoldsAll (tracked (draft_at e now))
    gives some =
        let leaving : Leaving = (ready_at e now).leaving in
        let there : End = (ready_at e now).end in
        let alone : MayLeave leaving there = may_leave_at e now in
        let d : Draft = draft_at e now in
        let same : d.end.tracking ≡ there.tracking = (composes leaving there alone).tracking in
        let packets : d.end.tracking.packets ≡ there.tracking.packets = ap (λ (t : Tracking). t.packets) same in
        let went : Drafts (resets_of there.tracking.packets) (stops_of there.tracking.packets) d =
        draft_holds (resets_of there.tracking.packets) (stops_of there.tracking.packets) leaving there alone (record { pile = ready.holds.pile; others = ready.holds.others }) in
        let here : Drafts (resets_of d.end.tracking.packets) (stops_of d.end.tracking.packets) d = rw packets went in
        let none : CarryNothingElse d.end.tracking.packets = rw packets ready.carried in
        given_holds d here (draft_tells leaving there alone ready.holds.others) none
