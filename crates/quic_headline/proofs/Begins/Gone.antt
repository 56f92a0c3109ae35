-- Offsets and ends of streams that went at a poll wait no more.
use Rattle.std.proofs.Common.{◌≡◌, ℕ, zero, suc, ◌+◌, ◌-◌, ◌<◌, ◌≤◌, Bool, true, false, not, ◌||◌, ◌&&◌, List, [], ◌∷◌, ◌++◌, length, drop, replicate, Option, Some, None, refl, sym, ap, ◌∙◌, subst, ◌⊎◌, inl, inr, arith, length-take}
use Rattle.std.specs.Prelude.{ltb, leb}
use Rattle.std.specs.Option.{is_none}
use Rattle.std.proofs.lemmas.Bool.{or_cases, and_from, and_parts, both_ways, not-true, cond_both, cases_eq, lt-ltb, le-leb, leb-true}
use Rattle.quic_wire.specs.Value.{FrameValue, StreamValue, stream, datagram, padding, ping, ack, connection_close, application_close, immediate_ack, ack_frequency}
use Rattle.quic_sets.specs.Offsets.{is_within}
use Rattle.quic_send_buffer.specs.Buffered.{is_lost, is_unsent, written, next_start, sent_end}
use Rattle.quic_send_buffer.proofs.Buffered.Places.{has_without}
use Rattle.quic_streams_parts.specs.Table.{at}
use Rattle.quic_streams_parts.specs.Queue.{Queue, Place, rank_of, after_remove}
use Rattle.quic_streams_parts.specs.SendHalf.{SendHalf, Queued, has_pending, frame_of, half_after, reaches_end, turned, turned_at, requeued, requeued_at}
use Rattle.quic_streams_halves.specs.Halves.{with_half}
use Rattle.quic_retransmits.specs.declared.retransmits.ControlKind.{ControlKind}
use Rattle.quic_streams_state.specs.declared.state.StreamsState.{StreamsState}
use Rattle.quic_streams_state.specs.Control.{kind_of, frame_told}
use Rattle.quic_streams_state.specs.Frames.{after_frame_sent}
use Rattle.quic_streams_laws.specs.KeepingLaws.{at-half}
use Rattle.quic_streams_laws.specs.QueuedLaws.{half-apart, same_half}
use Rattle.quic_machine.specs.declared.answers.State.TheVariants as states
use Rattle.quic_machine.specs.declared.run.Answer.TheVariants as answers
use Rattle.quic_machine.specs.Policy.{Policy}
use Rattle.quic_machine.specs.End.{End}
use Rattle.quic_machine.specs.Poll.{Draft, Leaving, Polled, draft_as, polled, zeros_behind, ack_of, request_of}
use Rattle.quic_machine.specs.PollCases.{ready_at, draft_at, may_leave_at}
use Rattle.quic_machine.specs.DraftLaws.{Writing, by_leave, MayLeave}
use Rattle.quic_machine.specs.Validation.{challenge_frame, response_frame}
use Rattle.quic_machine.specs.Puts as puts
use Rattle.quic_machine.specs.Machine.{gave}
use Rattle.quic_headline.specs.Runs.{In}
use Rattle.quic_headline.specs.Observer.{Sent, HoldsOffset, HoldsEnd}
use Rattle.quic_headline.specs.Duties.{on_half}
use Rattle.quic_headline.specs.Begins.{byte_waits, fin_waits}
use Rattle.quic_headline.proofs.Packets.Probes.{by_going}
use Rattle.quic_headline.proofs.Packets.Told.{told_half}
use Rattle.quic_headline.proofs.Places.Parties.{sent_by, sent_if, sent_as}
use Rattle.quic_headline.proofs.Places.Told.{in_append}
use Rattle.quic_headline.proofs.Begins.Halves.{went_fewer}
use Rattle.quic_headline.proofs.Packets.Sends.{by_sends}

-- ---- a half

same_frame : (f g : StreamValue) → ◌≡◌ {A = FrameValue} (stream f) (stream g) → f ≡ g
same_frame f g e = cc

-- of a half nothing waits that these frames bear
record Rid (frames : List FrameValue) (id : ℕ) (h : SendHalf) : Type 0 where
  bytes : (f : StreamValue) → In (stream f) frames → f.id ≡ id → (o : ℕ) → f.offset ≤ o → o < f.offset + length f.bytes → byte_waits o h ≡ true → ⊥
  fin : (f : StreamValue) → In (stream f) frames → f.id ≡ id → f.fin ≡ true → fin_waits h ≡ true → ⊥

-- one of more frames is one of these, or the last
more_frames : (f : StreamValue) (g : FrameValue) (fs : List FrameValue) → In (stream f) (fs ++ g ∷ []) → In (stream f) fs ⊎ (stream f ≡ g)
more_frames f g fs among = go (in_append (stream f) fs (g ∷ []) among)
  where
    go : In (stream f) fs ⊎ In (stream f) (g ∷ []) → In (stream f) fs ⊎ (stream f ≡ g)
    go (inl old) = inl old
    go (inr (inl is)) = inr is
    go (inr (inr none)) = absurd none

-- another frame goes than one of its stream
rid_more : (fs : List FrameValue) (g : FrameValue) (id : ℕ) (h : SendHalf) → ((f : StreamValue) → stream f ≡ g → f.id ≡ id → ⊥) → Rid fs id h → Rid (fs ++ g ∷ []) id h
rid_more fs g id h other i = record {
  bytes = λ f among same o from below waits. elim (more_frames f g fs among) [ inl old ↦ i.bytes f old same o from below waits | inr new ↦ other f new same ];
  fin = λ f among same ends waits. elim (more_frames f g fs among) [ inl old ↦ i.fin f old same ends waits | inr new ↦ other f new same ];
}

-- an offset that its frame bears
went_bytes : (id room : ℕ) (h : SendHalf) (o : ℕ) → (frame_of id h room).offset ≤ o → o < (frame_of id h room).offset + length (frame_of id h room).bytes → (is_lost (half_after h room).buffer o || is_unsent (half_after h room).buffer o) ≡ true → ⊥
went_bytes id room h o from below is = elim (or_cases (is_lost (half_after h room).buffer o) (is_unsent (half_after h room).buffer o) is) [
  | inl lost ↦ both_ways (is_within (next_start h.buffer) (sent_end h.buffer room) o)
      (not-true (is_within (next_start h.buffer) (sent_end h.buffer room) o) (and_parts (is_lost h.buffer o) (not (is_within (next_start h.buffer) (sent_end h.buffer room) o)) (sym (has_without (next_start h.buffer) (sent_end h.buffer room) h.buffer.lost o) ∙ lost)).1)
      (and_from (leb (next_start h.buffer) o) (ltb o (sent_end h.buffer room)) (le-leb (next_start h.buffer) o from) (lt-ltb o (sent_end h.buffer room) within))
  | inr unsent ↦ (let above = leb-true (half_after h room).buffer.unsent o (and_parts (leb (half_after h room).buffer.unsent o) (ltb o (written (half_after h room).buffer)) unsent).0 in let small = within in omega (arith, above, small))
]
  where
    within : o < sent_end h.buffer room
    within =
        let cut = length-take ((sent_end h.buffer room - h.buffer.base) - (next_start h.buffer - h.buffer.base)) (drop (next_start h.buffer - h.buffer.base) h.buffer.kept) in
        let ordered : next_start h.buffer ≤ sent_end h.buffer room = omega arith in
        omega (arith, from, below, cut, ordered)

-- its frame goes
rid_went : (fs : List FrameValue) (id room : ℕ) (h : SendHalf) (place : Option Place) → Rid fs id h → Rid (fs ++ stream (frame_of id h room) ∷ []) id (record (half_after h room) { place = place })
rid_went fs id room h place i = record {
  bytes = λ f among same o from below waits. elim (more_frames f (stream (frame_of id h room)) fs among) [
    | inl old ↦ i.bytes f old same o from below (and_from (is_none h.reset) (is_lost h.buffer o || is_unsent h.buffer o) (parts o waits).0 (went_fewer h room o (parts o waits).1))
    | inr new ↦ (let is : f ≡ frame_of id h room = same_frame f (frame_of id h room) new in
        went_bytes id room h o (subst (λ (g : StreamValue). g.offset ≤ o) is from) (subst (λ (g : StreamValue). o < g.offset + length g.bytes) is below) (parts o waits).1)
  ];
  fin = λ f among same ends waits. elim (more_frames f (stream (frame_of id h room)) fs among) [
    | inl old ↦ i.fin f old same ends (and_from (is_none h.reset) h.end_waits (fins waits).0 (and_parts h.end_waits (not (reaches_end h (sent_end h.buffer room))) (fins waits).1).0)
    | inr new ↦ (let is : f ≡ frame_of id h room = same_frame f (frame_of id h room) new in both_ways (reaches_end h (sent_end h.buffer room))
        (not-true (reaches_end h (sent_end h.buffer room)) (and_parts h.end_waits (not (reaches_end h (sent_end h.buffer room))) (fins waits).1).1) (subst (λ (g : StreamValue). g.fin ≡ true) is ends))
  ];
}
  where
    parts : (o : ℕ) → byte_waits o (record (half_after h room) { place = place }) ≡ true → (is_none h.reset ≡ true) × ((is_lost (half_after h room).buffer o || is_unsent (half_after h room).buffer o) ≡ true)
    parts o waits = and_parts (is_none h.reset) (is_lost (half_after h room).buffer o || is_unsent (half_after h room).buffer o) waits

    fins : fin_waits (record (half_after h room) { place = place }) ≡ true → (is_none h.reset ≡ true) × ((h.end_waits && not (reaches_end h (sent_end h.buffer room))) ≡ true)
    fins waits = and_parts (is_none h.reset) (h.end_waits && not (reaches_end h (sent_end h.buffer room))) waits

-- it has a place in the queue behind that, or none
by_turned : (P : SendHalf → Type 0) (fair : Bool) (q : Queue) (id : ℕ) (h : SendHalf) → ((place : Option Place) → P (record h { place = place })) → P (turned fair q id h).half
by_turned P fair q id h each = cond_both {A = Queued} (fair && has_pending h) (turned_at h.place q id h) (requeued q id h) (λ x. P x.half) (λ e. again h.place) (λ e. stays h.place (has_pending h))
  where
    again : (o : Option Place) → P (turned_at o q id h).half
    again None = each (Some (rank_of h.priority, q.next))
    again (Some p) = each (Some (rank_of h.priority, (after_remove q p).next))

    stays : (o : Option Place) (b : Bool) → P (requeued_at o b q id h).half
    stays None true = each (Some (rank_of h.priority, q.next))
    stays None false = each None
    stays (Some p) true = each (Some p)
    stays (Some p) false = each None

-- ---- a draft

-- so it is of all halves, by the frames of a draft
abbrev AllRid : Draft → Type 0
AllRid d = (id : ℕ) (h : SendHalf) → at d.end.streams.sending.halves.live id ≡ Some h → Rid d.frames id h

-- so it is of a half, if there is one
abbrev RidOf : List FrameValue → ℕ → Option SendHalf → Type 0
RidOf fs id o = (h : SendHalf) → o ≡ Some h → Rid fs id h

-- a frame that goes of what waits beside the bytes of streams leaves each half, but for which limit
-- was said on it
told_rids : (f : FrameValue) (fs : List FrameValue) (s : StreamsState) (id : ℕ) → RidOf fs id (at s.sending.halves.live id) → RidOf fs id (at (frame_told f s).sending.halves.live id)
told_rids f fs s id i = told_half (RidOf fs id) said f s id i
  where
    said : (h : SendHalf) (limit : ℕ) → RidOf fs id (Some h) → RidOf fs id (Some (record h { said = Some limit }))
    said h limit was g is = (let i = was h refl in subst (λ (x : SendHalf). Rid fs id x) (same_some is) (record { bytes = i.bytes; fin = i.fin }))
      where
        same_some : {a b : SendHalf} → Some a ≡ Some b → a ≡ b
        same_some e = cc

no_stream : (kind : ControlKind) (g : FrameValue) (f : StreamValue) → kind_of g ≡ Some kind → stream f ≡ g → ⊥
no_stream kind g f is same = let clash : ◌≡◌ {A = Option ControlKind} None (Some kind) = ap kind_of same ∙ is in cc

-- the frame of a half goes
half_rids : (fair : Bool) (fs : List FrameValue) (s : StreamsState) (id room : ℕ) (h : SendHalf) → at s.sending.halves.live id ≡ Some h → ((j : ℕ) (g : SendHalf) → at s.sending.halves.live j ≡ Some g → Rid fs j g) → (j : ℕ) (g : SendHalf)
    → at (after_frame_sent fair s id h room).sending.halves.live j ≡ Some g → Rid (fs ++ stream (frame_of id h room) ∷ []) j g
half_rids fair fs s id room h found i j g there = elim (cases_eq j id) [
  | inl same ↦ subst (λ (k : ℕ). Rid (fs ++ stream (frame_of id h room) ∷ []) k g) (sym same) (subst (λ (x : SendHalf). Rid (fs ++ stream (frame_of id h room) ∷ []) id x) (here same)
      (by_turned (λ (x : SendHalf). Rid (fs ++ stream (frame_of id h room) ∷ []) id x) fair s.sending.queue id (half_after h room) (λ place. rid_went fs id room h place (i id h found))))
  | inr other ↦ rid_more fs (stream (frame_of id h room)) j g (λ f is of_it. other (sym of_it ∙ ap (λ (x : StreamValue). x.id) (same_frame f (frame_of id h room) is))) (i j g (sym (half-apart s.side s.sending.halves id new j other) ∙ there))
]
  where
    new : SendHalf
    new = (turned fair s.sending.queue id (half_after h room)).half

    here : j ≡ id → new ≡ g
    here same = same_half new g (at (with_half s.side s.sending.halves id new).live id) (at-half s.side s.sending.halves id new) (ap (λ (x : ℕ). at (with_half s.side s.sending.halves id new).live x) (sym same) ∙ there)

draft_rids : (leaving : Leaving) (e : End) → MayLeave leaving e → AllRid (draft_as leaving e)
draft_rids leaving e may = by_leave AllRid keep leaving e may (λ id h there. record { bytes = λ f among same o from below waits. among; fin = λ f among same ends waits. among })
  where
    keep : Writing AllRid
    keep (puts.drops kind) d may i = i
    keep (puts.control kind f) d may i = λ id h there. rid_more d.frames f id h (λ g same of_it. no_stream kind f g may.of_kind same) (told_rids f d.frames d.end.streams id (i id) h there)
    keep (puts.stream id h room) d (found, first, some, is, more) i = half_rids d.end.transport.send_fairness d.frames d.end.streams id room h found i
    keep (puts.message m ms) d may i = λ id h there. rid_more d.frames (datagram m) id h (λ g same of_it. cc) (i id h there)
    keep puts.ping d may i = λ id h there. rid_more d.frames ping id h (λ g same of_it. cc) (i id h there)
    keep puts.immediate d may i = λ id h there. rid_more d.frames immediate_ack id h (λ g same of_it. cc) (i id h there)
    keep puts.request d may i = λ id h there. rid_more d.frames (ack_frequency (request_of d.end)) id h (λ g same of_it. cc) (i id h there)
    keep (puts.connection_close c) d may i = λ id h there. rid_more d.frames (connection_close c) id h (λ g same of_it. cc) (i id h there)
    keep (puts.application_close c) d may i = λ id h there. rid_more d.frames (application_close c) id h (λ g same of_it. cc) (i id h there)
    keep (puts.probes size) d may i = λ id h there. rid_more d.frames ping id h (λ g same of_it. cc) (i id h there)
    keep (puts.challenge word) d may i = λ id h there. rid_more d.frames (challenge_frame word) id h (λ g same of_it. cc) (i id h there)
    keep (puts.response r) d may i = λ id h there. rid_more d.frames (response_frame r) id h (λ g same of_it. cc) (i id h there)
    keep puts.ack d may i = λ id h there. rid_more d.frames (ack (ack_of d.end)) id h (λ g same of_it. cc) (i id h there)

-- ---- a poll

-- what these datagrams bear waits no more at an end
abbrev Goes : List Sent → End → Type 0
Goes ss e = ((id o : ℕ) → HoldsOffset ss id o → on_half (byte_waits o) (at e.streams.sending.halves.live id) ≡ true → ⊥) × ((id : ℕ) → HoldsEnd ss id → on_half fin_waits (at e.streams.sending.halves.live id) ≡ true → ⊥)

-- a half that passes a test
half_found : (test : SendHalf → Bool) (o : Option SendHalf) → on_half test o ≡ true → (h : SendHalf) × (o ≡ Some h) × (test h ≡ true)
half_found test None is = cc
half_found test (Some h) is = (h, refl, is)

-- padding has no STREAM frame
no_padding : (f : StreamValue) (count : ℕ) → In (stream f) (replicate count padding) → ⊥
no_padding f zero i = i
no_padding f (suc count) (inl is) = cc
no_padding f (suc count) (inr i) = no_padding f count i

unpadded : (f : StreamValue) (fs : List FrameValue) (count : ℕ) → In (stream f) (fs ++ replicate count padding) → In (stream f) fs
unpadded f fs count i = elim (in_append (stream f) fs (replicate count padding) i) [ inl old ↦ old | inr new ↦ absurd (no_padding f count new) ]

drafted : (e : End) (now : ℕ) (s : Sent) (f : StreamValue) → In s (sent_as e now (draft_at e now) ∷ []) → In (stream f) s.frames → In (stream f) (draft_at e now).frames
drafted e now s f (inl is) carried = unpadded f (draft_at e now).frames (zeros_behind (draft_at e now)) (subst (λ (u : Sent). In (stream f) u.frames) is carried)
drafted e now s f (inr none) carried = absurd none

draft_goes : (e : End) (now : ℕ) → Goes (sent_as e now (draft_at e now) ∷ []) (draft_at e now).end
draft_goes e now = (
  (λ id o there waits. (let found = half_found (byte_waits o) (at (draft_at e now).end.streams.sending.halves.live id) waits in
      (all id found.0 found.1).bytes there.frame (drafted e now there.sent there.frame there.among there.carried) there.of_stream o there.from there.below found.2)),
  (λ id there waits. (let found = half_found fin_waits (at (draft_at e now).end.streams.sending.halves.live id) waits in
      (all id found.0 found.1).fin there.frame (drafted e now there.sent there.frame there.among there.carried) there.of_stream there.fin found.2)),
)
  where
    all : AllRid (draft_at e now)
    all = draft_rids (ready_at e now).leaving (ready_at e now).end (may_leave_at e now)

pub polled_goes : (p : Policy) (e : End) (now : ℕ) → (polled p e now).end.closing.state ≡ states.Open → Goes (sent_if (gave (answers.Poll (polled p e now).answer)) (sent_by p e now)) (polled p e now).end
polled_goes p e now = by_sends p e now (λ (q : Polled) (ss : List Sent). q.end.closing.state ≡ states.Open → Goes ss q.end) (record {
  silent = λ opened. ((λ id o there waits. there.among), (λ id there waits. there.among));
  failed = λ opened. ((λ id o there waits. there.among), (λ id there waits. there.among));
  nothing = λ is none opened. ((λ id o there waits. there.among), (λ id there waits. there.among));
  repeats = λ is. ((λ opened. let clash : states.Closing ≡ states.Open = sym is ∙ opened in cc), λ f goes opened. let clash : states.Closing ≡ states.Open = sym is ∙ opened in cc);
  closes = λ reason is bound. ((λ opened. cc), λ f goes opened. cc);
  gives = λ is may some. by_going (λ (x : End). x.closing.state ≡ states.Open → Goes (sent_as e now (draft_at e now) ∷ []) x) p (draft_at e now) (λ pacing opened. draft_goes e now);
})
