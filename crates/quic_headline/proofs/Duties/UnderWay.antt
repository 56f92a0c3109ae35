-- What of an end's streams is in flight stands in a packet that it tracks: each call keeps that.
use Rattle.std.proofs.Common.{◌≡◌, ℕ, Bool, true, false, not, List, [], ◌∷◌, ◌++◌, Option, Some, None, refl, sym, ap, ◌∙◌, subst, ◌⊎◌, inl, inr, length}
use Rattle.std.proofs.lemmas.Bool.{or_parts}
use Rattle.quic_wire.specs.Value.{FrameValue, AckValue, stream, reset_stream, stop_sending, max_data, max_stream_data, max_streams, asks}
use Rattle.quic_send_buffer.specs.declared.stream_meta.StreamMeta.{StreamMeta}
use Rattle.quic_streams_parts.specs.Table.{Table, at, put}
use Rattle.quic_streams_parts.specs.SendHalf.{SendHalf, frame_of, meta_of, half_after}
use Rattle.quic_streams_state.specs.declared.state.StreamsState.{StreamsState}
use Rattle.quic_streams_state.specs.Frames.{after_frame_sent}
use Rattle.quic_streams_laws.specs.KeepingLaws.{by_stream, by_reset_frame, by_stop_sending, by_max_data, by_max_stream_data, by_max_streams, by_reset_acked, by_polled, by_frame as by_half_frame}
use Rattle.quic_streams_laws.specs.QuietLaws.{by_told}
use Rattle.quic_streams_laws.specs.Written.{Wrote}
use Rattle.quic_streams_laws.specs.WrittenHalves.{stopped_holds, limited_holds, polled_holds}
use Rattle.quic_machine.specs.declared.run.Call.{Call}
use Rattle.quic_machine.specs.declared.run.Answer.{Answer}
use Rattle.quic_machine.specs.Policy.{Policy}
use Rattle.quic_machine.specs.Closing.{ticked}
use Rattle.quic_machine.specs.Tracking.{Tracking, TrackedPacket, Carried, dir_named, streams_in, without_record, names, acked_by, not_acked_by, is_lost, lost_by, kept_by}
use Rattle.quic_machine.specs.End.{End, with_closing, streams_at, number_of, closed_by}
use Rattle.quic_machine.specs.Calls.{is_open}
use Rattle.quic_machine.specs.StreamCalls.{is_on_streams}
use Rattle.quic_machine.specs.Acked.{without_known, resets_acked, stream_acked, streams_acked, packet_acked, packets_acked, stream_lost, streams_lost, carried_lost, packets_lost, verdict, losses_detected, measured, sampled, without_acked, after_named, losses_taken, request_acked}
use Rattle.quic_machine.specs.Receive.{is_above, names_ungiven, take_frame, Outcome}
use Rattle.quic_machine.specs.Poll.{Polled, Draft, asking, packet_of, tracked, polled, goes, draft_as, Leaving}
use Rattle.quic_machine.specs.DraftLaws.{Writing, by_leave, MayLeave}
use Rattle.quic_machine.specs.Puts as puts
use Rattle.quic_machine.specs.PollCases.{ready_at, ready_leaves, draft_at, by_poll_to, composes, may_leave_at}
use Rattle.quic_machine.specs.FrameCases.{OnStreams, named, ack_taken, begun, passed, resets_acked_keep, frames_leave, by_marks, apart_leaves}
use Rattle.quic_machine.specs.CallCases.{is_delivery, by_call, by_done}
use Rattle.quic_machine.specs.LeaveCases.{by_expired, by_event}
use Rattle.quic_machine.specs.Machine.{IsAnswer, after_call}
use Rattle.quic_headline.specs.Runs.{Intake, In}
use Rattle.quic_headline.specs.Duties.{Duty, AnyIn, Carries}
use Rattle.quic_headline.specs.Observer.{Sent}
use Rattle.quic_headline.proofs.Packets.Searches.{by_losses}
use Rattle.quic_headline.proofs.Packets.Invariant.{AreTracked, carried_streams}
use Rattle.quic_headline.proofs.Packets.Ascending.{Ascends}
use Rattle.quic_headline.proofs.Packets.Probes.{by_ready, ready_tracked, by_going}
use Rattle.quic_headline.proofs.Packets.Given.{draft_number}
use Rattle.quic_headline.proofs.Packets.Delivered.{Arrivals, arrived}
use Rattle.quic_headline.proofs.Packets.Named.{in_filter, by_frame, frame_fewer}
use Rattle.quic_headline.proofs.Halves.Small.{IsSmallLimit}
use Rattle.quic_headline.proofs.Halves.Words.{call_with}
use Rattle.quic_headline.proofs.Halves.WordsCalls.{done_none, call_on_is}
use Rattle.quic_headline.proofs.Halves.Wrote.{done_by}
use Rattle.quic_headline.proofs.Duties.Flies.{flies_more, flies_went}
use Rattle.quic_headline.proofs.Duties.InStreams.{AllFly, all_more, fly_kept, fly_calls, fly_acked, fly_lost}
use Rattle.quic_headline.proofs.Duties.Carrier.{any_either, any_front, any_behind, any_put, any_sent, IsNew, ready_new, all_leave}
use Rattle.quic_headline.proofs.Duties.Tail.{AskBefore, Quiet, tail_quiet, ready_before}
use Rattle.quic_machine.specs.Sizes.{search_acked}
use Rattle.quic_headline.proofs.Packets.Closes.{by_closes}
use Rattle.quic_headline.proofs.Packets.Apart.{by_waits, by_next_id}
use Rattle.quic_headline.proofs.Packets.Moved.{by_migrated}

-- ---- where it stands

-- in these STREAM frames
abbrev InMetas : List StreamMeta → Duty → Type 0
InMetas metas u = AnyIn (λ m. Carries m u) metas

-- in the STREAM frames that a packet carried
abbrev InPacket : ℕ × TrackedPacket → Duty → Type 0
InPacket p u = InMetas p.1.carried.stream_frames u

-- in one of these packets
abbrev pub InPackets : Table TrackedPacket → Duty → Type 0
InPackets packets u = AnyIn (λ p. InPacket p u) packets

-- what is in flight of an end's streams stands in a packet that it tracks
abbrev pub Fly : (ℕ → Wrote) → End → Type 0
Fly done e = AllFly (InPackets e.tracking.packets) done e.streams

-- ---- frames that are acknowledged or lost

module _ (done : ℕ → Wrote) where
  -- a STREAM frame had the end only where there is one
  abbrev Ends : StreamMeta → Type 0
  Ends m = m.fin ≡ true → (done m.id).ended ≡ true

  -- so it was of those that a packet carried
  abbrev pub CarriesEnds : Carried → Type 0
  CarriesEnds c = (m : StreamMeta) → In m c.stream_frames → Ends m

  abbrev EndsIn : ℕ × TrackedPacket → Type 0
  EndsIn p = CarriesEnds p.1.carried

  -- what is in flight stands in F
  abbrev Stand : (Duty → Type 0) → End → Type 0
  Stand F e = AllFly F done e.streams

  stand_more : (F G : Duty → Type 0) (e : End) → ((u : Duty) → F u → G u) → Stand F e → Stand G e
  stand_more F G e wider i = all_more F G done e.streams wider i

  -- an acknowledged frame
  frame_acked : (F : Duty → Type 0) (m : StreamMeta) (e : End) → Ends m → Stand (λ u. Carries m u ⊎ F u) e → Stand F (stream_acked m e)
  frame_acked F m e ends i = fly_acked F done m e.streams e.waiting.frames ends i

  -- a lost frame
  frame_lost : (F : Duty → Type 0) (m : StreamMeta) (e : End) → Ends m → Stand (λ u. Carries m u ⊎ F u) e → Stand F (stream_lost m e)
  frame_lost F m e ends i = fly_lost F done m e.streams e.waiting.frames ends i

  -- numbers that the peer knows of
  known_stands : (F : Duty → Type 0) (o : Option ℕ) (e : End) → Stand F e → Stand F (without_known o e)
  known_stands F None e i = i
  known_stands F (Some n) e i = i

  -- RESET_STREAM frames are acknowledged
  resets_stand : (F : Duty → Type 0) (rs : List (ℕ × ℕ)) (e : End) → Stand F e → Stand F (resets_acked rs e)
  resets_stand F = resets_acked_keep (Stand F) (λ id e i. by_reset_acked (AllFly F done) (fly_kept F done) e.streams e.waiting.frames id i)

  -- an acknowledged packet
  one_acked : (F : Duty → Type 0) (p : ℕ × TrackedPacket) (e : End) → EndsIn p → Stand (λ u. InPacket p u ⊎ F u) e → Stand F (packet_acked p e)
  one_acked F p e ends i =
      let c : Carried = p.1.carried in
      let G : Duty → Type 0 = λ u. InPacket p u ⊎ F u in
      let asked : End = request_acked p.0 (search_acked p e) in
      all_leave End Duty StreamMeta Carries Ends Stand stand_more stream_acked frame_acked streams_acked (λ x. refl) (λ m ms x. refl) F c.stream_frames (resets_acked c.retransmits.reset_stream (without_known c.largest_acked asked)) ends
      (resets_stand G c.retransmits.reset_stream (without_known c.largest_acked asked) (known_stands G c.largest_acked asked i))

  -- acknowledged packets
  packets_stand : (F : Duty → Type 0) (ps : Table TrackedPacket) (e : End) → ((p : ℕ × TrackedPacket) → In p ps → EndsIn p) → Stand (λ u. InPackets ps u ⊎ F u) e → Stand F (packets_acked ps e)
  packets_stand = all_leave End Duty (ℕ × TrackedPacket) InPacket EndsIn Stand stand_more packet_acked one_acked packets_acked (λ x. refl) (λ p ps x. refl)

  -- a lost packet
  one_lost : (F : Duty → Type 0) (p : ℕ × TrackedPacket) (e : End) → EndsIn p → Stand (λ u. InPacket p u ⊎ F u) e → Stand F (carried_lost p.1.carried e)
  one_lost F p e ends i = all_leave End Duty StreamMeta Carries Ends Stand stand_more stream_lost frame_lost streams_lost (λ x. refl) (λ m ms x. refl) F p.1.carried.stream_frames e ends i

  -- lost packets
  losses_stand : (F : Duty → Type 0) (ps : Table TrackedPacket) (e : End) → ((p : ℕ × TrackedPacket) → In p ps → EndsIn p) → Stand (λ u. InPackets ps u ⊎ F u) e → Stand F (packets_lost ps e)
  losses_stand = all_leave End Duty (ℕ × TrackedPacket) InPacket EndsIn Stand stand_more (λ p. carried_lost p.1.carried) one_lost packets_lost (λ x. refl) (λ p ps x. refl)

  -- ---- an ACK frame

  -- the tracked packets had ends only where there are
  abbrev pub TrackedEnds : Table TrackedPacket → Type 0
  TrackedEnds packets = (p : ℕ × TrackedPacket) → In p packets → EndsIn p

  -- losses that are detected
  detected_fly : (e : End) → TrackedEnds e.tracking.packets → Fly done e → Fly done (losses_detected e)
  detected_fly e ends i =
      let packets : Table TrackedPacket = e.tracking.packets in
      let lost : Table TrackedPacket = lost_by (verdict e) packets in
      let kept : Duty → Type 0 = InPackets (kept_by (verdict e) packets) in
      by_losses (Fly done) e (λ discovery queues. losses_stand kept lost e (λ q j. ends q (in_filter (is_lost (verdict e)) q packets j))
      (stand_more (InPackets packets) (λ u. InPackets lost u ⊎ kept u) e (λ u s. any_either (λ q. InPacket q u) (is_lost (verdict e)) packets s) i))

  -- a round trip is measured, if one is
  sampled_fly : (o : Option TrackedPacket) (a : AckValue) (e : End) → TrackedEnds e.tracking.packets × Fly done e → TrackedEnds (sampled o a e).tracking.packets × Fly done (sampled o a e)
  sampled_fly None a e i = i
  sampled_fly (Some p) a e i = i

  -- an ACK frame that names these packets
  named_fly : (ps : Table TrackedPacket) (rises : Bool) (a : AckValue) (e : End) → acked_by a e.tracking.packets ≡ ps → TrackedEnds e.tracking.packets → Fly done e → Fly done (after_named ps rises a e)
  named_fly [] rises a e is ends i = i
  named_fly (p ∷ ps) rises a e is ends i =
      let packets : Table TrackedPacket = e.tracking.packets in
      let left : Duty → Type 0 = InPackets (not_acked_by a packets) in
      let all : Stand (λ u. InPackets (p ∷ ps) u ⊎ left u) e =
      stand_more (InPackets packets) (λ u. InPackets (p ∷ ps) u ⊎ left u) e (λ u s. elim (any_either (λ q. InPacket q u) (λ q. names a q.0) packets s) [
        | inl acked ↦ inl (subst (λ (t : Table TrackedPacket). InPackets t u) is acked)
        | inr other ↦ inr other
      ]) i in
      let acked : Fly done (without_acked (p ∷ ps) a e) = packets_stand left (p ∷ ps) e (λ q j. ends q (in_filter (λ r. names a r.0) q packets (subst (λ (t : Table TrackedPacket). In q t) (sym is) j))) all in
      let few : TrackedEnds (without_acked (p ∷ ps) a e).tracking.packets = (λ q j. ends q (in_filter (λ r. not (names a r.0)) q packets j)) in
      let o : Option TrackedPacket = measured rises a (p ∷ ps) in
      let timed = sampled_fly o a (without_acked (p ∷ ps) a e) (few, acked) in
      by_marks rises (length (p ∷ ps)) a (losses_taken (p ∷ ps) rises a e) (Fly done) (λ m marking. detected_fly (sampled o a (without_acked (p ∷ ps) a e)) timed.0 timed.1)

  -- ---- frames on streams

  -- the halves change so that what is in flight stands where it stood
  frame_stands : (F : Duty → Type 0) (f : FrameValue) (e : End) → OnStreams f → IsSmallLimit f → Stand F e → Stand F (take_frame f e).end
  frame_stands F (stream f) e on small i = by_stream (AllFly F done) (fly_kept F done) e.streams e.waiting.frames f (λ h is u. tt) i
  frame_stands F (reset_stream f) e on small i = by_reset_frame (AllFly F done) (fly_kept F done) e.streams e.waiting.frames f (λ h is u. tt) i
  frame_stands F (stop_sending f) e on small i = by_stop_sending (AllFly F done) (fly_kept F done) e.streams f (λ h is x. (stopped_holds (done f.id) h x.0 f.code, record { offsets = x.1.offsets; fin = x.1.fin })) i
  frame_stands F (max_data limit) e on small i = by_max_data (AllFly F done) (fly_kept F done) e.streams limit i
  frame_stands F (max_stream_data f) e on small i =
      by_max_stream_data (AllFly F done) (fly_kept F done) e.streams f.id f.limit (λ h is above x. (limited_holds (done f.id) h x.0 f.limit above small, record { offsets = x.1.offsets; fin = x.1.fin })) i
  frame_stands F (max_streams f) e on small i = by_max_streams (AllFly F done) (fly_kept F done) (dir_named f.one_way) f.count e.streams i
  frame_stands F f e on small i = absurd on

  -- a frame on streams leaves what is tracked
  frame_tracks : (f : FrameValue) (e : End) → OnStreams f → (take_frame f e).end.tracking ≡ e.tracking
  frame_tracks (stream f) e on = refl
  frame_tracks (reset_stream f) e on = refl
  frame_tracks (stop_sending f) e on = refl
  frame_tracks (max_data limit) e on = refl
  frame_tracks (max_stream_data f) e on = refl
  frame_tracks (max_streams f) e on = refl
  frame_tracks f e on = absurd on

  -- ---- a delivery

  -- an ACK frame, taken or refused
  ack_fly : (b : Bool) (a : AckValue) (e : End) → TrackedEnds e.tracking.packets → Fly done e → Fly done (ack_taken b a e).end
  ack_fly true a e ends i = i
  ack_fly false a e ends i = named_fly (acked_by a e.tracking.packets) (is_above e.numbers.largest_acked a.largest) a (named a e) refl ends i

  -- any frame
  frame_fly : (f : FrameValue) (e : End) → IsSmallLimit f → TrackedEnds e.tracking.packets → Fly done e → Fly done (take_frame f e).end
  frame_fly f e small ends i = by_frame f e (λ g p. Fly done p.end) (λ a is. ack_fly (names_ungiven a e) a e ends i)
      (λ other on. subst (λ (t : Tracking). AllFly (InPackets t.packets) done (take_frame f e).end.streams) (sym (frame_tracks f e on)) (frame_stands (InPackets e.tracking.packets) f e on small i))
      (λ other m same. subst (Fly done) (sym same) i)
      (λ other apart. apart_leaves (Fly done) f e apart (λ c. i) (λ c most. i))

  -- over the frames of a packet
  record Going (left : List FrameValue) (e : End) : Type 0 where
    small : (f : FrameValue) → In f left → IsSmallLimit f
    ends : TrackedEnds e.tracking.packets
    fly : Fly done e

  frames_fly : (fs : List FrameValue) (e : End) → ((f : FrameValue) → In f fs → IsSmallLimit f) → TrackedEnds e.tracking.packets → Fly done e → Fly done (passed fs e).end
  frames_fly fs e small ends i = (frames_leave Going (λ f left x g. record {
    small = λ h j. g.small h (inr j);
    ends = λ p j. g.ends p (frame_fewer x f x (λ m u k. k) p.0 p.1 j);
    fly = frame_fly f x (g.small f (inl refl)) g.ends g.fly;
  }) fs e (record { small = small; ends = ends; fly = i })).1.fly

  -- each case of a delivery
  pub arrivals_fly : (e : End) (now n : ℕ) (frames taken : List FrameValue) (came : Intake) → ((f : FrameValue) → In f taken → IsSmallLimit f) → TrackedEnds e.tracking.packets → Fly done e → Arrivals e now n frames taken came (λ (o : Outcome) (j : Intake). Fly done o.end)
  arrivals_fly e now n frames taken came small ends i = record { ignored = λ reason. i; noted = λ state reason. i; takes = λ words state new none urged mark. after; moves = λ p o same remote x opened j. by_migrated (Fly done) p o remote x (λ c. j) (λ c most. j); drains = λ words state new close is. after; refuses = λ words state new f is. after; exhausts = λ state. i }
    where
      after : Fly done (arrived e now n taken).end
      after = frames_fly taken (begun e now n) small ends i

-- ---- a poll

-- where what is in flight behind a draft stands: in one of its frames, or where it stood
abbrev InDraft : (Duty → Type 0) → List FrameValue → Duty → Type 0
InDraft F frames u = InMetas (streams_in frames) u ⊎ F u

-- the STREAM frames of frames, one behind another
metas_more : (fs gs : List FrameValue) → streams_in (fs ++ gs) ≡ streams_in fs ++ streams_in gs
metas_more [] gs = refl
metas_more (stream f ∷ fs) gs = ap (λ (ms : List StreamMeta). meta_of f ∷ ms) (metas_more fs gs)
metas_more (f ∷ fs) gs = metas_more fs gs

-- one frame more
drafted_more : (F : Duty → Type 0) (fs gs : List FrameValue) (u : Duty) → InDraft F fs u → InDraft F (fs ++ gs) u
drafted_more F fs gs u (inl i) = inl (subst (λ (ms : List StreamMeta). InMetas ms u) (sym (metas_more fs gs)) (any_front (λ m. Carries m u) (streams_in fs) (streams_in gs) i))
drafted_more F fs gs u (inr f) = inr f

-- what it carries
drafted_new : (F : Duty → Type 0) (fs gs : List FrameValue) (u : Duty) → InMetas (streams_in gs) u → InDraft F (fs ++ gs) u
drafted_new F fs gs u i = inl (subst (λ (ms : List StreamMeta). InMetas ms u) (sym (metas_more fs gs)) (any_behind (λ m. Carries m u) (streams_in fs) (streams_in gs) i))

module _ (done : ℕ → Wrote) (F : Duty → Type 0) where
  abbrev Drafted : Draft → Type 0
  Drafted d = AllFly (InDraft F d.frames) done d.end.streams

  -- other streams, with a frame more
  more_drafted : (d : Draft) (gs : List FrameValue) (s : StreamsState) → AllFly (InDraft F d.frames) done s → AllFly (InDraft F (d.frames ++ gs)) done s
  more_drafted d gs s i = all_more (InDraft F d.frames) (InDraft F (d.frames ++ gs)) done s (drafted_more F d.frames gs) i

  -- the frame of a half goes
  half_drafted : (d : Draft) (fair : Bool) (id room : ℕ) (h : SendHalf) → at d.end.streams.sending.halves.live id ≡ Some h → Drafted d → AllFly (InDraft F (d.frames ++ stream (frame_of id h room) ∷ [])) done (after_frame_sent fair d.end.streams id h room)
  half_drafted d fair id room h is i =
      let own : List FrameValue = stream (frame_of id h room) ∷ [] in
      let G : Duty → Type 0 = InDraft F (d.frames ++ own) in
      by_half_frame (AllFly G done) (fly_kept G done) fair d.end.streams id room h is
      (λ x. (polled_holds (done id) h x.0 room, flies_more (λ u. Carries (meta_of (frame_of id h room)) u ⊎ G u) G id (half_after h room) (λ u o. elim o [ inl c ↦ drafted_new F d.frames own u (inl c) | inr g ↦ g ]) (flies_went G (done id) id h room x.0 x.1)))
      (more_drafted d own d.end.streams i)

  -- whichever frames go
  draft_drafted : (leaving : Leaving) (e : End) → MayLeave leaving e → AllFly F done e.streams → Drafted (draft_as leaving e)
  draft_drafted leaving e alone i = by_leave Drafted keep leaving e alone (all_more F (InDraft F []) done e.streams (λ u f. inr f) i)
    where
      keep : Writing Drafted
      keep (puts.drops kind) d may b = b
      keep (puts.control kind f) d may b =
          let G : Duty → Type 0 = InDraft F (d.frames ++ f ∷ []) in
          by_told (AllFly G done) (fly_kept G done) f d.end.streams (more_drafted d (f ∷ []) d.end.streams b)
      keep (puts.stream id h room) d (found, first, some, is, counts) b = half_drafted d d.end.transport.send_fairness id room h found b
      keep p d may b = more_drafted d (_ ∷ []) d.end.streams b

-- frames that don't ask have no STREAM frame among them
none_asks : (fs : List FrameValue) (u : Duty) → asking fs ≡ false → InMetas (streams_in fs) u → ⊥
none_asks [] u silent i = i
none_asks (stream f ∷ fs) u silent i = cc
none_asks (f ∷ fs) u silent i = none_asks fs u (or_parts (asks f) (asking fs) silent).1 i

-- nor has a packet of the tail
tail_empty : (sents : List Sent) (q : ℕ × TrackedPacket) → Quiet sents q → (u : Duty) → InPacket q u → ⊥
tail_empty sents q quiet u i = none_asks quiet.sent.frames u quiet.quiet (subst (λ (ms : List StreamMeta). InMetas ms u) (carried_streams q.1.carried quiet.sent.frames quiet.carried) i)

-- a datagram that goes is tracked
given_fly : (done : ℕ → Wrote) (sents : List Sent) (d : Draft) → AreTracked sents d.end.tracking.packets → AskBefore sents d.end.tracking.greatest_asking → IsNew d.end.tracking.packets (number_of d.end) → Drafted done (InPackets d.end.tracking.packets) d → Fly done (tracked d)
given_fly done sents d were before new i =
    let t : Tracking = d.end.tracking in
    all_more (InDraft (InPackets t.packets) d.frames) (InPackets (tracked d).tracking.packets) done d.end.streams
    (λ u o. any_sent (λ p. InPacket p u) t (number_of d.end) (packet_of d) new (λ q j behind. tail_empty sents q (tail_quiet sents t were before q j behind) u) o) i

module _ (done : ℕ → Wrote) (sents : List Sent) (e : End) (now : ℕ) (ascends : Ascends e) (were : AreTracked sents e.tracking.packets) (before : AskBefore sents e.tracking.greatest_asking) (new : IsNew e.tracking.packets (number_of e)) where
  -- where something waits for each probe
  ready_fly : Fly done e → Fly done (ready_at e now).end
  ready_fly i = by_ready (Fly done) e now i (λ ping immediate x j. j) (λ waits x j. j) (λ p among. all_more (InPackets e.tracking.packets) (InPackets (put e.tracking.packets p.0 (without_record p.1))) done e.streams (λ u j.
      elim (any_put (λ q. InPacket q u) ⊥ e.tracking.packets p (without_record p.1) ascends among (λ here. inl here) j) [ inl there ↦ there | inr none ↦ absurd none ]) i) (λ moment pacing discovery x j. j)

  -- after a poll
  polled_fly : (p : Policy) → Fly done e → Fly done (polled p e now).end
  polled_fly p i = by_poll_to p e now (λ (q : Polled). Fly done q.end) (record {
    silent = i;
    failed = i;
    nothing = λ is none. ready_fly i;
    repeats = λ is. by_closes p (with_closing e (ticked e.closing now)) (λ (q : Polled). Fly done q.end) i (λ f goes. i);
    closes = λ reason bound. by_closes p (closed_by reason (ready_at e now).end) (λ (q : Polled). Fly done q.end) (ready_fly i) (λ f goes. ready_fly i);
    gives = λ is may some. by_going (Fly done) p (draft_at e now) (λ pacing. gives some);
  })
    where
      gives : goes (ready_at e now) ≡ true → Fly done (tracked (draft_at e now))
      gives some =
          let leaving : Leaving = (ready_at e now).leaving in
          let r : End = (ready_at e now).end in
          let d : Draft = draft_at e now in
          let alone : MayLeave leaving r = may_leave_at e now in
          let same = composes leaving r alone in
          let tracks : r.tracking ≡ d.end.tracking = sym same.tracking in
          let number : number_of e ≡ number_of d.end = sym (draft_number leaving r alone ∙ ap (λ (x : End). number_of x) (ready_leaves e now)) in
          given_fly done sents d
          (subst (λ (t : Tracking). AreTracked sents t.packets) tracks (ready_tracked sents e now were))
          (subst (λ (t : Tracking). AskBefore sents t.greatest_asking) tracks (ready_before sents e now before))
          (subst (λ (n : ℕ). IsNew d.end.tracking.packets n) number (subst (λ (t : Tracking). IsNew t.packets (number_of e)) tracks (ready_new e now (number_of e) new)))
          (subst (λ (t : Tracking). Drafted done (InPackets t.packets) d) tracks (draft_drafted done (InPackets r.tracking.packets) leaving r alone (ready_fly i)))

-- ---- any call

-- but a delivery
pub call_fly : (done : ℕ → Wrote) (sents : List Sent) (p : Policy) (e : End) (theirs : List (List ℕ)) (call : Call) (a : Answer) → is_delivery call ≡ false → IsAnswer p e theirs call a → Ascends e → AreTracked sents e.tracking.packets → AskBefore sents e.tracking.greatest_asking → IsNew e.tracking.packets (number_of e)
    → TrackedEnds done e.tracking.packets → Fly done e → Fly (done_by call a done) (after_call p e theirs call a)
call_fly done sents p e theirs call a apart is ascends were before new ends i = go (is_on_streams call) refl
  where
    F : Duty → Type 0
    F = InPackets e.tracking.packets

    go : (b : Bool) → is_on_streams call ≡ b → Fly (done_by call a done) (after_call p e theirs call a)
    go true on =
        let c = call_on_is p e theirs call a on in
        subst (Fly (done_by call a done)) (sym c.same) (call_with (AllFly F) (fly_calls F) (is_open e.closing.state) done (streams_at e) i call a (c.answer is))
    go false off = subst (λ (w : ℕ → Wrote). Fly w (after_call p e theirs call a)) (sym (done_none call a done off)) (by_call p e theirs (Fly done) call a (record {
      same = i;
      on_streams = λ on answer. cc;
      on_messages = λ on answer. i;
      pings = i;
      closes = λ reason f now own. i;
      waits = λ now b set. by_waits (Fly done) b (with_closing e (ticked e.closing now)) i i;
      changes_id = λ uses answer. by_next_id (Fly done) e a i (λ c. i) (λ c most. i);
      says_handshake = λ says answer. by_done (Fly done) e a i i;
      times = λ now expiry set. by_expired p.words e now (Fly done) (λ pending tracking timers waits asked runs packets. subst (λ (t : Table TrackedPacket). AllFly (InPackets t) done e.streams) (sym packets) i) (λ pending timers waits asked runs. detected_fly done (with_closing e (ticked e.closing now)) ends i) (λ x j. j) expiry;
      polls = λ now set. polled_fly done sents e now ascends were before new p i;
      hears = λ arrival d set. cc;
      tells = λ asks. by_event e (Fly done) i i (λ told. by_polled (AllFly F done) (fly_kept F done) e.streams i);
    }))
