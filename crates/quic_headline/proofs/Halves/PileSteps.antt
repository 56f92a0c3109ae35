-- What comes and what goes leave a pile of RESET_STREAM and STOP_SENDING: those that wait, and
-- those that tracked packets carried.
use Rattle.std.proofs.Common.{◌≡◌, ℕ, ◌+◌, ◌≤◌, ◌==◌, Bool, true, false, not, cond, List, [], ◌∷◌, ◌++◌, filter, map, Option, Some, None, Ok, refl, sym, ap, subst, inl, inr, arith, length}
use Rattle.std.specs.Prelude.{if◌then◌else◌}
use Rattle.std.specs.Option.{is_some}
use Rattle.std.proofs.lemmas.Bool.{eq-eqb}
use Rattle.std.proofs.lemmas.List.{append_assoc}
use Rattle.quic_wire.specs.Value.{FrameValue, AckValue, StreamValue, ResetStreamValue, StopSendingValue, ack, stream, reset_stream, stop_sending, max_data, max_stream_data, max_streams, datagram}
use Rattle.quic_send_buffer.specs.declared.stream_meta.StreamMeta.{StreamMeta}
use Rattle.quic_streams_parts.specs.declared.answers.Breach.{Breach}
use Rattle.quic_streams_parts.specs.Table.{Table}
use Rattle.quic_streams_parts.specs.SendHalf.{SendHalf, is_acked, half_acked}
use Rattle.quic_streams_parts.specs.RecvHalf.{RecvHalf}
use Rattle.quic_retransmits.specs.Retransmits.{Retransmits}
use Rattle.quic_streams_state.specs.declared.state.StreamsState.{StreamsState}
use Rattle.quic_streams_state.specs.State.{Streams}
use Rattle.quic_streams_state.specs.Taking as taking
use Rattle.quic_streams_state.specs.Acked.{sent_half, acked_at, after_stream_acked, reset_acked_at, after_reset_acked}
use Rattle.quic_streams_laws.specs.KeepingLaws.{by_stream, by_reset_frame, by_stop_sending, by_max_data_where, by_max_stream_data, by_max_streams, by_stream_lost, by_stream_acked_where, by_reset_acked_where}
use Rattle.quic_machine.specs.declared.run.Answer.{Answer}
use Rattle.quic_machine.specs.Tracking.{TrackedPacket, Carried, dir_named, acked_by, not_acked_by, is_lost, lost_by, kept_by}
use Rattle.quic_machine.specs.End.{End, with_streams, with_told, with_marking, closed_by}
use Rattle.quic_machine.specs.IdFrames.{drawn, end_on_next_id}
use Rattle.quic_machine.specs.Acked.{without_known, reset_acked, resets_acked, stream_acked, streams_acked, packet_acked, packets_acked, stream_lost, streams_lost, again, carried_lost, packets_lost, verdict, losses_detected, measured, sampled, without_acked, after_named, losses_taken, request_acked}
use Rattle.quic_machine.specs.Receive.{Outcome, reason_of, is_above, names_ungiven, take_frame, asks_in, after_taken, drained_at}
use Rattle.quic_machine.specs.FrameCases.{OnStreams, IsApart, named, ack_taken, begun, passed, message_leaves, frames_leave, by_marks, apart_leaves}
use Rattle.quic_headline.specs.Runs.{In, Intake, names}
use Rattle.quic_headline.proofs.Packets.Apart.{by_next_id}
use Rattle.quic_headline.proofs.Packets.Delivered.{Arrivals}
use Rattle.quic_headline.proofs.Packets.Searches.{by_losses}
use Rattle.quic_headline.proofs.Packets.MayGo.{WasReset}
use Rattle.quic_headline.proofs.Packets.Named.{in_filter}
use Rattle.quic_headline.proofs.Places.Told.{in_left, in_right, in_append}
use Rattle.quic_headline.proofs.Halves.InUse.{InUse, in_use_kept, acked_free}
use Rattle.quic_headline.proofs.Halves.Small.{IsSmallNumber}
use Rattle.quic_headline.proofs.Halves.KnownIds.{AreWritten, Left, frame_written, frames_written, next_id_written}
use Rattle.quic_headline.proofs.Halves.ToldIds.{drawn_else, apart_else, next_else}
use Rattle.quic_headline.proofs.Halves.Pile.{times, times_append, times_in, IsPile, part_of, NothingElse, SamePile, else_same, resets_of, stops_of, times_split, resets_among, stops_among}
use Rattle.quic_machine.specs.Sizes.{search_acked}
use Rattle.quic_machine.specs.Migration.{migrated}
use Rattle.quic_machine.specs.Policy.{Policy}
use Rattle.quic_headline.proofs.Packets.Probes.{with_asked}
use Rattle.quic_packet.specs.Datagram.{Opening}
use Rattle.quic_headline.proofs.Packets.Moving.{moving_keeps}

-- ---- an end

-- what waits at an end, and these besides, are a pile; nothing else waits
pub record Holds (e : End) (resets : List (ℕ × ℕ)) (stops : List StopSendingValue) : Type 0 where
  pub pile : IsPile e.streams.sending.halves.live (e.waiting.frames.reset_stream ++ resets) (e.waiting.frames.stop_sending ++ stops)
  pub others : NothingElse e.waiting.frames

-- with fewer besides
pub holds_part : (e : End) (resets some : List (ℕ × ℕ)) (stops few : List StopSendingValue) → ((id : ℕ) → times id some ≤ times id resets) → ((r : ℕ × ℕ) → In r some → In r resets) → ((s : StopSendingValue) → In s few → In s stops) → Holds e resets stops → Holds e some few
holds_part e resets some stops few fewer among less h = record {
  pile = part_of e.streams.sending.halves.live (w.reset_stream ++ resets) (w.reset_stream ++ some) (w.stop_sending ++ stops) (w.stop_sending ++ few)
      (λ id. (let all = times_append id w.reset_stream resets in let part = times_append id w.reset_stream some in let less_here = fewer id in omega arith))
      (λ r i. elim (in_append r w.reset_stream some i) [ inl here ↦ in_left r w.reset_stream resets here | inr more ↦ in_right r w.reset_stream resets (among r more) ])
      (λ s i. elim (in_append s w.stop_sending few i) [ inl here ↦ in_left s w.stop_sending stops here | inr more ↦ in_right s w.stop_sending stops (less s more) ])
      h.pile;
  others = h.others;
}
  where
    w : Retransmits
    w = e.waiting.frames

-- other streams, in which these are in use still, and where the same waits
holds_on : (e : End) (t : Streams) (resets : List (ℕ × ℕ)) (stops : List StopSendingValue) → ((r : ℕ × ℕ) → In r (e.waiting.frames.reset_stream ++ resets) → WasReset e.streams.sending.halves.live r → WasReset t.state.sending.halves.live r) → SamePile e.waiting.frames t.pending → Holds e resets stops
    → Holds (with_streams e t) resets stops
holds_on e t resets stops kept same h = record {
  pile = rw (same.resets, same.stops) (record { once = h.pile.once; reset = λ r i. kept r i (h.pile.reset r i); small = h.pile.small });
  others = else_same e.waiting.frames t.pending same h.others;
}

-- ---- what is acknowledged or lost

-- either way
pub both : (p : Retransmits) (b : Bool) (x y : Streams) → SamePile p x.pending → SamePile p y.pending → SamePile p (cond b x y).pending
both p true x y on off = on
both p false x y on off = off

pub same_pile : (p : Retransmits) → SamePile p p
same_pile p = record { resets = refl; stops = refl; ids = refl; retired = refl; requests = refl; done = refl }

pub acked_same : (s : StreamsState) (p : Retransmits) (m : StreamMeta) → SamePile p (after_stream_acked s p m).pending
acked_same s p m = go (sent_half s m.id)
  where
    go : (o : Option SendHalf) → SamePile p (acked_at o s p m).pending
    go None = same_pile p
    go (Some h) = both p (is_some h.reset) _ _ (same_pile p) (both p (is_acked (half_acked h m)) _ _ (record { resets = refl; stops = refl; ids = refl; retired = refl; requests = refl; done = refl }) (same_pile p))

pub reset_acked_same : (s : StreamsState) (p : Retransmits) (id : ℕ) → SamePile p (after_reset_acked s p id).pending
reset_acked_same s p id = go (sent_half s id)
  where
    go : (o : Option SendHalf) → SamePile p (reset_acked_at o s p id).pending
    go None = same_pile p
    go (Some h) = both p (is_some h.reset) _ _ (record { resets = refl; stops = refl; ids = refl; retired = refl; requests = refl; done = refl }) (same_pile p)

-- RESET_STREAM of the first besides is acknowledged: the others are of other streams
reset_step : (e : End) (r : ℕ × ℕ) (resets : List (ℕ × ℕ)) (stops : List StopSendingValue) → Holds e (r ∷ resets) stops → Holds (reset_acked r.0 e) resets stops
reset_step e r resets stops h = holds_on e (after_reset_acked e.streams e.waiting.frames r.0) resets stops
    (λ q i u. by_reset_acked_where (InUse q) (in_use_kept q) e.streams e.waiting.frames r.0 (λ half is was some same. apart q i same) u)
    (reset_acked_same e.streams e.waiting.frames r.0)
    (holds_part e (r ∷ resets) resets stops stops (λ id. omega arith) (λ q i. inr i) (λ s i. i) h)
  where
    apart : (q : ℕ × ℕ) → In q (e.waiting.frames.reset_stream ++ resets) → r.0 ≡ q.0 → ⊥
    apart q i same =
        let on : (r.0 == q.0) ≡ true = eq-eqb r.0 q.0 same in
        let once = h.pile.once q.0 in
        let all = times_append q.0 e.waiting.frames.reset_stream (r ∷ resets) in
        let others = times_append q.0 e.waiting.frames.reset_stream resets in
        let there = times_in q (e.waiting.frames.reset_stream ++ resets) i in
        let one : times q.0 (r ∷ resets) ≡ 1 + times q.0 resets = ap (λ (b : Bool). (if b then 1 else 0) + times q.0 resets) on in
        absurd (omega arith)

resets_step : (rs : List (ℕ × ℕ)) (e : End) (resets : List (ℕ × ℕ)) (stops : List StopSendingValue) → Holds e (rs ++ resets) stops → Holds (resets_acked rs e) resets stops
resets_step [] e resets stops h = h
resets_step (r ∷ rs) e resets stops h = resets_step rs (reset_acked r.0 e) resets stops (reset_step e r (rs ++ resets) stops h)

-- STREAM frames are acknowledged
streams_step : (ms : List StreamMeta) (e : End) (resets : List (ℕ × ℕ)) (stops : List StopSendingValue) → Holds e resets stops → Holds (streams_acked ms e) resets stops
streams_step [] e resets stops h = h
streams_step (m ∷ ms) e resets stops h = streams_step ms (stream_acked m e) resets stops (holds_on e (after_stream_acked e.streams e.waiting.frames m) resets stops
    (λ q i u. by_stream_acked_where (InUse q) (in_use_kept q) e.streams e.waiting.frames m (λ half is free some. refl) (λ half is free all. tt) (λ half all some same. acked_free half all some) u)
    (acked_same e.streams e.waiting.frames m) h)

-- what the peer knows of
known_step : (o : Option ℕ) (e : End) (resets : List (ℕ × ℕ)) (stops : List StopSendingValue) → Holds e resets stops → Holds (without_known o e) resets stops
known_step None e resets stops h = h
known_step (Some n) e resets stops h = record { pile = h.pile; others = h.others }

-- packets are acknowledged
packets_step : (ps : Table TrackedPacket) (e : End) (resets : List (ℕ × ℕ)) (stops : List StopSendingValue) → Holds e (resets_of ps ++ resets) (stops_of ps ++ stops) → Holds (packets_acked ps e) resets stops
packets_step [] e resets stops h = h
packets_step (p ∷ ps) e resets stops h =
    let c : Carried = p.1.carried in
    let rest : Holds e (c.retransmits.reset_stream ++ (resets_of ps ++ resets)) (stops_of ps ++ stops) =
    holds_part e ((c.retransmits.reset_stream ++ resets_of ps) ++ resets) (c.retransmits.reset_stream ++ (resets_of ps ++ resets)) ((c.retransmits.stop_sending ++ stops_of ps) ++ stops) (stops_of ps ++ stops)
    (λ id. rw (append_assoc c.retransmits.reset_stream (resets_of ps) resets) (omega arith))
    (λ q i. rw (append_assoc c.retransmits.reset_stream (resets_of ps) resets) i)
    (λ s i. rw (append_assoc c.retransmits.stop_sending (stops_of ps) stops) (in_right s c.retransmits.stop_sending (stops_of ps ++ stops) i)) h in
    let asked : End = request_acked p.0 (search_acked p e) in
    let knows : End = without_known c.largest_acked asked in
    let reset : End = resets_acked c.retransmits.reset_stream knows in
    packets_step ps (packet_acked p e) resets stops (streams_step c.stream_frames reset (resets_of ps ++ resets) (stops_of ps ++ stops)
    (resets_step c.retransmits.reset_stream knows (resets_of ps ++ resets) (stops_of ps ++ stops) (known_step c.largest_acked asked _ _ (record { pile = rest.pile; others = rest.others }))))

-- STREAM frames are lost
lost_step : (ms : List StreamMeta) (e : End) (resets : List (ℕ × ℕ)) (stops : List StopSendingValue) → Holds e resets stops → Holds (streams_lost ms e) resets stops
lost_step [] e resets stops h = h
lost_step (m ∷ ms) e resets stops h = lost_step ms (stream_lost m e) resets stops (record {
  pile = record { once = h.pile.once; reset = λ q i. by_stream_lost (InUse q) (in_use_kept q) e.streams m (λ half is free some. refl) (h.pile.reset q i); small = h.pile.small };
  others = h.others;
})

-- packets carried nothing else
abbrev pub CarryNothingElse : Table TrackedPacket → Type 0
CarryNothingElse ps = (n : ℕ) (t : TrackedPacket) → In (n, t) ps → NothingElse t.carried.retransmits

-- what else a packet carried waits again
pub again_step : (c : Carried) (e : End) (resets : List (ℕ × ℕ)) (stops : List StopSendingValue) → NothingElse c.retransmits → Holds e (c.retransmits.reset_stream ++ resets) (c.retransmits.stop_sending ++ stops) → Holds (again c e) resets stops
again_step c e resets stops none h = record {
  pile = rw (append_assoc e.waiting.frames.reset_stream c.retransmits.reset_stream resets, append_assoc e.waiting.frames.stop_sending c.retransmits.stop_sending stops) h.pile;
  others = (let o = h.others in record {
    ids = λ cid i. elim (in_append cid e.waiting.frames.new_cids c.retransmits.new_cids i) [ inl old ↦ o.ids cid old | inr new ↦ none.ids cid new ];
    retired = λ n i. elim (in_append n e.waiting.frames.retire_cids c.retransmits.retire_cids i) [ inl old ↦ o.retired n old | inr new ↦ none.retired n new ];
  });
}

-- packets are lost
losses_step : (ps : Table TrackedPacket) (e : End) (resets : List (ℕ × ℕ)) (stops : List StopSendingValue) → CarryNothingElse ps → Holds e (resets_of ps ++ resets) (stops_of ps ++ stops) → Holds (packets_lost ps e) resets stops
losses_step [] e resets stops none h = h
losses_step (p ∷ ps) e resets stops none h =
    let c : Carried = p.1.carried in
    let rest : Holds e (c.retransmits.reset_stream ++ (resets_of ps ++ resets)) (c.retransmits.stop_sending ++ (stops_of ps ++ stops)) =
    rw (← append_assoc c.retransmits.reset_stream (resets_of ps) resets, ← append_assoc c.retransmits.stop_sending (stops_of ps) stops) h in
    losses_step ps (carried_lost c e) resets stops (λ n t i. none n t (inr i)) (again_step c (streams_lost c.stream_frames e) (resets_of ps ++ resets) (stops_of ps ++ stops) (none p.0 p.1 (inl refl)) (lost_step c.stream_frames e _ _ rest))

-- ---- an ACK frame

-- what waits at an end and what its tracked packets carried are a pile
pub record HoldsAll (e : End) : Type 0 where
  pub holds : Holds e (resets_of e.tracking.packets) (stops_of e.tracking.packets)
  pub carried : CarryNothingElse e.tracking.packets

-- the same of an end whose streams, what waits and what is tracked are those of another
pub again_all : (e f : End) → f.streams ≡ e.streams → f.waiting.frames ≡ e.waiting.frames → f.tracking.packets ≡ e.tracking.packets → HoldsAll e → HoldsAll f
again_all e f streams waiting packets h = record {
  holds = record { pile = rw (streams, waiting, packets) h.holds.pile; others = rw waiting h.holds.others };
  carried = rw packets h.carried;
}

-- some of the packets, in two parts
split_few : (f : ℕ × TrackedPacket → Bool) (packets : Table TrackedPacket) (id : ℕ) → times id (resets_of (filter f packets) ++ resets_of (filter (λ q. not (f q)) packets)) ≤ times id (resets_of packets)
split_few f packets id =
    let parts = times_split f id packets in
    let all = times_append id (resets_of (filter f packets)) (resets_of (filter (λ q. not (f q)) packets)) in
    omega arith

split_resets : (f : ℕ × TrackedPacket → Bool) (packets : Table TrackedPacket) (r : ℕ × ℕ) → In r (resets_of (filter f packets) ++ resets_of (filter (λ q. not (f q)) packets)) → In r (resets_of packets)
split_resets f packets r i = elim (in_append r (resets_of (filter f packets)) (resets_of (filter (λ q. not (f q)) packets)) i) [ inl x ↦ resets_among f r packets x | inr x ↦ resets_among (λ q. not (f q)) r packets x ]

split_stops : (f : ℕ × TrackedPacket → Bool) (packets : Table TrackedPacket) (s : StopSendingValue) → In s (stops_of (filter f packets) ++ stops_of (filter (λ q. not (f q)) packets)) → In s (stops_of packets)
split_stops f packets s i = elim (in_append s (stops_of (filter f packets)) (stops_of (filter (λ q. not (f q)) packets)) i) [ inl x ↦ stops_among f s packets x | inr x ↦ stops_among (λ q. not (f q)) s packets x ]

-- packets that an ACK frame names are acknowledged
acked_step : (ps : Table TrackedPacket) (a : AckValue) (e : End) → acked_by a e.tracking.packets ≡ ps → HoldsAll e → HoldsAll (without_acked ps a e)
acked_step ps a e is h = record {
  holds = record { pile = settled.pile; others = settled.others };
  carried = λ n t i. h.carried n t (in_filter (λ q. not (names a q.0)) (n, t) packets i);
}
  where
    packets : Table TrackedPacket
    packets = e.tracking.packets

    left : Table TrackedPacket
    left = not_acked_by a packets

    named_of : ℕ × TrackedPacket → Bool
    named_of q = names a q.0

    settled : Holds (packets_acked ps e) (resets_of left) (stops_of left)
    settled = packets_step ps e (resets_of left) (stops_of left) (holds_part e (resets_of packets) (resets_of ps ++ resets_of left) (stops_of packets) (stops_of ps ++ stops_of left)
        (λ id. subst (λ (x : Table TrackedPacket). times id (resets_of x ++ resets_of left) ≤ times id (resets_of packets)) is (split_few named_of packets id))
        (λ r i. split_resets named_of packets r (subst (λ (x : Table TrackedPacket). In r (resets_of x ++ resets_of left)) (sym is) i))
        (λ s i. split_stops named_of packets s (subst (λ (x : Table TrackedPacket). In s (stops_of x ++ stops_of left)) (sym is) i))
        h.holds)

-- losses are detected
pub losses_hold : (e : End) → HoldsAll e → HoldsAll (losses_detected e)
losses_hold e h = by_losses HoldsAll e (λ discovery queues. record {
  holds = record { pile = settled.pile; others = settled.others };
  carried = λ n t i. h.carried n t (in_filter (λ q. not (lost_of q)) (n, t) packets i);
})
  where
    packets : Table TrackedPacket
    packets = e.tracking.packets

    lost_of : ℕ × TrackedPacket → Bool
    lost_of q = is_lost (verdict e) q

    lost : Table TrackedPacket
    lost = lost_by (verdict e) packets

    kept : Table TrackedPacket
    kept = kept_by (verdict e) packets

    settled : Holds (packets_lost lost e) (resets_of kept) (stops_of kept)
    settled = losses_step lost e (resets_of kept) (stops_of kept) (λ n t i. h.carried n t (in_filter lost_of (n, t) packets i))
        (holds_part e (resets_of packets) (resets_of lost ++ resets_of kept) (stops_of packets) (stops_of lost ++ stops_of kept) (split_few lost_of packets) (split_resets lost_of packets) (split_stops lost_of packets) h.holds)

-- a round trip is measured, if one is
sampled_hold : (o : Option TrackedPacket) (a : AckValue) (e : End) → HoldsAll e → HoldsAll (sampled o a e)
sampled_hold None a e h = h
sampled_hold (Some p) a e h = again_all e (sampled (Some p) a e) refl refl refl h

-- an ACK frame that names these packets
named_step : (ps : Table TrackedPacket) (rises : Bool) (a : AckValue) (e : End) → acked_by a e.tracking.packets ≡ ps → HoldsAll e → HoldsAll (after_named ps rises a e)
named_step [] rises a e is h = h
named_step (p ∷ ps) rises a e is h =
    let o = measured rises a (p ∷ ps) in
    let left : End = without_acked (p ∷ ps) a e in
    let found : End = losses_detected (sampled o a left) in
    let taken : End = losses_taken (p ∷ ps) rises a e in
    by_marks rises (length (p ∷ ps)) a taken HoldsAll (λ m marking. again_all found (with_marking (with_told taken m) marking) refl refl refl (losses_hold (sampled o a left) (sampled_hold o a left (acked_step (p ∷ ps) a e is h))))

-- ---- frames that come

pub stream_same : (s : StreamsState) (p : Retransmits) (f : StreamValue) → SamePile p (taking.after_stream s p f).pending
stream_same s p f = go (taking.refusal s f.id _ f.fin)
  where
    half : (o : Option RecvHalf) → SamePile p (taking.stream_at o s p f).pending
    half None = same_pile p
    half (Some h) = record { resets = refl; stops = refl; ids = refl; retired = refl; requests = refl; done = refl }

    go : (o : Option Breach) → SamePile p (taking.stream_unless o s p f).pending
    go (Some b) = same_pile p
    go None = half (taking.part_for s f.id)

pub reset_same : (s : StreamsState) (p : Retransmits) (f : ResetStreamValue) → SamePile p (taking.after_reset_frame s p f).pending
reset_same s p f = go (taking.reset_breach s f)
  where
    half : (o : Option RecvHalf) → SamePile p (taking.reset_at o s p f).pending
    half None = same_pile p
    half (Some h) = record { resets = refl; stops = refl; ids = refl; retired = refl; requests = refl; done = refl }

    go : (o : Option Breach) → SamePile p (taking.reset_unless o s p f).pending
    go (Some b) = same_pile p
    go None = half (taking.part_for s f.id)

-- other streams
pub all_on : (e : End) (t : Streams) → ((r : ℕ × ℕ) → WasReset e.streams.sending.halves.live r → WasReset t.state.sending.halves.live r) → SamePile e.waiting.frames t.pending → HoldsAll e → HoldsAll (with_streams e t)
all_on e t kept same h = let x = holds_on e t (resets_of e.tracking.packets) (stops_of e.tracking.packets) (λ r i u. kept r u) same h.holds in record { holds = record { pile = x.pile; others = x.others }; carried = h.carried }

-- a frame on streams
frame_step : (f : FrameValue) (e : End) → OnStreams f → HoldsAll e → HoldsAll (take_frame f e).end
frame_step (stream f) e on h = all_on e _ (λ r u. by_stream (InUse r) (in_use_kept r) e.streams e.waiting.frames f (λ half is unbroken. tt) u) (stream_same e.streams e.waiting.frames f) h
frame_step (reset_stream f) e on h = all_on e _ (λ r u. by_reset_frame (InUse r) (in_use_kept r) e.streams e.waiting.frames f (λ half is unbroken. tt) u) (reset_same e.streams e.waiting.frames f) h
frame_step (stop_sending f) e on h = all_on e _ (λ r u. by_stop_sending (InUse r) (in_use_kept r) e.streams f (λ half is some. refl) u) (same_pile e.waiting.frames) h
frame_step (max_data limit) e on h = all_on e _ (λ r u. by_max_data_where (InUse r) (in_use_kept r) e.streams limit tt u) (same_pile e.waiting.frames) h
frame_step (max_stream_data f) e on h = all_on e _ (λ r u. by_max_stream_data (InUse r) (in_use_kept r) e.streams f.id f.limit (λ half is above some. refl) u) (same_pile e.waiting.frames) h
frame_step (max_streams f) e on h = all_on e _ (λ r u. by_max_streams (InUse r) (in_use_kept r) (dir_named f.one_way) f.count e.streams u) (same_pile e.waiting.frames) h
frame_step f e on h = absurd on

-- the same pile at another end
record KeepsPile (e f : End) : Type 0 where
  streams : f.streams ≡ e.streams
  resets : f.waiting.frames.reset_stream ≡ e.waiting.frames.reset_stream
  stops : f.waiting.frames.stop_sending ≡ e.waiting.frames.stop_sending
  packets : f.tracking.packets ≡ e.tracking.packets

-- where other ids wait
else_all : (e f : End) → KeepsPile e f → NothingElse f.waiting.frames → HoldsAll e → HoldsAll f
else_all e f k none h = record {
  holds = record { pile = rw (k.streams, k.resets, k.stops, k.packets) h.holds.pile; others = none };
  carried = rw k.packets h.carried;
}

-- ACK_FREQUENCY waits, or doesn't
pub asked_holds : (waits : Bool) (e : End) → HoldsAll e → HoldsAll (with_asked e waits)
asked_holds waits e h = else_all e (with_asked e waits) (record { streams = refl; resets = refl; stops = refl; packets = refl }) (let o = h.holds.others in record { ids = o.ids; retired = o.retired }) h

-- a frame apart from streams
apart_holds : (f : FrameValue) (e : End) → IsApart f → IsSmallNumber f → AreWritten e.ids.peer → HoldsAll e → HoldsAll (take_frame f e).end
apart_holds f e apart small w h =
    else_all e (take_frame f e).end
    (apart_leaves (KeepsPile e) f e apart (λ c. record { streams = refl; resets = refl; stops = refl; packets = refl }) (λ c most. record { streams = refl; resets = refl; stops = refl; packets = refl }))
    (apart_else f e apart small w h.holds.others) h

-- ids that are drawn
pub drawn_holds : (words : ℕ → ℕ) (e : End) → HoldsAll e → HoldsAll (drawn words e)
drawn_holds words e h = else_all e (drawn words e) (record { streams = refl; resets = refl; stops = refl; packets = refl }) (drawn_else words e h.holds.others) h

-- the next id of the peer
pub next_holds : (e : End) (a : Answer) → AreWritten e.ids.peer → HoldsAll e → HoldsAll (end_on_next_id e a)
next_holds e a w h =
    else_all e (end_on_next_id e a)
    (by_next_id (KeepsPile e) e a (record { streams = refl; resets = refl; stops = refl; packets = refl }) (λ c. record { streams = refl; resets = refl; stops = refl; packets = refl }) (λ c most. record { streams = refl; resets = refl; stops = refl; packets = refl }))
    (next_else e a w h.holds.others) h

-- any frame
pub one_holds : (f : FrameValue) (e : End) → IsSmallNumber f → AreWritten e.ids.peer → HoldsAll e → HoldsAll (take_frame f e).end
one_holds (ack a) e small w h = go (names_ungiven a e)
  where
    go : (b : Bool) → HoldsAll (ack_taken b a e).end
    go true = h
    go false = named_step (acked_by a e.tracking.packets) (is_above e.numbers.largest_acked a.largest) a (named a e) refl (again_all e (named a e) refl refl refl h)
one_holds (stream f) e small w h = frame_step (stream f) e tt h
one_holds (reset_stream f) e small w h = frame_step (reset_stream f) e tt h
one_holds (stop_sending f) e small w h = frame_step (stop_sending f) e tt h
one_holds (max_data limit) e small w h = frame_step (max_data limit) e tt h
one_holds (max_stream_data f) e small w h = frame_step (max_stream_data f) e tt h
one_holds (max_streams f) e small w h = frame_step (max_streams f) e tt h
one_holds (datagram m) e small w h = message_leaves HoldsAll m e h (λ left. again_all e _ refl refl refl h)
one_holds f e small w h = apart_holds f e tt small w h

-- all frames of a packet
frames_hold : (fs : List FrameValue) (e : End) → Left fs → AreWritten e.ids.peer → HoldsAll e → HoldsAll (passed fs e).end
frames_hold fs e small w h =
    (frames_leave (λ (left : List FrameValue) (x : End). Left left × (AreWritten x.ids.peer × HoldsAll x))
    (λ f left x i. ((λ g j. i.0 g (inr j)), (frame_written f x (i.0 f (inl refl)) i.1.0, one_holds f x (i.0 f (inl refl)) i.1.0 i.1.1))) fs e (small, (w, h))).1.1.1

-- a peer at another address
moved_holds : (p : Policy) (o : Opening) (remote : ℕ) (e : End) → HoldsAll e × AreWritten e.ids.peer → HoldsAll (migrated p o remote e) × AreWritten (migrated p o remote e).ids.peer
moved_holds = moving_keeps (λ (x : End). HoldsAll x × AreWritten x.ids.peer) (λ m e i. (again_all e _ refl refl refl i.0, i.1)) (λ e a i. (next_holds e a i.1 i.0, next_id_written e a i.1))

-- in each case of a delivery, of the ids of the peer too
pub arrivals_hold : (e : End) (now n : ℕ) (frames taken : List FrameValue) (came : Intake) → Left taken → AreWritten e.ids.peer → HoldsAll e → Arrivals e now n frames taken came (λ (o : Outcome) (i : Intake). HoldsAll o.end × AreWritten o.end.ids.peer)
arrivals_hold e now n frames taken came small w h = record {
  ignored = λ reason. (h, w);
  noted = λ state reason. (again_all e _ refl refl refl h, w);
  takes = λ words state new none urged mark. (let x : End = after_taken n (asks_in (map Ok frames)) urged mark left in (drawn_holds words x (again_all left x refl refl refl after), written));
  moves = λ p o same remote x opened i. moved_holds p o remote x i;
  drains = λ words state new close is. (let x : End = drained_at n close left in (drawn_holds words x (again_all left x refl refl refl after), written));
  refuses = λ words state new f is. (let x : End = closed_by (reason_of f) left in (drawn_holds words x (again_all left x refl refl refl after), written));
  exhausts = λ state. (again_all e _ refl refl refl h, w);
}
  where
    left : End
    left = (passed taken (begun e now n)).end

    after : HoldsAll left
    after = frames_hold taken (begun e now n) small w (again_all e (begun e now n) refl refl refl h)

    written : AreWritten left.ids.peer
    written = frames_written taken (begun e now n) small w
