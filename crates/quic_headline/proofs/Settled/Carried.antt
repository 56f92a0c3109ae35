-- Datagrams are acknowledged: their end knows of all that stands in them, and tells each stream
-- finished of which that was the last.
use Rattle.std.proofs.Common.{◌≡◌, ℕ, ◌+◌, ◌<◌, ◌≤◌, true, List, [], ◌∷◌, ◌++◌, length, Option, Some, None, refl, sym, ap, ◌∙◌, subst, ◌⊎◌, inl, inr}
use Rattle.quic_wire.specs.Value.{FrameValue, StreamValue, stream}
use Rattle.quic_send_buffer.specs.declared.stream_meta.StreamMeta.{StreamMeta}
use Rattle.quic_streams_parts.specs.SendHalf.{meta_of}
use Rattle.quic_streams_laws.specs.KeepingLaws.{by_reset_acked, live_sends}
use Rattle.quic_streams_laws.specs.Written.{Wrote}
use Rattle.quic_streams_laws.specs.Acknowledged.{FinishedHave, MetaArrived}
use Rattle.quic_streams_laws.specs.AcknowledgedLaws.{half_arrived}
use Rattle.quic_streams_laws.specs.FinishedLaws.{finished_kept, finished_stream_acked}
use Rattle.quic_streams_parts.specs.Table.{Table}
use Rattle.quic_machine.specs.Tracking.{TrackedPacket, Carried}
use Rattle.quic_machine.specs.End.{End}
use Rattle.quic_machine.specs.Acked.{request_acked, without_known, reset_acked, resets_acked, stream_acked, streams_acked, packet_acked, packets_acked, stream_lost}
use Rattle.quic_machine.specs.FrameCases.{resets_acked_keep}
use Rattle.quic_headline.specs.Runs.{In}
use Rattle.quic_headline.specs.Observer.{Sent, HoldsOffset, HoldsEnd}
use Rattle.quic_headline.specs.InFlight.{all_offsets}
use Rattle.quic_headline.proofs.Packets.Invariant.{carried_streams}
use Rattle.quic_headline.proofs.Packets.Carried.{carried_same}
use Rattle.quic_headline.proofs.Packets.Waited.{IsWaited, AreWaited}
use Rattle.quic_headline.proofs.Places.Told.{in_left, in_append}
use Rattle.quic_headline.proofs.Halves.Finished.{finished_words, finished_grows}
use Rattle.quic_headline.proofs.Settled.Half.{Known, KnowsMore, settles_follow, knows_same}
use Rattle.quic_headline.proofs.Settled.Acked.{KnowsAcked, telling, settles_acked}
use Rattle.quic_headline.proofs.Settled.Words.{Settling, is_reset, lost_settled, reset_acked_settled}
use Rattle.quic_machine.specs.Sizes.{search_acked}

-- ---- what is known of datagrams that were sent, and of those that were acknowledged

abbrev pub known_of : List Sent → List Sent → Known
known_of sents acks = record { sent = λ id o. HoldsOffset sents id o; end_sent = λ id. HoldsEnd sents id; acked = λ id o. HoldsOffset acks id o; end_acked = λ id. HoldsEnd acks id }

-- what stands in a frame is acknowledged besides
abbrev with_meta : StreamMeta → Known → Known
with_meta m k = record {
  sent = k.sent;
  end_sent = k.end_sent;
  acked = λ id o. k.acked id o ⊎ ((id ≡ m.id) × (m.offsets.start ≤ o) × (o < m.offsets.end));
  end_acked = λ id. k.end_acked id ⊎ ((id ≡ m.id) × (m.fin ≡ true));
}

abbrev with_metas : List StreamMeta → Known → Known
with_metas [] k = k
with_metas (m ∷ ms) k = with_metas ms (with_meta m k)

-- what stands in datagrams is
abbrev with_sents : List Sent → Known → Known
with_sents [] k = k
with_sents (s ∷ ss) k = with_sents ss (with_metas (all_offsets s.frames) k)

-- ---- all of it is known

knows_then : (k l m : Known) → KnowsMore k l → KnowsMore l m → KnowsMore k m
knows_then k l m a b = record { sent = λ id o x. b.sent id o (a.sent id o x); end_sent = λ id x. b.end_sent id (a.end_sent id x); acked = λ id o x. b.acked id o (a.acked id o x); end_acked = λ id x. b.end_acked id (a.end_acked id x) }

meta_keeps : (m : StreamMeta) (k : Known) → KnowsMore k (with_meta m k)
meta_keeps m k = record { sent = λ id o x. x; end_sent = λ id x. x; acked = λ id o x. inl x; end_acked = λ id x. inl x }

metas_keep : (ms : List StreamMeta) (k : Known) → KnowsMore k (with_metas ms k)
metas_keep [] k = knows_same k
metas_keep (m ∷ ms) k = knows_then k (with_meta m k) (with_metas ms (with_meta m k)) (meta_keeps m k) (metas_keep ms (with_meta m k))

sents_keep : (ss : List Sent) (k : Known) → KnowsMore k (with_sents ss k)
sents_keep [] k = knows_same k
sents_keep (s ∷ ss) k = knows_then k (with_metas (all_offsets s.frames) k) (with_sents ss (with_metas (all_offsets s.frames) k)) (metas_keep (all_offsets s.frames) k) (sents_keep ss (with_metas (all_offsets s.frames) k))

-- a frame's offsets stand among those of the frames
pub offsets_among : (fs : List FrameValue) (f : StreamValue) → In (stream f) fs → In (meta_of f) (all_offsets fs)
offsets_among [] f i = i
offsets_among (stream g ∷ fs) f (inl is) = let same : f ≡ g = cc in inl (ap meta_of same)
offsets_among (stream g ∷ fs) f (inr i) = inr (offsets_among fs f i)
offsets_among (other ∷ fs) f (inl is) = cc
offsets_among (other ∷ fs) f (inr i) = offsets_among fs f i

-- what a frame says of them is known
metas_have : (ms : List StreamMeta) (m : StreamMeta) (k : Known) (o : ℕ) → In m ms → m.offsets.start ≤ o → o < m.offsets.end → (with_metas ms k).acked m.id o
metas_have [] m k o i from below = absurd i
metas_have (x ∷ ms) m k o (inl is) from below = (metas_keep ms (with_meta x k)).acked m.id o (inr (ap (λ (y : StreamMeta). y.id) is, subst (λ (y : StreamMeta). y.offsets.start ≤ o) is from, subst (λ (y : StreamMeta). o < y.offsets.end) is below))
metas_have (x ∷ ms) m k o (inr i) from below = metas_have ms m (with_meta x k) o i from below

metas_end : (ms : List StreamMeta) (m : StreamMeta) (k : Known) → In m ms → m.fin ≡ true → (with_metas ms k).end_acked m.id
metas_end [] m k i fin = absurd i
metas_end (x ∷ ms) m k (inl is) fin = (metas_keep ms (with_meta x k)).end_acked m.id (inr (ap (λ (y : StreamMeta). y.id) is, subst (λ (y : StreamMeta). y.fin ≡ true) is fin))
metas_end (x ∷ ms) m k (inr i) fin = metas_end ms m (with_meta x k) i fin

sents_have : (ss : List Sent) (k : Known) (s : Sent) (f : StreamValue) (o : ℕ) → In s ss → In (stream f) s.frames → f.offset ≤ o → o < f.offset + length f.bytes → (with_sents ss k).acked f.id o
sents_have [] k s f o i j from below = absurd i
sents_have (x ∷ ss) k s f o (inl is) j from below =
    (sents_keep ss (with_metas (all_offsets x.frames) k)).acked f.id o (metas_have (all_offsets x.frames) (meta_of f) k o (offsets_among x.frames f (subst (λ (y : Sent). In (stream f) y.frames) is j)) from below)
sents_have (x ∷ ss) k s f o (inr i) j from below = sents_have ss (with_metas (all_offsets x.frames) k) s f o i j from below

sents_end : (ss : List Sent) (k : Known) (s : Sent) (f : StreamValue) → In s ss → In (stream f) s.frames → f.fin ≡ true → (with_sents ss k).end_acked f.id
sents_end [] k s f i j fin = absurd i
sents_end (x ∷ ss) k s f (inl is) j fin = (sents_keep ss (with_metas (all_offsets x.frames) k)).end_acked f.id (metas_end (all_offsets x.frames) (meta_of f) k (offsets_among x.frames f (subst (λ (y : Sent). In (stream f) y.frames) is j)) fin)
sents_end (x ∷ ss) k s f (inr i) j fin = sents_end ss (with_metas (all_offsets x.frames) k) s f i j fin

-- all that is known of some and others is known of the first, once the others are acknowledged
all_known : (sents acks ss : List Sent) → KnowsMore (known_of sents (acks ++ ss)) (with_sents ss (known_of sents acks))
all_known sents acks ss =
    let k : Known = known_of sents acks in
    let keep = sents_keep ss k in
    record {
      sent = λ id o x. keep.sent id o x;
      end_sent = λ id x. keep.end_sent id x;
      acked = λ id o x. elim (in_append x.sent acks ss x.among) [
        | inl old ↦ keep.acked id o (record { sent = x.sent; among = old; frame = x.frame; carried = x.carried; of_stream = x.of_stream; from = x.from; below = x.below })
        | inr new ↦ subst (λ (q : ℕ). (with_sents ss k).acked q o) x.of_stream (sents_have ss k x.sent x.frame o new x.carried x.from x.below)
      ];
      end_acked = λ id x. elim (in_append x.sent acks ss x.among) [
        | inl old ↦ keep.end_acked id (record { sent = x.sent; among = old; frame = x.frame; carried = x.carried; of_stream = x.of_stream; fin = x.fin })
        | inr new ↦ subst (λ (q : ℕ). (with_sents ss k).end_acked q) x.of_stream (sents_end ss k x.sent x.frame new x.carried x.fin)
      ];
    }

-- ---- steps

-- a packet that is tracked has the offsets of its datagram
pub waited_offsets : (s : Sent) (p : ℕ × TrackedPacket) → IsWaited s p → p.1.carried.stream_frames ≡ all_offsets s.frames
waited_offsets s p waited = carried_streams p.1.carried s.frames waited.carried ∙ ap (λ (c : Carried). c.stream_frames) (sym (carried_same s.frames))

module _ (arrived : ℕ → ℕ → Type 0) (end_arrived : ℕ → Type 0) (n : ℕ → ℕ) (w : ℕ → Wrote) where
  -- what holds of the streams of an end
  abbrev pub Holds : Known → End → Type 0
  Holds k e = Settling arrived end_arrived k n w e.streams

  -- numbers that the peer knows of tell nothing of streams
  knows_holds : (k : Known) (o : Option ℕ) (e : End) → Holds k e → Holds k (without_known o e)
  knows_holds k None e i = i
  knows_holds k (Some m) e i = i

  -- RESET_STREAM is acknowledged
  pub reset_holds : (k : Known) (id : ℕ) (e : End) → Holds k e → Holds k (reset_acked id e)
  reset_holds k id e i = (by_reset_acked (FinishedHave arrived end_arrived w) (finished_kept arrived end_arrived w) e.streams e.waiting.frames id i.0, reset_acked_settled arrived end_arrived k n w e.streams e.waiting.frames id i.1)

  -- a STREAM frame is lost, which had the end only where there is one
  pub lost_holds : (k : Known) (m : StreamMeta) (e : End) → (m.fin ≡ true → (w m.id).ended ≡ true) → Holds k e → Holds k (stream_lost m e)
  lost_holds k m e last i = ((finished_words arrived end_arrived).lost w e.streams m last i.0, lost_settled arrived end_arrived k n w e.streams m i.1)

  -- one is acknowledged
  pub acked_holds : (k l : Known) (m : StreamMeta) (e : End) → KnowsAcked m k l → MetaArrived arrived end_arrived w m → Holds k e → Holds l (stream_acked m e)
  acked_holds k l m e adds came i = (
    finished_stream_acked arrived end_arrived w e.streams i.0 e.waiting.frames m came,
    settles_acked m k l adds n (is_reset w) e.streams e.waiting.frames i.1 (λ h is. (let x = (half_arrived arrived end_arrived w e.streams m.id h (live_sends e.streams m.id h is) i.0.acked).0 in x.lawful)),
  )

  -- what a frame says was sent, and arrived
  pub record MetaSent (k : Known) (m : StreamMeta) : Type 0 where
    pub offsets : (o : ℕ) → m.offsets.start ≤ o → o < m.offsets.end → k.sent m.id o
    pub end : m.fin ≡ true → k.end_sent m.id
    pub came : MetaArrived arrived end_arrived w m

  -- the frames of a datagram are acknowledged
  metas_hold : (ms : List StreamMeta) (k : Known) (e : End) → ((m : StreamMeta) → In m ms → MetaSent k m) → Holds k e → Holds (with_metas ms k) (streams_acked ms e)
  metas_hold [] k e sent i = i
  metas_hold (m ∷ ms) k e sent i =
      let x = sent m (inl refl) in
      metas_hold ms (with_meta m k) (stream_acked m e) (λ q j. (let y = sent q (inr j) in record { offsets = y.offsets; end = y.end; came = y.came }))
      (acked_holds k (with_meta m k) m e (record { sent = λ id o s. s; end_sent = λ id s. s; acked = λ id o a. a; end_acked = λ id a. a; was_sent = λ o a from below. x.offsets o from below; end_was_sent = λ a fin. x.end fin }) x.came i)

  -- a datagram is, that is tracked as this packet
  packet_holds : (s : Sent) (p : ℕ × TrackedPacket) → IsWaited s p → (k : Known) (e : End) → ((m : StreamMeta) → In m (all_offsets s.frames) → MetaSent k m) → Holds k e → Holds (with_metas (all_offsets s.frames) k) (packet_acked p e)
  packet_holds s p waited k e sent i =
      let c : Carried = p.1.carried in
      let asked : End = request_acked p.0 (search_acked p e) in
      let known : End = without_known c.largest_acked asked in
      let resets : End = resets_acked c.retransmits.reset_stream known in
      subst (λ (ms : List StreamMeta). Holds (with_metas (all_offsets s.frames) k) (streams_acked ms resets)) (sym (waited_offsets s p waited))
      (metas_hold (all_offsets s.frames) k resets sent (resets_acked_keep (Holds k) (reset_holds k) c.retransmits.reset_stream known (knows_holds k c.largest_acked asked i)))

  -- datagrams are
  pub sents_hold : (ss : List Sent) (ps : Table TrackedPacket) → AreWaited ss ps → (k : Known) (e : End) → ((s : Sent) → In s ss → (m : StreamMeta) → In m (all_offsets s.frames) → MetaSent k m) → Holds k e → Holds (with_sents ss k) (packets_acked ps e)
  sents_hold [] [] waited k e sent i = i
  sents_hold (s ∷ ss) (p ∷ ps) waited k e sent i =
      let keep = metas_keep (all_offsets s.frames) k in
      sents_hold ss ps waited.1 (with_metas (all_offsets s.frames) k) (packet_acked p e) (λ t j m a. (let y = sent t (inr j) m a in record { offsets = λ o from below. keep.sent m.id o (y.offsets o from below); end = λ fin. keep.end_sent m.id (y.end fin); came = y.came }))
      (packet_holds s p waited.0 k e (sent s (inl refl)) i)
  sents_hold [] (p ∷ ps) waited k e sent i = absurd waited
  sents_hold (s ∷ ss) [] waited k e sent i = absurd waited

-- datagrams of an end that were sent are acknowledged: its end knows of them too
pub sents_settle : (n : ℕ → ℕ) (w : ℕ → Wrote) (sents acks ss : List Sent) (ps : Table TrackedPacket) → AreWaited ss ps → (e : End) → ((s : Sent) → In s ss → (m : StreamMeta) → In m (all_offsets s.frames) → MetaSent (λ id o. HoldsOffset (acks ++ ss) id o) (λ id. HoldsEnd (acks ++ ss) id) n w (known_of sents acks) m)
    → Holds (λ id o. HoldsOffset acks id o) (λ id. HoldsEnd acks id) n w (known_of sents acks) e
    → Holds (λ id o. HoldsOffset (acks ++ ss) id o) (λ id. HoldsEnd (acks ++ ss) id) n w (known_of sents (acks ++ ss)) (packets_acked ps e)
sents_settle n w sents acks ss ps waited e sent i =
    let first = finished_grows (λ id o. HoldsOffset acks id o) (λ id o. HoldsOffset (acks ++ ss) id o) (λ id. HoldsEnd acks id) (λ id. HoldsEnd (acks ++ ss) id)
    (λ id o x. record { sent = x.sent; among = in_left x.sent acks ss x.among; frame = x.frame; carried = x.carried; of_stream = x.of_stream; from = x.from; below = x.below })
    (λ id x. record { sent = x.sent; among = in_left x.sent acks ss x.among; frame = x.frame; carried = x.carried; of_stream = x.of_stream; fin = x.fin }) w e.streams i.0 in
    let after : End = packets_acked ps e in
    let all = sents_hold (λ id o. HoldsOffset (acks ++ ss) id o) (λ id. HoldsEnd (acks ++ ss) id) n w ss ps waited (known_of sents acks) e sent (first, i.1) in
    let t = telling n (is_reset w) after.streams in
    (all.0, settles_follow (with_sents ss (known_of sents acks)) (known_of sents (acks ++ ss)) t t (all_known sents acks ss) after.streams (record { times = λ id. refl; reset = λ id. refl }) all.1)
