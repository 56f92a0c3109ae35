-- What was written on a stream and is neither in flight nor acknowledged waits to go: its half
-- stands in the queue.
use Rattle.std.proofs.Common.{◌≡◌, ℕ, ◌<◌, Bool, true, false, ltb, leb, ◌||◌, ◌&&◌, not, List, [], ◌∷◌, length, Option, Some, None, refl, sym, ap, ◌∙◌, subst, inl, inr, arith}
use Rattle.std.specs.Option.{IsSome, is_some}
use Rattle.std.proofs.lemmas.Bool.{both_ways, or_left, or_right, and_from, not_from_false, or_from, le-leb, lt-ltb, ltb-false}
use Rattle.std.proofs.lemmas.List.{length-drop}
use Rattle.quic_wire.specs.Value.{FrameValue, StreamValue, stream}
use Rattle.quic_send_buffer.specs.declared.stream_meta.StreamMeta.{StreamMeta}
use Rattle.quic_send_buffer.specs.Buffered.{is_acknowledged, is_lost, is_unsent, is_in_flight, has_unsent}
use Rattle.quic_send_buffer.specs.Buffered as buffered
use Rattle.quic_sets.proofs.Offsets.Edits.{has_is}
use Rattle.quic_streams_parts.specs.Table.{Table, at}
use Rattle.quic_streams_parts.specs.SendHalf.{SendHalf, has_pending}
use Rattle.quic_streams_halves.specs.Halves.{status_from, has_place}
use Rattle.quic_streams_state.specs.declared.state.StreamsState.{StreamsState}
use Rattle.quic_streams_state.specs.State.{is_opened, sends_on}
use Rattle.quic_streams_state.specs.Waiting.{can_send_stream_data}
use Rattle.quic_streams_laws.specs.Each.{HalfIs}
use Rattle.quic_streams_laws.specs.Written.{Wrote, IsSendHalf, nothing_done}
use Rattle.quic_streams_laws.specs.Acknowledged.{HalfArrived, IsSettled, IsAckedStatus}
use Rattle.quic_machine.specs.declared.answers.State.TheVariants as states
use Rattle.quic_machine.specs.Tracking.{TrackedPacket}
use Rattle.quic_headline.specs.Runs.{In, written, ended, reset}
use Rattle.quic_headline.specs.Observer.{Sent, HoldsOffset, HoldsEnd}
use Rattle.quic_headline.specs.InFlight.{offsets_in, all_offsets}
use Rattle.quic_headline.specs.Duties.{Duty, Offset, Fin, AnyIn, Carries}
use Rattle.quic_headline.proofs.Packets.Acked.{acks}
use Rattle.quic_headline.proofs.Packets.Waited.{AreWaited}
use Rattle.quic_headline.proofs.Packets.Sight.{Sight}
use Rattle.quic_headline.proofs.Places.Parties.{Party, watch_of}
use Rattle.quic_headline.proofs.Halves.Ghosts.{wrote}
use Rattle.quic_headline.proofs.Halves.Writer.{WritesHold}
use Rattle.quic_headline.proofs.Duties.Flies.{FliesIn}
use Rattle.quic_headline.proofs.Duties.UnderWay.{InPackets}
use Rattle.quic_headline.proofs.Duties.Group.{Flying}
use Rattle.quic_headline.proofs.Duties.Ledger.{pending_queued, waiting_pending, not_reset}
use Rattle.quic_headline.proofs.Settled.Carried.{waited_offsets}
use Rattle.quic_headline.proofs.Settled.Group.{Settled, Open, told_so}

-- ---- what stands in tracked packets stands in datagrams in flight

-- A STREAM frame of one of these datagrams carries it.
record StandsIn (sents : List Sent) (u : Duty) : Type 0 where
  sent : Sent
  among : In sent sents
  frame : StreamValue
  carried : In (stream frame) sent.frames
  carries : Carries (offsets_in frame) u

-- a STREAM frame among these
frame_of_metas : (u : Duty) (fs : List FrameValue) → AnyIn (λ m. Carries m u) (all_offsets fs) → (f : StreamValue) × In (stream f) fs × Carries (offsets_in f) u
frame_of_metas u [] i = absurd i
frame_of_metas u (stream f ∷ fs) (inl is) = (f, inl refl, is)
frame_of_metas u (stream f ∷ fs) (inr i) = let rest = frame_of_metas u fs i in (rest.0, inr rest.1, rest.2)
frame_of_metas u (other ∷ fs) i = let rest = frame_of_metas u fs i in (rest.0, inr rest.1, rest.2)

sent_of_packets : (u : Duty) (ss : List Sent) (ps : Table TrackedPacket) → AreWaited ss ps → InPackets ps u → StandsIn ss u
sent_of_packets u [] [] w i = absurd i
sent_of_packets u (s ∷ ss) (p ∷ ps) w (inl is) =
    let found = frame_of_metas u s.frames (subst (λ (ms : List StreamMeta). AnyIn (λ m. Carries m u) ms) (waited_offsets s p w.0) is) in
    record { sent = s; among = inl refl; frame = found.0; carried = found.1; carries = found.2 }
sent_of_packets u (s ∷ ss) (p ∷ ps) w (inr i) =
    let rest = sent_of_packets u ss ps w.1 i in
    record { sent = rest.sent; among = inr rest.among; frame = rest.frame; carried = rest.carried; carries = rest.carries }
sent_of_packets u [] (p ∷ ps) w i = absurd w
sent_of_packets u (s ∷ ss) [] w i = absurd w

offset_held : (ss : List Sent) (id o : ℕ) → StandsIn ss (Offset id o) → HoldsOffset ss id o
offset_held ss id o i = record { sent = i.sent; among = i.among; frame = i.frame; carried = i.carried; of_stream = i.carries.0; from = i.carries.1; below = i.carries.2 }

end_held : (ss : List Sent) (id : ℕ) → StandsIn ss (Fin id) → HoldsEnd ss id
end_held ss id i = record { sent = i.sent; among = i.among; frame = i.frame; carried = i.carried; of_stream = i.carries.0; fin = i.carries.1 }

-- ---- at an open end

module _ (x y : Party) (writes : WritesHold x y) (flies : Flying x y) (settled : Settled x y) (sight : Sight x y) (opened : x.end.closing.state ≡ states.Open) where
  -- what is in flight, and what was acknowledged there, as its observer counts
  abbrev flying : List Sent
  flying = (watch_of x y).flight.flying

  abbrev acked : List Sent
  acked = acks x y

  abbrev s : StreamsState
  s = x.end.streams

  abbrev w : ℕ → Wrote
  w = wrote x.told

  -- a stream has something to send
  abbrev Queued : Type 0
  Queued = can_send_stream_data x.end.streams ≡ true

  waits : AreWaited flying x.end.tracking.packets
  waits = (sight.watched.flight opened).tells.waits

  knows : Open x.sents (wrote x.told) (told_so x) acked x.end
  knows = settled.still opened

  -- a half that has something to send is queued
  pending : (id : ℕ) (h : SendHalf) → at s.sending.halves.live id ≡ Some h → has_pending h ≡ true → Queued
  pending id h found is = pending_queued s id h writes.writes.keeps.orderly found is

  -- by how far the half of a stream that wasn't reset has come
  by_half : (id : ℕ) → (reset id x.told ≡ None) → ((w id ≡ nothing_done) → Queued)
      → ((h : SendHalf) → at s.sending.halves.live id ≡ Some h → h.reset ≡ None → IsSendHalf (w id) h → HalfArrived (λ o. HoldsOffset acked id o) (HoldsEnd acked id) h → FliesIn (InPackets x.end.tracking.packets) id h → Queued)
      → (IsSettled (λ o. HoldsOffset acked id o) (HoldsEnd acked id) (w id) → Queued) → Queued
  by_half id kept none some over = go (at s.sending.halves.live id) (sends_on s.side id && is_opened s id) (has_place s.side s.sending.halves.places id) refl (knows.0.acked.each id) (flies.fly.each id)
    where
      go : (o : Option SendHalf) (m used : Bool) → at s.sending.halves.live id ≡ o → IsAckedStatus (λ o. HoldsOffset acked id o) (HoldsEnd acked id) (w id) (status_from o m used)
          → HalfIs (w id ≡ nothing_done) (λ h. IsSendHalf (w id) h × FliesIn (InPackets x.end.tracking.packets) id h) (Unit {0}) o used → Queued
      go (Some h) m used is known fly = some h is (not_reset (w id) h known.0 kept) known.0 known.1 fly.1
      go None true true is known fly = over known
      go None true false is known fly = none known
      go None false used is known fly = none known

  -- a stream that was reset is none
  over_reset : (id : ℕ) → IsSome (w id).reset → reset id x.told ≡ None → Queued
  over_reset id some none = let clash : true ≡ false = sym some ∙ ap is_some none in cc

  -- an offset that is neither in flight nor acknowledged
  module _ (id o : ℕ) (kept : reset id x.told ≡ None) (below : o < length (written id x.told)) (not_flying : HoldsOffset flying id o → ⊥) (not_acked : HoldsOffset acked id o → ⊥) where
    offset_of_half : (h : SendHalf) → at s.sending.halves.live id ≡ Some h → h.reset ≡ None → IsSendHalf (w id) h → HalfArrived (λ q. HoldsOffset acked id q) (HoldsEnd acked id) h → FliesIn (InPackets x.end.tracking.packets) id h → Queued
    offset_of_half h found free held known fly = go (is_acknowledged h.buffer o) (is_lost h.buffer o) (ltb o h.buffer.unsent) refl refl refl
      where
        due : (is_lost h.buffer o || is_unsent h.buffer o) ≡ true → Queued
        due is = pending id h found (waiting_pending h o is)

        go : (acknowledged lost sent : Bool) → is_acknowledged h.buffer o ≡ acknowledged → is_lost h.buffer o ≡ lost → ltb o h.buffer.unsent ≡ sent → Queued
        go true lost sent a l t = absurd (not_acked (known.bytes o (has_is h.buffer.acked o a)))
        go false true sent a l t = due (or_left (is_lost h.buffer o) (is_unsent h.buffer o) l)
        go false false true a l t =
            let none : (is_acknowledged h.buffer o || is_lost h.buffer o) ≡ false = or_from (is_acknowledged h.buffer o) (is_lost h.buffer o) a l in
            let in_flight : is_in_flight h.buffer o ≡ true = and_from (ltb o h.buffer.unsent) (not (is_acknowledged h.buffer o || is_lost h.buffer o)) t (not_from_false (is_acknowledged h.buffer o || is_lost h.buffer o) none) in
            absurd (not_flying (offset_held flying id o (sent_of_packets (Offset id o) flying x.end.tracking.packets waits (fly.offsets free o in_flight))))
        go false false false a l t =
            let rest = held.rest kept in
            let base = rest.base in
            let written_on = ap length rest.kept in
            let behind_base = length-drop h.buffer.base (written id x.told) in
            let behind = ltb-false o h.buffer.unsent t in
            let unsent : is_unsent h.buffer o ≡ true = and_from (leb h.buffer.unsent o) (ltb o (buffered.written h.buffer)) (le-leb h.buffer.unsent o behind) (lt-ltb o (buffered.written h.buffer) (omega arith)) in
            due (or_right (is_lost h.buffer o) (is_unsent h.buffer o) unsent)

    pub offset_queued : Queued
    offset_queued = by_half id kept
        (λ nothing. (let size : length (written id x.told) ≡ 0 = ap (λ (v : Wrote). length v.bytes) nothing in absurd (omega arith)))
        offset_of_half
        (λ done. elim done [ inl all ↦ absurd (not_acked (all.bytes o below)) | inr some ↦ over_reset id some kept ])

  -- the end of a stream that is neither
  module _ (id : ℕ) (kept : reset id x.told ≡ None) (finished : ended id x.told ≡ true) (not_flying : HoldsEnd flying id → ⊥) (not_acked : HoldsEnd acked id → ⊥) where
    end_of_half : (h : SendHalf) → at s.sending.halves.live id ≡ Some h → h.reset ≡ None → IsSendHalf (w id) h → HalfArrived (λ q. HoldsOffset acked id q) (HoldsEnd acked id) h → FliesIn (InPackets x.end.tracking.packets) id h → Queued
    end_of_half h found free held known fly = go h.end_waits h.end_acked refl refl
      where
        go : (due acknowledged : Bool) → h.end_waits ≡ due → h.end_acked ≡ acknowledged → Queued
        go true acknowledged d a = pending id h found (or_right (has_unsent h.buffer) h.end_waits d)
        go false true d a = absurd (not_acked (known.end a))
        go false false d a =
            let none : (h.end_acked || h.end_waits) ≡ false = or_from h.end_acked h.end_waits a d in
            let flown = fly.fin free (and_from h.finished (not (h.end_acked || h.end_waits)) (held.finished ∙ finished) (not_from_false (h.end_acked || h.end_waits) none)) in
            absurd (not_flying (end_held flying id (sent_of_packets (Fin id) flying x.end.tracking.packets waits flown)))

    pub end_queued : Queued
    end_queued = by_half id kept
        (λ nothing. absurd (both_ways (ended id x.told) (ap (λ (v : Wrote). v.ended) nothing) finished))
        end_of_half
        (λ done. elim done [ inl all ↦ absurd (not_acked all.end) | inr some ↦ over_reset id some kept ])
