-- What waits of streams at an end, and beside their bytes, is F: each step of a datagram that
-- comes, of losses, and of a datagram that goes, keeps that, where what it makes wait is F.
use Rattle.std.proofs.Common.{◌≡◌, ℕ, ◌<◌, ◌≤◌, Bool, true, List, [], ◌∷◌, refl, inl, inr, subst, false, sym}
use Rattle.std.proofs.lemmas.Bool.{or_left, or_right}
use Rattle.quic_wire.specs.Value.{FrameValue, stream, reset_stream, stop_sending, max_data, max_stream_data, max_streams}
use Rattle.quic_send_buffer.specs.declared.stream_meta.StreamMeta.{StreamMeta}
use Rattle.quic_send_buffer.specs.Buffered.{IsBuffered}
use Rattle.quic_streams_parts.specs.Dirs.{Counts, Flags}
use Rattle.quic_streams_parts.specs.Table.{Table}
use Rattle.quic_retransmits.specs.Retransmits.{Retransmits, merged}
use Rattle.quic_streams_state.specs.declared.state.StreamsState.{StreamsState}
use Rattle.quic_streams_state.specs.State.{Receiving}
use Rattle.quic_streams_state.specs.Limits.{data_grew}
use Rattle.quic_streams_laws.specs.Keeping.{KeepsBy}
use Rattle.quic_streams_laws.specs.KeepingLaws.{by_stream, by_reset_frame, by_stop_sending, by_max_data, by_max_stream_data, by_max_streams, by_stream_lost, by_stream_acked, by_reset_acked, by_frame as by_half_frame}
use Rattle.quic_streams_laws.specs.QuietLaws.{by_told}
use Rattle.quic_machine.specs.End.{End}
use Rattle.quic_wire_core.specs.declared.shared.IssuedCid.{IssuedCid}
use Rattle.quic_machine.specs.Tracking.{Carried, TrackedPacket, dir_named}
use Rattle.quic_machine.specs.Acked.{reset_acked, stream_acked, packets_acked, stream_lost, streams_lost, carried_lost, packets_lost}
use Rattle.quic_machine.specs.Receive.{take_frame}
use Rattle.quic_machine.specs.FrameCases.{OnStreams}
use Rattle.quic_machine.specs.Poll.{Draft, no_frames, draft_as, lazied_as, Leaving}
use Rattle.quic_machine.specs.DraftLaws.{Writing, by_leave, MayLeave}
use Rattle.quic_machine.specs.Puts as puts
use Rattle.quic_headline.specs.Runs.{In}
use Rattle.quic_headline.specs.Duties.{AllData, StreamData, StreamCount, has_retirement, has_new_id}
use Rattle.quic_headline.specs.Begins.{Control, LimitOf, NewId, Retirement, control_waits, Thing, Byte, Fin, Frame, brings_data, Request}
use Rattle.quic_headline.proofs.Packets.Flying.{acked_keep}
use Rattle.quic_headline.proofs.Grown.Flags.{Decides}
use Rattle.quic_headline.proofs.Grown.Flags as limits
use Rattle.quic_headline.proofs.Begins.Controls.{merged_one, fewer_wait, asked_one}
use Rattle.quic_headline.proofs.Begins.Called.{Grew, IsRaised, frame_one, acked_one, reset_acked_one}
use Rattle.quic_headline.proofs.Begins.Halves.{PendsIn, AllPend, pend_kept, pends_more, pends_acked, pends_lost, pends_went}
use Rattle.quic_streams_laws.specs.WrittenHalves.{nothing_lawful}

-- ---- what waits

-- where the limit on all data grew, it waits
abbrev pub Tells : Receiving → Counts → Counts → Counts → Bool → Flags → List ℕ → Type 0
Tells r announced configured done all counts streams = data_grew r ≡ true → all ≡ true

pub decides : Decides Tells
decides s t p q same i grew = or_right q.max_data (data_grew t.receiving) grew

-- what waits of these streams, and of this beside their bytes, is F; and where the limit on all
-- data grew, it waits
pub record PendsAt (F : Thing → Type 0) (s : StreamsState) (p : Retransmits) : Type 0 where
  pub controls : (c : Control) → control_waits p c ≡ true → F (Frame c)
  pub halves : AllPend IsBuffered F s
  pub grew : data_grew s.receiving ≡ true → p.max_data ≡ true

-- so it is at an end
abbrev pub Pends : (Thing → Type 0) → End → Type 0
Pends F e = PendsAt F e.streams e.waiting.frames

-- where more is F
pub pend_more : (F G : Thing → Type 0) (s : StreamsState) (p : Retransmits) → ((q : Thing) → F q → G q) → PendsAt F s p → PendsAt G s p
pend_more F G s p more i = record { controls = λ c is. more (Frame c) (i.controls c is); halves = pends_more IsBuffered IsBuffered F G s (λ b x. x) more i.halves; grew = i.grew }

-- with other ids that wait to be told, and other numbers to be retired, what waits is F where these
-- are
pub ids_pend : (F : Thing → Type 0) (s : StreamsState) (p : Retransmits) (ids : List IssuedCid) (retired : List ℕ) → ((n : ℕ) → has_new_id n ids ≡ true → F (Frame (NewId n))) → ((n : ℕ) → has_retirement n retired ≡ true → F (Frame (Retirement n)))
    → PendsAt F s p → PendsAt F s (record p { new_cids = ids; retire_cids = retired })
ids_pend F s p ids retired told retires i = record { controls = waits; halves = i.halves; grew = i.grew }
  where
    waits : (c : Control) → control_waits (record p { new_cids = ids; retire_cids = retired }) c ≡ true → F (Frame c)
    waits (NewId n) is = told n is
    waits (Retirement n) is = retires n is
    waits (LimitOf AllData) is = i.controls (LimitOf AllData) is
    waits (LimitOf (StreamData id)) is = i.controls (LimitOf (StreamData id)) is
    waits (LimitOf (StreamCount dir)) is = i.controls (LimitOf (StreamCount dir)) is
    waits c is = i.controls c is

-- whether or not ACK_FREQUENCY waits, where it is F if it does
pub asked_pend : (F : Thing → Type 0) (s : StreamsState) (p : Retransmits) (waits : Bool) → (waits ≡ true → F (Frame Request)) → PendsAt F s p → PendsAt F s (record p { ack_frequency = waits })
asked_pend F s p waits asked i = record { controls = λ c is. elim (asked_one c waits p is) [ inl was ↦ i.controls c was | inr new ↦ subst (λ (d : Control). F (Frame d)) (sym new.0) (asked new.1) ]; halves = i.halves; grew = i.grew }

module _ (F : Thing → Type 0) where
  -- each small change of streams keeps what waits of their halves, where that of the half does
  abbrev k : KeepsBy (λ r id old new. Unit {0}) (λ s id old new. PendsIn IsBuffered F id old → PendsIn IsBuffered F id new) (λ s id n old new. PendsIn IsBuffered F id old → PendsIn IsBuffered F id new) (AllPend IsBuffered F)
  k = pend_kept IsBuffered F nothing_lawful

  -- a limit that is decided waits, or is F
  grew_is : (c : Control) (s : StreamsState) (p : Retransmits) → ((dir : _) → F (Frame (LimitOf (StreamCount dir)))) → PendsAt F s p → Grew s c → F (Frame c)
  grew_is (LimitOf AllData) s p counts i grew = i.controls (LimitOf AllData) (i.grew grew)
  grew_is (LimitOf (StreamCount dir)) s p counts i grew = counts dir
  grew_is c s p counts i grew = absurd grew

  -- ---- a packet is acknowledged

  module _ (counts : (dir : _) → F (Frame (LimitOf (StreamCount dir)))) where
    frame_acked : (m : StreamMeta) (e : End) → Pends F e → Pends F (stream_acked m e)
    frame_acked m e i = record {
      controls = λ c is. elim (acked_one c e.streams e.waiting.frames m is) [ inl was ↦ i.controls c was | inr grew ↦ grew_is c e.streams e.waiting.frames counts i grew ];
      halves = by_stream_acked (AllPend IsBuffered F) k e.streams e.waiting.frames m (λ h is none x. pends_acked F m.id h m x) (λ h is none over. tt) i.halves;
      grew = limits.acked_keeps Tells decides e.streams e.waiting.frames m i.grew;
    }

    reset_frame_acked : (id : ℕ) (e : End) → Pends F e → Pends F (reset_acked id e)
    reset_frame_acked id e i = record {
      controls = λ c is. elim (reset_acked_one c e.streams e.waiting.frames id is) [ inl was ↦ i.controls c was | inr grew ↦ grew_is c e.streams e.waiting.frames counts i grew ];
      halves = by_reset_acked (AllPend IsBuffered F) k e.streams e.waiting.frames id i.halves;
      grew = limits.reset_acked_keeps Tells decides e.streams e.waiting.frames id i.grew;
    }

    pub acked_pend : (ps : Table TrackedPacket) (e : End) → Pends F e → Pends F (packets_acked ps e)
    acked_pend = acked_keep (Pends F) (λ d e i. i) (λ n e i. i) (λ n e i. i) reset_frame_acked frame_acked

  -- ---- a packet is lost

  -- what a STREAM frame carried is F
  pub record MetaIs (m : StreamMeta) : Type 0 where
    pub bytes : (o : ℕ) → m.offsets.start ≤ o → o < m.offsets.end → F (Byte m.id o)
    pub fin : m.fin ≡ true → F (Fin m.id)

  -- so is what a packet carried
  pub record CarriedIs (c : Carried) : Type 0 where
    pub metas : (m : StreamMeta) → In m c.stream_frames → MetaIs m
    pub controls : (d : Control) → control_waits c.retransmits d ≡ true → F (Frame d)

  frame_lost : (m : StreamMeta) (e : End) → MetaIs m → Pends F e → Pends F (stream_lost m e)
  frame_lost m e is i = record {
    controls = i.controls;
    halves = by_stream_lost (AllPend IsBuffered F) k e.streams m (λ h found none x. pends_lost F m.id h m x is.bytes is.fin) i.halves;
    grew = limits.lost_keeps Tells decides e.streams e.waiting.frames m i.grew;
  }

  frames_lost : (ms : List StreamMeta) (e : End) → ((m : StreamMeta) → In m ms → MetaIs m) → Pends F e → Pends F (streams_lost ms e)
  frames_lost [] e is i = i
  frames_lost (m ∷ ms) e is i = frames_lost ms (stream_lost m e) (λ n j. is n (inr j)) (frame_lost m e (is m (inl refl)) i)

  -- what has to be sent again waits again
  again_pends : (s : StreamsState) (p r : Retransmits) → ((d : Control) → control_waits r d ≡ true → F (Frame d)) → PendsAt F s p → PendsAt F s (merged p r)
  again_pends s p r is i = record {
    controls = λ c waits. elim (merged_one c p r waits) [ inl was ↦ i.controls c was | inr new ↦ is c new ];
    halves = i.halves;
    grew = λ grew. or_left p.max_data r.max_data (i.grew grew);
  }

  packet_lost : (c : Carried) (e : End) → CarriedIs c → Pends F e → Pends F (carried_lost c e)
  packet_lost c e is i =
      let lost : End = streams_lost c.stream_frames e in
      again_pends lost.streams lost.waiting.frames c.retransmits is.controls (frames_lost c.stream_frames e is.metas i)

  pub lost_pend : (ps : Table TrackedPacket) (e : End) → ((p : ℕ × TrackedPacket) → In p ps → CarriedIs p.1.carried) → Pends F e → Pends F (packets_lost ps e)
  lost_pend [] e is i = i
  lost_pend (p ∷ ps) e is i = lost_pend ps (carried_lost p.1.carried e) (λ q j. is q (inr j)) (packet_lost p.1.carried e (is p (inl refl)) i)

  -- a probe says again what a packet carried
  pub moved_pend : (s : StreamsState) (p : Retransmits) (c : Carried) → ((d : Control) → control_waits c.retransmits d ≡ true → F (Frame d)) → PendsAt F s p → PendsAt F s (merged p c.retransmits)
  moved_pend s p c is i = again_pends s p c.retransmits is i

  -- ---- a frame on streams comes

  halves_taken : (f : FrameValue) (e : End) → OnStreams f → AllPend IsBuffered F e.streams → AllPend IsBuffered F (take_frame f e).end.streams
  halves_taken (stream f) e on i = by_stream (AllPend IsBuffered F) k e.streams e.waiting.frames f (λ h is u. tt) i
  halves_taken (reset_stream f) e on i = by_reset_frame (AllPend IsBuffered F) k e.streams e.waiting.frames f (λ h is u. tt) i
  halves_taken (stop_sending f) e on i = by_stop_sending (AllPend IsBuffered F) k e.streams f (λ h is x. record { lawful = x.lawful; bytes = x.bytes; fin = x.fin }) i
  halves_taken (max_data limit) e on i = by_max_data (AllPend IsBuffered F) k e.streams limit i
  halves_taken (max_stream_data f) e on i = by_max_stream_data (AllPend IsBuffered F) k e.streams f.id f.limit (λ h is above x. record { lawful = x.lawful; bytes = x.bytes; fin = x.fin }) i
  halves_taken (max_streams f) e on i = by_max_streams (AllPend IsBuffered F) k (dir_named f.one_way) f.count e.streams i
  halves_taken f e on i = absurd on

  pub taken_pend : (f : FrameValue) (e : End) → OnStreams f → (brings_data f ≡ true → (c : Control) → IsRaised (take_frame f e).end.streams c → F (Frame c)) → Pends F e → Pends F (take_frame f e).end
  taken_pend f e on raised i = record {
    controls = λ c is. elim (frame_one c f e on is) [ inl was ↦ i.controls c was | inr new ↦ raised new.0 c new.1 ];
    halves = halves_taken f e on i.halves;
    grew = limits.frame_keeps Tells decides f e on i.grew;
  }

  -- ---- a datagram goes

  -- what waits is F, whether or not limits that grew wait
  pub record Sends (d : Draft) : Type 0 where
    pub controls : (c : Control) → control_waits d.end.waiting.frames c ≡ true → F (Frame c)
    pub halves : AllPend IsBuffered F d.end.streams

  pub draft_pends : (leaving : Leaving) (e : End) → MayLeave leaving e → Pends F e → Sends (draft_as leaving e)
  draft_pends leaving e may i = by_leave Sends keep leaving e may (none leaving)
    where
      keep : Writing Sends
      keep (puts.drops kind) d may j = record { controls = λ c is. j.controls c (fewer_wait c kind d.end.waiting.frames is); halves = j.halves }
      keep (puts.control kind f) d may j = record { controls = λ c is. j.controls c (fewer_wait c kind d.end.waiting.frames is); halves = by_told (AllPend IsBuffered F) k f d.end.streams j.halves }
      keep (puts.stream id h room) d (found, first, some, is, more) j = record { controls = j.controls; halves = by_half_frame (AllPend IsBuffered F) k d.end.transport.send_fairness d.end.streams id room h found (λ x. pends_went F id h room x) j.halves }
      keep puts.request d may j = record { controls = λ c is. elim (asked_one c false d.end.waiting.frames is) [ inl was ↦ j.controls c was | inr asked ↦ absurd (let clash : false ≡ true = asked.1 in cc) ]; halves = j.halves }
      keep p d may j = record { controls = j.controls; halves = j.halves }

      none : (l : Leaving) → Sends (no_frames (lazied_as l e))
      none l = record { controls = i.controls; halves = i.halves }
