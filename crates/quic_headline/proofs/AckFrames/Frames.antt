-- A number that is to be acknowledged stays so while frames come, or the peer acknowledges a
-- datagram in flight whose ACK frame has no lesser greatest number.
use Rattle.std.proofs.Common.{◌≡◌, ℕ, ◌≤◌, ◌⊎◌, List, [], ◌∷◌, ◌++◌, Option, Some, None, refl, sym, inl, inr, arith}
use Rattle.std.proofs.lemmas.Bool.{cases_lt}
use Rattle.quic_sets.specs.Runs.{Has}
use Rattle.quic_wire.specs.Value.{FrameValue, AckValue, ack}
use Rattle.quic_recovery_core.proofs.AckRunSteps.{above_in}
use Rattle.quic_streams_parts.specs.Table.{Table}
use Rattle.quic_machine.specs.Tracking.{TrackedPacket, Carried, acked_in}
use Rattle.quic_machine.specs.End.{End}
use Rattle.quic_machine.specs.Acked.{without_known, resets_acked, packet_acked, packets_acked, request_acked}
use Rattle.quic_machine.specs.Sizes.{search_acked}
use Rattle.quic_machine.specs.FrameCases.{streams_acked_keep, resets_acked_keep, packets_lost_keep, frame_leaves, apart_leaves}
use Rattle.quic_headline.specs.Runs.{In}
use Rattle.quic_headline.specs.Observer.{Sent}
use Rattle.quic_headline.proofs.Packets.Invariant.{carried_acks}
use Rattle.quic_headline.proofs.Packets.Waited.{AreWaited}
use Rattle.quic_headline.proofs.Packets.Searches.{search_keeps}
use Rattle.quic_headline.proofs.Packets.Flying.{Flies}
use Rattle.quic_headline.proofs.Places.Told.{in_left, in_right}

-- ---- what the peer knows to be acknowledged

-- One of the datagrams that were acknowledged in flight has an ACK frame whose greatest number
-- isn't below this one.
pub record KnownBy (acked : List Sent) (number : ℕ) : Type 0 where
  pub sent : Sent
  pub among : In sent acked
  pub frame : AckValue
  pub carried : In (ack frame) sent.frames
  pub within : number ≤ frame.largest

-- so it is of each lesser number
pub known_less : (acked : List Sent) (j k : ℕ) → j ≤ k → KnownBy acked k → KnownBy acked j
known_less acked j k le known = (let within = known.within in record { sent = known.sent; among = known.among; frame = known.frame; carried = known.carried; within = omega (arith, le, within) })

-- and where more are acknowledged
known_more : (acked more : List Sent) (number : ℕ) → KnownBy acked number → KnownBy (acked ++ more) number
known_more acked more number known = record { sent = known.sent; among = in_left known.sent acked more known.among; frame = known.frame; carried = known.carried; within = known.within }

-- the greatest number that frames carry is that of an ACK frame
acked_frame : (fs : List FrameValue) (n : ℕ) → acked_in fs ≡ Some n → (a : AckValue) × In (ack a) fs × (a.largest ≡ n)
acked_frame [] n is = cc
acked_frame (ack a ∷ fs) n is = (let same : a.largest ≡ n = cc in (a, inl refl, same))
acked_frame (f ∷ fs) n is = (let rest = acked_frame fs n is in (rest.0, inr rest.1, rest.2))

-- ---- the frames of a packet that comes

module _ (number : ℕ) where
  -- the number is to be acknowledged, or the peer knows that it need not
  abbrev pub Stays : List Sent → End → Type 0
  Stays acked e = Has e.acknowledging.runs number ⊎ KnownBy acked number

  -- where a datagram is acknowledged whose ACK frame has a greatest number, those up to that go
  known_stays : (acked : List Sent) (s : Sent) → In s acked → (o : Option ℕ) → acked_in s.frames ≡ o → (e : End) → Stays acked e → Stays acked (without_known o e)
  known_stays acked s among None is e i = i
  known_stays acked s among (Some n) is e (inr known) = inr known
  known_stays acked s among (Some n) is e (inl has) = elim (cases_lt n number) [
    | inl over ↦ inl (above_in n number e.acknowledging.runs has over)
    | inr under ↦ (
        let frame = acked_frame s.frames n is in
        let same = frame.2 in
        inr (record { sent = s; among = among; frame = frame.0; carried = frame.1; within = omega (arith, same, under) }))
  ]

  -- datagrams are acknowledged, which are tracked as these packets
  acked_stays : (acked ss : List Sent) (ps : Table TrackedPacket) (e : End) → AreWaited ss ps → ((s : Sent) → In s ss → In s acked) → Stays acked e → Stays acked (packets_acked ps e)
  acked_stays acked [] [] e waits among i = i
  acked_stays acked (s ∷ ss) (p ∷ ps) e waits among i =
      let c : Carried = p.1.carried in
      let heard : End = search_acked p e in
      let asked : End = request_acked p.0 heard in
      let knows : End = without_known c.largest_acked asked in
      acked_stays acked ss ps (packet_acked p e) waits.1 (λ t j. among t (inr j))
      (streams_acked_keep (Stays acked) (λ m x j. j) c.stream_frames (resets_acked c.retransmits.reset_stream knows)
      (resets_acked_keep (Stays acked) (λ id x j. j) c.retransmits.reset_stream knows (known_stays acked s (among s (inl refl)) c.largest_acked (sym (carried_acks c s.frames waits.0.carried)) asked i)))
  acked_stays acked [] (p ∷ ps) e waits among i = absurd waits
  acked_stays acked (s ∷ ss) [] e waits among i = absurd waits

  -- so it is of all frames of a packet
  pub stays_flies : (frames : List FrameValue) → Flies frames (λ flying acked e. Stays acked e)
  stays_flies frames = record {
    losing = record {
      tracked = λ flying acked t e i. i;
      searches = λ flying acked lost e i. search_keeps (Stays acked) (λ d x j. j) (λ most x j. j) lost e i;
      loses = λ flying acked gone left ps e inside stays apart waits i. packets_lost_keep (Stays acked) (λ m x j. j) (λ c x j. j) ps e i;
    };
    names = λ flying acked a e among i. i;
    acks = λ flying acked ss left ps e a among inside stays apart waits i. acked_stays (acked ++ ss) ss ps e waits (λ s j. in_right s acked ss j) (more acked ss e i);
    measured = λ flying acked r first e i. i;
    marked = λ flying acked m marking e i. i;
    on_streams = λ flying acked f e among on i. frame_leaves (Stays acked) f e on (λ t. i);
    message = λ flying acked m e i. i;
    apart = λ flying acked f e among apart i. apart_leaves (Stays acked) f e apart (λ c. i) (λ c most. i);
  }
    where
      more : (acked ss : List Sent) (e : End) → Stays acked e → Stays (acked ++ ss) e
      more acked ss e (inl has) = inl has
      more acked ss e (inr known) = inr (known_more acked ss number known)
