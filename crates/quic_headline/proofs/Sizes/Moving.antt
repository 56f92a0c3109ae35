-- How the size moves while an open end takes the frames of a packet, against what its observer
-- knows to be in flight: it grows to that of a probe that is acknowledged, or falls to the least
-- that is configured.
use Rattle.std.proofs.Common.{◌≡◌, ◌⊎◌, ℕ, ◌≤◌, List, [], ◌∷◌, ◌++◌, Option, Some, None, inl, inr, refl, sym, ap, ◌∙◌, subst, arith}
use Rattle.std.proofs.lemmas.List.{append_assoc, append-nil}
use Rattle.quic_config.specs.declared.mtu_discovery.TheConstants.{MAX_UDP_PAYLOAD}
use Rattle.quic_congestion.specs.Search.{Discovery, acknowledged_probe, after_ack}
use Rattle.quic_congestion.specs.SearchBounds.{IsSized}
use Rattle.quic_congestion.proofs.SizedSearch.{sized_acked}
use Rattle.quic_streams_parts.specs.Table.{Table}
use Rattle.quic_wire.specs.Value.{FrameValue}
use Rattle.quic_machine.specs.Tracking.{TrackedPacket}
use Rattle.quic_machine.specs.End.{End}
use Rattle.quic_machine.specs.Acked.{packet_acked, packets_acked, request_acked}
use Rattle.quic_machine.specs.Sizes.{after_lost, search_acked}
use Rattle.quic_machine.specs.FrameCases.{packets_lost_keep, by_searched, frame_leaves, apart_leaves}
use Rattle.quic_headline.specs.Runs.{In}
use Rattle.quic_headline.specs.Observer.{Sent}
use Rattle.quic_headline.proofs.Packets.Waited.{AreWaited}
use Rattle.quic_headline.proofs.Packets.Flying.{Loses, Flies}
use Rattle.quic_headline.proofs.Packets.Sizes.{Sizing, sized_lost, carried_same}
use Rattle.quic_headline.proofs.Places.Told.{in_left, in_right}
use Rattle.quic_headline.proofs.Sizes.Search.{Fewer, IsShut, Falls, acked_fewer, acked_least, acked_size, lost_fewer, lost_least_stays, lost_falls}
use Rattle.quic_headline.specs.Telling.{IsPinged}
use Rattle.quic_headline.proofs.Sizes.Probed.{Probes}

-- One of these was acknowledged: PING and zeros alone, of this size.
pub record CameBy (flew acked : List Sent) (size : ℕ) : Type 0 where
  pub sent : Sent
  pub among : In sent flew
  pub came : In sent acked
  pub pinged : IsPinged sent
  pub sized : sent.size ≡ size

-- the size is as it was; or it fell to the least one, and no probe is open; or it grew to that of
-- such a one
abbrev pub HasMoved : List Sent → List Sent → ℕ → ℕ → Discovery → Type 0
HasMoved flew acked least before d = (d.size ≡ before) ⊎ (((d.size ≡ least) × IsShut d) ⊎ ((before ≤ d.size) × CameBy flew acked d.size))

-- So it moves from the first size, where these were in flight; what is in flight still is of these.
pub record Moving (flew : List Sent) (least before : ℕ) (flying acked : List Sent) (d : Discovery) : Type 0 where
  pub inside : (s : Sent) → In s flying → In s flew
  pub sized : IsSized least MAX_UDP_PAYLOAD d
  pub floor : d.bursts.least ≡ least
  pub probes : Probes flew d
  pub moved : HasMoved flew acked least before d

module _ (flew : List Sent) (least before : ℕ) where
  -- fewer are in flight
  pub fewer_fly : (flying left acked : List Sent) (d : Discovery) → ((s : Sent) → In s left → In s flying) → Moving flew least before flying acked d → Moving flew least before left acked d
  fewer_fly flying left acked d stays m = record { inside = λ s i. m.inside s (stays s i); sized = m.sized; floor = m.floor; probes = m.probes; moved = m.moved }

  -- with another list of those that were acknowledged, which has these
  more_came : (acked more : List Sent) (d : Discovery) → HasMoved flew acked least before d → HasMoved flew (acked ++ more) least before d
  more_came acked more d (inl same) = inl same
  more_came acked more d (inr (inl fell)) = inr (inl fell)
  more_came acked more d (inr (inr grew)) = (let c = grew.1 in inr (inr (grew.0, record { sent = c.sent; among = c.among; came = in_left c.sent acked more c.came; pinged = c.pinged; sized = c.sized })))

  -- packets are lost
  falls_moved : (acked : List Sent) (d f : Discovery) → d.bursts.least ≡ least → Fewer d f → Falls d f → HasMoved flew acked least before d → HasMoved flew acked least before f
  falls_moved acked d f floor fewer (inr fell) m = inr (inl (fell.0 ∙ floor, fell.1))
  falls_moved acked d f floor fewer (inl same) (inl was) = inl (same ∙ was)
  falls_moved acked d f floor fewer (inl same) (inr (inl fell)) = inr (inl (same ∙ fell.0, λ n size is. fell.1 n size (fewer n size is)))
  falls_moved acked d f floor fewer (inl same) (inr (inr grew)) = inr (inr (subst (λ (n : ℕ). (before ≤ n) × CameBy flew acked n) (sym same) grew))

  lost_moving : (now : ℕ) (lost : Table TrackedPacket) (flying acked : List Sent) (d : Discovery) → Moving flew least before flying acked d → Moving flew least before flying acked (after_lost now lost d)
  lost_moving now lost flying acked d m = record {
    inside = m.inside;
    sized = sized_lost least MAX_UDP_PAYLOAD now lost d m.sized;
    floor = lost_least_stays now lost d ∙ m.floor;
    probes = λ s among size is. m.probes s among size (lost_fewer now lost d s.number size is);
    moved = falls_moved acked d (after_lost now lost d) m.floor (lost_fewer now lost d) (lost_falls now lost d) m.moved;
  }

  -- one is acknowledged
  acked_moved : (s : Sent) (n length : ℕ) (acked : List Sent) (d : Discovery) → n ≡ s.number → In s flew → IsSized least MAX_UDP_PAYLOAD d → d.bursts.least ≡ least → Probes flew d → HasMoved flew acked least before d
      → HasMoved flew (acked ++ s ∷ []) least before (after_ack n length d)
  acked_moved s n length acked d number among sized floor probes m = go (acknowledged_probe n d) refl
    where
      f : Discovery
      f = after_ack n length d

      grows : d.size ≤ f.size
      grows = (sized_acked least MAX_UDP_PAYLOAD n length d sized).1

      -- the size of the probe
      came : (size : ℕ) → acknowledged_probe n d ≡ Some size → before ≤ d.size → HasMoved flew (acked ++ s ∷ []) least before f
      came size is low =
          let found = probes s among size (ap (λ (k : ℕ). acknowledged_probe k d) (sym number) ∙ is) in
          inr (inr (omega (arith, low, grows), record { sent = s; among = among; came = in_right s acked (s ∷ []) (inl refl); pinged = found.0; sized = found.1 ∙ sym (acked_size n length d (Some size) is) }))

      probed : (size : ℕ) → acknowledged_probe n d ≡ Some size → HasMoved flew acked least before d → HasMoved flew (acked ++ s ∷ []) least before f
      probed size is (inl same) = came size is (omega (arith, same))
      probed size is (inr (inl fell)) = absurd (fell.1 n size is)
      probed size is (inr (inr grew)) = came size is grew.0

      go : (o : Option ℕ) → acknowledged_probe n d ≡ o → HasMoved flew (acked ++ s ∷ []) least before f
      go (Some size) is = probed size is m
      go None is = falls_moved (acked ++ s ∷ []) d f floor (acked_fewer n length d) (inl (acked_size n length d None is)) (more_came acked (s ∷ []) d m)

  acked_moving : (s : Sent) (n length : ℕ) (flying acked : List Sent) (d : Discovery) → n ≡ s.number → In s flew → Moving flew least before flying acked d → Moving flew least before flying (acked ++ s ∷ []) (after_ack n length d)
  acked_moving s n length flying acked d number among m = record {
    inside = m.inside;
    sized = (sized_acked least MAX_UDP_PAYLOAD n length d m.sized).0;
    floor = acked_least n length d ∙ m.floor;
    probes = λ t i size is. m.probes t i size (acked_fewer n length d t.number size is);
    moved = acked_moved s n length acked d number among m.sized m.floor m.probes m.moved;
  }

  -- what of an end moves
  abbrev pub Moves : List Sent → List Sent → End → Type 0
  Moves flying acked e = Moving flew least before flying acked e.path.discovery

  -- some are acknowledged, one after another
  all_moving : (flying acked ss : List Sent) (ps : Table TrackedPacket) (e : End) → ((s : Sent) → In s ss → In s flew) → AreWaited ss ps → Moves flying acked e → Moves flying (acked ++ ss) (packets_acked ps e)
  all_moving flying acked [] [] e inside w m = rw (append-nil acked) m
  all_moving flying acked (s ∷ ss) (p ∷ ps) e inside w m =
      let d : Discovery = e.path.discovery in
      let left : (packet_acked p e).path.discovery ≡ after_ack p.0 p.1.size d = ap (λ (x : Sizing). x.discovery) (carried_same p.1.carried (request_acked p.0 (search_acked p e))) in
      let one : Moves flying (acked ++ s ∷ []) (packet_acked p e) = subst (λ (f : Discovery). Moving flew least before flying (acked ++ s ∷ []) f) (sym left) (acked_moving s p.0 p.1.size flying acked d w.0.number (inside s (inl refl)) m) in
      subst (λ (bs : List Sent). Moves flying bs (packets_acked ps (packet_acked p e))) (append_assoc acked (s ∷ []) ss)
      (all_moving flying (acked ++ s ∷ []) ss ps (packet_acked p e) (λ t i. inside t (inr i)) w.1 one)
  all_moving flying acked [] (p ∷ ps) e inside w m = absurd w
  all_moving flying acked (s ∷ ss) [] e inside w m = absurd w

  -- losses leave it so
  moving_loses : Loses Moves
  moving_loses = record {
    tracked = λ flying acked t e m. m;
    searches = λ flying acked lost e m.
        let heard = lost_moving e.closing.clock lost flying acked e.path.discovery m in
        by_searched (after_lost e.closing.clock lost e.path.discovery) e (Moves flying acked) heard (λ most. heard);
    loses = λ flying acked gone left ps e inside stays apart w m.
        let same = packets_lost_keep (λ (x : End). x.path.discovery ≡ e.path.discovery) (λ m x i. i) (λ c x i. i) ps e refl in
        subst (λ (d : Discovery). Moving flew least before left acked d) (sym same) (fewer_fly flying left acked e.path.discovery stays m);
  }

  -- and so do the frames of a packet
  pub moving_flies : (frames : List FrameValue) → Flies frames Moves
  moving_flies frames = record {
    losing = moving_loses;
    names = λ flying acked a e among m. m;
    acks = λ flying acked ss left ps e a among inside stays apart w m. all_moving left acked ss ps e (λ s i. m.inside s (inside s i)) w (fewer_fly flying left acked e.path.discovery stays m);
    measured = λ flying acked r first e m. m;
    marked = λ flying acked counts marking e m. m;
    on_streams = λ flying acked f e among on m. frame_leaves (Moves flying acked) f e on (λ t. m);
    message = λ flying acked q e m. m;
    apart = λ flying acked f e among apart m. apart_leaves (Moves flying acked) f e apart (λ c. m) (λ c most. m);
  }
