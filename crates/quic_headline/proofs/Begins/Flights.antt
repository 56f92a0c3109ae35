-- What begins to wait where a datagram comes or a timer expires: what waited before, what is lost
-- by it, limits that its frames raise, and ids for which they ask.
use Rattle.std.proofs.Common.{◌≡◌, ℕ, ◌+◌, ◌<◌, ◌≤◌, ◌&&◌, Bool, true, false, List, [], ◌∷◌, ◌++◌, length, append-nil, refl, sym, ap, ◌∙◌, subst, ◌⊎◌, inl, inr, arith}
use Rattle.std.specs.Prelude.{◌==◌, nat_lt}
use Rattle.std.specs.List.{list_any}
use Rattle.std.proofs.lemmas.Bool.{or_left, or_right, and_parts, eqb-true, both_ways, ltb-false}
use Rattle.std.proofs.lemmas.List.{append_assoc}
use Rattle.quic_wire.specs.Value.{FrameValue, NewConnectionIdValue, StreamValue, ack, stream, new_connection_id, retire_connection_id}
use Rattle.quic_ids.specs.CidState.{OwnIds}
use Rattle.quic_ids.specs.CidQueue.{PeerIds}
use Rattle.quic_send_buffer.specs.declared.stream_meta.StreamMeta.{StreamMeta}
use Rattle.quic_streams_parts.specs.SendHalf.{meta_of}
use Rattle.quic_streams_parts.specs.Table.{Table}
use Rattle.quic_retransmits.specs.Retransmits.{Retransmits, nothing_waits}
use Rattle.quic_streams_state.specs.declared.state.StreamsState.{StreamsState}
use Rattle.quic_streams_state.specs.Limits.{data_grew}
use Rattle.quic_machine.specs.End.{End}
use Rattle.quic_machine.specs.Ids.{frame_of}
use Rattle.quic_machine.specs.IdFrames.{issues_for}
use Rattle.quic_wire_core.specs.declared.shared.IssuedCid.{IssuedCid}
use Rattle.quic_machine.specs.FrameCases.{Settling, packets_lost_keep, frame_leaves, apart_leaves, issues_may}
use Rattle.quic_machine.specs.Receive.{take_frame}
use Rattle.quic_machine.specs.Steps as steps
use Rattle.quic_machine.specs.Tracking.{Carried, TrackedPacket, streams_in, retransmits_in}
use Rattle.quic_headline.specs.Runs.{In}
use Rattle.quic_headline.specs.Observer.{Sent}
use Rattle.quic_headline.specs.Duties.{AllData, StreamCount, has_new_id}
use Rattle.quic_headline.specs.Waited.{is_path_challenge}
use Rattle.quic_headline.specs.Begins.{Control, LimitOf, NewId, Retirement, control_waits, Thing, Byte, Fin, Frame, Bears, brings_data, is_retirement, retires, may_end}
use Rattle.quic_headline.proofs.Packets.Searches.{search_keeps}
use Rattle.quic_headline.proofs.Packets.Invariant.{IsCarriedFrom, carried_stream, carried_again}
use Rattle.quic_headline.proofs.Packets.Carried.{again_is}
use Rattle.quic_headline.proofs.Packets.Waited.{IsWaited, AreWaited}
use Rattle.quic_headline.proofs.Packets.OfPeer.{peer_frame, peer_taken_up}
use Rattle.quic_headline.proofs.Packets.Flying.{acked_keep, Loses, Flies}
use Rattle.quic_headline.proofs.Places.Told.{in_append}
use Rattle.quic_headline.proofs.Halves.Arrived.{meta_in}
use Rattle.quic_headline.proofs.Duties.OfIds.{insert_keeps}
use Rattle.quic_headline.proofs.Destined.Numbered.{AreNumbered, Retires, issued_near, frame_numbers}
use Rattle.quic_headline.proofs.Begins.Controls.{none_waits, again_said}
use Rattle.quic_headline.proofs.Begins.Called.{IsRaised}
use Rattle.quic_headline.proofs.Begins.Apart.{retires_more, issues_by, apart_waits, leaves_pend}
use Rattle.quic_headline.proofs.Begins.Walk.{PendsAt, pend_more, ids_pend, CarriedIs, acked_pend, lost_pend, taken_pend}

-- ---- what a packet carried stands in its datagram

-- a control frame
pub control_borne : (s : Sent) (c : Carried) → IsCarriedFrom c s.frames → (d : Control) → control_waits c.retransmits d ≡ true → Bears s (Frame d)
control_borne s c from d waits = go (carried_again c s.frames from)
  where
    go : (c.retransmits ≡ retransmits_in s.frames) ⊎ (c.retransmits ≡ nothing_waits) → Bears s (Frame d)
    go (inl same) = again_said d s.frames (ap (λ (r : Retransmits). control_waits r d) (again_is s.frames ∙ sym same) ∙ waits)
    go (inr none) = absurd (both_ways (control_waits c.retransmits d) (ap (λ (r : Retransmits). control_waits r d) none ∙ none_waits d) waits)

-- the bytes of a STREAM frame, and its end
meta_borne : (s : Sent) (m : StreamMeta) → In m (streams_in s.frames) → ((o : ℕ) → m.offsets.start ≤ o → o < m.offsets.end → Bears s (Byte m.id o)) × (m.fin ≡ true → Bears s (Fin m.id))
meta_borne s m i = go (meta_in s.frames m i)
  where
    go : (f : StreamValue) × In (stream f) s.frames × (m ≡ meta_of f) → ((o : ℕ) → m.offsets.start ≤ o → o < m.offsets.end → Bears s (Byte m.id o)) × (m.fin ≡ true → Bears s (Fin m.id))
    go (f, among, is) = subst (λ (n : StreamMeta). ((o : ℕ) → n.offsets.start ≤ o → o < n.offsets.end → Bears s (Byte n.id o)) × (n.fin ≡ true → Bears s (Fin n.id))) (sym is) (
      (λ o from below. record { sent = s; among = inl refl; frame = f; carried = among; of_stream = refl; from = from; below = below }),
      (λ fin. record { sent = s; among = inl refl; frame = f; carried = among; of_stream = refl; fin = fin }),
    )

-- ---- the causes

-- What is known of ids before frames come: the number of the peer's id in use, how many own ids
-- were issued, and how many may live; and the numbers of these that are retired once the frames
-- came.
pub record IdsBefore : Type 0 where
  pub used : ℕ
  pub issued : ℕ
  pub limit : ℕ
  pub retired : List ℕ

-- what waited at first, by what is known of ids then, these datagrams in flight and those
-- acknowledged before, while these frames come, where a limit on all data that grows is Far
module _ (Start : Thing → Type 0) (ids : IdsBefore) (flew before : List Sent) (frames : List FrameValue) (Far : Type 0) where
  abbrev used : ℕ
  used = ids.used

  -- a datagram that bore it was in flight, and is neither still, nor was acknowledged since
  pub record Lost (flying new : List Sent) (q : Thing) : Type 0 where
    pub sent : Sent
    pub flies : In sent flew
    pub gone : In sent flying → ⊥
    pub unnamed : In sent new → ⊥
    pub bore : Bears sent q

  -- a limit that frames raise, an own id where one was retired, behind those that were issued and
  -- below as many as may live and were retired, and a number to be retired where the peer's id of
  -- that number came, below the one in use at first, or others were to be retired
  abbrev pub Raised : Thing → Type 0
  Raised (Frame (LimitOf AllData)) = (list_any brings_data frames ≡ true) × Far
  Raised (Frame (LimitOf (StreamCount dir))) = list_any may_end frames ≡ true
  Raised (Frame (NewId number)) = (list_any is_retirement frames ≡ true) × (ids.issued ≤ number) × (number < ids.limit + length ids.retired)
  Raised (Frame (Retirement number)) = list_any (retires used number) frames ≡ true
  Raised q = ⊥

  abbrev pub By : List Sent → List Sent → Thing → Type 0
  By flying new q = Start q ⊎ (Lost flying new q ⊎ Raised q)

  -- what waits of these streams, and of this besides, waited, or has such a cause
  pub record BegunAt (flying acked : List Sent) (s : StreamsState) (p : Retransmits) : Type 0 where
    pub new : List Sent
    pub more : acked ≡ before ++ new
    pub inside : (u : Sent) → In u flying → In u flew
    pub apart : (u : Sent) → In u flying → In u new → ⊥
    pub pends : PendsAt (By flying new) s p

  -- the peer's id in use isn't above that at first, or frames ask for some to be retired, so any
  -- number may be
  abbrev pub Stays : PeerIds → Type 0
  Stays p = (p.active ≤ used) ⊎ ((number : ℕ) → list_any (retires used number) frames ≡ true)

  -- own ids, as they are counted
  abbrev Counted : OwnIds → ℕ → Type 0
  Counted own may = AreNumbered ids.retired ids.issued ids.limit own may

  -- so it is at an end of whose streams this is known
  abbrev pub Begun : (StreamsState → Type 0) → List Sent → List Sent → End → Type 0
  Begun Spends flying acked e = BegunAt flying acked e.streams e.waiting.frames × Stays e.ids.peer × Counted e.ids.own e.ids.limit × Spends e.streams

  -- where fewer are in flight, and these were acknowledged, which were
  by_fewer : (flying left new ss : List Sent) → ((u : Sent) → In u left → In u flying) → ((u : Sent) → In u ss → In u flying) → (q : Thing) → By flying new q → By left (new ++ ss) q
  by_fewer flying left new ss stays inside q (inl start) = inl start
  by_fewer flying left new ss stays inside q (inr (inl lost)) = inr (inl (record {
    sent = lost.sent;
    flies = lost.flies;
    gone = λ i. lost.gone (stays lost.sent i);
    unnamed = λ i. elim (in_append lost.sent new ss i) [ inl old ↦ lost.unnamed old | inr here ↦ lost.gone (inside lost.sent here) ];
    bore = lost.bore;
  }))
  by_fewer flying left new ss stays inside q (inr (inr raised)) = inr (inr raised)

  -- what a packet carried is lost, whose datagram was in flight, and is neither still nor was
  -- acknowledged
  carried_by : (flying new : List Sent) (s : Sent) (p : ℕ × TrackedPacket) → IsWaited s p → In s flew → (In s flying → ⊥) → (In s new → ⊥) → CarriedIs (By flying new) p.1.carried
  carried_by flying new s p waited there gone unnamed = record {
    metas = λ m i. (let borne = meta_borne s m (carried_stream p.1.carried s.frames waited.carried m i) in record { bytes = λ o from below. lost (Byte m.id o) (borne.0 o from below); fin = λ fin. lost (Fin m.id) (borne.1 fin) });
    controls = λ d waits. lost (Frame d) (control_borne s p.1.carried waited.carried d waits);
  }
    where
      lost : (q : Thing) → Bears s q → By flying new q
      lost q bore = inr (inl (record { sent = s; flies = there; gone = gone; unnamed = unnamed; bore = bore }))

  -- so it is of each of these
  all_carried : (flying new gone : List Sent) (ps : Table TrackedPacket) → ((s : Sent) → In s gone → In s flew) → ((s : Sent) → In s gone → In s flying → ⊥) → ((s : Sent) → In s gone → In s new → ⊥) → AreWaited gone ps → (p : ℕ × TrackedPacket) → In p ps → CarriedIs (By flying new) p.1.carried
  all_carried flying new [] [] there left unnamed w p i = absurd i
  all_carried flying new (s ∷ ss) (q ∷ qs) there left unnamed w p (inl is) = subst (λ (x : ℕ × TrackedPacket). CarriedIs (By flying new) x.1.carried) (sym is) (carried_by flying new s q w.0 (there s (inl refl)) (left s (inl refl)) (unnamed s (inl refl)))
  all_carried flying new (s ∷ ss) (q ∷ qs) there left unnamed w p (inr i) = all_carried flying new ss qs (λ u j. there u (inr j)) (λ u j. left u (inr j)) (λ u j. unnamed u (inr j)) w.1 p i
  all_carried flying new [] (q ∷ qs) there left unnamed w p i = absurd w
  all_carried flying new (s ∷ ss) [] there left unnamed w p i = absurd w

  -- ---- losses

  pub begun_loses : (Spends : StreamsState → Type 0) → Settling (λ (x : End). Spends x.streams) → Loses (Begun Spends)
  begun_loses Spends settles = record {
    tracked = λ flying acked t e i. i;
    searches = λ flying acked lost e i. search_keeps (Begun Spends flying acked) (λ d x j. j) (λ most x j. j) lost e i;
    loses = λ flying acked gone left ps e inside stays apart waited i. (
      record {
        new = i.0.new;
        more = i.0.more;
        inside = λ u j. i.0.inside u (stays u j);
        apart = λ u j. i.0.apart u (stays u j);
        pends = lost_pend (By left i.0.new) ps e
            (all_carried left i.0.new gone ps (λ u j. i.0.inside u (inside u j)) apart (λ u j. i.0.apart u (inside u j)) waited)
            (pend_more (By flying i.0.new) (By left i.0.new) e.streams e.waiting.frames (fewer flying left i.0.new stays) i.0.pends);
      },
      packets_lost_keep (λ (x : End). Stays x.ids.peer) (λ m x j. j) (λ c x j. j) ps e i.1,
      packets_lost_keep (λ (x : End). Counted x.ids.own x.ids.limit) (λ m x j. j) (λ c x j. j) ps e i.2,
      packets_lost_keep (λ (x : End). Spends x.streams) (λ m x j. settles (steps.lost m) x j) (λ c x j. j) ps e i.3,
    );
  }
    where
      fewer : (flying left new : List Sent) → ((u : Sent) → In u left → In u flying) → (q : Thing) → By flying new q → By left new q
      fewer flying left new stays q b = subst (λ (xs : List Sent). By left xs q) (append-nil new) (by_fewer flying left new [] stays (λ u i. absurd i) q b)

  -- ---- the frames of a packet

  -- a frame among these passes a test
  one_passes : (test : FrameValue → Bool) (fs : List FrameValue) (f : FrameValue) → In f fs → test f ≡ true → list_any test fs ≡ true
  one_passes test [] f i is = absurd i
  one_passes test (g ∷ fs) f (inl same) is = or_left (test g) (list_any test fs) (ap test (sym same) ∙ is)
  one_passes test (g ∷ fs) f (inr i) is = or_right (test g) (list_any test fs) (one_passes test fs f i is)

  -- what brings data may end a stream
  data_ends : (f : FrameValue) → brings_data f ≡ true → may_end f ≡ true
  data_ends (ack a) is = refl
  data_ends f is = is

  raised_by : (f : FrameValue) → In f frames → brings_data f ≡ true → (flying new : List Sent) (c : Control) (s : StreamsState) → (data_grew s.receiving ≡ true → Far) → IsRaised s c → By flying new (Frame c)
  raised_by f among is flying new (LimitOf AllData) s far raised = inr (inr (one_passes brings_data frames f among is, far raised))
  raised_by f among is flying new (LimitOf (StreamCount dir)) s far raised = inr (inr (one_passes may_end frames f among (data_ends f is)))
  raised_by f among is flying new c s far raised = absurd raised

  -- ids that wait to be told are drawn, which keep their numbers
  pub ids_begun : (flying acked : List Sent) (e : End) (ids : List IssuedCid) → ((n : ℕ) → has_new_id n ids ≡ true → has_new_id n e.waiting.frames.new_cids ≡ true) → BegunAt flying acked e.streams e.waiting.frames → BegunAt flying acked e.streams (record e.waiting.frames { new_cids = ids })
  ids_begun flying acked e ids same i = record {
    new = i.new;
    more = i.more;
    inside = i.inside;
    apart = i.apart;
    pends = ids_pend (By flying i.new) e.streams e.waiting.frames ids e.waiting.frames.retire_cids (λ n is. i.pends.controls (NewId n) (same n is)) (λ n is. i.pends.controls (Retirement n) is) i.pends;
  }

  -- what a frame of these may retire by the id that is in use as it comes, these may by the one at
  -- first
  retired_by : (f : FrameValue) → In f frames → (p : PeerIds) → Stays p → (n : ℕ) → retires p.active n f ≡ true → list_any (retires used n) frames ≡ true
  retired_by f among p (inl low) n may = one_passes (retires used n) frames f among (retires_more f p.active used n low may)
  retired_by f among p (inr any) n may = any n

  -- only one that asks for some to be retired has another id used
  frame_stays : (f : FrameValue) → In f frames → (e : End) → Stays e.ids.peer → Stays (take_frame f e).end.ids.peer
  frame_stays f among e i = peer_frame Stays f e (λ g is. brings g is (nat_lt 0 g.retire_prior_to) refl) i
    where
      brings : (g : NewConnectionIdValue) → f ≡ new_connection_id g → (b : Bool) → nat_lt 0 g.retire_prior_to ≡ b → Stays (take_frame (new_connection_id g) e).end.ids.peer
      brings g is true asks = inr (λ n. one_passes (retires used n) frames f among (ap (λ (h : FrameValue). retires used n h) is ∙ or_right ((g.sequence == n) && nat_lt n used) (nat_lt 0 g.retire_prior_to) asks))
      brings g is false none =
          let low = ltb-false 0 g.retire_prior_to none in
          let same = insert_keeps e.ids.peer (frame_of g) (omega arith) in
          peer_taken_up Stays g e (subst (λ (n : ℕ). (n ≤ used) ⊎ ((number : ℕ) → list_any (retires used number) frames ≡ true)) (sym same) i) i

  -- where frames retire numbers that are, one is issued that may be
  issued_by : (f : FrameValue) → In f frames → Retires ids.retired f → (e : End) → Counted e.ids.own e.ids.limit → (n : ℕ) → issues_by f e n ≡ true → Raised (Frame (NewId n))
  issued_by (retire_connection_id k) among may e i n is =
      let both = and_parts (issues_for k e) (n == e.ids.own.issued) is in
      let same = eqb-true n e.ids.own.issued both.1 in
      let near = issued_near ids.retired ids.issued ids.limit k e.ids (issues_may k e both.0) may i in
      let more = i.more in
      (one_passes is_retirement frames (retire_connection_id k) among refl, omega arith, omega arith)
  issued_by f among may e i n is = cc

  -- where what is known of streams is kept by each frame, and by what else these bring, and a limit
  -- on all data that grew is Far by that
  pub begun_flies : (Spends : StreamsState → Type 0) → Settling (λ (x : End). Spends x.streams) → ((f : FrameValue) (e : End) → In f frames → Spends e.streams → Spends (take_frame f e).end.streams) → ((s : StreamsState) → Spends s → data_grew s.receiving ≡ true → Far)
      → ((f : FrameValue) → In f frames → Retires ids.retired f) → Flies frames (Begun Spends)
  begun_flies Spends settles spends far retires_these = record {
    losing = begun_loses Spends settles;
    names = λ flying acked a e among i. i;
    acks = λ flying acked ss left ps e a among inside stays apart waited i. (
      record {
        new = i.0.new ++ ss;
        more = ap (λ (xs : List Sent). xs ++ ss) i.0.more ∙ append_assoc before i.0.new ss;
        inside = λ u j. i.0.inside u (stays u j);
        apart = λ u j k. elim (in_append u i.0.new ss k) [ inl old ↦ i.0.apart u (stays u j) old | inr here ↦ apart u here j ];
        pends = acked_pend (By left (i.0.new ++ ss)) (λ dir. inr (inr (one_passes may_end frames (ack a) among refl))) ps e
            (pend_more (By flying i.0.new) (By left (i.0.new ++ ss)) e.streams e.waiting.frames (by_fewer flying left i.0.new ss stays inside) i.0.pends);
      },
      acked_keep (λ (x : End). Stays x.ids.peer) (λ d x j. j) (λ n x j. j) (λ n x j. j) (λ id x j. j) (λ m x j. j) ps e i.1,
      acked_keep (λ (x : End). Counted x.ids.own x.ids.limit) (λ d x j. j) (λ n x j. j) (λ n x j. j) (λ id x j. j) (λ m x j. j) ps e i.2,
      acked_keep (λ (x : End). Spends x.streams) (λ d x j. j) (λ n x j. j) (λ n x j. j) (λ id x j. settles (steps.reset id) x j) (λ m x j. settles (steps.acked m) x j) ps e i.3,
    );
    measured = λ flying acked r first e i. i;
    marked = λ flying acked counts marking e i. i;
    on_streams = λ flying acked f e among on i. (
      record {
        new = i.0.new;
        more = i.0.more;
        inside = i.0.inside;
        apart = i.0.apart;
        pends = taken_pend (By flying i.0.new) f e on (λ is c raised. raised_by f among is flying i.0.new c (take_frame f e).end.streams (far (take_frame f e).end.streams (spends f e among i.3)) raised) i.0.pends;
      },
      frame_leaves (λ (x : End). Stays x.ids.peer) f e on (λ t. i.1),
      frame_leaves (λ (x : End). Counted x.ids.own x.ids.limit) f e on (λ t. i.2),
      spends f e among i.3,
    );
    message = λ flying acked m e i. i;
    apart = λ flying acked f e among is i. (
      record {
        new = i.0.new;
        more = i.0.more;
        inside = i.0.inside;
        apart = i.0.apart;
        pends = leaves_pend (By flying i.0.new) e (take_frame f e).end (is_path_challenge f) (λ n. issues_by f e n) (λ n. retires e.ids.peer.active n f) (apart_waits f e is) (apart_leaves (λ (x : End). x.streams ≡ e.streams) f e is (λ c. refl) (λ c most. refl))
            (λ n issues. inr (inr (issued_by f among (retires_these f among) e i.2 n issues))) (λ n may. inr (inr (retired_by f among e.ids.peer i.1 n may))) i.0.pends;
      },
      frame_stays f among e i.1,
      frame_numbers ids.retired ids.issued ids.limit f e (retires_these f among) i.2,
      spends f e among i.3,
    );
  }
