-- What ACK frames name: an end that takes some waits for no packet more, and where the peer took
-- what they name, each packet that is acknowledged was taken.
use Rattle.std.proofs.Common.{◌≡◌, ℕ, Bool, true, false, not, List, [], ◌∷◌, filter, cond, Option, Some, None, refl, sym, ap, ◌∙◌, subst, inl, inr, length}
use Rattle.quic_wire.specs.Value.{FrameValue, AckValue, ack, stream, reset_stream, stop_sending, max_data, max_stream_data, max_streams, datagram}
use Rattle.quic_send_buffer.specs.declared.stream_meta.StreamMeta.{StreamMeta}
use Rattle.quic_streams_parts.specs.Table.{Table}
use Rattle.quic_machine.specs.Arrival.{Arrival}
use Rattle.quic_machine.specs.Policy.{Policy}
use Rattle.quic_time.specs.Timers.{Timers}
use Rattle.quic_recovery_core.specs.PendingAcks.{Pending}
use Rattle.quic_machine.specs.Closing.{Closing, ticked}
use Rattle.quic_machine.specs.Tracking.{Tracking, TrackedPacket, Carried, acked_by, is_lost, lost_by, after_detection}
use Rattle.quic_machine.specs.LeaveCases.{at_losses}
use Rattle.quic_machine.specs.Parts.{Messaging}
use Rattle.quic_machine.specs.End.{End, with_closing, with_messages, with_ping}
use Rattle.quic_machine.specs.Acked.{without_known, resets_acked, stream_acked, streams_acked, packet_acked, packets_acked, stream_lost, streams_lost, carried_lost, packets_lost, verdict, losses_detected, measured, sampled, without_acked, after_named, losses_taken, request_acked}
use Rattle.quic_machine.specs.Receive.{Progress, is_above, names_ungiven, take_message, take_frame, received}
use Rattle.quic_machine.specs.Steps.{Step, after}
use Rattle.quic_machine.specs.Steps as steps
use Rattle.quic_machine.specs.FrameCases.{resets_acked_keep, OnStreams, named, ack_taken, passed, message_leaves, frame_keeps, frame_leaves, frames_leave, by_received, by_marks, IsApart, apart_leaves}
use Rattle.quic_headline.specs.Runs.{Packet, In, IsTaken, names}
use Rattle.quic_headline.specs.Observer.{Sent}
use Rattle.quic_headline.proofs.Packets.Searches.{by_losses, losses_searched}
use Rattle.quic_headline.proofs.Packets.Invariant.{IsCarriedFrom, AreTracked, RisingFrom, WereSent}
use Rattle.quic_headline.proofs.Packets.Rising.{one_number}
use Rattle.quic_machine.specs.Sizes.{search_acked}
use Rattle.quic_machine.specs.Validation.{Asked, with_asked}
use Rattle.quic_headline.proofs.Packets.Moved.{by_migrated}

-- ---- fewer packets

-- what is among some is among all
pub in_filter : {X : Type 0} (f : X → Bool) (x : X) (xs : List X) → In x (filter f xs) → In x xs
in_filter f x [] i = i
in_filter f x (y ∷ xs) i = go (f y) i (in_filter f x xs)
  where
    go : (b : Bool) → In x (cond b (y ∷ filter f xs) (filter f xs)) → (In x (filter f xs) → In x xs) → In x (y ∷ xs)
    go true (inl is) later = inl is
    go true (inr more) later = inr (later more)
    go false more later = inr (later more)

-- and chosen
pub filter_chose : {X : Type 0} (f : X → Bool) (x : X) (xs : List X) → In x (filter f xs) → f x ≡ true
filter_chose f x [] i = absurd i
filter_chose f x (y ∷ xs) i = go (f y) refl i (filter_chose f x xs)
  where
    go : (b : Bool) → f y ≡ b → In x (cond b (y ∷ filter f xs) (filter f xs)) → (In x (filter f xs) → f x ≡ true) → f x ≡ true
    go true on (inl is) later = ap f is ∙ on
    go true on (inr more) later = later more
    go false off more later = later more

-- each packet that an end waits for, another waited for
abbrev pub WaitsForFewer : End → End → Type 0
WaitsForFewer e f = (n : ℕ) (t : TrackedPacket) → In (n, t) f.tracking.packets → In (n, t) e.tracking.packets

-- measuring a round trip leaves what is tracked
pub sampled_tracking : (o : Option TrackedPacket) (a : AckValue) (e : End) → (sampled o a e).tracking ≡ e.tracking
sampled_tracking None a e = refl
sampled_tracking (Some p) a e = refl

-- so it is where losses are detected
pub losses_fewer : (e : End) → WaitsForFewer e (losses_detected e)
losses_fewer e = by_losses (λ (x : End). WaitsForFewer e x) e (λ discovery queues n t i. in_filter (λ q. not (is_lost (verdict e) q)) (n, t) e.tracking.packets i)

-- and after an ACK frame that names these
named_fewer : (ps : Table TrackedPacket) (rises : Bool) (a : AckValue) (e : End) → WaitsForFewer e (after_named ps rises a e)
named_fewer [] rises a e n t i = i
named_fewer (p ∷ ps) rises a e n t i =
    let o = measured rises a (p ∷ ps) in
    let left = without_acked (p ∷ ps) a e in
    let taken = losses_taken (p ∷ ps) rises a e in
    let there : In (n, t) taken.tracking.packets = by_marks rises (length (p ∷ ps)) a taken (λ (x : End). In (n, t) x.tracking.packets → In (n, t) taken.tracking.packets) (λ m marking j. j) i in
    let timed : In (n, t) (sampled o a left).tracking.packets = losses_fewer (sampled o a left) n t there in
    in_filter (λ q. not (names a q.0)) (n, t) e.tracking.packets (subst (λ (x : Tracking). In (n, t) x.packets) (sampled_tracking o a left) timed)

-- after any frame, behind what was left
pub frame_fewer : (e : End) (f : FrameValue) (x : End) → WaitsForFewer e x → WaitsForFewer e (take_frame f x).end
frame_fewer e = frame_keeps (WaitsForFewer e) (record {
  ack = λ rises a x w n t i. w n t (named_fewer (acked_by a x.tracking.packets) rises a (named a x) n t i);
  on_streams = λ f x on w. frame_leaves (WaitsForFewer e) f x on (λ streams. w);
  apart = λ f x is w. apart_leaves (WaitsForFewer e) f x is (λ c. w) (λ c most. w);
  message = λ m x w. w;
})

-- whatever comes adds none
pub received_fewer : (p : Policy) (e : End) (arrival : Arrival) (d : List ℕ) → WaitsForFewer e (received p e arrival d).end
received_fewer p e arrival d = by_received (WaitsForFewer e) (record {
  notes = λ n x w. w;
  begins = λ now n x w. w;
  frame = frame_fewer e;
  takes = λ n asks urged mark x w. w;
  closes = λ reason x w. w;
  drains = λ close x w. w;
  asks_close = λ x w. w;
  exhausts = λ now x w. w;
  draws = λ words x w. w;
  moves = λ q o remote x w. by_migrated (WaitsForFewer e) q o remote x (λ c. w) (λ c most. w);
}) p e arrival d (λ n t i. i)

-- so each tracked packet was given still
pub tracked_received : (p : Policy) (e : End) (arrival : Arrival) (d : List ℕ) (sents : List Sent) → AreTracked sents e.tracking.packets → AreTracked sents (received p e arrival d).end.tracking.packets
tracked_received p e arrival d sents before n t i = before n t (received_fewer p e arrival d n t i)

-- ---- what an ACK frame acknowledges, and what counts as lost

-- an ACK frame names only numbers of packets that were taken
abbrev pub NamesTaken : List Packet → AckValue → Type 0
NamesTaken took a = (k : ℕ) → names a k ≡ true → IsTaken took k

-- the packets that were taken stand among what was sent, by rising numbers
pub record Stands (took : List Packet) (sents : List Sent) : Type 0 where
  pub taken : WereSent sents took
  pub rising : RisingFrom 0 sents

-- what a packet carried that was taken
pub record WasCarried (took : List Packet) (c : Carried) : Type 0 where
  pub packet : Packet
  pub was_taken : In packet took
  pub is : IsCarriedFrom c packet.frames

-- what a datagram carried that was sent
pub record IsCarriedBy (sents : List Sent) (c : Carried) : Type 0 where
  pub sent : Sent
  pub among : In sent sents
  pub is : IsCarriedFrom c sent.frames

module _ (took : List Packet) (sents : List Sent) (stands : Stands took sents) where
  -- a tracked packet that an ACK frame names carried what a packet did that was taken
  pub named_carried : (a : AckValue) (packets : Table TrackedPacket) → NamesTaken took a → AreTracked sents packets → (n : ℕ) (t : TrackedPacket) → In (n, t) (acked_by a packets) → WasCarried took t.carried
  named_carried a packets takes tracked n t i =
      let was = tracked n t (in_filter (λ p. names a p.0) (n, t) packets i) in
      let arrived = takes n (filter_chose (λ p. names a p.0) (n, t) packets i) in
      let found = stands.taken arrived.packet arrived.was_taken in
      let same : found.sent ≡ was.0 = one_number 0 sents found.sent was.0 stands.rising found.is.0 was.1.0 (found.is.1 ∙ arrived.is ∙ sym was.1.1) in
      record {
        packet = arrived.packet;
        was_taken = arrived.was_taken;
        is = subst (λ (fs : List FrameValue). IsCarriedFrom t.carried fs) (ap (λ (s : Sent). s.frames) (sym same) ∙ found.frames) was.2;
      }

-- one that is tracked carried what was sent
pub tracked_carried : (sents : List Sent) (packets : Table TrackedPacket) → AreTracked sents packets → (n : ℕ) (t : TrackedPacket) → In (n, t) packets → IsCarriedBy sents t.carried
tracked_carried sents packets tracked n t i = let was = tracked n t i in record { sent = was.0; among = was.1.0; is = was.2 }

-- ---- steps

-- where a step may be taken: of what is acknowledged the one holds, and of what is lost the other
abbrev pub MayIf : (Carried → Type 0) → (Carried → Type 0) → Step → Type 0
MayIf Acked Lost (steps.acked m) = (c : Carried) × Acked c × In m c.stream_frames
MayIf Acked Lost (steps.lost m) = (c : Carried) × Lost c × In m c.stream_frames
MayIf Acked Lost (steps.again c) = Lost c
MayIf Acked Lost s = Unit {0}

-- a fact that each such step keeps
abbrev pub SettlesIf : (Carried → Type 0) → (Carried → Type 0) → (End → Type 0) → Type 0
SettlesIf Acked Lost P = (s : Step) (e : End) → MayIf Acked Lost s → P e → P (after s e)

-- what packets carried is so
abbrev pub CarryIf : (Carried → Type 0) → Table TrackedPacket → Type 0
CarryIf C packets = (n : ℕ) (t : TrackedPacket) → In (n, t) packets → C t.carried

module _ (Acked Lost : Carried → Type 0) (P : End → Type 0) (s : SettlesIf Acked Lost P) where
  -- what the peer knows of, if anything
  known_on : (o : Option ℕ) (e : End) → P e → P (without_known o e)
  known_on None e i = i
  known_on (Some n) e i = s (steps.known n) e tt i

  -- its STREAM frames, acknowledged
  acked_on : (c : Carried) → Acked c → (ms : List StreamMeta) (e : End) → ((m : StreamMeta) → In m ms → In m c.stream_frames) → P e → P (streams_acked ms e)
  acked_on c was [] e inside i = i
  acked_on c was (m ∷ ms) e inside i = acked_on c was ms (stream_acked m e) (λ q j. inside q (inr j)) (s (steps.acked m) e (c, was, inside m (inl refl)) i)

  -- or lost
  lost_on : (c : Carried) → Lost c → (ms : List StreamMeta) (e : End) → ((m : StreamMeta) → In m ms → In m c.stream_frames) → P e → P (streams_lost ms e)
  lost_on c was [] e inside i = i
  lost_on c was (m ∷ ms) e inside i = lost_on c was ms (stream_lost m e) (λ q j. inside q (inr j)) (s (steps.lost m) e (c, was, inside m (inl refl)) i)

  -- packets are acknowledged
  packets_on : (ps : Table TrackedPacket) (e : End) → CarryIf Acked ps → P e → P (packets_acked ps e)
  packets_on [] e was i = i
  packets_on (p ∷ ps) e was i =
      let c : Carried = p.1.carried in
      let here : Acked c = was p.0 p.1 (inl refl) in
      let heard : End = search_acked p e in
      let asked : End = request_acked p.0 heard in
      let knows : End = without_known c.largest_acked asked in
      let reset : End = resets_acked c.retransmits.reset_stream knows in
      packets_on ps (packet_acked p e) (λ n t j. was n t (inr j))
      (acked_on c here c.stream_frames reset (λ m j. j) (resets_acked_keep P (λ id x j. s (steps.reset id) x tt j) c.retransmits.reset_stream knows (known_on c.largest_acked asked (s (steps.answered p.0) heard tt (s (steps.searched heard.path.discovery) e tt i)))))

  -- and lost
  losses_on : (ps : Table TrackedPacket) (e : End) → CarryIf Lost ps → P e → P (packets_lost ps e)
  losses_on [] e was i = i
  losses_on (p ∷ ps) e was i =
      let c : Carried = p.1.carried in
      let here : Lost c = was p.0 p.1 (inl refl) in
      losses_on ps (carried_lost c e) (λ n t j. was n t (inr j)) (s (steps.again c) (streams_lost c.stream_frames e) here (lost_on c here c.stream_frames e (λ m j. j) i))

  -- losses are detected
  detected_on : (e : End) → CarryIf Lost e.tracking.packets → P e → P (losses_detected e)
  detected_on e tracked i =
      let lost = lost_by (verdict e) e.tracking.packets in
      losses_searched P (λ d x j. s (steps.searched d) x tt j) (λ most x j. s (steps.shortens most) x tt j) e (s (steps.tracked (after_detection (verdict e) e.tracking)) (packets_lost lost e) tt (losses_on lost e (λ n t j. tracked n t (in_filter (is_lost (verdict e)) (n, t) e.tracking.packets j)) i))

  -- a round trip is measured, if one is
  sampled_on : (o : Option TrackedPacket) (a : AckValue) (e : End) → P e → P (sampled o a e)
  sampled_on None a e i = i
  sampled_on (Some p) a e i = s (steps.measured (sampled (Some p) a e).path.rtt (sampled (Some p) a e).path.first_after_rtt) e tt i

  -- an ACK frame that names these packets
  pub named_on : (ps : Table TrackedPacket) (rises : Bool) (a : AckValue) (e : End) → CarryIf Acked ps → CarryIf Lost e.tracking.packets → P e → P (after_named ps rises a e)
  named_on [] rises a e was tracked i = i
  named_on (p ∷ ps) rises a e was tracked i =
      let o = measured rises a (p ∷ ps) in
      let left : End = without_acked (p ∷ ps) a e in
      let timed : End = sampled o a left in
      let stay : CarryIf Lost left.tracking.packets = (λ n t j. tracked n t (in_filter (λ q. not (names a q.0)) (n, t) e.tracking.packets j)) in
      let rest : CarryIf Lost timed.tracking.packets = subst (λ (x : Tracking). CarryIf Lost x.packets) (sym (sampled_tracking o a left)) stay in
      let acked : P left = s (steps.tracked left.tracking) (packets_acked (p ∷ ps) e) tt (packets_on (p ∷ ps) e was i) in
      let taken : End = losses_taken (p ∷ ps) rises a e in
      let kept : P taken = s (steps.tracked taken.tracking) (losses_detected timed) tt (detected_on timed rest (sampled_on o a left acked)) in
      by_marks rises (length (p ∷ ps)) a taken P (λ m marking. s (steps.marked m marking) taken tt kept)

-- where what is acknowledged is a STREAM frame that stood in a packet that was taken, and what is
-- lost stood in one that was sent
abbrev pub MayOn : List Packet → List Sent → Step → Type 0
MayOn took sents s = MayIf (WasCarried took) (IsCarriedBy sents) s

-- a fact that each such step keeps
abbrev pub SettlesOn : List Packet → List Sent → (End → Type 0) → Type 0
SettlesOn took sents P = SettlesIf (WasCarried took) (IsCarriedBy sents) P

module _ (took : List Packet) (sents : List Sent) (P : End → Type 0) (s : SettlesOn took sents P) where
  -- losses that a timeout detects, where the clock may go on
  pub expired_on : (e : End) (now : ℕ) → ((c : Closing) (x : End) → P x → P (with_closing x c)) → ((acks : Pending) (timers : Timers) (waits : Bool) (asked : Asked) (x : End) → P x → P (with_asked (with_ping (record x { acknowledging = acks; timers = timers }) waits) asked)) → AreTracked sents e.tracking.packets → P e
      → (acks : Pending) (timers : Timers) (waits : Bool) (asked : Asked) → P (at_losses e now acks timers waits asked)
  expired_on e now passes times tracked i acks timers waits asked =
      let begins : End = with_closing e (ticked e.closing now) in
      times acks timers waits asked (losses_detected begins) (detected_on (WasCarried took) (IsCarriedBy sents) P s begins (tracked_carried sents begins.tracking.packets tracked) (passes (ticked e.closing now) e i))

-- ---- frames of a packet that an end takes

-- what holds over the frames of a packet: its ACK frames settle what they do, its frames on streams
-- leave them so, its messages wait to be read, and those apart leave it
pub record TakesOn (took : List Packet) (sents : List Sent) (frames : List FrameValue) (P : End → Type 0) : Type 0 where
  pub settles : SettlesOn took sents P
  -- the greatest number of an ACK frame counts
  pub names : (a : AckValue) (e : End) → In (ack a) frames → P e → P (named a e)
  pub on_streams : (f : FrameValue) (e : End) → In f frames → OnStreams f → P e → P (take_frame f e).end
  pub message : (m : Messaging) (e : End) → P e → P (with_messages e m)
  pub apart : (f : FrameValue) (e : End) → In f frames → IsApart f → P e → P (take_frame f e).end

-- a frame that is no ACK frame
abbrev pub IsNoAck : FrameValue → Type 0
IsNoAck (ack a) = ⊥
IsNoAck f = Unit {0}

-- a frame is an ACK frame, one on streams, a message, or one apart from these
pub by_frame : (f : FrameValue) (e : End) (Q : FrameValue → Progress → Type 0) → ((a : AckValue) → ack a ≡ f → Q (ack a) (ack_taken (names_ungiven a e) a e)) → (IsNoAck f → OnStreams f → Q f (take_frame f e))
    → (IsNoAck f → (m : Messaging) → (take_frame f e).end ≡ with_messages e m → Q f (take_frame f e)) → (IsNoAck f → IsApart f → Q f (take_frame f e)) → Q f (take_frame f e)
by_frame (ack a) e Q acks on same apart = acks a refl
by_frame (stream f) e Q acks on same apart = on tt tt
by_frame (reset_stream f) e Q acks on same apart = on tt tt
by_frame (stop_sending f) e Q acks on same apart = on tt tt
by_frame (max_data limit) e Q acks on same apart = on tt tt
by_frame (max_stream_data f) e Q acks on same apart = on tt tt
by_frame (max_streams f) e Q acks on same apart = on tt tt
by_frame (datagram m) e Q acks on same apart = same tt (take_message m e).end.messages (message_leaves (λ (x : End). x ≡ with_messages e x.messages) m e refl (λ left. refl))
by_frame f e Q acks on same apart = apart tt tt

module _ (took : List Packet) (sents : List Sent) (stands : Stands took sents) (frames : List FrameValue) (P : End → Type 0) (c : TakesOn took sents frames P) where
  -- an ACK frame, taken or refused
  ack_on : (b : Bool) (a : AckValue) (e : End) → In (ack a) frames → NamesTaken took a → AreTracked sents e.tracking.packets → P e → P (ack_taken b a e).end
  ack_on true a e among takes tracked i = i
  ack_on false a e among takes tracked i =
      named_on (WasCarried took) (IsCarriedBy sents) P c.settles (acked_by a e.tracking.packets) (is_above e.numbers.largest_acked a.largest) a (named a e) (named_carried took sents stands a e.tracking.packets takes tracked) (tracked_carried sents e.tracking.packets tracked) (c.names a e among i)

  -- one frame
  frame_on : (f : FrameValue) (e : End) → In f frames → ((a : AckValue) → In (ack a) frames → NamesTaken took a) → AreTracked sents e.tracking.packets → P e → P (take_frame f e).end
  frame_on f e among takes tracked i =
      by_frame f e (λ g p. P p.end) (λ a is. (let there : In (ack a) frames = subst (λ (g : FrameValue). In g frames) (sym is) among in ack_on (names_ungiven a e) a e there (takes a there) tracked i))
      (λ other on. c.on_streams f e among on i) (λ other m same. subst P (sym same) (c.message m e i)) (λ other apart. c.apart f e among apart i)

  -- what holds over such frames, while what is waited for was given
  record Going (left : List FrameValue) (e : End) : Type 0 where
    inside : (f : FrameValue) → In f left → In f frames
    tracked : AreTracked sents e.tracking.packets
    holds : P e

  -- what each step keeps holds behind all frames of the packet, taken or refused, where its ACK
  -- frames name packets that were taken
  pub frames_settle : (e : End) → ((a : AckValue) → In (ack a) frames → NamesTaken took a) → AreTracked sents e.tracking.packets → P e → P (passed frames e).end
  frames_settle e takes tracked i =
      let all = frames_leave Going (λ f left x g. record {
        inside = λ h j. g.inside h (inr j);
        tracked = λ n t j. g.tracked n t (frame_fewer x f x (λ m u k. k) n t j);
        holds = frame_on f x (g.inside f (inl refl)) takes g.tracked g.holds;
      }) frames e (record { inside = λ f j. j; tracked = tracked; holds = i }) in
      all.1.holds
