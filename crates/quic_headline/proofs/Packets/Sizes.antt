-- The size of an end's datagrams stays between the least that each path carries and what its peer
-- takes, whatever the search for a greater one comes to.
use Rattle.std.proofs.Common.{◌≡◌, ℕ, Bool, true, false, List, [], ◌∷◌, length, Option, Some, None, refl, sym, subst}
use Rattle.std.specs.Prelude.{◌==◌, not}
use Rattle.std.proofs.lemmas.Bool.{eqb-true}
use Rattle.quic_congestion.specs.Search.{Discovery, ProbeLost, PacketLost, is_number, open_probe, after_poll}
use Rattle.quic_congestion.specs.SearchBounds.{IsSized}
use Rattle.quic_congestion.proofs.SizedSearch.{keeps_sized, sized_polled, sized_acked, sized_asked}
use Rattle.quic_streams_parts.specs.Table.{Table}
use Rattle.quic_machine.specs.Tracking.{TrackedPacket, Carried, acked_by, lost_by, after_detection}
use Rattle.std.specs.Prelude.{Result, Ok, Err}
use Rattle.quic_wire.specs.Value.{FrameValue, AckValue, ack, stream, reset_stream, stop_sending, max_data, max_stream_data, max_streams, datagram}
use Rattle.quic_messages.specs.declared.errors.ReceivedError.{ReceivedError}
use Rattle.quic_messages.specs.Messages.{received_answer}
use Rattle.quic_machine.specs.declared.run.Call.{Call}
use Rattle.quic_machine.specs.declared.run.Answer.{Answer}
use Rattle.quic_machine.specs.Policy.{Policy}
use Rattle.quic_machine.specs.Parts.{Path}
use Rattle.quic_machine.specs.Arrival.{Arrival}
use Rattle.quic_machine.specs.Timeouts.{Expiry}
use Rattle.quic_machine.specs.Closing.{ticked}
use Rattle.quic_machine.specs.End.{End, with_closing, with_tracking, closed_by}
use Rattle.quic_machine.specs.Acked.{without_known, resets_acked, carried_acked, packet_acked, packets_acked, packets_lost, verdict, losses_detected, measured, sampled, without_acked, losses_taken, after_named, request_acked}
use Rattle.quic_machine.specs.Receive.{is_above, names_ungiven, message_judged, take_frame, received}
use Rattle.quic_machine.specs.Poll.{Polled, polled}
use Rattle.quic_machine.specs.Machine.{after_call}
use Rattle.quic_machine.specs.FrameCases.{streams_acked_keep, resets_acked_keep, packets_lost_keep, by_marks, by_searched, IsApart, apart_leaves, named, ack_taken, by_received}
use Rattle.quic_machine.specs.LeaveCases.{at_expiry, by_expired}
use Rattle.quic_machine.specs.PollCases.{ready_at, draft_at, by_poll_to, composes, may_leave_at}
use Rattle.quic_machine.specs.CallCases.{Plain, by_plain_call}
use Rattle.quic_machine.specs.CallCases as cases
use Rattle.quic_headline.proofs.Messages.Counted.{received_leaves}
use Rattle.quic_headline.proofs.Packets.Probes.{by_going}
use Rattle.quic_headline.proofs.Packets.Searches.{ready_searched}
use Rattle.quic_machine.specs.Sizes.{is_resized, others_of, with_one_lost, with_all_lost, with_lost, asked_behind, after_lost, search_acked, search_lost}
use Rattle.quic_headline.proofs.Packets.Apart.{by_waits, by_next_id}
use Rattle.quic_headline.proofs.Packets.Closes.{by_closes}
use Rattle.quic_headline.proofs.Packets.Moved.{by_migrated}
use Rattle.quic_machine.specs.Migration.{migrated}
use Rattle.quic_packet.specs.Datagram.{Opening}

-- ---- packets that are lost

one_sized : (least most : ℕ) (b : Bool) (p : ℕ × TrackedPacket) (d : Discovery) → IsSized least most d → IsSized least most (with_one_lost b p d)
one_sized least most true p d h = keeps_sized least most ProbeLost d tt h
one_sized least most false p d h = keeps_sized least most (PacketLost p.0 p.1.size) d tt h

all_sized : (least most : ℕ) (probe : Option ℕ) (ps : Table TrackedPacket) (d : Discovery) → IsSized least most d → IsSized least most (with_all_lost probe ps d)
all_sized least most probe [] d h = h
all_sized least most probe (p ∷ ps) d h = all_sized least most probe ps (with_one_lost (is_number p.0 probe) p d) (one_sized least most (is_number p.0 probe) p d h)

pub sized_lost : (least most now : ℕ) (lost : Table TrackedPacket) (d : Discovery) → IsSized least most d → IsSized least most (after_lost now lost d)
sized_lost least most now lost d h = asked (others_of d lost) (all_sized least most (open_probe d) lost d h)
  where
    asked : (ps : Table TrackedPacket) → IsSized least most (with_lost lost d) → IsSized least most (asked_behind ps now (with_lost lost d))
    asked [] i = i
    asked (p ∷ ps) i = sized_asked least most now (with_lost lost d) i

-- where a search doesn't change the size, it is the same
pub same_size : (d f : Discovery) → is_resized d f ≡ false → f.size ≡ d.size
same_size d f same = go (d.size == f.size) refl same
  where
    go : (b : Bool) → (d.size == f.size) ≡ b → not b ≡ false → f.size ≡ d.size
    go true is same = sym (eqb-true d.size f.size is)
    go false is same = cc

-- ---- the search of an end

-- what of an end says how long its messages may be: the search for a size, what the peer takes, and
-- how long its id is; and the messages that wait
pub record Sizing : Type 0 where
  pub discovery : Discovery
  pub frame : ℕ
  pub width : ℕ
  pub outgoing : List (List ℕ)

abbrev pub sizing : End → Sizing
sizing e = record { discovery = e.path.discovery; frame = e.peer_params.max_datagram_frame_size; width = length e.ids.peer.id; outgoing = e.messages.queues.outgoing }

-- what stays of that where packets are acknowledged, and where packets are lost
pub record Searching (Q : Sizing → Type 0) : Type 0 where
  pub acks : (p : ℕ × TrackedPacket) (e : End) → Q (sizing e) → Q (sizing (search_acked p e))
  pub loses : (lost : Table TrackedPacket) (e : End) → Q (sizing e) → Q (sizing (search_lost lost e))

-- what else an acknowledged packet changes is none of that
pub carried_same : (carried : Carried) (e : End) → sizing (carried_acked carried e) ≡ sizing e
carried_same carried e = streams_acked_keep (λ (x : End). sizing x ≡ sizing e) (λ m x same. same) carried.stream_frames (resets_acked carried.retransmits.reset_stream (without_known carried.largest_acked e))
    (resets_acked_keep (λ (x : End). sizing x ≡ sizing e) (λ id x same. same) carried.retransmits.reset_stream (without_known carried.largest_acked e) (knows carried.largest_acked))
  where
    knows : (o : Option ℕ) → sizing (without_known o e) ≡ sizing e
    knows None = refl
    knows (Some n) = refl

module _ (Q : Sizing → Type 0) (c : Searching Q) where
  packets_size : (ps : Table TrackedPacket) (e : End) → Q (sizing e) → Q (sizing (packets_acked ps e))
  packets_size [] e i = i
  packets_size (p ∷ ps) e i = packets_size ps (packet_acked p e) (subst Q (sym (carried_same p.1.carried (request_acked p.0 (search_acked p e)))) (c.acks p e i))

  -- losses are detected
  pub losses_size : (e : End) → Q (sizing e) → Q (sizing (losses_detected e))
  losses_size e i =
      let lost = lost_by (verdict e) e.tracking.packets in
      let same = packets_lost_keep (λ (x : End). sizing x ≡ sizing e) (λ m x same. same) (λ carried x same. same) lost e refl in
      c.loses lost (with_tracking (packets_lost lost e) (after_detection (verdict e) e.tracking)) (subst Q (sym same) i)

  sampled_size : (o : Option TrackedPacket) (a : AckValue) (e : End) → Q (sizing e) → Q (sizing (sampled o a e))
  sampled_size None a e i = i
  sampled_size (Some p) a e i = i

  -- an ACK frame that names these packets
  named_size : (ps : Table TrackedPacket) (rises : Bool) (a : AckValue) (e : End) → Q (sizing e) → Q (sizing (after_named ps rises a e))
  named_size [] rises a e i = i
  named_size (p ∷ ps) rises a e i =
      let left : End = without_acked (p ∷ ps) a e in
      let found = losses_size (sampled (measured rises a (p ∷ ps)) a left) (sampled_size (measured rises a (p ∷ ps)) a left (packets_size (p ∷ ps) e i)) in
      by_marks rises (length (p ∷ ps)) a (losses_taken (p ∷ ps) rises a e) (λ (x : End). Q (sizing x)) (λ m marking. found)

  -- a frame comes, where those apart from streams leave it so
  pub taken_size : (f : FrameValue) (e : End) → (IsApart f → Q (sizing (take_frame f e).end)) → Q (sizing e) → Q (sizing (take_frame f e).end)
  taken_size (ack a) e apart i = go (names_ungiven a e)
    where
      go : (b : Bool) → Q (sizing (ack_taken b a e).end)
      go true = i
      go false = named_size (acked_by a e.tracking.packets) (is_above e.numbers.largest_acked a.largest) a (named a e) i
  taken_size (datagram m) e apart i = go (received_answer e.transport.datagram_receive_buffer_size m e.messages.queues)
    where
      go : (r : Result Bool ReceivedError) → Q (sizing (message_judged r m e).end)
      go (Ok first) = subst (λ (ms : List (List ℕ)). Q (record (sizing e) { outgoing = ms })) (sym (received_leaves e.transport.datagram_receive_buffer_size m e.messages.queues)) i
      go (Err error) = i
  taken_size (stream f) e apart i = i
  taken_size (reset_stream f) e apart i = i
  taken_size (stop_sending f) e apart i = i
  taken_size (max_data limit) e apart i = i
  taken_size (max_stream_data f) e apart i = i
  taken_size (max_streams f) e apart i = i
  taken_size f e apart i = apart tt

  -- a datagram comes, where frames apart from streams leave it so, and another path does
  pub received_size : ((f : FrameValue) (x : End) → IsApart f → Q (sizing x) → Q (sizing (take_frame f x).end)) → ((p : Policy) (o : Opening) (remote : ℕ) (x : End) → Q (sizing x) → Q (sizing (migrated p o remote x))) → (p : Policy) (e : End) (arrival : Arrival) (d : List ℕ) → Q (sizing e) → Q (sizing (received p e arrival d).end)
  received_size apart moves p e arrival d i = by_received (λ (x : End). Q (sizing x)) (record {
    notes = λ n x j. j;
    begins = λ time n x j. j;
    frame = λ f x j. taken_size f x (λ is. apart f x is j) j;
    takes = λ n asks urged mark x j. j;
    closes = λ reason x j. j;
    drains = λ close x j. j;
    asks_close = λ x j. j;
    exhausts = λ now x j. j;
    draws = λ words x j. j;
    moves = moves;
  }) p e arrival d i

  -- timers expire
  pub expired_size : (words : ℕ → ℕ) (e : End) (now : ℕ) (expiry : Expiry) → Q (sizing e) → Q (sizing (at_expiry words e now expiry))
  expired_size words e now expiry i = by_expired words e now (λ (x : End). Q (sizing x)) (λ pending tracking timers waits asked runs packets. i) (λ pending timers waits asked runs. losses_size (with_closing e (ticked e.closing now)) i) (λ x j. j) expiry

-- what stays where the search is asked stays behind a poll
pub polled_search : (Q : Discovery → Type 0) → ((now number : ℕ) (d : Discovery) → Q d → Q (after_poll now number d)) → (p : Policy) (e : End) (now : ℕ) → Q e.path.discovery → Q (polled p e now).end.path.discovery
polled_search Q asks p e now i = by_poll_to p e now (λ (q : Polled). Q q.end.path.discovery) (record {
  silent = i;
  failed = i;
  nothing = λ is none. ready;
  repeats = λ is. by_closes p (with_closing e (ticked e.closing now)) (λ (q : Polled). Q q.end.path.discovery) i (λ f goes. i);
  closes = λ reason bound. by_closes p (closed_by reason (ready_at e now).end) (λ (q : Polled). Q q.end.path.discovery) ready (λ f goes. ready);
  gives = λ is may some. by_going (λ (x : End). Q x.path.discovery) p (draft_at e now) (λ pacing. subst (λ (x : Path). Q x.discovery) (sym (composes (ready_at e now).leaving (ready_at e now).end (may_leave_at e now)).path) ready);
})
  where
    ready : Q (ready_at e now).end.path.discovery
    ready = ready_searched Q asks e now i

-- ---- any call

module _ (least most : ℕ) where
  -- the size of an end is such
  abbrev pub HasSize : End → Type 0
  HasSize e = IsSized least most e.path.discovery

  searching : Searching (λ s. IsSized least most s.discovery)
  searching = record {
    acks = λ p e h. (sized_acked least most p.0 p.1.size e.path.discovery h).0;
    loses = λ lost e h. by_searched (after_lost e.closing.clock lost e.path.discovery) e HasSize
        (sized_lost least most e.closing.clock lost e.path.discovery h) (λ longest. sized_lost least most e.closing.clock lost e.path.discovery h);
  }

  -- no call makes it another
  pub sized_call : (p : Policy) (e : End) (theirs : List (List ℕ)) (call : Call) (a : Answer) → HasSize e → HasSize (after_call p e theirs call a)
  sized_call p e theirs call a h = by_plain_call p e theirs HasSize call a keep
    where
      keep : Plain p e call HasSize
      keep (cases.times now expiry) may = expired_size (λ s. IsSized least most s.discovery) searching p.words e now expiry h
      keep (cases.polls now) may = polled_search (IsSized least most) (sized_polled least most) p e now h
      keep (cases.hears arrival d) may = received_size (λ s. IsSized least most s.discovery) searching (λ f x is i. apart_leaves HasSize f x is (λ c. i) (λ c longest. i)) (λ q o remote x i. by_migrated HasSize q o remote x (λ c. i) (λ c longest. i)) p e arrival d h
      keep (cases.waits now b) may = by_waits HasSize b (with_closing e (ticked e.closing now)) h h
      keep (cases.changes_id b) may = by_next_id HasSize e b h (λ c. h) (λ c longest. h)
      keep c may = h
