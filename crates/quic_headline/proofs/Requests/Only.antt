-- A request of how often to acknowledge waits only where an end is to ask: while it waits, and
-- while a tracked packet has one that goes again if it is lost, G holds. So H does with
-- HANDSHAKE_DONE. Each call keeps that, where G holds if the peer is to be asked anew, and H if it
-- is said by the call that the handshake is done.
use Rattle.std.proofs.Common.{◌≡◌, ℕ, Bool, true, false, not, List, [], ◌∷◌, length, Option, Some, None, Ok, refl, sym, ap, ◌∙◌, subst, inl, inr, arith}
use Rattle.std.specs.List.{list_any}
use Rattle.std.specs.Prelude.{slice_get}
use Rattle.std.proofs.lemmas.Bool.{or_cases}
use Rattle.quic_wire.specs.Value.{FrameValue, AckValue}
use Rattle.quic_streams_parts.specs.Table.{Table}
use Rattle.quic_retransmits.specs.Retransmits.{Retransmits, merged}
use Rattle.quic_streams_state.specs.Acked.{after_stream_acked, after_reset_acked}
use Rattle.quic_machine.specs.declared.run.Call.{Call}
use Rattle.quic_machine.specs.declared.run.Call.TheVariants as calls
use Rattle.quic_machine.specs.declared.run.Answer.{Answer}
use Rattle.quic_machine.specs.declared.run.Answer.TheVariants as answers
use Rattle.quic_machine.specs.Arrival.{Arrival, delivered_by}
use Rattle.quic_machine.specs.Policy.{Policy}
use Rattle.quic_machine.specs.Closing.{ticked}
use Rattle.quic_machine.specs.Parts.{Waiting}
use Rattle.quic_machine.specs.Tracking.{Tracking, TrackedPacket, Carried, names, acked_by, is_lost, lost_by, without_record}
use Rattle.quic_machine.specs.End.{End, streams_at, with_closing, number_of, closed_by}
use Rattle.quic_machine.specs.Calls.{is_open}
use Rattle.quic_machine.specs.StreamCalls.{after_on_streams}
use Rattle.quic_machine.specs.Acked.{streams_lost, carried_lost, packets_lost, packets_acked, verdict, losses_detected, measured, sampled, without_acked, after_named, losses_taken}
use Rattle.quic_machine.specs.Receive.{take_frame}
use Rattle.quic_machine.specs.Poll.{Polled, Draft, packet_of, tracked, record_moved, polled, probed, request_queued, asks_anew}
use Rattle.quic_machine.specs.PollCases.{ready_at, draft_at, composes, may_leave_at, probe_leaves, by_poll_to}
use Rattle.quic_machine.specs.LeaveCases.{by_expired, by_event}
use Rattle.quic_machine.specs.FrameCases.{named, frame_keeps, frame_leaves, apart_leaves, by_marks, by_received}
use Rattle.quic_machine.specs.CallCases.{is_delivery, is_poll, is_done_call, by_call}
use Rattle.quic_machine.specs.Handshake.{end_on_done}
use Rattle.quic_machine.specs.Machine.{after_delivered, after_call, says_last}
use Rattle.quic_headline.specs.Runs.{In, says_done}
use Rattle.quic_headline.specs.InFlight.{is_ack_frequency, again_in}
use Rattle.quic_headline.proofs.Packets.Apart.{by_waits, by_next_id}
use Rattle.quic_headline.proofs.Packets.Carried.{carried_same}
use Rattle.quic_headline.proofs.Packets.Closes.{by_closes}
use Rattle.quic_headline.proofs.Packets.Flying.{acked_keep}
use Rattle.quic_headline.proofs.Packets.Named.{in_filter}
use Rattle.quic_headline.proofs.Packets.Probes.{by_readied, by_going, in_put}
use Rattle.quic_headline.proofs.Packets.Searches.{by_losses}
use Rattle.quic_headline.proofs.Packets.TrackedSteps.{in_sent}
use Rattle.quic_headline.proofs.Halves.PileSteps.{acked_same, reset_acked_same}
use Rattle.quic_headline.proofs.Steps.Probes.{begun}
use Rattle.quic_headline.proofs.Duties.Requests.{SameFlag, same_flag, streams_flag, call_flag, lost_wait}
use Rattle.quic_headline.proofs.Requests.Asks.{by_of, is_anew, anew_is}
use Rattle.quic_headline.proofs.Requests.Drafts.{Has, has_none, has_one, draft_has, count_any}
use Rattle.quic_headline.proofs.Packets.Moved.{by_migrated}
use Rattle.quic_headline.proofs.Waited.Flags.{confirmed, IsSaid, draft_said}

module _ (G H : Type 0) where
  -- where a request waits, G holds, and H where HANDSHAKE_DONE does
  abbrev pub Waits : Retransmits → Type 0
  Waits p = (p.ack_frequency ≡ true → G) × (p.handshake_done ≡ true → H)

  -- so it does where one of these packets has one that goes again
  abbrev pub Bear : Table TrackedPacket → Type 0
  Bear ps = (q : ℕ × TrackedPacket) → In q ps → Waits q.1.carried.retransmits

  -- and so it is at an end
  pub record Only (e : End) : Type 0 where
    pub waits : Waits e.waiting.frames
    pub bear : Bear e.tracking.packets

  -- where the same waits
  same_waits : (p q : Retransmits) → SameFlag p q → Waits p → Waits q
  same_waits p q same w = ((λ set. w.0 (sym same.0 ∙ set)), λ set. w.1 (sym same.1 ∙ set))

  -- what waits, and what has to be sent again
  merged_waits : (p q : Retransmits) → Waits p → Waits q → Waits (merged p q)
  merged_waits p q w v = (
    (λ set. elim (or_cases p.ack_frequency q.ack_frequency set) [ inl was ↦ w.0 was | inr new ↦ v.0 new ]),
    (λ set. elim (or_cases p.handshake_done q.handshake_done set) [ inl was ↦ w.1 was | inr new ↦ v.1 new ]),
  )

  -- ---- losses

  -- what lost packets carried waits
  lost_only : (ps : Table TrackedPacket) (e : End) → Waits e.waiting.frames → Bear ps → Waits (packets_lost ps e).waiting.frames
  lost_only [] e waits bear = waits
  lost_only (p ∷ ps) e waits bear = lost_only ps (carried_lost c e) one (λ q i. bear q (inr i))
    where
      c : Carried
      c = p.1.carried

      one : Waits (carried_lost c e).waiting.frames
      one = merged_waits (streams_lost c.stream_frames e).waiting.frames c.retransmits (subst (λ (w : Waiting). Waits w.frames) (sym (lost_wait c.stream_frames e)) waits) (bear p (inl refl))

  -- where losses are detected
  detected_only : (e : End) → Only e → Only (losses_detected e)
  detected_only e i = by_losses Only e (λ discovery queues. record {
    waits = lost_only (lost_by (verdict e) e.tracking.packets) e i.waits (λ q j. i.bear q (in_filter (is_lost (verdict e)) q e.tracking.packets j));
    bear = λ q j. i.bear q (in_filter (λ p. not (is_lost (verdict e) p)) q e.tracking.packets j);
  })

  -- ---- frames

  -- packets that are acknowledged leave what waits
  acked_only : (ps : Table TrackedPacket) (e : End) → Waits e.waiting.frames → Waits (packets_acked ps e).waiting.frames
  acked_only = acked_keep (λ (e : End). Waits e.waiting.frames) (λ d e i. i) (λ n e i. i) (λ n e i. i)
      (λ id e i. same_waits e.waiting.frames (after_reset_acked e.streams e.waiting.frames id).pending (same_flag _ _ (reset_acked_same e.streams e.waiting.frames id)) i)
      (λ m e i. same_waits e.waiting.frames (after_stream_acked e.streams e.waiting.frames m).pending (same_flag _ _ (acked_same e.streams e.waiting.frames m)) i)

  -- a round trip is measured, if one is
  sampled_only : (o : Option TrackedPacket) (a : AckValue) (e : End) → Only e → Only (sampled o a e)
  sampled_only None a e i = i
  sampled_only (Some p) a e i = record { waits = i.waits; bear = i.bear }

  -- an ACK frame that names these
  named_only : (ps : Table TrackedPacket) (rises : Bool) (a : AckValue) (e : End) → Only e → Only (after_named ps rises a e)
  named_only [] rises a e i = i
  named_only (p ∷ ps) rises a e i = by_marks rises (length (p ∷ ps)) a (losses_taken (p ∷ ps) rises a e) Only (λ m marking. record { waits = found.waits; bear = found.bear })
    where
      left : Only (without_acked (p ∷ ps) a e)
      left = record { waits = acked_only (p ∷ ps) e i.waits; bear = λ q j. i.bear q (in_filter (λ r. not (names a r.0)) q e.tracking.packets j) }

      timed : End
      timed = sampled (measured rises a (p ∷ ps)) a (without_acked (p ∷ ps) a e)

      found : Only (losses_detected timed)
      found = detected_only timed (sampled_only (measured rises a (p ∷ ps)) a (without_acked (p ∷ ps) a e) left)

  -- any frame
  frame_only : (f : FrameValue) (e : End) → Only e → Only (take_frame f e).end
  frame_only = frame_keeps Only (record {
    ack = λ rises a x i. named_only (acked_by a x.tracking.packets) rises a (named a x) (record { waits = i.waits; bear = i.bear });
    on_streams = λ f x on i. record { waits = same_waits x.waiting.frames (take_frame f x).end.waiting.frames (streams_flag f x on) i.waits; bear = frame_leaves (λ (y : End). Bear y.tracking.packets) f x on (λ t. i.bear) };
    message = λ m x i. record { waits = i.waits; bear = i.bear };
    apart = λ f x is i. apart_leaves Only f x is (λ c. record { waits = i.waits; bear = i.bear }) (λ c most. record { waits = i.waits; bear = i.bear });
  })

  -- whatever comes
  delivered_only : (p : Policy) (e : End) (arrival : Arrival) (o : Option (List ℕ)) → Only e → Only (after_delivered p e arrival o)
  delivered_only p e arrival None i = i
  delivered_only p e arrival (Some d) i = by_received Only (record {
    notes = λ n x j. record { waits = j.waits; bear = j.bear };
    begins = λ now n x j. record { waits = j.waits; bear = j.bear };
    frame = frame_only;
    takes = λ n asks urged mark x j. record { waits = j.waits; bear = j.bear };
    closes = λ reason x j. record { waits = j.waits; bear = j.bear };
    drains = λ close x j. record { waits = j.waits; bear = j.bear };
    asks_close = λ x j. record { waits = j.waits; bear = j.bear };
    exhausts = λ now x j. record { waits = j.waits; bear = j.bear };
    draws = λ words x j. record { waits = j.waits; bear = j.bear };
    moves = λ q o remote x j. by_migrated Only q o remote x (λ c. record { waits = j.waits; bear = j.bear }) (λ c most. record { waits = j.waits; bear = j.bear });
  }) p e arrival d i

  -- ---- a call but a poll and a delivery

  -- where it is said that the handshake is done
  confirms_only : (e : End) (a : Answer) → (says_done calls.HandshakeDone a ≡ true → H) → Only e → Only (end_on_done e a)
  confirms_only e (answers.HandshakeDone (Ok done)) says i = record { waits = (i.waits.0, λ set. says refl); bear = i.bear }
  confirms_only e a says i = i

  -- where nothing is queued but that, and what is lost
  quiet_only : (p : Policy) (e : End) (theirs : List (List ℕ)) (call : Call) (a : Answer) → is_delivery call ≡ false → is_poll call ≡ false → (says_done call a ≡ true → H) → Only e → Only (after_call p e theirs call a)
  quiet_only p e theirs call a apart other says i = by_call p e theirs Only call a (record {
    same = i;
    on_streams = λ on answer. record { waits = same_waits e.waiting.frames (after_on_streams (is_open e.closing.state) (streams_at e) call a).pending (call_flag (is_open e.closing.state) (streams_at e) call a) i.waits; bear = i.bear };
    on_messages = λ on answer. record { waits = i.waits; bear = i.bear };
    pings = record { waits = i.waits; bear = i.bear };
    closes = λ reason f now own. record { waits = i.waits; bear = i.bear };
    waits = λ now b set. by_waits Only b (with_closing e (ticked e.closing now)) (record { waits = i.waits; bear = i.bear }) (record { waits = i.waits; bear = i.bear });
    changes_id = λ uses answer. by_next_id Only e a i (λ c. record { waits = i.waits; bear = i.bear }) (λ c most. record { waits = i.waits; bear = i.bear });
    says_handshake = λ is answer. said call a is says;
    times = λ now expiry set. by_expired p.words e now Only (λ pending tracking timers waits asked runs packets. record { waits = i.waits; bear = subst Bear (sym packets) i.bear })
        (λ pending timers waits asked runs. (let lost = detected_only (with_closing e (ticked e.closing now)) (record { waits = i.waits; bear = i.bear }) in record { waits = lost.waits; bear = lost.bear })) (λ x j. record { waits = j.waits; bear = j.bear }) expiry;
    polls = λ now set. cc;
    hears = λ arrival d set. cc;
    tells = λ asks. by_event e Only (record { waits = i.waits; bear = i.bear }) (record { waits = i.waits; bear = i.bear }) (λ told. record { waits = i.waits; bear = i.bear });
  })
    where
      said : (k : Call) (b : Answer) → is_done_call k ≡ true → (says_done k b ≡ true → H) → Only (end_on_done e b)
      said calls.HandshakeDone b is tells = confirms_only e b tells i
      said k b is tells = cc

  -- ---- a poll

  module _ (e : End) (now : ℕ) (anew : is_anew (by_of e) ≡ true → G) (i : Only e) where
    -- what a probe says again waits, and its packet has it no more
    moved : (q : ℕ × TrackedPacket) → In q e.tracking.packets → Only (record_moved (Some q) (with_closing e (ticked e.closing now)))
    moved q among = record {
      waits = merged_waits e.waiting.frames q.1.carried.retransmits i.waits (i.bear q among);
      bear = λ r j. elim (in_put e.tracking.packets q.0 (without_record q.1) r j) [ inl old ↦ i.bear r old | inr new ↦ subst (λ (y : ℕ × TrackedPacket). Waits y.1.carried.retransmits) (sym new) ((λ set. cc), λ set. cc) ];
    }

    -- one is queued where the peer is to be asked
    queued : (x : End) → by_of x ≡ by_of e → Only x → Only (request_queued x)
    queued x same j = record {
      waits = ((λ set. elim (or_cases (asks_anew x.transport.ack_frequency_config x) x.waiting.frames.ack_frequency set) [ inl asks ↦ anew (ap is_anew (sym same) ∙ sym (anew_is x) ∙ asks) | inr was ↦ j.waits.0 was ]), j.waits.1);
      bear = j.bear;
    }

    -- an end that is ready
    pub ready_only : Only (ready_at e now).end
    ready_only = by_readied Only e now (record { waits = i.waits; bear = i.bear }) (λ ping immediate x j. record { waits = j.waits; bear = j.bear }) (λ j. queued (probed (begun e now)) (ap by_of (probe_leaves (begun e now))) j) moved
        (λ moment pacing discovery x j. record { waits = j.waits; bear = j.bear })

    abbrev r : End
    r = (ready_at e now).end

    abbrev d : Draft
    d = draft_at e now

    -- its draft has a request only where one waited
    has : Has r d
    has = draft_has (ready_at e now).leaving r (may_leave_at e now)

    draft_waits : Has r d → d.end.waiting.frames.ack_frequency ≡ true → G
    draft_waits (has_none count same still) set = ready_only.waits.0 (sym still ∙ set)
    draft_waits (has_one count next told waited gone) set = ready_only.waits.0 waited

    draft_bears : Has r d → list_any is_ack_frequency d.frames ≡ true → G
    draft_bears (has_none count same still) set = let some = count_any d.frames set in absurd (omega arith)
    draft_bears (has_one count next told waited gone) set = ready_only.waits.0 waited

    -- and HANDSHAKE_DONE
    said : IsSaid r.waiting confirmed d
    said = draft_said r.waiting confirmed (ready_at e now).leaving r (may_leave_at e now) refl

    -- what has to be sent again of it
    again : Waits (again_in d.frames)
    again = (draft_bears has, λ set. ready_only.waits.1 (said.waited set))

    -- it is tracked as it goes
    tracked_only : Only (tracked d)
    tracked_only = record {
      waits = (draft_waits has, λ set. ready_only.waits.1 (said.waits set));
      bear = λ q j. elim (in_sent d.end.tracking (number_of d.end) (packet_of d) q j) [
        | inl old ↦ ready_only.bear q (subst (λ (t : Tracking). In q t.packets) (composes (ready_at e now).leaving r (may_leave_at e now)).tracking old)
        | inr new ↦ subst (λ (y : ℕ × TrackedPacket). Waits y.1.carried.retransmits) (sym new) (subst (λ (c : Carried). Waits c.retransmits) (carried_same d.frames) again)
      ];
    }

    pub polled_only : (p : Policy) → Only (polled p e now).end
    polled_only p = by_poll_to p e now (λ (q : Polled). Only q.end) (record {
      silent = i;
      failed = i;
      nothing = λ is none. record { waits = ready_only.waits; bear = ready_only.bear };
      repeats = λ is. by_closes p (with_closing e (ticked e.closing now)) (λ (q : Polled). Only q.end) (record { waits = i.waits; bear = i.bear }) (λ f goes. record { waits = i.waits; bear = i.bear });
      closes = λ reason bound. by_closes p (closed_by reason r) (λ (q : Polled). Only q.end) (record { waits = ready_only.waits; bear = ready_only.bear }) (λ f goes. record { waits = ready_only.waits; bear = ready_only.bear });
      gives = λ is may some. by_going Only p d (λ going. record { waits = tracked_only.waits; bear = tracked_only.bear });
    })

  -- ---- any call

  pub call_only : (p : Policy) (e : End) (theirs : List (List ℕ)) (call : Call) (a : Answer) → (is_anew (by_of e) ≡ true → G) → (says_done call a ≡ true → H) → Only e → Only (after_call p e theirs call a)
  call_only p e theirs (calls.Deliver delivery) a anew says i = delivered_only p e (delivered_by (says_last a) delivery) (slice_get theirs delivery.index) i
  call_only p e theirs (calls.Poll now) a anew says i = polled_only e now anew i p
  call_only p e theirs call a anew says i = quiet_only p e theirs call a refl refl says i

-- where another fact holds with H
pub only_more : (G H K : Type 0) (e : End) → (H → K) → Only G H e → Only G K e
only_more G H K e more i = record { waits = (i.waits.0, λ set. more (i.waits.1 set)); bear = λ q j. (let was = i.bear q j in (was.0, λ set. more (was.1 set))) }
