-- What calls leave of the tracked packets: each was given, and carries what its frames say.
use Rattle.std.proofs.Common.{◌≡◌, ℕ, Bool, true, false, cond, Option, Some, None, List, [], ◌∷◌, ◌++◌, refl, sym, ap, ◌∙◌, subst, ◌⊎◌, inl, inr}
use Rattle.std.specs.Ordering.{nat_cmp, match_ordering}
use Rattle.std.specs.BTreeMap.{is_at}
use Rattle.std.specs.declared.cmp.Ordering.{Ordering}
use Rattle.std.specs.declared.cmp.Ordering.TheVariants.{Less, Equal, Greater}
use Rattle.std.proofs.lemmas.Cmp.{ranked}
use Rattle.quic_streams_parts.specs.Table.{Table, added, without}
use Rattle.quic_machine.specs.declared.run.Call.{Call}
use Rattle.quic_machine.specs.declared.run.Call.TheVariants as calls
use Rattle.quic_machine.specs.declared.run.Answer.{Answer}
use Rattle.quic_machine.specs.declared.run.Answer.TheVariants as answers
use Rattle.quic_machine.specs.Policy.{Policy}
use Rattle.quic_machine.specs.Tracking.{Tracking, TrackedPacket, without_packet, forgotten, asking_sent, after_sent, carried_in}
use Rattle.quic_machine.specs.End.{End, with_closing, number_of}
use Rattle.quic_machine.specs.Closing.{ticked}
use Rattle.quic_machine.specs.Receive.{received}
use Rattle.quic_machine.specs.Poll.{zeros_behind, Polled, Draft, packet_of, tracked, after_given, polled, Ready}
use Rattle.quic_machine.specs.Machine.{IsAnswer, after_call, fails, gave}
use Rattle.quic_machine.specs.PollCases.{ready_at, ready_leaves, draft_at, frames_padded, composes, may_leave_at}
use Rattle.quic_machine.specs.LeaveCases.{by_expired}
use Rattle.quic_machine.specs.CallCases.{Plain, is_poll, by_plain_call}
use Rattle.quic_machine.specs.CallCases as cases
use Rattle.quic_headline.specs.Runs.{In}
use Rattle.quic_headline.specs.Observer.{Sent}
use Rattle.quic_headline.proofs.Packets.Sends.{by_sends}
use Rattle.quic_headline.proofs.Packets.Apart.{by_waits, by_next_id}
use Rattle.quic_headline.proofs.Packets.Invariant.{AreTracked}
use Rattle.quic_headline.proofs.Packets.Carried.{carried_padded}
use Rattle.quic_headline.proofs.Packets.Named.{losses_fewer, tracked_received}
use Rattle.quic_headline.proofs.Packets.Probes.{ready_tracked, by_going}
use Rattle.quic_headline.proofs.Packets.Given.{draft_number}
use Rattle.quic_headline.proofs.Places.Told.{in_left, in_last}
use Rattle.quic_headline.proofs.Places.Parties.{sent_as, sent_by, sent_if, sents_by}
use Rattle.quic_headline.proofs.Places.Steps.{poll_answer}

-- ---- tables of packets

-- what stands in a table to which a value was added was there before, or is that value
pub in_added : (es : Table TrackedPacket) (id : ℕ) (v : TrackedPacket) (x : ℕ × TrackedPacket) → In x (added es id v) → In x es ⊎ (x ≡ (id, v))
in_added [] id v x (inl is) = inr is
in_added [] id v x (inr i) = absurd i
in_added (e ∷ es) id v x i = go (nat_cmp id e.0) refl i (in_added es id v x)
  where
    go : (r : Ordering) → nat_cmp id e.0 ≡ r → In x (match_ordering r ((id, v) ∷ e ∷ es) ((e.0, v) ∷ es) (e ∷ added es id v)) → (In x (added es id v) → In x es ⊎ (x ≡ (id, v))) → In x (e ∷ es) ⊎ (x ≡ (id, v))
    go Less is (inl here) later = inr here
    go Less is (inr more) later = inl more
    go Equal is (inl here) later = (let same : id ≡ e.0 = ranked id e.0 Equal (sym is) in inr (here ∙ ap (λ (n : ℕ). (n, v)) (sym same)))
    go Equal is (inr more) later = inl (inr more)
    go Greater is (inl here) later = inl (inl here)
    go Greater is (inr more) later = elim (later more) [ inl old ↦ inl (inr old) | inr new ↦ inr new ]

-- ---- calls

-- what is tracked was given, whatever is given behind it
pub tracked_more : (sents more : List Sent) (packets : Table TrackedPacket) → AreTracked sents packets → AreTracked (sents ++ more) packets
tracked_more sents more packets i n t is = let s = i n t is in (s.0, (in_left s.0 sents more s.1.0, s.1.1), s.2)

-- a packet that asks takes a probe away, and leaves what is tracked
pub asking_packets : (b : Bool) (number now : ℕ) (t : Tracking) → (asking_sent b number now t).packets ≡ t.packets
asking_packets true number now t = refl
asking_packets false number now t = refl

-- what is tracked without a packet was tracked before
in_without : {A : Type 0} (es : Table A) (id : ℕ) (x : ℕ × A) → In x (without es id) → In x es
in_without [] id x i = i
in_without (e ∷ es) id x i = go (is_at (nat_cmp id) e.0) i (in_without es id x)
  where
    go : (b : Bool) → In x (cond b es (e ∷ without es id)) → (In x (without es id) → In x es) → In x (e ∷ es)
    go true more later = inr more
    go false (inl here) later = inl here
    go false (inr more) later = inr (later more)

pub without_fewer : (o : Option (ℕ × TrackedPacket)) (packets : Table TrackedPacket) (x : ℕ × TrackedPacket) → In x (without_packet o packets) → In x packets
without_fewer None packets x i = i
without_fewer (Some p) packets x i = in_without packets p.0 x i

-- what is tracked after a packet was sent was tracked before, or is that packet
pub in_sent : (t : Tracking) (number : ℕ) (p : TrackedPacket) (x : ℕ × TrackedPacket) → In x (after_sent t number p).packets → In x t.packets ⊎ (x ≡ (number, p))
in_sent t number p x i =
    let kept : Table TrackedPacket = without_packet (forgotten t p) t.packets in
    let there : In x (added kept number p) = subst (λ (ps : Table TrackedPacket). In x ps) (asking_packets p.asks number p.time_sent (record t { packets = added kept number p })) i in
    elim (in_added kept number p x there) [ inl old ↦ inl (without_fewer (forgotten t p) t.packets x old) | inr new ↦ inr new ]

-- a datagram that goes is tracked as it was sent, under its number and with its frames
tracked_given : (d : Draft) (sents : List Sent) (s : Sent) → s.number ≡ number_of d.end → s.frames ≡ frames_padded d → AreTracked sents d.end.tracking.packets → AreTracked (sents ++ s ∷ []) (tracked d).tracking.packets
tracked_given d sents s number frames i n t is = elim (in_sent d.end.tracking (number_of d.end) (packet_of d) (n, t) is) [
  | inl old ↦ tracked_more sents (s ∷ []) d.end.tracking.packets i n t old
  | inr new ↦ (
      let same : n ≡ number_of d.end = ap (λ (x : ℕ × TrackedPacket). x.0) new in
      let carried : t.carried ≡ carried_in d.frames = ap (λ (x : ℕ × TrackedPacket). x.1.carried) new in (
        s,
        (in_last s sents, number ∙ sym same),
        inl (carried ∙ sym (carried_padded d.frames (zeros_behind d)) ∙ ap carried_in (sym frames)),
      ))
]

-- after a poll
tracked_polled : (p : Policy) (e : End) (now : ℕ) (sents : List Sent) → AreTracked sents e.tracking.packets
    → AreTracked (sents ++ sent_if (gave (answers.Poll (polled p e now).answer)) (sent_by p e now)) (polled p e now).end.tracking.packets
tracked_polled p e now sents i = by_sends p e now (λ (q : Polled) (more : List Sent). AreTracked (sents ++ more) q.end.tracking.packets) (record {
  silent = tracked_more sents [] e.tracking.packets i;
  failed = tracked_more sents [] e.tracking.packets i;
  repeats = λ is. (tracked_more sents [] e.tracking.packets i, λ f goes. tracked_more sents (_ ∷ []) e.tracking.packets i);
  nothing = λ is none. tracked_more sents [] (ready_at e now).end.tracking.packets ready;
  closes = λ reason is bound. (tracked_more sents [] (ready_at e now).end.tracking.packets ready, λ f goes. tracked_more sents (_ ∷ []) (ready_at e now).end.tracking.packets ready);
  gives = λ is bound some. gives;
})
  where
    ready : AreTracked sents (ready_at e now).end.tracking.packets
    ready = ready_tracked sents e now i

    gives : AreTracked (sents ++ sent_as e now (draft_at e now) ∷ []) (after_given p (draft_at e now)).tracking.packets
    gives =
        let g : Ready = ready_at e now in
        let before : End = g.end in
        let d : Draft = draft_at e now in
        let number : number_of e ≡ number_of d.end = sym (draft_number g.leaving before (may_leave_at e now) ∙ ap (λ (x : End). number_of x) (ready_leaves e now)) in
        let packets : AreTracked sents d.end.tracking.packets = subst (λ (x : Tracking). AreTracked sents x.packets) (sym (composes g.leaving before (may_leave_at e now)).tracking) ready in
        by_going (λ (x : End). AreTracked (sents ++ sent_as e now d ∷ []) x.tracking.packets) p d (λ going. tracked_given d sents (sent_as e now d) number refl packets)

-- another call than a poll gives nothing that is tracked
tracked_other : (p : Policy) (e : End) (theirs : List (List ℕ)) (call : Call) (a : Answer) (sents more : List Sent) → is_poll call ≡ false → AreTracked sents e.tracking.packets → AreTracked (sents ++ more) (after_call p e theirs call a).tracking.packets
tracked_other p e theirs call a sents more silent i = by_plain_call p e theirs (λ (f : End). AreTracked (sents ++ more) f.tracking.packets) call a keep
  where
    same : AreTracked (sents ++ more) e.tracking.packets
    same = tracked_more sents more e.tracking.packets i

    keep : Plain p e call (λ (f : End). AreTracked (sents ++ more) f.tracking.packets)
    keep (cases.times now expiry) may = by_expired p.words e now (λ (f : End). AreTracked (sents ++ more) f.tracking.packets) (λ pending tracking timers waits asked runs packets. subst (λ (x : Table TrackedPacket). AreTracked (sents ++ more) x) (sym packets) same) (λ pending timers waits asked runs n t i. same n t (losses_fewer (with_closing e (ticked e.closing now)) n t i)) (λ x j. j) expiry
    keep (cases.polls now) is = cc
    keep (cases.hears arrival d) may = tracked_more sents more (received p e arrival d).end.tracking.packets (tracked_received p e arrival d sents i)
    keep (cases.closes reason f now) may = same
    keep (cases.waits now b) may = by_waits (λ (f : End). AreTracked (sents ++ more) f.tracking.packets) b (with_closing e (ticked e.closing now)) same same
    keep (cases.changes_id a) may = by_next_id (λ (f : End). AreTracked (sents ++ more) f.tracking.packets) e a same (λ c. same) (λ c most. same)
    keep c may = same

-- after any call that lacks no memory
pub tracked_step : (p : Policy) (e : End) (theirs : List (List ℕ)) (call : Call) (a : Answer) (sents : List Sent) → IsAnswer p e theirs call a → fails a ≡ false → AreTracked sents e.tracking.packets
    → AreTracked (sents ++ sents_by p e call a) (after_call p e theirs call a).tracking.packets
tracked_step p e theirs (calls.Poll now) a sents is served i =
    subst (λ (x : Answer). AreTracked (sents ++ sent_if (gave x) (sent_by p e now)) (polled p e now).end.tracking.packets) (sym (poll_answer p e now a is served)) (tracked_polled p e now sents i)
tracked_step p e theirs call a sents is served i = tracked_other p e theirs call a sents (sents_by p e call a) refl i
