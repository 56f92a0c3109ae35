-- What frames that come and datagrams that go leave in flight, as an observer counts it, is what
-- their end waits for.
use Rattle.std.proofs.Common.{◌≡◌, ℕ, zero, suc, ◌+◌, ◌-◌, ◌*◌, ◌<◌, ◌≤◌, ◌^◌, max, min, Bool, true, false, not, ◌||◌, ◌&&◌, List, [], ◌∷◌, ◌++◌, length, filter, replicate, Option, Some, None, refl, sym, ap, ◌∙◌, subst, inl, inr, arith}
use Rattle.std.specs.Prelude.{if◌then◌else◌, nat_lt, unwrap_or, cond, ◌==◌}
use Rattle.std.specs.List.{list_any}
use Rattle.std.specs.Ordering.{nat_cmp}
use Rattle.std.specs.BTreeMap.{is_at}
use Rattle.std.proofs.lemmas.Bool.{eq-eqb, eqb-true, both_ways, not-true}
use Rattle.quic_wire.specs.Value.{FrameValue, AckValue, ack, padding, AckFrequencyValue, ack_frequency, asks}
use Rattle.quic_packet.specs.Number.{truncated, expanded}
use Rattle.quic_packet.specs.Keys.{width_in}
use Rattle.quic_packet.specs.Header.{first_byte}
use Rattle.quic_packet.specs.Datagram.{Opening, opened_packet}
use Rattle.quic_packet.proofs.Numbers.{newest_opens}
use Rattle.quic_time.specs.Rtt.{Rtt, best_rtt, with_sample}
use Rattle.quic_retransmits.specs.declared.retransmits.ControlKind.{ControlKind}
use Rattle.quic_retransmits.specs.declared.retransmits.ControlKind.TheVariants as kinds
use Rattle.quic_retransmits.specs.Retransmits.{Retransmits}
use Rattle.quic_streams_state.specs.Control.{without_first}
use Rattle.quic_recovery_core.specs.declared.ack_frequency.Request.{Request}
use Rattle.quic_recovery_core.specs.AckFrequency.{Frequency, micros, after_acked, longest_delay}
use Rattle.quic_recovery_core.specs.AckFrequency as frequency
use Rattle.quic_parameters.specs.Parameters.{ParameterValues}
use Rattle.quic_config.specs.Transport.{TransportSettings}
use Rattle.quic_send_buffer.specs.declared.stream_meta.StreamMeta.{StreamMeta}
use Rattle.quic_congestion.specs.Search.{Discovery}
use Rattle.quic_machine.specs.Policy.{Policy, CanOpen}
use Rattle.quic_machine.specs.Closing.{Closing, ticked}
use Rattle.quic_machine.specs.Opens.{own_id_length}
use Rattle.quic_machine.specs.Start.{IsLawful}
use Rattle.quic_spaces.specs.Numbers.{Numbers, cut_against, greatest_of}
use Rattle.quic_spaces.specs.Marks.{Counts}
use Rattle.quic_machine.specs.Parts.{Path, Messaging}
use Rattle.quic_streams_parts.specs.Table.{Table, added, put}
use Rattle.quic_machine.specs.Tracking.{Tracking, TrackedPacket, carried_in, without_record, asks_any, is_behind, tail_of, forgets, forgotten, oldest, without_packet, asking_sent, acked_by, not_acked_by, Verdict, verdict_at, lost_by, kept_by, loss_time_of, after_detection, after_answered, after_loss_timeout, moment_or, probe_moment, backed_off}
use Rattle.quic_machine.specs.End.{End, number_of, with_messages, with_tracking, with_rtt, with_discovery, peer_delay, probe_timeout, with_told, with_marking}
use Rattle.quic_machine.specs.Acked.{request_acked, without_known, reset_acked, stream_acked, packet_acked, packets_acked, packets_lost, verdict, losses_detected, told_delay, measured, sampled, without_acked, after_named, losses_taken}
use Rattle.quic_machine.specs.Receive.{is_above, names_ungiven, take_frame}
use Rattle.quic_machine.specs.Poll.{Draft, no_frames, asking, datagram_size, request_of, packet_of, after_given, lazied_as, draft_as, Leaving, whole, alone}
use Rattle.quic_machine.specs.Timeouts.{loss_judged, loss_expired}
use Rattle.quic_machine.specs.FrameCases.{OnStreams, named, ack_taken, passed, streams_acked_keep, resets_acked_keep, packets_lost_keep, frame_leaves, frames_taken, by_marks, IsApart, apart_leaves}
use Rattle.quic_machine.specs.PollCases.{ready_at, frames_padded, Composes, composes}
use Rattle.quic_headline.specs.RoundTrip.{round_with}
use Rattle.quic_headline.specs.Runs.{In, names, destination}
use Rattle.quic_headline.specs.Observer.{Sent, Terms, terms_of, asks_of, Flight, latest, late_by, is_lost, after_losses, is_answered, kept_delay, open_request, delay_asked, request_behind, delay_in, longest, is_greatest, of_number, measures, rtt_behind, settled_by, after_ack, after_frames, is_behind_asked, unasked, without_oldest, kept_flying, and_flying, waited, probe_due, due_or, loss_due, most_probes, expired_for, is_close, reference_for, moment_for, sent_as}
use Rattle.quic_headline.specs.InFlight.{is_ack_frequency}
use Rattle.quic_headline.specs.Telling.{acked_flight}
use Rattle.quic_headline.proofs.Packets.Apart.{AsksOn, apart_frequency}
use Rattle.quic_headline.proofs.Packets.Entries.{IsControl, control_of}
use Rattle.quic_headline.proofs.Packets.Searches.{by_losses}
use Rattle.quic_headline.proofs.Packets.Invariant.{IsGiven}
use Rattle.quic_headline.proofs.Packets.Carried.{carried_padded}
use Rattle.quic_headline.proofs.Packets.Named.{in_filter, filter_chose, IsNoAck, by_frame}
use Rattle.quic_headline.proofs.Packets.Probes.{by_ready, after_going, by_going}
use Rattle.quic_headline.proofs.Packets.Given.{draft_number}
use Rattle.quic_headline.proofs.Packets.Delivered.{shown_if, expands, destination_given, opened_given, frames_of_payload}
use Rattle.quic_headline.proofs.Packets.References.{width_shown}
use Rattle.quic_headline.proofs.Packets.Numbered.{Lies, lies_remove, one_key, added_last, is_at_same}
use Rattle.quic_headline.proofs.Packets.RoundTrip.{sample_same}
use Rattle.quic_headline.proofs.Packets.Waited.{IsWaited, AreWaited, waited_filter, waited_length, waited_asks, waited_put, waited_push, waited_oldest, IsFound, waited_found, waited_staying, waited_lost, waited_late}
use Rattle.quic_headline.proofs.Timers.LossTimers.{OpenStands}
use Rattle.quic_machine.specs.Sizes.{search_acked, search_lost}
use Rattle.quic_machine.specs.DraftLaws.{Writing, by_leave, MayLeave}
use Rattle.quic_machine.specs.Puts.{after}
use Rattle.quic_machine.specs.Puts as puts

-- ---- what an end waits for

-- the parts of an end that its observer knows of: numbers, clock, how it judges losses, what the
-- peer told, of the path its place and how long a round trip takes, how long the peer holds
-- acknowledgements back, and how long it was asked to, and what is tracked
pub record Held : Type 0 where
  pub numbers : Numbers
  pub closing : Closing
  pub transport : TransportSettings
  pub peer : ParameterValues
  pub generation : ℕ
  pub rtt : Rtt
  pub delay : ℕ
  pub request : Option Request
  pub tracking : Tracking

-- those of an end
abbrev pub held : End → Held
held e = record { numbers = e.numbers; closing = e.closing; transport = e.transport; peer = e.peer_params; generation = e.path.generation; rtt = e.path.rtt; delay = e.frequency.peer_delay; request = e.frequency.in_flight; tracking = e.tracking }

-- a request as the observer knows it
abbrev pub request_in : Option Request → Option (ℕ × ℕ)
request_in None = None
request_in (Some r) = Some (r.packet, r.delay)

-- by what it judges losses
abbrev pub terms_in : Held → Terms
terms_in h = record { threshold = h.transport.packet_threshold; part = h.transport.time_threshold; exponent = h.peer.ack_delay_exponent; keep_alive = h.transport.keep_alive_interval }

-- the last that asks is the greatest that asks, and went when that did
abbrev pub IsAsked : Option Sent → Tracking → Type 0
IsAsked None t = t.greatest_asking ≡ None
IsAsked (Some s) t = (t.greatest_asking ≡ Some s.number) × (t.last_asking ≡ s.moment)

-- An end knows what its observer does: by what losses are judged, the clock, the greatest number
-- that was named, what is in flight, which of that asks last, how long a round trip takes, and how
-- long the peer holds acknowledgements back.
pub record Tells (t : Terms) (now : ℕ) (f : Flight) (h : Held) : Type 0 where
  pub terms : t ≡ terms_in h
  pub clock : now ≡ h.closing.clock
  pub named : f.named ≡ h.numbers.largest_acked
  pub waits : AreWaited f.flying h.tracking.packets
  pub asked : IsAsked f.asked h.tracking
  pub rtt : f.rtt ≡ h.rtt
  pub delay : f.delay ≡ h.delay
  pub request : f.request ≡ request_in h.request

-- An end waits for what is in flight: and when the next may be lost by time, how often the timer of
-- losses expired, as far as that doubles the wait, and how many probes wait.
pub record Waits (t : Terms) (now : ℕ) (f : Flight) (h : Held) : Type 0 where
  pub tells : Tells t now f h
  pub loss_time : f.loss_time ≡ h.tracking.loss_time
  pub expiries : min f.expiries 16 ≡ min h.tracking.timeouts 16
  pub probes : f.probes ≡ h.tracking.probes

-- ---- losses

-- packets that are lost leave all of that
lost_held : (ps : Table TrackedPacket) (e : End) → held (packets_lost ps e) ≡ held e
lost_held ps e = packets_lost_keep (λ (x : End). held x ≡ held e) (λ m x i. i) (λ c x i. i) ps e refl

-- losses leave all but what is tracked
pub detected_held : (e : End) → held (losses_detected e) ≡ record (held e) { tracking = after_detection (verdict e) e.tracking }
detected_held e = by_losses (λ (x : End). held x ≡ record (held e) { tracking = after_detection (verdict e) e.tracking }) e
    (λ discovery queues. ap (λ (h : Held). record h { tracking = after_detection (verdict e) e.tracking }) (lost_held (lost_by (verdict e) e.tracking.packets) e))

-- the observer judges as the end does
abbrev judged : Terms → ℕ → Flight → Verdict
judged t now f = verdict_at (unwrap_or f.named 0) t.threshold (late_by t f.rtt) now

judged_same : (t : Terms) (now : ℕ) (f : Flight) (e : End) → Tells t now f (held e) → judged t now f ≡ verdict e
judged_same t now f e w =
    ap (λ (u : Terms). judged u now f) w.terms
    ∙ ap (λ (n : ℕ). judged (terms_of e) n f) w.clock
    ∙ ap (λ (o : Option ℕ). verdict_at (unwrap_or o 0) e.transport.packet_threshold (late_by (terms_of e) f.rtt) e.closing.clock) w.named
    ∙ ap (λ (r : Rtt). verdict_at (cut_against e.numbers) e.transport.packet_threshold (late_by (terms_of e) r) e.closing.clock) w.rtt

-- what is lost at an end is lost to its observer
pub losses_tell : (t : Terms) (now : ℕ) (f : Flight) (e : End) → Tells t now f (held e) → Tells t now (after_losses t now f) (held (losses_detected e)) × ((after_losses t now f).loss_time ≡ (losses_detected e).tracking.loss_time)
losses_tell t now f e w = (
  subst (λ (h : Held). Tells t now (after_losses t now f) h) (sym (detected_held e)) (record {
    terms = w.terms;
    clock = w.clock;
    named = w.named;
    waits = subst (λ (v : Verdict). AreWaited (after_losses t now f).flying (kept_by v e.tracking.packets)) same kept;
    asked = asked f.asked w.asked;
    rtt = w.rtt;
    delay = w.delay;
    request = w.request;
  }),
  by_losses (λ (x : End). (after_losses t now f).loss_time ≡ x.tracking.loss_time) e (λ discovery queues. waited_late (late_by t f.rtt) (unwrap_or f.named 0) (after_losses t now f).flying (kept_by (judged t now f) e.tracking.packets) kept ∙ ap (λ (v : Verdict). loss_time_of v (kept_by v e.tracking.packets)) same),
)
  where
    same : judged t now f ≡ verdict e
    same = judged_same t now f e w

    kept : AreWaited (after_losses t now f).flying (kept_by (judged t now f) e.tracking.packets)
    kept = waited_staying t (late_by t f.rtt) now (unwrap_or f.named 0) f.flying e.tracking.packets w.waits

    asked : (o : Option Sent) → IsAsked o e.tracking → IsAsked o (after_detection (verdict e) e.tracking)
    asked None i = i
    asked (Some s) i = i

-- those of the datagrams in flight that are lost, in step with the packets that are
pub lost_waited : (t : Terms) (now : ℕ) (f : Flight) (e : End) → Tells t now f (held e) → AreWaited (filter (λ s. is_lost t (late_by t f.rtt) now (unwrap_or f.named 0) s) f.flying) (lost_by (verdict e) e.tracking.packets)
lost_waited t now f e w =
    subst (λ (v : Verdict). AreWaited (filter (λ s. is_lost t (late_by t f.rtt) now (unwrap_or f.named 0) s) f.flying) (lost_by v e.tracking.packets)) (judged_same t now f e w)
    (waited_lost t (late_by t f.rtt) now (unwrap_or f.named 0) f.flying e.tracking.packets w.waits)

-- ---- an ACK frame

-- what holds of an end whichever search there is, and stays where the packet of a request, numbers,
-- resets and frames of streams are acknowledged, holds where packets are
pub acked_keep : (P : End → Type 0) → ((d : Discovery) (e : End) → P e → P (with_discovery e d)) → ((n : ℕ) (e : End) → P e → P (request_acked n e)) → ((n : ℕ) (e : End) → P e → P (without_known (Some n) e)) → ((id : ℕ) (e : End) → P e → P (reset_acked id e)) → ((m : StreamMeta) (e : End) → P e → P (stream_acked m e))
    → (ps : Table TrackedPacket) (e : End) → P e → P (packets_acked ps e)
acked_keep P searched answered knows resets acks = go
  where
    known : (o : Option ℕ) (e : End) → P e → P (without_known o e)
    known None e i = i
    known (Some n) e i = knows n e i

    go : (ps : Table TrackedPacket) (e : End) → P e → P (packets_acked ps e)
    go [] e i = i
    go (p ∷ ps) e i =
        let heard : End = search_acked p e in
        let asked : End = request_acked p.0 heard in
        go ps (packet_acked p e) (streams_acked_keep P acks p.1.carried.stream_frames _
        (resets_acked_keep P resets p.1.carried.retransmits.reset_stream (without_known p.1.carried.largest_acked asked) (known p.1.carried.largest_acked asked (answered p.0 heard (searched heard.path.discovery e i)))))

-- packets that are acknowledged leave what the observer knows of, but for how long the peer holds
-- acknowledgements back
pub acked_held : (ps : Table TrackedPacket) (e : End) → held (packets_acked ps e) ≡ record (held e) { delay = (packets_acked ps e).frequency.peer_delay; request = (packets_acked ps e).frequency.in_flight }
acked_held ps e = acked_keep (λ (x : End). held x ≡ record (held e) { delay = x.frequency.peer_delay; request = x.frequency.in_flight }) (λ d x i. i) answered (λ n x i. i) (λ id x i. i) (λ m x i. i) ps e refl
  where
    answered : (n : ℕ) (x : End) → held x ≡ record (held e) { delay = x.frequency.peer_delay; request = x.frequency.in_flight }
        → held (request_acked n x) ≡ record (held e) { delay = (request_acked n x).frequency.peer_delay; request = (request_acked n x).frequency.in_flight }
    answered n x i = ap (λ (h : Held). record h { delay = (request_acked n x).frequency.peer_delay; request = (request_acked n x).frequency.in_flight }) i

-- requests are acknowledged, one packet after another
abbrev answered_by : Table TrackedPacket → Frequency → Frequency
answered_by [] f = f
answered_by (p ∷ ps) f = answered_by ps (after_acked f.in_flight p.0 f)

-- and nothing else of it changes how often an end was asked to acknowledge
acked_asks : (ps : Table TrackedPacket) (e : End) → (packets_acked ps e).frequency ≡ answered_by ps e.frequency
acked_asks [] e = refl
acked_asks (p ∷ ps) e = acked_asks ps (packet_acked p e) ∙ ap (λ (f : Frequency). answered_by ps f) one
  where
    asked : End
    asked = request_acked p.0 (search_acked p e)

    Same : End → Type 0
    Same x = x.frequency ≡ asked.frequency

    known : (o : Option ℕ) → Same (without_known o asked)
    known None = refl
    known (Some n) = refl

    one : (packet_acked p e).frequency ≡ after_acked e.frequency.in_flight p.0 e.frequency
    one = streams_acked_keep Same (λ m x i. i) p.1.carried.stream_frames _ (resets_acked_keep Same (λ id x i. i) p.1.carried.retransmits.reset_stream (without_known p.1.carried.largest_acked asked) (known p.1.carried.largest_acked))

-- two numbers are the same in either order
same_either : (m n : ℕ) → (m == n) ≡ (n == m)
same_either m n = go (m == n) refl (n == m) refl
  where
    go : (b : Bool) → (m == n) ≡ b → (c : Bool) → (n == m) ≡ c → b ≡ c
    go true is true other = refl
    go true is false other = sym (eq-eqb n m (sym (eqb-true m n is))) ∙ other
    go false is true other = sym is ∙ eq-eqb m n (sym (eqb-true n m other))
    go false is false other = refl

-- where no request is in flight, none is answered
none_answered : (ps : Table TrackedPacket) (f : Frequency) → f.in_flight ≡ None → answered_by ps f ≡ f
none_answered [] f none = refl
none_answered (p ∷ ps) f none = ap (λ (g : Frequency). answered_by ps g) (ap (λ (o : Option Request). after_acked o p.0 f) none) ∙ none_answered ps f none

-- where the packets of these datagrams are acknowledged, the observer finds a request answered as
-- the end does
one_answered : (r : Request) (ss : List Sent) (ps : Table TrackedPacket) (f : Frequency) → f.in_flight ≡ Some r → AreWaited ss ps
    → ((if is_answered (r.packet, r.delay) ss then r.delay else f.peer_delay) ≡ (answered_by ps f).peer_delay) × ((if is_answered (r.packet, r.delay) ss then None else Some (r.packet, r.delay)) ≡ request_in (answered_by ps f).in_flight)
one_answered r [] [] f is w = (refl, sym (ap request_in is))
one_answered r (s ∷ ss) (p ∷ ps) f is w =
    subst (λ (g : Frequency). Answers g) (sym (ap (λ (o : Option Request). answered_by ps (after_acked o p.0 f)) is))
    (subst (λ (b : Bool). Holds b (r.packet == p.0)) (sym (ap (λ (n : ℕ). n == r.packet) (sym w.0.number) ∙ same_either p.0 r.packet)) (go (r.packet == p.0) (one_answered r ss ps f is w.1)))
  where
    -- by whether the first is that, as both find it
    Holds : Bool → Bool → Type 0
    Holds b c = let g : Frequency = answered_by ps (cond c (record f { in_flight = None; peer_delay = r.delay }) f) in
        ((if b || is_answered (r.packet, r.delay) ss then r.delay else f.peer_delay) ≡ g.peer_delay) × ((if b || is_answered (r.packet, r.delay) ss then None else Some (r.packet, r.delay)) ≡ request_in g.in_flight)

    Answers : Frequency → Type 0
    Answers g = ((if is_answered (r.packet, r.delay) (s ∷ ss) then r.delay else f.peer_delay) ≡ g.peer_delay) × ((if is_answered (r.packet, r.delay) (s ∷ ss) then None else Some (r.packet, r.delay)) ≡ request_in g.in_flight)

    go : (b : Bool) → ((if is_answered (r.packet, r.delay) ss then r.delay else f.peer_delay) ≡ (answered_by ps f).peer_delay) × ((if is_answered (r.packet, r.delay) ss then None else Some (r.packet, r.delay)) ≡ request_in (answered_by ps f).in_flight) → Holds b b
    go true rest =
        let same = none_answered ps (record f { in_flight = None; peer_delay = r.delay }) refl in
        (ap (λ (g : Frequency). g.peer_delay) (sym same), ap (λ (g : Frequency). request_in g.in_flight) (sym same))
    go false rest = rest
one_answered r [] (p ∷ ps) f is w = absurd w
one_answered r (s ∷ ss) [] f is w = absurd w

-- so both find how long the peer holds acknowledgements back
answers_same : (ss : List Sent) (ps : Table TrackedPacket) (f : Frequency) → AreWaited ss ps → (kept_delay (request_in f.in_flight) ss f.peer_delay ≡ (answered_by ps f).peer_delay) × (open_request (request_in f.in_flight) ss ≡ request_in (answered_by ps f).in_flight)
answers_same ss ps f w = go f.in_flight refl
  where
    go : (o : Option Request) → f.in_flight ≡ o → (kept_delay (request_in o) ss f.peer_delay ≡ (answered_by ps f).peer_delay) × (open_request (request_in o) ss ≡ request_in (answered_by ps f).in_flight)
    go None is =
        let same = none_answered ps f is in
        (ap (λ (g : Frequency). g.peer_delay) (sym same), ap request_in (sym is) ∙ ap (λ (g : Frequency). request_in g.in_flight) (sym same))
    go (Some r) is = one_answered r ss ps f is w

-- whether a number lies above all that were named
pub above_same : (o : Option ℕ) (n : ℕ) → is_above o n ≡ is_greatest o n
above_same None n = refl
above_same (Some m) n = refl

-- both measure one datagram, or none
found_if : (b c : Bool) (o : Option Sent) (p : Option TrackedPacket) → b ≡ c → IsFound o p → IsFound (if b then o else None) (if c then p else None)
found_if b c o p same found = subst (λ (d : Bool). IsFound (if b then o else None) (if d then p else None)) same (go b)
  where
    go : (b : Bool) → IsFound (if b then o else None) (if b then p else None)
    go true = found
    go false = tt

measured_found : (named : Option ℕ) (rises : Bool) (a : AckValue) (ss : List Sent) (ps : Table TrackedPacket) → rises ≡ is_greatest named a.largest → AreWaited ss ps → IsFound (measures named a ss) (measured rises a ps)
measured_found named rises a ss ps is w =
    found_if (is_greatest named a.largest && list_any asks_of ss) (rises && asks_any ps) (of_number a.largest ss) _
    (ap (λ (b : Bool). b && list_any asks_of ss) (sym is) ∙ ap (λ (b : Bool). rises && b) (waited_asks ss ps w)) (waited_found a.largest ss ps w)

-- so the round trip is measured alike
measured_tells : (t : Terms) (now : ℕ) (f : Flight) (a : AckValue) (e : End) (o : Option Sent) (p : Option TrackedPacket) → IsFound o p → Tells t now f (held e) → Tells t now (record f { rtt = rtt_behind t f.delay now a o f.rtt }) (held (sampled p a e))
measured_tells t now f a e None None found w = w
measured_tells t now f a e (Some s) (Some p) found w = record { terms = w.terms; clock = w.clock; named = w.named; waits = w.waits; asked = w.asked; rtt = same; delay = w.delay; request = w.request }
  where
    same : rtt_behind t f.delay now a (Some s) f.rtt ≡ with_sample e.path.rtt (told_delay e a) (e.closing.clock - p.time_sent)
    same =
        ap (λ (u : Terms). rtt_behind u f.delay now a (Some s) f.rtt) w.terms
        ∙ ap (λ (d : ℕ). rtt_behind (terms_of e) d now a (Some s) f.rtt) w.delay
        ∙ ap (λ (n : ℕ). rtt_behind (terms_of e) (peer_delay e) n a (Some s) f.rtt) w.clock
        ∙ ap (λ (r : Rtt). round_with r (told_delay e a) (e.closing.clock - s.moment)) w.rtt
        ∙ ap (λ (n : ℕ). round_with e.path.rtt (told_delay e a) (e.closing.clock - n)) (sym found)
        ∙ sample_same e.path.rtt (told_delay e a) (e.closing.clock - p.time_sent)
measured_tells t now f a e None (Some p) found w = absurd found
measured_tells t now f a e (Some s) None found w = absurd found

-- the end once packets are acknowledged, and the round trip is measured, before losses are detected
abbrev pub timed : Table TrackedPacket → Bool → AckValue → End → End
timed ps rises a e = sampled (measured rises a ps) a (without_acked ps a e)

-- the greatest number that an ACK frame names counts
abbrev pub counted : AckValue → Flight → Flight
counted a f = record f { named = Some (greatest_of f.named a.largest) }

pub timed_tells : (t : Terms) (now : ℕ) (ss others : List Sent) (ps : Table TrackedPacket) (rises : Bool) (a : AckValue) (f : Flight) (e : End) → rises ≡ is_greatest f.named a.largest → AreWaited ss ps → AreWaited others (not_acked_by a e.tracking.packets)
    → Tells t now (counted a f) (held e) → Tells t now (acked_flight t now a ss others f) (held (timed ps rises a e))
timed_tells t now ss others ps rises a f e is acked stay w =
    measured_tells t now left a (without_acked ps a e) (measures f.named a ss) (measured rises a ps) (measured_found f.named rises a ss ps is acked)
    (subst (λ (h : Held). Tells t now left (record h { tracking = record e.tracking { packets = not_acked_by a e.tracking.packets } })) (sym (acked_held ps e)) (record {
      terms = w.terms;
      clock = w.clock;
      named = w.named;
      waits = stay;
      asked = asked f.asked w.asked;
      rtt = w.rtt;
      delay =
          ap (λ (o : Option (ℕ × ℕ)). kept_delay o ss f.delay) w.request
          ∙ ap (λ (d : ℕ). kept_delay (request_in e.frequency.in_flight) ss d) w.delay
          ∙ (answers_same ss ps e.frequency acked).0
          ∙ ap (λ (g : Frequency). g.peer_delay) (sym (acked_asks ps e));
      request =
          ap (λ (o : Option (ℕ × ℕ)). open_request o ss) w.request
          ∙ (answers_same ss ps e.frequency acked).1
          ∙ ap (λ (g : Frequency). request_in g.in_flight) (sym (acked_asks ps e));
    }))
  where
    left : Flight
    left = record f { named = Some (greatest_of f.named a.largest); flying = others; acked = f.acked ++ ss; delay = kept_delay f.request ss f.delay; request = open_request f.request ss; expiries = 0; probes = 0 }

    asked : (o : Option Sent) → IsAsked o e.tracking → IsAsked o (record e.tracking { packets = not_acked_by a e.tracking.packets })
    asked None i = i
    asked (Some s) i = i

-- an ACK frame that names these leaves both so
named_waits : (t : Terms) (now : ℕ) (ss others : List Sent) (ps : Table TrackedPacket) (rises : Bool) (a : AckValue) (f : Flight) (e : End) → rises ≡ is_greatest f.named a.largest → AreWaited ss ps → AreWaited others (not_acked_by a e.tracking.packets)
    → Waits t now (counted a f) (held e) → Waits t now (settled_by t now a ss others f) (held (after_named ps rises a e))
named_waits t now [] others [] rises a f e is acked stay w = w
named_waits t now (s ∷ ss) others (p ∷ ps) rises a f e is acked stay w = by_marks rises (length (p ∷ ps)) a (losses_taken (p ∷ ps) rises a e) (λ (x : End). Waits t now (settled_by t now a (s ∷ ss) others f) (held x)) (λ m marking.
    let found = losses_tell t now (acked_flight t now a (s ∷ ss) others f) (timed (p ∷ ps) rises a e) (timed_tells t now (s ∷ ss) others (p ∷ ps) rises a f e is acked stay w.tells) in
    let told = found.0 in
    record {
      tells = record { terms = told.terms; clock = told.clock; named = told.named; waits = told.waits; asked = asked f.asked told.asked; rtt = told.rtt; delay = told.delay; request = told.request };
      loss_time = found.1;
      expiries = refl;
      probes = refl;
    })
  where
    left : Tracking
    left = (losses_detected (timed (p ∷ ps) rises a e)).tracking

    asked : (o : Option Sent) → IsAsked o left → IsAsked o (after_answered left)
    asked None i = i
    asked (Some u) i = i
named_waits t now [] others (p ∷ ps) rises a f e is acked stay w = absurd acked
named_waits t now (s ∷ ss) others [] rises a f e is acked stay w = absurd acked

-- ---- what losses and frames keep

-- those that pass a test don't fail it
pub apart_filter : (f : Sent → Bool) (ss : List Sent) (s : Sent) → In s (filter f ss) → In s (filter (λ t. not (f t)) ss) → ⊥
apart_filter f ss s i j = both_ways (f s) (not-true (f s) (filter_chose (λ t. not (f t)) s ss j)) (filter_chose f s ss i)

-- what holds of the datagrams in flight, of those that were acknowledged there, and of the end that
-- gave them, stays where some of them are lost
pub record Loses (P : List Sent → List Sent → End → Type 0) : Type 0 where
  -- other packets are tracked
  pub tracked : (flying acked : List Sent) (t : Tracking) (e : End) → P flying acked e → P flying acked (with_tracking e t)
  -- the search for a size learns of packets that are lost
  pub searches : (flying acked : List Sent) (lost : Table TrackedPacket) (e : End) → P flying acked e → P flying acked (search_lost lost e)
  -- of the datagrams in flight some are lost, which are tracked as these packets, and the others
  -- stay
  pub loses : (flying acked gone left : List Sent) (ps : Table TrackedPacket) (e : End) → ((s : Sent) → In s gone → In s flying) → ((s : Sent) → In s left → In s flying) → ((s : Sent) → In s gone → In s left → ⊥) → AreWaited gone ps → P flying acked e → P left acked (packets_lost ps e)

-- and while the end takes these frames
pub record Flies (frames : List FrameValue) (P : List Sent → List Sent → End → Type 0) : Type 0 where
  pub losing : Loses P
  -- the greatest number of an ACK frame counts
  pub names : (flying acked : List Sent) (a : AckValue) (e : End) → In (ack a) frames → P flying acked e → P flying acked (named a e)
  -- of the datagrams in flight these are acknowledged by an ACK frame, which are tracked as these
  -- packets, and the others stay
  pub acks : (flying acked ss left : List Sent) (ps : Table TrackedPacket) (e : End) (a : AckValue) → In (ack a) frames → ((s : Sent) → In s ss → In s flying) → ((s : Sent) → In s left → In s flying) → ((s : Sent) → In s ss → In s left → ⊥) → AreWaited ss ps → P flying acked e
      → P left (acked ++ ss) (packets_acked ps e)
  -- the round trip is measured
  pub measured : (flying acked : List Sent) (r : Rtt) (first : Option ℕ) (e : End) → P flying acked e → P flying acked (with_rtt e r first)
  -- counts of marks came
  pub marked : (flying acked : List Sent) (counts : Counts) (marking : Bool) (e : End) → P flying acked e → P flying acked (with_marking (with_told e counts) marking)
  pub on_streams : (flying acked : List Sent) (f : FrameValue) (e : End) → In f frames → OnStreams f → P flying acked e → P flying acked (take_frame f e).end
  pub message : (flying acked : List Sent) (m : Messaging) (e : End) → P flying acked e → P flying acked (with_messages e m)
  pub apart : (flying acked : List Sent) (f : FrameValue) (e : End) → In f frames → IsApart f → P flying acked e → P flying acked (take_frame f e).end

-- where an end knows what its observer does, losses are such
pub losses_fly : (P : List Sent → List Sent → End → Type 0) → Loses P → (t : Terms) (now : ℕ) (f : Flight) (acked : List Sent) (e : End) → Tells t now f (held e) → P f.flying acked e → P (after_losses t now f).flying acked (losses_detected e)
losses_fly P c t now f acked e w i =
    let delay : ℕ = late_by t f.rtt in
    let greatest : ℕ = unwrap_or f.named 0 in
    let gone : List Sent = filter (λ s. is_lost t delay now greatest s) f.flying in
    let ps : Table TrackedPacket = lost_by (verdict e) e.tracking.packets in
    c.searches (after_losses t now f).flying acked ps (with_tracking (packets_lost ps e) (after_detection (verdict e) e.tracking))
    (c.tracked (after_losses t now f).flying acked (after_detection (verdict e) e.tracking) (packets_lost ps e)
    (c.loses f.flying acked gone (after_losses t now f).flying ps e (λ s j. in_filter (λ s. is_lost t delay now greatest s) s f.flying j) (λ s j. in_filter (λ s. not (is_lost t delay now greatest s)) s f.flying j) (apart_filter (λ s. is_lost t delay now greatest s) f.flying) (lost_waited t now f e w) i))

-- the first frame, and then the others
pub first_flight : (t : Terms) (now : ℕ) (f : FrameValue) (fs : List FrameValue) (x : Flight) → after_frames t now (f ∷ fs) x ≡ after_frames t now fs (after_frames t now (f ∷ []) x)
first_flight t now (ack a) fs x = refl
first_flight t now f fs x = refl

-- a frame that is no ACK frame leaves what is in flight
no_ack_flight : (t : Terms) (now : ℕ) (f : FrameValue) (x : Flight) → IsNoAck f → after_frames t now (f ∷ []) x ≡ x
no_ack_flight t now (ack a) x other = absurd other
no_ack_flight t now f x other = refl

-- a frame apart from streams leaves how an end asks its peer to acknowledge, and so what it waits
-- for
apart_waits : (t : Terms) (now : ℕ) (f : FrameValue) (x : Flight) (e : End) → IsApart f → Waits t now x (held e) → Waits t now x (held (take_frame f e).end)
apart_waits t now f x e apart w =
    let left : End = (take_frame f e).end in
    let same : AsksOn e.frequency left.frequency = apart_frequency f e apart in
    subst (λ (o : Option Request). Waits t now x (record (held left) { request = o })) (sym same.in_flight)
    (subst (λ (d : ℕ). Waits t now x (record (held left) { delay = d; request = e.frequency.in_flight })) (sym same.peer_delay)
    (apart_leaves (λ (g : End). Waits t now x (record (held g) { delay = e.frequency.peer_delay; request = e.frequency.in_flight })) f e apart (λ c. w) (λ c most. w)))

module _ (t : Terms) (now : ℕ) (frames : List FrameValue) (P : List Sent → List Sent → End → Type 0) (c : Flies frames P) where
  -- an end waits for what is in flight, and P of both
  pub record Flying (x : Flight) (e : End) : Type 0 where
    pub waits : Waits t now x (held e)
    pub holds : P x.flying x.acked e

  -- a round trip is measured, or none is
  sampled_flies : (flying acked : List Sent) (o : Option TrackedPacket) (a : AckValue) (e : End) → P flying acked e → P flying acked (sampled o a e)
  sampled_flies flying acked None a e i = i
  sampled_flies flying acked (Some p) a e i = c.measured flying acked (sampled (Some p) a e).path.rtt (sampled (Some p) a e).path.first_after_rtt e i

  -- an ACK frame that names these
  named_flies : (ss others : List Sent) (ps : Table TrackedPacket) (rises : Bool) (x : Flight) (a : AckValue) (e : End) → In (ack a) frames → rises ≡ is_greatest x.named a.largest → ((s : Sent) → In s ss → In s x.flying) → ((s : Sent) → In s others → In s x.flying)
      → ((s : Sent) → In s ss → In s others → ⊥) → AreWaited ss ps → AreWaited others (not_acked_by a e.tracking.packets) → Tells t now (counted a x) (held e) → P x.flying x.acked e → P (settled_by t now a ss others x).flying (settled_by t now a ss others x).acked (after_named ps rises a e)
  named_flies [] others [] rises x a e among is inside stays apart acked stay w i = i
  named_flies (s ∷ ss) others (p ∷ ps) rises x a e among is inside stays apart acked stay w i =
      let ss' : List Sent = s ∷ ss in
      let ps' : Table TrackedPacket = p ∷ ps in
      let left : End = without_acked ps' a e in
      let found : End = losses_detected (timed ps' rises a e) in
      let taken : End = losses_taken ps' rises a e in
      let kept : P (settled_by t now a ss' others x).flying (x.acked ++ ss') taken =
      c.losing.tracked (settled_by t now a ss' others x).flying (x.acked ++ ss') (after_answered found.tracking) found
      (losses_fly P c.losing t now (acked_flight t now a ss' others x) (x.acked ++ ss') (timed ps' rises a e) (timed_tells t now ss' others ps' rises a x e is acked stay w)
      (sampled_flies others (x.acked ++ ss') (measured rises a ps') a left (c.losing.tracked others (x.acked ++ ss') left.tracking (packets_acked ps' e) (c.acks x.flying x.acked ss' others ps' e a among inside stays apart acked i)))) in
      by_marks rises (length ps') a taken (P (settled_by t now a ss' others x).flying (x.acked ++ ss')) (λ m marking. c.marked (settled_by t now a ss' others x).flying (x.acked ++ ss') m marking taken kept)
  named_flies [] others (p ∷ ps) rises x a e among is inside stays apart acked stay w i = absurd acked
  named_flies (s ∷ ss) others [] rises x a e among is inside stays apart acked stay w i = absurd acked

  -- an ACK frame that is taken
  ack_flies : (b : Bool) (a : AckValue) (x : Flight) (e : End) → (ack_taken b a e).fault ≡ None → In (ack a) frames → Flying x e → Flying (after_ack t now a x) (ack_taken b a e).end
  ack_flies true a x e none among f = cc
  ack_flies false a x e none among f = record {
    waits = named_waits t now acked others (acked_by a e.tracking.packets) rises a x (named a e) is first second counts;
    holds = named_flies acked others (acked_by a e.tracking.packets) rises x a (named a e) among is (λ s i. in_filter (λ t. names a t.number) s x.flying i) (λ s i. in_filter (λ t. not (names a t.number)) s x.flying i) (apart_filter (λ t. names a t.number) x.flying) first second counts.tells (c.names x.flying x.acked a e among f.holds);
  }
    where
      acked : List Sent
      acked = filter (λ s. names a s.number) x.flying

      others : List Sent
      others = filter (λ s. not (names a s.number)) x.flying

      rises : Bool
      rises = is_above e.numbers.largest_acked a.largest

      is : rises ≡ is_greatest x.named a.largest
      is = above_same e.numbers.largest_acked a.largest ∙ ap (λ (o : Option ℕ). is_greatest o a.largest) (sym f.waits.tells.named)

      first : AreWaited acked (acked_by a e.tracking.packets)
      first = waited_filter (λ s. names a s.number) (λ p. names a p.0) (λ s p w. ap (λ (n : ℕ). names a n) (sym w.number)) x.flying e.tracking.packets f.waits.tells.waits

      second : AreWaited others (not_acked_by a e.tracking.packets)
      second = waited_filter (λ s. not (names a s.number)) (λ p. not (names a p.0)) (λ s p w. ap (λ (n : ℕ). not (names a n)) (sym w.number)) x.flying e.tracking.packets f.waits.tells.waits

      counts : Waits t now (counted a x) (held (named a e))
      counts =
          let w = f.waits.tells in
          record {
            tells = record { terms = w.terms; clock = w.clock; named = ap (λ (o : Option ℕ). Some (greatest_of o a.largest)) w.named; waits = w.waits; asked = w.asked; rtt = w.rtt; delay = w.delay; request = w.request };
            loss_time = f.waits.loss_time;
            expiries = f.waits.expiries;
            probes = f.waits.probes;
          }

  -- a frame that is no ACK frame leaves what the end waits for
  other_flies : (f : FrameValue) (x : Flight) (e : End) → OnStreams f → In f frames → Flying x e → Flying x (take_frame f e).end
  other_flies f x e on among i = record { waits = frame_leaves (λ (g : End). Waits t now x (held g)) f e on (λ u. i.waits); holds = c.on_streams x.flying x.acked f e among on i.holds }

  apart_flies : (f : FrameValue) (x : Flight) (e : End) → IsApart f → In f frames → Flying x e → Flying x (take_frame f e).end
  apart_flies f x e apart among i = record { waits = apart_waits t now f x e apart i.waits; holds = c.apart x.flying x.acked f e among apart i.holds }

  -- any frame that is taken
  frame_flies : (f : FrameValue) (x : Flight) (e : End) → (take_frame f e).fault ≡ None → In f frames → Flying x e → Flying (after_frames t now (f ∷ []) x) (take_frame f e).end
  frame_flies f x e none among i =
      by_frame f e (λ g p. p.fault ≡ None → Flying (after_frames t now (g ∷ []) x) p.end)
      (λ a is ok. ack_flies (names_ungiven a e) a x e ok (subst (λ (g : FrameValue). In g frames) (sym is) among) i)
      (λ other on ok. subst (λ (y : Flight). Flying y (take_frame f e).end) (sym (no_ack_flight t now f x other)) (other_flies f x e on among i))
      (λ other m same ok. subst (λ (y : Flight). Flying y (take_frame f e).end) (sym (no_ack_flight t now f x other)) (subst (λ (g : End). Flying x g) (sym same) (record { waits = i.waits; holds = c.message x.flying x.acked m e i.holds })))
      (λ other apart ok. subst (λ (y : Flight). Flying y (take_frame f e).end) (sym (no_ack_flight t now f x other)) (apart_flies f x e apart among i))
      none

  -- where all frames of a packet were taken, an end waits for what they leave in flight
  pub frames_fly : (x : Flight) (e : End) → (passed frames e).fault ≡ None → Flying x e → Flying (after_frames t now frames x) (passed frames e).end
  frames_fly x e none i =
      let all = frames_taken (λ (left : List FrameValue) (g : End). ((f : FrameValue) → In f left → In f frames) × ((y : Flight) × (after_frames t now left y ≡ after_frames t now frames x) × Flying y g))
      (λ f left g is before. (
        (λ h j. before.0 h (inr j)),
        (after_frames t now (f ∷ []) before.1.0, sym (first_flight t now f left before.1.0) ∙ before.1.1, frame_flies f before.1.0 g is (before.0 f (inl refl)) before.1.2),
      ))
      frames e none ((λ f j. j), (x, refl, i)) in
      subst (λ (y : Flight). Flying y (passed frames e).end) all.1.1 all.1.2

-- so it waits for them, whatever else holds
pub frames_wait : (t : Terms) (now : ℕ) (frames : List FrameValue) (x : Flight) (e : End) → (passed frames e).fault ≡ None → Waits t now x (held e) → Waits t now (after_frames t now frames x) (held (passed frames e).end)
frames_wait t now frames x e none w = (frames_fly t now frames (λ flying acked g. Unit {0}) (record {
  losing = record { tracked = λ flying acked u g i. tt; searches = λ flying acked lost g i. tt; loses = λ flying acked gone left ps g inside stays apart lost i. tt };
  names = λ flying acked a g among i. tt;
  acks = λ flying acked ss left ps g a among inside stays apart all i. tt;
  measured = λ flying acked r first g i. tt;
  marked = λ flying acked m marking g i. tt;
  on_streams = λ flying acked f g among on i. tt;
  message = λ flying acked m g i. tt;
  apart = λ flying acked f g among apart i. tt;
}) x e none (record { waits = w; holds = tt })).waits

-- ---- the timer of losses

-- the first of two moments
due_same : (o p : Option ℕ) → moment_or o p ≡ due_or o p
due_same None p = refl
due_same (Some moment) p = refl

-- how long is waited for a round trip, where the peer holds an acknowledgement back for so long,
-- and the timer expired so often
abbrev pub reckoned : Rtt → ℕ → ℕ → ℕ
reckoned r delay expiries = min (min (min (best_rtt r + max (4 * r.var) 1000000) latest + delay) latest * 2 ^ expiries) latest

-- how long the peer may hold one back, as the observer reckons it
pub longest_same : (t : Terms) (now : ℕ) (f : Flight) (e : End) → Tells t now f (held e) → longest_delay e.frequency ≡ longest f
longest_same t now f e w =
    ap (λ (d : ℕ). max e.frequency.peer_delay d) (asked_delay e.frequency.in_flight)
    ∙ ap (λ (d : ℕ). max d (delay_in (request_in e.frequency.in_flight))) (sym w.delay)
    ∙ ap (λ (o : Option (ℕ × ℕ)). max f.delay (delay_in o)) (sym w.request)
  where
    asked_delay : (o : Option Request) → frequency.asked o 0 ≡ delay_in (request_in o)
    asked_delay None = refl
    asked_delay (Some r) = refl

-- how long is waited
waited_so : (t : Terms) (now : ℕ) (f : Flight) (e : End) → Waits t now f (held e) → backed_off (probe_timeout e) e.tracking.timeouts ≡ waited f f.expiries
waited_so t now f e w =
    ap (λ (n : ℕ). reckoned e.path.rtt (longest_delay e.frequency) n) (sym w.expiries)
    ∙ ap (λ (r : Rtt). reckoned r (longest_delay e.frequency) (min f.expiries 16)) (sym w.tells.rtt)
    ∙ ap (λ (d : ℕ). reckoned f.rtt d (min f.expiries 16)) (longest_same t now f e w.tells)

-- where no number asks, no packet does
none_ask : (ps : Table TrackedPacket) → ((p : ℕ × TrackedPacket) → In p ps → p.1.asks ≡ true → true ≡ false) → asks_any ps ≡ true → ⊥
none_ask [] none is = cc
none_ask (p ∷ ps) none is = go p.1.asks refl is (none_ask ps (λ q i. none q (inr i)))
  where
    go : (b : Bool) → p.1.asks ≡ b → (b || asks_any ps) ≡ true → (asks_any ps ≡ true → ⊥) → ⊥
    go true asks at later = (let clash = none p (inl refl) asks in cc)
    go false asks at later = later at

-- the timer of an open end is set to what its observer reckons
pub timer_is : (t : Terms) (now : ℕ) (f : Flight) (e : End) → OpenStands e → Waits t now f (held e) → e.timers.loss_detection ≡ loss_due f
timer_is t now f e s w =
    s.set
    ∙ ap (λ (o : Option ℕ). moment_or o (probe_moment (asks_any e.tracking.packets) (probe_timeout e) e.tracking)) (sym w.loss_time)
    ∙ ap (λ (o : Option ℕ). moment_or f.loss_time o) (go f.asked (asks_any e.tracking.packets) refl w.tells.asked)
    ∙ due_same f.loss_time (probe_due f f.asked)
  where
    some : list_any asks_of f.flying ≡ asks_any e.tracking.packets
    some = waited_asks f.flying e.tracking.packets w.tells.waits

    go : (o : Option Sent) (b : Bool) → asks_any e.tracking.packets ≡ b → IsAsked o e.tracking → probe_moment b (probe_timeout e) e.tracking ≡ probe_due f o
    go None true is none = absurd (none_ask e.tracking.packets (λ p i asks. subst (λ (o : Option ℕ). is_behind o p.0 ≡ false) none (s.stands.asked p i asks)) is)
    go None false is none = refl
    go (Some u) true is last =
        ap (λ (n : ℕ). Some (min (n + backed_off (probe_timeout e) e.tracking.timeouts) latest)) last.1
        ∙ ap (λ (n : ℕ). Some (min (u.moment + n) latest)) (waited_so t now f e w)
        ∙ ap (λ (b : Bool). if b then Some (min (u.moment + waited f f.expiries) latest) else None) (sym (some ∙ is))
    go (Some u) false is last = ap (λ (b : Bool). if b then Some (min (u.moment + waited f f.expiries) latest) else None) (sym (some ∙ is))

-- ---- a datagram that is given

-- a number expands to itself where the next one is expected, which isn't below what it was cut
-- against
expands_next : (n reference next : ℕ) → n - reference < 2 ^ 31 → reference ≤ next → next ≤ n → expands n reference next ≡ true
expands_next n reference next near above behind = eq-eqb (expanded (truncated n reference) next) n (newest_opens n reference next near above (omega arith))

-- the datagram of a number opens to what it was sent as, by the keys of its taker alone
pub sent_read : (p q : Policy) (id : List ℕ) (n reference : ℕ) (frames : List FrameValue) (d : List ℕ) → IsGiven p id n reference frames d → CanOpen p q → IsLawful p → (next : ℕ) → reference ≤ next → next ≤ n → (acked moment generation : ℕ)
    → sent_as (opened_packet q.header q.packet (own_id_length + 1) next d) acked moment generation d
    ≡ record { id = id; number = n; reference = reference_for (list_any is_close frames) n (truncated n reference).width acked; frames = frames; moment = moment_for (list_any is_close frames) moment; size = length d; generation = generation } ∷ []
sent_read p q id n reference frames d g mates lawful next above behind acked moment generation =
    ap (λ (o : Option Opening). sent_as o acked moment generation d) (opened_given p q id n reference frames d g mates next)
    ∙ ap (λ (b : Bool). sent_as (shown_if b n reference g.payload) acked moment generation d) (expands_next n reference next g.near above behind)
    ∙ ap (λ (fs : List FrameValue). record { id = destination d; number = n; reference = reference_for (list_any is_close fs) n (width_in (first_byte (truncated n reference).width)) acked; frames = fs; moment = moment_for (list_any is_close fs) moment; size = length d; generation = generation } ∷ []) (frames_of_payload frames g.payload g.spells)
    ∙ ap (λ (w : ℕ). record { id = destination d; number = n; reference = reference_for (list_any is_close frames) n w acked; frames = frames; moment = moment_for (list_any is_close frames) moment; size = length d; generation = generation } ∷ []) (width_shown n reference g.near)
    ∙ ap (λ (to : List ℕ). record { id = to; number = n; reference = reference_for (list_any is_close frames) n (truncated n reference).width acked; frames = frames; moment = moment_for (list_any is_close frames) moment; size = length d; generation = generation } ∷ []) (destination_given p id n reference frames d g lawful)

-- PADDING doesn't ask for an acknowledgement
pub asking_padded : (fs : List FrameValue) (count : ℕ) → asking (fs ++ replicate count padding) ≡ asking fs
asking_padded [] zero = refl
asking_padded [] (suc count) = asking_padded [] count
asking_padded (f ∷ fs) count = ap (λ (b : Bool). asks f || b) (asking_padded fs count)

-- what is forgotten where a datagram goes, is forgotten of both
kept_waited : (b c : Bool) (us ss : List Sent) (qs ps : Table TrackedPacket) → b ≡ c → AreWaited us qs → AreWaited ss ps → AreWaited (if b then without_oldest us ss else ss) (without_packet (if c then oldest qs else None) ps)
kept_waited b c us ss qs ps same tail all = subst (λ (d : Bool). AreWaited (if b then without_oldest us ss else ss) (without_packet (if d then oldest qs else None) ps)) same (go b)
  where
    go : (b : Bool) → AreWaited (if b then without_oldest us ss else ss) (without_packet (if b then oldest qs else None) ps)
    go true = waited_oldest ss ps us qs tail all
    go false = all

-- the tail of both
behind_same : (o : Option Sent) (t : Tracking) (n : ℕ) → IsAsked o t → is_behind_asked o n ≡ is_behind t.greatest_asking n
behind_same None t n is = ap (λ (g : Option ℕ). is_behind g n) (sym is)
behind_same (Some s) t n is = ap (λ (g : Option ℕ). is_behind g n) (sym is.0)

-- those that stay rise too
kept_lies : (o : Option (ℕ × TrackedPacket)) (low high : ℕ) (ps : Table TrackedPacket) → Lies low high ps → Lies low high (without_packet o ps)
kept_lies None low high ps lies = lies
kept_lies (Some p) low high ps lies = lies_remove (is_at (nat_cmp p.0)) low high ps lies

-- a datagram that goes is in flight, and its end waits for it
given_waits : (t : Terms) (now : ℕ) (tr : Tracking) (n next : ℕ) (p : TrackedPacket) (s : Sent) (f : Flight) (h : Held) → IsWaited s (n, p) → Lies 0 next h.tracking.packets → next ≤ n → Waits t now f h → (numbers : Numbers) → numbers.largest_acked ≡ h.numbers.largest_acked → (request : Option Request) → request_behind (delay_asked s.frames) s.number f.request ≡ request_in request
    → tr ≡ asking_sent p.asks n p.time_sent (record h.tracking { packets = added (without_packet (forgotten h.tracking p) h.tracking.packets) n p }) → Waits t now (and_flying s f) (record h { tracking = tr; numbers = numbers; request = request })
given_waits t now tr n next p s f h is lies above w numbers same request requests tracks =
    subst (λ (u : Tracking). Waits t now (and_flying s f) (record h { tracking = u; numbers = numbers; request = request })) (sym tracks)
    (subst (λ (b : Bool). Waits t now (behind b) (record h { tracking = asking_sent p.asks n p.time_sent (record h.tracking { packets = added kept n p }); numbers = numbers; request = request })) is.asks
    (go p.asks))
  where
    -- what the observer knows behind it, where it asks or doesn't
    behind : Bool → Flight
    behind b = record f { flying = kept_flying (asks_of s) f ++ s ∷ []; asked = if b then Some s else f.asked; request = request_behind (delay_asked s.frames) s.number f.request; probes = if b then f.probes - 1 else f.probes }

    kept : Table TrackedPacket
    kept = without_packet (forgotten h.tracking p) h.tracking.packets

    tail : AreWaited (unasked f) (tail_of h.tracking)
    tail = waited_filter (λ u. is_behind_asked f.asked u.number) (λ q. is_behind h.tracking.greatest_asking q.0) (λ u q i. behind_same f.asked h.tracking u.number w.tells.asked ∙ ap (λ (m : ℕ). is_behind h.tracking.greatest_asking m) (sym i.number)) f.flying h.tracking.packets w.tells.waits

    forgets_so : (not (asks_of s) && nat_lt 1000 (length (unasked f))) ≡ forgets h.tracking p
    forgets_so = ap (λ (b : Bool). not b && nat_lt 1000 (length (unasked f))) (sym is.asks) ∙ ap (λ (m : ℕ). not p.asks && nat_lt 1000 m) (waited_length (unasked f) (tail_of h.tracking) tail)

    stay : AreWaited (kept_flying (asks_of s) f) kept
    stay = kept_waited (not (asks_of s) && nat_lt 1000 (length (unasked f))) (forgets h.tracking p) (unasked f) f.flying (tail_of h.tracking) h.tracking.packets forgets_so tail w.tells.waits

    all : AreWaited (kept_flying (asks_of s) f ++ s ∷ []) (added kept n p)
    all = subst (λ (ps : Table TrackedPacket). AreWaited (kept_flying (asks_of s) f ++ s ∷ []) ps) (sym (added_last 0 next kept n p (kept_lies (forgotten h.tracking p) 0 next h.tracking.packets lies) above)) (waited_push (kept_flying (asks_of s) f) kept s (n, p) stay is)

    asked : (o : Option Sent) → IsAsked o h.tracking → IsAsked o (record h.tracking { packets = added kept n p })
    asked None i = i
    asked (Some u) i = i

    go : (b : Bool) → Waits t now (behind b) (record h { tracking = asking_sent b n p.time_sent (record h.tracking { packets = added kept n p }); numbers = numbers; request = request })
    go true = record {
      tells = record { terms = w.tells.terms; clock = w.tells.clock; named = w.tells.named ∙ sym same; waits = all; asked = (ap (λ (m : ℕ). Some m) is.number, is.time); rtt = w.tells.rtt; delay = w.tells.delay; request = requests };
      loss_time = w.loss_time;
      expiries = w.expiries;
      probes = ap (λ (m : ℕ). m - 1) w.probes;
    }
    go false = record {
      tells = record { terms = w.tells.terms; clock = w.tells.clock; named = w.tells.named ∙ sym same; waits = all; asked = asked f.asked w.tells.asked; rtt = w.tells.rtt; delay = w.tells.delay; request = requests };
      loss_time = w.loss_time;
      expiries = w.expiries;
      probes = w.probes;
    }

-- what a datagram asks of the peer: nothing else changes how long that holds acknowledgements back,
-- and no more than one request goes, while one waits
pub record Requests (e : End) (d : Draft) : Type 0 where
  pub number : number_of d.end ≡ number_of e
  pub delay : d.end.frequency.peer_delay ≡ e.frequency.peer_delay
  pub request : request_in d.end.frequency.in_flight ≡ request_behind (delay_asked d.frames) (number_of e) (request_in e.frequency.in_flight)
  pub waits : d.end.waiting.frames.ack_frequency ≡ true → delay_asked d.frames ≡ None

-- one more frame that asks for no delay
delay_more : (fs : List FrameValue) (f : FrameValue) → is_ack_frequency f ≡ false → delay_asked (fs ++ f ∷ []) ≡ delay_asked fs
delay_more [] (ack_frequency f) other = cc
delay_more [] f other = refl
delay_more (ack_frequency g ∷ fs) f other = refl
delay_more (g ∷ fs) f other = delay_more fs f other

-- nor does PADDING
delay_padded : (fs : List FrameValue) (count : ℕ) → delay_asked (fs ++ replicate count padding) ≡ delay_asked fs
delay_padded [] zero = refl
delay_padded [] (suc count) = delay_padded [] count
delay_padded (ack_frequency g ∷ fs) count = refl
delay_padded (g ∷ fs) count = delay_padded fs count

-- and the first that does
delay_first : (fs : List FrameValue) (f : AckFrequencyValue) → delay_asked fs ≡ None → delay_asked (fs ++ ack_frequency f ∷ []) ≡ Some (min (f.delay * 1000) latest)
delay_first [] f none = refl
delay_first (ack_frequency g ∷ fs) f none = cc
delay_first (g ∷ fs) f none = delay_first fs f none

-- a control frame asks for none, and no more waits once one goes
control_no_request : (f : FrameValue) → IsControl f → is_ack_frequency f ≡ false
control_no_request (ack_frequency f) is = absurd is
control_no_request f is = refl

first_leaves : (kind : ControlKind) (r : Retransmits) → (without_first kind r).ack_frequency ≡ r.ack_frequency
first_leaves kinds.ResetStream r = refl
first_leaves kind r = refl

-- so it is of each frame that is put into a datagram
requests_more : (e : End) (d : Draft) (f : FrameValue) (x : End) → is_ack_frequency f ≡ false → number_of x ≡ number_of d.end → x.frequency ≡ d.end.frequency → x.waiting.frames.ack_frequency ≡ d.end.waiting.frames.ack_frequency → Requests e d → (bytes : List ℕ) (least : ℕ)
    → Requests e (record d { frames = d.frames ++ f ∷ []; bytes = bytes; least = least; end = x })
requests_more e d f x other number same waits i bytes least = record {
  number = number ∙ i.number;
  delay = ap (λ (g : Frequency). g.peer_delay) same ∙ i.delay;
  request = ap (λ (g : Frequency). request_in g.in_flight) same ∙ i.request ∙ ap (λ (o : Option ℕ). request_behind o (number_of e) (request_in e.frequency.in_flight)) (sym (delay_more d.frames f other));
  waits = λ some. delay_more d.frames f other ∙ i.waits (sym waits ∙ some);
}

draft_requests : (leaving : Leaving) (e : End) → MayLeave leaving e → Requests e (draft_as leaving e)
draft_requests leaving e may = by_leave (λ (d : Draft). Requests e d) keep leaving e may (none leaving)
  where
    keep : Writing (λ (d : Draft). Requests e d)
    keep puts.request d is i = record {
      number = i.number;
      delay = i.delay;
      request =
          ap (λ (n : ℕ). Some (n, micros (request_of d.end).delay)) i.number
          ∙ ap (λ (o : Option ℕ). request_behind o (number_of e) (request_in e.frequency.in_flight)) (sym (delay_first d.frames (request_of d.end) (i.waits is)));
      waits = λ some. cc;
    }
    keep (puts.drops kind) d may i = record { number = i.number; delay = i.delay; request = i.request; waits = λ some. i.waits (sym (first_leaves kind d.end.waiting.frames) ∙ some) }
    keep (puts.control kind f) d is i = requests_more e d f (after (puts.control kind f) d).end (control_no_request f (control_of f kind is.of_kind)) refl refl (first_leaves kind d.end.waiting.frames) i (after (puts.control kind f) d).bytes (after (puts.control kind f) d).least
    keep p d may i = requests_more e d _ (after p d).end refl refl refl refl i (after p d).bytes (after p d).least

    none : (l : Leaving) → Requests e (no_frames (lazied_as l e))
    none whole = record { number = refl; delay = refl; request = refl; waits = λ some. refl }
    none alone = record { number = refl; delay = refl; request = refl; waits = λ some. refl }
    none other = record { number = refl; delay = refl; request = refl; waits = λ some. refl }

-- what an end gives is in flight, and waited for
pub draft_waits : (p : Policy) (t : Terms) (now : ℕ) (b : Leaving) (e : End) (s : Sent) (f : Flight) → MayLeave b e → e.path.generation ≡ s.generation → s.number ≡ number_of e → s.moment ≡ e.closing.clock → s.frames ≡ frames_padded (draft_as b e) → s.size ≡ datagram_size (draft_as b e)
    → Lies 0 e.numbers.next e.tracking.packets → e.numbers.next ≤ number_of e → Waits t now f (held e) → Waits t now (and_flying s f) (held (after_given p (draft_as b e)))
draft_waits p t now b e s f may path number moment frames size lies above w = by_going (λ (x : End). Waits t now (and_flying s f) (held x)) p d (λ pacing.
    let x : End = after_going p d pacing in
    given_waits t now x.tracking (number_of d.end) e.numbers.next (packet_of d) s f (record (held d.end) { request = e.frequency.in_flight }) is (subst (λ (x : Tracking). Lies 0 e.numbers.next x.packets) (sym c.tracking) lies) (subst (λ (n : ℕ). e.numbers.next ≤ n) (sym given) above)
    (subst (λ (h : Held). Waits t now f h) same w) x.numbers refl d.end.frequency.in_flight requests refl)
  where
    d : Draft
    d = draft_as b e

    c : Composes e d.end
    c = composes b e may

    given : number_of d.end ≡ number_of e
    given = draft_number b e may

    -- what is asked of the peer with it
    asks_with : Requests e d
    asks_with = draft_requests b e may

    -- an end that has these, and the request that was there
    parts : Numbers → Closing → TransportSettings → ParameterValues → Path → ℕ → Tracking → Held
    parts numbers closing transport peer path delay tracking = record { numbers = numbers; closing = closing; transport = transport; peer = peer; generation = path.generation; rtt = path.rtt; delay = delay; request = e.frequency.in_flight; tracking = tracking }

    same : held e ≡ record (held d.end) { request = e.frequency.in_flight }
    same =
        sym (ap (λ (x : Numbers). parts x d.end.closing d.end.transport d.end.peer_params d.end.path d.end.frequency.peer_delay d.end.tracking) c.numbers
        ∙ ap (λ (x : Closing). parts e.numbers x d.end.transport d.end.peer_params d.end.path d.end.frequency.peer_delay d.end.tracking) c.closing
        ∙ ap (λ (x : TransportSettings). parts e.numbers e.closing x d.end.peer_params d.end.path d.end.frequency.peer_delay d.end.tracking) c.transport
        ∙ ap (λ (x : ParameterValues). parts e.numbers e.closing e.transport x d.end.path d.end.frequency.peer_delay d.end.tracking) c.peer
        ∙ ap (λ (x : Path). parts e.numbers e.closing e.transport e.peer_params x d.end.frequency.peer_delay d.end.tracking) c.path
        ∙ ap (λ (x : ℕ). parts e.numbers e.closing e.transport e.peer_params e.path x d.end.tracking) asks_with.delay
        ∙ ap (λ (x : Tracking). parts e.numbers e.closing e.transport e.peer_params e.path e.frequency.peer_delay x) c.tracking)

    requests : request_behind (delay_asked s.frames) s.number f.request ≡ request_in d.end.frequency.in_flight
    requests =
        ap (λ (o : Option (ℕ × ℕ)). request_behind (delay_asked s.frames) s.number o) w.tells.request
        ∙ ap (λ (n : ℕ). request_behind (delay_asked s.frames) n (request_in e.frequency.in_flight)) number
        ∙ ap (λ (fs : List FrameValue). request_behind (delay_asked fs) (number_of e) (request_in e.frequency.in_flight)) frames
        ∙ ap (λ (o : Option ℕ). request_behind o (number_of e) (request_in e.frequency.in_flight)) (delay_padded d.frames _)
        ∙ sym asks_with.request

    asks_are : asks_of s ≡ asking d.frames
    asks_are = ap asking frames ∙ asking_padded d.frames _

    is : IsWaited s (number_of d.end, packet_of d)
    is = record {
      number = given ∙ sym number;
      generation = ap (λ (x : Path). x.generation) c.path ∙ path;
      time = ap (λ (x : Closing). x.clock) c.closing ∙ sym moment;
      size = ap (λ (n : ℕ). if asking d.frames then n else 0) (sym size) ∙ ap (λ (b : Bool). if b then s.size else 0) (sym asks_are);
      asks = sym asks_are;
      carried = inl (sym (ap carried_in frames ∙ carried_padded d.frames _));
    }

-- the clock goes on
pub ticked_waits : (t : Terms) (before now : ℕ) (f : Flight) (h : Held) → Waits t before f h → Waits t (max before now) f (record h { closing = ticked h.closing now })
ticked_waits t before now f h w = record {
  tells = record { terms = w.tells.terms; clock = ap (λ (n : ℕ). max n now) w.tells.clock; named = w.tells.named; waits = w.tells.waits; asked = w.tells.asked; rtt = w.tells.rtt; delay = w.tells.delay; request = w.tells.request };
  loss_time = w.loss_time;
  expiries = w.expiries;
  probes = w.probes;
}

-- other numbers stand, but the greatest that was named
pub numbers_wait : (t : Terms) (now : ℕ) (f : Flight) (h : Held) (numbers : Numbers) → numbers.largest_acked ≡ h.numbers.largest_acked → Waits t now f h → Waits t now f (record h { numbers = numbers })
numbers_wait t now f h numbers same w = record {
  tells = record { terms = w.tells.terms; clock = w.tells.clock; named = w.tells.named ∙ sym same; waits = w.tells.waits; asked = w.tells.asked; rtt = w.tells.rtt; delay = w.tells.delay; request = w.tells.request };
  loss_time = w.loss_time;
  expiries = w.expiries;
  probes = w.probes;
}

-- an end that is ready waits as before: a probe may take the record of a packet
pub ready_waits : (t : Terms) (before now : ℕ) (f : Flight) (e : End) → Lies 0 e.numbers.next e.tracking.packets → Waits t before f (held e) → Waits t (max before now) f (held (ready_at e now).end)
ready_waits t before now f e lies i = by_ready (λ (x : End). Waits t (max before now) f (held x)) e now w (λ ping immediate x i. i) (λ waits x i. i) (λ p among. record {
  tells = record {
    terms = w.tells.terms;
    clock = w.tells.clock;
    named = w.tells.named;
    waits = waited_put p f.flying e.tracking.packets (λ q j at. one_key 0 e.numbers.next e.tracking.packets lies q p j among (sym (is_at_same p.0 q.0 at))) w.tells.waits;
    asked = asked p f.asked w.tells.asked;
    rtt = w.tells.rtt;
    delay = w.tells.delay;
    request = w.tells.request;
  };
  loss_time = w.loss_time;
  expiries = w.expiries;
  probes = w.probes;
}) (λ moment pacing discovery x j. j)
  where
    w : Waits t (max before now) f (record (held e) { closing = ticked e.closing now })
    w = ticked_waits t before now f (held e) i

    asked : (p : ℕ × TrackedPacket) (o : Option Sent) → IsAsked o e.tracking → IsAsked o (record e.tracking { packets = put e.tracking.packets p.0 (without_record p.1) })
    asked p None i = i
    asked p (Some s) i = i

-- ---- the timer expires

-- the observer counts an expiry, or detects losses, as the end does
judged_waits : (t : Terms) (now : ℕ) (f : Flight) (e : End) → Waits t now f (held e) → (o : Option ℕ) → Waits t now (expired_for o t now f) (held (loss_judged o e))
judged_waits t now f e w None = record {
  tells = record { terms = w.tells.terms; clock = w.tells.clock; named = w.tells.named; waits = w.tells.waits; asked = asked f.asked w.tells.asked; rtt = w.tells.rtt; delay = w.tells.delay; request = w.tells.request };
  loss_time = w.loss_time;
  expiries = let same = w.expiries in omega (arith, same);
  probes = ap (λ (n : ℕ). min (n + 2) most_probes) w.probes;
}
  where
    asked : (o : Option Sent) → IsAsked o e.tracking → IsAsked o (after_loss_timeout e.tracking)
    asked None i = i
    asked (Some s) i = i
judged_waits t now f e w (Some moment) = let found = losses_tell t now f e w.tells in record { tells = found.0; loss_time = found.1; expiries = by_losses (λ (x : End). min f.expiries 16 ≡ min x.tracking.timeouts 16) e (λ discovery queues. w.expiries); probes = by_losses (λ (x : End). f.probes ≡ x.tracking.probes) e (λ discovery queues. w.probes) }

-- where it expired
pub expired_waits : (t : Terms) (now : ℕ) (f : Flight) (e : End) → Waits t now f (held e) → (b : Bool) → Waits t now (if b then expired_for f.loss_time t now f else f) (held (loss_expired b e))
expired_waits t now f e w true = subst (λ (o : Option ℕ). Waits t now (expired_for f.loss_time t now f) (held (loss_judged o e))) w.loss_time (judged_waits t now f e w f.loss_time)
expired_waits t now f e w false = w

-- what losses keep, it keeps
pub expired_flies : (P : List Sent → List Sent → End → Type 0) → Loses P → (t : Terms) (now : ℕ) (f : Flight) (e : End) → Waits t now f (held e) → P f.flying f.acked e → (b : Bool)
    → P (if b then expired_for f.loss_time t now f else f).flying (if b then expired_for f.loss_time t now f else f).acked (loss_expired b e)
expired_flies P c t now f e w i false = i
expired_flies P c t now f e w i true = subst (λ (o : Option ℕ). P (expired_for f.loss_time t now f).flying (expired_for f.loss_time t now f).acked (loss_judged o e)) w.loss_time (go f.loss_time)
  where
    go : (o : Option ℕ) → P (expired_for o t now f).flying (expired_for o t now f).acked (loss_judged o e)
    go None = c.tracked f.flying f.acked (after_loss_timeout e.tracking) e i
    go (Some moment) = losses_fly P c t now f f.acked e w.tells i
