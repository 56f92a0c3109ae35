-- What a controller is told of packets, one after another.
use Rattle.std.proofs.Common.{◌≡◌, ℕ, Bool, true, ◌&&◌, cond, List, [], ◌∷◌, ◌++◌, length, reverse, slice_get, unwrap_or, Option, Some, None, refl, sym, ap, ◌∙◌}
use Rattle.std.specs.Option.{option_map}
use Rattle.quic_wire.specs.Value.{AckValue}
use Rattle.quic_wire.specs.AckGrammar.{GoDown}
use Rattle.std.proofs.lemmas.List.{length-reverse, reverse-append, append_assoc}
use Rattle.std.proofs.lemmas.List.Sums.{fold-append}
use Rattle.quic_send_buffer.specs.declared.stream_meta.StreamMeta.{StreamMeta}
use Rattle.quic_congestion.specs.Congestion.{Told, Steps, after_call, after_calls}
use Rattle.quic_streams_parts.specs.Table.{Table, at}
use Rattle.quic_machine.specs.Closing.{Closing}
use Rattle.quic_machine.specs.Parts.{Path, Validation}
use Rattle.quic_machine.specs.Tracking.{TrackedPacket, Carried, Tracking, asks_any, acked_by, not_acked_by}
use Rattle.quic_machine.specs.End.{End, ConnectionValue, with_end, with_tracking, number_of}
use Rattle.quic_machine.specs.Poll.{Draft, asking, datagram_size, told_draft}
use Rattle.quic_machine.specs.Control.{last_sent, told_sent, told_packet, told_acks_ended}
use Rattle.quic_machine.specs.Sizes.{search_acked, told_probe, told_packets}
use Rattle.quic_machine.specs.Acked.{request_acked, without_known, reset_acked, resets_acked, stream_acked, streams_acked, carried_acked, packet_acked, packets_acked, stream_lost, streams_lost, carried_lost, packets_lost, measured, sampled, without_acked, told_detected, told_of_losses, told_named, told_seen, told_marks, losses_taken, marks_seen, after_named}
use Rattle.quic_connection_parts.specs.Telling.{telling, KeepsRest}
use Rattle.quic_connection_parts.specs.Tracked.{sampled_at, acked_taken, acked_told, acked_count}
use Rattle.quic_connection_parts.proofs.Tracked.{moment_measured}
use Rattle.quic_connection_parts.proofs.Lost.{packets_acked_beside, sample_of, reversed_none}

abbrev Packets : Type 0
Packets = Table TrackedPacket

-- clock, state and path stay, and so does by what it is validated
pub record KeepsPath (e f : End) : Type 0 where
  pub closing : f.closing ≡ e.closing
  pub path : f.path ≡ e.path
  pub validation : f.validation ≡ e.validation

both_keep : (e f h : End) → KeepsPath e f → KeepsPath f h → KeepsPath e h
both_keep e f h k l = record { closing = l.closing ∙ k.closing; path = l.path ∙ k.path; validation = l.validation ∙ k.validation }

pub same_path : (e : End) → KeepsPath e e
same_path e = record { closing = refl; path = refl; validation = refl }

known_keep : (o : Option ℕ) (e : End) → KeepsPath e (without_known o e)
known_keep None e = same_path e
known_keep (Some n) e = record { closing = refl; path = refl; validation = refl }

resets_keep : (rs : List (ℕ × ℕ)) (e : End) → KeepsPath e (resets_acked rs e)
resets_keep [] e = same_path e
resets_keep (r ∷ rs) e = let k = resets_keep rs (reset_acked r.0 e) in record { closing = k.closing; path = k.path; validation = k.validation }

streams_keep : (ms : List StreamMeta) (e : End) → KeepsPath e (streams_acked ms e)
streams_keep [] e = same_path e
streams_keep (m ∷ ms) e = let k = streams_keep ms (stream_acked m e) in record { closing = k.closing; path = k.path; validation = k.validation }

-- where what a packet carried is acknowledged
pub acked_keep : (c : Carried) (e : End) → KeepsPath e (carried_acked c e)
acked_keep c e =
    let known : End = without_known c.largest_acked e in
    let resets : End = resets_acked c.retransmits.reset_stream known in
    both_keep e known (streams_acked c.stream_frames resets) (known_keep c.largest_acked e)
    (both_keep known resets (streams_acked c.stream_frames resets) (resets_keep c.retransmits.reset_stream known) (streams_keep c.stream_frames resets))

lost_keep : (ms : List StreamMeta) (e : End) → KeepsPath e (streams_lost ms e)
lost_keep [] e = same_path e
lost_keep (m ∷ ms) e = let k = lost_keep ms (stream_lost m e) in record { closing = k.closing; path = k.path; validation = k.validation }

-- or lost
pub carried_lost_keep : (c : Carried) (e : End) → KeepsPath e (carried_lost c e)
carried_lost_keep c e = let k = lost_keep c.stream_frames e in record { closing = k.closing; path = k.path; validation = k.validation }

-- or that of packets
pub packets_lost_keep : (ps : Packets) (e : End) → KeepsPath e (packets_lost ps e)
packets_lost_keep [] e = same_path e
packets_lost_keep (p ∷ ps) e = both_keep e (carried_lost p.1.carried e) (packets_lost ps (carried_lost p.1.carried e)) (carried_lost_keep p.1.carried e) (packets_lost_keep ps (carried_lost p.1.carried e))

-- ---- what is told in parts

pub told_parts : {C : Type 0} (steps : Steps C) (c : C) (before later : List Told) → after_calls steps (after_calls steps c before) later ≡ after_calls steps c (before ++ later)
told_parts steps c before later = sym (fold-append (λ d call. after_call steps call d) c before later)

-- ---- when packets went

-- the last of a list
last_behind : (ps : Packets) (x : ℕ × TrackedPacket) → last_sent (ps ++ x ∷ []) ≡ x.1.time_sent
last_behind [] x = refl
last_behind (p ∷ []) x = refl
last_behind (p ∷ q ∷ ps) x = last_behind (q ∷ ps) x

-- the first of a list is the last of it backwards
pub first_sent : (ps : Packets) (x : ℕ × TrackedPacket) → Some x ≡ slice_get ps 0 → x.1.time_sent ≡ last_sent (reverse ps)
first_sent [] x is = cc
first_sent (p ∷ ps) x is =
    let same : x ≡ p = ap (λ (o : Option (ℕ × TrackedPacket)). unwrap_or o x) is in
    ap (λ (y : ℕ × TrackedPacket). y.1.time_sent) same ∙ sym (last_behind (reverse ps) p) ∙ ap last_sent (sym (reverse-append (p ∷ []) ps))

-- how many there are, and when the last of them went, where they come backwards
pub counted : (named acked : Packets) (newly last : ℕ) → named ≡ reverse acked → (acked ≡ [] → ⊥) → newly ≡ length acked → last ≡ last_sent (reverse acked) → Some (newly, last) ≡ acked_count named
counted [] acked newly last is some many when = absurd (some (reversed_none acked (sym is)))
counted (p ∷ ps) acked newly last is some many when =
    let all : newly ≡ length (p ∷ ps) = many ∙ sym (length-reverse acked) ∙ ap length (sym is) in
    let moment : last ≡ last_sent (p ∷ ps) = when ∙ ap last_sent (sym is) in
    rw (all, moment) refl

-- ---- packets that are acknowledged, the last of a list first

pub popped : (all rest : Packets) (x : ℕ × TrackedPacket) → all ≡ rest ++ x ∷ [] → reverse all ≡ x ∷ reverse rest
popped all rest x is = ap reverse is ∙ reverse-append rest (x ∷ [])

told_same : (e f : End) (p : ℕ × TrackedPacket) → KeepsPath e f → told_packet f p ≡ told_packet e p
told_same e f p k = ap (λ (c : Closing). told_packet (record f { closing = c }) p) k.closing ∙ ap (λ (x : Path). told_packet (record f { closing = e.closing; path = x }) p) k.path
    ∙ ap (λ (v : Validation). told_packet (record e { validation = v }) p) k.validation

-- the search learns the same
search_same : (e f : End) (p : ℕ × TrackedPacket) → KeepsPath e f → KeepsPath (search_acked p e) (search_acked p f)
search_same e f p k = record { closing = k.closing; path = ap (λ (x : Path). (search_acked p (record e { path = x })).path) k.path; validation = k.validation }

told_all_same : (ps : Packets) (e f : End) → KeepsPath e f → told_packets f ps ≡ told_packets e ps
told_all_same [] e f k = refl
told_all_same (p ∷ ps) e f k =
    ap (λ (t : List Told). t ++ told_probe p f.path.discovery ++ told_packets (search_acked p f) ps) (told_same e f p k)
    ∙ ap (λ (x : Path). told_packet e p ++ told_probe p x.discovery ++ told_packets (search_acked p f) ps) k.path
    ∙ ap (λ (t : List Told). told_packet e p ++ told_probe p e.path.discovery ++ t) (told_all_same ps (search_acked p e) (search_acked p f) (search_same e f p k))

-- the end and its controller once one is
pub record Acks {H K R C : Type 0} (steps : Steps C) (first : ConnectionValue H K R C) (all : Packets) (w : ConnectionValue H K R C) (left : Packets) : Type 0 where
  pub takes : packets_acked (reverse left) w.end ≡ packets_acked (reverse all) first.end
  pub told : after_calls steps w.control (told_packets w.end (reverse left)) ≡ after_calls steps first.control (told_packets first.end (reverse all))
  pub others : KeepsRest first w

pub acks_begin : {H K R C : Type 0} (steps : Steps C) (w : ConnectionValue H K R C) (all : Packets) → Acks steps w all w all
acks_begin steps w all = record { takes = refl; told = refl; others = refl }

pub acks_go_on : {H K R C : Type 0} (steps : Steps C) (first w next : ConnectionValue H K R C) (all left rest : Packets) (x : ℕ × TrackedPacket) → Acks steps first all w left → left ≡ rest ++ x ∷ []
    → next ≡ record w { control = after_calls steps (after_calls steps w.control (told_packet w.end x)) (told_probe x w.end.path.discovery); end = packet_acked x w.end } → Acks steps first all next rest
acks_go_on {H} {K} {R} {C} steps first w next all left rest x a is goes =
    let turned = popped left rest x is in
    let end : next.end ≡ packet_acked x w.end = ap (λ (z : ConnectionValue H K R C). z.end) goes in
    let one : List Told = told_packet w.end x in
    let size : List Told = told_probe x w.end.path.discovery in
    let others : List Told = told_packets (search_acked x w.end) (reverse rest) in
    let control : next.control ≡ after_calls steps (after_calls steps w.control one) size = ap (λ (z : ConnectionValue H K R C). z.control) goes in
    let k = acked_keep x.1.carried (request_acked x.0 (search_acked x w.end)) in
    let same : told_packets next.end (reverse rest) ≡ others =
    ap (λ (z : End). told_packets z (reverse rest)) end ∙ told_all_same (reverse rest) (search_acked x w.end) (packet_acked x w.end) (record { closing = k.closing; path = k.path; validation = k.validation }) in
    record {
      takes = ap (packets_acked (reverse rest)) end ∙ ap (λ (ps : Packets). packets_acked ps w.end) (sym turned) ∙ a.takes;
      told = ap (λ (t : List Told). after_calls steps next.control t) same
          ∙ ap (λ (c : C). after_calls steps c others) control
          ∙ told_parts steps (after_calls steps w.control one) size others
          ∙ told_parts steps w.control one (size ++ others)
          ∙ ap (λ (t : List Told). after_calls steps w.control t) (sym (append_assoc one size others))
          ∙ ap (λ (ps : Packets). after_calls steps w.control (told_packets w.end ps)) (sym turned)
          ∙ a.told;
      others = goes ∙ ap (λ (z : ConnectionValue H K R C). record z { control = after_calls steps (after_calls steps w.control one) size; end = packet_acked x w.end }) a.others
          ∙ ap (λ (z : ConnectionValue H K R C). record first { control = z.control; end = z.end }) (sym goes);
    }

pub acks_end : {H K R C : Type 0} (steps : Steps C) (first w : ConnectionValue H K R C) (all left : Packets) → Acks steps first all w left → left ≡ [] → w ≡ telling steps first (told_packets first.end (reverse all)) (packets_acked (reverse all) first.end)
acks_end {H} {K} {R} {C} steps first w all left a none =
    let end : w.end ≡ packets_acked (reverse all) first.end = ap (λ (ps : Packets). packets_acked (reverse ps) w.end) (sym none) ∙ a.takes in
    let control : w.control ≡ after_calls steps first.control (told_packets first.end (reverse all)) = ap (λ (ps : Packets). after_calls steps w.control (told_packets w.end (reverse ps))) (sym none) ∙ a.told in
    a.others ∙ ap (λ (c : C). record first { control = c; end = w.end }) control ∙ ap (λ (x : End). record first { control = after_calls steps first.control (told_packets first.end (reverse all)); end = x }) end

-- ---- keys and random source stay

pub keys_told : {H K R C : Type 0} (steps : Steps C) (w t : ConnectionValue H K R C) (told : List Told) (e : End) → t ≡ telling steps w told e → KeepsRest w t
keys_told {H} {K} {R} {C} steps w t told e is = is ∙ ap (λ (z : ConnectionValue H K R C). record w { control = z.control; end = z.end }) (sym is)

pub keys_end : {H K R C : Type 0} (w t left : ConnectionValue H K R C) → KeepsRest w t → left ≡ with_end t left.end → KeepsRest w left
keys_end {H} {K} {R} {C} w t left k is =
    let control : left.control ≡ t.control = ap (λ (z : ConnectionValue H K R C). z.control) is in
    is ∙ ap (λ (z : ConnectionValue H K R C). with_end z left.end) k ∙ ap (λ (c : C). record w { control = c; end = left.end }) (sym control)

pub keys_step : {H K R C : Type 0} (w t left : ConnectionValue H K R C) → KeepsRest w t → KeepsRest t left → KeepsRest w left
keys_step {H} {K} {R} {C} w t left k l = l ∙ ap (λ (z : ConnectionValue H K R C). record z { control = left.control; end = left.end }) k

-- ---- an ACK frame

told_beside : (ps : Packets) (e : End) (t : Tracking) → told_packets (with_tracking e t) ps ≡ told_packets e ps
told_beside [] e t = refl
told_beside (p ∷ ps) e t = ap (λ (l : List Told). told_packet e p ++ told_probe p e.path.discovery ++ l) (told_beside ps (search_acked p e) t)

-- what a controller is told of one that names tracked packets
pub named_told : (rises : Bool) (a : AckValue) (e f : End) (acked : Packets) (sent : Option ℕ) → GoDown a.largest a.ranges → acked_by a e.tracking.packets ≡ reverse acked → (acked ≡ [] → ⊥)
    → f ≡ packets_acked (reverse acked) (with_tracking e (record e.tracking { packets = not_acked_by a e.tracking.packets }))
    → sent ≡ cond (rises && asks_any acked) (option_map (λ p. p.time_sent) (at e.tracking.packets a.largest)) None
    → told_packets (with_tracking e (record e.tracking { packets = not_acked_by a e.tracking.packets })) (reverse acked) ++ (told_acks_ended f ++ told_detected true (sampled_at sent a f)) ≡ acked_told (acked_by a e.tracking.packets) rises a e
named_told rises a e f acked sent down is some acks measures =
    ap (λ (x : End). told_packets (with_tracking e left) (reverse acked) ++ (told_acks_ended x ++ told_detected true (sampled_at sent a x))) moved
    ∙ ap (λ (o : Option ℕ). told_packets (with_tracking e left) (reverse acked) ++ (told_acks_ended w ++ told_detected true (sampled_at o a w))) (measures ∙ moment_measured rises a e.tracking.packets acked down is)
    ∙ ap (λ (x : End). told_packets (with_tracking e left) (reverse acked) ++ (told_acks_ended w ++ told_detected true x)) (sample_of (measured rises a named) a w)
    ∙ ap (λ (l : List Told). l ++ (told_acks_ended w ++ told_detected true (sampled (measured rises a named) a w))) (told_beside (reverse acked) e left ∙ ap (told_packets e) (sym is))
    ∙ by_named named refl
  where
    named : Packets
    named = acked_by a e.tracking.packets

    left : Tracking
    left = record e.tracking { packets = not_acked_by a e.tracking.packets }

    w : End
    w = without_acked named a e

    -- the end once the packets are acknowledged
    moved : f ≡ w
    moved = acks ∙ ap (λ (ps : Packets). packets_acked ps (with_tracking e left)) (sym is) ∙ packets_acked_beside named e left

    by_named : (ps : Packets) → named ≡ ps → told_packets e named ++ (told_acks_ended w ++ told_detected true (sampled (measured rises a named) a w)) ≡ acked_told named rises a e
    by_named [] none = absurd (some (reversed_none acked (sym is ∙ none)))
    by_named (p ∷ ps) first =
        ap (λ (xs : Packets). told_packets e xs ++ (told_acks_ended (without_acked xs a e) ++ told_detected true (sampled (measured rises a xs) a (without_acked xs a e)))) first
        ∙ sym (append_assoc (told_packets e (p ∷ ps)) (told_acks_ended (without_acked (p ∷ ps) a e)) (told_detected true (sampled (measured rises a (p ∷ ps)) a (without_acked (p ∷ ps) a e))))
        ∙ ap (λ (xs : Packets). acked_told xs rises a e) (sym first)

-- one that names none
pub told_none : (rises : Bool) (a : AckValue) (e : End) (acked : Packets) → acked_by a e.tracking.packets ≡ reverse acked → acked ≡ [] → [] ≡ acked_told (acked_by a e.tracking.packets) rises a e
told_none rises a e acked is none = ap (λ (ps : Packets). acked_told ps rises a e) (sym (is ∙ ap reverse none))

-- a controller that is told of acknowledged packets, that they end, and of others that are lost
pub told_thrice : {C : Type 0} (steps : Steps C) (c : C) (acks ends losses : List Told) → after_calls steps (after_calls steps (after_calls steps c acks) ends) losses ≡ after_calls steps c (acks ++ (ends ++ losses))
told_thrice steps c acks ends losses = told_parts steps (after_calls steps c acks) ends losses ∙ told_parts steps c acks (ends ++ losses)

-- ---- counts of marks behind an ACK frame

-- where some packets are newly acknowledged, counts are judged behind them
pub marks_behind : {H K R C : Type 0} (steps : Steps C) (w : ConnectionValue H K R C) (rises : Bool) (a : AckValue) (named : Packets) (newly last : ℕ) → acked_count named ≡ Some (newly, last)
    → (let left = acked_taken named rises a w.end in
    telling steps (telling steps w (acked_told named rises a w.end) left) (told_seen left.path.marking rises newly a.ecn last left) (marks_seen rises newly a left)) ≡ telling steps w (told_named named rises a w.end) (after_named named rises a w.end)
marks_behind steps w rises a [] newly last is = cc
marks_behind steps w rises a (p ∷ ps) newly last is =
    let ps' : Packets = p ∷ ps in
    let left : End = losses_taken ps' rises a w.end in
    let many : newly ≡ length ps' = sym (ap (λ (o : Option (ℕ × ℕ)). (unwrap_or o (0, 0)).0) is) in
    let when : last ≡ last_sent ps' = sym (ap (λ (o : Option (ℕ × ℕ)). (unwrap_or o (0, 0)).1) is) in
    let told : List Told = told_of_losses ps' rises a w.end in
    rw many (rw when (ap (λ c. record w { control = c; end = marks_seen rises (length ps') a left }) (told_parts steps w.control told (told_marks rises ps' a left))))

-- where none is, none are
pub marks_nowhere : {H K R C : Type 0} (steps : Steps C) (w : ConnectionValue H K R C) (rises : Bool) (a : AckValue) (named : Packets) → acked_count named ≡ None
    → telling steps w (acked_told named rises a w.end) (acked_taken named rises a w.end) ≡ telling steps w (told_named named rises a w.end) (after_named named rises a w.end)
marks_nowhere steps w rises a [] is = refl
marks_nowhere steps w rises a (p ∷ ps) is = cc

-- ---- a datagram that goes

-- what is told of the end that a draft leaves, by its size and whether it asks, is what is told of
-- the draft
pub told_of_draft : {H K R C : Type 0} (steps : Steps C) (w x : ConnectionValue H K R C) (d : Draft) (asks : Bool) (size : ℕ) (after : C) → x ≡ with_end w d.end → asks ≡ asking d.frames → size ≡ datagram_size d
    → after ≡ after_calls steps x.control (told_sent asks x.end size (number_of x.end)) → after ≡ after_calls steps w.control (told_draft d)
told_of_draft steps w x d asks size after end asked sized is =
    is
    ∙ ap (λ v. after_calls steps v.control (told_sent asks v.end size (number_of v.end))) end
    ∙ ap (λ (b : Bool). after_calls steps w.control (told_sent b d.end size (number_of d.end))) asked
    ∙ ap (λ (n : ℕ). after_calls steps w.control (told_sent (asking d.frames) d.end n (number_of d.end))) sized
