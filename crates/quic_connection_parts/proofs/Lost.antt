-- Packets that are acknowledged or lost, one after another, and what is tracked beside them.
use Rattle.std.proofs.Common.{◌≡◌, ◌≤◌, ℕ, suc, Bool, true, false, ◌&&◌, cond, List, [], ◌∷◌, length, reverse, Option, Some, None, refl, sym, ap, ◌∙◌, arith}
use Rattle.std.specs.Option.{option_map}
use Rattle.std.proofs.lemmas.List.{reverse-reverse}
use Rattle.quic_wire.specs.Value.{AckValue}
use Rattle.quic_wire.specs.AckGrammar.{GoDown}
use Rattle.quic_send_buffer.specs.declared.stream_meta.StreamMeta.{StreamMeta}
use Rattle.quic_streams_parts.specs.Table.{Table, at}
use Rattle.quic_sent_packets.specs.Packets.{from}
use Rattle.quic_machine.specs.Tracking.{TrackedPacket, Carried, Tracking, asks_any, Verdict, lost_by, kept_by, acked_by, not_acked_by, after_detection}
use Rattle.quic_congestion.specs.Search.{Discovery, is_number}
use Rattle.quic_machine.specs.End.{End, with_tracking, with_discovery, words_drawn}
use Rattle.quic_machine.specs.Sizes.{search_acked, with_one_lost, with_all_lost, after_lost}
use Rattle.quic_machine.specs.FrameCases.{by_searched}
use Rattle.quic_machine.specs.Acked.{request_acked, without_known, reset_acked, resets_acked, streams_acked, stream_acked, carried_acked, packet_acked, packets_acked, stream_lost, streams_lost, again, carried_lost, packets_lost, verdict, losses_detected, measured, sampled, answered, without_acked}
use Rattle.quic_machine.specs.Timeouts.{loss_judged, loss_expired}
use Rattle.quic_connection_parts.specs.Losses.{Lost, one_lost, all_lost}
use Rattle.quic_connection_parts.specs.Tracked.{TakesLost, after_losses, acked_taken, sampled_at}
use Rattle.quic_connection_parts.proofs.Tracked.{all_kept, none_named, moment_measured}

-- ---- what is lost looks at nothing that is tracked

streams_lost_beside : (ms : List StreamMeta) (e : End) (t : Tracking) → streams_lost ms (with_tracking e t) ≡ with_tracking (streams_lost ms e) t
streams_lost_beside [] e t = refl
streams_lost_beside (m ∷ ms) e t = streams_lost_beside ms (stream_lost m e) t

carried_lost_beside : (c : Carried) (e : End) (t : Tracking) → carried_lost c (with_tracking e t) ≡ with_tracking (carried_lost c e) t
carried_lost_beside c e t = ap (again c) (streams_lost_beside c.stream_frames e t)

packets_lost_beside : (ps : Table TrackedPacket) (e : End) (t : Tracking) → packets_lost ps (with_tracking e t) ≡ with_tracking (packets_lost ps e) t
packets_lost_beside [] e t = refl
packets_lost_beside (p ∷ ps) e t = ap (packets_lost ps) (carried_lost_beside p.1.carried e t) ∙ packets_lost_beside ps (carried_lost p.1.carried e) t

-- ---- nor does what is acknowledged

known_beside : (o : Option ℕ) (e : End) (t : Tracking) → without_known o (with_tracking e t) ≡ with_tracking (without_known o e) t
known_beside None e t = refl
known_beside (Some n) e t = refl

resets_acked_beside : (rs : List (ℕ × ℕ)) (e : End) (t : Tracking) → resets_acked rs (with_tracking e t) ≡ with_tracking (resets_acked rs e) t
resets_acked_beside [] e t = refl
resets_acked_beside (r ∷ rs) e t = resets_acked_beside rs (reset_acked r.0 e) t

streams_acked_beside : (ms : List StreamMeta) (e : End) (t : Tracking) → streams_acked ms (with_tracking e t) ≡ with_tracking (streams_acked ms e) t
streams_acked_beside [] e t = refl
streams_acked_beside (m ∷ ms) e t = streams_acked_beside ms (stream_acked m e) t

carried_acked_beside : (c : Carried) (e : End) (t : Tracking) → carried_acked c (with_tracking e t) ≡ with_tracking (carried_acked c e) t
carried_acked_beside c e t =
    let resets : List (ℕ × ℕ) = c.retransmits.reset_stream in
    let known : End = without_known c.largest_acked e in
    ap (λ (x : End). streams_acked c.stream_frames (resets_acked resets x)) (known_beside c.largest_acked e t)
    ∙ ap (streams_acked c.stream_frames) (resets_acked_beside resets known t)
    ∙ streams_acked_beside c.stream_frames (resets_acked resets known) t

pub packets_acked_beside : (ps : Table TrackedPacket) (e : End) (t : Tracking) → packets_acked ps (with_tracking e t) ≡ with_tracking (packets_acked ps e) t
packets_acked_beside [] e t = refl
packets_acked_beside (p ∷ ps) e t = ap (packets_acked ps) (carried_acked_beside p.1.carried (request_acked p.0 (search_acked p e)) t) ∙ packets_acked_beside ps (packet_acked p e) t

-- ---- nor does what is lost look at the search for a size

streams_lost_searched : (ms : List StreamMeta) (e : End) (d : Discovery) → streams_lost ms (with_discovery e d) ≡ with_discovery (streams_lost ms e) d
streams_lost_searched [] e d = refl
streams_lost_searched (m ∷ ms) e d = streams_lost_searched ms (stream_lost m e) d

carried_lost_searched : (c : Carried) (e : End) (d : Discovery) → carried_lost c (with_discovery e d) ≡ with_discovery (carried_lost c e) d
carried_lost_searched c e d = ap (again c) (streams_lost_searched c.stream_frames e d)

packets_lost_searched : (ps : Table TrackedPacket) (e : End) (d : Discovery) → packets_lost ps (with_discovery e d) ≡ with_discovery (packets_lost ps e) d
packets_lost_searched [] e d = refl
packets_lost_searched (p ∷ ps) e d = ap (packets_lost ps) (carried_lost_searched p.1.carried e d) ∙ packets_lost_searched ps (carried_lost p.1.carried e) d

-- ---- the first packet that is lost, and then the others

-- the end once the first that was lost is out, what it carried waits, and the search for a size has
-- learned of it
abbrev pub IsBehind : Option ℕ → ℕ × TrackedPacket → End → Tracking → End → Type 0
IsBehind probe p e new f = f ≡ with_discovery (carried_lost p.1.carried (with_tracking e new)) (with_one_lost (is_number p.0 probe) p e.path.discovery)

-- what is tracked then
left_after : (probe : Option ℕ) (p : ℕ × TrackedPacket) (e f : End) (new : Tracking) → IsBehind probe p e new f → f ≡ with_discovery (with_tracking (carried_lost p.1.carried e) new) (with_one_lost (is_number p.0 probe) p e.path.discovery)
left_after probe p e f new is = is ∙ ap (λ (x : End). with_discovery x (with_one_lost (is_number p.0 probe) p e.path.discovery)) (carried_lost_beside p.1.carried e new)

-- an end that loses its first packet and then the others loses all of them
pub lost_step : (probe : Option ℕ) (v : Verdict) (p : ℕ × TrackedPacket) (e f : End) (new : Tracking) → TakesLost v p e.tracking new → IsBehind probe p e new f → after_losses probe v f ≡ after_losses probe v e
lost_step probe v p e f new takes is =
    let behind : End = carried_lost p.1.carried e in
    let d : Discovery = with_one_lost (is_number p.0 probe) p e.path.discovery in
    let rest : Table TrackedPacket = lost_by v new.packets in
    let stay : record new { packets = kept_by v new.packets } ≡ record e.tracking { packets = kept_by v e.tracking.packets } =
    ap (λ (t : Tracking). record t { packets = kept_by v new.packets }) takes.others ∙ ap (λ (ps : Table TrackedPacket). record e.tracking { packets = ps }) takes.kept in
    ap (after_losses probe v) (left_after probe p e f new is)
    ∙ ap (λ (x : End). with_discovery (with_tracking x (record new { packets = kept_by v new.packets })) (with_all_lost probe rest d)) (packets_lost_searched rest (with_tracking behind new) d)
    ∙ ap (λ (x : End). with_discovery (with_tracking x (record new { packets = kept_by v new.packets })) (with_all_lost probe rest d)) (packets_lost_beside rest behind new)
    ∙ ap (λ (t : Tracking). with_discovery (with_tracking (packets_lost rest behind) t) (with_all_lost probe rest d)) stay
    ∙ ap (λ (ps : Table TrackedPacket). with_discovery (with_tracking (packets_lost ps e) (record e.tracking { packets = kept_by v e.tracking.packets })) (with_all_lost probe ps e.path.discovery)) (sym takes.first)

-- it is gone, whatever its streams send again
tracked_then : (probe : Option ℕ) (p : ℕ × TrackedPacket) (e f : End) (new : Tracking) → IsBehind probe p e new f → f.tracking ≡ new
tracked_then probe p e f new is = ap (λ (x : End). x.tracking) (left_after probe p e f new is)

pub lost_smaller : (probe : Option ℕ) (v : Verdict) (p : ℕ × TrackedPacket) (e f : End) (new : Tracking) → TakesLost v p e.tracking new → IsBehind probe p e new f → suc (length (lost_by v f.tracking.packets)) ≤ length (lost_by v e.tracking.packets)
lost_smaller probe v p e f new takes is =
    let left : length (lost_by v f.tracking.packets) ≡ length (lost_by v new.packets) = ap (λ (t : Tracking). length (lost_by v t.packets)) (tracked_then probe p e f new is) in
    let first : length (lost_by v e.tracking.packets) ≡ suc (length (lost_by v new.packets)) = ap length takes.first in
    omega (arith, left, first)

-- so it is of what the losses come to
pub losses_step : (probe : Option ℕ) (v : Verdict) (p : ℕ × TrackedPacket) (e f : End) (new : Tracking) (g : ℕ) (l m : Lost) → TakesLost v p e.tracking new → IsBehind probe p e new f → m ≡ one_lost g (is_number p.0 probe) l p
    → all_lost g probe m (lost_by v f.tracking.packets) ≡ all_lost g probe l (lost_by v e.tracking.packets)
losses_step probe v p e f new g l m takes is more =
    ap (λ (x : Lost). all_lost g probe x (lost_by v f.tracking.packets)) more
    ∙ ap (λ (t : Tracking). all_lost g probe (one_lost g (is_number p.0 probe) l p) (lost_by v t.packets)) (tracked_then probe p e f new is)
    ∙ ap (all_lost g probe l) (sym takes.first)

-- below the number behind it none is lost
pub lost_behind : (probe : Option ℕ) (v : Verdict) (p : ℕ × TrackedPacket) (e f : End) (new : Tracking) → TakesLost v p e.tracking new → IsBehind probe p e new f → lost_by v (from p.0 f.tracking.packets) ≡ lost_by v f.tracking.packets
lost_behind probe v p e f new takes is =
    let tracked = tracked_then probe p e f new is in
    ap (λ (t : Tracking). lost_by v (from p.0 t.packets)) tracked ∙ takes.behind ∙ ap (λ (t : Tracking). lost_by v t.packets) (sym tracked)

-- where one is lost now, one was at first
pub lost_some : (v : Verdict) (p : ℕ × TrackedPacket) (old new : Tracking) → TakesLost v p old new → lost_by v old.packets ≡ [] → ⊥
lost_some v p old new takes none = let e = sym takes.first ∙ none in cc

-- where none is lost, nothing changes
pub none_lost : (probe : Option ℕ) (v : Verdict) (e : End) → lost_by v e.tracking.packets ≡ [] → after_losses probe v e ≡ e
none_lost probe v e none =
    ap (λ (ps : Table TrackedPacket). with_discovery (with_tracking (packets_lost ps e) (record e.tracking { packets = kept_by v e.tracking.packets })) (with_all_lost probe ps e.path.discovery)) none
    ∙ ap (λ (ps : Table TrackedPacket). with_tracking e (record e.tracking { packets = ps })) (all_kept v e.tracking.packets none)

-- ---- what is lost leaves timers and clock, and draws no word

pub record KeepsTime (e f : End) : Type 0 where
  pub timers : f.timers ≡ e.timers
  pub closing : f.closing ≡ e.closing
  pub words : words_drawn f ≡ words_drawn e

streams_lost_keep : (ms : List StreamMeta) (e : End) → KeepsTime e (streams_lost ms e)
streams_lost_keep [] e = record { timers = refl; closing = refl; words = refl }
streams_lost_keep (m ∷ ms) e = let k = streams_lost_keep ms (stream_lost m e) in record { timers = k.timers; closing = k.closing; words = k.words }

packets_lost_keep : (ps : Table TrackedPacket) (e : End) → KeepsTime e (packets_lost ps e)
packets_lost_keep [] e = record { timers = refl; closing = refl; words = refl }
packets_lost_keep (p ∷ ps) e =
    let first = streams_lost_keep p.1.carried.stream_frames e in
    let others = packets_lost_keep ps (carried_lost p.1.carried e) in
    record { timers = others.timers ∙ first.timers; closing = others.closing ∙ first.closing; words = others.words ∙ first.words }

-- so does the expiry of the loss timer
pub loss_expired_keeps : (b : Bool) (e : End) → KeepsTime e (loss_expired b e)
loss_expired_keeps false e = record { timers = refl; closing = refl; words = refl }
loss_expired_keeps true e = judged e.tracking.loss_time
  where
    judged : (o : Option ℕ) → KeepsTime e (loss_judged o e)
    judged None = record { timers = refl; closing = refl; words = refl }
    judged (Some moment) =
        let lost = lost_by (verdict e) e.tracking.packets in
        let left : End = with_tracking (packets_lost lost e) (after_detection (verdict e) e.tracking) in
        let k = packets_lost_keep lost e in
        by_searched (after_lost left.closing.clock lost left.path.discovery) left (KeepsTime e) (record { timers = k.timers; closing = k.closing; words = k.words }) (λ most. record { timers = k.timers; closing = k.closing; words = k.words })

-- ---- an ACK frame

pub reversed_none : {A : Type 0} (xs : List A) → reverse xs ≡ [] → xs ≡ []
reversed_none xs none = sym (reverse-reverse xs) ∙ ap reverse none

-- an ACK frame that names no tracked packet changes nothing
pub named_none : (rises : Bool) (a : AckValue) (e : End) (acked : Table TrackedPacket) → acked_by a e.tracking.packets ≡ reverse acked → acked ≡ [] → with_tracking e (record e.tracking { packets = not_acked_by a e.tracking.packets }) ≡ acked_taken (acked_by a e.tracking.packets) rises a e
named_none rises a e acked is none =
    let empty : acked_by a e.tracking.packets ≡ [] = is ∙ ap reverse none in
    ap (λ (ps : Table TrackedPacket). with_tracking e (record e.tracking { packets = ps })) (none_named a e.tracking.packets empty)
    ∙ ap (λ (ps : Table TrackedPacket). acked_taken ps rises a e) (sym empty)

-- the sample of a packet is that of the moment at which it went
pub sample_of : (o : Option TrackedPacket) (a : AckValue) (e : End) → sampled_at (option_map (λ (p : TrackedPacket). p.time_sent) o) a e ≡ sampled o a e
sample_of None a e = refl
sample_of (Some p) a e = refl

-- one that names some: they are acknowledged, then the round trip is measured, and then others are
-- lost
pub named_some : (rises : Bool) (a : AckValue) (e f : End) (acked : Table TrackedPacket) (sent : Option ℕ) → GoDown a.largest a.ranges → acked_by a e.tracking.packets ≡ reverse acked → (acked ≡ [] → ⊥)
    → f ≡ packets_acked (reverse acked) (with_tracking e (record e.tracking { packets = not_acked_by a e.tracking.packets }))
    → sent ≡ cond (rises && asks_any acked) (option_map (λ p. p.time_sent) (at e.tracking.packets a.largest)) None
    → answered (losses_detected (sampled_at sent a f)) ≡ acked_taken (acked_by a e.tracking.packets) rises a e
named_some rises a e f acked sent down is some acks measures =
    ap (λ (x : End). answered (losses_detected (sampled_at sent a x))) moved
    ∙ ap (λ (o : Option ℕ). answered (losses_detected (sampled_at o a (without_acked named a e)))) (measures ∙ moment_measured rises a e.tracking.packets acked down is)
    ∙ ap (λ (x : End). answered (losses_detected x)) (sample_of (measured rises a named) a (without_acked named a e))
    ∙ by_named named refl
  where
    named : Table TrackedPacket
    named = acked_by a e.tracking.packets

    left : Tracking
    left = record e.tracking { packets = not_acked_by a e.tracking.packets }

    -- the end once the packets are acknowledged
    moved : f ≡ without_acked named a e
    moved = acks ∙ ap (λ (ps : Table TrackedPacket). packets_acked ps (with_tracking e left)) (sym is) ∙ packets_acked_beside named e left

    by_named : (ps : Table TrackedPacket) → named ≡ ps → answered (losses_detected (sampled (measured rises a named) a (without_acked named a e))) ≡ acked_taken named rises a e
    by_named [] none = absurd (some (reversed_none acked (sym is ∙ none)))
    by_named (p ∷ ps) first =
        ap (λ (xs : Table TrackedPacket). answered (losses_detected (sampled (measured rises a xs) a (without_acked xs a e)))) first
        ∙ ap (λ (xs : Table TrackedPacket). acked_taken xs rises a e) (sym first)

-- a list of no length has nothing
pub nothing_in : {A : Type 0} (xs : List A) → length xs ≡ 0 → xs ≡ []
nothing_in [] none = refl
nothing_in (x ∷ xs) none = absurd (omega arith)
