use Rattle.std.proofs.Common.{◌≡◌, ◌&&◌, cond, [], None, length, true, false, ap, ◌∙◌, sym, refl}
use Rattle.std.proofs.lemmas.Bool.{eqb-true, eq-eqb}
use Rattle.std.specs.Prelude.{reverse, ◌==◌}
use Rattle.std.specs.Option.{option_map}
use Rattle.quic_streams_parts.specs.Table.{at}
use Rattle.quic_machine.specs.Tracking.{asks_any, acked_by, not_acked_by, after_answered}
use Rattle.quic_machine.specs.End.{with_end, with_tracking}
use Rattle.quic_machine.specs.Control.{last_sent, told_acks_ended}
use Rattle.quic_machine.specs.Sizes.{told_packets}
use Rattle.quic_machine.specs.Acked.{packets_acked, losses_detected, answered, told_detected}
use Rattle.quic_connection_parts.specs.Telling.{telling}
use Rattle.quic_connection_parts.specs.Tracked.{sampled_at, acked_taken, acked_told}
use Rattle.quic_connection_parts.proofs.Lost.{named_none, named_some, nothing_in}
use Rattle.quic_connection_parts.proofs.Told.{named_told, told_none, told_thrice, counted}
use Rattle.quic_connection_core.proofs.connection.Connection.take_acked.Goals as goal

pub returns-then-is_empty-clause-ok : goal.returns-then-is_empty-clause-ok
returns-then-is_empty-clause-ok g c =
    let a = c.args.frame.now in
    let now = c.args.self.now in
    let acked = c.in_ok-acked.acked in
    let named = sym c.in_ok-acked.ensures.acked in
    let none = nothing_in acked.items (sym acked.ok.0 ∙ eqb-true acked.len 0 (sym c.is_empty.ensures ∙ c.if-is_empty.true)) in
    c.keep_acked.ensures
    ∙ c.in_ok-acked.ensures.ok
    ∙ ap (λ x. with_end now x) (named_none c.args.rises a now.end acked.items named none)
    ∙ ap (λ t. telling g.C.Controller.steps now t (acked_taken (acked_by a now.end.tracking.packets) c.args.rises a now.end)) (told_none c.args.rises a now.end acked.items named none)

pub returns-clause-ok : goal.returns-clause-ok
returns-clause-ok g c =
    let a = c.args.frame.now in
    let now = c.args.self.now in
    let acked = c.in_ok-acked.acked in
    let named = sym c.in_ok-acked.ensures.acked in
    let first = c.in_ok-acked.ensures.ok in
    let some : acked.items ≡ [] → ⊥ = λ none. (let empty : (acked.len == 0) ≡ false = sym c.is_empty.ensures ∙ c.if-is_empty.false in let zero : (acked.len == 0) ≡ true = eq-eqb acked.len 0 (acked.ok.0 ∙ ap length none) in cc) in
    let sample = c.if_measured-sent.result in
    let sent = c.sent_at-sent.ensures ∙ ap (λ n. option_map (λ p. p.time_sent) (at now.end.tracking.packets n)) c.largest.ensures.value in
    let measures = c.if_measured-sent.ensures ∙ ap (λ xs. cond (c.args.rises && asks_any xs) c.sent_at-sent.result None) c.deref.ensures.value ∙ ap (λ o. cond (c.args.rises && asks_any acked.items) o None) sent in
    let steps = g.C.Controller.steps in
    let lost = c.detect_lost_packets.new.self in
    let begun = with_tracking now.end (record now.end.tracking { packets = not_acked_by a now.end.tracking.packets }) in
    let behind = packets_acked (reverse acked.items) begun in
    let left = losses_detected (sampled_at sample a behind) in
    let acks = c.in_ok-on_packets_acked.ensures.ok ∙ ap (λ w. telling steps w (told_packets w.end (reverse acked.items)) (packets_acked (reverse acked.items) w.end)) first in
    let ends = c.end_acks.ensures ∙ ap (λ w. telling steps w (told_acks_ended w.end) w.end) acks in
    let samples = c.update_rtt.ensures ∙ ap (λ w. with_end w (sampled_at sample a w.end)) ends in
    let loses = c.in_ok-detect_lost_packets.ensures.ok ∙ ap (λ w. telling steps w (told_detected true w.end) (losses_detected w.end)) samples in
    let end = c.answered.ensures ∙ ap (λ w. after_answered w.end.tracking) c.self.view_is in
    ap (λ w. with_end w (with_tracking w.end c.answered.new.self)) c.self.view_is
    ∙ ap (λ t. with_end lost (with_tracking lost.end t)) end
    ∙ ap (λ w. with_end w (answered w.end)) loses
    ∙ ap (λ k. record now { control = k; end = answered left }) (told_thrice steps now.control (told_packets begun (reverse acked.items)) (told_acks_ended behind) (told_detected true (sampled_at sample a behind)))
    ∙ ap (λ t. telling steps now t (answered left)) (named_told c.args.rises a now.end behind acked.items sample c.largest.ensures.fits.3 named some refl measures)
    ∙ ap (λ x. telling steps now (acked_told (acked_by a now.end.tracking.packets) c.args.rises a now.end) x) (named_some c.args.rises a now.end behind acked.items sample c.largest.ensures.fits.3 named some refl measures)

pub returns-clause-count : goal.returns-clause-count
returns-clause-count g c =
    let acked = c.in_ok-acked.acked in
    let some : acked.items ≡ [] → ⊥ = λ none. (let empty : (acked.len == 0) ≡ false = sym c.is_empty.ensures ∙ c.if-is_empty.false in let zero : (acked.len == 0) ≡ true = eq-eqb acked.len 0 (acked.ok.0 ∙ ap length none) in cc) in
    counted (acked_by c.args.frame.now c.args.self.now.end.tracking.packets) acked.items c.len-newly.result c.last_sent-last.result (sym c.in_ok-acked.ensures.acked) some
    (c.len-newly.ensures ∙ acked.ok.0) (c.last_sent-last.ensures ∙ ap (λ xs. last_sent (reverse xs)) c.deref-2.ensures.value)
