use Rattle.std.proofs.Common.{◌≡◌, ◌&&◌, not, is_some, length, ◌^◌, ◌<◌, ℕ, false, Some, subst, sym, ap, ◌∙◌, arith}
use Rattle.std.specs.Option.{option_map}
use Rattle.quic_streams_parts.specs.Table.{Table, at, added}
use Rattle.quic_sent_packets.specs.Packets.{TrackedPacket}
use Rattle.quic_spaces.specs.Tracking.{Tracking, is_behind, forgotten, after_sent}
use Rattle.quic_spaces.specs.Tail.{IsBehindFrom, without_if}
use Rattle.quic_spaces.specs.Views.{tracking_of}
use Rattle.quic_spaces.proofs.Tails.{goes, none_short, tail_counts, above_tail, silent_sent, holds_map, holds_sent, forgetting_holds}
use Rattle.quic_spaces.proofs.tracking.Tracking.sent.Goals as goal

pub count_above-self-inside-requires : goal.count_above-self-inside-requires
count_above-self-inside-requires c = holds_sent (λ n. n < 2 ^ 64) c.self.inside.packets c.exchange.new.packets c.to_forget-oldest.result c.args.number c.args.packet c.in_ok-forgotten.ensures.left (omega arith) c.self.invariant.1

pub invariant_of-self-then-asks : goal.invariant_of-self-then-asks
invariant_of-self-then-asks c = (
  c.count_above-self-inside.ensures ∙ ap (λ (l : Table TrackedPacket). length l) (above_tail c.args.number c.exchange.new.packets),
  holds_sent (λ n. n < 2 ^ 64) c.self.inside.packets c.exchange.new.packets c.to_forget-oldest.result c.args.number c.args.packet c.in_ok-forgotten.ensures.left (omega arith) c.self.invariant.1,
  holds_map (λ n. n < 2 ^ 64) (IsBehindFrom (Some c.args.number) 0) (λ n small behind. omega arith) c.exchange.new.packets (holds_sent (λ n. n < 2 ^ 64) c.self.inside.packets c.exchange.new.packets c.to_forget-oldest.result c.args.number c.args.packet c.in_ok-forgotten.ensures.left (omega arith) c.self.invariant.1),
)

pub tail_after-self-inside-requires-clause-most : goal.tail_after-self-inside-requires-clause-most
tail_after-self-inside-requires-clause-most c =
    let t : Tracking = tracking_of c.self.inside in
    let p : TrackedPacket = c.args.packet in
    let n : ℕ = c.args.number in
    let o = c.to_forget-oldest.result in
    let oldest = subst (λ (t : Tracking). o ≡ option_map (λ p. p.0) (forgotten t p)) (sym c.self.view_is) c.to_forget-oldest.ensures in
    let g = goes t p o c.exchange.ensures.ascends oldest in
    let silent : p.asks ≡ false = ap (λ (p : TrackedPacket). p.asks) (sym c.packet.view_is) ∙ c.if-asks.false in
    λ h. none_short t p o c.in_ok-forgotten.forgotten c.is_some.result c.self.inside.unacked_non_ack_eliciting_tail silent g c.in_ok-forgotten.ensures.taken c.is_some.ensures c.self.invariant.0 h

pub invariant_of-self-2 : goal.invariant_of-self-2
invariant_of-self-2 c =
    let t : Tracking = tracking_of c.self.inside in
    let p : TrackedPacket = c.args.packet in
    let n : ℕ = c.args.number in
    let o = c.to_forget-oldest.result in
    let oldest = subst (λ (t : Tracking). o ≡ option_map (λ p. p.0) (forgotten t p)) (sym c.self.view_is) c.to_forget-oldest.ensures in
    let g = goes t p o c.exchange.ensures.ascends oldest in
    let comes = subst (λ (t : Tracking). c.lengthens-comes.result ≡ (is_behind t.greatest_asking n && not (is_some (at (without_if o t.packets) n)))) (sym c.self.view_is) c.lengthens-comes.ensures in (
      tail_counts t n p o c.exchange.new.packets c.in_ok-forgotten.forgotten c.is_some.result c.lengthens-comes.result c.self.inside.unacked_non_ack_eliciting_tail c.tail_after-self-inside.result c.exchange.ensures.ascends g c.in_ok-forgotten.ensures.taken c.in_ok-forgotten.ensures.left c.is_some.ensures comes c.self.invariant.0 c.tail_after-self-inside.ensures,
      holds_sent (λ n. n < 2 ^ 64) c.self.inside.packets c.exchange.new.packets c.to_forget-oldest.result c.args.number c.args.packet c.in_ok-forgotten.ensures.left (omega arith) c.self.invariant.1,
      holds_sent (IsBehindFrom t.greatest_asking c.min-self-inside.result) c.self.inside.packets c.exchange.new.packets o n p c.in_ok-forgotten.ensures.left (λ behind. omega (arith, c.min-self-inside.ensures)) (forgetting_holds t p o c.self.inside.tail_from c.min-self-inside.result c.exchange.ensures.ascends oldest (omega (arith, c.min-self-inside.ensures, c.unwrap_or.ensures)) c.self.invariant.2),
    )

pub returns-clause-forgotten : goal.returns-clause-forgotten
returns-clause-forgotten c =
    let t : Tracking = tracking_of c.self.inside in
    let p : TrackedPacket = c.args.packet in
    let n : ℕ = c.args.number in
    let o = c.to_forget-oldest.result in
    let oldest = subst (λ (t : Tracking). o ≡ option_map (λ p. p.0) (forgotten t p)) (sym c.self.view_is) c.to_forget-oldest.ensures in
    let g = goes t p o c.exchange.ensures.ascends oldest in
    subst (λ (t : Tracking). c.in_ok-forgotten.forgotten ≡ option_map (λ p. p.1) (forgotten t p)) c.self.view_is (c.in_ok-forgotten.ensures.taken ∙ g.found)

pub returns-clause-ok : goal.returns-clause-ok
returns-clause-ok c =
    let t : Tracking = tracking_of c.self.inside in
    let p : TrackedPacket = c.args.packet in
    let n : ℕ = c.args.number in
    let o = c.to_forget-oldest.result in
    let oldest = subst (λ (t : Tracking). o ≡ option_map (λ p. p.0) (forgotten t p)) (sym c.self.view_is) c.to_forget-oldest.ensures in
    let g = goes t p o c.exchange.ensures.ascends oldest in
    let silent : p.asks ≡ false = ap (λ (p : TrackedPacket). p.asks) (sym c.packet.view_is) ∙ c.if-asks.false in
    let left = c.in_ok-forgotten.ensures.left ∙ ap (λ (es : Table TrackedPacket). added es n p) g.left in
    silent_sent t n p c.exchange.new.packets silent left ∙ ap (λ (t : Tracking). after_sent t n p) c.self.view_is
