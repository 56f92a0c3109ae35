use Rattle.std.proofs.Common.{◌≡◌, ◌<◌, ℕ, max, false, length, subst, sym, ap, ◌∙◌, arith}
use Rattle.std.specs.Option.{option_map}
use Rattle.quic_sent_packets.specs.Packets.{TrackedPacket, oldest, from}
use Rattle.quic_spaces.specs.Tracking.{Tracking, tail_of, forgotten}
use Rattle.quic_spaces.specs.Tail.{tail_start}
use Rattle.quic_spaces.specs.Views.{tracking_of}
use Rattle.quic_spaces.proofs.Tails.{forgets_oldest}
use Rattle.quic_spaces.proofs.tracking.Tracking.to_forget.Goals as goal

pub returns : goal.returns
returns c =
    let t : Tracking = tracking_of c.self.inside in
    let p : TrackedPacket = c.args.packet.now in
    let silent : p.asks ≡ false = ap (λ (p : TrackedPacket). p.asks) (sym c.packet.view_is) ∙ c.if-packet.false in
    let long : 1000 < length (tail_of t) = omega (arith, c.self.invariant.0, c.if-self-le-MOST_TAIL.false) in
    let start : c.max.result ≡ max (tail_start t.greatest_asking) c.self.inside.tail_from = c.max.ensures ∙ ap (λ (n : ℕ). max n c.self.inside.tail_from) c.tail_start-start.ensures in
    let own : c.first_from.result ≡ option_map (λ p. p.0) (forgotten t p) =
    c.first_from.ensures.value ∙ ap (λ (low : ℕ). option_map (λ p. p.0) (oldest (from low t.packets))) start ∙ forgets_oldest t p c.self.inside.tail_from silent long c.self.invariant.1 c.self.invariant.2 in
    subst (λ (t : Tracking). c.first_from.result ≡ option_map (λ p. p.0) (forgotten t p)) c.self.view_is own
