use Rattle.std.proofs.Common.{sym, ap, ◌∙◌}
use Rattle.quic_sent_packets.specs.Packets.{newest}
use Rattle.quic_sent_packets.specs.Places.{held}
use Rattle.quic_sent_packets.proofs.Ranges.{between_within, none_within, newest-append}
use Rattle.quic_sent_packets.proofs.Ends.{number_of, last_of_both, last_of_first}
use Rattle.quic_sent_packets.proofs.packet_map.PacketMap.last_within.Goals as goal

pub returns-then-high-low : goal.returns-then-high-low
returns-then-high-low c = sym (ap (λ ps. number_of (newest ps)) (none_within c.args.low c.args.high c.args.self.now c.if-high-low.true))

pub returns-in-Some : goal.returns-in-Some
returns-in-Some c =
    let m = c.self.inside in
    rw (← c.self.view_is) (sym (last_of_both c.args.low c.args.high m.earlier.entries (held m.ring) c.in-Some.number (sym c.in-Some.ensures)))

pub returns-in-Some-next_back : goal.returns-in-Some-next_back
returns-in-Some-next_back c =
    let m = c.self.inside in
    let between = c.range.ensures.between c.new.ensures.exhausted in
    let is = sym (between_within _ _ c.args.low c.args.high m.earlier.entries c.new.ensures.start c.new.ensures.end) ∙ sym between ∙ c.in-Some-next_back.ensures.steps in
    rw (← c.self.view_is)
    (sym (last_of_first c.args.low c.args.high m.earlier.entries (held m.ring) (sym c.in_default.ensures) ∙ ap (λ ps. number_of (newest ps)) is ∙ ap number_of (newest-append _ _)))

pub returns-in-None : goal.returns-in-None
returns-in-None c =
    let m = c.self.inside in
    let between = c.range.ensures.between c.new.ensures.exhausted in
    let is = sym (between_within _ _ c.args.low c.args.high m.earlier.entries c.new.ensures.start c.new.ensures.end) ∙ sym between ∙ c.in-None.ensures.steps.0 in
    rw (← c.self.view_is) (sym (last_of_first c.args.low c.args.high m.earlier.entries (held m.ring) (sym c.in_default.ensures) ∙ ap (λ ps. number_of (newest ps)) is))
