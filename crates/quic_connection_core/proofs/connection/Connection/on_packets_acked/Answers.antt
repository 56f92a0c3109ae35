use Rattle.std.proofs.Common.{rules, ◌≡◌, ℕ, [], ap, sym, ◌∙◌}
use Rattle.quic_machine.specs.End.{with_end}
use Rattle.quic_machine.specs.Tracking.{TrackedPacket}
use Rattle.quic_machine.specs.Control.{told_packet}
use Rattle.quic_machine.specs.Sizes.{told_probe, search_acked}
use Rattle.quic_machine.specs.Acked.{carried_acked, request_acked}
use Rattle.quic_connection_parts.specs.Telling.{telling}
use Rattle.quic_connection_parts.proofs.Told.{acks_begin, acks_go_on, acks_end, keys_told, keys_end, keys_step}
use Rattle.quic_connection_core.proofs.Asked.{numbered_still}
use Rattle.quic_connection_core.proofs.connection.Connection.on_packets_acked.Goals as goal

pub invariant_of-self : goal.invariant_of-self
invariant_of-self g c =
    let i = c.self.invariant in
    let f = c.self.inside.ack_frequency in
    rw c.on_acked.ensures (i.0, i.1, i.2, i.3, i.4, numbered_still f.in_flight c.in-Some.number f ∙ i.5, i.6)

pub loop-number-init : goal.loop-number-init
loop-number-init g c = acks_begin g.C.Controller.steps c.args.self.now c.args.acked.items

pub loop-number-preserved : goal.loop-number-preserved
loop-number-preserved g c =
    let steps = g.C.Controller.steps in
    let x : ℕ × TrackedPacket = (c.in-Some.number, c.in-Some.packet) in
    let searches = c.search_acked.ensures c.in-Some.packet (ap (λ q. q.size) (sym c.packet.view_is)) in
    let ok = rw c.on_acked.ensures at c.in_ok-on_packet_acked.ensures.ok in
    let goes = ok
    ∙ ap (λ z. with_end z (carried_acked c.in-Some.packet.carried (request_acked c.in-Some.number z.end))) c.self.view_is
    ∙ ap (λ z. with_end z (carried_acked c.in-Some.packet.carried (request_acked c.in-Some.number z.end))) searches
    ∙ ap (λ z. telling steps z (told_probe x z.end.path.discovery) (carried_acked c.in-Some.packet.carried (request_acked c.in-Some.number (search_acked x z.end)))) (c.tell_acked.ensures c.in-Some.number) in
    let items = c.in-Some.ensures.items in
    acks_go_on steps c.args.self.now c.loop-number.self c.on_packet_acked.new.self c.args.acked.items c.loop-number.acked.items c.pop.new.self.items x c.loop-number.invariant items goes

pub returns-in_err-on_packet_acked-clause-others : goal.returns-in_err-on_packet_acked-clause-others
returns-in_err-on_packet_acked-clause-others g c =
    let steps = g.C.Controller.steps in
    let w = c.loop-number.self in
    let t = c.tell_acked.new.self in
    let s = c.search_acked.new.self in
    let x : ℕ × TrackedPacket = (c.in-Some.number, c.in-Some.packet) in
    let searches = c.search_acked.ensures c.in-Some.packet (ap (λ q. q.size) (sym c.packet.view_is)) in
    let told = keys_told steps w t (told_packet w.end x) w.end (c.tell_acked.ensures c.in-Some.number) in
    let searched = keys_told steps t s (told_probe x t.end.path.discovery) (search_acked x t.end) searches in
    let left = c.on_packet_acked.ensures.others in
    let others = left ∙ ap (λ z. with_end z c.on_packet_acked.new.self.end) c.self.view_is in
    keys_step c.args.self.now w c.on_packet_acked.new.self c.loop-number.invariant.others (keys_end w s c.on_packet_acked.new.self (keys_step w t s told searched) others)

pub returns-clause-ok : goal.returns-clause-ok
returns-clause-ok g c =
    let none : c.loop-number.acked.items ≡ [] = search rules in
    c.keep_acked.ensures ∙ acks_end g.C.Controller.steps c.args.self.now c.loop-number.self c.args.acked.items c.loop-number.acked.items c.loop-number.invariant none
