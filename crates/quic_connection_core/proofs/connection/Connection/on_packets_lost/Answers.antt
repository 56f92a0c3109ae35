use Rattle.std.proofs.Common.{◌≡◌, ℕ, Bool, Option, refl, ap, ◌∙◌, sym, subst}
use Rattle.quic_congestion.specs.Search.{is_number, open_probe}
use Rattle.quic_spaces.proofs.WalkLaws.{from_zero}
use Rattle.quic_machine.specs.Parts.{Path}
use Rattle.quic_machine.specs.End.{End, with_end, with_tracking, with_discovery}
use Rattle.quic_machine.specs.Tracking.{Tracking, TrackedPacket, lost_by}
use Rattle.quic_machine.specs.Sizes.{with_one_lost}
use Rattle.quic_machine.specs.Acked.{carried_lost}
use Rattle.quic_connection_parts.specs.Losses.{one_lost}
use Rattle.quic_connection_parts.specs.Tracked.{TakesLost}
use Rattle.quic_connection_parts.proofs.Lost.{IsBehind, lost_step, losses_step, lost_smaller, lost_behind, lost_some, none_lost}
use Rattle.quic_connection_parts.proofs.Told.{carried_lost_keep}
use Rattle.quic_connection_parts.proofs.Flights.{lost_flies, lost_leaves}
use Rattle.quic_connection_core.proofs.connection.Connection.on_packets_lost.Goals as goal

-- the end once a packet is out, what it carried waits, and the search has learned of it
behind_is : (probe : Option ℕ) (p : ℕ × TrackedPacket) (e y f : End) (new : Tracking) (b : Bool) → y ≡ carried_lost p.1.carried (with_tracking e new) → b ≡ is_number p.0 probe → f ≡ with_discovery y (with_one_lost b p y.path.discovery) → IsBehind probe p e new f
behind_is probe p e y f new b lost is searched =
    let left : End = carried_lost p.1.carried (with_tracking e new) in
    searched
    ∙ ap (λ (x : End). with_discovery x (with_one_lost b p x.path.discovery)) lost
    ∙ ap (λ (x : Path). with_discovery left (with_one_lost b p x.discovery)) (carried_lost_keep p.1.carried (with_tracking e new)).path
    ∙ ap (λ (k : Bool). with_discovery left (with_one_lost k p e.path.discovery)) is

pub leave_flight-requires : goal.leave_flight-requires
leave_flight-requires g c =
    let i = c.self-in-loop-number.inside in
    lost_flies i.path.generation i.space.numbers.next c.args.verdict.now (c.in-Some.number, c.in-Some.packet) i.space.tracking c.take_lost.new.tracking i.path.in_flight c.self-in-loop-number.invariant.3 c.in-Some.ensures.taken

pub invariant_of-self : goal.invariant_of-self
invariant_of-self g c =
    let i = c.self-in-loop-number.inside in
    let inv = c.self-in-loop-number.invariant in
    rw c.leave_flight.ensures (
      inv.0,
      inv.1,
      inv.2,
      lost_leaves i.path.generation i.space.numbers.next c.args.verdict.now (c.in-Some.number, c.in-Some.packet) i.space.tracking c.take_lost.new.tracking i.path.in_flight inv.3 c.in-Some.ensures.taken,
      inv.4,
      inv.5,
      inv.6,
    )

pub loop-number-init : goal.loop-number-init
loop-number-init g c = record {
  lost = refl;
  counts = refl;
  behind = ap (lost_by c.args.verdict.now) (from_zero c.args.self.now.end.tracking.packets);
  none = λ none. none;
  generation = refl;
  others = refl;
}

pub loop-number-smaller : goal.loop-number-smaller
loop-number-smaller g c =
    let v = c.args.verdict.now in
    let probe = open_probe c.args.self.now.end.path.discovery in
    let packet : ℕ × TrackedPacket = (c.in-Some.number, c.in-Some.packet) in
    let new = c.take_lost.new.tracking in
    let e = c.loop-number.self.end in
    let takes = subst (λ t. TakesLost v packet t new) (ap (λ w. w.end.tracking) c.self-in-loop-number.view_is) c.in-Some.ensures.taken in
    let ok = rw c.leave_flight.ensures at c.in_ok-on_packet_lost.ensures.ok in
    let lost = ap (λ w. w.end) ok ∙ ap (λ w. carried_lost c.in-Some.packet.carried (with_tracking w.end new)) c.self-in-loop-number.view_is in
    let named : c.is_number-is_probe.result ≡ is_number c.in-Some.number probe = c.is_number-is_probe.ensures ∙ ap (is_number c.in-Some.number) c.open_probe-probe.ensures in
    let searched = ap (λ w. w.end) (c.search_lost.ensures c.in-Some.packet (ap (λ q. q.size) (sym c.packet.view_is))) in
    let behind = behind_is probe packet e c.on_packet_lost.new.self.end c.search_lost.new.self.end new c.is_number-is_probe.result lost named searched in
    lost_smaller probe v packet e c.search_lost.new.self.end new takes behind

pub loop-number-preserved : goal.loop-number-preserved
loop-number-preserved g c =
    let v = c.args.verdict.now in
    let first = c.args.self.now.end.path.generation in
    let probe = open_probe c.args.self.now.end.path.discovery in
    let packet : ℕ × TrackedPacket = (c.in-Some.number, c.in-Some.packet) in
    let new = c.take_lost.new.tracking in
    let e = c.loop-number.self.end in
    let y = c.on_packet_lost.new.self in
    let f = c.search_lost.new.self.end in
    let takes = subst (λ t. TakesLost v packet t new) (ap (λ w. w.end.tracking) c.self-in-loop-number.view_is) c.in-Some.ensures.taken in
    let ok = rw c.leave_flight.ensures at c.in_ok-on_packet_lost.ensures.ok in
    let others = rw c.leave_flight.ensures at c.in_ok-on_packet_lost.ensures.others in
    let lost = ap (λ w. w.end) ok ∙ ap (λ w. carried_lost c.in-Some.packet.carried (with_tracking w.end new)) c.self-in-loop-number.view_is in
    let named : c.is_number-is_probe.result ≡ is_number c.in-Some.number probe = c.is_number-is_probe.ensures ∙ ap (is_number c.in-Some.number) c.open_probe-probe.ensures in
    let searches = c.search_lost.ensures c.in-Some.packet (ap (λ q. q.size) (sym c.packet.view_is)) in
    let behind = behind_is probe packet e y.end f new c.is_number-is_probe.result lost named (ap (λ w. w.end) searches) in
    let generation : c.generation.result ≡ first = c.generation.ensures ∙ ap (λ p. p.generation) c.leave_flight.ensures ∙ ap (λ w. w.end.path.generation) c.self-in-loop-number.view_is ∙ c.loop-number.invariant.generation in
    let more : c.add.new.self ≡ one_lost first (is_number c.in-Some.number probe) c.loop-number.losses packet =
    c.add.ensures ∙ ap (λ (k : ℕ). one_lost k c.is_number-is_probe.result c.loop-number.losses packet) generation ∙ ap (λ (b : Bool). one_lost first b c.loop-number.losses packet) named in
    record {
      lost = lost_step probe v packet e f new takes behind ∙ c.loop-number.invariant.lost;
      counts = losses_step probe v packet e f new first c.loop-number.losses c.add.new.self takes behind more ∙ c.loop-number.invariant.counts;
      behind = lost_behind probe v packet e f new takes behind;
      none = λ none. absurd (lost_some v packet e.tracking new takes (c.loop-number.invariant.none none));
      generation = ap (λ x. x.path.generation) behind ∙ ap (λ (x : Path). x.generation) (carried_lost_keep c.in-Some.packet.carried (with_tracking e new)).path ∙ c.loop-number.invariant.generation;
      others = searches ∙ ap (λ x. with_end y x) (sym (ap (λ w. w.end) searches)) ∙ ap (λ w. with_end w f) others ∙ ap (λ w. with_end w f) c.self-in-loop-number.view_is ∙ ap (λ w. with_end w f) c.loop-number.invariant.others;
    }

pub returns-clause-ok : goal.returns-clause-ok
returns-clause-ok g c =
    let v = c.args.verdict.now in
    let probe = open_probe c.args.self.now.end.path.discovery in
    let e = c.loop-number.self.end in
    let same = c.in_default.ensures.same ∙ ap (λ w. w.end.tracking) c.self-in-loop-number.view_is in
    let none = sym (ap (λ w. lost_by v w.end.tracking.packets) c.self-in-loop-number.view_is) ∙ c.in_default.ensures.none in
    ap (λ w. with_end w (with_tracking w.end c.take_lost.new.tracking)) c.self-in-loop-number.view_is
    ∙ ap (λ t. with_end c.loop-number.self (with_tracking e t)) same
    ∙ c.loop-number.invariant.others
    ∙ ap (λ x. with_end c.args.self.now x) (sym (none_lost probe v e none) ∙ c.loop-number.invariant.lost)
