use Rattle.std.specs.Prelude.{if◌then◌else◌}
use Rattle.quic_spaces.specs.Filter.{Filter, is_skipped, allocated}
use Rattle.std.proofs.Common.{◌≡◌, ◌≤◌, ◌<◌, ◌^◌, ◌+◌, ◌-◌, ◌*◌, ℕ, Bool, true, false, length, ap, sym, subst, ◌∙◌, arith}
use Rattle.quic_sent_packets.specs.Packets.{Ascends}
use Rattle.quic_streams_parts.specs.Table.{Table}
use Rattle.quic_machine.specs.End.{number_of}
use Rattle.quic_machine.specs.Tracking.{TrackedPacket}
use Rattle.quic_connection_core.proofs.Plain.{numbers_near}
use Rattle.quic_machine.specs.Ids.{words_of_id}
use Rattle.quic_connection_parts.specs.Drawn.{after_words}
use Rattle.quic_connection_parts.proofs.Words.{words_left, less_same}
use Rattle.quic_connection_parts.proofs.Flights.{room_in_flight, forgotten_flies, sent_packets, sent_flies}
use Rattle.quic_connection_core.proofs.connection.Connection.keep.Goals as goal

first_above : (f : Filter) (n : ℕ) → n ≤ allocated f n
first_above f n = go (is_skipped f n)
  where
    go : (b : Bool) → n ≤ (if b then n + 1 else n)
    go true = omega arith
    go false = omega arith

pub enter_flight-requires : goal.enter_flight-requires
enter_flight-requires g c asks fits =
    let i = c.self.inside in
    let e = c.args.self.now.end in
    let up = subst (λ (es : Table TrackedPacket). Ascends es) c.packets.ensures c.get-packet.ensures.ascends in
    let near = (numbers_near e.filter e.numbers c.requires.number).0 in
    let same = ap (λ w. w.end.numbers.next) c.self.view_is in
    let above = c.number-number.ensures.above in
    let value = c.number-number.ensures.value in
    let few : i.space.numbers.next ≤ 2 ^ 62 = omega (arith, near, same, above, value) in
    room_in_flight i.path.generation i.space.numbers.next i.space.tracking.packets i.path.in_flight c.packet.inside.size c.self.invariant.3 up few fits

pub leave_forgotten-requires : goal.leave_forgotten-requires
leave_forgotten-requires g c =
    let i = c.self.inside in
    let size = ap (λ q. q.size) c.packet.view_is in
    let asks = ap (λ q. q.asks) c.packet.view_is in
    rw (c.enter_flight.ensures.path, c.in_ok-forgotten.ensures.forgotten, size, asks) (forgotten_flies i.path.generation i.space.numbers.next i.space.tracking i.path.in_flight c.args.packet c.self.invariant.3)

pub invariant_of-self-2 : goal.invariant_of-self-2
invariant_of-self-2 g c =
    let i = c.self.inside in
    let inv = c.self.invariant in
    let size = ap (λ q. q.size) c.packet.view_is in
    let asks = ap (λ q. q.asks) c.packet.view_is in
    let fits : c.args.packet.size < 2 ^ 16 = subst (λ (k : ℕ). k < 2 ^ 16) size c.enter_flight.ensures.fits in
    let number = allocated i.filter i.space.numbers.next in
    let is : c.number-number.result ≡ number = c.number-number.ensures.value ∙ sym (ap (λ w. number_of w.end) c.self.view_is) in
    let above : i.space.numbers.next ≤ number = first_above i.filter i.space.numbers.next in
    let same : c.args.packet.generation ≡ i.path.generation = c.requires.generation ∙ sym (ap (λ w. w.end.path.generation) c.self.view_is) in
    let flies = sent_flies i.path.generation i.space.numbers.next number i.space.tracking i.path.in_flight c.args.packet inv.3 above same fits in
    rw (c.leave_forgotten.ensures, c.enter_flight.ensures.path, c.in_ok-forgotten.ensures.forgotten, c.allocate-number.ensures.numbers, c.in_ok-forgotten.ensures.ok, is, size, asks)
    (rw (sent_packets i.space.tracking number c.args.packet) (inv.0, inv.1, inv.2, flies, inv.4, inv.5, inv.6))

pub returns-clause-random : goal.returns-clause-random
returns-clause-random g c =
    let a = c.allocate-number.ensures in
    let i = c.self.inside in
    let stream = g.R.Rng.stream in
    rw (← c.self.view_is) (words_left i.filter c.allocate-number.new.self i.space.numbers.next _ (stream i.random) (stream c.allocate-number.new.rng) a.filter a.drawn a.kept
    ∙ ap (λ (k : ℕ). after_words k (stream i.random)) (sym (less_same c.allocate-number.new.self.drawn i.filter.drawn (words_of_id * (i.ids.own.issued - 1 - length i.ids.undrawn)) i.challenges)))
