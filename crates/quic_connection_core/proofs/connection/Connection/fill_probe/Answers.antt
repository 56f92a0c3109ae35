use Rattle.std.proofs.Common.{◌≤◌, sym, ap, subst, ◌∙◌}
use Rattle.quic_streams_parts.specs.Table.{Table}
use Rattle.quic_sent_packets.specs.Packets.{Ascends}
use Rattle.quic_machine.specs.Tracking.{TrackedPacket}
use Rattle.quic_spaces.specs.Numbers.{Numbers, expected}
use Rattle.quic_spaces.specs.Space.{Probed}
use Rattle.quic_machine.specs.End.{End, with_end}
use Rattle.quic_machine.specs.Poll.{probed}
use Rattle.quic_machine.specs.Lacking.{MovesRecord}
use Rattle.quic_connection_core.proofs.Probing.{with_space, as_is, probe_fills, probe_flies, probe_numbers, where_ok, where_lacking, either_way}
use Rattle.quic_connection_core.proofs.connection.Connection.fill_probe.Goals as goal

pub invariant_of-self : goal.invariant_of-self
invariant_of-self g c =
    let queued = c.maybe_queue_probe.ensures in
    let i = c.self.invariant in
    let x = c.self.inside in
    let up = subst (λ (es : Table TrackedPacket). Ascends es) c.packets.ensures c.get-packet.ensures.ascends in (
      i.0,
      i.1,
      i.2,
      either_way c.maybe_queue_probe.result _ _ _
          (λ is. (let space = ap (λ (q : Probed). q.space) is in rw space (probe_flies x.path.generation x.path.in_flight c.takes_immediate_ack-immediate.result x.space x.streams.pending x.streams.state up i.3)))
          (λ is. (rw is i.3))
          queued.ok queued.err,
      either_way c.maybe_queue_probe.result _ _ _
          (λ is. (let numbers = ap (λ (q : Probed). q.space.numbers) is ∙ probe_numbers c.takes_immediate_ack-immediate.result x.space x.streams.pending x.streams.state in subst (λ (n : Numbers). x.path.generation ≤ expected n) (sym numbers) i.4))
          (λ is. (rw is i.4))
          queued.ok queued.err,
      i.5,
      i.6,
    )

pub returns-clause-ok : goal.returns-clause-ok
returns-clause-ok g c =
    let now = c.args.self.now in
    let s = c.self.inside.space in
    let p = c.self.inside.streams.pending in
    let asked = c.takes_immediate_ack-immediate.ensures in
    let fills = probe_fills now.end s p c.self.inside.streams.state c.takes_immediate_ack-immediate.result (ap (λ w. w.end.streams) c.self.view_is) asked in
    let left : Probed = record { space = c.maybe_queue_probe.new.self; pending = c.maybe_queue_probe.new.pending } in
    let whole = sym (ap (λ w. with_space w.end (as_is s p)) c.self.view_is) ∙ ap (λ w. w.end) c.self.view_is in
    where_ok c.maybe_queue_probe.result _ _
    (λ is. ap (λ w. with_end w (with_space w.end left)) c.self.view_is ∙ ap (λ (q : Probed). with_end now (with_space now.end q)) is ∙ ap (λ (x : End). with_end now x) (fills ∙ ap probed whole))
    c.maybe_queue_probe.ensures.ok

pub returns-clause-lacking : goal.returns-clause-lacking
returns-clause-lacking g c =
    let queued = c.maybe_queue_probe.ensures in
    where_lacking c.maybe_queue_probe.result _ _ _ _
    (λ probes nothing moves. subst (λ w. MovesRecord w.end) c.self.view_is (probes, nothing, moves))
    queued.probes queued.nothing queued.moves
