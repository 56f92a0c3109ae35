use Rattle.std.proofs.Common.{take, ap, sym, subst, ◌∙◌, arith}
use Rattle.std.specs.Prelude.{vec_len}
use Rattle.std.proofs.lemmas.Bool.{and_parts}
use Rattle.std.proofs.lemmas.List.{take_at}
use Rattle.quic_recovery_core.specs.PendingAcks.{is_filled}
use Rattle.quic_spaces.specs.Acknowledging.{delay_at}
use Rattle.quic_spaces.specs.Marks.{told_counts}
use Rattle.quic_spaces.proofs.AckSize.{few_runs}
use Rattle.quic_wire.specs.Value.{ack, ping}
use Rattle.quic_wire.specs.Writing.{spelling}
use Rattle.quic_machine.specs.DraftLaws.{MayGo}
use Rattle.quic_machine.specs.Poll.{ack_of}
use Rattle.quic_connection_parts.specs.Leaving.{leaving_of}
use Rattle.quic_connection_core.proofs.connection.Connection.put_leave.Goals as goal

pub put_ack-largest-requires-clause-some : goal.put_ack-largest-requires-clause-some
put_ack-largest-requires-clause-some g c =
    let a = c.args.self.now.end.acknowledging in
    (and_parts a.due (is_filled a.runs) (subst (λ l. MayGo (leaving_of l) c.args.self.now.end) c.in-Alone.is c.requires.due)).1

pub put_ack-largest-requires-clause-room : goal.put_ack-largest-requires-clause-room
put_ack-largest-requires-clause-room g c few =
    let e = c.args.self.now.end in
    let most = few_runs (delay_at e.acknowledging e.closing.clock) (told_counts e.marks.came) e.acknowledging.runs few in
    let some = c.requires.some in
    let room = c.requires.room in
    omega (arith, most, some, room)

pub returns-in-Alone-clause-front : goal.returns-in-Alone-clause-front
returns-in-Alone-clause-front g c =
    ap (λ z. take (vec_len c.args.out.now) z) c.put_ack-largest.ensures.items
    ∙ take_at c.args.out.now.items (spelling (ack (ack_of c.args.self.now.end))) (vec_len c.args.out.now) (sym c.args.out.now.ok.0)

pub put_ping-requires : goal.put_ping-requires
put_ping-requires g c =
    let some = c.requires.some in
    let room = c.requires.room in
    omega (arith, some, room)

pub returns-in-Probe-clause-front : goal.returns-in-Probe-clause-front
returns-in-Probe-clause-front g c =
    ap (λ z. take (vec_len c.args.out.now) z) c.put_ping.ensures.items
    ∙ take_at c.args.out.now.items (spelling ping) (vec_len c.args.out.now) (sym c.args.out.now.ok.0)
