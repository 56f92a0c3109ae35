use Rattle.std.proofs.Common.{ℕ, ◌+◌, ◌-◌, ◌∙◌, sym, arith}
use Rattle.std.specs.Prelude.{nat_le}
use Rattle.std.proofs.lemmas.Bool.{leb-true, and_parts}
use Rattle.quic_wire.specs.Value.{ack}
use Rattle.quic_wire.specs.Writing.{frame_size}
use Rattle.quic_recovery_core.specs.PendingAcks.{is_filled}
use Rattle.quic_machine.specs.End.{End}
use Rattle.quic_machine.specs.Poll.{ack_of, frame_room}
use Rattle.quic_connection_core.proofs.connection.Connection.put_late_ack.Goals as goal

pub put_ack-requires-clause-some : goal.put_ack-requires-clause-some
put_ack-requires-clause-some g c =
    let e : End = c.args.self.now.end in
    let used : ℕ = c.len.result - c.args.body in
    let size : ℕ = frame_size (ack (ack_of e)) in
    (and_parts (is_filled e.acknowledging.runs) (nat_le (used + size) (frame_room e)) (sym c.ack_fits.ensures ∙ c.if-ack_fits.true)).0

pub put_ack-requires-clause-room : goal.put_ack-requires-clause-room
put_ack-requires-clause-room g c few =
    let e : End = c.args.self.now.end in
    let used : ℕ = c.len.result - c.args.body in
    let size : ℕ = frame_size (ack (ack_of e)) in
    let fits = leb-true (used + size) (frame_room e) (and_parts (is_filled e.acknowledging.runs) (nat_le (used + size) (frame_room e)) (sym c.ack_fits.ensures ∙ c.if-ack_fits.true)).1 in
    let len = c.len.ensures in
    let body = c.requires.body in
    let room = c.requires.room in
    omega (arith, fits, len, body, room)

pub returns-then-ack_fits-clause-within : goal.returns-then-ack_fits-clause-within
returns-then-ack_fits-clause-within g c =
    let e : End = c.args.self.now.end in
    let used : ℕ = c.len.result - c.args.body in
    let size : ℕ = frame_size (ack (ack_of e)) in
    let fits = leb-true (used + size) (frame_room e) (and_parts (is_filled e.acknowledging.runs) (nat_le (used + size) (frame_room e)) (sym c.ack_fits.ensures ∙ c.if-ack_fits.true)).1 in
    let len = c.len.ensures in
    let body = c.requires.body in
    let put = c.put_ack.ensures.len in
    omega (arith, fits, len, body, put)
