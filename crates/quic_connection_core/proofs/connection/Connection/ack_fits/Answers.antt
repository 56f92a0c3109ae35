use Rattle.std.proofs.Common.{rules, ◌≡◌, ◌+◌, ◌-◌, ◌&&◌, true, ap, sym, ◌∙◌}
use Rattle.std.specs.Prelude.{nat_le}
use Rattle.quic_wire.specs.Value.{ack}
use Rattle.quic_wire.specs.Writing.{frame_size}
use Rattle.quic_recovery_core.specs.PendingAcks.{is_filled}
use Rattle.quic_machine.specs.Poll.{ack_of, frame_room}
use Rattle.quic_connection_core.proofs.Marks.{fits_left, fits_nowhere}
use Rattle.quic_connection_core.proofs.connection.Connection.ack_fits.Goals as goal

pub returns-then-is_filled : goal.returns-then-is_filled
returns-then-is_filled g c =
    let e = c.args.self.now.end in
    let used = c.args.used in
    let size = frame_size (ack (ack_of e)) in
    let filled : is_filled e.acknowledging.runs ≡ true = sym (ap (λ w. is_filled w.end.acknowledging.runs) c.self.view_is) ∙ sym c.is_filled.ensures ∙ c.if-is_filled.true in
    ap (λ n. nat_le n (c.frame_room.result - used)) c.ack_size.ensures
    ∙ ap (λ n. nat_le size (n - used)) c.frame_room.ensures.room
    ∙ fits_left size used (frame_room e) c.requires.used
    ∙ ap (λ b. b && nat_le (used + size) (frame_room e)) (sym filled)

pub returns-then-room-eq0 : goal.returns-then-room-eq0
returns-then-room-eq0 g c =
    let e = c.args.self.now.end in
    let full : c.frame_room.result - c.args.used ≡ 0 = search rules in
    sym (fits_nowhere (is_filled e.acknowledging.runs) e c.args.used (frame_room e) (ap (λ n. n - c.args.used) (sym c.frame_room.ensures.room) ∙ full))
