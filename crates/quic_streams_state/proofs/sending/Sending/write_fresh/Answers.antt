use Rattle.std.proofs.Common.{◌≤◌, ℕ, List, length, ap, sym, subst, arith}
use Rattle.quic_send_buffer.specs.Source.{cut_to}
use Rattle.quic_send_buffer.specs.WritesLaws.{cut_bytes, writes_add}
use Rattle.quic_streams_parts.specs.SendHalf.{SendHalf}
use Rattle.quic_streams_state.specs.Parts.{Sending, room}
use Rattle.quic_streams_state.proofs.sending.Sending.write_fresh.Goals as goal

pub add-requires-clause-room : goal.add-requires-clause-room
add-requires-clause-room c =
    let P : Sending → Type 0 = λ s. c.args.len ≤ room s in
    let room = subst P (sym c.self.view_is) c.requires.room in
    let held = c.buffered.ensures in
    let none = ap (λ (bs : List ℕ). length bs) c.requires.empty in
    let first = ap (λ (h : SendHalf). length h.buffer.kept) c.in_ok-write_all.ensures.ok in
    let last = ap (λ (h : SendHalf). length h.buffer.kept) c.set_place.ensures in
    let grows = (writes_add c.args.half.buffer (cut_to c.args.len c.args.chunks.now)).kept in
    let cut = cut_bytes c.args.len c.args.chunks.now in
    omega arith
