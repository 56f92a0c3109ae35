use Rattle.std.proofs.Common.{◌≡◌, ◌+◌, false, length, sym, subst}
use Rattle.quic_streams_parts.specs.RecvHalf.{RecvHalf, breaks_final}
use Rattle.quic_streams_parts.proofs.Within.{insert_within}
use Rattle.quic_streams_parts.proofs.recv.Recv.insert.Goals as goal

pub invariant_of-self-2 : goal.invariant_of-self-2
invariant_of-self-2 c =
    let f = c.args.frame.now in
    let P : RecvHalf → Type 0 = λ h. breaks_final h.final h.seen (f.offset + length f.data.now) f.fin ≡ false in
    let allowed = subst P (sym c.self.view_is) c.requires.size in
    let kept = insert_within c.self.inside.assembler c.insert.new.self c.self.inside.end c.self.inside.sent_max_stream_data f.offset f.data.now c.self.inside.final_offset f.fin c.self.invariant c.requires.end allowed c.in_ok-insert.ensures.ok in
    rw (c.max-self-inside.ensures, c.final_after-self-inside.ensures) kept
