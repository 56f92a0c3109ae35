use Rattle.std.proofs.Common.{◌≤◌, sym, subst, arith}
use Rattle.quic_streams_state.specs.Parts.{Sending, room}
use Rattle.quic_streams_state.proofs.sending.Sending.write_all.Goals as goal

pub write_all-requires-clause-window : goal.write_all-requires-clause-window
write_all-requires-clause-window c =
    let P : Sending → Type 0 = λ s. c.args.len ≤ room s in
    let room = subst P (sym c.self.view_is) c.requires.room in
    let held = c.buffered.ensures in
    omega arith

pub overflow_add-self : goal.overflow_add-self
overflow_add-self c =
    let P : Sending → Type 0 = λ s. c.args.len ≤ room s in
    let room = subst P (sym c.self.view_is) c.requires.room in
    let limit = c.into_inner.ensures in
    omega arith
