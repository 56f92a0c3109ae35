use Rattle.std.proofs.Common.{◌≡◌, ◌≢◌, ◌≤◌, ℕ, Option, Some, None, Result, Ok, Err, length, length-take-le, take, sym, subst, ap, ◌∙◌, arith}
use Rattle.quic_streams_parts.specs.declared.answers.WriteError.{WriteError}
use Rattle.quic_streams_parts.specs.declared.answers.WriteError.TheVariants as write_errors
use Rattle.quic_streams_parts.specs.Table.{at}
use Rattle.quic_streams_parts.specs.SendHalf.{SendHalf, written_to}
use Rattle.quic_streams_state.specs.Parts.{Sending, room}
use Rattle.quic_streams_state.proofs.Requeued.{accepted_is}
use Rattle.quic_streams_state.proofs.sending.Sending.write.Goals as goal

taken_of : (o : Option SendHalf) (room len n : ℕ) → Ok n ≡ written_to o room len → o ≡ None → ⊥
taken_of o room len n e none = wrong (e ∙ ap (λ (x : Option SendHalf). written_to x room len) none)
  where
    wrong : Ok n ≡ Err write_errors.ClosedStream → ⊥
    wrong h = cc

no_error : (n : ℕ) (e : WriteError) → Ok n ≢ Err e
no_error n e h = cc

pub write-requires : goal.write-requires
write-requires c =
    let held = c.buffered.ensures in
    let P : Sending → Type 0 = λ s. c.room-room.result ≡ room s in
    let left = subst P (sym c.self.view_is) c.room-room.ensures in
    omega arith

pub overflow_add-self : goal.overflow_add-self
overflow_add-self c =
    let P : Sending → Type 0 = λ s. c.room-room.result ≡ room s in
    let left = subst P (sym c.self.view_is) c.room-room.ensures in
    let limit = c.into_inner.ensures in
    let within = c.in_ok-taken.ensures.within.1 in
    omega arith

pub returns-clause-ok : goal.returns-clause-ok
returns-clause-ok c =
    let s : Sending = record { halves = c.self.inside.send; accepted = c.self.inside.data_sent; limit = c.self.inside.max_data; window = c.self.inside.send_window; first_own = c.self.inside.initial_max_own; first_remote = c.self.inside.initial_max_remote; queue = c.self.inside.pending; blocked = c.self.inside.connection_blocked.items; said = c.self.inside.said_limit } in
    let n = c.in_ok-taken.taken in
    let most : n ≤ length c.args.bytes.now = c.in_ok-taken.ensures.within.0 in
    let len = length-take-le n c.args.bytes.now most in
    let told = c.in_ok-taken.ensures.answer (no_error n write_errors.Memory) in
    rw (← c.self.view_is) (accepted_is s c.args.id n (take n c.args.bytes.now) c.write.new.self c.write.new.queue (sym len) (taken_of (at s.halves.live c.args.id) _ _ n told) c.in_ok-taken.ensures.ok c.in_ok-taken.ensures.queue)
