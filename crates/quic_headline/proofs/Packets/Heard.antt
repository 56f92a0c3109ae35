-- What a packet leaves that was taken: its number is noted, and the times without a packet begin
-- anew.
use Rattle.std.proofs.Common.{◌≡◌, refl}
use Rattle.std.specs.Prelude.{ℕ, Bool, true, Option}
use Rattle.quic_wire_core.specs.declared.shared.EcnCodepoint.{EcnCodepoint}
use Rattle.quic_machine.specs.End.{End, with_loss_timer}
use Rattle.quic_machine.specs.Idle.{packet_heard}
use Rattle.quic_machine.specs.Receive.{number_noted, after_taken}

-- the end with these two timers, where the idle timeout begins anew with the next packet that asks
abbrev pub with_times : End → Option ℕ → Option ℕ → End
with_times e idle alive = record e { timers = record e.timers { idle = idle; keep_alive = alive }; idle_armed = true }

-- whichever moments both times are set to
pub by_heard : (P : End → Type 0) (e : End) → ((idle alive : Option ℕ) → P (with_times e idle alive)) → P (packet_heard e)
by_heard P e all = all (packet_heard e).timers.idle (packet_heard e).timers.keep_alive

-- so it is of a packet that was taken
pub by_taken : (P : End → Type 0) (n : ℕ) (asking urged : Bool) (mark : Option EcnCodepoint) (e : End)
    → ((idle alive : Option ℕ) → P (with_loss_timer (with_times (number_noted n asking urged mark e) idle alive))) → P (after_taken n asking urged mark e)
by_taken P n asking urged mark e all = by_heard (λ (x : End). P (with_loss_timer x)) (number_noted n asking urged mark e) all

-- so it is that end, with what its two timers are set to
pub taken_is : (n : ℕ) (asking urged : Bool) (mark : Option EcnCodepoint) (e : End)
    → (let x = after_taken n asking urged mark e in x ≡ with_loss_timer (with_times (number_noted n asking urged mark e) x.timers.idle x.timers.keep_alive))
taken_is n asking urged mark e = by_taken (λ (x : End). x ≡ with_loss_timer (with_times (number_noted n asking urged mark e) x.timers.idle x.timers.keep_alive)) n asking urged mark e (λ idle alive. refl)
