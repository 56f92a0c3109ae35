-- What is asked of how often to acknowledge.
use Rattle.std.proofs.Common.{◌≡◌, ℕ, Bool, true, false, Option, Some, None, refl}
use Rattle.std.specs.Prelude.{◌==◌, cond}
use Rattle.quic_recovery_core.specs.AckFrequency.{Frequency, after_acked}
use Rattle.quic_recovery_core.specs.declared.ack_frequency.Request.{Request}

-- a packet that is acknowledged leaves the number of the next request
pub numbered_still : (o : Option Request) (n : ℕ) (f : Frequency) → (after_acked o n f).next ≡ f.next
numbered_still None n f = refl
numbered_still (Some r) n f = go (r.packet == n)
  where
    go : (b : Bool) → (cond b (record f { in_flight = None; peer_delay = r.delay }) f).next ≡ f.next
    go true = refl
    go false = refl
