-- No mark is no mark, however its counts are shown to be small.
use Rattle.std.proofs.Common.{◌≡◌, ℕ, ◌<◌, ◌^◌, false, lit<, ap, ◌∙◌}
use Rattle.std.proofs.Math.Bridge.{le_prop}
use Rattle.quic_wire.specs.declared.frame.ack.EcnCounts.{EcnCounts}
use Rattle.quic_recovery_core.specs.PendingAcks.{Pending, none_pending}
use Rattle.quic_spaces.specs.Numbers.{Numbers, no_numbers}
use Rattle.quic_spaces.specs.Tracking.{Tracking, nothing_tracked}
use Rattle.quic_spaces.specs.declared.space.PacketSpace.{PacketSpace}
use Rattle.quic_spaces.specs.Space.{new_space}

abbrev Small : Type 0
Small = (0 < 2 ^ 62) × (0 < 2 ^ 62) × (0 < 2 ^ 62)

small_same : IsProp Small
small_same x y = λ k. (le_prop x.0 y.0 k, le_prop x.1 y.1 k, le_prop x.2 y.2 k)

-- no packet with a mark
abbrev zero_by : Small → EcnCounts
zero_by s = record { ect0 = 0; ect1 = 0; ce = 0; small = s }

abbrev with_counts : ℕ → EcnCounts → EcnCounts → PacketSpace
with_counts now e f = record { numbers = no_numbers; acknowledging = none_pending; tracking = nothing_tracked now; ping_pending = false; immediate_ack_pending = false; ecn_counters = e; ecn_feedback = f }

pub new_same : (now : ℕ) (n : Numbers) (a : Pending) (t : Tracking) (s u : Small) → n ≡ no_numbers → a ≡ none_pending → t ≡ nothing_tracked now
    → record { numbers = n; acknowledging = a; tracking = t; ping_pending = false; immediate_ack_pending = false; ecn_counters = record { ect0 = 0; ect1 = 0; ce = 0; small = s }; ecn_feedback = record { ect0 = 0; ect1 = 0; ce = 0; small = u } } ≡ new_space now
new_same now n a t s u numbers acks tracking =
    let none : Small = (lit< tt, lit< tt, lit< tt) in
    rw (numbers, acks, tracking) (ap (λ (v : Small). with_counts now (zero_by v) (zero_by u)) (small_same s none) ∙ ap (λ (v : Small). with_counts now (zero_by none) (zero_by v)) (small_same u none))
