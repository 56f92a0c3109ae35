-- How long three probe timeouts last.
use Rattle.std.proofs.Common.{◌≡◌, ℕ, ◌+◌, ◌*◌, min, sym, ap, ◌∙◌, arith}
use Rattle.quic_time.specs.Rtt.{Rtt}
use Rattle.quic_time.specs.Rtt as rtt
use Rattle.quic_recovery_core.specs.AckFrequency.{longest_delay}
use Rattle.quic_machine.specs.End.{End, three_timeouts}
use Rattle.quic_headline.specs.Observer.{Terms, Flight, latest, longest}
use Rattle.quic_headline.specs.Expiring.{three_waits}
use Rattle.quic_headline.proofs.Packets.Flying.{held, Tells, reckoned, longest_same}

-- no probe timeout is longer than the longest time
once : (n : ℕ) → min (min n latest * 1) latest ≡ min n latest
once n = omega arith

-- three probe timeouts of an end are those that its observer reckons
pub three_waited : (t : Terms) (now : ℕ) (f : Flight) (e : End) → Tells t now f (held e) → three_waits f ≡ three_timeouts e
three_waited t now f e w =
    ap (λ (r : Rtt). min (reckoned r (longest f) 0 * 3) latest) w.rtt
    ∙ ap (λ (d : ℕ). min (reckoned e.path.rtt d 0 * 3) latest) (sym (longest_same t now f e w))
    ∙ ap (λ (n : ℕ). min (n * 3) latest) (once (rtt.probe_timeout e.path.rtt + longest_delay e.frequency))
