-- How long a peer may hold an acknowledgement back.
use Rattle.std.proofs.Common.{◌≡◌, ℕ, ◌≤◌, sym, subst}
use Rattle.quic_parameters.specs.declared.transport_parameters.id.TransportParameterId.TheVariants.{MaxAckDelay}
use Rattle.quic_parameters.specs.Parameters.{ParameterValues, AreInRange}

-- it tells fewer than 2 ^ 14 milliseconds (RFC 9000, section 18.2)
pub delay_small : (p : ParameterValues) (n : ℕ) → AreInRange p → n ≡ p.max_ack_delay → n ≤ 16383
delay_small p n range is = subst (λ (k : ℕ). k ≤ 16383) (sym is) (range.each MaxAckDelay).1
