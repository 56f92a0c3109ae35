use Rattle.std.proofs.Common.{◌≡◌, ◌≤◌, ◌<◌, ℕ, ◌*◌, ◌^◌, ◌%◌, min, ap, ◌∙◌, arith, rules}
use Rattle.std.proofs.lemmas.Nat.{pow_below}
use Rattle.quic_time.specs.Clocks.{saturated}
use Rattle.quic_parameters.specs.declared.transport_parameters.id.TransportParameterId.TheVariants.{AckDelayExponent}
use Rattle.quic_connection_core.proofs.connection.Connection.told_delay.Goals as goal

pub overflow_shl-exponent : goal.overflow_shl-exponent
overflow_shl-exponent g c = omega (arith, (c.self.invariant.1.each AckDelayExponent).1, ap (λ i. i.peer_params.ack_delay_exponent) c.self-inside.view_is)

-- a number that is too great stays so
clipped : (x : ℕ) → saturated (min x 18446744073709551615 * 1000) ≡ saturated (x * 1000)
clipped x = omega arith

shifted : (delay exponent : ℕ) → exponent ≤ 20 → saturated (min (delay * (1 * 2 ^ exponent % 18446744073709551616)) 18446744073709551615 * 1000) ≡ saturated (delay * 2 ^ exponent * 1000)
shifted delay exponent few =
    let small : 2 ^ exponent < 2 ^ 64 = pow_below exponent 64 (omega arith) in
    let same : 1 * 2 ^ exponent % 18446744073709551616 ≡ 2 ^ exponent = omega arith in
    ap (λ (p : ℕ). saturated (min (delay * p) 18446744073709551615 * 1000)) same ∙ clipped (delay * 2 ^ exponent)

pub returns : goal.returns
returns g c =
    let seen = ap (λ i. i.peer_params.ack_delay_exponent) c.self-inside.view_is in
    let few : c.into_inner-exponent.result ≤ 20 = omega (arith, (c.self.invariant.1.each AckDelayExponent).1, seen) in
    let exponent = c.into_inner-exponent.ensures.value ∙ seen ∙ ap (λ w. w.end.peer_params.ack_delay_exponent) c.self.view_is in
    let least : c.min.result ≡ min c.from_micros.result c.peer_delay.result = search rules in
    least
    ∙ ap (λ (d : ℕ). min d c.peer_delay.result) (c.from_micros.ensures ∙ ap (λ (m : ℕ). saturated (m * 1000)) c.saturating_mul-micros.ensures ∙ shifted c.delay.result c.into_inner-exponent.result few)
    ∙ ap (λ (d : ℕ). min (saturated (d * 2 ^ c.into_inner-exponent.result * 1000)) c.peer_delay.result) c.delay.ensures
    ∙ ap (λ (x : ℕ). min (saturated (c.args.frame.now.delay * 2 ^ x * 1000)) c.peer_delay.result) exponent
    ∙ ap (λ (d : ℕ). min (saturated (c.args.frame.now.delay * 2 ^ c.args.self.now.end.peer_params.ack_delay_exponent * 1000)) d) c.peer_delay.ensures
