-- Requests of the peer, and what they leave.
use Rattle.std.proofs.Common.{◌≡◌, ◌≤◌, Bool, true, false, cond, ltb, Some, refl, ap, arith}
use Rattle.std.proofs.lemmas.Bool.{le-leb, ltb-false}
use Rattle.quic_wire.specs.declared.frame.AckFrequency.{AckFrequency}
use Rattle.quic_time.specs.Clocks.{granularity}
use Rattle.quic_recovery_core.specs.AckFrequency.{Frequency, micros, is_stale, is_too_short, after_newer, after_received}

newer_old : (f : Frequency) (a : AckFrequency) → is_stale (after_newer f a).last a.sequence ≡ true
newer_old f a = go (is_too_short a)
  where
    go : (b : Bool) → is_stale (let g : Frequency = cond b (record f { last = Some a.sequence }) (record f { last = Some a.sequence; own_delay = micros a.request_max_ack_delay }) in g.last) a.sequence ≡ true
    go true = le-leb a.sequence a.sequence (omega arith)
    go false = le-leb a.sequence a.sequence (omega arith)

pub received_old : (f : Frequency) (a : AckFrequency) → is_stale (after_received f a).last a.sequence ≡ true
received_old f a = go (is_stale f.last a.sequence) refl
  where
    go : (b : Bool) → is_stale f.last a.sequence ≡ b → is_stale (let g : Frequency = cond b f (after_newer f a) in g.last) a.sequence ≡ true
    go true q = q
    go false q = newer_old f a

pub received_again : (f : Frequency) (a : AckFrequency) → after_received (after_received f a) a ≡ after_received f a
received_again f a = let g : Frequency = after_received f a in ap (λ (b : Bool). let h : Frequency = cond b g (after_newer g a) in h) (received_old f a)

pub received_kept : (f : Frequency) (a : AckFrequency) → granularity ≤ f.own_delay → granularity ≤ (after_received f a).own_delay
received_kept f a le = go (is_stale f.last a.sequence)
  where
    newer : (b : Bool) → ltb (micros a.request_max_ack_delay) granularity ≡ b → granularity ≤ (let g : Frequency = cond b (record f { last = Some a.sequence }) (record f { last = Some a.sequence; own_delay = micros a.request_max_ack_delay }) in g.own_delay)
    newer true q = le
    newer false q = ltb-false (micros a.request_max_ack_delay) granularity q

    go : (b : Bool) → granularity ≤ (let g : Frequency = cond b f (after_newer f a) in g.own_delay)
    go true = le
    go false = newer (is_too_short a) refl
