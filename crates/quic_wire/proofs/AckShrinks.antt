-- What is left behind an ACK frame is no longer than what was there.
use Rattle.std.proofs.Common.{ℕ, zero, suc, ◌+◌, ◌-◌, ◌≤◌, Bool, true, false, ltb, List, length, Ok}
use Rattle.quic_wire.specs.declared.frame.FrameError.TheVariants.{Malformed}
use Rattle.quic_wire.specs.Fields.{var_at}
use Rattle.quic_wire.specs.AckReading.{range_at, ranges_at, ecn_at, some_ecn_at, ack_at}
use Rattle.quic_wire.proofs.FieldShrinks.{Leaves, bind, guard, var}

range : (n low : ℕ) (bytes : List ℕ) → length bytes ≤ n → Leaves n (range_at low bytes)
unfolding range_at
range n low bytes le =
    bind n (var_at bytes) _ (var n bytes le) (λ gap h. guard n _ _ _ (bind n (var_at gap.1) _ (var n gap.1 h)
    (λ len k. guard n (ltb (low - (gap.0 + 2)) len.0) Malformed (Ok ((low - (gap.0 + 2) - len.0, low - (gap.0 + 2)), len.1)) (record { most = k }))))

ranges : (count n low : ℕ) (bytes : List ℕ) → length bytes ≤ n → Leaves n (ranges_at count low bytes)
unfolding ranges_at
ranges zero n low bytes le = record { most = le }
ranges (suc count) n low bytes le = bind n (range_at low bytes) _ (range n low bytes le) (λ x h. bind n (ranges_at count x.0.0 x.1) _ (ranges count n x.0.0 x.1 h) (λ y k. record { most = k }))

ecn : (n : ℕ) (bytes : List ℕ) → length bytes ≤ n → Leaves n (ecn_at bytes)
unfolding ecn_at
ecn n bytes le = bind n (var_at bytes) _ (var n bytes le) (λ a h. bind n (var_at a.1) _ (var n a.1 h) (λ b k. bind n (var_at b.1) _ (var n b.1 k) (λ c l. record { most = l })))

some_ecn : (b : Bool) (n : ℕ) (bytes : List ℕ) → length bytes ≤ n → Leaves n (some_ecn_at b bytes)
unfolding some_ecn_at
some_ecn false n bytes le = record { most = le }
some_ecn true n bytes le = bind n (ecn_at bytes) _ (ecn n bytes le) (λ x h. record { most = h })

pub ack_leaves : (b : Bool) (n : ℕ) (bytes : List ℕ) → length bytes ≤ n → Leaves n (ack_at b bytes)
unfolding ack_at
ack_leaves b n bytes le =
    bind n (var_at bytes) _ (var n bytes le) (λ largest h. bind n (var_at largest.1) _ (var n largest.1 h) (λ delay i. bind n (var_at delay.1) _ (var n delay.1 i) (λ count j. bind n (var_at count.1) _ (var n count.1 j)
    (λ first k. guard n _ _ _ (bind n (ranges_at count.0 (largest.0 - first.0) first.1) _ (ranges count.0 n (largest.0 - first.0) first.1 k) (λ rs l. bind n (some_ecn_at b rs.1) _ (some_ecn b n rs.1 l) (λ e m. record { most = m })))))))
