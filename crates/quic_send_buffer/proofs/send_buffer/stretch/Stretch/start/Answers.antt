use Rattle.std.proofs.Common.{◌≡◌, ℕ, List, ◌+◌, ap, subst, arith, length}
use Rattle.quic_sets.specs.Parts.{Part, bytes_of}
use Rattle.quic_send_buffer.specs.KeptBytes.{start_of}
use Rattle.quic_send_buffer.proofs.Kept.Runs.{store_start}
use Rattle.quic_send_buffer.proofs.send_buffer.stretch.Stretch.start.Goals as goal

pub overflow_sub-result : goal.overflow_sub-result
overflow_sub-result c =
    let v = c.self.inside in
    let all = subst (λ (ps : List Part). start_of ps + length (bytes_of ps) ≡ v.end) c.self.view_is (store_start v.end v.store c.self.invariant) in
    let len = ap (λ (xs : List ℕ). length xs) c.bytes.ensures in
    omega (arith, all, len)

pub returns : goal.returns
returns c =
    let v = c.self.inside in
    let all = subst (λ (ps : List Part). start_of ps + length (bytes_of ps) ≡ v.end) c.self.view_is (store_start v.end v.store c.self.invariant) in
    let len = ap (λ (xs : List ℕ). length xs) c.bytes.ensures in
    omega (arith, all, len)
