use Rattle.std.proofs.Common.{◌≡◌, ℕ, suc, List, ◌∷◌, length, ap, ◌∙◌, arith}
use Rattle.quic_wire.specs.Items.{items, without_padding}
use Rattle.quic_wire.proofs.Unpadded.{zero_byte}
use Rattle.quic_wire.proofs.frame.unpadded.behind_zeros.Goals as goal

pub loop-behind-preserved : goal.loop-behind-preserved
loop-behind-preserved c =
    let behind = c.in-Some-eq0-default.behind.now in
    let parts : c.loop-behind.rest.now ≡ 0 ∷ behind = rw c.in-Some-eq0-default.field-0-0-test at c.in-Some-eq0-default.ensures.cases.0 in
    let long : length c.loop-behind.rest.now ≡ suc (length behind) = ap length parts in
    record {
      same = c.loop-behind.invariant.same ∙ ap (λ (b : List ℕ). without_padding (items b)) parts ∙ zero_byte behind;
      few = omega (arith, long, c.loop-behind.invariant.few);
    }
