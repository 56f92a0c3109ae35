use Rattle.std.proofs.Common.{refl}
use Rattle.quic_worked.proofs.ending.frame_at_fault_is_told.Goals as goal

pub returns : goal.returns
returns c = record {
  none = (refl, refl, refl);
  named = (refl, refl, refl);
  other = λ told. (let clash = told.2 in cc);
  made_up = λ told. (let clash = told.2 in cc);
  left_out = λ told. (let clash = told.2 in cc);
}
