-- The items of a payload that aren't PADDING, where PADDING counts for nothing.
use Rattle.std.proofs.Common.{◌≡◌, Bool, true, false, not, cond, ◌||◌, List, [], ◌∷◌, Result, Ok, refl, sym, ap, ◌∙◌}
use Rattle.std.specs.List.{list_any}
use Rattle.quic_wire.specs.Value.{FrameValue, padding}
use Rattle.quic_wire.specs.Items.{pads, without_padding}
use Rattle.quic_wire.specs.declared.frame.InvalidFrame.{InvalidFrame}
use Rattle.quic_machine.specs.Migration.{is_telling}

abbrev Item : Type 0
Item = Result FrameValue InvalidFrame

pub pads_is : (i : Item) → pads i ≡ true → i ≡ Ok padding
pads_is (Ok padding) is = refl
pads_is i is = absurd cc

-- ---- whether a frame says that the peer has moved

telling_but : (i : Item) (is others : List Item) (b : Bool) → pads i ≡ b → list_any is_telling others ≡ list_any is_telling is → list_any is_telling (cond (not b) (i ∷ others) others) ≡ list_any is_telling (i ∷ is)
telling_but i is others true so same = same ∙ ap (λ (j : Item). list_any is_telling (j ∷ is)) (sym (pads_is i so))
telling_but i is others false so same = ap (λ (b : Bool). is_telling i || b) same

pub telling_unpadded : (is : List Item) → list_any is_telling (without_padding is) ≡ list_any is_telling is
unfolding without_padding
telling_unpadded [] = refl
telling_unpadded (i ∷ is) = telling_but i is (without_padding is) (pads i) refl (telling_unpadded is)

-- one says so, or those behind it do
pub telling_first : (i : Item) (is all : List Item) (whole : Bool) → all ≡ i ∷ is → is_telling i ≡ true → list_any is_telling all ≡ whole → true ≡ whole
telling_first i is all whole first tells before =
    ap (λ (b : Bool). b || list_any is_telling is) (sym tells) ∙ ap (list_any is_telling) (sym first) ∙ before

pub telling_step : (i : Item) (is all : List Item) (whole : Bool) → all ≡ i ∷ is → is_telling i ≡ false → list_any is_telling all ≡ whole → list_any is_telling is ≡ whole
telling_step i is all whole first tells before =
    ap (λ (b : Bool). b || list_any is_telling is) (sym tells) ∙ ap (list_any is_telling) (sym first) ∙ before
