-- A close goes with PADDING alone: its datagram has no frame of another kind.
use Rattle.std.proofs.Common.{◌≡◌, ℕ, zero, suc, Bool, false, ◌||◌, List, [], ◌∷◌, replicate, inl, inr, refl, ap, ◌∙◌}
use Rattle.std.specs.List.{list_any}
use Rattle.quic_wire.specs.Value.{FrameValue, padding, asks, connection_close, application_close}
use Rattle.quic_machine.specs.DraftLaws.{IsClose}
use Rattle.quic_headline.proofs.Packets.Owing.{AreCloses}

-- PADDING is of no such kind
pub none_padding : (test : FrameValue → Bool) → test padding ≡ false → (count : ℕ) → list_any test (replicate count padding) ≡ false
none_padding test none zero = refl
none_padding test none (suc count) = ap (λ (b : Bool). b || list_any test (replicate count padding)) none ∙ none_padding test none count

-- nor is a close
pub close_bare : (test : FrameValue → Bool) → test padding ≡ false → ((f : FrameValue) → IsClose f → test f ≡ false) → (f : FrameValue) → IsClose f → (count : ℕ) → list_any test (f ∷ replicate count padding) ≡ false
close_bare test none each f is count = ap (λ (b : Bool). b || list_any test (replicate count padding)) (each f is) ∙ none_padding test none count

-- so none of one datagram is
pub one_bare : (test : FrameValue → Bool) → test padding ≡ false → ((f : FrameValue) → IsClose f → test f ≡ false) → (f : FrameValue) → IsClose f → (count : ℕ) → (list_any test (f ∷ replicate count padding) || false) ≡ false
one_bare test none each f is count = ap (λ (b : Bool). b || false) (close_bare test none each f is count)

-- so none of frames is that are closes and PADDING
pub closes_none : (test : FrameValue → Bool) → test padding ≡ false → ((f : FrameValue) → IsClose f → test f ≡ false) → (fs : List FrameValue) → AreCloses fs → list_any test fs ≡ false
closes_none test none each [] all = refl
closes_none test none each (f ∷ fs) all =
    ap (λ (b : Bool). b || list_any test fs) (elim (all f (inl refl)) [ inl close ↦ each f close | inr pads ↦ ap test pads ∙ none ])
    ∙ closes_none test none each fs (λ g i. all g (inr i))

-- a close doesn't ask for an acknowledgement (RFC 9000, section 13.2)
pub asks_not : (f : FrameValue) → IsClose f → asks f ≡ false
asks_not (connection_close c) is = refl
asks_not (application_close c) is = refl
asks_not f is = absurd is
