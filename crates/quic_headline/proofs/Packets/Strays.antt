-- Of a packet that came from elsewhere all frames are taken but those of path validation, in whose
-- place PADDING stands.
use Rattle.std.proofs.Common.{◌≡◌, ◌⊎◌, Bool, true, false, ◌||◌, List, [], ◌∷◌, Some, refl, sym, ap, ◌∙◌, subst, inl, inr}
use Rattle.std.specs.List.{list_any}
use Rattle.std.proofs.lemmas.Bool.{or_left, or_right, or_cases}
use Rattle.quic_wire.specs.Value.{FrameValue, AckValue, ack, padding, path_challenge, path_response}
use Rattle.quic_wire.specs.Close.{CloseValue}
use Rattle.quic_machine.specs.End.{End}
use Rattle.quic_machine.specs.Migration.{as_elsewhere}
use Rattle.quic_machine.specs.DraftLaws.{IsClose}
use Rattle.quic_machine.specs.Receive.{closed_by_peer}
use Rattle.quic_machine.specs.FrameCases.{passed}
use Rattle.quic_headline.specs.Runs.{In}
use Rattle.quic_headline.proofs.Packets.Owing.{IsAlone, AreCloses, closing_among}
use Rattle.quic_headline.proofs.Packets.Delivered.{frames_at, among_at}

-- a frame of path validation
abbrev pub IsPath : FrameValue → Type 0
IsPath (path_challenge token) = Unit {0}
IsPath (path_response token) = Unit {0}
IsPath f = ⊥

-- another counts for itself
stays_or_path : (f : FrameValue) → (as_elsewhere f ≡ f) ⊎ IsPath f
stays_or_path (path_challenge token) = inr tt
stays_or_path (path_response token) = inr tt
stays_or_path f = inl refl

-- so each frame of the packet is taken, or is one of path validation
pub in_at : (here : Bool) (fs : List FrameValue) (f : FrameValue) → In f fs → In f (frames_at here fs) ⊎ IsPath f
in_at true fs f i = inl i
in_at false [] f i = absurd i
in_at false (g ∷ fs) f (inl is) = elim (stays_or_path g) [ inl same ↦ inl (inl (is ∙ sym same)) | inr path ↦ inr (subst IsPath (sym is) path) ]
in_at false (g ∷ fs) f (inr i) = elim (in_at false fs f i) [ inl there ↦ inl (inr there) | inr path ↦ inr path ]

-- and each that is taken is one of the packet, or PADDING
pub of_at : (here : Bool) (fs : List FrameValue) (f : FrameValue) → In f (frames_at here fs) → In f fs ⊎ (f ≡ padding)
of_at here fs f i = among_at (λ (g : FrameValue). In g fs ⊎ (g ≡ padding)) (inr refl) here fs (λ g j. inl j) f i

-- what holds of the ACK frames of the packet holds of those that are taken
pub acks_at : (P : AckValue → Type 0) (here : Bool) (fs : List FrameValue) → ((a : AckValue) → In (ack a) fs → P a) → (a : AckValue) → In (ack a) (frames_at here fs) → P a
acks_at P here fs all a i = elim (of_at here fs (ack a) i) [ inl there ↦ all a there | inr pads ↦ absurd (no_padding pads) ]
  where
    no_padding : ack a ≡ padding → ⊥
    no_padding is = cc

-- a close stands alone in what is taken, where it does in the packet
pub alone_at : (here : Bool) (fs : List FrameValue) → IsAlone fs → IsAlone (frames_at here fs)
alone_at here fs alone f i closes = elim (of_at here fs f i) [
  | inl there ↦ among_at (λ (g : FrameValue). IsClose g ⊎ (g ≡ padding)) (inr refl) here fs (alone f there closes)
  | inr pads ↦ absurd (subst IsClose pads closes)
]

-- so a packet by which the peer closes has closes alone
pub closed_at : (here : Bool) (fs : List FrameValue) (e : End) (close : CloseValue) → IsAlone fs → (passed (frames_at here fs) e).fault ≡ Some (closed_by_peer close) → AreCloses fs
closed_at here fs e close alone is =
    let found = closing_among (frames_at here fs) e close is in
    elim (of_at here fs found.0 found.1) [ inl there ↦ alone found.0 there found.2 | inr pads ↦ absurd (subst IsClose pads found.2) ]

-- of a test that PADDING doesn't pass
module _ (test : FrameValue → Bool) (none : test padding ≡ false) where
  one_at : (f : FrameValue) → test (as_elsewhere f) ≡ true → test f ≡ true
  one_at (path_challenge token) is = (let clash : true ≡ false = sym is ∙ none in cc)
  one_at (path_response token) is = (let clash : true ≡ false = sym is ∙ none in cc)
  one_at f is = is

  -- where a frame passes that is taken, one of the packet does
  pub any_at : (here : Bool) (fs : List FrameValue) → list_any test (frames_at here fs) ≡ true → list_any test fs ≡ true
  any_at true fs is = is
  any_at false [] is = is
  any_at false (f ∷ fs) is = elim (or_cases (test (as_elsewhere f)) (list_any test (frames_at false fs)) is) [
    | inl here ↦ or_left (test f) (list_any test fs) (one_at f here)
    | inr more ↦ or_right (test f) (list_any test fs) (any_at false fs more)
  ]

  -- where no frame of path validation passes either, the same is found in both
  module _ (challenges : (token : _) → test (path_challenge token) ≡ false) (responses : (token : _) → test (path_response token) ≡ false) where
    same_one : (f : FrameValue) → test (as_elsewhere f) ≡ test f
    same_one (path_challenge token) = none ∙ sym (challenges token)
    same_one (path_response token) = none ∙ sym (responses token)
    same_one f = refl

    pub same_at : (here : Bool) (fs : List FrameValue) → list_any test (frames_at here fs) ≡ list_any test fs
    same_at true fs = refl
    same_at false [] = refl
    same_at false (f ∷ fs) = ap (λ (b : Bool). b || list_any test (frames_at false fs)) (same_one f) ∙ ap (λ (b : Bool). test f || b) (same_at false fs)
