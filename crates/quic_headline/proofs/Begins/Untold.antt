-- No NEW_CONNECTION_ID that went has a number from that of the next id on.
use Rattle.std.proofs.Common.{◌≡◌, ℕ, ◌<◌, ◌≤◌, Bool, true, false, List, [], ◌∷◌, refl, inl, inr, arith}
use Rattle.std.specs.List.{list_any}
use Rattle.std.proofs.lemmas.Bool.{or_cases, eqb-true}
use Rattle.quic_wire.specs.Value.{FrameValue, NewConnectionIdValue, new_connection_id}
use Rattle.quic_headline.specs.Runs.{In}
use Rattle.quic_headline.specs.Observer.{Sent}
use Rattle.quic_headline.specs.Waited.{stands}
use Rattle.quic_headline.specs.Begins.{NewId, says}

-- so it is of frames
untold_in : (number issued : ℕ) (fs : List FrameValue) → ((f : NewConnectionIdValue) → In (new_connection_id f) fs → f.sequence < issued) → issued ≤ number → list_any (says (NewId number)) fs ≡ true → ⊥
untold_in number issued [] all above is = cc
untold_in number issued (f ∷ fs) all above is = elim (or_cases (says (NewId number) f) (list_any (says (NewId number)) fs) is) [
  | inl here ↦ one f (λ g same. all g (inl same)) here
  | inr more ↦ untold_in number issued fs (λ g i. all g (inr i)) above more
]
  where
    one : (h : FrameValue) → ((g : NewConnectionIdValue) → new_connection_id g ≡ h → g.sequence < issued) → says (NewId number) h ≡ true → ⊥
    one (new_connection_id g) less here = let below = less g refl in let same = eqb-true g.sequence number here in omega arith
    one h less here = cc

-- and of datagrams
untold_by : (number issued : ℕ) (ss : List Sent) → ((s : Sent) (f : NewConnectionIdValue) → In s ss → In (new_connection_id f) s.frames → f.sequence < issued) → issued ≤ number → stands (says (NewId number)) ss ≡ true → ⊥
untold_by number issued [] all above is = cc
untold_by number issued (s ∷ ss) all above is = elim (or_cases (list_any (says (NewId number)) s.frames) (stands (says (NewId number)) ss) is) [
  | inl here ↦ untold_in number issued s.frames (λ f i. all s f (inl refl) i) above here
  | inr more ↦ untold_by number issued ss (λ t f i j. all t f (inr i) j) above more
]

pub untold : (number issued : ℕ) (ss : List Sent) → ((s : Sent) (f : NewConnectionIdValue) → In s ss → In (new_connection_id f) s.frames → f.sequence < issued) → issued ≤ number → stands (says (NewId number)) ss ≡ false
untold number issued ss all above = go (stands (says (NewId number)) ss) refl
  where
    go : (b : Bool) → stands (says (NewId number)) ss ≡ b → stands (says (NewId number)) ss ≡ false
    go true is = absurd (untold_by number issued ss all above is)
    go false is = is
