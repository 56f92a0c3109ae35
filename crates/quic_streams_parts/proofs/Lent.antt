-- What a lender ends as, where two ways to say it agree.
use Rattle.std.proofs.Common.{◌≡◌, Option, Some, None, refl, ap}
use Rattle.std.specs.Borrow.{GName, MutBor}
use Rattle.std.specs.Option.{ghost_name_of}
use mathlib.Core.Logic.{inl, inr, ◌⊎◌}
use borrow.Follows.Closed.{read_of}

module _ {D E : Type 0} where
  -- they agree where a reference was lent, at each value that it may leave, and where none was
  pub same_end : (r : Option (MutBor E)) (F G : E → D) (u v : D) → ((x : MutBor E) → r ≡ Some x → (w : E) → F w ≡ G w) → (r ≡ None → u ≡ v) → read_of (ghost_name_of r) F u ≡ read_of (ghost_name_of r) G v
  same_end None F G u v some none = ap inr (none refl)
  same_end (Some x) F G u v some none = λ t. inl (x.ghost_name, λ w. some x refl w t)

  -- they agree where one was lent
  pub same_lent : (γ : GName) (F G : E → D) → ((w : E) → F w ≡ G w) → ◌≡◌ {A = (GName × (E → D)) ⊎ D} (inl (γ, F)) (inl (γ, G))
  same_lent γ F G same = λ t. inl (γ, λ w. same w t)
