-- When two errors of the transport are equal.
use Rattle.std.proofs.Common.{◌≡◌, ◌↔◌, ℕ, Option, Some, None, Bool, true, false, refl, ◌&&◌}
use Rattle.std.specs.Cmp.{IsEquivalence}
use Rattle.std.specs.Cmp.Lexicographic.{options_equiv}
use Rattle.std.specs.Option.{option_eq}
use Rattle.std.specs.Prelude.{nat_eq}
use Rattle.std.proofs.lemmas.Bool.{eqb-true}
use Rattle.std.proofs.lemmas.Cmp.{and_equiv, on_equiv, nat_eq_equiv}
use Rattle.quic_wire_core.specs.TransportError.{ErrorValue, same_error}

-- the test is an equivalence
pub same_error_equiv : IsEquivalence same_error
same_error_equiv = and_equiv (on_equiv (λ e. e.code) nat_eq_equiv) (on_equiv (λ e. e.frame) (options_equiv nat_eq_equiv))

-- both tests hold
both_true : (a b : Bool) → (a && b) ≡ true → (a ≡ true) × (b ≡ true)
both_true true b e = (refl, e)
both_true false b e = absurd cc

-- the numbers of two options are equal
same_option : (a b : Option ℕ) → option_eq nat_eq a b ≡ true → a ≡ b
same_option None None e = refl
same_option None (Some y) e = absurd cc
same_option (Some x) None e = absurd cc
same_option (Some x) (Some y) e = rw (eqb-true x y e) refl

-- Two errors are the same exactly where the test says so.
pub same_error_is : (a b : ErrorValue) → (same_error a b ≡ true) ↔ (a ≡ b)
same_error_is a b = (λ e. let p = both_true _ _ e in record_same a b (eqb-true a.code b.code p.0) (same_option a.frame b.frame p.1), λ e. rw e (same_error_equiv.refl b))
  where
    record_same : (a b : ErrorValue) → a.code ≡ b.code → a.frame ≡ b.frame → a ≡ b
    record_same a b code frame = let make : ℕ → Option ℕ → ErrorValue = λ c f. record { code = c; frame = f } in rw (code, frame) refl
