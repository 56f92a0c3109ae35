-- What window and pacer hold back.
use Rattle.std.proofs.Common.{◌≡◌, ℕ, ◌<◌, ◌≤◌, Bool, true, false, not, nat_lt, refl, sym, ap, ◌∙◌, arith}
use Rattle.std.specs.Prelude.{◌==◌}
use Rattle.std.proofs.lemmas.Bool.{ltb-true, ltb-false, eqb-true, eq-eqb}
use Rattle.quic_machine.specs.End.{End}
use Rattle.quic_machine.specs.Control.{is_window_full, by_window, gated_if}
use Rattle.quic_machine.specs.Poll.{is_gated, gated}

pub none_waits : (n : ℕ) → not (nat_lt 0 n) ≡ (n == 0)
none_waits n = go (nat_lt 0 n) refl (n == 0) refl
  where
    go : (a : Bool) → nat_lt 0 n ≡ a → (b : Bool) → (n == 0) ≡ b → not a ≡ b
    go true some true none = absurd (let l : 0 < n = ltb-true 0 n some in let e : n ≡ 0 = eqb-true n 0 none in omega (arith, l, e))
    go true some false none = refl
    go false some true none = refl
    go false some false none = absurd (let l : n ≤ 0 = ltb-false 0 n some in let z : n ≡ 0 = omega (arith, l) in let e : (n == 0) ≡ true = eq-eqb n 0 z in let both : true ≡ false = sym e ∙ none in cc)

pub gated_paced : (e : End) → is_gated e ≡ true → is_window_full e ≡ false → gated e ≡ by_window false e
gated_paced e asks room = ap (λ (b : Bool). gated_if b e) asks ∙ ap (λ (b : Bool). by_window b e) room
