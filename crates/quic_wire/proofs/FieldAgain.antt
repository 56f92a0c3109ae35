-- What is a form of a number is read as that number.
use Rattle.std.proofs.Common.{◌≡◌, ℕ, List, [], ◌∷◌, ◌++◌, Ok, refl, ap, ◌∙◌, append_assoc}
use Rattle.quic_wire_core.specs.Law.{spells_again}
use Rattle.quic_wire.specs.Fields.{field, var_at}
use Rattle.quic_wire.specs.Grammar.{Numbers}

-- the first number is read, and the others are left
pub record Next (n : ℕ) (ns bytes : List ℕ) : Type 0 where
  pub after : List ℕ
  pub others : Numbers ns after
  pub reads : (rest : List ℕ) → var_at (bytes ++ rest) ≡ Ok (n, after ++ rest)

pub next : (n : ℕ) (ns bytes : List ℕ) → Numbers (n ∷ ns) bytes → Next n ns bytes
next n ns bytes h = record {
  after = h.1;
  others = h.3;
  reads = λ rest. ap (λ (b : List ℕ). var_at (b ++ rest)) h.4 ∙ ap var_at (append_assoc h.0 h.1 rest) ∙ ap field (spells_again n h.0 (h.1 ++ rest) h.2);
}

pub none_left : (bytes rest : List ℕ) → Numbers [] bytes → bytes ++ rest ≡ rest
none_left bytes rest h = rw h refl

pub number_again : (n : ℕ) (bytes rest : List ℕ) → Numbers (n ∷ []) bytes → var_at (bytes ++ rest) ≡ Ok (n, rest)
number_again n bytes rest h = let a = next n [] bytes h in a.reads rest ∙ rw (none_left a.after rest a.others) refl
