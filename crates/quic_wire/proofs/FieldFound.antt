-- What is read as a number is a form of that number.
use Rattle.std.proofs.Common.{◌≡◌, ℕ, ◌+◌, Bool, true, false, List, [], ◌∷◌, ◌++◌, length, drop, Option, Some, None, Result, Ok, Err, refl, sym, ap, ◌∙◌, append_assoc}
use Rattle.std.specs.Prelude.{if◌then◌else◌}
use Rattle.std.proofs.lemmas.List.{drop_at, get_or-drop, append-nil}
use Rattle.quic_wire_core.specs.Coding.{IsBytes}
use Rattle.quic_wire_core.specs.Varint.{varint_at}
use Rattle.quic_wire_core.specs.Law.{varint_found}
use Rattle.quic_wire.specs.declared.frame.FrameError.{FrameError}
use Rattle.quic_wire_core.specs.Taking.{◌>>=◌}
use Rattle.quic_wire.specs.Fields.{field, var_at}
use Rattle.quic_wire.specs.Grammar.{Numbers}

-- ---- what holds of what was read

abbrev pub HoldsOf : {A : Type 0} → (A × List ℕ → Type 0) → Result (A × List ℕ) FrameError → Type 0
HoldsOf P (Ok x) = P x
HoldsOf P (Err e) = Unit {0}

pub record Holds {A : Type 0} (P : A × List ℕ → Type 0) (r : Result (A × List ℕ) FrameError) : Type 0 where
  pub is : HoldsOf P r

pub bind : {A B : Type 0} (P : B × List ℕ → Type 0) (r : Result (A × List ℕ) FrameError) (f : A × List ℕ → Result (B × List ℕ) FrameError) → ((x : A × List ℕ) → r ≡ Ok x → Holds P (f x)) → Holds P (r >>= f)
bind P (Ok x) f g = g x refl
bind P (Err e) f g = record { is = tt }

-- the same where what holds of the first part is known
pub after : {A B : Type 0} (Q : A × List ℕ → Type 0) (P : B × List ℕ → Type 0) (r : Result (A × List ℕ) FrameError) (f : A × List ℕ → Result (B × List ℕ) FrameError) → Holds Q r → ((x : A × List ℕ) → Q x → Holds P (f x)) → Holds P (r >>= f)
after Q P (Ok x) f h g = g x h.is
after Q P (Err e) f h g = record { is = tt }

pub guard : {A : Type 0} (P : A × List ℕ → Type 0) (b : Bool) (e : FrameError) (r : Result (A × List ℕ) FrameError) → (b ≡ false → Holds P r) → Holds P (if b then Err e else r)
guard P true e r h = record { is = tt }
guard P false e r h = h refl

pub weaken : {A : Type 0} (P Q : A × List ℕ → Type 0) (r : Result (A × List ℕ) FrameError) → Holds P r → ((x : A × List ℕ) → P x → Q x) → Holds Q r
weaken P Q (Ok x) h g = record { is = g x h.is }
weaken P Q (Err e) h g = record { is = tt }

pub of_ok : {A : Type 0} (P : A × List ℕ → Type 0) (r : Result (A × List ℕ) FrameError) → ((x : A × List ℕ) → r ≡ Ok x → P x) → Holds P r
of_ok P (Ok x) g = record { is = g x refl }
of_ok P (Err e) g = record { is = tt }

-- ---- the numbers so far

pub record Sofar (all ns rest : List ℕ) : Type 0 where
  pub front : List ℕ
  pub numbers : Numbers ns front
  pub parts : all ≡ front ++ rest
  pub fits : IsBytes rest

Numbers-append : (ns ms a b : List ℕ) → Numbers ns a → Numbers ms b → Numbers (ns ++ ms) (a ++ b)
Numbers-append [] ms a b h k = rw h k
Numbers-append (n ∷ ns) ms a b h k = (h.0, h.1 ++ b, h.2, Numbers-append ns ms h.1 b h.3 k, rw h.4 (append_assoc h.0 h.1 b))

pub IsBytes-drop : (n : ℕ) (bytes : List ℕ) → IsBytes bytes → IsBytes (drop n bytes)
IsBytes-drop n bytes h i = rw get_or-drop (h (n + i))

pub IsBytes-behind : (front rest bytes : List ℕ) → bytes ≡ front ++ rest → IsBytes bytes → IsBytes rest
IsBytes-behind front rest bytes e h = rw (ap (drop (length front)) e ∙ drop_at front rest (length front) refl) at (IsBytes-drop (length front) bytes h)

field_some : {T : Type 0} (o : Option (T × List ℕ)) (x : T × List ℕ) → field o ≡ Ok x → o ≡ Some x
field_some (Some y) x e = cc
field_some None x e = absurd cc

-- one number more
pub more : (all ns rest : List ℕ) (x : ℕ × List ℕ) → Sofar all ns rest → var_at rest ≡ Ok x → Sofar all (ns ++ x.0 ∷ []) x.1
more all ns rest x s e =
    let b = varint_found rest x.0 x.1 s.fits (field_some (varint_at rest) x e) in
    record {
      front = s.front ++ b.front;
      numbers = Numbers-append ns (x.0 ∷ []) s.front b.front s.numbers (b.front, [], b.spells, refl, sym (append-nil b.front));
      parts = s.parts ∙ ap (λ (t : List ℕ). s.front ++ t) b.parts ∙ sym (append_assoc s.front b.front x.1);
      fits = IsBytes-behind b.front x.1 rest b.parts s.fits;
    }
