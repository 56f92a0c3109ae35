-- Numbers rise: one more above all stays so, what has the same number is the same, and the
-- datagrams given are those of the numbers.
use Rattle.std.proofs.Common.{◌≡◌, ℕ, ◌+◌, ◌<◌, ◌≤◌, max, List, [], ◌∷◌, ◌++◌, map, inl, inr, refl, sym, ◌∙◌, subst, arith}
use Rattle.quic_machine.specs.Policy.{Policy}
use Rattle.quic_machine.specs.Poll.{IsDatagram}
use Rattle.quic_machine.specs.Start.{IsLawful}
use Rattle.quic_headline.specs.Runs.{In, destination}
use Rattle.quic_headline.specs.Observer.{Sent, next_number}
use Rattle.quic_headline.specs.Headline.{Rise}
use Rattle.quic_headline.proofs.Packets.Invariant.{InStep, RisingFrom, IsSent}
use Rattle.quic_headline.proofs.Packets.Delivered.{destination_given}

-- one more, with a number above all, of which at most one is left out before it
pub rising_push : (low : ℕ) (sents : List Sent) (s : Sent) → RisingFrom low sents → low ≤ s.number → s.number ≤ max low (next_number sents) + 1 → ((t : Sent) → In t sents → t.number < s.number) → RisingFrom low (sents ++ s ∷ [])
rising_push low [] s rising le near above = (le, omega arith, tt)
rising_push low (t ∷ sents) s rising le near above =
    let here = above t (inl refl) in
    let first = rising.0 in
    (first, rising.1, rising_push (t.number + 1) sents s rising.2 (omega arith) (omega arith) (λ u i. above u (inr i)))

-- the number that goes behind one more
pub next_push : (sents : List Sent) (s : Sent) → next_number (sents ++ s ∷ []) ≡ max (next_number sents) (s.number + 1)
next_push [] s = omega arith
next_push (t ∷ sents) s =
    let rest = next_push sents s in
    omega arith

-- each number is one of those that may come
rising_from : (low : ℕ) (sents : List Sent) (s : Sent) → RisingFrom low sents → In s sents → low ≤ s.number
rising_from low [] s rising i = absurd i
rising_from low (t ∷ sents) s rising (inl is) = rw is rising.0
rising_from low (t ∷ sents) s rising (inr i) =
    let first = rising.0 in
    let later = rising_from (t.number + 1) sents s rising.2 i in
    omega arith

-- two of the same number are one
pub one_number : (low : ℕ) (sents : List Sent) (s t : Sent) → RisingFrom low sents → In s sents → In t sents → s.number ≡ t.number → s ≡ t
one_number low [] s t rising i j same = absurd i
one_number low (u ∷ sents) s t rising (inl i) (inl j) same = i ∙ sym j
one_number low (u ∷ sents) s t rising (inl i) (inr j) same =
    let later = rising_from (u.number + 1) sents t rising.2 j in
    let here : s.number ≡ u.number = rw i refl in
    absurd (omega arith)
one_number low (u ∷ sents) s t rising (inr i) (inl j) same =
    let later = rising_from (u.number + 1) sents s rising.2 i in
    let here : t.number ≡ u.number = rw j refl in
    absurd (omega arith)
one_number low (u ∷ sents) s t rising (inr i) (inr j) same = one_number (u.number + 1) sents s t rising.2 i j same

-- the datagrams given are those of numbers that rise
pub rise : (p : Policy) (low : ℕ) (sents : List Sent) (ds : List (List ℕ)) → IsLawful p → RisingFrom low sents → InStep (IsSent p) sents ds → Rise p low (map (λ s. s.reference) sents) ds
rise p low [] [] lawful rising all = tt
rise p low (s ∷ sents) (d ∷ ds) lawful rising all =
    let g = all.0 in
    let to : destination d ≡ s.id = destination_given p s.id s.number s.reference s.frames d g lawful in
    let is : IsDatagram p s.reference s.number (destination d) s.frames d = subst (λ (id : List ℕ). IsDatagram p s.reference s.number id s.frames d) (sym to) (record { payload = g.payload; spells = g.spells; is = g.is }) in
    (s.number, rising.0, rising.1, record { small = g.small; near = g.near; frames = s.frames; is = is }, rise p (s.number + 1) sents ds lawful rising.2 all.1)
rise p low [] (d ∷ ds) lawful rising all = absurd all
rise p low (s ∷ sents) [] lawful rising all = absurd all
