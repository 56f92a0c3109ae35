-- What is a form of an ACK frame is read as that frame.
use Rattle.std.proofs.Common.{◌≡◌, ℕ, ◌-◌, ◌+◌, ◌≤◌, ltb, false, List, [], ◌∷◌, ◌++◌, length, Option, Some, None, Ok, refl, sym, ap, ◌∙◌, arith}
use Rattle.std.proofs.lemmas.Bool.{le-ltb}
use Rattle.quic_wire.specs.Value.{AckValue}
use Rattle.quic_wire.specs.AckReading.{range_at, ranges_at, ecn_at, some_ecn_at, ack_at}
use Rattle.quic_wire.specs.AckGrammar.{Below, has_ecn, range_numbers, ecn_numbers}
use Rattle.quic_wire.specs.Grammar.{Numbers}
use Rattle.quic_wire.proofs.FieldAgain.{next, none_left}

range_again : (low : ℕ) (r : ℕ × ℕ) (ns front : List ℕ) → r.0 ≤ r.1 → r.1 + 2 ≤ low → Numbers ((low - (r.1 + 2)) ∷ (r.1 - r.0) ∷ ns) front
    → (after : List ℕ) × Numbers ns after × ((rest : List ℕ) → range_at low (front ++ rest) ≡ Ok (r, after ++ rest))
unfolding range_at
range_again low r ns front le below h =
    let a = next (low - (r.1 + 2)) ((r.1 - r.0) ∷ ns) front h in
    let b = next (r.1 - r.0) ns a.after a.others in
    let room : ltb low (low - (r.1 + 2) + 2) ≡ false = le-ltb _ _ (omega arith) in
    let high : low - (low - (r.1 + 2) + 2) ≡ r.1 = omega arith in
    let fits : ltb r.1 (r.1 - r.0) ≡ false = le-ltb _ _ (omega arith) in
    let least : r.1 - (r.1 - r.0) ≡ r.0 = omega arith in
    (b.after, b.others, λ rest. rw (a.reads rest, room, b.reads rest, high, fits, least) refl)

ranges_again : (rs : List (ℕ × ℕ)) (low : ℕ) (ns front : List ℕ) → Below low rs → Numbers (range_numbers low rs ++ ns) front
    → (after : List ℕ) × Numbers ns after × ((rest : List ℕ) → ranges_at (length rs) low (front ++ rest) ≡ Ok (rs, after ++ rest))
unfolding ranges_at
ranges_again [] low ns front below h = (front, h, λ rest. refl)
ranges_again (r ∷ rs) low ns front below h =
    let a = range_again low r (range_numbers r.0 rs ++ ns) front below.0 below.1 h in
    let b = ranges_again rs r.0 ns a.0 below.2 a.1 in
    (b.0, b.1, λ rest. rw (a.2 rest, b.2 rest) refl)

ecn_again : (e : ℕ × ℕ × ℕ) (front rest : List ℕ) → Numbers (e.0 ∷ e.1 ∷ e.2 ∷ []) front → ecn_at (front ++ rest) ≡ Ok (e, rest)
unfolding ecn_at
ecn_again e front rest h =
    let a = next e.0 (e.1 ∷ e.2 ∷ []) front h in
    let b = next e.1 (e.2 ∷ []) a.after a.others in
    let c = next e.2 [] b.after b.others in
    rw (a.reads rest, b.reads rest, c.reads rest, none_left c.after rest c.others) refl

some_ecn_again : (o : Option (ℕ × ℕ × ℕ)) (front rest : List ℕ) → Numbers (ecn_numbers o) front → some_ecn_at (has_ecn o) (front ++ rest) ≡ Ok (o, rest)
unfolding some_ecn_at
some_ecn_again None front rest h = rw h refl
some_ecn_again (Some e) front rest h = rw (ecn_again e front rest h) refl

-- the numbers of an ACK frame behind its type
abbrev pub numbers_behind : AckValue → ℕ × ℕ → List (ℕ × ℕ) → List ℕ
numbers_behind a r rs = a.largest ∷ a.delay ∷ length rs ∷ (r.1 - r.0) ∷ (range_numbers r.0 rs ++ ecn_numbers a.ecn)

pub ack_again : (a : AckValue) (r : ℕ × ℕ) (rs : List (ℕ × ℕ)) (front rest : List ℕ) → a.ranges ≡ r ∷ rs → r.0 ≤ r.1 → r.1 ≡ a.largest → Below r.0 rs
    → Numbers (numbers_behind a r rs) front → ack_at (has_ecn a.ecn) (front ++ rest) ≡ Ok (a, rest)
unfolding ack_at
ack_again a r rs front rest is le top below h =
    let n1 = next a.largest (a.delay ∷ length rs ∷ (r.1 - r.0) ∷ (range_numbers r.0 rs ++ ecn_numbers a.ecn)) front h in
    let n2 = next a.delay (length rs ∷ (r.1 - r.0) ∷ (range_numbers r.0 rs ++ ecn_numbers a.ecn)) n1.after n1.others in
    let n3 = next (length rs) ((r.1 - r.0) ∷ (range_numbers r.0 rs ++ ecn_numbers a.ecn)) n2.after n2.others in
    let n4 = next (r.1 - r.0) (range_numbers r.0 rs ++ ecn_numbers a.ecn) n3.after n3.others in
    let bs = ranges_again rs r.0 (ecn_numbers a.ecn) n4.after below n4.others in
    let room : ltb a.largest (r.1 - r.0) ≡ false = le-ltb _ _ (omega arith) in
    let low : a.largest - (r.1 - r.0) ≡ r.0 = omega arith in
    let all : (r.0, a.largest) ∷ rs ≡ a.ranges = sym (is ∙ ap (λ (n : ℕ). (r.0, n) ∷ rs) top) in
    rw (n1.reads rest, n2.reads rest, n3.reads rest, n4.reads rest, room, low, bs.2 rest, some_ecn_again a.ecn bs.0 rest bs.1, all) refl
