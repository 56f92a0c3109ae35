-- How many messages that came an end keeps unread, at most.
use Rattle.std.proofs.Common.{◌≡◌, ℕ, zero, suc, ◌+◌, ◌≤◌, ◌<◌, max, Bool, true, false, nat_le, List, [], ◌∷◌, length, Some, refl, sym, subst, if◌then◌else◌, arith}
use Rattle.std.proofs.lemmas.Bool.{leb-true}
use Rattle.std.proofs.lemmas.List.Sums.{sum_by-cons}
use Rattle.quic_messages.specs.Messages.{Messages, weight, bytes_of, left_for, with_message, is_taken, after_received}
use Rattle.quic_messages.proofs.Leaving.{with_message_fits}

-- a message takes its bytes at least, and one byte at least
weight_length : (m : List ℕ) → length m ≤ weight m
weight_length m = omega arith

weight_one : (m : List ℕ) → 1 ≤ weight m
weight_one m = omega arith

-- so messages take their bytes at least
lengths_weigh : (ms : List (List ℕ)) → bytes_of length ms ≤ bytes_of weight ms
lengths_weigh [] = omega arith
lengths_weigh (m ∷ ms) =
    let lengths = sum_by-cons (λ (x : List ℕ). length x) m ms in
    let weights = sum_by-cons weight m ms in
    let more = weight_length m in
    let rest = lengths_weigh ms in
    omega arith

-- and as many bytes as they are at least
counts_weigh : (ms : List (List ℕ)) → length ms ≤ bytes_of weight ms
counts_weigh [] = omega arith
counts_weigh (m ∷ ms) =
    let weights = sum_by-cons weight m ms in
    let one = weight_one m in
    let rest = counts_weigh ms in
    omega arith

-- where an end keeps no byte, none is left for one more
none_stays : (len : ℕ) (ms : List (List ℕ)) → 0 < len → left_for weight 0 len ms ≡ []
none_stays len [] some = refl
none_stays len (m ∷ ms) some = go (nat_le (bytes_of weight (m ∷ ms) + len) 0) refl (none_stays len ms some)
  where
    go : (b : Bool) → nat_le (bytes_of weight (m ∷ ms) + len) 0 ≡ b → left_for weight 0 len ms ≡ [] → (if b then m ∷ ms else left_for weight 0 len ms) ≡ []
    go true is rest = (let small = leb-true _ _ is in absurd (omega arith))
    go false is rest = rest

-- behind a message that is taken
bounded : (window : ℕ) (m : List ℕ) (ms : List (List ℕ)) → length m ≤ window
    → (bytes_of length (with_message weight window m ms) ≤ window) × (length (with_message weight window m ms) ≤ max window 1)
bounded zero m ms short = rw (none_stays (weight m) ms (weight_one m)) (omega arith, omega arith)
bounded (suc n) m ms short =
    let fits = with_message_fits weight (suc n) m ms (omega arith) in
    let lengths = lengths_weigh (with_message weight (suc n) m ms) in
    let counts = counts_weigh (with_message weight (suc n) m ms) in
    (omega arith, omega arith)

pub bytes_bounded : (window : ℕ) (m : List ℕ) (s : Messages) → is_taken (Some window) m ≡ true → bytes_of length (after_received (Some window) m s).incoming ≤ window
bytes_bounded window m s taken =
    subst (λ (b : Bool). bytes_of length (if b then record s { incoming = with_message weight window m s.incoming } else s).incoming ≤ window) (sym taken)
    (bounded window m s.incoming (leb-true _ _ taken)).0

pub count_bounded : (window : ℕ) (m : List ℕ) (s : Messages) → is_taken (Some window) m ≡ true → length (after_received (Some window) m s).incoming ≤ max window 1
count_bounded window m s taken =
    subst (λ (b : Bool). length (if b then record s { incoming = with_message weight window m s.incoming } else s).incoming ≤ max window 1) (sym taken)
    (bounded window m s.incoming (leb-true _ _ taken)).1
