-- None of the messages of a queue is longer than so many bytes.
use Rattle.std.proofs.Common.{◌≡◌, ◌≤◌, ◌<◌, ◌+◌, ◌-◌, ℕ, true, false, cond, max, nat_le, List, [], ◌∷◌, ◌++◌, length, get_or, take, All, refl, sym, ap, ◌∙◌, subst, arith}
use Rattle.std.specs.List.{filter}
use Rattle.std.proofs.lemmas.Bool.{leb-true, le-leb}
use Rattle.std.proofs.lemmas.List.{append-nil}
use Rattle.std.proofs.lemmas.List.Elements.{All-nil, All-cons, All-head, All-tail, All-append, filter_more, filter_passes}
use Rattle.quic_messages.specs.Messages.{is_within, bytes_of, left_for}
use Rattle.quic_messages.proofs.Leaving.{left_for_fewer}
use Rattle.quic_messages.proofs.Turning.{bytes_taken}

-- none is longer
abbrev pub AreWithin : ℕ → List (List ℕ) → Type 0
AreWithin n ms = All (λ m. length m ≤ n) ms

-- nor is one of those behind the first
pub rest_within : (n : ℕ) (m : List ℕ) (rest all : List (List ℕ)) → all ≡ m ∷ rest → AreWithin n all → AreWithin n rest
rest_within n m rest all is h = All-tail (λ x. length x ≤ n) m rest (subst (AreWithin n) is h)

-- and the first isn't
pub first_within : (n : ℕ) (m : List ℕ) (rest all : List (List ℕ)) → all ≡ m ∷ rest → AreWithin n all → length m ≤ n
first_within n m rest all is h = All-head (λ x. length x ≤ n) m rest (subst (AreWithin n) is h)

-- nor is one more of them, where it isn't itself
pub more_within : (n : ℕ) (ms : List (List ℕ)) (m : List ℕ) → AreWithin n ms → length m ≤ n → AreWithin n (ms ++ m ∷ [])
more_within n ms m h le = All-append (λ x. length x ≤ n) ms (m ∷ []) h (All-cons (λ x. length x ≤ n) m [] le (All-nil (λ x. length x ≤ n)))

-- nor is one longer than more bytes
pub within_more : (n k : ℕ) (ms : List (List ℕ)) → n ≤ k → AreWithin n ms → AreWithin k ms
within_more n k ms le h i d lt = (let short = h i d lt in omega arith)

-- those stay that aren't longer
pub all_pass : (size : ℕ) (ms : List (List ℕ)) → AreWithin size ms → filter (is_within size) ms ≡ ms
all_pass size [] h = refl
all_pass size (m ∷ ms) h = rw (le-leb (length m) size (All-head (λ x. length x ≤ size) m ms h), all_pass size ms (All-tail (λ x. length x ≤ size) m ms h)) refl

-- the oldest goes where one more of so many bytes doesn't fit beside all: it takes its bytes with
-- it, and what is left for the other stays as it was
pub oldest_goes : (takes : List ℕ → ℕ) (n room bytes : ℕ) (m : List ℕ) (rest : List (List ℕ)) {all : List (List ℕ)} {total : ℕ} → all ≡ m ∷ rest → total ≡ bytes_of takes all → nat_le (total + bytes) room ≡ false → AreWithin n all
    → (total - takes m ≡ bytes_of takes rest) × (left_for takes room bytes rest ≡ left_for takes room bytes all) × AreWithin n rest
oldest_goes takes n room bytes m rest {all} {total} popped sum full short =
    let both : total ≡ bytes_of takes (m ∷ rest) = sum ∙ ap (bytes_of takes) popped in
    let over : nat_le (bytes_of takes (m ∷ rest) + bytes) room ≡ false = ap (λ t. nat_le (t + bytes) room) (sym both) ∙ full in
    (ap (λ t. t - takes m) both ∙ bytes_taken takes m rest, sym (left_for_fewer takes room bytes m rest over) ∙ ap (left_for takes room bytes) (sym popped), rest_within n m rest all popped short)

-- one more of a list is looked at: it stays, and the bound grows with it
pub longest_more : (size n i : ℕ) (ms : List (List ℕ)) (m : List ℕ) → i < length ms → get_or ms i m ≡ m → length m ≤ size → AreWithin n (filter (is_within size) (take i ms)) → AreWithin (max n (length m)) (filter (is_within size) (take (i + 1) ms))
longest_more size n i ms m within is short h =
    let passes : is_within size m ≡ true = le-leb (length m) size short in
    let more : filter (is_within size) (take (i + 1) ms) ≡ filter (is_within size) (take i ms) ++ m ∷ [] =
    filter_more (is_within size) ms i m within ∙ ap (λ x. filter (is_within size) (take i ms) ++ cond (is_within size x) (x ∷ []) []) is ∙ ap (λ b. filter (is_within size) (take i ms) ++ cond b (m ∷ []) []) passes in
    subst (AreWithin (max n (length m))) (sym more) (more_within (max n (length m)) (filter (is_within size) (take i ms)) m (within_more n (max n (length m)) (filter (is_within size) (take i ms)) (omega arith) h) (omega arith))

-- or it goes
pub longest_same : (size n i : ℕ) (ms : List (List ℕ)) (m : List ℕ) → i < length ms → get_or ms i m ≡ m → is_within size m ≡ false → AreWithin n (filter (is_within size) (take i ms)) → AreWithin n (filter (is_within size) (take (i + 1) ms))
longest_same size n i ms m within is long h =
    let same : filter (is_within size) (take (i + 1) ms) ≡ filter (is_within size) (take i ms) =
    filter_more (is_within size) ms i m within ∙ ap (λ x. filter (is_within size) (take i ms) ++ cond (is_within size x) (x ∷ []) []) is ∙ ap (λ b. filter (is_within size) (take i ms) ++ cond b (m ∷ []) []) long ∙ append-nil (filter (is_within size) (take i ms)) in
    subst (AreWithin n) (sym same) h
