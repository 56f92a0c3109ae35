-- How a line is taken of what a reader gives, piece by piece.
use Rattle.std.proofs.Common.{◌≡◌, ℕ, suc, ◌+◌, ◌-◌, ◌<◌, ◌≤◌, ◌==◌, Bool, true, false, cond, not, nat_lt, List, [], ◌∷◌, ◌++◌, length, take, drop, get_or, Option, Some, None, refl, sym, subst, ◌∙◌, inl, inr, arith, append_assoc, append-nil, length-append}
use Rattle.std.specs.Prelude.{position, slice_range, MatchBool}
use Rattle.std.specs.List.{slice_split, onto_first, position_or_len}
use Rattle.std.specs.Io.KnownBytes.{prepend_known, Keeps, IsAtEnd}
use Rattle.std.proofs.lemmas.Bool.{eqb-true, ltb-true, ltb-false}
use Rattle.std.proofs.lemmas.List.{take_all, drop-drop, drop-take}
use Rattle.std.proofs.lemmas.List.Sums.{split_at_first, passes_at_first}
use Rattle.quic_lines.specs.LineByLine.{ended, lines_of}
use Rattle.quic_lines.specs.Reading.{IsWhole, Moves, BeginsTooLong, IsNextLine, IsOver}

-- a line feed
abbrev pub is_feed : ℕ → Bool
is_feed b = b == 10

-- ---- where the first line feed stands

-- there is none before it
whole_before : (u : List ℕ) → IsWhole (take (position_or_len is_feed u) u)
whole_before [] = tt
whole_before (b ∷ bs) = go (b == 10) refl (whole_before bs)
  where
    go : (t : Bool) → (b == 10) ≡ t → IsWhole (take (position_or_len is_feed bs) bs) → IsWhole (take (cond (not t) (1 + position_or_len is_feed bs) 0) (b ∷ bs))
    go true e ih = tt
    go false e ih =
        let one : 1 + position_or_len is_feed bs ≡ suc (position_or_len is_feed bs) = omega arith in
        rw one (e, ih)

-- what stands before it and behind it, if there is one
pub first_feed : (u : List ℕ) (k : ℕ) → position is_feed u ≡ Some k → (k < length u) × IsWhole (take k u) × (u ≡ take k u ++ (10 ∷ drop (k + 1) u))
first_feed u k h = go (nat_lt (position_or_len is_feed u) (length u)) refl h
  where
    go : (t : Bool) → nat_lt (position_or_len is_feed u) (length u) ≡ t → cond t (Some (position_or_len is_feed u)) None ≡ Some k → (k < length u) × IsWhole (take k u) × (u ≡ take k u ++ (10 ∷ drop (k + 1) u))
    go false e h = absurd cc
    go true e h =
        let at : position_or_len is_feed u ≡ k = cc in
        let fits = ltb-true (position_or_len is_feed u) (length u) e in
        let feed : get_or u (position_or_len is_feed u) 0 ≡ 10 = eqb-true (get_or u (position_or_len is_feed u) 0) 10 (passes_at_first is_feed u 0 fits) in
        let parts : u ≡ take (position_or_len is_feed u) u ++ (10 ∷ drop (position_or_len is_feed u + 1) u) = rw feed at (split_at_first is_feed u 0 fits) in
        subst (λ (n : ℕ). (n < length u) × IsWhole (take n u) × (u ≡ take n u ++ (10 ∷ drop (n + 1) u))) at (fits, whole_before u, parts)

-- all is before it, if there is none
pub no_feed : (u : List ℕ) → position is_feed u ≡ None → IsWhole u
no_feed u h = go (nat_lt (position_or_len is_feed u) (length u)) refl h
  where
    go : (t : Bool) → nat_lt (position_or_len is_feed u) (length u) ≡ t → cond t (Some (position_or_len is_feed u)) None ≡ None → IsWhole u
    go true e h = absurd cc
    go false e h =
        let all : take (position_or_len is_feed u) u ≡ u = take_all (position_or_len is_feed u) u (ltb-false (position_or_len is_feed u) (length u) e) in
        subst (λ (xs : List ℕ). IsWhole xs) all (whole_before u)

-- ---- the lines of bytes

-- both are without a line feed
pub whole-append : (xs ys : List ℕ) → IsWhole xs → IsWhole ys → IsWhole (xs ++ ys)
whole-append [] ys a b = b
whole-append (x ∷ xs) ys a b = (a.0, whole-append xs ys a.1 b)

-- parts that begin with some bytes
abbrev Begun : List ℕ → List (List ℕ) → Type 0
Begun xs parts = (first : List ℕ) × (more : List (List ℕ)) × (parts ≡ (xs ++ first) ∷ more)

-- bytes have a first part
split-stands : (ys : List ℕ) → Begun [] (slice_split is_feed ys)
split-stands [] = ([], [], refl)
split-stands (b ∷ bs) = go (b == 10) (slice_split is_feed bs)
  where
    go : (t : Bool) (parts : List (List ℕ)) → Begun [] (cond t ([] ∷ parts) (onto_first b parts))
    go true parts = ([], parts, refl)
    go false [] = (b ∷ [], [], refl)
    go false (p ∷ ps) = (b ∷ p, ps, refl)

-- it begins with what has no line feed
split-begins : (xs ys : List ℕ) → IsWhole xs → Begun xs (slice_split is_feed (xs ++ ys))
split-begins [] ys h = split-stands ys
split-begins (b ∷ bs) ys h =
    let ih = split-begins bs ys h.1 in
    (ih.0, ih.1, rw (h.0, ih.2) refl)

-- a part ends at the first line feed
split-past : (xs ys : List ℕ) → IsWhole xs → slice_split is_feed (xs ++ (10 ∷ ys)) ≡ xs ∷ slice_split is_feed ys
split-past [] ys h = refl
split-past (b ∷ bs) ys h = rw (h.0, split-past bs ys h.1) refl

-- bytes without a line feed are one part
split-alone : (xs : List ℕ) → IsWhole xs → slice_split is_feed xs ≡ xs ∷ []
split-alone [] h = refl
split-alone (b ∷ bs) h = rw (h.0, split-alone bs h.1) refl

-- a line that a line feed ends is the first
pub lines_of-past : (xs ys : List ℕ) → IsWhole xs → lines_of (xs ++ (10 ∷ ys)) ≡ xs ∷ lines_of ys
lines_of-past xs ys h =
    let behind = split-stands ys in
    let parts : slice_split is_feed ys ≡ behind.0 ∷ behind.1 = behind.2 in
    rw (split-past xs ys h, parts) refl

-- the last line may lack a line feed
pub lines_of-alone : (xs : List ℕ) → IsWhole xs → 0 < length xs → lines_of xs ≡ xs ∷ []
lines_of-alone [] h some = absurd (omega arith)
lines_of-alone (b ∷ bs) h some = rw (split-alone (b ∷ bs) h) refl

-- a long part is a long line
long_first : (l : List ℕ) (more : List (List ℕ)) → 1048576 < length l → BeginsTooLong (ended (l ∷ more))
long_first [] more h = absurd (omega arith)
long_first (b ∷ bs) [] h = h
long_first (b ∷ bs) (l ∷ ls) h = h

-- bytes that begin with so many without a line feed begin with a long line
pub lines_of-long : (xs ys : List ℕ) → IsWhole xs → 1048576 < length xs → BeginsTooLong (lines_of (xs ++ ys))
lines_of-long xs ys h long =
    let begun = split-begins xs ys h in
    let size : length (xs ++ begun.0) ≡ length xs + length begun.0 = simp length-append in
    rw begun.2 (long_first (xs ++ begun.0) begun.1 (omega arith))

-- ---- a line that is being read

-- so much was read of the first line of these bytes, and these are left
abbrev pub IsBegun : Option (List ℕ) → List ℕ → Option (List ℕ) → Type 0
IsBegun None line left = Unit {0}
IsBegun (Some bytes) line None = ⊥
IsBegun (Some bytes) line (Some left) = IsWhole line × (bytes ≡ line ++ left)

-- nothing was read
pub begun_none : (known : Option (List ℕ)) → IsBegun known [] known
begun_none None = tt
begun_none (Some bytes) = (tt, refl)

-- a piece was moved
pub begun_more : (known left next : Option (List ℕ)) (line longer : List ℕ) → IsBegun known line left → Moves false left line next longer → IsBegun known longer next
begun_more None left next line longer b m = tt
begun_more (Some bytes) None next line longer b m = absurd b
begun_more (Some bytes) (Some left) None line longer b m = absurd m
begun_more (Some bytes) (Some left) (Some next) line longer b m =
    (rw m.3 (whole-append line m.0 b.0 m.1), b.1 ∙ rw (m.2, m.3) (sym (append_assoc line m.0 next)))

-- the whole line was moved
pub begun_whole : (known left next : Option (List ℕ)) (line longer : List ℕ) → IsBegun known line left → Moves true left line next longer → IsNextLine known longer next
begun_whole None left next line longer b m = tt
begun_whole (Some bytes) None next line longer b m = absurd b
begun_whole (Some bytes) (Some left) None line longer b m = absurd m
begun_whole (Some bytes) (Some left) (Some next) line longer b m =
    let is : bytes ≡ longer ++ (10 ∷ next) = b.1 ∙ rw (m.2, m.3) (sym (append_assoc line m.0 (10 ∷ next))) in
    let whole : IsWhole longer = rw m.3 (whole-append line m.0 b.0 m.1) in
    inl (rw is (lines_of-past longer next whole))

-- more was moved than a line may have
pub begun_long : (known next : Option (List ℕ)) (line : List ℕ) → IsBegun known line next → 1048576 < length line → IsNextLine known line next
begun_long None next line b long = tt
begun_long (Some bytes) None line b long = absurd b
begun_long (Some bytes) (Some next) line b long = inr (long, rw b.1 (lines_of-long line next b.0 long))

-- the reader gave more
pub begun_filled : (known left next : Option (List ℕ)) (line : List ℕ) → IsBegun known line left → Keeps left next → IsBegun known line next
begun_filled None left next line b k = tt
begun_filled (Some bytes) None next line b k = absurd b
begun_filled (Some bytes) (Some left) None line b k = absurd k
begun_filled (Some bytes) (Some left) (Some next) line b k = (b.0, rw k b.1)

-- there is no more, and nothing was read
pub begun_over : (known left : Option (List ℕ)) (line : List ℕ) → IsBegun known line left → IsAtEnd left → length line ≡ 0 → IsOver known
begun_over None left line b e none = tt
begun_over (Some bytes) None line b e none = absurd b
begun_over (Some bytes) (Some left) [] b e none = rw (b.1, e) refl
begun_over (Some bytes) (Some left) (x ∷ xs) b e none = absurd (omega arith)

-- there is no more, and this is the last line
pub begun_last : (known left next : Option (List ℕ)) (line : List ℕ) → IsBegun known line left → IsAtEnd left → Keeps left next → 0 < length line → IsNextLine known line next
begun_last None left next line b e k some = tt
begun_last (Some bytes) None next line b e k some = absurd b
begun_last (Some bytes) (Some left) None line b e k some = absurd k
begun_last (Some bytes) (Some left) (Some next) line b e k some =
    let none : next ≡ [] = k ∙ e in
    let is : bytes ≡ line = b.1 ∙ rw e (append-nil line) in
    inl (rw (is, none) (lines_of-alone line b.0 some))

-- there is no more
pub begun_end : (known left next : Option (List ℕ)) (line : List ℕ) (empty : Bool) (n : ℕ) → empty ≡ (n == 0) → n ≡ length line → IsBegun known line left → IsAtEnd left → Keeps left next → MatchBool (not empty) (IsNextLine known line next) (IsOver known)
begun_end known left next [] true n is size b e k = begun_over known left [] b e refl
begun_end known left next [] false n is size b e k =
    let zero : false ≡ true = rw size at is in
    absurd cc
begun_end known left next (x ∷ xs) true n is size b e k =
    let zero : n ≡ 0 = eqb-true n 0 (sym is) in
    absurd (omega arith)
begun_end known left next (x ∷ xs) false n is size b e k = begun_last known left next (x ∷ xs) b e k (omega arith)

-- ---- pieces of what was read

-- a piece up to a line feed is moved
pub moves_whole : (known : Option (List ℕ)) (unread rest line next piece : List ℕ) → IsWhole piece → unread ≡ piece ++ (10 ∷ rest) → next ≡ line ++ piece → Moves true (prepend_known unread known) line (prepend_known rest known) next
moves_whole None unread rest line next piece whole is same = tt
moves_whole (Some bytes) unread rest line next piece whole is same = (piece, whole, rw (is, append_assoc) refl, same)

-- all of it is moved
pub moves_all : (known : Option (List ℕ)) (unread rest line next : List ℕ) → IsWhole unread → rest ≡ [] → next ≡ line ++ unread → Moves false (prepend_known unread known) line (prepend_known rest known) next
moves_all None unread rest line next whole none same = tt
moves_all (Some bytes) unread rest line next whole none same = (unread, whole, rw none refl, same)

-- what is left behind the first bytes of a part
pub drop-range : (k start end : ℕ) (xs : List ℕ) → start + k ≤ end → drop k (slice_range xs start end) ≡ slice_range xs (start + k) end
drop-range k start end xs fits =
    let size : end - start ≡ k + (end - (start + k)) = omega arith in
    rw (size, drop-take k (end - (start + k)) (drop start xs), drop-drop k start xs) refl

-- nothing is prepended
pub keeps_none : (known : Option (List ℕ)) → Keeps known (prepend_known [] known)
keeps_none None = tt
keeps_none (Some bytes) = refl

-- nothing stands between a place and itself
pub range_none : (n : ℕ) (xs : List ℕ) → slice_range xs n n ≡ []
range_none n xs =
    let none : n - n ≡ 0 = omega arith in
    rw none refl
