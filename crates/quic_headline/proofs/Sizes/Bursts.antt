-- The bursts of losses that an observer finds suspicious are those that an end keeps, as far as it
-- matters how many there are (RFC 8899, section 4.3).
use Rattle.std.proofs.Common.{◌≡◌, ◌⊎◌, ℕ, suc, ◌+◌, ◌<◌, ◌≤◌, leb, ltb, cond, min, max, filter, length, Bool, true, false, not, ◌&&◌, ◌||◌, List, [], ◌∷◌, Option, Some, None, inl, inr, refl, sym, ap, ◌∙◌, subst, arith}
use Rattle.std.specs.Prelude.{◌==◌, nat_lt, if◌then◌else◌}
use Rattle.std.proofs.lemmas.Bool.{cases_lt, eq-eqb, eqb-true, ltb-true, ltb-false, lt-ltb, le-ltb, le-leb, lt-leb}
use Rattle.std.proofs.lemmas.List.{take_all, length-take}
use Rattle.quic_congestion.specs.Bursts as of_end
use Rattle.quic_congestion.specs.Bursts.{Bursts, placed, kept_with, kept_above, suspected, judged, ended, begun_at, lost_behind, after_lost, after_acknowledged}
use Rattle.quic_streams_parts.specs.Table.{Table}
use Rattle.quic_machine.specs.Tracking.{TrackedPacket}
use Rattle.quic_headline.specs.Observer.{Sent}
use Rattle.quic_headline.specs.PathSizes.{Burst, burst_of, burst_before, bursts_of, counted, Sizing, is_suspicious, with_burst, with_bursts, arrived}
use Rattle.quic_headline.proofs.Packets.Waited.{AreWaited}

-- ---- sizes that are kept

-- how many of some sizes are above one
abbrev pub above : ℕ → List ℕ → ℕ
above n xs = length (filter (λ x. nat_lt n x) xs)

-- the same sizes, in whatever order: as many, and as many above each
pub record AreSame (xs ys : List ℕ) : Type 0 where
  pub many : length xs ≡ length ys
  pub each : (n : ℕ) → above n xs ≡ above n ys

-- both are the same, or there are more than three of both
abbrev pub AreKept : List ℕ → List ℕ → Type 0
AreKept xs ys = (AreSame xs ys × (length ys ≤ 3)) ⊎ ((3 < length xs) × (3 < length ys))

abbrev one_above : Bool → ℕ
one_above true = 1
one_above false = 0

above_one : (n x : ℕ) (xs : List ℕ) → above n (x ∷ xs) ≡ one_above (nat_lt n x) + above n xs
above_one n x xs = go (nat_lt n x)
  where
    go : (b : Bool) → length (cond b (x ∷ filter (λ y. nat_lt n y) xs) (filter (λ y. nat_lt n y) xs)) ≡ one_above b + above n xs
    go true = omega arith
    go false = omega arith

swapped : (a b c d : ℕ) → c ≡ b + d → a + c ≡ b + (a + d)
swapped a b c d e = omega arith

-- one more, put where it belongs
placed_above : (n s : ℕ) (xs : List ℕ) → above n (placed s xs) ≡ above n (s ∷ xs)
placed_above n s [] = refl
placed_above n s (x ∷ xs) = go (leb x s) (placed_above n s xs)
  where
    go : (b : Bool) → above n (placed s xs) ≡ above n (s ∷ xs) → above n (cond b (s ∷ x ∷ xs) (x ∷ placed s xs)) ≡ above n (s ∷ x ∷ xs)
    go true i = refl
    go false i =
        above_one n x (placed s xs)
        ∙ swapped (one_above (nat_lt n x)) (one_above (nat_lt n s)) (above n (placed s xs)) (above n xs) (i ∙ above_one n s xs)
        ∙ sym (ap (λ (k : ℕ). one_above (nat_lt n s) + k) (above_one n x xs))
        ∙ sym (above_one n s (x ∷ xs))

placed_length : (s : ℕ) (xs : List ℕ) → length (placed s xs) ≡ suc (length xs)
placed_length s [] = refl
placed_length s (x ∷ xs) = go (leb x s) (placed_length s xs)
  where
    go : (b : Bool) → length (placed s xs) ≡ suc (length xs) → length (cond b (s ∷ x ∷ xs) (x ∷ placed s xs)) ≡ suc (length (x ∷ xs))
    go true i = refl
    go false i = ap (λ (k : ℕ). suc k) i

pub kept_more : (s : ℕ) (xs ys : List ℕ) → AreKept xs ys → AreKept (kept_with s xs) (s ∷ ys)
kept_more s xs ys (inr many) =
    let long = length-take 4 (placed s xs) in
    let placed_so = placed_length s xs in
    let one = many.0 in
    let other = many.1 in
    inr (omega arith, omega arith)
kept_more s xs ys (inl same) = go (cases_lt (length ys) 3)
  where
    all : kept_with s xs ≡ placed s xs
    all = (let placed_so = placed_length s xs in let many = same.0.many in let few = same.1 in take_all 4 (placed s xs) (omega arith))

    more : AreSame (placed s xs) (s ∷ ys)
    more = record {
      many = placed_length s xs ∙ ap (λ (k : ℕ). suc k) same.0.many;
      each = λ n. placed_above n s xs ∙ above_one n s xs ∙ ap (λ (k : ℕ). one_above (nat_lt n s) + k) (same.0.each n) ∙ sym (above_one n s ys);
    }

    go : (length ys < 3) ⊎ (3 ≤ length ys) → AreKept (kept_with s xs) (s ∷ ys)
    go (inl less) = subst (λ (zs : List ℕ). AreKept zs (s ∷ ys)) (sym all) (inl (more, omega (arith, less)))
    go (inr enough) = (let many = more.many in subst (λ (zs : List ℕ). AreKept zs (s ∷ ys)) (sym all) (inr (omega (arith, enough, many), omega (arith, enough))))

nothing_more : (n : ℕ) → n ≡ 0 + n
nothing_more n = omega arith

-- those above a size
above_above : (m n : ℕ) (xs : List ℕ) → above n (filter (λ x. nat_lt m x) xs) ≡ above (max m n) xs
above_above m n [] = refl
above_above m n (x ∷ xs) = go (nat_lt m x) refl (above_above m n xs)
  where
    rest : List ℕ
    rest = filter (λ y. nat_lt m y) xs

    go : (b : Bool) → nat_lt m x ≡ b → above n rest ≡ above (max m n) xs → above n (cond b (x ∷ rest) rest) ≡ above (max m n) (x ∷ xs)
    go true is i = above_one n x rest ∙ ap (λ (k : ℕ). one_above (nat_lt n x) + k) i ∙ ap (λ (b : Bool). one_above b + above (max m n) xs) both ∙ sym (above_one (max m n) x xs)
      where
        both : nat_lt n x ≡ nat_lt (max m n) x
        both = elim (cases_lt n x) [
          | inl less ↦ lt-ltb n x less ∙ sym (lt-ltb (max m n) x (let low = ltb-true m x is in omega (arith, low, less)))
          | inr more ↦ le-ltb n x more ∙ sym (le-ltb (max m n) x (omega (arith, more)))
        ]
    go false is i = i ∙ nothing_more (above (max m n) xs) ∙ sym (above_one (max m n) x xs ∙ ap (λ (b : Bool). one_above b + above (max m n) xs) (le-ltb (max m n) x (let low = ltb-false m x is in omega (arith, low))))

above_shorter : (m : ℕ) (xs : List ℕ) → above m xs ≤ length xs
above_shorter m [] = omega arith
above_shorter m (x ∷ xs) = go (nat_lt m x) (above_shorter m xs)
  where
    go : (b : Bool) → above m xs ≤ length xs → length (cond b (x ∷ filter (λ y. nat_lt m y) xs) (filter (λ y. nat_lt m y) xs)) ≤ length (x ∷ xs)
    go true i = omega arith
    go false i = omega arith

pub above_same : (m : ℕ) (xs ys : List ℕ) → AreSame xs ys → length ys ≤ 3 → AreSame (kept_above m xs) (filter (λ x. nat_lt m x) ys) × (length (filter (λ x. nat_lt m x) ys) ≤ 3)
above_same m xs ys same few = (
  record { many = same.each m; each = λ n. above_above m n xs ∙ same.each (max m n) ∙ sym (above_above m n ys) },
  let short = above_shorter m ys in omega (arith, short, few),
)

-- ---- what both know

-- An end and its observer know the same of what arrives, and of what is suspicious; no burst grows.
pub record Knows (least : ℕ) (z : Sizing) (b : Bursts) : Type 0 where
  pub least_is : b.least ≡ least
  pub current : b.current ≡ None
  pub acked : b.acked ≡ z.arrives
  pub number : b.number ≡ z.newest
  pub kept : AreKept b.kept z.suspicious

-- one burst
abbrev judged_as : Burst → Bursts → Bursts
judged_as x b = judged b (record { last = x.last; size = x.size })

not_both : (a b : Bool) → not (a || b) ≡ (not a && not b)
not_both true b = refl
not_both false b = refl

turned : (m n : ℕ) → not (leb m n) ≡ nat_lt n m
turned m n = elim (cases_lt n m) [
  | inl less ↦ ap not (lt-leb m n less) ∙ sym (lt-ltb n m less)
  | inr more ↦ ap not (le-leb m n more) ∙ sym (le-ltb n m more)
]

suspicious_same : (least : ℕ) (x : Burst) (z : Sizing) (b : Bursts) → Knows least z b → of_end.is_suspicious b (record { last = x.last; size = x.size }) ≡ is_suspicious least z x
suspicious_same least x z b k =
    not_both (leb x.size b.least) (ltb x.last b.number && leb x.size b.acked)
    ∙ ap (λ (t : Bool). t && not (ltb x.last b.number && leb x.size b.acked)) (turned x.size b.least)
    ∙ ap (λ (n : ℕ). nat_lt n x.size && not (ltb x.last b.number && leb x.size b.acked)) k.least_is
    ∙ ap (λ (n : ℕ). nat_lt least x.size && not (ltb x.last n && leb x.size b.acked)) k.number
    ∙ ap (λ (n : ℕ). nat_lt least x.size && not (ltb x.last z.newest && leb x.size n)) k.acked

burst_knows : (least : ℕ) (x : Burst) (z : Sizing) (b : Bursts) → Knows least z b → Knows least (with_burst least x z) (judged_as x b)
burst_knows least x z b k = subst (λ (t : Bool). Knows least (with_burst least x z) (cond t (suspected b (record { last = x.last; size = x.size })) b)) (sym (suspicious_same least x z b k)) (go (is_suspicious least z x))
  where
    go : (t : Bool) → Knows least (if t then record z { arrives = if nat_lt z.newest x.last then least else z.arrives; suspicious = x.size ∷ z.suspicious } else z) (cond t (suspected b (record { last = x.last; size = x.size })) b)
    go false = k
    go true = record {
      least_is = k.least_is;
      current = k.current;
      acked = ap (λ (n : ℕ). cond (ltb n x.last) b.least b.acked) k.number ∙ ap (λ (n : ℕ). cond (ltb z.newest x.last) n b.acked) k.least_is ∙ ap (λ (n : ℕ). cond (ltb z.newest x.last) least n) k.acked;
      number = k.number;
      kept = kept_more x.size b.kept z.suspicious k.kept;
    }

-- bursts, one after another
abbrev pub judged_all : List Burst → Bursts → Bursts
judged_all [] b = b
judged_all (x ∷ xs) b = judged_all xs (judged_as x b)

bursts_know : (least : ℕ) (xs : List Burst) (z : Sizing) (b : Bursts) → Knows least z b → Knows least (with_bursts least xs z) (judged_all xs b)
bursts_know least [] z b k = k
bursts_know least (x ∷ xs) z b k = bursts_know least xs (with_burst least x z) (judged_as x b) (burst_knows least x z b k)

-- ---- packets that are lost

-- one after another
abbrev pub lost_all : Table TrackedPacket → Bursts → Bursts
lost_all [] b = b
lost_all (p ∷ ps) b = lost_all ps (after_lost p.0 p.1.size b)

-- with a burst that may grow
abbrev growing : Burst → Bursts → Bursts
growing x b = record b { current = Some (record { last = x.last; size = x.size }) }

-- with none
abbrev shut : Bursts → Bursts
shut b = record b { current = None }

judged_shut : (x : Burst) (b : Bursts) → shut (judged_as x (shut b)) ≡ judged_as x (shut b)
judged_shut x b = go (of_end.is_suspicious (shut b) (record { last = x.last; size = x.size }))
  where
    go : (t : Bool) → shut (cond t (suspected (shut b) (record { last = x.last; size = x.size })) (shut b)) ≡ cond t (suspected (shut b) (record { last = x.last; size = x.size })) (shut b)
    go true = refl
    go false = refl

-- one that goes on with a burst is of it
abbrev grown : Burst → Sent → Burst
grown x s = record { first = x.first; last = s.number; size = min x.size (counted s) }

joins : (x : Burst) (s : Sent) (xs : List Burst) → s.number ≡ x.last + 1 → burst_before x (burst_before (burst_of s) xs) ≡ burst_before (grown x s) xs
joins x s [] next = ap (λ (t : Bool). if t then grown x s ∷ [] else x ∷ burst_of s ∷ []) (eq-eqb s.number (x.last + 1) next)
joins x s (y ∷ ys) next = go (y.first == s.number + 1)
  where
    least : (a b c : ℕ) → min a (min b c) ≡ min (min a b) c
    least a b c = omega arith

    here : (s.number == x.last + 1) ≡ true
    here = eq-eqb s.number (x.last + 1) next

    go : (t : Bool) → burst_before x (if t then record { first = s.number; last = y.last; size = min (counted s) y.size } ∷ ys else burst_of s ∷ y ∷ ys) ≡ (if t then record { first = x.first; last = y.last; size = min (min x.size (counted s)) y.size } ∷ ys else grown x s ∷ y ∷ ys)
    go true =
        ap (λ (t : Bool). if t then record { first = x.first; last = y.last; size = min x.size (min (counted s) y.size) } ∷ ys else x ∷ record { first = s.number; last = y.last; size = min (counted s) y.size } ∷ ys) here
        ∙ ap (λ (n : ℕ). record { first = x.first; last = y.last; size = n } ∷ ys) (least x.size (counted s) y.size)
    go false = ap (λ (t : Bool). if t then grown x s ∷ y ∷ ys else x ∷ burst_of s ∷ y ∷ ys) here

apart : (x : Burst) (s : Sent) (xs : List Burst) → (s.number == x.last + 1) ≡ false → burst_before x (burst_before (burst_of s) xs) ≡ x ∷ burst_before (burst_of s) xs
apart x s [] far = ap (λ (t : Bool). if t then grown x s ∷ [] else x ∷ burst_of s ∷ []) far
apart x s (y ∷ ys) far = go (y.first == s.number + 1)
  where
    go : (t : Bool) → burst_before x (if t then record { first = s.number; last = y.last; size = min (counted s) y.size } ∷ ys else burst_of s ∷ y ∷ ys) ≡ x ∷ (if t then record { first = s.number; last = y.last; size = min (counted s) y.size } ∷ ys else burst_of s ∷ y ∷ ys)
    go true = ap (λ (t : Bool). if t then record { first = x.first; last = y.last; size = min x.size (min (counted s) y.size) } ∷ ys else x ∷ record { first = s.number; last = y.last; size = min (counted s) y.size } ∷ ys) far
    go false = ap (λ (t : Bool). if t then grown x s ∷ y ∷ ys else x ∷ burst_of s ∷ y ∷ ys) far

-- packets that are lost behind a burst that may grow
grows_by : (x : Burst) (ss : List Sent) (ps : Table TrackedPacket) (b : Bursts) → AreWaited ss ps → ended (lost_all ps (growing x b)) ≡ judged_all (burst_before x (bursts_of ss)) (shut b)
grows_by x [] [] b w = refl
grows_by x (s ∷ ss) (p ∷ ps) b w =
    ap (λ (n : ℕ). ended (lost_all ps (after_lost n p.1.size (growing x b)))) w.0.number
    ∙ ap (λ (n : ℕ). ended (lost_all ps (after_lost s.number n (growing x b)))) w.0.size
    ∙ go (s.number == x.last + 1) refl (grows_by (grown x s) ss ps b w.1) (grows_by (burst_of s) ss ps (judged_as x (shut b)) w.1)
  where
    go : (t : Bool) → (s.number == x.last + 1) ≡ t → ended (lost_all ps (growing (grown x s) b)) ≡ judged_all (burst_before (grown x s) (bursts_of ss)) (shut b) → ended (lost_all ps (growing (burst_of s) (judged_as x (shut b)))) ≡ judged_all (burst_before (burst_of s) (bursts_of ss)) (shut (judged_as x (shut b)))
        → ended (lost_all ps (cond t (begun_at s.number (min x.size (counted s)) (growing x b)) (begun_at s.number (counted s) (ended (growing x b))))) ≡ judged_all (burst_before x (bursts_of (s ∷ ss))) (shut b)
    go true is goes_on begins = goes_on ∙ ap (λ (xs : List Burst). judged_all xs (shut b)) (sym (joins x s (bursts_of ss) (eqb-true s.number (x.last + 1) is)))
    go false is goes_on begins =
        begins
        ∙ ap (λ (c : Bursts). judged_all (burst_before (burst_of s) (bursts_of ss)) c) (judged_shut x b)
        ∙ ap (λ (xs : List Burst). judged_all xs (shut b)) (sym (apart x s (bursts_of ss) is))
grows_by x [] (p ∷ ps) b w = absurd w
grows_by x (s ∷ ss) [] b w = absurd w

-- packets that are lost where no burst may
lost_judged : (ss : List Sent) (ps : Table TrackedPacket) (b : Bursts) → AreWaited ss ps → b.current ≡ None → ended (lost_all ps b) ≡ judged_all (bursts_of ss) (shut b)
lost_judged [] [] b w none = ap (λ (o : Option of_end.Burst). of_end.judged_if o (shut b)) none
lost_judged (s ∷ ss) (p ∷ ps) b w none =
    ap (λ (o : Option of_end.Burst). ended (lost_all ps (lost_behind o p.0 p.1.size b))) none
    ∙ ap (λ (n : ℕ). ended (lost_all ps (begun_at n p.1.size b))) w.0.number
    ∙ ap (λ (n : ℕ). ended (lost_all ps (begun_at s.number n b))) w.0.size
    ∙ grows_by (burst_of s) ss ps b w.1
lost_judged [] (p ∷ ps) b w none = absurd w
lost_judged (s ∷ ss) [] b w none = absurd w

shut_same : (b : Bursts) → b.current ≡ None → shut b ≡ b
shut_same b none = ap (λ (o : Option of_end.Burst). record b { current = o }) (sym none)

-- both know the same once these bursts ended
pub lost_knows : (least : ℕ) (ss : List Sent) (ps : Table TrackedPacket) (z : Sizing) (b : Bursts) → AreWaited ss ps → Knows least z b → Knows least (with_bursts least (bursts_of ss) z) (ended (lost_all ps b))
lost_knows least ss ps z b w k =
    subst (λ (c : Bursts). Knows least (with_bursts least (bursts_of ss) z) c) (sym (lost_judged ss ps b w k.current ∙ ap (λ (c : Bursts). judged_all (bursts_of ss) c) (shut_same b k.current)))
    (bursts_know least (bursts_of ss) z b k)

-- ---- packets that are acknowledged

-- where few are suspicious
pub few_kept : (xs ys : List ℕ) → AreKept xs ys → length ys ≤ 3 → AreSame xs ys
few_kept xs ys (inl same) few = same.0
few_kept xs ys (inr many) few = (let more = many.1 in absurd (omega (arith, more, few)))

pub arrived_knows : (least : ℕ) (s : Sent) (z : Sizing) (b : Bursts) → length z.suspicious ≤ 3 → Knows least z b → Knows least (arrived s z) (after_acknowledged s.number (counted s) b) × (length (arrived s z).suspicious ≤ 3)
arrived_knows least s z b few k =
    subst (λ (n : ℕ). Knows least (arrived s z) (cond (ltb (counted s) n) b (cond (counted s == n) (record b { number = max b.number s.number }) (record b { acked = counted s; number = s.number; kept = kept_above (counted s) b.kept }))) × (length (arrived s z).suspicious ≤ 3)) (sym k.acked)
    (go (nat_lt (counted s) z.arrives) (counted s == z.arrives))
  where
    fewer : AreSame (kept_above (counted s) b.kept) (filter (λ n. nat_lt (counted s) n) z.suspicious) × (length (filter (λ n. nat_lt (counted s) n) z.suspicious) ≤ 3)
    fewer = above_same (counted s) b.kept z.suspicious (few_kept b.kept z.suspicious k.kept few) few

    go : (t u : Bool) → (let y : Sizing = if t then z else (if u then record z { newest = max z.newest s.number } else record z { arrives = counted s; newest = s.number; suspicious = filter (λ n. nat_lt (counted s) n) z.suspicious }) in Knows least y (cond t b (cond u (record b { number = max b.number s.number }) (record b { acked = counted s; number = s.number; kept = kept_above (counted s) b.kept }))) × (length y.suspicious ≤ 3))
    go true u = (k, few)
    go false true = (record { least_is = k.least_is; current = k.current; acked = k.acked; number = ap (λ (n : ℕ). max n s.number) k.number; kept = k.kept }, few)
    go false false = (record { least_is = k.least_is; current = k.current; acked = refl; number = refl; kept = inl fewer }, fewer.1)
