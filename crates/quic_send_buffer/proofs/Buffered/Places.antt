-- Where offsets are after each call.
use Rattle.std.proofs.Common.{◌≡◌, ℕ, ◌+◌, ◌-◌, ◌≤◌, ◌<◌, ◌⊎◌, Bool, true, false, cond, ltb, leb, not, ◌&&◌, ◌||◌, min, max, List, [], ◌∷◌, ◌++◌, length, drop, refl, sym, ap, inl, inr, arith, ◌∙◌}
use Rattle.std.specs.List.{slice_get}
use Rattle.std.proofs.lemmas.Bool.{cases_lt, cases_Bool, lt-ltb, le-ltb, le-leb, lt-leb, leb-true, ltb-true, ltb-false, eqb-true, eq-eqb, or_parts, and_parts, and_from, or_cases, or_left, or_right, or_from, not_from_false, not-true, false_from_ne_true, both_ways}
use Rattle.std.proofs.lemmas.List.{drop_at}
use Rattle.quic_sets.specs.Runs.{Run, Has, AreRuns}
use Rattle.quic_sets.specs.Parts.{byte_from}
use Rattle.quic_sets.specs.Offsets.{is_within, has, has_any, first_or, with_offsets, without_offsets, with_all, lacking}
use Rattle.quic_send_buffer.specs.Buffered.{Buffered, IsBuffered, AreSamePlaces, ReachPast, bytes_in, written, first_unacknowledged, is_fully_acked, has_unsent, after_write, places, kept_byte, done, acknowledged, is_acknowledged, is_lost, is_unsent, is_in_flight, after_ack, after_loss, next_start, sent_end, after_poll}
use Rattle.quic_sets.proofs.Parts.Bytes.{get-drop, from_above}
use Rattle.quic_sets.proofs.Offsets.Edits.{within_from, within_is, has_from, has_is, has_not, lacks, with_is, without_is, lost_is, first_is_least, below_first, first_lacks}
use Rattle.quic_send_buffer.proofs.Buffered.Calls.{ack_lawful, ack_written, first_within, kept_from, sent_within}

-- ---- tests

-- two tests that hold together are the same
same_test : (x y : Bool) → (x ≡ true → y ≡ true) → (y ≡ true → x ≡ true) → x ≡ y
same_test true y to back = sym (to refl)
same_test false true to back = back refl
same_test false false to back = refl

within_not : (a z o : ℕ) → is_within a z o ≡ false → a ≤ o → z ≤ o
within_not a z o out le = elim (cases_lt o z) [ inl lt ↦ absurd (both_ways (is_within a z o) out (within_from a z o le lt)) | inr ge ↦ ge ]

within_min : (a z u o : ℕ) → is_within a (min z u) o ≡ (is_within a z o && ltb o u)
within_min a z u o = same_test (is_within a (min z u) o) (is_within a z o && ltb o u)
    (λ h. let p = within_is a (min z u) o h in and_from (is_within a z o) (ltb o u) (within_from a z o p.0 (omega (arith, p.1))) (lt-ltb o u (omega (arith, p.1))))
    (λ h. let p = and_parts (is_within a z o) (ltb o u) h in let w = within_is a z o p.0 in let lt = ltb-true o u p.1 in within_from a (min z u) o w.0 (omega (arith, w.1, lt)))

and_true : (x : Bool) → (x && true) ≡ x
and_true true = refl
and_true false = refl

-- ---- what sets have

has_with : (a z : ℕ) (rs : List Run) (o : ℕ) → AreRuns rs → has (with_offsets a z rs) o ≡ (has rs o || is_within a z o)
has_with a z rs o runs = same_test (has (with_offsets a z rs) o) (has rs o || is_within a z o)
    (λ h. elim ((with_is a z rs runs o).0 (has_is (with_offsets a z rs) o h)) [
      | inl x ↦ or_left (has rs o) (is_within a z o) (has_from rs o x)
      | inr x ↦ or_right (has rs o) (is_within a z o) (within_from a z o x.0 x.1)
    ])
    (λ h. has_from (with_offsets a z rs) o ((with_is a z rs runs o).1 (elim (or_cases (has rs o) (is_within a z o) h) [
      | inl x ↦ inl (has_is rs o x)
      | inr x ↦ inr (within_is a z o x)
    ])))

pub has_without : (a z : ℕ) (rs : List Run) (o : ℕ) → has (without_offsets a z rs) o ≡ (has rs o && not (is_within a z o))
has_without a z rs o = same_test (has (without_offsets a z rs) o) (has rs o && not (is_within a z o))
    (λ h. let p = (without_is a z rs o).0 (has_is (without_offsets a z rs) o h) in
    and_from (has rs o) (not (is_within a z o)) (has_from rs o p.0) (not_from_false (is_within a z o) (false_from_ne_true (is_within a z o) (λ w. p.1 (within_is a z o w)))))
    (λ h. let p = and_parts (has rs o) (not (is_within a z o)) h in
    has_from (without_offsets a z rs) o ((without_is a z rs o).1 (has_is rs o p.0, λ w. both_ways (is_within a z o) (not-true (is_within a z o) p.1) (within_from a z o w.0 w.1))))

has_lost : (a z : ℕ) (old others : List Run) (o : ℕ) → AreRuns old → has (with_all (lacking a z others) old) o ≡ (has old o || (is_within a z o && not (has others o)))
has_lost a z old others o runs = same_test (has (with_all (lacking a z others) old) o) (has old o || (is_within a z o && not (has others o)))
    (λ h. elim ((lost_is a z old others runs o).0 (has_is (with_all (lacking a z others) old) o h)) [
      | inl x ↦ or_left (has old o) (is_within a z o && not (has others o)) (has_from old o x)
      | inr x ↦ or_right (has old o) (is_within a z o && not (has others o)) (and_from (is_within a z o) (not (has others o)) (within_from a z o x.0 x.1) (not_from_false (has others o) (has_not others o x.2)))
    ])
    (λ h. has_from (with_all (lacking a z others) old) o ((lost_is a z old others runs o).1 (elim (or_cases (has old o) (is_within a z o && not (has others o)) h) [
      | inl x ↦ inl (has_is old o x)
      | inr x ↦ (let p = and_parts (is_within a z o) (not (has others o)) x in let w = within_is a z o p.0 in inr (w.0, w.1, lacks others o (not-true (has others o) p.1)))
    ])))

-- ---- one place each

count_places : (acked lost : Bool) (o u w : ℕ) → u ≤ w → (acked ≡ true → o < u) → (lost ≡ true → o < u) → (acked ≡ true → lost ≡ true → ⊥)
    → cond acked 1 0 + cond lost 1 0 + cond (leb u o && ltb o w) 1 0 + cond (ltb o u && not (acked || lost)) 1 0 ≡ cond (ltb o w) 1 0
count_places true true o u w le a l apart = absurd (apart refl refl)
count_places true false o u w le a l apart = let lt = a refl in rw (lt-leb u o lt, lt-ltb o u lt, lt-ltb o w (omega (arith, lt, le))) refl
count_places false true o u w le a l apart = let lt = l refl in rw (lt-leb u o lt, lt-ltb o u lt, lt-ltb o w (omega (arith, lt, le))) refl
count_places false false o u w le a l apart = elim (cases_lt o u) [
  | inl lt ↦ rw (lt-leb u o lt, lt-ltb o u lt, lt-ltb o w (omega (arith, lt, le))) refl
  | inr ge ↦ rw (le-leb u o ge, le-ltb o u ge) (omega arith)
]

pub in_one_place : (b : Buffered) (o : ℕ) → IsBuffered b → places b o ≡ cond (ltb o (written b)) 1 0
in_one_place b o h = count_places (has b.acked o) (has b.lost o) o b.unsent (written b) h.bounded (λ a. h.acked_sent o (has_is b.acked o a)) (λ l. h.lost_sent o (has_is b.lost o l)) (λ a l. h.apart o (has_is b.acked o a) (has_is b.lost o l))

-- ---- acknowledged

pub ack_acknowledged : (b : Buffered) (a z o : ℕ) → IsBuffered b → is_acknowledged (after_ack b a z) o ≡ (is_acknowledged b o || (is_within a z o && ltb o b.unsent))
ack_acknowledged b a z o h = has_with a (min z b.unsent) b.acked o h.acked ∙ ap (λ x. has b.acked o || x) (within_min a z b.unsent o)

pub ack_stays : (b : Buffered) (a z o : ℕ) → IsBuffered b → is_acknowledged b o ≡ true → is_acknowledged (after_ack b a z) o ≡ true
ack_stays b a z o h e = ack_acknowledged b a z o h ∙ or_left (is_acknowledged b o) (is_within a z o && ltb o b.unsent) e

-- what is lost was sent
unlost : (lost within sent : Bool) → (lost ≡ true → sent ≡ true) → (lost && not (within && sent)) ≡ (lost && not within)
unlost false within sent h = refl
unlost true within sent h = ap (λ x. not (within && x)) (h refl) ∙ ap not (and_true within)

pub ack_lost : (b : Buffered) (a z o : ℕ) → IsBuffered b → is_lost (after_ack b a z) o ≡ (is_lost b o && not (is_within a z o))
ack_lost b a z o h =
    has_without a (min z b.unsent) b.lost o
    ∙ ap (λ x. has b.lost o && not x) (within_min a z b.unsent o)
    ∙ unlost (has b.lost o) (is_within a z o) (ltb o b.unsent) (λ l. lt-ltb o b.unsent (h.lost_sent o (has_is b.lost o l)))

pub ack_unsent : (b : Buffered) (a z o : ℕ) → IsBuffered b → is_unsent (after_ack b a z) o ≡ is_unsent b o
ack_unsent b a z o h = ap (λ w. leb b.unsent o && ltb o w) (ack_written b a z h)

landed : (sent acked lost within : Bool) → (sent && not ((acked || (within && sent)) || (lost && not within))) ≡ ((sent && not (acked || lost)) && not within)
landed false acked lost within = refl
landed true true lost within = refl
landed true false true true = refl
landed true false true false = refl
landed true false false true = refl
landed true false false false = refl

pub ack_in_flight : (b : Buffered) (a z o : ℕ) → IsBuffered b → is_in_flight (after_ack b a z) o ≡ (is_in_flight b o && not (is_within a z o))
ack_in_flight b a z o h =
    ap (λ x. ltb o b.unsent && not (x || is_lost (after_ack b a z) o)) (ack_acknowledged b a z o h)
    ∙ ap (λ x. ltb o b.unsent && not ((is_acknowledged b o || (is_within a z o && ltb o b.unsent)) || x)) (ack_lost b a z o h)
    ∙ landed (ltb o b.unsent) (is_acknowledged b o) (is_lost b o) (is_within a z o)

-- ---- lost

fell : (sent acked lost within : Bool) → (lost || ((within && sent) && not acked)) ≡ (lost || (within && (sent && not (acked || lost))))
fell sent acked true within = refl
fell sent acked false false = refl
fell false acked false true = refl
fell true true false true = refl
fell true false false true = refl

pub loss_has : (b : Buffered) (a z o : ℕ) → IsBuffered b → is_lost (after_loss b a z) o ≡ (is_lost b o || ((is_within a z o && ltb o b.unsent) && not (is_acknowledged b o)))
loss_has b a z o h = has_lost a (min z b.unsent) b.lost b.acked o h.lost ∙ ap (λ x. has b.lost o || (x && not (has b.acked o))) (within_min a z b.unsent o)

pub loss_lost : (b : Buffered) (a z o : ℕ) → IsBuffered b → is_lost (after_loss b a z) o ≡ (is_lost b o || (is_within a z o && is_in_flight b o))
loss_lost b a z o h = loss_has b a z o h ∙ fell (ltb o b.unsent) (is_acknowledged b o) (is_lost b o) (is_within a z o)

fallen : (sent acked lost within : Bool) → (sent && not (acked || (lost || ((within && sent) && not acked)))) ≡ ((sent && not (acked || lost)) && not within)
fallen false acked lost within = refl
fallen true true lost within = refl
fallen true false true within = refl
fallen true false false true = refl
fallen true false false false = refl

pub loss_in_flight : (b : Buffered) (a z o : ℕ) → IsBuffered b → is_in_flight (after_loss b a z) o ≡ (is_in_flight b o && not (is_within a z o))
loss_in_flight b a z o h =
    ap (λ x. ltb o b.unsent && not (is_acknowledged b o || x)) (loss_has b a z o h)
    ∙ fallen (ltb o b.unsent) (is_acknowledged b o) (is_lost b o) (is_within a z o)

-- ---- sent

-- an offset of what goes next is one of the first run, or of the other range
in_first : (rs : List Run) (other : Run) (o : ℕ) → (first_or rs other).start ≤ o → o < (first_or rs other).end → Has rs o ⊎ ((other.start ≤ o) × (o < other.end))
in_first [] other o le lt = inr (le, lt)
in_first (r ∷ rs) other o le lt = inl (inl (le, lt))

in_first_run : (rs : List Run) (other : Run) (o k : ℕ) → Has rs k → (first_or rs other).start ≤ o → o < (first_or rs other).end → Has rs o
in_first_run [] other o k h le lt = absurd h
in_first_run (r ∷ rs) other o k h le lt = inl (le, lt)

first_at : (rs : List Run) (other : Run) (m : ℕ) → AreRuns rs → ((o : ℕ) → Has rs o → o < m) → ((first_or rs other).end ≤ m) ⊎ ((first_or rs other).start ≡ other.start)
first_at [] other m runs below = inr refl
first_at (r ∷ rs) other m runs below = inl (let last = below (r.end - 1) (inl (omega (arith, runs.1), omega (arith, runs.1))) in omega (arith, last))

abbrev rest : Buffered → Run
rest b = record { start = b.unsent; end = written b }

went : (b : Buffered) (most o : ℕ) → IsBuffered b → is_within (next_start b) (sent_end b most) o ≡ true → Has b.lost o ⊎ ((b.unsent ≤ o) × (o < written b))
went b most o h w =
    let p = within_is (next_start b) (sent_end b most) o w in
    let end = sent_within b most h in
    in_first b.lost (rest b) o p.0 (omega (arith, p.1, end))

pub poll_waits : (b : Buffered) (most o : ℕ) → IsBuffered b → is_within (next_start b) (sent_end b most) o ≡ true → (is_lost b o || is_unsent b o) ≡ true
poll_waits b most o h w = elim (went b most o h w) [
  | inl x ↦ or_left (is_lost b o) (is_unsent b o) (has_from b.lost o x)
  | inr x ↦ or_right (is_lost b o) (is_unsent b o) (and_from (leb b.unsent o) (ltb o (written b)) (le-leb b.unsent o x.0) (lt-ltb o (written b) x.1))
]

pub poll_written : (b : Buffered) (most o : ℕ) → IsBuffered b → is_within (next_start b) (sent_end b most) o ≡ true → o < written b
poll_written b most o h w = elim (went b most o h w) [
  | inl x ↦ (let lt = h.lost_sent o x in omega (arith, lt, h.bounded))
  | inr x ↦ x.1
]

pub poll_unacknowledged : (b : Buffered) (most o : ℕ) → IsBuffered b → is_within (next_start b) (sent_end b most) o ≡ true → is_acknowledged b o ≡ false
poll_unacknowledged b most o h w = has_not b.acked o (λ i. elim (went b most o h w) [
  | inl x ↦ h.apart o i x
  | inr x ↦ (let lt = h.acked_sent o i in omega (arith, lt, x.0))
])

pub poll_flies : (b : Buffered) (most o : ℕ) → IsBuffered b → is_within (next_start b) (sent_end b most) o ≡ true → is_in_flight (after_poll b most) o ≡ true
poll_flies b most o h w =
    let p = within_is (next_start b) (sent_end b most) o w in
    let s = after_poll b most in
    let gone : is_lost s o ≡ false = has_not s.lost o (λ i. ((without_is (next_start b) (sent_end b most) b.lost o).0 i).1 p) in
    and_from (ltb o s.unsent) (not (is_acknowledged s o || is_lost s o)) (lt-ltb o s.unsent (omega (arith, p.1))) (not_from_false (is_acknowledged s o || is_lost s o) (or_from (is_acknowledged s o) (is_lost s o) (poll_unacknowledged b most o h w) gone))

-- an offset beside what goes is sent if it was
same_behind : (u s e o : ℕ) → (e ≤ u) ⊎ (s ≡ u) → is_within s e o ≡ false → u ≤ o → max u e ≤ o
same_behind u s e o either out le = elim either [
  | inl under ↦ omega (arith, under, le)
  | inr same ↦ (let ge = within_not s e o out (omega (arith, same, le)) in omega (arith, ge, le))
]

same_leb : (u s e o : ℕ) → (e ≤ u) ⊎ (s ≡ u) → is_within s e o ≡ false → leb (max u e) o ≡ leb u o
same_leb u s e o either out = same_test (leb (max u e) o) (leb u o)
    (λ h. let le = leb-true (max u e) o h in le-leb u o (omega (arith, le)))
    (λ h. le-leb (max u e) o (same_behind u s e o either out (leb-true u o h)))

pub same_ltb : (u s e o : ℕ) → (e ≤ u) ⊎ (s ≡ u) → is_within s e o ≡ false → ltb o (max u e) ≡ ltb o u
same_ltb u s e o either out = elim (cases_lt o u) [
  | inl lt ↦ lt-ltb o (max u e) (omega (arith, lt)) ∙ sym (lt-ltb o u lt)
  | inr ge ↦ le-ltb o (max u e) (same_behind u s e o either out ge) ∙ sym (le-ltb o u ge)
]

pub either_end : (b : Buffered) (most : ℕ) → IsBuffered b → (sent_end b most ≤ b.unsent) ⊎ (next_start b ≡ b.unsent)
either_end b most h = elim (first_at b.lost (rest b) b.unsent h.lost h.lost_sent) [
  | inl le ↦ (let end = sent_within b most h in inl (omega (arith, end, le)))
  | inr e ↦ inr e
]

pub poll_stays : (b : Buffered) (most o : ℕ) → IsBuffered b → is_within (next_start b) (sent_end b most) o ≡ false → AreSamePlaces (after_poll b most) b o
poll_stays b most o h out =
    let s = next_start b in
    let e = sent_end b most in
    let either = either_end b most h in
    let lost : is_lost (after_poll b most) o ≡ is_lost b o = has_without s e b.lost o ∙ ap (λ x. has b.lost o && not x) out ∙ and_true (has b.lost o) in
    record {
      acknowledged = refl;
      lost = lost;
      unsent = ap (λ x. x && ltb o (written b)) (same_leb b.unsent s e o either out);
      in_flight = ap (λ x. x && not (is_acknowledged b o || is_lost (after_poll b most) o)) (same_ltb b.unsent s e o either out) ∙ ap (λ x. ltb o b.unsent && not (is_acknowledged b o || x)) lost;
    }

pub poll_lost_first : (b : Buffered) (most o k : ℕ) → IsBuffered b → is_lost b k ≡ true → is_within (next_start b) (sent_end b most) o ≡ true → is_lost b o ≡ true
poll_lost_first b most o k h l w =
    let p = within_is (next_start b) (sent_end b most) o w in
    let end = sent_within b most h in
    has_from b.lost o (in_first_run b.lost (rest b) o k (has_is b.lost k l) p.0 (omega (arith, p.1, end)))

pub poll_least_first : (b : Buffered) (k : ℕ) → IsBuffered b → is_lost b k ≡ true → next_start b ≤ k
poll_least_first b k h l = first_is_least b.lost (rest b) k h.lost (has_is b.lost k l)

-- ---- the bytes

from_dropped : (at n : ℕ) (bs : List ℕ) (o : ℕ) → at + n ≤ o → byte_from (at + n) (drop n bs) o ≡ byte_from at bs o
from_dropped at n bs o le =
    let same : n + (o - (at + n)) ≡ o - at = omega (arith, le) in
    from_above (at + n) (drop n bs) o le ∙ get-drop n (o - (at + n)) bs ∙ ap (slice_get bs) same ∙ sym (from_above at bs o (omega (arith, le)))

pub ack_byte : (b : Buffered) (a z o : ℕ) → IsBuffered b → is_acknowledged (after_ack b a z) o ≡ false → kept_byte (after_ack b a z) o ≡ kept_byte b o
ack_byte b a z o h e =
    let s = after_ack b a z in
    from_dropped b.base (done (acknowledged b a z)) b.kept o (kept_from s o (ack_lawful b a z h) (lacks s.acked o e))

pub behind_get : (xs ys : List ℕ) (i j : ℕ) → i ≡ length xs + j → slice_get (xs ++ ys) i ≡ slice_get ys j
behind_get xs ys i j e = ap (slice_get (xs ++ ys)) e ∙ sym (get-drop (length xs) j (xs ++ ys)) ∙ ap (λ (zs : List ℕ). slice_get zs j) (drop_at xs ys (length xs) refl)

pub write_byte : (b : Buffered) (bytes : List ℕ) (o : ℕ) → written b ≤ o → kept_byte (after_write b bytes) o ≡ byte_from (written b) bytes o
write_byte b bytes o le =
    from_above b.base (b.kept ++ bytes) o (omega (arith, le))
    ∙ behind_get b.kept bytes (o - b.base) (o - written b) (omega (arith, le))
    ∙ sym (from_above (written b) bytes o le)

-- ---- all is acknowledged

pub each_acknowledged : (b : Buffered) (o : ℕ) → IsBuffered b → is_fully_acked b ≡ true → o < written b → is_acknowledged b o ≡ true
each_acknowledged b o h e lt =
    let all = eqb-true (first_unacknowledged b) (written b) e in
    has_from b.acked o (below_first b.acked o h.acked (omega (arith, all, lt)))

pub all_acknowledged : (b : Buffered) → IsBuffered b → ((o : ℕ) → o < written b → is_acknowledged b o ≡ true) → is_fully_acked b ≡ true
all_acknowledged b h each =
    let first = first_within b h in
    eq-eqb (first_unacknowledged b) (written b) (elim (cases_lt (first_unacknowledged b) (written b)) [
      | inl lt ↦ absurd (first_lacks b.acked h.acked (has_is b.acked (first_unacknowledged b) (each (first_unacknowledged b) lt)))
      | inr ge ↦ omega (arith, ge, first, h.bounded)
    ])

no_pieces : (room : ℕ) (ns : List ℕ) → ReachPast room ns → bytes_in ns ≤ room → bytes_in ns ≡ 0
no_pieces room [] h le = refl
no_pieces room (n ∷ ns) h le = absurd (omega (arith, h, le))

no_bytes : (bs : List ℕ) → length bs ≡ 0 → bs ≡ []
no_bytes [] e = refl
no_bytes (b ∷ bs) e = absurd (omega (arith, e))

pub none_kept : (b : Buffered) → IsBuffered b → is_fully_acked b ≡ true → b.kept ≡ []
none_kept b h e =
    let all = eqb-true (first_unacknowledged b) (written b) e in
    let gone = no_pieces (first_unacknowledged b - b.base) b.pieces h.needed (omega (arith, all, h.whole)) in
    no_bytes b.kept (omega (arith, gone, h.whole))

-- ---- something is to be sent

any_first : (rs : List Run) (other : Run) → AreRuns rs → has_any rs ≡ true → Has rs (first_or rs other).start
any_first [] other runs e = absurd (both_ways false refl e)
any_first (r ∷ rs) other runs e = inl (omega arith, runs.1)

first_of_none : (rs : List Run) (other : Run) → has_any rs ≡ false → (first_or rs other).start ≡ other.start
first_of_none [] other e = refl
first_of_none (r ∷ rs) other e = absurd (both_ways true e refl)

none_has : (rs : List Run) (o : ℕ) → has_any rs ≡ false → has rs o ≡ false
none_has [] o e = refl
none_has (r ∷ rs) o e = absurd (both_ways true e refl)

pub some_waits : (b : Buffered) → IsBuffered b → has_unsent b ≡ true → (is_lost b (next_start b) || is_unsent b (next_start b)) ≡ true
some_waits b h e = elim (cases_Bool (has_any b.lost)) [
  | inl any ↦ or_left (is_lost b (next_start b)) (is_unsent b (next_start b)) (has_from b.lost (next_start b) (any_first b.lost (rest b) h.lost any))
  | inr lacks_any ↦ (let start = first_of_none b.lost (rest b) lacks_any in elim (or_cases (has_any b.lost) (ltb b.unsent (written b)) e) [
    | inl any ↦ absurd (both_ways (has_any b.lost) lacks_any any)
    | inr more ↦ (let lt = ltb-true b.unsent (written b) more in
        or_right (is_lost b (next_start b)) (is_unsent b (next_start b)) (and_from (leb b.unsent (next_start b)) (ltb (next_start b) (written b)) (le-leb b.unsent (next_start b) (omega (arith, start))) (lt-ltb (next_start b) (written b) (omega (arith, start, lt)))))
  ])
]

pub none_waits : (b : Buffered) (o : ℕ) → has_unsent b ≡ false → (is_lost b o || is_unsent b o) ≡ false
none_waits b o e =
    let p = or_parts (has_any b.lost) (ltb b.unsent (written b)) e in
    let ge = ltb-false b.unsent (written b) p.1 in
    or_from (is_lost b o) (is_unsent b o) (none_has b.lost o p.0) (false_from_ne_true (is_unsent b o) (λ w.
    let q = and_parts (leb b.unsent o) (ltb o (written b)) w in
    let le = leb-true b.unsent o q.0 in
    let lt = ltb-true o (written b) q.1 in
    omega (arith, ge, le, lt)))
