-- Where the calls of a send buffer leave offsets, one after another, and what goes out.
use Rattle.std.proofs.Common.{◌≡◌, ℕ, zero, suc, ◌+◌, ◌-◌, ◌^◌, ◌<◌, Bool, true, false, cond, ltb, leb, not, ◌&&◌, ◌||◌, max, List, [], ◌∷◌, ◌++◌, length, length-append, refl, sym, ap, inl, inr, arith, ◌∙◌}
use Rattle.std.specs.List.{slice_get}
use Rattle.std.proofs.lemmas.Bool.{cases_lt, lt-ltb, le-ltb, le-leb, lt-leb, or_left, or_parts, both_ways, false_from_ne_true}
use Rattle.quic_sets.specs.Parts.{byte_from}
use Rattle.quic_sets.specs.Offsets.{is_within}
use Rattle.quic_send_buffer.specs.Buffered.{Buffered, IsBuffered, written, places, kept_byte, is_acknowledged, is_lost, is_unsent, after_poll, next_start, sent_end}
use Rattle.quic_send_buffer.specs.BufferedHistory.{Call, wrote, acked, lost, polled, buffered_after, written_over, goes, was_sent, was_acked, was_lost}
use Rattle.quic_sets.proofs.Parts.Bytes.{from_below, from_above, from_behind}
use Rattle.quic_send_buffer.proofs.Buffered.Calls.{write_lawful, ack_lawful, ack_written, loss_lawful, poll_lawful}
use Rattle.quic_sets.proofs.Offsets.Edits.{within_is}
use Rattle.quic_send_buffer.proofs.Buffered.Places.{in_one_place, ack_acknowledged, ack_lost, ack_byte, loss_has, has_without, poll_written, poll_unacknowledged, same_ltb, either_end, write_byte, behind_get}

abbrev pub Fits : List Call → Type 0
Fits calls = length (written_over calls) < 2 ^ 62

pub fewer : (calls : List Call) (bytes : List ℕ) → Fits (wrote bytes ∷ calls) → Fits calls
fewer calls bytes s = let l = length-append (written_over calls) bytes in omega arith

-- ---- lawful, and how much was written
pub written_is : (calls : List Call) → Fits calls → IsBuffered (buffered_after calls) × (written (buffered_after calls) ≡ length (written_over calls))
written_is [] s = (
  record {
    acked = tt;
    lost = tt;
    apart = λ o a l. a;
    acked_sent = λ o a. absurd a;
    lost_sent = λ o l. absurd l;
    filled = tt;
    whole = refl;
    begun = omega arith;
    needed = tt;
    sent = omega arith;
    bounded = omega arith;
    small = omega arith;
  },
  refl,
)
written_is (wrote bytes ∷ calls) s =
    let b = buffered_after calls in
    let ih = written_is calls (fewer calls bytes s) in
    let l = length-append (written_over calls) bytes in
    let w = ih.1 in
    let m = length-append b.kept bytes in
    (write_lawful b bytes ih.0 (omega arith), omega arith)
written_is (acked a z ∷ calls) s =
    let b = buffered_after calls in
    let ih = written_is calls s in
    (ack_lawful b a z ih.0, ack_written b a z ih.0 ∙ ih.1)
written_is (lost a z ∷ calls) s = let ih = written_is calls s in (loss_lawful (buffered_after calls) a z ih.0, ih.1)
written_is (polled most ∷ calls) s = let ih = written_is calls s in (poll_lawful (buffered_after calls) most ih.0, ih.1)

pub lawful : (calls : List Call) → Fits calls → IsBuffered (buffered_after calls)
lawful calls s = (written_is calls s).0

pub all_written : (calls : List Call) → Fits calls → written (buffered_after calls) ≡ length (written_over calls)
all_written calls s = (written_is calls s).1

pub one_place : (calls : List Call) (o : ℕ) → Fits calls → places (buffered_after calls) o ≡ cond (ltb o (length (written_over calls))) 1 0
one_place calls o s = in_one_place (buffered_after calls) o (lawful calls s) ∙ ap (λ n. cond {A = ℕ} (ltb o n) 1 0) (all_written calls s)

-- ---- which were sent
sent_more : (b : Buffered) (most o : ℕ) → IsBuffered b → ltb o (after_poll b most).unsent ≡ (is_within (next_start b) (sent_end b most) o || ltb o b.unsent)
sent_more b most o h = go (is_within (next_start b) (sent_end b most) o) refl
  where
    go : (c : Bool) → is_within (next_start b) (sent_end b most) o ≡ c → ltb o (max b.unsent (sent_end b most)) ≡ (c || ltb o b.unsent)
    go true q = let p = within_is (next_start b) (sent_end b most) o q in lt-ltb o (max b.unsent (sent_end b most)) (omega (arith, p.1))
    go false q = same_ltb b.unsent (next_start b) (sent_end b most) o (either_end b most h) q

pub sent_is : (calls : List Call) (o : ℕ) → Fits calls → ltb o (buffered_after calls).unsent ≡ was_sent calls o
sent_is [] o s = le-ltb o 0 (omega arith)
sent_is (wrote bytes ∷ calls) o s = sent_is calls o (fewer calls bytes s)
sent_is (acked a z ∷ calls) o s = sent_is calls o s
sent_is (lost a z ∷ calls) o s = sent_is calls o s
sent_is (polled most ∷ calls) o s = sent_more (buffered_after calls) most o (lawful calls s) ∙ ap (λ x. goes calls most o || x) (sent_is calls o s)

turned : (u o : ℕ) → leb u o ≡ not (ltb o u)
turned u o = elim (cases_lt o u) [
  | inl lt ↦ rw (lt-leb u o lt, lt-ltb o u lt) refl
  | inr ge ↦ rw (le-leb u o ge, le-ltb o u ge) refl
]

and_swap : (x y : Bool) → (x && y) ≡ (y && x)
and_swap true true = refl
and_swap true false = refl
and_swap false true = refl
and_swap false false = refl

pub unsent_is : (calls : List Call) (o : ℕ) → Fits calls → is_unsent (buffered_after calls) o ≡ (ltb o (length (written_over calls)) && not (was_sent calls o))
unsent_is calls o s =
    let b = buffered_after calls in
    ap (λ x. x && ltb o (written b)) (turned b.unsent o ∙ ap not (sent_is calls o s))
    ∙ ap (λ n. not (was_sent calls o) && ltb o n) (all_written calls s)
    ∙ and_swap (not (was_sent calls o)) (ltb o (length (written_over calls)))

-- ---- which are acknowledged, and which lost
pub acked_is : (calls : List Call) (o : ℕ) → Fits calls → is_acknowledged (buffered_after calls) o ≡ was_acked calls o
acked_is [] o s = refl
acked_is (wrote bytes ∷ calls) o s = acked_is calls o (fewer calls bytes s)
acked_is (acked a z ∷ calls) o s =
    let b = buffered_after calls in
    ack_acknowledged b a z o (lawful calls s)
    ∙ ap (λ x. x || (is_within a z o && ltb o b.unsent)) (acked_is calls o s)
    ∙ ap (λ x. was_acked calls o || (is_within a z o && x)) (sent_is calls o s)
acked_is (lost a z ∷ calls) o s = acked_is calls o s
acked_is (polled most ∷ calls) o s = acked_is calls o s

pub lost_is : (calls : List Call) (o : ℕ) → Fits calls → is_lost (buffered_after calls) o ≡ was_lost calls o
lost_is [] o s = refl
lost_is (wrote bytes ∷ calls) o s = lost_is calls o (fewer calls bytes s)
lost_is (acked a z ∷ calls) o s = ack_lost (buffered_after calls) a z o (lawful calls s) ∙ ap (λ x. x && not (is_within a z o)) (lost_is calls o s)
lost_is (lost a z ∷ calls) o s =
    let b = buffered_after calls in
    loss_has b a z o (lawful calls s)
    ∙ ap (λ x. x || ((is_within a z o && ltb o b.unsent) && not (is_acknowledged b o))) (lost_is calls o s)
    ∙ ap (λ x. was_lost calls o || ((is_within a z o && x) && not (is_acknowledged b o))) (sent_is calls o s)
    ∙ ap (λ x. was_lost calls o || ((is_within a z o && was_sent calls o) && not x)) (acked_is calls o s)
lost_is (polled most ∷ calls) o s =
    let b = buffered_after calls in
    has_without (next_start b) (sent_end b most) b.lost o ∙ ap (λ x. x && not (goes calls most o)) (lost_is calls o s)

-- ---- what goes out
pub goes_written : (calls : List Call) (most o : ℕ) → Fits calls → goes calls most o ≡ true → o < length (written_over calls)
goes_written calls most o s e =
    let lt = poll_written (buffered_after calls) most o (lawful calls s) e in
    let w = all_written calls s in
    omega arith

front_get : (xs ys : List ℕ) (i : ℕ) → i < length xs → slice_get xs i ≡ slice_get (xs ++ ys) i
front_get [] ys i l = absurd (omega (arith, l))
front_get (x ∷ xs) ys zero l = refl
front_get (x ∷ xs) ys (suc i) l = front_get xs ys i (omega (arith, l))

front_byte : (at : ℕ) (bs ys : List ℕ) (o : ℕ) → o < at + length bs → byte_from at bs o ≡ byte_from at (bs ++ ys) o
front_byte at bs ys o l = elim (cases_lt o at) [
  | inl lt ↦ from_below at bs o lt ∙ sym (from_below at (bs ++ ys) o lt)
  | inr ge ↦ from_above at bs o ge ∙ front_get bs ys (o - at) (omega (arith, ge, l)) ∙ sym (from_above at (bs ++ ys) o ge)
]

pub kept_is : (calls : List Call) (o : ℕ) → Fits calls → was_acked calls o ≡ false → kept_byte (buffered_after calls) o ≡ slice_get (written_over calls) o
kept_is [] o s e = from_behind 0 [] o (omega arith)
kept_is (wrote bytes ∷ calls) o s e =
    let b = buffered_after calls in
    let w = all_written calls (fewer calls bytes s) in
    elim (cases_lt o (length (written_over calls))) [
      | inl lt ↦ sym (front_byte b.base b.kept bytes o (omega (arith, w, lt))) ∙ kept_is calls o (fewer calls bytes s) e ∙ front_get (written_over calls) bytes o lt
      | inr ge ↦ (let at : o ≡ length (written_over calls) + (o - written b) = omega (arith, w, ge) in
          write_byte b bytes o (omega (arith, w, ge)) ∙ from_above (written b) bytes o (omega (arith, w, ge)) ∙ sym (behind_get (written_over calls) bytes o (o - written b) at))
    ]
kept_is (acked a z ∷ calls) o s e =
    let b = buffered_after calls in
    let p = or_parts (was_acked calls o) (is_within a z o && was_sent calls o) e in
    ack_byte b a z o (lawful calls s) (acked_is (acked a z ∷ calls) o s ∙ e) ∙ kept_is calls o s p.0
kept_is (lost a z ∷ calls) o s e = kept_is calls o s e
kept_is (polled most ∷ calls) o s e = kept_is calls o s e

goes_unacked : (calls : List Call) (most o : ℕ) → Fits calls → goes calls most o ≡ true → was_acked calls o ≡ false
goes_unacked calls most o s e = sym (acked_is calls o s) ∙ poll_unacknowledged (buffered_after calls) most o (lawful calls s) e

pub goes_kept : (calls : List Call) (most o : ℕ) → Fits calls → goes calls most o ≡ true → kept_byte (buffered_after calls) o ≡ slice_get (written_over calls) o
goes_kept calls most o s e = kept_is calls o s (goes_unacked calls most o s e)

-- ---- what is acknowledged stays so
pub acked_goes_not : (calls : List Call) (most o : ℕ) → Fits calls → was_acked calls o ≡ true → goes calls most o ≡ false
acked_goes_not calls most o s e = false_from_ne_true (goes calls most o) (λ g. both_ways (was_acked calls o) (goes_unacked calls most o s g) e)

acked_stays : (later calls : List Call) (o : ℕ) → was_acked calls o ≡ true → was_acked (later ++ calls) o ≡ true
acked_stays [] calls o e = e
acked_stays (wrote bytes ∷ later) calls o e = acked_stays later calls o e
acked_stays (acked a z ∷ later) calls o e = or_left (was_acked (later ++ calls) o) (is_within a z o && was_sent (later ++ calls) o) (acked_stays later calls o e)
acked_stays (lost a z ∷ later) calls o e = acked_stays later calls o e
acked_stays (polled most ∷ later) calls o e = acked_stays later calls o e

pub acked_goes_never : (later calls : List Call) (most o : ℕ) → Fits (later ++ calls) → was_acked calls o ≡ true → goes (later ++ calls) most o ≡ false
acked_goes_never later calls most o s e = acked_goes_not (later ++ calls) most o s (acked_stays later calls o e)
