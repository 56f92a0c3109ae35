-- Counts of ECN that come are judged by the observer of an end as the end judges them (RFC 9000,
-- section 13.4.2.1), and leave both alike; and the controller is told of more CE where they show it
-- (RFC 9002, section 7.1).
use Rattle.std.proofs.Common.{◌≡◌, ◌⊎◌, ℕ, ◌+◌, ◌-◌, Bool, true, false, not, List, [], ◌∷◌, length, Option, Some, None, Result, Ok, Err, refl, sym, ap, ◌∙◌, subst, inl, inr, arith}
use Rattle.std.specs.Prelude.{◌==◌, ◌&&◌, ◌||◌, nat_le, nat_lt, if◌then◌else◌}
use Rattle.std.proofs.lemmas.Bool.{cases_lt, lt-ltb, le-ltb, le-leb, lt-leb, eq-eqb, ne_eqb, ltb-true}
use Rattle.quic_wire.specs.Value.{AckValue}
use Rattle.quic_congestion.specs.Congestion.{Congested}
use Rattle.quic_streams_parts.specs.Table.{Table}
use Rattle.quic_spaces.specs.Marks.{marks_refused, marks_judged}
use Rattle.quic_spaces.specs.declared.space.EcnError.{EcnError}
use Rattle.quic_spaces.specs.declared.space.EcnError.TheVariants as errors
use Rattle.quic_machine.specs.Tracking.{TrackedPacket, lost_by}
use Rattle.quic_machine.specs.End.{End}
use Rattle.quic_machine.specs.Control.{last_sent}
use Rattle.quic_machine.specs.Acked.{verdict, measured, sampled, without_acked, losses_detected, losses_taken, counts_judged, counts_answer, counts_taken, counts_seen, told_grown, told_seen, told_marks, after_named}
use Rattle.quic_machine.specs.FrameCases.{packets_lost_keep}
use Rattle.quic_headline.specs.Observer.{Sent, is_greatest}
use Rattle.quic_headline.specs.Telling.{told_if, last_moment}
use Rattle.quic_headline.specs.Marking.{Counts, Marking, are_right, marking_with, marking_of, grew_by, has_grown}
use Rattle.quic_headline.proofs.Packets.Searches.{losses_searched}
use Rattle.quic_headline.proofs.Packets.Waited.{AreWaited, waited_length}
use Rattle.quic_headline.proofs.Packets.Flying.{acked_keep, timed}
use Rattle.quic_headline.proofs.Tellings.Losses.{waited_last}

-- ---- counts

-- one test of two numbers is the other, turned round
pub le_turned : (m n : ℕ) → nat_le m n ≡ not (nat_lt n m)
le_turned m n = elim (cases_lt n m) [
  | inl less ↦ lt-leb m n less ∙ sym (ap not (lt-ltb n m less))
  | inr more ↦ le-leb m n more ∙ sym (ap not (le-ltb n m more))
]

-- two that are the same don't lie one below the other
eq_turned : (m n : ℕ) → (m == n) ≡ (not (nat_lt m n) && not (nat_lt n m))
eq_turned m n = elim (cases_lt m n) [
  | inl less ↦ ne_eqb m n (λ (is : m ≡ n). omega (arith, less)) ∙ sym (ap (λ (b : Bool). not b && not (nat_lt n m)) (lt-ltb m n less))
  | inr more ↦ elim (cases_lt n m) [
    | inl less ↦ ne_eqb m n (λ (is : m ≡ n). omega (arith, less)) ∙ sym (ap (λ (b : Bool). not b && not (nat_lt n m)) (le-ltb m n more) ∙ ap not (lt-ltb n m less))
    | inr also ↦ eq-eqb m n (omega (arith, more, also)) ∙ sym (ap (λ (b : Bool). not b && not (nat_lt n m)) (le-ltb m n more) ∙ ap not (le-ltb n m also))
  ]
]

-- Counts are right, and judging them answers whether that of CE grew; or they are wrong, and it
-- answers what is wrong.
abbrev pub Judges : Bool → ℕ → Counts → Counts → Type 0
Judges right newly last counts =
    ((right ≡ true) × (marks_judged (marks_refused newly last counts) last counts ≡ Ok (nat_lt last.2 counts.2)))
    ⊎ ((right ≡ false) × ((error : EcnError) × (marks_judged (marks_refused newly last counts) last counts ≡ Err error)))

pub judges : (newly : ℕ) (last counts : Counts) → Judges (are_right newly last counts) newly last counts
judges newly last counts = subst (λ (b : Bool). Judges b newly last counts) (sym right) (go (nat_lt counts.0 last.0) (nat_lt counts.1 last.1) (nat_lt counts.2 last.2) (nat_lt whole newly) (nat_lt part newly) (nat_lt last.1 counts.1) fewer)
  where
    whole : ℕ
    whole = (counts.0 - last.0) + (counts.1 - last.1) + (counts.2 - last.2)

    part : ℕ
    part = (counts.0 - last.0) + (counts.2 - last.2)

    -- so many marks of all kinds are no fewer than those of two
    fewer : nat_lt whole newly ≡ true → nat_lt part newly ≡ true
    fewer is = (let less = ltb-true whole newly is in lt-ltb part newly (omega (arith, less)))

    right : are_right newly last counts ≡ (not (nat_lt counts.0 last.0) && (not (nat_lt counts.1 last.1) && not (nat_lt last.1 counts.1)) && (not (nat_lt counts.2 last.2) && not (nat_lt part newly)))
    right =
        ap (λ (b : Bool). b && (counts.1 == last.1) && (nat_le last.2 counts.2 && nat_le newly part)) (le_turned last.0 counts.0)
        ∙ ap (λ (b : Bool). not (nat_lt counts.0 last.0) && b && (nat_le last.2 counts.2 && nat_le newly part)) (eq_turned counts.1 last.1)
        ∙ ap (λ (b : Bool). not (nat_lt counts.0 last.0) && (not (nat_lt counts.1 last.1) && not (nat_lt last.1 counts.1)) && (b && nat_le newly part)) (le_turned last.2 counts.2)
        ∙ ap (λ (b : Bool). not (nat_lt counts.0 last.0) && (not (nat_lt counts.1 last.1) && not (nat_lt last.1 counts.1)) && (not (nat_lt counts.2 last.2) && b)) (le_turned newly part)

    -- by all tests
    refused : (a b c d e f : Bool) → Option EcnError
    refused a b c d e f =
        if a then Some errors.Ect0Regression
        else (if b then Some errors.Ect1Regression
        else (if c then Some errors.CeRegression
        else (if d then Some errors.Bleaching
        else (if e || f then Some errors.Corruption
        else None))))

    Of : (a b c d e f : Bool) → Type 0
    Of a b c d e f =
        (((not a && (not b && not f) && (not c && not e)) ≡ true) × (marks_judged (refused a b c d e f) last counts ≡ Ok (nat_lt last.2 counts.2)))
        ⊎ (((not a && (not b && not f) && (not c && not e)) ≡ false) × ((error : EcnError) × (marks_judged (refused a b c d e f) last counts ≡ Err error)))

    go : (a b c d e f : Bool) → (d ≡ true → e ≡ true) → Of a b c d e f
    go true b c d e f w = inr (refl, (errors.Ect0Regression, refl))
    go false true c d e f w = inr (refl, (errors.Ect1Regression, refl))
    go false false true d e true w = inr (refl, (errors.CeRegression, refl))
    go false false true d e false w = inr (refl, (errors.CeRegression, refl))
    go false false false true true true w = inr (refl, (errors.Bleaching, refl))
    go false false false true true false w = inr (refl, (errors.Bleaching, refl))
    go false false false true false f w = (let clash : false ≡ true = w refl in cc)
    go false false false false true true w = inr (refl, (errors.Corruption, refl))
    go false false false false true false w = inr (refl, (errors.Corruption, refl))
    go false false false false false true w = inr (refl, (errors.Corruption, refl))
    go false false false false false false w = inl (refl, refl)

-- ---- an end and its observer

-- an end marks datagrams where its observer says so, and knows the same counts
abbrev pub IsMarked : Marking → End → Type 0
IsMarked k e = (e.path.marking ≡ k.marks) × (e.marks.told ≡ k.counts)

module _ (newly : ℕ) (k : Marking) (e : End) (i : IsMarked k e) where
  -- counts that are judged
  right_marked : (counts : Counts) → IsMarked (if are_right newly k.counts counts then record k { counts = counts } else record k { marks = false }) (counts_judged (counts_answer e newly counts) counts e)
  right_marked counts =
      subst (λ (last : Counts). IsMarked (if are_right newly k.counts counts then record k { counts = counts } else record k { marks = false }) (counts_judged (marks_judged (marks_refused newly last counts) last counts) counts e)) (sym i.1)
      (elim (judges newly k.counts counts) [
        | inl right ↦
            subst (λ (b : Bool). IsMarked (if b then record k { counts = counts } else record k { marks = false }) (counts_judged (marks_judged (marks_refused newly k.counts counts) k.counts counts) counts e)) (sym right.0)
            (subst (λ (r : Result Bool EcnError). IsMarked (record k { counts = counts }) (counts_judged r counts e)) (sym right.1) (i.0, refl))
        | inr wrong ↦
            subst (λ (b : Bool). IsMarked (if b then record k { counts = counts } else record k { marks = false }) (counts_judged (marks_judged (marks_refused newly k.counts counts) k.counts counts) counts e)) (sym wrong.0)
            (subst (λ (r : Result Bool EcnError). IsMarked (record k { marks = false }) (counts_judged r counts e)) (sym wrong.1.1) (refl, i.1))
      ])

  -- counts that come, or none
  taken_marked : (rises : Bool) (o : Option Counts) → IsMarked (marking_with rises newly o k) (counts_taken rises newly o e)
  taken_marked true None = (refl, i.1)
  taken_marked false None = (refl, i.1)
  taken_marked true (Some counts) = right_marked counts
  taken_marked false (Some counts) = i

  -- while datagrams are marked
  seen_marked : (rises : Bool) (o : Option Counts) → IsMarked (if k.marks then marking_with rises newly o k else k) (counts_seen e.path.marking rises newly o e)
  seen_marked rises o = subst (λ (b : Bool). IsMarked (if k.marks then marking_with rises newly o k else k) (counts_seen b rises newly o e)) (sym i.0) (go k.marks)
    where
      go : (b : Bool) → IsMarked (if b then marking_with rises newly o k else k) (counts_seen b rises newly o e)
      go true = taken_marked rises o
      go false = i

-- ---- what the controller is told

grown_told : (b : Bool) (now sent : ℕ) → told_grown (Ok b) now sent ≡ told_if b (Congested now sent false 0)
grown_told true now sent = refl
grown_told false now sent = refl

module _ (newly sent : ℕ) (k : Marking) (e : End) (i : IsMarked k e) where
  judged_told : (counts : Counts) → told_grown (counts_answer e newly counts) e.closing.clock sent ≡ told_if (are_right newly k.counts counts && nat_lt k.counts.2 counts.2) (Congested e.closing.clock sent false 0)
  judged_told counts =
      ap (λ (last : Counts). told_grown (marks_judged (marks_refused newly last counts) last counts) e.closing.clock sent) i.1
      ∙ (elim (judges newly k.counts counts) [
        | inl right ↦
            ap (λ (r : Result Bool EcnError). told_grown r e.closing.clock sent) right.1
            ∙ grown_told (nat_lt k.counts.2 counts.2) e.closing.clock sent
            ∙ ap (λ (b : Bool). told_if (b && nat_lt k.counts.2 counts.2) (Congested e.closing.clock sent false 0)) (sym right.0)
        | inr wrong ↦
            ap (λ (r : Result Bool EcnError). told_grown r e.closing.clock sent) wrong.1.1
            ∙ ap (λ (b : Bool). told_if (b && nat_lt k.counts.2 counts.2) (Congested e.closing.clock sent false 0)) (sym wrong.0)
      ])

  seen_told : (rises : Bool) (o : Option Counts) → told_seen e.path.marking rises newly o sent e ≡ told_if (k.marks && rises && grew_by newly o k) (Congested e.closing.clock sent false 0)
  seen_told rises o = ap (λ (b : Bool). told_seen b rises newly o sent e) i.0 ∙ go k.marks rises o
    where
      go : (b c : Bool) (o : Option Counts) → told_seen b c newly o sent e ≡ told_if (b && c && grew_by newly o k) (Congested e.closing.clock sent false 0)
      go true true (Some counts) = judged_told counts
      go true true None = refl
      go true false o = refl
      go false c o = refl

  -- of an ACK frame
  ack_told : (named : Option ℕ) (a : AckValue) → told_seen e.path.marking (is_greatest named a.largest) newly a.ecn sent e ≡ told_if (has_grown named a newly k) (Congested e.closing.clock sent false 0)
  ack_told named a = seen_told (is_greatest named a.largest) a.ecn

-- the controller is told of more CE where the observer finds it
pub marks_told : (named : Option ℕ) (now : ℕ) (rises : Bool) (ss : List Sent) (ps : Table TrackedPacket) (a : AckValue) (k : Marking) (e : End) → now ≡ e.closing.clock → rises ≡ is_greatest named a.largest → AreWaited ss ps → IsMarked k e
    → told_marks rises ps a e ≡ told_if (has_grown named a (length ss) k) (Congested now (last_moment ss) false 0)
marks_told named now rises ss ps a k e clock is w i =
    ap (λ (b : Bool). told_seen e.path.marking b (length ps) a.ecn (last_sent ps) e) is
    ∙ ack_told (length ps) (last_sent ps) k e i named a
    ∙ ap (λ (n : ℕ). told_if (has_grown named a n k) (Congested e.closing.clock (last_sent ps) false 0)) (sym (waited_length ss ps w))
    ∙ ap (λ (n : ℕ). told_if (has_grown named a (length ss) k) (Congested n (last_sent ps) false 0)) (sym clock)
    ∙ ap (λ (n : ℕ). told_if (has_grown named a (length ss) k) (Congested now n false 0)) (waited_last ss ps w)

-- ---- an ACK frame

-- losses leave what is marked
pub lost_marked : (k : Marking) (e : End) → IsMarked k e → IsMarked k (losses_detected e)
lost_marked k e i = losses_searched (IsMarked k) (λ d x j. j) (λ most x j. j) e (packets_lost_keep (IsMarked k) (λ m x j. j) (λ c x j. j) (lost_by (verdict e) e.tracking.packets) e i)

-- and so do packets that are acknowledged, and a round trip that is measured
pub settled_marked : (k : Marking) (ps : Table TrackedPacket) (rises : Bool) (a : AckValue) (e : End) → IsMarked k e → IsMarked k (losses_taken ps rises a e)
settled_marked k ps rises a e i = lost_marked k (timed ps rises a e) (go (measured rises a ps))
  where
    left : End
    left = without_acked ps a e

    stays : IsMarked k left
    stays = acked_keep (IsMarked k) (λ d x j. j) (λ n x j. j) (λ n x j. j) (λ id x j. j) (λ m x j. j) ps e i

    go : (o : Option TrackedPacket) → IsMarked k (sampled o a left)
    go None = stays
    go (Some p) = stays

-- an ACK frame that names these leaves the end as its observer
pub named_marked : (named : Option ℕ) (k : Marking) (ss : List Sent) (ps : Table TrackedPacket) (rises : Bool) (a : AckValue) (e : End) → rises ≡ is_greatest named a.largest → AreWaited ss ps → IsMarked k e → IsMarked (marking_of named a ss k) (after_named ps rises a e)
named_marked named k [] [] rises a e is w i = i
named_marked named k (s ∷ ss) (p ∷ ps) rises a e is w i =
    let taken : End = losses_taken (p ∷ ps) rises a e in
    subst (λ (b : Bool). IsMarked (if k.marks then marking_with b (length (s ∷ ss)) a.ecn k else k) (counts_seen taken.path.marking rises (length (p ∷ ps)) a.ecn taken)) is
    (subst (λ (n : ℕ). IsMarked (if k.marks then marking_with rises n a.ecn k else k) (counts_seen taken.path.marking rises (length (p ∷ ps)) a.ecn taken)) (sym (waited_length (s ∷ ss) (p ∷ ps) w))
    (seen_marked (length (p ∷ ps)) k taken (settled_marked k (p ∷ ps) rises a e i) rises a.ecn))
named_marked named k [] (p ∷ ps) rises a e is w i = absurd w
named_marked named k (s ∷ ss) [] rises a e is w i = absurd w
