-- A number that the observer of an end finds missing, the end does too, and no other; so it finds a
-- packet out of order where the observer does, however far it may be so, and only there.
use Rattle.std.proofs.Common.{◌≡◌, ℕ, zero, suc, ◌+◌, ◌-◌, ◌<◌, ◌≤◌, ◌⊎◌, Bool, true, false, not, cond, max, List, [], ◌∷◌, Option, Some, None, refl, sym, ap, ◌∙◌, subst, inl, inr, arith}
use Rattle.std.specs.Prelude.{◌==◌, ◌||◌, nat_lt, nat_le, MatchOption, is_some, find, if◌then◌else◌}
use Rattle.std.specs.List.{list_any, range_with_len}
use Rattle.std.proofs.lemmas.Bool.{or_cases, or_left, or_right, and_parts, and_from, both_ways, leb-true, leb-false, le-leb, eqb-true, eqb-false}
use Rattle.quic_wire.specs.Value.{FrameValue, asks}
use Rattle.quic_packet.specs.Datagram.{Opening}
use Rattle.quic_recovery_core.specs.Duplicates.{Seen, smallest_missing}
use Rattle.quic_recovery_core.specs.DuplicateRuns.{seen_after, Came, IsFarBelow, Lacks, IsLeastLacking}
use Rattle.quic_recovery_core.specs.PendingAcks.{Pending, leaves_gap, is_lost_by, shows_loss}
use Rattle.quic_recovery_core.specs.PendingAcks as pending
use Rattle.quic_recovery_core.proofs.DuplicateLaws.{duplicates, missing}
use Rattle.quic_machine.specs.declared.answers.State.{State}
use Rattle.quic_machine.specs.declared.answers.State.TheVariants as states
use Rattle.quic_machine.specs.declared.run.Answer.{Answer}
use Rattle.quic_machine.specs.Policy.{Policy}
use Rattle.quic_headline.specs.Runs.{Told, Packet, Intake, In, is_again, packet_of, handed, is_refused, came_open, and_opened, and_handed, and_told, folded, nothing_came}
use Rattle.quic_headline.specs.AcksDue.{greatest_asking, misses, least_missing, is_out_of_order, lies_below, shows_lost, is_too_late}
use Rattle.quic_headline.proofs.Packets.Window.{is_duplicate-is}
use Rattle.quic_headline.proofs.Places.Parties.{Party, came_to}

-- one of the numbers of a range passes a test
pub any_in_range : (test : ℕ → Bool) (low count : ℕ) → list_any test (range_with_len low count) ≡ true → (k : ℕ) × (low ≤ k) × (k < low + count) × (test k ≡ true)
any_in_range test low zero some = cc
any_in_range test low (suc count) some = go (or_cases (test low) (list_any test (range_with_len (low + 1) count)) some) (λ later. any_in_range test (low + 1) count later)
  where
    go : (test low ≡ true) ⊎ (list_any test (range_with_len (low + 1) count) ≡ true) → (list_any test (range_with_len (low + 1) count) ≡ true → (k : ℕ) × (low + 1 ≤ k) × (k < low + 1 + count) × (test k ≡ true)) → (k : ℕ) × (low ≤ k) × (k < low + suc count) × (test k ≡ true)
    go (inl here) rest = (low, omega arith, omega arith, here)
    go (inr later) rest = (let found = rest later in let from = found.1 in let below = found.2 in (found.0, omega arith, omega arith, found.3))

-- the first number of a range that passes a test lies in it, and does
first_in_range : (test : ℕ → Bool) (low count k : ℕ) → find test (range_with_len low count) ≡ Some k → (low ≤ k) × (k < low + count) × (test k ≡ true)
first_in_range test low zero k is = cc
first_in_range test low (suc count) k is = go (test low) refl is (λ later. first_in_range test (low + 1) count k later)
  where
    go : (b : Bool) → test low ≡ b → cond b (Some low) (find test (range_with_len (low + 1) count)) ≡ Some k → (find test (range_with_len (low + 1) count) ≡ Some k → (low + 1 ≤ k) × (k < low + 1 + count) × (test k ≡ true))
        → (low ≤ k) × (k < low + suc count) × (test k ≡ true)
    go true here first rest = (let same : low ≡ k = cc in (omega arith, omega arith, subst (λ (m : ℕ). test m ≡ true) same here))
    go false here first rest = (let found = rest first in let from = found.0 in let below = found.1 in (omega arith, omega arith, found.2))

-- where a number lacks between two others, there is a least that does
some_lacks : (numbers : List ℕ) (low high k : ℕ) (o : Option ℕ) → MatchOption o ((j : ℕ) → low < j → j < high → Lacks numbers j → ⊥) (IsLeastLacking numbers low high) → low < k → k < high → Lacks numbers k → is_some o ≡ true
some_lacks numbers low high k None least from below lacks = absurd (least k from below lacks)
some_lacks numbers low high k (Some m) least from below lacks = refl

false_not : (b : Bool) → not b ≡ true → b ≡ true → ⊥
false_not true is other = cc
false_not false is other = cc

-- a number below one that came lacks, where it doesn't come again
lacks : (numbers : List ℕ) (top k : ℕ) → Came numbers top → not (is_again k numbers) ≡ true → k < top → Lacks numbers k
lacks numbers top k there new below = (λ came. again (inl came), λ far. again (inr far), (top, there, below))
  where
    again : Came numbers k ⊎ IsFarBelow numbers k → ⊥
    again is = false_not (is_again k numbers) new (sym (is_duplicate-is numbers (seen_after numbers) k refl) ∙ (duplicates numbers k).1 is)

-- so the end finds a number missing where the observer does
missing_there : (numbers : List ℕ) (low n : ℕ) → misses low n (n ∷ numbers) ≡ true → is_some (smallest_missing (seen_after (n ∷ numbers)) low n) ≡ true
missing_there numbers low n some =
    let found = any_in_range (λ (k : ℕ). not (is_again k (n ∷ numbers))) (low + 1) (n - (low + 1)) some in
    let from = found.1 in
    let below = found.2 in
    some_lacks (n ∷ numbers) low n found.0 (smallest_missing (seen_after (n ∷ numbers)) low n) (missing (n ∷ numbers) low n) (omega arith) (omega arith) (lacks (n ∷ numbers) n found.0 (inl refl) found.3 (omega arith))

-- a number of a range that passes a test
in_range : (test : ℕ → Bool) (low count k : ℕ) → low ≤ k → k < low + count → test k ≡ true → list_any test (range_with_len low count) ≡ true
in_range test low zero k from below is = absurd (omega arith)
in_range test low (suc count) k from below is = go (low == k) refl (λ further. in_range test (low + 1) count k further (omega arith) is)
  where
    go : (b : Bool) → (low == k) ≡ b → (low + 1 ≤ k → list_any test (range_with_len (low + 1) count) ≡ true) → (test low || list_any test (range_with_len (low + 1) count)) ≡ true
    go true same rest = or_left (test low) (list_any test (range_with_len (low + 1) count)) (let at : low ≡ k = eqb-true low k same in ap test at ∙ is)
    go false other rest = or_right (test low) (list_any test (range_with_len (low + 1) count)) (rest (let differs = eqb-false low k other in omega arith))

-- the first that does lies no farther
first_below : (test : ℕ → Bool) (low count k : ℕ) → low ≤ k → k < low + count → test k ≡ true → (m : ℕ) × (find test (range_with_len low count) ≡ Some m) × (m ≤ k)
first_below test low zero k from below is = absurd (omega arith)
first_below test low (suc count) k from below is = go (test low) refl (λ further. first_below test (low + 1) count k further (omega arith) is)
  where
    apart : (b : Bool) → (low == k) ≡ b → test low ≡ false → low + 1 ≤ k
    apart true same none = absurd (both_ways (test low) none (let at : low ≡ k = eqb-true low k same in ap test at ∙ is))
    apart false other none = (let differs = eqb-false low k other in omega arith)

    go : (b : Bool) → test low ≡ b → (low + 1 ≤ k → (m : ℕ) × (find test (range_with_len (low + 1) count) ≡ Some m) × (m ≤ k)) → (m : ℕ) × (cond b (Some low) (find test (range_with_len (low + 1) count)) ≡ Some m) × (m ≤ k)
    go true here rest = (low, refl, from)
    go false none rest = rest (apart (low == k) refl none)

-- one that lacks doesn't come again
lacks_back : (numbers : List ℕ) (k : ℕ) → Lacks numbers k → not (is_again k numbers) ≡ true
lacks_back numbers k lack = go (is_again k numbers) refl
  where
    go : (b : Bool) → is_again k numbers ≡ b → not b ≡ true
    go false new = refl
    go true again = absurd (elim ((duplicates numbers k).0 (is_duplicate-is numbers (seen_after numbers) k refl ∙ again)) [ inl came ↦ lack.0 came | inr far ↦ lack.1 far ])

-- so the observer finds a number missing where the end does
missing_back : (numbers : List ℕ) (low n : ℕ) → is_some (smallest_missing (seen_after (n ∷ numbers)) low n) ≡ true → misses low n (n ∷ numbers) ≡ true
missing_back numbers low n = go (smallest_missing (seen_after (n ∷ numbers)) low n) (missing (n ∷ numbers) low n)
  where
    go : (o : Option ℕ) → MatchOption o ((j : ℕ) → low < j → j < n → Lacks (n ∷ numbers) j → ⊥) (IsLeastLacking (n ∷ numbers) low n) → is_some o ≡ true → misses low n (n ∷ numbers) ≡ true
    go None none some = cc
    go (Some m) least some = (let from = least.0 in let below = least.1 in in_range (λ (k : ℕ). not (is_again k (n ∷ numbers))) (low + 1) (n - (low + 1)) m (omega arith) (omega arith) (lacks_back (n ∷ numbers) m least.2))

-- ---- what is shown as lost

-- the greater of two numbers is one of them
max_of : (m n : ℕ) → (max m n ≡ m) ⊎ (max m n ≡ n)
max_of m n = go (nat_le m n) refl
  where
    go : (b : Bool) → nat_le m n ≡ b → (max m n ≡ m) ⊎ (max m n ≡ n)
    go true is = inr (let most = leb-true m n is in omega arith)
    go false is = inl (let less = leb-false m n is in omega arith)

-- where a number that is missing is shown as lost, the least is too that lacks
least_shown : (numbers : List ℕ) (low greatest reordering k : ℕ) (o : Option ℕ) → MatchOption o ((j : ℕ) → low < j → j < greatest → Lacks numbers j → ⊥) (IsLeastLacking numbers low greatest) → low < k → k < greatest → Lacks numbers k → reordering ≤ greatest - k
    → is_lost_by o greatest reordering ≡ true
least_shown numbers low greatest reordering k None least from below lack far = absurd (least k from below lack)
least_shown numbers low greatest reordering k (Some m) least from below lack far = go (nat_le m k) refl
  where
    go : (b : Bool) → nat_le m k ≡ b → nat_le reordering (greatest - m) ≡ true
    go true is = le-leb reordering (greatest - m) (let most = leb-true m k is in omega arith)
    go false is = absurd (least.3 k from (leb-false m k is) lack)

-- so the end finds that an ACK frame would show one as lost where the observer does, up to a number
-- that came
shows_there : (acked : Option ℕ) (reordering greatest : ℕ) (numbers : List ℕ) → (greatest ≡ 0) ⊎ Came numbers greatest → shows_lost acked reordering greatest numbers ≡ true → shows_loss acked reordering greatest (seen_after numbers) ≡ true
shows_there None reordering greatest numbers top is = cc
shows_there (Some acked) reordering greatest numbers top is =
    let parts = and_parts (nat_le reordering acked) (lies_below (least_missing low greatest numbers) greatest reordering) is in
    and_from (nat_le reordering acked) (is_lost_by (smallest_missing (seen_after numbers) low greatest) greatest reordering) parts.0 (by_least (least_missing low greatest numbers) refl parts.1)
  where
    low : ℕ
    low = acked - reordering + 1

    by_top : (k : ℕ) → k < greatest → (greatest ≡ 0) ⊎ Came numbers greatest → Came numbers greatest
    by_top k below (inl none) = absurd (omega arith)
    by_top k below (inr came) = came

    by_least : (o : Option ℕ) → least_missing low greatest numbers ≡ o → lies_below o greatest reordering ≡ true → is_lost_by (smallest_missing (seen_after numbers) low greatest) greatest reordering ≡ true
    by_least None first far = cc
    by_least (Some k) first far =
        let found = first_in_range (λ (j : ℕ). not (is_again j numbers)) (low + 1) (greatest - (low + 1)) k first in
        let from = found.0 in
        let below = found.1 in
        let under : k < greatest = omega arith in
        least_shown numbers low greatest reordering k (smallest_missing (seen_after numbers) low greatest) (missing numbers low greatest) (omega arith) under (lacks numbers greatest k (by_top k under top) found.2 under) (leb-true reordering (greatest - k) far)

-- and the observer does where the end finds it
shows_back : (acked : Option ℕ) (reordering greatest : ℕ) (numbers : List ℕ) → shows_loss acked reordering greatest (seen_after numbers) ≡ true → shows_lost acked reordering greatest numbers ≡ true
shows_back None reordering greatest numbers is = cc
shows_back (Some acked) reordering greatest numbers is =
    let parts = and_parts (nat_le reordering acked) (is_lost_by (smallest_missing (seen_after numbers) low greatest) greatest reordering) is in
    and_from (nat_le reordering acked) (lies_below (least_missing low greatest numbers) greatest reordering) parts.0 (by_least (smallest_missing (seen_after numbers) low greatest) (missing numbers low greatest) parts.1)
  where
    low : ℕ
    low = acked - reordering + 1

    by_least : (o : Option ℕ) → MatchOption o ((j : ℕ) → low < j → j < greatest → Lacks numbers j → ⊥) (IsLeastLacking numbers low greatest) → is_lost_by o greatest reordering ≡ true → lies_below (least_missing low greatest numbers) greatest reordering ≡ true
    by_least None none far = cc
    by_least (Some m) least far =
        let from = least.0 in
        let below = least.1 in
        let most = leb-true reordering (greatest - m) far in
        let first = first_below (λ (j : ℕ). not (is_again j numbers)) (low + 1) (greatest - (low + 1)) m (omega arith) (omega arith) (lacks_back numbers m least.2) in
        let lower = first.2 in
        ap (λ (o : Option ℕ). lies_below o greatest reordering) first.1 ∙ le-leb reordering (greatest - first.0) (omega arith)

-- ---- packets that were taken

-- each of them came
abbrev pub TookCame : Intake → Type 0
TookCame i = (p : Packet) → In p i.took → Came i.opened p.number

opened_came : (o : Option Opening) (a : Answer) (i : Intake) → TookCame i → TookCame (and_opened o a i)
opened_came None a i c = c
opened_came (Some o) a i c = go (is_again o.number i.opened) (is_refused a)
  where
    go : (again refused : Bool) → TookCame (if again then i else record { opened = o.number ∷ i.opened; took = (if refused then i.took else packet_of o ∷ i.took); part = (if refused then Some (packet_of o) else i.part) })
    go true refused = c
    go false true = λ p among. inr (c p among)
    go false false = λ p among. elim among [ inl is ↦ inl (ap (λ (q : Packet). q.number) is) | inr more ↦ inr (c p more) ]

handed_came : (state : State) (d : Option (List ℕ)) (p : Policy) (a : Answer) (i : Intake) → TookCame i → TookCame (and_handed state d p a i)
handed_came states.Open None p a i c = c
handed_came states.Open (Some d) p a i c = opened_came (came_open p i.took a d) a i c
handed_came states.Closing d p a i c = c
handed_came states.Drained d p a i c = c
handed_came states.Failed d p a i c = c

told_came : (p : Policy) (given : List (List ℕ)) (ts : List Told) (i : Intake) → TookCame i → TookCame (folded (and_told p given) ts i)
told_came p given [] i c = c
told_came p given (t ∷ ts) i c = told_came p given ts (and_told p given t i) (handed_came t.state (handed given t.call t.answer) p t.answer i c)

-- so it is of those that came to x
pub took_came : (x y : Party) → TookCame (came_to x y)
took_came x y = told_came x.policy y.final x.told nothing_came (λ p among. absurd among)

-- the greatest number of those that ask came, if one does
greatest_came : (numbers : List ℕ) (taken : List Packet) → ((p : Packet) → In p taken → Came numbers p.number) → (greatest_asking taken ≡ 0) ⊎ Came numbers (greatest_asking taken)
greatest_came numbers [] came = inl refl
greatest_came numbers (p ∷ ps) came = go (list_any asks p.frames) (greatest_came numbers ps (λ q among. came q (inr among)))
  where
    go : (b : Bool) → (greatest_asking ps ≡ 0) ⊎ Came numbers (greatest_asking ps) → ((if b then max p.number (greatest_asking ps) else greatest_asking ps) ≡ 0) ⊎ Came numbers (if b then max p.number (greatest_asking ps) else greatest_asking ps)
    go false rest = rest
    go true rest = elim (max_of p.number (greatest_asking ps)) [
      | inl is ↦ inr (subst (λ (k : ℕ). Came numbers k) (sym is) (came p (inl refl)))
      | inr is ↦ elim rest [ inl none ↦ inl (is ∙ none) | inr there ↦ inr (subst (λ (k : ℕ). Came numbers k) (sym is) there) ]
    ]

-- ---- a packet out of order

-- the greatest number of those that ask, with one more, came
top_came : (numbers : List ℕ) (taken : List Packet) (n : ℕ) → ((p : Packet) → In p taken → Came numbers p.number) → (max n (greatest_asking taken) ≡ 0) ⊎ Came (n ∷ numbers) (max n (greatest_asking taken))
top_came numbers taken n came = elim (max_of n (greatest_asking taken)) [
  | inl is ↦ inr (inl is)
  | inr is ↦ elim (greatest_came numbers taken came) [ inl none ↦ inl (is ∙ none) | inr there ↦ inr (inr (subst (λ (k : ℕ). Came numbers k) (sym is) there)) ]
]

greater : (g h n : ℕ) → g ≡ h → max g n ≡ max n h
greater g h n same = omega (arith, same)

-- an end finds one out of order where the observer does, by the same rule
pub late_there : (p : Pending) (acked : Option ℕ) (taken : List Packet) (numbers : List ℕ) (n : ℕ) (frames : List FrameValue) (s : Seen) → p.acked ≡ acked → pending.greatest_before p ≡ greatest_asking taken → s ≡ seen_after (n ∷ numbers)
    → ((q : Packet) → In q taken → Came numbers q.number) → is_too_late p.reordering acked taken (n ∷ numbers) (record { number = n; frames = frames }) ≡ true → pending.is_out_of_order p (pending.greatest_before p) (max (pending.greatest_before p) n) n s ≡ true
late_there p acked taken numbers n frames s last same seen came = go (p.reordering == 0) (p.reordering == 1)
  where
    greatest : ℕ
    greatest = greatest_asking taken

    go : (any next : Bool) → (if any then false else (if next then is_out_of_order taken (n ∷ numbers) (record { number = n; frames = frames }) else shows_lost acked p.reordering (max n greatest) (n ∷ numbers))) ≡ true
        → cond any false (cond next (leaves_gap (pending.greatest_before p) n s) (shows_loss p.acked p.reordering (max (pending.greatest_before p) n) s)) ≡ true
    go true next is = cc
    go false true is =
        ap (λ (g : ℕ). leaves_gap g n s) same
        ∙ ap (λ (t : Seen). leaves_gap greatest n t) seen
        ∙ elim (or_cases (nat_lt n greatest) (misses greatest n (n ∷ numbers)) is) [
          | inl below ↦ or_left (nat_lt n greatest) (is_some (smallest_missing (seen_after (n ∷ numbers)) greatest n)) below
          | inr gap ↦ or_right (nat_lt n greatest) (is_some (smallest_missing (seen_after (n ∷ numbers)) greatest n)) (missing_there numbers greatest n gap)
        ]
    go false false is =
        ap (λ (o : Option ℕ). shows_loss o p.reordering (max (pending.greatest_before p) n) s) last
        ∙ ap (λ (m : ℕ). shows_loss acked p.reordering m s) (greater (pending.greatest_before p) greatest n same)
        ∙ ap (λ (t : Seen). shows_loss acked p.reordering (max n greatest) t) seen
        ∙ shows_there acked p.reordering (max n greatest) (n ∷ numbers) (top_came numbers taken n came) is

-- and the observer does where the end finds it so
pub late_back : (p : Pending) (acked : Option ℕ) (taken : List Packet) (numbers : List ℕ) (n : ℕ) (frames : List FrameValue) (s : Seen) → p.acked ≡ acked → pending.greatest_before p ≡ greatest_asking taken → s ≡ seen_after (n ∷ numbers)
    → pending.is_out_of_order p (pending.greatest_before p) (max (pending.greatest_before p) n) n s ≡ true → is_too_late p.reordering acked taken (n ∷ numbers) (record { number = n; frames = frames }) ≡ true
late_back p acked taken numbers n frames s last same seen = go (p.reordering == 0) (p.reordering == 1)
  where
    greatest : ℕ
    greatest = greatest_asking taken

    go : (any next : Bool) → cond any false (cond next (leaves_gap (pending.greatest_before p) n s) (shows_loss p.acked p.reordering (max (pending.greatest_before p) n) s)) ≡ true
        → (if any then false else (if next then is_out_of_order taken (n ∷ numbers) (record { number = n; frames = frames }) else shows_lost acked p.reordering (max n greatest) (n ∷ numbers))) ≡ true
    go true next is = cc
    go false true is =
        let found = sym (ap (λ (g : ℕ). leaves_gap g n s) same ∙ ap (λ (t : Seen). leaves_gap greatest n t) seen) ∙ is in
        elim (or_cases (nat_lt n greatest) (is_some (smallest_missing (seen_after (n ∷ numbers)) greatest n)) found) [
          | inl below ↦ or_left (nat_lt n greatest) (misses greatest n (n ∷ numbers)) below
          | inr gap ↦ or_right (nat_lt n greatest) (misses greatest n (n ∷ numbers)) (missing_back numbers greatest n gap)
        ]
    go false false is = shows_back acked p.reordering (max n greatest) (n ∷ numbers) (
        sym (ap (λ (o : Option ℕ). shows_loss o p.reordering (max (pending.greatest_before p) n) s) last
        ∙ ap (λ (m : ℕ). shows_loss acked p.reordering m s) (greater (pending.greatest_before p) greatest n same)
        ∙ ap (λ (t : Seen). shows_loss acked p.reordering (max n greatest) t) seen) ∙ is)
