-- An insert in words of sets: how many parts there are, and where they begin once they are joined.
use Rattle.std.proofs.Common.{◌≡◌, ℕ, ◌+◌, ◌-◌, ◌^◌, ◌<◌, ◌≤◌, ◌==◌, length, List, [], ◌∷◌, ◌++◌, drop, Bool, true, false, not, ◌||◌, cond, refl, sym, ap, ◌∙◌, arith, max, length-drop, ◌⊎◌, inl, inr}
use Rattle.std.proofs.lemmas.Bool.{eq-eqb, ne_eqb, cases_eq}
use Rattle.quic_assembler.specs.Arrived.{Arrived, AreApart, IsLawful, in_front, joined, settled, is_crowded, waits, runs_of, begins_run, count_to, with_free, after_insert}
use Rattle.quic_sets.specs.Parts.{Part, start}
use Rattle.quic_assembler.specs.Waiting.{begins_part, begins_then, are_too_many, IsInserted}
use Rattle.quic_assembler.proofs.Calls.Begins.{insert_begins}
use Rattle.quic_assembler.proofs.Parts.Filled.{low_small}
use Rattle.quic_assembler.proofs.Parts.Free.{free_apart}
use Rattle.quic_assembler.proofs.Parts.Joining.{joined_apart, joined_runs}
use Rattle.quic_assembler.proofs.Arrived.Lawful.{insert_bytes, insert_lawful}
use Rattle.quic_assembler.proofs.Arrived.Runs.{begins, count_none, count_same, count_but, same_runs, at_start}
use Rattle.quic_assembler.proofs.Arrived.WaitingBytes.{bytes_counted, joined_bytes}

-- ---- there are as many parts as offsets at which one begins
pub begins_above : (low o : ℕ) (ps : List Part) → AreApart low ps → o < low → begins_part ps o ≡ false
begins_above low o [] h l = refl
begins_above low o (p ∷ ps) h l =
    let big = h.0 in
    let full = h.1 in
    rw (ne_eqb (start p) o (λ e. omega arith)) (begins_above p.0 o ps h.2 (omega arith))

pub parts_counted : (low n : ℕ) (ps : List Part) → AreApart low ps → 2 ^ 62 ≤ n → length ps ≡ count_to (begins_part ps) n
parts_counted low n [] h m = sym (count_none (begins_part []) n (λ i. refl))
parts_counted low n (p ∷ ps) h m =
    let big = h.0 in
    let full = h.1 in
    let small = low_small p.0 ps h.2 in
    let rest = parts_counted p.0 n ps h.2 m in
    let but : count_to (begins_part (p ∷ ps)) n ≡ cond (begins_part (p ∷ ps) (start p)) 1 0 + count_to (begins_part ps) n = count_but (begins_part (p ∷ ps)) (begins_part ps) (start p) n (omega arith) (λ i k. ap (λ b. b || begins_part ps i) (ne_eqb (start p) i (λ e. k (sym e)))) (begins_above p.0 (start p) ps h.2 (omega arith)) in
    let own : begins_part (p ∷ ps) (start p) ≡ true = ap (λ b. b || begins_part ps (start p)) (eq-eqb (start p) (start p) refl) in
    let one : length (p ∷ ps) ≡ 1 + length ps = omega arith in
    one ∙ ap (λ k. 1 + k) rest ∙ sym (but ∙ ap (λ b. cond b 1 0 + count_to (begins_part ps) n) own)

-- ---- joined: a part begins where a run begins

-- the first does not begin at an offset, and none where the one before ends
abbrev AreLoose : ℕ → List Part → Type 0
AreLoose e [] = Unit {0}
AreLoose e (p ∷ ps) = ((start p == e) ≡ false) × AreLoose p.0 ps

abbrev AreLooseBehind : List Part → Type 0
AreLooseBehind [] = Unit {0}
AreLooseBehind (p ∷ ps) = AreLoose p.0 ps

in_front_loose : (p : Part) (ps : List Part) → AreLooseBehind ps → AreLooseBehind (in_front p ps)
in_front_loose p [] h = tt
in_front_loose p (q ∷ qs) h = go (start q == p.0) refl
  where
    go : (b : Bool) → (start q == p.0) ≡ b → AreLooseBehind (cond b ((q.0, p.1 ++ q.1) ∷ qs) (p ∷ q ∷ qs))
    go true e = h
    go false e = (e, h)

joined_loose : (ps : List Part) → AreLooseBehind (joined ps)
joined_loose [] = tt
joined_loose (p ∷ ps) = in_front_loose p (joined ps) (joined_loose ps)

loose_begins : (e o : ℕ) (ps : List Part) → AreApart e ps → AreLoose e ps → begins (λ i. i == e) ps o ≡ begins_part ps o
loose_begins e o [] h l = refl
loose_begins e o (p ∷ ps) h l = go (cases_eq o (start p)) (loose_begins p.0 o ps h.2 l.1)
  where
    go : (o ≡ start p) ⊎ (o ≡ start p → ⊥) → begins (λ i. i == p.0) ps o ≡ begins_part ps o → begins (λ i. i == e) (p ∷ ps) o ≡ begins_part (p ∷ ps) o
    go (inl q) ih =
        let own = ap (begins (λ i. i == e) (p ∷ ps)) q ∙ at_start e (λ i. i == e) p ps h ∙ ap not l.0 in
        own ∙ sym (ap (λ b. b || begins_part ps o) (eq-eqb (start p) o (sym q)))
    go (inr n) ih =
        same_runs e (λ i. i == e) p ps o h (λ i k. ne_eqb i e (λ q. omega arith)) n
        ∙ ih
        ∙ sym (ap (λ b. b || begins_part ps o) (ne_eqb (start p) o (λ q. n (sym q))))

runs_begin : (low o : ℕ) (ps : List Part) → AreApart low ps → AreLooseBehind ps → begins_part ps o ≡ begins_run ps o
runs_begin low o [] h l = refl
runs_begin low o (p ∷ ps) h l = go (cases_eq o (start p))
  where
    go : (o ≡ start p) ⊎ (o ≡ start p → ⊥) → begins_part (p ∷ ps) o ≡ begins (λ i. false) (p ∷ ps) o
    go (inl q) =
        ap (λ b. b || begins_part ps o) (eq-eqb (start p) o (sym q))
        ∙ sym (ap (begins (λ i. false) (p ∷ ps)) q ∙ at_start low (λ i. false) p ps h)
    go (inr n) =
        ap (λ b. b || begins_part ps o) (ne_eqb (start p) o (λ q. n (sym q)))
        ∙ sym (same_runs low (λ i. false) p ps o h (λ i k. refl) n ∙ loose_begins p.0 o ps h.2 l)

-- ---- joined only where they are too many
abbrev SettledBegins : List Part → ℕ → ℕ → Type 0
SettledBegins ps n o = begins_part (settled ps) o ≡ cond (are_too_many (count_to (begins_part ps) n) (runs_of (settled ps)) (count_to (waits (settled ps)) n)) (begins_run (settled ps) o) (begins_part ps o)

settled_begins : (low n o : ℕ) (ps : List Part) → AreApart low ps → 2 ^ 62 ≤ n → SettledBegins ps n o
settled_begins low n o ps h m = go (is_crowded ps) refl
  where
    go : (b : Bool) → is_crowded ps ≡ b → begins_part (cond b (joined ps) ps) o ≡ cond (are_too_many (count_to (begins_part ps) n) (runs_of (cond b (joined ps) ps)) (count_to (waits (cond b (joined ps) ps)) n)) (begins_run (cond b (joined ps) ps) o) (begins_part ps o)
    go true q =
        let t : are_too_many (count_to (begins_part ps) n) (runs_of (joined ps)) (count_to (waits (joined ps)) n) ≡ true =
        ap (λ k. are_too_many k (runs_of (joined ps)) (count_to (waits (joined ps)) n)) (sym (parts_counted low n ps h m))
        ∙ ap (λ k. are_too_many (length ps) k (count_to (waits (joined ps)) n)) (joined_runs low ps h)
        ∙ ap (λ k. are_too_many (length ps) (runs_of ps) k) (sym (bytes_counted low (joined ps) n (joined_apart low ps h) m) ∙ joined_bytes ps)
        ∙ q in
        runs_begin low o (joined ps) (joined_apart low ps h) (joined_loose ps) ∙ sym (ap (λ b. cond b (begins_run (joined ps) o) (begins_part ps o)) t)
    go false q =
        let t : are_too_many (count_to (begins_part ps) n) (runs_of ps) (count_to (waits ps) n) ≡ false =
        ap (λ k. are_too_many k (runs_of ps) (count_to (waits ps) n)) (sym (parts_counted low n ps h m))
        ∙ ap (λ k. are_too_many (length ps) (runs_of ps) k) (sym (bytes_counted low ps n h m))
        ∙ q in
        sym (ap (λ b. cond b (begins_run ps o) (begins_part ps o)) t)

-- ---- as the call says it
inserted_begins : (a : Arrived) (at : ℕ) (bytes : List ℕ) (n o : ℕ) → IsLawful a → at + length bytes < 2 ^ 62 → 2 ^ 62 ≤ n
    → begins_part (after_insert a at bytes).parts o ≡ cond (are_too_many (count_to (begins_then a at bytes) n) (runs_of (after_insert a at bytes).parts) (count_to (waits (after_insert a at bytes).parts) n)) (begins_run (after_insert a at bytes).parts o) (begins_then a at bytes o)
inserted_begins a at bytes n o h s m =
    let d = length-drop (a.read - at) bytes in
    let ps = with_free a.picked a.parts (max a.read at) (drop (a.read - at) bytes) in
    let apart = free_apart a.read (max a.read at) a.read a.picked a.parts (drop (a.read - at) bytes) h.spans h.apart (omega arith) (λ l. omega arith) in
    settled_begins a.read n o ps apart m
    ∙ ap (λ k. cond (are_too_many k (runs_of (settled ps)) (count_to (waits (settled ps)) n)) (begins_run (settled ps) o) (begins_part ps o)) (count_same (begins_part ps) (begins_then a at bytes) n (λ i l. insert_begins a at bytes i h s))
    ∙ ap (λ b. cond (are_too_many (count_to (begins_then a at bytes) n) (runs_of (settled ps)) (count_to (waits (settled ps)) n)) (begins_run (settled ps) o) b) (insert_begins a at bytes o h s)

pub is_inserted : (a : Arrived) (at : ℕ) (bytes : List ℕ) → IsLawful a → at + length bytes < 2 ^ 62 → IsInserted a at bytes (after_insert a at bytes)
is_inserted a at bytes h s = record {
  waiting = λ o. insert_bytes a at bytes o h s;
  begins = λ n o m. inserted_begins a at bytes n o h s m;
  others = refl;
  lawful = insert_lawful a at bytes h s;
}
