-- The tracked packets stand by ascending numbers, whatever comes and whatever call is made.
use Rattle.std.proofs.Common.{◌≡◌, ℕ, ◌+◌, ◌<◌, ◌≤◌, Bool, true, false, not, cond, List, [], ◌∷◌, ◌++◌, map, filter, Option, Some, None, refl, sym, ap, ◌∙◌, subst, inl, inr, arith}
use Rattle.std.specs.Ordering.{nat_cmp, is_eq, match_ordering}
use Rattle.std.specs.declared.cmp.Ordering.{Ordering}
use Rattle.std.specs.declared.cmp.Ordering.TheVariants.{Less, Equal, Greater}
use Rattle.std.specs.BTreeMap.{is_at}
use Rattle.std.proofs.lemmas.Cmp.{ranked}
use Rattle.quic_streams_parts.specs.Table.{Table, put, added, without}
use Rattle.quic_machine.specs.Arrival.{Arrival}
use Rattle.quic_machine.specs.Policy.{Policy}
use Rattle.quic_machine.specs.Tracking.{Tracking, TrackedPacket, without_packet, forgotten, after_sent, without_record, names, is_lost}
use Rattle.quic_machine.specs.End.{End}
use Rattle.quic_machine.specs.Receive.{received}
use Rattle.quic_machine.specs.Machine.{after_call}
use Rattle.quic_machine.specs.declared.run.Call.{Call}
use Rattle.quic_machine.specs.declared.run.Answer.{Answer}
use Rattle.quic_headline.specs.Runs.{In}
use Rattle.quic_headline.proofs.Packets.TrackedSteps.{asking_packets}
use Rattle.quic_headline.proofs.Packets.EndMoves.{Cause, cause_of, Keeps}
use Rattle.quic_headline.proofs.Packets.EndMoves as moves
use Rattle.quic_headline.proofs.Packets.ByMoves.{behind_datagram, behind_call}

-- ---- tables

-- the numbers ascend, from one on
abbrev pub Ascending : {A : Type 0} → ℕ → Table A → Type 0
Ascending low [] = Unit {0}
Ascending low (p ∷ ps) = (low ≤ p.0) × Ascending (p.0 + 1) ps

-- or from a lower one on
pub ascends_from : {A : Type 0} (low least : ℕ) (ps : Table A) → least ≤ low → Ascending low ps → Ascending least ps
ascends_from low least [] below a = tt
ascends_from low least (p ∷ ps) below a = let first = a.0 in (omega arith, a.1)

-- each is one of these
pub ascends_in : {A : Type 0} (low : ℕ) (ps : Table A) (p : ℕ × A) → Ascending low ps → In p ps → low ≤ p.0
ascends_in low [] p a i = absurd i
ascends_in low (q ∷ ps) p a (inl is) = rw is a.0
ascends_in low (q ∷ ps) p a (inr i) =
    let first = a.0 in
    let later = ascends_in (q.0 + 1) ps p a.1 i in
    omega arith

-- some of them ascend
pub ascends_filter : {A : Type 0} (f : ℕ × A → Bool) (low : ℕ) (ps : Table A) → Ascending low ps → Ascending low (filter f ps)
ascends_filter f low [] a = tt
ascends_filter {A} f low (p ∷ ps) a = go (f p) (ascends_filter f (p.0 + 1) ps a.1)
  where
    go : (b : Bool) → Ascending (p.0 + 1) (filter f ps) → Ascending low (cond b (p ∷ filter f ps) (filter f ps))
    go true rest = (a.0, rest)
    go false rest = let first = a.0 in ascends_from (p.0 + 1) low (filter f ps) (omega arith) rest

-- so do those without a number
ascends_without : {A : Type 0} (low : ℕ) (ps : Table A) (n : ℕ) → Ascending low ps → Ascending low (without ps n)
ascends_without low [] n a = tt
ascends_without {A} low (p ∷ ps) n a = go (is_at (nat_cmp n) p.0) (ascends_without (p.0 + 1) ps n a.1)
  where
    go : (b : Bool) → Ascending (p.0 + 1) (without ps n) → Ascending low (cond b ps (p ∷ without ps n))
    go true rest = let first = a.0 in ascends_from (p.0 + 1) low ps (omega arith) a.1
    go false rest = (a.0, rest)

-- and those with another value at a number
pub ascends_put : {A : Type 0} (low : ℕ) (ps : Table A) (n : ℕ) (v : A) → Ascending low ps → Ascending low (put ps n v)
ascends_put low [] n v a = tt
ascends_put {A} low (p ∷ ps) n v a = go (is_at (nat_cmp n) p.0) (ascends_put (p.0 + 1) ps n v a.1)
  where
    go : (b : Bool) → Ascending (p.0 + 1) (put ps n v) → Ascending low (cond b ((p.0, v) ∷ ps) (p ∷ put ps n v))
    go true rest = (a.0, a.1)
    go false rest = (a.0, rest)

-- and those with one more
pub ascends_added : {A : Type 0} (low : ℕ) (ps : Table A) (n : ℕ) (v : A) → low ≤ n → Ascending low ps → Ascending low (added ps n v)
ascends_added low [] n v above a = (above, tt)
ascends_added {A} low (p ∷ ps) n v above a = go (nat_cmp n p.0) refl (λ over. ascends_added (p.0 + 1) ps n v over a.1)
  where
    go : (r : Ordering) → nat_cmp n p.0 ≡ r → ((p.0 + 1 ≤ n) → Ascending (p.0 + 1) (added ps n v)) → Ascending low (match_ordering r ((n, v) ∷ p ∷ ps) ((p.0, v) ∷ ps) (p ∷ added ps n v))
    go Less is rest = (let lower : n < p.0 = ranked n p.0 Less (sym is) in (above, (omega arith, a.1)))
    go Equal is rest = (a.0, a.1)
    go Greater is rest = (let upper : p.0 < n = ranked n p.0 Greater (sym is) in (a.0, rest (omega arith)))

-- where another value stands at the number of one of them: those before it and those behind it are
-- as they were
pub record Splits {A : Type 0} (ps changed : Table A) (p : ℕ × A) (v : A) : Type 0 where
  pub before : Table A
  pub behind : Table A
  pub is : ps ≡ before ++ p ∷ behind
  pub put : changed ≡ before ++ (p.0, v) ∷ behind

pub put_splits : {A : Type 0} (low : ℕ) (ps : Table A) (p : ℕ × A) (v : A) → Ascending low ps → In p ps → Splits ps (put ps p.0 v) p v
put_splits low [] p v a i = absurd i
put_splits {A} low (q ∷ ps) p v a i = go (nat_cmp p.0 q.0) refl i (λ j. put_splits (q.0 + 1) ps p v a.1 j)
  where
    go : (r : Ordering) → nat_cmp p.0 q.0 ≡ r → In p (q ∷ ps) → (In p ps → Splits ps (put ps p.0 v) p v) → Splits (q ∷ ps) (cond (is_eq r) ((q.0, v) ∷ ps) (q ∷ put ps p.0 v)) p v
    go Less is (inl same) rest = (let lower : p.0 < q.0 = ranked p.0 q.0 Less (sym is) in let number : p.0 ≡ q.0 = ap (λ (x : ℕ × A). x.0) same in absurd (omega arith))
    go Less is (inr later) rest = (let lower : p.0 < q.0 = ranked p.0 q.0 Less (sym is) in let above = ascends_in (q.0 + 1) ps p a.1 later in absurd (omega arith))
    go Equal is (inl same) rest = record { before = []; behind = ps; is = ap (λ (x : ℕ × A). x ∷ ps) (sym same); put = ap (λ (x : ℕ × A). (x.0, v) ∷ ps) (sym same) }
    go Equal is (inr later) rest = (let here : p.0 ≡ q.0 = ranked p.0 q.0 Equal (sym is) in let above = ascends_in (q.0 + 1) ps p a.1 later in absurd (omega arith))
    go Greater is (inl same) rest = (let upper : q.0 < p.0 = ranked p.0 q.0 Greater (sym is) in let number : p.0 ≡ q.0 = ap (λ (x : ℕ × A). x.0) same in absurd (omega arith))
    go Greater is (inr later) rest = (let s = rest later in record { before = q ∷ s.before; behind = s.behind; is = ap (λ (x : Table A). q ∷ x) s.is; put = ap (λ (x : Table A). q ∷ x) s.put })

-- what is read of each stays, where it is the same of that one
pub put_map : {A B : Type 0} (f : ℕ × A → B) (low : ℕ) (ps : Table A) (p : ℕ × A) (v : A) → Ascending low ps → In p ps → f (p.0, v) ≡ f p → map f (put ps p.0 v) ≡ map f ps
put_map {A} {B} f low ps p v a i same =
    let s = put_splits low ps p v a i in
    ap (λ (x : Table A). map f x) s.put ∙ go s.before ∙ ap (λ (x : Table A). map f x) (sym s.is)
  where
    go : (before : Table A) → map f (before ++ (p.0, v) ∷ (put_splits low ps p v a i).behind) ≡ map f (before ++ p ∷ (put_splits low ps p v a i).behind)
    go [] = ap (λ (b : B). b ∷ map f (put_splits low ps p v a i).behind) same
    go (q ∷ before) = ap (λ (bs : List B). f q ∷ bs) (go before)

-- ---- the tracked packets of an end

abbrev pub Ascends : End → Type 0
Ascends e = Ascending 0 e.tracking.packets

-- one more is sent, before which the oldest may be forgotten
ascends_sent : (t : Tracking) (n : ℕ) (p : TrackedPacket) → Ascending 0 t.packets → Ascending 0 (after_sent t n p).packets
ascends_sent t n p a =
    let kept : Table TrackedPacket = without_packet (forgotten t p) t.packets in
    subst (λ (ps : Table TrackedPacket). Ascending 0 ps) (sym (asking_packets p.asks n p.time_sent (record t { packets = added kept n p }))) (ascends_added 0 kept n p (omega arith) (forgets (forgotten t p)))
  where
    forgets : (o : Option (ℕ × TrackedPacket)) → Ascending 0 (without_packet o t.packets)
    forgets None = a
    forgets (Some q) = ascends_without 0 t.packets q.0 a

-- each move keeps that
ascends : (by : Cause) → Keeps by Ascends
ascends by (moves.acknowledged a) e may i = ascends_filter (λ q. not (names a q.0)) 0 e.tracking.packets i
ascends by (moves.detected v) e may i = ascends_filter (λ q. not (is_lost v q)) 0 e.tracking.packets i
ascends by (moves.moved_again p) e may i = ascends_put 0 e.tracking.packets p.0 (without_record p.1) i
ascends by (moves.tracks n p) e may i = ascends_sent e.tracking n p i
ascends by m e may i = i

pub ascends_received : (p : Policy) (e : End) (arrival : Arrival) (d : List ℕ) → Ascends e → Ascends (received p e arrival d).end
ascends_received = behind_datagram Ascends (ascends moves.packet)

-- any call
pub ascends_call : (p : Policy) (e : End) (theirs : List (List ℕ)) (call : Call) (answer : Answer) → Ascends e → Ascends (after_call p e theirs call answer)
ascends_call p e theirs call answer a = behind_call Ascends p e theirs call answer (ascends (cause_of call)) a
