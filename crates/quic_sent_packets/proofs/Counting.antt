-- What the counts of packets come to as packets come and go.
use Rattle.std.proofs.Common.{IfSome, IfNone, None, sym, subst, ◌≡◌, ℕ, ◌+◌, ◌≤◌, Bool, true, false, nat_lt, length, [], ◌∷◌, ◌||◌, Some, Option, ap, ◌∙◌, refl, zero-add, arith}
use Rattle.std.specs.List.{list_any}
use Rattle.std.specs.Cmp.{nat_cmp_total}
use Rattle.std.specs.BTreeMap.{is_at}
use Rattle.std.specs.Ordering.{nat_cmp}
use Rattle.std.specs.Map.{values_of}
use Rattle.std.proofs.lemmas.Bool.{lt-ltb}
use Rattle.std.proofs.lemmas.List.Sums.{sum_by-cons, count_by-le-length}
use Rattle.std.proofs.lemmas.Map.Entries.{sum_by-set_value, sum_by-remove_entry, sum_by-insert_entry, length-values_of}
use Rattle.quic_streams_parts.specs.Table.{Table, at, put, without, added}
use Rattle.quic_streams_parts.specs.TableLaws.{sorted-added, sorted-without, sorted-put}
use Rattle.quic_sent_packets.specs.declared.counts.Counts.{Counts}
use Rattle.quic_sent_packets.specs.Packets.{TrackedPacket, without_record}
use Rattle.quic_sent_packets.specs.Counts.{one_if, of_one, how_many, counts_against, Counted}

-- one of the packets is within the count
one_within : (test : TrackedPacket → Bool) (es : Table TrackedPacket) (n : ℕ) → of_one test (at es n) ≤ how_many test es
one_within test es n = let parts = sum_by-remove_entry (λ p. one_if (test p)) (is_at (nat_cmp n)) es in omega arith

-- the counts are those of the packets with one more, in the place of the one that was there
pub added_counted : (old new : Counts) (es : Table TrackedPacket) (n : ℕ) (p : TrackedPacket) (r : Option TrackedPacket) → Counted old es → r ≡ at es n
    → new.asking + of_one (λ q. q.asks) r ≡ old.asking + one_if p.asks → new.in_flight + of_one counts_against r ≡ old.in_flight + one_if (counts_against p)
    → Counted new (added es n p)
added_counted old new es n p r c is asking in_flight = record {
  ascends = sorted-added es n p c.ascends;
  asking = counted (λ q. q.asks) old.asking new.asking c.asking asking;
  in_flight = counted counts_against old.in_flight new.in_flight c.in_flight in_flight;
}
  where
    counted : (test : TrackedPacket → Bool) (a b : ℕ) → a ≡ how_many test es → b + of_one test r ≡ a + one_if (test p) → b ≡ how_many test (added es n p)
    counted test a b was e =
        let total = sum_by-insert_entry (λ q. one_if (test q)) nat_cmp_total es n p c.ascends in
        let same = ap (of_one test) is in
        omega arith

-- the counts are those of the packets without one
pub without_counted : (old new : Counts) (es : Table TrackedPacket) (n : ℕ) (r : Option TrackedPacket) → Counted old es → r ≡ at es n
    → new.asking + of_one (λ q. q.asks) r ≡ old.asking → new.in_flight + of_one counts_against r ≡ old.in_flight
    → Counted new (without es n)
without_counted old new es n r c is asking in_flight = record {
  ascends = sorted-without es n c.ascends;
  asking = counted (λ q. q.asks) old.asking new.asking c.asking asking;
  in_flight = counted counts_against old.in_flight new.in_flight c.in_flight in_flight;
}
  where
    counted : (test : TrackedPacket → Bool) (a b : ℕ) → a ≡ how_many test es → b + of_one test r ≡ a → b ≡ how_many test (without es n)
    counted test a b was e =
        let total = sum_by-remove_entry (λ q. one_if (test q)) (is_at (nat_cmp n)) es in
        let same = ap (of_one test) is in
        omega arith

-- the counts stay where what has to be sent again is taken from a packet, or nothing is
pub taken_counted : (counts : Counts) (es new : Table TrackedPacket) (n : ℕ) → Counted counts es → IfSome (at es n) (λ p. new ≡ put es n (without_record p)) → IfNone (at es n) (new ≡ es) → Counted counts new
taken_counted counts es new n c = go (at es n) refl
  where
    go : (r : Option TrackedPacket) → at es n ≡ r → IfSome r (λ p. new ≡ put es n (without_record p)) → IfNone r (new ≡ es) → Counted counts new
    go None found some none = subst (Counted counts) (sym none) c
    go (Some p) found some none =
        subst (Counted counts) (sym some)
        (record {
          ascends = sorted-put es n (without_record p) c.ascends;
          asking = let total = sum_by-set_value (λ q. one_if q.asks) (is_at (nat_cmp n)) es p (without_record p) found in let was = c.asking in omega arith;
          in_flight = let total = sum_by-set_value (λ q. one_if (counts_against q)) (is_at (nat_cmp n)) es p (without_record p) found in let was = c.in_flight in omega arith;
        })

-- a packet that is there is counted
pub within_asking : (counts : Counts) (es : Table TrackedPacket) (n : ℕ) (r : Option TrackedPacket) → Counted counts es → r ≡ at es n → of_one (λ p. p.asks) r ≤ counts.asking
within_asking counts es n r c is = let le = one_within (λ q. q.asks) es n in let was = c.asking in let same = ap (of_one (λ q. q.asks)) is in omega arith

pub within_in_flight : (counts : Counts) (es : Table TrackedPacket) (n : ℕ) (r : Option TrackedPacket) → Counted counts es → r ≡ at es n → of_one counts_against r ≤ counts.in_flight
within_in_flight counts es n r c is = let le = one_within counts_against es n in let was = c.in_flight in let same = ap (of_one counts_against) is in omega arith

-- no more are counted than there are
pub few_asking : (counts : Counts) (es : Table TrackedPacket) → Counted counts es → counts.asking ≤ length es
few_asking counts es c = let le = count_by-le-length (λ q. q.asks) (values_of es) in let long = length-values_of es in let was = c.asking in omega arith

pub few_in_flight : (counts : Counts) (es : Table TrackedPacket) → Counted counts es → counts.in_flight ≤ length es
few_in_flight counts es c = let le = count_by-le-length counts_against (values_of es) in let long = length-values_of es in let was = c.in_flight in omega arith

-- whether any passes a test, by how many do
any_by_count : (test : TrackedPacket → Bool) (es : Table TrackedPacket) → nat_lt 0 (how_many test es) ≡ list_any (λ p. test p.1) es
any_by_count test [] = refl
any_by_count test (x ∷ es) = ap (nat_lt 0) (sum_by-cons (λ p. one_if (test p)) x.1 (values_of es)) ∙ go (test x.1) (any_by_count test es)
  where
    go : (b : Bool) → nat_lt 0 (how_many test es) ≡ list_any (λ p. test p.1) es → nat_lt 0 (one_if b + how_many test es) ≡ (b || list_any (λ p. test p.1) es)
    go true e = lt-ltb 0 (1 + how_many test es) (omega arith)
    go false e = ap (nat_lt 0) (zero-add (how_many test es)) ∙ e

-- a count says whether any is there
pub any_asking : (counts : Counts) (es : Table TrackedPacket) → Counted counts es → nat_lt 0 counts.asking ≡ list_any (λ p. p.1.asks) es
any_asking counts es c = ap (nat_lt 0) c.asking ∙ any_by_count (λ p. p.asks) es

pub any_in_flight : (counts : Counts) (es : Table TrackedPacket) → Counted counts es → nat_lt 0 counts.in_flight ≡ list_any (λ p. nat_lt 0 p.1.size) es
any_in_flight counts es c = ap (nat_lt 0) c.in_flight ∙ any_by_count counts_against es
