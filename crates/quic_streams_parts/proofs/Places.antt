-- What an insert at a new turn, and a removal, leave.
use Rattle.std.proofs.Common.{◌≡◌, ℕ, ◌+◌, ◌<◌, ltb, [], ◌∷◌, cond, List, refl, ap, arith}
use Rattle.std.specs.List.{AllByRecursion}
use Rattle.std.specs.Ordering.{nat_cmp, ordering_then, match_ordering}
use Rattle.std.specs.declared.cmp.Ordering.{Ordering}
use Rattle.std.specs.declared.cmp.Ordering.TheVariants.{Less, Equal, Greater}
use Rattle.std.specs.Cmp.{ranked}
use Rattle.std.proofs.lemmas.Bool.{lt-ltb, le-ltb}
use Rattle.std.specs.BTreeMap.{insert_entry, is_at}
use Rattle.std.specs.Map.{remove_entry}
use Rattle.quic_streams_parts.specs.TableLaws.{nat_cmp-same}
use Rattle.quic_streams_parts.specs.Queue.{Place, place_cmp, order, pushed}
use Rattle.quic_streams_parts.proofs.Parted.{all_weaker, all_inserted}

abbrev pub Earlier : ℕ → List (Place × ℕ) → Type 0
Earlier n es = AllByRecursion (λ e. e.0.1 < n) es

-- a later turn goes behind its equals
pub order_inserted : (es : List (Place × ℕ)) (n rank id : ℕ) → Earlier n es → order (insert_entry place_cmp es (rank, n) id) ≡ pushed (order es) rank id
order_inserted [] n rank id h = refl
order_inserted (e ∷ es) n rank id h = go (nat_cmp rank e.0.0) (nat_cmp n e.0.1) refl refl (order_inserted es n rank id h.1)
  where
    go : (r t : Ordering) → r ≡ nat_cmp rank e.0.0 → t ≡ nat_cmp n e.0.1 → order (insert_entry place_cmp es (rank, n) id) ≡ pushed (order es) rank id
        → order (match_ordering (ordering_then r t) (((rank, n), id) ∷ e ∷ es) ((e.0, id) ∷ es) (e ∷ insert_entry place_cmp es (rank, n) id)) ≡ cond (ltb rank e.0.0) ((rank, id) ∷ order (e ∷ es)) ((e.0.0, e.1) ∷ pushed (order es) rank id)
    go Less t p q ih = let l : rank < e.0.0 = ranked rank e.0.0 Less p in rw (lt-ltb rank e.0.0 l) refl
    go Equal Less p q ih = let l : n < e.0.1 = ranked n e.0.1 Less q in let k = h.0 in absurd (omega arith)
    go Equal Equal p q ih = let l : n ≡ e.0.1 = ranked n e.0.1 Equal q in let k = h.0 in absurd (omega arith)
    go Equal Greater p q ih = let l : rank ≡ e.0.0 = ranked rank e.0.0 Equal p in rw (le-ltb rank e.0.0 (omega arith)) (ap (λ xs. (e.0.0, e.1) ∷ xs) ih)
    go Greater t p q ih = let l : e.0.0 < rank = ranked rank e.0.0 Greater p in rw (le-ltb rank e.0.0 (omega arith)) (ap (λ xs. (e.0.0, e.1) ∷ xs) ih)

pub earlier_inserted : (es : List (Place × ℕ)) (n rank id : ℕ) → Earlier n es → Earlier (n + 1) (insert_entry place_cmp es (rank, n) id)
earlier_inserted es n rank id h = all_inserted (λ k. k.1 < n + 1) place_cmp es (rank, n) id (omega arith) (all_weaker (λ e. e.0.1 < n) (λ e. e.0.1 < n + 1) (λ e l. omega arith) es h)

-- what was put in at a new turn is taken out
pub removed_inserted : (es : List (Place × ℕ)) (n rank id : ℕ) → Earlier n es → remove_entry (is_at (place_cmp (rank, n))) (insert_entry place_cmp es (rank, n) id) ≡ es
removed_inserted [] n rank id h = rw (nat_cmp-same rank, nat_cmp-same n) refl
removed_inserted (e ∷ es) n rank id h = go (nat_cmp rank e.0.0) (nat_cmp n e.0.1) refl refl (removed_inserted es n rank id h.1)
  where
    go : (r t : Ordering) → r ≡ nat_cmp rank e.0.0 → t ≡ nat_cmp n e.0.1 → remove_entry (is_at (place_cmp (rank, n))) (insert_entry place_cmp es (rank, n) id) ≡ es
        → remove_entry (is_at (place_cmp (rank, n))) (match_ordering (ordering_then r t) (((rank, n), id) ∷ e ∷ es) ((e.0, id) ∷ es) (e ∷ insert_entry place_cmp es (rank, n) id)) ≡ e ∷ es
    go Less t p q ih = rw (nat_cmp-same rank, nat_cmp-same n) refl
    go Equal Less p q ih = let l : n < e.0.1 = ranked n e.0.1 Less q in let k = h.0 in absurd (omega arith)
    go Equal Equal p q ih = let l : n ≡ e.0.1 = ranked n e.0.1 Equal q in let k = h.0 in absurd (omega arith)
    go Equal Greater p q ih = rw (← p, ← q) (ap (λ xs. e ∷ xs) ih)
    go Greater t p q ih = rw (← p) (ap (λ xs. e ∷ xs) ih)
