-- What waits to be told once limits are decided, and where what was lost waits again.
use Rattle.std.proofs.Common.{◌≡◌, ℕ, List, [], ◌∷◌, Bool, true, false, refl, sym, ap, ◌∙◌, subst, inl, inr}
use Rattle.std.specs.Ordering.{nat_cmp, match_ordering, is_eq}
use Rattle.std.specs.BTreeMap.{is_at}
use Rattle.std.specs.declared.cmp.Ordering.{Ordering}
use Rattle.std.specs.declared.cmp.Ordering.TheVariants.{Less, Equal, Greater}
use Rattle.std.proofs.lemmas.Cmp.{ranked}
use Rattle.std.proofs.lemmas.Bool.{or_left, or_right, or_cases, cases_eq, both_ways}
use Rattle.quic_streams_parts.specs.TableLaws.{nat_cmp-same}
use Rattle.quic_wire_core.specs.declared.stream_id.Dir.{Dir}
use Rattle.quic_wire_core.specs.declared.stream_id.Dir.TheVariants.{Bi, Uni}
use Rattle.quic_streams_parts.specs.Dirs.{of}
use Rattle.quic_retransmits.specs.Retransmits.{Retransmits, merged, with_id, with_ids, has_id}
use Rattle.quic_streams_state.specs.declared.state.StreamsState.{StreamsState}
use Rattle.quic_streams_state.specs.Limits.{data_grew, count_grew, stream_grew, decided, with_stream_if, read_decided}
use Rattle.quic_streams_laws.specs.Told.{CountsAreTold, AreTold}

-- once limits are decided, those of all streams wait
pub counts_decided : (s : StreamsState) (p : Retransmits) → CountsAreTold s (decided s p)
counts_decided s p = record { bytes = λ e. or_right p.max_data (data_grew s.receiving) e; counts = go }
  where
    go : (dir : Dir) → count_grew dir s.opening ≡ true → of dir (decided s p).max_stream_id ≡ true
    go Bi e = or_right p.max_stream_id.bi (count_grew Bi s.opening) e
    go Uni e = or_right p.max_stream_id.uni (count_grew Uni s.opening) e

-- and those of each stream, if they waited
pub told_decided : (s : StreamsState) (p : Retransmits) → ((id : ℕ) → stream_grew s id ≡ true → has_id id p.max_stream_data ≡ true) → AreTold s (decided s p)
told_decided s p each = record { all = counts_decided s p; each = each }

-- ---- sets of ids

-- the id at which an entry stands
pub first_is : (q k : ℕ) → is_at (nat_cmp q) k ≡ true → q ≡ k
first_is q k on = go (nat_cmp q k) refl on
  where
    go : (r : Ordering) → nat_cmp q k ≡ r → is_eq r ≡ true → q ≡ k
    go Less is on = cc
    go Equal is on = ranked q k Equal (sym is)
    go Greater is on = cc

-- what is added is there
pub has_added : (id : ℕ) (ids : List ℕ) → has_id id (with_id id ids) ≡ true
has_added id [] = rw (nat_cmp-same id) refl
has_added id (x ∷ xs) = go (nat_cmp id x) refl (has_added id xs)
  where
    go : (r : Ordering) → nat_cmp id x ≡ r → has_id id (with_id id xs) ≡ true → has_id id (match_ordering r (id ∷ x ∷ xs) (x ∷ xs) (x ∷ with_id id xs)) ≡ true
    go Less is ih = rw (nat_cmp-same id) refl
    go Equal is ih = rw is refl
    go Greater is ih = or_right (is_at (nat_cmp id) x) (has_id id (with_id id xs)) ih

-- and what was there stays
has_kept : (id q : ℕ) (ids : List ℕ) → has_id q ids ≡ true → has_id q (with_id id ids) ≡ true
has_kept id q [] e = or_right (is_at (nat_cmp q) id) false e
has_kept id q (x ∷ xs) e = go (nat_cmp id x) (has_kept id q xs)
  where
    go : (r : Ordering) → (has_id q xs ≡ true → has_id q (with_id id xs) ≡ true) → has_id q (match_ordering r (id ∷ x ∷ xs) (x ∷ xs) (x ∷ with_id id xs)) ≡ true
    go Less ih = or_right (is_at (nat_cmp q) id) (has_id q (x ∷ xs)) e
    go Equal ih = e
    go Greater ih = elim (or_cases (is_at (nat_cmp q) x) (has_id q xs) e) [
      | inl here ↦ or_left (is_at (nat_cmp q) x) (has_id q (with_id id xs)) here
      | inr there ↦ or_right (is_at (nat_cmp q) x) (has_id q (with_id id xs)) (ih there)
    ]

pub has_all : (ks ids : List ℕ) (q : ℕ) → has_id q ids ≡ true → has_id q (with_ids ks ids) ≡ true
has_all [] ids q e = e
has_all (k ∷ ks) ids q e = has_all ks (with_id k ids) q (has_kept k q ids e)

-- all that are added are there
pub has_given : (ks ids : List ℕ) (q : ℕ) → has_id q ks ≡ true → has_id q (with_ids ks ids) ≡ true
has_given [] ids q e = cc
has_given (k ∷ ks) ids q e = elim (or_cases (is_at (nat_cmp q) k) (has_id q ks) e) [
  | inl here ↦ has_all ks (with_id k ids) q (subst (λ x. has_id x (with_id k ids) ≡ true) (sym (first_is q k here)) (has_added k ids))
  | inr there ↦ has_given ks (with_id k ids) q there
]

-- ---- a read is over, and a lost record waits again

-- a read of one stream is over: the others' limits waited before
pub told_read : (s : StreamsState) (p : Retransmits) (id : ℕ) → ((j : ℕ) → (j ≡ id → ⊥) → stream_grew s j ≡ true → has_id j p.max_stream_data ≡ true) → AreTold s (read_decided s p id)
told_read s p id others = go (stream_grew s id) refl
  where
    go : (b : Bool) → stream_grew s id ≡ b → AreTold s (with_stream_if b id (decided s p))
    go true grew = record {
      all = let d = counts_decided s p in record { bytes = d.bytes; counts = d.counts };
      each = λ j e. elim (cases_eq j id) [
        | inl j_is ↦ subst (λ x. has_id x (with_id id p.max_stream_data) ≡ true) (sym j_is) (has_added id p.max_stream_data)
        | inr ne ↦ has_kept id j p.max_stream_data (others j ne e)
      ];
    }
    go false grew = record {
      all = counts_decided s p;
      each = λ j e. elim (cases_eq j id) [
        | inl j_is ↦ absurd (both_ways (stream_grew s id) grew (ap (stream_grew s) (sym j_is) ∙ e))
        | inr ne ↦ others j ne e
      ];
    }

-- what waits goes on waiting beside what was lost
pub told_merged : (s : StreamsState) (p lost : Retransmits) → AreTold s p → AreTold s (merged p lost)
told_merged s p lost i = record {
  all = record { bytes = λ e. or_left p.max_data lost.max_data (i.all.bytes e); counts = go };
  each = λ id e. has_all lost.max_stream_data p.max_stream_data id (i.each id e);
}
  where
    go : (dir : Dir) → count_grew dir s.opening ≡ true → of dir (merged p lost).max_stream_id ≡ true
    go Bi e = or_left p.max_stream_id.bi lost.max_stream_id.bi (i.all.counts Bi e)
    go Uni e = or_left p.max_stream_id.uni lost.max_stream_id.uni (i.all.counts Uni e)
