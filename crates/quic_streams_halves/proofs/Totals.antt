-- How much arrived and was consumed on all receiving halves, after a change of one.
use Rattle.std.proofs.Common.{◌≡◌, ℕ, ◌+◌, ◌-◌, ◌≤◌, List, [], ◌∷◌, Some, None, Option, IfSome, Result, Ok, Err, sym, subst, arith, refl}
use Rattle.std.specs.List.{sum_by, All}
use Rattle.std.specs.Ordering.{nat_cmp}
use Rattle.std.specs.BTreeMap.{is_at}
use Rattle.std.specs.List.Sorted.{IsStrictlySortedBy}
use Rattle.std.specs.Map.{keys_of, values_of}
use Rattle.std.proofs.lemmas.List.Elements.{All-tail}
use Rattle.std.proofs.lemmas.List.Sums.{sum_by-cons}
use Rattle.std.proofs.lemmas.Map.Views.{All-values-set_value, All-values-insert_entry, All-map-remove_entry, IfSome-lookup_from_All}
use Rattle.quic_streams_parts.specs.RecvHalf.{RecvHalf, credit, half_after_next}
use Rattle.quic_streams_parts.specs.declared.answers.ReadError.{ReadError}
use Rattle.quic_assembler.specs.declared.assembler.Chunk.{Chunk}
use Rattle.quic_streams_parts.specs.Table.{Table, at, put, without, added}
use Rattle.quic_streams_halves.specs.Halves.{AreWithin, AreCounted}
use Rattle.quic_streams_halves.proofs.Sums.{put_sum, added_sum, removed_sum, within_sum}

no_more : (hs : List RecvHalf) → All (λ h. credit h ≤ h.seen) hs → sum_by credit hs ≤ sum_by (λ h. h.seen) hs
no_more [] within = omega arith
no_more (h ∷ hs) within =
    let first : credit h ≤ h.seen = within 0 h (omega arith) in
    let rest = no_more hs (All-tail (λ (k : RecvHalf). credit k ≤ k.seen) h hs within) in
    let left = sum_by-cons credit h hs in
    let right = sum_by-cons (λ (k : RecvHalf). k.seen) h hs in
    omega arith

-- no more was consumed than arrived
pub consumed_within : (es : Table RecvHalf) (s c : ℕ) → AreCounted es s c → c ≤ s
consumed_within es s c h =
    let both = no_more (values_of es) h.within in
    let seen = h.seen in
    let consumed = h.consumed in
    omega arith

-- what arrived and was consumed on one half is within the sums
pub seen_term : (es : Table RecvHalf) (id s c : ℕ) (h : RecvHalf) → AreCounted es s c → at es id ≡ Some h → h.seen ≤ s
seen_term es id s c h are found = within_sum (λ (k : RecvHalf). k.seen) es id h s are.seen found

pub consumed_term : (es : Table RecvHalf) (id s c : ℕ) (h : RecvHalf) → AreCounted es s c → at es id ≡ Some h → credit h ≤ c
consumed_term es id s c h are found = within_sum credit es id h c are.consumed found

-- a half is changed
pub put_counted : (es ns : Table RecvHalf) (id s c s2 c2 : ℕ) (h w : RecvHalf) → AreCounted es s c → at es id ≡ Some h → ns ≡ put es id w → credit w ≤ w.seen → s2 ≡ s - h.seen + w.seen → c2 ≡ c - credit h + credit w → AreCounted ns s2 c2
put_counted es ns id s c s2 c2 h w are found is within e f =
    let in_seen = seen_term es id s c h are found in
    let in_consumed = consumed_term es id s c h are found in
    record {
      seen = put_sum (λ (k : RecvHalf). k.seen) es ns id h w s s2 are.seen found is (omega arith);
      consumed = put_sum credit es ns id h w c c2 are.consumed found is (omega arith);
      within = subst AreWithin (sym is) (All-values-set_value (is_at (nat_cmp id)) (λ (k : RecvHalf). credit k ≤ k.seen) es w are.within within);
    }

-- no more is consumed then than arrived
pub put_fits : (es : Table RecvHalf) (id s c : ℕ) (h w : RecvHalf) → AreCounted es s c → at es id ≡ Some h → credit w ≤ w.seen → c - credit h + credit w ≤ s - h.seen + w.seen
put_fits es id s c h w are found within =
    consumed_within (put es id w) (s - h.seen + w.seen) (c - credit h + credit w) (put_counted es (put es id w) id s c (s - h.seen + w.seen) (c - credit h + credit w) h w are found refl within refl refl)

-- a half comes into use
pub added_counted : (es ns : Table RecvHalf) (id s c s2 c2 : ℕ) (w : RecvHalf) → IsStrictlySortedBy nat_cmp (keys_of es) → AreCounted es s c → at es id ≡ None → ns ≡ added es id w → credit w ≤ w.seen → s2 ≡ s + w.seen → c2 ≡ c + credit w → AreCounted ns s2 c2
added_counted es ns id s c s2 c2 w o are none is within e f = record {
  seen = added_sum (λ (k : RecvHalf). k.seen) es ns id w s s2 o are.seen none is e;
  consumed = added_sum credit es ns id w c c2 o are.consumed none is f;
  within = subst AreWithin (sym is) (All-values-insert_entry nat_cmp id w (λ (k : RecvHalf). credit k ≤ k.seen) es are.within within);
}

-- a half is no longer in use
pub removed_counted : (es ns : Table RecvHalf) (id s c s2 c2 : ℕ) (h : RecvHalf) → AreCounted es s c → at es id ≡ Some h → ns ≡ without es id → s2 ≡ s - h.seen → c2 ≡ c - credit h → AreCounted ns s2 c2
removed_counted es ns id s c s2 c2 h are found is e f =
    let in_seen = seen_term es id s c h are found in
    let in_consumed = consumed_term es id s c h are found in
    record {
      seen = removed_sum (λ (k : RecvHalf). k.seen) es ns id (Some h) s s2 are.seen found is (omega arith);
      consumed = removed_sum credit es ns id (Some h) c c2 are.consumed found is (omega arith);
      within = subst AreWithin (sym is) (All-map-remove_entry (is_at (nat_cmp id)) (λ (e : ℕ × RecvHalf). e.1) (λ (k : RecvHalf). credit k ≤ k.seen) es are.within);
    }

-- a half that is in use is within its own greatest offset
pub half_within : (es : Table RecvHalf) (id s c : ℕ) (h : RecvHalf) → AreCounted es s c → at es id ≡ Some h → credit h ≤ h.seen
half_within es id s c h are found = subst (λ (o : Option RecvHalf). IfSome o (λ k. credit k ≤ k.seen)) found (IfSome-lookup_from_All (λ (k : RecvHalf). credit k ≤ k.seen) (is_at (nat_cmp id)) es are.within)

-- a half is changed of which neither changes
pub kept_counted : (es ns : Table RecvHalf) (id s c : ℕ) (h w : RecvHalf) → AreCounted es s c → at es id ≡ Some h → ns ≡ put es id w → w.seen ≡ h.seen → credit w ≡ credit h → AreCounted ns s c
kept_counted es ns id s c h w are found is e f =
    let in_seen = seen_term es id s c h are found in
    let in_consumed = consumed_term es id s c h are found in
    let own = half_within es id s c h are found in
    put_counted es ns id s c s c h w are found is (omega arith) (omega arith) (omega arith)

-- a read leaves the greatest offset
pub next_seen : (r : Result (Option Chunk) ReadError) (h : RecvHalf) (most : ℕ) → (half_after_next r h most).seen ≡ h.seen
next_seen (Ok (Some chunk)) h most = refl
next_seen (Ok None) h most = refl
next_seen (Err e) h most = refl
