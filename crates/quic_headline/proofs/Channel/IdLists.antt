-- Connection ids between two ends, by their numbers (RFC 9000, section 5.1.1): own ones that live
-- while the peer uses one or may still, and those of the peer that are known.
use Rattle.std.proofs.Common.{◌≡◌, ℕ, zero, suc, ◌+◌, ◌-◌, ◌^◌, ◌<◌, ◌≤◌, ◌==◌, ◌||◌, ◌&&◌, not, Bool, true, false, cond, ltb, leb, nat_lt, List, [], ◌∷◌, length, Option, None, Result, Ok, Err, refl, sym, ap, ◌∙◌, subst, inl, inr, arith}
use Rattle.std.specs.Ordering.{nat_cmp, match_ordering}
use Rattle.std.specs.declared.cmp.Ordering.{Ordering}
use Rattle.std.specs.declared.cmp.Ordering.TheVariants.{Less, Equal, Greater}
use Rattle.std.specs.BTreeMap.{is_at}
use Rattle.std.specs.BTreeSet.{insert_key}
use Rattle.std.specs.declared.ops.Range.{Range}
use Rattle.std.proofs.lemmas.Bool.{and_parts, or_left, or_right, or_cases, cases_lt, eqb-true, ltb-true, leb-true, eq-eqb, ne_eqb, lt-leb}
use Rattle.std.proofs.lemmas.List.{length-append}
use Rattle.quic_wire_core.specs.TransportError.{plain_error, protocol_violation}
use Rattle.quic_wire_core.specs.declared.shared.IssuedCid.{IssuedCid}
use Rattle.quic_wire.specs.declared.frame.NewConnectionId.{NewConnectionId}
use Rattle.quic_ids.specs.CidState.{OwnIds, is_in, below, without, is_wrong, after_retirement, retirement_answer, initial_ids, Rise}
use Rattle.quic_ids.specs.CidQueue.{PeerIds, IsWindow, kept_ids, from, with_cid, first_used, brought, exceeds, retires_active, left_by, retired_for, after_insert, after_next, insert_answer}
use Rattle.quic_ids.specs.declared.cid_queue.InsertError.{InsertError}
use Rattle.quic_ids.specs.declared.cid_queue.InsertError.TheVariants as inserts
use Rattle.quic_ids.proofs.OwnIdSteps.{insert_next}
use Rattle.quic_ids.proofs.OwnIdLaws.{in_inserted, rise_inserted, in_without, rise_without}
use Rattle.quic_ids.proofs.PeerIdLaws.{insert_window, next_window, next_rises}
use Rattle.quic_machine.specs.Ids.{Ids, own_id_length, words_behind, words_of_id, drawn_ids, retired, is_more, may_issue, issued_one, retires_for}
use Rattle.quic_headline.specs.Runs.{In}
use Rattle.quic_headline.proofs.Packets.Named.{in_filter}
use Rattle.quic_headline.proofs.Packets.Ids.{in_with}
use Rattle.quic_headline.proofs.Duties.OfIds.{insert_keeps}

-- ---- lists of numbers

-- one that stands in a list and is taken out was one of so many
pub length_without : (m : ℕ) (ks : List ℕ) → is_in m ks ≡ true → length (without m ks) + 1 ≡ length ks
length_without m [] is = cc
length_without m (k ∷ ks) is = go (is_at (nat_cmp m) k) is (length_without m ks)
  where
    go : (b : Bool) → (b || is_in m ks) ≡ true → (is_in m ks ≡ true → length (without m ks) + 1 ≡ length ks) → length (cond b ks (k ∷ without m ks)) + 1 ≡ suc (length ks)
    go true is more = omega arith
    go false is more = let rest = more is in omega arith

-- what is left is no longer
few_without : (m : ℕ) (ks : List ℕ) → length (without m ks) ≤ length ks
few_without m [] = omega arith
few_without m (k ∷ ks) = go (is_at (nat_cmp m) k) (few_without m ks)
  where
    go : (b : Bool) → length (without m ks) ≤ length ks → length (cond b ks (k ∷ without m ks)) ≤ suc (length ks)
    go true less = omega arith
    go false less = omega arith

-- one more is one more at most
few_inserted : (ks : List ℕ) (m : ℕ) → length (insert_key nat_cmp ks m) ≤ length ks + 1
few_inserted [] m = omega arith
few_inserted (k ∷ ks) m = go (nat_cmp m k) (few_inserted ks m)
  where
    go : (r : Ordering) → length (insert_key nat_cmp ks m) ≤ length ks + 1 → length (match_ordering r (m ∷ k ∷ ks) (k ∷ ks) (k ∷ insert_key nat_cmp ks m)) ≤ suc (length ks) + 1
    go Less less = omega arith
    go Equal less = omega arith
    go Greater less = omega arith

pub length_below : (m : ℕ) → length (below m) ≡ m
length_below zero = refl
length_below (suc m) = let all = length-append (below m) (m ∷ []) in let before = length_below m in omega arith

-- the numbers below one ascend, and each less number is one of them
pub below_rises : (m : ℕ) → Rise (below m) 0
below_rises zero = tt
below_rises (suc m) = subst (λ (ks : List ℕ). Rise ks 0) (insert_next m m (omega arith)) (rise_inserted (below m) m 0 (omega arith) (below_rises m))

is_below : (m n : ℕ) → n < m → is_in n (below m) ≡ true
is_below zero n less = absurd (omega arith)
is_below (suc m) n less = ap (λ (ks : List ℕ). is_in n ks) (sym (insert_next m m (omega arith))) ∙ in_inserted (below m) m n ∙ elim (cases_lt n m) [
  | inl before ↦ or_right (n == m) (is_in n (below m)) (is_below m n before)
  | inr last ↦ or_left (n == m) (is_in n (below m)) (eq-eqb n m (omega arith))
]

-- and no other is
pub only_below : (m n : ℕ) → is_in n (below m) ≡ true → n < m
only_below zero n is = cc
only_below (suc m) n is = elim (or_cases (n == m) (is_in n (below m)) (sym (in_inserted (below m) m n) ∙ (ap (λ (ks : List ℕ). is_in n ks) (insert_next m m (omega arith)) ∙ is))) [
  | inl same ↦ (let last = eqb-true n m same in omega arith)
  | inr before ↦ (let less = only_below m n before in omega arith)
]

both_are : (b c : Bool) → b ≡ true → c ≡ false → (b && not c) ≡ true
both_are true false on off = refl
both_are true true on off = cc
both_are false c on off = cc

-- a list with so many numbers, one behind the other, is as long
many_in : (count : ℕ) (ks : List ℕ) (first : ℕ) → Rise ks 0 → ((n : ℕ) → first ≤ n → n < first + count → is_in n ks ≡ true) → count ≤ length ks
many_in zero ks first rise all = omega arith
many_in (suc count) ks first rise all =
    let last : is_in (first + count) ks ≡ true = all (first + count) (omega arith) (omega arith) in
    let others = many_in count (without (first + count) ks) first (rise_without ks (first + count) 0 rise) (λ n low high.
    in_without ks (first + count) n 0 rise ∙ both_are (is_in n ks) (n == (first + count)) (all n low (omega arith)) (ne_eqb n (first + count) (λ same. omega arith))) in
    let one = length_without (first + count) ks last in
    omega arith

-- ---- own ids

-- Of the own ids the peer uses the one of this number, or one behind it: it was issued, all from it
-- on live, and no more than an end keeps of its peer's.
pub record Owns (used limit : ℕ) (own : OwnIds) : Type 0 where
  pub long : own.id_len ≡ own_id_length
  pub issued : used < own.issued
  pub limited : limit ≤ kept_ids
  pub few : length own.living ≤ kept_ids
  pub rise : Rise own.living 0
  pub live : (n : ℕ) → used ≤ n → n < own.issued → is_in n own.living ≡ true

-- the peer uses a later one
pub owns_later : (used more limit : ℕ) (own : OwnIds) → used ≤ more → more < own.issued → Owns used limit own → Owns more limit own
owns_later used more limit own up some i = record { long = i.long; issued = some; limited = i.limited; few = i.few; rise = i.rise; live = λ n low high. i.live n (omega arith) high }

-- no more were issued than are kept from the one in use on
pub owned_near : (used limit : ℕ) (own : OwnIds) → Owns used limit own → own.issued ≤ used + kept_ids
owned_near used limit own i =
    let some = i.issued in
    let few = i.few in
    let count = many_in (own.issued - used) own.living used i.rise (λ n low high. i.live n low (omega arith)) in
    omega arith

-- with those that are issued at once
pub first_owns : (now limit : ℕ) → 0 < limit → limit ≤ kept_ids → Owns 0 limit (initial_ids own_id_length None now limit)
first_owns now limit some most = record {
  long = refl;
  issued = some;
  limited = most;
  few = (let count = length_below limit in omega arith);
  rise = below_rises limit;
  live = λ n low high. is_below limit n high;
}

-- the peer retires one before
retired_owns : (used limit n : ℕ) (own : OwnIds) → n < used → Owns used limit own → Owns used limit (after_retirement own n)
retired_owns used limit n own before i = go (is_wrong own n)
  where
    go : (b : Bool) → Owns used limit (cond b own (record own { living = without n own.living }))
    go true = i
    go false = record {
      long = i.long;
      issued = i.issued;
      limited = i.limited;
      few = (let less = few_without n own.living in let few = i.few in omega arith);
      rise = rise_without own.living n 0 i.rise;
      live = λ m low high. in_without own.living n m 0 i.rise ∙ both_are (is_in m own.living) (m == n) (i.live m low high) (ne_eqb m n (λ same. omega arith));
    }

-- that issues none
pub retired_issued : (own : OwnIds) (n : ℕ) → (after_retirement own n).issued ≡ own.issued
retired_issued own n = go (is_wrong own n)
  where
    go : (b : Bool) → (cond b own (record own { living = without n own.living })).issued ≡ own.issued
    go true = refl
    go false = refl

-- where the next one is issued, fewer live than may, and its number can be written
pub room_left : (ids : Ids) (n : ℕ) → may_issue ids n ≡ true → (length (after_retirement ids.own n).living < ids.limit) × (ids.own.issued < 2 ^ 62)
room_left ids n may =
    let both = and_parts (is_more (retirement_answer ids.own n ids.limit)) (nat_lt ids.own.issued (2 ^ 62)) may in
    (go (is_wrong ids.own n) both.0, ltb-true ids.own.issued (2 ^ 62) both.1)
  where
    go : (b : Bool) → is_more (cond b (Err (plain_error protocol_violation)) (Ok (ltb (length (without n ids.own.living)) ids.limit))) ≡ true → length (cond b ids.own (record ids.own { living = without n ids.own.living })).living < ids.limit
    go true is = cc
    go false is = ltb-true (length (without n ids.own.living)) ids.limit is

-- it is issued
pub next_issued : (place now : ℕ) (ids : Ids) → ids.own.issued < 2 ^ 62 → (issued_one place now ids).own.issued ≡ ids.own.issued + 1
next_issued place now ids small = omega arith

issued_owns : (used place now : ℕ) (ids : Ids) → length ids.own.living < ids.limit → ids.own.issued < 2 ^ 62 → Owns used ids.limit ids.own → Owns used ids.limit (issued_one place now ids).own
issued_owns used place now ids room small i = record {
  long = i.long;
  issued = (let some = i.issued in omega arith);
  limited = i.limited;
  few = (let more = few_inserted ids.own.living ids.own.issued in let most = i.limited in omega arith);
  rise = rise_inserted ids.own.living ids.own.issued 0 (omega arith) i.rise;
  live = λ n low high. in_inserted ids.own.living ids.own.issued n ∙ elim (cases_lt n ids.own.issued) [
    | inl less ↦ or_right (n == ids.own.issued) (is_in n ids.own.living) (i.live n low less)
    | inr last ↦ or_left (n == ids.own.issued) (is_in n ids.own.living) (eq-eqb n ids.own.issued (omega arith))
  ];
}
  where
    next : (issued_one place now ids).own.issued ≡ ids.own.issued + 1
    next = next_issued place now ids small

-- a retirement of one before, for which the next one may be issued
pub retirement_owns : (used n : ℕ) (ids : Ids) → n < used → Owns used ids.limit ids.own → Owns used ids.limit (retired n ids).own
retirement_owns used n ids before i = retired_owns used ids.limit n ids.own before i

pub renewal_owns : (used n place now : ℕ) (ids : Ids) → n < used → may_issue ids n ≡ true → Owns used ids.limit ids.own → Owns used ids.limit (issued_one place now (retired n ids)).own
renewal_owns used n place now ids before may i =
    let room = room_left ids n may in
    let small = room.1 in
    let same = retired_issued ids.own n in
    issued_owns used place now (retired n ids) room.0 (omega arith) (retired_owns used ids.limit n ids.own before i)

-- a retirement of one before is no fault
pub retires_rightly : (used limit n : ℕ) (own : OwnIds) → n < used → Owns used limit own → is_wrong own n ≡ false
retires_rightly used limit n own before i = go (own.id_len == 0) refl (leb own.issued n) refl
  where
    go : (b : Bool) → (own.id_len == 0) ≡ b → (c : Bool) → leb own.issued n ≡ c → (b || c) ≡ false
    go b empty c wrong =
        let long = i.long in
        let some = i.issued in
        both (sym empty ∙ ne_eqb own.id_len 0 (λ none. omega arith)) (sym wrong ∙ lt-leb own.issued n (omega arith))
      where
        both : b ≡ false → c ≡ false → (b || c) ≡ false
        both off rightly = ap (λ (x : Bool). x || c) off ∙ rightly

-- ---- ids of the peer

-- All ids of the peer that are known were issued, of which it issued so many.
pub record Knows (issued : ℕ) (p : PeerIds) : Type 0 where
  pub window : IsWindow p
  pub active : p.active < issued
  pub later : (c : IssuedCid) → In c p.later → c.sequence < issued

-- it issues more
pub knows_later : (issued more : ℕ) (p : PeerIds) → issued ≤ more → Knows issued p → Knows more p
knows_later issued more p up k = record {
  window = k.window;
  active = (let before = k.active in omega arith);
  later = λ c i. (let before = k.later c i in omega arith);
}

-- the first of others comes into use
first_later : (cs : List IssuedCid) (p : PeerIds) (P : IssuedCid → Type 0) → ((c : IssuedCid) → In c p.later → P c) → ((c : IssuedCid) → In c cs → P c) → (c : IssuedCid) → In c (first_used cs p).later → P c
first_later [] p P old all c i = old c i
first_later (d ∷ ds) p P old all c i = all c (inr i)

-- a frame brings one that was issued, and asks for no retirements
pub inserted_knows : (issued : ℕ) (p : PeerIds) (g : NewConnectionId) → g.retire_prior_to ≡ 0 → g.sequence < issued → Knows issued p → Knows issued (after_insert p g)
inserted_knows issued p g none small k = record {
  window = insert_window p g (omega arith) k.window;
  active = (let same = insert_keeps p g none in let before = k.active in omega arith);
  later = go (ltb g.sequence p.active || exceeds p g) (retires_active p g) (g.sequence == p.active);
}
  where
    IsOne : IssuedCid → Type 0
    IsOne c = c.sequence < issued

    more : (cs : List IssuedCid) → ((c : IssuedCid) → In c cs → IsOne c) → (c : IssuedCid) → In c (with_cid cs (brought g)) → IsOne c
    more cs all c i = elim (in_with cs (brought g) c i) [ inl old ↦ all c old | inr same ↦ subst IsOne (sym same) small ]

    go : (refused retires known : Bool) → (c : IssuedCid) → In c (cond refused p (cond retires (first_used (left_by p g) p) (cond known (record p { id = (brought g).id }) (record p { later = with_cid p.later (brought g) })))).later → IsOne c
    go true retires known c i = k.later c i
    go false true known c i = first_later (left_by p g) p IsOne k.later (more (from g.retire_prior_to p.later) (λ d j. k.later d (in_filter (λ x. leb g.retire_prior_to x.sequence) d p.later j))) c i
    go false false true c i = k.later c i
    go false false false c i = more p.later k.later c i

-- what such a frame is answered: it is taken up, or comes late; or it brings one too far above that
-- in use
pub data Inserted (p : PeerIds) (g : NewConnectionId) : Type 0 where
  taken_up : retires_for (insert_answer p g) ≡ Ok None → Inserted p g
  late : retires_for (insert_answer p g) ≡ Err inserts.Retired → g.sequence < p.active → Inserted p g
  far : retires_for (insert_answer p g) ≡ Err inserts.ExceedsLimit → p.active + kept_ids ≤ g.sequence → Inserted p g

abbrev answers_as : PeerIds → NewConnectionId → Bool → Bool → Bool → Result (Option (Range ℕ)) InsertError
answers_as p g before beyond retires = retires_for (cond before (Err inserts.Retired) (cond beyond (Err inserts.ExceedsLimit) (Ok (cond retires (retired_for (left_by p g) p.active) None))))

pub inserted : (p : PeerIds) (g : NewConnectionId) → g.retire_prior_to ≡ 0 → Inserted p g
inserted p g none = go (ltb g.sequence p.active) refl (exceeds p g) refl (retires_active p g) refl
  where
    answer : (before beyond retires : Bool) → ltb g.sequence p.active ≡ before → exceeds p g ≡ beyond → retires_active p g ≡ retires → retires_for (insert_answer p g) ≡ answers_as p g before beyond retires
    answer before beyond retires b f r =
        ap (λ (x : Bool). answers_as p g x (exceeds p g) (retires_active p g)) b
        ∙ ap (λ (x : Bool). answers_as p g before x (retires_active p g)) f
        ∙ ap (λ (x : Bool). answers_as p g before beyond x) r

    go : (before : Bool) → ltb g.sequence p.active ≡ before → (beyond : Bool) → exceeds p g ≡ beyond → (retires : Bool) → retires_active p g ≡ retires → Inserted p g
    go true b beyond f retires r = late (answer true beyond retires b f r) (ltb-true g.sequence p.active b)
    go false b true f retires r = far (answer false true retires b f r) (let up = leb-true (kept_ids + (g.retire_prior_to - p.active)) (g.sequence - p.active) f in omega arith)
    go false b false f true r = let above = ltb-true p.active g.retire_prior_to r in absurd (omega arith)
    go false b false f false r = taken_up (answer false false false b f r)

-- the next one is used
pub next_knows : (issued : ℕ) (p : PeerIds) → Knows issued p → Knows issued (after_next p)
next_knows issued p k = record { window = next_window p k.window; active = active p.later k.later; later = first_later p.later p (λ (c : IssuedCid). c.sequence < issued) k.later k.later }
  where
    active : (cs : List IssuedCid) → ((c : IssuedCid) → In c cs → c.sequence < issued) → (first_used cs p).active < issued
    active [] all = k.active
    active (c ∷ cs) all = all c (inl refl)

-- it has a greater number
pub next_above : (issued : ℕ) (p : PeerIds) → Knows issued p → p.active ≤ (after_next p).active
next_above issued p k = next_rises p k.window

-- ---- ids that are drawn

-- each has one of the numbers
pub drawn_numbers : (words : ℕ → ℕ) (ns : List ℕ) (c : IssuedCid) → In c (drawn_ids words ns) → In c.sequence ns
drawn_numbers words [] c i = absurd i
drawn_numbers words (n ∷ ns) c (inl same) = inl (ap (λ (d : IssuedCid). d.sequence) same)
drawn_numbers words (n ∷ ns) c (inr more) = inr (drawn_numbers (words_behind words_of_id words) ns c more)
