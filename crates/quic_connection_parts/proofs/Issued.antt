-- Ids that are issued one after another, and drawn so.
use Rattle.std.proofs.Common.{Bool, true, false, ◌||◌, cond, ltb, Result, Ok, Err, ◌≡◌, ℕ, zero, suc, ◌+◌, ◌-◌, ◌*◌, ◌≤◌, ◌<◌, List, [], ◌∷◌, ◌++◌, length, drop, map, Option, Some, None, refl, sym, ap, subst, ◌∙◌, arith}
use Rattle.std.specs.Prelude.{replicate, slice_get, slice_index_or}
use Rattle.std.proofs.lemmas.List.{drop_more, map-append}
use Rattle.std.specs.List.{range_with_len}
use Rattle.rand_core.specs.Stream.{Stream, u64_call, after}
use Rattle.quic_wire_core.specs.declared.shared.IssuedCid.{IssuedCid}
use Rattle.quic_wire_core.specs.TransportError.{ErrorValue, plain_error, protocol_violation}
use Rattle.quic_ids.specs.CidState.{OwnIds, initial_ids, after_new, is_wrong, without, after_retirement, retirement_answer}
use Rattle.quic_ids.specs.CidQueue.{PeerIds}
use Rattle.quic_machine.specs.Ids.{Ids, NumberedId, with_number, own_id_length, first_ids, words_behind, words_of_id, drawn_id, drawn_ids, later_numbers, undrawn_id, issued_one, Drawing, drawn_one, drawn_places}
use Rattle.quic_connection_parts.specs.Drawn.{words_of, after_words}
use Rattle.quic_connection_parts.proofs.Words.{after_both}
use Rattle.quic_connection_parts.proofs.Living.{range_more, words_three, inserted_last, numbers_of, numbers_with}
use Rattle.quic_connection_parts.specs.Living.{RiseBelow}

-- what a source answers behind so many words
words_on : (a : ℕ) (s : Stream) (n : ℕ) → (after_words a s).u64_after (replicate n u64_call) ≡ s.u64_after (replicate (a + n) u64_call)
words_on zero s n = ap (λ (k : ℕ). s.u64_after (replicate k u64_call)) (let same : n ≡ zero + n = omega arith in same)
words_on (suc a) s n = words_on a (after u64_call s) n ∙ ap (λ (k : ℕ). s.u64_after (replicate k u64_call)) (let same : suc (a + n) ≡ suc a + n = omega arith in same)

pub words_after : {R : Type 0} (stream : R → Stream) (r s : R) (a : ℕ) → stream s ≡ after_words a (stream r) → words_behind a (words_of stream r) ≡ words_of stream s
words_after {R} stream r s a left = λ i n. same n i
  where
    same : (n : ℕ) → (stream r).u64_after (replicate (a + n) u64_call) ≡ (stream s).u64_after (replicate n u64_call)
    same n = sym (ap (λ (x : Stream). x.u64_after (replicate n u64_call)) left ∙ words_on a (stream r) n)

-- one number more
later_more : (n : ℕ) → 1 ≤ n → later_numbers (n + 1) ≡ later_numbers n ++ n ∷ []
later_more n some =
    ap (λ (k : ℕ). range_with_len 1 k) (let next : n + 1 - 1 ≡ suc (n - 1) = omega (arith, some) in next)
    ∙ range_more 1 (n - 1)
    ∙ ap (λ (k : ℕ). range_with_len 1 (n - 1) ++ k ∷ []) (let last : 1 + (n - 1) ≡ n = omega (arith, some) in last)

range_len : (a n : ℕ) → length (range_with_len a n) ≡ n
range_len a zero = refl
range_len a (suc n) = ap suc (range_len (a + 1) n)

-- one id more
drawn_last : (w v : ℕ → ℕ) (ns : List ℕ) (n : ℕ) → words_behind (3 * length ns) w ≡ v → drawn_ids w (ns ++ n ∷ []) ≡ drawn_ids w ns ++ drawn_id v n ∷ []
drawn_last w v [] n is = ap (λ (x : ℕ → ℕ). drawn_id x n ∷ []) (all ∙ is)
  where
    none : (m : ℕ) → m ≡ 3 * 0 + m
    none m = omega arith

    all : w ≡ words_behind (3 * 0) w
    all = λ i m. ap w (none m) i
drawn_last w v (k ∷ ns) n is = ap (λ (l : List IssuedCid). drawn_id w k ∷ l) (drawn_last (words_behind 3 w) v ns n (all ∙ is))
  where
    sum : (l m : ℕ) → 3 + (3 * l + m) ≡ 3 * suc l + m
    sum l m = omega arith

    all : words_behind (3 * length ns) (words_behind 3 w) ≡ words_behind (3 * suc (length ns)) w
    all = λ i m. ap w (sum (length ns) m) i

more_assoc : {A : Type 0} (xs ys : List A) (x : A) → (xs ++ ys) ++ x ∷ [] ≡ xs ++ (ys ++ x ∷ [])
more_assoc [] ys x = refl
more_assoc (y ∷ xs) ys x = ap (λ (l : List _). y ∷ l) (more_assoc xs ys x)

-- the next one is issued behind those with lesser numbers
module _ {R : Type 0} (stream : R → Stream) (first r s : R) (n : ℕ) (some : 1 ≤ n) (drawn : stream r ≡ after_words (3 * (n - 1)) (stream first)) where
  abbrev words : ℕ → ℕ
  words = words_of stream first

  next_ids : drawn_ids words (later_numbers (n + 1)) ≡ drawn_ids words (later_numbers n) ++ drawn_id (words_of stream r) n ∷ []
  next_ids =
      ap (λ (ns : List ℕ). drawn_ids words ns) (later_more n some)
      ∙ drawn_last words (words_of stream r) (later_numbers n) n
      (ap (λ (k : ℕ). words_behind (3 * k) words) (range_len 1 (n - 1)) ∙ words_after stream first r (3 * (n - 1)) drawn)

  pub next_living : (xs ys zs : List NumberedId) → ys ≡ xs ++ map with_number (drawn_ids words (later_numbers n)) → zs ≡ ys ++ with_number (drawn_id (words_of stream r) n) ∷ [] → zs ≡ xs ++ map with_number (drawn_ids words (later_numbers (n + 1)))
  next_living xs ys zs before put =
      let ids : List IssuedCid = drawn_ids words (later_numbers n) in
      let cid : IssuedCid = drawn_id (words_of stream r) n in
      put ∙ ap (λ (l : List NumberedId). l ++ with_number cid ∷ []) before
      ∙ more_assoc xs (map with_number ids) (with_number cid)
      ∙ ap (λ (l : List NumberedId). xs ++ l) (sym (ap (λ (l : List IssuedCid). map with_number l) next_ids ∙ map-append with_number ids (cid ∷ [])))

  pub next_waits : (xs : List IssuedCid) → (xs ++ drawn_ids words (later_numbers n)) ++ drawn_id (words_of stream r) n ∷ [] ≡ xs ++ drawn_ids words (later_numbers (n + 1))
  next_waits xs = more_assoc xs (drawn_ids words (later_numbers n)) (drawn_id (words_of stream r) n) ∙ ap (λ (l : List IssuedCid). xs ++ l) (sym next_ids)

  pub next_random : stream s ≡ after_words 3 (stream r) → stream s ≡ after_words (3 * (n + 1 - 1)) (stream first)
  next_random more =
      more ∙ ap (λ (x : Stream). after_words 3 x) drawn ∙ after_both (3 * (n - 1)) 3 (stream first)
      ∙ ap (λ (k : ℕ). after_words k (stream first)) (let sum : 3 * (n - 1) + 3 ≡ 3 * (n + 1 - 1) = omega (arith, some) in sum)

-- ---- ids that wait for their words, one by one

pub places_next : {R : Type 0} (stream : R → Stream) (r s : R) (places : List ℕ) (i : ℕ) (d x : Drawing) → i < length places
    → stream s ≡ after_words 3 (stream r) → x ≡ drawn_one (slice_get d.waiting (slice_index_or places i 0)) (slice_index_or places i 0) (words_of stream r) d
    → drawn_places (drop (i + 1) places) (words_of stream s) x ≡ drawn_places (drop i places) (words_of stream r) d
places_next stream r s places i d x within more is =
    ap (λ (y : Drawing). drawn_places (drop (i + 1) places) (words_of stream s) y) is
    ∙ ap (λ (w : ℕ → ℕ). drawn_places (drop (i + 1) places) w (drawn_one (slice_get d.waiting (slice_index_or places i 0)) (slice_index_or places i 0) (words_of stream r) d)) (sym (words_three stream r s more))
    ∙ ap (λ (l : List ℕ). drawn_places l (words_of stream r) d) (sym (drop_more places i 0 within))

pub places_random : {R : Type 0} (stream : R → Stream) (first r s : R) (i : ℕ) → stream r ≡ after_words (3 * i) (stream first) → stream s ≡ after_words 3 (stream r) → stream s ≡ after_words (3 * (i + 1)) (stream first)
places_random stream first r s i drawn more =
    more ∙ ap (λ (x : Stream). after_words 3 x) drawn ∙ after_both (3 * i) 3 (stream first)
    ∙ ap (λ (k : ℕ). after_words k (stream first)) (let sum : 3 * i + 3 ≡ 3 * (i + 1) = omega arith in sum)

-- their numbers stay
drawn_numbers : (o : Option IssuedCid) (place : ℕ) (w : ℕ → ℕ) (d : Drawing) → numbers_of (drawn_one o place w d).living ≡ numbers_of d.living
drawn_numbers None place w d = refl
drawn_numbers (Some cid) place w d = numbers_with (drawn_id w cid.sequence) d.living

pub places_numbers : (places : List ℕ) (w : ℕ → ℕ) (d : Drawing) → numbers_of (drawn_places places w d).living ≡ numbers_of d.living
places_numbers [] w d = refl
places_numbers (place ∷ places) w d = places_numbers places (words_behind words_of_id w) (drawn_one (slice_get d.waiting place) place w d) ∙ drawn_numbers (slice_get d.waiting place) place w d

-- ---- the first ids

pub view_first : (own theirs : List ℕ) (limit most now : ℕ) (w : ℕ → ℕ) (o : OwnIds) (ids : List NumberedId) (u : List ℕ) (p : PeerIds)
    → o ≡ initial_ids own_id_length None now limit → ids ≡ record { number = 0; id = own; token = None } ∷ map with_number (drawn_ids w (later_numbers limit)) → u ≡ [] → p ≡ record { active = 0; id = theirs; later = [] } → limit ≡ most
    → ◌≡◌ {A = Ids} (record { own = o; living = ids; changed = true; undrawn = u; limit = limit; peer = p }) (first_ids own theirs most now w)
view_first own theirs limit most now w o ids u p eo ei eu ep lim =
    (λ i. record { own = eo i; living = ei i; changed = true; undrawn = eu i; limit = limit; peer = ep i })
    ∙ ap (λ (k : ℕ). first_ids own theirs k now w) lim

-- ---- one that the peer retires

pub retired_own : (s : OwnIds) (n limit : ℕ) (fewer : Bool) → Ok fewer ≡ retirement_answer s n limit → after_retirement s n ≡ record s { living = without n s.living }
retired_own s n limit fewer = go (is_wrong s n)
  where
    go : (b : Bool) → ◌≡◌ {A = Result Bool ErrorValue} (Ok fewer) (cond b (Err (plain_error protocol_violation)) (Ok (ltb (length (without n s.living)) limit))) → cond b s (record s { living = without n s.living }) ≡ record s { living = without n s.living }
    go true is = absurd cc
    go false is = refl

-- whether one was issued or retired since, where this one lives, or doesn't
pub changed_by : (was lives : Bool) → lives ≡ true → true ≡ (was || lives)
changed_by true lives is = refl
changed_by false lives is = sym is

pub changed_before : (was lives : Bool) → lives ≡ false → was ≡ (was || lives)
changed_before true lives is = refl
changed_before false lives is = sym is

-- none is left at their end
drop_end : {X : Type 0} (xs : List X) (n : ℕ) → length xs ≤ n → drop n xs ≡ []
drop_end [] zero le = refl
drop_end [] (suc n) le = refl
drop_end (x ∷ xs) zero le = let far : suc (length xs) ≤ 0 = le in absurd (omega (arith, far))
drop_end (x ∷ xs) (suc n) le = drop_end xs n (let far : suc (length xs) ≤ suc n = le in omega (arith, far))

pub places_end : (places : List ℕ) (i : ℕ) (w : ℕ → ℕ) (d : Drawing) → length places ≤ i → drawn_places (drop i places) w d ≡ d
places_end places i w d le = ap (λ (l : List ℕ). drawn_places l w d) (drop_end places i le)

-- ---- one more of them

pub issues_living : (s : OwnIds) (n now : ℕ) → RiseBelow s.living 0 s.issued → s.issued ≡ n → (after_new s (undrawn_id n ∷ []) now).living ≡ s.living ++ n ∷ []
issues_living s n now up is = inserted_last s.living 0 n (subst (λ (k : ℕ). RiseBelow s.living 0 k) is up)

pub issues_one : (s : OwnIds) (n now : ℕ) → s.issued < 4611686018427387904 → (after_new s (undrawn_id n ∷ []) now).issued ≡ s.issued + 1
issues_one s n now few = omega (arith, few)

pub view_issued : (own : OwnIds) (ids : List NumberedId) (changed : Bool) (us : List ℕ) (limit : ℕ) (p : PeerIds) (behind now : ℕ) (o : OwnIds) (js : List NumberedId) (vs : List ℕ)
    → o ≡ after_new own (undrawn_id own.issued ∷ []) now → js ≡ ids ++ with_number (undrawn_id own.issued) ∷ [] → vs ≡ us ++ behind ∷ []
    → ◌≡◌ {A = Ids} (record { own = o; living = js; changed = true; undrawn = vs; limit = limit; peer = p }) (issued_one behind now (record { own = own; living = ids; changed = changed; undrawn = us; limit = limit; peer = p }))
view_issued own ids changed us limit p behind now o js vs eo ej ev = λ k. record { own = eo k; living = ej k; changed = true; undrawn = ev k; limit = limit; peer = p }
