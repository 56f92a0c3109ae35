-- A search stays between the least size and the peer's limit.
use Rattle.std.proofs.Common.{◌≡◌, ℕ, ◌+◌, ◌-◌, ◌/◌, ◌≤◌, leb, ltb, cond, max, Bool, true, false, refl, sym, subst, arith, Some, None, Option}
use Rattle.std.specs.Prelude.{◌==◌}
use Rattle.std.specs.Option.{is_some, option_map, option_and_then}
use Rattle.std.specs.Int.{abs_diff}
use Rattle.std.proofs.lemmas.Bool.{leb-true}
use Rattle.quic_config.specs.Configs.{SearchSettings}
use Rattle.quic_congestion.specs.Bursts.{after_told}
use Rattle.quic_congestion.specs.Search.{Search, Plan, Discovery, SearchCall, Reset, Polled, Limited, Acknowledged, ProbeLost, PacketLost, Asked, within, begun, narrowed, middle, halved, next_size, succeeded, failed, failed_if, due, due_if, size_if, size_unless, plan_names, probed_if, polled_unless, polled_if, plan_polled, plan_anew, plan_cooled, plan_succeeded, plan_failed, is_number, search_in, probed_by, search_after, new_discovery, acknowledged_if, acknowledged_probe, finds_black_hole, poll_names}
use Rattle.quic_congestion.specs.SearchBounds.{IsAbove, IsBelow, IsSearch, IsSearchIf, IsPlanIf, StaysBetween, HandsInNoLess}
use Rattle.quic_congestion.proofs.SearchSizes.{lost_least, acknowledged_least, told_least}

-- ---- limits

within_above : (k : ℕ) (limit : Option ℕ) (size : ℕ) → k ≤ size → IsAbove k limit → k ≤ within limit size
within_above k None size l h = l
within_above k (Some limit) size l h = omega arith

within_below : (limit : Option ℕ) (size : ℕ) → IsBelow limit (within limit size)
within_below None size = tt
within_below (Some limit) size = omega arith

less_below : (limit : Option ℕ) (a b : ℕ) → a ≤ b → IsBelow limit b → IsBelow limit a
less_below None a b l h = tt
less_below (Some limit) a b l h = omega arith

more_below : (limit : Option ℕ) (a b : ℕ) → IsBelow limit a → IsBelow limit b → IsBelow limit (max a b)
more_below None a b h i = tt
more_below (Some limit) a b h i = omega arith

-- ---- one search

begun_between : (k size bound : ℕ) (limit : Option ℕ) → k ≤ size → IsAbove k limit → IsSearch k limit (begun size limit bound)
begun_between k size bound limit l h = record {
  low = within_above k limit size l h;
  last = omega arith;
  high = omega arith;
  last_within = within_below limit size;
  high_within = more_below limit (within limit size) (within limit bound) (within_below limit size) (within_below limit bound);
}

pub narrowed_between : (k : ℕ) (limit : Option ℕ) (s : Search) → IsSearch k limit s → IsSearch k limit (narrowed s)
narrowed_between k limit s h = go (s.lost == 0) (ltb s.lost 3)
  where
    go : (t u : Bool) → IsSearch k limit (cond t (record s { low = s.last }) (cond u s (record s { high = s.last - 1; lost = 0 })))
    go true u =
        let a = h.low in
        let b = h.last in
        record { low = omega arith; last = omega arith; high = h.high; last_within = h.last_within; high_within = h.high_within }
    go false true = h
    go false false = record {
      low = h.low;
      last = h.last;
      high = omega arith;
      last_within = h.last_within;
      high_within = less_below limit (s.last - 1) s.last (omega arith) h.last_within;
    }

-- what holds of the next size
pub record IsNext (limit : Option ℕ) (s : Search) (n : ℕ) : Type 0 where
  pub low : s.low ≤ n
  pub high : n ≤ s.high + 1
  pub cut : IsBelow limit n

pub middle_next : (low high last change : ℕ) → low ≤ last → last ≤ high + 1 → 2 ≤ change → change ≤ abs_diff ((low + high) / 2) last → (low ≤ (low + high) / 2) × ((low + high) / 2 ≤ high)
middle_next low high last change a b c d = (omega arith, omega arith)

halved_next : (k change : ℕ) (limit : Option ℕ) (s : Search) (n : ℕ) → IsSearch k limit s → 2 ≤ change → halved change s ≡ Some n → IsNext limit s n
halved_next k change limit s n h two e = go (leb change (abs_diff (middle s) s.last)) (leb change (s.high - s.last)) refl refl e
  where
    go : (t u : Bool) → leb change (abs_diff (middle s) s.last) ≡ t → leb change (s.high - s.last) ≡ u → cond t (Some (middle s)) (cond u (Some s.high) None) ≡ Some n → IsNext limit s n
    go true u f g e =
        let same : middle s ≡ n = cc in
        let l = middle_next s.low s.high s.last change h.last h.high two (leb-true change (abs_diff (middle s) s.last) f) in
        subst (IsNext limit s) same (record { low = l.0; high = omega arith; cut = less_below limit (middle s) s.high l.1 h.high_within })
    go false true f g e =
        let same : s.high ≡ n = cc in
        let far = leb-true change (s.high - s.last) g in
        let a = h.last in
        subst (IsNext limit s) same (record { low = omega arith; high = omega arith; cut = h.high_within })
    go false false f g e = cc

pub next_between : (k change : ℕ) (limit : Option ℕ) (s : Search) (n : ℕ) → IsSearch k limit s → 2 ≤ change → next_size change s ≡ Some n → IsNext limit s n
next_between k change limit s n h two e = go (s.lost == 0) e
  where
    go : (t : Bool) → cond t (halved change s) (Some s.last) ≡ Some n → IsNext limit s n
    go true f = halved_next k change limit s n h two f
    go false f =
        let same : s.last ≡ n = cc in
        subst (IsNext limit s) same (record { low = h.last; high = h.high; cut = h.last_within })

failed_between : (k : ℕ) (limit : Option ℕ) (s : Search) (p : Option ℕ) → IsSearch k limit s → IsSearch k limit (failed_if p s)
failed_between k limit s None h = h
failed_between k limit s (Some number) h = record { low = h.low; last = h.last; high = h.high; last_within = h.last_within; high_within = h.high_within }

-- ---- a poll

pub due_between : (k now size : ℕ) (limit : Option ℕ) (plan : Plan) (o : Option Search) → k ≤ size → IsAbove k limit → IsSearchIf k limit o → IsSearchIf k limit (due_if o now size limit plan)
due_between k now size limit plan None l h i = go (ltb now plan.next)
  where
    go : (t : Bool) → IsSearchIf k limit (cond t None (Some (begun size limit plan.settings.upper_bound)))
    go true = tt
    go false = begun_between k size plan.settings.upper_bound limit l h
due_between k now size limit plan (Some s) l h i = i

probed_between : (k now number : ℕ) (limit : Option ℕ) (plan : Plan) (s : Search) (o : Option ℕ) → 2 ≤ plan.settings.least_change → IsSearch k limit s → ((n : ℕ) → o ≡ Some n → IsNext limit s n) → IsPlanIf k limit (Some (probed_if o s now number plan))
probed_between k now number limit plan s None two h next = (two, tt)
probed_between k now number limit plan s (Some size) two h next =
    let i = next size refl in
    (two, record { low = h.low; last = i.low; high = i.high; last_within = i.cut; high_within = h.high_within })

unless_between : (k now number : ℕ) (limit : Option ℕ) (plan : Plan) (s : Search) (p : Option ℕ) → IsPlanIf k limit (Some plan) → IsSearch k limit s → IsPlanIf k limit (Some (polled_unless p s now number plan))
unless_between k now number limit plan s None h i =
    let j = narrowed_between k limit s i in
    probed_between k now number limit plan (narrowed s) (next_size plan.settings.least_change (narrowed s)) h.0 j (λ n e. next_between k plan.settings.least_change limit (narrowed s) n j h.0 e)
unless_between k now number limit plan s (Some m) h i = h

polled_between : (k now number : ℕ) (limit : Option ℕ) (plan : Plan) (o : Option Search) → IsPlanIf k limit (Some plan) → IsSearchIf k limit o → IsPlanIf k limit (Some (polled_if o now number plan))
polled_between k now number limit plan None h i = h
polled_between k now number limit plan (Some s) h i = unless_between k now number limit plan s s.probe h i

plans_between : (k now number size : ℕ) (limit : Option ℕ) (o : Option Plan) → k ≤ size → IsAbove k limit → IsPlanIf k limit o → IsPlanIf k limit (option_map (plan_polled now number size limit) o)
plans_between k now number size limit None l h i = tt
plans_between k now number size limit (Some plan) l h i = polled_between k now number limit plan (due now size limit plan) i (due_between k now size limit plan plan.current l h i.1)

named_unless : (k change n : ℕ) (limit : Option ℕ) (s : Search) (p : Option ℕ) → 2 ≤ change → IsSearch k limit s → size_unless p change s ≡ Some n → (k ≤ n) × IsBelow limit n
named_unless k change n limit s None two h e =
    let j = narrowed_between k limit s h in
    let i = next_between k change limit (narrowed s) n j two e in
    let a : k ≤ (narrowed s).low = j.low in
    let b : (narrowed s).low ≤ n = i.low in
    (omega arith, i.cut)
named_unless k change n limit s (Some m) two h e = cc

named_if : (k change n : ℕ) (limit : Option ℕ) (o : Option Search) → 2 ≤ change → IsSearchIf k limit o → size_if o change ≡ Some n → (k ≤ n) × IsBelow limit n
named_if k change n limit None two h e = cc
named_if k change n limit (Some s) two h e = named_unless k change n limit s s.probe two h e

named_plan : (k now size n : ℕ) (limit : Option ℕ) (o : Option Plan) → k ≤ size → IsAbove k limit → IsPlanIf k limit o → option_and_then (plan_names now size limit) o ≡ Some n → (k ≤ n) × IsBelow limit n
named_plan k now size n limit None l h i e = cc
named_plan k now size n limit (Some plan) l h i e = named_if k plan.settings.least_change n limit (due now size limit plan) i.0 (due_between k now size limit plan plan.current l h i.1) e

pub named_between : (k : ℕ) (d : Discovery) (now n : ℕ) → StaysBetween k d → poll_names now d ≡ Some n → (k ≤ n) × IsBelow d.limit n
named_between k d now n h e = named_plan k now d.size n d.limit d.plan h.size h.limit h.plan e

-- ---- other calls

anew_between : (k : ℕ) (limit : Option ℕ) (o : Option Plan) → IsPlanIf k limit o → IsPlanIf k limit (option_map plan_anew o)
anew_between k limit None h = tt
anew_between k limit (Some plan) h = (h.0, tt)

cooled_between : (k now : ℕ) (limit : Option ℕ) (o : Option Plan) → IsPlanIf k limit o → IsPlanIf k limit (option_map (plan_cooled now) o)
cooled_between k now limit None h = tt
cooled_between k now limit (Some plan) h = (h.0, tt)

still_between : (k limit : ℕ) (old : Option ℕ) (o : Option Plan) → is_some (option_and_then search_in o) ≡ false → IsPlanIf k old o → IsPlanIf k (Some limit) o
still_between k limit old None e h = tt
still_between k limit old (Some plan) e h = (h.0, go plan.current e)
  where
    go : (p : Option Search) → is_some p ≡ false → IsSearchIf k (Some limit) p
    go None f = tt
    go (Some s) f = absurd cc

succeeded_search : (k : ℕ) (limit : Option ℕ) (o : Option Search) → IsSearchIf k limit o → IsSearchIf k limit (option_map succeeded o)
succeeded_search k limit None h = tt
succeeded_search k limit (Some s) h = record { low = h.low; last = h.last; high = h.high; last_within = h.last_within; high_within = h.high_within }

succeeded_between : (k : ℕ) (limit : Option ℕ) (o : Option Plan) → IsPlanIf k limit o → IsPlanIf k limit (option_map plan_succeeded o)
succeeded_between k limit None h = tt
succeeded_between k limit (Some plan) h = (h.0, succeeded_search k limit plan.current h.1)

failed_search : (k : ℕ) (limit : Option ℕ) (o : Option Search) → IsSearchIf k limit o → IsSearchIf k limit (option_map failed o)
failed_search k limit None h = tt
failed_search k limit (Some s) h = failed_between k limit s s.probe h

failed_plans : (k : ℕ) (limit : Option ℕ) (o : Option Plan) → IsPlanIf k limit o → IsPlanIf k limit (option_map plan_failed o)
failed_plans k limit None h = tt
failed_plans k limit (Some plan) h = (h.0, failed_search k limit plan.current h.1)

probed_last : (k number n : ℕ) (limit : Option ℕ) (o : Option Search) → IsSearchIf k limit o → probed_by number o ≡ Some n → k ≤ n
probed_last k number n limit None h e = cc
probed_last k number n limit (Some s) h e = go (is_number number s.probe) e
  where
    go : (t : Bool) → cond t (Some s.last) None ≡ Some n → k ≤ n
    go true f =
        let same : s.last ≡ n = cc in
        let a = h.low in
        let b = h.last in
        omega arith
    go false f = cc

probed_plan : (k number n : ℕ) (limit : Option ℕ) (o : Option Plan) → IsPlanIf k limit o → probed_by number (option_and_then search_in o) ≡ Some n → k ≤ n
probed_plan k number n limit None h e = cc
probed_plan k number n limit (Some plan) h e = probed_last k number n limit plan.current h.1 e

pub begins_between : (k size least : ℕ) (limit : Option ℕ) (settings : SearchSettings) → k ≤ size → k ≤ least → IsAbove k limit → 2 ≤ settings.least_change → StaysBetween k (new_discovery size least limit settings)
begins_between k size least limit settings a b h two = record { size = within_above k limit size a h; floor = b; limit = h; plan = (two, tt) }

pub keeps_between : (k : ℕ) (call : SearchCall) (d : Discovery) → HandsInNoLess k call d → StaysBetween k d → StaysBetween k (search_after call d)
keeps_between k (Reset size least) d f h = record { size = within_above k d.limit size f.0 h.limit; floor = f.1; limit = h.limit; plan = anew_between k d.limit d.plan h.plan }
keeps_between k (Polled now number) d f h = record { size = h.size; floor = h.floor; limit = h.limit; plan = plans_between k now number d.size d.limit d.plan h.size h.limit h.plan }
keeps_between k (Limited limit) d f h =
    let a = h.size in
    let b = f.0 in
    record { size = omega arith; floor = h.floor; limit = f.0; plan = still_between k limit d.limit d.plan f.1 h.plan }
keeps_between k (Acknowledged number length) d f h = go (acknowledged_probe number d) refl
  where
    go : (o : Option ℕ) → acknowledged_probe number d ≡ o → StaysBetween k (acknowledged_if o number length d)
    go None e = record { size = h.size; floor = subst (λ (x : ℕ). k ≤ x) (sym (acknowledged_least number length d.bursts)) h.floor; limit = h.limit; plan = h.plan }
    go (Some size) e = record { size = probed_plan k number size d.limit d.plan h.plan e; floor = h.floor; limit = h.limit; plan = succeeded_between k d.limit d.plan h.plan }
keeps_between k ProbeLost d f h = record { size = h.size; floor = h.floor; limit = h.limit; plan = failed_plans k d.limit d.plan h.plan }
keeps_between k (PacketLost number length) d f h = record { size = h.size; floor = subst (λ (x : ℕ). k ≤ x) (sym (lost_least d.bursts.current number length d.bursts)) h.floor; limit = h.limit; plan = h.plan }
keeps_between k (Asked now) d f h = go (finds_black_hole d)
  where
    found : Discovery
    found = record d { size = d.bursts.least; plan = option_map (plan_cooled now) d.plan; bursts = after_told d.bursts }

    go : (t : Bool) → StaysBetween k (cond t found (record d { bursts = after_told d.bursts }))
    go true = record { size = h.floor; floor = subst (λ (x : ℕ). k ≤ x) (sym (told_least d.bursts)) h.floor; limit = h.limit; plan = cooled_between k now d.limit d.plan h.plan }
    go false = record { size = h.size; floor = subst (λ (x : ℕ). k ≤ x) (sym (told_least d.bursts)) h.floor; limit = h.limit; plan = h.plan }
