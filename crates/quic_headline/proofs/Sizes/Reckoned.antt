-- The search for a size is as its observer reckons it, whatever packets are acknowledged and lost,
-- and whenever it is asked for a size.
use Rattle.std.proofs.Common.{◌≡◌, ◌⊎◌, ℕ, ◌+◌, ◌-◌, ◌<◌, ◌≤◌, ltb, cond, max, length, filter, Bool, true, false, not, ◌||◌, List, [], ◌∷◌, Option, Some, None, option_map, inl, inr, refl, sym, ap, ◌∙◌, subst, arith}
use Rattle.std.specs.Prelude.{◌==◌, nat_lt, if◌then◌else◌}
use Rattle.std.specs.List.{list_any}
use Rattle.std.specs.Option.{option_and_then}
use Rattle.std.proofs.lemmas.Bool.{cases_lt, both_ways, ltb-false, lt-ltb, le-ltb, ne_eqb}
use Rattle.quic_config.specs.Configs.{SearchSettings}
use Rattle.quic_config.specs.Transport.{TransportSettings}
use Rattle.quic_congestion.specs.Bursts.{ended, is_black_hole}
use Rattle.quic_congestion.specs.Search as of_search
use Rattle.quic_congestion.specs.Search.{Search, Plan, Discovery, narrowed, later, is_number, open_of, probed_by, search_in, failed_if, failed, plan_succeeded, plan_failed, plan_cooled, acknowledged_if, after_ack, after_question}
use Rattle.quic_congestion.proofs.SearchSizes.{told_least}
use Rattle.quic_streams_parts.specs.Table.{Table}
use Rattle.quic_machine.specs.Tracking.{TrackedPacket}
use Rattle.quic_machine.specs.Sizes.{with_one_lost, with_all_lost, asked_behind, after_lost}
use Rattle.quic_headline.specs.Observer.{Sent, latest}
use Rattle.quic_headline.specs.PathSizes.{Burst, bursts_of, counted, Seeking, Sizing, is_of, later_by, interval_of, cooldown_of, sought, probe_ended, arrived, acked_if, with_acked, is_suspicious, with_burst, with_bursts, lost_again, probe_lost, probe_lost_if, search_over, fallen_if, with_told, with_lost}
use Rattle.quic_headline.proofs.Packets.Waited.{IsWaited, AreWaited, waited_filter, waited_any}
use Rattle.quic_headline.proofs.Sizes.Bursts.{AreKept, Knows, lost_all, lost_knows, arrived_knows}

-- ---- what both know

-- a search with what its last probe says of the bounds, unless one is open
abbrev pub settled : Option ℕ → Search → Search
settled None s = narrowed s
settled (Some n) s = s

-- A search is under way, from this size on.
pub record IsUnderWay (c : SearchSettings) (clock size : ℕ) (k : Seeking) (s : Search) : Type 0 where
  pub probe : k.probe ≡ s.probe
  pub under_way : k.under_way ≡ true
  pub last : k.last ≡ s.last
  pub low : size ≡ (settled s.probe s).low
  pub high : k.high ≡ (settled s.probe s).high
  pub lost : k.lost ≡ (settled s.probe s).lost
  pub few : k.lost ≤ 2
  pub rests : k.rests ≤ later clock c.interval

-- None is: none looks for a size, and the next begins no sooner than the observer says.
pub record IsResting (c : SearchSettings) (next size : ℕ) (k : Seeking) : Type 0 where
  pub probe : k.probe ≡ None
  pub none : sought c size k ≡ None
  pub rests : k.rests ≤ next

abbrev pub SearchIs : SearchSettings → ℕ → ℕ → ℕ → Seeking → Option Search → Type 0
SearchIs c clock next size k None = IsResting c next size k
SearchIs c clock next size k (Some s) = IsUnderWay c clock size k s

-- of an end with these settings, or with none
abbrev pub PlanIs : Option SearchSettings → ℕ → ℕ → Seeking → Option Plan → Type 0
PlanIs None clock size k None = k.probe ≡ None
PlanIs (Some c) clock size k (Some plan) = (plan.settings ≡ c) × SearchIs c clock plan.next size k plan.current × (k.rests ≤ latest)
PlanIs None clock size k (Some plan) = ⊥
PlanIs (Some c) clock size k None = ⊥

-- An end and its observer know the same of its path.
pub record IsReckoned (c : TransportSettings) (clock : ℕ) (z : Sizing) (d : Discovery) : Type 0 where
  pub size : z.size ≡ d.size
  pub bursts : Knows c.min_mtu z d.bursts
  pub few : length z.suspicious ≤ 3
  pub plan : PlanIs c.mtu_discovery_config clock z.size z.seeks d.plan

-- ---- the probe that is open

number_is : (n : ℕ) (o : Option ℕ) → is_number n o ≡ is_of n o
number_is n None = refl
number_is n (Some m) = refl

-- both know its number
pub open_is : (o : Option SearchSettings) (clock size : ℕ) (k : Seeking) (q : Option Plan) → PlanIs o clock size k q → open_of (option_and_then search_in q) ≡ k.probe
open_is None clock size k None i = sym i
open_is (Some c) clock size k (Some plan) i = go plan.current i.1
  where
    go : (x : Option Search) → SearchIs c clock plan.next size k x → open_of x ≡ k.probe
    go None j = sym j.probe
    go (Some s) j = sym j.probe
open_is None clock size k (Some plan) i = absurd i
open_is (Some c) clock size k None i = absurd i

-- and its size
probed_is : (o : Option SearchSettings) (clock size n : ℕ) (k : Seeking) (q : Option Plan) → PlanIs o clock size k q → probed_by n (option_and_then search_in q) ≡ (if is_of n k.probe then Some k.last else None)
probed_is None clock size n k None i = ap (λ (p : Option ℕ). if is_of n p then Some k.last else None) (sym i)
probed_is (Some c) clock size n k (Some plan) i = go plan.current i.1
  where
    go : (x : Option Search) → SearchIs c clock plan.next size k x → probed_by n x ≡ (if is_of n k.probe then Some k.last else None)
    go None j = ap (λ (p : Option ℕ). if is_of n p then Some k.last else None) (sym j.probe)
    go (Some s) j =
        ap (λ (b : Bool). if b then Some s.last else None) (number_is n s.probe)
        ∙ ap (λ (p : Option ℕ). if is_of n p then Some s.last else None) (sym j.probe)
        ∙ ap (λ (m : ℕ). if is_of n k.probe then Some m else None) (sym j.last)
probed_is None clock size n k (Some plan) i = absurd i
probed_is (Some c) clock size n k None i = absurd i

-- ---- time passes

later_more : (clock now length : ℕ) → clock ≤ now → later clock length ≤ later now length
later_more clock now length below = omega (arith, below)

plan_later : (o : Option SearchSettings) (clock now size : ℕ) (k : Seeking) (q : Option Plan) → clock ≤ now → PlanIs o clock size k q → PlanIs o now size k q
plan_later None clock now size k None below i = i
plan_later (Some c) clock now size k (Some plan) below i = (i.0, go plan.current i.1, i.2)
  where
    go : (x : Option Search) → SearchIs c clock plan.next size k x → SearchIs c now plan.next size k x
    go None j = j
    go (Some s) j = record { probe = j.probe; under_way = j.under_way; last = j.last; low = j.low; high = j.high; lost = j.lost; few = j.few; rests = (let was = j.rests in let more = later_more clock now c.interval below in omega (arith, was, more)) }
plan_later None clock now size k (Some plan) below i = absurd i
plan_later (Some c) clock now size k None below i = absurd i

pub later_reckoned : (c : TransportSettings) (clock now : ℕ) (z : Sizing) (d : Discovery) → clock ≤ now → IsReckoned c clock z d → IsReckoned c now z d
later_reckoned c clock now z d below i = record { size = i.size; bursts = i.bursts; few = i.few; plan = plan_later c.mtu_discovery_config clock now z.size z.seeks d.plan below i.plan }

-- ---- a packet is acknowledged

-- what holds whichever size arrives, and whatever is suspicious, holds where a datagram arrived
arrived_keeps : (P : Sizing → Type 0) (s : Sent) (z : Sizing) → ((arrives newest : ℕ) (suspicious : List ℕ) → P (record z { arrives = arrives; newest = newest; suspicious = suspicious })) → P (arrived s z)
arrived_keeps P s z each = go (nat_lt (counted s) z.arrives) (counted s == z.arrives)
  where
    go : (t u : Bool) → P (if t then z else (if u then record z { newest = max z.newest s.number } else record z { arrives = counted s; newest = s.number; suspicious = filter (λ n. nat_lt (counted s) n) z.suspicious }))
    go true u = each z.arrives z.newest z.suspicious
    go false true = each z.arrives (max z.newest s.number) z.suspicious
    go false false = each (counted s) s.number (filter (λ n. nat_lt (counted s) n) z.suspicious)

-- the open probe is
came_plan : (c : TransportSettings) (o : Option SearchSettings) (clock size n : ℕ) (k : Seeking) (q : Option Plan) → c.mtu_discovery_config ≡ o → is_of n k.probe ≡ true → PlanIs o clock size k q → PlanIs o clock k.last (probe_ended c clock k) (option_map plan_succeeded q)
came_plan c None clock size n k None conf is i = refl
came_plan c (Some settings) clock size n k (Some plan) conf is i = (i.0, go plan.current i.1, subst (λ (x : Option SearchSettings). later_by clock (interval_of x) ≤ latest) (sym conf) (omega arith))
  where
    ended_so : (s : Search) (p : Option ℕ) → s.probe ≡ p → is_of n p ≡ true → IsUnderWay settings clock size k s → IsUnderWay settings clock k.last (probe_ended c clock k) (of_search.succeeded s)
    ended_so s None none some j = cc
    ended_so s (Some m) here some j = record {
      probe = refl;
      under_way = j.under_way;
      last = j.last;
      low = j.last;
      high = j.high ∙ ap (λ (p : Option ℕ). (settled p s).high) here;
      lost = refl;
      few = omega arith;
      rests = subst (λ (x : Option SearchSettings). later_by clock (interval_of x) ≤ later clock settings.interval) (sym conf) (omega arith);
    }

    go : (x : Option Search) → SearchIs settings clock plan.next size k x → SearchIs settings clock plan.next k.last (probe_ended c clock k) (option_map of_search.succeeded x)
    go None j = absurd (both_ways (is_of n k.probe) (ap (λ (p : Option ℕ). is_of n p) j.probe) is)
    go (Some s) j = ended_so s s.probe refl (ap (λ (p : Option ℕ). is_of n p) (sym j.probe) ∙ is) j
came_plan c None clock size n k (Some plan) conf is i = absurd i
came_plan c (Some settings) clock size n k None conf is i = absurd i

pub acked_reckoned : (c : TransportSettings) (clock : ℕ) (s : Sent) (z : Sizing) (d : Discovery) → IsReckoned c clock z d → IsReckoned c clock (with_acked c clock s z) (after_ack s.number (counted s) d)
acked_reckoned c clock s z d i =
    subst (λ (o : Option ℕ). IsReckoned c clock (with_acked c clock s z) (acknowledged_if o s.number (counted s) d)) (sym (probed_is c.mtu_discovery_config clock z.size s.number z.seeks d.plan i.plan))
    (go (is_of s.number z.seeks.probe) refl)
  where
    arrives : IsReckoned c clock (arrived s z) (acknowledged_if None s.number (counted s) d)
    arrives =
        let known = arrived_knows c.min_mtu s z d.bursts i.few i.bursts in
        record {
          size = arrived_keeps (λ (y : Sizing). y.size ≡ d.size) s z (λ a n b. i.size);
          bursts = known.0;
          few = known.1;
          plan = arrived_keeps (λ (y : Sizing). PlanIs c.mtu_discovery_config clock y.size y.seeks d.plan) s z (λ a n b. i.plan);
        }

    go : (b : Bool) → is_of s.number z.seeks.probe ≡ b → IsReckoned c clock (acked_if b c clock s z) (acknowledged_if (if b then Some z.seeks.last else None) s.number (counted s) d)
    go false is = arrives
    go true is = record {
      size = refl;
      bursts = record { least_is = i.bursts.least_is; current = i.bursts.current; acked = refl; number = refl; kept = inl (record { many = refl; each = λ n. refl }, omega arith) };
      few = omega arith;
      plan = came_plan c c.mtu_discovery_config clock z.size s.number z.seeks d.plan refl is i.plan;
    }

-- ---- packets are lost

-- what holds whichever size arrives, and whatever is suspicious, holds where bursts were lost
bursts_keep : (P : Sizing → Type 0) (least : ℕ) (bs : List Burst) (z : Sizing) → ((arrives : ℕ) (suspicious : List ℕ) → P (record z { arrives = arrives; suspicious = suspicious })) → P (with_bursts least bs z)
bursts_keep P least [] z each = each z.arrives z.suspicious
bursts_keep P least (b ∷ bs) z each = bursts_keep P least bs (with_burst least b z) (λ a s. go (is_suspicious least z b) a s)
  where
    go : (t : Bool) (arrives : ℕ) (suspicious : List ℕ) → P (record (if t then record z { arrives = if nat_lt z.newest b.last then least else z.arrives; suspicious = b.size ∷ z.suspicious } else z) { arrives = arrives; suspicious = suspicious })
    go true arrives suspicious = each arrives suspicious
    go false arrives suspicious = each arrives suspicious

-- the open probe is lost once
failed_twice : (q : Option Plan) → option_map plan_failed (option_map plan_failed q) ≡ option_map plan_failed q
failed_twice None = refl
failed_twice (Some plan) = ap (λ (x : Option Search). Some (record plan { current = x })) (go plan.current)
  where
    one : (s : Search) (p : Option ℕ) → s.probe ≡ p → failed (failed_if p s) ≡ failed_if p s
    one s None is = ap (λ (p : Option ℕ). failed_if p s) is
    one s (Some n) is = refl

    go : (x : Option Search) → option_map failed (option_map failed x) ≡ option_map failed x
    go None = refl
    go (Some s) = ap (λ (y : Search). Some y) (one s s.probe refl)

abbrev failed_plan_if : Bool → Option Plan → Option Plan
failed_plan_if true q = option_map plan_failed q
failed_plan_if false q = q

-- all that is lost: the open probe, and others
all_lost : (probe : Option ℕ) (ps : Table TrackedPacket) (d : Discovery) → with_all_lost probe ps d ≡ record d { plan = failed_plan_if (list_any (λ p. is_number p.0 probe) ps) d.plan; bursts = lost_all (filter (λ p. not (is_number p.0 probe)) ps) d.bursts }
all_lost probe [] d = refl
all_lost probe (p ∷ ps) d = all_lost probe ps (with_one_lost (is_number p.0 probe) p d) ∙ go (is_number p.0 probe)
  where
    others : Table TrackedPacket
    others = filter (λ q. not (is_number q.0 probe)) ps

    any : Bool
    any = list_any (λ q. is_number q.0 probe) ps

    twice : (b : Bool) → failed_plan_if b (option_map plan_failed d.plan) ≡ option_map plan_failed d.plan
    twice true = failed_twice d.plan
    twice false = refl

    go : (b : Bool) → record (with_one_lost b p d) { plan = failed_plan_if any (with_one_lost b p d).plan; bursts = lost_all others (with_one_lost b p d).bursts } ≡ record d { plan = failed_plan_if (b || any) d.plan; bursts = lost_all (cond (not b) (p ∷ others) others) d.bursts }
    go true = ap (λ (q : Option Plan). record d { plan = q; bursts = lost_all others d.bursts }) (twice any)
    go false = refl

-- by how often it was lost
again : (c : SearchSettings) (clock size m : ℕ) (k : Seeking) (s : Search) → s.probe ≡ Some m → IsUnderWay c clock size k s → (rests : ℕ) → rests ≤ later clock c.interval → IsUnderWay c clock size (record (lost_again (nat_lt k.lost 2) k) { probe = None; rests = rests }) (failed_if (Some m) s)
again c clock size m k s here j rests low = go (cases_lt k.lost 2)
  where
    f : Search
    f = failed_if (Some m) s

    lost : k.lost ≡ s.lost
    lost = j.lost ∙ ap (λ (p : Option ℕ). (settled p s).lost) here

    high : k.high ≡ s.high
    high = j.high ∙ ap (λ (p : Option ℕ). (settled p s).high) here

    from : size ≡ s.low
    from = j.low ∙ ap (λ (p : Option ℕ). (settled p s).low) here

    -- it was lost once at least
    some : (f.lost == 0) ≡ false
    some = ne_eqb f.lost 0 (λ (is : f.lost ≡ 0). omega arith)

    -- the bounds, by whether it is the third time
    bounds : (b : Bool) → ltb f.lost 3 ≡ b → narrowed f ≡ (if b then f else record f { high = f.last - 1; lost = 0 })
    bounds b is = ap (λ (t : Bool). cond t (record f { low = f.last }) (cond (ltb f.lost 3) f (record f { high = f.last - 1; lost = 0 }))) some ∙ ap (λ (t : Bool). cond t f (record f { high = f.last - 1; lost = 0 })) is

    go : (k.lost < 2) ⊎ (2 ≤ k.lost) → IsUnderWay c clock size (record (lost_again (nat_lt k.lost 2) k) { probe = None; rests = rests }) f
    go (inl less) =
        let is : narrowed f ≡ f = bounds true (lt-ltb f.lost 3 (omega (arith, less, lost))) in
        subst (λ (b : Bool). IsUnderWay c clock size (record (lost_again b k) { probe = None; rests = rests }) f) (sym (lt-ltb k.lost 2 less)) (record {
          probe = refl;
          under_way = j.under_way;
          last = j.last;
          low = from ∙ ap (λ (x : Search). x.low) (sym is);
          high = high ∙ ap (λ (x : Search). x.high) (sym is);
          lost = (let same : k.lost + 1 ≡ f.lost = omega (arith, less, lost) in same ∙ ap (λ (x : Search). x.lost) (sym is));
          few = omega (arith, less);
          rests = low;
        })
    go (inr more) =
        let few = j.few in
        let is : narrowed f ≡ record f { high = f.last - 1; lost = 0 } = bounds false (le-ltb f.lost 3 (omega (arith, more, lost))) in
        subst (λ (b : Bool). IsUnderWay c clock size (record (lost_again b k) { probe = None; rests = rests }) f) (sym (le-ltb k.lost 2 more)) (record {
          probe = refl;
          under_way = j.under_way;
          last = j.last;
          low = from ∙ ap (λ (x : Search). x.low) (sym is);
          high = ap (λ (n : ℕ). n - 1) j.last ∙ ap (λ (x : Search). x.high) (sym is);
          lost = ap (λ (x : Search). x.lost) (sym is);
          few = omega arith;
          rests = low;
        })

failed_plan : (c : TransportSettings) (o : Option SearchSettings) (clock size : ℕ) (k : Seeking) (q : Option Plan) (n : ℕ) → c.mtu_discovery_config ≡ o → is_of n k.probe ≡ true → PlanIs o clock size k q → PlanIs o clock size (probe_lost c clock k) (option_map plan_failed q)
failed_plan c None clock size k None n conf is i = refl
failed_plan c (Some settings) clock size k (Some plan) n conf is i = (i.0, go plan.current i.1, subst (λ (x : Option SearchSettings). later_by clock (interval_of x) ≤ latest) (sym conf) (omega arith))
  where
    one : (s : Search) (p : Option ℕ) → s.probe ≡ p → is_of n p ≡ true → IsUnderWay settings clock size k s → IsUnderWay settings clock size (probe_lost c clock k) (failed_if p s)
    one s None none some j = cc
    one s (Some m) here some j = again settings clock size m k s here j (later_by clock (interval_of c.mtu_discovery_config)) (subst (λ (x : Option SearchSettings). later_by clock (interval_of x) ≤ later clock settings.interval) (sym conf) (omega arith))

    go : (x : Option Search) → SearchIs settings clock plan.next size k x → SearchIs settings clock plan.next size (probe_lost c clock k) (option_map failed x)
    go None j = absurd (both_ways (is_of n k.probe) (ap (λ (p : Option ℕ). is_of n p) j.probe) is)
    go (Some s) j = one s s.probe refl (ap (λ (p : Option ℕ). is_of n p) (sym j.probe) ∙ is) j
failed_plan c None clock size k (Some plan) n conf is i = absurd i
failed_plan c (Some settings) clock size k None n conf is i = absurd i

-- one of these that passes
found_any : (test : Sent → Bool) (ss : List Sent) → list_any test ss ≡ true → (s : Sent) × (test s ≡ true)
found_any test [] is = cc
found_any test (s ∷ ss) is = go (test s) refl is (λ rest. found_any test ss rest)
  where
    go : (b : Bool) → test s ≡ b → (b || list_any test ss) ≡ true → (list_any test ss ≡ true → (u : Sent) × (test u ≡ true)) → (u : Sent) × (test u ≡ true)
    go true here all later = (s, here)
    go false here all later = later all

-- a black hole leaves no search
cooled_plan : (c : TransportSettings) (o : Option SearchSettings) (clock size least : ℕ) (k : Seeking) (q : Option Plan) → c.mtu_discovery_config ≡ o → PlanIs o clock size k q → PlanIs o clock least (search_over c clock k) (option_map (plan_cooled clock) q)
cooled_plan c None clock size least k None conf i = refl
cooled_plan c (Some settings) clock size least k (Some plan) conf i = (
  i.0,
  record { probe = refl; none = refl; rests = ends },
  low,
)
  where
    ends : (search_over c clock k).rests ≤ later clock plan.settings.cooldown
    ends =
        subst (λ (x : Option SearchSettings). later_by clock (cooldown_of x) ≤ later clock plan.settings.cooldown) (sym conf)
        (subst (λ (x : SearchSettings). later_by clock settings.cooldown ≤ later clock x.cooldown) (sym i.0) (omega arith))

    low : (search_over c clock k).rests ≤ latest
    low = subst (λ (x : Option SearchSettings). later_by clock (cooldown_of x) ≤ latest) (sym conf) (omega arith)
cooled_plan c None clock size least k (Some plan) conf i = absurd i
cooled_plan c (Some settings) clock size least k None conf i = absurd i

-- whether there are more than three
many_same : (xs ys : List ℕ) → AreKept xs ys → ltb 3 (length xs) ≡ nat_lt 3 (length ys)
many_same xs ys (inl same) = ap (λ (n : ℕ). ltb 3 n) same.0.many
many_same xs ys (inr many) = lt-ltb 3 (length xs) many.0 ∙ sym (lt-ltb 3 (length ys) many.1)

-- whether the path carries less is asked
question : (c : TransportSettings) (clock : ℕ) (z : Sizing) (d : Discovery) → z.size ≡ d.size → PlanIs c.mtu_discovery_config clock z.size z.seeks d.plan → Knows c.min_mtu z (ended d.bursts) → IsReckoned c clock (with_told c clock z) (after_question clock d)
question c clock z d size plan k = go (nat_lt 3 (length z.suspicious)) refl (many_same (ended d.bursts).kept z.suspicious k.kept)
  where
    Of : Bool → Bool → Type 0
    Of t u = IsReckoned c clock (fallen_if t c clock z) (cond u (record d { size = d.bursts.least; plan = option_map (plan_cooled clock) d.plan; bursts = cond u (record (ended d.bursts) { kept = [] }) (ended d.bursts) }) (record d { bursts = cond u (record (ended d.bursts) { kept = [] }) (ended d.bursts) }))

    found : (t : Bool) → nat_lt 3 (length z.suspicious) ≡ t → is_black_hole d.bursts ≡ t → Of t t
    found false few is = record { size = size; bursts = k; few = ltb-false 3 (length z.suspicious) few; plan = plan }
    found true many is = record {
      size = sym (sym (told_least d.bursts) ∙ ap (λ (t : Bool). (cond t (record (ended d.bursts) { kept = [] }) (ended d.bursts)).least) is ∙ k.least_is);
      bursts = record { least_is = k.least_is; current = k.current; acked = k.acked; number = k.number; kept = inl (record { many = refl; each = λ n. refl }, omega arith) };
      few = omega arith;
      plan = cooled_plan c c.mtu_discovery_config clock z.size c.min_mtu z.seeks d.plan refl plan;
    }

    go : (t : Bool) → nat_lt 3 (length z.suspicious) ≡ t → is_black_hole d.bursts ≡ nat_lt 3 (length z.suspicious) → IsReckoned c clock (with_told c clock z) (after_question clock d)
    go t is same = subst (λ (u : Bool). Of (nat_lt 3 (length z.suspicious)) u) (sym (same ∙ is)) (subst (λ (u : Bool). Of u t) (sym is) (found t is (same ∙ is)))

module _ (c : TransportSettings) (clock : ℕ) (ss : List Sent) (ps : Table TrackedPacket) (z : Sizing) (d : Discovery) (w : AreWaited ss ps) (i : IsReckoned c clock z d) where
  abbrev probe : Option ℕ
  probe = z.seeks.probe

  abbrev others_sent : List Sent
  others_sent = filter (λ s. not (is_of s.number probe)) ss

  abbrev others_lost : Table TrackedPacket
  others_lost = filter (λ p. not (is_number p.0 probe)) ps

  abbrev any : Bool
  any = list_any (λ s. is_of s.number probe) ss

  -- both are the probe, or aren't
  one_same : (s : Sent) (p : ℕ × TrackedPacket) → IsWaited s p → is_of s.number probe ≡ is_number p.0 probe
  one_same s p v = sym (number_is p.0 probe ∙ ap (λ (n : ℕ). is_of n probe) v.number)

  others : AreWaited others_sent others_lost
  others = waited_filter (λ s. not (is_of s.number probe)) (λ p. not (is_number p.0 probe)) (λ s p v. ap not (one_same s p v)) ss ps w

  any_same : list_any (λ (p : ℕ × TrackedPacket). is_number p.0 probe) ps ≡ any
  any_same = sym (waited_any (λ s. is_of s.number probe) (λ p. is_number p.0 probe) one_same ss ps w)

  -- once the probe is lost, if it is
  abbrev seeks : Seeking
  seeks = probe_lost_if any c clock z.seeks

  abbrev plan : Option Plan
  plan = failed_plan_if any d.plan

  plan_is : PlanIs c.mtu_discovery_config clock z.size seeks plan
  plan_is = go any refl
    where
      go : (b : Bool) → any ≡ b → PlanIs c.mtu_discovery_config clock z.size (probe_lost_if b c clock z.seeks) (failed_plan_if b d.plan)
      go false none = i.plan
      go true some = (let one = found_any (λ s. is_of s.number probe) ss some in failed_plan c c.mtu_discovery_config clock z.size z.seeks d.plan one.0.number refl one.1 i.plan)

  abbrev begins : Sizing
  begins = record z { seeks = seeks }

  begins_know : Knows c.min_mtu begins d.bursts
  begins_know = record { least_is = i.bursts.least_is; current = i.bursts.current; acked = i.bursts.acked; number = i.bursts.number; kept = i.bursts.kept }

  -- and whether the path carries less is asked where one of them is another
  asked : (us : List Sent) (qs : Table TrackedPacket) → AreWaited us qs → IsReckoned c clock (with_told c clock (with_bursts c.min_mtu (bursts_of us) begins)) (asked_behind qs clock (record d { plan = plan; bursts = lost_all qs d.bursts }))
  asked [] [] v = subst (λ (b : Bool). IsReckoned c clock (fallen_if b c clock begins) (record d { plan = plan })) (sym (le-ltb 3 (length z.suspicious) i.few)) (record { size = i.size; bursts = begins_know; few = i.few; plan = plan_is })
  asked (u ∷ us) (q ∷ qs) v =
      let left : Sizing = with_bursts c.min_mtu (bursts_of (u ∷ us)) begins in
      question c clock left (record d { plan = plan; bursts = lost_all (q ∷ qs) d.bursts })
      (bursts_keep (λ (y : Sizing). y.size ≡ d.size) c.min_mtu (bursts_of (u ∷ us)) begins (λ a b. i.size))
      (bursts_keep (λ (y : Sizing). PlanIs c.mtu_discovery_config clock y.size y.seeks plan) c.min_mtu (bursts_of (u ∷ us)) begins (λ a b. plan_is))
      (lost_knows c.min_mtu (u ∷ us) (q ∷ qs) begins d.bursts v begins_know)
  asked [] (q ∷ qs) v = absurd v
  asked (u ∷ us) [] v = absurd v

  pub lost_reckoned : IsReckoned c clock (with_lost c clock ss z) (after_lost clock ps d)
  lost_reckoned =
      subst (λ (o : Option ℕ). IsReckoned c clock (with_lost c clock ss z) (asked_behind (filter (λ p. not (is_number p.0 o)) ps) clock (with_all_lost o ps d))) (sym (open_is c.mtu_discovery_config clock z.size z.seeks d.plan i.plan))
      (subst (λ (f : Discovery). IsReckoned c clock (with_lost c clock ss z) (asked_behind others_lost clock f)) (sym (all_lost probe ps d))
      (subst (λ (b : Bool). IsReckoned c clock (with_lost c clock ss z) (asked_behind others_lost clock (record d { plan = failed_plan_if b d.plan; bursts = lost_all others_lost d.bursts }))) (sym any_same)
      (asked others_sent others_lost others)))
