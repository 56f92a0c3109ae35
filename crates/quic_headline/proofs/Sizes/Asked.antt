-- What a search for a size names where it is asked is what its observer has it look for, and it
-- begins no sooner than that says, with the size for which one that begins looks first.
use Rattle.std.proofs.Common.{◌≡◌, ℕ, ◌-◌, ◌≤◌, ltb, cond, max, min, Bool, true, false, Option, Some, None, option_map, refl, sym, ap, ◌∙◌, subst, arith}
use Rattle.std.specs.Prelude.{◌==◌, if◌then◌else◌}
use Rattle.std.specs.Option.{option_and_then}
use Rattle.std.proofs.lemmas.Bool.{ltb-false}
use Rattle.quic_config.specs.Configs.{SearchSettings}
use Rattle.quic_config.specs.Transport.{TransportSettings}
use Rattle.quic_congestion.specs.Search as of_search
use Rattle.quic_congestion.specs.Search.{Search, Plan, Discovery, narrowed, next_size, probing, later, due_if, within, size_unless, size_if, probed_if, polled_unless, polled_if, plan_names, plan_polled, poll_names, after_poll}
use Rattle.quic_headline.specs.Observer.{Sent, latest}
use Rattle.quic_headline.specs.PathSizes.{Seeking, Sizing, size_between, sought, search_begun, search_goes, probe_gone, with_probe, GoesInTurn, IsInTurn}
use Rattle.quic_headline.proofs.Sizes.Reckoned.{settled, IsUnderWay, IsResting, SearchIs, PlanIs, IsReckoned}

-- ---- the size that is next

-- by all that says which it is
abbrev next_of : ℕ → ℕ → ℕ → ℕ → ℕ → Bool → Option ℕ
next_of change low high last lost under = if under then (if lost == 0 then size_between change low high last else Some last) else None

narrowed_last : (s : Search) → (narrowed s).last ≡ s.last
narrowed_last s = go (s.lost == 0) (ltb s.lost 3)
  where
    go : (t u : Bool) → (cond t (record s { low = s.last }) (cond u s (record s { high = s.last - 1; lost = 0 }))).last ≡ s.last
    go true u = refl
    go false true = refl
    go false false = refl

sought_is : (c : SearchSettings) (clock size : ℕ) (k : Seeking) (s : Search) → s.probe ≡ None → IsUnderWay c clock size k s → sought c size k ≡ next_size c.least_change (narrowed s)
sought_is c clock size k s none j =
    let f : Search = narrowed s in
    ap (λ (b : Bool). next_of c.least_change size k.high k.last k.lost b) j.under_way
    ∙ ap (λ (n : ℕ). next_of c.least_change n k.high k.last k.lost true) (j.low ∙ ap (λ (p : Option ℕ). (settled p s).low) none)
    ∙ ap (λ (n : ℕ). next_of c.least_change f.low n k.last k.lost true) (j.high ∙ ap (λ (p : Option ℕ). (settled p s).high) none)
    ∙ ap (λ (n : ℕ). next_of c.least_change f.low f.high n k.lost true) (j.last ∙ sym (narrowed_last s))
    ∙ ap (λ (n : ℕ). next_of c.least_change f.low f.high f.last n true) (j.lost ∙ ap (λ (p : Option ℕ). (settled p s).lost) none)

-- ---- a search is asked

-- a probe of a size goes at a moment, as it may
abbrev pub GoesAt : SearchSettings → ℕ → Seeking → Option ℕ → ℕ → ℕ → Type 0
GoesAt c size k (Some next) n now = n ≡ next
GoesAt c size k None n now = (k.rests ≤ now) × (sought c size (search_begun c size k) ≡ Some n)

-- What it names, and leaves behind: none, and nothing else is known; or a size, which may be
-- probed, and is open behind it.
pub record Asks (c : SearchSettings) (now number size : ℕ) (k : Seeking) (names : Option ℕ) (plan : Plan) : Type 0 where
  pub none : names ≡ None → PlanIs (Some c) now size k (Some plan)
  pub some : (n : ℕ) → names ≡ Some n → (k.probe ≡ None) × GoesAt c size k (sought c size k) n now × PlanIs (Some c) now size (probe_gone c size number n k) (Some plan)

module _ (c : SearchSettings) (now number size : ℕ) (limit : Option ℕ) (k : Seeking) (plan : Plan) (same : plan.settings ≡ c) (limited : limit ≡ Some 65527) (small : size ≤ 65527) (low : k.rests ≤ latest) where
  -- nothing changes
  stays : (x : Option Search) → plan.current ≡ x → SearchIs c now plan.next size k x → PlanIs (Some c) now size k (Some plan)
  stays x is j = (same, subst (λ (y : Option Search). SearchIs c now plan.next size k y) (sym is) j, low)

  none_asks : (x : Option Search) → plan.current ≡ x → SearchIs c now plan.next size k x → Asks c now number size k None plan
  none_asks x is j = record { none = λ none. stays x is j; some = λ n some. cc }

  -- a size is within the limit
  all_within : (o : Option ℕ) (n : ℕ) → o ≡ Some 65527 → within o n ≡ min n 65527
  all_within None n is = cc
  all_within (Some m) n is = (let at : m ≡ 65527 = cc in ap (λ (x : ℕ). min n x) at)

  -- a search begins
  abbrev begun : Search
  begun = of_search.begun size limit plan.settings.upper_bound

  begins : plan.current ≡ None → IsResting c plan.next size k → plan.next ≤ now → (o : Option ℕ) → next_size plan.settings.least_change (narrowed begun) ≡ o → Asks c now number size k o (probed_if o (narrowed begun) now number plan)
  begins is j past None named = record {
    none = λ none. (same, record { probe = j.probe; none = j.none; rests = (let was = j.rests in omega (arith, was, past, low)) }, low);
    some = λ n some. cc;
  }
  begins is j past (Some n) named = record {
    none = λ none. cc;
    some = λ m some.
        let so : n ≡ m = cc in
        subst (λ (x : ℕ). (k.probe ≡ None) × GoesAt c size k (sought c size k) x now × PlanIs (Some c) now size (probe_gone c size number x k) (Some (probed_if (Some n) (narrowed begun) now number plan))) so
        (j.probe, subst (λ (o : Option ℕ). GoesAt c size k o n now) (sym j.none) ((let was = j.rests in omega (arith, was, past)), first), gone);
  }
    where
      at : within limit size ≡ size
      at = (let is = all_within limit size limited in omega (arith, is, small))

      high_at : max size (min c.upper_bound 65527) ≡ begun.high
      high_at = (
          let here = all_within limit size limited in
          let bound = all_within limit plan.settings.upper_bound limited in
          let top : plan.settings.upper_bound ≡ c.upper_bound = ap (λ (x : SearchSettings). x.upper_bound) same in
          omega (arith, here, bound, top, small))

      rests_so : k.rests ≤ later now c.interval
      rests_so = (let was = j.rests in omega (arith, was, past, low))

      -- it looks first for what its observer has it look for
      first : sought c size (search_begun c size k) ≡ Some n
      first = sought_is c now size (search_begun c size k) begun refl start ∙ ap (λ (x : SearchSettings). next_size x.least_change (narrowed begun)) (sym same) ∙ named
        where
          start : IsUnderWay c now size (search_begun c size k) begun
          start = record { probe = j.probe; under_way = refl; last = sym at; low = sym at; high = high_at; lost = refl; few = omega arith; rests = rests_so }

      opened : IsUnderWay c now size (record (search_begun c size k) { probe = Some number; last = n }) (probing n number (narrowed begun))
      opened = record { probe = refl; under_way = refl; last = refl; low = sym at; high = high_at; lost = refl; few = omega arith; rests = rests_so }

      gone : PlanIs (Some c) now size (probe_gone c size number n k) (Some (probed_if (Some n) (narrowed begun) now number plan))
      gone = subst (λ (o : Option ℕ). PlanIs (Some c) now size (record (search_goes o c size k) { probe = Some number; last = n }) (Some (probed_if (Some n) (narrowed begun) now number plan))) (sym j.none) (same, opened, low)

  -- one that is under way goes on
  goes_on : (s : Search) → s.probe ≡ None → IsUnderWay c now size k s → (o : Option ℕ) → next_size plan.settings.least_change (narrowed s) ≡ o → Asks c now number size k o (probed_if o (narrowed s) now number plan)
  goes_on s shut j o named = go o (sought_is c now size k s shut j ∙ ap (λ (x : SearchSettings). next_size x.least_change (narrowed s)) (sym same) ∙ named)
    where
      go : (o : Option ℕ) → sought c size k ≡ o → Asks c now number size k o (probed_if o (narrowed s) now number plan)
      go None over = record {
        none = λ none. (
          same,
          record { probe = j.probe ∙ shut; none = over; rests = subst (λ (x : SearchSettings). k.rests ≤ later now x.interval) (sym same) j.rests },
          low,
        );
        some = λ n some. cc;
      }
      go (Some n) next = record {
        none = λ none. cc;
        some = λ m some.
            let so : n ≡ m = cc in
            subst (λ (x : ℕ). (k.probe ≡ None) × GoesAt c size k (sought c size k) x now × PlanIs (Some c) now size (probe_gone c size number x k) (Some (probed_if (Some n) (narrowed s) now number plan))) so
            (j.probe ∙ shut, subst (λ (o : Option ℕ). GoesAt c size k o n now) (sym next) refl, subst (λ (o : Option ℕ). PlanIs (Some c) now size (record (search_goes o c size k) { probe = Some number; last = n }) (Some (probed_if (Some n) (narrowed s) now number plan))) (sym next) (same, opened, low));
      }
        where
          opened : IsUnderWay c now size (record k { probe = Some number; last = n }) (probing n number (narrowed s))
          opened = record {
            probe = refl;
            under_way = j.under_way;
            last = refl;
            low = j.low ∙ ap (λ (p : Option ℕ). (settled p s).low) shut;
            high = j.high ∙ ap (λ (p : Option ℕ). (settled p s).high) shut;
            lost = j.lost ∙ ap (λ (p : Option ℕ). (settled p s).lost) shut;
            few = j.few;
            rests = j.rests;
          }

  -- by the search that is due
  asks_due : (x : Option Search) → plan.current ≡ x → SearchIs c now plan.next size k x → Asks c now number size k (size_if (due_if x now size limit plan) plan.settings.least_change) (polled_if (due_if x now size limit plan) now number plan)
  asks_due None is j = go (ltb now plan.next) refl
    where
      go : (t : Bool) → ltb now plan.next ≡ t → (let due : Option Search = cond t None (Some begun) in Asks c now number size k (size_if due plan.settings.least_change) (polled_if due now number plan))
      go true early = none_asks None is j
      go false late = begins is j (ltb-false now plan.next late) (next_size plan.settings.least_change (narrowed begun)) refl
  asks_due (Some s) is j = go s.probe refl
    where
      go : (p : Option ℕ) → s.probe ≡ p → Asks c now number size k (size_unless p plan.settings.least_change s) (polled_unless p s now number plan)
      go None shut = goes_on s shut j (next_size plan.settings.least_change (narrowed s)) refl
      go (Some m) opened = none_asks (Some s) is j

  pub asks : SearchIs c now plan.next size k plan.current → Asks c now number size k (plan_names now size limit plan) (plan_polled now number size limit plan)
  asks j = asks_due plan.current refl j

-- ---- of an end

none_there : (n : ℕ) (o : Option ℕ) → o ≡ None → o ≡ Some n → ⊥
none_there n o none some = (let clash : ◌≡◌ {A = Option ℕ} None (Some n) = sym none ∙ some in cc)

-- Whether it names a size or none, both know the same behind it; and a size that it names may be
-- probed.
pub record AsksOf (c : TransportSettings) (now number : ℕ) (z : Sizing) (d : Discovery) : Type 0 where
  pub none : poll_names now d ≡ None → IsReckoned c now z (after_poll now number d)
  pub some : (s : Sent) → poll_names now d ≡ Some s.size → s.number ≡ number → s.moment ≡ now → IsInTurn c.mtu_discovery_config z s × IsReckoned c now (with_probe c.mtu_discovery_config s z) (after_poll now number d)

goes_at : (c : SearchSettings) (size : ℕ) (k : Seeking) (o : Option ℕ) (now : ℕ) (s : Sent) → s.moment ≡ now → GoesAt c size k o s.size now → GoesInTurn c size k o s
goes_at c size k None now s at goes = ((let low = goes.0 in omega (arith, at, low)), goes.1)
goes_at c size k (Some n) now s at same = same

pub asked_of : (c : TransportSettings) (now number : ℕ) (z : Sizing) (d : Discovery) → d.limit ≡ Some 65527 → d.size ≤ 65527 → IsReckoned c now z d → AsksOf c now number z d
asked_of c now number z d limited small i = by_plan c.mtu_discovery_config refl d.plan refl i.plan
  where
    few : z.size ≤ 65527
    few = (let same = i.size in omega (arith, same, small))

    -- with another plan
    with_plan : (k : Seeking) (q : Option Plan) → PlanIs c.mtu_discovery_config now z.size k q → IsReckoned c now (record z { seeks = k }) (record d { plan = q })
    with_plan k q j = record { size = i.size; bursts = record { least_is = i.bursts.least_is; current = i.bursts.current; acked = i.bursts.acked; number = i.bursts.number; kept = i.bursts.kept }; few = i.few; plan = j }

    by_plan : (o : Option SearchSettings) → c.mtu_discovery_config ≡ o → (q : Option Plan) → d.plan ≡ q → PlanIs o now z.size z.seeks q → AsksOf c now number z d
    by_plan None conf None is j = record {
      none = λ none. subst (λ (x : Option Plan). IsReckoned c now z (record d { plan = option_map (plan_polled now number d.size d.limit) x })) (sym is) (subst (λ (x : Option Plan). IsReckoned c now z (record d { plan = x })) is i);
      some = λ s some. absurd (none_there s.size (option_and_then (plan_names now d.size d.limit) d.plan) (ap (λ (x : Option Plan). option_and_then (plan_names now d.size d.limit) x) is) some);
    }
    by_plan (Some settings) conf (Some plan) is j = record {
      none = λ none. subst (λ (x : Option Plan). IsReckoned c now z (record d { plan = option_map (plan_polled now number d.size d.limit) x })) (sym is) (with_plan z.seeks (Some (plan_polled now number d.size d.limit plan)) (subst (λ (x : Option SearchSettings). PlanIs x now z.size z.seeks (Some (plan_polled now number d.size d.limit plan))) (sym conf) (asked.none (sym (ap (λ (x : Option Plan). option_and_then (plan_names now d.size d.limit) x) is) ∙ none))));
      some = λ s some numbered at.
          let got = asked.some s.size (sym (ap (λ (x : Option Plan). option_and_then (plan_names now d.size d.limit) x) is) ∙ some) in (
            record { settings = settings; configured = conf; none_open = got.0; turn = goes_at settings z.size z.seeks (sought settings z.size z.seeks) now s at got.1 },
            subst (λ (x : Option Plan). IsReckoned c now (with_probe c.mtu_discovery_config s z) (record d { plan = option_map (plan_polled now number d.size d.limit) x })) (sym is)
                (subst (λ (x : Option SearchSettings). IsReckoned c now (with_probe x s z) (record d { plan = Some (plan_polled now number d.size d.limit plan) })) (sym conf)
                (with_plan (probe_gone settings z.size s.number s.size z.seeks) (Some (plan_polled now number d.size d.limit plan))
                (subst (λ (x : Option SearchSettings). PlanIs x now z.size (probe_gone settings z.size s.number s.size z.seeks) (Some (plan_polled now number d.size d.limit plan))) (sym conf)
                (subst (λ (n : ℕ). PlanIs (Some settings) now z.size (probe_gone settings z.size n s.size z.seeks) (Some (plan_polled now number d.size d.limit plan))) (sym numbered) got.2)))),
          );
    }
      where
        asked : Asks settings now number z.size z.seeks (plan_names now d.size d.limit plan) (plan_polled now number d.size d.limit plan)
        asked = subst (λ (n : ℕ). Asks settings now number z.size z.seeks (plan_names now n d.limit plan) (plan_polled now number n d.limit plan)) i.size (asks settings now number z.size d.limit z.seeks plan j.0 limited few j.2 j.1)
    by_plan None conf (Some plan) is j = absurd j
    by_plan (Some settings) conf None is j = absurd j
