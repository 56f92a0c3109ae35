-- An open probe has the size that a poll named.
use Rattle.std.proofs.Common.{◌≡◌, ℕ, ◌⊎◌, inl, inr, List, [], ◌∷◌, cond, Bool, true, false, refl, Some, None, Option}
use Rattle.std.specs.Prelude.{◌==◌}
use Rattle.std.specs.Option.{option_map, option_and_then}
use Rattle.std.proofs.lemmas.Bool.{eqb-true}
use Rattle.quic_config.specs.Configs.{SearchSettings}
use Rattle.quic_congestion.specs.Bursts.{after_told}
use Rattle.quic_congestion.specs.Search.{Search, Plan, Discovery, SearchCall, Reset, Polled, Limited, Acknowledged, ProbeLost, PacketLost, Asked, narrowed, next_size, succeeded, failed, failed_if, due, size_if, size_unless, plan_names, probed_if, polled_unless, polled_if, plan_polled, plan_anew, plan_cooled, plan_succeeded, plan_failed, search_in, probed_by, search_after, search_over, new_discovery, acknowledged_if, acknowledged_probe, finds_black_hole}
use Rattle.quic_congestion.specs.SearchLaw.{Names, WasNamed}

-- the size of the open probe of some searches, if it has this number
abbrev planned : ℕ → Option Plan → Option ℕ
planned number plan = probed_by number (option_and_then search_in plan)

-- ---- a poll

named_next : (o : Option ℕ) (s : Search) (now next number n : ℕ) (plan : Plan)
    → probed_by number (probed_if o s now next plan).current ≡ Some n → (next ≡ number) × (o ≡ Some n)
named_next None s now next number n plan e = cc
named_next (Some size) s now next number n plan e = go (next == number) refl e
  where
    go : (t : Bool) → (next == number) ≡ t → cond t (Some size) None ≡ Some n → (next ≡ number) × (Some size ≡ Some n)
    go true f g = (eqb-true next number f, g)
    go false f g = cc

named_unless : (p : Option ℕ) (s : Search) (now next number n : ℕ) (plan : Plan)
    → probed_by number (polled_unless p s now next plan).current ≡ Some n
    → (probed_by number plan.current ≡ Some n) ⊎ ((next ≡ number) × (size_unless p plan.settings.least_change s ≡ Some n))
named_unless None s now next number n plan e = inr (named_next (next_size plan.settings.least_change (narrowed s)) (narrowed s) now next number n plan e)
named_unless (Some k) s now next number n plan e = inl e

named_if : (o : Option Search) (now next number n : ℕ) (plan : Plan)
    → probed_by number (polled_if o now next plan).current ≡ Some n
    → (probed_by number plan.current ≡ Some n) ⊎ ((next ≡ number) × (size_if o plan.settings.least_change ≡ Some n))
named_if None now next number n plan e = inl e
named_if (Some s) now next number n plan e = named_unless s.probe s now next number n plan e

named_polled : (o : Option Plan) (size : ℕ) (limit : Option ℕ) (now next number n : ℕ)
    → planned number (option_map (plan_polled now next size limit) o) ≡ Some n
    → (planned number o ≡ Some n) ⊎ ((next ≡ number) × (option_and_then (plan_names now size limit) o ≡ Some n))
named_polled None size limit now next number n e = cc
named_polled (Some plan) size limit now next number n e = named_if (due now size limit plan) now next number n plan e

-- ---- other calls open no probe

none_anew : (o : Option Plan) (number : ℕ) → planned number (option_map plan_anew o) ≡ None
none_anew None number = refl
none_anew (Some plan) number = refl

none_cooled : (o : Option Plan) (now number : ℕ) → planned number (option_map (plan_cooled now) o) ≡ None
none_cooled None now number = refl
none_cooled (Some plan) now number = refl

none_searched : (o : Option Search) (number : ℕ) → probed_by number (option_map succeeded o) ≡ None
none_searched None number = refl
none_searched (Some s) number = refl

none_succeeded : (o : Option Plan) (number : ℕ) → planned number (option_map plan_succeeded o) ≡ None
none_succeeded None number = refl
none_succeeded (Some plan) number = none_searched plan.current number

failed_probe : (s : Search) (p : Option ℕ) (number n : ℕ) → s.probe ≡ p → probed_by number (Some (failed_if p s)) ≡ Some n → probed_by number (Some s) ≡ Some n
failed_probe s None number n f e = e
failed_probe s (Some k) number n f e = cc

failed_search : (o : Option Search) (number n : ℕ) → probed_by number (option_map failed o) ≡ Some n → probed_by number o ≡ Some n
failed_search None number n e = e
failed_search (Some s) number n e = failed_probe s s.probe number n refl e

failed_plan : (o : Option Plan) (number n : ℕ) → planned number (option_map plan_failed o) ≡ Some n → planned number o ≡ Some n
failed_plan None number n e = e
failed_plan (Some plan) number n e = failed_search plan.current number n e

-- ---- histories

not_none : (o : Option ℕ) (n : ℕ) → o ≡ None → o ≡ Some n → ⊥
not_none o n e f = cc

named_call : (call : SearchCall) (d : Discovery) (number n : ℕ) → acknowledged_probe number (search_after call d) ≡ Some n → (acknowledged_probe number d ≡ Some n) ⊎ Names call d number n
named_call (Reset size least) d number n e = absurd (not_none (planned number (option_map plan_anew d.plan)) n (none_anew d.plan number) e)
named_call (Polled now next) d number n e = named_polled d.plan d.size d.limit now next number n e
named_call (Limited limit) d number n e = inl e
named_call (Acknowledged next length) d number n e = inl (go (acknowledged_probe next d) e)
  where
    go : (o : Option ℕ) → acknowledged_probe number (acknowledged_if o next length d) ≡ Some n → acknowledged_probe number d ≡ Some n
    go None f = f
    go (Some size) f = absurd (not_none (planned number (option_map plan_succeeded d.plan)) n (none_succeeded d.plan number) f)
named_call ProbeLost d number n e = inl (failed_plan d.plan number n e)
named_call (PacketLost next length) d number n e = inl e
named_call (Asked now) d number n e = inl (go (finds_black_hole d) e)
  where
    found : Discovery
    found = record d { size = d.bursts.least; plan = option_map (plan_cooled now) d.plan; bursts = after_told d.bursts }

    go : (t : Bool) → acknowledged_probe number (cond t found (record d { bursts = after_told d.bursts })) ≡ Some n → acknowledged_probe number d ≡ Some n
    go true f = absurd (not_none (planned number (option_map (plan_cooled now) d.plan)) n (none_cooled d.plan now number) f)
    go false f = f

pub named_over : (size least : ℕ) (limit : Option ℕ) (settings : SearchSettings) (calls : List SearchCall) (number n : ℕ)
    → acknowledged_probe number (search_over (new_discovery size least limit settings) calls) ≡ Some n → WasNamed (new_discovery size least limit settings) calls number n
named_over size least limit settings [] number n e = cc
named_over size least limit settings (call ∷ earlier) number n e =
    go (named_call call (search_over (new_discovery size least limit settings) earlier) number n e) (named_over size least limit settings earlier number n)
  where
    before : Discovery
    before = search_over (new_discovery size least limit settings) earlier

    go : (acknowledged_probe number before ≡ Some n) ⊎ Names call before number n
        → (acknowledged_probe number before ≡ Some n → WasNamed (new_discovery size least limit settings) earlier number n)
        → WasNamed (new_discovery size least limit settings) earlier number n ⊎ Names call before number n
    go (inl f) ih = inl (ih f)
    go (inr f) ih = inr f
