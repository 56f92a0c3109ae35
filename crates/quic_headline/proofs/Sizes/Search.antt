-- What each step of a search for a size leaves: the probe that is open, the size to which a black
-- hole makes it fall, and the size itself.
use Rattle.std.proofs.Common.{◌≡◌, ◌⊎◌, ℕ, cond, Bool, true, false, [], ◌∷◌, Option, Some, None, inl, inr, refl, sym, ap, ◌∙◌}
use Rattle.std.specs.Prelude.{◌==◌}
use Rattle.std.specs.Option.{option_map, option_and_then}
use Rattle.std.proofs.lemmas.Bool.{eqb-true}
use Rattle.quic_congestion.specs.Bursts.{after_told}
use Rattle.quic_congestion.specs.Search as of_search
use Rattle.quic_congestion.specs.Search.{Search, Plan, Discovery, is_number, probed_by, search_in, failed_if, plan_succeeded, plan_failed, plan_cooled, due, narrowed, next_size, polled_if, polled_unless, probed_if, plan_names, size_if, size_unless, plan_polled, acknowledged_probe, acknowledged_if, after_ack, finds_black_hole, after_question, poll_names, after_poll}
use Rattle.quic_congestion.proofs.SearchSizes.{lost_least, acknowledged_least, told_least}
use Rattle.quic_streams_parts.specs.Table.{Table}
use Rattle.quic_machine.specs.Tracking.{TrackedPacket}
use Rattle.quic_machine.specs.Sizes.{others_of, with_one_lost, with_all_lost, with_lost, asked_behind}
use Rattle.quic_machine.specs.Sizes as sizes

-- ---- the probe that is open

-- one that is open behind was open before, with the same size
abbrev pub Fewer : Discovery → Discovery → Type 0
Fewer d f = (n size : ℕ) → acknowledged_probe n f ≡ Some size → acknowledged_probe n d ≡ Some size

-- none is open
abbrev pub IsShut : Discovery → Type 0
IsShut d = (n size : ℕ) → acknowledged_probe n d ≡ Some size → ⊥

-- where its search learns that it came through, none is open
succeeded_none : (o : Option Plan) (n size : ℕ) → probed_by n (option_and_then search_in (option_map plan_succeeded o)) ≡ Some size → ⊥
succeeded_none None n size is = cc
succeeded_none (Some plan) n size is = go plan.current is
  where
    go : (o : Option Search) → probed_by n (option_map of_search.succeeded o) ≡ Some size → ⊥
    go None is = cc
    go (Some s) is = cc

-- so it is where it is lost
failed_fewer : (o : Option Plan) (n size : ℕ) → probed_by n (option_and_then search_in (option_map plan_failed o)) ≡ Some size → probed_by n (option_and_then search_in o) ≡ Some size
failed_fewer None n size is = is
failed_fewer (Some plan) n size is = go plan.current is
  where
    one : (s : Search) (p : Option ℕ) → s.probe ≡ p → probed_by n (Some (failed_if p s)) ≡ Some size → probed_by n (Some s) ≡ Some size
    one s None none is = is
    one s (Some m) some is = cc

    go : (o : Option Search) → probed_by n (option_map of_search.failed o) ≡ Some size → probed_by n o ≡ Some size
    go None is = is
    go (Some s) is = one s s.probe refl is

-- and behind a black hole
cooled_none : (now : ℕ) (o : Option Plan) (n size : ℕ) → probed_by n (option_and_then search_in (option_map (plan_cooled now) o)) ≡ Some size → ⊥
cooled_none now None n size is = cc
cooled_none now (Some plan) n size is = cc

-- a packet is acknowledged
pub acked_fewer : (number length : ℕ) (d : Discovery) → Fewer d (after_ack number length d)
acked_fewer number length d = go (acknowledged_probe number d)
  where
    go : (o : Option ℕ) → Fewer d (acknowledged_if o number length d)
    go None n size is = is
    go (Some m) n size is = absurd (succeeded_none d.plan n size is)

one_fewer : (b : Bool) (p : ℕ × TrackedPacket) (d : Discovery) → Fewer d (with_one_lost b p d)
one_fewer true p d n size is = failed_fewer d.plan n size is
one_fewer false p d n size is = is

all_fewer : (probe : Option ℕ) (ps : Table TrackedPacket) (d : Discovery) → Fewer d (with_all_lost probe ps d)
all_fewer probe [] d n size is = is
all_fewer probe (p ∷ ps) d n size is = one_fewer (is_number p.0 probe) p d n size (all_fewer probe ps (with_one_lost (is_number p.0 probe) p d) n size is)

asked_fewer : (now : ℕ) (d : Discovery) → Fewer d (after_question now d)
asked_fewer now d = go (finds_black_hole d)
  where
    go : (b : Bool) → Fewer d (cond b (record d { size = d.bursts.least; plan = option_map (plan_cooled now) d.plan; bursts = after_told d.bursts }) (record d { bursts = after_told d.bursts }))
    go true n size is = absurd (cooled_none now d.plan n size is)
    go false n size is = is

-- packets are lost
pub lost_fewer : (now : ℕ) (lost : Table TrackedPacket) (d : Discovery) → Fewer d (sizes.after_lost now lost d)
lost_fewer now lost d n size is = all_fewer (of_search.open_probe d) lost d n size (asked (others_of d lost) is)
  where
    asked : (ps : Table TrackedPacket) → acknowledged_probe n (asked_behind ps now (with_lost lost d)) ≡ Some size → acknowledged_probe n (with_lost lost d) ≡ Some size
    asked [] is = is
    asked (p ∷ ps) is = asked_fewer now (with_lost lost d) n size is

-- it is asked for a size: the probe that is open behind was open before, or it is the one that it
-- names, under the number that was handed in
pub polled_fewer : (now number : ℕ) (d : Discovery) (n size : ℕ) → acknowledged_probe n (after_poll now number d) ≡ Some size → (acknowledged_probe n d ≡ Some size) ⊎ ((n ≡ number) × (poll_names now d ≡ Some size))
polled_fewer now number d n size is = plan_case d.plan is
  where
    numbered : (m : ℕ) (b : Bool) → (number == n) ≡ b → cond b (Some m) None ≡ Some size → (n ≡ number) × (Some m ≡ Some size)
    numbered m true so is = (sym (eqb-true number n so), is)
    numbered m false so is = cc

    -- by the size that is next
    named : (plan : Plan) (s : Search) (o : Option ℕ) → probed_by n (search_in (probed_if o (narrowed s) now number plan)) ≡ Some size → (n ≡ number) × (o ≡ Some size)
    named plan s None is = cc
    named plan s (Some m) is = numbered m (number == n) refl is

    -- by whether a probe is open
    unless : (plan : Plan) (s : Search) (p : Option ℕ) → probed_by n (search_in (polled_unless p s now number plan)) ≡ Some size
        → (probed_by n (search_in plan) ≡ Some size) ⊎ ((n ≡ number) × (size_unless p plan.settings.least_change s ≡ Some size))
    unless plan s None is = inr (named plan s (next_size plan.settings.least_change (narrowed s)) is)
    unless plan s (Some m) is = inl is

    -- by the search that is under way
    search_case : (plan : Plan) (o : Option Search) → probed_by n (search_in (polled_if o now number plan)) ≡ Some size → (probed_by n (search_in plan) ≡ Some size) ⊎ ((n ≡ number) × (size_if o plan.settings.least_change ≡ Some size))
    search_case plan None is = inl is
    search_case plan (Some s) is = unless plan s s.probe is

    plan_case : (o : Option Plan) → probed_by n (option_and_then search_in (option_map (plan_polled now number d.size d.limit) o)) ≡ Some size
        → (probed_by n (option_and_then search_in o) ≡ Some size) ⊎ ((n ≡ number) × (option_and_then (plan_names now d.size d.limit) o ≡ Some size))
    plan_case None is = inl is
    plan_case (Some plan) is = search_case plan (due now d.size d.limit plan) is

-- ---- the size to which it falls

-- it stays
pub acked_least : (number length : ℕ) (d : Discovery) → (after_ack number length d).bursts.least ≡ d.bursts.least
acked_least number length d = go (acknowledged_probe number d)
  where
    go : (o : Option ℕ) → (acknowledged_if o number length d).bursts.least ≡ d.bursts.least
    go None = acknowledged_least number length d.bursts
    go (Some m) = refl

all_least : (probe : Option ℕ) (ps : Table TrackedPacket) (d : Discovery) → (with_all_lost probe ps d).bursts.least ≡ d.bursts.least
all_least probe [] d = refl
all_least probe (p ∷ ps) d = all_least probe ps (with_one_lost (is_number p.0 probe) p d) ∙ one (is_number p.0 probe)
  where
    one : (b : Bool) → (with_one_lost b p d).bursts.least ≡ d.bursts.least
    one true = refl
    one false = lost_least d.bursts.current p.0 p.1.size d.bursts

asked_least : (now : ℕ) (d : Discovery) → (after_question now d).bursts.least ≡ d.bursts.least
asked_least now d = go (finds_black_hole d)
  where
    go : (b : Bool) → (cond b (record d { size = d.bursts.least; plan = option_map (plan_cooled now) d.plan; bursts = after_told d.bursts }) (record d { bursts = after_told d.bursts })).bursts.least ≡ d.bursts.least
    go true = told_least d.bursts
    go false = told_least d.bursts

pub lost_least_stays : (now : ℕ) (lost : Table TrackedPacket) (d : Discovery) → (sizes.after_lost now lost d).bursts.least ≡ d.bursts.least
lost_least_stays now lost d = asked (others_of d lost) ∙ all_least (of_search.open_probe d) lost d
  where
    asked : (ps : Table TrackedPacket) → (asked_behind ps now (with_lost lost d)).bursts.least ≡ (with_lost lost d).bursts.least
    asked [] = refl
    asked (p ∷ ps) = asked_least now (with_lost lost d)

-- ---- the size

-- a packet is acknowledged: the size is that of the open probe, where it is it
pub acked_size : (number length : ℕ) (d : Discovery) (o : Option ℕ) → acknowledged_probe number d ≡ o → (after_ack number length d).size ≡ (acknowledged_if o number length d).size
acked_size number length d o is = ap (λ (p : Option ℕ). (acknowledged_if p number length d).size) is

all_size : (probe : Option ℕ) (ps : Table TrackedPacket) (d : Discovery) → (with_all_lost probe ps d).size ≡ d.size
all_size probe [] d = refl
all_size probe (p ∷ ps) d = all_size probe ps (with_one_lost (is_number p.0 probe) p d) ∙ one (is_number p.0 probe)
  where
    one : (b : Bool) → (with_one_lost b p d).size ≡ d.size
    one true = refl
    one false = refl

-- it stays, or falls to the least one, and no probe is open then
abbrev pub Falls : Discovery → Discovery → Type 0
Falls d f = (f.size ≡ d.size) ⊎ ((f.size ≡ d.bursts.least) × IsShut f)

asked_falls : (now : ℕ) (d : Discovery) → Falls d (after_question now d)
asked_falls now d = go (finds_black_hole d)
  where
    go : (b : Bool) → Falls d (cond b (record d { size = d.bursts.least; plan = option_map (plan_cooled now) d.plan; bursts = after_told d.bursts }) (record d { bursts = after_told d.bursts }))
    go true = inr (refl, cooled_none now d.plan)
    go false = inl refl

-- packets are lost
pub lost_falls : (now : ℕ) (lost : Table TrackedPacket) (d : Discovery) → Falls d (sizes.after_lost now lost d)
lost_falls now lost d = elim (asked (others_of d lost)) [
  | inl same ↦ inl (same ∙ all_size (of_search.open_probe d) lost d)
  | inr fell ↦ inr (fell.0 ∙ all_least (of_search.open_probe d) lost d, fell.1)
]
  where
    asked : (ps : Table TrackedPacket) → Falls (with_lost lost d) (asked_behind ps now (with_lost lost d))
    asked [] = inl refl
    asked (p ∷ ps) = asked_falls now (with_lost lost d)
