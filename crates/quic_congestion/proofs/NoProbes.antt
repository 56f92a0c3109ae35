-- Where the search is disabled, nothing is probed.
use Rattle.std.proofs.Common.{◌≡◌, ℕ, List, [], ◌∷◌, cond, Bool, true, false, refl, ap, Some, None, Option}
use Rattle.std.specs.Option.{option_map, option_and_then}
use Rattle.quic_congestion.specs.Search.{Discovery, SearchCall, Reset, Polled, Limited, Acknowledged, ProbeLost, PacketLost, Asked, plan_names, plan_anew, plan_polled, plan_succeeded, plan_failed, plan_cooled, search_after, search_over, disabled_discovery, acknowledged_if, acknowledged_probe, finds_black_hole, poll_names}
use Rattle.quic_congestion.specs.Bursts.{after_told}

stays_disabled : (call : SearchCall) (d : Discovery) → d.plan ≡ None → (search_after call d).plan ≡ None
stays_disabled (Reset size least) d h = ap (option_map plan_anew) h
stays_disabled (Polled now number) d h = ap (option_map (plan_polled now number d.size d.limit)) h
stays_disabled (Limited limit) d h = h
stays_disabled (Acknowledged number length) d h = go (acknowledged_probe number d)
  where
    go : (o : Option ℕ) → (acknowledged_if o number length d).plan ≡ None
    go None = h
    go (Some size) = ap (option_map plan_succeeded) h
stays_disabled ProbeLost d h = ap (option_map plan_failed) h
stays_disabled (PacketLost number length) d h = h
stays_disabled (Asked now) d h = go (finds_black_hole d)
  where
    found : Discovery
    found = record d { size = d.bursts.least; plan = option_map (plan_cooled now) d.plan; bursts = after_told d.bursts }

    go : (t : Bool) → (cond t found (record d { bursts = after_told d.bursts })).plan ≡ None
    go true = ap (option_map (plan_cooled now)) h
    go false = h

disabled_over : (size least : ℕ) (calls : List SearchCall) → (search_over (disabled_discovery size least) calls).plan ≡ None
disabled_over size least [] = refl
disabled_over size least (call ∷ earlier) = stays_disabled call (search_over (disabled_discovery size least) earlier) (disabled_over size least earlier)

pub no_probe : (size least : ℕ) (calls : List SearchCall) (now : ℕ) → poll_names now (search_over (disabled_discovery size least) calls) ≡ None
no_probe size least calls now =
    let d = search_over (disabled_discovery size least) calls in
    ap (option_and_then (plan_names now d.size d.limit)) (disabled_over size least calls)
