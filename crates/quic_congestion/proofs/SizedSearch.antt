-- The size of datagrams stays between the least that each path carries and what the peer takes,
-- whatever the search for a greater one comes to: it grows with an acknowledged probe, and falls
-- only where packets are lost that show that the path carries less. No probe is smaller than the
-- size.
use Rattle.std.proofs.Common.{◌≡◌, ℕ, ◌+◌, ◌-◌, ◌/◌, ◌≤◌, leb, ap, Bool, true, false, cond, ltb, Option, Some, None, refl, sym, ◌∙◌, subst, ◌⊎◌, inl, inr, arith}
use Rattle.std.specs.Prelude.{⊤, ◌==◌, IfSome}
use Rattle.std.specs.Int.{abs_diff}
use Rattle.std.specs.Option.{is_some, option_map, option_and_then}
use Rattle.std.proofs.lemmas.Bool.{eq-eqb, both_ways, leb-true, leb-false}
use Rattle.quic_config.specs.Configs.{SearchSettings}
use Rattle.quic_config.specs.Transport.{TransportSettings, first_mtu}
use Rattle.quic_congestion.specs.Bursts.{after_told}
use Rattle.quic_congestion.specs.Search.{Search, Plan, Discovery, SearchCall, Reset, Polled, Limited, Acknowledged, ProbeLost, PacketLost, Asked, within, begun, narrowed, middle, halved, next_size, succeeded, failed_if, failed, due, due_if, size_if, size_unless, plan_names, probed_if, polled_unless, polled_if, plan_polled, plan_anew, plan_succeeded, plan_failed, plan_cooled, search_in, is_number, probed_by, search_of, search_bound, open_of, open_probe, is_searching, search_after, poll_names, after_reset, after_poll, acknowledged_probe, acknowledged_if, after_ack, after_probe_lost, after_packet_lost, finds_black_hole, after_question, after_limit, new_discovery, discovery_by, first_discovery}
use Rattle.quic_congestion.specs.SearchBounds.{IsAbove, IsBelow, IsSearch, IsSearchIf, IsPlanIf, StaysBetween, Reaches, Ends, EndsIf, IsSized, HandsInWithin}
use Rattle.quic_congestion.proofs.SearchBetween.{begins_between, keeps_between, narrowed_between, next_between, due_between, middle_next, named_between}
use Rattle.quic_congestion.proofs.SearchSizes.{lost_least, acknowledged_least, told_least}

-- ---- one search

-- the last probe isn't below the low bound
abbrev Rises : Option Search → Type 0
Rises None = ⊤
Rises (Some s) = s.low ≤ s.last

rises_between : (least : ℕ) (limit : Option ℕ) (o : Option Search) → IsSearchIf least limit o → Rises o
rises_between least limit None h = tt
rises_between least limit (Some s) h = h.last

narrowed_reaches : (size : ℕ) (s : Search) → Reaches size (Some s) → s.low ≤ s.last → size ≤ (narrowed s).low
narrowed_reaches size s r rises = go (s.lost == 0) refl (ltb s.lost 3) r
  where
    go : (t : Bool) → (s.lost == 0) ≡ t → (u : Bool) → Reaches size (Some s) → size ≤ (cond t (record s { low = s.last }) (cond u s (record s { high = s.last - 1; lost = 0 }))).low
    go true is u (inl last) = last.2
    go true is u (inr low) = omega arith
    go false is u (inl last) = absurd (both_ways (s.lost == 0) is (eq-eqb s.lost 0 last.0))
    go false is true (inr low) = low
    go false is false (inr low) = low

-- ---- a poll

within_reaches : (limit : Option ℕ) (size most : ℕ) → limit ≡ Some most → size ≤ most → size ≤ within limit size
within_reaches None size most is l = cc
within_reaches (Some limit) size most is l = let same : limit ≡ most = cc in omega arith

due_reaches : (now size most : ℕ) (limit : Option ℕ) (plan : Plan) (o : Option Search) → limit ≡ Some most → size ≤ most → Reaches size o → Rises o → Reaches size (due_if o now size limit plan) × Rises (due_if o now size limit plan)
due_reaches now size most limit plan None is l r rises = go (ltb now plan.next)
  where
    go : (t : Bool) → Reaches size (cond t None (Some (begun size limit plan.settings.upper_bound))) × Rises (cond t None (Some (begun size limit plan.settings.upper_bound)))
    go true = (tt, tt)
    go false = (inr (within_reaches limit size most is l), omega arith)
due_reaches now size most limit plan (Some s) is l r rises = (r, rises)

polled_reaches : (now number size : ℕ) (plan : Plan) (o : Option Search) → Reaches size plan.current → Reaches size o → Rises o → Reaches size (polled_if o now number plan).current
polled_reaches now number size plan None before r rises = before
polled_reaches now number size plan (Some s) before r rises = go s.probe
  where
    next : (o : Option ℕ) → Reaches size (probed_if o (narrowed s) now number plan).current
    next None = tt
    next (Some n) = inr (narrowed_reaches size s r rises)

    go : (p : Option ℕ) → Reaches size (polled_unless p s now number plan).current
    go None = next (next_size plan.settings.least_change (narrowed s))
    go (Some m) = before

plan_reaches : (least now number size most : ℕ) (limit : Option ℕ) (o : Option Plan) → limit ≡ Some most → size ≤ most → IsPlanIf least limit o → Reaches size (option_and_then search_in o) → Reaches size (option_and_then search_in (option_map (plan_polled now number size limit) o))
plan_reaches least now number size most limit None is l h r = tt
plan_reaches least now number size most limit (Some plan) is l h r =
    let both = due_reaches now size most limit plan plan.current is l r (rises_between least limit plan.current h.1) in
    polled_reaches now number size plan (due_if plan.current now size limit plan) r both.0 both.1

-- ---- a probe that is acknowledged, or lost

-- the last probe is within the limit
limited_last : (least most : ℕ) (limit : Option ℕ) (s : Search) → limit ≡ Some most → IsSearchIf least limit (Some s) → s.last ≤ most
limited_last least most None s is h = cc
limited_last least most (Some limit) s is h = let same : limit ≡ most = cc in let within = h.last_within in omega arith

succeeded_reaches : (least size most number n : ℕ) (limit : Option ℕ) (o : Option Search) → limit ≡ Some most → IsSearchIf least limit o → Reaches size o → probed_by number o ≡ Some n → (size ≤ n) × (n ≤ most) × Reaches n (option_map succeeded o)
succeeded_reaches least size most number n limit None is h r e = cc
succeeded_reaches least size most number n limit (Some s) is h r e = go s.probe refl e r
  where
    found : s.last ≡ n → size ≤ s.low → (size ≤ n) × (n ≤ most) × Reaches n (Some (succeeded s))
    found same low =
        let most_last = limited_last least most limit s is h in
        let rises : s.low ≤ s.last = h.last in
        (omega arith, omega arith, inl (refl, refl, omega arith))

    go : (p : Option ℕ) → s.probe ≡ p → cond (is_number number p) (Some s.last) None ≡ Some n → Reaches size (Some s) → (size ≤ n) × (n ≤ most) × Reaches n (Some (succeeded s))
    go None p f r = cc
    go (Some m) p f (inl last) = (let clash : ◌≡◌ {A = Option ℕ} None (Some m) = sym last.1 ∙ p in cc)
    go (Some m) p f (inr low) = named (m == number) f low
      where
        named : (t : Bool) → cond t (Some s.last) None ≡ Some n → size ≤ s.low → (size ≤ n) × (n ≤ most) × Reaches n (Some (succeeded s))
        named true g low = let same : s.last ≡ n = cc in found same low
        named false g low = cc

acked_reaches : (least size most number n : ℕ) (limit : Option ℕ) (o : Option Plan) → limit ≡ Some most → IsPlanIf least limit o → Reaches size (option_and_then search_in o) → probed_by number (option_and_then search_in o) ≡ Some n → (size ≤ n) × (n ≤ most) × Reaches n (option_and_then search_in (option_map plan_succeeded o))
acked_reaches least size most number n limit None is h r e = cc
acked_reaches least size most number n limit (Some plan) is h r e = succeeded_reaches least size most number n limit plan.current is h.1 r e

failed_reaches : (size : ℕ) (o : Option Search) → Reaches size o → Reaches size (option_map failed o)
failed_reaches size None r = tt
failed_reaches size (Some s) r = go s.probe refl r
  where
    go : (p : Option ℕ) → s.probe ≡ p → Reaches size (Some s) → Reaches size (Some (failed_if p s))
    go None p r = r
    go (Some m) p (inl last) = (let clash : ◌≡◌ {A = Option ℕ} None (Some m) = sym last.1 ∙ p in cc)
    go (Some m) p (inr low) = inr low

failed_plan : (size : ℕ) (o : Option Plan) → Reaches size (option_and_then search_in o) → Reaches size (option_and_then search_in (option_map plan_failed o))
failed_plan size None r = tt
failed_plan size (Some plan) r = failed_reaches size plan.current r

-- no search is under way where one rests
cooled_reaches : (size now : ℕ) (o : Option Plan) → Reaches size (option_and_then search_in (option_map (plan_cooled now) o))
cooled_reaches size now None = tt
cooled_reaches size now (Some plan) = tt

-- ---- the bound of a search

-- a search that began at its bound names none
no_middle : (low high last change : ℕ) → 2 ≤ change → low ≡ last → high ≡ last → change ≤ abs_diff ((low + high) / 2) last → ⊥
no_middle low high last change two one other far = omega arith

ended_names : (change n : ℕ) (s : Search) → 2 ≤ change → s.low ≡ s.last → s.high ≡ s.last → (s.lost ≡ 0) × (s.probe ≡ None) → next_size change s ≡ Some n → ⊥
ended_names change n s two one other rest e = go (s.lost == 0) refl e
  where
    halves : (t u : Bool) → leb change (abs_diff (middle s) s.last) ≡ t → leb change (s.high - s.last) ≡ u → cond t (Some (middle s)) (cond u (Some s.high) None) ≡ Some n → ⊥
    halves true u f g e = no_middle s.low s.high s.last change two one other (leb-true change (abs_diff (middle s) s.last) f)
    halves false true f g e = let far = leb-true change (s.high - s.last) g in omega arith
    halves false false f g e = cc

    go : (t : Bool) → (s.lost == 0) ≡ t → cond t (halved change s) (Some s.last) ≡ Some n → ⊥
    go true is f = halves (leb change (abs_diff (middle s) s.last)) (leb change (s.high - s.last)) refl refl f
    go false is f = both_ways (s.lost == 0) is (eq-eqb s.lost 0 rest.0)

begun_ends : (size bound : ℕ) (limit : Option ℕ) → Ends (within limit bound) (Some (begun size limit bound))
begun_ends size bound limit = go (leb (within limit bound) (within limit size)) refl
  where
    go : (t : Bool) → leb (within limit bound) (within limit size) ≡ t → Ends (within limit bound) (Some (begun size limit bound))
    go true is = let below = leb-true (within limit bound) (within limit size) is in inr (refl, omega arith, refl, refl)
    go false is = let above = leb-false (within limit bound) (within limit size) is in inl (omega arith, omega arith)

narrowed_ends : (bound : ℕ) (s : Search) → Ends bound (Some s) → Ends bound (Some (narrowed s))
narrowed_ends bound s e = go (s.lost == 0) refl (ltb s.lost 3) e
  where
    go : (t : Bool) → (s.lost == 0) ≡ t → (u : Bool) → Ends bound (Some s) → Ends bound (Some (cond t (record s { low = s.last }) (cond u s (record s { high = s.last - 1; lost = 0 }))))
    go true is u (inl b) = inl b
    go true is u (inr b) = inr (refl, b.1, b.2, b.3)
    go false is u (inr b) = absurd (both_ways (s.lost == 0) is (eq-eqb s.lost 0 b.2))
    go false is true (inl b) = inl b
    go false is false (inl b) = let last = b.0 in inl (b.0, omega arith)

-- no next size is above it
halved_ends : (bound change n : ℕ) (s : Search) → 2 ≤ change → s.low ≤ s.last → s.last ≤ s.high + 1 → Ends bound (Some s) → halved change s ≡ Some n → n ≤ bound
halved_ends bound change n s two low high b e = go (leb change (abs_diff (middle s) s.last)) (leb change (s.high - s.last)) refl refl e b
  where
    go : (t u : Bool) → leb change (abs_diff (middle s) s.last) ≡ t → leb change (s.high - s.last) ≡ u → cond t (Some (middle s)) (cond u (Some s.high) None) ≡ Some n → Ends bound (Some s) → n ≤ bound
    go true u f g e (inl b) =
        let same : middle s ≡ n = cc in
        let l = middle_next s.low s.high s.last change low high two (leb-true change (abs_diff (middle s) s.last) f) in
        let most = b.1 in
        let below = l.1 in
        omega arith
    go true u f g e (inr b) =
        let far = leb-true change (abs_diff (middle s) s.last) f in
        let one = b.0 in
        let other = b.1 in
        absurd (no_middle s.low s.high s.last change two one other far)
    go false true f g e (inl b) = let same : s.high ≡ n = cc in let most = b.1 in omega arith
    go false true f g e (inr b) = let far = leb-true change (s.high - s.last) g in let other = b.1 in absurd (omega arith)
    go false false f g e b = cc

next_ends : (bound change n : ℕ) (s : Search) → 2 ≤ change → s.low ≤ s.last → s.last ≤ s.high + 1 → Ends bound (Some s) → next_size change s ≡ Some n → n ≤ bound
next_ends bound change n s two low high b e = go (s.lost == 0) refl e b
  where
    go : (t : Bool) → (s.lost == 0) ≡ t → cond t (halved change s) (Some s.last) ≡ Some n → Ends bound (Some s) → n ≤ bound
    go true is f b = halved_ends bound change n s two low high b f
    go false is f (inl b) = let same : s.last ≡ n = cc in let last = b.0 in omega arith
    go false is f (inr b) = absurd (both_ways (s.lost == 0) is (eq-eqb s.lost 0 b.2))

due_ends : (now size : ℕ) (limit : Option ℕ) (plan : Plan) (o : Option Search) → Ends (within limit plan.settings.upper_bound) o → Ends (within limit plan.settings.upper_bound) (due_if o now size limit plan)
due_ends now size limit plan None b = go (ltb now plan.next)
  where
    go : (t : Bool) → Ends (within limit plan.settings.upper_bound) (cond t None (Some (begun size limit plan.settings.upper_bound)))
    go true = tt
    go false = begun_ends size plan.settings.upper_bound limit
due_ends now size limit plan (Some s) b = b

probed_ends : (least now number : ℕ) (limit : Option ℕ) (plan : Plan) (o : Option Search) → 2 ≤ plan.settings.least_change → IsSearchIf least limit o → EndsIf limit (Some plan) → Ends (within limit plan.settings.upper_bound) o → EndsIf limit (Some (polled_if o now number plan))
probed_ends least now number limit plan None two h before b = before
probed_ends least now number limit plan (Some s) two h before b = go s.probe
  where
    bound : ℕ
    bound = within limit plan.settings.upper_bound

    j : IsSearch least limit (narrowed s)
    j = narrowed_between least limit s h

    narrow : Ends bound (Some (narrowed s))
    narrow = narrowed_ends bound s b

    high_ends : (n : ℕ) → next_size plan.settings.least_change (narrowed s) ≡ Some n → n ≤ bound → Ends bound (Some (narrowed s)) → (n ≤ bound) × ((narrowed s).high ≤ bound)
    high_ends n e most (inl c) = (most, c.1)
    high_ends n e most (inr c) = absurd (ended_names plan.settings.least_change n (narrowed s) two c.0 c.1 (c.2, c.3) e)

    next : (o : Option ℕ) → next_size plan.settings.least_change (narrowed s) ≡ o → EndsIf limit (Some (probed_if o (narrowed s) now number plan))
    next None e = tt
    next (Some n) e = inl (high_ends n e (next_ends bound plan.settings.least_change n (narrowed s) two j.last j.high narrow e) narrow)

    go : (p : Option ℕ) → EndsIf limit (Some (polled_unless p s now number plan))
    go None = next (next_size plan.settings.least_change (narrowed s)) refl
    go (Some m) = before

plan_ends : (least now number size : ℕ) (limit : Option ℕ) (o : Option Plan) → least ≤ size → IsAbove least limit → IsPlanIf least limit o → EndsIf limit o → EndsIf limit (option_map (plan_polled now number size limit) o)
plan_ends least now number size limit None l a h b = tt
plan_ends least now number size limit (Some plan) l a h b =
    probed_ends least now number limit plan (due now size limit plan) h.0 (due_between least now size limit plan plan.current l a h.1) b (due_ends now size limit plan plan.current b)

succeeded_ends : (bound : ℕ) (o : Option Search) → Ends bound o → Ends bound (option_map succeeded o)
succeeded_ends bound None b = tt
succeeded_ends bound (Some s) (inl b) = inl b
succeeded_ends bound (Some s) (inr b) = inr (b.0, b.1, refl, refl)

succeeded_plan_ends : (limit : Option ℕ) (o : Option Plan) → EndsIf limit o → EndsIf limit (option_map plan_succeeded o)
succeeded_plan_ends limit None b = tt
succeeded_plan_ends limit (Some plan) b = succeeded_ends (within limit plan.settings.upper_bound) plan.current b

failed_ends : (bound : ℕ) (o : Option Search) → Ends bound o → Ends bound (option_map failed o)
failed_ends bound None b = tt
failed_ends bound (Some s) b = go s.probe refl b
  where
    go : (p : Option ℕ) → s.probe ≡ p → Ends bound (Some s) → Ends bound (Some (failed_if p s))
    go None p b = b
    go (Some m) p (inl b) = inl b
    go (Some m) p (inr b) = (let clash : ◌≡◌ {A = Option ℕ} None (Some m) = sym b.3 ∙ p in cc)

failed_plan_ends : (limit : Option ℕ) (o : Option Plan) → EndsIf limit o → EndsIf limit (option_map plan_failed o)
failed_plan_ends limit None b = tt
failed_plan_ends limit (Some plan) b = failed_ends (within limit plan.settings.upper_bound) plan.current b

cooled_ends : (now : ℕ) (limit : Option ℕ) (o : Option Plan) → EndsIf limit (option_map (plan_cooled now) o)
cooled_ends now limit None = tt
cooled_ends now limit (Some plan) = tt

anew_ends : (limit : Option ℕ) (o : Option Plan) → EndsIf limit (option_map plan_anew o)
anew_ends limit None = tt
anew_ends limit (Some plan) = tt

still_ends : (limit : Option ℕ) (o : Option Plan) → is_some (option_and_then search_in o) ≡ false → EndsIf limit o
still_ends limit None is = tt
still_ends limit (Some plan) is = go plan.current is
  where
    go : (o : Option Search) → is_some o ≡ false → Ends (within limit plan.settings.upper_bound) o
    go None is = tt
    go (Some s) is = absurd cc

-- ---- with the current size and the losses

pub sized_polled : (least most now number : ℕ) (d : Discovery) → IsSized least most d → IsSized least most (after_poll now number d)
sized_polled least most now number d h = record {
  between = keeps_between least (Polled now number) d tt h.between;
  limit = h.limit;
  size = h.size;
  floor = h.floor;
  reaches = plan_reaches least now number d.size most d.limit d.plan h.limit h.size h.between.plan h.reaches;
  ends = plan_ends least now number d.size d.limit d.plan h.between.size h.between.limit h.between.plan h.ends;
}

-- a search behind another, of which the size is no smaller
record Follows (most : ℕ) (d f : Discovery) : Type 0 where
  limit : f.limit ≡ Some most
  size : f.size ≤ most
  floor : f.bursts.least ≤ most
  reaches : Reaches f.size (search_of f)
  ends : EndsIf f.limit f.plan
  grows : d.size ≤ f.size

-- an acknowledged packet lets it grow, or leaves it
pub sized_acked : (least most number length : ℕ) (d : Discovery) → IsSized least most d → IsSized least most (after_ack number length d) × (d.size ≤ (after_ack number length d).size)
sized_acked least most number length d h = (
  record { between = keeps_between least (Acknowledged number length) d tt h.between; limit = found.limit; size = found.size; floor = found.floor; reaches = found.reaches; ends = found.ends },
  found.grows,
)
  where
    go : (o : Option ℕ) → acknowledged_probe number d ≡ o → Follows most d (acknowledged_if o number length d)
    go None e = record { limit = h.limit; size = h.size; floor = subst (λ (n : ℕ). n ≤ most) (sym (acknowledged_least number length d.bursts)) h.floor; reaches = h.reaches; ends = h.ends; grows = omega arith }
    go (Some n) e =
        let r = acked_reaches least d.size most number n d.limit d.plan h.limit h.between.plan h.reaches e in
        record { limit = h.limit; size = r.1; floor = h.floor; reaches = r.2; ends = succeeded_plan_ends d.limit d.plan h.ends; grows = r.0 }

    found : Follows most d (after_ack number length d)
    found = go (acknowledged_probe number d) refl

sized_probe_lost : (least most : ℕ) (d : Discovery) → IsSized least most d → IsSized least most (after_probe_lost d)
sized_probe_lost least most d h = record { between = keeps_between least ProbeLost d tt h.between; limit = h.limit; size = h.size; floor = h.floor; reaches = failed_plan d.size d.plan h.reaches; ends = failed_plan_ends d.limit d.plan h.ends }

sized_packet_lost : (least most number length : ℕ) (d : Discovery) → IsSized least most d → IsSized least most (after_packet_lost number length d)
sized_packet_lost least most number length d h = record {
  between = keeps_between least (PacketLost number length) d tt h.between;
  limit = h.limit;
  size = h.size;
  floor = subst (λ (n : ℕ). n ≤ most) (sym (lost_least d.bursts.current number length d.bursts)) h.floor;
  reaches = h.reaches;
  ends = h.ends;
}

pub sized_asked : (least most now : ℕ) (d : Discovery) → IsSized least most d → IsSized least most (after_question now d)
sized_asked least most now d h = go (finds_black_hole d) (keeps_between least (Asked now) d tt h.between)
  where
    floor : (after_told d.bursts).least ≤ most
    floor = subst (λ (n : ℕ). n ≤ most) (sym (told_least d.bursts)) h.floor

    fell : Discovery
    fell = record d { size = d.bursts.least; plan = option_map (plan_cooled now) d.plan; bursts = after_told d.bursts }

    go : (t : Bool) → StaysBetween least (cond t fell (record d { bursts = after_told d.bursts })) → IsSized least most (cond t fell (record d { bursts = after_told d.bursts }))
    go true between = record { between = between; limit = h.limit; size = h.floor; floor = floor; reaches = cooled_reaches d.bursts.least now d.plan; ends = cooled_ends now d.limit d.plan }
    go false between = record { between = between; limit = h.limit; size = h.size; floor = floor; reaches = h.reaches; ends = h.ends }

-- everything begins anew
anew_reaches : (size : ℕ) (o : Option Plan) → Reaches size (option_and_then search_in (option_map plan_anew o))
anew_reaches size None = tt
anew_reaches size (Some plan) = tt

within_most : (limit : Option ℕ) (size most : ℕ) → limit ≡ Some most → within limit size ≤ most
within_most None size most is = cc
within_most (Some limit) size most is = let same : limit ≡ most = cc in omega arith

-- no search is under way
still_reaches : (size : ℕ) (o : Option Search) → is_some o ≡ false → Reaches size o
still_reaches size None is = tt
still_reaches size (Some s) is = absurd cc

-- each call
pub keeps_sized : (least most : ℕ) (call : SearchCall) (d : Discovery) → HandsInWithin least most call d → IsSized least most d → IsSized least most (search_after call d)
keeps_sized least most (Reset size floor) d f h = record {
  between = keeps_between least (Reset size floor) d (f.0, f.1) h.between;
  limit = h.limit;
  size = within_most d.limit size most h.limit;
  floor = f.2;
  reaches = anew_reaches (within d.limit size) d.plan;
  ends = anew_ends d.limit d.plan;
}
keeps_sized least most (Polled now number) d f h = sized_polled least most now number d h
keeps_sized least most (Limited limit) d f h =
    let above : least ≤ most = (let low = h.between.size in let high = h.size in omega arith) in
    let same : limit ≡ most = f.0 in
    record {
      between = keeps_between least (Limited limit) d (omega arith, f.1) h.between;
      limit = rw same refl;
      size = omega arith;
      floor = h.floor;
      reaches = still_reaches (after_limit limit d).size (search_of d) f.1;
      ends = still_ends (Some limit) d.plan f.1;
    }
keeps_sized least most (Acknowledged number length) d f h = (sized_acked least most number length d h).0
keeps_sized least most ProbeLost d f h = sized_probe_lost least most d h
keeps_sized least most (PacketLost number length) d f h = sized_packet_lost least most number length d h
keeps_sized least most (Asked now) d f h = sized_asked least most now d h

-- ---- the size that a poll names

named_search : (least size most change n : ℕ) (limit : Option ℕ) (o : Option Search) → 2 ≤ change → IsSearchIf least limit o → Reaches size o → size_if o change ≡ Some n → size ≤ n
named_search least size most change n limit None two h r e = cc
named_search least size most change n limit (Some s) two h r e = go s.probe e
  where
    go : (p : Option ℕ) → size_unless p change s ≡ Some n → size ≤ n
    go (Some m) e = cc
    go None e =
        let low = narrowed_reaches size s r h.last in
        let next = next_between least change limit (narrowed s) n (narrowed_between least limit s h) two e in
        let above = next.low in
        omega arith

named_plan : (least now size most n : ℕ) (limit : Option ℕ) (o : Option Plan) → limit ≡ Some most → size ≤ most → least ≤ size → (least ≤ most) → IsPlanIf least limit o → Reaches size (option_and_then search_in o) → option_and_then (plan_names now size limit) o ≡ Some n → size ≤ n
named_plan least now size most n limit None is l low above h r e = cc
named_plan least now size most n limit (Some plan) is l low above h r e =
    named_search least size most plan.settings.least_change n limit (due now size limit plan) h.0
    (due_between least now size limit plan plan.current low (subst (λ (o : Option ℕ). IsAbove least o) (sym is) above) h.1)
    (due_reaches now size most limit plan plan.current is l r (rises_between least limit plan.current h.1)).0 e

below_most : (limit : Option ℕ) (n most : ℕ) → limit ≡ Some most → IsBelow limit n → n ≤ most
below_most None n most is below = cc
below_most (Some limit) n most is below = let same : limit ≡ most = cc in omega arith

-- it is within the bound
bounded_if : (least change n bound : ℕ) (limit : Option ℕ) (o : Option Search) → 2 ≤ change → IsSearchIf least limit o → Ends bound o → size_if o change ≡ Some n → n ≤ bound
bounded_if least change n bound limit None two h b e = cc
bounded_if least change n bound limit (Some s) two h b e = go s.probe e
  where
    j : IsSearch least limit (narrowed s)
    j = narrowed_between least limit s h

    go : (p : Option ℕ) → size_unless p change s ≡ Some n → n ≤ bound
    go (Some m) e = cc
    go None e = next_ends bound change n (narrowed s) two j.last j.high (narrowed_ends bound s b) e

bounded_plan : (least now size n bound : ℕ) (limit : Option ℕ) (o : Option Plan) → least ≤ size → IsAbove least limit → IsPlanIf least limit o → EndsIf limit o → option_and_then (plan_names now size limit) o ≡ Some n → option_map (λ plan. within limit plan.settings.upper_bound) o ≡ Some bound → n ≤ bound
bounded_plan least now size n bound limit None l a h b e is = cc
bounded_plan least now size n bound limit (Some plan) l a h b e is =
    let same : within limit plan.settings.upper_bound ≡ bound = cc in
    let most = bounded_if least plan.settings.least_change n (within limit plan.settings.upper_bound) limit (due now size limit plan) h.0 (due_between least now size limit plan plan.current l a h.1) (due_ends now size limit plan plan.current b) e in
    omega arith

pub named_bounded : (least most : ℕ) (d : Discovery) (now n bound : ℕ) → IsSized least most d → poll_names now d ≡ Some n → search_bound d ≡ Some bound → n ≤ bound
named_bounded least most d now n bound h e is = bounded_plan least now d.size n bound d.limit d.plan h.between.size h.between.limit h.between.plan h.ends e is

-- ---- the probe that a poll opens

opens_unless : (number n change now : ℕ) (plan : Plan) (s : Search) (p : Option ℕ) → size_unless p plan.settings.least_change s ≡ Some n → open_of (search_in (polled_unless p s now number plan)) ≡ Some number
opens_unless number n change now plan s None e = ap (λ (o : Option ℕ). open_of (search_in (probed_if o (narrowed s) now number plan))) e
opens_unless number n change now plan s (Some m) e = cc

opens_if : (now number n : ℕ) (plan : Plan) (o : Option Search) → size_if o plan.settings.least_change ≡ Some n → open_of (search_in (polled_if o now number plan)) ≡ Some number
opens_if now number n plan None e = cc
opens_if now number n plan (Some s) e = opens_unless number n plan.settings.least_change now plan s s.probe e

-- it has the number that was handed in
pub named_opens : (now number n : ℕ) (d : Discovery) → poll_names now d ≡ Some n → open_probe (after_poll now number d) ≡ Some number
named_opens now number n d e = go d.plan e
  where
    go : (o : Option Plan) → option_and_then (plan_names now d.size d.limit) o ≡ Some n → open_of (option_and_then search_in (option_map (plan_polled now number d.size d.limit) o)) ≡ Some number
    go None e = cc
    go (Some plan) e = opens_if now number n plan (due now d.size d.limit plan) e

-- and none was open before
pub named_alone : (now n : ℕ) (d : Discovery) → poll_names now d ≡ Some n → open_probe d ≡ None
named_alone now n d e = go d.plan e
  where
    alone : (s : Search) (change : ℕ) (p : Option ℕ) → s.probe ≡ p → size_unless p change s ≡ Some n → s.probe ≡ None
    alone s change None is e = is
    alone s change (Some m) is e = cc

    under_way : (plan : Plan) (o : Option Search) → size_if (due_if o now d.size d.limit plan) plan.settings.least_change ≡ Some n → open_of o ≡ None
    under_way plan None e = refl
    under_way plan (Some s) e = alone s plan.settings.least_change s.probe refl e

    go : (o : Option Plan) → option_and_then (plan_names now d.size d.limit) o ≡ Some n → open_of (option_and_then search_in o) ≡ None
    go None e = refl
    go (Some plan) e = under_way plan plan.current e

-- it is no smaller than the size, and the peer takes it
pub named_sized : (least most : ℕ) (d : Discovery) (now n : ℕ) → IsSized least most d → poll_names now d ≡ Some n → (d.size ≤ n) × (n ≤ most)
named_sized least most d now n h e = (
  named_plan least now d.size most n d.limit d.plan h.limit h.size h.between.size (let low = h.between.size in let high = h.size in omega arith) h.between.plan h.reaches e,
  below_most d.limit n most h.limit (named_between least d now n h.between e).1,
)

-- on a path that is made by such settings
pub sized_first : (least most : ℕ) (t : TransportSettings) → least ≤ first_mtu t → least ≤ t.min_mtu → t.min_mtu ≤ most → IfSome t.mtu_discovery_config (λ s. 2 ≤ s.least_change) → IsSized least most (after_limit most (first_discovery true None t))
sized_first least most t first floor within steps = go t.mtu_discovery_config steps
  where
    go : (o : Option SearchSettings) → IfSome o (λ s. 2 ≤ s.least_change) → IsSized least most (after_limit most (discovery_by o (first_mtu t) t.min_mtu None))
    go None steps = record { between = record { size = omega arith; floor = floor; limit = omega arith; plan = tt }; limit = refl; size = omega arith; floor = within; reaches = tt; ends = tt }
    go (Some s) steps = record {
      between = keeps_between least (Limited most) (new_discovery (first_mtu t) t.min_mtu None s) (omega arith, refl) (begins_between least (first_mtu t) t.min_mtu None s first floor tt steps);
      limit = refl;
      size = omega arith;
      floor = within;
      reaches = tt;
      ends = tt;
    }
