-- Where the steps of a search are of three bytes at least, no probe of a size has exactly the
-- current size: each is longer.
use Rattle.std.proofs.Common.{◌≡◌, ◌⊎◌, ℕ, ◌+◌, ◌-◌, ◌/◌, ◌<◌, ◌≤◌, leb, ltb, cond, Bool, true, false, [], ◌∷◌, List, Option, Some, None, inl, inr, refl, sym, ◌∙◌, subst, arith}
use Rattle.std.specs.Prelude.{⊤, ◌==◌, IfSome}
use Rattle.std.specs.Int.{abs_diff}
use Rattle.std.specs.Option.{option_map, option_and_then}
use Rattle.std.proofs.lemmas.Bool.{eq-eqb, both_ways, leb-true}
use Rattle.quic_config.specs.Configs.{SearchSettings}
use Rattle.quic_config.specs.Transport.{TransportSettings, transport_of, first_mtu}
use Rattle.quic_config.specs.declared.mtu_discovery.TheConstants.{MAX_UDP_PAYLOAD}
use Rattle.quic_congestion.specs.Bursts.{after_told}
use Rattle.quic_congestion.specs.Search as of_search
use Rattle.quic_congestion.specs.Search.{Search, Plan, Discovery, within, narrowed, middle, halved, next_size, is_number, search_in, failed_if, plan_succeeded, plan_failed, plan_cooled, plan_polled, due, due_if, polled_if, polled_unless, probed_if, plan_names, size_if, size_unless, acknowledged_probe, acknowledged_if, after_ack, finds_black_hole, after_limit, discovery_by, first_discovery, poll_names, after_poll, open_probe}
use Rattle.quic_congestion.specs.SearchBounds.{IsSearch, IsSearchIf, IsPlanIf, Reaches, IsSized}
use Rattle.quic_congestion.proofs.SearchBetween.{narrowed_between, due_between}
use Rattle.quic_congestion.proofs.SizedSearch.{sized_polled}
use Rattle.quic_streams_parts.specs.Table.{Table}
use Rattle.quic_machine.specs.declared.run.Call.{Call}
use Rattle.quic_machine.specs.declared.run.Answer.{Answer}
use Rattle.quic_machine.specs.Policy.{Policy}
use Rattle.quic_machine.specs.Tracking.{TrackedPacket}
use Rattle.quic_machine.specs.Closing.{ticked}
use Rattle.quic_machine.specs.End.{End, with_closing}
use Rattle.quic_machine.specs.Sizes.{others_of, with_one_lost, with_all_lost, with_lost, asked_behind, after_lost}
use Rattle.quic_machine.specs.Machine.{after_call}
use Rattle.quic_machine.specs.FrameCases.{by_searched, apart_leaves}
use Rattle.quic_machine.specs.CallCases.{Plain, by_plain_call}
use Rattle.quic_machine.specs.CallCases as cases
use Rattle.quic_headline.proofs.Packets.Apart.{by_waits, by_next_id}
use Rattle.quic_headline.proofs.Packets.Sizes.{Searching, received_size, expired_size, polled_search}
use Rattle.quic_headline.proofs.Packets.Group.{PacketsHold}
use Rattle.quic_headline.proofs.Places.Parties.{Party}
use Rattle.quic_headline.proofs.Places.Groups.{Way, Group}
use Rattle.quic_headline.proofs.Packets.Moved.{by_migrated}

-- the last probe of a search is above the low bound, unless it came through, or none went
abbrev Steps : Option Search → Type 0
Steps None = ⊤
Steps (Some s) = ((s.lost ≡ 0) × (s.probe ≡ None)) ⊎ (s.low < s.last)

-- and its steps are of three bytes at least
abbrev StepsIf : Option Plan → Type 0
StepsIf None = ⊤
StepsIf (Some plan) = (3 ≤ plan.settings.least_change) × Steps plan.current

-- so it is of the search of an end
abbrev pub IsApart : Discovery → Type 0
IsApart d = StepsIf d.plan

-- ---- one search

-- a middle so far away from the last size isn't the low bound
far_middle : (low high last change : ℕ) → low ≤ last → last ≤ high + 1 → 3 ≤ change → change ≤ abs_diff ((low + high) / 2) last → low < (low + high) / 2
far_middle low high last change a b c d = omega arith

-- the middle, or the high bound, is above the low one
halved_rises : (change n : ℕ) (s : Search) → 3 ≤ change → s.low ≤ s.last → s.last ≤ s.high + 1 → halved change s ≡ Some n → s.low < n
halved_rises change n s three low high e = go (leb change (abs_diff (middle s) s.last)) (leb change (s.high - s.last)) refl refl e
  where
    go : (t u : Bool) → leb change (abs_diff (middle s) s.last) ≡ t → leb change (s.high - s.last) ≡ u → cond t (Some (middle s)) (cond u (Some s.high) None) ≡ Some n → s.low < n
    go true u f g e =
        let same : middle s ≡ n = cc in
        subst (λ (m : ℕ). s.low < m) same (far_middle s.low s.high s.last change low high three (leb-true change (abs_diff (middle s) s.last) f))
    go false true f g e =
        let same : s.high ≡ n = cc in
        let far = leb-true change (s.high - s.last) g in
        omega arith
    go false false f g e = cc

-- where the last size goes again, it is above the low bound
narrowed_steps : (s : Search) → Steps (Some s) → ((narrowed s).lost == 0) ≡ false → (narrowed s).low < (narrowed s).last
narrowed_steps s steps = go (s.lost == 0) refl (ltb s.lost 3) steps
  where
    go : (t : Bool) → (s.lost == 0) ≡ t → (u : Bool) → Steps (Some s) → (let z : Search = cond t (record s { low = s.last }) (cond u s (record s { high = s.last - 1; lost = 0 })) in (z.lost == 0) ≡ false → z.low < z.last)
    go true is u h some = absurd (both_ways (s.lost == 0) some is)
    go false is true (inl none) some = absurd (both_ways (s.lost == 0) is (eq-eqb s.lost 0 none.0))
    go false is true (inr above) some = above
    go false is false h some = cc

-- the next size is above the low bound
next_rises : (least change n : ℕ) (limit : Option ℕ) (s : Search) → 3 ≤ change → IsSearch least limit s → Steps (Some s) → next_size change (narrowed s) ≡ Some n → (narrowed s).low < n
next_rises least change n limit s three h steps e = go ((narrowed s).lost == 0) refl e
  where
    j : IsSearch least limit (narrowed s)
    j = narrowed_between least limit s h

    go : (t : Bool) → ((narrowed s).lost == 0) ≡ t → cond t (halved change (narrowed s)) (Some (narrowed s).last) ≡ Some n → (narrowed s).low < n
    go true is f = halved_rises change n (narrowed s) three j.last j.high f
    go false is f =
        let same : (narrowed s).last ≡ n = cc in
        subst (λ (m : ℕ). (narrowed s).low < m) same (narrowed_steps s steps is)

-- ---- a poll

-- a search that begins has probed nothing
due_steps : (now size : ℕ) (limit : Option ℕ) (plan : Plan) (o : Option Search) → Steps o → Steps (due_if o now size limit plan)
due_steps now size limit plan None steps = go (ltb now plan.next)
  where
    go : (t : Bool) → Steps (cond t None (Some (of_search.begun size limit plan.settings.upper_bound)))
    go true = tt
    go false = inl (refl, refl)
due_steps now size limit plan (Some s) steps = steps

polled_steps : (least now number : ℕ) (limit : Option ℕ) (plan : Plan) (o : Option Search) → StepsIf (Some plan) → IsSearchIf least limit o → Steps o → StepsIf (Some (polled_if o now number plan))
polled_steps least now number limit plan None i h steps = i
polled_steps least now number limit plan (Some s) i h steps = go s.probe
  where
    next : (o : Option ℕ) → next_size plan.settings.least_change (narrowed s) ≡ o → StepsIf (Some (probed_if o (narrowed s) now number plan))
    next None e = (i.0, tt)
    next (Some n) e = (i.0, inr (next_rises least plan.settings.least_change n limit s i.0 h steps e))

    go : (p : Option ℕ) → StepsIf (Some (polled_unless p s now number plan))
    go None = next (next_size plan.settings.least_change (narrowed s)) refl
    go (Some m) = i

apart_polled : (least most now number : ℕ) (d : Discovery) → IsSized least most d → IsApart d → IsApart (after_poll now number d)
apart_polled least most now number d h i = go d.plan h.between.plan i
  where
    go : (o : Option Plan) → IsPlanIf least d.limit o → StepsIf o → StepsIf (option_map (plan_polled now number d.size d.limit) o)
    go None j steps = tt
    go (Some plan) j steps = polled_steps least now number d.limit plan (due now d.size d.limit plan) steps (due_between least now d.size d.limit plan plan.current h.between.size h.between.limit j.1) (due_steps now d.size d.limit plan plan.current steps.1)

-- ---- the size that a poll names

-- the low bound isn't below the size
narrowed_reaches : (size : ℕ) (s : Search) → Reaches size (Some s) → s.low ≤ s.last → size ≤ (narrowed s).low
narrowed_reaches size s reaches rises = go (s.lost == 0) refl (ltb s.lost 3) reaches
  where
    go : (t : Bool) → (s.lost == 0) ≡ t → (u : Bool) → Reaches size (Some s) → size ≤ (cond t (record s { low = s.last }) (cond u s (record s { high = s.last - 1; lost = 0 }))).low
    go true is u (inl last) = last.2
    go true is u (inr low) = omega arith
    go false is u (inl last) = absurd (both_ways (s.lost == 0) is (eq-eqb s.lost 0 last.0))
    go false is true (inr low) = low
    go false is false (inr low) = low

-- a search begins at the size, which is within the limit
due_reaches : (now size most : ℕ) (limit : Option ℕ) (plan : Plan) (o : Option Search) → limit ≡ Some most → size ≤ most → Reaches size o → Reaches size (due_if o now size limit plan)
due_reaches now size most limit plan None is few reaches = go (ltb now plan.next)
  where
    begins : (l : Option ℕ) → l ≡ Some most → size ≤ within l size
    begins None none = cc
    begins (Some m) some = let same : m ≡ most = cc in omega arith

    go : (t : Bool) → Reaches size (cond t None (Some (of_search.begun size limit plan.settings.upper_bound)))
    go true = tt
    go false = inr (begins limit is)
due_reaches now size most limit plan (Some s) is few reaches = reaches

named_search : (least size change n : ℕ) (limit : Option ℕ) (o : Option Search) → 3 ≤ change → IsSearchIf least limit o → Reaches size o → Steps o → size_if o change ≡ Some n → size < n
named_search least size change n limit None three h reaches steps e = cc
named_search least size change n limit (Some s) three h reaches steps e = go s.probe e
  where
    go : (p : Option ℕ) → size_unless p change s ≡ Some n → size < n
    go (Some m) e = cc
    go None e =
        let low = narrowed_reaches size s reaches h.last in
        let above = next_rises least change n limit s three h steps e in
        omega arith

-- it is longer than the current one
pub named_apart : (least most now n : ℕ) (d : Discovery) → IsSized least most d → IsApart d → poll_names now d ≡ Some n → d.size < n
named_apart least most now n d h i e = go d.plan h.between.plan h.reaches i e
  where
    go : (o : Option Plan) → IsPlanIf least d.limit o → Reaches d.size (option_and_then search_in o) → StepsIf o → option_and_then (plan_names now d.size d.limit) o ≡ Some n → d.size < n
    go None j reaches steps e = cc
    go (Some plan) j reaches steps e = named_search least d.size plan.settings.least_change n d.limit (due now d.size d.limit plan) steps.0
        (due_between least now d.size d.limit plan plan.current h.between.size h.between.limit j.1)
        (due_reaches now d.size most d.limit plan plan.current h.limit h.size reaches)
        (due_steps now d.size d.limit plan plan.current steps.1) e

-- ---- packets that are acknowledged or lost

succeeded_steps : (o : Option Plan) → StepsIf o → StepsIf (option_map plan_succeeded o)
succeeded_steps None i = tt
succeeded_steps (Some plan) i = (i.0, go plan.current)
  where
    go : (o : Option Search) → Steps (option_map of_search.succeeded o)
    go None = tt
    go (Some s) = inl (refl, refl)

failed_steps : (o : Option Plan) → StepsIf o → StepsIf (option_map plan_failed o)
failed_steps None i = tt
failed_steps (Some plan) i = (i.0, go plan.current i.1)
  where
    one : (s : Search) (p : Option ℕ) → s.probe ≡ p → Steps (Some s) → Steps (Some (failed_if p s))
    one s None is steps = steps
    one s (Some m) is (inl none) = (let clash : ◌≡◌ {A = Option ℕ} None (Some m) = sym none.1 ∙ is in cc)
    one s (Some m) is (inr above) = inr above

    go : (o : Option Search) → Steps o → Steps (option_map of_search.failed o)
    go None steps = tt
    go (Some s) steps = one s s.probe refl steps

cooled_steps : (now : ℕ) (o : Option Plan) → StepsIf o → StepsIf (option_map (plan_cooled now) o)
cooled_steps now None i = tt
cooled_steps now (Some plan) i = (i.0, tt)

acked_apart : (number length : ℕ) (d : Discovery) → IsApart d → IsApart (after_ack number length d)
acked_apart number length d i = go (acknowledged_probe number d)
  where
    go : (o : Option ℕ) → IsApart (acknowledged_if o number length d)
    go None = i
    go (Some n) = succeeded_steps d.plan i

all_apart : (probe : Option ℕ) (ps : Table TrackedPacket) (d : Discovery) → IsApart d → IsApart (with_all_lost probe ps d)
all_apart probe [] d i = i
all_apart probe (p ∷ ps) d i = all_apart probe ps (with_one_lost (is_number p.0 probe) p d) (one (is_number p.0 probe))
  where
    one : (b : Bool) → IsApart (with_one_lost b p d)
    one true = failed_steps d.plan i
    one false = i

lost_apart : (now : ℕ) (lost : Table TrackedPacket) (d : Discovery) → IsApart d → IsApart (after_lost now lost d)
lost_apart now lost d i = asked (others_of d lost) (all_apart (open_probe d) lost d i)
  where
    question : (f : Discovery) → IsApart f → (b : Bool) → IsApart (cond b (record f { size = f.bursts.least; plan = option_map (plan_cooled now) f.plan; bursts = after_told f.bursts }) (record f { bursts = after_told f.bursts }))
    question f j true = cooled_steps now f.plan j
    question f j false = j

    asked : (ps : Table TrackedPacket) → IsApart (with_lost lost d) → IsApart (asked_behind ps now (with_lost lost d))
    asked [] j = j
    asked (p ∷ ps) j = question (with_lost lost d) j (finds_black_hole (with_lost lost d))

-- ---- any call

searching : Searching (λ s. IsApart s.discovery)
searching = record {
  acks = λ p e i. acked_apart p.0 p.1.size e.path.discovery i;
  loses = λ lost e i. by_searched (after_lost e.closing.clock lost e.path.discovery) e (λ (x : End). IsApart x.path.discovery)
      (lost_apart e.closing.clock lost e.path.discovery i) (λ most. lost_apart e.closing.clock lost e.path.discovery i);
}

apart_call : (least most : ℕ) (p : Policy) (e : End) (theirs : List (List ℕ)) (call : Call) (a : Answer) → IsSized least most e.path.discovery → IsApart e.path.discovery → IsApart (after_call p e theirs call a).path.discovery
apart_call least most p e theirs call a sized i = by_plain_call p e theirs (λ (x : End). IsApart x.path.discovery) call a keep
  where
    keep : Plain p e call (λ (x : End). IsApart x.path.discovery)
    keep (cases.times now expiry) may = expired_size (λ s. IsApart s.discovery) searching p.words e now expiry i
    keep (cases.polls now) may = (polled_search (λ (d : Discovery). IsSized least most d × IsApart d) (λ moment number d h. (sized_polled least most moment number d h.0, apart_polled least most moment number d h.0 h.1)) p e now (sized, i)).1
    keep (cases.hears arrival d) may = received_size (λ s. IsApart s.discovery) searching (λ f x is j. apart_leaves (λ (y : End). IsApart y.path.discovery) f x is (λ c. j) (λ c longest. j)) (λ q o remote x j. by_migrated (λ (y : End). IsApart y.path.discovery) q o remote x (λ c. j) (λ c longest. j)) p e arrival d i
    keep (cases.waits now b) may = by_waits (λ (x : End). IsApart x.path.discovery) b (with_closing e (ticked e.closing now)) i i
    keep (cases.changes_id b) may = by_next_id (λ (x : End). IsApart x.path.discovery) e b i (λ c. i) (λ c longest. i)
    keep c may = i

-- ---- the group

-- Where the steps of an end's search are of three bytes at least, as it was made, its probes are
-- longer than its datagrams.
pub record ProbesApart (x y : Party) : Type 0 where
  pub apart : IfSome x.made.transport.mtu_discovery_config (λ s. 3 ≤ s.least_change) → IsApart x.end.path.discovery

-- so it is as it was made
first_apart : (most : ℕ) (t : TransportSettings) → IfSome t.mtu_discovery_config (λ s. 3 ≤ s.least_change) → IsApart (after_limit most (first_discovery true None t))
first_apart most t three = go t.mtu_discovery_config three
  where
    go : (o : Option SearchSettings) → IfSome o (λ s. 3 ≤ s.least_change) → IsApart (after_limit most (discovery_by o (first_mtu t) t.min_mtu None))
    go None three = tt
    go (Some s) three = (three, tt)

pub apart_group : (B : Way) → ((x y : Party) → B x y → PacketsHold x y) → Group B ProbesApart
apart_group B packets = record {
  first = λ x y m there back. record { apart = first_apart MAX_UDP_PAYLOAD (transport_of x.making.settings) };
  writer = λ x y call a c i back. record { apart = λ three. apart_call 1200 MAX_UDP_PAYLOAD x.policy x.end y.given call a (packets x y c.gives).sized (i.apart three) };
  reader = λ x y call a c there back. record { apart = back.apart };
  shows = λ x y here there b back i j. record { apart = i.apart };
}
