-- The datagrams of an end have no fewer bytes at most than each path carries, and no more than a
-- bound on what its settings and its peer say, whatever comes.
use Rattle.std.proofs.Common.{◌≡◌, ℕ, ◌≤◌, Bool, true, false, cond, List, [], ◌∷◌, Option, Some, None, refl, sym, subst, arith}
use Rattle.std.specs.Prelude.{IfSome}
use Rattle.std.specs.Option.{option_map, option_and_then}
use Rattle.quic_config.specs.Configs.{SearchSettings}
use Rattle.quic_config.specs.Transport.{TransportSettings, first_mtu}
use Rattle.quic_congestion.specs.Bursts.{after_told}
use Rattle.quic_congestion.specs.Search.{Search, Plan, Discovery, SearchCall, Reset, Limited, Acknowledged, ProbeLost, PacketLost, Asked, Polled, is_number, probed_by, search_in, plan_cooled, finds_black_hole, acknowledged_probe, acknowledged_if, open_probe, after_limit, new_discovery, discovery_by, first_discovery, search_after}
use Rattle.quic_congestion.specs.SearchBounds.{IsBelow, IsSearchIf, IsPlanIf, StaysBetween, HandsInNoLess}
use Rattle.quic_congestion.proofs.SearchBetween.{begins_between, keeps_between}
use Rattle.quic_congestion.proofs.SearchSizes.{lost_least, acknowledged_least, told_least}
use Rattle.quic_streams_parts.specs.Table.{Table}
use Rattle.quic_machine.specs.Tracking.{TrackedPacket}
use Rattle.quic_machine.specs.declared.run.Call.{Call}
use Rattle.quic_machine.specs.declared.run.Answer.{Answer}
use Rattle.quic_machine.specs.Policy.{Policy}
use Rattle.quic_machine.specs.Closing.{ticked}
use Rattle.quic_machine.specs.End.{End, with_closing}
use Rattle.quic_machine.specs.Sizes.{others_of, with_one_lost, with_all_lost, with_lost, asked_behind, after_lost}
use Rattle.quic_machine.specs.FrameCases.{by_searched, apart_leaves}
use Rattle.quic_machine.specs.CallCases.{Plain, by_plain_call}
use Rattle.quic_machine.specs.CallCases as cases
use Rattle.quic_machine.specs.Machine.{after_call}
use Rattle.quic_headline.proofs.Packets.Apart.{by_waits, by_next_id}
use Rattle.quic_headline.proofs.Packets.Sizes.{Searching, expired_size, polled_search, received_size}
use Rattle.quic_headline.proofs.Packets.Moved.{by_migrated}

-- a call that hands in no size
abbrev pub HandsNone : SearchCall → Type 0
HandsNone (Reset size least) = ⊥
HandsNone (Limited limit) = ⊥
HandsNone call = Unit {0}

-- so it hands in none that is less than another
hands_none : (least : ℕ) (call : SearchCall) (d : Discovery) → HandsNone call → HandsInNoLess least call d
hands_none least (Reset size floor) d none = absurd none
hands_none least (Limited limit) d none = absurd none
hands_none least call d none = tt

module _ (Q : Discovery → Type 0) (keeps : (call : SearchCall) (d : Discovery) → HandsNone call → Q d → Q (search_after call d)) where
  -- ---- packets that are lost

  one_lost : (b : Bool) (p : ℕ × TrackedPacket) (d : Discovery) → Q d → Q (with_one_lost b p d)
  one_lost true p d h = keeps ProbeLost d tt h
  one_lost false p d h = keeps (PacketLost p.0 p.1.size) d tt h

  all_lost : (probe : Option ℕ) (ps : Table TrackedPacket) (d : Discovery) → Q d → Q (with_all_lost probe ps d)
  all_lost probe [] d h = h
  all_lost probe (p ∷ ps) d h = all_lost probe ps (with_one_lost (is_number p.0 probe) p d) (one_lost (is_number p.0 probe) p d h)

  search_lost : (now : ℕ) (lost : Table TrackedPacket) (d : Discovery) → Q d → Q (after_lost now lost d)
  search_lost now lost d h = asked (others_of d lost) (all_lost (open_probe d) lost d h)
    where
      asked : (ps : Table TrackedPacket) → Q (with_lost lost d) → Q (asked_behind ps now (with_lost lost d))
      asked [] i = i
      asked (p ∷ ps) i = keeps (Asked now) (with_lost lost d) tt i

  -- ---- any call

  abbrev Searches : End → Type 0
  Searches e = Q e.path.discovery

  searching : Searching (λ s. Q s.discovery)
  searching = record {
    acks = λ p e h. keeps (Acknowledged p.0 p.1.size) e.path.discovery tt h;
    loses = λ lost e h. by_searched (after_lost e.closing.clock lost e.path.discovery) e Searches
        (search_lost e.closing.clock lost e.path.discovery h) (λ longest. search_lost e.closing.clock lost e.path.discovery h);
  }

  pub search_call : (p : Policy) (e : End) (theirs : List (List ℕ)) (call : Call) (a : Answer) → Searches e → Searches (after_call p e theirs call a)
  search_call p e theirs call a h = by_plain_call p e theirs Searches call a keep
    where
      keep : Plain p e call Searches
      keep (cases.times now expiry) may = expired_size (λ s. Q s.discovery) searching p.words e now expiry h
      keep (cases.polls now) may = polled_search Q (λ moment number d i. keeps (Polled moment number) d tt i) p e now h
      keep (cases.hears arrival d) may = received_size (λ s. Q s.discovery) searching (λ f x is i. apart_leaves Searches f x is (λ c. i) (λ c longest. i)) (λ q o remote x i. by_migrated Searches q o remote x (λ c. i) (λ c longest. i)) p e arrival d h
      keep (cases.waits now b) may = by_waits Searches b (with_closing e (ticked e.closing now)) h h
      keep (cases.changes_id b) may = by_next_id Searches e b h (λ c. h) (λ c longest. h)
      keep c may = h

-- ---- no size is less than a least one

module _ (least : ℕ) where
  abbrev pub IsBetween : End → Type 0
  IsBetween e = StaysBetween least e.path.discovery

  pub call_between : (p : Policy) (e : End) (theirs : List (List ℕ)) (call : Call) (a : Answer) → IsBetween e → IsBetween (after_call p e theirs call a)
  call_between = search_call (StaysBetween least) (λ call d none h. keeps_between least call d (hands_none least call d none) h)

  -- a path whose settings and whose peer let it carry no fewer
  pub first_between : (t : TransportSettings) (limit : ℕ) → least ≤ first_mtu t → least ≤ t.min_mtu → least ≤ limit → IfSome t.mtu_discovery_config (λ s. 2 ≤ s.least_change) → StaysBetween least (after_limit limit (first_discovery true None t))
  first_between t limit first floor above steps = go t.mtu_discovery_config steps
    where
      go : (o : Option SearchSettings) → IfSome o (λ s. 2 ≤ s.least_change) → StaysBetween least (after_limit limit (discovery_by o (first_mtu t) t.min_mtu None))
      go None steps = record { size = omega arith; floor = floor; limit = above; plan = tt }
      go (Some s) steps = keeps_between least (Limited limit) (new_discovery (first_mtu t) t.min_mtu None s) (above, refl) (begins_between least (first_mtu t) t.min_mtu None s first floor tt steps)

  -- ---- and none is more than a bound

  module _ (most : ℕ) where
    -- the size isn't, nor is that to which it falls, nor what the peer takes
    pub record IsBounded (d : Discovery) : Type 0 where
      pub between : StaysBetween least d
      pub size : d.size ≤ most
      pub floor : d.bursts.least ≤ most
      pub limit : ℕ
      pub is : d.limit ≡ Some limit
      pub within : limit ≤ most

    -- what was probed last is within the limit
    last_below : (number n : ℕ) (limit : Option ℕ) (o : Option Search) → IsSearchIf least limit o → probed_by number o ≡ Some n → IsBelow limit n
    last_below number n limit None h e = cc
    last_below number n limit (Some s) h e = go (is_number number s.probe) e
      where
        go : (t : Bool) → cond t (Some s.last) None ≡ Some n → IsBelow limit n
        go true f = let same : s.last ≡ n = cc in subst (IsBelow limit) same h.last_within
        go false f = cc

    probe_below : (number n : ℕ) (limit : Option ℕ) (o : Option Plan) → IsPlanIf least limit o → probed_by number (option_and_then search_in o) ≡ Some n → IsBelow limit n
    probe_below number n limit None h e = cc
    probe_below number n limit (Some plan) h e = last_below number n limit plan.current h.1 e

    keeps_bounded : (call : SearchCall) (d : Discovery) → HandsNone call → IsBounded d → IsBounded (search_after call d)
    keeps_bounded (Reset size floor) d none h = absurd none
    keeps_bounded (Limited limit) d none h = absurd none
    keeps_bounded (Polled now number) d none h = record { between = keeps_between least (Polled now number) d tt h.between; size = h.size; floor = h.floor; limit = h.limit; is = h.is; within = h.within }
    keeps_bounded ProbeLost d none h = record { between = keeps_between least ProbeLost d tt h.between; size = h.size; floor = h.floor; limit = h.limit; is = h.is; within = h.within }
    keeps_bounded (PacketLost number length) d none h = record {
      between = keeps_between least (PacketLost number length) d tt h.between;
      size = h.size;
      floor = subst (λ (n : ℕ). n ≤ most) (sym (lost_least d.bursts.current number length d.bursts)) h.floor;
      limit = h.limit;
      is = h.is;
      within = h.within;
    }
    keeps_bounded (Acknowledged number length) d none h = record { between = keeps_between least (Acknowledged number length) d tt h.between; size = size (acknowledged_probe number d) refl; floor = floor (acknowledged_probe number d); limit = h.limit; is = same (acknowledged_probe number d); within = h.within }
      where
        size : (o : Option ℕ) → acknowledged_probe number d ≡ o → (acknowledged_if o number length d).size ≤ most
        size None e = h.size
        size (Some n) e = (
            let below : n ≤ h.limit = subst (λ (l : Option ℕ). IsBelow l n) h.is (probe_below number n d.limit d.plan h.between.plan e) in
            let within = h.within in
            omega arith)

        floor : (o : Option ℕ) → (acknowledged_if o number length d).bursts.least ≤ most
        floor None = subst (λ (n : ℕ). n ≤ most) (sym (acknowledged_least number length d.bursts)) h.floor
        floor (Some n) = h.floor

        same : (o : Option ℕ) → (acknowledged_if o number length d).limit ≡ Some h.limit
        same None = h.is
        same (Some n) = h.is
    keeps_bounded (Asked now) d none h = record { between = keeps_between least (Asked now) d tt h.between; size = size (finds_black_hole d); floor = floor (finds_black_hole d); limit = h.limit; is = same (finds_black_hole d); within = h.within }
      where
        found : Discovery
        found = record d { size = d.bursts.least; plan = option_map (plan_cooled now) d.plan; bursts = after_told d.bursts }

        size : (t : Bool) → (cond t found (record d { bursts = after_told d.bursts })).size ≤ most
        size true = h.floor
        size false = h.size

        floor : (t : Bool) → (cond t found (record d { bursts = after_told d.bursts })).bursts.least ≤ most
        floor true = subst (λ (n : ℕ). n ≤ most) (sym (told_least d.bursts)) h.floor
        floor false = subst (λ (n : ℕ). n ≤ most) (sym (told_least d.bursts)) h.floor

        same : (t : Bool) → (cond t found (record d { bursts = after_told d.bursts })).limit ≡ Some h.limit
        same true = h.is
        same false = h.is

    pub call_bounded : (p : Policy) (e : End) (theirs : List (List ℕ)) (call : Call) (a : Answer) → IsBounded e.path.discovery → IsBounded (after_call p e theirs call a).path.discovery
    call_bounded = search_call IsBounded keeps_bounded

    -- at the start, where neither settings nor the peer say more
    pub first_bounded : (t : TransportSettings) (limit : ℕ) → StaysBetween least (after_limit limit (first_discovery true None t)) → t.min_mtu ≤ most → limit ≤ most → IsBounded (after_limit limit (first_discovery true None t))
    first_bounded t limit between floor_within within = record { between = between; size = size t.mtu_discovery_config; floor = floor t.mtu_discovery_config; limit = limit; is = refl; within = within }
      where
        size : (o : Option SearchSettings) → (after_limit limit (discovery_by o (first_mtu t) t.min_mtu None)).size ≤ most
        size None = omega arith
        size (Some s) = omega arith

        floor : (o : Option SearchSettings) → (after_limit limit (discovery_by o (first_mtu t) t.min_mtu None)).bursts.least ≤ most
        floor None = floor_within
        floor (Some s) = floor_within
