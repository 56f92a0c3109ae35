-- The probe that is open at an end was sent as PING and zeros alone, of the size that datagrams
-- have once it is acknowledged.
use Rattle.std.proofs.Common.{◌≡◌, ◌⊎◌, ℕ, ◌<◌, Bool, true, false, List, [], ◌∷◌, ◌++◌, Option, Some, None, inl, inr, refl, sym, ap, ◌∙◌, subst, arith, append-nil}
use Rattle.quic_config.specs.Configs.{SearchSettings}
use Rattle.quic_config.specs.Transport.{TransportSettings, transport_of, first_mtu}
use Rattle.quic_config.specs.declared.mtu_discovery.TheConstants.{MAX_UDP_PAYLOAD}
use Rattle.quic_congestion.specs.Search.{Discovery, acknowledged_probe, after_limit, discovery_by, first_discovery, after_poll}
use Rattle.quic_congestion.specs.SearchBounds.{IsSized}
use Rattle.quic_congestion.proofs.SizedSearch.{named_sized, sized_first}
use Rattle.quic_recovery_core.specs.PendingAcks.{can_send}
use Rattle.quic_machine.specs.declared.answers.State.TheVariants as states
use Rattle.quic_machine.specs.declared.run.Call.{Call}
use Rattle.quic_machine.specs.declared.run.Call.TheVariants as calls
use Rattle.quic_machine.specs.declared.run.Answer.{Answer}
use Rattle.quic_machine.specs.declared.run.Answer.TheVariants as answers
use Rattle.quic_machine.specs.Policy.{Policy}
use Rattle.quic_machine.specs.Parts.{Path}
use Rattle.quic_machine.specs.Closing.{ticked}
use Rattle.quic_machine.specs.End.{End, number_of, with_closing}
use Rattle.quic_machine.specs.Control.{Gated, with_pacing_timer}
use Rattle.quic_machine.specs.Sizes.{after_lost, may_search, search_names, search_asked}
use Rattle.quic_machine.specs.Poll.{Polled, datagram_size, after_given, probed, gated, waits, probe, Ready, probe_named, searched_if, free_if, held_if, leaves_if, leaves, leaves_unless, goes_as, draft_as, polled, request_queued}
use Rattle.quic_machine.specs.Machine.{after_call, gave}
use Rattle.quic_machine.specs.DraftLaws.{HasRoom}
use Rattle.quic_machine.specs.FrameCases.{by_searched, apart_leaves}
use Rattle.quic_machine.specs.CallCases.{Plain, is_poll, by_plain_call}
use Rattle.quic_machine.specs.CallCases as cases
use Rattle.quic_machine.specs.PollCases.{ready_at, draft_at, frames_padded, gate_leaves, probe_leaves, ready_leaves, composes, may_leave_at}
use Rattle.quic_headline.specs.Runs.{In}
use Rattle.quic_headline.specs.Observer.{Sent}
use Rattle.quic_headline.specs.Telling.{IsPinged}
use Rattle.quic_headline.proofs.Packets.Sends.{by_sends}
use Rattle.quic_headline.proofs.Packets.Apart.{by_waits, by_next_id}
use Rattle.quic_headline.proofs.Packets.Growth.{in_more}
use Rattle.quic_headline.proofs.Packets.Given.{allocated_near}
use Rattle.quic_headline.proofs.Packets.Probes.{by_going}
use Rattle.quic_headline.proofs.Packets.Stays.{stays_call}
use Rattle.quic_headline.proofs.Packets.Sizes.{HasSize, Searching, received_size, expired_size, polled_search, sized_call}
use Rattle.quic_headline.proofs.Packets.Group.{PacketsHold, has_room}
use Rattle.quic_headline.proofs.Places.Parties.{sent_as, sent_by, sent_if, sents_by, Party, called}
use Rattle.quic_headline.proofs.Places.Groups.{Way, Calls, Group}
use Rattle.quic_headline.proofs.Places.Steps.{poll_answer}
use Rattle.quic_headline.proofs.Places.Told.{in_right}
use Rattle.quic_headline.proofs.Timers.Still.{was_open}
use Rattle.quic_headline.proofs.Steps.Probes.{begun}
use Rattle.quic_headline.proofs.Steps.Probing.{IsProbing, probe_goes, probe_size}
use Rattle.quic_headline.proofs.Sizes.Search.{Fewer, acked_fewer, lost_fewer, polled_fewer, acked_least, lost_least_stays}
use Rattle.quic_headline.proofs.Packets.Moved.{by_migrated}

-- each of these that is the open probe is such, and has its size
abbrev pub Probes : List Sent → Discovery → Type 0
Probes ss d = (s : Sent) → In s ss → (size : ℕ) → acknowledged_probe s.number d ≡ Some size → IsPinged s × (s.size ≡ size)

-- The open probe was sent so, under a number below the next.
pub record IsProbed (sents : List Sent) (next : ℕ) (d : Discovery) : Type 0 where
  pub probes : Probes sents d
  pub below : (n size : ℕ) → acknowledged_probe n d ≡ Some size → n < next

-- it stays so where no other is open
fewer_probed : (sents : List Sent) (next : ℕ) (d f : Discovery) → Fewer d f → IsProbed sents next d → IsProbed sents next f
fewer_probed sents next d f fewer i = record { probes = λ s among size is. i.probes s among size (fewer s.number size is); below = λ n size is. i.below n size (fewer n size is) }

-- ---- calls that are no polls

searching : (d : Discovery) → Searching (λ s. Fewer d s.discovery)
searching d = record {
  acks = λ p e i n size is. i n size (acked_fewer p.0 p.1.size e.path.discovery n size is);
  loses = λ lost e i.
      let heard : Fewer d (after_lost e.closing.clock lost e.path.discovery) = λ n size is. i n size (lost_fewer e.closing.clock lost e.path.discovery n size is) in
      by_searched (after_lost e.closing.clock lost e.path.discovery) e (λ (x : End). Fewer d x.path.discovery) heard (λ most. heard);
}

-- no other probe is opened
call_fewer : (p : Policy) (e : End) (theirs : List (List ℕ)) (call : Call) (a : Answer) → is_poll call ≡ false → Fewer e.path.discovery (after_call p e theirs call a).path.discovery
call_fewer p e theirs call a silent = by_plain_call p e theirs (λ (x : End). Fewer e.path.discovery x.path.discovery) call a keep
  where
    still : Fewer e.path.discovery e.path.discovery
    still n size is = is

    keep : Plain p e call (λ (x : End). Fewer e.path.discovery x.path.discovery)
    keep (cases.times now expiry) may = expired_size (λ s. Fewer e.path.discovery s.discovery) (searching e.path.discovery) p.words e now expiry still
    keep (cases.polls now) is = (let clash : true ≡ false = sym is ∙ silent in cc)
    keep (cases.hears arrival d) may = received_size (λ s. Fewer e.path.discovery s.discovery) (searching e.path.discovery) (λ f x is i. apart_leaves (λ (y : End). Fewer e.path.discovery y.path.discovery) f x is (λ c. i) (λ c most. i)) (λ q o remote x i. by_migrated (λ (y : End). Fewer e.path.discovery y.path.discovery) q o remote x (λ c. i) (λ c most. i)) p e arrival d still
    keep (cases.closes reason f now) may = still
    keep (cases.waits now b) may = by_waits (λ (x : End). Fewer e.path.discovery x.path.discovery) b (with_closing e (ticked e.closing now)) still still
    keep (cases.changes_id a) may = by_next_id (λ (x : End). Fewer e.path.discovery x.path.discovery) e a still (λ c. still) (λ c most. still)
    keep c may = still

-- ---- a poll

-- no other probe is opened, or what goes is one
leaves_fewer : (g : Gated) → Fewer g.end.path.discovery (leaves g).end.path.discovery ⊎ ((size : ℕ) × ((leaves g).leaving ≡ probe size))
leaves_fewer g = go g.held
  where
    Opens : Ready → Type 0
    Opens r = Fewer g.end.path.discovery r.end.path.discovery ⊎ ((size : ℕ) × (r.leaving ≡ probe size))

    none_named : (o : Option ℕ) (size : ℕ) → o ≡ None → o ≡ Some size → ⊥
    none_named o size none some = (let clash : None ≡ Some size = sym none ∙ some in cc)

    named : (o : Option ℕ) → search_names g.end ≡ o → Opens (record { leaving = probe_named o; end = search_asked g.end })
    named (Some size) is = inr (size, refl)
    named None is = inl (λ n size shown. elim (polled_fewer g.end.closing.clock (number_of g.end) g.end.path.discovery n size shown) [
      | inl old ↦ old
      | inr new ↦ absurd (none_named (search_names g.end) size is new.1)
    ])

    search_case : (b : Bool) → Opens (searched_if b g.end)
    search_case true = named (search_names g.end) refl
    search_case false = inl (λ n size is. is)

    waits_case : (b : Bool) → Opens (free_if b g.end)
    waits_case true = inl (λ n size is. is)
    waits_case false = search_case (may_search g.end)

    held_case : (b : Bool) → Opens (held_if b g.end)
    held_case true = inl (λ n size is. is)
    held_case false = inl (λ n size is. is)

    go : (b : Bool) → Opens (leaves_if b g.end)
    go true = held_case (can_send g.end.acknowledging)
    go false = waits_case (waits g.end)

ready_fewer : (e : End) (now : ℕ) → Fewer e.path.discovery (ready_at e now).end.path.discovery ⊎ ((size : ℕ) × ((ready_at e now).leaving ≡ probe size))
ready_fewer e now = go (request_queued (probed x)).path.blocked
  where
    x : End
    x = with_pacing_timer (with_closing e (ticked e.closing now)) None

    carried : (request_queued (probed x)).path.discovery ≡ e.path.discovery
    carried = ap (λ (z : End). z.path.discovery) (probe_leaves x)

    same : (gated (request_queued (probed x))).end.path.discovery ≡ e.path.discovery
    same = ap (λ (z : End). z.path.discovery) (gate_leaves (request_queued (probed x))) ∙ carried

    go : (b : Bool) → Fewer e.path.discovery (leaves_unless b (request_queued (probed x))).end.path.discovery ⊎ ((size : ℕ) × ((leaves_unless b (request_queued (probed x))).leaving ≡ probe size))
    go true = inl (subst (λ (d : Discovery). Fewer e.path.discovery d) (sym carried) (λ n size is. is))
    go false = subst (λ (d : Discovery). Fewer d (leaves (gated (request_queued (probed x)))).end.path.discovery ⊎ ((size : ℕ) × ((leaves (gated (request_queued (probed x)))).leaving ≡ probe size))) same (leaves_fewer (gated (request_queued (probed x))))

module _ (p : Policy) (e : End) (now : ℕ) (sents : List Sent) (room : HasRoom e) (sized : IsSized 1200 MAX_UDP_PAYLOAD e.path.discovery) (under : (s : Sent) → In s sents → s.number < e.numbers.next) (i : IsProbed sents e.numbers.next e.path.discovery) where
  -- nothing goes
  none_goes : IsProbed (sents ++ []) e.numbers.next e.path.discovery
  none_goes = rw (append-nil sents) i

  -- the number that is next wasn't given
  fresh : (size : ℕ) → acknowledged_probe (number_of e) e.path.discovery ≡ Some size → ⊥
  fresh size is = let low = i.below (number_of e) size is in let near = allocated_near e.filter e.numbers.next in absurd (omega arith)

  -- what an open end composed, as it was sent
  abbrev draft_sent : Sent
  draft_sent = sent_as e now (draft_at e now)

  -- what goes is no probe
  one_goes : (next : ℕ) (d : Discovery) → number_of e < next → Fewer e.path.discovery d → IsProbed (sents ++ draft_sent ∷ []) next d
  one_goes next d above fewer = record {
    probes = λ s among size is. elim (in_more s (draft_sent) sents among) [
      | inl old ↦ i.probes s old size (fewer s.number size is)
      | inr new ↦ absurd (fresh size (ap (λ (t : Sent). acknowledged_probe t.number e.path.discovery) (sym new) ∙ fewer s.number size is))
    ];
    below = λ n size is. (let low = i.below n size (fewer n size is) in let near = allocated_near e.filter e.numbers.next in omega arith);
  }

  -- what goes is a probe
  probe_sent : (size : ℕ) → (ready_at e now).leaving ≡ probe size → (next : ℕ) → number_of e < next → IsProbed (sents ++ draft_sent ∷ []) next (ready_at e now).end.path.discovery
  probe_sent size leaves next above = record {
    probes = λ s among m is. elim (in_more s (draft_sent) sents among) [
      | inl old ↦ elim (opened s.number m is) [
        | inl before ↦ i.probes s old m before
        | inr new ↦ absurd (let low = under s old in let near = allocated_near e.filter e.numbers.next in let same = new.0 in omega arith)
      ]
      | inr new ↦ elim (opened s.number m is) [
        | inl before ↦ absurd (fresh m (ap (λ (t : Sent). acknowledged_probe t.number e.path.discovery) (sym new) ∙ before))
        | inr named ↦ (subst IsPinged (sym new) pinged, ap (λ (t : Sent). t.size) new ∙ long ∙ sym named.1)
      ]
    ];
    below = λ n m is. elim (opened n m is) [
      | inl before ↦ (let low = i.below n m before in let near = allocated_near e.filter e.numbers.next in omega arith)
      | inr new ↦ (let same = new.0 in omega arith)
    ];
  }
    where
      q : IsProbing (begun e now) (ready_at e now)
      q = probe_goes e now size leaves

      asked : (ready_at e now).end.path.discovery ≡ after_poll (begun e now).closing.clock (number_of e) e.path.discovery
      asked = ap (λ (g : Ready). g.end.path.discovery) q.is

      same_size : (o : Option ℕ) (m : ℕ) → o ≡ Some q.size → o ≡ Some m → m ≡ q.size
      same_size o m one two = (let both : Some m ≡ Some q.size = sym two ∙ one in cc)

      -- the probe that is open then
      opened : (n m : ℕ) → acknowledged_probe n (ready_at e now).end.path.discovery ≡ Some m → (acknowledged_probe n e.path.discovery ≡ Some m) ⊎ ((n ≡ number_of e) × (m ≡ q.size))
      opened n m is = elim (polled_fewer (begun e now).closing.clock (number_of e) e.path.discovery n m (ap (λ (d : Discovery). acknowledged_probe n d) (sym asked) ∙ is)) [
        | inl before ↦ inl before
        | inr new ↦ inr (new.0, same_size (search_names (begun e now)) m q.named new.1)
      ]

      pinged : IsPinged (draft_sent)
      pinged = record { zeros = _; alone = ap (λ (g : Ready). frames_padded (draft_as g.leaving g.end)) q.is }

      long : (draft_sent).size ≡ q.size
      long =
          let above = (named_sized 1200 MAX_UDP_PAYLOAD e.path.discovery (begun e now).closing.clock q.size sized q.named).0 in
          ap (λ (g : Ready). datagram_size (draft_as g.leaving g.end)) q.is ∙ probe_size q.size (search_asked (begun e now)) room above

  -- what an open end knows behind a poll
  abbrev Knows : Polled → List Sent → Type 0
  Knows r more = r.end.closing.state ≡ states.Open → ((s : Sent) → In s (sents ++ more) → s.number < r.end.numbers.next) → IsProbed (sents ++ more) r.end.numbers.next r.end.path.discovery

  polled_knows : Knows (polled p e now) (sent_if (gave (answers.Poll (polled p e now).answer)) (sent_by p e now))
  polled_knows = by_sends p e now Knows (record {
    silent = λ opened below. none_goes;
    failed = λ opened below. none_goes;
    nothing = λ is none opened below.
        let next : (ready_at e now).end.numbers.next ≡ e.numbers.next = ap (λ (x : End). x.numbers.next) (ready_leaves e now) in
        elim (ready_fewer e now) [
          | inl fewer ↦ subst (λ (n : ℕ). IsProbed (sents ++ []) n (ready_at e now).end.path.discovery) (sym next) (fewer_probed (sents ++ []) e.numbers.next e.path.discovery (ready_at e now).end.path.discovery fewer none_goes)
          | inr goes_so ↦ absurd (let clash : true ≡ false = sym (ap goes_as goes_so.1) ∙ none in cc)
        ];
    repeats = λ is. (λ opened below. let clash : states.Closing ≡ states.Open = sym is ∙ opened in cc, λ f goes opened below. let clash : states.Closing ≡ states.Open = sym is ∙ opened in cc);
    closes = λ reason is bound. (λ opened below. cc, λ f goes opened below. cc);
    gives = λ is may some opened below.
        let f : End = after_given p (draft_at e now) in
        let above : number_of e < f.numbers.next = below draft_sent (in_right draft_sent sents (draft_sent ∷ []) (inl refl)) in
        let search : f.path.discovery ≡ (ready_at e now).end.path.discovery =
        by_going (λ (x : End). x.path.discovery ≡ (ready_at e now).end.path.discovery) p (draft_at e now) (λ pacing. ap (λ (x : Path). x.discovery) (composes (ready_at e now).leaving (ready_at e now).end (may_leave_at e now)).path) in
        subst (λ (d : Discovery). IsProbed (sents ++ draft_sent ∷ []) f.numbers.next d) (sym search) (elim (ready_fewer e now) [
          | inl fewer ↦ one_goes f.numbers.next (ready_at e now).end.path.discovery above fewer
          | inr goes_so ↦ probe_sent goes_so.0 goes_so.1 f.numbers.next above
        ]);
  })

-- ---- the group

-- what an open end knows
abbrev pub KnowsProbe : Way
KnowsProbe x y = x.end.closing.state ≡ states.Open → IsProbed x.sents x.end.numbers.next x.end.path.discovery

-- The search of an end: a black hole makes the size fall to the configured least, and no size is
-- below it; and the open probe was sent.
pub record KnowsSearch (x y : Party) : Type 0 where
  pub floor : x.end.path.discovery.bursts.least ≡ x.made.transport.min_mtu
  pub sized : HasSize x.made.transport.min_mtu MAX_UDP_PAYLOAD x.end
  pub probe : KnowsProbe x y

-- the size to which it falls stays
falling : (least : ℕ) → Searching (λ s. s.discovery.bursts.least ≡ least)
falling least = record {
  acks = λ p e i. acked_least p.0 p.1.size e.path.discovery ∙ i;
  loses = λ lost e i.
      let heard = lost_least_stays e.closing.clock lost e.path.discovery ∙ i in
      by_searched (after_lost e.closing.clock lost e.path.discovery) e (λ (x : End). x.path.discovery.bursts.least ≡ least) heard (λ most. heard);
}

call_floor : (p : Policy) (e : End) (theirs : List (List ℕ)) (call : Call) (a : Answer) (least : ℕ) → e.path.discovery.bursts.least ≡ least → (after_call p e theirs call a).path.discovery.bursts.least ≡ least
call_floor p e theirs call a least i = by_plain_call p e theirs (λ (x : End). x.path.discovery.bursts.least ≡ least) call a cases_keep
  where
    cases_keep : Plain p e call (λ (x : End). x.path.discovery.bursts.least ≡ least)
    cases_keep (cases.times now expiry) may = expired_size (λ s. s.discovery.bursts.least ≡ least) (falling least) p.words e now expiry i
    cases_keep (cases.polls now) may = polled_search (λ (d : Discovery). d.bursts.least ≡ least) (λ moment number d same. same) p e now i
    cases_keep (cases.hears arrival d) may = received_size (λ s. s.discovery.bursts.least ≡ least) (falling least) (λ f x is i. apart_leaves (λ (y : End). y.path.discovery.bursts.least ≡ least) f x is (λ c. i) (λ c most. i)) (λ q o remote x i. by_migrated (λ (y : End). y.path.discovery.bursts.least ≡ least) q o remote x (λ c. i) (λ c most. i)) p e arrival d i
    cases_keep (cases.closes reason f now) may = i
    cases_keep (cases.waits now b) may = by_waits (λ (x : End). x.path.discovery.bursts.least ≡ least) b (with_closing e (ticked e.closing now)) i i
    cases_keep (cases.changes_id a) may = by_next_id (λ (x : End). x.path.discovery.bursts.least ≡ least) e a i (λ c. i) (λ c most. i)
    cases_keep c may = i

-- at first it is the configured least
first_floor : (most : ℕ) (t : TransportSettings) → (after_limit most (first_discovery true None t)).bursts.least ≡ t.min_mtu
first_floor most t = go t.mtu_discovery_config
  where
    go : (o : Option SearchSettings) → (after_limit most (discovery_by o (first_mtu t) t.min_mtu None)).bursts.least ≡ t.min_mtu
    go None = refl
    go (Some s) = refl

-- none is open at first
first_none : (most : ℕ) (t : TransportSettings) (n size : ℕ) → acknowledged_probe n (after_limit most (first_discovery true None t)) ≡ Some size → ⊥
first_none most t n size = go t.mtu_discovery_config
  where
    go : (o : Option SearchSettings) → acknowledged_probe n (after_limit most (discovery_by o (first_mtu t) t.min_mtu None)) ≡ Some size → ⊥
    go None is = cc
    go (Some s) is = cc

module _ (B : Way) (packets : (x y : Party) → B x y → PacketsHold x y) where
  -- a call that is no poll
  quiet_on : (x y : Party) (call : Call) (a : Answer) → is_poll call ≡ false → sents_by x.policy x.end call a ≡ [] → KnowsProbe x y → KnowsProbe (called x y.given call a) y
  quiet_on x y call a silent unsent i opened =
      let f : End = after_call x.policy x.end y.given call a in
      let before = i (was_open x.policy x.end y.given call a opened) in
      let next = (stays_call x.policy x.end y.given call a silent).next in
      let known : IsProbed x.sents x.end.numbers.next f.path.discovery = fewer_probed x.sents x.end.numbers.next x.end.path.discovery f.path.discovery (call_fewer x.policy x.end y.given call a silent) before in
      subst (λ (n : ℕ). IsProbed (x.sents ++ sents_by x.policy x.end call a) n f.path.discovery) (sym next)
      (subst (λ (ss : List Sent). IsProbed (x.sents ++ ss) x.end.numbers.next f.path.discovery) (sym unsent) (rw (append-nil x.sents) known))

  -- a poll
  poll_on : (x y : Party) (now : ℕ) (a : Answer) → Calls B x y (calls.Poll now) a → KnowsProbe x y → KnowsProbe (called x y.given (calls.Poll now) a) y
  poll_on x y now a c i opened =
      let here = packets x y c.gives in
      let there = packets (called x y.given (calls.Poll now) a) y c.gives_behind in
      let said = poll_answer x.policy x.end now a c.answer c.served in
      let sents : List Sent = x.sents ++ sent_if (gave (answers.Poll (polled x.policy x.end now).answer)) (sent_by x.policy x.end now) in
      let same : x.sents ++ sents_by x.policy x.end (calls.Poll now) a ≡ sents = ap (λ (b : Answer). x.sents ++ sent_if (gave b) (sent_by x.policy x.end now)) said in
      let f : End = (polled x.policy x.end now).end in
      subst (λ (ss : List Sent). IsProbed ss f.numbers.next f.path.discovery) (sym same)
      (polled_knows x.policy x.end now x.sents (has_room x y here) here.sized here.gives.below (i (was_open x.policy x.end y.given (calls.Poll now) a opened)) opened
      (subst (λ (ss : List Sent). (s : Sent) → In s ss → s.number < f.numbers.next) same there.gives.below))

  probes_on : (x y : Party) (call : Call) (a : Answer) → Calls B x y call a → KnowsProbe x y → KnowsProbe (called x y.given call a) y
  probes_on x y (calls.Poll now) a c i = poll_on x y now a c i
  probes_on x y call a c i = quiet_on x y call a refl refl i

  pub search_group : Group B KnowsSearch
  search_group = record {
    first = λ x y m there back.
        let t : TransportSettings = transport_of x.making.settings in
        record {
          floor = first_floor MAX_UDP_PAYLOAD t;
          sized = sized_first t.min_mtu MAX_UDP_PAYLOAD t (omega arith) (omega arith) m.x_is.sizes m.x_is.range.search;
          probe = λ opened. record { probes = λ s among. absurd among; below = λ n size is. absurd (first_none MAX_UDP_PAYLOAD t n size is) };
        };
    writer = λ x y call a c i back. record {
      floor = call_floor x.policy x.end y.given call a x.made.transport.min_mtu i.floor;
      sized = sized_call x.made.transport.min_mtu MAX_UDP_PAYLOAD x.policy x.end y.given call a i.sized;
      probe = probes_on x y call a c i.probe;
    };
    reader = λ x y call a c there back. record { floor = back.floor; sized = back.sized; probe = back.probe };
    shows = λ x y here there b back i j. record { floor = i.floor; sized = i.sized; probe = i.probe };
  }
