-- An end and its observer reckon the size of its datagrams alike: behind the frames of a packet,
-- where its timers expire, and where it is polled.
use Rattle.std.proofs.Common.{◌≡◌, ◌⊎◌, ℕ, ◌<◌, ◌≤◌, ◌&&◌, max, not, Bool, true, false, cond, List, [], ◌∷◌, filter, length, replicate, zero, suc, Option, Some, None, inl, inr, refl, sym, ap, ◌∙◌, subst, arith}
use Rattle.std.specs.Prelude.{nat_lt, if◌then◌else◌}
use Rattle.std.specs.List.{list_any}
use Rattle.std.proofs.lemmas.Bool.{both_ways, lt-ltb, le-ltb}
use Rattle.quic_config.specs.Transport.{TransportSettings}
use Rattle.quic_config.specs.declared.mtu_discovery.TheConstants.{MAX_UDP_PAYLOAD}
use Rattle.quic_wire.specs.Value.{FrameValue, AckValue, ack, padding}
use Rattle.quic_congestion.specs.Search.{Discovery, after_ack, poll_names, after_poll}
use Rattle.quic_congestion.specs.SearchBounds.{IsSized}
use Rattle.quic_congestion.proofs.SizedSearch.{named_sized}
use Rattle.quic_recovery_core.specs.PendingAcks.{can_send}
use Rattle.quic_streams_parts.specs.Table.{Table}
use Rattle.quic_machine.specs.declared.answers.State.TheVariants as states
use Rattle.quic_machine.specs.declared.run.Answer.TheVariants as answers
use Rattle.quic_machine.specs.Policy.{Policy}
use Rattle.quic_machine.specs.Closing.{ticked}
use Rattle.quic_machine.specs.Parts.{Path}
use Rattle.quic_machine.specs.Tracking.{TrackedPacket, acked_by, not_acked_by, lost_by}
use Rattle.quic_machine.specs.End.{End, number_of, with_closing}
use Rattle.quic_machine.specs.Acked.{packet_acked, packets_acked, request_acked, verdict, losses_detected, losses_taken, measured, sampled, without_acked, after_named}
use Rattle.quic_machine.specs.Receive.{is_above}
use Rattle.quic_machine.specs.Sizes.{after_lost, search_acked, may_search, search_names, search_asked}
use Rattle.quic_machine.specs.Control.{Gated, with_pacing_timer}
use Rattle.quic_machine.specs.Poll.{Polled, Ready, datagram_size, most_ordinary, after_given, zeros_behind, probed, gated, waits, Leaving, whole, alone, probe, nothing, closing, probe_named, searched_if, free_if, held_if, leaves_if, leaves, leaves_unless, goes, goes_as, draft_as, polled, request_queued}
use Rattle.quic_machine.specs.Timeouts.{Expiry, expiry_at, loss_judged, loss_expired, timed_out_in}
use Rattle.quic_machine.specs.LeaveCases.{Expired, by_expiring}
use Rattle.quic_machine.specs.LeaveCases as expiring
use Rattle.quic_machine.specs.Machine.{gave}
use Rattle.quic_machine.specs.DraftLaws.{HasRoom, ordinary_within}
use Rattle.quic_machine.specs.FrameCases.{named, by_marks, frame_leaves, apart_leaves}
use Rattle.quic_machine.specs.PollCases.{ready_at, draft_at, frames_padded, gate_leaves, probe_leaves, ready_closes_not, composes, may_leave_at}
use Rattle.quic_headline.specs.Runs.{In, names}
use Rattle.quic_headline.specs.Observer.{Sent, Terms, Flight, is_greatest, after_frames, loss_due, is_past, Watch, moment_for}
use Rattle.quic_headline.specs.Observer as observer
use Rattle.quic_headline.specs.Telling.{lost_at, acked_flight}
use Rattle.quic_headline.specs.PathSizes.{Sizing, is_padding, is_ping_alone, is_probe, with_all_gone, with_probe, with_acked, with_all_acked, with_lost, sizing_named, sizing_ack, sizing_frames, sizing_expired, sizing_moment, IsInTurn}
use Rattle.quic_headline.proofs.Packets.Named.{IsNoAck}
use Rattle.quic_headline.proofs.Packets.Waited.{AreWaited}
use Rattle.quic_headline.proofs.Packets.Flying.{Tells, Waits, held, counted, timed, timed_tells, lost_waited, ticked_waits}
use Rattle.quic_headline.proofs.Packets.Folds.{Folds}
use Rattle.quic_headline.proofs.Packets.Delivered.{frames_at}
use Rattle.quic_headline.proofs.Packets.Searches.{losses_search}
use Rattle.quic_headline.proofs.Packets.Sizes.{Sizing as Parts, carried_same}
use Rattle.quic_headline.proofs.Packets.Watching.{timer_expires}
use Rattle.quic_headline.proofs.Packets.Closeless.{sent_closeless}
use Rattle.quic_headline.proofs.Packets.Composed.{IsSpellable}
use Rattle.quic_headline.proofs.Packets.Probes.{by_going}
use Rattle.quic_headline.proofs.Packets.Sends.{by_sends}
use Rattle.quic_headline.proofs.Places.Parties.{sent_as, sent_by, sent_if}
use Rattle.quic_headline.proofs.Timers.LossTimers.{OpenStands}
use Rattle.quic_headline.proofs.Steps.Probes.{begun}
use Rattle.quic_headline.proofs.Steps.Probing.{IsProbing, probe_goes, probe_size}
use Rattle.quic_headline.proofs.Steps.Sized.{IsOrdinary, leaving_size}
use Rattle.quic_headline.proofs.Sizes.Apart.{IsApart, named_apart}
use Rattle.quic_headline.proofs.Sizes.Reckoned.{IsReckoned, later_reckoned, acked_reckoned, lost_reckoned}
use Rattle.quic_headline.proofs.Sizes.Asked.{AsksOf, asked_of}

module _ (c : TransportSettings) where
  -- an end and its observer reckon alike
  abbrev pub Reckons : ℕ → Sizing → End → Type 0
  Reckons now z e = IsReckoned c now z e.path.discovery

  -- ---- frames

  -- packets are acknowledged
  all_acked : (now : ℕ) (ss : List Sent) (ps : Table TrackedPacket) (z : Sizing) (e : End) → AreWaited ss ps → Reckons now z e → Reckons now (with_all_acked c now ss z) (packets_acked ps e)
  all_acked now [] [] z e w i = i
  all_acked now (s ∷ ss) (p ∷ ps) z e w i =
      let d : Discovery = e.path.discovery in
      let left : (packet_acked p e).path.discovery ≡ after_ack p.0 p.1.size d = ap (λ (x : Parts). x.discovery) (carried_same p.1.carried (request_acked p.0 (search_acked p e))) in
      let both : after_ack p.0 p.1.size d ≡ after_ack s.number (if observer.asks_of s then s.size else 0) d = ap (λ (n : ℕ). after_ack n p.1.size d) w.0.number ∙ ap (λ (n : ℕ). after_ack s.number n d) w.0.size in
      all_acked now ss ps (with_acked c now s z) (packet_acked p e) w.1 (subst (λ (f : Discovery). IsReckoned c now (with_acked c now s z) f) (sym (left ∙ both)) (acked_reckoned c now s z d i))
  all_acked now [] (p ∷ ps) z e w i = absurd w
  all_acked now (s ∷ ss) [] z e w i = absurd w

  -- losses are detected
  losses : (t : Terms) (now : ℕ) (f : Flight) (z : Sizing) (e : End) → Tells t now f (held e) → Reckons now z e → Reckons now (with_lost c now (lost_at t now f) z) (losses_detected e)
  losses t now f z e w i =
      let lost : Table TrackedPacket = lost_by (verdict e) e.tracking.packets in
      subst (λ (d : Discovery). IsReckoned c now (with_lost c now (lost_at t now f) z) d) (sym (losses_search e ∙ ap (λ (n : ℕ). after_lost n lost e.path.discovery) (sym w.clock)))
      (lost_reckoned c now (lost_at t now f) lost z e.path.discovery (lost_waited t now f e w) i)

  -- an ACK frame that names these
  these_named : (t : Terms) (now : ℕ) (ss others : List Sent) (ps : Table TrackedPacket) (rises : Bool) (a : AckValue) (f : Flight) (z : Sizing) (e : End) → rises ≡ is_greatest f.named a.largest → AreWaited ss ps → AreWaited others (not_acked_by a e.tracking.packets) → Tells t now (counted a f) (held e) → Reckons now z e
      → Reckons now (sizing_named c t now a ss others f z) (after_named ps rises a e)
  these_named t now [] others [] rises a f z e is acked stay w i = i
  these_named t now (s ∷ ss) others (p ∷ ps) rises a f z e is acked stay w i = by_marks rises (length (p ∷ ps)) a (losses_taken (p ∷ ps) rises a e) (λ (x : End). Reckons now (sizing_named c t now a (s ∷ ss) others f z) x) (λ m marking. found)
    where
      begins : Sizing
      begins = with_all_acked c now (s ∷ ss) z

      before : Reckons now begins (timed (p ∷ ps) rises a e)
      before = go (measured rises a (p ∷ ps))
        where
          go : (o : Option TrackedPacket) → Reckons now begins (sampled o a (without_acked (p ∷ ps) a e))
          go None = all_acked now (s ∷ ss) (p ∷ ps) z e acked i
          go (Some q) = all_acked now (s ∷ ss) (p ∷ ps) z e acked i

      found : Reckons now (with_lost c now (lost_at t now (acked_flight t now a (s ∷ ss) others f)) begins) (losses_detected (timed (p ∷ ps) rises a e))
      found = losses t now (acked_flight t now a (s ∷ ss) others f) begins (timed (p ∷ ps) rises a e) (timed_tells t now (s ∷ ss) others (p ∷ ps) rises a f e is acked stay w) before
  these_named t now [] others (p ∷ ps) rises a f z e is acked stay w i = absurd acked
  these_named t now (s ∷ ss) others [] rises a f z e is acked stay w i = absurd acked

  -- what the frames of a packet leave
  pub sizing_folds : (t : Terms) (now : ℕ) → Folds Sizing t now (sizing_frames c t now) (λ z e. Reckons now z e)
  sizing_folds t now = record {
    none = λ f z. refl;
    first = first;
    other = other;
    acks = λ a f z e k i. these_named t now (filter (λ s. names a s.number) f.flying) (filter (λ s. not (names a s.number)) f.flying) (acked_by a e.tracking.packets) (is_above e.numbers.largest_acked a.largest) a f z (named a e) k.rises k.acked k.stay k.tells i;
    on_streams = λ g z e on i. frame_leaves (λ (x : End). Reckons now z x) g e on (λ u. i);
    message = λ m z e i. i;
    apart = λ g z e apart i. apart_leaves (λ (x : End). Reckons now z x) g e apart (λ c. i) (λ c most. i);
  }
    where
      first : (g : FrameValue) (gs : List FrameValue) (f : Flight) (z : Sizing) → sizing_frames c t now (g ∷ gs) f z ≡ sizing_frames c t now gs (after_frames t now (g ∷ []) f) (sizing_frames c t now (g ∷ []) f z)
      first (ack a) gs f z = refl
      first g gs f z = refl

      other : (g : FrameValue) (f : Flight) (z : Sizing) → IsNoAck g → sizing_frames c t now (g ∷ []) f z ≡ z
      other (ack a) f z apart = absurd apart
      other g f z apart = refl

  -- frames of path validation change nothing
  pub sizing_at : (t : Terms) (now : ℕ) (here : Bool) (fs : List FrameValue) (f : Flight) (z : Sizing) → sizing_frames c t now (frames_at here fs) f z ≡ sizing_frames c t now fs f z
  sizing_at t now true fs f z = refl
  sizing_at t now false [] f z = refl
  sizing_at t now false (ack a ∷ fs) f z = sizing_at t now false fs (observer.after_ack t now a f) (sizing_ack c t now a f z)
  sizing_at t now false (g ∷ fs) f z = sizing_at t now false fs f z

  -- ---- timers

  -- the timer of losses expired, or didn't
  judged : (t : Terms) (now : ℕ) (f : Flight) (z : Sizing) (e : End) → Waits t now f (held e) → Reckons now z e → (b : Bool) → Reckons now (sizing_moment b c t now f z) (loss_expired b e)
  judged t now f z e w i false = i
  judged t now f z e w i true = subst (λ (o : Option ℕ). Reckons now (sizing_expired o c t now f z) (loss_judged e.tracking.loss_time e)) (sym w.loss_time) (go e.tracking.loss_time)
    where
      go : (o : Option ℕ) → Reckons now (sizing_expired o c t now f z) (loss_judged o e)
      go None = i
      go (Some moment) = losses t now f z e w.tells i

  -- a timeout at an open end
  pub timeout_reckons : (p : Policy) (t : Terms) (w : Watch) (e : End) (now : ℕ) (z : Sizing) → OpenStands e → Waits t w.clock w.flight (held e) → Reckons w.clock z e
      → Reckons (max w.clock now) (sizing_moment (is_past (loss_due w.flight) (max w.clock now)) c t (max w.clock now) w.flight z) (timed_out_in states.Open p e now).end
  timeout_reckons p t w e now z stands waits i = by_expiring p.words Of Of each (λ x j. j) (λ x j. j) expiry (loss_expired expiry.loss begins) (
      subst (λ (b : Bool). Reckons clock (sizing_moment b c t clock w.flight z) (loss_expired expiry.loss begins)) (timer_expires t w e now stands waits)
      (judged t clock w.flight z begins (ticked_waits t w.clock now w.flight (held e) waits) (later_reckoned c w.clock clock z e.path.discovery (omega arith) i) expiry.loss))
    where
      clock : ℕ
      clock = max w.clock now

      begins : End
      begins = with_closing e (ticked e.closing now)

      expiry : Expiry
      expiry = expiry_at (max e.closing.clock now) e.timers

      Of : End → Type 0
      Of x = Reckons clock (sizing_moment (is_past (loss_due w.flight) clock) c t clock w.flight z) x

      each : (s : Expired) (x : End) → Of x → Of (expiring.after s x)
      each expiring.of_acks x j = j
      each s x j = j

  -- ---- a poll

  -- no other frames than PADDING
  all_padding : (count : ℕ) → list_any (λ f. not (is_padding f)) (replicate count padding) ≡ false
  all_padding zero = refl
  all_padding (suc count) = all_padding count

  -- a datagram that isn't larger than others is no probe
  small_unprobed : (size : ℕ) (s : Sent) → s.size ≤ size → is_probe size s ≡ false
  small_unprobed size s small = go (is_ping_alone s.frames)
    where
      go : (b : Bool) → (b && nat_lt size s.size) ≡ false
      go true = le-ltb size s.size small
      go false = refl

  module _ (p : Policy) (e : End) (now : ℕ) (z : Sizing) (room : HasRoom e) (sized : IsSized 1200 MAX_UDP_PAYLOAD e.path.discovery) (apart : IsApart e.path.discovery) (form : goes (ready_at e now) ≡ true → IsSpellable (ready_at e now)) (i : Reckons e.closing.clock z e) where
    abbrev clock : ℕ
    clock = max e.closing.clock now

    abbrev d : Discovery
    d = e.path.discovery

    -- at its moment
    ticks : IsReckoned c clock z d
    ticks = later_reckoned c e.closing.clock clock z d (omega arith) i

    asks_of : (number : ℕ) → AsksOf c clock number z d
    asks_of number = asked_of c clock number z d sized.limit sized.size ticks

    -- the search isn't asked, or names no size; or a probe goes
    abbrev Leaves : Ready → Type 0
    Leaves r = (IsReckoned c clock z r.end.path.discovery × ((size : ℕ) → r.leaving ≡ probe size → ⊥)) ⊎ ((size : ℕ) × (r.leaving ≡ probe size))

    module _ (g : Gated) (same : g.end.path.discovery ≡ d) (at : g.end.closing.clock ≡ clock) where
      stays : IsReckoned c clock z g.end.path.discovery
      stays = subst (λ (f : Discovery). IsReckoned c clock z f) (sym same) ticks

      asked : poll_names g.end.closing.clock g.end.path.discovery ≡ None → IsReckoned c clock z (search_asked g.end).path.discovery
      asked none =
          subst (λ (n : ℕ). IsReckoned c clock z (after_poll n (number_of g.end) g.end.path.discovery)) (sym at)
          (subst (λ (f : Discovery). IsReckoned c clock z (after_poll clock (number_of g.end) f)) (sym same)
          ((asks_of (number_of g.end)).none (ap (λ (f : Discovery). poll_names clock f) (sym same) ∙ ap (λ (n : ℕ). poll_names n g.end.path.discovery) (sym at) ∙ none)))

      gated_leaves : Leaves (leaves g)
      gated_leaves = go g.held
        where
          none_named : (o : Option ℕ) → search_names g.end ≡ o → Leaves (record { leaving = probe_named o; end = search_asked g.end })
          none_named (Some size) is = inr (size, refl)
          none_named None is = inl (asked is, λ size probes. cc)

          search_case : (b : Bool) → Leaves (searched_if b g.end)
          search_case true = none_named (search_names g.end) refl
          search_case false = inl (stays, λ size probes. cc)

          waits_case : (b : Bool) → Leaves (free_if b g.end)
          waits_case true = inl (stays, λ size probes. cc)
          waits_case false = search_case (may_search g.end)

          held_case : (b : Bool) → Leaves (held_if b g.end)
          held_case true = inl (stays, λ size probes. cc)
          held_case false = inl (stays, λ size probes. cc)

          go : (b : Bool) → Leaves (leaves_if b g.end)
          go true = held_case (can_send g.end.acknowledging)
          go false = waits_case (waits g.end)

    ready_reckons : Leaves (ready_at e now)
    ready_reckons = go (request_queued (probed x)).path.blocked
      where
        x : End
        x = with_pacing_timer (with_closing e (ticked e.closing now)) None

        carried : (request_queued (probed x)).path.discovery ≡ d
        carried = ap (λ (y : End). y.path.discovery) (probe_leaves x)

        at : (request_queued (probed x)).closing.clock ≡ clock
        at = ap (λ (y : End). y.closing.clock) (probe_leaves x)

        go : (b : Bool) → Leaves (leaves_unless b (request_queued (probed x)))
        go true = inl (subst (λ (f : Discovery). IsReckoned c clock z f) (sym carried) ticks, λ size probes. cc)
        go false = gated_leaves (gated (request_queued (probed x))) (ap (λ (y : End). y.path.discovery) (gate_leaves (request_queued (probed x))) ∙ carried) (ap (λ (y : End). y.closing.clock) (gate_leaves (request_queued (probed x))) ∙ at)

    -- ---- what goes

    abbrev gone : Sent
    gone = sent_as e now (draft_at e now)

    -- each probe among these goes in turn
    abbrev AreInTurn : List Sent → Type 0
    AreInTurn ss = (s : Sent) → In s ss → is_probe z.size s ≡ true → IsInTurn c.mtu_discovery_config z s

    -- what is known behind it
    abbrev Gives : Discovery → Type 0
    Gives f = IsReckoned c clock (with_all_gone c (gone ∷ []) z) f × AreInTurn (gone ∷ [])

    -- a datagram that is no probe
    ordinary_gives : (f : Discovery) → gone.size ≤ e.path.discovery.size → IsReckoned c clock z f → Gives f
    ordinary_gives f small j =
        let none : is_probe z.size gone ≡ false = small_unprobed z.size gone (let same = ticks.size in omega (arith, small, same)) in (
          subst (λ (b : Bool). IsReckoned c clock (cond b (with_probe c.mtu_discovery_config gone z) z) f) (sym none) j,
          λ s among is. absurd (both_ways (is_probe z.size gone) none (ap (λ (t : Sent). is_probe z.size t) (sym (only s among)) ∙ is)),
        )
      where
        only : (s : Sent) → In s (gone ∷ []) → s ≡ gone
        only s (inl is) = is
        only s (inr none) = absurd none

    -- a probe
    probe_gives : (size : ℕ) → (ready_at e now).leaving ≡ probe size → Gives (ready_at e now).end.path.discovery
    probe_gives size is = (
      subst (λ (f : Discovery). IsReckoned c clock (with_all_gone c (gone ∷ []) z) f) (sym asked)
          (subst (λ (b : Bool). IsReckoned c clock (cond b (with_probe c.mtu_discovery_config gone z) z) (after_poll clock (number_of e) d)) (sym large) found.1),
      λ s among probes. subst (λ (t : Sent). IsInTurn c.mtu_discovery_config z t) (sym (only s among)) found.0,
    )
      where
        q : IsProbing (begun e now) (ready_at e now)
        q = probe_goes e now size is

        asked : (ready_at e now).end.path.discovery ≡ after_poll clock (number_of e) d
        asked = ap (λ (g : Ready). g.end.path.discovery) q.is

        only : (s : Sent) → In s (gone ∷ []) → s ≡ gone
        only s (inl here) = here
        only s (inr none) = absurd none

        long : gone.size ≡ q.size
        long =
            let above = (named_sized 1200 MAX_UDP_PAYLOAD d clock q.size sized q.named).0 in
            ap (λ (g : Ready). datagram_size (draft_as g.leaving g.end)) q.is ∙ probe_size q.size (search_asked (begun e now)) room above

        named_size : poll_names clock d ≡ Some gone.size
        named_size = q.named ∙ ap (λ (n : ℕ). Some n) (sym long)

        larger : z.size < gone.size
        larger = let same = ticks.size in let more = named_apart 1200 MAX_UDP_PAYLOAD clock gone.size d sized apart named_size in omega (arith, same, more)

        pinged : is_ping_alone gone.frames ≡ true
        pinged = ap (λ (g : Ready). is_ping_alone (frames_padded (draft_as g.leaving g.end))) q.is ∙ ap not (all_padding (zeros_behind (draft_as (probe q.size) (search_asked (begun e now)))))

        large : is_probe z.size gone ≡ true
        large = ap (λ (b : Bool). b && nat_lt z.size gone.size) pinged ∙ lt-ltb z.size gone.size larger

        moment : gone.moment ≡ clock
        moment = ap (λ (b : Bool). moment_for b clock) (sent_closeless e now)

        found : IsInTurn c.mtu_discovery_config z gone × IsReckoned c clock (with_probe c.mtu_discovery_config gone z) (after_poll clock (number_of e) d)
        found = (asks_of (number_of e)).some gone named_size refl moment

    something_gives : goes (ready_at e now) ≡ true → Gives (ready_at e now).end.path.discovery
    something_gives some = elim ready_reckons [
      | inl none ↦ ordinary_gives (ready_at e now).end.path.discovery (by_leaving (ready_at e now).leaving refl none.1) none.0
      | inr probes ↦ probe_gives probes.0 probes.1
    ]
      where
        small : IsOrdinary (ready_at e now).leaving → gone.size ≤ e.path.discovery.size
        small kind = let most : gone.size ≤ most_ordinary e = leaving_size e now room (form some) kind in let within : most_ordinary e ≤ e.path.discovery.size = ordinary_within e in omega (arith, most, within)

        by_leaving : (l : Leaving) → (ready_at e now).leaving ≡ l → ((size : ℕ) → (ready_at e now).leaving ≡ probe size → ⊥) → gone.size ≤ e.path.discovery.size
        by_leaving whole is none = small (subst IsOrdinary (sym is) tt)
        by_leaving alone is none = small (subst IsOrdinary (sym is) tt)
        by_leaving (probe size) is none = absurd (none size is)
        by_leaving (closing f) is none = absurd (ready_closes_not e now f is)
        by_leaving (nothing held) is none = absurd (both_ways (goes (ready_at e now)) (ap goes_as is) some)

    -- what is known of an end that is open behind a poll
    abbrev Knows : Polled → List Sent → Type 0
    Knows r more = r.end.closing.state ≡ states.Open → IsReckoned c clock (with_all_gone c more z) r.end.path.discovery × AreInTurn more

    none_turn : AreInTurn []
    none_turn s among is = absurd among

    pub polled_reckons : Knows (polled p e now) (sent_if (gave (answers.Poll (polled p e now).answer)) (sent_by p e now))
    polled_reckons = by_sends p e now Knows (record {
      silent = λ opened. (ticks, none_turn);
      failed = λ opened. (ticks, none_turn);
      nothing = λ is none opened. elim ready_reckons [
        | inl still ↦ (still.0, none_turn)
        | inr probes ↦ absurd (both_ways (goes (ready_at e now)) none (ap goes_as probes.1))
      ];
      repeats = λ is. (λ opened. let clash : states.Closing ≡ states.Open = sym is ∙ opened in cc, λ f goes opened. let clash : states.Closing ≡ states.Open = sym is ∙ opened in cc);
      closes = λ reason is bound. (λ opened. cc, λ f goes opened. cc);
      gives = λ is may some opened.
          let search : (after_given p (draft_at e now)).path.discovery ≡ (ready_at e now).end.path.discovery =
          by_going (λ (x : End). x.path.discovery ≡ (ready_at e now).end.path.discovery) p (draft_at e now) (λ pacing. ap (λ (x : Path). x.discovery) (composes (ready_at e now).leaving (ready_at e now).end (may_leave_at e now)).path) in
          let all = something_gives some in (subst (λ (f : Discovery). IsReckoned c clock (with_all_gone c (gone ∷ []) z) f) (sym search) all.0, all.1);
    })
