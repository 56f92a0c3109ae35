-- At each place of an honest run the size of an open end's datagrams is the one that its observer
-- reckons, and each probe of a size goes in its turn: the clauses.
use Rattle.std.proofs.Common.{◌≡◌, ℕ, zero, suc, ◌≤◌, ◌&&◌, max, Bool, true, false, List, [], ◌∷◌, ◌++◌, length, append-nil, Option, Some, None, Ok, inl, refl, sym, ap, ◌∙◌, subst, arith}
use Rattle.std.specs.Prelude.{slice_get}
use Rattle.std.proofs.lemmas.Option.{slice_get_within}
use Rattle.quic_wire_core.specs.declared.stream_id.Side.{Side}
use Rattle.quic_wire_core.specs.StreamId.{other_side}
use Rattle.quic_wire.specs.Value.{FrameValue}
use Rattle.quic_config.specs.Configs.{SearchSettings}
use Rattle.quic_config.specs.Transport.{TransportSettings, parameters_of, transport_of, first_mtu}
use Rattle.quic_config.specs.declared.mtu_discovery.TheConstants.{MAX_UDP_PAYLOAD}
use Rattle.quic_congestion.specs.Search.{Discovery, after_limit, first_discovery, discovery_by, first_plan}
use Rattle.quic_spaces.specs.Numbers.{number_opened}
use Rattle.quic_machine.specs.declared.answers.State.{State}
use Rattle.quic_machine.specs.declared.answers.State.TheVariants as states
use Rattle.quic_machine.specs.declared.run.Call.{Call}
use Rattle.quic_machine.specs.declared.run.Call.TheVariants as calls
use Rattle.quic_machine.specs.declared.run.Answer.{Answer}
use Rattle.quic_machine.specs.declared.run.Answer.TheVariants as answers
use Rattle.quic_machine.specs.declared.run.Delivery.{Delivery}
use Rattle.quic_machine.specs.declared.run.RunEvent.{RunEvent}
use Rattle.quic_machine.specs.declared.run.View.{View}
use Rattle.quic_machine.specs.Policy.{Policy}
use Rattle.quic_machine.specs.End.{End, new_end}
use Rattle.quic_machine.specs.Receive.{Outcome}
use Rattle.quic_machine.specs.Poll.{polled}
use Rattle.quic_machine.specs.Timeouts.{timed_out_in}
use Rattle.quic_machine.specs.FrameCases.{begun}
use Rattle.quic_machine.specs.CallCases.{Plain, is_delivery, is_poll, is_timeout, by_plain_call}
use Rattle.quic_machine.specs.CallCases as cases
use Rattle.quic_machine.specs.Machine.{World, IsStep, end_at, control_at, heard_at, policy_at, given_by, after_call, gave, view_of}
use Rattle.quic_headline.specs.Runs.{Run, Told, Packet, Intake, In, given_of, same_side, state_in, until, state_at, folded, and_told, LeadsTo, AreServed}
use Rattle.quic_headline.specs.Observer.{Sent, Watch, Lens, first_watch, news, has_opened, moment_of, clock_behind, after_packets, loss_due, is_past, is_timely, watch_told, watch_from, watch, lens_of}
use Rattle.quic_headline.specs.Moments.{went}
use Rattle.quic_headline.specs.Headline.{IsHonest, IsRun}
use Rattle.quic_headline.specs.Polls.{mtu_in, seen_of, IsMade}
use Rattle.quic_headline.specs.Amounts.{making_at}
use Rattle.quic_headline.specs.Spread.{SearchesApart}
use Rattle.quic_headline.specs.PathSizes.{Sizing, nothing_sought, first_sizing, with_all_gone, is_probe, sizing_frames, sizing_packets, sizing_moment, sizing_told, sizing_behind, sizing, SizesFollow, IsInTurn, SearchesRest}
use Rattle.quic_headline.proofs.Packets.Apart.{by_next_id}
use Rattle.quic_headline.proofs.Packets.Going.{spellable_next}
use Rattle.quic_headline.proofs.Packets.Intakes.{folded_more}
use Rattle.quic_headline.proofs.Packets.Delivered.{frames_at, Arrivals, arrived, with_taken}
use Rattle.quic_headline.proofs.Packets.Folds.{frames_fold}
use Rattle.quic_headline.proofs.Packets.Moved.{by_migrated}
use Rattle.quic_headline.proofs.Packets.Flying.{Waits, held, ticked_waits, numbers_wait}
use Rattle.quic_headline.proofs.Packets.Group.{PacketsHold, meets, has_room}
use Rattle.quic_headline.proofs.Packets.Sight.{Sight}
use Rattle.quic_headline.proofs.Packets.Watching.{watched_intake, untimely, none_opened, none_new, one_opened, one_new, none_comes, told_own}
use Rattle.quic_headline.proofs.Places.Moments.{told_none, last_view, state_shown}
use Rattle.quic_headline.proofs.Places.Parties.{told_of, Party, called, came_to, lens, watch_of, sent_by, sent_if, sents_by}
use Rattle.quic_headline.proofs.Places.Placed.{party_at, start_is, stands_in}
use Rattle.quic_headline.proofs.Places.Groups.{Way, Nothing, And, Group, both}
use Rattle.quic_headline.proofs.Places.Together.{Spells}
use Rattle.quic_headline.proofs.Places.Coming.{came_more, by_coming}
use Rattle.quic_headline.proofs.Places.Everything as everything
use Rattle.quic_headline.proofs.Places.Theorems.{ready}
use Rattle.quic_headline.proofs.Places.Steps.{only_polls_give, poll_answer}
use Rattle.quic_headline.proofs.Halves.Ready.{Ready}
use Rattle.quic_headline.proofs.Halves.Joined.{streams_spell}
use Rattle.quic_headline.proofs.Rest.Between.{step_leaves}
use Rattle.quic_headline.proofs.Timers.Still.{was_open}
use Rattle.quic_headline.proofs.Timers.Watched.{went_is}
use Rattle.quic_headline.proofs.Moves.Route.{all_placed}
use Rattle.quic_headline.proofs.Causes.Idled.{told_clock}
use Rattle.quic_headline.proofs.Steps.Made.{made_served, made_end, left_at, reads_state, reads_either, served_before, one_behind, calling, CallHolds, call_holds, made_at}
use Rattle.quic_headline.proofs.Steps.Along.{own_told, stands_within, along}
use Rattle.quic_headline.proofs.Steps.Resized.{size_there}
use Rattle.quic_headline.proofs.Sizes.Apart.{ProbesApart, apart_group}
use Rattle.quic_headline.proofs.Sizes.Reckoned.{PlanIs, IsReckoned, later_reckoned}
use Rattle.quic_headline.proofs.Sizes.Walked.{sizing_folds, sizing_at, timeout_reckons, polled_reckons}

-- ---- what is known

-- packets, streams and what observers know, and that probes are longer than other datagrams
abbrev Known : Way
Known = And (everything.All Ready ready) ProbesApart

known : Group Nothing Known
known = both Nothing (everything.All Ready ready) ProbesApart (everything.all Ready ready) (apart_group (And Nothing (everything.All Ready ready)) (λ x y h. h.1.0.0))

abbrev Streams : Way
Streams = everything.Streams Ready ready

spells : Spells Streams
spells = streams_spell (everything.Rest Ready ready) (everything.goes Ready ready)

-- one call more
sizing_more : (c : TransportSettings) (l : Lens) (ts : List Told) (t : Told) (w : Watch) (z : Sizing) → sizing_behind c l (ts ++ t ∷ []) w z ≡ sizing_told c l t (folded (watch_told l) ts w) (sizing_behind c l ts w z)
sizing_more c l [] t w z = refl
sizing_more c l (u ∷ ts) t w z = sizing_more c l ts t (watch_told l u w) (sizing_told c l u w z)

-- ---- an end as it is made

first_reckoned : (t : TransportSettings) (most : ℕ) → let d : Discovery = after_limit most (first_discovery true None t) in IsReckoned t 0 (first_sizing d.size t) d
first_reckoned t most = go t.mtu_discovery_config refl
  where
    go : (o : Option SearchSettings) → t.mtu_discovery_config ≡ o → let d : Discovery = after_limit most (discovery_by o (first_mtu t) t.min_mtu None) in IsReckoned t 0 (first_sizing d.size t) d
    go None is = record {
      size = refl;
      bursts = record { least_is = refl; current = refl; acked = refl; number = refl; kept = inl (record { many = refl; each = λ n. refl }, omega arith) };
      few = omega arith;
      plan = subst (λ (o : Option SearchSettings). PlanIs o 0 (after_limit most (discovery_by None (first_mtu t) t.min_mtu None)).size nothing_sought None) (sym is) refl;
    }
    go (Some s) is = record {
      size = refl;
      bursts = record { least_is = refl; current = refl; acked = refl; number = refl; kept = inl (record { many = refl; each = λ n. refl }, omega arith) };
      few = omega arith;
      plan = subst (λ (o : Option SearchSettings). PlanIs o 0 (after_limit most (discovery_by (Some s) (first_mtu t) t.min_mtu None)).size nothing_sought (Some (first_plan s))) (sym is) (refl, record { probe = refl; none = refl; rests = omega arith }, omega arith);
    }

-- what is known of an end
abbrev Starts : End → Type 0
Starts e = IsReckoned e.transport 0 (first_sizing e.path.discovery.size e.transport) e.path.discovery

made_reckoned : (r : Run) (honest : IsHonest r) (side : Side) → Starts (end_at side r.start)
made_reckoned r honest side =
    let s = honest.start in
    let m = making_at side r.start s in
    subst Starts (sym (start_is r.start s side)) (go m.validated)
  where
    go : (b : Bool) → (let s = honest.start in
        let m = making_at side r.start s in
        let other = making_at (other_side side) r.start s in Starts (new_end side m.settings m.windows (parameters_of other.settings) m.id other.id m.remote m.moment b m.words))
    go true = first_reckoned (transport_of (making_at side r.start honest.start).settings) MAX_UDP_PAYLOAD
    go false = first_reckoned (transport_of (making_at side r.start honest.start).settings) MAX_UDP_PAYLOAD

-- ---- calls that change nothing of it

still : (p : Policy) (e : End) (theirs : List (List ℕ)) (call : Call) (a : Answer) → is_delivery call ≡ false → is_poll call ≡ false → is_timeout call ≡ false → (after_call p e theirs call a).path.discovery ≡ e.path.discovery
still p e theirs call a no_delivery no_poll no_timeout = by_plain_call p e theirs Same call a keep
  where
    Same : End → Type 0
    Same x = x.path.discovery ≡ e.path.discovery

    keep : Plain p e call Same
    keep (cases.times now expiry) is = (let clash : true ≡ false = sym is ∙ no_timeout in cc)
    keep (cases.polls now) is = (let clash : true ≡ false = sym is ∙ no_poll in cc)
    keep (cases.hears arrival d) is = (let clash : true ≡ false = sym is ∙ no_delivery in cc)
    keep (cases.waits now b) is = (let clash : true ≡ false = sym is ∙ no_timeout in cc)
    keep (cases.changes_id b) may = by_next_id Same e b refl (λ c. refl) (λ c most. refl)
    keep c may = refl

-- ---- at a call of an end

module _ (r : Run) (end : World) (honest : IsHonest r) (run : IsRun r end) (side : Side) (apart : SearchesApart r side) where
  abbrev c : TransportSettings
  c = (end_at side r.start).transport

  abbrev l : Lens
  l = lens_of r side

  abbrev begins : Watch
  begins = watch_from (end_at side r.start) (given_of r side)

  -- an open end and its observer reckon alike
  abbrev pub Follows : ℕ → World → Type 0
  Follows i w = (end_at side w).closing.state ≡ states.Open → IsReckoned c (watch r side i).clock (sizing r side i) (end_at side w).path.discovery

  -- the state of the end there
  state_there : (i : ℕ) (w : World) → AreServed r i → LeadsTo r i w → state_at r side i ≡ (end_at side w).closing.state
  state_there i w served leads =
      let at = all_placed r end honest run side i served in
      sym at.state ∙ ap (λ (v : World). (end_at side v).closing.state) (one_behind r i at.world w served at.leads leads)

  module _ (i : ℕ) (call : Call) (a : Answer) (w next : World) (m : IsMade r i side call a w next) (before : Follows i w) (still_open : (end_at side next).closing.state ≡ states.Open) where
    h : CallHolds Known r i side call a w
    h = call_holds Known known r end honest run i side call a w next (λ id is. honest.ids side i id call a m.at is) (run.codes (record { side = side; call = call }) (stands_in r.events i (record { side = side; call = call }) m.at.event)) m

    abbrev x : Party
    x = calling r i w side call h.sents

    abbrev y : Party
    y = party_at r i w (other_side side) h.theirs

    abbrev behind : Party
    behind = called x y.given call a

    abbrev z : Sizing
    z = sizing r side i

    abbrev seen : Watch
    seen = watch_of x y

    packets : PacketsHold x y
    packets = h.gives.0.0.0

    sight : Sight x y
    sight = h.gives.0.1

    left : end_at side next ≡ left_at r side w call a
    left = made_end r i side call a w next m

    still_there : behind.end.closing.state ≡ states.Open
    still_there = sym (ap (λ (e : End). e.closing.state) left) ∙ still_open

    opened : x.end.closing.state ≡ states.Open
    opened = was_open x.policy x.end y.given call a still_there

    open_there : (end_at side w).closing.state ≡ states.Open
    open_there = sym (reads_state (control_at side w) (heard_at side w) call (end_at side w)) ∙ opened

    waits : Waits x.terms seen.clock seen.flight (held x.end)
    waits = sight.watched.flight opened

    -- what is known as it is called
    reckoned : IsReckoned c seen.clock z x.end.path.discovery
    reckoned =
        subst (λ (v : Watch). IsReckoned c v.clock z x.end.path.discovery) h.seen
        (reads_either (λ (e : End). IsReckoned c (watch r side i).clock z e.path.discovery) (control_at side w) (heard_at side w) call (end_at side w) (before open_there) (before open_there))

    abbrev t : Told
    t = told_of call a states.Open

    seen_intake : seen.intake ≡ came_to x y
    seen_intake = watched_intake (lens x y) x.told (first_watch x.final x.began x.made.path.remote x.first_rtt x.initial_delay)

    came : and_told l.own l.peer_gave t (came_to x y) ≡ came_to behind y
    came = ap (λ (s : State). and_told x.policy y.final (told_of call a s) (came_to x y)) (sym opened) ∙ sym (came_more x y call a)

    -- the moment behind it, where this came
    abbrev clock_with : Watch → Intake → ℕ
    clock_with v j = clock_behind v.clock (moment_of states.Open (has_opened v.intake j) call)

    -- what the observer says behind it, before it knows what went
    abbrev says : Watch → Intake → Sizing
    says v j =
        let f = after_packets l.terms (clock_with v j) (news v.intake j) v.flight in
        sizing_moment (is_timely states.Open call && is_past (loss_due f) (clock_with v j)) c l.terms (clock_with v j) f (sizing_packets c l.terms (clock_with v j) (news v.intake j) v.flight z)

    -- where nothing came
    abbrev plain_clock : ℕ
    plain_clock = clock_behind seen.clock (moment_of states.Open false call)

    abbrev plain : Sizing
    plain = sizing_moment (is_timely states.Open call && is_past (loss_due seen.flight) plain_clock) c l.terms plain_clock seen.flight z

    -- what is to be shown of the call
    abbrev Leaves : Type 0
    Leaves = let after = and_told l.own l.peer_gave t seen.intake in IsReckoned c (clock_with seen after) (with_all_gone c (went seen (watch_told l t seen)) (says seen after)) behind.end.path.discovery

    -- of one by which nothing comes
    plain_leaves : is_delivery call ≡ false → IsReckoned c plain_clock (with_all_gone c (went seen (watch_told l t seen)) plain) behind.end.path.discovery → Leaves
    plain_leaves none is =
        subst (λ (j : Intake). IsReckoned c (clock_with seen j) (with_all_gone c gone (says seen j)) f) (sym (none_comes l t seen.intake none))
        (subst (λ (ps : List Packet). by_news (clock_with seen seen.intake) ps) (sym (none_new seen.intake))
        (subst (λ (b : Bool). by_news (clock_behind seen.clock (moment_of states.Open b call)) []) (sym (none_opened seen.intake)) is))
      where
        f : Discovery
        f = behind.end.path.discovery

        gone : List Sent
        gone = went seen (watch_told l t seen)

        by_news : ℕ → List Packet → Type 0
        by_news clock ps =
            let g = after_packets l.terms clock ps seen.flight in
            IsReckoned c clock (with_all_gone c gone (sizing_moment (is_timely states.Open call && is_past (loss_due g) clock) c l.terms clock g (sizing_packets c l.terms clock ps seen.flight z))) f

    -- where none went
    none_went : gave a ≡ false → went seen (watch_told l t seen) ≡ []
    none_went silent = went_is seen (watch_told l t seen) [] (told_own l t seen silent ∙ sym (append-nil seen.own))

    abbrev From : Sizing → End → Type 0
    From s e = IsReckoned c plain_clock s e.path.discovery

    -- ---- what the run's observer knows behind it

    grown : until r side (suc i) ≡ until r side i ++ t ∷ []
    grown = own_told r end run side i call a w next m ∙ ap (λ (s : State). until r side i ++ told_of call a s ∷ []) (state_there i w (served_before r.answers i m.served) m.leads ∙ open_there)

    watch_behind : watch r side (suc i) ≡ watch_told l t (watch r side i)
    watch_behind = ap (λ (ts : List Told). folded (watch_told l) ts begins) grown ∙ folded_more (watch_told l) (until r side i) t begins

    leads_on : Leaves → IsReckoned c (watch r side (suc i)).clock (sizing r side (suc i)) (end_at side next).path.discovery
    leads_on is =
        subst (λ (e : End). IsReckoned c (watch r side (suc i)).clock (sizing r side (suc i)) e.path.discovery) (sym left)
        (subst (λ (v : Watch). IsReckoned c v.clock (sizing r side (suc i)) behind.end.path.discovery) (sym watch_behind)
        (subst (λ (n : ℕ). IsReckoned c n (sizing r side (suc i)) behind.end.path.discovery) (sym (told_clock l t (watch r side i)))
        (subst (λ (s : Sizing). IsReckoned c (clock_with (watch r side i) (and_told l.own l.peer_gave t (watch r side i).intake)) s behind.end.path.discovery) (sym said)
        (subst (λ (v : Watch). IsReckoned c (clock_with v (and_told l.own l.peer_gave t v.intake)) (with_all_gone c (went v (watch_told l t v)) (says v (and_told l.own l.peer_gave t v.intake))) behind.end.path.discovery) (sym h.seen) is))))
      where
        said : sizing r side (suc i) ≡ sizing_told c l t (watch r side i) z
        said =
            ap (λ (ts : List Told). sizing_behind c l ts begins (first_sizing (seen_of side r.start).current_mtu c)) grown
            ∙ sizing_more c l (until r side i) t begins (first_sizing (seen_of side r.start).current_mtu c)

  -- ---- a delivery

  module _ (i : ℕ) (delivery : Delivery) (a : Answer) (w next : World) (m : IsMade r i side (calls.Deliver delivery) a w next) (before : Follows i w) (still_open : (end_at side next).closing.state ≡ states.Open) where
    abbrev delivers : Call
    delivers = calls.Deliver delivery

    abbrev dx : Party
    dx = x i delivers a w next m before still_open

    abbrev dy : Party
    dy = y i delivers a w next m before still_open

    abbrev ds : Watch
    ds = seen i delivers a w next m before still_open

    abbrev dz : Sizing
    dz = sizing r side i

    abbrev moment_with : Intake → ℕ
    moment_with j = clock_behind ds.clock (moment_of states.Open (has_opened (came_to dx dy) j) delivers)

    abbrev Comes : End → Intake → Type 0
    Comes e j = e.closing.state ≡ states.Open → IsReckoned c (moment_with j) (sizing_packets c l.terms (moment_with j) (news (came_to dx dy) j) ds.flight dz) e.path.discovery

    known_there : IsReckoned c ds.clock dz dx.end.path.discovery
    known_there = reckoned i delivers a w next m before still_open

    nothing_comes : Comes dx.end (came_to dx dy)
    nothing_comes _ =
        subst (λ (b : Bool). IsReckoned c (clock_behind ds.clock (moment_of states.Open b delivers)) (sizing_packets c l.terms (clock_behind ds.clock (moment_of states.Open b delivers)) (news (came_to dx dy) (came_to dx dy)) ds.flight dz) dx.end.path.discovery) (sym (none_opened (came_to dx dy)))
        (subst (λ (ps : List Packet). IsReckoned c ds.clock (sizing_packets c l.terms ds.clock ps ds.flight dz) dx.end.path.discovery) (sym (none_new (came_to dx dy))) known_there)

    arrives : (here : Bool) (s : Sent) → Arrivals dx.end delivery.now s.number s.frames (frames_at here s.frames) (came_to dx dy) (λ (o : Outcome) (j : Intake). Comes o.end j)
    arrives here s = record {
      ignored = λ reason. nothing_comes;
      noted = λ state reason still. (let clash : states.Closing ≡ states.Open = sym state ∙ still in cc);
      takes = λ words state new none urged mark still. taken none;
      moves = λ p o spells remote u opened h. by_migrated (λ (e : End). Comes e (with_taken (came_to dx dy) s.number s.frames)) p o remote u (λ c. h) (λ c most. h);
      drains = λ words state new close is still. cc;
      refuses = λ words state new f is still. cc;
      exhausts = λ state still. cc;
    }
      where
        fs : List FrameValue
        fs = frames_at here s.frames

        now : ℕ
        now = max ds.clock delivery.now

        came_then : Intake
        came_then = with_taken (came_to dx dy) s.number s.frames

        left_then : End
        left_then = (arrived dx.end delivery.now s.number fs).end

        taken : (arrived dx.end delivery.now s.number fs).fault ≡ None → IsReckoned c (moment_with came_then) (sizing_packets c l.terms (moment_with came_then) (news (came_to dx dy) came_then) ds.flight dz) left_then.path.discovery
        taken none =
            let flight : Waits dx.terms ds.clock ds.flight (held dx.end) = waits i delivers a w next m before still_open in
            let numbers = number_opened dx.end.numbers s.number in
            let starts : Waits dx.terms now ds.flight (held (begun dx.end delivery.now s.number)) = ticked_waits dx.terms ds.clock delivery.now ds.flight (record (held dx.end) { numbers = numbers }) (numbers_wait dx.terms ds.clock ds.flight (held dx.end) numbers refl flight) in
            let all = frames_fold Sizing dx.terms now (sizing_frames c dx.terms now) (λ (u : Sizing) (e : End). IsReckoned c now u e.path.discovery) (sizing_folds c dx.terms now) fs ds.flight dz (begun dx.end delivery.now s.number) none starts (later_reckoned c ds.clock now dz dx.end.path.discovery (omega arith) known_there) in
            subst (λ (b : Bool). IsReckoned c (clock_behind ds.clock (moment_of states.Open b delivers)) (sizing_packets c l.terms (clock_behind ds.clock (moment_of states.Open b delivers)) (news (came_to dx dy) came_then) ds.flight dz) left_then.path.discovery) (sym (one_opened (came_to dx dy) s.number s.frames))
            (subst (λ (ps : List Packet). IsReckoned c now (sizing_packets c l.terms now ps ds.flight dz) left_then.path.discovery) (sym (one_new (came_to dx dy) s.number s.frames))
            (subst (λ (u : Sizing). IsReckoned c now u left_then.path.discovery) (sizing_at c dx.terms now here s.frames ds.flight dz) all))

    delivered : Comes (behind i delivers a w next m before still_open).end (came_to (behind i delivers a w next m before still_open) dy)
    delivered =
        let k = h i delivers a w next m before still_open in
        by_coming dx dy a k.joined (made_served r i side delivers a w next m) (meets dy dx k.takes.0.0.0) Comes delivers m.step.answer (record {
          apart = λ apart. cc;
          none = λ other same. nothing_comes;
          comes = λ other same s among here. (let is : delivery ≡ other = cc in subst (λ (u : Delivery). Arrivals dx.end u.now s.number s.frames (frames_at here s.frames) (came_to dx dy) (λ (o : Outcome) (j : Intake). Comes o.end j)) is (arrives here s));
        })

    delivery_leaves : Leaves i delivers a w next m before still_open
    delivery_leaves =
        let f : Discovery = (behind i delivers a w next m before still_open).end.path.discovery in
        let silent : gave a ≡ false = only_polls_give dx.policy dx.end dy.given delivers a refl m.step.answer in
        let after : Intake = and_told l.own l.peer_gave (told_of delivers a states.Open) ds.intake in
        let same : ds.intake ≡ came_to dx dy = seen_intake i delivers a w next m before still_open in
        subst (λ (ss : List Sent). IsReckoned c (clock_behind ds.clock (moment_of states.Open (has_opened ds.intake after) delivers)) (with_all_gone c ss (sizing_packets c l.terms (clock_behind ds.clock (moment_of states.Open (has_opened ds.intake after) delivers)) (news ds.intake after) ds.flight dz)) f) (sym (none_went i delivers a w next m before still_open silent))
        (subst (λ (j : Intake). let k = and_told l.own l.peer_gave (told_of delivers a states.Open) j in IsReckoned c (clock_behind ds.clock (moment_of states.Open (has_opened j k) delivers)) (sizing_packets c l.terms (clock_behind ds.clock (moment_of states.Open (has_opened j k) delivers)) (news j k) ds.flight dz) f) (sym same)
        (subst (λ (k : Intake). IsReckoned c (moment_with k) (sizing_packets c l.terms (moment_with k) (news (came_to dx dy) k) ds.flight dz) f) (sym (came i delivers a w next m before still_open)) (delivered (still_there i delivers a w next m before still_open))))

  -- ---- a timeout

  timeout_leaves : (i now : ℕ) (a : Answer) (w next : World) (m : IsMade r i side (calls.Timeout now) a w next) (before : Follows i w) (still_open : (end_at side next).closing.state ≡ states.Open) → Leaves i (calls.Timeout now) a w next m before still_open
  timeout_leaves i now a w next m before still_open =
      let call : Call = calls.Timeout now in
      let tx : Party = x i call a w next m before still_open in
      let ty : Party = y i call a w next m before still_open in
      let ts : Watch = seen i call a w next m before still_open in
      let opened_so : tx.end.closing.state ≡ states.Open = opened i call a w next m before still_open in
      let silent : gave a ≡ false = only_polls_give tx.policy tx.end ty.given call a refl m.step.answer in
      let late : Sizing = sizing_moment (is_past (loss_due ts.flight) (max ts.clock now)) c tx.terms (max ts.clock now) ts.flight (sizing r side i) in
      plain_leaves i call a w next m before still_open refl
      (subst (λ (ss : List Sent). IsReckoned c (max ts.clock now) (with_all_gone c ss late) (behind i call a w next m before still_open).end.path.discovery) (sym (none_went i call a w next m before still_open silent))
      (subst (λ (s : State). IsReckoned c (max ts.clock now) late (timed_out_in s tx.policy tx.end now).end.path.discovery) (sym opened_so)
      (timeout_reckons c tx.policy tx.terms ts tx.end now (sizing r side i) ((sight i call a w next m before still_open).stands opened_so) (waits i call a w next m before still_open) (reckoned i call a w next m before still_open))))

  -- ---- a poll

  module _ (i now : ℕ) (a : Answer) (w next : World) (m : IsMade r i side (calls.Poll now) a w next) (before : Follows i w) (still_open : (end_at side next).closing.state ≡ states.Open) where
    abbrev polls : Call
    polls = calls.Poll now

    abbrev px : Party
    px = x i polls a w next m before still_open

    abbrev py : Party
    py = y i polls a w next m before still_open

    abbrev ps : Watch
    ps = seen i polls a w next m before still_open

    abbrev ph : CallHolds Known r i side polls a w
    ph = h i polls a w next m before still_open

    said : a ≡ answers.Poll (polled px.policy px.end now).answer
    said = poll_answer px.policy px.end now a m.step.answer (made_served r i side polls a w next m)

    abbrev gone : List Sent
    gone = sent_if (gave (answers.Poll (polled px.policy px.end now).answer)) (sent_by px.policy px.end now)

    same_gone : sents_by px.policy px.end polls a ≡ gone
    same_gone = ap (λ (b : Answer). sent_if (gave b) (sent_by px.policy px.end now)) said

    clock : ps.clock ≡ px.end.closing.clock
    clock = (waits i polls a w next m before still_open).tells.clock

    -- what it leaves, and each probe that goes by it
    abbrev Turns : List Sent → Type 0
    Turns ss = (s : Sent) → In s ss → is_probe (sizing r side i).size s ≡ true → IsInTurn c.mtu_discovery_config (sizing r side i) s

    abbrev So : List Sent → Type 0
    So ss = IsReckoned c (max px.end.closing.clock now) (with_all_gone c ss (sizing r side i)) (polled px.policy px.end now).end.path.discovery × Turns ss

    knows : So gone
    knows =
        let packets_so : PacketsHold px py = packets i polls a w next m before still_open in
        let room = has_room px py packets_so in
        polled_reckons c px.policy px.end now (sizing r side i) room packets_so.sized (ph.gives.1.apart apart)
        (spellable_next spells.known spells.spelling spells.bringing px.end ph.takes.0.0.0.acks room (spells.holds px py packets_so ph.gives.0.0.1) now)
        (subst (λ (n : ℕ). IsReckoned c n (sizing r side i) px.end.path.discovery) clock (reckoned i polls a w next m before still_open))
        (still_there i polls a w next m before still_open)

    -- what went by it, as the observer knows it
    went_so : went ps (watch_told l (told_of polls a states.Open) ps) ≡ gone
    went_so = went_is ps (watch_told l (told_of polls a states.Open) ps) gone (own_behind ∙ ap (λ (ss : List Sent). ss ++ sents_by px.policy px.end polls a) (sym (sight i polls a w next m before still_open).own) ∙ ap (λ (ss : List Sent). ps.own ++ ss) same_gone)
      where
        own_behind : (watch_told l (told_of polls a states.Open) ps).own ≡ px.sents ++ sents_by px.policy px.end polls a
        own_behind =
            ap (λ (u : State). (watch_told l (told_of polls a u) ps).own) (sym (opened i polls a w next m before still_open))
            ∙ sym (ap (λ (v : Watch). v.own) (folded_more (watch_told (lens px py)) px.told (told_of polls a px.end.closing.state) (first_watch px.final px.began px.made.path.remote px.first_rtt px.initial_delay)))
            ∙ ph.behind.0.1.own

    poll_leaves : Leaves i polls a w next m before still_open
    poll_leaves =
        plain_leaves i polls a w next m before still_open refl
        (subst (λ (n : ℕ). IsReckoned c (max n now) (with_all_gone c (went ps (watch_told l (told_of polls a states.Open) ps)) (sizing r side i)) (polled px.policy px.end now).end.path.discovery) (sym clock)
        (subst (λ (ss : List Sent). IsReckoned c (max px.end.closing.clock now) (with_all_gone c ss (sizing r side i)) (polled px.policy px.end now).end.path.discovery) (sym went_so) knows.0))

    -- each probe that the run's observer sees go
    pub turns_so : (s : Sent) → In s (went (watch r side i) (watch r side (suc i))) → is_probe (sizing r side i).size s ≡ true → IsInTurn c.mtu_discovery_config (sizing r side i) s
    turns_so = subst Turns (sym seen_gone) knows.1
      where
        seen_gone : went (watch r side i) (watch r side (suc i)) ≡ gone
        seen_gone =
            ap (λ (v : Watch). went (watch r side i) v) (watch_behind i polls a w next m before still_open)
            ∙ ap (λ (v : Watch). went v (watch_told l (told_of polls a states.Open) v)) ph.seen
            ∙ went_so

  -- ---- any call of its own

  -- one that takes no packet, says no moment and gives nothing
  quiet_leaves : (i : ℕ) (call : Call) (a : Answer) (w next : World) (m : IsMade r i side call a w next) (before : Follows i w) (still_open : (end_at side next).closing.state ≡ states.Open) → is_delivery call ≡ false → is_poll call ≡ false → is_timeout call ≡ false → moment_of states.Open false call ≡ None → gave a ≡ false → Leaves i call a w next m before still_open
  quiet_leaves i call a w next m before still_open no_delivery no_poll no_timeout no_moment silent =
      let qx : Party = x i call a w next m before still_open in
      let qy : Party = y i call a w next m before still_open in
      let qs : Watch = seen i call a w next m before still_open in
      let f : Discovery = (behind i call a w next m before still_open).end.path.discovery in
      plain_leaves i call a w next m before still_open no_delivery
      (subst (λ (ss : List Sent). IsReckoned c (plain_clock i call a w next m before still_open) (with_all_gone c ss (plain i call a w next m before still_open)) f) (sym (none_went i call a w next m before still_open silent))
      (subst (λ (b : Bool). IsReckoned c (plain_clock i call a w next m before still_open) (sizing_moment (b && is_past (loss_due qs.flight) (plain_clock i call a w next m before still_open)) c l.terms (plain_clock i call a w next m before still_open) qs.flight (sizing r side i)) f) (sym (untimely states.Open call no_timeout))
      (subst (λ (o : Option ℕ). IsReckoned c (clock_behind qs.clock o) (sizing r side i) f) (sym no_moment)
      (subst (λ (e : Discovery). IsReckoned c qs.clock (sizing r side i) e) (sym (still qx.policy qx.end qy.given call a no_delivery no_poll no_timeout)) (reckoned i call a w next m before still_open)))))

  own_leaves : (i : ℕ) (call : Call) (a : Answer) (w next : World) (m : IsMade r i side call a w next) (before : Follows i w) (still_open : (end_at side next).closing.state ≡ states.Open) → Leaves i call a w next m before still_open
  own_leaves i (calls.Deliver delivery) a w next m before still_open = delivery_leaves i delivery a w next m before still_open
  own_leaves i (calls.Timeout now) a w next m before still_open = timeout_leaves i now a w next m before still_open
  own_leaves i (calls.Poll now) a w next m before still_open = poll_leaves i now a w next m before still_open
  own_leaves i call a w next m before still_open = quiet_leaves i call a w next m before still_open refl refl refl refl (only_polls_give (policy_at side r.keys) (x i call a w next m before still_open).end (given_by (other_side side) w) call a refl m.step.answer)

  -- ---- over the run

  first_follows : Follows zero r.start
  first_follows opened =
      subst (λ (ts : List Told). IsReckoned c (folded (watch_told l) ts begins).clock (sizing_behind c l ts begins (first_sizing (seen_of side r.start).current_mtu c)) (end_at side r.start).path.discovery) (sym (told_none side r.events r.views (end_at side r.start).closing.state))
      (later_reckoned c 0 begins.clock (first_sizing (seen_of side r.start).current_mtu c) (end_at side r.start).path.discovery (omega arith) (made_reckoned r honest side))

  other_follows : (i : ℕ) (event : RunEvent) (a : Answer) (w next : World) → slice_get r.events i ≡ Some event → same_side event.side side ≡ false → IsStep r.keys w event a next → until r side (suc i) ≡ until r side i → Follows i w → Follows (suc i) next
  other_follows i event a w next at other step told before shown =
      let same : end_at side next ≡ end_at side w = (step_leaves side r.keys w next event a other step).end in
      subst (λ (e : End). IsReckoned c (watch r side (suc i)).clock (sizing r side (suc i)) e.path.discovery) (sym same)
      (subst (λ (ts : List Told). IsReckoned c (folded (watch_told l) ts begins).clock (sizing_behind c l ts begins (first_sizing (seen_of side r.start).current_mtu c)) (end_at side w).path.discovery) (sym told) (before (sym (ap (λ (e : End). e.closing.state) same) ∙ shown)))

  -- so it is at each place
  pub follows_at : (i : ℕ) (w : World) → i ≤ length r.views → AreServed r i → LeadsTo r i w → Follows i w
  follows_at = along r end run side Follows (record {
    first = first_follows;
    own = λ i call a w next m leads before still_open. leads_on i call a w next m before still_open (own_leaves i call a w next m before still_open);
    other = other_follows;
  })

-- ---- the clauses

-- the size that a view shows
pub sizes_follow : (r : Run) (end : World) → IsHonest r → IsRun r end → SizesFollow r
sizes_follow r end honest run side i v served apart there opened =
    let at = all_placed r end honest run side (suc i) served in
    let w : World = at.world in
    let shown : v ≡ view_of w = last_view r.keys i r.start w r.events r.answers r.views v at.leads there in
    let state : (end_at side w).closing.state ≡ states.Open = sym (ap (λ (u : View). state_in u side) shown ∙ state_shown side w) ∙ opened in
    let place = slice_get_within r.views i v there in
    let known_there = follows_at r end honest run side apart (suc i) w (omega (arith, place)) served at.leads state in
    ap (λ (u : View). mtu_in u side) shown ∙ size_there side w ∙ sym known_there.size

-- each probe that goes
pub searches_rest : (r : Run) (end : World) → IsHonest r → IsRun r end → SearchesRest r
searches_rest r end honest run side i now gave_one apart shown probes =
    let m = made_at (everything.All Ready ready) (everything.all Ready ready) r end honest run i side (calls.Poll now) (answers.Poll (Ok (Some gave_one.transmit))) gave_one.poll gave_one.served in
    let w : World = m.before in
    let still_open : (end_at side m.behind).closing.state ≡ states.Open = sym (state_there r end honest run side apart (suc i) m.behind gave_one.served m.leads) ∙ shown in
    let before = follows_at r end honest run side apart i w (stands_within r end run side i side (calls.Poll now) (answers.Poll (Ok (Some gave_one.transmit))) w m.behind m.made) (served_before r.answers i gave_one.served) m.made.leads in
    turns_so r end honest run side apart i now (answers.Poll (Ok (Some gave_one.transmit))) w m.behind m.made before still_open gave_one.sent
    (subst (λ (ss : List Sent). In gave_one.sent ss) (sym (went_is (watch r side i) (watch r side (suc i)) (gave_one.sent ∷ []) gave_one.went)) (inl refl)) probes
