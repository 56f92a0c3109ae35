-- From one view of an open end to the next its size stays, grows to that of a probe that is
-- acknowledged between them, or falls to the least that is configured.
use Rattle.std.proofs.Common.{◌≡◌, ◌⊎◌, ℕ, zero, suc, ◌<◌, ◌≤◌, max, List, [], ◌∷◌, take, Bool, true, false, Option, Some, None, inl, inr, refl, sym, ap, ◌∙◌, subst, arith}
use Rattle.std.specs.Prelude.{slice_get}
use Rattle.std.proofs.lemmas.Bool.{cases_lt}
use Rattle.quic_wire_core.specs.declared.stream_id.Side.{Side}
use Rattle.quic_wire_core.specs.declared.stream_id.Side.TheVariants.{Client, Server}
use Rattle.quic_wire_core.specs.StreamId.{other_side}
use Rattle.quic_congestion.specs.Search.{Discovery}
use Rattle.quic_spaces.specs.Numbers.{Numbers, number_opened}
use Rattle.quic_machine.specs.declared.answers.State.TheVariants as states
use Rattle.quic_machine.specs.declared.run.Call.{Call}
use Rattle.quic_machine.specs.declared.run.Call.TheVariants as calls
use Rattle.quic_machine.specs.declared.run.Answer.{Answer}
use Rattle.quic_machine.specs.declared.run.Delivery.{Delivery}
use Rattle.quic_machine.specs.declared.run.RunEvent.{RunEvent}
use Rattle.quic_machine.specs.declared.run.View.{View}
use Rattle.quic_machine.specs.Policy.{Policy}
use Rattle.quic_machine.specs.Closing.{ticked}
use Rattle.quic_machine.specs.Tracking.{lost_by}
use Rattle.quic_machine.specs.End.{End, with_closing}
use Rattle.quic_machine.specs.Acked.{verdict, losses_detected}
use Rattle.quic_machine.specs.Receive.{Outcome}
use Rattle.quic_machine.specs.Timeouts.{Expiry}
use Rattle.quic_machine.specs.Machine.{World, Policies, after_call, reads_window, given_by, end_at, control_at, policy_at, Follows, view_of, heard_at}
use Rattle.quic_machine.specs.RunLaws.{one_run}
use Rattle.quic_machine.specs.CallCases.{Plain, is_delivery, by_plain_call}
use Rattle.quic_machine.specs.CallCases as cases
use Rattle.quic_machine.specs.LeaveCases.{at_expiry, by_expired}
use Rattle.quic_machine.specs.FrameCases.{begun}
use Rattle.quic_headline.specs.Runs.{Run, Intake, In, state_in, LeadsTo, AreServed}
use Rattle.quic_wire.specs.Value.{FrameValue, ack}
use Rattle.quic_headline.specs.Observer.{Sent, Terms, Flight, after_ack, after_frames, Watch}
use Rattle.quic_headline.specs.Headline.{IsHonest, IsRun}
use Rattle.quic_headline.specs.Polls.{mtu_in, IsMade}
use Rattle.quic_headline.specs.Sizes.{WasProbed, SizesMove}
use Rattle.quic_headline.proofs.Packets.Acked.{acked_with, acks_behind, acked_then}
use Rattle.quic_headline.proofs.Packets.Apart.{by_waits, by_next_id}
use Rattle.quic_headline.proofs.Packets.Searches.{losses_search}
use Rattle.quic_headline.proofs.Packets.Sizes.{polled_search}
use Rattle.quic_headline.proofs.Packets.Delivered.{frames_at, Arrivals, arrived, with_taken}
use Rattle.quic_headline.proofs.Packets.Moved.{by_migrated}
use Rattle.quic_headline.proofs.Packets.Flying.{Waits, held, frames_fly, ticked_waits, numbers_wait}
use Rattle.quic_headline.proofs.Packets.Group.{PacketsHold, meets}
use Rattle.quic_headline.proofs.Packets.Sight.{Sight}
use Rattle.quic_headline.proofs.Places.Parties.{Party, called, came_to, watch_of}
use Rattle.quic_headline.proofs.Places.Groups.{Way, Nothing, Group}
use Rattle.quic_headline.proofs.Places.Coming.{by_coming}
use Rattle.quic_headline.proofs.Places.Moments.{last_view, state_shown}
use Rattle.quic_headline.proofs.Places.Placed.{party_at, placed}
use Rattle.quic_headline.proofs.Timers.Quiet.{Unnamed}
use Rattle.quic_headline.proofs.Held.Behind.{last_step}
use Rattle.quic_headline.proofs.Steps.Made.{made_served, left_at, made_end, served_before, calling, CallHolds, call_holds}
use Rattle.quic_headline.proofs.Steps.Resized.{reads_search, size_there}
use Rattle.quic_headline.proofs.Sizes.Search.{lost_falls}
use Rattle.quic_headline.proofs.Sizes.Probed.{KnowsSearch}
use Rattle.quic_headline.proofs.Sizes.Moving.{HasMoved, Moves, moving_flies}

-- ---- a place of a run

-- What a run did at a place.
pub record Did (events : List RunEvent) (answers : List Answer) (i : ℕ) : Type 0 where
  pub event : RunEvent
  pub answer : Answer
  pub at_event : slice_get events i ≡ Some event
  pub at_answer : slice_get answers i ≡ Some answer

none_there : {X : Type 0} (x : X) → ◌≡◌ {A = Option X} None (Some x) → ⊥
none_there x is = cc

-- Where there is a view, something was done and answered.
pub did_there : (i : ℕ) (k : Policies) (w end : World) (events : List RunEvent) (answers : List Answer) (views : List View) (v : View) → Follows k w events answers views end → slice_get views i ≡ Some v → Did events answers i
did_there i k w end events answers [] v f there = absurd (none_there v there)
did_there i k w end [] [] (u ∷ views) v f there = absurd f
did_there i k w end (e ∷ events) [] (u ∷ views) v f there = absurd f
did_there i k w end [] (a ∷ answers) (u ∷ views) v f there = absurd f
did_there zero k w end (e ∷ events) (a ∷ answers) (u ∷ views) v f there = record { event = e; answer = a; at_event = refl; at_answer = refl }
did_there (suc i) k w end (e ∷ events) (a ∷ answers) (u ∷ views) v f there =
    let rest = did_there i k f.0 end events answers views v f.3 there in
    record { event = rest.event; answer = rest.answer; at_event = rest.at_event; at_answer = rest.at_answer }

-- at an open end the size hasn't moved yet, and what is in flight was given
pub moves_first : (x y : Party) → Sight x y → KnowsSearch x y → Unnamed x y → x.end.closing.state ≡ states.Open
    → let f = (watch_of x y).flight in Moves f.flying x.made.transport.min_mtu x.end.path.discovery.size f.flying f.acked x.end
moves_first x y sight search quiet opened = record { inside = λ s among. among; sized = search.sized; floor = search.floor; probes = λ s among size is. (search.probe opened).probes s (own s among) size is; moved = inl refl }
  where
    own : (s : Sent) → In s (watch_of x y).flight.flying → In s x.sents
    own s among = subst (λ (ss : List Sent). In s ss) sight.own (quiet.quiet.own s among)

-- frames of path validation acknowledge nothing
after_stray : (t : Terms) (now : ℕ) (here : Bool) (fs : List FrameValue) (f : Flight) → after_frames t now (frames_at here fs) f ≡ after_frames t now fs f
after_stray t now true fs f = refl
after_stray t now false [] f = refl
after_stray t now false (ack a ∷ fs) f = after_stray t now false fs (after_ack t now a f)
after_stray t now false (g ∷ fs) f = after_stray t now false fs f

-- ---- calls that take no packet

-- the size stays, or falls to the least one
abbrev Falls : End → End → Type 0
Falls e f = (f.path.discovery.size ≡ e.path.discovery.size) ⊎ (f.path.discovery.size ≡ e.path.discovery.bursts.least)

expired_falls : (words : ℕ → ℕ) (e : End) (now : ℕ) (expiry : Expiry) → Falls e (at_expiry words e now expiry)
expired_falls words e now expiry = by_expired words e now (Falls e) (λ pending tracking timers waits asked runs packets. inl refl) (λ pending timers waits asked runs. lost) (λ x j. j) expiry
  where
    begins : End
    begins = with_closing e (ticked e.closing now)

    lost : Falls e (losses_detected begins)
    lost = elim (lost_falls begins.closing.clock (lost_by (verdict begins) begins.tracking.packets) e.path.discovery) [
      | inl same ↦ inl (ap (λ (d : Discovery). d.size) (losses_search begins) ∙ same)
      | inr fell ↦ inr (ap (λ (d : Discovery). d.size) (losses_search begins) ∙ fell.0)
    ]

apart_falls : (p : Policy) (e : End) (theirs : List (List ℕ)) (call : Call) (a : Answer) → is_delivery call ≡ false → Falls e (after_call p e theirs call a)
apart_falls p e theirs call a apart = by_plain_call p e theirs (Falls e) call a keep
  where
    keep : Plain p e call (Falls e)
    keep (cases.times now expiry) may = expired_falls p.words e now expiry
    keep (cases.polls now) may = inl (polled_search (λ (d : Discovery). d.size ≡ e.path.discovery.size) (λ moment number d same. same) p e now refl)
    keep (cases.hears arrival d) is = (let clash : true ≡ false = sym is ∙ apart in cc)
    keep (cases.closes reason f now) may = inl refl
    keep (cases.waits now b) may = by_waits (Falls e) b (with_closing e (ticked e.closing now)) (inl refl) (inl refl)
    keep (cases.changes_id a) may = by_next_id (Falls e) e a (inl refl) (λ c. inl refl) (λ c most. inl refl)
    keep c may = inl refl

-- ---- the clause

-- by what the size is behind a call: it is as it was, or it grew so, or it is the least
finds : (r : Run) (side : Side) (i before size least : ℕ) → least ≤ before → (size ≡ before) ⊎ ((size ≡ least) ⊎ ((before ≤ size) × WasProbed r side i size)) → (size ≡ before) ⊎ (((before < size) × WasProbed r side i size) ⊎ ((size < before) × (size ≡ least)))
finds r side i before size least low (inl same) = inl same
finds r side i before size least low (inr (inl fell)) = elim (cases_lt size before) [
  | inl below ↦ inr (inr (below, fell))
  | inr above ↦ inl (omega (arith, low, fell, above))
]
finds r side i before size least low (inr (inr grew)) = elim (cases_lt before size) [
  | inl more ↦ inr (inl (more, grew.1))
  | inr less ↦ inl (let above = grew.0 in omega (arith, above, less))
]

module _ (G : Way) (g : Group Nothing G) (packets : (x y : Party) → G x y → PacketsHold x y) (sight : (x y : Party) → G x y → Sight x y) (search : (x y : Party) → G x y → KnowsSearch x y) (quiet : (x y : Party) → G x y → Unnamed x y)
    (r : Run) (end : World) (honest : IsHonest r) (run : IsRun r end) where
  module _ (i : ℕ) (side : Side) (delivery : Delivery) (a : Answer) (w next : World) (m : IsMade r i side (calls.Deliver delivery) a w next) (opened : (end_at side w).closing.state ≡ states.Open) where
    abbrev pub delivers : Call
    delivers = calls.Deliver delivery

    pub h : CallHolds G r i side delivers a w
    h = call_holds G g r end honest run i side delivers a w next (λ id is. cc) tt m

    abbrev pub x : Party
    x = calling r i w side delivers h.sents

    abbrev pub y : Party
    y = party_at r i w (other_side side) h.theirs

    abbrev pub seen : Watch
    seen = watch_of x y

    abbrev pub least : ℕ
    least = x.made.transport.min_mtu

    abbrev pub flew : List Sent
    flew = seen.flight.flying

    begins : Moves flew least x.end.path.discovery.size flew seen.flight.acked x.end
    begins = moves_first x y (sight x y h.gives) (search x y h.gives) (quiet x y h.gives) opened

    -- of the end, once this came
    abbrev After : End → Intake → Type 0
    After e j = e.closing.state ≡ states.Open → HasMoved flew (acked_with x.terms x.end.closing.state delivers seen j) least x.end.path.discovery.size e.path.discovery

    arrives : (here : Bool) (s : Sent) → Arrivals x.end delivery.now s.number s.frames (frames_at here s.frames) (came_to x y) (λ (o : Outcome) (j : Intake). After o.end j)
    arrives here s = record {
      ignored = λ reason still. inl refl;
      noted = λ state reason still. (let clash : states.Closing ≡ states.Open = sym state ∙ still in cc);
      takes = λ words state new none urged mark still. taken state none;
      moves = λ p o spells remote z opened h. by_migrated (λ (e : End). After e (with_taken (came_to x y) s.number s.frames)) p o remote z (λ c. h) (λ c most. h);
      drains = λ words state new close is still. cc;
      refuses = λ words state new f is still. cc;
      exhausts = λ state still. cc;
    }
      where
        fs : List FrameValue
        fs = frames_at here s.frames

        taken : x.end.closing.state ≡ states.Open → (arrived x.end delivery.now s.number fs).fault ≡ None
            → HasMoved flew (acked_with x.terms x.end.closing.state delivers seen (with_taken (came_to x y) s.number s.frames)) least x.end.path.discovery.size (arrived x.end delivery.now s.number fs).end.path.discovery
        taken state none =
            let now : ℕ = max seen.clock delivery.now in
            let waits : Waits x.terms seen.clock seen.flight (held x.end) = (sight x y h.gives).watched.flight state in
            let numbers : Numbers = number_opened x.end.numbers s.number in
            let starts : Waits x.terms now seen.flight (held (begun x.end delivery.now s.number)) = ticked_waits x.terms seen.clock delivery.now seen.flight (record (held x.end) { numbers = numbers }) (numbers_wait x.terms seen.clock seen.flight (held x.end) numbers refl waits) in
            let all = frames_fly x.terms now fs (Moves flew least x.end.path.discovery.size) (moving_flies flew least x.end.path.discovery.size fs) seen.flight (begun x.end delivery.now s.number) none (record { waits = starts; holds = begins }) in
            subst (λ (acked : List Sent). HasMoved flew acked least x.end.path.discovery.size (arrived x.end delivery.now s.number fs).end.path.discovery)
            (sym (acked_then x y delivers delivery refl state s.number s.frames ∙ ap (λ (f : Flight). f.acked) (sym (after_stray x.terms now here s.frames seen.flight)))) all.holds.moved

    delivered : After (called x y.given delivers a).end (came_to (called x y.given delivers a) y)
    delivered = by_coming x y a h.joined (made_served r i side delivers a w next m) (meets y x (packets y x h.takes)) After delivers m.step.answer (record {
      apart = λ apart. cc;
      none = λ other same still. inl refl;
      comes = λ other same s among here. (let is : delivery ≡ other = cc in subst (λ (d : Delivery). Arrivals x.end d.now s.number s.frames (frames_at here s.frames) (came_to x y) (λ (o : Outcome) (j : Intake). After o.end j)) is (arrives here s));
    })

    -- what the run's observer knows
    pub moved : (end_at side next).closing.state ≡ states.Open → ((end_at side next).path.discovery.size ≡ (end_at side w).path.discovery.size)
        ⊎ (((end_at side next).path.discovery.size ≡ least) ⊎ (((end_at side w).path.discovery.size ≤ (end_at side next).path.discovery.size) × WasProbed r side i (end_at side next).path.discovery.size))
    moved still =
        let left : end_at side next ≡ left_at r side w delivers a = made_end r i side delivers a w next m in
        subst (λ (e : End). (e.path.discovery.size ≡ x.end.path.discovery.size) ⊎ ((e.path.discovery.size ≡ least) ⊎ ((x.end.path.discovery.size ≤ e.path.discovery.size) × WasProbed r side i e.path.discovery.size))) (sym left)
        (go (called x y.given delivers a).end.path.discovery (delivered (sym (ap (λ (e : End). e.closing.state) left) ∙ still)))
      where
        go : (d : Discovery) → HasMoved flew (acked_with x.terms x.end.closing.state delivers seen (came_to (called x y.given delivers a) y)) least x.end.path.discovery.size d
            → (d.size ≡ x.end.path.discovery.size) ⊎ ((d.size ≡ least) ⊎ ((x.end.path.discovery.size ≤ d.size) × WasProbed r side i d.size))
        go d (inl same) = inl same
        go d (inr (inl fell)) = inr (inl fell.0)
        go d (inr (inr grew)) =
            let c = grew.1 in
            inr (inr (
              grew.0,
              record {
                sent = c.sent;
                flew = subst (λ (v : Watch). In c.sent v.flight.flying) (sym h.seen) c.among;
                came = subst (λ (v : Watch). In c.sent v.flight.acked) (sym h.seen_behind) (subst (λ (ss : List Sent). In c.sent ss) (sym (acks_behind x y delivers a)) c.came);
                zeros = c.pinged.zeros;
                alone = c.pinged.alone;
                sized = c.sized;
              },
            ))

  -- what is known of the search of an end at a place: to which size it falls, and that it has no
  -- less
  falls_to : (i : ℕ) (side : Side) (w : World) → AreServed r i → LeadsTo r i w → ((end_at side w).path.discovery.bursts.least ≡ (end_at side r.start).transport.min_mtu) × ((end_at side r.start).transport.min_mtu ≤ (end_at side w).path.discovery.size)
  falls_to i side w served leads =
      let at = placed G g r end honest run side i served in
      let same = (one_run r.keys (take i r.answers) r.start (take i r.events) (take i r.views) (take i r.views) at.world w served at.leads leads).1 in
      let k = search (party_at r i at.world side at.sents) (party_at r i at.world (other_side side) at.theirs) at.gives in
      subst (λ (v : World). ((end_at side v).path.discovery.bursts.least ≡ (end_at side r.start).transport.min_mtu) × ((end_at side r.start).transport.min_mtu ≤ (end_at side v).path.discovery.size)) same (k.floor, k.sized.between.size)

  -- how the size of an end moves by one call
  abbrev MovedTo : Side → ℕ → World → World → Type 0
  MovedTo side i w next = ((end_at side next).path.discovery.size ≡ (end_at side w).path.discovery.size)
      ⊎ (((end_at side next).path.discovery.size ≡ (end_at side r.start).transport.min_mtu) ⊎ (((end_at side w).path.discovery.size ≤ (end_at side next).path.discovery.size) × WasProbed r side i (end_at side next).path.discovery.size))

  -- a call of its own that is no delivery
  apart_moves : (i : ℕ) (side : Side) (call : Call) (a : Answer) (w next : World) → is_delivery call ≡ false → IsMade r i side call a w next → MovedTo side i w next
  apart_moves i side call a w next apart m =
      let e : End = end_at side w in
      let read : End = reads_window (control_at side w) (heard_at side w) call e in
      let p : Policy = policy_at side r.keys in
      let left : end_at side next ≡ left_at r side w call a = made_end r i side call a w next m in
      let same : read.path.discovery ≡ e.path.discovery = reads_search (control_at side w) (heard_at side w) call e in
      let least = (falls_to i side w (served_before r.answers i m.served) m.leads).0 in
      let size : (end_at side next).path.discovery.size ≡ (after_call p read (given_by (other_side side) w) call a).path.discovery.size = ap (λ (x : End). x.path.discovery.size) left in
      elim (apart_falls p read (given_by (other_side side) w) call a apart) [
        | inl still ↦ inl (size ∙ still ∙ ap (λ (d : Discovery). d.size) same)
        | inr fell ↦ inr (inl (size ∙ fell ∙ ap (λ (d : Discovery). d.bursts.least) same ∙ least))
      ]

  -- any call of its own
  own_moves : (i : ℕ) (side : Side) (call : Call) (a : Answer) (w next : World) → IsMade r i side call a w next → (end_at side w).closing.state ≡ states.Open → (end_at side next).closing.state ≡ states.Open → MovedTo side i w next
  own_moves i side (calls.Deliver delivery) a w next m opened still = moved i side delivery a w next m opened still
  own_moves i side call a w next m opened still = apart_moves i side call a w next refl m

  -- any call
  call_moves : (i : ℕ) (side by : Side) (call : Call) (a : Answer) (w next : World) → IsMade r i by call a w next → (end_at side w).closing.state ≡ states.Open → (end_at side next).closing.state ≡ states.Open → MovedTo side i w next
  call_moves i Client Client call a w next m opened still = own_moves i Client call a w next m opened still
  call_moves i Server Server call a w next m opened still = own_moves i Server call a w next m opened still
  call_moves i Client Server call a w next m opened still = inl (ap (λ (v : World). v.client.path.discovery.size) m.step.others)
  call_moves i Server Client call a w next m opened still = inl (ap (λ (v : World). v.server.path.discovery.size) m.step.others)

  pub sizes_move : SizesMove r
  sizes_move side i before v served there there_next opened still =
      let at = placed G g r end honest run side (suc (suc i)) served in
      let did = did_there (suc i) r.keys r.start end r.events r.answers r.views v run.follows there_next in
      let last = last_step r.keys (suc i) r.start at.world r.events r.answers r.views did.event did.answer did.at_event did.at_answer at.leads in
      let w : World = last.before in
      let next : World = at.world in
      let shown : v ≡ view_of next = last_view r.keys (suc i) r.start next r.events r.answers r.views v at.leads there_next in
      let seen : before ≡ view_of w = last_view r.keys i r.start w r.events r.answers r.views before last.leads there in
      let size_before : mtu_in before side ≡ (end_at side w).path.discovery.size = ap (λ (u : View). mtu_in u side) seen ∙ size_there side w in
      let size_behind : mtu_in v side ≡ (end_at side next).path.discovery.size = ap (λ (u : View). mtu_in u side) shown ∙ size_there side next in
      let open_before : (end_at side w).closing.state ≡ states.Open = sym (ap (λ (u : View). state_in u side) seen ∙ state_shown side w) ∙ opened in
      let open_behind : (end_at side next).closing.state ≡ states.Open = sym (ap (λ (u : View). state_in u side) shown ∙ state_shown side next) ∙ still in
      let m : IsMade r (suc i) did.event.side did.event.call did.answer w next = record { at = record { event = did.at_event; answer = did.at_answer }; leads = last.leads; step = last.step; served = served } in
      let least : ℕ = (end_at side r.start).transport.min_mtu in
      let low = (falls_to (suc i) side w (served_before r.answers (suc i) served) last.leads).1 in
      let found = finds r side (suc i) (end_at side w).path.discovery.size (end_at side next).path.discovery.size least low (call_moves (suc i) side did.event.side did.event.call did.answer w next m open_before open_behind) in
      subst (λ (k : ℕ). (k ≡ mtu_in before side) ⊎ (((mtu_in before side < k) × WasProbed r side (suc i) k) ⊎ ((k < mtu_in before side) × (k ≡ least)))) (sym size_behind)
      (subst (λ (j : ℕ). ((end_at side next).path.discovery.size ≡ j) ⊎ (((j < (end_at side next).path.discovery.size) × WasProbed r side (suc i) (end_at side next).path.discovery.size) ⊎ (((end_at side next).path.discovery.size < j) × ((end_at side next).path.discovery.size ≡ least)))) (sym size_before) found)
