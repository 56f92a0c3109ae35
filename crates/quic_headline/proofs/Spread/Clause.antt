-- At each place of an honest run the pacer of an open end is that which the run's lists say; and so
-- polls hold to it.
use Rattle.std.proofs.Common.{◌≡◌, ℕ, suc, ◌<◌, ◌≤◌, Bool, true, false, not, ◌==◌, ◌||◌, List, [], ◌∷◌, length, Option, Some, None, refl, sym, ap, ◌∙◌, subst, ◌⊎◌, inl, inr, arith}
use Rattle.std.specs.Prelude.{slice_get, if◌then◌else◌}
use Rattle.std.proofs.lemmas.Bool.{both_ways, eq-eqb}
use Rattle.std.proofs.lemmas.List.{append-nil}
use Rattle.std.proofs.lemmas.Option.{slice_get_within}
use Rattle.quic_wire_core.specs.declared.stream_id.Side.{Side}
use Rattle.quic_wire_core.specs.declared.stream_id.Side.TheVariants.{Client, Server}
use Rattle.quic_wire_core.specs.StreamId.{other_side}
use Rattle.quic_time.specs.Rtt.{Rtt, best_rtt}
use Rattle.quic_config.specs.Transport.{transport_of, first_mtu}
use Rattle.quic_congestion.specs.Congestion.{Told}
use Rattle.quic_congestion.specs.Pacer.{Pacing, Ask, new_pacing, pacing_after}
use Rattle.quic_congestion.specs.Pacer as pacer
use Rattle.quic_machine.specs.declared.answers.State.TheVariants as states
use Rattle.quic_machine.specs.declared.run.RunEvent.{RunEvent}
use Rattle.quic_machine.specs.declared.run.Call.{Call}
use Rattle.quic_machine.specs.declared.run.Call.TheVariants as calls
use Rattle.quic_machine.specs.declared.run.Answer.{Answer}
use Rattle.quic_machine.specs.declared.run.Answer.TheVariants as answers
use Rattle.quic_machine.specs.declared.run.EndView.{EndView}
use Rattle.quic_machine.specs.declared.run.View.{View}
use Rattle.quic_machine.specs.Policy.{Policy}
use Rattle.quic_machine.specs.Parts.{current_mtu}
use Rattle.quic_machine.specs.End.{End}
use Rattle.quic_machine.specs.Control.{Control, after_told}
use Rattle.quic_machine.specs.Migration.{has_moved, pacing_moved}
use Rattle.quic_machine.specs.Poll.{message_waits, polled}
use Rattle.quic_machine.specs.CallCases.{is_poll, is_delivery}
use Rattle.quic_machine.specs.Machine.{World, IsStep, IsTold, reads_window, pacing_left, after_call, tells, end_at, control_at, heard_at, given_by, policy_at, gave}
use Rattle.quic_machine.specs.RunLaws.{as_many_views}
use Rattle.quic_headline.specs.Runs.{Run, In, same_side, folded, until, given_of, LeadsTo, AreServed}
use Rattle.quic_headline.specs.Runs as runs
use Rattle.quic_headline.specs.Observer.{terms_of, Watch, watch_from, watch, watch_told, lens_of, has_changed, path_changes}
use Rattle.quic_headline.specs.Amounts.{making_at}
use Rattle.quic_headline.specs.Headline.{IsHonest, IsRun}
use Rattle.quic_headline.specs.Polls.{bytes_on, pacing_timer, seen_of, seen_at, pacing_at, pacer_names, IsMade, GaveNothing, GaveAsking, IsFull, IsHeldBack, IsLimited, IsToGo, IsSizeProbe}
use Rattle.quic_headline.specs.Waited.{Wants, wants}
use Rattle.quic_headline.proofs.Packets.Quiet.{HaveHeardNothing}
use Rattle.quic_headline.specs.Tokens.{names_for, spent_by}
use Rattle.quic_headline.specs.Spread.{gone_at, paces_by, paces_in, paces_at, pacer_anew, first_pacer, pacer_at, named_at, HoldsToPacer, HoldsBy, SearchesApart, PacerIsOfHistory}
use Rattle.quic_headline.proofs.Packets.Flying.{Waits, held}
use Rattle.quic_headline.proofs.Packets.Group.{has_room}
use Rattle.quic_headline.proofs.Places.Parties.{sent_by, sent_if, sents_by, Party, watch_of, with_shown, shown_at}
use Rattle.quic_headline.proofs.Places.Groups.{Way, Nothing, And, Group, both, beside, over}
use Rattle.quic_headline.proofs.Places.Moments.{last_seen}
use Rattle.quic_headline.proofs.Places.Placed.{start_is, party_at, Placed, placed, watch_is}
use Rattle.quic_headline.proofs.Places.Steps.{poll_answer}
use Rattle.quic_headline.proofs.Places.Together.{Spells}
use Rattle.quic_headline.proofs.Places.Everything as everything
use Rattle.quic_headline.proofs.Places.Theorems.{ready, asking_goes_where_let}
use Rattle.quic_headline.proofs.Halves.Ready.{Ready}
use Rattle.quic_headline.proofs.Halves.Joined.{streams_spell}
use Rattle.quic_headline.proofs.Held.Flight.{bytes_of_end}
use Rattle.quic_headline.proofs.Held.Messages.{AreShort, short_group, short_waits}
use Rattle.quic_headline.proofs.Held.Clause.{polls_send_what_waits}
use Rattle.quic_headline.proofs.Messages.Lists.{waiting_is}
use Rattle.quic_headline.proofs.Rest.Between.{step_leaves}
use Rattle.quic_headline.proofs.Sizes.Apart.{ProbesApart, apart_group}
use Rattle.quic_headline.proofs.Steps.Made.{served_before, one_behind, made_served, left_at, made_end, reads_state, reads_either, MadeAt, made_at, polling, PollHolds, poll_holds, observed_poll, sents_more}
use Rattle.quic_headline.proofs.Steps.Along.{stands_within, view_there, along}
use Rattle.quic_headline.proofs.Moves.Route.{changes_at}
use Rattle.quic_headline.proofs.Moves.Kept.{apart_stays}
use Rattle.quic_headline.proofs.Steps.Pacing.{names_shown, pacer_sets_its_timer}
use Rattle.quic_headline.proofs.Timers.Still.{was_open}
use Rattle.quic_headline.proofs.Timers.Watched.{Observed, went_is, timers_behind, open_behind}
use Rattle.quic_headline.proofs.Waited.Group.{wants_of, Wanting, wanting_group}
use Rattle.quic_headline.proofs.Spread.Pings.{Pinging, ObservedWanting, pinging_group}
use Rattle.quic_headline.proofs.Spread.Tokens.{full_same, begun_same, names_of, names_same, spent_same}
use Rattle.quic_headline.proofs.Spread.Gates.{ask, names}
use Rattle.quic_headline.proofs.Spread.Polls.{Knows, asked_alike, polled_spread}
use Rattle.quic_headline.proofs.Packets.EndMoves.{Cause, cause_of, IsPoll, Keeps}
use Rattle.quic_headline.proofs.Packets.EndMoves as moves
use Rattle.quic_headline.proofs.Packets.ByMoves.{no_poll, behind_call}

-- ---- any call but a poll

-- the pacer holds what it did
abbrev SamePacer : End → End → Type 0
SamePacer e f = f.path.pacing ≡ e.path.pacing

pacer_kept : (e : End) (by : Cause) → (IsPoll by → ⊥) → Keeps by (SamePacer e)
pacer_kept e by other (moves.gates until pacing discovery) x may i = absurd (other may)
pacer_kept e by other (moves.went g) x may i = absurd (other may)
pacer_kept e by other m x may i = i

pacer_stays : (p : Policy) (e : End) (theirs : List (List ℕ)) (call : Call) (a : Answer) → is_poll call ≡ false → SamePacer e (after_call p e theirs call a)
pacer_stays p e theirs call a other = behind_call (SamePacer e) p e theirs call a (pacer_kept e (cause_of call) (no_poll call other)) refl

-- the pacer that a call leaves is made anew only where it leads to another path, as a delivery may
pacing_stays : (window : ℕ) (call : Call) (before after : End) → has_moved before after ≡ false → pacing_left window call before after ≡ after.path.pacing
pacing_stays window (calls.Deliver delivery) before after same = ap (λ (b : Bool). pacing_moved b window after) same
pacing_stays window call before after same = refl

pacing_anew : (window : ℕ) (call : Call) (before after : End) → has_moved before after ≡ true → is_delivery call ≡ true → pacing_left window call before after ≡ new_pacing (best_rtt after.path.rtt) window (current_mtu after.path) after.closing.clock
pacing_anew window (calls.Deliver delivery) before after moved is = ap (λ (b : Bool). pacing_moved b window after) moved
pacing_anew window call before after moved is = cc

-- ---- what is known

-- all that is known of the packets and the streams, what is wanted, that PING waits where it was
-- asked for, how long messages are, and probes of sizes
abbrev Known : Way
Known = And (And (And (everything.All Ready ready) Wanting) Pinging) (And AreShort ProbesApart)

known : Group Nothing Known
known = both Nothing (And (And (everything.All Ready ready) Wanting) Pinging) (And AreShort ProbesApart)
    (both Nothing (And (everything.All Ready ready) Wanting) Pinging
    (both Nothing (everything.All Ready ready) Wanting (everything.all Ready ready) (over Observed (And Nothing (everything.All Ready ready)) Wanting (λ x y h. (h.1.0.0, h.1.1)) wanting_group))
    (over ObservedWanting (And Nothing (And (everything.All Ready ready) Wanting)) Pinging (λ x y h. ((h.1.0.0.0, h.1.0.1), h.1.1)) pinging_group))
    (beside (And Nothing (And (And (everything.All Ready ready) Wanting) Pinging)) AreShort ProbesApart
    (short_group (And Nothing (And (And (everything.All Ready ready) Wanting) Pinging)) (λ x y h. h.1.0.0.0.0))
    (apart_group (And Nothing (And (And (everything.All Ready ready) Wanting) Pinging)) (λ x y h. h.1.0.0.0.0)))

-- what is known of the streams
abbrev Streams : Way
Streams = everything.Streams Ready ready

spells : Spells Streams
spells = streams_spell (everything.Rest Ready ready) (everything.goes Ready ready)

-- one that waits is among those that wait
first_waits : (ms : List (List ℕ)) → 0 < length ms → (m : List ℕ) × In m ms
first_waits [] some = absurd (omega arith)
first_waits (m ∷ ms) some = (m, inl refl)

-- ---- a poll

module _ (r : Run) (end : World) (honest : IsHonest r) (run : IsRun r end) (quiet : HaveHeardNothing r.start) where
  module _ (i : ℕ) (side : Side) (now : ℕ) (a : Answer) (w next : World) (m : IsMade r i side (calls.Poll now) a w next) (opened : (end_at side w).closing.state ≡ states.Open) where
    abbrev e : End
    e = with_shown (end_at side w) (shown_at side w)

    abbrev p : Policy
    p = policy_at side r.keys

    h : PollHolds Known r i side now a w
    h = poll_holds Known known r end honest run i side now a w next m

    abbrev x : Party
    x = polling r i w side h.sents

    abbrev y : Party
    y = party_at r i w (other_side side) h.theirs

    was_served : AreServed r i
    was_served = served_before r.answers i m.served

    -- what is wanted of the run is what is wanted of its end
    wants_is : wants r side i ≡ wants_of x y
    wants_is = refl

    -- there is a view behind each place up to here
    within : i ≤ length r.views
    within =
        let place = slice_get_within r.answers i a m.at.answer in
        let many = as_many_views r.keys r.start end r.events r.answers r.views run.follows in
        omega (arith, place, many)

    seen : seen_at r side i ≡ seen_of side w
    seen = last_seen side r.keys i r.start w r.events r.answers r.views m.leads

    pub knows : SearchesApart r side → Knows r side i e
    knows apart =
        let flight = h.gives.0.0.0.1.watched.flight opened in
        record {
          probes = ap (λ (v : Watch). v.flight.probes) h.seen ∙ flight.probes;
          rtt = ap (λ (v : Watch). v.flight.rtt) h.seen ∙ flight.tells.rtt;
          clock = ap (λ (v : Watch). v.clock) h.seen ∙ flight.tells.clock;
          flying = ap (λ (v : Watch). bytes_on v.route.generation v.flight.flying) h.seen ∙ sym (bytes_of_end e (watch_of x y).route.generation (watch_of x y).flight.flying h.gives.0.0.0.1.watched.path flight.tells.waits);
          messages = waiting_is r end honest run side i w within was_served m.leads;
          asked = λ set. h.gives.0.1.pinged opened (sym (ap (λ (v : Wants). v.pinged) wants_is) ∙ set);
          waits = λ set. ap (λ (v : Wants). v.pinged || v.probed) wants_is ∙ (h.gives.0.0.1.wanted opened).pinged set;
          sized = h.gives.0.0.0.0.0.sized;
          apart = h.gives.1.1.apart apart;
          size = ap (λ (u : EndView). u.current_mtu) seen;
          window = ap (λ (u : EndView). u.window) seen;
        }

    said : a ≡ answers.Poll (polled p e now).answer
    said = poll_answer p e now a m.step.answer (made_served r i side (calls.Poll now) a w next m)

    -- what went is what the end gave
    went_there : gone_at r side i ≡ sent_if (gave (answers.Poll (polled p e now).answer)) (sent_by p e now)
    went_there =
        went_is (watch r side i) (watch r side (suc i)) (sents_by p e (calls.Poll now) a) (sents_more r i side now a w (observed_poll Streams r i side now a w (record {
          sents = h.sents;
          theirs = h.theirs;
          joined = h.joined;
          gives = h.gives.0.0.0;
          takes = h.takes.0.0.0;
          behind = h.behind.0.0.0;
          behind_back = h.behind_back.0.0.0;
          calls = h.calls;
          seen = h.seen;
          seen_behind = h.seen_behind;
        })))
        ∙ ap (λ (b : Answer). sent_if (gave b) (sent_by p e now)) said

    left : end_at side next ≡ (polled p e now).end
    left = made_end r i side (calls.Poll now) a w next m

    -- each message that waits may go, where no probe of losses waits
    message_fits : e.tracking.probes ≡ 0 → 0 < length e.messages.queues.outgoing → message_waits e ≡ true
    message_fits none some =
        let one = first_waits e.messages.queues.outgoing some in
        let packets = h.gives.0.0.0.0.0 in
        short_waits e one.0 none (has_room x y packets) packets.long.peer.used h.gives.1.0.short one.1

    -- so the pacer behind it is that of the lists, if it was before
    pub poll_spread : SearchesApart r side → (v : View) → LeadsTo r (suc i) next → slice_get r.views i ≡ Some v → (end_at side next).closing.state ≡ states.Open → (end_at side next).path.pacing ≡ pacing_after (paces_by (calls.Poll now) r side i v) (end_at side w).path.pacing
    poll_spread apart v leads there still =
        ap (λ (z : End). z.path.pacing) left
        ∙ polled_spread spells.known spells.spelling spells.bringing r side i v p e now (knows apart) h.takes.0.0.0.0.0.acks (has_room x y h.gives.0.0.0.0.0) (spells.holds x y h.gives.0.0.0.0.0 h.gives.0.0.0.0.1) message_fits opened
        (sym (ap (λ (z : End). z.closing.state) left) ∙ still)
        (ap (λ (ts : List (Option ℕ)). slice_get ts 6) (timers_behind r next i v side leads there) ∙ ap (λ (z : End). Some z.timers.pacing) left)
        went_there

  -- ---- at each place

  -- the pacer of an open end is that of the lists
  abbrev Paced : Side → ℕ → World → Type 0
  Paced side i w = (end_at side w).closing.state ≡ states.Open → (end_at side w).path.pacing ≡ pacer_at r side i

  -- what the lists make of it by an event that leads nowhere else
  abbrev stayed : Side → ℕ → Pacing
  stayed side i = spent_by (paces_at (slice_get r.events i) (slice_get r.views i) r side i) (pacer_at r side i)

  -- a call of its own
  module _ (side : Side) (i : ℕ) (call : Call) (a : Answer) (w next : World) (apart : SearchesApart r side) (m : IsMade r i side call a w next) (leads : LeadsTo r (suc i) next) (before : Paced side i w) (still : (end_at side next).closing.state ≡ states.Open) where
    abbrev met : End
    met = reads_window (control_at side w) (heard_at side w) call (end_at side w)

    abbrev behind : End
    behind = after_call (policy_at side r.keys) met (given_by (other_side side) w) call a

    abbrev window : ℕ
    window = control_at side w (tells (policy_at side r.keys) met (given_by (other_side side) w) call)

    made : end_at side next ≡ left_at r side w call a
    made = made_end r i side call a w next m

    pacing_is : (end_at side next).path.pacing ≡ pacing_left window call met behind
    pacing_is = ap (λ (z : End). z.path.pacing) made

    was : (end_at side w).closing.state ≡ states.Open
    was = sym (reads_state (control_at side w) (heard_at side w) call (end_at side w)) ∙ was_open (policy_at side r.keys) met (given_by (other_side side) w) call a (sym (ap (λ (z : End). z.closing.state) made) ∙ still)

    -- whether it leads elsewhere
    changes : path_changes r side i ≡ has_moved met behind
    changes =
        changes_at r end honest run side i w next m.served m.leads leads
        ∙ ap (λ (z : End). has_moved (end_at side w) z) made
        ∙ ap (λ (g : ℕ). not (behind.path.generation == g)) (sym (reads_either (λ (z : End). z.path.generation ≡ (end_at side w).path.generation) (control_at side w) (heard_at side w) call (end_at side w) refl refl))

    view : (v : View) × (slice_get r.views i ≡ Some v)
    view = view_there r end run side i side call a w next m

    -- what the lists make of it otherwise
    stayed_is : stayed side i ≡ pacing_after (paces_by call r side i view.0) (pacer_at r side i)
    stayed_is =
        ap (λ (o : Option RunEvent). spent_by (paces_at o (slice_get r.views i) r side i) (pacer_at r side i)) m.at.event
        ∙ ap (λ (o : Option View). spent_by (paces_at (Some (record { side = side; call = call })) o r side i) (pacer_at r side i)) view.1
        ∙ ap (λ (b : Bool). spent_by (paces_in b call r side i view.0) (pacer_at r side i)) (own side)
        ∙ spent_same (paces_by call r side i view.0) (pacer_at r side i)
      where
        own : (s : Side) → same_side s s ≡ true
        own Client = refl
        own Server = refl

    -- where it doesn't
    here_next : has_moved met behind ≡ false → (end_at side next).path.pacing ≡ stayed side i
    here_next same = by_call call refl ∙ sym stayed_is
      where
        by_call : (c : Call) → call ≡ c → (end_at side next).path.pacing ≡ pacing_after (paces_by call r side i view.0) (pacer_at r side i)
        by_call (calls.Poll now) is =
            subst (λ (c : Call). (end_at side next).path.pacing ≡ pacing_after (paces_by c r side i view.0) (pacer_at r side i)) (sym is)
            (poll_spread i side now a w next (subst (λ (c : Call). IsMade r i side c a w next) is m) was apart view.0 leads view.1 still
            ∙ ap (λ (q : Pacing). pacing_after (paces_by (calls.Poll now) r side i view.0) q) (before was))
        by_call c is =
            pacing_is
            ∙ pacing_stays window call met behind same
            ∙ ap (λ (k : Call). (after_call (policy_at side r.keys) (reads_window (control_at side w) (heard_at side w) k (end_at side w)) (given_by (other_side side) w) k a).path.pacing) is
            ∙ pacer_stays (policy_at side r.keys) (end_at side w) (given_by (other_side side) w) c a refl
            ∙ before was
            ∙ sym (ap (λ (k : Call). pacing_after (paces_by k r side i view.0) (pacer_at r side i)) is)

    -- and where it does
    elsewhere_next : has_moved met behind ≡ true → (end_at side next).path.pacing ≡ pacer_anew r side (suc i)
    elsewhere_next moved =
        pacing_is
        ∙ pacing_anew window call met behind moved (delivers (is_delivery call) refl)
        ∙ ap (λ (q : Rtt). new_pacing (best_rtt q) window (current_mtu behind.path) behind.closing.clock) (sym rtt)
        ∙ ap (λ (n : ℕ). new_pacing (best_rtt (watch r side (suc i)).flight.rtt) n (current_mtu behind.path) behind.closing.clock) (sym window_seen)
        ∙ ap (λ (n : ℕ). new_pacing (best_rtt (watch r side (suc i)).flight.rtt) (seen_at r side (suc i)).window n behind.closing.clock) (sym size_seen)
        ∙ ap (λ (n : ℕ). new_pacing (best_rtt (watch r side (suc i)).flight.rtt) (seen_at r side (suc i)).window (seen_at r side (suc i)).current_mtu n) (sym clock)
        ∙ sym (full_same (best_rtt (watch r side (suc i)).flight.rtt) (seen_at r side (suc i)).window (seen_at r side (suc i)).current_mtu (watch r side (suc i)).clock)
      where
        delivers : (b : Bool) → is_delivery call ≡ b → is_delivery call ≡ true
        delivers true is = is
        delivers false is = absurd (both_ways (has_moved met behind) (ap not (eq-eqb behind.path.generation met.path.generation (apart_stays (policy_at side r.keys) met (given_by (other_side side) w) call a is))) moved)

        at : Placed Known r end side (suc i)
        at = placed Known known r end honest run side (suc i) m.served

        same : at.world ≡ next
        same = one_behind r (suc i) at.world next m.served at.leads leads

        flight : Waits (terms_of (end_at side r.start)) (watch r side (suc i)).clock (watch r side (suc i)).flight (held (end_at side next))
        flight =
            subst (λ (u : World). Waits (terms_of (end_at side r.start)) (watch r side (suc i)).clock (watch r side (suc i)).flight (held (end_at side u))) same
            (subst (λ (v : Watch). Waits (terms_of (end_at side r.start)) v.clock v.flight (held (end_at side at.world))) (sym (watch_is r honest at.world (suc i) side at.sents at.theirs))
            (at.gives.0.0.0.1.watched.flight (ap (λ (u : World). (end_at side u).closing.state) same ∙ still)))

        rtt : (watch r side (suc i)).flight.rtt ≡ behind.path.rtt
        rtt = flight.tells.rtt ∙ ap (λ (z : End). z.path.rtt) made

        clock : (watch r side (suc i)).clock ≡ behind.closing.clock
        clock = flight.tells.clock ∙ ap (λ (z : End). z.closing.clock) made

        seen_next : seen_at r side (suc i) ≡ seen_of side next
        seen_next = last_seen side r.keys (suc i) r.start next r.events r.answers r.views leads

        control : control_at side next ≡ after_told (control_at side w) (tells (policy_at side r.keys) met (given_by (other_side side) w) call)
        control = subst (λ (b : Bool). IsTold b (policy_at side r.keys) (control_at side w) (heard_at side w) (end_at side w) (given_by (other_side side) w) call (control_at side next)) (made_served r i side call a w next m) m.step.control

        window_seen : (seen_at r side (suc i)).window ≡ window
        window_seen = ap (λ (u : EndView). u.window) seen_next ∙ ap (λ (c : Control). c []) control ∙ ap (λ (ts : List Told). control_at side w ts) (append-nil (tells (policy_at side r.keys) met (given_by (other_side side) w) call))

        size_seen : (seen_at r side (suc i)).current_mtu ≡ current_mtu behind.path
        size_seen = ap (λ (u : EndView). u.current_mtu) seen_next ∙ ap (λ (z : End). current_mtu z.path) made

    own_next : (end_at side next).path.pacing ≡ pacer_at r side (suc i)
    own_next = go (has_moved met behind) refl
      where
        go : (b : Bool) → has_moved met behind ≡ b → (end_at side next).path.pacing ≡ pacer_at r side (suc i)
        go true is = elsewhere_next is ∙ ap (λ (b : Bool). if b then pacer_anew r side (suc i) else stayed side i) (sym (changes ∙ is))
        go false is = here_next is ∙ ap (λ (b : Bool). if b then pacer_anew r side (suc i) else stayed side i) (sym (changes ∙ is))

  -- a call of the other end
  other_next : (side : Side) (i : ℕ) (event : RunEvent) (a : Answer) (w next : World) → slice_get r.events i ≡ Some event → same_side event.side side ≡ false → IsStep r.keys w event a next → until r side (suc i) ≡ until r side i → Paced side i w → Paced side (suc i) next
  other_next side i event a w next at other step told before still =
      ap (λ (z : End). z.path.pacing) same ∙ before (sym (ap (λ (z : End). z.closing.state) same) ∙ still) ∙ sym unpaced ∙ ap (λ (b : Bool). if b then pacer_anew r side (suc i) else stayed side i) (sym stays)
    where
      same : end_at side next ≡ end_at side w
      same = (step_leaves side r.keys w next event a other step).end

      none : (o : Option View) → paces_at (Some event) o r side i ≡ []
      none None = refl
      none (Some v) = ap (λ (b : Bool). paces_in b event.call r side i v) other

      unpaced : stayed side i ≡ pacer_at r side i
      unpaced =
          ap (λ (o : Option RunEvent). spent_by (paces_at o (slice_get r.views i) r side i) (pacer_at r side i)) at
          ∙ ap (λ (ps : List pacer.Call). spent_by ps (pacer_at r side i)) (none (slice_get r.views i))

      stays : path_changes r side i ≡ false
      stays =
          ap (λ (ts : List runs.Told). has_changed (watch r side i) (folded (watch_told (lens_of r side)) ts (watch_from (end_at side r.start) (given_of r side)))) told
          ∙ ap not (eq-eqb (watch r side i).route.generation (watch r side i).route.generation refl)

  -- as the run begins
  begins_so : (side : Side) → first_pacer (end_at side r.start) ≡ (end_at side r.start).path.pacing
  begins_so side =
      let made = making_at side r.start honest.start in
      subst (λ (e : End). first_pacer e ≡ e.path.pacing) (sym (start_is r.start honest.start side)) (begun_same (transport_of made.settings) made.windows.initial (first_mtu (transport_of made.settings)) made.moment)

  at_place : (side : Side) (i : ℕ) (w : World) → SearchesApart r side → i ≤ length r.views → AreServed r i → LeadsTo r i w → Paced side i w
  at_place side i w apart = along r end run side (Paced side) (record {
    first = λ opened. sym (begins_so side);
    own = λ j call a v next m leads before still. own_next side j call a v next apart m leads before still;
    other = other_next side;
  }) i w

  -- ---- the clause

  -- what an end names in a poll is what the lists say that it names
  names_alike : (i : ℕ) (side : Side) (now : ℕ) (a : Answer) (v : View) (w next : World) → SearchesApart r side → IsMade r i side (calls.Poll now) a w next → slice_get r.views i ≡ Some v → (end_at side w).closing.state ≡ states.Open → pacer_names side w now ≡ named_at r side i now
  names_alike i side now a v w next apart m there opened =
      let e : End = with_shown (end_at side w) (shown_at side w) in
      sym (names_shown side w now)
      ∙ names e now
      ∙ ap (λ (q : Pacing). names_of q (ask e now)) (at_place side i w apart (stands_within r end run side i side (calls.Poll now) a w next m) (served_before r.answers i m.served) m.leads opened)
      ∙ sym (names_same (pacer_at r side i) (ask e now))
      ∙ ap (λ (x : Ask). names_for (pacer_at r side i) x) (sym (asked_alike r side i e now (knows i side now a w next m opened apart)))

  -- the timer in a view
  timer_shown : (i : ℕ) (side : Side) (v : View) (next : World) → LeadsTo r (suc i) next → slice_get r.views i ≡ Some v → pacing_timer v side ≡ Some (pacing_at side next)
  timer_shown i side v next leads there = ap (λ (ts : List (Option ℕ)). slice_get ts 6) (timers_behind r next i v side leads there)

  timer_before : (i : ℕ) (side : Side) (w : World) → LeadsTo r i w → slice_get (seen_at r side i).timers 6 ≡ Some (pacing_at side w)
  timer_before i side w leads = ap (λ (u : EndView). slice_get u.timers 6) (last_seen side r.keys i r.start w r.events r.answers r.views leads)

  -- a poll holds to the pacer
  module _ (i : ℕ) (side : Side) (now : ℕ) (a : Answer) (v : View) (w next : World) (apart : SearchesApart r side) (m : IsMade r i side (calls.Poll now) a w next) (leads : LeadsTo r (suc i) next) (there : slice_get r.views i ≡ Some v) (opened : (end_at side w).closing.state ≡ states.Open) where
    alike : pacer_names side w now ≡ named_at r side i now
    alike = names_alike i side now a v w next apart m there opened

    sets : (pacing_timer v side ≡ Some None) ⊎ (pacing_timer v side ≡ Some (named_at r side i now))
    sets = elim (pacer_sets_its_timer r i side (calls.Poll now) a w next m opened) [
      | inl none ↦ inl (timer_shown i side v next leads there ∙ ap (λ (o : Option ℕ). Some o) none)
      | inr set ↦ inr (timer_shown i side v next leads there ∙ ap (λ (o : Option ℕ). Some o) (set ∙ alike))
    ]

    lets : (gave : GaveAsking r side i now) → (watch r side i).flight.probes ≡ 0 → (named_at r side i now ≡ None) ⊎ IsSizeProbe r side i gave.one.sent
    lets gave none = elim (asking_goes_where_let r end honest run side i now gave none) [
      | inl let_so ↦ inl (sym alike ∙ let_so.unpaced w m.leads)
      | inr probe ↦ inr probe
    ]

    -- a timer that is set is set to what is named
    one_named : (moment : ℕ) → pacing_timer v side ≡ Some (Some moment) → (pacing_timer v side ≡ Some None) ⊎ (pacing_timer v side ≡ Some (named_at r side i now)) → named_at r side i now ≡ Some moment
    one_named moment shown (inl none) = (let clash : ◌≡◌ {A = Option (Option ℕ)} (Some None) (Some (Some moment)) = sym none ∙ shown in cc)
    one_named moment shown (inr set) = (let same : ◌≡◌ {A = Option (Option ℕ)} (Some (named_at r side i now)) (Some (Some moment)) = sym set ∙ shown in cc)

    waits : (id : ℕ) → GaveNothing r side i now v → IsToGo r side (suc i) id → IsFull r side (suc i) v ⊎ (((moment : ℕ) × (named_at r side i now ≡ Some moment) × (pacing_timer v side ≡ Some (Some moment))) ⊎ IsLimited r side (suc i) v)
    waits id gave to_go = go (polls_send_what_waits r end honest run quiet side i now id v m.served gave to_go)
      where
        go : IsHeldBack r side (suc i) v ⊎ IsLimited r side (suc i) v → IsFull r side (suc i) v ⊎ (((moment : ℕ) × (named_at r side i now ≡ Some moment) × (pacing_timer v side ≡ Some (Some moment))) ⊎ IsLimited r side (suc i) v)
        go (inl (inl full)) = inl full
        go (inl (inr paced)) = inr (inl (paced.moment, one_named paced.moment paced.shown sets, paced.shown))
        go (inr limited) = inr (inr limited)

    pub holds : HoldsToPacer r side i now v
    holds = record { sets = sets; lets = lets; waits = waits }

  -- any call does
  call_holds : (call : Call) (i : ℕ) (side : Side) (a : Answer) (v : View) (w next : World) → SearchesApart r side → IsMade r i side call a w next → LeadsTo r (suc i) next → slice_get r.views i ≡ Some v → (end_at side next).closing.state ≡ states.Open → HoldsBy call r side i v
  call_holds (calls.Poll now) i side a v w next apart m leads there still =
      holds i side now a v w next apart m leads there (was_open (policy_at side r.keys) (with_shown (end_at side w) (shown_at side w)) (given_by (other_side side) w) (calls.Poll now) a (sym (ap (λ (z : End). z.closing.state) (made_end r i side (calls.Poll now) a w next m)) ∙ still))
  call_holds call i side a v w next apart m leads there still =
      let opened : (end_at side w).closing.state ≡ states.Open = was_open (policy_at side r.keys) (end_at side w) (given_by (other_side side) w) call a (sym (ap (λ (z : End). z.closing.state) (made_end r i side call a w next m)) ∙ still) in
      elim (pacer_sets_its_timer r i side call a w next m opened) [
        | inl none ↦ inl (timer_shown i side v next leads there ∙ ap (λ (o : Option ℕ). Some o) none)
        | inr same ↦ inr (timer_shown i side v next leads there ∙ ap (λ (o : Option ℕ). Some o) same ∙ sym (timer_before i side w m.leads))
      ]

  pub holds_everywhere : PacerIsOfHistory r
  holds_everywhere side i call a v served at there still apart =
      let found : MadeAt r i side call a = made_at Known known r end honest run i side call a at served in
      call_holds call i side a v found.before found.behind apart found.made found.leads there (open_behind r found.behind i v side found.leads there still)

pub pacer_is_of_history : (r : Run) (end : World) → IsHonest r → IsRun r end → HaveHeardNothing r.start → PacerIsOfHistory r
pacer_is_of_history r end honest run quiet = holds_everywhere r end honest run quiet
