-- At each place of an honest run, what a controller was told so far is what may be told, by what
-- the observer of its end knows; and the window and the size that a view shows are those that the
-- controller shows, and was told last.
use Rattle.std.proofs.Common.{◌≡◌, ℕ, zero, suc, List, [], ◌∷◌, ◌++◌, ◌+◌, ◌≤◌, length, take, Bool, false, Option, Some, None, refl, sym, ap, ◌∙◌, subst, arith}
use Rattle.std.specs.Prelude.{if◌then◌else◌, slice_get, option_map}
use Rattle.std.proofs.lemmas.List.{append_assoc, append-nil}
use Rattle.std.proofs.lemmas.Option.{slice_get_within}
use Rattle.quic_wire_core.specs.declared.stream_id.Side.{Side}
use Rattle.quic_wire_core.specs.declared.stream_id.Side.TheVariants.{Client, Server}
use Rattle.quic_wire_core.specs.StreamId.{other_side}
use Rattle.quic_config.specs.declared.first_sample.FirstSample.{FirstSample}
use Rattle.quic_config.specs.Transport.{TransportSettings, parameters_of, estimate_with, first_behind_sample}
use Rattle.quic_congestion.specs.Congestion as congestion
use Rattle.quic_time.specs.Rtt.{Rtt}
use Rattle.quic_machine.specs.declared.answers.State.{State}
use Rattle.quic_machine.specs.declared.answers.State.TheVariants as states
use Rattle.quic_machine.specs.Policy.{Policy}
use Rattle.quic_machine.specs.declared.run.Call.{Call}
use Rattle.quic_machine.specs.declared.run.Call.TheVariants as calls
use Rattle.quic_machine.specs.declared.run.Answer.{Answer}
use Rattle.quic_machine.specs.declared.run.RunEvent.{RunEvent}
use Rattle.quic_machine.specs.declared.run.View.{View}
use Rattle.quic_machine.specs.End.{End}
use Rattle.quic_machine.specs.Control.{Control}
use Rattle.quic_machine.specs.Machine.{World, reads_window, end_at, control_at, policy_at, given_by, tells, fails, view_of, heard_at, says_last}
use Rattle.quic_machine.specs.RunLaws.{one_run, as_many_views}
use Rattle.quic_headline.specs.Runs.{Run, Told, same_side, given_of, told_by, until, state_at, folded, LeadsTo, AreServed}
use Rattle.quic_headline.specs.Observer.{Sent, Watch, Lens, watch_told, lens_of, watch_from, watch, next_number}
use Rattle.quic_headline.specs.Headline.{IsHonest, IsRun}
use Rattle.quic_headline.specs.Polls.{window_in, mtu_in, search_at, told_by_step, IsMade}
use Rattle.quic_headline.specs.Amounts.{making_at}
use Rattle.quic_headline.specs.AppLimited.{MayCount, CountsAt}
use Rattle.quic_headline.specs.Marking.{Marking, first_marking, marking_told, marking_behind, marking}
use Rattle.quic_headline.specs.Telling.{Judging, measured_first, first_behind, TellsCall, TellsCalls, shows_validated, MayTell, ControllersAreTold}
use Rattle.quic_machine.specs.Heard.{Heard}
use Rattle.quic_machine.specs.Arrival.{delivered_by}
use Rattle.quic_headline.proofs.Packets.Intakes.{folded_more}
use Rattle.quic_headline.proofs.Packets.Stays.{placed_call}
use Rattle.quic_headline.proofs.Packets.Group.{PacketsHold, meets}
use Rattle.quic_headline.proofs.Packets.Sight.{Sight}
use Rattle.quic_headline.proofs.Packets.Watching.{none_comes, told_own, untimely}
use Rattle.quic_headline.proofs.Places.Parties.{told_of, Party}
use Rattle.quic_headline.proofs.Places.Groups.{Way, Nothing, Group}
use Rattle.quic_headline.proofs.Places.Moments.{told_none, last_view}
use Rattle.quic_headline.proofs.Places.Placed.{start_is, party_at, Placed, placed, watch_is}
use Rattle.quic_headline.proofs.Places.Steps.{only_polls_give}
use Rattle.quic_headline.proofs.Held.Behind.{last_step, window_shown}
use Rattle.quic_headline.proofs.Timers.Quiet.{Unnamed}
use Rattle.quic_headline.proofs.Timers.Still.{was_open}
use Rattle.quic_headline.proofs.Steps.Made.{told_next, told_here, made_served, left_at, made_end, served_before, calling, call_holds}
use Rattle.quic_headline.proofs.Steps.Windows.{ShowsAfter, step_shows, first_lead}
use Rattle.quic_headline.proofs.Steps.Resized.{Tells, still, both, step_tells, size_there}
use Rattle.quic_headline.proofs.Sizes.Probed.{KnowsSearch}
use Rattle.quic_headline.proofs.Sizes.Moves.{did_there}
use Rattle.quic_headline.proofs.Marking.Judged.{IsMarked}
use Rattle.quic_headline.proofs.Tellings.Shown.{validated_there}
use Rattle.quic_headline.proofs.Tellings.Asked.{IsUnaskedIf, first_unasked, call_unasked}
use Rattle.quic_headline.proofs.Tellings.Acks.{IsSet}
use Rattle.quic_headline.proofs.Tellings.First.{Measured, call_measured, IsSetThere, delivered_set, IsFirst, first_measured, is_first}
use Rattle.quic_headline.proofs.Tellings.Calls.{quiet_call, timeout_told, poll_call, delivery_told}

-- ---- one call more

-- the number that went next as a round trip was first measured, behind calls
abbrev first_after : Lens → Option ℕ → Watch → List Told → Option ℕ
first_after l first w [] = first
first_after l first w (t ∷ ts) = first_after l (first_behind first (watch_told l t w)) (watch_told l t w) ts

-- and one more
first_more : (l : Lens) (first : Option ℕ) (w : Watch) (ts : List Told) (t : Told) → first_after l first w (ts ++ t ∷ []) ≡ first_behind (first_after l first w ts) (folded (watch_told l) (ts ++ t ∷ []) w)
first_more l first w [] t = refl
first_more l first w (u ∷ ts) t = first_more l (first_behind first (watch_told l u w)) (watch_told l u w) ts t

-- what calls tell, and one more, at which the end may count so
tells_more : (l : Lens) (c : TransportSettings) (validated : ℕ → Bool) (may : ℕ → Bool → Type 0) (n : ℕ) (first : Option ℕ) (w : Watch) (k : Marking) (ts : List Told) (t : Told) (told now : List congestion.Told) (limited : Bool) → TellsCalls l c validated may n first w k ts told
    → (t.state ≡ states.Open → (m : ℕ) → m ≡ n + length ts → may m limited) → ((m : ℕ) → m ≡ n + length ts → TellsCall l c (validated m) (first_after l first w ts) limited (folded (watch_told l) ts w) (marking_behind l ts w k) t now) → TellsCalls l c validated may n first w k (ts ++ t ∷ []) (told ++ now)
tells_more l c validated may n first w k [] t told now limited before so here = (limited, now, [], (λ opened. so opened n (omega arith)), here n (omega arith), refl, ap (λ (us : List congestion.Told). us ++ now) before ∙ sym (append-nil now))
tells_more l c validated may n first w k (u ∷ ts) t told now limited before so here = (
  before.0,
  before.1,
  before.2 ++ now,
  before.3,
  before.4,
  tells_more l c validated may (suc n) (first_behind first (watch_told l u w)) (watch_told l u w) (marking_told l u w k) ts t before.2 now limited before.5 (λ opened m is. so opened m (omega (arith, is))) (λ m is. here m (omega (arith, is))),
  ap (λ (us : List congestion.Told). us ++ now) before.6 ∙ append_assoc before.1 before.2 now,
)

-- a place has one before it
pub view_before : (i : ℕ) (views : List View) (v : View) → slice_get views (suc i) ≡ Some v → (u : View) × (slice_get views i ≡ Some u)
view_before i [] v there = cc
view_before zero (u ∷ views) v there = (u, refl)
view_before (suc i) (u ∷ views) v there = view_before i views v there

-- a poll that reads the window leaves the state, the settings, and what is measured
reads_same : (control : Control) (heard : Heard) (call : Call) (e : End) → ((reads_window control heard call e).closing.state ≡ e.closing.state) × ((reads_window control heard call e).transport ≡ e.transport) × Measured e.path (reads_window control heard call e).path
reads_same control heard (calls.Poll now) e = (refl, refl, (refl, refl))
reads_same control heard call e = (refl, refl, (refl, refl))

-- and what is asked
reads_unasked : (control : Control) (heard : Heard) (call : Call) (e : End) → IsUnaskedIf e → IsUnaskedIf (reads_window control heard call e)
reads_unasked control heard (calls.Poll now) e i = i
reads_unasked control heard call e i = i

-- where no sample was taken before, no round trip was measured
none_told : (o : Option FirstSample) (initial : ℕ) → option_map {U = ℕ} (λ s. 0) o ≡ None → (estimate_with o initial).smoothed ≡ None
none_told None initial is = refl
none_told (Some s) initial is = cc

module _ (G : Way) (g : Group Nothing G) (packets : (x y : Party) → G x y → PacketsHold x y) (sight : (x y : Party) → G x y → Sight x y) (search : (x y : Party) → G x y → KnowsSearch x y) (quiet : (x y : Party) → G x y → Unnamed x y)
    (r : Run) (end : World) (honest : IsHonest r) (run : IsRun r end)
    (counts : (i : ℕ) (side : Side) (w : World) → i ≤ length r.views → LeadsTo r i w → AreServed r i → (end_at side w).closing.state ≡ states.Open → MayCount r side i (end_at side w).path.app_limited)
    (marks : (i : ℕ) (side : Side) (w : World) → i ≤ length r.views → LeadsTo r i w → AreServed r i → (end_at side w).closing.state ≡ states.Open → IsMarked (marking r side i) (end_at side w)) where
  -- the settings of an end as the run began
  abbrev settings : Side → TransportSettings
  settings side = (end_at side r.start).transport

  -- the number that went next as a round trip was first measured, where one was before the run
  abbrev first_known : Side → Option ℕ
  first_known side = first_behind_sample (settings side)

  -- whether the address of its peer is seen to be validated before its call behind so many others
  abbrev validated : Side → ℕ → Bool
  validated side = shows_validated r side

  -- the number that went next as a round trip was first measured, by the first so many answers
  abbrev first_at : Side → ℕ → Option ℕ
  first_at side i = first_after (lens_of r side) (first_known side) (watch_from (end_at side r.start) (given_of r side)) (until r side i)

  -- ---- a call of an end

  module _ (i : ℕ) (side : Side) (a : Answer) (w next : World) (same : (end_at side w).transport ≡ settings side)
      (first : (end_at side w).closing.state ≡ states.Open → IsFirst (first_at side i) (end_at side w).path) (unasked : IsUnaskedIf (end_at side w)) (marked : (end_at side w).closing.state ≡ states.Open → IsMarked (marking r side i) (end_at side w)) where
    abbrev policy : Policy
    policy = policy_at side r.keys

    abbrev theirs : List (List ℕ)
    theirs = given_by (other_side side) w

    -- the end that is called
    abbrev met : Call → End
    met call = reads_window (control_at side w) (heard_at side w) call (end_at side w)

    -- what may be told by a call
    abbrev Told_by : Call → Type 0
    Told_by call = TellsCall (lens_of r side) (settings side) (end_at side w).path.validated (first_at side i) (end_at side w).path.app_limited (watch r side i) (marking r side i) (told_of call a (met call).closing.state) (tells policy (met call) theirs call)

    own_tells : (call : Call) → IsMade r i side call a w next → Told_by call
    own_tells (calls.Deliver delivery) m =
        let h = call_holds G g r end honest run i side (calls.Deliver delivery) a w next (λ id is. cc) tt m in
        let x : Party = calling r i w side (calls.Deliver delivery) h.sents in
        let y : Party = party_at r i w (other_side side) h.theirs in
        subst (λ (v : Watch). TellsCall (lens_of r side) (settings side) (end_at side w).path.validated (first_at side i) (end_at side w).path.app_limited v (marking r side i) (told_of (calls.Deliver delivery) a (end_at side w).closing.state) (tells policy (end_at side w) theirs (calls.Deliver delivery))) (sym h.seen)
        (delivery_told x y h.joined (meets y x (packets y x h.takes)) (sight x y h.gives) (search x y h.gives) (quiet x y h.gives) (packets x y h.gives).gives.next (end_at side w).path.validated (first_at side i) (end_at side w).path.app_limited refl same (λ opened. first_measured (first_at side i) (next_number x.sents) x.end.path (first opened)) unasked (marking r side i) marked (packets y x h.takes).alone delivery a m.step.answer (made_served r i side (calls.Deliver delivery) a w next m))
    own_tells (calls.Timeout now) m =
        let h = call_holds G g r end honest run i side (calls.Timeout now) a w next (λ id is. cc) tt m in
        let x : Party = calling r i w side (calls.Timeout now) h.sents in
        let y : Party = party_at r i w (other_side side) h.theirs in
        subst (λ (v : Watch). TellsCall (lens_of r side) (settings side) (end_at side w).path.validated (first_at side i) (end_at side w).path.app_limited v (marking r side i) (told_of (calls.Timeout now) a (end_at side w).closing.state) (tells policy (end_at side w) theirs (calls.Timeout now))) (sym h.seen)
        (timeout_told x y h.joined (meets y x (packets y x h.takes)) (sight x y h.gives) (search x y h.gives) (quiet x y h.gives) (packets x y h.gives).gives.next (end_at side w).path.validated (first_at side i) (end_at side w).path.app_limited refl same (λ opened. first_measured (first_at side i) (next_number x.sents) x.end.path (first opened)) unasked (marking r side i) marked now a m.step.answer)
    own_tells (calls.Poll now) m =
        let h = call_holds G g r end honest run i side (calls.Poll now) a w next (λ id is. cc) tt m in
        let x : Party = calling r i w side (calls.Poll now) h.sents in
        let y : Party = party_at r i w (other_side side) h.theirs in
        subst (λ (v : Watch). TellsCall (lens_of r side) (settings side) (end_at side w).path.validated (first_at side i) (end_at side w).path.app_limited v (marking r side i) (told_of (calls.Poll now) a (met (calls.Poll now)).closing.state) (tells policy (met (calls.Poll now)) theirs (calls.Poll now))) (sym h.seen)
        (poll_call x y h.joined (meets y x (packets y x h.takes)) (sight x y h.gives) (search x y h.gives) (quiet x y h.gives) (packets x y h.gives).gives.next (end_at side w).path.validated (first_at side i) (end_at side w).path.app_limited refl same (λ opened. first_measured (first_at side i) (next_number x.sents) x.end.path (record { is = (first opened).is; none = (first opened).none })) unasked (marking r side i) marked (packets x y h.gives).owes now a m.step.answer (made_served r i side (calls.Poll now) a w next m) (sight _ y h.behind).own)
    own_tells call m =
        let t : Told = told_of call a (end_at side w).closing.state in
        quiet_call (lens_of r side) (settings side) (end_at side w).path.validated (first_at side i) (end_at side w).path.app_limited (watch r side i) (marking r side i) t (none_comes (lens_of r side) t (watch r side i).intake refl) (untimely t.state call refl) (only_polls_give policy (end_at side w) theirs call a refl m.step.answer)

  -- ---- what is measured

  -- what is told at an end by one call more
  told_grown : (i : ℕ) (side by : Side) (call : Call) (a : Answer) (w next : World) → IsMade r i by call a w next → until r side (suc i) ≡ until r side i ++ told_by side (state_at r side i) (record { side = by; call = call }) a
  told_grown i side by call a w next m =
      told_next side (end_at side r.start).closing.state i r.events r.answers r.views (record { side = by; call = call }) a m.at.event m.at.answer (as_many_views r.keys r.start end r.events r.answers r.views run.follows)

  -- a call of the other end
  other_first : (i : ℕ) (side by : Side) (call : Call) (a : Answer) (w next : World) → IsMade r i by call a w next → same_side by side ≡ false → first_at side (suc i) ≡ first_at side i
  other_first i side by call a w next m other =
      ap (λ (ts : List Told). first_after (lens_of r side) (first_known side) (watch_from (end_at side r.start) (given_of r side)) ts)
      (told_grown i side by call a w next m ∙ ap (λ (b : Bool). until r side i ++ (if b then told_of call a (state_at r side i) ∷ [] else [])) other ∙ append-nil (until r side i))

  -- a call of its own
  module _ (i : ℕ) (side : Side) (call : Call) (a : Answer) (w next : World) (m : IsMade r i side call a w next) (leads : LeadsTo r (suc i) next) (same : (end_at side w).transport ≡ settings side)
      (known : (end_at side w).closing.state ≡ states.Open → IsFirst (first_at side i) (end_at side w).path) (opened : (end_at side next).closing.state ≡ states.Open) where
    abbrev l : Lens
    l = lens_of r side

    abbrev begins : Watch
    begins = watch_from (end_at side r.start) (given_of r side)

    abbrev t : Told
    t = told_of call a (state_at r side i)

    abbrev e : End
    e = end_at side w

    abbrev left : End
    left = end_at side next

    grown : until r side (suc i) ≡ until r side i ++ t ∷ []
    grown = told_grown i side side call a w next m ∙ ap (λ (ts : List Told). until r side i ++ ts) (told_here side (state_at r side i) call a)

    watch_behind : watch r side (suc i) ≡ watch_told l t (watch r side i)
    watch_behind = ap (λ (ts : List Told). folded (watch_told l) ts begins) grown ∙ folded_more (watch_told l) (until r side i) t begins

    after : Placed G r end side (suc i)
    after = placed G g r end honest run side (suc i) m.served

    -- the observer knows how long a round trip takes
    rtt_is : (watch r side (suc i)).flight.rtt ≡ left.path.rtt
    rtt_is =
        let x : Party = party_at r (suc i) after.world side after.sents in
        let y : Party = party_at r (suc i) after.world (other_side side) after.theirs in
        let is : after.world ≡ next = (one_run r.keys (take (suc i) r.answers) r.start (take (suc i) r.events) (take (suc i) r.views) (take (suc i) r.views) after.world next m.served after.leads leads).1 in
        ap (λ (v : Watch). v.flight.rtt) (watch_is r honest after.world (suc i) side after.sents after.theirs)
        ∙ ((sight x y after.gives).watched.flight (ap (λ (v : World). (end_at side v).closing.state) is ∙ opened)).tells.rtt
        ∙ ap (λ (v : World). (end_at side v).path.rtt) is

    at : Placed G r end side i
    at = placed G g r end honest run side i (served_before r.answers i m.served)

    here : at.world ≡ w
    here = (one_run r.keys (take i r.answers) r.start (take i r.events) (take i r.views) (take i r.views) at.world w (served_before r.answers i m.served) at.leads m.leads).1

    -- it was open before
    was : e.closing.state ≡ states.Open
    was =
        let read : End = reads_window (control_at side w) (heard_at side w) call e in
        sym (reads_same (control_at side w) (heard_at side w) call e).0 ∙ was_open (policy_at side r.keys) read (given_by (other_side side) w) call a (sym (ap (λ (z : End). z.closing.state) (made_end r i side call a w next m)) ∙ opened)

    -- by what its losses are judged
    abbrev judged : Judging
    judged = record { terms = l.terms; settings = settings side; validated = e.path.validated; generation = (watch r side i).route.generation; next = next_number (watch r side i).own; first = first_at side i; limited = e.path.app_limited }

    set : IsSet judged e
    set =
        let x : Party = party_at r i at.world side at.sents in
        let y : Party = party_at r i at.world (other_side side) at.theirs in
        let own : (watch r side i).own ≡ at.sents = ap (λ (v : Watch). v.own) (watch_is r honest at.world i side at.sents at.theirs) ∙ (sight x y at.gives).own in
        record {
          path = sym (ap (λ (v : World). (end_at side v).path.generation) here) ∙ (sight x y at.gives).watched.path ∙ ap (λ (v : Watch). v.route.generation) (sym (watch_is r honest at.world i side at.sents at.theirs));
          settings = same;
          next = sym (ap (λ (v : World). (end_at side v).numbers.next) here) ∙ (packets x y at.gives).gives.next ∙ ap next_number (sym own);
          measured = first_measured (first_at side i) (next_number (watch r side i).own) e.path (known was);
          limited = refl;
        }

    set_there : IsSetThere judged e
    set_there = record { path = refl; settings = set.settings; next = set.next; measured = set.measured; limited = set.limited }

    -- what the end measured behind the call
    abbrev Measures : Call → Type 0
    Measures call = left.path.first_after_rtt ≡ measured_first (first_at side i) (next_number (watch r side (suc i)).own) left.path.rtt.smoothed

    measures : (call : Call) → IsMade r i side call a w next → watch r side (suc i) ≡ watch_told l (told_of call a (state_at r side i)) (watch r side i) → Measures call
    measures (calls.Deliver delivery) m seen =
        let p : Policy = policy_at side r.keys in
        let theirs : List (List ℕ) = given_by (other_side side) w in
        let made : left ≡ left_at r side w (calls.Deliver delivery) a = made_end r i side (calls.Deliver delivery) a w next m in
        let own : (watch r side (suc i)).own ≡ (watch r side i).own = ap (λ (v : Watch). v.own) seen ∙ told_own l (told_of (calls.Deliver delivery) a (state_at r side i)) (watch r side i) (only_polls_give p e theirs (calls.Deliver delivery) a refl m.step.answer) in
        let behind : IsSetThere judged left = subst (λ (z : End). IsSetThere judged z) (sym made) (delivered_set judged p e (delivered_by (says_last a) delivery) (slice_get theirs delivery.index) set_there) in
        behind.measured ∙ ap (λ (ss : List Sent). measured_first (first_at side i) (next_number ss) left.path.rtt.smoothed) (sym own)
    measures call m seen =
        let p : Policy = policy_at side r.keys in
        let read : End = reads_window (control_at side w) (heard_at side w) call e in
        let made : left ≡ left_at r side w call a = made_end r i side call a w next m in
        let kept = call_measured p read (given_by (other_side side) w) call a refl in
        let reads = (reads_same (control_at side w) (heard_at side w) call e).2 in
        ap (λ (z : End). z.path.first_after_rtt) made
        ∙ kept.0
        ∙ reads.0
        ∙ first_measured (first_at side i) (next_number (watch r side (suc i)).own) e.path (known was)
        ∙ ap (λ (x : Rtt). measured_first (first_at side i) (next_number (watch r side (suc i)).own) x.smoothed) (sym (ap (λ (z : End). z.path.rtt) made ∙ kept.1 ∙ reads.1))

    pub own_first : IsFirst (first_at side (suc i)) left.path
    own_first =
        let next_seen : ℕ = next_number (watch r side (suc i)).own in
        let is : first_at side (suc i) ≡ measured_first (first_at side i) next_seen left.path.rtt.smoothed =
        subst (λ (ts : List Told). first_after l (first_known side) begins ts ≡ first_behind (first_at side i) (folded (watch_told l) ts begins)) (sym grown) (first_more l (first_known side) begins (until r side i) t)
        ∙ ap (λ (x : Rtt). measured_first (first_at side i) next_seen x.smoothed) rtt_is in
        subst (λ (o : Option ℕ). IsFirst o left.path) (sym is) (is_first (first_at side i) next_seen left.path (measures call m watch_behind))

  -- ---- over the run

  -- What a controller was told so far, and shows then, and the settings of its end.
  record Was (side : Side) (i : ℕ) (w : World) : Type 0 where
    told : List congestion.Told
    may : MayTell r side i told
    shows : ShowsAfter side r.start w told
    sized : Tells (search_at side r.start) told (search_at side w)
    same : (end_at side w).transport ≡ settings side
    first : (end_at side w).closing.state ≡ states.Open → IsFirst (first_at side i) (end_at side w).path
    unasked : IsUnaskedIf (end_at side w)

  -- before the first event
  at_first : (side : Side) (w : World) → w ≡ r.start → Was side zero w
  at_first side w is = subst (λ (v : World). Was side zero v) (sym is) (record {
    told = [];
    may = subst (λ (ts : List Told). TellsCalls (lens_of r side) (settings side) (validated side) (CountsAt r side) 0 (first_known side) (watch_from (end_at side r.start) (given_of r side)) first_marking ts []) (sym (told_none side r.events r.views (end_at side r.start).closing.state)) refl;
    shows = λ more. refl;
    sized = still (search_at side r.start) [] tt;
    same = refl;
    first = λ opened. at_start;
    unasked = asks_nothing;
  })
    where
      known : first_at side zero ≡ first_known side
      known = ap (λ (ts : List Told). first_after (lens_of r side) (first_known side) (watch_from (end_at side r.start) (given_of r side)) ts) (told_none side r.events r.views (end_at side r.start).closing.state)

      asks_nothing : IsUnaskedIf (end_at side r.start)
      asks_nothing =
          let s = honest.start in
          let m = making_at side r.start s in
          let other = making_at (other_side side) r.start s in
          subst IsUnaskedIf (sym (start_is r.start s side)) (first_unasked side m.settings m.windows (parameters_of other.settings) m.id other.id m.remote m.moment m.validated m.words)

      at_start : IsFirst (first_at side zero) (end_at side r.start).path
      at_start =
          let made = start_is r.start honest.start side in
          let m = making_at side r.start honest.start in
          let begins = known ∙ ap (λ (e : End). first_behind_sample e.transport) made in
          record { is = ap (λ (e : End). e.path.first_after_rtt) made ∙ sym begins; none = λ is. ap (λ (e : End). e.path.rtt.smoothed) made ∙ none_told m.settings.first_sample m.settings.initial_rtt (sym begins ∙ is) }

  -- one call more, at either end
  at_next : (side by : Side) (call : Call) (a : Answer) (i : ℕ) (w next : World) → IsMade r i by call a w next → LeadsTo r (suc i) next → Was side i w → Was side (suc i) next
  at_next side by call a i w next m leads b = record {
    told = b.told ++ now;
    may = may;
    shows = λ more. step_shows side r.keys w next event a served m.step more ∙ b.shows (now ++ more) ∙ ap (λ (ts : List congestion.Told). control_at side r.start ts) (sym (append_assoc b.told now more));
    sized = both (search_at side r.start) (search_at side w) (search_at side next) b.told now b.sized (step_tells side r.keys w next event a served m.step);
    same = stays side by call m ∙ b.same;
    first = first side by call m b.same b.first;
    unasked = unasked side by call m b.unasked;
  }
    where
      event : RunEvent
      event = record { side = by; call = call }

      served : fails a ≡ false
      served = made_served r i by call a w next m

      now : List congestion.Told
      now = told_by_step side r.keys w event

      at : Placed G r end side i
      at = placed G g r end honest run side i (served_before r.answers i m.served)

      -- the state of the end there
      state : state_at r side i ≡ (end_at side w).closing.state
      state = sym at.state ∙ ap (λ (v : World). (end_at side v).closing.state) (one_run r.keys (take i r.answers) r.start (take i r.events) (take i r.views) (take i r.views) at.world w (served_before r.answers i m.served) at.leads m.leads).1

      more : until r side (suc i) ≡ until r side i ++ told_by side (state_at r side i) event a
      more = told_grown i side by call a w next m

      stays : (side by : Side) (call : Call) → IsMade r i by call a w next → (end_at side next).transport ≡ (end_at side w).transport
      stays Client Client call m =
          ap (λ (e : End). e.transport) (made_end r i Client call a w next m) ∙ (placed_call (policy_at Client r.keys) (reads_window (control_at Client w) (heard_at Client w) call (end_at Client w)) (given_by Server w) call a).transport ∙ (reads_same (control_at Client w) (heard_at Client w) call (end_at Client w)).1
      stays Server Server call m =
          ap (λ (e : End). e.transport) (made_end r i Server call a w next m) ∙ (placed_call (policy_at Server r.keys) (reads_window (control_at Server w) (heard_at Server w) call (end_at Server w)) (given_by Client w) call a).transport ∙ (reads_same (control_at Server w) (heard_at Server w) call (end_at Server w)).1
      stays Client Server call m = ap (λ (v : World). v.client.transport) m.step.others
      stays Server Client call m = ap (λ (v : World). v.server.transport) m.step.others

      own_unasked : (side : Side) (call : Call) → IsMade r i side call a w next → IsUnaskedIf (end_at side w) → IsUnaskedIf (end_at side next)
      own_unasked side call m asks =
          subst IsUnaskedIf (sym (made_end r i side call a w next m))
          (call_unasked (policy_at side r.keys) (reads_window (control_at side w) (heard_at side w) call (end_at side w)) (given_by (other_side side) w) call a (reads_unasked (control_at side w) (heard_at side w) call (end_at side w) asks))

      unasked : (side by : Side) (call : Call) → IsMade r i by call a w next → IsUnaskedIf (end_at side w) → IsUnaskedIf (end_at side next)
      unasked Client Client call m asks = own_unasked Client call m asks
      unasked Server Server call m asks = own_unasked Server call m asks
      unasked Client Server call m asks = subst (λ (v : World). IsUnaskedIf v.client) (sym m.step.others) asks
      unasked Server Client call m asks = subst (λ (v : World). IsUnaskedIf v.server) (sym m.step.others) asks

      first : (side by : Side) (call : Call) → IsMade r i by call a w next → (end_at side w).transport ≡ settings side → ((end_at side w).closing.state ≡ states.Open → IsFirst (first_at side i) (end_at side w).path)
          → (end_at side next).closing.state ≡ states.Open → IsFirst (first_at side (suc i)) (end_at side next).path
      first Client Client call m same known opened = own_first i Client call a w next m leads same known opened
      first Server Server call m same known opened = own_first i Server call a w next m leads same known opened
      first Client Server call m same known opened =
          subst (λ (o : Option ℕ). IsFirst o (end_at Client next).path) (sym (other_first i Client Server call a w next m refl))
          (subst (λ (v : World). IsFirst (first_at Client i) v.client.path) (sym m.step.others) (known (sym (ap (λ (v : World). v.client.closing.state) m.step.others) ∙ opened)))
      first Server Client call m same known opened =
          subst (λ (o : Option ℕ). IsFirst o (end_at Server next).path) (sym (other_first i Server Client call a w next m refl))
          (subst (λ (v : World). IsFirst (first_at Server i) v.server.path) (sym m.step.others) (known (sym (ap (λ (v : World). v.server.closing.state) m.step.others) ∙ opened)))

      may : MayTell r side (suc i) (b.told ++ now)
      may = subst (λ (ts : List Told). TellsCalls (lens_of r side) (settings side) (validated side) (CountsAt r side) 0 (first_known side) (watch_from (end_at side r.start) (given_of r side)) first_marking ts (b.told ++ now)) (sym more) (go side by call m b.told b.may b.same b.first b.unasked state)
        where
          -- its own call
          mine : (side : Side) (call : Call) → IsMade r i side call a w next → (told : List congestion.Told) → MayTell r side i told → (end_at side w).transport ≡ settings side → ((end_at side w).closing.state ≡ states.Open → IsFirst (first_at side i) (end_at side w).path) → IsUnaskedIf (end_at side w) → state_at r side i ≡ (end_at side w).closing.state
              → TellsCalls (lens_of r side) (settings side) (validated side) (CountsAt r side) 0 (first_known side) (watch_from (end_at side r.start) (given_of r side)) first_marking (until r side i ++ told_of call a (state_at r side i) ∷ []) (told ++ tells (policy_at side r.keys) (reads_window (control_at side w) (heard_at side w) call (end_at side w)) (given_by (other_side side) w) call)
          mine side call m told may same first asks state =
              let place = slice_get_within r.answers i a m.at.answer in
              let many = as_many_views r.keys r.start end r.events r.answers r.views run.follows in
              let within : i ≤ length r.views = omega (arith, place, many) in
              let met : End = reads_window (control_at side w) (heard_at side w) call (end_at side w) in
              let said : List congestion.Told = tells (policy_at side r.keys) met (given_by (other_side side) w) call in
              subst (λ (s : State). TellsCalls (lens_of r side) (settings side) (validated side) (CountsAt r side) 0 (first_known side) (watch_from (end_at side r.start) (given_of r side)) first_marking (until r side i ++ told_of call a s ∷ []) (told ++ said)) ((reads_same (control_at side w) (heard_at side w) call (end_at side w)).0 ∙ sym state)
              (tells_more (lens_of r side) (settings side) (validated side) (CountsAt r side) 0 (first_known side) (watch_from (end_at side r.start) (given_of r side)) first_marking (until r side i) (told_of call a met.closing.state) told said (end_at side w).path.app_limited may
              (λ opened n is. record { place = i; as_many = omega (arith, is); counts = counts i side w within m.leads (served_before r.answers i m.served) (sym (reads_same (control_at side w) (heard_at side w) call (end_at side w)).0 ∙ opened) })
              (λ n is. subst (λ (b : Bool). TellsCall (lens_of r side) (settings side) b (first_at side i) (end_at side w).path.app_limited (watch r side i) (marking r side i) (told_of call a met.closing.state) said) (validated_there r end run side i call a w next m n (omega (arith, is))) (own_tells i side a w next same first asks (marks i side w within m.leads (served_before r.answers i m.served)) call m)))

          -- a call of the other end
          theirs : (side : Side) (told : List congestion.Told) → MayTell r side i told → TellsCalls (lens_of r side) (settings side) (validated side) (CountsAt r side) 0 (first_known side) (watch_from (end_at side r.start) (given_of r side)) first_marking (until r side i ++ []) (told ++ [])
          theirs side told may =
              subst (λ (ts : List Told). TellsCalls (lens_of r side) (settings side) (validated side) (CountsAt r side) 0 (first_known side) (watch_from (end_at side r.start) (given_of r side)) first_marking ts (told ++ [])) (sym (append-nil (until r side i)))
              (subst (λ (us : List congestion.Told). MayTell r side i us) (sym (append-nil told)) may)

          go : (side by : Side) (call : Call) → IsMade r i by call a w next → (told : List congestion.Told) → MayTell r side i told → (end_at side w).transport ≡ settings side → ((end_at side w).closing.state ≡ states.Open → IsFirst (first_at side i) (end_at side w).path) → IsUnaskedIf (end_at side w) → state_at r side i ≡ (end_at side w).closing.state
              → TellsCalls (lens_of r side) (settings side) (validated side) (CountsAt r side) 0 (first_known side) (watch_from (end_at side r.start) (given_of r side)) first_marking (until r side i ++ told_by side (state_at r side i) (record { side = by; call = call }) a) (told ++ told_by_step side r.keys w (record { side = by; call = call }))
          go Client Client call m told may same first asks state = mine Client call m told may same first asks state
          go Server Server call m told may same first asks state = mine Server call m told may same first asks state
          go Client Server call m told may same first asks state = theirs Client told may
          go Server Client call m told may same first asks state = theirs Server told may

  -- behind a view, where it is so before it
  behind : (i : ℕ) (side : Side) (v : View) (w : World) → AreServed r (suc i) → slice_get r.views i ≡ Some v → LeadsTo r (suc i) w → ((u : World) → LeadsTo r i u → Was side i u) → Was side (suc i) w
  behind i side v w served there leads before =
      let did = did_there i r.keys r.start end r.events r.answers r.views v run.follows there in
      let last = last_step r.keys i r.start w r.events r.answers r.views did.event did.answer did.at_event did.at_answer leads in
      at_next side did.event.side did.event.call did.answer i last.before w (record { at = record { event = did.at_event; answer = did.at_answer }; leads = last.leads; step = last.step; served = served }) leads (before last.before last.leads)

  -- so it is at each place behind a view
  at_place : (i : ℕ) (side : Side) (v : View) (w : World) → AreServed r (suc i) → slice_get r.views i ≡ Some v → LeadsTo r (suc i) w → Was side (suc i) w
  at_place zero side v w served there leads = behind zero side v w served there leads (λ u first. at_first side u first)
  at_place (suc i) side v w served there leads =
      let before = view_before i r.views v there in
      behind (suc i) side v w served there leads (λ u leads_there. at_place i side before.0 u (served_before r.answers (suc i) served) before.1 leads_there)

  -- the clause
  pub controllers_are_told : ControllersAreTold r
  controllers_are_told side i v served there =
      let lead = first_lead (suc i) r.keys r.start r.events r.answers r.views end run.follows in
      let w : World = lead.0 in
      let b = at_place i side v w served there lead.1 in
      let seen : v ≡ view_of w = last_view r.keys i r.start w r.events r.answers r.views v lead.1 there in (
        b.told,
        b.may,
        ap (λ (u : View). window_in u side) seen ∙ window_shown side w ∙ b.shows [] ∙ ap (λ (ts : List congestion.Told). control_at side r.start ts) (append-nil b.told),
        ap (λ (u : View). mtu_in u side) seen ∙ size_there side w ∙ b.sized.size,
      )
