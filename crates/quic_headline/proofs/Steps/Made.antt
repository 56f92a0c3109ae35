-- A call of a run: the end that it leaves, what is told of it, and what its end sent.
use Rattle.std.proofs.Common.{◌≡◌, ℕ, zero, suc, List, [], ◌∷◌, ◌++◌, take, drop, length, Bool, false, Some, refl, sym, ap, ◌∙◌, subst, arith}
use Rattle.std.specs.Prelude.{slice_get}
use Rattle.std.specs.List.{list_any}
use Rattle.std.proofs.lemmas.Bool.{or_parts, or_from}
use Rattle.std.proofs.lemmas.List.{append_assoc, append-nil}
use Rattle.quic_wire_core.specs.declared.stream_id.Side.{Side}
use Rattle.quic_wire_core.specs.declared.stream_id.Side.TheVariants.{Client, Server}
use Rattle.quic_wire_core.specs.StreamId.{other_side}
use Rattle.quic_machine.specs.declared.answers.State.{State}
use Rattle.quic_machine.specs.declared.run.RunEvent.{RunEvent}
use Rattle.quic_machine.specs.declared.run.Call.{Call}
use Rattle.quic_machine.specs.declared.run.Call.TheVariants as calls
use Rattle.quic_machine.specs.declared.run.Answer.{Answer}
use Rattle.quic_machine.specs.declared.run.View.{View}
use Rattle.quic_machine.specs.End.{End, with_window}
use Rattle.quic_machine.specs.Control.{Control}
use Rattle.quic_machine.specs.Machine.{World, Policies, IsLeft, IsStep, reads_window, end_left, gives, end_at, control_at, heard_at, given_by, policy_at, changed, fails, Follows}
use Rattle.quic_machine.specs.RunLaws.{one_world, one_run, as_many_views}
use Rattle.quic_headline.specs.Runs.{Run, Told, In, given_of, told_by, told_at, until, ids_of, state_in, state_behind, state_at, AreServed, LeadsTo, folded}
use Rattle.quic_headline.specs.Observer.{Sent, Watch, first_watch, watch_told, watch, sents_until}
use Rattle.quic_headline.specs.Headline.{IsHonest, IsRun, IsAt, used, CodeIsSmall}
use Rattle.quic_headline.specs.Polls.{IsMade}
use Rattle.quic_machine.specs.Heard.{Heard}
use Rattle.quic_machine.specs.Validation.{with_blocked, is_blocked}
use Rattle.quic_headline.proofs.Packets.Group.{PacketsHold}
use Rattle.quic_headline.proofs.Packets.Sight.{Sight}
use Rattle.quic_headline.proofs.Places.Parties.{sents_by, told_of, Party, called, showing, lens, watch_of, AreJoined, shown_at, shown_by}
use Rattle.quic_headline.proofs.Places.Groups.{Way, Nothing, And, Calls, Group}
use Rattle.quic_headline.proofs.Places.Moments.{Grown, grown, told_none}
use Rattle.quic_headline.proofs.Places.Placed.{party_at, Placed, placed, first_left, watch_is}
use Rattle.quic_headline.proofs.Timers.Watched.{Observed}
use Rattle.quic_headline.proofs.Held.Behind.{last_step}

-- ---- the answers of a run

-- where the first so many were served, the last of them was
pub served_at : (answers : List Answer) (i : ℕ) (a : Answer) → list_any fails (take (suc i) answers) ≡ false → slice_get answers i ≡ Some a → fails a ≡ false
served_at [] i a served is = cc
served_at (b ∷ answers) zero a served is = let same : b ≡ a = cc in ap fails (sym same) ∙ (or_parts (fails b) false served).0
served_at (b ∷ answers) (suc i) a served is = served_at answers i a (or_parts (fails b) (list_any fails (take (suc i) answers)) served).1 is

-- and so were those before it
pub served_before : (answers : List Answer) (i : ℕ) → list_any fails (take (suc i) answers) ≡ false → list_any fails (take i answers) ≡ false
served_before answers zero served = refl
served_before [] (suc i) served = refl
served_before (b ∷ answers) (suc i) served =
    let both = or_parts (fails b) (list_any fails (take (suc i) answers)) served in
    or_from (fails b) (list_any fails (take i answers)) both.0 (served_before answers i both.1)

-- ---- what is told

-- what one more answer tells
pub told_next : (side : Side) (state : State) (i : ℕ) (events : List RunEvent) (answers : List Answer) (views : List View) (event : RunEvent) (a : Answer) → slice_get events i ≡ Some event → slice_get answers i ≡ Some a → length views ≡ length answers
    → told_at side state events (take (suc i) answers) views ≡ told_at side state events (take i answers) views ++ told_by side (state_behind side state i views) event a
told_next side state i [] answers views event a at_event at_answer many = cc
told_next side state i (e ∷ events) [] views event a at_event at_answer many = cc
told_next side state i (e ∷ events) (b ∷ answers) [] event a at_event at_answer many = absurd (omega arith)
told_next side state zero (e ∷ events) (b ∷ answers) (v ∷ views) event a at_event at_answer many =
    let one : e ≡ event = cc in
    let other : b ≡ a = cc in
    ap (λ (ts : List Told). told_by side state e b ++ ts) (told_none side events views (state_in v side))
    ∙ append-nil (told_by side state e b)
    ∙ ap (λ (f : RunEvent). told_by side state f b) one
    ∙ ap (λ (c : Answer). told_by side state event c) other
told_next side state (suc i) (e ∷ events) (b ∷ answers) (v ∷ views) event a at_event at_answer many =
    ap (λ (ts : List Told). told_by side state e b ++ ts) (told_next side (state_in v side) i events answers views event a at_event at_answer (omega arith))
    ∙ sym (append_assoc (told_by side state e b) (told_at side (state_in v side) events (take i answers) views) (told_by side (state_behind side (state_in v side) i views) event a))

-- a call at an end tells this there
pub told_here : (side : Side) (state : State) (call : Call) (a : Answer) → told_by side state (record { side = side; call = call }) a ≡ told_of call a state ∷ []
told_here Client state call a = refl
told_here Server state call a = refl

-- ---- what was given

-- what a step gives goes behind what was given
gave_more : (side : Side) (w next : World) (ds : List (List ℕ)) → next ≡ changed side w (end_at side next) ds (control_at side next) (heard_at side next) → given_by side next ≡ given_by side w ++ ds
gave_more Client w next ds is = ap (λ (v : World). v.from_client) is
gave_more Server w next ds is = ap (λ (v : World). v.from_server) is

-- what one of the ends gave is the first of all that it gives
grown_at : (side : Side) (w end : World) → Grown w end → (rest : List (List ℕ)) × (given_by side w ++ rest ≡ given_by side end)
grown_at Client w end g = g.client
grown_at Server w end g = g.server

-- which is what the run says
gives_all : (side : Side) (r : Run) (end : World) → IsRun r end → given_of r side ≡ given_by side end
gives_all Client r end run = run.from_client
gives_all Server r end run = run.from_server

-- ---- a call

-- the end that it leaves: behind a delivery the pacer of another path is made anew
abbrev pub left_at : Run → Side → World → Call → Answer → End
left_at r side w call a = end_left (policy_at side r.keys) (control_at side w) (heard_at side w) (end_at side w) (given_by (other_side side) w) call a

module _ (r : Run) (i : ℕ) (side : Side) (call : Call) (a : Answer) (w next : World) (m : IsMade r i side call a w next) where
  -- it was served
  pub made_served : fails a ≡ false
  made_served = served_at r.answers i a m.served m.at.answer

  -- the end as it leaves it
  pub made_end : end_at side next ≡ left_at r side w call a
  made_end = subst (λ (b : Bool). IsLeft b (policy_at side r.keys) (control_at side w) (heard_at side w) (end_at side w) (given_by (other_side side) w) call a (end_at side next)) made_served m.step.end

-- ---- a call and what holds at it

-- one end at a place where it is called: a poll reads which window its controller shows
abbrev pub calling : Run → ℕ → World → Side → Call → List Sent → Party
calling r i w side call sents = record (party_at r i w side sents) { end = reads_window (control_at side w) (heard_at side w) call (end_at side w) }

-- A group at a place where an end is called, and behind the call.
pub record CallHolds (G : Way) (r : Run) (i : ℕ) (side : Side) (call : Call) (a : Answer) (w : World) : Type 0 where
  pub sents : List Sent
  pub theirs : List Sent
  pub joined : AreJoined (calling r i w side call sents) (party_at r i w (other_side side) theirs)
  pub gives : G (calling r i w side call sents) (party_at r i w (other_side side) theirs)
  pub takes : G (party_at r i w (other_side side) theirs) (calling r i w side call sents)
  pub behind : G (called (calling r i w side call sents) (given_by (other_side side) w) call a) (party_at r i w (other_side side) theirs)
  pub behind_back : G (party_at r i w (other_side side) theirs) (called (calling r i w side call sents) (given_by (other_side side) w) call a)
  -- how it is called
  pub calls : Calls Nothing (calling r i w side call sents) (party_at r i w (other_side side) theirs) call a
  -- the observer of the end is that of the run
  pub seen : watch r side i ≡ watch_of (calling r i w side call sents) (party_at r i w (other_side side) theirs)
  pub seen_behind : watch r side (suc i) ≡ watch_of (called (calling r i w side call sents) (given_by (other_side side) w) call a) (party_at r i w (other_side side) theirs)

-- what holds before such a call, and behind it, holds at it
pub whole : (G : Way) (r : Run) (i : ℕ) (side : Side) (call : Call) (a : Answer) (w : World) (h : CallHolds G r i side call a w) → Calls G (calling r i w side call h.sents) (party_at r i w (other_side side) h.theirs) call a
whole G r i side call a w h = record {
  joined = h.calls.joined;
  answer = h.calls.answer;
  served = h.calls.served;
  uses = h.calls.uses;
  codes = h.calls.codes;
  joined_behind = h.calls.joined_behind;
  gives = h.gives;
  takes = h.takes;
  gives_behind = h.behind;
  takes_behind = h.behind_back;
}

-- that reads the window leaves the state
pub reads_state : (control : Control) (heard : Heard) (call : Call) (e : End) → (reads_window control heard call e).closing.state ≡ e.closing.state
reads_state control heard (calls.Poll now) e = refl
reads_state control heard call e = refl

-- what holds of an end, whichever window it read, holds where it is called
pub reads_either : (P : End → Type 0) (control : Control) (heard : Heard) (call : Call) (e : End) → P e → P (with_blocked (with_window e (control [])) (is_blocked e heard)) → P (reads_window control heard call e)
reads_either P control heard (calls.Poll now) e bare shown = shown
reads_either P control heard call e bare shown = bare

-- ---- a poll

-- one end at a place, once it read that its controller shows its window
abbrev pub polling : Run → ℕ → World → Side → List Sent → Party
polling r i w side sents = showing (party_at r i w side sents) (shown_at side w)

-- so it is at a poll
abbrev pub PollHolds : Way → Run → ℕ → Side → ℕ → Answer → World → Type 0
PollHolds G r i side now a w = CallHolds G r i side (calls.Poll now) a w

-- what is observed of a poll
pub observed_poll : (H : Way) (r : Run) (i : ℕ) (side : Side) (now : ℕ) (a : Answer) (w : World) → PollHolds (And (And PacketsHold H) Sight) r i side now a w → PollHolds Observed r i side now a w
observed_poll H r i side now a w h = record {
  sents = h.sents;
  theirs = h.theirs;
  joined = h.joined;
  gives = (h.gives.0.0, h.gives.1);
  takes = (h.takes.0.0, h.takes.1);
  behind = (h.behind.0.0, h.behind.1);
  behind_back = (h.behind_back.0.0, h.behind_back.1);
  calls = h.calls;
  seen = h.seen;
  seen_behind = h.seen_behind;
}

-- The worlds before and behind a call.
pub record MadeAt (r : Run) (i : ℕ) (side : Side) (call : Call) (a : Answer) : Type 0 where
  pub before : World
  pub behind : World
  pub made : IsMade r i side call a before behind
  pub leads : LeadsTo r (suc i) behind

-- there is one world behind the first so many answers
pub one_behind : (r : Run) (i : ℕ) (w v : World) → AreServed r i → LeadsTo r i w → LeadsTo r i v → w ≡ v
one_behind r i w v served leads also = (one_run r.keys (take i r.answers) r.start (take i r.events) (take i r.views) (take i r.views) w v served leads also).1

-- a run that goes on with an event and its answer
record GoesOn (k : Policies) (w end : World) (event : RunEvent) (a : Answer) (events : List RunEvent) (answers : List Answer) : Type 0 where
  next : World
  views : List View
  step : IsStep k w event a next
  goes_on : Follows k next events answers views end

-- so does one that has another event and another answer
one_more : (k : Policies) (w end : World) (event : RunEvent) (a : Answer) (events : List RunEvent) (answers : List Answer) (views : List View) → Follows k w (event ∷ events) (a ∷ answers) views end → GoesOn k w end event a events answers
one_more k w end event a events answers [] f = absurd f
one_more k w end event a events answers (v ∷ views) f = record { next = f.0; views = views; step = f.1; goes_on = f.3 }

module _ (G : Way) (g : Group Nothing G) (r : Run) (end : World) (honest : IsHonest r) (run : IsRun r end) where
  -- it holds so at each call that was answered and served, which names a stream of its end if any,
  -- and a code
  pub call_holds : (i : ℕ) (side : Side) (call : Call) (a : Answer) (w next : World) → ((id : ℕ) → used call ≡ Some id → In id (ids_of (until r side i))) → CodeIsSmall call → IsMade r i side call a w next → CallHolds G r i side call a w
  call_holds i side call a w next uses small m = record {
    sents = at.sents;
    theirs = at.theirs;
    joined = joined;
    gives = gives_now;
    takes = takes_now;
    behind = g.writer x y call a c gives_now takes_now;
    behind_back = g.reader x y call a c gives_now takes_now;
    calls = c;
    seen = watch_is r honest w i side at.sents at.theirs;
    seen_behind = watch_is r honest w (suc i) side at.sents at.theirs ∙ ap (λ (ts : List Told). folded (watch_told (lens x y)) ts (first_watch x.final x.began x.made.path.remote x.first_rtt x.initial_delay)) told_more;
  }
    where
      event : RunEvent
      event = record { side = side; call = call }

      before : list_any fails (take i r.answers) ≡ false
      before = served_before r.answers i m.served

      at : Placed G r end side i
      at = placed G g r end honest run side i before

      same : at.world ≡ w
      same = one_behind r i at.world w before at.leads m.leads

      bare : Party
      bare = party_at r i w side at.sents

      x : Party
      x = calling r i w side call at.sents

      y : Party
      y = party_at r i w (other_side side) at.theirs

      -- the group there
      gives_bare : G bare y
      gives_bare = subst (λ (v : World). G (party_at r i v side at.sents) (party_at r i v (other_side side) at.theirs)) same at.gives

      takes_bare : G y bare
      takes_bare = subst (λ (v : World). G (party_at r i v (other_side side) at.theirs) (party_at r i v side at.sents)) same at.takes

      gives_now : G x y
      gives_now = reads_either (λ (e : End). G (record bare { end = e }) y) (control_at side w) (heard_at side w) call (end_at side w) gives_bare (g.shows bare y (shown_at side w) (shown_by y.end) tt tt gives_bare takes_bare)

      takes_now : G y x
      takes_now = reads_either (λ (e : End). G y (record bare { end = e })) (control_at side w) (heard_at side w) call (end_at side w) takes_bare (g.shows y bare (shown_by y.end) (shown_at side w) tt tt takes_bare gives_bare)

      joined : AreJoined x y
      joined =
          let j = subst (λ (v : World). AreJoined (party_at r i v side at.sents) (party_at r i v (other_side side) at.theirs)) same at.joined in
          record {
            y_side = j.y_side;
            x_side = j.x_side;
            to_y = j.to_y;
            to_x = j.to_x;
            x_lawful = j.x_lawful;
            y_lawful = j.y_lawful;
            x_long = j.x_long;
            y_long = j.y_long;
            x_more = j.x_more;
            y_more = j.y_more;
          }

      -- how the run goes on
      goes_on : Follows r.keys w (event ∷ drop (suc i) r.events) (a ∷ drop (suc i) r.answers) (drop i r.views) end
      goes_on = rw (first_left r.events i event m.at.event, first_left r.answers i a m.at.answer) at (subst (λ (v : World). Follows r.keys v (drop i r.events) (drop i r.answers) (drop i r.views) end) same at.goes_on)

      on : GoesOn r.keys w end event a (drop (suc i) r.events) (drop (suc i) r.answers)
      on = one_more r.keys w end event a (drop (suc i) r.events) (drop (suc i) r.answers) (drop i r.views) goes_on

      then : on.next ≡ next
      then = one_world r.keys w event a on.next next (made_served r i side call a w next m) on.step m.step

      more : (rest : List (List ℕ)) × (given_by side next ++ rest ≡ given_by side end)
      more = grown_at side next end (subst (λ (v : World). Grown v end) then (grown r.keys on.next (drop (suc i) r.events) (drop (suc i) r.answers) on.views end on.goes_on))

      joined_behind : AreJoined (called x y.given call a) y
      joined_behind = record {
        y_side = joined.y_side;
        x_side = joined.x_side;
        to_y = joined.to_y;
        to_x = joined.to_x;
        x_lawful = joined.x_lawful;
        y_lawful = joined.y_lawful;
        x_long = joined.x_long;
        y_long = joined.y_long;
        x_more = (more.0, ap (λ (ds : List (List ℕ)). ds ++ more.0) (sym (gave_more side w next (gives x.policy x.end call a) m.step.others)) ∙ more.1 ∙ sym (gives_all side r end run));
        y_more = joined.y_more;
      }

      c : Calls Nothing x y call a
      c = record {
        joined = joined;
        answer = m.step.answer;
        served = made_served r i side call a w next m;
        uses = uses;
        codes = small;
        joined_behind = joined_behind;
        gives = tt;
        takes = tt;
        gives_behind = tt;
        takes_behind = tt;
      }

      -- the call is told last
      state : state_at r side i ≡ x.end.closing.state
      state = sym (ap (λ (v : World). (end_at side v).closing.state) (sym same) ∙ at.state) ∙ sym (reads_state (control_at side w) (heard_at side w) call (end_at side w))

      told_more : until r side (suc i) ≡ until r side i ++ told_of call a x.end.closing.state ∷ []
      told_more =
          told_next side (end_at side r.start).closing.state i r.events r.answers r.views event a m.at.event m.at.answer (as_many_views r.keys r.start end r.events r.answers r.views run.follows)
          ∙ ap (λ (ts : List Told). until r side i ++ ts) (told_here side (state_at r side i) call a ∙ ap (λ (s : State). told_of call a s ∷ []) state)

  -- so at each such poll
  pub poll_holds : (i : ℕ) (side : Side) (now : ℕ) (a : Answer) (w next : World) → IsMade r i side (calls.Poll now) a w next → PollHolds G r i side now a w
  poll_holds i side now a w next m = call_holds i side (calls.Poll now) a w next (λ id is. cc) tt m

  -- a call that was answered and served is made between two worlds
  pub made_at : (i : ℕ) (side : Side) (call : Call) (a : Answer) → IsAt r i side call a → AreServed r (suc i) → MadeAt r i side call a
  made_at i side call a at served =
      let behind = placed G g r end honest run side (suc i) served in
      let last = last_step r.keys i r.start behind.world r.events r.answers r.views (record { side = side; call = call }) a at.event at.answer behind.leads in
      record { before = last.before; behind = behind.world; made = record { at = at; leads = last.leads; step = last.step; served = served }; leads = behind.leads }

-- what an end sent behind a poll is what it sent before, and what the poll gave
pub sents_more : (r : Run) (i : ℕ) (side : Side) (now : ℕ) (a : Answer) (w : World) → PollHolds Observed r i side now a w → sents_until r side (suc i) ≡ sents_until r side i ++ sents_by (policy_at side r.keys) (reads_window (control_at side w) (heard_at side w) (calls.Poll now) (end_at side w)) (calls.Poll now) a
sents_more r i side now a w h =
    ap (λ (v : Watch). v.own) h.seen_behind
    ∙ h.behind.1.own
    ∙ ap (λ (ss : List Sent). ss ++ sents_by (policy_at side r.keys) (reads_window (control_at side w) (heard_at side w) (calls.Poll now) (end_at side w)) (calls.Poll now) a) (sym (ap (λ (v : Watch). v.own) h.seen ∙ h.gives.1.own))
