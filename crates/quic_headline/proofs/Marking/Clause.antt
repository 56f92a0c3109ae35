-- At each place of an honest run an open end marks its datagrams where its lists say so, and knows
-- the counts of ECN that they say it believed last (RFC 9000, section 13.4.2): the clause.
use Rattle.std.proofs.Common.{◌≡◌, ℕ, zero, suc, ◌≤◌, max, Bool, true, false, List, [], ◌∷◌, ◌++◌, length, Option, Some, Result, Ok, refl, sym, ap, ◌∙◌, subst, inl, inr}
use Rattle.std.specs.Prelude.{slice_get, not, ◌==◌}
use Rattle.quic_wire_core.specs.declared.stream_id.Side.{Side}
use Rattle.quic_wire_core.specs.StreamId.{other_side}
use Rattle.quic_config.specs.Transport.{parameters_of}
use Rattle.quic_wire.specs.Value.{FrameValue}
use Rattle.quic_spaces.specs.Numbers.{number_opened}
use Rattle.quic_packet.specs.Datagram.{Opening}
use Rattle.quic_machine.specs.declared.answers.Failed.{Failed}
use Rattle.quic_machine.specs.declared.answers.State.{State}
use Rattle.quic_machine.specs.declared.answers.State.TheVariants as states
use Rattle.quic_machine.specs.declared.answers.Transmit.{Transmit}
use Rattle.quic_machine.specs.declared.run.Call.{Call}
use Rattle.quic_machine.specs.declared.run.Call.TheVariants as calls
use Rattle.quic_machine.specs.declared.run.Answer.{Answer}
use Rattle.quic_machine.specs.declared.run.Answer.TheVariants as answers
use Rattle.quic_machine.specs.declared.run.Delivery.{Delivery}
use Rattle.quic_machine.specs.declared.run.RunEvent.{RunEvent}
use Rattle.quic_machine.specs.Policy.{Policy}
use Rattle.quic_machine.specs.End.{End, new_end}
use Rattle.quic_machine.specs.Migration.{is_there, migrated, has_moved}
use Rattle.quic_machine.specs.Receive.{Outcome}
use Rattle.quic_machine.specs.Poll.{mark_of, polled}
use Rattle.quic_machine.specs.FrameCases.{begun}
use Rattle.quic_machine.specs.Machine.{World, IsStep, reads_window, end_at, control_at, heard_at, policy_at, after_call}
use Rattle.quic_headline.specs.Runs.{Run, Told, Packet, Intake, given_of, same_side, until, state_at, folded, and_told, LeadsTo, AreServed}
use Rattle.quic_headline.specs.Observer.{Sent, Watch, Lens, first_watch, news, has_opened, moment_of, clock_behind, watch_told, watch_from, watch, lens_of, has_changed, path_changes}
use Rattle.quic_headline.specs.Headline.{IsHonest, IsRun}
use Rattle.quic_headline.specs.Polls.{IsMade}
use Rattle.quic_headline.specs.Amounts.{making_at}
use Rattle.quic_headline.specs.Marking.{Marking, first_marking, marking_frames, marking_packets, marking_moved, marking_told, marking_behind, marking, MarksGo}
use Rattle.quic_headline.proofs.Packets.Intakes.{folded_more}
use Rattle.quic_headline.proofs.Packets.Delivered.{with_taken, ArrivalsFrom}
use Rattle.quic_headline.proofs.Packets.Moved.{by_migrated}
use Rattle.quic_headline.proofs.Packets.Group.{meets}
use Rattle.quic_headline.proofs.Packets.Flying.{Waits, held, ticked_waits, numbers_wait}
use Rattle.quic_headline.proofs.Packets.Watching.{watched_intake, none_new, one_opened, one_new}
use Rattle.quic_headline.proofs.Places.Moments.{told_none}
use Rattle.quic_headline.proofs.Places.Parties.{told_of, Party, called, came_to, lens, watch_of}
use Rattle.quic_headline.proofs.Places.Placed.{party_at, start_is, stands_in}
use Rattle.quic_headline.proofs.Places.Coming.{came_more, by_coming_from}
use Rattle.quic_headline.proofs.Places.Everything as everything
use Rattle.quic_headline.proofs.Places.Theorems.{ready}
use Rattle.quic_headline.proofs.Places.Steps.{poll_answer}
use Rattle.quic_headline.proofs.Halves.Ready.{Ready}
use Rattle.quic_headline.proofs.Rest.Between.{step_leaves}
use Rattle.quic_headline.proofs.Timers.Still.{was_open}
use Rattle.quic_headline.proofs.Moves.Comes.{Leads, those, behind_frames, arrivals_lead}
use Rattle.quic_headline.proofs.Moves.Kept.{apart_stays, same_path}
use Rattle.quic_headline.proofs.Moves.Route.{all_placed, changes_at}
use Rattle.quic_headline.proofs.Steps.Made.{made_served, made_end, left_at, reads_state, reads_either, served_before, one_behind, calling, CallHolds, call_holds, made_at}
use Rattle.quic_headline.proofs.Steps.Along.{own_told, stands_within, along}
use Rattle.quic_headline.proofs.Marking.Judged.{IsMarked}
use Rattle.quic_headline.proofs.Marking.Frames.{marking_at, frames_marked}
use Rattle.quic_headline.proofs.Marking.Calls.{apart_marked, mark_is, poll_marks}

-- ---- before the first call

-- an end that is made marks its datagrams, and no counts were told it
made_marked : (side : Side) (r : Run) (honest : IsHonest r) → IsMarked first_marking (end_at side r.start)
made_marked side r honest =
    let s = honest.start in
    let m = making_at side r.start s in
    let other = making_at (other_side side) r.start s in
    subst (IsMarked first_marking) (sym (start_is r.start s side)) (go m.validated)
  where
    go : (b : Bool) → (let s = honest.start in
        let m = making_at side r.start s in
        let other = making_at (other_side side) r.start s in IsMarked first_marking (new_end side m.settings m.windows (parameters_of other.settings) m.id other.id m.remote m.moment b m.words))
    go true = (refl, refl)
    go false = (refl, refl)

-- ---- the lists

-- one call more
pub marking_more : (l : Lens) (ts : List Told) (t : Told) (w : Watch) (k : Marking) → marking_behind l (ts ++ t ∷ []) w k ≡ marking_told l t (folded (watch_told l) ts w) (marking_behind l ts w k)
marking_more l [] t w k = refl
marking_more l (u ∷ ts) t w k = marking_more l ts t (watch_told l u w) (marking_told l u w k)

-- ---- a datagram that comes

-- on another path all are marked again
moved_marked : (k : Marking) (p : Policy) (e : End) → IsMarked k e → (o : Opening) (remote : ℕ) → IsMarked (marking_moved true k) (migrated p o remote e)
moved_marked k p e i o remote = by_migrated (IsMarked (marking_moved true k)) p o remote e (λ c. (refl, i.1)) (λ c most. (refl, i.1))

module _ (x y : Party) (call : Call) (k : Marking) where
  -- what the observer of x knows before a call
  abbrev pub seen : Watch
  seen = watch_of x y

  -- what it says of marks behind one by which this came, on the same path
  abbrev pub says : Intake → Marking
  says j = marking_packets x.terms (clock_behind seen.clock (moment_of states.Open (has_opened (came_to x y) j) call)) (news (came_to x y) j) seen.flight k

  -- where nothing came
  none_says : says (came_to x y) ≡ k
  none_says = ap (λ (ps : List Packet). marking_packets x.terms (clock_behind seen.clock (moment_of states.Open (has_opened (came_to x y) (came_to x y)) call)) ps seen.flight k) (none_new (came_to x y))

-- each case of a delivery, at an open end
module _ (x y : Party) (delivery : Delivery) (k : Marking) (n : ℕ) (frames : List FrameValue) (waits : Waits x.terms (seen x y (calls.Deliver delivery) k).clock (seen x y (calls.Deliver delivery) k).flight (held x.end)) (marked : IsMarked k x.end) where
  abbrev call : Call
  call = calls.Deliver delivery

  abbrev known : Watch
  known = seen x y call k

  abbrev Same : End → Intake → Type 0
  Same f j = IsMarked (says x y call k j) f

  abbrev Other : End → Intake → Type 0
  Other f j = IsMarked (marking_moved true (says x y call k j)) f

  -- a packet that is taken
  one_says : says x y call k (with_taken (came_to x y) n frames) ≡ marking_frames x.terms (max known.clock delivery.now) frames known.flight k
  one_says =
      ap (λ (b : Bool). marking_packets x.terms (clock_behind known.clock (moment_of states.Open b call)) (news (came_to x y) (with_taken (came_to x y) n frames)) known.flight k) (one_opened (came_to x y) n frames)
      ∙ ap (λ (ps : List Packet). marking_packets x.terms (max known.clock delivery.now) ps known.flight k) (one_new (came_to x y) n frames)

  abbrev taken : List FrameValue
  taken = those delivery.remote delivery.ecn x.end delivery.now n frames

  -- before its frames
  begins_wait : Waits x.terms (max known.clock delivery.now) known.flight (held (begun x.end delivery.now n))
  begins_wait = ticked_waits x.terms known.clock delivery.now known.flight (record (held x.end) { numbers = number_opened x.end.numbers n }) (numbers_wait x.terms known.clock known.flight (held x.end) (number_opened x.end.numbers n) refl waits)

  arrivals_marked : ArrivalsFrom delivery.remote delivery.ecn x.end delivery.now n frames (came_to x y) (λ (o : Outcome) (j : Intake). o.end.closing.state ≡ states.Open → Leads x.end Same Other o.end j)
  arrivals_marked = arrivals_lead delivery.remote delivery.ecn x.end delivery.now n frames Same Other (came_to x y) (subst (λ (m : Marking). IsMarked m x.end) (sym (none_says x y call k)) marked)
      (λ words none. subst (λ (m : Marking). IsMarked m (behind_frames delivery.remote delivery.ecn x.end delivery.now n frames words)) (sym one_says)
      (subst (λ (m : Marking). IsMarked m (behind_frames delivery.remote delivery.ecn x.end delivery.now n frames words)) (marking_at x.terms (max known.clock delivery.now) (is_there delivery.remote x.end) frames known.flight k)
      (frames_marked x.terms (max known.clock delivery.now) taken known.flight k (begun x.end delivery.now n) none begins_wait marked)))
      (λ p o same away z i. moved_marked (says x y call k (with_taken (came_to x y) n frames)) p z i o delivery.remote)

-- ---- a call of the end

module _ (r : Run) (end : World) (honest : IsHonest r) (run : IsRun r end) (side : Side) where
  abbrev begins : Watch
  begins = watch_from (end_at side r.start) (given_of r side)

  -- what is known at a place: while the end is open, it marks as its lists say
  abbrev pub MarksSo : ℕ → World → Type 0
  MarksSo i w = (end_at side w).closing.state ≡ states.Open → IsMarked (marking r side i) (end_at side w)

  -- the state of the end there
  state_there : (i : ℕ) (w : World) → AreServed r i → LeadsTo r i w → state_at r side i ≡ (end_at side w).closing.state
  state_there i w served leads =
      let at = all_placed r end honest run side i served in
      sym at.state ∙ ap (λ (v : World). (end_at side v).closing.state) (one_behind r i at.world w served at.leads leads)

  module _ (i : ℕ) (call : Call) (a : Answer) (w next : World) (m : IsMade r i side call a w next) (leads : LeadsTo r (suc i) next) (before : MarksSo i w) (still : (end_at side next).closing.state ≡ states.Open) where
    h : CallHolds (everything.All Ready ready) r i side call a w
    h = call_holds (everything.All Ready ready) (everything.all Ready ready) r end honest run i side call a w next (λ id is. honest.ids side i id call a m.at is) (run.codes (record { side = side; call = call }) (stands_in r.events i (record { side = side; call = call }) m.at.event)) m

    abbrev x : Party
    x = calling r i w side call h.sents

    abbrev y : Party
    y = party_at r i w (other_side side) h.theirs

    abbrev behind : Party
    behind = called x y.given call a

    abbrev k : Marking
    k = marking r side i

    left : end_at side next ≡ left_at r side w call a
    left = made_end r i side call a w next m

    opened : x.end.closing.state ≡ states.Open
    opened = was_open x.policy x.end y.given call a (sym (ap (λ (e : End). e.closing.state) left) ∙ still)

    open_there : (end_at side w).closing.state ≡ states.Open
    open_there = sym (reads_state (control_at side w) (heard_at side w) call (end_at side w)) ∙ opened

    marked : IsMarked k x.end
    marked = reads_either (IsMarked k) (control_at side w) (heard_at side w) call (end_at side w) (before open_there) (before open_there)

    -- behind it, by what came
    abbrev Stays : End → Intake → Type 0
    Stays f j = IsMarked (says x y call k j) f

    abbrev Moves : End → Intake → Type 0
    Moves f j = IsMarked (marking_moved true (says x y call k j)) f

    leads_so : Leads x.end Stays Moves behind.end (came_to behind y)
    leads_so = by_coming_from x y a h.joined (made_served r i side call a w next m) (meets y x h.takes.0.0) (λ (b : Answer) (e : End) (j : Intake). e.closing.state ≡ states.Open → Leads x.end Stays Moves e j) call m.step.answer (record {
      apart = λ apart open_behind.
          let f : End = after_call x.policy x.end y.given call a in
          inl (same_path x.end f (apart_stays x.policy x.end y.given call a apart), subst (λ (n : Marking). IsMarked n f) (sym (none_says x y call k)) (apart_marked k x.policy x.end y.given call a apart marked));
      none = λ delivery is open_behind. inl (same_path x.end x.end refl, subst (λ (n : Marking). IsMarked n x.end) (sym (none_says x y call k)) marked);
      comes = λ delivery is s among. comes delivery is s;
    }) (sym (ap (λ (e : End). e.closing.state) left) ∙ still)
      where
        comes : (delivery : Delivery) → call ≡ calls.Deliver delivery → (s : Sent) → ArrivalsFrom delivery.remote delivery.ecn x.end delivery.now s.number s.frames (came_to x y) (λ (o : Outcome) (j : Intake). o.end.closing.state ≡ states.Open → Leads x.end Stays Moves o.end j)
        comes delivery is s =
            subst (λ (c : Call). ArrivalsFrom delivery.remote delivery.ecn x.end delivery.now s.number s.frames (came_to x y) (λ (o : Outcome) (j : Intake). o.end.closing.state ≡ states.Open → Leads x.end (λ (f : End) (l : Intake). IsMarked (says x y c k l) f) (λ (f : End) (l : Intake). IsMarked (marking_moved true (says x y c k l)) f) o.end j)) (sym is)
            (arrivals_marked x y delivery k s.number s.frames (h.gives.1.watched.flight opened) marked)

    abbrev l : Lens
    l = lens_of r side

    abbrev t : Told
    t = told_of call a states.Open

    grown : until r side (suc i) ≡ until r side i ++ t ∷ []
    grown = own_told r end run side i call a w next m ∙ ap (λ (s : State). until r side i ++ told_of call a s ∷ []) (state_there i w (served_before r.answers i m.served) m.leads ∙ open_there)

    watch_behind : watch r side (suc i) ≡ watch_told l t (watch r side i)
    watch_behind = ap (λ (ts : List Told). folded (watch_told l) ts begins) grown ∙ folded_more (watch_told l) (until r side i) t begins

    -- what came, as the observer has it
    seen_intake : (watch_of x y).intake ≡ came_to x y
    seen_intake = watched_intake (lens x y) x.told (first_watch x.final x.began x.made.path.remote x.first_rtt x.initial_delay)

    came : and_told l.own l.peer_gave t (came_to x y) ≡ came_to behind y
    came = ap (λ (s : State). and_told x.policy y.final (told_of call a s) (came_to x y)) (sym opened) ∙ sym (came_more x y call a)

    -- what the observer says behind the call
    says_behind : marking r side (suc i) ≡ marking_moved (has_moved x.end behind.end) (says x y call k (came_to behind y))
    says_behind =
        ap (λ (ts : List Told). marking_behind l ts begins first_marking) grown
        ∙ marking_more l (until r side i) t begins first_marking
        ∙ ap (λ (v : Watch). marking_moved (has_changed (watch r side i) v) (by_watch (watch r side i))) (sym watch_behind)
        ∙ ap (λ (b : Bool). marking_moved b (by_watch (watch r side i))) changes
        ∙ ap (λ (n : Marking). marking_moved (has_moved x.end behind.end) n) (ap by_watch h.seen ∙ ap by_intake seen_intake ∙ ap by_came came)
      where
        by_watch : Watch → Marking
        by_watch v = (let after = and_told l.own l.peer_gave t v.intake in marking_packets l.terms (clock_behind v.clock (moment_of states.Open (has_opened v.intake after) call)) (news v.intake after) v.flight k)

        by_intake : Intake → Marking
        by_intake j = (let after = and_told l.own l.peer_gave t j in marking_packets l.terms (clock_behind (watch_of x y).clock (moment_of states.Open (has_opened j after) call)) (news j after) (watch_of x y).flight k)

        by_came : Intake → Marking
        by_came j = marking_packets l.terms (clock_behind (watch_of x y).clock (moment_of states.Open (has_opened (came_to x y) j) call)) (news (came_to x y) j) (watch_of x y).flight k

        reads_generation : x.end.path.generation ≡ (end_at side w).path.generation
        reads_generation = reads_either (λ (e : End). e.path.generation ≡ (end_at side w).path.generation) (control_at side w) (heard_at side w) call (end_at side w) refl refl

        -- the path changes where the lists say so
        changes : path_changes r side i ≡ has_moved x.end behind.end
        changes =
            changes_at r end honest run side i w next m.served m.leads leads
            ∙ ap (λ (e : End). has_moved (end_at side w) e) left
            ∙ ap (λ (g : ℕ). not (behind.end.path.generation == g)) (sym reads_generation)

    own_marked : IsMarked (marking r side (suc i)) (end_at side next)
    own_marked = subst (λ (e : End). IsMarked (marking r side (suc i)) e) (sym left) (subst (λ (n : Marking). IsMarked n behind.end) (sym says_behind) (go leads_so))
      where
        go : Leads x.end Stays Moves behind.end (came_to behind y) → IsMarked (marking_moved (has_moved x.end behind.end) (says x y call k (came_to behind y))) behind.end
        go (inl (stays, same)) = subst (λ (b : Bool). IsMarked (marking_moved b (says x y call k (came_to behind y))) behind.end) (sym stays) same
        go (inr (moves, other)) = subst (λ (b : Bool). IsMarked (marking_moved b (says x y call k (came_to behind y))) behind.end) (sym moves) other

  -- ---- over the run

  first_marked : MarksSo zero r.start
  first_marked _ = subst (λ (ts : List Told). IsMarked (marking_behind (lens_of r side) ts begins first_marking) (end_at side r.start)) (sym (told_none side r.events r.views (end_at side r.start).closing.state)) (made_marked side r honest)

  other_marked : (i : ℕ) (event : RunEvent) (a : Answer) (w next : World) → slice_get r.events i ≡ Some event → same_side event.side side ≡ false → IsStep r.keys w event a next → until r side (suc i) ≡ until r side i → MarksSo i w → MarksSo (suc i) next
  other_marked i event a w next at other step told before shown =
      let same : end_at side next ≡ end_at side w = (step_leaves side r.keys w next event a other step).end in
      subst (λ (e : End). IsMarked (marking r side (suc i)) e) (sym same)
      (subst (λ (ts : List Told). IsMarked (marking_behind (lens_of r side) ts begins first_marking) (end_at side w)) (sym told) (before (sym (ap (λ (e : End). e.closing.state) same) ∙ shown)))

  -- so it is at each place
  pub marked_at : (i : ℕ) (w : World) → i ≤ length r.views → AreServed r i → LeadsTo r i w → MarksSo i w
  marked_at = along r end run side MarksSo (record { first = first_marked; own = own_marked; other = other_marked })

-- ---- the clause

pub marks_go : (r : Run) (end : World) → IsHonest r → IsRun r end → MarksGo r
marks_go r end honest run side i now t served shown at =
    let m = made_at (everything.All Ready ready) (everything.all Ready ready) r end honest run i side (calls.Poll now) (answers.Poll (Ok (Some t))) at served in
    let w : World = m.before in
    let p : Policy = policy_at side r.keys in
    let before : AreServed r i = served_before r.answers i served in
    let there : (end_at side w).closing.state ≡ states.Open = sym (state_there r end honest run side i w before m.made.leads) ∙ shown in
    let marked : IsMarked (marking r side i) (end_at side w) = marked_at r end honest run side i w (stands_within r end run side i side (calls.Poll now) (answers.Poll (Ok (Some t))) w m.behind m.made) before m.made.leads there in
    let x : End = reads_window (control_at side w) (heard_at side w) (calls.Poll now) (end_at side w) in
    let said : answers.Poll (Ok (Some t)) ≡ answers.Poll (polled p x now).answer = poll_answer p x now (answers.Poll (Ok (Some t))) m.made.step.answer refl in
    poll_marks p x now t (sym (given (polled p x now).answer said)) ∙ ap mark_of marked.0 ∙ mark_is (marking r side i).marks
  where
    given : (b : Result (Option Transmit) Failed) → answers.Poll (Ok (Some t)) ≡ answers.Poll b → Ok (Some t) ≡ b
    given b is = cc
