-- When the packet with the greatest number came that an end took: an open end keeps that number and
-- the moment, as its observer finds them, whatever call is made.
use Rattle.std.proofs.Common.{◌≡◌, ◌⊎◌, ℕ, zero, suc, ◌≤◌, Bool, true, false, cond, List, [], ◌∷◌, map, length, Option, Some, None, Ok, refl, sym, ap, ◌∙◌, subst, inl, inr, arith}
use Rattle.std.specs.Prelude.{nat_lt, slice_get}
use Rattle.std.proofs.lemmas.Bool.{ltb-true, ltb-false}
use Rattle.quic_wire_core.specs.declared.shared.EcnCodepoint.{EcnCodepoint}
use Rattle.quic_wire_core.specs.declared.stream_id.Side.{Side}
use Rattle.quic_wire_core.specs.StreamId.{other_side}
use Rattle.quic_wire.specs.Value.{FrameValue}
use Rattle.quic_parameters.specs.Parameters.{ParameterValues}
use Rattle.quic_config.specs.Transport.{Settings, parameters_of}
use Rattle.quic_packet.specs.Datagram.{Opening}
use Rattle.quic_recovery_core.specs.Duplicates.{Seen}
use Rattle.quic_recovery_core.specs.PendingAcks.{Pending, newer, after_insert, with_wait, asking_counted, after_packet, starts_wait}
use Rattle.quic_spaces.specs.Acknowledging.{with_due}
use Rattle.quic_machine.specs.declared.answers.State.TheVariants as states
use Rattle.quic_machine.specs.declared.run.RunEvent.{RunEvent}
use Rattle.quic_machine.specs.declared.run.Call.{Call}
use Rattle.quic_machine.specs.declared.run.Answer.{Answer}
use Rattle.quic_machine.specs.Parts.{Windows}
use Rattle.quic_machine.specs.Policy.{Policy}
use Rattle.quic_machine.specs.Start.{Making}
use Rattle.quic_machine.specs.Closing.{Closing}
use Rattle.quic_machine.specs.End.{End, new_end}
use Rattle.quic_machine.specs.Receive.{asks_in, after_taken, Outcome}
use Rattle.quic_machine.specs.IdFrames.{drawn}
use Rattle.quic_machine.specs.Migration.{migrated}
use Rattle.quic_machine.specs.Poll.{Leaving, whole, lazied_as}
use Rattle.quic_machine.specs.Machine.{World, IsStep, after_call, end_at, control_at, heard_at}
use Rattle.quic_machine.specs.FrameCases.{begun, passed, frames_keep}
use Rattle.quic_machine.specs.CallCases.{is_delivery}
use Rattle.quic_headline.specs.Runs.{Run, Packet, Intake, In, same_side, until, LeadsTo, AreServed, folded, given_of, Told}
use Rattle.quic_headline.specs.Observer.{Watch, first_watch, watch_from, watch_told, watch, took, lens_of}
use Rattle.quic_headline.specs.Headline.{IsHonest, IsRun}
use Rattle.quic_headline.specs.Amounts.{making_at}
use Rattle.quic_headline.specs.Polls.{IsMade}
use Rattle.quic_headline.specs.AckDelays.{CameAt}
use Rattle.quic_headline.proofs.Packets.Delivered.{frames_at, Arrivals, arrived, with_taken}
use Rattle.quic_headline.proofs.Packets.Moved.{migrated_closing, migrated_acks}
use Rattle.quic_headline.proofs.Packets.Watching.{watched_intake}
use Rattle.quic_headline.proofs.Packets.Group.{meets}
use Rattle.quic_headline.proofs.Places.Moments.{told_none}
use Rattle.quic_headline.proofs.Places.Parties.{Party, came_to, lens}
use Rattle.quic_headline.proofs.Places.Placed.{start_is}
use Rattle.quic_headline.proofs.Places.Coming.{by_coming}
use Rattle.quic_headline.proofs.Rest.Between.{step_leaves}
use Rattle.quic_headline.proofs.Steps.Made.{made_served, reads_either}
use Rattle.quic_headline.proofs.Steps.Along.{along}
use Rattle.quic_headline.proofs.Validated.Clause as clause
use Rattle.quic_headline.proofs.Packets.EndMoves.{Move, Cause, cause_of, IsPacket, after, OfFrame}
use Rattle.quic_headline.proofs.Packets.EndMoves as moves
use Rattle.quic_headline.proofs.Packets.ByMoves.{no_packet, behind_frame, behind_call}

-- the greatest number that came, and when
abbrev pub Newest : Type 0
Newest = Option (ℕ × ℕ)

-- an end keeps this
abbrev Keeps : Newest → End → Type 0
Keeps o e = e.acknowledging.newest ≡ o

-- ---- a call that isn't a delivery

-- only a packet that is taken changes it
same_newest : (o : Newest) (by : Cause) → (IsPacket by → ⊥) → moves.Keeps by (Keeps o)
same_newest o by apart (moves.taken n asking hurries mark) e may i = absurd (apart may)
same_newest o by apart m e may i = i

quiet_newest : (p : Policy) (e : End) (theirs : List (List ℕ)) (call : Call) (a : Answer) → is_delivery call ≡ false → Keeps e.acknowledging.newest (after_call p e theirs call a)
quiet_newest p e theirs call a apart = behind_call (Keeps e.acknowledging.newest) p e theirs call a (same_newest e.acknowledging.newest (cause_of call) (no_packet call apart)) refl

-- where an acknowledgement becomes due it stays
pub lazied_newest : (leaving : Leaving) (e : End) → (lazied_as leaving e).acknowledging.newest ≡ e.acknowledging.newest
lazied_newest whole e = refl
lazied_newest other e = refl

-- ---- a delivery

-- frames leave it
frames_newest : (fs : List FrameValue) (e : End) → Keeps e.acknowledging.newest (passed fs e).end
frames_newest fs e = frames_keep (Keeps e.acknowledging.newest) (λ f x i. behind_frame f (Keeps e.acknowledging.newest) (keep f) x i) fs e refl
  where
    keep : (f : FrameValue) (m : Move) (x : End) → OfFrame f m x → Keeps e.acknowledging.newest x → Keeps e.acknowledging.newest (after m x)
    keep f (moves.taken n asking hurries mark) x of i = absurd of
    keep f m x of i = i

-- setting the timer changes neither
wait_newest : (b : Bool) (p : Pending) (now : ℕ) → starts_wait p ≡ b → (with_wait p now).newest ≡ p.newest
wait_newest true p now is = rw is refl
wait_newest false p now is = rw is refl

packet_newest : (p : Pending) (now n : ℕ) (asking : Bool) (seen : Seen) → (after_packet p now n asking seen).newest ≡ p.newest
packet_newest p now n true seen = wait_newest (starts_wait (asking_counted p n seen)) (asking_counted p n seen) now refl
packet_newest p now n false seen = refl

-- nothing came and it stays; or one more packet was taken, as the end had come to its clock
abbrev Takes : End → Intake → End → Intake → Type 0
Takes e i f j = ((f.acknowledging.newest ≡ e.acknowledging.newest) × (j.took ≡ i.took))
    ⊎ ((p : Packet) × (j.took ≡ p ∷ i.took) × (f.acknowledging.newest ≡ newer e.acknowledging.newest p.number f.closing.clock))

-- behind a call, while the end is open
abbrev TakesBy : End → Intake → End → Intake → Type 0
TakesBy e i f j = f.closing.state ≡ states.Open → Takes e i f j

-- each case of a delivery
arrivals_newest : (e : End) (now n : ℕ) (frames taken : List FrameValue) (i : Intake) → Arrivals e now n frames taken i (λ (o : Outcome) (j : Intake). TakesBy e i o.end j)
arrivals_newest e now n frames taken i = record {
  ignored = λ reason opened. inl (refl, refl);
  noted = λ state reason opened. inl (refl, refl);
  takes = λ words state new none urged mark opened. inr (record { number = n; frames = frames }, refl, one_more words urged mark);
  moves = λ p o same remote x opened h still. again p o remote x (h opened);
  drains = λ words state new close is opened. absurd cc;
  refuses = λ words state new f is opened. absurd cc;
  exhausts = λ state opened. absurd cc;
}
  where
    left : End
    left = (arrived e now n taken).end

    one_more : (words : ℕ → ℕ) (urged : Bool) (mark : Option EcnCodepoint) → (drawn words (after_taken n (asks_in (map Ok frames)) urged mark left)).acknowledging.newest ≡ newer e.acknowledging.newest n left.closing.clock
    one_more words urged mark =
        packet_newest (with_due urged (after_insert left.acknowledging n left.closing.clock)) left.closing.clock n (asks_in (map Ok frames)) left.numbers.opened
        ∙ ap (λ (o : Newest). newer o n left.closing.clock) (frames_newest taken (begun e now n))

    again : (p : Policy) (o : Opening) (remote : ℕ) (x : End) → Takes e i x (with_taken i n frames) → Takes e i (migrated p o remote x) (with_taken i n frames)
    again p o remote x (inl was) = inl (ap (λ (q : Pending). q.newest) (migrated_acks p o remote x) ∙ was.0, was.1)
    again p o remote x (inr took) = inr (took.0, took.1, ap (λ (q : Pending). q.newest) (migrated_acks p o remote x) ∙ took.2 ∙ ap (λ (c : ℕ). newer e.acknowledging.newest took.0.number c) (sym (ap (λ (c : Closing). c.clock) (migrated_closing p o remote x))))

-- ---- at each place of a run

-- what an end keeps is the greatest number that it took, and the moment at which that came
abbrev pub IsNewest : Run → Side → ℕ → Newest → Type 0
IsNewest r side i None = took r side i ≡ []
IsNewest r side i (Some held) = (p : Packet) × (p.number ≡ held.0) × CameAt r side i p held.1 × ((other : Packet) → In other (took r side i) → other.number ≤ held.0)

-- where nothing more came, it stays
newest_stays : (r : Run) (side : Side) (i : ℕ) → took r side (suc i) ≡ took r side i → (o : Newest) → IsNewest r side i o → IsNewest r side (suc i) o
newest_stays r side i same None none = same ∙ none
newest_stays r side i same (Some held) (p, number, came, most) = (
  p,
  number,
  (let before = came.before in record { place = came.place; before = omega (arith, before); came = came.came; clock = came.clock }),
  λ other j. most other (subst (λ (ps : List Packet). In other ps) same j),
)

-- one more that came is the greatest, or that before is
newest_more : (r : Run) (side : Side) (i : ℕ) (p : Packet) (clock : ℕ) → took r side (suc i) ≡ p ∷ took r side i → (watch r side (suc i)).clock ≡ clock → (o : Newest) → IsNewest r side i o → IsNewest r side (suc i) (newer o p.number clock)
newest_more r side i p clock more now None none = (
  p,
  refl,
  record { place = i; before = omega arith; came = more; clock = now },
  λ other j. go other (subst (λ (ps : List Packet). In other ps) (more ∙ ap (λ (ps : List Packet). p ∷ ps) none) j),
)
  where
    go : (other : Packet) → In other (p ∷ []) → other.number ≤ p.number
    go other (inl is) = (let same : other.number ≡ p.number = ap (λ (q : Packet). q.number) is in omega (arith, same))
    go other (inr none) = absurd none
newest_more r side i p clock more now (Some held) (q, number, came, most) = go (nat_lt held.0 p.number) refl
  where
    older : ((other : Packet) → In other (took r side i) → other.number ≤ held.0) → (n : ℕ) → held.0 ≤ n → p.number ≤ n → (other : Packet) → In other (p ∷ took r side i) → other.number ≤ n
    older all n above this other (inl is) = (let same : other.number ≡ p.number = ap (λ (x : Packet). x.number) is in omega (arith, same, this))
    older all n above this other (inr j) = (let below = all other j in omega (arith, below, above))

    go : (b : Bool) → nat_lt held.0 p.number ≡ b → IsNewest r side (suc i) (cond b (Some (p.number, clock)) (Some held))
    go true is =
        let above = ltb-true held.0 p.number is in
        (p, refl, record { place = i; before = omega arith; came = more; clock = now }, λ other j. older most p.number (omega (arith, above)) (omega arith) other (subst (λ (ps : List Packet). In other ps) more j))
    go false is =
        let below = ltb-false held.0 p.number is in
        (q, number, (let before = came.before in record { place = came.place; before = omega (arith, before); came = came.came; clock = came.clock }), λ other j. older most held.0 (omega arith) (omega (arith, below)) other (subst (λ (ps : List Packet). In other ps) more j))

module _ (r : Run) (end : World) (honest : IsHonest r) (run : IsRun r end) (side : Side) where
  -- while the end is open it keeps that
  abbrev NewestThen : ℕ → World → Type 0
  NewestThen i w = (end_at side w).closing.state ≡ states.Open → IsNewest r side i (end_at side w).acknowledging.newest

  made_none : (side : Side) (settings : Settings) (windows : Windows) (theirs : ParameterValues) (own_id peer_id : List ℕ) (remote now : ℕ) (validated : Bool) (words : ℕ → ℕ) → (new_end side settings windows theirs own_id peer_id remote now validated words).acknowledging.newest ≡ None
  made_none side settings windows theirs own_id peer_id remote now true words = refl
  made_none side settings windows theirs own_id peer_id remote now false words = refl

  newest_first : NewestThen zero r.start
  newest_first opened = subst (λ (o : Newest). IsNewest r side zero o) (sym none) nothing
    where
      x : Making
      x = making_at side r.start honest.start

      other : Making
      other = making_at (other_side side) r.start honest.start

      none : (end_at side r.start).acknowledging.newest ≡ None
      none = ap (λ (e : End). e.acknowledging.newest) (start_is r.start honest.start side) ∙ made_none side x.settings x.windows (parameters_of other.settings) x.id other.id x.remote x.moment x.validated x.words

      nothing : took r side zero ≡ []
      nothing = ap (λ (told : List Told). (folded (watch_told (lens_of r side)) told (watch_from (end_at side r.start) (given_of r side))).intake.took) (told_none side r.events r.views (end_at side r.start).closing.state)

  -- a call of its own
  module _ (i : ℕ) (call : Call) (a : Answer) (w next : World) (m : IsMade r i side call a w next) (leads : LeadsTo r (suc i) next) (still : (end_at side next).closing.state ≡ states.Open) where
    abbrev x : Party
    x = clause.x r end honest run side i call a w next m leads still

    abbrev y : Party
    y = clause.y r end honest run side i call a w next m leads still

    abbrev behind : Party
    behind = clause.behind r end honest run side i call a w next m leads still

    takes : Takes x.end (came_to x y) behind.end (came_to behind y)
    takes = (let h = clause.h r end honest run side i call a w next m leads still in
        by_coming x y a h.joined (made_served r i side call a w next m) (meets y x h.takes.0.0.0) (TakesBy x.end (came_to x y)) call m.step.answer (record {
          apart = λ apart opened. inl (quiet_newest x.policy x.end y.given call a apart, refl);
          none = λ delivery is opened. inl (refl, refl);
          comes = λ delivery is s among here. arrivals_newest x.end delivery.now s.number s.frames (frames_at here s.frames) (came_to x y);
        }) (clause.open_behind r end honest run side i call a w next m leads still))

    -- what came to it, by the lists
    took_before : took r side i ≡ (came_to x y).took
    took_before = (let h = clause.h r end honest run side i call a w next m leads still in
        ap (λ (v : Watch). v.intake.took) h.seen ∙ ap (λ (j : Intake). j.took) (watched_intake (lens x y) x.told (first_watch x.final x.began x.made.path.remote x.first_rtt x.initial_delay)))

    took_behind : took r side (suc i) ≡ (came_to behind y).took
    took_behind = (let h = clause.h r end honest run side i call a w next m leads still in
        ap (λ (v : Watch). v.intake.took) h.seen_behind ∙ ap (λ (j : Intake). j.took) (watched_intake (lens x y) behind.told (first_watch x.final x.began x.made.path.remote x.first_rtt x.initial_delay)))

    -- its clock is that of the observer
    clock_behind : (watch r side (suc i)).clock ≡ behind.end.closing.clock
    clock_behind = (let h = clause.h r end honest run side i call a w next m leads still in
        ap (λ (v : Watch). v.clock) h.seen_behind ∙ (h.behind.0.1.watched.flight (clause.open_behind r end honest run side i call a w next m leads still)).tells.clock)

    -- that a poll reads its window changes nothing of it
    reads : x.end.acknowledging.newest ≡ (end_at side w).acknowledging.newest
    reads = reads_either (λ (e : End). e.acknowledging.newest ≡ (end_at side w).acknowledging.newest) (control_at side w) (heard_at side w) call (end_at side w) refl refl

    own_newest : NewestThen i w → IsNewest r side (suc i) (end_at side next).acknowledging.newest
    own_newest was = subst (λ (e : End). IsNewest r side (suc i) e.acknowledging.newest) (sym (clause.left r end honest run side i call a w next m leads still)) (go takes)
      where
        here : IsNewest r side i x.end.acknowledging.newest
        here = subst (λ (o : Newest). IsNewest r side i o) (sym reads) (was (clause.open_there r end honest run side i call a w next m leads still))

        go : Takes x.end (came_to x y) behind.end (came_to behind y) → IsNewest r side (suc i) behind.end.acknowledging.newest
        go (inl (newest, same)) = subst (λ (o : Newest). IsNewest r side (suc i) o) (sym newest) (newest_stays r side i (took_behind ∙ same ∙ sym took_before) x.end.acknowledging.newest here)
        go (inr (p, more, newest)) = subst (λ (o : Newest). IsNewest r side (suc i) o) (sym newest) (newest_more r side i p behind.end.closing.clock (took_behind ∙ more ∙ ap (λ (ps : List Packet). p ∷ ps) (sym took_before)) clock_behind x.end.acknowledging.newest here)

  other_newest : (i : ℕ) (event : RunEvent) (a : Answer) (w next : World) → slice_get r.events i ≡ Some event → same_side event.side side ≡ false → IsStep r.keys w event a next → until r side (suc i) ≡ until r side i → NewestThen i w → NewestThen (suc i) next
  other_newest i event a w next at other step told before still =
      let same = (step_leaves side r.keys w next event a other step).end in
      let unchanged : took r side (suc i) ≡ took r side i = ap (λ (ts : List Told). (folded (watch_told (lens_of r side)) ts (watch_from (end_at side r.start) (given_of r side))).intake.took) told in
      subst (λ (e : End). IsNewest r side (suc i) e.acknowledging.newest) (sym same) (newest_stays r side i unchanged (end_at side w).acknowledging.newest (before (sym (ap (λ (e : End). e.closing.state) same) ∙ still)))

  -- at each place
  pub newest_at : (i : ℕ) (w : World) → i ≤ length r.views → AreServed r i → LeadsTo r i w → NewestThen i w
  newest_at = along r end run side NewestThen (record { first = newest_first; own = λ i call a w next m leads was still. own_newest i call a w next m leads still was; other = other_newest })
