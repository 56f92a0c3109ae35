-- The streams of the peer's that an end has are those that frames opened which came, and those
-- below them (RFC 9000, sections 2.1 and 3.2).
use Rattle.std.proofs.Common.{◌≡◌, ℕ, ◌+◌, ◌<◌, ◌≤◌, ◌⊎◌, inl, inr, Bool, true, false, List, ◌∷◌, Option, Some, None, refl, sym, ◌∙◌, subst, arith}
use Rattle.std.specs.Prelude.{nat_lt, nat_le, ◌&&◌, if◌then◌else◌}
use Rattle.std.proofs.lemmas.Bool.{cond_both, ltb-true}
use Rattle.quic_wire_core.specs.declared.stream_id.Side.{Side}
use Rattle.quic_wire_core.specs.declared.stream_id.Dir.{Dir}
use Rattle.quic_wire_core.specs.declared.stream_id.Dir.TheVariants.{Bi, Uni}
use Rattle.quic_wire_core.specs.StreamId.{stream_id, other_side, dir_of, index_of}
use Rattle.quic_wire.specs.Value.{FrameValue}
use Rattle.quic_streams_parts.specs.Dirs.{Counts, of, more, is_own}
use Rattle.quic_streams_state.specs.declared.state.StreamsState.{StreamsState}
use Rattle.quic_streams_state.specs.State.{Opening}
use Rattle.quic_streams_state.specs.Limits.{most_streams}
use Rattle.quic_streams_state.specs.Opening.{opens, opened_if, opened_by, with_remote, with_own_limit, after_max_streams, accept_answer}
use Rattle.quic_streams_laws.specs.AcceptedLaws.{peers_id}
use Rattle.quic_streams_laws.specs.ShapeLaws.{past_remote}
use Rattle.quic_machine.specs.declared.answers.State.TheVariants as states
use Rattle.quic_machine.specs.declared.run.Call.{Call}
use Rattle.quic_machine.specs.declared.run.Call.TheVariants as calls
use Rattle.quic_machine.specs.declared.run.Answer.{Answer}
use Rattle.quic_machine.specs.declared.run.Answer.TheVariants as answers
use Rattle.quic_machine.specs.Tracking.{dir_named}
use Rattle.quic_machine.specs.End.{End}
use Rattle.quic_machine.specs.Receive.{Outcome, take_frame}
use Rattle.quic_machine.specs.FrameCases.{begun, passed, frames_leave}
use Rattle.quic_machine.specs.CallCases.{is_delivery}
use Rattle.quic_machine.specs.Machine.{World, after_call}
use Rattle.quic_headline.specs.Runs.{Run, Packet, Intake, In, OpensStream, AreServed}
use Rattle.quic_headline.specs.Observer.{Sent}
use Rattle.quic_headline.specs.Headline.{IsHonest}
use Rattle.quic_headline.specs.Ids.{and_packet, came_in, WasOpened, AcceptedWereOpened}
use Rattle.quic_headline.proofs.Packets.Group.{PacketsHold, meets}
use Rattle.quic_headline.proofs.Packets.Delivered.{Arrivals, with_taken, with_refused, frames_at}
use Rattle.quic_headline.proofs.Places.Parties.{Party, called, came_to, Beginning, begun_as}
use Rattle.quic_headline.proofs.Places.Groups.{Way, Calls, Group}
use Rattle.quic_headline.proofs.Places.Coming.{by_coming}
use Rattle.quic_headline.proofs.Places.Openings.{took_is}
use Rattle.quic_headline.proofs.Places.Placed.{party_at, Placed, answered}
use Rattle.quic_headline.proofs.Causes.Shown.{call_closes}
use Rattle.quic_headline.proofs.Halves.ReadGroup.{WasIn}
use Rattle.quic_headline.proofs.Channel.Counted.{call_counts, frame_counts}
use Rattle.quic_headline.proofs.Packets.Strays.{of_at}
use Rattle.quic_headline.proofs.Packets.Moved.{by_migrated}

-- ---- the peer's streams

-- one of these frames opens a stream
pub record IsNamedBy (were : FrameValue → Type 0) (id : ℕ) : Type 0 where
  pub frame : FrameValue
  pub was : were frame
  pub opens : OpensStream frame id

-- one of them opens the stream of a kind at a place, or one above it
pub record IsReached (were : FrameValue → Type 0) (side : Side) (dir : Dir) (index : ℕ) : Type 0 where
  pub above : ℕ
  pub from : index ≤ above
  pub named : IsNamedBy were (stream_id (other_side side) dir above)

-- at the end of this side each stream that the peer opened is
pub record AreReached (were : FrameValue → Type 0) (here side : Side) (remote : Counts) : Type 0 where
  pub of_side : side ≡ here
  pub each : (dir : Dir) (index : ℕ) → index < of dir remote → IsReached were here dir index

-- the same, as a fact of counts
abbrev Reach : (FrameValue → Type 0) → Side → Side → Counts → Counts → Type 0
Reach were here side limits remote = AreReached were here side remote

abbrev Reached : (FrameValue → Type 0) → Side → StreamsState → Type 0
Reached were here s = AreReached were here s.side s.opening.remote

-- so it is by more frames
reached_wider : (were more : FrameValue → Type 0) (here side : Side) (remote : Counts) → ((f : FrameValue) → were f → more f) → AreReached were here side remote → AreReached more here side remote
reached_wider were more here side remote wider i = record { of_side = i.of_side; each = λ dir index lt. (let r = i.each dir index lt in record { above = r.above; from = r.from; named = record { frame = r.named.frame; was = wider r.named.frame r.named.was; opens = r.named.opens } }) }

-- ---- a frame

-- with streams that the peer opens, one of a kind is below the new count, or was below the old one
below_either : (kind d : Dir) (n index : ℕ) (o : Opening) → index < of d (with_remote kind n o).remote → ((d ≡ kind) × (index < n)) ⊎ (index < of d o.remote)
below_either Bi Bi n index o lt = inl (refl, lt)
below_either Bi Uni n index o lt = inr lt
below_either Uni Bi n index o lt = inr lt
below_either Uni Uni n index o lt = inl (refl, lt)

-- a frame opens its stream
opened_reaches : (were : FrameValue → Type 0) (here : Side) (s : StreamsState) (id : ℕ) → IsNamedBy were id → Reached were here s → Reached were here (opened_by s id)
opened_reaches were here s id named i = go (opens s id) refl
  where
    go : (b : Bool) → opens s id ≡ b → Reached were here (opened_if b id s)
    go false is = i
    go true is =
        let theirs : is_own here id ≡ false = subst (λ (side : Side). is_own side id ≡ false) i.of_side (past_remote s id is).0 in
        let whole : IsNamedBy were (stream_id (other_side here) (dir_of id) (index_of id)) = subst (λ (q : ℕ). IsNamedBy were q) (sym (peers_id here id theirs)) named in
        record {
          of_side = i.of_side;
          each = λ dir index lt. elim (below_either (dir_of id) dir (index_of id + 1) index s.opening lt) [
            | inl new ↦ (let below = new.1 in record { above = index_of id; from = omega arith; named = subst (λ (d : Dir). IsNamedBy were (stream_id (other_side here) d (index_of id))) (sym new.0) whole })
            | inr old ↦ i.each dir index old
          ];
        }

-- a count that is told opens none
allowed_reaches : (were : FrameValue → Type 0) (here : Side) (dir : Dir) (count : ℕ) (s : StreamsState) → Reached were here s → Reached were here (after_max_streams dir count s)
allowed_reaches were here dir count s i = cond_both (nat_le count most_streams && nat_lt (of dir s.opening.own_limit) count) (with_own_limit dir count s) s (Reached were here) (λ e. i) (λ e. i)

-- one of them
frame_reaches : (were : FrameValue → Type 0) (here : Side) (f : FrameValue) (e : End) → ((id : ℕ) → OpensStream f id → were f) → Reached were here e.streams → Reached were here (take_frame f e).end.streams
frame_reaches were here f e was i = frame_counts (Reach were here) f e (λ id opens. opened_reaches were here e.streams id (record { frame = f; was = was id opens; opens = opens }) i) (λ g is. allowed_reaches were here (dir_named g.one_way) g.count e.streams i) i

-- over the frames that are left of a packet
record Reaches (were : FrameValue → Type 0) (here : Side) (left : List FrameValue) (x : End) : Type 0 where
  among : (f : FrameValue) → In f left → (id : ℕ) → OpensStream f id → were f
  holds : Reached were here x.streams

-- all of a packet that are taken, or the first of them
frames_reach : (were : FrameValue → Type 0) (here : Side) (frames : List FrameValue) (e : End) → ((f : FrameValue) → In f frames → (id : ℕ) → OpensStream f id → were f) → Reached were here e.streams → Reached were here (passed frames e).end.streams
frames_reach were here frames e among i = (frames_leave (Reaches were here) step frames e (record { among = among; holds = i })).1.holds
  where
    step : (f : FrameValue) (left : List FrameValue) (x : End) → Reaches were here (f ∷ left) x → Reaches were here left (take_frame f x).end
    step f left x g = record { among = λ h j. g.among h (inr j); holds = frame_reaches were here f x (g.among f (inl refl)) g.holds }

-- PADDING opens none, so where a packet came from elsewhere these are its own frames
opens_at : (were : FrameValue → Type 0) (from : Bool) (frames : List FrameValue) → ((f : FrameValue) → In f frames → were f) → (f : FrameValue) → In f (frames_at from frames) → (id : ℕ) → OpensStream f id → were f
opens_at were from frames all f i id opens = elim (of_at from frames f i) [ inl there ↦ all f there | inr pads ↦ absurd (subst (λ (g : FrameValue). OpensStream g id) pads opens) ]

-- ---- packets

in_packets : (o : Option Packet) (p : Packet) (ps : List Packet) → In p ps → In p (and_packet o ps)
in_packets None p ps i = i
in_packets (Some q) p ps i = inr i

in_more : (o : Option Packet) (p q : Packet) (ps : List Packet) → In p (and_packet o ps) → In p (and_packet o (q ∷ ps))
in_more None p q ps i = inr i
in_more (Some r) p q ps (inl is) = inl is
in_more (Some r) p q ps (inr i) = inr (inr i)

-- ---- the group

-- the peer's streams at x are those that frames opened which came; while x is open, it closed at
-- none of them
record Holds (here : Side) (e : End) (j : Intake) : Type 0 where
  still : e.closing.state ≡ states.Open → j.part ≡ None
  reached : Reached (WasIn (came_in j)) here e.streams

pub record Openers (x y : Party) : Type 0 where
  pub still : x.end.closing.state ≡ states.Open → (came_to x y).part ≡ None
  pub reached : AreReached (WasIn (came_in (came_to x y))) x.side x.end.streams.side x.end.streams.opening.remote

module _ (B : Way) (packets : (x y : Party) → B x y → PacketsHold x y) (x y : Party) (call : Call) (a : Answer) (c : Calls B x y call a) (i : Openers x y) where
  abbrev came : Intake
  came = came_to x y

  -- what came before came still
  was : (new : Packet) (f : FrameValue) → WasIn (came_in came) f → WasIn (and_packet came.part (new ∷ came.took)) f
  was new f w = record { packet = w.packet; was_taken = in_more came.part w.packet new came.took w.was_taken; carried = w.carried }

  was_open : came.part ≡ None → (new : Packet) (f : FrameValue) → WasIn (came_in came) f → WasIn (new ∷ came.took) f
  was_open none new f w = record { packet = w.packet; was_taken = inr (subst (λ (o : Option Packet). In w.packet (and_packet o came.took)) none w.was_taken); carried = w.carried }

  -- each case of a delivery
  arrives : (now : ℕ) (s : Sent) (from : Bool) → Arrivals x.end now s.number s.frames (frames_at from s.frames) came (λ (o : Outcome) (j : Intake). Holds x.side o.end j)
  arrives now s from = record {
    ignored = λ reason. record { still = i.still; reached = i.reached };
    noted = λ state reason. record { still = i.still; reached = i.reached };
    takes = λ words state new none urged mark. record {
      still = λ open_now. i.still state;
      reached = frames_reach (WasIn (came_in (with_taken came s.number s.frames))) x.side (frames_at from s.frames) (begun x.end now s.number) (opens_at (WasIn (came_in (with_taken came s.number s.frames))) from s.frames (λ f j. record { packet = packet; was_taken = in_packets came.part packet (packet ∷ came.took) (inl refl); carried = j }))
          (reached_wider (WasIn (came_in came)) (WasIn (came_in (with_taken came s.number s.frames))) x.side x.end.streams.side x.end.streams.opening.remote (was packet) i.reached);
    };
    moves = λ p o same remote z opened k. by_migrated (λ (e : End). Holds x.side e (with_taken came s.number s.frames)) p o remote z (λ c. record { still = k.still; reached = k.reached }) (λ c most. record { still = k.still; reached = k.reached });
    drains = λ words state new close fault. record {
      still = λ open_now. cc;
      reached = frames_reach (WasIn (came_in (with_taken came s.number s.frames))) x.side (frames_at from s.frames) (begun x.end now s.number) (opens_at (WasIn (came_in (with_taken came s.number s.frames))) from s.frames (λ f j. record { packet = packet; was_taken = in_packets came.part packet (packet ∷ came.took) (inl refl); carried = j }))
          (reached_wider (WasIn (came_in came)) (WasIn (came_in (with_taken came s.number s.frames))) x.side x.end.streams.side x.end.streams.opening.remote (was packet) i.reached);
    };
    refuses = λ words state new f fault. record {
      still = λ open_now. cc;
      reached = frames_reach (WasIn (came_in (with_refused came s.number s.frames))) x.side (frames_at from s.frames) (begun x.end now s.number) (opens_at (WasIn (came_in (with_refused came s.number s.frames))) from s.frames (λ g j. record { packet = packet; was_taken = inl refl; carried = j }))
          (reached_wider (WasIn (came_in came)) (WasIn (came_in (with_refused came s.number s.frames))) x.side x.end.streams.side x.end.streams.opening.remote (was_open (i.still state) packet) i.reached);
    };
    exhausts = λ state. record { still = λ open_now. cc; reached = i.reached };
  }
    where
      packet : Packet
      packet = record { number = s.number; frames = s.frames }

  -- any other call opens none
  apart_holds : is_delivery call ≡ false → Holds x.side (after_call x.policy x.end y.given call a) came
  apart_holds apart = record { still = λ open_now. i.still (before open_now); reached = call_counts (Reach (WasIn (came_in came)) x.side) x.policy x.end y.given call a apart c.answer i.reached }
    where
      before : (after_call x.policy x.end y.given call a).closing.state ≡ states.Open → x.end.closing.state ≡ states.Open
      before open_now = elim (call_closes x.policy x.end y.given call a apart) [
        | inl k ↦ sym k.state ∙ open_now
        | inr shut ↦ absurd (shut.shut open_now)
      ]

  openers_step : Openers (called x y.given call a) y
  openers_step =
      let h : Holds x.side (called x y.given call a).end (came_to (called x y.given call a) y) = by_coming x y a c.joined c.served (meets y x (packets y x c.takes)) (Holds x.side) call c.answer (record {
        apart = apart_holds;
        none = λ delivery is. record { still = i.still; reached = i.reached };
        comes = λ delivery is s among from. arrives delivery.now s from;
      }) in
      record { still = h.still; reached = h.reached }

-- at the start the peer opened none
openers_first : (x y : Beginning) → Openers (begun_as x y) (begun_as y x)
openers_first x y = record { still = λ open_now. refl; reached = record { of_side = refl; each = none } }
  where
    none : (dir : Dir) (index : ℕ) → index < of dir (begun_as x y).end.streams.opening.remote → IsReached (WasIn (came_in (came_to (begun_as x y) (begun_as y x)))) x.side dir index
    none Bi index lt = absurd (omega arith)
    none Uni index lt = absurd (omega arith)

pub openers_group : (B : Way) → ((x y : Party) → B x y → PacketsHold x y) → Group B Openers
openers_group B packets = record {
  first = λ x y m there back. openers_first x y;
  writer = λ x y call a c i back. openers_step B packets x y call a c i;
  reader = λ x y call a c there i. record { still = i.still; reached = i.reached };
  shows = λ x y here there b back i j. record { still = i.still; reached = i.reached };
}

-- ---- the clause

-- one that is accepted is below the count of its kind
accepted_place : (dir : Dir) (s : StreamsState) (id : ℕ) → accept_answer dir s ≡ Some id → (index : ℕ) × (index < of dir s.opening.remote) × (id ≡ stream_id (other_side s.side) dir index)
accepted_place dir s id is = go (nat_lt (of dir s.opening.accepted) (of dir s.opening.remote)) refl is
  where
    next : Bool → Option ℕ × Opening
    next b = if b then (Some (stream_id (other_side s.side) dir (of dir s.opening.accepted)), record s.opening { accepted = more dir s.opening.accepted }) else (None, s.opening)

    go : (b : Bool) → nat_lt (of dir s.opening.accepted) (of dir s.opening.remote) ≡ b → (next b).0 ≡ Some id → (index : ℕ) × (index < of dir s.opening.remote) × (id ≡ stream_id (other_side s.side) dir index)
    go true lt is = (of dir s.opening.accepted, ltb-true (of dir s.opening.accepted) (of dir s.opening.remote) lt, (let same : stream_id (other_side s.side) dir (of dir s.opening.accepted) ≡ id = cc in sym same))
    go false lt is = cc

-- What it rests on at a place.
pub record SaysWhoOpened (G : Way) : Type 1 where
  pub openers : (x y : Party) → G x y → Openers x y

module _ (G : Way) (g : SaysWhoOpened G) (r : Run) (end : World) (honest : IsHonest r) (all : (side : Side) (i : ℕ) → AreServed r i → Placed G r end side i) where
  pub accepted_were_opened : AcceptedWereOpened r
  accepted_were_opened side i id dir served at = subst (λ (j : Intake). WasOpened (came_in j) side dir id) (sym (took_is r honest p.world i side p.sents p.theirs)) there
    where
      p : Placed G r end side i
      p = all side i served

      x : Party
      x = party_at r i p.world side p.sents

      y : Party
      y = party_at r i p.world (other_side side) p.theirs

      o : Openers x y
      o = g.openers x y p.gives

      given : (q : Option ℕ) → answers.Accept (Some id) ≡ answers.Accept q → q ≡ Some id
      given q is = cc

      there : WasOpened (came_in (came_to x y)) side dir id
      there =
          let place = accepted_place dir x.end.streams id (given (accept_answer dir x.end.streams) (answered r p.world end i side (calls.Accept dir) (answers.Accept (Some id)) p.goes_on at)) in
          let reached = o.reached.each dir place.0 place.1 in
          let named = reached.named in
          record {
            index = place.0;
            is = subst (λ (s : Side). id ≡ stream_id (other_side s) dir place.0) o.reached.of_side place.2;
            above = reached.above;
            from = reached.from;
            named = record { packet = named.was.packet; was_taken = named.was.was_taken; frame = named.frame; carried = named.was.carried; opens = named.opens };
          }
