-- Where an application is told nothing next, it was told of each stream that the peer opened: at
-- each place of an honest run.
use Rattle.std.proofs.Common.{◌≡◌, ℕ, ◌+◌, ◌<◌, ◌⊎◌, inl, inr, Bool, true, false, List, [], ◌∷◌, Option, Some, None, refl, sym, ap, ◌∙◌, subst, arith}
use Rattle.std.specs.Prelude.{nat_lt, nat_le, ◌==◌, ◌&&◌, if◌then◌else◌}
use Rattle.std.proofs.lemmas.Bool.{cond_both, ltb-true}
use Rattle.quic_wire_core.specs.declared.stream_id.Side.{Side}
use Rattle.quic_wire_core.specs.declared.stream_id.Dir.{Dir}
use Rattle.quic_wire_core.specs.declared.stream_id.Dir.TheVariants.{Bi, Uni}
use Rattle.quic_wire_core.specs.StreamId.{stream_id, other_side, dir_of, index_of}
use Rattle.quic_wire.specs.Value.{FrameValue}
use Rattle.quic_streams_parts.specs.declared.answers.StreamEvent.{StreamEvent}
use Rattle.quic_streams_parts.specs.declared.answers.StreamEvent.TheVariants as stream_events
use Rattle.quic_streams_parts.specs.Dirs.{Counts, Flags, of}
use Rattle.quic_streams_parts.specs.Events.{Events, with_opened, with_event}
use Rattle.quic_streams_state.specs.declared.state.StreamsState.{StreamsState}
use Rattle.quic_streams_state.specs.State.{Opening, room}
use Rattle.quic_streams_state.specs.Limits.{most_streams}
use Rattle.quic_streams_state.specs.Opening.{opens, opened_if, opened_by, with_remote, with_own_limit, after_max_streams}
use Rattle.quic_streams_state.specs.Telling.{Telling, passed, after_passing, told_behind, told_opened, told_writable, polled}
use Rattle.quic_machine.specs.declared.answers.Event.TheVariants as events
use Rattle.quic_machine.specs.declared.answers.State.TheVariants as states
use Rattle.quic_machine.specs.declared.run.Call.{Call}
use Rattle.quic_machine.specs.declared.run.Call.TheVariants as calls
use Rattle.quic_machine.specs.declared.run.Answer.{Answer}
use Rattle.quic_machine.specs.declared.run.Answer.TheVariants as answers
use Rattle.quic_machine.specs.Calls.{tells_message, tells_done, tells_of, streams_told, end_tells, message_told, confirmation_told, others_told, end_after_event}
use Rattle.quic_machine.specs.Tracking.{dir_named}
use Rattle.quic_machine.specs.End.{End}
use Rattle.quic_machine.specs.Receive.{Outcome, take_frame}
use Rattle.quic_machine.specs.FrameCases as frame_cases
use Rattle.quic_machine.specs.FrameCases.{begun, frames_keep}
use Rattle.quic_machine.specs.CallCases.{asks_event}
use Rattle.quic_machine.specs.Machine.{World, after_call}
use Rattle.quic_headline.specs.Runs.{Run, Told, Packet, Intake, In, and_told, folded}
use Rattle.quic_headline.specs.Observer.{Sent, took}
use Rattle.quic_headline.specs.Headline.{IsHonest, IsRun}
use Rattle.quic_headline.specs.Ids.{and_packet, WasOpened}
use Rattle.quic_headline.specs.Events.{tells_opened, Openings, no_openings, openings_told, heard_of, OpeningsAreTold}
use Rattle.quic_headline.proofs.Packets.Delivered.{Arrivals, frames_at, with_taken}
use Rattle.quic_headline.proofs.Packets.Group.{PacketsHold, meets}
use Rattle.quic_headline.proofs.Packets.Intakes.{folded_more}
use Rattle.quic_headline.proofs.Places.Parties.{told_of, Party, called, came_to}
use Rattle.quic_headline.proofs.Places.Groups.{Way, Nothing, And, Calls, Group, both}
use Rattle.quic_headline.proofs.Places.Coming.{came_same, by_coming}
use Rattle.quic_headline.proofs.Places.Openings.{took_is}
use Rattle.quic_headline.proofs.Places.Placed.{party_at, Placed, placed, answered}
use Rattle.quic_headline.proofs.Places.Everything as everything
use Rattle.quic_headline.proofs.Places.Theorems.{ready}
use Rattle.quic_headline.proofs.Halves.Ready.{Ready}
use Rattle.quic_headline.proofs.Halves.ReadGroup.{ReadsHold}
use Rattle.quic_headline.proofs.Halves.ReadClauses.{other_opens, opened_place}
use Rattle.quic_headline.proofs.Channel.Openers.{Openers, openers_group}
use Rattle.quic_headline.proofs.Channel.Counted.{Flagged, flagged_call, flagged_frame}
use Rattle.quic_headline.proofs.Packets.Moved.{by_migrated}

-- ---- what is to be told

module _ (dir : Dir) (n : ℕ) (was : Bool) where
  -- while it isn't to be told that the peer opened streams of a kind, it opened so many, and it
  -- wasn't to be told before
  abbrev Still : Side → Counts → Counts → Events → Type 0
  Still side limits remote ev = of dir ev.opened ≡ false → (of dir remote ≡ n) × (was ≡ false)

  still_more : (side : Side) (limits remote : Counts) (ev : Events) (event : StreamEvent) → Still side limits remote ev → Still side limits remote (with_event event ev)
  still_more side limits remote ev event h = h

  -- the peer opens streams of a kind
  still_opened : (kind : Dir) (count : ℕ) (o : Opening) (ev : Events) → (of dir ev.opened ≡ false → (of dir o.remote ≡ n) × (was ≡ false)) → of dir (with_opened kind ev).opened ≡ false → (of dir (with_remote kind count o).remote ≡ n) × (was ≡ false)
  still_opened kind count o ev h = go dir kind h
    where
      go : (d kind : Dir) → (of d ev.opened ≡ false → (of d o.remote ≡ n) × (was ≡ false)) → of d (with_opened kind ev).opened ≡ false → (of d (with_remote kind count o).remote ≡ n) × (was ≡ false)
      go Bi Bi h is = cc
      go Bi Uni h is = h is
      go Uni Bi h is = h is
      go Uni Uni h is = cc

  opened_still : (s : StreamsState) (id : ℕ) → Flagged Still still_more s → Flagged Still still_more (opened_by s id)
  opened_still s id h = go (opens s id)
    where
      go : (b : Bool) → Flagged Still still_more (opened_if b id s)
      go false = h
      go true = still_opened (dir_of id) (index_of id + 1) s.opening s.events h

  allowed_still : (d : Dir) (count : ℕ) (s : StreamsState) → Flagged Still still_more s → Flagged Still still_more (after_max_streams d count s)
  allowed_still d count s h = cond_both (nat_le count most_streams && nat_lt (of d s.opening.own_limit) count) (with_own_limit d count s) s (Flagged Still still_more) (λ e. h) (λ e. h)

  frame_still : (f : FrameValue) (e : End) → Flagged Still still_more e.streams → Flagged Still still_more (take_frame f e).end.streams
  frame_still f e h = flagged_frame Still still_more f e (λ id names. opened_still e.streams id h) (λ g is. allowed_still (dir_named g.one_way) g.count e.streams h) h

  frames_still : (frames : List FrameValue) (e : End) → Flagged Still still_more e.streams → Flagged Still still_more (frame_cases.passed frames e).end.streams
  frames_still frames e h = frames_keep (λ (x : End). Flagged Still still_more x.streams) frame_still frames e h

-- ---- an event

module _ (s : StreamsState) where
  -- what is told of streams next is that the peer opened some of a kind, or that stays to be told
  abbrev Stays : Dir → Telling → Type 0
  Stays dir t = (t.answer ≡ Some (stream_events.Opened dir)) ⊎ (of dir t.state.events.opened ≡ false → of dir s.events.opened ≡ false)

  behind_stays : (dir : Dir) (o : Option ℕ) (t : StreamsState) → t.events.opened ≡ s.events.opened → Stays dir (told_behind o t)
  behind_stays dir None t same = inr (λ is. sym (ap (λ (f : Flags). of dir f) same) ∙ is)
  behind_stays dir (Some id) t same = inr (λ is. sym (ap (λ (f : Flags). of dir f) same) ∙ is)

  writable_stays : (dir : Dir) → Stays dir (told_writable s)
  writable_stays dir = cond_both (room s.sending == 0) _ _ (Stays dir) (λ e. inr (λ is. is)) (λ e. behind_stays dir (passed s.sending.blocked s.sending.halves.live).found (after_passing s (passed s.sending.blocked s.sending.halves.live)) refl)

  polled_stays : (dir : Dir) → Stays dir (polled s)
  polled_stays dir = go dir s.events.opened.bi s.events.opened.uni (writable_stays dir)
    where
      go : (dir : Dir) (b c : Bool) → Stays dir (told_writable s) → Stays dir (if b then told_opened Bi s else (if c then told_opened Uni s else told_writable s))
      go Bi true c other = inl refl
      go Bi false true other = inr (λ is. is)
      go Bi false false other = other
      go Uni true c other = inr (λ is. is)
      go Uni false true other = inl refl
      go Uni false false other = other

-- a call that asks what is told next is told that, or it stays to be told
event_stays : (dir : Dir) (e : End) → (tells_opened dir calls.Event (answers.Event (end_tells e)) ≡ true) ⊎ (of dir (end_after_event e).streams.events.opened ≡ false → of dir e.streams.events.opened ≡ false)
event_stays dir e = go (tells_message e) (tells_done e)
  where
    told_now : (dir : Dir) → tells_opened dir calls.Event (answers.Event (Some (events.Stream (stream_events.Opened dir)))) ≡ true
    told_now Bi = refl
    told_now Uni = refl

    go : (b c : Bool) → (tells_opened dir calls.Event (answers.Event (if b then Some events.Message else (if c then Some events.HandshakeConfirmed else tells_of (streams_told e).answer e.closing))) ≡ true) ⊎ (of dir (if b then message_told e else (if c then confirmation_told e else others_told e)).streams.events.opened ≡ false → of dir e.streams.events.opened ≡ false)
    go true c = inr (λ is. is)
    go false true = inr (λ is. is)
    go false false = elim (polled_stays e.streams dir) [
      | inl told ↦ inl (ap (λ (o : _). tells_opened dir calls.Event (answers.Event (tells_of o e.closing))) told ∙ told_now dir)
      | inr stays ↦ inr stays
    ]

-- ---- the group

-- what x has heard of that the peer opened
abbrev pub openings_of : Dir → Party → Party → Openings
openings_of dir x y = folded (openings_told x.policy y.final dir) x.told no_openings

same_intake : (p : _) (given : List (List ℕ)) (dir : Dir) (told : List Told) (o : Openings) → (folded (openings_told p given dir) told o).intake ≡ folded (and_told p given) told o.intake
same_intake p given dir [] o = refl
same_intake p given dir (t ∷ told) o = same_intake p given dir told (openings_told p given dir t o)

-- while it isn't to be told that the peer opened streams of a kind, it was told of each
pub record Heard (dir : Dir) (x y : Party) : Type 0 where
  pub heard : of dir x.end.streams.events.opened ≡ false → (id : ℕ) → WasOpened (came_to x y).took x.side dir id → WasOpened (openings_of dir x y).heard x.side dir id

-- What it rests on.
pub record IsHearing (B : Way) : Type 1 where
  pub packets : (x y : Party) → B x y → PacketsHold x y
  pub reads : (x y : Party) → B x y → ReadsHold x y
  pub openers : (x y : Party) → B x y → Openers x y

module _ (B : Way) (b : IsHearing B) (dir : Dir) (x y : Party) where
  -- what is heard behind a call
  heard_more : (call : Call) (a : Answer) → (openings_of dir (called x y.given call a) y).heard ≡ (if tells_opened dir call a then (came_to x y).took else (openings_of dir x y).heard)
  heard_more call a =
      ap (λ (o : Openings). o.heard) (folded_more (openings_told x.policy y.final dir) x.told (told_of call a x.end.closing.state) no_openings)
      ∙ ap (λ (j : Intake). if tells_opened dir call a then j.took else (openings_of dir x y).heard) (same_intake x.policy y.final dir x.told no_openings)

  -- what a call leaves that tells none
  abbrev Leaves : End → Intake → Type 0
  Leaves e j = of dir e.streams.events.opened ≡ false → (of dir x.end.streams.events.opened ≡ false)
      × ((j.took ≡ (came_to x y).took) ⊎ ((x.end.closing.state ≡ states.Open) × (of dir e.streams.opening.remote ≡ of dir x.end.streams.opening.remote)))

  abbrev So : End → Type 0
  So e = of dir e.streams.events.opened ≡ false → (of dir e.streams.opening.remote ≡ of dir x.end.streams.opening.remote) × (of dir x.end.streams.events.opened ≡ false)

  call_leaves : (call : Call) (a : Answer) → Calls B x y call a → asks_event call ≡ false → Leaves (called x y.given call a).end (came_to (called x y.given call a) y)
  call_leaves call a c quiet = by_coming x y a c.joined c.served (meets y x (b.packets y x c.takes)) Leaves call c.answer (record {
    apart = λ apart is. ((flagged_call (Still dir (of dir x.end.streams.opening.remote) (of dir x.end.streams.events.opened)) (still_more dir (of dir x.end.streams.opening.remote) (of dir x.end.streams.events.opened)) x.policy x.end y.given call a apart c.answer (λ asks. cc) (λ is. (refl, is)) is).1, inl refl);
    none = λ delivery same is. (is, inl refl);
    comes = λ delivery same s among here. arrives delivery.now s here;
  })
    where
      all : (now : ℕ) (s : Sent) (here : Bool) → So (frame_cases.passed (frames_at here s.frames) (begun x.end now s.number)).end
      all now s here = frames_still dir (of dir x.end.streams.opening.remote) (of dir x.end.streams.events.opened) (frames_at here s.frames) (begun x.end now s.number) (λ is. (refl, is))

      arrives : (now : ℕ) (s : Sent) (here : Bool) → Arrivals x.end now s.number s.frames (frames_at here s.frames) (came_to x y) (λ (o : Outcome) (j : Intake). Leaves o.end j)
      arrives now s here = record {
        ignored = λ reason is. (is, inl refl);
        noted = λ state reason is. (is, inl refl);
        takes = λ words state new none urged mark is. ((all now s here is).1, inr (state, (all now s here is).0));
        moves = λ p o same remote z opened j. by_migrated (λ (e : End). Leaves e (with_taken (came_to x y) s.number s.frames)) p o remote z (λ c. j) (λ c most. j);
        drains = λ words state new close fault is. ((all now s here is).1, inr (state, (all now s here is).0));
        refuses = λ words state new f fault is. ((all now s here is).1, inl refl);
        exhausts = λ state is. (is, inl refl);
      }

  -- one that is opened was opened by a packet that was taken, while the end is open
  was_opened : Openers x y → x.end.closing.state ≡ states.Open → (packets : List Packet) (id : ℕ) → (w : WasOpened packets x.side dir id) → w.above < of dir x.end.streams.opening.remote → WasOpened (came_to x y).took x.side dir id
  was_opened o state packets id w lt =
      let reached = o.reached.each dir w.above lt in
      let from = w.from in
      let further = reached.from in
      let was = reached.named.was in
      record {
        index = w.index;
        is = w.is;
        above = reached.above;
        from = omega arith;
        named = record {
          packet = was.packet;
          was_taken = subst (λ (part : Option Packet). In was.packet (and_packet part (came_to x y).took)) (o.still state) was.was_taken;
          frame = reached.named.frame;
          carried = was.carried;
          opens = reached.named.opens;
        };
      }

  -- one that a frame opened is opened
  is_below : (o : ReadsHold y x) (id : ℕ) (w : WasOpened (came_to x y).took x.side dir id) → w.above < of dir x.end.streams.opening.remote
  is_below o id w =
      let brought = o.brought in
      let named = w.named in
      let opened = brought.opened named.frame (stream_id (other_side x.side) dir w.above) (record { packet = named.packet; was_taken = named.was_taken; carried = named.carried }) named.opens (other_opens x.side dir w.above) in
      ltb-true w.above (of dir x.end.streams.opening.remote) (sym (opened_place x.end.streams x.side dir w.above brought.of_side) ∙ opened)

module _ (B : Way) (b : IsHearing B) (dir : Dir) (x y : Party) (call : Call) (a : Answer) (c : Calls B x y call a) (h : Heard dir x y) where
  abbrev next : Party
  next = called x y.given call a

  -- where it isn't told of them
  unheard : Leaves B b dir x y next.end (came_to next y) → of dir next.end.streams.events.opened ≡ false → (id : ℕ) → WasOpened (came_to next y).took x.side dir id → WasOpened (openings_of dir x y).heard x.side dir id
  unheard leaves is id w = elim (leaves is).1 [
    | inl same ↦ h.heard (leaves is).0 id (subst (λ (ps : List Packet). WasOpened ps x.side dir id) same w)
    | inr more ↦ h.heard (leaves is).0 id (was_opened B b dir x y (b.openers x y c.gives) more.0 (came_to next y).took id w
        (subst (λ (n : ℕ). w.above < n) more.1 (is_below B b dir next y (b.reads y next c.takes_behind) id w)))
  ]

  heard_by : (tells : Bool) → tells_opened dir call a ≡ tells → ((tells ≡ true) × ((came_to next y).took ≡ (came_to x y).took)) ⊎ ((tells ≡ false) × Leaves B b dir x y next.end (came_to next y)) → Heard dir next y
  heard_by tells is either = record { heard = λ flag id w. subst (λ (ps : List Packet). WasOpened ps x.side dir id) (sym (heard_more B b dir x y call a ∙ ap (λ (t : Bool). if t then (came_to x y).took else (openings_of dir x y).heard) is)) (go tells either flag id w) }
    where
      go : (t : Bool) → ((t ≡ true) × ((came_to next y).took ≡ (came_to x y).took)) ⊎ ((t ≡ false) × Leaves B b dir x y next.end (came_to next y)) → of dir next.end.streams.events.opened ≡ false → (id : ℕ) → WasOpened (came_to next y).took x.side dir id
          → WasOpened (if t then (came_to x y).took else (openings_of dir x y).heard) x.side dir id
      go true (inl same) flag id w = subst (λ (ps : List Packet). WasOpened ps x.side dir id) same.1 w
      go true (inr leaves) flag id w = cc
      go false (inl same) flag id w = cc
      go false (inr leaves) flag id w = unheard leaves.1 flag id w

-- whether a call tells it, by what it is
quiet_tells : (dir : Dir) (call : Call) (a : Answer) → asks_event call ≡ false → tells_opened dir call a ≡ false
quiet_tells Bi calls.Event a quiet = cc
quiet_tells Uni calls.Event a quiet = cc
quiet_tells Bi call a quiet = refl
quiet_tells Uni call a quiet = refl

heard_step : (B : Way) (b : IsHearing B) (dir : Dir) (x y : Party) (call : Call) (a : Answer) → Calls B x y call a → Heard dir x y → Heard dir (called x y.given call a) y
heard_step B b dir x y calls.Event a c h = heard_by B b dir x y calls.Event a c h (tells_opened dir calls.Event a) refl (go (tells_opened dir calls.Event a) refl)
  where
    next : Party
    next = called x y.given calls.Event a

    same : (came_to next y).took ≡ (came_to x y).took
    same = ap (λ (j : Intake). j.took) (came_same x y calls.Event a refl)

    stays : (tells_opened dir calls.Event a ≡ true) ⊎ (of dir next.end.streams.events.opened ≡ false → of dir x.end.streams.events.opened ≡ false)
    stays = subst (λ (d : Answer). (tells_opened dir calls.Event d ≡ true) ⊎ (of dir (after_call x.policy x.end y.given calls.Event d).streams.events.opened ≡ false → of dir x.end.streams.events.opened ≡ false)) (sym c.answer) (event_stays dir x.end)

    go : (t : Bool) → tells_opened dir calls.Event a ≡ t → ((t ≡ true) × ((came_to next y).took ≡ (came_to x y).took)) ⊎ ((t ≡ false) × Leaves B b dir x y next.end (came_to next y))
    go true is = inl (refl, same)
    go false is = inr (refl, λ flag. elim stays [ inl told ↦ absurd (let clash : true ≡ false = sym told ∙ is in cc) | inr was ↦ (was flag, inl same) ])
heard_step B b dir x y call a c h = heard_by B b dir x y call a c h false (quiet_tells dir call a refl) (inr (refl, call_leaves B b dir x y call a c refl))

pub heard_group : (B : Way) → IsHearing B → (dir : Dir) → Group B (Heard dir)
heard_group B b dir = record {
  first = λ x y m there back. record { heard = λ flag id w. absurd w.named.was_taken };
  writer = λ x y call a c i back. heard_step B b dir x y call a c i;
  reader = λ x y call a c there i. record { heard = i.heard };
  shows = λ x y here there back b i j. record { heard = i.heard };
}

-- ---- the clause

abbrev Base : Way
Base = And (And (everything.All Ready ready) ReadsHold) Openers

base : Group Nothing Base
base = both Nothing (And (everything.All Ready ready) ReadsHold) Openers (everything.all_read Ready ready) (openers_group (And Nothing (And (everything.All Ready ready) ReadsHold)) (λ x y h. h.1.0.0.0))

-- where it is told nothing next, it isn't to be told that the peer opened streams
nothing_opened : (dir : Dir) (e : End) → answers.Event None ≡ answers.Event (end_tells e) → of dir e.streams.events.opened ≡ false
nothing_opened dir e is = go (tells_message e) (tells_done e) is
  where
    flags : (b c : Bool) → e.streams.events.opened.bi ≡ b → e.streams.events.opened.uni ≡ c → answers.Event None ≡ answers.Event (tells_of (if b then told_opened Bi e.streams else (if c then told_opened Uni e.streams else told_writable e.streams)).answer e.closing) → (d : Dir) → of d e.streams.events.opened ≡ false
    flags true c at_bi at_uni is d = cc
    flags false true at_bi at_uni is d = cc
    flags false false at_bi at_uni is Bi = at_bi
    flags false false at_bi at_uni is Uni = at_uni

    go : (b c : Bool) → answers.Event None ≡ answers.Event (if b then Some events.Message else (if c then Some events.HandshakeConfirmed else tells_of (streams_told e).answer e.closing)) → of dir e.streams.events.opened ≡ false
    go true c is = cc
    go false true is = cc
    go false false is = flags e.streams.events.opened.bi e.streams.events.opened.uni refl refl is dir

pub openings_are_told : (r : Run) (end : World) → IsHonest r → IsRun r end → OpeningsAreTold r
openings_are_told r end honest run side i id dir served at opened = subst (λ (ps : List Packet). WasOpened ps side dir id) (sym same) there
  where
    All : Way
    All = And Base (Heard dir)

    all : Group Nothing All
    all = both Nothing Base (Heard dir) base (heard_group (And Nothing Base) (record { packets = λ x y h. h.1.0.0.0.0; reads = λ x y h. h.1.0.1; openers = λ x y h. h.1.1 }) dir)

    p : Placed All r end side i
    p = placed All all r end honest run side i served

    x : Party
    x = party_at r i p.world side p.sents

    y : Party
    y = party_at r i p.world (other_side side) p.theirs

    same : heard_of r side dir i ≡ (openings_of dir x y).heard
    same = refl

    came : took r side i ≡ (came_to x y).took
    came = ap (λ (j : Intake). j.took) (took_is r honest p.world i side p.sents p.theirs)

    there : WasOpened (openings_of dir x y).heard side dir id
    there = p.gives.1.heard (nothing_opened dir x.end (answered r p.world end i side calls.Event (answers.Event None) p.goes_on at)) id (subst (λ (ps : List Packet). WasOpened ps side dir id) came opened)
