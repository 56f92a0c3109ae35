-- Where an application is told nothing next, it was told of what came on each stream that it reads:
-- at each place of an honest run.
use Rattle.std.proofs.Common.{◌≡◌, ℕ, ◌⊎◌, inl, inr, Bool, true, false, not, ◌==◌, ◌&&◌, ◌||◌, List, [], ◌∷◌, ◌++◌, map, Option, Some, None, Ok, refl, sym, ap, ◌∙◌, subst}
use Rattle.std.specs.Prelude.{nat_lt, nat_le, if◌then◌else◌}
use Rattle.std.specs.List.{list_any}
use Rattle.std.specs.Option.{is_some}
use Rattle.std.proofs.lemmas.Bool.{cond_both, cond-true, cond-false, or_cases, or_from, or_left, or_right, and_parts, not-true, eqb-true, eq-eqb, false_from_ne_true, both_ways}
use Rattle.std.proofs.lemmas.List.{append-nil, append_assoc}
use Rattle.std.proofs.lemmas.List.Folds.{list_any-append}
use Rattle.quic_wire_core.specs.declared.stream_id.Side.{Side}
use Rattle.quic_wire_core.specs.declared.stream_id.Dir.{Dir}
use Rattle.quic_wire_core.specs.StreamId.{other_side}
use Rattle.quic_wire.specs.Value.{FrameValue, StreamValue, ResetStreamValue, stream, reset_stream, padding}
use Rattle.quic_streams_parts.specs.declared.answers.StreamEvent.{StreamEvent}
use Rattle.quic_streams_parts.specs.declared.answers.StreamEvent.TheVariants as stream_events
use Rattle.quic_streams_parts.specs.Dirs.{Counts, of, is_own}
use Rattle.quic_streams_parts.specs.Events.{Events, with_event, first_of, others_of}
use Rattle.quic_streams_parts.specs.Table.{at}
use Rattle.quic_streams_parts.specs.RecvHalf.{RecvHalf, new_recv_half, after_frame, after_reset_stream, end_of}
use Rattle.quic_streams_halves.specs.Halves.{Status, unknown, fresh, live, done, status_from, half_of, has_place}
use Rattle.quic_streams_state.specs.declared.state.StreamsState.{StreamsState}
use Rattle.quic_streams_state.specs.State.{is_opened, receives_on, receiving_half, receiving_status, first_window, room}
use Rattle.quic_streams_state.specs.Limits.{most_streams}
use Rattle.quic_streams_state.specs.Opening.{opens, opened_if, opened_by, with_own_limit, after_max_streams, receiving_refusal}
use Rattle.quic_streams_state.specs.Taking.{part_for, refusal, reset_breach, readable_if, renewed}
use Rattle.quic_streams_state.specs.Telling.{Telling, passed, after_passing, told_next, told_behind, told_writable, polled}
use Rattle.quic_streams_laws.specs.Content.{AllReceiving}
use Rattle.quic_streams_laws.specs.Each.{HalfIs}
use Rattle.quic_streams_laws.specs.KeepingLaws.{by_stream, by_reset_frame, stream_cases, reset_cases}
use Rattle.quic_streams_laws.specs.QuietLaws.{is_quiet}
use Rattle.quic_streams_laws.specs.StatusLaws.{GoesOn, each_kept}
use Rattle.quic_machine.specs.declared.answers.Event.TheVariants as events
use Rattle.quic_machine.specs.declared.answers.State.TheVariants as states
use Rattle.quic_machine.specs.declared.run.Call.{Call}
use Rattle.quic_machine.specs.declared.run.Call.TheVariants as calls
use Rattle.quic_machine.specs.declared.run.Answer.{Answer}
use Rattle.quic_machine.specs.declared.run.Answer.TheVariants as answers
use Rattle.quic_spaces.specs.Numbers.{number_opened}
use Rattle.quic_machine.specs.Calls.{tells_message, tells_done, tells_of, streams_told, end_tells, message_told, confirmation_told, others_told, end_after_event}
use Rattle.quic_machine.specs.Closing.{Closing, close_asked}
use Rattle.quic_machine.specs.Tracking.{dir_named}
use Rattle.quic_machine.specs.End.{End, with_numbers, closed_by, with_closing}
use Rattle.quic_machine.specs.Receive.{Fault, Outcome, reason_of, take_frame, take_items, unless_fault, exhausted, closed_by_peer}
use Rattle.quic_machine.specs.FrameCases as frame_cases
use Rattle.quic_machine.specs.FrameCases.{begun, frames_keep}
use Rattle.quic_machine.specs.Steps as steps
use Rattle.quic_machine.specs.CallCases.{asks_event}
use Rattle.quic_machine.specs.Machine.{World, after_call}
use Rattle.quic_machine.specs.IdFrames.{drawn}
use Rattle.quic_headline.specs.Runs.{Run, Told, Packet, Intake, In, OpensStream, and_told, folded, finished}
use Rattle.quic_headline.specs.Observer.{Sent, news}
use Rattle.quic_headline.specs.Headline.{IsHonest, IsRun}
use Rattle.quic_headline.specs.Unread.{stopped}
use Rattle.quic_headline.specs.Credit.{resets_stream, was_reset, is_read_up}
use Rattle.quic_headline.specs.Events.{brings_of, brings, tells_readable, is_reading, comes_to_read, Reading, no_reading, reading_behind, reading_told, reading, ReadablesAreTold}
use Rattle.quic_headline.proofs.Packets.Delivered.{Arrivals, with_taken, with_refused, frames_at, among_at}
use Rattle.quic_headline.proofs.Packets.Group.{PacketsHold, meets}
use Rattle.quic_headline.proofs.Packets.Intakes.{folded_more}
use Rattle.quic_headline.proofs.Packets.Watching.{none_new, one_new}
use Rattle.quic_headline.proofs.Places.Parties.{told_of, Party, called, came_to}
use Rattle.quic_headline.proofs.Places.Groups.{Way, Nothing, And, Calls, Group, both}
use Rattle.quic_headline.proofs.Places.Coming.{came_more, came_same, by_coming}
use Rattle.quic_headline.proofs.Places.Placed.{party_at, Placed, placed, answered}
use Rattle.quic_headline.proofs.Halves.Opened.{IsOpened, IsOf, opened_stays, side_stays}
use Rattle.quic_headline.proofs.Halves.Bringing.{Brought}
use Rattle.quic_headline.proofs.Halves.QuietSteps.{frame_quiet}
use Rattle.quic_headline.proofs.Halves.ReadGroup.{WasIn, ReadsHold}
use Rattle.quic_headline.proofs.Channel.Counted.{flagged_call, flagged_frame}
use Rattle.quic_headline.proofs.Channel.Received.{Stays as StaysUp}
use Rattle.quic_headline.proofs.Channel.Told.{stays_frame}
use Rattle.quic_headline.proofs.Channel.Within.{Within}
use Rattle.quic_headline.proofs.Credit.Clause.{Base, Credits, credited}
use Rattle.quic_headline.proofs.Credit.Counted.{IsAny, IsCounted, IsReadUp, Uses, grown, half_counts, frame_counts, up_more}
use Rattle.quic_headline.proofs.Credit.Lists.{Usage, usage, UsesMore, SaysFrame, told_uses, packet_uses, uses_then, frame_said, padding_said}
use Rattle.quic_headline.proofs.Unread.OpeningLasts.{lasts_any}
use Rattle.quic_headline.proofs.Unread.OpeningStatus.{IsDoneStatus, ReceivesNoMore, done_lasts}
use Rattle.quic_headline.proofs.Unread.Taken.{gone_there, no_fault, kept_before, unbroken_none}
use Rattle.quic_headline.proofs.Unread.Walk.{Of}
use Rattle.quic_headline.proofs.Packets.Owing.{IsAlone}
use Rattle.quic_headline.proofs.Packets.Bare.{closes_none}
use Rattle.quic_headline.proofs.Packets.Strays.{closed_at, same_at}
use Rattle.quic_headline.proofs.Packets.Moved.{by_migrated}
use Rattle.quic_machine.specs.DraftLaws.{IsClose}
use Rattle.quic_wire.specs.Close.{CloseValue}

-- ---- what is to be told

-- whether it is that a stream may be read
abbrev is_readable : ℕ → StreamEvent → Bool
is_readable id (stream_events.Readable s) = s == id
is_readable id event = false

abbrev pub HasReadable : ℕ → StreamsState → Type 0
HasReadable id s = list_any (is_readable id) s.events.queue ≡ true

module _ (id : ℕ) where
  -- the same, as a fact of what is to be told
  abbrev Has : Side → Counts → Counts → Events → Type 0
  Has side limits remote ev = list_any (is_readable id) ev.queue ≡ true

  has_more : (side : Side) (limits remote : Counts) (ev : Events) (event : StreamEvent) → Has side limits remote ev → Has side limits remote (with_event event ev)
  has_more side limits remote ev event h = list_any-append (is_readable id) ev.queue (event ∷ []) ∙ or_left (list_any (is_readable id) ev.queue) (list_any (is_readable id) (event ∷ [])) h

  opened_has : (s : StreamsState) (q : ℕ) → HasReadable id s → HasReadable id (opened_by s q)
  opened_has s q h = go (opens s q)
    where
      go : (b : Bool) → HasReadable id (opened_if b q s)
      go true = h
      go false = h

  allowed_has : (dir : Dir) (count : ℕ) (s : StreamsState) → HasReadable id s → HasReadable id (after_max_streams dir count s)
  allowed_has dir count s h = cond_both (nat_le count most_streams && nat_lt (of dir s.opening.own_limit) count) (with_own_limit dir count s) s (HasReadable id) (λ e. has_more s.side s.opening.own_limit s.opening.remote s.events (stream_events.Available dir) h) (λ e. h)

  frame_has : (f : FrameValue) (e : End) → HasReadable id e.streams → HasReadable id (take_frame f e).end.streams
  frame_has f e h = flagged_frame Has has_more f e (λ q names. opened_has e.streams q h) (λ g is. allowed_has (dir_named g.one_way) g.count e.streams h) h

  frames_have : (frames : List FrameValue) (e : End) → HasReadable id e.streams → HasReadable id (frame_cases.passed frames e).end.streams
  frames_have frames e h = frames_keep (λ (x : End). HasReadable id x.streams) frame_has frames e h

-- ---- an event

module _ (id : ℕ) (s : StreamsState) (c : Closing) where
  -- it is told that the stream may be read, or that stays to be told
  abbrev Stays : Telling → Type 0
  Stays t = (tells_readable id calls.Event (answers.Event (tells_of t.answer c)) ≡ true) ⊎ (HasReadable id s → HasReadable id t.state)

  -- where nothing is told, that isn't to be told
  abbrev Leaves : Telling → Type 0
  Leaves t = answers.Event None ≡ answers.Event (tells_of t.answer c) → HasReadable id s → ⊥

  by_id : (q : ℕ) (es : List StreamEvent) (b : Bool) → (q == id) ≡ b → ((q == id) ≡ true) ⊎ (((q == id) || list_any (is_readable id) es) ≡ true → list_any (is_readable id) es ≡ true)
  by_id q es true is = inl is
  by_id q es false is = inr (λ h. sym (ap (λ (b : Bool). b || list_any (is_readable id) es) is) ∙ h)

  -- the first is told
  pop : (queue : List StreamEvent) → (tells_readable id calls.Event (answers.Event (tells_of (first_of queue) c)) ≡ true) ⊎ (list_any (is_readable id) queue ≡ true → list_any (is_readable id) (others_of queue) ≡ true)
  pop [] = inr (λ h. cc)
  pop (stream_events.Readable q ∷ es) = by_id q es (q == id) refl
  pop (event ∷ es) = inr (λ h. h)

  none_left : (queue : List StreamEvent) → answers.Event None ≡ answers.Event (tells_of (first_of queue) c) → list_any (is_readable id) queue ≡ true → ⊥
  none_left [] is h = cc
  none_left (event ∷ es) is h = cc

  behind_stays : (o : Option ℕ) (t : StreamsState) → t.events ≡ s.events → Stays (told_next t) → Stays (told_behind o t)
  behind_stays None t same next = next
  behind_stays (Some q) t same next = inr (λ h. ap (λ (ev : Events). list_any (is_readable id) ev.queue) same ∙ h)

  behind_leaves : (o : Option ℕ) (t : StreamsState) → Leaves (told_next t) → Leaves (told_behind o t)
  behind_leaves None t next = next
  behind_leaves (Some q) t next = λ is h. cc

  writable_stays : Stays (told_writable s)
  writable_stays = cond_both (room s.sending == 0) _ _ Stays (λ e. pop s.events.queue) (λ e. behind_stays (passed s.sending.blocked s.sending.halves.live).found (after_passing s (passed s.sending.blocked s.sending.halves.live)) refl (pop s.events.queue))

  writable_leaves : Leaves (told_writable s)
  writable_leaves = cond_both (room s.sending == 0) _ _ Leaves (λ e. none_left s.events.queue) (λ e. behind_leaves (passed s.sending.blocked s.sending.halves.live).found (after_passing s (passed s.sending.blocked s.sending.halves.live)) (none_left s.events.queue))

  polled_stays : Stays (polled s)
  polled_stays = cond_both s.events.opened.bi _ _ Stays (λ e. inr (λ h. h)) (λ e. cond_both s.events.opened.uni _ _ Stays (λ f. inr (λ h. h)) (λ f. writable_stays))

  polled_leaves : Leaves (polled s)
  polled_leaves = cond_both s.events.opened.bi _ _ Leaves (λ e is h. cc) (λ e. cond_both s.events.opened.uni _ _ Leaves (λ f is h. cc) (λ f. writable_leaves))

-- a call that asks what is told next is told that, or it stays to be told
event_stays : (id : ℕ) (e : End) → (tells_readable id calls.Event (answers.Event (end_tells e)) ≡ true) ⊎ (HasReadable id e.streams → HasReadable id (end_after_event e).streams)
event_stays id e = go (tells_message e) (tells_done e)
  where
    go : (b c : Bool) → (tells_readable id calls.Event (answers.Event (if b then Some events.Message else (if c then Some events.HandshakeConfirmed else tells_of (streams_told e).answer e.closing))) ≡ true) ⊎ (HasReadable id e.streams → HasReadable id (if b then message_told e else (if c then confirmation_told e else others_told e)).streams)
    go true c = inr (λ h. h)
    go false true = inr (λ h. h)
    go false false = polled_stays id e.streams e.closing

-- where it is told nothing, it isn't to be told
nothing_readable : (id : ℕ) (e : End) → answers.Event None ≡ answers.Event (end_tells e) → HasReadable id e.streams → ⊥
nothing_readable id e is h = go (tells_message e) (tells_done e) is
  where
    go : (b c : Bool) → answers.Event None ≡ answers.Event (if b then Some events.Message else (if c then Some events.HandshakeConfirmed else tells_of (streams_told e).answer e.closing)) → ⊥
    go true c is = cc
    go false true is = cc
    go false false is = polled_leaves id e.streams e.closing is h

-- ---- halves that aren't stopped

abbrev IsUnhalted : Status RecvHalf → Type 0
IsUnhalted unknown = Unit {0}
IsUnhalted fresh = Unit {0}
IsUnhalted (live h) = h.stopped ≡ false
IsUnhalted done = Unit {0}

abbrev UnhaltedAt : ℕ → ℕ → Status RecvHalf → Type 0
UnhaltedAt id j x = j ≡ id → IsUnhalted x

unhalted_goes : (id : ℕ) → GoesOn (UnhaltedAt id)
unhalted_goes id = record { opens = λ j i same. tt; comes = λ j window i same. refl; told = λ j h n i same. i same; ends = λ j h i same. tt }

frame_leaves : (h : RecvHalf) (f : StreamValue) → h.stopped ≡ false → (after_frame h f).stopped ≡ false
frame_leaves h f is = cond_both h.stopped _ _ (λ (k : RecvHalf). k.stopped ≡ false) (λ e. is) (λ e. cond_both (is_some h.reset) _ _ (λ (k : RecvHalf). k.stopped ≡ false) (λ g. is) (λ g. is))

reset_leaves : (h : RecvHalf) (code size : ℕ) → h.stopped ≡ false → (after_reset_stream h code size).stopped ≡ false
reset_leaves h code size is = cond_both h.stopped _ _ (λ (k : RecvHalf). k.stopped ≡ false) (λ e. is) (λ e. cond_both (is_some h.reset) _ _ (λ (k : RecvHalf). k.stopped ≡ false) (λ g. is) (λ g. is))

-- What is known of a stream while frames come: this end opened it, or it is opened, and its half
-- isn't stopped.
record Facts (side : Side) (id : ℕ) (s : StreamsState) : Type 0 where
  of_side : s.side ≡ side
  opened : (is_own side id ≡ true) ⊎ IsOpened side id s
  half : AllReceiving (UnhaltedAt id) s

module _ (side : Side) (id : ℕ) where
  half_frame : (f : FrameValue) (e : End) → AllReceiving (UnhaltedAt id) e.streams → AllReceiving (UnhaltedAt id) (take_frame f e).end.streams
  half_frame f e i = frame_quiet (AllReceiving (UnhaltedAt id)) (is_quiet (AllReceiving (UnhaltedAt id)) (each_kept (UnhaltedAt id) (unhalted_goes id))) f e
      (λ g is. by_stream (AllReceiving (UnhaltedAt id)) (each_kept (UnhaltedAt id) (unhalted_goes id)) e.streams e.waiting.frames g (λ h a u j same. frame_leaves h g (j same)) i)
      (λ g is. by_reset_frame (AllReceiving (UnhaltedAt id)) (each_kept (UnhaltedAt id) (unhalted_goes id)) e.streams e.waiting.frames g (λ h a u j same. reset_leaves h g.code g.final_size (j same)) i)
      i

  facts_frame : (f : FrameValue) (e : End) → Facts side id e.streams → Facts side id (take_frame f e).end.streams
  facts_frame f e i = record {
    of_side = (lasts_any (IsOf side) (λ s dir may. tt) (side_stays side)).frame f e i.of_side;
    opened = elim i.opened [ inl own ↦ inl own | inr was ↦ inr ((lasts_any (IsOpened side id) (λ s dir may. tt) (opened_stays side id)).frame f e was) ];
    half = half_frame f e i.half;
  }

-- ---- a STREAM frame

-- one that tells
readable_has : (id : ℕ) (t : StreamsState) (b : Bool) → b ≡ false → HasReadable id (readable_if (true && not b) id t)
readable_has id t true is = cc
readable_has id t false is = list_any-append (is_readable id) t.events.queue (stream_events.Readable id ∷ []) ∙ or_right (list_any (is_readable id) t.events.queue) ((id == id) || false) (or_left (id == id) false (eq-eqb id id refl))

module _ (side : Side) (id : ℕ) (s : StreamsState) (i : Facts side id s) where
  -- no frame opens it
  none_opens : opens s id ≡ false
  none_opens = elim i.opened [ inl own ↦ by_own (is_own s.side id) (ap (λ (x : Side). is_own x id) i.of_side ∙ own) | inr was ↦ by_opened (is_opened s id) was.opened ]
    where
      by_own : (b : Bool) → b ≡ true → (not b && not (is_opened s id)) ≡ false
      by_own true is = refl
      by_own false is = cc

      by_opened : (b : Bool) → b ≡ true → (not (is_own s.side id) && not b) ≡ false
      by_opened true is = none (not (is_own s.side id))
        where
          none : (c : Bool) → (c && false) ≡ false
          none true = refl
          none false = refl
      by_opened false is = cc

  -- its half isn't stopped
  not_stopped : (h : RecvHalf) → part_for s id ≡ Some h → h.stopped ≡ false
  not_stopped h part = go (receiving_status s id) (i.half.each id refl) (subst (λ (b : Bool). receiving_half (opened_if b id s) id ≡ Some h) none_opens part)
    where
      go : (x : Status RecvHalf) → IsUnhalted x → half_of (new_recv_half (first_window s.receiving)) x ≡ Some h → h.stopped ≡ false
      go unknown u is = cc
      go fresh u is = (let same : new_recv_half (first_window s.receiving) ≡ h = cc in sym (ap (λ (k : RecvHalf). k.stopped) same))
      go (live k) u is = (let same : k ≡ h = cc in sym (ap (λ (k : RecvHalf). k.stopped) same) ∙ u)
      go done u is = cc

  -- it is done where there is none
  done_there : receiving_refusal s id ≡ None → part_for s id ≡ None → ReceivesNoMore id s
  done_there within none = record { shape = i.half.shape; each = λ j same. subst (λ (x : ℕ). IsDoneStatus (receiving_status s x)) (sym same) here }
    where
      gone : (at s.receiving.halves.live id ≡ None) × (has_place s.side s.receiving.halves.places id ≡ true)
      gone = gone_there s id within none

      go : (o : Option RecvHalf) (m used : Bool) → o ≡ None → used ≡ true → m ≡ true → IsDoneStatus (status_from o m used)
      go (Some h) m used a b c = cc
      go None true true a b c = tt
      go None true false a b c = cc
      go None false used a b c = cc

      here : IsDoneStatus (receiving_status s id)
      here = go (at s.receiving.halves.live id) (receives_on s.side id && is_opened s id) (has_place s.side s.receiving.halves.places id) gone.0 gone.1 (i.half.shape.receiving.allowed id gone.1)

-- a STREAM frame that is taken tells
stream_tells : (side : Side) (g : StreamValue) (e : End) → (take_frame (stream g) e).fault ≡ None → Facts side g.id e.streams → (ReceivesNoMore g.id e.streams → ⊥) → HasReadable g.id (take_frame (stream g) e).end.streams
stream_tells side g e none i alive =
    let allowed : refusal e.streams g.id (end_of g) g.fin ≡ None = kept_before (refusal e.streams g.id (end_of g) g.fin) e.streams g (no_fault _ none) in
    stream_cases e.streams e.waiting.frames g (HasReadable g.id)
    (λ b is. absurd (unbroken_none b (refusal e.streams g.id (end_of g) g.fin) allowed is))
    (λ within gone. absurd (alive (done_there side g.id e.streams i within gone)))
    (λ h within part u. readable_has g.id _ (h.stopped || opens e.streams g.id) (or_from h.stopped (opens e.streams g.id) (not_stopped side g.id e.streams i h part) (none_opens side g.id e.streams i)))

module _ (side : Side) (id : ℕ) where
  frame_tells : (f : FrameValue) (e : End) → (take_frame f e).fault ≡ None → brings_of id f ≡ true → Facts side id e.streams → (ReceivesNoMore id e.streams → ⊥) → HasReadable id (take_frame f e).end.streams
  frame_tells (stream g) e none is i alive =
      let same : g.id ≡ id = eqb-true g.id id is in
      subst (λ (q : ℕ). HasReadable q (take_frame (stream g) e).end.streams) same
      (stream_tells side g e none (subst (λ (q : ℕ). Facts side q e.streams) (sym same) i) (subst (λ (q : ℕ). ReceivesNoMore q e.streams → ⊥) (sym same) alive))
  frame_tells f e none is i alive = cc

  done_frames : (frames : List FrameValue) (e : End) → ReceivesNoMore id e.streams → ReceivesNoMore id (frame_cases.passed frames e).end.streams
  done_frames frames e i = frames_keep (λ (x : End). ReceivesNoMore id x.streams) (done_lasts id).frame frames e i

  -- of a packet that is taken, after which the half isn't done
  frames_tell : (frames : List FrameValue) (e : End) → (frame_cases.passed frames e).fault ≡ None → Facts side id e.streams → (ReceivesNoMore id (frame_cases.passed frames e).end.streams → ⊥) → (list_any (brings_of id) frames ≡ true) ⊎ HasReadable id e.streams
      → HasReadable id (frame_cases.passed frames e).end.streams
  frames_tell [] e none i alive (inl is) = cc
  frames_tell [] e none i alive (inr has) = has
  frames_tell (f ∷ fs) e none i alive either = go (take_frame f e).fault refl none alive (λ rest after on more. frames_tell fs (take_frame f e).end rest after on more)
    where
      now : (take_frame f e).fault ≡ None → (ReceivesNoMore id (frame_cases.passed fs (take_frame f e).end).end.streams → ⊥) → (list_any (brings_of id) fs ≡ true) ⊎ HasReadable id (take_frame f e).end.streams
      now right alive = elim either [
        | inl is ↦ elim (or_cases (brings_of id f) (list_any (brings_of id) fs) is) [
          | inl here ↦ inr (frame_tells f e right here i (λ gone. alive (done_frames fs (take_frame f e).end ((done_lasts id).frame f e gone))))
          | inr later ↦ inl later
        ]
        | inr has ↦ inr (frame_has id f e has)
      ]

      go : (o : Option Fault) → (take_frame f e).fault ≡ o → (unless_fault o (take_frame f e) (take_items (map Ok fs))).fault ≡ None → (ReceivesNoMore id (unless_fault o (take_frame f e) (take_items (map Ok fs))).end.streams → ⊥)
          → ((frame_cases.passed fs (take_frame f e).end).fault ≡ None → Facts side id (take_frame f e).end.streams → (ReceivesNoMore id (frame_cases.passed fs (take_frame f e).end).end.streams → ⊥) → (list_any (brings_of id) fs ≡ true) ⊎ HasReadable id (take_frame f e).end.streams → HasReadable id (frame_cases.passed fs (take_frame f e).end).end.streams)
          → HasReadable id (unless_fault o (take_frame f e) (take_items (map Ok fs))).end.streams
      go None right rest alive later = later rest (facts_frame side id f e i) alive (now right alive)
      go (Some x) wrong rest alive later = let clash : Some x ≡ None = sym wrong ∙ rest in cc

-- ---- an end stays open

abbrev StaysOpen : End → Type 0
StaysOpen e = e.closing.state ≡ states.Open

open_settles : frame_cases.Settling StaysOpen
open_settles (steps.known n) e i = i
open_settles s e i = i

-- frames close none
frames_open : (frames : List FrameValue) (e : End) → StaysOpen e → StaysOpen (frame_cases.passed frames e).end
frames_open frames e is = frames_keep StaysOpen (frame_cases.frame_keeps StaysOpen (record {
  ack = λ rises a x i. frame_cases.acked_keeps StaysOpen open_settles rises a (frame_cases.named a x) i;
  on_streams = λ f x on i. frame_cases.frame_leaves StaysOpen f x on (λ t. i);
  apart = λ f x is i. frame_cases.apart_leaves StaysOpen f x is (λ c. i) (λ c most. i);
  message = λ m x i. i;
})) frames e is

-- ---- the first RESET_STREAM frame

-- what is known of one that is done
spent_at : (N : Type 0) (Q : RecvHalf → Type 0) (D : Type 0) (o : Option RecvHalf) (m used : Bool) → IsDoneStatus (status_from o m used) → HalfIs N Q D o used → D
spent_at N Q D (Some h) m used is c = absurd is
spent_at N Q D None true true is c = c
spent_at N Q D None true false is c = absurd is
spent_at N Q D None false used is c = absurd is

-- one that is taken tells, where nothing of the stream was read up by what was used of it
reset_tells : (side : Side) (wide each_wide : ℕ) (before : StreamsState) (u : Usage) (g : ResetStreamValue) (e : End) → (take_frame (reset_stream g) e).fault ≡ None → Facts side g.id e.streams → Of (Uses wide each_wide u) e.streams → (IsReadUp u g.id → ⊥)
    → HasReadable g.id (take_frame (reset_stream g) e).end.streams
reset_tells side wide each_wide before u g e none i uses unread =
    let allowed : reset_breach e.streams g ≡ None = no_fault _ none in
    reset_cases e.streams e.waiting.frames g (HasReadable g.id)
    (λ b is. absurd (unbroken_none b (reset_breach e.streams g) allowed is))
    (λ within gone. absurd (alive (done_there side g.id e.streams i within gone)))
    (λ h within part kept. first h (subst (λ (b : Bool). receiving_half (opened_if b g.id e.streams) g.id ≡ Some h) (none_opens side g.id e.streams i) part) (or_from h.stopped (opens e.streams g.id) (not_stopped side g.id e.streams i h part) (none_opens side g.id e.streams i)))
  where
    alive : ReceivesNoMore g.id e.streams → ⊥
    alive gone = unread (spent_at (IsAny g.id) (IsCounted u g.id) _ (at e.streams.receiving.halves.live g.id) (receives_on e.streams.side g.id && is_opened e.streams g.id) (has_place e.streams.side e.streams.receiving.halves.places g.id) (gone.each g.id refl) (uses.sums.each g.id)).2

    uncut : (h : RecvHalf) → receiving_half e.streams g.id ≡ Some h → is_some h.reset ≡ false
    uncut h here = false_from_ne_true (is_some h.reset) (λ is. unread (or_right (u.ended g.id) (u.halted g.id || u.cut g.id) (or_right (u.halted g.id) (u.cut g.id) ((half_counts wide each_wide before u e.streams g.id h here uses).cut is))))

    first : (h : RecvHalf) → receiving_half e.streams g.id ≡ Some h → (h.stopped || opens e.streams g.id) ≡ false → HasReadable g.id (renewed e.streams g.id h (after_reset_stream h g.code g.final_size) (not (is_some h.reset)))
    first h here quiet = subst (λ (b : Bool). HasReadable g.id (renewed e.streams g.id h (after_reset_stream h g.code g.final_size) (not b))) (sym (uncut h here)) (readable_has g.id _ (h.stopped || opens e.streams g.id) quiet)

-- what these lists say, where this stream was reset only as is said here
abbrev but_reset : ℕ → Bool → Usage → Usage
but_reset id was u = record { top = u.top; read = u.read; halted = u.halted; cut = λ j. if j == id then was else u.cut j; ended = u.ended; sized = u.sized }

-- where it is as it was before a packet, no less was used
but_more : (id : ℕ) (p : Packet) (packets : List Packet) (ts : List Told) → UsesMore (usage packets ts) (but_reset id (was_reset id packets) (usage (p ∷ packets) ts))
but_more id p packets ts =
    let m : UsesMore (usage packets ts) (usage (p ∷ packets) ts) = packet_uses p packets ts in
    record { top = λ j. m.top j; read = λ j. m.read j; halted = λ j is. m.halted j is; cut = λ j is. go j (j == id) refl is (m.cut j is); ended = λ j is. m.ended j is; sized = λ j is. m.sized j is }
  where
    go : (j : ℕ) (b : Bool) → (j == id) ≡ b → was_reset j packets ≡ true → was_reset j (p ∷ packets) ≡ true → (if b then was_reset id packets else was_reset j (p ∷ packets)) ≡ true
    go j true same was now = subst (λ (q : ℕ). was_reset q packets ≡ true) (eqb-true j id same) was
    go j false apart was now = now

-- and so say its frames that don't reset the stream
but_says : (id : ℕ) (was : Bool) (u : Usage) (f : FrameValue) → resets_stream id f ≡ false → SaysFrame u f → SaysFrame (but_reset id was u) f
but_says id was u f other says = record {
  brings = λ g is. says.brings g is;
  resets = λ g is. (
      let said = says.resets g is in
      let apart : (g.id == id) ≡ false = sym (ap (resets_stream id) is) ∙ other in
      (said.0, cond-false (g.id == id) was (u.cut g.id) apart ∙ said.1, said.2));
}

module _ (side : Side) (id wide each_wide : ℕ) (before : StreamsState) (u : Usage) (unread : IsReadUp u id → ⊥) where
  frame_resets : (f : FrameValue) (e : End) → (take_frame f e).fault ≡ None → resets_stream id f ≡ true → Facts side id e.streams → Of (Uses wide each_wide u) e.streams → HasReadable id (take_frame f e).end.streams
  frame_resets (reset_stream g) e none is i uses =
      let same : g.id ≡ id = eqb-true g.id id is in
      subst (λ (q : ℕ). HasReadable q (take_frame (reset_stream g) e).end.streams) same
      (reset_tells side wide each_wide before u g e none (subst (λ (q : ℕ). Facts side q e.streams) (sym same) i) uses (subst (λ (q : ℕ). IsReadUp u q → ⊥) (sym same) unread))
  frame_resets f e none is i uses = cc

  -- of a packet that is taken
  resets_tell : (frames : List FrameValue) (e : End) → (frame_cases.passed frames e).fault ≡ None → Facts side id e.streams → StaysUp before e.streams → Of (Uses wide each_wide u) e.streams → ((f : FrameValue) → In f frames → resets_stream id f ≡ false → SaysFrame u f)
      → list_any (resets_stream id) frames ≡ true → HasReadable id (frame_cases.passed frames e).end.streams
  resets_tell [] e none i stays uses says is = cc
  resets_tell (f ∷ fs) e none i stays uses says is = go (take_frame f e).fault refl none (λ right rest. step (resets_stream id f) refl right rest (λ other.
      resets_tell fs (take_frame f e).end rest (facts_frame side id f e i) (stays_frame before f e stays) (frame_counts wide each_wide before u f e (says f (inl refl) other) stays uses) (λ g among. says g (inr among))
      (elim (or_cases (resets_stream id f) (list_any (resets_stream id) fs) is) [ inl it ↦ absurd (both_ways (resets_stream id f) other it) | inr later ↦ later ])))
    where
      step : (b : Bool) → resets_stream id f ≡ b → (take_frame f e).fault ≡ None → (frame_cases.passed fs (take_frame f e).end).fault ≡ None → (resets_stream id f ≡ false → HasReadable id (frame_cases.passed fs (take_frame f e).end).end.streams)
          → HasReadable id (frame_cases.passed fs (take_frame f e).end).end.streams
      step true it right rest later = frames_have id fs (take_frame f e).end (frame_resets f e right it i uses)
      step false other right rest later = later other

      go : (o : Option Fault) → (take_frame f e).fault ≡ o → (unless_fault o (take_frame f e) (take_items (map Ok fs))).fault ≡ None → ((take_frame f e).fault ≡ None → (frame_cases.passed fs (take_frame f e).end).fault ≡ None → HasReadable id (frame_cases.passed fs (take_frame f e).end).end.streams)
          → HasReadable id (unless_fault o (take_frame f e) (take_items (map Ok fs))).end.streams
      go None right rest later = later right rest
      go (Some x) wrong rest later = let clash : Some x ≡ None = sym wrong ∙ rest in cc

-- ---- the group

-- whether x is to be told that it may read a stream
abbrev pub reading_of : ℕ → Party → Party → Reading
reading_of id x y = folded (reading_told x.side x.policy y.final id) x.told no_reading

same_intake : (side : Side) (p : _) (given : List (List ℕ)) (id : ℕ) (told : List Told) (r : Reading) → (folded (reading_told side p given id) told r).intake ≡ folded (and_told p given) told r.intake
same_intake side p given id [] r = refl
same_intake side p given id (t ∷ told) r = same_intake side p given id told (reading_told side p given id t r)

same_told : (side : Side) (p : _) (given : List (List ℕ)) (id : ℕ) (told : List Told) (r : Reading) → (folded (reading_told side p given id) told r).told ≡ r.told ++ told
same_told side p given id [] r = sym (append-nil r.told)
same_told side p given id (t ∷ told) r = same_told side p given id told (reading_told side p given id t r) ∙ append_assoc r.told (t ∷ []) told

pub record Readied (id : ℕ) (x y : Party) : Type 0 where
  pub waits : (reading_of id x y).waits ≡ true → HasReadable id x.end.streams

-- What it rests on.
pub record IsReadying (B : Way) : Type 1 where
  pub packets : (x y : Party) → B x y → PacketsHold x y
  pub reads : (x y : Party) → B x y → ReadsHold x y
  pub credits : (x y : Party) → B x y → Credits x y
  pub within : (x y : Party) → B x y → Within x y

-- the status of a half that wasn't stopped, by what is known of it
unhalted_at : (u : Usage) (id : ℕ) (D : Type 0) (o : Option RecvHalf) (m used : Bool) → (u.halted id ≡ true → ⊥) → HalfIs (IsAny id) (IsCounted u id) D o used → IsUnhalted (status_from o m used)
unhalted_at u id D (Some h) m used none c = false_from_ne_true h.stopped (λ is. none (c.halted is))
unhalted_at u id D None true true none c = tt
unhalted_at u id D None true false none c = tt
unhalted_at u id D None false used none c = tt

module _ (B : Way) (b : IsReadying B) (id : ℕ) (x y : Party) (call : Call) (a : Answer) (c : Calls B x y call a) (h : Readied id x y) where
  abbrev next : Party
  next = called x y.given call a

  abbrev t : Told
  t = told_of call a x.end.closing.state

  abbrev came : Intake
  came = came_to x y

  -- what an end must show behind the call
  abbrev Shows : End → Intake → Type 0
  Shows e j = (HasReadable id x.end.streams → HasReadable id e.streams)
      × (brings id (news came j) ≡ true → is_reading x.side id came.took j.took (x.told ++ t ∷ []) ≡ true → (e.closing.state ≡ states.Open → ReceivesNoMore id e.streams → ⊥) → HasReadable id e.streams)
      × (was_reset id (news came j) ≡ true → is_reading x.side id came.took came.took (x.told ++ t ∷ []) ≡ true → HasReadable id e.streams)

  -- where nothing came
  quiet : (e : End) (j : Intake) → news came j ≡ [] → (HasReadable id x.end.streams → HasReadable id e.streams) → Shows e j
  quiet e j none keeps = (
    keeps,
    λ is reads alive. (let nothing : brings id (news came j) ≡ false = ap (brings id) none in let clash : false ≡ true = sym nothing ∙ is in cc),
    λ is reads. (let nothing : was_reset id (news came j) ≡ false = ap (was_reset id) none in let clash : false ≡ true = sym nothing ∙ is in cc),
  )

  -- while it is open and the stream is read on
  facts : x.end.closing.state ≡ states.Open → (is_own x.side id || brings id came.took) ≡ true → (is_read_up id came.took x.told ≡ true → ⊥) → Facts x.side id x.end.streams
  facts state there not_up = record {
    of_side = brought.of_side;
    opened = elim (or_cases (is_own x.side id) (brings id came.took) there) [ inl own ↦ inl own | inr was ↦ by_side (is_own x.side id) refl was ];
    half = record { shape = (b.reads y x c.takes).reads.shape; each = λ j same. subst (λ (q : ℕ). IsUnhalted (receiving_status x.end.streams q)) (sym same) here };
  }
    where
      brought : Brought x.side (WasIn (came_to x y).took) x.end.streams
      brought = (b.reads y x c.takes).brought

      in_frames : (fs : List FrameValue) → list_any (brings_of id) fs ≡ true → (f : FrameValue) × In f fs × (brings_of id f ≡ true)
      in_frames [] is = cc
      in_frames (f ∷ fs) is = elim (or_cases (brings_of id f) (list_any (brings_of id) fs) is) [ inl one ↦ (f, inl refl, one) | inr more ↦ (let found = in_frames fs more in (found.0, inr found.1, found.2)) ]

      in_packets : (ps : List Packet) → brings id ps ≡ true → (f : FrameValue) × WasIn ps f × (brings_of id f ≡ true)
      in_packets [] is = cc
      in_packets (q ∷ ps) is = elim (or_cases (list_any (brings_of id) q.frames) (brings id ps) is) [
        | inl one ↦ (let found = in_frames q.frames one in (found.0, record { packet = q; was_taken = inl refl; carried = found.1 }, found.2))
        | inr more ↦ (let found = in_packets ps more in (found.0, record { packet = found.1.packet; was_taken = inr found.1.was_taken; carried = found.1.carried }, found.2))
      ]

      named : (f : FrameValue) → brings_of id f ≡ true → OpensStream f id
      named (stream g) is = eqb-true g.id id is
      named f is = cc

      by_side : (own : Bool) → is_own x.side id ≡ own → brings id came.took ≡ true → (is_own x.side id ≡ true) ⊎ IsOpened x.side id x.end.streams
      by_side true is was = inl is
      by_side false is was = (let found = in_packets came.took was in inr (record { of_side = brought.of_side; opened = brought.opened found.0 id found.1 (named found.0 found.2) is }))

      uses : Of (Uses x.made.streams.receiving.window x.made.streams.receiving.stream_window (usage (came_to x y).took x.told)) x.end.streams
      uses = (b.credits y x c.takes).still state

      here : IsUnhalted (receiving_status x.end.streams id)
      here = unhalted_at (usage came.took x.told) id _ (at x.end.streams.receiving.halves.live id) (receives_on x.end.streams.side id && is_opened x.end.streams id) (has_place x.end.streams.side x.end.streams.receiving.halves.places id)
          (λ halted. not_up (or_right (finished id x.told) (stopped id x.told || was_reset id came.took) (or_left (stopped id x.told) (was_reset id came.took) halted))) (uses.sums.each id)

  arrives : (now : ℕ) (s : Sent) (here : Bool) → IsAlone s.frames → Arrivals x.end now s.number s.frames (frames_at here s.frames) came (λ (o : Outcome) (j : Intake). Shows o.end j)
  arrives now s here alone = record {
    ignored = λ reason. quiet x.end came (none_new came) (λ has. has);
    noted = λ state reason. quiet (with_closing (with_numbers x.end (number_opened x.end.numbers s.number)) (close_asked x.end.closing)) came (none_new came) (λ has. has);
    takes = λ words state new none urged mark. (frames_have id seen (begun x.end now s.number), λ is reads alive. taken state none is reads (alive (frames_open seen (begun x.end now s.number) state)), λ is reads. taken_reset state none is reads);
    moves = λ p o same remote z opened k. by_migrated (λ (e : End). Shows e (with_taken came s.number s.frames)) p o remote z (λ c. k) (λ c most. k);
    drains = λ words state new close is. (frames_have id seen (begun x.end now s.number), (λ brought reads alive. absurd (both_ways _ (none_brought close is) brought)), λ reset reads. absurd (both_ways _ (none_reset close is) reset));
    refuses = λ words state new f fault. quiet (drawn words (closed_by (reason_of f) (frame_cases.passed seen (begun x.end now s.number)).end)) (with_refused came s.number s.frames) (none_new came) (frames_have id seen (begun x.end now s.number));
    exhausts = λ state. quiet (exhausted now x.end) came (none_new came) (λ has. has);
  }
    where
      packet : Packet
      packet = record { number = s.number; frames = s.frames }

      seen : List FrameValue
      seen = frames_at here s.frames

      later : List Told
      later = x.told ++ t ∷ []

      -- a packet in which the peer closes brings nothing of streams
      none_of : (test : FrameValue → Bool) → test padding ≡ false → ((f : FrameValue) → IsClose f → test f ≡ false) → (close : CloseValue) → (frame_cases.passed seen (begun x.end now s.number)).fault ≡ Some (closed_by_peer close) → (list_any test s.frames || false) ≡ false
      none_of test pads each close is = ap (λ (b : Bool). b || false) (closes_none test pads each s.frames (closed_at here s.frames (begun x.end now s.number) close alone is))

      brings_not : (f : FrameValue) → IsClose f → brings_of id f ≡ false
      brings_not (stream f) close = absurd close
      brings_not f close = refl

      resets_not : (f : FrameValue) → IsClose f → resets_stream id f ≡ false
      resets_not (reset_stream f) close = absurd close
      resets_not f close = refl

      none_brought : (close : CloseValue) → (frame_cases.passed seen (begun x.end now s.number)).fault ≡ Some (closed_by_peer close) → brings id (news came (with_taken came s.number s.frames)) ≡ false
      none_brought close is = ap (brings id) (one_new came s.number s.frames) ∙ none_of (brings_of id) refl brings_not close is

      none_reset : (close : CloseValue) → (frame_cases.passed seen (begun x.end now s.number)).fault ≡ Some (closed_by_peer close) → was_reset id (news came (with_taken came s.number s.frames)) ≡ false
      none_reset close is = ap (was_reset id) (one_new came s.number s.frames) ∙ none_of (resets_stream id) refl resets_not close is

      taken : x.end.closing.state ≡ states.Open → (frame_cases.passed seen (begun x.end now s.number)).fault ≡ None → brings id (news came (with_taken came s.number s.frames)) ≡ true → is_reading x.side id came.took (packet ∷ came.took) (x.told ++ t ∷ []) ≡ true
          → (ReceivesNoMore id (frame_cases.passed seen (begun x.end now s.number)).end.streams → ⊥) → HasReadable id (frame_cases.passed seen (begun x.end now s.number)).end.streams
      taken state none is reads alive =
          let one : brings id (packet ∷ []) ≡ true = sym (ap (brings id) (one_new came s.number s.frames)) ∙ is in
          let parts = and_parts (is_own x.side id || brings id came.took) (not (is_read_up id (packet ∷ came.took) later)) reads in
          let f : Facts x.side id x.end.streams = facts state parts.0 (λ up. both_ways (is_read_up id (packet ∷ came.took) later) (not-true (is_read_up id (packet ∷ came.took) later) parts.1)
          (up_more (usage came.took x.told) (usage (packet ∷ came.took) later) (uses_then (usage came.took x.told) (usage (packet ∷ came.took) x.told) (usage (packet ∷ came.took) later) (packet_uses packet came.took x.told) (told_uses (packet ∷ came.took) x.told t)) id up)) in
          elim (or_cases (list_any (brings_of id) s.frames) false one) [
            | inl stands ↦ frames_tell x.side id seen (begun x.end now s.number) none f alive (inl (same_at (brings_of id) refl (λ token. refl) (λ token. refl) here s.frames ∙ stands))
            | inr never ↦ cc
          ]

      said : (g : FrameValue) → In g seen → SaysFrame (usage (packet ∷ came.took) later) g
      said = among_at (SaysFrame (usage (packet ∷ came.took) later)) (padding_said (usage (packet ∷ came.took) later)) here s.frames (frame_said packet came.took later)

      -- what was used, where the packet didn't reset the stream
      unreset : Usage
      unreset = but_reset id (was_reset id came.took) (usage (packet ∷ came.took) later)

      taken_reset : x.end.closing.state ≡ states.Open → (frame_cases.passed seen (begun x.end now s.number)).fault ≡ None → was_reset id (news came (with_taken came s.number s.frames)) ≡ true → is_reading x.side id came.took came.took (x.told ++ t ∷ []) ≡ true
          → HasReadable id (frame_cases.passed seen (begun x.end now s.number)).end.streams
      taken_reset state none is reads =
          let one : was_reset id (packet ∷ []) ≡ true = sym (ap (was_reset id) (one_new came s.number s.frames)) ∙ is in
          let parts = and_parts (is_own x.side id || brings id came.took) (not (is_read_up id came.took later)) reads in
          let unread : is_read_up id came.took later ≡ true → ⊥ = λ up. both_ways (is_read_up id came.took later) (not-true (is_read_up id came.took later) parts.1) up in
          let f : Facts x.side id x.end.streams = facts state parts.0 (λ up. unread (up_more (usage came.took x.told) (usage came.took later) (told_uses came.took x.told t) id up)) in
          let uses : Of (Uses x.made.streams.receiving.window x.made.streams.receiving.stream_window unreset) x.end.streams =
          grown x.made.streams.receiving.window x.made.streams.receiving.stream_window (usage came.took x.told) unreset (uses_then (usage came.took x.told) (usage came.took later) unreset (told_uses came.took x.told t) (but_more id packet came.took later)) x.end.streams ((b.credits y x c.takes).still state) in
          elim (or_cases (list_any (resets_stream id) s.frames) false one) [
            | inl stands ↦ resets_tell x.side id x.made.streams.receiving.window x.made.streams.receiving.stream_window x.end.streams unreset
                (λ up. unread (subst (λ (b : Bool). (finished id later || (stopped id later || b)) ≡ true) (cond-true (id == id) (was_reset id came.took) (was_reset id (packet ∷ came.took)) (eq-eqb id id refl)) up))
                seen (begun x.end now s.number) none f (b.within y x c.takes).stays uses (λ g among other. but_says id (was_reset id came.took) (usage (packet ∷ came.took) later) g other (said g among))
                (same_at (resets_stream id) refl (λ token. refl) (λ token. refl) here s.frames ∙ stands)
            | inr never ↦ cc
          ]

  shows : asks_event call ≡ false → Shows next.end (came_to next y)
  shows still = by_coming x y a c.joined c.served (meets y x (b.packets y x c.takes)) Shows call c.answer (record {
    apart = λ apart. quiet (after_call x.policy x.end y.given call a) came (none_new came) (flagged_call (Has id) (has_more id) x.policy x.end y.given call a apart c.answer (λ asks. cc));
    none = λ delivery is. quiet x.end came (none_new came) (λ has. has);
    comes = λ delivery is s among here. arrives delivery.now s here ((b.packets y x c.takes).alone s among);
  })

  -- an open end behind the call isn't done with it where it is read on
  not_done : is_reading x.side id came.took (came_to next y).took (x.told ++ t ∷ []) ≡ true → next.end.closing.state ≡ states.Open → ReceivesNoMore id next.end.streams → ⊥
  not_done reads state i =
      let uses = (b.credits y next c.takes_behind).still state in
      let spent = spent_at (IsAny id) (IsCounted (usage (came_to next y).took (x.told ++ t ∷ [])) id) _ (at next.end.streams.receiving.halves.live id) (receives_on next.end.streams.side id && is_opened next.end.streams id) (has_place next.end.streams.side next.end.streams.receiving.halves.places id) (i.each id refl) (uses.sums.each id) in
      let parts = and_parts (is_own x.side id || brings id came.took) (not (is_read_up id (came_to next y).took (x.told ++ t ∷ []))) reads in
      both_ways (is_read_up id (came_to next y).took (x.told ++ t ∷ [])) (not-true (is_read_up id (came_to next y).took (x.told ++ t ∷ [])) parts.1) spent.2

  -- whether it is to be told behind the call
  waits_more : (reading_of id next y).waits ≡ (if tells_readable id call a then false else (reading_of id x y).waits || comes_to_read x.side id came.took (news came (came_to next y)) (came_to next y).took (x.told ++ t ∷ []))
  waits_more =
      let r : Reading = reading_of id x y in
      ap (λ (r : Reading). r.waits) (folded_more (reading_told x.side x.policy y.final id) x.told t no_reading
      ∙ ap (λ (i : Intake). reading_told x.side x.policy y.final id t (record { intake = i; told = r.told; waits = r.waits })) (same_intake x.side x.policy y.final id x.told no_reading)
      ∙ ap (λ (ts : List Told). reading_told x.side x.policy y.final id t (record { intake = came; told = ts; waits = r.waits })) (same_told x.side x.policy y.final id x.told no_reading)
      ∙ ap (λ (j : Intake). reading_behind x.side id t (record { intake = came; told = x.told; waits = r.waits }) j) (sym (came_more x y call a)))

  -- behind a call that tells it, it isn't; and behind one that doesn't
  by_tells : (tells : Bool) → tells_readable id call a ≡ tells → (tells ≡ false → Shows next.end (came_to next y)) → Readied id next y
  by_tells tells is s = record { waits = λ on. go tells s (sym (waits_more ∙ ap (λ (b : Bool). if b then false else (reading_of id x y).waits || comes_to_read x.side id came.took (news came (came_to next y)) (came_to next y).took (x.told ++ t ∷ [])) is) ∙ on) }
    where
      go : (tells : Bool) → (tells ≡ false → Shows next.end (came_to next y)) → (if tells then false else (reading_of id x y).waits || comes_to_read x.side id came.took (news came (came_to next y)) (came_to next y).took (x.told ++ t ∷ [])) ≡ true → HasReadable id next.end.streams
      go true s on = cc
      go false s on = elim (or_cases (reading_of id x y).waits (comes_to_read x.side id came.took (news came (came_to next y)) (came_to next y).took (x.told ++ t ∷ [])) on) [
        | inl was ↦ (s refl).0 (h.waits was)
        | inr now ↦ elim (or_cases (brings id (news came (came_to next y)) && is_reading x.side id came.took (came_to next y).took (x.told ++ t ∷ [])) (was_reset id (news came (came_to next y)) && is_reading x.side id came.took came.took (x.told ++ t ∷ [])) now) [
          | inl came_on ↦ (let parts = and_parts (brings id (news came (came_to next y))) (is_reading x.side id came.took (came_to next y).took (x.told ++ t ∷ [])) came_on in (s refl).1 parts.0 parts.1 (not_done parts.1))
          | inr cut ↦ (let parts = and_parts (was_reset id (news came (came_to next y))) (is_reading x.side id came.took came.took (x.told ++ t ∷ [])) cut in (s refl).2 parts.0 parts.1)
        ]
      ]

quiet_tells : (id : ℕ) (call : Call) (a : Answer) → asks_event call ≡ false → tells_readable id call a ≡ false
quiet_tells id calls.Event a still = cc
quiet_tells id call a still = refl

readied_step : (B : Way) (b : IsReadying B) (id : ℕ) (x y : Party) (call : Call) (a : Answer) → Calls B x y call a → Readied id x y → Readied id (called x y.given call a) y
readied_step B b id x y calls.Event a c h = by_tells B b id x y calls.Event a c h (tells_readable id calls.Event a) refl (λ silent. quiet B b id x y calls.Event a c h next.end (came_to next y) none (keeps silent))
  where
    next : Party
    next = called x y.given calls.Event a

    none : news (came_to x y) (came_to next y) ≡ []
    none = ap (λ (j : Intake). news (came_to x y) j) (came_same x y calls.Event a refl) ∙ none_new (came_to x y)

    stays : (tells_readable id calls.Event a ≡ true) ⊎ (HasReadable id x.end.streams → HasReadable id next.end.streams)
    stays = subst (λ (d : Answer). (tells_readable id calls.Event d ≡ true) ⊎ (HasReadable id x.end.streams → HasReadable id (after_call x.policy x.end y.given calls.Event d).streams)) (sym c.answer) (event_stays id x.end)

    keeps : tells_readable id calls.Event a ≡ false → HasReadable id x.end.streams → HasReadable id next.end.streams
    keeps silent = elim stays [ inl told ↦ absurd (both_ways (tells_readable id calls.Event a) silent told) | inr on ↦ on ]
readied_step B b id x y call a c h = by_tells B b id x y call a c h false (quiet_tells id call a refl) (λ silent. shows B b id x y call a c h refl)

pub readied_group : (B : Way) → IsReadying B → (id : ℕ) → Group B (Readied id)
readied_group B b id = record {
  first = λ x y m there back. record { waits = λ on. cc };
  writer = λ x y call a c i back. readied_step B b id x y call a c i;
  reader = λ x y call a c there i. record { waits = i.waits };
  shows = λ x y here there back b i j. record { waits = i.waits };
}

-- ---- the clause

pub readables_are_told : (r : Run) (end : World) → IsHonest r → IsRun r end → ReadablesAreTold r
readables_are_told r end honest run side i id served event = told_so (reading r side id i).waits refl
  where
    All : Way
    All = And (And Base Credits) (Readied id)

    all : Group Nothing All
    all = both Nothing (And Base Credits) (Readied id) credited (readied_group (And Nothing (And Base Credits)) (record { packets = λ x y h. h.1.0.0.0.0.0.0; reads = λ x y h. h.1.0.1; credits = λ x y h. h.1.1; within = λ x y h. h.1.0.0.1.1 }) id)

    p : Placed All r end side i
    p = placed All all r end honest run side i served

    x : Party
    x = party_at r i p.world side p.sents

    y : Party
    y = party_at r i p.world (other_side side) p.theirs

    same : reading r side id i ≡ reading_of id x y
    same = refl

    told_so : (b : Bool) → (reading r side id i).waits ≡ b → (reading r side id i).waits ≡ false
    told_so false is = is
    told_so true is = absurd (nothing_readable id x.end (answered r p.world end i side calls.Event (answers.Event None) p.goes_on event) (p.gives.1.waits (sym (ap (λ (q : Reading). q.waits) same) ∙ is)))
