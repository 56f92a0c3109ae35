-- Where an application of an open end is told nothing next, it was told since the last count of
-- streams came that let it open more of a kind.
use Rattle.std.proofs.Common.{◌≡◌, ◌⊎◌, ℕ, ◌+◌, ◌≤◌, Bool, true, false, List, [], ◌∷◌, ◌++◌, Option, Some, None, refl, sym, ap, ◌∙◌, subst, inl, inr, arith}
use Rattle.std.specs.Prelude.{max, nat_lt, nat_le, ◌==◌, ◌&&◌, ◌||◌, if◌then◌else◌}
use Rattle.std.specs.List.{list_any}
use Rattle.std.proofs.lemmas.Bool.{cond_both}
use Rattle.quic_wire_core.specs.declared.stream_id.Side.{Side}
use Rattle.quic_wire_core.specs.declared.stream_id.Dir.{Dir}
use Rattle.quic_wire_core.specs.declared.stream_id.Dir.TheVariants.{Bi, Uni}
use Rattle.quic_wire_core.specs.StreamId.{other_side, dir_of, index_of}
use Rattle.quic_wire.specs.Value.{FrameValue}
use Rattle.quic_streams_parts.specs.declared.answers.StreamEvent.{StreamEvent}
use Rattle.quic_streams_parts.specs.declared.answers.StreamEvent.TheVariants as stream_events
use Rattle.quic_streams_parts.specs.Dirs.{Counts, of}
use Rattle.quic_streams_parts.specs.Events.{Events, with_event, first_of, others_of}
use Rattle.quic_streams_state.specs.declared.state.StreamsState.{StreamsState}
use Rattle.quic_streams_state.specs.State.{Opening, room}
use Rattle.quic_streams_state.specs.Limits.{most_streams}
use Rattle.quic_streams_state.specs.Opening.{opens, opened_if, opened_by, with_remote, with_own_limit, after_max_streams}
use Rattle.quic_streams_state.specs.Telling.{Telling, passed, after_passing, told_next, told_behind, told_opened, told_writable, polled}
use Rattle.quic_machine.specs.declared.answers.Event.TheVariants as events
use Rattle.quic_machine.specs.declared.answers.State.TheVariants as states
use Rattle.quic_machine.specs.declared.run.Call.{Call}
use Rattle.quic_machine.specs.declared.run.Call.TheVariants as calls
use Rattle.quic_machine.specs.declared.run.Answer.{Answer}
use Rattle.quic_machine.specs.declared.run.Answer.TheVariants as answers
use Rattle.quic_machine.specs.Policy.{Policy}
use Rattle.quic_machine.specs.Calls.{tells_message, tells_done, tells_of, streams_told, end_tells, message_told, confirmation_told, others_told, end_after_event}
use Rattle.quic_machine.specs.Tracking.{dir_named}
use Rattle.quic_machine.specs.End.{End}
use Rattle.quic_machine.specs.Receive.{Outcome, take_frame}
use Rattle.quic_machine.specs.FrameCases as frame_cases
use Rattle.quic_machine.specs.FrameCases.{begun, frames_keep}
use Rattle.quic_machine.specs.CallCases.{asks_event}
use Rattle.quic_machine.specs.Machine.{World, end_at}
use Rattle.quic_headline.specs.Runs.{Run, Told, Packet, Intake, and_told, folded}
use Rattle.quic_headline.specs.Observer.{Sent, took}
use Rattle.quic_headline.specs.Headline.{IsHonest, IsRun}
use Rattle.quic_headline.specs.Amounts.{greatest}
use Rattle.quic_headline.specs.PeerLimits.{count_in}
use Rattle.quic_headline.specs.Events.{tells_available, MayOpen, may_open_first, may_open_told, heard_available, AvailableIsTold}
use Rattle.quic_headline.proofs.Packets.Delivered.{Arrivals, frames_at}
use Rattle.quic_headline.proofs.Packets.Group.{PacketsHold, meets}
use Rattle.quic_headline.proofs.Packets.Intakes.{folded_more}
use Rattle.quic_headline.proofs.Packets.Moved.{by_migrated}
use Rattle.quic_headline.proofs.Places.Parties.{told_of, Party, called, came_to}
use Rattle.quic_headline.proofs.Places.Groups.{Way, Nothing, And, Calls, Group, both}
use Rattle.quic_headline.proofs.Places.Coming.{by_coming}
use Rattle.quic_headline.proofs.Places.Openings.{took_is}
use Rattle.quic_headline.proofs.Places.Placed.{party_at, Placed, placed, answered}
use Rattle.quic_headline.proofs.Places.Everything as everything
use Rattle.quic_headline.proofs.Places.Theorems.{ready}
use Rattle.quic_headline.proofs.Halves.Ready.{Ready}
use Rattle.quic_headline.proofs.Amounts.PeerLimits.{CountsKnown, counts_group}
use Rattle.quic_headline.proofs.Channel.Counted.{Flagged, flagged_call, flagged_frame}
use Rattle.quic_headline.proofs.Timers.Still.{was_open}

-- ---- what is to be told

-- whether an event tells that more streams of a kind may be opened
abbrev is_available : Dir → StreamEvent → Bool
is_available Bi (stream_events.Available Bi) = true
is_available Uni (stream_events.Available Uni) = true
is_available dir event = false

-- whether such a one waits
abbrev waits_for : Dir → List StreamEvent → Bool
waits_for dir queue = list_any (is_available dir) queue

-- where none does behind more, none did before
none_before : (dir : Dir) (queue : List StreamEvent) (event : StreamEvent) → waits_for dir (queue ++ event ∷ []) ≡ false → waits_for dir queue ≡ false
none_before dir [] event is = refl
none_before dir (e ∷ es) event is = go (is_available dir e) is (none_before dir es event)
  where
    go : (b : Bool) → (b || waits_for dir (es ++ event ∷ [])) ≡ false → (waits_for dir (es ++ event ∷ []) ≡ false → waits_for dir es ≡ false) → (b || waits_for dir es) ≡ false
    go true none more = cc
    go false none more = more none

-- and that one is none such
none_last : (dir : Dir) (queue : List StreamEvent) (event : StreamEvent) → waits_for dir (queue ++ event ∷ []) ≡ false → is_available dir event ≡ false
none_last dir [] event is = go (is_available dir event) is
  where
    go : (b : Bool) → (b || false) ≡ false → b ≡ false
    go true none = cc
    go false none = refl
none_last dir (e ∷ es) event is = go (is_available dir e) is (none_last dir es event)
  where
    go : (b : Bool) → (b || waits_for dir (es ++ event ∷ [])) ≡ false → (waits_for dir (es ++ event ∷ []) ≡ false → is_available dir event ≡ false) → is_available dir event ≡ false
    go true none more = cc
    go false none more = more none

-- streams that the peer opens are none of the own ones
remote_limit : (kind : Dir) (count : ℕ) (o : Opening) → (with_remote kind count o).own_limit ≡ o.own_limit
remote_limit Bi count o = refl
remote_limit Uni count o = refl

module _ (dir : Dir) (n : ℕ) (was : Bool) where
  -- while it isn't to be told so, as many may be opened as before, and it wasn't to be told
  abbrev Still : Side → Counts → Counts → Events → Type 0
  Still side limits remote ev = waits_for dir ev.queue ≡ false → (of dir limits ≡ n) × (was ≡ false)

  still_more : (side : Side) (limits remote : Counts) (ev : Events) (event : StreamEvent) → Still side limits remote ev → Still side limits remote (with_event event ev)
  still_more side limits remote ev event h none = h (none_before dir ev.queue event none)

  opened_still : (s : StreamsState) (id : ℕ) → Flagged Still still_more s → Flagged Still still_more (opened_by s id)
  opened_still s id h = go (opens s id)
    where
      go : (b : Bool) → Flagged Still still_more (opened_if b id s)
      go false = h
      go true = λ none. (let so = h none in (ap (λ (l : Counts). of dir l) (remote_limit (dir_of id) (index_of id + 1) s.opening) ∙ so.0, so.1))

  -- a count that lets more be opened is to be told
  raised_still : (d : Dir) (count : ℕ) (s : StreamsState) → Flagged Still still_more s → Flagged Still still_more (with_own_limit d count s)
  raised_still d count s h none = go dir d (h (none_before dir s.events.queue (stream_events.Available d) none)) (none_last dir s.events.queue (stream_events.Available d) none)
    where
      go : (kind other : Dir) → (of kind s.opening.own_limit ≡ n) × (was ≡ false) → is_available kind (stream_events.Available other) ≡ false → (of kind (with_own_limit other count s).opening.own_limit ≡ n) × (was ≡ false)
      go Bi Bi so last = cc
      go Bi Uni so last = so
      go Uni Bi so last = so
      go Uni Uni so last = cc

  allowed_still : (d : Dir) (count : ℕ) (s : StreamsState) → Flagged Still still_more s → Flagged Still still_more (after_max_streams d count s)
  allowed_still d count s h = cond_both (nat_le count most_streams && nat_lt (of d s.opening.own_limit) count) (with_own_limit d count s) s (Flagged Still still_more) (λ e. raised_still d count s h) (λ e. h)

  frame_still : (f : FrameValue) (e : End) → Flagged Still still_more e.streams → Flagged Still still_more (take_frame f e).end.streams
  frame_still f e h = flagged_frame Still still_more f e (λ id names. opened_still e.streams id h) (λ g is. allowed_still (dir_named g.one_way) g.count e.streams h) h

  frames_still : (frames : List FrameValue) (e : End) → Flagged Still still_more e.streams → Flagged Still still_more (frame_cases.passed frames e).end.streams
  frames_still frames e h = frames_keep (λ (x : End). Flagged Still still_more x.streams) frame_still frames e h

-- ---- an event

-- as many may be opened as before, and it wasn't to be told where it isn't
record Kept (dir : Dir) (s t : StreamsState) : Type 0 where
  limit : t.opening.own_limit ≡ s.opening.own_limit
  waits : waits_for dir t.events.queue ≡ false → waits_for dir s.events.queue ≡ false

module _ (s : StreamsState) where
  -- it is told that more may be opened of some kind, or that stays to be told
  abbrev Stays : Dir → Telling → Type 0
  Stays dir t = (t.answer ≡ Some (stream_events.Available dir)) ⊎ Kept dir s t.state

  -- what came first of the rest is told
  next_stays : (dir : Dir) (t : StreamsState) → t.events.queue ≡ s.events.queue → t.opening.own_limit ≡ s.opening.own_limit → Stays dir (told_next t)
  next_stays dir t queue limit = go t.events.queue refl
    where
      one : (dir : Dir) (e : StreamEvent) → is_available dir e ≡ true → e ≡ stream_events.Available dir
      one Bi (stream_events.Available Bi) is = refl
      one Uni (stream_events.Available Uni) is = refl
      one dir e is = cc

      first : (e : StreamEvent) (es : List StreamEvent) → t.events.queue ≡ e ∷ es → (b : Bool) → is_available dir e ≡ b → Stays dir (told_next t)
      first e es there true is = inl (ap (λ (q : List StreamEvent). first_of q) there ∙ ap (λ (x : StreamEvent). Some x) (one dir e is))
      first e es there false is = inr (record {
        limit = limit;
        waits = λ none. ap (waits_for dir) (sym queue ∙ there) ∙ ap (λ (b : Bool). b || waits_for dir es) is ∙ (ap (λ (q : List StreamEvent). waits_for dir (others_of q)) (sym there) ∙ none);
      })

      go : (q : List StreamEvent) → t.events.queue ≡ q → Stays dir (told_next t)
      go [] there = inr (record { limit = limit; waits = λ none. ap (waits_for dir) (sym queue ∙ there) })
      go (e ∷ es) there = first e es there (is_available dir e) refl

  behind_stays : (dir : Dir) (o : Option ℕ) (t : StreamsState) → t.events.queue ≡ s.events.queue → t.opening.own_limit ≡ s.opening.own_limit → Stays dir (told_behind o t)
  behind_stays dir None t queue limit = next_stays dir t queue limit
  behind_stays dir (Some id) t queue limit = inr (record { limit = limit; waits = λ none. ap (waits_for dir) (sym queue) ∙ none })

  writable_stays : (dir : Dir) → Stays dir (told_writable s)
  writable_stays dir = cond_both (room s.sending == 0) _ _ (Stays dir) (λ e. next_stays dir s refl refl) (λ e. behind_stays dir (passed s.sending.blocked s.sending.halves.live).found (after_passing s (passed s.sending.blocked s.sending.halves.live)) refl refl)

  polled_stays : (dir : Dir) → Stays dir (polled s)
  polled_stays dir = go s.events.opened.bi s.events.opened.uni
    where
      go : (b c : Bool) → Stays dir (if b then told_opened Bi s else (if c then told_opened Uni s else told_writable s))
      go true c = inr (record { limit = refl; waits = λ none. none })
      go false true = inr (record { limit = refl; waits = λ none. none })
      go false false = writable_stays dir

-- a call that asks what is told next is told that, or it stays to be told
event_stays : (dir : Dir) (e : End) → (tells_available dir calls.Event (answers.Event (end_tells e)) ≡ true) ⊎ Kept dir e.streams (end_after_event e).streams
event_stays dir e = go (tells_message e) (tells_done e)
  where
    told_now : (dir : Dir) → tells_available dir calls.Event (answers.Event (Some (events.Stream (stream_events.Available dir)))) ≡ true
    told_now Bi = refl
    told_now Uni = refl

    same : Kept dir e.streams e.streams
    same = record { limit = refl; waits = λ none. none }

    go : (b c : Bool) → (tells_available dir calls.Event (answers.Event (if b then Some events.Message else (if c then Some events.HandshakeConfirmed else tells_of (streams_told e).answer e.closing))) ≡ true)
        ⊎ Kept dir e.streams (if b then message_told e else (if c then confirmation_told e else others_told e)).streams
    go true c = inr same
    go false true = inr same
    go false false = elim (polled_stays e.streams dir) [
      | inl told ↦ inl (ap (λ (o : Option StreamEvent). tells_available dir calls.Event (answers.Event (tells_of o e.closing))) told ∙ told_now dir)
      | inr stays ↦ inr stays
    ]

-- whatever it is told, as many may be opened as before
event_limit : (dir : Dir) (e : End) → of dir (end_after_event e).streams.opening.own_limit ≡ of dir e.streams.opening.own_limit
event_limit dir e = go (tells_message e) (tells_done e)
  where
    Same : StreamsState → Type 0
    Same t = of dir t.opening.own_limit ≡ of dir e.streams.opening.own_limit

    found : (o : Option ℕ) (t : StreamsState) → Same t → Same (told_behind o t).state
    found None t same = same
    found (Some id) t same = same

    writable : Same (told_writable e.streams).state
    writable = cond_both (room e.streams.sending == 0) _ _ (λ (t : Telling). Same t.state) (λ is. refl) (λ is. found (passed e.streams.sending.blocked e.streams.sending.halves.live).found (after_passing e.streams (passed e.streams.sending.blocked e.streams.sending.halves.live)) refl)

    flags : (b c : Bool) → Same (if b then told_opened Bi e.streams else (if c then told_opened Uni e.streams else told_writable e.streams)).state
    flags true c = refl
    flags false true = refl
    flags false false = writable

    go : (b c : Bool) → Same (if b then message_told e else (if c then confirmation_told e else others_told e)).streams
    go true c = refl
    go false true = refl
    go false false = flags e.streams.events.opened.bi e.streams.events.opened.uni

-- where it is told nothing next, that isn't to be told
nothing_waits : (dir : Dir) (e : End) → answers.Event None ≡ answers.Event (end_tells e) → waits_for dir e.streams.events.queue ≡ false
nothing_waits dir e is = go (tells_message e) (tells_done e) is
  where
    empty : (q : List StreamEvent) → e.streams.events.queue ≡ q → first_of q ≡ None → waits_for dir e.streams.events.queue ≡ false
    empty [] there none = ap (waits_for dir) there
    empty (event ∷ more) there none = cc

    nothing_next : (o : Option ℕ) (t : StreamsState) → t.events.queue ≡ e.streams.events.queue → (told_behind o t).answer ≡ None → waits_for dir e.streams.events.queue ≡ false
    nothing_next None t queue none = empty e.streams.events.queue refl (ap (λ (q : List StreamEvent). first_of q) (sym queue) ∙ none)
    nothing_next (Some id) t queue none = cc

    writable : (told_writable e.streams).answer ≡ None → waits_for dir e.streams.events.queue ≡ false
    writable = cond_both (room e.streams.sending == 0) _ _ (λ (t : Telling). t.answer ≡ None → waits_for dir e.streams.events.queue ≡ false) (λ is none. empty e.streams.events.queue refl none)
        (λ is none. nothing_next (passed e.streams.sending.blocked e.streams.sending.halves.live).found (after_passing e.streams (passed e.streams.sending.blocked e.streams.sending.halves.live)) refl none)

    none_of : (o : Option StreamEvent) → answers.Event None ≡ answers.Event (tells_of o e.closing) → o ≡ None
    none_of None told = refl
    none_of (Some event) told = cc

    flags : (b c : Bool) → (if b then told_opened Bi e.streams else (if c then told_opened Uni e.streams else told_writable e.streams)).answer ≡ None → waits_for dir e.streams.events.queue ≡ false
    flags true c none = cc
    flags false true none = cc
    flags false false none = writable none

    go : (b c : Bool) → answers.Event None ≡ answers.Event (if b then Some events.Message else (if c then Some events.HandshakeConfirmed else tells_of (streams_told e).answer e.closing)) → waits_for dir e.streams.events.queue ≡ false
    go true c told = cc
    go false true told = cc
    go false false told = flags e.streams.events.opened.bi e.streams.events.opened.uni (none_of (streams_told e).answer told)

-- ---- the group

-- what x has heard of that it may open
abbrev may_open : Dir → Party → Party → MayOpen
may_open dir x y = folded (may_open_told x.policy y.final dir) x.told may_open_first

same_intake : (p : Policy) (given : List (List ℕ)) (dir : Dir) (told : List Told) (m : MayOpen) → (folded (may_open_told p given dir) told m).intake ≡ folded (and_told p given) told m.intake
same_intake p given dir [] m = refl
same_intake p given dir (t ∷ told) m = same_intake p given dir told (may_open_told p given dir t m)

-- as many as x may open where it has heard of this
abbrev limit_heard : Dir → Party → List Packet → ℕ
limit_heard dir x heard = max (of dir x.made.streams.opening.own_limit) (greatest (count_in dir) heard)

-- while an open end isn't to be told that it may open more, it has heard of as many
record HeardRoom (dir : Dir) (x y : Party) : Type 0 where
  heard : x.end.closing.state ≡ states.Open → waits_for dir x.end.streams.events.queue ≡ false → of dir x.end.streams.opening.own_limit ≤ limit_heard dir x (may_open dir x y).heard

module _ (B : Way) (packets : (x y : Party) → B x y → PacketsHold x y) (counts : (x y : Party) → B x y → CountsKnown x y) (dir : Dir) (x y : Party) where
  -- what is heard behind a call
  heard_more : (call : Call) (a : Answer) → (may_open dir (called x y.given call a) y).heard ≡ (if tells_available dir call a then (came_to x y).took else (may_open dir x y).heard)
  heard_more call a =
      ap (λ (m : MayOpen). m.heard) (folded_more (may_open_told x.policy y.final dir) x.told (told_of call a x.end.closing.state) may_open_first)
      ∙ ap (λ (j : Intake). if tells_available dir call a then j.took else (may_open dir x y).heard) (same_intake x.policy y.final dir x.told may_open_first)

  abbrev n : ℕ
  n = of dir x.end.streams.opening.own_limit

  abbrev was : Bool
  was = waits_for dir x.end.streams.events.queue

  -- what a call leaves that tells none
  abbrev Leaves : End → Intake → Type 0
  Leaves e j = waits_for dir e.streams.events.queue ≡ false → (of dir e.streams.opening.own_limit ≡ n) × (was ≡ false)

  call_leaves : (call : Call) (a : Answer) → Calls B x y call a → asks_event call ≡ false → Leaves (called x y.given call a).end (came_to (called x y.given call a) y)
  call_leaves call a c quiet = by_coming x y a c.joined c.served (meets y x (packets y x c.takes)) Leaves call c.answer (record {
    apart = λ apart. flagged_call (Still dir n was) (still_more dir n was) x.policy x.end y.given call a apart c.answer (λ asks. (let clash : ◌≡◌ {A = Bool} true false = sym asks ∙ quiet in cc)) (λ none. (refl, none));
    none = λ delivery same none. (refl, none);
    comes = λ delivery same s among here. arrives delivery.now s here;
  })
    where
      all : (now : ℕ) (s : Sent) (here : Bool) → Leaves (frame_cases.passed (frames_at here s.frames) (begun x.end now s.number)).end (came_to x y)
      all now s here = frames_still dir n was (frames_at here s.frames) (begun x.end now s.number) (λ none. (refl, none))

      arrives : (now : ℕ) (s : Sent) (here : Bool) → Arrivals x.end now s.number s.frames (frames_at here s.frames) (came_to x y) (λ (o : Outcome) (j : Intake). Leaves o.end j)
      arrives now s here = record {
        ignored = λ reason none. (refl, none);
        noted = λ state reason none. (refl, none);
        takes = λ words state new fine urged mark. all now s here;
        moves = λ p o same remote z opened j. by_migrated (λ (e : End). Leaves e (came_to x y)) p o remote z (λ c. j) (λ c most. j);
        drains = λ words state new close fault. all now s here;
        refuses = λ words state new f fault. all now s here;
        exhausts = λ state none. (refl, none);
      }

  module _ (call : Call) (a : Answer) (c : Calls B x y call a) (h : HeardRoom dir x y) where
    abbrev next : Party
    next = called x y.given call a

    opened_before : next.end.closing.state ≡ states.Open → x.end.closing.state ≡ states.Open
    opened_before opened = was_open x.policy x.end y.given call a opened

    -- it is told, or what it has heard of stays
    heard_by : (tells : Bool) → tells_available dir call a ≡ tells → ((tells ≡ true) × (of dir next.end.streams.opening.own_limit ≡ n)) ⊎ ((tells ≡ false) × Leaves next.end (came_to next y)) → HeardRoom dir next y
    heard_by tells is either = record { heard = λ opened none. subst (λ (ps : List Packet). of dir next.end.streams.opening.own_limit ≤ limit_heard dir x ps) (sym (heard_more call a ∙ ap (λ (t : Bool). if t then (came_to x y).took else (may_open dir x y).heard) is)) (go tells either opened none) }
      where
        go : (t : Bool) → ((t ≡ true) × (of dir next.end.streams.opening.own_limit ≡ n)) ⊎ ((t ≡ false) × Leaves next.end (came_to next y)) → next.end.closing.state ≡ states.Open → waits_for dir next.end.streams.events.queue ≡ false
            → of dir next.end.streams.opening.own_limit ≤ limit_heard dir x (if t then (came_to x y).took else (may_open dir x y).heard)
        go true (inl told) opened none = let same = told.1 in let known = (counts x y c.gives).counts (opened_before opened) dir in omega arith
        go true (inr leaves) opened none = cc
        go false (inl told) opened none = cc
        go false (inr leaves) opened none = let so = leaves.1 none in let same = so.0 in let before = h.heard (opened_before opened) so.1 in omega arith

-- whether a call tells it, by what it is
quiet_tells : (dir : Dir) (call : Call) (a : Answer) → asks_event call ≡ false → tells_available dir call a ≡ false
quiet_tells Bi calls.Event a quiet = cc
quiet_tells Uni calls.Event a quiet = cc
quiet_tells Bi call a quiet = refl
quiet_tells Uni call a quiet = refl

heard_step : (B : Way) (packets : (x y : Party) → B x y → PacketsHold x y) (counts : (x y : Party) → B x y → CountsKnown x y) (dir : Dir) (x y : Party) (call : Call) (a : Answer) → Calls B x y call a → HeardRoom dir x y → HeardRoom dir (called x y.given call a) y
heard_step B packets counts dir x y calls.Event a c h = heard_by B packets counts dir x y calls.Event a c h (tells_available dir calls.Event a) refl (go (tells_available dir calls.Event a) refl)
  where
    next : Party
    next = called x y.given calls.Event a

    limit_same : (o : StreamsState) → Kept dir x.end.streams o → of dir o.opening.own_limit ≡ of dir x.end.streams.opening.own_limit
    limit_same o k = ap (λ (l : Counts). of dir l) k.limit

    stays : (tells_available dir calls.Event a ≡ true) ⊎ Kept dir x.end.streams next.end.streams
    stays = subst (λ (d : Answer). (tells_available dir calls.Event d ≡ true) ⊎ Kept dir x.end.streams next.end.streams) (sym c.answer) (event_stays dir x.end)

    go : (t : Bool) → tells_available dir calls.Event a ≡ t → ((t ≡ true) × (of dir next.end.streams.opening.own_limit ≡ of dir x.end.streams.opening.own_limit)) ⊎ ((t ≡ false) × Leaves B packets counts dir x y next.end (came_to next y))
    go true is = inl (refl, event_limit dir x.end)
    go false is = inr (refl, λ none. elim stays [ inl told ↦ absurd (let clash : true ≡ false = sym told ∙ is in cc) | inr was ↦ (limit_same next.end.streams was, was.waits none) ])
heard_step B packets counts dir x y call a c h = heard_by B packets counts dir x y call a c h false (quiet_tells dir call a refl) (inr (refl, call_leaves B packets counts dir x y call a c refl))

heard_group : (B : Way) → ((x y : Party) → B x y → PacketsHold x y) → ((x y : Party) → B x y → CountsKnown x y) → (dir : Dir) → Group B (HeardRoom dir)
heard_group B packets counts dir = record {
  first = λ x y m there back. record { heard = λ opened none. omega arith };
  writer = λ x y call a c i back. heard_step B packets counts dir x y call a c i;
  reader = λ x y call a c there i. record { heard = i.heard };
  shows = λ x y here there back b i j. record { heard = i.heard };
}

-- ---- the clause

abbrev Base : Way
Base = And (everything.All Ready ready) CountsKnown

base : Group Nothing Base
base = both Nothing (everything.All Ready ready) CountsKnown (everything.all Ready ready) (counts_group (And Nothing (everything.All Ready ready)) (λ x y h. h.1.0.0))

pub available_is_told : (r : Run) (end : World) → IsHonest r → IsRun r end → AvailableIsTold r
available_is_told r end honest run side i dir served opened at = within
  where
    All : Way
    All = And Base (HeardRoom dir)

    all : Group Nothing All
    all = both Nothing Base (HeardRoom dir) base (heard_group (And Nothing Base) (λ x y h. h.1.0.0.0) (λ x y h. h.1.1) dir)

    p : Placed All r end side i
    p = placed All all r end honest run side i served

    x : Party
    x = party_at r i p.world side p.sents

    y : Party
    y = party_at r i p.world (other_side side) p.theirs

    came : took r side i ≡ (came_to x y).took
    came = ap (λ (j : Intake). j.took) (took_is r honest p.world i side p.sents p.theirs)

    within : greatest (count_in dir) (took r side i) ≤ max (of dir (end_at side r.start).streams.opening.own_limit) (greatest (count_in dir) (heard_available r side dir i))
    within =
        let known = p.gives.0.1.counts (p.state ∙ opened) dir in
        let heard = p.gives.1.heard (p.state ∙ opened) (nothing_waits dir x.end (answered r p.world end i side calls.Event (answers.Event None) p.goes_on at)) in
        let same : greatest (count_in dir) (took r side i) ≡ greatest (count_in dir) (came_to x y).took = ap (greatest (count_in dir)) came in
        omega arith
