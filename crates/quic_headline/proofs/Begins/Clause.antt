-- So what waits behind a call waited before it, or has a cause, at each place of an honest run.
use Rattle.std.proofs.Common.{◌≡◌, ℕ, suc, ◌≤◌, max, Bool, true, false, List, [], ◌∷◌, ◌++◌, length, Option, Some, None, refl, sym, ap, ◌∙◌, subst, ◌⊎◌, inl, inr, arith}
use Rattle.std.specs.Prelude.{◌↔◌, ◌==◌, ◌&&◌, ◌||◌, not, if◌then◌else◌}
use Rattle.std.specs.List.{list_any}
use Rattle.std.proofs.lemmas.Bool.{or_left, or_cases, and_from, and_parts, eqb-true, eq-eqb, both_ways}
use Rattle.quic_wire_core.specs.declared.stream_id.Side.{Side}
use Rattle.quic_wire_core.specs.declared.stream_id.Side.TheVariants.{Client, Server}
use Rattle.quic_wire_core.specs.declared.stream_id.Dir.{Dir}
use Rattle.quic_wire_core.specs.declared.stream_id.Dir.TheVariants.{Bi, Uni}
use Rattle.quic_wire_core.specs.StreamId.{other_side}
use Rattle.quic_wire.specs.Value.{FrameValue, data_blocked, stream_data_blocked}
use Rattle.quic_wire.specs.FrameView.{is_one_way}
use Rattle.quic_streams_parts.specs.Dirs.{of}
use Rattle.quic_machine.specs.Tracking.{dir_named}
use Rattle.quic_machine.specs.Poll.{polled}
use Rattle.quic_recovery_core.specs.PendingAcks.{Pending}
use Rattle.quic_time.specs.Timers.{has_come}
use Rattle.quic_streams_parts.specs.SendHalf.{SendHalf, was_said}
use Rattle.quic_streams_state.specs.State.{sending_half}
use Rattle.quic_streams_state.specs.Limits.{data_grew, stream_grew}
use Rattle.quic_streams_state.specs.declared.state.StreamsState.{StreamsState}
use Rattle.quic_streams_laws.specs.WrittenLaws.{half_holds}
use Rattle.quic_machine.specs.declared.answers.State.{State}
use Rattle.quic_machine.specs.declared.answers.State.TheVariants as states
use Rattle.quic_machine.specs.declared.run.Call.{Call}
use Rattle.quic_machine.specs.declared.run.Call.TheVariants as calls
use Rattle.quic_machine.specs.declared.run.Answer.{Answer}
use Rattle.quic_machine.specs.declared.run.EndView.{EndView}
use Rattle.quic_machine.specs.End.{End, streams_at}
use Rattle.quic_machine.specs.Calls.{is_open}
use Rattle.quic_machine.specs.Control as window
use Rattle.quic_machine.specs.Control.{with_pacing}
use Rattle.quic_machine.specs.Ids.{Ids}
use Rattle.quic_congestion.specs.Pacer.{Pacing}
use Rattle.quic_machine.specs.StreamCalls.{is_on_streams, after_on_streams}
use Rattle.quic_machine.specs.CallCases.{is_delivery, is_poll, is_timeout}
use Rattle.quic_machine.specs.Machine.{World, gave, reads_window, changed, end_at, control_at, heard_at}
use Rattle.quic_machine.specs.Heard.{Heard}
use Rattle.quic_machine.specs.RunLaws.{as_many_views}
use Rattle.quic_headline.specs.Runs.{Run, Told, Packet, Intake, In, folded, until, state_at, given_of, AreServed, written}
use Rattle.quic_headline.specs.Observer.{Sent, HoldsOffset, HoldsEnd, Watch, first_watch, watch, watch_told, watch_from, lens_of, is_past, has_changed, generation_at, path_changes}
use Rattle.quic_headline.specs.Headline.{IsHonest, IsRun, IsAt}
use Rattle.quic_headline.specs.InUse.{in_use, TellsStays}
use Rattle.quic_headline.specs.Amounts.{greatest, data_limit_in, stream_limit_in, data_limit, stream_limit}
use Rattle.quic_headline.specs.Credit.{all_consumed}
use Rattle.quic_headline.specs.Duties.{AllData, StreamData, StreamCount, WasGiven}
use Rattle.quic_headline.specs.Moments.{went}
use Rattle.quic_headline.specs.Requests.{asking_at}
use Rattle.quic_headline.specs.Polls as polls
use Rattle.quic_headline.specs.Expiring.{questions}
use Rattle.quic_headline.specs.AcksDue.{is_immediate_ack, haste_told, no_haste, is_due}
use Rattle.quic_headline.specs.Waited.{stands, is_ping, wants, wants_told, no_wants}
use Rattle.quic_headline.specs.Begins.{Control, LimitOf, Blocked, BlockedOn, NewId, Retirement, Thing, Ack, Ping, Immediate, Challenge, Response, Probe, Message, Byte, Fin, Frame, IsPending, Seen, brings, finds_blocked, may_end, brings_data, says_blocked, says_blocked_on, has_said, has_said_on, retires, uses_past, moves_past, passes_over, reads_on, most_said, is_far, is_far_on, is_far_in_all, asks_for, HasCause, HasGone, seen_at, still, BeginsAt, WaitingBegins, Request, Done}
use Rattle.quic_headline.specs.Begins as new
use Rattle.quic_headline.proofs.Packets.Intakes.{folded_more}
use Rattle.quic_headline.proofs.Packets.Watching.{watched_intake}
use Rattle.quic_headline.proofs.Places.Parties.{sent_by, sent_if, sents_by, told_of, Party, called, came_to, lens, watch_of}
use Rattle.quic_headline.proofs.Places.Groups.{Way, Nothing, And, Group, both, beside, over, less_calls}
use Rattle.quic_headline.proofs.Places.Moments.{last_seen}
use Rattle.quic_headline.proofs.Places.Told.{in_left}
use Rattle.quic_headline.proofs.Places.Steps.{poll_answer}
use Rattle.quic_headline.proofs.Places.Placed.{Placed, placed, party_at, stands_in}
use Rattle.quic_headline.proofs.Halves.Ghosts.{wrote}
use Rattle.quic_headline.proofs.Halves.QuietSteps.{sent_within}
use Rattle.quic_headline.proofs.Timers.Still.{was_open}
use Rattle.quic_headline.proofs.Timers.PathMoments.{own_watch, Asked, asked_at}
use Rattle.quic_headline.proofs.Validated.Standing.{Standing, standing}
use Rattle.quic_headline.proofs.Timers.Watched.{Observed}
use Rattle.quic_headline.proofs.NextIds.Used.{in_use_is}
use Rattle.quic_headline.proofs.Timers.AckMoments.{call_answered}
use Rattle.quic_headline.proofs.Timers.Quiet.{Unnamed, quiet_group}
use Rattle.quic_headline.proofs.Amounts.Tally.{Tallies, half_tallied}
use Rattle.quic_headline.proofs.Amounts.Group.{tally_of, Tallied, tallied_group}
use Rattle.quic_headline.proofs.Requests.Drafts.{polled_requests, none_waits}
use Rattle.quic_headline.proofs.Steps.Along.{stands_within}
use Rattle.quic_headline.proofs.Steps.Made.{MadeAt, made_at, made_served, left_at, made_end, served_before, told_next, told_here, one_behind, calling, reads_either, CallHolds, call_holds, whole}
use Rattle.quic_headline.proofs.Waited.Alive.{past_is}
use Rattle.quic_headline.proofs.Waited.Pings.{of_ping, of_immediate, polled_pinged}
use Rattle.quic_headline.proofs.Waited.Flags.{Flag, confirmed, all, counts, blocked, challenge, response, flag, says as flag_says}
use Rattle.quic_headline.proofs.Waited.Group.{polled_flags, wants_of}
use Rattle.quic_headline.proofs.Begins.Queued.{call_queues}
use Rattle.quic_headline.proofs.Halves.WordsCalls.{call_on_is}
use Rattle.quic_headline.proofs.Begins.Far.{far_on, far_in}
use Rattle.quic_headline.proofs.Begins.Called.{call_asks, AsksOn, IsUnsaid}
use Rattle.quic_headline.proofs.Begins.Walk.{Pends, pend_more}
use Rattle.quic_headline.proofs.Begins.Gone.{polled_goes}
use Rattle.quic_headline.proofs.Begins.Steps.{Left, streams_left, quiet_left}
use Rattle.quic_headline.specs.InFlight.{is_ack_frequency}
use Rattle.quic_headline.proofs.Begins.Behind.{Known, known, took_behind, packets, holds, sight, watch_next, seen_of, Caused, went_here, was, ack_begins, ping_begins, immediate_begins, probe_begins, signals_begin, pends_start, written_is, waits_within, left_is, delivery_begins, timeout_begins, poll_begins, skipped_is, Stepped}
use Rattle.quic_headline.proofs.Begins.SaidWalk.{AtMost, IsWithin, blocked_frame, half_says}
use Rattle.quic_headline.proofs.Begins.Said.{SaidHolds, said_group}

-- ---- what is known

-- with it, which datagrams are in flight, which limits the peer told, and what was said of them
abbrev Watched : Way
Watched = And Known (And Unnamed Tallied)

watched : Group Nothing Watched
watched = both Nothing Known (And Unnamed Tallied) known
    (beside (And Nothing Known) Unnamed Tallied (over Observed (And Nothing Known) Unnamed (λ x y h. (packets x y h.1, sight x y h.1)) quiet_group) (tallied_group (And Nothing Known) (λ x y h. packets x y h.1)))

abbrev Wide : Way
Wide = And Watched SaidHolds

wide : Group Nothing Wide
wide = both Nothing Watched SaidHolds watched (said_group (And Nothing Watched) (λ x y h. h.1.0) (λ x y h. h.1.1.0))

-- ---- limits that are used up

-- where nothing more than the limit was said, and the limit wasn't said last, it wasn't said
never_said : (o : Option ℕ) (n limit : ℕ) → AtMost n o → IsWithin o limit → limit ≡ n → was_said o limit ≡ false → ⊥
never_said None n limit most is same unsaid = most
never_said (Some said) n limit most is same unsaid = both_ways (said == limit) unsaid (eq-eqb said limit (omega arith))

-- an element that passes a test
one_in : {A : Type 0} (test : A → Bool) (xs : List A) → list_any test xs ≡ true → (z : A) × In z xs × (test z ≡ true)
one_in test [] is = cc
one_in test (z ∷ xs) is = elim (or_cases (test z) (list_any test xs) is) [
  | inl here ↦ (z, inl refl, here)
  | inr more ↦ (let rest = one_in test xs more in (rest.0, inr rest.1, rest.2))
]

-- a frame that stands in datagrams was given
stands_given : (test : FrameValue → Bool) (f : FrameValue) (ss : List Sent) → ((g : FrameValue) → test g ≡ true → g ≡ f) → stands test ss ≡ true → WasGiven ss f
stands_given test f ss only is =
    let sent = one_in (λ (s : Sent). list_any test s.frames) ss is in
    let frame = one_in test sent.0.frames sent.2 in
    record { sent = sent.0; among = sent.1; carried = subst (λ (g : FrameValue). In g sent.0.frames) (only frame.0 frame.2) frame.1 }

all_only : (limit : ℕ) (g : FrameValue) → says_blocked limit g ≡ true → g ≡ data_blocked limit
all_only limit (data_blocked said) is = ap data_blocked (eqb-true said limit is)
all_only limit g is = cc

on_only : (id limit : ℕ) (g : FrameValue) → says_blocked_on id limit g ≡ true → g ≡ blocked_frame id limit
on_only id limit (stream_data_blocked f) is =
    let both = and_parts (f.id == id) (f.limit == limit) is in
    ap (λ (n : ℕ). blocked_frame n f.limit) (eqb-true f.id id both.0) ∙ ap (λ (n : ℕ). blocked_frame id n) (eqb-true f.limit limit both.1)
on_only id limit g is = cc

module _ (x y : Party) (call : Call) (a : Answer) (s : Stepped x y call a) (h : SaidHolds x y) (t : Tallied x y) where
  abbrev open_now : x.end.closing.state ≡ states.Open
  open_now = was x y call a s

  abbrev before : Seen
  before = seen_of x y call a s

  tallies : Tallies (tally_of x.made.streams (came_to x y).took x.told) x.end.streams
  tallies = t.still open_now

  intake_is : (watch_of x y).intake ≡ came_to x y
  intake_is = watched_intake (lens x y) x.told (first_watch x.final x.began x.made.path.remote x.first_rtt x.initial_delay)

  all_limit : x.end.streams.sending.limit ≡ data_limit before.params before.before.intake.took
  all_limit =
      tallies.sums.limit
      ∙ ap (λ (m : ℕ). max m (greatest data_limit_in (came_to x y).took)) h.all
      ∙ ap (λ (i : Intake). data_limit x.made.peer_params i.took) (sym intake_is)

  half_limit : (id : ℕ) (half : SendHalf) → sending_half x.end.streams id ≡ Some half → half.limit ≡ stream_limit before.params before.side before.before.intake.took id
  half_limit id half there =
      (half_tallied (tally_of x.made.streams (came_to x y).took x.told) x.end.streams id half there tallies.halves).limit
      ∙ ap (λ (m : ℕ). max m (greatest (stream_limit_in id) (came_to x y).took)) (h.first id)
      ∙ ap (λ (i : Intake). stream_limit x.made.peer_params x.side i.took id) (sym intake_is)

  -- what was given
  given : (f : FrameValue) → WasGiven before.gave f → WasGiven x.sents f
  given f was = subst (λ (ss : List Sent). WasGiven ss f) (sight x y s.gives).own was

  -- a limit on all streams that wasn't said last wasn't said
  all_unsaid : was_said x.end.streams.sending.said x.end.streams.sending.limit ≡ false → has_said before ≡ false
  all_unsaid unsaid = go (has_said before) refl
    where
      limit : ℕ
      limit = data_limit before.params before.before.intake.took

      go : (b : Bool) → has_said before ≡ b → has_said before ≡ false
      go false is = is
      go true is =
          let i = (h.still open_now).says in
          absurd (never_said x.end.streams.sending.said limit x.end.streams.sending.limit (i.told limit (given (data_blocked limit) (stands_given (says_blocked limit) (data_blocked limit) before.gave (all_only limit) is))) i.within all_limit unsaid)

  -- nor was one on a stream
  on_unsaid : (id : ℕ) → AsksOn id x.end.streams (after_on_streams (is_open x.end.closing.state) (streams_at x.end) call a).state → has_said_on id before ≡ false
  on_unsaid id asks = go (has_said_on id before) refl
    where
      limit : ℕ
      limit = stream_limit before.params before.side before.before.intake.took id

      go : (b : Bool) → has_said_on id before ≡ b → has_said_on id before ≡ false
      go false is = is
      go true is =
          let half = half_says (WasGiven x.sents) x.end.streams id asks.half asks.there (h.still open_now).says in
          absurd (never_said asks.half.said limit asks.half.limit (half.0 limit (given (blocked_frame id limit) (stands_given (says_blocked_on id limit) (blocked_frame id limit) before.gave (on_only id limit) is))) half.1 (half_limit id asks.half asks.there) asks.unsaid)

  -- and what was read of a stream whose limit grew is so far
  far_read : is_on_streams call ≡ true → (id : ℕ) → stream_grew (after_on_streams (is_open x.end.closing.state) (streams_at x.end) call a).state id ≡ true → is_far_on id before ≡ true
  far_read on id grew =
      let next : Party = called x y.given call a in
      let within = s.calls.takes_behind.0.1.1.1.0 in
      let same : next.end.streams ≡ (after_on_streams (is_open x.end.closing.state) (streams_at x.end) call a).state = ap (λ (e : End). e.streams) (call_on_is x.policy x.end y.given call a on).same in
      far_on (wrote y.told) next.told next.end.streams id before.stream_window before.gave s.calls.takes_behind.0.0.0.1.reads within.wide
      (λ u i f j. within.told u (in_left u x.sents (sents_by x.policy x.end call a) (subst (λ (ss : List Sent). In u ss) (sight x y s.gives).own i)) f j) (within.first id)
      (subst (λ (z : StreamsState). stream_grew z id ≡ true) (sym same) grew)

  -- and the limit on all data, where it grew
  far_of_all : is_on_streams call ≡ true → data_grew (after_on_streams (is_open x.end.closing.state) (streams_at x.end) call a).state.receiving ≡ true → is_far_in_all before ≡ true
  far_of_all on grew =
      let next : Party = called x y.given call a in
      let within = s.calls.takes_behind.0.1.1.1.0 in
      let same : next.end.streams ≡ (after_on_streams (is_open x.end.closing.state) (streams_at x.end) call a).state = ap (λ (e : End). e.streams) (call_on_is x.policy x.end y.given call a on).same in
      subst (λ (ps : List Packet). is_far before.window (all_consumed ps next.told) (most_said data_limit_in before.gave) ≡ true) (took_behind x y call a s)
      (far_in before.window before.stream_window (came_to next y).took next.told next.end.streams (wrote y.told) before.gave
      (λ u i f j. within.told u (in_left u x.sents (sents_by x.policy x.end call a) (subst (λ (ss : List Sent). In u ss) (sight x y s.gives).own i)) f j) within.first_all
      next.end.streams (record { stays = within.stays; reads_are = s.calls.takes_behind.0.0.0.1.reads; uses = s.calls.takes_behind.0.1.1.1.1.still s.opened })
      (subst (λ (z : StreamsState). data_grew z.receiving ≡ true) (sym same) grew))

  -- what an application asks for of streams is asked for
  asked_is : is_on_streams call ≡ true → (c : Control) → call_asks call a c ≡ true → IsUnsaid x.end.streams (after_on_streams (is_open x.end.closing.state) (streams_at x.end) call a).state c → asks_for before c ≡ true
  asked_is on (LimitOf AllData) is unsaid = and_from (call_asks call a (LimitOf AllData) || brings brings_data before) (is_far_in_all before) (or_left (call_asks call a (LimitOf AllData)) (brings brings_data before) is) (far_of_all on unsaid)
  asked_is on (LimitOf (StreamCount dir)) is unsaid = or_left (call_asks call a (LimitOf (StreamCount dir))) (brings may_end before) is
  asked_is on (LimitOf (StreamData id)) is unsaid = and_from (reads_on id call a) (is_far_on id before) is (far_read on id unsaid)
  asked_is on Blocked is unsaid = and_from (finds_blocked (λ id. true) call a) (not (has_said before)) is (ap not (all_unsaid unsaid))
  asked_is on (BlockedOn id) is unsaid = and_from (finds_blocked (λ j. j == id) call a) (not (has_said_on id before)) is (ap not (on_unsaid id unsaid))
  asked_is on (NewId number) is unsaid = cc
  asked_is on Request is unsaid = cc
  asked_is on Done is unsaid = cc
  asked_is on (Retirement number) is unsaid = cc
  asked_is on c is unsaid = is

-- ---- what waits

-- another call, but for how far bytes were written
abbrev Almost : (x y : Party) (call : Call) (a : Answer) → Stepped x y call a → Thing → Type 0
Almost x y call a s (Byte id o) = IsPending x.end (Byte id o) ⊎ (length (written id x.told) ≤ o)
Almost x y call a s q = Caused x y call a s q

other_begins : (x y : Party) (call : Call) (a : Answer) → is_delivery call ≡ false → is_poll call ≡ false → is_timeout call ≡ false → (s : Stepped x y call a) → SaidHolds x y → Tallied x y → Left (Almost x y call a s) (called x y.given call a).end
other_begins x y call a apart silent other s h t = go (is_on_streams call) refl
  where
    almost : (q : Thing) → IsPending x.end q → Almost x y call a s q
    almost Ack is = inl is
    almost Ping is = inl is
    almost Immediate is = inl is
    almost Challenge is = inl is
    almost Response is = inl is
    almost Probe is = inl is
    almost (Message m) is = inl is
    almost (Byte id o) is = inl is
    almost (Fin id) is = inl is
    almost (Frame c) is = inl is

    start : Pends (Almost x y call a s) x.end
    start = pend_more (λ q. IsPending x.end q) (Almost x y call a s) x.end.streams x.end.waiting.frames almost (pends_start x y s.gives)

    go : (b : Bool) → is_on_streams call ≡ b → Left (Almost x y call a s) (called x y.given call a).end
    go true on = streams_left (Almost x y call a s) x.policy x.end y.given start call a (λ c is unsaid. inr (inl (asked_is x y call a s h t on c is unsaid))) (λ id is. inr (inl is)) (λ id h is. sent_within (wrote x.told) x.end.streams (holds x y s.gives) id h is)
        (λ id h is none o above. inr (subst (λ (n : ℕ). n ≤ o) (written_is (wrote x.told id) h (half_holds (wrote x.told) x.end.streams (holds x y s.gives) id h is) none) above)) s.answer on
    go false off = quiet_left (Almost x y call a s) x.policy x.end y.given start call a (λ n skips. inr (inl (or_left (passes_over (seen_of x y call a s) n) (brings (retires s.using n) (seen_of x y call a s))
        (or_left (uses_past (seen_of x y call a s) n) (moves_past (seen_of x y call a s) n) (sym (skipped_is x y call a s n) ∙ skips))))) (λ said. inr (inl said)) off apart silent other

-- ---- all of it

begins : (x y : Party) (call : Call) (a : Answer) (s : Stepped x y call a) → SaidHolds x y → Tallied x y → (q : Thing) → IsPending (called x y.given call a).end q → Caused x y call a s q
begins x y call a s h t Ack is = ack_begins x y call a s is
begins x y call a s h t Ping is = ping_begins x y call a s is
begins x y call a s h t Immediate is = immediate_begins x y call a s is
begins x y call a s h t Challenge is = (signals_begin x y call a s).0 is
begins x y call a s h t Response is = (signals_begin x y call a s).1 is
begins x y call a s h t Probe is = probe_begins x y call a s is
begins x y call a s h t (Message m) is = call_queues m x.policy x.end y.given call a is
begins x y (calls.Deliver delivery) a s h t (Byte id o) is = (left_is _ _ (delivery_begins x y delivery a s)).0 id o is
begins x y (calls.Deliver delivery) a s h t (Fin id) is = (left_is _ _ (delivery_begins x y delivery a s)).1 id is
begins x y (calls.Deliver delivery) a s h t (Frame c) is = (left_is _ _ (delivery_begins x y delivery a s)).2 c is
begins x y (calls.Timeout now) a s h t (Byte id o) is = (left_is _ _ (timeout_begins x y now a s)).0 id o is
begins x y (calls.Timeout now) a s h t (Fin id) is = (left_is _ _ (timeout_begins x y now a s)).1 id is
begins x y (calls.Timeout now) a s h t (Frame c) is = (left_is _ _ (timeout_begins x y now a s)).2 c is
begins x y (calls.Poll now) a s h t (Byte id o) is = (left_is _ _ (poll_begins x y now a s)).0 id o is
begins x y (calls.Poll now) a s h t (Fin id) is = (left_is _ _ (poll_begins x y now a s)).1 id is
begins x y (calls.Poll now) a s h t (Frame c) is = (left_is _ _ (poll_begins x y now a s)).2 c is
begins x y call a s h t (Byte id o) is = elim ((left_is _ _ (other_begins x y call a refl refl refl s h t)).0 id o is) [
  | inl waited ↦ inl waited
  | inr above ↦ inr (inl (above, waits_within (wrote (called x y.given call a).told) (called x y.given call a).end.streams id o (holds (called x y.given call a) y s.behind) is))
]
begins x y call a s h t (Fin id) is = (left_is _ _ (other_begins x y call a refl refl refl s h t)).1 id is
begins x y call a s h t (Frame c) is = (left_is _ _ (other_begins x y call a refl refl refl s h t)).2 c is

-- ---- what goes waits no more

-- MAX_STREAMS of a direction
dir_same : (dir : Dir) → dir_named (is_one_way dir) ≡ dir
dir_same Bi = refl
dir_same Uni = refl

-- what a poll says waits no more
flag_gone : (x y : Party) (now : ℕ) (a : Answer) → Stepped x y (calls.Poll now) a → (k : Flag) → stands (flag_says k) (sents_by x.policy x.end (calls.Poll now) a) ≡ true → flag k (called x y.given (calls.Poll now) a).end.waiting ≡ true → ⊥
flag_gone x y now a s k there set = both_ways (flag k (polled x.policy x.end now).end.waiting)
    ((polled_flags x.policy x.end now k s.opened).1 (ap (λ (b : Answer). stands (flag_says k) (sent_if (gave b) (sent_by x.policy x.end now))) (sym (poll_answer x.policy x.end now a s.answer s.served)) ∙ there)) set

gone_waits : (x y : Party) (call : Call) (a : Answer) → Stepped x y call a → (q : Thing) → HasGone (sents_by x.policy x.end call a) q → IsPending (called x y.given call a).end q → ⊥
gone_waits x y call a s Ack there due = both_ways (called x y.given call a).end.acknowledging.due (call_answered (λ (p : Pending) (o : Option ℕ). p.due ≡ false) (λ p. refl) x.policy x.end y.given call a (packets x y s.gives).owes s.answer s.served there) due
gone_waits x y (calls.Poll now) a s Ping there set = both_ways (stands is_ping (sents_by x.policy x.end (calls.Poll now) a))
    (ap (λ (b : Answer). stands is_ping (sent_if (gave b) (sent_by x.policy x.end now))) (poll_answer x.policy x.end now a s.answer s.served) ∙ (polled_pinged of_ping x.policy x.end now s.opened set).none) there
gone_waits x y (calls.Poll now) a s Immediate there set = both_ways (stands is_immediate_ack (sents_by x.policy x.end (calls.Poll now) a))
    (ap (λ (b : Answer). stands is_immediate_ack (sent_if (gave b) (sent_by x.policy x.end now))) (poll_answer x.policy x.end now a s.answer s.served) ∙ (polled_pinged of_immediate x.policy x.end now s.opened set).none) there
gone_waits x y (calls.Poll now) a s Challenge there set = flag_gone x y now a s challenge there set
gone_waits x y (calls.Poll now) a s Response there set = flag_gone x y now a s response there set
gone_waits x y (calls.Poll now) a s (Frame (LimitOf AllData)) there set = flag_gone x y now a s all there set
gone_waits x y (calls.Poll now) a s (Frame (LimitOf (StreamCount dir))) there set = flag_gone x y now a s (counts (is_one_way dir)) there (ap (λ (d : Dir). of d (called x y.given (calls.Poll now) a).end.waiting.frames.max_stream_id) (dir_same dir) ∙ set)
gone_waits x y (calls.Poll now) a s (Frame Blocked) there set = flag_gone x y now a s blocked there set
gone_waits x y (calls.Poll now) a s (Frame Done) there set = flag_gone x y now a s confirmed there set
gone_waits x y (calls.Poll now) a s (Frame Request) there set = both_ways (polled x.policy x.end now).end.waiting.frames.ack_frequency
    (none_waits x.end now (polled x.policy x.end now).end _ (polled_requests x.policy x.end now (packets x y s.gives).owes) (ap (λ (b : Answer). stands is_ack_frequency (sent_if (gave b) (sent_by x.policy x.end now))) (sym (poll_answer x.policy x.end now a s.answer s.served)) ∙ there)) set
gone_waits x y (calls.Poll now) a s (Byte id o) there set = (polled_goes x.policy x.end now s.opened).0 id o (subst (λ (b : Answer). HoldsOffset (sent_if (gave b) (sent_by x.policy x.end now)) id o) (poll_answer x.policy x.end now a s.answer s.served) there) set
gone_waits x y (calls.Poll now) a s (Fin id) there set = (polled_goes x.policy x.end now s.opened).1 id (subst (λ (b : Answer). HoldsEnd (sent_if (gave b) (sent_by x.policy x.end now)) id) (poll_answer x.policy x.end now a s.answer s.served) there) set
gone_waits x y (calls.Poll now) a s q there set = absurd there
gone_waits x y call a s Ping there set = cc
gone_waits x y call a s Immediate there set = cc
gone_waits x y call a s Challenge there set = cc
gone_waits x y call a s Response there set = cc
gone_waits x y call a s (Frame (LimitOf AllData)) there set = cc
gone_waits x y call a s (Frame (LimitOf (StreamCount dir))) there set = cc
gone_waits x y call a s (Frame Blocked) there set = cc
gone_waits x y call a s (Frame Request) there set = cc
gone_waits x y call a s (Frame Done) there set = cc
gone_waits x y call a s (Byte id o) there set = there.among
gone_waits x y call a s (Fin id) there set = there.among
gone_waits x y call a s q there set = absurd there

-- ---- the clause

-- that a poll reads the window makes nothing wait
reads_pends : (control : window.Control) (heard : Heard) (call : Call) (e : End) (q : Thing) → IsPending (reads_window control heard call e) q → IsPending e q
reads_pends control heard (calls.Poll now) e Ack is = is
reads_pends control heard (calls.Poll now) e Ping is = is
reads_pends control heard (calls.Poll now) e Immediate is = is
reads_pends control heard (calls.Poll now) e Challenge is = is
reads_pends control heard (calls.Poll now) e Response is = is
reads_pends control heard (calls.Poll now) e Probe is = is
reads_pends control heard (calls.Poll now) e (Message m) is = is
reads_pends control heard (calls.Poll now) e (Byte id o) is = is
reads_pends control heard (calls.Poll now) e (Fin id) is = is
reads_pends control heard (calls.Poll now) e (Frame c) is = is
reads_pends control heard call e q is = is

-- nor does another pacer
paced_pends : (pacing : Pacing) (e : End) (q : Thing) → IsPending (with_pacing e pacing) q → IsPending e q
paced_pends pacing e Ack is = is
paced_pends pacing e Ping is = is
paced_pends pacing e Immediate is = is
paced_pends pacing e Challenge is = is
paced_pends pacing e Response is = is
paced_pends pacing e Probe is = is
paced_pends pacing e (Message m) is = is
paced_pends pacing e (Byte id o) is = is
paced_pends pacing e (Fin id) is = is
paced_pends pacing e (Frame c) is = is

-- and leaves the state
reads_closing : (control : window.Control) (heard : Heard) (call : Call) (e : End) → (reads_window control heard call e).closing.state ≡ e.closing.state
reads_closing control heard (calls.Poll now) e = refl
reads_closing control heard call e = refl

-- a timer that is set only where the address isn't validated, to the moment at which the end asks
-- anew
past_due : (validated : Bool) (due : Option ℕ) (n : ℕ) → has_come (if validated then None else due) n ≡ true → (is_past due n && not validated) ≡ true
past_due true due n come = cc
past_due false due n come = and_from (is_past due n) true (past_is due n ∙ come) refl

-- what the observer knows behind a call
watched_behind : (x y : Party) (call : Call) (a : Answer) → watch_of (called x y.given call a) y ≡ watch_next x y call a
watched_behind x y call a = folded_more (watch_told (lens x y)) x.told (told_of call a x.end.closing.state) (first_watch x.final x.began x.made.path.remote x.first_rtt x.initial_delay)

-- a call at one end leaves the other
other_stays : (side : Side) (w : World) (e : End) (ds : List (List ℕ)) (control : window.Control) (heard : Heard) → end_at (other_side side) (changed side w e ds control heard) ≡ end_at (other_side side) w
other_stays Client w e ds control heard = refl
other_stays Server w e ds control heard = refl

module _ (r : Run) (end : World) (honest : IsHonest r) (run : IsRun r end) (side : Side) (stays : ℕ → Bool) (kept : TellsStays r side stays) (i : ℕ) (call : Call) (a : Answer) (served : AreServed r (suc i)) (here : IsAt r i side call a) where
  made : MadeAt r i side call a
  made = made_at Wide wide r end honest run i side call a here served

  abbrev front : World
  front = made.before

  h : CallHolds Wide r i side call a front
  h = call_holds Wide wide r end honest run i side call a front made.behind (λ id is. honest.ids side i id call a here is) (run.codes (record { side = side; call = call }) (stands_in r.events i (record { side = side; call = call }) here.event)) made.made

  abbrev x : Party
  x = calling r i front side call h.sents

  abbrev y : Party
  y = party_at r i front (other_side side) h.theirs

  abbrev pacing : Pacing
  pacing = (left_at r side front call a).path.pacing

  left : end_at side made.behind ≡ with_pacing (called x y.given call a).end pacing
  left = made_end r i side call a front made.behind made.made

  -- the state before it, and what is told with it
  before_served : AreServed r i
  before_served = served_before r.answers i served

  placed_here : Placed Known r end side i
  placed_here = placed Known known r end honest run side i before_served

  state : state_at r side i ≡ x.end.closing.state
  state =
      sym placed_here.state
      ∙ ap (λ (u : World). (end_at side u).closing.state) (one_behind r i placed_here.world front before_served placed_here.leads made.made.leads)
      ∙ sym (reads_closing (control_at side front) (heard_at side front) call (end_at side front))

  told_more : until r side (suc i) ≡ until r side i ++ told_of call a x.end.closing.state ∷ []
  told_more =
      told_next side (end_at side r.start).closing.state i r.events r.answers r.views (record { side = side; call = call }) a here.event here.answer (as_many_views r.keys r.start end r.events r.answers r.views run.follows)
      ∙ ap (λ (ts : List Told). until r side i ++ ts) (told_here side (state_at r side i) call a ∙ ap (λ (z : State). told_of call a z ∷ []) state)

  -- what an observer wants, by what was told
  wants_same : (told : List Told) → folded (wants_told (lens_of r side)) told (no_wants (watch_from (end_at side r.start) (given_of r side))) ≡ folded (wants_told (lens x y)) told (no_wants (first_watch x.final x.began x.made.path.remote x.first_rtt x.initial_delay))
  wants_same told = refl

  -- and what it finds due
  haste_same : (told : List Told) → folded (haste_told (lens_of r side)) told (no_haste (watch_from (end_at side r.start) (given_of r side))) ≡ folded (haste_told (lens x y)) told (no_haste (first_watch x.final x.began x.made.path.remote x.first_rtt x.initial_delay))
  haste_same told = refl

  -- the ids of the peer, as the end met the call, and behind it
  ids_met : x.end.ids ≡ (end_at side front).ids
  ids_met = reads_either (λ (e : End). e.ids ≡ (end_at side front).ids) (control_at side front) (heard_at side front) call (end_at side front) refl refl

  -- how its peer is asked, as the end met the call
  standing_met : standing x.end ≡ standing (end_at side front)
  standing_met = reads_either (λ (e : End). standing e ≡ standing (end_at side front)) (control_at side front) (heard_at side front) call (end_at side front) refl refl

  asked_here : Asked r end honest run side i front
  asked_here = asked_at r end honest run side i front (stands_within r end run side i side call a front made.behind made.made) before_served made.made.leads

  shown : (polls.seen_at r side i).validated ≡ (end_at side front).path.validated
  shown = ap (λ (v : EndView). v.validated) (last_seen side r.keys i r.start front r.events r.answers r.views made.made.leads)

  past_here : (end_at side front).closing.state ≡ states.Open → (n : ℕ) → has_come (end_at side front).timers.path_validation n ≡ true → (is_past (questions r side i).due n && not (polls.seen_at r side i).validated) ≡ true
  past_here opened n come = ap (λ (b : Bool). is_past (questions r side i).due n && not b) shown ∙ past_due (end_at side front).path.validated (questions r side i).due n (ap (λ (o : Option ℕ). has_come o n) (sym (asked_here opened).set) ∙ come)

  changed_is : has_changed (watch_of x y) (watch_next x y call a) ≡ path_changes r side i
  changed_is = ap (λ (v : Watch). has_changed v (watch_next x y call a)) (sym h.seen) ∙ ap (λ (v : Watch). has_changed (watch r side i) v) (sym (h.seen_behind ∙ watched_behind x y call a))

  opened_stepped : (called x y.given call a).end.closing.state ≡ states.Open → Stepped x y call a
  opened_stepped opened = record {
    calls = less_calls Wide Known (λ z v k. k.0.0) x y call a (whole Wide r i side call a front h);
    joined = h.joined;
    answer = made.made.step.answer;
    served = made_served r i side call a front made.behind made.made;
    gives = h.gives.0.0;
    takes = h.takes.0.0;
    behind = h.behind.0.0;
    opened = opened;
    using = in_use r stays side i;
    used = ap (λ (ids : Ids). ids.peer.active) ids_met
        ∙ sym (in_use_is r end honest run side stays kept i front before_served made.made.leads (sym (reads_closing (control_at side front) (heard_at side front) call (end_at side front)) ∙ was_open x.policy x.end y.given call a opened));
    stays = stays (generation_at r side (suc i));
    tells = λ changed. (
        let told = kept i front made.behind served made.made.leads made.leads (sym changed_is ∙ changed) in
        subst (λ (n : ℕ). (stays (generation_at r side (suc i)) ≡ true) ↔ (n ≡ x.end.ids.peer.active)) (ap (λ (e : End). e.ids.peer.active) left)
        (subst (λ (ids : Ids). (stays (generation_at r side (suc i)) ≡ true) ↔ ((end_at side made.behind).ids.peer.active ≡ ids.peer.active)) (sym ids_met) told));
    questions = questions r side i;
    watched = own_watch r end honest run side i ∙ h.seen;
    validated = (polls.seen_at r side i).validated;
    expires = λ n come. past_here (sym (reads_closing (control_at side front) (heard_at side front) call (end_at side front)) ∙ was_open x.policy x.end y.given call a opened) n (ap (λ (s : Standing). has_come s.due n) (sym standing_met) ∙ come);
  }

  -- what is seen of these
  abbrev seen_with : State → Watch → Watch → Bool → Bool → Seen
  seen_with z before behind due marked = record {
    told = until r side i;
    now = record { call = call; answer = a; state = z };
    before = before;
    behind = behind;
    unanswered = (wants_of x y).packets;
    due = due;
    marked = marked;
    alive = (wants_of x y).alive;
    asking = asking_at r side;
    using = in_use r stays side i;
    stays = stays (generation_at r side (suc i));
    questions = questions r side i;
    validated = (polls.seen_at r side i).validated;
    side = side;
    params = (end_at side r.start).peer_params;
    window = (end_at side r.start).streams.receiving.window;
    stream_window = (end_at side r.start).streams.receiving.stream_window;
    gave = before.own;
  }

  -- what is seen in the run is seen so
  seen_same : (opened : (called x y.given call a).end.closing.state ≡ states.Open) → seen_at r stays side i call a ≡ seen_of x y call a (opened_stepped opened)
  unfolding h opened_stepped
  seen_same opened =
      ap (λ z. seen_with z (watch r side i) (watch r side (suc i)) (is_due r side (suc i)) (wants r side (suc i)).marked) state
      ∙ ap (λ b. seen_with x.end.closing.state b (watch r side (suc i)) (is_due r side (suc i)) (wants r side (suc i)).marked) h.seen
      ∙ ap (λ b. seen_with x.end.closing.state (watch_of x y) b (is_due r side (suc i)) (wants r side (suc i)).marked) (h.seen_behind ∙ watched_behind x y call a)
      ∙ ap (λ d. seen_with x.end.closing.state (watch_of x y) v.behind d (wants r side (suc i)).marked)
      (ap (λ (ts : List Told). (folded (haste_told (lens_of r side)) ts (no_haste (watch_from (end_at side r.start) (given_of r side)))).due) told_more ∙ ap (λ q. q.due) (haste_same (called x y.given call a).told))
      ∙ ap (λ m. seen_with x.end.closing.state (watch_of x y) v.behind v.due m)
      (ap (λ (ts : List Told). (folded (wants_told (lens_of r side)) ts (no_wants (watch_from (end_at side r.start) (given_of r side)))).marked) told_more ∙ ap (λ q. q.marked) (wants_same (called x y.given call a).told))
    where
      v : Seen
      v = seen_of x y call a (opened_stepped opened)

  begins_here : (end_at side made.behind).closing.state ≡ states.Open → BeginsAt (seen_at r stays side i call a) (end_at side front) (end_at side made.behind)
  begins_here opened q is =
      let still_open = ap (λ (e : End). e.closing.state) (sym left) ∙ opened in
      let stepped = opened_stepped still_open in
      let same = seen_same still_open in
      let pending : IsPending (called x y.given call a).end q = paced_pends pacing (called x y.given call a).end q (subst (λ (e : End). IsPending e q) left is) in
      elim (begins x y call a stepped h.gives.1 h.gives.0.1.1 q pending) [
        | inl before ↦ still (reads_pends (control_at side front) (heard_at side front) call (end_at side front) q before) (λ gone. gone_waits x y call a stepped q
            (subst (λ (ss : List Sent). HasGone ss q) (ap (λ (v : Seen). went v.before v.behind) same ∙ went_here x y call a stepped) gone) pending)
        | inr cause ↦ new.begins (subst (λ (v : Seen). HasCause v q) (sym same) cause)
      ]

  -- the other end stays as it is
  other_same : end_at (other_side side) made.behind ≡ end_at (other_side side) front
  other_same = ap (λ (u : World). end_at (other_side side) u) made.made.step.others ∙ other_stays side front (end_at side made.behind) _ _ _

pub waiting_begins : (r : Run) (end : World) → IsHonest r → IsRun r end → WaitingBegins r
waiting_begins r end honest run side stays i call a w v kept served here leads leads_behind =
    let found : MadeAt r i side call a = made r end honest run side stays kept i call a served here in
    let before : w ≡ found.before = one_behind r i w found.before (served_before r.answers i served) leads found.made.leads in
    let behind : v ≡ found.behind = one_behind r (suc i) v found.behind served leads_behind found.leads in
    subst (λ (u : World). ((end_at side u).closing.state ≡ states.Open → BeginsAt (seen_at r stays side i call a) (end_at side w) (end_at side u)) × ((q : Thing) → IsPending (end_at (other_side side) u) q → IsPending (end_at (other_side side) w) q)) (sym behind)
    (subst (λ (u : World). ((end_at side found.behind).closing.state ≡ states.Open → BeginsAt (seen_at r stays side i call a) (end_at side u) (end_at side found.behind)) × ((q : Thing) → IsPending (end_at (other_side side) found.behind) q → IsPending (end_at (other_side side) u) q)) (sym before)
    ((λ opened. begins_here r end honest run side stays kept i call a served here opened), (λ q is. subst (λ (e : End). IsPending e q) (other_same r end honest run side stays kept i call a served here) is)))
