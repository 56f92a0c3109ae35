-- What a controller is told by a call at its end is what may be told, by what the observer of the
-- end knows.
use Rattle.std.proofs.Common.{◌≡◌, ℕ, max, Bool, true, false, ◌&&◌, cond, List, [], ◌∷◌, ◌++◌, map, Option, Some, None, Result, Ok, refl, sym, ap, ◌∙◌, subst, inl, inr}
use Rattle.quic_machine.specs.declared.answers.LostReason.{LostReason}
use Rattle.std.specs.Prelude.{slice_get}
use Rattle.std.proofs.lemmas.List.{append-nil}
use Rattle.quic_wire.specs.Value.{FrameValue, connection_close, application_close}
use Rattle.quic_wire.specs.Grammar.{Payload}
use Rattle.quic_wire.specs.Items.{items}
use Rattle.quic_wire.proofs.FrameWhole.{payload_items}
use Rattle.quic_packet.specs.Datagram.{Opening}
use Rattle.quic_wire.specs.declared.frame.InvalidFrame.{InvalidFrame}
use Rattle.quic_config.specs.Transport.{TransportSettings}
use Rattle.quic_congestion.specs.Congestion as congestion
use Rattle.quic_time.specs.Timers.{has_come}
use Rattle.quic_time.specs.Rtt.{Rtt}
use Rattle.quic_spaces.specs.Numbers.{Numbers, number_opened, expected}
use Rattle.quic_machine.specs.declared.answers.State.{State}
use Rattle.quic_machine.specs.declared.answers.State.TheVariants as states
use Rattle.quic_machine.specs.declared.answers.Received.TheVariants.{Taken, Closed}
use Rattle.quic_machine.specs.declared.run.Call.TheVariants as calls
use Rattle.quic_machine.specs.declared.run.Delivery.{Delivery}
use Rattle.quic_machine.specs.declared.run.Answer.{Answer}
use Rattle.quic_machine.specs.declared.run.Answer.TheVariants as answers
use Rattle.quic_machine.specs.Arrival.{delivered_by}
use Rattle.quic_machine.specs.Policy.{Policy}
use Rattle.quic_machine.specs.Closing.{Closing, ticked}
use Rattle.quic_machine.specs.End.{End, number_of, with_closing, closed_by}
use Rattle.quic_machine.specs.Control.{told_sent}
use Rattle.quic_machine.specs.Receive.{Fault, closed_by_peer, error_of, opening, take_items, received, told_items, told_received}
use Rattle.quic_machine.specs.Poll as poll
use Rattle.quic_machine.specs.Poll.{Draft, Ready, Polled, zeros_behind, draft_as, asking, datagram_size, close_to_go, closes, goes, sends, polled_if, polled_in, polled, told_if as told_goes, told_draft, told_polled_in, told_polled, bounds}
use Rattle.quic_machine.specs.Timeouts.{told_judged, told_expired, told_timed_out_in, told_timed_out}
use Rattle.quic_machine.specs.Machine.{IsAnswer, IsDelivered, fails, gave, told_delivered, says_last}
use Rattle.quic_machine.specs.FrameCases.{begun}
use Rattle.quic_machine.specs.PollCases.{ready_at, ready_leaves, draft_at, frames_padded, Composes, composes, may_leave_at}
use Rattle.quic_headline.specs.Runs.{Told, Packet, Intake, In, frames_of, is_refused, handed, and_handed, and_told}
use Rattle.quic_headline.specs.Observer.{Sent, asks_of, after_packets, loss_due, is_past, Watch, news, has_opened, moment_for, moment_of, clock_behind, Lens, is_timely, watch_told, next_number}
use Rattle.quic_headline.specs.Telling.{Judging, measured_first, told_gone, TellsFrames, TellsPackets, TellsPart, TellsExpired, TellsMoment, judging, TellsCall}
use Rattle.quic_headline.specs.Marking.{Marking}
use Rattle.std.specs.Option.{is_none}
use Rattle.quic_headline.proofs.Packets.Growth.{get_front, step_at}
use Rattle.quic_headline.proofs.Packets.Intakes.{nothing_handed, folded_more}
use Rattle.quic_headline.proofs.Packets.Invariant.{IsSent, Knows, KnowsIn}
use Rattle.quic_headline.proofs.Packets.Given.{draft_number}
use Rattle.quic_headline.proofs.Packets.Delivered.{frames_at, frames_of_oks, shown, shown_if, expands, opened_given, with_taken, with_refused}
use Rattle.quic_machine.specs.DraftLaws.{IsClose}
use Rattle.quic_headline.proofs.Packets.Owing.{Owes, IsAlone, close_is, error_owes, closed_alone}
use Rattle.quic_headline.proofs.Packets.Closes.{by_closes}
use Rattle.quic_headline.proofs.Packets.Strays.{alone_at}
use Rattle.quic_machine.specs.Migration.{items_at}
use Rattle.quic_headline.proofs.Packets.Flying.{Waits, held, asking_padded, ticked_waits, numbers_wait}
use Rattle.quic_headline.proofs.Packets.Watching.{watched_intake, untimely, none_opened, none_new, one_opened, one_new, none_comes, told_own, timer_expires}
use Rattle.quic_headline.proofs.Packets.Closeless.{sent_closeless}
use Rattle.quic_headline.proofs.Packets.Sight.{Sight}
use Rattle.quic_headline.proofs.Places.Parties.{close_if, close_draft, given_in, draft_given, sent_as, sent_by, sent_if, sents_by, told_of, Party, called, came_to, lens, watch_of, AreJoined}
use Rattle.quic_headline.proofs.Places.Coming.{Meets}
use Rattle.quic_headline.proofs.Places.Steps.{only_polls_give, poll_answer}
use Rattle.quic_headline.proofs.Timers.Quiet.{Unnamed}
use Rattle.quic_headline.proofs.Sizes.Probed.{KnowsSearch}
use Rattle.quic_headline.proofs.Sizes.Moving.{Moves}
use Rattle.quic_headline.proofs.Sizes.Moves.{moves_first}
use Rattle.quic_headline.proofs.Marking.Judged.{IsMarked}
use Rattle.quic_headline.proofs.Tellings.Losses.{losses_told}
use Rattle.quic_headline.proofs.Tellings.Asked.{IsUnasked}
use Rattle.quic_headline.proofs.Tellings.Acks.{may_probe, IsSet}
use Rattle.quic_headline.proofs.Tellings.Frames.{Reads, ToldItems, items_told, closes_tell}
use Rattle.quic_headline.proofs.Tellings.Strays.{frames_items, items_sent, stray_tells, fronts}
use Rattle.quic_headline.proofs.Tellings.Hearing.{AreSent, Hearings, by_hearing, closed_told}

-- ---- calls at which nothing comes

-- what is told by one
plain_call : (l : Lens) (c : TransportSettings) (validated : Bool) (first : Option ℕ) (limited : Bool) (w : Watch) (k : Marking) (t : Told) (late : List congestion.Told) (went : List Sent) → and_told l.own l.peer_gave t w.intake ≡ w.intake
    → (let clock = clock_behind w.clock (moment_of t.state false t.call) in TellsMoment (is_timely t.state t.call && is_past (loss_due w.flight) clock) (judging l c validated first limited w) clock w.flight late)
    → (watch_told l t w).own ≡ w.own ++ went → TellsCall l c validated first limited w k t (late ++ told_gone went)
plain_call l c validated first limited w k t late went same told own = record {
  after = w.intake;
  came = sym same;
  clock = clock;
  moment = ap (λ (b : Bool). clock_behind w.clock (moment_of t.state b t.call)) (sym (none_opened w.intake));
  taken = [];
  takes = subst (λ (ps : List Packet). TellsPackets (judging l c validated first limited w) clock ps w.flight k []) (sym (none_new w.intake)) refl;
  refused = [];
  refuses = subst (λ (b : Bool). TellsPart (judging l c validated first limited w) clock (b && is_refused t.answer) w.intake.part w.flight k []) (sym (none_opened w.intake)) refl;
  late = late;
  expires = subst (λ (ps : List Packet). let f = after_packets l.terms clock ps w.flight in TellsMoment (is_timely t.state t.call && is_past (loss_due f) clock) (judging l c validated first limited w) clock f late) (sym (none_new w.intake)) told;
  went = went;
  gave = own;
  is = refl;
}
  where
    clock : ℕ
    clock = clock_behind w.clock (moment_of t.state false t.call)

-- by one that tells no moment and gives nothing
pub quiet_call : (l : Lens) (c : TransportSettings) (validated : Bool) (first : Option ℕ) (limited : Bool) (w : Watch) (k : Marking) (t : Told) → and_told l.own l.peer_gave t w.intake ≡ w.intake → is_timely t.state t.call ≡ false → gave t.answer ≡ false → TellsCall l c validated first limited w k t []
quiet_call l c validated first limited w k t same untimed none =
    let clock : ℕ = clock_behind w.clock (moment_of t.state false t.call) in
    plain_call l c validated first limited w k t [] [] same (subst (λ (b : Bool). TellsMoment (b && is_past (loss_due w.flight) clock) (judging l c validated first limited w) clock w.flight []) (sym untimed) refl) (told_own l t w none ∙ sym (append-nil w.own))

-- ---- a poll

-- what goes is told
draft_told : (e : End) (now : ℕ) → told_draft (draft_at e now) ≡ told_gone (sent_as e now (draft_at e now) ∷ [])
draft_told e now = ap (λ (b : Bool). told_sent b d.end (datagram_size d) (number_of d.end)) (sym (asking_padded d.frames _)) ∙ go (asks_of s)
  where
    g : Ready
    g = ready_at e now

    d : Draft
    d = draft_at e now

    s : Sent
    s = sent_as e now d

    c : Composes g.end d.end
    c = composes g.leaving g.end (may_leave_at e now)

    clock : d.end.closing.clock ≡ s.moment
    clock = ap (λ (x : Closing). x.clock) c.closing ∙ ap (λ (x : End). x.closing.clock) (ready_leaves e now) ∙ ap (λ (b : Bool). moment_for b (max e.closing.clock now)) (sym (sent_closeless e now))

    number : number_of d.end ≡ s.number
    number = draft_number g.leaving g.end (may_leave_at e now) ∙ ap (λ (x : End). number_of x) (ready_leaves e now)

    go : (b : Bool) → told_sent b d.end (datagram_size d) (number_of d.end) ≡ map (λ (u : Sent). congestion.Sent u.moment u.size u.number) (cond b (s ∷ []) [])
    go true = ap (λ (n : ℕ). congestion.Sent n (datagram_size d) (number_of d.end) ∷ []) clock ∙ ap (λ (n : ℕ). congestion.Sent s.moment (datagram_size d) n ∷ []) number
    go false = refl

-- a close doesn't ask
close_asks_not : (f : FrameValue) → IsClose f → asking (f ∷ []) ≡ false
close_asks_not (connection_close c) is = refl
close_asks_not (application_close c) is = refl
close_asks_not f is = absurd is

-- what doesn't ask isn't told
gone_silent : (s : Sent) (b : Bool) → asks_of s ≡ b → b ≡ false → [] ≡ told_gone (s ∷ [])
gone_silent s true is none = cc
gone_silent s false is none = ap (λ (b : Bool). map (λ (u : Sent). congestion.Sent u.moment u.size u.number) (cond b (s ∷ []) [])) (sym is)

-- of an end that closes, or is closing, nothing is told
closes_told : (p : Policy) (e : End) (now : ℕ) (x : End) → Owes x → draft_given p e now ≡ close_draft p x → [] ≡ told_gone (sent_if (gave (answers.Poll (closes p x).answer)) (sent_by p e now))
closes_told p e now x due same = by_closes p x (λ (q : Polled). [] ≡ told_gone (sent_if (gave (answers.Poll q.answer)) (sent_by p e now))) refl
    (λ f given. gone_silent (sent_by p e now) (asks_of (sent_by p e now)) refl (silent f given))
  where
    silent : (f : FrameValue) → close_to_go p x ≡ Some f → asks_of (sent_by p e now) ≡ false
    silent f given =
        ap (λ (d : Draft). asking (frames_padded d)) (same ∙ ap (λ (o : Option FrameValue). close_if o x) given)
        ∙ asking_padded (f ∷ []) (zeros_behind (draft_as (poll.closing f) x))
        ∙ close_asks_not f (close_is p x due f given)

-- where a poll gives something
pub poll_told : (p : Policy) (e : End) (now : ℕ) → Owes e → told_polled p e now ≡ told_gone (sent_if (gave (answers.Poll (polled p e now).answer)) (sent_by p e now))
poll_told p e now owes = state_case e.closing.state refl
  where
    g : Ready
    g = ready_at e now

    -- an end that is made ready gives no number
    same_bounds : bounds p g.end ≡ bounds p e
    same_bounds = ap (λ (x : End). bounds p x) (ready_leaves e now)

    bound_case : e.closing.state ≡ states.Open → (o : Option LostReason) → bounds p e ≡ o → told_goes (is_none o) g ≡ told_gone (sent_if (gave (answers.Poll (sends o p g).answer)) (sent_by p e now))
    bound_case opened None n =
        draft_told e now
        ∙ ap (λ (d : Draft). told_gone (sent_as e now d ∷ [])) (sym (ap (λ (s : State). given_in s (bounds p e) p e now) opened ∙ ap (λ (o : Option LostReason). given_in states.Open o p e now) n))
    bound_case opened (Some reason) n =
        closes_told p e now (closed_by reason g.end) (error_owes reason g.end) (ap (λ (s : State). given_in s (bounds p e) p e now) opened ∙ ap (λ (o : Option LostReason). given_in states.Open o p e now) n)

    goes_case : e.closing.state ≡ states.Open → (b : Bool) → told_goes (b && is_none (bounds p g.end)) g ≡ told_gone (sent_if (gave (answers.Poll (polled_if b p g).answer)) (sent_by p e now))
    goes_case opened true = subst (λ (o : Option LostReason). told_goes (is_none o) g ≡ told_gone (sent_if (gave (answers.Poll (sends o p g).answer)) (sent_by p e now))) (sym same_bounds) (bound_case opened (bounds p e) refl)
    goes_case opened false = refl

    state_case : (s : State) → e.closing.state ≡ s → told_polled_in s p e now ≡ told_gone (sent_if (gave (answers.Poll (polled_in s p e now).answer)) (sent_by p e now))
    state_case states.Open opened = goes_case opened (goes g)
    state_case states.Closing closed = closes_told p e now (with_closing e (ticked e.closing now)) owes (ap (λ (s : State). given_in s (bounds p e) p e now) closed)
    state_case states.Drained closed = refl
    state_case states.Failed closed = refl

-- ---- any call

-- where a packet opens to what was sent, its items are those frames
shown_sent : (n reference : ℕ) (frames : List FrameValue) (payload : List ℕ) → Payload frames payload → IsAlone frames → (b : Bool) (o : Opening) → shown_if b n reference payload ≡ Some o → AreSent (items o.payload)
shown_sent n reference frames payload spells alone true o is =
    let same : shown n reference payload ≡ o = cc in
    record { frames = frames; same = ap (λ (x : Opening). items x.payload) (sym same) ∙ payload_items frames payload spells; alone = alone }
shown_sent n reference frames payload spells alone false o is = cc

module _ (x y : Party) (joined : AreJoined x y) (meets : Meets y x) (sight : Sight x y) (search : KnowsSearch x y) (quiet : Unnamed x y) (next : x.end.numbers.next ≡ next_number x.sents) (validated : Bool) (first : Option ℕ) (limited : Bool) (counts : x.end.path.app_limited ≡ limited)
    (settings : x.end.transport ≡ x.made.transport) (measured : x.end.closing.state ≡ states.Open → x.end.path.first_after_rtt ≡ measured_first first (next_number x.sents) x.end.path.rtt.smoothed)
    (unasked : validated ≡ true → IsUnasked x.end) (k : Marking) (marked : x.end.closing.state ≡ states.Open → IsMarked k x.end) where
  abbrev c : TransportSettings
  c = x.made.transport

  abbrev seen : Watch
  seen = watch_of x y

  -- by what its acknowledgements and losses are judged
  abbrev j : Judging
  j = judging (lens x y) c validated first limited seen

  set : x.end.closing.state ≡ states.Open → IsSet j x.end
  set opened = record {
    path = sight.watched.path;
    settings = settings;
    next = next ∙ ap next_number (sym sight.own);
    measured = measured opened ∙ ap (λ (ss : List Sent). measured_first first (next_number ss) x.end.path.rtt.smoothed) (sym sight.own);
    limited = counts;
  }

  seen_intake : seen.intake ≡ came_to x y
  seen_intake = watched_intake (lens x y) x.told _

  -- ---- a timeout

  -- the timer of losses of an open end expires or doesn't
  expired_told : (now : ℕ) → x.end.closing.state ≡ states.Open → (b : Bool) → TellsMoment b j (max seen.clock now) seen.flight (told_expired b (with_closing x.end (ticked x.end.closing now)))
  expired_told now opened false = refl
  expired_told now opened true =
      subst (λ (o : Option ℕ). TellsExpired o j clock seen.flight (told_judged begins.tracking.loss_time begins)) (sym waits.loss_time) (go begins.tracking.loss_time)
    where
      begins : End
      begins = with_closing x.end (ticked x.end.closing now)

      clock : ℕ
      clock = max seen.clock now

      waits : Waits x.terms clock seen.flight (held begins)
      waits = ticked_waits x.terms seen.clock now seen.flight (held x.end) (sight.watched.flight opened)

      moves : Moves seen.flight.flying c.min_mtu x.end.path.discovery.size seen.flight.flying seen.flight.acked x.end
      moves = moves_first x y sight search quiet opened

      go : (o : Option ℕ) → TellsExpired o j clock seen.flight (told_judged o begins)
      go None = refl
      go (Some moment) = losses_told j clock false seen.flight begins waits.tells (set opened).path (set opened).settings ((set opened).measured ∙ ap (λ (r : Rtt). measured_first j.first j.next r.smoothed) (sym waits.tells.rtt)) moves.floor (λ s i size shown. may_probe c.min_mtu begins.path.discovery s moves.sized size shown (moves.probes s i size shown))

  pub timeout_told : (now : ℕ) (a : Answer) → IsAnswer x.policy x.end y.given (calls.Timeout now) a → TellsCall (lens x y) c validated first limited seen k (told_of (calls.Timeout now) a x.end.closing.state) (told_timed_out x.end now)
  timeout_told now a is = go x.end.closing.state refl
    where
      silent : gave a ≡ false
      silent = only_polls_give x.policy x.end y.given (calls.Timeout now) a refl is

      go : (s : State) → x.end.closing.state ≡ s → TellsCall (lens x y) c validated first limited seen k (told_of (calls.Timeout now) a s) (told_timed_out_in s x.end now)
      go states.Open opened =
          let t : Told = told_of (calls.Timeout now) a states.Open in
          let late : List congestion.Told = told_timed_out_in states.Open x.end now in
          subst (λ (ts : List congestion.Told). TellsCall (lens x y) c validated first limited seen k t ts) (append-nil late)
          (plain_call (lens x y) c validated first limited seen k t late [] (none_comes (lens x y) t seen.intake refl)
          (subst (λ (b : Bool). TellsMoment b j (max seen.clock now) seen.flight late) (timer_expires x.terms seen x.end now (sight.stands opened) (sight.watched.flight opened)) (expired_told now opened (has_come x.end.timers.loss_detection (max x.end.closing.clock now))))
          (told_own (lens x y) t seen silent ∙ sym (append-nil seen.own)))
      go states.Closing closed = let t : Told = told_of (calls.Timeout now) a states.Closing in quiet_call (lens x y) c validated first limited seen k t (none_comes (lens x y) t seen.intake refl) refl silent
      go states.Drained closed = let t : Told = told_of (calls.Timeout now) a states.Drained in quiet_call (lens x y) c validated first limited seen k t (none_comes (lens x y) t seen.intake refl) refl silent
      go states.Failed closed = let t : Told = told_of (calls.Timeout now) a states.Failed in quiet_call (lens x y) c validated first limited seen k t (none_comes (lens x y) t seen.intake refl) refl silent

  -- ---- a poll

  pub poll_call : Owes x.end → (now : ℕ) (a : Answer) → IsAnswer x.policy x.end y.given (calls.Poll now) a → fails a ≡ false → (watch_of (called x y.given (calls.Poll now) a) y).own ≡ x.sents ++ sents_by x.policy x.end (calls.Poll now) a
      → TellsCall (lens x y) c validated first limited seen k (told_of (calls.Poll now) a x.end.closing.state) (told_polled x.policy x.end now)
  poll_call owes now a is served behind =
      let t : Told = told_of (calls.Poll now) a x.end.closing.state in
      let clock : ℕ = clock_behind seen.clock (moment_of t.state false t.call) in
      let went : List Sent = sents_by x.policy x.end (calls.Poll now) a in
      let told : told_polled x.policy x.end now ≡ told_gone went = poll_told x.policy x.end now owes ∙ ap (λ (b : Answer). told_gone (sent_if (gave b) (sent_by x.policy x.end now))) (sym (poll_answer x.policy x.end now a is served)) in
      subst (λ (ts : List congestion.Told). TellsCall (lens x y) c validated first limited seen k t ts) (sym told)
      (plain_call (lens x y) c validated first limited seen k t [] went (none_comes (lens x y) t seen.intake refl)
      (subst (λ (b : Bool). TellsMoment (b && is_past (loss_due seen.flight) clock) j clock seen.flight []) (sym (untimely t.state t.call refl)) refl)
      (sym (ap (λ (w : Watch). w.own) (folded_more (watch_told (lens x y)) x.told t _)) ∙ behind ∙ ap (λ (ss : List Sent). ss ++ went) (sym sight.own)))

  -- ---- a delivery

  module _ (alone : (s : Sent) → In s y.sents → IsAlone s.frames) (delivery : Delivery) where
    -- What is told by a packet that came, or by none.
    record Brings (opened : Bool) (ps : List Packet) (part : Option Packet) (a : Answer) (told : List congestion.Told) : Type 0 where
      taken : List congestion.Told
      takes : let clock = clock_behind seen.clock (moment_of states.Open opened (calls.Deliver delivery)) in TellsPackets j clock ps seen.flight k taken
      refused : List congestion.Told
      refuses : let clock = clock_behind seen.clock (moment_of states.Open opened (calls.Deliver delivery)) in TellsPart j clock (opened && is_refused a) part seen.flight k refused
      is : told ≡ taken ++ refused

    -- so it is by what came
    abbrev BringsBy : Answer → List congestion.Told → Intake → Type 0
    BringsBy a told j = Brings (has_opened seen.intake j) (news seen.intake j) j.part a told

    abbrev now : ℕ
    now = max seen.clock delivery.now

    -- what is known before the frames of a packet
    first_reads : x.end.closing.state ≡ states.Open → (n : ℕ) → Reads j now seen.flight.flying x.end.path.discovery.size seen.flight k (begun x.end delivery.now n)
    first_reads opened n =
        let numbers : Numbers = number_opened x.end.numbers n in
        let moves : Moves seen.flight.flying c.min_mtu x.end.path.discovery.size seen.flight.flying seen.flight.acked x.end = moves_first x y sight search quiet opened in
        record {
          waits = ticked_waits x.terms seen.clock delivery.now seen.flight _ (numbers_wait x.terms seen.clock seen.flight (held x.end) numbers refl (sight.watched.flight opened));
          set = set opened;
          unasked = unasked;
          moves = moves;
          marked = marked opened;
        }

    -- what is told of the items of its payload
    of_items : x.end.closing.state ≡ states.Open → (n : ℕ) (is : List (Result FrameValue InvalidFrame)) → ToldItems j now seen.flight.flying x.end.path.discovery.size is seen.flight k (begun x.end delivery.now n)
    of_items opened n is = items_told j now seen.flight.flying x.end.path.discovery.size is seen.flight k (begun x.end delivery.now n) (first_reads opened n)

    hearings : x.end.closing.state ≡ states.Open → Hearings x.end delivery.now seen.intake BringsBy
    hearings opened = record {
      nothing = λ a.
          subst (λ (b : Bool). Brings b (news seen.intake seen.intake) seen.intake.part a []) (sym (none_opened seen.intake))
          (subst (λ (ps : List Packet). Brings false ps seen.intake.part a []) (sym (none_new seen.intake)) (record { taken = []; takes = refl; refused = []; refuses = refl; is = refl }));
      takes = λ n here is none.
          let ks : List (Result FrameValue InvalidFrame) = items_at here is in
          let all = of_items opened n ks in
          let same : frames_at here (frames_of is) ≡ all.front = sym (frames_items here is) ∙ all.split ∙ ap (λ (fs : List FrameValue). all.front ++ fs) (all.whole none) ∙ append-nil all.front in
          taken_so n is (told_items ks (begun x.end delivery.now n)) (stray_tells j now here (frames_of is) seen.flight k (told_items ks (begun x.end delivery.now n)) (subst (λ (fs : List FrameValue). TellsFrames j now fs seen.flight k (told_items ks (begun x.end delivery.now n))) (sym same) all.told));
      drains = λ close n here is from some.
          let ks : List (Result FrameValue InvalidFrame) = items_at here is in
          let sent : ks ≡ map Ok (frames_at here from.frames) = ap (λ (ls : List (Result FrameValue InvalidFrame)). items_at here ls) from.same ∙ items_sent here from.frames in
          let closes = closed_alone (frames_at here from.frames) (begun x.end delivery.now n) close (alone_at here from.frames from.alone) (subst (λ (ls : List (Result FrameValue InvalidFrame)). (take_items ls (begun x.end delivery.now n)).fault ≡ Some (closed_by_peer close)) sent some) in
          let told : List congestion.Told = told_items ks (begun x.end delivery.now n) in
          let these : frames_of is ≡ from.frames = ap frames_of from.same ∙ frames_of_oks from.frames in
          taken_so n is told (stray_tells j now here (frames_of is) seen.flight k told (subst (λ (fs : List FrameValue). TellsFrames j now (frames_at here fs) seen.flight k told) (sym these)
          (subst (λ (ls : List (Result FrameValue InvalidFrame)). TellsFrames j now (frames_at here from.frames) seen.flight k (told_items ls (begun x.end delivery.now n))) (sym sent)
          (subst (λ (fs : List FrameValue). TellsFrames j now fs seen.flight k (told_items (map Ok (frames_at here from.frames)) (begun x.end delivery.now n))) (frames_of_oks (frames_at here from.frames)) (closes_tell j now (frames_at here from.frames) seen.flight k (begun x.end delivery.now n) closes)))));
      refuses = λ fault n here is.
          let ks : List (Result FrameValue InvalidFrame) = items_at here is in
          let all = of_items opened n ks in
          let first = fronts here (frames_of is) all.front all.behind (sym (frames_items here is) ∙ all.split) in
          refused_so n (frames_of is) fault (told_items ks (begun x.end delivery.now n)) (first.first, first.others, first.split, stray_tells j now here first.first seen.flight k (told_items ks (begun x.end delivery.now n)) (subst (λ (fs : List FrameValue). TellsFrames j now fs seen.flight k (told_items ks (begun x.end delivery.now n))) (sym first.same) all.told));
      whole = λ fault n frames. refused_so n frames fault [] ([], frames, refl, refl);
    }
      where
        taken_so : (n : ℕ) (is : List (Result FrameValue InvalidFrame)) (told : List congestion.Told) → TellsFrames j now (frames_of is) seen.flight k told → BringsBy (answers.Deliver Taken) told (with_taken seen.intake n (frames_of is))
        taken_so n is told tells =
            let frames : List FrameValue = frames_of is in
            subst (λ (b : Bool). Brings b (news seen.intake (with_taken seen.intake n frames)) seen.intake.part (answers.Deliver Taken) told) (sym (one_opened seen.intake n frames))
            (subst (λ (ps : List Packet). Brings true ps seen.intake.part (answers.Deliver Taken) told) (sym (one_new seen.intake n frames)) (record {
              taken = told;
              takes = ([], told, refl, tells, refl);
              refused = [];
              refuses = refl;
              is = sym (append-nil told);
            }))

        refused_so : (n : ℕ) (frames : List FrameValue) (fault : Fault) (told : List congestion.Told) → TellsPart j now true (Some (record { number = n; frames = frames })) seen.flight k told → BringsBy (answers.Deliver (Closed (error_of fault))) told (with_refused seen.intake n frames)
        refused_so n frames fault told tells =
            let part : Option Packet = Some (record { number = n; frames = frames }) in
            let a : Answer = answers.Deliver (Closed (error_of fault)) in
            subst (λ (b : Bool). Brings b (news seen.intake seen.intake) part a told) (sym (one_opened seen.intake n frames))
            (subst (λ (ps : List Packet). Brings true ps part a told) (sym (none_new seen.intake)) (record { taken = []; takes = refl; refused = told; refuses = tells; is = refl }))

    -- an open end is handed a datagram
    open_call : x.end.closing.state ≡ states.Open → (d : List ℕ) → slice_get y.given delivery.index ≡ Some d → (a : Answer) → a ≡ answers.Deliver (received x.policy x.end (delivered_by (says_last a) delivery) d).answer
        → TellsCall (lens x y) c validated first limited seen k (told_of (calls.Deliver delivery) a states.Open) (told_received x.policy x.end (delivered_by false delivery) d)
    open_call opened d at a is = record {
      after = after;
      came = came;
      clock = clock_behind seen.clock (moment_of states.Open (has_opened seen.intake after) (calls.Deliver delivery));
      moment = refl;
      taken = heard.taken;
      takes = heard.takes;
      refused = heard.refused;
      refuses = heard.refuses;
      late = [];
      expires = refl;
      went = [];
      gave = told_own (lens x y) (told_of (calls.Deliver delivery) a states.Open) seen (ap gave is) ∙ sym (append-nil seen.own);
      is = heard.is ∙ sym (append-nil (heard.taken ++ heard.refused)) ∙ sym (append-nil (heard.taken ++ heard.refused ++ []));
    }
      where
        after : Intake
        after = and_handed states.Open (Some d) x.policy (answers.Deliver (received x.policy x.end (delivered_by (says_last a) delivery) d).answer) seen.intake

        there : slice_get y.final delivery.index ≡ Some d
        there = let more = joined.y_more in subst (λ (ds : List (List ℕ)). slice_get ds delivery.index ≡ Some d) more.1 (get_front y.given more.0 delivery.index d at)

        came : after ≡ and_told x.policy y.final (told_of (calls.Deliver delivery) a states.Open) seen.intake
        came = sym (
            ap (λ (b : Answer). and_handed states.Open (handed y.final (calls.Deliver delivery) b) x.policy b seen.intake) is
            ∙ ap (λ (h : Option (List ℕ)). and_handed states.Open h x.policy (answers.Deliver (received x.policy x.end (delivered_by (says_last a) delivery) d).answer) seen.intake) there)

        -- what it opens to was sent so
        from_peer : (o : Opening) → opening x.policy x.end d ≡ Some o → AreSent (items o.payload)
        from_peer o is =
            let found = step_at (IsSent y.policy) y.sents y.given delivery.index d meets.each at in
            let s : Sent = found.0 in
            let given = found.2 in
            shown_sent s.number s.reference s.frames given.payload given.spells (alone s found.1) (expands s.number s.reference (expected x.end.numbers)) o
            (sym (opened_given y.policy x.policy s.id s.number s.reference s.frames d given joined.to_x (expected x.end.numbers)) ∙ is)

        knows : Knows x.end.numbers seen.intake
        knows = subst (λ (i : Intake). Knows x.end.numbers i) (sym seen_intake) (subst (λ (s : State). KnowsIn s x.end.numbers (came_to x y)) opened meets.knows)

        heard : BringsBy a (told_received x.policy x.end (delivered_by false delivery) d) after
        heard = subst (λ (b : Answer). BringsBy b (told_received x.policy x.end (delivered_by false delivery) d) after) (sym is)
            (by_hearing x.policy x.end (delivered_by (says_last a) delivery) seen.intake d BringsBy knows opened from_peer (hearings opened))

    pub delivery_told : (a : Answer) → IsAnswer x.policy x.end y.given (calls.Deliver delivery) a → fails a ≡ false
        → TellsCall (lens x y) c validated first limited seen k (told_of (calls.Deliver delivery) a x.end.closing.state) (told_delivered x.policy x.end (delivered_by false delivery) (slice_get y.given delivery.index))
    delivery_told a is served = go (slice_get y.given delivery.index) refl is
      where
        silent : gave a ≡ false
        silent = only_polls_give x.policy x.end y.given (calls.Deliver delivery) a refl is

        go : (o : Option (List ℕ)) → slice_get y.given delivery.index ≡ o → IsDelivered x.policy x.end delivery o a → TellsCall (lens x y) c validated first limited seen k (told_of (calls.Deliver delivery) a x.end.closing.state) (told_delivered x.policy x.end (delivered_by false delivery) o)
        go None at none =
            quiet_call (lens x y) c validated first limited seen k (told_of (calls.Deliver delivery) a x.end.closing.state)
            (ap (λ (b : Answer). and_handed x.end.closing.state (handed y.final (calls.Deliver delivery) b) x.policy a seen.intake) none ∙ nothing_handed x.end.closing.state x.policy a seen.intake)
            (untimely x.end.closing.state (calls.Deliver delivery) refl) silent
        go (Some d) at (inr failed) = cc
        go (Some d) at (inl said) = by_state x.end.closing.state refl
          where
            none : (s : State) → x.end.closing.state ≡ s → (s ≡ states.Open → ⊥) → and_told x.policy y.final (told_of (calls.Deliver delivery) a s) seen.intake ≡ seen.intake → TellsCall (lens x y) c validated first limited seen k (told_of (calls.Deliver delivery) a s) (told_received x.policy x.end (delivered_by false delivery) d)
            none s closed shut same =
                subst (λ (ts : List congestion.Told). TellsCall (lens x y) c validated first limited seen k (told_of (calls.Deliver delivery) a s) ts) (sym (closed_told x.policy x.end (delivered_by false delivery) d x.end.closing.state refl (λ opened. shut (sym closed ∙ opened))))
                (quiet_call (lens x y) c validated first limited seen k (told_of (calls.Deliver delivery) a s) same (untimely s (calls.Deliver delivery) refl) silent)

            by_state : (s : State) → x.end.closing.state ≡ s → TellsCall (lens x y) c validated first limited seen k (told_of (calls.Deliver delivery) a s) (told_received x.policy x.end (delivered_by false delivery) d)
            by_state states.Open opened = open_call opened d at a said
            by_state states.Closing closed = none states.Closing closed (λ opened. cc) refl
            by_state states.Drained closed = none states.Drained closed (λ opened. cc) refl
            by_state states.Failed closed = none states.Failed closed (λ opened. cc) refl
