-- The timer of path validation of an open end is set to the moment at which it asks its peer anew,
-- as an observer of the run's lists reckons it, while the address of the peer isn't validated: each
-- call keeps that.
use Rattle.std.proofs.Common.{◌≡◌, ℕ, zero, suc, ◌+◌, ◌≤◌, max, Bool, true, false, not, ◌==◌, ◌&&◌, ◌||◌, List, [], ◌∷◌, length, map, Option, Some, None, Ok, refl, sym, ap, ◌∙◌, subst, inl, inr, arith, ◌*◌}
use Rattle.std.specs.Prelude.{if◌then◌else◌, nat_lt, slice_get}
use Rattle.std.proofs.lemmas.Option.{slice_get_within}
use Rattle.quic_wire_core.specs.declared.shared.EcnCodepoint.{EcnCodepoint}
use Rattle.quic_wire_core.specs.declared.stream_id.Side.{Side}
use Rattle.quic_wire_core.specs.declared.stream_id.Side.TheVariants.{Client, Server}
use Rattle.quic_wire_core.specs.StreamId.{other_side}
use Rattle.quic_wire.specs.Value.{FrameValue}
use Rattle.quic_packet.specs.Datagram.{Opening}
use Rattle.quic_parameters.specs.Parameters.{ParameterValues}
use Rattle.quic_config.specs.Transport.{Settings, parameters_of}
use Rattle.quic_headline.specs.RoundTrip.{first_round}
use Rattle.quic_headline.proofs.Packets.RoundTrip.{first_same}
use Rattle.quic_time.specs.Timers.{has_come}
use Rattle.quic_paths.specs.Paths.{is_asked}
use Rattle.quic_recovery_core.specs.AckFrequency.{Frequency}
use Rattle.quic_machine.specs.declared.answers.State.{State}
use Rattle.quic_machine.specs.declared.answers.State.TheVariants as states
use Rattle.quic_machine.specs.declared.run.RunEvent.{RunEvent}
use Rattle.quic_machine.specs.declared.run.Call.{Call}
use Rattle.quic_machine.specs.declared.run.Call.TheVariants as calls
use Rattle.quic_machine.specs.declared.run.Answer.{Answer}
use Rattle.quic_machine.specs.declared.run.Answer.TheVariants as answers
use Rattle.quic_machine.specs.declared.run.View.{View}
use Rattle.quic_machine.specs.Policy.{Policy}
use Rattle.quic_machine.specs.Parts.{Windows, Validation}
use Rattle.quic_machine.specs.Start.{Making}
use Rattle.quic_machine.specs.Closing.{Closing, ticked}
use Rattle.quic_machine.specs.Validation.{word_of, most_challenges, challenged_anew, path_expired}
use Rattle.quic_machine.specs.End.{End, words_drawn, with_closing, closed_by, with_loss_timer, validation_moment, challenged, new_end}
use Rattle.quic_machine.specs.Migration.{migrated, has_moved}
use Rattle.quic_machine.specs.Receive.{Outcome, asks_in}
use Rattle.quic_machine.specs.FrameCases.{passed, begun}
use Rattle.quic_machine.specs.Idle.{keep_alive_expired}
use Rattle.quic_machine.specs.Timeouts.{acks_expired, loss_judged, loss_expired, pacing_expired, Expiry, expiry_at, after_busy, unless_idle, timed_out_in}
use Rattle.quic_machine.specs.Poll.{Polled, Draft, polled}
use Rattle.quic_machine.specs.PollCases.{ready_at, ready_leaves, draft_at, may_leave_at, by_poll_to}
use Rattle.quic_machine.specs.DraftLaws.{Writing, by_leave}
use Rattle.quic_machine.specs.Puts as puts
use Rattle.quic_machine.specs.CallCases.{Plain, is_delivery, is_poll, is_timeout, by_plain_call}
use Rattle.quic_machine.specs.CallCases as cases
use Rattle.quic_machine.specs.Machine.{World, IsStep, after_call, end_at, control_at, heard_at, view_of}
use Rattle.quic_headline.specs.Runs.{Run, Told, Intake, same_side, folded, until, given_of, state_at, LeadsTo, AreServed}
use Rattle.quic_headline.specs.Observer.{Terms, terms_of, Flight, is_past, Watch, first_watch, watch_from, watch, Lens, lens_of, is_timely, watch_told, has_changed}
use Rattle.quic_headline.specs.Headline.{IsHonest, IsRun}
use Rattle.quic_headline.specs.Amounts.{making_at}
use Rattle.quic_headline.specs.Polls.{end_in, IsMade}
use Rattle.quic_headline.specs.Telling.{shows_validated}
use Rattle.quic_headline.specs.Expiring.{moment_behind, three_waits, most_questions, Questions, one_more, asks_anew, questions_told, first_questions, questions_at_first, questions, PathMoments}
use Rattle.quic_headline.proofs.Packets.Intakes.{folded_more}
use Rattle.quic_headline.proofs.Packets.Delivered.{ArrivalsFrom, arrived}
use Rattle.quic_headline.proofs.Packets.Closes.{by_closes}
use Rattle.quic_headline.proofs.Packets.Moved.{by_migrated}
use Rattle.quic_headline.proofs.Packets.Moving.{unset, by_answer, there, by_asked, moved_asks}
use Rattle.quic_headline.proofs.Packets.Probes.{by_going}
use Rattle.quic_headline.proofs.Packets.Flying.{Held, held, Tells, Waits, detected_held}
use Rattle.quic_headline.proofs.Packets.Watching.{untimely, past_same, others_held}
use Rattle.quic_headline.proofs.Packets.Group.{meets}
use Rattle.quic_headline.proofs.Places.Moments.{told_none}
use Rattle.quic_headline.proofs.Places.Parties.{told_of, Party, called, came_to}
use Rattle.quic_headline.proofs.Places.Groups.{Way, Calls, less_calls}
use Rattle.quic_headline.proofs.Places.Coming.{by_coming_from}
use Rattle.quic_headline.proofs.Places.Placed.{start_is, Placed, party_at, stands_in, placed, shown}
use Rattle.quic_headline.proofs.Places.Everything as everything
use Rattle.quic_headline.proofs.Places.Theorems.{ready}
use Rattle.quic_headline.proofs.Halves.Ready.{Ready}
use Rattle.quic_headline.proofs.Moves.Route.{changes_at}
use Rattle.quic_headline.proofs.Moves.Kept.{polled_stays, apart_stays, same_path}
use Rattle.quic_headline.proofs.Moves.Comes.{Leads, those, urges, arrivals_lead}
use Rattle.quic_headline.proofs.Rest.Between.{step_leaves}
use Rattle.quic_headline.proofs.Steps.Made.{left_at, made_end, calling, CallHolds, whole, reads_state, reads_either, call_holds}
use Rattle.quic_headline.proofs.Steps.Along.{own_told, along}
use Rattle.quic_headline.proofs.Tellings.Shown.{validated_there}
use Rattle.quic_headline.proofs.Timers.Closed.{state_there}
use Rattle.quic_headline.proofs.Timers.Still.{was_open}
use Rattle.quic_headline.proofs.Timers.Waits.{three_waited}
use Rattle.quic_headline.proofs.Timers.Watched.{Observed, timers_behind}
use Rattle.quic_headline.proofs.Timers.Watched as watched
use Rattle.quic_headline.proofs.Validated.Standing.{Standing, standing, answered_if, lost_stands, taken_stands, next_stands, frames_stand}
use Rattle.quic_headline.proofs.Validated.Went.{polled_left}

-- ---- how long is waited

-- the moment three probe timeouts on is that which its observer reckons
moment_reckoned : (t : Terms) (now : ℕ) (f : Flight) (e : End) → Tells t now f (held e) → moment_behind now (three_waits f) ≡ validation_moment e
moment_reckoned t now f e w = ap (λ (n : ℕ). moment_behind n (three_waits f)) w.clock ∙ ap (λ (n : ℕ). moment_behind e.closing.clock n) (three_waited t now f e w)

-- ---- how often, and until when, an end asks

-- the moment of the timer, which isn't set where the address is validated
abbrev unless_validated : Bool → Option ℕ → Option ℕ
unless_validated validated due = if validated then None else due

-- An end asked its peer so often, and asks it anew at this moment, if the address of that isn't
-- validated.
pub record DueSo (count : ℕ) (due : Option ℕ) (s : Standing) : Type 0 where
  pub asked : count ≡ s.asked.validation.drawn
  pub set : s.due ≡ unless_validated s.validated due

-- One that had asked so often asks once more, until this moment, unless it asked as often as it
-- may.
pub record AsksMore (count moment : ℕ) (s : Standing) : Type 0 where
  pub asked : (if nat_lt count most_questions then count + 1 else count) ≡ s.asked.validation.drawn
  pub set : s.due ≡ unless_validated s.validated (if nat_lt count most_questions then Some moment else None)

-- ---- calls at which no moment is told

module _ (n : ℕ) (o : Option ℕ) where
  -- PATH_RESPONSE validates it, or does nothing
  answered_due : (b : Bool) (s : Standing) → DueSo n o s → DueSo n o (answered_if b s)
  answered_due true s i = record { asked = i.asked; set = refl }
  answered_due false s i = i

  frames_due : (fs : List FrameValue) (e : End) → (passed fs e).fault ≡ None → DueSo n o (standing e) → DueSo n o (standing (passed fs e).end)
  frames_due fs e none i = frames_stand (λ (left : List FrameValue) (s : Standing). DueSo n o s) (λ token left s j. answered_due (is_asked s.asked.validation.challenge (word_of token)) s j) (λ f left s other j. j) fs e none i

  -- a poll leaves the timer
  timer_left : (p : Policy) (e : End) (now : ℕ) → (polled p e now).end.closing.state ≡ states.Open → (polled p e now).end.timers.path_validation ≡ e.timers.path_validation
  timer_left p e now = by_poll_to p e now (λ (q : Polled). Left q.end) (record {
    silent = λ opened. refl;
    failed = λ opened. refl;
    nothing = λ is none opened. made_ready;
    repeats = λ is. by_closes p (with_closing e (ticked e.closing now)) (λ (q : Polled). Left q.end) (λ opened. refl) (λ f goes opened. refl);
    closes = λ reason bound. by_closes p (closed_by reason z) (λ (q : Polled). Left q.end) (λ opened. cc) (λ f goes opened. cc);
    gives = λ is may some. by_going Left p (draft_at e now) (λ going opened. drafted ∙ made_ready);
  })
    where
      Left : End → Type 0
      Left x = x.closing.state ≡ states.Open → x.timers.path_validation ≡ e.timers.path_validation

      z : End
      z = (ready_at e now).end

      made_ready : z.timers.path_validation ≡ e.timers.path_validation
      made_ready = ap (λ (x : End). x.timers.path_validation) (ready_leaves e now)

      writes : Writing (λ (d : Draft). d.end.timers.path_validation ≡ z.timers.path_validation)
      writes puts.ack d may i = i
      writes q d may i = i

      drafted : (draft_at e now).end.timers.path_validation ≡ z.timers.path_validation
      drafted = by_leave (λ (d : Draft). d.end.timers.path_validation ≡ z.timers.path_validation) writes (ready_at e now).leaving z (may_leave_at e now) refl

  polled_due : (p : Policy) (e : End) (now : ℕ) → (polled p e now).end.closing.state ≡ states.Open → DueSo n o (standing e) → DueSo n o (standing (polled p e now).end)
  polled_due p e now still i =
      let left = polled_left p e now still in
      record {
        asked = i.asked ∙ ap (λ (v : Validation). v.drawn) (sym left.validation);
        set = timer_left p e now still ∙ i.set ∙ ap (λ (b : Bool). unless_validated b o) (sym left.validated);
      }

  -- so does a call that is neither a poll nor a delivery nor a timeout
  plain_due : (p : Policy) (e : End) (theirs : List (List ℕ)) (call : Call) (a : Answer) → is_delivery call ≡ false → is_poll call ≡ false → is_timeout call ≡ false → DueSo n o (standing e)
      → (after_call p e theirs call a).closing.state ≡ states.Open → DueSo n o (standing (after_call p e theirs call a))
  plain_due p e theirs call a apart silent other i = by_plain_call p e theirs (λ (f : End). f.closing.state ≡ states.Open → DueSo n o (standing f)) call a keep
    where
      keep : Plain p e call (λ (f : End). f.closing.state ≡ states.Open → DueSo n o (standing f))
      keep (cases.times now expiry) may = (let clash : true ≡ false = sym may ∙ other in cc)
      keep (cases.waits now b) may = (let clash : true ≡ false = sym may ∙ other in cc)
      keep (cases.polls now) may = (let clash : true ≡ false = sym may ∙ silent in cc)
      keep (cases.hears arrival d) may = (let clash : true ≡ false = sym may ∙ apart in cc)
      keep (cases.closes reason f now) may = λ still. cc
      keep (cases.changes_id b) may = λ still. next_stands (λ (s : Standing). DueSo n o s) e b i
      keep c may = λ still. i

-- ---- a delivery

-- where the peer moved, it is asked once more
moved_moment : (p : Policy) (o : Opening) (remote : ℕ) (x : End) → validation_moment (migrated p o remote x) ≡ validation_moment x
moved_moment p o remote x = by_migrated (λ (y : End). y.frequency ≡ x.frequency → validation_moment y ≡ validation_moment x) p o remote x (λ c same. as_long c.frequency same) (λ c most same. as_long c.frequency same) (moved_asks p o remote x)
  where
    as_long : (f : Frequency) → f ≡ x.frequency → validation_moment (record x { frequency = f }) ≡ validation_moment x
    as_long f same = ap (λ (g : Frequency). validation_moment (record x { frequency = g })) same

moved_due : (n : ℕ) (o : Option ℕ) (p : Policy) (op : Opening) (remote : ℕ) (x : End) → DueSo n o (standing x) → AsksMore n (validation_moment (migrated p op remote x)) (standing (migrated p op remote x))
moved_due n o p op remote x i = subst (λ (m : ℕ). AsksMore n m (standing (migrated p op remote x))) (sym (moved_moment p op remote x))
    (by_asked More p op remote x (λ may. asks (ap (λ (k : ℕ). nat_lt k most_questions) i.asked ∙ may)) (λ may. stops (ap (λ (k : ℕ). nat_lt k most_questions) i.asked ∙ may))
    (λ y j. next_stands (λ (s : Standing). AsksMore n (validation_moment x) s) y (answers.UseNextId (Ok tt)) j) (λ token y j. record { asked = j.asked; set = j.set }) (λ token y among j. by_answer More (λ z k. record { asked = k.asked; set = refl }) token y j))
  where
    More : End → Type 0
    More y = AsksMore n (validation_moment x) (standing y)

    asks : nat_lt n most_questions ≡ true → More (challenged (p.words (words_drawn (there remote x))) (there remote x))
    asks may = record {
      asked = ap (λ (b : Bool). if b then n + 1 else n) may ∙ ap (λ (k : ℕ). k + 1) i.asked;
      set = ap (λ (b : Bool). if b then Some (validation_moment x) else None) (sym may);
    }

    stops : nat_lt n most_questions ≡ false → More (unset (there remote x))
    stops may = record {
      asked = ap (λ (b : Bool). if b then n + 1 else n) may ∙ i.asked;
      set = ap (λ (b : Bool). if b then Some (validation_moment x) else None) (sym may);
    }

-- What a call leaves of an end that asked so often, until this moment: it asks so on the same path,
-- or once more on another.
abbrev Goes : End → ℕ → Option ℕ → End → Intake → Type 0
Goes e n o = Leads e (λ (f : End) (j : Intake). DueSo n o (standing f)) (λ (f : End) (j : Intake). AsksMore n (validation_moment f) (standing f))

-- so it is in each case of a delivery, where the end stays open
arrivals_due : (n : ℕ) (o : Option ℕ) (remote : ℕ) (mark : Option EcnCodepoint) (e : End) (now k : ℕ) (frames : List FrameValue) (i : Intake) → DueSo n o (standing e) → ArrivalsFrom remote mark e now k frames i (λ (r : Outcome) (j : Intake). r.end.closing.state ≡ states.Open → Goes e n o r.end j)
arrivals_due n o remote mark e now k frames i was =
    arrivals_lead remote mark e now k frames (λ (f : End) (j : Intake). DueSo n o (standing f)) (λ (f : End) (j : Intake). AsksMore n (validation_moment f) (standing f)) i was
    (λ words none. taken_stands (λ (s : Standing). DueSo n o s) k (asks_in (map Ok frames)) (urges remote mark e now k frames) mark (arrived e now k (those remote mark e now k frames)).end (frames_due n o (those remote mark e now k frames) (begun e now k) none was))
    (λ p op same away x due. moved_due n o p op remote x due)

-- any call but a timeout
call_due : (n : ℕ) (o : Option ℕ) (x y : Party) (call : Call) (a : Answer) → Calls Observed x y call a → is_timeout call ≡ false → (called x y.given call a).end.closing.state ≡ states.Open → DueSo n o (standing x.end) → Goes x.end n o (called x y.given call a).end (came_to (called x y.given call a) y)
call_due n o x y (calls.Timeout now) a c other still i = cc
call_due n o x y (calls.Poll now) a c other still i = inl (same_path x.end (polled x.policy x.end now).end (polled_stays x.policy x.end now), polled_due n o x.policy x.end now still i)
call_due n o x y (calls.Deliver delivery) a c other still i =
    by_coming_from x y a c.joined c.served (meets y x c.takes.0) (λ (b : Answer) (e : End) (j : Intake). e.closing.state ≡ states.Open → Goes x.end n o e j) (calls.Deliver delivery) c.answer (record {
      apart = λ apart. cc;
      none = λ there is opened. inl (same_path x.end x.end refl, i);
      comes = λ there is s among. arrivals_due n o there.remote there.ecn x.end there.now s.number s.frames (came_to x y) i;
    }) still
call_due n o x y call a c other still i = inl (same_path x.end (after_call x.policy x.end y.given call a) (apart_stays x.policy x.end y.given call a refl), plain_due n o x.policy x.end y.given call a refl refl other i still)

-- ---- a timeout

-- an end that asks its peer anew, or that asked as often as it may
anew_due : (words : ℕ → ℕ) (f : End) (n : ℕ) → f.path.validated ≡ false → n ≡ f.validation.drawn → AsksMore n (validation_moment f) (standing (challenged_anew words (nat_lt f.validation.drawn most_challenges) f))
anew_due words f n unvalidated count =
    subst (λ (k : ℕ). AsksMore n (validation_moment f) (standing (challenged_anew words (nat_lt k most_challenges) f))) count (go (nat_lt n most_questions) refl)
  where
    go : (b : Bool) → nat_lt n most_questions ≡ b → AsksMore n (validation_moment f) (standing (challenged_anew words b f))
    go true may = record {
      asked = ap (λ (b : Bool). if b then n + 1 else n) may ∙ ap (λ (k : ℕ). k + 1) count;
      set = ap (λ (b : Bool). if b then Some (validation_moment f) else None) (sym may) ∙ ap (λ (b : Bool). unless_validated b (if nat_lt n most_questions then Some (validation_moment f) else None)) (sym unvalidated);
    }
    go false may = record {
      asked = ap (λ (b : Bool). if b then n + 1 else n) may ∙ count;
      set = ap (λ (b : Bool). if b then Some (validation_moment f) else None) (sym may) ∙ ap (λ (b : Bool). unless_validated b (if nat_lt n most_questions then Some (validation_moment f) else None)) (sym unvalidated);
    }

-- which its observer reckons
more_due : (w : Watch) (n m calls : ℕ) (s : Standing) → moment_behind w.clock (three_waits w.flight) ≡ m → AsksMore n m s → DueSo (one_more w n calls).count (one_more w n calls).due s
more_due w n m calls s moment i = record { asked = counts (nat_lt n most_questions) ∙ i.asked; set = i.set ∙ ap (λ (o : Option ℕ). unless_validated s.validated o) (until_then (nat_lt n most_questions)) }
  where
    reckoned : Bool → Questions
    reckoned b = if b then record { watch = w; count = n + 1; due = Some (moment_behind w.clock (three_waits w.flight)); calls = calls } else record { watch = w; count = n; due = None; calls = calls }

    counts : (b : Bool) → (reckoned b).count ≡ (if b then n + 1 else n)
    counts true = refl
    counts false = refl

    until_then : (b : Bool) → (if b then Some m else None) ≡ (reckoned b).due
    until_then true = ap (λ (k : ℕ). Some k) (sym moment)
    until_then false = refl

-- an expired timer of losses leaves the clock
lost_closing : (b : Bool) (e : End) → (loss_expired b e).closing ≡ e.closing
lost_closing false e = refl
lost_closing true e = go e.tracking.loss_time
  where
    go : (o : Option ℕ) → (loss_judged o e).closing ≡ e.closing
    go None = refl
    go (Some moment) = ap (λ (h : Held). h.closing) (detected_held e)

-- of the timers beside that of losses only that of path validation changes what is asked
busy_standing : (words : ℕ → ℕ) (x : Expiry) (e : End) → standing (after_busy words x e) ≡ standing (path_expired words x.path e)
busy_standing words x e = go x.acks x.pacing x.keep_alive (path_expired words x.path e)
  where
    go : (acks pacing keeps : Bool) (f : End) → standing (with_loss_timer (acks_expired acks (pacing_expired pacing (keep_alive_expired keeps f)))) ≡ standing f
    go true true true f = refl
    go true true false f = refl
    go true false true f = refl
    go true false false f = refl
    go false true true f = refl
    go false true false f = refl
    go false false true f = refl
    go false false false f = refl

-- the one or the other, of an end that had asked so often, until this moment: it asks once more, or
-- doesn't
abbrev pub MoreIf : Bool → ℕ → Option ℕ → End → Type 0
MoreIf true n o f = AsksMore n (validation_moment f) (standing f)
MoreIf false n o f = DueSo n o (standing f)

-- a timeout at an open end that stays open
module _ (t : Terms) (p : Policy) (e : End) (now n : ℕ) (o : Option ℕ) (w : Watch) where
  abbrev left : End
  left = (timed_out_in states.Open p e now).end

  -- whether the moment came at which it asks anew, by what its observer knows
  abbrev comes_now : Bool
  comes_now = is_past o w.clock && not e.path.validated

  pub timeout_due : DueSo n o (standing e) → left.closing.state ≡ states.Open → Waits t w.clock w.flight (held left) → MoreIf comes_now n o left
  timeout_due i still waits = go e.path.validated refl
    where
      begins : End
      begins = with_closing e (ticked e.closing now)

      x : Expiry
      x = expiry_at (max e.closing.clock now) e.timers

      lost : End
      lost = loss_expired x.loss begins

      -- an end that is open still wasn't idle for too long
      busy : (b : Bool) → (unless_idle b p.words x lost).closing.state ≡ states.Open → b ≡ false
      busy true opened = cc
      busy false opened = refl

      holds : held left ≡ held lost
      holds = others_held p.words x lost (busy x.idle still)

      tells : Tells t w.clock w.flight (held lost)
      tells = subst (λ (h : Held). Tells t w.clock w.flight h) holds waits.tells

      clock : w.clock ≡ max e.closing.clock now
      clock = tells.clock ∙ ap (λ (c : Closing). c.clock) (lost_closing x.loss begins)

      lost_is : standing lost ≡ standing e
      lost_is = lost_stands (λ (s : Standing). s ≡ standing e) x.loss begins refl

      left_is : (b : Bool) → x.path ≡ b → standing left ≡ standing (path_expired p.words b lost)
      left_is b is = ap (λ (c : Bool). standing (unless_idle c p.words x lost)) (busy x.idle still) ∙ busy_standing p.words x lost ∙ ap (λ (c : Bool). standing (path_expired p.words c lost)) is

      -- the moment is the same
      moment : validation_moment lost ≡ validation_moment left
      moment = sym (moment_reckoned t w.clock w.flight lost tells) ∙ moment_reckoned t w.clock w.flight left waits.tells

      -- the timer expires as the observer reckons it
      comes : e.path.validated ≡ false → x.path ≡ is_past o w.clock
      comes unvalidated =
          past_same e.timers.path_validation (max e.closing.clock now)
          ∙ ap (λ (u : Option ℕ). is_past u (max e.closing.clock now)) (i.set ∙ ap (λ (b : Bool). unless_validated b o) unvalidated)
          ∙ ap (λ (k : ℕ). is_past o k) (sym clock)

      Behind : Bool → Type 0
      Behind b = MoreIf b n o left

      by_past : e.path.validated ≡ false → (b : Bool) → x.path ≡ b → Behind (b && true)
      by_past unvalidated true is =
          subst (λ (s : Standing). AsksMore n (validation_moment left) s) (sym (left_is true is))
          (subst (λ (m : ℕ). AsksMore n m (standing (path_expired p.words true lost))) moment
          (anew_due p.words lost n (ap (λ (s : Standing). s.validated) lost_is ∙ unvalidated) (i.asked ∙ ap (λ (s : Standing). s.asked.validation.drawn) (sym lost_is))))
      by_past unvalidated false is = subst (λ (s : Standing). DueSo n o s) (sym (left_is false is ∙ lost_is)) i

      none_past : (b : Bool) → DueSo n o (standing left) → Behind (b && false)
      none_past true j = j
      none_past false j = j

      go : (b : Bool) → e.path.validated ≡ b → Behind comes_now
      go true validated =
          let never : x.path ≡ false = ap (λ (u : Option ℕ). has_come u (max e.closing.clock now)) (i.set ∙ ap (λ (b : Bool). unless_validated b o) validated) in
          subst (λ (b : Bool). Behind (is_past o w.clock && not b)) (sym validated) (none_past (is_past o w.clock) (subst (λ (s : Standing). DueSo n o s) (sym (left_is false never ∙ lost_is)) i))
      go false unvalidated = subst (λ (b : Bool). Behind (is_past o w.clock && not b)) (sym unvalidated) (by_past unvalidated (is_past o w.clock) (comes unvalidated))

-- ---- the observer

-- asked once more, the observer knows what it did, and how many calls there were
one_more_watch : (w : Watch) (n calls : ℕ) → ((one_more w n calls).watch ≡ w) × ((one_more w n calls).calls ≡ calls)
one_more_watch w n calls = go (nat_lt n most_questions)
  where
    reckoned : Bool → Questions
    reckoned b = if b then record { watch = w; count = n + 1; due = Some (moment_behind w.clock (three_waits w.flight)); calls = calls } else record { watch = w; count = n; due = None; calls = calls }

    go : (b : Bool) → ((reckoned b).watch ≡ w) × ((reckoned b).calls ≡ calls)
    go true = (refl, refl)
    go false = (refl, refl)

pub told_watch : (l : Lens) (v : ℕ → Bool) (t : Told) (q : Questions) → ((questions_told l v t q).watch ≡ watch_told l t q.watch) × ((questions_told l v t q).calls ≡ suc q.calls)
told_watch l v t q = go (asks_anew (v q.calls) t (watch_told l t q.watch) q)
  where
    reckoned : Bool → Questions
    reckoned b = if b then one_more (watch_told l t q.watch) q.count (suc q.calls) else record q { watch = watch_told l t q.watch; calls = suc q.calls }

    go : (b : Bool) → ((reckoned b).watch ≡ watch_told l t q.watch) × ((reckoned b).calls ≡ suc q.calls)
    go true = one_more_watch (watch_told l t q.watch) q.count (suc q.calls)
    go false = (refl, refl)

-- the watch within it is the observer's
pub same_watch : (l : Lens) (v : ℕ → Bool) (told : List Told) (q : Questions) → (folded (questions_told l v) told q).watch ≡ folded (watch_told l) told q.watch
same_watch l v [] q = refl
same_watch l v (t ∷ told) q = same_watch l v told (questions_told l v t q) ∙ ap (λ (w : Watch). folded (watch_told l) told w) (told_watch l v t q).0

-- and it counts calls
more_calls : (m n k : ℕ) → m ≡ suc n → m + k ≡ n + suc k
more_calls m n k is = omega (arith, is)

same_calls : (l : Lens) (v : ℕ → Bool) (told : List Told) (q : Questions) → (folded (questions_told l v) told q).calls ≡ q.calls + length told
same_calls l v [] q = omega arith
same_calls l v (t ∷ told) q = same_calls l v told (questions_told l v t q) ∙ more_calls (questions_told l v t q).calls q.calls (length told) (told_watch l v t q).1

-- none are counted at first
none_more : (n : ℕ) → 0 + n ≡ n
none_more n = omega arith

first_is_watch : (validated : Bool) (w : Watch) → ((first_questions validated w).watch ≡ w) × ((first_questions validated w).calls ≡ 0)
first_is_watch true w = (refl, refl)
first_is_watch false w = one_more_watch w 0 0

-- one that is made asks its first word, where the address of its peer isn't validated
first_due : (side : Side) (settings : Settings) (windows : Windows) (theirs : ParameterValues) (own_id peer_id : List ℕ) (remote now : ℕ) (validated : Bool) (words : ℕ → ℕ) (final : List (List ℕ))
    → (let e = new_end side settings windows theirs own_id peer_id remote now validated words in
    let r = first_questions e.path.validated (first_watch final now remote (first_round e.transport) (e.peer_params.max_ack_delay * 1000000)) in
    DueSo r.count r.due (standing e))
first_due side settings windows theirs own_id peer_id remote now true words final = record { asked = refl; set = refl }
first_due side settings windows theirs own_id peer_id remote now false words final = record {
  asked = refl;
  set = ap (λ (k : ℕ). Some k) (sym (moment_reckoned (terms_of e) now (first_watch final now remote (first_round e.transport) (e.peer_params.max_ack_delay * 1000000)).flight e (record { terms = refl; clock = refl; named = refl; waits = tt; asked = refl; rtt = first_same e.transport; delay = refl; request = refl })));
}
  where
    e : End
    e = new_end side settings windows theirs own_id peer_id remote now false words

-- ---- at each place of a run

-- all that holds between the ends
abbrev All : Way
All = everything.All Ready ready

-- a call that says that a moment has come
timeout_is : (call : Call) → is_timeout call ≡ true → (now : ℕ) × (call ≡ calls.Timeout now)
timeout_is (calls.Timeout now) is = (now, refl)
timeout_is call is = cc

or_none : (b : Bool) → (b || false) ≡ b
or_none true = refl
or_none false = refl

module _ (r : Run) (end : World) (honest : IsHonest r) (run : IsRun r end) (side : Side) where
  abbrev l : Lens
  l = lens_of r side

  -- whether the address is seen to be validated before its calls
  abbrev v : ℕ → Bool
  v = shows_validated r side

  -- what is watched of how it asks is what its observer watches
  pub own_watch : (i : ℕ) → (questions r side i).watch ≡ watch r side i
  own_watch i = same_watch l v (until r side i) (questions_at_first r side) ∙ ap (λ (w : Watch). folded (watch_told l) (until r side i) w) (first_is_watch (end_at side r.start).path.validated (watch_from (end_at side r.start) (given_of r side))).0

  pub own_calls : (i : ℕ) → (questions r side i).calls ≡ length (until r side i)
  own_calls i = same_calls l v (until r side i) (questions_at_first r side) ∙ ap (λ (n : ℕ). n + length (until r side i)) (first_is_watch (end_at side r.start).path.validated (watch_from (end_at side r.start) (given_of r side))).1 ∙ none_more (length (until r side i))

  -- while the end is open, it asks as its observer reckons it
  abbrev pub Asked : ℕ → World → Type 0
  Asked i w = (end_at side w).closing.state ≡ states.Open → DueSo (questions r side i).count (questions r side i).due (standing (end_at side w))

  first_asked : Asked zero r.start
  first_asked opened = subst Due (sym (told_none side r.events r.views (end_at side r.start).closing.state)) (subst At (sym (start_is r.start honest.start side))
      (first_due side x.settings x.windows (parameters_of other.settings) x.id other.id x.remote x.moment x.validated x.words (given_of r side)))
    where
      x : Making
      x = making_at side r.start honest.start

      other : Making
      other = making_at (other_side side) r.start honest.start

      Due : List Told → Type 0
      Due told = (let q : Questions = folded (questions_told l v) told (questions_at_first r side) in DueSo q.count q.due (standing (end_at side r.start)))

      At : End → Type 0
      At e = (let q : Questions = first_questions e.path.validated (watch_from e (given_of r side)) in DueSo q.count q.due (standing e))

  -- a call of its own
  module _ (i : ℕ) (call : Call) (a : Answer) (w next : World) (m : IsMade r i side call a w next) (leads : LeadsTo r (suc i) next) (still : (end_at side next).closing.state ≡ states.Open) where
    pub h : CallHolds All r i side call a w
    h = call_holds All (everything.all Ready ready) r end honest run i side call a w next (λ id is. honest.ids side i id call a m.at is) (run.codes (record { side = side; call = call }) (stands_in r.events i (record { side = side; call = call }) m.at.event)) m

    abbrev pub x : Party
    x = calling r i w side call h.sents

    abbrev pub y : Party
    y = party_at r i w (other_side side) h.theirs

    abbrev pub behind : End
    behind = after_call x.policy x.end y.given call a

    pub c : Calls Observed x y call a
    c = less_calls All Observed (λ x y h. (h.0.0, h.1)) x y call a (whole All r i side call a w h)

    pub leaves : end_at side next ≡ left_at r side w call a
    leaves = made_end r i side call a w next m

    pub open_behind : behind.closing.state ≡ states.Open
    open_behind = sym (ap (λ (e : End). e.closing.state) leaves) ∙ still

    pub opened : x.end.closing.state ≡ states.Open
    opened = was_open x.policy x.end y.given call a open_behind

    pub open_here : (end_at side w).closing.state ≡ states.Open
    open_here = sym (reads_state (control_at side w) (heard_at side w) call (end_at side w)) ∙ opened

    pub state : state_at r side i ≡ states.Open
    state = state_there side r.keys i r.start w r.events r.answers r.views m.leads ∙ open_here

    -- that a poll reads its window changes nothing of it
    pub reads : standing x.end ≡ standing (end_at side w)
    reads = reads_either (λ (e : End). standing e ≡ standing (end_at side w)) (control_at side w) (heard_at side w) call (end_at side w) refl refl

    abbrev t : Told
    t = told_of call a (state_at r side i)

    abbrev q : Questions
    q = questions r side i

    abbrev after : Watch
    after = watch_told l t q.watch

    -- what is reckoned behind it
    abbrev anew : Bool
    anew = asks_anew (v q.calls) t after q

    abbrev reckoned : Bool → Questions
    reckoned b = if b then one_more after q.count (suc q.calls) else record q { watch = after; calls = suc q.calls }

    pub next_is : questions r side (suc i) ≡ questions_told l v t q
    next_is = ap (λ (ts : List Told). folded (questions_told l v) ts (questions_at_first r side)) (own_told r end run side i call a w next m) ∙ folded_more (questions_told l v) (until r side i) t (questions_at_first r side)

    pub after_is : after ≡ watch r side (suc i)
    after_is = sym (told_watch l v t q).0 ∙ ap (λ (u : Questions). u.watch) (sym next_is) ∙ own_watch (suc i)

    waits : Waits l.terms after.clock after.flight (held behind)
    waits = subst (λ (u : Watch). Waits l.terms u.clock u.flight (held behind)) (sym (after_is ∙ h.seen_behind)) (h.behind.1.watched.flight open_behind)

    reckons : moment_behind after.clock (three_waits after.flight) ≡ validation_moment behind
    reckons = moment_reckoned l.terms after.clock after.flight behind waits.tells

    -- the path changes where the observer sees it
    pub changed : has_changed q.watch after ≡ has_moved x.end behind
    changed =
        ap (λ (u : Watch). has_changed u after) (own_watch i)
        ∙ ap (λ (u : Watch). has_changed (watch r side i) u) after_is
        ∙ changes_at r end honest run side i w next m.served m.leads leads
        ∙ ap (λ (e : End). has_moved (end_at side w) e) leaves
        ∙ ap (λ (g : ℕ). not (behind.path.generation == g)) (sym (reads_either (λ (e : End). e.path.generation ≡ (end_at side w).path.generation) (control_at side w) (heard_at side w) call (end_at side w) refl refl))

    -- whether the address is validated is seen
    pub seen : v q.calls ≡ x.end.path.validated
    seen = sym (validated_there r end run side i call a w next m q.calls (own_calls i)) ∙ ap (λ (s : Standing). s.validated) (sym reads)

    abbrev Due : Bool → Type 0
    Due b = DueSo (reckoned b).count (reckoned b).due (standing behind)

    -- where no moment is told
    quiet_due : is_timeout call ≡ false → DueSo q.count q.due (standing x.end) → Due anew
    quiet_due other was = subst Due (sym (ap (λ (b : Bool). has_changed q.watch after || (b && (is_past q.due after.clock && not (v q.calls)))) (untimely t.state call other) ∙ or_none (has_changed q.watch after) ∙ changed))
        (elim (call_due q.count q.due x y call a c other open_behind was) [
          | inl same ↦ subst Due (sym same.0) (record { asked = same.1.asked; set = same.1.set })
          | inr more ↦ subst Due (sym more.0) (more_due after q.count (validation_moment behind) (suc q.calls) (standing behind) reckons more.1)
        ])

    -- and where one is
    timely_due : (now : ℕ) → call ≡ calls.Timeout now → DueSo q.count q.due (standing x.end) → Due anew
    timely_due now is was = subst Due (sym anew_is) (go (comes_now l.terms x.policy x.end now q.count q.due after) (timeout_due l.terms x.policy x.end now q.count q.due after was (sym (ap (λ (e : End). e.closing.state) timed) ∙ open_behind) (subst (λ (e : End). Waits l.terms after.clock after.flight (held e)) timed waits)))
      where
        timed : behind ≡ (timed_out_in states.Open x.policy x.end now).end
        timed = ap (λ (k : Call). after_call x.policy x.end y.given k a) is ∙ ap (λ (s : State). (timed_out_in s x.policy x.end now).end) opened

        stays : has_changed q.watch after ≡ false
        stays = changed ∙ same_path x.end behind (apart_stays x.policy x.end y.given call a (ap is_delivery is))

        anew_is : anew ≡ comes_now l.terms x.policy x.end now q.count q.due after
        anew_is =
            ap (λ (b : Bool). b || (is_timely t.state call && (is_past q.due after.clock && not (v q.calls)))) stays
            ∙ ap (λ (s : State). is_timely s call && (is_past q.due after.clock && not (v q.calls))) state
            ∙ ap (λ (k : Call). is_timely states.Open k && (is_past q.due after.clock && not (v q.calls))) is
            ∙ ap (λ (b : Bool). is_past q.due after.clock && not b) seen

        go : (b : Bool) → MoreIf b q.count q.due (timed_out_in states.Open x.policy x.end now).end → Due b
        go true more = more_due after q.count (validation_moment behind) (suc q.calls) (standing behind) reckons (subst (λ (e : End). AsksMore q.count (validation_moment e) (standing e)) (sym timed) more)
        go false same = (let j = subst (λ (e : End). DueSo q.count q.due (standing e)) (sym timed) same in record { asked = j.asked; set = j.set })

    own_asked : Asked i w → DueSo (questions r side (suc i)).count (questions r side (suc i)).due (standing (end_at side next))
    own_asked before = subst (λ (u : Questions). DueSo u.count u.due (standing (end_at side next))) (sym next_is) (subst (λ (s : Standing). DueSo (reckoned anew).count (reckoned anew).due s) (sym (ap (λ (e : End). standing e) leaves)) (go (is_timeout call) refl))
      where
        was : DueSo q.count q.due (standing x.end)
        was = subst (λ (s : Standing). DueSo q.count q.due s) (sym reads) (before open_here)

        go : (b : Bool) → is_timeout call ≡ b → Due anew
        go true is = (let told = timeout_is call is in timely_due told.0 told.1 was)
        go false other = quiet_due other was

  other_asked : (i : ℕ) (event : RunEvent) (a : Answer) (w next : World) → slice_get r.events i ≡ Some event → same_side event.side side ≡ false → IsStep r.keys w event a next → until r side (suc i) ≡ until r side i → Asked i w → Asked (suc i) next
  other_asked i event a w next at other step told before still =
      let same = (step_leaves side r.keys w next event a other step).end in
      subst (λ (ts : List Told). let u : Questions = folded (questions_told l v) ts (questions_at_first r side) in DueSo u.count u.due (standing (end_at side next))) (sym told)
      (subst (λ (e : End). DueSo (questions r side i).count (questions r side i).due (standing e)) (sym same) (before (sym (ap (λ (e : End). e.closing.state) same) ∙ still)))

  -- at each place
  pub asked_at : (i : ℕ) (w : World) → i ≤ length r.views → AreServed r i → LeadsTo r i w → Asked i w
  asked_at = along r end run side Asked (record { first = first_asked; own = λ i call a w next m leads before still. own_asked i call a w next m leads still before; other = other_asked })

-- whether a view shows that the address is validated
validated_shown : (side : Side) (w : World) → (end_in (view_of w) side).validated ≡ (end_at side w).path.validated
validated_shown Client w = refl
validated_shown Server w = refl

pub path_moments : (r : Run) (end : World) → IsHonest r → IsRun r end → PathMoments r
path_moments r end honest run side i v served there opened =
    let at : Placed All r end side (suc i) = placed All (everything.all Ready ready) r end honest run side (suc i) served in
    let now_open : (end_at side at.world).closing.state ≡ states.Open = watched.open_behind r at.world i v side at.leads there opened in
    let seen : (end_in v side).validated ≡ (end_at side at.world).path.validated = ap (λ (u : View). (end_in u side).validated) (shown r at.world i v at.leads there) ∙ validated_shown side at.world in
    let within = slice_get_within r.views i v there in
    let asked = asked_at r end honest run side (suc i) at.world (omega (arith, within)) served at.leads now_open in
    ap (λ (ts : List (Option ℕ)). slice_get ts 4) (timers_behind r at.world i v side at.leads there)
    ∙ ap (λ (o : Option ℕ). Some o) (asked.set ∙ ap (λ (b : Bool). unless_validated b (questions r side (suc i)).due) (sym seen))
