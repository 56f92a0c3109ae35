-- What is wanted of an open end, by what its observer knows: packets that don't ask are counted,
-- PING waits; and what went since something could make it wait, waits no more. Each call keeps
-- that.
use Rattle.std.proofs.Common.{◌≡◌, ℕ, ◌+◌, ◌≤◌, ◌⊎◌, Bool, true, false, cond, ◌||◌, ◌&&◌, not, List, [], ◌∷◌, ◌++◌, length, map, Option, Some, None, Ok, refl, sym, ap, ◌∙◌, subst, inl, inr, arith}
use Rattle.std.specs.Prelude.{if◌then◌else◌, nat_lt}
use Rattle.std.specs.List.{list_any}
use Rattle.std.proofs.lemmas.Bool.{and_from, or_cases, or_left, or_right, both_ways, lt-ltb, ltb-false}
use Rattle.std.proofs.lemmas.List.Folds.{list_any-append}
use Rattle.std.proofs.lemmas.List.Sums.{sum_by-append, sum_by-cons}
use Rattle.quic_wire_core.specs.declared.shared.EcnCodepoint.{EcnCodepoint}
use Rattle.quic_wire.specs.Value.{FrameValue, asks}
use Rattle.quic_recovery_core.specs.Duplicates.{Seen}
use Rattle.quic_recovery_core.specs.PendingAcks.{Pending, after_insert, asking_counted, starts_wait, after_packet}
use Rattle.quic_spaces.specs.Acknowledging.{with_due}
use Rattle.quic_time.specs.Timers.{has_come}
use Rattle.quic_config.specs.Transport.{TransportSettings}
use Rattle.quic_machine.specs.declared.answers.State.{State}
use Rattle.quic_machine.specs.declared.answers.State.TheVariants as states
use Rattle.quic_machine.specs.declared.run.Call.{Call}
use Rattle.quic_machine.specs.declared.run.Call.TheVariants as calls
use Rattle.quic_machine.specs.declared.run.Answer.{Answer}
use Rattle.quic_machine.specs.declared.run.Answer.TheVariants as answers
use Rattle.quic_machine.specs.Policy.{Policy}
use Rattle.quic_machine.specs.Parts.{Waiting}
use Rattle.quic_machine.specs.End.{End}
use Rattle.quic_machine.specs.Receive.{asks_in, after_taken, Outcome}
use Rattle.quic_machine.specs.Poll.{Polled, zeros_behind, polled, asks_anew}
use Rattle.quic_machine.specs.PollCases.{ready_at, draft_at, frames_at, may_leave_at}
use Rattle.quic_machine.specs.FrameCases.{begun}
use Rattle.quic_machine.specs.CallCases.{is_delivery, is_poll, is_timeout}
use Rattle.quic_machine.specs.Machine.{after_call, gave}
use Rattle.quic_headline.specs.Runs.{Told, Packet, Intake, folded, says_done, was_said_done}
use Rattle.quic_headline.specs.Observer.{Sent, Terms, asks_of, Watch, first_watch, news, is_past, is_timely, Lens, watch_told}
use Rattle.quic_headline.specs.Moments.{acknowledges}
use Rattle.quic_headline.specs.InFlight.{is_ack_frequency}
use Rattle.quic_headline.specs.Requests.{requests_in}
use Rattle.quic_headline.specs.Waited.{count_silent, stands, is_ping, asks_ping, Wants, since_behind, wakes, alive_from, alive_behind, probes_in_vain, wants_behind, wants_told, no_wants}
use Rattle.quic_machine.specs.Closing.{Closing, ticked}
use Rattle.quic_headline.proofs.Packets.Intakes.{folded_more, none_handed}
use Rattle.quic_headline.proofs.Packets.Delivered.{Arrivals, arrived, with_taken, frames_at as taken_at}
use Rattle.quic_headline.proofs.Packets.Stays.{placed_call}
use Rattle.quic_headline.proofs.Packets.Watching.{untimely, none_new, one_new}
use Rattle.quic_headline.proofs.Packets.Probes.{by_going}
use Rattle.quic_headline.proofs.Packets.Group.{meets}
use Rattle.quic_headline.proofs.Places.Parties.{sent_by, sent_if, sents_by, told_of, Party, called, came_to, lens, watch_of, sent_as}
use Rattle.quic_headline.proofs.Places.Groups.{Calls, Group}
use Rattle.quic_headline.proofs.Places.Coming.{came_same, by_coming}
use Rattle.quic_headline.proofs.Places.Steps.{poll_answer}
use Rattle.quic_headline.proofs.Timers.Still.{was_open}
use Rattle.quic_headline.proofs.Timers.Watched.{Observed, watch_behind, went_behind, came_before, came_behind, watched_behind}
use Rattle.quic_headline.proofs.Timers.AckMoments.{asks_same, call_answered}
use Rattle.quic_headline.proofs.Rest.Standing.{frames_acks, call_leaves}
use Rattle.quic_headline.proofs.Waited.Flags.{Flag, says, flag, IsSaid, draft_said, said_padded, asked_flag}
use Rattle.quic_headline.proofs.Waited.Alive.{alive_again, again_is, again_none, polled_alive, Timed, timed, wakes_at, past_is, SetBy, none_set, arrivals_set, quiet_alive}
use Rattle.quic_headline.proofs.Waited.Pings.{ready_still, WaitsStill, polled_pinged, call_pinged, of_ping, of_immediate, call_hastened}
use Rattle.quic_headline.proofs.Packets.Sends.{by_sends}
use Rattle.quic_headline.proofs.Steps.Probes.{begun as begun_at}
use Rattle.quic_headline.proofs.Requests.Asks.{by_of, is_anew, anew_is}
use Rattle.quic_headline.proofs.Requests.Drafts.{Goes, goes_none, goes_one, polled_requests, requests_any}
use Rattle.quic_headline.proofs.Packets.Moving.{moved_acks}

-- ---- packets that don't ask

-- where more came
pub silent_more : (came packets : List Packet) → count_silent (came ++ packets) ≡ count_silent came + count_silent packets
silent_more came packets = sum_by-append (λ (p : Packet). cond (not (list_any asks p.frames)) 1 0) came packets

-- as many of them came as are counted
abbrev Counts : List Packet → Intake → End → Intake → Type 0
Counts packets i e j = e.closing.state ≡ states.Open → e.acknowledging.silent ≤ count_silent (news i j ++ packets)

none_counts : (packets : List Packet) (i : Intake) (e : End) → e.acknowledging.silent ≤ count_silent packets → Counts packets i e i
none_counts packets i e silent opened = subst (λ (qs : List Packet). e.acknowledging.silent ≤ count_silent (qs ++ packets)) (sym (none_new i)) silent

-- the timer leaves the count
wait_silent : (b : Bool) (p : Pending) (now : ℕ) → (cond b (record p { since = Some now }) p).silent ≡ p.silent
wait_silent true p now = refl
wait_silent false p now = refl

-- a packet that is taken
packet_counts : (b : Bool) (p : Pending) (now n : ℕ) (s : Seen) (packets : List Packet) (q : Packet) → list_any asks q.frames ≡ b → p.silent ≤ count_silent packets → (after_packet p now n b s).silent ≤ count_silent (q ∷ packets)
packet_counts true p now n s packets q is silent =
    let same : (after_packet p now n true s).silent ≡ p.silent = wait_silent (starts_wait (asking_counted p n s)) (asking_counted p n s) now in
    let more = silent_more (q ∷ []) packets in
    omega arith
packet_counts false p now n s packets q is silent =
    let one : count_silent (q ∷ packets) ≡ 1 + count_silent packets = sum_by-cons (λ (p : Packet). cond (not (list_any asks p.frames)) 1 0) q packets ∙ ap (λ (b : Bool). cond (not b) 1 0 + count_silent packets) is in
    omega arith

-- each case of a delivery
arrivals_count : (e : End) (now n : ℕ) (frames taken : List FrameValue) (i : Intake) (packets : List Packet) → (e.closing.state ≡ states.Open → e.acknowledging.silent ≤ count_silent packets) → Arrivals e now n frames taken i (λ (o : Outcome) (j : Intake). Counts packets i o.end j)
arrivals_count e now n frames taken i packets was = record {
  ignored = λ reason opened. none_counts packets i e (was opened) opened;
  noted = λ state reason opened. absurd (let clash : states.Closing ≡ states.Open = sym state ∙ opened in cc);
  takes = λ words state new none urged mark opened. takes urged mark (was state);
  moves = λ p o same remote x opened j still. subst (λ (q : Pending). q.silent ≤ count_silent (news i (with_taken i n frames) ++ packets)) (sym (moved_acks p o remote x)) (j opened);
  drains = λ words state new close is opened. absurd cc;
  refuses = λ words state new f is opened. absurd cc;
  exhausts = λ state opened. absurd cc;
}
  where
    left : End
    left = (arrived e now n taken).end

    after : Bool → Option EcnCodepoint → Pending
    after urged mark = (after_taken n (asks_in (map Ok frames)) urged mark left).acknowledging

    takes : (urged : Bool) (mark : Option EcnCodepoint) → e.acknowledging.silent ≤ count_silent packets → (after urged mark).silent ≤ count_silent (news i (with_taken i n frames) ++ packets)
    takes urged mark old =
        subst (λ (qs : List Packet). (after urged mark).silent ≤ count_silent (qs ++ packets)) (sym (one_new i n frames))
        (packet_counts (asks_in (map Ok frames)) (with_due urged (after_insert left.acknowledging n left.closing.clock)) left.closing.clock n left.numbers.opened packets (record { number = n; frames = frames }) (sym (asks_same frames))
        (subst (λ (k : ℕ). k ≤ count_silent packets) (sym (frames_acks taken (begun e now n)).silent) old))

-- ---- a poll

-- what was said since something could make it wait
module _ (p : Policy) (e : End) (now : ℕ) (k : Flag) where
  abbrev base : Waiting
  base = (ready_at e now).end.waiting

  -- what waits behind a poll did before where its end was ready; and what went waits no more
  pub polled_flags : (polled p e now).end.closing.state ≡ states.Open → (flag k (polled p e now).end.waiting ≡ true → (flag k base ≡ true) ⊎ (flag k e.waiting ≡ true))
      × (stands (says k) (sent_if (gave (answers.Poll (polled p e now).answer)) (sent_by p e now)) ≡ true → flag k (polled p e now).end.waiting ≡ false)
  polled_flags = by_sends p e now (λ (q : Polled) (ss : List Sent). q.end.closing.state ≡ states.Open → (flag k q.end.waiting ≡ true → (flag k base ≡ true) ⊎ (flag k e.waiting ≡ true)) × (stands (says k) ss ≡ true → flag k q.end.waiting ≡ false)) (record {
    silent = λ opened. ((λ set. inr set), λ some. cc);
    failed = λ opened. ((λ set. inr set), λ some. cc);
    nothing = λ is none opened. ((λ set. inl set), λ some. cc);
    repeats = λ is. ((λ opened. let clash : states.Closing ≡ states.Open = sym is ∙ opened in cc), λ f goes opened. let clash : states.Closing ≡ states.Open = sym is ∙ opened in cc);
    closes = λ reason is bound. ((λ opened. cc), λ f goes opened. cc);
    gives = λ is may some. by_going (λ (x : End). x.closing.state ≡ states.Open → (flag k x.waiting ≡ true → (flag k base ≡ true) ⊎ (flag k e.waiting ≡ true)) × (stands (says k) (sent_as e now (draft_at e now) ∷ []) ≡ true → flag k x.waiting ≡ false)) p (draft_at e now)
        (λ pacing opened. ((λ set. inl (said.waits set)), λ some. said.gone (sym (said_padded base k (draft_at e now).frames (zeros_behind (draft_at e now))) ∙ only (list_any (says k) (frames_at e now)) some)));
  })
    where
      said : IsSaid base k (draft_at e now)
      said = draft_said base k (ready_at e now).leaving (ready_at e now).end (may_leave_at e now) refl

      only : (b : Bool) → (b || false) ≡ true → b ≡ true
      only true is = refl
      only false is = is

-- ---- the group

-- what the observer of x knows to be wanted
abbrev pub wants_of : Party → Party → Wants
wants_of x y = folded (wants_told (lens x y)) x.told (no_wants (first_watch x.final x.began x.made.path.remote x.first_rtt x.initial_delay))

-- the watch within it is the observer's
same_watch : (l : Lens) (told : List Told) (w : Wants) → (folded (wants_told l) told w).watch ≡ folded (watch_told l) told w.watch
same_watch l [] w = refl
same_watch l (t ∷ told) w = same_watch l told (wants_told l t w)

pub wants_watch : (x y : Party) → (wants_of x y).watch ≡ watch_of x y
wants_watch x y = same_watch (lens x y) x.told (no_wants (first_watch x.final x.began x.made.path.remote x.first_rtt x.initial_delay))

-- where it was said that the handshake is done, the observer knows that
done_told : (l : Lens) (told : List Told) (w : Wants) → (was_said_done told ≡ true) ⊎ (w.done ≡ true) → (folded (wants_told l) told w).done ≡ true
done_told l [] w (inl none) = cc
done_told l [] w (inr was) = was
done_told l (t ∷ told) w (inl some) = elim (or_cases (says_done t.call t.answer) (was_said_done told) some) [
  | inl here ↦ done_told l told (wants_told l t w) (inr (or_left (says_done t.call t.answer) w.done here))
  | inr later ↦ done_told l told (wants_told l t w) (inl later)
]
done_told l (t ∷ told) w (inr was) = done_told l told (wants_told l t w) (inr (or_right (says_done t.call t.answer) w.done was))

pub wants_done : (x y : Party) → was_said_done x.told ≡ true → (wants_of x y).done ≡ true
wants_done x y said = done_told (lens x y) x.told (no_wants (first_watch x.final x.began x.made.path.remote x.first_rtt x.initial_delay)) (inl said)

-- what an open end wants, by what is known to be wanted
pub record IsWanted (w : Wants) (e : End) : Type 0 where
  pub silent : e.acknowledging.silent ≤ count_silent w.packets
  pub pinged : e.waiting.signals.ping ≡ true → (w.pinged || w.probed) ≡ true
  pub hastened : e.waiting.signals.immediate ≡ true → w.probed ≡ true
  -- when it is to be kept alive; never, where none is configured
  pub alive : w.alive ≡ e.timers.keep_alive
  pub untimed : e.transport.keep_alive_interval ≡ None → e.timers.keep_alive ≡ None
  pub gone : (k : Flag) → stands (says k) w.since ≡ true → flag k e.waiting ≡ false
  -- ACK_FREQUENCY went since, and waits once more only where the peer is to be asked anew
  pub asked : stands is_ack_frequency w.since ≡ true → e.waiting.frames.ack_frequency ≡ true → is_anew (by_of e) ≡ true

-- so it is while x is open
pub record Wanting (x y : Party) : Type 0 where
  pub wanted : x.end.closing.state ≡ states.Open → IsWanted (wants_of x y) x.end

module _ (x y : Party) (call : Call) (a : Answer) (c : Calls Observed x y call a) (opened_behind : (called x y.given call a).end.closing.state ≡ states.Open) (i : IsWanted (wants_of x y) x.end) where
  abbrev w : Wants
  w = wants_of x y

  abbrev t : Told
  t = told_of call a x.end.closing.state

  abbrev next : Party
  next = called x y.given call a

  abbrev sents : List Sent
  sents = sents_by x.policy x.end call a

  abbrev came : List Packet
  came = news (came_to x y) (came_to next y)

  opened : x.end.closing.state ≡ states.Open
  opened = was_open x.policy x.end y.given call a opened_behind

  pub watched : w.watch ≡ watch_of x y
  watched = wants_watch x y

  abbrev after : Watch
  after = watch_behind x y call a c w.watch watched

  -- what is wanted behind the call
  pub wants_next : wants_of next y ≡ wants_behind x.terms.keep_alive t sents came after w
  wants_next =
      folded_more (wants_told (lens x y)) x.told t (no_wants (first_watch x.final x.began x.made.path.remote x.first_rtt x.initial_delay))
      ∙ ap (λ (ss : List Sent). wants_behind x.terms.keep_alive t ss (news w.watch.intake after.intake) after w) (went_behind x y call a c w.watch watched)
      ∙ ap (λ (j : Intake). wants_behind x.terms.keep_alive t sents (news j after.intake) after w) (came_before x y call a c w.watch watched)
      ∙ ap (λ (j : Intake). wants_behind x.terms.keep_alive t sents (news (came_to x y) j) after w) (came_behind x y call a c w.watch watched)

  -- ---- packets that don't ask

  -- where no ACK frame went
  counts_on : acknowledges sents ≡ false → Counts w.packets (came_to x y) next.end (came_to next y)
  counts_on none = by_coming x y a c.joined c.served (meets y x c.takes.0) (Counts w.packets (came_to x y)) call c.answer (record {
    apart = λ apart. none_counts w.packets (came_to x y) (after_call x.policy x.end y.given call a)
        (call_leaves (λ (q : Pending). q.silent ≤ count_silent w.packets) x.end i.silent i.silent i.silent x.policy y.given call a apart c.answer c.served none);
    none = λ delivery is. none_counts w.packets (came_to x y) x.end i.silent;
    comes = λ delivery is s among here. arrivals_count x.end delivery.now s.number s.frames (taken_at here s.frames) (came_to x y) w.packets (λ still. i.silent);
  })

  silent_next : (b : Bool) → acknowledges sents ≡ b → next.end.acknowledging.silent ≤ count_silent (if b then [] else came ++ w.packets)
  silent_next true some =
      let none = call_answered (λ (p : Pending) (o : Option ℕ). p.silent ≡ 0) (λ p. refl) x.policy x.end y.given call a c.gives.0.owes c.answer c.served some in
      omega (arith, none)
  silent_next false none = counts_on none opened_behind

  -- ---- PING, and what went

  -- the observer counts the probes that wait as the end does
  probes : w.watch.flight.probes ≡ x.end.tracking.probes
  probes = ap (λ (v : Watch). v.flight.probes) watched ∙ (c.gives.1.watched.flight opened).probes

  -- ---- how long it is without a packet

  -- an observer counts by what the end was configured with
  interval : x.terms.keep_alive ≡ x.end.transport.keep_alive_interval
  interval = ap (λ (u : Terms). u.keep_alive) (c.gives.1.watched.flight opened).tells.terms

  -- and by its clock
  clock : after.clock ≡ next.end.closing.clock
  clock = ((watched_behind x y call a c w.watch watched).flight opened_behind).tells.clock

  -- where no moment comes, none is woken
  pub calm : is_timeout call ≡ false → wakes t after.clock w.alive ≡ false
  calm other = ap (λ (b : Bool). b && is_past w.alive after.clock) (untimely x.end.closing.state call other)

  -- as it is set behind a call, where a packet came or something went
  abbrev SetTo : Bool → Bool → Type 0
  SetTo sent comes = next.end.timers.keep_alive ≡ (if sent || comes then alive_again x.end.transport.keep_alive_interval next.end.closing.clock x.end.timers.keep_alive else x.end.timers.keep_alive)

  -- so an observer has it
  set_is : is_timeout call ≡ false → SetTo (nat_lt 0 (length sents)) (nat_lt 0 (length came)) → alive_behind x.terms.keep_alive t sents came after.clock w.alive ≡ next.end.timers.keep_alive
  set_is other set = go (nat_lt 0 (length sents) || nat_lt 0 (length came)) set
    where
      go : (b : Bool) → next.end.timers.keep_alive ≡ (if b then alive_again x.end.transport.keep_alive_interval next.end.closing.clock x.end.timers.keep_alive else x.end.timers.keep_alive)
          → (if b then alive_from x.terms.keep_alive after.clock else (if wakes t after.clock w.alive then None else w.alive)) ≡ next.end.timers.keep_alive
      go true is =
          ap (λ (o : Option ℕ). alive_from o after.clock) interval
          ∙ ap (λ (n : ℕ). alive_from x.end.transport.keep_alive_interval n) clock
          ∙ again_is x.end.transport.keep_alive_interval next.end.closing.clock x.end.timers.keep_alive i.untimed ∙ sym is
      go false is = ap (λ (b : Bool). if b then None else w.alive) (calm other) ∙ i.alive ∙ sym is

  -- none is set still where none is kept
  untimed_is : (sent comes : Bool) → SetTo sent comes → next.end.transport.keep_alive_interval ≡ None → next.end.timers.keep_alive ≡ None
  untimed_is sent comes set none = set ∙ go (sent || comes)
    where
      never : x.end.transport.keep_alive_interval ≡ None
      never = ap (λ (s : TransportSettings). s.keep_alive_interval) (sym (placed_call x.policy x.end y.given call a).transport) ∙ none

      go : (b : Bool) → (if b then alive_again x.end.transport.keep_alive_interval next.end.closing.clock x.end.timers.keep_alive else x.end.timers.keep_alive) ≡ None
      go true = again_none x.end.transport.keep_alive_interval next.end.closing.clock x.end.timers.keep_alive i.untimed never
      go false = i.untimed never

-- by which call it is
module _ (x y : Party) (a : Answer) where
  -- nothing comes by a call that hands nothing in
  none_came : (call : Call) → is_delivery call ≡ false → nat_lt 0 (length (news (came_to x y) (came_to (called x y.given call a) y))) ≡ false
  none_came call apart =
      ap (λ (j : Intake). nat_lt 0 (length (news (came_to x y) j))) (came_same x y call a (none_handed y.final call a apart))
      ∙ ap (λ (ps : List Packet). nat_lt 0 (length ps)) (none_new (came_to x y))

  or_none : (b : Bool) → (b || false) ≡ b
  or_none true = refl
  or_none false = refl

  -- a moment that comes wakes an end as its observer knows
  pub woken : (now : ℕ) (c : Calls Observed x y (calls.Timeout now) a) → (called x y.given (calls.Timeout now) a).end.closing.state ≡ states.Open → IsWanted (wants_of x y) x.end
      → wakes (told_of (calls.Timeout now) a x.end.closing.state) (watch_behind x y (calls.Timeout now) a c (wants_of x y).watch (wants_watch x y)).clock (wants_of x y).alive ≡ has_come x.end.timers.keep_alive (ticked x.end.closing now).clock
  woken now c still i =
      ap (λ (s : State). is_timely s (calls.Timeout now) && is_past (wants_of x y).alive moment) opened
      ∙ past_is (wants_of x y).alive moment
      ∙ ap (λ (o : Option ℕ). has_come o moment) i.alive
      ∙ ap (λ (n : ℕ). has_come x.end.timers.keep_alive n) (clock x y (calls.Timeout now) a c still i ∙ ap (λ (z : Closing). z.clock) (timed x.policy x.end now opened still).closing)
    where
      opened : x.end.closing.state ≡ states.Open
      opened = was_open x.policy x.end y.given (calls.Timeout now) a still

      moment : ℕ
      moment = (watch_behind x y (calls.Timeout now) a c (wants_of x y).watch (wants_watch x y)).clock

  -- the time without a packet behind a call, as an observer has it, and where none is kept
  abbrev Living : (call : Call) → Calls Observed x y call a → Type 0
  Living call c = (let next : End = (called x y.given call a).end in
      (alive_behind x.terms.keep_alive (told_of call a x.end.closing.state) (sents_by x.policy x.end call a) (news (came_to x y) (came_to (called x y.given call a) y)) (watch_behind x y call a c (wants_of x y).watch (wants_watch x y)).clock (wants_of x y).alive ≡ next.timers.keep_alive)
      × (next.transport.keep_alive_interval ≡ None → next.timers.keep_alive ≡ None))

  living_set : (call : Call) (c : Calls Observed x y call a) (still : (called x y.given call a).end.closing.state ≡ states.Open) (i : IsWanted (wants_of x y) x.end) → is_timeout call ≡ false
      → SetTo x y call a c still i (nat_lt 0 (length (sents_by x.policy x.end call a))) (nat_lt 0 (length (news (came_to x y) (came_to (called x y.given call a) y)))) → Living call c
  living_set call c still i other set = (set_is x y call a c still i other set, untimed_is x y call a c still i (nat_lt 0 (length (sents_by x.policy x.end call a))) (nat_lt 0 (length (news (came_to x y) (came_to (called x y.given call a) y)))) set)

  living_timed : (now : ℕ) (c : Calls Observed x y (calls.Timeout now) a) → (called x y.given (calls.Timeout now) a).end.closing.state ≡ states.Open → IsWanted (wants_of x y) x.end → Living (calls.Timeout now) c
  living_timed now c still i = (known, λ none. left.alive ∙ unset none (has_come e.timers.keep_alive (ticked e.closing now).clock))
    where
      e : End
      e = x.end

      f : End
      f = (called x y.given (calls.Timeout now) a).end

      left : Timed e f now
      left = timed x.policy e now (was_open x.policy e y.given (calls.Timeout now) a still) still

      moment : ℕ
      moment = (watch_behind x y (calls.Timeout now) a c (wants_of x y).watch (wants_watch x y)).clock

      known : alive_behind x.terms.keep_alive (told_of (calls.Timeout now) a e.closing.state) [] (news (came_to x y) (came_to (called x y.given (calls.Timeout now) a) y)) moment (wants_of x y).alive ≡ f.timers.keep_alive
      known =
          ap (λ (b : Bool). if b then alive_from x.terms.keep_alive moment else (if wakes (told_of (calls.Timeout now) a e.closing.state) moment (wants_of x y).alive then None else (wants_of x y).alive)) (none_came (calls.Timeout now) refl)
          ∙ ap (λ (b : Bool). if b then None else (wants_of x y).alive) (woken now c still i)
          ∙ ap (λ (o : Option ℕ). if has_come e.timers.keep_alive (ticked e.closing now).clock then None else o) i.alive
          ∙ sym left.alive

      unset : f.transport.keep_alive_interval ≡ None → (b : Bool) → (if b then None else e.timers.keep_alive) ≡ None
      unset none true = refl
      unset none false = i.untimed (ap (λ (s : TransportSettings). s.keep_alive_interval) (sym (placed_call x.policy e y.given (calls.Timeout now) a).transport) ∙ none)

  living_next : (call : Call) (c : Calls Observed x y call a) → (called x y.given call a).end.closing.state ≡ states.Open → IsWanted (wants_of x y) x.end → Living call c
  living_next (calls.Poll now) c still i = living_set (calls.Poll now) c still i refl (
      let e : End = x.end in
      let f : End = (polled x.policy e now).end in
      let gone : Bool = nat_lt 0 (length (sent_if (gave a) (sent_by x.policy e now))) in
      polled_alive x.policy e now still
      ∙ ap (λ (b : Answer). if nat_lt 0 (length (sent_if (gave b) (sent_by x.policy e now))) then alive_again e.transport.keep_alive_interval f.closing.clock e.timers.keep_alive else e.timers.keep_alive) (sym (poll_answer x.policy e now a c.answer c.served))
      ∙ ap (λ (b : Bool). if b then alive_again e.transport.keep_alive_interval f.closing.clock e.timers.keep_alive else e.timers.keep_alive) (sym (ap (λ (b : Bool). gone || b) (none_came (calls.Poll now) refl) ∙ or_none gone)))
  living_next (calls.Timeout now) c still i = living_timed now c still i
  living_next (calls.Deliver delivery) c still i = living_set (calls.Deliver delivery) c still i refl
      (by_coming x y a c.joined c.served (meets y x c.takes.0) (SetBy x.end (came_to x y)) (calls.Deliver delivery) c.answer (record {
        apart = λ apart. cc;
        none = λ other same. none_set x.end (came_to x y) x.end refl;
        comes = λ other same s among here. arrivals_set x.end other.now s.number s.frames (taken_at here s.frames) (came_to x y);
      }) still)
  living_next call c still i = living_set call c still i refl (
      quiet_alive x.policy x.end y.given call a refl refl refl still
      ∙ ap (λ (b : Bool). if b then alive_again x.end.transport.keep_alive_interval (called x y.given call a).end.closing.clock x.end.timers.keep_alive else x.end.timers.keep_alive) (sym (none_came call refl)))

  -- ---- PING

  -- what is wanted of it behind a call that is no poll
  other_pinged : (call : Call) (wakes_now vain : Bool) → is_poll call ≡ false → (called x y.given call a).end.closing.state ≡ states.Open → IsWanted (wants_of x y) x.end → wakes_now ≡ wakes_at x.end call → (called x y.given call a).end.waiting.signals.ping ≡ true
      → ((asks_ping call || (wakes_now || (wants_of x y).pinged)) || (vain || (wants_of x y).probed)) ≡ true
  other_pinged call wakes_now vain silent still i same set = elim (or_cases (asks_ping call) (wakes_at x.end call || x.end.waiting.signals.ping) (sym (call_pinged x.policy x.end y.given call a silent still) ∙ set)) [
    | inl asked ↦ or_left (asks_ping call || (wakes_now || w.pinged)) (vain || w.probed) (or_left (asks_ping call) (wakes_now || w.pinged) asked)
    | inr other ↦ elim (or_cases (wakes_at x.end call) x.end.waiting.signals.ping other) [
      | inl wakes_up ↦ or_left (asks_ping call || (wakes_now || w.pinged)) (vain || w.probed) (or_right (asks_ping call) (wakes_now || w.pinged) (or_left wakes_now w.pinged (same ∙ wakes_up)))
      | inr was ↦ elim (or_cases w.pinged w.probed (i.pinged was)) [
        | inl pinged ↦ or_left (asks_ping call || (wakes_now || w.pinged)) (vain || w.probed) (or_right (asks_ping call) (wakes_now || w.pinged) (or_right wakes_now w.pinged pinged))
        | inr probed ↦ or_right (asks_ping call || (wakes_now || w.pinged)) (vain || w.probed) (or_right vain w.probed probed)
      ]
    ]
  ]
    where
      w : Wants
      w = wants_of x y

  -- and behind a poll
  poll_pinged : (now : ℕ) (wakes_now : Bool) (c : Calls Observed x y (calls.Poll now) a) → (called x y.given (calls.Poll now) a).end.closing.state ≡ states.Open → IsWanted (wants_of x y) x.end → (called x y.given (calls.Poll now) a).end.waiting.signals.ping ≡ true
      → (let ss : List Sent = sent_if (gave a) (sent_by x.policy x.end now) in
      ((if stands is_ping ss then false else (wakes_now || (wants_of x y).pinged)) || (if list_any asks_of ss then false else (probes_in_vain (calls.Poll now) ss (wants_of x y).watch || (wants_of x y).probed))) ≡ true)
  poll_pinged now wakes_now c still i set = both (stands is_ping ss) left.none (list_any asks_of ss) left.quiet (elim left.before [
    | inl was ↦ elim (or_cases w.pinged w.probed (i.pinged was)) [
      | inl asked ↦ or_left (wakes_now || w.pinged) (vain || w.probed) (or_right wakes_now w.pinged asked)
      | inr probed ↦ or_right (wakes_now || w.pinged) (vain || w.probed) (or_right vain w.probed probed)
    ]
    | inr waited ↦ or_right (wakes_now || w.pinged) (vain || w.probed) (or_left vain w.probed
        (and_from (nat_lt 0 w.watch.flight.probes) (not (nat_lt 0 (length ss))) (let same = probes x y (calls.Poll now) a c still i in let some = waited.0 in lt-ltb 0 w.watch.flight.probes (omega arith)) (ap (λ (rs : List Sent). not (nat_lt 0 (length rs))) waited.1)))
  ])
    where
      w : Wants
      w = wants_of x y

      ss : List Sent
      ss = sent_if (gave a) (sent_by x.policy x.end now)

      vain : Bool
      vain = probes_in_vain (calls.Poll now) ss w.watch

      left : WaitsStill of_ping x.policy x.end now ss
      left = subst (λ (b : Answer). WaitsStill of_ping x.policy x.end now (sent_if (gave b) (sent_by x.policy x.end now))) (sym (poll_answer x.policy x.end now a c.answer c.served)) (polled_pinged of_ping x.policy x.end now still set)

      both : (b : Bool) → b ≡ false → (d : Bool) → d ≡ false → ((wakes_now || w.pinged) || (vain || w.probed)) ≡ true → ((if b then false else (wakes_now || w.pinged)) || (if d then false else (vain || w.probed))) ≡ true
      both true off d is all = cc
      both false off true is all = cc
      both false off false is all = all

  pinged_next : (call : Call) (c : Calls Observed x y call a) → (called x y.given call a).end.closing.state ≡ states.Open → IsWanted (wants_of x y) x.end → (called x y.given call a).end.waiting.signals.ping ≡ true
      → (let n : Wants = wants_behind x.terms.keep_alive (told_of call a x.end.closing.state) (sents_by x.policy x.end call a) (news (came_to x y) (came_to (called x y.given call a) y)) (watch_behind x y call a c (wants_of x y).watch (wants_watch x y)) (wants_of x y) in (n.pinged || n.probed) ≡ true)
  pinged_next (calls.Poll now) c still i set = poll_pinged now (wakes (told_of (calls.Poll now) a x.end.closing.state) (watch_behind x y (calls.Poll now) a c (wants_of x y).watch (wants_watch x y)).clock (wants_of x y).alive) c still i set
  pinged_next (calls.Timeout now) c still i set = other_pinged (calls.Timeout now) (wakes (told_of (calls.Timeout now) a x.end.closing.state) (watch_behind x y (calls.Timeout now) a c (wants_of x y).watch (wants_watch x y)).clock (wants_of x y).alive)
      (probes_in_vain (calls.Timeout now) [] (wants_of x y).watch) refl still i (woken now c still i) set
  pinged_next call c still i set = other_pinged call (wakes (told_of call a x.end.closing.state) (watch_behind x y call a c (wants_of x y).watch (wants_watch x y)).clock (wants_of x y).alive) (probes_in_vain call [] (wants_of x y).watch) refl still i
      (calm x y call a c still i refl) set

  -- ---- IMMEDIATE_ACK

  -- what is wanted of it behind a poll
  poll_hastened : (now : ℕ) → (called x y.given (calls.Poll now) a).end.closing.state ≡ states.Open → Calls Observed x y (calls.Poll now) a → IsWanted (wants_of x y) x.end → (called x y.given (calls.Poll now) a).end.waiting.signals.immediate ≡ true
      → (let ss : List Sent = sent_if (gave a) (sent_by x.policy x.end now) in
      (if list_any asks_of ss then false else (probes_in_vain (calls.Poll now) ss (wants_of x y).watch || (wants_of x y).probed)) ≡ true)
  poll_hastened now still c i set = quiet (list_any asks_of ss) left.quiet (elim left.before [
    | inl was ↦ or_right vain w.probed (i.hastened was)
    | inr waited ↦ or_left vain w.probed
        (and_from (nat_lt 0 w.watch.flight.probes) (not (nat_lt 0 (length ss))) (let same = probes x y (calls.Poll now) a c still i in let some = waited.0 in lt-ltb 0 w.watch.flight.probes (omega arith)) (ap (λ (rs : List Sent). not (nat_lt 0 (length rs))) waited.1))
  ])
    where
      w : Wants
      w = wants_of x y

      ss : List Sent
      ss = sent_if (gave a) (sent_by x.policy x.end now)

      vain : Bool
      vain = probes_in_vain (calls.Poll now) ss w.watch

      left : WaitsStill of_immediate x.policy x.end now ss
      left = subst (λ (b : Answer). WaitsStill of_immediate x.policy x.end now (sent_if (gave b) (sent_by x.policy x.end now))) (sym (poll_answer x.policy x.end now a c.answer c.served)) (polled_pinged of_immediate x.policy x.end now still set)

      quiet : (b : Bool) → b ≡ false → (vain || w.probed) ≡ true → (if b then false else (vain || w.probed)) ≡ true
      quiet true off all = cc
      quiet false off all = all

  -- and behind any other call: it waited before
  other_hastened : (call : Call) → is_poll call ≡ false → (called x y.given call a).end.closing.state ≡ states.Open → IsWanted (wants_of x y) x.end → (called x y.given call a).end.waiting.signals.immediate ≡ true
      → (probes_in_vain call [] (wants_of x y).watch || (wants_of x y).probed) ≡ true
  other_hastened call silent still i set = or_right (probes_in_vain call [] (wants_of x y).watch) (wants_of x y).probed (i.hastened (sym (call_hastened x.policy x.end y.given call a silent still) ∙ set))

  hastened_next : (call : Call) (c : Calls Observed x y call a) → (called x y.given call a).end.closing.state ≡ states.Open → IsWanted (wants_of x y) x.end → (called x y.given call a).end.waiting.signals.immediate ≡ true
      → (let n : Wants = wants_behind x.terms.keep_alive (told_of call a x.end.closing.state) (sents_by x.policy x.end call a) (news (came_to x y) (came_to (called x y.given call a) y)) (watch_behind x y call a c (wants_of x y).watch (wants_watch x y)) (wants_of x y) in n.probed ≡ true)
  hastened_next (calls.Poll now) c still i set = poll_hastened now still c i set
  hastened_next call c still i set = other_hastened call refl still i set

  gone_next : (call : Call) (c : Calls Observed x y call a) → (called x y.given call a).end.closing.state ≡ states.Open → IsWanted (wants_of x y) x.end → (k : Flag) → stands (says k) (since_behind call (wants_of x y) (sents_by x.policy x.end call a)) ≡ true → flag k (called x y.given call a).end.waiting ≡ false
  gone_next (calls.Poll now) c still i k some = go (nat_lt 0 (wants_of x y).watch.flight.probes) refl some
    where
      goes_now : List Sent
      goes_now = sent_if (gave a) (sent_by x.policy x.end now)

      said : a ≡ answers.Poll (polled x.policy x.end now).answer
      said = poll_answer x.policy x.end now a c.answer c.served

      left : (flag k (polled x.policy x.end now).end.waiting ≡ true → (flag k (ready_at x.end now).end.waiting ≡ true) ⊎ (flag k x.end.waiting ≡ true)) × (stands (says k) (sent_if (gave (answers.Poll (polled x.policy x.end now).answer)) (sent_by x.policy x.end now)) ≡ true → flag k (polled x.policy x.end now).end.waiting ≡ false)
      left = polled_flags x.policy x.end now k still

      new : stands (says k) goes_now ≡ true → flag k (polled x.policy x.end now).end.waiting ≡ false
      new there = left.1 (sym (ap (λ (b : Answer). stands (says k) (sent_if (gave b) (sent_by x.policy x.end now))) said) ∙ there)

      old : x.end.tracking.probes ≡ 0 → stands (says k) (wants_of x y).since ≡ true → flag k (polled x.policy x.end now).end.waiting ≡ false
      old none there = flips (flag k (polled x.policy x.end now).end.waiting) refl
        where
          before : flag k x.end.waiting ≡ false
          before = i.gone k there

          flips : (b : Bool) → flag k (polled x.policy x.end now).end.waiting ≡ b → b ≡ false
          flips false is = refl
          flips true is = absurd (elim (left.0 is) [
            | inl ready ↦ both_ways (flag k x.end.waiting) before (sym (asked_flag k x.end.waiting _) ∙ sym (ap (flag k) (ready_still x.end now none)) ∙ ready)
            | inr was ↦ both_ways (flag k x.end.waiting) before was
          ])

      go : (b : Bool) → nat_lt 0 (wants_of x y).watch.flight.probes ≡ b → stands (says k) ((if b then [] else (wants_of x y).since) ++ goes_now) ≡ true → flag k (polled x.policy x.end now).end.waiting ≡ false
      go true is there = new there
      go false is there = elim (or_cases (stands (says k) (wants_of x y).since) (stands (says k) goes_now) (sym (list_any-append (λ (s : Sent). list_any (says k) s.frames) (wants_of x y).since goes_now) ∙ there)) [
        | inl before ↦ (let none = ltb-false 0 (wants_of x y).watch.flight.probes is in let same = probes x y (calls.Poll now) a c still i in old (omega arith) before)
        | inr now_there ↦ new now_there
      ]
  gone_next call c still i k some = cc

  -- ACK_FREQUENCY that went at a poll, or since, waits where the peer is to be asked anew
  asked_next : (call : Call) (c : Calls Observed x y call a) → (called x y.given call a).end.closing.state ≡ states.Open → IsWanted (wants_of x y) x.end → stands is_ack_frequency (since_behind call (wants_of x y) (sents_by x.policy x.end call a)) ≡ true
      → (called x y.given call a).end.waiting.frames.ack_frequency ≡ true → is_anew (by_of (called x y.given call a).end) ≡ true
  asked_next (calls.Poll now) c still i some set = by_sent left
    where
      goes_now : List Sent
      goes_now = sent_if (gave a) (sent_by x.policy x.end now)

      left : Goes x.end now (polled x.policy x.end now).end goes_now
      left = subst (λ (b : Answer). Goes x.end now (polled x.policy x.end now).end (sent_if (gave b) (sent_by x.policy x.end now))) (sym (poll_answer x.policy x.end now a c.answer c.served)) (polled_requests x.policy x.end now c.gives.0.owes)

      -- it waited before, or the peer is to be asked
      waited : x.end.tracking.probes ≡ 0 → ((ready_at x.end now).end.waiting.frames.ack_frequency ≡ true) ⊎ (x.end.waiting.frames.ack_frequency ≡ true) → (is_anew (by_of x.end) ≡ true) ⊎ (x.end.waiting.frames.ack_frequency ≡ true)
      waited none (inl ready) = elim (or_cases (asks_anew x.end.transport.ack_frequency_config (begun_at x.end now)) x.end.waiting.frames.ack_frequency (sym (ap (λ (w : Waiting). w.frames.ack_frequency) (ready_still x.end now none)) ∙ ready)) [
        | inl anew ↦ inl (sym (anew_is (begun_at x.end now)) ∙ anew)
        | inr was ↦ inr was
      ]
      waited none (inr was) = inr was

      -- it went before
      old : x.end.tracking.probes ≡ 0 → stands is_ack_frequency (wants_of x y).since ≡ true → ((ready_at x.end now).end.waiting.frames.ack_frequency ≡ true) ⊎ (x.end.waiting.frames.ack_frequency ≡ true) → is_anew (by_of x.end) ≡ true
      old none there was = elim (waited none was) [ inl anew ↦ anew | inr set_before ↦ i.asked there set_before ]

      -- none goes now
      quiet : requests_in goes_now ≡ 0 → stands is_ack_frequency goes_now ≡ true → ⊥
      quiet none there = let one = requests_any goes_now there in omega arith

      go : requests_in goes_now ≡ 0 → ((ready_at x.end now).end.waiting.frames.ack_frequency ≡ true) ⊎ (x.end.waiting.frames.ack_frequency ≡ true) → (b : Bool) → nat_lt 0 (wants_of x y).watch.flight.probes ≡ b → stands is_ack_frequency ((if b then [] else (wants_of x y).since) ++ goes_now) ≡ true → is_anew (by_of x.end) ≡ true
      go none was true is there = absurd (quiet none there)
      go none was false is there = elim (or_cases (stands is_ack_frequency (wants_of x y).since) (stands is_ack_frequency goes_now) (sym (list_any-append (λ (s : Sent). list_any is_ack_frequency s.frames) (wants_of x y).since goes_now) ∙ there)) [
        | inl before ↦ (let idle = ltb-false 0 (wants_of x y).watch.flight.probes is in let same = probes x y (calls.Poll now) a c still i in old (omega arith) before was)
        | inr now_there ↦ absurd (quiet none now_there)
      ]

      by_sent : Goes x.end now (polled x.policy x.end now).end goes_now → is_anew (by_of (polled x.policy x.end now).end) ≡ true
      by_sent (goes_none none same was) = ap is_anew same ∙ go none (was set) (nat_lt 0 (wants_of x y).watch.flight.probes) refl some
      by_sent (goes_one one next gone) = absurd (both_ways (polled x.policy x.end now).end.waiting.frames.ack_frequency gone set)
  asked_next call c still i some set = cc

wanting_step : (x y : Party) (call : Call) (a : Answer) → Calls Observed x y call a → Wanting x y → Wanting (called x y.given call a) y
wanting_step x y call a c i = record { wanted = λ still. kept still (i.wanted (was_open x.policy x.end y.given call a still)) }
  where
    kept : (called x y.given call a).end.closing.state ≡ states.Open → IsWanted (wants_of x y) x.end → IsWanted (wants_of (called x y.given call a) y) (called x y.given call a).end
    kept still j = subst (λ (w : Wants). IsWanted w (called x y.given call a).end) (sym (wants_next x y call a c still j)) (record {
      silent = silent_next x y call a c still j (acknowledges (sents_by x.policy x.end call a)) refl;
      pinged = pinged_next x y a call c still j;
      hastened = hastened_next x y a call c still j;
      alive = (living_next x y a call c still j).0;
      untimed = (living_next x y a call c still j).1;
      gone = gone_next x y a call c still j;
      asked = asked_next x y a call c still j;
    })

-- over the packets and what observers know of them
pub wanting_group : Group Observed Wanting
wanting_group = record {
  first = λ x y m there here. record { wanted = λ opened. record { silent = omega arith; pinged = λ set. cc; hastened = λ set. cc; alive = refl; untimed = λ none. refl; gone = λ k some. cc; asked = λ some set. cc } };
  writer = λ x y call a c i back. wanting_step x y call a c i;
  reader = λ x y call a c i back. record { wanted = back.wanted };
  shows = λ x y here there b back i j. record { wanted = λ opened. (let w = i.wanted opened in record { silent = w.silent; pinged = w.pinged; hastened = w.hastened; alive = w.alive; untimed = w.untimed; gone = w.gone; asked = w.asked }) };
}
