-- Where a packet that asks isn't acknowledged, it is counted; and a timer of acknowledgements that
-- is set behind a timeout is set to a later moment.
use Rattle.std.proofs.Common.{◌≡◌, ℕ, ◌<◌, Bool, true, false, ◌||◌, List, [], ◌∷◌, ◌++◌, map, Option, Some, None, Ok, refl, sym, ap, ◌∙◌, subst, inl, inr, arith}
use Rattle.std.specs.Prelude.{nat_lt, if◌then◌else◌}
use Rattle.std.specs.List.{list_any}
use Rattle.std.proofs.lemmas.Bool.{leb-false}
use Rattle.quic_wire_core.specs.declared.shared.EcnCodepoint.{EcnCodepoint}
use Rattle.quic_wire.specs.Value.{FrameValue, asks}
use Rattle.quic_recovery_core.specs.PendingAcks.{Pending, after_insert}
use Rattle.quic_spaces.specs.Acknowledging.{ack_due, with_due}
use Rattle.quic_time.specs.Timers.{has_come}
use Rattle.quic_machine.specs.declared.answers.State.{State}
use Rattle.quic_machine.specs.declared.answers.State.TheVariants as states
use Rattle.quic_machine.specs.declared.run.Call.{Call}
use Rattle.quic_machine.specs.declared.run.Call.TheVariants as calls
use Rattle.quic_machine.specs.declared.run.Answer.{Answer}
use Rattle.quic_machine.specs.Policy.{Policy}
use Rattle.quic_machine.specs.Closing.{Closing, ticked}
use Rattle.quic_machine.specs.End.{End, with_closing, with_loss_timer}
use Rattle.quic_machine.specs.Receive.{asks_in, after_taken, Outcome}
use Rattle.quic_machine.specs.Timeouts.{Expiry, acks_expired, loss_expired, pacing_expired, expiry_at, timed_out_in, after_busy, unless_idle}
use Rattle.quic_machine.specs.Machine.{after_call}
use Rattle.quic_machine.specs.LeaveCases.{at_expiry, by_expired}
use Rattle.quic_machine.specs.FrameCases.{begun}
use Rattle.quic_machine.specs.Idle.{keep_alive_expired}
use Rattle.quic_machine.specs.Validation.{path_expired, challenged_anew, most_challenges}
use Rattle.quic_headline.specs.Runs.{Packet, Intake, In}
use Rattle.quic_headline.specs.Observer.{Sent, Watch, first_watch, news}
use Rattle.quic_headline.specs.Requested.{requested}
use Rattle.quic_headline.specs.Moments.{acknowledges, deadlines_of, Debt, debt_told, first_debt}
use Rattle.quic_headline.proofs.Packets.Intakes.{folded_more}
use Rattle.quic_headline.proofs.Packets.Delivered.{frames_at, Arrivals, arrived, with_taken}
use Rattle.quic_headline.proofs.Packets.Moved.{migrated_closing, migrated_acks}
use Rattle.quic_headline.proofs.Packets.Watching.{none_new, one_new}
use Rattle.quic_headline.proofs.Packets.Stays.{settles_losses}
use Rattle.quic_headline.proofs.Packets.Group.{meets}
use Rattle.quic_headline.proofs.Places.Told.{in_append}
use Rattle.quic_headline.proofs.Places.Parties.{sents_by, told_of, Party, called, came_to, lens, watch_of}
use Rattle.quic_headline.proofs.Places.Groups.{Calls, Group}
use Rattle.quic_headline.proofs.Places.Coming.{by_coming}
use Rattle.quic_headline.proofs.Timers.Still.{was_open}
use Rattle.quic_headline.proofs.Timers.Watched.{Observed, watch_behind, went_behind, came_before, came_behind}
use Rattle.quic_headline.proofs.Timers.AckMoments.{one_asks, judged_none, asks_same, debt_of, owed_watch}
use Rattle.quic_headline.proofs.Rest.Awaited.{IsAwaited, call_awaited, first_comes}
use Rattle.quic_headline.proofs.Rest.Standing.{frames_acks, call_stands}
use Rattle.quic_headline.proofs.Rest.Unanswered.{taken_counts}

-- ---- a timeout

-- timers that expire at an end that isn't idle
expired_timer : (words : ℕ → ℕ) (e : End) (now : ℕ) (expiry : Expiry) → expiry.acks ≡ false → (after_busy words expiry (loss_expired expiry.loss (with_closing e (ticked e.closing now)))).timers.max_ack_delay ≡ e.timers.max_ack_delay
expired_timer words e now expiry kept =
    ap (λ (b : Bool). (with_loss_timer (acks_expired b (pacing_expired expiry.pacing alive))).timers.max_ack_delay) kept
    ∙ paced expiry.pacing alive ∙ kept_alive expiry.keep_alive asked ∙ path expiry.path lost ∙ losing expiry.loss
  where
    begins : End
    begins = with_closing e (ticked e.closing now)

    lost : End
    lost = loss_expired expiry.loss begins

    asked : End
    asked = path_expired words expiry.path lost

    alive : End
    alive = keep_alive_expired expiry.keep_alive asked

    losing : (b : Bool) → (loss_expired b begins).timers.max_ack_delay ≡ e.timers.max_ack_delay
    losing true = judged_none e.tracking.loss_time begins
    losing false = refl

    anew : (b : Bool) (x : End) → (challenged_anew words b x).timers.max_ack_delay ≡ x.timers.max_ack_delay
    anew true x = refl
    anew false x = refl

    path : (b : Bool) (x : End) → (path_expired words b x).timers.max_ack_delay ≡ x.timers.max_ack_delay
    path true x = anew (nat_lt x.validation.drawn most_challenges) x
    path false x = refl

    kept_alive : (b : Bool) (x : End) → (keep_alive_expired b x).timers.max_ack_delay ≡ x.timers.max_ack_delay
    kept_alive true x = refl
    kept_alive false x = refl

    paced : (b : Bool) (x : End) → (pacing_expired b x).timers.max_ack_delay ≡ x.timers.max_ack_delay
    paced true x = refl
    paced false x = refl

-- an end that took a moment over has its clock
expired_clock : (words : ℕ → ℕ) (e : End) (now : ℕ) (expiry : Expiry) → (at_expiry words e now expiry).closing.clock ≡ (ticked e.closing now).clock
expired_clock words e now = by_expired words e now (λ (x : End). x.closing.clock ≡ (ticked e.closing now).clock) (λ acks tracking timers waits asked runs packets. refl) (λ acks timers waits asked runs. ap (λ (c : Closing). c.clock) (settles_losses (with_closing e (ticked e.closing now))).closing) (λ x j. j)

-- a timer that is set behind a timeout is set to a later moment
pub timeout_later : (p : Policy) (e : End) (theirs : List (List ℕ)) (now : ℕ) (a : Answer) (moment : ℕ) → e.closing.state ≡ states.Open → (after_call p e theirs (calls.Timeout now) a).timers.max_ack_delay ≡ Some moment → (after_call p e theirs (calls.Timeout now) a).closing.clock < moment
timeout_later p e theirs now a moment opened =
    subst (λ (x : End). x.timers.max_ack_delay ≡ Some moment → x.closing.clock < moment) (sym (ap (λ (s : State). (timed_out_in s p e now).end) opened))
    (λ set. subst (λ (n : ℕ). n < moment) (sym (expired_clock p.words e now expiry)) (idle expiry.idle refl set))
  where
    expiry : Expiry
    expiry = expiry_at (ticked e.closing now).clock e.timers

    set_later : (o : Option ℕ) → has_come o (ticked e.closing now).clock ≡ false → o ≡ Some moment → (ticked e.closing now).clock < moment
    set_later None kept is = cc
    set_later (Some m) kept is = (let less = leb-false m (ticked e.closing now).clock kept in let same : m ≡ moment = cc in omega arith)

    lost : End
    lost = loss_expired expiry.loss (with_closing e (ticked e.closing now))

    busy : (b : Bool) → has_come e.timers.max_ack_delay (ticked e.closing now).clock ≡ b → (after_busy p.words expiry lost).timers.max_ack_delay ≡ Some moment → (ticked e.closing now).clock < moment
    busy true is set =
        let x : End = pacing_expired expiry.pacing (keep_alive_expired expiry.keep_alive (path_expired p.words expiry.path lost)) in
        let clash : ◌≡◌ {A = Option ℕ} None (Some moment) = sym (ap (λ (b : Bool). (with_loss_timer (acks_expired b x)).timers.max_ack_delay) is) ∙ set in
        cc
    busy false is set = set_later e.timers.max_ack_delay is (sym (expired_timer p.words e now expiry is) ∙ set)

    -- an end that was idle has no timer
    idle : (b : Bool) → expiry.idle ≡ b → (unless_idle b p.words expiry lost).timers.max_ack_delay ≡ Some moment → (ticked e.closing now).clock < moment
    idle true is set = (let clash : ◌≡◌ {A = Option ℕ} None (Some moment) = set in cc)
    idle false is set = busy (has_come e.timers.max_ack_delay (ticked e.closing now).clock) refl set

-- ---- a packet that is taken

or_false : (b : Bool) → (b || false) ≡ b
or_false true = refl
or_false false = refl

-- what is counted behind a call is so still, while the end is open; and where a packet came that
-- asks, it is
abbrev Counts : End → Intake → End → Intake → Type 0
Counts e i f j = f.closing.state ≡ states.Open → (0 < e.acknowledging.asking → 0 < f.acknowledging.asking) × (one_asks (news i j) ≡ true → 0 < f.acknowledging.asking)

-- where nothing came
none_counts : (i : Intake) (e f : End) → (0 < e.acknowledging.asking → 0 < f.acknowledging.asking) → Counts e i f i
none_counts i e f on opened = (on, λ some. absurd (let none : one_asks [] ≡ true = ap (λ (ps : List Packet). one_asks ps) (sym (none_new i)) ∙ some in cc))

-- each case of a delivery
arrivals_count : (e : End) (now n : ℕ) (frames taken : List FrameValue) (i : Intake) → Arrivals e now n frames taken i (λ (o : Outcome) (j : Intake). Counts e i o.end j)
arrivals_count e now n frames taken i = record {
  ignored = λ reason. none_counts i e e (λ some. some);
  noted = λ state reason opened. absurd (let clash : states.Closing ≡ states.Open = sym state ∙ opened in cc);
  takes = λ words state new none urged mark opened. (λ some. (counts urged mark).1 (subst (λ (k : ℕ). 0 < k) (sym (frames_acks taken (begun e now n)).asking) some), λ some. (counts urged mark).0 (asks_same frames ∙ or_back (ap (λ (ps : List Packet). one_asks ps) (sym (one_new i n frames)) ∙ some)));
  moves = λ p o same remote x state counted opened.
      subst (λ (k : ℕ). (0 < e.acknowledging.asking → 0 < k) × (one_asks (news i (with_taken i n frames)) ≡ true → 0 < k)) (sym (ap (λ (q : Pending). q.asking) (migrated_acks p o remote x)))
      (counted (sym (ap (λ (c : Closing). c.state) (migrated_closing p o remote x)) ∙ opened));
  drains = λ words state new close is opened. absurd cc;
  refuses = λ words state new f is opened. absurd cc;
  exhausts = λ state opened. absurd cc;
}
  where
    left : End
    left = (arrived e now n taken).end

    or_back : (list_any asks frames || false) ≡ true → list_any asks frames ≡ true
    or_back some = sym (or_false (list_any asks frames)) ∙ some

    counts : (urged : Bool) (mark : Option EcnCodepoint) → (asks_in (map Ok frames) ≡ true → 0 < (after_taken n (asks_in (map Ok frames)) urged mark left).acknowledging.asking) × (0 < left.acknowledging.asking → 0 < (after_taken n (asks_in (map Ok frames)) urged mark left).acknowledging.asking)
    counts urged mark = taken_counts (asks_in (map Ok frames)) (with_due urged (after_insert left.acknowledging n left.closing.clock)) left.closing.clock n left.numbers.opened

-- behind any call that gives no ACK frame
call_counts : (x y : Party) (call : Call) (a : Answer) → Calls Observed x y call a → acknowledges (sents_by x.policy x.end call a) ≡ false → Counts x.end (came_to x y) (called x y.given call a).end (came_to (called x y.given call a) y)
call_counts x y call a c none = by_coming x y a c.joined c.served (meets y x c.takes.0) (Counts x.end (came_to x y)) call c.answer (record {
  apart = λ apart. none_counts (came_to x y) x.end (after_call x.policy x.end y.given call a) (λ some. subst (λ (k : ℕ). 0 < k) (sym (call_stands x.policy x.end y.given call a apart c.answer c.served none).0) some);
  none = λ delivery is. none_counts (came_to x y) x.end x.end (λ some. some);
  comes = λ delivery is s among here. arrivals_count x.end delivery.now s.number s.frames (frames_at here s.frames) (came_to x y);
})

-- ---- the group

-- While x is open, packets that ask are counted where one isn't acknowledged.
pub record Punctual (x y : Party) : Type 0 where
  pub awaited : IsAwaited x.end
  pub counted : x.end.closing.state ≡ states.Open → (deadline : ℕ) → In deadline (debt_of x y).deadlines → 0 < x.end.acknowledging.asking

-- where these packets have a deadline, one of them asks
one_then : (ps : List Packet) (delay moment deadline : ℕ) → In deadline (deadlines_of ps delay moment) → one_asks ps ≡ true
one_then [] delay moment deadline among = absurd among
one_then (p ∷ ps) delay moment deadline among = go (list_any asks p.frames) among (one_then ps delay moment deadline)
  where
    go : (b : Bool) → In deadline (if b then ack_due delay moment ∷ deadlines_of ps delay moment else deadlines_of ps delay moment) → (In deadline (deadlines_of ps delay moment) → one_asks ps ≡ true) → (b || one_asks ps) ≡ true
    go true some rest = refl
    go false more rest = rest more

module _ (x y : Party) (call : Call) (a : Answer) (c : Calls Observed x y call a) where
  abbrev before : Debt
  before = debt_of x y

  -- the observer within it
  pub debt_watched : before.watch ≡ watch_of x y
  debt_watched = owed_watch (lens x y) x.told (first_debt (first_watch x.final x.began x.made.path.remote x.first_rtt x.initial_delay))

  abbrev after : Watch
  after = watch_behind x y call a c before.watch debt_watched

  -- those that came by the call, between these intakes, and those before, unless they are answered
  abbrev pub deadlines_if : Bool → Intake → Intake → List ℕ
  deadlines_if goes i j = if goes then [] else deadlines_of (news i j) (requested j.took).delay after.clock ++ before.deadlines

  -- what isn't answered behind the call
  pub deadlines_told : (debt_of (called x y.given call a) y).deadlines ≡ deadlines_if (acknowledges (sents_by x.policy x.end call a)) (came_to x y) (came_to (called x y.given call a) y)
  deadlines_told =
      ap (λ (d : Debt). d.deadlines) (folded_more (debt_told (lens x y)) x.told (told_of call a x.end.closing.state) (first_debt (first_watch x.final x.began x.made.path.remote x.first_rtt x.initial_delay)))
      ∙ ap (λ (ss : List Sent). deadlines_if (acknowledges ss) before.watch.intake after.intake) (went_behind x y call a c before.watch debt_watched)
      ∙ ap (λ (i : Intake). deadlines_if (acknowledges (sents_by x.policy x.end call a)) i after.intake) (came_before x y call a c before.watch debt_watched)
      ∙ ap (λ (j : Intake). deadlines_if (acknowledges (sents_by x.policy x.end call a)) (came_to x y) j) (came_behind x y call a c before.watch debt_watched)

punctual_step : (x y : Party) (call : Call) (a : Answer) → Calls Observed x y call a → Punctual x y → Punctual (called x y.given call a) y
punctual_step x y call a c i = record {
  awaited = call_awaited x.policy x.end y.given call a i.awaited;
  counted = λ opened deadline among. by_acks (acknowledges (sents_by x.policy x.end call a)) refl opened deadline (subst (λ (ms : List ℕ). In deadline ms) (deadlines_told x y call a c) among);
}
  where
    next : Party
    next = called x y.given call a

    came : List ℕ
    came = deadlines_of (news (came_to x y) (came_to next y)) (requested (came_to next y).took).delay (after x y call a c).clock

    by_acks : (b : Bool) → acknowledges (sents_by x.policy x.end call a) ≡ b → next.end.closing.state ≡ states.Open → (deadline : ℕ) → In deadline (if b then [] else came ++ (debt_of x y).deadlines) → 0 < next.end.acknowledging.asking
    by_acks true some opened deadline among = absurd among
    by_acks false none opened deadline among = elim (in_append deadline came (debt_of x y).deadlines among) [
      | inl new ↦ (call_counts x y call a c none opened).1 (one_then (news (came_to x y) (came_to next y)) (requested (came_to next y).took).delay (after x y call a c).clock deadline new)
      | inr old ↦ (call_counts x y call a c none opened).0 (i.counted (was_open x.policy x.end y.given call a opened) deadline old)
    ]

-- over the packets and what observers know of them
pub punctual_group : Group Observed Punctual
punctual_group = record {
  first = λ x y m there here. record { awaited = λ opened. first_comes; counted = λ opened deadline among. absurd among };
  writer = λ x y call a c i back. punctual_step x y call a c i;
  reader = λ x y call a c i back. record { awaited = back.awaited; counted = back.counted };
  shows = λ x y here there b back i j. record { awaited = i.awaited; counted = i.counted };
}
