-- The idle timer of an open end is set to the moment that an observer of the run's lists reckons:
-- each packet that comes lets the time begin anew, and so does the first datagram behind one that
-- asks (RFC 9000, section 10.1).
use Rattle.std.proofs.Common.{arith, ◌≡◌, ℕ, zero, suc, ◌+◌, ◌*◌, min, max, Bool, true, false, not, ◌&&◌, ◌||◌, ◌==◌, nat_lt, List, [], ◌∷◌, length, map, slice_get, Option, Some, None, option_map, Ok, refl, sym, ap, ◌∙◌, subst}
use Rattle.std.specs.Prelude.{if◌then◌else◌}
use Rattle.std.specs.List.{list_any}
use Rattle.std.proofs.Math.Dec.{eqb-suc-zero}
use Rattle.quic_wire_core.specs.declared.shared.EcnCodepoint.{EcnCodepoint}
use Rattle.quic_wire.specs.Value.{FrameValue}
use Rattle.quic_time.specs.Clocks.{saturated}
use Rattle.quic_time.specs.Timers.{Timers}
use Rattle.quic_congestion.specs.Pacer.{Pacing}
use Rattle.quic_parameters.specs.Parameters.{ParameterValues}
use Rattle.quic_config.specs.Transport.{TransportSettings, told_timeout}
use Rattle.quic_recovery_core.specs.PendingAcks.{Pending, after_insert, packet_starts_wait}
use Rattle.quic_spaces.specs.Acknowledging.{ack_due, with_due}
use Rattle.quic_machine.specs.declared.answers.State.TheVariants as states
use Rattle.quic_machine.specs.declared.run.Call.{Call}
use Rattle.quic_machine.specs.declared.run.Call.TheVariants as calls
use Rattle.quic_machine.specs.declared.run.Answer.{Answer}
use Rattle.quic_machine.specs.declared.run.Answer.TheVariants as answers
use Rattle.quic_machine.specs.Policy.{Policy}
use Rattle.quic_machine.specs.Closing.{Closing, ticked}
use Rattle.quic_machine.specs.Control.{paid, with_app_limited}
use Rattle.quic_machine.specs.End.{End, words_drawn, three_timeouts, with_closing, with_ack_timer, with_loss_timer, with_number_given}
use Rattle.quic_machine.specs.Idle.{lesser_timeout, timeout_of, agreed_timeout, idle_moment, keep_alive_reset, idle_reset_if, packet_given}
use Rattle.quic_machine.specs.IdFrames.{drawn}
use Rattle.quic_machine.specs.Receive.{Outcome, asks_in, number_noted, after_taken}
use Rattle.quic_machine.specs.Poll.{Polled, Draft, Leaving, asking, datagram_size, zeros_behind, tracked, paid_if, after_given, draft_as, rests, polled}
use Rattle.quic_machine.specs.Timeouts.{loss_judged}
use Rattle.quic_machine.specs.DraftLaws.{Writing, by_leave, MayLeave}
use Rattle.quic_machine.specs.Puts as puts
use Rattle.quic_machine.specs.PollCases.{ready_at, ready_leaves, draft_at, may_leave_at}
use Rattle.quic_machine.specs.FrameCases.{Settling, begun, passed, named, acked_keeps, losses_keep, frame_keeps, frame_leaves, frames_keep, apart_leaves}
use Rattle.quic_machine.specs.Steps as steps
use Rattle.quic_machine.specs.CallCases.{Plain, is_delivery, is_poll, by_plain_call}
use Rattle.quic_machine.specs.CallCases as cases
use Rattle.quic_machine.specs.LeaveCases.{Expired, by_timers}
use Rattle.quic_machine.specs.LeaveCases as expiring
use Rattle.quic_machine.specs.Machine.{World, after_call, gave}
use Rattle.quic_headline.specs.Runs.{Run, Told, Packet, Intake, folded}
use Rattle.quic_headline.specs.Observer.{Sent, asks_of, lesser, latest, Watch, first_watch, news, Lens, watch_told}
use Rattle.quic_headline.specs.Headline.{IsHonest, IsRun}
use Rattle.quic_headline.specs.Expiring.{moment_behind, three_waits, lesser_of, Silence, begins_anew, idle_from, silence_behind, silence_told, first_silence, IdleMoments}
use Rattle.quic_headline.proofs.Packets.Apart.{by_waits, by_next_id}
use Rattle.quic_headline.proofs.Packets.Delivered.{frames_at, Arrivals, arrived, with_taken}
use Rattle.quic_headline.proofs.Packets.Moved.{by_migrated}
use Rattle.quic_headline.proofs.Packets.Moving.{moved_asks}
use Rattle.quic_recovery_core.specs.AckFrequency.{Frequency}
use Rattle.quic_packet.specs.Datagram.{Opening}
use Rattle.quic_machine.specs.Migration.{migrated}
use Rattle.quic_headline.proofs.Packets.Flying.{Tells, held, asking_padded}
use Rattle.quic_headline.proofs.Timers.Waits.{three_waited}
use Rattle.quic_headline.proofs.Packets.Group.{meets}
use Rattle.quic_headline.proofs.Packets.Intakes.{folded_more, none_handed}
use Rattle.quic_headline.proofs.Packets.Sends.{by_sends}
use Rattle.quic_headline.proofs.Packets.Stays.{placed_call}
use Rattle.quic_headline.proofs.Packets.Watching.{none_new, one_new}
use Rattle.quic_headline.proofs.Places.Coming.{came_same, by_coming}
use Rattle.quic_headline.proofs.Places.Groups.{Calls, Group}
use Rattle.quic_headline.proofs.Places.Parties.{sent_by, sent_if, sents_by, told_of, Party, called, came_to, lens, watch_of, sent_as}
use Rattle.quic_headline.proofs.Places.Placed.{party_at}
use Rattle.quic_headline.proofs.Places.Steps.{poll_answer}
use Rattle.quic_headline.proofs.Timers.Placing.{seen_at}
use Rattle.quic_headline.proofs.Timers.Still.{was_open}
use Rattle.quic_headline.proofs.Timers.Watched.{Observed, watch_behind, watched_behind, went_behind, came_before, came_behind, timers_behind, open_behind}

-- ---- how long an end may be idle

-- milliseconds as nanoseconds
abbrev nanos : ℕ → ℕ
nanos millis = min (millis * 1000000) latest

-- a timeout that isn't 0
timeout_is : (n : ℕ) → timeout_of (suc n) ≡ Some (nanos (suc n))
timeout_is n = ap (λ (b : Bool). if b then None else Some (nanos (suc n))) (eqb-suc-zero n)

-- an observer has it as both ends agree on it
agreed_is : (own peer : ℕ) → option_map nanos (lesser_of own (lesser_of peer None)) ≡ timeout_of (lesser_timeout own peer)
agreed_is zero zero = refl
agreed_is zero (suc p) =
    let greater : suc p ≡ max zero (suc p) = omega arith in
    ap (λ (b : Bool). option_map nanos (if b then None else Some (suc p))) (eqb-suc-zero p) ∙ sym (timeout_is p) ∙ ap (λ (n : ℕ). timeout_of n) greater
agreed_is (suc o) zero =
    let greater : suc o ≡ max (suc o) zero = omega arith in
    ap (λ (b : Bool). option_map nanos (if b then None else Some (suc o))) (eqb-suc-zero o)
    ∙ sym (timeout_is o)
    ∙ ap (λ (n : ℕ). timeout_of n) greater
    ∙ sym (ap (λ (b : Bool). timeout_of (if b || true then max (suc o) zero else min (suc o) zero)) (eqb-suc-zero o))
agreed_is (suc o) (suc p) =
    let least : min (suc o) (suc p) ≡ suc (min o p) = omega arith in
    ap (λ (b : Bool). option_map nanos (if b then lesser_of (suc p) None else Some (lesser (suc o) (lesser_of (suc p) None)))) (eqb-suc-zero o)
    ∙ ap (λ (b : Bool). Some (nanos (lesser (suc o) (if b then None else Some (suc p))))) (eqb-suc-zero p)
    ∙ ap (λ (n : ℕ). Some (nanos n)) least
    ∙ sym (timeout_is (min o p))
    ∙ ap (λ (n : ℕ). timeout_of n) (sym least)
    ∙ sym (ap (λ (b : Bool). timeout_of (if b then max (suc o) (suc p) else min (suc o) (suc p))) (eqb-suc-zero p))
    ∙ sym (ap (λ (b : Bool). timeout_of (if b || (suc p == 0) then max (suc o) (suc p) else min (suc o) (suc p))) (eqb-suc-zero o))

-- ---- the timer is set anew

-- it is set so, where so long a time begins at a moment; it stays as it was where none is agreed on
abbrev idle_again : Option ℕ → ℕ → ℕ → Option ℕ → Option ℕ
idle_again None clock three before = before
idle_again (Some long) clock three before = Some (saturated (clock + max long three))

moment_is : (agreed : Option ℕ) (e : End) → idle_moment agreed e ≡ idle_again agreed e.closing.clock (three_timeouts e) e.timers.idle
moment_is None e = refl
moment_is (Some long) e = refl

-- to the moment that an observer knows
again_is : (agreed : Option ℕ) (clock here three wait : ℕ) (before : Option ℕ) → (agreed ≡ None → before ≡ None) → clock ≡ here → three ≡ wait
    → option_map (λ (long : ℕ). moment_behind clock (max long three)) agreed ≡ idle_again agreed here wait before
again_is None clock here three wait before none same alike = sym (none refl)
again_is (Some long) clock here three wait before none same alike = ap (λ (n : ℕ). Some (min (n + max long three) latest)) same ∙ ap (λ (n : ℕ). Some (min (here + max long n) latest)) alike

-- none is set where none is agreed on
again_none : (agreed : Option ℕ) (clock three : ℕ) (before : Option ℕ) → (agreed ≡ None → before ≡ None) → agreed ≡ None → idle_again agreed clock three before ≡ None
again_none None clock three before none is = none is
again_none (Some long) clock three before none is = cc

-- What of an end says when it was idle for long enough: for how long it may be, when that is over,
-- and whether the next datagram that asks lets it begin anew.
record Idling : Type 0 where
  agreed : Option ℕ
  over : Option ℕ
  armed : Bool

abbrev idling : End → Idling
idling e = record { agreed = agreed_timeout e.transport e.peer_params; over = e.timers.idle; armed = e.idle_armed }

-- What is left of that, where packets came or not, and something went that asks or not.
record Restarts (b : Idling) (came asked : Bool) (f : End) : Type 0 where
  over : f.timers.idle ≡ (if came || (asked && b.armed) then idle_again b.agreed f.closing.clock (three_timeouts f) b.over else b.over)
  armed : f.idle_armed ≡ (came || (b.armed && not asked))

and_true : (b : Bool) → b ≡ (b && true)
and_true true = refl
and_true false = refl

or_none : (b : Bool) → (b || false) ≡ b
or_none true = refl
or_none false = refl

-- where neither is so
unchanged : (b : Idling) (f : End) → idling f ≡ b → Restarts b false false f
unchanged b f same = record { over = ap (λ (i : Idling). i.over) same; armed = ap (λ (i : Idling). i.armed) same ∙ and_true b.armed }

-- by a packet that is taken
noted_idle : (b : Bool) (t : Timers) (moment : Option ℕ) → (if b then with_ack_timer t moment else t).idle ≡ t.idle
noted_idle true t moment = refl
noted_idle false t moment = refl

taken_restarts : (n : ℕ) (asks urged : Bool) (mark : Option EcnCodepoint) (e : End) → Restarts (idling e) true false (after_taken n asks urged mark e)
taken_restarts n asks urged mark e = record { over = set; armed = refl }
  where
    agreed : Option ℕ
    agreed = agreed_timeout e.transport e.peer_params

    pending : Pending
    pending = with_due urged (after_insert e.acknowledging n e.closing.clock)

    set : (after_taken n asks urged mark e).timers.idle ≡ idle_again agreed e.closing.clock (three_timeouts e) e.timers.idle
    set =
        moment_is agreed (record (number_noted n asks urged mark e) { idle_armed = true })
        ∙ ap (λ (o : Option ℕ). idle_again agreed e.closing.clock (three_timeouts e) o) (noted_idle (packet_starts_wait pending n asks e.numbers.opened) e.timers (Some (ack_due e.frequency.own_delay e.closing.clock)))

-- by a datagram that is given
given_restarts : (p : Policy) (d : Draft) → Restarts (idling d.end) false (asking d.frames) (after_given p d)
given_restarts p d = go (asking d.frames)
  where
    x : End
    x = with_number_given (p.words (words_drawn d.end)) (tracked d)

    paced : Pacing → End
    paced pacing = record x { path = record x.path { pacing = pacing } }

    agreed : Option ℕ
    agreed = agreed_timeout d.end.transport d.end.peer_params

    off : (b : Bool) → (if b then false else b) ≡ (b && false)
    off true = refl
    off false = refl

    left : Bool → Pacing → End
    left b pacing = with_loss_timer (with_app_limited (keep_alive_reset (idle_reset_if b (paced pacing))) false)

    reset : (b : Bool) (pacing : Pacing)
        → ((left b pacing).timers.idle ≡ (if b then idle_again agreed (left b pacing).closing.clock (three_timeouts (left b pacing)) d.end.timers.idle else d.end.timers.idle)) × ((left b pacing).idle_armed ≡ (if b then false else d.end.idle_armed))
    reset true pacing = (moment_is agreed (record (paced pacing) { idle_armed = false }), refl)
    reset false pacing = (refl, refl)

    go : (b : Bool) → Restarts (idling d.end) false b (with_loss_timer (with_app_limited (packet_given b (paid_if b x (datagram_size d))) false))
    go true = (let r = reset x.idle_armed (paid x (datagram_size d)).path.pacing in record { over = r.0; armed = r.1 ∙ off d.end.idle_armed })
    go false = (let r = reset false x.path.pacing in record { over = r.0; armed = r.1 ∙ and_true d.end.idle_armed })

-- what is composed leaves it
draft_idling : (leaving : Leaving) (e : End) → MayLeave leaving e → idling (draft_as leaving e).end ≡ idling e
draft_idling leaving e may = by_leave (λ (d : Draft). idling d.end ≡ idling e) keep leaving e may refl
  where
    keep : Writing (λ (d : Draft). idling d.end ≡ idling e)
    keep puts.ack d may i = i
    keep p d may i = i

-- ---- a poll

polled_restarts : (p : Policy) (e : End) (now : ℕ) → (polled p e now).end.closing.state ≡ states.Open → Restarts (idling e) false (list_any asks_of (sent_if (gave (answers.Poll (polled p e now).answer)) (sent_by p e now))) (polled p e now).end
polled_restarts p e now = by_sends p e now (λ (q : Polled) (ss : List Sent). q.end.closing.state ≡ states.Open → Restarts (idling e) false (list_any asks_of ss) q.end) (record {
  silent = λ opened. unchanged (idling e) e refl;
  failed = λ opened. unchanged (idling e) e refl;
  nothing = λ is none opened. unchanged (idling e) (rests (ready_at e now)) ready;
  repeats = λ is. ((λ opened. let clash : states.Closing ≡ states.Open = sym is ∙ opened in cc), λ f goes opened. let clash : states.Closing ≡ states.Open = sym is ∙ opened in cc);
  closes = λ reason is bound. ((λ opened. cc), λ f goes opened. cc);
  gives = λ is may some opened. subst (λ (b : Bool). Restarts (idling e) false b (after_given p d)) (sym asked) (subst (λ (i : Idling). Restarts i false (asking d.frames) (after_given p d)) (drafted ∙ ready) (given_restarts p d));
})
  where
    d : Draft
    d = draft_at e now

    ready : idling (ready_at e now).end ≡ idling e
    ready = ap (λ (x : End). idling x) (ready_leaves e now)

    drafted : idling d.end ≡ idling (ready_at e now).end
    drafted = draft_idling (ready_at e now).leaving (ready_at e now).end (may_leave_at e now)

    asked : list_any asks_of (sent_as e now d ∷ []) ≡ asking d.frames
    asked = or_none (asks_of (sent_as e now d)) ∙ asking_padded d.frames (zeros_behind d)

-- ---- a delivery

-- frames leave it
frames_idling : (fs : List FrameValue) (e : End) → idling (passed fs e).end ≡ idling e
frames_idling fs e = frames_keep Stays (frame_keeps Stays (record {
  ack = λ rises a x i. acked_keeps Stays settling rises a (named a x) i;
  on_streams = λ f x on i. frame_leaves Stays f x on (λ t. i);
  apart = λ f x is i. apart_leaves Stays f x is (λ c. i) (λ c most. i);
  message = λ m x i. i;
})) fs e refl
  where
    Stays : End → Type 0
    Stays x = idling x ≡ idling e

    settling : Settling Stays
    settling (steps.known n) x i = i
    settling s x i = i

-- a change of the path leaves when that is over, and how long is waited
record IdlesOn (x y : End) : Type 0 where
  idle : y.timers.idle ≡ x.timers.idle
  armed : y.idle_armed ≡ x.idle_armed
  closing : y.closing ≡ x.closing
  three : three_timeouts y ≡ three_timeouts x

moved_idle : (p : Policy) (o : Opening) (remote : ℕ) (x : End) → IdlesOn x (migrated p o remote x)
moved_idle p o remote x = by_migrated (λ (y : End). y.frequency ≡ x.frequency → IdlesOn x y) p o remote x (λ c same. (let s = as_long c.frequency same in record { idle = s.idle; armed = s.armed; closing = s.closing; three = s.three })) (λ c most same. (let s = as_long c.frequency same in record { idle = s.idle; armed = s.armed; closing = s.closing; three = s.three })) (moved_asks p o remote x)
  where
    as_long : (f : Frequency) → f ≡ x.frequency → IdlesOn x (record x { frequency = f })
    as_long f same = record { idle = refl; armed = refl; closing = refl; three = ap (λ (g : Frequency). three_timeouts (record x { frequency = g })) same }

moved_restarts : (p : Policy) (o : Opening) (remote : ℕ) (x : End) (b : Idling) (came asked : Bool) → Restarts b came asked x → Restarts b came asked (migrated p o remote x)
moved_restarts p o remote x b came asked r =
    let y : End = migrated p o remote x in
    let s = moved_idle p o remote x in
    record {
      over =
          s.idle
          ∙ r.over
          ∙ ap (λ (c : Closing). if came || (asked && b.armed) then idle_again b.agreed c.clock (three_timeouts x) b.over else b.over) (sym s.closing)
          ∙ ap (λ (n : ℕ). if came || (asked && b.armed) then idle_again b.agreed y.closing.clock n b.over else b.over) (sym s.three);
      armed = s.armed ∙ r.armed;
    }

-- it begins anew where a packet came
abbrev SetBy : End → Intake → End → Intake → Type 0
SetBy e i f j = f.closing.state ≡ states.Open → Restarts (idling e) (nat_lt 0 (length (news i j))) false f

none_set : (e : End) (i : Intake) → SetBy e i e i
none_set e i opened = subst (λ (ps : List Packet). Restarts (idling e) (nat_lt 0 (length ps)) false e) (sym (none_new i)) (unchanged (idling e) e refl)

arrivals_set : (e : End) (now n : ℕ) (frames taken : List FrameValue) (i : Intake) → Arrivals e now n frames taken i (λ (o : Outcome) (j : Intake). SetBy e i o.end j)
arrivals_set e now n frames taken i = record {
  ignored = λ reason. none_set e i;
  noted = λ state reason opened. absurd (let clash : states.Closing ≡ states.Open = sym state ∙ opened in cc);
  takes = λ words state new none urged mark opened. (
      let after : End = after_taken n (asks_in (map Ok frames)) urged mark left in
      let r : Restarts (idling e) true false after = subst (λ (b : Idling). Restarts b true false after) (frames_idling taken (begun e now n)) (taken_restarts n (asks_in (map Ok frames)) urged mark left) in
      subst (λ (ps : List Packet). Restarts (idling e) (nat_lt 0 (length ps)) false (drawn words after)) (sym (one_new i n frames)) (record { over = r.over; armed = r.armed }));
  moves = λ p o spells remote x opened h still. moved_restarts p o remote x (idling e) (nat_lt 0 (length (news i (with_taken i n frames)))) false (h opened);
  drains = λ words state new close is opened. absurd cc;
  refuses = λ words state new f is opened. absurd cc;
  exhausts = λ state opened. absurd cc;
}
  where
    left : End
    left = (arrived e now n taken).end

-- ---- any call

-- one that is neither a poll nor a delivery leaves it
quiet_idling : (p : Policy) (e : End) (theirs : List (List ℕ)) (call : Call) (a : Answer) → is_delivery call ≡ false → is_poll call ≡ false → (after_call p e theirs call a).closing.state ≡ states.Open → idling (after_call p e theirs call a) ≡ idling e
quiet_idling p e theirs call a apart silent = by_plain_call p e theirs Stays call a keep
  where
    Stays : End → Type 0
    Stays f = f.closing.state ≡ states.Open → idling f ≡ idling e

    settling : Settling Stays
    settling (steps.known n) f i = i
    settling s f i = i

    judged : (o : Option ℕ) (f : End) → Stays f → Stays (loss_judged o f)
    judged None f i = i
    judged (Some moment) f i = losses_keep Stays settling f i

    each : (s : Expired) (f : End) → Stays f → Stays (expiring.after s f)
    each expiring.of_acks f i = i
    each s f i = i

    keep : Plain p e call Stays
    keep (cases.times now expiry) may = by_timers p.words Stays Stays judged each (λ f i. i) (λ f i opened. cc) expiry (with_closing e (ticked e.closing now)) (λ opened. refl)
    keep (cases.waits now b) may = by_waits Stays b (with_closing e (ticked e.closing now)) (λ opened. cc) (λ opened. refl)
    keep (cases.polls now) is = (let clash : true ≡ false = sym is ∙ silent in cc)
    keep (cases.hears arrival d) is = (let clash : true ≡ false = sym is ∙ apart in cc)
    keep (cases.closes reason f now) may = λ opened. cc
    keep (cases.changes_id b) may = by_next_id Stays e b (λ opened. refl) (λ c opened. refl) (λ c most opened. refl)
    keep c may = λ opened. refl

module _ (x y : Party) (a : Answer) where
  -- nothing comes by a call that hands nothing in
  none_came : (call : Call) → is_delivery call ≡ false → news (came_to x y) (came_to (called x y.given call a) y) ≡ []
  none_came call apart = ap (λ (j : Intake). news (came_to x y) j) (came_same x y call a (none_handed y.final call a apart)) ∙ none_new (came_to x y)

  -- what a call leaves of it, by what comes and what goes
  abbrev Restarted : Call → Bool → Type 0
  Restarted call came = (called x y.given call a).end.closing.state ≡ states.Open → Restarts (idling x.end) came (list_any asks_of (sents_by x.policy x.end call a)) (called x y.given call a).end

  apart_restarts : (call : Call) → is_delivery call ≡ false → Restarted call false → Restarted call (nat_lt 0 (length (news (came_to x y) (came_to (called x y.given call a) y))))
  apart_restarts call apart i still = subst (λ (ps : List Packet). Restarts (idling x.end) (nat_lt 0 (length ps)) (list_any asks_of (sents_by x.policy x.end call a)) (called x y.given call a).end) (sym (none_came call apart)) (i still)

  call_restarts : (call : Call) → Calls Observed x y call a → Restarted call (nat_lt 0 (length (news (came_to x y) (came_to (called x y.given call a) y))))
  call_restarts (calls.Poll now) c = apart_restarts (calls.Poll now) refl (λ still.
      subst (λ (b : Answer). Restarts (idling x.end) false (list_any asks_of (sent_if (gave b) (sent_by x.policy x.end now))) (polled x.policy x.end now).end) (sym (poll_answer x.policy x.end now a c.answer c.served))
      (polled_restarts x.policy x.end now still))
  call_restarts (calls.Deliver delivery) c = by_coming x y a c.joined c.served (meets y x c.takes.0) (SetBy x.end (came_to x y)) (calls.Deliver delivery) c.answer (record {
    apart = λ apart. cc;
    none = λ other same. none_set x.end (came_to x y);
    comes = λ other same s among here. arrivals_set x.end other.now s.number s.frames (frames_at here s.frames) (came_to x y);
  })
  call_restarts call c = apart_restarts call refl (λ still. unchanged (idling x.end) (called x y.given call a).end (quiet_idling x.policy x.end y.given call a refl refl still))

-- ---- the group

-- how long x may be idle, by what both ends were set to
abbrev time_of : Party → Party → Option ℕ
time_of x y = option_map nanos (lesser_of (told_timeout x.made.transport.max_idle_timeout) (lesser_of (told_timeout y.made.transport.max_idle_timeout) None))

-- what the observer of x knows of its silence
abbrev silence_of : Party → Party → Silence
silence_of x y = folded (silence_told (time_of x y) (lens x y)) x.told (first_silence (first_watch x.final x.began x.made.path.remote x.first_rtt x.initial_delay))

-- the watch within it is the observer's
same_watch : (time : Option ℕ) (l : Lens) (told : List Told) (s : Silence) → (folded (silence_told time l) told s).watch ≡ folded (watch_told l) told s.watch
same_watch time l [] s = refl
same_watch time l (t ∷ told) s = same_watch time l told (silence_told time l t s)

silence_watch : (x y : Party) → (silence_of x y).watch ≡ watch_of x y
silence_watch x y = same_watch (time_of x y) (lens x y) x.told (first_silence (first_watch x.final x.began x.made.path.remote x.first_rtt x.initial_delay))

-- what both ends agree on, by what an end was set to and what its peer told
abbrev agreed_at : End → Option ℕ
agreed_at e = agreed_timeout e.transport e.peer_params

-- the idle timer of an open end is set as its observer knows, and never where no timeout is agreed
-- on
record IsIdling (s : Silence) (e : End) : Type 0 where
  over : s.over ≡ e.timers.idle
  quiet : s.quiet ≡ e.idle_armed
  untimed : agreed_at e ≡ None → e.timers.idle ≡ None

-- so it is while x is open
record KnowsIdle (x y : Party) : Type 0 where
  time : time_of x y ≡ agreed_at x.end
  idles : x.end.closing.state ≡ states.Open → IsIdling (silence_of x y) x.end

-- what is agreed on stays
agreed_stays : (x y : Party) (call : Call) (a : Answer) → agreed_at (called x y.given call a).end ≡ agreed_at x.end
agreed_stays x y call a =
    let e : End = (called x y.given call a).end in
    let placed = placed_call x.policy x.end y.given call a in
    ap (λ (t : TransportSettings). agreed_timeout t e.peer_params) placed.transport ∙ ap (λ (p : ParameterValues). agreed_timeout x.end.transport p) placed.peer

module _ (x y : Party) (call : Call) (a : Answer) (c : Calls Observed x y call a) (still : (called x y.given call a).end.closing.state ≡ states.Open) (time : time_of x y ≡ agreed_at x.end) (i : IsIdling (silence_of x y) x.end) where
  abbrev s : Silence
  s = silence_of x y

  abbrev t : Told
  t = told_of call a x.end.closing.state

  abbrev next : Party
  next = called x y.given call a

  abbrev sents : List Sent
  sents = sents_by x.policy x.end call a

  abbrev came : List Packet
  came = news (came_to x y) (came_to next y)

  watched : s.watch ≡ watch_of x y
  watched = silence_watch x y

  abbrev after : Watch
  after = watch_behind x y call a c s.watch watched

  -- what the observer knows behind the call
  silence_next : silence_of next y ≡ silence_behind (time_of x y) sents came after s
  silence_next =
      folded_more (silence_told (time_of x y) (lens x y)) x.told t (first_silence (first_watch x.final x.began x.made.path.remote x.first_rtt x.initial_delay))
      ∙ ap (λ (ss : List Sent). silence_behind (time_of x y) ss (news s.watch.intake after.intake) after s) (went_behind x y call a c s.watch watched)
      ∙ ap (λ (j : Intake). silence_behind (time_of x y) sents (news j after.intake) after s) (came_before x y call a c s.watch watched)
      ∙ ap (λ (j : Intake). silence_behind (time_of x y) sents (news (came_to x y) j) after s) (came_behind x y call a c s.watch watched)

  left : Restarts (idling x.end) (nat_lt 0 (length came)) (list_any asks_of sents) next.end
  left = call_restarts x y a call c still

  -- it knows the clock of the end, and how long three probe timeouts are
  tells : Tells x.terms after.clock after.flight (held next.end)
  tells = ((watched_behind x y call a c s.watch watched).flight still).tells

  three : three_waits after.flight ≡ three_timeouts next.end
  three = three_waited x.terms after.clock after.flight next.end tells

  -- so the time that begins now is over when it knows
  abbrev begun_now : Option ℕ
  begun_now = idle_again (agreed_at x.end) next.end.closing.clock (three_timeouts next.end) x.end.timers.idle

  from_is : idle_from (time_of x y) after ≡ begun_now
  from_is =
      ap (λ (o : Option ℕ). idle_from o after) time
      ∙ again_is (agreed_at x.end) after.clock next.end.closing.clock (three_waits after.flight) (three_timeouts next.end) x.end.timers.idle i.untimed tells.clock three

  -- whether it does
  abbrev anew : Bool
  anew = nat_lt 0 (length came) || (list_any asks_of sents && x.end.idle_armed)

  over_next : (if begins_anew came sents s.quiet then idle_from (time_of x y) after else s.over) ≡ next.end.timers.idle
  over_next =
      ap (λ (b : Bool). if begins_anew came sents b then idle_from (time_of x y) after else s.over) i.quiet
      ∙ ap (λ (o : Option ℕ). if anew then o else s.over) from_is
      ∙ ap (λ (o : Option ℕ). if anew then begun_now else o) i.over
      ∙ sym left.over

  quiet_next : (nat_lt 0 (length came) || (s.quiet && not (list_any asks_of sents))) ≡ next.end.idle_armed
  quiet_next = ap (λ (b : Bool). nat_lt 0 (length came) || (b && not (list_any asks_of sents))) i.quiet ∙ sym left.armed

  untimed_next : agreed_at next.end ≡ None → next.end.timers.idle ≡ None
  untimed_next none = left.over ∙ go anew
    where
      never : agreed_at x.end ≡ None
      never = sym (agreed_stays x y call a) ∙ none

      go : (b : Bool) → (if b then begun_now else x.end.timers.idle) ≡ None
      go true = again_none (agreed_at x.end) next.end.closing.clock (three_timeouts next.end) x.end.timers.idle i.untimed never
      go false = i.untimed never

  idles_next : IsIdling (silence_of next y) next.end
  idles_next = subst (λ (v : Silence). IsIdling v next.end) (sym silence_next) (record { over = over_next; quiet = quiet_next; untimed = untimed_next })

-- so it does behind any call
idle_step : (x y : Party) (call : Call) (a : Answer) → Calls Observed x y call a → KnowsIdle x y → KnowsIdle (called x y.given call a) y
idle_step x y call a c i = record {
  time = i.time ∙ sym (agreed_stays x y call a);
  idles = λ still. idles_next x y call a c still i.time (i.idles (was_open x.policy x.end y.given call a still));
}

-- over the packets and what observers know of them
idle_group : Group Observed KnowsIdle
idle_group = record {
  first = λ x y m there here. record { time = agreed_is (told_timeout x.making.settings.max_idle_timeout) (told_timeout y.making.settings.max_idle_timeout); idles = λ opened. record { over = refl; quiet = refl; untimed = λ none. refl } };
  writer = λ x y call a c i back. idle_step x y call a c i;
  reader = λ x y call a c i back. record { time = back.time; idles = back.idles };
  shows = λ x y here there b back i j. record { time = i.time; idles = λ opened. (let w = i.idles opened in record { over = w.over; quiet = w.quiet; untimed = w.untimed }) };
}

-- ---- a run

-- the clause
pub idle_moments : (r : Run) (end : World) → IsHonest r → IsRun r end → IdleMoments r
idle_moments r end honest run side i v served there opened =
    let at = seen_at KnowsIdle idle_group r end honest run side (suc i) served in
    let x : Party = party_at r (suc i) at.world side at.sents in
    let now_open : x.end.closing.state ≡ states.Open = open_behind r at.world i v side at.leads there opened in
    ap (λ (ts : List (Option ℕ)). slice_get ts 1) (timers_behind r at.world i v side at.leads there) ∙ ap (λ (o : Option ℕ). Some o) (sym (at.gives.1.idles now_open).over)
