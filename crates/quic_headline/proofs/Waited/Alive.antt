-- How long an end is without a packet, where PING keeps it alive (RFC 9000, section 10.1.2): each
-- packet sets its timer anew, and PING waits once that has expired.
use Rattle.std.proofs.Common.{◌≡◌, ℕ, ◌+◌, Bool, true, false, ◌||◌, List, length, map, Option, Some, None, Ok, refl, sym, ap, ◌∙◌, subst, ◌⊎◌, inl, inr}
use Rattle.std.specs.Prelude.{if◌then◌else◌, nat_lt}
use Rattle.std.specs.Option.{is_some}
use Rattle.quic_wire_core.specs.declared.shared.EcnCodepoint.{EcnCodepoint}
use Rattle.quic_wire.specs.Value.{FrameValue}
use Rattle.quic_time.specs.Clocks.{saturated}
use Rattle.quic_time.specs.Timers.{Timers, has_come}
use Rattle.quic_congestion.specs.Pacer.{Pacing}
use Rattle.quic_config.specs.Transport.{TransportSettings}
use Rattle.quic_recovery_core.specs.PendingAcks.{Pending, after_insert, packet_starts_wait}
use Rattle.quic_spaces.specs.Acknowledging.{ack_due, with_due}
use Rattle.quic_machine.specs.declared.answers.State.{State}
use Rattle.quic_machine.specs.declared.answers.State.TheVariants as states
use Rattle.quic_machine.specs.declared.run.Call.{Call}
use Rattle.quic_machine.specs.declared.run.Call.TheVariants as calls
use Rattle.quic_machine.specs.declared.run.Answer.{Answer}
use Rattle.quic_machine.specs.declared.run.Answer.TheVariants as answers
use Rattle.quic_machine.specs.Policy.{Policy}
use Rattle.quic_machine.specs.Closing.{Closing, ticked}
use Rattle.quic_machine.specs.End.{End, words_drawn, with_closing, with_ack_timer, with_loss_timer, with_number_given}
use Rattle.quic_machine.specs.Control.{paid, with_app_limited}
use Rattle.quic_machine.specs.Idle.{alive_moment, keep_alive_reset, keep_alive_expired, idle_reset, idle_reset_if, packet_given}
use Rattle.quic_machine.specs.Validation.{most_challenges, challenged_anew, path_expired}
use Rattle.quic_machine.specs.Receive.{Outcome, asks_in, number_noted, after_taken, take_frame}
use Rattle.quic_machine.specs.Poll.{Polled, Draft, Leaving, asking, datagram_size, tracked, paid_if, after_given, draft_as, polled}
use Rattle.quic_machine.specs.Timeouts.{Expiry, expiry_at, acks_expired, pacing_expired, loss_judged, loss_expired, after_busy, unless_idle, timed_out_in, timed_out}
use Rattle.quic_machine.specs.DraftLaws.{Writing, by_leave, MayLeave}
use Rattle.quic_machine.specs.Puts as puts
use Rattle.quic_machine.specs.PollCases.{ready_at, ready_leaves, draft_at, may_leave_at, Composes, composes}
use Rattle.quic_machine.specs.FrameCases.{Settling, begun, named, acked_keeps, losses_keep, frame_keeps, frame_leaves, apart_leaves, items_keep}
use Rattle.quic_machine.specs.Steps as steps
use Rattle.quic_machine.specs.CallCases.{Plain, is_delivery, is_poll, is_timeout, by_plain_call}
use Rattle.quic_machine.specs.CallCases as cases
use Rattle.quic_machine.specs.Machine.{after_call, gave}
use Rattle.quic_headline.specs.Runs.{Packet, Intake}
use Rattle.quic_headline.specs.Observer.{Sent, news, is_past}
use Rattle.quic_headline.specs.Waited.{alive_from}
use Rattle.quic_headline.proofs.Packets.Apart.{by_next_id}
use Rattle.quic_headline.proofs.Packets.Probes.{by_going}
use Rattle.quic_headline.proofs.Packets.Sends.{by_sends}
use Rattle.quic_headline.proofs.Packets.Delivered.{Arrivals, arrived, with_taken}
use Rattle.quic_headline.proofs.Packets.Stays.{keeps_frames}
use Rattle.quic_headline.proofs.Packets.Watching.{none_new, one_new}
use Rattle.quic_headline.proofs.Places.Parties.{sent_by, sent_if}
use Rattle.quic_headline.proofs.Packets.Moved.{by_migrated}

-- ---- the timer is set anew

-- it is set so, where so long a time begins at a moment; it stays as it was where none is kept
abbrev pub alive_again : Option ℕ → ℕ → Option ℕ → Option ℕ
alive_again None clock before = before
alive_again (Some interval) clock before = Some (saturated (clock + interval))

moment_is : (interval : Option ℕ) (e : End) → alive_moment interval e ≡ alive_again interval e.closing.clock e.timers.keep_alive
moment_is None e = refl
moment_is (Some interval) e = refl

-- to the moment that an observer knows
pub again_is : (interval : Option ℕ) (clock : ℕ) (before : Option ℕ) → (interval ≡ None → before ≡ None) → alive_from interval clock ≡ alive_again interval clock before
again_is None clock before none = sym (none refl)
again_is (Some time) clock before none = refl

-- none is set where none is kept
pub again_none : (interval : Option ℕ) (clock : ℕ) (before : Option ℕ) → (interval ≡ None → before ≡ None) → interval ≡ None → alive_again interval clock before ≡ None
again_none None clock before none is = none is
again_none (Some time) clock before none is = cc

-- by a packet that is taken
noted_alive : (b : Bool) (t : Timers) (moment : Option ℕ) → (if b then with_ack_timer t moment else t).keep_alive ≡ t.keep_alive
noted_alive true t moment = refl
noted_alive false t moment = refl

pub taken_alive : (n : ℕ) (asks urged : Bool) (mark : Option EcnCodepoint) (e : End) → (after_taken n asks urged mark e).timers.keep_alive ≡ alive_again e.transport.keep_alive_interval e.closing.clock e.timers.keep_alive
taken_alive n asks urged mark e =
    let pending : Pending = with_due urged (after_insert e.acknowledging n e.closing.clock) in
    moment_is e.transport.keep_alive_interval (idle_reset (record (number_noted n asks urged mark e) { idle_armed = true }))
    ∙ ap (λ (o : Option ℕ). alive_again e.transport.keep_alive_interval e.closing.clock o) (noted_alive (packet_starts_wait pending n asks e.numbers.opened) e.timers (Some (ack_due e.frequency.own_delay e.closing.clock)))

-- by a datagram that is given
given_alive : (p : Policy) (d : Draft) → (after_given p d).timers.keep_alive ≡ alive_again d.end.transport.keep_alive_interval d.end.closing.clock d.end.timers.keep_alive
given_alive p d = go (asking d.frames)
  where
    x : End
    x = with_number_given (p.words (words_drawn d.end)) (tracked d)

    paced : Pacing → End
    paced pacing = record x { path = record x.path { pacing = pacing } }

    reset : (b : Bool) (pacing : Pacing) → (with_loss_timer (with_app_limited (keep_alive_reset (idle_reset_if b (paced pacing))) false)).timers.keep_alive ≡ alive_again d.end.transport.keep_alive_interval d.end.closing.clock d.end.timers.keep_alive
    reset true pacing = moment_is d.end.transport.keep_alive_interval (idle_reset (record (paced pacing) { idle_armed = false }))
    reset false pacing = moment_is d.end.transport.keep_alive_interval (paced pacing)

    go : (b : Bool) → (with_loss_timer (with_app_limited (packet_given b (paid_if b x (datagram_size d))) false)).timers.keep_alive ≡ alive_again d.end.transport.keep_alive_interval d.end.closing.clock d.end.timers.keep_alive
    go true = reset x.idle_armed (paid x (datagram_size d)).path.pacing
    go false = reset false x.path.pacing

-- what is composed leaves it
draft_alive : (leaving : Leaving) (e : End) → MayLeave leaving e → (draft_as leaving e).end.timers.keep_alive ≡ e.timers.keep_alive
draft_alive leaving e may = by_leave (λ (d : Draft). d.end.timers.keep_alive ≡ e.timers.keep_alive) keep leaving e may refl
  where
    keep : Writing (λ (d : Draft). d.end.timers.keep_alive ≡ e.timers.keep_alive)
    keep puts.ack d may i = i
    keep p d may i = i

-- ---- a poll

-- it is set anew where something goes
pub polled_alive : (p : Policy) (e : End) (now : ℕ) → (polled p e now).end.closing.state ≡ states.Open
    → (polled p e now).end.timers.keep_alive ≡ (if nat_lt 0 (length (sent_if (gave (answers.Poll (polled p e now).answer)) (sent_by p e now))) then alive_again e.transport.keep_alive_interval (polled p e now).end.closing.clock e.timers.keep_alive else e.timers.keep_alive)
polled_alive p e now = by_sends p e now (λ (q : Polled) (ss : List Sent). q.end.closing.state ≡ states.Open → q.end.timers.keep_alive ≡ (if nat_lt 0 (length ss) then alive_again e.transport.keep_alive_interval q.end.closing.clock e.timers.keep_alive else e.timers.keep_alive)) (record {
  silent = λ opened. refl;
  failed = λ opened. refl;
  nothing = λ is none opened. ready;
  repeats = λ is. ((λ opened. let clash : states.Closing ≡ states.Open = sym is ∙ opened in cc), λ f goes opened. let clash : states.Closing ≡ states.Open = sym is ∙ opened in cc);
  closes = λ reason is bound. ((λ opened. cc), λ f goes opened. cc);
  gives = λ is may some opened.
      given_alive p d
      ∙ ap (λ (t : TransportSettings). alive_again t.keep_alive_interval d.end.closing.clock d.end.timers.keep_alive) (left.transport ∙ ap (λ (x : End). x.transport) (ready_leaves e now))
      ∙ ap (λ (c : Closing). alive_again e.transport.keep_alive_interval c.clock d.end.timers.keep_alive) (sym (by_going (λ (x : End). x.closing ≡ d.end.closing) p d (λ pacing. refl)))
      ∙ ap (λ (o : Option ℕ). alive_again e.transport.keep_alive_interval (after_given p d).closing.clock o) (draft_alive (ready_at e now).leaving (ready_at e now).end (may_leave_at e now) ∙ ready);
})
  where
    d : Draft
    d = draft_at e now

    ready : (ready_at e now).end.timers.keep_alive ≡ e.timers.keep_alive
    ready = ap (λ (x : End). x.timers.keep_alive) (ready_leaves e now)

    left : Composes (ready_at e now).end (draft_at e now).end
    left = composes (ready_at e now).leaving (ready_at e now).end (may_leave_at e now)

-- ---- a timeout

-- What a moment that an end takes over leaves of it: its clock, when it is to be kept alive,
-- whether PING waits, and IMMEDIATE_ACK, and which PATH_RESPONSE does; PATH_CHALLENGE waits anew
-- only where the timer of path validation expires.
pub record Timed (e f : End) (now : ℕ) : Type 0 where
  pub closing : f.closing ≡ ticked e.closing now
  pub alive : f.timers.keep_alive ≡ (if has_come e.timers.keep_alive (ticked e.closing now).clock then None else e.timers.keep_alive)
  pub pinged : f.waiting.signals.ping ≡ (has_come e.timers.keep_alive (ticked e.closing now).clock || e.waiting.signals.ping)
  pub response : f.waiting.signals.response ≡ e.waiting.signals.response
  pub immediate : f.waiting.signals.immediate ≡ e.waiting.signals.immediate
  pub challenged : is_some f.waiting.signals.challenge ≡ true → (is_some e.waiting.signals.challenge ≡ true) ⊎ (has_come e.timers.path_validation (ticked e.closing now).clock ≡ true)

-- these stay, and PATH_CHALLENGE waits anew only where this is so
record Same (asks : Bool) (e f : End) : Type 0 where
  closing : f.closing ≡ e.closing
  alive : f.timers.keep_alive ≡ e.timers.keep_alive
  pinged : f.waiting.signals.ping ≡ e.waiting.signals.ping
  response : f.waiting.signals.response ≡ e.waiting.signals.response
  immediate : f.waiting.signals.immediate ≡ e.waiting.signals.immediate
  challenged : is_some f.waiting.signals.challenge ≡ true → (is_some e.waiting.signals.challenge ≡ true) ⊎ (asks ≡ true)

same_self : (asks : Bool) (e : End) → Same asks e e
same_self asks e = record { closing = refl; alive = refl; pinged = refl; response = refl; immediate = refl; challenged = λ set. inl set }

settles : (asks : Bool) (e : End) → Settling (Same asks e)
settles asks e (steps.known n) f i = record { closing = i.closing; alive = i.alive; pinged = i.pinged; response = i.response; immediate = i.immediate; challenged = i.challenged }
settles asks e s f i = record { closing = i.closing; alive = i.alive; pinged = i.pinged; response = i.response; immediate = i.immediate; challenged = i.challenged }

lost_same : (asks b : Bool) (e : End) → Same asks e (loss_expired b e)
lost_same asks false e = same_self asks e
lost_same asks true e = go e.tracking.loss_time
  where
    go : (o : Option ℕ) → Same asks e (loss_judged o e)
    go None = record { closing = refl; alive = refl; pinged = refl; response = refl; immediate = refl; challenged = λ set. inl set }
    go (Some moment) = losses_keep (Same asks e) (settles asks e) e (same_self asks e)

-- What the timers beside that of losses leave.
record BusyLeaves (x : Expiry) (e g : End) : Type 0 where
  closing : g.closing ≡ e.closing
  alive : g.timers.keep_alive ≡ (if x.keep_alive then None else e.timers.keep_alive)
  pinged : g.waiting.signals.ping ≡ (x.keep_alive || e.waiting.signals.ping)
  response : g.waiting.signals.response ≡ e.waiting.signals.response
  immediate : g.waiting.signals.immediate ≡ e.waiting.signals.immediate
  challenged : is_some g.waiting.signals.challenge ≡ true → (is_some e.waiting.signals.challenge ≡ true) ⊎ (x.path ≡ true)

busy_timed : (words : ℕ → ℕ) (x : Expiry) (e f : End) → Same x.path e f → BusyLeaves x e (after_busy words x f)
busy_timed words x e f same = (let left = go x.acks x.pacing x.keep_alive (path_expired words x.path f) (path x.path same) in record {
  closing = left.0;
  alive = left.1;
  pinged = left.2;
  response = left.3;
  immediate = left.4;
  challenged = left.5;
})
  where
    anew : (b : Bool) → Same true e f → Same true e (challenged_anew words b f)
    anew true i = record { closing = i.closing; alive = i.alive; pinged = i.pinged; response = i.response; immediate = i.immediate; challenged = λ set. inr refl }
    anew false i = record { closing = i.closing; alive = i.alive; pinged = i.pinged; response = i.response; immediate = i.immediate; challenged = i.challenged }

    path : (b : Bool) → Same b e f → Same b e (path_expired words b f)
    path true i = anew (nat_lt f.validation.drawn most_challenges) i
    path false i = i

    go : (acks pacing keeps : Bool) (h : End) → Same x.path e h → (let g : End = with_loss_timer (acks_expired acks (pacing_expired pacing (keep_alive_expired keeps h))) in (g.closing ≡ e.closing) × (g.timers.keep_alive ≡ (if keeps then None else e.timers.keep_alive)) × (g.waiting.signals.ping ≡ (keeps || e.waiting.signals.ping)) × (g.waiting.signals.response ≡ e.waiting.signals.response) × (g.waiting.signals.immediate ≡ e.waiting.signals.immediate) × (is_some g.waiting.signals.challenge ≡ true → (is_some e.waiting.signals.challenge ≡ true) ⊎ (x.path ≡ true)))
    go true true true h i = (i.closing, refl, refl, i.response, i.immediate, i.challenged)
    go true true false h i = (i.closing, i.alive, i.pinged, i.response, i.immediate, i.challenged)
    go true false true h i = (i.closing, refl, refl, i.response, i.immediate, i.challenged)
    go true false false h i = (i.closing, i.alive, i.pinged, i.response, i.immediate, i.challenged)
    go false true true h i = (i.closing, refl, refl, i.response, i.immediate, i.challenged)
    go false true false h i = (i.closing, i.alive, i.pinged, i.response, i.immediate, i.challenged)
    go false false true h i = (i.closing, refl, refl, i.response, i.immediate, i.challenged)
    go false false false h i = (i.closing, i.alive, i.pinged, i.response, i.immediate, i.challenged)

-- an end that is open still wasn't idle
pub timed : (p : Policy) (e : End) (now : ℕ) → e.closing.state ≡ states.Open → (timed_out p e now).end.closing.state ≡ states.Open → Timed e (timed_out p e now).end now
timed p e now opened = subst (λ (s : State). (timed_out_in s p e now).end.closing.state ≡ states.Open → Timed e (timed_out_in s p e now).end now) (sym opened) (idle x.idle)
  where
    begins : End
    begins = with_closing e (ticked e.closing now)

    x : Expiry
    x = expiry_at begins.closing.clock begins.timers

    idle : (b : Bool) → (unless_idle b p.words x (loss_expired x.loss begins)).closing.state ≡ states.Open → Timed e (unless_idle b p.words x (loss_expired x.loss begins)) now
    idle true still = cc
    idle false still = (let left = busy_timed p.words x begins (loss_expired x.loss begins) (lost_same x.path x.loss begins) in record { closing = left.closing; alive = left.alive; pinged = left.pinged; response = left.response; immediate = left.immediate; challenged = left.challenged })

-- whether PING is to keep an end alive at the moment of a call
abbrev pub wakes_at : End → Call → Bool
wakes_at e (calls.Timeout now) = has_come e.timers.keep_alive (ticked e.closing now).clock
wakes_at e call = false

-- the observer asks the same
pub past_is : (o : Option ℕ) (clock : ℕ) → is_past o clock ≡ has_come o clock
past_is None clock = refl
past_is (Some moment) clock = refl

-- ---- a delivery

-- frames leave the timer
frame_alive : (e : End) (f : FrameValue) (x : End) → x.timers.keep_alive ≡ e.timers.keep_alive → (take_frame f x).end.timers.keep_alive ≡ e.timers.keep_alive
frame_alive e = frame_keeps (λ (x : End). x.timers.keep_alive ≡ e.timers.keep_alive) (record {
  ack = λ rises a x i. acked_keeps (λ (y : End). y.timers.keep_alive ≡ e.timers.keep_alive) settling rises a (named a x) i;
  on_streams = λ f x on i. frame_leaves (λ (y : End). y.timers.keep_alive ≡ e.timers.keep_alive) f x on (λ t. i);
  apart = λ f x is i. apart_leaves (λ (y : End). y.timers.keep_alive ≡ e.timers.keep_alive) f x is (λ c. i) (λ c most. i);
  message = λ m x i. i;
})
  where
    settling : Settling (λ (x : End). x.timers.keep_alive ≡ e.timers.keep_alive)
    settling (steps.known n) x i = i
    settling s x i = i

-- it is set anew where a packet came
abbrev pub SetBy : End → Intake → End → Intake → Type 0
SetBy e i f j = f.closing.state ≡ states.Open → f.timers.keep_alive ≡ (if nat_lt 0 (length (news i j)) then alive_again e.transport.keep_alive_interval f.closing.clock e.timers.keep_alive else e.timers.keep_alive)

pub none_set : (e : End) (i : Intake) (f : End) → f.timers.keep_alive ≡ e.timers.keep_alive → SetBy e i f i
none_set e i f same opened = same ∙ ap (λ (ps : List Packet). if nat_lt 0 (length ps) then alive_again e.transport.keep_alive_interval f.closing.clock e.timers.keep_alive else e.timers.keep_alive) (sym (none_new i))

pub arrivals_set : (e : End) (now n : ℕ) (frames taken : List FrameValue) (i : Intake) → Arrivals e now n frames taken i (λ (o : Outcome) (j : Intake). SetBy e i o.end j)
arrivals_set e now n frames taken i = record {
  ignored = λ reason. none_set e i e refl;
  noted = λ state reason opened. absurd (let clash : states.Closing ≡ states.Open = sym state ∙ opened in cc);
  takes = λ words state new none urged mark opened.
      taken_alive n (asks_in (map Ok frames)) urged mark left
      ∙ ap (λ (t : TransportSettings). alive_again t.keep_alive_interval left.closing.clock left.timers.keep_alive) (keeps_frames taken (begun e now n)).transport
      ∙ ap (λ (o : Option ℕ). alive_again e.transport.keep_alive_interval left.closing.clock o) left_alive
      ∙ ap (λ (ps : List Packet). if nat_lt 0 (length ps) then alive_again e.transport.keep_alive_interval left.closing.clock e.timers.keep_alive else e.timers.keep_alive) (sym (one_new i n frames));
  moves = λ p o same remote x opened j. by_migrated (λ (f : End). SetBy e i f (with_taken i n frames)) p o remote x (λ c. j) (λ c most. j);
  drains = λ words state new close is opened. absurd cc;
  refuses = λ words state new f is opened. absurd cc;
  exhausts = λ state opened. absurd cc;
}
  where
    left : End
    left = (arrived e now n taken).end

    left_alive : left.timers.keep_alive ≡ e.timers.keep_alive
    left_alive = items_keep (λ (x : End). x.timers.keep_alive ≡ e.timers.keep_alive) (frame_alive e) (map Ok taken) (begun e now n) refl

-- ---- any other call

-- a call that is no poll, no timeout and no delivery leaves it
pub quiet_alive : (p : Policy) (e : End) (theirs : List (List ℕ)) (call : Call) (a : Answer) → is_delivery call ≡ false → is_poll call ≡ false → is_timeout call ≡ false → (after_call p e theirs call a).closing.state ≡ states.Open → (after_call p e theirs call a).timers.keep_alive ≡ e.timers.keep_alive
quiet_alive p e theirs call a apart silent calm = by_plain_call p e theirs Stays call a keep
  where
    Stays : End → Type 0
    Stays f = f.closing.state ≡ states.Open → f.timers.keep_alive ≡ e.timers.keep_alive

    keep : Plain p e call Stays
    keep (cases.times now expiry) is = (let clash : true ≡ false = sym is ∙ calm in cc)
    keep (cases.waits now b) is = (let clash : true ≡ false = sym is ∙ calm in cc)
    keep (cases.polls now) is = (let clash : true ≡ false = sym is ∙ silent in cc)
    keep (cases.hears arrival d) is = (let clash : true ≡ false = sym is ∙ apart in cc)
    keep (cases.closes reason f now) may = λ opened. cc
    keep (cases.changes_id b) may = by_next_id Stays e b (λ opened. refl) (λ c opened. refl) (λ c most opened. refl)
    keep c may = λ opened. refl
