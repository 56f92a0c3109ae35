-- The timer of acknowledgements of an open end: which calls set it, and which stop it; and what an
-- observer of the run's lists knows of the packets that ask.
use Rattle.std.proofs.Common.{◌≡◌, ℕ, zero, suc, ◌+◌, ◌⊎◌, Bool, true, false, cond, nat_lt, ◌||◌, List, [], ◌∷◌, ◌++◌, map, replicate, length, Option, Some, None, Ok, refl, sym, ap, ◌∙◌, inl, inr}
use Rattle.std.specs.Prelude.{if◌then◌else◌, not, ◌==◌, ◌&&◌}
use Rattle.std.specs.Option.{is_none}
use Rattle.std.specs.List.{list_any}
use Rattle.std.proofs.lemmas.Bool.{and_parts, or_parts}
use Rattle.quic_wire_core.specs.declared.shared.EcnCodepoint.{EcnCodepoint}
use Rattle.quic_wire.specs.Value.{FrameValue, ack, asks, padding}
use Rattle.quic_recovery_core.specs.PendingAcks.{Pending, most_ack_runs, joined, with_one, at_most, is_filled, can_send, after_insert, starts_wait, asking_counted, after_acks_sent}
use Rattle.quic_sets.specs.Runs.{Run}
use Rattle.quic_time.specs.Rtt.{Rtt}
use Rattle.quic_recovery_core.specs.Duplicates.{Seen}
use Rattle.quic_machine.specs.declared.run.Call.{Call}
use Rattle.quic_machine.specs.declared.run.Call.TheVariants as calls
use Rattle.quic_machine.specs.declared.run.Answer.{Answer}
use Rattle.quic_machine.specs.declared.run.Answer.TheVariants as answers
use Rattle.quic_spaces.specs.Acknowledging.{ack_due}
use Rattle.quic_machine.specs.Policy.{Policy}
use Rattle.quic_machine.specs.Closing.{ticked}
use Rattle.quic_machine.specs.End.{End, with_closing, with_ack_timer, closed_by}
use Rattle.quic_machine.specs.Receive.{asks_in, after_taken, Outcome}
use Rattle.quic_spaces.specs.Acknowledging.{with_due}
use Rattle.quic_machine.specs.Poll.{zeros_behind, Polled, Draft, polled, draft_as, Leaving}
use Rattle.quic_machine.specs.Poll as poll
use Rattle.quic_machine.specs.Timeouts.{Expiry, loss_judged}
use Rattle.quic_machine.specs.Machine.{IsAnswer, after_call, fails, gave}
use Rattle.quic_machine.specs.CallCases.{Plain, is_delivery, by_plain_call}
use Rattle.quic_machine.specs.CallCases as cases
use Rattle.quic_machine.specs.LeaveCases.{at_expiry, Expired, by_timers}
use Rattle.quic_machine.specs.FrameCases.{Settling, named, begun, passed, acked_keeps, losses_keep, frame_keeps, frame_leaves, frames_keep, apart_leaves}
use Rattle.quic_machine.specs.Steps as steps
use Rattle.quic_machine.specs.PollCases.{ready_at, ready_leaves, draft_at, frames_at, by_poll_to, may_leave_at}
use Rattle.quic_machine.specs.DraftLaws.{Writing, by_leave, MayLeave}
use Rattle.quic_machine.specs.Puts as puts
use Rattle.quic_headline.specs.Runs.{Told, Packet, Intake, folded}
use Rattle.quic_headline.specs.Observer.{Sent, first_watch, news, Lens, watch_told}
use Rattle.quic_headline.specs.Moments.{is_ack, acknowledges, Debt, debt_told, first_debt}
use Rattle.quic_headline.proofs.Packets.Entries.{IsControl, control_of}
use Rattle.quic_headline.proofs.Packets.Delivered.{Arrivals, arrived, with_taken}
use Rattle.quic_headline.proofs.Packets.Delivered.{frames_at as taken_at}
use Rattle.quic_headline.proofs.Packets.Moved.{by_migrated}
use Rattle.quic_headline.proofs.Packets.Moving.{moved_asks}
use Rattle.quic_recovery_core.specs.AckFrequency.{Frequency}
use Rattle.quic_headline.proofs.Packets.Watching.{one_new}
use Rattle.quic_headline.proofs.Packets.Group.{meets}
use Rattle.quic_headline.proofs.Places.Steps.{poll_answer}
use Rattle.quic_headline.proofs.Places.Parties.{sent_by, sent_if, sents_by, Party, called, came_to, lens}
use Rattle.quic_headline.proofs.Places.Groups.{Calls}
use Rattle.quic_headline.proofs.Places.Coming.{by_coming}
use Rattle.quic_headline.proofs.Timers.Watched.{Observed}
use Rattle.quic_headline.proofs.Packets.Probes.{by_going}
use Rattle.quic_machine.specs.LeaveCases as expiring
use Rattle.quic_headline.proofs.Packets.Closes.{by_closes}
use Rattle.quic_headline.proofs.Packets.Apart.{by_waits, by_next_id}
use Rattle.quic_headline.proofs.Packets.Sends.{by_sends}
use Rattle.quic_headline.proofs.Packets.Bare.{one_bare}
use Rattle.quic_headline.proofs.Rest.Standing.{CountsOn, frames_acks}
use Rattle.quic_headline.proofs.Packets.Owing as owing
use Rattle.quic_machine.specs.DraftLaws.{IsClose}

-- ---- what goes

-- some of both
any_both : (fs gs : List FrameValue) → list_any is_ack (fs ++ gs) ≡ (list_any is_ack fs || list_any is_ack gs)
any_both [] gs = refl
any_both (f ∷ fs) gs = go (is_ack f) (any_both fs gs)
  where
    go : (b : Bool) → list_any is_ack (fs ++ gs) ≡ (list_any is_ack fs || list_any is_ack gs) → (b || list_any is_ack (fs ++ gs)) ≡ ((b || list_any is_ack fs) || list_any is_ack gs)
    go true rest = refl
    go false rest = rest

-- one more frame that is none leaves it
any_more : (fs : List FrameValue) (f : FrameValue) → is_ack f ≡ false → list_any is_ack (fs ++ f ∷ []) ≡ true → list_any is_ack fs ≡ true
any_more fs f none some = go (list_any is_ack fs) (sym (any_both fs (f ∷ []) ∙ ap (λ (b : Bool). list_any is_ack fs || (b || false)) none) ∙ some)
  where
    go : (b : Bool) → (b || false) ≡ true → b ≡ true
    go true is = refl
    go false is = is

-- nor does PADDING
pub any_padded : (fs : List FrameValue) (count : ℕ) → list_any is_ack (fs ++ replicate count padding) ≡ list_any is_ack fs
any_padded [] zero = refl
any_padded [] (suc count) = any_padded [] count
any_padded (f ∷ fs) count = ap (λ (b : Bool). is_ack f || b) (any_padded fs count)

control_not : (f : FrameValue) → IsControl f → is_ack f ≡ false
control_not (ack a) is = absurd is
control_not f is = refl

-- what holds once an ACK frame went, of what is to be acknowledged and of the timer, which it stops
module _ (Q : Pending → Option ℕ → Type 0) (acked : (p : Pending) → Q (after_acks_sent p) None) where
  -- it holds where one of the frames of a draft is an ACK
  abbrev Answered : Draft → Type 0
  Answered d = list_any is_ack d.frames ≡ true → Q d.end.acknowledging d.end.timers.max_ack_delay

  draft_answered : (leaving : Leaving) (e : End) → MayLeave leaving e → Answered (draft_as leaving e)
  draft_answered leaving e alone = by_leave Answered keep leaving e alone (λ is. cc)
    where
      keep : Writing Answered
      keep puts.ack d may i = λ is. acked d.end.acknowledging
      keep (puts.drops kind) d may i = i
      keep (puts.control kind f) d is i = λ some. i (any_more d.frames f (control_not f (control_of f kind is.of_kind)) some)
      keep p d may i = λ some. i (any_more d.frames _ refl some)

  -- no ACK frame goes beside a close
  bare : (f : FrameValue) → IsClose f → (count : ℕ) → (list_any is_ack (f ∷ replicate count padding) || false) ≡ true → ⊥
  bare f is count some = let clash : ◌≡◌ {A = Bool} false true = sym (one_bare is_ack refl not_ack f is count) ∙ some in cc
    where
      not_ack : (g : FrameValue) → IsClose g → is_ack g ≡ false
      not_ack (ack a) close = absurd close
      not_ack g close = refl

  -- so it is behind a poll that gives one
  polled_answered : (p : Policy) (e : End) (now : ℕ) → owing.Owes e → acknowledges (sent_if (gave (answers.Poll (polled p e now).answer)) (sent_by p e now)) ≡ true → Q (polled p e now).end.acknowledging (polled p e now).end.timers.max_ack_delay
  polled_answered p e now owes = by_sends p e now (λ (q : Polled) (ss : List Sent). acknowledges ss ≡ true → Q q.end.acknowledging q.end.timers.max_ack_delay) (record {
    silent = λ some. cc;
    failed = λ some. cc;
    nothing = λ is none some. cc;
    repeats = λ is. (let x : End = with_closing e (ticked e.closing now) in ((λ some. cc), λ f goes some. absurd (bare f (owing.close_is p x owes f goes) (zeros_behind (draft_as (poll.closing f) x)) some)));
    closes = λ reason is bound. (let x : End = closed_by reason (ready_at e now).end in ((λ some. cc), λ f goes some. absurd (bare f (owing.close_is p x (owing.error_owes reason (ready_at e now).end) f goes) (zeros_behind (draft_as (poll.closing f) x)) some)));
    gives = λ is may some acks. by_going (λ (x : End). Q x.acknowledging x.timers.max_ack_delay) p (draft_at e now) (λ pacing. draft_answered (ready_at e now).leaving (ready_at e now).end (may_leave_at e now) (sym (any_padded (draft_at e now).frames _) ∙ first_only (list_any is_ack (frames_at e now)) acks));
  })
    where
      first_only : (b : Bool) → (b || false) ≡ true → b ≡ true
      first_only true is = refl
      first_only false is = is

  -- and behind any call that does
  pub call_answered : (p : Policy) (e : End) (theirs : List (List ℕ)) (call : Call) (a : Answer) → owing.Owes e → IsAnswer p e theirs call a → fails a ≡ false → acknowledges (sents_by p e call a) ≡ true → Q (after_call p e theirs call a).acknowledging (after_call p e theirs call a).timers.max_ack_delay
  call_answered p e theirs (calls.Poll now) a owes is served some = polled_answered p e now owes (ap (λ (b : Answer). acknowledges (sent_if (gave b) (sent_by p e now))) (sym (poll_answer p e now a is served)) ∙ some)
  call_answered p e theirs call a owes is served some = cc

-- ---- a call that isn't a delivery sets no timer of acknowledgements

-- the timer of an end is this
abbrev HasTimer : Option ℕ → End → Type 0
HasTimer o e = e.timers.max_ack_delay ≡ o

-- packets that are acknowledged or lost leave it
timer_settles : (o : Option ℕ) → Settling (HasTimer o)
timer_settles o (steps.known n) y j = j
timer_settles o s y j = j

abbrev SetsNone : End → End → Type 0
SetsNone e f = (moment : ℕ) → f.timers.max_ack_delay ≡ Some moment → e.timers.max_ack_delay ≡ Some moment

-- losses leave it
pub judged_none : (o : Option ℕ) (e : End) → (loss_judged o e).timers.max_ack_delay ≡ e.timers.max_ack_delay
judged_none None e = refl
judged_none (Some moment) e = losses_keep (HasTimer e.timers.max_ack_delay) (timer_settles e.timers.max_ack_delay) e refl

-- nor does a timer that expires but that of acknowledgements
expired_none : (words : ℕ → ℕ) (e : End) (now : ℕ) (expiry : Expiry) → SetsNone e (at_expiry words e now expiry)
expired_none words e now expiry = by_timers words (SetsNone e) (SetsNone e) (λ o f i moment set. i moment (sym (judged_none o f) ∙ set)) each (λ f i. i) (λ f i moment set. cc) expiry (with_closing e (ticked e.closing now)) (λ moment set. set)
  where
    each : (s : Expired) (f : End) → SetsNone e f → SetsNone e (expiring.after s f)
    each expiring.of_acks f i moment set = cc
    each s f i moment set = i moment set

draft_none : (leaving : Leaving) (e : End) → MayLeave leaving e → SetsNone e (draft_as leaving e).end
draft_none leaving e alone = by_leave (λ (d : Draft). SetsNone e d.end) put_keeps leaving e alone (λ moment set. set)
  where
    put_keeps : Writing (λ (d : Draft). SetsNone e d.end)
    put_keeps puts.ack d may i = λ moment set. cc
    put_keeps p d may i = i

-- nor does an end that is made ready
ready_none : (e : End) (now : ℕ) → SetsNone e (ready_at e now).end
ready_none e now moment set = ap (λ (x : End). x.timers.max_ack_delay) (sym (ready_leaves e now)) ∙ set

polled_none : (p : Policy) (e : End) (now : ℕ) → SetsNone e (polled p e now).end
polled_none p e now = by_poll_to p e now (λ (q : Polled). SetsNone e q.end) (record {
  silent = λ moment set. set;
  failed = λ moment set. set;
  nothing = λ is none. ready_none e now;
  repeats = λ is. by_closes p (with_closing e (ticked e.closing now)) (λ (q : Polled). SetsNone e q.end) (λ moment set. set) (λ f goes moment set. set);
  closes = λ reason bound. by_closes p (closed_by reason (ready_at e now).end) (λ (q : Polled). SetsNone e q.end) (λ moment set. none_set moment set) (λ f goes moment set. none_set moment set);
  gives = λ is may some. by_going (SetsNone e) p (draft_at e now) (λ pacing moment set. ready_none e now moment (draft_none (ready_at e now).leaving (ready_at e now).end (may_leave_at e now) moment set));
})
  where
    none_set : {A : Type 0} (moment : ℕ) → None ≡ Some moment → A
    none_set moment clash = cc

call_none : (p : Policy) (e : End) (theirs : List (List ℕ)) (call : Call) (a : Answer) → is_delivery call ≡ false → SetsNone e (after_call p e theirs call a)
call_none p e theirs call a apart = by_plain_call p e theirs (SetsNone e) call a cases_keep
  where
    cases_keep : Plain p e call (SetsNone e)
    cases_keep (cases.times now expiry) may = expired_none p.words e now expiry
    cases_keep (cases.polls now) may = polled_none p e now
    cases_keep (cases.hears arrival d) is = (let clash : true ≡ false = sym is ∙ apart in cc)
    cases_keep (cases.closes reason f now) may = λ moment set. cc
    cases_keep (cases.waits now b) may = by_waits (SetsNone e) b (with_closing e (ticked e.closing now)) (λ moment set. cc) (λ moment set. set)
    cases_keep (cases.changes_id a) may = by_next_id (SetsNone e) e a (λ moment set. set) (λ c. λ moment set. set) (λ c most. λ moment set. set)
    cases_keep c may = λ moment set. set

-- ---- a delivery

-- whether one of these packets asks for an acknowledgement
abbrev pub one_asks : List Packet → Bool
one_asks ps = list_any (λ p. list_any asks p.frames) ps

-- the timer was set, or it is set for a packet that came and asks, as far behind the clock as an
-- acknowledgement may wait, where none was waited for, and no acknowledgement was due
abbrev pub SetBy : End → Intake → End → Intake → Type 0
SetBy e i f j = (moment : ℕ) → f.timers.max_ack_delay ≡ Some moment
    → (e.timers.max_ack_delay ≡ Some moment) ⊎ ((moment ≡ ack_due f.frequency.own_delay f.closing.clock) × (one_asks (news i j) ≡ true) × (is_none e.acknowledging.since ≡ true) × (e.acknowledging.due ≡ false))

-- frames leave the timer
pub frames_timer : (fs : List FrameValue) (e : End) → HasTimer e.timers.max_ack_delay (passed fs e).end
frames_timer fs e = frames_keep (HasTimer e.timers.max_ack_delay) (frame_keeps (HasTimer e.timers.max_ack_delay) (record {
  ack = λ rises a x i. acked_keeps (HasTimer e.timers.max_ack_delay) (timer_settles e.timers.max_ack_delay) rises a (named a x) i;
  on_streams = λ f x on i. frame_leaves (HasTimer e.timers.max_ack_delay) f x on (λ t. i);
  apart = λ f x is i. apart_leaves (HasTimer e.timers.max_ack_delay) f x is (λ c. i) (λ c most. i);
  message = λ m x i. i;
})) fs e refl

pub asks_same : (fs : List FrameValue) → asks_in (map Ok fs) ≡ list_any asks fs
asks_same [] = refl
asks_same (f ∷ fs) = ap (λ (b : Bool). asks f || b) (asks_same fs)

-- a number that came is to be acknowledged
one_filled : (runs : List Run) (n : ℕ) → is_filled (with_one runs n) ≡ true
one_filled [] n = refl
one_filled (r ∷ rs) n = go (nat_lt n r.start) (nat_lt n r.end) (n == r.end)
  where
    begins : (start : ℕ) (others : List Run) → is_filled (joined start (n + 1) others) ≡ true
    begins start [] = refl
    begins start (q ∷ qs) = meets_it (n + 1 == q.start)
      where
        meets_it : (b : Bool) → is_filled (cond b (record { start = start; end = q.end } ∷ qs) (record { start = start; end = n + 1 } ∷ q ∷ qs)) ≡ true
        meets_it true = refl
        meets_it false = refl

    go : (a b c : Bool) → is_filled (cond a (joined n (n + 1) (r ∷ rs)) (cond b (r ∷ rs) (cond c (joined r.start (n + 1) rs) (r ∷ with_one rs n)))) ≡ true
    go true b c = begins n (r ∷ rs)
    go false true c = refl
    go false false true = begins r.start rs
    go false false false = refl

most_filled : (runs : List Run) → is_filled runs ≡ true → is_filled (at_most runs) ≡ true
most_filled [] none = cc
most_filled (r ∷ []) some = refl
most_filled (r ∷ q ∷ qs) some = go (nat_lt most_ack_runs (length (r ∷ q ∷ qs)))
  where
    go : (b : Bool) → is_filled (cond b (q ∷ qs) (r ∷ q ∷ qs)) ≡ true
    go true = refl
    go false = refl

-- where no acknowledgement can go and there are numbers, none is due
none_due : (due filled : Bool) → filled ≡ true → not (due && filled) ≡ true → due ≡ false
none_due true true some none = cc
none_due true false some none = cc
none_due false filled some none = refl

-- the timer starts where none was waited for, and no acknowledgement was due
starts_anew : (urged : Bool) (p : Pending) (now n : ℕ) (s : Seen) → starts_wait (asking_counted (with_due urged (after_insert p n now)) n s) ≡ true → (is_none p.since ≡ true) × (p.due ≡ false)
starts_anew urged p now n s starts =
    let noted : Pending = with_due urged (after_insert p n now) in
    let counted : Pending = asking_counted noted n s in
    let parts = and_parts (is_none p.since) (not (can_send counted)) starts in
    let quiet = none_due counted.due (is_filled counted.runs) (most_filled (with_one p.runs n) (one_filled p.runs n)) parts.1 in
    (parts.0, (or_parts p.due urged (or_parts noted.due _ quiet).0).0)

-- what isn't so then wasn't before
was_not : (before after : Bool) → (before ≡ true → after ≡ true) → after ≡ false → before ≡ false
was_not true after stays none = (let clash : true ≡ false = sym (stays refl) ∙ none in cc)
was_not false after stays none = refl

-- a packet sets it only where it asks, and starts it so
taken_set : (e f : End) (n : ℕ) (asking urged : Bool) (mark : Option EcnCodepoint) → f.timers.max_ack_delay ≡ e.timers.max_ack_delay → CountsOn e f → (moment : ℕ) → (after_taken n asking urged mark f).timers.max_ack_delay ≡ Some moment
    → (e.timers.max_ack_delay ≡ Some moment) ⊎ ((moment ≡ ack_due f.frequency.own_delay f.closing.clock) × (asking ≡ true) × (is_none e.acknowledging.since ≡ true) × (e.acknowledging.due ≡ false))
taken_set e f n false urged mark same counts moment set = inl (sym same ∙ set)
taken_set e f n true urged mark same counts moment set = go (starts_wait (asking_counted (with_due urged (after_insert f.acknowledging n f.closing.clock)) n f.numbers.opened)) refl set
  where
    go : (b : Bool) → starts_wait (asking_counted (with_due urged (after_insert f.acknowledging n f.closing.clock)) n f.numbers.opened) ≡ b → (if b then with_ack_timer f.timers (Some (ack_due f.frequency.own_delay f.closing.clock)) else f.timers).max_ack_delay ≡ Some moment
        → (e.timers.max_ack_delay ≡ Some moment) ⊎ ((moment ≡ ack_due f.frequency.own_delay f.closing.clock) × (true ≡ true) × (is_none e.acknowledging.since ≡ true) × (e.acknowledging.due ≡ false))
    go true starts is =
        let due : ack_due f.frequency.own_delay f.closing.clock ≡ moment = cc in
        let anew = starts_anew urged f.acknowledging f.closing.clock n f.numbers.opened starts in
        inr (sym due, refl, ap (λ (o : Option ℕ). is_none o) (sym counts.since) ∙ anew.0, was_not e.acknowledging.due f.acknowledging.due counts.due anew.1)
    go false starts is = inl (sym same ∙ is)

or_false : (b : Bool) → (b || false) ≡ b
or_false true = refl
or_false false = refl

-- each case of a delivery
arrivals_set : (e : End) (now n : ℕ) (frames taken : List FrameValue) (i : Intake) → Arrivals e now n frames taken i (λ (o : Outcome) (j : Intake). SetBy e i o.end j)
arrivals_set e now n frames taken i = record {
  ignored = λ reason moment set. inl set;
  noted = λ state reason moment set. inl set;
  takes = λ words state new none urged mark moment set. all_taken moment (taken_set e (arrived e now n taken).end n (asks_in (map Ok frames)) urged mark (frames_timer taken (begun e now n)) (frames_acks taken (begun e now n)) moment set);
  moves = λ p o spells remote x opened h. by_migrated (λ (y : End). y.frequency ≡ x.frequency → SetBy e i y (with_taken i n frames)) p o remote x (λ c. again x h) (λ c most. again x h) (moved_asks p o remote x);
  drains = λ words state new close is moment set. cc;
  refuses = λ words state new f is moment set. cc;
  exhausts = λ state moment set. cc;
}
  where
    -- so it is where acknowledgements are asked for as before
    again : (x : End) → SetBy e i x (with_taken i n frames) → {f : Frequency} → f ≡ x.frequency → (moment : ℕ) → x.timers.max_ack_delay ≡ Some moment
        → (e.timers.max_ack_delay ≡ Some moment) ⊎ ((moment ≡ ack_due f.own_delay x.closing.clock) × (one_asks (news i (with_taken i n frames)) ≡ true) × (is_none e.acknowledging.since ≡ true) × (e.acknowledging.due ≡ false))
    again x h same moment set = elim (h moment set) [
      | inl was ↦ inl was
      | inr due ↦ inr (due.0 ∙ ap (λ (g : Frequency). ack_due g.own_delay x.closing.clock) (sym same), due.1, due.2, due.3)
    ]

    all_taken : (moment : ℕ) → (e.timers.max_ack_delay ≡ Some moment) ⊎ ((moment ≡ ack_due (arrived e now n taken).end.frequency.own_delay (arrived e now n taken).end.closing.clock) × (asks_in (map Ok frames) ≡ true) × (is_none e.acknowledging.since ≡ true) × (e.acknowledging.due ≡ false))
        → (e.timers.max_ack_delay ≡ Some moment) ⊎ ((moment ≡ ack_due (arrived e now n taken).end.frequency.own_delay (arrived e now n taken).end.closing.clock) × (one_asks (news i (with_taken i n frames)) ≡ true) × (is_none e.acknowledging.since ≡ true) × (e.acknowledging.due ≡ false))
    all_taken moment (inl was) = inl was
    all_taken moment (inr due) = inr (due.0, ap (λ (ps : List Packet). one_asks ps) (one_new i n frames) ∙ or_false (list_any asks frames) ∙ sym (asks_same frames) ∙ due.1, due.2, due.3)

-- so it is behind any call
pub call_set : (x y : Party) (call : Call) (a : Answer) → Calls Observed x y call a → SetBy x.end (came_to x y) (called x y.given call a).end (came_to (called x y.given call a) y)
call_set x y call a c = by_coming x y a c.joined c.served (meets y x c.takes.0) (SetBy x.end (came_to x y)) call c.answer (record {
  apart = λ apart moment set. inl (call_none x.policy x.end y.given call a apart moment set);
  none = λ delivery is moment set. inl set;
  comes = λ delivery is s among here. arrivals_set x.end delivery.now s.number s.frames (taken_at here s.frames) (came_to x y);
})

-- ---- the observer's deadlines

-- nothing came to an end that gives these datagrams in all, was made at a moment for a peer at this
-- address, and knows this of the round trip
abbrev pub debt_first : List (List ℕ) → ℕ → ℕ → Rtt → ℕ → Debt
debt_first final start remote first_rtt initial_delay = first_debt (first_watch final start remote first_rtt initial_delay)

-- what the observer of x knows
abbrev pub debt_of : Party → Party → Debt
debt_of x y = folded (debt_told (lens x y)) x.told (debt_first x.final x.began x.made.path.remote x.first_rtt x.initial_delay)

-- the watch within the debt is the observer's
pub owed_watch : (l : Lens) (told : List Told) (d : Debt) → (folded (debt_told l) told d).watch ≡ folded (watch_told l) told d.watch
owed_watch l [] d = refl
owed_watch l (t ∷ told) d = owed_watch l told (debt_told l t d)
