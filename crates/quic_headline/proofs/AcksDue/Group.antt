-- Where the observer of an open end finds that an ACK frame is due, the end does: each call keeps
-- that.
use Rattle.std.proofs.Common.{◌≡◌, ℕ, ◌-◌, ◌*◌, ◌^◌, ◌<◌, ◌≤◌, ◌⊎◌, Bool, true, false, ◌&&◌, ◌||◌, min, List, [], ◌∷◌, ◌++◌, Option, Some, None, refl, sym, ap, ◌∙◌, subst, inl, inr, arith}
use Rattle.std.specs.Prelude.{if◌then◌else◌}
use Rattle.std.specs.Option.{is_some}
use Rattle.std.proofs.lemmas.Bool.{or_cases, and_parts, leb-true}
use Rattle.quic_wire_core.specs.Varint.{Spells}
use Rattle.quic_wire.specs.Value.{FrameValue, AckFrequencyValue, ack_frequency}
use Rattle.quic_wire.specs.Grammar.{IsForm, Payload}
use Rattle.quic_recovery_core.specs.DuplicateRuns.{seen_after}
use Rattle.quic_recovery_core.specs.PendingAcks.{Pending}
use Rattle.quic_spaces.specs.Numbers.{Numbers}
use Rattle.quic_machine.specs.declared.answers.State.{State}
use Rattle.quic_machine.specs.declared.answers.State.TheVariants as states
use Rattle.quic_machine.specs.declared.run.Call.{Call}
use Rattle.quic_machine.specs.declared.run.Call.TheVariants as calls
use Rattle.quic_machine.specs.declared.run.Answer.{Answer}
use Rattle.quic_machine.specs.Machine.{after_call}
use Rattle.quic_machine.specs.CallCases.{is_delivery}
use Rattle.quic_headline.specs.Runs.{Told, Packet, Intake, In, folded}
use Rattle.quic_headline.specs.Requested.{Requested, is_newer, requested_after, requested_by, requested}
use Rattle.quic_headline.specs.Observer.{Sent, Watch, first_watch, news, is_past, is_timely, Lens}
use Rattle.quic_headline.specs.Moments.{acknowledges, went, Debt, debt_told, first_debt, first_deadline}
use Rattle.quic_headline.specs.Rest.{Unanswered, asking_among, unanswered_told, none_unanswered}
use Rattle.quic_headline.specs.AcksDue.{latest_asking, one_hastens, are_some, waits_out, Haste, haste_told, no_haste}
use Rattle.quic_headline.proofs.Packets.Invariant.{KnowsIn, IsSent}
use Rattle.quic_headline.proofs.Packets.Growth.{step_of}
use Rattle.quic_headline.proofs.Packets.Intakes.{folded_more}
use Rattle.quic_headline.proofs.Packets.Group.{PacketsHold, meets}
use Rattle.quic_headline.proofs.Places.Parties.{sents_by, told_of, Party, called, came_to, lens, watch_of}
use Rattle.quic_headline.proofs.Places.Groups.{Way, And, Calls, Group}
use Rattle.quic_headline.proofs.Places.Coming.{by_coming}
use Rattle.quic_headline.proofs.Timers.Still.{was_open}
use Rattle.quic_headline.proofs.Timers.Watched.{Observed, watch_behind, went_behind, came_before, came_behind, watched_behind}
use Rattle.quic_headline.proofs.Timers.AckMoments.{call_answered, debt_of}
use Rattle.quic_headline.proofs.Timers.FirstDue.{Indebted}
use Rattle.quic_headline.proofs.Rest.Standing.{call_leaves, call_stands}
use Rattle.quic_headline.proofs.Rest.Unanswered.{unanswered_of, watch_within, packets_told, Answers}
use Rattle.quic_headline.proofs.AcksDue.Rules.{Rule}
use Rattle.quic_headline.proofs.AcksDue.Gaps.{took_came}
use Rattle.quic_headline.proofs.AcksDue.Arrivals.{IsPressed, Counts, Presses, PressesOpen, Pressing, none_presses, arrivals_press}
use Rattle.quic_headline.proofs.AcksDue.Urging.{urged_by, urged_told}
use Rattle.quic_headline.proofs.AcksDue.Marked.{urged_due}
use Rattle.quic_headline.proofs.AcksDue.Waits.{Punctual, timeout_later}

-- what observers know, what isn't answered, and how long it waits
abbrev pub Waiting : Way
Waiting = And Observed (And Answers Indebted)

-- ---- the observer

-- what the observer of x finds due
abbrev pub haste_of : Party → Party → Haste
haste_of x y = folded (haste_told (lens x y)) x.told (no_haste (first_watch x.final x.began x.made.path.remote x.first_rtt x.initial_delay))

-- what isn't answered within it is what isn't
same_known : (l : Lens) (told : List Told) (h : Haste) → (folded (haste_told l) told h).known ≡ folded (unanswered_told l) told h.known
same_known l [] h = refl
same_known l (t ∷ told) h = same_known l told (haste_told l t h)

-- so it is of when it came
same_debt : (l : Lens) (told : List Told) (h : Haste) → (folded (haste_told l) told h).debt ≡ folded (debt_told l) told h.debt
same_debt l [] h = refl
same_debt l (t ∷ told) h = same_debt l told (haste_told l t h)

-- whether an ACK frame is due behind a call, where one goes at it or doesn't, where it was due
-- before, where a packet is urged by its mark or none is, between these intakes, and where this was
-- the greatest number of those that ask as the last one went, and these wait behind it, until then,
-- at this clock
abbrev pub due_if : Told → Bool → Bool → Bool → Option ℕ → Intake → Intake → List Packet → List ℕ → ℕ → Bool
due_if t goes was urged acked i j waiting deadlines clock = if goes then false else was || (one_hastens acked i j waiting || ((urged && are_some waiting) || waits_out t deadlines clock))

module _ (x y : Party) (call : Call) (a : Answer) (c : Calls Waiting x y call a) where
  -- what is known of the packets before the call, and behind it
  abbrev observed : Calls Observed x y call a
  observed = record {
    joined = c.joined;
    answer = c.answer;
    served = c.served;
    uses = c.uses;
    codes = c.codes;
    joined_behind = c.joined_behind;
    gives = c.gives.0;
    takes = c.takes.0;
    gives_behind = c.gives_behind.0;
    takes_behind = c.takes_behind.0;
  }

  abbrev before : Unanswered
  before = unanswered_of x y

  abbrev behind : Unanswered
  behind = unanswered_of (called x y.given call a) y

  -- what the call tells
  abbrev told : Told
  told = told_of call a x.end.closing.state

  known_before : (haste_of x y).known ≡ before
  known_before = same_known (lens x y) x.told (no_haste (first_watch x.final x.began x.made.path.remote x.first_rtt x.initial_delay))

  debt_before : (haste_of x y).debt ≡ debt_of x y
  debt_before = same_debt (lens x y) x.told (no_haste (first_watch x.final x.began x.made.path.remote x.first_rtt x.initial_delay))

  pub watched : before.watch ≡ watch_of x y
  watched = watch_within x y call a observed

  -- the observer behind the call
  abbrev pub after : Watch
  after = watch_behind x y call a observed before.watch watched

  -- what the observer of x finds behind the call, by what it knew
  haste_told_is : haste_of (called x y.given call a) y ≡ haste_told (lens x y) told (record { known = before; debt = debt_of x y; due = (haste_of x y).due; acked = (haste_of x y).acked })
  haste_told_is =
      let due : Bool = (haste_of x y).due in
      let acked : Option ℕ = (haste_of x y).acked in
      folded_more (haste_told (lens x y)) x.told told (no_haste (first_watch x.final x.began x.made.path.remote x.first_rtt x.initial_delay))
      ∙ ap (λ (u : Unanswered). haste_told (lens x y) told (record { known = u; debt = (haste_of x y).debt; due = due; acked = acked })) known_before
      ∙ ap (λ (d : Debt). haste_told (lens x y) told (record { known = before; debt = d; due = due; acked = acked })) debt_before

  -- whether the observer finds a packet urged by its mark
  abbrev pub urged : Bool
  urged = urged_by x y call a (came_to (called x y.given call a) y)

  -- what is due behind the call
  pub due_told : (haste_of (called x y.given call a) y).due
      ≡ due_if told (acknowledges (sents_by x.policy x.end call a)) (haste_of x y).due urged (haste_of x y).acked (came_to x y) (came_to (called x y.given call a) y) behind.packets (debt_of (called x y.given call a) y).deadlines after.clock
  due_told =
      let first : Watch = first_watch x.final x.began x.made.path.remote x.first_rtt x.initial_delay in
      let due : Bool = (haste_of x y).due in
      let acked : Option ℕ = (haste_of x y).acked in
      let unanswered : Unanswered = unanswered_told (lens x y) told before in
      let debt : Debt = debt_told (lens x y) told (debt_of x y) in
      let same : behind ≡ unanswered = folded_more (unanswered_told (lens x y)) x.told told (none_unanswered first) in
      let same_moments : debt_of (called x y.given call a) y ≡ debt = folded_more (debt_told (lens x y)) x.told told (first_debt first) in
      ap (λ (h : Haste). h.due) haste_told_is
      ∙ ap (λ (b : Bool). due_if told (acknowledges (went before.watch after)) due b acked before.watch.intake after.intake unanswered.packets debt.deadlines after.clock) (urged_told x y call a observed before.watch watched)
      ∙ ap (λ (ss : List Sent). due_if told (acknowledges ss) due urged acked before.watch.intake after.intake unanswered.packets debt.deadlines after.clock) (went_behind x y call a observed before.watch watched)
      ∙ ap (λ (i : Intake). due_if told (acknowledges (sents_by x.policy x.end call a)) due urged acked i after.intake unanswered.packets debt.deadlines after.clock) (came_before x y call a observed before.watch watched)
      ∙ ap (λ (j : Intake). due_if told (acknowledges (sents_by x.policy x.end call a)) due urged acked (came_to x y) j unanswered.packets debt.deadlines after.clock) (came_behind x y call a observed before.watch watched)
      ∙ ap (λ (u : Unanswered). due_if told (acknowledges (sents_by x.policy x.end call a)) due urged acked (came_to x y) (came_to (called x y.given call a) y) u.packets debt.deadlines after.clock) (sym same)
      ∙ ap (λ (d : Debt). due_if told (acknowledges (sents_by x.policy x.end call a)) due urged acked (came_to x y) (came_to (called x y.given call a) y) behind.packets d.deadlines after.clock) (sym same_moments)

  -- and the greatest number of those that ask, as the last ACK frame went
  acked_told : (haste_of (called x y.given call a) y).acked ≡ (if acknowledges (sents_by x.policy x.end call a) then latest_asking (came_to (called x y.given call a) y).took else (haste_of x y).acked)
  acked_told =
      ap (λ (h : Haste). h.acked) haste_told_is
      ∙ ap (λ (ss : List Sent). if acknowledges ss then latest_asking after.intake.took else (haste_of x y).acked) (went_behind x y call a observed before.watch watched)
      ∙ ap (λ (j : Intake). if acknowledges (sents_by x.policy x.end call a) then latest_asking j.took else (haste_of x y).acked) (came_behind x y call a observed before.watch watched)

  -- it has the clock of an open end
  pub clock_there : (called x y.given call a).end.closing.state ≡ states.Open → after.clock ≡ (called x y.given call a).end.closing.clock
  clock_there opened = ((watched_behind x y call a observed before.watch watched).flight opened).tells.clock

-- ---- how often frames ask for acknowledgements

-- each of these numbers of packets that may wait is one that a frame says
abbrev AreSmall : List FrameValue → Type 0
AreSmall fs = (f : AckFrequencyValue) → In (ack_frequency f) fs → f.threshold < 2 ^ 62

spelled_small : (v : ℕ) (bytes : List ℕ) → Spells v bytes → v < 2 ^ 62
spelled_small v bytes (inl one) = (let less : v < 2 ^ 6 = one.0 in omega arith)
spelled_small v bytes (inr (inl two)) = (let less : v < 2 ^ 14 = two.0 in omega arith)
spelled_small v bytes (inr (inr (inl four))) = (let less : v < 2 ^ 30 = four.0 in omega arith)
spelled_small v bytes (inr (inr (inr eight))) = (let less : v < 2 ^ 62 = eight.0 in less)

form_small : (f : AckFrequencyValue) (bytes rest : List ℕ) → IsForm (ack_frequency f) bytes rest → f.threshold < 2 ^ 62
form_small f bytes rest form = (let behind = form.3.3 in spelled_small f.threshold behind.0 behind.2)

payload_small : (fs : List FrameValue) (bytes : List ℕ) → Payload fs bytes → AreSmall fs
payload_small [] bytes spells f among = absurd among
payload_small (g ∷ fs) bytes spells f (inl is) = form_small f spells.0 spells.1 (subst (λ (h : FrameValue). IsForm h spells.0 spells.1) (sym is) spells.2)
payload_small (g ∷ fs) bytes spells f (inr more) = payload_small fs spells.1 spells.3 f more

-- what these frames ask for lets no more wait
asked_small : (fs : List FrameValue) (r : Requested) → AreSmall fs → r.threshold < 2 ^ 62 → (requested_by fs r).threshold < 2 ^ 62
asked_small [] r all small = small
asked_small (ack_frequency f ∷ fs) r all small = asked_small fs (requested_after r f) (λ g among. all g (inr among)) (one (is_newer r.last f.sequence))
  where
    one : (b : Bool) → (if b then record { last = Some f.sequence; delay = min (f.delay * 1000) (2 ^ 64 - 1); threshold = f.threshold; reordering = f.reordering } else r).threshold < 2 ^ 62
    one true = all f (inl refl)
    one false = small
asked_small (g ∷ fs) r all small = asked_small fs r (λ f among. all f (inr among)) small

taken_small : (packets : List Packet) → ((p : Packet) → In p packets → AreSmall p.frames) → (requested packets).threshold < 2 ^ 62
taken_small [] all = omega arith
taken_small (p ∷ ps) all = asked_small p.frames (requested ps) (all p (inl refl)) (taken_small ps (λ q among. all q (inr among)))

-- so it is of the packets that x took of y
small_of : (x y : Party) → PacketsHold y x → (requested (came_to x y).took).threshold < 2 ^ 62
small_of x y packets = taken_small (came_to x y).took each
  where
    each : (p : Packet) → In p (came_to x y).took → AreSmall p.frames
    each p among =
        let was = packets.taken p among in
        let given = step_of (IsSent y.policy) y.sents y.given was.sent packets.gives.each was.is.0 in
        subst AreSmall was.frames (payload_small was.sent.frames given.1.payload given.1.spells)

-- ---- the group

-- While x is open, it counts the packets that ask and aren't answered; it knows what its observer
-- does of the last ACK frame; and an acknowledgement is due at it where its observer finds that one
-- is.
pub record Hastes (x y : Party) : Type 0 where
  pub counted : x.end.closing.state ≡ states.Open → Counts x.end.acknowledging.asking (unanswered_of x y).packets
  pub last : x.end.closing.state ≡ states.Open → x.end.acknowledging.acked ≡ (haste_of x y).acked
  pub due : x.end.closing.state ≡ states.Open → (haste_of x y).due ≡ true → IsPressed x.end.acknowledging

-- an open end tells apart the numbers that came
seen_open : (s : State) (numbers : Numbers) (i : Intake) → KnowsIn s numbers i → s ≡ states.Open → numbers.opened ≡ seen_after i.opened
seen_open states.Open numbers i k is = k.seen
seen_open states.Closing numbers i k is = cc
seen_open states.Drained numbers i k is = cc
seen_open states.Failed numbers i k is = cc

-- the first of some
first_some : (ps : List Packet) → are_some ps ≡ true → (p : Packet) × In p ps
first_some [] some = cc
first_some (p ∷ ps) some = (p, inl refl)

-- what is known of an open end before a packet comes
pub pressing : (x y : Party) → Waiting x y → Waiting y x → Hastes x y → x.end.closing.state ≡ states.Open → Pressing x.end (haste_of x y).acked (came_to x y) (unanswered_of x y).packets
pressing x y gives takes h opened = record {
  rules = gives.1.1.0.0.rules opened;
  last = h.last opened;
  counted = h.counted opened;
  seen = seen_open x.end.closing.state x.end.numbers (came_to x y) takes.0.0.knows opened;
  came = took_came x y;
}

-- what is due behind a call that gives no ACK frame
press_step : (x y : Party) (call : Call) (a : Answer) → Calls Waiting x y call a → Hastes x y → acknowledges (sents_by x.policy x.end call a) ≡ false
    → PressesOpen x.end.acknowledging (haste_of x y).acked (came_to x y) (unanswered_of x y).packets (called x y.given call a).end (came_to (called x y.given call a) y)
press_step x y call a c h none = by_coming x y a c.joined c.served (meets y x c.takes.0.0) (PressesOpen x.end.acknowledging acked (came_to x y) ps) call c.answer (record {
  apart = λ apart small opened. quiet apart (was_open x.policy x.end y.given call a opened);
  none = λ delivery is small opened. none_presses x.end.acknowledging x.end.acknowledging acked (came_to x y) ps (λ was. was) (h.counted opened) refl;
  comes = λ delivery is s among here. arrivals_press x.end delivery.now s.number s.frames here (came_to x y) ps acked (pressing x y c.gives c.takes h);
})
  where
    acked : Option ℕ
    acked = (haste_of x y).acked

    ps : List Packet
    ps = (unanswered_of x y).packets

    quiet : is_delivery call ≡ false → x.end.closing.state ≡ states.Open → Presses x.end.acknowledging acked (came_to x y) ps (after_call x.policy x.end y.given call a).acknowledging (came_to x y)
    quiet apart opened =
        let s = call_stands x.policy x.end y.given call a apart c.answer c.served none in
        none_presses x.end.acknowledging (after_call x.policy x.end y.given call a).acknowledging acked (came_to x y) ps
        (λ was. (s.1 was.1 was.0, subst (λ (k : ℕ). 0 < k) (sym s.0) was.1))
        (subst (λ (k : ℕ). Counts k ps) (sym s.0) (h.counted opened))
        (call_leaves (λ (q : Pending). q.acked ≡ x.end.acknowledging.acked) x.end refl refl refl x.policy y.given call a apart c.answer c.served none)

-- where a timeout finds that the first deadline has come
out_is : (t : Told) (deadlines : List ℕ) (clock : ℕ) → waits_out t deadlines clock ≡ true → (is_timely t.state t.call ≡ true) × ((deadline : ℕ) × (first_deadline deadlines ≡ Some deadline) × (deadline ≤ clock))
out_is t deadlines clock is =
    let parts = and_parts (is_timely t.state t.call) (is_past (first_deadline deadlines) clock) is in
    (parts.0, one (first_deadline deadlines) refl parts.1)
  where
    one : (o : Option ℕ) → first_deadline deadlines ≡ o → is_past o clock ≡ true → (deadline : ℕ) × (first_deadline deadlines ≡ Some deadline) × (deadline ≤ clock)
    one None first past = cc
    one (Some deadline) first past = (deadline, first, leb-true deadline clock past)

-- the first deadline is one of them
pub first_in : (deadlines : List ℕ) (deadline : ℕ) → first_deadline deadlines ≡ Some deadline → In deadline deadlines
first_in [] deadline is = cc
first_in (d ∷ []) deadline is = inl (let same : d ≡ deadline = cc in sym same)
first_in (later ∷ d ∷ deadlines) deadline is = inr (first_in (d ∷ deadlines) deadline is)

-- a timer that is set behind a timeout is set to a later moment
timer_later : (x y : Party) (call : Call) (a : Answer) → is_timely x.end.closing.state call ≡ true → (moment : ℕ) → (called x y.given call a).end.timers.max_ack_delay ≡ Some moment → (called x y.given call a).end.closing.clock < moment
timer_later x y call a timely moment set = go x.end.closing.state call refl timely set
  where
    go : (s : State) (call : Call) → x.end.closing.state ≡ s → is_timely s call ≡ true → (called x y.given call a).end.timers.max_ack_delay ≡ Some moment → (called x y.given call a).end.closing.clock < moment
    go states.Open (calls.Timeout now) opened timely set = timeout_later x.policy x.end y.given now a moment opened set
    go states.Open call opened timely set = cc
    go states.Closing call state timely set = cc
    go states.Drained call state timely set = cc
    go states.Failed call state timely set = cc

-- a timer that is set
moment_of : (o : Option ℕ) → is_some o ≡ true → (moment : ℕ) × (o ≡ Some moment)
moment_of None some = cc
moment_of (Some moment) some = (moment, refl)

-- so what waited so long is due
out_due : (x y : Party) (call : Call) (a : Answer) → Indebted (called x y.given call a) y → (called x y.given call a).end.closing.state ≡ states.Open → is_timely x.end.closing.state call ≡ true
    → (deadline : ℕ) → first_deadline (debt_of (called x y.given call a) y).deadlines ≡ Some deadline → deadline ≤ (called x y.given call a).end.closing.clock → IsPressed (called x y.given call a).end.acknowledging
out_due x y call a i opened timely deadline first late = (elim ((punctual.awaited opened).waits counted) [ inl due ↦ due | inr set ↦ absurd (not_set (moment_of next.end.timers.max_ack_delay set)) ], counted)
  where
    next : Party
    next = called x y.given call a

    punctual : Punctual next y
    punctual = i.0.1

    counted : 0 < next.end.acknowledging.asking
    counted = punctual.counted opened deadline (first_in (debt_of next y).deadlines deadline first)

    not_set : (moment : ℕ) × (next.end.timers.max_ack_delay ≡ Some moment) → ⊥
    not_set found =
        let over = timer_later x y call a timely found.0 found.1 in
        let owed : first_deadline (debt_of next y).deadlines ≡ Some found.0 = i.1.owes opened found.0 found.1 in
        let same : Some deadline ≡ Some found.0 = sym first ∙ owed in
        let is : deadline ≡ found.0 = cc in
        absurd (omega arith)

hastes_step : (x y : Party) (call : Call) (a : Answer) → Calls Waiting x y call a → Hastes x y → Hastes (called x y.given call a) y
hastes_step x y call a c h = record {
  counted = λ opened. counts_by (acknowledges (sents_by x.policy x.end call a)) refl opened;
  last = λ opened. last_by (acknowledges (sents_by x.policy x.end call a)) refl opened;
  due = λ opened is. by_acks (acknowledges (sents_by x.policy x.end call a)) refl opened (sym (due_told x y call a c) ∙ is);
}
  where
    next : Party
    next = called x y.given call a

    t : Told
    t = told_of call a x.end.closing.state

    i : Intake
    i = came_to x y

    j : Intake
    j = came_to next y

    waiting : List Packet
    waiting = (unanswered_of next y).packets

    deadlines : List ℕ
    deadlines = (debt_of next y).deadlines

    acked : Option ℕ
    acked = (haste_of x y).acked

    ps : List Packet
    ps = (unanswered_of x y).packets

    -- what is known where no ACK frame goes
    presses : acknowledges (sents_by x.policy x.end call a) ≡ false → next.end.closing.state ≡ states.Open → Presses x.end.acknowledging acked i ps next.end.acknowledging j
    presses none opened = press_step x y call a c h none (small_of next y c.takes_behind.0.0) opened

    -- the packets that wait behind the call
    waiting_by : (b : Bool) → acknowledges (sents_by x.policy x.end call a) ≡ b → waiting ≡ (if b then [] else asking_among (news i j) ++ ps)
    waiting_by b is = packets_told x y call a (observed x y call a c) ∙ ap (λ (b : Bool). if b then [] else asking_among (news i j) ++ ps) is

    -- they are counted
    counts_by : (b : Bool) → acknowledges (sents_by x.policy x.end call a) ≡ b → next.end.closing.state ≡ states.Open → Counts next.end.acknowledging.asking waiting
    counts_by true some opened =
        let none = call_answered (λ (q : Pending) (o : Option ℕ). q.asking ≡ 0) (λ q. refl) x.policy x.end y.given call a c.gives.0.0.owes c.answer c.served some in
        subst (λ (qs : List Packet). Counts next.end.acknowledging.asking qs) (sym (waiting_by true some)) (omega (arith, none))
    counts_by false none opened = subst (λ (qs : List Packet). Counts next.end.acknowledging.asking qs) (sym (waiting_by false none)) (presses none opened).counted

    -- an ACK frame goes for all that came
    last_by : (b : Bool) → acknowledges (sents_by x.policy x.end call a) ≡ b → next.end.closing.state ≡ states.Open → next.end.acknowledging.acked ≡ (haste_of next y).acked
    last_by true some opened =
        call_answered (λ (q : Pending) (o : Option ℕ). q.acked ≡ q.greatest) (λ q. refl) x.policy x.end y.given call a c.gives.0.0.owes c.answer c.served some
        ∙ ap (λ (r : Rule). r.greatest) (c.gives_behind.1.1.0.0.rules opened)
        ∙ sym (acked_told x y call a c ∙ ap (λ (b : Bool). if b then latest_asking j.took else acked) some)
    last_by false none opened = (presses none opened).last ∙ h.last (was_open x.policy x.end y.given call a opened) ∙ sym (acked_told x y call a c ∙ ap (λ (b : Bool). if b then latest_asking j.took else acked) none)

    clock : ℕ
    clock = (after x y call a c).clock

    -- a packet hastens it
    by_packet : acknowledges (sents_by x.policy x.end call a) ≡ false → next.end.closing.state ≡ states.Open → one_hastens acked i j waiting ≡ true → IsPressed next.end.acknowledging
    by_packet none opened hastens = (presses none opened).hastens (ap (λ (qs : List Packet). one_hastens acked i j qs) (sym (waiting_by false none)) ∙ hastens)

    -- it is urged by its mark
    by_mark : next.end.closing.state ≡ states.Open → (urged x y call a c && are_some waiting) ≡ true → IsPressed next.end.acknowledging
    by_mark opened marked =
        let parts = and_parts (urged x y call a c) (are_some waiting) marked in
        let first = first_some waiting parts.1 in
        (urged_due x y call a (observed x y call a c) parts.0 opened, (c.gives_behind.1.0.owes opened first.0 first.1).counted)

    -- one has waited
    by_wait : next.end.closing.state ≡ states.Open → waits_out t deadlines clock ≡ true → IsPressed next.end.acknowledging
    by_wait opened out =
        let found = out_is t deadlines clock out in
        let late : found.1.0 ≤ next.end.closing.clock = subst (λ (k : ℕ). found.1.0 ≤ k) (clock_there x y call a c opened) found.1.2 in
        out_due x y call a c.gives_behind.1.1 opened found.0 found.1.0 found.1.1 late

    by_cause : acknowledges (sents_by x.policy x.end call a) ≡ false → next.end.closing.state ≡ states.Open
        → ((haste_of x y).due ≡ true) ⊎ ((one_hastens acked i j waiting || ((urged x y call a c && are_some waiting) || waits_out t deadlines clock)) ≡ true) → IsPressed next.end.acknowledging
    by_cause none opened (inl was) = (presses none opened).on (h.due (was_open x.policy x.end y.given call a opened) was)
    by_cause none opened (inr more) = elim (or_cases (one_hastens acked i j waiting) ((urged x y call a c && are_some waiting) || waits_out t deadlines clock) more) [
      | inl hastens ↦ by_packet none opened hastens
      | inr others ↦ elim (or_cases (urged x y call a c && are_some waiting) (waits_out t deadlines clock) others) [ inl marked ↦ by_mark opened marked | inr out ↦ by_wait opened out ]
    ]

    by_acks : (b : Bool) → acknowledges (sents_by x.policy x.end call a) ≡ b → next.end.closing.state ≡ states.Open → due_if t b (haste_of x y).due (urged x y call a c) acked i j waiting deadlines clock ≡ true → IsPressed next.end.acknowledging
    by_acks true some opened is = cc
    by_acks false none opened is = by_cause none opened (or_cases (haste_of x y).due (one_hastens acked i j waiting || ((urged x y call a c && are_some waiting) || waits_out t deadlines clock)) is)

-- over what observers know, what isn't answered, and how long it waits
pub hastes_group : Group Waiting Hastes
hastes_group = record {
  first = λ x y m there here. record { counted = λ opened. omega arith; last = λ opened. refl; due = λ opened is. cc };
  writer = λ x y call a c h back. hastes_step x y call a c h;
  reader = λ x y call a c h back. record { counted = back.counted; last = back.last; due = back.due };
  shows = λ x y here there b back h others. record { counted = h.counted; last = h.last; due = h.due };
}
