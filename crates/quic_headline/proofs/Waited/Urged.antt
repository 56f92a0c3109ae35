-- An acknowledgement is due at an open end only where its observer finds an ACK frame wanted: one
-- is due for packets that ask, a packet was urged by its mark, or many came that don't ask.
-- Each call keeps that.
use Rattle.std.proofs.Common.{◌≡◌, ℕ, ◌≤◌, ◌⊎◌, max, Bool, true, false, ◌||◌, ◌&&◌, List, [], ◌++◌, Option, refl, sym, ap, ◌∙◌, inl, inr, arith}
use Rattle.std.specs.Prelude.{if◌then◌else◌, nat_lt}
use Rattle.std.proofs.lemmas.Bool.{and_parts, and_from, or_cases, or_left, or_right, both_ways, lt-ltb, ltb-true}
use Rattle.quic_recovery_core.specs.PendingAcks.{Pending, lazy_threshold}
use Rattle.quic_machine.specs.declared.answers.State.{State}
use Rattle.quic_machine.specs.declared.answers.State.TheVariants as states
use Rattle.quic_machine.specs.declared.run.Call.{Call}
use Rattle.quic_machine.specs.declared.run.Call.TheVariants as calls
use Rattle.quic_machine.specs.declared.run.Answer.{Answer}
use Rattle.quic_machine.specs.Closing.{Closing}
use Rattle.quic_machine.specs.Calls.{closed_in}
use Rattle.quic_machine.specs.End.{End}
use Rattle.quic_machine.specs.CallCases.{is_delivery, is_poll, by_done}
use Rattle.quic_machine.specs.InjectionCases.{by_injection}
use Rattle.quic_machine.specs.LeaveCases.{by_event}
use Rattle.quic_machine.specs.Machine.{says_last}
use Rattle.quic_headline.specs.Runs.{Told, Packet, Intake}
use Rattle.quic_headline.specs.Observer.{news, is_past, is_timely}
use Rattle.quic_headline.specs.Moments.{acknowledges, deadlines_of, first_deadline}
use Rattle.quic_headline.specs.Rest.{asking_among}
use Rattle.quic_headline.specs.AcksDue.{one_hastens, takes_urged, are_some, waits_out, Haste}
use Rattle.quic_headline.specs.Waited.{count_silent, may_come, Wants}
use Rattle.quic_headline.proofs.Packets.Apart.{next_acks}
use Rattle.quic_headline.proofs.Packets.Intakes.{none_handed}
use Rattle.quic_headline.proofs.Packets.Watching.{none_new}
use Rattle.quic_headline.proofs.Packets.Group.{meets}
use Rattle.quic_headline.proofs.Places.Parties.{sents_by, told_of, Party, called, came_to}
use Rattle.quic_headline.proofs.Places.Groups.{Way, And, Calls, Group, both, beside, less_calls}
use Rattle.quic_headline.proofs.Places.Coming.{came_same, by_coming_with}
use Rattle.quic_headline.proofs.Timers.Still.{was_open}
use Rattle.quic_headline.proofs.Timers.Watched.{Observed, watch_behind}
use Rattle.quic_headline.proofs.Timers.AckMoments.{call_answered, debt_of}
use Rattle.quic_headline.proofs.Timers.FirstDue.{Indebted, debt_group}
use Rattle.quic_headline.proofs.Rest.Unanswered.{unanswered_of, packets_told, Answers, answers_group}
use Rattle.quic_headline.proofs.AcksDue.Urging.{urged_by, urged_told, urged_taken}
use Rattle.quic_headline.proofs.AcksDue.Arrivals.{DueOf, arrivals_due}
use Rattle.quic_headline.proofs.AcksDue.Waits.{deadlines_if, deadlines_told}
use Rattle.quic_headline.proofs.AcksDue.Group.{Waiting, haste_of, due_if, urged, due_told, clock_there, after, Hastes, pressing, hastes_group}
use Rattle.quic_headline.proofs.Waited.Alive.{timed}
use Rattle.quic_headline.proofs.Waited.Group.{silent_more, wants_of, wants_watch, wants_next, Wanting, wanting_group}
use Rattle.quic_headline.proofs.Begins.Acks.{timeout_due, polled_due}

-- what isn't answered, what is due for it, and what is wanted
abbrev pub Hasting : Way
Hasting = And (And (And Answers Indebted) Hastes) Wanting

abbrev pub Urging : Way
Urging = And Observed Hasting

-- whether an ACK frame is wanted, by what an observer finds due and wanted
abbrev pub is_wanted : Haste → Wants → Bool
is_wanted h w = h.due || (w.marked || nat_lt may_come (count_silent w.packets))

module _ (x y : Party) (call : Call) (a : Answer) (c : Calls Urging x y call a) where
  -- what holds of the packets, and of what waits
  abbrev observed : Calls Observed x y call a
  observed = less_calls Urging Observed (λ z v h. h.0) x y call a c

  abbrev waiting : Calls Waiting x y call a
  waiting = less_calls Urging Waiting (λ z v h. (h.0, h.1.0.0)) x y call a c

  abbrev next : Party
  next = called x y.given call a

  abbrev t : Told
  t = told_of call a x.end.closing.state

  abbrev i : Intake
  i = came_to x y

  abbrev j : Intake
  j = came_to next y

  abbrev acked : Option ℕ
  acked = (haste_of x y).acked

  abbrev ps : List Packet
  ps = (unanswered_of x y).packets

  abbrev packets : List Packet
  packets = (unanswered_of next y).packets

  abbrev deadlines : List ℕ
  deadlines = (debt_of next y).deadlines

  abbrev clock : ℕ
  clock = (after x y call a waiting).clock

  -- what the observer finds due anew
  abbrev anew : Bool
  anew = one_hastens acked i j packets || ((urged x y call a waiting && are_some packets) || waits_out t deadlines clock)

  -- it finds one due behind a call that gives no ACK frame where it did, or does anew
  haste_then : acknowledges (sents_by x.policy x.end call a) ≡ false → ((haste_of x y).due || anew) ≡ true → (haste_of next y).due ≡ true
  haste_then none is = due_told x y call a waiting ∙ ap (λ (b : Bool). due_if t b (haste_of x y).due (urged x y call a waiting) acked i j packets deadlines clock) none ∙ is

  -- the packets that wait
  packets_then : acknowledges (sents_by x.policy x.end call a) ≡ false → packets ≡ asking_among (news i j) ++ ps
  packets_then none = packets_told x y call a observed ∙ ap (λ (b : Bool). if b then [] else asking_among (news i j) ++ ps) none

  module _ (opened : next.end.closing.state ≡ states.Open) where
    was : x.end.closing.state ≡ states.Open
    was = was_open x.policy x.end y.given call a opened

    -- a packet was urged by its mark where one was, or is
    marked_then : acknowledges (sents_by x.policy x.end call a) ≡ false → (urged_by x y call a j || (wants_of x y).marked) ≡ true → (wants_of next y).marked ≡ true
    marked_then none is =
        ap (λ (w : Wants). w.marked) (wants_next x y call a observed opened (c.gives.1.1.wanted was))
        ∙ ap (λ (b : Bool). if b then false else urged_here || (wants_of x y).marked) none
        ∙ ap (λ (b : Bool). b || (wants_of x y).marked) (urged_told x y call a observed (wants_of x y).watch (wants_watch x y))
        ∙ is
      where
        -- as it is found within what is wanted
        urged_here : Bool
        urged_here = takes_urged t (wants_of x y).watch (watch_behind x y call a observed (wants_of x y).watch (wants_watch x y))

    -- and as many came that don't ask, or more
    silent_then : acknowledges (sents_by x.policy x.end call a) ≡ false → count_silent (wants_of x y).packets ≤ count_silent (wants_of next y).packets
    silent_then none =
        let same : (wants_of next y).packets ≡ news i j ++ (wants_of x y).packets = ap (λ (w : Wants). w.packets) (wants_next x y call a observed opened (c.gives.1.1.wanted was)) ∙ ap (λ (b : Bool). if b then [] else news i j ++ (wants_of x y).packets) none in
        let more = silent_more (news i j) (wants_of x y).packets in
        let counts : count_silent (wants_of next y).packets ≡ count_silent (news i j ++ (wants_of x y).packets) = ap count_silent same in
        omega arith

-- what makes one due behind a call: the observer finds one due, or a packet was urged by its mark,
-- or a poll met many packets that don't ask
abbrev pub makes_due : Party → Party → Call → Answer → Bool
makes_due x y call a = (haste_of (called x y.given call a) y).due || ((wants_of (called x y.given call a) y).marked || (is_poll call && nat_lt may_come (count_silent (wants_of x y).packets)))

-- where one is due at an open end behind a call, it was, or something makes it so
abbrev DueThen : Party → Party → Call → Answer → Type 0
DueThen x y call a = (x.end.acknowledging.due ≡ true) ⊎ (makes_due x y call a ≡ true)

-- a packet comes
delivered_urges : (x y : Party) (call : Call) (a : Answer) (c : Calls Urging x y call a) → acknowledges (sents_by x.policy x.end call a) ≡ false → is_delivery call ≡ true → (called x y.given call a).end.closing.state ≡ states.Open → (called x y.given call a).end.acknowledging.due ≡ true → DueThen x y call a
delivered_urges x y call a c none comes opened due = elim (caused opened due) [
  | inl before ↦ inl before
  | inr other ↦ inr (elim other [
    | inl hastens ↦ or_left (haste_of next y).due _ (haste_then x y call a c none (or_right (haste_of x y).due _ (or_left (one_hastens acked i j (unanswered_of next y).packets) _ (ap (λ (qs : List Packet). one_hastens acked i j qs) (packets_then x y call a c none) ∙ hastens))))
    | inr marked ↦ or_right (haste_of next y).due _ (or_left (wants_of next y).marked _ (marked_then x y call a c opened none (or_left (urged_by x y call a j) (wants_of x y).marked marked)))
  ])
]
  where
    next : Party
    next = called x y.given call a

    i : Intake
    i = came_to x y

    j : Intake
    j = came_to next y

    acked : Option ℕ
    acked = (haste_of x y).acked

    ps : List Packet
    ps = (unanswered_of x y).packets

    Caused : Answer → End → Intake → Type 0
    Caused b e k = e.closing.state ≡ states.Open → DueOf x.end.acknowledging acked i ps (urged_by x y call b k) e.acknowledging k

    caused : Caused a next.end j
    caused = by_coming_with x y a c.joined c.served (meets y x c.takes.0.0) Caused call c.answer (record {
      apart = λ apart. absurd (both_ways (is_delivery call) apart comes);
      none = λ delivery is opened due. inl due;
      comes = λ delivery is s among here. arrivals_due x.end delivery s.number s.frames here i ps acked (pressing x y (c.gives.0, c.gives.1.0.0) (c.takes.0, c.takes.1.0.0) c.gives.1.0.1) (urged_by x y call) (λ state none. urged_taken x y call c.gives.0.1 delivery is state s.number s.frames here none);
    })

-- no packet has a deadline where none came
none_more : (came : List Packet) (delay moment : ℕ) (rest : List ℕ) → came ≡ [] → deadlines_of came delay moment ++ rest ≡ rest
none_more came delay moment rest none = ap (λ (qs : List Packet). deadlines_of qs delay moment ++ rest) none

-- the timer expires
timed_urges : (x y : Party) (now : ℕ) (a : Answer) (c : Calls Urging x y (calls.Timeout now) a) → (called x y.given (calls.Timeout now) a).end.closing.state ≡ states.Open → (called x y.given (calls.Timeout now) a).end.acknowledging.due ≡ true → DueThen x y (calls.Timeout now) a
timed_urges x y now a c opened due = elim (timeout_due x.policy x.end now (debt_of x y).deadlines open_before (c.gives.1.0.0.1.1.owes open_before) due) [
  | inl before ↦ inl before
  | inr late ↦ inr (or_left (haste_of next y).due _ (haste_then x y call a c refl (or_right (haste_of x y).due _ (or_right (one_hastens (haste_of x y).acked (came_to x y) (came_to next y) (unanswered_of next y).packets) _ (or_right (urged x y call a (waiting x y call a c) && are_some (unanswered_of next y).packets) _ (out late))))))
]
  where
    call : Call
    call = calls.Timeout now

    next : Party
    next = called x y.given call a

    open_before : x.end.closing.state ≡ states.Open
    open_before = was_open x.policy x.end y.given call a opened

    clock_is : clock x y call a c ≡ max x.end.closing.clock now
    clock_is = clock_there x y call a (waiting x y call a c) opened ∙ ap (λ (k : Closing). k.clock) (timed x.policy x.end now open_before opened).closing

    -- nothing came, so the deadlines are the same
    same : (debt_of next y).deadlines ≡ (debt_of x y).deadlines
    same =
        deadlines_told x y call a (observed x y call a c)
        ∙ ap (λ (j : Intake). deadlines_if x y call a (observed x y call a c) false (came_to x y) j) (came_same x y call a (none_handed y.final call a refl))
        ∙ none_more (news (came_to x y) (came_to x y)) _ _ (debt_of x y).deadlines (none_new (came_to x y))

    out : is_past (first_deadline (debt_of x y).deadlines) (max x.end.closing.clock now) ≡ true → waits_out (told_of call a x.end.closing.state) (debt_of next y).deadlines (clock x y call a c) ≡ true
    out late = and_from (is_timely x.end.closing.state call) (is_past (first_deadline (debt_of next y).deadlines) (clock x y call a c)) (ap (λ (s : State). is_timely s call) open_before)
        (ap (λ (ds : List ℕ). is_past (first_deadline ds) (clock x y call a c)) same ∙ ap (λ (n : ℕ). is_past (first_deadline (debt_of x y).deadlines) n) clock_is ∙ late)

-- each call that gives no ACK frame
call_urges : (x y : Party) (call : Call) (a : Answer) (c : Calls Urging x y call a) → acknowledges (sents_by x.policy x.end call a) ≡ false → (called x y.given call a).end.closing.state ≡ states.Open → (called x y.given call a).end.acknowledging.due ≡ true → DueThen x y call a
call_urges x y (calls.Deliver delivery) a c none opened due = delivered_urges x y (calls.Deliver delivery) a c none refl opened due
call_urges x y (calls.Timeout now) a c none opened due = timed_urges x y now a c opened due
call_urges x y (calls.Poll now) a c none opened due = elim (polled_due x.policy x.end now due) [
  | inl before ↦ inl before
  | inr many ↦ inr (or_right (haste_of (called x y.given (calls.Poll now) a) y).due _ (or_right (wants_of (called x y.given (calls.Poll now) a) y).marked _
      (let most = (c.gives.1.1.wanted (was_open x.policy x.end y.given (calls.Poll now) a opened)).silent in let less = ltb-true lazy_threshold x.end.acknowledging.silent many in lt-ltb may_come (count_silent (wants_of x y).packets) (omega arith))))
]
call_urges x y (calls.Inject injection) a c none opened due = inl (by_injection x.policy x.end (says_last a) injection (λ (e : End). e.acknowledging.due ≡ true → x.end.acknowledging.due ≡ true) (λ is. is) (λ now is. is) due)
call_urges x y (calls.Close close) a c none opened due = inl (go x.end.closing.state due)
  where
    go : (s : State) → (closed_in s close.now close.error_code close.reason x.end).acknowledging.due ≡ true → x.end.acknowledging.due ≡ true
    go states.Open is = is
    go states.Closing is = is
    go states.Drained is = is
    go states.Failed is = is
call_urges x y calls.UseNextId a c none opened due = inl (sym (ap (λ (p : Pending). p.due) (next_acks x.end a)) ∙ due)
call_urges x y calls.HandshakeDone a c none opened due = inl (by_done (λ (e : End). e.acknowledging.due ≡ true → x.end.acknowledging.due ≡ true) x.end a (λ is. is) (λ is. is) due)
call_urges x y calls.Event a c none opened due = inl (by_event x.end (λ (e : End). e.acknowledging.due ≡ true → x.end.acknowledging.due ≡ true) (λ is. is) (λ is. is) (λ told is. is) due)
call_urges x y call a c none opened due = inl due

-- where an ACK frame goes, none is due
unless_acknowledged : (x y : Party) (call : Call) (a : Answer) → Calls Urging x y call a → (called x y.given call a).end.acknowledging.due ≡ true → acknowledges (sents_by x.policy x.end call a) ≡ false
unless_acknowledged x y call a c due = go (acknowledges (sents_by x.policy x.end call a)) refl
  where
    go : (b : Bool) → acknowledges (sents_by x.policy x.end call a) ≡ b → b ≡ false
    go true some = absurd (both_ways (called x y.given call a).end.acknowledging.due (call_answered (λ (p : Pending) (o : Option ℕ). p.due ≡ false) (λ p. refl) x.policy x.end y.given call a c.gives.0.0.owes c.answer c.served some) due)
    go false none = refl

-- each call
pub urges : (x y : Party) (call : Call) (a : Answer) (c : Calls Urging x y call a) → (called x y.given call a).end.closing.state ≡ states.Open → (called x y.given call a).end.acknowledging.due ≡ true → DueThen x y call a
urges x y call a c opened due = call_urges x y call a c (unless_acknowledged x y call a c due) opened due

-- ---- the group

-- While x is open, an acknowledgement is due at it only where its observer finds one wanted.
pub record Urged (x y : Party) : Type 0 where
  pub due : x.end.closing.state ≡ states.Open → x.end.acknowledging.due ≡ true → is_wanted (haste_of x y) (wants_of x y) ≡ true

urged_step : (x y : Party) (call : Call) (a : Answer) → Calls Urging x y call a → Urged x y → Urged (called x y.given call a) y
urged_step x y call a c u = record { due = λ opened due. due_then opened (unless_acknowledged x y call a c due) (urges x y call a c opened due) }
  where
    next : Party
    next = called x y.given call a

    h : Haste
    h = haste_of next y

    w : Wants
    w = wants_of next y

    -- many packets came before that don't ask
    by_many : next.end.closing.state ≡ states.Open → acknowledges (sents_by x.policy x.end call a) ≡ false → nat_lt may_come (count_silent (wants_of x y).packets) ≡ true → is_wanted h w ≡ true
    by_many opened none many =
        let less = ltb-true may_come (count_silent (wants_of x y).packets) many in
        let more = silent_then x y call a c opened none in
        or_right h.due (w.marked || nat_lt may_come (count_silent w.packets)) (or_right w.marked (nat_lt may_come (count_silent w.packets)) (lt-ltb may_come (count_silent w.packets) (omega arith)))

    due_then : next.end.closing.state ≡ states.Open → acknowledges (sents_by x.policy x.end call a) ≡ false → DueThen x y call a → is_wanted h w ≡ true
    due_then opened none (inl before) = elim (or_cases (haste_of x y).due _ (u.due (was_open x.policy x.end y.given call a opened) before)) [
      | inl is ↦ or_left h.due _ (haste_then x y call a c none (or_left (haste_of x y).due _ is))
      | inr other ↦ elim (or_cases (wants_of x y).marked _ other) [
        | inl marked ↦ or_right h.due _ (or_left w.marked _ (marked_then x y call a c opened none (or_right (urged_by x y call a (came_to next y)) (wants_of x y).marked marked)))
        | inr many ↦ by_many opened none many
      ]
    ]
    due_then opened none (inr cause) = elim (or_cases h.due _ cause) [
      | inl is ↦ or_left h.due _ is
      | inr other ↦ elim (or_cases w.marked _ other) [ inl marked ↦ or_right h.due _ (or_left w.marked _ marked) | inr many ↦ by_many opened none (and_parts (is_poll call) _ many).1 ]
    ]

urged_group : Group Urging Urged
urged_group = record {
  first = λ x y m there here. record { due = λ opened is. cc };
  writer = λ x y call a c u back. urged_step x y call a c u;
  reader = λ x y call a c u back. record { due = back.due };
  shows = λ x y here there b back u others. record { due = u.due };
}

-- what is wanted, and that one is due only where it is, over the packets and what observers know of
-- them
abbrev pub Wished : Way
Wished = And Hasting Urged

hasting : Group Observed Hasting
hasting = beside Observed (And (And Answers Indebted) Hastes) Wanting (both Observed (And Answers Indebted) Hastes (beside Observed Answers Indebted answers_group debt_group) hastes_group) wanting_group

pub wished_group : Group Observed Wished
wished_group = both Observed Hasting Urged hasting urged_group
