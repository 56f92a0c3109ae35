-- Turns of a talk are joined, and what was polled last where a round gave no datagram.
use Rattle.std.proofs.Common.{◌≡◌, ℕ, ◌+◌, max, Bool, true, false, List, [], ◌∷◌, ◌++◌, Option, Some, None, Result, Ok, Err, OnErr, length, inl, inr, refl, sym, ap, ◌∙◌, append_assoc, append-nil, arith}
use Rattle.std.specs.Prelude.{◌⊎◌, ◌||◌}
use Rattle.quic_wire_core.specs.declared.stream_id.Side.{Side}
use Rattle.quic_wire_core.specs.declared.stream_id.Side.TheVariants.{Client, Server}
use Rattle.quic_wire_core.specs.StreamId.{other_side}
use Rattle.quic_time.specs.Timers.{earlier}
use Rattle.quic_machine.specs.declared.answers.Failed.{Failed}
use Rattle.quic_machine.specs.declared.answers.State.TheVariants as states
use Rattle.quic_machine.specs.declared.answers.Transmit.{Transmit}
use Rattle.quic_machine.specs.declared.run.RunEvent.{RunEvent}
use Rattle.quic_machine.specs.declared.run.Call.{Call}
use Rattle.quic_machine.specs.declared.run.Call.TheVariants as calls
use Rattle.quic_machine.specs.declared.run.Answer.{Answer}
use Rattle.quic_machine.specs.declared.run.Answer.TheVariants as answers
use Rattle.quic_machine.specs.Policy.{Policy}
use Rattle.quic_machine.specs.End.{End}
use Rattle.quic_machine.specs.Poll.{polled}
use Rattle.quic_machine.specs.Control.{Control}
use Rattle.quic_machine.specs.Heard.{Heard}
use Rattle.quic_machine.specs.Machine.{gave, end_at, given_by, policy_at, control_at, heard_at, end_met, changed, gives, World, Policies, IsAnswer, IsLeft, IsStep, fails}
use Rattle.quic_connection.specs.Settled.{Round, asks, quiet, polled_on, Turn, polls, awaits, polls_in, poll_event, delivery_event, timeout_event, IsPassedOn, IsPolled, IsHandled, IsWaited, IsTalk, Talks, Leads, IsHalfHandled, IsCut, IsCutOff, EndsAs, IsStill, AreStill, no_datagram, AreAtRest, AreOpen, HasClosed, Settles, most_polls, end_wakes, wakes}

-- ---- turns

-- turns behind others
talk_behind : (k : Policies) (now : ℕ) (at : Round) (w : World) (turns : List Turn) (between : ℕ) (via : Round) (mid : World) (turns' : List Turn) (moment : ℕ) (end : Round) (to : World) → IsTalk k now at w turns between via mid → IsTalk k between via mid turns' moment end to → IsTalk k now at w (turns ++ turns') moment end to
talk_behind k now at w [] between via mid turns' moment end to t more = rw (t.0, t.1, t.2) at more
talk_behind k now (asks side before) w (polls ∷ turns) between via mid turns' moment end to t more =
    (t.0, t.1, t.2, talk_behind k now (polled_on side before t.1) t.0 turns between via mid turns' moment end to t.3 more)
talk_behind k now quiet w (awaits ∷ turns) between via mid turns' moment end to t more =
    (t.0, t.1, t.2, talk_behind k t.1 (asks Client false) t.0 turns between via mid turns' moment end to t.3 more)
talk_behind k now quiet w (polls ∷ turns) between via mid turns' moment end to t more = absurd t
talk_behind k now (asks side before) w (awaits ∷ turns) between via mid turns' moment end to t more = absurd t

polls_behind : (turns turns' : List Turn) → polls_in (turns ++ turns') ≡ polls_in turns + polls_in turns'
polls_behind [] turns' = omega arith
polls_behind (polls ∷ turns) turns' = let rest = polls_behind turns turns' in omega arith
polls_behind (awaits ∷ turns) turns' = polls_behind turns turns'

-- no turn, and no poll less
pub talks_none : (k : Policies) (now : ℕ) (at : Round) (n : ℕ) (w : World) → Talks k now now at at n n w w
talks_none k now at n w = record { turns = []; talk = (refl, refl, refl); left = omega arith }

-- turns behind others, where polls are counted down
pub talks_on : (k : Policies) (now between moment : ℕ) (at via end : Round) (before left after : ℕ) (w mid to : World) → Talks k now between at via before left w mid → Talks k between moment via end left after mid to → Talks k now moment at end before after w to
talks_on k now between moment at via end before left after w mid to t more =
    record {
      turns = t.turns ++ more.turns;
      talk = talk_behind k now at w t.turns between via mid more.turns moment end to t.talk more.talk;
      left = let both = polls_behind t.turns more.turns in let first = t.left in let second = more.left in omega arith;
    }

-- the same, to some place
pub leads_on : (k : Policies) (now between moment : ℕ) (at via : Round) (before left after : ℕ) (w mid to : World) → Talks k now between at via before left w mid → Leads k between moment via left after mid to → Leads k now moment at before after w to
leads_on k now between moment at via before left after w mid to t more = record {
  end = more.end;
  talks = talks_on k now between moment at via more.end before left after w mid to t more.talks;
}

-- none or more, and some
pub or_none : (b : Bool) → (b || false) ≡ b
or_none true = refl
or_none false = refl

pub or_some : (b : Bool) → (b || true) ≡ true
or_some true = refl
or_some false = refl

-- a poll
pub talks_polled : (k : Policies) (now before after : ℕ) (w next : World) (side : Side) (had gave told : Bool) → told ≡ gave → after + 1 ≡ before → IsPolled k side now told w next → Talks k now now (asks side had) (polled_on side had gave) before after w next
talks_polled k now before after w next side had gave told same one poll = record {
  turns = polls ∷ [];
  talk = (next, gave, rw same at poll, (refl, refl, refl));
  left = omega arith;
}

-- a wait behind turns
pub waited_on : (k : Policies) (now between wake moment : ℕ) (at : Round) (before left : ℕ) (w mid end : World) → Talks k now between at quiet before left w mid → AreOpen mid → wakes mid ≡ Some wake → moment ≡ max between wake → IsHandled k moment mid end → Talks k now moment at (asks Client false) before left w end
waited_on k now between wake moment at before left w mid end t opened woke is handled =
    let waited : IsWaited k between moment mid end = record { are_open = opened; wake = wake; wakes = woke; is = is; handled = handled } in
    let turn : Talks k between moment quiet (asks Client false) left left mid end = record { turns = awaits ∷ []; talk = (end, moment, waited, (refl, refl, refl)); left = omega arith } in
    talks_on k now between moment at quiet (asks Client false) before left left w mid end t turn

-- ---- where memory lacked

-- what holds, holds of an error
pub on_err : {T E P : Type 0} (r : Result T E) → P → OnErr r P
on_err (Ok x) p = tt
on_err (Err e) p = p

-- a turn that is begun behind others
pub cut_behind : (k : Policies) (now between : ℕ) (at via : Round) (before left : ℕ) (w mid end : World) → Talks k now between at via before left w mid → IsCut k between via mid end → IsCutOff k now at before w end
cut_behind k now between at via before left w mid end t cut = record {
  turns = t.turns;
  moment = between;
  end = via;
  last = mid;
  talk = t.talk;
  at_most = let first = t.left in omega arith;
  cut = cut;
}

-- turns behind others, and one that is begun
pub cut_off_behind : (k : Policies) (now between : ℕ) (at via : Round) (before left : ℕ) (w mid end : World) → Talks k now between at via before left w mid → IsCutOff k between via left mid end → IsCutOff k now at before w end
cut_off_behind k now between at via before left w mid end t more =
    record {
      turns = t.turns ++ more.turns;
      moment = more.moment;
      end = more.end;
      last = more.last;
      talk = talk_behind k now at w t.turns between via mid more.turns more.moment more.end more.last t.talk more.talk;
      at_most = let both = polls_behind t.turns more.turns in let first = t.left in let second = more.at_most in omega arith;
      cut = more.cut;
    }

-- a wait of which the client's part was made, or none
pub half_waited : (k : Policies) (now wake moment : ℕ) (w end : World) → wakes w ≡ Some wake → moment ≡ max now wake → (end ≡ w) ⊎ IsHalfHandled k moment w end → IsCut k now quiet w end
half_waited k now wake moment w end woke is (inl same) = inl same
half_waited k now wake moment w end woke is (inr handled) = inr (record { wake = wake; wakes = woke; handled = rw is at handled })

-- ---- the datagrams that were given

-- so many more stand behind them
abbrev HasMore : List (List ℕ) → List (List ℕ) → Type 0
HasMore old new = (more : List (List ℕ)) × (new ≡ old ++ more)

-- none more
same_more : (side : Side) (w next : World) → next ≡ w → HasMore (given_by side w) (given_by side next)
same_more side w next same = ([], ap (λ (v : World). given_by side v) same ∙ sym (append-nil (given_by side w)))

-- more behind more
more_behind : (old mid new : List (List ℕ)) → HasMore old mid → HasMore mid new → HasMore old new
more_behind old mid new first rest =
    (first.0 ++ rest.0, rest.1 ∙ ap (λ (ds : List (List ℕ)). ds ++ rest.0) first.1 ∙ append_assoc old first.0 rest.0)

-- one end has given more, or none has
changed_more : (at_side side : Side) (w : World) (e : End) (ds : List (List ℕ)) (control : Control) (heard : Heard) → HasMore (given_by side w) (given_by side (changed at_side w e ds control heard))
changed_more Client Client w e ds control heard = (ds, refl)
changed_more Client Server w e ds control heard = ([], sym (append-nil w.from_server))
changed_more Server Client w e ds control heard = ([], sym (append-nil w.from_client))
changed_more Server Server w e ds control heard = (ds, refl)

-- a step leaves what was given
step_more : (k : Policies) (w : World) (event : RunEvent) (a : Answer) (next : World) (side : Side) → IsStep k w event a next → HasMore (given_by side w) (given_by side next)
step_more k w event a next side step =
    let e = end_at event.side next in
    let ds = gives (policy_at event.side k) (end_met w event) event.call a in
    let here = changed_more event.side side w e ds (control_at event.side next) (heard_at event.side next) in
    (here.0, ap (λ (v : World). given_by side v) step.others ∙ here.1)

-- so does a delivery, where one is made
passed_more : (b : Bool) (k : Policies) (from : Side) (now index : ℕ) (w next : World) (side : Side) → IsPassedOn b k from now index w next → HasMore (given_by side w) (given_by side next)
passed_more true k from now index w next side passed = step_more k w (delivery_event from w now index) passed.0 next side passed.1
passed_more false k from now index w next side passed = same_more side w next passed

-- and a poll
polled_more : (k : Policies) (from : Side) (now : ℕ) (has_given : Bool) (w next : World) (side : Side) → IsPolled k from now has_given w next → HasMore (given_by side w) (given_by side next)
polled_more k from now has_given w next side p =
    more_behind (given_by side w) (given_by side p.next) (given_by side next)
    (step_more k w (poll_event from now) p.answer p.next side p.poll)
    (passed_more (gave p.answer) k from now (length (given_by from w)) p.next next side p.delivered)

-- and a moment that both ends handle
handled_more : (k : Policies) (moment : ℕ) (w next : World) (side : Side) → IsHandled k moment w next → HasMore (given_by side w) (given_by side next)
handled_more k moment w next side handled =
    more_behind (given_by side w) (given_by side handled.middle) (given_by side next)
    (step_more k w (timeout_event Client moment) handled.client_answer handled.middle side handled.client)
    (step_more k handled.middle (timeout_event Server moment) handled.server_answer next side handled.server)

-- and turns
talk_more : (k : Policies) (now : ℕ) (at : Round) (w : World) (turns : List Turn) (moment : ℕ) (end : Round) (to : World) (side : Side) → IsTalk k now at w turns moment end to → HasMore (given_by side w) (given_by side to)
talk_more k now at w [] moment end to side t = same_more side w to t.2
talk_more k now (asks from before) w (polls ∷ turns) moment end to side t =
    more_behind (given_by side w) (given_by side t.0) (given_by side to)
    (polled_more k from now t.1 w t.0 side t.2)
    (talk_more k now (polled_on from before t.1) t.0 turns moment end to side t.3)
talk_more k now quiet w (awaits ∷ turns) moment end to side t =
    more_behind (given_by side w) (given_by side t.0) (given_by side to)
    (handled_more k t.1 w t.0 side t.2.handled)
    (talk_more k t.1 (asks Client false) t.0 turns moment end to side t.3)
talk_more k now quiet w (polls ∷ turns) moment end to side t = absurd t
talk_more k now (asks from before) w (awaits ∷ turns) moment end to side t = absurd t

-- and a turn that was begun
cut_more : (k : Policies) (now : ℕ) (at : Round) (w next : World) (side : Side) → IsCut k now at w next → HasMore (given_by side w) (given_by side next)
cut_more k now at w next side (inl same) = same_more side w next same
cut_more k now (asks from before) w next side (inr half) = step_more k w (poll_event from now) half.answer next side half.poll
cut_more k now quiet w next side (inr half) = step_more k w (timeout_event Client (max now half.wake)) half.handled.answer next side half.handled.client

-- and how a talk ends
ends_more : {E : Type 0} (answer : Result (Option ℕ) E) (k : Policies) (turns : List Turn) (moment : ℕ) (end : Round) (last next : World) (side : Side) → EndsAs answer k turns moment end last next → HasMore (given_by side last) (given_by side next)
ends_more (Ok (Some rest)) k turns moment end last next side ends = same_more side last next ends.2
ends_more (Ok None) k turns moment end last next side ends = same_more side last next ends.0
ends_more (Err e) k turns moment end last next side ends = cut_more k moment end last next side ends

-- and a whole talk
pub settled_more : {E : Type 0} (k : Policies) (now : ℕ) (w next : World) (answer : Result (Option ℕ) E) (side : Side) → Settles k now w answer next → (more : List (List ℕ)) × (given_by side next ≡ given_by side w ++ more)
settled_more k now w next answer side s =
    more_behind (given_by side w) (given_by side s.last) (given_by side next)
    (talk_more k now (asks Client false) w s.turns s.moment s.end s.last side s.talk)
    (ends_more answer k s.turns s.moment s.end s.last next side s.ends)

-- ---- rounds that gave nothing

-- turns that led to a place
abbrev LedTo : Policies → ℕ → World → ℕ → Round → World → Type 0
LedTo k now from moment at w = (turns : List Turn) × IsTalk k now (asks Client false) from turns moment at w

-- in this round the client was polled last, and gave nothing
record ClientGaveNone (k : Policies) (now : ℕ) (from : World) (moment : ℕ) (w : World) : Type 0 where
  before : World
  led : LedTo k now from moment (asks Client false) before
  client : IsPolled k Client moment false before w

-- and then the server
record BothGaveNone (k : Policies) (now : ℕ) (from : World) (moment : ℕ) (w : World) : Type 0 where
  between : World
  first : ClientGaveNone k now from moment between
  server : IsPolled k Server moment false between w

-- what was polled before a place
abbrev Behind : Policies → ℕ → World → ℕ → Round → World → Type 0
Behind k now from moment quiet w = BothGaveNone k now from moment w
Behind k now from moment (asks Server false) w = ClientGaveNone k now from moment w
Behind k now from moment (asks Server true) w = Unit {0}
Behind k now from moment (asks Client before) w = Unit {0}

-- behind a poll
behind_poll : (k : Policies) (now : ℕ) (from : World) (moment : ℕ) (side : Side) (had gave : Bool) (w to : World) → LedTo k now from moment (asks side had) w → Behind k now from moment (asks side had) w → IsPolled k side moment gave w to → Behind k now from moment (polled_on side had gave) to
behind_poll k now from moment Client had true w to led behind poll = tt
behind_poll k now from moment Server had true w to led behind poll = tt
behind_poll k now from moment Client true false w to led behind poll = tt
behind_poll k now from moment Client false false w to led behind poll = record { before = w; led = led; client = poll }
behind_poll k now from moment Server true false w to led behind poll = tt
behind_poll k now from moment Server false false w to led behind poll = record { between = w; first = behind; server = poll }

-- behind turns
behind_turns : (k : Policies) (start : ℕ) (from : World) (now : ℕ) (at : Round) (w : World) (turns : List Turn) (moment : ℕ) (end : Round) (to : World) → LedTo k start from now at w → Behind k start from now at w → IsTalk k now at w turns moment end to → Behind k start from moment end to
behind_turns k start from now at w [] moment end to led behind t = rw (t.0, t.1, t.2) behind
behind_turns k start from now (asks side had) w (polls ∷ turns) moment end to led behind t =
    let next = talk_behind k start (asks Client false) from led.0 now (asks side had) w (polls ∷ []) now (polled_on side had t.1) t.0 led.1 (t.0, t.1, t.2, (refl, refl, refl)) in
    behind_turns k start from now (polled_on side had t.1) t.0 turns moment end to (led.0 ++ polls ∷ [], next)
    (behind_poll k start from now side had t.1 w t.0 led behind t.2) t.3
behind_turns k start from now quiet w (awaits ∷ turns) moment end to led behind t =
    let next = talk_behind k start (asks Client false) from led.0 now quiet w (awaits ∷ []) t.1 (asks Client false) t.0 led.1 (t.0, t.1, t.2, (refl, refl, refl)) in
    behind_turns k start from t.1 (asks Client false) t.0 turns moment end to (led.0 ++ awaits ∷ [], next) tt t.3
behind_turns k start from now quiet w (polls ∷ turns) moment end to led behind t = absurd t
behind_turns k start from now (asks side had) w (awaits ∷ turns) moment end to led behind t = absurd t

-- before a place where no datagram was given in a round, both were polled in it
both_gave_none : (k : Policies) (now : ℕ) (from : World) (turns : List Turn) (moment : ℕ) (to : World) → IsTalk k now (asks Client false) from turns moment quiet to → BothGaveNone k now from moment to
both_gave_none k now from turns moment to t = behind_turns k now from now (asks Client false) from turns moment quiet to ([], (refl, refl, refl)) tt t

-- a poll that gave no datagram and didn't fail answered `None`
answered_none : (r : Result (Option Transmit) Failed) → gave (answers.Poll r) ≡ false → fails (answers.Poll r) ≡ false → answers.Poll r ≡ no_datagram
answered_none (Ok None) none kept = refl
answered_none (Ok (Some transmit)) none kept = cc
answered_none (Err failed) none kept = cc

-- an end that is open didn't fail
kept_open : (b : Bool) (p : Policy) (control : Control) (heard : Heard) (e : End) (theirs : List (List ℕ)) (call : Call) (a : Answer) (next : End) → IsLeft b p control heard e theirs call a next → next.closing.state ≡ states.Open → b ≡ false
kept_open false p control heard e theirs call a next left opened = refl
kept_open true p control heard e theirs call a next left opened = let failed = left.0 in cc

-- so at an open end
none_at : (p : Policy) (e : End) (theirs : List (List ℕ)) (now : ℕ) (a : Answer) → IsAnswer p e theirs (calls.Poll now) a → gave a ≡ false → fails a ≡ false → a ≡ no_datagram
none_at p e theirs now a (inl same) none kept = same ∙ answered_none (polled p e now).answer (rw same at none) (rw same at kept)
none_at p e theirs now a (inr same) none kept = let failed = rw same at kept in cc

-- the same, of a turn
passed_none : (b : Bool) (k : Policies) (side : Side) (now index : ℕ) (w to : World) → b ≡ false → IsPassedOn b k side now index w to → to ≡ w
passed_none false k side now index w to none passed = passed
passed_none true k side now index w to none passed = cc

none_by : (k : Policies) (side : Side) (now : ℕ) (w to : World) → IsPolled k side now false w to → (end_at side to).closing.state ≡ states.Open → IsStep k w (poll_event side now) no_datagram to
none_by k side now w to p opened =
    let same = passed_none (gave p.answer) k side now (length (given_by side w)) p.next to p.gives p.delivered in
    let step : IsStep k w (poll_event side now) p.answer to = rw same p.poll in
    let kept = kept_open (fails p.answer) (policy_at side k) (control_at side w) (heard_at side w) (end_at side w) (given_by (other_side side) w) (calls.Poll now) p.answer (end_at side to) step.end opened in
    let is = none_at (policy_at side k) (end_met w (poll_event side now)) (given_by (other_side side) w) now p.answer step.answer p.gives kept in
    rw is at step

-- ---- both ends rest

-- where there is no earlier moment, there is neither
neither : (one other : Option ℕ) → earlier one other ≡ None → (one ≡ None) × (other ≡ None)
neither None None none = (refl, refl)
neither None (Some moment) none = cc
neither (Some moment) None none = cc
neither (Some moment) (Some other) none = cc

-- an open end that waits for no moment is still
still_end : (e : End) → e.closing.state ≡ states.Open → end_wakes e.timers ≡ None → IsStill e
still_end e is_open none =
    let loss = neither e.timers.loss_detection (earlier e.timers.max_ack_delay e.timers.pacing) none in
    let others = neither e.timers.max_ack_delay e.timers.pacing loss.1 in
    record { is_open = is_open; no_loss_timer = loss.0; no_ack_timer = others.0; no_pacing_timer = others.1 }

-- the same, of both
pub still : (w : World) → AreOpen w → wakes w ≡ None → AreStill w
still w are_open none =
    let both = neither (end_wakes w.client.timers) (end_wakes w.server.timers) none in
    record { client = still_end w.client are_open.client both.0; server = still_end w.server are_open.server both.1 }

-- an open end that is left by both polls
pub at_rest : (k : Policies) (now moment before left : ℕ) (from to : World) → Talks k now moment (asks Client false) quiet before left from to → AreStill to → AreAtRest k now from moment to
at_rest k now moment before left from to t still =
    let both = both_gave_none k now from t.turns moment to t.talk in
    let first = both.first in
    record {
      turns = first.led.0;
      before = first.before;
      between = both.between;
      talk = first.led.1;
      client_answers = none_by k Client moment first.before both.between first.client both.server.are_open.client;
      server_answers = none_by k Server moment both.between to both.server still.server.is_open;
      still = still;
    }

-- ---- two ends settle

-- they rest
pub settled_rest : {E : Type 0} (k : Policies) (now moment left : ℕ) (w next : World) → Talks k now moment (asks Client false) quiet most_polls left w next → AreStill next → Settles {E = E} k now w (Ok (Some moment)) next
settled_rest k now moment left w next t still = record {
  turns = t.turns;
  moment = moment;
  end = quiet;
  last = next;
  talk = t.talk;
  at_most = let behind = t.left in omega arith;
  ends = (refl, refl, refl, still);
}

-- they were given up: an end isn't open, or no poll was left
pub settled_none : {E : Type 0} (k : Policies) (now moment left : ℕ) (w next : World) → Leads k now moment (asks Client false) most_polls left w next → HasClosed next ⊎ (left ≡ 0) → Settles {E = E} k now w (Ok None) next
settled_none k now moment left w next t gave_up = record {
  turns = t.talks.turns;
  moment = moment;
  end = t.end;
  last = next;
  talk = t.talks.talk;
  at_most = let behind = t.talks.left in omega arith;
  ends = (refl, or_all gave_up);
}
  where
    or_all : HasClosed next ⊎ (left ≡ 0) → HasClosed next ⊎ (polls_in t.talks.turns ≡ most_polls)
    or_all (inl closed) = inl closed
    or_all (inr none) = inr (let behind = t.talks.left in omega arith)

-- memory lacked
pub settled_err : {E : Type 0} (k : Policies) (now : ℕ) (w next : World) (answer : Result (Option ℕ) E) (e : E) → answer ≡ Err e → IsCutOff k now (asks Client false) most_polls w next → Settles k now w answer next
settled_err k now w next answer e is c = rw is (record {
  turns = c.turns;
  moment = c.moment;
  end = c.end;
  last = c.last;
  talk = c.talk;
  at_most = c.at_most;
  ends = c.cut;
})
