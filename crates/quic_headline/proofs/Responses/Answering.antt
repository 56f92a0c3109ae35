-- At each place of a run the answer that waits at an open end is one to the newest of the
-- challenges that it is to answer, as its observer knows them.
use Rattle.std.proofs.Common.{◌≡◌, ℕ, zero, suc, ◌≤◌, Bool, true, false, ◌==◌, List, [], ◌∷◌, ◌++◌, length, Option, Some, None, refl, sym, ap, ◌∙◌, subst, inl, inr, eq-eqb}
use Rattle.std.specs.Prelude.{if◌then◌else◌, slice_get}
use Rattle.std.proofs.lemmas.List.{append-nil}
use Rattle.quic_wire_core.specs.declared.shared.EcnCodepoint.{EcnCodepoint}
use Rattle.quic_wire_core.specs.declared.stream_id.Side.{Side}
use Rattle.quic_wire_core.specs.StreamId.{other_side}
use Rattle.quic_wire.specs.Value.{FrameValue}
use Rattle.quic_parameters.specs.Parameters.{ParameterValues}
use Rattle.quic_config.specs.Transport.{Settings, parameters_of}
use Rattle.quic_paths.specs.Responses.{Response}
use Rattle.quic_machine.specs.declared.answers.State.TheVariants as states
use Rattle.quic_machine.specs.declared.run.RunEvent.{RunEvent}
use Rattle.quic_machine.specs.declared.run.Call.{Call}
use Rattle.quic_machine.specs.declared.run.Call.TheVariants as calls
use Rattle.quic_machine.specs.declared.run.Answer.{Answer}
use Rattle.quic_machine.specs.declared.run.Delivery.{Delivery}
use Rattle.quic_machine.specs.Parts.{Windows}
use Rattle.quic_machine.specs.Start.{Making}
use Rattle.quic_machine.specs.End.{End, new_end}
use Rattle.quic_machine.specs.Migration.{is_there, has_moved}
use Rattle.quic_machine.specs.Poll.{polled}
use Rattle.quic_machine.specs.Receive.{Outcome}
use Rattle.quic_machine.specs.CallCases.{is_delivery, is_poll}
use Rattle.quic_machine.specs.Machine.{World, IsStep, end_at, control_at, heard_at, gave}
use Rattle.quic_headline.specs.Runs.{Run, Told, Packet, Intake, In, same_side, folded, until, given_of, state_at, LeadsTo, AreServed}
use Rattle.quic_headline.specs.Observer.{Sent, Watch, Lens, watch, watch_told, watch_from, lens_of, news, has_changed}
use Rattle.quic_headline.specs.Headline.{IsHonest, IsRun}
use Rattle.quic_headline.specs.Amounts.{making_at}
use Rattle.quic_headline.specs.Moments.{went}
use Rattle.quic_headline.specs.Polls.{IsMade}
use Rattle.quic_headline.specs.Waited.{stands, is_path_response}
use Rattle.quic_headline.specs.Responses.{Challenge, challenges_of, comes_from, Challenged, open_behind, challenged_told, challenged}
use Rattle.quic_headline.proofs.Packets.Intakes.{folded_more}
use Rattle.quic_headline.proofs.Packets.Group.{meets}
use Rattle.quic_headline.proofs.Packets.Watching.{none_new}
use Rattle.quic_headline.proofs.Places.Moments.{told_none}
use Rattle.quic_headline.proofs.Places.Steps.{poll_answer}
use Rattle.quic_headline.proofs.Places.Parties.{sent_by, sent_if, sents_by, told_of, Party, called, came_to}
use Rattle.quic_headline.proofs.Places.Groups.{Calls, less_calls}
use Rattle.quic_headline.proofs.Places.Coming.{by_coming_from}
use Rattle.quic_headline.proofs.Packets.Delivered.{ArrivalsFrom, less_arrivals}
use Rattle.quic_headline.proofs.Places.Placed.{start_is}
use Rattle.quic_headline.proofs.Moves.Kept.{apart_stays, polled_stays, same_path}
use Rattle.quic_headline.proofs.Moves.Comes.{Leads}
use Rattle.quic_headline.proofs.Moves.Route.{routed_at}
use Rattle.quic_headline.proofs.Rest.Between.{step_leaves}
use Rattle.quic_headline.proofs.Steps.Made.{reads_either, whole}
use Rattle.quic_headline.proofs.Steps.Along.{own_told, along}
use Rattle.quic_headline.proofs.Timers.Watched.{Observed, went_is}
use Rattle.quic_headline.proofs.Validated.Group.{AnswerFits}
use Rattle.quic_headline.proofs.Validated.Standing.{Seen, call_sees}
use Rattle.quic_headline.proofs.Validated.Went.{polled_left}
use Rattle.quic_headline.proofs.Validated.Clause.{All, all}
use Rattle.quic_headline.proofs.Validated.Clause as clause
use Rattle.quic_headline.proofs.Responses.Drafts.{Replied}
use Rattle.quic_headline.proofs.Responses.Waiting.{WaitsSo, asked_if, Same, Other, arrivals_reply}

-- ---- any call

-- what is to be answered, by what went and what came, where the peer is now
abbrev asked_behind : Call → List Sent → List Packet → ℕ → Bool → List Challenge → List Challenge
asked_behind call ss came address changed unanswered = if stands is_path_response ss then [] else (if comes_from address call then challenges_of came else []) ++ (if changed then [] else unanswered)

-- a call that is no delivery, and by which no PATH_RESPONSE goes
quiet_then : (call : Call) (ss : List Sent) (came : List Packet) (address : ℕ) (unanswered : List Challenge) → is_delivery call ≡ false → stands is_path_response ss ≡ false → asked_behind call ss came address false unanswered ≡ unanswered
quiet_then (calls.Deliver delivery) ss came address unanswered apart none = cc
quiet_then call ss came address unanswered apart none = ap (λ (b : Bool). if b then [] else unanswered) none

-- what a delivery leaves is what came with it
delivered_same : (unanswered : List Challenge) (remote : ℕ) (delivery : Delivery) (x : End) (came : List Packet) → delivery.remote ≡ remote → (address : ℕ) → address ≡ x.path.remote → asked_if (is_there remote x) came ++ unanswered ≡ asked_behind (calls.Deliver delivery) [] came address false unanswered
delivered_same unanswered remote delivery x came same address there = ap (λ (m : ℕ). (if m == x.path.remote then challenges_of came else []) ++ unanswered) (sym same) ∙ ap (λ (m : ℕ). (if delivery.remote == m then challenges_of came else []) ++ unanswered) (sym there)

delivered_other : (unanswered : List Challenge) (delivery : Delivery) (came : List Packet) (address : ℕ) → delivery.remote ≡ address → challenges_of came ++ [] ≡ asked_behind (calls.Deliver delivery) [] came address true unanswered
delivered_other unanswered delivery came address same = ap (λ (b : Bool). (if b then challenges_of came else []) ++ []) (sym (eq-eqb delivery.remote address same))

one_delivery : (d other : Delivery) → calls.Deliver d ≡ calls.Deliver other → other ≡ d
one_delivery d other is = cc

module _ (x y : Party) (a : Answer) (unanswered : List Challenge) where
  abbrev left_by : Call → Party
  left_by call = called x y.given call a

  -- what is to be answered behind a call
  abbrev asked_now : Call → List Challenge
  asked_now call = asked_behind call (sents_by x.policy x.end call a) (news (came_to x y) (came_to (left_by call) y)) (left_by call).end.path.remote (has_moved x.end (left_by call).end) unanswered

  -- a call by which nothing goes or comes
  plain_answers : (call : Call) → is_delivery call ≡ false → is_poll call ≡ false → sents_by x.policy x.end call a ≡ [] → WaitsSo unanswered x.end.waiting.signals.response → WaitsSo (asked_now call) (left_by call).end.waiting.signals.response
  plain_answers call apart silent none was = subst (λ (qs : List Challenge). WaitsSo qs (left_by call).end.waiting.signals.response)
      (sym (ap (λ (b : Bool). asked_behind call (sents_by x.policy x.end call a) (news (came_to x y) (came_to (left_by call) y)) (left_by call).end.path.remote b unanswered) (same_path x.end (left_by call).end (apart_stays x.policy x.end y.given call a apart))
      ∙ quiet_then call (sents_by x.policy x.end call a) (news (came_to x y) (came_to (left_by call) y)) (left_by call).end.path.remote unanswered apart (ap (λ (ts : List Sent). stands is_path_response ts) none)))
      (call_sees (λ (s : Seen). WaitsSo unanswered s.response) x.policy x.end y.given call a apart silent (λ is n moment s i. i) (λ s i. i) was)

  -- a poll
  poll_answers : (now : ℕ) → (c : Calls Observed x y (calls.Poll now) a) → (left_by (calls.Poll now)).end.closing.state ≡ states.Open → WaitsSo unanswered x.end.waiting.signals.response → WaitsSo (asked_now (calls.Poll now)) (left_by (calls.Poll now)).end.waiting.signals.response
  poll_answers now c still was = subst (λ (b : Bool). Goes b) (sym (same_path x.end (polled x.policy x.end now).end (polled_stays x.policy x.end now)))
      (go (stands is_path_response (sents_by x.policy x.end (calls.Poll now) a)) (subst (λ (b : Answer). Replied x.end.waiting.signals.response (polled x.policy x.end now).end.waiting.signals.response (stands is_path_response (sent_if (gave b) (sent_by x.policy x.end now)))) (sym (poll_answer x.policy x.end now a c.answer c.served)) (polled_left x.policy x.end now still).replied))
    where
      o : Option Response
      o = (polled x.policy x.end now).end.waiting.signals.response

      Goes : Bool → Type 0
      Goes b = WaitsSo (asked_behind (calls.Poll now) (sents_by x.policy x.end (calls.Poll now) a) (news (came_to x y) (came_to (left_by (calls.Poll now)) y)) (left_by (calls.Poll now)).end.path.remote b unanswered) o

      go : (b : Bool) → Replied x.end.waiting.signals.response o b → WaitsSo (if b then [] else unanswered) o
      go b (inl none) = subst (λ (d : Bool). WaitsSo (if d then [] else unanswered) o) (sym none.0) (subst (λ (p : Option Response). WaitsSo unanswered p) (sym none.1) was)
      go b (inr some) = subst (λ (d : Bool). WaitsSo (if d then [] else unanswered) o) (sym some.0) (subst (λ (p : Option Response). WaitsSo [] p) (sym some.1) (λ challenge i. i))

  -- a delivery
  delivery_answers : (delivery : Delivery) → Calls Observed x y (calls.Deliver delivery) a → ((s : Sent) → In s y.sents → (f : FrameValue) → In f s.frames → AnswerFits f) → (left_by (calls.Deliver delivery)).end.closing.state ≡ states.Open → WaitsSo unanswered x.end.waiting.signals.response
      → WaitsSo (asked_now (calls.Deliver delivery)) (left_by (calls.Deliver delivery)).end.waiting.signals.response
  delivery_answers delivery c fits still was = by_coming_from x y a c.joined c.served (meets y x c.takes.0) (λ (b : Answer) (e : End) (j : Intake). e.closing.state ≡ states.Open → Now e j) (calls.Deliver delivery) c.answer (record {
    apart = λ apart. cc;
    none = λ other is opened. subst (λ (b : Bool). Reply x.end (came_to x y) b) (sym (same_path x.end x.end refl)) (subst (λ (ps : List Packet). WaitsSo (asked_behind (calls.Deliver delivery) [] ps x.end.path.remote false unanswered) x.end.waiting.signals.response) (sym (none_new (came_to x y))) (subst (λ (qs : List Challenge). WaitsSo qs x.end.waiting.signals.response) (sym (nothing (delivery.remote == x.end.path.remote))) was));
    comes = λ other is s among. (
        let same : delivery.remote ≡ other.remote = ap (λ (d : Delivery). d.remote) (sym (one_delivery delivery other is)) in
        leads_now other.remote same other.ecn other.now s.number s.frames (fits s among));
  }) still
    where
      Reply : End → Intake → Bool → Type 0
      Reply e j b = WaitsSo (asked_behind (calls.Deliver delivery) [] (news (came_to x y) j) e.path.remote b unanswered) e.waiting.signals.response

      Now : End → Intake → Type 0
      Now e j = Reply e j (has_moved x.end e)

      nothing : (b : Bool) → (if b then [] else []) ++ unanswered ≡ unanswered
      nothing true = refl
      nothing false = refl

      leads_now : (remote : ℕ) → delivery.remote ≡ remote → (mark : Option EcnCodepoint) (now n : ℕ) (frames : List FrameValue) → ((f : FrameValue) → In f frames → AnswerFits f)
          → ArrivalsFrom remote mark x.end now n frames (came_to x y) (λ (o : Outcome) (j : Intake). o.end.closing.state ≡ states.Open → Now o.end j)
      leads_now remote same mark now n frames fine = less_arrivals remote mark x.end now n frames (came_to x y) (λ (o : Outcome) (j : Intake). o.end.closing.state ≡ states.Open → Leads x.end (Same remote mark x.end now n frames (came_to x y) unanswered fine) (Other remote mark x.end now n frames (came_to x y) unanswered fine) o.end j)
          (λ (o : Outcome) (j : Intake). o.end.closing.state ≡ states.Open → Now o.end j) (λ o j led opened. to_now o.end j (led opened)) (arrivals_reply remote mark x.end now n frames (came_to x y) unanswered fine was)
        where
          to_now : (e : End) (j : Intake) → Leads x.end (Same remote mark x.end now n frames (came_to x y) unanswered fine) (Other remote mark x.end now n frames (came_to x y) unanswered fine) e j → Now e j
          to_now e j (inl stays) = subst (λ (b : Bool). Reply e j b) (sym stays.0) (subst (λ (qs : List Challenge). WaitsSo qs e.waiting.signals.response) (delivered_same unanswered remote delivery x.end (news (came_to x y) j) same e.path.remote stays.1.route) stays.1.waits)
          to_now e j (inr (changed, (route, waits))) = subst (λ (b : Bool). Reply e j b) (sym changed) (subst (λ (qs : List Challenge). WaitsSo qs e.waiting.signals.response) (delivered_other unanswered delivery (news (came_to x y) j) e.path.remote (same ∙ sym route)) (subst (λ (qs : List Challenge). WaitsSo qs e.waiting.signals.response) (sym (append-nil (challenges_of (news (came_to x y) j)))) waits))

-- any call
call_answers : (call : Call) (a : Answer) (x y : Party) → Calls Observed x y call a → (called x y.given call a).end.closing.state ≡ states.Open → (unanswered : List Challenge) → WaitsSo unanswered x.end.waiting.signals.response → ((s : Sent) → In s y.sents → (f : FrameValue) → In f s.frames → AnswerFits f)
    → WaitsSo (asked_now x y a unanswered call) (called x y.given call a).end.waiting.signals.response
call_answers (calls.Poll now) a x y c still unanswered was fits = poll_answers x y a unanswered now c still was
call_answers (calls.Deliver delivery) a x y c still unanswered was fits = delivery_answers x y a unanswered delivery c fits still was
call_answers call a x y c still unanswered was fits = plain_answers x y a unanswered call refl refl refl was

-- ---- at each place of a run

module _ (r : Run) (end : World) (honest : IsHonest r) (run : IsRun r end) (side : Side) where
  abbrev l : Lens
  l = lens_of r side

  abbrev first : Challenged
  first = record { watch = watch_from (end_at side r.start) (given_of r side); unanswered = [] }

  -- within what is known of that is the observer's watch
  same_watch : (told : List Told) (q : Challenged) → (folded (challenged_told l) told q).watch ≡ folded (watch_told l) told q.watch
  same_watch [] q = refl
  same_watch (t ∷ told) q = same_watch told (challenged_told l t q)

  own_watch : (i : ℕ) → (challenged r side i).watch ≡ watch r side i
  own_watch i = same_watch (until r side i) first

  -- while the end is open, what waits is so
  abbrev pub AnswersThen : ℕ → World → Type 0
  AnswersThen i w = (end_at side w).closing.state ≡ states.Open → WaitsSo (challenged r side i).unanswered (end_at side w).waiting.signals.response

  made_none : (side : Side) (settings : Settings) (windows : Windows) (theirs : ParameterValues) (own_id peer_id : List ℕ) (remote now : ℕ) (validated : Bool) (words : ℕ → ℕ) → (new_end side settings windows theirs own_id peer_id remote now validated words).waiting.signals.response ≡ None
  made_none side settings windows theirs own_id peer_id remote now true words = refl
  made_none side settings windows theirs own_id peer_id remote now false words = refl

  answers_first : AnswersThen zero r.start
  answers_first opened = subst First (sym (told_none side r.events r.views (end_at side r.start).closing.state)) (subst (λ (o : Option Response). WaitsSo [] o) (sym none) (λ challenge i. i))
    where
      x : Making
      x = making_at side r.start honest.start

      other : Making
      other = making_at (other_side side) r.start honest.start

      none : (end_at side r.start).waiting.signals.response ≡ None
      none = ap (λ (e : End). e.waiting.signals.response) (start_is r.start honest.start side) ∙ made_none side x.settings x.windows (parameters_of other.settings) x.id other.id x.remote x.moment x.validated x.words

      First : List Told → Type 0
      First told = WaitsSo (folded (challenged_told l) told first).unanswered (end_at side r.start).waiting.signals.response

  -- a call of its own
  module _ (i : ℕ) (call : Call) (a : Answer) (w next : World) (m : IsMade r i side call a w next) (leads : LeadsTo r (suc i) next) (still : (end_at side next).closing.state ≡ states.Open) where
    abbrev x : Party
    x = clause.x r end honest run side i call a w next m leads still

    abbrev y : Party
    y = clause.y r end honest run side i call a w next m leads still

    abbrev behind : Party
    behind = clause.behind r end honest run side i call a w next m leads still

    c : Calls Observed x y call a
    c = less_calls All Observed (λ x y h. (h.0.0.0, h.0.1)) x y call a (whole All r i side call a w (clause.h r end honest run side i call a w next m leads still))

    abbrev ss : List Sent
    ss = sents_by x.policy x.end call a

    abbrev before : Watch
    before = watch r side i

    abbrev after : Watch
    after = watch r side (suc i)

    abbrev unanswered : List Challenge
    unanswered = (challenged r side i).unanswered

    -- what goes at the call is what the end gives
    goes : went before after ≡ ss
    goes =
        let h = clause.h r end honest run side i call a w next m leads still in
        went_is before after ss
        (ap (λ (u : Watch). u.own) h.seen_behind
        ∙ c.gives_behind.1.own
        ∙ ap (λ (ts : List Sent). ts ++ ss) (sym c.gives.1.own ∙ ap (λ (u : Watch). u.own) (sym h.seen)))

    abbrev came : List Packet
    came = news (came_to x y) (came_to behind y)

    -- what is known behind it
    open_next : (challenged r side (suc i)).unanswered ≡ asked_behind call ss came behind.end.path.remote (has_moved x.end behind.end) unanswered
    open_next =
        let t : Told = told_of call a (state_at r side i) in
        let next_is : challenged r side (suc i) ≡ challenged_told l t (challenged r side i) = ap (λ (ts : List Told). folded (challenged_told l) ts first) (own_told r end run side i call a w next m) ∙ folded_more (challenged_told l) (until r side i) t first in
        let after_is : watch_told l t (challenged r side i).watch ≡ after = ap (λ (q : Challenged). q.watch) (sym next_is) ∙ own_watch (suc i) in
        ap (λ (q : Challenged). q.unanswered) next_is
        ∙ ap (λ (u : Watch). open_behind call (went (challenged r side i).watch u) (news (challenged r side i).watch.intake u.intake) (challenged r side i).watch u unanswered) after_is
        ∙ ap (λ (u : Watch). open_behind call (went u after) (news u.intake after.intake) u after unanswered) (own_watch i)
        ∙ ap (λ (ts : List Sent). open_behind call ts (news before.intake after.intake) before after unanswered) goes
        ∙ ap (λ (ps : List Packet). asked_behind call ss ps after.route.address (has_changed before after) unanswered) (clause.news_are r end honest run side i call a w next m leads still)
        ∙ ap (λ (b : Bool). asked_behind call ss came after.route.address b unanswered) (clause.changes r end honest run side i call a w next m leads still)
        ∙ ap (λ (n : ℕ). asked_behind call ss came n (has_moved x.end behind.end) unanswered) ((routed_at r end honest run side (suc i) next m.served leads).address ∙ ap (λ (e : End). e.path.remote) (clause.left r end honest run side i call a w next m leads still))

    -- that a poll reads its window changes nothing of it
    reads : x.end.waiting.signals.response ≡ (end_at side w).waiting.signals.response
    reads = reads_either (λ (e : End). e.waiting.signals.response ≡ (end_at side w).waiting.signals.response) (control_at side w) (heard_at side w) call (end_at side w) refl refl

    still_open : behind.end.closing.state ≡ states.Open
    still_open = clause.open_behind r end honest run side i call a w next m leads still

    abbrev WaitsNow : List Challenge → Type 0
    WaitsNow qs = WaitsSo qs behind.end.waiting.signals.response

    own_answers : AnswersThen i w → WaitsSo (challenged r side (suc i)).unanswered (end_at side next).waiting.signals.response
    own_answers was =
        subst (λ (e : End). WaitsSo (challenged r side (suc i)).unanswered e.waiting.signals.response) (sym (clause.left r end honest run side i call a w next m leads still))
        (subst WaitsNow (sym open_next) (call_answers call a x y c still_open unanswered (subst (λ (o : Option Response). WaitsSo unanswered o) (sym reads) (was (clause.open_there r end honest run side i call a w next m leads still))) (λ s among. (clause.h r end honest run side i call a w next m leads still).takes.1.answers s among)))

  other_answers : (i : ℕ) (event : RunEvent) (a : Answer) (w next : World) → slice_get r.events i ≡ Some event → same_side event.side side ≡ false → IsStep r.keys w event a next → until r side (suc i) ≡ until r side i → AnswersThen i w → AnswersThen (suc i) next
  other_answers i event a w next at other step told before still =
      let same = (step_leaves side r.keys w next event a other step).end in
      subst (λ (ts : List Told). WaitsSo (folded (challenged_told l) ts first).unanswered (end_at side next).waiting.signals.response) (sym told)
      (subst (λ (e : End). WaitsSo (challenged r side i).unanswered e.waiting.signals.response) (sym same) (before (sym (ap (λ (e : End). e.closing.state) same) ∙ still)))

  -- at each place
  pub answers_at : (i : ℕ) (w : World) → i ≤ length r.views → AreServed r i → LeadsTo r i w → AnswersThen i w
  answers_at = along r end run side AnswersThen (record { first = answers_first; own = λ i call a w next m leads was still. own_answers i call a w next m leads still was; other = other_answers })
