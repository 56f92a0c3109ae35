-- Where an end is to ask its peer by what its observer knows, a challenge waits to be sent, unless
-- it asked as often as it may: at each place of an honest run.
use Rattle.std.proofs.Common.{◌≡◌, ◌⊎◌, ℕ, zero, suc, ◌≤◌, Bool, true, false, ◌||◌, nat_lt, List, map, length, Option, Some, None, Ok, refl, sym, ap, ◌∙◌, subst, inl, inr, arith}
use Rattle.std.specs.Prelude.{if◌then◌else◌, slice_get}
use Rattle.std.specs.Option.{is_some}
use Rattle.std.proofs.lemmas.Bool.{ltb-true, ltb-false}
use Rattle.quic_wire_core.specs.declared.shared.EcnCodepoint.{EcnCodepoint}
use Rattle.quic_wire_core.specs.declared.stream_id.Side.{Side}
use Rattle.quic_wire_core.specs.StreamId.{other_side}
use Rattle.quic_wire.specs.Value.{FrameValue}
use Rattle.quic_packet.specs.Datagram.{Opening}
use Rattle.quic_parameters.specs.Parameters.{ParameterValues}
use Rattle.quic_config.specs.Transport.{Settings, parameters_of}
use Rattle.quic_paths.specs.Paths.{is_asked}
use Rattle.quic_machine.specs.declared.answers.State.TheVariants as states
use Rattle.quic_machine.specs.declared.run.RunEvent.{RunEvent}
use Rattle.quic_machine.specs.declared.run.Call.{Call}
use Rattle.quic_machine.specs.declared.run.Call.TheVariants as calls
use Rattle.quic_machine.specs.declared.run.Answer.{Answer}
use Rattle.quic_machine.specs.declared.run.Answer.TheVariants as answers
use Rattle.quic_machine.specs.Parts.{Windows, Validation}
use Rattle.quic_machine.specs.Policy.{Policy}
use Rattle.quic_machine.specs.Start.{Making}
use Rattle.quic_machine.specs.Validation.{word_of, most_challenges}
use Rattle.quic_machine.specs.End.{End, new_end}
use Rattle.quic_machine.specs.Migration.{migrated, has_moved}
use Rattle.quic_machine.specs.Poll.{polled}
use Rattle.quic_machine.specs.Receive.{Outcome, asks_in}
use Rattle.quic_machine.specs.FrameCases.{passed, begun}
use Rattle.quic_machine.specs.Machine.{World, IsStep, after_call, end_at, gave}
use Rattle.quic_headline.specs.Runs.{Run, Told, Intake, same_side, folded, until, LeadsTo, AreServed}
use Rattle.quic_headline.specs.Observer.{Sent, lens_of}
use Rattle.quic_headline.specs.Headline.{IsHonest, IsRun}
use Rattle.quic_headline.specs.Amounts.{making_at}
use Rattle.quic_headline.specs.Expiring.{questions_at_first}
use Rattle.quic_headline.specs.Polls.{IsMade}
use Rattle.quic_headline.specs.Telling.{shows_validated}
use Rattle.quic_headline.specs.Waited.{stands, is_path_challenge}
use Rattle.quic_headline.specs.Validated.{Asking, asking_told, first_asking, asking, asked_by}
use Rattle.quic_headline.proofs.Packets.Delivered.{ArrivalsFrom, arrived}
use Rattle.quic_headline.proofs.Packets.Moving.{by_asked, by_answer}
use Rattle.quic_headline.proofs.Packets.Group.{meets}
use Rattle.quic_headline.proofs.Places.Steps.{poll_answer}
use Rattle.quic_headline.proofs.Places.Parties.{sent_by, sent_if, sents_by, Party, called, came_to}
use Rattle.quic_headline.proofs.Places.Groups.{Calls}
use Rattle.quic_headline.proofs.Places.Coming.{by_coming_from}
use Rattle.quic_headline.proofs.Places.Placed.{start_is}
use Rattle.quic_headline.proofs.Moves.Kept.{apart_stays, polled_stays, same_path}
use Rattle.quic_headline.proofs.Moves.Comes.{Leads, those, urges, arrivals_lead}
use Rattle.quic_headline.proofs.Rest.Between.{step_leaves}
use Rattle.quic_headline.proofs.Steps.Along.{along}
use Rattle.quic_headline.proofs.Timers.Watched.{Observed}
use Rattle.quic_headline.proofs.Timers.PathMoments as path
use Rattle.quic_headline.proofs.Validated.Standing.{Standing, standing, answered_if, asked_no_more, taken_stands, next_stands, call_stands, frames_stand}
use Rattle.quic_headline.proofs.Validated.Went.{Went, LeftSo, polled_left}
use Rattle.quic_headline.proofs.Validated.Asking as asks

-- ---- what waits

-- Where the address isn't validated, and the end is to ask, a challenge waits, or no more are made.
abbrev pub WaitsIf : Bool → Standing → Type 0
WaitsIf renewed s = s.validated ≡ false → renewed ≡ true → (is_some s.asked.waits ≡ true) ⊎ (most_challenges ≤ s.asked.validation.drawn)

-- so it is whether or not it is to ask, where it does where it is
whenever : (renewed : Bool) (s : Standing) → WaitsIf true s → WaitsIf renewed s
whenever renewed s i unvalidated is = i unvalidated refl

module _ (renewed : Bool) where
  -- of an end that asked so often
  abbrev Keeps : ℕ → Standing → Type 0
  Keeps drawn s = (s.asked.validation.drawn ≡ drawn) × WaitsIf renewed s

  -- PATH_RESPONSE validates it, or does nothing
  answered_keeps : (drawn : ℕ) (b : Bool) (s : Standing) → Keeps drawn s → Keeps drawn (answered_if b s)
  answered_keeps drawn true s i = (i.0, λ unvalidated is. cc)
  answered_keeps drawn false s i = i

  -- a packet of which all was taken
  frames_keep_waits : (drawn : ℕ) (fs : List FrameValue) (e : End) → (passed fs e).fault ≡ None → Keeps drawn (standing e) → Keeps drawn (standing (passed fs e).end)
  frames_keep_waits drawn fs e none i = frames_stand (λ (left : List FrameValue) (s : Standing). Keeps drawn s) (λ token left s j. answered_keeps drawn (is_asked s.asked.validation.challenge (word_of token)) s j) (λ f left s other j. j) fs e none i

  -- where the peer isn't asked anew any more
  stopped_keeps : (drawn : ℕ) (s : Standing) → Keeps drawn s → Keeps drawn (asked_no_more s)
  stopped_keeps drawn s i = (i.0, λ unvalidated is. i.1 unvalidated is)

  -- where the peer moved, a challenge waits
  moved_waits : (p : Policy) (o : Opening) (remote : ℕ) (e : End) → WaitsIf true (standing (migrated p o remote e))
  moved_waits p o remote e =
      by_asked Waits p o remote e (λ may unvalidated is. inl refl) (λ may unvalidated is. inr (ltb-false e.validation.drawn most_challenges may))
      (λ x j. next_stands (λ (s : Standing). WaitsIf true s) x (answers.UseNextId (Ok tt)) j) (λ token x j. j) (λ token x among j. by_answer Waits (λ y k unvalidated is. cc) token x j)
    where
      Waits : End → Type 0
      Waits x = WaitsIf true (standing x)

  -- what a delivery leaves
  abbrev Goes : End → End → Intake → Type 0
  Goes e = Leads e (λ (f : End) (j : Intake). Keeps e.validation.drawn (standing f)) (λ (f : End) (j : Intake). WaitsIf true (standing f))

  arrivals_wait : (remote : ℕ) (mark : Option EcnCodepoint) (e : End) (now n : ℕ) (frames : List FrameValue) (i : Intake) → WaitsIf renewed (standing e) → ArrivalsFrom remote mark e now n frames i (λ (o : Outcome) (j : Intake). o.end.closing.state ≡ states.Open → Goes e o.end j)
  arrivals_wait remote mark e now n frames i was =
      arrivals_lead remote mark e now n frames (λ (f : End) (j : Intake). Keeps e.validation.drawn (standing f)) (λ (f : End) (j : Intake). WaitsIf true (standing f)) i (refl, was)
      (λ words none. taken_stands (Keeps e.validation.drawn) n (asks_in (map Ok frames)) (urges remote mark e now n frames) mark (arrived e now n (those remote mark e now n frames)).end (frames_keep_waits e.validation.drawn (those remote mark e now n frames) (begun e now n) none (refl, was)))
      (λ p o same away x waits. moved_waits p o remote x)

  -- a moment: it asks as it did, or another word waits
  timeout_waits : (p : Policy) (e : End) (theirs : List (List ℕ)) (now : ℕ) (a : Answer) → WaitsIf renewed (standing e) → (let left : Standing = standing (after_call p e theirs (calls.Timeout now) a) in Keeps e.validation.drawn left ⊎ WaitsIf true left)
  timeout_waits p e theirs now a was = call_stands (λ (s : Standing). Keeps e.validation.drawn s ⊎ WaitsIf true s) p e theirs (calls.Timeout now) a refl refl
      (λ is n moment s j. inr (λ unvalidated again. inl refl))
      (λ s j. elim j [ inl same ↦ inl (stopped_keeps e.validation.drawn s same) | inr more ↦ inr (λ unvalidated again. more unvalidated again) ])
      (inl (refl, was))

  -- a poll
  went_waits : (e f : End) (ss : List Sent) → LeftSo e f ss → WaitsIf renewed (standing e) → WaitsIf (if stands is_path_challenge ss then false else renewed) (standing f)
  went_waits e f ss left i unvalidated = go left.went
    where
      go : Went e.waiting.signals.challenge f.waiting.signals.challenge (stands is_path_challenge ss) (asked_by ss) → (if stands is_path_challenge ss then false else renewed) ≡ true → (is_some f.waiting.signals.challenge ≡ true) ⊎ (most_challenges ≤ f.validation.drawn)
      go (inl none) is = elim (i (sym left.validated ∙ unvalidated) (sym (ap (λ (b : Bool). if b then false else renewed) none.none) ∙ is)) [
        | inl waits ↦ inl (ap (λ (o : Option ℕ). is_some o) none.same ∙ waits)
        | inr many ↦ inr (subst (λ (v : Validation). most_challenges ≤ v.drawn) (sym left.validation) many)
      ]
      go (inr one) is = absurd (let clash : false ≡ true = sym (ap (λ (b : Bool). if b then false else renewed) one.some) ∙ is in cc)

  -- ---- any call

  -- it asked as often, on the same path, and waits as it did but for what went
  record AsBefore (e f : End) (ss : List Sent) : Type 0 where
    drawn : f.validation.drawn ≡ e.validation.drawn
    stays : has_moved e f ≡ false
    waits : WaitsIf (if stands is_path_challenge ss then false else renewed) (standing f)

  call_waits : (x y : Party) (call : Call) (a : Answer) → Calls Observed x y call a → (called x y.given call a).end.closing.state ≡ states.Open → WaitsIf renewed (standing x.end)
      → AsBefore x.end (called x y.given call a).end (sents_by x.policy x.end call a) ⊎ WaitsIf true (standing (called x y.given call a).end)
  call_waits x y (calls.Poll now) a c still was = inl (go (subst (λ (b : Answer). LeftSo x.end (polled x.policy x.end now).end (sent_if (gave b) (sent_by x.policy x.end now))) (sym (poll_answer x.policy x.end now a c.answer c.served)) (polled_left x.policy x.end now still)))
    where
      go : LeftSo x.end (polled x.policy x.end now).end (sents_by x.policy x.end (calls.Poll now) a) → AsBefore x.end (polled x.policy x.end now).end (sents_by x.policy x.end (calls.Poll now) a)
      go left = record {
        drawn = ap (λ (v : Validation). v.drawn) left.validation;
        stays = same_path x.end (polled x.policy x.end now).end (polled_stays x.policy x.end now);
        waits = went_waits x.end (polled x.policy x.end now).end (sents_by x.policy x.end (calls.Poll now) a) left was;
      }
  call_waits x y (calls.Timeout now) a c still was = elim (timeout_waits x.policy x.end y.given now a was) [
    | inl same ↦ inl (record { drawn = same.0; stays = same_path x.end (called x y.given (calls.Timeout now) a).end (apart_stays x.policy x.end y.given (calls.Timeout now) a refl); waits = same.1 })
    | inr more ↦ inr more
  ]
  call_waits x y (calls.Deliver delivery) a c still was = elim came [
    | inl same ↦ inl (record { drawn = same.1.0; stays = same.0; waits = same.1.1 })
    | inr moved ↦ inr moved.1
  ]
    where
      came : Goes x.end (called x y.given (calls.Deliver delivery) a).end (came_to (called x y.given (calls.Deliver delivery) a) y)
      came = by_coming_from x y a c.joined c.served (meets y x c.takes.0) (λ (b : Answer) (e : End) (j : Intake). e.closing.state ≡ states.Open → Goes x.end e j) (calls.Deliver delivery) c.answer (record {
        apart = λ apart. cc;
        none = λ other is opened. inl (same_path x.end x.end refl, (refl, was));
        comes = λ other is s among. arrivals_wait other.remote other.ecn x.end other.now s.number s.frames (came_to x y) was;
      }) still
  call_waits x y call a c still was =
      let same = call_stands (Keeps x.end.validation.drawn) x.policy x.end y.given call a refl refl (λ is n moment s j. cc) (stopped_keeps x.end.validation.drawn) (refl, was) in
      inl (record { drawn = same.0; stays = same_path x.end (called x y.given call a).end (apart_stays x.policy x.end y.given call a refl); waits = same.1 })

-- ---- at each place of a run

made_waits : (side : Side) (settings : Settings) (windows : Windows) (theirs : ParameterValues) (own_id peer_id : List ℕ) (remote now : ℕ) (validated : Bool) (words : ℕ → ℕ) → WaitsIf true (standing (new_end side settings windows theirs own_id peer_id remote now validated words))
made_waits side settings windows theirs own_id peer_id remote now true words = λ unvalidated is. cc
made_waits side settings windows theirs own_id peer_id remote now false words = λ unvalidated is. inl refl

module _ (r : Run) (end : World) (honest : IsHonest r) (run : IsRun r end) (side : Side) where
  -- while the end is open, it waits so
  abbrev pub WaitsThen : ℕ → World → Type 0
  WaitsThen i w = (end_at side w).closing.state ≡ states.Open → WaitsIf (asking r side i).renewed (standing (end_at side w))

  waits_first : WaitsThen zero r.start
  waits_first opened = whenever (asking r side zero).renewed (standing (end_at side r.start)) (subst (λ (e : End). WaitsIf true (standing e)) (sym (start_is r.start honest.start side))
      (made_waits side x.settings x.windows (parameters_of other.settings) x.id other.id x.remote x.moment x.validated x.words))
    where
      x : Making
      x = making_at side r.start honest.start

      other : Making
      other = making_at (other_side side) r.start honest.start

  -- a call of its own
  module _ (i : ℕ) (call : Call) (a : Answer) (w next : World) (m : IsMade r i side call a w next) (leads : LeadsTo r (suc i) next) (still : (end_at side next).closing.state ≡ states.Open) where
    abbrev x : Party
    x = asks.x r end honest run side i call a w next m leads still

    abbrev y : Party
    y = asks.y r end honest run side i call a w next m leads still

    abbrev behind : End
    behind = asks.behind r end honest run side i call a w next m leads still

    abbrev ss : List Sent
    ss = asks.ss r end honest run side i call a w next m leads still

    abbrev known : Asking
    known = asking r side i

    abbrev more : Bool
    more = asks.more r end honest run side i call a w next m leads still

    abbrev moved : Bool
    moved = asks.moved r end honest run side i call a w next m leads still

    own_waits : WaitsThen i w → WaitsIf (asking r side (suc i)).renewed (standing (end_at side next))
    own_waits before = subst (λ (s : Standing). WaitsIf (asking r side (suc i)).renewed s) (sym (ap (λ (e : End). standing e) (path.leaves r end honest run side i call a w next m leads still)))
        (elim (call_waits known.renewed x y call a (path.c r end honest run side i call a w next m leads still) (path.open_behind r end honest run side i call a w next m leads still) was) [
          | inl same ↦ subst (λ (b : Bool). WaitsIf b (standing behind)) (sym (as_before same.drawn same.stays)) same.waits
          | inr anew ↦ whenever (asking r side (suc i)).renewed (standing behind) anew
        ])
      where
        was : WaitsIf known.renewed (standing x.end)
        was = subst (λ (s : Standing). WaitsIf known.renewed s) (sym (path.reads r end honest run side i call a w next m leads still)) (before (path.open_here r end honest run side i call a w next m leads still))

        -- the observer knows of no more
        none_more : behind.validation.drawn ≡ x.end.validation.drawn → more ≡ false
        none_more same =
            let first = asks.counts_before r end honest run side i call a w next m leads still in
            let last = asks.counts_behind r end honest run side i call a w next m leads still in
            not_below (asking r side i).questions.count (asks.later r end honest run side i call a w next m leads still).count (first ∙ sym same ∙ sym last)
          where
            not_below : (n k : ℕ) → n ≡ k → nat_lt n k ≡ false
            not_below n k is = go (nat_lt n k) refl
              where
                go : (b : Bool) → nat_lt n k ≡ b → nat_lt n k ≡ false
                go true lt = (let below = ltb-true n k lt in absurd (omega (arith, below, is)))
                go false lt = lt

        as_before : behind.validation.drawn ≡ x.end.validation.drawn → has_moved x.end behind ≡ false → (asking r side (suc i)).renewed ≡ (if stands is_path_challenge ss then false else known.renewed)
        as_before same stays =
            ap (λ (b : Asking). b.renewed) (asks.asking_next r end honest run side i call a w next m leads still)
            ∙ ap (λ (b : Bool). if stands is_path_challenge ss then false else b || (moved || known.renewed)) (none_more same)
            ∙ ap (λ (b : Bool). if stands is_path_challenge ss then false else b || known.renewed) (asks.moved_same r end honest run side i call a w next m leads still ∙ stays)

  other_waits : (i : ℕ) (event : RunEvent) (a : Answer) (w next : World) → slice_get r.events i ≡ Some event → same_side event.side side ≡ false → IsStep r.keys w event a next → until r side (suc i) ≡ until r side i → WaitsThen i w → WaitsThen (suc i) next
  other_waits i event a w next at other step told before still =
      let same = (step_leaves side r.keys w next event a other step).end in
      let unchanged : (asking r side (suc i)).renewed ≡ (asking r side i).renewed = ap (λ (ts : List Told). (folded (asking_told (lens_of r side) (shows_validated r side)) ts (first_asking (questions_at_first r side))).renewed) told in
      subst (λ (b : Bool). WaitsIf b (standing (end_at side next))) (sym unchanged)
      (subst (λ (e : End). WaitsIf (asking r side i).renewed (standing e)) (sym same) (before (sym (ap (λ (e : End). e.closing.state) same) ∙ still)))

  -- at each place
  pub waits_at : (i : ℕ) (w : World) → i ≤ length r.views → AreServed r i → LeadsTo r i w → WaitsThen i w
  waits_at = along r end run side WaitsThen (record { first = waits_first; own = λ i call a w next m leads before still. own_waits i call a w next m leads still before; other = other_waits })
