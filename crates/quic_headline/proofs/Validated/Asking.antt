-- What an end asks of its peer, by what its observer knows: the word of the latest challenge waits, and
-- other data may be asked for, or it went last; or nothing is asked any more. So it is at each place of
-- a run.
use Rattle.std.proofs.Common.{◌≡◌, ◌⊎◌, ℕ, zero, suc, ◌+◌, ◌<◌, ◌≤◌, nat_lt, Bool, true, false, ◌||◌, List, [], ◌∷◌, ◌++◌, length, map, Option, Some, None, Ok, refl, sym, ap, ◌∙◌, subst, inl, inr, arith}
use Rattle.std.specs.Prelude.{if◌then◌else◌, slice_get}
use Rattle.std.proofs.lemmas.Bool.{lt-ltb, or_left, or_right}
use Rattle.std.proofs.lemmas.Option.{slice_get_within}
use Rattle.quic_wire_core.specs.declared.shared.EcnCodepoint.{EcnCodepoint}
use Rattle.quic_wire_core.specs.declared.stream_id.Side.{Side}
use Rattle.quic_wire_core.specs.StreamId.{other_side}
use Rattle.quic_wire.specs.Value.{FrameValue}
use Rattle.quic_packet.specs.Datagram.{Opening}
use Rattle.quic_parameters.specs.Parameters.{ParameterValues}
use Rattle.quic_config.specs.Transport.{Settings, parameters_of}
use Rattle.quic_paths.specs.Paths.{is_asked}
use Rattle.quic_machine.specs.declared.answers.State.TheVariants as states
use Rattle.quic_machine.specs.declared.run.RunEvent.{RunEvent}
use Rattle.quic_machine.specs.declared.run.Call.{Call}
use Rattle.quic_machine.specs.declared.run.Call.TheVariants as calls
use Rattle.quic_machine.specs.declared.run.Answer.{Answer}
use Rattle.quic_machine.specs.declared.run.Answer.TheVariants as answers
use Rattle.quic_machine.specs.Policy.{Policy}
use Rattle.quic_machine.specs.Parts.{Windows, Validation}
use Rattle.quic_machine.specs.Start.{Making}
use Rattle.quic_machine.specs.Validation.{token_of, word_of}
use Rattle.quic_machine.specs.End.{End, words_drawn, silent_end, new_end}
use Rattle.quic_machine.specs.Migration.{migrated, has_moved}
use Rattle.quic_machine.specs.Poll.{polled}
use Rattle.quic_machine.specs.Receive.{Outcome, asks_in}
use Rattle.quic_machine.specs.FrameCases.{passed, begun}
use Rattle.quic_machine.specs.Machine.{World, IsStep, after_call, end_at, gave}
use Rattle.quic_headline.specs.Runs.{Run, Told, Intake, same_side, folded, until, state_at, LeadsTo, AreServed}
use Rattle.quic_headline.specs.Observer.{Sent, Watch, Lens, watch, lens_of, has_changed}
use Rattle.quic_headline.specs.Headline.{IsHonest, IsRun}
use Rattle.quic_headline.specs.Amounts.{making_at}
use Rattle.quic_headline.specs.Moments.{went}
use Rattle.quic_headline.specs.Polls.{IsMade}
use Rattle.quic_headline.specs.Telling.{shows_validated}
use Rattle.quic_headline.specs.Expiring.{Questions, questions_told, questions_at_first, questions}
use Rattle.quic_headline.specs.Waited.{stands, is_path_challenge}
use Rattle.quic_headline.specs.Validated.{asked_by, Asking, asking_behind, asking_told, first_asking, asking}
use Rattle.quic_headline.proofs.Packets.Intakes.{folded_more}
use Rattle.quic_headline.proofs.Packets.Delivered.{ArrivalsFrom, arrived}
use Rattle.quic_headline.proofs.Packets.Moving.{there, by_asked, by_answer}
use Rattle.quic_headline.proofs.Packets.Group.{meets}
use Rattle.quic_headline.proofs.Places.Moments.{told_none}
use Rattle.quic_headline.proofs.Places.Steps.{poll_answer}
use Rattle.quic_headline.proofs.Places.Parties.{sent_by, sent_if, sents_by, told_of, Party, called, came_to}
use Rattle.quic_headline.proofs.Places.Groups.{Calls}
use Rattle.quic_headline.proofs.Places.Coming.{by_coming_from}
use Rattle.quic_headline.proofs.Places.Placed.{start_is}
use Rattle.quic_headline.proofs.Moves.Kept.{same_path}
use Rattle.quic_headline.proofs.Moves.Comes.{Leads, those, urges, arrivals_lead}
use Rattle.quic_headline.proofs.Rest.Between.{step_leaves}
use Rattle.quic_headline.proofs.Steps.Made.{served_before}
use Rattle.quic_headline.proofs.Steps.Along.{own_told, stands_within, view_there, along}
use Rattle.quic_headline.proofs.Timers.Watched.{Observed, went_is}
use Rattle.quic_headline.proofs.Timers.PathMoments as path
use Rattle.quic_headline.proofs.Validated.Standing.{Standing, standing, answered_if, asked_no_more, taken_stands, next_stands, call_stands, frames_stand}
use Rattle.quic_headline.proofs.Validated.Went.{Went, LeftSo, polled_left}

-- ---- what is asked

-- By what an observer knows an end asks a word of its peer. It waits to be sent, and other data may
-- be asked for; or it was sent last.
pub record Asks (latest : Option (List ℕ)) (renewed : Bool) (s : Standing) : Type 0 where
  pub word : ℕ
  pub asked : s.asked.validation.challenge ≡ Some word
  pub either : ((s.asked.waits ≡ Some word) × (renewed ≡ true)) ⊎ ((s.asked.waits ≡ None) × (latest ≡ Some (token_of word)))

-- Or it asks nothing: its peer moved when it had asked as often as it may.
pub record Silent (renewed : Bool) (s : Standing) : Type 0 where
  pub asked : s.asked.validation.challenge ≡ None
  pub waits : s.asked.waits ≡ None
  pub again : renewed ≡ true

-- so it is where the address of the peer isn't validated
abbrev pub AsksSo : Option (List ℕ) → Bool → Standing → Type 0
AsksSo latest renewed s = s.validated ≡ false → Asks latest renewed s ⊎ Silent renewed s

module _ (latest : Option (List ℕ)) (renewed : Bool) where
  -- PATH_RESPONSE validates it, or does nothing
  answered_asks : (b : Bool) (s : Standing) → AsksSo latest renewed s → AsksSo latest renewed (answered_if b s)
  answered_asks true s i = λ unvalidated. cc
  answered_asks false s i = i

  -- a packet of which all was taken
  frames_ask : (fs : List FrameValue) (e : End) → (passed fs e).fault ≡ None → AsksSo latest renewed (standing e) → AsksSo latest renewed (standing (passed fs e).end)
  frames_ask fs e none i = frames_stand (λ (left : List FrameValue) (s : Standing). AsksSo latest renewed s) (λ token left s j. answered_asks (is_asked s.asked.validation.challenge (word_of token)) s j) (λ f left s other j. j) fs e none i

  -- where the peer isn't asked anew any more
  stopped_asks : (s : Standing) → AsksSo latest renewed s → AsksSo latest renewed (asked_no_more s)
  stopped_asks s i = λ unvalidated. elim (i unvalidated) [
    | inl j ↦ inl (record { word = j.word; asked = j.asked; either = j.either })
    | inr none ↦ inr (record { asked = none.asked; waits = none.waits; again = none.again })
  ]

  -- it is so where more lets other data be asked for
  renewed_asks : (more : Bool) (s : Standing) → AsksSo latest renewed s → AsksSo latest (more || renewed) s
  renewed_asks more s i = λ unvalidated. elim (i unvalidated) [
    | inl j ↦ inl (record { word = j.word; asked = j.asked; either = elim j.either [ inl waits ↦ inl (waits.0, or_right more renewed waits.1) | inr went ↦ inr went ] })
    | inr none ↦ inr (record { asked = none.asked; waits = none.waits; again = or_right more renewed none.again })
  ]

  -- where the peer moved, other data may be asked for
  moved_asks : (p : Policy) (o : Opening) (remote : ℕ) (e : End) → AsksSo latest true (standing (migrated p o remote e))
  moved_asks p o remote e =
      by_asked Asked p o remote e (λ may unvalidated. inl (record { word = p.words (words_drawn (there remote e)); asked = refl; either = inl (refl, refl) })) (λ may unvalidated. inr (record { asked = refl; waits = refl; again = refl }))
      (λ x j. next_stands (λ (s : Standing). AsksSo latest true s) x (answers.UseNextId (Ok tt)) j) (λ token x j. j) (λ token x among j. by_answer Asked (λ y k unvalidated. cc) token x j)
    where
      Asked : End → Type 0
      Asked x = AsksSo latest true (standing x)

  -- what a delivery leaves
  abbrev Goes : End → End → Intake → Type 0
  Goes e = Leads e (λ (f : End) (j : Intake). AsksSo latest renewed (standing f)) (λ (f : End) (j : Intake). AsksSo latest true (standing f))

  arrivals_ask : (remote : ℕ) (mark : Option EcnCodepoint) (e : End) (now n : ℕ) (frames : List FrameValue) (i : Intake) → AsksSo latest renewed (standing e) → ArrivalsFrom remote mark e now n frames i (λ (o : Outcome) (j : Intake). o.end.closing.state ≡ states.Open → Goes e o.end j)
  arrivals_ask remote mark e now n frames i was =
      arrivals_lead remote mark e now n frames (λ (f : End) (j : Intake). AsksSo latest renewed (standing f)) (λ (f : End) (j : Intake). AsksSo latest true (standing f)) i was
      (λ words none. taken_stands (λ (s : Standing). AsksSo latest renewed s) n (asks_in (map Ok frames)) (urges remote mark e now n frames) mark (arrived e now n (those remote mark e now n frames)).end (frames_ask (those remote mark e now n frames) (begun e now n) none was))
      (λ p o same away x asked. moved_asks p o remote x)

  -- An end of which so many words were drawn comes to a moment: it asks as it did, or another word
  -- waits.
  abbrev Renews : ℕ → Standing → Type 0
  Renews drawn s = ((s.asked.validation.drawn ≡ drawn) × AsksSo latest renewed s) ⊎ ((drawn < s.asked.validation.drawn) × Asks latest true s)

  timeout_renews : (p : Policy) (e : End) (theirs : List (List ℕ)) (now : ℕ) (a : Answer) → AsksSo latest renewed (standing e) → Renews e.validation.drawn (standing (after_call p e theirs (calls.Timeout now) a))
  timeout_renews p e theirs now a was = call_stands (Renews e.validation.drawn) p e theirs (calls.Timeout now) a refl refl
      (λ is n moment s j. inr (rises s j, record { word = p.words n; asked = refl; either = inl (refl, refl) }))
      (λ s j. elim j [ inl same ↦ inl (same.0, stopped_asks s same.1) | inr more ↦ inr (more.0, record { word = more.1.word; asked = more.1.asked; either = more.1.either }) ])
      (inl (refl, was))
    where
      rises : (s : Standing) → Renews e.validation.drawn s → e.validation.drawn < s.asked.validation.drawn + 1
      rises s j = elim j [ inl same ↦ (let is = same.0 in omega arith) | inr more ↦ (let above = more.0 in omega arith) ]

  -- a poll
  went_asks : (e f : End) (ss : List Sent) → LeftSo e f ss → AsksSo latest renewed (standing e) → AsksSo (asked_by ss latest) (if stands is_path_challenge ss then false else renewed) (standing f)
  went_asks e f ss left i = λ unvalidated. go left.went (i (sym left.validated ∙ unvalidated))
    where
      now : Bool
      now = if stands is_path_challenge ss then false else renewed

      asked : {o : Option ℕ} → e.validation.challenge ≡ o → f.validation.challenge ≡ o
      asked is = ap (λ (v : Validation). v.challenge) left.validation ∙ is

      go : Went e.waiting.signals.challenge f.waiting.signals.challenge (stands is_path_challenge ss) (asked_by ss) → Asks latest renewed (standing e) ⊎ Silent renewed (standing e) → Asks (asked_by ss latest) now (standing f) ⊎ Silent now (standing f)
      go (inl none) (inl j) = inl (record {
        word = j.word;
        asked = asked j.asked;
        either = elim j.either [
          | inl waits ↦ inl (none.same ∙ waits.0, ap (λ (b : Bool). if b then false else renewed) none.none ∙ waits.1)
          | inr went ↦ inr (none.same ∙ went.0, none.before latest ∙ went.1)
        ];
      })
      go (inl none) (inr j) = inr (record { asked = asked j.asked; waits = none.same ∙ j.waits; again = ap (λ (b : Bool). if b then false else renewed) none.none ∙ j.again })
      go (inr one) (inl j) = elim j.either [
        | inl waits ↦ (
            let same : j.word ≡ one.word = (let both : Some j.word ≡ Some one.word = sym waits.0 ∙ one.is in cc) in
            inl (record { word = j.word; asked = asked j.asked; either = inr (one.gone, one.last latest ∙ ap (λ (n : ℕ). Some (token_of n)) (sym same)) }))
        | inr went ↦ absurd (let clash : ◌≡◌ {A = Option ℕ} None (Some one.word) = sym went.0 ∙ one.is in cc)
      ]
      go (inr one) (inr j) = absurd (let clash : ◌≡◌ {A = Option ℕ} None (Some one.word) = sym j.waits ∙ one.is in cc)

  -- ---- any call

  -- A moment came at which an end asks another word.
  record AsksAnew (e f : End) (ss : List Sent) : Type 0 where
    none : ss ≡ []
    more : e.validation.drawn < f.validation.drawn
    asks : Asks latest true (standing f)

  -- Or its peer moved.
  record AsksThere (e f : End) (ss : List Sent) : Type 0 where
    none : ss ≡ []
    moved : has_moved e f ≡ true
    asks : AsksSo latest true (standing f)

  -- or it asks as it did
  abbrev After : End → End → List Sent → Type 0
  After e f ss = AsksSo (asked_by ss latest) (if stands is_path_challenge ss then false else renewed) (standing f) ⊎ (AsksAnew e f ss ⊎ AsksThere e f ss)

  call_asks : (x y : Party) (call : Call) (a : Answer) → Calls Observed x y call a → (called x y.given call a).end.closing.state ≡ states.Open → AsksSo latest renewed (standing x.end) → After x.end (called x y.given call a).end (sents_by x.policy x.end call a)
  call_asks x y (calls.Poll now) a c still was = inl (went_asks x.end (polled x.policy x.end now).end (sents_by x.policy x.end (calls.Poll now) a)
      (subst (λ (b : Answer). LeftSo x.end (polled x.policy x.end now).end (sent_if (gave b) (sent_by x.policy x.end now))) (sym (poll_answer x.policy x.end now a c.answer c.served)) (polled_left x.policy x.end now still)) was)
  call_asks x y (calls.Timeout now) a c still was = elim (timeout_renews x.policy x.end y.given now a was) [
    | inl same ↦ inl same.1
    | inr more ↦ inr (inl (record { none = refl; more = more.0; asks = more.1 }))
  ]
  call_asks x y (calls.Deliver delivery) a c still was = elim came [
    | inl same ↦ inl same.1
    | inr moved ↦ inr (inr (record { none = refl; moved = moved.0; asks = moved.1 }))
  ]
    where
      came : Goes x.end (called x y.given (calls.Deliver delivery) a).end (came_to (called x y.given (calls.Deliver delivery) a) y)
      came = by_coming_from x y a c.joined c.served (meets y x c.takes.0) (λ (b : Answer) (e : End) (j : Intake). e.closing.state ≡ states.Open → Goes x.end e j) (calls.Deliver delivery) c.answer (record {
        apart = λ apart. cc;
        none = λ other is opened. inl (same_path x.end x.end refl, was);
        comes = λ other is s among. arrivals_ask other.remote other.ecn x.end other.now s.number s.frames (came_to x y) was;
      }) still
  call_asks x y call a c still was = inl (call_stands (AsksSo latest renewed) x.policy x.end y.given call a refl refl (λ is n moment s j. cc) stopped_asks was)

-- one that is made asks its first word, where the address of its peer isn't validated
first_asks : (side : Side) (settings : Settings) (windows : Windows) (theirs : ParameterValues) (own_id peer_id : List ℕ) (remote now : ℕ) (validated : Bool) (words : ℕ → ℕ) → AsksSo None true (standing (new_end side settings windows theirs own_id peer_id remote now validated words))
first_asks side settings windows theirs own_id peer_id remote now true words = λ unvalidated. cc
first_asks side settings windows theirs own_id peer_id remote now false words = λ unvalidated. inl (record { word = words (words_drawn (silent_end side settings windows theirs own_id peer_id remote now false words)); asked = refl; either = inl (refl, refl) })

-- ---- at each place of a run

-- it is so where more lets other data be asked for, unless PATH_CHALLENGE went
renewed_unless : (latest : Option (List ℕ)) (went more renewed : Bool) (s : Standing) → AsksSo latest (if went then false else renewed) s → AsksSo latest (if went then false else more || renewed) s
renewed_unless latest true more renewed s i = i
renewed_unless latest false more renewed s i = renewed_asks latest renewed more s i

module _ (r : Run) (end : World) (honest : IsHonest r) (run : IsRun r end) (side : Side) where
  abbrev l : Lens
  l = lens_of r side

  abbrev v : ℕ → Bool
  v = shows_validated r side

  -- within what is known of that is how it asked
  same_questions : (told : List Told) (a : Asking) → (folded (asking_told l v) told a).questions ≡ folded (questions_told l v) told a.questions
  same_questions [] a = refl
  same_questions (t ∷ told) a = same_questions told (asking_told l v t a)

  pub own_questions : (i : ℕ) → (asking r side i).questions ≡ questions r side i
  own_questions i = same_questions (until r side i) (first_asking (questions_at_first r side))

  -- while the end is open, it asks so
  abbrev pub AsksThen : ℕ → World → Type 0
  AsksThen i w = (end_at side w).closing.state ≡ states.Open → AsksSo (asking r side i).latest (asking r side i).renewed (standing (end_at side w))

  asks_first : AsksThen zero r.start
  asks_first opened = subst First (sym (told_none side r.events r.views (end_at side r.start).closing.state)) (subst (λ (e : End). AsksSo None true (standing e)) (sym (start_is r.start honest.start side))
      (first_asks side x.settings x.windows (parameters_of other.settings) x.id other.id x.remote x.moment x.validated x.words))
    where
      x : Making
      x = making_at side r.start honest.start

      other : Making
      other = making_at (other_side side) r.start honest.start

      First : List Told → Type 0
      First told = (let a : Asking = folded (asking_told l v) told (first_asking (questions_at_first r side)) in AsksSo a.latest a.renewed (standing (end_at side r.start)))

  -- a call of its own
  module _ (i : ℕ) (call : Call) (a : Answer) (w next : World) (m : IsMade r i side call a w next) (leads : LeadsTo r (suc i) next) (still : (end_at side next).closing.state ≡ states.Open) where
    abbrev pub x : Party
    x = path.x r end honest run side i call a w next m leads still

    abbrev pub y : Party
    y = path.y r end honest run side i call a w next m leads still

    abbrev pub behind : End
    behind = path.behind r end honest run side i call a w next m leads still

    abbrev pub ss : List Sent
    ss = sents_by x.policy x.end call a

    abbrev pub known : Asking
    known = asking r side i

    abbrev pub q : Questions
    q = questions r side i

    abbrev pub later : Questions
    later = questions r side (suc i)

    -- what goes at the call is what the end gives
    goes : went q.watch later.watch ≡ ss
    goes =
        let h = path.h r end honest run side i call a w next m leads still in
        let c = path.c r end honest run side i call a w next m leads still in
        ap (λ (u : Watch). went u later.watch) (path.own_watch r end honest run side i)
        ∙ ap (λ (u : Watch). went (watch r side i) u) (path.own_watch r end honest run side (suc i))
        ∙ went_is (watch r side i) (watch r side (suc i)) ss
        (ap (λ (u : Watch). u.own) h.seen_behind
        ∙ c.gives_behind.1.own
        ∙ ap (λ (ts : List Sent). ts ++ ss) (sym c.gives.1.own ∙ ap (λ (u : Watch). u.own) (sym h.seen)))

    -- what is known behind it
    pub asking_next : asking r side (suc i) ≡ asking_behind ss later known
    asking_next =
        let t : Told = told_of call a (state_at r side i) in
        ap (λ (ts : List Told). folded (asking_told l v) ts (first_asking (questions_at_first r side))) (own_told r end run side i call a w next m)
        ∙ folded_more (asking_told l v) (until r side i) t (first_asking (questions_at_first r side))
        ∙ ap (λ (u : Questions). asking_behind (went u.watch (questions_told l v t u).watch) (questions_told l v t u) known) (own_questions i)
        ∙ ap (λ (u : Questions). asking_behind (went q.watch u.watch) u known) (sym (path.next_is r end honest run side i call a w next m leads still))
        ∙ ap (λ (ts : List Sent). asking_behind ts later known) goes

    abbrev pub more : Bool
    more = nat_lt known.questions.count later.count

    abbrev pub moved : Bool
    moved = has_changed known.questions.watch later.watch

    -- the path changes as the observer sees it
    pub moved_same : moved ≡ has_moved x.end behind
    moved_same =
        ap (λ (u : Questions). has_changed u.watch later.watch) (own_questions i)
        ∙ ap (λ (u : Watch). has_changed q.watch u) (path.own_watch r end honest run side (suc i) ∙ sym (path.after_is r end honest run side i call a w next m leads still))
        ∙ path.changed r end honest run side i call a w next m leads still

    -- it asked as often as the end
    pub counts_before : known.questions.count ≡ x.end.validation.drawn
    counts_before =
        let before = path.asked_at r end honest run side i w (stands_within r end run side i side call a w next m) (served_before r.answers i m.served) m.leads (path.open_here r end honest run side i call a w next m leads still) in
        ap (λ (u : Questions). u.count) (own_questions i) ∙ before.asked ∙ ap (λ (s : Standing). s.asked.validation.drawn) (sym (path.reads r end honest run side i call a w next m leads still))

    pub counts_behind : later.count ≡ behind.validation.drawn
    counts_behind =
        let view = view_there r end run side i side call a w next m in
        let within = slice_get_within r.views i view.0 view.1 in
        (path.asked_at r end honest run side (suc i) next (omega (arith, within)) m.served leads still).asked ∙ ap (λ (e : End). e.validation.drawn) (path.leaves r end honest run side i call a w next m leads still)

    -- so it asked once more where the end did
    more_is : x.end.validation.drawn < behind.validation.drawn → more ≡ true
    more_is rises = (let first = counts_before in let last = counts_behind in lt-ltb known.questions.count later.count (omega (arith, first, last, rises)))

    own_asks : AsksThen i w → AsksSo (asking r side (suc i)).latest (asking r side (suc i)).renewed (standing (end_at side next))
    own_asks before =
        subst (λ (b : Asking). AsksSo b.latest b.renewed (standing (end_at side next))) (sym asking_next)
        (subst (λ (s : Standing). Behind ss s) (sym (ap (λ (e : End). standing e) (path.leaves r end honest run side i call a w next m leads still)))
        (elim (call_asks known.latest known.renewed x y call a (path.c r end honest run side i call a w next m leads still) (path.open_behind r end honest run side i call a w next m leads still) was) [
          | inl same ↦ renewed_unless (asked_by ss known.latest) (stands is_path_challenge ss) more (moved || known.renewed) (standing behind) (renewed_unless (asked_by ss known.latest) (stands is_path_challenge ss) moved known.renewed (standing behind) same)
          | inr (inl anew) ↦ silently anew.none (or_left more (moved || known.renewed) (more_is anew.more)) (λ unvalidated. inl anew.asks)
          | inr (inr other) ↦ silently other.none (or_right more (moved || known.renewed) (or_left moved known.renewed (moved_same ∙ other.moved))) other.asks
        ]))
      where
        was : AsksSo known.latest known.renewed (standing x.end)
        was = subst (λ (s : Standing). AsksSo known.latest known.renewed s) (sym (path.reads r end honest run side i call a w next m leads still)) (before (path.open_here r end honest run side i call a w next m leads still))

        Behind : List Sent → Standing → Type 0
        Behind ts s = AsksSo (asked_by ts known.latest) (if stands is_path_challenge ts then false else more || (moved || known.renewed)) s

        -- where nothing goes, and other data may be asked for
        silently : ss ≡ [] → (more || (moved || known.renewed)) ≡ true → AsksSo known.latest true (standing behind) → Behind ss (standing behind)
        silently none renewed asks = subst (λ (ts : List Sent). Behind ts (standing behind)) (sym none) (subst (λ (b : Bool). AsksSo known.latest b (standing behind)) (sym renewed) asks)

  other_asks : (i : ℕ) (event : RunEvent) (a : Answer) (w next : World) → slice_get r.events i ≡ Some event → same_side event.side side ≡ false → IsStep r.keys w event a next → until r side (suc i) ≡ until r side i → AsksThen i w → AsksThen (suc i) next
  other_asks i event a w next at other step told before still =
      let same = (step_leaves side r.keys w next event a other step).end in
      subst (λ (ts : List Told). let u : Asking = folded (asking_told l v) ts (first_asking (questions_at_first r side)) in AsksSo u.latest u.renewed (standing (end_at side next))) (sym told)
      (subst (λ (e : End). AsksSo (asking r side i).latest (asking r side i).renewed (standing e)) (sym same) (before (sym (ap (λ (e : End). e.closing.state) same) ∙ still)))

  -- at each place
  pub asks_at : (i : ℕ) (w : World) → i ≤ length r.views → AreServed r i → LeadsTo r i w → AsksThen i w
  asks_at = along r end run side AsksThen (record { first = asks_first; own = λ i call a w next m leads before still. own_asks i call a w next m leads still before; other = other_asks })
