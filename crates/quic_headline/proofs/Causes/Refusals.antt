-- To an end that is open fewer packets came that didn't open than its peer's key may refuse: it
-- closes at the last of these.
use Rattle.std.proofs.Common.{◌≡◌, ℕ, suc, ◌+◌, ◌-◌, ◌^◌, ◌<◌, ◌≤◌, min, Bool, true, false, ◌||◌, length, List, [], ◌∷◌, ◌++◌, slice_get, Option, Some, None, Ok, inl, inr, refl, sym, ap, ◌∙◌, subst, arith}
use Rattle.std.specs.Prelude.{if◌then◌else◌}
use Rattle.std.proofs.lemmas.Bool.{leb-false}
use Rattle.std.proofs.lemmas.List.{append-nil}
use Rattle.quic_wire_core.specs.declared.stream_id.Side.{Side}
use Rattle.quic_wire_core.specs.declared.stream_id.Side.TheVariants.{Client, Server}
use Rattle.quic_wire_core.specs.TransportError.{ErrorValue}
use Rattle.quic_machine.specs.Arrival.{Arrival, delivered_by, injected_by}
use Rattle.quic_machine.specs.declared.answers.State.{State}
use Rattle.quic_machine.specs.declared.answers.State.TheVariants as states
use Rattle.quic_machine.specs.declared.answers.LostReason.{LostReason}
use Rattle.quic_machine.specs.declared.answers.DropReason.TheVariants as drops
use Rattle.quic_machine.specs.declared.answers.Received.{Received}
use Rattle.quic_machine.specs.declared.answers.Received.TheVariants as receives
use Rattle.quic_machine.specs.declared.run.RunEvent.{RunEvent}
use Rattle.quic_machine.specs.declared.run.Delivery.{Delivery}
use Rattle.quic_machine.specs.declared.run.Injection.{Injection}
use Rattle.quic_machine.specs.declared.run.Call.{Call}
use Rattle.quic_machine.specs.declared.run.Call.TheVariants as calls
use Rattle.quic_machine.specs.declared.run.Answer.{Answer}
use Rattle.quic_machine.specs.declared.run.Answer.TheVariants as answers
use Rattle.quic_machine.specs.declared.run.View.{View}
use Rattle.quic_machine.specs.Policy.{Policy}
use Rattle.quic_machine.specs.Closing.{Closing}
use Rattle.quic_machine.specs.Control.{Control}
use Rattle.quic_machine.specs.Heard.{Heard, counted, is_last, heard_failure, heard_answer, heard_anew, received_if, heard_datagram}
use Rattle.quic_machine.specs.End.{End, closed_by}
use Rattle.quic_machine.specs.Migration.{is_there, has_moved}
use Rattle.quic_machine.specs.Opens.{would_open}
use Rattle.quic_machine.specs.Receive.{received}
use Rattle.quic_machine.specs.Machine.{World, IsStep, IsLeft, IsAnswer, IsDelivered, IsHeard, CountsOpenings, policy_at, end_at, heard_by, heard_delivery, reads_window, after_delivered, after_injected_if, injected_if, end_left, fails, says_last}
use Rattle.quic_headline.specs.Runs.{Run, Told, until, told_by, state_in}
use Rattle.quic_headline.specs.Headline.{IsHonest, IsRun}
use Rattle.quic_headline.specs.Causes.{is_unopened, says_unopened, unopened}
use Rattle.quic_headline.specs.Shut.{RefusalsClose}
use Rattle.quic_headline.proofs.Places.Parties.{told_of}
use Rattle.quic_headline.proofs.Places.Placed.{shown}
use Rattle.quic_headline.proofs.Places.Moments.{Grown, Moment, moment, state_shown}
use Rattle.quic_headline.proofs.Causes.Handed.{is_handed, only_handed}
use Rattle.quic_headline.proofs.Causes.Idled.{left_open}
use Rattle.quic_headline.proofs.Causes.Keyed.{bytes_same, unopened_more, one_unopened}
use Rattle.quic_headline.proofs.Causes.Refused.{IsOwn, refused_never}

-- ---- what is counted

-- what opened, or wasn't tried, counts for nothing
answer_same : (r : Received) (h : Heard) → is_unopened r ≡ false → (heard_answer r h).failures ≡ h.failures
answer_same (receives.Dropped drops.NotOpened) h opened = cc
answer_same (receives.Dropped reason) h opened = refl
answer_same (receives.Closed error) h opened = subst (λ (b : Bool). (if b then heard_failure h else h).failures ≡ h.failures) (sym opened) refl
answer_same r h opened = refl

datagram_same : (here new : Bool) (d : List ℕ) (r : Received) (h : Heard) → is_unopened r ≡ false → (heard_datagram here new d r h).failures ≡ h.failures
datagram_same here new d r h opened = answer_same r (received_if (here || new) (length d) (heard_anew new h)) opened ∙ bytes_same new (here || new) (length d) h

heard_same : (e x : End) (theirs : List (List ℕ)) (call : Call) (a : Answer) (h : Heard) → says_unopened a ≡ false → (heard_by e x theirs call a h).failures ≡ h.failures
heard_same e x theirs (calls.Poll now) (answers.Poll (Ok None)) h opened = refl
heard_same e x theirs (calls.Poll now) (answers.Poll (Ok (Some t))) h opened = refl
heard_same e x theirs (calls.Deliver delivery) (answers.Deliver r) h opened = go (slice_get theirs delivery.index)
  where
    go : (o : Option (List ℕ)) → (heard_delivery e x delivery.remote o r h).failures ≡ h.failures
    go None = refl
    go (Some d) = datagram_same (is_there delivery.remote e) (has_moved e x) d r h opened
heard_same e x theirs (calls.Inject injection) (answers.Inject r) h opened = datagram_same (is_there injection.remote e) false injection.bytes r h opened
heard_same e x theirs call a h opened = refl

-- a packet that didn't open counts
datagram_one : (here new : Bool) (d : List ℕ) (h : Heard) → (heard_datagram here new d (receives.Dropped drops.NotOpened) h).failures ≡ counted h.failures 1
datagram_one here new d h = ap (λ (n : ℕ). counted n 1) (bytes_same new (here || new) (length d) h)

-- ---- what is answered

-- an end that stays open doesn't refuse
none_refused : (reason : LostReason) (e : End) → IsOwn reason → (closed_by reason e).closing.state ≡ states.Open → ⊥
none_refused reason e own opened = cc

-- what doesn't open at an end that stays open is dropped
dropped_so : (r : Received) → is_unopened r ≡ true → ((error : ErrorValue) → r ≡ receives.Closed error → ⊥) → r ≡ receives.Dropped drops.NotOpened
dropped_so (receives.Dropped drops.NotOpened) is none = refl
dropped_so (receives.Closed error) is none = absurd (none error refl)
dropped_so r is none = cc

received_so : (p : Policy) (e : End) (arrival : Arrival) (d : List ℕ) → is_unopened (received p e arrival d).answer ≡ true → (received p e arrival d).end.closing.state ≡ states.Open → (received p e arrival d).answer ≡ receives.Dropped drops.NotOpened
received_so p e arrival d is opened = dropped_so (received p e arrival d).answer is (λ error refused. refused_never error (λ (c : Closing). c.state ≡ states.Open) none_refused p e arrival d refused opened)

-- A packet came to an end, didn't open, and was dropped: it counts.
record Drops (p : Policy) (h after : Heard) : Type 0 where
  below : is_last p.openings h ≡ false
  counts : after.failures ≡ counted h.failures 1

module _ (p : Policy) (h : Heard) (e x : End) (theirs : List (List ℕ)) (e_open : e.closing.state ≡ states.Open) where
  -- the last that may not open isn't dropped
  abbrev Counts : Answer → Type 0
  Counts a = CountsOpenings p.openings e.closing.state h a

  delivered_drops : (a : Answer) → a ≡ answers.Deliver (receives.Dropped drops.NotOpened) → Counts a → is_last p.openings h ≡ false
  delivered_drops a is counts = subst (λ (s : State). CountsOpenings p.openings s h (answers.Deliver (receives.Dropped drops.NotOpened))) e_open (subst Counts is counts)

  injected_drops : (a : Answer) → a ≡ answers.Inject (receives.Dropped drops.NotOpened) → Counts a → is_last p.openings h ≡ false
  injected_drops a is counts = subst (λ (s : State). CountsOpenings p.openings s h (answers.Inject (receives.Dropped drops.NotOpened))) e_open (subst Counts is counts)

  -- a call that is answered so, and leaves the end open
  deliver_drops : (delivery : Delivery) (a : Answer) (o : Option (List ℕ)) → slice_get theirs delivery.index ≡ o → IsDelivered p e delivery o a → fails a ≡ false → says_unopened a ≡ true → (after_delivered p e (delivered_by (says_last a) delivery) o).closing.state ≡ states.Open → Counts a
      → Drops p h (heard_by e x theirs (calls.Deliver delivery) a h)
  deliver_drops delivery a None there is served said opened counts = let clash : ◌≡◌ {A = Bool} false true = ap says_unopened (sym is) ∙ said in cc
  deliver_drops delivery a (Some d) there (inr is) served said opened counts = let clash : ◌≡◌ {A = Bool} true false = ap fails (sym is) ∙ served in cc
  deliver_drops delivery a (Some d) there (inl is) served said opened counts = record {
    below = delivered_drops a so counts;
    counts =
        ap (λ (b : Answer). (heard_by e x theirs (calls.Deliver delivery) b h).failures) so
        ∙ ap (λ (o : Option (List ℕ)). (heard_delivery e x delivery.remote o (receives.Dropped drops.NotOpened) h).failures) there
        ∙ datagram_one (is_there delivery.remote e) (has_moved e x) d h;
  }
    where
      so : a ≡ answers.Deliver (receives.Dropped drops.NotOpened)
      so = is ∙ ap (λ (r : Received). answers.Deliver r) (received_so p e (delivered_by (says_last a) delivery) d (ap says_unopened (sym is) ∙ said) opened)

  inject_drops : (injection : Injection) (a : Answer) (b : Bool) → a ≡ injected_if b (says_last a) p e injection → says_unopened a ≡ true → (after_injected_if b (says_last a) p e injection).closing.state ≡ states.Open → Counts a
      → Drops p h (heard_by e x theirs (calls.Inject injection) a h)
  inject_drops injection a true is said opened counts = let clash : ◌≡◌ {A = Bool} false true = ap says_unopened (sym is) ∙ said in cc
  inject_drops injection a false is said opened counts = record {
    below = injected_drops a so counts;
    counts = ap (λ (b : Answer). (heard_by e x theirs (calls.Inject injection) b h).failures) so ∙ datagram_one (is_there injection.remote e) false injection.bytes h;
  }
    where
      so : a ≡ answers.Inject (receives.Dropped drops.NotOpened)
      so = is ∙ ap (λ (r : Received). answers.Inject r) (received_so p e (injected_by (says_last a) injection) injection.bytes (ap says_unopened (sym is) ∙ said) opened)

  apart_drops : (call : Call) (a : Answer) → is_handed a ≡ false → says_unopened a ≡ true → Drops p h (heard_by e x theirs call a h)
  apart_drops call (answers.Deliver r) none said = cc
  apart_drops call (answers.Inject r) none said = cc
  apart_drops call a none said = cc

  call_drops : (control : Control) (heard : Heard) (call : Call) (a : Answer) → IsAnswer p (reads_window control heard call e) theirs call a → fails a ≡ false → says_unopened a ≡ true → (end_left p control heard e theirs call a).closing.state ≡ states.Open → Counts a → Drops p h (heard_by e x theirs call a h)
  call_drops control heard (calls.Deliver delivery) a is served said opened counts = deliver_drops delivery a (slice_get theirs delivery.index) refl is served said opened counts
  call_drops control heard (calls.Inject injection) a is served said opened counts = inject_drops injection a (would_open p e injection.remote injection.bytes) is said opened counts
  call_drops control heard call a is served said opened counts = apart_drops call a (only_handed p (reads_window control heard call e) theirs call a refl is) said

-- ---- what holds of an end

-- an open end counted each packet that came to it and didn't open, and these are fewer than its
-- peer's key may refuse
abbrev Few : Policy → Heard → End → List Told → Type 0
Few p h e told = e.closing.state ≡ states.Open → 0 < p.openings → p.openings < 2 ^ 64 → (unopened told ≤ h.failures) × (unopened told < p.openings)

none_unopened : (t : Told) → says_unopened t.answer ≡ false → unopened (t ∷ []) ≡ 0
none_unopened t is = ap (λ (b : Bool). length (if b then t ∷ [] else [])) is

-- one more, below the limit
one_further : (n f g k limit : ℕ) → k ≡ n + 1 → n ≤ f → g ≡ min (f + 1) (2 ^ 64 - 1) → min (f + 1) (2 ^ 64 - 1) < limit → limit < 2 ^ 64 → (k ≤ g) × (k < limit)
one_further n f g k limit is below counts less small = (omega arith, omega arith)

module _ (p : Policy) (control : Control) (h after : Heard) (e x : End) (theirs : List (List ℕ)) (call : Call) (a : Answer) (told : List Told) (served : fails a ≡ false) where
  abbrev now_told : Told
  now_told = told_of call a e.closing.state

  few_step : after ≡ heard_by e x theirs call a h → CountsOpenings p.openings e.closing.state h a → IsAnswer p (reads_window control h call e) theirs call a → x ≡ end_left p control h e theirs call a → Few p h e told → Few p after x (told ++ now_told ∷ [])
  few_step heard_so counts is left few opened some small = go (says_unopened a) refl
    where
      left_so : (end_left p control h e theirs call a).closing.state ≡ states.Open
      left_so = ap (λ (y : End). y.closing.state) (sym left) ∙ opened

      e_open : e.closing.state ≡ states.Open
      e_open = left_open p control h e theirs call a left_so

      old : (unopened told ≤ h.failures) × (unopened told < p.openings)
      old = few e_open some small

      go : (b : Bool) → says_unopened a ≡ b → (unopened (told ++ now_told ∷ []) ≤ after.failures) × (unopened (told ++ now_told ∷ []) < p.openings)
      go true said =
          let drops = call_drops p h e x theirs e_open control h call a is served said left_so counts in
          let more = unopened_more told now_told in
          let one = one_unopened now_told said in
          let all : unopened (told ++ now_told ∷ []) ≡ unopened told + 1 = omega arith in
          one_further (unopened told) h.failures after.failures (unopened (told ++ now_told ∷ [])) p.openings all old.0 (ap (λ (k : Heard). k.failures) heard_so ∙ drops.counts) (leb-false p.openings (counted h.failures 1) drops.below) small
      go false said =
          let more = unopened_more told now_told in
          let none = none_unopened now_told said in
          let same : after.failures ≡ h.failures = ap (λ (k : Heard). k.failures) heard_so ∙ heard_same e x theirs call a h said in
          let first = old.0 in
          let second = old.1 in
          (omega arith, omega arith)

-- ---- both ends

abbrev BothFew : Run → World → List Told → List Told → Type 0
BothFew r w client server = Few r.keys.client w.client_heard w.client client × Few r.keys.server w.server_heard w.server server

-- an end at which no call is made
resting : (p : Policy) (h after : Heard) (e x : End) (told : List Told) → after ≡ h → x ≡ e → Few p h e told → Few p after x (told ++ [])
resting p h after e x told counted same few =
    subst (λ (ts : List Told). Few p after x ts) (sym (append-nil told)) (subst (λ (k : Heard). Few p k x told) (sym counted) (subst (λ (y : End). Few p h y told) (sym same) few))

step_few : (r : Run) (end : World) (w next : World) (event : RunEvent) (a : Answer) (client server : List Told) → BothFew r w client server → Unit {0} → IsStep r.keys w event a next → fails a ≡ false → Grown w end → Grown next end
    → BothFew r next (client ++ told_by Client w.client.closing.state event a) (server ++ told_by Server w.server.closing.state event a)
step_few r end w next event a client server all any step served before behind = go event.side event.call step
  where
    go : (side : Side) (call : Call) → IsStep r.keys w (record { side = side; call = call }) a next
        → BothFew r next (client ++ told_by Client w.client.closing.state (record { side = side; call = call }) a) (server ++ told_by Server w.server.closing.state (record { side = side; call = call }) a)
    go Client call s = (
      few_step r.keys.client w.client_control w.client_heard next.client_heard w.client next.client w.from_server call a client served (subst (λ (b : Bool). IsHeard b w.client next.client w.from_server call a w.client_heard next.client_heard) served s.heard) s.openings s.answer
          (subst (λ (b : Bool). IsLeft b r.keys.client w.client_control w.client_heard w.client w.from_server call a next.client) served s.end) all.0,
      resting r.keys.server w.server_heard next.server_heard w.server next.server server (ap (λ (v : World). v.server_heard) s.others) (ap (λ (v : World). v.server) s.others) all.1,
    )
    go Server call s = (
      resting r.keys.client w.client_heard next.client_heard w.client next.client client (ap (λ (v : World). v.client_heard) s.others) (ap (λ (v : World). v.client) s.others) all.0,
      few_step r.keys.server w.server_control w.server_heard next.server_heard w.server next.server w.from_client call a server served (subst (λ (b : Bool). IsHeard b w.server next.server w.from_client call a w.server_heard next.server_heard) served s.heard) s.openings s.answer
          (subst (λ (b : Bool). IsLeft b r.keys.server w.server_control w.server_heard w.server w.from_client call a next.server) served s.end) all.1,
    )

-- before the first event nothing came
fresh_few : (p : Policy) (h : Heard) (e : End) → Few p h e []
fresh_few p h e opened some small = (omega arith, some)

-- ---- the clause

pub refusals_close : (r : Run) (end : World) → IsHonest r → IsRun r end → RefusalsClose r
refusals_close r end honest run side i v served there opened some small = at side opened some small
  where
    m : Moment r.keys end (λ event a client server. Unit {0}) (BothFew r) (step_few r end) r.start (suc i) r.events r.answers r.views (until r Client (suc i)) (until r Server (suc i))
    m = moment r.keys end (λ event a client server. Unit {0}) (BothFew r) (step_few r end) (suc i) r.start r.events r.answers r.views [] []
        (fresh_few r.keys.client r.start.client_heard r.start.client, fresh_few r.keys.server r.start.server_heard r.start.server) (λ j event a at_event at_answer. tt) run.follows served

    open_there : (s : Side) → state_in v s ≡ states.Open → (end_at s m.world).closing.state ≡ states.Open
    open_there s is = sym (ap (λ (u : View). state_in u s) (shown r m.world i v m.came there) ∙ state_shown s m.world) ∙ is

    at : (s : Side) → state_in v s ≡ states.Open → 0 < (policy_at s r.keys).openings → (policy_at s r.keys).openings < 2 ^ 64 → unopened (until r s (suc i)) < (policy_at s r.keys).openings
    at Client is more less = (m.holds.0 (open_there Client is) more less).1
    at Server is more less = (m.holds.1 (open_there Server is) more less).1
