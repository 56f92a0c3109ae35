-- Where the last packet came to an open end that may not open, as many didn't open: an end counts
-- no other.
use Rattle.std.proofs.Common.{◌≡◌, ℕ, ◌+◌, ◌≤◌, Bool, true, false, ◌||◌, length, filter, List, [], ◌∷◌, ◌++◌, slice_get, Option, Some, None, Ok, ◌⊎◌, inl, inr, refl, sym, ap, ◌∙◌, subst, arith}
use Rattle.std.specs.Prelude.{if◌then◌else◌}
use Rattle.std.proofs.lemmas.Bool.{leb-true}
use Rattle.std.proofs.lemmas.List.{length-append, append-nil}
use Rattle.std.proofs.lemmas.List.Elements.{filter-append}
use Rattle.quic_wire_core.specs.declared.stream_id.Side.{Side}
use Rattle.quic_wire_core.specs.declared.stream_id.Side.TheVariants.{Client, Server}
use Rattle.quic_wire_core.specs.TransportError.{ErrorValue}
use Rattle.quic_machine.specs.declared.answers.State.{State}
use Rattle.quic_machine.specs.declared.answers.State.TheVariants as states
use Rattle.quic_machine.specs.declared.answers.DropReason.TheVariants as drops
use Rattle.quic_machine.specs.declared.answers.Received.{Received}
use Rattle.quic_machine.specs.declared.answers.Received.TheVariants as receives
use Rattle.quic_machine.specs.declared.run.RunEvent.{RunEvent}
use Rattle.quic_machine.specs.declared.run.Call.{Call}
use Rattle.quic_machine.specs.declared.run.Call.TheVariants as calls
use Rattle.quic_machine.specs.declared.run.Answer.{Answer}
use Rattle.quic_machine.specs.declared.run.Answer.TheVariants as answers
use Rattle.quic_machine.specs.Policy.{Policy}
use Rattle.quic_machine.specs.Heard.{Heard, nothing_heard, counted, is_key_limit, is_last, heard_failure, heard_answer, heard_anew, received_if, heard_datagram}
use Rattle.quic_machine.specs.End.{End}
use Rattle.quic_machine.specs.Migration.{is_there, has_moved}
use Rattle.quic_machine.specs.Machine.{World, IsStep, IsHeard, CountsIn, CountsOpenings, policy_at, heard_by, heard_delivery, fails, says_last}
use Rattle.quic_headline.specs.Runs.{Run, Told, In, AreServed, until, told_by}
use Rattle.quic_headline.specs.Headline.{IsHonest, IsRun}
use Rattle.quic_headline.specs.Causes.{is_unopened, says_unopened, unopened}
use Rattle.quic_headline.proofs.Places.Told.{in_append}
use Rattle.quic_headline.proofs.Places.Parties.{told_of}
use Rattle.quic_headline.proofs.Places.Moments.{Grown, Moment, moment}

-- ---- the last packet that may not open

-- Among calls one tells that it came, at an end that was open.
pub record Exhausted (all : List Told) : Type 0 where
  pub told : Told
  pub among : In told all
  pub here : told.state ≡ states.Open
  pub last : says_last told.answer ≡ true

-- ---- what was counted of the answers

abbrev test : Told → Bool
test t = says_unopened t.answer

pub unopened_more : (ts : List Told) (t : Told) → unopened (ts ++ t ∷ []) ≡ unopened ts + unopened (t ∷ [])
unopened_more ts t = ap length (filter-append test ts (t ∷ [])) ∙ length-append (filter test ts) (filter test (t ∷ []))

pub one_unopened : (t : Told) → says_unopened t.answer ≡ true → unopened (t ∷ []) ≡ 1
one_unopened t is = ap (λ (b : Bool). length (if b then t ∷ [] else [])) is

no_more : (n : ℕ) → n ≤ n + 0
no_more n = omega arith

-- each packet that an end counts as not opened was answered so
failure_said : (a : Received) (h : Heard) → (heard_answer a h).failures ≤ h.failures + (if is_unopened a then 1 else 0)
failure_said (receives.Dropped drops.NotOpened) h = let n : ℕ = h.failures in omega arith
failure_said (receives.Dropped reason) h = no_more h.failures
failure_said (receives.Closed error) h = go (is_key_limit error)
  where
    go : (b : Bool) → (if b then heard_failure h else h).failures ≤ h.failures + (if b then 1 else 0)
    go true = let n : ℕ = h.failures in omega arith
    go false = no_more h.failures
failure_said a h = no_more h.failures

-- bytes count no failures
pub bytes_same : (new counts : Bool) (size : ℕ) (h : Heard) → (received_if counts size (heard_anew new h)).failures ≡ h.failures
bytes_same true true size h = refl
bytes_same true false size h = refl
bytes_same false true size h = refl
bytes_same false false size h = refl

datagram_said : (here new : Bool) (d : List ℕ) (a : Received) (h : Heard) → (heard_datagram here new d a h).failures ≤ h.failures + (if is_unopened a then 1 else 0)
datagram_said here new d a h =
    let h' : Heard = received_if (here || new) (length d) (heard_anew new h) in
    subst (λ (n : ℕ). (heard_answer a h').failures ≤ n + (if is_unopened a then 1 else 0)) (bytes_same new (here || new) (length d) h) (failure_said a h')

heard_said : (e x : End) (theirs : List (List ℕ)) (call : Call) (a : Answer) (h : Heard) → (heard_by e x theirs call a h).failures ≤ h.failures + (if says_unopened a then 1 else 0)
heard_said e x theirs (calls.Poll now) (answers.Poll (Ok None)) h = no_more h.failures
heard_said e x theirs (calls.Poll now) (answers.Poll (Ok (Some t))) h = no_more h.failures
heard_said e x theirs (calls.Deliver delivery) (answers.Deliver a) h = go (slice_get theirs delivery.index)
  where
    some : (b : Bool) → h.failures ≤ h.failures + (if b then 1 else 0)
    some true = omega arith
    some false = omega arith

    go : (o : Option (List ℕ)) → (heard_delivery e x delivery.remote o a h).failures ≤ h.failures + (if is_unopened a then 1 else 0)
    go None = some (is_unopened a)
    go (Some d) = datagram_said (is_there delivery.remote e) (has_moved e x) d a h
heard_said e x theirs (calls.Inject injection) (answers.Inject a) h = datagram_said (is_there injection.remote e) false injection.bytes a h
heard_said e x theirs call a h = some (says_unopened a)
  where
    some : (b : Bool) → h.failures ≤ h.failures + (if b then 1 else 0)
    some true = omega arith
    some false = omega arith

-- the last that may not open says so
last_said : (a : Answer) → says_last a ≡ true → says_unopened a ≡ true
last_said (answers.Deliver (receives.Closed error)) is = is
last_said (answers.Inject (receives.Closed error)) is = is
last_said a is = cc

-- ---- what holds of an end

-- Of an end that has counted this: each packet that it counts as not opened was answered so, and
-- where the last came that may not open while it was open, as many didn't.
record Keyed (p : Policy) (heard : Heard) (told : List Told) : Type 0 where
  failures : heard.failures ≤ unopened told
  limited : Exhausted told → p.openings ≤ unopened told

-- where the last came that may not open, as many didn't
in_last : (s : State) (limit : ℕ) (h : Heard) (error : ErrorValue) → s ≡ states.Open → is_key_limit error ≡ true → CountsIn s limit h (receives.Closed error) → is_last limit h ≡ true
in_last states.Open limit h error here last counts = counts last
in_last states.Closing limit h error here last counts = cc
in_last states.Drained limit h error here last counts = cc
in_last states.Failed limit h error here last counts = cc

-- ---- a step

-- the answer that says so has an error of this kind
last_closed : (s : State) (limit : ℕ) (h : Heard) (a : Answer) → s ≡ states.Open → says_last a ≡ true → CountsOpenings limit s h a → is_last limit h ≡ true
last_closed s limit h (answers.Deliver (receives.Closed error)) here last counts = in_last s limit h error here last counts
last_closed s limit h (answers.Inject (receives.Closed error)) here last counts = in_last s limit h error here last counts
last_closed s limit h a here last counts = cc

module _ (p : Policy) (heard after : Heard) (e x : End) (state : State) (theirs : List (List ℕ)) (call : Call) (a : Answer) (told : List Told) where
  abbrev now_told : Told
  now_told = told_of call a state

  keyed_step : after ≡ heard_by e x theirs call a heard → CountsOpenings p.openings state heard a → Keyed p heard told → Keyed p after (told ++ now_told ∷ [])
  keyed_step heard_so counts k = record {
    failures = (let more_heard = hears in let old = k.failures in let more_count = unopened_more told now_told in omega arith);
    limited = λ m. limits m (in_append m.told told (now_told ∷ []) m.among);
  }
    where
      said_one : (b : Bool) → says_unopened a ≡ b → (if b then 1 else 0) ≤ unopened (now_told ∷ [])
      said_one true so = let one = one_unopened now_told so in omega arith
      said_one false so = omega arith

      hears : after.failures ≤ heard.failures + unopened (now_told ∷ [])
      hears =
          let said : after.failures ≤ heard.failures + (if says_unopened a then 1 else 0) = subst (λ (h : Heard). h.failures ≤ heard.failures + (if says_unopened a then 1 else 0)) (sym heard_so) (heard_said e x theirs call a heard) in
          let one = said_one (says_unopened a) refl in
          omega arith

      -- the last came now, and so many didn't open before
      reached : state ≡ states.Open → says_last a ≡ true → p.openings ≤ unopened (told ++ now_told ∷ [])
      reached here last =
          let many : p.openings ≤ counted heard.failures 1 = leb-true p.openings (counted heard.failures 1) (last_closed state p.openings heard a here last counts) in
          let one = one_unopened now_told (last_said a last) in
          let more_count = unopened_more told now_told in
          let old = k.failures in
          omega arith

      limits : (m : Exhausted (told ++ now_told ∷ [])) → In m.told told ⊎ In m.told (now_told ∷ []) → p.openings ≤ unopened (told ++ now_told ∷ [])
      limits m (inl old) =
          let before = k.limited (record { told = m.told; among = old; here = m.here; last = m.last }) in
          let more_count = unopened_more told now_told in
          omega arith
      limits m (inr (inl is)) = reached (ap (λ (t : Told). t.state) (sym is) ∙ m.here) (ap (λ (t : Told). says_last t.answer) (sym is) ∙ m.last)
      limits m (inr (inr none)) = absurd none

-- ---- both ends

abbrev BothKeyed : Run → World → List Told → List Told → Type 0
BothKeyed r w client server = Keyed r.keys.client w.client_heard client × Keyed r.keys.server w.server_heard server

-- an end at which no call is made
resting : (p : Policy) (heard after : Heard) (told : List Told) → after ≡ heard → Keyed p heard told → Keyed p after (told ++ [])
resting p heard after told counted k = subst (λ (h : Heard). Keyed p h (told ++ [])) (sym counted) (subst (λ (ts : List Told). Keyed p heard ts) (sym (append-nil told)) k)

step_keyed : (r : Run) (end : World) (w next : World) (event : RunEvent) (a : Answer) (client server : List Told) → BothKeyed r w client server → Unit {0} → IsStep r.keys w event a next → fails a ≡ false → Grown w end → Grown next end
    → BothKeyed r next (client ++ told_by Client w.client.closing.state event a) (server ++ told_by Server w.server.closing.state event a)
step_keyed r end w next event a client server both any step served before behind = go event.side event.call step
  where
    go : (side : Side) (call : Call) → IsStep r.keys w (record { side = side; call = call }) a next
        → BothKeyed r next (client ++ told_by Client w.client.closing.state (record { side = side; call = call }) a) (server ++ told_by Server w.server.closing.state (record { side = side; call = call }) a)
    go Client call s = (
      keyed_step r.keys.client w.client_heard next.client_heard w.client next.client w.client.closing.state w.from_server call a client (subst (λ (b : Bool). IsHeard b w.client next.client w.from_server call a w.client_heard next.client_heard) served s.heard) s.openings both.0,
      resting r.keys.server w.server_heard next.server_heard server (ap (λ (v : World). v.server_heard) s.others) both.1,
    )
    go Server call s = (
      resting r.keys.client w.client_heard next.client_heard client (ap (λ (v : World). v.client_heard) s.others) both.0,
      keyed_step r.keys.server w.server_heard next.server_heard w.server next.server w.server.closing.state w.from_client call a server (subst (λ (b : Bool). IsHeard b w.server next.server w.from_client call a w.server_heard next.server_heard) served s.heard) s.openings both.1,
    )

-- before the first event
fresh_keyed : (p : Policy) (heard : Heard) → heard ≡ nothing_heard → Keyed p heard []
fresh_keyed p heard none_heard = record { failures = (let none : heard.failures ≡ 0 = ap (λ (h : Heard). h.failures) none_heard in omega arith); limited = λ e. absurd e.among }

-- ---- at a place

module _ (r : Run) (end : World) (honest : IsHonest r) (run : IsRun r end) where
  place_at : (i : ℕ) → AreServed r i → Moment r.keys end (λ event a client server. Unit {0}) (BothKeyed r) (step_keyed r end) r.start i r.events r.answers r.views (until r Client i) (until r Server i)
  place_at i served = moment r.keys end (λ event a client server. Unit {0}) (BothKeyed r) (step_keyed r end) i r.start r.events r.answers r.views [] []
      (fresh_keyed r.keys.client r.start.client_heard honest.start.client_heard, fresh_keyed r.keys.server r.start.server_heard honest.start.server_heard) (λ j event a at_event at_answer. tt) run.follows served

  -- where the last packet came that may not open, as many didn't
  pub many_unopened : (side : Side) (i : ℕ) → AreServed r i → Exhausted (until r side i) → (policy_at side r.keys).openings ≤ unopened (until r side i)
  many_unopened Client i served e = (place_at i served).holds.0.limited e
  many_unopened Server i served e = (place_at i served).holds.1.limited e
