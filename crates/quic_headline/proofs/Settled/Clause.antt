-- Where an open end has nothing left to tell, each stream was told finished that is wholly
-- acknowledged, once, and no other.
use Rattle.std.proofs.Common.{◌≡◌, ℕ, ◌<◌, ◌≤◌, Bool, true, false, List, [], ◌∷◌, length, Option, Some, None, refl, sym, ap, ◌∙◌, subst, inl, inr, arith}
use Rattle.std.specs.Prelude.{◌==◌, ◌&&◌, option_map, if◌then◌else◌}
use Rattle.std.specs.Option.{is_some}
use Rattle.std.proofs.lemmas.Bool.{cases_lt, cond_both, eq-eqb, both_ways}
use Rattle.quic_sets.specs.Runs.{Has}
use Rattle.quic_sets.specs.Offsets.{first_lacking}
use Rattle.quic_sets.proofs.Offsets.Edits.{first_by, first_lacks}
use Rattle.quic_wire_core.specs.declared.stream_id.Side.{Side}
use Rattle.quic_wire_core.specs.StreamId.{other_side}
use Rattle.quic_send_buffer.specs.Buffered.{written, first_unacknowledged, is_fully_acked}
use Rattle.quic_streams_parts.specs.declared.answers.StreamEvent.{StreamEvent}
use Rattle.quic_streams_parts.specs.Events.{first_of}
use Rattle.quic_streams_parts.specs.Table.{at}
use Rattle.quic_streams_parts.specs.SendHalf.{SendHalf, is_acked}
use Rattle.quic_streams_halves.specs.Halves.{has_place}
use Rattle.quic_streams_state.specs.declared.state.StreamsState.{StreamsState}
use Rattle.quic_streams_state.specs.State.{room, sends_on, is_opened}
use Rattle.quic_streams_state.specs.Telling.{Telling, Passing, passed, after_passing, told_behind, polled}
use Rattle.quic_streams_laws.specs.Each.{HalfIs}
use Rattle.quic_streams_laws.specs.EachLaws.{status_half}
use Rattle.quic_streams_laws.specs.Keeping.{finishes_in}
use Rattle.quic_streams_laws.specs.Written.{Wrote, IsSendHalf, nothing_done}
use Rattle.quic_streams_laws.specs.WrittenHalves.{bytes_written}
use Rattle.quic_streams_laws.specs.Acknowledged.{HalfArrived, IsSettled}
use Rattle.quic_machine.specs.declared.answers.State.TheVariants as states
use Rattle.quic_machine.specs.declared.answers.Event.TheVariants as events
use Rattle.quic_machine.specs.declared.run.Call.TheVariants as calls
use Rattle.quic_machine.specs.declared.run.Answer.TheVariants as answers
use Rattle.quic_machine.specs.Closing.{Closing}
use Rattle.quic_machine.specs.Calls.{tells_message, tells_done, tells_of}
use Rattle.quic_machine.specs.Machine.{World}
use Rattle.quic_headline.specs.Runs.{Run, Told, AreServed, state_at, reset}
use Rattle.quic_headline.specs.Observer.{Sent, HoldsOffset, HoldsEnd, Watch}
use Rattle.quic_headline.specs.Headline.{IsHonest, IsRun, IsAt, AllHeld, ToldOnce, FinishedIsTold}
use Rattle.quic_headline.proofs.Places.Parties.{Party}
use Rattle.quic_headline.proofs.Places.Groups.{Way, Nothing, And, Group, both}
use Rattle.quic_headline.proofs.Places.Placed.{party_at, Placed, placed, answered, watch_is}
use Rattle.quic_headline.proofs.Places.Everything as everything
use Rattle.quic_headline.proofs.Places.Theorems.{ready}
use Rattle.quic_headline.proofs.Halves.Ghosts.{wrote}
use Rattle.quic_headline.proofs.Halves.Arrived.{spoken}
use Rattle.quic_headline.proofs.Halves.Ready.{Ready}
use Rattle.quic_headline.proofs.Settled.Half.{Known, Tells, UnusedSettles, HalfSettles, DoneSettles, times_done, nothing_known}
use Rattle.quic_headline.proofs.Settled.Acked.{telling}
use Rattle.quic_headline.proofs.Settled.Words.{is_reset}
use Rattle.quic_headline.proofs.Settled.Carried.{known_of}
use Rattle.quic_headline.proofs.Packets.Acked.{acks}
use Rattle.quic_headline.proofs.Settled.Group.{Settled, Open, told_so, settled_group}

-- ---- nothing is left to tell

none_first : (es : List StreamEvent) → first_of es ≡ None → es ≡ []
none_first [] is = refl
none_first (e ∷ es) is = cc

-- where nothing is told, nothing waits
none_left : (s : StreamsState) → (polled s).answer ≡ None → s.events.queue ≡ []
none_left s =
    cond_both {A = Telling} s.events.opened.bi _ _ (λ t. t.answer ≡ None → s.events.queue ≡ []) (λ bi is. cc) (λ bi.
    cond_both {A = Telling} s.events.opened.uni _ _ (λ t. t.answer ≡ None → s.events.queue ≡ []) (λ uni is. cc) (λ uni.
    cond_both {A = Telling} (room s.sending == 0) _ _ (λ t. t.answer ≡ None → s.events.queue ≡ []) (λ full is. none_first s.events.queue is) (λ free.
    let p : Passing = passed s.sending.blocked s.sending.halves.live in
    behind p.found (after_passing s p) refl)))
  where
    behind : (o : Option ℕ) (t : StreamsState) → t.events.queue ≡ s.events.queue → (told_behind o t).answer ≡ None → s.events.queue ≡ []
    behind None t same is = sym same ∙ none_first t.events.queue is
    behind (Some n) t same is = cc

-- an end that tells nothing has nothing to tell of streams
none_of_streams : (message done : Bool) (o : Option StreamEvent) (c : Closing) → answers.Event None ≡ answers.Event (if message then Some events.Message else (if done then Some events.HandshakeConfirmed else tells_of o c)) → o ≡ None
none_of_streams true done o c is = cc
none_of_streams false true o c is = cc
none_of_streams false false None c is = refl
none_of_streams false false (Some event) c is = cc

-- ---- a half of which all is acknowledged

whole_acked : (w : Wrote) (h : SendHalf) → IsSendHalf w h → w.reset ≡ None → w.ended ≡ true → ((o : ℕ) → o < length w.bytes → Has h.buffer.acked o) → h.end_acked ≡ true → is_acked h ≡ true
whole_acked w h i none ended all end =
    let free : h.reset ≡ None = i.reset ∙ ap (λ (o : Option ℕ). option_map (λ (code : ℕ). length w.bytes) o) none in
    let count : written h.buffer ≡ length w.bytes = bytes_written w h i none in
    let most : first_lacking h.buffer.acked ≤ written h.buffer = first_by h.buffer.acked (written h.buffer) i.lawful.acked (λ o has. (let sent = i.lawful.acked_sent o has in let bounded = i.lawful.bounded in omega arith)) in
    let least : written h.buffer ≤ first_lacking h.buffer.acked = elim (cases_lt (first_lacking h.buffer.acked) (written h.buffer)) [
      | inl lt ↦ absurd (first_lacks h.buffer.acked i.lawful.acked (all (first_lacking h.buffer.acked) (omega arith)))
      | inr le ↦ le
    ] in
    let full : is_fully_acked h.buffer ≡ true = eq-eqb (first_unacknowledged h.buffer) (written h.buffer) (omega arith) in
    let finished : h.finished ≡ true = i.finished ∙ ended in
    rw (free, finished, end, full) refl

-- ---- a stream

-- no stream is told finished twice
at_most_once : (k : Known) (t : Tells) (id : ℕ) (o : Option SendHalf) (used : Bool) → HalfIs (UnusedSettles k t id) (HalfSettles k t id) (DoneSettles t id) o used → t.times id ≤ 1
at_most_once k t id (Some h) used x = let none = x.0 in omega arith
at_most_once k t id None true x = go (t.reset id) x
  where
    go : (b : Bool) → t.times id ≡ times_done b → t.times id ≤ 1
    go true is = omega arith
    go false is = omega arith
at_most_once k t id None false x = let none = x.0 in omega arith

module _ (sents acked : List Sent) (told : List Told) (n : ℕ → ℕ) (s : StreamsState) (id : ℕ) (quiet : finishes_in id s.events.queue ≡ 0) where
  abbrev w : Wrote
  w = wrote told id

  abbrev t : Tells
  t = telling n (is_reset (wrote told)) s

  abbrev Acknowledged : Type 0
  Acknowledged = AllHeld acked id told × (reset id told ≡ None)

  abbrev Once : Type 0
  Once = (Acknowledged → n id ≡ 1) × ((Acknowledged → ⊥) → n id ≡ 0)

  -- by where its half stands
  once_at : (o : Option SendHalf) (used : Bool) → HalfIs (UnusedSettles (known_of sents acked) t id) (HalfSettles (known_of sents acked) t id) (DoneSettles t id) o used
      → HalfIs (w ≡ nothing_done) (λ h. IsSendHalf w h × HalfArrived (λ x. HoldsOffset acked id x) (HoldsEnd acked id) h) (IsSettled (λ x. HoldsOffset acked id x) (HoldsEnd acked id) w) o used → Once
  once_at (Some h) used x y =
      let zero = x.0 in (
        (λ a.
            let free : h.reset ≡ None = y.0.reset ∙ ap (λ (o : Option ℕ). option_map (λ (code : ℕ). length w.bytes) o) a.1 in
            let k = x.3 free in
            let whole : is_acked h ≡ true = whole_acked w h y.0 a.1 a.0.ended (λ o below. k.1 o (a.0.bytes o below)) (k.2 a.0.end) in
            absurd (both_ways (is_acked h) x.1 whole)),
        λ not. omega arith,
      )
  once_at None true x y = go (reset id told) refl x y
    where
      go : (r : Option ℕ) → reset id told ≡ r → t.times id ≡ times_done (is_some (reset id told)) → IsSettled (λ x. HoldsOffset acked id x) (HoldsEnd acked id) w → Once
      go None is times settled =
          let one : t.times id ≡ 1 = times ∙ ap (λ (o : Option ℕ). times_done (is_some o)) is in (
            (λ a. omega arith),
            λ not. elim settled [
              | inl all ↦ absurd (not (record { ended = all.ended; bytes = all.bytes; end = all.end }, is))
              | inr over ↦ (let clash : false ≡ true = sym (ap is_some is) ∙ over in cc)
            ],
          )
      go (Some code) is times settled =
          let none : t.times id ≡ 0 = times ∙ ap (λ (o : Option ℕ). times_done (is_some o)) is in
          ((λ a. (let clash : ◌≡◌ {A = Option ℕ} (Some code) None = sym is ∙ a.1 in cc)), λ not. omega arith)
  once_at None false x y = let zero = x.0 in ((λ a. absurd (x.2.3 a.0.end)), λ not. omega arith)

-- ---- the clause

module _ (G : Way) (settles : (x y : Party) → G x y → Settled x y) (r : Run) (end : World) (honest : IsHonest r) (all : (side : Side) (i : ℕ) → AreServed r i → Placed G r end side i) where
  pub finished_is_told_at : FinishedIsTold r
  finished_is_told_at side id i served = (once, told)
    where
      p : Placed G r end side i
      p = all side i served

      x : Party
      x = party_at r i p.world side p.sents

      y : Party
      y = party_at r i p.world (other_side side) p.theirs

      held : Settled x y
      held = settles x y p.gives

      -- twice never
      once : told_so x id ≤ 1
      once =
          let s = x.end.streams in
          let most = at_most_once nothing_known (telling (told_so x) (is_reset (wrote x.told)) s) id (at s.sending.halves.live id) (has_place s.side s.sending.halves.places id) (held.always.1.each id) in
          omega arith

      told : state_at r side i ≡ states.Open → IsAt r i side calls.Event (answers.Event None) → ToldOnce r side id i
      told state event =
          let s = x.end.streams in
          let is = answered r p.world end i side calls.Event (answers.Event None) p.goes_on event in
          let queue = none_left s (none_of_streams (tells_message x.end) (tells_done x.end) (polled s).answer x.end.closing is) in
          let open_now : Open x.sents (wrote x.told) (told_so x) (acks x y) x.end = held.still (p.state ∙ state) in
          let shape = open_now.0.acked.shape in
          let status = status_half (wrote x.told id ≡ nothing_done) (λ h. IsSendHalf (wrote x.told id) h × HalfArrived (λ o. HoldsOffset (acks x y) id o) (HoldsEnd (acks x y) id) h) (IsSettled (λ o. HoldsOffset (acks x y) id o) (HoldsEnd (acks x y) id) (wrote x.told id))
          (at s.sending.halves.live id) (sends_on s.side id && is_opened s id) (has_place s.side s.sending.halves.places id) (shape.sending.allowed id) (open_now.0.acked.each id) in
          let found = once_at x.sents (acks x y) x.told (told_so x) s id (ap (finishes_in id) queue) (at s.sending.halves.live id) (has_place s.side s.sending.halves.places id) (open_now.1.each id) status in
          subst (λ (acked : List Sent). ((AllHeld acked id x.told × (reset id x.told ≡ None)) → told_so x id ≡ 1) × (((AllHeld acked id x.told × (reset id x.told ≡ None)) → ⊥) → told_so x id ≡ 0)) (sym (ap (λ (w : Watch). w.flight.acked) (watch_is r honest p.world i side p.sents p.theirs))) found

-- all that holds between the ends of an honest run, and this
abbrev pub Held : Way
Held = And (everything.All Ready ready) Settled

pub held : Group Nothing Held
held = both Nothing (everything.All Ready ready) Settled (everything.all Ready ready) (settled_group (And Nothing (everything.All Ready ready)) (record {
  spoken = spoken (And Nothing (everything.All Ready ready)) (λ x y h. h.1.0.0) (λ x y h. h.1.0.1.0.says) (λ x y h. h.1.0.1.0.writes);
  sight = λ x y h. h.1.1;
}))

pub finished_is_told : (r : Run) (end : World) → IsHonest r → IsRun r end → FinishedIsTold r
finished_is_told r end honest run = finished_is_told_at Held (λ x y h. h.1) r end honest (placed Held held r end honest run)
