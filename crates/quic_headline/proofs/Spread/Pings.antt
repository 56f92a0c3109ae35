-- Where PING was asked for since one went, or the time without a packet was over, it waits at an
-- open end: only a poll takes it away, which gives it.
use Rattle.std.proofs.Common.{◌≡◌, ℕ, Bool, true, false, ◌||◌, List, [], ◌∷◌, ◌++◌, replicate, refl, sym, ap, ◌∙◌, ◌⊎◌, inl, inr}
use Rattle.std.specs.Prelude.{if◌then◌else◌}
use Rattle.std.specs.List.{list_any}
use Rattle.std.proofs.lemmas.Bool.{or_cases, or_left, or_right, or_from, both_ways}
use Rattle.std.proofs.lemmas.List.Folds.{list_any-append}
use Rattle.quic_wire.specs.Value.{FrameValue, ack, ping, padding, stream, datagram, immediate_ack, ack_frequency}
use Rattle.quic_recovery_core.specs.PendingAcks.{can_send}
use Rattle.quic_streams_parts.specs.SendHalf.{frame_of}
use Rattle.quic_machine.specs.declared.answers.State.TheVariants as states
use Rattle.quic_machine.specs.declared.run.Call.{Call}
use Rattle.quic_machine.specs.declared.run.Call.TheVariants as calls
use Rattle.quic_machine.specs.declared.run.Answer.{Answer}
use Rattle.quic_machine.specs.declared.run.Answer.TheVariants as answers
use Rattle.quic_machine.specs.Policy.{Policy}
use Rattle.quic_machine.specs.Parts.{Waiting}
use Rattle.quic_machine.specs.End.{End}
use Rattle.quic_machine.specs.Poll.{Polled, Draft, asking, no_frames, zeros_behind, with_signal_frames, closing, ping_if, with_control_frames, with_message_frames, with_asking, ack_of, with_ack, ack_fits, ack_if, composed_if, composed, lazied, draft_as, whole, alone, probe, nothing, Leaving, Ready, goes, goes_as, polled, immediate_if, with_ping_frame, with_frequency_frame, request_of}
use Rattle.quic_machine.specs.DraftLaws.{by_entries, by_messages, by_streams}
use Rattle.quic_machine.specs.PollCases.{ready_at, draft_at, by_probed, ready_closes_not}
use Rattle.quic_machine.specs.Machine.{gave}
use Rattle.quic_machine.specs.CallCases.{is_poll}
use Rattle.quic_machine.specs.Validation.{challenge_frame, response_frame}
use Rattle.quic_headline.specs.Observer.{Sent, asks_of}
use Rattle.quic_headline.specs.Waited.{stands, is_ping, asks_ping, wakes, Wants}
use Rattle.quic_headline.proofs.Packets.Entries.{IsControl, control_of, by_request}
use Rattle.quic_headline.proofs.Packets.Flying.{asking_padded}
use Rattle.quic_headline.proofs.Packets.Probes.{by_going}
use Rattle.quic_headline.proofs.Places.Parties.{sent_by, sent_if, sents_by, told_of, Party, called, sent_as}
use Rattle.quic_headline.proofs.Places.Groups.{Way, And, Calls, Group}
use Rattle.quic_headline.proofs.Places.Steps.{poll_answer}
use Rattle.quic_headline.proofs.Timers.Still.{was_open}
use Rattle.quic_headline.proofs.Timers.Watched.{Observed, watch_behind}
use Rattle.quic_headline.proofs.Steps.Probes.{begun}
use Rattle.quic_headline.proofs.Waited.Alive.{wakes_at}
use Rattle.quic_headline.proofs.Waited.Pings.{by_ping, none_padded, ready_waiting, call_pinged}
use Rattle.quic_headline.proofs.Waited.Group.{wants_of, wants_watch, IsWanted, Wanting, wants_next, calm, woken}
use Rattle.quic_headline.proofs.Packets.Sends.{by_sends}
use Rattle.quic_headline.proofs.Spread.Along.{Has, still_has, signals_stay, composed_has}

-- ---- what is composed

-- PING is one of the frames of a draft
abbrev HasPing : Draft → Type 0
HasPing = Has is_ping

-- where it waits, it goes before what is to be told of streams
signals_have : (d : Draft) → d.end.waiting.signals.ping ≡ true → HasPing (with_signal_frames d)
signals_have d waits = by_ping (λ (x : Draft). x.end.waiting.signals.ping ≡ true) HasPing (λ x word i. i) (λ x r i. i)
    (λ x i. behind (with_ping_frame x).end.waiting.signals.immediate (with_ping_frame x)
    (ap (λ (b : Bool). list_any is_ping (ping_if b x).frames) i ∙ list_any-append is_ping x.frames (ping ∷ []) ∙ or_right (list_any is_ping x.frames) (list_any is_ping (ping ∷ [])) refl)) d waits
  where
    behind : (b : Bool) (x : Draft) → HasPing x → HasPing (immediate_if b x)
    behind true x is = still_has is_ping x immediate_ack is
    behind false x is = is

pinged_has : (e : End) → e.waiting.signals.ping ≡ true → HasPing (composed e)
pinged_has e waits = composed_has is_ping e (λ d same. signals_stay is_ping d (signals_have d (ap (λ (w : Waiting). w.signals.ping) same ∙ waits)))

-- ---- where none waits, none goes

-- PING is none of the frames of a draft
abbrev HasNone : Draft → Type 0
HasNone d = list_any is_ping d.frames ≡ false

still_none : (d : Draft) (f : FrameValue) → is_ping f ≡ false → HasNone d → list_any is_ping (d.frames ++ f ∷ []) ≡ false
still_none d f other is = list_any-append is_ping d.frames (f ∷ []) ∙ or_from (list_any is_ping d.frames) (list_any is_ping (f ∷ [])) is (or_from (is_ping f) false other refl)

-- a frame of control is none
control_other : (f : FrameValue) → IsControl f → is_ping f ≡ false
control_other ping is = absurd is
control_other f is = refl

signals_none : (d : Draft) → d.end.waiting.signals.ping ≡ false → HasNone d → HasNone (with_signal_frames d)
signals_none d waits none = by_ping (λ (x : Draft). (x.end.waiting.signals.ping ≡ false) × HasNone x) HasNone (λ x word i. (i.0, still_none x (challenge_frame word) refl i.1)) (λ x r i. (i.0, still_none x (response_frame r) refl i.1))
    (λ x i. behind (with_ping_frame x).end.waiting.signals.immediate (with_ping_frame x) (ap (λ (b : Bool). list_any is_ping (ping_if b x).frames) i.0 ∙ i.1)) d (waits, none)
  where
    behind : (b : Bool) (x : Draft) → HasNone x → HasNone (immediate_if b x)
    behind true x is = still_none x immediate_ack refl is
    behind false x is = is

asking_none : (d : Draft) → d.end.waiting.signals.ping ≡ false → HasNone d → HasNone (with_asking d)
asking_none d waits none = by_streams HasNone (λ x id h room found first left is counts i. still_none x (stream (frame_of id h room)) refl i) (with_message_frames (with_control_frames (with_frequency_frame (with_signal_frames d))))
    (by_messages HasNone (λ x m ms is fit i. still_none x (datagram m) refl i) (with_control_frames (with_frequency_frame (with_signal_frames d))) (by_entries HasNone (λ x kind i. i) (λ x kind f is i. still_none x f (control_other f (control_of f kind is.of_kind)) i) (with_frequency_frame (with_signal_frames d))
    (by_request HasNone (with_signal_frames d) (λ asks i. still_none (with_signal_frames d) (ack_frequency (request_of (with_signal_frames d).end)) refl i) (signals_none d waits none))))

composed_none : (e : End) → e.waiting.signals.ping ≡ false → HasNone (composed e)
composed_none e waits = go (can_send e.acknowledging)
  where
    late : (b : Bool) (d : Draft) → HasNone d → HasNone (ack_if b d)
    late true d is = still_none d (ack (ack_of d.end)) refl is
    late false d is = is

    go : (b : Bool) → HasNone (composed_if b e)
    go true = asking_none (with_ack (no_frames e)) waits refl
    go false = late (ack_fits (with_asking (no_frames e))) (with_asking (no_frames e)) (asking_none (no_frames e) waits refl)

-- so where PING goes among all that waits, it waited
pub whole_pinged : (e : End) (count : ℕ) → list_any is_ping ((composed (lazied e)).frames ++ replicate count padding) ≡ true → e.waiting.signals.ping ≡ true
whole_pinged e count has = go e.waiting.signals.ping refl
  where
    go : (b : Bool) → e.waiting.signals.ping ≡ b → e.waiting.signals.ping ≡ true
    go true waits = waits
    go false waits = absurd (both_ways (list_any is_ping ((composed (lazied e)).frames ++ replicate count padding))
        (list_any-append is_ping (composed (lazied e)).frames (replicate count padding) ∙ or_from (list_any is_ping (composed (lazied e)).frames) (list_any is_ping (replicate count padding)) (composed_none (lazied e) waits) (none_padded count)) has)

-- ---- a poll

module _ (p : Policy) (e : End) (now : ℕ) (waits : e.waiting.signals.ping ≡ true) where
  abbrev g : Ready
  g = ready_at e now

  -- it waits at an end that is ready
  ready_has : g.end.waiting.signals.ping ≡ true
  ready_has = ap (λ (w : Waiting). w.signals.ping) (ready_waiting e now) ∙ by_probed (begun e now) (λ (x : End). x.waiting.signals.ping ≡ true) waits (λ immediate. waits) (λ immediate. refl) (λ immediate q probes is. waits)

  -- what goes has it, or leaves it
  draft_has : (leaving : Leaving) → (HasPing (draft_as leaving g.end)) ⊎ ((draft_as leaving g.end).end.waiting.signals.ping ≡ true)
  draft_has whole = inl (pinged_has (lazied g.end) ready_has)
  draft_has alone = inr ready_has
  draft_has (probe size) = inr ready_has
  draft_has (closing f) = inr ready_has
  draft_has (nothing held) = inr ready_has

  given_has : stands is_ping (sent_as e now (draft_at e now) ∷ []) ≡ false → (draft_at e now).end.waiting.signals.ping ≡ true
  given_has none = elim (draft_has g.leaving) [
    | inl has ↦ absurd (both_ways (stands is_ping (sent_as e now (draft_at e now) ∷ [])) none
        (or_left (list_any is_ping ((draft_at e now).frames ++ replicate (zeros_behind (draft_at e now)) padding)) false
        (list_any-append is_ping (draft_at e now).frames (replicate (zeros_behind (draft_at e now)) padding) ∙ or_left (list_any is_ping (draft_at e now).frames) (list_any is_ping (replicate (zeros_behind (draft_at e now)) padding)) has)))
    | inr left ↦ left
  ]

  -- what asks has it
  asking_frames : (leaving : Leaving) → g.leaving ≡ leaving → goes g ≡ true → asking (draft_as leaving g.end).frames ≡ true → HasPing (draft_as leaving g.end)
  asking_frames whole is some asks = pinged_has (lazied g.end) ready_has
  asking_frames alone is some asks = absurd (both_ways (asking (draft_as alone g.end).frames) refl asks)
  asking_frames (probe size) is some asks = refl
  asking_frames (closing f) is some asks = absurd (ready_closes_not e now f is)
  asking_frames (nothing held) is some asks = absurd (both_ways (goes g) (ap goes_as is) some)

  -- so a datagram that asks has it
  pub asking_pinged : goes g ≡ true → asks_of (sent_as e now (draft_at e now)) ≡ true → list_any is_ping (sent_as e now (draft_at e now)).frames ≡ true
  asking_pinged some asks =
      let fs : List FrameValue = (draft_at e now).frames in
      let zeros : List FrameValue = replicate (zeros_behind (draft_at e now)) padding in
      list_any-append is_ping fs zeros ∙ or_left (list_any is_ping fs) (list_any is_ping zeros) (asking_frames g.leaving refl some (sym (asking_padded fs (zeros_behind (draft_at e now))) ∙ asks))

  -- a poll that gives none leaves it
  pub polled_has : (polled p e now).end.closing.state ≡ states.Open → stands is_ping (sent_if (gave (answers.Poll (polled p e now).answer)) (sent_by p e now)) ≡ false → (polled p e now).end.waiting.signals.ping ≡ true
  polled_has = by_sends p e now (λ (q : Polled) (ss : List Sent). q.end.closing.state ≡ states.Open → stands is_ping ss ≡ false → q.end.waiting.signals.ping ≡ true) (record {
    silent = λ opened none. waits;
    failed = λ opened none. waits;
    nothing = λ is quiet opened none. ready_has;
    repeats = λ is. ((λ opened none. let clash : states.Closing ≡ states.Open = sym is ∙ opened in cc), λ f goes opened none. let clash : states.Closing ≡ states.Open = sym is ∙ opened in cc);
    closes = λ reason is bound. ((λ opened none. cc), λ f goes opened none. cc);
    gives = λ is may some. by_going (λ (x : End). x.closing.state ≡ states.Open → stands is_ping (sent_as e now (draft_at e now) ∷ []) ≡ false → x.waiting.signals.ping ≡ true) p (draft_at e now) (λ pacing opened none. given_has none);
  })

-- ---- the group

-- while x is open, PING waits where it was asked for
pub record Pinging (x y : Party) : Type 0 where
  pub pinged : x.end.closing.state ≡ states.Open → (wants_of x y).pinged ≡ true → x.end.waiting.signals.ping ≡ true

-- where one of two holds where a third doesn't
no_more : (b c : Bool) → (if b then false else c) ≡ true → (b ≡ false) × (c ≡ true)
no_more true c is = cc
no_more false c is = (refl, is)

-- what an observer wants of x behind a call
module _ (x y : Party) (call : Call) (a : Answer) (c : Calls Observed x y call a) (still : (called x y.given call a).end.closing.state ≡ states.Open) (i : IsWanted (wants_of x y) x.end) where
  abbrev woken_by : Bool
  woken_by = wakes (told_of call a x.end.closing.state) (watch_behind x y call a c (wants_of x y).watch (wants_watch x y)).clock (wants_of x y).alive

  pinged_behind : (wants_of (called x y.given call a) y).pinged ≡ (if stands is_ping (sents_by x.policy x.end call a) then false else asks_ping call || (woken_by || (wants_of x y).pinged))
  pinged_behind = ap (λ (w : Wants). w.pinged) (wants_next x y call a c still i)

-- a call that is no poll
other_pings : (x y : Party) (call : Call) (a : Answer) (woken_now : Bool) → is_poll call ≡ false → (called x y.given call a).end.closing.state ≡ states.Open → ((wants_of x y).pinged ≡ true → x.end.waiting.signals.ping ≡ true)
    → woken_now ≡ wakes_at x.end call → (asks_ping call || (woken_now || (wants_of x y).pinged)) ≡ true → (called x y.given call a).end.waiting.signals.ping ≡ true
other_pings x y call a woken_now silent still i same is = call_pinged x.policy x.end y.given call a silent still ∙ elim (or_cases (asks_ping call) (woken_now || (wants_of x y).pinged) is) [
  | inl asks ↦ or_left (asks_ping call) (wakes_at x.end call || x.end.waiting.signals.ping) asks
  | inr other ↦ or_right (asks_ping call) (wakes_at x.end call || x.end.waiting.signals.ping) (elim (or_cases woken_now (wants_of x y).pinged other) [
    | inl wakes_up ↦ or_left (wakes_at x.end call) x.end.waiting.signals.ping (sym same ∙ wakes_up)
    | inr asked ↦ or_right (wakes_at x.end call) x.end.waiting.signals.ping (i asked)
  ])
]

call_pings : (x y : Party) (call : Call) (a : Answer) (c : Calls Observed x y call a) (still : (called x y.given call a).end.closing.state ≡ states.Open) (w : IsWanted (wants_of x y) x.end) → ((wants_of x y).pinged ≡ true → x.end.waiting.signals.ping ≡ true)
    → (if stands is_ping (sents_by x.policy x.end call a) then false else asks_ping call || (woken_by x y call a c still w || (wants_of x y).pinged)) ≡ true → (called x y.given call a).end.waiting.signals.ping ≡ true
call_pings x y (calls.Poll now) a c still w i is =
    let both = no_more (stands is_ping (sent_if (gave a) (sent_by x.policy x.end now))) (woken_by x y (calls.Poll now) a c still w || (wants_of x y).pinged) is in
    let asked : (wants_of x y).pinged ≡ true = ap (λ (b : Bool). b || (wants_of x y).pinged) (sym (calm x y (calls.Poll now) a c still w refl)) ∙ both.1 in
    let said : a ≡ answers.Poll (polled x.policy x.end now).answer = poll_answer x.policy x.end now a c.answer c.served in
    polled_has x.policy x.end now (i asked) still (sym (ap (λ (b : Answer). stands is_ping (sent_if (gave b) (sent_by x.policy x.end now))) said) ∙ both.0)
call_pings x y (calls.Timeout now) a c still w i is = other_pings x y (calls.Timeout now) a (woken_by x y (calls.Timeout now) a c still w) refl still i (woken x y a now c still w) is
call_pings x y call a c still w i is = other_pings x y call a (woken_by x y call a c still w) refl still i (calm x y call a c still w refl) is

-- what is observed, and wanted
abbrev pub ObservedWanting : Way
ObservedWanting = And Observed Wanting

-- said less
observed_call : (x y : Party) (call : Call) (a : Answer) → Calls ObservedWanting x y call a → Calls Observed x y call a
observed_call x y call a c = record {
  joined = c.joined;
  answer = c.answer;
  served = c.served;
  uses = c.uses;
  codes = c.codes;
  joined_behind = c.joined_behind;
  gives = c.gives.0;
  takes = c.takes.0;
  gives_behind = c.gives_behind.0;
  takes_behind = c.takes_behind.0;
}

pinging_step : (x y : Party) (call : Call) (a : Answer) → Calls ObservedWanting x y call a → Pinging x y → Pinging (called x y.given call a) y
pinging_step x y call a c i = record { pinged = λ still set. pings still (was_open x.policy x.end y.given call a still) set }
  where
    d : Calls Observed x y call a
    d = observed_call x y call a c

    pings : (called x y.given call a).end.closing.state ≡ states.Open → x.end.closing.state ≡ states.Open → (wants_of (called x y.given call a) y).pinged ≡ true → (called x y.given call a).end.waiting.signals.ping ≡ true
    pings still opened set = (
        let w : IsWanted (wants_of x y) x.end = c.gives.1.wanted opened in
        call_pings x y call a d still w (i.pinged opened) (sym (pinged_behind x y call a d still w) ∙ set))

pub pinging_group : Group ObservedWanting Pinging
pinging_group = record {
  first = λ x y m there here. record { pinged = λ opened set. cc };
  writer = λ x y call a c i back. pinging_step x y call a c i;
  reader = λ x y call a c i back. record { pinged = back.pinged };
  shows = λ x y here there b back i j. record { pinged = i.pinged };
}
