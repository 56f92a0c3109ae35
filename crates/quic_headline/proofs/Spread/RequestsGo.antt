-- So ACK_FREQUENCY goes where an end asks its peer anew, at each place of an honest run: with the
-- next datagram that asks for an acknowledgement; and a poll that gives nothing is held back.
use Rattle.std.proofs.Common.{◌≡◌, ◌⊎◌, ℕ, suc, Bool, true, false, ◌||◌, not, List, [], ◌∷◌, replicate, Some, None, Ok, refl, sym, ap, ◌∙◌, subst}
use Rattle.std.specs.List.{list_any}
use Rattle.std.proofs.lemmas.Bool.{or_left, or_right, both_ways}
use Rattle.std.proofs.lemmas.List.Folds.{list_any-append}
use Rattle.quic_wire.specs.Value.{FrameValue, ack_frequency, padding}
use Rattle.quic_wire_core.specs.declared.stream_id.Side.{Side}
use Rattle.quic_wire_core.specs.StreamId.{other_side}
use Rattle.quic_retransmits.specs.Retransmits.{control_kinds}
use Rattle.quic_recovery_core.specs.PendingAcks.{can_send}
use Rattle.quic_streams_state.specs.Waiting.{is_empty, can_send_stream_data, any_goes}
use Rattle.quic_machine.specs.declared.answers.State.TheVariants as states
use Rattle.quic_machine.specs.declared.run.Call.TheVariants as calls
use Rattle.quic_machine.specs.declared.run.Answer.{Answer}
use Rattle.quic_machine.specs.declared.run.Answer.TheVariants as answers
use Rattle.quic_machine.specs.declared.run.View.{View}
use Rattle.quic_machine.specs.Parts.{Waiting, signals_wait}
use Rattle.quic_machine.specs.End.{End}
use Rattle.quic_machine.specs.Poll.{Draft, Leaving, Ready, whole, alone, probe, closing, nothing, goes, goes_as, polled, rests, zeros_behind, with_signal_frames, with_ping_frame, ping_if, immediate_if, with_frequency_frame, request_if, request_of, asking, lazied, probed, asks_anew, message_waits, asks_to_go, waits, draft_as}
use Rattle.quic_machine.specs.PollCases.{ready_at, draft_at, by_probed, ready_closes_not}
use Rattle.quic_machine.specs.Machine.{World, policy_at, end_at}
use Rattle.quic_headline.specs.Runs.{Run, AreServed}
use Rattle.quic_headline.specs.Observer.{Sent, asks_of, Watch, watch}
use Rattle.quic_headline.specs.Headline.{IsHonest, IsRun}
use Rattle.quic_headline.specs.InFlight.{is_ack_frequency}
use Rattle.quic_headline.specs.Polls.{GaveAsking, GaveNothing, IsHeldBack, IsLimited}
use Rattle.quic_headline.specs.Requests.{Asking, asking_at, wants_anew, RequestsGo}
use Rattle.quic_headline.proofs.Packets.Flying.{asking_padded}
use Rattle.quic_headline.proofs.Packets.Group.{PacketsHold}
use Rattle.quic_headline.proofs.Packets.Quiet.{heard_nothing}
use Rattle.quic_headline.proofs.Places.Parties.{Party, watch_of, sent_as, with_shown, shown_at}
use Rattle.quic_headline.proofs.Places.Groups.{Way, Nothing, And, Group, both, over}
use Rattle.quic_headline.proofs.Places.Placed.{Placed, party_at, placed, placed_less}
use Rattle.quic_headline.proofs.Places.Everything as everything
use Rattle.quic_headline.proofs.Places.Theorems.{ready}
use Rattle.quic_headline.proofs.Halves.Ready as halves
use Rattle.quic_headline.proofs.Held.Behind.{last, still, at_rest, held_back}
use Rattle.quic_headline.proofs.Held.Clause.{held_or_blocked}
use Rattle.quic_headline.proofs.Steps.Probes.{begun}
use Rattle.quic_headline.proofs.Steps.Made.{MadeAt, made_at, polling, PollHolds, poll_holds}
use Rattle.quic_headline.proofs.Steps.Probing.{IsGiving, IsProbing, probe_goes}
use Rattle.quic_headline.proofs.Steps.Probing as probing
use Rattle.quic_headline.proofs.Waited.Pings.{by_ping, ready_waiting}
use Rattle.quic_headline.proofs.Requests.Asks.{by_of, is_anew, anew_is, anew_known}
use Rattle.quic_headline.proofs.Requests.Group.{Counted, counted_group}
use Rattle.quic_headline.proofs.Spread.Along.{Has, composed_has}
use Rattle.quic_headline.proofs.Timers.Watched.{Observed}

-- ---- what is composed

-- ACK_FREQUENCY is one of the frames of a draft
abbrev HasRequest : Draft → Type 0
HasRequest = Has is_ack_frequency

-- it waits at the end of a draft
abbrev Waits : Draft → Type 0
Waits d = d.end.waiting.frames.ack_frequency ≡ true

-- the signals go before it, and leave it
signals_leave : (d : Draft) → Waits d → Waits (with_signal_frames d)
signals_leave d set = by_ping Waits Waits (λ x word i. i) (λ x r i. i) (λ x i. hastened (with_ping_frame x).end.waiting.signals.immediate (with_ping_frame x) (pinged x.end.waiting.signals.ping x i)) d set
  where
    pinged : (b : Bool) (x : Draft) → Waits x → Waits (ping_if b x)
    pinged true x i = i
    pinged false x i = i

    hastened : (b : Bool) (x : Draft) → Waits x → Waits (immediate_if b x)
    hastened true x i = i
    hastened false x i = i

-- so it goes behind them
request_stands : (d : Draft) → Waits d → HasRequest (with_frequency_frame (with_signal_frames d))
request_stands d set = given (with_signal_frames d) (signals_leave d set)
  where
    given : (x : Draft) → Waits x → HasRequest (with_frequency_frame x)
    given x i =
        ap (λ (b : Bool). list_any is_ack_frequency (request_if b x).frames) i
        ∙ list_any-append is_ack_frequency x.frames (ack_frequency (request_of x.end) ∷ [])
        ∙ or_right (list_any is_ack_frequency x.frames) (list_any is_ack_frequency (ack_frequency (request_of x.end) ∷ [])) refl

-- ---- an end at which it waits

-- something asks there
request_asks : (e : End) → e.waiting.frames.ack_frequency ≡ true → asks_to_go e ≡ true
request_asks e set =
    or_right (signals_wait e.waiting.signals) (not (is_empty e.waiting.frames e.streams) || (message_waits e || can_send_stream_data e.streams))
    (or_left (not (is_empty e.waiting.frames e.streams)) (message_waits e || can_send_stream_data e.streams)
    (ap (λ (b : Bool). not (not b)) (or_right (list_any (λ kind. any_goes kind e.waiting.frames e.streams) control_kinds) e.waiting.frames.ack_frequency set)))

-- so something waits
request_waits : (e : End) → e.waiting.frames.ack_frequency ≡ true → waits e ≡ true
request_waits e set = or_right (can_send e.acknowledging) (asks_to_go e) (request_asks e set)

-- ---- an end that asks anew

module _ (e : End) (now : ℕ) (anew : is_anew (by_of e) ≡ true) where
  abbrev g : Ready
  g = ready_at e now

  -- ACK_FREQUENCY waits once it is ready
  ready_requests : g.end.waiting.frames.ack_frequency ≡ true
  ready_requests =
      ap (λ (w : Waiting). w.frames.ack_frequency) (ready_waiting e now)
      ∙ or_left (asks_anew (probed (begun e now)).transport.ack_frequency_config (probed (begun e now))) (probed (begun e now)).waiting.frames.ack_frequency
      (anew_is (probed (begun e now)) ∙ by_probed (begun e now) (λ (x : End). is_anew (by_of x) ≡ true) anew (λ immediate. anew) (λ immediate. anew) (λ immediate q probes is. anew))

  -- what asks has it
  asking_frames : (leaving : Leaving) → g.leaving ≡ leaving → goes g ≡ true → asking (draft_as leaving g.end).frames ≡ true → HasRequest (draft_as leaving g.end)
  asking_frames whole is some asks = composed_has is_ack_frequency (lazied g.end) (λ d same. request_stands d (ap (λ (w : Waiting). w.frames.ack_frequency) same ∙ ready_requests))
  asking_frames alone is some asks = absurd (both_ways (asking (draft_as alone g.end).frames) refl asks)
  asking_frames (probe size) is some asks =
      let q : IsProbing (begun e now) g = probe_goes e now size is in
      absurd (both_ways (waits (begun e now)) q.idle (request_waits (begun e now) (sym (ap (λ (r : Ready). r.end.waiting.frames.ack_frequency) q.is) ∙ ready_requests)))
  asking_frames (closing f) is some asks = absurd (ready_closes_not e now f is)
  asking_frames (nothing held) is some asks = absurd (both_ways (goes g) (ap goes_as is) some)

  -- so a datagram that asks has it
  asking_requested : goes g ≡ true → asks_of (sent_as e now (draft_at e now)) ≡ true → list_any is_ack_frequency (sent_as e now (draft_at e now)).frames ≡ true
  asking_requested some asks =
      let fs : List FrameValue = (draft_at e now).frames in
      let zeros : List FrameValue = replicate (zeros_behind (draft_at e now)) padding in
      list_any-append is_ack_frequency fs zeros ∙ or_left (list_any is_ack_frequency fs) (list_any is_ack_frequency zeros) (asking_frames g.leaving refl some (sym (asking_padded fs (zeros_behind (draft_at e now))) ∙ asks))

-- ---- the clause

-- all that is known of the packets and the streams, and how many requests went
abbrev All : Way
All = everything.All halves.Ready ready

abbrev Known : Way
Known = And All Counted

known : Group Nothing Known
known = both Nothing All Counted (everything.all halves.Ready ready) (over PacketsHold (And Nothing All) Counted (λ x y h. h.1.0.0) counted_group)

-- what is known of the streams
abbrev Streams : Way
Streams = everything.Streams halves.Ready ready

-- an end as it is polled
abbrev met_at : Side → World → End
met_at side w = with_shown (end_at side w) (shown_at side w)

-- its observer finds when an open end asks anew
anew_seen : (r : Run) (side : Side) (i now : ℕ) (a : Answer) (w : World) → PollHolds Known r i side now a w → (met_at side w).closing.state ≡ states.Open → is_anew (by_of (met_at side w)) ≡ wants_anew (asking_at r side) (watch r side i).own (watch r side i).flight
anew_seen r side i now a w h opened =
    anew_known x.terms (watch_of x y).clock x.sents (watch_of x y).flight x.end (h.gives.0.1.watched.flight opened).tells h.gives.1.next
    ∙ ap (λ (b : Asking). wants_anew b x.sents (watch_of x y).flight) h.gives.1.same
    ∙ ap (λ (ss : List Sent). wants_anew (asking_at r side) ss (watch_of x y).flight) (sym h.gives.0.1.own)
    ∙ ap (λ (v : Watch). wants_anew (asking_at r side) v.own v.flight) (sym h.seen)
  where
    x : Party
    x = polling r i w side h.sents

    y : Party
    y = party_at r i w (other_side side) h.theirs

module _ (r : Run) (end : World) (honest : IsHonest r) (run : IsRun r end) where
  -- a datagram that asks has it
  goes_along : (side : Side) (i now : ℕ) (given : GaveAsking r side i now) → wants_anew (asking_at r side) (watch r side i).own (watch r side i).flight ≡ true → list_any is_ack_frequency given.one.sent.frames ≡ true
  goes_along side i now given wanted =
      let asks : asks_of given.one.sent ≡ true = given.asks in
      subst (λ (s : Sent). list_any is_ack_frequency s.frames ≡ true) (sym gives.sent)
      (asking_requested e now (anew_seen r side i now answer w h gives.opened ∙ wanted) gives.some (subst (λ (s : Sent). asks_of s ≡ true) gives.sent asks))
    where
      answer : Answer
      answer = answers.Poll (Ok (Some given.one.transmit))

      at : MadeAt r i side (calls.Poll now) answer
      at = made_at Known known r end honest run i side (calls.Poll now) answer given.one.poll given.one.served

      w : World
      w = at.before

      h : PollHolds Known r i side now answer w
      h = poll_holds Known known r end honest run i side now answer w at.behind at.made

      e : End
      e = met_at side w

      gives : IsGiving (policy_at side r.keys) e now given.one.transmit (polled (policy_at side r.keys) e now).end given.one.sent
      gives = probing.asking_gives Streams (everything.all halves.Ready ready) r end honest run side i now given.one w at.behind at.made given.asks

  place : (side : Side) (i : ℕ) → AreServed r i → Placed Known r end side i
  place = placed Known known r end honest run

  -- where a poll gives nothing, it waits behind it, and is held back
  is_held : (side : Side) (i now : ℕ) (v : View) → AreServed r (suc i) → GaveNothing r side i now v → wants_anew (asking_at r side) (watch r side i).own (watch r side i).flight ≡ true → IsHeldBack r side (suc i) v ⊎ IsLimited r side (suc i) v
  is_held side i now v served gave wanted =
      held_or_blocked r end honest run (λ by j there. placed_less Known Observed r end by j (λ x y h. (h.0.0.0, h.0.1)) (place by j there)) (heard_nothing r honest) side i now v at.world served at.leads gave
      (held_back Known (record { packets = λ x y h. h.0.0.0; sight = λ x y h. h.0.1 }) r end honest side i now v at gave (λ none. asks))
    where
      answer : Answer
      answer = answers.Poll (Ok None)

      at : Placed Known r end side (suc i)
      at = place side (suc i) served

      -- the world before the poll
      w : World
      w = (last r side i now v at.world at.leads gave).before

      h : PollHolds Known r i side now answer w
      h = poll_holds Known known r end honest run i side now answer w at.world (record { at = gave.poll; leads = (last r side i now v at.world at.leads gave).leads; step = (last r side i now v at.world at.leads gave).step; served = served })

      e : End
      e = met_at side w

      anew : is_anew (by_of e) ≡ true
      anew = anew_seen r side i now answer w h (still r side i now v at.world at.leads gave).opened ∙ wanted

      asks : asks_to_go (end_at side at.world) ≡ true
      asks = ap asks_to_go (at_rest r side i now v at.world at.leads gave) ∙ request_asks (rests (ready_at e now)) (ready_requests e now anew)

pub requests_go : (r : Run) (end : World) → IsHonest r → IsRun r end → RequestsGo r
requests_go r end honest run = record { along = goes_along r end honest run; held = is_held r end honest run }
