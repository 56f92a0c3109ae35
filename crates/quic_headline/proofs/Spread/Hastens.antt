-- So each datagram that asks while a probe of losses waits has IMMEDIATE_ACK, where the peer told
-- that it takes it, at each place of an honest run.
use Rattle.std.proofs.Common.{◌≡◌, ℕ, ◌<◌, Bool, true, false, List, [], ◌∷◌, replicate, Option, Some, None, Ok, refl, sym, ap, ◌∙◌, subst, arith}
use Rattle.std.specs.List.{list_any}
use Rattle.std.specs.Option.{is_some}
use Rattle.std.proofs.lemmas.Bool.{or_left, or_right, lt-ltb}
use Rattle.std.proofs.lemmas.List.Folds.{list_any-append}
use Rattle.quic_wire.specs.Value.{FrameValue, immediate_ack, padding}
use Rattle.quic_wire_core.specs.declared.stream_id.Side.{Side}
use Rattle.quic_streams_state.specs.Waiting.{is_empty}
use Rattle.quic_machine.specs.declared.run.Call.TheVariants as calls
use Rattle.quic_machine.specs.declared.run.Answer.{Answer}
use Rattle.quic_machine.specs.declared.run.Answer.TheVariants as answers
use Rattle.quic_machine.specs.Parts.{Waiting}
use Rattle.quic_spaces.specs.Records.{first_record}
use Rattle.quic_machine.specs.Tracking.{TrackedPacket}
use Rattle.quic_machine.specs.End.{End}
use Rattle.quic_machine.specs.Poll.{Draft, Leaving, whole, goes, polled, zeros_behind, with_signal_frames, with_ping_frame, ping_if, immediate_if, lazied, hastened, ping_unless, record_moved, probe_filled, probe_if, probed, draft_as}
use Rattle.quic_machine.specs.PollCases.{ready_at, draft_at}
use Rattle.quic_machine.specs.Machine.{World, policy_at, end_at}
use Rattle.quic_headline.specs.Runs.{Run}
use Rattle.quic_headline.specs.Observer.{Sent, watch}
use Rattle.quic_headline.specs.Headline.{IsHonest, IsRun}
use Rattle.quic_headline.specs.Polls.{GaveAsking}
use Rattle.quic_headline.specs.AcksDue.{is_immediate_ack}
use Rattle.quic_headline.specs.Requests.{Asking, asking_at}
use Rattle.quic_headline.specs.Pings.{ProbesHasten}
use Rattle.quic_headline.proofs.Packets.Group.{PacketsHold}
use Rattle.quic_headline.proofs.Places.Parties.{sent_as, with_shown, shown_at}
use Rattle.quic_headline.proofs.Places.Groups.{Way, Nothing, And, Group, both, over}
use Rattle.quic_headline.proofs.Places.Everything as everything
use Rattle.quic_headline.proofs.Places.Theorems.{ready}
use Rattle.quic_headline.proofs.Halves.Ready.{Ready}
use Rattle.quic_headline.proofs.Steps.Probes.{begun}
use Rattle.quic_headline.proofs.Steps.Made.{MadeAt, made_at, PollHolds, poll_holds}
use Rattle.quic_headline.proofs.Steps.Probing.{IsGiving}
use Rattle.quic_headline.proofs.Steps.Probing as probing
use Rattle.quic_headline.proofs.Waited.Pings.{by_ping, ready_waiting, unless_whole}
use Rattle.quic_headline.proofs.Requests.Group.{Counted, counted_group}
use Rattle.quic_headline.proofs.Spread.Along.{Has, signals_stay, composed_has}

-- ---- what is composed

-- IMMEDIATE_ACK goes with the signals, where it waits
signals_hasten : (d : Draft) → d.end.waiting.signals.immediate ≡ true → Has is_immediate_ack (with_signal_frames d)
signals_hasten d waits = by_ping (λ (x : Draft). x.end.waiting.signals.immediate ≡ true) (Has is_immediate_ack) (λ x word i. i) (λ x r i. i) (λ x i. given (with_ping_frame x) (still x.end.waiting.signals.ping x i)) d waits
  where
    still : (b : Bool) (x : Draft) → x.end.waiting.signals.immediate ≡ true → (ping_if b x).end.waiting.signals.immediate ≡ true
    still true x i = i
    still false x i = i

    given : (x : Draft) → x.end.waiting.signals.immediate ≡ true → list_any is_immediate_ack (immediate_if x.end.waiting.signals.immediate x).frames ≡ true
    given x i =
        ap (λ (b : Bool). list_any is_immediate_ack (immediate_if b x).frames) i
        ∙ list_any-append is_immediate_ack x.frames (immediate_ack ∷ [])
        ∙ or_right (list_any is_immediate_ack x.frames) (list_any is_immediate_ack (immediate_ack ∷ [])) refl

-- ---- an end at which a probe waits

-- it waits for the probe, where the peer takes it
probed_hastens : (x : End) → 0 < x.tracking.probes → is_some x.peer_params.min_ack_delay ≡ true → (probed x).waiting.signals.immediate ≡ true
probed_hastens x some takes = ap (λ (b : Bool). (probe_if b x).waiting.signals.immediate) (lt-ltb 0 x.tracking.probes some) ∙ filled (is_empty x.waiting.frames x.streams)
  where
    waits : (hastened x).waiting.signals.immediate ≡ true
    waits = or_left (is_some x.peer_params.min_ack_delay) x.waiting.signals.immediate takes

    pinged : (b : Bool) → (ping_unless b (hastened x)).waiting.signals.immediate ≡ true
    pinged true = waits
    pinged false = waits

    moved : (o : Option (ℕ × TrackedPacket)) → (record_moved o (hastened x)).waiting.signals.immediate ≡ true
    moved None = pinged (hastened x).waiting.signals.immediate
    moved (Some q) = waits

    filled : (b : Bool) → (probe_filled b (hastened x)).waiting.signals.immediate ≡ true
    filled true = moved (first_record (hastened x).streams (hastened x).tracking.packets)
    filled false = waits

module _ (e : End) (now : ℕ) (some : 0 < e.tracking.probes) (takes : is_some e.peer_params.min_ack_delay ≡ true) where
  ready_hastens : (ready_at e now).end.waiting.signals.immediate ≡ true
  ready_hastens = ap (λ (w : Waiting). w.signals.immediate) (ready_waiting e now) ∙ probed_hastens (begun e now) some takes

  -- all that waits goes
  goes_whole : goes (ready_at e now) ≡ true → (ready_at e now).leaving ≡ whole
  goes_whole given = go (ready_at e now).leaving refl
    where
      go : (l : Leaving) → (ready_at e now).leaving ≡ l → (ready_at e now).leaving ≡ whole
      go whole is = is
      go l is = (let none = unless_whole e now given (λ same. (let clash : l ≡ whole = sym is ∙ same in cc)) in absurd (omega arith))

  -- IMMEDIATE_ACK with it
  given_hastens : goes (ready_at e now) ≡ true → list_any is_immediate_ack (sent_as e now (draft_at e now)).frames ≡ true
  given_hastens given =
      let fs : List FrameValue = (draft_at e now).frames in
      let zeros : List FrameValue = replicate (zeros_behind (draft_at e now)) padding in
      list_any-append is_immediate_ack fs zeros ∙ or_left (list_any is_immediate_ack fs) (list_any is_immediate_ack zeros)
      (ap (λ (l : Leaving). list_any is_immediate_ack (draft_as l (ready_at e now).end).frames) (goes_whole given)
      ∙ composed_has is_immediate_ack (lazied (ready_at e now).end) (λ d same. signals_stay is_immediate_ack d (signals_hasten d (ap (λ (w : Waiting). w.signals.immediate) same ∙ ready_hastens))))

-- ---- the clause

-- all that is known of the packets and the streams, and how an end asks
abbrev Known : Way
Known = And (everything.All Ready ready) Counted

known : Group Nothing Known
known = both Nothing (everything.All Ready ready) Counted (everything.all Ready ready) (over PacketsHold (And Nothing (everything.All Ready ready)) Counted (λ x y h. h.1.0.0) counted_group)

-- what is known of the streams
abbrev Streams : Way
Streams = everything.Streams Ready ready

module _ (r : Run) (end : World) (honest : IsHonest r) (run : IsRun r end) (side : Side) (i now : ℕ) (given : GaveAsking r side i now) (some : 0 < (watch r side i).flight.probes) (least : ℕ) (told : (asking_at r side).least ≡ Some least) where
  abbrev answer : Answer
  answer = answers.Poll (Ok (Some given.one.transmit))

  at : MadeAt r i side (calls.Poll now) answer
  at = made_at Known known r end honest run i side (calls.Poll now) answer given.one.poll given.one.served

  abbrev w : World
  w = at.before

  h : PollHolds Known r i side now answer w
  h = poll_holds Known known r end honest run i side now answer w at.behind at.made

  abbrev e : End
  e = with_shown (end_at side w) (shown_at side w)

  gives : IsGiving (policy_at side r.keys) e now given.one.transmit (polled (policy_at side r.keys) e now).end given.one.sent
  gives = probing.asking_gives Streams (everything.all Ready ready) r end honest run side i now given.one w at.behind at.made given.asks

  waits : 0 < e.tracking.probes
  waits = subst (λ (n : ℕ). 0 < n) (probing.probes Streams (everything.all Ready ready) r end honest run side i now given.one w at.behind at.made gives) some

  -- the peer told so as the end was made
  takes : is_some e.peer_params.min_ack_delay ≡ true
  takes = ap (λ (a : Asking). is_some a.least) h.gives.1.same ∙ ap (λ (o : Option ℕ). is_some o) told

  pub hastens : list_any is_immediate_ack given.one.sent.frames ≡ true
  hastens = subst (λ (s : Sent). list_any is_immediate_ack s.frames ≡ true) (sym gives.sent) (given_hastens e now waits takes gives.some)

pub probes_hasten : (r : Run) (end : World) → IsHonest r → IsRun r end → ProbesHasten r
probes_hasten r end honest run side i now given some least told = hastens r end honest run side i now given some least told
