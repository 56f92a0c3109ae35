-- So PATH_CHALLENGE goes where an end is to ask its peer, unless it is held back: at each place of
-- an honest run.
use Rattle.std.proofs.Common.{◌≡◌, ◌⊎◌, ℕ, suc, ◌≤◌, Bool, true, false, not, ◌||◌, length, Option, Some, None, Ok, refl, sym, ap, ◌∙◌, subst, inl, inr, arith}
use Rattle.std.specs.List.{list_any}
use Rattle.std.specs.Option.{is_some}
use Rattle.std.proofs.lemmas.Bool.{both_ways, or_left, or_right}
use Rattle.std.proofs.lemmas.Option.{slice_get_within}
use Rattle.quic_wire_core.specs.declared.stream_id.Side.{Side}
use Rattle.quic_recovery_core.specs.PendingAcks.{can_send}
use Rattle.quic_streams_state.specs.Waiting.{is_empty, can_send_stream_data}
use Rattle.quic_paths.specs.Responses.{Response}
use Rattle.quic_machine.specs.declared.answers.State.TheVariants as states
use Rattle.quic_machine.specs.declared.run.Call.TheVariants as calls
use Rattle.quic_machine.specs.declared.run.Answer.{Answer}
use Rattle.quic_machine.specs.declared.run.Answer.TheVariants as answers
use Rattle.quic_machine.specs.declared.run.EndView.{EndView}
use Rattle.quic_machine.specs.declared.run.View.{View}
use Rattle.quic_machine.specs.Parts.{signals_wait}
use Rattle.quic_machine.specs.Policy.{Policy}
use Rattle.quic_machine.specs.End.{End}
use Rattle.quic_machine.specs.Poll.{Draft, no_frames, challenge_if, response_if, ping_if, immediate_if, with_challenge_frame, with_response_frame, with_ping_frame, with_signal_frames, with_frequency_frame, with_control_frames, with_message_frames, with_asking, with_ack, ack_fits, ack_if, composed_if, composed, lazied, message_waits, asks_to_go, waits, Leaving, Ready, whole, alone, probe, closing, nothing, draft_as, goes, goes_as, asking as draft_asks, polled}
use Rattle.quic_machine.specs.DraftLaws.{by_entries, by_messages, by_streams}
use Rattle.quic_machine.specs.PollCases.{ready_at, draft_at, ready_closes_not}
use Rattle.quic_machine.specs.Machine.{World, policy_at, end_at}
use Rattle.quic_headline.specs.Runs.{Run, AreServed, LeadsTo}
use Rattle.quic_headline.specs.Observer.{Sent, asks_of}
use Rattle.quic_headline.specs.Headline.{IsHonest, IsRun}
use Rattle.quic_headline.specs.Expiring.{questions}
use Rattle.quic_headline.specs.Polls.{GaveAsking, GaveNothing, IsHeldBack, IsLimited}
use Rattle.quic_headline.specs.Waited.{is_path_challenge}
use Rattle.quic_headline.specs.Challenges.{IsToAsk, ChallengesGo}
use Rattle.quic_headline.proofs.Packets.Entries.{by_request}
use Rattle.quic_headline.proofs.Packets.Flying.{asking_padded}
use Rattle.quic_headline.proofs.Packets.Quiet.{heard_nothing}
use Rattle.quic_headline.proofs.Places.Moments.{last_seen}
use Rattle.quic_headline.proofs.Places.Parties.{sent_as, with_shown, shown_at}
use Rattle.quic_headline.proofs.Places.Groups.{Way}
use Rattle.quic_headline.proofs.Places.Placed.{Placed, placed, placed_less}
use Rattle.quic_headline.proofs.Places.Everything as everything
use Rattle.quic_headline.proofs.Places.Theorems.{ready}
use Rattle.quic_headline.proofs.Halves.Ready.{Ready as MayBe}
use Rattle.quic_headline.proofs.Timers.Watched.{Observed}
use Rattle.quic_headline.proofs.Timers.PathMoments.{asked_at}
use Rattle.quic_headline.proofs.Held.Behind.{open_now, held_back}
use Rattle.quic_headline.proofs.Held.Clause.{held_or_blocked}
use Rattle.quic_headline.proofs.Steps.Made.{MadeAt, made_at, served_before}
use Rattle.quic_headline.proofs.Steps.Along.{stands_within}
use Rattle.quic_headline.proofs.Steps.Probes.{begun}
use Rattle.quic_headline.proofs.Steps.Probing.{IsProbing, probe_goes, IsGiving}
use Rattle.quic_headline.proofs.Steps.Probing as probing
use Rattle.quic_headline.proofs.Validated.Went.{given}
use Rattle.quic_headline.proofs.Validated.Due.{waits_at}

-- ---- where it waits, it goes

-- no challenge waits behind what is composed
abbrev Gone : Draft → Type 0
Gone d = d.end.waiting.signals.challenge ≡ None

signals_gone : (d : Draft) → Gone (with_signal_frames d)
signals_gone d = hastened (with_ping_frame answered).end.waiting.signals.immediate (with_ping_frame answered) (pinged answered.end.waiting.signals.ping answered (replied (with_challenge_frame d).end.waiting.signals.response (with_challenge_frame d) (gone d d.end.waiting.signals.challenge refl)))
  where
    answered : Draft
    answered = with_response_frame (with_challenge_frame d)

    gone : (x : Draft) (o : Option ℕ) → x.end.waiting.signals.challenge ≡ o → Gone (challenge_if o x)
    gone x None is = is
    gone x (Some word) is = refl

    replied : (o : Option Response) (x : Draft) → Gone x → Gone (response_if o x)
    replied None x i = i
    replied (Some r) x i = i

    pinged : (b : Bool) (x : Draft) → Gone x → Gone (ping_if b x)
    pinged true x i = i
    pinged false x i = i

    hastened : (b : Bool) (x : Draft) → Gone x → Gone (immediate_if b x)
    hastened true x i = i
    hastened false x i = i

asking_gone : (d : Draft) → Gone (with_asking d)
asking_gone d = by_streams Gone (λ x id h room found first left is counts i. i) (with_message_frames (with_control_frames (with_frequency_frame (with_signal_frames d))))
    (by_messages Gone (λ x m ms is fit i. i) (with_control_frames (with_frequency_frame (with_signal_frames d))) (by_entries Gone (λ x kind i. i) (λ x kind f is i. i) (with_frequency_frame (with_signal_frames d)) (by_request Gone (with_signal_frames d) (λ waits i. i) (signals_gone d))))

composed_gone : (e : End) → Gone (composed e)
composed_gone e = go (can_send e.acknowledging)
  where
    late : (b : Bool) (d : Draft) → Gone d → Gone (ack_if b d)
    late true d i = i
    late false d i = i

    go : (b : Bool) → Gone (composed_if b e)
    go true = asking_gone (with_ack (no_frames e))
    go false = late (ack_fits (with_asking (no_frames e))) (with_asking (no_frames e)) (asking_gone (no_frames e))

-- where it waits, something asks
challenge_asks : (e : End) → is_some e.waiting.signals.challenge ≡ true → asks_to_go e ≡ true
challenge_asks e some =
    or_left (signals_wait e.waiting.signals) (not (is_empty e.waiting.frames e.streams) || (message_waits e || can_send_stream_data e.streams))
    (or_left (is_some e.waiting.signals.challenge) (is_some e.waiting.signals.response || (e.waiting.signals.ping || e.waiting.signals.immediate)) some)

module _ (p : Policy) (e : End) (now : ℕ) (waiting : is_some e.waiting.signals.challenge ≡ true) where
  abbrev g : Ready
  g = ready_at e now

  abbrev d : Draft
  d = draft_at e now

  -- it goes with a datagram that asks
  asked_or : (leaving : Leaving) → g.leaving ≡ leaving → goes g ≡ true → draft_asks (draft_as leaving g.end).frames ≡ true → is_some (draft_as leaving g.end).end.waiting.signals.challenge ≡ true → ⊥
  asked_or whole is some asks still = (let clash : false ≡ true = sym (ap (λ (o : Option ℕ). is_some o) (composed_gone (lazied g.end))) ∙ still in cc)
  asked_or alone is some asks still = both_ways (draft_asks (draft_as alone g.end).frames) refl asks
  asked_or (probe size) is some asks still =
      let q : IsProbing (begun e now) g = probe_goes e now size is in
      both_ways (waits (begun e now)) q.idle (or_right (can_send (begun e now).acknowledging) (asks_to_go (begun e now)) (challenge_asks (begun e now) waiting))
  asked_or (closing f) is some asks still = ready_closes_not e now f is
  asked_or (nothing held) is some asks still = both_ways (goes g) (ap goes_as is) some

  asking_challenges : goes g ≡ true → asks_of (sent_as e now d) ≡ true → list_any is_path_challenge (sent_as e now d).frames ≡ true
  asking_challenges some asks = elim (given p e now) [
    | inl none ↦ absurd (asked_or g.leaving refl some (sym (asking_padded d.frames _) ∙ asks) (ap (λ (o : Option ℕ). is_some o) none.same ∙ waiting))
    | inr one ↦ first_only (list_any is_path_challenge (sent_as e now d).frames) one.some
  ]
    where
      first_only : (b : Bool) → (b || false) ≡ true → b ≡ true
      first_only true is = refl
      first_only false is = is

-- ---- the clause

-- what is known of the packets and the streams
abbrev All : Way
All = everything.All MayBe ready

abbrev Streams : Way
Streams = everything.Streams MayBe ready

module _ (r : Run) (end : World) (honest : IsHonest r) (run : IsRun r end) (side : Side) where
  -- where an open end is to ask, a challenge waits
  waits_there : (i : ℕ) (w : World) → i ≤ length r.views → AreServed r i → LeadsTo r i w → (end_at side w).closing.state ≡ states.Open → IsToAsk r side i → is_some (end_at side w).waiting.signals.challenge ≡ true
  waits_there i w within served leads opened ask = elim (waits_at r end honest run side i w within served leads opened unvalidated ask.unasked) [
    | inl waits ↦ waits
    | inr many ↦ (
        let few = ask.few in
        let count : (questions r side i).count ≡ (end_at side w).validation.drawn = (asked_at r end honest run side i w within served leads opened).asked in
        absurd (omega (arith, few, many, count)))
  ]
    where
      unvalidated : (end_at side w).path.validated ≡ false
      unvalidated = sym (ap (λ (u : EndView). u.validated) (last_seen side r.keys i r.start w r.events r.answers r.views leads)) ∙ ask.unvalidated

  module _ (i now : ℕ) (asked : GaveAsking r side i now) where
    abbrev answer : Answer
    answer = answers.Poll (Ok (Some asked.one.transmit))

    at : MadeAt r i side (calls.Poll now) answer
    at = made_at All (everything.all MayBe ready) r end honest run i side (calls.Poll now) answer asked.one.poll asked.one.served

    abbrev w : World
    w = at.before

    abbrev p : Policy
    p = policy_at side r.keys

    abbrev e : End
    e = with_shown (end_at side w) (shown_at side w)

    gives : IsGiving p e now asked.one.transmit (polled p e now).end asked.one.sent
    gives = probing.asking_gives Streams (everything.all MayBe ready) r end honest run side i now asked.one w at.behind at.made asked.asks

    asks_along : IsToAsk r side i → list_any is_path_challenge asked.one.sent.frames ≡ true
    asks_along ask = subst (λ (s : Sent). list_any is_path_challenge s.frames ≡ true) (sym gives.sent)
        (asking_challenges p e now (waits_there i w (stands_within r end run side i side (calls.Poll now) answer w at.behind at.made) (served_before r.answers i asked.one.served) at.made.leads gives.opened ask) gives.some
        (subst (λ (s : Sent). asks_of s ≡ true) gives.sent asked.asks))

  place : (by : Side) (i : ℕ) → AreServed r i → Placed All r end by i
  place = placed All (everything.all MayBe ready) r end honest run

  is_held : (i now : ℕ) (v : View) → AreServed r (suc i) → GaveNothing r side i now v → IsToAsk r side (suc i) → IsHeldBack r side (suc i) v ⊎ IsLimited r side (suc i) v
  is_held i now v served gave ask =
      let at = place side (suc i) served in
      let opened : (end_at side at.world).closing.state ≡ states.Open = open_now r side i now v at.world at.leads gave in
      let within = slice_get_within r.views i v gave.shown in
      held_or_blocked r end honest run (λ by j there. placed_less All Observed r end by j (λ x y h. (h.0.0, h.1)) (place by j there)) (heard_nothing r honest) side i now v at.world served at.leads gave
      (held_back All (record { packets = λ x y h. h.0.0; sight = λ x y h. h.1 }) r end honest side i now v at gave (λ none. challenge_asks (end_at side at.world) (waits_there (suc i) at.world (omega (arith, within)) served at.leads opened ask)))

pub challenges_go : (r : Run) (end : World) → IsHonest r → IsRun r end → ChallengesGo r
challenges_go r end honest run = record {
  along = λ side i now asked ask. asks_along r end honest run side i now asked ask;
  held = λ side i now v served gave ask. is_held r end honest run side i now v served gave ask;
}
