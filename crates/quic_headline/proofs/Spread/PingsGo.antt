-- So PING goes where it is wanted, at each place of an honest run: with the next datagram that
-- asks; and a poll that gives nothing is held back.
use Rattle.std.proofs.Common.{◌≡◌, ◌⊎◌, ℕ, suc, true, not, ◌||◌, Some, Ok, sym, subst}
use Rattle.std.specs.List.{list_any}
use Rattle.std.specs.Option.{is_some}
use Rattle.std.proofs.lemmas.Bool.{or_left, or_right}
use Rattle.quic_wire_core.specs.declared.stream_id.Side.{Side}
use Rattle.quic_streams_state.specs.Waiting.{is_empty, can_send_stream_data}
use Rattle.quic_machine.specs.declared.run.Call.TheVariants as calls
use Rattle.quic_machine.specs.declared.run.Answer.{Answer}
use Rattle.quic_machine.specs.declared.run.Answer.TheVariants as answers
use Rattle.quic_machine.specs.declared.run.View.{View}
use Rattle.quic_machine.specs.Parts.{signals_wait}
use Rattle.quic_machine.specs.End.{End}
use Rattle.quic_machine.specs.Poll.{message_waits, asks_to_go, polled}
use Rattle.quic_machine.specs.Machine.{World, policy_at, end_at}
use Rattle.quic_headline.specs.Runs.{Run, AreServed}
use Rattle.quic_headline.specs.Observer.{Sent, asks_of}
use Rattle.quic_headline.specs.Headline.{IsHonest, IsRun}
use Rattle.quic_headline.specs.Polls.{GaveAsking, GaveNothing, IsHeldBack, IsLimited}
use Rattle.quic_headline.specs.Waited.{is_ping, wants}
use Rattle.quic_headline.specs.Pings.{PingsGo}
use Rattle.quic_headline.proofs.Packets.Quiet.{heard_nothing}
use Rattle.quic_headline.proofs.Places.Parties.{with_shown, shown_at}
use Rattle.quic_headline.proofs.Places.Groups.{Way, Nothing, And, Group, both, over}
use Rattle.quic_headline.proofs.Places.Placed.{Placed, placed, placed_less}
use Rattle.quic_headline.proofs.Places.Everything as everything
use Rattle.quic_headline.proofs.Places.Theorems.{ready}
use Rattle.quic_headline.proofs.Halves.Ready.{Ready}
use Rattle.quic_headline.proofs.Timers.Watched.{Observed}
use Rattle.quic_headline.proofs.Held.Behind.{open_now, held_back}
use Rattle.quic_headline.proofs.Held.Clause.{held_or_blocked}
use Rattle.quic_headline.proofs.Steps.Made.{MadeAt, made_at, PollHolds, poll_holds}
use Rattle.quic_headline.proofs.Steps.Probing.{IsGiving}
use Rattle.quic_headline.proofs.Steps.Probing as probing
use Rattle.quic_headline.proofs.Waited.Group.{Wanting, wanting_group}
use Rattle.quic_headline.proofs.Spread.Pings.{asking_pinged, Pinging, ObservedWanting, pinging_group}

-- all that is known of the packets and the streams, what is wanted, and that PING waits where it
-- was asked for
abbrev Known : Way
Known = And (And (everything.All Ready ready) Wanting) Pinging

known : Group Nothing Known
known = both Nothing (And (everything.All Ready ready) Wanting) Pinging
    (both Nothing (everything.All Ready ready) Wanting (everything.all Ready ready) (over Observed (And Nothing (everything.All Ready ready)) Wanting (λ x y h. (h.1.0.0, h.1.1)) wanting_group))
    (over ObservedWanting (And Nothing (And (everything.All Ready ready) Wanting)) Pinging (λ x y h. ((h.1.0.0.0, h.1.0.1), h.1.1)) pinging_group)

-- what is known of the streams
abbrev Streams : Way
Streams = everything.Streams Ready ready

-- where PING waits, something asks
ping_asks : (e : End) → e.waiting.signals.ping ≡ true → asks_to_go e ≡ true
ping_asks e waits =
    or_left (signals_wait e.waiting.signals) (not (is_empty e.waiting.frames e.streams) || (message_waits e || can_send_stream_data e.streams))
    (or_right (is_some e.waiting.signals.challenge) (is_some e.waiting.signals.response || (e.waiting.signals.ping || e.waiting.signals.immediate))
    (or_right (is_some e.waiting.signals.response) (e.waiting.signals.ping || e.waiting.signals.immediate) (or_left e.waiting.signals.ping e.waiting.signals.immediate waits)))

module _ (r : Run) (end : World) (honest : IsHonest r) (run : IsRun r end) where
  -- a datagram that asks has it
  goes_along : (side : Side) (i now : ℕ) (given : GaveAsking r side i now) → (wants r side i).pinged ≡ true → list_any is_ping given.one.sent.frames ≡ true
  goes_along side i now given wanted =
      let asks : asks_of given.one.sent ≡ true = given.asks in
      subst (λ (s : Sent). list_any is_ping s.frames ≡ true) (sym gives.sent) (asking_pinged (policy_at side r.keys) e now (h.gives.1.pinged gives.opened wanted) gives.some (subst (λ (s : Sent). asks_of s ≡ true) gives.sent asks))
    where
      answer : Answer
      answer = answers.Poll (Ok (Some given.one.transmit))

      at : MadeAt r i side (calls.Poll now) answer
      at = made_at Known known r end honest run i side (calls.Poll now) answer given.one.poll given.one.served

      w : World
      w = at.before

      h : PollHolds Known r i side now answer w
      h = poll_holds Known known r end honest run i side now answer w at.behind at.made

      e : End
      e = with_shown (end_at side w) (shown_at side w)

      gives : IsGiving (policy_at side r.keys) e now given.one.transmit (polled (policy_at side r.keys) e now).end given.one.sent
      gives = probing.asking_gives Streams (everything.all Ready ready) r end honest run side i now given.one w at.behind at.made given.asks

  place : (side : Side) (i : ℕ) → AreServed r i → Placed Known r end side i
  place = placed Known known r end honest run

  -- where a poll gives nothing, it is held back
  is_held : (side : Side) (i now : ℕ) (v : View) → AreServed r (suc i) → GaveNothing r side i now v → (wants r side (suc i)).pinged ≡ true → IsHeldBack r side (suc i) v ⊎ IsLimited r side (suc i) v
  is_held side i now v served gave wanted =
      let at = place side (suc i) served in
      held_or_blocked r end honest run (λ by j there. placed_less Known Observed r end by j (λ x y h. (h.0.0.0.0, h.0.0.1)) (place by j there)) (heard_nothing r honest) side i now v at.world served at.leads gave
      (held_back Known (record { packets = λ x y h. h.0.0.0.0; sight = λ x y h. h.0.0.1 }) r end honest side i now v at gave (λ none. ping_asks (end_at side at.world) (at.gives.1.pinged (open_now r side i now v at.world at.leads gave) wanted)))

pub pings_go : (r : Run) (end : World) → IsHonest r → IsRun r end → PingsGo r
pings_go r end honest run = record { along = goes_along r end honest run; held = is_held r end honest run }
