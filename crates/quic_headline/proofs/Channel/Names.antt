-- Each frame that an end gave is of streams that it knows and counts that it keeps, and
-- STOP_SENDING that waits too; and ACK_FREQUENCY goes to a peer that obeys: a group over what is
-- written.
use Rattle.std.proofs.Common.{◌≡◌, ℕ, ◌++◌, Some, subst, inl, inr, Bool, true, false, Option, None, refl, sym, ap, ◌∙◌}
use Rattle.std.proofs.lemmas.Bool.{and_parts}
use Rattle.quic_wire_core.specs.declared.stream_id.Side.TheVariants.{Server}
use Rattle.quic_wire.specs.Value.{FrameValue, StopSendingValue, stop_sending, handshake_done, AckFrequencyValue, ack_frequency}
use Rattle.quic_streams_state.specs.declared.state.StreamsState.{StreamsState}
use Rattle.quic_streams_state.specs.State.{is_opened, receives_on}
use Rattle.quic_streams_laws.specs.Giving.{Receives}
use Rattle.quic_streams_laws.specs.ShapeLaws.{receives_may}
use Rattle.quic_streams_laws.specs.Written.{HoldsWritten}
use Rattle.quic_machine.specs.declared.run.Call.{Call}
use Rattle.quic_machine.specs.declared.run.Call.TheVariants as calls
use Rattle.quic_machine.specs.declared.run.Answer.{Answer}
use Rattle.quic_machine.specs.End.{End}
use Rattle.quic_machine.specs.Machine.{IsAnswer, gave}
use Rattle.quic_machine.specs.FrameCases.{begun}
use Rattle.quic_machine.specs.Poll.{rests}
use Rattle.quic_headline.specs.Runs.{Intake, In}
use Rattle.quic_headline.specs.Observer.{Sent}
use Rattle.quic_headline.proofs.Packets.Owing.{sent_fine}
use Rattle.quic_headline.proofs.Places.Told.{in_append}
use Rattle.quic_headline.proofs.Places.Steps.{poll_answer}
use Rattle.quic_headline.proofs.Packets.Delivered.{frames_at}
use Rattle.quic_headline.proofs.Packets.Group.{PacketsHold, meets}
use Rattle.quic_headline.proofs.Places.Coming.{by_coming}
use Rattle.quic_headline.proofs.Places.Groups.{Way, Calls, Group}
use Rattle.quic_headline.proofs.Places.Parties.{sent_by, sent_if, sents_by, Party, called, came_to}
use Rattle.quic_headline.proofs.Halves.Wrote.{wrote}
use Rattle.quic_headline.proofs.Halves.QuietSteps.{sent_within}
use Rattle.quic_headline.proofs.Channel.Given.{Grown, grown_same, call_grows, frames_grow, receives_grow, Given, given_grows, StopsHold, polled_given, Obeys, May}
use Rattle.quic_headline.proofs.Channel.Stops.{StopsOf, AllStop, StopsFor, TrackedStops, ready_keeps}
use Rattle.quic_headline.proofs.Channel.Stopping.{tracked_stops, stops_behind}
use Rattle.std.specs.Option.{is_some}
use Rattle.std.specs.Prelude.{if◌then◌else◌}
use Rattle.quic_parameters.specs.Parameters.{ParameterValues}
use Rattle.quic_headline.proofs.Packets.Stays.{placed_call}
use Rattle.quic_headline.proofs.Halves.Moved.{in_arrivals}
use Rattle.quic_machine.specs.PollCases.{ready_leaves}

-- x gives
pub record NamesHold (x y : Party) : Type 0 where
  pub given : (s : Sent) → In s x.sents → (f : FrameValue) → In f s.frames → Given x.end.streams f
  pub stops : StopsHold x.end.streams x.end.waiting.frames
  -- ACK_FREQUENCY waits, and was given, where the peer obeys, as it does if it takes that
  pub obeys : is_some x.end.peer_params.min_ack_delay ≡ true → Obeys x.end
  pub asks : x.end.waiting.frames.ack_frequency ≡ true → Obeys x.end
  pub asked : (s : Sent) → In s x.sents → (g : AckFrequencyValue) → In (ack_frequency g) s.frames → Obeys x.end

-- What that rests on.
pub record RestsOn (B : Way) : Type 1 where
  pub packets : (x y : Party) → B x y → PacketsHold x y
  pub written : (x y : Party) → B x y → HoldsWritten (wrote x.told) x.end.streams

module _ (B : Way) (rests : RestsOn B) (x y : Party) (call : Call) (a : Answer) (c : Calls B x y call a) where
  written : HoldsWritten (wrote x.told) x.end.streams
  written = rests.written x y c.gives

  -- streams only open, and counts only grow
  pub grows_behind : Grown x.end.streams (called x y.given call a).end.streams
  grows_behind = by_coming x y a c.joined c.served (meets y x (rests.packets y x c.takes)) (λ (e : End) (i : Intake). Grown x.end.streams e.streams) call c.answer (record {
    apart = λ apart. call_grows x.policy x.end y.given call a (sent_within (wrote x.told) x.end.streams written) c.answer apart;
    none = λ delivery is. grown_same x.end.streams;
    comes = λ delivery is s among here. in_arrivals (Grown x.end.streams) x.end delivery.now s.number s.frames (frames_at here s.frames) (came_to x y) (grown_same x.end.streams) (frames_grow (frames_at here s.frames) (begun x.end delivery.now s.number));
  })

  module _ (n : NamesHold x y) where
    -- the streams behind the call
    abbrev t : StreamsState
    t = (called x y.given call a).end.streams

    abbrev Known : StopSendingValue → Type 0
    Known g = Receives t g.id

    abbrev IsServer : Type 0
    IsServer = x.end.streams.side ≡ Server

    -- what the peer told stays
    obeys_behind : Obeys x.end → Obeys (called x y.given call a).end
    obeys_behind is = ap (λ (p : ParameterValues). p.min_ack_delay) (placed_call x.policy x.end y.given call a).peer ∙ is

    stops_before : StopsOf Known (Obeys x.end) IsServer x.end.waiting.frames
    stops_before = ((λ r i. receives_grow x.end.streams t grows_behind r.id (n.stops.0 r i)), n.asks, n.stops.1)

    -- what is stopped is a stream on which the end receives
    stopped_known : StopsFor Known x.end.streams call a
    stopped_known id code h done called answered is = receives_grow x.end.streams t grows_behind id (and_parts (receives_on x.end.streams.side id) (is_opened x.end.streams id) (receives_may x.end.streams id h written.shape is))

    -- what was sent was for such streams
    sent_known : (s : Sent) → In s x.sents → (g : StopSendingValue) → In (stop_sending g) s.frames → Known g
    sent_known s i g j = given_grows x.end.streams t grows_behind (stop_sending g) (n.given s i (stop_sending g) j)

    -- and so it is of all that was sent
    sent_stops : (s : Sent) → In s x.sents → AllStop Known (Obeys x.end) IsServer s.frames
    sent_stops s i = (sent_known s i, n.asked s i, n.given s i handshake_done)

    stops_now : StopsOf Known (Obeys x.end) IsServer (called x y.given call a).end.waiting.frames
    stops_now = stops_behind B rests.packets x y call a c Known (Obeys x.end) IsServer sent_stops stops_before stopped_known n.obeys (λ is. is)

    -- what was sent before, and what the call sends
    old_given : (s : Sent) → In s x.sents → (f : FrameValue) → In f s.frames → Given t f
    old_given s i f j = given_grows x.end.streams t grows_behind f (n.given s i f j)

    more_given : (k : Call) → IsAnswer x.policy x.end y.given k a → (s : Sent) → In s (sents_by x.policy x.end k a) → (f : FrameValue) → In f s.frames → May x.end.streams (Obeys x.end) f
    more_given (calls.Poll now) is s i f j = sent_fine (May x.end.streams (Obeys x.end)) (λ c. (tt, tt)) (λ c. (tt, tt)) (tt, tt) x.policy x.end now (rests.packets x y c.gives).owes
        (λ opened. polled_given (Obeys x.end) x.end now written.shape n.stops (λ k p among. ((tracked k p among).0, (tracked k p among).2))
        (λ set. (let there : Obeys x.end = (ready_keeps Here (Obeys x.end) IsServer x.end now n.obeys tracked (n.stops.0, n.asks, n.stops.1)).1 set in (ap (λ (e : End). e.peer_params.min_ack_delay) (ready_leaves x.end now) ∙ there, there))))
        s (subst (λ (b : Answer). In s (sent_if (gave b) (sent_by x.policy x.end now))) (poll_answer x.policy x.end now a is c.served) i) f j
      where
        Here : StopSendingValue → Type 0
        Here g = Receives x.end.streams g.id

        tracked : TrackedStops Here (Obeys x.end) IsServer x.end.tracking.packets
        tracked = tracked_stops B rests.packets x y call a c Here (Obeys x.end) IsServer (λ u i. ((λ g j. n.given u i (stop_sending g) j), n.asked u i, n.given u i handshake_done))
    more_given k is s i f j = absurd i

    given_behind : (s : Sent) → In s (x.sents ++ sents_by x.policy x.end call a) → (f : FrameValue) → In f s.frames → Given t f
    given_behind s i f j = elim (in_append s x.sents (sents_by x.policy x.end call a) i) [
      | inl old ↦ old_given s old f j
      | inr new ↦ given_grows x.end.streams t grows_behind f (more_given call c.answer s new f j).0
    ]

    asked_behind : (s : Sent) → In s (x.sents ++ sents_by x.policy x.end call a) → (g : AckFrequencyValue) → In (ack_frequency g) s.frames → Obeys x.end
    asked_behind s i g j = elim (in_append s x.sents (sents_by x.policy x.end call a) i) [
      | inl old ↦ n.asked s old g j
      | inr new ↦ (more_given call c.answer s new (ack_frequency g) j).1
    ]

    pub names_behind : NamesHold (called x y.given call a) y
    names_behind = record {
      given = given_behind;
      stops = (stops_now.0, λ set. grows_behind.0 ∙ stops_now.2 set);
      obeys = λ some. obeys_behind (n.obeys (ap (λ (p : ParameterValues). is_some p.min_ack_delay) (sym (placed_call x.policy x.end y.given call a).peer) ∙ some));
      asks = λ set. obeys_behind (stops_now.1 set);
      asked = λ s i g j. obeys_behind (asked_behind s i g j);
    }

-- an end that takes ACK_FREQUENCY tells so, and obeys
abbrev told_delay : Bool → Option ℕ
told_delay takes = if takes then Some 1000 else None

obeys_first : (takes : Bool) → is_some (told_delay takes) ≡ true → told_delay takes ≡ Some 1000
obeys_first true some = refl
obeys_first false some = cc

pub names_group : (B : Way) → RestsOn B → Group B NamesHold
names_group B rests = record {
  first = λ x y m there back. record { given = λ s i. absurd i; stops = ((λ r i. absurd i), λ set. cc); obeys = obeys_first y.making.settings.ack_frequency_support; asks = λ set. cc; asked = λ s i. absurd i };
  writer = λ x y call a c n back. names_behind B rests x y call a c n;
  reader = λ x y call a c there n. record { given = n.given; stops = n.stops; obeys = n.obeys; asks = n.asks; asked = n.asked };
  shows = λ x y here there b back n m. record { given = n.given; stops = n.stops; obeys = n.obeys; asks = n.asks; asked = n.asked };
}
