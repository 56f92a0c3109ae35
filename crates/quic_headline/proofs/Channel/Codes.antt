-- STOP_SENDING has the code with which the application stopped its stream, where it waits and where
-- it goes, and RESET_STREAM that with which it reset one.
use Rattle.std.proofs.Common.{◌≡◌, ℕ, zero, suc, List, [], ◌∷◌, ◌++◌, replicate, refl, sym, ap, ◌∙◌, subst, inl, inr}
use Rattle.std.proofs.lemmas.Bool.{eq-eqb}
use Rattle.quic_wire.specs.Value.{FrameValue, StopSendingValue, padding, stop_sending, reset_stream, stream, ack_frequency}
use Rattle.quic_streams_parts.specs.SendHalf.{frame_of}
use Rattle.quic_retransmits.specs.Retransmits.{Retransmits}
use Rattle.quic_retransmits.specs.declared.retransmits.ControlKind.{ControlKind}
use Rattle.quic_retransmits.specs.declared.retransmits.ControlKind.TheVariants.{StopSending}
use Rattle.quic_streams_state.specs.declared.state.StreamsState.{StreamsState}
use Rattle.quic_streams_laws.specs.Written.{IsResetOf}
use Rattle.quic_streams_state.specs.Control.{without_first}
use Rattle.quic_streams_state.specs.Control as control
use Rattle.quic_machine.specs.declared.run.Call.{Call}
use Rattle.quic_machine.specs.declared.run.Call.TheVariants as calls
use Rattle.quic_machine.specs.declared.run.Answer.{Answer}
use Rattle.quic_machine.specs.End.{End}
use Rattle.quic_machine.specs.Poll.{zeros_behind, Draft, request_of}
use Rattle.quic_machine.specs.DraftLaws.{Writing, by_leave}
use Rattle.quic_machine.specs.Puts as puts
use Rattle.quic_machine.specs.PollCases.{ready_at, draft_at, frames_at, may_leave_at}
use Rattle.quic_machine.specs.Machine.{World, IsAnswer, gave}
use Rattle.quic_headline.specs.Runs.{Run, Told, In, until}
use Rattle.quic_headline.specs.Observer.{Sent, sents_until}
use Rattle.quic_headline.specs.Headline.{IsHonest, IsRun}
use Rattle.quic_headline.specs.Unread.{stopped_by}
use Rattle.quic_headline.specs.Codes.{WasStopped, StopsSay, ResetsSay}
use Rattle.quic_headline.proofs.Packets.Growth.{in_more}
use Rattle.quic_headline.proofs.Packets.Owing.{sent_fine}
use Rattle.quic_headline.proofs.Packets.Group.{PacketsHold}
use Rattle.quic_headline.proofs.Packets.Sight.{Sight}
use Rattle.quic_headline.proofs.Places.Told.{in_left, in_right, in_append}
use Rattle.quic_headline.proofs.Places.Steps.{poll_answer}
use Rattle.quic_headline.proofs.Places.Parties.{told_of, sent_by, sent_if, sents_by, Party, called}
use Rattle.quic_headline.proofs.Places.Groups.{Way, Nothing, And, Calls, Group, both}
use Rattle.quic_headline.proofs.Places.Everything as everything
use Rattle.quic_headline.proofs.Places.Flights.{own_at}
use Rattle.quic_headline.proofs.Places.Placed.{Placed, placed, placed_less}
use Rattle.quic_headline.proofs.Places.Theorems.{ready}
use Rattle.quic_headline.proofs.Halves.Ready.{Ready}
use Rattle.quic_headline.proofs.Halves.Wrote.{wrote}
use Rattle.quic_headline.proofs.Channel.Given.{in_others, first_in}
use Rattle.quic_headline.proofs.Channel.Stops.{StopsOf, AllStop, StopsFor, TrackedStops, ready_keeps}
use Rattle.quic_headline.proofs.Channel.Stopping.{tracked_stops, stops_behind}

-- ---- what goes

module _ (Q : StopSendingValue → Type 0) where
  -- a frame, where it is STOP_SENDING, is one of which this is known
  abbrev pub StopSays : FrameValue → Type 0
  StopSays (stop_sending g) = Q g
  StopSays f = Unit {0}

  -- so are the frames of a draft, and what waits
  record StopsGo (d : Draft) : Type 0 where
    waits : (r : StopSendingValue) → In r d.end.waiting.frames.stop_sending → Q r
    frames : (f : FrameValue) → In f d.frames → StopSays f

  more_says : (fs : List FrameValue) (g : FrameValue) → ((f : FrameValue) → In f fs → StopSays f) → StopSays g → (f : FrameValue) → In f (fs ++ g ∷ []) → StopSays f
  more_says fs g all one f i = elim (in_more f g fs i) [ inl old ↦ all f old | inr new ↦ subst StopSays (sym new) one ]

  fewer_waits : (kind : ControlKind) (p : Retransmits) → ((r : StopSendingValue) → In r p.stop_sending → Q r) → (r : StopSendingValue) → In r (without_first kind p).stop_sending → Q r
  fewer_waits StopSending p all r i = all r (in_others r p.stop_sending i)
  fewer_waits kind p all r i = all r i

  control_says : (s : StreamsState) (p : Retransmits) (f : FrameValue) → ((r : StopSendingValue) → In r p.stop_sending → Q r) → control.Goes p s f → StopSays f
  control_says s p (stop_sending g) all goes = all g (first_in g p.stop_sending goes)
  control_says s p f all goes = tt

  goes_on : Writing StopsGo
  goes_on puts.ack d may g = record { waits = g.waits; frames = more_says d.frames _ g.frames tt }
  goes_on (puts.drops kind) d may g = record { waits = fewer_waits kind d.end.waiting.frames g.waits; frames = g.frames }
  goes_on (puts.control kind f) d is g = record { waits = fewer_waits kind d.end.waiting.frames g.waits; frames = more_says d.frames f g.frames (control_says d.end.streams d.end.waiting.frames f g.waits is.says) }
  goes_on (puts.stream id h room) d may g = record { waits = g.waits; frames = more_says d.frames (stream (frame_of id h room)) g.frames tt }
  goes_on puts.request d set g = record { waits = g.waits; frames = more_says d.frames (ack_frequency (request_of d.end)) g.frames tt }
  goes_on p d may g = record { waits = g.waits; frames = more_says d.frames _ g.frames tt }

  padded_says : (fs : List FrameValue) (count : ℕ) → ((f : FrameValue) → In f fs → StopSays f) → (f : FrameValue) → In f (fs ++ replicate count padding) → StopSays f
  padded_says fs count all f i = elim (in_append f fs (replicate count padding) i) [ inl here ↦ all f here | inr behind ↦ zeros count behind ]
    where
      zeros : (n : ℕ) → In f (replicate n padding) → StopSays f
      zeros zero i = absurd i
      zeros (suc n) (inl is) = subst StopSays (sym is) tt
      zeros (suc n) (inr i) = zeros n i

  -- the frames that an end gives at a moment
  polled_says : (e : End) (now : ℕ) → StopsOf Q (Unit {0}) (Unit {0}) e.waiting.frames → TrackedStops Q (Unit {0}) (Unit {0}) e.tracking.packets → (f : FrameValue) → In f (frames_at e now) → StopSays f
  polled_says e now waits carried =
      let d : Draft = draft_at e now in
      let first = ready_keeps Q (Unit {0}) (Unit {0}) e now (λ takes. tt) carried waits in
      padded_says d.frames (zeros_behind d) (by_leave StopsGo goes_on (ready_at e now).leaving (ready_at e now).end (may_leave_at e now) (record { waits = first.0; frames = λ f i. absurd i })).frames

-- ---- the group

-- x gives
record CodesHold (x y : Party) : Type 0 where
  waits : (r : StopSendingValue) → In r x.end.waiting.frames.stop_sending → WasStopped x.told r.id r.code
  sent : (s : Sent) → In s x.sents → (g : StopSendingValue) → In (stop_sending g) s.frames → WasStopped x.told g.id g.code

-- a stream that was stopped stays so
still_stopped : (told more : List Told) (id code : ℕ) → WasStopped told id code → WasStopped (told ++ more) id code
still_stopped told more id code w = record { call = w.call; among = in_left w.call told more w.among; called = w.called; stops = w.stops }

module _ (B : Way) (packets : (x y : Party) → B x y → PacketsHold x y) (x y : Party) (call : Call) (a : Answer) (c : Calls B x y call a) (k : CodesHold x y) where
  abbrev now_told : Told
  now_told = told_of call a x.end.closing.state

  abbrev later : List Told
  later = x.told ++ now_told ∷ []

  abbrev Said : StopSendingValue → Type 0
  Said g = WasStopped later g.id g.code

  old_said : (g : StopSendingValue) → WasStopped x.told g.id g.code → Said g
  old_said g w = still_stopped x.told (now_told ∷ []) g.id g.code w

  -- the call stops a stream
  stops_now : StopsFor Said x.end.streams call a
  stops_now id code h done called answered is = record {
    call = now_told;
    among = in_right now_told x.told (now_told ∷ []) (inl refl);
    called = called;
    stops = ap (λ (d : Call). stopped_by id d a) called ∙ ap (λ (b : Answer). stopped_by id (calls.Stop id code) b) answered ∙ eq-eqb id id refl;
  }

  before : StopsOf Said (Unit {0}) (Unit {0}) x.end.waiting.frames
  before = ((λ r i. old_said r (k.waits r i)), (λ set. tt), λ set. tt)

  sent_before : (s : Sent) → In s x.sents → AllStop Said (Unit {0}) (Unit {0}) s.frames
  sent_before s i = ((λ g j. old_said g (k.sent s i g j)), (λ g j. tt), λ j. tt)

  -- what the call sends
  sent_now : (d : Call) → IsAnswer x.policy x.end y.given d a → (s : Sent) → In s (sents_by x.policy x.end d a) → (g : StopSendingValue) → In (stop_sending g) s.frames → Said g
  sent_now (calls.Poll now) is s i g j = sent_fine (StopSays Said) (λ f. tt) (λ f. tt) tt x.policy x.end now (packets x y c.gives).owes
      (λ opened. polled_says Said x.end now before (tracked_stops B packets x y call a c Said (Unit {0}) (Unit {0}) sent_before))
      s (subst (λ (b : Answer). In s (sent_if (gave b) (sent_by x.policy x.end now))) (poll_answer x.policy x.end now a is c.served) i) (stop_sending g) j
  sent_now d is s i g j = absurd i

  codes_behind : CodesHold (called x y.given call a) y
  codes_behind = record {
    waits = (stops_behind B packets x y call a c Said (Unit {0}) (Unit {0}) sent_before before stops_now (λ some. tt) (λ server. tt)).0;
    sent = λ s i g j. elim (in_append s x.sents (sents_by x.policy x.end call a) i) [
      | inl old ↦ old_said g (k.sent s old g j)
      | inr new ↦ sent_now call c.answer s new g j
    ];
  }

codes_group : (B : Way) → ((x y : Party) → B x y → PacketsHold x y) → Group B CodesHold
codes_group B packets = record {
  first = λ x y m there back. record { waits = λ r i. absurd i; sent = λ s i. absurd i };
  writer = λ x y call a c k back. codes_behind B packets x y call a c k;
  reader = λ x y call a c there k. record { waits = k.waits; sent = k.sent };
  shows = λ x y here there b back k m. record { waits = k.waits; sent = k.sent };
}

-- ---- the clauses

-- all that holds between the ends, and this
abbrev Coded : Way
Coded = And (everything.All Ready ready) CodesHold

coded : Group Nothing Coded
coded = both Nothing (everything.All Ready ready) CodesHold (everything.all Ready ready) (codes_group (And Nothing (everything.All Ready ready)) (λ x y h. h.1.0.0))

pub stops_say : (r : Run) (end : World) → IsHonest r → IsRun r end → StopsSay r
stops_say r end honest run side i sent f served among carried = at.gives.1.sent sent (subst (λ (ss : List Sent). In sent ss) own among) f carried
  where
    at : Placed Coded r end side i
    at = placed Coded coded r end honest run side i served

    own : sents_until r side i ≡ at.sents
    own = own_at r end honest side i (placed_less Coded Sight r end side i (λ x y h. h.0.1) at)

pub resets_say : (r : Run) (end : World) → IsHonest r → IsRun r end → ResetsSay r
resets_say r end honest run side i sent f served among carried = (says.code, says.size)
  where
    at : Placed (everything.All Ready ready) r end side i
    at = placed (everything.All Ready ready) (everything.all Ready ready) r end honest run side i served

    own : sents_until r side i ≡ at.sents
    own = own_at r end honest side i (placed_less (everything.All Ready ready) Sight r end side i (λ x y h. h.1) at)

    says : IsResetOf (wrote (until r side i) f.id) f
    says = at.gives.0.1.0.says sent (subst (λ (ss : List Sent). In sent ss) own among) (reset_stream f) carried
