-- What is known of STOP_SENDING that waits at an end, behind any call at it, where it was known of
-- what waited and of what was sent, and is of what the call stops.
use Rattle.std.proofs.Common.{◌≡◌, ℕ, Bool, true, List}
use Rattle.std.specs.Option.{is_some}
use Rattle.quic_wire_core.specs.declared.stream_id.Side.TheVariants.{Server}
use Rattle.quic_wire.specs.Value.{StopSendingValue}
use Rattle.quic_machine.specs.declared.run.Call.{Call}
use Rattle.quic_machine.specs.declared.run.Answer.{Answer}
use Rattle.quic_machine.specs.End.{End, side_of}
use Rattle.quic_machine.specs.Receive.{Outcome}
use Rattle.quic_machine.specs.FrameCases.{begun, apart_leaves}
use Rattle.quic_headline.specs.Runs.{Packet, Intake, In}
use Rattle.quic_headline.specs.Observer.{Sent}
use Rattle.quic_headline.proofs.Packets.Delivered.{Arrivals, arrived, frames_at}
use Rattle.quic_headline.proofs.Packets.Named.{TakesOn, frames_settle, tracked_carried, NamesTaken}
use Rattle.quic_headline.proofs.Packets.Group.{PacketsHold, meets}
use Rattle.quic_headline.proofs.Packets.Strays.{acks_at}
use Rattle.quic_headline.proofs.Packets.Moved.{by_migrated}
use Rattle.quic_headline.proofs.Places.Coming.{by_coming}
use Rattle.quic_headline.proofs.Places.Groups.{Way, Calls}
use Rattle.quic_headline.proofs.Places.Parties.{Party, called, came_to}
use Rattle.quic_headline.proofs.Channel.Stops.{StopsOf, AllStop, StopsFor, from_stops, TrackedStops, call_stops, frame_stops, settles_stops}

module _ (B : Way) (packets : (x y : Party) → B x y → PacketsHold x y) (x y : Party) (call : Call) (a : Answer) (c : Calls B x y call a) (Q : StopSendingValue → Type 0) (A D : Type 0) where
  p : PacketsHold x y
  p = packets x y c.gives

  back : PacketsHold y x
  back = packets y x c.takes

  module _ (sent : (s : Sent) → In s x.sents → AllStop Q A D s.frames) where
    -- what is tracked was sent
    pub tracked_stops : TrackedStops Q A D x.end.tracking.packets
    tracked_stops k t among =
        let was = tracked_carried x.sents x.end.tracking.packets p.tracked k t among in
        from_stops Q A D t.carried was.sent.frames was.is (sent was.sent was.among)

    module _ (before : StopsOf Q A D x.end.waiting.frames) where
      arrivals_stop : (now : ℕ) (s : Sent) → In s y.sents → (here : Bool) → Arrivals x.end now s.number s.frames (frames_at here s.frames) (came_to x y) (λ (o : Outcome) (i : Intake). StopsOf Q A D o.end.waiting.frames)
      arrivals_stop now s among here = record {
        ignored = λ reason. before;
        noted = λ state reason. before;
        takes = λ words state new none urged mark. passed_stops;
        moves = λ q o same remote z opened j. by_migrated (λ (e : End). StopsOf Q A D e.waiting.frames) q o remote z (λ k. j) (λ k most. j);
        drains = λ words state new close is. passed_stops;
        refuses = λ words state new f is. passed_stops;
        exhausts = λ state. before;
      }
        where
          took : List Packet
          took = (came_to y x).took

          takes_on : TakesOn took x.sents (frames_at here s.frames) (λ (e : End). StopsOf Q A D e.waiting.frames)
          takes_on = record {
            settles = settles_stops Q A D took x.sents sent;
            names = λ b e i j. j;
            on_streams = λ f e i on j. frame_stops Q A D f e on j;
            message = λ m e j. j;
            apart = λ f e i apart j. apart_leaves (λ (g : End). StopsOf Q A D g.waiting.frames) f e apart (λ k. j) (λ k most. j);
          }

          passed_stops : StopsOf Q A D (arrived x.end now s.number (frames_at here s.frames)).end.waiting.frames
          passed_stops = frames_settle took x.sents (record { taken = p.taken; rising = p.gives.rising }) (frames_at here s.frames) (λ (e : End). StopsOf Q A D e.waiting.frames) takes_on (begun x.end now s.number)
              (acks_at (NamesTaken took) here s.frames (λ b i k named. back.named s b k among i named)) p.tracked before

      pub stops_behind : StopsFor Q x.end.streams call a → (is_some x.end.peer_params.min_ack_delay ≡ true → A) → (side_of x.end ≡ Server → D) → StopsOf Q A D (called x y.given call a).end.waiting.frames
      stops_behind stopped asks server = by_coming x y a c.joined c.served (meets y x back) (λ (e : End) (i : Intake). StopsOf Q A D e.waiting.frames) call c.answer (record {
        apart = λ apart. call_stops Q A D x.policy x.end y.given call a c.answer apart stopped asks server tracked_stops before;
        none = λ delivery is. before;
        comes = λ delivery is s among here. arrivals_stop delivery.now s among here;
      })
